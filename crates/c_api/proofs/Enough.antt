-- The calls' own buffers are long enough for every call.
use Rattle.std.proofs.Common.{◌≡◌, ℕ, ◌*◌, ◌/◌, ◌%◌, ◌≤◌, Bool, true, false, ◌&&◌, eqb, ltb, leb, List, [], ◌∷◌, length, Ok, Err, Result, refl, ap, subst, arith}
use Rattle.std.proofs.lemmas.Bool.{leb-true, le-leb, both_ways}
use Rattle.mtl.specs.declared.row.Row.{Row}
use Rattle.mtl.specs.declared.ruling.Settled.{Settled}
use Rattle.mtl.specs.Bytes.{nodes}
use Rattle.mtl.specs.Checking.{Verdict, refused, unless, checks, check_answer}
use Rattle.mtl.specs.Lines.{Rules}
use Rattle.mtl.specs.Questions.{first_no, answer}
use Rattle.mtl.specs.Settling.{settlement, any, proof_of, ruling_of, settle_answer}
use Rattle.checker.specs.Told.{early}
use Rattle.checker.proofs.Late.{late}
use Rattle.c_api.specs.Laws.{StackEnough, BuffersEnough, OutputEnough}
use Rattle.c_api.specs.Readings.{room_for}

-- 13 is no answer of Check where the stack is long enough for every length that passes
stacked : (whole few room : Bool) (v : Verdict) (k : ℕ) → (few ≡ true → room ≡ true) → early v ≡ false → unless (first_no ((11, whole) ∷ (12, few) ∷ (13, room) ∷ [])) v ≡ refused 13 k → ⊥
stacked false few room v k h l e = let z : ◌≡◌ {A = ℕ} 11 13 = cc in omega arith
stacked true false room v k h l e = let z : ◌≡◌ {A = ℕ} 12 13 = cc in omega arith
stacked true true false v k h l e = both_ways false refl (h refl)
stacked true true true v k h l e = both_ways (early v) l (ap early e)

pub stack_enough : StackEnough
unfolding check_answer
stack_enough T R cert k e =
    let size = length cert in
    stacked (ltb 0 size && eqb (size % 6) 0) (leb size 24576) (leb (size / 6) 4096) (checks T R [] (nodes cert) 0) k
    (λ few. let h : size ≤ 24576 = leb-true size 24576 few in le-leb (size / 6) 4096 (omega arith))
    (late T R [] (nodes cert) 0)
    e

-- Settle answers not 23, and 26 only where the size passes and is too large for the output
abbrev Possible : Type 0 → Result Settled ℕ → Type 0
Possible P (Ok s) = Unit {0}
Possible P (Err q) = (q ≡ 23 → ⊥) × (q ≡ 26 → P)

asked : (line row some small room : Bool) (s : Settled) → Possible ((small ≡ true) × (room ≡ false)) (answer (first_no ((21, line) ∷ (22, row) ∷ (23, true) ∷ (24, some) ∷ (25, small) ∷ (26, room) ∷ [])) s)
asked false row some small room s = (λ h. omega arith, λ h. absurd (omega arith))
asked true false some small room s = (λ h. omega arith, λ h. absurd (omega arith))
asked true true false small room s = (λ h. omega arith, λ h. absurd (omega arith))
asked true true true false room s = (λ h. omega arith, λ h. absurd (omega arith))
asked true true true true false s = (λ h. omega arith, λ h. (refl, refl))
asked true true true true true s = tt

abbrev size_of : Rules → List Row → ℕ → ℕ → ℕ
size_of T R n i = length (proof_of (settlement T R n i))

possible : (T : Rules) (R : List Row) (n i out : ℕ) → Possible ((leb (size_of T R n i) 4096 ≡ true) × (leb (6 * size_of T R n i) out ≡ false)) (settle_answer T R n i (room_for out))
unfolding settle_answer
possible T R n i out =
    let o = settlement T R n i in
    let size = size_of T R n i in
    asked (ltb n (length T)) (ltb i (length R)) (any o) (leb size 4096) (leb (6 * size) out) (record { ruling = ruling_of o; size = size })

pub buffers_enough : BuffersEnough
buffers_enough T R n i out e = (subst (Possible _) e (possible T R n i out)).0 refl

pub output_enough : OutputEnough
output_enough T R n i out long e =
    let size = size_of T R n i in
    let short = (subst (Possible _) e (possible T R n i out)).1 refl in
    let least : size ≤ 4096 = leb-true size 4096 short.0 in
    both_ways (leb (6 * size) out) short.1 (le-leb (6 * size) out (omega arith))
