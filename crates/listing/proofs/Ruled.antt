-- Settle's refusals at a row of the log, with buffers that are large enough.
use Rattle.std.proofs.Common.{◌≡◌, ◌-◌, ◌*◌, ◌≤◌, Bool, true, false, ltb, leb, [], ◌∷◌, length, refl, inl, inr, arith}
use Rattle.std.proofs.lemmas.Bool.{both_ways, lt-ltb, le-leb, leb-true}
use Rattle.mtl.specs.declared.ruling.Settled.{Settled}
use Rattle.mtl.specs.Questions.{first_no, answer}
use Rattle.mtl.specs.Settling.{settlement, any, proof_of, ruling_of, settle_answer}
use Rattle.listing.specs.Laws.{RuledOr, EveryRow}

-- line and row exist, and the output has room wherever the size is small enough
asked : (line row some small room : Bool) (s : Settled) → line ≡ true → row ≡ true → (small ≡ true → (s.size ≤ 4096) × (room ≡ true)) → RuledOr (answer (first_no ((21, line) ∷ (22, row) ∷ (23, true) ∷ (24, some) ∷ (25, small) ∷ (26, room) ∷ [])) s)
asked false row some small room s l r h = absurd (both_ways false refl l)
asked true false some small room s l r h = absurd (both_ways false refl r)
asked true true false small room s l r h = inl refl
asked true true true false room s l r h = inr refl
asked true true true true false s l r h = absurd (both_ways false refl (h refl).1)
asked true true true true true s l r h = (h refl).0

pub every_row : EveryRow
unfolding settle_answer
every_row T R i some in-log =
    let n = length T - 1 in
    let o = settlement T R n i in
    let size = length (proof_of o) in
    asked (ltb n (length T)) (ltb i (length R)) (any o) (leb size 4096) (leb (6 * size) 24576) (record { ruling = ruling_of o; size = size })
    (lt-ltb n (length T) (omega arith))
    (lt-ltb i (length R) in-log)
    (λ small. let least : size ≤ 4096 = leb-true size 4096 small in (least, le-leb (6 * size) 24576 (omega arith)))
