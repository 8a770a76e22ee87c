use Rattle.std.proofs.Common.{◌≡◌, ◌-◌, ◌≤◌, ℕ, arith, false, eqb, length, IfOk, string_bytes, sym, ◌∙◌, subst}
use Rattle.std.proofs.lemmas.Result.{IfOk-from_err}
use Rattle.std.proofs.lemmas.Bool.{cond-false, ne_eqb}
use Rattle.std.specs.Option.{SomeIff}
use Rattle.mtl.specs.Settling.{lengths}
use Rattle.mtl.specs.Tables.{lines_of}
use Rattle.logs.specs.contracts.mask.MaskLogReadable.TheImpl.{ghosts as MaskRows}
use Rattle.listing.specs.Rulings.{settled_lines, ruling_lines}
use Rattle.listing.proofs.rows.ruling_lines.Goals as goal

above : (n : ℕ) → 1 ≤ n → n ≡ 0 → ⊥
above n h none = omega arith

pub returns-in_err-plan : goal.returns-in_err-plan
returns-in_err-plan c = IfOk-from_err _ _ c.from_residual-in_err-plan.ensures.0

pub returns-in_err-out : goal.returns-in_err-out
returns-in_err-out c = IfOk-from_err _ _ c.from_residual-in_err-out.ensures.0

pub returns : goal.returns
returns c =
    let T = lines_of c.args.table in
    let R = MaskRows.rows c.args.log in
    let opened = c.open-case.ensures in
    let count : c.len.result ≡ length T = c.len.ensures in
    let found = subst (λ o. SomeIff o (1 ≤ c.len.result) (c.len.result - 1)) c.in-Some.is c.checked_sub.ensures in
    let last : c.in-Some.last ≡ length T - 1 = found.1 ∙ (λ i. count i - 1) in
    let some : eqb (length T) 0 ≡ false = ne_eqb (length T) 0 (λ none. above (c.len.result) found.0 (count ∙ none)) in
    let sizes = c.deref_mut.ensures.len ∙ c.in_ok-sizes.ensures.len in
    let plan = c.deref_mut-2.ensures.len ∙ c.in_ok-plan.ensures.len in
    let out = c.deref_mut-3.ensures.len ∙ c.in_ok-out.ensures.len in
    let listed : settled_lines (lines_of c.open-case.result.table) (MaskRows.rows c.open-case.result.log) c.in-Some.last (lengths (length c.deref_mut.result.now) (length c.deref_mut-2.result.now) (length c.deref_mut-3.result.now)) ≡ ruling_lines T R =
    (λ i. settled_lines (lines_of (opened.table i)) (MaskRows.rows (opened.log i)) (last i) (lengths (sizes i) (plan i) (out i))) ∙ sym (cond-false _ _ _ some) in
    subst (λ t. IfOk c.settled_lines.result (λ s. string_bytes s ≡ t)) listed c.settled_lines.ensures
