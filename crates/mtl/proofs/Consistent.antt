use Rattle.std.proofs.Common.{◌≡◌, ℕ, suc, ◌+◌, ◌-◌, min, List, length, arith}
use native.Mathlib.Decide.{dec_lt}
use Rattle.mtl.specs.Certificates.{Certified}
use Rattle.mtl.specs.Claims.{Held, Broken}
use Rattle.mtl.specs.Continuations.{Continues}
use Rattle.mtl.specs.Lines.{Rules, WellFormed}
use Rattle.mtl.specs.Rows.{Row, row_at, NeverFalls, time_at}
use Rattle.mtl.proofs.Sound.{sound}

-- the log's rows, then a row at each next time
pub onward : List Row → ℕ → Row
onward R i = record { time = time_at R (min i (length R - 1)) + (i - (length R - 1)); marks = (row_at R i).marks }

pub onward_continues : (R : List Row) → NeverFalls R → Continues R (onward R)
unfolding onward
onward_continues R up =
    record {
      begins = λ i h.
          let e : min i (length R - 1) ≡ i = omega arith in
          let p : time_at R (min i (length R - 1)) + (i - (length R - 1)) ≡ time_at R i = rw e (omega arith) in
          λ k. record { time = p k; marks = (row_at R i).marks };
      rises = λ i. elim (dec_lt i (length R - 1)) [
        | yes lt ↦
            let m = up i (suc i) (omega arith) (omega arith) in
            let e : min i (length R - 1) ≡ i = omega arith in let f : min (suc i) (length R - 1) ≡ suc i = omega arith in
            rw (e, f) (omega arith)
        | no ge ↦
            let e : min i (length R - 1) ≡ length R - 1 = omega arith in let f : min (suc i) (length R - 1) ≡ length R - 1 = omega arith in
            rw (e, f) (omega arith)
      ];
      passes = λ b. (b + 1 + (length R - 1), omega arith);
    }

-- no line is both held and broken at a row
pub one_ruling : (T : Rules) → WellFormed T → (R : List Row) → NeverFalls R → (n i : ℕ) → Certified T R (Held n i) → Certified T R (Broken n i) → ⊥
one_ruling T wf R up n i y b =
    let c = onward_continues R up in
    sound T wf R (onward R) c b.1 (sound T wf R (onward R) c y.1)
