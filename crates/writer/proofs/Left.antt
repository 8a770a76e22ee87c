-- What Settle leaves in its buffers.
use Rattle.std.proofs.Common.{◌≡◌, ℕ, ◌+◌, ◌*◌, true, false, cond, List, ◌++◌, map, length, take, drop, Ok, Err, Result, sym, refl, ap, ◌∙◌, subst, arith}
use Rattle.std.proofs.lemmas.List.{take_at, drop_at}
use Rattle.mtl.specs.Laws.{SettleSays}
use Rattle.mtl.proofs.Settles.{settle_says}
use Rattle.mtl.specs.Settling.{Lengths, settle_answer, settle_writes, wrote}
use Rattle.mtl.specs.Buffers.{cells, early, Fills}
use Rattle.mtl.specs.declared.ruling.Settled.{Settled}
use Rattle.mtl.specs.Lines.{Rules, WellFormed}
use Rattle.mtl.specs.Ranges.{run}
use Rattle.mtl.specs.declared.row.Row.{Row}
use Rattle.writer.specs.Written.{put_at}
use Rattle.writer.specs.Tables.{size_at, code_at, filled}
use Rattle.writer.proofs.Stored.{length_run}
use Rattle.mtl.specs.Rows.{NeverFalls}

kept : (f : ℕ → ℕ) (old : List ℕ) → drop 8192 (filled f 8192 old) ≡ drop 8192 old
unfolding filled
kept f old = drop_at (map f (run 0 8192)) (drop 8192 old) 8192 (length_run f 0 8192)

whole : (T : Rules) (R : List Row) (old : List ℕ) → filled (size_at T R) 8192 old ≡ cells T R ++ drop 8192 old
unfolding filled size_at cells
whole T R old = refl

-- an early refusal leaves all as it was
pub left_alone : (T : Rules) (R : List Row) (n i q : ℕ) (sizes plan out : List ℕ) → early (Err q) ≡ true → Fills T R n i (Err q) sizes sizes plan plan out out
unfolding settle_writes
left_alone T R n i q sizes plan out e = record {
  sizes_are = ap (λ b. cond b sizes (cells T R ++ drop 8192 sizes)) (sym e);
  plan_kept = refl;
  written = refl;
  out_kept = refl;
}

module _ (T : Rules) (R : List Row) (n i : ℕ) (sizes sizes' plan plan' : List ℕ) (s : sizes' ≡ filled (size_at T R) 8192 sizes) (p : plan' ≡ filled (code_at T R) 8192 plan) where
  -- a later one leaves the tables filled
  pub left_filled : (q : ℕ) (out : List ℕ) → early (Err q) ≡ false → Fills T R n i (Err q) sizes sizes' plan plan' out out
  unfolding settle_writes
  left_filled q out e = record {
    sizes_are = s ∙ whole T R sizes ∙ ap (λ b. cond b sizes (cells T R ++ drop 8192 sizes)) (sym e);
    plan_kept = subst (λ b. drop (cond b 0 8192) plan' ≡ drop (cond b 0 8192) plan) (sym e) (ap (drop 8192) p ∙ kept (code_at T R) plan);
    written = refl;
    out_kept = refl;
  }

  -- and so does an acceptance, with the certificate at the output's front
  pub left_written : (a : Settled) (out out' bs : List ℕ) → settle_writes T R n i (Ok a) ≡ bs → length bs ≡ 6 * a.size → out' ≡ put_at out 0 bs → Fills T R n i (Ok a) sizes sizes' plan plan' out out'
  unfolding put_at
  left_written a out out' bs w l e =
      let front : take (6 * a.size) out' ≡ bs = ap (take (6 * a.size)) e ∙ take_at bs (drop (0 + length bs) out) (6 * a.size) l in
      let z : 0 + length bs ≡ length bs = omega arith in
      let long : length (take (6 * a.size) out') ≡ length bs = ap length front in
      record {
        sizes_are = s ∙ whole T R sizes;
        plan_kept = ap (drop 8192) p ∙ kept (code_at T R) plan;
        written = front ∙ sym w;
        out_kept =
            ap (λ k. drop k out') long ∙ ap (drop (length bs)) e ∙ drop_at bs (drop (0 + length bs) out) (length bs) refl ∙ ap (λ k. drop k out) z ∙
            ap (λ k. drop k out) (sym long);
      }

-- and in the subject's words
pub promised : (T : Rules) → WellFormed T → (R : List Row) → NeverFalls R → (n i : ℕ) (ls : Lengths) (a : Result Settled ℕ) (sizes sizes' plan plan' out out' : List ℕ) →
    a ≡ settle_answer T R n i ls → Fills T R n i a sizes sizes' plan plan' out out' → SettleSays T R n i ls a (wrote a out')
promised T wf R up n i ls a sizes sizes' plan plan' out out' e f = settle_says T wf R up n i ls a (wrote a out') (sym e) f.written

-- the three promises of an early refusal
pub refused : (T : Rules) → WellFormed T → (R : List Row) → NeverFalls R → (n i q : ℕ) (ls : Lengths) (sizes plan out : List ℕ) → early (Err q) ≡ true → Err q ≡ settle_answer T R n i ls →
    (Err q ≡ settle_answer T R n i ls) × Fills T R n i (Err q) sizes sizes plan plan out out × SettleSays T R n i ls (Err q) (wrote (Err q) out)
refused T wf R up n i q ls sizes plan out e a =
    let f = left_alone T R n i q sizes plan out e in
    (a, f, promised T wf R up n i ls (Err q) sizes sizes plan plan out out a f)
