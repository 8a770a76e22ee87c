-- Buffers that Settle leaves, and leaves again.
use Rattle.std.proofs.Common.{◌≡◌, ℕ, Bool, true, false, cond, List, ◌++◌, length, drop, Result, sym, ap, ◌∙◌}
use Rattle.std.proofs.lemmas.List.{drop_at}
use Rattle.mtl.specs.Buffers.{cells, early, Fills}
use Rattle.mtl.specs.Lines.{Rules}
use Rattle.mtl.specs.Settling.{wrote}
use Rattle.mtl.specs.declared.row.Row.{Row}
use Rattle.mtl.specs.declared.ruling.Settled.{Settled}
use Rattle.writer.proofs.Stored.{length_run}

-- cells that are put over the cells leave what one putting leaves
again : (T : Rules) (R : List Row) (b : Bool) (s s₁ s₂ : List ℕ) → s₁ ≡ cond b s (cells T R ++ drop 8192 s) → s₂ ≡ cond b s₁ (cells T R ++ drop 8192 s₁) → s₂ ≡ cond b s (cells T R ++ drop 8192 s)
unfolding cells
again T R true s s₁ s₂ e f = f ∙ e
again T R false s s₁ s₂ e f = f ∙ ap (λ xs. cells T R ++ xs) (ap (drop 8192) e ∙ drop_at (cells T R) (drop 8192 s) 8192 (length_run _ 0 8192))

-- two calls with one answer leave what one call leaves
pub refilled : (T : Rules) (R : List Row) (n i : ℕ) (a : Result Settled ℕ) (s s₁ s₂ p p₁ p₂ o o₁ o₂ : List ℕ) → Fills T R n i a s s₁ p p₁ o o₁ → Fills T R n i a s₁ s₂ p₁ p₂ o₁ o₂ → Fills T R n i a s s₂ p p₂ o o₂
refilled T R n i a s s₁ s₂ p p₁ p₂ o o₁ o₂ f g =
    let same : wrote a o₂ ≡ wrote a o₁ = g.written ∙ sym f.written in
    record {
      sizes_are = again T R (early a) s s₁ s₂ f.sizes_are g.sizes_are;
      plan_kept = g.plan_kept ∙ f.plan_kept;
      written = g.written;
      out_kept = g.out_kept ∙ ap (λ xs. drop (length xs) o₁) same ∙ f.out_kept ∙ ap (λ xs. drop (length xs) o) (sym same);
    }
