-- What a cell of the plan stands for.
use Rattle.std.specs.Prelude.{◌≡◌, ℕ, ◌+◌, ◌-◌, ◌*◌, ◌<◌, ◌≤◌, List, ◌∷◌, ◌++◌, Some, None, Option}
use Rattle.mtl.specs.Claims.{each}
use Rattle.mtl.specs.Forms.{Form, Step, by}
use Rattle.mtl.specs.Ranges.{run}
use Rattle.mtl.specs.declared.line.Line.{Line}
use Rattle.mtl.specs.declared.line.Line.TheVariants.{Mark, Not, And, Or, Previous, Next, Since, Until}
use Rattle.mtl.specs.declared.ruling.Claim.{Claim}
use Rattle.mtl.specs.declared.ruling.Ruling.{Ruling}
pub use Rattle.writer.specs.declared.way.Run.{Run}
pub use Rattle.writer.specs.declared.way.Way.{Way}

-- the claims of a run
abbrev pub claims_of : Ruling → Run → List Claim
claims_of r x = each r x.line (run x.from (x.to - x.from))

-- the children of a way, all ruled r
abbrev pub kids_of : Ruling → Way → List Claim
kids_of r w = claims_of r w.first ++ claims_of r w.rest

-- a way by this rule, with these children
pub record Makes (w : Way) (rule : ℕ) (kids : Ruling → List Claim) : Type 0 where
  pub ruled : w.rule ≡ rule
  pub kids_are : (r : Ruling) → kids_of r w ≡ kids r

-- among these forms, a code names the step of a rule for this ruling, by its number and j
pub data Names (r : Ruling) (code : ℕ) (s : Step) : List Form → Type 0 where
  by_this :
      {f : Form} {fs : List Form} (j : ℕ) → f.ruling ≡ r → j < 128 → f.first ≤ j → j < f.first + f.count → code ≡ 256 * f.number + j →
      s ≡ by f.number (f.kids j) → Names r code s (f ∷ fs)
  by_later : {f : Form} {fs : List Form} → Names r code s fs → Names r code s (f ∷ fs)

-- a way takes the step that the code names
abbrev pub Takes : Way → Ruling → ℕ → List Form → Type 0
Takes w r code fs = (s : Step) → Names r code s fs → s ≡ by w.rule (kids_of r w)

-- the operand of a not
abbrev pub neg_of : Line → Option ℕ
neg_of (Mark m) = None
neg_of (Not l) = Some l
neg_of (And l r) = None
neg_of (Or l r) = None
neg_of (Previous w l) = None
neg_of (Next w l) = None
neg_of (Since w l r) = None
neg_of (Until w l r) = None
