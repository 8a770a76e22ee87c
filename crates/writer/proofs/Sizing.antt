-- What the filled tables tell of a line at a row.
use Rattle.std.proofs.Common.{◌≡◌, ℕ, zero, suc, ◌<◌, ◌≤◌, List, length, Some, None, Err, Option, sym, refl, ◌∙◌, ap₂, arith}
use Rattle.std.specs.Option.{ok_or}
use Rattle.writer.specs.declared.fault.SettleFault.{SettleFault}
use Rattle.mtl.specs.Claims.{claim, Held, Broken}
use Rattle.mtl.specs.Settling.{Settlement, settlement}
use Rattle.mtl.specs.declared.ruling.Settled.{Settled}
use Rattle.writer.specs.Written.{Planned, Short}
use Rattle.mtl.specs.Lines.{Rules}
use Rattle.mtl.specs.declared.row.Row.{Row}
use Rattle.mtl.specs.declared.ruling.Claim.{Claim}
use Rattle.writer.specs.Told.{least_of}
use Rattle.writer.specs.Tables.{cell_of, size_at, code_at, filled, Given}
use Rattle.writer.specs.Choice.{cell_in}
use Rattle.writer.proofs.Right.{read_same, read_code}
use Rattle.writer.proofs.Asking.{Found, open_is, found_is, short_is}

-- what an exit of `ok_or` tells
pub open_err : (o : Option Settled) (e f : SettleFault) → ok_or o e ≡ Err f → (o ≡ None) × (f ≡ e)
open_err None e f h = (refl, sym (cc))
open_err (Some s) e f h = absurd (cc)

least_some : (a b : ℕ) (s : Settled) → least_of a b ≡ Some s → 1 ≤ s.size
least_some zero zero s e = absurd (cc)
least_some zero (suc b) s e = let z : suc b ≡ s.size = cc in omega arith
least_some (suc a) b s e = let z : suc a ≡ s.size = cc in omega arith

module _ (T : Rules) (R : List Row) (g : Given T R) (n i : ℕ) (line : n < length T) (sizes sizes' : List ℕ) (e : sizes' ≡ filled (size_at T R) 8192 sizes) where
  read : (k : Claim) → k.line ≡ n → cell_in sizes' k ≡ cell_of T R k
  read k l = read_same T g.ordered R g.few_rows 32 8192 sizes' sizes e (omega arith) k (omega (arith, line, g.few_lines))

  least_is : least_of (cell_in sizes' (Held n i)) (cell_in sizes' (Broken n i)) ≡ least_of (cell_of T R (Held n i)) (cell_of T R (Broken n i))
  least_is = ap₂ least_of (read (Held n i) refl) (read (Broken n i) refl)

  pub none_found : least_of (cell_in sizes' (Held n i)) (cell_in sizes' (Broken n i)) ≡ None → settlement T R n i ≡ None
  none_found z = open_is T R n i (sym least_is ∙ z) g.ordered

  module _ (s : Settled) (is : least_of (cell_in sizes' (Held n i)) (cell_in sizes' (Broken n i)) ≡ Some s) where
    pub some_found : (d : Settlement) × Found T R n i s d
    some_found = found_is T R n i s (sym least_is ∙ is) g.ordered

    pub short : i < length R → s.size ≤ 4096 → Short T R (claim n i s.ruling)
    short row k = let d = some_found in short_is T R n i (record { sizes = 8192; plan = 8192; out = 0 }) line row (omega arith) (omega arith) s d.0 d.1 k (least_some _ _ s is)

pub planned : (T : Rules) (R : List Row) → Given T R → (plan plan' : List ℕ) → plan' ≡ filled (code_at T R) 8192 plan → Planned T R plan'
planned T R g plan plan' p = read_code T g.ordered R plan' plan p
