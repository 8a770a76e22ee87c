-- What is accepted lies within the book.
use Rattle.std.proofs.Common.{◌≡◌, ℕ, ◌<◌, ◌≤◌, List, length, Ok, sym, arith}
use Rattle.mtl.specs.declared.row.Row.{Row}
use Rattle.mtl.specs.declared.ruling.Claim.{Claim}
use Rattle.mtl.specs.declared.table.Table.{Table}
use Rattle.mtl.specs.declared.ruling.Settled.{Settled}
use Rattle.mtl.specs.Rows.{NeverFalls}
use Rattle.mtl.specs.Tables.{lines_of}
use Rattle.mtl.specs.Settling.{Lengths, settle_answer}
use Rattle.mtl.specs.Checking.{accepted, check_answer}
use Rattle.mtl.proofs.Exact.{accepted_certificate}
use Rattle.mtl.proofs.Settles.{cert_within, ruled}

pub claim_within :
    (t : Table) (R : List Row) (cert : List ℕ) (k most : ℕ) (c : Claim) → length R ≤ most → most ≤ 128 → accepted c ≡ check_answer (lines_of t) R cert k →
    (c.line < 32) × (c.row < 128)
claim_within t R cert k most c r m e =
    let h = cert_within (accepted_certificate (lines_of t) R c cert k (sym e)).2 in
    let f = t.few in
    let a = h.0 in
    let b = h.1 in
    (omega arith, omega arith)

pub settled_within :
    (t : Table) (R : List Row) (n i : ℕ) (ls : Lengths) (most : ℕ) (s : Settled) → NeverFalls R → length R ≤ most → most ≤ 128 →
    Ok s ≡ settle_answer (lines_of t) R n i ls → (n < 32) × (i < 128)
settled_within t R n i ls most s up r m e =
    let h = cert_within (ruled (lines_of t) R t.formed up n i s ls (sym e)).cert in
    let f = t.few in
    let a = h.0 in
    let b = h.1 in
    (omega arith, omega arith)
