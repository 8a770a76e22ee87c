-- The ends of Settle over rows in memory, once the tables are filled: what is told, and what is left in the buffers.
use Rattle.std.proofs.Common.{◌≡◌, ℕ, ◌+◌, ◌*◌, ◌<◌, ◌≤◌, List, length, Some, None, Ok, Err, Option, Result, refl, arith}
use Rattle.mtl.specs.Buffers.{Fills}
use Rattle.mtl.specs.Claims.{claim, Held, Broken}
use Rattle.mtl.specs.Lines.{Rules}
use Rattle.mtl.specs.Settling.{Settlement, Lengths, lengths, settle_answer}
use Rattle.mtl.specs.Tables.{lines_of}
use Rattle.mtl.specs.declared.row.Row.{Row}
use Rattle.mtl.specs.declared.ruling.Settled.{Settled}
use Rattle.mtl.specs.declared.table.Table.{Table}
use Rattle.writer.specs.Choice.{cell_in}
use Rattle.writer.specs.Tables.{Given, size_at, code_at, filled}
use Rattle.writer.specs.Told.{least_of}
use Rattle.writer.specs.Written.{Planned, Short, cert_bytes, put_at}
use Rattle.writer.specs.declared.rows.Rows.{Rows}
use Rattle.writer.proofs.Asking.{Found, told_open, told_long, told_room, told_settled, bytes_are, bytes_long}
use Rattle.writer.proofs.Found.{given_of}
use Rattle.writer.proofs.Left.{left_filled, left_written}
use Rattle.writer.proofs.Sizing.{none_found, some_found, planned, short}

module _ (t : Table) (rows : Rows) (n i : ℕ) (there : (n < length (lines_of t)) × (i < length rows.all.now)) (sizes sizes' plan plan' out : List ℕ)
    (room : (8192 ≤ length sizes) × (8192 ≤ length plan)) (cells : sizes' ≡ filled (size_at (lines_of t) rows.all.now) 8192 sizes)
    (codes : plan' ≡ filled (code_at (lines_of t) rows.all.now) 8192 plan) where
  abbrev T : Rules
  T = lines_of t

  abbrev R : List Row
  R = rows.all.now

  abbrev ls : Lengths
  ls = lengths (length sizes) (length plan) (length out)

  abbrev least : Option Settled
  least = least_of (cell_in sizes' (Held n i)) (cell_in sizes' (Broken n i))

  abbrev Ended : Result Settled ℕ → List ℕ → Type 0
  Ended a out' = (a ≡ settle_answer T R n i ls) × Fills T R n i a sizes sizes' plan plan' out out'

  given : Given T R
  given = given_of t R rows.few rows.rising

  pub is_planned : Planned T R plan'
  is_planned = planned T R given plan plan' codes

  pub ends_open : least ≡ None → Ended (Err 24) out
  ends_open e = (
    told_open T R n i ls there.0 there.1 room.0 room.1 (none_found T R given n i there.0 sizes sizes' cells e),
    left_filled T R n i sizes sizes' plan plan' cells codes 24 out refl,
  )

  module _ (s : Settled) (is : least ≡ Some s) where
    found : (d : Settlement) × Found T R n i s d
    found = some_found T R given n i there.0 sizes sizes' cells s is

    pub ends_long : 4096 < s.size → Ended (Err 25) out
    ends_long h = (told_long T R n i ls there.0 there.1 room.0 room.1 s found.0 found.1 h, left_filled T R n i sizes sizes' plan plan' cells codes 25 out refl)

    module _ (h : s.size ≤ 4096) where
      pub ends_narrow : length out < 6 * s.size → Ended (Err 26) out
      ends_narrow k = (told_room T R n i ls there.0 there.1 room.0 room.1 s found.0 found.1 h k, left_filled T R n i sizes sizes' plan plan' cells codes 26 out refl)

      pub is_short : Short T R (claim n i s.ruling)
      is_short = short T R given n i there.0 sizes sizes' cells s is there.1 h

      long : length (cert_bytes T R (claim n i s.ruling)) ≡ 6 * s.size
      long = bytes_long T R n i ls there.0 there.1 room.0 room.1 s found.0 found.1 h

      module _ (k : 6 * s.size ≤ length out) where
        pub has_room : 0 + length (cert_bytes T R (claim n i s.ruling)) ≤ length out
        has_room = omega (arith, long)

        pub ends_written : (out' : List ℕ) → out' ≡ put_at out 0 (cert_bytes T R (claim n i s.ruling)) → Ended (Ok s) out'
        ends_written out' e = (
          told_settled T R n i ls there.0 there.1 room.0 room.1 s found.0 found.1 h k,
          left_written T R n i sizes sizes' plan plan' cells codes s out out' _ (bytes_are T R n i ls there.0 there.1 room.0 room.1 s found.0 found.1 h) long e,
        )
