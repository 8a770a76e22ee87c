-- What Settle tells, with each refusal as its number.
use Rattle.std.specs.Prelude.{ℕ, zero, suc, Some, None, Option, Result}
use Rattle.mtl.specs.Questions.{numbered}
use Rattle.mtl.specs.declared.ruling.Ruling.TheVariants.{Held as held, Broken as broken}
use Rattle.mtl.specs.declared.ruling.Settled.{Settled}
use Rattle.writer.specs.declared.fault.SettleFault.{SettleFault}
use Rattle.writer.specs.declared.fault.SettleFault.TheVariants.{NoSuchLine, NoSuchRow, BufferShort, Open, TooLong, OutputShort}

-- the number of each refusal
abbrev pub settle_number : SettleFault → ℕ
settle_number NoSuchLine = 21
settle_number NoSuchRow = 22
settle_number BufferShort = 23
settle_number Open = 24
settle_number TooLong = 25
settle_number OutputShort = 26

abbrev pub told : Result Settled SettleFault → Result Settled ℕ
told r = numbered settle_number r

-- the ruling that has a certificate, by the two cells of a line at a row
abbrev pub least_of : ℕ → ℕ → Option Settled
least_of zero zero = None
least_of zero (suc b) = Some (record { ruling = broken; size = suc b })
least_of (suc a) b = Some (record { ruling = held; size = suc a })
