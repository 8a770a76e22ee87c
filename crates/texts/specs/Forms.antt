-- The fields of a rules line, each in its form.
use Rattle.std.specs.Prelude.{◌≡◌, ℕ, ◌+◌, Bool, true, false, cond, List, [], ◌∷◌, Some, None, Ok, Err, Option, Result, ◌==◌, slice_index_or}
use Rattle.mtl.specs.Kinds.{kind_at, has_right, has_window}
use Rattle.mtl.specs.declared.line.Kind.{Kind}
use Rattle.fields.specs.Bytes.{letter}
use Rattle.fields.specs.Numbers.{number_at}
use Rattle.fields.specs.Tokens.{Said, word, dash, line_end, said, said_by}
use Rattle.texts.specs.declared.fault.TextFault.{TextFault}
use Rattle.texts.specs.declared.fault.TextFault.TheVariants.{WrongForm}
use Rattle.texts.specs.declared.entry.Entry.{Entry}
use Rattle.texts.specs.declared.entry.RuleFields.{RuleFields}
use Rattle.fields.specs.declared.token.Placed.{Placed}

-- a number where the field is used, and `-` where it is not
abbrev pub used_in : Bool → Said → Option ℕ
used_in true (word w) = number_at w
used_in true dash = None
used_in true line_end = None
used_in false (word w) = None
used_in false dash = Some 0
used_in false line_end = None

abbrev pub some_number : Option ℕ → Option (Option ℕ)
some_number None = None
some_number (Some n) = Some (Some n)

-- the end of a window where the field is used, a number or `-` for none; and `-` where it is not
abbrev pub end_in : Bool → Said → Option (Option ℕ)
end_in true (word w) = some_number (number_at w)
end_in true dash = Some None
end_in true line_end = None
end_in false (word w) = None
end_in false dash = Some None
end_in false line_end = None

abbrev pub same_number : ℕ → Option ℕ → Option ℕ
same_number n None = None
same_number n (Some m) = cond (m == n) (Some m) None

-- the next line's number
abbrev pub next_in : ℕ → Said → Option ℕ
next_in n t = same_number n (used_in true t)

abbrev pub letter_at : List ℕ → Option ℕ
letter_at [] = None
letter_at (b ∷ []) = cond (letter b) (Some b) None
letter_at (b ∷ c ∷ cs) = None

-- one letter a to z
abbrev pub letter_in : Said → Option ℕ
letter_in (word w) = letter_at w
letter_in dash = None
letter_in line_end = None

-- a field with its line and number
pub record Spot : Type 0 where
  pub token : Said
  pub line : ℕ
  pub field : ℕ

-- the field w, as the number `field` of its line
abbrev pub spot : ℕ → ℕ → List ℕ → Spot
spot line field w = record { token = said_by w; line = line; field = field }

-- a token as the lexer places it
abbrev pub spot_of : Placed → Spot
spot_of p = record { token = said p.token; line = p.line; field = p.field }

-- the fault of a field that is not in form
abbrev pub fault_at : Spot → TextFault
fault_at p = WrongForm p.line p.field

-- the value of a field, or the fault that tells where it stands
abbrev pub or_fault : {X : Type 0} → Spot → Option X → Result X TextFault
or_fault p None = Err (fault_at p)
or_fault p (Some x) = Ok x

abbrev pub in_form : {X : Type 0} → (Said → Option X) → Spot → Result X TextFault
in_form read p = or_fault p (read p.token)

-- the first fault ends the reading of a line
abbrev pub and_then : {X Y : Type 0} → Result X TextFault → (X → Result Y TextFault) → Result Y TextFault
and_then (Ok x) f = f x
and_then (Err e) f = Err e

-- the fields that the kind decides; a letter that is no kind's leaves them unexamined
abbrev pub rest_by : ℕ → Option Kind → Spot → Spot → Spot → Spot → Result Entry TextFault
rest_by c None from to left right = Ok (record { letter = c; fields = record { from = 0; to = None; left = 0; right = 0 } })
rest_by c (Some k) from to left right =
    and_then (in_form (used_in (has_window k)) from) (λ f.
    and_then (in_form (end_in (has_window k)) to) (λ t.
    and_then (in_form (used_in true) left) (λ l.
    and_then (in_form (used_in (has_right k)) right) (λ r.
    Ok (record { letter = c; fields = record { from = f; to = t; left = l; right = r } })))))

-- the six fields from left to right, where n is the next line's number
abbrev pub formed_by : ℕ → Spot → Spot → Spot → Spot → Spot → Spot → Result Entry TextFault
formed_by n number kind from to left right =
    and_then (in_form (next_in n) number) (λ _.
    and_then (in_form letter_in kind) (λ c.
    rest_by c (kind_at c) from to left right))

-- field k of the line n, counted from 0 here
abbrev pub spot_at : ℕ → List (List ℕ) → ℕ → Spot
spot_at n fs k = spot n (k + 1) (slice_index_or fs k [])

-- what a line says, by its six fields
abbrev pub formed : ℕ → ℕ → List (List ℕ) → Result Entry TextFault
formed line n fs = formed_by n (spot_at line fs 0) (spot_at line fs 1) (spot_at line fs 2) (spot_at line fs 3) (spot_at line fs 4) (spot_at line fs 5)

-- the six fields as they were given out
pub record Six (f : RuleFields) (n : ℕ) (fs : List (List ℕ)) : Type 0 where
  pub first : spot_of f.line ≡ spot_at n fs 0
  pub second : spot_of f.kind ≡ spot_at n fs 1
  pub third : spot_of f.from ≡ spot_at n fs 2
  pub fourth : spot_of f.to ≡ spot_at n fs 3
  pub fifth : spot_of f.left ≡ spot_at n fs 4
  pub sixth : spot_of f.right ≡ spot_at n fs 5
