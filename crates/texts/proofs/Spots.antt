-- The fields of a line, one after another, with their places.
use Rattle.std.proofs.Common.{◌≡◌, ℕ, ◌+◌, ◌<◌, List, [], ◌∷◌, length, get_or, drop, ap, ◌∙◌}
use Rattle.std.proofs.lemmas.List.{drop_more}
use Rattle.fields.specs.Tokens.{said_by, first_of, rest_of, field_after, said}
use Rattle.fields.specs.Lexing.{left, Gave}
use Rattle.fields.specs.declared.token.Lexer.{Lexer}
use Rattle.fields.specs.declared.token.Placed.{Placed}
use Rattle.texts.specs.Forms.{spot_of, spot_at}

-- the lexer stands before field k of the line n, which has the fields fs
pub record Before (fs : List (List ℕ)) (n k : ℕ) (l : Lexer) : Type 0 where
  pub rest : left l ≡ drop k fs
  pub line : l.line ≡ n
  pub field : l.field ≡ k + 1

-- at the line's beginning
pub begun : (fs : List (List ℕ)) (n : ℕ) (l : Lexer) → left l ≡ fs → (l.line ≡ n) × (l.field ≡ 1) → Before fs n 0 l
begun fs n l rest place = record { rest = rest; line = place.0; field = place.1 }

-- field k is given out
pub given : (fs : List (List ℕ)) (n k : ℕ) (l m : Lexer) (p : Placed) → k < length fs → Before fs n k l → Gave l m (said p.token) → (p.line ≡ l.line) × (p.field ≡ l.field) →
    (spot_of p ≡ spot_at n fs k) × Before fs n (k + 1) m
given fs n k l m p h b g place =
    let here : left l ≡ get_or fs k [] ∷ drop (k + 1) fs = b.rest ∙ drop_more fs k [] h in
    let token : said p.token ≡ said_by (get_or fs k []) = g.token ∙ ap first_of here in
    let line : p.line ≡ n = place.0 ∙ b.line in
    let field : p.field ≡ k + 1 = place.1 ∙ b.field in
    (cc, record { rest = g.rest ∙ ap rest_of here; line = g.line ∙ b.line; field = g.field ∙ ap (λ r. field_after r l.field) here ∙ ap (λ x. x + 1) b.field })
