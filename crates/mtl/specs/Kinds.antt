-- The eight kinds of line: their letters, and which fields each one uses.
use Rattle.std.specs.Prelude.{ℕ, Bool, true, false, cond, Some, None, Option, ◌==◌}
use Rattle.mtl.specs.declared.line.Kind.{Kind}
use Rattle.mtl.specs.declared.line.Kind.TheVariants.{Mark, Not, And, Or, Previous, Next, Since, Until}

-- the kind that a letter stands for
abbrev pub kind_at : ℕ → Option Kind
kind_at c =
    cond (c == 109) (Some Mark) (
    cond (c == 110) (Some Not) (
    cond (c == 97) (Some And) (
    cond (c == 111) (Some Or) (
    cond (c == 112) (Some Previous) (
    cond (c == 120) (Some Next) (
    cond (c == 115) (Some Since) (
    cond (c == 117) (Some Until) None)))))))

-- left is a mark's number, and not a line's
abbrev pub is_mark : Kind → Bool
is_mark Mark = true
is_mark Not = false
is_mark And = false
is_mark Or = false
is_mark Previous = false
is_mark Next = false
is_mark Since = false
is_mark Until = false

-- right is a line's number
abbrev pub has_right : Kind → Bool
has_right Mark = false
has_right Not = false
has_right And = true
has_right Or = true
has_right Previous = false
has_right Next = false
has_right Since = true
has_right Until = true

abbrev pub has_window : Kind → Bool
has_window Mark = false
has_window Not = false
has_window And = false
has_window Or = false
has_window Previous = true
has_window Next = true
has_window Since = true
has_window Until = true

abbrev pub is_until : Kind → Bool
is_until Mark = false
is_until Not = false
is_until And = false
is_until Or = false
is_until Previous = false
is_until Next = false
is_until Since = false
is_until Until = true
