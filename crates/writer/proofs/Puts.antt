-- One write after another.
use Rattle.std.proofs.Common.{◌≡◌, ℕ, ◌+◌, ◌≤◌, List, [], ◌++◌, length, take, drop, sym, ap, ◌∙◌, subst, append_assoc, add-zero, add_assoc, arith, length-append, length-drop, take-append-drop, length-take-le, drop-drop, take_at}
use lib.Seq.{drop-append-add}
use Rattle.writer.specs.Written.{put_at, Wrote}

pub length_put_at : (o : List ℕ) (at : ℕ) (xs : List ℕ) → at + length xs ≤ length o → length (put_at o at xs) ≡ length o
unfolding put_at
length_put_at o at xs h =
    let a : at ≤ length o = omega arith in
    simp (length-append, length-drop) (omega (arith, length-take-le at o a))

pub put_put : (o : List ℕ) (at : ℕ) (xs ys : List ℕ) → at + length xs + length ys ≤ length o → put_at (put_at o at xs) (at + length xs) ys ≡ put_at o at (xs ++ ys)
unfolding put_at
put_put o at xs ys h =
    let a : at ≤ length o = omega arith in
    let front : length (take at o ++ xs) ≡ at + length xs = length-append (take at o) xs ∙ ap (λ n. n + length xs) (length-take-le at o a) in
    let whole : take at o ++ (xs ++ drop (at + length xs) o) ≡ (take at o ++ xs) ++ drop (at + length xs) o = sym (append_assoc (take at o) xs _) in
    let t : take (at + length xs) (take at o ++ (xs ++ drop (at + length xs) o)) ≡ take at o ++ xs =
    ap (take (at + length xs)) whole ∙ take_at (take at o ++ xs) _ _ front in
    let d : drop (at + length xs + length ys) (take at o ++ (xs ++ drop (at + length xs) o)) ≡ drop (at + length (xs ++ ys)) o =
    ap (drop (at + length xs + length ys)) whole
    ∙ ap (λ n. drop (n + length ys) ((take at o ++ xs) ++ drop (at + length xs) o)) (sym front)
    ∙ drop-append-add (take at o ++ xs) _ (length ys)
    ∙ drop-drop (length ys) (at + length xs) o
    ∙ ap (λ n. drop n o) (add_assoc at (length xs) (length ys) ∙ ap (λ n. at + n) (sym (length-append xs ys))) in
    (λ i. t i ++ (ys ++ d i))
    ∙ append_assoc (take at o) xs _
    ∙ ap (λ l. take at o ++ l) (sym (append_assoc xs ys _))

pub put_none : (o : List ℕ) (at : ℕ) → put_at o at [] ≡ o
unfolding put_at
put_none o at = ap (λ n. take at o ++ drop n o) (add-zero at) ∙ take-append-drop at o

pub wrote_none : (o : List ℕ) (at : ℕ) → Wrote o o at at []
wrote_none o at = record { upto = sym (add-zero at); holds = sym (put_none o at) }

pub wrote_more : {o p q : List ℕ} {at mid end : ℕ} {xs ys : List ℕ} → Wrote o p at mid xs → Wrote p q mid end ys → at + length xs + length ys ≤ length o → Wrote o q at end (xs ++ ys)
wrote_more {o} {p} {q} {at} {mid} {end} {xs} {ys} f g h = record {
  upto = omega (arith, f.upto, g.upto, length-append xs ys);
  holds = g.holds ∙ (λ i. put_at (f.holds i) (f.upto i) ys) ∙ put_put o at xs ys h;
}

pub wrote_length : {o p : List ℕ} {at end : ℕ} {xs : List ℕ} → Wrote o p at end xs → at + length xs ≤ length o → length p ≡ length o
wrote_length {o} {p} {at} {end} {xs} f h = ap length f.holds ∙ length_put_at o at xs h

-- a whole that is written in two parts
module _ (whole xs ys : List ℕ) (e : whole ≡ xs ++ ys) (o : List ℕ) (at : ℕ) (room : at + length whole ≤ length o) where
  parts_room : at + length xs + length ys ≤ length o
  parts_room = omega (arith, ap length e ∙ length-append xs ys)

  pub front_room : at + length xs ≤ length o
  front_room = omega (arith, parts_room)

  pub back_room : (p : List ℕ) (mid : ℕ) → Wrote o p at mid xs → mid + length ys ≤ length p
  back_room p mid f = omega (arith, parts_room, f.upto, wrote_length f front_room)

  pub wrote_both : (p q : List ℕ) (mid end : ℕ) → Wrote o p at mid xs → Wrote p q mid end ys → Wrote o q at end whole
  wrote_both p q mid end f g = subst (Wrote o q at end) (sym e) (wrote_more f g parts_room)
