-- A written text is cut into the lines and fields that it was written from.
use Rattle.std.proofs.Common.{◌≡◌, ℕ, suc, ◌+◌, ◌-◌, ◌<◌, ◌≤◌, Bool, true, false, ◌&&◌, eqb, leb, List, [], ◌∷◌, ◌++◌, map, length, get_or, None, Ok, sym, refl, ap, ◌∙◌, arith}
use Rattle.std.specs.List.{prefix_len}
use Rattle.std.proofs.lemmas.List.{append-nil, append_assoc, length-append, get_or-append_right}
use Rattle.std.proofs.lemmas.Bool.{cond-true, cond-false, and_parts, eq-eqb, le-ltb, le-leb}
use Rattle.std.proofs.lemmas.Bool.Decides.{nat_tests}
use Rattle.fields.specs.Bytes.{allowed, wrong_line}
use Rattle.fields.specs.Cuts.{lines_on, lines_of, fields_on, fields_of, spaced}
use Rattle.texts.specs.Lines.{parts_by, parts_of}
use Rattle.text_writers.specs.Writing.{line_end, line_text, text_of}

-- no space, and no byte that a text has not
abbrev pub clean : List ℕ → Bool
clean [] = true
clean (b ∷ bs) = (leb 33 b && leb b 126) && clean bs

abbrev pub all_clean : List (List ℕ) → Bool
all_clean [] = true
all_clean (w ∷ ws) = clean w && all_clean ws

-- each line has clean fields, one at least
pub data Plain : List (List (List ℕ)) → Type 0 where
  none : Plain []
  more : (w : List ℕ) (ws : List (List ℕ)) (ls : List (List (List ℕ))) → clean w ≡ true → all_clean ws ≡ true → Plain ls → Plain ((w ∷ ws) ∷ ls)

-- the fields with one space between
abbrev pub between : List (List ℕ) → List ℕ
between [] = []
between (w ∷ ws) = w ++ spaced ws

not_space : (b : ℕ) → (leb 33 b && leb b 126) ≡ true → eqb b 32 ≡ false
not_space b h = grind (arith, nat_tests)

not_end : (b : ℕ) → (leb 33 b && leb b 126) ≡ true → eqb b 10 ≡ false
not_end b h = grind (arith, nat_tests)

clean_allowed : (b : ℕ) → (leb 33 b && leb b 126) ≡ true → allowed b ≡ true
clean_allowed b h = grind (arith, nat_tests)

fields_pass : (w v rest : List ℕ) → clean v ≡ true → fields_on w (v ++ rest) ≡ fields_on (w ++ v) rest
fields_pass w [] rest h = ap (λ x. fields_on x rest) (sym (append-nil w))
fields_pass w (b ∷ bs) rest h =
    let p = and_parts _ _ h in
    cond-false _ _ _ (not_space b p.0) ∙ fields_pass (w ++ b ∷ []) bs rest p.1 ∙ ap (λ x. fields_on x rest) (append_assoc w (b ∷ []) bs)

lines_pass : (w v rest : List ℕ) → clean v ≡ true → lines_on w (v ++ rest) ≡ lines_on (w ++ v) rest
lines_pass w [] rest h = ap (λ x. lines_on x rest) (sym (append-nil w))
lines_pass w (b ∷ bs) rest h =
    let p = and_parts _ _ h in
    cond-false _ _ _ (not_end b p.0) ∙ lines_pass (w ++ b ∷ []) bs rest p.1 ∙ ap (λ x. lines_on x rest) (append_assoc w (b ∷ []) bs)

fields_on_lem : (w : List ℕ) (ws : List (List ℕ)) → all_clean ws ≡ true → fields_on w (spaced ws) ≡ w ∷ ws
fields_on_lem w [] h = refl
fields_on_lem w (v ∷ vs) h = let p = and_parts _ _ h in ap (λ fs. w ∷ fs) (fields_pass [] v (spaced vs) p.0 ∙ fields_on_lem v vs p.1)

-- a line's fields are those it was written from
pub fields_back : (w : List ℕ) (ws : List (List ℕ)) → clean w ≡ true → all_clean ws ≡ true → fields_of (between (w ∷ ws)) ≡ w ∷ ws
fields_back w ws h hs = fields_pass [] w (spaced ws) h ∙ fields_on_lem w ws hs

lines_on_lem : (w : List ℕ) (ws : List (List ℕ)) (rest : List ℕ) → all_clean ws ≡ true → lines_on w (line_end ws ++ rest) ≡ (w ++ spaced ws) ∷ lines_on [] rest
lines_on_lem w [] rest h = ap (λ x. x ∷ lines_on [] rest) (sym (append-nil w))
lines_on_lem w (v ∷ vs) rest h =
    let p = and_parts _ _ h in
    ap (lines_on (w ++ 32 ∷ [])) (append_assoc v (line_end vs) rest)
    ∙ lines_pass (w ++ 32 ∷ []) v (line_end vs ++ rest) p.0
    ∙ lines_on_lem ((w ++ 32 ∷ []) ++ v) vs rest p.1
    ∙ ap (λ x. x ∷ lines_on [] rest) (append_assoc (w ++ 32 ∷ []) v (spaced vs) ∙ append_assoc w (32 ∷ []) (v ++ spaced vs))

-- a text's lines are those it was written from
pub lines_back : (ls : List (List (List ℕ))) → Plain ls → lines_of (text_of ls) ≡ map between ls
lines_back _ none = refl
lines_back _ (more w ws ls h hs p) =
    ap lines_of (append_assoc w (line_end ws) (text_of ls)) ∙ lines_pass [] w (line_end ws ++ text_of ls) h ∙ lines_on_lem w ws (text_of ls) hs
    ∙ ap (λ x. (w ++ spaced ws) ∷ x) (lines_back ls p)

one_more : (m n : ℕ) → m ≡ n → 1 + m ≡ suc n
one_more m n e = omega arith

-- every byte is allowed
leading_pass : (v rest : List ℕ) → clean v ≡ true → prefix_len allowed rest ≡ length rest → prefix_len allowed (v ++ rest) ≡ length (v ++ rest)
leading_pass [] rest h all = all
leading_pass (b ∷ bs) rest h all = let p = and_parts _ _ h in cond-true _ _ _ (clean_allowed b p.0) ∙ one_more _ _ (leading_pass bs rest p.1 all)

leading_end : (ws : List (List ℕ)) (rest : List ℕ) → all_clean ws ≡ true → prefix_len allowed rest ≡ length rest → prefix_len allowed (line_end ws ++ rest) ≡ length (line_end ws ++ rest)
leading_end [] rest h all = one_more _ _ all
leading_end (v ∷ vs) rest h all =
    let p = and_parts _ _ h in
    one_more _ _ (ap (prefix_len allowed) (append_assoc v (line_end vs) rest) ∙ leading_pass v (line_end vs ++ rest) p.0 (leading_end vs rest p.1 all) ∙ ap length (sym (append_assoc v (line_end vs) rest)))

leading_text : (ls : List (List (List ℕ))) → Plain ls → prefix_len allowed (text_of ls) ≡ length (text_of ls)
leading_text _ none = refl
leading_text _ (more w ws ls h hs p) =
    ap (prefix_len allowed) (append_assoc w (line_end ws) (text_of ls)) ∙ leading_pass w (line_end ws ++ text_of ls) h (leading_end ws (text_of ls) hs (leading_text ls p)) ∙ ap length (sym (append_assoc w (line_end ws) (text_of ls)))

-- the last byte is 10
abbrev pub last : List ℕ → ℕ
last bs = get_or bs (length bs - 1) 0

pub last_append : (xs ys : List ℕ) → 0 < length ys → last (xs ++ ys) ≡ last ys
last_append xs ys h =
    let long = length-append xs ys in
    let at : length (xs ++ ys) - 1 - length xs ≡ length ys - 1 = omega arith in
    get_or-append_right xs ys (length xs) (length (xs ++ ys) - 1) 0 refl (omega arith) ∙ ap (λ i. get_or ys i 0) at

some_end : (ws : List (List ℕ)) → 0 < length (line_end ws)
some_end [] = omega arith
some_end (v ∷ vs) = omega arith

last_end : (ws : List (List ℕ)) → last (line_end ws) ≡ 10
last_end [] = refl
last_end (v ∷ vs) = last_append (32 ∷ v) (line_end vs) (some_end vs) ∙ last_end vs

last_line : (w : List ℕ) (ws : List (List ℕ)) → last (line_text (w ∷ ws)) ≡ 10
last_line w ws = last_append w (line_end ws) (some_end ws) ∙ last_end ws

some_text : (l : List (List ℕ)) (ls : List (List (List ℕ))) → 0 < length (text_of (l ∷ ls))
some_text [] ls = omega arith
some_text (w ∷ ws) ls = omega (arith, length-append (line_text (w ∷ ws)) (text_of ls), length-append w (line_end ws), some_end ws)

last_text : (l : List (List ℕ)) (ls : List (List (List ℕ))) → Plain (l ∷ ls) → last (text_of (l ∷ ls)) ≡ 10
last_text _ _ (more w ws [] h hs p) = ap last (append-nil (line_text (w ∷ ws))) ∙ last_line w ws
last_text _ _ (more w ws (l ∷ ls) h hs p) = last_append (line_text (w ∷ ws)) (text_of (l ∷ ls)) (some_text l ls) ∙ last_text l ls p

-- a written text of at most 16384 bytes is read by the lines that it was written from
pub parts_back : (l : List (List ℕ)) (ls : List (List (List ℕ))) → Plain (l ∷ ls) → length (text_of (l ∷ ls)) ≤ 16384 →
    parts_of (text_of (l ∷ ls)) ≡ Ok (record { names = between l; values = map between ls })
parts_back l ls p short =
    let text = text_of (l ∷ ls) in
    let right : wrong_line text ≡ None = cond-false _ _ _ (le-ltb (prefix_len allowed text) (length text) (omega (arith, leading_text (l ∷ ls) p))) ∙ cond-true _ _ _ (eq-eqb (last text) 10 (last_text l ls p)) in
    cond-true _ _ _ (le-leb (length text) 16384 short) ∙ ap (λ o. parts_by o (lines_of text)) right ∙ ap (parts_by None) (lines_back (l ∷ ls) p)
