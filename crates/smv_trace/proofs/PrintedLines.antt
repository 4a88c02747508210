-- Printed lines: where they end, what stands around their blanks, and what each is.
use Rattle.std.proofs.Common.{◌≡◌, ◌<◌, ◌^◌, ◌==◌, ℕ, suc, Bool, true, false, cond, not, ◌&&◌, Some, None, is_none, List, [], ◌∷◌, ◌++◌, length, take, drop, refl, sym, ap, ◌∙◌, append_assoc, arith}
use Rattle.std.specs.Prelude.{codes, option_and_then}
use Rattle.std.specs.Fmt.{decimal}
use Rattle.std.specs.Str.{bytes_eq}
use Rattle.std.proofs.lemmas.Bool.{and_parts, cond-false}
use Rattle.std.proofs.lemmas.Bool.Decides.{nat_tests}
use Rattle.std.proofs.lemmas.List.{take_at, drop_at, drop_all, length-append}
use Rattle.smv_text.specs.Bytes.{is_letter, is_blank, front_length}
use Rattle.smv_trace_text.specs.Lines.{onto_first, lines_of, past_blanks, onto_end, without_end, trimmed, is_other, behind_mark, halves, is_passed, numbers_before_end, numbers_of_rest, heading_numbers, value_of_rest, value_parts}
use Rattle.smv_trace_text.specs.Texts.{heading_text, claim_front, claim_back}
use Rattle.smv_trace.proofs.Solid.{has_no, is_solid, is_named, all_both, one_line, spaceless, letter_solid, named_solid, decimal_solid, decimal_number, decimal_bare}
use Rattle.text_core.specs.Bytes.{heads, without_zeros}

-- ---- ends of lines

other_false : (b mark : ℕ) → not (b == mark) ≡ true → (b == mark) ≡ false
other_false b mark h = go (b == mark) h
  where
    go : (t : Bool) → not t ≡ true → t ≡ false
    go true h = absurd (let e : false ≡ true = h in cc)
    go false h = refl

pub lines_cut : (line rest : List ℕ) → has_no 10 line ≡ true → lines_of (line ++ 10 ∷ rest) ≡ line ∷ lines_of rest
lines_cut [] rest h = refl
lines_cut (b ∷ bs) rest h =
    let t = and_parts (not (b == 10)) (has_no 10 bs) h in
    cond-false (b == 10) ([] ∷ lines_of (bs ++ 10 ∷ rest)) (onto_first b (lines_of (bs ++ 10 ∷ rest))) (other_false b 10 t.0) ∙ ap (onto_first b) (lines_cut bs rest t.1)

-- ---- blanks around them

onto_some : (b c : ℕ) (bs : List ℕ) → onto_end b (c ∷ bs) ≡ b ∷ c ∷ bs
onto_some b c bs = refl

onto_more : (b : ℕ) (bs : List ℕ) → 0 < length bs → onto_end b bs ≡ b ∷ bs
onto_more b [] h = absurd (omega (arith, h))
onto_more b (c ∷ cs) h = refl

pub end_behind : (xs ys : List ℕ) → 0 < length ys → without_end ys ≡ ys → without_end (xs ++ ys) ≡ xs ++ ys
end_behind [] ys some h = h
end_behind (x ∷ xs) ys some h =
    ap (onto_end x) (end_behind xs ys some h) ∙ onto_more x (xs ++ ys) (let e = length-append xs ys in omega (arith, some, e))

pub end_solid : (bs : List ℕ) → is_solid bs ≡ true → without_end bs ≡ bs
end_solid [] h = refl
end_solid (b ∷ bs) h =
    let t = and_parts (not (is_blank b)) (is_solid bs) h in
    ap (onto_end b) (end_solid bs t.1) ∙ last bs (solid_false (is_blank b) t.0)
  where
    solid_false : (t : Bool) → not t ≡ true → t ≡ false
    solid_false true h = absurd (let e : false ≡ true = h in cc)
    solid_false false h = refl

    last : (cs : List ℕ) → is_blank b ≡ false → onto_end b cs ≡ b ∷ cs
    last [] e = cond-false (is_blank b) [] (b ∷ []) e
    last (c ∷ cs) e = refl

-- ---- halves

front_at : (mark : ℕ) (xs ys : List ℕ) → has_no mark xs ≡ true → front_length (is_other mark) (xs ++ mark ∷ ys) ≡ length xs
front_at mark [] ys h = let same : (mark == mark) ≡ true = grind (arith, nat_tests) in ap (λ b. cond (not b) (suc (front_length (is_other mark) ys)) 0) same
front_at mark (x ∷ xs) ys h =
    let t = and_parts (not (x == mark)) (has_no mark xs) h in
    ap (λ b. cond b (suc (front_length (is_other mark) (xs ++ mark ∷ ys))) 0) t.0 ∙ ap suc (front_at mark xs ys t.1)

front_all : (mark : ℕ) (xs : List ℕ) → has_no mark xs ≡ true → front_length (is_other mark) xs ≡ length xs
front_all mark [] h = refl
front_all mark (x ∷ xs) h =
    let t = and_parts (not (x == mark)) (has_no mark xs) h in
    ap (λ b. cond b (suc (front_length (is_other mark) xs)) 0) t.0 ∙ ap suc (front_all mark xs t.1)

pub halves_at : (mark : ℕ) (xs ys : List ℕ) → has_no mark xs ≡ true → halves mark (xs ++ mark ∷ ys) ≡ Some (xs, ys)
halves_at mark xs ys h =
    ap (λ n. behind_mark (take n (xs ++ mark ∷ ys)) (drop n (xs ++ mark ∷ ys))) (front_at mark xs ys h)
    ∙ ap (λ l. behind_mark l (drop (length xs) (xs ++ mark ∷ ys))) (take_at xs (mark ∷ ys) (length xs) refl)
    ∙ ap (behind_mark xs) (drop_at xs (mark ∷ ys) (length xs) refl)

pub halves_none : (mark : ℕ) (xs : List ℕ) → has_no mark xs ≡ true → halves mark xs ≡ None
halves_none mark xs h =
    ap (λ n. behind_mark (take n xs) (drop n xs)) (front_all mark xs h) ∙ ap (behind_mark (take (length xs) xs)) (drop_all (length xs) xs (omega arith))

-- ---- lines of values

-- without the blanks before it
abbrev pub stated_line : List ℕ → List ℕ → List ℕ
stated_line name value = name ++ 32 ∷ 61 ∷ 32 ∷ value

abbrev pub indented : List ℕ → List ℕ
indented line = 32 ∷ 32 ∷ 32 ∷ 32 ∷ line

pub value_parted : (name value : List ℕ) → is_solid name ≡ true → is_solid value ≡ true → value_parts (stated_line name value) ≡ Some (name, value)
value_parted name value h k =
    ap (option_and_then value_of_rest) (halves_at 32 name (61 ∷ 32 ∷ value) (spaceless name h))
    ∙ ap (λ o. cond (is_none o) (Some (name, value)) None) (halves_none 32 value (spaceless value k))

first_other : (b c : ℕ) (bs cs : List ℕ) → (b == c) ≡ false → bytes_eq (b ∷ bs) (c ∷ cs) ≡ false
first_other b c bs cs e = ap (λ t. t && bytes_eq bs cs) e

pub no_heading : (word name value : List ℕ) → is_named name ≡ true → heading_numbers word (stated_line name value) ≡ None
no_heading word [] value h = absurd (let e : false ≡ true = h in cc)
no_heading word (b ∷ bs) value h =
    let t = and_parts (is_letter b) (is_solid bs) h in
    let other : (b == 45) ≡ false = grind (arith, nat_tests, t.0) in
    ap (option_and_then (numbers_of_rest word)) (halves_at 32 (b ∷ bs) (61 ∷ 32 ∷ value) (spaceless (b ∷ bs) (named_solid (b ∷ bs) h)))
    ∙ ap (λ c. cond (c && bytes_eq (61 ∷ []) word) (option_and_then numbers_before_end (halves 32 value)) None) (first_other b 45 bs (62 ∷ []) other)

pub none_passed : (name value : List ℕ) → is_named name ≡ true → is_passed (stated_line name value) ≡ false
none_passed [] value h = absurd (let e : false ≡ true = h in cc)
none_passed (b ∷ bs) value h =
    let t = and_parts (is_letter b) (is_solid bs) h in
    let other : (b == 45) ≡ false = grind (arith, nat_tests, t.0) in
    ap (λ c. c && heads 45 (bs ++ 32 ∷ 61 ∷ 32 ∷ value)) other

past_indent : (name rest : List ℕ) → is_named name ≡ true → past_blanks (indented (name ++ rest)) ≡ name ++ rest
past_indent [] rest h = absurd (let e : false ≡ true = h in cc)
past_indent (b ∷ bs) rest h = let t = and_parts (is_letter b) (is_solid bs) h in cond-false (is_blank b) (past_blanks (bs ++ rest)) (b ∷ (bs ++ rest)) (letter_solid b t.0)

pub value_trimmed : (name value : List ℕ) → is_named name ≡ true → is_solid value ≡ true → 0 < length value → trimmed (indented (stated_line name value)) ≡ stated_line name value
value_trimmed name value h k some =
    ap without_end (past_indent name (32 ∷ 61 ∷ 32 ∷ value) h)
    ∙ end_behind name (32 ∷ 61 ∷ 32 ∷ value) (omega arith) (end_behind (32 ∷ 61 ∷ 32 ∷ []) value some (end_solid value k))

pub value_one_line : (name value : List ℕ) → is_solid name ≡ true → is_solid value ≡ true → has_no 10 (indented (stated_line name value)) ≡ true
value_one_line name value h k = all_both (λ b. not (b == 10)) name (32 ∷ 61 ∷ 32 ∷ value) (one_line name h) (one_line value k)

pub value_cut : (name value more : List ℕ) → (codes "    " ++ (name ++ (codes " = " ++ (value ++ 10 ∷ [])))) ++ more ≡ indented (stated_line name value) ++ 10 ∷ more
value_cut name value more =
    ap indented (append_assoc name (32 ∷ 61 ∷ 32 ∷ (value ++ 10 ∷ [])) more ∙ ap (λ l. name ++ 32 ∷ 61 ∷ 32 ∷ l) (append_assoc value (10 ∷ []) more) ∙ sym (append_assoc name (32 ∷ 61 ∷ 32 ∷ value) (10 ∷ more)))

-- ---- headings

-- `-> State: 1.N <-` and the same of an input
abbrev pub state_heading : ℕ → List ℕ
state_heading n = codes "-> State: 1." ++ (decimal n ++ codes " <-")

abbrev pub label_heading : ℕ → List ℕ
label_heading n = codes "-> Input: 1." ++ (decimal n ++ codes " <-")

abbrev pub twice : List ℕ → List ℕ
twice line = 32 ∷ 32 ∷ line

decimal_end : (front : List ℕ) (n : ℕ) → without_end (front ++ (decimal n ++ codes " <-")) ≡ front ++ (decimal n ++ codes " <-")
decimal_end front n =
    let e = length-append (decimal n) (codes " <-") in
    let long : length (codes " <-") ≡ 3 = refl in
    end_behind front (decimal n ++ codes " <-") (omega (arith, e, long)) (end_behind (decimal n) (codes " <-") (omega (arith, long)) refl)

pub state_trimmed : (n : ℕ) → trimmed (twice (state_heading n)) ≡ state_heading n
state_trimmed n = decimal_end (codes "-> State: 1.") n

pub label_trimmed : (n : ℕ) → trimmed (twice (label_heading n)) ≡ label_heading n
label_trimmed n = decimal_end (codes "-> Input: 1.") n

number_one_line : (n : ℕ) → has_no 10 (decimal n ++ codes " <-") ≡ true
number_one_line n = all_both (λ b. not (b == 10)) (decimal n) (codes " <-") (one_line (decimal n) (decimal_solid n)) refl

pub state_one_line : (n : ℕ) → has_no 10 (twice (state_heading n)) ≡ true
state_one_line n = number_one_line n

pub label_one_line : (n : ℕ) → has_no 10 (twice (label_heading n)) ≡ true
label_one_line n = number_one_line n

cut_end : (ds more : List ℕ) → (ds ++ (codes " <-" ++ 10 ∷ [])) ++ more ≡ (ds ++ codes " <-") ++ 10 ∷ more
cut_end ds more = append_assoc ds (codes " <-" ++ 10 ∷ []) more ∙ sym (append_assoc ds (codes " <-") (10 ∷ more))

pub state_cut : (n : ℕ) (more : List ℕ) → heading_text (codes "State") n ++ more ≡ twice (state_heading n) ++ 10 ∷ more
unfolding heading_text
state_cut n more = ap (λ l. codes "  -> State: 1." ++ l) (cut_end (decimal n) more)

pub label_cut : (n : ℕ) (more : List ℕ) → heading_text (codes "Input") n ++ more ≡ twice (label_heading n) ++ 10 ∷ more
unfolding heading_text
label_cut n more = ap (λ l. codes "  -> Input: 1." ++ l) (cut_end (decimal n) more)

-- the two numbers
numbered : (n : ℕ) → 0 < n → n < 2 ^ 64 → option_and_then numbers_before_end (halves 32 (49 ∷ 46 ∷ (decimal n ++ codes " <-"))) ≡ Some (49 ∷ [], decimal n)
numbered n some small =
    ap (option_and_then numbers_before_end) (halves_at 32 (49 ∷ 46 ∷ decimal n) (60 ∷ 45 ∷ []) (spaceless (decimal n) (decimal_solid n)))
    ∙ ap (λ b. cond b (Some (49 ∷ [], without_zeros (decimal n))) None) (decimal_number n small)
    ∙ ap (λ ds. Some (49 ∷ [], ds)) (decimal_bare n some small)

pub state_numbers : (n : ℕ) → 0 < n → n < 2 ^ 64 → heading_numbers (codes "State:") (state_heading n) ≡ Some (49 ∷ [], decimal n)
state_numbers n some small = numbered n some small

pub label_numbers : (n : ℕ) → 0 < n → n < 2 ^ 64 → heading_numbers (codes "Input:") (label_heading n) ≡ Some (49 ∷ [], decimal n)
label_numbers n some small = numbered n some small

pub label_other : (n : ℕ) → heading_numbers (codes "State:") (label_heading n) ≡ None
label_other n = refl

-- ---- the claim

abbrev pub claim_line : ℕ → ℕ → List ℕ
claim_line j n = codes "-- invariant " ++ (decimal j ++ (codes " is false" ++ (codes " in state 1." ++ decimal n)))

pub claim_cut : (j n : ℕ) (more : List ℕ) → claim_front j ++ (claim_back n ++ more) ≡ claim_line j n ++ 10 ∷ more
unfolding claim_front claim_back
claim_cut j n more =
    append_assoc (codes "-- invariant ") (decimal j) _
    ∙ ap (λ l. codes "-- invariant " ++ (decimal j ++ (codes " is false" ++ (codes " in state 1." ++ l)))) (append_assoc (decimal n) (10 ∷ []) more)
    ∙ ap (λ l. codes "-- invariant " ++ l) (sym (append_assoc (decimal j) (codes " is false" ++ (codes " in state 1." ++ decimal n)) (10 ∷ more)))

pub claim_one_line : (j n : ℕ) → has_no 10 (claim_line j n) ≡ true
claim_one_line j n =
    all_both (λ b. not (b == 10)) (decimal j) (codes " is false" ++ (codes " in state 1." ++ decimal n)) (one_line (decimal j) (decimal_solid j)) (one_line (decimal n) (decimal_solid n))

dashes : (bs : List ℕ) → is_passed (onto_end 45 (onto_end 45 bs)) ≡ true
dashes [] = refl
dashes (b ∷ bs) = refl

pub claim_passed : (j n : ℕ) → is_passed (trimmed (claim_line j n)) ≡ true
claim_passed j n = dashes (without_end (codes " invariant " ++ (decimal j ++ (codes " is false" ++ (codes " in state 1." ++ decimal n)))))
