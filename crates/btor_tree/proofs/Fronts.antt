-- The first part of a line, and the first line of a text.
use Rattle.std.proofs.Common.{◌≡◌, ◌+◌, ℕ, suc, Bool, true, false, eqb, List, [], ◌∷◌, take, drop, refl, sym, ap, ◌∙◌, subst, add-one, inl, inr}
use Rattle.std.proofs.lemmas.Bool.{cond-true, cond-false, cases_Bool}
use Rattle.btor_tree.specs.Parts.{Parts, is_blank, parts, onto_part, onto_line, raw_lines}
use Rattle.btor_tree.specs.Bytes.{part_length, line_length}

front_step : (t : Bool) (b c : ℕ) (bs : List ℕ) (n : ℕ) → (t ≡ true → n ≡ 0) → (t ≡ false → parts (c ∷ bs) ≡ take n (c ∷ bs) ∷ parts (drop n (c ∷ bs)))
    → onto_part b t (parts (c ∷ bs)) ≡ take (suc n) (b ∷ (c ∷ bs)) ∷ parts (drop (suc n) (b ∷ (c ∷ bs)))
front_step true b c bs n e ih = ap (λ k. take (suc k) (b ∷ (c ∷ bs)) ∷ parts (drop (suc k) (b ∷ (c ∷ bs)))) (sym (e refl))
front_step false b c bs n e ih = ap (onto_part b false) (ih refl)

-- the first part of a line that doesn't begin with a blank
parts_front : (b : ℕ) (bs : List ℕ) → is_blank b ≡ false → parts (b ∷ bs) ≡ take (part_length (b ∷ bs)) (b ∷ bs) ∷ parts (drop (part_length (b ∷ bs)) (b ∷ bs))
parts_front b [] e = rw e refl
parts_front b (c ∷ bs) e =
    let n = part_length (c ∷ bs) in
    let size : part_length (b ∷ (c ∷ bs)) ≡ suc n = cond-false (is_blank b) 0 (n + 1) e ∙ add-one n in
    cond-false (is_blank b) (parts (c ∷ bs)) (onto_part b (is_blank c) (parts (c ∷ bs))) e
    ∙ front_step (is_blank c) b c bs n (cond-true (is_blank c) 0 (part_length bs + 1)) (λ f. parts_front c bs f)
    ∙ ap (λ k. take k (b ∷ (c ∷ bs)) ∷ parts (drop k (b ∷ (c ∷ bs)))) (sym size)

pub part_cut : (rest part last : List ℕ) (b : ℕ) (more : List ℕ) (n : ℕ) → rest ≡ b ∷ more → is_blank b ≡ false → n ≡ part_length rest → part ≡ take n rest → last ≡ drop n rest → parts rest ≡ part ∷ parts last
part_cut rest part last b more n e blank size p l =
    let front : parts rest ≡ take (part_length rest) rest ∷ parts (drop (part_length rest) rest) =
    subst (λ (x : List ℕ). parts x ≡ take (part_length x) x ∷ parts (drop (part_length x) x)) (sym e) (parts_front b more blank) in
    cc

-- the first line and the others, at the end of the first
abbrev pub split_line : List ℕ → List ℕ → Parts
split_line l [] = l ∷ []
split_line l (b ∷ rest) = l ∷ raw_lines rest

-- the same of a text whose first line has n bytes
abbrev front_line : List ℕ → ℕ → Parts
front_line text n = split_line (take n text) (drop n text)

onto_split : (b : ℕ) (l rest : List ℕ) → onto_line b (split_line l rest) ≡ split_line (b ∷ l) rest
onto_split b l [] = refl
onto_split b l (c ∷ rest) = refl

lines_front : (text : List ℕ) → raw_lines text ≡ front_line text (line_length text)
lines_front [] = refl
lines_front (b ∷ bs) =
    elim (cases_Bool (eqb b 10)) [
      | inl t ↦ cond-true (eqb b 10) _ _ t ∙ sym (ap (front_line (b ∷ bs)) (cond-true (eqb b 10) 0 (line_length bs + 1) t))
      | inr f ↦ cond-false (eqb b 10) ([] ∷ raw_lines bs) (onto_line b (raw_lines bs)) f ∙ ap (onto_line b) (lines_front bs) ∙ onto_split b (take (line_length bs) bs) (drop (line_length bs) bs)
          ∙ ap (front_line (b ∷ bs)) (sym (cond-false (eqb b 10) 0 (line_length bs + 1) f ∙ add-one (line_length bs)))
    ]

pub rest_lines : (rest raw back : List ℕ) (n : ℕ) → n ≡ line_length rest → raw ≡ take n rest → back ≡ drop n rest → raw_lines rest ≡ split_line raw back
rest_lines rest raw back n e f g = let h = lines_front rest in cc
