-- The first line of a piece, and the byte behind it.
use Rattle.std.proofs.Common.{◌≡◌, ◌+◌, ℕ, true, not, eqb, List, [], ◌∷◌, ◌++◌, take, drop, refl, sym, ap, ◌∙◌, add-one, inl, inr}
use Rattle.std.proofs.lemmas.Bool.{cond-true, cond-false, cases_Bool, and_from, eqb-true}
use Rattle.std.proofs.lemmas.List.{take-append-drop, append_assoc, append-nil}
use Rattle.btor_tree.specs.Bytes.{line_length}
use Rattle.btor_judge.specs.Judging.{is_one_line}

one_front : (text : List ℕ) → is_one_line (take (line_length text) text) ≡ true
one_front [] = refl
one_front (b ∷ bs) =
    elim (cases_Bool (eqb b 10)) [
      | inl t ↦ ap (λ n. is_one_line (take n (b ∷ bs))) (cond-true (eqb b 10) 0 (line_length bs + 1) t)
      | inr f ↦
          ap (λ n. is_one_line (take n (b ∷ bs))) (cond-false (eqb b 10) 0 (line_length bs + 1) f ∙ add-one (line_length bs))
          ∙ and_from (not (eqb b 10)) (is_one_line (take (line_length bs) bs)) (ap not f) (one_front bs)
    ]

pub front_is_line : (rest raw : List ℕ) (n : ℕ) → n ≡ line_length rest → raw ≡ take n rest → is_one_line raw ≡ true
front_is_line rest raw n e f = ap is_one_line (f ∙ ap (λ k. take k rest) e) ∙ one_front rest

behind_front : (text last : List ℕ) (b : ℕ) → drop (line_length text) text ≡ b ∷ last → b ≡ 10
behind_front [] last b h = absurd (cc)
behind_front (c ∷ bs) last b h =
    elim (cases_Bool (eqb c 10)) [
      | inl t ↦
          let all : c ∷ bs ≡ b ∷ last = sym (ap (λ n. drop n (c ∷ bs)) (cond-true (eqb c 10) 0 (line_length bs + 1) t)) ∙ h in
          let same : c ≡ b = cc in
          sym same ∙ eqb-true c 10 t
      | inr f ↦ behind_front bs last b (sym (ap (λ n. drop n (c ∷ bs)) (cond-false (eqb c 10) 0 (line_length bs + 1) f ∙ add-one (line_length bs))) ∙ h)
    ]

-- the piece, where a line and the byte at its end follow the front
pub front_on : (piece front rest raw back last : List ℕ) (n b : ℕ) → front ++ rest ≡ piece → n ≡ line_length rest → raw ≡ take n rest → back ≡ drop n rest → back ≡ b ∷ last → (front ++ (raw ++ 10 ∷ [])) ++ last ≡ piece
front_on piece front rest raw back last n b h e f g more =
    let end : b ≡ 10 = behind_front rest last b (ap (λ k. drop k rest) (sym e) ∙ sym g ∙ more) in
    let cut : raw ++ 10 ∷ last ≡ rest = ap (λ k. raw ++ k ∷ last) (sym end) ∙ ap (λ x. raw ++ x) (sym more) ∙ ap (λ x. x ++ back) f ∙ ap (λ x. take n rest ++ x) g ∙ take-append-drop n rest in
    append_assoc front (raw ++ 10 ∷ []) last ∙ ap (λ x. front ++ x) (append_assoc raw (10 ∷ []) last ∙ cut) ∙ h

-- the piece, where the first line of the rest is all of it
pub front_last : (piece front rest raw back : List ℕ) (n : ℕ) → front ++ rest ≡ piece → raw ≡ take n rest → back ≡ drop n rest → back ≡ [] → front ++ raw ≡ piece
front_last piece front rest raw back n h f g none =
    let cut : raw ≡ rest = sym (append-nil raw) ∙ ap (λ x. raw ++ x) (sym none) ∙ ap (λ x. x ++ back) f ∙ ap (λ x. take n rest ++ x) g ∙ take-append-drop n rest in
    ap (λ x. front ++ x) cut ∙ h
