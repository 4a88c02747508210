-- A word is found among all words where it is found among those that begin as it does.
use Rattle.std.proofs.Common.{◌≡◌, ℕ, Bool, true, false, not, cond, eqb, Option, Some, None, List, [], ◌∷◌, ◌++◌, refl, sym, ap, ◌∙◌}
use Rattle.std.specs.List.{list_all, filter}
use Rattle.std.specs.Str.{bytes_eq}
use Rattle.std.proofs.lemmas.Bool.{and_parts, eq-eqb}
use Rattle.std.proofs.lemmas.Slice.Eq.{bytes_eq-Decides}
use Rattle.smv_text.specs.declared.token.Reserved.{Reserved}
use Rattle.smv_text.specs.Bytes.{look_up}
use Rattle.smv_text.specs.Keywords.{keywords}
use Rattle.smv_lex.specs.Reading.{Keyword, last_of, may_be_keyword}
use Rattle.text_core.proofs.Truths.{passed_over}
use Rattle.text_core.specs.Bytes.{first_of}

step : (same : Bool) (bs : List ℕ) (w : Keyword) (found : Option (Option Reserved)) (kept : List Keyword) → (bytes_eq bs w.0 ≡ true → same ≡ true) → found ≡ look_up bs kept
    → cond (bytes_eq bs w.0) (Some w.1) found ≡ look_up bs (cond same (w ∷ kept) kept)
step true bs w found kept h e = ap (λ x. cond (bytes_eq bs w.0) (Some w.1) x) e
step false bs w found kept h e = passed_over (bytes_eq bs w.0) (Some w.1) found (λ f. let g = h f in cc) ∙ e

pub found_same_first : (bs : List ℕ) (ws : List Keyword) → look_up bs ws ≡ look_up bs (filter (λ w. eqb (first_of bs) (first_of w.0)) ws)
found_same_first bs [] = refl
found_same_first bs (w ∷ ws) =
    step (eqb (first_of bs) (first_of w.0)) bs w _ _ (λ e. eq-eqb (first_of bs) (first_of w.0) (ap first_of ((bytes_eq-Decides bs w.0).0 e))) (found_same_first bs ws)

-- where no word has this first byte, none is kept
pub none_from : (b : ℕ) (ws : List Keyword) → list_all (λ w. not (eqb b (first_of w.0))) ws ≡ true → filter (λ w. eqb b (first_of w.0)) ws ≡ []
none_from b [] all = refl
none_from b (w ∷ ws) all =
    let parts = and_parts (not (eqb b (first_of w.0))) (list_all (λ w. not (eqb b (first_of w.0))) ws) all in
    passed_over (eqb b (first_of w.0)) (w ∷ filter (λ w. eqb b (first_of w.0)) ws) _ (λ e. let g : not (eqb b (first_of w.0)) ≡ false = ap not e in cc) ∙ none_from b ws parts.1

abbrev may_be : Keyword → Bool
may_be w = may_be_keyword w.0

all_may_be : list_all may_be keywords ≡ true
unfolding keywords
all_may_be = refl

same_bytes : (bs w : List ℕ) → bytes_eq bs w ≡ true → may_be_keyword w ≡ true → may_be_keyword bs ≡ false → ⊥
same_bytes bs w e h n = let g : may_be_keyword bs ≡ true = ap may_be_keyword ((bytes_eq-Decides bs w).0 e) ∙ h in cc

none_may : (bs : List ℕ) (ws : List Keyword) → list_all may_be ws ≡ true → may_be_keyword bs ≡ false → None ≡ look_up bs ws
none_may bs [] all n = refl
none_may bs (w ∷ ws) all n =
    let parts = and_parts (may_be w) (list_all may_be ws) all in
    none_may bs ws parts.1 n ∙ sym (passed_over (bytes_eq bs w.0) (Some w.1) (look_up bs ws) (λ e. same_bytes bs w.0 e parts.0 n))

-- a word that can't be one isn't among all words
pub none_found : (bs : List ℕ) → may_be_keyword bs ≡ false → None ≡ look_up bs keywords
none_found bs n = none_may bs keywords all_may_be n

pub last_behind : (bs : List ℕ) (b : ℕ) → last_of (bs ++ b ∷ []) ≡ b
last_behind [] b = refl
last_behind (c ∷ []) b = refl
last_behind (c ∷ d ∷ bs) b = last_behind (d ∷ bs) b
