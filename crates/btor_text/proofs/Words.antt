-- A word is found among all words where it is found among those that begin as it does, and no word that is read is left out.
use Rattle.std.proofs.Common.{◌≡◌, ℕ, Bool, true, false, not, cond, eqb, Option, Some, List, [], ◌∷◌, refl, sym, ap, ◌∙◌, inl, inr}
use Rattle.std.specs.List.{list_all, filter}
use Rattle.std.specs.Str.{bytes_eq}
use Rattle.std.specs.Prelude.{option_and_then}
use Rattle.std.proofs.lemmas.Bool.{and_parts, cases_Bool, eq-eqb, not-true}
use Rattle.std.proofs.lemmas.Slice.Eq.{bytes_eq-Decides}
use Rattle.btor_tree.specs.Parts.{Parts}
use Rattle.btor_tree.specs.Shapes.{Word, is_unsupported, unsupported_content}
use Rattle.btor_tree.specs.Reading.{content_at, content_of, word_of}
use Rattle.btor_text.specs.Seen.{look_up, rows}
use Rattle.text_core.proofs.Truths.{passed_over}
use Rattle.text_core.specs.Bytes.{first_of}

abbrev Row : Type 0
Row = List ℕ × Word

step : (same : Bool) (text : List ℕ) (w : Row) (found : Option Word) (kept : List Row) → (bytes_eq text w.0 ≡ true → same ≡ true) → found ≡ look_up text kept
    → cond (bytes_eq text w.0) (Some w.1) found ≡ look_up text (cond same (w ∷ kept) kept)
step true text w found kept h e = ap (λ x. cond (bytes_eq text w.0) (Some w.1) x) e
step false text w found kept h e = passed_over (bytes_eq text w.0) (Some w.1) found (λ f. let g = h f in cc) ∙ e

pub found_same_first : (text : List ℕ) (ws : List Row) → look_up text ws ≡ look_up text (filter (λ w. eqb (first_of text) (first_of w.0)) ws)
found_same_first text [] = refl
found_same_first text (w ∷ ws) =
    step (eqb (first_of text) (first_of w.0)) text w _ _ (λ e. eq-eqb (first_of text) (first_of w.0) (ap first_of ((bytes_eq-Decides text w.0).0 e))) (found_same_first text ws)

-- where no word has this first byte, none is kept
pub none_from : (b : ℕ) (ws : List Row) → list_all (λ w. not (eqb b (first_of w.0))) ws ≡ true → filter (λ w. eqb b (first_of w.0)) ws ≡ []
none_from b [] all = refl
none_from b (w ∷ ws) all =
    let parts = and_parts (not (eqb b (first_of w.0))) (list_all (λ w. not (eqb b (first_of w.0))) ws) all in
    passed_over (eqb b (first_of w.0)) (w ∷ filter (λ w. eqb b (first_of w.0)) ws) _ (λ e. let g : not (eqb b (first_of w.0)) ≡ false = ap not e in cc) ∙ none_from b ws parts.1

abbrev is_read : Row → Bool
is_read w = not (is_unsupported w.0)

all_read : list_all is_read rows ≡ true
all_read = refl

read_there : (text : List ℕ) (ws : List Row) (v : Word) → list_all is_read ws ≡ true → look_up text ws ≡ Some v → is_unsupported text ≡ false
read_there text [] v all e = absurd cc
read_there text (w ∷ ws) v all e =
    let parts = and_parts (is_read w) (list_all is_read ws) all in
    elim (cases_Bool (bytes_eq text w.0)) [
      | inl t ↦ ap is_unsupported ((bytes_eq-Decides text w.0).0 t) ∙ not-true (is_unsupported w.0) parts.0
      | inr f ↦ read_there text ws v parts.1 (sym (ap (λ b. cond b (Some w.1) (look_up text ws)) f) ∙ e)
    ]

-- a word that is read is none of those that are left out
pub none_left_out : (text : List ℕ) (v : Word) → look_up text rows ≡ Some v → is_unsupported text ≡ false
none_left_out text v e = read_there text rows v all_read e

-- what a line says behind such a word
pub content_there : (text : List ℕ) (args whole : Parts) (v : Word) → whole ≡ text ∷ args → Some v ≡ word_of text → content_at args v ≡ content_of whole
content_there text args whole v e f =
    let g : is_unsupported text ≡ false = none_left_out text v (sym f) in
    ap (option_and_then (content_at args)) f
    ∙ sym (ap (λ b. cond b (Some (unsupported_content, [])) (option_and_then (content_at args) (word_of text))) g)
    ∙ ap content_of (sym e)
