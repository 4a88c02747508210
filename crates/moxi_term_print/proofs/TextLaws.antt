-- Pieces of texts, one behind the other.
use Rattle.std.proofs.Common.{◌≡◌, ◌<◌, ℕ, false, Result, Ok, Err, OnOk, List, [], ◌∷◌, ◌++◌, map, length, refl, ap, ◌∙◌, append_assoc, append-nil, arith}
use Rattle.moxi_sexpr.specs.declared.form.Atom.TheVariants.{Symbol}
use Rattle.moxi_sexpr.specs.Printing.{printed_atom}
use Rattle.moxi_terms.specs.declared.term.Term.{Term}
use Rattle.moxi_terms.specs.Tree.{trees_of}
use Rattle.moxi_terms.specs.View.{ScopeState, plain}
use Rattle.moxi_term_print.specs.Shown.{text_of, parts_text}
use Rattle.moxi_term_print.specs.Terms.{shown_call, shown_terms}

pub ok_same : {A E : Type 0} (r : Result A E) (z x y : List ℕ) → x ≡ y → OnOk r (z ≡ x) → OnOk r (z ≡ y)
ok_same (Ok a) z x y e h = h ∙ e
ok_same (Err a) z x y e h = h

-- two pieces more
pub onto : (old x y a b : List ℕ) → x ≡ old ++ a → y ≡ x ++ b → y ≡ old ++ (a ++ b)
onto old x y a b e f = f ∙ ap (λ z. z ++ b) e ∙ append_assoc old a b

-- `(word name (parts))`
pub enumeration_pieces : (w name parts : List ℕ)
    → (((40 ∷ (w ++ 32 ∷ []) ++ name) ++ 32 ∷ (40 ∷ [])) ++ parts) ++ 41 ∷ (41 ∷ []) ≡ 40 ∷ ((w ++ 32 ∷ (name ++ 32 ∷ ((40 ∷ (parts ++ 41 ∷ [])) ++ []))) ++ 41 ∷ [])
enumeration_pieces w name parts = grind (arith, append_assoc, append-nil)

-- `(word name () sort)`
pub sort_pieces : (w name sort : List ℕ)
    → (((40 ∷ (w ++ 32 ∷ []) ++ name) ++ 32 ∷ (40 ∷ (41 ∷ (32 ∷ [])))) ++ sort) ++ 41 ∷ [] ≡ 40 ∷ ((w ++ 32 ∷ (name ++ 32 ∷ ((40 ∷ (41 ∷ [])) ++ 32 ∷ (sort ++ [])))) ++ 41 ∷ [])
sort_pieces w name sort = grind (arith, append_assoc, append-nil)

-- `(word name variables sort term)`
pub function_pieces : (w name variables sort term : List ℕ)
    → (((((((40 ∷ (w ++ 32 ∷ []) ++ name) ++ 32 ∷ []) ++ variables) ++ 32 ∷ []) ++ sort) ++ 32 ∷ []) ++ term) ++ 41 ∷ []
    ≡ 40 ∷ ((w ++ 32 ∷ (name ++ 32 ∷ (variables ++ 32 ∷ (sort ++ 32 ∷ (term ++ []))))) ++ 41 ∷ [])
function_pieces w name variables sort term = simp (append_assoc, append-nil) refl

-- a call with arguments
pub call_text : (s : ScopeState) (vars bounds : List (List ℕ)) (name : List ℕ) (ts : List Term) → 0 < length ts
    → text_of (shown_call name (shown_terms s vars bounds (trees_of (map plain ts)))) ≡ 40 ∷ ((printed_atom (Symbol name false) ++ parts_text (32 ∷ []) (shown_terms s vars bounds (trees_of (map plain ts)))) ++ 41 ∷ [])
call_text s vars bounds name [] h = absurd (omega arith)
call_text s vars bounds name (t ∷ ts) h = refl
