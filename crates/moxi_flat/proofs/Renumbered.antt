-- A renumbered term has the same value, where each variable has what its number had.
use Rattle.std.proofs.Common.{◌≡◌, ℕ, ◌<◌, true, false, List, [], ◌∷◌, ◌++◌, length, refl, sym, ap, ◌∙◌}
use Rattle.std.proofs.lemmas.Option.{slice_get_within}
use Rattle.moxi_terms.specs.declared.data.Sort.{Sort}
use Rattle.moxi_terms.specs.declared.data.Datum.{Datum}
use Rattle.moxi_terms.specs.declared.term.Enumeration.{Enumeration}
use Rattle.moxi_terms.specs.Operators.{op_value}
use Rattle.moxi_terms.specs.Sorted.{HasSort, HaveSorts}
use Rattle.moxi_terms.specs.Tree.{Tree, constant, variable, bound, apply, binding, call, Trees, no_trees, tree, PlainFunction, sorts_of}
use Rattle.moxi_terms.specs.Value.{Calls, Values, term_value, term_values}
use Rattle.moxi_flat.specs.Renumbering.{renumbered, all_renumbered, IsOver, AreOver}

module _ (calls : Calls) (place : ℕ → ℕ) (n : ℕ) (now later own own_later : Values)
    (same_now : (v : ℕ) → v < n → now (place v) ≡ own v) (same_later : (v : ℕ) → v < n → later (place v) ≡ own_later v) where
  mutual
    pub value_renumbered : (vals : List Datum) (t : Tree) → IsOver n t → term_value calls now later vals (renumbered place t) ≡ term_value calls own own_later vals t
    value_renumbered vals (constant d) h = refl
    value_renumbered vals (variable v true) h = same_later v h
    value_renumbered vals (variable v false) h = same_now v h
    value_renumbered vals (bound i) h = refl
    value_renumbered vals (apply o ts) h = ap (op_value o) (values_renumbered vals ts h)
    value_renumbered vals (binding names ts t) h =
        ap (λ vs. term_value calls now later (vals ++ vs) (renumbered place t)) (values_renumbered vals ts h.0)
        ∙ value_renumbered (vals ++ term_values calls own own_later vals ts) t h.1
    value_renumbered vals (call m ts) h = ap (calls m) (values_renumbered vals ts h)

    pub values_renumbered : (vals : List Datum) (ts : Trees) → AreOver n ts → term_values calls now later vals (all_renumbered place ts) ≡ term_values calls own own_later vals ts
    values_renumbered vals no_trees h = refl
    values_renumbered vals (tree t ts) h =
        ap (λ v. v ∷ term_values calls now later vals (all_renumbered place ts)) (value_renumbered vals t h.0)
        ∙ ap (λ vs. term_value calls own own_later vals t ∷ vs) (values_renumbered vals ts h.1)

-- a term that has a sort is over the declared variables
mutual
  pub sorted_over : (es : List Enumeration) (fs : List PlainFunction) (vars bounds : List Sort) (t : Tree) (s : Sort) → HasSort es fs vars bounds t s → IsOver (length vars) t
  sorted_over es fs vars bounds (constant d) s h = tt
  sorted_over es fs vars bounds (variable v primed) s h = slice_get_within vars v s h
  sorted_over es fs vars bounds (bound i) s h = tt
  sorted_over es fs vars bounds (apply o ts) s h = all_over es fs vars bounds ts h.0 h.1
  sorted_over es fs vars bounds (binding names ts t) s h = (all_over es fs vars bounds ts h.0 h.2, sorted_over es fs vars (bounds ++ h.0) t s h.3)
  sorted_over es fs vars bounds (call n ts) s h = all_over es fs vars bounds ts (sorts_of h.0.parameters) h.2

  pub all_over : (es : List Enumeration) (fs : List PlainFunction) (vars bounds : List Sort) (ts : Trees) (ss : List Sort) → HaveSorts es fs vars bounds ts ss → AreOver (length vars) ts
  all_over es fs vars bounds no_trees ss h = tt
  all_over es fs vars bounds (tree t ts) [] h = absurd h
  all_over es fs vars bounds (tree t ts) (s ∷ ss) h = (sorted_over es fs vars bounds t s h.0, all_over es fs vars bounds ts ss h.1)

-- with the same numbers it is the same term
mutual
  pub renumbered_same : (t : Tree) → renumbered (λ v. v) t ≡ t
  renumbered_same (constant d) = refl
  renumbered_same (variable v primed) = refl
  renumbered_same (bound i) = refl
  renumbered_same (apply o ts) = ap (apply o) (all_same ts)
  renumbered_same (binding names ts t) = ap (λ us. binding names us (renumbered (λ v. v) t)) (all_same ts) ∙ ap (binding names ts) (renumbered_same t)
  renumbered_same (call n ts) = ap (call n) (all_same ts)

  all_same : (ts : Trees) → all_renumbered (λ v. v) ts ≡ ts
  all_same no_trees = refl
  all_same (tree t ts) = ap (λ u. tree u (all_renumbered (λ v. v) ts)) (renumbered_same t) ∙ ap (tree t) (all_same ts)

-- only the first n variables count
pub value_local : (calls : Calls) (n : ℕ) (now own : Values) → ((v : ℕ) → v < n → now v ≡ own v)
    → (t : Tree) → IsOver n t → term_value calls now now [] t ≡ term_value calls own own [] t
value_local calls n now own e t over = sym (ap (term_value calls now now []) (renumbered_same t)) ∙ value_renumbered calls (λ v. v) n now now own own e e [] t over
