-- What is shown of sorts and terms is the same in a scope and in one that has grown from it.
use Rattle.std.proofs.Common.{◌≡◌, ℕ, Some, List, [], ◌∷◌, ◌++◌, map, refl, sym, ap, ◌∙◌}
use Rattle.std.specs.Prelude.{slice_get, codes}
use Rattle.moxi_terms.specs.declared.data.Datum.{Datum}
use Rattle.moxi_terms.specs.declared.data.Datum.TheVariants as datum
use Rattle.moxi_terms.specs.declared.data.Sort.{Sort}
use Rattle.moxi_terms.specs.declared.data.Sort.TheVariants.{Truth, Bits, Choice}
use Rattle.moxi_term_reading.specs.declared.locals.Local.{Local}
use Rattle.moxi_terms.specs.declared.term.Enumeration.{Enumeration}
use Rattle.moxi_terms.specs.declared.term.Variable.{Variable}
use Rattle.moxi_terms.specs.Names.{function_names}
use Rattle.moxi_term_reading.specs.Reading.{Context}
use Rattle.moxi_terms.specs.Tree.{Tree, constant, variable, bound, apply, binding, call, Trees, no_trees, tree, PlainFunction, sorts_of}
use Rattle.moxi_terms.specs.View.{ScopeState}
use Rattle.moxi_term_print.specs.Shown.{word, group, no_showns, shown}
use Rattle.moxi_term_print.specs.WellScoped.{bound_locals, IsWellScoped, AreWellScoped}
use Rattle.moxi_term_print.specs.Terms.{constants_or_none, name_at, shown_bindings, shown_call, shown_operator, shown_sort, shown_term, shown_terms, shown_value, shown_variable, shown_variables, symbol}
use Rattle.moxi_scripts.specs.laws.WholeParts.{get_map, index_get}

pub same_sorts_shown : (s u : ScopeState) → s.enumerations ≡ u.enumerations → (sort : Sort) → shown_sort s sort ≡ shown_sort u sort
same_sorts_shown s u e Truth = refl
same_sorts_shown s u e (Bits w) = refl
same_sorts_shown s u e (Choice n) = ap (λ es. symbol (name_at (map (λ (e : Enumeration). e.name) es) n)) e

pub same_variables_shown : (s u : ScopeState) → s.enumerations ≡ u.enumerations → (vs : List Variable) → shown_variables s vs ≡ shown_variables u vs
same_variables_shown s u e [] = refl
same_variables_shown s u e (v ∷ vs) =
    ap (λ x. shown (group (shown (symbol v.name) (shown x no_showns))) (shown_variables s vs)) (same_sorts_shown s u e v.sort) ∙ ap (shown (shown_variable u v)) (same_variables_shown s u e vs)

-- the functions of the context are at the same places in the other scope
module _ (c : Context) (u : ScopeState) (same : u.enumerations ≡ c.scope.enumerations) (there : (n : ℕ) (f : PlainFunction) → slice_get c.scope.functions n ≡ Some f → slice_get u.functions n ≡ Some f) where
  value_shown : (d : Datum) → shown_value u d ≡ shown_value c.scope d
  value_shown (datum.Truth b) = refl
  value_shown (datum.Bits w) = refl
  value_shown (datum.Constant n i) = ap (λ es. symbol (name_at (constants_or_none (slice_get es n)) i)) same

  function_shown : (n : ℕ) (f : PlainFunction) → slice_get c.scope.functions n ≡ Some f → name_at (function_names u) n ≡ name_at (function_names c.scope) n
  function_shown n f e =
      let name = λ (f : PlainFunction). f.name in
      index_get (function_names u) n f.name [] (get_map name u.functions n f (there n f e)) ∙ sym (index_get (function_names c.scope) n f.name [] (get_map name c.scope.functions n f e))

  mutual
    pub term_shown : (vars names : List (List ℕ)) (bounds : List Local) (t : Tree) (s : Sort) → IsWellScoped c bounds t s → shown_term u vars names t ≡ shown_term c.scope vars names t
    term_shown vars names bounds (constant d) s h = value_shown d
    term_shown vars names bounds (variable v primed) s h = refl
    term_shown vars names bounds (bound i) s h = refl
    term_shown vars names bounds (apply o ts) s h = ap (λ xs. group (shown (shown_operator o) xs)) (terms_shown vars names bounds ts h.0 h.1)
    term_shown vars names bounds (binding ns ts t) s h =
        ap (λ xs. group (shown (word (codes "let")) (shown (group xs) (shown (shown_term u vars (names ++ ns) t) no_showns)))) (bindings_shown vars names bounds ns ts h.0 h.3)
        ∙ ap (λ x. group (shown (word (codes "let")) (shown (group (shown_bindings c.scope vars names ns ts)) (shown x no_showns)))) (term_shown vars (names ++ ns) (bounds ++ bound_locals ns h.0) t s h.4)
    term_shown vars names bounds (call n ts) s h =
        ap (λ name. shown_call name (shown_terms u vars names ts)) (function_shown n h.0 h.1) ∙ ap (shown_call (name_at (function_names c.scope) n)) (terms_shown vars names bounds ts (sorts_of h.0.parameters) h.3)

    terms_shown : (vars names : List (List ℕ)) (bounds : List Local) (ts : Trees) (ss : List Sort) → AreWellScoped c bounds ts ss → shown_terms u vars names ts ≡ shown_terms c.scope vars names ts
    terms_shown vars names bounds no_trees [] h = refl
    terms_shown vars names bounds no_trees (s ∷ ss) h = absurd h
    terms_shown vars names bounds (tree t ts) [] h = absurd h
    terms_shown vars names bounds (tree t ts) (s ∷ ss) h =
        ap (λ x. shown x (shown_terms u vars names ts)) (term_shown vars names bounds t s h.0) ∙ ap (shown (shown_term c.scope vars names t)) (terms_shown vars names bounds ts ss h.1)

    bindings_shown : (vars names : List (List ℕ)) (bounds : List Local) (ns : List (List ℕ)) (ts : Trees) (ss : List Sort) → AreWellScoped c bounds ts ss
        → shown_bindings u vars names ns ts ≡ shown_bindings c.scope vars names ns ts
    bindings_shown vars names bounds ns no_trees ss h = refl
    bindings_shown vars names bounds [] (tree t ts) ss h = refl
    bindings_shown vars names bounds (n ∷ ns) (tree t ts) [] h = absurd h
    bindings_shown vars names bounds (n ∷ ns) (tree t ts) (s ∷ ss) h =
        ap (λ x. shown (group (shown (symbol n) (shown x no_showns))) (shown_bindings u vars names ns ts)) (term_shown vars names bounds t s h.0)
        ∙ ap (shown (group (shown (symbol n) (shown (shown_term c.scope vars names t) no_showns)))) (bindings_shown vars names bounds ns ts ss h.1)
