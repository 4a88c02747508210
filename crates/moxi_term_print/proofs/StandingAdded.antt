-- The names of a scope can still be spelled after a declaration is added to it.
use Rattle.std.proofs.Common.{ℕ, List, [], ◌∷◌, ◌++◌, sym, subst}
use Rattle.moxi_terms.specs.declared.data.Sort.{Sort}
use Rattle.moxi_terms.specs.Tree.{PlainFunction}
use Rattle.moxi_terms.specs.View.{ScopeState}
use Rattle.moxi_terms.specs.Names.{enumeration_names, function_names, all_constants, with_enumeration, with_function, with_sort}
use Rattle.moxi_term_print.specs.StandingNames.{IsSpellable, AreSpellable, IsSpellableScope}
use Rattle.moxi_term_print.proofs.StandingGrow.{constants_append, names_append}
use Rattle.moxi_term_print.proofs.StandingScopes.{enumerations_append}
use Rattle.text_core.proofs.ListLaws.{all_append}

pub spelled_enumeration : (s : ScopeState) (name : List ℕ) (constants : List (List ℕ)) → IsSpellable name → AreSpellable constants → IsSpellableScope s → IsSpellableScope (with_enumeration s name constants)
spelled_enumeration s name constants h g n =
    let e = record { name = name; constants = constants } ∷ [] in
    record {
      enumerations = subst AreSpellable (sym (enumerations_append s.enumerations e)) (all_append IsSpellable (enumeration_names s) (name ∷ []) n.enumerations (h, tt));
      constants =
          subst AreSpellable (sym (constants_append s.enumerations e)) (all_append IsSpellable (all_constants s.enumerations) (constants ++ []) n.constants (all_append IsSpellable constants [] g tt));
      functions = n.functions;
    }

pub spelled_function : (s : ScopeState) (f : PlainFunction) → IsSpellable f.name → IsSpellableScope s → IsSpellableScope (with_function s f)
spelled_function s f h n = record {
  enumerations = n.enumerations;
  constants = n.constants;
  functions = subst AreSpellable (sym (names_append s.functions (f ∷ []))) (all_append IsSpellable (function_names s) (f.name ∷ []) n.functions (h, tt));
}

pub spelled_sort : (s : ScopeState) (name : List ℕ) (sort : Sort) → IsSpellableScope s → IsSpellableScope (with_sort s name sort)
spelled_sort s name sort n = record { enumerations = n.enumerations; constants = n.constants; functions = n.functions }
