-- What a scope that has grown keeps, in the words of terms that can appear in it.
use Rattle.std.proofs.Common.{◌≡◌, ℕ, Bool, true, false, List, [], ◌∷◌, map, refl, subst}
use Rattle.std.specs.List.{AllByRecursion, list_any}
use Rattle.std.specs.Str.{bytes_eq}
use Rattle.std.proofs.lemmas.Slice.Eq.{bytes_eq-Decides}
use Rattle.moxi_terms.specs.Names.{all_constants, is_term_name}
use Rattle.moxi_terms.specs.Tree.{PlainFunction}
use Rattle.moxi_terms.specs.View.{ScopeState}
use Rattle.moxi_term_print.specs.StandingGrows.{Grows}
use Rattle.moxi_scripts.specs.laws.WholeNames.{Absent, or_both}
use Rattle.moxi_scripts.specs.laws.WholeScopes.{GrowsTo, absent_among}

pub none_equal : (s : ScopeState) (name : List ℕ) (names : List (List ℕ)) → is_term_name s name ≡ true → AllByRecursion (λ (other : List ℕ). is_term_name s other ≡ false) names → Absent names name
none_equal s name [] h a = refl
none_equal s name (other ∷ names) h a = or_both (bytes_eq name other) (list_any (bytes_eq name) names) (by_test (bytes_eq name other) refl) (none_equal s name names h a.1)
  where
    by_test : (b : Bool) → bytes_eq name other ≡ b → b ≡ false
    by_test true e = let same : name ≡ other = (bytes_eq-Decides name other).0 e in let old : is_term_name s other ≡ true = subst (λ n. is_term_name s n ≡ true) same h in absurd (cc)
    by_test false e = refl

pub grows_is : (s t : ScopeState) → GrowsTo s t → Grows s t
grows_is s t g = record {
  enumerations = g.more_enumerations;
  sorts = g.more_sorts;
  functions = g.more_functions;
  all_enumerations = g.enumerations;
  all_sorts = g.sorts;
  all_functions = g.functions;
  fresh = λ name h. (
    absent_among (all_constants g.more_enumerations) name (none_equal s name (all_constants g.more_enumerations) h g.constants_new),
    absent_among (map (λ (f : PlainFunction). f.name) g.more_functions) name (none_equal s name (map (λ (f : PlainFunction). f.name) g.more_functions) h g.functions_new),
  );
}
