-- A term that can appear in a place has its sort there.
use Rattle.std.proofs.Common.{◌≡◌, ℕ, ◌+◌, Bool, true, false, cond, eqb, Option, None, Some, List, [], ◌∷◌, ◌++◌, length, refl, sym, ap, ◌∙◌, subst, arith}
use Rattle.std.specs.Prelude.{slice_get, option_and_then, codes}
use Rattle.std.specs.Option.{option_map}
use Rattle.std.specs.Str.{bytes_eq}
use Rattle.moxi_terms.specs.declared.data.Sort.{Sort}
use Rattle.moxi_terms.specs.declared.data.Sort.TheVariants.{Truth, Bits, Choice}
use Rattle.moxi_terms.specs.declared.data.Datum.{Datum}
use Rattle.moxi_terms.specs.declared.data.Datum.TheVariants as datum
use Rattle.moxi_term_reading.specs.declared.locals.Local.{Local}
use Rattle.moxi_terms.specs.declared.names.Meaning.{Meaning}
use Rattle.moxi_terms.specs.declared.names.Meaning.TheVariants as meaning
use Rattle.moxi_terms.specs.declared.term.Variable.{Variable}
use Rattle.moxi_terms.specs.Names.{all_constants, constant_named, constant_numbers, function_names, or_else}
use Rattle.name_maps.specs.Names.{place_of}
use Rattle.moxi_terms.specs.Meanings as reading
use Rattle.moxi_term_reading.specs.Finding as finding
use Rattle.moxi_term_reading.specs.Reading.{Context, meaning_of, names_of}
use Rattle.moxi_term_reading.specs.Finding.{Found}
use Rattle.moxi_terms.specs.Sorted.{HasSort, HaveSorts}
use Rattle.moxi_terms.specs.Sorts.{IsOf}
use Rattle.moxi_terms.specs.Tree.{Tree, constant, variable, bound, apply, binding, call, Trees, no_trees, tree, PlainFunction, sorts_of}
use Rattle.moxi_term_reading.specs.WellSorted.{HaveKnownSorts}
use Rattle.moxi_term_reading.specs.laws.SortedParts.{FoundIn, constant_is, first_found, known_append, last_found}
use Rattle.moxi_term_print.specs.WellScoped.{AreWellScoped, IsWellScoped, IsWellScopedValue, bound_locals}
use Rattle.moxi_term_print.specs.Terms.{constant_name, name_at}

bound_known : (names : List (List ℕ)) (ss : List Sort) → length names ≡ length ss → HaveKnownSorts (bound_locals names ss) ss
bound_known [] [] h = tt
bound_known [] (s ∷ ss) h = absurd (cc)
bound_known (name ∷ names) [] h = absurd (cc)
bound_known (name ∷ names) (s ∷ ss) h = (refl, bound_known names ss (omega arith))

module _ (c : Context) (vars : List Sort) (of_vars : HaveKnownSorts c.variables vars) where
  -- what a name stands for has its sort
  abbrev Fits : List Sort → Option Meaning → Type 0
  Fits ss None = Unit {0}
  Fits ss (Some (meaning.Bound i s)) = (sort : Sort) × (s ≡ Some sort) × (slice_get ss i ≡ Some sort)
  Fits ss (Some (meaning.Variable v s)) = (sort : Sort) × (s ≡ Some sort) × (slice_get vars v ≡ Some sort)
  Fits ss (Some (meaning.Value d s)) = IsOf c.scope.enumerations s d
  Fits ss (Some (meaning.Call n s)) = Unit {0}

  either_fits : (ss : List Sort) (a b : Option Meaning) → Fits ss a → Fits ss b → Fits ss (or_else a b)
  either_fits ss None b h g = g
  either_fits ss (Some m) b h g = h

  bound_fits : (ss : List Sort) (o : Option Found) → FoundIn 0 ss o → Fits ss (option_map (λ (f : Found). meaning.Bound f.number f.sort) o)
  bound_fits ss None h = tt
  bound_fits ss (Some f) h = (h.1, h.4, ap (slice_get ss) (let e : f.number ≡ 0 + h.0 = h.2 in let e2 : f.number ≡ h.0 = omega arith in e2) ∙ h.3)

  variable_fits : (ss : List Sort) (o : Option Found) → FoundIn 0 vars o → Fits ss (option_map (λ (f : Found). meaning.Variable f.number f.sort) o)
  variable_fits ss None h = tt
  variable_fits ss (Some f) h = (h.1, h.4, ap (slice_get vars) (let e : f.number ≡ 0 + h.0 = h.2 in let e2 : f.number ≡ h.0 = omega arith in e2) ∙ h.3)

  constant_fits : (ss : List Sort) (k : Option ℕ) → Fits ss (option_map (λ (x : ℕ × ℕ). meaning.Value (datum.Constant x.0 x.1) (Choice x.0)) (option_and_then (slice_get (constant_numbers 0 c.scope.enumerations)) k))
  constant_fits ss None = tt
  constant_fits ss (Some k) = by_place (slice_get (constant_numbers 0 c.scope.enumerations) k) refl
    where
      by_place : (o : Option (ℕ × ℕ)) → slice_get (constant_numbers 0 c.scope.enumerations) k ≡ o → Fits ss (option_map (λ (x : ℕ × ℕ). meaning.Value (datum.Constant x.0 x.1) (Choice x.0)) o)
      by_place None e = tt
      by_place (Some x) e = (refl, constant_is c.scope.enumerations k x e)

  value_fits : (ss : List Sort) (name : List ℕ) → Fits ss (reading.value_named c.scope name)
  value_fits ss name = by_true (bytes_eq name (codes "true")) (bytes_eq name (codes "false"))
    where
      by_true : (a b : Bool) → Fits ss (cond a (Some (meaning.Value (datum.Truth true) Truth)) (cond b (Some (meaning.Value (datum.Truth false) Truth))
          (option_map (λ (x : ℕ × ℕ). meaning.Value (datum.Constant x.0 x.1) (Choice x.0)) (constant_named c.scope name))))
      by_true true b = tt
      by_true false true = tt
      by_true false false = constant_fits ss (place_of (all_constants c.scope.enumerations) name)

  call_fits : (ss : List Sort) (o : Option ℕ) → Fits ss (reading.call_of reading.bare_call c.scope.functions o)
  call_fits ss None = tt
  call_fits ss (Some n) = by_function (slice_get c.scope.functions n)
    where
      by_count : (f : PlainFunction) (b : Bool) → Fits ss (cond b (Some (meaning.Call n f.result)) None)
      by_count f true = tt
      by_count f false = tt

      by_function : (o : Option PlainFunction) → Fits ss (reading.bare_call n o)
      by_function None = tt
      by_function (Some f) = by_count f (eqb (length f.parameters) 0)

  name_fits : (ls : List Local) (ss : List Sort) (name : List ℕ) → HaveKnownSorts ls ss → Fits ss (meaning_of c ls name)
  name_fits ls ss name h =
      either_fits ss _ _ (bound_fits ss (finding.last_of 0 ls name) (last_found 0 ls ss name h))
      (either_fits ss _ _ (variable_fits ss (finding.first_of 0 c.variables name) (first_found 0 c.variables vars name of_vars))
      (either_fits ss _ _ (value_fits ss name) (call_fits ss (place_of (function_names c.scope) name))))

  -- what a name means has its sort
  meant : (ls : List Local) (ss : List Sort) (name : List ℕ) (m : Meaning) → HaveKnownSorts ls ss → meaning_of c ls name ≡ Some m → Fits ss (Some m)
  meant ls ss name m h e = subst (Fits ss) e (name_fits ls ss name h)

  value_sorted : (ls : List Local) (ss : List Sort) (d : Datum) (s : Sort) → HaveKnownSorts ls ss → IsWellScopedValue c ls d s → IsOf c.scope.enumerations s d
  value_sorted ls ss (datum.Truth b) s k h = subst (λ u. IsOf c.scope.enumerations u (datum.Truth b)) (sym h.0) tt
  value_sorted ls ss (datum.Bits w) s k h = subst (λ u. IsOf c.scope.enumerations u (datum.Bits w)) (sym h.0) (refl, h.1)
  value_sorted ls ss (datum.Constant n i) s k h =
      subst (λ u. IsOf c.scope.enumerations u (datum.Constant n i)) (sym h.0) (meant ls ss (constant_name c.scope n i) (meaning.Value (datum.Constant n i) (Choice n)) k h.1)

  mutual
    pub stands_sorted : (ls : List Local) (ss : List Sort) (t : Tree) (s : Sort) → HaveKnownSorts ls ss → IsWellScoped c ls t s → HasSort c.scope.enumerations c.scope.functions vars ss t s
    stands_sorted ls ss (constant d) s k h = value_sorted ls ss d s k h
    stands_sorted ls ss (variable v primed) s k h =
        let f = meant ls ss (name_at (names_of c.variables) v) (meaning.Variable v (Some s)) k h.0 in
        f.2 ∙ sym f.1
    stands_sorted ls ss (bound i) s k h =
        let f = meant ls ss (name_at (names_of ls) i) (meaning.Bound i (Some s)) k h in
        f.2 ∙ sym f.1
    stands_sorted ls ss (apply o ts) s k h = (h.0, each_sorted ls ss ts h.0 k h.1, h.2)
    stands_sorted ls ss (binding names ts t) s k h = (
      h.0,
      h.2,
      each_sorted ls ss ts h.0 k h.3,
      stands_sorted (ls ++ bound_locals names h.0) (ss ++ h.0) t s (known_append ls (bound_locals names h.0) ss h.0 k (bound_known names h.0 h.2)) h.4,
    )
    stands_sorted ls ss (call n ts) s k h = (h.0, h.1, each_sorted ls ss ts (sorts_of h.0.parameters) k h.3, sym h.2)

    each_sorted : (ls : List Local) (ss : List Sort) (ts : Trees) (us : List Sort) → HaveKnownSorts ls ss → AreWellScoped c ls ts us → HaveSorts c.scope.enumerations c.scope.functions vars ss ts us
    each_sorted ls ss no_trees [] k h = tt
    each_sorted ls ss no_trees (u ∷ us) k h = absurd h
    each_sorted ls ss (tree t ts) [] k h = absurd h
    each_sorted ls ss (tree t ts) (u ∷ us) k h = (stands_sorted ls ss t u k h.0, each_sorted ls ss ts us k h.1)
