-- Scopes that grow: what is declared stays as it is, and the names that are added are new.
use Rattle.std.proofs.Common.{◌≡◌, ℕ, ◌<◌, Bool, true, false, not, ◌||◌, is_none, is_some, Option, None, Some, List, [], ◌∷◌, ◌++◌, map, take, length, refl, sym, ap, ◌∙◌, subst, arith, append_assoc, append-nil, inl, inr}
use Rattle.std.specs.Prelude.{codes}
use Rattle.std.specs.List.{AllByRecursion, list_any}
use Rattle.std.specs.Str.{bytes_eq}
use Rattle.std.proofs.lemmas.Bool.{and_parts}
use Rattle.std.proofs.lemmas.List.{length-append, take-append-le}
use Rattle.moxi_terms.specs.declared.data.Sort.{Sort}
use Rattle.moxi_terms.specs.declared.data.Sort.TheVariants.{Truth, Bits, Choice}
use Rattle.moxi_terms.specs.declared.data.Datum.{Datum}
use Rattle.moxi_terms.specs.declared.data.Datum.TheVariants as datum
use Rattle.moxi_terms.specs.declared.term.Enumeration.{Enumeration}
use Rattle.moxi_terms.specs.declared.term.NamedSort.{NamedSort}
use Rattle.moxi_terms.specs.Names.{all_constants, enumeration_names, function_names, is_among, is_sort_name, is_term_name, may_be_constants, may_be_enumeration, sort_names, with_enumeration, with_function, with_sort}
use Rattle.name_maps.specs.Names.{are_fresh, place_of}
use Rattle.moxi_terms.specs.Sorted.{AreFunctions, HasSort, HaveSorts, IsFunction, IsScope}
use Rattle.moxi_terms.specs.Sorts.{IsConstant, IsOf, IsSort}
use Rattle.moxi_terms.specs.Tree.{Tree, constant, variable, bound, apply, binding, call, Trees, no_trees, tree, PlainFunction, sorts_of}
use Rattle.moxi_terms.specs.View.{ScopeState}
use Rattle.moxi_terms.specs.Words.{is_operator}
use Rattle.moxi_scripts.specs.Valid.{AreNames, is_fixed_sort, is_fixed_term}
use Rattle.moxi_scripts.specs.laws.ListLaws.{get_left}
use Rattle.moxi_scripts.specs.laws.WholeNames.{Absent, absent_append, absent_is, absent_parts, absent_swap, fresh_between, fresh_more, fresh_end, not_true, or_both, or_parts}
use Rattle.moxi_scripts.specs.laws.WholeParts.{all_append, all_parts, get_below, map_append}
use Rattle.name_maps.specs.laws.Places.{placed}
use Rattle.moxi_terms.proofs.ScopeLaws.{all_of, append_cases}

-- THE NAMES OF A SCOPE

none_of_some : {A : Type 0} (o : Option A) → is_some o ≡ false → is_none o ≡ true
none_of_some None h = refl
none_of_some (Some x) h = absurd (cc)

some_of_none : {A : Type 0} (o : Option A) → is_none o ≡ true → is_some o ≡ false
some_of_none None h = refl
some_of_none (Some x) h = absurd (cc)

pub among_absent : (names : List (List ℕ)) (name : List ℕ) → is_among names name ≡ false → Absent names name
among_absent names name h = absent_is names name (none_of_some (place_of names name) h)

pub absent_among : (names : List (List ℕ)) (name : List ℕ) → Absent names name → is_among names name ≡ false
absent_among names name h = some_of_none (place_of names name) (placed names name ∙ ap not h)

pub record IsNewTerm (s : ScopeState) (name : List ℕ) : Type 0 where
  pub free : is_fixed_term name ≡ false
  pub constants : Absent (all_constants s.enumerations) name
  pub functions : Absent (function_names s) name

pub new_term : (s : ScopeState) (name : List ℕ) → is_term_name s name ≡ false → IsNewTerm s name
new_term s name h =
    let cs = is_among (all_constants s.enumerations) name in
    let fs = is_among (function_names s) name in
    let p = or_parts (is_operator name) (bytes_eq name (codes "true") || (bytes_eq name (codes "false") || (cs || fs))) h in
    let q = or_parts (bytes_eq name (codes "true")) (bytes_eq name (codes "false") || (cs || fs)) p.1 in
    let r = or_parts (bytes_eq name (codes "false")) (cs || fs) q.1 in
    let t = or_parts cs fs r.1 in
    record {
      free = or_both (is_operator name) (bytes_eq name (codes "true") || bytes_eq name (codes "false")) p.0 (or_both (bytes_eq name (codes "true")) (bytes_eq name (codes "false")) q.0 r.0);
      constants = among_absent (all_constants s.enumerations) name t.0;
      functions = among_absent (function_names s) name t.1;
    }

pub term_new : (s : ScopeState) (name : List ℕ) → IsNewTerm s name → is_term_name s name ≡ false
term_new s name n =
    let cs = is_among (all_constants s.enumerations) name in
    let fs = is_among (function_names s) name in
    let p = or_parts (is_operator name) (bytes_eq name (codes "true") || bytes_eq name (codes "false")) n.free in
    let q = or_parts (bytes_eq name (codes "true")) (bytes_eq name (codes "false")) p.1 in
    or_both (is_operator name) (bytes_eq name (codes "true") || (bytes_eq name (codes "false") || (cs || fs))) p.0
    (or_both (bytes_eq name (codes "true")) (bytes_eq name (codes "false") || (cs || fs)) q.0
    (or_both (bytes_eq name (codes "false")) (cs || fs) q.1
    (or_both cs fs (absent_among (all_constants s.enumerations) name n.constants) (absent_among (function_names s) name n.functions))))

record IsNewSort (s : ScopeState) (name : List ℕ) : Type 0 where
  pub free : is_fixed_sort name ≡ false
  pub enumerations : Absent (enumeration_names s) name
  pub sorts : Absent (sort_names s) name

new_sort : (s : ScopeState) (name : List ℕ) → is_sort_name s name ≡ false → IsNewSort s name
new_sort s name h =
    let es = is_among (enumeration_names s) name in
    let ss = is_among (sort_names s) name in
    let p = or_parts (bytes_eq name (codes "Bool")) (bytes_eq name (codes "BitVec") || (es || ss)) h in
    let q = or_parts (bytes_eq name (codes "BitVec")) (es || ss) p.1 in
    let r = or_parts es ss q.1 in
    record {
      free = or_both (bytes_eq name (codes "Bool")) (bytes_eq name (codes "BitVec")) p.0 q.0;
      enumerations = among_absent (enumeration_names s) name r.0;
      sorts = among_absent (sort_names s) name r.1;
    }

pub constants_append : (es more : List Enumeration) → all_constants (es ++ more) ≡ all_constants es ++ all_constants more
constants_append [] more = refl
constants_append (e ∷ es) more = ap (λ cs. e.constants ++ cs) (constants_append es more) ∙ sym (append_assoc e.constants (all_constants es) (all_constants more))

constants_end : (es : List Enumeration) (name : List ℕ) (cs : List (List ℕ)) → all_constants (es ++ record { name = name; constants = cs } ∷ []) ≡ all_constants es ++ cs
constants_end es name cs = constants_append es (record { name = name; constants = cs } ∷ []) ∙ ap (λ x. all_constants es ++ x) (append-nil cs)

-- GROWTH

pub record GrowsTo (s t : ScopeState) : Type 0 where
  pub more_enumerations : List Enumeration
  pub more_sorts : List NamedSort
  pub more_functions : List PlainFunction
  pub enumerations : t.enumerations ≡ s.enumerations ++ more_enumerations
  pub sorts : t.sorts ≡ s.sorts ++ more_sorts
  pub functions : t.functions ≡ s.functions ++ more_functions
  pub constants_new : AllByRecursion (λ (name : List ℕ). is_term_name s name ≡ false) (all_constants more_enumerations)
  pub functions_new : AllByRecursion (λ (name : List ℕ). is_term_name s name ≡ false) (map (λ (f : PlainFunction). f.name) more_functions)

pub stays_new : (s t : ScopeState) → GrowsTo s t → (name : List ℕ) → is_term_name t name ≡ false → is_term_name s name ≡ false
stays_new s t g name h =
    let n = new_term t name h in
    term_new s name (record {
      free = n.free;
      constants = (absent_parts (all_constants s.enumerations) (all_constants g.more_enumerations) name (subst (λ cs. Absent cs name) (ap all_constants g.enumerations ∙ constants_append s.enumerations g.more_enumerations) n.constants)).0;
      functions = (absent_parts (function_names s) (map (λ (f : PlainFunction). f.name) g.more_functions) name
          (subst (λ fs. Absent fs name) (ap (map (λ (f : PlainFunction). f.name)) g.functions ∙ map_append (λ (f : PlainFunction). f.name) s.functions g.more_functions) n.functions)).0;
    })

pub grows_same : (s : ScopeState) → GrowsTo s s
grows_same s = record {
  more_enumerations = [];
  more_sorts = [];
  more_functions = [];
  enumerations = sym (append-nil s.enumerations);
  sorts = sym (append-nil s.sorts);
  functions = sym (append-nil s.functions);
  constants_new = tt;
  functions_new = tt;
}

pub grows_on : (s t u : ScopeState) → GrowsTo s t → GrowsTo t u → GrowsTo s u
grows_on s t u g h =
    let new = λ (name : List ℕ). is_term_name s name ≡ false in
    record {
      more_enumerations = g.more_enumerations ++ h.more_enumerations;
      more_sorts = g.more_sorts ++ h.more_sorts;
      more_functions = g.more_functions ++ h.more_functions;
      enumerations = h.enumerations ∙ ap (λ x. x ++ h.more_enumerations) g.enumerations ∙ append_assoc s.enumerations g.more_enumerations h.more_enumerations;
      sorts = h.sorts ∙ ap (λ x. x ++ h.more_sorts) g.sorts ∙ append_assoc s.sorts g.more_sorts h.more_sorts;
      functions = h.functions ∙ ap (λ x. x ++ h.more_functions) g.functions ∙ append_assoc s.functions g.more_functions h.more_functions;
      constants_new = subst (AllByRecursion new) (sym (constants_append g.more_enumerations h.more_enumerations))
          (all_append new (all_constants g.more_enumerations) (all_constants h.more_enumerations) g.constants_new
          (all_of (λ (name : List ℕ). is_term_name t name ≡ false) new (all_constants h.more_enumerations) (stays_new s t g) h.constants_new));
      functions_new = subst (AllByRecursion new) (sym (map_append (λ (f : PlainFunction). f.name) g.more_functions h.more_functions))
          (all_append new (map (λ (f : PlainFunction). f.name) g.more_functions) (map (λ (f : PlainFunction). f.name) h.more_functions) g.functions_new
          (all_of (λ (name : List ℕ). is_term_name t name ≡ false) new (map (λ (f : PlainFunction). f.name) h.more_functions) (stays_new s t g) h.functions_new));
    }

any_none : (p : List ℕ → Bool) (names : List (List ℕ)) → list_any p names ≡ false → AllByRecursion (λ (name : List ℕ). p name ≡ false) names
any_none p [] h = tt
any_none p (name ∷ names) h = let q = or_parts (p name) (list_any p names) h in (q.0, any_none p names q.1)

-- what an enumeration's test says
pub record IsNewEnumeration (s : ScopeState) (name : List ℕ) (cs : List (List ℕ)) : Type 0 where
  pub some : 0 < length cs
  pub sort : is_sort_name s name ≡ false
  pub constants : AllByRecursion (λ (c : List ℕ). is_term_name s c ≡ false) cs
  pub differ : are_fresh (all_constants s.enumerations) cs ≡ true

pub new_enumeration : (s : ScopeState) (name : List ℕ) (cs : List (List ℕ)) → 0 < length cs → may_be_enumeration s name cs ≡ true → IsNewEnumeration s name cs
new_enumeration s name cs l h =
    let p = and_parts (not (is_sort_name s name)) (may_be_constants s cs) h in
    let q = and_parts (not (list_any (is_term_name s) cs)) (are_fresh (all_constants s.enumerations) cs) p.1 in
    record { some = l; sort = not_true (is_sort_name s name) p.0; constants = any_none (is_term_name s) cs (not_true (list_any (is_term_name s) cs) q.0); differ = q.1 }

pub grows_enumeration : (s : ScopeState) (name : List ℕ) (cs : List (List ℕ)) → IsNewEnumeration s name cs → GrowsTo s (with_enumeration s name cs)
grows_enumeration s name cs n = record {
  more_enumerations = record { name = name; constants = cs } ∷ [];
  more_sorts = [];
  more_functions = [];
  enumerations = refl;
  sorts = sym (append-nil s.sorts);
  functions = sym (append-nil s.functions);
  constants_new = subst (AllByRecursion (λ (c : List ℕ). is_term_name s c ≡ false)) (sym (append-nil cs)) n.constants;
  functions_new = tt;
}

pub grows_sort : (s : ScopeState) (name : List ℕ) (sort : Sort) → GrowsTo s (with_sort s name sort)
grows_sort s name sort = record {
  more_enumerations = [];
  more_sorts = record { name = name; sort = sort } ∷ [];
  more_functions = [];
  enumerations = sym (append-nil s.enumerations);
  sorts = refl;
  functions = sym (append-nil s.functions);
  constants_new = tt;
  functions_new = tt;
}

pub grows_function : (s : ScopeState) (f : PlainFunction) → is_term_name s f.name ≡ false → GrowsTo s (with_function s f)
grows_function s f h = record {
  more_enumerations = [];
  more_sorts = [];
  more_functions = f ∷ [];
  enumerations = sym (append-nil s.enumerations);
  sorts = sym (append-nil s.sorts);
  functions = refl;
  constants_new = tt;
  functions_new = (h, tt);
}

-- SORTS THAT STAY

pub sort_stays : (es more : List Enumeration) (s : Sort) → IsSort es s → IsSort (es ++ more) s
sort_stays es more Truth h = tt
sort_stays es more (Bits w) h = h
sort_stays es more (Choice n) h = omega (arith, length-append es more, h)

constant_stays : (es more : List Enumeration) (n i : ℕ) → IsConstant es n i → IsConstant (es ++ more) n i
constant_stays es more n i h = record { enumeration = h.enumeration; there = get_left es more n (get_below es n h.enumeration h.there) ∙ h.there; within = h.within }

of_stays : (es more : List Enumeration) (s : Sort) (d : Datum) → IsOf es s d → IsOf (es ++ more) s d
of_stays es more Truth (datum.Truth b) h = tt
of_stays es more Truth (datum.Bits w) h = absurd h
of_stays es more Truth (datum.Constant n i) h = absurd h
of_stays es more (Bits w) (datum.Truth b) h = absurd h
of_stays es more (Bits w) (datum.Bits v) h = h
of_stays es more (Bits w) (datum.Constant n i) h = absurd h
of_stays es more (Choice n) (datum.Truth b) h = absurd h
of_stays es more (Choice n) (datum.Bits v) h = absurd h
of_stays es more (Choice n) (datum.Constant m i) h = (h.0, constant_stays es more n i h.1)

module _ (es more : List Enumeration) (fs : List PlainFunction) (vars : List Sort) where
  mutual
    sorted_stays : (bounds : List Sort) (t : Tree) (s : Sort) → HasSort es fs vars bounds t s → HasSort (es ++ more) fs vars bounds t s
    sorted_stays bounds (constant d) s h = of_stays es more s d h
    sorted_stays bounds (variable v primed) s h = h
    sorted_stays bounds (bound i) s h = h
    sorted_stays bounds (apply op ts) s h = (h.0, all_stay bounds ts h.0 h.1, h.2)
    sorted_stays bounds (binding names ts t) s h = (h.0, h.1, all_stay bounds ts h.0 h.2, sorted_stays (bounds ++ h.0) t s h.3)
    sorted_stays bounds (call n ts) s h = (h.0, h.1, all_stay bounds ts (sorts_of h.0.parameters) h.2, h.3)

    all_stay : (bounds : List Sort) (ts : Trees) (ss : List Sort) → HaveSorts es fs vars bounds ts ss → HaveSorts (es ++ more) fs vars bounds ts ss
    all_stay bounds no_trees [] h = tt
    all_stay bounds no_trees (s ∷ ss) h = absurd h
    all_stay bounds (tree t ts) [] h = absurd h
    all_stay bounds (tree t ts) (s ∷ ss) h = (sorted_stays bounds t s h.0, all_stay bounds ts ss h.1)

function_stays : (es more : List Enumeration) (fs : List PlainFunction) (f : PlainFunction) → IsFunction es fs f → IsFunction (es ++ more) fs f
function_stays es more fs f h = record {
  parameters = all_of (IsSort es) (IsSort (es ++ more)) (sorts_of f.parameters) (sort_stays es more) h.parameters;
  result = sort_stays es more f.result h.result;
  unprimed = h.unprimed;
  body = sorted_stays es more fs (sorts_of f.parameters) [] f.body f.result h.body;
}

pub take_whole : {A : Type 0} (xs ys : List A) → take (length xs) (xs ++ ys) ≡ xs
take_whole [] ys = refl
take_whole (x ∷ xs) ys = ap (λ zs. x ∷ zs) (take_whole xs ys)

functions_end : (es : List Enumeration) (fs : List PlainFunction) (f : PlainFunction) → AreFunctions es fs → IsFunction es fs f → AreFunctions es (fs ++ f ∷ [])
functions_end es fs f a is n g h = elim (append_cases fs f g n h) [
  | inl p ↦ subst (λ hs. IsFunction es hs g) (sym (take-append-le n fs (f ∷ []) (let l : n < length fs = p.1 in omega arith))) (a n g p.0)
  | inr p ↦ subst (λ g. IsFunction es (take n (fs ++ f ∷ [])) g) p.1 (subst (λ hs. IsFunction es hs f) (sym (ap (λ n. take n (fs ++ f ∷ [])) p.0 ∙ take_whole fs (f ∷ []))) is)
]

-- WHAT A SCOPE KEEPS SO FAR

pub record IsScopeSoFar (s : ScopeState) : Type 0 where
  pub scope : IsScope s
  pub sorts : AreNames is_fixed_sort (enumeration_names s ++ sort_names s)
  pub terms : AreNames is_fixed_term (all_constants s.enumerations ++ function_names s)

pub with_enumeration_so_far : (s : ScopeState) (name : List ℕ) (cs : List (List ℕ)) → IsScopeSoFar s → IsNewEnumeration s name cs → IsScopeSoFar (with_enumeration s name cs)
with_enumeration_so_far s name cs k n =
    let e : Enumeration = record { name = name; constants = cs } in
    let es = s.enumerations in
    let names : enumeration_names (with_enumeration s name cs) ≡ enumeration_names s ++ name ∷ [] = map_append (λ (e : Enumeration). e.name) es (e ∷ []) in
    let x = new_sort s name n.sort in
    let fixed_sort = λ (name : List ℕ). is_fixed_sort name ≡ false in
    let fixed_term = λ (name : List ℕ). is_fixed_term name ≡ false in
    let sorts_free = all_parts fixed_sort (enumeration_names s) (sort_names s) k.sorts.free in
    let terms_free = all_parts fixed_term (all_constants es) (function_names s) k.terms.free in
    let new = λ (c : List ℕ). is_term_name s c ≡ false in
    record {
      scope = record {
        enumerations = all_append (λ (e : Enumeration). 0 < length e.constants) es (e ∷ []) k.scope.enumerations (n.some, tt);
        sorts = all_of (λ (n : NamedSort). IsSort es n.sort) (λ (n : NamedSort). IsSort (es ++ e ∷ []) n.sort) s.sorts (λ n h. sort_stays es (e ∷ []) n.sort h) k.scope.sorts;
        functions = λ n f h. function_stays es (e ∷ []) (take n s.functions) f (k.scope.functions n f h);
      };
      sorts = record {
        differ = ap (λ ns. are_fresh [] (ns ++ sort_names s)) names
            ∙ fresh_between (enumeration_names s) (name ∷ []) (sort_names s) k.sorts.differ (fresh_more (enumeration_names s) name [] x.enumerations refl) (absent_swap (name ∷ []) (sort_names s) (x.sorts, tt));
        free = subst (λ ns. AllByRecursion fixed_sort (ns ++ sort_names s)) (sym names)
            (all_append fixed_sort (enumeration_names s ++ name ∷ []) (sort_names s) (all_append fixed_sort (enumeration_names s) (name ∷ []) sorts_free.0 (x.free, tt)) sorts_free.1);
      };
      terms = record {
        differ = ap (λ ns. are_fresh [] (ns ++ function_names s)) (constants_end es name cs)
            ∙ fresh_between (all_constants es) cs (function_names s) k.terms.differ n.differ
            (absent_swap cs (function_names s) (all_of new (Absent (function_names s)) cs (λ c h. (new_term s c h).functions) n.constants));
        free = subst (λ ns. AllByRecursion fixed_term (ns ++ function_names s)) (sym (constants_end es name cs))
            (all_append fixed_term (all_constants es ++ cs) (function_names s)
            (all_append fixed_term (all_constants es) cs terms_free.0 (all_of new fixed_term cs (λ c h. (new_term s c h).free) n.constants)) terms_free.1);
      };
    }

pub with_sort_so_far : (s : ScopeState) (name : List ℕ) (sort : Sort) → IsScopeSoFar s → is_sort_name s name ≡ false → IsSort s.enumerations sort → IsScopeSoFar (with_sort s name sort)
with_sort_so_far s name sort k h is =
    let x : NamedSort = record { name = name; sort = sort } in
    let n = new_sort s name h in
    let fixed = λ (name : List ℕ). is_fixed_sort name ≡ false in
    let names : enumeration_names s ++ sort_names (with_sort s name sort) ≡ (enumeration_names s ++ sort_names s) ++ name ∷ [] =
    ap (λ ns. enumeration_names s ++ ns) (map_append (λ (n : NamedSort). n.name) s.sorts (x ∷ [])) ∙ sym (append_assoc (enumeration_names s) (sort_names s) (name ∷ [])) in
    record {
      scope = record { enumerations = k.scope.enumerations; sorts = all_append (λ (n : NamedSort). IsSort s.enumerations n.sort) s.sorts (x ∷ []) k.scope.sorts (is, tt); functions = k.scope.functions };
      sorts = record {
        differ = ap (are_fresh []) names ∙ fresh_end (enumeration_names s ++ sort_names s) name k.sorts.differ (absent_append (enumeration_names s) (sort_names s) name n.enumerations n.sorts);
        free = subst (AllByRecursion fixed) (sym names) (all_append fixed (enumeration_names s ++ sort_names s) (name ∷ []) k.sorts.free (n.free, tt));
      };
      terms = k.terms;
    }

pub with_function_so_far : (s : ScopeState) (f : PlainFunction) → IsScopeSoFar s → is_term_name s f.name ≡ false → IsFunction s.enumerations s.functions f → IsScopeSoFar (with_function s f)
with_function_so_far s f k h is =
    let n = new_term s f.name h in
    let fixed = λ (name : List ℕ). is_fixed_term name ≡ false in
    let cs = all_constants s.enumerations in
    let names : cs ++ function_names (with_function s f) ≡ (cs ++ function_names s) ++ f.name ∷ [] =
    ap (λ ns. cs ++ ns) (map_append (λ (f : PlainFunction). f.name) s.functions (f ∷ [])) ∙ sym (append_assoc cs (function_names s) (f.name ∷ [])) in
    record {
      scope = record { enumerations = k.scope.enumerations; sorts = k.scope.sorts; functions = functions_end s.enumerations s.functions f k.scope.functions is };
      sorts = k.sorts;
      terms = record {
        differ = ap (are_fresh []) names ∙ fresh_end (cs ++ function_names s) f.name k.terms.differ (absent_append cs (function_names s) f.name n.constants n.functions);
        free = subst (AllByRecursion fixed) (sym names) (all_append fixed (cs ++ function_names s) (f.name ∷ []) k.terms.free (n.free, tt));
      };
    }
