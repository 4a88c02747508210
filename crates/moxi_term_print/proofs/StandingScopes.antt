-- Which scopes grow from which, and the sorts of a scope that has grown.
use Rattle.std.proofs.Common.{◌≡◌, ℕ, zero, suc, ◌<◌, Bool, true, false, not, cond, is_some, ◌||◌, List, [], ◌∷◌, ◌++◌, map, length, Option, None, Some, refl, sym, ap, ◌∙◌, subst, arith, append_assoc, append-nil}
use Rattle.std.specs.Prelude.{slice_get, codes, option_and_then}
use Rattle.std.specs.Option.{option_map}
use Rattle.std.specs.List.{list_any}
use Rattle.std.specs.Str.{bytes_eq}
use Rattle.std.proofs.lemmas.Bool.{and_parts}
use Rattle.std.proofs.lemmas.Option.{same_Some, none-some}
use Rattle.std.proofs.lemmas.List.{length-map}
use Rattle.moxi_terms.specs.declared.data.Sort.{Sort}
use Rattle.moxi_terms.specs.declared.data.Sort.TheVariants.{Truth, Bits, Choice}
use Rattle.moxi_terms.specs.declared.term.Enumeration.{Enumeration}
use Rattle.moxi_terms.specs.declared.term.NamedSort.{NamedSort}
use Rattle.moxi_terms.specs.Tree.{PlainFunction}
use Rattle.moxi_terms.specs.View.{ScopeState}
use Rattle.moxi_terms.specs.Names.{or_else, is_among, function_names, enumeration_names, sort_names, all_constants, is_term_name, is_sort_name, may_be_constants, may_be_enumeration, with_enumeration, with_sort, with_function, sort_named, declared_sort}
use Rattle.name_maps.specs.Names.{place_of, are_fresh}
use Rattle.moxi_terms.specs.Sorts.{IsSort}
use Rattle.moxi_terms.specs.Words.{is_operator}
use Rattle.moxi_terms.proofs.PlaceLaws.{place_from, place_is, place_there, get_front, index_read}
use Rattle.moxi_term_print.specs.Terms.{name_at}
use Rattle.moxi_term_print.specs.WellScopedReads.{IsKnownSort}
use Rattle.moxi_term_print.specs.StandingGrows.{Grows, sorts_first}
use Rattle.moxi_term_print.specs.laws.StandingPlaces.{same_bytes, place_front, place_neither}
use Rattle.moxi_term_print.proofs.StandingGrow.{constants_append, names_append, not_among, or_later, function_taken}

true_false : {A : Type 0} (b : Bool) → b ≡ true → b ≡ false → A
true_false true h g = absurd (cc)
true_false false h g = absurd (cc)

or_both : (a b c d : Bool) → (a ≡ true → c ≡ true) → (b ≡ true → d ≡ true) → (a || b) ≡ true → (c || d) ≡ true
or_both true b c d f g h = ap (λ c. c || d) (f refl)
or_both false b c d f g h = or_later c d (g h)

pub or_neither : (a b : Bool) → (a || b) ≡ false → (a ≡ false) × (b ≡ false)
or_neither true b h = absurd (cc)
or_neither false b h = (refl, h)

pub neither_or : (a b : Bool) → a ≡ false → b ≡ false → (a || b) ≡ false
neither_or a b e f = ap (λ a. a || b) e ∙ f

-- NAMES IN LISTS

some_place : (o : Option ℕ) → is_some o ≡ true → (k : ℕ) × (o ≡ Some k)
some_place None h = absurd (cc)
some_place (Some k) h = (k, refl)

among_front : (xs ys : List (List ℕ)) (q : List ℕ) → is_among xs q ≡ true → is_among (xs ++ ys) q ≡ true
among_front xs ys q h = let k = some_place (place_of xs q) h in ap is_some (place_front xs ys q k.0 k.1)

pub among_neither : (xs ys : List (List ℕ)) (q : List ℕ) → is_among xs q ≡ false → is_among ys q ≡ false → is_among (xs ++ ys) q ≡ false
among_neither xs ys q h g = ap is_some (place_neither xs ys q (not_among _ h) (not_among _ g))

any_at : (p : List ℕ → Bool) (xs : List (List ℕ)) (k : ℕ) (x : List ℕ) → slice_get xs k ≡ Some x → p x ≡ true → list_any p xs ≡ true
any_at p [] k x h g = absurd (none-some x h)
any_at p (y ∷ ys) zero x h g = ap (λ b. b || list_any p ys) (ap p (same_Some y x h) ∙ g)
any_at p (y ∷ ys) (suc k) x h g = or_later (p y) (list_any p ys) (any_at p ys k x h g)

-- a name that passes is none of those of which none passes
pub none_among : (p : List ℕ → Bool) (xs : List (List ℕ)) (q : List ℕ) → list_any p xs ≡ false → p q ≡ true → is_among xs q ≡ false
none_among p xs q h g = by_place (is_among xs q) refl
  where
    by_place : (b : Bool) → is_among xs q ≡ b → b ≡ false
    by_place true e =
        let k = some_place (place_of xs q) e in
        true_false (list_any p xs) (any_at p xs k.0 q (place_there xs q k.0 k.1) g) h
    by_place false e = refl

place_some : (n : ℕ) (xs : List (List ℕ)) (k : ℕ) (q : List ℕ) → slice_get xs k ≡ Some q → is_some (place_from n xs q) ≡ true
place_some n [] k q h = absurd (none-some q h)
place_some n (x ∷ xs) zero q h = ap (λ b. is_some (cond b (Some n) (place_from (suc n) xs q))) (ap (bytes_eq q) (same_Some x q h) ∙ same_bytes q)
place_some n (x ∷ xs) (suc k) q h = by_test (bytes_eq q x) (place_some (suc n) xs k q h)
  where
    by_test : (b : Bool) → is_some (place_from (suc n) xs q) ≡ true → is_some (cond b (Some n) (place_from (suc n) xs q)) ≡ true
    by_test true h = refl
    by_test false h = h

-- what is in a list is found there
among_at : (xs : List (List ℕ)) (k : ℕ) (q : List ℕ) → slice_get xs k ≡ Some q → is_among xs q ≡ true
among_at xs k q h = ap is_some (place_is xs q) ∙ place_some 0 xs k q h

-- GROWING

pub grows_self : (s : ScopeState) → Grows s s
grows_self s = record {
  enumerations = [];
  sorts = [];
  functions = [];
  all_enumerations = sym (append-nil s.enumerations);
  all_sorts = sym (append-nil s.sorts);
  all_functions = sym (append-nil s.functions);
  fresh = λ name h. (refl, refl);
}

taken_still : (s t : ScopeState) (name : List ℕ) → Grows s t → is_term_name s name ≡ true → is_term_name t name ≡ true
taken_still s t name g h =
    or_both (is_operator name) _ (is_operator name) _ (λ e. e)
    (or_both (bytes_eq name (codes "true")) _ (bytes_eq name (codes "true")) _ (λ e. e)
    (or_both (bytes_eq name (codes "false")) _ (bytes_eq name (codes "false")) _ (λ e. e)
    (or_both (is_among (all_constants s.enumerations) name) (is_among (function_names s) name) (is_among (all_constants t.enumerations) name) (is_among (function_names t) name)
    (λ e. ap (λ ns. is_among ns name) (ap all_constants g.all_enumerations ∙ constants_append s.enumerations g.enumerations) ∙ among_front (all_constants s.enumerations) (all_constants g.enumerations) name e)
    (λ e. ap (λ ns. is_among ns name) (ap (map (λ (f : PlainFunction). f.name)) g.all_functions ∙ names_append s.functions g.functions) ∙ among_front (function_names s) (map (λ (f : PlainFunction). f.name) g.functions) name e)))) h

pub grows_more : (s t u : ScopeState) → Grows s t → Grows t u → Grows s u
grows_more s t u g h = record {
  enumerations = g.enumerations ++ h.enumerations;
  sorts = g.sorts ++ h.sorts;
  functions = g.functions ++ h.functions;
  all_enumerations = h.all_enumerations ∙ ap (λ xs. xs ++ h.enumerations) g.all_enumerations ∙ append_assoc s.enumerations g.enumerations h.enumerations;
  all_sorts = h.all_sorts ∙ ap (λ xs. xs ++ h.sorts) g.all_sorts ∙ append_assoc s.sorts g.sorts h.sorts;
  all_functions = h.all_functions ∙ ap (λ xs. xs ++ h.functions) g.all_functions ∙ append_assoc s.functions g.functions h.functions;
  fresh = λ name e. (
    ap (λ ns. is_among ns name) (constants_append g.enumerations h.enumerations)
        ∙ among_neither (all_constants g.enumerations) (all_constants h.enumerations) name (g.fresh name e).0 (h.fresh name (taken_still s t name g e)).0,
    ap (λ ns. is_among ns name) (names_append g.functions h.functions)
        ∙ among_neither (map (λ (f : PlainFunction). f.name) g.functions) (map (λ (f : PlainFunction). f.name) h.functions) name (g.fresh name e).1 (h.fresh name (taken_still s t name g e)).1,
  );
}

pub opposite : (b : Bool) → not b ≡ true → b ≡ false
opposite true h = absurd (cc)
opposite false h = refl

pub grows_by_enumeration : (s : ScopeState) (name : List ℕ) (constants : List (List ℕ)) → may_be_enumeration s name constants ≡ true → Grows s (with_enumeration s name constants)
grows_by_enumeration s name constants h =
    let p = and_parts (not (is_sort_name s name)) (may_be_constants s constants) h in
    let q = and_parts (not (list_any (is_term_name s) constants)) (are_fresh (all_constants s.enumerations) constants) p.1 in
    record {
      enumerations = record { name = name; constants = constants } ∷ [];
      sorts = [];
      functions = [];
      all_enumerations = refl;
      all_sorts = sym (append-nil s.sorts);
      all_functions = sym (append-nil s.functions);
      fresh = λ other e. (ap (λ ns. is_among ns other) (append-nil constants) ∙ none_among (is_term_name s) constants other (opposite _ q.0) e, refl);
    }

pub grows_by_sort : (s : ScopeState) (name : List ℕ) (sort : Sort) → Grows s (with_sort s name sort)
grows_by_sort s name sort = record {
  enumerations = [];
  sorts = record { name = name; sort = sort } ∷ [];
  functions = [];
  all_enumerations = sym (append-nil s.enumerations);
  all_sorts = refl;
  all_functions = sym (append-nil s.functions);
  fresh = λ other e. (refl, refl);
}

one_apart : (p : List ℕ → Bool) (name other : List ℕ) → p name ≡ false → p other ≡ true → is_among (name ∷ []) other ≡ false
one_apart p name other h g = none_among p (name ∷ []) other (neither_or (p name) false h refl) g

pub grows_by_function : (s : ScopeState) (f : PlainFunction) → is_term_name s f.name ≡ false → Grows s (with_function s f)
grows_by_function s f h = record {
  enumerations = [];
  sorts = [];
  functions = f ∷ [];
  all_enumerations = sym (append-nil s.enumerations);
  all_sorts = sym (append-nil s.sorts);
  all_functions = refl;
  fresh = λ other e. (refl, one_apart (is_term_name s) f.name other h e);
}

pub grows_sorts_first : (s t : ScopeState) → Grows s t → Grows s (sorts_first s t)
grows_sorts_first s t g = record {
  enumerations = g.enumerations;
  sorts = g.sorts;
  functions = [];
  all_enumerations = g.all_enumerations;
  all_sorts = g.all_sorts;
  all_functions = sym (append-nil s.functions);
  fresh = λ name e. ((g.fresh name e).0, refl);
}

-- a function's name is no name of a constant that is declared behind it
free_first : (s t : ScopeState) (f : PlainFunction) → is_term_name s f.name ≡ false → Grows (with_function s f) t → is_term_name (sorts_first s t) f.name ≡ false
free_first s t f h g =
    let a = or_neither (is_operator f.name) _ h in
    let b = or_neither (bytes_eq f.name (codes "true")) _ a.1 in
    let c = or_neither (bytes_eq f.name (codes "false")) _ b.1 in
    let d = or_neither (is_among (all_constants s.enumerations) f.name) (is_among (function_names s) f.name) c.1 in
    let there : is_among (function_names (with_function s f)) f.name ≡ true =
    ap (λ ns. is_among ns f.name) (names_append s.functions (f ∷ [])) ∙ last_among (function_names s) f.name in
    let later = (g.fresh f.name (function_taken (with_function s f) f.name there)).0 in
    neither_or (is_operator f.name) _ a.0
    (neither_or (bytes_eq f.name (codes "true")) _ b.0
    (neither_or (bytes_eq f.name (codes "false")) _ c.0
    (neither_or (is_among (all_constants t.enumerations) f.name) (is_among (function_names s) f.name)
    (ap (λ ns. is_among ns f.name) (ap all_constants g.all_enumerations ∙ constants_append s.enumerations g.enumerations) ∙ among_neither (all_constants s.enumerations) (all_constants g.enumerations) f.name d.0 later) d.1)))
  where
    last_at : (xs : List (List ℕ)) (q : List ℕ) → slice_get (xs ++ q ∷ []) (length xs) ≡ Some q
    last_at [] q = refl
    last_at (x ∷ xs) q = last_at xs q

    last_among : (xs : List (List ℕ)) (q : List ℕ) → is_among (xs ++ q ∷ []) q ≡ true
    last_among xs q = among_at (xs ++ q ∷ []) (length xs) q (last_at xs q)

pub grows_one_function : (s : ScopeState) (f : PlainFunction) (t : ScopeState) → is_term_name s f.name ≡ false → Grows (with_function s f) t → Grows (sorts_first s t) (sorts_first (with_function s f) t)
grows_one_function s f t h g = record {
  enumerations = [];
  sorts = [];
  functions = f ∷ [];
  all_enumerations = sym (append-nil t.enumerations);
  all_sorts = sym (append-nil t.sorts);
  all_functions = refl;
  fresh = λ other e. (refl, one_apart (is_term_name (sorts_first s t)) f.name other (free_first s t f h g) e);
}

-- SORTS

get_some : {A : Type 0} (xs : List A) (n : ℕ) → n < length xs → (x : A) × (slice_get xs n ≡ Some x)
get_some [] n h = absurd (omega arith)
get_some (x ∷ xs) zero h = (x, refl)
get_some (x ∷ xs) (suc n) h = get_some xs n (omega arith)

pub enumerations_append : (xs ys : List Enumeration) → map (λ (e : Enumeration). e.name) (xs ++ ys) ≡ map (λ (e : Enumeration). e.name) xs ++ map (λ (e : Enumeration). e.name) ys
enumerations_append [] ys = refl
enumerations_append (x ∷ xs) ys = ap (λ ns. x.name ∷ ns) (enumerations_append xs ys)

first_kept : (names more : List (List ℕ)) (q : List ℕ) (r u : Option Sort) (s : Sort) → is_among names q ≡ true → or_else (option_map Choice (place_of names q)) r ≡ Some s → or_else (option_map Choice (place_of (names ++ more) q)) u ≡ Some s
first_kept names more q r u s h e =
    let k = some_place (place_of names q) h in
    ap (λ o. or_else (option_map Choice o) u) (place_front names more q k.0 k.1) ∙ sym (ap (λ o. or_else (option_map Choice o) r) k.1) ∙ e

pub sort_stands_on : (s t : ScopeState) (sort : Sort) → IsSort s.enumerations sort → IsKnownSort s sort → Grows s t → IsKnownSort t sort
sort_stands_on s t Truth i h g = tt
sort_stands_on s t (Bits w) i h g = h
sort_stands_on s t (Choice n) i h g =
    let names = enumeration_names s in
    let more = map (λ (e : Enumeration). e.name) g.enumerations in
    let all : enumeration_names t ≡ names ++ more = ap (map (λ (e : Enumeration). e.name)) g.all_enumerations ∙ enumerations_append s.enumerations g.enumerations in
    let x = get_some names n (subst (λ m. n < m) (sym (length-map s.enumerations _)) i) in
    let before : name_at names n ≡ x.0 = index_read names n x.0 [] x.1 in
    let later : slice_get (names ++ more) n ≡ Some x.0 = get_front names more n (subst (λ m. n < m) (sym (length-map s.enumerations _)) i) ∙ x.1 in
    let after : name_at (enumeration_names t) n ≡ x.0 = ap (λ ns. name_at ns n) all ∙ index_read (names ++ more) n x.0 [] later in
    ap (sort_named t) after ∙ by_word (bytes_eq x.0 (codes "Bool")) x.0 all (among_at names n x.0 x.1) (sym (ap (sort_named s) before) ∙ h)
  where
    by_word : (b : Bool) (q : List ℕ) → enumeration_names t ≡ enumeration_names s ++ map (λ (e : Enumeration). e.name) g.enumerations → is_among (enumeration_names s) q ≡ true
        → cond b (Some Truth) (declared_sort s q) ≡ Some (Choice n) → cond b (Some Truth) (declared_sort t q) ≡ Some (Choice n)
    by_word true q all a e = e
    by_word false q all a e =
        ap (λ ns. or_else (option_map Choice (place_of ns q)) (option_map (λ (n : NamedSort). n.sort) (option_and_then (slice_get t.sorts) (place_of (sort_names t) q)))) all
        ∙ first_kept (enumeration_names s) (map (λ (e : Enumeration). e.name) g.enumerations) q _ _ (Choice n) a e
