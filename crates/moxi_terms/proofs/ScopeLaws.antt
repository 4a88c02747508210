-- What a scope keeps, where something is added.
use Rattle.std.proofs.Common.{◌≡◌, ◌⊎◌, ℕ, zero, suc, ◌+◌, ◌-◌, ◌<◌, ◌≤◌, ◌^◌, Bool, true, false, cond, ◌||◌, is_some, is_none, List, [], ◌∷◌, ◌++◌, map, length, take, min, get_or, Option, None, Some, refl, sym, ap, ◌∙◌, subst, arith, inl, inr, append_assoc, append-nil}
use Rattle.std.specs.Prelude.{slice_get, slice_index_or, option_and_then, codes}
use Rattle.std.specs.List.{AllByRecursion}
use Rattle.std.proofs.lemmas.Option.{same_Some, none-some, slice_get_within, slice_get-get_or}
use Rattle.std.proofs.lemmas.List.{take-append-le, length-append, length-take}
use Rattle.moxi_terms.specs.declared.data.Sort.{Sort}
use Rattle.moxi_terms.specs.declared.data.Sort.TheVariants.{Truth, Bits, Choice}
use Rattle.moxi_terms.specs.declared.data.Datum.{Datum}
use Rattle.moxi_terms.specs.declared.data.Datum.TheVariants as datum
use Rattle.moxi_terms.specs.declared.term.Enumeration.{Enumeration}
use Rattle.moxi_terms.specs.declared.term.NamedSort.{NamedSort}
use Rattle.moxi_terms.specs.Tree.{Tree, constant, variable, bound, apply, binding, call, Trees, no_trees, tree, PlainFunction, sorts_of}
use Rattle.moxi_terms.specs.View.{ScopeState}
use Rattle.moxi_terms.specs.Sorts.{IsSort, IsConstant, IsOf}
use Rattle.moxi_terms.specs.Sorted.{HasSort, HaveSorts, IsFunction, AreFunctions}
use Rattle.moxi_terms.specs.Names.{enumeration_names, sort_names, function_names, all_constants, constant_count, numbered, constant_numbers, with_enumeration, with_function, is_among, is_term_name, is_sort_name, constant_named}
use Rattle.name_maps.specs.Names.{place_of}
use Rattle.moxi_terms.specs.Words.{is_operator}
use Rattle.std.specs.Str.{bytes_eq}
use Rattle.moxi_terms.specs.Scopes.{IsNameIndex}
use Rattle.moxi_terms.proofs.PlaceLaws.{get_front, get_taken, take_whole, length_taken, place_within}

pub map_end : {A B : Type 0} (f : A → B) (xs : List A) (x : A) → map f (xs ++ x ∷ []) ≡ map f xs ++ f x ∷ []
map_end f [] x = refl
map_end f (y ∷ ys) x = ap (λ zs. f y ∷ zs) (map_end f ys x)

all_end : {A : Type 0} (P : A → Type 0) (xs : List A) (x : A) → AllByRecursion P xs → P x → AllByRecursion P (xs ++ x ∷ [])
all_end P [] x a p = (p, tt)
all_end P (y ∷ ys) x a p = (a.0, all_end P ys x a.1 p)

pub all_of : {A : Type 0} (P Q : A → Type 0) (xs : List A) → ((x : A) → P x → Q x) → AllByRecursion P xs → AllByRecursion Q xs
all_of P Q [] f a = tt
all_of P Q (x ∷ xs) f a = (f x a.0, all_of P Q xs f a.1)

pub append_cases : {A : Type 0} (xs : List A) (x y : A) (j : ℕ) → slice_get (xs ++ x ∷ []) j ≡ Some y → (slice_get xs j ≡ Some y × (j < length xs)) ⊎ ((j ≡ length xs) × (x ≡ y))
append_cases [] x y zero h = inr (refl, same_Some x y h)
append_cases [] x y (suc j) h = absurd (none-some y h)
append_cases (z ∷ zs) x y zero h = inl (h, omega arith)
append_cases (z ∷ zs) x y (suc j) h = elim (append_cases zs x y j h) [
  | inl p ↦ inl (p.0, (let l : j < length zs = p.1 in omega arith))
  | inr p ↦ inr (ap suc p.0, p.1)
]

pub take_front : {A : Type 0} (xs : List A) (x : A) (j : ℕ) → j ≤ length xs → take j (xs ++ x ∷ []) ≡ take j xs
take_front xs x j h = take-append-le j xs (x ∷ []) h

functions_end : (es : List Enumeration) (fs : List PlainFunction) (f : PlainFunction) → AreFunctions es fs → IsFunction es fs f → AreFunctions es (fs ++ f ∷ [])
functions_end es fs f a is n g h = elim (append_cases fs f g n h) [
  | inl p ↦ subst (λ hs. IsFunction es hs g) (sym (take_front fs f n (let l : n < length fs = p.1 in omega arith))) (a n g p.0)
  | inr p ↦ subst (λ g. IsFunction es (take n (fs ++ f ∷ [])) g) p.1
      (subst (λ hs. IsFunction es hs f) (sym (ap (λ n. take n (fs ++ f ∷ [])) p.0 ∙ take_front fs f (length fs) (omega arith) ∙ take_whole fs)) is)
]

-- one more function
pub kept_function : (s : ScopeState) (e so f c : List (List ℕ)) (n : List (ℕ × ℕ)) (g : PlainFunction) → IsNameIndex s e so f c n → IsFunction s.enumerations s.functions g → length s.functions < 2 ^ 32 - 1
    → IsNameIndex (with_function s g) e so (f ++ g.name ∷ []) c n
kept_function s e so f c n g k is few = record {
  scope = record {
    enumerations = k.scope.enumerations;
    sorts = k.scope.sorts;
    functions = functions_end s.enumerations s.functions g k.scope.functions is;
  };
  enumeration_names = k.enumeration_names;
  sort_names = k.sort_names;
  function_names = ap (λ ns. ns ++ g.name ∷ []) k.function_names ∙ sym (map_end (λ (f : PlainFunction). f.name) s.functions g);
  constant_names = k.constant_names;
  constant_numbers = k.constant_numbers;
  few_enumerations = k.few_enumerations;
  few_sorts = k.few_sorts;
  few_functions = omega (arith, length-append s.functions (g ∷ []), few);
  few_constants = k.few_constants;
}

-- with one more enumeration, what was a sort and a value of it still is
sort_stays : (es : List Enumeration) (e : Enumeration) (s : Sort) → IsSort es s → IsSort (es ++ e ∷ []) s
sort_stays es e Truth h = tt
sort_stays es e (Bits w) h = h
sort_stays es e (Choice n) h = omega (arith, length-append es (e ∷ []), h)

constant_stays : (es : List Enumeration) (e : Enumeration) (n i : ℕ) → IsConstant es n i → IsConstant (es ++ e ∷ []) n i
constant_stays es e n i h = record { enumeration = h.enumeration; there = get_front es (e ∷ []) n (slice_get_within es n h.enumeration h.there) ∙ h.there; within = h.within }

of_stays : (es : List Enumeration) (e : Enumeration) (s : Sort) (d : Datum) → IsOf es s d → IsOf (es ++ e ∷ []) s d
of_stays es e Truth (datum.Truth b) h = tt
of_stays es e Truth (datum.Bits w) h = absurd h
of_stays es e Truth (datum.Constant n i) h = absurd h
of_stays es e (Bits w) (datum.Truth b) h = absurd h
of_stays es e (Bits w) (datum.Bits v) h = h
of_stays es e (Bits w) (datum.Constant n i) h = absurd h
of_stays es e (Choice n) (datum.Truth b) h = absurd h
of_stays es e (Choice n) (datum.Bits v) h = absurd h
of_stays es e (Choice n) (datum.Constant m i) h = (h.0, constant_stays es e n i h.1)

module _ (es : List Enumeration) (e : Enumeration) (fs : List PlainFunction) (vars : List Sort) where
  mutual
    sorted_stays : (bounds : List Sort) (t : Tree) (s : Sort) → HasSort es fs vars bounds t s → HasSort (es ++ e ∷ []) fs vars bounds t s
    sorted_stays bounds (constant d) s h = of_stays es e s d h
    sorted_stays bounds (variable v primed) s h = h
    sorted_stays bounds (bound i) s h = h
    sorted_stays bounds (apply op ts) s h = (h.0, all_stay bounds ts h.0 h.1, h.2)
    sorted_stays bounds (binding names ts t) s h = (h.0, h.1, all_stay bounds ts h.0 h.2, sorted_stays (bounds ++ h.0) t s h.3)
    sorted_stays bounds (call n ts) s h = (h.0, h.1, all_stay bounds ts (sorts_of h.0.parameters) h.2, h.3)

    all_stay : (bounds : List Sort) (ts : Trees) (ss : List Sort) → HaveSorts es fs vars bounds ts ss → HaveSorts (es ++ e ∷ []) fs vars bounds ts ss
    all_stay bounds no_trees [] h = tt
    all_stay bounds no_trees (s ∷ ss) h = absurd h
    all_stay bounds (tree t ts) [] h = absurd h
    all_stay bounds (tree t ts) (s ∷ ss) h = (sorted_stays bounds t s h.0, all_stay bounds ts ss h.1)

function_stays : (es : List Enumeration) (e : Enumeration) (fs : List PlainFunction) (f : PlainFunction) → IsFunction es fs f → IsFunction (es ++ e ∷ []) fs f
function_stays es e fs f h = record {
  parameters = all_of (IsSort es) (IsSort (es ++ e ∷ [])) (sorts_of f.parameters) (sort_stays es e) h.parameters;
  result = sort_stays es e f.result h.result;
  unprimed = h.unprimed;
  body = sorted_stays es e fs (sorts_of f.parameters) [] f.body f.result h.body;
}

constants_end : (es : List Enumeration) (e : Enumeration) → all_constants (es ++ e ∷ []) ≡ all_constants es ++ e.constants
constants_end [] e = append-nil e.constants
constants_end (x ∷ xs) e = ap (λ cs. x.constants ++ cs) (constants_end xs e) ∙ sym (append_assoc x.constants (all_constants xs) e.constants)

numbers_end : (n : ℕ) (es : List Enumeration) (e : Enumeration) → constant_numbers n (es ++ e ∷ []) ≡ constant_numbers n es ++ numbered (n + length es) 0 e.constants
numbers_end n [] e = append-nil (numbered n 0 e.constants) ∙ ap (λ k. numbered k 0 e.constants) (let z : n ≡ n + 0 = omega arith in z)
numbers_end n (x ∷ xs) e =
    ap (λ ns. numbered n 0 x.constants ++ ns) (numbers_end (suc n) xs e ∙ ap (λ k. constant_numbers (suc n) xs ++ numbered k 0 e.constants) (let z : suc n + length xs ≡ n + suc (length xs) = omega arith in z))
    ∙ sym (append_assoc (numbered n 0 x.constants) (constant_numbers (suc n) xs) (numbered (n + suc (length xs)) 0 e.constants))

pub numbered_long : (n i : ℕ) (cs : List (List ℕ)) → length (numbered n i cs) ≡ length cs
numbered_long n i [] = refl
numbered_long n i (c ∷ cs) = ap suc (numbered_long n (suc i) cs)

pub numbered_end : (n i : ℕ) (cs : List (List ℕ)) (c : List ℕ) → numbered n i (cs ++ c ∷ []) ≡ numbered n i cs ++ (n, i + length cs) ∷ []
numbered_end n i [] c = ap (λ k. (n, k) ∷ []) (let z : i ≡ i + 0 = omega arith in z)
numbered_end n i (x ∷ xs) c = ap (λ ps. (n, i) ∷ ps) (numbered_end n (suc i) xs c ∙ ap (λ k. numbered n (suc i) xs ++ (n, k) ∷ []) (let z : suc i + length xs ≡ i + suc (length xs) = omega arith in z))

pub numbers_long : (n : ℕ) (es : List Enumeration) → length (constant_numbers n es) ≡ length (all_constants es)
numbers_long n [] = refl
numbers_long n (x ∷ xs) =
    length-append (numbered n 0 x.constants) (constant_numbers (suc n) xs) ∙ ap (λ k. k + length (constant_numbers (suc n) xs)) (numbered_long n 0 x.constants)
    ∙ ap (λ k. length x.constants + k) (numbers_long (suc n) xs) ∙ sym (length-append x.constants (all_constants xs))

-- one more enumeration
pub kept_enumeration : (s : ScopeState) (e so f c : List (List ℕ)) (n m : List (ℕ × ℕ)) (x : Enumeration) → IsNameIndex s e so f c n → 0 < length x.constants → length s.enumerations < 2 ^ 32 - 1
    → length (all_constants s.enumerations) + length x.constants < 2 ^ 32 → m ≡ take (length c) n ++ numbered (length s.enumerations) 0 x.constants
    → IsNameIndex (with_enumeration s x.name x.constants) (e ++ x.name ∷ []) so f (c ++ x.constants) m
kept_enumeration s e so f c n m x k some few room g =
    let es = s.enumerations in
    let front : take (length c) n ≡ constant_numbers 0 es = ap (λ c. take (length c) n) k.constant_names ∙ k.constant_numbers in
    let whole : m ≡ constant_numbers 0 (es ++ x ∷ []) =
    g ∙ ap (λ ns. ns ++ numbered (length es) 0 x.constants) front ∙ ap (λ k. constant_numbers 0 es ++ numbered k 0 x.constants) (let z : length es ≡ 0 + length es = omega arith in z) ∙ sym (numbers_end 0 es x) in
    record {
      scope = record {
        enumerations = all_end (λ (e : Enumeration). 0 < length e.constants) es x k.scope.enumerations some;
        sorts = all_of (λ (n : NamedSort). IsSort es n.sort) (λ (n : NamedSort). IsSort (es ++ x ∷ []) n.sort) s.sorts (λ n h. sort_stays es x n.sort h) k.scope.sorts;
        functions = λ n f h. function_stays es x (take n s.functions) f (k.scope.functions n f h);
      };
      enumeration_names = ap (λ ns. ns ++ x.name ∷ []) k.enumeration_names ∙ sym (map_end (λ (e : Enumeration). e.name) es x);
      sort_names = k.sort_names;
      function_names = k.function_names;
      constant_names = ap (λ ns. ns ++ x.constants) k.constant_names ∙ sym (constants_end es x);
      constant_numbers = ap (take (length (all_constants (es ++ x ∷ [])))) whole ∙ ap (λ k. take k (constant_numbers 0 (es ++ x ∷ []))) (sym (numbers_long 0 (es ++ x ∷ []))) ∙ take_whole (constant_numbers 0 (es ++ x ∷ []));
      few_enumerations = omega (arith, length-append es (x ∷ []), few);
      few_sorts = k.few_sorts;
      few_functions = k.few_functions;
      few_constants = omega (arith, ap length (constants_end es x), length-append (all_constants es) x.constants, room);
    }

pub numbers_within : (s : ScopeState) (e so f c : List (List ℕ)) (n : List (ℕ × ℕ)) → IsNameIndex s e so f c n → length c ≤ length n
numbers_within s e so f c n k =
    let all = length (all_constants s.enumerations) in
    let same : length c ≡ all = ap length k.constant_names in
    let taken : length (take all n) ≡ all = ap length k.constant_numbers ∙ numbers_long 0 s.enumerations in
    let least : length (take all n) ≡ min all (length n) = length-take all n in
    omega arith

pub front_kept : {A : Type 0} (b : ℕ) (xs ys : List A) → b ≤ length xs → take b (take b xs ++ ys) ≡ take b xs
front_kept b xs ys h =
    let long : length (take b xs) ≡ b = length_taken b xs h in
    ap (λ k. take k (take b xs ++ ys)) (sym long) ∙ take-append-le (length (take b xs)) (take b xs) ys (omega arith) ∙ take_whole (take b xs)

take_more : {A : Type 0} (xs : List A) (i : ℕ) → i < length xs → (x : A) × (take (i + 1) xs ≡ take i xs ++ x ∷ [])
take_more [] i h = absurd (omega arith)
take_more (x ∷ xs) zero h = (x, ap (λ k. take k (x ∷ xs)) (let e : 0 + 1 ≡ 1 = omega arith in e))
take_more (x ∷ xs) (suc i) h =
    let r = take_more xs i (omega arith) in
    (r.0, ap (λ k. take k (x ∷ xs)) (let e : suc i + 1 ≡ suc (i + 1) = omega arith in e) ∙ ap (λ ys. x ∷ ys) r.1)

pub numbered_take : (n : ℕ) (cs : List (List ℕ)) (i : ℕ) → i < length cs → numbered n 0 (take (i + 1) cs) ≡ numbered n 0 (take i cs) ++ (n, i) ∷ []
numbered_take n cs i h =
    let r = take_more cs i h in
    let l : length (take i cs) ≡ i = length_taken i cs (omega arith) in
    ap (numbered n 0) r.1 ∙ numbered_end n 0 (take i cs) r.0 ∙ ap (λ k. numbered n 0 (take i cs) ++ (n, k) ∷ []) (omega (arith, l))

pub constant_read : (s : ScopeState) (e so f c : List (List ℕ)) (n : List (ℕ × ℕ)) (q : List ℕ) (p : ℕ) → IsNameIndex s e so f c n → place_of c q ≡ Some p
    → (x : ℕ × ℕ) × (slice_get n p ≡ Some x) × (constant_named s q ≡ Some x)
constant_read s e so f c n q p k h =
    let all = length (all_constants s.enumerations) in
    let within : p < length c = place_within c q p h in
    let same : length c ≡ all = ap length k.constant_names in
    let less : p < length (constant_numbers 0 s.enumerations) = omega (arith, numbers_long 0 s.enumerations) in
    let x = get_or (constant_numbers 0 s.enumerations) p (0, 0) in
    let there : slice_get (constant_numbers 0 s.enumerations) p ≡ Some x = slice_get-get_or (constant_numbers 0 s.enumerations) p (0, 0) less in (
      x,
      sym (get_taken all n p (omega arith)) ∙ ap (λ ns. slice_get ns p) k.constant_numbers ∙ there,
      ap (option_and_then (slice_get (constant_numbers 0 s.enumerations))) (ap (λ c. place_of c q) (sym k.constant_names) ∙ h) ∙ there,
    )

or_right : (a b : Bool) → (a || b) ≡ false → b ≡ false
or_right true b h = absurd (cc)
or_right false b h = h

or_left : (a b : Bool) → (a || b) ≡ false → a ≡ false
or_left true b h = h
or_left false b h = refl

no_place : (names : List (List ℕ)) (q : List ℕ) (o : Option ℕ) → is_some o ≡ false → o ≡ None
no_place names q None h = refl
no_place names q (Some k) h = absurd (cc)

-- a name that no constant and no function has is no function's
pub no_function : (s : ScopeState) (q : List ℕ) → is_term_name s q ≡ false → place_of (function_names s) q ≡ None
no_function s q h =
    no_place (function_names s) q (place_of (function_names s) q)
    (or_right (is_among (all_constants s.enumerations) q) (is_among (function_names s) q) (or_right (bytes_eq q (codes "false")) _ (or_right (bytes_eq q (codes "true")) _ (or_right (is_operator q) _ h))))

pub no_enumeration : (s : ScopeState) (q : List ℕ) → is_sort_name s q ≡ false → place_of (enumeration_names s) q ≡ None
no_enumeration s q h =
    no_place (enumeration_names s) q (place_of (enumeration_names s) q)
    (or_left (is_among (enumeration_names s) q) (is_among (sort_names s) q) (or_right (bytes_eq q (codes "BitVec")) _ (or_right (bytes_eq q (codes "Bool")) _ h)))

-- the names with one more, where it is new
pub with_new : (names all : List (List ℕ)) (x : List ℕ) (fresh : Bool) → place_of names x ≡ None → fresh ≡ is_none (place_of names x) → all ≡ cond fresh (names ++ x ∷ []) names → all ≡ names ++ x ∷ []
with_new names all x fresh h e f = f ∙ ap (λ b. cond b (names ++ x ∷ []) names) (e ∙ ap is_none h)

-- an enumeration has no more constants than all enumerations have
pub count_few : (es : List Enumeration) (n : ℕ) → constant_count es n ≤ length (all_constants es)
count_few [] n = omega arith
count_few (e ∷ es) zero = omega (arith, length-append e.constants (all_constants es))
count_few (e ∷ es) (suc n) =
    let h : constant_count es n ≤ length (all_constants es) = count_few es n in
    omega (arith, length-append e.constants (all_constants es), h)

-- the enumeration that is there at a number
pub count_there : (es : List Enumeration) (n : ℕ) (e : Enumeration) → n < length es → e ≡ slice_index_or es n e → length e.constants ≡ constant_count es n
count_there [] n e h i = absurd (omega (arith, h))
count_there (x ∷ es) zero e h i = ap (λ (y : Enumeration). length y.constants) i
count_there (x ∷ es) (suc n) e h i = count_there es n e (omega (arith, h)) i
