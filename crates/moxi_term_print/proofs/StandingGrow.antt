-- In a scope that has grown the names of before mean what they meant, by induction over the term.
use Rattle.std.proofs.Common.{◌≡◌, ℕ, zero, suc, ◌+◌, ◌<◌, Bool, true, false, cond, eqb, is_some, ◌||◌, List, [], ◌∷◌, ◌++◌, map, length, Option, None, Some, refl, sym, ap, ◌∙◌, subst, arith, append_assoc}
use Rattle.std.specs.Prelude.{slice_get, codes, option_and_then}
use Rattle.std.specs.Option.{option_map}
use Rattle.std.specs.Str.{bytes_eq}
use Rattle.std.proofs.lemmas.Option.{none-some, slice_get_within}
use Rattle.std.proofs.lemmas.List.{length-append, length-map}
use Rattle.moxi_terms.specs.declared.data.Sort.{Sort}
use Rattle.moxi_terms.specs.declared.data.Sort.TheVariants.{Truth, Choice}
use Rattle.moxi_terms.specs.declared.data.Datum.{Datum}
use Rattle.moxi_terms.specs.declared.data.Datum.TheVariants as datum
use Rattle.moxi_terms.specs.declared.data.TermOp.{TermOp}
use Rattle.moxi_terms.specs.declared.data.TermOp.TheVariants as op
use Rattle.moxi_terms.specs.declared.names.Meaning.{Meaning}
use Rattle.moxi_terms.specs.declared.names.Meaning.TheVariants as meaning
use Rattle.moxi_terms.specs.declared.names.Head.{Head}
use Rattle.moxi_terms.specs.declared.names.Head.TheVariants as heads
use Rattle.moxi_term_reading.specs.declared.locals.Local.{Local}
use Rattle.moxi_terms.specs.declared.term.Enumeration.{Enumeration}
use Rattle.moxi_terms.specs.Tree.{Tree, constant, variable, bound, apply, binding, call, Trees, no_trees, tree, PlainFunction, sorts_of}
use Rattle.moxi_terms.specs.View.{ScopeState}
use Rattle.moxi_terms.specs.Names.{or_else, is_among, function_names, all_constants, numbered, constant_numbers, constant_named, is_term_name}
use Rattle.name_maps.specs.Names.{place_of}
use Rattle.moxi_terms.specs.Words.{is_operator, operator_named}
use Rattle.moxi_terms.specs.Meanings as reading
use Rattle.moxi_term_reading.specs.Finding as finding
use Rattle.moxi_term_reading.specs.Reading.{Context, meaning_of}
use Rattle.moxi_term_reading.specs.Finding.{Found}
use Rattle.moxi_terms.specs.Meanings.{head_named, value_named}
use Rattle.moxi_terms.proofs.PlaceLaws.{place_within, get_front}
use Rattle.moxi_term_reading.specs.laws.SortedParts.{constant_is}
use Rattle.moxi_term_print.specs.Terms.{name_at, constants_or_none, constant_name, operator_word, truth_word}
use Rattle.moxi_term_print.specs.WellScoped.{bound_locals, IsWellScopedValue, IsKnownOperator, IsWellScopedCall, IsWellScoped, AreWellScoped}
use Rattle.moxi_term_print.specs.StandingGrows.{Grows, in_scope}
use Rattle.moxi_term_print.specs.laws.StandingPlaces.{place_front, place_neither}
use Rattle.moxi_terms.proofs.ScopeLaws.{numbered_long}

-- LISTS

pub constants_append : (xs ys : List Enumeration) → all_constants (xs ++ ys) ≡ all_constants xs ++ all_constants ys
constants_append [] ys = refl
constants_append (x ∷ xs) ys = ap (λ ns. x.constants ++ ns) (constants_append xs ys) ∙ sym (append_assoc x.constants (all_constants xs) (all_constants ys))

numbers_append : (n : ℕ) (xs ys : List Enumeration) → constant_numbers n (xs ++ ys) ≡ constant_numbers n xs ++ constant_numbers (n + length xs) ys
numbers_append n [] ys = ap (λ m. constant_numbers m ys) (let e : n ≡ n + 0 = omega arith in e)
numbers_append n (x ∷ xs) ys =
    ap (λ ns. numbered n 0 x.constants ++ ns) (numbers_append (suc n) xs ys ∙ ap (λ m. constant_numbers (suc n) xs ++ constant_numbers m ys) (let e : suc n + length xs ≡ n + suc (length xs) = omega arith in e))
    ∙ sym (append_assoc (numbered n 0 x.constants) (constant_numbers (suc n) xs) (constant_numbers (n + suc (length xs)) ys))

numbers_long : (n : ℕ) (es : List Enumeration) → length (constant_numbers n es) ≡ length (all_constants es)
numbers_long n [] = refl
numbers_long n (e ∷ es) =
    omega (
      arith,
      length-append (numbered n 0 e.constants) (constant_numbers (suc n) es),
      length-append e.constants (all_constants es),
      numbered_long n 0 e.constants,
      numbers_long (suc n) es,
    )

pub names_append : (xs ys : List PlainFunction) → map (λ (f : PlainFunction). f.name) (xs ++ ys) ≡ map (λ (f : PlainFunction). f.name) xs ++ map (λ (f : PlainFunction). f.name) ys
names_append [] ys = refl
names_append (x ∷ xs) ys = ap (λ ns. x.name ∷ ns) (names_append xs ys)

get_within : {A : Type 0} (xs : List A) (k : ℕ) → k < length xs → slice_get xs k ≡ None → ⊥
get_within [] k h e = absurd (omega arith)
get_within (x ∷ xs) zero h e = none-some x (sym e)
get_within (x ∷ xs) (suc k) h e = get_within xs k (omega arith) e

pub not_among : (o : Option ℕ) → is_some o ≡ false → o ≡ None
not_among None h = refl
not_among (Some n) h = absurd (cc)

pub or_later : (a b : Bool) → b ≡ true → (a || b) ≡ true
or_later true b h = refl
or_later false b h = h

or_first : (a b : Bool) → a ≡ true → (a || b) ≡ true
or_first a b h = ap (λ a. a || b) h

or_kept : {A : Type 0} (o x y : Option A) (m : A) → (x ≡ Some m → y ≡ Some m) → or_else o x ≡ Some m → or_else o y ≡ Some m
or_kept None x y m f e = f e
or_kept (Some z) x y m f e = e

-- a function's name and an operator's are taken
pub function_taken : (s : ScopeState) (name : List ℕ) → is_among (function_names s) name ≡ true → is_term_name s name ≡ true
function_taken s name h = or_later (is_operator name) _ (or_later (bytes_eq name (codes "true")) _ (or_later (bytes_eq name (codes "false")) _ (or_later (is_among (all_constants s.enumerations) name) _ h)))

operator_taken : (s : ScopeState) (name : List ℕ) (o : TermOp) → operator_named name ≡ Some o → is_term_name s name ≡ true
operator_taken s name o h = or_first (is_operator name) _ (or_first (is_some (operator_named name)) _ (ap is_some h))

module _ (s t : ScopeState) (g : Grows s t) where
  -- CONSTANTS

  all_constants_are : all_constants t.enumerations ≡ all_constants s.enumerations ++ all_constants g.enumerations
  all_constants_are = ap all_constants g.all_enumerations ∙ constants_append s.enumerations g.enumerations

  numbers_kept : (k : ℕ) → k < length (constant_numbers 0 s.enumerations) → slice_get (constant_numbers 0 t.enumerations) k ≡ slice_get (constant_numbers 0 s.enumerations) k
  numbers_kept k h =
      ap (λ es. slice_get (constant_numbers 0 es) k) g.all_enumerations ∙ ap (λ ns. slice_get ns k) (numbers_append 0 s.enumerations g.enumerations)
      ∙ get_front (constant_numbers 0 s.enumerations) _ k h

  constant_kept : (name : List ℕ) (x : ℕ × ℕ) (o : Option ℕ) → place_of (all_constants s.enumerations) name ≡ o → option_and_then (slice_get (constant_numbers 0 s.enumerations)) o ≡ Some x → constant_named t name ≡ Some x
  constant_kept name x None e h = absurd (none-some x h)
  constant_kept name x (Some k) e h =
      ap (λ cs. option_and_then (slice_get (constant_numbers 0 t.enumerations)) (place_of cs name)) all_constants_are
      ∙ ap (option_and_then (slice_get (constant_numbers 0 t.enumerations))) (place_front (all_constants s.enumerations) (all_constants g.enumerations) name k e)
      ∙ numbers_kept k (slice_get_within (constant_numbers 0 s.enumerations) k x h) ∙ h

  constant_lacks : (name : List ℕ) (o : Option ℕ) → place_of (all_constants s.enumerations) name ≡ o → option_and_then (slice_get (constant_numbers 0 s.enumerations)) o ≡ None
      → is_among (all_constants g.enumerations) name ≡ false → constant_named t name ≡ None
  constant_lacks name None e h a =
      ap (λ cs. option_and_then (slice_get (constant_numbers 0 t.enumerations)) (place_of cs name)) all_constants_are
      ∙ ap (option_and_then (slice_get (constant_numbers 0 t.enumerations))) (place_neither (all_constants s.enumerations) (all_constants g.enumerations) name e (not_among _ a))
  constant_lacks name (Some k) e h a =
      absurd (get_within (constant_numbers 0 s.enumerations) k (omega (arith, numbers_long 0 s.enumerations, place_within (all_constants s.enumerations) name k e)) h)

  abbrev value_of : Option (ℕ × ℕ) → Option Meaning
  value_of o = option_map (λ (c : ℕ × ℕ). meaning.Value (datum.Constant c.0 c.1) (Choice c.0)) o

  abbrev value_by : Bool → Bool → Option (ℕ × ℕ) → Option Meaning
  value_by a b o = cond a (Some (meaning.Value (datum.Truth true) Truth)) (cond b (Some (meaning.Value (datum.Truth false) Truth)) (value_of o))

  mapped_kept : (name : List ℕ) (m : Meaning) (o : Option (ℕ × ℕ)) → constant_named s name ≡ o → value_of o ≡ Some m → value_of (constant_named t name) ≡ Some m
  mapped_kept name m None e h = absurd (none-some m h)
  mapped_kept name m (Some x) e h = ap value_of (constant_kept name x (place_of (all_constants s.enumerations) name) refl e) ∙ h

  value_kept : (name : List ℕ) (m : Meaning) → value_named s name ≡ Some m → value_named t name ≡ Some m
  value_kept name m h = by_word (bytes_eq name (codes "true")) (bytes_eq name (codes "false")) h
    where
      by_word : (a b : Bool) → value_by a b (constant_named s name) ≡ Some m → value_by a b (constant_named t name) ≡ Some m
      by_word true b h = h
      by_word false true h = h
      by_word false false h = mapped_kept name m (constant_named s name) refl h

  mapped_lacks : (name : List ℕ) (o : Option (ℕ × ℕ)) → constant_named s name ≡ o → value_of o ≡ None → is_among (all_constants g.enumerations) name ≡ false → value_of (constant_named t name) ≡ None
  mapped_lacks name None e h a = ap value_of (constant_lacks name (place_of (all_constants s.enumerations) name) refl e a)
  mapped_lacks name (Some x) e h a = absurd (none-some _ (sym h))

  value_lacks : (name : List ℕ) → value_named s name ≡ None → is_among (all_constants g.enumerations) name ≡ false → value_named t name ≡ None
  value_lacks name h a = by_word (bytes_eq name (codes "true")) (bytes_eq name (codes "false")) h
    where
      by_word : (a b : Bool) → value_by a b (constant_named s name) ≡ None → value_by a b (constant_named t name) ≡ None
      by_word true b h = h
      by_word false true h = h
      by_word false false h = mapped_lacks name (constant_named s name) refl h a

  -- FUNCTIONS

  names_are : function_names t ≡ function_names s ++ map (λ (f : PlainFunction). f.name) g.functions
  names_are = ap (map (λ (f : PlainFunction). f.name)) g.all_functions ∙ names_append s.functions g.functions

  name_kept : (name : List ℕ) (n : ℕ) → place_of (function_names s) name ≡ Some n → place_of (function_names t) name ≡ Some n
  name_kept name n e = ap (λ ns. place_of ns name) names_are ∙ place_front (function_names s) (map (λ (f : PlainFunction). f.name) g.functions) name n e

  name_lacks : (name : List ℕ) → place_of (function_names s) name ≡ None → is_among (map (λ (f : PlainFunction). f.name) g.functions) name ≡ false → place_of (function_names t) name ≡ None
  name_lacks name e a = ap (λ ns. place_of ns name) names_are ∙ place_neither (function_names s) (map (λ (f : PlainFunction). f.name) g.functions) name e (not_among _ a)

  function_front : (n : ℕ) → n < length s.functions → slice_get t.functions n ≡ slice_get s.functions n
  function_front n h = ap (λ fs. slice_get fs n) g.all_functions ∙ get_front s.functions g.functions n h

  function_kept : (n : ℕ) (f : PlainFunction) → slice_get s.functions n ≡ Some f → slice_get t.functions n ≡ Some f
  function_kept n f e = function_front n (slice_get_within s.functions n f e) ∙ e

  function_found : (name : List ℕ) (n : ℕ) → place_of (function_names s) name ≡ Some n → slice_get t.functions n ≡ slice_get s.functions n
  function_found name n e =
      let h : n < length (function_names s) = place_within (function_names s) name n e in
      function_front n (subst (λ m. n < m) (length-map s.functions _) h)

  abbrev call_in : ScopeState → Option ℕ → Option Meaning
  call_in u o = reading.call_of reading.bare_call u.functions o

  calls_kept : (name : List ℕ) (m : Meaning) (o : Option ℕ) → place_of (function_names s) name ≡ o → call_in s o ≡ Some m → call_in t (place_of (function_names t) name) ≡ Some m
  calls_kept name m None e h = absurd (none-some m h)
  calls_kept name m (Some n) e h = ap (call_in t) (name_kept name n e) ∙ ap (reading.bare_call n) (function_found name n e) ∙ h

  call_taken : (name : List ℕ) (m : Meaning) (o : Option ℕ) → place_of (function_names s) name ≡ o → call_in s o ≡ Some m → is_term_name s name ≡ true
  call_taken name m None e h = absurd (none-some m h)
  call_taken name m (Some n) e h = function_taken s name (ap is_some e)

  abbrev scope_meaning : ScopeState → List ℕ → Option Meaning
  scope_meaning u name = or_else (value_named u name) (call_in u (place_of (function_names u) name))

  scope_kept : (name : List ℕ) (m : Meaning) (o : Option Meaning) → value_named s name ≡ o → or_else o (call_in s (place_of (function_names s) name)) ≡ Some m → scope_meaning t name ≡ Some m
  scope_kept name m (Some x) e h = ap (λ o. or_else o (call_in t (place_of (function_names t) name))) (value_kept name x e) ∙ h
  scope_kept name m None e h =
      let fresh = g.fresh name (call_taken name m (place_of (function_names s) name) refl h) in
      ap (λ o. or_else o (call_in t (place_of (function_names t) name))) (value_lacks name e fresh.0) ∙ calls_kept name m (place_of (function_names s) name) refl h

  abbrev head_by : ScopeState → List ℕ → Option ℕ → Option Head
  head_by u name o = or_else (reading.head_function u.functions o) (option_map heads.Operator (operator_named name))

  pub head_kept : (name : List ℕ) (h : Head) → head_named s name ≡ Some h → head_named t name ≡ Some h
  head_kept name h e = by_place (place_of (function_names s) name) refl e
    where
      by_operator : (o : Option TermOp) → operator_named name ≡ o → place_of (function_names s) name ≡ None → option_map heads.Operator o ≡ Some h → head_named t name ≡ Some h
      by_operator None e p k = absurd (none-some h k)
      by_operator (Some o) e p k =
          ap (head_by t name) (name_lacks name p (g.fresh name (operator_taken s name o e)).1) ∙ ap (option_map heads.Operator) e ∙ k

      by_place : (o : Option ℕ) → place_of (function_names s) name ≡ o → head_by s name o ≡ Some h → head_named t name ≡ Some h
      by_place None p k = by_operator (operator_named name) refl p k
      by_place (Some n) p k =
          ap (head_by t name) (name_kept name n p) ∙ ap (λ o. or_else (reading.head_call n o) (option_map heads.Operator (operator_named name))) (function_found name n p) ∙ k

  operator_kept : (o : TermOp) → IsKnownOperator s o → IsKnownOperator t o
  operator_kept (op.Extract high low) h = h
  operator_kept (op.ZeroExtend n) h = h
  operator_kept (op.SignExtend n) h = h
  operator_kept o h = head_kept (operator_word o) (heads.Operator o) h

  constant_name_kept : (n i : ℕ) → n < length s.enumerations → constant_name t n i ≡ constant_name s n i
  constant_name_kept n i h = ap (λ o. name_at (constants_or_none o) i) (ap (λ es. slice_get es n) g.all_enumerations ∙ get_front s.enumerations g.enumerations n h)

-- A CONSTANT THAT IS MEANT IS ONE OF THE SCOPE

abbrev Within : ScopeState → Option Meaning → Type 0
Within s (Some (meaning.Value (datum.Constant n i) x)) = n < length s.enumerations
Within s o = Unit {0}

either_within : (s : ScopeState) (a b : Option Meaning) → Within s a → Within s b → Within s (or_else a b)
either_within s None b h g = g
either_within s (Some m) b h g = h

bound_within : (s : ScopeState) (o : Option Found) → Within s (option_map (λ (f : Found). meaning.Bound f.number f.sort) o)
bound_within s None = tt
bound_within s (Some f) = tt

variable_within : (s : ScopeState) (o : Option Found) → Within s (option_map (λ (f : Found). meaning.Variable f.number f.sort) o)
variable_within s None = tt
variable_within s (Some f) = tt

constant_within : (s : ScopeState) (k : Option ℕ) → Within s (option_map (λ (x : ℕ × ℕ). meaning.Value (datum.Constant x.0 x.1) (Choice x.0)) (option_and_then (slice_get (constant_numbers 0 s.enumerations)) k))
constant_within s None = tt
constant_within s (Some k) = by_place (slice_get (constant_numbers 0 s.enumerations) k) refl
  where
    by_place : (o : Option (ℕ × ℕ)) → slice_get (constant_numbers 0 s.enumerations) k ≡ o → Within s (option_map (λ (x : ℕ × ℕ). meaning.Value (datum.Constant x.0 x.1) (Choice x.0)) o)
    by_place None e = tt
    by_place (Some x) e = let i = constant_is s.enumerations k x e in slice_get_within s.enumerations x.0 i.enumeration i.there

value_within : (s : ScopeState) (name : List ℕ) → Within s (value_named s name)
value_within s name = by_word (bytes_eq name (codes "true")) (bytes_eq name (codes "false"))
  where
    by_word : (a b : Bool) → Within s (cond a (Some (meaning.Value (datum.Truth true) Truth)) (cond b (Some (meaning.Value (datum.Truth false) Truth))
        (option_map (λ (x : ℕ × ℕ). meaning.Value (datum.Constant x.0 x.1) (Choice x.0)) (constant_named s name))))
    by_word true b = tt
    by_word false true = tt
    by_word false false = constant_within s (place_of (all_constants s.enumerations) name)

call_within : (s : ScopeState) (o : Option ℕ) → Within s (reading.call_of reading.bare_call s.functions o)
call_within s None = tt
call_within s (Some n) = by_function (slice_get s.functions n)
  where
    by_function : (o : Option PlainFunction) → Within s (reading.bare_call n o)
    by_function None = tt
    by_function (Some f) = by_count (eqb (length f.parameters) 0)
      where
        by_count : (b : Bool) → Within s (cond b (Some (meaning.Call n f.result)) None)
        by_count true = tt
        by_count false = tt

meaning_within : (c : Context) (bounds : List Local) (name : List ℕ) → Within c.scope (meaning_of c bounds name)
meaning_within c bounds name =
    either_within c.scope _ _ (bound_within c.scope (finding.last_of 0 bounds name))
    (either_within c.scope _ _ (variable_within c.scope (finding.first_of 0 c.variables name))
    (either_within c.scope _ _ (value_within c.scope name) (call_within c.scope (place_of (function_names c.scope) name))))

-- TERMS

module _ (c : Context) (t : ScopeState) (g : Grows c.scope t) where
  meaning_kept : (bounds : List Local) (name : List ℕ) (m : Meaning) → meaning_of c bounds name ≡ Some m → meaning_of (in_scope c t) bounds name ≡ Some m
  meaning_kept bounds name m e =
      let here = option_map (λ (f : Found). meaning.Bound f.number f.sort) (finding.last_of 0 bounds name) in
      let declared = option_map (λ (f : Found). meaning.Variable f.number f.sort) (finding.first_of 0 c.variables name) in
      let before = or_else (value_named c.scope name) (reading.call_of reading.bare_call c.scope.functions (place_of (function_names c.scope) name)) in
      let after = or_else (value_named t name) (reading.call_of reading.bare_call t.functions (place_of (function_names t) name)) in
      or_kept here (or_else declared before) (or_else declared after) m (or_kept declared before after m (λ e. scope_kept c.scope t g name m (value_named c.scope name) refl e)) e

  value_on : (bounds : List Local) (d : Datum) (s : Sort) → IsWellScopedValue c bounds d s → IsWellScopedValue (in_scope c t) bounds d s
  value_on bounds (datum.Truth b) s h = (h.0, meaning_kept bounds (truth_word b) _ h.1)
  value_on bounds (datum.Bits w) s h = h
  value_on bounds (datum.Constant n i) s h =
      let l : n < length c.scope.enumerations = subst (Within c.scope) h.1 (meaning_within c bounds (constant_name c.scope n i)) in
      (h.0, ap (meaning_of (in_scope c t) bounds) (constant_name_kept c.scope t g n i l) ∙ meaning_kept bounds (constant_name c.scope n i) _ h.1)

  call_on : (bounds : List Local) (n : ℕ) (f : PlainFunction) (ss : List Sort) → IsWellScopedCall c bounds n f ss → IsWellScopedCall (in_scope c t) bounds n f ss
  call_on bounds n f [] h = meaning_kept bounds f.name _ h
  call_on bounds n f (s ∷ ss) h = (head_kept c.scope t g f.name _ h.0, h.1, h.2)

  mutual
    pub stands_on : (bounds : List Local) (u : Tree) (s : Sort) → IsWellScoped c bounds u s → IsWellScoped (in_scope c t) bounds u s
    stands_on bounds (constant d) s h = value_on bounds d s h
    stands_on bounds (variable v primed) s h = (meaning_kept bounds _ _ h.0, h.1)
    stands_on bounds (bound i) s h = meaning_kept bounds _ _ h
    stands_on bounds (apply o us) s h = (h.0, each_on bounds us h.0 h.1, h.2, operator_kept c.scope t g o h.3)
    stands_on bounds (binding names us u) s h = (h.0, h.1, h.2, each_on bounds us h.0 h.3, stands_on (bounds ++ bound_locals names h.0) u s h.4)
    stands_on bounds (call n us) s h =
        (h.0, function_kept c.scope t g n h.0 h.1, h.2, each_on bounds us (sorts_of h.0.parameters) h.3, call_on bounds n h.0 (sorts_of h.0.parameters) h.4)

    each_on : (bounds : List Local) (us : Trees) (ss : List Sort) → AreWellScoped c bounds us ss → AreWellScoped (in_scope c t) bounds us ss
    each_on bounds no_trees [] h = tt
    each_on bounds no_trees (s ∷ ss) h = absurd h
    each_on bounds (tree u us) [] h = absurd h
    each_on bounds (tree u us) (s ∷ ss) h = (stands_on bounds u s h.0, each_on bounds us ss h.1)
