-- A form of which no test fails spells a term that can appear in its place, by induction over the form.
use Rattle.std.proofs.Common.{◌≡◌, ℕ, zero, suc, ◌+◌, ◌<◌, Bool, true, false, not, cond, eqb, List, [], ◌∷◌, ◌++◌, ◌⊎◌, map, length, Option, None, Some, Result, Ok, Err, IfOk, nat_lt, nat_le, refl, sym, ap, ◌∙◌, subst, arith, inl, inr}
use Rattle.std.specs.Prelude.{slice_get, codes, option_and_then, ◌*◌, ◌&&◌}
use Rattle.std.specs.Option.{option_map}
use Rattle.std.specs.List.{list_all}
use Rattle.std.specs.Str.{bytes_eq}
use Rattle.std.proofs.lemmas.Bool.{and_parts}
use Rattle.std.proofs.lemmas.Bool.Decides.{nat_tests}
use Rattle.std.proofs.lemmas.Slice.Eq.{bytes_eq-Decides}
use Rattle.std.proofs.lemmas.Option.{same_Some, none-some}
use Rattle.std.proofs.lemmas.List.{length-append}
use Rattle.text_core.specs.declared.place.Place.{Place}
use Rattle.text_core.specs.declared.place.Refusal.{Refusal}
use Rattle.word_core.specs.Words.{BitVector}
use Rattle.word_core.specs.Digits.{digits_value, fitted, read_word}
use Rattle.word_core.specs.declared.word.TheConstants.{WIDEST}
use Rattle.moxi_sexpr.specs.declared.form.Atom.{Atom}
use Rattle.moxi_sexpr.specs.declared.form.Atom.TheVariants.{Symbol, Keyword, Numeral, Binary, Hex, Quote}
use Rattle.moxi_sexpr.specs.Lexing.{refusal}
use Rattle.moxi_sexpr.specs.Tree as form
use Rattle.moxi_terms.specs.declared.data.Sort.{Sort}
use Rattle.moxi_terms.specs.declared.data.Sort.TheVariants.{Truth, Bits, Choice}
use Rattle.moxi_terms.specs.declared.data.Datum.TheVariants as datum
use Rattle.moxi_terms.specs.declared.data.Primes.{Primes}
use Rattle.moxi_terms.specs.declared.data.Primes.TheVariants.{Allowed, Refused}
use Rattle.moxi_terms.specs.declared.data.TermOp.{TermOp}
use Rattle.moxi_terms.specs.declared.data.TermOp.TheVariants as op
use Rattle.moxi_terms.specs.declared.names.Meaning.{Meaning}
use Rattle.moxi_terms.specs.declared.names.Meaning.TheVariants as meaning
use Rattle.moxi_terms.specs.declared.names.Head.{Head}
use Rattle.moxi_terms.specs.declared.names.Head.TheVariants as heads
use Rattle.moxi_term_reading.specs.declared.heads.HeadFailure.{HeadFailure}
use Rattle.moxi_term_reading.specs.declared.heads.HeadFailure.TheVariants.{Unknown}
use Rattle.moxi_term_reading.specs.declared.locals.Local.{Local}
use Rattle.moxi_terms.specs.declared.term.Enumeration.{Enumeration}
use Rattle.moxi_terms.specs.declared.term.Variable.{Variable}
use Rattle.moxi_terms.specs.Tree.{Tree, constant, variable, bound, call, no_trees, trees_of, PlainFunction, sorts_of}
use Rattle.moxi_terms.specs.View.{ScopeState}
use Rattle.moxi_terms.specs.Names.{or_else, function_names, constant_named, numbered, constant_numbers, all_constants}
use Rattle.name_maps.specs.Names.{place_of}
use Rattle.moxi_terms.specs.Words.{operators, indexed_operators, left_out_operators, row_named, operator_named, is_one_of}
use Rattle.moxi_term_reading.specs.Forms.{place_in, symbol_of, symbol_atom, numeral_of, pair_of, is_named, is_word, is_primed}
use Rattle.moxi_term_reading.specs.Reading as reading
use Rattle.moxi_terms.specs.Meanings as meanings
use Rattle.moxi_term_reading.specs.Finding as finding
use Rattle.moxi_term_reading.specs.Typing as typing
use Rattle.moxi_term_reading.specs.SortReading as sort_reading
use Rattle.moxi_term_reading.specs.Reading.{Context, Reading, Arguments, Bindings, meaning_of, names_of}
use Rattle.moxi_term_reading.specs.Finding.{Found}
use Rattle.moxi_terms.specs.Meanings.{head_named}
use Rattle.moxi_term_reading.specs.WellSorted.{HaveKnownSorts}
use Rattle.moxi_terms.proofs.PlaceLaws.{place_there, index_read}
use Rattle.moxi_term_reading.specs.laws.SortedParts.{some_fails, none_in, stays, FoundIn, first_found, last_found, known_append, all_have_sorts, names_long, read_is_word, tests_hold, call_fits, head_fails}
use Rattle.moxi_term_print.specs.Terms.{name_at, constants_or_none, constant_name, operator_word, truth_word}
use Rattle.moxi_term_print.specs.WellScoped.{bound_locals, IsAllowedPrime, IsKnownOperator, IsWellScopedCall, IsWellScoped, AreWellScoped}
use Rattle.moxi_term_print.specs.WellScopedReads.{IsWellScopedReading}
use Rattle.text_core.proofs.ListLaws.{no_length}

-- NAMES THAT ARE FOUND

-- the number, counted from n, is that of the name
abbrev Named : ℕ → List Local → List ℕ → Option Found → Type 0
Named n ls name None = Unit {0}
Named n ls name (Some f) = (i : ℕ) × (f.number ≡ n + i) × (slice_get (names_of ls) i ≡ Some name)

named_later : (n : ℕ) (l : Local) (ls : List Local) (name : List ℕ) (o : Option Found) → Named (suc n) ls name o → Named n (l ∷ ls) name o
named_later n l ls name None h = tt
named_later n l ls name (Some f) h = (suc h.0, (let e : f.number ≡ suc n + h.0 = h.1 in omega arith), h.2)

named_here : (n : ℕ) (l : Local) (ls : List Local) (name : List ℕ) → bytes_eq name l.name ≡ true → Named n (l ∷ ls) name (Some (record { number = n; sort = l.sort }))
named_here n l ls name e = (0, omega arith, ap Some (sym ((bytes_eq-Decides name l.name).0 e)))

named_either : (n : ℕ) (ls : List Local) (name : List ℕ) (a b : Option Found) → Named n ls name a → Named n ls name b → Named n ls name (or_else a b)
named_either n ls name None b h g = g
named_either n ls name (Some f) b h g = h

first_named : (n : ℕ) (ls : List Local) (name : List ℕ) → Named n ls name (finding.first_of n ls name)
first_named n [] name = tt
first_named n (l ∷ ls) name = by_test (bytes_eq name l.name) refl (named_later n l ls name (finding.first_of (suc n) ls name) (first_named (suc n) ls name))
  where
    by_test : (b : Bool) → bytes_eq name l.name ≡ b → Named n (l ∷ ls) name (finding.first_of (suc n) ls name) → Named n (l ∷ ls) name (cond b (Some (record { number = n; sort = l.sort })) (finding.first_of (suc n) ls name))
    by_test true e h = named_here n l ls name e
    by_test false e h = h

last_named : (n : ℕ) (ls : List Local) (name : List ℕ) → Named n ls name (finding.last_of n ls name)
last_named n [] name = tt
last_named n (l ∷ ls) name = named_either n (l ∷ ls) name (finding.last_of (suc n) ls name) _ (named_later n l ls name _ (last_named (suc n) ls name)) (by_test (bytes_eq name l.name) refl)
  where
    by_test : (b : Bool) → bytes_eq name l.name ≡ b → Named n (l ∷ ls) name (cond b (Some (record { number = n; sort = l.sort })) None)
    by_test true e = named_here n l ls name e
    by_test false e = tt

-- CONSTANTS

-- the constant of these numbers, the enumerations counted from n, has this name
abbrev HasName : ℕ → List Enumeration → List ℕ → ℕ × ℕ → Type 0
HasName n es name x = (m : ℕ) × (x.0 ≡ n + m) × (name_at (constants_or_none (slice_get es m)) x.1 ≡ name)

-- a place among the constants of one enumeration, from number i on, or behind them
numbered_apart : (n i : ℕ) (cs : List (List ℕ)) (xs : List (ℕ × ℕ)) (names : List (List ℕ)) (k : ℕ) (x : ℕ × ℕ) (name : List ℕ)
    → slice_get (numbered n i cs ++ xs) k ≡ Some x → slice_get (cs ++ names) k ≡ Some name
    → ((x.0 ≡ n) × (j : ℕ) × (x.1 ≡ i + j) × (slice_get cs j ≡ Some name)) ⊎ ((j : ℕ) × (slice_get xs j ≡ Some x) × (slice_get names j ≡ Some name))
numbered_apart n i [] xs names k x name h g = inr (k, h, g)
numbered_apart n i (c ∷ cs) xs names zero x name h g =
    let e = same_Some (n, i) x h in
    inl (sym (ap (λ (y : ℕ × ℕ). y.0) e), 0, (let f : i ≡ x.1 = ap (λ (y : ℕ × ℕ). y.1) e in omega arith), g)
numbered_apart n i (c ∷ cs) xs names (suc k) x name h g =
    elim (numbered_apart n (suc i) cs xs names k x name h g) [
      | inl r ↦ inl (r.0, suc r.1, (let f : x.1 ≡ suc i + r.1 = r.2 in omega arith), r.3)
      | inr r ↦ inr r
    ]

constants_named : (n : ℕ) (es : List Enumeration) (k : ℕ) (x : ℕ × ℕ) (name : List ℕ) → slice_get (constant_numbers n es) k ≡ Some x → slice_get (all_constants es) k ≡ Some name → HasName n es name x
constants_named n [] k x name h g = absurd (none-some x h)
constants_named n (e ∷ es) k x name h g =
    elim (numbered_apart n 0 e.constants (constant_numbers (suc n) es) (all_constants es) k x name h g) [
      | inl r ↦ (0, (let f : x.0 ≡ n = r.0 in omega arith), ap (name_at e.constants) (let f : x.1 ≡ 0 + r.1 = r.2 in let d : x.1 ≡ r.1 = omega arith in d) ∙ index_read e.constants r.1 name [] r.3)
      | inr r ↦ let f = constants_named (suc n) es r.0 x name r.1 r.2 in (suc f.0, (let d : x.0 ≡ suc n + f.0 = f.1 in omega arith), f.2)
    ]

constant_has_name : (s : ScopeState) (k : ℕ) (x : ℕ × ℕ) (name : List ℕ) → place_of (all_constants s.enumerations) name ≡ Some k → slice_get (constant_numbers 0 s.enumerations) k ≡ Some x
    → constant_name s x.0 x.1 ≡ name
constant_has_name s k x name h g =
    let r = constants_named 0 s.enumerations k x name g (place_there (all_constants s.enumerations) name k h) in
    ap (λ n. name_at (constants_or_none (slice_get s.enumerations n)) x.1) (let d : x.0 ≡ 0 + r.0 = r.1 in let e : x.0 ≡ r.0 = omega arith in e) ∙ r.2

-- OPERATORS

has_indices : TermOp → Bool
has_indices (op.Extract high low) = true
has_indices (op.ZeroExtend n) = true
has_indices (op.SignExtend n) = true
has_indices o = false

row_agrees : List ℕ × TermOp → Bool
row_agrees row = bytes_eq (operator_word row.1) row.0 && not (has_indices row.1)

rows_agree : list_all row_agrees operators ≡ true
unfolding row_agrees has_indices operators
rows_agree = refl

agreeing : (row : List ℕ × TermOp) → row_agrees row ≡ true → (operator_word row.1 ≡ row.0) × (has_indices row.1 ≡ false)
unfolding row_agrees
agreeing row h =
    let p = and_parts (bytes_eq (operator_word row.1) row.0) (not (has_indices row.1)) h in
    ((bytes_eq-Decides (operator_word row.1) row.0).0 p.0, opposite (has_indices row.1) p.1)
  where
    opposite : (b : Bool) → not b ≡ true → b ≡ false
    opposite true h = absurd (cc)
    opposite false h = refl

row_found : (rows : List (List ℕ × TermOp)) (name : List ℕ) (o : TermOp) → list_all row_agrees rows ≡ true → row_named rows name ≡ Some o → (operator_word o ≡ name) × (has_indices o ≡ false)
row_found [] name o h g = absurd (none-some o g)
row_found (row ∷ rows) name o h g =
    let p = and_parts (row_agrees row) (list_all row_agrees rows) h in
    by_test (bytes_eq name row.0) refl g p.0 (λ e. row_found rows name o p.1 e)
  where
    by_test : (b : Bool) → bytes_eq name row.0 ≡ b → cond b (Some row.1) (row_named rows name) ≡ Some o → row_agrees row ≡ true → (row_named rows name ≡ Some o → (operator_word o ≡ name) × (has_indices o ≡ false))
        → (operator_word o ≡ name) × (has_indices o ≡ false)
    by_test true e g a later =
        let r = agreeing row a in
        let same : row.1 ≡ o = same_Some row.1 o g in
        (ap operator_word (sym same) ∙ r.0 ∙ sym ((bytes_eq-Decides name row.0).0 e), ap has_indices (sym same) ∙ r.1)
    by_test false e g a later = later g

-- an operator's name means it
operator_word_is : (name : List ℕ) (o : TermOp) → operator_named name ≡ Some o → (operator_word o ≡ name) × (has_indices o ≡ false)
operator_word_is name o h = row_found operators name o rows_agree h

plain_stands : (s : ScopeState) (o : TermOp) → has_indices o ≡ false → head_named s (operator_word o) ≡ Some (heads.Operator o) → IsKnownOperator s o
unfolding has_indices
plain_stands s (op.Extract high low) e g = absurd (cc)
plain_stands s (op.ZeroExtend n) e g = absurd (cc)
plain_stands s (op.SignExtend n) e g = absurd (cc)
plain_stands s o e g = g

-- INDICES

read_small : (b : Bool) (o : Option ℕ) (w : BitVector) → cond b (option_and_then (fitted 32) o) None ≡ Some w → w.bits < 4294967296
read_small false o w h = absurd (none-some w h)
read_small true None w h = absurd (none-some w h)
read_small true (Some n) w h = by_test (nat_lt n 4294967296) refl h
  where
    by_test : (b : Bool) → nat_lt n 4294967296 ≡ b → cond b (Some (let r : BitVector = record { width = 32; bits = n } in r)) None ≡ Some w → w.bits < 4294967296
    by_test false e g = absurd (none-some w g)
    by_test true e g = subst (λ m. m < 4294967296) (ap (λ (w : BitVector). w.bits) (same_Some _ w g)) (let l : n < 4294967296 = grind (arith, nat_tests) in l)

index_small : (digits : List ℕ) → sort_reading.index_of digits < 4294967296
index_small digits = by_word (read_word 32 10 digits) refl
  where
    by_word : (o : Option BitVector) → read_word 32 10 digits ≡ o → sort_reading.number_or_most o < 4294967296
    by_word None e = omega arith
    by_word (Some w) e = read_small (nat_le 1 32 && nat_le 32 WIDEST) (digits_value 10 digits) w e

-- the names and the sorts of locals make them up
bound_back : (ls : List Local) (ss : List Sort) → HaveKnownSorts ls ss → bound_locals (names_of ls) ss ≡ ls
bound_back [] [] h = refl
bound_back [] (s ∷ ss) h = absurd h
bound_back (l ∷ ls) [] h = absurd h
bound_back (l ∷ ls) (s ∷ ss) h =
    ap (λ o. record { name = l.name; sort = o } ∷ bound_locals (names_of ls) ss) (sym h.0) ∙ ap (λ ls. l ∷ ls) (bound_back ls ss h.1)

names_count : (ls : List Local) → length (names_of ls) ≡ length ls
names_count [] = refl
names_count (l ∷ ls) = ap suc (names_count ls)

abbrev form_count : form.Trees → ℕ
form_count form.no_trees = 0
form_count (form.tree t ts) = suc (form_count ts)

module _ (c : Context) (vars : List Sort) (of_vars : HaveKnownSorts c.variables vars) where
  checked_stands : (ls : List Local) (t : Tree) (s : Option Sort) (fs : List Refusal) (sort : Sort) → fs ≡ [] → s ≡ Some sort → IsWellScoped c ls t sort → IsWellScopedReading c ls (reading.checked_term t s fs)
  checked_stands ls t s fs sort h e g = record { sort = sort; known = stays fs s h ∙ e; stands = g }

  never : (ls : List Local) (f : Refusal) (fs : List Refusal) (r : Reading) → f ∷ fs ≡ [] → IsWellScopedReading c ls r
  never ls f fs r h = absurd (some_fails f fs h)

  -- ATOMS

  -- what is meant has this name
  abbrev Fits : List Local → List ℕ → Option Meaning → Type 0
  Fits ls name None = Unit {0}
  Fits ls name (Some (meaning.Bound i s)) = (sort : Sort) × (s ≡ Some sort) × (name_at (names_of ls) i ≡ name)
  Fits ls name (Some (meaning.Variable v s)) = (sort : Sort) × (s ≡ Some sort) × (name_at (names_of c.variables) v ≡ name)
  Fits ls name (Some (meaning.Value (datum.Truth b) s)) = (s ≡ Truth) × (truth_word b ≡ name)
  Fits ls name (Some (meaning.Value (datum.Bits w) s)) = ⊥
  Fits ls name (Some (meaning.Value (datum.Constant n i) s)) = (s ≡ Choice n) × (constant_name c.scope n i ≡ name)
  Fits ls name (Some (meaning.Call n s)) = (f : PlainFunction) × (slice_get c.scope.functions n ≡ Some f) × (sorts_of f.parameters ≡ []) × (f.result ≡ s) × (f.name ≡ name)

  either_fits : (ls : List Local) (name : List ℕ) (a b : Option Meaning) → Fits ls name a → Fits ls name b → Fits ls name (or_else a b)
  either_fits ls name None b h g = g
  either_fits ls name (Some m) b h g = h

  bound_fits : (ls : List Local) (ss : List Sort) (name : List ℕ) (o : Option Found) → FoundIn 0 ss o → Named 0 ls name o → Fits ls name (option_map (λ (f : Found). meaning.Bound f.number f.sort) o)
  bound_fits ls ss name None h g = tt
  bound_fits ls ss name (Some f) h g = (
    h.1,
    h.4,
    ap (name_at (names_of ls)) (let e : f.number ≡ 0 + g.0 = g.1 in let d : f.number ≡ g.0 = omega arith in d) ∙ index_read (names_of ls) g.0 name [] g.2,
  )

  variable_fits : (ls : List Local) (name : List ℕ) (o : Option Found) → FoundIn 0 vars o → Named 0 c.variables name o → Fits ls name (option_map (λ (f : Found). meaning.Variable f.number f.sort) o)
  variable_fits ls name None h g = tt
  variable_fits ls name (Some f) h g = (
    h.1,
    h.4,
    ap (name_at (names_of c.variables)) (let e : f.number ≡ 0 + g.0 = g.1 in let d : f.number ≡ g.0 = omega arith in d) ∙ index_read (names_of c.variables) g.0 name [] g.2,
  )

  constant_fits : (ls : List Local) (name : List ℕ) (k : Option ℕ) → place_of (all_constants c.scope.enumerations) name ≡ k
      → Fits ls name (option_map (λ (x : ℕ × ℕ). meaning.Value (datum.Constant x.0 x.1) (Choice x.0)) (option_and_then (slice_get (constant_numbers 0 c.scope.enumerations)) k))
  constant_fits ls name None h = tt
  constant_fits ls name (Some k) h = by_place (slice_get (constant_numbers 0 c.scope.enumerations) k) refl
    where
      by_place : (o : Option (ℕ × ℕ)) → slice_get (constant_numbers 0 c.scope.enumerations) k ≡ o → Fits ls name (option_map (λ (x : ℕ × ℕ). meaning.Value (datum.Constant x.0 x.1) (Choice x.0)) o)
      by_place None e = tt
      by_place (Some x) e = (refl, constant_has_name c.scope k x name h e)

  value_fits : (ls : List Local) (name : List ℕ) → Fits ls name (meanings.value_named c.scope name)
  value_fits ls name = by_word (bytes_eq name (codes "true")) (bytes_eq name (codes "false")) refl refl
    where
      by_word : (a b : Bool) → bytes_eq name (codes "true") ≡ a → bytes_eq name (codes "false") ≡ b
          → Fits ls name (cond a (Some (meaning.Value (datum.Truth true) Truth)) (cond b (Some (meaning.Value (datum.Truth false) Truth))
          (option_map (λ (x : ℕ × ℕ). meaning.Value (datum.Constant x.0 x.1) (Choice x.0)) (constant_named c.scope name))))
      by_word true b e f = (refl, sym ((bytes_eq-Decides name (codes "true")).0 e))
      by_word false true e f = (refl, sym ((bytes_eq-Decides name (codes "false")).0 f))
      by_word false false e f = constant_fits ls name (place_of (all_constants c.scope.enumerations) name) refl

  function_at : (name : List ℕ) (fs : List PlainFunction) (n : ℕ) (f : PlainFunction) → slice_get fs n ≡ Some f → slice_get (map (λ (f : PlainFunction). f.name) fs) n ≡ Some name → f.name ≡ name
  function_at name [] n f h g = absurd (none-some f h)
  function_at name (x ∷ fs) zero f h g = ap (λ (f : PlainFunction). f.name) (sym (same_Some x f h)) ∙ same_Some x.name name g
  function_at name (x ∷ fs) (suc n) f h g = function_at name fs n f h g

  call_fits_name : (ls : List Local) (name : List ℕ) (o : Option ℕ) → place_of (function_names c.scope) name ≡ o → Fits ls name (meanings.call_of meanings.bare_call c.scope.functions o)
  call_fits_name ls name None h = tt
  call_fits_name ls name (Some n) h = by_function (slice_get c.scope.functions n) refl
    where
      by_function : (o : Option PlainFunction) → slice_get c.scope.functions n ≡ o → Fits ls name (meanings.bare_call n o)
      by_function None e = tt
      by_function (Some f) e = by_count (eqb (length f.parameters) 0) refl
        where
          by_count : (b : Bool) → eqb (length f.parameters) 0 ≡ b → Fits ls name (cond b (Some (meaning.Call n f.result)) None)
          by_count true g = (f, e, no_length _ f.parameters g, refl, function_at name c.scope.functions n f e (place_there (function_names c.scope) name n h))
          by_count false g = tt

  name_fits : (ls : List Local) (ss : List Sort) (name : List ℕ) → HaveKnownSorts ls ss → Fits ls name (meaning_of c ls name)
  name_fits ls ss name h =
      either_fits ls name _ _ (bound_fits ls ss name (finding.last_of 0 ls name) (last_found 0 ls ss name h) (last_named 0 ls name))
      (either_fits ls name _ _ (variable_fits ls name (finding.first_of 0 c.variables name) (first_found 0 c.variables vars name of_vars) (first_named 0 c.variables name))
      (either_fits ls name _ _ (value_fits ls name) (call_fits_name ls name (place_of (function_names c.scope) name) refl)))

  prime_stands : (primes : Primes) (primed : Bool) (p : Place) → reading.variable_primes primes primed p ≡ [] → IsAllowedPrime primes primed
  prime_stands Allowed primed p h = tt
  prime_stands Refused true p h = absurd (some_fails (refusal 7 p) [] h)
  prime_stands Refused false p h = refl

  named_stands : (ls : List Local) (p : Place) (name : List ℕ) (primed : Bool) (m : Option Meaning) → meaning_of c ls name ≡ m → Fits ls name m → (reading.named_reading c.primes p primed m).failures ≡ []
      → IsWellScopedReading c ls (reading.named_reading c.primes p primed m)
  named_stands ls p name primed None e f h = never ls (refusal 4 p) [] _ h
  named_stands ls p name primed (Some (meaning.Bound i s)) e f h =
      checked_stands ls (bound i) s _ f.0 h f.1 (ap (meaning_of c ls) f.2 ∙ e ∙ ap (λ s. Some (meaning.Bound i s)) f.1)
  named_stands ls p name primed (Some (meaning.Variable v s)) e f h =
      checked_stands ls (variable v primed) s _ f.0 h f.1 (ap (meaning_of c ls) f.2 ∙ e ∙ ap (λ s. Some (meaning.Variable v s)) f.1, prime_stands c.primes primed p h)
  named_stands ls p name primed (Some (meaning.Value (datum.Truth b) s)) e f h =
      checked_stands ls (constant (datum.Truth b)) (Some s) _ s h refl (f.0, ap (meaning_of c ls) f.1 ∙ e ∙ ap (λ s. Some (meaning.Value (datum.Truth b) s)) f.0)
  named_stands ls p name primed (Some (meaning.Value (datum.Bits w) s)) e f h = absurd f
  named_stands ls p name primed (Some (meaning.Value (datum.Constant n i) s)) e f h =
      checked_stands ls (constant (datum.Constant n i)) (Some s) _ s h refl (f.0, ap (meaning_of c ls) f.1 ∙ e ∙ ap (λ s. Some (meaning.Value (datum.Constant n i) s)) f.0)
  named_stands ls p name primed (Some (meaning.Call n s)) e f h =
      checked_stands ls (call n no_trees) (Some s) _ s h refl (
        f.0,
        f.1,
        sym f.3,
        subst (AreWellScoped c ls no_trees) (sym f.2) tt,
        subst (IsWellScopedCall c ls n f.0) (sym f.2) (ap (meaning_of c ls) f.4 ∙ e ∙ ap (λ s. Some (meaning.Call n s)) (sym f.3)),
      )

  word_stands : (ls : List Local) (p : Place) (w base : ℕ) (digits : List ℕ) (fs : List Refusal) → (reading.word_reading p (read_word w base digits) fs).failures ≡ []
      → IsWellScopedReading c ls (reading.word_reading p (read_word w base digits) fs)
  word_stands ls p w base digits fs h = by_word (read_word w base digits) refl h
    where
      by_word : (o : Option BitVector) → read_word w base digits ≡ o → (reading.word_reading p o fs).failures ≡ [] → IsWellScopedReading c ls (reading.word_reading p o fs)
      by_word None e h = never ls (refusal 8 p) [] _ h
      by_word (Some v) e h = checked_stands ls (constant (datum.Bits v)) (Some (Bits v.width)) fs (Bits v.width) h refl (refl, read_is_word w base digits v e)

  atom_stands : (ls : List Local) (ss : List Sort) (p : Place) (a : Atom) → HaveKnownSorts ls ss → (reading.atom_reading c ls p a).failures ≡ [] → IsWellScopedReading c ls (reading.atom_reading c ls p a)
  atom_stands ls ss p (Symbol name primed) k h = named_stands ls p name primed (meaning_of c ls name) refl (name_fits ls ss name k) h
  atom_stands ls ss p (Keyword name) k h = never ls (refusal 12 p) [] _ h
  atom_stands ls ss p (Numeral digits) k h = never ls (refusal 12 p) [] _ h
  atom_stands ls ss p (Binary digits) k h = word_stands ls p (length digits) 2 digits [] h
  atom_stands ls ss p (Hex digits) k h = word_stands ls p (4 * length digits) 16 digits [] h
  atom_stands ls ss p (Quote bytes) k h = never ls (refusal 12 p) [] _ h

  underscore_stands : (ls : List Local) (p q : Place) (first : Bool) (ts : form.Trees) → (reading.underscore_reading p q first ts).failures ≡ [] → IsWellScopedReading c ls (reading.underscore_reading p q first ts)
  underscore_stands ls p q first form.no_trees h = never ls (refusal 4 q) [] _ h
  underscore_stands ls p q first (form.tree t ts) h = by_symbol (symbol_of t) h
    where
      by_width : (digits : List ℕ) (fs : List Refusal) (o : Option (List ℕ)) → (reading.literal_reading p digits fs o).failures ≡ [] → IsWellScopedReading c ls (reading.literal_reading p digits fs o)
      by_width digits fs None h = never ls (refusal 12 p) [] _ h
      by_width digits fs (Some width) h = word_stands ls p (sort_reading.index_of width) 10 digits fs h

      by_digits : (name : List ℕ) (fs : List Refusal) (o : Option (List ℕ)) → (reading.literal_named p q name fs o ts).failures ≡ [] → IsWellScopedReading c ls (reading.literal_named p q name fs o ts)
      by_digits name fs None h = never ls _ [] _ h
      by_digits name fs (Some digits) h = by_width digits fs (sort_reading.only_numeral ts) h

      by_symbol : (o : Option (List ℕ × Bool)) → (reading.symbol_underscored p q first (place_in t) o ts).failures ≡ [] → IsWellScopedReading c ls (reading.symbol_underscored p q first (place_in t) o ts)
      by_symbol None h = never ls (refusal 4 q) [] _ h
      by_symbol (Some x) h = by_digits x.0 _ (reading.literal_digits x.0) h

  -- HEADS

  -- a head whose name means it
  abbrev HeadIsKnown : Head → Type 0
  HeadIsKnown (heads.Operator o) = IsKnownOperator c.scope o
  HeadIsKnown (heads.Function n) =
      (f : PlainFunction) × (slice_get c.scope.functions n ≡ Some f) × (eqb (length f.parameters) 0 ≡ false)
      × (head_named c.scope f.name ≡ Some (heads.Function n)) × (bytes_eq f.name (codes "let") ≡ false) × (bytes_eq f.name (codes "_") ≡ false)

  operator_stands : (name : List ℕ) (o : Option TermOp) (h : Head) → operator_named name ≡ o → head_named c.scope name ≡ Some h → option_map heads.Operator o ≡ Some h → HeadIsKnown h
  operator_stands name None h e f g = absurd (none-some h g)
  operator_stands name (Some o) h e f g =
      let w = operator_word_is name o e in
      subst HeadIsKnown (same_Some (heads.Operator o) h g) (plain_stands c.scope o w.1 (ap (head_named c.scope) w.0 ∙ f ∙ sym g))

  function_stands : (name : List ℕ) (n : ℕ) (f : PlainFunction) (h : Head) → bytes_eq name (codes "let") ≡ false → bytes_eq name (codes "_") ≡ false → place_of (function_names c.scope) name ≡ Some n
      → slice_get c.scope.functions n ≡ Some f → head_named c.scope name ≡ Some h → (b : Bool) → eqb (length f.parameters) 0 ≡ b
      → or_else (cond b None (Some (heads.Function n))) (option_map heads.Operator (operator_named name)) ≡ Some h → HeadIsKnown h
  function_stands name n f h x y place there e true b g = operator_stands name (operator_named name) h refl e g
  function_stands name n f h x y place there e false b g =
      let same : f.name ≡ name = function_at name c.scope.functions n f there (place_there (function_names c.scope) name n place) in
      subst HeadIsKnown (same_Some (heads.Function n) h g)
      (f, there, b, ap (head_named c.scope) same ∙ e ∙ sym g, ap (λ w. bytes_eq w (codes "let")) same ∙ x, ap (λ w. bytes_eq w (codes "_")) same ∙ y)

  head_name_stands : (name : List ℕ) (h : Head) → bytes_eq name (codes "let") ≡ false → bytes_eq name (codes "_") ≡ false → head_named c.scope name ≡ Some h → HeadIsKnown h
  head_name_stands name h x y e = by_place (place_of (function_names c.scope) name) refl e
    where
      by_function : (n : ℕ) → place_of (function_names c.scope) name ≡ Some n → (o : Option PlainFunction) → slice_get c.scope.functions n ≡ o
          → or_else (meanings.head_call n o) (option_map heads.Operator (operator_named name)) ≡ Some h → HeadIsKnown h
      by_function n place None there g = operator_stands name (operator_named name) h refl e g
      by_function n place (Some f) there g = function_stands name n f h x y place there e (eqb (length f.parameters) 0) refl g

      by_place : (o : Option ℕ) → place_of (function_names c.scope) name ≡ o → or_else (meanings.head_function c.scope.functions o) (option_map heads.Operator (operator_named name)) ≡ Some h → HeadIsKnown h
      by_place None place g = operator_stands name (operator_named name) h refl e g
      by_place (Some n) place g = by_function n place (slice_get c.scope.functions n) refl g

  known_stands : (name : List ℕ) (f : Refusal) (o : Option Head) → bytes_eq name (codes "let") ≡ false → bytes_eq name (codes "_") ≡ false → head_named c.scope name ≡ o → IfOk (reading.known_head o f) HeadIsKnown
  known_stands name f None x y e = tt
  known_stands name f (Some h) x y e = head_name_stands name h x y e

  symbol_stands : (p q : Place) (o : Option (List ℕ × Bool)) → is_named (codes "let") o ≡ false → is_named (codes "_") o ≡ false → IfOk (reading.atom_head c.scope p q o) HeadIsKnown
  symbol_stands p q None x y = tt
  symbol_stands p q (Some w) x y = known_stands w.0 _ (head_named c.scope w.0) x y refl

  extracted_stands : (q : Place) (a b : Option (List ℕ)) → IfOk (reading.extracted_head q a b) HeadIsKnown
  extracted_stands q None b = tt
  extracted_stands q (Some high) None = tt
  extracted_stands q (Some high) (Some low) = (index_small high, index_small low)

  paired_stands : (q : Place) (o : Option (form.Tree × form.Tree)) → IfOk (reading.paired_head q o) HeadIsKnown
  paired_stands q None = tt
  paired_stands q (Some x) = extracted_stands q (numeral_of x.0) (numeral_of x.1)

  extended_stands : (q : Place) (name : List ℕ) (o : Option (List ℕ)) → IfOk (reading.extended_head q name o) HeadIsKnown
  extended_stands q name None = tt
  extended_stands q name (Some count) = by_word (bytes_eq name (codes "zero_extend"))
    where
      by_word : (b : Bool) → IfOk (let r : Result Head HeadFailure = cond b (Ok (heads.Operator (op.ZeroExtend (sort_reading.index_of count)))) (Ok (heads.Operator (op.SignExtend (sort_reading.index_of count)))) in r) HeadIsKnown
      by_word true = index_small count
      by_word false = index_small count

  indexed_stands : (p q : Place) (o : Option (List ℕ × Bool)) (ts : form.Trees) → IfOk (reading.symbol_head p q o ts) HeadIsKnown
  indexed_stands p q None ts = tt
  indexed_stands p q (Some x) ts = by_word (is_one_of indexed_operators x.0) (bytes_eq x.0 (codes "extract"))
    where
      by_word : (a b : Bool) → IfOk (cond a (cond b (reading.paired_head q (pair_of ts)) (reading.extended_head q x.0 (sort_reading.only_numeral ts))) (Err (Unknown (sort_reading.unknown (is_one_of left_out_operators x.0) p q)))) HeadIsKnown
      by_word true true = paired_stands q (pair_of ts)
      by_word true false = extended_stands q x.0 (sort_reading.only_numeral ts)
      by_word false b = tt

  listed_stands : (p q : Place) (ts : form.Trees) → IfOk (reading.listed_head p q ts) HeadIsKnown
  listed_stands p q form.no_trees = tt
  listed_stands p q (form.tree t ts) = indexed_stands p q (symbol_of t) ts

  head_stands : (p : Place) (t : form.Tree) → is_word (codes "let") t ≡ false → is_word (codes "_") t ≡ false → IfOk (reading.head_of c.scope p t) HeadIsKnown
  head_stands p (form.atom q a) x y = symbol_stands p q (symbol_atom a) x y
  head_stands p (form.list q form.no_trees) x y = tt
  head_stands p (form.list q (form.tree t ts)) x y = by_word (is_word (codes "_") t)
    where
      by_word : (b : Bool) → IfOk (cond b (reading.listed_head p q ts) (Err (Unknown (refusal 4 q)))) HeadIsKnown
      by_word true = listed_stands p q ts
      by_word false = tt

  -- APPLICATIONS

  -- terms one behind the other
  record AreWellScopedReadings (ls : List Local) (x : Arguments) : Type 0 where
    pub sorts : List Sort
    pub known : x.sorts ≡ Some sorts
    pub stand : AreWellScoped c ls (trees_of x.terms) sorts

  both_stand : (ls : List Local) (r : Reading) (x : Arguments) → IsWellScopedReading c ls r → AreWellScopedReadings ls x → AreWellScopedReadings ls (reading.both_arguments (reading.argument r) x)
  both_stand ls r x h g = record {
    sorts = h.sort ∷ g.sorts;
    known = ap (λ o. reading.joined (option_map (λ s. s ∷ []) o) x.sorts) h.known ∙ ap (reading.joined (Some (h.sort ∷ []))) g.known;
    stand = (h.stands, g.stand);
  }

  call_stands : (ls : List Local) (n : ℕ) (f : PlainFunction) (ps : List Variable) → eqb (length ps) 0 ≡ false → head_named c.scope f.name ≡ Some (heads.Function n) → bytes_eq f.name (codes "let") ≡ false
      → bytes_eq f.name (codes "_") ≡ false → IsWellScopedCall c ls n f (sorts_of ps)
  call_stands ls n f [] e h x y = absurd (cc)
  call_stands ls n f (v ∷ ps) e h x y = (h, x, y)

  headed_stands : (ls : List Local) (h : Head) (x : Arguments) (g : AreWellScopedReadings ls x) (s : Sort) → HeadIsKnown h → typing.head_sort c.scope.functions h g.sorts ≡ Ok s → IsWellScoped c ls (reading.headed h (trees_of x.terms)) s
  headed_stands ls (heads.Operator o) x g s h e = (g.sorts, g.stand, e, h)
  headed_stands ls (heads.Function n) x g s h e =
      let r = call_fits (slice_get c.scope.functions n) g.sorts s e in
      let same : r.0 ≡ h.0 = same_Some r.0 h.0 (sym r.1 ∙ h.1) in (
        h.0,
        h.1,
        sym r.3 ∙ ap (λ (f : PlainFunction). f.result) same,
        subst (AreWellScoped c ls (trees_of x.terms)) (sym r.2 ∙ ap (λ (f : PlainFunction). sorts_of f.parameters) same) g.stand,
        call_stands ls n h.0 h.0.parameters h.2 h.3 h.4 h.5,
      )

  application_stands : (ls : List Local) (p : Place) (primes : List Refusal) (h : Result Head HeadFailure) (x : Arguments) → IfOk h HeadIsKnown → (x.failures ≡ [] → AreWellScopedReadings ls x)
      → (reading.application c.scope.functions p primes h x).failures ≡ [] → IsWellScopedReading c ls (reading.application c.scope.functions p primes h x)
  application_stands ls p primes (Err f) x i g e = absurd (head_fails p f (length x.terms) (none_in x.failures (reading.head_tests p f (length x.terms)) e).1)
  application_stands ls p primes (Ok h) x i g e =
      let e1 = none_in x.failures _ e in
      let e2 = none_in primes _ e1.1 in
      let a = g e1.0 in
      let t = tests_hold c.scope.functions p h (length x.terms) a.sorts (subst (λ o. reading.argument_tests c.scope.functions p h (length x.terms) o ≡ []) a.known e2.1) in
      record {
        sort = t.0;
        known = stays _ _ e1.1 ∙ ap (reading.applied_sort c.scope.functions h) a.known ∙ ap reading.sort_result t.1;
        stands = headed_stands ls h x a t.0 i t.1;
      }

  -- BINDINGS

  -- what so many forms of a `let` bind
  record AreBoundTo (ls : List Local) (n : ℕ) (x : Bindings) : Type 0 where
    pub sorts : List Sort
    pub known : HaveKnownSorts x.locals sorts
    pub stand : AreWellScoped c ls (trees_of x.terms) sorts
    pub count : length x.locals ≡ n

  stand_append : (ls : List Local) (ts us : List Tree) (s1 s2 : List Sort) → AreWellScoped c ls (trees_of ts) s1 → AreWellScoped c ls (trees_of us) s2 → AreWellScoped c ls (trees_of (ts ++ us)) (s1 ++ s2)
  stand_append ls [] us [] s2 h g = g
  stand_append ls [] us (s ∷ s1) s2 h g = absurd h
  stand_append ls (t ∷ ts) us [] s2 h g = absurd h
  stand_append ls (t ∷ ts) us (s ∷ s1) s2 h g = (h.0, stand_append ls ts us s1 s2 h.1 g)

  bindings_both : (ls : List Local) (n : ℕ) (x y : Bindings) → AreBoundTo ls 1 x → AreBoundTo ls n y → AreBoundTo ls (suc n) (reading.both_bindings x y)
  bindings_both ls n x y h g = record {
    sorts = h.sorts ++ g.sorts;
    known = known_append x.locals y.locals h.sorts g.sorts h.known g.known;
    stand = stand_append ls x.terms y.terms h.sorts g.sorts h.stand g.stand;
    count = omega (arith, length-append x.locals y.locals, h.count, g.count);
  }

  binding_stands : (ls : List Local) (p : Place) (t : form.Tree) (o : Option (List ℕ × Bool)) (r : Reading) → (r.failures ≡ [] → IsWellScopedReading c ls r)
      → (reading.binding_of p t o r).shape ≡ [] → (reading.binding_of p t o r).failures ≡ [] → AreBoundTo ls 1 (reading.binding_of p t o r)
  binding_stands ls p t None r g h f = absurd (some_fails (refusal 12 p) [] h)
  binding_stands ls p t (Some x) r g h f = let w = g f in record { sorts = w.sort ∷ []; known = (w.known, tt); stand = (w.stands, tt); count = refl }

  let_stands : (ls : List Local) (ss : List Sort) (tests : List Refusal) (n : ℕ) (x : Bindings) (r : Reading) → HaveKnownSorts ls ss → (tests ≡ [] → 0 < n)
      → (x.shape ≡ [] → x.failures ≡ [] → AreBoundTo ls n x) → ((ts : List Sort) → HaveKnownSorts (ls ++ x.locals) ts → r.failures ≡ [] → IsWellScopedReading c (ls ++ x.locals) r)
      → (reading.let_reading tests x r).failures ≡ [] → IsWellScopedReading c ls (reading.let_reading tests x r)
  let_stands ls ss tests n x r k some g b e =
      let e1 = none_in tests _ e in
      let e2 = none_in x.shape _ e1.1 in
      let e3 = none_in x.failures r.failures e2.1 in
      let a = g e2.0 e3.0 in
      let w = b (ss ++ a.sorts) (known_append ls x.locals ss a.sorts k a.known) e3.1 in
      record {
        sort = w.sort;
        known = stays _ _ (ap (λ fs. fs ++ x.shape) e1.0 ∙ e2.0) ∙ ap (λ b. cond b r.sort None) (all_have_sorts x.locals a.sorts a.known) ∙ w.known;
        stands = (
          a.sorts,
          (let q : 0 < n = some e1.0 in omega (arith, q, names_count x.locals, a.count)),
          names_long x.locals a.sorts a.known,
          a.stand,
          subst (λ ms. IsWellScoped c (ls ++ ms) r.term w.sort) (sym (bound_back x.locals a.sorts a.known)) w.stands,
        );
      }

  some_forms : (q : Place) (primes : List Refusal) (bs : form.Trees) → primes ++ reading.bindings_tests q bs ≡ [] → 0 < form_count bs
  some_forms q primes form.no_trees h = absurd (some_fails (refusal 12 q) [] (none_in primes _ h).1)
  some_forms q primes (form.tree b bs) h = omega arith

  -- FORMS

  mutual
    pub read_stands : (ls : List Local) (ss : List Sort) (t : form.Tree) → HaveKnownSorts ls ss → (reading.read c ls t).failures ≡ [] → IsWellScopedReading c ls (reading.read c ls t)
    read_stands ls ss (form.atom p a) k h = atom_stands ls ss p a k h
    read_stands ls ss (form.list p form.no_trees) k h = never ls (refusal 12 p) [] _ h
    read_stands ls ss (form.list p (form.tree head ts)) k h =
        by_word (is_word (codes "let") head) (is_word (codes "_") head) refl refl (read_let_stands ls ss p (reading.head_primes head) ts k) (underscore_stands ls p (place_in head) (is_primed head) ts)
        (λ x y. application_stands ls p (reading.head_primes head) (reading.head_of c.scope p head) (reading.read_all c ls ts) (head_stands p head x y) (read_all_stands ls ss ts k)) h
      where
        by_word : (a b : Bool) {r s t : Reading} → is_word (codes "let") head ≡ a → is_word (codes "_") head ≡ b → (r.failures ≡ [] → IsWellScopedReading c ls r) → (s.failures ≡ [] → IsWellScopedReading c ls s)
            → (is_word (codes "let") head ≡ false → is_word (codes "_") head ≡ false → t.failures ≡ [] → IsWellScopedReading c ls t) → (cond a r (cond b s t)).failures ≡ [] → IsWellScopedReading c ls (cond a r (cond b s t))
        by_word true b x y f g h e = f e
        by_word false true x y f g h e = g e
        by_word false false x y f g h e = h x y e

    read_all_stands : (ls : List Local) (ss : List Sort) (ts : form.Trees) → HaveKnownSorts ls ss → (reading.read_all c ls ts).failures ≡ [] → AreWellScopedReadings ls (reading.read_all c ls ts)
    read_all_stands ls ss form.no_trees k h = record { sorts = []; known = refl; stand = tt }
    read_all_stands ls ss (form.tree t ts) k h =
        let e = none_in (reading.read c ls t).failures (reading.read_all c ls ts).failures h in
        both_stand ls (reading.read c ls t) (reading.read_all c ls ts) (read_stands ls ss t k e.0) (read_all_stands ls ss ts k e.1)

    read_let_stands : (ls : List Local) (ss : List Sort) (p : Place) (primes : List Refusal) (ts : form.Trees) → HaveKnownSorts ls ss → (reading.read_let c ls p primes ts).failures ≡ []
        → IsWellScopedReading c ls (reading.read_let c ls p primes ts)
    read_let_stands ls ss p primes form.no_trees k h = never ls (refusal 12 p) [] _ h
    read_let_stands ls ss p primes (form.tree (form.atom q a) us) k h = never ls (refusal 12 p) [] _ h
    read_let_stands ls ss p primes (form.tree (form.list q bs) form.no_trees) k h = never ls (refusal 12 p) [] _ h
    read_let_stands ls ss p primes (form.tree (form.list q bs) (form.tree body form.no_trees)) k h =
        let_stands ls ss (primes ++ reading.bindings_tests q bs) (form_count bs) (reading.read_bindings c ls q bs) (reading.read c (ls ++ (reading.read_bindings c ls q bs).locals) body) k
        (some_forms q primes bs) (read_bindings_stands ls ss q bs k) (λ us k e. read_stands (ls ++ (reading.read_bindings c ls q bs).locals) us body k e) h
    read_let_stands ls ss p primes (form.tree (form.list q bs) (form.tree body (form.tree u us))) k h = never ls (refusal 12 p) [] _ h

    read_bindings_stands : (ls : List Local) (ss : List Sort) (q : Place) (bs : form.Trees) → HaveKnownSorts ls ss → (reading.read_bindings c ls q bs).shape ≡ []
        → (reading.read_bindings c ls q bs).failures ≡ [] → AreBoundTo ls (form_count bs) (reading.read_bindings c ls q bs)
    read_bindings_stands ls ss q form.no_trees k h f = record { sorts = []; known = tt; stand = tt; count = refl }
    read_bindings_stands ls ss q (form.tree b bs) k h f =
        let e = none_in (reading.read_binding c ls q b).shape (reading.read_bindings c ls q bs).shape h in
        let g = none_in (reading.read_binding c ls q b).failures (reading.read_bindings c ls q bs).failures f in
        bindings_both ls (form_count bs) (reading.read_binding c ls q b) (reading.read_bindings c ls q bs) (read_binding_stands ls ss q b k e.0 g.0) (read_bindings_stands ls ss q bs k e.1 g.1)

    read_binding_stands : (ls : List Local) (ss : List Sort) (q : Place) (b : form.Tree) → HaveKnownSorts ls ss → (reading.read_binding c ls q b).shape ≡ []
        → (reading.read_binding c ls q b).failures ≡ [] → AreBoundTo ls 1 (reading.read_binding c ls q b)
    read_binding_stands ls ss q (form.atom p a) k h f = absurd (some_fails (refusal 12 q) [] h)
    read_binding_stands ls ss q (form.list p form.no_trees) k h f = absurd (some_fails (refusal 12 p) [] h)
    read_binding_stands ls ss q (form.list p (form.tree x form.no_trees)) k h f = absurd (some_fails (refusal 12 p) [] h)
    read_binding_stands ls ss q (form.list p (form.tree x (form.tree t form.no_trees))) k h f =
        binding_stands ls p x (symbol_of x) (reading.read c ls t) (λ e. read_stands ls ss t k e) h f
    read_binding_stands ls ss q (form.list p (form.tree x (form.tree t (form.tree u us)))) k h f = absurd (some_fails (refusal 12 p) [] h)
