-- The constants of a script's one enumeration: they differ, and each means its symbol.
use Rattle.std.proofs.Common.{◌≡◌, ℕ, zero, suc, ◌+◌, ◌<◌, true, false, if◌then◌else◌, List, [], ◌∷◌, ◌++◌, map, drop, length, Option, Some, option_map, refl, sym, ap, ◌∙◌, arith}
use Rattle.std.specs.Prelude.{slice_get, codes, option_and_then}
use Rattle.std.specs.List.{AllByRecursion}
use Rattle.std.specs.Str.{bytes_eq}
use Rattle.std.proofs.lemmas.List.{length-map}
use Rattle.smv_meaning.specs.Instances.{Instance}
use Rattle.smv_items.specs.FlatItems.{symbols_of}
use Rattle.smv_flat_laws.proofs.FlatPlaces.{position_cons}
use Rattle.name_maps.specs.Names.{place_of}
use Rattle.moxi_terms.specs.declared.data.Sort.TheVariants as sort
use Rattle.moxi_terms.specs.declared.data.Datum.TheVariants as datum
use Rattle.moxi_terms.specs.declared.data.Primes.{Primes}
use Rattle.moxi_terms.specs.declared.term.Variable.{Variable}
use Rattle.moxi_terms.specs.declared.term.Enumeration.{Enumeration}
use Rattle.moxi_terms.specs.declared.names.Meaning.{Meaning}
use Rattle.moxi_terms.specs.declared.names.Meaning.TheVariants as meaning
use Rattle.moxi_terms.specs.Names.{or_else, constant_numbers, numbered, constant_named, function_names}
use Rattle.moxi_terms.specs.Meanings.{bare_call, call_of}
use Rattle.moxi_terms.specs.Tree.{constant}
use Rattle.moxi_term_reading.specs.declared.locals.Local.{Local}
use Rattle.moxi_term_reading.specs.Reading.{meaning_of}
use Rattle.moxi_term_reading.specs.Answer.{locals_of}
use Rattle.moxi_term_print.specs.Terms.{name_at, constant_name, variable_names}
use Rattle.moxi_term_print.specs.WellScoped.{IsWellScoped}
use Rattle.moxi_term_print.specs.laws.StandingPlaces.{place_front}
use Rattle.smv_items.specs.laws.Differing.{differ_mapped}
use Rattle.smv_accepted.proofs.Symbols.{symbols_are_distinct_law}
use Rattle.smv_script.specs.Script.{symbol_sort}
use Rattle.smv_script_laws.specs.LetNames.{AreLetNames}
use Rattle.smv_script_laws.proofs.Applied.{ctx}
use Rattle.smv_script_laws.proofs.Bounds.{past_lets}
use Rattle.smv_script_laws.proofs.SortedVariables.{IsFree, differ_by, value_or, no_variable, weaker}
use Rattle.name_maps.proofs.FreshNames.{AllDiffer, all_made}
use Rattle.smv_script_laws.proofs.Leaves.{some_inj}

abbrev pub constant_of : List ℕ → List ℕ
constant_of s = codes "c." ++ s

place_mapped : (xs : List (List ℕ)) (s : List ℕ) → place_of (map constant_of xs) (constant_of s) ≡ place_of xs s
place_mapped [] s = refl
place_mapped (x ∷ xs) s =
    position_cons (bytes_eq (constant_of s)) (constant_of x) (map constant_of xs)
    ∙ ap (λ o. if bytes_eq s x then Some 0 else option_map suc o) (place_mapped xs s)
    ∙ sym (position_cons (bytes_eq s) x xs)

numbered_at : (n j : ℕ) (cs : List (List ℕ)) (k : ℕ) → k < length cs → slice_get (numbered n j cs ++ []) k ≡ Some (let p : ℕ × ℕ = (n, j + k) in p)
numbered_at n j [] k l = absurd (omega (arith, l))
numbered_at n j (c ∷ cs) zero l = ap (λ m. Some (let p : ℕ × ℕ = (n, m) in p)) (let e : j ≡ j + 0 = omega arith in e)
numbered_at n j (c ∷ cs) (suc k) l = numbered_at n (suc j) cs k (omega (arith, l)) ∙ ap (λ m. Some (let p : ℕ × ℕ = (n, m) in p)) (let e : suc j + k ≡ j + suc k = omega arith in e)

there : (xs : List (List ℕ)) (i : ℕ) → i < length xs → (x : List ℕ) × (slice_get xs i ≡ Some x)
there [] i l = absurd (omega (arith, l))
there (x ∷ xs) zero l = (x, refl)
there (x ∷ xs) (suc i) l = there xs i (omega (arith, l))

name_is : (xs : List (List ℕ)) (i : ℕ) (x : List ℕ) → slice_get xs i ≡ Some x → name_at (map constant_of xs) i ≡ constant_of x
name_is [] i x h = cc
name_is (y ∷ ys) zero x h = ap constant_of (some_inj y x h)
name_is (y ∷ ys) (suc i) x h = name_is ys i x h

-- ---- the constants differ

pub symbols_apart : (t : List Instance) → AllDiffer (symbols_of t)
symbols_apart t = differ_by (symbols_of t) (λ k l x y a b e.
    let p = symbols_are_distinct_law t k x a in
    let q = symbols_are_distinct_law t l y b in
    same k l (sym p ∙ ap (place_of (symbols_of t)) e ∙ q))
  where
    same : (k l : ℕ) → Some k ≡ Some l → k ≡ l
    same k l h = cc

pub constants_apart : (t : List Instance) → AllDiffer (map constant_of (symbols_of t))
constants_apart t = differ_mapped (λ x. Unit {0}) constant_of (λ x y p q e. ap (drop 2) e) (symbols_of t) (all_made (λ (x : List ℕ). Unit {0}) (λ x. tt) (symbols_of t)) (symbols_apart t)

-- ---- each means its symbol

module _ (es : List Enumeration) (vs : List Variable) (primes : Primes) (free : AllByRecursion IsFree (variable_names vs)) where
  value_is : (name : List ℕ) (i : ℕ) → bytes_eq name (codes "true") ≡ false → bytes_eq name (codes "false") ≡ false → constant_named (ctx es (locals_of vs) primes).scope name ≡ Some (let p : ℕ × ℕ = (0, i) in p)
      → value_or es vs primes free name ≡ Some (meaning.Value (datum.Constant 0 i) (sort.Choice 0))
  value_is name i a b e =
      let other : Option Meaning = option_map (λ (c : ℕ × ℕ). meaning.Value (datum.Constant c.0 c.1) (sort.Choice c.0)) (constant_named (ctx es (locals_of vs) primes).scope name) in
      let calls : Option Meaning = call_of bare_call (ctx es (locals_of vs) primes).scope.functions (place_of (function_names (ctx es (locals_of vs) primes).scope) name) in
      ap (λ p. or_else (if p then Some (meaning.Value (datum.Truth true) sort.Truth) else (if bytes_eq name (codes "false") then Some (meaning.Value (datum.Truth false) sort.Truth) else other)) calls) a
      ∙ ap (λ p. or_else (if p then Some (meaning.Value (datum.Truth false) sort.Truth) else other) calls) b
      ∙ ap (λ (o : Option (ℕ × ℕ)). or_else (option_map (λ (c : ℕ × ℕ). meaning.Value (datum.Constant c.0 c.1) (sort.Choice c.0)) o) calls) e

-- the place of a constant, and its numbers
constant_is : (names : List (List ℕ)) (i : ℕ) (x : List ℕ) → slice_get names i ≡ Some x → place_of names x ≡ Some i → i < length names
    → constant_named (record { enumerations = symbol_sort names; sorts = []; functions = [] }) (constant_of x) ≡ Some (let p : ℕ × ℕ = (0, i) in p)
constant_is [] i x h e l = absurd (omega (arith, l))
constant_is (s ∷ ss) i x h e l =
    let place : place_of (map constant_of (s ∷ ss) ++ []) (constant_of x) ≡ Some i = place_front (map constant_of (s ∷ ss)) [] (constant_of x) i (place_mapped (s ∷ ss) x ∙ e) in
    let long : length (map constant_of (s ∷ ss)) ≡ length (s ∷ ss) = length-map (s ∷ ss) constant_of in
    ap (option_and_then (slice_get (constant_numbers 0 (symbol_sort (s ∷ ss))))) place
    ∙ numbered_at 0 0 (map constant_of (s ∷ ss)) i (omega (arith, l, long)) ∙ ap (λ m. Some (let p : ℕ × ℕ = (0, m) in p)) (let z : 0 + i ≡ i = omega arith in z)

name_there : (names : List (List ℕ)) (i : ℕ) (x : List ℕ) → slice_get names i ≡ Some x → constant_name (record { enumerations = symbol_sort names; sorts = []; functions = [] }) 0 i ≡ constant_of x
name_there [] i x h = cc
name_there (s ∷ ss) i x h = name_is (s ∷ ss) i x h

pub constant_stands : (t : List Instance) (vs : List Variable) (primes : Primes) → AllByRecursion IsFree (variable_names vs) → (bounds : List Local) → AreLetNames bounds → (i : ℕ) → i < length (symbols_of t)
    → IsWellScoped (ctx (symbol_sort (symbols_of t)) (locals_of vs) primes) bounds (constant (datum.Constant 0 i)) (sort.Choice 0)
constant_stands t vs primes free bounds lets i l =
    let es = symbol_sort (symbols_of t) in
    let c = ctx (symbol_sort (symbols_of t)) (locals_of vs) primes in
    let x = there (symbols_of t) i l in (
      refl,
      ap (meaning_of c bounds) (name_there (symbols_of t) i x.0 x.1)
          ∙ past_lets c bounds lets (constant_of x.0) refl refl
          ∙ no_variable es vs primes free (constant_of x.0) (weaker es vs primes free (λ (other : List ℕ). bytes_eq (constant_of x.0) other ≡ false) (λ y f. f.constant_apart x.0) (variable_names vs) free)
          ∙ value_is es vs primes free (constant_of x.0) i refl refl (constant_is (symbols_of t) i x.0 x.1 (symbols_are_distinct_law t i x.0 x.1) l),
    )
