-- Symbols are gathered once each.
use Rattle.std.proofs.Common.{◌≡◌, ◌≢◌, ℕ, zero, suc, ◌+◌, Bool, true, false, not, cond, if◌then◌else◌, nat_lt, List, [], ◌∷◌, ◌++◌, length, Some, None, refl, sym, ap, ◌∙◌, arith}
use Rattle.std.specs.Prelude.{slice_get}
use Rattle.std.specs.List.{AllByRecursion, flat_map, position_or_len}
use Rattle.std.specs.Str.{bytes_eq}
use Rattle.std.proofs.lemmas.Option.{slice_get_within}
use Rattle.std.proofs.lemmas.Bool.{lt-ltb}
use Rattle.std.proofs.lemmas.Slice.Eq.{bytes_eq-Decides}
use Rattle.name_maps.specs.Names.{place_of}
use Rattle.smv_meaning.specs.Instances.{Instance, is_one_of}
use Rattle.smv_items.specs.FlatItems.{element_symbols, gathered, symbols_of}
use Rattle.smv_accepted.specs.NameLaws.{SymbolsDiffer, SymbolsAreDistinct}
use Rattle.smv_items.specs.laws.Differing.{differ_joined}
use Rattle.smv_items.specs.laws.Declarations.{one_of_lacks}
use Rattle.name_maps.proofs.FreshNames.{AllDiffer, Lacks, all_fresh, all_joined, tells_apart}

with_last : (seen : List (List ℕ)) (x : List ℕ) → Lacks seen x → AllByRecursion (λ y. Lacks (x ∷ []) y) seen
with_last [] x h = tt
with_last (y ∷ ys) x h = (((λ e. h.0 (sym e)), tt), with_last ys x h.1)

pub gathered_differ : (seen xs : List (List ℕ)) → AllDiffer seen → AllDiffer (gathered seen xs)
gathered_differ seen [] h = h
gathered_differ seen (x ∷ xs) h = gathered_differ (if is_one_of seen x then seen else seen ++ x ∷ []) xs (by (is_one_of seen x) refl)
  where
    by : (b : Bool) → is_one_of seen x ≡ b → AllDiffer (if b then seen else seen ++ x ∷ [])
    by true e = h
    by false e = differ_joined seen (x ∷ []) h (tt, tt) (with_last seen x (one_of_lacks seen x e))

-- what holds of the names that are gathered holds of those that are kept
pub gathered_all : (P : List ℕ → Type 0) (seen xs : List (List ℕ)) → AllByRecursion P seen → AllByRecursion P xs → AllByRecursion P (gathered seen xs)
gathered_all P seen [] h k = h
gathered_all P seen (x ∷ xs) h k = gathered_all P (if is_one_of seen x then seen else seen ++ x ∷ []) xs (by (is_one_of seen x)) k.1
  where
    by : (b : Bool) → AllByRecursion P (if b then seen else seen ++ x ∷ [])
    by true = h
    by false = all_joined P seen (x ∷ []) h (k.0, tt)

symbols_apart : (t : List Instance) → AllDiffer (symbols_of t)
symbols_apart t = gathered_differ [] (flat_map (λ at. flat_map element_symbols at.module.elements) t) tt

pub symbols_differ_law : SymbolsDiffer
symbols_differ_law t = all_fresh (symbols_of t) (symbols_apart t)

-- ---- each at one place

lacks_there : (xs : List (List ℕ)) (x : List ℕ) (i : ℕ) (s : List ℕ) → Lacks xs x → slice_get xs i ≡ Some s → s ≢ x
lacks_there [] x i s h e = cc
lacks_there (y ∷ ys) x zero s h e = let same : y ≡ s = cc in λ f. h.0 (same ∙ f)
lacks_there (y ∷ ys) x (suc i) s h e = lacks_there ys x i s h.1 e

first_is : (xs : List (List ℕ)) (i : ℕ) (s : List ℕ) → AllDiffer xs → slice_get xs i ≡ Some s → position_or_len (bytes_eq s) xs ≡ i
first_is [] i s h e = cc
first_is (x ∷ xs) zero s h e =
    let same : s ≡ x = cc in
    ap (λ b. cond (not b) (1 + position_or_len (bytes_eq s) xs) 0) ((bytes_eq-Decides s x).1 same)
first_is (x ∷ xs) (suc i) s h e =
    ap (λ b. cond (not b) (1 + position_or_len (bytes_eq s) xs) 0) (tells_apart s x (lacks_there xs x i s h.0 e))
    ∙ (let r = first_is xs i s h.1 e in omega (arith, r))

pub occurs_once : (xs : List (List ℕ)) (i : ℕ) (s : List ℕ) → AllDiffer xs → slice_get xs i ≡ Some s → place_of xs s ≡ Some i
occurs_once xs i s h e =
    let r = first_is xs i s h e in
    ap (λ n. cond (nat_lt n (length xs)) (Some n) None) r ∙ ap (λ b. cond b (Some i) None) (lt-ltb i (length xs) (slice_get_within xs i s e))

pub symbols_are_distinct_law : SymbolsAreDistinct
symbols_are_distinct_law t i s h = occurs_once (symbols_of t) i s (symbols_apart t) h
