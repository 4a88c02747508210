-- The flat system of a model's script: its codes, its names, its size, and its lines.
use Rattle.std.proofs.Common.{◌≡◌, ℕ, ◌+◌, ◌≤◌, ◌^◌, Bool, false, ◌||◌, if◌then◌else◌, List, [], ◌∷◌, ◌++◌, length, Some, None, refl, arith}
use Rattle.std.specs.Prelude.{codes, nat_le, nat_lt, slice_get}
use Rattle.std.specs.List.{AllByRecursion}
use Rattle.std.proofs.lemmas.Bool.{leb-true, le-ltb}
use Rattle.std.proofs.lemmas.List.{length-map}
use Rattle.std.proofs.Math.Nat.{pow-le-pow_right}
use Rattle.word_core.specs.declared.word.TheConstants.{WIDEST}
use Rattle.text_core.specs.declared.place.Kind.TheVariants.{M}
use Rattle.text_core.specs.declared.place.Refusal.{Refusal}
use Rattle.smv_text.specs.Tree.{PlainSource}
use Rattle.smv_meaning.specs.Instances.{instances_of, weight_of}
use Rattle.smv_meaning.specs.Checks.{check, passes}
use Rattle.smv_meaning.specs.Phases.{module_checks, declaration_checks, size_checks, symbol_checks, later_checks, most_tokens, invariants_in, IsAccepted}
use Rattle.smv_meaning.specs.laws.Booleans.{both_true}
use Rattle.smv_laws.proofs.Typable.{split}
use Rattle.smv_flat.specs.FlatTree.{FlatTree}
use Rattle.smv_script.specs.Script.{queries_from, symbol_sort}
use Rattle.moxi_flat.specs.Systems.{script_size, script_height, script_nesting}
use Rattle.moxi_scripts.specs.Script.{PlainScript}
use Rattle.moxi_flat.specs.Limits.{flat_refusal, has_name_twice}
use Rattle.moxi_flat.specs.declared.limits.TheConstants.{LARGEST, HIGHEST, DEEPEST}
use Rattle.moxi_lines.specs.TermLaws.{HaveCodes}
use Rattle.moxi_layout.specs.Counts.{NamesOneFormula}

-- ---- weights

-- an accepted model isn't too heavy
pub weight_fits : (source : PlainSource) (needed : ℕ) → IsAccepted source needed → weight_of source ≤ most_tokens
weight_fits source needed h =
    let t = instances_of source in
    let last = check 27 source.end (nat_lt needed (length (invariants_in t))) ∷ [] in
    let before = module_checks source ++ declaration_checks source.modules t 0 1 t in
    let a = (split (before ++ size_checks source ++ later_checks t) last h).0 in
    let b = (split (before ++ size_checks source) (later_checks t) a).0 in
    let c = (split before (size_checks source) b).1 in
    leb-true (weight_of source) most_tokens (both_true (nat_le (weight_of source) most_tokens) (passes (symbol_checks t (slice_get t 0))) c).0

-- the one enumeration has a word for each symbol
pub symbols_have_codes : (symbols : List (List ℕ)) → length symbols ≤ most_tokens → HaveCodes (symbol_sort symbols)
symbols_have_codes [] h = tt
symbols_have_codes (s ∷ ss) h =
    let l = length-map (s ∷ ss) (λ x. codes "c." ++ x) in
    let p : 2 ^ 18 ≤ 2 ^ WIDEST = pow-le-pow_right {n = 2} (omega arith) {i = 18} {j = WIDEST} (omega arith) in
    let q : 2 ^ 18 ≡ 262144 = refl in
    (omega (arith, h, l, p, q), tt)

-- ---- limits

not_refused : (x y : Refusal) (large high deep twice : Bool) → large ≡ false → high ≡ false → deep ≡ false → twice ≡ false
    → (if large || (high || deep) then Some x else (if twice then Some y else None)) ≡ None
not_refused x y large high deep twice a b c d = cc

pub has_flat_system : (s : PlainScript) → script_size s ≤ LARGEST → script_height s ≤ HIGHEST → script_nesting s ≤ DEEPEST → has_name_twice s ≡ false → flat_refusal s ≡ None
has_flat_system s a b c d =
    not_refused (record { kind = M 15; place = s.check.place }) (record { kind = M 9; place = s.check.place }) (nat_lt LARGEST (script_size s)) (nat_lt HIGHEST (script_height s)) (nat_lt DEEPEST (script_nesting s)) (has_name_twice s)
    (not_above LARGEST (script_size s) a) (not_above HIGHEST (script_height s) b) (not_above DEEPEST (script_nesting s) c) d
  where
    not_above : (n m : ℕ) → m ≤ n → nat_lt n m ≡ false
    not_above n m h = le-ltb n m h

-- ---- queries

pub queries_name_one : (j : ℕ) (es : List FlatTree) → AllByRecursion NamesOneFormula (queries_from j es)
queries_name_one j [] = tt
queries_name_one j (e ∷ es) = (record { assumptions = refl; currents = refl; reachables = refl }, queries_name_one (j + 1) es)
