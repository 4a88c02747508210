-- The measures of a script.
use Rattle.std.proofs.Common.{◌≡◌, ℕ, ◌+◌, ◌<◌, max, ◌||◌, nat_lt, Bool, true, false, List, [], ◌∷◌, map, length, refl, sym, ap, ◌∙◌, subst, arith}
use Rattle.std.specs.Prelude.{min}
use Rattle.std.specs.List.{AllByRecursion}
use Rattle.std.proofs.lemmas.Bool.Decides.{nat_tests}
use Rattle.std.proofs.lemmas.List.{length-map}
use Rattle.std.proofs.Math.Bool.{Bool-set}
use Rattle.std.proofs.Math.Logic.{∥∥₁_elim}
use Rattle.moxi_terms.specs.Tree.{PlainFunction, Tree}
use Rattle.moxi_terms.specs.View.{plain_function}
use Rattle.moxi_terms.specs.declared.term.Function.{Function}
use Rattle.moxi_scripts.specs.declared.script.Subsystem.{Subsystem}
use Rattle.moxi_scripts.specs.Script.{PlainScript, PlainSystem, system_at}
use Rattle.moxi_flat.specs.Terms.{call_heights, call_sizes, measured_upto}
use Rattle.moxi_flat.specs.Systems.{check_height, check_size, instance_height, instance_size, script_height, script_nesting, script_size}
use Rattle.moxi_scripts.specs.Valid.{IsValid}
use Rattle.moxi_flat.specs.declared.limits.TheConstants.{LARGEST, HIGHEST, DEEPEST}
use Rattle.moxi_flat.specs.Instantiating.{HasActuals, NestingFalls, SystemsAreOverVariables, SystemsBoundNesting}
use Rattle.moxi_flat.specs.Limits.{is_too_large}
use Rattle.moxi_instantiate.specs.declared.counts.TheConstants.{MOST}
use Rattle.moxi_instantiate.specs.Amounts.{AreRanked}
use Rattle.moxi_instantiate.specs.Counting.{AreCounted, capped}
use Rattle.moxi_instantiate.proofs.Capping.{cap_max, cap_sum}

each_there : (ss : List PlainSystem) (n : ℕ) (bs : List Subsystem) → AllByRecursion (HasActuals ss n) bs → AllByRecursion (λ (b : Subsystem). b.system < length ss) bs
each_there ss n [] h = tt
each_there ss n (b ∷ bs) h = (h.0.there, each_there ss n bs h.1)

pub ranked_of : NestingFalls → SystemsBoundNesting → SystemsAreOverVariables → (s : PlainScript) → IsValid s → AreRanked s.systems
ranked_of falls bound over s w = record {
  there = λ i h. each_there s.systems _ (system_at s.systems i).subsystems (over s w i h).subsystems;
  falls = falls s w;
  enough = bound s w;
}

pub lt_held : (a b : ℕ) → ∥ a < b ∥₁ → a < b
lt_held a b h = let e : nat_lt a b ≡ true = ∥∥₁_elim h (Bool-set (nat_lt a b) true) (λ l. grind (arith, nat_tests)) in grind (arith, nat_tests)

-- the functions of the code are those of the scope
pub counted_in : (measure : (ℕ → ℕ) → Tree → ℕ) (fs : List Function) (gs : List PlainFunction) (counts : List ℕ) → map plain_function fs ≡ gs
    → AreCounted (measured_upto measure (map plain_function fs) (length fs)) counts → AreCounted (measured_upto measure gs (length gs)) counts
counted_in measure fs gs counts e h =
    subst (λ gs. AreCounted (measured_upto measure gs (length gs)) counts) e (subst (λ n. AreCounted (measured_upto measure (map plain_function fs) n) counts) (sym (length-map fs plain_function)) h)

pub script_sum : (p : PlainScript) (i o v n a z x : ℕ) → i ≡ capped (length p.check.inputs) → o ≡ capped (length p.check.outputs) → v ≡ capped (i + o)
    → n ≡ capped (instance_size (call_sizes p.scope) p.systems (length p.systems) p.check.system) → a ≡ capped (check_size (call_sizes p.scope) p.check) → z ≡ capped (n + a) → x ≡ capped (v + z)
    → x ≡ capped (script_size p)
script_sum p i o v n a z x hi ho hv hn ha hz hx =
    let instances = instance_size (call_sizes p.scope) p.systems (length p.systems) p.check.system in
    let asked = check_size (call_sizes p.scope) p.check in
    hx ∙ cap_sum (length p.check.inputs + length p.check.outputs) (instances + asked) v z (hv ∙ cap_sum (length p.check.inputs) (length p.check.outputs) i o hi ho) (hz ∙ cap_sum instances asked n a hn ha)

pub script_max : (p : PlainScript) (n a x : ℕ) → n ≡ capped (instance_height (call_heights p.scope) p.systems (length p.systems) p.check.system) → a ≡ capped (check_height (call_heights p.scope) p.check)
    → x ≡ max n a → x ≡ capped (script_height p)
script_max p n a x hn ha hx = hx ∙ cap_max (instance_height (call_heights p.scope) p.systems (length p.systems) p.check.system) (check_height (call_heights p.scope) p.check) n a hn ha

within_cap : (limit most n : ℕ) → limit < most → limit < min n most → limit < n
within_cap limit most n l h = omega (arith, l, h)

over_cap : (limit most n : ℕ) → limit < most → limit < n → limit < min n most
over_cap limit most n l h = omega (arith, l, h)

-- a limit below the cap is passed by a count exactly where it is passed by what is counted
same_test : (limit most n : ℕ) → limit < most → nat_lt limit (min n most) ≡ nat_lt limit n
same_test limit most n l = by (nat_lt limit (min n most)) (nat_lt limit n) refl refl
  where
    by : (a b : Bool) → nat_lt limit (min n most) ≡ a → nat_lt limit n ≡ b → nat_lt limit (min n most) ≡ nat_lt limit n
    by true true e f = e ∙ sym f
    by false false e f = e ∙ sym f
    by true false e f = let h : limit < min n most = grind (arith, nat_tests) in let g = within_cap limit most n l h in absurd (let t : nat_lt limit n ≡ true = grind (arith, nat_tests) in cc)
    by false true e f = let h : limit < n = grind (arith, nat_tests) in let g = over_cap limit most n l h in absurd (let t : nat_lt limit (min n most) ≡ true = grind (arith, nat_tests) in cc)

pub tests_are : (p : PlainScript) (size height nesting : ℕ) → size ≡ capped (script_size p) → height ≡ capped (script_height p) → nesting ≡ capped (script_nesting p)
    → (nat_lt LARGEST size || (nat_lt HIGHEST height || nat_lt DEEPEST nesting)) ≡ is_too_large p
tests_are p size height nesting e f g =
    ap (λ n. nat_lt LARGEST n || (nat_lt HIGHEST height || nat_lt DEEPEST nesting)) e ∙ ap (λ b. b || (nat_lt HIGHEST height || nat_lt DEEPEST nesting)) (same_test LARGEST MOST (script_size p) (omega arith))
    ∙ ap (λ n. nat_lt LARGEST (script_size p) || (nat_lt HIGHEST n || nat_lt DEEPEST nesting)) f
    ∙ ap (λ b. nat_lt LARGEST (script_size p) || (b || nat_lt DEEPEST nesting)) (same_test HIGHEST MOST (script_height p) (omega arith))
    ∙ ap (λ n. nat_lt LARGEST (script_size p) || (nat_lt HIGHEST (script_height p) || nat_lt DEEPEST n)) g
    ∙ ap (λ b. nat_lt LARGEST (script_size p) || (nat_lt HIGHEST (script_height p) || b)) (same_test DEEPEST MOST (script_nesting p) (omega arith))
