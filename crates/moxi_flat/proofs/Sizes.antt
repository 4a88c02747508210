-- The size and the height of a flat system are those of the system that the check instantiates.
use Rattle.std.proofs.Common.{◌≡◌, ℕ, zero, suc, ◌+◌, max, List, [], ◌∷◌, ◌++◌, length, refl, sym, ap, ◌∙◌, arith, length-append}
use Rattle.std.specs.Prelude.{sum_by}
use Rattle.std.specs.List.{AllByRecursion}
use Rattle.std.proofs.lemmas.List.Sums.{sum_by-append, sum_by-cons}
use Rattle.moxi_scripts.specs.declared.script.Subsystem.{Subsystem}
use Rattle.moxi_scripts.specs.Script.{PlainSystem, system_at}
use Rattle.moxi_scripts.specs.Valid.{check_variables}
use Rattle.moxi_flat.specs.Terms.{call_heights, call_sizes, term_height, term_size}
use Rattle.moxi_flat.specs.Systems.{check_height, check_size, greatest_by, instance_height, instance_size}
use Rattle.moxi_flat.specs.FlatSizes.{FlatSystemsHaveSizes, part_height, part_size}
use Rattle.moxi_flat.specs.FlatSystem.{PlainPart, count_upto, flat_of, locals_upto, part_of, parts_each, parts_upto, place_inside}
use Rattle.moxi_flat.proofs.Alike.{same_height, same_size}
use Rattle.moxi_flat.proofs.Nesting.{Nests}
use Rattle.moxi_flat.proofs.Scripts.{nests_checked}
use Rattle.moxi_flat.proofs.Small.{locals_counted, long_as}

-- SIZES

sums_join : (locals count more parts rest size sizes : ℕ) → locals + count + parts ≡ size → more + rest ≡ sizes → locals + count + more + (parts + rest) ≡ size + sizes
sums_join locals count more parts rest size sizes a b = omega (arith, a, b)

own_joins : (init trans inv locals more own parts sizes : ℕ) → own ≡ 1 + (init + (trans + inv)) → more + parts ≡ sizes → locals + more + (own + parts) ≡ 1 + (init + (trans + (inv + (locals + sizes))))
own_joins init trans inv locals more own parts sizes a b = omega (arith, a, b)

module _ (calls : ℕ → ℕ) (ss : List PlainSystem) where
  part_is_sized : (place : ℕ → ℕ) (x : PlainSystem) → part_size calls (part_of place x) ≡ 1 + (term_size calls x.init + (term_size calls x.trans + term_size calls x.inv))
  part_is_sized place x =
      ap (λ n. 1 + (n + (term_size calls (part_of place x).trans + term_size calls (part_of place x).inv))) (same_size calls place x.init)
      ∙ ap (λ n. 1 + (term_size calls x.init + (n + term_size calls (part_of place x).inv))) (same_size calls place x.trans)
      ∙ ap (λ n. 1 + (term_size calls x.init + (term_size calls x.trans + n))) (same_size calls place x.inv)

  abbrev Sized : ℕ → Type 0
  Sized depth = (i : ℕ) (place : ℕ → ℕ) (fresh : ℕ) → Nests depth ss i
      → length (system_at ss i).locals + count_upto ss depth i + sum_by (part_size calls) (parts_upto ss depth place fresh i) ≡ instance_size calls ss depth i

  abbrev counts : ℕ → Subsystem → ℕ
  counts depth b = length (system_at ss b.system).locals + count_upto ss depth b.system

  each_sized : (depth : ℕ) → Sized depth → (bs : List Subsystem) (place : ℕ → ℕ) (fresh : ℕ) → AllByRecursion (λ (b : Subsystem). Nests depth ss b.system) bs
      → sum_by (counts depth) bs + sum_by (part_size calls) (parts_each ss (count_upto ss depth) (parts_upto ss depth) place fresh bs) ≡ sum_by (λ (b : Subsystem). instance_size calls ss depth b.system) bs
  each_sized depth f [] place fresh h = omega arith
  each_sized depth f (b ∷ bs) place fresh h =
      let locals = length (system_at ss b.system).locals in
      let count = count_upto ss depth b.system in
      let inner = place_inside place b.actuals fresh in
      let own_parts = parts_upto ss depth inner (fresh + locals) b.system in
      let rest = parts_each ss (count_upto ss depth) (parts_upto ss depth) place (fresh + locals + count) bs in
      let sizes = λ (b : Subsystem). instance_size calls ss depth b.system in
      ap (λ n. n + sum_by (part_size calls) (own_parts ++ rest)) (sum_by-cons (counts depth) b bs)
      ∙ ap (λ n. locals + count + sum_by (counts depth) bs + n) (sum_by-append (part_size calls) own_parts rest)
      ∙ sums_join locals count (sum_by (counts depth) bs) (sum_by (part_size calls) own_parts) (sum_by (part_size calls) rest) (instance_size calls ss depth b.system) (sum_by sizes bs)
      (f b.system inner (fresh + locals) h.0) (each_sized depth f bs place (fresh + locals + count) h.1)
      ∙ sym (sum_by-cons sizes b bs)

  sized : (depth : ℕ) → Sized depth
  sized zero i place fresh h = absurd h
  sized (suc depth) i place fresh h =
      let x = system_at ss i in
      let rest = parts_each ss (count_upto ss depth) (parts_upto ss depth) place fresh x.subsystems in
      ap (λ n. length x.locals + sum_by (counts depth) x.subsystems + n) (sum_by-cons (part_size calls) (part_of place x) rest)
      ∙ own_joins (term_size calls x.init) (term_size calls x.trans) (term_size calls x.inv) (length x.locals) (sum_by (counts depth) x.subsystems) (part_size calls (part_of place x))
      (sum_by (part_size calls) rest) (sum_by (λ (b : Subsystem). instance_size calls ss depth b.system) x.subsystems) (part_is_sized place x)
      (each_sized depth (sized depth) x.subsystems place fresh h.1)

  -- HEIGHTS

  greatest_append : (f : PlainPart → ℕ) (ps qs : List PlainPart) → greatest_by f (ps ++ qs) ≡ max (greatest_by f ps) (greatest_by f qs)
  greatest_append f [] qs = let e : greatest_by f qs ≡ max 0 (greatest_by f qs) = grind arith in e
  greatest_append f (p ∷ ps) qs = ap (λ n. max (f p) n) (greatest_append f ps qs) ∙ sym (max_three (f p) (greatest_by f ps) (greatest_by f qs))
    where
      max_three : (a b c : ℕ) → max (max a b) c ≡ max a (max b c)
      max_three a b c = grind arith

  max_four : (a b c d : ℕ) → max (max a (max b c)) d ≡ max a (max b (max c d))
  max_four a b c d = grind arith

  part_is_high : (place : ℕ → ℕ) (x : PlainSystem) → part_height calls (part_of place x) ≡ max (term_height calls x.init) (max (term_height calls x.trans) (term_height calls x.inv))
  part_is_high place x =
      ap (λ n. max n (max (term_height calls (part_of place x).trans) (term_height calls (part_of place x).inv))) (same_height calls place x.init)
      ∙ ap (λ n. max (term_height calls x.init) (max n (term_height calls (part_of place x).inv))) (same_height calls place x.trans)
      ∙ ap (λ n. max (term_height calls x.init) (max (term_height calls x.trans) n)) (same_height calls place x.inv)

  abbrev High : ℕ → Type 0
  High depth = (i : ℕ) (place : ℕ → ℕ) (fresh : ℕ) → greatest_by (part_height calls) (parts_upto ss depth place fresh i) ≡ instance_height calls ss depth i

  each_high : (depth : ℕ) → High depth → (bs : List Subsystem) (place : ℕ → ℕ) (fresh : ℕ)
      → greatest_by (part_height calls) (parts_each ss (count_upto ss depth) (parts_upto ss depth) place fresh bs) ≡ greatest_by (λ (b : Subsystem). instance_height calls ss depth b.system) bs
  each_high depth f [] place fresh = refl
  each_high depth f (b ∷ bs) place fresh =
      let next = fresh + length (system_at ss b.system).locals in
      let inner = place_inside place b.actuals fresh in
      let rest = parts_each ss (count_upto ss depth) (parts_upto ss depth) place (next + count_upto ss depth b.system) bs in
      greatest_append (part_height calls) (parts_upto ss depth inner next b.system) rest
      ∙ ap (λ n. max n (greatest_by (part_height calls) rest)) (f b.system inner next)
      ∙ ap (λ n. max (instance_height calls ss depth b.system) n) (each_high depth f bs place (next + count_upto ss depth b.system))

  high : (depth : ℕ) → High depth
  high zero i place fresh = refl
  high (suc depth) i place fresh =
      let x = system_at ss i in
      let rest = parts_each ss (count_upto ss depth) (parts_upto ss depth) place fresh x.subsystems in
      ap (λ n. max n (greatest_by (part_height calls) rest)) (part_is_high place x)
      ∙ ap (λ n. max (max (term_height calls x.init) (max (term_height calls x.trans) (term_height calls x.inv))) n) (each_high depth (high depth) x.subsystems place fresh)
      ∙ max_four (term_height calls x.init) (term_height calls x.trans) (term_height calls x.inv) (greatest_by (λ (b : Subsystem). instance_height calls ss depth b.system) x.subsystems)

-- SCRIPTS

sum_all : (inputs outputs locals own all count parts size check variables : ℕ) → variables ≡ all + count → all ≡ inputs + (outputs + locals) → locals ≡ own → own + count + parts ≡ size
    → variables + (parts + check) ≡ inputs + outputs + (size + check)
sum_all inputs outputs locals own all count parts size check variables d e f h = omega (arith, d, e, f, h)

pub flat_systems_have_sizes_law : FlatSystemsHaveSizes
flat_systems_have_sizes_law s w =
    let c = s.check in
    let n = length s.systems in
    let x = system_at s.systems c.system in
    let vs = check_variables c in
    record {
      size =
          sum_all (length c.inputs) (length c.outputs) (length c.locals) (length x.locals) (length vs) (count_upto s.systems n c.system) (sum_by (part_size (call_sizes s.scope)) (flat_of s).parts)
          (instance_size (call_sizes s.scope) s.systems n c.system) (check_size (call_sizes s.scope) c) (length (flat_of s).variables)
          (length-append vs (locals_upto s.systems n [] c.system) ∙ ap (λ k. length vs + k) (locals_counted s.systems n [] c.system))
          (length-append c.inputs (c.outputs ++ c.locals) ∙ ap (λ k. length c.inputs + k) (length-append c.outputs c.locals)) (long_as c.locals x.locals w.check.fits.locals)
          (sized (call_sizes s.scope) s.systems n c.system (λ v. v) (length vs) (nests_checked s w));
      height = ap (λ k. max k (check_height (call_heights s.scope) c)) (high (call_heights s.scope) s.systems n c.system (λ v. v) (length vs));
    }
