-- The variables and the parts of a flat system are no more than its size.
use Rattle.std.proofs.Common.{◌≡◌, ℕ, zero, suc, ◌+◌, ◌≤◌, List, [], ◌∷◌, ◌++◌, length, sym, ap, ◌∙◌, subst, arith, length-append}
use Rattle.std.specs.Prelude.{sum_by}
use Rattle.std.specs.List.{AllByRecursion}
use Rattle.std.proofs.lemmas.List.{length-map}
use Rattle.std.proofs.lemmas.List.Sums.{sum_by-cons}
use Rattle.moxi_terms.specs.declared.term.Variable.{Variable}
use Rattle.moxi_terms.specs.Tree.{sorts_of}
use Rattle.moxi_scripts.specs.declared.script.Subsystem.{Subsystem}
use Rattle.moxi_scripts.specs.Script.{PlainSystem, system_at}
use Rattle.moxi_scripts.specs.Valid.{check_variables}
use Rattle.moxi_flat.specs.Terms.{call_sizes, term_size}
use Rattle.moxi_flat.specs.Systems.{check_size, instance_size, script_size}
use Rattle.moxi_flat.specs.FlatSystem.{count_upto, flat_of, locals_upto, parts_each, parts_upto, place_inside}
use Rattle.moxi_flat.specs.FlatLaws.{FlatSystemsAreSmall}
use Rattle.moxi_flat.proofs.Nesting.{Nests}
use Rattle.moxi_flat.proofs.Fine.{count_is, sort_of, sorts_are}
use Rattle.moxi_flat.proofs.Scripts.{nests_checked}

-- the locals of all instances inside a system are as many as are counted
pub locals_counted : (ss : List PlainSystem) (n : ℕ) (path : List ℕ) (i : ℕ) → length (locals_upto ss n path i) ≡ count_upto ss n i
locals_counted ss n path i = sym (length-map (locals_upto ss n path i) sort_of) ∙ ap length (sorts_are ss n path i) ∙ sym (count_is ss n i)

sums_grow : (locals count parts more rest size bound : ℕ) → locals + count + parts ≤ size → more + rest ≤ bound → locals + count + more + (parts + rest) ≤ size + bound
sums_grow locals count parts more rest size bound a b = omega (arith, a, b)

own_grows : (init trans inv locals more parts bound : ℕ) → more + parts ≤ bound → locals + more + suc parts ≤ 1 + (init + (trans + (inv + (locals + bound))))
own_grows init trans inv locals more parts bound a = omega (arith, a)

module _ (calls : ℕ → ℕ) (ss : List PlainSystem) where
  abbrev Bounds : ℕ → Type 0
  Bounds depth = (i : ℕ) (place : ℕ → ℕ) (fresh : ℕ) → Nests depth ss i
      → length (system_at ss i).locals + count_upto ss depth i + length (parts_upto ss depth place fresh i) ≤ instance_size calls ss depth i

  each_bounded : (depth : ℕ) → Bounds depth → (bs : List Subsystem) (place : ℕ → ℕ) (fresh : ℕ) → AllByRecursion (λ (b : Subsystem). Nests depth ss b.system) bs
      → sum_by (λ (b : Subsystem). length (system_at ss b.system).locals + count_upto ss depth b.system) bs + length (parts_each ss (count_upto ss depth) (parts_upto ss depth) place fresh bs)
      ≤ sum_by (λ (b : Subsystem). instance_size calls ss depth b.system) bs
  each_bounded depth f [] place fresh h = omega arith
  each_bounded depth f (b ∷ bs) place fresh h =
      let locals = length (system_at ss b.system).locals in
      let count = count_upto ss depth b.system in
      let inner = place_inside place b.actuals fresh in
      let own_parts = parts_upto ss depth inner (fresh + locals) b.system in
      let rest = parts_each ss (count_upto ss depth) (parts_upto ss depth) place (fresh + locals + count) bs in
      let counts = λ (b : Subsystem). length (system_at ss b.system).locals + count_upto ss depth b.system in
      let sizes = λ (b : Subsystem). instance_size calls ss depth b.system in
      subst (λ n. n + length (own_parts ++ rest) ≤ sum_by sizes (b ∷ bs)) (sym (sum_by-cons counts b bs))
      (subst (λ n. locals + count + sum_by counts bs + n ≤ sum_by sizes (b ∷ bs)) (sym (length-append own_parts rest))
      (subst (λ n. locals + count + sum_by counts bs + (length own_parts + length rest) ≤ n) (sym (sum_by-cons sizes b bs))
      (sums_grow locals count (length own_parts) (sum_by counts bs) (length rest) (instance_size calls ss depth b.system) (sum_by sizes bs)
      (f b.system inner (fresh + locals) h.0) (each_bounded depth f bs place (fresh + locals + count) h.1))))

  bounded : (depth : ℕ) → Bounds depth
  bounded zero i place fresh h = absurd h
  bounded (suc depth) i place fresh h =
      let x = system_at ss i in
      own_grows (term_size calls x.init) (term_size calls x.trans) (term_size calls x.inv) (length x.locals)
      (sum_by (λ (b : Subsystem). length (system_at ss b.system).locals + count_upto ss depth b.system) x.subsystems)
      (length (parts_each ss (count_upto ss depth) (parts_upto ss depth) place fresh x.subsystems))
      (sum_by (λ (b : Subsystem). instance_size calls ss depth b.system) x.subsystems) (each_bounded depth (bounded depth) x.subsystems place fresh h.1)

-- the lists of the check are as long as those of the system
pub long_as : (xs ys : List Variable) → sorts_of xs ≡ sorts_of ys → length xs ≡ length ys
long_as xs ys e = sym (length-map xs sort_of) ∙ ap length e ∙ length-map ys sort_of

sum_up : (inputs outputs locals own all count parts size check : ℕ) → all ≡ inputs + (outputs + locals) → locals ≡ own → own + count + parts ≤ size
    → all + count + parts ≤ inputs + outputs + (size + check)
sum_up inputs outputs locals own all count parts size check e f h = omega (arith, e, f, h)

pub flat_systems_are_small_law : FlatSystemsAreSmall
flat_systems_are_small_law s w =
    let c = s.check in
    let n = length s.systems in
    let x = system_at s.systems c.system in
    let more = locals_upto s.systems n [] c.system in
    let parts = (flat_of s).parts in
    let long : length (flat_of s).variables ≡ length (check_variables c) + count_upto s.systems n c.system =
    length-append (check_variables c) more ∙ ap (λ k. length (check_variables c) + k) (locals_counted s.systems n [] c.system) in
    subst (λ k. k + length parts ≤ script_size s) (sym long)
    (sum_up (length c.inputs) (length c.outputs) (length c.locals) (length x.locals) (length (check_variables c)) (count_upto s.systems n c.system) (length parts)
    (instance_size (call_sizes s.scope) s.systems n c.system) (check_size (call_sizes s.scope) c)
    (length-append c.inputs (c.outputs ++ c.locals) ∙ ap (λ k. length c.inputs + k) (length-append c.outputs c.locals)) (long_as c.locals x.locals w.check.fits.locals)
    (bounded (call_sizes s.scope) s.systems n c.system (λ v. v) (length (check_variables c)) (nests_checked s w)))
