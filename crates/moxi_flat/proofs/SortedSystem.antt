-- The terms of a flat system are of truth values over its variables, which have sorts of the scope.
use Rattle.std.proofs.Common.{◌≡◌, ℕ, zero, suc, ◌+◌, ◌<◌, List, [], ◌∷◌, ◌++◌, length, Some, sym, ap, ◌∙◌, subst, inl, inr}
use Rattle.std.specs.Prelude.{slice_get}
use Rattle.std.specs.List.{AllByRecursion}
use Rattle.moxi_terms.specs.declared.data.Primes.{Primes}
use Rattle.moxi_terms.specs.declared.data.Primes.TheVariants.{Allowed, Refused}
use Rattle.moxi_terms.specs.declared.data.Sort.{Sort}
use Rattle.moxi_terms.specs.declared.data.Sort.TheVariants.{Truth}
use Rattle.moxi_terms.specs.declared.term.Variable.{Variable}
use Rattle.moxi_terms.specs.Sorted.{AreSorts, IsUnprimed}
use Rattle.moxi_terms.specs.Sorts.{IsSort}
use Rattle.moxi_terms.specs.Tree.{Tree, sorts_of}
use Rattle.moxi_term_reading.specs.laws.SortedParts.{known_variables}
use Rattle.moxi_scripts.specs.declared.script.Subsystem.{Subsystem}
use Rattle.moxi_scripts.specs.Script.{PlainFormula, PlainScript, PlainSystem, no_system, system_at, variables_in}
use Rattle.moxi_scripts.specs.Valid.{AreFormulas, IsFormula, IsValid, IsValidSystem, check_variables, over}
use Rattle.moxi_scripts.specs.laws.WholeParts.{all_append, all_parts, get_there, index_get}
use Rattle.moxi_scripts.proofs.AskingStands.{stands_sorted}
use Rattle.moxi_flat.specs.Renumbering.{renumbered}
use Rattle.moxi_flat.specs.FlatSystem.{count_upto, flat_of, part_of, parts_each, parts_upto, place_inside}
use Rattle.moxi_flat.specs.FlatSorts.{AreFlatTruths, IsFlatTruth, PartIsSorted}
use Rattle.moxi_flat.specs.FlatLaws.{FlatSystemsAreSorted}
use Rattle.moxi_flat.proofs.Renumbered.{renumbered_same}
use Rattle.moxi_flat.proofs.Values.{ActualsFit, actual_at, actuals_long, get_back, get_cases, get_front, inside_back, inside_front}
use Rattle.moxi_flat.proofs.Nesting.{Nests}
use Rattle.moxi_flat.proofs.Fine.{count_is, hidden_sorts, interface, local_sorts, locals_long, own_sorts, own_split, sorts_each}
use Rattle.moxi_flat.proofs.Shown.{behind_locals, behind_within}
use Rattle.moxi_flat.proofs.Scripts.{are_fine, check_long, check_sorts_are, checked, flat_sorts, hidden_ones, nests_checked, whole_at}
use Rattle.moxi_flat.proofs.Kept.{Keeps, sorted_renumbered, stands_unprimed, unprimed_renumbered}
use Rattle.moxi_terms.proofs.ScopeLaws.{all_of}

module _ (s : PlainScript) (w : IsValid s) where
  abbrev ss : List PlainSystem
  ss = s.systems

  abbrev flat : List Sort
  flat = sorts_of (flat_of s).variables

  at_whole : (i : ℕ) → i < length ss → IsValidSystem s.scope ss (system_at ss i)
  at_whole i h = let x = get_there ss i h in subst (IsValidSystem s.scope ss) (sym (index_get ss i x.0 no_system x.1)) (whole_at s w i x.0 x.1)

  -- ---- formulas

  formula_sorted : (vs : List Variable) (primes : Primes) (place : ℕ → ℕ) (t : Tree) → Keeps (sorts_of vs) flat place → IsFormula s.scope vs primes t → IsFlatTruth (flat_of s) (renumbered place t)
  formula_sorted vs primes place t keeps h =
      sorted_renumbered s.scope.enumerations s.scope.functions (sorts_of vs) flat place keeps [] t Truth
      (stands_sorted (over s.scope vs primes) (sorts_of vs) (known_variables vs) [] [] t Truth tt h)

  formula_unprimed : (vs : List Variable) (place : ℕ → ℕ) (t : Tree) → IsFormula s.scope vs Refused t → IsUnprimed (renumbered place t)
  formula_unprimed vs place t h = unprimed_renumbered place t (stands_unprimed s.scope vs [] t Truth h)

  part_sorted : (i : ℕ) (place : ℕ → ℕ) → i < length ss → Keeps (own_sorts (system_at ss i)) flat place → PartIsSorted (flat_of s) (part_of place (system_at ss i))
  part_sorted i place there keeps =
      let x = system_at ss i in
      let h = at_whole i there in
      record {
        init = formula_sorted (variables_in x) Refused place x.init keeps h.init;
        trans = formula_sorted (variables_in x) Allowed place x.trans keeps h.trans;
        inv = formula_sorted (variables_in x) Refused place x.inv keeps h.inv;
        init_unprimed = formula_unprimed (variables_in x) place x.init h.init;
        inv_unprimed = formula_unprimed (variables_in x) place x.inv h.inv;
      }

  -- ---- parts

  inside_keeps : (x : PlainSystem) (place : ℕ → ℕ) (actuals : List ℕ) (fresh : ℕ) (vars : List Sort) → ActualsFit vars actuals (interface x) → Keeps vars flat place
      → Keeps (local_sorts x) flat (λ v. fresh + v) → Keeps (own_sorts x) flat (place_inside place actuals fresh)
  inside_keeps x place actuals fresh vars fit keeps locals v t g =
      elim (get_cases (interface x) (local_sorts x) v t (subst (λ sorts. slice_get sorts v ≡ Some t) (own_split x) g)) [
        | inl a ↦ let u = actual_at vars actuals (interface x) v t fit a.1 in ap (slice_get flat) (inside_front place actuals fresh v u.0 u.1) ∙ keeps u.0 t u.2
        | inr a ↦ ap (λ v. slice_get flat (place_inside place actuals fresh v)) a.1
            ∙ ap (slice_get flat) (inside_back place actuals fresh (length (interface x)) a.0 (actuals_long vars actuals (interface x) fit)) ∙ locals a.0 t a.2
      ]

  abbrev SortsParts : ℕ → Type 0
  SortsParts depth = (i : ℕ) (place : ℕ → ℕ) (fresh : ℕ) → Nests depth ss i → Keeps (own_sorts (system_at ss i)) flat place → Keeps (hidden_sorts ss depth i) flat (λ v. fresh + v)
      → AllByRecursion (PartIsSorted (flat_of s)) (parts_upto ss depth place fresh i)

  each_sorted : (depth : ℕ) → SortsParts depth → (bs : List Subsystem) (vars : List Sort) (place : ℕ → ℕ) (fresh : ℕ)
      → AllByRecursion (λ (b : Subsystem). Nests depth ss b.system) bs → AllByRecursion (λ (b : Subsystem). ActualsFit vars b.actuals (interface (system_at ss b.system))) bs
      → Keeps vars flat place → Keeps (sorts_each ss (hidden_sorts ss depth) bs) flat (λ v. fresh + v)
      → AllByRecursion (PartIsSorted (flat_of s)) (parts_each ss (count_upto ss depth) (parts_upto ss depth) place fresh bs)
  each_sorted depth sorts [] vars place fresh nests fits keeps more = tt
  each_sorted depth sorts (b ∷ bs) vars place fresh nests fits keeps more =
      let x = system_at ss b.system in
      let own = local_sorts x in
      let n = length x.locals in
      let within = hidden_sorts ss depth b.system in
      let count = count_upto ss depth b.system in
      let rest = sorts_each ss (hidden_sorts ss depth) bs in
      let place_at = place_inside place b.actuals fresh in
      all_append (PartIsSorted (flat_of s)) (parts_upto ss depth place_at (fresh + n) b.system) (parts_each ss (count_upto ss depth) (parts_upto ss depth) place (fresh + n + count) bs)
      (sorts b.system place_at (fresh + n) nests.0 (inside_keeps x place b.actuals fresh vars fits.0 keeps (λ v t g. more v t (get_front own (within ++ rest) v t g)))
      (λ v t g. ap (slice_get flat) (sym (behind_locals fresh (length own) n v (locals_long x))) ∙ more (length own + v) t (get_back own (within ++ rest) v ∙ get_front within rest v t g)))
      (each_sorted depth sorts bs vars place (fresh + n + count) nests.1 fits.1 keeps
      (λ v t g. ap (slice_get flat) (sym (behind_within fresh (length own) n (length within) count v (locals_long x) (count_is ss depth b.system)))
      ∙ more (length own + (length within + v)) t (get_back own (within ++ rest) (length within + v) ∙ get_back within rest v ∙ g)))

  parts_sorted : (depth : ℕ) → SortsParts depth
  parts_sorted zero i place fresh nests keeps more = absurd nests
  parts_sorted (suc depth) i place fresh nests keeps more =
      (part_sorted i place nests.0 keeps, each_sorted depth (parts_sorted depth) (system_at ss i).subsystems (own_sorts (system_at ss i)) place fresh nests.1 (are_fine s w i nests.0).actuals keeps more)

  -- ---- variables

  locals_are_sorts : (i : ℕ) → i < length ss → AreSorts s.scope.enumerations (local_sorts (system_at ss i))
  locals_are_sorts i there =
      let x = system_at ss i in
      (all_parts (IsSort s.scope.enumerations) (interface x) (local_sorts x) (subst (AreSorts s.scope.enumerations) (own_split x) (at_whole i there).variables.sorts)).1

  abbrev HiddenAreSorts : ℕ → Type 0
  HiddenAreSorts depth = (i : ℕ) → Nests depth ss i → AreSorts s.scope.enumerations (hidden_sorts ss depth i)

  nests_there : (depth i : ℕ) → Nests depth ss i → i < length ss
  nests_there zero i h = absurd h
  nests_there (suc depth) i h = h.0

  each_is_sort : (depth : ℕ) → HiddenAreSorts depth → (bs : List Subsystem) → AllByRecursion (λ (b : Subsystem). Nests depth ss b.system) bs
      → AreSorts s.scope.enumerations (sorts_each ss (hidden_sorts ss depth) bs)
  each_is_sort depth f [] h = tt
  each_is_sort depth f (b ∷ bs) h =
      all_append (IsSort s.scope.enumerations) (local_sorts (system_at ss b.system)) (hidden_sorts ss depth b.system ++ sorts_each ss (hidden_sorts ss depth) bs)
      (locals_are_sorts b.system (nests_there depth b.system h.0))
      (all_append (IsSort s.scope.enumerations) (hidden_sorts ss depth b.system) (sorts_each ss (hidden_sorts ss depth) bs) (f b.system h.0) (each_is_sort depth f bs h.1))

  hidden_are_sorts : (depth : ℕ) → HiddenAreSorts depth
  hidden_are_sorts zero i h = tt
  hidden_are_sorts (suc depth) i h = each_is_sort depth (hidden_are_sorts depth) (system_at ss i).subsystems h.1

  pub variables_sorted : AreSorts s.scope.enumerations flat
  variables_sorted =
      subst (AreSorts s.scope.enumerations) (sym (flat_sorts s w))
      (all_append (IsSort s.scope.enumerations) (own_sorts (checked s w)) (hidden_ones s w)
      (subst (AreSorts s.scope.enumerations) (check_sorts_are s w) w.check.variables.sorts) (hidden_are_sorts (length ss) s.check.system (nests_checked s w)))

  -- ---- the check

  own_keep : Keeps (own_sorts (checked s w)) flat (λ v. v)
  own_keep v t g = subst (λ sorts. slice_get sorts v ≡ Some t) (sym (flat_sorts s w)) (get_front (own_sorts (checked s w)) (hidden_ones s w) v t g)

  hidden_keep : Keeps (hidden_ones s w) flat (λ v. length (check_variables s.check) + v)
  hidden_keep v t g =
      ap (λ n. slice_get flat (n + v)) (check_long s w)
      ∙ ap (λ sorts. slice_get sorts (length (own_sorts (checked s w)) + v)) (flat_sorts s w)
      ∙ get_back (own_sorts (checked s w)) (hidden_ones s w) v ∙ g

  pub all_parts_sorted : AllByRecursion (PartIsSorted (flat_of s)) (flat_of s).parts
  all_parts_sorted = parts_sorted (length ss) s.check.system (λ v. v) (length (check_variables s.check)) (nests_checked s w) own_keep hidden_keep

  pub formulas_sorted : (fs : List PlainFormula) → AreFormulas s.scope (check_variables s.check) fs → AreFlatTruths (flat_of s) fs
  formulas_sorted fs h =
      all_of (λ (f : PlainFormula). IsFormula s.scope (check_variables s.check) Refused f.term) (λ (f : PlainFormula). IsFlatTruth (flat_of s) f.term × IsUnprimed f.term) fs
      (λ f g. (
        subst (IsFlatTruth (flat_of s)) (renumbered_same f.term) (formula_sorted (check_variables s.check) Refused (λ v. v) f.term (subst (λ sorts. Keeps sorts flat (λ v. v)) (sym (check_sorts_are s w)) own_keep) g),
        stands_unprimed s.scope (check_variables s.check) [] f.term Truth g,
      )) h

pub flat_systems_are_sorted_law : FlatSystemsAreSorted
flat_systems_are_sorted_law s w = record {
  scope = w.scope.scope;
  variables = variables_sorted s w;
  parts = all_parts_sorted s w;
  assumptions = formulas_sorted s w s.check.assumptions w.check.formulas.assumptions;
  currents = formulas_sorted s w s.check.currents w.check.formulas.currents;
  reachables = formulas_sorted s w s.check.reachables w.check.formulas.reachables;
  queries = w.check.queries.queries;
}
