-- A trace of a valid script's check meets a query exactly where a trace of the flat system does.
use Rattle.std.proofs.Common.{◌≡◌, ℕ, zero, suc, ◌+◌, ◌<◌, ◌≤◌, List, [], ◌∷◌, ◌++◌, length, Some, sym, ap, ◌∙◌, subst, arith}
use Rattle.std.specs.Prelude.{slice_get}
use Rattle.std.specs.List.{AllByRecursion}
use Rattle.std.proofs.lemmas.List.{length-map}
use Rattle.moxi_terms.specs.declared.data.Primes.{Primes}
use Rattle.moxi_terms.specs.declared.data.Primes.TheVariants.{Allowed, Refused}
use Rattle.moxi_terms.specs.declared.data.Sort.{Sort}
use Rattle.moxi_terms.specs.declared.data.Sort.TheVariants.{Truth}
use Rattle.moxi_terms.specs.declared.term.Variable.{Variable}
use Rattle.moxi_terms.specs.Tree.{Tree, sorts_of}
use Rattle.moxi_terms.specs.Value.{Calls}
use Rattle.moxi_term_reading.specs.laws.SortedParts.{known_variables}
use Rattle.moxi_scripts.specs.declared.script.Query.{Query}
use Rattle.moxi_scripts.specs.declared.script.Subsystem.{Subsystem}
use Rattle.moxi_scripts.specs.Script.{PlainFormula, PlainScript, PlainSystem, calls_in, formula_at, no_system, system_at, variables_in}
use Rattle.moxi_scripts.specs.Behaviour.{Behaves, Holds, Suits, Trace}
use Rattle.moxi_scripts.specs.Meeting.{MeetsQuery}
use Rattle.moxi_scripts.specs.Valid.{AreFormulas, IsFormula, IsValid, IsValidSubsystem, IsValidSystem, check_variables, over}
use Rattle.moxi_scripts.specs.laws.WholeParts.{all_at, get_there, index_get, map_append}
use Rattle.moxi_scripts.proofs.AskingStands.{stands_sorted}
use Rattle.moxi_scripts.proofs.WholeRanks.{valid_has_ranks}
use Rattle.moxi_flat.specs.Renumbering.{IsOver}
use Rattle.moxi_flat.specs.FlatSystem.{flat_of, locals_upto}
use Rattle.moxi_flat.specs.FlatMeeting.{IsFlatTrace, MeetsFlat}
use Rattle.moxi_flat.specs.FlatLaws.{Extends, IsMetFlat, TracesHaveFlatTraces}
use Rattle.moxi_flat.proofs.Renumbered.{sorted_over, value_local}
use Rattle.moxi_flat.proofs.Values.{ActualsFit, actuals_fit, beside, beside_front, beside_back, suits_front, suits_back, suits_same, suits_beside}
use Rattle.moxi_flat.proofs.Nesting.{Nests, nests}
use Rattle.moxi_flat.proofs.Fine.{AreFine, IsFine, hidden_sorts, interface, own_sorts, sort_of, sorts_are}
use Rattle.moxi_flat.proofs.Shown.{Shows, shown}
use Rattle.moxi_flat.proofs.Written.{of_sorts, written}
use Rattle.moxi_terms.proofs.ScopeLaws.{all_of}

-- WHAT A WHOLE SCRIPT GIVES

module _ (s : PlainScript) (w : IsValid s) where
  is_over : (vs : List Variable) (primes : Primes) (t : Tree) → IsFormula s.scope vs primes t → IsOver (length (sorts_of vs)) t
  is_over vs primes t h =
      sorted_over s.scope.enumerations s.scope.functions (sorts_of vs) [] t Truth (stands_sorted (over s.scope vs primes) (sorts_of vs) (known_variables vs) [] [] t Truth tt h)

  fine_of : (x : PlainSystem) → IsValidSystem s.scope s.systems x → IsFine s.systems x
  fine_of x h = record {
    init = is_over (variables_in x) Refused x.init h.init;
    trans = is_over (variables_in x) Allowed x.trans h.trans;
    inv = is_over (variables_in x) Refused x.inv h.inv;
    actuals =
        all_of (IsValidSubsystem s.systems (variables_in x)) (λ (b : Subsystem). ActualsFit (own_sorts x) b.actuals (interface (system_at s.systems b.system))) x.subsystems
        (λ b g. actuals_fit (own_sorts x) b.actuals (interface (system_at s.systems b.system)) g.actuals) h.subsystems;
  }

  pub whole_at : (i : ℕ) (x : PlainSystem) → slice_get s.systems i ≡ Some x → IsValidSystem s.scope s.systems x
  whole_at i x e = all_at (IsValidSystem s.scope s.systems) s.systems i x w.systems.systems e

  pub are_fine : AreFine s.systems
  are_fine i h =
      let x = get_there s.systems i h in
      subst (IsFine s.systems) (sym (index_get s.systems i x.0 no_system x.1)) (fine_of x.0 (whole_at i x.0 x.1))

  all_pairs : (P Q : Subsystem → Type 0) (bs : List Subsystem) → AllByRecursion P bs → AllByRecursion Q bs → AllByRecursion (λ (b : Subsystem). P b × Q b) bs
  all_pairs P Q [] h g = tt
  all_pairs P Q (b ∷ bs) h g = ((h.0, g.0), all_pairs P Q bs h.1 g.1)

  ranks_fall : (i : ℕ) → i < length s.systems
      → AllByRecursion (λ (b : Subsystem). (b.system < length s.systems) × ((valid_has_ranks s w).rank b.system < (valid_has_ranks s w).rank i)) (system_at s.systems i).subsystems
  ranks_fall i h =
      let rank = (valid_has_ranks s w).rank in
      let x = get_there s.systems i h in
      subst (λ (x : PlainSystem). AllByRecursion (λ (b : Subsystem). (b.system < length s.systems) × (rank b.system < rank i)) x.subsystems) (sym (index_get s.systems i x.0 no_system x.1))
      (all_pairs (λ (b : Subsystem). b.system < length s.systems) (λ (b : Subsystem). rank b.system < rank i) x.0.subsystems
      (all_of (IsValidSubsystem s.systems (variables_in x.0)) (λ (b : Subsystem). b.system < length s.systems) x.0.subsystems (λ b g. g.there) (whole_at i x.0 x.1).subsystems)
      ((valid_has_ranks s w).falls i x.0 x.1))

  -- with the other facts of the subsystems stands that their systems are there
  pub there_at : (P : Subsystem → Type 0) (i : ℕ) → i < length s.systems → AllByRecursion P (system_at s.systems i).subsystems
      → AllByRecursion (λ (b : Subsystem). (b.system < length s.systems) × P b) (system_at s.systems i).subsystems
  there_at P i h all =
      let bs = (system_at s.systems i).subsystems in
      all_pairs (λ (b : Subsystem). b.system < length s.systems) P bs
      (all_of (λ (b : Subsystem). (b.system < length s.systems) × ((valid_has_ranks s w).rank b.system < (valid_has_ranks s w).rank i)) (λ (b : Subsystem). b.system < length s.systems) bs (λ b g. g.0) (ranks_fall i h)) all

  pub nests_at : (i : ℕ) → i < length s.systems → Nests (length s.systems) s.systems i
  nests_at = nests s.systems (valid_has_ranks s w).rank ranks_fall

  pub nests_checked : Nests (length s.systems) s.systems s.check.system
  nests_checked = nests_at s.check.system w.check.there

  -- the variables of the check have the sorts of the system's
  abbrev pub checked : PlainSystem
  checked = system_at s.systems s.check.system

  three_lists : (xs ys zs : List Variable) → sorts_of (xs ++ (ys ++ zs)) ≡ sorts_of xs ++ (sorts_of ys ++ sorts_of zs)
  three_lists xs ys zs = map_append sort_of xs (ys ++ zs) ∙ ap (λ ss. sorts_of xs ++ ss) (map_append sort_of ys zs)

  pub check_sorts_are : sorts_of (check_variables s.check) ≡ own_sorts checked
  check_sorts_are =
      let c = s.check in
      three_lists c.inputs c.outputs c.locals
      ∙ ap (λ ss. ss ++ (sorts_of c.outputs ++ sorts_of c.locals)) w.check.fits.inputs
      ∙ ap (λ ss. sorts_of checked.inputs ++ (ss ++ sorts_of c.locals)) w.check.fits.outputs
      ∙ ap (λ ss. sorts_of checked.inputs ++ (sorts_of checked.outputs ++ ss)) w.check.fits.locals
      ∙ sym (three_lists checked.inputs checked.outputs checked.locals)

  pub check_long : length (check_variables s.check) ≡ length (own_sorts checked)
  check_long = sym (length-map (check_variables s.check) sort_of) ∙ ap length check_sorts_are

  abbrev pub hidden_ones : List Sort
  hidden_ones = hidden_sorts s.systems (length s.systems) s.check.system

  pub flat_sorts : sorts_of (flat_of s).variables ≡ own_sorts checked ++ hidden_ones
  flat_sorts =
      let more = locals_upto s.systems (length s.systems) [] s.check.system in
      map_append sort_of (check_variables s.check) more ∙ ap (λ ss. ss ++ sorts_of more) check_sorts_are ∙ ap (λ ss. own_sorts checked ++ ss) (sorts_are s.systems (length s.systems) [] s.check.system)

  -- the formulas of the check are over its variables
  are_over : (fs : List PlainFormula) → AreFormulas s.scope (check_variables s.check) fs → AllByRecursion (λ (f : PlainFormula). IsOver (length (check_variables s.check)) f.term) fs
  are_over fs h =
      all_of (λ (f : PlainFormula). IsFormula s.scope (check_variables s.check) Refused f.term) (λ (f : PlainFormula). IsOver (length (check_variables s.check)) f.term) fs
      (λ f g. subst (λ n. IsOver n f.term) (length-map (check_variables s.check) sort_of) (is_over (check_variables s.check) Refused f.term g)) h

-- QUERIES

formula_over : (n : ℕ) (fs : List PlainFormula) → AllByRecursion (λ (f : PlainFormula). IsOver n f.term) fs → (i : ℕ) → IsOver n (formula_at fs i)
formula_over n [] h zero = tt
formula_over n [] h (suc i) = tt
formula_over n (f ∷ fs) h zero = h.0
formula_over n (f ∷ fs) h (suc i) = formula_over n fs h.1 i

-- two traces that agree on the variables that count
module _ (calls : Calls) (n k : ℕ) (from to : Trace) (agree : (j v : ℕ) → j ≤ k → v < n → from j v ≡ to j v) (fs : List PlainFormula) (fits : AllByRecursion (λ (f : PlainFormula). IsOver n f.term) fs) where
  carried : (i j : ℕ) → j ≤ k → Holds calls (from j) (from j) (formula_at fs i) → Holds calls (to j) (to j) (formula_at fs i)
  carried i j l h = sym (value_local calls n (from j) (to j) (λ v g. agree j v l g) (formula_at fs i) (formula_over n fs fits i)) ∙ h

  all_carried : (is : List ℕ) (j : ℕ) → j ≤ k → AllByRecursion (λ (i : ℕ). Holds calls (from j) (from j) (formula_at fs i)) is → AllByRecursion (λ (i : ℕ). Holds calls (to j) (to j) (formula_at fs i)) is
  all_carried is j l h = all_of (λ (i : ℕ). Holds calls (from j) (from j) (formula_at fs i)) (λ (i : ℕ). Holds calls (to j) (to j) (formula_at fs i)) is (λ i g. carried i j l g) h

  reached_carried : (is : List ℕ) → AllByRecursion (λ (i : ℕ). (j : ℕ) × (j ≤ k) × Holds calls (from j) (from j) (formula_at fs i)) is
      → AllByRecursion (λ (i : ℕ). (j : ℕ) × (j ≤ k) × Holds calls (to j) (to j) (formula_at fs i)) is
  reached_carried is h =
      all_of (λ (i : ℕ). (j : ℕ) × (j ≤ k) × Holds calls (from j) (from j) (formula_at fs i)) (λ (i : ℕ). (j : ℕ) × (j ≤ k) × Holds calls (to j) (to j) (formula_at fs i)) is
      (λ i g. (g.0, g.1, carried i g.0 g.1 g.2)) h

-- BOTH DIRECTIONS

module _ (s : PlainScript) (w : IsValid s) (q : Query) (k : ℕ) where
  pub flat_behaves : (trace flat : Trace) → Extends s k trace flat → IsFlatTrace (flat_of s) (k + 1) flat
      → Behaves s.scope.enumerations (calls_in s.scope) s.systems (k + 1) s.check.system trace
  flat_behaves trace flat extends f =
      let es = s.scope.enumerations in
      let own = own_sorts (checked s w) in
      let more = hidden_ones s w in
      let shows : Shows (k + 1) (length own) (λ v. v) flat trace = record { each = λ j v h g. extends.each j v (omega (arith, h)) (subst (λ n. v < n) (sym (check_long s w)) g) } in
      let both = λ (j : ℕ) (h : j < k + 1). subst (λ sorts. Suits es sorts (flat j)) (flat_sorts s w) (f.suits j h) in
      shown es (calls_in s.scope) s.systems (are_fine s w) (k + 1) (omega arith) (length s.systems) s.check.system (λ v. v) (length (check_variables s.check)) flat trace (nests_checked s w) shows
      (λ j h. suits_same es own (flat j) (trace j) (λ v g. shows.each j v h g) (suits_front es own more (flat j) (both j h)))
      (λ j h. subst (λ n. Suits es more (λ v. flat j (n + v))) (sym (check_long s w)) (suits_back es own more (flat j) (both j h))) f.parts

  pub flat_meets : (trace flat : Trace) → Extends s k trace flat → MeetsFlat (flat_of s) q k flat → MeetsQuery s q k trace
  flat_meets trace flat extends m =
      let n = length (check_variables s.check) in
      let calls = calls_in s.scope in
      let forms = w.check.formulas in
      let reachables = are_over s w s.check.reachables forms.reachables in
      record {
        behaves = flat_behaves trace flat extends m.behaves;
        assumptions = λ j l. all_carried calls n k flat trace extends.each s.check.assumptions (are_over s w s.check.assumptions forms.assumptions) q.assumptions j l (m.assumptions j l);
        currents = all_carried calls n k flat trace extends.each s.check.currents (are_over s w s.check.currents forms.currents) q.currents 0 (omega arith) m.currents;
        reached = reached_carried calls n k flat trace extends.each s.check.reachables reachables q.reachables m.reached;
        reached_last =
            (m.reached_last.0, m.reached_last.1, m.reached_last.2, m.reached_last.3, carried calls n k flat trace extends.each s.check.reachables reachables m.reached_last.1 k (omega arith) m.reached_last.4);
      }

  -- what meets the query is carried to a flat trace with the same values
  pub carried_flat : (trace flat : Trace) → Extends s k trace flat → IsFlatTrace (flat_of s) (k + 1) flat → MeetsQuery s q k trace → MeetsFlat (flat_of s) q k flat
  carried_flat trace flat extends f m =
      let n = length (check_variables s.check) in
      let calls = calls_in s.scope in
      let forms = w.check.formulas in
      let reachables = are_over s w s.check.reachables forms.reachables in
      let agree = λ (j v : ℕ) (l : j ≤ k) (h : v < n). sym (extends.each j v l h) in
      record {
        behaves = f;
        assumptions = λ j l. all_carried calls n k trace flat agree s.check.assumptions (are_over s w s.check.assumptions forms.assumptions) q.assumptions j l (m.assumptions j l);
        currents = all_carried calls n k trace flat agree s.check.currents (are_over s w s.check.currents forms.currents) q.currents 0 (omega arith) m.currents;
        reached = reached_carried calls n k trace flat agree s.check.reachables reachables q.reachables m.reached;
        reached_last =
            (m.reached_last.0, m.reached_last.1, m.reached_last.2, m.reached_last.3, carried calls n k trace flat agree s.check.reachables reachables m.reached_last.1 k (omega arith) m.reached_last.4);
      }

  pub meets_flat : (trace : Trace) → MeetsQuery s q k trace → IsMetFlat s q k trace
  meets_flat trace m =
      let es = s.scope.enumerations in
      let n = length (check_variables s.check) in
      let own = own_sorts (checked s w) in
      let more = hidden_ones s w in
      let hides = written es (calls_in s.scope) s.systems (are_fine s w) (k + 1) (omega arith) (length s.systems) s.check.system trace (nests_checked s w) m.behaves in
      let flat = λ (j : ℕ). beside n (trace j) (hides.hidden j) in
      let extends : Extends s k trace flat = record { each = λ j v l h. beside_front n (trace j) (hides.hidden j) v h } in
      record {
        flat = flat;
        extends = extends;
        meets = carried_flat trace flat extends
            (record {
              suits = λ j h. subst (λ sorts. Suits es sorts (flat j)) (sym (flat_sorts s w))
                  (subst (λ n. Suits es (own ++ more) (beside n (trace j) (hides.hidden j))) (sym (check_long s w))
                  (suits_beside es own more (trace j) (hides.hidden j) (of_sorts es (calls_in s.scope) s.systems (are_fine s w) (k + 1) (omega arith) m.behaves j h) (hides.suits j h)));
              parts = hides.holds (λ v. v) n flat (record { each = λ j v l h. beside_front n (trace j) (hides.hidden j) v (subst (λ n. v < n) (sym (check_long s w)) h) })
                  (record { each = λ j v l h. beside_back n (trace j) (hides.hidden j) v });
            })
            m;
      }

pub traces_have_flat_traces_law : TracesHaveFlatTraces
traces_have_flat_traces_law s w q k trace = (meets_flat s w q k trace, λ m. flat_meets s w q k trace m.flat m.extends m.meets)
