-- A trace of the flat system shows a trace that behaves.
use Rattle.std.proofs.Common.{◌≡◌, ℕ, zero, suc, ◌+◌, ◌<◌, List, [], ◌∷◌, ◌++◌, length, refl, sym, ap, ◌∙◌, subst, arith}
use Rattle.std.specs.List.{AllByRecursion}
use Rattle.std.proofs.lemmas.Option.{slice_get_within}
use Rattle.moxi_terms.specs.declared.data.Sort.{Sort}
use Rattle.moxi_terms.specs.declared.term.Enumeration.{Enumeration}
use Rattle.moxi_terms.specs.Sorts.{IsOf}
use Rattle.moxi_terms.specs.Value.{Calls}
use Rattle.moxi_scripts.specs.declared.script.Subsystem.{Subsystem}
use Rattle.moxi_scripts.specs.Script.{PlainSystem, system_at}
use Rattle.moxi_scripts.specs.Behaviour.{Trace, Suits, FormulasHold, Behaves, behaves, EachBehaves, no_subsystems, subsystem}
use Rattle.moxi_scripts.specs.laws.WholeParts.{all_parts}
use Rattle.moxi_flat.specs.FlatSystem.{place_inside, part_of, parts_each, parts_upto, count_upto}
use Rattle.moxi_flat.specs.FlatMeeting.{PartHolds}
use Rattle.moxi_flat.proofs.Renumbered.{value_renumbered}
use Rattle.moxi_flat.proofs.Values.{ActualsFit, actuals_long, actual_at, actual_there, inside_front, inside_back, suits_front, suits_back, suits_both, suits_same}
use Rattle.moxi_flat.proofs.Nesting.{Nests}
use Rattle.moxi_flat.proofs.Fine.{AreFine, interface, local_sorts, own_sorts, own_split, locals_long, sorts_each, hidden_sorts, count_is}

-- the trace is what the flat trace has at the places
pub record Shows (steps n : ℕ) (place : ℕ → ℕ) (flat trace : Trace) : Type 0 where
  pub each : (j v : ℕ) → j < steps → v < n → flat j (place v) ≡ trace j v

-- sums of numbers of variables
pub behind_locals : (fresh m n v : ℕ) → m ≡ n → fresh + (m + v) ≡ fresh + n + v
behind_locals fresh m n v e = omega (arith, e)

pub behind_within : (fresh m n k c v : ℕ) → m ≡ n → c ≡ k → fresh + (m + (k + v)) ≡ fresh + n + c + v
behind_within fresh m n k c v e f = omega (arith, e, f)

module _ (es : List Enumeration) (calls : Calls) (ss : List PlainSystem) (fine : AreFine ss) (steps : ℕ) (some : 0 < steps) where
  pub part_is : (i : ℕ) (place : ℕ → ℕ) (flat trace : Trace) → i < length ss → Shows steps (length (own_sorts (system_at ss i))) place flat trace
      → PartHolds calls steps flat (part_of place (system_at ss i)) → FormulasHold calls steps (system_at ss i) trace
  part_is i place flat trace le shows p =
      let s = system_at ss i in
      let f = fine i le in
      let n = length (own_sorts s) in
      record {
        init = sym (value_renumbered calls place n (flat 0) (flat 0) (trace 0) (trace 0) (λ v h. shows.each 0 v some h) (λ v h. shows.each 0 v some h) [] s.init f.init) ∙ p.init;
        trans = λ j h. sym (value_renumbered calls place n (flat j) (flat (j + 1)) (trace j) (trace (j + 1)) (λ v g. shows.each j v (omega arith) g) (λ v g. shows.each (j + 1) v h g) [] s.trans f.trans) ∙ p.trans j h;
        inv = λ j h. sym (value_renumbered calls place n (flat j) (flat j) (trace j) (trace j) (λ v g. shows.each j v h g) (λ v g. shows.each j v h g) [] s.inv f.inv) ∙ p.inv j h;
      }

  pub is_part : (i : ℕ) (place : ℕ → ℕ) (flat trace : Trace) → i < length ss → Shows steps (length (own_sorts (system_at ss i))) place flat trace
      → FormulasHold calls steps (system_at ss i) trace → PartHolds calls steps flat (part_of place (system_at ss i))
  is_part i place flat trace le shows p =
      let s = system_at ss i in
      let f = fine i le in
      let n = length (own_sorts s) in
      record {
        init = value_renumbered calls place n (flat 0) (flat 0) (trace 0) (trace 0) (λ v h. shows.each 0 v some h) (λ v h. shows.each 0 v some h) [] s.init f.init ∙ p.init;
        trans = λ j h. value_renumbered calls place n (flat j) (flat (j + 1)) (trace j) (trace (j + 1)) (λ v g. shows.each j v (omega arith) g) (λ v g. shows.each (j + 1) v h g) [] s.trans f.trans ∙ p.trans j h;
        inv = λ j h. value_renumbered calls place n (flat j) (flat j) (trace j) (trace j) (λ v g. shows.each j v h g) (λ v g. shows.each j v h g) [] s.inv f.inv ∙ p.inv j h;
      }

  -- values of the right sorts from a number on
  abbrev pub Sorted : List Sort → ℕ → Trace → Type 0
  Sorted sorts start flat = (j : ℕ) → j < steps → Suits es sorts (λ v. flat j (start + v))

  -- the values of a subsystem have their sorts
  inside_suits : (s : PlainSystem) (place : ℕ → ℕ) (actuals : List ℕ) (fresh j : ℕ) (vars : List Sort) (flat trace : Trace) → j < steps
      → ActualsFit vars actuals (interface s) → Shows steps (length vars) place flat trace → Suits es vars (trace j) → Suits es (local_sorts s) (λ v. flat j (fresh + v))
      → Suits es (own_sorts s) (λ v. flat j (place_inside place actuals fresh v))
  inside_suits s place actuals fresh j vars flat trace le fit shows suits locals =
      let p = place_inside place actuals fresh in
      subst (λ sorts. Suits es sorts (λ v. flat j (p v))) (sym (own_split s))
      (suits_both es (interface s) (local_sorts s) (λ v. flat j (p v))
      (record {
        each = λ a t g.
            let w = actual_at vars actuals (interface s) a t fit g in
            let e : flat j (p a) ≡ trace j w.0 = ap (flat j) (inside_front place actuals fresh a w.0 w.1) ∙ shows.each j w.0 le (slice_get_within vars w.0 t w.2) in
            subst (IsOf es t) (sym e) (suits.each w.0 t w.2);
      })
      (suits_same es (local_sorts s) (λ v. flat j (fresh + v)) (λ v. flat j (p (length (interface s) + v)))
      (λ v h. ap (flat j) (sym (inside_back place actuals fresh (length (interface s)) v (actuals_long vars actuals (interface s) fit)))) locals))

  -- what a deeper flat system gives, for any instance
  abbrev Gives : ℕ → Type 0
  Gives depth = (i : ℕ) (place : ℕ → ℕ) (fresh : ℕ) (flat trace : Trace) → Nests depth ss i → Shows steps (length (own_sorts (system_at ss i))) place flat trace
      → ((j : ℕ) → j < steps → Suits es (own_sorts (system_at ss i)) (trace j)) → Sorted (hidden_sorts ss depth i) fresh flat
      → AllByRecursion (PartHolds calls steps flat) (parts_upto ss depth place fresh i) → Behaves es calls ss steps i trace

  shown_each : (depth : ℕ) → Gives depth → (bs : List Subsystem) (vars : List Sort) (place : ℕ → ℕ) (fresh : ℕ) (flat trace : Trace)
      → AllByRecursion (λ (b : Subsystem). Nests depth ss b.system) bs → AllByRecursion (λ (b : Subsystem). ActualsFit vars b.actuals (interface (system_at ss b.system))) bs
      → Shows steps (length vars) place flat trace → ((j : ℕ) → j < steps → Suits es vars (trace j)) → Sorted (sorts_each ss (hidden_sorts ss depth) bs) fresh flat
      → AllByRecursion (PartHolds calls steps flat) (parts_each ss (count_upto ss depth) (parts_upto ss depth) place fresh bs) → EachBehaves es calls ss steps bs trace
  shown_each depth gives [] vars place fresh flat trace nests fits shows suits sorted holds = no_subsystems
  shown_each depth gives (b ∷ bs) vars place fresh flat trace nests fits shows suits sorted holds =
      let s = system_at ss b.system in
      let sorts = local_sorts s in
      let n = length s.locals in
      let within = hidden_sorts ss depth b.system in
      let count = count_upto ss depth b.system in
      let rest = sorts_each ss (hidden_sorts ss depth) bs in
      let place_at = place_inside place b.actuals fresh in
      let inner = λ (j v : ℕ). flat j (place_at v) in
      let of_locals = λ (j : ℕ) (h : j < steps). suits_front es sorts (within ++ rest) (λ v. flat j (fresh + v)) (sorted j h) in
      let more = λ (j : ℕ) (h : j < steps). suits_back es sorts (within ++ rest) (λ v. flat j (fresh + v)) (sorted j h) in
      let of_within = λ (j : ℕ) (h : j < steps). suits_same es within (λ v. flat j (fresh + (length sorts + v))) (λ v. flat j (fresh + n + v))
      (λ v g. ap (flat j) (behind_locals fresh (length sorts) n v (locals_long s)))
      (suits_front es within rest (λ v. flat j (fresh + (length sorts + v))) (more j h)) in
      let of_rest = λ (j : ℕ) (h : j < steps). suits_same es rest (λ v. flat j (fresh + (length sorts + (length within + v)))) (λ v. flat j (fresh + n + count + v))
      (λ v g. ap (flat j) (behind_within fresh (length sorts) n (length within) count v (locals_long s) (count_is ss depth b.system)))
      (suits_back es within rest (λ v. flat j (fresh + (length sorts + v))) (more j h)) in
      let own_parts = parts_upto ss depth place_at (fresh + n) b.system in
      let rest_parts = parts_each ss (count_upto ss depth) (parts_upto ss depth) place (fresh + n + count) bs in
      let both = all_parts (PartHolds calls steps flat) own_parts rest_parts holds in
      subsystem inner
      (gives b.system place_at (fresh + n) flat inner nests.0 (record { each = λ j v h g. refl })
      (λ j h. inside_suits s place b.actuals fresh j vars flat trace h fits.0 shows (suits j h) (of_locals j h)) of_within both.0)
      (record { each = λ j a v h g. ap (flat j) (inside_front place b.actuals fresh a v g) ∙ shows.each j v h (actual_there vars b.actuals (interface s) a v fits.0 g) })
      (shown_each depth gives bs vars place (fresh + n + count) flat trace nests.1 fits.1 shows suits of_rest both.1)

  pub shown : (depth : ℕ) → Gives depth
  shown zero i place fresh flat trace nests shows suits sorted holds = absurd nests
  shown (suc depth) i place fresh flat trace nests shows suits sorted holds =
      behaves nests.0 suits (part_is i place flat trace nests.0 shows holds.0)
      (shown_each depth (shown depth) (system_at ss i).subsystems (own_sorts (system_at ss i)) place fresh flat trace nests.1 (fine i nests.0).actuals shows suits sorted holds.1)
