-- The formulas of all systems hold with the hidden values of a flat trace exactly where those of all parts hold.
use Rattle.std.proofs.Common.{◌≡◌, ℕ, zero, suc, ◌+◌, ◌-◌, ◌<◌, ◌≤◌, ◌&&◌, Bool, true, false, cond, nat_lt, List, [], ◌∷◌, length, refl, sym, ap, ◌∙◌, subst, arith}
use Rattle.std.specs.Prelude.{slice_index_or}
use Rattle.std.specs.List.{AllByRecursion, list_all}
use Rattle.std.proofs.lemmas.Bool.Decides.{nat_tests}
use Rattle.std.proofs.lemmas.List.Folds.{list_all-append}
use Rattle.moxi_terms.specs.declared.data.Sort.{Sort}
use Rattle.moxi_terms.specs.Operators.{truth_of}
use Rattle.moxi_terms.specs.Tree.{Tree}
use Rattle.moxi_terms.specs.Value.{Values}
use Rattle.moxi_scripts.specs.declared.script.Subsystem.{Subsystem}
use Rattle.moxi_scripts.specs.Script.{PlainScript, PlainSystem, calls_in, system_at}
use Rattle.moxi_scripts.specs.Behaviour.{Trace}
use Rattle.moxi_scripts.specs.Meeting.{Hiddens, hidden, no_hidden, more_hidden, each_holds, is_true, within}
use Rattle.moxi_scripts.specs.Valid.{check_variables}
use Rattle.moxi_scripts.specs.laws.WholeParts.{get_there, index_get}
use Rattle.moxi_flat.specs.Renumbering.{renumbered, IsOver}
use Rattle.moxi_flat.specs.FlatSystem.{PlainPart, place_inside, part_of, parts_each, parts_upto, count_upto}
use Rattle.moxi_flat.specs.FlatMeeting.{HasEach, HasUpto, hiddens_each, hiddens_upto}
use Rattle.moxi_flat.specs.FlatLaws.{HiddenValuesAreWritten, PartsAreTested}
use Rattle.moxi_flat.proofs.Renumbered.{value_renumbered}
use Rattle.moxi_flat.proofs.Values.{ActualsFit, actual_there, actuals_long}
use Rattle.moxi_flat.proofs.Nesting.{Nests}
use Rattle.moxi_flat.proofs.Fine.{AreFine, interface, local_sorts, locals_long, own_long, own_sorts}
use Rattle.moxi_flat.proofs.Scripts.{are_fine, check_long, nests_checked}

-- THE HIDDEN VALUES OF A FLAT TRACE

module _ (ss : List PlainSystem) (k : ℕ) (flat : Trace) where
  has_each : (depth : ℕ) → ((fresh i : ℕ) → HasUpto ss depth k flat fresh i (hiddens_upto ss depth flat fresh i)) → (fresh : ℕ) (bs : List Subsystem)
      → HasEach ss (count_upto ss depth) (HasUpto ss depth k flat) k flat fresh bs (hiddens_each ss (count_upto ss depth) (hiddens_upto ss depth flat) flat fresh bs)
  has_each depth f fresh [] = tt
  has_each depth f fresh (b ∷ bs) =
      let next = fresh + length (system_at ss b.system).locals in
      ((λ j v l h. refl), f next b.system, has_each depth f (next + count_upto ss depth b.system) bs)

  has_upto : (depth fresh i : ℕ) → HasUpto ss depth k flat fresh i (hiddens_upto ss depth flat fresh i)
  has_upto zero fresh i = tt
  has_upto (suc depth) fresh i = has_each depth (has_upto depth) fresh (system_at ss i).subsystems

pub hidden_values_are_written_law : HiddenValuesAreWritten
hidden_values_are_written_law s k flat = record {
  extends = record { each = λ j v l h. refl };
  hidden = has_upto s.systems k flat (length s.systems) (length (check_variables s.check)) s.check.system;
}

-- TESTS

-- the values are in the flat ones at these places
abbrev Stand : ℕ → (ℕ → ℕ) → Values → Values → Type 0
Stand n place flat own = (v : ℕ) → v < n → flat (place v) ≡ own v

-- what a subsystem's variables have is at its places
inside_stand : (x : PlainSystem) (place : ℕ → ℕ) (actuals : List ℕ) (fresh : ℕ) (flat own free : Values) (vars : List Sort) → ActualsFit vars actuals (interface x) → Stand (length vars) place flat own
    → ((v : ℕ) → v < length x.locals → flat (fresh + v) ≡ free v) → Stand (length (own_sorts x)) (place_inside place actuals fresh) flat (within actuals own free)
inside_stand x place actuals fresh flat own free vars fit stand lies v h = by_test (nat_lt v (length actuals)) refl
  where
    actual : v < length actuals → flat (place (slice_index_or actuals v 0)) ≡ own (slice_index_or actuals v 0)
    actual l =
        let a = get_there actuals v l in
        stand (slice_index_or actuals v 0) (subst (λ k. k < length vars) (sym (index_get actuals v a.0 0 a.1)) (actual_there vars actuals (interface x) v a.0 fit a.1))

    local : (a i l n : ℕ) → a ≤ v → a ≡ i → l ≡ n → v < i + l → v - a < n
    local a i l n h e f g = omega (arith, e, f)

    by_test : (b : Bool) → nat_lt v (length actuals) ≡ b
        → flat (cond b (place (slice_index_or actuals v 0)) (fresh + (v - length actuals))) ≡ cond b (own (slice_index_or actuals v 0)) (free (v - length actuals))
    by_test true e = actual (let l : v < length actuals = grind (arith, nat_tests) in l)
    by_test false e =
        let l : length actuals ≤ v = grind (arith, nat_tests) in
        lies (v - length actuals) (local (length actuals) (length (interface x)) (length (local_sorts x)) (length x.locals) l
        (actuals_long vars actuals (interface x) fit) (locals_long x) (subst (λ n. v < n) (own_long x) h))

-- one formula of each system, and the same one of each part
module _ (s : PlainScript) (fine : AreFine s.systems) (part : PlainSystem → Tree) (formula : PlainPart → Tree)
    (same : (place : ℕ → ℕ) (x : PlainSystem) → formula (part_of place x) ≡ renumbered place (part x))
    (fits : (i : ℕ) → i < length s.systems → IsOver (length (own_sorts (system_at s.systems i))) (part (system_at s.systems i)))
    (k : ℕ) (flat : Trace) (i j : ℕ) (of_i : i ≤ k) (of_j : j ≤ k) where
  abbrev ss : List PlainSystem
  ss = s.systems

  abbrev is_held : PlainPart → Bool
  is_held p = is_true s (flat i) (flat j) (formula p)

  part_tested : (n : ℕ) (place : ℕ → ℕ) (now later : Values) → n < length ss → Stand (length (own_sorts (system_at ss n))) place (flat i) now → Stand (length (own_sorts (system_at ss n))) place (flat j) later
      → is_true s now later (part (system_at ss n)) ≡ is_held (part_of place (system_at ss n))
  part_tested n place now later there a b =
      let x = system_at ss n in
      sym (ap (is_true s (flat i) (flat j)) (same place x)
      ∙ ap truth_of (value_renumbered (calls_in s.scope) place (length (own_sorts x)) (flat i) (flat j) now later a b [] (part x) (fits n there)))

  abbrev Tests : ℕ → Type 0
  Tests depth = (n : ℕ) (place : ℕ → ℕ) (fresh : ℕ) (now later : Values) (hs : Hiddens) → Nests depth ss n → HasUpto ss depth k flat fresh n hs
      → Stand (length (own_sorts (system_at ss n))) place (flat i) now → Stand (length (own_sorts (system_at ss n))) place (flat j) later
      → (is_true s now later (part (system_at ss n)) && each_holds s part i j (system_at ss n).subsystems now later hs) ≡ list_all is_held (parts_upto ss depth place fresh n)

  each_tested : (depth : ℕ) → Tests depth → (bs : List Subsystem) (vars : List Sort) (place : ℕ → ℕ) (fresh : ℕ) (now later : Values) (hs : Hiddens)
      → AllByRecursion (λ (b : Subsystem). Nests depth ss b.system) bs → AllByRecursion (λ (b : Subsystem). ActualsFit vars b.actuals (interface (system_at ss b.system))) bs
      → HasEach ss (count_upto ss depth) (HasUpto ss depth k flat) k flat fresh bs hs → Stand (length vars) place (flat i) now → Stand (length vars) place (flat j) later
      → each_holds s part i j bs now later hs ≡ list_all is_held (parts_each ss (count_upto ss depth) (parts_upto ss depth) place fresh bs)
  each_tested depth tests [] vars place fresh now later hs nests fits has a b = refl
  each_tested depth tests (x ∷ xs) vars place fresh now later no_hidden nests fits has a b = absurd has
  each_tested depth tests (x ∷ xs) vars place fresh now later (more_hidden (hidden free inner) hs) nests fits has a b =
      let system = system_at ss x.system in
      let next = fresh + length system.locals in
      let place_at = place_inside place x.actuals fresh in
      let last = next + count_upto ss depth x.system in
      let own_parts = parts_upto ss depth place_at next x.system in
      let rest = parts_each ss (count_upto ss depth) (parts_upto ss depth) place last xs in
      let first = tests x.system place_at next (within x.actuals now (free i)) (within x.actuals later (free j)) inner nests.0 has.1
      (inside_stand system place x.actuals fresh (flat i) now (free i) vars fits.0 a (λ v l. has.0 i v of_i l))
      (inside_stand system place x.actuals fresh (flat j) later (free j) vars fits.0 b (λ v l. has.0 j v of_j l)) in
      ap (λ c. c && each_holds s part i j xs now later hs) first
      ∙ ap (λ c. list_all is_held own_parts && c) (each_tested depth tests xs vars place last now later hs nests.1 fits.1 has.2 a b)
      ∙ sym (list_all-append is_held own_parts rest)

  pub tested : (depth : ℕ) → Tests depth
  tested zero n place fresh now later hs nests has a b = absurd nests
  tested (suc depth) n place fresh now later hs nests has a b =
      let x = system_at ss n in
      ap (λ c. c && each_holds s part i j x.subsystems now later hs) (part_tested n place now later nests.0 a b)
      ∙ ap (λ c. is_held (part_of place x) && c) (each_tested depth (tested depth) x.subsystems (own_sorts x) place fresh now later hs nests.1 (fine n nests.0).actuals has a b)

pub parts_are_tested_law : PartsAreTested
parts_are_tested_law s w k trace hs flat out i j of_i of_j =
    let fine = are_fine s w in
    let nests = nests_checked s w in
    let n = length (check_variables s.check) in
    let stand = λ (j : ℕ) (l : j ≤ k) (v : ℕ) (h : v < length (own_sorts (system_at s.systems s.check.system))). out.extends.each j v l (subst (λ m. v < m) (sym (check_long s w)) h) in
    let all = λ (part : PlainSystem → Tree) (formula : PlainPart → Tree) (same : (place : ℕ → ℕ) (x : PlainSystem) → formula (part_of place x) ≡ renumbered place (part x))
    (fits : (i : ℕ) → i < length s.systems → IsOver (length (own_sorts (system_at s.systems i))) (part (system_at s.systems i))).
    tested s fine part formula same fits k flat i j of_i of_j (length s.systems) s.check.system (λ v. v) n (trace i) (trace j) hs nests out.hidden (stand i of_i) (stand j of_j) in
    record {
      init = all (λ x. x.init) (λ p. p.init) (λ place x. refl) (λ i h. (fine i h).init);
      trans = all (λ x. x.trans) (λ p. p.trans) (λ place x. refl) (λ i h. (fine i h).trans);
      inv = all (λ x. x.inv) (λ p. p.inv) (λ place x. refl) (λ i h. (fine i h).inv);
    }
