-- The verdict by the parts is that by the systems with the hidden values, and Yes of it says that the trace meets the query.
use Rattle.std.proofs.Common.{◌≡◌, ℕ, zero, suc, ◌+◌, ◌-◌, ◌<◌, ◌≤◌, ◌&&◌, Bool, true, false, Option, None, Some, Result, Ok, Err, IfOk, List, [], ◌∷◌, length, refl, sym, ap, ◌∙◌, subst, arith}
use Rattle.std.specs.Prelude.{◌↔◌, slice_get, slice_index_or}
use Rattle.std.specs.List.{AllByRecursion, list_all}
use Rattle.std.proofs.Math.Bool.{Bool-set}
use Rattle.std.proofs.Math.Logic.{∥∥₁_elim}
use Rattle.std.proofs.lemmas.Bool.{and_parts}
use Rattle.text_core.specs.declared.verdict.Clause.{Clause}
use Rattle.text_core.specs.declared.verdict.Clause.TheVariants.{InitFails, TransFails, InvarFails}
use Rattle.text_core.specs.declared.verdict.Verdict.TheVariants.{Yes}
use Rattle.moxi_terms.specs.declared.data.Datum.{Datum}
use Rattle.moxi_terms.specs.declared.data.Datum.TheVariants as datum
use Rattle.moxi_terms.specs.declared.data.Sort.{Sort}
use Rattle.moxi_terms.specs.declared.term.Enumeration.{Enumeration}
use Rattle.moxi_terms.specs.Names.{or_else}
use Rattle.moxi_terms.specs.Operators.{truth_of}
use Rattle.moxi_terms.specs.Sorts.{Fit, IsOf}
use Rattle.moxi_terms.specs.Tree.{Tree, sorts_of}
use Rattle.moxi_terms.specs.Value.{at, term_value}
use Rattle.moxi_scripts.specs.declared.script.Query.{Query}
use Rattle.moxi_scripts.specs.Script.{PlainScript, calls_in}
use Rattle.moxi_scripts.specs.Asking.{NothingFails, query_tests, system_tests}
use Rattle.moxi_scripts.specs.Behaviour.{Behaves, Holds, Suits, Trace, behaves, no_subsystems, trace_of}
use Rattle.moxi_scripts.specs.Meeting.{Hiddens, MeetsQuery, all_hold, first_failing, is_reached_before, is_true, step_tests, verdict_or}
use Rattle.moxi_scripts.specs.Meeting.{judged_from as judged_by_systems}
use Rattle.moxi_scripts.specs.Valid.{IsValid}
use Rattle.moxi_flat.specs.FlatSystem.{PlainFlatSystem, PlainPart, flat_of}
use Rattle.moxi_flat.specs.FlatMeeting.{IsFlatTrace, MeetsFlat, PartHolds, hidden_values}
use Rattle.moxi_flat.specs.FlatLaws.{AreTested, HiddenValuesAreWritten, PartsAreTested}
use Rattle.moxi_judge.specs.FlatTests.{Fits, free_script, failing_at, judged_by_parts, part_tests}
use Rattle.moxi_judge.specs.Judging.{IsStatedTrace}
use Rattle.moxi_judge.proofs.Elements.{all_at}
use Rattle.moxi_flat.proofs.Judged.{neither, verdict_yes}
use Rattle.moxi_scripts.proofs.MeetingLaws.{passed, passes, true_is}
use Rattle.text_core.proofs.Numerals.{next_is, from_start}

-- ---- steps

-- where the same clauses fail at the same steps, the verdicts are the same
module _ (s : PlainScript) (f : PlainFlatSystem) (q : Query) (last : ℕ) (trace : Trace) (hs : Hiddens) where
  same_from : (n j : ℕ) → ((i : ℕ) → i < j + n → failing_at f q last trace i ≡ first_failing (step_tests s q last trace hs i)) → judged_by_parts f q last trace j n ≡ judged_by_systems s q last trace hs j n
  same_from zero j same = refl
  same_from (suc n) j same =
      ap (λ o. verdict_or j o (judged_by_parts f q last trace (suc j) n)) (same j (omega arith))
      ∙ ap (verdict_or j (first_failing (step_tests s q last trace hs j))) (same_from n (suc j) (λ i l. same i (omega (arith, l))))

first_of_both : (a b x y : Bool) (c d : Clause) → a ≡ x → b ≡ y → first_failing ((a, c) ∷ (b, d) ∷ []) ≡ first_failing ((x, c) ∷ (y, d) ∷ [])
first_of_both a b x y c d e h = ap (λ v. first_failing ((v, c) ∷ (b, d) ∷ [])) e ∙ ap (λ v. first_failing ((x, c) ∷ (v, d) ∷ [])) h

abbrev pub StepsAreTested : Type 0
StepsAreTested =
    (s : PlainScript) (q : Query) (last : ℕ) (trace : Trace) (hs : Hiddens) (j : ℕ)
    → first_failing (step_tests s q last trace hs j) ≡ or_else (first_failing (system_tests s trace hs j)) (first_failing (query_tests s q last (is_reached_before s trace j) j (trace j)))

module _ (written : HiddenValuesAreWritten) (tested : PartsAreTested) (steps : StepsAreTested) (s : PlainScript) (w : ∥ IsValid s ∥₁) (q : Query) (k : ℕ) (flat : Trace) where
  abbrev hs : Hiddens
  hs = hidden_values s flat

  agree : (i j : ℕ) → i ≤ k → j ≤ k → IsValid s → AreTested s flat hs flat i j
  agree i j a b v = tested s v k flat hs flat (written s k flat) i j a b

  held : (a b : Bool) → (IsValid s → a ≡ b) → a ≡ b
  held a b f = ∥∥₁_elim w (Bool-set a b) f

  invs_agree : (j : ℕ) → j ≤ k → list_all (λ (p : PlainPart). is_true s (flat j) (flat j) p.inv) (flat_of s).parts ≡ all_hold s (λ x. x.inv) j j flat hs
  invs_agree j l = held _ _ (λ v. sym (agree j j l l v).inv)

  parts_agree : (j : ℕ) → j ≤ k → first_failing (part_tests (flat_of s) flat j) ≡ first_failing (system_tests s flat hs j)
  parts_agree zero l = first_of_both _ _ _ _ InitFails InvarFails (held _ _ (λ v. sym (agree 0 0 l l v).init)) (invs_agree 0 l)
  parts_agree (suc j) l = first_of_both _ _ _ _ TransFails InvarFails (held _ _ (λ v. sym (agree j (suc j) (omega (arith, l)) l v).trans)) (invs_agree (suc j) l)

  step_agrees : (j : ℕ) → j ≤ k → failing_at (flat_of s) q k flat j ≡ first_failing (step_tests s q k flat hs j)
  step_agrees j l =
      ap (λ o. or_else o (first_failing (query_tests s q k (is_reached_before s flat j) j (flat j)))) (parts_agree j l)
      ∙ sym (steps s q k flat hs j)

  pub parts_give_verdict : judged_by_parts (flat_of s) q k flat 0 (suc k) ≡ judged_by_systems s q k flat hs 0 (suc k)
  parts_give_verdict = same_from s (flat_of s) q k flat hs (suc k) 0 (λ i l. step_agrees i (omega (arith, l)))

-- ---- Yes

both_none : (a b : Option Clause) → a ≡ None → b ≡ None → or_else a b ≡ None
both_none None b e h = h
both_none (Some c) b e h = absurd (cc)

module _ (f : PlainFlatSystem) (flat : Trace) where
  abbrev s : PlainScript
  s = free_script f

  abbrev HeldBetween : (PlainPart → Tree) → ℕ → ℕ → List PlainPart → Type 0
  HeldBetween formula j k ps = AllByRecursion (λ (p : PlainPart). Holds (calls_in f.scope) (flat j) (flat k) (formula p)) ps

  are_held : (formula : PlainPart → Tree) (j k : ℕ) (ps : List PlainPart) → list_all (λ (p : PlainPart). is_true s (flat j) (flat k) (formula p)) ps ≡ true → HeldBetween formula j k ps
  are_held formula j k [] h = tt
  are_held formula j k (p ∷ ps) h =
      let both = and_parts (is_true s (flat j) (flat k) (formula p)) (list_all (λ (p : PlainPart). is_true s (flat j) (flat k) (formula p)) ps) h in
      (true_is (term_value (calls_in f.scope) (flat j) (flat k) [] (formula p)) both.0, are_held formula j k ps both.1)

  and_both : (a b : Bool) → a ≡ true → b ≡ true → (a && b) ≡ true
  and_both true b h g = g
  and_both false b h g = h

  are_true : (formula : PlainPart → Tree) (j k : ℕ) (ps : List PlainPart) → HeldBetween formula j k ps → list_all (λ (p : PlainPart). is_true s (flat j) (flat k) (formula p)) ps ≡ true
  are_true formula j k [] h = refl
  are_true formula j k (p ∷ ps) h =
      and_both (is_true s (flat j) (flat k) (formula p)) (list_all (λ (p : PlainPart). is_true s (flat j) (flat k) (formula p)) ps) (ap truth_of h.0) (are_true formula j k ps h.1)

  parts_hold : (steps : ℕ) (ps : List PlainPart) → HeldBetween (λ p. p.init) 0 0 ps → ((j : ℕ) → j + 1 < steps → HeldBetween (λ p. p.trans) j (j + 1) ps) → ((j : ℕ) → j < steps → HeldBetween (λ p. p.inv) j j ps)
      → AllByRecursion (PartHolds (calls_in f.scope) steps flat) ps
  parts_hold steps [] a b c = tt
  parts_hold steps (p ∷ ps) a b c =
      (record { init = a.0; trans = λ j h. (b j h).0; inv = λ j h. (c j h).0 }, parts_hold steps ps a.1 (λ j h. (b j h).1) (λ j h. (c j h).1))

  init_held : (steps : ℕ) (ps : List PlainPart) → AllByRecursion (PartHolds (calls_in f.scope) steps flat) ps → HeldBetween (λ p. p.init) 0 0 ps
  init_held steps [] h = tt
  init_held steps (p ∷ ps) h = (h.0.init, init_held steps ps h.1)

  trans_held : (steps j : ℕ) → j + 1 < steps → (ps : List PlainPart) → AllByRecursion (PartHolds (calls_in f.scope) steps flat) ps → HeldBetween (λ p. p.trans) j (j + 1) ps
  trans_held steps j l [] h = tt
  trans_held steps j l (p ∷ ps) h = (h.0.trans j l, trans_held steps j l ps h.1)

  inv_held : (steps j : ℕ) → j < steps → (ps : List PlainPart) → AllByRecursion (PartHolds (calls_in f.scope) steps flat) ps → HeldBetween (λ p. p.inv) j j ps
  inv_held steps j l [] h = tt
  inv_held steps j l (p ∷ ps) h = (h.0.inv j l, inv_held steps j l ps h.1)

abbrev pub QueriesAreMet : Type 0
QueriesAreMet = (s : PlainScript) (q : Query) (k : ℕ) (trace : Trace) → Behaves s.scope.enumerations (calls_in s.scope) s.systems (k + 1) s.check.system trace → NothingFails s q k trace → MeetsQuery s q k trace

abbrev pub QueriesAsk : Type 0
QueriesAsk = (s : PlainScript) (q : Query) (k : ℕ) (trace : Trace) → MeetsQuery s q k trace → NothingFails s q k trace

module _ (meets : QueriesAreMet) (asks : QueriesAsk) (f : PlainFlatSystem) (q : Query) (k : ℕ) (flat : Trace) (suits : (j : ℕ) → j ≤ k → Suits f.scope.enumerations (sorts_of f.variables) (flat j)) where
  abbrev ps : List PlainPart
  ps = f.parts

  abbrev Passes : ℕ → Type 0
  Passes j = failing_at f q k flat j ≡ None

  -- each of so many steps from step j on passes
  each_passes : (n j d : ℕ) → judged_by_parts f q k flat j n ≡ Yes → d < n → Passes (j + d)
  each_passes zero j d h l = absurd (omega (arith, l))
  each_passes (suc n) j zero h l =
      subst Passes (let e : j ≡ j + 0 = omega arith in e) (verdict_yes j (failing_at f q k flat j) (judged_by_parts f q k flat (suc j) n) h).0
  each_passes (suc n) j (suc d) h l =
      subst Passes (let e : suc j + d ≡ j + suc d = omega arith in e) (each_passes n (suc j) d (verdict_yes j (failing_at f q k flat j) (judged_by_parts f q k flat (suc j) n) h).1 (omega (arith, l)))

  all_pass : (n j : ℕ) → ((i : ℕ) → i < j + n → Passes i) → judged_by_parts f q k flat j n ≡ Yes
  all_pass zero j g = refl
  all_pass (suc n) j g = ap (λ o. verdict_or j o (judged_by_parts f q k flat (suc j) n)) (g j (omega arith)) ∙ all_pass n (suc j) (λ i l. g i (omega (arith, l)))

  -- every trace behaves in the system that asks nothing
  free : Behaves f.scope.enumerations (calls_in f.scope) (free_script f).systems (k + 1) 0 flat
  free =
      behaves (omega arith) (λ j l. suits j (omega (arith, l)))
      (record { init = refl; trans = λ j l. refl; inv = λ j l. refl }) no_subsystems

  -- the system's own inv is the second test of each step
  inv_passed : (j : ℕ) → first_failing (part_tests f flat j) ≡ None → HeldBetween f flat (λ p. p.inv) j j ps
  inv_passed zero h = are_held f flat (λ p. p.inv) 0 0 ps (passed _ _ _ (passed _ _ _ h).1).0
  inv_passed (suc j) h = are_held f flat (λ p. p.inv) (suc j) (suc j) ps (passed _ _ _ (passed _ _ _ h).1).0

  is_trace : ((j : ℕ) → j ≤ k → first_failing (part_tests f flat j) ≡ None) → IsFlatTrace f (k + 1) flat
  is_trace g = record {
    suits = λ j l. suits j (omega (arith, l));
    parts = parts_hold f flat (k + 1) ps
        (are_held f flat (λ p. p.init) 0 0 ps (passed _ _ _ (g 0 (omega arith))).0)
        (λ j l. subst (λ i. HeldBetween f flat (λ p. p.trans) j i ps) (next_is j) (are_held f flat (λ p. p.trans) j (suc j) ps (passed _ _ _ (g (suc j) (omega (arith, l)))).0))
        (λ j l. inv_passed j (g j (omega (arith, l))));
  }

  trace_passes : IsFlatTrace f (k + 1) flat → (j : ℕ) → j ≤ k → first_failing (part_tests f flat j) ≡ None
  trace_passes t zero l =
      passes _ _ _ (are_true f flat (λ p. p.init) 0 0 ps (init_held f flat (k + 1) ps t.parts))
      (passes _ _ _ (are_true f flat (λ p. p.inv) 0 0 ps (inv_held f flat (k + 1) 0 (omega (arith, l)) ps t.parts)) refl)
  trace_passes t (suc j) l =
      passes _ _ _ (are_true f flat (λ p. p.trans) j (suc j) ps (subst (λ i. HeldBetween f flat (λ p. p.trans) j i ps) (sym (next_is j)) (trans_held f flat (k + 1) j (omega (arith, l)) ps t.parts)))
      (passes _ _ _ (are_true f flat (λ p. p.inv) (suc j) (suc j) ps (inv_held f flat (k + 1) (suc j) (omega (arith, l)) ps t.parts)) refl)

  step_passes : judged_by_parts f q k flat 0 (suc k) ≡ Yes → (j : ℕ) → j ≤ k
      → (first_failing (part_tests f flat j) ≡ None) × (first_failing (query_tests (free_script f) q k (is_reached_before (free_script f) flat j) j (flat j)) ≡ None)
  step_passes h j l = neither _ _ (subst Passes (from_start j) (each_passes (suc k) 0 j h (omega (arith, l))))

  yes_meets : judged_by_parts f q k flat 0 (suc k) ≡ Yes → MeetsFlat f q k flat
  yes_meets h =
      let m = meets (free_script f) q k flat free (λ j l. (step_passes h j l).1) in
      record { behaves = is_trace (λ j l. (step_passes h j l).0); assumptions = m.assumptions; currents = m.currents; reached = m.reached; reached_last = m.reached_last }

  meets_yes : MeetsFlat f q k flat → judged_by_parts f q k flat 0 (suc k) ≡ Yes
  meets_yes m =
      let query = asks (free_script f) q k flat (record { behaves = free; assumptions = m.assumptions; currents = m.currents; reached = m.reached; reached_last = m.reached_last }) in
      all_pass (suc k) 0 (λ i l. both_none _ _ (trace_passes m.behaves i (omega (arith, l))) (query i (omega (arith, l))))

  pub yes_is_met : (judged_by_parts f q k flat 0 (suc k) ≡ Yes) ↔ MeetsFlat f q k flat
  yes_is_met = (yes_meets, meets_yes)

-- ---- traces that are lists

fit_at : (es : List Enumeration) (ss : List Sort) (vs : List Datum) (v : ℕ) (s : Sort) → Fit es ss vs → slice_get ss v ≡ Some s → IsOf es s (at vs v)
fit_at es [] vs v s f h = cc
fit_at es (t ∷ ss) [] v s f h = absurd f
fit_at es (t ∷ ss) (x ∷ vs) zero s f h = let e : t ≡ s = cc in subst (λ u. IsOf es u x) e f.0
fit_at es (t ∷ ss) (x ∷ vs) (suc v) s f h = fit_at es ss vs v s f.1 h

pub stated_suit : (f : PlainFlatSystem) (envs : List (List Datum)) → IsStatedTrace f envs → (j : ℕ) → j ≤ length envs - 1 → Suits f.scope.enumerations (sorts_of f.variables) (trace_of envs j)
stated_suit f envs stated j l =
    let env = slice_index_or envs j [] in
    let some = stated.some in
    record { each = λ v s h. fit_at f.scope.enumerations (sorts_of f.variables) env v s (all_at (Fits f) envs j env [] stated.fit (omega (arith, l, some)) refl) h }

-- the verdict on the steps, of the same system, query and trace
pub verdict_is : (system f : PlainFlatSystem) (query q : Query) (steps envs : List (List Datum)) → system ≡ f → query ≡ q → steps ≡ envs → 1 ≤ length envs
    → judged_by_parts system query (length steps - 1) (trace_of steps) 0 (length steps) ≡ judged_by_parts f q (length envs - 1) (trace_of envs) 0 (suc (length envs - 1))
verdict_is system f query q steps envs a b c some =
    ap (λ x. judged_by_parts x query (length steps - 1) (trace_of steps) 0 (length steps)) a
    ∙ ap (λ x. judged_by_parts f x (length steps - 1) (trace_of steps) 0 (length steps)) b
    ∙ ap (λ x. judged_by_parts f q (length x - 1) (trace_of x) 0 (length x)) c
    ∙ ap (λ n. judged_by_parts f q (length envs - 1) (trace_of envs) 0 n) (let n : length envs ≡ suc (length envs - 1) = omega (arith, some) in n)

pub if_ok_more : {T E : Type 0} (P Q : T → Type 0) (r : Result T E) → ((v : T) → P v → Q v) → IfOk r P → IfOk r Q
if_ok_more P Q (Ok v) f h = f v h
if_ok_more P Q (Err e) f h = tt
