-- The judge says Yes of a trace with hidden values exactly where the flat trace with the same values meets the query.
use Rattle.std.proofs.Common.{◌≡◌, ℕ, zero, suc, ◌+◌, ◌<◌, ◌≤◌, true, Option, None, Some, List, [], ◌∷◌, refl, sym, ap, ◌∙◌, subst, arith}
use Rattle.std.specs.List.{AllByRecursion, list_all}
use Rattle.std.proofs.lemmas.Bool.{and_parts}
use Rattle.text_core.specs.declared.verdict.Clause.{Clause}
use Rattle.text_core.specs.declared.verdict.Verdict.{Verdict}
use Rattle.text_core.specs.declared.verdict.Verdict.TheVariants.{Yes}
use Rattle.moxi_terms.specs.declared.data.Datum.TheVariants as datum
use Rattle.moxi_terms.specs.Names.{or_else}
use Rattle.moxi_terms.specs.Operators.{truth_of}
use Rattle.moxi_terms.specs.Tree.{Tree}
use Rattle.moxi_terms.specs.Value.{term_value}
use Rattle.moxi_scripts.specs.declared.script.Query.{Query}
use Rattle.moxi_scripts.specs.Script.{PlainScript, calls_in}
use Rattle.moxi_scripts.specs.Asking.{query_tests, system_tests}
use Rattle.moxi_scripts.specs.Behaviour.{Holds, Trace}
use Rattle.moxi_scripts.specs.Meeting.{Hiddens, all_hold, first_failing, is_reached_before, is_true, judged_from, judged_moxi, step_tests, verdict_or}
use Rattle.moxi_scripts.specs.Valid.{IsValid}
use Rattle.moxi_scripts.specs.laws.WholeNames.{and_both}
use Rattle.moxi_scripts.proofs.AskingLaws.{first_part}
use Rattle.moxi_scripts.proofs.MeetingLaws.{asks, meets, passed, passes, true_is}
use Rattle.moxi_flat.specs.FlatSystem.{PlainPart, flat_of}
use Rattle.moxi_flat.specs.FlatMeeting.{IsFlatTrace, MeetsFlat, PartHolds}
use Rattle.moxi_flat.specs.FlatLaws.{AreTested, FlatTracesAreJudged, SuitsFlat, WritesOut}
use Rattle.moxi_flat.proofs.Scripts.{carried_flat, flat_behaves, flat_meets}
use Rattle.moxi_flat.proofs.Tested.{parts_are_tested_law}
use Rattle.text_core.proofs.Numerals.{next_is, from_start}

-- VERDICTS

pub verdict_yes : (j : ℕ) (o : Option Clause) (v : Verdict) → verdict_or j o v ≡ Yes → (o ≡ None) × (v ≡ Yes)
verdict_yes j None v h = (refl, h)
verdict_yes j (Some c) v h = absurd (cc)

module _ (s : PlainScript) (q : Query) (last : ℕ) (trace : Trace) (hs : Hiddens) where
  abbrev Passes : ℕ → Type 0
  Passes j = first_failing (step_tests s q last trace hs j) ≡ None

  -- each of so many steps from step j on passes
  each_passes : (n j d : ℕ) → judged_from s q last trace hs j n ≡ Yes → d < n → Passes (j + d)
  each_passes zero j d h l = absurd (omega (arith, l))
  each_passes (suc n) j zero h l =
      subst Passes (let e : j ≡ j + 0 = omega arith in e) (verdict_yes j (first_failing (step_tests s q last trace hs j)) (judged_from s q last trace hs (suc j) n) h).0
  each_passes (suc n) j (suc d) h l =
      subst Passes (let e : suc j + d ≡ j + suc d = omega arith in e)
      (each_passes n (suc j) d (verdict_yes j (first_failing (step_tests s q last trace hs j)) (judged_from s q last trace hs (suc j) n) h).1 (omega (arith, l)))

  all_pass : (n j : ℕ) → ((i : ℕ) → i < j + n → Passes i) → judged_from s q last trace hs j n ≡ Yes
  all_pass zero j f = refl
  all_pass (suc n) j f =
      ap (λ o. verdict_or j o (judged_from s q last trace hs (suc j) n)) (f j (omega arith))
      ∙ all_pass n (suc j) (λ i l. f i (omega (arith, l)))

-- TESTS

pub neither : (a b : Option Clause) → or_else a b ≡ None → (a ≡ None) × (b ≡ None)
neither None b h = (refl, h)
neither (Some c) b h = absurd (cc)

-- PARTS

module _ (s : PlainScript) (flat : Trace) where
  abbrev HeldBetween : (PlainPart → Tree) → ℕ → ℕ → List PlainPart → Type 0
  HeldBetween formula j k ps = AllByRecursion (λ (p : PlainPart). Holds (calls_in s.scope) (flat j) (flat k) (formula p)) ps

  are_held : (formula : PlainPart → Tree) (j k : ℕ) (ps : List PlainPart) → list_all (λ (p : PlainPart). is_true s (flat j) (flat k) (formula p)) ps ≡ true → HeldBetween formula j k ps
  are_held formula j k [] h = tt
  are_held formula j k (p ∷ ps) h =
      let both = and_parts (is_true s (flat j) (flat k) (formula p)) (list_all (λ (p : PlainPart). is_true s (flat j) (flat k) (formula p)) ps) h in
      (true_is (term_value (calls_in s.scope) (flat j) (flat k) [] (formula p)) both.0, are_held formula j k ps both.1)

  are_true : (formula : PlainPart → Tree) (j k : ℕ) (ps : List PlainPart) → HeldBetween formula j k ps → list_all (λ (p : PlainPart). is_true s (flat j) (flat k) (formula p)) ps ≡ true
  are_true formula j k [] h = refl
  are_true formula j k (p ∷ ps) h =
      and_both (is_true s (flat j) (flat k) (formula p)) (list_all (λ (p : PlainPart). is_true s (flat j) (flat k) (formula p)) ps) (ap truth_of h.0) (are_true formula j k ps h.1)

  parts_hold : (steps : ℕ) (ps : List PlainPart) → HeldBetween (λ p. p.init) 0 0 ps → ((j : ℕ) → j + 1 < steps → HeldBetween (λ p. p.trans) j (j + 1) ps) → ((j : ℕ) → j < steps → HeldBetween (λ p. p.inv) j j ps)
      → AllByRecursion (PartHolds (calls_in s.scope) steps flat) ps
  parts_hold steps [] a b c = tt
  parts_hold steps (p ∷ ps) a b c =
      (record { init = a.0; trans = λ j h. (b j h).0; inv = λ j h. (c j h).0 }, parts_hold steps ps a.1 (λ j h. (b j h).1) (λ j h. (c j h).1))

  init_held : (steps : ℕ) (ps : List PlainPart) → AllByRecursion (PartHolds (calls_in s.scope) steps flat) ps → HeldBetween (λ p. p.init) 0 0 ps
  init_held steps [] h = tt
  init_held steps (p ∷ ps) h = (h.0.init, init_held steps ps h.1)

  trans_held : (steps j : ℕ) → j + 1 < steps → (ps : List PlainPart) → AllByRecursion (PartHolds (calls_in s.scope) steps flat) ps → HeldBetween (λ p. p.trans) j (j + 1) ps
  trans_held steps j l [] h = tt
  trans_held steps j l (p ∷ ps) h = (h.0.trans j l, trans_held steps j l ps h.1)

  inv_held : (steps j : ℕ) → j < steps → (ps : List PlainPart) → AllByRecursion (PartHolds (calls_in s.scope) steps flat) ps → HeldBetween (λ p. p.inv) j j ps
  inv_held steps j l [] h = tt
  inv_held steps j l (p ∷ ps) h = (h.0.inv j l, inv_held steps j l ps h.1)

-- THE JUDGE

module _ (s : PlainScript) (w : IsValid s) (q : Query) (k : ℕ) (trace : Trace) (hs : Hiddens) (flat : Trace) (out : WritesOut s k trace hs flat) (suits : SuitsFlat s k flat) where
  abbrev ps : List PlainPart
  ps = (flat_of s).parts

  tested : (i j : ℕ) → i ≤ k → j ≤ k → AreTested s trace hs flat i j
  tested = parts_are_tested_law s w k trace hs flat out

  inv_passed : (j : ℕ) → first_failing (system_tests s trace hs j) ≡ None → all_hold s (λ x. x.inv) j j trace hs ≡ true
  inv_passed zero h = (passed _ _ _ (passed _ _ _ h).1).0
  inv_passed (suc j) h = (passed _ _ _ (passed _ _ _ h).1).0

  judged_trace : ((j : ℕ) → j ≤ k → first_failing (system_tests s trace hs j) ≡ None) → IsFlatTrace (flat_of s) (k + 1) flat
  judged_trace f = record {
    suits = λ j l. suits j (omega (arith, l));
    parts = parts_hold s flat (k + 1) ps
        (are_held s flat (λ p. p.init) 0 0 ps (sym (tested 0 0 (omega arith) (omega arith)).init ∙ (passed _ _ _ (f 0 (omega arith))).0))
        (λ j l. subst (λ i. HeldBetween s flat (λ p. p.trans) j i ps) (next_is j)
        (are_held s flat (λ p. p.trans) j (suc j) ps (sym (tested j (suc j) (omega (arith, l)) (omega (arith, l))).trans ∙ (passed _ _ _ (f (suc j) (omega (arith, l)))).0)))
        (λ j l. let le : j ≤ k = omega (arith, l) in are_held s flat (λ p. p.inv) j j ps (sym (tested j j le le).inv ∙ inv_passed j (f j le)));
  }

  inv_true : IsFlatTrace (flat_of s) (k + 1) flat → (j : ℕ) → j ≤ k → all_hold s (λ x. x.inv) j j trace hs ≡ true
  inv_true t j l = (tested j j l l).inv ∙ are_true s flat (λ p. p.inv) j j ps (inv_held s flat (k + 1) j (omega (arith, l)) ps t.parts)

  trace_passes : IsFlatTrace (flat_of s) (k + 1) flat → (j : ℕ) → j ≤ k → first_failing (system_tests s trace hs j) ≡ None
  trace_passes t zero l =
      passes _ _ _ ((tested 0 0 (omega arith) (omega arith)).init ∙ are_true s flat (λ p. p.init) 0 0 ps (init_held s flat (k + 1) ps t.parts)) (passes _ _ _ (inv_true t 0 l) refl)
  trace_passes t (suc j) l =
      passes _ _ _ ((tested j (suc j) (omega (arith, l)) l).trans ∙ are_true s flat (λ p. p.trans) j (suc j) ps
      (subst (λ i. HeldBetween s flat (λ p. p.trans) j i ps) (sym (next_is j)) (trans_held s flat (k + 1) j (omega (arith, l)) ps t.parts)))
      (passes _ _ _ (inv_true t (suc j) l) refl)

  -- the tests of a step are those of the systems and those of the query
  both_passed : (j : ℕ) → Passes s q k trace hs j → (first_failing (system_tests s trace hs j) ≡ None) × (first_failing (query_tests s q k (is_reached_before s trace j) j (trace j)) ≡ None)
  both_passed j h = neither _ _ (sym (first_part s q k trace hs j) ∙ h)

  both_pass : (j : ℕ) → first_failing (system_tests s trace hs j) ≡ None → first_failing (query_tests s q k (is_reached_before s trace j) j (trace j)) ≡ None → Passes s q k trace hs j
  both_pass j a b = first_part s q k trace hs j ∙ ap (λ o. or_else o (first_failing (query_tests s q k (is_reached_before s trace j) j (trace j)))) a ∙ b

  pub judged_meets : judged_moxi s q k trace hs ≡ Yes → MeetsFlat (flat_of s) q k flat
  judged_meets h =
      let step = λ (j : ℕ) (l : j ≤ k). both_passed j (subst (Passes s q k trace hs) (from_start j) (each_passes s q k trace hs (suc k) 0 j h (omega (arith, l)))) in
      let t = judged_trace (λ j l. (step j l).0) in
      carried_flat s w q k trace flat out.extends t (meets s trace q k (flat_behaves s w q k trace flat out.extends t) (λ j l. (step j l).1))

  pub meets_judged : MeetsFlat (flat_of s) q k flat → judged_moxi s q k trace hs ≡ Yes
  meets_judged m =
      let query = asks s trace q k (flat_meets s w q k trace flat out.extends m) in
      all_pass s q k trace hs (suc k) 0 (λ i l. both_pass i (trace_passes m.behaves i (omega (arith, l))) (query i (omega (arith, l))))

pub flat_traces_are_judged_law : FlatTracesAreJudged
flat_traces_are_judged_law s w q k trace hs flat out suits = (judged_meets s w q k trace hs flat out suits, meets_judged s w q k trace hs flat out suits)
