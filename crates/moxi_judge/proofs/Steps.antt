-- What a step's functions give, put together.
use Rattle.std.proofs.Common.{◌≡◌, ℕ, zero, suc, ◌+◌, ◌-◌, ◌<◌, ◌≤◌, ◌&&◌, ◌||◌, Bool, true, false, cond, eqb, Option, None, Some, List, [], ◌∷◌, Result, Ok, Err, drop, length, map, refl, sym, ap, ◌∙◌, subst, arith}
use Rattle.std.specs.Prelude.{OnOk, slice_index_or}
use Rattle.std.specs.List.{list_all, list_any}
use Rattle.std.proofs.lemmas.Bool.Decides.{nat_tests}
use Rattle.text_core.specs.declared.verdict.Clause.{Clause}
use Rattle.text_core.specs.declared.verdict.Verdict.{Verdict}
use Rattle.text_core.specs.declared.verdict.Verdict.TheVariants.{Yes, No}
use Rattle.moxi_terms.specs.declared.data.Datum.{Datum}
use Rattle.moxi_terms.specs.Names.{or_else}
use Rattle.moxi_terms.specs.Value.{Values, at}
use Rattle.moxi_scripts.specs.declared.script.Query.{Query}
use Rattle.moxi_scripts.specs.Script.{PlainScript}
use Rattle.moxi_scripts.proofs.Forms.{items_step}
use Rattle.moxi_scripts.specs.Asking.{query_tests}
use Rattle.moxi_scripts.specs.Behaviour.{Trace, trace_of}
use Rattle.moxi_scripts.specs.Meeting.{all_reached, ends_reached, first_failing, is_reached_before, reaches, verdict_or}
use Rattle.moxi_flat.specs.FlatSystem.{PlainFlatSystem}
use Rattle.moxi_judge.specs.FlatTests.{Remember, free_script, failing_at, judged_by_parts, later_tests, part_tests}
use Rattle.moxi_judge.proofs.Elements.{found_at}
use Rattle.text_core.proofs.Truths.{or_false as or_nothing}

-- ---- steps

before_suc : (j : ℕ) → suc j - 1 ≡ j
before_suc j = omega arith

-- the tests of a step behind another, by the values of both
pub later_is : (f : PlainFlatSystem) (envs : List (List Datum)) (step : ℕ) (a b : List Datum) → (step ≡ 0 → ⊥) → step < length envs → a ≡ slice_index_or envs (step - 1) a → b ≡ slice_index_or envs step b
    → later_tests f (at a) (at b) ≡ part_tests f (trace_of envs) step
later_is f envs zero a b n l ea eb = absurd (n refl)
later_is f envs (suc j) a b n l ea eb =
    let before : a ≡ slice_index_or envs j [] = found_at envs j a [] (omega (arith, l)) (subst (λ i. a ≡ slice_index_or envs i a) (before_suc j) ea) in
    let now : b ≡ slice_index_or envs (suc j) [] = found_at envs (suc j) b [] l eb in
    ap (λ x. later_tests f (at x) (at b)) before ∙ ap (λ x. later_tests f (trace_of envs j) (at x)) now

-- ---- reachable formulas

-- where all numbers were gone through
pub reached_end : (test reached : ℕ → Bool) (is : List ℕ) (i : ℕ) (some : Bool) → drop i is ≡ [] → list_all test (drop i is) ≡ list_all test is → (some || list_any reached (drop i is)) ≡ list_any reached is
    → some ≡ (list_all test is && list_any reached is)
reached_end test reached is i some e all any =
    sym (or_nothing some) ∙ ap (λ ns. some || list_any reached ns) (sym e) ∙ any
    ∙ ap (λ a. a && list_any reached is) (sym (sym all ∙ ap (list_all test) e))

-- of at most one formula it is enough that it is true now
pub one_reached : (before reached : ℕ → Bool) (is : List ℕ) → length is ≤ 1 → list_any reached is ≡ (list_all (λ r. before r || reached r) is && list_any reached is)
one_reached before reached [] l = refl
one_reached before reached (i ∷ []) l = by_both (before i) (reached i)
  where
    by_both : (a b : Bool) → (b || false) ≡ (((a || b) && true) && (b || false))
    by_both true true = refl
    by_both true false = refl
    by_both false true = refl
    by_both false false = refl
one_reached before reached (i ∷ j ∷ is) l = absurd (omega (arith, l))

pub same_number : (a b : ℕ) → a ≡ b → eqb a b ≡ true
same_number a b e = grind (arith, nat_tests)

-- at the last step reachable formulas are asked
pub asked_last : (s : PlainScript) (q : Query) (last : ℕ) (before : ℕ → Bool) (step : ℕ) (now : Values) → last ≡ step → all_reached s q before now ≡ ends_reached s q last before step now
asked_last s q last before step now e = sym (ap (λ b. cond b (all_reached s q before now) true) (same_number last step e))

-- ---- a test of what stands for each element, one after another

module _ {A B : Type 0} (test : B → Bool) (seen : A → B) (xs : List A) (i : ℕ) (x : A) (b : Bool) (l : i < length xs) (is : x ≡ slice_index_or xs i x)
    (kept : list_all test (map seen (drop i xs)) ≡ list_all test (map seen xs)) (tells : b ≡ test (seen x)) where
  rest_is : list_all test (map seen (drop i xs)) ≡ (b && list_all test (map seen (drop (i + 1) xs)))
  rest_is = ap (λ ys. list_all test (map seen ys)) (items_step xs i (length xs) x refl l is) ∙ ap (λ a. a && list_all test (map seen (drop (i + 1) xs))) (sym tells)

  pub all_stops : b ≡ false → false ≡ list_all test (map seen xs)
  all_stops e = sym (ap (λ a. a && list_all test (map seen (drop (i + 1) xs))) e) ∙ sym rest_is ∙ kept

  pub all_goes : b ≡ true → list_all test (map seen (drop (i + 1) xs)) ≡ list_all test (map seen xs)
  all_goes e = sym (ap (λ a. a && list_all test (map seen (drop (i + 1) xs))) e) ∙ sym rest_is ∙ kept

-- ---- the first clause that fails

-- where no clause of the parts fails it is one of the query
pub behind_parts : (f : PlainFlatSystem) (q : Query) (last : ℕ) (envs : List (List Datum)) (step : ℕ) (o : Option Clause) (env : List Datum) → step < length envs → env ≡ slice_index_or envs step env
    → o ≡ first_failing (part_tests f (trace_of envs) step) → o ≡ None
    → first_failing (query_tests (free_script f) q last (is_reached_before (free_script f) (trace_of envs) step) step (at env)) ≡ failing_at f q last (trace_of envs) step
behind_parts f q last envs step o env l is told none =
    let asked = λ (e : List Datum). first_failing (query_tests (free_script f) q last (is_reached_before (free_script f) (trace_of envs) step) step (at e)) in
    ap asked (found_at envs step env [] l is) ∙ sym (ap (λ p. or_else p (asked (slice_index_or envs step []))) (sym told ∙ none))

-- ---- what is left of the steps has the verdict of the whole

module _ (f : PlainFlatSystem) (q : Query) (last : ℕ) (trace : Trace) (whole : Verdict) (total j : ℕ) (l : j < total) (same : (n : ℕ) → j + n ≡ total → judged_by_parts f q last trace j n ≡ whole) (o : Option Clause) (told : o ≡ failing_at f q last trace j) where
  rest : (n : ℕ) → (j + 1) + n ≡ total → verdict_or j o (judged_by_parts f q last trace (suc j) n) ≡ whole
  rest n e = ap (λ p. verdict_or j p (judged_by_parts f q last trace (suc j) n)) told ∙ same (suc n) (omega (arith, e))

  pub fails_here : (c : Clause) → o ≡ Some c → No j c ≡ whole
  fails_here c e = sym (ap (λ p. verdict_or j p (judged_by_parts f q last trace (suc j) (total - (j + 1)))) e) ∙ rest (total - (j + 1)) (omega (arith, l))

  pub goes_on : o ≡ None → (n : ℕ) → (j + 1) + n ≡ total → judged_by_parts f q last trace (j + 1) n ≡ whole
  goes_on e n h = ap (λ i. judged_by_parts f q last trace i n) (let i : j + 1 ≡ suc j = omega arith in i) ∙ sym (ap (λ p. verdict_or j p (judged_by_parts f q last trace (suc j) n)) e) ∙ rest n h

  pub ends_here : o ≡ None → j + 1 ≡ total → Yes ≡ whole
  ends_here e h = sym (ap (λ p. verdict_or j p Yes) e) ∙ rest 0 (omega (arith, h))

-- marks of what was reached before the following step
pub marks_go_on : (s : PlainScript) (envs : List (List Datum)) (j : ℕ) (env : List Datum) (is : List ℕ) (marks : List Bool) → j < length envs → env ≡ slice_index_or envs j env
    → Remember (λ r. is_reached_before s (trace_of envs) j r || reaches s (at env) r) is marks → Remember (is_reached_before s (trace_of envs) (j + 1)) is marks
marks_go_on s envs j env is marks l e m =
    let here = subst (λ v. Remember (λ r. is_reached_before s (trace_of envs) j r || reaches s (at v) r) is marks) (found_at envs j env [] l e) m in
    subst (λ i. Remember (is_reached_before s (trace_of envs) i) is marks) (let n : suc j ≡ j + 1 = omega arith in n) here

pub on_ok_more : {T E : Type 0} (r : Result T E) (P Q : Type 0) → (P → Q) → OnOk r P → OnOk r Q
on_ok_more (Ok v) P Q f h = f h
on_ok_more (Err e) P Q f h = tt
