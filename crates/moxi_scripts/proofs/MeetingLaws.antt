-- A trace on which the checked system behaves meets a query where nothing fails of what the query asks of its steps, and nowhere else.
use Rattle.std.proofs.Common.{◌≡◌, ℕ, zero, suc, ◌<◌, ◌≤◌, ◌+◌, ◌||◌, Bool, true, false, cond, eqb, Option, None, Some, List, [], ◌∷◌, length, refl, sym, ap, ◌∙◌, subst, arith}
use Rattle.std.specs.Prelude.{slice_index_or}
use Rattle.std.specs.List.{AllByRecursion, Any, list_all, list_any}
use Rattle.std.proofs.lemmas.Bool.{and_parts}
use Rattle.std.proofs.lemmas.Bool.Decides.{nat_tests}
use Rattle.text_core.specs.declared.verdict.Clause.{Clause}
use Rattle.moxi_terms.specs.declared.data.Datum.{Datum}
use Rattle.moxi_terms.specs.declared.data.Datum.TheVariants as datum
use Rattle.moxi_terms.specs.Operators.{truth_of}
use Rattle.moxi_terms.specs.Tree.{Tree}
use Rattle.moxi_terms.specs.Value.{Values, term_value}
use Rattle.moxi_scripts.specs.declared.script.Query.{Query}
use Rattle.moxi_scripts.specs.Script.{PlainScript, calls_in, formula_at}
use Rattle.moxi_scripts.specs.Asking.{query_tests}
use Rattle.moxi_scripts.specs.Behaviour.{Behaves, Holds, Trace}
use Rattle.moxi_scripts.specs.Meeting.{MeetsQuery, Reaches, all_reached, assumptions_hold, currents_hold, ends_reached, first_failing, is_reached_before, is_true, reaches}
use Rattle.moxi_scripts.specs.laws.WholeNames.{and_both}

-- LISTS OF TESTS

all_held : (P : ℕ → Bool) (Q : ℕ → Type 0) (xs : List ℕ) → ((x : ℕ) → P x ≡ true → Q x) → list_all P xs ≡ true → AllByRecursion Q xs
all_held P Q [] f h = tt
all_held P Q (x ∷ xs) f h = let p = and_parts (P x) (list_all P xs) h in (f x p.0, all_held P Q xs f p.1)

all_true : (P : ℕ → Bool) (Q : ℕ → Type 0) (xs : List ℕ) → ((x : ℕ) → Q x → P x ≡ true) → AllByRecursion Q xs → list_all P xs ≡ true
all_true P Q [] f h = refl
all_true P Q (x ∷ xs) f h = and_both (P x) (list_all P xs) (f x h.0) (all_true P Q xs f h.1)

some_held : (P : ℕ → Bool) (Q : ℕ → Type 0) (xs : List ℕ) → ((x : ℕ) → P x ≡ true → Q x) → list_any P xs ≡ true → Any Q xs
some_held P Q [] f h = absurd (cc)
some_held P Q (x ∷ xs) f h = by_first (P x) refl (some_held P Q xs f)
  where
    by_first : (b : Bool) → P x ≡ b → (list_any P xs ≡ true → Any Q xs) → Any Q (x ∷ xs)
    by_first true e rest = (0, x, omega arith, refl, f x e)
    by_first false e rest = let r = rest (sym (ap (λ b. b || list_any P xs) e) ∙ h) in (suc r.0, r.1, omega (arith, r.2), r.3, r.4)

pub or_second : (a b : Bool) → b ≡ true → (a || b) ≡ true
or_second true b h = refl
or_second false b h = h

true_at : (P : ℕ → Bool) (xs : List ℕ) (k x : ℕ) → k < length xs → slice_index_or xs k x ≡ x → P x ≡ true → list_any P xs ≡ true
true_at P [] k x l e h = absurd (omega (arith, l))
true_at P (y ∷ ys) zero x l e h = ap (λ b. b || list_any P ys) (ap P e ∙ h)
true_at P (y ∷ ys) (suc k) x l e h = or_second (P y) (list_any P ys) (true_at P ys k x (omega (arith, l)) e h)

-- FORMULAS OF TRUTH VALUES

pub true_is : (d : Datum) → truth_of d ≡ true → d ≡ datum.Truth true
true_is (datum.Truth b) h = ap datum.Truth h
true_is (datum.Bits w) h = absurd (cc)
true_is (datum.Constant n i) h = absurd (cc)

next_step : (j n : ℕ) → j < suc n → (eqb j n ≡ false) → j < n
next_step j n l e = grind (arith, nat_tests)

same_step : (j n : ℕ) → eqb j n ≡ true → j ≡ n
same_step j n e = grind (arith, nat_tests)

step_is_itself : (n : ℕ) → eqb n n ≡ true
step_is_itself n = grind (arith, nat_tests)

-- of three or four tests each passes
pub passed : (b : Bool) (c : Clause) (o : Option Clause) → cond b o (Some c) ≡ None → (b ≡ true) × (o ≡ None)
passed true c o h = (refl, h)
passed false c o h = absurd (cc)

pub passes : (b : Bool) (c : Clause) (o : Option Clause) → b ≡ true → o ≡ None → cond b o (Some c) ≡ None
passes true c o e h = h
passes false c o e h = absurd (cc)

module _ (s : PlainScript) where
  holds : (now : Values) (t : Tree) → is_true s now now t ≡ true → Holds (calls_in s.scope) now now t
  holds now t h = true_is (term_value (calls_in s.scope) now now [] t) h

  is_held : (now : Values) (t : Tree) → Holds (calls_in s.scope) now now t → is_true s now now t ≡ true
  is_held now t h = ap truth_of h

  module _ (trace : Trace) where
    -- a formula that is reached before step n is reached at a step before it
    before_held : (n r : ℕ) → is_reached_before s trace n r ≡ true → (j : ℕ) × (j < n) × Reaches s trace j r
    before_held zero r h = absurd (cc)
    before_held (suc n) r h = by_step (is_reached_before s trace n r) refl (before_held n r)
      where
        by_step : (b : Bool) → is_reached_before s trace n r ≡ b → (is_reached_before s trace n r ≡ true → (j : ℕ) × (j < n) × Reaches s trace j r) → (j : ℕ) × (j < suc n) × Reaches s trace j r
        by_step true e rest = let p = rest e in (p.0, omega (arith, p.1), p.2)
        by_step false e rest = (n, omega arith, holds (trace n) (formula_at s.check.reachables r) (sym (ap (λ b. b || reaches s (trace n) r) e) ∙ h))

    before_true : (n r j : ℕ) → j < n → Reaches s trace j r → is_reached_before s trace n r ≡ true
    before_true zero r j l h = absurd (omega (arith, l))
    before_true (suc n) r j l h = by_step (eqb j n) refl (λ l. before_true n r j l h)
      where
        by_step : (b : Bool) → eqb j n ≡ b → (j < n → is_reached_before s trace n r ≡ true) → is_reached_before s trace (suc n) r ≡ true
        by_step true e rest = or_second (is_reached_before s trace n r) (reaches s (trace n) r) (is_held (trace n) (formula_at s.check.reachables r) (subst (λ i. Reaches s trace i r) (same_step j n e) h))
        by_step false e rest = ap (λ b. b || reaches s (trace n) r) (rest (next_step j n l e))

    module _ (q : Query) (k : ℕ) where
      abbrev before : ℕ → ℕ → Bool
      before j = is_reached_before s trace j

      -- the tests of a step
      record PassesAt (j : ℕ) : Type 0 where
        pub assumptions : assumptions_hold s q (trace j) ≡ true
        pub currents : j ≡ 0 → currents_hold s q (trace 0) ≡ true
        pub ends : ends_reached s q k (before j) j (trace j) ≡ true

      tests_passed : (j : ℕ) → first_failing (query_tests s q k (before j) j (trace j)) ≡ None → PassesAt j
      tests_passed zero h =
          let a = passed _ _ _ h in
          let b = passed _ _ _ a.1 in
          let c = passed _ _ _ b.1 in
          record { assumptions = a.0; currents = λ e. b.0; ends = c.0 }
      tests_passed (suc j) h =
          let a = passed _ _ _ h in
          let c = passed _ _ _ a.1 in
          record { assumptions = a.0; currents = λ e. absurd (omega (arith, e)); ends = c.0 }

      tests_pass : (j : ℕ) → PassesAt j → first_failing (query_tests s q k (before j) j (trace j)) ≡ None
      tests_pass zero p = passes _ _ _ p.assumptions (passes _ _ _ (p.currents refl) (passes _ _ _ p.ends refl))
      tests_pass (suc j) p = passes _ _ _ p.assumptions (passes _ _ _ p.ends refl)

      pub meets : Behaves s.scope.enumerations (calls_in s.scope) s.systems (k + 1) s.check.system trace
          → ((j : ℕ) → j ≤ k → first_failing (query_tests s q k (before j) j (trace j)) ≡ None) → MeetsQuery s q k trace
      meets can f =
          let last = tests_passed k (f k (omega arith)) in
          let all : all_reached s q (before k) (trace k) ≡ true = sym (ap (λ b. cond b (all_reached s q (before k) (trace k)) true) (step_is_itself k)) ∙ last.ends in
          let reached = and_parts (list_all (before (suc k)) q.reachables) (list_any (reaches s (trace k)) q.reachables) all in
          record {
            behaves = can;
            assumptions = λ j l.
                all_held (λ a. is_true s (trace j) (trace j) (formula_at s.check.assumptions a)) (λ a. Holds (calls_in s.scope) (trace j) (trace j) (formula_at s.check.assumptions a)) q.assumptions
                (λ a h. holds (trace j) (formula_at s.check.assumptions a) h) (tests_passed j (f j l)).assumptions;
            currents =
                all_held (λ c. is_true s (trace 0) (trace 0) (formula_at s.check.currents c)) (λ c. Holds (calls_in s.scope) (trace 0) (trace 0) (formula_at s.check.currents c)) q.currents
                (λ c h. holds (trace 0) (formula_at s.check.currents c) h) ((tests_passed 0 (f 0 (omega arith))).currents refl);
            reached =
                all_held (before (suc k)) (λ r. (j : ℕ) × (j ≤ k) × Reaches s trace j r) q.reachables
                (λ r h. let p = before_held (suc k) r h in (p.0, omega (arith, p.1), p.2)) reached.0;
            reached_last = some_held (reaches s (trace k)) (Reaches s trace k) q.reachables (λ r h. holds (trace k) (formula_at s.check.reachables r) h) reached.1;
          }

      ends_true : (j : ℕ) → MeetsQuery s q k trace → ends_reached s q k (before j) j (trace j) ≡ true
      ends_true j m = by_last (eqb k j) refl
        where
          by_last : (b : Bool) → eqb k j ≡ b → cond b (all_reached s q (before j) (trace j)) true ≡ true
          by_last false e = refl
          by_last true e = subst (λ i. all_reached s q (before i) (trace i) ≡ true) (same_step k j e)
              (and_both (list_all (before (suc k)) q.reachables) (list_any (reaches s (trace k)) q.reachables)
              (all_true (before (suc k)) (λ r. (i : ℕ) × (i ≤ k) × Reaches s trace i r) q.reachables (λ r h. before_true (suc k) r h.0 (omega (arith, h.1)) h.2) m.reached)
              (true_at (reaches s (trace k)) q.reachables m.reached_last.0 m.reached_last.1 m.reached_last.2 m.reached_last.3
              (is_held (trace k) (formula_at s.check.reachables m.reached_last.1) m.reached_last.4)))

      pub asks : MeetsQuery s q k trace → (j : ℕ) → j ≤ k → first_failing (query_tests s q k (before j) j (trace j)) ≡ None
      asks m j l = tests_pass j (record {
        assumptions =
            all_true (λ a. is_true s (trace j) (trace j) (formula_at s.check.assumptions a)) (λ a. Holds (calls_in s.scope) (trace j) (trace j) (formula_at s.check.assumptions a)) q.assumptions
            (λ a h. is_held (trace j) (formula_at s.check.assumptions a) h) (m.assumptions j l);
        currents = λ e.
            all_true (λ c. is_true s (trace 0) (trace 0) (formula_at s.check.currents c)) (λ c. Holds (calls_in s.scope) (trace 0) (trace 0) (formula_at s.check.currents c)) q.currents
            (λ c h. is_held (trace 0) (formula_at s.check.currents c) h) m.currents;
        ends = ends_true j m;
      })
