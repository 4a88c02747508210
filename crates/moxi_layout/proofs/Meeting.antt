-- What the latches of a query say of a trace, and that its bad line tells whether the trace meets it.
use Rattle.std.proofs.Common.{◌≡◌, ℕ, zero, suc, ◌≤◌, Bool, true, false, not, ◌&&◌, ◌||◌, cond, List, [], ◌∷◌, ◌++◌, map, drop, refl, sym, ap, ◌∙◌, subst, arith, inl, inr, ◌⊎◌}
use Rattle.std.specs.Prelude.{slice_index_or, Any}
use Rattle.std.specs.List.{AllByRecursion, list_all, list_any}
use Rattle.std.proofs.lemmas.Bool.{and_parts, and_from}
use Rattle.moxi_scripts.specs.declared.script.Query.{Query}
use Rattle.moxi_scripts.specs.Script.{calls_in, formula_at}
use Rattle.moxi_terms.specs.Value.{Values}
use Rattle.moxi_scripts.specs.Behaviour.{Holds, Trace}
use Rattle.moxi_flat.specs.FlatMeeting.{ReachesFlat}
use Rattle.moxi_flat.specs.FlatSystem.{PlainFlatSystem}
use Rattle.moxi_lines.specs.Lines.{has_conditions}
use Rattle.moxi_lines.specs.Constraints.{is_true}
use Rattle.moxi_layout.specs.Skeleton.{has_several}
use Rattle.moxi_layout.specs.Layout.{held_before, held_now, is_met, is_reached, latch_inits, latch_nexts, reached_before, reached_now, reached_upto}
use Rattle.moxi_layout.proofs.Lists.{all_any, all_tests, all_weaken, any_tests, tests_all, tests_any}
use Rattle.moxi_layout.proofs.Terms.{holds_from, holds_to}

-- frame 0 is the first one
abbrev pub is_start : ℕ → Bool
is_start zero = true
is_start (suc j) = false

le_cases : (i j : ℕ) → i ≤ suc j → (i ≤ j) ⊎ (i ≡ suc j)
le_cases zero j h = inl (omega arith)
le_cases (suc i) zero h = inr (omega (arith, h))
le_cases (suc i) (suc j) h = elim (le_cases i j (omega (arith, h))) [ inl a ↦ inl (omega (arith, a)) | inr e ↦ inr (ap suc e) ]

-- without conditions there is no latch, and nothing to hold
held_step : (us cs : List ℕ) (c : Bool) (rest : List Bool) → (us ≡ [] → cs ≡ [] → c ≡ true)
    → cond (has_conditions us cs) (slice_index_or (cond (has_conditions us cs) (c ∷ []) [] ++ rest) 0 true) true ≡ c
held_step [] [] c rest h = sym (h refl refl)
held_step [] (x ∷ cs) c rest h = refl
held_step (x ∷ us) [] c rest h = refl
held_step (x ∷ us) (y ∷ cs) c rest h = refl

reached_step : (h c : Bool) (rest : List Bool) → cond h (drop 1 (cond h (c ∷ []) [] ++ rest)) (cond h (c ∷ []) [] ++ rest) ≡ rest
reached_step true c rest = refl
reached_step false c rest = refl

both_none : {X : Type 0} (p q : X → Bool) (us cs : List X) → us ≡ [] → cs ≡ [] → (list_all p us && list_all q cs) ≡ true
both_none p q us cs a c = ap (λ xs. list_all p xs && list_all q cs) a ∙ ap (λ xs. list_all q xs) c

none_held : (us cs : List ℕ) (ls : List Bool) → us ≡ [] → cs ≡ [] → cond (has_conditions us cs) (slice_index_or ls 0 true) true ≡ true
none_held us cs ls a c =
    ap (λ xs. cond (has_conditions xs cs) (slice_index_or ls 0 true) true) a ∙ ap (λ xs. cond (has_conditions [] xs) (slice_index_or ls 0 true) true) c

or_intro : (a b : Bool) → (a ≡ true) ⊎ (b ≡ true) → (a || b) ≡ true
or_intro true b h = refl
or_intro false b h = elim h [ inl e ↦ absurd (cc) | inr e ↦ e ]

or_split : (a b : Bool) → (a || b) ≡ true → (a ≡ true) ⊎ (b ≡ true)
or_split true b h = inl refl
or_split false b h = inr h

reached_map : (f : PlainFlatSystem) (now : Values) (b : ℕ → Bool) (rs : List ℕ) → reached_upto f now rs (map b rs) ≡ map (λ r. b r || is_reached f now r) rs
reached_map f now b [] = refl
reached_map f now b (r ∷ rs) = ap (λ z. (b r || is_reached f now r) ∷ z) (reached_map f now b rs)

all_map_true : {X : Type 0} (b : X → Bool) (xs : List X) → list_all (λ c. c) (map b xs) ≡ true → AllByRecursion (λ x. b x ≡ true) xs
all_map_true b [] h = tt
all_map_true b (x ∷ xs) h = let p = and_parts (b x) _ h in (p.0, all_map_true b xs p.1)

map_all_true : {X : Type 0} (b : X → Bool) (xs : List X) → AllByRecursion (λ x. b x ≡ true) xs → list_all (λ c. c) (map b xs) ≡ true
map_all_true b [] a = refl
map_all_true b (x ∷ xs) a = and_from (b x) _ a.0 (map_all_true b xs a.1)

-- the conditions of a query hold at each step up to k, and its formulas are reached
pub record IsQueryMet (f : PlainFlatSystem) (q : Query) (trace : Trace) (k : ℕ) : Type 0 where
  pub assumptions : (j : ℕ) → j ≤ k → AllByRecursion (λ a. Holds (calls_in f.scope) (trace j) (trace j) (formula_at f.assumptions a)) q.assumptions
  pub currents : AllByRecursion (λ c. Holds (calls_in f.scope) (trace 0) (trace 0) (formula_at f.currents c)) q.currents
  pub reached : AllByRecursion (λ r. (j : ℕ) × (j ≤ k) × ReachesFlat f trace j r) q.reachables
  pub reached_last : Any (ReachesFlat f trace k) q.reachables

-- the latches' values at each step
abbrev pub latches_at : PlainFlatSystem → Query → Trace → ℕ → List Bool
latches_at f q trace zero = latch_inits q
latches_at f q trace (suc j) = latch_nexts f (is_start j) (trace j) q (latches_at f q trace j)

module _ (f : PlainFlatSystem) (q : Query) (trace : Trace) where
  -- ---- conditions

  abbrev assumed : ℕ → ℕ → Bool
  assumed j a = is_true f.scope (trace j) (trace j) (formula_at f.assumptions a)

  abbrev current : ℕ → ℕ → Bool
  current j c = not (is_start j) || is_true f.scope (trace j) (trace j) (formula_at f.currents c)

  abbrev condition : ℕ → Bool
  condition j = list_all (assumed j) q.assumptions && list_all (current j) q.currents

  abbrev held : ℕ → Bool
  held j = held_now f (is_start j) (trace j) q (latches_at f q trace j)

  before_zero : held_before q (latches_at f q trace 0) ≡ true
  before_zero = held_step q.assumptions q.currents true _ (λ a c. refl)

  before_suc : (j : ℕ) → held_before q (latches_at f q trace (suc j)) ≡ held j
  before_suc j =
      held_step q.assumptions q.currents (held j) _ (λ a c.
      and_from (held_before q (latches_at f q trace j)) (condition j) (none_held q.assumptions q.currents (latches_at f q trace j) a c) (both_none (assumed j) (current j) q.assumptions q.currents a c))

  all_held : (j : ℕ) → held j ≡ true → (i : ℕ) → i ≤ j → condition i ≡ true
  all_held zero h i l = let e : 0 ≡ i = omega (arith, l) in subst (λ n. condition n ≡ true) e (and_parts (held_before q (latches_at f q trace 0)) (condition 0) h).1
  all_held (suc j) h i l =
      let p = and_parts (held_before q (latches_at f q trace (suc j))) (condition (suc j)) h in
      elim (le_cases i j l) [
        | inl a ↦ all_held j (sym (before_suc j) ∙ p.0) i a
        | inr e ↦ subst (λ n. condition n ≡ true) (sym e) p.1
      ]

  held_all : (j : ℕ) → ((i : ℕ) → i ≤ j → condition i ≡ true) → held j ≡ true
  held_all zero h = and_from (held_before q (latches_at f q trace 0)) (condition 0) before_zero (h 0 (omega arith))
  held_all (suc j) h =
      and_from (held_before q (latches_at f q trace (suc j))) (condition (suc j)) (before_suc j ∙ held_all j (λ i l. h i (omega (arith, l)))) (h (suc j) (omega arith))

  condition_zero : AllByRecursion (λ a. Holds (calls_in f.scope) (trace 0) (trace 0) (formula_at f.assumptions a)) q.assumptions
      → AllByRecursion (λ c. Holds (calls_in f.scope) (trace 0) (trace 0) (formula_at f.currents c)) q.currents → condition 0 ≡ true
  condition_zero a c =
      and_from (list_all (assumed 0) q.assumptions) (list_all (current 0) q.currents)
      (all_tests (assumed 0) q.assumptions (all_weaken _ (λ x. assumed 0 x ≡ true) q.assumptions (λ x h. holds_to f.scope (trace 0) (trace 0) (formula_at f.assumptions x) h) a))
      (all_tests (current 0) q.currents (all_weaken _ (λ x. current 0 x ≡ true) q.currents (λ x h. holds_to f.scope (trace 0) (trace 0) (formula_at f.currents x) h) c))

  condition_suc : (j : ℕ) → AllByRecursion (λ a. Holds (calls_in f.scope) (trace (suc j)) (trace (suc j)) (formula_at f.assumptions a)) q.assumptions → condition (suc j) ≡ true
  condition_suc j a =
      and_from (list_all (assumed (suc j)) q.assumptions) (list_all (current (suc j)) q.currents)
      (all_tests (assumed (suc j)) q.assumptions (all_weaken _ (λ x. assumed (suc j) x ≡ true) q.assumptions (λ x h. holds_to f.scope (trace (suc j)) (trace (suc j)) (formula_at f.assumptions x) h) a))
      (all_tests (current (suc j)) q.currents (all_any (λ x. current (suc j) x ≡ true) q.currents (λ x. refl)))

  -- ---- formulas that are reached

  abbrev seen_at : List ℕ → ℕ → List Bool
  seen_at rs zero = cond (has_several rs) (map (λ r. false) rs) []
  seen_at rs (suc j) = cond (has_several rs) (reached_upto f (trace j) rs (seen_at rs j)) []

  seen_is : (j : ℕ) → reached_before q (latches_at f q trace j) ≡ seen_at q.reachables j
  seen_is zero = reached_step (has_conditions q.assumptions q.currents) true (seen_at q.reachables 0)
  seen_is (suc j) =
      reached_step (has_conditions q.assumptions q.currents) (held j) (cond (has_several q.reachables) (reached_now f (trace j) q (latches_at f q trace j)) [])
      ∙ ap (λ s. cond (has_several q.reachables) (reached_upto f (trace j) q.reachables s) []) (seen_is j)

  abbrev upto : ℕ → ℕ → Bool
  upto zero r = is_reached f (trace 0) r
  upto (suc j) r = upto j r || is_reached f (trace (suc j)) r

  reaches : (j r : ℕ) → is_reached f (trace j) r ≡ true → ReachesFlat f trace j r
  reaches j r h = holds_from f.scope (trace j) (trace j) (formula_at f.reachables r) h

  reaches_back : (j r : ℕ) → ReachesFlat f trace j r → is_reached f (trace j) r ≡ true
  reaches_back j r h = holds_to f.scope (trace j) (trace j) (formula_at f.reachables r) h

  upto_from : (j r : ℕ) → upto j r ≡ true → (i : ℕ) × (i ≤ j) × ReachesFlat f trace i r
  upto_from zero r h = (0, omega arith, reaches 0 r h)
  upto_from (suc j) r h =
      elim (or_split (upto j r) (is_reached f (trace (suc j)) r) h) [
        | inl e ↦ let x = upto_from j r e in (x.0, omega (arith, x.1), x.2)
        | inr e ↦ (suc j, omega arith, reaches (suc j) r e)
      ]

  upto_to : (j r i : ℕ) → i ≤ j → ReachesFlat f trace i r → upto j r ≡ true
  upto_to zero r i l h = let e : i ≡ 0 = omega (arith, l) in reaches_back 0 r (subst (λ n. ReachesFlat f trace n r) e h)
  upto_to (suc j) r i l h =
      or_intro (upto j r) (is_reached f (trace (suc j)) r) (elim (le_cases i j l) [
        | inl a ↦ inl (upto_to j r i a h)
        | inr e ↦ inr (reaches_back (suc j) r (subst (λ n. ReachesFlat f trace n r) e h))
      ])

  -- with several formulas, the latches and the formulas together tell which were reached up to a step
  several : (r s : ℕ) (rs : List ℕ) (j : ℕ) → reached_upto f (trace j) (r ∷ s ∷ rs) (seen_at (r ∷ s ∷ rs) j) ≡ map (upto j) (r ∷ s ∷ rs)
  several r s rs zero = reached_map f (trace 0) (λ x. false) (r ∷ s ∷ rs)
  several r s rs (suc j) =
      ap (λ b. reached_upto f (trace (suc j)) (r ∷ s ∷ rs) b) (several r s rs j) ∙ reached_map f (trace (suc j)) (upto j) (r ∷ s ∷ rs)

  none_seen : (r j : ℕ) → seen_at (r ∷ []) j ≡ []
  none_seen r zero = refl
  none_seen r (suc j) = refl

  abbrev AreReached : ℕ → List ℕ → Type 0
  AreReached k rs = AllByRecursion (λ r. (j : ℕ) × (j ≤ k) × ReachesFlat f trace j r) rs

  reached_from : (rs : List ℕ) (k : ℕ) → list_all (λ b. b) (reached_upto f (trace k) rs (seen_at rs k)) ≡ true → Any (ReachesFlat f trace k) rs → AreReached k rs
  reached_from [] k h a = tt
  reached_from (r ∷ []) k h a =
      let e : list_any (is_reached f (trace k)) (r ∷ []) ≡ true = any_tests (is_reached f (trace k)) (ReachesFlat f trace k) (r ∷ []) (reaches_back k) a in
      ((k, omega arith, elim (or_split (is_reached f (trace k) r) false e) [ inl x ↦ reaches k r x | inr x ↦ absurd (cc) ]), tt)
  reached_from (r ∷ s ∷ rs) k h a =
      all_weaken (λ x. upto k x ≡ true) (λ x. (j : ℕ) × (j ≤ k) × ReachesFlat f trace j x) (r ∷ s ∷ rs) (upto_from k) (all_map_true (upto k) (r ∷ s ∷ rs) (ap (list_all (λ b. b)) (sym (several r s rs k)) ∙ h))

  reached_to : (rs : List ℕ) (k : ℕ) → AreReached k rs → Any (ReachesFlat f trace k) rs → list_all (λ b. b) (reached_upto f (trace k) rs (seen_at rs k)) ≡ true
  reached_to [] k r a = refl
  reached_to (r ∷ []) k h a =
      let e : list_any (is_reached f (trace k)) (r ∷ []) ≡ true = any_tests (is_reached f (trace k)) (ReachesFlat f trace k) (r ∷ []) (reaches_back k) a in
      ap (λ b. list_all (λ c. c) (reached_upto f (trace k) (r ∷ []) b)) (none_seen r k)
      ∙ and_from (is_reached f (trace k) r) true (elim (or_split (is_reached f (trace k) r) false e) [ inl x ↦ x | inr x ↦ absurd (cc) ]) refl
  reached_to (r ∷ s ∷ rs) k h a =
      ap (list_all (λ b. b)) (several r s rs k)
      ∙ map_all_true (upto k) (r ∷ s ∷ rs) (all_weaken (λ x. (j : ℕ) × (j ≤ k) × ReachesFlat f trace j x) (λ x. upto k x ≡ true) (r ∷ s ∷ rs) (λ x y. upto_to k x y.0 y.1 y.2) h)

  -- ---- the query

  abbrev all_b : ℕ → Bool
  all_b k = list_all (λ b. b) (reached_now f (trace k) q (latches_at f q trace k))

  abbrev any_b : ℕ → Bool
  any_b k = list_any (is_reached f (trace k)) q.reachables

  pub met_from : (k : ℕ) → is_met f (is_start k) (trace k) q (latches_at f q trace k) ≡ true → IsQueryMet f q trace k
  met_from k h =
      let a = and_parts (held k) (all_b k && any_b k) h in
      let b = and_parts (all_b k) (any_b k) a.1 in
      let conditions = all_held k a.0 in
      let last = tests_any (is_reached f (trace k)) (ReachesFlat f trace k) q.reachables (reaches k) b.1 in
      record {
        assumptions = λ j l.
            all_weaken (λ x. assumed j x ≡ true) _ q.assumptions (λ x e. holds_from f.scope (trace j) (trace j) (formula_at f.assumptions x) e)
            (tests_all (assumed j) q.assumptions (and_parts (list_all (assumed j) q.assumptions) (list_all (current j) q.currents) (conditions j l)).0);
        currents = all_weaken (λ x. current 0 x ≡ true) _ q.currents (λ x e. holds_from f.scope (trace 0) (trace 0) (formula_at f.currents x) e)
            (tests_all (current 0) q.currents (and_parts (list_all (assumed 0) q.assumptions) (list_all (current 0) q.currents) (conditions 0 (omega arith))).1);
        reached = reached_from q.reachables k (ap (λ s. list_all (λ c. c) (reached_upto f (trace k) q.reachables s)) (sym (seen_is k)) ∙ b.0) last;
        reached_last = last;
      }

  conditions_hold : (k : ℕ) → IsQueryMet f q trace k → (i : ℕ) → i ≤ k → condition i ≡ true
  conditions_hold k m zero l = condition_zero (m.assumptions 0 l) m.currents
  conditions_hold k m (suc i) l = condition_suc i (m.assumptions (suc i) l)

  pub met_to : (k : ℕ) → IsQueryMet f q trace k → is_met f (is_start k) (trace k) q (latches_at f q trace k) ≡ true
  met_to k m =
      and_from (held k) (all_b k && any_b k) (held_all k (conditions_hold k m))
      (and_from (all_b k) (any_b k) (ap (λ s. list_all (λ c. c) (reached_upto f (trace k) q.reachables s)) (seen_is k) ∙ reached_to q.reachables k m.reached m.reached_last)
      (any_tests (is_reached f (trace k)) (ReachesFlat f trace k) q.reachables (reaches_back k) m.reached_last))
