-- Runs whose states and labels are given by their numbers.
use Rattle.std.proofs.Common.{◌≡◌, ℕ, zero, suc, ◌+◌, ◌<◌, ◌≤◌, Bool, true, List, [], ◌∷◌, map, length, refl, ap, subst, arith}
use Rattle.std.specs.List.{slice_index_or, list_all}
use Rattle.smv_text.specs.Tree.{PlainSource}
use Rattle.smv_meaning.specs.declared.value.Given.{Given}
use Rattle.smv_meaning.specs.Values.{Valuation, given}
use Rattle.smv_meaning.specs.Instances.{Instance, instances_of}
use Rattle.smv_meaning.specs.Runs.{state_fits, label_fits, init_holds, invar_holds, step_holds, StepsHold, Starts, IsRunOf, is_broken, LastBreaks}
use Rattle.smv_meaning.specs.laws.Booleans.{both_true, two_true}
use Rattle.moxi_terms.specs.Value.{Values}
use Rattle.smv_script_laws.specs.Decoding.{decoded_steps}

-- so many from a number on
abbrev pub listed : (ℕ → Valuation) → ℕ → ℕ → List Valuation
listed f start zero = []
listed f start (suc n) = f start ∷ listed f (start + 1) n

pub decoded_listed : (decoded : Values → List Given) (trace : ℕ → Values) (start n : ℕ) → map given (decoded_steps decoded trace start n) ≡ listed (λ i. given (decoded (trace i))) start n
decoded_listed decoded trace start zero = refl
decoded_listed decoded trace start (suc n) = ap (λ xs. given (decoded (trace start)) ∷ xs) (decoded_listed decoded trace (start + 1) n)

pub listed_length : (f : ℕ → Valuation) (start n : ℕ) → length (listed f start n) ≡ n
listed_length f start zero = refl
listed_length f start (suc n) = ap suc (listed_length f (start + 1) n)

-- what is known of a run of k transitions
pub record Steps (t : List Instance) (states labels : ℕ → Valuation) (k : ℕ) : Type 0 where
  pub values : (i : ℕ) → i ≤ k → state_fits t (states i) ≡ true
  pub inputs : (i : ℕ) → i < k → label_fits t (labels i) ≡ true
  pub starts : init_holds t (states 0) ≡ true
  pub stays : (i : ℕ) → i ≤ k → invar_holds t (states i) ≡ true
  pub steps : (i : ℕ) → i < k → step_holds t (states i) (labels i) (states (i + 1)) ≡ true

-- ---- from numbers to lists

listed_all : (p : Valuation → Bool) (f : ℕ → Valuation) (start n : ℕ) → ((i : ℕ) → i < start + n → p (f i) ≡ true) → list_all p (listed f start n) ≡ true
listed_all p f start zero h = refl
listed_all p f start (suc n) h =
    two_true (p (f start)) (list_all p (listed f (start + 1) n)) (h start (omega arith)) (listed_all p f (start + 1) n (λ i l. h i (omega (arith, l))))

listed_steps : (t : List Instance) (states labels : ℕ → Valuation) (start n : ℕ) → ((i : ℕ) → i < start + n → step_holds t (states i) (labels i) (states (i + 1)) ≡ true)
    → StepsHold t (listed states start (suc n)) (listed labels start n)
listed_steps t states labels start zero h = tt
listed_steps t states labels start (suc n) h = (h start (omega arith), listed_steps t states labels (start + 1) n (λ i l. h i (omega (arith, l))))

pub listed_run : (t : List Instance) (states labels : ℕ → Valuation) (k : ℕ) → Steps t states labels k → IsRunOf t (listed states 0 (suc k)) (listed labels 0 k)
listed_run t states labels k s = record {
  values = listed_all (state_fits t) states 0 (suc k) (λ i l. s.values i (omega (arith, l)));
  inputs = listed_all (label_fits t) labels 0 k (λ i l. s.inputs i (omega (arith, l)));
  starts = s.starts;
  stays = listed_all (invar_holds t) states 0 (suc k) (λ i l. s.stays i (omega (arith, l)));
  steps = listed_steps t states labels 0 k (λ i l. s.steps i (omega (arith, l)));
}

pub listed_breaks : (source : PlainSource) (j : ℕ) (states : ℕ → Valuation) (start n : ℕ) → is_broken (instances_of source) j (states (start + n)) ≡ true → LastBreaks source j (listed states start (suc n))
listed_breaks source j states start zero h = let s : start + 0 ≡ start = omega arith in subst (λ i. is_broken (instances_of source) j (states i) ≡ true) s h
listed_breaks source j states start (suc n) h =
    let s : start + suc n ≡ (start + 1) + n = omega arith in
    listed_breaks source j states (start + 1) n (subst (λ i. is_broken (instances_of source) j (states i) ≡ true) s h)

-- ---- from lists to numbers

abbrev pub at : List Valuation → Valuation → ℕ → Valuation
at xs d i = slice_index_or xs i d

all_at : (p : Valuation → Bool) (xs : List Valuation) (d : Valuation) (i : ℕ) → i < length xs → list_all p xs ≡ true → p (at xs d i) ≡ true
all_at p [] d i l h = absurd (omega (arith, l))
all_at p (x ∷ xs) d zero l h = (both_true (p x) (list_all p xs) h).0
all_at p (x ∷ xs) d (suc i) l h = all_at p xs d i (omega (arith, l)) (both_true (p x) (list_all p xs) h).1

steps_long : (t : List Instance) (states labels : List Valuation) → StepsHold t states labels → length states ≡ suc (length labels)
steps_long t [] labels h = absurd h
steps_long t (s ∷ []) [] h = refl
steps_long t (s ∷ []) (l ∷ labels) h = absurd h
steps_long t (s ∷ u ∷ states) [] h = absurd h
steps_long t (s ∷ u ∷ states) (l ∷ labels) h = ap suc (steps_long t (u ∷ states) labels h.1)

steps_at : (t : List Instance) (states labels : List Valuation) (d e : Valuation) (i : ℕ) → i < length labels → StepsHold t states labels → step_holds t (at states d i) (at labels e i) (at states d (i + 1)) ≡ true
steps_at t [] labels d e i l h = absurd h
steps_at t (s ∷ []) [] d e i l h = absurd (omega (arith, l))
steps_at t (s ∷ []) (x ∷ labels) d e i l h = absurd h
steps_at t (s ∷ u ∷ states) [] d e i l h = absurd h
steps_at t (s ∷ u ∷ states) (x ∷ labels) d e zero l h = h.0
steps_at t (s ∷ u ∷ states) (x ∷ labels) d e (suc i) l h =
    let z : suc (i + 1) ≡ suc i + 1 = omega arith in
    subst (λ n. step_holds t (at (u ∷ states) d i) (at labels e i) (at (s ∷ u ∷ states) d n) ≡ true) z (steps_at t (u ∷ states) labels d e i (omega (arith, l)) h.1)

starts_at : (t : List Instance) (states : List Valuation) (d : Valuation) → Starts t states → init_holds t (at states d 0) ≡ true
starts_at t [] d h = absurd h
starts_at t (s ∷ states) d h = h

pub steps_of_run : (t : List Instance) (states labels : List Valuation) (d e : Valuation) (k : ℕ) → length labels ≡ k → IsRunOf t states labels → Steps t (at states d) (at labels e) k
steps_of_run t states labels d e k n r =
    let m : length states ≡ suc (length labels) = steps_long t states labels r.steps in
    record {
      values = λ i l. all_at (state_fits t) states d i (omega (arith, n, m, l)) r.values;
      inputs = λ i l. all_at (label_fits t) labels e i (omega (arith, n, l)) r.inputs;
      starts = starts_at t states d r.starts;
      stays = λ i l. all_at (invar_holds t) states d i (omega (arith, n, m, l)) r.stays;
      steps = λ i l. steps_at t states labels d e i (omega (arith, n, l)) r.steps;
    }

pub last_breaks : (source : PlainSource) (j : ℕ) (states : List Valuation) (d : Valuation) (k : ℕ) → length states ≡ suc k → LastBreaks source j states → is_broken (instances_of source) j (at states d k) ≡ true
last_breaks source j [] d k n h = absurd h
last_breaks source j (s ∷ []) d zero n h = h
last_breaks source j (s ∷ []) d (suc k) n h = absurd (omega (arith, n))
last_breaks source j (s ∷ u ∷ states) d zero n h = absurd (omega (arith, n))
last_breaks source j (s ∷ u ∷ states) d (suc k) n h = last_breaks source j (u ∷ states) d k (omega (arith, n)) h

pub run_long : (t : List Instance) (states labels : List Valuation) → IsRunOf t states labels → length states ≡ suc (length labels)
run_long t states labels r = steps_long t states labels r.steps
