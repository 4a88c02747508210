-- Elements of a list one of which was replaced, and of one that grew.
use Rattle.std.proofs.Common.{◌≡◌, ◌≢◌, ℕ, ◌<◌, ◌≤◌, ◌⊎◌, inl, inr, true, false, ◌==◌, List, length, set, Some, sym, ap, ◌∙◌, subst, rules}
use Rattle.std.proofs.lemmas.Bool.{cases_lt}
use Rattle.std.specs.List.{slice_get}
use Rattle.std.proofs.lemmas.List.{get_or-set_same, get_or-set_other, length-set}
use Rattle.std.proofs.lemmas.Option.{slice_get-get_or, slice_get_past}

pub own : (a : ℕ) → (a == a) ≡ true
own a = search rules

differ : (k m : ℕ) → (k == m) ≡ false → m ≢ k
differ k m h e = let t : (k == m) ≡ true = subst (λ j. (k == j) ≡ true) (sym e) (own k) in cc

pub get_set_same : {X : Type 0} (xs : List X) (k : ℕ) (v : X) → k < length xs → slice_get (set xs k v) k ≡ Some v
get_set_same xs k v h = slice_get-get_or (set xs k v) k v (subst (λ n. k < n) (sym (length-set xs k v)) h) ∙ ap Some (get_or-set_same xs k v v h)

pub get_set_other : {X : Type 0} (xs : List X) (k m : ℕ) (v : X) → (k == m) ≡ false → slice_get (set xs k v) m ≡ slice_get xs m
get_set_other xs k m v h = by (cases_lt m (length xs))
  where
    by : (m < length xs) ⊎ (length xs ≤ m) → slice_get (set xs k v) m ≡ slice_get xs m
    by (inl l) =
        slice_get-get_or (set xs k v) m v (subst (λ n. m < n) (sym (length-set xs k v)) l)
        ∙ ap Some (get_or-set_other xs k m v v (differ k m h)) ∙ sym (slice_get-get_or xs m v l)
    by (inr l) = slice_get_past (set xs k v) m (subst (λ n. n ≤ m) (sym (length-set xs k v)) l) ∙ sym (slice_get_past xs m l)
