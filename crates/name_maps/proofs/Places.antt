-- Places of names, where one is put at the end.
use Rattle.std.proofs.Common.{◌≡◌, ◌+◌, ℕ, zero, suc, Bool, true, false, not, cond, nat_lt, if◌then◌else◌, List, [], ◌∷◌, ◌++◌, length, Option, Some, None, option_map, is_none, ◌⊎◌, inl, inr, refl, sym, ap, ◌∙◌, subst, arith}
use Rattle.std.specs.List.{slice_get, position_or_len}
use Rattle.std.specs.Str.{bytes_eq}
use Rattle.std.proofs.lemmas.Slice.Eq.{bytes_eq-Decides}
use Rattle.name_maps.specs.Names.{place_of}
use Rattle.name_maps.specs.Tables.{AreDistinct}
use Rattle.name_maps.specs.laws.Places.{lt_more}

first_place : (n : ℕ) → nat_lt 0 (suc n) ≡ true
first_place n = grind arith

later : (n m : ℕ) → cond (nat_lt (1 + n) (suc m)) (Some (1 + n)) None ≡ option_map suc (cond (nat_lt n m) (Some n) None)
later n m = ap (λ b. cond b (Some (1 + n)) None) (lt_more n m) ∙ by (nat_lt n m)
  where
    by : (b : Bool) → cond b (Some (1 + n)) None ≡ option_map suc (cond b (Some n) None)
    by true = ap Some (let e : 1 + n ≡ suc n = omega arith in e)
    by false = refl

-- the place of a name in a list by the place behind its first
step : (x q : List ℕ) (xs : List (List ℕ)) → place_of (x ∷ xs) q ≡ (if bytes_eq q x then Some 0 else option_map suc (place_of xs q))
step x q xs = by (bytes_eq q x)
  where
    by : (b : Bool) → cond (nat_lt (cond (not b) (1 + position_or_len (bytes_eq q) xs) 0) (suc (length xs))) (Some (cond (not b) (1 + position_or_len (bytes_eq q) xs) 0)) None
        ≡ (if b then Some 0 else option_map suc (place_of xs q))
    by true = ap (λ b. cond b (Some 0) None) (first_place (length xs))
    by false = later (position_or_len (bytes_eq q) xs) (length xs)

kept : (xs : List (List ℕ)) (x q : List ℕ) (k : ℕ) → place_of xs q ≡ Some k → place_of (xs ++ x ∷ []) q ≡ Some k
kept [] x q k e = cc
kept (y ∷ ys) x q k e = step y q (ys ++ x ∷ []) ∙ by (λ j h. kept ys x q j h) (bytes_eq q y) (place_of ys q) refl (sym (step y q ys) ∙ e)
  where
    by : ((j : ℕ) → place_of ys q ≡ Some j → place_of (ys ++ x ∷ []) q ≡ Some j) → (b : Bool) (o : Option ℕ) → place_of ys q ≡ o → (if b then Some 0 else option_map suc (place_of ys q)) ≡ Some k → (if b then Some 0 else option_map suc (place_of (ys ++ x ∷ []) q)) ≡ Some k
    by ih true o is h = h
    by ih false None is h = let f : option_map suc (place_of ys q) ≡ None = ap (option_map suc) is in cc
    by ih false (Some j) is h = ap (option_map suc) (ih j is) ∙ sym (ap (option_map suc) is) ∙ h

put : (xs : List (List ℕ)) (x : List ℕ) → place_of xs x ≡ None → place_of (xs ++ x ∷ []) x ≡ Some (length xs)
put [] x e = step x x [] ∙ ap (λ b. if b then Some 0 else None) ((bytes_eq-Decides x x).1 refl)
put (y ∷ ys) x e = step y x (ys ++ x ∷ []) ∙ by (λ h. put ys x h) (bytes_eq x y) (place_of ys x) refl (sym (step y x ys) ∙ e)
  where
    by : (place_of ys x ≡ None → place_of (ys ++ x ∷ []) x ≡ Some (length ys)) → (b : Bool) (o : Option ℕ) → place_of ys x ≡ o → (if b then Some 0 else option_map suc (place_of ys x)) ≡ None → (if b then Some 0 else option_map suc (place_of (ys ++ x ∷ []) x)) ≡ Some (suc (length ys))
    by ih true o is h = cc
    by ih false None is h = ap (option_map suc) (ih is)
    by ih false (Some j) is h = let f : option_map suc (place_of ys x) ≡ Some (suc j) = ap (option_map suc) is in cc

-- a name of the longer list is one of the shorter, or the last
either : (xs : List (List ℕ)) (x name : List ℕ) (k : ℕ) → slice_get (xs ++ x ∷ []) k ≡ Some name → (slice_get xs k ≡ Some name) ⊎ ((k ≡ length xs) × (x ≡ name))
either [] x name zero e = inr (refl, cc)
either [] x name (suc k) e = cc
either (y ∷ ys) x name zero e = inl e
either (y ∷ ys) x name (suc k) e = by (either ys x name k e)
  where
    by : (slice_get ys k ≡ Some name) ⊎ ((k ≡ length ys) × (x ≡ name)) → (slice_get ys k ≡ Some name) ⊎ ((suc k ≡ suc (length ys)) × (x ≡ name))
    by (inl h) = inl h
    by (inr h) = inr (ap suc h.0, h.1)

-- with a new name behind them none occurs twice
pub occur_once : (names : List (List ℕ)) (x : List ℕ) → is_none (place_of names x) ≡ true → AreDistinct names → AreDistinct (names ++ x ∷ [])
occur_once names x fresh once k name e = by (either names x name k e)
  where
    none : (o : Option ℕ) → is_none o ≡ true → o ≡ None
    none None h = refl
    none (Some j) h = cc

    by : (slice_get names k ≡ Some name) ⊎ ((k ≡ length names) × (x ≡ name)) → place_of (names ++ x ∷ []) name ≡ Some k
    by (inl h) = kept names x name k (once k name h)
    by (inr h) = subst (λ n. place_of (names ++ x ∷ []) n ≡ Some k) h.1 (put names x (none (place_of names x) fresh) ∙ ap Some (sym h.0))
