-- The first place in a list at which a test holds.
use Rattle.std.proofs.Common.{◌≡◌, ℕ, suc, ◌+◌, Bool, true, false, not, ◌||◌, nat_lt, cond, if◌then◌else◌, List, [], ◌∷◌, ◌++◌, length, position, Option, Some, None, option_map, refl, ap, ◌∙◌, arith}
use Rattle.std.specs.List.{slice_get, position_or_len, list_any}
use Rattle.std.proofs.lemmas.Bool.Decides.{nat_tests}

cons_true : (n : ℕ) → cond {A = Option ℕ} (nat_lt 0 (suc n)) (Some 0) None ≡ Some 0
cons_true n = grind (arith, nat_tests)

cons_false : (m n : ℕ) → cond (nat_lt (1 + m) (suc n)) (Some (1 + m)) None ≡ option_map suc (cond (nat_lt m n) (Some m) None)
cons_false m n = by (nat_lt m n) refl
  where
    by : (b : Bool) → nat_lt m n ≡ b → cond (nat_lt (1 + m) (suc n)) (Some (1 + m)) None ≡ option_map suc (cond b (Some m) None)
    by true e = grind (arith, nat_tests)
    by false e = grind (arith, nat_tests)

pub position_cons : {X : Type 0} (p : X → Bool) (x : X) (xs : List X) → position p (x ∷ xs) ≡ (if p x then Some 0 else option_map suc (position p xs))
position_cons p x xs = by (p x)
  where
    by : (b : Bool) → cond (nat_lt (cond (not b) (1 + position_or_len p xs) 0) (suc (length xs))) (Some (cond (not b) (1 + position_or_len p xs) 0)) None
        ≡ (if b then Some 0 else option_map suc (position p xs))
    by true = cons_true (length xs)
    by false = cons_false (position_or_len p xs) (length xs)

-- what the first element of a list for which the test holds gives
abbrev pub first : {X B : Type 0} → (X → Bool) → (X → Option B) → List X → Option B
first p g [] = None
first p g (x ∷ xs) = if p x then g x else first p g xs

-- an element at the place, for which the test holds, and what it gives
pub record At {X B : Type 0} (p : X → Bool) (g : X → Option B) (xs : List X) (b : B) : Type 0 where
  pub k : ℕ
  pub x : X
  pub placed : position p xs ≡ Some k
  pub there : slice_get xs k ≡ Some x
  pub holds : p x ≡ true
  pub gives : g x ≡ Some b

at_here : {X B : Type 0} (p : X → Bool) (g : X → Option B) (x : X) (xs : List X) (b : B) → p x ≡ true → g x ≡ Some b → At p g (x ∷ xs) b
at_here p g x xs b h e = record {
  k = 0;
  x = x;
  placed = position_cons p x xs ∙ ap (λ t. if t then Some 0 else option_map suc (position p xs)) h;
  there = refl;
  holds = h;
  gives = e;
}

at_later : {X B : Type 0} (p : X → Bool) (g : X → Option B) (x : X) (xs : List X) (b : B) → p x ≡ false → At p g xs b → At p g (x ∷ xs) b
at_later p g x xs b h a = record {
  k = suc a.k;
  x = a.x;
  placed = position_cons p x xs ∙ ap (λ t. if t then Some 0 else option_map suc (position p xs)) h ∙ ap (option_map suc) a.placed;
  there = a.there;
  holds = a.holds;
  gives = a.gives;
}

pub first_at : {X B : Type 0} (p : X → Bool) (g : X → Option B) (xs : List X) (b : B) → first p g xs ≡ Some b → At p g xs b
first_at p g [] b h = cc
first_at p g (x ∷ xs) b h = by (λ s. first_at p g xs b s) (p x) refl h
  where
    by : (first p g xs ≡ Some b → At p g xs b) → (t : Bool) → p x ≡ t → (if t then g x else first p g xs) ≡ Some b → At p g (x ∷ xs) b
    by ih true e s = at_here p g x xs b e s
    by ih false e s = at_later p g x xs b e (ih s)

-- ---- joined lists

pub first_left : {X B : Type 0} (p : X → Bool) (g : X → Option B) (xs ys : List X) (b : B) → first p g xs ≡ Some b → first p g (xs ++ ys) ≡ Some b
first_left p g [] ys b h = cc
first_left p g (x ∷ xs) ys b h = by (λ s. first_left p g xs ys b s) (p x) h
  where
    by : (first p g xs ≡ Some b → first p g (xs ++ ys) ≡ Some b) → (t : Bool) → (if t then g x else first p g xs) ≡ Some b → (if t then g x else first p g (xs ++ ys)) ≡ Some b
    by ih true s = s
    by ih false s = ih s

pub first_right : {X B : Type 0} (p : X → Bool) (g : X → Option B) (xs ys : List X) (b : B) → list_any p xs ≡ false → first p g ys ≡ Some b → first p g (xs ++ ys) ≡ Some b
first_right p g [] ys b n h = h
first_right p g (x ∷ xs) ys b n h = by (λ s. first_right p g xs ys b s h) (p x) n
  where
    by : (list_any p xs ≡ false → first p g (xs ++ ys) ≡ Some b) → (t : Bool) → (t || list_any p xs) ≡ false → (if t then g x else first p g (xs ++ ys)) ≡ Some b
    by ih true s = cc
    by ih false s = ih s

pub any_left : {X : Type 0} (p : X → Bool) (xs ys : List X) → list_any p xs ≡ true → list_any p (xs ++ ys) ≡ true
any_left p [] ys h = cc
any_left p (x ∷ xs) ys h = by (λ s. any_left p xs ys s) (p x) h
  where
    by : (list_any p xs ≡ true → list_any p (xs ++ ys) ≡ true) → (t : Bool) → (t || list_any p xs) ≡ true → (t || list_any p (xs ++ ys)) ≡ true
    by ih true s = refl
    by ih false s = ih s

pub any_right : {X : Type 0} (p : X → Bool) (xs ys : List X) → list_any p ys ≡ true → list_any p (xs ++ ys) ≡ true
any_right p [] ys h = h
any_right p (x ∷ xs) ys h = by (any_right p xs ys h) (p x)
  where
    by : list_any p (xs ++ ys) ≡ true → (t : Bool) → (t || list_any p (xs ++ ys)) ≡ true
    by ih true = refl
    by ih false = ih

pub none_joined : {X : Type 0} (p : X → Bool) (xs ys : List X) → list_any p xs ≡ false → list_any p ys ≡ false → list_any p (xs ++ ys) ≡ false
none_joined p [] ys h k = k
none_joined p (x ∷ xs) ys h k = by (λ s. none_joined p xs ys s k) (p x) h
  where
    by : (list_any p xs ≡ false → list_any p (xs ++ ys) ≡ false) → (t : Bool) → (t || list_any p xs) ≡ false → (t || list_any p (xs ++ ys)) ≡ false
    by ih true s = cc
    by ih false s = ih s

-- where some element passes the test, the first one does
pub any_first : {X : Type 0} (p : X → Bool) (xs : List X) → list_any p xs ≡ true → first p (λ x. Some true) xs ≡ Some true
any_first p [] h = cc
any_first p (x ∷ xs) h = by (λ s. any_first p xs s) (p x) h
  where
    by : (list_any p xs ≡ true → first p (λ y. Some true) xs ≡ Some true) → (t : Bool) → (t || list_any p xs) ≡ true → (if t then Some true else first p (λ y. Some true) xs) ≡ Some true
    by ih true s = refl
    by ih false s = ih s
