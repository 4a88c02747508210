-- Where nothing reaches itself, what leads into one another is no longer than there are definitions and actuals.
use Rattle.std.proofs.Common.{◌≡◌, ℕ, zero, suc, ◌+◌, ◌<◌, ◌≤◌, Bool, true, false, ◌||◌, ◌==◌, if◌then◌else◌, List, [], ◌∷◌, ◌++◌, length, bytes_eq, flat_map, refl, sym, ap, ◌∙◌, subst, arith}
use Rattle.std.proofs.lemmas.Bool.{eqb-true, eq-eqb}
use Rattle.std.proofs.lemmas.Slice.Eq.{bytes_eq-Decides}
use Rattle.std.proofs.Math.Nat.{le-max_left, le-max_right}
use mathlib.Core.Logic.{◌⊎◌, inl, inr, ⊎_elim}
use Rattle.std.specs.List.{list_all, list_any}
use Rattle.smv_meaning.specs.Phases.{Body, body_same, reaches}
use Rattle.smv_meaning.specs.Settled.{greatest, chain_length}
use Rattle.smv_meaning.specs.laws.Booleans.{both_true, two_true, or_true, absurd_bool}

-- ---- membership

abbrev pub In : {X : Type 0} → X → List X → Type 0
In x [] = ⊥
In x (y ∷ ys) = (x ≡ y) ⊎ In x ys

pub same_is : (k m : Body) → body_same k m ≡ true → k ≡ m
same_is k m h =
    let b = both_true (k.0 == m.0) (bytes_eq k.1 m.1) h in
    let first : (k.0, k.1) ≡ (m.0, k.1) = ap (λ (i : ℕ). (i, k.1)) (eqb-true k.0 m.0 b.0) in
    let second : (m.0, k.1) ≡ (m.0, m.1) = ap (λ (x : List ℕ). (m.0, x)) ((bytes_eq-Decides k.1 m.1).0 b.1) in
    first ∙ second

pub same_self : (k : Body) → body_same k k ≡ true
same_self k = two_true (k.0 == k.0) (bytes_eq k.1 k.1) (eq-eqb k.0 k.0 refl) ((bytes_eq-Decides k.1 k.1).1 refl)

pub right_true : (a b : Bool) → b ≡ true → (a || b) ≡ true
right_true true b h = refl
right_true false b h = h

left_true : (a b : Bool) → a ≡ true → (a || b) ≡ true
left_true true b h = refl
left_true false b h = absurd_bool h

pub in_any : {X : Type 0} (p : X → Bool) (x : X) (xs : List X) → In x xs → p x ≡ true → list_any p xs ≡ true
in_any p x [] h e = absurd h
in_any p x (y ∷ ys) (inl s) e = let t : p y ≡ true = ap p (sym s) ∙ e in ap (λ b. b || list_any p ys) t
in_any p x (y ∷ ys) (inr s) e = right_true (p y) (list_any p ys) (in_any p x ys s e)

pub any_in : {X : Type 0} (p : X → Bool) (xs : List X) → list_any p xs ≡ true → (x : X) × In x xs × (p x ≡ true)
any_in p [] h = absurd_bool h
any_in p (x ∷ xs) h = ⊎_elim (λ e. (x, inl refl, e)) (λ e. let r = any_in p xs e in (r.0, inr r.1, r.2)) (or_true (p x) (list_any p xs) h)

pub in_all : {X : Type 0} (p : X → Bool) (x : X) (xs : List X) → list_all p xs ≡ true → In x xs → p x ≡ true
in_all p x [] h e = absurd e
in_all p x (y ∷ ys) h (inl s) = ap p s ∙ (both_true (p y) (list_all p ys) h).0
in_all p x (y ∷ ys) h (inr s) = in_all p x ys (both_true (p y) (list_all p ys) h).1 s

pub all_in : {X : Type 0} (p : X → Bool) (xs : List X) → ((x : X) → In x xs → p x ≡ true) → list_all p xs ≡ true
all_in p [] h = refl
all_in p (x ∷ xs) h = two_true (p x) (list_all p xs) (h x (inl refl)) (all_in p xs (λ y e. h y (inr e)))

pub in_left : {X : Type 0} (x : X) (xs ys : List X) → In x xs → In x (xs ++ ys)
in_left x [] ys h = absurd h
in_left x (y ∷ xs) ys (inl s) = inl s
in_left x (y ∷ xs) ys (inr s) = inr (in_left x xs ys s)

pub in_right : {X : Type 0} (x : X) (xs ys : List X) → In x ys → In x (xs ++ ys)
in_right x [] ys h = h
in_right x (y ∷ xs) ys h = inr (in_right x xs ys h)

pub in_either : {X : Type 0} (x : X) (xs ys : List X) → In x (xs ++ ys) → In x xs ⊎ In x ys
in_either x [] ys h = inr h
in_either x (y ∷ xs) ys (inl s) = inl (inl s)
in_either x (y ∷ xs) ys (inr s) = ⊎_elim (λ a. inl (inr a)) (λ b. inr b) (in_either x xs ys s)

pub in_flat : {X Y : Type 0} (f : X → List Y) (y : Y) (xs : List X) → In y (flat_map f xs) → (x : X) × In x xs × In y (f x)
in_flat f y [] h = absurd h
in_flat f y (x ∷ xs) h = ⊎_elim (λ a. (x, inl refl, a)) (λ b. let r = in_flat f y xs b in (r.0, inr r.1, r.2)) (in_either y (f x) (flat_map f xs) h)

pub flat_in : {X Y : Type 0} (f : X → List Y) (y : Y) (x : X) (xs : List X) → In x xs → In y (f x) → In y (flat_map f xs)
flat_in f y x [] h e = absurd h
flat_in f y x (z ∷ xs) (inl s) e = in_left y (f z) (flat_map f xs) (subst (λ w. In y (f w)) s e)
flat_in f y x (z ∷ xs) (inr s) e = in_right y (f z) (flat_map f xs) (flat_in f y x xs s e)

-- ---- more of them than there are, and one occurs twice

without : Body → List Body → List Body
without k [] = []
without k (m ∷ ms) = if body_same k m then ms else m ∷ without k ms

without_shorter : (k : Body) (ms : List Body) → In k ms → suc (length (without k ms)) ≡ length ms
unfolding without
without_shorter k [] h = absurd h
without_shorter k (m ∷ ms) h = by (λ s. without_shorter k ms s) (body_same k m) refl
  where
    by : (In k ms → suc (length (without k ms)) ≡ length ms) → (b : Bool) → body_same k m ≡ b → suc (length (if b then ms else m ∷ without k ms)) ≡ length (m ∷ ms)
    by ih true e = refl
    by ih false e = ⊎_elim (λ s. absurd_bool (sym e ∙ ap (λ z. body_same k z) (sym s) ∙ same_self k)) (λ s. ap suc (ih s)) h

without_keeps : (k z : Body) (ms : List Body) → body_same k z ≡ false → In z ms → In z (without k ms)
unfolding without
without_keeps k z [] d h = absurd h
without_keeps k z (m ∷ ms) d h = by (λ s. without_keeps k z ms d s) (body_same k m) refl h
  where
    by : (In z ms → In z (without k ms)) → (b : Bool) → body_same k m ≡ b → In z (m ∷ ms) → In z (if b then ms else m ∷ without k ms)
    by ih true e (inl s) = absurd_bool (sym d ∙ ap (body_same k) s ∙ e)
    by ih true e (inr s) = s
    by ih false e (inl s) = inl s
    by ih false e (inr s) = inr (ih s)

abbrev Twice : List Body → Type 0
Twice [] = ⊥
Twice (k ∷ ks) = In k ks ⊎ Twice ks

differs : (k z : Body) (ks : List Body) → list_any (body_same k) ks ≡ false → In z ks → body_same k z ≡ false
differs k z ks e i = by (body_same k z) refl
  where
    by : (c : Bool) → body_same k z ≡ c → body_same k z ≡ false
    by true s = absurd_bool (sym e ∙ in_any (body_same k) z ks i s)
    by false s = s

twice : (ks ms : List Body) → ((k : Body) → In k ks → In k ms) → length ms < length ks → Twice ks
twice [] ms h l = absurd (omega arith)
twice (k ∷ ks) ms h l =
    let shorter = without_shorter k ms (h k (inl refl)) in
    by (λ e. twice ks (without k ms) (λ z i. without_keeps k z ms (differs k z ks e i) (h z (inr i))) (omega arith)) (list_any (body_same k) ks) refl
  where
    by : (list_any (body_same k) ks ≡ false → Twice ks) → (b : Bool) → list_any (body_same k) ks ≡ b → In k ks ⊎ Twice ks
    by ih true e = let r = any_in (body_same k) ks e in inl (subst (λ z. In z ks) (sym (same_is k r.0 r.2)) r.1)
    by ih false e = inr (ih e)

-- ---- what one reaches

pub reaches_one : (f : Body → List Body) (n : ℕ) (z x : Body) → In x (f z) → reaches f (suc n) z x ≡ true
unfolding reaches
reaches_one f n z x e = in_any (λ r. body_same r x || reaches f n r x) x (f z) e (left_true (body_same x x) (reaches f n x x) (same_self x))

-- one reference more at the end
reaches_on : (f : Body → List Body) (n : ℕ) (z y x : Body) → reaches f n z y ≡ true → In x (f y) → reaches f (suc n) z x ≡ true
unfolding reaches
reaches_on f zero z y x h e = absurd_bool h
reaches_on f (suc n) z y x h e =
    let r = any_in (λ r. body_same r y || reaches f n r y) (f z) h in
    in_any (λ r. body_same r x || reaches f (suc n) r x) r.0 (f z) r.1
    (right_true (body_same r.0 x) (reaches f (suc n) r.0 x)
    (⊎_elim (λ s. reaches_one f n r.0 x (subst (λ w. In x (f w)) (sym (same_is r.0 y s)) e)) (λ s. reaches_on f n r.0 y x s e)
    (or_true (body_same r.0 y) (reaches f n r.0 y) r.2)))

reaches_more : (f : Body → List Body) (n m : ℕ) (z x : Body) → n ≤ m → reaches f n z x ≡ true → reaches f m z x ≡ true
unfolding reaches
reaches_more f zero m z x l h = absurd_bool h
reaches_more f (suc n) zero z x l h = absurd (omega arith)
reaches_more f (suc n) (suc m) z x l h =
    let less : n ≤ m = omega arith in
    let r = any_in (λ r. body_same r x || reaches f n r x) (f z) h in
    in_any (λ r. body_same r x || reaches f m r x) r.0 (f z) r.1
    (⊎_elim (λ s. left_true (body_same r.0 x) (reaches f m r.0 x) s) (λ s. right_true (body_same r.0 x) (reaches f m r.0 x) (reaches_more f n m r.0 x less s))
    (or_true (body_same r.0 x) (reaches f n r.0 x) r.2))

-- each refers to the one before it
abbrev Chain : (Body → List Body) → List Body → Type 0
Chain f [] = Unit {0}
Chain f (x ∷ []) = Unit {0}
Chain f (x ∷ y ∷ ks) = In x (f y) × Chain f (y ∷ ks)

chain_reaches : (f : Body → List Body) (x : Body) (ks : List Body) (z : Body) → Chain f (x ∷ ks) → In z ks → reaches f (length ks) z x ≡ true
chain_reaches f x [] z c h = absurd h
chain_reaches f x (y ∷ ks) z c (inl s) = subst (λ w. reaches f (suc (length ks)) w x ≡ true) (sym s) (reaches_one f (length ks) y x c.0)
chain_reaches f x (y ∷ ks) z c (inr s) = reaches_on f (length ks) z y x (chain_reaches f y ks z c.1 s) c.0

chain_rest : (f : Body → List Body) (x : Body) (ks : List Body) → Chain f (x ∷ ks) → Chain f ks
chain_rest f x [] c = tt
chain_rest f x (y ∷ ks) c = c.1

-- where nothing reaches itself, nothing occurs twice in a chain
chain_once : (f : Body → List Body) (n : ℕ) → ((k : Body) → reaches f n k k ≡ false) → (ks : List Body) → length ks ≤ suc n → Chain f ks → Twice ks → ⊥
chain_once f n a [] l c h = h
chain_once f n a (x ∷ ks) l c h =
    let less : length ks ≤ n = omega arith in
    let more : length ks ≤ suc n = omega arith in
    ⊎_elim (λ s. absurd_bool (sym (a x) ∙ reaches_more f (length ks) n x x less (chain_reaches f x ks x c s))) (λ s. chain_once f n a ks more (chain_rest f x ks c) s) h

-- ---- the length of what leads into one another

greatest_same : (f g : Body → ℕ) (ks : List Body) → ((k : Body) → In k ks → f k ≡ g k) → greatest f ks ≡ greatest g ks
greatest_same f g [] h = refl
greatest_same f g (k ∷ ks) h = let a = h k (inl refl) in let b = greatest_same f g ks (λ m i. h m (inr i)) in cc

greatest_has : (f : Body → ℕ) (ks : List Body) (k : Body) → In k ks → f k ≤ greatest f ks
greatest_has f [] k h = absurd h
greatest_has f (m ∷ ks) k (inl s) = let e = ap f s in let l = le-max_left (f m) (greatest f ks) in omega arith
greatest_has f (m ∷ ks) k (inr s) = let e = greatest_has f ks k s in let l = le-max_right (f m) (greatest f ks) in omega arith

greatest_most : (f : Body → ℕ) (n : ℕ) → ((k : Body) → f k ≤ n) → (ks : List Body) → greatest f ks ≤ n
greatest_most f n h [] = omega arith
greatest_most f n h (k ∷ ks) = let a = h k in let b = greatest_most f n h ks in omega arith

pub chain_most : (f : Body → List Body) (n : ℕ) (k : Body) → chain_length f n k ≤ n
unfolding chain_length
chain_most f zero k = omega arith
chain_most f (suc n) k = let h = greatest_most (chain_length f n) n (chain_most f n) (f k) in omega arith

-- what only members of a list lead to
abbrev pub Within : (Body → List Body) → List Body → Type 0
Within f ks = (k m : Body) → In m (f k) → In k ks × In m ks

chain_within : (f : Body → List Body) (ks : List Body) → Within f ks → (x : Body) → In x ks → (ms : List Body) → Chain f (x ∷ ms) → (k : Body) → In k (x ∷ ms) → In k ks
chain_within f ks w x h ms c k (inl s) = subst (λ z. In z ks) (sym s) h
chain_within f ks w x h [] c k (inr s) = absurd s
chain_within f ks w x h (y ∷ ms) c k (inr s) = chain_within f ks w y (w y x c.0).0 ms c.1 k s

-- from some number on it stays the same
chain_stays : (f : Body → List Body) (ks : List Body) (m : ℕ) → Within f ks → length ks ≤ m → ((k : Body) → reaches f (suc m) k k ≡ false)
    → (n : ℕ) (x : Body) (ms : List Body) → In x ks → Chain f (x ∷ ms) → length (x ∷ ms) + n ≡ suc m → chain_length f n x ≡ chain_length f (suc n) x
unfolding chain_length
chain_stays f ks m w l a zero x ms h c e =
    absurd (chain_once f (suc m) a (x ∷ ms) (omega arith) c (twice (x ∷ ms) ks (chain_within f ks w x h ms c) (omega arith)))
chain_stays f ks m w l a (suc n) x ms h c e =
    ap suc (greatest_same (chain_length f n) (chain_length f (suc n)) (f x)
    (λ k i. chain_stays f ks m w l a n k (x ∷ ms) (w x k i).1 (i, c) (omega arith)))

-- it falls along each reference
pub chain_falls : (f : Body → List Body) (ks : List Body) (m : ℕ) → Within f ks → length ks ≤ m → ((k : Body) → reaches f (suc m) k k ≡ false)
    → (k x : Body) → In x (f k) → chain_length f m x < chain_length f m k
unfolding chain_length
chain_falls f ks m w l a k x h =
    let i = w k x h in
    let stays = chain_stays f ks m w l a m k [] i.0 tt (omega arith) in
    let most = greatest_has (chain_length f m) (f k) x h in
    omega arith
