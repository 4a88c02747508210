-- Where the elements that pass a test are in the list of them.
use Rattle.std.proofs.Common.{◌≡◌, ℕ, zero, suc, Bool, true, false, cond, List, [], ◌∷◌, length, take, Some, refl, sym, ap, ◌∙◌, arith}
use Rattle.std.specs.Prelude.{slice_get}
use Rattle.std.specs.List.{filter}

-- how many of the first so many pass
abbrev pub passed : {X : Type 0} → (X → Bool) → List X → ℕ → ℕ
passed p xs k = length (filter p (take k xs))

pub filtered_there : {X : Type 0} (p : X → Bool) (xs : List X) (k : ℕ) (x : X) → slice_get xs k ≡ Some x → p x ≡ true → slice_get (filter p xs) (passed p xs k) ≡ Some x
filtered_there p [] k x h e = cc
filtered_there p (y ∷ xs) zero x h e =
    let same : y ≡ x = cc in
    let t : p y ≡ true = ap p same ∙ e in
    ap (λ b. slice_get (cond b (y ∷ filter p xs) (filter p xs)) 0) t ∙ ap Some same
filtered_there p (y ∷ xs) (suc k) x h e = by (p y) (filtered_there p xs k x h e)
  where
    by : (b : Bool) → slice_get (filter p xs) (passed p xs k) ≡ Some x
        → slice_get (cond b (y ∷ filter p xs) (filter p xs)) (length (cond b (y ∷ filter p (take k xs)) (filter p (take k xs)))) ≡ Some x
    by true i = i
    by false i = i

-- an element of those that pass, with its place in the whole list
pub record Source {X : Type 0} (p : X → Bool) (xs : List X) (v : ℕ) (x : X) : Type 0 where
  pub number : ℕ
  pub there : slice_get xs number ≡ Some x
  pub passes : p x ≡ true
  pub before : passed p xs number ≡ v

source_later : {X : Type 0} (p : X → Bool) (y : X) (xs : List X) (v w : ℕ) (x : X) (b : Bool) → p y ≡ b → cond b (suc v) v ≡ w → Source p xs v x → Source p (y ∷ xs) w x
source_later p y xs v w x true e s r =
    record { number = suc r.number; there = r.there; passes = r.passes; before = ap (λ c. length (cond c (y ∷ filter p (take r.number xs)) (filter p (take r.number xs)))) e ∙ ap suc r.before ∙ s }
source_later p y xs v w x false e s r =
    record { number = suc r.number; there = r.there; passes = r.passes; before = ap (λ c. length (cond c (y ∷ filter p (take r.number xs)) (filter p (take r.number xs)))) e ∙ r.before ∙ s }

pub filtered_source : {X : Type 0} (p : X → Bool) (xs : List X) (v : ℕ) (x : X) → slice_get (filter p xs) v ≡ Some x → Source p xs v x
filtered_source p [] v x h = cc
filtered_source p (y ∷ xs) v x h = by (p y) refl v (λ w. filtered_source p xs w x) h
  where
    by : (b : Bool) → p y ≡ b → (v : ℕ) → ((w : ℕ) → slice_get (filter p xs) w ≡ Some x → Source p xs w x) → slice_get (cond b (y ∷ filter p xs) (filter p xs)) v ≡ Some x → Source p (y ∷ xs) v x
    by true e zero f i = let same : y ≡ x = cc in record { number = 0; there = i; passes = ap p (sym same) ∙ e; before = refl }
    by true e (suc v) f i = source_later p y xs v (suc v) x true e refl (f v i)
    by false e v f i = source_later p y xs v v x false e refl (f v i)

-- the places of those that pass differ
pub filtered_once : {X : Type 0} (p : X → Bool) (xs : List X) (k l : ℕ) (x y : X)
    → slice_get xs k ≡ Some x → p x ≡ true → slice_get xs l ≡ Some y → p y ≡ true → passed p xs k ≡ passed p xs l → k ≡ l
filtered_once p [] k l x y h e g f s = cc
filtered_once p (z ∷ xs) zero zero x y h e g f s = refl
filtered_once p (z ∷ xs) zero (suc l) x y h e g f s =
    let same : z ≡ x = cc in
    let t : p z ≡ true = ap p same ∙ e in
    let n : 0 ≡ suc (passed p xs l) = s ∙ ap (λ c. length (cond c (z ∷ filter p (take l xs)) (filter p (take l xs)))) t in
    cc
filtered_once p (z ∷ xs) (suc k) zero x y h e g f s =
    let same : z ≡ y = cc in
    let t : p z ≡ true = ap p same ∙ f in
    let n : suc (passed p xs k) ≡ 0 = sym (ap (λ c. length (cond c (z ∷ filter p (take k xs)) (filter p (take k xs)))) t) ∙ s in
    cc
filtered_once p (z ∷ xs) (suc k) (suc l) x y h e g f s = ap suc (filtered_once p xs k l x y h e g f (by (p z) s))
  where
    by : (b : Bool) → length (cond b (z ∷ filter p (take k xs)) (filter p (take k xs))) ≡ length (cond b (z ∷ filter p (take l xs)) (filter p (take l xs))) → passed p xs k ≡ passed p xs l
    by true i = grind arith
    by false i = i
