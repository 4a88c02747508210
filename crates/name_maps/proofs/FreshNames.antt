-- Lists of names that differ.
use Rattle.std.proofs.Common.{◌≡◌, ◌≢◌, ℕ, Bool, true, false, not, ◌||◌, ◌&&◌, List, [], ◌∷◌, ◌++◌, map, refl, sym, ap, ◌∙◌}
use Rattle.std.specs.List.{AllByRecursion, list_any}
use Rattle.std.specs.Str.{bytes_eq}
use Rattle.std.proofs.lemmas.Slice.Eq.{bytes_eq-Decides}
use Rattle.name_maps.specs.Names.{are_fresh}
use Rattle.name_maps.specs.laws.Places.{placed}

pub all_made : {X : Type 0} (P : X → Type 0) → ((x : X) → P x) → (xs : List X) → AllByRecursion P xs
all_made P f [] = tt
all_made P f (x ∷ xs) = (f x, all_made P f xs)

pub all_joined : {X : Type 0} (P : X → Type 0) (xs ys : List X) → AllByRecursion P xs → AllByRecursion P ys → AllByRecursion P (xs ++ ys)
all_joined P [] ys h k = k
all_joined P (x ∷ xs) ys h k = (h.0, all_joined P xs ys h.1 k)

pub all_front : {X : Type 0} (P : X → Type 0) (xs ys : List X) → AllByRecursion P (xs ++ ys) → AllByRecursion P xs
all_front P [] ys h = tt
all_front P (x ∷ xs) ys h = (h.0, all_front P xs ys h.1)

pub all_back : {X : Type 0} (P : X → Type 0) (xs ys : List X) → AllByRecursion P (xs ++ ys) → AllByRecursion P ys
all_back P [] ys h = h
all_back P (x ∷ xs) ys h = all_back P xs ys h.1

pub all_mapped : {X Y : Type 0} (P : Y → Type 0) (f : X → Y) (xs : List X) → AllByRecursion (λ x. P (f x)) xs → AllByRecursion P (map f xs)
all_mapped P f [] h = tt
all_mapped P f (x ∷ xs) h = (h.0, all_mapped P f xs h.1)

abbrev pub Lacks : {X : Type 0} → List X → X → Type 0
Lacks xs x = AllByRecursion (λ y. y ≢ x) xs

abbrev pub AllDiffer : {X : Type 0} → List X → Type 0
AllDiffer [] = Unit {0}
AllDiffer (x ∷ xs) = Lacks xs x × AllDiffer xs

pub tells_apart : (x y : List ℕ) → x ≢ y → bytes_eq x y ≡ false
tells_apart x y n = by (bytes_eq x y) refl
  where
    by : (b : Bool) → bytes_eq x y ≡ b → b ≡ false
    by true e = absurd (n ((bytes_eq-Decides x y).0 e))
    by false e = refl

pub lacks_any : (xs : List (List ℕ)) (x : List ℕ) → Lacks xs x → list_any (bytes_eq x) xs ≡ false
lacks_any [] x h = refl
lacks_any (y ∷ ys) x h = ap (λ b. b || list_any (bytes_eq x) ys) (tells_apart x y (λ e. h.0 (sym e))) ∙ lacks_any ys x h.1

pub turned : {X : Type 0} (before xs : List X) (x : X) → AllByRecursion (λ y. Lacks before y) xs → Lacks xs x → AllByRecursion (λ y. Lacks (before ++ x ∷ []) y) xs
turned before [] x h k = tt
turned before (y ∷ ys) x h k = (all_joined (λ z. z ≢ y) before (x ∷ []) h.0 ((λ e. k.0 (sym e)), tt), turned before ys x h.1 k.1)

pub fresh_behind : (before xs : List (List ℕ)) → AllByRecursion (λ x. Lacks before x) xs → AllDiffer xs → are_fresh before xs ≡ true
fresh_behind before [] h k = refl
fresh_behind before (x ∷ xs) h k =
    ap (λ b. b && are_fresh (before ++ x ∷ []) xs) (placed before x ∙ ap not (lacks_any before x h.0)) ∙ fresh_behind (before ++ x ∷ []) xs (turned before xs x h.1 k.0) k.1

pub all_fresh : (xs : List (List ℕ)) → AllDiffer xs → are_fresh [] xs ≡ true
all_fresh xs k = fresh_behind [] xs (all_made (λ (x : List ℕ). Lacks [] x) (λ x. tt) xs) k
