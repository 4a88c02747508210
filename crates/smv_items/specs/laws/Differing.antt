-- Lists of which no two elements are the same.
use Rattle.std.proofs.Common.{◌≡◌, ◌≢◌, ℕ, zero, suc, false, List, [], ◌∷◌, ◌++◌, map, Some, sym, subst}
use Rattle.std.specs.List.{slice_get, AllByRecursion}
use Rattle.std.specs.Str.{bytes_eq}
use Rattle.std.proofs.lemmas.Slice.Eq.{bytes_eq-Decides}
use Rattle.name_maps.proofs.FreshNames.{AllDiffer, Lacks, all_made, all_front, all_back, all_joined}

-- ---- what holds of all elements

pub all_weaker : {X : Type 0} (P Q : X → Type 0) → ((x : X) → P x → Q x) → (xs : List X) → AllByRecursion P xs → AllByRecursion Q xs
all_weaker P Q f [] h = tt
all_weaker P Q f (x ∷ xs) h = (f x h.0, all_weaker P Q f xs h.1)

pub all_unmapped : {X Y : Type 0} (P : Y → Type 0) (f : X → Y) (xs : List X) → AllByRecursion P (map f xs) → AllByRecursion (λ x. P (f x)) xs
all_unmapped P f [] h = tt
all_unmapped P f (x ∷ xs) h = (h.0, all_unmapped P f xs h.1)

pub all_with : {X : Type 0} (P Q R : X → Type 0) → ((x : X) → P x → Q x → R x) → (xs : List X) → AllByRecursion P xs → AllByRecursion Q xs → AllByRecursion R xs
all_with P Q R f [] h k = tt
all_with P Q R f (x ∷ xs) h k = (f x h.0 k.0, all_with P Q R f xs h.1 k.1)

pub holds_at : {X : Type 0} (P : X → Type 0) (xs : List X) (k : ℕ) (x : X) → AllByRecursion P xs → slice_get xs k ≡ Some x → P x
holds_at P [] k x h e = cc
holds_at P (y ∷ ys) zero x h e = let same : y ≡ x = cc in subst P same h.0
holds_at P (y ∷ ys) (suc k) x h e = holds_at P ys k x h.1 e

-- ---- elements that differ

pub differ_joined : {X : Type 0} (xs ys : List X) → AllDiffer xs → AllDiffer ys → AllByRecursion (λ x. Lacks ys x) xs → AllDiffer (xs ++ ys)
differ_joined [] ys h k l = k
differ_joined (x ∷ xs) ys h k l = (all_joined (λ y. y ≢ x) xs ys h.0 l.0, differ_joined xs ys h.1 k l.1)

pub differ_front : {X : Type 0} (xs ys : List X) → AllDiffer (xs ++ ys) → AllDiffer xs
differ_front [] ys h = tt
differ_front (x ∷ xs) ys h = (all_front (λ y. y ≢ x) xs ys h.0, differ_front xs ys h.1)

pub differ_back : {X : Type 0} (xs ys : List X) → AllDiffer (xs ++ ys) → AllDiffer ys
differ_back [] ys h = h
differ_back (x ∷ xs) ys h = differ_back xs ys h.1

-- the elements behind differ from those in front
pub differ_across : {X : Type 0} (xs ys : List X) → AllDiffer (xs ++ ys) → AllByRecursion (λ y. Lacks xs y) ys
differ_across [] ys h = all_made (λ y. Lacks [] y) (λ y. tt) ys
differ_across (x ∷ xs) ys h =
    all_with (λ y. y ≢ x) (λ y. Lacks xs y) (λ y. Lacks (x ∷ xs) y) (λ y n l. ((λ e. n (sym e)), l)) ys (all_back (λ y. y ≢ x) xs ys h.0) (differ_across xs ys h.1)

-- where what is made of elements tells them apart
lacks_mapped : {X Y : Type 0} (P : X → Type 0) (f : X → Y) → ((x y : X) → P x → P y → f x ≡ f y → x ≡ y) → (x : X) (xs : List X) → P x → AllByRecursion P xs → Lacks xs x → Lacks (map f xs) (f x)
lacks_mapped P f once x [] p h k = tt
lacks_mapped P f once x (y ∷ ys) p h k = ((λ e. k.0 (once y x h.0 p e)), lacks_mapped P f once x ys p h.1 k.1)

pub differ_mapped : {X Y : Type 0} (P : X → Type 0) (f : X → Y) → ((x y : X) → P x → P y → f x ≡ f y → x ≡ y) → (xs : List X) → AllByRecursion P xs → AllDiffer xs → AllDiffer (map f xs)
differ_mapped P f once [] h k = tt
differ_mapped P f once (x ∷ xs) h k = (lacks_mapped P f once x xs h.0 h.1 k.0, differ_mapped P f once xs h.1 k.1)

-- ---- lists within others, in their order

pub data Within {X : Type 0} : List X → List X → Type 0 where
  none_left : Within [] []
  kept : (x : X) (xs ys : List X) → Within xs ys → Within (x ∷ xs) (x ∷ ys)
  passed : (y : X) (xs ys : List X) → Within xs ys → Within xs (y ∷ ys)

pub within_itself : {X : Type 0} (xs : List X) → Within xs xs
within_itself [] = none_left
within_itself (x ∷ xs) = kept x xs xs (within_itself xs)

pub none_within : {X : Type 0} (ys : List X) → Within [] ys
none_within [] = none_left
none_within (y ∷ ys) = passed y [] ys (none_within ys)

pub within_joined : {X : Type 0} {xs ys us vs : List X} → Within xs ys → Within us vs → Within (xs ++ us) (ys ++ vs)
within_joined none_left w = w
within_joined {us = us} {vs = vs} (kept x xs ys v) w = kept x (xs ++ us) (ys ++ vs) (within_joined v w)
within_joined {us = us} {vs = vs} (passed y xs ys v) w = passed y (xs ++ us) (ys ++ vs) (within_joined v w)

pub all_within : {X : Type 0} (P : X → Type 0) {xs ys : List X} → Within xs ys → AllByRecursion P ys → AllByRecursion P xs
all_within P none_left h = tt
all_within P (kept x xs ys v) h = (h.0, all_within P v h.1)
all_within P (passed y xs ys v) h = all_within P v h.1

pub differ_within : {X : Type 0} {xs ys : List X} → Within xs ys → AllDiffer ys → AllDiffer xs
differ_within none_left h = tt
differ_within (kept x xs ys v) h = (all_within (λ y. y ≢ x) v h.0, differ_within v h.1)
differ_within (passed y xs ys v) h = differ_within v h.1

-- ---- by tests

pub apart_told : (x y : List ℕ) → bytes_eq x y ≡ false → x ≢ y
apart_told x y h e = let t = (bytes_eq-Decides x y).1 e in absurd (cc)
