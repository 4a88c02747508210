-- Items and the places of their variables.
use Rattle.std.proofs.Common.{◌≡◌, ℕ, zero, suc, ◌+◌, ◌<◌, Bool, true, List, [], ◌∷◌, ◌++◌, length, take, Option, Some, None, refl, sym, ap, ◌∙◌, subst, arith, inl, inr, ◌⊎◌}
use Rattle.std.specs.Prelude.{slice_get}
use Rattle.std.specs.Option.{option_map}
use Rattle.std.proofs.lemmas.List.{length-map}
use Rattle.std.proofs.lemmas.Option.{slice_get-map, slice_get_within}
use Rattle.moxi_terms.specs.declared.term.Variable.{Variable}
use Rattle.smv_items.specs.FlatItems.{PlainFlatItem}
use Rattle.smv_script.specs.Script.{Group, inputs, outputs, locals, group_of, same_group, items_in, variable_of, variables_in, group_start, place_among, place_of_item}
use Rattle.smv_script_laws.specs.PlaceLaws.{all_variables, HasPlace, IsOfItem, IsPlaceOf, PlacesDiffer}
use Rattle.smv_script_laws.proofs.Filtered.{passed, filtered_there, filtered_source, filtered_once}

-- ---- joined lists

joined_behind : {X : Type 0} (xs ys : List X) (n : ℕ) → slice_get (xs ++ ys) (length xs + n) ≡ slice_get ys n
joined_behind [] ys n = let e : 0 + n ≡ n = omega arith in ap (slice_get ys) e
joined_behind (x ∷ xs) ys n = let e : suc (length xs) + n ≡ suc (length xs + n) = omega arith in ap (λ k. slice_get (x ∷ (xs ++ ys)) k) e ∙ joined_behind xs ys n

joined_front : {X : Type 0} (xs ys : List X) (n : ℕ) (x : X) → slice_get xs n ≡ Some x → slice_get (xs ++ ys) n ≡ Some x
joined_front [] ys n x h = cc
joined_front (y ∷ xs) ys zero x h = h
joined_front (y ∷ xs) ys (suc n) x h = joined_front xs ys n x h

-- an element of the second of two lists that are joined
pub record Behind {X : Type 0} (xs ys : List X) (v : ℕ) (x : X) : Type 0 where
  pub number : ℕ
  pub there : slice_get ys number ≡ Some x
  pub place : length xs + number ≡ v

half : {X : Type 0} (xs ys : List X) (v : ℕ) (x : X) → slice_get (xs ++ ys) v ≡ Some x → (slice_get xs v ≡ Some x) ⊎ Behind xs ys v x
half [] ys v x h = inr (record { number = v; there = h; place = omega arith })
half (y ∷ xs) ys zero x h = inl h
half (y ∷ xs) ys (suc v) x h = later (half xs ys v x h)
  where
    later : (slice_get xs v ≡ Some x) ⊎ Behind xs ys v x → (slice_get (y ∷ xs) (suc v) ≡ Some x) ⊎ Behind (y ∷ xs) ys (suc v) x
    later (inl i) = inl i
    later (inr b) = inr (record { number = b.number; there = b.there; place = let e = b.place in omega (arith, e) })

-- ---- groups

same_self : (g : Group) → same_group g g ≡ true
same_self inputs = refl
same_self outputs = refl
same_self locals = refl

same_is : (g h : Group) → same_group g h ≡ true → g ≡ h
same_is inputs inputs e = refl
same_is outputs outputs e = refl
same_is locals locals e = refl
same_is inputs outputs e = cc
same_is inputs locals e = cc
same_is outputs inputs e = cc
same_is outputs locals e = cc
same_is locals inputs e = cc
same_is locals outputs e = cc

abbrev in_group : Group → PlainFlatItem → Bool
in_group g m = same_group g (group_of m.kind)

-- a place within a group is a place in the system behind the groups before it
at_group : (width : ℕ) (items : List PlainFlatItem) (g : Group) (n : ℕ) (x : Variable) → slice_get (variables_in width g items) n ≡ Some x → slice_get (all_variables width items) (group_start items g + n) ≡ Some x
at_group width items inputs n x h =
    let e : 0 + n ≡ n = omega arith in
    ap (slice_get (all_variables width items)) e ∙ joined_front (variables_in width inputs items) (variables_in width outputs items ++ variables_in width locals items) n x h
at_group width items outputs n x h =
    let e : length (variables_in width inputs items) ≡ length (items_in inputs items) = length-map (items_in inputs items) (variable_of width) in
    ap (λ k. slice_get (all_variables width items) (k + n)) (sym e)
    ∙ joined_behind (variables_in width inputs items) (variables_in width outputs items ++ variables_in width locals items) n
    ∙ joined_front (variables_in width outputs items) (variables_in width locals items) n x h
at_group width items locals n x h =
    let e : length (variables_in width inputs items) ≡ length (items_in inputs items) = length-map (items_in inputs items) (variable_of width) in
    let f : length (variables_in width outputs items) ≡ length (items_in outputs items) = length-map (items_in outputs items) (variable_of width) in
    let s : length (items_in inputs items) + length (items_in outputs items) + n ≡ length (variables_in width inputs items) + (length (variables_in width outputs items) + n) = omega (arith, e, f) in
    ap (λ k. slice_get (all_variables width items) k) s
    ∙ joined_behind (variables_in width inputs items) (variables_in width outputs items ++ variables_in width locals items) (length (variables_in width outputs items) + n)
    ∙ joined_behind (variables_in width outputs items) (variables_in width locals items) n ∙ h

place_is : (items : List PlainFlatItem) (k : ℕ) (m : PlainFlatItem) (g : Group) → slice_get items k ≡ Some m → group_of m.kind ≡ g → place_of_item items k ≡ group_start items g + passed (in_group g) items k
place_is items k m g h e = ap (place_among items k) h ∙ ap (λ f. group_start items f + length (items_in f (take k items))) e

pub has_place_law : HasPlace
has_place_law width items k m h =
    let g = group_of m.kind in
    ap (λ p. slice_get (all_variables width items) p) (place_is items k m g h refl)
    ∙ at_group width items g (passed (in_group g) items k) (variable_of width m)
    (slice_get-map (variable_of width) (items_in g items) (passed (in_group g) items k) ∙ ap (option_map (variable_of width)) (filtered_there (in_group g) items k m h (same_self g)))

-- ---- back

mapped_source : {A B : Type 0} (f : A → B) (o : Option A) (y : B) → option_map f o ≡ Some y → (x : A) × (o ≡ Some x) × (f x ≡ y)
mapped_source f None y h = cc
mapped_source f (Some x) y h = (x, refl, cc)

from_group : (width : ℕ) (items : List PlainFlatItem) (g : Group) (n : ℕ) (x : Variable) → slice_get (variables_in width g items) n ≡ Some x → IsOfItem width items (group_start items g + n) x
from_group width items g n x h =
    let p = mapped_source (variable_of width) (slice_get (items_in g items) n) x (sym (slice_get-map (variable_of width) (items_in g items) n) ∙ h) in
    let r = filtered_source (in_group g) items n p.0 p.1 in
    record {
      number = r.number;
      item = p.0;
      there = r.there;
      place = place_is items r.number p.0 g r.there (sym (same_is g (group_of p.0.kind) r.passes)) ∙ ap (λ k. group_start items g + k) r.before;
      same = sym p.2;
    }

from_second : (width : ℕ) (items : List PlainFlatItem) (v : ℕ) (x : Variable) (n : ℕ) → length (items_in inputs items) + n ≡ v
    → (slice_get (variables_in width outputs items) n ≡ Some x) ⊎ Behind (variables_in width outputs items) (variables_in width locals items) n x → IsOfItem width items v x
from_second width items v x n e (inl h) = subst (λ k. IsOfItem width items k x) e (from_group width items outputs n x h)
from_second width items v x n e (inr b) =
    let f : length (variables_in width outputs items) ≡ length (items_in outputs items) = length-map (items_in outputs items) (variable_of width) in
    let p = b.place in
    let s : length (items_in inputs items) + length (items_in outputs items) + b.number ≡ v = omega (arith, e, f, p) in
    subst (λ k. IsOfItem width items k x) s (from_group width items locals b.number x b.there)

from_either : (width : ℕ) (items : List PlainFlatItem) (v : ℕ) (x : Variable)
    → (slice_get (variables_in width inputs items) v ≡ Some x) ⊎ Behind (variables_in width inputs items) (variables_in width outputs items ++ variables_in width locals items) v x → IsOfItem width items v x
from_either width items v x (inl h) = let e : 0 + v ≡ v = omega arith in subst (λ k. IsOfItem width items k x) e (from_group width items inputs v x h)
from_either width items v x (inr b) =
    let f : length (variables_in width inputs items) ≡ length (items_in inputs items) = length-map (items_in inputs items) (variable_of width) in
    let p = b.place in
    from_second width items v x b.number (omega (arith, f, p)) (half (variables_in width outputs items) (variables_in width locals items) b.number x b.there)

pub is_place_of_law : IsPlaceOf
is_place_of_law width items v x h = from_either width items v x (half (variables_in width inputs items) (variables_in width outputs items ++ variables_in width locals items) v x h)

-- ---- two places

element_there : {X : Type 0} (xs : List X) (k : ℕ) → k < length xs → (x : X) × (slice_get xs k ≡ Some x)
element_there [] k b = absurd (omega (arith, b))
element_there (x ∷ xs) zero b = (x, refl)
element_there (x ∷ xs) (suc k) b = element_there xs k (omega (arith, b))

within_group : (items : List PlainFlatItem) (g : Group) (k : ℕ) (m : PlainFlatItem) → slice_get items k ≡ Some m → group_of m.kind ≡ g → passed (in_group g) items k < length (items_in g items)
within_group items g k m h e = slice_get_within (items_in g items) (passed (in_group g) items k) m (filtered_there (in_group g) items k m h (ap (same_group g) e ∙ same_self g))

-- places of two groups are apart
same_groups : (items : List PlainFlatItem) (g h : Group) (i j : ℕ) → i < length (items_in g items) → j < length (items_in h items) → group_start items g + i ≡ group_start items h + j → g ≡ h
same_groups items inputs inputs i j a b e = refl
same_groups items outputs outputs i j a b e = refl
same_groups items locals locals i j a b e = refl
same_groups items inputs outputs i j a b e = absurd (omega (arith, a, b, e))
same_groups items inputs locals i j a b e = absurd (omega (arith, a, b, e))
same_groups items outputs inputs i j a b e = absurd (omega (arith, a, b, e))
same_groups items outputs locals i j a b e = absurd (omega (arith, a, b, e))
same_groups items locals inputs i j a b e = absurd (omega (arith, a, b, e))
same_groups items locals outputs i j a b e = absurd (omega (arith, a, b, e))

pub places_differ_law : PlacesDiffer
places_differ_law items k l a b e =
    let x = element_there items k a in
    let y = element_there items l b in
    let g = group_of x.0.kind in
    let h = group_of y.0.kind in
    let d : group_start items g + passed (in_group g) items k ≡ group_start items h + passed (in_group h) items l = sym (place_is items k x.0 g x.1 refl) ∙ e ∙ place_is items l y.0 h y.1 refl in
    let s : g ≡ h = same_groups items g h (passed (in_group g) items k) (passed (in_group h) items l) (within_group items g k x.0 x.1 refl) (within_group items h l y.0 y.1 refl) d in
    let f : group_start items g + passed (in_group g) items k ≡ group_start items g + passed (in_group g) items l = d ∙ ap (λ f. group_start items f + passed (in_group f) items l) (sym s) in
    let c : passed (in_group g) items k ≡ passed (in_group g) items l = omega (arith, f) in
    filtered_once (in_group g) items k l x.0 y.0 x.1 (same_self g) y.1 (ap (same_group g) (sym s) ∙ same_self g) c
