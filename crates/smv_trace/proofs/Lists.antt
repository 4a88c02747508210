-- Lists from a place on.
use Rattle.std.proofs.Common.{◌≡◌, ℕ, ◌+◌, ◌<◌, ◌≤◌, Bool, true, false, not, ◌&&◌, ◌||◌, Some, is_none, List, [], ◌∷◌, ◌++◌, length, drop, get_or, ap, ◌∙◌, arith}
use Rattle.std.specs.Prelude.{slice_get}
use Rattle.std.proofs.lemmas.Bool.{and_parts}
use Rattle.std.proofs.lemmas.List.{drop_more}
use Rattle.std.proofs.lemmas.Option.{slice_get_within, get_or_from_slice_get}
use Rattle.name_maps.specs.Names.{are_fresh, place_of}
use Rattle.smv_items.specs.FlatItems.{PlainFlatItem}
use Rattle.smv_numbered.specs.declared.heading.Heading.{Heading}
use Rattle.smv_numbered.specs.Values.{picks}
use Rattle.smv_trace.specs.Numbering.{lacks_known}
use Rattle.smv_meaning.specs.laws.Lists.{end_is}

front_at : {X : Type 0} (xs : List X) (i : ℕ) (x : X) → slice_get xs i ≡ Some x → drop i xs ≡ x ∷ drop (i + 1) xs
front_at xs i x is = drop_more xs i x (slice_get_within xs i x is) ∙ ap (λ y. y ∷ drop (i + 1) xs) (get_or_from_slice_get xs i x x is)

-- whether one of the items from a place on lacks a value
pub lacks_on : (h : Heading) (items : List PlainFlatItem) (known : List Bool) (k n : ℕ) (m : PlainFlatItem) → slice_get items k ≡ Some m → n ≡ length known → k < n
    → lacks_known h (drop k items) (drop k known) ≡ ((picks h m.kind && not (get_or known k false)) || lacks_known h (drop (k + 1) items) (drop (k + 1) known))
lacks_on h items known k n m at long l =
    ap (λ ms. lacks_known h ms (drop k known)) (front_at items k m at) ∙ ap (lacks_known h (m ∷ drop (k + 1) items)) (drop_more known k false (omega (arith, long, l)))

pub lacks_end : (h : Heading) (items : List PlainFlatItem) (known : List Bool) (k n : ℕ) → n ≡ length items → n ≤ k → lacks_known h (drop k items) (drop k known) ≡ false
lacks_end h items known k n e l = ap (λ ms. lacks_known h ms (drop k known)) (end_is items k n e l)

-- the first of the names from one on is new, and those behind it are behind it
pub first_fresh : (names rest : List (List ℕ)) (x : List ℕ) → are_fresh names (x ∷ rest) ≡ true → is_none (place_of names x) ≡ true
first_fresh names rest x h = (and_parts (is_none (place_of names x)) (are_fresh (names ++ x ∷ []) rest) h).0

pub rest_fresh : (names rest : List (List ℕ)) (x : List ℕ) → are_fresh names (x ∷ rest) ≡ true → are_fresh (names ++ x ∷ []) rest ≡ true
rest_fresh names rest x h = (and_parts (is_none (place_of names x)) (are_fresh (names ++ x ∷ []) rest) h).1
