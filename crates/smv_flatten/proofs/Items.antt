-- The items of a model and their origins.
use Rattle.std.proofs.Common.{◌≡◌, ℕ, List, [], ◌∷◌, map, Option, refl, ap, ◌∙◌}
use Rattle.smv_meaning.specs.Types.{ExprType}
use Rattle.smv_meaning.specs.Instances.{Instance}
use Rattle.smv_items.specs.FlatItems.{Origin, content_type, path_of, flat_item_of}
use Rattle.smv_flatten.specs.Listing.{items_with}

-- items with the dotted paths and the types of their origins are those of the flat form
pub items_are : (t : List Instance) (ms : List Origin) → items_with ms (map (path_of t) ms) (map (λ (m : Origin). content_type t m.content) ms) ≡ map (flat_item_of t) ms
items_are t [] = refl
items_are t (m ∷ ms) = ap (λ items. flat_item_of t m ∷ items) (items_are t ms)

pub items_made : (t : List Instance) (ms os : List Origin) (paths : List (List ℕ)) (ts : List (Option ExprType)) → ms ≡ os → paths ≡ map (path_of t) os → ts ≡ map (λ (m : Origin). content_type t m.content) os
    → items_with ms paths ts ≡ map (flat_item_of t) os
items_made t ms os paths ts a b c =
    ap (λ l. items_with l paths ts) a ∙ ap (λ l. items_with os l ts) b ∙ ap (items_with os (map (path_of t) os)) c ∙ items_are t os
