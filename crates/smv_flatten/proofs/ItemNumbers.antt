-- The items of definitions and actuals in their order.
use Rattle.std.proofs.Common.{◌≡◌, ℕ, List, [], ◌∷◌, ◌++◌, map, Option, Some, None, option_map, refl, sym, ap, ◌∙◌, subst}
use Rattle.std.specs.List.{slice_get}
use Rattle.std.proofs.lemmas.Option.{slice_get-map}
use Rattle.name_maps.specs.declared.instance_rows.InstanceRows.{InstanceRows}
use Rattle.smv_meaning.specs.Instances.{Instance}
use Rattle.smv_meaning.specs.Bodies.{placed_bodies, bodies_of}
use Rattle.smv_items.specs.FlatItems.{Origin, origins_of}
use Rattle.smv_items.specs.FlatOrigins.{AreBodies}
use Rattle.smv_references.specs.declared.bodies.Body.{Body}
use Rattle.smv_references.specs.View.{key_of, body_plain}
use Rattle.smv_references.specs.laws.NumberLemmas.{keys_are}
use Rattle.smv_flat_laws.specs.FlatOrders.{number_listed, body_item, item_order}
use Rattle.smv_flatten.specs.Ordering.{number_of, numbers_in}

number_is : (m : InstanceRows ℕ) (t : List Instance) → AreBodies (origins_of t) m → (o : Option Body) → number_of m o ≡ body_item t (option_map key_of o)
number_is m t r None = refl
number_is m t r (Some f) = ap number_listed (r f.instance f.name.now)

numbers_are : (m : InstanceRows ℕ) (fs : List Body) (t : List Instance) → map body_plain fs ≡ placed_bodies t → AreBodies (origins_of t) m → (order : List ℕ) → numbers_in m fs order ≡ item_order t order
numbers_are m fs t e r [] = refl
numbers_are m fs t e r (b ∷ order) =
    let at : option_map key_of (slice_get fs b) ≡ slice_get (bodies_of t) b = sym (slice_get-map key_of fs b) ∙ ap (λ ks. slice_get ks b) (keys_are fs t e) in
    ap (λ (l : List ℕ). l ++ numbers_in m fs order) (number_is m t r (slice_get fs b) ∙ ap (body_item t) at) ∙ ap (λ (l : List ℕ). body_item t (slice_get (bodies_of t) b) ++ l) (numbers_are m fs t e r order)

pub order_made : (m : InstanceRows ℕ) (fs : List Body) (t : List Instance) (ms : List Origin) (order given ks : List ℕ) → given ≡ order → map body_plain fs ≡ placed_bodies t → ms ≡ origins_of t → AreBodies ms m
    → ks ≡ numbers_in m fs given → ks ≡ item_order t order
order_made m fs t ms order given ks g e s b is =
    is ∙ ap (numbers_in m fs) g ∙ numbers_are m fs t e (subst (λ (os : List Origin). AreBodies os m) s b) order
