-- Where the code's definitions and actuals are in an order.
use Rattle.std.proofs.Common.{◌≡◌, ℕ, ◌<◌, List, map, length, sym, ap, ◌∙◌, arith}
use Rattle.std.specs.Prelude.{slice_index_or}
use Rattle.std.proofs.lemmas.List.{get_or_default, get_or-map, length-map}
use Rattle.smv_references.specs.declared.bodies.Body.{Body as StoredBody}
use Rattle.smv_meaning.specs.Instances.{Instance}
use Rattle.smv_meaning.specs.Bodies.{placed_bodies, IsBodyOrder}
use Rattle.smv_references.specs.View.{key_of, body_plain}
use Rattle.smv_laws.proofs.Ranked.{keys_of}
use Rattle.smv_laws.proofs.OrderLaws.{nobody, bodies_are}
use Rattle.smv_laws.proofs.Positions.{at_place, node_within}
use Rattle.smv_references.specs.laws.NumberLemmas.{keys_are}

pub kept_low : (fs : List StoredBody) (t : List Instance) (order : List ℕ) → map body_plain fs ≡ placed_bodies t → IsBodyOrder t order → (n a : ℕ) → n < length order → a ≡ slice_index_or order n a → a < length fs
kept_low fs t order e o n a l is =
    let ks : map key_of fs ≡ keys_of t = keys_are fs t e ∙ bodies_are t in
    let same : a ≡ slice_index_or order n 0 = is ∙ get_or_default order n a 0 l in
    let many : length (map key_of fs) ≡ length (keys_of t) = ap length ks in
    let count = length-map fs key_of in
    omega (arith, node_within t order o n l, same, many, count)

pub kept_at : (fs : List StoredBody) (t : List Instance) (order : List ℕ) → map body_plain fs ≡ placed_bodies t → IsBodyOrder t order → (n a : ℕ) (f : StoredBody) → n < length order → a ≡ slice_index_or order n a
    → f ≡ slice_index_or fs a f → at_place t order n ≡ key_of f
kept_at fs t order e o n a f l is at =
    let ks : map key_of fs ≡ keys_of t = keys_are fs t e ∙ bodies_are t in
    let same : a ≡ slice_index_or order n 0 = is ∙ get_or_default order n a 0 l in
    ap (λ b. slice_index_or (keys_of t) b nobody) (sym same) ∙ ap (λ l. slice_index_or l a nobody) (sym ks) ∙ get_or-map key_of fs a f nobody (kept_low fs t order e o n a l is) ∙ ap key_of (sym at)
