-- The first definition or actual that reaches itself is the first whose check fails.
use Rattle.std.proofs.Common.{◌≡◌, ℕ, zero, suc, ◌<◌, Bool, true, false, not, ◌||◌, ◌==◌, if◌then◌else◌, List, [], ◌∷◌, map, length, Some, refl, sym, ap, ◌∙◌, subst, arith}
use Rattle.std.specs.Prelude.{slice_index_or, slice_get}
use Rattle.std.specs.List.{list_any}
use mathlib.Core.Logic.{inl, inr}
use Rattle.std.proofs.lemmas.Bool.Decides.{eqb_tells}
use Rattle.std.proofs.lemmas.List.{length-map, get_or-map}
use Rattle.digraph.specs.Graph.{leads, IsFirstReturn}
use Rattle.smv_meaning.specs.Instances.{Instance}
use Rattle.smv_meaning.specs.Names.{steps_of}
use Rattle.smv_meaning.specs.Checks.{Check, first_failing}
use Rattle.smv_meaning.specs.Phases.{Body, refers, reaches}
use Rattle.smv_meaning.specs.Bodies.{Placed, placed_bodies, bodies_of, number_or, references_of, reference_graph, refusal_of, IsFirstCycle}
use Rattle.smv_laws.proofs.Cycles.{In, any_in}
use Rattle.smv_meaning.specs.laws.Booleans.{or_true, absurd_bool}
use Rattle.smv_laws.proofs.Ranked.{keys_of, keys_counted, within_keys}
use Rattle.smv_laws.proofs.OrderLaws.{nobody, place_within, place_is, place_first, at_in, number, number_to, leads_is, leads_step, leads_zero, row_at, graph_length, bodies_are, checks_are, check_of, body_in}

-- what is led to is the number of something
hit : (t : List Instance) (n a b : ℕ) → a < length (keys_of t) → leads (reference_graph t) n a b ≡ true → (r : Body) × In r (keys_of t) × (number t r ≡ b)
hit t zero a b l h = absurd_bool (sym (leads_zero (reference_graph t) a b) ∙ h)
hit t (suc n) a b l h =
    let k = slice_index_or (keys_of t) a nobody in
    let some = any_in (λ r. r == b || leads (reference_graph t) n r b) (references_of t k)
    (ap (list_any (λ r. r == b || leads (reference_graph t) n r b)) (sym (row_at t a l)) ∙ sym (leads_step (reference_graph t) n a b) ∙ h) in
    let from = in_map (number_or (bodies_of t)) (refers t k) some.0 some.1 in
    let there : In from.0 (keys_of t) = (within_keys t k from.0 from.1).1 in
    let is : number t from.0 ≡ some.0 = sym (number_to t from.0 there) ∙ from.2 in
    elim (or_true (some.0 == b) (leads (reference_graph t) n some.0 b) some.2) [
      | inl e ↦ (from.0, there, is ∙ equal some.0 b e)
      | inr e ↦ hit t n some.0 b (subst (λ i. i < length (keys_of t)) is (place_within (keys_of t) from.0 there)) e
    ]
  where
    in_map : {X Y : Type 0} (f : X → Y) (xs : List X) (y : Y) → In y (map f xs) → (x : X) × In x xs × (f x ≡ y)
    in_map f [] y h = absurd h
    in_map f (x ∷ xs) y h = elim h [
      | inl e ↦ (x, inl refl, sym e)
      | inr m ↦ let r = in_map f xs y m in (r.0, inr r.1, r.2)
    ]

    equal : (a b : ℕ) → (a == b) ≡ true → a ≡ b
    equal a b e = elim (eqb_tells a b) [ inl d ↦ d.1 | inr d ↦ absurd_bool (sym d.0 ∙ e) ]

-- the first that fails, where those before it hold
fails_at : (f : Placed → Check) (xs : List Placed) (a : ℕ) (d : Placed) → a < length xs → ((j : ℕ) → j < a → (f (slice_index_or xs j d)).holds ≡ true) → (f (slice_index_or xs a d)).holds ≡ false
    → first_failing (map f xs) ≡ Some (f (slice_index_or xs a d)).refusal
fails_at f [] a d l before here = absurd (omega (arith, l))
fails_at f (x ∷ xs) zero d l before here = ap (λ b. if b then first_failing (map f xs) else Some (f x).refusal) here
fails_at f (x ∷ xs) (suc a) d l before here =
    ap (λ b. if b then first_failing (map f xs) else Some (f x).refusal) (before 0 (omega arith))
    ∙ fails_at f xs a d (omega (arith, l)) (λ j h. before (suc j) (omega (arith, h))) here

get_some : (xs : List Placed) (a : ℕ) (d : Placed) → a < length xs → slice_get xs a ≡ Some (slice_index_or xs a d)
get_some [] a d l = absurd (omega (arith, l))
get_some (x ∷ xs) zero d l = refl
get_some (x ∷ xs) (suc a) d l = get_some xs a d (omega (arith, l))

holds_if : (b : Bool) → b ≡ false → not b ≡ true
holds_if b e = ap not e

fails_if : (b : Bool) → b ≡ true → not b ≡ false
fails_if b e = ap not e

pub first_is_first : (t : List Instance) (a : ℕ) → IsFirstReturn (reference_graph t) a → IsFirstCycle t a
first_is_first t a h =
    let l : a < length (keys_of t) = omega (arith, h.within, graph_length t) in
    let bound : length (reference_graph t) < steps_of t = omega (arith, graph_length t, keys_counted t) in
    let k = slice_index_or (keys_of t) a nobody in
    let back : leads (reference_graph t) (steps_of t) a a ≡ true = h.returns (steps_of t) bound in
    let some = hit t (steps_of t) a a l back in
    let self : k ≡ some.0 = ap (λ i. slice_index_or (keys_of t) i nobody) (sym some.2) ∙ place_is (keys_of t) some.0 some.1 in
    let num : number t k ≡ a = ap (number t) self ∙ some.2 in
    let reached : reaches (refers t) (steps_of t) k k ≡ true = sym (leads_is t (steps_of t) a k l (at_in (keys_of t) a l)) ∙ ap (leads (reference_graph t) (steps_of t) a) num ∙ back in
    let lf : a < length (placed_bodies t) = omega (arith, l, sym (ap length (bodies_are t)) ∙ refl, length-map (placed_bodies t) body_in) in
    let d : Placed = record { body = nobody; place = record { line = 0; column = 0; offset = 0 } } in
    let key_at : (j : ℕ) → j < length (placed_bodies t) → (slice_index_or (placed_bodies t) j d).body ≡ slice_index_or (keys_of t) j nobody =
    λ j m. sym (get_or-map body_in (placed_bodies t) j d nobody m) ∙ ap (λ ks. slice_index_or ks j nobody) (bodies_are t) in
    let C = check_of t in
    record {
      there = omega (arith, lf, length-map (placed_bodies t) body_in);
      failing =
          ap first_failing (sym (checks_are t))
          ∙ fails_at C (placed_bodies t) a d lf
          (λ j m. holds_if (reaches (refers t) (steps_of t) (slice_index_or (placed_bodies t) j d).body (slice_index_or (placed_bodies t) j d).body)
          (ap (λ q. reaches (refers t) (steps_of t) q q) (key_at j (omega (arith, m, lf))) ∙ clear t a h l j m))
          (fails_if (reaches (refers t) (steps_of t) (slice_index_or (placed_bodies t) a d).body (slice_index_or (placed_bodies t) a d).body)
          (ap (λ q. reaches (refers t) (steps_of t) q q) (key_at a lf) ∙ reached))
          ∙ sym (ap refusal_of (get_some (placed_bodies t) a d lf));
    }
  where
    -- those before it don't reach themselves
    clear : (t : List Instance) (a : ℕ) → IsFirstReturn (reference_graph t) a → a < length (keys_of t) → (j : ℕ) → j < a → reaches (refers t) (steps_of t) (slice_index_or (keys_of t) j nobody) (slice_index_or (keys_of t) j nobody) ≡ false
    clear t a h l j m =
        let q = slice_index_or (keys_of t) j nobody in
        let lj : j < length (keys_of t) = omega (arith, m, l) in
        let there : In q (keys_of t) = at_in (keys_of t) j lj in
        let low : number t q < a = omega (arith, m, place_first (keys_of t) j lj) in
        ap (λ r. reaches (refers t) (steps_of t) r q) (sym (place_is (keys_of t) q there)) ∙ sym (leads_is t (steps_of t) (number t q) q (place_within (keys_of t) q there) there) ∙ h.first (steps_of t) (number t q) low
