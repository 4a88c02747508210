-- The refusal of a definition or an actual, by its number.
use Rattle.std.proofs.Common.{◌≡◌, ℕ, zero, suc, ◌<◌, false, List, [], ◌∷◌, map, length, Some, refl, sym, ap, ◌∙◌, arith}
use Rattle.std.specs.Prelude.{slice_index_or, slice_get}
use Rattle.std.proofs.lemmas.List.{length-map}
use Rattle.smv_references.specs.declared.bodies.Body.{Body as StoredBody}
use Rattle.smv_meaning.specs.Checks.{check}
use Rattle.smv_meaning.specs.Bodies.{Placed, refusal_of}
use Rattle.smv_references.specs.View.{body_plain}

kept_at : (fs : List StoredBody) (k : ℕ) (d : StoredBody) → k < length fs → refusal_of (slice_get (map body_plain fs) k) ≡ Some (check 15 (slice_index_or fs k d).place false).refusal
kept_at [] k d l = absurd (omega (arith, l))
kept_at (f ∷ fs) zero d l = refl
kept_at (f ∷ fs) (suc k) d l = kept_at fs k d (omega (arith, l))

pub refusal_read : (fs : List StoredBody) (ps : List Placed) (k : ℕ) (d : StoredBody) → map body_plain fs ≡ ps → k < length (map (λ p. p.body) ps)
    → refusal_of (slice_get ps k) ≡ Some (check 15 (slice_index_or fs k d).place false).refusal
refusal_read fs ps k d h l =
    ap (λ qs. refusal_of (slice_get qs k)) (sym h) ∙ kept_at fs k d (omega (arith, l, length-map ps (λ p. p.body), ap length h, length-map fs body_plain))
