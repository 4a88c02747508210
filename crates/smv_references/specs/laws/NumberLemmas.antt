-- Numbers of definitions and actuals, found one after another.
use Rattle.std.proofs.Common.{◌≡◌, ℕ, ◌+◌, ◌<◌, ◌&&◌, ◌==◌, if◌then◌else◌, List, [], ◌∷◌, ◌++◌, map, take, length, Option, Some, is_none, bytes_eq, refl, sym, ap, ◌∙◌, arith}
use Rattle.std.specs.Prelude.{slice_index_or}
use Rattle.std.proofs.lemmas.List.{length-map, map-append, length-take-le}
use Rattle.std.proofs.Math.Numerals.{add-one}
use Rattle.std.proofs.Math.Seq.{take-suc}
use Rattle.smv_references.specs.declared.bodies.Body.{Body as StoredBody}
use Rattle.smv_meaning.specs.Phases.{body_same}
use Rattle.smv_meaning.specs.Bodies.{number_in, placed_bodies, bodies_of}
use Rattle.smv_meaning.specs.Instances.{Instance}
use Rattle.smv_references.specs.View.{key_of, body_plain}
use Rattle.smv_instances.specs.laws.ChildLemmas.{position_push}

pub with_body : (fs : List StoredBody) (k n : ℕ) (f : StoredBody) (i : ℕ) (x : List ℕ) (o new : Option ℕ) → n ≡ length fs → k < n → f ≡ slice_index_or fs k f
    → o ≡ number_in (map key_of (take k fs)) (i, x) → new ≡ (if is_none o && (f.instance == i && bytes_eq f.name.now x) then Some k else o) → new ≡ number_in (map key_of (take (k + 1) fs)) (i, x)
with_body fs k n f i x o new e h is s put =
    let a : take (k + 1) fs ≡ take k fs ++ f ∷ [] = rw add-one (take-suc fs k f (omega (arith, e, h)) ∙ ap (λ y. take k fs ++ y ∷ []) (sym is)) in
    let b : map key_of (take (k + 1) fs) ≡ map key_of (take k fs) ++ key_of f ∷ [] = ap (map key_of) a ∙ map-append key_of (take k fs) (f ∷ []) in
    let l : length (map key_of (take k fs)) ≡ k = length-map (take k fs) key_of ∙ length-take-le k fs (omega (arith, e, h)) in
    put ∙ ap (λ q. if is_none q && body_same (key_of f) (i, x) then Some k else q) s
    ∙ ap (λ m. if is_none (number_in (map key_of (take k fs)) (i, x)) && body_same (key_of f) (i, x) then Some m else number_in (map key_of (take k fs)) (i, x)) (sym l)
    ∙ sym (position_push (λ m. body_same m (i, x)) (map key_of (take k fs)) (key_of f)) ∙ ap (λ ks. number_in ks (i, x)) (sym b)

pub keys_are : (fs : List StoredBody) (t : List Instance) → map body_plain fs ≡ placed_bodies t → map key_of fs ≡ bodies_of t
keys_are fs t h = sym (twice fs) ∙ ap (map (λ f. f.body)) h
  where
    twice : (fs : List StoredBody) → map (λ f. f.body) (map body_plain fs) ≡ map key_of fs
    twice [] = refl
    twice (f ∷ fs) = ap (λ ks. key_of f ∷ ks) (twice fs)

-- the definition or actual at a place, as it is read
abbrev pub read : List StoredBody → ℕ → StoredBody
read fs k = slice_index_or fs k (record { instance = 0; name = record { ref_ptr = (0, 0); now = [] }; place = record { line = 0; column = 0; offset = 0 } })
