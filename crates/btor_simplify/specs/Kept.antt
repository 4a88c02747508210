-- Lines that stay: all but sorts, constants and operators.
use Rattle.std.specs.Prelude.{◌≡◌, ◌<◌, ℕ, true, false, ◌||◌, List, [], ◌∷◌, Some, slice_get}
use Rattle.btor_tree.specs.declared.args.Arg.{Arg}
use Rattle.btor_tree.specs.declared.lines.Line.{Line}
use Rattle.btor_tree.specs.Fits.{is_init, is_next, plain_arg, width_at}
use Rattle.btor_tree.specs.Sharing.{is_shared}

-- The inputs, states, init, next, bad, constraint and output lines of two lists are the same in number, order, width and symbol,
-- where each has the place that is told; and the init and next lines are those of the same states.
pub record AreSameLines (old new : List Line) (place : ℕ → ℕ) : Type 0 where
  pub there : (i : ℕ) (l : Line) → slice_get old i ≡ Some l → is_shared l.op ≡ false → (m : Line) × (slice_get new (place i) ≡ Some m) × (m.op ≡ l.op) × (m.symbol ≡ l.symbol) × (width_at new (place i) ≡ width_at old i)
  pub onto : (q : ℕ) (m : Line) → slice_get new q ≡ Some m → is_shared m.op ≡ false → (i : ℕ) × (l : Line) × (slice_get old i ≡ Some l) × (is_shared l.op ≡ false) × (place i ≡ q)
  pub rises : (i j : ℕ) (l m : Line) → slice_get old i ≡ Some l → slice_get old j ≡ Some m → is_shared l.op ≡ false → is_shared m.op ≡ false → i < j → place i < place j
  pub states : (i : ℕ) (l m : Line) (x v : Arg) → slice_get old i ≡ Some l → (is_init l.op || is_next l.op) ≡ true → l.args ≡ x ∷ v ∷ [] → slice_get new (place i) ≡ Some m → (y : Arg) × (m.args ≡ plain_arg (place x.line) ∷ y ∷ [])

abbrev pub KeepsLines : List Line → List Line → Type 0
KeepsLines old new = (place : ℕ → ℕ) × AreSameLines old new place
