-- Which lines stay in the list.
use Rattle.std.specs.Prelude.{◌≡◌, ◌⊎◌, ◌≤◌, ◌<◌, ℕ, Bool, true, false, List, [], length, map, Some, slice_get, get_or}
use Rattle.std.specs.List.{AllByRecursion}
use Rattle.btor_tree.specs.declared.args.Arg.{Arg}
use Rattle.btor_tree.specs.declared.lines.Line.{Line}
use Rattle.btor_tree.specs.Sharing.{is_shared}
use Rattle.btor_tree.specs.Fits.{width_at, IsWellFormed}
use Rattle.btor_rules.specs.declared.operand.Outcome.{Outcome}
use Rattle.btor_rules.specs.declared.operand.Outcome.TheVariants.{Constant}
use Rattle.btor_simplify.specs.Fates.{fate_at, replaced, Lives, AreFates}

-- the arguments that a line has after what became of it, by their old places
abbrev pub args_by : List Outcome → Outcome → List Arg → List Arg
args_by fates (Constant c) args = []
args_by fates f args = map (replaced fates) args

abbrev pub is_marked : List Bool → ℕ → Bool
is_marked marks i = get_or marks i false

-- the lines of these arguments are marked
abbrev pub AreMarkedLines : List Bool → List Arg → Type 0
AreMarkedLines marks args = AllByRecursion (λ (b : Arg). is_marked marks b.line ≡ true) args

-- the lines that stand for the first k arguments are marked, and no others
pub record MarksUpto (fates : List Outcome) (args : List Arg) (k : ℕ) (old new : List Bool) : Type 0 where
  pub sized : length new ≡ length old
  pub stays : (i : ℕ) → is_marked old i ≡ true → is_marked new i ≡ true
  pub marked : (j : ℕ) (a : Arg) → j < k → slice_get args j ≡ Some a → is_marked new (replaced fates a).line ≡ true
  pub only : (i : ℕ) → is_marked new i ≡ true → (is_marked old i ≡ true) ⊎ ((j : ℕ) × (a : Arg) × (slice_get args j ≡ Some a) × (i ≡ (replaced fates a).line))

-- what stands for each argument can be marked
abbrev pub CanMark : List Outcome → List Arg → List Bool → Type 0
CanMark fates args marks =
    (j : ℕ) (a : Arg) → slice_get args j ≡ Some a → (a.line < length fates) × ((replaced fates a).line < length marks)

-- a line that is no sort, constant or operator is reached, and so is each line that a reached line reads, after what became of
-- its arguments
pub data IsReached (lines : List Line) (fates : List Outcome) : ℕ → Type 0 where
  starts : (i : ℕ) (l : Line) → slice_get lines i ≡ Some l → is_shared l.op ≡ false → IsReached lines fates i
  reads : (i j p : ℕ) (l : Line) (b : Arg) → IsReached lines fates i → slice_get lines i ≡ Some l → slice_get (args_by fates (fate_at fates i) l.args) j ≡ Some b → b.line ≡ p → IsReached lines fates p

-- what is marked stays, is reached and is no sort, from a place on each line is marked that is no sort, constant or operator, and what
-- stands for the arguments of a marked line is marked
pub record AreMarks (lines : List Line) (fates : List Outcome) (n : ℕ) (marks : List Bool) : Type 0 where
  pub sized : length marks ≡ length lines
  pub lives : (i : ℕ) → is_marked marks i ≡ true → Lives (fate_at fates i)
  pub words : (i : ℕ) (l : Line) → slice_get lines i ≡ Some l → is_shared l.op ≡ true → is_marked marks i ≡ true → 1 ≤ width_at lines i
  pub reached : (i : ℕ) → is_marked marks i ≡ true → IsReached lines fates i
  pub kept : (i : ℕ) (l : Line) → n ≤ i → slice_get lines i ≡ Some l → is_shared l.op ≡ false → is_marked marks i ≡ true
  pub closed : (i : ℕ) (l : Line) → n ≤ i → slice_get lines i ≡ Some l → is_marked marks i ≡ true → AreMarkedLines marks (args_by fates (fate_at fates i) l.args)

-- the lines whose fates are all known
pub record AreKnown (lines : List Line) (fates : List Outcome) : Type 0 where
  pub well_formed : IsWellFormed lines
  pub known : AreFates lines fates
  pub sized : length fates ≡ length lines
