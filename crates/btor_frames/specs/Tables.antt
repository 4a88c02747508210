-- What lines give to states, where words come from, and the arguments of bad and constraint lines, found once for all
-- frames.
use Rattle.std.specs.Prelude.{◌≡◌, ℕ, ◌<◌, Bool, List, [], ◌∷◌, length, get_or, set, Option, Some, None, if◌then◌else◌}
use Rattle.std.specs.Option.{option_or}
use Rattle.btor_tree.specs.declared.args.Arg.{Arg}
use Rattle.btor_tree.specs.declared.lines.Line.{Line}
use Rattle.btor_tree.specs.declared.lines.LineOp.{LineOp}
use Rattle.btor_tree.specs.Fits.{is_init, is_next, is_bad, is_constraint, state_value, operands}
use Rattle.btor_frames.specs.declared.sources.Source.{Source}
use Rattle.btor_frames.specs.declared.tables.Role.{Role}
use Rattle.btor_frames.specs.declared.tables.Role.TheVariants.{Init, Next, Bad, Constraint}
use Rattle.btor_frames.specs.Sources.{HoldsSources}

-- is a line of this kind of the role?
abbrev pub has_role : Role → LineOp → Bool
has_role Init op = is_init op
has_role Next op = is_next op
has_role Bad op = is_bad op
has_role Constraint op = is_constraint op

-- the value that each line's place has from init lines, where each line's word comes from in later frames, and the
-- arguments of bad and constraint lines in order
pub record Found : Type 0 where
  pub inits : List (Option Arg)
  pub sources : List Source
  pub bads : List Arg
  pub constraints : List Arg

-- at each place what the lines of the kind give to a state there
pub record HoldsValues (kind : LineOp → Bool) (lines : List Line) (values : List (Option Arg)) : Type 0 where
  pub sized : length values ≡ length lines
  pub at : (s : ℕ) → s < length lines → get_or values s None ≡ state_value kind lines s

-- no value at any of n places
abbrev pub HoldsNone : ℕ → List (Option Arg) → Type 0
HoldsNone n values = (length values ≡ n) × ((s : ℕ) → get_or values s None ≡ None)

-- found in these lines
pub record IsFoundIn (lines : List Line) (found : Found) : Type 0 where
  pub inits : HoldsValues is_init lines found.inits
  pub sources : HoldsSources lines found.sources
  pub bads : found.bads ≡ operands is_bad lines
  pub constraints : found.constraints ≡ operands is_constraint lines

-- the line's arguments, where it is of the kind
abbrev pub line_operands : (LineOp → Bool) → Line → List Arg
line_operands kind l = if kind l.op then l.args else []

-- the values with that of a line of arguments `state value`, where its state has none yet
abbrev pub noted : List (Option Arg) → List Arg → List (Option Arg)
noted values [] = values
noted values (x ∷ []) = values
noted values (x ∷ v ∷ []) = set values x.line (option_or (get_or values x.line None) (Some v))
noted values (x ∷ v ∷ y ∷ more) = values
