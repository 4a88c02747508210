-- The lines of the smaller list.
use Rattle.std.specs.Prelude.{◌≡◌, ◌<◌, ◌+◌, ℕ, true, List, length, map, Option, Some, None, slice_get, get_or, if◌then◌else◌}
use Rattle.btor_tree.specs.declared.args.Arg.{Arg}
use Rattle.btor_tree.specs.declared.lines.Line.{Line}
use Rattle.btor_tree.specs.declared.lines.LineOp.{LineOp}
use Rattle.btor_tree.specs.declared.lines.LineOp.TheVariants as op
use Rattle.btor_tree.specs.Fits.{last_id}
use Rattle.btor_tree.specs.LineKeys.{IsShort}
use Rattle.btor_rules.specs.declared.operand.Outcome.{Outcome}
use Rattle.btor_rules.specs.declared.operand.Outcome.TheVariants.{Constant}
use Rattle.btor_simplify.specs.Fates.{fate_at, sort_for, AreThere}
use Rattle.btor_simplify.specs.Marks.{args_by}
use Rattle.btor_simplify.specs.Order.{has_sort}

-- a constant takes the line's place
abbrev pub op_by : Outcome → LineOp → LineOp
op_by (Constant c) o = op.Constant c
op_by f o = o

abbrev pub place_or_first : Option ℕ → ℕ
place_or_first None = 0
place_or_first (Some q) = q

-- the new place of an old line that stays
abbrev pub place_in : List (Option ℕ) → ℕ → ℕ
place_in moved i = place_or_first (get_or moved i None)

abbrev pub moved_arg : List (Option ℕ) → Arg → Arg
moved_arg moved b = record { line = place_in moved b.line; negated = b.negated }

abbrev pub new_args : List Outcome → List (Option ℕ) → Outcome → List Arg → List Arg
new_args fates moved f args = map (moved_arg moved) (args_by fates f args)

abbrev pub new_sort : List Outcome → List (Option ℕ) → LineOp → ℕ → ℕ
new_sort fates moved o s = if has_sort o then place_in moved (sort_for fates s) else 0

-- a sort line has no symbol
abbrev pub new_symbol : LineOp → Option (List ℕ) → Option (List ℕ)
new_symbol (op.Sort w) symbol = None
new_symbol o symbol = symbol

-- the new line at a place for the old line at a place
abbrev pub new_line : List Outcome → List (Option ℕ) → ℕ → ℕ → Line → Line
new_line fates moved q i l =
    record { id = q + 1; op = op_by (fate_at fates i) l.op; sort = new_sort fates moved l.op l.sort; args = new_args fates moved (fate_at fates i) l.args; symbol = new_symbol l.op l.symbol }

-- the line can be written
pub record CanWrite (fates : List Outcome) (l : Line) : Type 0 where
  pub short : IsShort l.args
  pub there : AreThere fates l.args
  pub sort : has_sort l.op ≡ true → l.sort < length fates

-- the first n new lines
pub record IsWritten (lines : List Line) (fates : List Outcome) (places : List ℕ) (moved : List (Option ℕ)) (n : ℕ) (new : List Line) : Type 0 where
  pub sized : length new ≡ n
  pub numbered : last_id new ≡ n
  pub by_place : (q i : ℕ) (l : Line) → q < n → slice_get places q ≡ Some i → slice_get lines i ≡ Some l → slice_get new q ≡ Some (new_line fates moved q i l)
