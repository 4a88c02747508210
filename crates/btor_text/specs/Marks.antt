-- Which states have an init or a next so far.
use Rattle.std.specs.Prelude.{◌≡◌, ℕ, true, false, not, List, ◌∷◌, length, set, get_or, is_none}
use Rattle.btor_tree.specs.declared.args.Arg.{Arg}
use Rattle.btor_tree.specs.declared.lines.Line.{Line}
use Rattle.btor_tree.specs.declared.lines.LineOp.{LineOp}
use Rattle.btor_tree.specs.declared.lines.LineOp.TheVariants.{Init, Next}
use Rattle.btor_tree.specs.Fits.{is_init, is_next, state_value}
use Rattle.btor_text.specs.declared.progress.Mark.{Mark}

-- neither
abbrev pub no_mark : Mark
no_mark = record { init = false; next = false }

-- the mark of the line at a place
abbrev pub mark_at : List Mark → ℕ → Mark
mark_at marks s = get_or marks s no_mark

abbrev pub with_init : Mark → Mark
with_init m = record { init = true; next = m.next }

abbrev pub with_next : Mark → Mark
with_next m = record { init = m.init; next = true }

-- the marks, once a line with these arguments is there
abbrev pub noted : LineOp → List Arg → List Mark → List Mark
noted Init (x ∷ more) marks = set marks x.line (with_init (mark_at marks x.line))
noted Next (x ∷ more) marks = set marks x.line (with_next (mark_at marks x.line))
noted op args marks = marks

-- each line has a mark, which says whether lines give it a first or a next value
pub record IsMarked (lines : List Line) (marks : List Mark) : Type 0 where
  pub long : length marks ≡ length lines
  pub inits : (s : ℕ) → (mark_at marks s).init ≡ not (is_none (state_value is_init lines s))
  pub nexts : (s : ℕ) → (mark_at marks s).next ≡ not (is_none (state_value is_next lines s))
