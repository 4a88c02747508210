-- Lists one after another.
use Rattle.std.proofs.Common.{◌≡◌, List, [], ◌++◌, append_assoc, append-nil, sym, ap, ◌∙◌}
use Rattle.moxi_sexpr.specs.Tree.{Tree, Trees, tree}
use Rattle.moxi_scripts.specs.declared.parts.Command.{Command}
use Rattle.moxi_scripts.specs.declared.parts.Declared.{Declared}
use Rattle.moxi_scripts.specs.declared.parts.Lists.{Lists}
use Rattle.moxi_scripts.specs.declared.parts.Turn.{Turn}
use Rattle.moxi_scripts.specs.Attributes.{turn_after}
use Rattle.moxi_scripts.specs.Lists.{all_entries, entries_behind, text_entries}

pub no_inputs : (l : Lists) → l.inputs.entries ≡ [] → l.outputs.entries ++ l.locals.entries ≡ all_entries l
no_inputs l e = sym (ap (λ xs. (xs ++ l.outputs.entries) ++ l.locals.entries) e)

pub no_outputs : (l : Lists) → l.outputs.entries ≡ [] → l.locals.entries ≡ l.outputs.entries ++ l.locals.entries
no_outputs l e = sym (ap (λ xs. xs ++ l.locals.entries) e)

pub nothing_before : (xs ys : List Declared) → xs ≡ [] → ys ≡ xs ++ ys
nothing_before xs ys e = sym (ap (λ zs. zs ++ ys) e)

pub inputs_first : (l : Lists) → all_entries l ≡ l.inputs.entries ++ (l.outputs.entries ++ l.locals.entries)
inputs_first l = append_assoc l.inputs.entries l.outputs.entries l.locals.entries

pub locals_last : (l : Lists) → l.locals.entries ≡ l.locals.entries ++ []
locals_last l = sym (append-nil l.locals.entries)

-- one form more
pub text_step : (l : Lists) (command : Command) (turn now : Turn) (t : Tree) (rest ts : Trees) (left then : List Declared) → ts ≡ tree t rest → now ≡ turn_after command turn t
    → left ≡ entries_behind l turn ++ then → text_entries l command now rest ≡ then → text_entries l command turn ts ≡ left
text_step l command turn now t rest ts left then e f g h =
    ap (text_entries l command turn) e ∙ ap (λ n. entries_behind l turn ++ text_entries l command n rest) (sym f) ∙ ap (λ xs. entries_behind l turn ++ xs) h ∙ sym g
