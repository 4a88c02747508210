-- What the code keeps and puts together.
use Rattle.std.specs.Prelude.{ℕ, ◌+◌, Bool, Some, List, [], ◌∷◌, map, take, slice_index_or, codes, if◌then◌else◌}
use Rattle.btor_tree.specs.declared.lines.Line.{Line}
use Rattle.btor_tree.specs.declared.lines.LineOp.{LineOp}
use Rattle.btor_tree.specs.Fits.{count_of, is_input, is_state}
use Rattle.moxi_terms.specs.Names.{no_scope}
use Rattle.moxi_terms.specs.Tree.{Tree}
use Rattle.moxi_scripts.specs.Script.{PlainCheck, PlainScript, PlainSystem}
use Rattle.btor_import.specs.declared.numbers.Counts.{Counts}
use Rattle.moxi_terms.specs.declared.term.Variable.{Variable}
use Rattle.btor_import.specs.declared.variables.Group.{Group}
use Rattle.btor_import.specs.declared.variables.Group.TheVariants.{Inputs, Outputs, Locals}
use Rattle.btor_import.specs.declared.parts.Part.{Part}
use Rattle.btor_import.specs.declared.parts.Part.TheVariants.{Init, Trans, Inv}
use Rattle.btor_import.specs.Script.{check_of, init_part, inv_part, is_local, lines_in, system_of, trans_part, variable_of}

-- the number at a place of a table
abbrev pub number_at : List ℕ → ℕ → ℕ
number_at numbers i = slice_index_or numbers i 0

-- the next number of a variable of a line's kind
abbrev pub number_in : Counts → LineOp → ℕ
number_in c o = if is_input o then c.inputs else (if is_state o then c.states else c.locals)

-- the next numbers behind a line
abbrev pub counted_on : Counts → LineOp → Counts
counted_on c o =
    if is_input o then record c { inputs = c.inputs + 1 }
    else (if is_state o then record c { states = c.states + 1 }
    else (if is_local o then record c { locals = c.locals + 1 } else c))

-- the next numbers at a place
abbrev pub counts_at : List Line → ℕ → Counts
counts_at lines i = record {
  inputs = count_of is_input (take i lines);
  states = count_of is_input lines + count_of is_state (take i lines);
  locals = count_of is_input lines + count_of is_state lines + count_of is_local (take i lines);
}

-- what a line gives to a formula
abbrev pub part_of : Part → (ℕ → ℕ) → List Line → ℕ → Line → List Tree
part_of Init number lines i l = init_part number i l
part_of Trans number lines i l = trans_part number i l
part_of Inv number lines i l = inv_part lines number i l

-- a script of one system that declares nothing
abbrev pub script_with : List ℕ → PlainSystem → PlainCheck → PlainScript
script_with logic system check = record { logic = Some logic; scope = no_scope; systems = system ∷ []; check = check }

-- the system of lines, of which others need no part
unfoldable pub system_form : List Line → PlainSystem
system_form lines = system_of lines

-- its check
unfoldable pub check_form : List Line → PlainCheck
check_form lines = check_of lines

-- the kind of a group's lines, and the first letter of their names
abbrev pub group_kind : Group → LineOp → Bool
group_kind Inputs o = is_input o
group_kind Outputs o = is_state o
group_kind Locals o = is_local o

abbrev pub group_letter : Group → List ℕ
group_letter Inputs = codes "i."
group_letter Outputs = codes "s."
group_letter Locals = codes "n."

-- the variables of those of a kind among some of the lines
abbrev pub variables_for : List Line → List ℕ → (LineOp → Bool) → List Line → List Variable
variables_for lines letter kind some = map (variable_of lines letter) (lines_in kind some)
