-- The plain form of scripts (MoXI, SPIN 2024): numbers, names and lists.
use Rattle.std.specs.Prelude.{ℕ, List, [], ◌++◌, length, map, Option, slice_index_or, ◌∷◌, codes, decimal}
use Rattle.text_core.specs.declared.place.Place.{Place}
use Rattle.moxi_terms.specs.declared.term.Variable.{Variable}
use Rattle.moxi_terms.specs.Operators.{nothing}
use Rattle.moxi_terms.specs.Tree.{Tree, constant}
use Rattle.moxi_terms.specs.Value.{Calls, calls_upto}
use Rattle.moxi_terms.specs.View.{ScopeState, plain}
use Rattle.moxi_scripts.specs.declared.script.Subsystem.{Subsystem}
use Rattle.moxi_scripts.specs.declared.script.System.{System}
use Rattle.moxi_scripts.specs.declared.script.Formula.{Formula}
use Rattle.moxi_scripts.specs.declared.script.Query.{Query}
use Rattle.moxi_scripts.specs.declared.script.Check.{Check}

-- a system; its variables are its inputs, outputs and locals, numbered in this order
pub record PlainSystem : Type 0 where
  pub name : List ℕ
  pub inputs : List Variable
  pub outputs : List Variable
  pub locals : List Variable
  pub init : Tree
  pub trans : Tree
  pub inv : Tree
  pub subsystems : List Subsystem

pub record PlainFormula : Type 0 where
  pub name : List ℕ
  pub term : Tree

pub record PlainCheck : Type 0 where
  pub place : Place
  pub system : ℕ
  pub inputs : List Variable
  pub outputs : List Variable
  pub locals : List Variable
  pub assumptions : List PlainFormula
  pub currents : List PlainFormula
  pub reachables : List PlainFormula
  pub queries : List Query

pub record PlainScript : Type 0 where
  pub logic : Option (List ℕ)
  pub scope : ScopeState
  pub systems : List PlainSystem
  pub check : PlainCheck

abbrev pub variables_in : PlainSystem → List Variable
variables_in s = s.inputs ++ (s.outputs ++ s.locals)

-- what stands where no system is
abbrev pub no_system : PlainSystem
no_system = record { name = []; inputs = []; outputs = []; locals = []; init = constant nothing; trans = constant nothing; inv = constant nothing; subsystems = [] }

abbrev pub system_at : List PlainSystem → ℕ → PlainSystem
system_at ss i = slice_index_or ss i no_system

-- the formula of this number
abbrev pub formula_at : List PlainFormula → ℕ → Tree
formula_at fs i = (slice_index_or fs i (record { name = []; term = constant nothing })).term

-- what the functions of a script give
abbrev pub calls_in : ScopeState → Calls
calls_in s = calls_upto s.functions (length s.functions)

-- the plain forms of what the code keeps
abbrev pub plain_formula : Formula → PlainFormula
plain_formula f = record { name = f.name; term = plain f.term }

abbrev pub plain_system : System → PlainSystem
plain_system s =
    record { name = s.name; inputs = s.inputs; outputs = s.outputs; locals = s.locals; init = plain s.init; trans = plain s.trans; inv = plain s.inv; subsystems = s.subsystems }

abbrev pub plain_check : Check → PlainCheck
plain_check c =
    record {
      place = c.place;
      system = c.system;
      inputs = c.inputs;
      outputs = c.outputs;
      locals = c.locals;
      assumptions = map plain_formula c.assumptions;
      currents = map plain_formula c.currents;
      reachables = map plain_formula c.reachables;
      queries = c.queries;
    }

abbrev pub query_of : ℕ → Query
query_of j = record { name = codes "q." ++ decimal j; assumptions = []; currents = []; reachables = j ∷ [] }
