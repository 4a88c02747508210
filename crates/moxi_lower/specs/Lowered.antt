-- The witness that states a trace of a flat system (BTOR2, CAV 2018, witness format).
use Rattle.std.specs.Prelude.{ℕ, zero, suc, ◌<◌, List, [], ◌∷◌, ◌++◌, map, length}
use Rattle.btor_witness.specs.declared.witness.Stated.{Stated}
use Rattle.btor_witness.specs.declared.witness.Frame.{Frame}
use Rattle.btor_witness.specs.declared.witness.Witness.{Witness}
use Rattle.moxi_terms.specs.declared.data.Datum.{Datum}
use Rattle.moxi_terms.specs.declared.data.Datum.TheVariants.{Constant}
use Rattle.moxi_terms.specs.declared.term.Enumeration.{Enumeration}
use Rattle.moxi_terms.specs.Value.{Values, at}
use Rattle.moxi_terms.specs.Names.{constant_count}
use Rattle.moxi_flat.specs.FlatSystem.{PlainFlatSystem}
use Rattle.moxi_lines.specs.Codes.{code_of}

-- the word of the value of variable v, stated of input v
abbrev pub stated_code : List Enumeration → Values → ℕ → Stated
stated_code es values v = record { index = v; value = code_of es (values v) }

-- those of the first n variables
abbrev pub codes_upto : List Enumeration → Values → ℕ → List Stated
codes_upto es values zero = []
codes_upto es values (suc n) = codes_upto es values n ++ stated_code es values n ∷ []

-- the inputs of n variables, and no state
abbrev pub lowered_step : List Enumeration → ℕ → List Datum → Frame
lowered_step es n env = record { states = []; inputs = codes_upto es (at env) n }

-- a frame for each step, up to the bad line of number j
abbrev pub lowered : PlainFlatSystem → ℕ → List (List Datum) → Witness
lowered f j envs = record { bad = j; frames = map (lowered_step f.scope.enumerations (length f.variables)) envs }

-- a constant is one of its enumeration
abbrev pub IsKnown : List Enumeration → Datum → Type 0
IsKnown es (Constant n i) = i < constant_count es n
IsKnown es d = Unit {0}
