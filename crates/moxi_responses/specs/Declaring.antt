-- What the responses of a script's check are printed and read against: its flat system's variables, hidden ones too.
use Rattle.std.specs.Prelude.{◌≡◌, ◌≤◌, ℕ, true, List, length}
use Rattle.moxi_terms.specs.declared.data.Datum.{Datum}
use Rattle.moxi_scripts.specs.Script.{PlainScript, system_at}
use Rattle.moxi_scripts.specs.Valid.{query_names}
use Rattle.moxi_flat.specs.FlatSystem.{flat_of}
use Rattle.moxi_trace.specs.Responses.{ReadsResponse}
use Rattle.moxi_trace.specs.Traces.{Declared, is_within, most_bytes}

abbrev pub declared_of : PlainScript → Declared
declared_of s =
    record {
      system = (system_at s.systems s.check.system).name;
      enumerations = s.scope.enumerations;
      variables = (flat_of s).variables;
      queries = query_names s.check.queries;
    }

-- within the limits of the reader the text states the query and the trace
abbrev pub ReadsAgain : Declared → ℕ → List (List Datum) → List ℕ → Type 0
ReadsAgain d q steps text = is_within d (length steps) ≡ true → length text ≤ most_bytes → ReadsResponse d text (record { query = q; trace = steps })
