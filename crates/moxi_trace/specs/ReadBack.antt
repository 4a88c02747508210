-- What a check declares so that its responses can be printed and read back, and what reads back of them.
use Rattle.std.specs.Prelude.{◌≡◌, ◌<◌, ◌≤◌, ℕ, true, Some, List, length, slice_get}
use Rattle.std.specs.List.{list_all}
use Rattle.name_maps.specs.Names.{place_of}
use Rattle.moxi_sexpr.specs.Bytes.{is_barred_byte}
use Rattle.moxi_terms.specs.declared.data.Sort.TheVariants.{Choice}
use Rattle.moxi_terms.specs.declared.data.Datum.{Datum}
use Rattle.moxi_terms.specs.declared.data.Datum.TheVariants.{Constant}
use Rattle.moxi_terms.specs.declared.term.Variable.{Variable}
use Rattle.moxi_terms.specs.Sorts.{IsConstant}
use Rattle.moxi_trace.specs.Responses.{ReadsResponse}
use Rattle.moxi_trace.specs.Traces.{Declared, IsStatedTrace, is_within, most_bytes, names_of}
use Rattle.moxi_trace.specs.Texts.{constant_name}
use Rattle.moxi_trace.specs.Values.{symbol_value}
use Rattle.moxi_term_print.specs.Terms.{name_at}

-- the name can appear in bars
abbrev pub CanBeSpelled : List ℕ → Type 0
CanBeSpelled name = list_all is_barred_byte name ≡ true

-- each name can be printed and is found by itself
pub record CanBeReadBack (d : Declared) : Type 0 where
  pub system : CanBeSpelled d.system
  pub queries : (q : ℕ) → q < length d.queries → CanBeSpelled (name_at d.queries q) × (place_of d.queries (name_at d.queries q) ≡ Some q)
  pub variables : (k : ℕ) (v : Variable) → slice_get d.variables k ≡ Some v → CanBeSpelled v.name × (place_of (names_of d.variables) v.name ≡ Some k)
  pub constants : (n i : ℕ) → IsConstant d.enumerations n i
      → CanBeSpelled (constant_name d.enumerations n i) × (symbol_value d.enumerations (Choice n) (constant_name d.enumerations n i) ≡ Some (Constant n i))

-- within the limits of the reader the text states the query and the trace, where the check has the query and the trace is stated over it
abbrev pub ReadsBack : Declared → ℕ → List (List Datum) → List ℕ → Type 0
ReadsBack d q steps text =
    CanBeReadBack d → q < length d.queries → IsStatedTrace d steps → is_within d (length steps) ≡ true → length text ≤ most_bytes → ReadsResponse d text (record { query = q; trace = steps })
