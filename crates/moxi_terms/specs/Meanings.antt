-- What a name stands for by the declarations of a scope alone.
use Rattle.std.specs.Prelude.{◌==◌, ℕ, true, false, if◌then◌else◌, Option, None, Some, List, length, slice_get, codes}
use Rattle.std.specs.Option.{option_map}
use Rattle.std.specs.Str.{bytes_eq}
use Rattle.moxi_terms.specs.declared.data.Sort.TheVariants.{Truth, Choice}
use Rattle.moxi_terms.specs.declared.data.Datum.TheVariants as datum
use Rattle.moxi_terms.specs.declared.names.Meaning.{Meaning}
use Rattle.moxi_terms.specs.declared.names.Meaning.TheVariants as meaning
use Rattle.moxi_terms.specs.declared.names.Head.{Head}
use Rattle.moxi_terms.specs.declared.names.Head.TheVariants as heads
use Rattle.moxi_terms.specs.Tree.{PlainFunction}
use Rattle.moxi_terms.specs.View.{ScopeState}
use Rattle.moxi_terms.specs.Words.{operator_named}
use Rattle.moxi_terms.specs.Names.{or_else, constant_named, function_names}
use Rattle.name_maps.specs.Names.{place_of}

-- `true`, `false` and the constants of enumerations
abbrev pub value_named : ScopeState → List ℕ → Option Meaning
value_named s name =
    if bytes_eq name (codes "true") then Some (meaning.Value (datum.Truth true) Truth)
    else (if bytes_eq name (codes "false") then Some (meaning.Value (datum.Truth false) Truth)
    else option_map (λ (c : ℕ × ℕ). meaning.Value (datum.Constant c.0 c.1) (Choice c.0)) (constant_named s name))

-- a function that is called by its bare name
abbrev pub bare_call : ℕ → Option PlainFunction → Option Meaning
bare_call n None = None
bare_call n (Some f) = if length f.parameters == 0 then Some (meaning.Call n f.result) else None

abbrev pub call_of : (ℕ → Option PlainFunction → Option Meaning) → List PlainFunction → Option ℕ → Option Meaning
call_of g fs None = None
call_of g fs (Some n) = g n (slice_get fs n)

-- a function with parameters, at the head of a list
abbrev pub head_call : ℕ → Option PlainFunction → Option Head
head_call n None = None
head_call n (Some f) = if length f.parameters == 0 then None else Some (heads.Function n)

abbrev pub head_function : List PlainFunction → Option ℕ → Option Head
head_function fs None = None
head_function fs (Some n) = head_call n (slice_get fs n)

-- what a symbol at the head of a list stands for
abbrev pub head_named : ScopeState → List ℕ → Option Head
head_named s name =
    or_else (head_function s.functions (place_of (function_names s) name)) (option_map heads.Operator (operator_named name))
