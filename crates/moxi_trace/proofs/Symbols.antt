-- Values by their names.
use Rattle.std.proofs.Common.{◌≡◌, ◌==◌, ℕ, Bool, true, false, cond, Option, Some, None, List, length, refl}
use Rattle.std.specs.Prelude.{codes, slice_get}
use Rattle.std.specs.Str.{bytes_eq}
use Rattle.std.specs.Option.{option_map}
use Rattle.moxi_terms.specs.declared.data.Sort.{Sort}
use Rattle.moxi_terms.specs.declared.data.Sort.TheVariants.{Truth, Choice}
use Rattle.moxi_terms.specs.declared.data.Datum.TheVariants as datum
use Rattle.moxi_terms.specs.declared.names.Meaning.TheVariants as meaning
use Rattle.moxi_terms.specs.Tree.{PlainFunction}
use Rattle.moxi_terms.specs.View.{ScopeState}
use Rattle.moxi_terms.specs.Names.{or_else}
use Rattle.moxi_terms.specs.Meanings.{value_named, bare_call, call_of}
use Rattle.moxi_trace.specs.Values.{if_same, constant_named, constant_of, symbol_value, meant_value}

-- a call is no value
bare_is_none : (s : Sort) (n : ℕ) (o : Option PlainFunction) → meant_value s (bare_call n o) ≡ None
bare_is_none s n None = refl
bare_is_none s n (Some f) = go (length f.parameters == 0)
  where
    go : (b : Bool) → meant_value s (cond b (Some (meaning.Call n f.result)) None) ≡ None
    go true = refl
    go false = refl

call_is_none : (s : Sort) (fs : List PlainFunction) (p : Option ℕ) → meant_value s (call_of bare_call fs p) ≡ None
call_is_none s fs None = refl
call_is_none s fs (Some n) = bare_is_none s n (slice_get fs n)

-- the value of a name is that of what the scope finds
pub bare_value : (scope : ScopeState) (s : Sort) (name : List ℕ) (p : Option ℕ) → symbol_value scope.enumerations s name ≡ meant_value s (or_else (value_named scope name) (call_of bare_call scope.functions p))
bare_value scope s name p = go (bytes_eq name (codes "true")) (bytes_eq name (codes "false")) (constant_named scope.enumerations name)
  where
    go : (b c : Bool) (o : Option (ℕ × ℕ)) → cond b (if_same s Truth (datum.Truth true)) (cond c (if_same s Truth (datum.Truth false)) (constant_of s o))
        ≡ meant_value s (or_else (cond b (Some (meaning.Value (datum.Truth true) Truth)) (cond c (Some (meaning.Value (datum.Truth false) Truth))
        (option_map (λ (c : ℕ × ℕ). meaning.Value (datum.Constant c.0 c.1) (Choice c.0)) o))) (call_of bare_call scope.functions p))
    go true c o = refl
    go false true o = refl
    go false false (Some x) = refl
    go false false None = let e = call_is_none s scope.functions p in cc
