-- Which scripts have no flat system.
use Rattle.std.specs.Prelude.{nat_lt, Bool, not, ◌||◌, if◌then◌else◌, Option, None, Some, []}
use Rattle.text_core.specs.declared.place.Kind.TheVariants.{M}
use Rattle.text_core.specs.declared.place.Refusal.{Refusal}
use Rattle.name_maps.specs.Names.{are_fresh}
use Rattle.moxi_term_print.specs.Terms.{variable_names}
use Rattle.moxi_scripts.specs.Script.{PlainScript}
use Rattle.moxi_flat.specs.Systems.{script_size, script_height, script_nesting}
use Rattle.moxi_flat.specs.FlatSystem.{flat_of}

-- The limits are numerals, so that no constant of the code can move them.
abbrev pub is_too_large : PlainScript → Bool
is_too_large s = nat_lt 2000000 (script_size s) || (nat_lt 4000 (script_height s) || nat_lt 1000 (script_nesting s))

-- two variables have one name
abbrev pub has_name_twice : PlainScript → Bool
has_name_twice s = not (are_fresh [] (variable_names (flat_of s).variables))

-- both refusals are at the check
abbrev pub flat_refusal : PlainScript → Option Refusal
flat_refusal s =
    if is_too_large s then Some (record { kind = M 15; place = s.check.place })
    else (if has_name_twice s then Some (record { kind = M 9; place = s.check.place }) else None)
