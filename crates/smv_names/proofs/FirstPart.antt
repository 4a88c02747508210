-- Main among the instances.
use Rattle.std.proofs.Common.{◌≡◌, ℕ, ◌<◌, List, map, length, Option, Some, None, sym, ◌∙◌, ap, arith}
use Rattle.std.specs.Prelude.{slice_get, slice_index_or}
use Rattle.std.specs.Option.{option_map}
use Rattle.std.proofs.lemmas.List.{length-map}
use Rattle.std.proofs.lemmas.Option.{slice_get-map, slice_get_read, slice_get_past}
use Rattle.text_core.specs.declared.place.Refusal.{Refusal}
use Rattle.smv_instances.specs.declared.instances.Instance.{Instance as PartOf}
use Rattle.smv_meaning.specs.Checks.{check, first_failing}
use Rattle.smv_meaning.specs.Phases.{symbol_checks, declared_in, Declared}
use Rattle.smv_instances.specs.View.{instance_plain}
use Rattle.std.proofs.Common.{not}
use Rattle.smv_meaning.specs.Names.{has_symbol}

pub main_first : (ts : List PartOf) (n : ℕ) (p : PartOf) (ds : List Declared) (o : Option Refusal) → n ≡ length ts → 0 < n → p ≡ slice_index_or ts 0 p → ds ≡ declared_in (instance_plain p).module
    → o ≡ first_failing (map (λ d. check 10 d.place (not (has_symbol (map instance_plain ts) d.name))) ds)
    → o ≡ first_failing (symbol_checks (map instance_plain ts) (slice_get (map instance_plain ts) 0))
main_first ts n p ds o e h is d k =
    let s : slice_get (map instance_plain ts) 0 ≡ Some (instance_plain p) = slice_get-map instance_plain ts 0 ∙ ap (option_map instance_plain) (slice_get_read ts n 0 p e h is) in
    k ∙ ap (λ l. first_failing (map (λ d. check 10 d.place (not (has_symbol (map instance_plain ts) d.name))) l)) d
    ∙ ap (λ q. first_failing (symbol_checks (map instance_plain ts) q)) (sym s)

pub no_main : (ts : List PartOf) (n : ℕ) → n ≡ length ts → n ≡ 0 → None ≡ first_failing (symbol_checks (map instance_plain ts) (slice_get (map instance_plain ts) 0))
no_main ts n e h = ap (λ q. first_failing (symbol_checks (map instance_plain ts) q)) (sym (slice_get_past (map instance_plain ts) 0 (omega (arith, e, h, length-map ts instance_plain))))
