use Rattle.std.proofs.Common.{◌≡◌, ◌<◌, ◌^◌, length, map, subst, sym}
use Rattle.smv_flatten.specs.FlatModel.{flat_plain}
use Rattle.smv_flat.specs.FlatFormulas.{form_plain}
use Rattle.smv_script.specs.Ranges.{forms_excess}
use Rattle.smv_script.specs.Script.{script_of}
use Rattle.smv_script_terms.specs.Depths.{forms_depth}
use Rattle.smv_flat.specs.FlatParts.{parts_plain}
use Rattle.smv_to_moxi.specs.Assembling.{script_form}
use Rattle.smv_to_moxi.specs.Symbols.{CanBeConstants}
use Rattle.smv_to_moxi.specs.SingleView.{plain_single}
use Rattle.smv_to_moxi.proofs.SpelledScripts.{parts_are}
use Rattle.smv_to_moxi.proofs.Scripts.{made_is}
use Rattle.smv_to_moxi.proofs.SmallModels.{is_small_model}
use Rattle.smv_to_moxi.proofs.flat_script.to_single.Goals as goal

pub single_in-single-requires-clause-few : goal.single_in-single-requires-clause-few
single_in-single-requires-clause-few c = subst (λ xs. length xs < 2 ^ 30) (sym c.parts.ensures.items) (is_small_model c.args.flat.now c.is_of_model.ensures).items

pub single_in-single-requires-clause-symbols : goal.single_in-single-requires-clause-symbols
single_in-single-requires-clause-symbols c = subst CanBeConstants (sym c.parts.ensures.symbols) (is_small_model c.args.flat.now c.is_of_model.ensures).symbols

pub single_in-single-requires-clause-deep : goal.single_in-single-requires-clause-deep
single_in-single-requires-clause-deep c = subst (λ fs. forms_depth (map form_plain fs) < 2 ^ 32) (sym c.parts.ensures.formulas) (is_small_model c.args.flat.now c.is_of_model.ensures).deep

pub single_in-single-requires-clause-in_range : goal.single_in-single-requires-clause-in_range
single_in-single-requires-clause-in_range c = subst (λ fs. forms_excess (map form_plain fs) ≡ 0) (sym c.parts.ensures.formulas) (is_small_model c.args.flat.now c.is_of_model.ensures).in_range

pub returns : goal.returns
returns c =
    made_is plain_single c.single_in-single.result (script_form (parts_plain c.parts.result) c.width.result) (script_of (flat_plain c.args.flat.now) c.args.flat.now.width)
    (parts_are c.args.flat.now c.parts.result c.width.result c.parts.ensures.items c.parts.ensures.symbols c.parts.ensures.formulas c.width.ensures.value)
    c.single_in-single.ensures
