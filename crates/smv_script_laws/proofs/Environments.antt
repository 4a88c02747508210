-- The laws for a model that a text spells.
use Rattle.std.proofs.Common.{◌≤◌, arith}
use Rattle.smv_meaning.specs.Instances.{instances_of}
use Rattle.smv_laws.proofs.SafeExpressions.{accepted_is_checked_law}
use Rattle.smv_accepted.proofs.Literals.{words_fit_law}
use Rattle.smv_flat.specs.FlatForms.{flat_of}
use Rattle.smv_accepted.proofs.ItemNames.{names_differ_law}
use Rattle.smv_flat.specs.FlatWidth.{width_of}
use Rattle.smv_width.proofs.SpelledWidths.{instances_operators}
use Rattle.smv_accepted.proofs.Widths.{width_is_small_law}
use Rattle.smv_script_laws.specs.EnvironmentLaws.{EnvironmentsAreRows, RowsHaveEnvironments}
use Rattle.smv_script_laws.proofs.Models.{model}
use Rattle.smv_script_laws.proofs.RowEnvironments.{row_has_environment}
use Rattle.smv_script_laws.proofs.Decoded.{environment_is_row}

pub environments_are_rows_law : EnvironmentsAreRows
environments_are_rows_law source end text xs lexed spelled needed accepted calls env suits holds =
    let t = instances_of source in
    environment_is_row t (width_of (flat_of t)) (model t (accepted_is_checked_law source needed accepted) (words_fit_law source end text xs lexed spelled) (instances_operators source xs spelled.0))
    (names_differ_law source end text xs lexed spelled needed accepted) calls env suits holds

pub rows_have_environments_law : RowsHaveEnvironments
rows_have_environments_law source end text xs lexed spelled needed accepted state label of_state of_label =
    let t = instances_of source in
    let small : width_of (flat_of t) ≤ 64 = width_is_small_law source end xs spelled needed accepted in
    row_has_environment t (width_of (flat_of t)) (model t (accepted_is_checked_law source needed accepted) (words_fit_law source end text xs lexed spelled) (instances_operators source xs spelled.0))
    (omega (arith, small)) state label (record { of_state = of_state; of_label = of_label })
