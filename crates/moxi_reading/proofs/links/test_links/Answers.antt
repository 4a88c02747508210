use Rattle.std.proofs.Common.{◌≡◌, map, ap, ◌∙◌}
use Rattle.std.specs.Option.{option_map}
use Rattle.moxi_declarations.specs.Views.{plain_check_reading, plain_reading}
use Rattle.moxi_scripts.specs.Collecting.{also}
use Rattle.moxi_scripts.specs.Links.{check_failures}
use Rattle.moxi_attributes.specs.laws.Collecting.{also_two}
use Rattle.moxi_reading.proofs.links.test_links.Goals as goal

pub returns : goal.returns
returns c =
    let d = c.args.draft.now in
    let rs = map plain_reading d.systems.items in
    let k : c.test_check_of.new.found ≡ also c.test_all_systems.new.found (check_failures rs d.system_names (option_map plain_check_reading d.check)) =
    c.test_check_of.ensures ∙ ap (λ xs. also c.test_all_systems.new.found (check_failures (map plain_reading xs) d.system_names (option_map plain_check_reading d.check))) c.deref.ensures.value in
    also_two _ _ _ _ _ (also_two _ _ _ _ _ (also_two _ _ _ _ _ c.test_taken.ensures c.test_all_systems.ensures) k) c.fail_if.ensures
