use Rattle.std.proofs.Common.{◌≡◌, ◌+◌, ◌≤◌, ◌<◌, ◌^◌, length, map, ap, sym, ◌∙◌, subst, arith}
use Rattle.std.proofs.lemmas.List.{length-map}
use Rattle.moxi_sexpr.specs.Tree.{all_nodes, plain_forms}
use Rattle.moxi_scripts.specs.Collecting.{also}
use Rattle.moxi_scripts.specs.Commands.{commands_failures, nothing_read, reading_after}
use Rattle.moxi_declarations.specs.Sizes.{reading_size}
use Rattle.moxi_declarations.specs.Views.{plain_draft, plain_reading}
use Rattle.moxi_scripts.specs.Cycles.{count_uses, cycle_failures}
use Rattle.moxi_scripts.specs.Links.{links_failures}
use Rattle.moxi_scripts.specs.Spelling.{reading_of}
use Rattle.moxi_attributes.specs.laws.Collecting.{also_two}
use Rattle.moxi_declarations.proofs.SizeLaws.{reading_grows}
use Rattle.moxi_reading.proofs.cycles.read_whole_script.Goals as goal

pub read_commands-requires : goal.read_commands-requires
read_commands-requires c =
    let ts = plain_forms c.args.forms.now in
    let few : 0 + all_nodes ts < 2 ^ 32 = omega (arith, c.requires.few) in
    record { few = subst (λ r. reading_size r + all_nodes ts < 2 ^ 32) (sym c.requires.nothing) few }

pub test_cycles-requires : goal.test_cycles-requires
test_cycles-requires c =
    let ts = plain_forms c.args.forms.now in
    let d = c.read_commands.new.draft in
    let r : plain_draft d ≡ reading_of ts = c.in_ok-read_commands.ensures.draft ∙ ap (λ r. reading_after r ts) c.requires.nothing in
    let most : reading_size (plain_draft d) ≤ 0 + all_nodes ts = subst (λ r. reading_size r ≤ 0 + all_nodes ts) (sym r) (reading_grows nothing_read ts) in
    let rs = map plain_reading d.systems.items in
    let few : count_uses rs + length d.systems.items < 2 ^ 64 = omega (arith, most, c.requires.few, length-map d.systems.items plain_reading) in
    subst (λ xs. count_uses (map plain_reading xs) + length xs < 2 ^ 64) (sym c.deref.ensures.value) few

pub returns-clause-few : goal.returns-clause-few
returns-clause-few c =
    let ts = plain_forms c.args.forms.now in
    let d = c.read_commands.new.draft in
    let r : plain_draft d ≡ reading_of ts = c.in_ok-read_commands.ensures.draft ∙ ap (λ r. reading_after r ts) c.requires.nothing in
    let most : reading_size (plain_draft d) ≤ 0 + all_nodes ts = subst (λ r. reading_size r ≤ 0 + all_nodes ts) (sym r) (reading_grows nothing_read ts) in
    omega (arith, most, c.requires.few)

pub returns-clause-draft : goal.returns-clause-draft
returns-clause-draft c =
    let ts = plain_forms c.args.forms.now in
    c.in_ok-read_commands.ensures.draft ∙ ap (λ r. reading_after r ts) c.requires.nothing

pub returns-clause-finds : goal.returns-clause-finds
returns-clause-finds c =
    let ts = plain_forms c.args.forms.now in
    let got = c.in_ok-read_commands.ensures in
    let d = c.read_commands.new.draft in
    let old = c.args.found.now in
    let r : plain_draft d ≡ reading_of ts = got.draft ∙ ap (λ r. reading_after r ts) c.requires.nothing in
    let one : c.read_commands.new.found ≡ also old (commands_failures nothing_read ts) = got.finds ∙ ap (λ r. also old (commands_failures r ts)) c.requires.nothing in
    let two : c.test_links.new.found ≡ also c.read_commands.new.found (links_failures (reading_of ts) c.args.end) = c.test_links.ensures ∙ ap (λ r. also c.read_commands.new.found (links_failures r c.args.end)) r in
    let three : c.test_cycles.new.found ≡ also c.test_links.new.found (cycle_failures (reading_of ts).systems (reading_of ts).system_names) =
    c.in_ok-test_cycles.ensures ∙ ap (λ xs. also c.test_links.new.found (cycle_failures (map plain_reading xs) d.system_names)) c.deref.ensures.value
    ∙ ap (λ r. also c.test_links.new.found (cycle_failures r.systems r.system_names)) r in
    also_two _ _ _ _ _ (also_two _ _ _ _ _ one two) three
