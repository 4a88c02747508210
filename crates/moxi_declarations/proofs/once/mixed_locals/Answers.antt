use Rattle.std.proofs.Common.{ap, ◌∙◌, arith}
use Rattle.std.specs.Prelude.{length}
use Rattle.moxi_sexpr.specs.Tree.{plain_forms}
use Rattle.moxi_scripts.specs.declared.parts.Turn.TheVariants.{AtKeyword}
use Rattle.moxi_scripts.specs.Lists.{all_entries, text_entries}
use Rattle.moxi_attributes.specs.laws.FormSizes.{all_most, text_most}
use Rattle.moxi_declarations.proofs.once.mixed_locals.Goals as goal

pub possible_locals-requires-clause-text : goal.possible_locals-requires-clause-text
possible_locals-requires-clause-text c =
    let a = c.args in
    let ts = plain_forms a.forms.now in
    let is = c.in_ok-text.ensures ∙ ap (λ l. text_entries l a.command AtKeyword ts) c.requires.lists in
    omega (arith, ap length is, text_most a.scope.now a.command c.are_shaped.result ts c.requires.shape, c.requires.few)

pub possible_locals-requires-clause-all : goal.possible_locals-requires-clause-all
possible_locals-requires-clause-all c =
    let a = c.args in
    let ts = plain_forms a.forms.now in
    let is = c.in_ok-all.ensures ∙ ap all_entries c.requires.lists in
    omega (arith, ap length is, all_most a.scope.now a.command c.are_shaped.result ts, c.requires.few)
