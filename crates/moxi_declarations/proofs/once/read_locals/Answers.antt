use Rattle.std.proofs.Common.{◌≡◌, [], true, IfSome, length, sym, ap, ◌∙◌, subst, arith}
use Rattle.moxi_sexpr.specs.Tree.{plain_forms}
use Rattle.moxi_scripts.specs.declared.parts.Turn.TheVariants.{AtKeyword}
use Rattle.moxi_scripts.specs.Entries.{locals_among, names_after}
use Rattle.moxi_scripts.specs.Lists.{all_entries, lists_in, text_entries}
use Rattle.moxi_attributes.specs.laws.FormSizes.{all_most}
use Rattle.moxi_declarations.proofs.OnceLaws.{also_nothing, once_found, once_passes}
use Rattle.moxi_declarations.proofs.once.read_locals.Goals as goal

pub locals_once-requires : goal.locals_once-requires
locals_once-requires c =
    let a = c.args in
    let l = lists_in a.scope.now a.command (plain_forms a.forms.now) in
    let is : a.all.now ≡ all_entries l = c.requires.all ∙ ap all_entries c.requires.lists in
    omega (arith, ap length is, all_most a.scope.now a.command true (plain_forms a.forms.now), c.requires.few)

pub returns-in-Some-clause-locals : goal.returns-in-Some-clause-locals
returns-in-Some-clause-locals c =
    let a = c.args in
    let l = a.lists.now in
    let is : c.in-Some.locals ≡ locals_among a.all.now = subst (λ o. IfSome o (λ x. x ≡ locals_among a.all.now)) c.in-Some.is c.in_ok-locals.ensures.locals in
    let once : length (names_after [] a.all.now) ≡ length a.all.now = subst (λ o. IfSome o (λ x. length (names_after [] a.all.now) ≡ length a.all.now)) c.in-Some.is c.in_ok-locals.ensures.once in
    is ∙ ap locals_among c.requires.all
    ∙ once_found a.scope.now l a.command (plain_forms a.forms.now) (sym c.if-are_shaped.ensures) (c.is_in_order.ensures c.if-is_in_order.true) (subst (λ ds. length (names_after [] ds) ≡ length ds) c.requires.all once)

pub returns-in-Some-clause-finds : goal.returns-in-Some-clause-finds
returns-in-Some-clause-finds c =
    let a = c.args in
    let l = a.lists.now in
    let text = text_entries l a.command AtKeyword (plain_forms a.forms.now) in
    let once : length (names_after [] a.all.now) ≡ length a.all.now = subst (λ o. IfSome o (λ x. length (names_after [] a.all.now) ≡ length a.all.now)) c.in-Some.is c.in_ok-locals.ensures.once in
    also_nothing a.found.now _ (once_passes text (all_entries l) (c.is_in_order.ensures c.if-is_in_order.true) (subst (λ ds. length (names_after [] ds) ≡ length ds) c.requires.all once))
