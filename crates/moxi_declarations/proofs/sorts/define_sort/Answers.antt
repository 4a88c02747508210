use Rattle.std.proofs.Common.{IfSome, sym, subst, ap, ◌∙◌}
use Rattle.moxi_sexpr.specs.Tree.{plain}
use Rattle.moxi_terms.specs.Sorts.{IsSort}
use Rattle.moxi_scripts.specs.Entries.{known_sort}
use Rattle.moxi_scripts.proofs.FunctionLaws.{known_if}
use Rattle.moxi_declarations.proofs.sorts.define_sort.Goals as goal

pub add_sort-requires-clause-sort : goal.add_sort-requires-clause-sort
add_sort-requires-clause-sort c =
    let s = c.args.scope.now in
    subst (λ o. IfSome o (IsSort s.enumerations)) (sym (c.known_sort.ensures ∙ ap known_sort c.sort_of-sort.ensures))
    (known_if (IsSort s.enumerations) _ (c.read_sorts_are_of_the_scope.ensures s c.args.p (plain c.args.form.now) c.functions-functions.ensures.scope))
