use Rattle.std.proofs.Common.{◌≡◌, ◌++◌, false, map, drop}
use Rattle.smv_text.specs.Tree.{trees_of, links_of, branches_of}
use Rattle.smv_text.specs.View.{plain, plain_link, plain_branch}
use Rattle.smv_lex.specs.Spelling.{spaced}
use Rattle.smv_print.specs.Printing.{link_kinds, choice_kinds, case_kinds, argument_kinds}
use Rattle.smv_print.proofs.printing.+put.Given as goal

abbrev pub invariant-put_arguments-loop-expr : goal.invariant-put_arguments-loop-expr
invariant-put_arguments-loop-expr l =
    l.out ++ spaced (argument_kinds l.behind (trees_of (map plain (drop l.expr-index l.exprs)))) ≡ l.fn.out ++ spaced (argument_kinds false (trees_of (map plain l.exprs)))

abbrev pub invariant-put_branches-loop-branch : goal.invariant-put_branches-loop-branch
invariant-put_branches-loop-branch l =
    l.out ++ spaced (case_kinds (branches_of (map plain_branch (drop l.branch-index l.branches)))) ≡ l.fn.out ++ spaced (case_kinds (branches_of (map plain_branch l.branches)))

abbrev pub invariant-put_choices-loop-branch : goal.invariant-put_choices-loop-branch
invariant-put_choices-loop-branch l =
    l.out ++ spaced (choice_kinds (branches_of (map plain_branch (drop l.branch-index l.branches)))) ≡ l.fn.out ++ spaced (choice_kinds (branches_of (map plain_branch l.branches)))

abbrev pub invariant-put_links-loop-link : goal.invariant-put_links-loop-link
invariant-put_links-loop-link l =
    l.out ++ spaced (link_kinds l.floor (links_of (map plain_link (drop l.link-index l.links)))) ≡ l.fn.out ++ spaced (link_kinds l.floor (links_of (map plain_link l.links)))
