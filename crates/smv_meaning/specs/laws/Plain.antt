-- The plain forms of an expression's parts.
use Rattle.std.proofs.Common.{◌≡◌, map, Vec, Box, Global, rules}
use Rattle.smv_text.specs.declared.tree.Expr.{Expr, the_lemmas as expr_lemmas}
use Rattle.smv_text.specs.declared.tree.Link.{Link, the_lemmas as link_lemmas}
use Rattle.smv_text.specs.declared.tree.Branch.{Branch, the_lemmas}
use Rattle.smv_text.specs.declared.tree.Shape.{Chain, the_lemmas as shape_lemmas}
use Rattle.smv_text.specs.Tree.{chain, links_of}
use Rattle.smv_text.specs.View.{plain, plain_branch, plain_link}

pub plain_branch-at : (b : Branch) → plain_branch b ≡ (plain b.when, plain b.value)
plain_branch-at b = search (rules, the_lemmas)

pub plain-chain : (e : Expr) (a : Box Expr Global) (ls : Vec Link Global) → e.shape ≡ Chain a ls → plain e ≡ chain e.place (plain a.value) (links_of (map plain_link ls.items))
plain-chain e a ls h = search (rules, the_lemmas, expr_lemmas, shape_lemmas, h)

pub plain_link-at : (l : Link) → plain_link l ≡ (l.op, plain l.operand)
plain_link-at l = search (rules, link_lemmas)
