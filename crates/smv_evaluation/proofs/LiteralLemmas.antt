-- Steps of going over word literals.
use Rattle.std.proofs.Common.{◌≡◌, Bool, true, false, ◌&&◌, List, ◌∷◌, map, flat_map, refl, ap, ◌∙◌}
use Rattle.std.proofs.lemmas.List.Folds.{list_all-append}
use Rattle.std.specs.List.{list_all}
use Rattle.smv_text.specs.declared.tree.Expr.{Expr}
use Rattle.smv_text.specs.declared.tree.Link.{Link}
use Rattle.smv_text.specs.declared.tree.Branch.{Branch}
use Rattle.smv_text.specs.declared.operators.Infix.{Infix}
use Rattle.smv_text.specs.Tree.{Tree, Trees, no_trees, tree, links_of, branches_of, trees_of, PlainElement}
use Rattle.smv_text.specs.Heights.{list_of}
use Rattle.smv_text.specs.View.{plain, plain_link, plain_branch}
use Rattle.smv_meaning.specs.Literals.{words_fit, link_words, branch_words, tree_words}
use Rattle.smv_meaning.specs.Parts.{expressions_in}
use Rattle.smv_meaning.specs.laws.Plain.{plain_branch-at, plain_link-at}

true_and : (a b : Bool) → a ≡ true → (a && b) ≡ b
true_and true b h = refl
true_and false b h = cc

pub links_front : (l : Link) (ls : List Link) → words_fit (plain l.operand) ≡ true → link_words (links_of (map plain_link (l ∷ ls))) ≡ link_words (links_of (map plain_link ls))
links_front l ls h =
    ap (λ (p : Infix × Tree). words_fit p.1 && link_words (links_of (map plain_link ls))) (plain_link-at l) ∙ true_and (words_fit (plain l.operand)) (link_words (links_of (map plain_link ls))) h

pub branches_front : (b : Branch) (bs : List Branch) → words_fit (plain b.when) ≡ true → words_fit (plain b.value) ≡ true
    → branch_words (branches_of (map plain_branch (b ∷ bs))) ≡ branch_words (branches_of (map plain_branch bs))
branches_front b bs h k =
    ap (λ (p : Tree × Tree). words_fit p.0 && (words_fit p.1 && branch_words (branches_of (map plain_branch bs)))) (plain_branch-at b)
    ∙ true_and (words_fit (plain b.when)) (words_fit (plain b.value) && branch_words (branches_of (map plain_branch bs))) h
    ∙ true_and (words_fit (plain b.value)) (branch_words (branches_of (map plain_branch bs))) k

pub trees_front : (e : Expr) (es : List Expr) → words_fit (plain e) ≡ true → tree_words (trees_of (map plain (e ∷ es))) ≡ tree_words (trees_of (map plain es))
trees_front e es h = true_and (words_fit (plain e)) (tree_words (trees_of (map plain es))) h

pub elements_front : (e : PlainElement) (es : List PlainElement) → list_all words_fit (expressions_in e) ≡ true
    → list_all words_fit (flat_map expressions_in (e ∷ es)) ≡ list_all words_fit (flat_map expressions_in es)
elements_front e es h =
    list_all-append words_fit (expressions_in e) (flat_map expressions_in es) ∙ true_and (list_all words_fit (expressions_in e)) (list_all words_fit (flat_map expressions_in es)) h

pub words_listed : (es : Trees) → list_all words_fit (list_of es) ≡ tree_words es
words_listed no_trees = refl
words_listed (tree e es) = ap (λ b. words_fit e && b) (words_listed es)
