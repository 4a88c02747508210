-- The paths of an expression are known where the expression's are.
use Rattle.std.proofs.Common.{◌≡◌, true, false, Bool, ◌&&◌, IsTrue, List, [], ◌∷◌, refl, sym, ◌∙◌, ap}
use Rattle.std.specs.List.{list_all}
use Rattle.smv_text.specs.declared.tree.Path.{Path}
use Rattle.smv_text.specs.Tree.{Tree, truth, number, literal, name, prefix, chain, choice, cases, select, call, next, set, range, Links, no_links, link, Branches, no_branches, branch, Trees, no_trees, tree}
use Rattle.smv_meaning.specs.Expressions.{paths_of, link_paths, branch_paths, tree_paths}
use Rattle.smv_types.specs.Outcome.{is_known, links_known, branches_known, trees_known}

and_assoc : (a b c : Bool) → a && (b && c) ≡ (a && b) && c
and_assoc true b c = refl
and_assoc false b c = refl

and_left : (a b : Bool) → a && b ≡ true → a ≡ true
and_left true b h = refl
and_left false b h = h

mutual
  known_paths : (k : Path → Bool) (e : Tree) (more : List Path) → list_all k (paths_of e more) ≡ is_known k e && list_all k more
  known_paths k (truth p b) more = refl
  known_paths k (number p n) more = refl
  known_paths k (literal p w) more = refl
  known_paths k (name p x) more = refl
  known_paths k (prefix p sign n e) more = known_paths k e more
  known_paths k (chain p e ls) more =
      known_paths k e (link_paths ls more) ∙ ap (λ b. is_known k e && b) (links_paths k ls more) ∙ and_assoc (is_known k e) (links_known k ls) (list_all k more)
  known_paths k (choice p bs e) more =
      branches_paths k bs (paths_of e more) ∙ ap (λ b. branches_known k bs && b) (known_paths k e more) ∙ and_assoc (branches_known k bs) (is_known k e) (list_all k more)
  known_paths k (cases p bs) more = branches_paths k bs more
  known_paths k (select p e high low) more = known_paths k e more
  known_paths k (call p f es) more = trees_paths k es more
  known_paths k (next p e) more = known_paths k e more
  known_paths k (set p es) more = trees_paths k es more
  known_paths k (range p low high) more = refl

  links_paths : (k : Path → Bool) (ls : Links) (more : List Path) → list_all k (link_paths ls more) ≡ links_known k ls && list_all k more
  links_paths k no_links more = refl
  links_paths k (link op e ls) more =
      known_paths k e (link_paths ls more) ∙ ap (λ b. is_known k e && b) (links_paths k ls more) ∙ and_assoc (is_known k e) (links_known k ls) (list_all k more)

  branches_paths : (k : Path → Bool) (bs : Branches) (more : List Path) → list_all k (branch_paths bs more) ≡ branches_known k bs && list_all k more
  branches_paths k no_branches more = refl
  branches_paths k (branch c e rest) more =
      known_paths k c (paths_of e (branch_paths rest more))
      ∙ ap (λ b. is_known k c && b) (
      known_paths k e (branch_paths rest more) ∙ ap (λ b. is_known k e && b) (branches_paths k rest more) ∙ and_assoc (is_known k e) (branches_known k rest) (list_all k more)
      )
      ∙ and_assoc (is_known k c) (is_known k e && branches_known k rest) (list_all k more)

  trees_paths : (k : Path → Bool) (es : Trees) (more : List Path) → list_all k (tree_paths es more) ≡ trees_known k es && list_all k more
  trees_paths k no_trees more = refl
  trees_paths k (tree e es) more =
      known_paths k e (tree_paths es more) ∙ ap (λ b. is_known k e && b) (trees_paths k es more) ∙ and_assoc (is_known k e) (trees_known k es) (list_all k more)

pub all_known : (k : Path → Bool) (e : Tree) → IsTrue (list_all k (paths_of e [])) → IsTrue (is_known k e)
all_known k e h = and_left (is_known k e) true (sym (known_paths k e []) ∙ h)

pub always_known : (xs : List Path) → IsTrue (list_all (λ x. true) xs)
always_known [] = refl
always_known (x ∷ xs) = always_known xs
