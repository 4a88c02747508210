-- An expression reaches an input just where one of its paths does.
use Rattle.std.proofs.Common.{◌≡◌, Bool, ◌||◌, List, [], refl, sym, ap, ◌∙◌}
use Rattle.std.specs.List.{list_any}
use Rattle.std.proofs.Math.Bool.{or_assoc}
use Rattle.text_core.proofs.Truths.{or_false}
use Rattle.smv_text.specs.declared.tree.Path.{Path}
use Rattle.smv_text.specs.Tree.{Tree, truth, number, literal, name, prefix, chain, choice, cases, select, call, next, set, range, Links, no_links, link, Branches, no_branches, branch, Trees, no_trees, tree}
use Rattle.smv_meaning.specs.Expressions.{paths_of, link_paths, branch_paths, tree_paths}
use Rattle.smv_meaning.specs.Checks.{Named}
use Rattle.smv_flat.specs.FlatTree.{reaches, links_reach, branches_reach, trees_reach}

abbrev one_reaches : (Path → Named) → List Path → Bool
one_reaches n xs = list_any (λ q. (n q).reaches_input) xs

mutual
  any_path : (n : Path → Named) (e : Tree) (more : List Path) → one_reaches n (paths_of e more) ≡ (reaches n e || one_reaches n more)
  any_path n (truth p b) more = refl
  any_path n (number p c) more = refl
  any_path n (literal p w) more = refl
  any_path n (name p x) more = refl
  any_path n (prefix p sign c e) more = any_path n e more
  any_path n (chain p e ls) more =
      any_path n e (link_paths ls more) ∙ ap (λ b. reaches n e || b) (any_link n ls more) ∙ sym (or_assoc (reaches n e) (links_reach n ls) (one_reaches n more))
  any_path n (choice p bs e) more =
      any_branch n bs (paths_of e more) ∙ ap (λ b. branches_reach n bs || b) (any_path n e more) ∙ sym (or_assoc (branches_reach n bs) (reaches n e) (one_reaches n more))
  any_path n (cases p bs) more = any_branch n bs more
  any_path n (select p e high low) more = any_path n e more
  any_path n (call p f es) more = any_tree n es more
  any_path n (next p e) more = any_path n e more
  any_path n (set p es) more = any_tree n es more
  any_path n (range p low high) more = refl

  any_link : (n : Path → Named) (ls : Links) (more : List Path) → one_reaches n (link_paths ls more) ≡ (links_reach n ls || one_reaches n more)
  any_link n no_links more = refl
  any_link n (link op e ls) more =
      any_path n e (link_paths ls more) ∙ ap (λ b. reaches n e || b) (any_link n ls more) ∙ sym (or_assoc (reaches n e) (links_reach n ls) (one_reaches n more))

  any_branch : (n : Path → Named) (bs : Branches) (more : List Path) → one_reaches n (branch_paths bs more) ≡ (branches_reach n bs || one_reaches n more)
  any_branch n no_branches more = refl
  any_branch n (branch c e rest) more =
      any_path n c (paths_of e (branch_paths rest more)) ∙ ap (λ b. reaches n c || b) (any_path n e (branch_paths rest more))
      ∙ sym (or_assoc (reaches n c) (reaches n e) (one_reaches n (branch_paths rest more)))
      ∙ ap (λ b. (reaches n c || reaches n e) || b) (any_branch n rest more)
      ∙ sym (or_assoc (reaches n c || reaches n e) (branches_reach n rest) (one_reaches n more))

  any_tree : (n : Path → Named) (es : Trees) (more : List Path) → one_reaches n (tree_paths es more) ≡ (trees_reach n es || one_reaches n more)
  any_tree n no_trees more = refl
  any_tree n (tree e es) more =
      any_path n e (tree_paths es more) ∙ ap (λ b. reaches n e || b) (any_tree n es more) ∙ sym (or_assoc (reaches n e) (trees_reach n es) (one_reaches n more))

pub reaches_by_path : (names : Path → Named) (e : Tree) → reaches names e ≡ list_any (λ q. (names q).reaches_input) (paths_of e [])
reaches_by_path names e = sym (or_false (reaches names e)) ∙ sym (any_path names e [])
