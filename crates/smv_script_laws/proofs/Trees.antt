-- The flat form of an expression hangs on its own paths alone.
use Rattle.std.proofs.Common.{◌≡◌, Bool, true, ◌||◌, List, None, refl, ap, ◌∙◌}
use Rattle.smv_text.specs.declared.tree.Path.{Path}
use Rattle.smv_text.specs.Tree.{Tree, truth, number, literal, name, prefix, chain, choice, cases, select, call, next, set, range, Links, no_links, link, Branches, no_branches, branch, Trees, no_trees, tree}
use Rattle.smv_meaning.specs.Expressions.{paths_of, link_paths, branch_paths, tree_paths}
use Rattle.smv_meaning.specs.Checks.{Position, Named, Typing, single, under_next, across, behind, are_unions}
use Rattle.smv_laws.proofs.Agreeing.{more_paths, more_branches, SameNames, typing_same}
use Rattle.smv_items.specs.FlatItems.{Leaf}
use Rattle.smv_flat.specs.FlatTree.{FlatTree, flat_prefix, flat_chain, flat_choice, flat_cases, flat_select, flat_call, flat_set, FlatLinks, flat_link, FlatBranches, flat_branch, FlatTrees, flat_tree_then, leaf_tree, is_set, has_set, unless_set, flat_tree, flat_links, flat_branches, flat_trees}

two_ways : {A B C : Type 0} (f : A → B → C) (a x : A) (b y : B) → a ≡ x → b ≡ y → f a b ≡ f x y
two_ways f a x b y p q = ap (λ w. f w b) p ∙ ap (λ w. f x w) q

three_ways : {A B C D : Type 0} (f : A → B → C → D) (a x : A) (b y : B) (c z : C) → a ≡ x → b ≡ y → c ≡ z → f a b c ≡ f x y z
three_ways f a x b y c z p q r = ap (λ w. f w b c) p ∙ ap (λ w. f x w c) q ∙ ap (λ w. f x y w) r

mutual
  pub flat_tree_same : (n m : Path → Named) (leaf : Path → Leaf) (at : Position) (under : Bool) (e : Tree) (more : List Path) → SameNames n m (paths_of e more)
      → flat_tree n leaf at under e ≡ flat_tree m leaf at under e
  flat_tree_same n m leaf at under (truth p b) more s = refl
  flat_tree_same n m leaf at under (number p c) more s = refl
  flat_tree_same n m leaf at under (literal p w) more s = refl
  flat_tree_same n m leaf at under (name p x) more s = ap (λ (a : Typing). leaf_tree a.type under (leaf x)) (typing_same n m at (name p x) more s)
  flat_tree_same n m leaf at under (prefix p sign c e) more s =
      two_ways (λ (a : Typing) (b : FlatTree). flat_prefix a.type sign c b) _ _ _ _ (typing_same n m at (prefix p sign c e) more s) (flat_tree_same n m leaf (single at) under e more s)
  flat_tree_same n m leaf at under (chain p e ls) more s =
      three_ways (λ (a : Typing) (b : FlatTree) (c : FlatLinks). flat_chain (unless_set (are_unions ls) a.type) b c) _ _ _ _ _ _ (typing_same n m at (chain p e ls) more s)
      (flat_tree_same n m leaf (across ls at) under e (link_paths ls more) s) (flat_links_same n m leaf (across ls at) under ls more (λ q i. s q (more_paths e (link_paths ls more) q i)))
  flat_tree_same n m leaf at under (choice p bs e) more s =
      three_ways (λ (a : Typing) (b : FlatBranches) (c : FlatTree). flat_choice (unless_set (has_set bs || is_set e) a.type) b c) _ _ _ _ _ _ (typing_same n m at (choice p bs e) more s)
      (flat_branches_same n m leaf at under bs (paths_of e more) s) (flat_tree_same n m leaf at under e more (λ q i. s q (more_branches bs (paths_of e more) q i)))
  flat_tree_same n m leaf at under (cases p bs) more s =
      two_ways (λ (a : Typing) (b : FlatBranches). flat_cases (unless_set (has_set bs) a.type) b) _ _ _ _ (typing_same n m at (cases p bs) more s) (flat_branches_same n m leaf at under bs more s)
  flat_tree_same n m leaf at under (select p e high low) more s =
      two_ways (λ (a : Typing) (b : FlatTree). flat_select a.type b high low) _ _ _ _ (typing_same n m at (select p e high low) more s) (flat_tree_same n m leaf (single at) under e more s)
  flat_tree_same n m leaf at under (call p f es) more s =
      two_ways (λ (a : Typing) (b : FlatTrees). flat_call a.type f b) _ _ _ _ (typing_same n m at (call p f es) more s) (flat_trees_same n m leaf (single at) under es more s)
  flat_tree_same n m leaf at under (next p e) more s = flat_tree_same n m leaf under_next true e more s
  flat_tree_same n m leaf at under (set p es) more s = ap (flat_set None) (flat_trees_same n m leaf at under es more s)
  flat_tree_same n m leaf at under (range p low high) more s = refl

  flat_links_same : (n m : Path → Named) (leaf : Path → Leaf) (at : Position) (under : Bool) (ls : Links) (more : List Path) → SameNames n m (link_paths ls more)
      → flat_links n leaf at under ls ≡ flat_links m leaf at under ls
  flat_links_same n m leaf at under no_links more s = refl
  flat_links_same n m leaf at under (link op e ls) more s =
      two_ways (λ (a : FlatTree) (b : FlatLinks). flat_link op a b) _ _ _ _ (flat_tree_same n m leaf (behind op at) under e (link_paths ls more) s)
      (flat_links_same n m leaf at under ls more (λ q i. s q (more_paths e (link_paths ls more) q i)))

  flat_branches_same : (n m : Path → Named) (leaf : Path → Leaf) (at : Position) (under : Bool) (bs : Branches) (more : List Path) → SameNames n m (branch_paths bs more)
      → flat_branches n leaf at under bs ≡ flat_branches m leaf at under bs
  flat_branches_same n m leaf at under no_branches more s = refl
  flat_branches_same n m leaf at under (branch c e rest) more s =
      three_ways (λ (a : FlatTree) (b : FlatTree) (d : FlatBranches). flat_branch a b d) _ _ _ _ _ _ (flat_tree_same n m leaf (single at) under c (paths_of e (branch_paths rest more)) s)
      (flat_tree_same n m leaf at under e (branch_paths rest more) (λ q i. s q (more_paths c (paths_of e (branch_paths rest more)) q i)))
      (flat_branches_same n m leaf at under rest more (λ q i. s q (more_paths c (paths_of e (branch_paths rest more)) q (more_paths e (branch_paths rest more) q i))))

  flat_trees_same : (n m : Path → Named) (leaf : Path → Leaf) (at : Position) (under : Bool) (es : Trees) (more : List Path) → SameNames n m (tree_paths es more)
      → flat_trees n leaf at under es ≡ flat_trees m leaf at under es
  flat_trees_same n m leaf at under no_trees more s = refl
  flat_trees_same n m leaf at under (tree e es) more s =
      two_ways (λ (a : FlatTree) (b : FlatTrees). flat_tree_then a b) _ _ _ _ (flat_tree_same n m leaf at under e (tree_paths es more) s)
      (flat_trees_same n m leaf at under es more (λ q i. s q (more_paths e (tree_paths es more) q i)))
