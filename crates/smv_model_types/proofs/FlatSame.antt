-- The flat form of an expression, as its type and whether it reaches an input, hangs on what its own paths are.
use Rattle.std.proofs.Common.{◌≡◌, Bool, true, ◌||◌, List, [], ◌∷◌, None, Ok, refl, sym, ap, ◌∙◌, subst}
use mathlib.Core.Logic.{inl, inr}
use Rattle.smv_text.specs.declared.tree.Path.{Path}
use Rattle.smv_text.specs.Tree.{Tree, truth, number, literal, name, prefix, chain, choice, cases, select, call, next, set, range, Links, no_links, link, Branches, no_branches, branch, Trees, no_trees, tree}
use Rattle.smv_meaning.specs.Expressions.{paths_of, link_paths, branch_paths, tree_paths}
use Rattle.smv_meaning.specs.Checks.{Position, single, under_next, across, behind, are_unions, Named, Typing, typing}
use Rattle.smv_meaning.specs.Orders.{SameOn}
use Rattle.smv_laws.proofs.Cycles.{In}
use Rattle.smv_laws.proofs.Agreeing.{more_paths, more_branches, typing_same}
use Rattle.smv_laws.proofs.Settling.{any_same}
use Rattle.smv_items.specs.FlatItems.{Leaf}
use Rattle.smv_flat.specs.FlatTree.{FlatTree, flat_prefix, flat_chain, flat_choice, flat_cases, flat_select, flat_call, flat_set, flat_link, FlatBranches, flat_branch, flat_tree_then, leaf_tree, has_set, is_set, reaches, unless_set, flat_tree, flat_links, flat_branches, flat_trees}
use Rattle.smv_flat.specs.declared.nodes.Typed.{Typed}
use Rattle.smv_flat.specs.FlatView.{EndsTyped, EndsAs}
use Rattle.smv_flat.specs.laws.Reaching.{reaches_by_path}

-- the paths are the same to the types
abbrev pub SameNames : (n m : Path → Named) → List Path → Type 0
SameNames n m xs = (q : Path) → In q xs → n q ≡ m q

pub each_same : (n m : Path → Named) (xs : List Path) → SameOn n m xs → SameNames n m xs
each_same n m [] s q h = absurd h
each_same n m (x ∷ xs) s q (inl e) = ap n e ∙ s.0 ∙ sym (ap m e)
each_same n m (x ∷ xs) s q (inr i) = each_same n m xs s.1 q i

mutual
  pub flat_same : (n m : Path → Named) (leaf : Path → Leaf) (at : Position) (under : Bool) (e : Tree) (more : List Path) → SameNames n m (paths_of e more) → flat_tree n leaf at under e ≡ flat_tree m leaf at under e
  flat_same n m leaf at under (truth p b) more s = refl
  flat_same n m leaf at under (number p c) more s = refl
  flat_same n m leaf at under (literal p w) more s = refl
  flat_same n m leaf at under (name p x) more s = ap (λ (a : Typing). leaf_tree a.type under (leaf x)) (typing_same n m at (name p x) more s)
  flat_same n m leaf at under (prefix p sign c e) more s =
      ap (λ (a : Typing). flat_prefix a.type sign c (flat_tree n leaf (single at) under e)) (typing_same n m at (prefix p sign c e) more s)
      ∙ ap (flat_prefix (typing m at (prefix p sign c e)).type sign c) (flat_same n m leaf (single at) under e more s)
  flat_same n m leaf at under (chain p e ls) more s =
      ap (λ (a : Typing). flat_chain (unless_set (are_unions ls) a.type) (flat_tree n leaf (across ls at) under e) (flat_links n leaf (across ls at) under ls)) (typing_same n m at (chain p e ls) more s)
      ∙ ap (λ (f : FlatTree). flat_chain (unless_set (are_unions ls) (typing m at (chain p e ls)).type) f (flat_links n leaf (across ls at) under ls)) (flat_same n m leaf (across ls at) under e (link_paths ls more) s)
      ∙ ap (flat_chain (unless_set (are_unions ls) (typing m at (chain p e ls)).type) (flat_tree m leaf (across ls at) under e))
      (links_same n m leaf (across ls at) under ls more (λ q i. s q (more_paths e (link_paths ls more) q i)))
  flat_same n m leaf at under (choice p bs e) more s =
      let set = has_set bs || is_set e in
      ap (λ (a : Typing). flat_choice (unless_set set a.type) (flat_branches n leaf at under bs) (flat_tree n leaf at under e)) (typing_same n m at (choice p bs e) more s)
      ∙ ap (λ (fs : FlatBranches). flat_choice (unless_set set (typing m at (choice p bs e)).type) fs (flat_tree n leaf at under e)) (branches_same n m leaf at under bs (paths_of e more) s)
      ∙ ap (flat_choice (unless_set set (typing m at (choice p bs e)).type) (flat_branches m leaf at under bs))
      (flat_same n m leaf at under e more (λ q i. s q (more_branches bs (paths_of e more) q i)))
  flat_same n m leaf at under (cases p bs) more s =
      ap (λ (a : Typing). flat_cases (unless_set (has_set bs) a.type) (flat_branches n leaf at under bs)) (typing_same n m at (cases p bs) more s)
      ∙ ap (flat_cases (unless_set (has_set bs) (typing m at (cases p bs)).type)) (branches_same n m leaf at under bs more s)
  flat_same n m leaf at under (select p e high low) more s =
      ap (λ (a : Typing). flat_select a.type (flat_tree n leaf (single at) under e) high low) (typing_same n m at (select p e high low) more s)
      ∙ ap (λ (f : FlatTree). flat_select (typing m at (select p e high low)).type f high low) (flat_same n m leaf (single at) under e more s)
  flat_same n m leaf at under (call p o es) more s =
      ap (λ (a : Typing). flat_call a.type o (flat_trees n leaf (single at) under es)) (typing_same n m at (call p o es) more s)
      ∙ ap (flat_call (typing m at (call p o es)).type o) (trees_same n m leaf (single at) under es more s)
  flat_same n m leaf at under (next p e) more s = flat_same n m leaf under_next true e more s
  flat_same n m leaf at under (set p es) more s = ap (flat_set None) (trees_same n m leaf at under es more s)
  flat_same n m leaf at under (range p low high) more s = refl

  links_same : (n m : Path → Named) (leaf : Path → Leaf) (at : Position) (under : Bool) (ls : Links) (more : List Path) → SameNames n m (link_paths ls more) → flat_links n leaf at under ls ≡ flat_links m leaf at under ls
  links_same n m leaf at under no_links more s = refl
  links_same n m leaf at under (link op e ls) more s =
      ap (λ (f : FlatTree). flat_link op f (flat_links n leaf at under ls)) (flat_same n m leaf (behind op at) under e (link_paths ls more) s)
      ∙ ap (flat_link op (flat_tree m leaf (behind op at) under e)) (links_same n m leaf at under ls more (λ q i. s q (more_paths e (link_paths ls more) q i)))

  branches_same : (n m : Path → Named) (leaf : Path → Leaf) (at : Position) (under : Bool) (bs : Branches) (more : List Path) → SameNames n m (branch_paths bs more)
      → flat_branches n leaf at under bs ≡ flat_branches m leaf at under bs
  branches_same n m leaf at under no_branches more s = refl
  branches_same n m leaf at under (branch c e rest) more s =
      ap (λ (f : FlatTree). flat_branch f (flat_tree n leaf at under e) (flat_branches n leaf at under rest)) (flat_same n m leaf (single at) under c (paths_of e (branch_paths rest more)) s)
      ∙ ap (λ (f : FlatTree). flat_branch (flat_tree m leaf (single at) under c) f (flat_branches n leaf at under rest))
      (flat_same n m leaf at under e (branch_paths rest more) (λ q i. s q (more_paths c (paths_of e (branch_paths rest more)) q i)))
      ∙ ap (flat_branch (flat_tree m leaf (single at) under c) (flat_tree m leaf at under e))
      (branches_same n m leaf at under rest more (λ q i. s q (more_paths c (paths_of e (branch_paths rest more)) q (more_paths e (branch_paths rest more) q i))))

  trees_same : (n m : Path → Named) (leaf : Path → Leaf) (at : Position) (under : Bool) (es : Trees) (more : List Path) → SameNames n m (tree_paths es more) → flat_trees n leaf at under es ≡ flat_trees m leaf at under es
  trees_same n m leaf at under no_trees more s = refl
  trees_same n m leaf at under (tree e es) more s =
      ap (λ (f : FlatTree). flat_tree_then f (flat_trees n leaf at under es)) (flat_same n m leaf at under e (tree_paths es more) s)
      ∙ ap (flat_tree_then (flat_tree m leaf at under e)) (trees_same n m leaf at under es more (λ q i. s q (more_paths e (tree_paths es more) q i)))

reaches_same : (n m : Path → Named) (e : Tree) → SameNames n m (paths_of e []) → reaches n e ≡ reaches m e
reaches_same n m e s = reaches_by_path n e ∙ any_same n m (paths_of e []) s ∙ sym (reaches_by_path m e)

-- where the paths are the same, an expression ends the same
pub ends_same : (n m : Path → Named) (leaf : Path → Leaf) (at : Position) (under : Bool) (e : Tree) (x : Typed) → SameOn n m (paths_of e []) → EndsTyped n leaf at under e (Ok x) → EndsTyped m leaf at under e (Ok x)
ends_same n m leaf at under e x s h =
    let same = each_same n m (paths_of e []) s in
    let typed : EndsAs (typing m at e) (flat_tree n leaf at under e) (is_set e) (reaches n e) (Ok x) =
    subst (λ (a : Typing). EndsAs a (flat_tree n leaf at under e) (is_set e) (reaches n e) (Ok x)) (typing_same n m at e [] same) h in
    let formed : EndsAs (typing m at e) (flat_tree m leaf at under e) (is_set e) (reaches n e) (Ok x) =
    subst (λ (f : FlatTree). EndsAs (typing m at e) f (is_set e) (reaches n e) (Ok x)) (flat_same n m leaf at under e [] same) typed in
    subst (λ (b : Bool). EndsAs (typing m at e) (flat_tree m leaf at under e) (is_set e) b (Ok x)) (reaches_same n m e same) formed
