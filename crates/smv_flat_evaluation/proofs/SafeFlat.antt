-- A flat expression is evaluated safely where the one is from which it was made.
use Rattle.std.proofs.Common.{◌≡◌, ℕ, Bool, true, List, ◌∷◌, refl, sym, ap, ◌∙◌, subst}
use Rattle.smv_text.specs.declared.tree.Path.{Path}
use Rattle.smv_text.specs.Tree.{Tree, truth, number, literal, name, prefix, chain, choice, cases, select, call, next, set, range, Links, no_links, link, Branches, no_branches, branch, Trees, no_trees, tree}
use Rattle.smv_meaning.specs.declared.value.Value.{Value}
use Rattle.smv_meaning.specs.Operators.{signed, called}
use Rattle.smv_meaning.specs.Expressions.{Denotation, denote, values_of}
use Rattle.smv_meaning.specs.Safety.{Fits, front_value, Safe, SafeLinks, SafeOperands, SafeBranches, SafeTrees}
use Rattle.smv_meaning.specs.Types.{ExprType}
use Rattle.smv_meaning.specs.Checks.{Position, Named, single, under_next, across, behind}
use Rattle.smv_items.specs.FlatItems.{Leaf, of_item, of_symbol, of_nothing}
use Rattle.smv_flat.specs.FlatTree.{leaf_tree, flat_tree, flat_links, flat_branches, flat_trees, flat_values}
use Rattle.smv_flat_laws.proofs.FlatSame.{reads, flat_same}
use Rattle.smv_flat_evaluation.specs.FlatSafety.{FlatSafe, FlatSafeLinks, FlatSafeOperands, FlatSafeBranches, FlatSafeTrees}
use Rattle.std.specs.Prelude.{Option}

pub leaf_safe : (symbols now later : ℕ → Value) (t : Option ExprType) (under : Bool) (l : Leaf) → FlatSafe symbols now later (leaf_tree t under l)
leaf_safe symbols now later t under (of_item k) = tt
leaf_safe symbols now later t under (of_symbol s) = tt
leaf_safe symbols now later t under of_nothing = tt

values_same : (symbols now later : ℕ → Value) (names : Path → Named) (leaf : Path → Leaf) (at : Position) (under : Bool) (es : Trees)
    → flat_values symbols now later (flat_trees names leaf at under es) ≡ values_of (reads symbols now later leaf under) (reads symbols now later leaf true) es
values_same symbols now later names leaf at under no_trees = refl
values_same symbols now later names leaf at under (tree e es) =
    ap (λ (d : Denotation). d.value ∷ flat_values symbols now later (flat_trees names leaf at under es)) (flat_same symbols now later names leaf at under e)
    ∙ ap (λ (vs : List Value). (denote (reads symbols now later leaf under) (reads symbols now later leaf true) e).value ∷ vs) (values_same symbols now later names leaf at under es)

mutual
  pub flat_safe : (symbols now later : ℕ → Value) (names : Path → Named) (leaf : Path → Leaf) (P Q : Path → Type 0) (at : Position) (under : Bool) (e : Tree)
      → Safe P Q (reads symbols now later leaf under) (reads symbols now later leaf true) e → FlatSafe symbols now later (flat_tree names leaf at under e)
  flat_safe symbols now later names leaf P Q at under (truth p b) h = tt
  flat_safe symbols now later names leaf P Q at under (number p n) h = h
  flat_safe symbols now later names leaf P Q at under (literal p w) h = tt
  flat_safe symbols now later names leaf P Q at under (name p x) h = leaf_safe symbols now later _ under (leaf x)
  flat_safe symbols now later names leaf P Q at under (prefix p sign n e) h = (
    flat_safe symbols now later names leaf P Q (single at) under e h.0,
    subst (λ (d : Denotation). Fits (signed sign n d.value)) (sym (flat_same symbols now later names leaf (single at) under e)) h.1,
  )
  flat_safe symbols now later names leaf P Q at under (chain p e ls) h =
      let f = reads symbols now later leaf under in
      let g = reads symbols now later leaf true in (
        flat_safe symbols now later names leaf P Q (across ls at) under e h.0,
        subst (λ (d : Denotation). FlatSafeLinks symbols now later d.value (flat_links names leaf (across ls at) under ls)) (sym (flat_same symbols now later names leaf (across ls at) under e))
            (links_safe symbols now later names leaf P Q (across ls at) under (denote f g e).value ls h.1),
        operands_safe symbols now later names leaf P Q (across ls at) under ls h.2,
      )
  flat_safe symbols now later names leaf P Q at under (choice p bs e) h =
      (branches_safe symbols now later names leaf P Q at under bs h.0, flat_safe symbols now later names leaf P Q at under e h.1)
  flat_safe symbols now later names leaf P Q at under (cases p bs) h = branches_safe symbols now later names leaf P Q at under bs h
  flat_safe symbols now later names leaf P Q at under (select p e high low) h = flat_safe symbols now later names leaf P Q (single at) under e h
  flat_safe symbols now later names leaf P Q at under (call p o es) h = (
    trees_safe symbols now later names leaf P Q (single at) under es h.0,
    subst (λ (vs : List Value). Fits (called o vs)) (sym (values_same symbols now later names leaf (single at) under es)) h.1,
  )
  flat_safe symbols now later names leaf P Q at under (next p e) h = flat_safe symbols now later names leaf Q Q under_next true e h
  flat_safe symbols now later names leaf P Q at under (set p es) h = trees_safe symbols now later names leaf P Q at under es h
  flat_safe symbols now later names leaf P Q at under (range p low high) h = tt

  links_safe : (symbols now later : ℕ → Value) (names : Path → Named) (leaf : Path → Leaf) (P Q : Path → Type 0) (at : Position) (under : Bool) (v : Value) (ls : Links)
      → SafeLinks P Q (reads symbols now later leaf under) (reads symbols now later leaf true) v ls → FlatSafeLinks symbols now later v (flat_links names leaf at under ls)
  links_safe symbols now later names leaf P Q at under v no_links h = tt
  links_safe symbols now later names leaf P Q at under v (link op e ls) h =
      let d = sym (flat_same symbols now later names leaf (behind op at) under e) in (
        flat_safe symbols now later names leaf P Q (behind op at) under e h.0,
        subst (λ (c : Denotation). Fits (front_value op v c)) d h.1,
        subst (λ (c : Denotation). FlatSafeLinks symbols now later (front_value op v c) (flat_links names leaf at under ls)) d
            (links_safe symbols now later names leaf P Q at under (front_value op v (denote (reads symbols now later leaf under) (reads symbols now later leaf true) e)) ls h.2),
      )

  operands_safe : (symbols now later : ℕ → Value) (names : Path → Named) (leaf : Path → Leaf) (P Q : Path → Type 0) (at : Position) (under : Bool) (ls : Links)
      → SafeOperands P Q (reads symbols now later leaf under) (reads symbols now later leaf true) ls → FlatSafeOperands symbols now later (flat_links names leaf at under ls)
  operands_safe symbols now later names leaf P Q at under no_links h = tt
  operands_safe symbols now later names leaf P Q at under (link op e ls) h =
      (flat_safe symbols now later names leaf P Q (behind op at) under e h.0, operands_safe symbols now later names leaf P Q at under ls h.1)

  branches_safe : (symbols now later : ℕ → Value) (names : Path → Named) (leaf : Path → Leaf) (P Q : Path → Type 0) (at : Position) (under : Bool) (bs : Branches)
      → SafeBranches P Q (reads symbols now later leaf under) (reads symbols now later leaf true) bs → FlatSafeBranches symbols now later (flat_branches names leaf at under bs)
  branches_safe symbols now later names leaf P Q at under no_branches h = tt
  branches_safe symbols now later names leaf P Q at under (branch c e rest) h =
      (flat_safe symbols now later names leaf P Q (single at) under c h.0, flat_safe symbols now later names leaf P Q at under e h.1, branches_safe symbols now later names leaf P Q at under rest h.2)

  trees_safe : (symbols now later : ℕ → Value) (names : Path → Named) (leaf : Path → Leaf) (P Q : Path → Type 0) (at : Position) (under : Bool) (es : Trees)
      → SafeTrees P Q (reads symbols now later leaf under) (reads symbols now later leaf true) es → FlatSafeTrees symbols now later (flat_trees names leaf at under es)
  trees_safe symbols now later names leaf P Q at under no_trees h = tt
  trees_safe symbols now later names leaf P Q at under (tree e es) h =
      (flat_safe symbols now later names leaf P Q at under e h.0, trees_safe symbols now later names leaf P Q at under es h.1)
