-- Few names are bound around a part of a model's formulas.
use Rattle.std.proofs.Common.{◌≡◌, ℕ, ◌≤◌, max, Bool, false, true, List, [], ◌∷◌, arith}
use Rattle.std.specs.Prelude.{Option, None}
use Rattle.std.specs.List.{AllByRecursion}
use Rattle.text_core.specs.declared.place.Place.{Place}
use Rattle.smv_text.specs.declared.token.Token.{Token}
use Rattle.smv_text.specs.declared.tree.Path.{Path}
use Rattle.smv_text.specs.Heights.{height, link_heights, branch_heights, branches_height, heights, highest, first_high, of_modules}
use Rattle.smv_text.specs.Sources.{SpellsSource}
use Rattle.smv_text.specs.Tree.{Tree, truth, number, literal, name, prefix, chain, choice, cases, select, call, next, set, range, Links, no_links, link, Branches, no_branches, branch, Trees, no_trees, tree, PlainModule, PlainSource}
use Rattle.smv_meaning.specs.Checks.{Position, Named, single, under_next, across, behind}
use Rattle.smv_meaning.specs.Instances.{instances_of}
use Rattle.smv_meaning.specs.Settled.{types_in}
use Rattle.smv_meaning.specs.Types.{ExprType}
use Rattle.smv_items.specs.FlatItems.{Leaf, of_item, of_symbol, of_nothing, leaf_in}
use Rattle.smv_flat.specs.FlatForms.{Form, flat_smv}
use Rattle.smv_flat.specs.FlatTree.{leaf_tree, flat_tree, flat_links, flat_branches, flat_trees}
use Rattle.smv_script_terms.specs.Depths.{depth, links_depth, branches_depth, trees_depth, forms_depth}
use Rattle.smv_script_laws.proofs.ChainHeights.{below_chain, tallest}
use Rattle.smv_script_laws.proofs.Chains.{Sized}
use Rattle.smv_script_laws.proofs.Charges.{IsLow, ModuleEach, Weighs, spelled_modules, low_modules}
use Rattle.smv_script_laws.proofs.Instances.{source_fits}
use Rattle.smv_script_laws.proofs.Prices.{forms_all}

leaf_low : (t : Option ExprType) (under : Bool) (l : Leaf) → depth 0 (leaf_tree t under l) ≤ 1
leaf_low t under (of_item k) = omega arith
leaf_low t under (of_symbol s) = omega arith
leaf_low t under of_nothing = omega arith

-- no deeper than the expression of the model is high
mutual
  flat_low : (names : Path → Named) (leaf : Path → Leaf) (at : Position) (under : Bool) (e : Tree) → depth 0 (flat_tree names leaf at under e) ≤ height e
  flat_low names leaf at under (truth p b) = omega arith
  flat_low names leaf at under (number p n) = omega arith
  flat_low names leaf at under (literal p w) = omega arith
  flat_low names leaf at under (name p x) = leaf_low _ under (leaf x)
  flat_low names leaf at under (prefix p sign n e) = let i = flat_low names leaf (single at) under e in omega (arith, i)
  flat_low names leaf at under (chain p e no_links) = let i = flat_low names leaf (across no_links at) under e in omega (arith, i)
  flat_low names leaf at under (chain p e (link o x ls)) =
      let i = flat_low names leaf (across (link o x ls) at) under e in
      let j = flat_low names leaf (behind o (across (link o x ls) at)) under x in
      let k = links_low names leaf (across (link o x ls) at) under ls in
      let b = below_chain (height e) (o, height x) (link_heights ls) in
      omega (arith, i, j, k, b)
  flat_low names leaf at under (choice p bs e) =
      let i = flat_low names leaf at under e in
      let j = branches_low names leaf at under bs (height e) in
      omega (arith, i, j)
  flat_low names leaf at under (cases p bs) = let j = branches_low names leaf at under bs 0 in omega (arith, j)
  flat_low names leaf at under (select p e high low) = let i = flat_low names leaf (single at) under e in omega (arith, i)
  flat_low names leaf at under (call p f es) = let i = trees_low names leaf (single at) under es in omega (arith, i)
  flat_low names leaf at under (next p e) = let i = flat_low names leaf under_next true e in omega (arith, i)
  flat_low names leaf at under (set p es) = let i = trees_low names leaf at under es in omega (arith, i)
  flat_low names leaf at under (range p low high) = omega arith

  links_low : (names : Path → Named) (leaf : Path → Leaf) (at : Position) (under : Bool) (ls : Links) → links_depth 0 (flat_links names leaf at under ls) ≤ tallest (link_heights ls)
  links_low names leaf at under no_links = omega arith
  links_low names leaf at under (link o e ls) =
      let i = flat_low names leaf (behind o at) under e in
      let j = links_low names leaf at under ls in
      omega (arith, i, j)

  branches_low : (names : Path → Named) (leaf : Path → Leaf) (at : Position) (under : Bool) (bs : Branches) (n : ℕ)
      → max (branches_depth 0 (flat_branches names leaf at under bs)) n ≤ branches_height (branch_heights bs) n
  branches_low names leaf at under no_branches n = omega arith
  branches_low names leaf at under (branch c e rest) n =
      let i = flat_low names leaf (single at) under c in
      let j = flat_low names leaf at under e in
      let k = branches_low names leaf at under rest n in
      omega (arith, i, j, k)

  trees_low : (names : Path → Named) (leaf : Path → Leaf) (at : Position) (under : Bool) (es : Trees) → trees_depth 0 (flat_trees names leaf at under es) ≤ highest (heights es)
  trees_low names leaf at under no_trees = omega arith
  trees_low names leaf at under (tree e es) =
      let i = flat_low names leaf at under e in
      let j = trees_low names leaf at under es in
      omega (arith, i, j)

-- ---- the formulas of a model

forms_low : (fs : List Form) → AllByRecursion (λ (f : Form). depth 0 f.body ≤ 380) fs → forms_depth fs ≤ 380
forms_low [] h = omega arith
forms_low (f ∷ fs) h = let i = h.0 in let j = forms_low fs h.1 in omega (arith, i, j)

weighed : (ms : List PlainModule) → AllByRecursion (λ m. Weighs m × ModuleEach Sized m) ms → AllByRecursion (ModuleEach IsLow) ms → AllByRecursion (λ m. Weighs m × ModuleEach IsLow m) ms
weighed [] p q = tt
weighed (m ∷ ms) p q = ((p.0.0, q.0), weighed ms p.1 q.1)

pub bodies_low : (source : PlainSource) (end : Place) (xs : List Token) → SpellsSource source end xs → first_high (of_modules source.modules) ≡ None → forms_depth (flat_smv source).forms ≤ 380
bodies_low source end xs s l =
    let t = instances_of source in
    forms_low (flat_smv source).forms
    (forms_all t IsLow (λ (f : Form). depth 0 f.body ≤ 380) (λ i r j at e p. let n = flat_low (types_in true t j) (leaf_in t j) at false e in omega (arith, n, p))
    (source_fits IsLow source (weighed source.modules (spelled_modules s.0) (low_modules source.modules l))))
