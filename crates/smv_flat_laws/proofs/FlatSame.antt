-- A flat expression denotes what the one does from which it was made.
use Rattle.std.proofs.Common.{◌≡◌, ℕ, Bool, true, false, ◌&&◌, ◌||◌, if◌then◌else◌, List, ◌∷◌, Option, refl, ap, ◌∙◌}
use Rattle.smv_text.specs.declared.tree.Path.{Path}
use Rattle.smv_text.specs.Tree.{Tree, truth, number, literal, name, prefix, chain, choice, cases, select, call, next, set, range, Links, no_links, link, Branches, no_branches, branch, Trees, no_trees, tree}
use Rattle.smv_meaning.specs.declared.value.Value.{Value}
use Rattle.smv_meaning.specs.Values.{no_value, is_true}
use Rattle.smv_meaning.specs.Operators.{implied, signed, selected, called}
use Rattle.smv_meaning.specs.Expressions.{Denotation, alone, set_of, joined, is_implies, are_implies, is_from_right, is_last, denote, implications, linked, chosen, taken, values_of, one_permits}
use Rattle.smv_meaning.specs.Types.{ExprType}
use Rattle.smv_meaning.specs.Checks.{Position, Named, single, under_next, across, behind}
use Rattle.smv_items.specs.FlatItems.{Leaf, of_item, of_symbol, of_nothing}
use Rattle.smv_flat.specs.FlatTree.{leaf_tree, flat_tree, flat_links, flat_branches, flat_trees, flat_are_implies, flat_from_right, flat_is_last, flat_denote, flat_implications, flat_linked, flat_chosen, flat_taken, flat_values, flat_permits}

-- the value of what a path becomes
abbrev pub leaf_value : (ℕ → Value) → (ℕ → Value) → Leaf → Value
leaf_value symbols row (of_item k) = row k
leaf_value symbols row (of_symbol s) = symbols s
leaf_value symbols row of_nothing = no_value

-- the values of paths, outside `next` or under it
abbrev pub reads : (ℕ → Value) → (ℕ → Value) → (ℕ → Value) → (Path → Leaf) → Bool → Path → Value
reads symbols now later leaf under x = leaf_value symbols (if under then later else now) (leaf x)

pub leaf_same : (symbols now later : ℕ → Value) (t : Option ExprType) (under : Bool) (l : Leaf)
    → flat_denote symbols now later (leaf_tree t under l) ≡ alone (leaf_value symbols (if under then later else now) l)
leaf_same symbols now later t under (of_item k) = refl
leaf_same symbols now later t under (of_symbol s) = refl
leaf_same symbols now later t under of_nothing = refl

pub implies_same : (names : Path → Named) (leaf : Path → Leaf) (at : Position) (under : Bool) (ls : Links) → flat_are_implies (flat_links names leaf at under ls) ≡ are_implies ls
implies_same names leaf at under no_links = refl
implies_same names leaf at under (link op e ls) = ap (λ b. is_implies op && b) (implies_same names leaf at under ls)

pub right_same : (names : Path → Named) (leaf : Path → Leaf) (at : Position) (under : Bool) (ls : Links) → flat_from_right (flat_links names leaf at under ls) ≡ is_from_right ls
right_same names leaf at under no_links = refl
right_same names leaf at under (link op e ls) = ap (λ b. is_implies op && b) (implies_same names leaf at under ls)

pub last_same : (names : Path → Named) (leaf : Path → Leaf) (at : Position) (under : Bool) (bs : Branches) → flat_is_last (flat_branches names leaf at under bs) ≡ is_last bs
last_same names leaf at under no_branches = refl
last_same names leaf at under (branch c e rest) = refl

pick_same : {X : Type 0} (a b : Bool) (x y z w : X) → a ≡ b → x ≡ z → y ≡ w → (if a then x else y) ≡ (if b then z else w)
pick_same a b x y z w e h k = ap (λ c. if c then x else y) e ∙ by b
  where
    by : (c : Bool) → (if c then x else y) ≡ (if c then z else w)
    by true = h
    by false = k

or_same : (a b c d : Bool) → a ≡ b → c ≡ d → (a || c) ≡ (b || d)
or_same a b c d e h = ap (λ x. x || c) e ∙ ap (λ x. b || x) h

mutual
  pub flat_same : (symbols now later : ℕ → Value) (names : Path → Named) (leaf : Path → Leaf) (at : Position) (under : Bool) (e : Tree)
      → flat_denote symbols now later (flat_tree names leaf at under e) ≡ denote (reads symbols now later leaf under) (reads symbols now later leaf true) e
  flat_same symbols now later names leaf at under (truth p b) = refl
  flat_same symbols now later names leaf at under (number p n) = refl
  flat_same symbols now later names leaf at under (literal p w) = refl
  flat_same symbols now later names leaf at under (name p x) = leaf_same symbols now later _ under (leaf x)
  flat_same symbols now later names leaf at under (prefix p sign n e) =
      ap (λ (d : Denotation). alone (signed sign n d.value)) (flat_same symbols now later names leaf (single at) under e)
  flat_same symbols now later names leaf at under (chain p e ls) =
      let f = reads symbols now later leaf under in
      let g = reads symbols now later leaf true in
      let d = flat_same symbols now later names leaf (across ls at) under e in
      pick_same _ _ _ _ _ _ (right_same names leaf (across ls at) under ls)
      (ap alone (ap (λ (c : Denotation). flat_implications symbols now later c.value (flat_links names leaf (across ls at) under ls)) d
      ∙ implications_flat symbols now later names leaf (across ls at) under (denote f g e).value ls))
      (ap (λ (c : Denotation). flat_linked symbols now later c (flat_links names leaf (across ls at) under ls)) d
      ∙ linked_flat symbols now later names leaf (across ls at) under (denote f g e) ls)
  flat_same symbols now later names leaf at under (choice p bs e) =
      let f = reads symbols now later leaf under in
      let g = reads symbols now later leaf true in
      ap (λ (c : Denotation). flat_chosen symbols now later (flat_branches names leaf at under bs) c) (flat_same symbols now later names leaf at under e)
      ∙ chosen_flat symbols now later names leaf at under bs (denote f g e)
  flat_same symbols now later names leaf at under (cases p bs) = taken_flat symbols now later names leaf at under bs
  flat_same symbols now later names leaf at under (select p e high low) =
      ap (λ (d : Denotation). alone (selected high low d.value)) (flat_same symbols now later names leaf (single at) under e)
  flat_same symbols now later names leaf at under (call p o es) = ap (λ (vs : List Value). alone (called o vs)) (values_flat symbols now later names leaf (single at) under es)
  flat_same symbols now later names leaf at under (next p e) = flat_same symbols now later names leaf under_next true e
  flat_same symbols now later names leaf at under (set p es) = ap set_of (permits_flat symbols now later names leaf at under es)
  flat_same symbols now later names leaf at under (range p low high) = refl

  implications_flat : (symbols now later : ℕ → Value) (names : Path → Named) (leaf : Path → Leaf) (at : Position) (under : Bool) (v : Value) (ls : Links)
      → flat_implications symbols now later v (flat_links names leaf at under ls) ≡ implications (reads symbols now later leaf under) (reads symbols now later leaf true) v ls
  implications_flat symbols now later names leaf at under v no_links = refl
  implications_flat symbols now later names leaf at under v (link op e ls) =
      ap (implied v)
      (ap (λ (d : Denotation). flat_implications symbols now later d.value (flat_links names leaf at under ls)) (flat_same symbols now later names leaf (behind op at) under e)
      ∙ implications_flat symbols now later names leaf at under (denote (reads symbols now later leaf under) (reads symbols now later leaf true) e).value ls)

  linked_flat : (symbols now later : ℕ → Value) (names : Path → Named) (leaf : Path → Leaf) (at : Position) (under : Bool) (d : Denotation) (ls : Links)
      → flat_linked symbols now later d (flat_links names leaf at under ls) ≡ linked (reads symbols now later leaf under) (reads symbols now later leaf true) d ls
  linked_flat symbols now later names leaf at under d no_links = refl
  linked_flat symbols now later names leaf at under d (link op e ls) =
      ap (λ (c : Denotation). flat_linked symbols now later (joined op d c) (flat_links names leaf at under ls)) (flat_same symbols now later names leaf (behind op at) under e)
      ∙ linked_flat symbols now later names leaf at under (joined op d (denote (reads symbols now later leaf under) (reads symbols now later leaf true) e)) ls

  chosen_flat : (symbols now later : ℕ → Value) (names : Path → Named) (leaf : Path → Leaf) (at : Position) (under : Bool) (bs : Branches) (d : Denotation)
      → flat_chosen symbols now later (flat_branches names leaf at under bs) d ≡ chosen (reads symbols now later leaf under) (reads symbols now later leaf true) bs d
  chosen_flat symbols now later names leaf at under no_branches d = refl
  chosen_flat symbols now later names leaf at under (branch c e rest) d =
      pick_same _ _ _ _ _ _ (ap (λ (a : Denotation). is_true a.value) (flat_same symbols now later names leaf (single at) under c))
      (flat_same symbols now later names leaf at under e) (chosen_flat symbols now later names leaf at under rest d)

  taken_flat : (symbols now later : ℕ → Value) (names : Path → Named) (leaf : Path → Leaf) (at : Position) (under : Bool) (bs : Branches)
      → flat_taken symbols now later (flat_branches names leaf at under bs) ≡ taken (reads symbols now later leaf under) (reads symbols now later leaf true) bs
  taken_flat symbols now later names leaf at under no_branches = refl
  taken_flat symbols now later names leaf at under (branch c e rest) =
      pick_same _ _ _ _ _ _
      (or_same _ _ _ _ (ap (λ (a : Denotation). is_true a.value) (flat_same symbols now later names leaf (single at) under c)) (last_same names leaf at under rest))
      (flat_same symbols now later names leaf at under e) (taken_flat symbols now later names leaf at under rest)

  values_flat : (symbols now later : ℕ → Value) (names : Path → Named) (leaf : Path → Leaf) (at : Position) (under : Bool) (es : Trees)
      → flat_values symbols now later (flat_trees names leaf at under es) ≡ values_of (reads symbols now later leaf under) (reads symbols now later leaf true) es
  values_flat symbols now later names leaf at under no_trees = refl
  values_flat symbols now later names leaf at under (tree e es) =
      ap (λ (d : Denotation). d.value ∷ flat_values symbols now later (flat_trees names leaf at under es)) (flat_same symbols now later names leaf at under e)
      ∙ ap (λ (vs : List Value). (denote (reads symbols now later leaf under) (reads symbols now later leaf true) e).value ∷ vs) (values_flat symbols now later names leaf at under es)

  permits_flat : (symbols now later : ℕ → Value) (names : Path → Named) (leaf : Path → Leaf) (at : Position) (under : Bool) (es : Trees)
      → flat_permits symbols now later (flat_trees names leaf at under es) ≡ one_permits (reads symbols now later leaf under) (reads symbols now later leaf true) es
  permits_flat symbols now later names leaf at under no_trees = refl
  permits_flat symbols now later names leaf at under (tree e es) =
      ap {B = Value → Bool} (λ d v. d.permits v || flat_permits symbols now later (flat_trees names leaf at under es) v) (flat_same symbols now later names leaf at under e)
      ∙ ap {B = Value → Bool} (λ o v. (denote (reads symbols now later leaf under) (reads symbols now later leaf true) e).permits v || o v) (permits_flat symbols now later names leaf at under es)
