-- The bounds of chains and branches, from those of their operands.
use Rattle.std.proofs.Common.{◌≡◌, ℕ, suc, ◌+◌, ◌≤◌, max, Bool, true, false, ◌&&◌, nat_lt, nat_eq, ◌∷◌, refl, sym, ap, ◌∙◌, subst, arith}
use Rattle.std.specs.List.{list_all}
use mathlib.Core.Logic.{⊎_elim}
use Rattle.text_core.specs.declared.place.Place.{Place}
use Rattle.smv_text.specs.declared.tree.Path.{Path}
use Rattle.smv_text.specs.declared.operators.Infix.{Infix}
use Rattle.smv_text.specs.declared.operators.Infix.TheVariants.{Implies}
use Rattle.smv_text.specs.declared.level.OperatorClass.{OperatorClass}
use Rattle.smv_text.specs.declared.level.OperatorClass.TheVariants.{Implications}
use Rattle.smv_text.specs.Levels.{class_of}
use Rattle.smv_text.specs.Tree.{Tree as Expression, chain, Links, no_links, link, Branches, no_branches, branch, Trees as Expressions, no_trees as no_expressions, tree as expression}
use Rattle.smv_text.specs.Heights.{height, link_heights, branch_heights, heights, joined_number, is_joined, highest, folded, folded_right, chain_height, branches_height}
use Rattle.smv_meaning.specs.Expressions.{is_implies}
use Rattle.smv_meaning.specs.Types.{is_union}
use Rattle.smv_meaning.specs.Checks.{Position, Named, single, across, behind}
use Rattle.smv_meaning.specs.laws.Booleans.{both_true, two_true}
use Rattle.smv_items.specs.FlatItems.{Leaf}
use Rattle.smv_flat.specs.FlatTree.{FlatTree, flat_truth, flat_number, flat_literal, flat_symbol, flat_item, flat_prefix, flat_chain, flat_choice, flat_cases, flat_select, flat_call, flat_set, flat_range, flat_tree, flat_links, flat_branches, flat_trees, flat_are_implies}
use Rattle.moxi_terms.specs.Operators.{nothing}
use Rattle.moxi_terms.specs.Tree.{Tree, constant, tree}
use Rattle.smv_script.specs.Operators.{infix_op, joins_with, front_width, among_term}
use Rattle.smv_script.specs.Terms.{is_word, word_width, is_name, amount_of, Translation, value_translation, set_translation, choice_translation, are_flat_unions, all_join_with, Coding, translation, implied_term, folded_term, link_terms, link_members, chosen_translation, taken_translation, terms, members}
use Rattle.smv_script_laws.proofs.Measures.{fewest, fewest_links, fewest_branches, fewest_parts, IsLeaf, Within, Inside, Together, Fits, AllWithin, none_within, one_within, within_more, inside_more, fits_more, fits_if}
use Rattle.smv_script_laws.proofs.SizedRows.{constant_leaf, variable_leaf, leaf_within, three_chosen, inside_chosen, equal_inside, joined_within, any_inside, op_counts, infix_within, link_within, among_within}
use Rattle.smv_script_laws.proofs.ChainHeights.{tallest, below_chain, right_chain, implies_class, class_implies, same_operator, joined_kind, left_chain}

-- an expression's term and membership are bounded by its least number of tokens and its height, whatever its names are and become
abbrev pub Sized : Expression → Type 0
Sized e = (c : Coding) (names : Path → Named) (leaf : Path → Leaf) (at : Position) (under : Bool) → Fits (fewest e) (height e) (translation c (flat_tree names leaf at under e))

-- operators of one class
pub data LinksSized (j : OperatorClass) : Links → Type 0 where
  none_linked : LinksSized j no_links
  one_linked : {o : Infix} {e : Expression} {ls : Links} → class_of o ≡ j → Sized e → LinksSized j ls → LinksSized j (link o e ls)

pub data BranchesSized : Branches → Type 0 where
  none_branched : BranchesSized no_branches
  one_branched : {q e : Expression} {bs : Branches} → Sized q → Sized e → BranchesSized bs → BranchesSized (branch q e bs)

pub data PartsSized : Expressions → Type 0 where
  none_listed : PartsSized no_expressions
  one_listed : {e : Expression} {es : Expressions} → Sized e → PartsSized es → PartsSized (expression e es)

-- ---- values, sets and choices

pub value_fits : {n h : ℕ} (term : ℕ → Tree) → ((k : ℕ) → Within n h (term k)) → Fits n h (value_translation term)
value_fits term w = record { term = w; member = λ k x l. equal_inside x (term k) l (w k) }

pub set_fits : {n h : ℕ} (member : ℕ → Tree → Tree) → 1 ≤ n → 1 ≤ h → ((k : ℕ) (x : Tree) → IsLeaf x → Inside n h (member k x)) → Fits n h (set_translation member)
set_fits member a b w = record { term = λ k. within_more (constant nothing) (leaf_within 0 0 (constant nothing) (constant_leaf nothing)) a b; member = w }

pub choice_fits : {n m p h i j : ℕ} (c a b : Translation) → Fits n h c → Fits m i a → Fits p j b → Fits (n + (m + p)) (suc (max (max h i) j)) (choice_translation c a b)
choice_fits c a b u v w = record {
  term = λ k. three_chosen (c.term k) (a.term k) (b.term k) (u.term k) (v.term k) (w.term k);
  member = λ k x l. inside_chosen (c.term k) (a.member k x) (b.member k x) (u.term k) (v.member k x l) (w.member k x l);
}

-- ---- names

pub name_leaf : (c : Coding) (e : FlatTree) → is_name e ≡ true → (k : ℕ) → IsLeaf ((translation c e).term k)
name_leaf c (flat_symbol t s) h k = constant_leaf _
name_leaf c (flat_item t i under) h k = variable_leaf _ _
name_leaf c (flat_truth t b) h k = cc
name_leaf c (flat_number t n) h k = cc
name_leaf c (flat_literal t w) h k = cc
name_leaf c (flat_prefix t sign n e) h k = cc
name_leaf c (flat_chain t e ls) h k = cc
name_leaf c (flat_choice t bs e) h k = cc
name_leaf c (flat_cases t bs) h k = cc
name_leaf c (flat_select t e high low) h k = cc
name_leaf c (flat_call t f es) h k = cc
name_leaf c (flat_set t es) h k = cc
name_leaf c (flat_range t low high) h k = cc

-- ---- chains of which each operand is an argument

linked_terms : {j : OperatorClass} {ls : Links} → LinksSized j ls → (c : Coding) (names : Path → Named) (leaf : Path → Leaf) (at : Position) (under : Bool) (k : ℕ)
    → Together (fewest_links ls) (tallest (link_heights ls)) (link_terms c k (flat_links names leaf at under ls))
linked_terms none_linked c names leaf at under k = record { size = omega arith; height = omega arith; brackets = omega arith }
linked_terms (one_linked {o = o} s e rest) c names leaf at under k =
    let w = (e c names leaf (behind o at) under).term k in
    let r = linked_terms rest c names leaf at under k in
    record { size = omega (arith, w.size, r.size); height = omega (arith, w.height, r.height); brackets = omega (arith, w.brackets, r.brackets) }

linked_members : {j : OperatorClass} {ls : Links} → LinksSized j ls → (c : Coding) (names : Path → Named) (leaf : Path → Leaf) (at : Position) (under : Bool) (k : ℕ) (x : Tree) → IsLeaf x
    → Together (fewest_links ls) (tallest (link_heights ls)) (link_members c k x (flat_links names leaf at under ls))
linked_members none_linked c names leaf at under k x l = record { size = omega arith; height = omega arith; brackets = omega arith }
linked_members (one_linked {o = o} s e rest) c names leaf at under k x l =
    let w = (e c names leaf (behind o at) under).member k x l in
    let r = linked_members rest c names leaf at under k x l in
    record { size = omega (arith, w.size, r.size); height = omega (arith, w.height, r.height); brackets = omega (arith, w.brackets, r.brackets) }

-- ---- chains that are folded

implied_within : {j : OperatorClass} {ls : Links} → LinksSized j ls → (c : Coding) (names : Path → Named) (leaf : Path → Leaf) (at : Position) (under : Bool) (k : ℕ) {n h : ℕ} (a : Tree)
    → Within n h a → Within (n + fewest_links ls) (folded_right h (link_heights ls)) (implied_term c k a (flat_links names leaf at under ls))
implied_within none_linked c names leaf at under k a w = within_more a w (omega arith) (omega arith)
implied_within (one_linked {o = o} {e = t} s e rest) c names leaf at under k a w =
    let f = flat_tree names leaf (behind o at) under t in
    let r = implied_within rest c names leaf at under k ((translation c f).term k) ((e c names leaf (behind o at) under).term k) in
    within_more _ (infix_within Implies (is_word f) a _ w r) (omega arith) (omega arith)

folded_within : {j : OperatorClass} {ls : Links} → LinksSized j ls → (c : Coding) (names : Path → Named) (leaf : Path → Leaf) (at : Position) (under : Bool) (k m : ℕ) {n h : ℕ} (a : Tree)
    → Within n h a → Within (n + fewest_links ls) (folded h (link_heights ls)) (folded_term c k m a (flat_links names leaf at under ls))
folded_within none_linked c names leaf at under k m a w = within_more a w (omega arith) (omega arith)
folded_within (one_linked {o = o} {e = t} s e rest) c names leaf at under k m a w =
    let f = flat_tree names leaf (behind o at) under t in
    let d = translation c f in
    let v = e c names leaf (behind o at) under in
    let x = link_within o (is_word f) m (amount_of f) a (d.term k) (among_term false k a d.member) w (v.term k) (among_within false k a d.member (λ z. cc) w v.member) in
    within_more _ (folded_within rest c names leaf at under k (front_width o m (word_width f)) _ x) (omega arith) (omega arith)

-- ---- which form a chain has

all_implied : {ls : Links} → LinksSized Implications ls → (names : Path → Named) (leaf : Path → Leaf) (at : Position) (under : Bool) → flat_are_implies (flat_links names leaf at under ls) ≡ true
all_implied none_linked names leaf at under = refl
all_implied (one_linked {o = o} s e rest) names leaf at under = two_true (is_implies o) _ (class_implies o s) (all_implied rest names leaf at under)

all_united : (o : Infix) (ls : Links) → nat_lt 0 (joined_number o) ≡ true → list_all (λ m. nat_eq (joined_number m.0) (joined_number o)) (link_heights ls) ≡ true → is_union o ≡ true
    → (names : Path → Named) (leaf : Path → Leaf) (at : Position) (under : Bool) → are_flat_unions (flat_links names leaf at under ls) ≡ true
all_united o no_links g h u names leaf at under = refl
all_united o (link p e ls) g h u names leaf at under =
    let b = both_true (nat_eq (joined_number p) (joined_number o)) _ h in
    two_true (is_union p) _ (ap is_union (same_operator o p g b.0) ∙ u) (all_united o ls g b.1 u names leaf at under)

all_joint : (o : Infix) (ls : Links) → nat_lt 0 (joined_number o) ≡ true → list_all (λ m. nat_eq (joined_number m.0) (joined_number o)) (link_heights ls) ≡ true → joins_with o o ≡ true
    → (names : Path → Named) (leaf : Path → Leaf) (at : Position) (under : Bool) → all_join_with o (flat_links names leaf at under ls) ≡ true
all_joint o no_links g h u names leaf at under = refl
all_joint o (link p e ls) g h u names leaf at under =
    let b = both_true (nat_eq (joined_number p) (joined_number o)) _ h in
    two_true (joins_with o p) _ (ap (joins_with o) (same_operator o p g b.0) ∙ u) (all_joint o ls g b.1 u names leaf at under)

not_true : (b : Bool) → b ≡ false → b ≡ true → ⊥
not_true b p q = cc

unjoined : (o : Infix) (h : ℕ) (ls : Links) (names : Path → Named) (leaf : Path → Leaf) (at : Position) (under : Bool)
    → (is_union o && are_flat_unions (flat_links names leaf at under ls)) ≡ false → (joins_with o o && all_join_with o (flat_links names leaf at under ls)) ≡ false
    → is_joined ((o, h) ∷ link_heights ls) ≡ true → ⊥
unjoined o h ls names leaf at under p q e =
    let b = both_true (nat_lt 0 (joined_number o)) _ e in
    ⊎_elim (λ u. not_true _ p (two_true (is_union o) _ u (all_united o ls b.0 b.1 u names leaf at under)))
    (λ u. not_true _ q (two_true (joins_with o o) _ u (all_joint o ls b.0 b.1 u names leaf at under))) (joined_kind o b.0)

-- ---- chains

pub chain_sized : {j : OperatorClass} {o : Infix} {e : Expression} {ls : Links} (p : Place) (t : Expression) → Sized t → LinksSized j (link o e ls) → Sized (chain p t (link o e ls))
chain_sized {o = o} {e = e} {ls = ls} p t s (one_linked same v rest) c names leaf at under =
    let place = across (link o e ls) at in
    let f = flat_tree names leaf place under t in
    let g = flat_tree names leaf (behind o place) under e in
    let gs = flat_links names leaf place under ls in
    let d = translation c f in
    let w = s c names leaf place under in
    let x = v c names leaf (behind o place) under in
    let operands = fewest t + (fewest e + fewest_links ls) in
    let top = max (height t) (max (height e) (tallest (link_heights ls))) in
    let many = fewest t + (1 + (fewest e + fewest_links ls)) in
    let high = chain_height (height t) ((o, height e) ∷ link_heights ls) in
    let low = below_chain (height t) (o, height e) (link_heights ls) in
    fits_if {n = many} {h = high} (is_union o && are_flat_unions gs) _ _
    (λ a. set_fits {n = many} {h = high} _ (omega arith) (omega (arith, low)) (λ k y l.
    let m = w.member k y l in
    let n = x.member k y l in
    let r = linked_members rest c names leaf place under k y l in
    inside_more _ (any_inside {n = operands} {h = top} (tree (d.member k y) (tree ((translation c g).member k y) (link_members c k y gs)))
    (record { size = omega (arith, m.size, n.size, r.size); height = omega (arith, m.height, n.height, r.height); brackets = omega (arith, m.brackets, n.brackets, r.brackets) }))
    (omega arith) (omega (arith, low))))
    (λ a. fits_if {n = many} {h = high} (is_implies o && flat_are_implies gs) _ _
    (λ b. value_fits {n = many} {h = high} _ (λ k.
    let r = implied_within rest c names leaf place under k ((translation c g).term k) (x.term k) in
    within_more _ (infix_within Implies (is_word g) (d.term k) _ (w.term k) r) (omega arith) (right_chain o (height t) (height e) (link_heights ls) (both_true (is_implies o) _ b).0)))
    (λ b. fits_if {n = many} {h = high} (joins_with o o && all_join_with o gs) _ _
    (λ q. value_fits {n = many} {h = high} _ (λ k.
    let m = w.term k in
    let n = x.term k in
    let r = linked_terms rest c names leaf place under k in
    within_more _ (joined_within (infix_op o (is_word g)) {n = operands} {h = top} (tree (d.term k) (tree ((translation c g).term k) (link_terms c k gs))) (op_counts o (is_word g) _ (both_true (joins_with o o) _ q).0)
    (record { size = omega (arith, m.size, n.size, r.size); height = omega (arith, m.height, n.height, r.height); brackets = omega (arith, m.brackets, n.brackets, r.brackets) })
    (omega (arith, m.brackets)))
    (omega arith) (omega (arith, low))))
    (λ q. value_fits {n = many} {h = high} _ (λ k.
    let among = among_term (is_name f) k (d.term k) (translation c g).member in
    let y = link_within o (is_word g) (word_width f) (amount_of g) (d.term k) ((translation c g).term k) among (w.term k) (x.term k)
    (among_within (is_name f) k (d.term k) (translation c g).member (λ z. name_leaf c f z k) (w.term k) x.member) in
    within_more _ (folded_within rest c names leaf place under k (front_width o (word_width f) (word_width g)) _ y) (omega arith)
    (left_chain o (height t) (height e) (link_heights ls) (unjoined o (height e) ls names leaf place under a q)
    (λ z. not_true _ b (two_true (is_implies o) _ z (all_implied (subst (λ i. LinksSized i ls) (sym same ∙ implies_class o z) rest) names leaf place under))))))))

-- ---- branches

pub chosen_fits : {bs : Branches} → BranchesSized bs → (c : Coding) (names : Path → Named) (leaf : Path → Leaf) (at : Position) (under : Bool) {n h : ℕ} (d : Translation) → Fits n h d
    → Fits (fewest_branches bs + n) (branches_height (branch_heights bs) h) (chosen_translation c (flat_branches names leaf at under bs) d)
chosen_fits none_branched c names leaf at under d w = fits_more d w (omega arith) (omega arith)
chosen_fits (one_branched q e rest) c names leaf at under d w =
    fits_more _ (choice_fits _ _ _ (q c names leaf (single at) under) (e c names leaf at under) (chosen_fits rest c names leaf at under d w)) (omega arith) (omega arith)

-- the last condition is left out
pub taken_fits : (q e : Expression) (bs : Branches) → Sized q → Sized e → BranchesSized bs → (c : Coding) (names : Path → Named) (leaf : Path → Leaf) (at : Position) (under : Bool)
    → Fits (fewest_branches (branch q e bs)) (branches_height (branch_heights (branch q e bs)) 0) (taken_translation c (flat_branches names leaf at under (branch q e bs)))
taken_fits q e no_branches u v rest c names leaf at under = fits_more _ (v c names leaf at under) (omega arith) (omega arith)
taken_fits q e (branch r f bs) u v (one_branched w x rest) c names leaf at under =
    fits_more _ (choice_fits _ _ _ (u c names leaf (single at) under) (v c names leaf at under) (taken_fits r f bs w x rest c names leaf at under)) (omega arith) (omega arith)

-- ---- lists

pub parts_within : {es : Expressions} → PartsSized es → (c : Coding) (names : Path → Named) (leaf : Path → Leaf) (at : Position) (under : Bool) (k : ℕ)
    → AllWithin (fewest_parts es) (highest (heights es)) (terms c k (flat_trees names leaf at under es))
parts_within none_listed c names leaf at under k = none_within
parts_within (one_listed e rest) c names leaf at under k = one_within ((e c names leaf at under).term k) (parts_within rest c names leaf at under k)

pub members_together : {es : Expressions} → PartsSized es → (c : Coding) (names : Path → Named) (leaf : Path → Leaf) (at : Position) (under : Bool) (k : ℕ) (x : Tree) → IsLeaf x
    → Together (fewest_parts es) (highest (heights es)) (members c k x (flat_trees names leaf at under es))
members_together none_listed c names leaf at under k x l = record { size = omega arith; height = omega arith; brackets = omega arith }
members_together (one_listed e rest) c names leaf at under k x l =
    let w = (e c names leaf at under).member k x l in
    let r = members_together rest c names leaf at under k x l in
    record { size = omega (arith, w.size, r.size); height = omega (arith, w.height, r.height); brackets = omega (arith, w.brackets, r.brackets) }
