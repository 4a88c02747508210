-- The flat form of an expression whose checks hold has the width that the types of the expression's parts give.
use Rattle.std.proofs.Common.{◌≡◌, ℕ, ◌≤◌, max, Bool, true, false, not, cond, ◌&&◌, ◌||◌, if◌then◌else◌, ℤ, ◌+ℤ◌, ◌-ℤ◌, ◌*ℤ◌, List, [], ◌∷◌, ◌++◌, Option, Some, None, option_map, refl, sym, ap, ◌∙◌, subst, arith}
use Rattle.std.specs.Int.{int_min, int_max}
use Rattle.std.specs.Prelude.{int_lt, int_le}
use Rattle.text_core.specs.declared.place.Place.{Place}
use Rattle.smv_text.specs.declared.tree.Path.{Path}
use Rattle.smv_text.specs.declared.operators.Prefix.TheVariants as OfPrefix
use Rattle.smv_text.specs.declared.operators.Infix.{Infix}
use Rattle.smv_text.specs.declared.operators.Infix.TheVariants.{Implies, Member, Union, Plus, Minus, Times, Divide, Mod}
use Rattle.smv_text.specs.Tree.{Tree, truth, number, literal, name, prefix, chain, choice, cases, select, call, next, set, range, Links, no_links, link, Branches, no_branches, branch, Trees, no_trees, tree}
use Rattle.smv_meaning.specs.Expressions.{are_implies, is_from_right}
use Rattle.smv_meaning.specs.Types.{ExprType, truth_type, integer_type, symbol_type, word_type, is_integer_type, in_limit, hull, hull_with, hull_of, over_both_ends, quotient_type, rest_type, infix_type, infix_type_by, divisor_of, is_divisor, is_union, are_same, infix_fits, divides, shifts, joins}
use Rattle.smv_meaning.specs.Checks.{Check, check, on_all, branches_fit, Position, Named, Typing, single, under_next, across, behind, are_unions, front, front_checks, on_types, both_types, all_types, branches_type, node, passes, typing, linked, link_checks, value_types, condition_types, branch_checks, tree_types, tree_checks}
use Rattle.smv_meaning.specs.laws.Booleans.{both_true}
use Rattle.smv_meaning.specs.laws.Booleans.{absurd_bool}
use Rattle.smv_laws.proofs.Typable.{split}
use Rattle.smv_items.specs.FlatItems.{Leaf, of_item, of_symbol, of_nothing}
use Rattle.smv_flat.specs.FlatTree.{leaf_tree, FlatTree, flat_truth, flat_number, flat_literal, flat_symbol, flat_item, flat_prefix, flat_chain, flat_choice, flat_cases, flat_select, flat_call, flat_set, flat_range, flat_tree, flat_links, flat_branches, flat_trees, is_set, has_set, unless_set}
use Rattle.smv_flat.specs.FlatWidth.{integer_width, interval_width, integers_width, node_width, integer_within, front_by, flat_divisor, flat_type, operand_width, arguments_width, tree_width, links_width, branches_width, trees_width, first_width}
use Rattle.smv_width.specs.SourceWidth.{expression_width, implied_width, fronts_width, branch_width, part_width, front_width, has_link, has_operators, link_operators, branch_operators, part_operators, SameWidth}
use Rattle.smv_width.proofs.WidthLaw.{node_some}

-- ---- widths of types

integers_some : (t : ExprType) → 1 ≤ integers_width t
integers_some (integer_type low high) = let s : 1 ≤ integer_width low = node_some low in omega (arith, s)
integers_some truth_type = omega arith
integers_some symbol_type = omega arith
integers_some (word_type n) = omega arith

type_some : (t : Option ExprType) → 1 ≤ node_width t
type_some None = omega arith
type_some (Some t) = integers_some t

flat_node : (t : FlatTree) → node_width (flat_type t) ≤ tree_width t
flat_node (flat_truth t b) = omega arith
flat_node (flat_number t n) = omega arith
flat_node (flat_literal t w) = omega arith
flat_node (flat_symbol t s) = omega arith
flat_node (flat_item t k under) = omega arith
flat_node (flat_prefix t sign n e) = omega arith
flat_node (flat_chain t e ls) = omega arith
flat_node (flat_choice t bs e) = omega arith
flat_node (flat_cases t bs) = omega arith
flat_node (flat_select t e high low) = omega arith
flat_node (flat_call t f es) = omega arith
flat_node (flat_set t es) = omega arith
flat_node (flat_range t low high) = omega arith

pub source_node : (names : Path → Named) (at : Position) (e : Tree) → node_width (typing names at e).type ≤ expression_width names at e
source_node names at (truth p b) = omega arith
source_node names at (number p n) = omega arith
source_node names at (literal p w) = omega arith
source_node names at (name p x) = omega arith
source_node names at (prefix p sign n e) = omega arith
source_node names at (chain p e ls) = omega arith
source_node names at (choice p bs e) = omega arith
source_node names at (cases p bs) = omega arith
source_node names at (select p e high low) = omega arith
source_node names at (call p f es) = omega arith
source_node names at (next p e) = omega arith
source_node names at (set p es) = omega arith
source_node names at (range p low high) = omega arith

guard_wide : (b : Bool) (t : Option ExprType) → node_width (if b then t else None) ≤ max 1 (node_width t)
guard_wide true t = omega arith
guard_wide false t = omega arith

-- ---- widths of hulls

least_wide : (c : Bool) (a b : ℤ) → integer_width (cond c b a) ≤ max (integer_width a) (integer_width b)
least_wide true a b = omega arith
least_wide false a b = omega arith

hull_wide : (t u : ExprType) → integers_width (hull t u) ≤ max (integers_width t) (integers_width u)
hull_wide (integer_type low high) (integer_type less more) =
    let p : integer_width (int_min low less) ≤ max (integer_width low) (integer_width less) = least_wide (int_lt less low) low less in
    let q : integer_width (int_max high more) ≤ max (integer_width more) (integer_width high) = least_wide (int_lt more high) more high in
    omega (arith, p, q)
hull_wide (integer_type low high) truth_type = omega arith
hull_wide (integer_type low high) symbol_type = omega arith
hull_wide (integer_type low high) (word_type n) = omega arith
hull_wide truth_type u = omega arith
hull_wide symbol_type u = omega arith
hull_wide (word_type n) u = omega arith

abbrev greatest : List ExprType → ℕ
greatest [] = 0
greatest (t ∷ ts) = max (integers_width t) (greatest ts)

abbrev node_greatest : List (Option ExprType) → ℕ
node_greatest [] = 0
node_greatest (t ∷ ts) = max (node_width t) (node_greatest ts)

hull_with_wide : (t : ExprType) (us : List ExprType) → integers_width (hull_with t us) ≤ max (integers_width t) (greatest us)
hull_with_wide t [] = omega arith
hull_with_wide t (u ∷ us) =
    let p : integers_width (hull t u) ≤ max (integers_width t) (integers_width u) = hull_wide t u in
    let q : integers_width (hull_with (hull t u) us) ≤ max (integers_width (hull t u)) (greatest us) = hull_with_wide (hull t u) us in
    omega (arith, p, q)

hull_of_wide : (ts : List ExprType) → integers_width (hull_of ts) ≤ max 1 (greatest ts)
hull_of_wide [] = omega arith
hull_of_wide (t ∷ ts) = let p : integers_width (hull_with t ts) ≤ max (integers_width t) (greatest ts) = hull_with_wide t ts in omega (arith, p)

map_twice : (f : List ExprType → ExprType) (g : List ExprType → List ExprType) (o : Option (List ExprType)) → option_map f (option_map g o) ≡ option_map (λ ts. f (g ts)) o
map_twice f g None = refl
map_twice f g (Some ts) = refl

all_wide : (f : List ExprType → ExprType) (m : ℕ) (ts : List (Option ExprType)) → 1 ≤ m → ((us : List ExprType) → integers_width (f us) ≤ max m (greatest us))
    → node_width (option_map f (all_types ts)) ≤ max m (node_greatest ts)
all_wide f m [] s k = k []
all_wide f m (None ∷ ts) s k = omega (arith, s)
all_wide f m (Some t ∷ ts) s k =
    let p : node_width (option_map (λ us. f (t ∷ us)) (all_types ts)) ≤ max (max m (integers_width t)) (node_greatest ts) =
    all_wide (λ us. f (t ∷ us)) (max m (integers_width t)) ts (omega (arith, s)) (λ us. let q : integers_width (f (t ∷ us)) ≤ max m (max (integers_width t) (greatest us)) = k (t ∷ us) in omega (arith, q)) in
    let e : node_width (option_map f (option_map (λ us. t ∷ us) (all_types ts))) ≡ node_width (option_map (λ us. f (t ∷ us)) (all_types ts)) = ap node_width (map_twice f (λ us. t ∷ us) (all_types ts)) in
    omega (arith, p, e)

parts_wide : (names : Path → Named) (at : Position) (es : Trees) → node_greatest (tree_types names at es) ≤ part_width names at es
parts_wide names at no_trees = omega arith
parts_wide names at (tree e es) =
    let p : node_width (typing names at e).type ≤ expression_width names at e = source_node names at e in
    let q : node_greatest (tree_types names at es) ≤ part_width names at es = parts_wide names at es in
    omega (arith, p, q)

values_wide : (names : Path → Named) (at : Position) (bs : Branches) (more : List (Option ExprType)) → node_greatest (value_types names at bs more) ≤ max (branch_width names at bs) (node_greatest more)
values_wide names at no_branches more = omega arith
values_wide names at (branch c e rest) more =
    let p : node_width (typing names at e).type ≤ expression_width names at e = source_node names at e in
    let q : node_greatest (value_types names at rest more) ≤ max (branch_width names at rest) (node_greatest more) = values_wide names at rest more in
    omega (arith, p, q)

branches_wide : (cs vs : Option (List ExprType)) → node_width (branches_type cs vs) ≤ max 1 (node_width (option_map hull_of vs))
branches_wide (Some cs) (Some vs) = omega arith
branches_wide (Some cs) None = omega arith
branches_wide None vs = omega arith

-- ---- what checks that hold give

node_type : (cs own : List Check) (t : Option ExprType) → passes (cs ++ own) ≡ true → (node cs own t).type ≡ t
node_type cs own t h = ap (λ b. if b then t else None) (split cs own h).1

linked_keeps : (names : Path → Named) (at : Position) (p : Place) (a : Typing) (ls : Links) → passes (linked names at p a ls).checks ≡ true → passes a.checks ≡ true
linked_keeps names at p a no_links h = h
linked_keeps names at p a (link op e ls) h =
    let b = typing names (behind op at) e in
    let k = linked_keeps names at p (front op at p a b e) ls h in
    (split a.checks b.checks (split (a.checks ++ b.checks) (front_checks op at p a.type b.type e) k).0).0

front_parts : (op : Infix) (at : Position) (p : Place) (a b : Typing) (e : Tree) → passes (front op at p a b e).checks ≡ true
    → (passes b.checks ≡ true) × (passes (front_checks op at p a.type b.type e) ≡ true)
front_parts op at p a b e h = let k = split (a.checks ++ b.checks) (front_checks op at p a.type b.type e) h in ((split a.checks b.checks k.0).1, k.1)

-- ---- no set stands where none may

both_false : (a b : Bool) → a ≡ false → b ≡ false → (a || b) ≡ false
both_false false b h k = k
both_false true b h k = h

across_sets : (b : Bool) (at : Position) → at.sets ≡ false → (if b then at else single at).sets ≡ false
across_sets true at h = h
across_sets false at h = refl

-- the six checks of a front
front_checked : (a b c d e f : Bool) → (a && (b && (c && (d && (e && (f && true)))))) ≡ true → (a ≡ true) × (b ≡ true) × (c ≡ true) × (d ≡ true)
front_checked a b c d e f h =
    let p = both_true a _ h in
    let q = both_true b _ p.1 in
    let r = both_true c _ q.1 in
    let s = both_true d _ r.1 in
    (p.0, q.0, r.0, s.0)

checked : (op : Infix) (at : Position) (p : Place) (t u : Option ExprType) (e : Tree) → passes (front_checks op at p t u e) ≡ true
    → (on_types t u (infix_fits op) ≡ true) × (on_types t u (λ x y. in_limit (infix_type op x y e)) ≡ true) × ((not (is_union op) || at.sets) ≡ true) × (divides op e ≡ true)
checked op at p t u e h =
    front_checked (on_types t u (infix_fits op)) (on_types t u (λ x y. in_limit (infix_type op x y e))) (not (is_union op) || at.sets) (divides op e)
    (on_types t u (λ x y. shifts op x e)) (on_types t u (joins op)) h

union_stands : (b s : Bool) → (not b || s) ≡ true → s ≡ false → b ≡ false
union_stands false s h k = refl
union_stands true s h k = absurd_bool (sym k ∙ h)

-- a union where no set may stand is refused
front_no_union : (op : Infix) (at : Position) (p : Place) (t u : Option ExprType) (e : Tree) → at.sets ≡ false → passes (front_checks op at p t u e) ≡ true → is_union op ≡ false
front_no_union op at p t u e s h = union_stands (is_union op) at.sets (checked op at p t u e h).2 s

linked_no_union : (names : Path → Named) (at : Position) (p : Place) (a : Typing) (op : Infix) (e : Tree) (ls : Links) → at.sets ≡ false
    → passes (linked names at p a (link op e ls)).checks ≡ true → is_union op ≡ false
linked_no_union names at p a op e ls s h =
    let b = typing names (behind op at) e in
    front_no_union op at p a.type b.type e s (front_parts op at p a b e (linked_keeps names at p (front op at p a b e) ls h)).1

right_is : (names : Path → Named) (at : Position) (p : Place) (e : Tree) (ls : Links) → is_from_right ls ≡ true → passes (typing names at (chain p e ls)).checks ≡ true
    → (passes (typing names (single at) e).checks ≡ true) × (passes (link_checks names (single at) ls) ≡ true)
right_is names at p e ls r h =
    let k : passes (((typing names (single at) e).checks ++ link_checks names (single at) ls) ++ _) ≡ true = rw r at h in
    split (typing names (single at) e).checks (link_checks names (single at) ls) (split ((typing names (single at) e).checks ++ link_checks names (single at) ls) _ k).0

left_is : (names : Path → Named) (at : Position) (p : Place) (e : Tree) (ls : Links) → is_from_right ls ≡ false
    → typing names at (chain p e ls) ≡ linked names (across ls at) p (typing names (across ls at) e) ls
left_is names at p e ls r = rw r refl

union_left : (op : Infix) (ls : Links) (e : Tree) → (is_union op && are_unions ls) ≡ true → is_from_right (link op e ls) ≡ false
union_left Union ls e h = refl
union_left op ls e h = absurd_bool h

chain_no_set : (names : Path → Named) (at : Position) (p : Place) (e x : Tree) (op : Infix) (ls : Links) (b : Bool) → (is_union op && are_unions ls) ≡ b → at.sets ≡ false
    → passes (typing names at (chain p e (link op x ls))).checks ≡ true → b ≡ false
chain_no_set names at p e x op ls false q s h = refl
chain_no_set names at p e x op ls true q s h =
    let pos = across (link op x ls) at in
    let k : passes (linked names (across (link op x ls) at) p (typing names (across (link op x ls) at) e) (link op x ls)).checks ≡ true =
    subst (λ (t : Typing). passes t.checks ≡ true) (left_is names at p e (link op x ls) (union_left op ls x q)) h in
    let n : is_union op ≡ false = linked_no_union names (across (link op x ls) at) p (typing names (across (link op x ls) at) e) op x ls (across_sets (is_union op && are_unions ls) at s) k in
    absurd_bool (sym n ∙ (both_true (is_union op) (are_unions ls) q).0)

mutual
  no_set : (names : Path → Named) (at : Position) (e : Tree) → has_operators e ≡ true → at.sets ≡ false → passes (typing names at e).checks ≡ true → is_set e ≡ false
  no_set names at (truth p b) w s h = refl
  no_set names at (number p n) w s h = refl
  no_set names at (literal p v) w s h = refl
  no_set names at (name p x) w s h = refl
  no_set names at (prefix p sign n e) w s h = refl
  no_set names at (chain p e no_links) w s h = absurd_bool w
  no_set names at (chain p e (link op x ls)) w s h = chain_no_set names at p e x op ls (is_union op && are_unions ls) refl s h
  no_set names at (choice p bs e) w s h =
      let o = both_true (branch_operators bs) (has_operators e) w in
      let k = split (branch_checks names at bs) (typing names at e).checks (split (branch_checks names at bs ++ (typing names at e).checks) _ h).0 in
      both_false (has_set bs) (is_set e) (no_branch_set names at bs o.0 s k.0) (no_set names at e o.1 s k.1)
  no_set names at (cases p bs) w s h = no_branch_set names at bs w s (split (branch_checks names at bs) _ h).0
  no_set names at (select p e high low) w s h = refl
  no_set names at (call p f es) w s h = refl
  no_set names at (next p e) w s h = no_set names under_next e w refl (split (typing names under_next e).checks _ h).0
  no_set names at (set p es) w s h =
      let k = both_true _ _ (split (tree_checks names at es) _ h).1 in
      absurd_bool (sym s ∙ (both_true at.sets true k.1).0)
  no_set names at (range p low high) w s h = let k = both_true _ _ h in absurd_bool (sym s ∙ (both_true at.sets _ k.1).0)

  no_branch_set : (names : Path → Named) (at : Position) (bs : Branches) → branch_operators bs ≡ true → at.sets ≡ false → passes (branch_checks names at bs) ≡ true → has_set bs ≡ false
  no_branch_set names at no_branches w s h = refl
  no_branch_set names at (branch c e rest) w s h =
      let o = both_true (has_operators e) (branch_operators rest) (both_true (has_operators c) (has_operators e && branch_operators rest) w).1 in
      let k = split ((typing names (single at) c).checks ++ (typing names at e).checks) (branch_checks names at rest) h in
      both_false (is_set e) (has_set rest) (no_set names at e o.0 s (split (typing names (single at) c).checks (typing names at e).checks k.0).1) (no_branch_set names at rest o.1 s k.1)

-- ---- the type of a node of the flat form

leaf_typed : (t : Option ExprType) (under : Bool) (l : Leaf) → flat_type (leaf_tree t under l) ≡ t
leaf_typed t under (of_item k) = refl
leaf_typed t under (of_symbol s) = refl
leaf_typed t under of_nothing = refl

flat_typed : (names : Path → Named) (leaf : Path → Leaf) (at : Position) (under : Bool) (e : Tree) → passes (typing names at e).checks ≡ true
    → flat_type (flat_tree names leaf at under e) ≡ unless_set (is_set e) (typing names at e).type
flat_typed names leaf at under (truth p b) h = refl
flat_typed names leaf at under (number p n) h = refl
flat_typed names leaf at under (literal p w) h = refl
flat_typed names leaf at under (name p x) h = leaf_typed _ under (leaf x)
flat_typed names leaf at under (prefix p sign n e) h = refl
flat_typed names leaf at under (chain p e ls) h = refl
flat_typed names leaf at under (choice p bs e) h = refl
flat_typed names leaf at under (cases p bs) h = refl
flat_typed names leaf at under (select p e high low) h = refl
flat_typed names leaf at under (call p f es) h = refl
flat_typed names leaf at under (next p e) h =
    flat_typed names leaf under_next true e (split (typing names under_next e).checks _ h).0
    ∙ ap (unless_set (is_set e)) (sym (node_type (typing names under_next e).checks _ (typing names under_next e).type h))
flat_typed names leaf at under (set p es) h = refl
flat_typed names leaf at under (range p low high) h = refl

-- ---- a front of the flat form has the interval of the front

abbrev only : Option ExprType → Option ExprType
only (Some (integer_type low high)) = Some (integer_type low high)
only (Some truth_type) = None
only (Some symbol_type) = None
only (Some (word_type n)) = None
only None = None

node_only : (t : Option ExprType) → node_width t ≡ node_width (only t)
node_only (Some (integer_type low high)) = refl
node_only (Some truth_type) = refl
node_only (Some symbol_type) = refl
node_only (Some (word_type n)) = refl
node_only None = refl

only_same : (t u : Option ExprType) → only t ≡ only u → node_width t ≡ node_width u
only_same t u h = node_only t ∙ ap node_width h ∙ sym (node_only u)

only_integer : (t : Option ExprType) (low high : ℤ) → only t ≡ Some (integer_type low high) → t ≡ Some (integer_type low high)
only_integer (Some (integer_type a b)) low high h = h
only_integer (Some truth_type) low high h = cc
only_integer (Some symbol_type) low high h = cc
only_integer (Some (word_type n)) low high h = cc
only_integer None low high h = cc

within_integer : (low high : ℤ) → in_limit (integer_type low high) ≡ true → only (integer_within (integer_type low high)) ≡ Some (integer_type low high)
within_integer low high h = ap (λ b. only (if b then Some (integer_type low high) else None)) h

within_same : (t : ExprType) → in_limit t ≡ true → only (integer_within t) ≡ only (Some t)
within_same (integer_type low high) h = within_integer low high h
within_same truth_type h = refl
within_same symbol_type h = refl
within_same (word_type n) h = refl

within_other : (t : ExprType) → is_integer_type t ≡ false → integer_within t ≡ None
within_other (integer_type low high) h = absurd_bool (sym h)
within_other truth_type h = refl
within_other symbol_type h = refl
within_other (word_type n) h = refl

only_other : (t : ExprType) → is_integer_type t ≡ false → only (Some t) ≡ None
only_other (integer_type low high) h = absurd_bool (sym h)
only_other truth_type h = refl
only_other symbol_type h = refl
only_other (word_type n) h = refl

-- what is before an operator and is no integer makes no integer
hull_other : (t u : ExprType) → is_integer_type t ≡ false → is_integer_type (hull t u) ≡ false
hull_other (integer_type low high) u h = absurd_bool (sym h)
hull_other truth_type u h = refl
hull_other symbol_type u h = refl
hull_other (word_type n) u h = refl

both_other : (f : ℤ → ℤ → ℤ) (t u : ExprType) → is_integer_type t ≡ false → is_integer_type (over_both_ends f t u) ≡ false
both_other f (integer_type low high) u h = absurd_bool (sym h)
both_other f truth_type u h = refl
both_other f symbol_type u h = refl
both_other f (word_type n) u h = refl

quotient_other : (t : ExprType) (d : Option ℤ) → is_integer_type t ≡ false → is_integer_type (quotient_type t d) ≡ false
quotient_other (integer_type low high) d h = absurd_bool (sym h)
quotient_other truth_type None h = refl
quotient_other truth_type (Some b) h = refl
quotient_other symbol_type None h = refl
quotient_other symbol_type (Some b) h = refl
quotient_other (word_type n) None h = refl
quotient_other (word_type n) (Some b) h = refl

rest_other : (t : ExprType) (d : Option ℤ) → is_integer_type t ≡ false → is_integer_type (rest_type t d) ≡ false
rest_other (integer_type low high) d h = absurd_bool (sym h)
rest_other truth_type d h = refl
rest_other symbol_type d h = refl
rest_other (word_type n) d h = refl

infix_other : (op : Infix) (t u : ExprType) (d : Option ℤ) → is_integer_type t ≡ false → is_integer_type (infix_type_by op t u d) ≡ false
infix_other Union t u d h = hull_other t u h
infix_other Plus t u d h = both_other (λ x y. x +ℤ y) t u h
infix_other Minus t u d h = both_other (λ x y. x -ℤ y) t u h
infix_other Times t u d h = both_other (λ x y. x *ℤ y) t u h
infix_other Divide t u d h = quotient_other t d h
infix_other Mod t u d h = rest_other t d h
infix_other op t u d h = assumption

abbrev is_member : Infix → Bool
is_member Member = true
is_member op = false

-- nothing is before the operator that is an integer
flat_silent : (op : Infix) (g u : Option ExprType) (d : Option ℤ) → only g ≡ None → only (front_by op g u d) ≡ None
flat_silent op None u d h = refl
flat_silent op (Some t) None d h = refl
flat_silent op (Some (integer_type low high)) (Some u) d h = cc
flat_silent op (Some truth_type) (Some u) d h = ap only (within_other (infix_type_by op truth_type u d) (infix_other op truth_type u d refl))
flat_silent op (Some symbol_type) (Some u) d h = ap only (within_other (infix_type_by op symbol_type u d) (infix_other op symbol_type u d refl))
flat_silent op (Some (word_type n)) (Some u) d h = ap only (within_other (infix_type_by op (word_type n) u d) (infix_other op (word_type n) u d refl))

source_silent : (op : Infix) (t : ExprType) (u : Option ExprType) (e : Tree) → is_integer_type t ≡ false → only (both_types (λ x y. infix_type op x y e) (Some t) u) ≡ None
source_silent op t None e h = refl
source_silent op t (Some u) e h = only_other (infix_type op t u e) (infix_other op t u (divisor_of e) h)

member_same : (low high : ℤ) (u b : Option ExprType) (e : Tree) (d : Option ℤ)
    → only (front_by Member (Some (integer_type low high)) u d) ≡ only (both_types (λ x y. infix_type Member x y e) (Some (integer_type low high)) b)
member_same low high None None e d = refl
member_same low high None (Some b) e d = refl
member_same low high (Some u) None e d = refl
member_same low high (Some u) (Some b) e d = refl

integer_same : (op : Infix) (at : Position) (p : Place) (low high : ℤ) (u : ExprType) (e : Tree) (d : Option ℤ)
    → passes (front_checks op at p (Some (integer_type low high)) (Some u) e) ≡ true → (is_divisor e ≡ true → d ≡ divisor_of e)
    → only (front_by op (Some (integer_type low high)) (Some u) d) ≡ only (Some (infix_type op (integer_type low high) u e))
integer_same Divide at p low high u e d h k =
    let c = checked Divide at p (Some (integer_type low high)) (Some u) e h in
    ap (λ b. only (integer_within (quotient_type (integer_type low high) b))) (k c.3) ∙ within_same (quotient_type (integer_type low high) (divisor_of e)) c.1
integer_same Mod at p low high u e d h k =
    let c = checked Mod at p (Some (integer_type low high)) (Some u) e h in
    ap (λ b. only (integer_within (rest_type (integer_type low high) b))) (k c.3) ∙ within_same (rest_type (integer_type low high) (divisor_of e)) c.1
integer_same op at p low high u e d h k = within_same (infix_type op (integer_type low high) u e) (checked op at p (Some (integer_type low high)) (Some u) e h).1

integer_front : (op : Infix) (b : Bool) (at : Position) (p : Place) (low high : ℤ) (y u : Option ExprType) (e : Tree) (d : Option ℤ) → is_member op ≡ b → is_union op ≡ false
    → passes (front_checks op at p (Some (integer_type low high)) y e) ≡ true → (is_member op ≡ false → u ≡ y) → (is_divisor e ≡ true → d ≡ divisor_of e)
    → only (front_by op (Some (integer_type low high)) u d) ≡ only (both_types (λ x z. infix_type op x z e) (Some (integer_type low high)) y)
integer_front Member true at p low high y u e d m n h q k = member_same low high u y e d
integer_front op true at p low high y u e d m n h q k = absurd_bool m
integer_front op false at p low high None u e d m n h q k = ap (λ z. only (front_by op (Some (integer_type low high)) z d)) (q m)
integer_front op false at p low high (Some y) u e d m n h q k =
    ap (λ z. only (front_by op (Some (integer_type low high)) z d)) (q m) ∙ integer_same op at p low high y e d h k

types_same : (op : Infix) (at : Position) (p : Place) (x y g u : Option ExprType) (e : Tree) (d : Option ℤ) → is_union op ≡ false
    → passes (front_checks op at p x y e) ≡ true → only g ≡ only x → (is_member op ≡ false → u ≡ y) → (is_divisor e ≡ true → d ≡ divisor_of e)
    → only (front_by op g u d) ≡ only (both_types (λ t z. infix_type op t z e) x y)
types_same op at p None y g u e d n h l q k = flat_silent op g u d l
types_same op at p (Some truth_type) y g u e d n h l q k = flat_silent op g u d l ∙ sym (source_silent op truth_type y e refl)
types_same op at p (Some symbol_type) y g u e d n h l q k = flat_silent op g u d l ∙ sym (source_silent op symbol_type y e refl)
types_same op at p (Some (word_type w)) y g u e d n h l q k = flat_silent op g u d l ∙ sym (source_silent op (word_type w) y e refl)
types_same op at p (Some (integer_type low high)) y g u e d n h l q k =
    ap (λ z. only (front_by op z u d)) (only_integer g low high l) ∙ integer_front op (is_member op) at p low high y u e d refl n h q k

front_same : (op : Infix) (at : Position) (p : Place) (a b : Typing) (g u : Option ExprType) (e : Tree) (d : Option ℤ) → is_union op ≡ false
    → passes (front_checks op at p a.type b.type e) ≡ true → only g ≡ only a.type → (is_member op ≡ false → u ≡ b.type) → (is_divisor e ≡ true → d ≡ divisor_of e)
    → only (front_by op g u d) ≡ only (front op at p a b e).type
front_same op at p a b g u e d n h l q k =
    types_same op at p a.type b.type g u e d n h l q k
    ∙ ap (λ c. only (if c then both_types (λ t z. infix_type op t z e) a.type b.type else None)) (sym h)

divisor_same : (names : Path → Named) (leaf : Path → Leaf) (at : Position) (under : Bool) (e : Tree) → is_divisor e ≡ true → flat_divisor (flat_tree names leaf at under e) ≡ divisor_of e
divisor_same names leaf at under (number p n) h = refl
divisor_same names leaf at under (literal p w) h = refl
divisor_same names leaf at under (prefix p OfPrefix.Minus n (number q m)) h = refl
divisor_same names leaf at under e h = absurd_bool h

behind_sets : (op : Infix) (at : Position) → is_member op ≡ false → at.sets ≡ false → (behind op at).sets ≡ false
behind_sets Member at m s = absurd_bool (sym m)
behind_sets Union at m s = s
behind_sets op at m s = refl

-- ---- fronts that add nothing

limit_wide : (b : Bool) (t : ExprType) → node_width (if b then Some t else None) ≤ integers_width t
limit_wide true t = omega arith
limit_wide false t = integers_some t

within_wide : (t : ExprType) → node_width (integer_within t) ≤ integers_width t
within_wide (integer_type low high) = limit_wide (in_limit (integer_type low high)) (integer_type low high)
within_wide truth_type = omega arith
within_wide symbol_type = omega arith
within_wide (word_type n) = omega arith

-- the front of a union or of `->` is no wider than its operands
union_by_wide : (g u : Option ExprType) (d : Option ℤ) → node_width (front_by Union g u d) ≤ max (node_width g) (node_width u)
union_by_wide None u d = let s : 1 ≤ node_width u = type_some u in omega (arith, s)
union_by_wide (Some t) None d = let s : 1 ≤ integers_width t = integers_some t in omega (arith, s)
union_by_wide (Some t) (Some u) d =
    let p : integers_width (hull t u) ≤ max (integers_width t) (integers_width u) = hull_wide t u in
    let q : node_width (integer_within (hull t u)) ≤ integers_width (hull t u) = within_wide (hull t u) in
    omega (arith, p, q)

implies_by_wide : (g u : Option ExprType) (d : Option ℤ) → node_width (front_by Implies g u d) ≤ node_width g
implies_by_wide None u d = omega arith
implies_by_wide (Some t) None d = integers_some t
implies_by_wide (Some t) (Some u) d = within_wide t

union_types_wide : (x y : Option ExprType) (e : Tree) → node_width (both_types (λ t z. infix_type Union t z e) x y) ≤ max (node_width x) (node_width y)
union_types_wide None y e = let s : 1 ≤ node_width y = type_some y in omega (arith, s)
union_types_wide (Some t) None e = let s : 1 ≤ integers_width t = integers_some t in omega (arith, s)
union_types_wide (Some t) (Some u) e = hull_wide t u

-- ---- chains, choices and sets

linked_wide : (names : Path → Named) (at : Position) (p : Place) (a : Typing) (ls : Links) → node_width (linked names at p a ls).type ≤ max (node_width a.type) (fronts_width names at p a ls)
linked_wide names at p a no_links = omega arith
linked_wide names at p a (link op e ls) =
    let f = front op at p a (typing names (behind op at) e) e in
    let k : node_width (linked names at p (front op at p a (typing names (behind op at) e) e) ls).type ≤ max (node_width (front op at p a (typing names (behind op at) e) e).type) (fronts_width names at p (front op at p a (typing names (behind op at) e) e) ls) =
    linked_wide names at p (front op at p a (typing names (behind op at) e) e) ls in
    omega (arith, k)

unless_same : (b : Bool) (t : Option ExprType) (x y : ℕ) → x ≡ y → node_width t ≤ max 1 y → max (node_width (unless_set b t)) x ≡ max (node_width t) y
unless_same true t x y e h = let s : 1 ≤ node_width t = type_some t in omega (arith, e, h, s)
unless_same false t x y e h = omega (arith, e)

choice_wide : (names : Path → Named) (at : Position) (bs : Branches) (more : List (Option ExprType)) (m : ℕ) (own : List Check) (cs : Option (List ExprType))
    → node_greatest more ≤ m → node_width (if passes own then branches_type cs (all_types (value_types names at bs more)) else None) ≤ max 1 (max (branch_width names at bs) m)
choice_wide names at bs more m own cs h =
    let a : node_width (if passes own then branches_type cs (all_types (value_types names at bs more)) else None) ≤ max 1 (node_width (branches_type cs (all_types (value_types names at bs more)))) =
    guard_wide (passes own) (branches_type cs (all_types (value_types names at bs more))) in
    let b : node_width (branches_type cs (all_types (value_types names at bs more))) ≤ max 1 (node_width (option_map hull_of (all_types (value_types names at bs more)))) = branches_wide cs (all_types (value_types names at bs more)) in
    let c : node_width (option_map hull_of (all_types (value_types names at bs more))) ≤ max 1 (node_greatest (value_types names at bs more)) = all_wide hull_of 1 (value_types names at bs more) (omega arith) hull_of_wide in
    let d : node_greatest (value_types names at bs more) ≤ max (branch_width names at bs) (node_greatest more) = values_wide names at bs more in
    omega (arith, a, b, c, d, h)

set_wide : (names : Path → Named) (at : Position) (es : Trees) (own : List Check) → node_width (if passes own then option_map hull_of (all_types (tree_types names at es)) else None) ≤ max 1 (part_width names at es)
set_wide names at es own =
    let a : node_width (if passes own then option_map hull_of (all_types (tree_types names at es)) else None) ≤ max 1 (node_width (option_map hull_of (all_types (tree_types names at es)))) =
    guard_wide (passes own) (option_map hull_of (all_types (tree_types names at es))) in
    let c : node_width (option_map hull_of (all_types (tree_types names at es))) ≤ max 1 (node_greatest (tree_types names at es)) = all_wide hull_of 1 (tree_types names at es) (omega arith) hull_of_wide in
    let d : node_greatest (tree_types names at es) ≤ part_width names at es = parts_wide names at es in
    omega (arith, a, c, d)

greater_same : (a b c d : ℕ) → a ≡ b → c ≡ d → max a c ≡ max b d
greater_same a b c d p q = omega (arith, p, q)

link_same : (op : Infix) (w v : ℕ) (g f : Option ExprType) (x y : ℕ) → w ≡ v → node_width g ≡ node_width f → x ≡ y → max (max (operand_width op w) (node_width g)) x ≡ max (max (operand_width op v) (node_width f)) y
link_same op w v g f x y p q r = let o : operand_width op w ≡ operand_width op v = ap (operand_width op) p in omega (arith, o, q, r)

-- a front that is no wider than what is there
link_over : (m w v f g x y : ℕ) → w ≡ v → f ≤ max m w → g ≤ max m v → max (max m w) x ≡ max (max m w) y → max m (max (max w f) x) ≡ max m (max (max v g) y)
link_over m w v f g x y e p q r = omega (arith, e, p, q, r)

implied_over : (m w v f x y : ℕ) → w ≡ v → f ≤ m → max m x ≡ max m y → max m (max (max w f) x) ≡ max m (max v y)
implied_over m w v f x y e p r = omega (arith, e, p, r)

name_width : (t : Option ExprType) (under : Bool) (l : Leaf) → tree_width (leaf_tree t under l) ≡ node_width t
name_width t under (of_item k) = refl
name_width t under (of_symbol s) = refl
name_width t under of_nothing = refl

across_no_union : (ls : Links) (at : Position) → are_unions ls ≡ false → across ls at ≡ single at
across_no_union ls at h = ap (λ b. if b then at else single at) h

right_no_union : (ls : Links) → is_from_right ls ≡ true → are_unions ls ≡ false
right_no_union no_links h = absurd_bool h
right_no_union (link Implies e ls) h = refl
right_no_union (link op e ls) h = absurd_bool h

right_implies : (ls : Links) → is_from_right ls ≡ true → are_implies ls ≡ true
right_implies no_links h = absurd_bool h
right_implies (link op e ls) h = h

-- a chain, whose operands have their widths
abbrev FirstSame : (Path → Named) → (Path → Leaf) → Bool → Tree → Type 0
FirstSame names leaf under e = (at : Position) → passes (typing names at e).checks ≡ true → tree_width (flat_tree names leaf at under e) ≡ expression_width names at e

abbrev ImpliedSame : (Path → Named) → (Path → Leaf) → Position → Bool → Links → Type 0
ImpliedSame names leaf at under ls = (g : Option ExprType) (m : ℕ) → are_implies ls ≡ true → passes (link_checks names (single at) ls) ≡ true → node_width g ≤ m
    → max m (links_width g (flat_links names leaf at under ls)) ≡ max m (implied_width names (single at) ls)

abbrev UnionsSame : (Path → Named) → (Path → Leaf) → Position → Bool → Place → Links → Type 0
UnionsSame names leaf at under p ls = (a : Typing) (g : Option ExprType) (m : ℕ) → are_unions ls ≡ true → passes (linked names at p a ls).checks ≡ true → node_width a.type ≤ m → node_width g ≤ m
    → max m (links_width g (flat_links names leaf at under ls)) ≡ max m (fronts_width names at p a ls)

abbrev FrontsSame : (Path → Named) → (Path → Leaf) → Position → Bool → Place → Links → Type 0
FrontsSame names leaf at under p ls = (a : Typing) (g : Option ExprType) → at.sets ≡ false → passes (linked names at p a ls).checks ≡ true → only g ≡ only a.type
    → links_width g (flat_links names leaf at under ls) ≡ fronts_width names at p a ls

same_left : (names : Path → Named) (leaf : Path → Leaf) (at : Position) (under : Bool) (p : Place) (e : Tree) (ls : Links) (unions : Bool) → are_unions ls ≡ unions
    → has_operators e ≡ true → passes (linked names (across ls at) p (typing names (across ls at) e) ls).checks ≡ true
    → tree_width (flat_tree names leaf (across ls at) under e) ≡ expression_width names (across ls at) e
    → UnionsSame names leaf (across ls at) under p ls → FrontsSame names leaf (across ls at) under p ls
    → max (tree_width (flat_tree names leaf (across ls at) under e)) (links_width (flat_type (flat_tree names leaf (across ls at) under e)) (flat_links names leaf (across ls at) under ls))
    ≡ max (expression_width names (across ls at) e) (fronts_width names (across ls at) p (typing names (across ls at) e) ls)
same_left names leaf at under p e ls true u w k i iu fr =
    let f : node_width (flat_type (flat_tree names leaf (across ls at) under e)) ≤ tree_width (flat_tree names leaf (across ls at) under e) = flat_node (flat_tree names leaf (across ls at) under e) in
    let own : node_width (typing names (across ls at) e).type ≤ expression_width names (across ls at) e = source_node names (across ls at) e in
    iu (typing names (across ls at) e) (flat_type (flat_tree names leaf (across ls at) under e)) (tree_width (flat_tree names leaf (across ls at) under e)) u k
    (omega (arith, own, i)) f
    ∙ ap (λ x. max x (fronts_width names (across ls at) p (typing names (across ls at) e) ls)) i
same_left names leaf at under p e ls false u w k i iu fr =
    let c = linked_keeps names (across ls at) p (typing names (across ls at) e) ls k in
    let s : (across ls at).sets ≡ false = ap (λ (x : Position). x.sets) (across_no_union ls at u) in
    let n = no_set names (across ls at) e w s c in
    let g : only (flat_type (flat_tree names leaf (across ls at) under e)) ≡ only (typing names (across ls at) e).type =
    ap only (flat_typed names leaf (across ls at) under e c ∙ ap (λ b. unless_set b (typing names (across ls at) e).type) n) in
    greater_same _ _ _ _ i (fr (typing names (across ls at) e) (flat_type (flat_tree names leaf (across ls at) under e)) s k g)

same_chain : (names : Path → Named) (leaf : Path → Leaf) (at : Position) (under : Bool) (p : Place) (e : Tree) (ls : Links) (right : Bool) → is_from_right ls ≡ right
    → has_operators e ≡ true → passes (typing names at (chain p e ls)).checks ≡ true
    → FirstSame names leaf under e → ImpliedSame names leaf (single at) under ls → UnionsSame names leaf (across ls at) under p ls → FrontsSame names leaf (across ls at) under p ls
    → tree_width (flat_tree names leaf at under (chain p e ls)) ≡ expression_width names at (chain p e ls)
same_chain names leaf at under p e ls true r w h fe im iu fr =
    let k = right_is names at p e ls r h in
    let t = (typing names at (chain p e ls)).type in
    let n = right_no_union ls r in
    let i : tree_width (flat_tree names leaf (single at) under e) ≡ expression_width names (single at) e = fe (single at) k.0 in
    let f : node_width (flat_type (flat_tree names leaf (single at) under e)) ≤ tree_width (flat_tree names leaf (single at) under e) = flat_node (flat_tree names leaf (single at) under e) in
    let m : max (tree_width (flat_tree names leaf (single at) under e)) (links_width (flat_type (flat_tree names leaf (single at) under e)) (flat_links names leaf (single at) under ls))
    ≡ max (tree_width (flat_tree names leaf (single at) under e)) (implied_width names (single at) ls) =
    im (flat_type (flat_tree names leaf (single at) under e)) (tree_width (flat_tree names leaf (single at) under e)) (right_implies ls r) k.1 f in
    let g : max (tree_width (flat_tree names leaf (single at) under e)) (links_width (flat_type (flat_tree names leaf (single at) under e)) (flat_links names leaf (single at) under ls))
    ≡ max (expression_width names (single at) e) (implied_width names (single at) ls) = m ∙ ap (λ x. max x (implied_width names (single at) ls)) i in
    ap (λ (b : Bool). max (node_width (unless_set b t)) (max (tree_width (flat_tree names leaf (across ls at) under e)) (links_width (flat_type (flat_tree names leaf (across ls at) under e)) (flat_links names leaf (across ls at) under ls)))) n
    ∙ ap (λ (c : Position). max (node_width t) (max (tree_width (flat_tree names leaf c under e)) (links_width (flat_type (flat_tree names leaf c under e)) (flat_links names leaf c under ls)))) (across_no_union ls at n)
    ∙ ap (max (node_width t)) g
    ∙ ap (λ (b : Bool). max (node_width t) (if b then max (expression_width names (single at) e) (implied_width names (single at) ls)
    else max (expression_width names (across ls at) e) (fronts_width names (across ls at) p (typing names (across ls at) e) ls))) (sym r)
same_chain names leaf at under p e ls false r w h fe im iu fr =
    let t = (typing names at (chain p e ls)).type in
    let l = left_is names at p e ls r in
    let k : passes (linked names (across ls at) p (typing names (across ls at) e) ls).checks ≡ true = subst (λ (x : Typing). passes x.checks ≡ true) l h in
    let i : tree_width (flat_tree names leaf (across ls at) under e) ≡ expression_width names (across ls at) e =
    fe (across ls at) (linked_keeps names (across ls at) p (typing names (across ls at) e) ls k) in
    let wide : node_width (linked names (across ls at) p (typing names (across ls at) e) ls).type ≤ max (node_width (typing names (across ls at) e).type) (fronts_width names (across ls at) p (typing names (across ls at) e) ls) =
    linked_wide names (across ls at) p (typing names (across ls at) e) ls in
    let own : node_width (typing names (across ls at) e).type ≤ expression_width names (across ls at) e = source_node names (across ls at) e in
    let same : node_width (typing names at (chain p e ls)).type ≡ node_width (linked names (across ls at) p (typing names (across ls at) e) ls).type = ap (λ (x : Typing). node_width x.type) l in
    unless_same (are_unions ls) t _ _ (same_left names leaf at under p e ls (are_unions ls) refl w k i iu fr) (omega (arith, wide, own, same))
    ∙ ap (λ (b : Bool). max (node_width t) (if b then max (expression_width names (single at) e) (implied_width names (single at) ls)
    else max (expression_width names (across ls at) e) (fronts_width names (across ls at) p (typing names (across ls at) e) ls))) (sym r)

-- ---- the widths are the same

mutual
  same_tree : (names : Path → Named) (leaf : Path → Leaf) (at : Position) (under : Bool) (e : Tree) → has_operators e ≡ true → passes (typing names at e).checks ≡ true
      → tree_width (flat_tree names leaf at under e) ≡ expression_width names at e
  same_tree names leaf at under (truth p b) w h = refl
  same_tree names leaf at under (number p n) w h = refl
  same_tree names leaf at under (literal p v) w h = refl
  same_tree names leaf at under (name p x) w h = name_width _ under (leaf x)
  same_tree names leaf at under (prefix p sign n e) w h =
      ap (max (node_width (typing names at (prefix p sign n e)).type)) (same_tree names leaf (single at) under e w (split (typing names (single at) e).checks _ h).0)
  same_tree names leaf at under (chain p e ls) w h =
      let o = both_true (has_link ls) (has_operators e && link_operators ls) w in
      let q = both_true (has_operators e) (link_operators ls) o.1 in
      same_chain names leaf at under p e ls (is_from_right ls) refl q.0 h
      (λ pos k. same_tree names leaf pos under e q.0 k)
      (λ g m i k r. same_implied names leaf (single at) under g m ls i q.1 k r)
      (λ a g m u k x y. same_unions names leaf (across ls at) under p a g m ls u q.1 k x y)
      (λ a g s k l. same_fronts names leaf (across ls at) under p a g ls s q.1 k l)
  same_tree names leaf at under (choice p bs e) w h =
      let o = both_true (branch_operators bs) (has_operators e) w in
      let k = split (branch_checks names at bs) (typing names at e).checks (split (branch_checks names at bs ++ (typing names at e).checks) _ h).0 in
      let s : node_width (typing names at e).type ≤ expression_width names at e = source_node names at e in
      unless_same (has_set bs || is_set e) (typing names at (choice p bs e)).type _ _
      (greater_same _ _ _ _ (same_branches names leaf at under bs o.0 k.0) (same_tree names leaf at under e o.1 k.1))
      (choice_wide names at bs ((typing names at e).type ∷ []) (expression_width names at e)
      (check 16 p (branches_fit (all_types (condition_types names (single at) bs)) (all_types (value_types names at bs ((typing names at e).type ∷ [])))) ∷ [])
      (all_types (condition_types names (single at) bs)) (omega (arith, s)))
  same_tree names leaf at under (cases p bs) w h =
      let g : node_width (typing names at (cases p bs)).type ≤ max 1 (max (branch_width names at bs) 0) = choice_wide names at bs [] 0
      (check 16 p (branches_fit (all_types (condition_types names (single at) bs)) (all_types (value_types names at bs []))) ∷ []) (all_types (condition_types names (single at) bs)) (omega arith) in
      unless_same (has_set bs) (typing names at (cases p bs)).type _ _ (same_branches names leaf at under bs w (split (branch_checks names at bs) _ h).0) (omega (arith, g))
  same_tree names leaf at under (select p e high low) w h =
      ap (max (node_width (typing names at (select p e high low)).type)) (same_tree names leaf (single at) under e w (split (typing names (single at) e).checks _ h).0)
  same_tree names leaf at under (call p f es) w h =
      let k = (split (tree_checks names (single at) es) _ h).0 in
      ap (λ n. max (node_width (typing names at (call p f es)).type) (arguments_width f n (trees_width (flat_trees names leaf (single at) under es)))) (same_first names leaf (single at) under es w k)
      ∙ ap (λ n. max (node_width (typing names at (call p f es)).type) (arguments_width f (front_width names (single at) es) n)) (same_parts names leaf (single at) under es w k)
  same_tree names leaf at under (next p e) w h =
      let k = (split (typing names under_next e).checks _ h).0 in
      let i : tree_width (flat_tree names leaf under_next true e) ≡ expression_width names under_next e = same_tree names leaf under_next true e w k in
      let t : node_width (typing names at (next p e)).type ≡ node_width (typing names under_next e).type = ap node_width (node_type (typing names under_next e).checks _ (typing names under_next e).type h) in
      let s : node_width (typing names under_next e).type ≤ expression_width names under_next e = source_node names under_next e in
      omega (arith, i, t, s)
  same_tree names leaf at under (set p es) w h =
      unless_same true (typing names at (set p es)).type _ _ (same_parts names leaf at under es w (split (tree_checks names at es) _ h).0) (set_wide names at es (check 16 p (on_all (all_types (tree_types names at es)) are_same) ∷ check 20 p at.sets ∷ []))
  same_tree names leaf at under (range p low high) w h =
      let t : node_width (typing names at (range p low high)).type ≡ interval_width low high = ap node_width (node_type [] (check 17 p (in_limit (integer_type low high)) ∷ check 20 p at.sets ∷ check 26 p (int_le low high) ∷ []) (Some (integer_type low high)) h) in
      let s : 1 ≤ interval_width low high = integers_some (integer_type low high) in
      omega (arith, t, s)

  same_fronts : (names : Path → Named) (leaf : Path → Leaf) (at : Position) (under : Bool) (p : Place) (a : Typing) (g : Option ExprType) (ls : Links) → at.sets ≡ false → link_operators ls ≡ true
      → passes (linked names at p a ls).checks ≡ true → only g ≡ only a.type → links_width g (flat_links names leaf at under ls) ≡ fronts_width names at p a ls
  same_fronts names leaf at under p a g no_links s v h l = refl
  same_fronts names leaf at under p a g (link op e ls) s v h l =
      let o = both_true (has_operators e) (link_operators ls) v in
      let pos = behind op at in
      let b = typing names (behind op at) e in
      let f = front op at p a (typing names (behind op at) e) e in
      let k = front_parts op at p a (typing names (behind op at) e) e (linked_keeps names at p (front op at p a (typing names (behind op at) e) e) ls h) in
      let x = flat_tree names leaf (behind op at) under e in
      let same : only (front_by op g (flat_type (flat_tree names leaf (behind op at) under e)) (flat_divisor (flat_tree names leaf (behind op at) under e))) ≡ only (front op at p a (typing names (behind op at) e) e).type =
      front_same op at p a (typing names (behind op at) e) g (flat_type (flat_tree names leaf (behind op at) under e)) e (flat_divisor (flat_tree names leaf (behind op at) under e))
      (front_no_union op at p a.type b.type e s k.1) k.1 l
      (λ m. flat_typed names leaf (behind op at) under e k.0 ∙ ap (λ c. unless_set c (typing names (behind op at) e).type) (no_set names (behind op at) e o.0 (behind_sets op at m s) k.0))
      (divisor_same names leaf (behind op at) under e) in
      link_same op (tree_width (flat_tree names leaf (behind op at) under e)) (expression_width names (behind op at) e)
      (front_by op g (flat_type (flat_tree names leaf (behind op at) under e)) (flat_divisor (flat_tree names leaf (behind op at) under e))) (front op at p a (typing names (behind op at) e) e).type _ _
      (same_tree names leaf (behind op at) under e o.0 k.0) (only_same _ _ same)
      (same_fronts names leaf at under p (front op at p a (typing names (behind op at) e) e) (front_by op g (flat_type (flat_tree names leaf (behind op at) under e)) (flat_divisor (flat_tree names leaf (behind op at) under e))) ls s o.1 h same)

  same_unions : (names : Path → Named) (leaf : Path → Leaf) (at : Position) (under : Bool) (p : Place) (a : Typing) (g : Option ExprType) (m : ℕ) (ls : Links) → are_unions ls ≡ true → link_operators ls ≡ true
      → passes (linked names at p a ls).checks ≡ true → node_width a.type ≤ m → node_width g ≤ m → max m (links_width g (flat_links names leaf at under ls)) ≡ max m (fronts_width names at p a ls)
  same_unions names leaf at under p a g m no_links u v h q r = refl
  same_unions names leaf at under p a g m (link Union e ls) u v h q r =
      let o = both_true (has_operators e) (link_operators ls) v in
      let b = typing names at e in
      let k = front_parts Union at p a (typing names at e) e (linked_keeps names at p (front Union at p a (typing names at e) e) ls h) in
      let i : tree_width (flat_tree names leaf at under e) ≡ expression_width names at e = same_tree names leaf at under e o.0 k.0 in
      let x : node_width (flat_type (flat_tree names leaf at under e)) ≤ tree_width (flat_tree names leaf at under e) = flat_node (flat_tree names leaf at under e) in
      let y : node_width (typing names at e).type ≤ expression_width names at e = source_node names at e in
      let fg : node_width (front_by Union g (flat_type (flat_tree names leaf at under e)) (flat_divisor (flat_tree names leaf at under e))) ≤ max (node_width g) (node_width (flat_type (flat_tree names leaf at under e))) =
      union_by_wide g (flat_type (flat_tree names leaf at under e)) (flat_divisor (flat_tree names leaf at under e)) in
      let fs : node_width (front Union at p a (typing names at e) e).type ≤ max 1 (node_width (both_types (λ t z. infix_type Union t z e) a.type (typing names at e).type)) =
      guard_wide (passes (front_checks Union at p a.type (typing names at e).type e)) (both_types (λ t z. infix_type Union t z e) a.type (typing names at e).type) in
      let ft : node_width (both_types (λ t z. infix_type Union t z e) a.type (typing names at e).type) ≤ max (node_width a.type) (node_width (typing names at e).type) = union_types_wide a.type (typing names at e).type e in
      let some : 1 ≤ node_width a.type = type_some a.type in
      let gm : node_width (front_by Union g (flat_type (flat_tree names leaf at under e)) (flat_divisor (flat_tree names leaf at under e))) ≤ max m (tree_width (flat_tree names leaf at under e)) = omega (arith, fg, r, x) in
      let sm : node_width (front Union at p a (typing names at e) e).type ≤ max m (tree_width (flat_tree names leaf at under e)) = omega (arith, fs, ft, some, q, y, i) in
      link_over m (tree_width (flat_tree names leaf at under e)) (expression_width names at e)
      (node_width (front_by Union g (flat_type (flat_tree names leaf at under e)) (flat_divisor (flat_tree names leaf at under e)))) (node_width (front Union at p a (typing names at e) e).type)
      (links_width (front_by Union g (flat_type (flat_tree names leaf at under e)) (flat_divisor (flat_tree names leaf at under e))) (flat_links names leaf at under ls)) (fronts_width names at p (front Union at p a (typing names at e) e) ls)
      i gm (omega (arith, sm, i))
      (same_unions names leaf at under p (front Union at p a (typing names at e) e) (front_by Union g (flat_type (flat_tree names leaf at under e)) (flat_divisor (flat_tree names leaf at under e)))
      (max m (tree_width (flat_tree names leaf at under e))) ls u o.1 h sm gm)
  same_unions names leaf at under p a g m (link op e ls) u v h q r = absurd_bool u

  same_implied : (names : Path → Named) (leaf : Path → Leaf) (at : Position) (under : Bool) (g : Option ExprType) (m : ℕ) (ls : Links) → are_implies ls ≡ true → link_operators ls ≡ true
      → passes (link_checks names (single at) ls) ≡ true → node_width g ≤ m → max m (links_width g (flat_links names leaf at under ls)) ≡ max m (implied_width names (single at) ls)
  same_implied names leaf at under g m no_links u v h r = refl
  same_implied names leaf at under g m (link Implies e ls) u v h r =
      let o = both_true (has_operators e) (link_operators ls) v in
      let k = split (typing names (single at) e).checks (link_checks names (single at) ls) h in
      let i : tree_width (flat_tree names leaf (single at) under e) ≡ expression_width names (single at) e = same_tree names leaf (single at) under e o.0 k.0 in
      let fg : node_width (front_by Implies g (flat_type (flat_tree names leaf (single at) under e)) (flat_divisor (flat_tree names leaf (single at) under e))) ≤ node_width g =
      implies_by_wide g (flat_type (flat_tree names leaf (single at) under e)) (flat_divisor (flat_tree names leaf (single at) under e)) in
      let rest : max m (links_width (front_by Implies g (flat_type (flat_tree names leaf (single at) under e)) (flat_divisor (flat_tree names leaf (single at) under e))) (flat_links names leaf at under ls))
      ≡ max m (implied_width names (single at) ls) =
      same_implied names leaf at under (front_by Implies g (flat_type (flat_tree names leaf (single at) under e)) (flat_divisor (flat_tree names leaf (single at) under e))) m ls u o.1 k.1 (omega (arith, fg, r)) in
      implied_over m (tree_width (flat_tree names leaf (single at) under e)) (expression_width names (single at) e) _ _ _ i (omega (arith, fg, r)) rest
  same_implied names leaf at under g m (link op e ls) u v h r = absurd_bool u

  same_branches : (names : Path → Named) (leaf : Path → Leaf) (at : Position) (under : Bool) (bs : Branches) → branch_operators bs ≡ true → passes (branch_checks names at bs) ≡ true
      → branches_width (flat_branches names leaf at under bs) ≡ branch_width names at bs
  same_branches names leaf at under no_branches w h = refl
  same_branches names leaf at under (branch c e rest) w h =
      let o = both_true (has_operators c) (has_operators e && branch_operators rest) w in
      let q = both_true (has_operators e) (branch_operators rest) o.1 in
      let k = split ((typing names (single at) c).checks ++ (typing names at e).checks) (branch_checks names at rest) h in
      let j = split (typing names (single at) c).checks (typing names at e).checks k.0 in
      greater_same _ _ _ _ (greater_same _ _ _ _ (same_tree names leaf (single at) under c o.0 j.0) (same_tree names leaf at under e q.0 j.1)) (same_branches names leaf at under rest q.1 k.1)

  same_parts : (names : Path → Named) (leaf : Path → Leaf) (at : Position) (under : Bool) (es : Trees) → part_operators es ≡ true → passes (tree_checks names at es) ≡ true
      → trees_width (flat_trees names leaf at under es) ≡ part_width names at es
  same_parts names leaf at under no_trees w h = refl
  same_parts names leaf at under (tree e es) w h =
      let o = both_true (has_operators e) (part_operators es) w in
      let k = split (typing names at e).checks (tree_checks names at es) h in
      greater_same _ _ _ _ (same_tree names leaf at under e o.0 k.0) (same_parts names leaf at under es o.1 k.1)

  same_first : (names : Path → Named) (leaf : Path → Leaf) (at : Position) (under : Bool) (es : Trees) → part_operators es ≡ true → passes (tree_checks names at es) ≡ true
      → first_width (flat_trees names leaf at under es) ≡ front_width names at es
  same_first names leaf at under no_trees w h = refl
  same_first names leaf at under (tree e es) w h =
      let o = both_true (has_operators e) (part_operators es) w in
      same_tree names leaf at under e o.0 (split (typing names at e).checks (tree_checks names at es) h).0

pub same_width : SameWidth
same_width names leaf at under e w h = same_tree names leaf at under e w h
