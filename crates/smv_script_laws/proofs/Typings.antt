-- What it says that an expression has a type, and what of it the flat form keeps.
use Rattle.std.proofs.Common.{◌≡◌, ℕ, ◌+◌, ◌-◌, Bool, true, false, not, ◌&&◌, ◌||◌, if◌then◌else◌, ℤ, int_le, List, [], ◌∷◌, Option, Some, None, option_map, refl, sym, ap, ◌∙◌}
use Rattle.std.specs.List.{list_all}
use Rattle.text_core.specs.declared.place.Place.{Place}
use Rattle.smv_text.specs.declared.tree.Path.{Path}
use Rattle.smv_text.specs.declared.operators.Prefix.{Prefix}
use Rattle.smv_text.specs.declared.operators.Infix.{Infix}
use Rattle.smv_text.specs.declared.operators.Infix.TheVariants.{Implies}
use Rattle.smv_text.specs.declared.operators.Function.{Function}
use Rattle.smv_text.specs.Tree.{Tree as Expression, truth, number, literal, name, prefix, chain, choice, cases, select, call, next, set, range, Links, no_links, link, Branches, no_branches, branch}
use Rattle.smv_meaning.specs.Expressions.{is_implies, are_implies, is_from_right}
use Rattle.smv_meaning.specs.Types.{ExprType, truth_type, integer_type, word_type, is_truth_type, is_word_type, in_limit, hull_of, logical_fits, infix_fits, infix_type, divides, shifts, joins, is_union, prefix_fits, prefix_type, is_select, function_fits, arguments_fit, function_type, are_same, implies_fits, first_type}
use Rattle.smv_meaning.specs.Checks.{check, passes, Position, single, under_next, Named, Typing, on_type, all_types, on_all, both_types, front_checks, front, are_unions, across, behind, branches_fit, branches_type, typing, linked, condition_types, value_types, tree_types}
use Rattle.smv_meaning.specs.laws.Booleans.{both_true, absurd_bool}
use Rattle.smv_laws.proofs.TypeLaws.{all_cons, six_true, two_tests, three_tests, false_true}
use Rattle.smv_items.specs.FlatItems.{Leaf, of_item, of_symbol, of_nothing}
use Rattle.smv_flat.specs.FlatTree.{leaf_tree, unless_set, is_set, has_set, flat_tree, flat_links, flat_are_implies}
use Rattle.smv_flat.specs.FlatWidth.{flat_type}
use Rattle.smv_width.specs.SourceWidth.{has_link, has_operators, link_operators, branch_operators}
use Rattle.smv_script.specs.Terms.{are_flat_unions}
use Rattle.smv_flat_laws.proofs.FlatTruths.{not_true}
use Rattle.smv_script_laws.proofs.Integers.{pick_false}

pub node_typed : (b : Bool) (o : Option ExprType) (t : ExprType) → (if b then o else None) ≡ Some t → (b ≡ true) × (o ≡ Some t)
node_typed true o t h = (refl, h)
node_typed false o t h = cc

pub some_same : (t u : ExprType) → Some t ≡ Some u → t ≡ u
some_same t u h = cc

pub prefix_typed : (p : Place) (sign : Prefix) (n : ℕ) (o : Option ExprType) (t : ExprType)
    → (if passes (check 16 p (on_type o (prefix_fits sign)) ∷ check 17 p (on_type o (λ u. in_limit (prefix_type sign n u))) ∷ []) then option_map (prefix_type sign n) o else None) ≡ Some t
    → (u : ExprType) × (o ≡ Some u) × (prefix_fits sign u ≡ true)
prefix_typed p sign n None t h = let e = (node_typed true None t h).1 in cc
prefix_typed p sign n (Some u) t h =
    (u, refl, (two_tests (prefix_fits sign u) (in_limit (prefix_type sign n u)) (node_typed (passes (check 16 p (prefix_fits sign u) ∷ check 17 p (in_limit (prefix_type sign n u)) ∷ [])) (Some (prefix_type sign n u)) t h).0).0)

pub select_typed : (p : Place) (high low : ℕ) (o : Option ExprType) (t : ExprType)
    → (if passes (check 16 p (on_type o is_word_type) ∷ check 25 p (on_type o (λ u. is_select u high low)) ∷ []) then option_map (λ u. word_type (high - low + 1)) o else None) ≡ Some t
    → (u : ExprType) × (o ≡ Some u) × (is_word_type u ≡ true) × (is_select u high low ≡ true)
select_typed p high low None t h = let e = (node_typed true None t h).1 in cc
select_typed p high low (Some u) t h =
    let b = two_tests (is_word_type u) (is_select u high low) (node_typed (passes (check 16 p (is_word_type u) ∷ check 25 p (is_select u high low) ∷ [])) (Some (word_type (high - low + 1))) t h).0 in
    (u, refl, b.0, b.1)

pub call_typed : (p : Place) (f : Function) (o : Option (List ExprType)) (ns : List (Option ℕ)) (t : ExprType)
    → (if passes (check 16 p (on_all o (function_fits f)) ∷ check 17 p (on_all o (λ us. in_limit (function_type f us ns))) ∷ check 25 p (on_all o (λ us. arguments_fit f us ns)) ∷ [])
    then option_map (λ us. function_type f us ns) o else None) ≡ Some t
    → (us : List ExprType) × (o ≡ Some us) × (function_fits f us ≡ true) × (arguments_fit f us ns ≡ true) × (function_type f us ns ≡ t)
call_typed p f None ns t h = let e = (node_typed true None t h).1 in cc
call_typed p f (Some us) ns t h =
    let b = node_typed (passes (check 16 p (function_fits f us) ∷ check 17 p (in_limit (function_type f us ns)) ∷ check 25 p (arguments_fit f us ns) ∷ [])) (Some (function_type f us ns)) t h in
    let c = three_tests (function_fits f us) (in_limit (function_type f us ns)) (arguments_fit f us ns) b.0 in
    (us, refl, c.0, c.2, some_same (function_type f us ns) t b.1)

-- what is known of a front that has a type
pub record FrontTyped (o : Infix) (sets : Bool) (a b : Option ExprType) (e : Expression) (t : ExprType) : Type 0 where
  pub left : ExprType
  pub right : ExprType
  pub left_is : a ≡ Some left
  pub right_is : b ≡ Some right
  pub fits : infix_fits o left right ≡ true
  pub may : (not (is_union o) || sets) ≡ true
  pub divided : divides o e ≡ true
  pub shifted : shifts o left e ≡ true
  pub joined : joins o left right ≡ true
  pub whole : infix_type o left right e ≡ t

pub front_typed : (o : Infix) (at : Position) (p : Place) (a b : Option ExprType) (e : Expression) (t : ExprType)
    → (if passes (front_checks o at p a b e) then both_types (λ u v. infix_type o u v e) a b else None) ≡ Some t → FrontTyped o at.sets a b e t
front_typed o at p None b e t h = let x = (node_typed (passes (front_checks o at p None b e)) None t h).1 in absurd (nothing_some t x)
  where
    nothing_some : (t : ExprType) → None ≡ Some t → ⊥
    nothing_some t x = cc
front_typed o at p (Some u) None e t h = let x = (node_typed (passes (front_checks o at p (Some u) None e)) None t h).1 in absurd (nothing_some t x)
  where
    nothing_some : (t : ExprType) → None ≡ Some t → ⊥
    nothing_some t x = cc
front_typed o at p (Some u) (Some v) e t h =
    let b = node_typed (passes (front_checks o at p (Some u) (Some v) e)) (Some (infix_type o u v e)) t h in
    let c = six_true (infix_fits o u v) (in_limit (infix_type o u v e)) (not (is_union o) || at.sets) (divides o e) (shifts o u e) (joins o u v) b.0 in
    record { left = u; right = v; left_is = refl; right_is = refl; fits = c.0; may = c.2; divided = c.3; shifted = c.4; joined = c.5; whole = some_same (infix_type o u v e) t b.1 }

pub linked_typed : (names : Path → Named) (at : Position) (p : Place) (a : Typing) (ls : Links) (t : ExprType) → (linked names at p a ls).type ≡ Some t → (u : ExprType) × (a.type ≡ Some u)
linked_typed names at p a no_links t h = (t, h)
linked_typed names at p a (link o e ls) t h =
    let r = linked_typed names at p (front o at p a (typing names (behind o at) e) e) ls t h in
    let f = front_typed o at p a.type (typing names (behind o at) e).type e r.0 r.1 in
    (f.left, f.left_is)

pub set_typed : (p : Place) (o : Option (List ExprType)) (sets : Bool) (t : ExprType)
    → (if passes (check 16 p (on_all o are_same) ∷ check 20 p sets ∷ []) then option_map hull_of o else None) ≡ Some t
    → (us : List ExprType) × (o ≡ Some us) × (are_same us ≡ true) × (sets ≡ true) × (hull_of us ≡ t)
set_typed p None sets t h = let e = (node_typed (passes (check 16 p true ∷ check 20 p sets ∷ [])) None t h).1 in cc
set_typed p (Some us) sets t h =
    let b = node_typed (passes (check 16 p (are_same us) ∷ check 20 p sets ∷ [])) (Some (hull_of us)) t h in
    let c = two_tests (are_same us) sets b.0 in
    (us, refl, c.0, c.1, some_same (hull_of us) t b.1)

pub range_typed : (p : Place) (low high : ℤ) (sets : Bool) (t : ExprType)
    → (if passes (check 17 p (in_limit (integer_type low high)) ∷ check 20 p sets ∷ check 26 p (int_le low high) ∷ []) then Some (integer_type low high) else None) ≡ Some t
    → (sets ≡ true) × (int_le low high ≡ true) × (integer_type low high ≡ t)
range_typed p low high sets t h =
    let b = node_typed (passes (check 17 p (in_limit (integer_type low high)) ∷ check 20 p sets ∷ check 26 p (int_le low high) ∷ [])) (Some (integer_type low high)) t h in
    let c = three_tests (in_limit (integer_type low high)) sets (int_le low high) b.0 in
    (c.1, c.2, some_same (integer_type low high) t b.1)

pub branches_typed : (p : Place) (cs vs : Option (List ExprType)) (t : ExprType)
    → (if passes (check 16 p (branches_fit cs vs) ∷ []) then branches_type cs vs else None) ≡ Some t
    → (qs : List ExprType) × (us : List ExprType) × (cs ≡ Some qs) × (vs ≡ Some us) × (are_same us ≡ true) × (hull_of us ≡ t)
branches_typed p None vs t h = let e = (node_typed (passes (check 16 p (branches_fit None vs) ∷ [])) None t h).1 in cc
branches_typed p (Some qs) None t h = let e = (node_typed (passes (check 16 p (branches_fit (Some qs) None) ∷ [])) None t h).1 in cc
branches_typed p (Some qs) (Some us) t h =
    let b = node_typed (passes (check 16 p (branches_fit (Some qs) (Some us)) ∷ [])) (Some (hull_of us)) t h in
    let c = both_true (list_all is_truth_type qs && are_same us) true b.0 in
    (qs, us, refl, refl, (both_true (list_all is_truth_type qs) (are_same us) c.0).1, some_same (hull_of us) t b.1)

pub implies_typed : (p : Place) (o : Option (List ExprType)) (t : ExprType) → (if passes (check 16 p (on_all o implies_fits) ∷ []) then option_map first_type o else None) ≡ Some t
    → (u : ExprType) × (us : List ExprType) × (o ≡ Some (u ∷ us)) × (list_all (logical_fits u) us ≡ true) × (u ≡ t)
implies_typed p None t h = let e = (node_typed (passes (check 16 p true ∷ [])) None t h).1 in cc
implies_typed p (Some []) t h = absurd_bool (node_typed (passes (check 16 p false ∷ [])) (Some truth_type) t h).0
implies_typed p (Some (u ∷ us)) t h =
    let b = node_typed (passes (check 16 p (list_all (logical_fits u) us) ∷ [])) (Some u) t h in
    (u, us, refl, (both_true (list_all (logical_fits u) us) true b.0).0, some_same u t b.1)

-- ---- what the flat form keeps

pub or_first : (a b : Bool) → b ≡ false → (a || b) ≡ true → a ≡ true
or_first true b e h = refl
or_first false b e h = absurd_bool (sym e ∙ h)

pub no_and : (a b : Bool) → a ≡ false → (a && b) ≡ false
no_and a b e = ap (λ x. x && b) e

pub neither : (a b : Bool) → a ≡ false → b ≡ false → (a || b) ≡ false
neither a b e h = ap (λ x. x || b) e ∙ h

pub implies_no_union : (o : Infix) → is_implies o ≡ true → is_union o ≡ false
implies_no_union Implies h = refl
implies_no_union o h = absurd_bool h

pub across_sets : (at : Position) (b : Bool) → at.sets ≡ false → (if b then at else single at).sets ≡ false
across_sets at true s = s
across_sets at false s = refl

pub right_no_union : (ls : Links) → is_from_right ls ≡ true → are_unions ls ≡ false
right_no_union no_links h = absurd_bool h
right_no_union (link o e ls) h = no_and (is_union o) (are_unions ls) (implies_no_union o (both_true (is_implies o) (are_implies ls) h).0)

pub front_no_union : (names : Path → Named) (at : Position) (p : Place) (a : Typing) (ls : Links) (t : ExprType) → has_link ls ≡ true → at.sets ≡ false
    → (linked names at p a ls).type ≡ Some t → are_unions ls ≡ false
front_no_union names at p a no_links t l s h = absurd_bool l
front_no_union names at p a (link o e ls) t l s h =
    let r = linked_typed names at p (front o at p a (typing names (behind o at) e) e) ls t h in
    let f = front_typed o at p a.type (typing names (behind o at) e).type e r.0 r.1 in
    no_and (is_union o) (are_unions ls) (not_true (is_union o) (or_first (not (is_union o)) at.sets s f.may))

-- a chain that is no set and has a type isn't one of `union`
pub chain_no_union : (names : Path → Named) (at : Position) (p : Place) (e : Expression) (ls : Links) (t : ExprType) → has_link ls ≡ true → at.sets ≡ false
    → (typing names at (chain p e ls)).type ≡ Some t → are_unions ls ≡ false
chain_no_union names at p e ls t l s h = by (is_from_right ls) refl
  where
    by : (b : Bool) → is_from_right ls ≡ b → are_unions ls ≡ false
    by true r = right_no_union ls r
    by false r = front_no_union names (across ls at) p (typing names (across ls at) e) ls t l (across_sets at (are_unions ls) s)
        (sym (ap (λ (x : Typing). x.type) (pick_false (is_from_right ls) _ (linked names (across ls at) p (typing names (across ls at) e) ls) r)) ∙ h)

pub last_types : (names : Path → Named) (at : Position) (bs : Branches) (more : List (Option ExprType)) (us : List ExprType) → all_types (value_types names at bs more) ≡ Some us
    → (rest : List ExprType) × (all_types more ≡ Some rest)
last_types names at no_branches more us h = (us, h)
last_types names at (branch k e rest) more us h = let c = all_cons (typing names at e).type (value_types names at rest more) us h in last_types names at rest more c.1 c.3

mutual
  pub no_set : (names : Path → Named) (at : Position) (e : Expression) → has_operators e ≡ true → at.sets ≡ false → (t : ExprType) → (typing names at e).type ≡ Some t → is_set e ≡ false
  no_set names at (truth p b) o s t h = refl
  no_set names at (number p n) o s t h = refl
  no_set names at (literal p w) o s t h = refl
  no_set names at (name p x) o s t h = refl
  no_set names at (prefix p sign n e) o s t h = refl
  no_set names at (chain p e ls) o s t h = chain_no_union names at p e ls t (both_true (has_link ls) (has_operators e && link_operators ls) o).0 s h
  no_set names at (choice p bs e) o s t h =
      let q = both_true (branch_operators bs) (has_operators e) o in
      let b = branches_typed p (all_types (condition_types names (single at) bs)) (all_types (value_types names at bs ((typing names at e).type ∷ []))) t h in
      let l = last_types names at bs ((typing names at e).type ∷ []) b.1 b.3 in
      let k = all_cons (typing names at e).type [] l.0 l.1 in
      neither (has_set bs) (is_set e) (no_branch_set names at bs q.0 s ((typing names at e).type ∷ []) b.1 b.3) (no_set names at e q.1 s k.0 k.2)
  no_set names at (cases p bs) o s t h =
      let b = branches_typed p (all_types (condition_types names (single at) bs)) (all_types (value_types names at bs [])) t h in
      no_branch_set names at bs o s [] b.1 b.3
  no_set names at (select p e high low) o s t h = refl
  no_set names at (call p f es) o s t h = refl
  no_set names at (next p e) o s t h = no_set names under_next e o refl t (node_typed (passes (check 19 p at.nexts ∷ [])) (typing names under_next e).type t h).1
  no_set names at (set p es) o s t h = false_true at.sets s (set_typed p (all_types (tree_types names at es)) at.sets t h).3
  no_set names at (range p low high) o s t h = false_true at.sets s (range_typed p low high at.sets t h).0

  pub no_branch_set : (names : Path → Named) (at : Position) (bs : Branches) → branch_operators bs ≡ true → at.sets ≡ false → (more : List (Option ExprType)) (us : List ExprType)
      → all_types (value_types names at bs more) ≡ Some us → has_set bs ≡ false
  no_branch_set names at no_branches o s more us h = refl
  no_branch_set names at (branch k e rest) o s more us h =
      let q = both_true (has_operators k) (has_operators e && branch_operators rest) o in
      let r = both_true (has_operators e) (branch_operators rest) q.1 in
      let c = all_cons (typing names at e).type (value_types names at rest more) us h in
      neither (is_set e) (has_set rest) (no_set names at e r.0 s c.0 c.2) (no_branch_set names at rest r.1 s more c.1 c.3)

pub leaf_type : (o : Option ExprType) (under : Bool) (l : Leaf) → flat_type (leaf_tree o under l) ≡ o
leaf_type o under (of_item k) = refl
leaf_type o under (of_symbol s) = refl
leaf_type o under of_nothing = refl

pub unless_kept : (b : Bool) (o : Option ExprType) (t : ExprType) → b ≡ false → o ≡ Some t → unless_set b o ≡ Some t
unless_kept b o t e h = ap (λ x. unless_set x o) e ∙ h

-- an expression that is no set keeps its type
pub type_kept : (names : Path → Named) (leaf : Path → Leaf) (at : Position) (under : Bool) (e : Expression) → has_operators e ≡ true → at.sets ≡ false → (t : ExprType)
    → (typing names at e).type ≡ Some t → flat_type (flat_tree names leaf at under e) ≡ Some t
type_kept names leaf at under (truth p b) o s t h = h
type_kept names leaf at under (number p n) o s t h = h
type_kept names leaf at under (literal p w) o s t h = h
type_kept names leaf at under (name p x) o s t h = leaf_type (typing names at (name p x)).type under (leaf x) ∙ h
type_kept names leaf at under (prefix p sign n e) o s t h = h
type_kept names leaf at under (chain p e ls) o s t h = unless_kept (are_unions ls) (typing names at (chain p e ls)).type t (no_set names at (chain p e ls) o s t h) h
type_kept names leaf at under (choice p bs e) o s t h = unless_kept (has_set bs || is_set e) (typing names at (choice p bs e)).type t (no_set names at (choice p bs e) o s t h) h
type_kept names leaf at under (cases p bs) o s t h = unless_kept (has_set bs) (typing names at (cases p bs)).type t (no_set names at (cases p bs) o s t h) h
type_kept names leaf at under (select p e high low) o s t h = h
type_kept names leaf at under (call p f es) o s t h = h
type_kept names leaf at under (next p e) o s t h = type_kept names leaf under_next true e o refl t (node_typed (passes (check 19 p at.nexts ∷ [])) (typing names under_next e).type t h).1
type_kept names leaf at under (set p es) o s t h = false_true at.sets s (set_typed p (all_types (tree_types names at es)) at.sets t h).3
type_kept names leaf at under (range p low high) o s t h = false_true at.sets s (range_typed p low high at.sets t h).0

pub unions_flat : (names : Path → Named) (leaf : Path → Leaf) (at : Position) (under : Bool) (ls : Links) → are_flat_unions (flat_links names leaf at under ls) ≡ are_unions ls
unions_flat names leaf at under no_links = refl
unions_flat names leaf at under (link o e ls) = ap (λ b. is_union o && b) (unions_flat names leaf at under ls)

pub implies_flat : (names : Path → Named) (leaf : Path → Leaf) (at : Position) (under : Bool) (ls : Links) → flat_are_implies (flat_links names leaf at under ls) ≡ are_implies ls
implies_flat names leaf at under no_links = refl
implies_flat names leaf at under (link o e ls) = ap (λ b. is_implies o && b) (implies_flat names leaf at under ls)
