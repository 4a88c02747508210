-- An expression that has a type passes all its checks.
use Rattle.std.proofs.Common.{◌≡◌, Bool, true, false, if◌then◌else◌, List, [], ◌∷◌, ◌++◌, Option, Some, None, option_map, is_some, refl, ◌∙◌}
use Rattle.std.proofs.lemmas.List.Folds.{list_all-append}
use Rattle.text_core.specs.declared.place.Place.{Place}
use Rattle.smv_text.specs.declared.tree.Path.{Path}
use Rattle.smv_text.specs.Tree.{Tree, truth, number, literal, name, prefix, chain, choice, cases, select, call, next, set, range, Links, no_links, link, Branches, no_branches, branch, Trees, no_trees, tree}
use Rattle.smv_meaning.specs.Expressions.{is_from_right}
use Rattle.smv_meaning.specs.Types.{ExprType}
use Rattle.smv_meaning.specs.Checks.{Check, passes, first_failing, Position, single, under_next, Named, Typing, node, all_types, both_types, front, across, behind, branches_type, typing, link_types, link_checks, linked, condition_types, value_types, branch_checks, tree_types, tree_checks}
use Rattle.smv_meaning.specs.Owed.{HasType}
use Rattle.smv_meaning.specs.Orders.{RefusedHaveNoType}
use Rattle.smv_meaning.specs.laws.Booleans.{two_true, absurd_bool}
use Rattle.smv_laws.proofs.Typable.{Holds}
use Rattle.smv_laws.proofs.OrderLaws.{none_fails}

join : (cs ds : List Check) → Holds cs → Holds ds → Holds (cs ++ ds)
join cs ds h k = list_all-append (λ (c : Check). c.holds) cs ds ∙ two_true (passes cs) (passes ds) h k

-- a type that is kept where the test holds
kept_type : (b : Bool) (t : Option ExprType) → HasType (if b then t else None) → (b ≡ true) × HasType t
kept_type true t h = (refl, h)
kept_type false t h = absurd_bool h

mapped_type : {X Y : Type 0} (f : X → Y) (o : Option X) → is_some (option_map f o) ≡ true → is_some o ≡ true
mapped_type f None h = h
mapped_type f (Some x) h = refl

both_parts : (f : ExprType → ExprType → ExprType) (t u : Option ExprType) → HasType (both_types f t u) → HasType t × HasType u
both_parts f None u h = absurd_bool h
both_parts f (Some t) None h = absurd_bool h
both_parts f (Some t) (Some u) h = (refl, refl)

first_part : (t : Option ExprType) (ts : List (Option ExprType)) → is_some (all_types (t ∷ ts)) ≡ true → HasType t × (is_some (all_types ts) ≡ true)
first_part None ts h = absurd_bool h
first_part (Some t) ts h = (refl, mapped_type (λ us. t ∷ us) (all_types ts) h)

branches_parts : (cs vs : Option (List ExprType)) → HasType (branches_type cs vs) → (is_some cs ≡ true) × (is_some vs ≡ true)
branches_parts None vs h = absurd_bool h
branches_parts (Some cs) None h = absurd_bool h
branches_parts (Some cs) (Some vs) h = (refl, refl)

abbrev Passes : Typing → Type 0
Passes a = HasType a.type → Holds a.checks

node_passes : (operands own : List Check) (t : Option ExprType) → (HasType t → Holds operands) → Passes (node operands own t)
node_passes operands own t f h = let k = kept_type (passes own) t h in join operands own (f k.1) k.0

picked_passes : (b : Bool) (x y : Typing) → Passes x → Passes y → Passes (if b then x else y)
picked_passes true x y f g = f
picked_passes false x y f g = g

mutual
  pub typed_passes : (names : Path → Named) (at : Position) (e : Tree) → Passes (typing names at e)
  typed_passes names at (truth p b) = λ h. refl
  typed_passes names at (number p n) = λ h. (kept_type _ _ h).0
  typed_passes names at (literal p v) = λ h. refl
  typed_passes names at (name p x) = λ h. (kept_type _ _ h).0
  typed_passes names at (prefix p sign n e) = node_passes (typing names (single at) e).checks _ _ (λ h. typed_passes names (single at) e (mapped_type _ (typing names (single at) e).type h))
  typed_passes names at (chain p e ls) =
      picked_passes (is_from_right ls) _ _
      (node_passes ((typing names (single at) e).checks ++ link_checks names (single at) ls) _ _ (λ h.
      let b = first_part (typing names (single at) e).type (link_types names (single at) ls) (mapped_type _ (all_types ((typing names (single at) e).type ∷ link_types names (single at) ls)) h) in
      join (typing names (single at) e).checks (link_checks names (single at) ls) (typed_passes names (single at) e b.0) (links_pass names (single at) ls b.1)))
      (linked_passes names (across ls at) p (typing names (across ls at) e) ls (typed_passes names (across ls at) e))
  typed_passes names at (choice p bs e) =
      node_passes (branch_checks names at bs ++ (typing names at e).checks) _ _ (λ h.
      let b = branches_parts (all_types (condition_types names (single at) bs)) (all_types (value_types names at bs ((typing names at e).type ∷ []))) h in
      let c = branches_pass names at bs ((typing names at e).type ∷ []) b.0 b.1 in
      join (branch_checks names at bs) (typing names at e).checks c.0 (typed_passes names at e (first_part (typing names at e).type [] c.1).0))
  typed_passes names at (cases p bs) =
      node_passes (branch_checks names at bs) _ _ (λ h.
      let b = branches_parts (all_types (condition_types names (single at) bs)) (all_types (value_types names at bs [])) h in
      (branches_pass names at bs [] b.0 b.1).0)
  typed_passes names at (select p e high low) = node_passes (typing names (single at) e).checks _ _ (λ h. typed_passes names (single at) e (mapped_type _ (typing names (single at) e).type h))
  typed_passes names at (call p f es) = node_passes (tree_checks names (single at) es) _ _ (λ h. trees_pass names (single at) es (mapped_type _ (all_types (tree_types names (single at) es)) h))
  typed_passes names at (next p e) = node_passes (typing names under_next e).checks _ _ (λ h. typed_passes names under_next e h)
  typed_passes names at (set p es) = node_passes (tree_checks names at es) _ _ (λ h. trees_pass names at es (mapped_type _ (all_types (tree_types names at es)) h))
  typed_passes names at (range p low high) = λ h. (kept_type _ _ h).0

  links_pass : (names : Path → Named) (at : Position) (ls : Links) → is_some (all_types (link_types names at ls)) ≡ true → Holds (link_checks names at ls)
  links_pass names at no_links h = refl
  links_pass names at (link op e ls) h =
      let b = first_part (typing names at e).type (link_types names at ls) h in
      join (typing names at e).checks (link_checks names at ls) (typed_passes names at e b.0) (links_pass names at ls b.1)

  linked_passes : (names : Path → Named) (at : Position) (p : Place) (a : Typing) (ls : Links) → Passes a → Passes (linked names at p a ls)
  linked_passes names at p a no_links f = f
  linked_passes names at p a (link op e ls) f =
      let b = typing names (behind op at) e in
      linked_passes names at p (front op at p a b e) ls (node_passes (a.checks ++ b.checks) _ _ (λ h.
      let c = both_parts _ a.type b.type h in join a.checks b.checks (f c.0) (typed_passes names (behind op at) e c.1)))

  branches_pass : (names : Path → Named) (at : Position) (bs : Branches) (others : List (Option ExprType)) → is_some (all_types (condition_types names (single at) bs)) ≡ true
      → is_some (all_types (value_types names at bs others)) ≡ true → Holds (branch_checks names at bs) × (is_some (all_types others) ≡ true)
  branches_pass names at no_branches others h k = (refl, k)
  branches_pass names at (branch c e rest) others h k =
      let b = first_part (typing names (single at) c).type (condition_types names (single at) rest) h in
      let d = first_part (typing names at e).type (value_types names at rest others) k in
      let m = branches_pass names at rest others b.1 d.1 in (
        join ((typing names (single at) c).checks ++ (typing names at e).checks) (branch_checks names at rest)
            (join (typing names (single at) c).checks (typing names at e).checks (typed_passes names (single at) c b.0) (typed_passes names at e d.0)) m.0,
        m.1,
      )

  trees_pass : (names : Path → Named) (at : Position) (es : Trees) → is_some (all_types (tree_types names at es)) ≡ true → Holds (tree_checks names at es)
  trees_pass names at no_trees h = refl
  trees_pass names at (tree e es) h =
      let b = first_part (typing names at e).type (tree_types names at es) h in
      join (typing names at e).checks (tree_checks names at es) (typed_passes names at e b.0) (trees_pass names at es b.1)

pub refused_have_no_type_law : RefusedHaveNoType
refused_have_no_type_law names at e why h = by (typing names at e).type (typed_passes names at e)
  where
    by : (o : Option ExprType) → (HasType o → Holds (typing names at e).checks) → o ≡ None
    by None f = refl
    by (Some t) f = let n : first_failing (typing names at e).checks ≡ None = none_fails (typing names at e).checks (f refl) in cc
