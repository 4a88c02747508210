-- The paths of an expression that has a type have types, so that each of them names something.
use Rattle.std.proofs.Common.{◌≡◌, ℕ, zero, suc, Bool, true, false, if◌then◌else◌, List, [], ◌∷◌, ◌++◌, map, flat_map, Option, Some, None, option_map, is_some, append_assoc, refl, sym, ap, ◌∙◌}
use Rattle.std.proofs.lemmas.List.{map-append}
use Rattle.text_core.specs.declared.place.Place.{Place}
use Rattle.smv_text.specs.declared.tree.Path.{Path}
use Rattle.smv_text.specs.Tree.{Tree, truth, number, literal, name, prefix, chain, choice, cases, select, call, next, set, range, Links, no_links, link, Branches, no_branches, branch, Trees, no_trees, tree, trees_of}
use Rattle.smv_meaning.specs.Expressions.{is_from_right, paths_of, link_paths, branch_paths, tree_paths}
use Rattle.smv_meaning.specs.Types.{ExprType}
use Rattle.smv_meaning.specs.Instances.{Instance}
use Rattle.smv_meaning.specs.Names.{Found, variable_at, body_at, instance_at, symbol_of, cyclic, none, found_in, steps_of}
use Rattle.smv_meaning.specs.Checks.{Check, first_failing, passes, Position, single, under_next, Named, Typing, all_types, both_types, front_checks, front, across, behind, branches_type, typing, link_types, linked, condition_types, value_types, tree_types}
use Rattle.smv_meaning.specs.Naming.{named_found, naming}
use Rattle.smv_meaning.specs.Settled.{types_in}
use Rattle.smv_meaning.specs.Owed.{HasType}
use Rattle.smv_meaning.specs.Phases.{is_something, path_check}
use Rattle.smv_meaning.specs.laws.Booleans.{absurd_bool}
use Rattle.smv_intervals.specs.declared.types.Ty.{Ty}
use Rattle.smv_intervals.specs.View.{seen}

-- each of these paths has a type
abbrev pub AllTyped : (Path → Named) → List Path → Type 0
AllTyped names [] = Unit {0}
AllTyped names (x ∷ xs) = HasType (names x).type × AllTyped names xs

-- ---- what a node's type gives of its operands

kept_type : (b : Bool) (o : Option ExprType) → HasType (if b then o else None) → HasType o
kept_type true o h = h
kept_type false o h = absurd_bool h

mapped_type : {X Y : Type 0} (f : X → Y) (o : Option X) → is_some (option_map f o) ≡ true → is_some o ≡ true
mapped_type f None h = h
mapped_type f (Some x) h = refl

both_parts : (f : ExprType → ExprType → ExprType) (a b : Option ExprType) → HasType (both_types f a b) → HasType a × HasType b
both_parts f None b h = absurd_bool h
both_parts f (Some t) None h = absurd_bool h
both_parts f (Some t) (Some u) h = (refl, refl)

abbrev HaveTypes : List (Option ExprType) → Type 0
HaveTypes os = is_some (all_types os) ≡ true

first_part : (o : Option ExprType) (os : List (Option ExprType)) → HaveTypes (o ∷ os) → HasType o × HaveTypes os
first_part None os h = absurd_bool h
first_part (Some t) os h = (refl, mapped_type (λ ts. t ∷ ts) (all_types os) h)

branches_parts : (cs vs : Option (List ExprType)) → HasType (branches_type cs vs) → (is_some cs ≡ true) × (is_some vs ≡ true)
branches_parts None vs h = absurd_bool h
branches_parts (Some cs) None h = absurd_bool h
branches_parts (Some cs) (Some vs) h = (refl, refl)

picked : {A : Type 0} (b : Bool) (x y : Typing) → HasType (if b then x else y).type → (HasType x.type → A) → (HasType y.type → A) → A
picked true x y h f g = f h
picked false x y h f g = g h

-- the front of a chain that has a type has one
front_typed : (names : Path → Named) (at : Position) (p : Place) (a : Typing) (ls : Links) → HasType (linked names at p a ls).type → HasType a.type
front_typed names at p a no_links h = h
front_typed names at p a (link op e ls) h =
    let b = typing names (behind op at) e in
    (both_parts _ a.type b.type (kept_type (passes (front_checks op at p a.type b.type e)) _ (front_typed names at p (front op at p a b e) ls h))).0

-- ---- an expression's paths

mutual
  -- the paths of an expression that has a type, with more that follow
  has_typed : (names : Path → Named) (at : Position) (e : Tree) (more : List Path) → HasType (typing names at e).type → AllTyped names more → AllTyped names (paths_of e more)
  has_typed names at (truth p b) more h s = s
  has_typed names at (number p n) more h s = s
  has_typed names at (literal p w) more h s = s
  has_typed names at (name p x) more h s = (kept_type _ _ h, s)
  has_typed names at (prefix p sign n e) more h s = has_typed names (single at) e more (mapped_type _ (typing names (single at) e).type (kept_type _ _ h)) s
  has_typed names at (chain p e ls) more h s =
      picked (is_from_right ls) _ _ h
      (λ k.
      let b = first_part (typing names (single at) e).type (link_types names (single at) ls) (mapped_type _ (all_types ((typing names (single at) e).type ∷ link_types names (single at) ls)) (kept_type _ _ k)) in
      has_typed names (single at) e (link_paths ls more) b.0 (links_typed names (single at) ls more b.1 s))
      (λ k.
      has_typed names (across ls at) e (link_paths ls more) (front_typed names (across ls at) p (typing names (across ls at) e) ls k)
      (linked_typed names (across ls at) p (typing names (across ls at) e) ls more k s))
  has_typed names at (choice p bs e) more h s =
      let b = branches_parts (all_types (condition_types names (single at) bs)) (all_types (value_types names at bs ((typing names at e).type ∷ []))) (kept_type _ _ h) in
      let own = first_part (typing names at e).type [] (values_behind names at bs ((typing names at e).type ∷ []) b.1) in
      branches_typed names at bs ((typing names at e).type ∷ []) (paths_of e more) b.0 b.1 (has_typed names at e more own.0 s)
  has_typed names at (cases p bs) more h s =
      let b = branches_parts (all_types (condition_types names (single at) bs)) (all_types (value_types names at bs [])) (kept_type _ _ h) in
      branches_typed names at bs [] more b.0 b.1 s
  has_typed names at (select p e high low) more h s = has_typed names (single at) e more (mapped_type _ (typing names (single at) e).type (kept_type _ _ h)) s
  has_typed names at (call p f es) more h s = trees_typed names (single at) es more (mapped_type _ (all_types (tree_types names (single at) es)) (kept_type _ _ h)) s
  has_typed names at (next p e) more h s = has_typed names under_next e more (kept_type _ _ h) s
  has_typed names at (set p es) more h s = trees_typed names at es more (mapped_type _ (all_types (tree_types names at es)) (kept_type _ _ h)) s
  has_typed names at (range p low high) more h s = s

  links_typed : (names : Path → Named) (at : Position) (ls : Links) (more : List Path) → HaveTypes (link_types names at ls) → AllTyped names more → AllTyped names (link_paths ls more)
  links_typed names at no_links more h s = s
  links_typed names at (link op e ls) more h s =
      let b = first_part (typing names at e).type (link_types names at ls) h in
      has_typed names at e (link_paths ls more) b.0 (links_typed names at ls more b.1 s)

  -- the operands behind a front
  linked_typed : (names : Path → Named) (at : Position) (p : Place) (a : Typing) (ls : Links) (more : List Path) → HasType (linked names at p a ls).type → AllTyped names more → AllTyped names (link_paths ls more)
  linked_typed names at p a no_links more h s = s
  linked_typed names at p a (link op e ls) more h s =
      let b = typing names (behind op at) e in
      let own = both_parts _ a.type b.type (kept_type (passes (front_checks op at p a.type b.type e)) _ (front_typed names at p (front op at p a b e) ls h)) in
      has_typed names (behind op at) e (link_paths ls more) own.1 (linked_typed names at p (front op at p a b e) ls more h s)

  branches_typed : (names : Path → Named) (at : Position) (bs : Branches) (others : List (Option ExprType)) (more : List Path) → HaveTypes (condition_types names (single at) bs) → HaveTypes (value_types names at bs others)
      → AllTyped names more → AllTyped names (branch_paths bs more)
  branches_typed names at no_branches others more h k s = s
  branches_typed names at (branch c e rest) others more h k s =
      let b = first_part (typing names (single at) c).type (condition_types names (single at) rest) h in
      let d = first_part (typing names at e).type (value_types names at rest others) k in
      has_typed names (single at) c (paths_of e (branch_paths rest more)) b.0
      (has_typed names at e (branch_paths rest more) d.0 (branches_typed names at rest others more b.1 d.1 s))

  -- what stands behind the branches
  values_behind : (names : Path → Named) (at : Position) (bs : Branches) (others : List (Option ExprType)) → HaveTypes (value_types names at bs others) → HaveTypes others
  values_behind names at no_branches others h = h
  values_behind names at (branch c e rest) others h = values_behind names at rest others (first_part (typing names at e).type (value_types names at rest others) h).1

  trees_typed : (names : Path → Named) (at : Position) (es : Trees) (more : List Path) → HaveTypes (tree_types names at es) → AllTyped names more → AllTyped names (tree_paths es more)
  trees_typed names at no_trees more h s = s
  trees_typed names at (tree e es) more h s =
      let b = first_part (typing names at e).type (tree_types names at es) h in
      has_typed names at e (tree_paths es more) b.0 (trees_typed names at es more b.1 s)

-- ---- what a path that has a type leads to

named_leads : (read : ℕ → Path → Named) (m : Found) → HasType (named_found true read m).type → is_something m ≡ true
named_leads read (variable_at x kind d) h = refl
named_leads read (body_at i x j e) h = refl
named_leads read (instance_at i) h = refl
named_leads read (symbol_of x) h = refl
named_leads read cyclic h = refl
named_leads read none h = h

naming_leads : (found : ℕ → Path → Found) (n i : ℕ) (q : Path) → HasType (naming true found n i q).type → is_something (found i q) ≡ true
unfolding naming
naming_leads found zero i q h = absurd_bool h
naming_leads found (suc n) i q h = named_leads (naming true found n) (found i q) h

has_leads : (t : List Instance) (i : ℕ) (q : Path) → HasType (types_in true t i q).type → is_something (found_in t i q) ≡ true
has_leads t i q h = naming_leads (found_in t) (steps_of t) i q h

-- ---- the checks of paths

paths_found : (t : List Instance) (i : ℕ) (xs : List Path) → AllTyped (types_in true t i) xs → first_failing (map (path_check (found_in t) i) xs) ≡ None
paths_found t i [] s = refl
paths_found t i (x ∷ xs) s =
    let c = path_check (found_in t) i x in
    ap (λ b. if b then first_failing (map (path_check (found_in t) i) xs) else Some c.refusal) (has_leads t i x s.0) ∙ paths_found t i xs s.1

has_found : (t : List Instance) (i : ℕ) (at : Position) (e : Tree) → HasType (typing (types_in true t i) at e).type → first_failing (map (path_check (found_in t) i) (paths_of e [])) ≡ None
has_found t i at e h = paths_found t i (paths_of e []) (has_typed (types_in true t i) at e [] h tt)

seen_type : (o : Option Ty) → is_some o ≡ true → HasType (option_map seen o)
seen_type None h = h
seen_type (Some t) h = refl

-- the paths of an expression with a type, as it is stored, have targets
pub stored_found : (t : List Instance) (i : ℕ) (at : Position) (e : Tree) (o : Option Ty) → (typing (types_in true t i) at e).type ≡ option_map seen o → is_some o ≡ true
    → first_failing (map (path_check (found_in t) i) (paths_of e [])) ≡ None
stored_found t i at e o h k = has_found t i at e (ap is_some h ∙ seen_type o k)

-- ---- lists of checks of paths

pub map_flat : {X : Type 0} (f : Path → Check) (g : X → List Path) (xs : List X) → map f (flat_map g xs) ≡ flat_map (λ x. map f (g x)) xs
map_flat f g [] = refl
map_flat f g (x ∷ xs) = map-append f (g x) (flat_map g xs) ∙ ap (λ cs. map f (g x) ++ cs) (map_flat f g xs)

-- two lists, one behind the other, with what follows both
two_then : (f g : List Path → List Path) → ((more : List Path) → f more ≡ f [] ++ more) → ((more : List Path) → g more ≡ g [] ++ more) → (more : List Path) → f (g more) ≡ f (g []) ++ more
two_then f g h k more = h (g more) ∙ ap (λ xs. f [] ++ xs) (k more) ∙ sym (append_assoc (f []) (g []) more) ∙ ap (λ xs. xs ++ more) (sym (h (g [])))

-- what follows an expression's paths stands behind them
mutual
  paths_then : (e : Tree) (more : List Path) → paths_of e more ≡ paths_of e [] ++ more
  paths_then (truth p b) more = refl
  paths_then (number p n) more = refl
  paths_then (literal p w) more = refl
  paths_then (name p x) more = refl
  paths_then (prefix p sign n e) more = paths_then e more
  paths_then (chain p e ls) more = two_then (paths_of e) (link_paths ls) (paths_then e) (links_then ls) more
  paths_then (choice p bs e) more = two_then (branch_paths bs) (paths_of e) (branches_then bs) (paths_then e) more
  paths_then (cases p bs) more = branches_then bs more
  paths_then (select p e high low) more = paths_then e more
  paths_then (call p f es) more = trees_then es more
  paths_then (next p e) more = paths_then e more
  paths_then (set p es) more = trees_then es more
  paths_then (range p low high) more = refl

  links_then : (ls : Links) (more : List Path) → link_paths ls more ≡ link_paths ls [] ++ more
  links_then no_links more = refl
  links_then (link op e ls) more = two_then (paths_of e) (link_paths ls) (paths_then e) (links_then ls) more

  branches_then : (bs : Branches) (more : List Path) → branch_paths bs more ≡ branch_paths bs [] ++ more
  branches_then no_branches more = refl
  branches_then (branch c e rest) more =
      two_then (paths_of c) (λ xs. paths_of e (branch_paths rest xs)) (paths_then c) (two_then (paths_of e) (branch_paths rest) (paths_then e) (branches_then rest)) more

  trees_then : (es : Trees) (more : List Path) → tree_paths es more ≡ tree_paths es [] ++ more
  trees_then no_trees more = refl
  trees_then (tree e es) more = two_then (paths_of e) (tree_paths es) (paths_then e) (trees_then es) more

pub trees_found : (f : Path → Check) (es : List Tree) → map f (tree_paths (trees_of es) []) ≡ flat_map (λ e. map f (paths_of e [])) es
trees_found f [] = refl
trees_found f (e ∷ es) =
    ap (map f) (paths_then e (tree_paths (trees_of es) [])) ∙ map-append f (paths_of e []) (tree_paths (trees_of es) [])
    ∙ ap (λ cs. map f (paths_of e []) ++ cs) (trees_found f es)
