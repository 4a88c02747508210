-- An expression whose checks hold has a type, where its paths have types or name instances; and so has each part of it.
use Rattle.std.proofs.Common.{◌≡◌, Bool, true, false, not, ◌&&◌, if◌then◌else◌, List, [], ◌∷◌, ◌++◌, Option, Some, None, option_map, is_some, refl, sym, ◌∙◌}
use Rattle.std.proofs.lemmas.List.Folds.{list_all-append}
use mathlib.Core.Logic.{inl}
use Rattle.text_core.specs.declared.place.Place.{Place}
use Rattle.word_core.specs.Words.{BitVector}
use Rattle.smv_text.specs.declared.tree.Path.{Path}
use Rattle.smv_text.specs.declared.operators.Infix.{Infix}
use Rattle.smv_text.specs.Tree.{Tree, truth, number, literal, name, prefix, chain, choice, cases, select, call, next, set, range, Links, no_links, link, Branches, no_branches, branch, Trees, no_trees, tree}
use Rattle.smv_meaning.specs.Expressions.{is_from_right, paths_of, link_paths, branch_paths, tree_paths}
use Rattle.smv_meaning.specs.Types.{ExprType, word_type, hull_of, first_type, prefix_type}
use Rattle.smv_meaning.specs.Checks.{Check, passes, Position, single, under_next, Named, Typing, all_types, both_types, front_checks, front, across, behind, branches_type, is_literal, literal_type, typing, link_types, link_checks, linked, condition_types, value_types, branch_checks, tree_types, tree_checks}
use Rattle.smv_meaning.specs.Owed.{HasType}
use Rattle.smv_meaning.specs.Literals.{words_fit, link_words, branch_words, tree_words}
use Rattle.smv_meaning.specs.laws.Booleans.{both_true, absurd_bool}
use Rattle.smv_laws.proofs.Cycles.{In}
use Rattle.smv_laws.proofs.Agreeing.{more_paths, more_branches}

-- ---- what checks that hold give

pub split : (cs ds : List Check) → passes (cs ++ ds) ≡ true → (passes cs ≡ true) × (passes ds ≡ true)
split cs ds h = both_true (passes cs) (passes ds) (sym (list_all-append (λ (c : Check). c.holds) cs ds) ∙ h)

pub if_type : (b : Bool) (t : Option ExprType) → b ≡ true → HasType t → HasType (if b then t else None)
if_type true t b h = h
if_type false t b h = absurd_bool b

map_type : {X : Type 0} (f : X → ExprType) (o : Option X) → is_some o ≡ true → HasType (option_map f o)
map_type f None h = absurd_bool h
map_type f (Some x) h = refl

both_type : (f : ExprType → ExprType → ExprType) (t u : Option ExprType) → HasType t → HasType u → HasType (both_types f t u)
both_type f None u h k = absurd_bool h
both_type f (Some t) None h k = absurd_bool k
both_type f (Some t) (Some u) h k = refl

abbrev HaveTypes : List (Option ExprType) → Type 0
HaveTypes ts = is_some (all_types ts) ≡ true

cons_types : (t : Option ExprType) (ts : List (Option ExprType)) → HasType t → HaveTypes ts → HaveTypes (t ∷ ts)
cons_types None ts h k = absurd_bool h
cons_types (Some t) ts h k = by (all_types ts) k
  where
    by : (o : Option (List ExprType)) → is_some o ≡ true → is_some (option_map (λ us. t ∷ us) o) ≡ true
    by None e = absurd_bool e
    by (Some us) e = refl

branches_type_there : (cs vs : Option (List ExprType)) → is_some cs ≡ true → is_some vs ≡ true → HasType (branches_type cs vs)
branches_type_there None vs h k = absurd_bool h
branches_type_there (Some cs) None h k = absurd_bool k
branches_type_there (Some cs) (Some vs) h k = refl

literal_has : (w : BitVector) → is_literal w ≡ true → HasType (literal_type w)
literal_has w h = if_type (is_literal w) (Some (word_type w.width)) h refl

-- the test of a node's operands and its own
abbrev pub Holds : List Check → Type 0
Holds cs = passes cs ≡ true

-- each path that names no instance has a type
abbrev pub TypedPaths : (Path → Named) → List Path → Type 0
TypedPaths names xs = (q : Path) → In q xs → (names q).is_instance ≡ false → HasType (names q).type

not_instance : (b : Bool) → not b ≡ true → b ≡ false
not_instance true h = absurd_bool h
not_instance false h = refl

-- the checks of a chain's front are among those of the chain
pub linked_front : (names : Path → Named) (at : Position) (p : Place) (a : Typing) (ls : Links) → Holds (linked names at p a ls).checks → Holds a.checks
linked_front names at p a no_links h = h
linked_front names at p a (link op e ls) h =
    let b = typing names (behind op at) e in
    let f = split (a.checks ++ b.checks) (front_checks op at p a.type b.type e) (linked_front names at p (front op at p a b e) ls h) in
    (split a.checks b.checks f.0).0

-- the operand behind the first operator, and the front that ends with it
pub front_parts : (names : Path → Named) (at : Position) (p : Place) (a : Typing) (op : Infix) (e : Tree) (ls : Links) → Holds (linked names at p a (link op e ls)).checks
    → Holds (typing names (behind op at) e).checks × Holds (front_checks op at p a.type (typing names (behind op at) e).type e)
front_parts names at p a op e ls h =
    let b = typing names (behind op at) e in
    let f = split (a.checks ++ b.checks) (front_checks op at p a.type b.type e) (linked_front names at p (front op at p a b e) ls h) in
    ((split a.checks b.checks f.0).1, f.1)

pick_checks : (b : Bool) (x y : Typing) → Holds (if b then x else y).checks → (b ≡ true → Holds x.checks → HasType x.type) → (b ≡ false → Holds y.checks → HasType y.type)
    → HasType (if b then x else y).type
pick_checks true x y h f g = f refl h
pick_checks false x y h f g = g refl h

mutual
  pub has_type : (names : Path → Named) (at : Position) (e : Tree) (more : List Path) → TypedPaths names (paths_of e more) → words_fit e ≡ true → Holds (typing names at e).checks → HasType (typing names at e).type
  has_type names at (truth p b) more s w h = refl
  has_type names at (number p n) more s w h = if_type _ _ h refl
  has_type names at (literal p v) more s w h = literal_has v w
  has_type names at (name p x) more s w h =
      if_type _ _ h (s x (inl refl) (not_instance (names x).is_instance (both_true (not (names x).is_instance) _ h).0))
  has_type names at (prefix p sign n e) more s w h =
      let b = split (typing names (single at) e).checks _ h in
      if_type _ _ b.1 (map_type (prefix_type sign n) (typing names (single at) e).type (has_type names (single at) e more s w b.0))
  has_type names at (chain p e ls) more s w h =
      let v = both_true (words_fit e) (link_words ls) w in
      let less : TypedPaths names (link_paths ls more) = λ q i. s q (more_paths e (link_paths ls more) q i) in
      pick_checks (is_from_right ls) _ _ h
      (λ r k.
      let b = split ((typing names (single at) e).checks ++ link_checks names (single at) ls) _ k in
      let c = split (typing names (single at) e).checks (link_checks names (single at) ls) b.0 in
      if_type _ _ b.1 (map_type first_type (all_types ((typing names (single at) e).type ∷ link_types names (single at) ls))
      (cons_types _ _ (has_type names (single at) e (link_paths ls more) s v.0 c.0) (links_have names (single at) ls more less v.1 c.1))))
      (λ r k. linked_has names (across ls at) p (typing names (across ls at) e) ls more
      (has_type names (across ls at) e (link_paths ls more) s v.0 (linked_front names (across ls at) p (typing names (across ls at) e) ls k)) less v.1 k)
  has_type names at (choice p bs e) more s w h =
      let v = both_true (branch_words bs) (words_fit e) w in
      let b = split (branch_checks names at bs ++ (typing names at e).checks) _ h in
      let c = split (branch_checks names at bs) (typing names at e).checks b.0 in
      let own = has_type names at e more (λ q i. s q (more_branches bs (paths_of e more) q i)) v.1 c.1 in
      if_type _ _ b.1 (branches_type_there _ _ (conditions_have names at bs (paths_of e more) s v.0 c.0)
      (values_have names at bs ((typing names at e).type ∷ []) (paths_of e more) s v.0 c.0 (cons_types _ _ own refl)))
  has_type names at (cases p bs) more s w h =
      let b = split (branch_checks names at bs) _ h in
      if_type _ _ b.1 (branches_type_there _ _ (conditions_have names at bs more s w b.0) (values_have names at bs [] more s w b.0 refl))
  has_type names at (select p e high low) more s w h =
      let b = split (typing names (single at) e).checks _ h in
      if_type _ _ b.1 (map_type _ (typing names (single at) e).type (has_type names (single at) e more s w b.0))
  has_type names at (call p f es) more s w h =
      let b = split (tree_checks names (single at) es) _ h in
      if_type _ _ b.1 (map_type _ (all_types (tree_types names (single at) es)) (trees_have names (single at) es more s w b.0))
  has_type names at (next p e) more s w h =
      let b = split (typing names under_next e).checks _ h in if_type _ _ b.1 (has_type names under_next e more s w b.0)
  has_type names at (set p es) more s w h =
      let b = split (tree_checks names at es) _ h in
      if_type _ _ b.1 (map_type hull_of (all_types (tree_types names at es)) (trees_have names at es more s w b.0))
  has_type names at (range p low high) more s w h = if_type _ _ h refl

  links_have : (names : Path → Named) (at : Position) (ls : Links) (more : List Path) → TypedPaths names (link_paths ls more) → link_words ls ≡ true → Holds (link_checks names at ls) → HaveTypes (link_types names at ls)
  links_have names at no_links more s w h = refl
  links_have names at (link op e ls) more s w h =
      let v = both_true (words_fit e) (link_words ls) w in
      let b = split (typing names at e).checks (link_checks names at ls) h in
      cons_types _ _ (has_type names at e (link_paths ls more) s v.0 b.0) (links_have names at ls more (λ q i. s q (more_paths e (link_paths ls more) q i)) v.1 b.1)

  linked_has : (names : Path → Named) (at : Position) (p : Place) (a : Typing) (ls : Links) (more : List Path) → HasType a.type → TypedPaths names (link_paths ls more) → link_words ls ≡ true
      → Holds (linked names at p a ls).checks → HasType (linked names at p a ls).type
  linked_has names at p a no_links more t s w h = t
  linked_has names at p a (link op e ls) more t s w h =
      let v = both_true (words_fit e) (link_words ls) w in
      let f = front_parts names at p a op e ls h in
      let b = typing names (behind op at) e in
      linked_has names at p (front op at p a b e) ls more
      (if_type _ _ f.1 (both_type _ a.type b.type t (has_type names (behind op at) e (link_paths ls more) s v.0 f.0)))
      (λ q i. s q (more_paths e (link_paths ls more) q i)) v.1 h

  conditions_have : (names : Path → Named) (at : Position) (bs : Branches) (more : List Path) → TypedPaths names (branch_paths bs more) → branch_words bs ≡ true → Holds (branch_checks names at bs)
      → HaveTypes (condition_types names (single at) bs)
  conditions_have names at no_branches more s w h = refl
  conditions_have names at (branch c e rest) more s w h =
      let v = both_true (words_fit c) (words_fit e && branch_words rest) w in
      let u = both_true (words_fit e) (branch_words rest) v.1 in
      let b = split ((typing names (single at) c).checks ++ (typing names at e).checks) (branch_checks names at rest) h in
      let d = split (typing names (single at) c).checks (typing names at e).checks b.0 in
      cons_types _ _ (has_type names (single at) c (paths_of e (branch_paths rest more)) s v.0 d.0)
      (conditions_have names at rest more (λ q i. s q (more_paths c (paths_of e (branch_paths rest more)) q (more_paths e (branch_paths rest more) q i))) u.1 b.1)

  values_have : (names : Path → Named) (at : Position) (bs : Branches) (others : List (Option ExprType)) (more : List Path) → TypedPaths names (branch_paths bs more) → branch_words bs ≡ true
      → Holds (branch_checks names at bs) → HaveTypes others → HaveTypes (value_types names at bs others)
  values_have names at no_branches others more s w h o = o
  values_have names at (branch c e rest) others more s w h o =
      let v = both_true (words_fit c) (words_fit e && branch_words rest) w in
      let u = both_true (words_fit e) (branch_words rest) v.1 in
      let b = split ((typing names (single at) c).checks ++ (typing names at e).checks) (branch_checks names at rest) h in
      let d = split (typing names (single at) c).checks (typing names at e).checks b.0 in
      cons_types _ _ (has_type names at e (branch_paths rest more) (λ q i. s q (more_paths c (paths_of e (branch_paths rest more)) q i)) u.0 d.1)
      (values_have names at rest others more (λ q i. s q (more_paths c (paths_of e (branch_paths rest more)) q (more_paths e (branch_paths rest more) q i))) u.1 b.1 o)

  trees_have : (names : Path → Named) (at : Position) (es : Trees) (more : List Path) → TypedPaths names (tree_paths es more) → tree_words es ≡ true → Holds (tree_checks names at es) → HaveTypes (tree_types names at es)
  trees_have names at no_trees more s w h = refl
  trees_have names at (tree e es) more s w h =
      let v = both_true (words_fit e) (tree_words es) w in
      let b = split (typing names at e).checks (tree_checks names at es) h in
      cons_types _ _ (has_type names at e (tree_paths es more) s v.0 b.0) (trees_have names at es more (λ q i. s q (more_paths e (tree_paths es more) q i)) v.1 b.1)
