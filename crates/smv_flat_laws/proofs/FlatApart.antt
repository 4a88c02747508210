-- What an expression whose checks hold denotes hangs on inputs and on the following state only where its position allows them.
use Rattle.std.proofs.Common.{◌≡◌, ℕ, zero, suc, Bool, true, false, not, ◌&&◌, ◌||◌, if◌then◌else◌, List, [], ◌∷◌, ◌++◌, refl, sym, ap, ◌∙◌}
use Rattle.text_core.specs.declared.place.Place.{Place}
use Rattle.smv_text.specs.declared.tree.Path.{Path}
use Rattle.smv_text.specs.declared.operators.Infix.{Infix}
use Rattle.smv_text.specs.declared.operators.Infix.TheVariants as OfInfix
use Rattle.smv_text.specs.declared.tree.VarKind.{VarKind}
use Rattle.smv_text.specs.declared.tree.VarKind.TheVariants as OfVarKind
use Rattle.smv_text.specs.Tree.{Tree, truth, number, literal, name, prefix, chain, choice, cases, select, call, next, set, range, Links, no_links, link, Branches, no_branches, branch, Trees, no_trees, tree, PlainDomain}
use Rattle.smv_meaning.specs.declared.value.Value.{Value}
use Rattle.smv_meaning.specs.Values.{Valuation, is_true}
use Rattle.smv_meaning.specs.Operators.{implied, signed, selected, called}
use Rattle.smv_meaning.specs.Expressions.{Denotation, alone, set_of, joined, is_from_right, is_last, denote, implications, linked as linked_values, chosen, taken, values_of, one_permits, paths_of}
use Rattle.smv_meaning.specs.Names.{Found, variable_at, body_at, instance_at, symbol_of, cyclic, none}
use Rattle.smv_meaning.specs.Meaning.{is_input, value_found, reading}
use Rattle.smv_meaning.specs.Checks.{Position, single, under_next, Named, Typing, front, across, behind, are_unions, typing, link_checks, linked, branch_checks, tree_checks}
use Rattle.smv_meaning.specs.Naming.{named_found, naming}
use Rattle.smv_meaning.specs.laws.Booleans.{both_true}
use Rattle.smv_meaning.specs.laws.Booleans.{absurd_bool}
use Rattle.smv_laws.proofs.Agreeing.{denote_same}
use Rattle.smv_laws.proofs.Typable.{split, Holds, linked_front, front_parts}
use Rattle.smv_laws.proofs.SafeExpressions.{any_false}

-- the paths that may be read have the same values
abbrev pub SameWhere : (Path → Named) → Bool → (f h : Path → Value) → Type 0
SameWhere names inputs f h = (x : Path) → (inputs || not (names x).reaches_input) ≡ true → f x ≡ h x

-- under `next` no input is read
abbrev pub SameUnder : (Path → Named) → Bool → (g k : Path → Value) → Type 0
SameUnder names nexts g k = nexts ≡ true → SameWhere names false g k

across_inputs : (ls : Links) (at : Position) → (across ls at).inputs ≡ at.inputs
across_inputs ls at = by (are_unions ls)
  where
    by : (b : Bool) → (if b then at else single at).inputs ≡ at.inputs
    by true = refl
    by false = refl

across_nexts : (ls : Links) (at : Position) → (across ls at).nexts ≡ at.nexts
across_nexts ls at = by (are_unions ls)
  where
    by : (b : Bool) → (if b then at else single at).nexts ≡ at.nexts
    by true = refl
    by false = refl

behind_inputs : (op : Infix) (at : Position) → (behind op at).inputs ≡ at.inputs
behind_inputs OfInfix.Member at = refl
behind_inputs OfInfix.Union at = refl
behind_inputs op at = refl

behind_nexts : (op : Infix) (at : Position) → (behind op at).nexts ≡ at.nexts
behind_nexts OfInfix.Member at = refl
behind_nexts OfInfix.Union at = refl
behind_nexts op at = refl

pick_apart : {X : Type 0} (b : Bool) (x y : Typing) (u v w z : X) → Holds (if b then x else y).checks → (Holds x.checks → u ≡ w) → (Holds y.checks → v ≡ z) → (if b then u else v) ≡ (if b then w else z)
pick_apart true x y u v w z h f g = f h
pick_apart false x y u v w z h f g = g h

if_apart : {X : Type 0} (b : Bool) (x y z w : X) → x ≡ z → y ≡ w → (if b then x else y) ≡ (if b then z else w)
if_apart true x y z w h k = h
if_apart false x y z w h k = k

mutual
  pub apart : (names : Path → Named) (f g h k : Path → Value) (inputs nexts : Bool) → SameWhere names inputs f h → SameUnder names nexts g k
      → (at : Position) → at.inputs ≡ inputs → at.nexts ≡ nexts → (e : Tree) → Holds (typing names at e).checks → denote f g e ≡ denote h k e
  apart names f g h k inputs nexts s u at p q (truth r b) c = refl
  apart names f g h k inputs nexts s u at p q (number r n) c = refl
  apart names f g h k inputs nexts s u at p q (literal r w) c = refl
  apart names f g h k inputs nexts s u at p q (name r x) c =
      let a = both_true (not (names x).is_instance) ((at.inputs || not (names x).reaches_input) && true) c in
      let b = both_true (at.inputs || not (names x).reaches_input) true a.1 in
      ap alone (s x (sym (ap (λ i. i || not (names x).reaches_input) p) ∙ b.0))
  apart names f g h k inputs nexts s u at p q (prefix r sign n e) c =
      ap (λ (d : Denotation). alone (signed sign n d.value)) (apart names f g h k inputs nexts s u (single at) p q e (split (typing names (single at) e).checks _ c).0)
  apart names f g h k inputs nexts s u at p q (chain r e ls) c =
      pick_apart (is_from_right ls) _ _ _ _ _ _ c
      (λ w.
      let a = split ((typing names (single at) e).checks ++ link_checks names (single at) ls) _ w in
      let b = split (typing names (single at) e).checks (link_checks names (single at) ls) a.0 in
      ap alone (ap (λ (d : Denotation). implications f g d.value ls) (apart names f g h k inputs nexts s u (single at) p q e b.0)
      ∙ implications_apart names f g h k inputs nexts s u (single at) p q (denote h k e).value ls b.1))
      (λ w.
      ap (λ (d : Denotation). linked_values f g d ls)
      (apart names f g h k inputs nexts s u (across ls at) (across_inputs ls at ∙ p) (across_nexts ls at ∙ q) e (linked_front names (across ls at) r (typing names (across ls at) e) ls w))
      ∙ linked_apart names f g h k inputs nexts s u (across ls at) (across_inputs ls at ∙ p) (across_nexts ls at ∙ q) r (typing names (across ls at) e) (denote h k e) ls w)
  apart names f g h k inputs nexts s u at p q (choice r bs e) c =
      let a = split (branch_checks names at bs ++ (typing names at e).checks) _ c in
      let b = split (branch_checks names at bs) (typing names at e).checks a.0 in
      ap (λ (d : Denotation). chosen f g bs d) (apart names f g h k inputs nexts s u at p q e b.1)
      ∙ chosen_apart names f g h k inputs nexts s u at p q bs (denote h k e) b.0
  apart names f g h k inputs nexts s u at p q (cases r bs) c = taken_apart names f g h k inputs nexts s u at p q bs (split (branch_checks names at bs) _ c).0
  apart names f g h k inputs nexts s u at p q (select r e high low) c =
      ap (λ (d : Denotation). alone (selected high low d.value)) (apart names f g h k inputs nexts s u (single at) p q e (split (typing names (single at) e).checks _ c).0)
  apart names f g h k inputs nexts s u at p q (call r o es) c =
      ap (λ (vs : List Value). alone (called o vs)) (values_apart names f g h k inputs nexts s u (single at) p q es (split (tree_checks names (single at) es) _ c).0)
  apart names f g h k inputs nexts s u at p q (next r e) c =
      let a = split (typing names under_next e).checks _ c in
      let b = both_true at.nexts true a.1 in
      apart names g g k k false false (u (sym q ∙ b.0)) (λ w. absurd_bool w) under_next refl refl e a.0
  apart names f g h k inputs nexts s u at p q (set r es) c = ap set_of (permits_apart names f g h k inputs nexts s u at p q es (split (tree_checks names at es) _ c).0)
  apart names f g h k inputs nexts s u at p q (range r low high) c = refl

  implications_apart : (names : Path → Named) (f g h k : Path → Value) (inputs nexts : Bool) → SameWhere names inputs f h → SameUnder names nexts g k
      → (at : Position) → at.inputs ≡ inputs → at.nexts ≡ nexts → (v : Value) (ls : Links) → Holds (link_checks names at ls) → implications f g v ls ≡ implications h k v ls
  implications_apart names f g h k inputs nexts s u at p q v no_links c = refl
  implications_apart names f g h k inputs nexts s u at p q v (link op e ls) c =
      let a = split (typing names at e).checks (link_checks names at ls) c in
      ap (implied v)
      (ap (λ (d : Denotation). implications f g d.value ls) (apart names f g h k inputs nexts s u at p q e a.0)
      ∙ implications_apart names f g h k inputs nexts s u at p q (denote h k e).value ls a.1)

  linked_apart : (names : Path → Named) (f g h k : Path → Value) (inputs nexts : Bool) → SameWhere names inputs f h → SameUnder names nexts g k
      → (at : Position) → at.inputs ≡ inputs → at.nexts ≡ nexts → (r : Place) (t : Typing) (d : Denotation) (ls : Links) → Holds (linked names at r t ls).checks → linked_values f g d ls ≡ linked_values h k d ls
  linked_apart names f g h k inputs nexts s u at p q r t d no_links c = refl
  linked_apart names f g h k inputs nexts s u at p q r t d (link op e ls) c =
      ap (λ (b : Denotation). linked_values f g (joined op d b) ls)
      (apart names f g h k inputs nexts s u (behind op at) (behind_inputs op at ∙ p) (behind_nexts op at ∙ q) e (front_parts names at r t op e ls c).0)
      ∙ linked_apart names f g h k inputs nexts s u at p q r (front op at r t (typing names (behind op at) e) e) (joined op d (denote h k e)) ls c

  chosen_apart : (names : Path → Named) (f g h k : Path → Value) (inputs nexts : Bool) → SameWhere names inputs f h → SameUnder names nexts g k
      → (at : Position) → at.inputs ≡ inputs → at.nexts ≡ nexts → (bs : Branches) (d : Denotation) → Holds (branch_checks names at bs) → chosen f g bs d ≡ chosen h k bs d
  chosen_apart names f g h k inputs nexts s u at p q no_branches d c = refl
  chosen_apart names f g h k inputs nexts s u at p q (branch w e rest) d c =
      let a = split ((typing names (single at) w).checks ++ (typing names at e).checks) (branch_checks names at rest) c in
      let b = split (typing names (single at) w).checks (typing names at e).checks a.0 in
      ap (λ (x : Denotation). if is_true x.value then denote f g e else chosen f g rest d) (apart names f g h k inputs nexts s u (single at) p q w b.0)
      ∙ if_apart (is_true (denote h k w).value) _ _ _ _ (apart names f g h k inputs nexts s u at p q e b.1) (chosen_apart names f g h k inputs nexts s u at p q rest d a.1)

  taken_apart : (names : Path → Named) (f g h k : Path → Value) (inputs nexts : Bool) → SameWhere names inputs f h → SameUnder names nexts g k
      → (at : Position) → at.inputs ≡ inputs → at.nexts ≡ nexts → (bs : Branches) → Holds (branch_checks names at bs) → taken f g bs ≡ taken h k bs
  taken_apart names f g h k inputs nexts s u at p q no_branches c = refl
  taken_apart names f g h k inputs nexts s u at p q (branch w e rest) c =
      let a = split ((typing names (single at) w).checks ++ (typing names at e).checks) (branch_checks names at rest) c in
      let b = split (typing names (single at) w).checks (typing names at e).checks a.0 in
      ap (λ (x : Denotation). if is_true x.value || is_last rest then denote f g e else taken f g rest) (apart names f g h k inputs nexts s u (single at) p q w b.0)
      ∙ if_apart (is_true (denote h k w).value || is_last rest) _ _ _ _ (apart names f g h k inputs nexts s u at p q e b.1) (taken_apart names f g h k inputs nexts s u at p q rest a.1)

  values_apart : (names : Path → Named) (f g h k : Path → Value) (inputs nexts : Bool) → SameWhere names inputs f h → SameUnder names nexts g k
      → (at : Position) → at.inputs ≡ inputs → at.nexts ≡ nexts → (es : Trees) → Holds (tree_checks names at es) → values_of f g es ≡ values_of h k es
  values_apart names f g h k inputs nexts s u at p q no_trees c = refl
  values_apart names f g h k inputs nexts s u at p q (tree e es) c =
      let a = split (typing names at e).checks (tree_checks names at es) c in
      ap (λ (d : Denotation). d.value ∷ values_of f g es) (apart names f g h k inputs nexts s u at p q e a.0)
      ∙ ap (λ (vs : List Value). (denote h k e).value ∷ vs) (values_apart names f g h k inputs nexts s u at p q es a.1)

  permits_apart : (names : Path → Named) (f g h k : Path → Value) (inputs nexts : Bool) → SameWhere names inputs f h → SameUnder names nexts g k
      → (at : Position) → at.inputs ≡ inputs → at.nexts ≡ nexts → (es : Trees) → Holds (tree_checks names at es) → one_permits f g es ≡ one_permits h k es
  permits_apart names f g h k inputs nexts s u at p q no_trees c = refl
  permits_apart names f g h k inputs nexts s u at p q (tree e es) c =
      let a = split (typing names at e).checks (tree_checks names at es) c in
      ap {B = Value → Bool} (λ d v. d.permits v || one_permits f g es v) (apart names f g h k inputs nexts s u at p q e a.0)
      ∙ ap {B = Value → Bool} (λ o v. (denote h k e).permits v || o v) (permits_apart names f g h k inputs nexts s u at p q es a.1)

-- ---- what reaches no input has its value whatever the label is

free_variable : (read other : ℕ → Path → Value) (state label more : Valuation) (x : List ℕ) (kind : VarKind) (d : PlainDomain) → is_input kind ≡ false
    → value_found read state label (variable_at x kind d) ≡ value_found other state more (variable_at x kind d)
free_variable read other state label more x OfVarKind.State d h = refl
free_variable read other state label more x OfVarKind.Frozen d h = refl
free_variable read other state label more x OfVarKind.Input d h = absurd_bool (sym h)

free_found : (found : ℕ → Path → Found) (state label more : Valuation) (n : ℕ)
    → ((j : ℕ) (q : Path) → (naming true found n j q).reaches_input ≡ false → reading found n state label j q ≡ reading found n state more j q)
    → (m : Found) → (named_found true (naming true found n) m).reaches_input ≡ false
    → value_found (reading found n state label) state label m ≡ value_found (reading found n state more) state more m
free_found found state label more n ih (variable_at x kind d) h = free_variable (reading found n state label) (reading found n state more) state label more x kind d h
free_found found state label more n ih (body_at i x j e) h =
    ap (λ (d : Denotation). d.value)
    (denote_same (reading found n state label j) (reading found n state label j) (reading found n state more j) (reading found n state more j) e []
    (λ q i. let s = ih j q (any_false (λ r. (naming true found n j r).reaches_input) (paths_of e []) h q i) in (s, s)))
free_found found state label more n ih (instance_at i) h = refl
free_found found state label more n ih (symbol_of x) h = refl
free_found found state label more n ih cyclic h = refl
free_found found state label more n ih none h = refl

pub label_free : (found : ℕ → Path → Found) (state label more : Valuation) (n i : ℕ) (q : Path) → (naming true found n i q).reaches_input ≡ false
    → reading found n state label i q ≡ reading found n state more i q
unfolding reading naming
label_free found state label more zero i q h = refl
label_free found state label more (suc n) i q h = free_found found state label more n (label_free found state label more n) (found i q) h
