-- The numbers of a model's formulas are in the ranges of their terms.
use Rattle.std.proofs.Common.{◌≡◌, ℕ, ◌+◌, ◌^◌, ◌≤◌, ◌<◌, Bool, true, false, ◌&&◌, nat_lt, if◌then◌else◌, List, [], ◌∷◌, Option, Some, refl, sym, ap, ◌∙◌, subst, arith}
use Rattle.std.proofs.lemmas.Bool.{ltb-true}
use Rattle.text_core.specs.declared.place.Place.{Place}
use Rattle.word_core.specs.declared.word.TheConstants.{WIDEST}
use Rattle.smv_text.specs.declared.token.Token.{Token}
use Rattle.smv_text.specs.declared.tree.Path.{Path}
use Rattle.smv_text.specs.declared.operators.Infix.{Infix}
use Rattle.smv_text.specs.declared.operators.Infix.TheVariants.{Implies, Member, Union, ShiftLeft, ShiftRight, Concat}
use Rattle.smv_text.specs.declared.operators.Function.{Function}
use Rattle.smv_text.specs.declared.operators.Function.TheVariants as OfFunction
use Rattle.smv_text.specs.Lexing.{Lexes}
use Rattle.smv_text.specs.Sources.{SpellsSource}
use Rattle.smv_text.specs.Tree.{Tree as Expression, truth, number, literal, name, prefix, chain, choice, cases, select, call, next, set, range, Links, no_links, link, Branches, no_branches, branch, Trees as Expressions, no_trees as no_expressions, tree as expression, PlainSource}
use Rattle.smv_meaning.specs.declared.value.Value.{Value}
use Rattle.smv_meaning.specs.Expressions.{are_implies, is_from_right}
use Rattle.smv_meaning.specs.Instances.{Instance, instances_of}
use Rattle.smv_meaning.specs.Operators.{is_width}
use Rattle.smv_meaning.specs.Phases.{IsAccepted}
use Rattle.smv_meaning.specs.Settled.{types_in}
use Rattle.smv_meaning.specs.Types.{ExprType, is_word_type, type_width, infix_type, function_fits, arguments_fit, number_of, numbers_of}
use Rattle.smv_meaning.specs.Checks.{check, passes, Position, single, under_next, Named, Typing, all_types, front, are_unions, across, behind, with_sets, typing, link_types, linked, condition_types, value_types, tree_types}
use Rattle.smv_meaning.specs.laws.Booleans.{both_true, absurd_bool}
use Rattle.smv_meaning.specs.laws.WordLemmas.{below_power}
use Rattle.smv_laws.proofs.OperatorLaws.{width_of}
use Rattle.smv_laws.proofs.TypeLaws.{NamesLie, all_cons, false_true}
use Rattle.smv_items.specs.FlatItems.{Leaf, of_item, of_symbol, of_nothing, leaf_in}
use Rattle.smv_flat.specs.declared.forms.Role.{Role}
use Rattle.smv_flat.specs.declared.forms.Role.TheVariants.{Body, Assign, Init, Trans, Invar, Invariant}
use Rattle.smv_flat.specs.FlatTree.{FlatTree, leaf_tree, flat_tree, flat_links, flat_branches, flat_trees}
use Rattle.smv_flat.specs.FlatForms.{Form, forms_of, flat_smv}
use Rattle.smv_width.specs.SourceWidth.{has_link, has_operators, link_operators, branch_operators, part_operators}
use Rattle.smv_script.specs.Operators.{front_width}
use Rattle.smv_script.specs.Ranges.{word_excess, number_excess, shift_excess, joined_excess, call_excess, fronts_excess, excess, links_excess, branches_excess, trees_excess, forms_excess}
use Rattle.smv_script.specs.Terms.{width_in, word_width, amount_of, arguments_of}
use Rattle.smv_script_laws.proofs.Typings.{branches_typed, call_typed, front_typed, implies_typed, last_types, linked_typed, node_typed, right_no_union, set_typed, some_same, type_kept}
use Rattle.smv_script_laws.proofs.Parts.{IsAsWide, amount_is, extend_fits, extend_second, number_kept, resize_fits, resize_second, wide_kept, wide_of, wide_word}
use Rattle.smv_script_laws.proofs.SortedRows.{TypeFits, infix_kept, word_cases}
use Rattle.smv_script_laws.proofs.Typed.{prefix_whole, select_whole, select_bounds, type_fits}
use Rattle.smv_script_laws.proofs.Translated.{by_cases, typed_if}
use Rattle.smv_script_laws.proofs.Inhabited.{value_in, values_lie}
use Rattle.smv_script_laws.proofs.PrintedForms.{IsOfSound, IsRole, AreRoles}
use Rattle.smv_script_laws.proofs.WholeScripts.{model_typed}

-- ---- single numbers

pub word_in_range : (width bits : ℕ) → 1 ≤ width → width ≤ WIDEST → bits < 2 ^ width → word_excess width bits ≡ 0
word_in_range width bits some most fits = omega (arith, some, most, fits)

shift_in_range : (t : ExprType) (m n : ℕ) → is_word_type t ≡ true → n ≤ type_width t → TypeFits t → IsAsWide t m → word_excess m n ≡ 0
shift_in_range t m n w = word_cases (λ t. n ≤ type_width t → TypeFits t → IsAsWide t m → word_excess m n ≡ 0)
    (λ k l f e. let p = below_power k in subst (λ i. word_excess i n ≡ 0) e (word_in_range k n f.0 f.1 (omega (arith, p, l)))) t w

select_in_range : (t : ExprType) (high low : ℕ) → is_word_type t ≡ true → high < type_width t → low ≤ high → TypeFits t → number_excess high + number_excess low ≡ 0
select_in_range t high low w = word_cases (λ t. high < type_width t → low ≤ high → TypeFits t → number_excess high + number_excess low ≡ 0)
    (λ k h l f. let m = f.1 in omega (arith, h, l, m)) t w

leaf_in_range : (o : Option ExprType) (under : Bool) (l : Leaf) → excess (leaf_tree o under l) ≡ 0
leaf_in_range o under (of_item k) = refl
leaf_in_range o under (of_symbol s) = refl
leaf_in_range o under of_nothing = refl

from_right : (ls : Links) → is_from_right ls ≡ true → are_implies ls ≡ true
from_right no_links h = refl
from_right (link o e ls) h = h

module _ (names : Path → Named) (leaf : Path → Leaf) (f : Path → Value) (hf : NamesLie names f) (under : Bool) where
  -- ---- fronts of chains

  record FrontInRange (i : Infix) (q : Position) (x : Expression) (m : ℕ) (tf : ExprType) : Type 0 where
    pub shift : shift_excess i m (amount_of (flat_tree names leaf (behind i q) under x)) ≡ 0
    pub joined : joined_excess i m (word_width (flat_tree names leaf (behind i q) under x)) ≡ 0
    pub wide : IsAsWide tf (front_width i m (word_width (flat_tree names leaf (behind i q) under x)))
    pub fits : TypeFits tf

  front_in_range : (q : Position) → q.sets ≡ false → (p : Place) (a : Typing) (ta : ExprType) → a.type ≡ Some ta → (i : Infix) (x : Expression) → has_operators x ≡ true
      → (tf : ExprType) → (front i q p a (typing names (behind i q) x) x).type ≡ Some tf → (m : ℕ) → IsAsWide ta m → TypeFits ta → FrontInRange i q x m tf
  front_in_range q s p a ta e Member x o tf h m w k =
      let r = front_typed Member q p a.type (typing names (with_sets q) x).type x tf h in
      record { shift = refl; joined = refl; wide = subst (λ z. IsAsWide z m) r.whole tt; fits = subst TypeFits r.whole tt }
  front_in_range q s p a ta e Union x o tf h m w k =
      let r = front_typed Union q p a.type (typing names q x).type x tf h in false_true q.sets s r.may
  front_in_range q s p a ta e ShiftLeft x o tf h m w k =
      let r = front_typed ShiftLeft q p a.type (typing names (single q) x).type x tf h in
      let same : ta ≡ r.left = some_same ta r.left (sym e ∙ r.left_is) in
      let n = amount_is (number_of x) r.left r.shifted in
      let v : IsAsWide r.left m = subst (λ z. IsAsWide z m) same w in
      record {
        shift = subst (λ z. word_excess m z ≡ 0) (sym (number_kept names leaf (single q) under x n.0 n.1)) (shift_in_range r.left m n.0 r.fits n.2 (subst TypeFits same k) v);
        joined = refl;
        wide = subst (λ z. IsAsWide z m) r.whole v;
        fits = subst TypeFits (same ∙ r.whole) k;
      }
  front_in_range q s p a ta e ShiftRight x o tf h m w k =
      let r = front_typed ShiftRight q p a.type (typing names (single q) x).type x tf h in
      let same : ta ≡ r.left = some_same ta r.left (sym e ∙ r.left_is) in
      let n = amount_is (number_of x) r.left r.shifted in
      let v : IsAsWide r.left m = subst (λ z. IsAsWide z m) same w in
      record {
        shift = subst (λ z. word_excess m z ≡ 0) (sym (number_kept names leaf (single q) under x n.0 n.1)) (shift_in_range r.left m n.0 r.fits n.2 (subst TypeFits same k) v);
        joined = refl;
        wide = subst (λ z. IsAsWide z m) r.whole v;
        fits = subst TypeFits (same ∙ r.whole) k;
      }
  front_in_range q s p a ta e Concat x o tf h m w k =
      let r = front_typed Concat q p a.type (typing names (single q) x).type x tf h in
      let same : ta ≡ r.left = some_same ta r.left (sym e ∙ r.left_is) in
      let v : IsAsWide r.left m = subst (λ z. IsAsWide z m) same w in
      let kept : word_width (flat_tree names leaf (single q) under x) ≡ type_width r.right = ap width_in (type_kept names leaf (single q) under x o refl r.right r.right_is) in
      let l : type_width r.left ≡ m = wide_word r.left m (both_true (is_word_type r.left) (is_word_type r.right) r.fits).0 v in
      let d = (width_of (type_width r.left + type_width r.right) r.joined).1 in
      record {
        shift = refl;
        joined = omega (arith, kept, l, d);
        wide = subst (λ z. IsAsWide z (m + word_width (flat_tree names leaf (single q) under x))) r.whole
            (subst (λ n. IsAsWide (infix_type Concat r.left r.right x) (m + n)) (sym kept) (wide_kept Concat r.left r.right x m r.fits v));
        fits = subst TypeFits r.whole (infix_kept Concat r.left r.right x r.fits r.joined (subst TypeFits same k));
      }
  front_in_range q s p a ta e i x o tf h m w k =
      let r = front_typed i q p a.type (typing names (single q) x).type x tf h in
      let same : ta ≡ r.left = some_same ta r.left (sym e ∙ r.left_is) in
      record {
        shift = refl;
        joined = refl;
        wide = subst (λ z. IsAsWide z m) r.whole (wide_kept i r.left r.right x m r.fits (subst (λ z. IsAsWide z m) same w));
        fits = subst TypeFits r.whole (infix_kept i r.left r.right x r.fits r.joined (subst TypeFits same k));
      }

  fronts_in_range : (q : Position) → q.sets ≡ false → (p : Place) (a : Typing) (ta : ExprType) → a.type ≡ Some ta → (ls : Links) → link_operators ls ≡ true
      → (t : ExprType) → (linked names q p a ls).type ≡ Some t → (m : ℕ) → IsAsWide ta m → TypeFits ta → fronts_excess m (flat_links names leaf q under ls) ≡ 0
  fronts_in_range q s p a ta e no_links o t h m w k = refl
  fronts_in_range q s p a ta e (link i x ls) o t h m w k =
      let b = both_true (has_operators x) (link_operators ls) o in
      let fr = front i q p a (typing names (behind i q) x) x in
      let r = linked_typed names q p fr ls t h in
      let n = front_in_range q s p a ta e i x b.0 r.0 r.1 m w k in
      let d = fronts_in_range q s p fr r.0 r.1 ls b.1 t h (front_width i m (word_width (flat_tree names leaf (behind i q) under x))) n.wide n.fits in
      let y = n.shift in
      let z = n.joined in
      omega (arith, d, y, z)

  -- operators whose operands are not joined or shifted
  unions_in_range : (q : Position) (ls : Links) → are_unions ls ≡ true → (m : ℕ) → fronts_excess m (flat_links names leaf q under ls) ≡ 0
  unions_in_range q no_links h m = refl
  unions_in_range q (link Union x ls) h m = let d = unions_in_range q ls h m in omega (arith, d)
  unions_in_range q (link i x ls) h m = absurd_bool h

  implies_in_range : (q : Position) (ls : Links) → are_implies ls ≡ true → (m : ℕ) → fronts_excess m (flat_links names leaf q under ls) ≡ 0
  implies_in_range q no_links h m = refl
  implies_in_range q (link Implies x ls) h m = let d = implies_in_range q ls h m in omega (arith, d)
  implies_in_range q (link i x ls) h m = absurd_bool h

  -- ---- functions

  call_in_range : (at : Position) (fn : Function) (es : Expressions) (us : List ExprType) → all_types (tree_types names (single at) es) ≡ Some us → function_fits fn us ≡ true → arguments_fit fn us (numbers_of es) ≡ true
      → call_excess fn (arguments_of (flat_trees names leaf (single at) under es)) ≡ 0
  call_in_range at OfFunction.Uwconst (expression (number p v) (expression (number q m) no_expressions)) us h fits numbers =
      let b = both_true (is_width m) (nat_lt v (2 ^ m)) numbers in
      let d = width_of m b.0 in
      word_in_range m v d.0 d.1 (ltb-true v (2 ^ m) b.1)
  call_in_range at OfFunction.Uwconst es us h fits numbers = absurd_bool numbers
  call_in_range at OfFunction.Extend (expression e (expression (number q m) no_expressions)) us h fits numbers =
      let r = extend_fits (typing names (single at) e).type (typing names (single at) (number q m)).type us (number_of e) m h fits numbers in
      let d = (width_of (type_width r.0 + m) r.3).1 in
      omega (arith, d)
  call_in_range at OfFunction.Extend es us h fits numbers = absurd (extend_second us (numbers_of es) numbers)
  call_in_range at OfFunction.Resize (expression e (expression (number q m) no_expressions)) us h fits numbers =
      let r = resize_fits (typing names (single at) e).type (typing names (single at) (number q m)).type us (number_of e) m h fits numbers in
      let d = (width_of m r.3).1 in
      omega (arith, d)
  call_in_range at OfFunction.Resize es us h fits numbers = absurd (resize_second us (numbers_of es) numbers)
  call_in_range at fn es us h fits numbers = refl

-- ---- expressions

module _ (names : Path → Named) (leaf : Path → Leaf) (f : Path → Value) (hf : NamesLie names f) where
  mutual
    pub in_range : (under : Bool) (at : Position) (e : Expression) → has_operators e ≡ true → (t : ExprType) → (typing names at e).type ≡ Some t → excess (flat_tree names leaf at under e) ≡ 0
    in_range under at (truth p b) o t h = refl
    in_range under at (number p n) o t h = refl
    in_range under at (literal p w) o t h = refl
    in_range under at (name p x) o t h = leaf_in_range (typing names at (name p x)).type under (leaf x)
    in_range under at (prefix p sign n e) o t h =
        let r = prefix_whole p sign n (typing names (single at) e).type t h in
        in_range under (single at) e o r.0 r.1
    in_range under at (chain p e ls) o t h =
        let q = across ls at in
        let m = word_width (flat_tree names leaf q under e) in
        let b = both_true (has_operators e) (link_operators ls) (both_true (has_link ls) (has_operators e && link_operators ls) o).1 in
        let ti = typed_if (is_from_right ls) _ (linked names q p (typing names q e) ls) t h in
        by_cases (is_from_right ls)
        (λ r.
        let eq : single at ≡ q = sym (ap (λ u. if u then at else single at) (right_no_union ls r)) in
        let s = implies_typed p (all_types ((typing names (single at) e).type ∷ link_types names (single at) ls)) t (ti.0 r) in
        let k = all_cons (typing names (single at) e).type (link_types names (single at) ls) (s.0 ∷ s.1) s.2 in
        let y = subst (λ z. excess (flat_tree names leaf z under e) ≡ 0) eq (in_range under (single at) e b.0 k.0 k.2) in
        let z = subst (λ z. links_excess (flat_links names leaf z under ls) ≡ 0) eq (implied_in_range under at ls b.1 (from_right ls r) k.1 k.3) in
        let w = implies_in_range names leaf f hf under q ls (from_right ls r) m in
        omega (arith, y, z, w))
        (λ r.
        let l = linked_typed names q p (typing names q e) ls t (ti.1 r) in
        let y = in_range under q e b.0 l.0 l.1 in
        let z = links_in_range under q p (typing names q e) ls b.1 t (ti.1 r) in
        let w : fronts_excess m (flat_links names leaf q under ls) ≡ 0 = by_cases (are_unions ls) (λ u. unions_in_range names leaf f hf under q ls u m)
        (λ u.
        let s : q.sets ≡ false = ap (λ (y : Bool). (if y then at else single at).sets) u in
        let wide = subst (λ n. IsAsWide l.0 n) (sym (ap width_in (type_kept names leaf q under e b.0 s l.0 l.1))) (wide_of l.0) in
        fronts_in_range names leaf f hf under q s p (typing names q e) l.0 l.1 ls b.1 t (ti.1 r) m wide (type_fits names f hf q s e l.0 l.1)) in
        omega (arith, y, z, w))
    in_range under at (choice p bs e) o t h =
        let q = both_true (branch_operators bs) (has_operators e) o in
        let b = branches_typed p (all_types (condition_types names (single at) bs)) (all_types (value_types names at bs ((typing names at e).type ∷ []))) t h in
        let l = last_types names at bs ((typing names at e).type ∷ []) b.1 b.3 in
        let k = all_cons (typing names at e).type [] l.0 l.1 in
        let x = branches_in_range under at bs q.0 ((typing names at e).type ∷ []) b.0 b.2 b.1 b.3 in
        let y = in_range under at e q.1 k.0 k.2 in
        omega (arith, x, y)
    in_range under at (cases p bs) o t h =
        let b = branches_typed p (all_types (condition_types names (single at) bs)) (all_types (value_types names at bs [])) t h in
        branches_in_range under at bs o [] b.0 b.2 b.1 b.3
    in_range under at (select p e high low) o t h =
        let r = select_whole p high low (typing names (single at) e).type t h in
        let b = select_bounds r.0 high low r.3 in
        let x = in_range under (single at) e o r.0 r.1 in
        let y = select_in_range r.0 high low r.2 b.0 b.1 (type_fits names f hf (single at) refl e r.0 r.1) in
        omega (arith, x, y)
    in_range under at (call p fn es) o t h =
        let r = call_typed p fn (all_types (tree_types names (single at) es)) (numbers_of es) t h in
        let x = trees_in_range under (single at) es o r.0 r.1 in
        let y = call_in_range names leaf f hf under at fn es r.0 r.1 r.2 r.3 in
        omega (arith, x, y)
    in_range under at (next p e) o t h = in_range true under_next e o t (node_typed (passes (check 19 p at.nexts ∷ [])) (typing names under_next e).type t h).1
    in_range under at (set p es) o t h = let r = set_typed p (all_types (tree_types names at es)) at.sets t h in trees_in_range under at es o r.0 r.1
    in_range under at (range p low high) o t h = refl

    -- the operands of a chain that is read from the left
    links_in_range : (under : Bool) (q : Position) (p : Place) (a : Typing) (ls : Links) → link_operators ls ≡ true → (t : ExprType) → (linked names q p a ls).type ≡ Some t → links_excess (flat_links names leaf q under ls) ≡ 0
    links_in_range under q p a no_links o t h = refl
    links_in_range under q p a (link i x ls) o t h =
        let b = both_true (has_operators x) (link_operators ls) o in
        let fr = front i q p a (typing names (behind i q) x) x in
        let r = linked_typed names q p fr ls t h in
        let y = front_typed i q p a.type (typing names (behind i q) x).type x r.0 r.1 in
        let z = in_range under (behind i q) x b.0 y.right y.right_is in
        let w = links_in_range under q p fr ls b.1 t h in
        omega (arith, z, w)

    -- and of one of `->`
    implied_in_range : (under : Bool) (at : Position) (ls : Links) → link_operators ls ≡ true → are_implies ls ≡ true → (us : List ExprType) → all_types (link_types names (single at) ls) ≡ Some us
        → links_excess (flat_links names leaf (single at) under ls) ≡ 0
    implied_in_range under at no_links o r us h = refl
    implied_in_range under at (link Implies x ls) o r us h =
        let b = both_true (has_operators x) (link_operators ls) o in
        let k = all_cons (typing names (single at) x).type (link_types names (single at) ls) us h in
        let z = in_range under (single at) x b.0 k.0 k.2 in
        let w = implied_in_range under at ls b.1 r k.1 k.3 in
        omega (arith, z, w)
    implied_in_range under at (link i x ls) o r us h = absurd_bool r

    branches_in_range : (under : Bool) (at : Position) (bs : Branches) → branch_operators bs ≡ true → (more : List (Option ExprType)) (qs : List ExprType) → all_types (condition_types names (single at) bs) ≡ Some qs
        → (us : List ExprType) → all_types (value_types names at bs more) ≡ Some us → branches_excess (flat_branches names leaf at under bs) ≡ 0
    branches_in_range under at no_branches o more qs g us h = refl
    branches_in_range under at (branch c e rest) o more qs g us h =
        let b = both_true (has_operators c) (has_operators e && branch_operators rest) o in
        let d = both_true (has_operators e) (branch_operators rest) b.1 in
        let m = all_cons (typing names (single at) c).type (condition_types names (single at) rest) qs g in
        let k = all_cons (typing names at e).type (value_types names at rest more) us h in
        let x = in_range under (single at) c b.0 m.0 m.2 in
        let y = in_range under at e d.0 k.0 k.2 in
        let z = branches_in_range under at rest d.1 more m.1 m.3 k.1 k.3 in
        omega (arith, x, y, z)

    trees_in_range : (under : Bool) (at : Position) (es : Expressions) → part_operators es ≡ true → (us : List ExprType) → all_types (tree_types names at es) ≡ Some us → trees_excess (flat_trees names leaf at under es) ≡ 0
    trees_in_range under at no_expressions o us h = refl
    trees_in_range under at (expression e es) o us h =
        let b = both_true (has_operators e) (part_operators es) o in
        let k = all_cons (typing names at e).type (tree_types names at es) us h in
        let x = in_range under at e b.0 k.0 k.2 in
        let y = trees_in_range under at es b.1 k.1 k.3 in
        omega (arith, x, y)

-- ---- formulas

module _ (t : List Instance) where
  sound_in_range : (at : Position) (b : FlatTree) (u : ExprType) → IsOfSound t at b u → excess b ≡ 0
  sound_in_range at b u s =
      ap excess s.same ∙ in_range (types_in true t s.instance) (leaf_in t s.instance) (value_in t s.instance) (values_lie t s.instance) false at s.expression s.sound.operators u s.sound.typed

  role_in_range : (r : Role) (b : FlatTree) → IsRole t r b → excess b ≡ 0
  role_in_range (Body k) b h = sound_in_range _ b h.0 h.2
  role_in_range (Assign when k) b h = sound_in_range _ b h.1 h.4
  role_in_range Init b h = sound_in_range _ b _ h
  role_in_range Trans b h = sound_in_range _ b _ h
  role_in_range Invar b h = sound_in_range _ b _ h
  role_in_range Invariant b h = sound_in_range _ b _ h

  forms_in_range : (fs : List Form) → AreRoles t fs → forms_excess fs ≡ 0
  forms_in_range [] h = refl
  forms_in_range (g ∷ fs) h = let x = role_in_range g.role g.body h.0 in let y = forms_in_range fs h.1 in omega (arith, x, y)

pub bodies_in_range : (source : PlainSource) (end : Place) (text : List ℕ) (xs : List Token) → Lexes text xs → SpellsSource source end xs → (needed : ℕ) → IsAccepted source needed → forms_excess (flat_smv source).forms ≡ 0
bodies_in_range source end text xs lexed spelled needed accepted = forms_in_range (instances_of source) (forms_of (instances_of source)) (model_typed source end text xs lexed spelled needed accepted).roles
