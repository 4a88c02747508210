-- Each typed expression's term has the code of its value, and what says whether a value is among those that an expression permits says so.
use Rattle.std.proofs.Common.{◌≡◌, ℕ, ◌+◌, ◌^◌, ◌≤◌, max, Bool, true, false, not, ◌&&◌, ◌||◌, ◌==◌, nat_lt, if◌then◌else◌, ℤ, pos, ◌≤ℤ◌, int_le, List, [], ◌∷◌, ◌++◌, map, length, Option, Some, None, option_map, refl, sym, ap, ◌∙◌, subst, length-append, arith}
use Rattle.std.proofs.Math.Bool.{or-true}
use Rattle.std.proofs.lemmas.Int.{ints}
use Rattle.std.specs.List.{list_all}
use Rattle.text_core.specs.declared.place.Place.{Place}
use Rattle.word_core.specs.Table.{bit_of, signed_value}
use Rattle.word_core.specs.declared.kinds.Binary.{Binary}
use Rattle.word_core.specs.declared.kinds.Binary.TheVariants as OnWords
use Rattle.smv_text.specs.declared.tree.Path.{Path}
use Rattle.smv_text.specs.declared.operators.Infix.{Infix}
use Rattle.smv_text.specs.declared.operators.Infix.TheVariants.{Implies, Member, Union, ShiftLeft, ShiftRight, Divide, Mod}
use Rattle.smv_text.specs.declared.operators.Function.{Function}
use Rattle.smv_text.specs.declared.operators.Function.TheVariants as OfFunction
use Rattle.smv_text.specs.Tree.{Tree as Expression, truth, number, literal, name, prefix, chain, choice, cases, select, call, next, set, range, Links, no_links, link, Branches, no_branches, branch, Trees as Expressions, no_trees as no_expressions, tree as expression}
use Rattle.smv_meaning.specs.declared.value.Value.{Value}
use Rattle.smv_meaning.specs.declared.value.Value.TheVariants.{Truth, Integer, Bits}
use Rattle.smv_meaning.specs.Values.{no_value, is_true, is_between}
use Rattle.smv_meaning.specs.Operators.{word, implied, applied, signed, selected, is_width, called}
use Rattle.smv_meaning.specs.Expressions.{Denotation, alone, joined, is_implies, are_implies, is_from_right, is_last, denote, implications, linked as linked_values, chosen, taken, values_of}
use Rattle.smv_meaning.specs.Types.{ExprType, truth_type, integer_type, is_word_type, type_width, logical_fits, infix_fits, infix_type, divides, is_union, function_fits, arguments_fit, function_type, number_of, numbers_of, divisor_of, implies_fits, first_type}
use Rattle.smv_meaning.specs.Checks.{check, passes, Position, single, under_next, Named, Typing, all_types, on_all, front, are_unions, across, behind, with_sets, typing, link_types, linked, condition_types, value_types, tree_types}
use Rattle.smv_meaning.specs.Typed.{LiesIn, Lies}
use Rattle.smv_meaning.specs.laws.Booleans.{both_true, two_true, absurd_bool}
use Rattle.smv_laws.proofs.OperatorLaws.{infix_lies}
use Rattle.smv_laws.proofs.TypeLaws.{NamesLie, fine, all_cons, divisor_is, number_is, false_true}
use Rattle.smv_items.specs.FlatItems.{Leaf, of_item, of_symbol, of_nothing}
use Rattle.smv_flat.specs.FlatTree.{leaf_tree, flat_tree, flat_links, flat_branches, flat_trees, flat_are_implies}
use Rattle.smv_flat.specs.FlatWidth.{Holds, interval_width, integers_width, node_width, operand_width, arguments_width}
use Rattle.smv_width.specs.SourceWidth.{expression_width, implied_width, fronts_width, branch_width, part_width, front_width as first_part_width, has_operators, link_operators, branch_operators, part_operators}
use Rattle.smv_width.proofs.WidthLaw.{interval_width_is_least}
use Rattle.smv_width.proofs.SourceWidths.{source_node}
use Rattle.moxi_terms.specs.declared.data.Datum.{Datum}
use Rattle.moxi_terms.specs.declared.data.Datum.TheVariants as datum
use Rattle.moxi_terms.specs.declared.data.TermOp.TheVariants as op
use Rattle.moxi_terms.specs.Operators.{truth_of, same, op_value}
use Rattle.moxi_terms.specs.Tree.{Tree, constant, variable, bound, apply, tree}
use Rattle.moxi_terms.specs.Value.{Calls, Values, term_value, term_values}
use Rattle.smv_script.specs.Codes.{integer_bits, integer_word, datum_of}
use Rattle.smv_script.specs.Operators.{integer_term, any_term, sign_op, repeated, infix_op, joins_with, infix_term, front_width, link_term, selected_term, resized_term, function_term, between_term, among_term}
use Rattle.smv_script.specs.Terms.{is_word_in, is_word, width_in, word_width, amount_of, is_name, arguments_of, Translation, value_translation, set_translation, choice_translation, are_flat_unions, all_join_with, Coding, translation, implied_term, folded_term, link_terms, link_members, chosen_translation, taken_translation, terms, members}
use Rattle.smv_script_laws.specs.Kinds.{IsOfKind}
use Rattle.smv_script_laws.specs.Meanings.{Says}
use Rattle.smv_script_laws.proofs.Integers.{signed_back, pick_false}
use Rattle.smv_script_laws.proofs.Rows.{same_codes, is_divided, IsNonzero, implies_row, is_plain, infix_at, kind_same, infix_row, shift_left_row, shift_right_row, sign_row}
use Rattle.smv_script_laws.proofs.Functions.{at_front, AreOfKinds, AreCoded, select_row, bool_row, word1_row, toint_row, extend_one, resize_one, count_row, max_row, min_row, abs_row}
use Rattle.smv_script_laws.proofs.Typings.{branches_typed, call_typed, front_no_union, front_typed, implies_flat, implies_typed, linked_typed, node_typed, or_first, prefix_typed, range_typed, right_no_union, select_typed, set_typed, some_same, type_kept, unions_flat}
use Rattle.smv_script_laws.proofs.Known.{known_applied, known_value}
use Rattle.smv_script_laws.proofs.Parts.{Front, IsAsWide, IsOfAll, LeafIsRepresented, SaysAll, amount_is, any_value, divisor_nonzero, extend_fits, extend_second, held_wider, hull_kind, hull_of_kind, implied_kind, joined_cons, joins_plain, joins_same, joined_end, joined_kept, joined_step, joined_word, known_kind, link_permits, logical_all, number_kept, number_value, permit_list, permits_any, pick_three, resize_fits, resize_second, toint_held, truth_code, unions_permit, wide_kept, wide_of, wide_word}
use Rattle.smv_flat_laws.proofs.FlatTruths.{not_true}
use Rattle.smv_script_laws.proofs.Integers.{pick_true}
use Rattle.smv_script_laws.proofs.Translated.{by_cases, plain_link, plain_sets, plain_width, typed_if, width_if}
use Rattle.text_core.proofs.Truths.{or_false, and_true}
use Rattle.moxi_terms.specs.Applications.{choice_term}

-- ---- operators that aren't `in`, `union` or shifts

plain_joined : (o : Infix) (d e : Denotation) → is_plain o ≡ true → joined o d e ≡ alone (applied o d.value e.value)
plain_joined Member d e h = absurd_bool h
plain_joined Union d e h = absurd_bool h
plain_joined o d e h = refl

plain_no_union : (o : Infix) → is_plain o ≡ true → is_union o ≡ false
plain_no_union Union h = absurd_bool h
plain_no_union o h = refl

pick_code : {X : Type 0} (f : Denotation → X) (b : Bool) (d e : Denotation) → (if b then f d else f e) ≡ f (if b then d else e)
pick_code f true d e = refl
pick_code f false d e = refl

joined_alone : (o : Infix) (d e : Denotation) → is_union o ≡ false → joined o d e ≡ alone (joined o d e).value
joined_alone Union d e h = absurd_bool (sym h)
joined_alone o d e h = refl

linked_alone : (names : Path → Named) (q : Position) → q.sets ≡ false → (p : Place) (a : Typing) (f g : Path → Value) (d : Denotation) (i : Infix) (x : Expression) (ls : Links) (t : ExprType)
    → (linked names q p a (link i x ls)).type ≡ Some t → linked_values f g d (link i x ls) ≡ alone (linked_values f g d (link i x ls)).value
linked_alone names q s p a f g d i x no_links t h =
    let y = front_typed i q p a.type (typing names (behind i q) x).type x t h in
    joined_alone i d (denote f g x) (not_true (is_union i) (or_first (not (is_union i)) q.sets s y.may))
linked_alone names q s p a f g d i x (link j y ls) t h = linked_alone names q s p (front i q p a (typing names (behind i q) x) x) f g (joined i d (denote f g x)) j y ls t h

module _ (c : Coding) (symbols : List (List ℕ)) (some : 1 ≤ c.width) (calls : Calls) (now later : Values) (names : Path → Named) (leaf : Path → Leaf) (g : Path → Value)
    (hg : NamesLie names g) (kg : (x : Path) → LeafIsRepresented c.width symbols c.place later (leaf x) (g x)) where
  value_says : (t : ExprType) (v : Value) (sets : Bool) (term : ℕ → Tree) → IsOfKind c.width symbols t v → ((vals : List Datum) → term_value calls now later vals (term (length vals)) ≡ datum_of c.width symbols v)
      → Says c.width symbols calls now later t (alone v) sets (value_translation term)
  value_says t v sets term k e = record {
    value = λ s vals. e vals;
    kind = λ s. k;
    member = λ vals y w j i.
        ap (λ d. op_value op.Equal (d ∷ term_value calls now later vals (term (length vals)) ∷ [])) i ∙ ap (λ d. op_value op.Equal (datum_of c.width symbols w ∷ d ∷ [])) (e vals)
        ∙ ap datum.Truth (and_true (same (datum_of c.width symbols w) (datum_of c.width symbols v)) ∙ same_codes c.width symbols some t w v j k);
  }

  as_type : (t u : ExprType) (d : Denotation) (sets : Bool) (x : Translation) → t ≡ u → Says c.width symbols calls now later t d sets x → Says c.width symbols calls now later u d sets x
  as_type t u d sets x e s = subst (λ z. Says c.width symbols calls now later z d sets x) e s

  as_denoted : (t : ExprType) (d e : Denotation) (sets : Bool) (x : Translation) → d ≡ e → Says c.width symbols calls now later t d sets x → Says c.width symbols calls now later t e sets x
  as_denoted t d e sets x i s = subst (λ z. Says c.width symbols calls now later t z sets x) i s

  any_says : (t : ExprType) (d : Denotation) (sets : Bool) (x : Translation) → Says c.width symbols calls now later t d false x → Says c.width symbols calls now later t d sets x
  any_says t d sets x s = record { value = λ z. s.value refl; kind = λ z. s.kind refl; member = s.member }

  type_fits : (at : Position) (e : Expression) → expression_width names at e ≤ c.width → (t : ExprType) → (typing names at e).type ≡ Some t → integers_width t ≤ c.width
  type_fits at e l t h = subst (λ o. node_width o ≤ c.width) h (let s : node_width (typing names at e).type ≤ expression_width names at e = source_node names at e in omega (arith, s, l))

  lies_as : (f : Path → Value) → NamesLie names f → (at : Position) → at.sets ≡ false → (e : Expression) (t : ExprType) → (typing names at e).type ≡ Some t → LiesIn t (denote f g e).value
  lies_as f hf at s e t h = subst (λ o. Lies o (denote f g e).value) h ((fine names f g hf hg at e).valued s)

  kinded : (under : Bool) (f : Path → Value) → NamesLie names f → ((x : Path) → LeafIsRepresented c.width symbols c.place (if under then later else now) (leaf x) (f x)) → (at : Position) → at.sets ≡ false → (e : Expression) → expression_width names at e ≤ c.width → (t : ExprType) → (typing names at e).type ≡ Some t → IsOfKind c.width symbols t (denote f g e).value
  kinded under f hf kf at s e l t h =
      known_kind c.width symbols t (denote f g e).value (type_fits at e l t h) (lies_as f hf at s e t h) (known_value symbols f g (λ x. (kf x).1) (λ x. (kg x).1) e)

  leaf_says : (under : Bool) (l : Leaf) (o : Option ExprType) (t : ExprType) (v : Value) (sets : Bool) → LeafIsRepresented c.width symbols c.place (if under then later else now) l v → IsOfKind c.width symbols t v
      → Says c.width symbols calls now later t (alone v) sets (translation c (leaf_tree o under l))
  leaf_says true (of_item i) o t v sets e k = value_says t v sets (λ n. variable (c.place i) true) k (λ vals. e.0)
  leaf_says false (of_item i) o t v sets e k = value_says t v sets (λ n. variable (c.place i) false) k (λ vals. e.0)
  leaf_says under (of_symbol s) o t v sets e k = value_says t v sets (λ n. constant (datum.Constant 0 s)) k (λ vals. e.0)
  leaf_says under of_nothing o t v sets e k = value_says t v sets (λ n. constant (datum.Truth false)) k (λ vals. e.0)

  choice_at : (vals : List Datum) (q a b : Tree) (v : Value) (d e : Datum) → term_value calls now later vals q ≡ datum_of c.width symbols v → term_value calls now later vals a ≡ d → term_value calls now later vals b ≡ e → term_value calls now later vals (choice_term q a b) ≡ (if is_true v then d else e)
  choice_at vals q a b v d e i j k =
      ap (λ x. if truth_of x then term_value calls now later vals a else term_value calls now later vals b) i ∙ ap (λ x. if x then term_value calls now later vals a else term_value calls now later vals b) (truth_code c.width symbols v)
      ∙ ap (λ x. if is_true v then x else term_value calls now later vals b) j ∙ ap (λ x. if is_true v then d else x) k

  choice_says : (us : List ExprType) (u : ExprType) (sets : Bool) (v : Value) (q a b : Translation) (d e : Denotation) → ((vals : List Datum) → term_value calls now later vals (q.term (length vals)) ≡ datum_of c.width symbols v)
      → Says c.width symbols calls now later u d sets a → SaysAll c.width symbols calls now later us e sets b → SaysAll c.width symbols calls now later (u ∷ us) (if is_true v then d else e) sets (choice_translation q a b)
  choice_says us u sets v q a b d e i j k = record {
    value = λ s vals. choice_at vals (q.term (length vals)) (a.term (length vals)) (b.term (length vals)) v _ _ (i vals) (j.value s vals) (k.value s vals) ∙ pick_code (λ x. datum_of c.width symbols x.value) (is_true v) d e;
    member = λ vals y w m n.
        choice_at vals (q.term (length vals)) (a.member (length vals) y) (b.member (length vals) y) v _ _ (i vals) (j.member vals y w m.0 n) (k.member vals y w m.1 n)
        ∙ pick_code (λ x. datum.Truth (x.permits w)) (is_true v) d e;
  }

  alone_all : (u : ExprType) (us : List ExprType) (d : Denotation) (sets : Bool) (x : Translation) → Says c.width symbols calls now later u d sets x → SaysAll c.width symbols calls now later (u ∷ us) d sets x
  alone_all u us d sets x s = record { value = s.value; member = λ vals y v k i. s.member vals y v k.0 i }

  as_types : (us ts : List ExprType) (d : Denotation) (sets : Bool) (x : Translation) → us ≡ ts → SaysAll c.width symbols calls now later us d sets x → SaysAll c.width symbols calls now later ts d sets x
  as_types us ts d sets x e s = subst (λ z. SaysAll c.width symbols calls now later z d sets x) e s

  between_says : (vals : List Datum) (low high : ℤ) (y : Tree) (v : Value) → Holds c.width low → Holds c.width high → IsOfKind c.width symbols (integer_type low high) v → term_value calls now later vals y ≡ datum_of c.width symbols v
      → term_value calls now later vals (between_term c.width low high y) ≡ datum.Truth (is_between low high v)
  between_says vals low high y (Integer z) h k j i =
      ap (λ d. op_value op.And (op_value (op.BvBinary OnWords.Slte) (datum.Bits (integer_word c.width low) ∷ d ∷ []) ∷ op_value (op.BvBinary OnWords.Slte) (d ∷ datum.Bits (integer_word c.width high) ∷ []) ∷ [])) i
      ∙ ap (λ b. datum.Truth (b && ((bit_of (int_le (signed_value c.width (integer_bits c.width z)) (signed_value c.width (integer_bits c.width high))) == 1) && true))) (slte_is low z h j)
      ∙ ap (λ b. datum.Truth (int_le low z && (b && true))) (slte_is z high j k) ∙ ap (λ b. datum.Truth (int_le low z && b)) (and_true (int_le z high))
    where
      bit_is : (b : Bool) → (bit_of b == 1) ≡ b
      bit_is true = refl
      bit_is false = refl

      slte_is : (x w : ℤ) → Holds c.width x → Holds c.width w → (bit_of (int_le (signed_value c.width (integer_bits c.width x)) (signed_value c.width (integer_bits c.width w))) == 1) ≡ int_le x w
      slte_is x w p q =
          bit_is (int_le (signed_value c.width (integer_bits c.width x)) (signed_value c.width (integer_bits c.width w)))
          ∙ ap (λ n. int_le n (signed_value c.width (integer_bits c.width w))) (signed_back c.width x some p) ∙ ap (λ n. int_le x n) (signed_back c.width w some q)
  between_says vals low high y v h k j i = absurd j

  among_value : (vals : List Datum) (named : Bool) (a : Tree) (v : Value) (u : ExprType) (d : Denotation) (sets : Bool) (x : Translation) → Says c.width symbols calls now later u d sets x → IsOfKind c.width symbols u v → term_value calls now later vals a ≡ datum_of c.width symbols v
      → term_value calls now later vals (among_term named (length vals) a x.member) ≡ datum.Truth (d.permits v)
  among_value vals true a v u d sets x s k i = s.member vals a v k i
  among_value vals false a v u d sets x s k i =
      let more = vals ++ term_value calls now later vals a ∷ [] in
      let l : length more ≡ length vals + 1 = length-append vals (term_value calls now later vals a ∷ []) in
      ap (λ n. term_value calls now later more (x.member n (bound (length vals)))) (sym l) ∙ s.member more (bound (length vals)) v k (at_front vals (term_value calls now later vals a) [] ∙ i)

  -- a shift by a number
  shift_value : (o : Infix) (b : Binary) (vals : List Datum) (t : ExprType) (v w : Value) (m amount n : ℕ) (a : Tree)
      → op_value (op.BvBinary b) (datum_of c.width symbols v ∷ datum.Bits (word (type_width t) n) ∷ []) ≡ datum_of c.width symbols (applied o v (Integer (pos n))) → type_width t ≡ m → amount ≡ n → w ≡ Integer (pos n) → term_value calls now later vals a ≡ datum_of c.width symbols v
      → op_value (op.BvBinary b) (term_value calls now later vals a ∷ datum.Bits (word m amount) ∷ []) ≡ datum_of c.width symbols (applied o v w)
  shift_value o b vals t v w m amount n a row e h k i =
      ap (λ d. op_value (op.BvBinary b) (d ∷ datum.Bits (word m amount) ∷ [])) i ∙ ap (λ x. op_value (op.BvBinary b) (datum_of c.width symbols v ∷ datum.Bits (word x amount) ∷ [])) (sym e)
      ∙ ap (λ x. op_value (op.BvBinary b) (datum_of c.width symbols v ∷ datum.Bits (word (type_width t) x) ∷ [])) h ∙ row ∙ ap (λ x. datum_of c.width symbols (applied o v x)) (sym k)

  nonzero_if : (o : Infix) (f h : Path → Value) (e : Expression) → divides o e ≡ true → is_divided o ≡ true → IsNonzero (denote f h e).value
  nonzero_if Divide f h e d b = divisor_nonzero (divisor_of e) (denote f h e).value (divisor_is f h e d)
  nonzero_if Mod f h e d b = divisor_nonzero (divisor_of e) (denote f h e).value (divisor_is f h e d)
  nonzero_if o f h e d b = absurd_bool b

  -- the value of a chain that is no set and isn't read from the right
  chain_kind : (under : Bool) (f : Path → Value) → NamesLie names f → ((x : Path) → LeafIsRepresented c.width symbols c.place (if under then later else now) (leaf x) (f x)) → (at : Position) (p : Place) (e : Expression) (ls : Links) → expression_width names at (chain p e ls) ≤ c.width → (t : ExprType) → (typing names at (chain p e ls)).type ≡ Some t
      → is_from_right ls ≡ false → are_unions ls ≡ false → IsOfKind c.width symbols t (linked_values f g (denote f g e) ls).value
  chain_kind under f hf kf at p e ls l t h r n =
      let q : Position → Bool → Position = λ z u. if u then z else single at in
      let ht : (linked names (across ls at) p (typing names (across ls at) e) ls).type ≡ Some t = (typed_if (is_from_right ls) _ (linked names (across ls at) p (typing names (across ls at) e) ls) t h).1 r in
      let eq : across ls at ≡ across ls (single at) = ap (q at) n ∙ sym (ap (q (single at)) n) in
      let hs : (typing names (single at) (chain p e ls)).type ≡ Some t =
      ap (λ (z : Typing). z.type) (pick_false (is_from_right ls) _ (linked names (across ls (single at)) p (typing names (across ls (single at)) e) ls) r)
      ∙ subst (λ z. (linked names z p (typing names z e) ls).type ≡ Some t) eq ht in
      let same : (denote f g (chain p e ls)).value ≡ (linked_values f g (denote f g e) ls).value = ap (λ (z : Denotation). z.value) (pick_false (is_from_right ls) _ (linked_values f g (denote f g e) ls) r) in
      subst (λ z. IsOfKind c.width symbols t z) same
      (known_kind c.width symbols t (denote f g (chain p e ls)).value (type_fits at (chain p e ls) l t h) (lies_as f hf (single at) refl (chain p e ls) t hs) (known_value symbols f g (λ x. (kf x).1) (λ x. (kg x).1) (chain p e ls)))

  -- what is said of the first argument
  abbrev FirstSays : Bool → (Path → Value) → Expressions → Type 0
  FirstSays under f no_expressions = Unit {0}
  FirstSays under f (expression e es) = ((q : Position) → expression_width names q e ≤ c.width → (t : ExprType) → (typing names q e).type ≡ Some t → Says c.width symbols calls now later t (denote f g e) q.sets (translation c (flat_tree names leaf q under e)))

  first_is : (under : Bool) (f : Path → Value) → NamesLie names f → ((x : Path) → LeafIsRepresented c.width symbols c.place (if under then later else now) (leaf x) (f x)) → (at : Position) (es : Expressions) → part_operators es ≡ true → (us : List ExprType) → all_types (tree_types names (single at) es) ≡ Some us → function_fits OfFunction.Toint us ≡ true
      → (arguments_of (flat_trees names leaf (single at) under es)).width ≡ type_width (first_type us)
  first_is under f hf kf at no_expressions o [] h fits = cc
  first_is under f hf kf at no_expressions o (u ∷ us) h fits = cc
  first_is under f hf kf at (expression e es) o us h fits =
      let m = all_cons (typing names (single at) e).type (tree_types names (single at) es) us h in
      ap width_in (type_kept names leaf (single at) under e (both_true (has_operators e) (part_operators es) o).0 refl m.0 m.2) ∙ ap (λ z. type_width (first_type z)) m.4

  -- ---- chains

  plain_says : (under : Bool) (f : Path → Value) → NamesLie names f → ((x : Path) → LeafIsRepresented c.width symbols c.place (if under then later else now) (leaf x) (f x)) → (q : Position) → q.sets ≡ false → (p : Place) (a : Typing) (ta : ExprType) → a.type ≡ Some ta → (d : Denotation) (i : Infix) → is_plain i ≡ true → (x : Expression) → has_operators x ≡ true → ((q : Position) → expression_width names q x ≤ c.width → (t : ExprType) → (typing names q x).type ≡ Some t → Says c.width symbols calls now later t (denote f g x) q.sets (translation c (flat_tree names leaf q under x)))
      → operand_width i (expression_width names (behind i q) x) ≤ c.width → (tf : ExprType) → (front i q p a (typing names (behind i q) x) x).type ≡ Some tf → integers_width tf ≤ c.width
      → (vals : List Datum) (named : Bool) (m : ℕ) (acc : Tree) → Front c.width symbols calls now later vals ta d.value m acc
      → Front c.width symbols calls now later vals tf (joined i d (denote f g x)).value (front_width i m (word_width (flat_tree names leaf (behind i q) under x)))
      (link_term i (is_word (flat_tree names leaf (behind i q) under x)) m (amount_of (flat_tree names leaf (behind i q) under x)) acc ((translation c (flat_tree names leaf (behind i q) under x)).term (length vals)) (among_term named (length vals) acc (translation c (flat_tree names leaf (behind i q) under x)).member))
  plain_says under f hf kf q s p a ta e d i plain x o hx l tf h k vals named m acc b =
      let r = front_typed i q p a.type (typing names (behind i q) x).type x tf h in
      let same : ta ≡ r.left = some_same ta r.left (sym e ∙ r.left_is) in
      let w = (denote f g x).value in
      let xt = translation c (flat_tree names leaf (behind i q) under x) in
      let free = plain_sets i q plain in
      let j = hx (behind i q) (subst (λ n. n ≤ c.width) (plain_width i (expression_width names (behind i q) x) plain) l) r.right r.right_is in
      let kept = type_kept names leaf (behind i q) under x o free r.right r.right_is in
      let v : IsOfKind c.width symbols r.left d.value = subst (λ z. IsOfKind c.width symbols z d.value) same b.kind in
      let y : LiesIn tf (applied i d.value w) = subst (λ z. LiesIn z (applied i d.value w)) r.whole
      (infix_lies i r.left r.right x d.value w (plain_no_union i plain) r.fits r.divided r.shifted r.joined (divisor_is f g x) (number_is f g x)
      (subst (λ z. LiesIn z d.value) same b.lies) (lies_as f hf (behind i q) free x r.right r.right_is)) in
      let meant : (joined i d (denote f g x)).value ≡ applied i d.value w = ap (λ (z : Denotation). z.value) (plain_joined i d (denote f g x) plain) in
      record {
        value = ap (term_value calls now later vals) (plain_link i (is_word (flat_tree names leaf (behind i q) under x)) m (amount_of (flat_tree names leaf (behind i q) under x)) acc (xt.term (length vals)) (among_term named (length vals) acc xt.member) plain)
            ∙ ap (λ z. term_value calls now later vals (infix_term i z acc (xt.term (length vals)))) (ap is_word_in kept)
            ∙ infix_at c.width symbols some calls now later vals i (is_word_type r.right) acc (xt.term (length vals))
            ∙ ap (λ z. term_value calls now later vals (infix_term i (is_word_type r.right) (constant z) (constant (term_value calls now later vals (xt.term (length vals)))))) b.value
            ∙ ap (λ z. term_value calls now later vals (infix_term i (is_word_type r.right) (constant (datum_of c.width symbols d.value)) (constant z))) (j.value free vals)
            ∙ infix_row c.width symbols some calls now later vals i r.left r.right d.value w plain r.fits r.joined (nonzero_if i f g x r.divided) v (j.kind free)
            ∙ ap (datum_of c.width symbols) (sym meant);
        lies = subst (λ z. LiesIn tf z) (sym meant) y;
        kind = subst (λ z. IsOfKind c.width symbols tf z) (sym meant) (known_kind c.width symbols tf (applied i d.value w) k y (known_applied symbols i d.value w));
        wide = subst (λ z. IsAsWide z (front_width i m (word_width (flat_tree names leaf (behind i q) under x)))) r.whole
            (subst (λ z. IsAsWide (infix_type i r.left r.right x) (front_width i m z)) (sym (ap width_in kept)) (wide_kept i r.left r.right x m r.fits (subst (λ z. IsAsWide z m) same b.wide)));
      }

  front_says : (under : Bool) (f : Path → Value) → NamesLie names f → ((x : Path) → LeafIsRepresented c.width symbols c.place (if under then later else now) (leaf x) (f x)) → (q : Position) → q.sets ≡ false → (p : Place) (a : Typing) (ta : ExprType) → a.type ≡ Some ta → (d : Denotation) (i : Infix) (x : Expression) → has_operators x ≡ true → ((q : Position) → expression_width names q x ≤ c.width → (t : ExprType) → (typing names q x).type ≡ Some t → Says c.width symbols calls now later t (denote f g x) q.sets (translation c (flat_tree names leaf q under x)))
      → operand_width i (expression_width names (behind i q) x) ≤ c.width → (tf : ExprType) → (front i q p a (typing names (behind i q) x) x).type ≡ Some tf → integers_width tf ≤ c.width
      → (vals : List Datum) (named : Bool) (m : ℕ) (acc : Tree) → Front c.width symbols calls now later vals ta d.value m acc
      → Front c.width symbols calls now later vals tf (joined i d (denote f g x)).value (front_width i m (word_width (flat_tree names leaf (behind i q) under x)))
      (link_term i (is_word (flat_tree names leaf (behind i q) under x)) m (amount_of (flat_tree names leaf (behind i q) under x)) acc ((translation c (flat_tree names leaf (behind i q) under x)).term (length vals)) (among_term named (length vals) acc (translation c (flat_tree names leaf (behind i q) under x)).member))
  front_says under f hf kf q s p a ta e d Member x o hx l tf h k vals named m acc b =
      let r = front_typed Member q p a.type (typing names (with_sets q) x).type x tf h in
      let same : ta ≡ r.left = some_same ta r.left (sym e ∙ r.left_is) in
      let v : IsOfKind c.width symbols r.right d.value = kind_same c.width symbols some calls now later vals r.left r.right d.value r.fits (subst (λ z. IsOfKind c.width symbols z d.value) same b.kind) in
      let i = hx (with_sets q) l r.right r.right_is in
      record {
        value = among_value vals named acc d.value r.right (denote f g x) true (translation c (flat_tree names leaf (with_sets q) under x)) i v b.value;
        lies = subst (λ z. LiesIn z (Truth ((denote f g x).permits d.value))) r.whole tt;
        kind = subst (λ z. IsOfKind c.width symbols z (Truth ((denote f g x).permits d.value))) r.whole tt;
        wide = subst (λ z. IsAsWide z m) r.whole tt;
      }
  front_says under f hf kf q s p a ta e d Union x o hx l tf h k vals named m acc b =
      let r = front_typed Union q p a.type (typing names q x).type x tf h in false_true q.sets s r.may
  front_says under f hf kf q s p a ta e d ShiftLeft x o hx l tf h k vals named m acc b =
      let r = front_typed ShiftLeft q p a.type (typing names (single q) x).type x tf h in
      let same : ta ≡ r.left = some_same ta r.left (sym e ∙ r.left_is) in
      let n = amount_is (number_of x) r.left r.shifted in
      let i : IsOfKind c.width symbols r.left d.value = subst (λ z. IsOfKind c.width symbols z d.value) same b.kind in
      let j : IsAsWide r.left m = subst (λ z. IsAsWide z m) same b.wide in
      let y : LiesIn tf (applied ShiftLeft d.value (denote f g x).value) = subst (λ z. LiesIn z (applied ShiftLeft d.value (denote f g x).value)) r.whole
      (infix_lies ShiftLeft r.left r.right x d.value (denote f g x).value refl r.fits r.divided r.shifted r.joined (divisor_is f g x) (number_is f g x)
      (subst (λ z. LiesIn z d.value) same b.lies) (lies_as f hf (single q) refl x r.right r.right_is)) in
      record {
        value = shift_value ShiftLeft OnWords.Sll vals r.left d.value (denote f g x).value m (amount_of (flat_tree names leaf (single q) under x)) n.0 acc (shift_left_row c.width symbols some calls now later vals r.left d.value n.0 r.fits n.2 i)
            (wide_word r.left m r.fits j) (number_kept names leaf (single q) under x n.0 n.1) (number_value f g x n.0 n.1) b.value;
        lies = y;
        kind = known_kind c.width symbols tf (applied ShiftLeft d.value (denote f g x).value) k y (known_applied symbols ShiftLeft d.value (denote f g x).value);
        wide = subst (λ z. IsAsWide z m) r.whole j;
      }
  front_says under f hf kf q s p a ta e d ShiftRight x o hx l tf h k vals named m acc b =
      let r = front_typed ShiftRight q p a.type (typing names (single q) x).type x tf h in
      let same : ta ≡ r.left = some_same ta r.left (sym e ∙ r.left_is) in
      let n = amount_is (number_of x) r.left r.shifted in
      let i : IsOfKind c.width symbols r.left d.value = subst (λ z. IsOfKind c.width symbols z d.value) same b.kind in
      let j : IsAsWide r.left m = subst (λ z. IsAsWide z m) same b.wide in
      let y : LiesIn tf (applied ShiftRight d.value (denote f g x).value) = subst (λ z. LiesIn z (applied ShiftRight d.value (denote f g x).value)) r.whole
      (infix_lies ShiftRight r.left r.right x d.value (denote f g x).value refl r.fits r.divided r.shifted r.joined (divisor_is f g x) (number_is f g x)
      (subst (λ z. LiesIn z d.value) same b.lies) (lies_as f hf (single q) refl x r.right r.right_is)) in
      record {
        value = shift_value ShiftRight OnWords.Srl vals r.left d.value (denote f g x).value m (amount_of (flat_tree names leaf (single q) under x)) n.0 acc (shift_right_row c.width symbols some calls now later vals r.left d.value n.0 r.fits n.2 i)
            (wide_word r.left m r.fits j) (number_kept names leaf (single q) under x n.0 n.1) (number_value f g x n.0 n.1) b.value;
        lies = y;
        kind = known_kind c.width symbols tf (applied ShiftRight d.value (denote f g x).value) k y (known_applied symbols ShiftRight d.value (denote f g x).value);
        wide = subst (λ z. IsAsWide z m) r.whole j;
      }
  front_says under f hf kf q s p a ta e d i x o hx l tf h k vals named m acc b = plain_says under f hf kf q s p a ta e d i refl x o hx l tf h k vals named m acc b

  left_says : (under : Bool) (f : Path → Value) → NamesLie names f → ((x : Path) → LeafIsRepresented c.width symbols c.place (if under then later else now) (leaf x) (f x)) → (at q : Position) → q.sets ≡ false → (p : Place) (e : Expression) (i : Infix) (x : Expression) (ls : Links) → has_operators e ≡ true → has_operators x ≡ true → ((q : Position) → expression_width names q e ≤ c.width → (t : ExprType) → (typing names q e).type ≡ Some t → Says c.width symbols calls now later t (denote f g e) q.sets (translation c (flat_tree names leaf q under e))) → ((q : Position) → expression_width names q x ≤ c.width → (t : ExprType) → (typing names q x).type ≡ Some t → Says c.width symbols calls now later t (denote f g x) q.sets (translation c (flat_tree names leaf q under x))) → ((q : Position) → q.sets ≡ false → (p : Place) (a : Typing) (ta : ExprType) → a.type ≡ Some ta → (d : Denotation) → fronts_width names q p a ls ≤ c.width → (t : ExprType) → (linked names q p a ls).type ≡ Some t → (vals : List Datum) (m : ℕ) (acc : Tree) → Front c.width symbols calls now later vals ta d.value m acc → term_value calls now later vals (folded_term c (length vals) m acc (flat_links names leaf q under ls)) ≡ datum_of c.width symbols (linked_values f g d ls).value)
      → expression_width names q e ≤ c.width → fronts_width names q p (typing names q e) (link i x ls) ≤ c.width → (t : ExprType) → (linked names q p (typing names q e) (link i x ls)).type ≡ Some t
      → (vals : List Datum)
      → term_value calls now later vals (folded_term c (length vals) (front_width i (word_width (flat_tree names leaf q under e)) (word_width (flat_tree names leaf (behind i q) under x)))
      (link_term i (is_word (flat_tree names leaf (behind i q) under x)) (word_width (flat_tree names leaf q under e)) (amount_of (flat_tree names leaf (behind i q) under x)) ((translation c (flat_tree names leaf q under e)).term (length vals)) ((translation c (flat_tree names leaf (behind i q) under x)).term (length vals))
      (among_term (is_name (flat_tree names leaf q under e)) (length vals) ((translation c (flat_tree names leaf q under e)).term (length vals)) (translation c (flat_tree names leaf (behind i q) under x)).member)) (flat_links names leaf q under ls)) ≡ datum_of c.width symbols (linked_values f g (denote f g e) (link i x ls)).value
  left_says under f hf kf at q s p e i x ls oe ox he hx fold we wl t h vals =
      let a = typing names q e in
      let fr = front i q p a (typing names (behind i q) x) x in
      let r = linked_typed names q p fr ls t h in
      let y = front_typed i q p a.type (typing names (behind i q) x).type x r.0 r.1 in
      let z = he q we y.left y.left_is in
      let fits : integers_width r.0 ≤ c.width = subst (λ z. node_width z ≤ c.width) r.1 (omega (arith, wl)) in
      let b : Front c.width symbols calls now later vals y.left (denote f g e).value (word_width (flat_tree names leaf q under e)) ((translation c (flat_tree names leaf q under e)).term (length vals)) = record {
        value = z.value s vals;
        lies = lies_as f hf q s e y.left y.left_is;
        kind = z.kind s;
        wide = subst (λ m. IsAsWide y.left m) (sym (ap width_in (type_kept names leaf q under e oe s y.left y.left_is))) (wide_of y.left);
      } in
      fold q s p fr r.0 r.1 (joined i (denote f g e) (denote f g x)) (omega (arith, wl)) t h vals (front_width i (word_width (flat_tree names leaf q under e)) (word_width (flat_tree names leaf (behind i q) under x))) _
      (front_says under f hf kf q s p a y.left y.left_is (denote f g e) i x ox hx (omega (arith, wl)) r.0 r.1 fits vals (is_name (flat_tree names leaf q under e)) (word_width (flat_tree names leaf q under e)) ((translation c (flat_tree names leaf q under e)).term (length vals)) b)

  one_sign_says : (under : Bool) (f : Path → Value) → NamesLie names f → ((x : Path) → LeafIsRepresented c.width symbols c.place (if under then later else now) (leaf x) (f x)) → (at q : Position) → q.sets ≡ false → (p : Place) (e : Expression) (i : Infix) (x : Expression) (ls : Links) → has_operators e ≡ true → has_operators x ≡ true → ((q : Position) → expression_width names q e ≤ c.width → (t : ExprType) → (typing names q e).type ≡ Some t → Says c.width symbols calls now later t (denote f g e) q.sets (translation c (flat_tree names leaf q under e))) → ((q : Position) → q.sets ≡ false → (p : Place) (a : Typing) (ta : ExprType) → a.type ≡ Some ta → (d : Denotation) (j : Infix) → joins_with j j ≡ true → fronts_width names q p a (link i x ls) ≤ c.width → (t : ExprType) → (linked names q p a (link i x ls)).type ≡ Some t → all_join_with j (flat_links names leaf q under (link i x ls)) ≡ true → (us : ExprType) → infix_fits j ta us ≡ true → LiesIn ta d.value → IsOfKind c.width symbols ta d.value → (vals : List Datum) → op_value (infix_op j (is_word_type ta)) (datum_of c.width symbols d.value ∷ term_values calls now later vals (link_terms c (length vals) (flat_links names leaf q under (link i x ls)))) ≡ datum_of c.width symbols (linked_values f g d (link i x ls)).value)
      → expression_width names q e ≤ c.width → fronts_width names q p (typing names q e) (link i x ls) ≤ c.width → (t : ExprType) → (linked names q p (typing names q e) (link i x ls)).type ≡ Some t
      → joins_with i i ≡ true → all_join_with i (flat_links names leaf q under ls) ≡ true → (vals : List Datum)
      → term_value calls now later vals (apply (infix_op i (is_word (flat_tree names leaf (behind i q) under x))) (tree ((translation c (flat_tree names leaf q under e)).term (length vals)) (tree ((translation c (flat_tree names leaf (behind i q) under x)).term (length vals)) (link_terms c (length vals) (flat_links names leaf q under ls)))))
      ≡ datum_of c.width symbols (linked_values f g (denote f g e) (link i x ls)).value
  one_sign_says under f hf kf at q s p e i x ls oe ox he one_sign we wl t h j n vals =
      let a = typing names q e in
      let fr = front i q p a (typing names (behind i q) x) x in
      let r = linked_typed names q p fr ls t h in
      let y = front_typed i q p a.type (typing names (behind i q) x).type x r.0 r.1 in
      let z = he q we y.left y.left_is in
      let free = plain_sets i q (joins_plain i j).0 in
      let ds = term_values calls now later vals (link_terms c (length vals) (flat_links names leaf q under (link i x ls))) in
      ap (λ m. op_value (infix_op i m) (term_value calls now later vals ((translation c (flat_tree names leaf q under e)).term (length vals)) ∷ ds)) (ap is_word_in (type_kept names leaf (behind i q) under x ox free y.right y.right_is) ∙ joined_word i y.left y.right j y.fits)
      ∙ ap (λ m. op_value (infix_op i (is_word_type y.left)) (m ∷ ds)) (z.value s vals)
      ∙ one_sign q s p a y.left y.left_is (denote f g e) i j wl t h (two_true (joins_with i i) (all_join_with i (flat_links names leaf q under ls)) j n)
      y.right y.fits (lies_as f hf q s e y.left y.left_is) (z.kind s) vals

  -- a set of operands
  union_says : (under : Bool) (f : Path → Value) → NamesLie names f → ((x : Path) → LeafIsRepresented c.width symbols c.place (if under then later else now) (leaf x) (f x)) → (at : Position) (p : Place) (e : Expression) (i : Infix) (x : Expression) (ls : Links) → ((q : Position) → expression_width names q e ≤ c.width → (t : ExprType) → (typing names q e).type ≡ Some t → Says c.width symbols calls now later t (denote f g e) q.sets (translation c (flat_tree names leaf q under e))) → ((q : Position) (p : Place) (a : Typing) (ta : ExprType) → a.type ≡ Some ta → fronts_width names q p a (link i x ls) ≤ c.width → are_unions (link i x ls) ≡ true → (t : ExprType) → (linked names q p a (link i x ls)).type ≡ Some t → (vals : List Datum) (y : Tree) (v : Value) → IsOfKind c.width symbols t v → term_value calls now later vals y ≡ datum_of c.width symbols v → IsOfKind c.width symbols ta v × (term_values calls now later vals (link_members c (length vals) y (flat_links names leaf q under (link i x ls))) ≡ map (λ b. datum.Truth b) (link_permits f g (link i x ls) v)))
      → expression_width names at e ≤ c.width → fronts_width names at p (typing names at e) (link i x ls) ≤ c.width → (t : ExprType) → (linked names at p (typing names at e) (link i x ls)).type ≡ Some t
      → are_unions (link i x ls) ≡ true
      → Says c.width symbols calls now later t (linked_values f g (denote f g e) (link i x ls)) at.sets (set_translation (λ k y. any_term (tree ((translation c (flat_tree names leaf at under e)).member k y) (tree ((translation c (flat_tree names leaf (behind i at) under x)).member k y) (link_members c k y (flat_links names leaf at under ls))))))
  union_says under f hf kf at p e i x ls he unions we wl t h n =
      let r = linked_typed names at p (typing names at e) (link i x ls) t h in
      let no : at.sets ≡ false → false ≡ true = λ s. sym (front_no_union names at p (typing names at e) (link i x ls) t refl s h) ∙ n in
      record {
        value = λ s. absurd_bool (no s);
        kind = λ s. absurd_bool (no s);
        member = λ vals y v k j.
            let m = unions at p (typing names at e) r.0 r.1 wl n t h vals y v k j in
            any_value calls now later vals (tree ((translation c (flat_tree names leaf at under e)).member (length vals) y) (link_members c (length vals) y (flat_links names leaf at under (link i x ls)))) ((denote f g e).permits v ∷ link_permits f g (link i x ls) v)
            (joined_cons _ _ _ _ ((he at we r.0 r.1).member vals y v m.0 j) m.1)
            ∙ ap datum.Truth (sym (unions_permit f g (denote f g e) (link i x ls) v n));
      }

  -- a chain of `->`
  right_says : (under : Bool) (f : Path → Value) → NamesLie names f → ((x : Path) → LeafIsRepresented c.width symbols c.place (if under then later else now) (leaf x) (f x)) → (at : Position) (p : Place) (e : Expression) (i : Infix) (x : Expression) (ls : Links) → ((q : Position) → expression_width names q e ≤ c.width → (t : ExprType) → (typing names q e).type ≡ Some t → Says c.width symbols calls now later t (denote f g e) q.sets (translation c (flat_tree names leaf q under e))) → ((at : Position) (u : ExprType) (us : List ExprType) (v : Value) → implied_width names (single at) (link i x ls) ≤ c.width → all_types (link_types names (single at) (link i x ls)) ≡ Some us → list_all (logical_fits u) us ≡ true → are_implies (link i x ls) ≡ true → IsOfKind c.width symbols u v → (vals : List Datum) (a : Tree) → term_value calls now later vals a ≡ datum_of c.width symbols v → (term_value calls now later vals (implied_term c (length vals) a (flat_links names leaf (single at) under (link i x ls))) ≡ datum_of c.width symbols (implications f g v (link i x ls))) × IsOfKind c.width symbols u (implications f g v (link i x ls)))
      → max (expression_width names (single at) e) (implied_width names (single at) (link i x ls)) ≤ c.width → (t : ExprType)
      → (if passes (check 16 p (on_all (all_types ((typing names (single at) e).type ∷ link_types names (single at) (link i x ls))) implies_fits) ∷ []) then option_map first_type (all_types ((typing names (single at) e).type ∷ link_types names (single at) (link i x ls))) else None) ≡ Some t
      → is_from_right (link i x ls) ≡ true
      → ((vals : List Datum) → term_value calls now later vals (implied_term c (length vals) ((translation c (flat_tree names leaf (single at) under e)).term (length vals)) (flat_links names leaf (single at) under (link i x ls))) ≡ datum_of c.width symbols (implications f g (denote f g e).value (link i x ls)))
      × IsOfKind c.width symbols t (implications f g (denote f g e).value (link i x ls))
  right_says under f hf kf at p e i x ls he implied w t h r =
      let s = implies_typed p (all_types ((typing names (single at) e).type ∷ link_types names (single at) (link i x ls))) t h in
      let k = all_cons (typing names (single at) e).type (link_types names (single at) (link i x ls)) (s.0 ∷ s.1) s.2 in
      let fits : list_all (logical_fits k.0) k.1 ≡ true = subst (λ xs. implies_fits xs ≡ true) (sym k.4) s.3 in
      let same : k.0 ≡ t = ap first_type k.4 ∙ s.4 in
      let z = he (single at) (omega (arith, w)) k.0 k.2 in
      let v = (denote f g e).value in (
        (λ vals. (implied at k.0 k.1 v (omega (arith, w)) k.3 fits r (z.kind refl) vals ((translation c (flat_tree names leaf (single at) under e)).term (length vals)) (z.value refl vals)).0),
        subst (λ u. IsOfKind c.width symbols u (implications f g v (link i x ls))) same
            (implied at k.0 k.1 v (omega (arith, w)) k.3 fits r (z.kind refl) [] ((translation c (flat_tree names leaf (single at) under e)).term 0) (z.value refl [])).1,
      )

  chain_says : (under : Bool) (f : Path → Value) → NamesLie names f → ((x : Path) → LeafIsRepresented c.width symbols c.place (if under then later else now) (leaf x) (f x)) → (at : Position) (p : Place) (e : Expression) (i : Infix) (x : Expression) (ls : Links) → has_operators (chain p e (link i x ls)) ≡ true → ((q : Position) → expression_width names q e ≤ c.width → (t : ExprType) → (typing names q e).type ≡ Some t → Says c.width symbols calls now later t (denote f g e) q.sets (translation c (flat_tree names leaf q under e))) → ((q : Position) → expression_width names q x ≤ c.width → (t : ExprType) → (typing names q x).type ≡ Some t → Says c.width symbols calls now later t (denote f g x) q.sets (translation c (flat_tree names leaf q under x))) → ((q : Position) → q.sets ≡ false → (p : Place) (a : Typing) (ta : ExprType) → a.type ≡ Some ta → (d : Denotation) → fronts_width names q p a ls ≤ c.width → (t : ExprType) → (linked names q p a ls).type ≡ Some t → (vals : List Datum) (m : ℕ) (acc : Tree) → Front c.width symbols calls now later vals ta d.value m acc → term_value calls now later vals (folded_term c (length vals) m acc (flat_links names leaf q under ls)) ≡ datum_of c.width symbols (linked_values f g d ls).value) → ((q : Position) → q.sets ≡ false → (p : Place) (a : Typing) (ta : ExprType) → a.type ≡ Some ta → (d : Denotation) (j : Infix) → joins_with j j ≡ true → fronts_width names q p a (link i x ls) ≤ c.width → (t : ExprType) → (linked names q p a (link i x ls)).type ≡ Some t → all_join_with j (flat_links names leaf q under (link i x ls)) ≡ true → (us : ExprType) → infix_fits j ta us ≡ true → LiesIn ta d.value → IsOfKind c.width symbols ta d.value → (vals : List Datum) → op_value (infix_op j (is_word_type ta)) (datum_of c.width symbols d.value ∷ term_values calls now later vals (link_terms c (length vals) (flat_links names leaf q under (link i x ls)))) ≡ datum_of c.width symbols (linked_values f g d (link i x ls)).value) → ((q : Position) (p : Place) (a : Typing) (ta : ExprType) → a.type ≡ Some ta → fronts_width names q p a (link i x ls) ≤ c.width → are_unions (link i x ls) ≡ true → (t : ExprType) → (linked names q p a (link i x ls)).type ≡ Some t → (vals : List Datum) (y : Tree) (v : Value) → IsOfKind c.width symbols t v → term_value calls now later vals y ≡ datum_of c.width symbols v → IsOfKind c.width symbols ta v × (term_values calls now later vals (link_members c (length vals) y (flat_links names leaf q under (link i x ls))) ≡ map (λ b. datum.Truth b) (link_permits f g (link i x ls) v))) → ((at : Position) (u : ExprType) (us : List ExprType) (v : Value) → implied_width names (single at) (link i x ls) ≤ c.width → all_types (link_types names (single at) (link i x ls)) ≡ Some us → list_all (logical_fits u) us ≡ true → are_implies (link i x ls) ≡ true → IsOfKind c.width symbols u v → (vals : List Datum) (a : Tree) → term_value calls now later vals a ≡ datum_of c.width symbols v → (term_value calls now later vals (implied_term c (length vals) a (flat_links names leaf (single at) under (link i x ls))) ≡ datum_of c.width symbols (implications f g v (link i x ls))) × IsOfKind c.width symbols u (implications f g v (link i x ls))) → expression_width names at (chain p e (link i x ls)) ≤ c.width
      → (t : ExprType) → (typing names at (chain p e (link i x ls))).type ≡ Some t → Says c.width symbols calls now later t (denote f g (chain p e (link i x ls))) at.sets (translation c (flat_tree names leaf at under (chain p e (link i x ls))))
  chain_says under f hf kf at p e i x ls o he hx fold one_sign unions implied l t h = by_cases (is_from_right (link i x ls))
      (λ r.
      let b = both_true (has_operators e) (link_operators (link i x ls)) o in
      let nu : are_unions (link i x ls) ≡ false = right_no_union (link i x ls) r in
      let eq : single at ≡ (across (link i x ls) at) = sym (ap (λ u. if u then at else single at) nu) in
      let w = (width_if (is_from_right (link i x ls)) (max (expression_width names (single at) e) (implied_width names (single at) (link i x ls))) (max (expression_width names (across (link i x ls) at) e) (fronts_width names (across (link i x ls) at) p (typing names (across (link i x ls) at) e) (link i x ls))) (node_width (typing names at (chain p e (link i x ls))).type) c.width l).0 r in
      let z = right_says under f hf kf at p e i x ls he implied w t ((typed_if (is_from_right (link i x ls)) _ (linked names (across (link i x ls) at) p (typing names (across (link i x ls) at) e) (link i x ls)) t h).0 r) r in
      let v = implications f g (denote f g e).value (link i x ls) in
      as_denoted t (alone v) (denote f g (chain p e (link i x ls))) at.sets _ (sym (pick_true (is_from_right (link i x ls)) (alone v) (linked_values f g (denote f g e) (link i x ls)) r))
      (pick_three (λ y. Says c.width symbols calls now later t (alone v) at.sets y) (is_union i && are_flat_unions (flat_links names leaf (across (link i x ls) at) under ls)) (is_implies i && flat_are_implies (flat_links names leaf (across (link i x ls) at) under ls)) (joins_with i i && all_join_with i (flat_links names leaf (across (link i x ls) at) under ls)) _ _ _ _
      (λ u. absurd_bool (sym nu ∙ sym (ap (λ y. is_union i && y) (unions_flat names leaf (across (link i x ls) at) under ls)) ∙ u))
      (λ u y. value_says t v at.sets (λ n. infix_term Implies (is_word (flat_tree names leaf (behind i (across (link i x ls) at)) under x)) ((translation c (flat_tree names leaf (across (link i x ls) at) under e)).term n) (implied_term c n ((translation c (flat_tree names leaf (behind i (across (link i x ls) at)) under x)).term n) (flat_links names leaf (across (link i x ls) at) under ls))) z.1
      (λ vals. subst (λ q. term_value calls now later vals (implied_term c (length vals) ((translation c (flat_tree names leaf q under e)).term (length vals)) (flat_links names leaf q under (link i x ls))) ≡ datum_of c.width symbols v) eq (z.0 vals)))
      (λ u y j. absurd_bool (sym y ∙ ap (λ y. is_implies i && y) (implies_flat names leaf (across (link i x ls) at) under ls) ∙ r))
      (λ u y j. absurd_bool (sym y ∙ ap (λ y. is_implies i && y) (implies_flat names leaf (across (link i x ls) at) under ls) ∙ r))))
      (λ r.
      let b = both_true (has_operators e) (link_operators (link i x ls)) o in
      let b' = both_true (has_operators x) (link_operators ls) b.1 in
      let w = (width_if (is_from_right (link i x ls)) (max (expression_width names (single at) e) (implied_width names (single at) (link i x ls))) (max (expression_width names (across (link i x ls) at) e) (fronts_width names (across (link i x ls) at) p (typing names (across (link i x ls) at) e) (link i x ls))) (node_width (typing names at (chain p e (link i x ls))).type) c.width l).1 r in
      let ht : (linked names (across (link i x ls) at) p (typing names (across (link i x ls) at) e) (link i x ls)).type ≡ Some t = (typed_if (is_from_right (link i x ls)) _ (linked names (across (link i x ls) at) p (typing names (across (link i x ls) at) e) (link i x ls)) t h).1 r in
      let d = linked_values f g (denote f g e) (link i x ls) in
      let meant : d ≡ denote f g (chain p e (link i x ls)) = sym (pick_false (is_from_right (link i x ls)) _ d r) in
      let we : expression_width names (across (link i x ls) at) e ≤ c.width = omega (arith, w) in
      let wl : fronts_width names (across (link i x ls) at) p (typing names (across (link i x ls) at) e) (link i x ls) ≤ c.width = omega (arith, w) in
      as_denoted t d (denote f g (chain p e (link i x ls))) at.sets _ meant
      (pick_three (λ y. Says c.width symbols calls now later t d at.sets y) (is_union i && are_flat_unions (flat_links names leaf (across (link i x ls) at) under ls)) (is_implies i && flat_are_implies (flat_links names leaf (across (link i x ls) at) under ls)) (joins_with i i && all_join_with i (flat_links names leaf (across (link i x ls) at) under ls)) _ _ _ _
      (λ u.
      let us : are_unions (link i x ls) ≡ true = sym (ap (λ y. is_union i && y) (unions_flat names leaf (across (link i x ls) at) under ls)) ∙ u in
      subst (λ y. Says c.width symbols calls now later t d y.sets (set_translation (λ k y. any_term (tree ((translation c (flat_tree names leaf (across (link i x ls) at) under e)).member k y) (tree ((translation c (flat_tree names leaf (behind i (across (link i x ls) at)) under x)).member k y) (link_members c k y (flat_links names leaf (across (link i x ls) at) under ls))))))) (ap (λ y. if y then at else single at) us)
      (union_says under f hf kf (across (link i x ls) at) p e i x ls he unions we wl t ht us))
      (λ u y. absurd_bool (sym r ∙ sym (ap (λ y. is_implies i && y) (implies_flat names leaf (across (link i x ls) at) under ls)) ∙ y))
      (λ u y j.
      let nu : are_unions (link i x ls) ≡ false = sym (ap (λ y. is_union i && y) (unions_flat names leaf (across (link i x ls) at) under ls)) ∙ u in
      let s : (across (link i x ls) at).sets ≡ false = ap (λ (y : Bool). (if y then at else single at).sets) nu in
      let js = both_true (joins_with i i) (all_join_with i (flat_links names leaf (across (link i x ls) at) under ls)) j in
      as_denoted t (alone d.value) d at.sets _ (sym (linked_alone names (across (link i x ls) at) s p (typing names (across (link i x ls) at) e) f g (denote f g e) i x ls t ht))
      (value_says t d.value at.sets (λ n. apply (infix_op i (is_word (flat_tree names leaf (behind i (across (link i x ls) at)) under x))) (tree ((translation c (flat_tree names leaf (across (link i x ls) at) under e)).term n) (tree ((translation c (flat_tree names leaf (behind i (across (link i x ls) at)) under x)).term n) (link_terms c n (flat_links names leaf (across (link i x ls) at) under ls))))) (chain_kind under f hf kf at p e (link i x ls) l t h r nu)
      (λ vals. one_sign_says under f hf kf at (across (link i x ls) at) s p e i x ls b.0 b'.0 he one_sign we wl t ht js.0 js.1 vals)))
      (λ u y j.
      let nu : are_unions (link i x ls) ≡ false = sym (ap (λ y. is_union i && y) (unions_flat names leaf (across (link i x ls) at) under ls)) ∙ u in
      let s : (across (link i x ls) at).sets ≡ false = ap (λ (y : Bool). (if y then at else single at).sets) nu in
      as_denoted t (alone d.value) d at.sets _ (sym (linked_alone names (across (link i x ls) at) s p (typing names (across (link i x ls) at) e) f g (denote f g e) i x ls t ht))
      (value_says t d.value at.sets (λ n. folded_term c n (front_width i (word_width (flat_tree names leaf (across (link i x ls) at) under e)) (word_width (flat_tree names leaf (behind i (across (link i x ls) at)) under x))) (link_term i (is_word (flat_tree names leaf (behind i (across (link i x ls) at)) under x)) (word_width (flat_tree names leaf (across (link i x ls) at) under e)) (amount_of (flat_tree names leaf (behind i (across (link i x ls) at)) under x)) ((translation c (flat_tree names leaf (across (link i x ls) at) under e)).term n) ((translation c (flat_tree names leaf (behind i (across (link i x ls) at)) under x)).term n)
      (among_term (is_name (flat_tree names leaf (across (link i x ls) at) under e)) n ((translation c (flat_tree names leaf (across (link i x ls) at) under e)).term n) (translation c (flat_tree names leaf (behind i (across (link i x ls) at)) under x)).member)) (flat_links names leaf (across (link i x ls) at) under ls)) (chain_kind under f hf kf at p e (link i x ls) l t h r nu)
      (λ vals. left_says under f hf kf at (across (link i x ls) at) s p e i x ls b.0 b'.0 he hx fold we wl t ht vals)))))

  call_says : (under : Bool) (f : Path → Value) → NamesLie names f → ((x : Path) → LeafIsRepresented c.width symbols c.place (if under then later else now) (leaf x) (f x)) → (at : Position) (fn : Function) (es : Expressions) → part_operators es ≡ true → FirstSays under f es
      → arguments_width fn (first_part_width names (single at) es) (part_width names (single at) es) ≤ c.width → (us : List ExprType) → all_types (tree_types names (single at) es) ≡ Some us → ((vals : List Datum) → part_width names (single at) es ≤ c.width → AreOfKinds c.width symbols us (values_of f g es) × AreCoded (term_value calls now later vals) (datum_of c.width symbols) (terms c (length vals) (flat_trees names leaf (single at) under es)) (values_of f g es))
      → function_fits fn us ≡ true → arguments_fit fn us (numbers_of es) ≡ true → integers_width (function_type fn us (numbers_of es)) ≤ c.width → (vals : List Datum)
      → term_value calls now later vals (function_term c.width (length vals) fn (arguments_of (flat_trees names leaf (single at) under es)) (terms c (length vals) (flat_trees names leaf (single at) under es))) ≡ datum_of c.width symbols (called fn (values_of f g es))
  call_says under f hf kf at OfFunction.Bool es o hfirst l us h args fits numbers kept vals =
      let a = args vals l in
      bool_row c.width symbols some calls now later vals (arguments_of (flat_trees names leaf (single at) under es)) us (values_of f g es) (terms c (length vals) (flat_trees names leaf (single at) under es)) fits a.0 a.1
  call_says under f hf kf at OfFunction.Word1 es o hfirst l us h args fits numbers kept vals =
      let a = args vals l in
      word1_row c.width symbols some calls now later vals (arguments_of (flat_trees names leaf (single at) under es)) us (values_of f g es) (terms c (length vals) (flat_trees names leaf (single at) under es)) fits a.0 a.1
  call_says under f hf kf at OfFunction.Max es o hfirst l us h args fits numbers kept vals =
      let a = args vals l in
      max_row c.width symbols some calls now later vals (arguments_of (flat_trees names leaf (single at) under es)) us (values_of f g es) (terms c (length vals) (flat_trees names leaf (single at) under es)) fits a.0 a.1
  call_says under f hf kf at OfFunction.Min es o hfirst l us h args fits numbers kept vals =
      let a = args vals l in
      min_row c.width symbols some calls now later vals (arguments_of (flat_trees names leaf (single at) under es)) us (values_of f g es) (terms c (length vals) (flat_trees names leaf (single at) under es)) fits a.0 a.1
  call_says under f hf kf at OfFunction.Abs es o hfirst l us h args fits numbers kept vals =
      let a = args vals l in
      abs_row c.width symbols some calls now later vals (arguments_of (flat_trees names leaf (single at) under es)) us (values_of f g es) (terms c (length vals) (flat_trees names leaf (single at) under es)) fits a.0 a.1
  call_says under f hf kf at OfFunction.Toint es o hfirst l us h args fits numbers kept vals =
      let a = args vals l in
      toint_row c.width symbols some calls now later vals (arguments_of (flat_trees names leaf (single at) under es)) us (values_of f g es) (terms c (length vals) (flat_trees names leaf (single at) under es)) (first_is under f hf kf at es o us h fits) (toint_held c.width us (numbers_of es) kept) fits a.0 a.1
  call_says under f hf kf at OfFunction.Count es o hfirst l us h args fits numbers kept vals =
      let a = args vals l in
      count_row c.width symbols some calls now later vals us (values_of f g es) (terms c (length vals) (flat_trees names leaf (single at) under es)) fits a.0 a.1
  call_says under f hf kf at OfFunction.Uwconst (expression (number p v) (expression (number q n) no_expressions)) o hfirst l us h args fits numbers kept vals =
      sym (ap (datum_of c.width symbols) (pick_true (is_width n && nat_lt v (2 ^ n)) (Bits (word n v)) no_value numbers))
  call_says under f hf kf at OfFunction.Uwconst es o hfirst l us h args fits numbers kept vals = absurd_bool numbers
  call_says under f hf kf at OfFunction.Extend (expression e (expression (number q n) no_expressions)) o hfirst l us h args fits numbers kept vals =
      let r = extend_fits (typing names (single at) e).type (typing names (single at) (number q n)).type us (number_of e) n h fits numbers in
      let i = hfirst (single at) l r.0 r.1 in
      extend_one c.width symbols some calls now later vals n r.0 (denote f g e).value ((translation c (flat_tree names leaf (single at) under e)).term (length vals)) r.2 r.3 (i.kind refl) (i.value refl vals)
  call_says under f hf kf at OfFunction.Extend es o hfirst l us h args fits numbers kept vals = absurd (extend_second us (numbers_of es) numbers)
  call_says under f hf kf at OfFunction.Resize (expression e (expression (number q n) no_expressions)) o hfirst l us h args fits numbers kept vals =
      let r = resize_fits (typing names (single at) e).type (typing names (single at) (number q n)).type us (number_of e) n h fits numbers in
      let b = (both_true (has_operators e) true o).0 in
      let i = hfirst (single at) l r.0 r.1 in
      let x = (translation c (flat_tree names leaf (single at) under e)).term (length vals) in
      ap (λ m. term_value calls now later vals (resized_term m n x)) (ap width_in (type_kept names leaf (single at) under e b refl r.0 r.1))
      ∙ resize_one c.width symbols some calls now later vals n r.0 (denote f g e).value x r.2 r.3 (i.kind refl) (i.value refl vals)
  call_says under f hf kf at OfFunction.Resize es o hfirst l us h args fits numbers kept vals = absurd (resize_second us (numbers_of es) numbers)

  mutual
    pub says : (under : Bool) (f : Path → Value) → NamesLie names f → ((x : Path) → LeafIsRepresented c.width symbols c.place (if under then later else now) (leaf x) (f x)) → (at : Position) (e : Expression) → has_operators e ≡ true → expression_width names at e ≤ c.width → (t : ExprType) → (typing names at e).type ≡ Some t
        → Says c.width symbols calls now later t (denote f g e) at.sets (translation c (flat_tree names leaf at under e))
    says under f hf kf at (truth p b) o l t h = as_type truth_type t (alone (Truth b)) at.sets (value_translation (λ k. constant (datum.Truth b))) (some_same truth_type t h) (value_says truth_type (Truth b) at.sets (λ k. constant (datum.Truth b)) tt (λ vals. refl))
    says under f hf kf at (number p n) o l t h = value_says t (Integer (pos n)) at.sets (λ k. integer_term c.width (pos n)) (kinded under f hf kf (single at) refl (number p n) l t h) (λ vals. refl)
    says under f hf kf at (literal p w) o l t h = value_says t (Bits w) at.sets (λ k. constant (datum.Bits w)) (kinded under f hf kf (single at) refl (literal p w) l t h) (λ vals. refl)
    says under f hf kf at (name p x) o l t h = leaf_says under (leaf x) (typing names at (name p x)).type t (f x) at.sets (kf x) (kinded under f hf kf (single at) refl (name p x) l t h)
    says under f hf kf at (prefix p sign n e) o l t h =
        let r = prefix_typed p sign n (typing names (single at) e).type t h in
        let i = says under f hf kf (single at) e o (omega (arith, l)) r.0 r.1 in
        let x = translation c (flat_tree names leaf (single at) under e) in
        value_says t (signed sign n (denote f g e).value) at.sets (λ k. repeated (sign_op sign (is_word (flat_tree names leaf (single at) under e))) n (x.term k)) (kinded under f hf kf (single at) refl (prefix p sign n e) l t h)
        (λ vals. ap (λ b. term_value calls now later vals (repeated (sign_op sign b) n (x.term (length vals)))) (ap is_word_in (type_kept names leaf (single at) under e o refl r.0 r.1))
        ∙ sign_row c.width symbols some calls now later vals sign n r.0 (denote f g e).value (x.term (length vals)) r.2 (i.kind refl) (i.value refl vals))
    says under f hf kf at (chain p e no_links) o l t h = absurd_bool (both_true false (has_operators e && true) o).0
    says under f hf kf at (chain p e (link i x ls)) o l t h =
        let b = both_true (has_operators e) (link_operators (link i x ls)) o in
        let b' = both_true (has_operators x) (link_operators ls) b.1 in
        chain_says under f hf kf at p e i x ls o (λ q w u k. says under f hf kf q e b.0 w u k) (λ q w u k. says under f hf kf q x b'.0 w u k)
        (λ q s p a ta z d w u k vals m acc y. folded_says under f hf kf q s p a ta z d ls b'.1 w u k vals m acc y)
        (λ q s p a ta z d j m w u k n us fits lies kind vals. joined_says under f hf kf q s p a ta z d j m (link i x ls) b.1 w u k n us fits lies kind vals)
        (λ q p a ta z w n u k vals y v m j. unions_say under f hf kf q p a ta z (link i x ls) b.1 w n u k vals y v m j)
        (λ q u us v w k n m z vals a y. implied_says under f hf kf q u us v (link i x ls) b.1 w k n m z vals a y) l t h
    says under f hf kf at (choice p bs e) o l t h =
        let q = both_true (branch_operators bs) (has_operators e) o in
        let r = branches_typed p (all_types (condition_types names (single at) bs)) (all_types (value_types names at bs ((typing names at e).type ∷ []))) t h in
        let a = chosen_says under f hf kf at bs (typing names at e).type (denote f g e) (translation c (flat_tree names leaf at under e)) (λ u k. says under f hf kf at e q.1 (omega (arith, l)) u k) q.0 (omega (arith, l)) r.0 r.2 r.1 r.3 in
        record {
          value = a.value;
          kind = λ s. kinded under f hf kf at s (choice p bs e) l t h;
          member = λ vals y v k i. a.member vals y v (hull_of_kind c.width symbols some calls now later r.1 v r.4 (subst (λ z. IsOfKind c.width symbols z v) (sym r.5) k)) i;
        }
    says under f hf kf at (cases p no_branches) o l t h = absurd_bool (node_typed (passes (check 16 p false ∷ [])) (Some truth_type) t h).0
    says under f hf kf at (cases p (branch k e rest)) o l t h =
        let r = branches_typed p (all_types (condition_types names (single at) (branch k e rest))) (all_types (value_types names at (branch k e rest) [])) t h in
        let a = taken_says under f hf kf at (branch k e rest) refl o (omega (arith, l)) r.0 r.2 r.1 r.3 in
        record {
          value = a.value;
          kind = λ s. kinded under f hf kf at s (cases p (branch k e rest)) l t h;
          member = λ vals y v k i. a.member vals y v (hull_of_kind c.width symbols some calls now later r.1 v r.4 (subst (λ z. IsOfKind c.width symbols z v) (sym r.5) k)) i;
        }
    says under f hf kf at (select p e high low) o l t h =
        let r = select_typed p high low (typing names (single at) e).type t h in
        let i = says under f hf kf (single at) e o (omega (arith, l)) r.0 r.1 in
        let x = translation c (flat_tree names leaf (single at) under e) in
        value_says t (selected high low (denote f g e).value) at.sets (λ k. selected_term (word_width (flat_tree names leaf (single at) under e)) high low (x.term k)) (kinded under f hf kf (single at) refl (select p e high low) l t h)
        (λ vals. ap (λ n. term_value calls now later vals (selected_term n high low (x.term (length vals)))) (ap width_in (type_kept names leaf (single at) under e o refl r.0 r.1))
        ∙ select_row c.width symbols some calls now later vals r.0 high low (denote f g e).value (x.term (length vals)) r.2 r.3 (i.kind refl) (i.value refl vals))
    says under f hf kf at (call p fn es) o l t h =
        let r = call_typed p fn (all_types (tree_types names (single at) es)) (numbers_of es) t h in
        let ts = flat_trees names leaf (single at) under es in
        value_says t (called fn (values_of f g es)) at.sets (λ k. function_term c.width k fn (arguments_of ts) (terms c k ts)) (kinded under f hf kf (single at) refl (call p fn es) l t h)
        (λ vals. call_says under f hf kf at fn es o (first_say under f hf kf es o) (omega (arith, l)) r.0 r.1 (λ w m. arguments_say under f hf kf at es o m r.0 r.1 w) r.2 r.3 (subst (λ u. integers_width u ≤ c.width) (sym r.4) (type_fits at (call p fn es) l t h)) vals)
    says under f hf kf at (next p e) o l t h =
        any_says t (denote g g e) at.sets (translation c (flat_tree names leaf under_next true e))
        (says true g hg kg under_next e o (omega (arith, l)) t (node_typed (passes (check 19 p at.nexts ∷ [])) (typing names under_next e).type t h).1)
    says under f hf kf at (set p es) o l t h =
        let r = set_typed p (all_types (tree_types names at es)) at.sets t h in
        record {
          value = λ s. false_true at.sets s r.3;
          kind = λ s. false_true at.sets s r.3;
          member = λ vals y v k i.
              any_value calls now later vals (members c (length vals) y (flat_trees names leaf at under es)) (permit_list f g es v)
              (members_say under f hf kf at es o (omega (arith, l)) r.0 r.1 vals y v (hull_of_kind c.width symbols some calls now later r.0 v r.2 (subst (λ z. IsOfKind c.width symbols z v) (sym r.4) k)) i)
              ∙ ap datum.Truth (permits_any f g es v);
        }
    says under f hf kf at (range p low high) o l t h =
        let r = range_typed p low high at.sets t h in
        let fits : integers_width (integer_type low high) ≤ c.width = subst (λ u. integers_width u ≤ c.width) (sym r.2) (type_fits at (range p low high) l t h) in
        let e = r.1 in
        let order : low ≤ℤ high = omega (arith, ints) in
        let w = interval_width_is_least low high order in
        let first = held_wider (interval_width low high) c.width low fits (w.holds low (omega (arith, ints)) order) in
        let last = held_wider (interval_width low high) c.width high fits (w.holds high order (omega (arith, ints))) in
        record {
          value = λ s. false_true at.sets s r.0;
          kind = λ s. false_true at.sets s r.0;
          member = λ vals y v k i. between_says vals low high y v first last (subst (λ z. IsOfKind c.width symbols z v) (sym r.2) k) i;
        }

    chosen_says : (under : Bool) (f : Path → Value) → NamesLie names f → ((x : Path) → LeafIsRepresented c.width symbols c.place (if under then later else now) (leaf x) (f x)) → (at : Position) (bs : Branches) (z : Option ExprType) (d : Denotation) (x : Translation) → ((u : ExprType) → z ≡ Some u → Says c.width symbols calls now later u d at.sets x)
        → branch_operators bs ≡ true → branch_width names at bs ≤ c.width → (qs : List ExprType) → all_types (condition_types names (single at) bs) ≡ Some qs
        → (us : List ExprType) → all_types (value_types names at bs (z ∷ [])) ≡ Some us → SaysAll c.width symbols calls now later us (chosen f g bs d) at.sets (chosen_translation c (flat_branches names leaf at under bs) x)
    chosen_says under f hf kf at no_branches z d x i o l qs a us h =
        let k = all_cons z [] us h in as_types (k.0 ∷ k.1) us d at.sets x k.4 (alone_all k.0 k.1 d at.sets x (i k.0 k.2))
    chosen_says under f hf kf at (branch q v rest) z d x i o l qs a us h =
        let k = all_cons (typing names at v).type (value_types names at rest (z ∷ [])) us h in
        let m = all_cons (typing names (single at) q).type (condition_types names (single at) rest) qs a in
        let b = both_true (has_operators q) (has_operators v && branch_operators rest) o in
        let b' = both_true (has_operators v) (branch_operators rest) b.1 in
        as_types (k.0 ∷ k.1) us (chosen f g (branch q v rest) d) at.sets (chosen_translation c (flat_branches names leaf at under (branch q v rest)) x) k.4
        (choice_says k.1 k.0 at.sets (denote f g q).value (translation c (flat_tree names leaf (single at) under q)) (translation c (flat_tree names leaf at under v)) (chosen_translation c (flat_branches names leaf at under rest) x) (denote f g v) (chosen f g rest d)
        ((says under f hf kf (single at) q b.0 (omega (arith, l)) m.0 m.2).value refl) (says under f hf kf at v b'.0 (omega (arith, l)) k.0 k.2) (chosen_says under f hf kf at rest z d x i b'.1 (omega (arith, l)) m.1 m.3 k.1 k.3))

    taken_says : (under : Bool) (f : Path → Value) → NamesLie names f → ((x : Path) → LeafIsRepresented c.width symbols c.place (if under then later else now) (leaf x) (f x)) → (at : Position) (bs : Branches) → is_last bs ≡ false → branch_operators bs ≡ true → branch_width names at bs ≤ c.width
        → (qs : List ExprType) → all_types (condition_types names (single at) bs) ≡ Some qs
        → (us : List ExprType) → all_types (value_types names at bs []) ≡ Some us → SaysAll c.width symbols calls now later us (taken f g bs) at.sets (taken_translation c (flat_branches names leaf at under bs))
    taken_says under f hf kf at no_branches n o l qs a us h = absurd_bool (sym n)
    taken_says under f hf kf at (branch q v no_branches) n o l qs a us h =
        let k = all_cons (typing names at v).type [] us h in
        let b = both_true (has_operators q) (has_operators v && true) o in
        let b' = both_true (has_operators v) true b.1 in
        subst (λ z. SaysAll c.width symbols calls now later us (if z then denote f g v else alone no_value) at.sets (translation c (flat_tree names leaf at under v))) (sym (or-true (is_true (denote f g q).value)))
        (as_types (k.0 ∷ k.1) us (denote f g v) at.sets (translation c (flat_tree names leaf at under v)) k.4 (alone_all k.0 k.1 (denote f g v) at.sets (translation c (flat_tree names leaf at under v)) (says under f hf kf at v b'.0 (omega (arith, l)) k.0 k.2)))
    taken_says under f hf kf at (branch q v (branch s w rest)) n o l qs a us h =
        let k = all_cons (typing names at v).type (value_types names at (branch s w rest) []) us h in
        let m = all_cons (typing names (single at) q).type (condition_types names (single at) (branch s w rest)) qs a in
        let b = both_true (has_operators q) (has_operators v && branch_operators (branch s w rest)) o in
        let b' = both_true (has_operators v) (branch_operators (branch s w rest)) b.1 in
        let y = taken_translation c (flat_branches names leaf at under (branch s w rest)) in
        let e = taken f g (branch s w rest) in
        subst (λ z. SaysAll c.width symbols calls now later us (if z then denote f g v else e) at.sets (choice_translation (translation c (flat_tree names leaf (single at) under q)) (translation c (flat_tree names leaf at under v)) y)) (sym (or_false (is_true (denote f g q).value)))
        (as_types (k.0 ∷ k.1) us (if is_true (denote f g q).value then denote f g v else e) at.sets (choice_translation (translation c (flat_tree names leaf (single at) under q)) (translation c (flat_tree names leaf at under v)) y) k.4
        (choice_says k.1 k.0 at.sets (denote f g q).value (translation c (flat_tree names leaf (single at) under q)) (translation c (flat_tree names leaf at under v)) y (denote f g v) e
        ((says under f hf kf (single at) q b.0 (omega (arith, l)) m.0 m.2).value refl) (says under f hf kf at v b'.0 (omega (arith, l)) k.0 k.2) (taken_says under f hf kf at (branch s w rest) refl b'.1 (omega (arith, l)) m.1 m.3 k.1 k.3)))

    members_say : (under : Bool) (f : Path → Value) → NamesLie names f → ((x : Path) → LeafIsRepresented c.width symbols c.place (if under then later else now) (leaf x) (f x)) → (at : Position) (es : Expressions) → part_operators es ≡ true → part_width names at es ≤ c.width → (us : List ExprType) → all_types (tree_types names at es) ≡ Some us
        → (vals : List Datum) (y : Tree) (v : Value) → IsOfAll c.width symbols us v → term_value calls now later vals y ≡ datum_of c.width symbols v
        → term_values calls now later vals (members c (length vals) y (flat_trees names leaf at under es)) ≡ map (λ b. datum.Truth b) (permit_list f g es v)
    members_say under f hf kf at no_expressions o l us h vals y v k i = refl
    members_say under f hf kf at (expression e es) o l us h vals y v k i =
        let m = all_cons (typing names at e).type (tree_types names at es) us h in
        let b = both_true (has_operators e) (part_operators es) o in
        let n : IsOfAll c.width symbols (m.0 ∷ m.1) v = subst (λ z. IsOfAll c.width symbols z v) (sym m.4) k in
        joined_cons _ _ _ _ ((says under f hf kf at e b.0 (omega (arith, l)) m.0 m.2).member vals y v n.0 i) (members_say under f hf kf at es b.1 (omega (arith, l)) m.1 m.3 vals y v n.1 i)

    arguments_say : (under : Bool) (f : Path → Value) → NamesLie names f → ((x : Path) → LeafIsRepresented c.width symbols c.place (if under then later else now) (leaf x) (f x)) → (at : Position) (es : Expressions) → part_operators es ≡ true → part_width names (single at) es ≤ c.width → (us : List ExprType) → all_types (tree_types names (single at) es) ≡ Some us
        → (vals : List Datum) → AreOfKinds c.width symbols us (values_of f g es) × AreCoded (term_value calls now later vals) (datum_of c.width symbols) (terms c (length vals) (flat_trees names leaf (single at) under es)) (values_of f g es)
    arguments_say under f hf kf at no_expressions o l [] h vals = (tt, tt)
    arguments_say under f hf kf at no_expressions o l (u ∷ us) h vals = cc
    arguments_say under f hf kf at (expression e es) o l us h vals =
        let m = all_cons (typing names (single at) e).type (tree_types names (single at) es) us h in
        let b = both_true (has_operators e) (part_operators es) o in
        let i = says under f hf kf (single at) e b.0 (omega (arith, l)) m.0 m.2 in
        let r = arguments_say under f hf kf at es b.1 (omega (arith, l)) m.1 m.3 vals in
        (subst (λ z. AreOfKinds c.width symbols z (values_of f g (expression e es))) m.4 (i.kind refl, r.0), (i.value refl vals, r.1))

    folded_says : (under : Bool) (f : Path → Value) → NamesLie names f → ((x : Path) → LeafIsRepresented c.width symbols c.place (if under then later else now) (leaf x) (f x)) → (q : Position) → q.sets ≡ false → (p : Place) (a : Typing) (ta : ExprType) → a.type ≡ Some ta → (d : Denotation) (ls : Links) → link_operators ls ≡ true
        → fronts_width names q p a ls ≤ c.width → (t : ExprType) → (linked names q p a ls).type ≡ Some t → (vals : List Datum) (m : ℕ) (acc : Tree) → Front c.width symbols calls now later vals ta d.value m acc
        → term_value calls now later vals (folded_term c (length vals) m acc (flat_links names leaf q under ls)) ≡ datum_of c.width symbols (linked_values f g d ls).value
    folded_says under f hf kf q s p a ta e d no_links o l t h vals m acc b = b.value
    folded_says under f hf kf q s p a ta e d (link i x ls) o l t h vals m acc b =
        let k = both_true (has_operators x) (link_operators ls) o in
        let fr = front i q p a (typing names (behind i q) x) x in
        let r = linked_typed names q p fr ls t h in
        let fits : integers_width r.0 ≤ c.width = subst (λ z. node_width z ≤ c.width) r.1 (omega (arith, l)) in
        folded_says under f hf kf q s p fr r.0 r.1 (joined i d (denote f g x)) ls k.1 (omega (arith, l)) t h vals (front_width i m (word_width (flat_tree names leaf (behind i q) under x))) _
        (front_says under f hf kf q s p a ta e d i x k.0 (λ z w u y. says under f hf kf z x k.0 w u y) (omega (arith, l)) r.0 r.1 fits vals false m acc b)

    joined_says : (under : Bool) (f : Path → Value) → NamesLie names f → ((x : Path) → LeafIsRepresented c.width symbols c.place (if under then later else now) (leaf x) (f x)) → (q : Position) → q.sets ≡ false → (p : Place) (a : Typing) (ta : ExprType) → a.type ≡ Some ta → (d : Denotation) (i : Infix) → joins_with i i ≡ true → (ls : Links)
        → link_operators ls ≡ true → fronts_width names q p a ls ≤ c.width → (t : ExprType) → (linked names q p a ls).type ≡ Some t → all_join_with i (flat_links names leaf q under ls) ≡ true
        → (us : ExprType) → infix_fits i ta us ≡ true → LiesIn ta d.value → IsOfKind c.width symbols ta d.value → (vals : List Datum)
        → op_value (infix_op i (is_word_type ta)) (datum_of c.width symbols d.value ∷ term_values calls now later vals (link_terms c (length vals) (flat_links names leaf q under ls))) ≡ datum_of c.width symbols (linked_values f g d ls).value
    joined_says under f hf kf q s p a ta e d i j no_links o l t h n us fits lies kind vals = joined_end c.width symbols i ta us d.value j fits kind
    joined_says under f hf kf q s p a ta e d i j (link i' x ls) o l t h n us fits lies kind vals =
        let k = both_true (has_operators x) (link_operators ls) o in
        let n' = both_true (joins_with i i') (all_join_with i (flat_links names leaf q under ls)) n in
        let e' : i ≡ i' = joins_same i i' n'.0 in
        let j' : joins_with i' i' ≡ true = subst (λ z. joins_with z z ≡ true) e' j in
        let plain = (joins_plain i' j').0 in
        let free = plain_sets i' q plain in
        let fr = front i' q p a (typing names (behind i' q) x) x in
        let r = linked_typed names q p fr ls t h in
        let y = front_typed i' q p a.type (typing names (behind i' q) x).type x r.0 r.1 in
        let same : ta ≡ y.left = some_same ta y.left (sym e ∙ y.left_is) in
        let w = (denote f g x).value in
        let v : IsOfKind c.width symbols y.left d.value = subst (λ z. IsOfKind c.width symbols z d.value) same kind in
        let z' = says under f hf kf (behind i' q) x k.0 (subst (λ n. n ≤ c.width) (plain_width i' (expression_width names (behind i' q) x) plain) (omega (arith, l))) y.right y.right_is in
        let kept = joined_kept i' y.left y.right x j' y.fits in
        let new : LiesIn r.0 (applied i' d.value w) = subst (λ z. LiesIn z (applied i' d.value w)) y.whole
        (infix_lies i' y.left y.right x d.value w (plain_no_union i' plain) y.fits y.divided y.shifted y.joined (divisor_is f g x) (number_is f g x)
        (subst (λ z. LiesIn z d.value) same lies) (lies_as f hf (behind i' q) free x y.right y.right_is)) in
        let meant : (joined i' d (denote f g x)).value ≡ applied i' d.value w = ap (λ (z : Denotation). z.value) (plain_joined i' d (denote f g x) plain) in
        let ds = term_values calls now later vals (link_terms c (length vals) (flat_links names leaf q under ls)) in
        let fits' : integers_width r.0 ≤ c.width = subst (λ z. node_width z ≤ c.width) r.1 (omega (arith, l)) in
        ap (λ z. op_value (infix_op i (is_word_type ta)) (datum_of c.width symbols d.value ∷ z ∷ ds)) (z'.value free vals)
        ∙ ap (λ z. op_value (infix_op z (is_word_type ta)) (datum_of c.width symbols d.value ∷ datum_of c.width symbols w ∷ ds)) e'
        ∙ ap (λ z. op_value (infix_op i' (is_word_type z)) (datum_of c.width symbols d.value ∷ datum_of c.width symbols w ∷ ds)) same
        ∙ joined_step c.width symbols some i' y.left y.right d.value w ds j' y.fits v (z'.kind free)
        ∙ ap (λ z. op_value (infix_op i' z) (datum_of c.width symbols (applied i' d.value w) ∷ ds)) (sym kept.1 ∙ ap is_word_type y.whole)
        ∙ ap (λ z. op_value (infix_op z (is_word_type r.0)) (datum_of c.width symbols (applied i' d.value w) ∷ ds)) (sym e')
        ∙ ap (λ z. op_value (infix_op i (is_word_type r.0)) (datum_of c.width symbols z ∷ ds)) (sym meant)
        ∙ joined_says under f hf kf q s p fr r.0 r.1 (joined i' d (denote f g x)) i j ls k.1 (omega (arith, l)) t h n'.1 y.right (subst (λ z. infix_fits z r.0 y.right ≡ true) (sym e') (subst (λ z. infix_fits i' z y.right ≡ true) y.whole kept.0))
        (subst (λ z. LiesIn r.0 z) (sym meant) new) (subst (λ z. IsOfKind c.width symbols r.0 z) (sym meant) (known_kind c.width symbols r.0 (applied i' d.value w) fits' new (known_applied symbols i' d.value w))) vals

    -- a chain that is no set, read from the left or joined; its operands stand where no set may
    unions_say : (under : Bool) (f : Path → Value) → NamesLie names f → ((x : Path) → LeafIsRepresented c.width symbols c.place (if under then later else now) (leaf x) (f x)) → (q : Position) (p : Place) (a : Typing) (ta : ExprType) → a.type ≡ Some ta → (ls : Links) → link_operators ls ≡ true → fronts_width names q p a ls ≤ c.width → are_unions ls ≡ true
        → (t : ExprType) → (linked names q p a ls).type ≡ Some t → (vals : List Datum) (y : Tree) (v : Value) → IsOfKind c.width symbols t v → term_value calls now later vals y ≡ datum_of c.width symbols v
        → IsOfKind c.width symbols ta v × (term_values calls now later vals (link_members c (length vals) y (flat_links names leaf q under ls)) ≡ map (λ b. datum.Truth b) (link_permits f g ls v))
    unions_say under f hf kf q p a ta e no_links o l n t h vals y v k i = (subst (λ z. IsOfKind c.width symbols z v) (some_same t ta (sym h ∙ e)) k, refl)
    unions_say under f hf kf q p a ta e (link Union x ls) o l n t h vals y v k i =
        let b = both_true (has_operators x) (link_operators ls) o in
        let fr = front Union q p a (typing names q x) x in
        let r = linked_typed names q p fr ls t h in
        let z = front_typed Union q p a.type (typing names q x).type x r.0 r.1 in
        let m = unions_say under f hf kf q p fr r.0 r.1 ls b.1 (omega (arith, l)) n t h vals y v k i in
        let w : IsOfKind c.width symbols z.left v = hull_kind c.width symbols z.left z.right v (subst (λ s. IsOfKind c.width symbols s v) (sym z.whole) m.0) in
        let u : IsOfKind c.width symbols z.right v = kind_same c.width symbols some calls now later vals z.left z.right v z.fits w in (
          subst (λ s. IsOfKind c.width symbols s v) (some_same z.left ta (sym z.left_is ∙ e)) w,
          joined_cons _ _ _ _ ((says under f hf kf q x b.0 (omega (arith, l)) z.right z.right_is).member vals y v u i) m.1,
        )
    unions_say under f hf kf q p a ta e (link i' x ls) o l n t h vals y v k i = absurd_bool n

    implied_says : (under : Bool) (f : Path → Value) → NamesLie names f → ((x : Path) → LeafIsRepresented c.width symbols c.place (if under then later else now) (leaf x) (f x)) → (at : Position) (u : ExprType) (us : List ExprType) (v : Value) (ls : Links) → link_operators ls ≡ true → implied_width names (single at) ls ≤ c.width
        → all_types (link_types names (single at) ls) ≡ Some us → list_all (logical_fits u) us ≡ true → are_implies ls ≡ true → IsOfKind c.width symbols u v → (vals : List Datum) (a : Tree) → term_value calls now later vals a ≡ datum_of c.width symbols v
        → (term_value calls now later vals (implied_term c (length vals) a (flat_links names leaf (single at) under ls)) ≡ datum_of c.width symbols (implications f g v ls)) × IsOfKind c.width symbols u (implications f g v ls)
    implied_says under f hf kf at u us v no_links o l h n m k vals a i = (i, k)
    implied_says under f hf kf at u us v (link Implies x ls) o l h n m k vals a i =
        let b = both_true (has_operators x) (link_operators ls) o in
        let r = all_cons (typing names (single at) x).type (link_types names (single at) ls) us h in
        let fits = subst (λ z. list_all (logical_fits u) z ≡ true) (sym r.4) n in
        let d = both_true (logical_fits u r.0) (list_all (logical_fits u) r.1) fits in
        let z = says under f hf kf (single at) x b.0 (omega (arith, l)) r.0 r.2 in
        let y = implied_says under f hf kf at r.0 r.1 (denote f g x).value ls b.1 (omega (arith, l)) r.3 (logical_all u r.0 r.1 d.0 d.1) m (z.kind refl) vals ((translation c (flat_tree names leaf (single at) under x)).term (length vals)) (z.value refl vals) in
        let w = implications f g (denote f g x).value ls in
        let tail = implied_term c (length vals) ((translation c (flat_tree names leaf (single at) under x)).term (length vals)) (flat_links names leaf (single at) under ls) in (
          ap (λ q. term_value calls now later vals (infix_term Implies q a tail)) (ap is_word_in (type_kept names leaf (single at) under x b.0 refl r.0 r.2))
              ∙ infix_at c.width symbols some calls now later vals Implies (is_word_type r.0) a tail
              ∙ ap (λ q. term_value calls now later vals (infix_term Implies (is_word_type r.0) (constant q) (constant (term_value calls now later vals tail)))) i
              ∙ ap (λ q. term_value calls now later vals (infix_term Implies (is_word_type r.0) (constant (datum_of c.width symbols v)) (constant q))) y.0
              ∙ implies_row c.width symbols some calls now later vals u r.0 v w d.0 k y.1,
          implied_kind c.width symbols u r.0 v w d.0 k y.1,
        )
    implied_says under f hf kf at u us v (link i' x ls) o l h n m k vals a i = absurd_bool m

    -- a chain of `->` alone
    first_say : (under : Bool) (f : Path → Value) → NamesLie names f → ((x : Path) → LeafIsRepresented c.width symbols c.place (if under then later else now) (leaf x) (f x)) → (es : Expressions) → part_operators es ≡ true → FirstSays under f es
    first_say under f hf kf no_expressions o = tt
    first_say under f hf kf (expression e es) o = λ q w u k. says under f hf kf q e (both_true (has_operators e) (part_operators es) o).0 w u k
