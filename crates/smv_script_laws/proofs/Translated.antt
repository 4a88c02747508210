-- Each typed expression's term can stand with the sort of its type, and so can what says whether a value is among those that it permits.
use Rattle.std.proofs.Common.{◌≡◌, ℕ, ◌+◌, ◌-◌, ◌^◌, ◌≤◌, ◌<◌, max, Bool, true, false, ◌&&◌, nat_lt, if◌then◌else◌, ℤ, pos, int_lt, drop, List, [], ◌∷◌, ◌++◌, map, length, Option, Some, None, Ok, option_map, refl, sym, ap, ◌∙◌, subst, arith}
use Rattle.std.proofs.lemmas.Bool.{ltb-true}
use Rattle.std.specs.List.{list_all, AllByRecursion}
use Rattle.std.specs.Int.{int_min, int_max}
use Rattle.text_core.specs.declared.place.Place.{Place}
use Rattle.word_core.specs.declared.word.TheConstants.{WIDEST}
use Rattle.word_core.specs.declared.kinds.Binary.{Binary}
use Rattle.word_core.specs.declared.kinds.Binary.TheVariants as OnWords
use Rattle.smv_text.specs.declared.tree.Path.{Path}
use Rattle.smv_text.specs.declared.operators.Infix.{Infix}
use Rattle.smv_text.specs.declared.operators.Infix.TheVariants.{Implies, Member, Union, ShiftLeft, ShiftRight}
use Rattle.smv_text.specs.declared.operators.Function.{Function}
use Rattle.smv_text.specs.declared.operators.Function.TheVariants as OfFunction
use Rattle.smv_text.specs.Tree.{Tree as Expression, truth, number, literal, name, prefix, chain, choice, cases, select, call, next, set, range, Links, no_links, link, Branches, no_branches, branch, Trees as Expressions, no_trees as no_expressions, tree as expression}
use Rattle.smv_meaning.specs.declared.value.Value.{Value}
use Rattle.smv_meaning.specs.Operators.{int_abs, is_width}
use Rattle.smv_meaning.specs.Expressions.{is_implies, are_implies, is_from_right, is_last}
use Rattle.smv_meaning.specs.Types.{ExprType, truth_type, integer_type, symbol_type, word_type, over_ends, over_both_ends, abs_type, is_truth_type, is_word_type, type_width, logical_fits, infix_type, is_union, function_fits, arguments_fit, function_type, number_of, numbers_of, implies_fits, first_type, hull_of}
use Rattle.smv_meaning.specs.Checks.{check, passes, Position, single, under_next, Named, Typing, all_types, on_all, front, are_unions, across, behind, with_sets, typing, link_types, linked, condition_types, value_types, tree_types}
use Rattle.smv_meaning.specs.laws.Booleans.{both_true, two_true, absurd_bool}
use Rattle.smv_meaning.specs.laws.WordLemmas.{below_power}
use Rattle.smv_laws.proofs.OperatorLaws.{width_of}
use Rattle.smv_laws.proofs.TypeLaws.{NamesLie, all_cons, false_true}
use Rattle.smv_items.specs.FlatItems.{Leaf, of_item, of_symbol, of_nothing}
use Rattle.smv_flat.specs.FlatTree.{leaf_tree, flat_tree, flat_links, flat_branches, flat_trees, flat_are_implies}
use Rattle.smv_flat.specs.FlatWidth.{integers_width, node_width, operand_width, arguments_width}
use Rattle.smv_width.specs.SourceWidth.{expression_width, implied_width, fronts_width, branch_width, part_width, front_width as first_part_width, has_operators, link_operators, branch_operators, part_operators}
use Rattle.smv_width.proofs.SourceWidths.{source_node}
use Rattle.moxi_terms.specs.declared.data.Sort.{Sort}
use Rattle.moxi_terms.specs.declared.data.Sort.TheVariants as sort
use Rattle.moxi_terms.specs.declared.data.Datum.TheVariants as datum
use Rattle.moxi_terms.specs.declared.data.Primes.{Primes}
use Rattle.moxi_terms.specs.declared.term.Enumeration.{Enumeration}
use Rattle.moxi_terms.specs.Sorts.{calculated}
use Rattle.moxi_terms.specs.Tree.{Tree, constant, variable, bound, apply, tree}
use Rattle.moxi_term_reading.specs.declared.locals.Local.{Local}
use Rattle.moxi_term_print.specs.WellScoped.{IsWellScoped, AreWellScoped, IsAllowedPrime}
use Rattle.smv_script.specs.Codes.{sort_of}
use Rattle.smv_script.specs.Operators.{word_term, integer_term, extended_term, any_term, sign_op, repeated, infix_op, joins_with, infix_term, front_width, link_term, selected_term, resized_term, function_term, among_term}
use Rattle.smv_script.specs.Terms.{is_word_in, is_word, width_in, word_width, amount_of, is_name, arguments_of, Translation, value_translation, set_translation, choice_translation, are_flat_unions, all_join_with, Coding, translation, implied_term, folded_term, link_terms, link_members, chosen_translation, taken_translation, terms, members}
use Rattle.smv_script_laws.proofs.Rows.{is_plain}
use Rattle.smv_script_laws.proofs.Typings.{call_typed, front_no_union, front_typed, implies_flat, implies_typed, linked_typed, node_typed, range_typed, right_no_union, set_typed, some_same, type_kept, unions_flat}
use Rattle.smv_script_laws.proofs.Parts.{IsAsWide, amount_is, extend_fits, extend_second, joins_plain, joins_same, logical_all, number_kept, pick_three, resize_fits, resize_second, toint_held, wide_kept, wide_of}
use Rattle.smv_script_laws.specs.LetNames.{AreLetNames}
use Rattle.smv_script_laws.specs.WellScoped.{CanAppear}
use Rattle.smv_script_laws.proofs.Applied.{ctx, equal_stands, choice_stands, words_stand, word_stands, integer_stands, extended_stands, selected_stands, resized_stands, any_stands, between_stands, is_written}
use Rattle.smv_script_laws.proofs.Bounds.{one_bound, one_let, one_long, one_stands}
use Rattle.smv_script_laws.proofs.SortedRows.{TypeFits, infix_kept, word_cases, truth_case, same_sort_of, hull_sort, hull_of_sorts, prefix_sort, joined_sort, joined_type, sign_stands, infix_stands, joined_stands}
use Rattle.smv_script_laws.proofs.SortedFunctions.{bool_stands, word1_stands, toint_stands, count_stands, max_stands, min_stands, abs_stands}
use Rattle.smv_script_laws.proofs.Typed.{prefix_whole, select_whole, branches_whole, literal_whole, select_bounds, behind_nexts, across_nexts, never_primed, type_fits}
use Rattle.moxi_term_print.proofs.SortedTerms.{copies}
use Rattle.moxi_terms.specs.Applications.{words_term}

-- ---- operators that aren't `in`, `union` or shifts

pub plain_sets : (o : Infix) (q : Position) → is_plain o ≡ true → (behind o q).sets ≡ false
plain_sets Member q h = absurd_bool h
plain_sets Union q h = absurd_bool h
plain_sets o q h = refl

pub plain_width : (o : Infix) (w : ℕ) → is_plain o ≡ true → operand_width o w ≡ w
plain_width ShiftLeft w h = absurd_bool h
plain_width ShiftRight w h = absurd_bool h
plain_width o w h = refl

pub plain_link : (o : Infix) (w : Bool) (m n : ℕ) (a b among : Tree) → is_plain o ≡ true → link_term o w m n a b among ≡ infix_term o w a b
plain_link Member w m n a b among h = absurd_bool h
plain_link ShiftLeft w m n a b among h = absurd_bool h
plain_link ShiftRight w m n a b among h = absurd_bool h
plain_link o w m n a b among h = refl

pub by_cases : {X : Type 0} (b : Bool) → (b ≡ true → X) → (b ≡ false → X) → X
by_cases true f h = f refl
by_cases false f h = h refl

pub typed_if : (b : Bool) (x y : Typing) (t : ExprType) → (if b then x else y).type ≡ Some t → (b ≡ true → x.type ≡ Some t) × (b ≡ false → y.type ≡ Some t)
typed_if true x y t h = ((λ e. h), (λ e. absurd_bool (sym e)))
typed_if false x y t h = ((λ e. absurd_bool e), (λ e. h))

pub width_if : (b : Bool) (m n k w : ℕ) → max k (if b then m else n) ≤ w → (b ≡ true → m ≤ w) × (b ≡ false → n ≤ w)
width_if true m n k w h = ((λ e. omega (arith, h)), (λ e. absurd_bool (sym e)))
width_if false m n k w h = ((λ e. absurd_bool e), (λ e. omega (arith, h)))

-- ---- types of functions

greater_sort : (w : ℕ) (f : ℤ → ℤ → ℤ) (us : List ExprType) → function_fits OfFunction.Max us ≡ true → sort_of w (over_both_ends f (first_type us) (first_type (drop 1 us))) ≡ sort.Bits w
greater_sort w f [] h = absurd_bool h
greater_sort w f (t ∷ []) h = absurd_bool h
greater_sort w f (t ∷ u ∷ s ∷ us) h = absurd_bool h
greater_sort w f (integer_type a b ∷ integer_type d e ∷ []) h = refl
greater_sort w f (integer_type a b ∷ truth_type ∷ []) h = absurd_bool h
greater_sort w f (integer_type a b ∷ symbol_type ∷ []) h = absurd_bool h
greater_sort w f (integer_type a b ∷ word_type n ∷ []) h = absurd_bool h
greater_sort w f (truth_type ∷ u ∷ []) h = absurd_bool h
greater_sort w f (symbol_type ∷ u ∷ []) h = absurd_bool h
greater_sort w f (word_type n ∷ u ∷ []) h = absurd_bool h

abs_sort : (w : ℕ) (us : List ExprType) → function_fits OfFunction.Abs us ≡ true → sort_of w (abs_type (first_type us)) ≡ sort.Bits w
abs_sort w [] h = absurd_bool h
abs_sort w (t ∷ u ∷ us) h = absurd_bool h
abs_sort w (integer_type a b ∷ []) h = by (int_lt a (pos 0) && int_lt (pos 0) b)
  where
    by : (d : Bool) → sort_of w (if d then integer_type (pos 0) (int_max (int_abs a) (int_abs b)) else over_ends int_abs (integer_type a b)) ≡ sort.Bits w
    by true = refl
    by false = refl
abs_sort w (truth_type ∷ []) h = absurd_bool h
abs_sort w (symbol_type ∷ []) h = absurd_bool h
abs_sort w (word_type n ∷ []) h = absurd_bool h

module _ (c : Coding) (enums : List Enumeration) (vars : List Local) (primes : Primes) (some : 1 ≤ c.width) (most : c.width ≤ WIDEST)
    (truths : (b : Bool) (bounds : List Local) → AreLetNames bounds → IsWellScoped (ctx enums vars primes) bounds (constant (datum.Truth b)) sort.Truth)
    (names : Path → Named) (leaf : Path → Leaf) (f : Path → Value) (hf : NamesLie names f)
    (leaves : (under : Bool) → IsAllowedPrime primes under → (x : Path) (t : ExprType) → (names x).type ≡ Some t → (bounds : List Local) → AreLetNames bounds
    → IsWellScoped (ctx enums vars primes) bounds ((translation c (leaf_tree (Some t) under (leaf x))).term (length bounds)) (sort_of c.width t)) where
  abbrev Has : List Local → Tree → ExprType → Type 0
  Has bounds a t = IsWellScoped (ctx enums vars primes) bounds a (sort_of c.width t)

  abbrev Can : ExprType → Bool → Translation → Type 0
  Can t sets x = CanAppear (ctx enums vars primes) (sort_of c.width t) sets x

  as_sort : (s r : Sort) (sets : Bool) (x : Translation) → s ≡ r → CanAppear (ctx enums vars primes) s sets x → CanAppear (ctx enums vars primes) r sets x
  as_sort s r sets x e h = subst (λ z. CanAppear (ctx enums vars primes) z sets x) e h

  any_can : (s : Sort) (sets : Bool) (x : Translation) → CanAppear (ctx enums vars primes) s false x → CanAppear (ctx enums vars primes) s sets x
  any_can s sets x h = record { value = λ z. h.value refl; member = h.member }

  value_can : (s : Sort) (sets : Bool) (term : ℕ → Tree) → ((bounds : List Local) → AreLetNames bounds → IsWellScoped (ctx enums vars primes) bounds (term (length bounds)) s) → CanAppear (ctx enums vars primes) s sets (value_translation term)
  value_can s sets term h = record {
    value = λ z bounds l. h bounds l;
    member = λ bounds l y i. equal_stands enums vars primes bounds s y (term (length bounds)) i (h bounds l);
  }

  leaf_can : (under : Bool) (l : Leaf) (o : Option ExprType) (t : ExprType) (sets : Bool)
      → ((bounds : List Local) → AreLetNames bounds → Has bounds ((translation c (leaf_tree (Some t) under l)).term (length bounds)) t) → Can t sets (translation c (leaf_tree o under l))
  leaf_can under (of_item i) o t sets h = value_can (sort_of c.width t) sets (λ n. variable (c.place i) under) h
  leaf_can under (of_symbol s) o t sets h = value_can (sort_of c.width t) sets (λ n. constant (datum.Constant 0 s)) h
  leaf_can under of_nothing o t sets h = value_can (sort_of c.width t) sets (λ n. constant (datum.Truth false)) h

  -- a choice, of parts that have one sort
  choice_can : (s : Sort) (sets : Bool) (q a b : Translation) → ((bounds : List Local) → AreLetNames bounds → IsWellScoped (ctx enums vars primes) bounds (q.term (length bounds)) sort.Truth)
      → CanAppear (ctx enums vars primes) s sets a → CanAppear (ctx enums vars primes) s sets b → CanAppear (ctx enums vars primes) s sets (choice_translation q a b)
  choice_can s sets q a b i j k = record {
    value = λ z bounds l. choice_stands enums vars primes bounds s (q.term (length bounds)) (a.term (length bounds)) (b.term (length bounds)) (i bounds l) (j.value z bounds l) (k.value z bounds l);
    member = λ bounds l y h. choice_stands enums vars primes bounds sort.Truth (q.term (length bounds)) (a.member (length bounds) y) (b.member (length bounds) y) (i bounds l) (j.member bounds l y h) (k.member bounds l y h);
  }

  -- an operand that has what is asked, in any position
  abbrev Each : Bool → Expression → Type 0
  Each under e = (q : Position) → IsAllowedPrime primes q.nexts → expression_width names q e ≤ c.width → (t : ExprType) → (typing names q e).type ≡ Some t → Can t q.sets (translation c (flat_tree names leaf q under e))

  type_held : (at : Position) (e : Expression) → expression_width names at e ≤ c.width → (t : ExprType) → (typing names at e).type ≡ Some t → integers_width t ≤ c.width
  type_held at e l t h = subst (λ o. node_width o ≤ c.width) h (let s : node_width (typing names at e).type ≤ expression_width names at e = source_node names at e in omega (arith, s, l))

  among_stands : (bounds : List Local) → AreLetNames bounds → (named : Bool) (a : Tree) (s : Sort) (sets : Bool) (x : Translation) → CanAppear (ctx enums vars primes) s sets x → IsWellScoped (ctx enums vars primes) bounds a s
      → IsWellScoped (ctx enums vars primes) bounds (among_term named (length bounds) a x.member) sort.Truth
  among_stands bounds l true a s sets x h i = h.member bounds l a i
  among_stands bounds l false a s sets x h i = (
    s ∷ [],
    omega arith,
    refl,
    (i, tt),
    subst (λ n. IsWellScoped (ctx enums vars primes) (bounds ++ one_bound s) (x.member n (bound (length bounds))) sort.Truth) (one_long bounds s)
        (h.member (bounds ++ one_bound s) (one_let bounds s l) (bound (length bounds)) (one_stands (ctx enums vars primes) bounds s)),
  )

  -- ---- chains that are read from the left

  -- a front of this type
  record Front (bounds : List Local) (t : ExprType) (m : ℕ) (a : Tree) : Type 0 where
    pub stands : Has bounds a t
    pub fits : TypeFits t
    pub wide : IsAsWide t m

  shift_stands : (bounds : List Local) (b : Binary) (t : ExprType) (m amount n : ℕ) (a : Tree) → is_written b ≡ true → ((k : ℕ) → calculated b (Some (sort.Bits k)) ≡ Ok (sort.Bits k)) → is_word_type t ≡ true → n ≤ type_width t → amount ≡ n
      → Front bounds t m a → Has bounds (words_term b a (word_term m amount)) t
  shift_stands bounds b t m amount n a wr op fits l e h = word_cases (λ t. n ≤ type_width t → Has bounds a t → TypeFits t → IsAsWide t m → Has bounds (words_term b a (word_term m amount)) t)
      (λ k l i j w.
      let p = below_power k in
      words_stand enums vars primes bounds b k (sort.Bits k) a (word_term m amount) wr (op k) i
      (subst (λ z. IsWellScoped (ctx enums vars primes) bounds (word_term z amount) (sort.Bits k)) w
      (word_stands enums vars primes bounds k amount j.0 j.1 (omega (arith, p, l, e))))) t fits l h.stands h.fits h.wide

  module _ (under : Bool) where
    plain_can : (q : Position) → IsAllowedPrime primes q.nexts → q.sets ≡ false → (p : Place) (a : Typing) (ta : ExprType) → a.type ≡ Some ta → (i : Infix) → is_plain i ≡ true → (x : Expression) → has_operators x ≡ true → Each under x
        → operand_width i (expression_width names (behind i q) x) ≤ c.width → (tf : ExprType) → (front i q p a (typing names (behind i q) x) x).type ≡ Some tf
        → (bounds : List Local) → AreLetNames bounds → (named : Bool) (m : ℕ) (acc : Tree) → Front bounds ta m acc
        → Front bounds tf (front_width i m (word_width (flat_tree names leaf (behind i q) under x)))
        (link_term i (is_word (flat_tree names leaf (behind i q) under x)) m (amount_of (flat_tree names leaf (behind i q) under x)) acc ((translation c (flat_tree names leaf (behind i q) under x)).term (length bounds)) (among_term named (length bounds) acc (translation c (flat_tree names leaf (behind i q) under x)).member))
    plain_can q n s p a ta e i plain x o hx l tf h bounds lets named m acc b =
        let r = front_typed i q p a.type (typing names (behind i q) x).type x tf h in
        let same : ta ≡ r.left = some_same ta r.left (sym e ∙ r.left_is) in
        let xt = translation c (flat_tree names leaf (behind i q) under x) in
        let free = plain_sets i q plain in
        let j = hx (behind i q) (subst (IsAllowedPrime primes) (sym (behind_nexts i q)) n) (subst (λ n. n ≤ c.width) (plain_width i (expression_width names (behind i q) x) plain) l) r.right r.right_is in
        let kept = type_kept names leaf (behind i q) under x o free r.right r.right_is in
        record {
          stands =
              subst (λ z. Has bounds z tf) (sym (plain_link i (is_word (flat_tree names leaf (behind i q) under x)) m (amount_of (flat_tree names leaf (behind i q) under x)) acc (xt.term (length bounds)) (among_term named (length bounds) acc xt.member) plain))
              (subst (λ z. Has bounds (infix_term i z acc (xt.term (length bounds))) tf) (sym (ap is_word_in kept))
              (subst (λ z. Has bounds (infix_term i (is_word_type r.right) acc (xt.term (length bounds))) z) r.whole
              (infix_stands c.width enums vars primes bounds i r.left r.right x plain r.fits r.joined acc (xt.term (length bounds)) (subst (λ z. Has bounds acc z) same b.stands) (j.value free bounds lets))));
          fits = subst TypeFits r.whole (infix_kept i r.left r.right x r.fits r.joined (subst TypeFits same b.fits));
          wide = subst (λ z. IsAsWide z (front_width i m (word_width (flat_tree names leaf (behind i q) under x)))) r.whole
              (subst (λ z. IsAsWide (infix_type i r.left r.right x) (front_width i m z)) (sym (ap width_in kept)) (wide_kept i r.left r.right x m r.fits (subst (λ z. IsAsWide z m) same b.wide)));
        }

    front_can : (q : Position) → IsAllowedPrime primes q.nexts → q.sets ≡ false → (p : Place) (a : Typing) (ta : ExprType) → a.type ≡ Some ta → (i : Infix) (x : Expression) → has_operators x ≡ true → Each under x
        → operand_width i (expression_width names (behind i q) x) ≤ c.width → (tf : ExprType) → (front i q p a (typing names (behind i q) x) x).type ≡ Some tf
        → (bounds : List Local) → AreLetNames bounds → (named : Bool) (m : ℕ) (acc : Tree) → Front bounds ta m acc
        → Front bounds tf (front_width i m (word_width (flat_tree names leaf (behind i q) under x)))
        (link_term i (is_word (flat_tree names leaf (behind i q) under x)) m (amount_of (flat_tree names leaf (behind i q) under x)) acc ((translation c (flat_tree names leaf (behind i q) under x)).term (length bounds)) (among_term named (length bounds) acc (translation c (flat_tree names leaf (behind i q) under x)).member))
    front_can q n s p a ta e Member x o hx l tf h bounds lets named m acc b =
        let r = front_typed Member q p a.type (typing names (with_sets q) x).type x tf h in
        let same : ta ≡ r.left = some_same ta r.left (sym e ∙ r.left_is) in
        let y : Has bounds acc r.right = subst (IsWellScoped (ctx enums vars primes) bounds acc) (sym (same_sort_of c.width r.left r.right r.fits)) (subst (λ z. Has bounds acc z) same b.stands) in
        record {
          stands = subst (λ z. Has bounds (among_term named (length bounds) acc (translation c (flat_tree names leaf (with_sets q) under x)).member) z) r.whole
              (among_stands bounds lets named acc (sort_of c.width r.right) true (translation c (flat_tree names leaf (with_sets q) under x)) (hx (with_sets q) n l r.right r.right_is) y);
          fits = subst TypeFits r.whole tt;
          wide = subst (λ z. IsAsWide z m) r.whole tt;
        }
    front_can q n s p a ta e Union x o hx l tf h bounds lets named m acc b =
        let r = front_typed Union q p a.type (typing names q x).type x tf h in false_true q.sets s r.may
    front_can q n s p a ta e ShiftLeft x o hx l tf h bounds lets named m acc b =
        let r = front_typed ShiftLeft q p a.type (typing names (single q) x).type x tf h in
        let same : ta ≡ tf = some_same ta r.left (sym e ∙ r.left_is) ∙ r.whole in
        let k = amount_is (number_of x) r.left r.shifted in
        let g : Front bounds r.left m acc = subst (λ z. Front bounds z m acc) (some_same ta r.left (sym e ∙ r.left_is)) b in
        record {
          stands = subst (λ z. Has bounds (words_term OnWords.Sll acc (word_term m (amount_of (flat_tree names leaf (single q) under x)))) z) r.whole (shift_stands bounds OnWords.Sll r.left m (amount_of (flat_tree names leaf (single q) under x)) k.0 acc refl (λ k. refl) r.fits k.2 (number_kept names leaf (single q) under x k.0 k.1) g);
          fits = subst TypeFits same b.fits;
          wide = subst (λ z. IsAsWide z m) same b.wide;
        }
    front_can q n s p a ta e ShiftRight x o hx l tf h bounds lets named m acc b =
        let r = front_typed ShiftRight q p a.type (typing names (single q) x).type x tf h in
        let same : ta ≡ tf = some_same ta r.left (sym e ∙ r.left_is) ∙ r.whole in
        let k = amount_is (number_of x) r.left r.shifted in
        let g : Front bounds r.left m acc = subst (λ z. Front bounds z m acc) (some_same ta r.left (sym e ∙ r.left_is)) b in
        record {
          stands = subst (λ z. Has bounds (words_term OnWords.Srl acc (word_term m (amount_of (flat_tree names leaf (single q) under x)))) z) r.whole (shift_stands bounds OnWords.Srl r.left m (amount_of (flat_tree names leaf (single q) under x)) k.0 acc refl (λ k. refl) r.fits k.2 (number_kept names leaf (single q) under x k.0 k.1) g);
          fits = subst TypeFits same b.fits;
          wide = subst (λ z. IsAsWide z m) same b.wide;
        }
    front_can q n s p a ta e i x o hx l tf h bounds lets named m acc b = plain_can q n s p a ta e i refl x o hx l tf h bounds lets named m acc b

    -- ---- what is asked of the parts of a chain

    abbrev Folds : Links → Type 0
    Folds ls = (q : Position) → IsAllowedPrime primes q.nexts → q.sets ≡ false → (p : Place) (a : Typing) (ta : ExprType) → a.type ≡ Some ta → fronts_width names q p a ls ≤ c.width → (t : ExprType) → (linked names q p a ls).type ≡ Some t
        → (bounds : List Local) → AreLetNames bounds → (m : ℕ) (acc : Tree) → Front bounds ta m acc → Has bounds (folded_term c (length bounds) m acc (flat_links names leaf q under ls)) t

    abbrev Joins : Links → Type 0
    Joins ls = (q : Position) → IsAllowedPrime primes q.nexts → q.sets ≡ false → (p : Place) (a : Typing) (ta : ExprType) → a.type ≡ Some ta → (j : Infix) → joins_with j j ≡ true → fronts_width names q p a ls ≤ c.width → (t : ExprType) → (linked names q p a ls).type ≡ Some t
        → all_join_with j (flat_links names leaf q under ls) ≡ true
        → (sort_of c.width t ≡ sort_of c.width ta) × ((bounds : List Local) → AreLetNames bounds → AreWellScoped (ctx enums vars primes) bounds (link_terms c (length bounds) (flat_links names leaf q under ls)) (copies (sort_of c.width ta) (link_terms c (length bounds) (flat_links names leaf q under ls))))

    abbrev Unions : Links → Type 0
    Unions ls = (q : Position) → IsAllowedPrime primes q.nexts → (p : Place) (a : Typing) (ta : ExprType) → a.type ≡ Some ta → fronts_width names q p a ls ≤ c.width → are_unions ls ≡ true → (t : ExprType) → (linked names q p a ls).type ≡ Some t
        → (sort_of c.width t ≡ sort_of c.width ta) × ((bounds : List Local) → AreLetNames bounds → (y : Tree) → Has bounds y ta
        → AreWellScoped (ctx enums vars primes) bounds (link_members c (length bounds) y (flat_links names leaf q under ls)) (copies sort.Truth (link_members c (length bounds) y (flat_links names leaf q under ls))))

    abbrev Implications : Links → Type 0
    Implications ls = (at : Position) → IsAllowedPrime primes at.nexts → (u : ExprType) (us : List ExprType) → implied_width names (single at) ls ≤ c.width → all_types (link_types names (single at) ls) ≡ Some us → list_all (logical_fits u) us ≡ true → are_implies ls ≡ true
        → (bounds : List Local) → AreLetNames bounds → (a : Tree) → Has bounds a u → Has bounds (implied_term c (length bounds) a (flat_links names leaf (single at) under ls)) u

    left_can : (q : Position) → IsAllowedPrime primes q.nexts → q.sets ≡ false → (p : Place) (e : Expression) (i : Infix) (x : Expression) (ls : Links) → has_operators e ≡ true → has_operators x ≡ true → Each under e → Each under x → Folds ls
        → expression_width names q e ≤ c.width → fronts_width names q p (typing names q e) (link i x ls) ≤ c.width → (t : ExprType) → (linked names q p (typing names q e) (link i x ls)).type ≡ Some t
        → (bounds : List Local) → AreLetNames bounds
        → Has bounds (folded_term c (length bounds) (front_width i (word_width (flat_tree names leaf q under e)) (word_width (flat_tree names leaf (behind i q) under x)))
        (link_term i (is_word (flat_tree names leaf (behind i q) under x)) (word_width (flat_tree names leaf q under e)) (amount_of (flat_tree names leaf (behind i q) under x)) ((translation c (flat_tree names leaf q under e)).term (length bounds)) ((translation c (flat_tree names leaf (behind i q) under x)).term (length bounds))
        (among_term (is_name (flat_tree names leaf q under e)) (length bounds) ((translation c (flat_tree names leaf q under e)).term (length bounds)) (translation c (flat_tree names leaf (behind i q) under x)).member)) (flat_links names leaf q under ls)) t
    left_can q n s p e i x ls oe ox he hx fold we wl t h bounds lets =
        let a = typing names q e in
        let fr = front i q p a (typing names (behind i q) x) x in
        let r = linked_typed names q p fr ls t h in
        let y = front_typed i q p a.type (typing names (behind i q) x).type x r.0 r.1 in
        let z = he q n we y.left y.left_is in
        let b : Front bounds y.left (word_width (flat_tree names leaf q under e)) ((translation c (flat_tree names leaf q under e)).term (length bounds)) = record {
          stands = z.value s bounds lets;
          fits = type_fits names f hf q s e y.left y.left_is;
          wide = subst (λ m. IsAsWide y.left m) (sym (ap width_in (type_kept names leaf q under e oe s y.left y.left_is))) (wide_of y.left);
        } in
        fold q n s p fr r.0 r.1 (omega (arith, wl)) t h bounds lets (front_width i (word_width (flat_tree names leaf q under e)) (word_width (flat_tree names leaf (behind i q) under x))) _
        (front_can q n s p a y.left y.left_is i x ox hx (omega (arith, wl)) r.0 r.1 bounds lets (is_name (flat_tree names leaf q under e)) (word_width (flat_tree names leaf q under e)) ((translation c (flat_tree names leaf q under e)).term (length bounds)) b)

    one_sign_can : (q : Position) → IsAllowedPrime primes q.nexts → q.sets ≡ false → (p : Place) (e : Expression) (i : Infix) (x : Expression) (ls : Links) → has_operators x ≡ true → Each under e → Joins (link i x ls)
        → expression_width names q e ≤ c.width → fronts_width names q p (typing names q e) (link i x ls) ≤ c.width → (t : ExprType) → (linked names q p (typing names q e) (link i x ls)).type ≡ Some t
        → joins_with i i ≡ true → all_join_with i (flat_links names leaf q under ls) ≡ true → (bounds : List Local) → AreLetNames bounds
        → Has bounds (apply (infix_op i (is_word (flat_tree names leaf (behind i q) under x))) (tree ((translation c (flat_tree names leaf q under e)).term (length bounds)) (tree ((translation c (flat_tree names leaf (behind i q) under x)).term (length bounds)) (link_terms c (length bounds) (flat_links names leaf q under ls))))) t
    one_sign_can q n s p e i x ls ox he one_sign we wl t h j all bounds lets =
        let a = typing names q e in
        let fr = front i q p a (typing names (behind i q) x) x in
        let r = linked_typed names q p fr ls t h in
        let y = front_typed i q p a.type (typing names (behind i q) x).type x r.0 r.1 in
        let z = he q n we y.left y.left_is in
        let free = plain_sets i q (joins_plain i j).0 in
        let k = one_sign q n s p a y.left y.left_is i j wl t h (two_true (joins_with i i) (all_join_with i (flat_links names leaf q under ls)) j all) in
        let ts = tree ((translation c (flat_tree names leaf q under e)).term (length bounds)) (tree ((translation c (flat_tree names leaf (behind i q) under x)).term (length bounds)) (link_terms c (length bounds) (flat_links names leaf q under ls))) in
        subst (λ w. Has bounds (apply (infix_op i w) ts) t) (sym (ap is_word_in (type_kept names leaf (behind i q) under x ox free y.right y.right_is)))
        (subst (IsWellScoped (ctx enums vars primes) bounds (apply (infix_op i (is_word_type y.right)) ts)) (sym k.0)
        (joined_stands c.width enums vars primes bounds i y.left y.right j y.fits _ _ _ (z.value s bounds lets, k.1 bounds lets)))

    union_can : (at : Position) → IsAllowedPrime primes at.nexts → (p : Place) (e : Expression) (i : Infix) (x : Expression) (ls : Links) → Each under e → Unions (link i x ls)
        → expression_width names at e ≤ c.width → fronts_width names at p (typing names at e) (link i x ls) ≤ c.width → (t : ExprType) → (linked names at p (typing names at e) (link i x ls)).type ≡ Some t
        → are_unions (link i x ls) ≡ true
        → Can t at.sets (set_translation (λ k y. any_term (tree ((translation c (flat_tree names leaf at under e)).member k y) (tree ((translation c (flat_tree names leaf (behind i at) under x)).member k y) (link_members c k y (flat_links names leaf at under ls))))))
    union_can at n p e i x ls he unions we wl t h u =
        let r = linked_typed names at p (typing names at e) (link i x ls) t h in
        let no : at.sets ≡ false → false ≡ true = λ s. sym (front_no_union names at p (typing names at e) (link i x ls) t refl s h) ∙ u in
        let m = unions at n p (typing names at e) r.0 r.1 wl u t h in
        record {
          value = λ s. absurd_bool (no s);
          member = λ bounds lets y i'.
              let here : Has bounds y r.0 = subst (IsWellScoped (ctx enums vars primes) bounds y) m.0 i' in
              any_stands enums vars primes bounds (truths false bounds lets) (tree ((translation c (flat_tree names leaf at under e)).member (length bounds) y) (link_members c (length bounds) y (flat_links names leaf at under (link i x ls))))
              ((he at n we r.0 r.1).member bounds lets y here, m.1 bounds lets y here);
        }

    right_can : (at : Position) → IsAllowedPrime primes at.nexts → (p : Place) (e : Expression) (i : Infix) (x : Expression) (ls : Links) → Each under e → Implications (link i x ls)
        → max (expression_width names (single at) e) (implied_width names (single at) (link i x ls)) ≤ c.width → (t : ExprType)
        → (if passes (check 16 p (on_all (all_types ((typing names (single at) e).type ∷ link_types names (single at) (link i x ls))) implies_fits) ∷ []) then option_map first_type (all_types ((typing names (single at) e).type ∷ link_types names (single at) (link i x ls))) else None) ≡ Some t
        → is_from_right (link i x ls) ≡ true → (bounds : List Local) → AreLetNames bounds
        → Has bounds (implied_term c (length bounds) ((translation c (flat_tree names leaf (single at) under e)).term (length bounds)) (flat_links names leaf (single at) under (link i x ls))) t
    right_can at n p e i x ls he implied w t h r bounds lets =
        let s = implies_typed p (all_types ((typing names (single at) e).type ∷ link_types names (single at) (link i x ls))) t h in
        let k = all_cons (typing names (single at) e).type (link_types names (single at) (link i x ls)) (s.0 ∷ s.1) s.2 in
        let fits : list_all (logical_fits k.0) k.1 ≡ true = subst (λ xs. implies_fits xs ≡ true) (sym k.4) s.3 in
        let same : k.0 ≡ t = ap first_type k.4 ∙ s.4 in
        let z = he (single at) n (omega (arith, w)) k.0 k.2 in
        subst (λ u. Has bounds (implied_term c (length bounds) ((translation c (flat_tree names leaf (single at) under e)).term (length bounds)) (flat_links names leaf (single at) under (link i x ls))) u) same (implied at n k.0 k.1 (omega (arith, w)) k.3 fits r bounds lets ((translation c (flat_tree names leaf (single at) under e)).term (length bounds)) (z.value refl bounds lets))

    chain_can : (at : Position) → IsAllowedPrime primes at.nexts → (p : Place) (e : Expression) (i : Infix) (x : Expression) (ls : Links) → has_operators (chain p e (link i x ls)) ≡ true → Each under e → Each under x → Folds ls → Joins (link i x ls) → Unions (link i x ls) → Implications (link i x ls)
        → expression_width names at (chain p e (link i x ls)) ≤ c.width
        → (t : ExprType) → (typing names at (chain p e (link i x ls))).type ≡ Some t → Can t at.sets (translation c (flat_tree names leaf at under (chain p e (link i x ls))))
    chain_can at n p e i x ls o he hx fold one_sign unions implied l t h =
        let q = across (link i x ls) at in
        let nq : IsAllowedPrime primes q.nexts = subst (IsAllowedPrime primes) (sym (across_nexts (link i x ls) at)) n in
        let fls = flat_links names leaf q under ls in
        let wi = width_if (is_from_right (link i x ls)) (max (expression_width names (single at) e) (implied_width names (single at) (link i x ls))) (max (expression_width names q e) (fronts_width names q p (typing names q e) (link i x ls))) (node_width (typing names at (chain p e (link i x ls))).type) c.width l in
        let ti = typed_if (is_from_right (link i x ls)) _ (linked names q p (typing names q e) (link i x ls)) t h in
        by_cases (is_from_right (link i x ls))
        (λ r.
        let nu : are_unions (link i x ls) ≡ false = right_no_union (link i x ls) r in
        let eq : single at ≡ q = sym (ap (λ u. if u then at else single at) nu) in
        pick_three (λ y. Can t at.sets y) (is_union i && are_flat_unions fls) (is_implies i && flat_are_implies fls) (joins_with i i && all_join_with i fls) _ _ _ _
        (λ u. absurd_bool (sym nu ∙ sym (ap (λ y. is_union i && y) (unions_flat names leaf q under ls)) ∙ u))
        (λ u y. value_can (sort_of c.width t) at.sets (λ n. infix_term Implies (is_word (flat_tree names leaf (behind i q) under x)) ((translation c (flat_tree names leaf q under e)).term n) (implied_term c n ((translation c (flat_tree names leaf (behind i q) under x)).term n) fls))
        (λ bounds lets. subst (λ q. Has bounds (implied_term c (length bounds) ((translation c (flat_tree names leaf q under e)).term (length bounds)) (flat_links names leaf q under (link i x ls))) t) eq
        (right_can at n p e i x ls he implied (wi.0 r) t (ti.0 r) r bounds lets)))
        (λ u y j. absurd_bool (sym y ∙ ap (λ y. is_implies i && y) (implies_flat names leaf q under ls) ∙ r))
        (λ u y j. absurd_bool (sym y ∙ ap (λ y. is_implies i && y) (implies_flat names leaf q under ls) ∙ r)))
        (λ r.
        let b = both_true (has_operators e) (link_operators (link i x ls)) o in
        let b' = both_true (has_operators x) (link_operators ls) b.1 in
        let w = wi.1 r in
        let ht = ti.1 r in
        let we : expression_width names q e ≤ c.width = omega (arith, w) in
        let wl : fronts_width names q p (typing names q e) (link i x ls) ≤ c.width = omega (arith, w) in
        pick_three (λ y. Can t at.sets y) (is_union i && are_flat_unions fls) (is_implies i && flat_are_implies fls) (joins_with i i && all_join_with i fls) _ _ _ _
        (λ u.
        let us : are_unions (link i x ls) ≡ true = sym (ap (λ y. is_union i && y) (unions_flat names leaf q under ls)) ∙ u in
        subst (λ y. Can t y.sets (set_translation (λ k y. any_term (tree ((translation c (flat_tree names leaf q under e)).member k y) (tree ((translation c (flat_tree names leaf (behind i q) under x)).member k y) (link_members c k y fls)))))) (ap (λ y. if y then at else single at) us)
        (union_can q nq p e i x ls he unions we wl t ht us))
        (λ u y. absurd_bool (sym r ∙ sym (ap (λ y. is_implies i && y) (implies_flat names leaf q under ls)) ∙ y))
        (λ u y j.
        let nu : are_unions (link i x ls) ≡ false = sym (ap (λ y. is_union i && y) (unions_flat names leaf q under ls)) ∙ u in
        let s : q.sets ≡ false = ap (λ (y : Bool). (if y then at else single at).sets) nu in
        let js = both_true (joins_with i i) (all_join_with i fls) j in
        value_can (sort_of c.width t) at.sets (λ n. apply (infix_op i (is_word (flat_tree names leaf (behind i q) under x))) (tree ((translation c (flat_tree names leaf q under e)).term n) (tree ((translation c (flat_tree names leaf (behind i q) under x)).term n) (link_terms c n fls))))
        (λ bounds lets. one_sign_can q nq s p e i x ls b'.0 he one_sign we wl t ht js.0 js.1 bounds lets))
        (λ u y j.
        let nu : are_unions (link i x ls) ≡ false = sym (ap (λ y. is_union i && y) (unions_flat names leaf q under ls)) ∙ u in
        let s : q.sets ≡ false = ap (λ (y : Bool). (if y then at else single at).sets) nu in
        value_can (sort_of c.width t) at.sets (λ n. folded_term c n (front_width i (word_width (flat_tree names leaf q under e)) (word_width (flat_tree names leaf (behind i q) under x))) (link_term i (is_word (flat_tree names leaf (behind i q) under x)) (word_width (flat_tree names leaf q under e)) (amount_of (flat_tree names leaf (behind i q) under x)) ((translation c (flat_tree names leaf q under e)).term n) ((translation c (flat_tree names leaf (behind i q) under x)).term n)
        (among_term (is_name (flat_tree names leaf q under e)) n ((translation c (flat_tree names leaf q under e)).term n) (translation c (flat_tree names leaf (behind i q) under x)).member)) fls)
        (λ bounds lets. left_can q nq s p e i x ls b.0 b'.0 he hx fold we wl t ht bounds lets)))

    -- ---- functions

    -- what is said of the first argument
    abbrev FirstCan : Expressions → Type 0
    FirstCan no_expressions = Unit {0}
    FirstCan (expression e es) = Each under e

    first_is : (at : Position) (es : Expressions) → part_operators es ≡ true → (us : List ExprType) → all_types (tree_types names (single at) es) ≡ Some us → function_fits OfFunction.Toint us ≡ true
        → (arguments_of (flat_trees names leaf (single at) under es)).width ≡ type_width (first_type us)
    first_is at no_expressions o [] h fits = absurd_bool fits
    first_is at no_expressions o (u ∷ us) h fits = cc
    first_is at (expression e es) o us h fits =
        let m = all_cons (typing names (single at) e).type (tree_types names (single at) es) us h in
        ap width_in (type_kept names leaf (single at) under e (both_true (has_operators e) (part_operators es) o).0 refl m.0 m.2) ∙ ap (λ z. type_width (first_type z)) m.4

    abbrev Called : Position → Function → Expressions → List Local → Sort → Type 0
    Called at fn es bounds s = IsWellScoped (ctx enums vars primes) bounds (function_term c.width (length bounds) fn (arguments_of (flat_trees names leaf (single at) under es)) (terms c (length bounds) (flat_trees names leaf (single at) under es))) s

    call_can : (at : Position) → IsAllowedPrime primes at.nexts → (fn : Function) (es : Expressions) → part_operators es ≡ true → FirstCan es
        → arguments_width fn (first_part_width names (single at) es) (part_width names (single at) es) ≤ c.width → (us : List ExprType) → all_types (tree_types names (single at) es) ≡ Some us
        → (bounds : List Local) → AreLetNames bounds → (part_width names (single at) es ≤ c.width → AreWellScoped (ctx enums vars primes) bounds (terms c (length bounds) (flat_trees names leaf (single at) under es)) (map (sort_of c.width) us))
        → function_fits fn us ≡ true → arguments_fit fn us (numbers_of es) ≡ true → integers_width (function_type fn us (numbers_of es)) ≤ c.width → Called at fn es bounds (sort_of c.width (function_type fn us (numbers_of es)))
    call_can at n OfFunction.Bool es o hfirst l us h bounds lets args fits numbers kept =
        bool_stands c.width some most enums vars primes bounds (arguments_of (flat_trees names leaf (single at) under es)) us (terms c (length bounds) (flat_trees names leaf (single at) under es)) fits (args l)
    call_can at n OfFunction.Word1 es o hfirst l us h bounds lets args fits numbers kept =
        word1_stands c.width some most enums vars primes bounds (arguments_of (flat_trees names leaf (single at) under es)) us (terms c (length bounds) (flat_trees names leaf (single at) under es)) fits (args l)
    call_can at n OfFunction.Toint es o hfirst l us h bounds lets args fits numbers kept =
        toint_stands c.width some most enums vars primes bounds (arguments_of (flat_trees names leaf (single at) under es)) us (terms c (length bounds) (flat_trees names leaf (single at) under es)) (first_is at es o us h fits) (toint_held c.width us (numbers_of es) kept) fits (args l)
    call_can at n OfFunction.Count es o hfirst l us h bounds lets args fits numbers kept =
        count_stands c.width some most enums vars primes bounds (arguments_of (flat_trees names leaf (single at) under es)) us (terms c (length bounds) (flat_trees names leaf (single at) under es)) fits (args l)
    call_can at n OfFunction.Max es o hfirst l us h bounds lets args fits numbers kept =
        subst (Called at OfFunction.Max es bounds) (sym (greater_sort c.width int_max us fits))
        (max_stands c.width some most enums vars primes bounds (arguments_of (flat_trees names leaf (single at) under es)) us (terms c (length bounds) (flat_trees names leaf (single at) under es)) fits (args l))
    call_can at n OfFunction.Min es o hfirst l us h bounds lets args fits numbers kept =
        subst (Called at OfFunction.Min es bounds) (sym (greater_sort c.width int_min us fits))
        (min_stands c.width some most enums vars primes bounds (arguments_of (flat_trees names leaf (single at) under es)) us (terms c (length bounds) (flat_trees names leaf (single at) under es)) fits (args l))
    call_can at n OfFunction.Abs es o hfirst l us h bounds lets args fits numbers kept =
        subst (Called at OfFunction.Abs es bounds) (sym (abs_sort c.width us fits))
        (abs_stands c.width some most enums vars primes bounds (arguments_of (flat_trees names leaf (single at) under es)) us (terms c (length bounds) (flat_trees names leaf (single at) under es)) fits (args l))
    call_can at n OfFunction.Uwconst (expression (number p v) (expression (number q m) no_expressions)) o hfirst l us h bounds lets args fits numbers kept =
        let b = both_true (is_width m) (nat_lt v (2 ^ m)) numbers in
        let d = width_of m b.0 in
        word_stands enums vars primes bounds m v d.0 d.1 (ltb-true v (2 ^ m) b.1)
    call_can at n OfFunction.Uwconst es o hfirst l us h bounds lets args fits numbers kept = absurd_bool numbers
    call_can at n OfFunction.Extend (expression e (expression (number q m) no_expressions)) o hfirst l us h bounds lets args fits numbers kept =
        let r = extend_fits (typing names (single at) e).type (typing names (single at) (number q m)).type us (number_of e) m h fits numbers in
        let k = all_cons (typing names (single at) e).type (tree_types names (single at) (expression (number q m) no_expressions)) us h in
        let same : r.0 ≡ first_type us = some_same r.0 k.0 (sym r.1 ∙ k.2) ∙ ap first_type k.4 in
        let x = (translation c (flat_tree names leaf (single at) under e)).term (length bounds) in
        subst (λ z. IsWellScoped (ctx enums vars primes) bounds (extended_term m x) (sort.Bits (type_width z + m))) same
        (word_cases (λ z. is_width (type_width z + m) ≡ true → Has bounds x z → IsWellScoped (ctx enums vars primes) bounds (extended_term m x) (sort.Bits (type_width z + m)))
        (λ i w j. extended_stands enums vars primes bounds m i x (width_of (i + m) w).1 j) r.0 r.2 r.3 ((hfirst (single at) n l r.0 r.1).value refl bounds lets))
    call_can at n OfFunction.Extend es o hfirst l us h bounds lets args fits numbers kept = absurd (extend_second us (numbers_of es) numbers)
    call_can at n OfFunction.Resize (expression e (expression (number q m) no_expressions)) o hfirst l us h bounds lets args fits numbers kept =
        let r = resize_fits (typing names (single at) e).type (typing names (single at) (number q m)).type us (number_of e) m h fits numbers in
        let b = (both_true (has_operators e) true o).0 in
        let x = (translation c (flat_tree names leaf (single at) under e)).term (length bounds) in
        let d = width_of m r.3 in
        subst (λ z. IsWellScoped (ctx enums vars primes) bounds (resized_term z m x) (sort.Bits m)) (sym (ap width_in (type_kept names leaf (single at) under e b refl r.0 r.1)))
        (word_cases (λ z. TypeFits z → Has bounds x z → IsWellScoped (ctx enums vars primes) bounds (resized_term (type_width z) m x) (sort.Bits m))
        (λ i w j. resized_stands enums vars primes bounds i m x w.1 d.0 d.1 j) r.0 r.2 (type_fits names f hf (single at) refl e r.0 r.1) ((hfirst (single at) n l r.0 r.1).value refl bounds lets))
    call_can at n OfFunction.Resize es o hfirst l us h bounds lets args fits numbers kept = absurd (resize_second us (numbers_of es) numbers)

  -- a condition is a truth value
  condition_stands : (t : ExprType) (x : Translation) → is_truth_type t ≡ true → Can t false x → (bounds : List Local) → AreLetNames bounds → IsWellScoped (ctx enums vars primes) bounds (x.term (length bounds)) sort.Truth
  condition_stands t x b h bounds lets = truth_case (λ z. Has bounds (x.term (length bounds)) z → IsWellScoped (ctx enums vars primes) bounds (x.term (length bounds)) sort.Truth) (λ k. k) t b (h.value refl bounds lets)

  mutual
    pub can : (under : Bool) → IsAllowedPrime primes under → (at : Position) → IsAllowedPrime primes at.nexts → (e : Expression) → has_operators e ≡ true → expression_width names at e ≤ c.width → (t : ExprType) → (typing names at e).type ≡ Some t
        → Can t at.sets (translation c (flat_tree names leaf at under e))
    can under up at n (truth p b) o l t h = as_sort sort.Truth (sort_of c.width t) at.sets _ (ap (sort_of c.width) (some_same truth_type t h)) (value_can sort.Truth at.sets (λ k. constant (datum.Truth b)) (λ bounds lets. truths b bounds lets))
    can under up at n (number p m) o l t h =
        as_sort (sort.Bits c.width) (sort_of c.width t) at.sets _ (ap (sort_of c.width) (some_same (integer_type (pos m) (pos m)) t (node_typed _ (Some (integer_type (pos m) (pos m))) t h).1))
        (value_can (sort.Bits c.width) at.sets (λ k. integer_term c.width (pos m)) (λ bounds lets. integer_stands enums vars primes bounds c.width (pos m) some most))
    can under up at n (literal p w) o l t h =
        let r = literal_whole w t h in
        as_sort (sort.Bits w.width) (sort_of c.width t) at.sets _ (ap (sort_of c.width) r.0) (value_can (sort.Bits w.width) at.sets (λ k. constant (datum.Bits w)) (λ bounds lets. (refl, r.1)))
    can under up at n (name p x) o l t h = leaf_can under (leaf x) (typing names at (name p x)).type t at.sets (leaves under up x t (node_typed _ (names x).type t h).1)
    can under up at n (prefix p sign m e) o l t h =
        let r = prefix_whole p sign m (typing names (single at) e).type t h in
        let i = can under up (single at) n e o (omega (arith, l)) r.0 r.1 in
        let x = translation c (flat_tree names leaf (single at) under e) in
        as_sort (sort_of c.width r.0) (sort_of c.width t) at.sets _ (sym (prefix_sort c.width sign m r.0) ∙ ap (sort_of c.width) r.3)
        (value_can (sort_of c.width r.0) at.sets (λ k. repeated (sign_op sign (is_word (flat_tree names leaf (single at) under e))) m (x.term k))
        (λ bounds lets. subst (λ b. Has bounds (repeated (sign_op sign b) m (x.term (length bounds))) r.0) (sym (ap is_word_in (type_kept names leaf (single at) under e o refl r.0 r.1)))
        (sign_stands c.width enums vars primes bounds sign m r.0 (x.term (length bounds)) r.2 (i.value refl bounds lets))))
    can under up at n (chain p e no_links) o l t h = absurd_bool (both_true false (has_operators e && true) o).0
    can under up at n (chain p e (link i x ls)) o l t h =
        let b = both_true (has_operators e) (link_operators (link i x ls)) o in
        let b' = both_true (has_operators x) (link_operators ls) b.1 in
        chain_can under at n p e i x ls o (λ q m w u k. can under up q m e b.0 w u k) (λ q m w u k. can under up q m x b'.0 w u k)
        (λ q m s p a ta z w u k bounds lets d acc y. folded_can under up q m s p a ta z ls b'.1 w u k bounds lets d acc y)
        (λ q m s p a ta z j d w u k all. joined_can under up q m s p a ta z j d (link i x ls) b.1 w u k all)
        (λ q m p a ta z w d u k. unions_can under up q m p a ta z (link i x ls) b.1 w d u k)
        (λ q m u us w k d z bounds lets a y. implied_can under up q m u us (link i x ls) b.1 w k d z bounds lets a y) l t h
    can under up at n (choice p bs e) o l t h =
        let q = both_true (branch_operators bs) (has_operators e) o in
        let r = branches_whole p (all_types (condition_types names (single at) bs)) (all_types (value_types names at bs ((typing names at e).type ∷ []))) t h in
        let s = hull_of_sorts c.width r.1 r.5 in
        as_sort (sort_of c.width (hull_of r.1)) (sort_of c.width t) at.sets _ (ap (sort_of c.width) r.6)
        (chosen_can under up at n bs (typing names at e).type (translation c (flat_tree names leaf at under e)) (λ u k. can under up at n e q.1 (omega (arith, l)) u k) q.0 (omega (arith, l)) r.0 r.2 r.4 r.1 r.3 (sort_of c.width (hull_of r.1)) s)
    can under up at n (cases p no_branches) o l t h = absurd_bool (node_typed (passes (check 16 p false ∷ [])) (Some truth_type) t h).0
    can under up at n (cases p (branch k e rest)) o l t h =
        let r = branches_whole p (all_types (condition_types names (single at) (branch k e rest))) (all_types (value_types names at (branch k e rest) [])) t h in
        let s = hull_of_sorts c.width r.1 r.5 in
        as_sort (sort_of c.width (hull_of r.1)) (sort_of c.width t) at.sets _ (ap (sort_of c.width) r.6)
        (taken_can under up at n (branch k e rest) refl o (omega (arith, l)) r.0 r.2 r.4 r.1 r.3 (sort_of c.width (hull_of r.1)) s)
    can under up at n (select p e high low) o l t h =
        let r = select_whole p high low (typing names (single at) e).type t h in
        let i = can under up (single at) n e o (omega (arith, l)) r.0 r.1 in
        let x = translation c (flat_tree names leaf (single at) under e) in
        let b = select_bounds r.0 high low r.3 in
        as_sort (sort.Bits (high - low + 1)) (sort_of c.width t) at.sets _ (ap (sort_of c.width) r.4)
        (value_can (sort.Bits (high - low + 1)) at.sets (λ k. selected_term (word_width (flat_tree names leaf (single at) under e)) high low (x.term k))
        (λ bounds lets. subst (λ m. IsWellScoped (ctx enums vars primes) bounds (selected_term m high low (x.term (length bounds))) (sort.Bits (high - low + 1))) (sym (ap width_in (type_kept names leaf (single at) under e o refl r.0 r.1)))
        (word_cases (λ z. TypeFits z → high < type_width z → Has bounds (x.term (length bounds)) z → IsWellScoped (ctx enums vars primes) bounds (selected_term (type_width z) high low (x.term (length bounds))) (sort.Bits (high - low + 1)))
        (λ m w g j. selected_stands enums vars primes bounds high low m (x.term (length bounds)) w.1 g b.1 j) r.0 r.2 (type_fits names f hf (single at) refl e r.0 r.1) b.0 (i.value refl bounds lets))))
    can under up at n (call p fn es) o l t h =
        let r = call_typed p fn (all_types (tree_types names (single at) es)) (numbers_of es) t h in
        let ts = flat_trees names leaf (single at) under es in
        as_sort (sort_of c.width (function_type fn r.0 (numbers_of es))) (sort_of c.width t) at.sets _ (ap (sort_of c.width) r.4)
        (value_can (sort_of c.width (function_type fn r.0 (numbers_of es))) at.sets (λ k. function_term c.width k fn (arguments_of ts) (terms c k ts))
        (λ bounds lets. call_can under at n fn es o (first_can under up es o) (omega (arith, l)) r.0 r.1 bounds lets (λ w. arguments_can under up at n es o w r.0 r.1 bounds lets) r.2 r.3
        (subst (λ u. integers_width u ≤ c.width) (sym r.4) (type_held at (call p fn es) l t h))))
    can under up at n (next p e) o l t h =
        let r = node_typed (passes (check 19 p at.nexts ∷ [])) (typing names under_next e).type t h in
        let now : at.nexts ≡ true = (both_true at.nexts true r.0).0 in
        any_can (sort_of c.width t) at.sets (translation c (flat_tree names leaf under_next true e))
        (can true (subst (IsAllowedPrime primes) now n) under_next (never_primed primes) e o (omega (arith, l)) t r.1)
    can under up at n (set p es) o l t h =
        let r = set_typed p (all_types (tree_types names at es)) at.sets t h in
        record {
          value = λ s. false_true at.sets s r.3;
          member = λ bounds lets y i.
              any_stands enums vars primes bounds (truths false bounds lets) (members c (length bounds) y (flat_trees names leaf at under es))
              (members_can under up at n es o (omega (arith, l)) r.0 r.1 (sort_of c.width (hull_of r.0)) (hull_of_sorts c.width r.0 r.2) bounds lets y
              (subst (λ z. Has bounds y z) (sym r.4) i));
        }
    can under up at n (range p low high) o l t h =
        let r = range_typed p low high at.sets t h in
        record {
          value = λ s. false_true at.sets s r.0;
          member = λ bounds lets y i. between_stands enums vars primes bounds c.width low high y some most (subst (λ z. Has bounds y z) (sym r.2) i);
        }

    chosen_can : (under : Bool) → IsAllowedPrime primes under → (at : Position) → IsAllowedPrime primes at.nexts → (bs : Branches) (z : Option ExprType) (x : Translation) → ((u : ExprType) → z ≡ Some u → Can u at.sets x)
        → branch_operators bs ≡ true → branch_width names at bs ≤ c.width → (qs : List ExprType) → all_types (condition_types names (single at) bs) ≡ Some qs → list_all is_truth_type qs ≡ true
        → (us : List ExprType) → all_types (value_types names at bs (z ∷ [])) ≡ Some us → (s : Sort) → AllByRecursion (λ u. sort_of c.width u ≡ s) us
        → CanAppear (ctx enums vars primes) s at.sets (chosen_translation c (flat_branches names leaf at under bs) x)
    chosen_can under up at n no_branches z x i o l qs a g us h s all =
        let k = all_cons z [] us h in
        let d = subst (AllByRecursion (λ u. sort_of c.width u ≡ s)) (sym k.4) all in
        as_sort (sort_of c.width k.0) s at.sets x d.0 (i k.0 k.2)
    chosen_can under up at n (branch q v rest) z x i o l qs a g us h s all =
        let k = all_cons (typing names at v).type (value_types names at rest (z ∷ [])) us h in
        let m = all_cons (typing names (single at) q).type (condition_types names (single at) rest) qs a in
        let b = both_true (has_operators q) (has_operators v && branch_operators rest) o in
        let b' = both_true (has_operators v) (branch_operators rest) b.1 in
        let gs : list_all is_truth_type (m.0 ∷ m.1) ≡ true = subst (λ ts. list_all is_truth_type ts ≡ true) (sym m.4) g in
        let g' = both_true (is_truth_type m.0) (list_all is_truth_type m.1) gs in
        let d = subst (AllByRecursion (λ u. sort_of c.width u ≡ s)) (sym k.4) all in
        choice_can s at.sets (translation c (flat_tree names leaf (single at) under q)) (translation c (flat_tree names leaf at under v)) (chosen_translation c (flat_branches names leaf at under rest) x)
        (condition_stands m.0 (translation c (flat_tree names leaf (single at) under q)) g'.0 (can under up (single at) n q b.0 (omega (arith, l)) m.0 m.2)) (as_sort (sort_of c.width k.0) s at.sets _ d.0 (can under up at n v b'.0 (omega (arith, l)) k.0 k.2))
        (chosen_can under up at n rest z x i b'.1 (omega (arith, l)) m.1 m.3 g'.1 k.1 k.3 s d.1)

    taken_can : (under : Bool) → IsAllowedPrime primes under → (at : Position) → IsAllowedPrime primes at.nexts → (bs : Branches) → is_last bs ≡ false → branch_operators bs ≡ true → branch_width names at bs ≤ c.width
        → (qs : List ExprType) → all_types (condition_types names (single at) bs) ≡ Some qs → list_all is_truth_type qs ≡ true
        → (us : List ExprType) → all_types (value_types names at bs []) ≡ Some us → (s : Sort) → AllByRecursion (λ u. sort_of c.width u ≡ s) us
        → CanAppear (ctx enums vars primes) s at.sets (taken_translation c (flat_branches names leaf at under bs))
    taken_can under up at n no_branches x o l qs a g us h s all = absurd_bool (sym x)
    taken_can under up at n (branch q v no_branches) x o l qs a g us h s all =
        let k = all_cons (typing names at v).type [] us h in
        let b = both_true (has_operators q) (has_operators v && true) o in
        let b' = both_true (has_operators v) true b.1 in
        let d = subst (AllByRecursion (λ u. sort_of c.width u ≡ s)) (sym k.4) all in
        as_sort (sort_of c.width k.0) s at.sets _ d.0 (can under up at n v b'.0 (omega (arith, l)) k.0 k.2)
    taken_can under up at n (branch q v (branch r w rest)) x o l qs a g us h s all =
        let k = all_cons (typing names at v).type (value_types names at (branch r w rest) []) us h in
        let m = all_cons (typing names (single at) q).type (condition_types names (single at) (branch r w rest)) qs a in
        let b = both_true (has_operators q) (has_operators v && branch_operators (branch r w rest)) o in
        let b' = both_true (has_operators v) (branch_operators (branch r w rest)) b.1 in
        let gs : list_all is_truth_type (m.0 ∷ m.1) ≡ true = subst (λ ts. list_all is_truth_type ts ≡ true) (sym m.4) g in
        let g' = both_true (is_truth_type m.0) (list_all is_truth_type m.1) gs in
        let d = subst (AllByRecursion (λ u. sort_of c.width u ≡ s)) (sym k.4) all in
        choice_can s at.sets (translation c (flat_tree names leaf (single at) under q)) (translation c (flat_tree names leaf at under v)) (taken_translation c (flat_branches names leaf at under (branch r w rest)))
        (condition_stands m.0 (translation c (flat_tree names leaf (single at) under q)) g'.0 (can under up (single at) n q b.0 (omega (arith, l)) m.0 m.2)) (as_sort (sort_of c.width k.0) s at.sets _ d.0 (can under up at n v b'.0 (omega (arith, l)) k.0 k.2))
        (taken_can under up at n (branch r w rest) refl b'.1 (omega (arith, l)) m.1 m.3 g'.1 k.1 k.3 s d.1)

    members_can : (under : Bool) → IsAllowedPrime primes under → (at : Position) → IsAllowedPrime primes at.nexts → (es : Expressions) → part_operators es ≡ true → part_width names at es ≤ c.width → (us : List ExprType) → all_types (tree_types names at es) ≡ Some us
        → (s : Sort) → AllByRecursion (λ u. sort_of c.width u ≡ s) us → (bounds : List Local) → AreLetNames bounds → (y : Tree) → IsWellScoped (ctx enums vars primes) bounds y s
        → AreWellScoped (ctx enums vars primes) bounds (members c (length bounds) y (flat_trees names leaf at under es)) (copies sort.Truth (members c (length bounds) y (flat_trees names leaf at under es)))
    members_can under up at n no_expressions o l us h s all bounds lets y i = tt
    members_can under up at n (expression e es) o l us h s all bounds lets y i =
        let m = all_cons (typing names at e).type (tree_types names at es) us h in
        let b = both_true (has_operators e) (part_operators es) o in
        let d = subst (AllByRecursion (λ u. sort_of c.width u ≡ s)) (sym m.4) all in
        ((can under up at n e b.0 (omega (arith, l)) m.0 m.2).member bounds lets y (subst (IsWellScoped (ctx enums vars primes) bounds y) (sym d.0) i), members_can under up at n es b.1 (omega (arith, l)) m.1 m.3 s d.1 bounds lets y i)

    arguments_can : (under : Bool) → IsAllowedPrime primes under → (at : Position) → IsAllowedPrime primes at.nexts → (es : Expressions) → part_operators es ≡ true → part_width names (single at) es ≤ c.width → (us : List ExprType) → all_types (tree_types names (single at) es) ≡ Some us
        → (bounds : List Local) → AreLetNames bounds → AreWellScoped (ctx enums vars primes) bounds (terms c (length bounds) (flat_trees names leaf (single at) under es)) (map (sort_of c.width) us)
    arguments_can under up at n no_expressions o l [] h bounds lets = tt
    arguments_can under up at n no_expressions o l (u ∷ us) h bounds lets = cc
    arguments_can under up at n (expression e es) o l us h bounds lets =
        let m = all_cons (typing names (single at) e).type (tree_types names (single at) es) us h in
        let b = both_true (has_operators e) (part_operators es) o in
        subst (λ z. AreWellScoped (ctx enums vars primes) bounds (terms c (length bounds) (flat_trees names leaf (single at) under (expression e es))) (map (sort_of c.width) z)) m.4
        ((can under up (single at) n e b.0 (omega (arith, l)) m.0 m.2).value refl bounds lets, arguments_can under up at n es b.1 (omega (arith, l)) m.1 m.3 bounds lets)

    folded_can : (under : Bool) → IsAllowedPrime primes under → (q : Position) → IsAllowedPrime primes q.nexts → q.sets ≡ false → (p : Place) (a : Typing) (ta : ExprType) → a.type ≡ Some ta → (ls : Links) → link_operators ls ≡ true
        → fronts_width names q p a ls ≤ c.width → (t : ExprType) → (linked names q p a ls).type ≡ Some t → (bounds : List Local) → AreLetNames bounds → (m : ℕ) (acc : Tree) → Front bounds ta m acc
        → Has bounds (folded_term c (length bounds) m acc (flat_links names leaf q under ls)) t
    folded_can under up q n s p a ta e no_links o l t h bounds lets m acc b = subst (λ z. Has bounds acc z) (some_same ta t (sym e ∙ h)) b.stands
    folded_can under up q n s p a ta e (link i x ls) o l t h bounds lets m acc b =
        let k = both_true (has_operators x) (link_operators ls) o in
        let fr = front i q p a (typing names (behind i q) x) x in
        let r = linked_typed names q p fr ls t h in
        folded_can under up q n s p fr r.0 r.1 ls k.1 (omega (arith, l)) t h bounds lets (front_width i m (word_width (flat_tree names leaf (behind i q) under x))) _
        (front_can under q n s p a ta e i x k.0 (λ z y w u d. can under up z y x k.0 w u d) (omega (arith, l)) r.0 r.1 bounds lets false m acc b)

    joined_can : (under : Bool) → IsAllowedPrime primes under → (q : Position) → IsAllowedPrime primes q.nexts → q.sets ≡ false → (p : Place) (a : Typing) (ta : ExprType) → a.type ≡ Some ta → (j : Infix) → joins_with j j ≡ true → (ls : Links)
        → link_operators ls ≡ true → fronts_width names q p a ls ≤ c.width → (t : ExprType) → (linked names q p a ls).type ≡ Some t → all_join_with j (flat_links names leaf q under ls) ≡ true
        → (sort_of c.width t ≡ sort_of c.width ta) × ((bounds : List Local) → AreLetNames bounds → AreWellScoped (ctx enums vars primes) bounds (link_terms c (length bounds) (flat_links names leaf q under ls)) (copies (sort_of c.width ta) (link_terms c (length bounds) (flat_links names leaf q under ls))))
    joined_can under up q n s p a ta e j d no_links o l t h all = (ap (sort_of c.width) (some_same t ta (sym h ∙ e)), (λ bounds lets. tt))
    joined_can under up q n s p a ta e j d (link i x ls) o l t h all =
        let k = both_true (has_operators x) (link_operators ls) o in
        let all' = both_true (joins_with j i) (all_join_with j (flat_links names leaf q under ls)) all in
        let d' : joins_with i i ≡ true = subst (λ z. joins_with z z ≡ true) (joins_same j i all'.0) d in
        let plain = (joins_plain i d').0 in
        let free = plain_sets i q plain in
        let fr = front i q p a (typing names (behind i q) x) x in
        let r = linked_typed names q p fr ls t h in
        let y = front_typed i q p a.type (typing names (behind i q) x).type x r.0 r.1 in
        let same : ta ≡ y.left = some_same ta y.left (sym e ∙ y.left_is) in
        let z = can under up (behind i q) (subst (IsAllowedPrime primes) (sym (behind_nexts i q)) n) x k.0 (subst (λ m. m ≤ c.width) (plain_width i (expression_width names (behind i q) x) plain) (omega (arith, l))) y.right y.right_is in
        let front_sort : sort_of c.width r.0 ≡ sort_of c.width ta = ap (sort_of c.width) (sym y.whole) ∙ joined_type c.width i y.left y.right x d' y.fits ∙ ap (sort_of c.width) (sym same) in
        let one_sort : sort_of c.width y.right ≡ sort_of c.width ta = joined_sort c.width i y.left y.right d' y.fits ∙ ap (sort_of c.width) (sym same) in
        let w = joined_can under up q n s p fr r.0 r.1 j d ls k.1 (omega (arith, l)) t h all'.1 in (
          w.0 ∙ front_sort,
          (λ bounds lets. (
            subst (IsWellScoped (ctx enums vars primes) bounds ((translation c (flat_tree names leaf (behind i q) under x)).term (length bounds))) one_sort (z.value free bounds lets),
            subst (λ v. AreWellScoped (ctx enums vars primes) bounds (link_terms c (length bounds) (flat_links names leaf q under ls)) (copies v (link_terms c (length bounds) (flat_links names leaf q under ls)))) front_sort (w.1 bounds lets),
          )),
        )

    unions_can : (under : Bool) → IsAllowedPrime primes under → (q : Position) → IsAllowedPrime primes q.nexts → (p : Place) (a : Typing) (ta : ExprType) → a.type ≡ Some ta → (ls : Links) → link_operators ls ≡ true → fronts_width names q p a ls ≤ c.width → are_unions ls ≡ true
        → (t : ExprType) → (linked names q p a ls).type ≡ Some t
        → (sort_of c.width t ≡ sort_of c.width ta) × ((bounds : List Local) → AreLetNames bounds → (y : Tree) → Has bounds y ta
        → AreWellScoped (ctx enums vars primes) bounds (link_members c (length bounds) y (flat_links names leaf q under ls)) (copies sort.Truth (link_members c (length bounds) y (flat_links names leaf q under ls))))
    unions_can under up q n p a ta e no_links o l d t h = (ap (sort_of c.width) (some_same t ta (sym h ∙ e)), (λ bounds lets y i. tt))
    unions_can under up q n p a ta e (link Union x ls) o l d t h =
        let b = both_true (has_operators x) (link_operators ls) o in
        let fr = front Union q p a (typing names q x) x in
        let r = linked_typed names q p fr ls t h in
        let z = front_typed Union q p a.type (typing names q x).type x r.0 r.1 in
        let same : ta ≡ z.left = some_same ta z.left (sym e ∙ z.left_is) in
        let front_sort : sort_of c.width r.0 ≡ sort_of c.width ta = ap (sort_of c.width) (sym z.whole) ∙ hull_sort c.width z.left z.right ∙ ap (sort_of c.width) (sym same) in
        let one_sort : sort_of c.width z.right ≡ sort_of c.width ta = same_sort_of c.width z.left z.right z.fits ∙ ap (sort_of c.width) (sym same) in
        let w = unions_can under up q n p fr r.0 r.1 ls b.1 (omega (arith, l)) d t h in (
          w.0 ∙ front_sort,
          (λ bounds lets y i. (
            (can under up q n x b.0 (omega (arith, l)) z.right z.right_is).member bounds lets y (subst (IsWellScoped (ctx enums vars primes) bounds y) (sym one_sort) i),
            w.1 bounds lets y (subst (IsWellScoped (ctx enums vars primes) bounds y) (sym front_sort) i),
          )),
        )
    unions_can under up q n p a ta e (link i x ls) o l d t h = absurd_bool d

    implied_can : (under : Bool) → IsAllowedPrime primes under → (at : Position) → IsAllowedPrime primes at.nexts → (u : ExprType) (us : List ExprType) (ls : Links) → link_operators ls ≡ true → implied_width names (single at) ls ≤ c.width
        → all_types (link_types names (single at) ls) ≡ Some us → list_all (logical_fits u) us ≡ true → are_implies ls ≡ true → (bounds : List Local) → AreLetNames bounds → (a : Tree) → Has bounds a u
        → Has bounds (implied_term c (length bounds) a (flat_links names leaf (single at) under ls)) u
    implied_can under up at n u us no_links o l h k m bounds lets a i = i
    implied_can under up at n u us (link Implies x ls) o l h k m bounds lets a i =
        let b = both_true (has_operators x) (link_operators ls) o in
        let r = all_cons (typing names (single at) x).type (link_types names (single at) ls) us h in
        let fits = subst (λ z. list_all (logical_fits u) z ≡ true) (sym r.4) k in
        let d = both_true (logical_fits u r.0) (list_all (logical_fits u) r.1) fits in
        let z = can under up (single at) n x b.0 (omega (arith, l)) r.0 r.2 in
        let y = implied_can under up at n r.0 r.1 ls b.1 (omega (arith, l)) r.3 (logical_all u r.0 r.1 d.0 d.1) m bounds lets ((translation c (flat_tree names leaf (single at) under x)).term (length bounds)) (z.value refl bounds lets) in
        let tail = implied_term c (length bounds) ((translation c (flat_tree names leaf (single at) under x)).term (length bounds)) (flat_links names leaf (single at) under ls) in
        subst (λ q. Has bounds (infix_term Implies q a tail) u) (sym (ap is_word_in (type_kept names leaf (single at) under x b.0 refl r.0 r.2)))
        (infix_stands c.width enums vars primes bounds Implies u r.0 x refl d.0 refl a tail i y)
    implied_can under up at n u us (link i x ls) o l h k m bounds lets a y = absurd_bool m

    first_can : (under : Bool) → IsAllowedPrime primes under → (es : Expressions) → part_operators es ≡ true → FirstCan under es
    first_can under up no_expressions o = tt
    first_can under up (expression e es) o = λ q m w u k. can under up q m e (both_true (has_operators e) (part_operators es) o).0 w u k
