-- The rows of the table for selections and functions.
use Rattle.std.proofs.Common.{◌≡◌, ℕ, suc, ◌+◌, ◌-◌, ◌/◌, ◌%◌, ◌^◌, ◌<◌, ◌≤◌, Bool, true, false, ◌&&◌, ◌==◌, nat_lt, nat_le, if◌then◌else◌, ℤ, pos, neg_ℤ, int_lt, List, [], ◌∷◌, ◌++◌, length, refl, sym, ap, ◌∙◌, subst, add-one, arith}
use Rattle.std.proofs.lemmas.Int.{ints, clamps}
use Rattle.std.proofs.lemmas.Bool.{eqb-true, eq-eqb, le-leb, leb-true, lt-ltb, ltb-true, cases_lt}
use Rattle.std.proofs.lemmas.Nat.{pow_below, pow_pos}
use Rattle.std.proofs.Math.Nat.{mod-eq_of_lt}
use Rattle.std.proofs.Math.Pow.{pow_mono}
use mathlib.Core.Logic.{⊎_elim}
use Rattle.std.specs.Int.{int_min, int_max}
use Rattle.std.specs.List.{list_all}
use Rattle.word_core.specs.Words.{BitVector, IsWord}
use Rattle.word_core.specs.Table.{signed_value, slice_of, uext_of}
use Rattle.word_core.specs.declared.word.TheConstants.{WIDEST}
use Rattle.word_core.specs.declared.kinds.Unary.TheVariants as OnWord
use Rattle.word_core.specs.declared.kinds.Binary.TheVariants as OnWords
use Rattle.smv_text.specs.declared.operators.Function.TheVariants as OfFunction
use Rattle.smv_meaning.specs.declared.value.Value.{Value}
use Rattle.smv_meaning.specs.declared.value.Value.TheVariants.{Truth, Integer, Bits}
use Rattle.smv_meaning.specs.Values.{no_value, is_true}
use Rattle.smv_meaning.specs.Operators.{word, selected, resized, trues, is_width, called}
use Rattle.smv_meaning.specs.Types.{ExprType, truth_type, integer_type, word_type, is_truth_type, is_word_type, type_width, is_select, function_fits, first_type}
use Rattle.smv_meaning.specs.laws.Booleans.{both_true, two_true}
use Rattle.smv_laws.proofs.OperatorLaws.{width_of}
use Rattle.moxi_terms.specs.declared.data.Datum.{Datum}
use Rattle.moxi_terms.specs.declared.data.Datum.TheVariants as datum
use Rattle.moxi_terms.specs.declared.data.TermOp.TheVariants as op
use Rattle.moxi_terms.specs.Operators.{word_of, folded, op_value}
use Rattle.moxi_terms.specs.Tree.{Tree, bound, apply, Trees, no_trees, tree}
use Rattle.moxi_terms.specs.Value.{Calls, Values, at, term_value, term_values}
use Rattle.smv_flat.specs.FlatWidth.{Holds}
use Rattle.smv_script.specs.Codes.{integer_bits, integer_word, datum_of}
use Rattle.smv_script.specs.Operators.{Arguments, integer_term, is_below, counted_term, counted_terms, sum_term, extended_term, selected_term, resized_term, function_term}
use Rattle.smv_script_laws.specs.Kinds.{IsOfKind}
use Rattle.smv_script_laws.proofs.Integers.{bits_sum, bits_negated, signed_back}
use Rattle.smv_script_laws.proofs.Integers.{pick_true}
use Rattle.smv_script_laws.proofs.Rows.{bit_is}
use Rattle.text_core.proofs.Truths.{and_true}
use Rattle.moxi_terms.specs.Applications.{one, words_term, choice_term}

-- ---- what a `let` binds

pub at_front : (vs : List Datum) (d : Datum) (rest : List Datum) → at (vs ++ d ∷ rest) (length vs) ≡ d
at_front [] d rest = refl
at_front (v ∷ vs) d rest = at_front vs d rest

at_suc : (vs : List Datum) (d e : Datum) (rest : List Datum) → at (vs ++ d ∷ e ∷ rest) (suc (length vs)) ≡ e
at_suc [] d e rest = refl
at_suc (v ∷ vs) d e rest = at_suc vs d e rest

at_second : (vs : List Datum) (d e : Datum) (rest : List Datum) → at (vs ++ d ∷ e ∷ rest) (length vs + 1) ≡ e
at_second vs d e rest = ap (at (vs ++ d ∷ e ∷ rest)) (add-one (length vs)) ∙ at_suc vs d e rest

-- ---- tests

-- ---- words

whole_slice : (x : BitVector) (high low : ℕ) → IsWord x → low ≡ 0 → high + 1 ≡ x.width → slice_of x high low ≡ x
whole_slice x high low h l e =
    ap (λ n. slice_of x high n) l ∙ ap (λ n. word n (x.bits / 2 ^ 0 % 2 ^ n)) (omega (arith, e)) ∙ ap (word x.width) (mod-eq_of_lt (omega (arith, h.2)) ∙ omega arith)

-- ---- lists of arguments

abbrev pub AreOfKinds : ℕ → List (List ℕ) → List ExprType → List Value → Type 0
AreOfKinds width symbols [] [] = Unit {0}
AreOfKinds width symbols (t ∷ ts) (v ∷ vs) = IsOfKind width symbols t v × AreOfKinds width symbols ts vs
AreOfKinds width symbols ts vs = ⊥

-- each term has the code of its value
abbrev pub AreCoded : (Tree → Datum) → (Value → Datum) → Trees → List Value → Type 0
AreCoded value code no_trees [] = Unit {0}
AreCoded value code (tree a more) (v ∷ vs) = (value a ≡ code v) × AreCoded value code more vs
AreCoded value code ts vs = ⊥

picked_value : {X : Type 0} (f : X → Datum) (b : Bool) (x y : X) (d : Datum) → (b ≡ true → f x ≡ d) → (b ≡ false → f y ≡ d) → f (if b then x else y) ≡ d
picked_value f true x y d g h = g refl
picked_value f false x y d g h = h refl

module _ (width : ℕ) (symbols : List (List ℕ)) (some : 1 ≤ width) (calls : Calls) (now later : Values) (vals : List Datum) where
  -- ---- selections

  extended_is : (x : BitVector) (n : ℕ) (a : Tree) → term_value calls now later vals a ≡ datum.Bits x → term_value calls now later vals (extended_term n a) ≡ datum.Bits (uext_of x n)
  extended_is x n a e = picked_value (term_value calls now later vals) (n == 0) a (apply (op.ZeroExtend n) (one a)) (datum.Bits (uext_of x n))
      (λ h. e ∙ ap (λ w. datum.Bits (word w x.bits)) (let z = eqb-true n 0 h in omega (arith, z)))
      (λ h. ap (λ d. op_value (op.ZeroExtend n) (d ∷ [])) e)

  pub select_row : (t : ExprType) (high low : ℕ) (v : Value) (a : Tree) → is_word_type t ≡ true → is_select t high low ≡ true → IsOfKind width symbols t v → term_value calls now later vals a ≡ datum_of width symbols v
      → term_value calls now later vals (selected_term (type_width t) high low a) ≡ datum_of width symbols (selected high low v)
  select_row (word_type m) high low (Bits x) a word_fits fits h e =
      let b = both_true (nat_lt high m) (nat_le low high) fits in
      let up = ltb-true high m b.0 in
      let down = leb-true low high b.1 in
      picked_value (term_value calls now later vals) (low == 0 && high + 1 == m) a (apply (op.Extract high low) (one a)) (datum.Bits (slice_of x high low))
      (λ s.
      let c = both_true (low == 0) (high + 1 == m) s in
      e ∙ ap datum.Bits (sym (whole_slice x high low h.1 (eqb-true low 0 c.0) (eqb-true (high + 1) m c.1 ∙ sym h.0))))
      (λ s. ap (λ d. op_value (op.Extract high low) (d ∷ [])) e)
      ∙ sym (ap (datum_of width symbols) (pick_true (nat_le low high && nat_lt high x.width) (Bits (slice_of x high low)) no_value (two_true (nat_le low high) (nat_lt high x.width) b.1 (lt-ltb high x.width (omega (arith, h.0))))))
  select_row (word_type m) high low v a word_fits fits h e = absurd h
  select_row t high low v a word_fits fits h e = cc

  -- ---- functions of words and truth values

  bool_one : (t : ExprType) (v : Value) (a : Tree) → function_fits OfFunction.Bool (t ∷ []) ≡ true → IsOfKind width symbols t v → term_value calls now later vals a ≡ datum_of width symbols v
      → op_value op.Equal (term_value calls now later vals a ∷ datum.Bits (word 1 1) ∷ []) ≡ datum_of width symbols (called OfFunction.Bool (v ∷ []))
  bool_one (word_type m) (Bits x) a fits h e =
      ap (λ d. op_value op.Equal (d ∷ datum.Bits (word 1 1) ∷ [])) e ∙ ap datum.Truth (and_true (x.width == 1 && x.bits == 1))
      ∙ ap (λ b. datum.Truth (b && x.bits == 1)) (eq-eqb x.width 1 (h.0 ∙ eqb-true m 1 fits))
  bool_one (word_type m) v a fits h e = absurd h
  bool_one t v a fits h e = cc

  word1_one : (t : ExprType) (v : Value) (a : Tree) → function_fits OfFunction.Word1 (t ∷ []) ≡ true → IsOfKind width symbols t v → term_value calls now later vals a ≡ datum_of width symbols v
      → op_value op.Ite (term_value calls now later vals a ∷ datum.Bits (word 1 1) ∷ datum.Bits (word 1 0) ∷ []) ≡ datum_of width symbols (called OfFunction.Word1 (v ∷ []))
  word1_one truth_type (Truth true) a fits h e = ap (λ d. op_value op.Ite (d ∷ datum.Bits (word 1 1) ∷ datum.Bits (word 1 0) ∷ [])) e
  word1_one truth_type (Truth false) a fits h e = ap (λ d. op_value op.Ite (d ∷ datum.Bits (word 1 1) ∷ datum.Bits (word 1 0) ∷ [])) e
  word1_one truth_type v a fits h e = absurd h
  word1_one t v a fits h e = cc

  toint_one : (k : ℕ) (t : ExprType) (v : Value) (a : Tree) → k ≡ type_width t → Holds width (pos (2 ^ type_width t - 1)) → function_fits OfFunction.Toint (t ∷ []) ≡ true → IsOfKind width symbols t v → term_value calls now later vals a ≡ datum_of width symbols v
      → term_value calls now later vals (extended_term (width - k) a) ≡ datum_of width symbols (called OfFunction.Toint (v ∷ []))
  toint_one k (word_type m) (Bits x) a s held fits h e =
      let less : m ≤ width = ⊎_elim (λ l. absurd (too_wide l)) (λ l. l) (cases_lt width m) in
      let small : x.bits < 2 ^ width = bounded less in
      extended_is x (width - k) a e ∙ ap (λ n. datum.Bits (word n x.bits)) (omega (arith, h.0, s)) ∙ ap (λ n. datum.Bits (word width n)) (sym (mod-eq_of_lt small))
    where
      too_wide : width < m → ⊥
      too_wide l = let p = pow_below (width - 1) m (omega arith) in let q = held.1 in let r = pow_pos m in omega (arith, ints)

      bounded : m ≤ width → x.bits < 2 ^ width
      bounded l = let p : 2 ^ m ≤ 2 ^ width = pow_mono l in let q = subst (λ n. x.bits < 2 ^ n) h.0 h.1.2 in omega arith
  toint_one k (word_type m) v a s held fits h e = absurd h
  toint_one k t v a s held fits h e = cc

  pub extend_one : (n : ℕ) (t : ExprType) (v : Value) (a : Tree) → is_word_type t ≡ true → is_width (type_width t + n) ≡ true → IsOfKind width symbols t v → term_value calls now later vals a ≡ datum_of width symbols v
      → term_value calls now later vals (extended_term n a) ≡ datum_of width symbols (called OfFunction.Extend (v ∷ Integer (pos n) ∷ []))
  extend_one n (word_type m) (Bits x) a fits wide h e =
      let most : x.width + n ≤ WIDEST = let w = (width_of (m + n) wide).1 in omega (arith, h.0) in
      extended_is x n a e ∙ sym (ap (datum_of width symbols) (pick_true (nat_le (x.width + n) WIDEST) (Bits (uext_of x n)) no_value (le-leb (x.width + n) WIDEST most)))
  extend_one n (word_type m) v a fits wide h e = absurd h
  extend_one n t v a fits wide h e = cc

  resized_is : (m n : ℕ) (x : BitVector) (a : Tree) → x.width ≡ m → term_value calls now later vals a ≡ datum.Bits x → term_value calls now later vals (resized_term m n a) ≡ datum.Bits (resized x n)
  resized_is m n x a w e = subst (λ i. term_value calls now later vals (resized_term i n a) ≡ datum.Bits (resized x n)) w (by (nat_lt n x.width))
    where
      by : (b : Bool) → term_value calls now later vals (if b then apply (op.Extract (n - 1) 0) (one a) else extended_term (n - x.width) a) ≡ datum.Bits (if b then slice_of x (n - 1) 0 else uext_of x (n - x.width))
      by true = ap (λ d. op_value (op.Extract (n - 1) 0) (d ∷ [])) e
      by false = extended_is x (n - x.width) a e

  pub resize_one : (n : ℕ) (t : ExprType) (v : Value) (a : Tree) → is_word_type t ≡ true → is_width n ≡ true → IsOfKind width symbols t v → term_value calls now later vals a ≡ datum_of width symbols v
      → term_value calls now later vals (resized_term (type_width t) n a) ≡ datum_of width symbols (called OfFunction.Resize (v ∷ Integer (pos n) ∷ []))
  resize_one n (word_type m) (Bits x) a fits wide h e = resized_is m n x a h.0 e ∙ sym (ap (datum_of width symbols) (pick_true (is_width n) (Bits (resized x n)) no_value wide))
  resize_one n (word_type m) v a fits wide h e = absurd h
  resize_one n t v a fits wide h e = cc

  -- ---- counts

  counted_is : (t : ExprType) (v : Value) (a : Tree) → is_truth_type t ≡ true → IsOfKind width symbols t v → term_value calls now later vals a ≡ datum_of width symbols v
      → term_value calls now later vals (counted_term width a) ≡ datum.Bits (integer_word width (pos (if is_true v then 1 else 0)))
  counted_is truth_type (Truth true) a fits h e = ap (λ d. op_value op.Ite (d ∷ datum.Bits (integer_word width (pos 1)) ∷ datum.Bits (integer_word width (pos 0)) ∷ [])) e
  counted_is truth_type (Truth false) a fits h e = ap (λ d. op_value op.Ite (d ∷ datum.Bits (integer_word width (pos 1)) ∷ datum.Bits (integer_word width (pos 0)) ∷ [])) e
  counted_is truth_type v a fits h e = absurd h
  counted_is t v a fits h e = cc

  one_more : (b : Bool) (n : ℕ) → (if b then 1 else 0) + n ≡ (if b then n + 1 else n)
  one_more true n = omega arith
  one_more false n = omega arith

  added : (s n : ℕ) → word width ((integer_bits width (pos s) + integer_bits width (pos n)) % 2 ^ width) ≡ integer_word width (pos (s + n))
  added s n = ap (word width) (bits_sum width (pos s) (pos n))

  folded_is : (s : ℕ) (ts : List ExprType) (vs : List Value) (parts : Trees) → list_all is_truth_type ts ≡ true → AreOfKinds width symbols ts vs → AreCoded (term_value calls now later vals) (datum_of width symbols) parts vs
      → folded OnWords.Add (integer_word width (pos s)) (term_values calls now later vals (counted_terms width parts)) ≡ integer_word width (pos (s + trues vs))
  folded_is s [] [] no_trees fits h e = ap (λ n. integer_word width (pos n)) (omega arith)
  folded_is s (t ∷ ts) (v ∷ vs) (tree a more) fits h e =
      let b = both_true (is_truth_type t) (list_all is_truth_type ts) fits in
      let n = if is_true v then 1 else 0 in
      ap (λ d. folded OnWords.Add (word width ((integer_bits width (pos s) + (word_of d).bits) % 2 ^ width)) (term_values calls now later vals (counted_terms width more))) (counted_is t v a b.0 h.0 e.0)
      ∙ ap (λ w. folded OnWords.Add w (term_values calls now later vals (counted_terms width more))) (added s n)
      ∙ folded_is (s + n) ts vs more b.1 h.1 e.1 ∙ ap (λ m. integer_word width (pos m)) (assoc s n (trues vs) ∙ ap (λ m. s + m) (one_more (is_true v) (trues vs)))
    where
      assoc : (i j k : ℕ) → i + j + k ≡ i + (j + k)
      assoc i j k = omega arith
  folded_is s [] [] (tree a more) fits h e = absurd e
  folded_is s [] (v ∷ vs) parts fits h e = absurd h
  folded_is s (t ∷ ts) [] parts fits h e = absurd h
  folded_is s (t ∷ ts) (v ∷ vs) no_trees fits h e = absurd e

  pub count_row : (ts : List ExprType) (vs : List Value) (parts : Trees) → function_fits OfFunction.Count ts ≡ true → AreOfKinds width symbols ts vs → AreCoded (term_value calls now later vals) (datum_of width symbols) parts vs
      → term_value calls now later vals (sum_term (counted_terms width parts)) ≡ datum_of width symbols (called OfFunction.Count vs)
  count_row [] vs parts fits h e = cc
  count_row (t ∷ ts) [] parts fits h e = absurd h
  count_row (t ∷ ts) (v ∷ vs) no_trees fits h e = absurd e
  count_row (t ∷ []) (v ∷ []) (tree a no_trees) fits h e =
      let b = both_true (is_truth_type t) true fits in
      counted_is t v a b.0 h.0 e.0 ∙ ap (λ n. datum.Bits (integer_word width (pos n))) (one_most (is_true v))
    where
      one_most : (b : Bool) → (if b then 1 else 0) ≡ (if b then 0 + 1 else 0)
      one_most true = refl
      one_most false = refl
  count_row (t ∷ []) (v ∷ w ∷ vs) parts fits h e = absurd h.1
  count_row (t ∷ u ∷ ts) (v ∷ []) parts fits h e = absurd h.1
  count_row (t ∷ ts) (v ∷ w ∷ vs) (tree a no_trees) fits h e = absurd e.1
  count_row (t ∷ ts) (v ∷ []) (tree a (tree b more)) fits h e = absurd e.1
  count_row (t ∷ u ∷ ts) (v ∷ w ∷ vs) (tree a (tree b more)) fits h e =
      let c = both_true (is_truth_type t) (list_all is_truth_type (u ∷ ts)) fits in
      let n = if is_true v then 1 else 0 in
      ap (λ d. datum.Bits (folded OnWords.Add (word_of d) (term_values calls now later vals (counted_terms width (tree b more))))) (counted_is t v a c.0 h.0 e.0)
      ∙ ap datum.Bits (folded_is n (u ∷ ts) (w ∷ vs) (tree b more) c.1 h.1 e.1 ∙ ap (λ m. integer_word width (pos m)) (one_more (is_true v) (trues (w ∷ vs))))

  -- ---- the greater, the lesser, the magnitude

  below_is : (k : ℕ) (x y : ℤ) (env : List Datum) → Holds width x → Holds width y → at env k ≡ datum.Bits (integer_word width x) → at env (k + 1) ≡ datum.Bits (integer_word width y)
      → term_value calls now later env (is_below k) ≡ datum.Truth (int_lt x y)
  below_is k x y env h j e f =
      ap (λ d. op_value (op.BvBinary OnWords.Slt) (d ∷ at env (k + 1) ∷ [])) e ∙ ap (λ d. op_value (op.BvBinary OnWords.Slt) (datum.Bits (integer_word width x) ∷ d ∷ [])) f
      ∙ ap datum.Truth (bit_is (int_lt (signed_value width (integer_bits width x)) (signed_value width (integer_bits width y)))
      ∙ ap (λ z. int_lt z (signed_value width (integer_bits width y))) (signed_back width x some h) ∙ ap (λ z. int_lt x z) (signed_back width y some j))

  chosen_code : (b : Bool) (x y : ℤ) → (if b then datum.Bits (integer_word width x) else datum.Bits (integer_word width y)) ≡ datum.Bits (integer_word width (if b then x else y))
  chosen_code true x y = refl
  chosen_code false x y = refl

  chosen_at : (c p q : Tree) (env : List Datum) (b : Bool) (d e : Datum) → term_value calls now later env c ≡ datum.Truth b → term_value calls now later env p ≡ d → term_value calls now later env q ≡ e
      → term_value calls now later env (choice_term c p q) ≡ (if b then d else e)
  chosen_at c p q env b d e i j k =
      ap (λ x. op_value op.Ite (x ∷ term_value calls now later env p ∷ term_value calls now later env q ∷ [])) i
      ∙ ap (λ x. if b then x else term_value calls now later env q) j ∙ ap (λ x. if b then d else x) k

  greater_is : (x y : ℤ) → (if int_lt x y then y else x) ≡ int_max x y
  greater_is x y = by (int_lt x y) refl
    where
      by : (t : Bool) → int_lt x y ≡ t → (if t then y else x) ≡ int_max x y
      by true e = omega (arith, ints, clamps)
      by false e = omega (arith, ints, clamps)

  lesser_is : (x y : ℤ) → (if int_lt x y then x else y) ≡ int_min x y
  lesser_is x y = by (int_lt x y) refl
    where
      by : (t : Bool) → int_lt x y ≡ t → (if t then x else y) ≡ int_min x y
      by true e = omega (arith, ints, clamps)
      by false e = omega (arith, ints, clamps)

  first_bound : (d e : Datum) (a b : Tree) → term_value calls now later vals a ≡ d → term_value calls now later vals b ≡ e → at (vals ++ term_value calls now later vals a ∷ term_value calls now later vals b ∷ []) (length vals) ≡ d
  first_bound d e a b i j = at_front vals (term_value calls now later vals a) (term_value calls now later vals b ∷ []) ∙ i

  second_bound : (d e : Datum) (a b : Tree) → term_value calls now later vals a ≡ d → term_value calls now later vals b ≡ e → at (vals ++ term_value calls now later vals a ∷ term_value calls now later vals b ∷ []) (length vals + 1) ≡ e
  second_bound d e a b i j = at_second vals (term_value calls now later vals a) (term_value calls now later vals b) [] ∙ j

  max_two : (args : Arguments) (t u : ExprType) (v w : Value) (a b : Tree) → function_fits OfFunction.Max (t ∷ u ∷ []) ≡ true → IsOfKind width symbols t v → IsOfKind width symbols u w → term_value calls now later vals a ≡ datum_of width symbols v → term_value calls now later vals b ≡ datum_of width symbols w
      → term_value calls now later vals (function_term width (length vals) OfFunction.Max args (tree a (tree b no_trees))) ≡ datum_of width symbols (called OfFunction.Max (v ∷ w ∷ []))
  max_two args (integer_type low high) (integer_type less more) (Integer x) (Integer y) a b fits h k i j =
      let env = vals ++ term_value calls now later vals a ∷ term_value calls now later vals b ∷ [] in
      let p = first_bound (datum.Bits (integer_word width x)) (datum.Bits (integer_word width y)) a b i j in
      let q = second_bound (datum.Bits (integer_word width x)) (datum.Bits (integer_word width y)) a b i j in
      chosen_at (is_below (length vals)) (bound (length vals + 1)) (bound (length vals)) env (int_lt x y) _ _ (below_is (length vals) x y env h k p q) q p
      ∙ chosen_code (int_lt x y) y x ∙ ap (λ z. datum.Bits (integer_word width z)) (greater_is x y)
  max_two args (integer_type low high) (integer_type less more) (Integer x) w a b fits h k i j = absurd k
  max_two args (integer_type low high) (integer_type less more) v w a b fits h k i j = absurd h
  max_two args (integer_type low high) u v w a b fits h k i j = cc
  max_two args t u v w a b fits h k i j = cc

  min_two : (args : Arguments) (t u : ExprType) (v w : Value) (a b : Tree) → function_fits OfFunction.Min (t ∷ u ∷ []) ≡ true → IsOfKind width symbols t v → IsOfKind width symbols u w → term_value calls now later vals a ≡ datum_of width symbols v → term_value calls now later vals b ≡ datum_of width symbols w
      → term_value calls now later vals (function_term width (length vals) OfFunction.Min args (tree a (tree b no_trees))) ≡ datum_of width symbols (called OfFunction.Min (v ∷ w ∷ []))
  min_two args (integer_type low high) (integer_type less more) (Integer x) (Integer y) a b fits h k i j =
      let env = vals ++ term_value calls now later vals a ∷ term_value calls now later vals b ∷ [] in
      let p = first_bound (datum.Bits (integer_word width x)) (datum.Bits (integer_word width y)) a b i j in
      let q = second_bound (datum.Bits (integer_word width x)) (datum.Bits (integer_word width y)) a b i j in
      chosen_at (is_below (length vals)) (bound (length vals)) (bound (length vals + 1)) env (int_lt x y) _ _ (below_is (length vals) x y env h k p q) p q
      ∙ chosen_code (int_lt x y) x y ∙ ap (λ z. datum.Bits (integer_word width z)) (lesser_is x y)
  min_two args (integer_type low high) (integer_type less more) (Integer x) w a b fits h k i j = absurd k
  min_two args (integer_type low high) (integer_type less more) v w a b fits h k i j = absurd h
  min_two args (integer_type low high) u v w a b fits h k i j = cc
  min_two args t u v w a b fits h k i j = cc

  zero_held : Holds width (pos 0)
  zero_held = let p = pow_pos (width - 1) in (omega (arith, ints), omega (arith, ints))

  abs_one : (args : Arguments) (t : ExprType) (v : Value) (a : Tree) → function_fits OfFunction.Abs (t ∷ []) ≡ true → IsOfKind width symbols t v → term_value calls now later vals a ≡ datum_of width symbols v
      → term_value calls now later vals (function_term width (length vals) OfFunction.Abs args (tree a no_trees)) ≡ datum_of width symbols (called OfFunction.Abs (v ∷ []))
  abs_one args (integer_type low high) (Integer x) a fits h i =
      let env = vals ++ term_value calls now later vals a ∷ [] in
      let p : at env (length vals) ≡ datum.Bits (integer_word width x) = at_front vals (term_value calls now later vals a) [] ∙ i in
      chosen_at (words_term OnWords.Slt (bound (length vals)) (integer_term width (pos 0))) (apply (op.BvUnary OnWord.Neg) (one (bound (length vals)))) (bound (length vals)) env (int_lt x (pos 0)) _ _
      (ap (λ d. op_value (op.BvBinary OnWords.Slt) (d ∷ datum.Bits (integer_word width (pos 0)) ∷ [])) p
      ∙ ap datum.Truth (bit_is (int_lt (signed_value width (integer_bits width x)) (signed_value width (integer_bits width (pos 0))))
      ∙ ap (λ z. int_lt z (signed_value width (integer_bits width (pos 0)))) (signed_back width x some h) ∙ ap (λ z. int_lt x z) (signed_back width (pos 0) some zero_held)))
      (ap (λ d. op_value (op.BvUnary OnWord.Neg) (d ∷ [])) p ∙ ap (λ n. datum.Bits (word width n)) (bits_negated width x)) p
      ∙ chosen_code (int_lt x (pos 0)) (neg_ℤ x) x
  abs_one args (integer_type low high) v a fits h i = absurd h
  abs_one args t v a fits h i = cc

  pub bool_row : (args : Arguments) (ts : List ExprType) (vs : List Value) (parts : Trees) → function_fits OfFunction.Bool ts ≡ true → AreOfKinds width symbols ts vs → AreCoded (term_value calls now later vals) (datum_of width symbols) parts vs
      → term_value calls now later vals (function_term width (length vals) OfFunction.Bool args parts) ≡ datum_of width symbols (called OfFunction.Bool vs)
  bool_row args [] vs parts fits h e = cc
  bool_row args (t ∷ u ∷ ts) vs parts fits h e = cc
  bool_row args (t ∷ []) [] parts fits h e = absurd h
  bool_row args (t ∷ []) (v ∷ w ∷ vs) parts fits h e = absurd h.1
  bool_row args (t ∷ []) (v ∷ []) no_trees fits h e = absurd e
  bool_row args (t ∷ []) (v ∷ []) (tree a (tree b more)) fits h e = absurd e.1
  bool_row args (t ∷ []) (v ∷ []) (tree a no_trees) fits h e = bool_one t v a fits h.0 e.0

  pub word1_row : (args : Arguments) (ts : List ExprType) (vs : List Value) (parts : Trees) → function_fits OfFunction.Word1 ts ≡ true → AreOfKinds width symbols ts vs → AreCoded (term_value calls now later vals) (datum_of width symbols) parts vs
      → term_value calls now later vals (function_term width (length vals) OfFunction.Word1 args parts) ≡ datum_of width symbols (called OfFunction.Word1 vs)
  word1_row args [] vs parts fits h e = cc
  word1_row args (t ∷ u ∷ ts) vs parts fits h e = cc
  word1_row args (t ∷ []) [] parts fits h e = absurd h
  word1_row args (t ∷ []) (v ∷ w ∷ vs) parts fits h e = absurd h.1
  word1_row args (t ∷ []) (v ∷ []) no_trees fits h e = absurd e
  word1_row args (t ∷ []) (v ∷ []) (tree a (tree b more)) fits h e = absurd e.1
  word1_row args (t ∷ []) (v ∷ []) (tree a no_trees) fits h e = word1_one t v a fits h.0 e.0

  pub toint_row : (args : Arguments) (ts : List ExprType) (vs : List Value) (parts : Trees) → args.width ≡ type_width (first_type ts) → Holds width (pos (2 ^ type_width (first_type ts) - 1)) → function_fits OfFunction.Toint ts ≡ true → AreOfKinds width symbols ts vs → AreCoded (term_value calls now later vals) (datum_of width symbols) parts vs
      → term_value calls now later vals (function_term width (length vals) OfFunction.Toint args parts) ≡ datum_of width symbols (called OfFunction.Toint vs)
  toint_row args [] vs parts s r fits h e = cc
  toint_row args (t ∷ u ∷ ts) vs parts s r fits h e = cc
  toint_row args (t ∷ []) [] parts s r fits h e = absurd h
  toint_row args (t ∷ []) (v ∷ w ∷ vs) parts s r fits h e = absurd h.1
  toint_row args (t ∷ []) (v ∷ []) no_trees s r fits h e = absurd e
  toint_row args (t ∷ []) (v ∷ []) (tree a (tree b more)) s r fits h e = absurd e.1
  toint_row args (t ∷ []) (v ∷ []) (tree a no_trees) s r fits h e = toint_one args.width t v a s r fits h.0 e.0

  pub abs_row : (args : Arguments) (ts : List ExprType) (vs : List Value) (parts : Trees) → function_fits OfFunction.Abs ts ≡ true → AreOfKinds width symbols ts vs → AreCoded (term_value calls now later vals) (datum_of width symbols) parts vs
      → term_value calls now later vals (function_term width (length vals) OfFunction.Abs args parts) ≡ datum_of width symbols (called OfFunction.Abs vs)
  abs_row args [] vs parts fits h e = cc
  abs_row args (t ∷ u ∷ ts) vs parts fits h e = cc
  abs_row args (t ∷ []) [] parts fits h e = absurd h
  abs_row args (t ∷ []) (v ∷ w ∷ vs) parts fits h e = absurd h.1
  abs_row args (t ∷ []) (v ∷ []) no_trees fits h e = absurd e
  abs_row args (t ∷ []) (v ∷ []) (tree a (tree b more)) fits h e = absurd e.1
  abs_row args (t ∷ []) (v ∷ []) (tree a no_trees) fits h e = abs_one args t v a fits h.0 e.0

  pub max_row : (args : Arguments) (ts : List ExprType) (vs : List Value) (parts : Trees) → function_fits OfFunction.Max ts ≡ true → AreOfKinds width symbols ts vs → AreCoded (term_value calls now later vals) (datum_of width symbols) parts vs
      → term_value calls now later vals (function_term width (length vals) OfFunction.Max args parts) ≡ datum_of width symbols (called OfFunction.Max vs)
  max_row args [] vs parts fits h e = cc
  max_row args (t ∷ []) vs parts fits h e = cc
  max_row args (t ∷ u ∷ s ∷ ts) vs parts fits h e = cc
  max_row args (t ∷ u ∷ []) [] parts fits h e = absurd h
  max_row args (t ∷ u ∷ []) (v ∷ []) parts fits h e = absurd h.1
  max_row args (t ∷ u ∷ []) (v ∷ w ∷ x ∷ vs) parts fits h e = absurd h.1.1
  max_row args (t ∷ u ∷ []) (v ∷ w ∷ []) no_trees fits h e = absurd e
  max_row args (t ∷ u ∷ []) (v ∷ w ∷ []) (tree a no_trees) fits h e = absurd e.1
  max_row args (t ∷ u ∷ []) (v ∷ w ∷ []) (tree a (tree b (tree c more))) fits h e = absurd e.1.1
  max_row args (t ∷ u ∷ []) (v ∷ w ∷ []) (tree a (tree b no_trees)) fits h e = max_two args t u v w a b fits h.0 h.1.0 e.0 e.1.0

  pub min_row : (args : Arguments) (ts : List ExprType) (vs : List Value) (parts : Trees) → function_fits OfFunction.Min ts ≡ true → AreOfKinds width symbols ts vs → AreCoded (term_value calls now later vals) (datum_of width symbols) parts vs
      → term_value calls now later vals (function_term width (length vals) OfFunction.Min args parts) ≡ datum_of width symbols (called OfFunction.Min vs)
  min_row args [] vs parts fits h e = cc
  min_row args (t ∷ []) vs parts fits h e = cc
  min_row args (t ∷ u ∷ s ∷ ts) vs parts fits h e = cc
  min_row args (t ∷ u ∷ []) [] parts fits h e = absurd h
  min_row args (t ∷ u ∷ []) (v ∷ []) parts fits h e = absurd h.1
  min_row args (t ∷ u ∷ []) (v ∷ w ∷ x ∷ vs) parts fits h e = absurd h.1.1
  min_row args (t ∷ u ∷ []) (v ∷ w ∷ []) no_trees fits h e = absurd e
  min_row args (t ∷ u ∷ []) (v ∷ w ∷ []) (tree a no_trees) fits h e = absurd e.1
  min_row args (t ∷ u ∷ []) (v ∷ w ∷ []) (tree a (tree b (tree c more))) fits h e = absurd e.1.1
  min_row args (t ∷ u ∷ []) (v ∷ w ∷ []) (tree a (tree b no_trees)) fits h e = min_two args t u v w a b fits h.0 h.1.0 e.0 e.1.0
