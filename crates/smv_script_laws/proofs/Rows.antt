-- The rows of the table: an operator's term has the code of what the operator gives.
use Rattle.std.proofs.Common.{◌≡◌, ℕ, zero, suc, ◌+◌, ◌-◌, ◌%◌, ◌^◌, ◌<◌, ◌≤◌, Bool, true, false, not, ◌&&◌, ◌||◌, ◌==◌, nat_le, if◌then◌else◌, ℤ, pos, nat_abs, ◌+ℤ◌, ◌-ℤ◌, ◌*ℤ◌, ◌≤ℤ◌, int_lt, int_le, int_div, List, [], ◌∷◌, Some, get_or, refl, sym, ap, ◌∙◌, arith}
use Rattle.std.proofs.lemmas.Int.{ints}
use Rattle.std.proofs.lemmas.Bool.{eqb-true, eq-eqb, le-leb}
use Rattle.std.proofs.lemmas.Slice.Eq.{bytes_eq-Decides}
use Rattle.std.proofs.lemmas.List.Quantifiers.{position-Some}
use Rattle.std.specs.Str.{bytes_eq}
use Rattle.word_core.specs.Words.{BitVector}
use Rattle.word_core.specs.Table.{bit_of, signed_value, negated, unary_of, binary_of, binary_bits}
use Rattle.word_core.specs.declared.word.TheConstants.{WIDEST}
use Rattle.word_core.specs.declared.kinds.Unary.TheVariants as OnWord
use Rattle.word_core.specs.declared.kinds.Binary.{Binary}
use Rattle.word_core.specs.declared.kinds.Binary.TheVariants as OnWords
use Rattle.smv_text.specs.declared.operators.Prefix.{Prefix}
use Rattle.smv_text.specs.declared.operators.Prefix.TheVariants as OfPrefix
use Rattle.smv_text.specs.declared.operators.Infix.{Infix}
use Rattle.smv_text.specs.declared.operators.Infix.TheVariants.{Implies, Iff, Or, Xor, Xnor, And, Equal, Unequal, Less, Greater, LessEq, GreaterEq, Member, Union, ShiftLeft, ShiftRight, Plus, Minus, Times, Divide, Mod, Concat}
use Rattle.smv_meaning.specs.declared.value.Value.{Value}
use Rattle.smv_meaning.specs.declared.value.Value.TheVariants.{Truth, Integer, Symbol, Bits}
use Rattle.smv_meaning.specs.Values.{no_value, bool_eq, value_same}
use Rattle.smv_meaning.specs.Operators.{word, words_by, logical, compared, calculated, shifted, concatenated, negation, minus, implied, int_mod, applied, signed}
use Rattle.smv_meaning.specs.Types.{ExprType, truth_type, integer_type, symbol_type, word_type, is_word_type, type_width, type_same, logical_fits, number_fits, infix_fits, joins, prefix_fits}
use Rattle.smv_meaning.specs.laws.Booleans.{both_true, two_true}
use Rattle.smv_laws.proofs.OperatorLaws.{width_of}
use Rattle.name_maps.specs.Names.{place_of}
use Rattle.moxi_terms.specs.declared.data.Datum.{Datum}
use Rattle.moxi_terms.specs.declared.data.Datum.TheVariants as datum
use Rattle.moxi_terms.specs.declared.data.TermOp.{TermOp}
use Rattle.moxi_terms.specs.declared.data.TermOp.TheVariants as op
use Rattle.moxi_terms.specs.Operators.{same, op_value}
use Rattle.moxi_terms.specs.Tree.{Tree, constant}
use Rattle.moxi_terms.specs.Value.{Calls, Values, term_value}
use Rattle.smv_flat.specs.FlatWidth.{Holds}
use Rattle.smv_script.specs.Codes.{integer_bits, integer_word, number_or_zero, datum_of}
use Rattle.smv_script.specs.Operators.{sign_op, repeated, signed_op, infix_op, infix_term}
use Rattle.smv_script_laws.specs.Kinds.{IsOfKind}
use Rattle.smv_script_laws.proofs.Integers.{bits_below, bits_sum, bits_difference, bits_product, bits_negated, negated_twice, signed_back, same_integers, bits_quotient, bits_rest, pick_true}

-- ---- tests

pub by_both : (a b : Bool) → (a ≡ true → b ≡ true) → (b ≡ true → a ≡ true) → a ≡ b
by_both true b f g = sym (f refl)
by_both false true f g = g refl
by_both false false f g = refl

pub bit_is : (b : Bool) → (bit_of b == 1) ≡ b
bit_is true = refl
bit_is false = refl

int_le_true : (a b : ℤ) → a ≤ℤ b → int_le a b ≡ true
int_le_true a b h = by (int_le a b) refl
  where
    by : (t : Bool) → int_le a b ≡ t → t ≡ true
    by true e = refl
    by false e = absurd (omega (arith, ints))

-- ---- equality

module _ (width : ℕ) (symbols : List (List ℕ)) (some : 1 ≤ width) where
  symbols_same : (a b : List ℕ) (i j : ℕ) → place_of symbols a ≡ Some i → place_of symbols b ≡ Some j → (i == j) ≡ bytes_eq b a
  symbols_same a b i j p q = by_both (i == j) (bytes_eq b a)
      (λ h.
      let e = eqb-true i j h in
      let x = (bytes_eq-Decides a (get_or symbols i [])).0 (position-Some (bytes_eq a) symbols i [] p).1 in
      let y = (bytes_eq-Decides b (get_or symbols j [])).0 (position-Some (bytes_eq b) symbols j [] q).1 in
      (bytes_eq-Decides b a).1 (y ∙ ap (λ n. get_or symbols n []) (sym e) ∙ sym x))
      (λ h.
      let e = (bytes_eq-Decides b a).0 h in
      let s : Some j ≡ Some i = sym q ∙ ap (place_of symbols) e ∙ p in
      let k : j ≡ i = cc in
      eq-eqb i j (sym k))

  pub same_codes : (t : ExprType) (v w : Value) → IsOfKind width symbols t v → IsOfKind width symbols t w
      → same (datum_of width symbols v) (datum_of width symbols w) ≡ value_same w v
  same_codes truth_type (Truth true) (Truth true) h k = refl
  same_codes truth_type (Truth true) (Truth false) h k = refl
  same_codes truth_type (Truth false) (Truth true) h k = refl
  same_codes truth_type (Truth false) (Truth false) h k = refl
  same_codes truth_type (Truth b) w h k = absurd k
  same_codes truth_type v w h k = absurd h
  same_codes (integer_type low high) (Integer a) (Integer b) h k = by_both (width == width && integer_bits width a == integer_bits width b) (int_le b a && int_le a b)
      (λ e.
      let s = same_integers width a b some h k (eqb-true _ _ (both_true (width == width) (integer_bits width a == integer_bits width b) e).1) in
      two_true (int_le b a) (int_le a b) (int_le_true b a (omega (arith, ints, s))) (int_le_true a b (omega (arith, ints, s))))
      (λ e.
      let s = both_true (int_le b a) (int_le a b) e in
      let p = s.0 in
      let q = s.1 in
      let i : a ≡ b = omega (arith, ints) in
      two_true (width == width) (integer_bits width a == integer_bits width b) (eq-eqb width width refl) (eq-eqb _ _ (ap (integer_bits width) i)))
  same_codes (integer_type low high) (Integer a) w h k = absurd k
  same_codes (integer_type low high) v w h k = absurd h
  same_codes symbol_type (Symbol a) (Symbol b) h k =
      ap (λ n. n == number_or_zero (place_of symbols b)) (ap number_or_zero h.1) ∙ ap (λ n. h.0 == n) (ap number_or_zero k.1) ∙ symbols_same a b h.0 k.0 h.1 k.1
  same_codes symbol_type (Symbol a) w h k = absurd k
  same_codes symbol_type v w h k = absurd h
  same_codes (word_type n) (Bits x) (Bits y) h k = by_both (x.width == y.width && x.bits == y.bits) (y.width == x.width && y.bits == x.bits)
      (λ e. let s = both_true (x.width == y.width) (x.bits == y.bits) e in two_true (y.width == x.width) (y.bits == x.bits) (eq-eqb _ _ (sym (eqb-true _ _ s.0))) (eq-eqb _ _ (sym (eqb-true _ _ s.1))))
      (λ e. let s = both_true (y.width == x.width) (y.bits == x.bits) e in two_true (x.width == y.width) (x.bits == y.bits) (eq-eqb _ _ (sym (eqb-true _ _ s.0))) (eq-eqb _ _ (sym (eqb-true _ _ s.1))))
  same_codes (word_type n) (Bits x) w h k = absurd k
  same_codes (word_type n) v w h k = absurd h

-- ---- operators on operands of one kind

-- a divisor isn't 0
abbrev pub is_divided : Infix → Bool
is_divided Divide = true
is_divided Mod = true
is_divided o = false

abbrev pub IsNonzero : Value → Type 0
IsNonzero (Integer z) = (nat_abs z == 0) ≡ false
IsNonzero v = Unit {0}

module _ (width : ℕ) (symbols : List (List ℕ)) (some : 1 ≤ width) where
  pub words_are : (b : Binary) (n : ℕ) (x y : BitVector) → x.width ≡ n → y.width ≡ n → datum.Bits (binary_of b x y) ≡ datum_of width symbols (words_by b x y)
  words_are b n x y h k = sym (ap (datum_of width symbols) (pick_true (x.width == y.width) (Bits (binary_of b x y)) no_value (eq-eqb _ _ (h ∙ sym k))))

  logical_row : (f : Bool → Bool → Bool) (o : Bool → TermOp) (b : Binary)
      → ((p q : Bool) → op_value (o false) (datum.Truth p ∷ datum.Truth q ∷ []) ≡ datum.Truth (f p q))
      → ((x y : BitVector) → op_value (o true) (datum.Bits x ∷ datum.Bits y ∷ []) ≡ datum.Bits (binary_of b x y))
      → (t u : ExprType) (v w : Value) → logical_fits t u ≡ true → IsOfKind width symbols t v → IsOfKind width symbols u w
      → op_value (o (is_word_type u)) (datum_of width symbols v ∷ datum_of width symbols w ∷ []) ≡ datum_of width symbols (logical f b v w)
  logical_row f o b truths words truth_type truth_type (Truth p) (Truth q) fits h k = truths p q
  logical_row f o b truths words truth_type truth_type (Truth p) w fits h k = absurd k
  logical_row f o b truths words truth_type truth_type v w fits h k = absurd h
  logical_row f o b truths words truth_type u v w fits h k = cc
  logical_row f o b truths words (word_type m) (word_type n) (Bits x) (Bits y) fits h k = words x y ∙ words_are b m x y h.0 (k.0 ∙ sym (eqb-true m n fits))
  logical_row f o b truths words (word_type m) (word_type n) (Bits x) w fits h k = absurd k
  logical_row f o b truths words (word_type m) (word_type n) v w fits h k = absurd h
  logical_row f o b truths words (word_type m) u v w fits h k = cc
  logical_row f o b truths words t u v w fits h k = cc

  compared_row : (f : ℤ → ℤ → Bool) (o : Bool → TermOp) (b : Binary)
      → ((x y : ℕ) → op_value (o false) (datum.Bits (word width x) ∷ datum.Bits (word width y) ∷ []) ≡ datum.Truth (f (signed_value width x) (signed_value width y)))
      → ((x y : BitVector) → op_value (o true) (datum.Bits x ∷ datum.Bits y ∷ []) ≡ datum.Truth (binary_bits b x.width y.width x.bits y.bits == 1))
      → (t u : ExprType) (v w : Value) → number_fits t u ≡ true → IsOfKind width symbols t v → IsOfKind width symbols u w
      → op_value (o (is_word_type u)) (datum_of width symbols v ∷ datum_of width symbols w ∷ []) ≡ datum_of width symbols (compared f b v w)
  compared_row f o b integers words (integer_type low high) (integer_type less more) (Integer x) (Integer y) fits h k =
      integers (integer_bits width x) (integer_bits width y) ∙ ap (λ z. datum.Truth (f z (signed_value width (integer_bits width y)))) (signed_back width x some h)
      ∙ ap (λ z. datum.Truth (f x z)) (signed_back width y some k)
  compared_row f o b integers words (integer_type low high) (integer_type less more) (Integer x) w fits h k = absurd k
  compared_row f o b integers words (integer_type low high) (integer_type less more) v w fits h k = absurd h
  compared_row f o b integers words (integer_type low high) u v w fits h k = cc
  compared_row f o b integers words (word_type m) (word_type n) (Bits x) (Bits y) fits h k =
      words x y ∙ sym (ap (datum_of width symbols) (pick_true (x.width == y.width) (Truth (binary_bits b x.width y.width x.bits y.bits == 1)) no_value (eq-eqb _ _ (h.0 ∙ eqb-true m n fits ∙ sym k.0))))
  compared_row f o b integers words (word_type m) (word_type n) (Bits x) w fits h k = absurd k
  compared_row f o b integers words (word_type m) (word_type n) v w fits h k = absurd h
  compared_row f o b integers words (word_type m) u v w fits h k = cc
  compared_row f o b integers words t u v w fits h k = cc

  calculated_row : (f : ℤ → ℤ → ℤ) (o : Bool → TermOp) (b : Binary)
      → ((x y : ℤ) → Holds width x → Holds width y → (nat_abs y == 0) ≡ false → op_value (o false) (datum.Bits (integer_word width x) ∷ datum.Bits (integer_word width y) ∷ []) ≡ datum.Bits (integer_word width (f x y)))
      → ((x y : BitVector) → op_value (o true) (datum.Bits x ∷ datum.Bits y ∷ []) ≡ datum.Bits (binary_of b x y))
      → (t u : ExprType) (v w : Value) → number_fits t u ≡ true → IsOfKind width symbols t v → IsOfKind width symbols u w → IsNonzero w
      → op_value (o (is_word_type u)) (datum_of width symbols v ∷ datum_of width symbols w ∷ []) ≡ datum_of width symbols (calculated f b v w)
  calculated_row f o b integers words (integer_type low high) (integer_type less more) (Integer x) (Integer y) fits h k n = integers x y h k n
  calculated_row f o b integers words (integer_type low high) (integer_type less more) (Integer x) w fits h k n = absurd k
  calculated_row f o b integers words (integer_type low high) (integer_type less more) v w fits h k n = absurd h
  calculated_row f o b integers words (integer_type low high) u v w fits h k n = cc
  calculated_row f o b integers words (word_type m) (word_type i) (Bits x) (Bits y) fits h k n = words x y ∙ words_are b m x y h.0 (k.0 ∙ sym (eqb-true m i fits))
  calculated_row f o b integers words (word_type m) (word_type i) (Bits x) w fits h k n = absurd k
  calculated_row f o b integers words (word_type m) (word_type i) v w fits h k n = absurd h
  calculated_row f o b integers words (word_type m) u v w fits h k n = cc
  calculated_row f o b integers words t u v w fits h k n = cc

  -- of sums and products, whatever the right operand is
  added_row : (f : ℤ → ℤ → ℤ) (b : Binary)
      → ((x y : ℤ) → op_value (op.BvBinary b) (datum.Bits (integer_word width x) ∷ datum.Bits (integer_word width y) ∷ []) ≡ datum.Bits (integer_word width (f x y)))
      → ((x y : BitVector) → op_value (op.BvBinary b) (datum.Bits x ∷ datum.Bits y ∷ []) ≡ datum.Bits (binary_of b x y))
      → (t u : ExprType) (v w : Value) → number_fits t u ≡ true → IsOfKind width symbols t v → IsOfKind width symbols u w
      → op_value (op.BvBinary b) (datum_of width symbols v ∷ datum_of width symbols w ∷ []) ≡ datum_of width symbols (calculated f b v w)
  added_row f b integers words (integer_type low high) (integer_type less more) (Integer x) (Integer y) fits h k = integers x y
  added_row f b integers words (integer_type low high) (integer_type less more) (Integer x) w fits h k = absurd k
  added_row f b integers words (integer_type low high) (integer_type less more) v w fits h k = absurd h
  added_row f b integers words (integer_type low high) u v w fits h k = cc
  added_row f b integers words (word_type m) (word_type i) (Bits x) (Bits y) fits h k = words x y ∙ words_are b m x y h.0 (k.0 ∙ sym (eqb-true m i fits))
  added_row f b integers words (word_type m) (word_type i) (Bits x) w fits h k = absurd k
  added_row f b integers words (word_type m) (word_type i) v w fits h k = absurd h
  added_row f b integers words (word_type m) u v w fits h k = cc
  added_row f b integers words t u v w fits h k = cc

-- ---- each operator between two operands

-- all but `in`, `union` and shifts
abbrev pub is_plain : Infix → Bool
is_plain Member = false
is_plain Union = false
is_plain ShiftLeft = false
is_plain ShiftRight = false
is_plain o = true

module _ (width : ℕ) (symbols : List (List ℕ)) (some : 1 ≤ width) (calls : Calls) (now later : Values) (vals : List Datum) where
  -- a term stands for what it does for the values of its operands
  pub infix_at : (o : Infix) (words : Bool) (a b : Tree) → term_value calls now later vals (infix_term o words a b)
      ≡ term_value calls now later vals (infix_term o words (constant (term_value calls now later vals a)) (constant (term_value calls now later vals b)))
  infix_at Implies true a b = refl
  infix_at Implies false a b = refl
  infix_at Iff true a b = refl
  infix_at Iff false a b = refl
  infix_at Xnor true a b = refl
  infix_at Xnor false a b = refl
  infix_at o words a b = refl

  pub implies_row : (t u : ExprType) (v w : Value) → logical_fits t u ≡ true → IsOfKind width symbols t v → IsOfKind width symbols u w
      → term_value calls now later vals (infix_term Implies (is_word_type u) (constant (datum_of width symbols v)) (constant (datum_of width symbols w))) ≡ datum_of width symbols (implied v w)
  implies_row truth_type truth_type (Truth p) (Truth q) fits h k = refl
  implies_row truth_type truth_type (Truth p) w fits h k = absurd k
  implies_row truth_type truth_type v w fits h k = absurd h
  implies_row truth_type u v w fits h k = cc
  implies_row (word_type m) (word_type n) (Bits x) (Bits y) fits h k = words_are width symbols some OnWords.Or m (unary_of OnWord.Not x) y h.0 (k.0 ∙ sym (eqb-true m n fits))
  implies_row (word_type m) (word_type n) (Bits x) w fits h k = absurd k
  implies_row (word_type m) (word_type n) v w fits h k = absurd h
  implies_row (word_type m) u v w fits h k = cc
  implies_row t u v w fits h k = cc

  same_row : (o : Infix) (f : Bool → Bool → Bool)
      → ((p q : Bool) → term_value calls now later vals (infix_term o false (constant (datum.Truth p)) (constant (datum.Truth q))) ≡ datum.Truth (f p q))
      → ((x y : BitVector) → term_value calls now later vals (infix_term o true (constant (datum.Bits x)) (constant (datum.Bits y))) ≡ datum.Bits (binary_of OnWords.Xnor x y))
      → (t u : ExprType) (v w : Value) → logical_fits t u ≡ true → IsOfKind width symbols t v → IsOfKind width symbols u w
      → term_value calls now later vals (infix_term o (is_word_type u) (constant (datum_of width symbols v)) (constant (datum_of width symbols w))) ≡ datum_of width symbols (logical f OnWords.Xnor v w)
  same_row o f truths words truth_type truth_type (Truth p) (Truth q) fits h k = truths p q
  same_row o f truths words truth_type truth_type (Truth p) w fits h k = absurd k
  same_row o f truths words truth_type truth_type v w fits h k = absurd h
  same_row o f truths words truth_type u v w fits h k = cc
  same_row o f truths words (word_type m) (word_type n) (Bits x) (Bits y) fits h k = words x y ∙ words_are width symbols some OnWords.Xnor m x y h.0 (k.0 ∙ sym (eqb-true m n fits))
  same_row o f truths words (word_type m) (word_type n) (Bits x) w fits h k = absurd k
  same_row o f truths words (word_type m) (word_type n) v w fits h k = absurd h
  same_row o f truths words (word_type m) u v w fits h k = cc
  same_row o f truths words t u v w fits h k = cc

  concat_row : (t u : ExprType) (v w : Value) → (is_word_type t && is_word_type u) ≡ true → joins Concat t u ≡ true → IsOfKind width symbols t v → IsOfKind width symbols u w
      → op_value op.Concat (datum_of width symbols v ∷ datum_of width symbols w ∷ []) ≡ datum_of width symbols (concatenated v w)
  concat_row (word_type m) (word_type n) (Bits x) (Bits y) fits wide h k =
      let most : x.width + y.width ≤ WIDEST = omega (arith, (width_of (m + n) wide).1, h.0, k.0) in
      sym (ap (datum_of width symbols) (pick_true (nat_le (x.width + y.width) WIDEST) (Bits (binary_of OnWords.Concat x y)) no_value (le-leb (x.width + y.width) WIDEST most)))
  concat_row (word_type m) (word_type n) (Bits x) w fits wide h k = absurd k
  concat_row (word_type m) (word_type n) v w fits wide h k = absurd h
  concat_row (word_type m) u v w fits wide h k = cc
  concat_row t u v w fits wide h k = cc

  -- values of types that are alike are of one kind
  pub kind_same : (t u : ExprType) (v : Value) → type_same t u ≡ true → IsOfKind width symbols t v → IsOfKind width symbols u v
  kind_same truth_type truth_type v e h = h
  kind_same truth_type u v e h = cc
  kind_same (integer_type low high) (integer_type less more) (Integer z) e h = h
  kind_same (integer_type low high) (integer_type less more) v e h = absurd h
  kind_same (integer_type low high) u v e h = cc
  kind_same symbol_type symbol_type v e h = h
  kind_same symbol_type u v e h = cc
  kind_same (word_type m) (word_type n) (Bits x) e h = (h.0 ∙ eqb-true m n e, h.1)
  kind_same (word_type m) (word_type n) v e h = absurd h
  kind_same (word_type m) u v e h = cc

  pub type_turned : (t u : ExprType) → type_same t u ≡ true → type_same u t ≡ true
  type_turned truth_type truth_type e = refl
  type_turned truth_type u e = cc
  type_turned (integer_type low high) (integer_type less more) e = refl
  type_turned (integer_type low high) u e = cc
  type_turned symbol_type symbol_type e = refl
  type_turned symbol_type u e = cc
  type_turned (word_type m) (word_type n) e = eq-eqb n m (sym (eqb-true m n e))
  type_turned (word_type m) u e = cc

  and_true : (b : Bool) → (b && true) ≡ b
  and_true true = refl
  and_true false = refl

  or_false : (b : Bool) → (b || false) ≡ b
  or_false true = refl
  or_false false = refl

  pub equal_row : (t u : ExprType) (v w : Value) → type_same t u ≡ true → IsOfKind width symbols t v → IsOfKind width symbols u w
      → op_value op.Equal (datum_of width symbols v ∷ datum_of width symbols w ∷ []) ≡ datum.Truth (value_same w v)
  equal_row t u v w e h k =
      ap datum.Truth (and_true (same (datum_of width symbols v) (datum_of width symbols w)) ∙ same_codes width symbols some t v w h (kind_same u t w (type_turned t u e) k))

  turned : (t u : ExprType) (v w : Value) → type_same t u ≡ true → IsOfKind width symbols t v → IsOfKind width symbols u w → value_same w v ≡ value_same v w
  turned t u v w e h k =
      sym (same_codes width symbols some t v w h (kind_same u t w (type_turned t u e) k)) ∙ datum_turned (datum_of width symbols v) (datum_of width symbols w)
      ∙ same_codes width symbols some t w v (kind_same u t w (type_turned t u e) k) h
    where
      truth_turned : (a b : Bool) → same (datum.Truth a) (datum.Truth b) ≡ same (datum.Truth b) (datum.Truth a)
      truth_turned true true = refl
      truth_turned true false = refl
      truth_turned false true = refl
      truth_turned false false = refl

      number_turned : (a b : ℕ) → (a == b) ≡ (b == a)
      number_turned a b = by_both (a == b) (b == a) (λ e. eq-eqb b a (sym (eqb-true a b e))) (λ e. eq-eqb a b (sym (eqb-true b a e)))

      datum_turned : (d e : Datum) → same d e ≡ same e d
      datum_turned (datum.Truth a) (datum.Truth b) = truth_turned a b
      datum_turned (datum.Bits x) (datum.Bits y) = ap (λ b. b && x.bits == y.bits) (number_turned x.width y.width) ∙ ap (λ b. y.width == x.width && b) (number_turned x.bits y.bits)
      datum_turned (datum.Constant n i) (datum.Constant m j) = ap (λ b. b && i == j) (number_turned n m) ∙ ap (λ b. m == n && b) (number_turned i j)
      datum_turned (datum.Truth a) (datum.Bits y) = refl
      datum_turned (datum.Truth a) (datum.Constant m j) = refl
      datum_turned (datum.Bits x) (datum.Truth b) = refl
      datum_turned (datum.Bits x) (datum.Constant m j) = refl
      datum_turned (datum.Constant n i) (datum.Truth b) = refl
      datum_turned (datum.Constant n i) (datum.Bits y) = refl

  xor_truths : (p q : Bool) → op_value op.Xor (datum.Truth p ∷ datum.Truth q ∷ []) ≡ datum.Truth (not (bool_eq p q))
  xor_truths true true = refl
  xor_truths true false = refl
  xor_truths false true = refl
  xor_truths false false = refl

  iff_truths : (p q : Bool) → op_value op.Equal (datum.Truth p ∷ datum.Truth q ∷ []) ≡ datum.Truth (bool_eq p q)
  iff_truths true true = refl
  iff_truths true false = refl
  iff_truths false true = refl
  iff_truths false false = refl

  xnor_truths : (p q : Bool) → op_value op.Not (op_value op.Xor (datum.Truth p ∷ datum.Truth q ∷ []) ∷ []) ≡ datum.Truth (bool_eq p q)
  xnor_truths true true = refl
  xnor_truths true false = refl
  xnor_truths false true = refl
  xnor_truths false false = refl

  -- what an operator's term stands for, where the operands have the codes of these values
  pub infix_row : (o : Infix) (t u : ExprType) (v w : Value) → is_plain o ≡ true → infix_fits o t u ≡ true → joins o t u ≡ true → (is_divided o ≡ true → IsNonzero w)
      → IsOfKind width symbols t v → IsOfKind width symbols u w
      → term_value calls now later vals (infix_term o (is_word_type u) (constant (datum_of width symbols v)) (constant (datum_of width symbols w))) ≡ datum_of width symbols (applied o v w)
  infix_row Implies t u v w plain fits wide n h k = implies_row t u v w fits h k
  infix_row Iff t u v w plain fits wide n h k = same_row Iff bool_eq iff_truths (λ x y. refl) t u v w fits h k
  infix_row Or t u v w plain fits wide n h k =
      logical_row width symbols some (λ p q. p || q) (λ b. infix_op Or b) OnWords.Or (λ p q. ap (λ b. datum.Truth (p || b)) (or_false q)) (λ x y. refl) t u v w fits h k
  infix_row Xor t u v w plain fits wide n h k =
      logical_row width symbols some (λ p q. not (bool_eq p q)) (λ b. infix_op Xor b) OnWords.Xor xor_truths (λ x y. refl) t u v w fits h k
  infix_row Xnor t u v w plain fits wide n h k = same_row Xnor bool_eq xnor_truths (λ x y. refl) t u v w fits h k
  infix_row And t u v w plain fits wide n h k =
      logical_row width symbols some (λ p q. p && q) (λ b. infix_op And b) OnWords.And (λ p q. ap (λ b. datum.Truth (p && b)) (and_true q)) (λ x y. refl) t u v w fits h k
  infix_row Equal t u v w plain fits wide n h k = equal_row t u v w fits h k ∙ ap datum.Truth (turned t u v w fits h k)
  infix_row Unequal t u v w plain fits wide n h k = ap (λ d. op_value op.Not (d ∷ [])) (equal_row t u v w fits h k ∙ ap datum.Truth (turned t u v w fits h k))
  infix_row Less t u v w plain fits wide n h k = compared_row width symbols some int_lt (λ b. signed_op b OnWords.Slt OnWords.Ult) OnWords.Ult
      (λ x y. ap datum.Truth (bit_is (int_lt (signed_value width x) (signed_value width y)))) (λ x y. refl) t u v w fits h k
  infix_row Greater t u v w plain fits wide n h k = compared_row width symbols some (λ x y. int_lt y x) (λ b. signed_op b OnWords.Sgt OnWords.Ugt) OnWords.Ugt
      (λ x y. ap datum.Truth (bit_is (int_lt (signed_value width y) (signed_value width x)))) (λ x y. refl) t u v w fits h k
  infix_row LessEq t u v w plain fits wide n h k = compared_row width symbols some int_le (λ b. signed_op b OnWords.Slte OnWords.Ulte) OnWords.Ulte
      (λ x y. ap datum.Truth (bit_is (int_le (signed_value width x) (signed_value width y)))) (λ x y. refl) t u v w fits h k
  infix_row GreaterEq t u v w plain fits wide n h k = compared_row width symbols some (λ x y. int_le y x) (λ b. signed_op b OnWords.Sgte OnWords.Ugte) OnWords.Ugte
      (λ x y. ap datum.Truth (bit_is (int_le (signed_value width y) (signed_value width x)))) (λ x y. refl) t u v w fits h k
  infix_row Member t u v w plain fits wide n h k = cc
  infix_row Union t u v w plain fits wide n h k = cc
  infix_row ShiftLeft t u v w plain fits wide n h k = cc
  infix_row ShiftRight t u v w plain fits wide n h k = cc
  infix_row Plus t u v w plain fits wide n h k = added_row width symbols some (λ x y. x +ℤ y) OnWords.Add (λ x y. ap (λ b. datum.Bits (word width b)) (bits_sum width x y)) (λ x y. refl) t u v w fits h k
  infix_row Minus t u v w plain fits wide n h k = added_row width symbols some (λ x y. x -ℤ y) OnWords.Sub (λ x y. ap (λ b. datum.Bits (word width b)) (bits_difference width x y)) (λ x y. refl) t u v w fits h k
  infix_row Times t u v w plain fits wide n h k = added_row width symbols some (λ x y. x *ℤ y) OnWords.Mul (λ x y. ap (λ b. datum.Bits (word width b)) (bits_product width x y)) (λ x y. refl) t u v w fits h k
  infix_row Divide t u v w plain fits wide n h k = calculated_row width symbols some int_div (λ b. signed_op b OnWords.Sdiv OnWords.Udiv) OnWords.Udiv
      (λ x y p q z. ap (λ b. datum.Bits (word width b)) (bits_quotient width x y some p q z)) (λ x y. refl) t u v w fits h k (n refl)
  infix_row Mod t u v w plain fits wide n h k = calculated_row width symbols some int_mod (λ b. signed_op b OnWords.Srem OnWords.Urem) OnWords.Urem
      (λ x y p q z. ap (λ b. datum.Bits (word width b)) (bits_rest width x y some p q z)) (λ x y. refl) t u v w fits h k (n refl)
  infix_row Concat t u v w plain fits wide n h k = concat_row t u v w fits wide h k

  -- ---- shifts

  shift_row : (b : Binary) → ((x y : BitVector) → op_value (op.BvBinary b) (datum.Bits x ∷ datum.Bits y ∷ []) ≡ datum.Bits (binary_of b x y))
      → (t : ExprType) (v : Value) (n : ℕ) → is_word_type t ≡ true → n ≤ type_width t → IsOfKind width symbols t v
      → op_value (op.BvBinary b) (datum_of width symbols v ∷ datum.Bits (word (type_width t) n) ∷ []) ≡ datum_of width symbols (shifted b v (Integer (pos n)))
  shift_row b words (word_type m) (Bits x) n fits l h =
      words x (word m n) ∙ ap (λ i. datum.Bits (binary_of b x (word i n))) (sym h.0)
      ∙ sym (ap (datum_of width symbols) (pick_true (nat_le n x.width) (Bits (binary_of b x (word x.width n))) no_value (le-leb n x.width (omega (arith, h.0)))))
  shift_row b words (word_type m) v n fits l h = absurd h
  shift_row b words t v n fits l h = cc

  pub shift_left_row : (t : ExprType) (v : Value) (n : ℕ) → is_word_type t ≡ true → n ≤ type_width t → IsOfKind width symbols t v
      → op_value (op.BvBinary OnWords.Sll) (datum_of width symbols v ∷ datum.Bits (word (type_width t) n) ∷ []) ≡ datum_of width symbols (applied ShiftLeft v (Integer (pos n)))
  shift_left_row t v n fits l h = shift_row OnWords.Sll (λ x y. refl) t v n fits l h

  pub shift_right_row : (t : ExprType) (v : Value) (n : ℕ) → is_word_type t ≡ true → n ≤ type_width t → IsOfKind width symbols t v
      → op_value (op.BvBinary OnWords.Srl) (datum_of width symbols v ∷ datum.Bits (word (type_width t) n) ∷ []) ≡ datum_of width symbols (applied ShiftRight v (Integer (pos n)))
  shift_right_row t v n fits l h = shift_row OnWords.Srl (λ x y. refl) t v n fits l h

  -- ---- signs

  -- an operator that is undone by itself
  repeated_value : (o : TermOp) (d : Datum) → op_value o (op_value o (d ∷ []) ∷ []) ≡ d → (n : ℕ) (a : Tree) → term_value calls now later vals a ≡ d
      → term_value calls now later vals (repeated o n a) ≡ (if n % 2 == 1 then op_value o (d ∷ []) else d)
  repeated_value o d undone zero a e = e
  repeated_value o d undone (suc zero) a e = ap (λ x. op_value o (x ∷ [])) e
  repeated_value o d undone (suc (suc n)) a e =
      ap (λ x. op_value o (op_value o (x ∷ []) ∷ [])) (repeated_value o d undone n a e) ∙ by (n % 2 == 1)
      ∙ ap (λ m. if m == 1 then op_value o (d ∷ []) else d) (parity_kept n)
    where
      by : (b : Bool) → op_value o (op_value o ((if b then op_value o (d ∷ []) else d) ∷ []) ∷ []) ≡ (if b then op_value o (d ∷ []) else d)
      by true = ap (λ x. op_value o (x ∷ [])) undone
      by false = undone

      parity_kept : (n : ℕ) → n % 2 ≡ suc (suc n) % 2
      parity_kept n = omega arith

  undone_bits : (o : TermOp) (f : ℕ → ℕ → ℕ) → ((x : BitVector) → op_value o (datum.Bits x ∷ []) ≡ datum.Bits (word x.width (f x.width x.bits))) → (x : BitVector) → f x.width (f x.width x.bits) ≡ x.bits
      → op_value o (op_value o (datum.Bits x ∷ []) ∷ []) ≡ datum.Bits x
  undone_bits o f is x e = ap (λ d. op_value o (d ∷ [])) (is x) ∙ is (word x.width (f x.width x.bits)) ∙ ap (λ b. datum.Bits (word x.width b)) e

  not_twice : (w a : ℕ) → a < 2 ^ w → 2 ^ w - 1 - (2 ^ w - 1 - a) ≡ a
  not_twice w a h = omega arith

  truth_twice : (b : Bool) → datum.Truth (not (not b)) ≡ datum.Truth b
  truth_twice true = refl
  truth_twice false = refl

  sign_row_by : (o : TermOp) (f : Value → Value) (v : Value) → op_value o (op_value o (datum_of width symbols v ∷ []) ∷ []) ≡ datum_of width symbols v
      → op_value o (datum_of width symbols v ∷ []) ≡ datum_of width symbols (f v) → (n : ℕ) (a : Tree) → term_value calls now later vals a ≡ datum_of width symbols v
      → term_value calls now later vals (repeated o n a) ≡ datum_of width symbols (if n % 2 == 1 then f v else v)
  sign_row_by o f v undone is n a e = repeated_value o (datum_of width symbols v) undone n a e ∙ by (n % 2 == 1)
    where
      by : (b : Bool) → (if b then op_value o (datum_of width symbols v ∷ []) else datum_of width symbols v) ≡ datum_of width symbols (if b then f v else v)
      by true = is
      by false = refl

  pub sign_row : (sign : Prefix) (n : ℕ) (t : ExprType) (v : Value) (a : Tree) → prefix_fits sign t ≡ true → IsOfKind width symbols t v
      → term_value calls now later vals a ≡ datum_of width symbols v
      → term_value calls now later vals (repeated (sign_op sign (is_word_type t)) n a) ≡ datum_of width symbols (signed sign n v)
  sign_row OfPrefix.Not n truth_type (Truth b) a fits h e = sign_row_by op.Not negation (Truth b) (truth_twice b) refl n a e
  sign_row OfPrefix.Not n truth_type v a fits h e = absurd h
  sign_row OfPrefix.Not n (word_type m) (Bits x) a fits h e =
      sign_row_by (op.BvUnary OnWord.Not) negation (Bits x) (undone_bits (op.BvUnary OnWord.Not) (λ w b. 2 ^ w - 1 - b) (λ y. refl) x (not_twice x.width x.bits h.1.2)) refl n a e
  sign_row OfPrefix.Not n (word_type m) v a fits h e = absurd h
  sign_row OfPrefix.Not n t v a fits h e = cc
  sign_row OfPrefix.Minus n (integer_type low high) (Integer z) a fits h e =
      sign_row_by (op.BvUnary OnWord.Neg) minus (Integer z) (undone_bits (op.BvUnary OnWord.Neg) negated (λ y. refl) (integer_word width z) (negated_twice width (integer_bits width z) (bits_below width z)))
      (ap (λ b. datum.Bits (word width b)) (bits_negated width z)) n a e
  sign_row OfPrefix.Minus n (integer_type low high) v a fits h e = absurd h
  sign_row OfPrefix.Minus n (word_type m) (Bits x) a fits h e =
      sign_row_by (op.BvUnary OnWord.Neg) minus (Bits x) (undone_bits (op.BvUnary OnWord.Neg) negated (λ y. refl) x (negated_twice x.width x.bits h.1.2)) refl n a e
  sign_row OfPrefix.Minus n (word_type m) v a fits h e = absurd h
  sign_row OfPrefix.Minus n t v a fits h e = cc
