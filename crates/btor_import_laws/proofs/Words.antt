-- Each row of the table: the term has the word that the operator gives.
use Rattle.std.proofs.Common.{◌≡◌, ℕ, zero, suc, ◌+◌, ◌-◌, ◌*◌, ◌/◌, ◌%◌, ◌^◌, ◌<◌, ◌≤◌, Bool, true, false, not, ◌==◌, ◌&&◌, if◌then◌else◌, nat_lt, nat_le, [], ◌∷◌, refl, sym, ap, ◌∙◌, subst, arith}
use Rattle.std.specs.Prelude.{bit_or, bit_xor, count_ones, int_lt, int_le}
use Rattle.std.proofs.lemmas.Bool.{eq-eqb, eqb-true}
use Rattle.std.specs.Int.Count.{ones_step}
use Rattle.std.proofs.lemmas.Nat.{ones_le_self}
use Rattle.std.proofs.Math.Nat.{div-div-eq-div-mul, pow-suc}
use Rattle.word_core.specs.Words.{BitVector, IsWord}
use Rattle.word_core.specs.Table.{BinaryFits, unary_of, binary_of, bit_of, signed_value}
use Rattle.word_core.specs.declared.kinds.Unary.{Unary}
use Rattle.word_core.specs.declared.kinds.Unary.TheVariants as OnWord
use Rattle.word_core.specs.declared.kinds.Binary.{Binary}
use Rattle.word_core.specs.declared.kinds.Binary.TheVariants as OnWords
use Rattle.moxi_terms.specs.declared.data.Datum.{Datum}
use Rattle.moxi_terms.specs.declared.data.Datum.TheVariants.{Truth, Bits}
use Rattle.moxi_terms.specs.declared.data.TermOp.{TermOp}
use Rattle.moxi_terms.specs.declared.data.TermOp.TheVariants as op
use Rattle.moxi_terms.specs.Operators.{folded, op_value, same, truth_of, word_of}
use Rattle.moxi_terms.specs.Tree.{Tree, apply, trees_of}
use Rattle.moxi_terms.specs.Value.{Calls, Values, term_value, term_values}
use Rattle.btor_import.specs.Operators.{binary_term, bits_from, is_one, parity_term, unary_term, word_term}
use Rattle.moxi_terms.specs.Applications.{one, two, equal_term, choice_term}

abbrev word : ℕ → ℕ → BitVector
word w n = record { width = w; bits = n }

-- ---- one bit

-- words of one width are the same where their numbers are
same_width : (w v a b : ℕ) → w ≡ v → same (Bits (word w a)) (Bits (word v b)) ≡ (a == b)
same_width w v a b e = ap (λ c. c && (a == b)) (eq-eqb w v e)

true_bit : (b : Bool) → (if (b && true) then Bits (word 1 1) else Bits (word 1 0)) ≡ Bits (word 1 (bit_of b))
true_bit true = refl
true_bit false = refl

false_bit : (b : Bool) → (if (b && true) then Bits (word 1 0) else Bits (word 1 1)) ≡ Bits (word 1 (bit_of (not b)))
false_bit true = refl
false_bit false = refl

-- a comparison's word of one bit as a truth value, and back
compared_bit : (b : Bool) → (if (bit_of b == 1) then Bits (word 1 1) else Bits (word 1 0)) ≡ Bits (word 1 (bit_of b))
compared_bit true = refl
compared_bit false = refl

taken : (b : Bool) (x y : BitVector) → (if (b && true) then Bits x else Bits y) ≡ Bits (if b then x else y)
taken true x y = refl
taken false x y = refl

two_bits : (a b : ℕ) → a < 2 → b < 2 → 1 - bit_xor a b ≡ bit_of (a == b)
two_bits zero zero h k = refl
two_bits zero (suc zero) h k = refl
two_bits (suc zero) zero h k = refl
two_bits (suc zero) (suc zero) h k = refl
two_bits zero (suc (suc b)) h k = absurd (omega (arith, k))
two_bits (suc zero) (suc (suc b)) h k = absurd (omega (arith, k))
two_bits (suc (suc a)) b h k = absurd (omega (arith, h))

xor_two : (a b : ℕ) → a < 2 → b < 2 → bit_xor a b ≡ (a + b) % 2
xor_two zero zero h k = refl
xor_two zero (suc zero) h k = refl
xor_two (suc zero) zero h k = refl
xor_two (suc zero) (suc zero) h k = refl
xor_two zero (suc (suc b)) h k = absurd (omega (arith, k))
xor_two (suc zero) (suc (suc b)) h k = absurd (omega (arith, k))
xor_two (suc (suc a)) b h k = absurd (omega (arith, h))

-- ---- values

module _ (calls : Calls) (now later : Values) where
  abbrev pub value : Tree → Datum
  value t = term_value calls now later [] t

  pub on_one : (o : TermOp) (a : Tree) (d : Datum) → value a ≡ d → value (apply o (one a)) ≡ op_value o (d ∷ [])
  on_one o a d h = ap (λ e. op_value o (e ∷ [])) h

  on_two : (o : TermOp) (a b : Tree) (d e : Datum) → value a ≡ d → value b ≡ e → value (apply o (two a b)) ≡ op_value o (d ∷ e ∷ [])
  on_two o a b d e h k = ap (λ x. op_value o (x ∷ value b ∷ [])) h ∙ ap (λ x. op_value o (d ∷ x ∷ [])) k

  -- one bit for a truth value
  chosen : (q x y : Tree) (d : Datum) → value q ≡ d → value (choice_term q x y) ≡ (if truth_of d then value x else value y)
  chosen q x y d h = ap (λ e. if truth_of e then value x else value y) h

  equal_is : (a b : Tree) (w v m n : ℕ) → value a ≡ Bits (word w m) → value b ≡ Bits (word v n) → w ≡ v → value (equal_term a b) ≡ Truth ((m == n) && true)
  equal_is a b w v m n h k e = on_two op.Equal a b (Bits (word w m)) (Bits (word v n)) h k ∙ ap (λ c. Truth (c && true)) (same_width w v m n e)

  pub one_is : (a : Tree) (x : BitVector) → value a ≡ Bits x → x.width ≡ 1 → value (is_one a) ≡ Truth ((x.bits == 1) && true)
  one_is a x h e = equal_is a (word_term 1 1) x.width 1 x.bits 1 h refl e

  pub choice_is : (q a b : Tree) (c x y : BitVector) → value q ≡ Bits c → c.width ≡ 1 → value a ≡ Bits x → value b ≡ Bits y → value (choice_term (is_one q) a b) ≡ Bits (if c.bits == 1 then x else y)
  choice_is q a b c x y h e i j =
      chosen (is_one q) a b (Truth ((c.bits == 1) && true)) (one_is q c h e)
      ∙ ap (λ d. if ((c.bits == 1) && true) then d else value b) i ∙ ap (λ d. if ((c.bits == 1) && true) then Bits x else d) j ∙ taken (c.bits == 1) x y

  -- ---- the bits of a word

  bit_is : (i : ℕ) (a : Tree) (x : BitVector) → value a ≡ Bits x → value (apply (op.Extract i i) (one a)) ≡ Bits (word 1 ((x.bits / 2 ^ i) % 2))
  bit_is i a x h = on_one (op.Extract i i) a (Bits x) h ∙ ap (λ n. Bits (word n ((x.bits / 2 ^ i) % 2 ^ n))) (let e : i - i + 1 ≡ 1 = omega arith in e)

  half : (n i : ℕ) → n / 2 ^ (i + 1) ≡ (n / 2 ^ i) / 2
  half n i = ap (λ m. n / m) (ap (λ k. 2 ^ k) (let e : i + 1 ≡ suc i = omega arith in e) ∙ pow-suc 2 i) ∙ sym (div-div-eq-div-mul n (2 ^ i) 2)

  folded_is : (a : Tree) (x : BitVector) → value a ≡ Bits x → (i n p : ℕ) → p < 2 → x.bits / 2 ^ i < 2 ^ n
      → folded OnWords.Xor (word 1 p) (term_values calls now later [] (trees_of (bits_from i n a))) ≡ word 1 ((p + count_ones (x.bits / 2 ^ i)) % 2)
  folded_is a x h i zero p l s =
      let c = ones_le_self (x.bits / 2 ^ i) in
      ap (word 1) (none_left p (x.bits / 2 ^ i) (count_ones (x.bits / 2 ^ i)) l s c)
    where
      none_left : (p y c : ℕ) → p < 2 → y < 1 → c ≤ y → p ≡ (p + c) % 2
      none_left p y c l s h = omega (arith, l, s, h)
  folded_is a x h i (suc n) p l s =
      let y = x.bits / 2 ^ i in
      let vs = term_values calls now later [] (trees_of (bits_from (i + 1) n a)) in
      let small : y % 2 < 2 = omega arith in
      ap (λ d. folded OnWords.Xor (binary_of OnWords.Xor (word 1 p) (word_of d)) vs) (bit_is i a x h)
      ∙ ap (λ m. folded OnWords.Xor (word 1 m) vs) (xor_two p (y % 2) l small)
      ∙ folded_is a x h (i + 1) n ((p + y % 2) % 2) (omega arith) (subst (λ m. m < 2 ^ n) (sym (half x.bits i)) (halved y (2 ^ n) (subst (λ m. y < m) (pow-suc 2 n) s)))
      ∙ ap (λ m. word 1 (((p + y % 2) % 2 + count_ones m) % 2)) (half x.bits i)
      ∙ ap (word 1) (one_more p y (count_ones y) (count_ones (y / 2)) (ones_step y))
    where
      halved : (y t : ℕ) → y < t * 2 → y / 2 < t
      halved y t h = omega (arith, h)

      one_more : (p y c d : ℕ) → c ≡ y % 2 + d → ((p + y % 2) % 2 + d) % 2 ≡ (p + c) % 2
      one_more p y c d h = omega (arith, h)

  parity_is : (a : Tree) (x : BitVector) → value a ≡ Bits x → 1 ≤ x.width → x.bits < 2 ^ x.width → value (parity_term x.width a) ≡ Bits (unary_of OnWord.RedXor x)
  parity_is a x h some small = by (x.width == 1) refl
    where
      single : (n c d : ℕ) → n < 2 → c ≡ n % 2 + d → d ≤ n / 2 → n ≡ c % 2
      single n c d l e h = omega (arith, l, e, h)

      many : (w : ℕ) → 1 ≤ w → x.bits < 2 ^ w → value (apply (op.BvBinary OnWords.Xor) (trees_of (bits_from 0 w a))) ≡ Bits (word 1 (count_ones x.bits % 2))
      many zero l s = absurd (omega (arith, l))
      many (suc n) l s =
          let vs = term_values calls now later [] (trees_of (bits_from (0 + 1) n a)) in
          let whole : x.bits / 2 ^ 0 ≡ x.bits = omega arith in
          ap (λ d. Bits (folded OnWords.Xor (word_of d) vs)) (bit_is 0 a x h)
          ∙ sym (ap (λ d. Bits (folded OnWords.Xor (binary_of OnWords.Xor (word 1 0) (word_of d)) vs)) (bit_is 0 a x h))
          ∙ ap Bits (folded_is a x h 0 (suc n) 0 (omega arith) (subst (λ m. m < 2 ^ suc n) (sym whole) s))
          ∙ ap (λ m. Bits (word 1 ((0 + count_ones m) % 2))) whole
          ∙ ap (λ m. Bits (word 1 (m % 2))) (let e : 0 + count_ones x.bits ≡ count_ones x.bits = omega arith in e)

      by : (b : Bool) → (x.width == 1) ≡ b → value (if b then a else apply (op.BvBinary OnWords.Xor) (trees_of (bits_from 0 x.width a))) ≡ Bits (word 1 (count_ones x.bits % 2))
      by true e =
          let w = eqb-true x.width 1 e in
          h ∙ ap (λ n. Bits (word n x.bits)) w
          ∙ ap (λ m. Bits (word 1 m)) (single x.bits (count_ones x.bits) (count_ones (x.bits / 2)) (subst (λ n. x.bits < 2 ^ n) w small) (ones_step x.bits) (ones_le_self (x.bits / 2)))
      by false e = many x.width some small

  -- ---- operators on a word

  pub unary_is : (o : Unary) (a : Tree) (x : BitVector) → value a ≡ Bits x → IsWord x → value (unary_term o x.width a) ≡ Bits (unary_of o x)
  unary_is OnWord.Not a x h w = on_one (op.BvUnary OnWord.Not) a (Bits x) h
  unary_is OnWord.Neg a x h w = on_one (op.BvUnary OnWord.Neg) a (Bits x) h
  unary_is OnWord.Inc a x h w = on_two (op.BvBinary OnWords.Add) a (word_term x.width 1) (Bits x) (Bits (word x.width 1)) h refl
  unary_is OnWord.Dec a x h w = on_two (op.BvBinary OnWords.Sub) a (word_term x.width 1) (Bits x) (Bits (word x.width 1)) h refl
  unary_is OnWord.RedAnd a x h w =
      chosen (equal_term a (word_term x.width (2 ^ x.width - 1))) (word_term 1 1) (word_term 1 0) _ (equal_is a (word_term x.width (2 ^ x.width - 1)) x.width x.width x.bits (2 ^ x.width - 1) h refl refl)
      ∙ true_bit (x.bits == 2 ^ x.width - 1)
  unary_is OnWord.RedOr a x h w =
      chosen (equal_term a (word_term x.width 0)) (word_term 1 0) (word_term 1 1) _ (equal_is a (word_term x.width 0) x.width x.width x.bits 0 h refl refl)
      ∙ false_bit (x.bits == 0)
  unary_is OnWord.RedXor a x h w = parity_is a x h w.0 w.2

  -- ---- operators on two words

  comparison_is : (o : Binary) (a b : Tree) (c : Bool) → value (apply (op.BvBinary o) (two a b)) ≡ Truth (bit_of c == 1) → value (choice_term (apply (op.BvBinary o) (two a b)) (word_term 1 1) (word_term 1 0)) ≡ Bits (word 1 (bit_of c))
  comparison_is o a b c h = chosen (apply (op.BvBinary o) (two a b)) (word_term 1 1) (word_term 1 0) (Truth (bit_of c == 1)) h ∙ compared_bit c

  on_words_is : (o : Binary) (a b : Tree) (x y : BitVector) → value a ≡ Bits x → value b ≡ Bits y → value (apply (op.BvBinary o) (two a b)) ≡ op_value (op.BvBinary o) (Bits x ∷ Bits y ∷ [])
  on_words_is o a b x y h k = on_two (op.BvBinary o) a b (Bits x) (Bits y) h k

  not_is : (a : Tree) (x : BitVector) → value a ≡ Bits x → value (apply (op.BvUnary OnWord.Not) (one a)) ≡ Bits (unary_of OnWord.Not x)
  not_is a x h = on_one (op.BvUnary OnWord.Not) a (Bits x) h

  pub binary_is : (o : Binary) (a b : Tree) (x y : BitVector) → value a ≡ Bits x → value b ≡ Bits y → IsWord x → IsWord y → BinaryFits o x.width y.width → value (binary_term o a b) ≡ Bits (binary_of o x y)
  binary_is OnWords.Iff a b x y h k v w f =
      not_is (apply (op.BvBinary OnWords.Xor) (two a b)) (binary_of OnWords.Xor x y) (on_words_is OnWords.Xor a b x y h k)
      ∙ ap (λ n. Bits (word n (2 ^ n - 1 - bit_xor x.bits y.bits))) f.0
      ∙ ap (λ m. Bits (word 1 m)) (two_bits x.bits y.bits (subst (λ n. x.bits < 2 ^ n) f.0 v.2) (subst (λ n. y.bits < 2 ^ n) f.1 w.2))
  binary_is OnWords.Implies a b x y h k v w f =
      on_words_is OnWords.Or (apply (op.BvUnary OnWord.Not) (one a)) b (unary_of OnWord.Not x) y (not_is a x h) k
      ∙ ap (λ n. Bits (word n (bit_or (2 ^ n - 1 - x.bits) y.bits))) f.0
  binary_is OnWords.Eq a b x y h k v w f =
      chosen (equal_term a b) (word_term 1 1) (word_term 1 0) _ (equal_is a b x.width y.width x.bits y.bits h k f) ∙ true_bit (x.bits == y.bits)
  binary_is OnWords.Neq a b x y h k v w f =
      chosen (equal_term a b) (word_term 1 0) (word_term 1 1) _ (equal_is a b x.width y.width x.bits y.bits h k f) ∙ false_bit (x.bits == y.bits)
  binary_is OnWords.Sgt a b x y h k v w f = comparison_is OnWords.Sgt a b (int_lt (signed_value y.width y.bits) (signed_value x.width x.bits)) (on_words_is OnWords.Sgt a b x y h k)
  binary_is OnWords.Sgte a b x y h k v w f = comparison_is OnWords.Sgte a b (int_le (signed_value y.width y.bits) (signed_value x.width x.bits)) (on_words_is OnWords.Sgte a b x y h k)
  binary_is OnWords.Slt a b x y h k v w f = comparison_is OnWords.Slt a b (int_lt (signed_value x.width x.bits) (signed_value y.width y.bits)) (on_words_is OnWords.Slt a b x y h k)
  binary_is OnWords.Slte a b x y h k v w f = comparison_is OnWords.Slte a b (int_le (signed_value x.width x.bits) (signed_value y.width y.bits)) (on_words_is OnWords.Slte a b x y h k)
  binary_is OnWords.Ugt a b x y h k v w f = comparison_is OnWords.Ugt a b (nat_lt y.bits x.bits) (on_words_is OnWords.Ugt a b x y h k)
  binary_is OnWords.Ugte a b x y h k v w f = comparison_is OnWords.Ugte a b (nat_le y.bits x.bits) (on_words_is OnWords.Ugte a b x y h k)
  binary_is OnWords.Ult a b x y h k v w f = comparison_is OnWords.Ult a b (nat_lt x.bits y.bits) (on_words_is OnWords.Ult a b x y h k)
  binary_is OnWords.Ulte a b x y h k v w f = comparison_is OnWords.Ulte a b (nat_le x.bits y.bits) (on_words_is OnWords.Ulte a b x y h k)
  binary_is OnWords.Nand a b x y h k v w f = not_is (apply (op.BvBinary OnWords.And) (two a b)) (binary_of OnWords.And x y) (on_words_is OnWords.And a b x y h k)
  binary_is OnWords.Nor a b x y h k v w f = not_is (apply (op.BvBinary OnWords.Or) (two a b)) (binary_of OnWords.Or x y) (on_words_is OnWords.Or a b x y h k)
  binary_is OnWords.Xnor a b x y h k v w f = not_is (apply (op.BvBinary OnWords.Xor) (two a b)) (binary_of OnWords.Xor x y) (on_words_is OnWords.Xor a b x y h k)
  binary_is OnWords.Concat a b x y h k v w f = on_two op.Concat a b (Bits x) (Bits y) h k
  binary_is OnWords.And a b x y h k v w f = on_words_is OnWords.And a b x y h k
  binary_is OnWords.Or a b x y h k v w f = on_words_is OnWords.Or a b x y h k
  binary_is OnWords.Xor a b x y h k v w f = on_words_is OnWords.Xor a b x y h k
  binary_is OnWords.Sll a b x y h k v w f = on_words_is OnWords.Sll a b x y h k
  binary_is OnWords.Srl a b x y h k v w f = on_words_is OnWords.Srl a b x y h k
  binary_is OnWords.Sra a b x y h k v w f = on_words_is OnWords.Sra a b x y h k
  binary_is OnWords.Add a b x y h k v w f = on_words_is OnWords.Add a b x y h k
  binary_is OnWords.Sub a b x y h k v w f = on_words_is OnWords.Sub a b x y h k
  binary_is OnWords.Mul a b x y h k v w f = on_words_is OnWords.Mul a b x y h k
  binary_is OnWords.Udiv a b x y h k v w f = on_words_is OnWords.Udiv a b x y h k
  binary_is OnWords.Sdiv a b x y h k v w f = on_words_is OnWords.Sdiv a b x y h k
  binary_is OnWords.Urem a b x y h k v w f = on_words_is OnWords.Urem a b x y h k
  binary_is OnWords.Srem a b x y h k v w f = on_words_is OnWords.Srem a b x y h k
  binary_is OnWords.Smod a b x y h k v w f = on_words_is OnWords.Smod a b x y h k
