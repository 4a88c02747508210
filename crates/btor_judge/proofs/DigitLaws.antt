-- What the second part of a line spells, read byte by byte.
use Rattle.std.proofs.Common.{◌≡◌, ◌*◌, ◌+◌, ◌-◌, ◌%◌, ◌^◌, ◌<◌, ◌≤◌, ◌&&◌, ℕ, true, false, ltb, leb, List, [], ◌∷◌, ◌++◌, length, Option, Some, None, refl, sym, ap, ◌∙◌, subst, arith, inl, inr}
use Rattle.std.proofs.lemmas.Bool.{cases_Bool, cases_lt, cond-true, cond-false, lt-ltb, le-ltb, le-leb, lt-leb}
use Rattle.std.proofs.Math.Nat.{pow-le-pow_right, mod-eq_of_lt}
use Rattle.std.proofs.lemmas.List.{length_push}
use Rattle.word_core.specs.Words.{BitVector, IsWord}
use Rattle.word_core.specs.declared.word.TheConstants.{WIDEST}
use Rattle.btor_witness.specs.Bytes.{is_binary, all_binary, bits_after, word_of}
use Rattle.btor_witness.specs.Shapes.{assignment_shape}
use Rattle.btor_witness.specs.laws.Binary.{bits_small, digit_small}
use Rattle.btor_judge.specs.declared.digits.Digits.TheVariants.{Bits, Long, Other}
use Rattle.btor_judge.specs.Digit.{digits_of, doubled, digit_next, digits_next, IsWordOf, SpellsDigits, word_from, assigned}

binary_push : (p : List ℕ) (b : ℕ) → all_binary (p ++ b ∷ []) ≡ all_binary p && is_binary b
binary_push [] b = elim (cases_Bool (is_binary b)) [ inl t ↦ rw t refl | inr f ↦ rw f refl ]
binary_push (c ∷ p) b = elim (cases_Bool (is_binary c)) [ inl t ↦ rw t (binary_push p b) | inr f ↦ rw f refl ]

bits_push : (p : List ℕ) (n b : ℕ) → bits_after n (p ++ b ∷ []) ≡ 2 * bits_after n p + (b - 48)
bits_push [] n b = refl
bits_push (c ∷ p) n b = bits_push p (2 * n + (c - 48)) b

small_bits : (p : List ℕ) → all_binary p ≡ true → bits_after 0 p < 2 ^ length p
small_bits p t =
    let none : 0 + length p ≡ length p = omega arith in
    subst (λ k. bits_after 0 p < 2 ^ k) none (bits_small p 0 0 t (omega arith))

-- two to a number of binary digits that leaves room for one more
half : (w : ℕ) → w < WIDEST → 2 ^ w ≤ 2 ^ 127
half w lt = pow-le-pow_right {n = 2} (omega arith) {i = w} {j = 127} (omega (arith, lt))

doubled_is : (w n b : ℕ) → n < 2 ^ w → w < WIDEST → is_binary b ≡ true → doubled n b ≡ 2 * n + (b - 48)
doubled_is w n b small lt t =
    let d = digit_small b t in
    let most = half w lt in
    let top : n + n + 1 < 2 ^ 128 = omega (arith, small, most) in
    let twice : (n + n) % 2 ^ 128 ≡ n + n = mod-eq_of_lt (omega (arith, top)) in
    let all : (n + n + (b - 48)) % 2 ^ 128 ≡ n + n + (b - 48) = mod-eq_of_lt (omega (arith, top, d.0, d.1)) in
    ap (λ m. (m + (b - 48)) % 2 ^ 128) twice ∙ all ∙ omega arith

-- what these digits are
few : (p : List ℕ) → all_binary p ≡ true → length p ≤ WIDEST → digits_of p ≡ Bits (length p) (bits_after 0 p)
few p t le = cond-true (all_binary p) _ Other t ∙ cond-true (leb (length p) WIDEST) _ Long (le-leb (length p) WIDEST le)

many : (p : List ℕ) → all_binary p ≡ true → WIDEST < length p → digits_of p ≡ Long
many p t lt = cond-true (all_binary p) _ Other t ∙ cond-false (leb (length p) WIDEST) (Bits (length p) (bits_after 0 p)) Long (lt-leb (length p) WIDEST lt)

none : (p : List ℕ) → all_binary p ≡ false → digits_of p ≡ Other
none p f = cond-false (all_binary p) _ Other f

-- a binary digit more
push_bits : (p : List ℕ) (b : ℕ) → all_binary p ≡ true → is_binary b ≡ true → digits_of (p ++ b ∷ []) ≡ digit_next (digits_of p) b
push_bits p b t d =
    let whole : all_binary (p ++ b ∷ []) ≡ true = binary_push p b ∙ rw (t, d) refl in
    let long = length_push p b in
    elim (cases_lt (length p) WIDEST) [
      | inl lt ↦
          let bits : bits_after 0 (p ++ b ∷ []) ≡ doubled (bits_after 0 p) b = bits_push p 0 b ∙ sym (doubled_is (length p) (bits_after 0 p) b (small_bits p t) lt d) in
          few (p ++ b ∷ []) whole (omega (arith, lt, long)) ∙ ap (λ n. Bits n (bits_after 0 (p ++ b ∷ []))) long ∙ ap (Bits (length p + 1)) bits
          ∙ sym (ap (λ x. digit_next x b) (few p t (omega (arith, lt))) ∙ cond-true (ltb (length p) WIDEST) (Bits (length p + 1) (doubled (bits_after 0 p) b)) Long (lt-ltb (length p) WIDEST lt))
      | inr ge ↦
          let now : digits_of (p ++ b ∷ []) ≡ Long = many (p ++ b ∷ []) whole (omega (arith, ge, long)) in
          elim (cases_lt WIDEST (length p)) [
            | inl over ↦ now ∙ sym (ap (λ x. digit_next x b) (many p t over))
            | inr le ↦ now ∙ sym (ap (λ x. digit_next x b) (few p t le) ∙ cond-false (ltb (length p) WIDEST) (Bits (length p + 1) (doubled (bits_after 0 p) b)) Long (le-ltb (length p) WIDEST ge))
          ]
    ]

pub digits_push : (p : List ℕ) (b : ℕ) → digits_of (p ++ b ∷ []) ≡ digits_next (digits_of p) b
digits_push p b =
    elim (cases_Bool (is_binary b)) [
      | inl d ↦
          elim (cases_Bool (all_binary p)) [
            | inl t ↦ push_bits p b t d ∙ sym (cond-true (is_binary b) (digit_next (digits_of p) b) Other d)
            | inr f ↦ none (p ++ b ∷ []) (binary_push p b ∙ rw f refl) ∙ sym (cond-true (is_binary b) (digit_next (digits_of p) b) Other d ∙ ap (λ x. digit_next x b) (none p f))
          ]
      | inr d ↦
          let whole : all_binary (p ++ b ∷ []) ≡ false = binary_push p b ∙ elim (cases_Bool (all_binary p)) [ inl t ↦ rw (t, d) refl | inr f ↦ rw f refl ] in
          none (p ++ b ∷ []) whole ∙ sym (cond-false (is_binary b) (digit_next (digits_of p) b) Other d)
    ]

-- the word of the digits
same_word : (width n : ℕ) (word : Option BitVector) → IsWord (record { width = width; bits = n }) → IsWordOf width n word → word ≡ Some (record { width = width; bits = n })
same_word width n None is of = absurd (let g : false ≡ true = of.0.1 is in cc)
same_word width n (Some x) is of = ap (λ y. Some y) of.1

few_word : (b : ℕ) (bs : List ℕ) (word : Option (Option BitVector)) → all_binary (b ∷ bs) ≡ true → length (b ∷ bs) ≤ WIDEST → SpellsDigits (Bits (length (b ∷ bs)) (bits_after 0 (b ∷ bs))) word → word ≡ Some (word_of (b ∷ bs))
few_word b bs None t le h = absurd (omega (arith, h))
few_word b bs (Some word) t le h =
    let n = length (b ∷ bs) in
    let x : BitVector = record { width = n; bits = bits_after 0 (b ∷ bs) } in
    ap (λ o. Some o) (same_word n (bits_after 0 (b ∷ bs)) word (h.0, le, small_bits (b ∷ bs) t) h.1 ∙ sym (cond-true (leb n WIDEST) (Some x) None (le-leb n WIDEST le)))

pub word_is : (p : List ℕ) (word : Option (Option BitVector)) → SpellsDigits (digits_of p) word → word ≡ word_from p
word_is [] None h = refl
word_is [] (Some word) h = absurd (omega (arith, h.0))
word_is (b ∷ bs) word h =
    let p = b ∷ bs in
    elim (cases_Bool (all_binary p)) [
      | inl t ↦
          let from = cond-true (all_binary p) (Some (word_of p)) None t in
          elim (cases_lt WIDEST (length p)) [
            | inl over ↦
                let long : word ≡ Some None = subst (λ d. SpellsDigits d word) (many p t over) h in
                long ∙ sym (from ∙ ap (λ o. Some o) (cond-false (leb (length p) WIDEST) _ None (lt-leb (length p) WIDEST over)))
            | inr le ↦ few_word b bs word t le (subst (λ d. SpellsDigits d word) (few p t le) h) ∙ sym from
          ]
      | inr f ↦
          let other : word ≡ None = subst (λ d. SpellsDigits d word) (none p f) h in
          other ∙ sym (cond-false (all_binary p) (Some (word_of p)) None f)
    ]

-- a number and a word
pub assignment_is : (o : Option ℕ) (q : List ℕ) → assigned o (word_from q) ≡ assignment_shape o q
assignment_is None q = refl
assignment_is (Some i) [] = refl
assignment_is (Some i) (b ∷ bs) = elim (cases_Bool (all_binary (b ∷ bs))) [ inl t ↦ rw t refl | inr f ↦ rw f refl ]
