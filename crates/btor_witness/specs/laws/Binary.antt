-- Binary digits spell a number below two to their count, and what they spell is the word of so many bits.
use Rattle.std.proofs.Common.{◌≡◌, ◌<◌, ◌≤◌, ◌^◌, ◌*◌, ◌+◌, ◌-◌, ◌&&◌, ℕ, suc, Bool, true, false, cond, ltb, leb, List, [], ◌∷◌, length, Some, None, refl, sym, ap, ◌∙◌, subst, arith, inl, inr}
use Rattle.std.specs.Prelude.{is_some, option_and_then}
use Rattle.std.proofs.Math.Nat.{pow-suc}
use Rattle.std.proofs.Math.Numerals.{add-one}
use Rattle.std.proofs.lemmas.Bool.{cases_Bool, and_parts, cond-true, cond-false, leb-true, le-leb, lt-ltb, le-ltb}
use Rattle.std.proofs.lemmas.Bool.Decides.{nat_tests}
use Rattle.text_core.specs.Bytes.{is_digit}
use Rattle.word_core.specs.declared.word.TheConstants.{WIDEST}
use Rattle.word_core.specs.Digits.{digit_number, digits_value, fitted, number_after, read_word}
use Rattle.btor_tree.proofs.Numerals.{digit_is, letter_big}
use Rattle.btor_witness.specs.Bytes.{is_binary, all_binary, bits_after, word_of}

pub digit_small : (b : ℕ) → is_binary b ≡ true → (48 ≤ b) × (b ≤ 49)
digit_small b h = (grind (arith, nat_tests), grind (arith, nat_tests))

pub bits_small : (bs : List ℕ) (n m : ℕ) → all_binary bs ≡ true → n < 2 ^ m → bits_after n bs < 2 ^ (m + length bs)
bits_small [] n m h lt = let e : m ≡ m + 0 = omega arith in subst (λ k. n < 2 ^ k) e lt
bits_small (b ∷ bs) n m h lt =
    let p = and_parts (is_binary b) (all_binary bs) h in
    let d = digit_small b p.0 in
    let next : 2 * n + (b - 48) < 2 ^ (m + 1) = omega (arith, d.0, d.1, pow-suc 2 m, add-one m, ap (λ k. 2 ^ k) (add-one m)) in
    let ih = bits_small bs (2 * n + (b - 48)) (m + 1) p.1 next in
    let e : m + 1 + length bs ≡ m + suc (length bs) = omega arith in
    subst (λ k. bits_after (2 * n + (b - 48)) bs < 2 ^ k) e ih

-- the digits of base 2 are these
digit_two : (b : ℕ) → ltb (digit_number b) 2 ≡ is_binary b
digit_two b =
    elim (cases_Bool (is_digit b)) [
      | inl t ↦
          let e = digit_is b t in
          let low = leb-true 48 b (and_parts (leb 48 b) (leb b 57) t).0 in
          elim (cases_Bool (is_binary b)) [
            | inl y ↦ let d = digit_small b y in lt-ltb (digit_number b) 2 (omega (arith, e, d.1)) ∙ sym y
            | inr n ↦ let more : 50 ≤ b = grind (arith, nat_tests) in le-ltb (digit_number b) 2 (omega (arith, e, more)) ∙ sym n
          ]
      | inr f ↦
          let big = letter_big b f in
          let no : is_binary b ≡ false = grind (arith, nat_tests) in
          le-ltb (digit_number b) 2 (omega (arith, big)) ∙ sym no
    ]

number_binary : (bs : List ℕ) (n : ℕ) → number_after 2 n bs ≡ cond (all_binary bs) (Some (bits_after n bs)) None
number_binary [] n = refl
number_binary (b ∷ bs) n =
    let next = 2 * n + (b - 48) in
    elim (cases_Bool (is_binary b)) [
      | inl t ↦
          let d = digit_small b t in
          let digit : is_digit b ≡ true = grind (arith, nat_tests) in
          let e : n * 2 + digit_number b ≡ next = omega (arith, digit_is b digit) in
          cond-true (ltb (digit_number b) 2) _ _ (digit_two b ∙ t) ∙ ap (λ m. number_after 2 m bs) e ∙ number_binary bs next ∙ sym (ap (λ x. cond (x && all_binary bs) (Some (bits_after next bs)) None) t)
      | inr f ↦ cond-false (ltb (digit_number b) 2) _ _ (digit_two b ∙ f) ∙ sym (ap (λ x. cond (x && all_binary bs) (Some (bits_after next bs)) None) f)
    ]

some_tested : (t : Bool) (n : ℕ) → is_some (cond t (Some n) None) ≡ t
some_tested true n = refl
some_tested false n = refl

pub binary_tested : (b : ℕ) (bs : List ℕ) → is_some (digits_value 2 (b ∷ bs)) ≡ all_binary (b ∷ bs)
binary_tested b bs = ap is_some (number_binary (b ∷ bs) 0) ∙ some_tested (all_binary (b ∷ bs)) (bits_after 0 (b ∷ bs))

pub binary_word : (b : ℕ) (bs : List ℕ) → all_binary (b ∷ bs) ≡ true → read_word (length (b ∷ bs)) 2 (b ∷ bs) ≡ word_of (b ∷ bs)
binary_word b bs h =
    let w = length (b ∷ bs) in
    let bits = bits_after 0 (b ∷ bs) in
    let none : 0 + w ≡ w = omega arith in
    let small : bits < 2 ^ w = subst (λ k. bits < 2 ^ k) none (bits_small (b ∷ bs) 0 0 h (omega arith)) in
    let value : digits_value 2 (b ∷ bs) ≡ Some bits = number_binary (b ∷ bs) 0 ∙ cond-true (all_binary (b ∷ bs)) _ _ h in
    let one : leb 1 w ≡ true = le-leb 1 w (omega arith) in
    ap (λ t. cond (t && leb w WIDEST) (option_and_then (fitted w) (digits_value 2 (b ∷ bs))) None) one
    ∙ ap (λ o. cond (leb w WIDEST) o None) (ap (option_and_then (fitted w)) value ∙ cond-true (ltb bits (2 ^ w)) _ _ (lt-ltb bits (2 ^ w) small))
