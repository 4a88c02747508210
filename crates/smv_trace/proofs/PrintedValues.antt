-- Printed values are read back, and have no blank.
use Rattle.std.proofs.Common.{◌≡◌, ◌<◌, ◌^◌, ◌+◌, ◌*◌, ◌-◌, ◌==◌, ℕ, suc, Bool, true, false, not, ◌&&◌, ◌||◌, Option, Some, None, is_none, List, [], ◌∷◌, length, refl, ap, ◌∙◌, arith}
use Rattle.std.specs.Prelude.{ℤ, pos, negsuc, neg_ℤ, int_le, is_some, nat_lt, option_map, option_and_then}
use Rattle.std.specs.List.{list_all, list_any}
use Rattle.std.specs.Fmt.{decimal, signed_decimal}
use Rattle.std.specs.Str.{bytes_eq}
use Rattle.std.proofs.lemmas.Bool.{and_parts, cond-true, cond-false}
use Rattle.std.proofs.lemmas.Bool.Decides.{nat_tests}
use Rattle.std.proofs.lemmas.Fmt.{digits_value-decimal, decimal_nonempty}
use Rattle.std.proofs.lemmas.Slice.Eq.{bytes_eq-Decides}
use Rattle.word_core.specs.Words.{BitVector}
use Rattle.word_core.specs.Digits.{below, number_after, digits_value}
use Rattle.text_core.specs.Bytes.{is_digit}
use Rattle.smv_text.specs.Bytes.{is_blank}
use Rattle.smv_text.specs.Numbers.{number_of, literal_of}
use Rattle.smv_lex.specs.Spelling.{literal_bytes}
use Rattle.smv_meaning.specs.declared.value.Value.{Value}
use Rattle.smv_meaning.specs.declared.value.Value.TheVariants.{Truth, Integer, Symbol, Bits}
use Rattle.smv_meaning.specs.Types.{ExprType, truth_type, integer_type, symbol_type, word_type}
use Rattle.name_maps.specs.Names.{place_of}
use Rattle.name_maps.specs.laws.Places.{placed}
use Rattle.smv_trace_text.specs.Texts.{value_text}
use Rattle.smv_numbered.specs.Stated.{can_be_stated, is_word_of}
use Rattle.smv_trace.specs.Values.{truth_of, negative_of, integer_of, symbol_at, word_as, value_of}
use Rattle.smv_trace.proofs.Solid.{is_solid, is_named, all_both, decimal_digits, decimal_solid, named_solid, named_some}
use Rattle.smv_trace.proofs.Literals.{of_word, literal_again}
use Rattle.smv_lex.proofs.Printed.{digit_value}
use Rattle.text_core.proofs.Numerals.{value_from, numerals}

-- ---- numbers

number_is : (bs : List ℕ) (n : ℕ) → list_all is_digit bs ≡ true → number_after 10 n bs ≡ Some (value_from n bs)
number_is [] n e = refl
number_is (b ∷ bs) n e =
    let h = and_parts (is_digit b) (list_all is_digit bs) e in
    let d = digit_value b h.0 in
    rw (d.1, d.0) (number_is bs (n * 10 + (b - 48)) h.1)

some_value : (bs : List ℕ) (n : ℕ) → 0 < length bs → number_after 10 0 bs ≡ Some n → digits_value 10 bs ≡ Some n
some_value [] n some e = absurd (omega (arith, some))
some_value (b ∷ bs) n some e = e

value_again : (n : ℕ) → n < 2 ^ 64 → digits_value 10 (decimal n) ≡ Some n
value_again n small =
    some_value (decimal n) n (decimal_nonempty n small) (number_is (decimal n) 0 (decimal_digits n) ∙ ap Some (digits_value-decimal numerals n small))

below_again : (limit n : ℕ) → n < limit → below limit n ≡ Some n
below_again limit n small = let t : nat_lt n limit ≡ true = grind (arith, nat_tests, small) in cond-true (nat_lt n limit) (Some n) None t

small_integer : (n : ℕ) → (int_le (neg_ℤ (pos (2 ^ 62))) (pos n) && int_le (pos n) (pos (2 ^ 62 - 1))) ≡ true → n < 2 ^ 62
small_integer n h = grind (arith, nat_tests)

small_negative : (n : ℕ) → (int_le (neg_ℤ (pos (2 ^ 62))) (negsuc n) && int_le (negsuc n) (pos (2 ^ 62 - 1))) ≡ true → suc n < 2 ^ 62 + 1
small_negative n h = grind (arith, nat_tests)

positive_read : (bs : List ℕ) (n : ℕ) → 0 < length bs → list_all is_digit bs ≡ true → number_of bs ≡ Some n → integer_of bs ≡ Some (pos n)
positive_read [] n some all e = absurd (omega (arith, some))
positive_read (b ∷ bs) n some all e =
    let h = and_parts (is_digit b) (list_all is_digit bs) all in
    let unsigned : (b == 45) ≡ false = grind (arith, nat_tests, h.0) in
    cond-false (b == 45) (negative_of bs) (option_map pos (number_of (b ∷ bs))) unsigned ∙ ap (option_map pos) e

integer_again : (z : ℤ) → (int_le (neg_ℤ (pos (2 ^ 62))) z && int_le z (pos (2 ^ 62 - 1))) ≡ true → integer_of (signed_decimal z) ≡ Some z
integer_again (pos n) h =
    let small = small_integer n h in
    let wide : n < 2 ^ 64 = omega (arith, small) in
    positive_read (decimal n) n (decimal_nonempty n wide) (decimal_digits n) (ap (option_and_then (below (2 ^ 62))) (value_again n wide) ∙ below_again (2 ^ 62) n small)
integer_again (negsuc n) h =
    let small = small_negative n h in
    ap (λ o. option_map (λ n. neg_ℤ (pos n)) (option_and_then (below (2 ^ 62 + 1)) o)) (value_again (suc n) (omega (arith, small)))
    ∙ ap (option_map (λ n. neg_ℤ (pos n))) (below_again (2 ^ 62 + 1) (suc n) small)

integer_solid : (z : ℤ) → is_solid (signed_decimal z) ≡ true
integer_solid (pos n) = decimal_solid n
integer_solid (negsuc n) = decimal_solid (suc n)

integer_some : (z : ℤ) → (int_le (neg_ℤ (pos (2 ^ 62))) z && int_le z (pos (2 ^ 62 - 1))) ≡ true → 0 < length (signed_decimal z)
integer_some (pos n) h = decimal_nonempty n (let small = small_integer n h in omega (arith, small))
integer_some (negsuc n) h = omega arith

-- ---- symbols

any_named : (symbols : List (List ℕ)) (s : List ℕ) → list_all is_named symbols ≡ true → list_any (bytes_eq s) symbols ≡ true → is_named s ≡ true
any_named [] s h e = absurd (let f : false ≡ true = e in cc)
any_named (x ∷ xs) s h e = let t = and_parts (is_named x) (list_all is_named xs) h in go (bytes_eq s x) refl t.0 (any_named xs s t.1) e
  where
    go : (b : Bool) → bytes_eq s x ≡ b → is_named x ≡ true → (list_any (bytes_eq s) xs ≡ true → is_named s ≡ true) → (b || list_any (bytes_eq s) xs) ≡ true → is_named s ≡ true
    go true f n more e = ap is_named ((bytes_eq-Decides s x).0 f) ∙ n
    go false f n more e = more e

symbol_named : (symbols : List (List ℕ)) (s : List ℕ) → list_all is_named symbols ≡ true → is_some (place_of symbols s) ≡ true → is_named s ≡ true
symbol_named symbols s h e = any_named symbols s h (told (place_of symbols s) (list_any (bytes_eq s) symbols) (placed symbols s) e)
  where
    told : (o : Option ℕ) (b : Bool) → is_none o ≡ not b → is_some o ≡ true → b ≡ true
    told o true f e = refl
    told None false f e = absurd (let g : false ≡ true = e in cc)
    told (Some k) false f e = absurd (let g : false ≡ true = f in cc)

symbol_again : (o : Option ℕ) (s : List ℕ) → is_some o ≡ true → symbol_at s o ≡ Some (Symbol s)
symbol_again None s e = absurd (let g : false ≡ true = e in cc)
symbol_again (Some k) s e = refl

-- ---- words

word_again : (n : ℕ) (w : BitVector) → is_word_of n w ≡ true → option_and_then (word_as n) (literal_of (literal_bytes w)) ≡ Some (Bits w)
word_again n w h = let t = of_word n w h in ap (option_and_then (word_as n)) (literal_again w t.1) ∙ cond-true (w.width == n) (Some (Bits w)) None t.0

word_solid : (w : BitVector) → is_solid (literal_bytes w) ≡ true
word_solid w = all_both (λ b. not (is_blank b)) (decimal w.width) (95 ∷ decimal w.bits) (decimal_solid w.width) (decimal_solid w.bits)

-- ---- values

untrue : {A : Type 0} → false ≡ true → A
untrue e = absurd (cc)

truth_again : (b : Bool) → option_map Truth (truth_of (value_text (Truth b))) ≡ Some (Truth b)
truth_again true = refl
truth_again false = refl

pub read_again : (symbols : List (List ℕ)) (t : ExprType) (v : Value) → can_be_stated symbols t v ≡ true → value_of symbols t (value_text v) ≡ Some v
read_again symbols truth_type (Truth b) h = truth_again b
read_again symbols truth_type (Integer z) h = untrue h
read_again symbols truth_type (Symbol s) h = untrue h
read_again symbols truth_type (Bits w) h = untrue h
read_again symbols (integer_type low high) (Truth b) h = untrue h
read_again symbols (integer_type low high) (Integer z) h = ap (option_map Integer) (integer_again z h)
read_again symbols (integer_type low high) (Symbol s) h = untrue h
read_again symbols (integer_type low high) (Bits w) h = untrue h
read_again symbols symbol_type (Truth b) h = untrue h
read_again symbols symbol_type (Integer z) h = untrue h
read_again symbols symbol_type (Symbol s) h = symbol_again (place_of symbols s) s h
read_again symbols symbol_type (Bits w) h = untrue h
read_again symbols (word_type n) (Truth b) h = untrue h
read_again symbols (word_type n) (Integer z) h = untrue h
read_again symbols (word_type n) (Symbol s) h = untrue h
read_again symbols (word_type n) (Bits w) h = word_again n w h

-- one or more bytes, none of them a blank
abbrev pub IsSolid : List ℕ → Type 0
IsSolid bs = (is_solid bs ≡ true) × (0 < length bs)

truth_solid : (b : Bool) → IsSolid (value_text (Truth b))
truth_solid true = (refl, omega arith)
truth_solid false = (refl, omega arith)

named_bytes : (s : List ℕ) → is_named s ≡ true → IsSolid s
named_bytes s h = (named_solid s h, named_some s h)

pub value_solid : (symbols : List (List ℕ)) → list_all is_named symbols ≡ true → (t : ExprType) (v : Value) → can_be_stated symbols t v ≡ true → IsSolid (value_text v)
value_solid symbols k t (Truth b) h = truth_solid b
value_solid symbols k t (Bits w) h = (word_solid w, omega arith)
value_solid symbols k truth_type (Integer z) h = untrue h
value_solid symbols k (integer_type low high) (Integer z) h = (integer_solid z, integer_some z h)
value_solid symbols k symbol_type (Integer z) h = untrue h
value_solid symbols k (word_type n) (Integer z) h = untrue h
value_solid symbols k truth_type (Symbol s) h = untrue h
value_solid symbols k (integer_type low high) (Symbol s) h = untrue h
value_solid symbols k symbol_type (Symbol s) h = named_bytes s (symbol_named symbols s k h)
value_solid symbols k (word_type n) (Symbol s) h = untrue h
