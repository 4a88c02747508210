-- Operators between operands whose types fit have the sort of their type.
use Rattle.std.proofs.Common.{◌≡◌, ℕ, ◌+◌, ◌≤◌, Bool, true, false, ◌==◌, nat_le, if◌then◌else◌, ◌%◌, ℤ, neg_ℤ, List, [], ◌∷◌, length, Option, Some, None, Ok, Err, refl, sym, ap, ◌∙◌, subst, arith, ◌+ℤ◌, ◌-ℤ◌, ◌*ℤ◌}
use Rattle.std.proofs.lemmas.Bool.{eqb-true, le-leb}
use Rattle.std.specs.List.{list_all, AllByRecursion}
use Rattle.text_core.specs.declared.place.Kind.TheVariants.{M}
use Rattle.word_core.specs.declared.word.TheConstants.{WIDEST}
use Rattle.word_core.specs.declared.kinds.Unary.TheVariants as OnWord
use Rattle.word_core.specs.declared.kinds.Binary.{Binary}
use Rattle.word_core.specs.declared.kinds.Binary.TheVariants as OnWords
use Rattle.smv_text.specs.declared.operators.Prefix.{Prefix}
use Rattle.smv_text.specs.declared.operators.Prefix.TheVariants as OfPrefix
use Rattle.smv_text.specs.declared.operators.Infix.{Infix}
use Rattle.smv_text.specs.declared.operators.Infix.TheVariants.{Implies, Iff, Or, Xor, Xnor, And, Equal, Unequal, Less, Greater, LessEq, GreaterEq, Member, Union, ShiftLeft, ShiftRight, Plus, Minus, Times, Divide, Mod, Concat}
use Rattle.smv_text.specs.Tree.{Tree as Expression}
use Rattle.smv_meaning.specs.Types.{ExprType, truth_type, integer_type, symbol_type, word_type, is_truth_type, is_integer_type, is_word_type, type_width, type_same, logical_fits, number_fits, hull, hull_with, hull_of, over_ends, over_both_ends, quotient_type, rest_type, divisor_of, infix_fits, infix_type, joins, prefix_fits, prefix_type, are_same}
use Rattle.smv_meaning.specs.laws.Booleans.{both_true, absurd_bool}
use Rattle.smv_laws.proofs.OperatorLaws.{width_of}
use Rattle.moxi_terms.specs.declared.data.Sort.{Sort}
use Rattle.moxi_terms.specs.declared.data.Sort.TheVariants.{Truth, Bits}
use Rattle.moxi_terms.specs.declared.data.TermOp.{TermOp}
use Rattle.moxi_terms.specs.declared.data.TermOp.TheVariants as op
use Rattle.moxi_terms.specs.declared.data.Primes.{Primes}
use Rattle.moxi_terms.specs.declared.term.Enumeration.{Enumeration}
use Rattle.moxi_terms.specs.Sorts.{common, count_fits, logical, calculated, fitting, op_sort}
use Rattle.moxi_terms.specs.Tree.{Tree, apply, Trees, tree}
use Rattle.moxi_term_reading.specs.declared.locals.Local.{Local}
use Rattle.moxi_term_print.specs.WellScoped.{IsWellScoped, AreWellScoped}
use Rattle.smv_script.specs.Codes.{sort_of}
use Rattle.smv_script.specs.Operators.{sign_op, repeated, infix_op, joins_with, infix_term}
use Rattle.smv_script_laws.proofs.Rows.{is_plain}
use Rattle.smv_script_laws.proofs.Applied.{ctx, one_stand, two_stand, words_stand, equal_stands, not_stands, many_stand, repeated_stands, is_written, is_known}
use Rattle.moxi_term_print.proofs.SortedTerms.{copies}
use Rattle.moxi_terms.specs.Applications.{one, two, words_term, equal_term}

-- ---- types that fit, case by case

logical_cases : (P : ExprType → ExprType → Type 0) → P truth_type truth_type → ((m : ℕ) → P (word_type m) (word_type m)) → (l r : ExprType) → logical_fits l r ≡ true → P l r
logical_cases P t w truth_type truth_type h = t
logical_cases P t w truth_type (integer_type low high) h = absurd_bool h
logical_cases P t w truth_type symbol_type h = absurd_bool h
logical_cases P t w truth_type (word_type n) h = absurd_bool h
logical_cases P t w (integer_type low high) r h = absurd_bool h
logical_cases P t w symbol_type r h = absurd_bool h
logical_cases P t w (word_type m) (word_type n) h = subst (λ k. P (word_type m) (word_type k)) (eqb-true m n h) (w m)
logical_cases P t w (word_type m) truth_type h = absurd_bool h
logical_cases P t w (word_type m) (integer_type low high) h = absurd_bool h
logical_cases P t w (word_type m) symbol_type h = absurd_bool h

number_cases : (P : ExprType → ExprType → Type 0) → ((a b c d : ℤ) → P (integer_type a b) (integer_type c d)) → ((m : ℕ) → P (word_type m) (word_type m)) → (l r : ExprType) → number_fits l r ≡ true → P l r
number_cases P t w (integer_type a b) (integer_type c d) h = t a b c d
number_cases P t w (integer_type a b) truth_type h = absurd_bool h
number_cases P t w (integer_type a b) symbol_type h = absurd_bool h
number_cases P t w (integer_type a b) (word_type n) h = absurd_bool h
number_cases P t w truth_type r h = absurd_bool h
number_cases P t w symbol_type r h = absurd_bool h
number_cases P t w (word_type m) (word_type n) h = subst (λ k. P (word_type m) (word_type k)) (eqb-true m n h) (w m)
number_cases P t w (word_type m) truth_type h = absurd_bool h
number_cases P t w (word_type m) (integer_type low high) h = absurd_bool h
number_cases P t w (word_type m) symbol_type h = absurd_bool h

pub word_cases : (P : ExprType → Type 0) → ((m : ℕ) → P (word_type m)) → (t : ExprType) → is_word_type t ≡ true → P t
word_cases P w (word_type m) h = w m
word_cases P w truth_type h = absurd_bool h
word_cases P w (integer_type low high) h = absurd_bool h
word_cases P w symbol_type h = absurd_bool h

pub truth_case : (P : ExprType → Type 0) → P truth_type → (t : ExprType) → is_truth_type t ≡ true → P t
truth_case P w truth_type h = w
truth_case P w (word_type m) h = absurd_bool h
truth_case P w (integer_type low high) h = absurd_bool h
truth_case P w symbol_type h = absurd_bool h

pub integer_case : (P : ExprType → Type 0) → ((a b : ℤ) → P (integer_type a b)) → (t : ExprType) → is_integer_type t ≡ true → P t
integer_case P w (integer_type low high) h = w low high
integer_case P w truth_type h = absurd_bool h
integer_case P w (word_type m) h = absurd_bool h
integer_case P w symbol_type h = absurd_bool h

-- ---- a word's type is one of a width that a word can have

abbrev pub TypeFits : ExprType → Type 0
TypeFits (word_type n) = (1 ≤ n) × (n ≤ WIDEST)
TypeFits t = Unit {0}

hull_fits : (t u : ExprType) → TypeFits t → TypeFits (hull t u)
hull_fits (integer_type a b) (integer_type c d) h = tt
hull_fits (integer_type a b) truth_type h = tt
hull_fits (integer_type a b) symbol_type h = tt
hull_fits (integer_type a b) (word_type n) h = tt
hull_fits truth_type u h = tt
hull_fits symbol_type u h = tt
hull_fits (word_type n) u h = h

calculated_fits : (f : ℤ → ℤ → ℤ) (t u : ExprType) → number_fits t u ≡ true → TypeFits t → TypeFits (over_both_ends f t u)
calculated_fits f t u h = number_cases (λ t u. TypeFits t → TypeFits (over_both_ends f t u)) (λ a b c d k. tt) (λ m k. k) t u h

quotient_fits : (t : ExprType) (o : Option ℤ) → TypeFits t → TypeFits (quotient_type t o)
quotient_fits (integer_type a b) (Some d) h = tt
quotient_fits truth_type (Some d) h = tt
quotient_fits symbol_type (Some d) h = tt
quotient_fits (word_type n) (Some d) h = h
quotient_fits t None h = h

rest_fits : (t : ExprType) (o : Option ℤ) → TypeFits t → TypeFits (rest_type t o)
rest_fits (integer_type a b) (Some d) h = tt
rest_fits (integer_type a b) None h = tt
rest_fits truth_type o h = tt
rest_fits symbol_type o h = tt
rest_fits (word_type n) o h = h

pub infix_kept : (o : Infix) (l r : ExprType) (x : Expression) → infix_fits o l r ≡ true → joins o l r ≡ true → TypeFits l → TypeFits (infix_type o l r x)
infix_kept Equal l r x h j k = tt
infix_kept Unequal l r x h j k = tt
infix_kept Less l r x h j k = tt
infix_kept Greater l r x h j k = tt
infix_kept LessEq l r x h j k = tt
infix_kept GreaterEq l r x h j k = tt
infix_kept Member l r x h j k = tt
infix_kept Union l r x h j k = hull_fits l r k
infix_kept Plus l r x h j k = calculated_fits ◌+ℤ◌ l r h k
infix_kept Minus l r x h j k = calculated_fits ◌-ℤ◌ l r h k
infix_kept Times l r x h j k = calculated_fits ◌*ℤ◌ l r h k
infix_kept Divide l r x h j k = quotient_fits l (divisor_of x) k
infix_kept Mod l r x h j k = rest_fits l (divisor_of x) k
infix_kept Concat l r x h j k = width_of (type_width l + type_width r) j
infix_kept o l r x h j k = k

-- ---- sorts of types

module _ (w : ℕ) where
  pub hull_sort : (t u : ExprType) → sort_of w (hull t u) ≡ sort_of w t
  hull_sort (integer_type a b) (integer_type c d) = refl
  hull_sort (integer_type a b) truth_type = refl
  hull_sort (integer_type a b) symbol_type = refl
  hull_sort (integer_type a b) (word_type n) = refl
  hull_sort truth_type u = refl
  hull_sort symbol_type u = refl
  hull_sort (word_type n) u = refl

  hull_with_sort : (t : ExprType) (us : List ExprType) → sort_of w (hull_with t us) ≡ sort_of w t
  hull_with_sort t [] = refl
  hull_with_sort t (u ∷ us) = hull_with_sort (hull t u) us ∙ hull_sort t u

  pub same_sort_of : (t u : ExprType) → type_same t u ≡ true → sort_of w u ≡ sort_of w t
  same_sort_of truth_type truth_type h = refl
  same_sort_of (integer_type a b) (integer_type c d) h = refl
  same_sort_of symbol_type symbol_type h = refl
  same_sort_of (word_type m) (word_type n) h = ap Bits (sym (eqb-true m n h))
  same_sort_of truth_type (integer_type c d) h = absurd_bool h
  same_sort_of truth_type symbol_type h = absurd_bool h
  same_sort_of truth_type (word_type n) h = absurd_bool h
  same_sort_of (integer_type a b) truth_type h = absurd_bool h
  same_sort_of (integer_type a b) symbol_type h = absurd_bool h
  same_sort_of (integer_type a b) (word_type n) h = absurd_bool h
  same_sort_of symbol_type truth_type h = absurd_bool h
  same_sort_of symbol_type (integer_type c d) h = absurd_bool h
  same_sort_of symbol_type (word_type n) h = absurd_bool h
  same_sort_of (word_type m) truth_type h = absurd_bool h
  same_sort_of (word_type m) (integer_type c d) h = absurd_bool h
  same_sort_of (word_type m) symbol_type h = absurd_bool h

  pub logical_sort : (t u : ExprType) → logical_fits t u ≡ true → sort_of w u ≡ sort_of w t
  logical_sort t u h = logical_cases (λ t u. sort_of w u ≡ sort_of w t) refl (λ m. refl) t u h

  number_sort : (t u : ExprType) → number_fits t u ≡ true → sort_of w u ≡ sort_of w t
  number_sort t u h = number_cases (λ t u. sort_of w u ≡ sort_of w t) (λ a b c d. refl) (λ m. refl) t u h

  all_of_one : (s : Sort) (t : ExprType) (us : List ExprType) → sort_of w t ≡ s → list_all (type_same t) us ≡ true → AllByRecursion (λ u. sort_of w u ≡ s) us
  all_of_one s t [] e h = tt
  all_of_one s t (u ∷ us) e h = let b = both_true (type_same t u) (list_all (type_same t) us) h in (same_sort_of t u b.0 ∙ e, all_of_one s t us e b.1)

  -- each of types that are the same has the sort of their hull
  pub hull_of_sorts : (us : List ExprType) → are_same us ≡ true → AllByRecursion (λ u. sort_of w u ≡ sort_of w (hull_of us)) us
  hull_of_sorts [] h = tt
  hull_of_sorts (t ∷ us) h = let e = sym (hull_with_sort t us) in (e, all_of_one (sort_of w (hull_with t us)) t us e h)

  -- ---- signs

  minus_sort : (b : Bool) (f : ℤ → ℤ) (t : ExprType) → sort_of w (if b then over_ends f t else t) ≡ sort_of w t
  minus_sort true f (integer_type a c) = refl
  minus_sort true f truth_type = refl
  minus_sort true f symbol_type = refl
  minus_sort true f (word_type n) = refl
  minus_sort false f t = refl

  pub prefix_sort : (sign : Prefix) (n : ℕ) (t : ExprType) → sort_of w (prefix_type sign n t) ≡ sort_of w t
  prefix_sort OfPrefix.Not n t = refl
  prefix_sort OfPrefix.Minus n t = minus_sort (n % 2 == 1) neg_ℤ t

  quotient_sort : (t : ExprType) (o : Option ℤ) → sort_of w (quotient_type t o) ≡ sort_of w t
  quotient_sort (integer_type a c) (Some d) = refl
  quotient_sort truth_type (Some d) = refl
  quotient_sort symbol_type (Some d) = refl
  quotient_sort (word_type n) (Some d) = refl
  quotient_sort t None = refl

  rest_sort : (t : ExprType) (o : Option ℤ) → sort_of w (rest_type t o) ≡ sort_of w t
  rest_sort (integer_type a c) (Some d) = refl
  rest_sort (integer_type a c) None = refl
  rest_sort truth_type o = refl
  rest_sort symbol_type o = refl
  rest_sort (word_type n) o = refl

  -- ---- operands of one sign

  pub joined_sort : (o : Infix) (l r : ExprType) → joins_with o o ≡ true → infix_fits o l r ≡ true → sort_of w r ≡ sort_of w l
  joined_sort And l r j h = logical_sort l r h
  joined_sort Or l r j h = logical_sort l r h
  joined_sort Xor l r j h = logical_sort l r h
  joined_sort Plus l r j h = number_sort l r h
  joined_sort Times l r j h = number_sort l r h
  joined_sort o l r j h = absurd_bool j

  calculated_sort : (f : ℤ → ℤ → ℤ) (l r : ExprType) → number_fits l r ≡ true → sort_of w (over_both_ends f l r) ≡ sort_of w l
  calculated_sort f l r h = number_cases (λ l r. sort_of w (over_both_ends f l r) ≡ sort_of w l) (λ a b c d. refl) (λ m. refl) l r h

  pub joined_type : (o : Infix) (l r : ExprType) (x : Expression) → joins_with o o ≡ true → infix_fits o l r ≡ true → sort_of w (infix_type o l r x) ≡ sort_of w l
  joined_type And l r x j h = refl
  joined_type Or l r x j h = refl
  joined_type Xor l r x j h = refl
  joined_type Plus l r x j h = calculated_sort ◌+ℤ◌ l r h
  joined_type Times l r x j h = calculated_sort ◌*ℤ◌ l r h
  joined_type o l r x j h = absurd_bool j

  module _ (es : List Enumeration) (vars : List Local) (primes : Primes) (bounds : List Local) where
    abbrev Has : Tree → ExprType → Type 0
    Has a t = IsWellScoped (ctx es vars primes) bounds a (sort_of w t)

    pub sign_stands : (sign : Prefix) (n : ℕ) (t : ExprType) (a : Tree) → prefix_fits sign t ≡ true → Has a t → Has (repeated (sign_op sign (is_word_type t)) n a) t
    sign_stands OfPrefix.Not n truth_type a h i = repeated_stands es vars primes bounds op.Not n Truth a refl refl i
    sign_stands OfPrefix.Not n (word_type m) a h i = repeated_stands es vars primes bounds (op.BvUnary OnWord.Not) n (Bits m) a refl refl i
    sign_stands OfPrefix.Not n (integer_type b c) a h i = absurd_bool h
    sign_stands OfPrefix.Not n symbol_type a h i = absurd_bool h
    sign_stands OfPrefix.Minus n (integer_type b c) a h i = repeated_stands es vars primes bounds (op.BvUnary OnWord.Neg) n (Bits w) a refl refl i
    sign_stands OfPrefix.Minus n (word_type m) a h i = repeated_stands es vars primes bounds (op.BvUnary OnWord.Neg) n (Bits m) a refl refl i
    sign_stands OfPrefix.Minus n truth_type a h i = absurd_bool h
    sign_stands OfPrefix.Minus n symbol_type a h i = absurd_bool h

    -- what is asked of an operator between two operands
    abbrev Row : Infix → Expression → ExprType → ExprType → Type 0
    Row o x l r = (a b : Tree) → Has a l → Has b r → Has (infix_term o (is_word_type r) a b) (infix_type o l r x)

    truths : (o : TermOp) (a b : Tree) → is_known o ≡ true → op_sort o (Truth ∷ Truth ∷ []) ≡ Ok Truth → Has a truth_type → Has b truth_type → Has (apply o (two a b)) truth_type
    truths o a b h e i j = two_stand es vars primes bounds o Truth Truth Truth a b h e i j

    on_words : (o : Binary) (m : ℕ) (z : Sort) (a b : Tree) → is_written o ≡ true → calculated o (Some (Bits m)) ≡ Ok z → Has a (word_type m) → Has b (word_type m) → IsWellScoped (ctx es vars primes) bounds (words_term o a b) z
    on_words o m z a b h e i j = words_stand es vars primes bounds o m z a b h e i j

    on_integers : (o : Binary) (z : Sort) (a b : Tree) → is_written o ≡ true → calculated o (Some (Bits w)) ≡ Ok z → IsWellScoped (ctx es vars primes) bounds a (Bits w) → IsWellScoped (ctx es vars primes) bounds b (Bits w) → IsWellScoped (ctx es vars primes) bounds (words_term o a b) z
    on_integers o z a b h e i j = words_stand es vars primes bounds o w z a b h e i j

    -- the operator on words that an operator of terms is
    abbrev word_op : TermOp → Binary
    word_op (op.BvBinary b) = b
    word_op o = OnWords.And

    turned : (m : ℕ) (a : Tree) → Has a (word_type m) → Has (apply (op.BvUnary OnWord.Not) (one a)) (word_type m)
    turned m a i = one_stand es vars primes bounds (op.BvUnary OnWord.Not) (Bits m) (Bits m) a refl refl i

    pub infix_stands : (o : Infix) (l r : ExprType) (x : Expression) → is_plain o ≡ true → infix_fits o l r ≡ true → joins o l r ≡ true → Row o x l r
    infix_stands Implies l r x p h k = logical_cases (Row Implies x) (λ a b i j. truths op.Implies a b refl refl i j) (λ m a b i j. on_words OnWords.Or m (Bits m) (apply (op.BvUnary OnWord.Not) (one a)) b refl refl (turned m a i) j) l r h
    infix_stands Iff l r x p h k = logical_cases (Row Iff x) (λ a b i j. equal_stands es vars primes bounds Truth a b i j) (λ m a b i j. turned m (words_term OnWords.Xor a b) (on_words OnWords.Xor m (Bits m) a b refl refl i j)) l r h
    infix_stands Xnor l r x p h k = logical_cases (Row Xnor x) (λ a b i j. not_stands es vars primes bounds (apply op.Xor (two a b)) (truths op.Xor a b refl refl i j)) (λ m a b i j. turned m (words_term OnWords.Xor a b) (on_words OnWords.Xor m (Bits m) a b refl refl i j)) l r h
    infix_stands Equal l r x p h k = λ a b i j. equal_stands es vars primes bounds (sort_of w l) a b i (subst (IsWellScoped (ctx es vars primes) bounds b) (same_sort_of l r h) j)
    infix_stands Unequal l r x p h k = λ a b i j. not_stands es vars primes bounds (equal_term a b) (equal_stands es vars primes bounds (sort_of w l) a b i (subst (IsWellScoped (ctx es vars primes) bounds b) (same_sort_of l r h) j))
    infix_stands Less l r x p h k = number_cases (Row Less x) (λ c d e f a b i j. on_integers OnWords.Slt Truth a b refl refl i j) (λ m a b i j. on_words OnWords.Ult m Truth a b refl refl i j) l r h
    infix_stands Greater l r x p h k = number_cases (Row Greater x) (λ c d e f a b i j. on_integers OnWords.Sgt Truth a b refl refl i j) (λ m a b i j. on_words OnWords.Ugt m Truth a b refl refl i j) l r h
    infix_stands LessEq l r x p h k = number_cases (Row LessEq x) (λ c d e f a b i j. on_integers OnWords.Slte Truth a b refl refl i j) (λ m a b i j. on_words OnWords.Ulte m Truth a b refl refl i j) l r h
    infix_stands GreaterEq l r x p h k = number_cases (Row GreaterEq x) (λ c d e f a b i j. on_integers OnWords.Sgte Truth a b refl refl i j) (λ m a b i j. on_words OnWords.Ugte m Truth a b refl refl i j) l r h
    infix_stands Plus l r x p h k = number_cases (Row Plus x) (λ c d e f a b i j. on_integers OnWords.Add (Bits w) a b refl refl i j) (λ m a b i j. on_words OnWords.Add m (Bits m) a b refl refl i j) l r h
    infix_stands Minus l r x p h k = number_cases (Row Minus x) (λ c d e f a b i j. on_integers OnWords.Sub (Bits w) a b refl refl i j) (λ m a b i j. on_words OnWords.Sub m (Bits m) a b refl refl i j) l r h
    infix_stands Times l r x p h k = number_cases (Row Times x) (λ c d e f a b i j. on_integers OnWords.Mul (Bits w) a b refl refl i j) (λ m a b i j. on_words OnWords.Mul m (Bits m) a b refl refl i j) l r h
    infix_stands Divide l r x p h k = λ a b i j. subst (IsWellScoped (ctx es vars primes) bounds (infix_term Divide (is_word_type r) a b)) (sym (quotient_sort l (divisor_of x)))
        (number_cases (λ l r. (a b : Tree) → Has a l → Has b r → Has (infix_term Divide (is_word_type r) a b) l) (λ c d e f a b i j. on_integers OnWords.Sdiv (Bits w) a b refl refl i j) (λ m a b i j. on_words OnWords.Udiv m (Bits m) a b refl refl i j) l r h a b i j)
    infix_stands Mod l r x p h k = λ a b i j. subst (IsWellScoped (ctx es vars primes) bounds (infix_term Mod (is_word_type r) a b)) (sym (rest_sort l (divisor_of x)))
        (number_cases (λ l r. (a b : Tree) → Has a l → Has b r → Has (infix_term Mod (is_word_type r) a b) l) (λ c d e f a b i j. on_integers OnWords.Srem (Bits w) a b refl refl i j) (λ m a b i j. on_words OnWords.Urem m (Bits m) a b refl refl i j) l r h a b i j)
    infix_stands Concat l r x p h k =
        let f = both_true (is_word_type l) (is_word_type r) h in
        word_cases (λ l. joins Concat l r ≡ true → Row Concat x l r)
        (λ m. word_cases (λ r. joins Concat (word_type m) r ≡ true → Row Concat x (word_type m) r)
        (λ n k a b i j. two_stand es vars primes bounds op.Concat (Bits m) (Bits n) (Bits (m + n)) a b refl (ap (λ b. if b then Ok (Bits (m + n)) else Err (M 8)) (both_true (nat_le 1 (m + n)) (nat_le (m + n) WIDEST) k).1) i j) r f.1) l f.0 k
    infix_stands Member l r x p h k = absurd_bool p
    infix_stands Union l r x p h k = absurd_bool p
    infix_stands ShiftLeft l r x p h k = absurd_bool p
    infix_stands ShiftRight l r x p h k = absurd_bool p
    infix_stands o l r x p h k = logical_cases (Row o x) (λ a b i j. truths (infix_op o false) a b refl refl i j) (λ m a b i j. on_words (word_op (infix_op o true)) m (Bits m) a b refl refl i j) l r h

    -- a chain of one sign, of two or more operands
    abbrev Many : Infix → ExprType → ExprType → Type 0
    Many o l r = (t s : Tree) (ts : Trees) → AreWellScoped (ctx es vars primes) bounds (tree t (tree s ts)) (copies (sort_of w l) (tree t (tree s ts))) → Has (apply (infix_op o (is_word_type r)) (tree t (tree s ts))) l

    many : (o : TermOp) (z : Sort) (t s : Tree) (ts : Trees) → is_known o ≡ true → ((n : ℕ) → 2 ≤ n → count_fits o n ≡ true) → (common (z ∷ copies z (tree s ts)) ≡ Some z → fitting o (copies z (tree t (tree s ts))) ≡ Ok z)
        → AreWellScoped (ctx es vars primes) bounds (tree t (tree s ts)) (copies z (tree t (tree s ts))) → IsWellScoped (ctx es vars primes) bounds (apply o (tree t (tree s ts))) z
    many o z t s ts h c f i = many_stand es vars primes bounds o z z t (tree s ts) h (c (length (copies z (tree t (tree s ts)))) (omega arith)) f i

    two_most : (n : ℕ) → 2 ≤ n → nat_le 2 n ≡ true
    two_most n h = le-leb 2 n h

    one_most : (n : ℕ) → 2 ≤ n → nat_le 1 n ≡ true
    one_most n h = le-leb 1 n (omega (arith, h))

    pub joined_stands : (o : Infix) (l r : ExprType) → joins_with o o ≡ true → infix_fits o l r ≡ true → Many o l r
    joined_stands And l r j h = logical_cases (Many And) (λ t s ts i. many op.And Truth t s ts refl one_most (λ e. ap logical e) i) (λ m t s ts i. many (op.BvBinary OnWords.And) (Bits m) t s ts refl two_most (λ e. ap (calculated OnWords.And) e) i) l r h
    joined_stands Or l r j h = logical_cases (Many Or) (λ t s ts i. many op.Or Truth t s ts refl one_most (λ e. ap logical e) i) (λ m t s ts i. many (op.BvBinary OnWords.Or) (Bits m) t s ts refl two_most (λ e. ap (calculated OnWords.Or) e) i) l r h
    joined_stands Xor l r j h = logical_cases (Many Xor) (λ t s ts i. many op.Xor Truth t s ts refl two_most (λ e. ap logical e) i) (λ m t s ts i. many (op.BvBinary OnWords.Xor) (Bits m) t s ts refl two_most (λ e. ap (calculated OnWords.Xor) e) i) l r h
    joined_stands Plus l r j h = number_cases (Many Plus) (λ a b c d t s ts i. many (op.BvBinary OnWords.Add) (Bits w) t s ts refl two_most (λ e. ap (calculated OnWords.Add) e) i) (λ m t s ts i. many (op.BvBinary OnWords.Add) (Bits m) t s ts refl two_most (λ e. ap (calculated OnWords.Add) e) i) l r h
    joined_stands Times l r j h = number_cases (Many Times) (λ a b c d t s ts i. many (op.BvBinary OnWords.Mul) (Bits w) t s ts refl two_most (λ e. ap (calculated OnWords.Mul) e) i) (λ m t s ts i. many (op.BvBinary OnWords.Mul) (Bits m) t s ts refl two_most (λ e. ap (calculated OnWords.Mul) e) i) l r h
    joined_stands o l r j h = absurd_bool j
