-- Applications whose arguments have their sorts can appear where nothing has an operator's name.
use Rattle.std.proofs.Common.{◌≡◌, ℕ, zero, suc, ◌+◌, ◌-◌, ◌^◌, ◌<◌, ◌≤◌, Bool, true, false, nat_le, nat_lt, ◌==◌, ◌&&◌, if◌then◌else◌, ℤ, pos, negsuc, List, [], ◌∷◌, length, Some, Ok, Err, option_map, refl, ap, subst, arith}
use Rattle.std.proofs.lemmas.Bool.{eqb-true, lt-ltb, le-leb, ltb-true, ltb-false}
use Rattle.std.proofs.lemmas.Nat.{pow_pos}
use Rattle.std.proofs.Math.Nat.{mod-lt}
use Rattle.text_core.specs.declared.place.Kind.TheVariants.{M}
use Rattle.word_core.specs.declared.word.TheConstants.{WIDEST}
use Rattle.word_core.specs.declared.kinds.Unary.TheVariants as OnWord
use Rattle.word_core.specs.declared.kinds.Binary.{Binary}
use Rattle.word_core.specs.declared.kinds.Binary.TheVariants as OnWords
use Rattle.smv_meaning.specs.laws.Booleans.{both_true, two_true, absurd_bool}
use Rattle.moxi_terms.specs.declared.data.Sort.{Sort}
use Rattle.moxi_terms.specs.declared.data.Sort.TheVariants.{Truth, Bits}
use Rattle.moxi_terms.specs.declared.data.Datum.TheVariants as datum
use Rattle.moxi_terms.specs.declared.data.TermOp.{TermOp}
use Rattle.moxi_terms.specs.declared.data.TermOp.TheVariants as op
use Rattle.moxi_terms.specs.declared.data.Primes.{Primes}
use Rattle.moxi_terms.specs.declared.term.Enumeration.{Enumeration}
use Rattle.moxi_terms.specs.declared.names.Head.TheVariants as heads
use Rattle.moxi_terms.specs.Words.{operators, operator_named}
use Rattle.moxi_terms.specs.Meanings.{head_named}
use Rattle.moxi_terms.specs.Sorts.{common, count_fits, logical, calculated, fitting, op_sort}
use Rattle.moxi_terms.specs.Tree.{Tree, constant, apply, Trees, no_trees, tree}
use Rattle.moxi_term_reading.specs.declared.locals.Local.{Local}
use Rattle.moxi_term_reading.specs.Reading.{Context}
use Rattle.moxi_term_print.specs.Terms.{operator_word, binary_word}
use Rattle.moxi_term_print.specs.WellScoped.{IsWellScoped, AreWellScoped, IsKnownOperator}
use Rattle.smv_script.specs.Codes.{integer_bits}
use Rattle.smv_script.specs.Operators.{word_term, integer_term, any_term, not_term, extended_term, selected_term, resized_term, repeated, between_term}
use Rattle.moxi_term_print.proofs.SortedTerms.{copies, counted, common_copies, words_sort, equal_sort, choice_sort}
use Rattle.moxi_terms.specs.Applications.{one, two, words_term, equal_term, choice_term}

-- ---- sorts of applications

-- ---- operators mean what their names say

-- the operators on words that the translation writes
abbrev pub is_written : Binary → Bool
is_written OnWords.And = true
is_written OnWords.Or = true
is_written OnWords.Xor = true
is_written OnWords.Add = true
is_written OnWords.Mul = true
is_written OnWords.Sub = true
is_written OnWords.Udiv = true
is_written OnWords.Urem = true
is_written OnWords.Sdiv = true
is_written OnWords.Srem = true
is_written OnWords.Sll = true
is_written OnWords.Srl = true
is_written OnWords.Ult = true
is_written OnWords.Ulte = true
is_written OnWords.Ugt = true
is_written OnWords.Ugte = true
is_written OnWords.Slt = true
is_written OnWords.Slte = true
is_written OnWords.Sgt = true
is_written OnWords.Sgte = true
is_written b = false

pub binary_named : (b : Binary) → is_written b ≡ true → operator_named (binary_word b) ≡ Some (op.BvBinary b)
unfolding operators
binary_named OnWords.And h = refl
binary_named OnWords.Or h = refl
binary_named OnWords.Xor h = refl
binary_named OnWords.Add h = refl
binary_named OnWords.Mul h = refl
binary_named OnWords.Sub h = refl
binary_named OnWords.Udiv h = refl
binary_named OnWords.Urem h = refl
binary_named OnWords.Sdiv h = refl
binary_named OnWords.Srem h = refl
binary_named OnWords.Sll h = refl
binary_named OnWords.Srl h = refl
binary_named OnWords.Ult h = refl
binary_named OnWords.Ulte h = refl
binary_named OnWords.Ugt h = refl
binary_named OnWords.Ugte h = refl
binary_named OnWords.Slt h = refl
binary_named OnWords.Slte h = refl
binary_named OnWords.Sgt h = refl
binary_named OnWords.Sgte h = refl
binary_named b h = absurd_bool h

-- the others, without indices
abbrev pub is_known : TermOp → Bool
is_known op.Not = true
is_known op.And = true
is_known op.Or = true
is_known op.Xor = true
is_known op.Implies = true
is_known op.Equal = true
is_known op.Ite = true
is_known op.Concat = true
is_known (op.BvUnary OnWord.Not) = true
is_known (op.BvUnary OnWord.Neg) = true
is_known (op.BvBinary b) = is_written b
is_known o = false

named : (o : TermOp) → is_known o ≡ true → operator_named (operator_word o) ≡ Some o
unfolding operators
named op.Not h = refl
named op.And h = refl
named op.Or h = refl
named op.Xor h = refl
named op.Implies h = refl
named op.Equal h = refl
named op.Ite h = refl
named op.Concat h = refl
named (op.BvUnary OnWord.Not) h = refl
named (op.BvUnary OnWord.Neg) h = refl
named (op.BvBinary b) h = binary_named b h
named o h = absurd_bool h

-- a context in which nothing is declared but enumerations
abbrev pub context_of : List Enumeration → List Local → Primes → Context
context_of es vars primes = record { scope = record { enumerations = es; sorts = []; functions = [] }; variables = vars; primes = primes }

head_is : (es : List Enumeration) (o : TermOp) → is_known o ≡ true → head_named (record { enumerations = es; sorts = []; functions = [] }) (operator_word o) ≡ Some (heads.Operator o)
head_is es o h = ap (option_map heads.Operator) (named o h)

module _ (es : List Enumeration) (vars : List Local) (primes : Primes) where
  abbrev pub ctx : Context
  ctx = context_of es vars primes

  operator_stands : (o : TermOp) → is_known o ≡ true → IsKnownOperator ctx.scope o
  operator_stands op.Not h = head_is es op.Not h
  operator_stands op.And h = head_is es op.And h
  operator_stands op.Or h = head_is es op.Or h
  operator_stands op.Xor h = head_is es op.Xor h
  operator_stands op.Implies h = head_is es op.Implies h
  operator_stands op.Equal h = head_is es op.Equal h
  operator_stands op.Distinct h = absurd_bool h
  operator_stands op.Ite h = head_is es op.Ite h
  operator_stands op.Concat h = head_is es op.Concat h
  operator_stands (op.Extract high low) h = absurd_bool h
  operator_stands (op.ZeroExtend n) h = absurd_bool h
  operator_stands (op.SignExtend n) h = absurd_bool h
  operator_stands (op.BvUnary u) h = head_is es (op.BvUnary u) h
  operator_stands (op.BvBinary b) h = head_is es (op.BvBinary b) h

  -- ---- applications

  module _ (bounds : List Local) where
    pub one_stand : (o : TermOp) (s z : Sort) (a : Tree) → is_known o ≡ true → op_sort o (s ∷ []) ≡ Ok z → IsWellScoped ctx bounds a s → IsWellScoped ctx bounds (apply o (one a)) z
    one_stand o s z a h e i = (s ∷ [], (i, tt), e, operator_stands o h)

    pub two_stand : (o : TermOp) (s r z : Sort) (a b : Tree) → is_known o ≡ true → op_sort o (s ∷ r ∷ []) ≡ Ok z → IsWellScoped ctx bounds a s → IsWellScoped ctx bounds b r → IsWellScoped ctx bounds (apply o (two a b)) z
    two_stand o s r z a b h e i j = (s ∷ r ∷ [], (i, (j, tt)), e, operator_stands o h)

    pub words_stand : (b : Binary) (m : ℕ) (z : Sort) (x y : Tree) → is_written b ≡ true → calculated b (Some (Bits m)) ≡ Ok z → IsWellScoped ctx bounds x (Bits m) → IsWellScoped ctx bounds y (Bits m) → IsWellScoped ctx bounds (words_term b x y) z
    words_stand b m z x y h e i j = two_stand (op.BvBinary b) (Bits m) (Bits m) z x y h (words_sort b m z e) i j

    pub equal_stands : (s : Sort) (a b : Tree) → IsWellScoped ctx bounds a s → IsWellScoped ctx bounds b s → IsWellScoped ctx bounds (equal_term a b) Truth
    equal_stands s a b i j = two_stand op.Equal s s Truth a b refl (equal_sort s) i j

    pub not_stands : (a : Tree) → IsWellScoped ctx bounds a Truth → IsWellScoped ctx bounds (not_term a) Truth
    not_stands a i = one_stand op.Not Truth Truth a refl refl i

    pub choice_stands : (s : Sort) (q a b : Tree) → IsWellScoped ctx bounds q Truth → IsWellScoped ctx bounds a s → IsWellScoped ctx bounds b s → IsWellScoped ctx bounds (choice_term q a b) s
    choice_stands s q a b i j k = (Truth ∷ s ∷ s ∷ [], (i, (j, (k, tt))), choice_sort s, operator_stands op.Ite refl)

    -- one operator on many terms of one sort
    pub many_stand : (o : TermOp) (s z : Sort) (t : Tree) (ts : Trees) → is_known o ≡ true → count_fits o (length (copies s (tree t ts))) ≡ true → (common (s ∷ copies s ts) ≡ Some s → fitting o (copies s (tree t ts)) ≡ Ok z)
        → AreWellScoped ctx bounds (tree t ts) (copies s (tree t ts)) → IsWellScoped ctx bounds (apply o (tree t ts)) z
    many_stand o s z t ts h c f i = (copies s (tree t ts), i, counted o (copies s (tree t ts)) z c (f (common_copies s ts)), operator_stands o h)

    -- a list of truth values with `or`, or with `and`
    pub or_stands : (t : Tree) (ts : Trees) → AreWellScoped ctx bounds (tree t ts) (copies Truth (tree t ts)) → IsWellScoped ctx bounds (apply op.Or (tree t ts)) Truth
    or_stands t ts i = many_stand op.Or Truth Truth t ts refl (le-leb 1 (length (copies Truth (tree t ts))) (omega arith)) (λ e. ap logical e) i

    pub and_stands : (t : Tree) (ts : Trees) → AreWellScoped ctx bounds (tree t ts) (copies Truth (tree t ts)) → IsWellScoped ctx bounds (apply op.And (tree t ts)) Truth
    and_stands t ts i = many_stand op.And Truth Truth t ts refl (le-leb 1 (length (copies Truth (tree t ts))) (omega arith)) (λ e. ap logical e) i

    -- ---- words

    pub word_stands : (m n : ℕ) → 1 ≤ m → m ≤ WIDEST → n < 2 ^ m → IsWellScoped ctx bounds (word_term m n) (Bits m)
    word_stands m n some most h = (refl, (some, most, h))

    bits_below : (w : ℕ) (z : ℤ) → integer_bits w z < 2 ^ w
    bits_below w (pos n) = mod-lt n (pow_pos w)
    bits_below w (negsuc n) = let p = pow_pos w in omega (arith, p)

    pub integer_stands : (w : ℕ) (z : ℤ) → 1 ≤ w → w ≤ WIDEST → IsWellScoped ctx bounds (integer_term w z) (Bits w)
    integer_stands w z some most = (refl, (some, most, bits_below w z))

    by_cases : {X : Type 0} (b : Bool) → (b ≡ true → X) → (b ≡ false → X) → X
    by_cases true f h = f refl
    by_cases false f h = h refl

    -- zeros in front
    pub extended_stands : (n m : ℕ) (a : Tree) → m + n ≤ WIDEST → IsWellScoped ctx bounds a (Bits m) → IsWellScoped ctx bounds (extended_term n a) (Bits (m + n))
    extended_stands n m a h i = by (n == 0) refl
      where
        by : (b : Bool) → (n == 0) ≡ b → IsWellScoped ctx bounds (if b then a else apply (op.ZeroExtend n) (one a)) (Bits (m + n))
        by true e = let z = eqb-true n 0 e in subst (λ k. IsWellScoped ctx bounds a (Bits k)) (let s : m ≡ m + n = omega (arith, z) in s) i
        by false e = (Bits m ∷ [], (i, tt), ap (λ b. if b then Ok (Bits (m + n)) else Err (M 8)) (le-leb (m + n) WIDEST h), (omega (arith, h)))

    -- bits of a word
    pub extract_stands : (high low m : ℕ) (a : Tree) → m ≤ WIDEST → high < m → low ≤ high → IsWellScoped ctx bounds a (Bits m) → IsWellScoped ctx bounds (apply (op.Extract high low) (one a)) (Bits (high - low + 1))
    extract_stands high low m a most h l i =
        (Bits m ∷ [], (i, tt), ap (λ b. if b then Ok (Bits (high - low + 1)) else Err (M 8)) (two_true (nat_le low high) (nat_lt high m) (le-leb low high l) (lt-ltb high m h)), (omega (arith, h, most), omega (arith, h, l, most)))

    pub selected_stands : (high low m : ℕ) (a : Tree) → m ≤ WIDEST → high < m → low ≤ high → IsWellScoped ctx bounds a (Bits m) → IsWellScoped ctx bounds (selected_term m high low a) (Bits (high - low + 1))
    selected_stands high low m a most h l i = by (low == 0 && high + 1 == m) refl
      where
        by : (b : Bool) → (low == 0 && high + 1 == m) ≡ b → IsWellScoped ctx bounds (if b then a else apply (op.Extract high low) (one a)) (Bits (high - low + 1))
        by true e =
            let t = both_true (low == 0) (high + 1 == m) e in
            let p = eqb-true low 0 t.0 in
            let q = eqb-true (high + 1) m t.1 in
            subst (λ k. IsWellScoped ctx bounds a (Bits k)) (let s : m ≡ high - low + 1 = omega (arith, p, q) in s) i
        by false e = extract_stands high low m a most h l i

    pub resized_stands : (m n : ℕ) (a : Tree) → m ≤ WIDEST → 1 ≤ n → n ≤ WIDEST → IsWellScoped ctx bounds a (Bits m) → IsWellScoped ctx bounds (resized_term m n a) (Bits n)
    resized_stands m n a most some few i = by (nat_lt n m) refl
      where
        by : (b : Bool) → nat_lt n m ≡ b → IsWellScoped ctx bounds (if b then apply (op.Extract (n - 1) 0) (one a) else extended_term (n - m) a) (Bits n)
        by true e =
            let l = ltb-true n m e in
            subst (λ k. IsWellScoped ctx bounds (apply (op.Extract (n - 1) 0) (one a)) (Bits k)) (let s : n - 1 - 0 + 1 ≡ n = omega (arith, some) in s)
            (extract_stands (n - 1) 0 m a most (omega (arith, l, some)) (omega arith) i)
        by false e =
            let l = ltb-false n m e in
            let s : m + (n - m) ≡ n = omega (arith, l) in
            subst (λ k. IsWellScoped ctx bounds (extended_term (n - m) a) (Bits k)) s (extended_stands (n - m) m a (omega (arith, s, few)) i)

    -- ---- signs

    pub repeated_stands : (o : TermOp) (n : ℕ) (s : Sort) (a : Tree) → is_known o ≡ true → op_sort o (s ∷ []) ≡ Ok s → IsWellScoped ctx bounds a s → IsWellScoped ctx bounds (repeated o n a) s
    repeated_stands o zero s a h e i = i
    repeated_stands o (suc n) s a h e i = one_stand o s s (repeated o n a) h e (repeated_stands o n s a h e i)

    -- ---- sets

    pub any_stands : (d : IsWellScoped ctx bounds (constant (datum.Truth false)) Truth) (ts : Trees) → AreWellScoped ctx bounds ts (copies Truth ts) → IsWellScoped ctx bounds (any_term ts) Truth
    any_stands d no_trees i = d
    any_stands d (tree a no_trees) i = i.0
    any_stands d (tree a (tree b more)) i = or_stands a (tree b more) i

    pub between_stands : (w : ℕ) (low high : ℤ) (x : Tree) → 1 ≤ w → w ≤ WIDEST → IsWellScoped ctx bounds x (Bits w) → IsWellScoped ctx bounds (between_term w low high x) Truth
    between_stands w low high x some most i =
        two_stand op.And Truth Truth Truth (words_term OnWords.Slte (integer_term w low) x) (words_term OnWords.Slte x (integer_term w high)) refl refl
        (words_stand OnWords.Slte w Truth (integer_term w low) x refl refl (integer_stands w low some most) i)
        (words_stand OnWords.Slte w Truth x (integer_term w high) refl refl i (integer_stands w high some most))
