-- Applications whose arguments have their sorts can appear where nothing is declared.
use Rattle.std.proofs.Common.{◌≡◌, ℕ, zero, suc, ◌+◌, ◌-◌, ◌^◌, ◌<◌, ◌≤◌, Bool, true, false, nat_le, nat_lt, ◌==◌, if◌then◌else◌, List, [], ◌∷◌, length, Some, Ok, Err, option_map, refl, sym, ap, subst, arith}
use Rattle.std.proofs.lemmas.Bool.{and_from, eqb-true, eqb-false, lt-ltb, le-leb}
use Rattle.std.proofs.Math.Nat.{one-le-pow}
use Rattle.text_core.specs.declared.place.Kind.TheVariants.{M}
use Rattle.word_core.specs.declared.word.TheConstants.{WIDEST}
use Rattle.word_core.specs.declared.kinds.Unary.{Unary}
use Rattle.word_core.specs.declared.kinds.Unary.TheVariants as OnWord
use Rattle.word_core.specs.declared.kinds.Binary.{Binary}
use Rattle.word_core.specs.declared.kinds.Binary.TheVariants as OnWords
use Rattle.btor_tree.proofs.Widths.{one_lt}
use Rattle.word_core.specs.Table.{BinaryFits, binary_width, unary_width}
use Rattle.moxi_terms.specs.declared.data.Sort.{Sort}
use Rattle.moxi_terms.specs.declared.data.Sort.TheVariants.{Truth, Bits}
use Rattle.moxi_terms.specs.declared.data.TermOp.{TermOp}
use Rattle.moxi_terms.specs.declared.data.TermOp.TheVariants as op
use Rattle.moxi_terms.specs.declared.data.Primes.{Primes}
use Rattle.moxi_terms.specs.declared.names.Head.TheVariants as heads
use Rattle.moxi_terms.specs.Names.{no_scope}
use Rattle.moxi_terms.specs.Words.{operators, operator_named}
use Rattle.moxi_terms.specs.Meanings.{head_named}
use Rattle.moxi_terms.specs.Sorts.{common, count_fits, logical, calculated, fitting, op_sort}
use Rattle.moxi_terms.specs.Tree.{Tree, apply, Trees, tree, trees_of}
use Rattle.moxi_term_reading.specs.declared.locals.Local.{Local}
use Rattle.moxi_term_reading.specs.Reading.{Context}
use Rattle.moxi_term_print.specs.Terms.{operator_word, binary_word}
use Rattle.moxi_term_print.specs.WellScoped.{IsWellScoped, AreWellScoped, IsKnownOperator}
use Rattle.btor_import.specs.Operators.{word_term, not_term, truth_term, falsity_term, is_one, bits_from, parity_term, unary_term, binary_term}
use Rattle.moxi_term_print.proofs.SortedTerms.{copies, counted, common_copies, words_sort, equal_sort, choice_sort}
use Rattle.moxi_terms.specs.Applications.{one, two, words_term, equal_term, choice_term}

-- ---- sorts of applications

-- ---- operators mean what their names say

-- the operators on words that a script has
abbrev pub is_written : Binary → Bool
is_written OnWords.And = true
is_written OnWords.Or = true
is_written OnWords.Xor = true
is_written OnWords.Add = true
is_written OnWords.Mul = true
is_written OnWords.Sub = true
is_written OnWords.Udiv = true
is_written OnWords.Urem = true
is_written OnWords.Sdiv = true
is_written OnWords.Srem = true
is_written OnWords.Smod = true
is_written OnWords.Sll = true
is_written OnWords.Srl = true
is_written OnWords.Sra = true
is_written OnWords.Ult = true
is_written OnWords.Ulte = true
is_written OnWords.Ugt = true
is_written OnWords.Ugte = true
is_written OnWords.Slt = true
is_written OnWords.Slte = true
is_written OnWords.Sgt = true
is_written OnWords.Sgte = true
is_written b = false

binary_named : (b : Binary) → is_written b ≡ true → operator_named (binary_word b) ≡ Some (op.BvBinary b)
unfolding operators
binary_named OnWords.And h = refl
binary_named OnWords.Or h = refl
binary_named OnWords.Xor h = refl
binary_named OnWords.Add h = refl
binary_named OnWords.Mul h = refl
binary_named OnWords.Sub h = refl
binary_named OnWords.Udiv h = refl
binary_named OnWords.Urem h = refl
binary_named OnWords.Sdiv h = refl
binary_named OnWords.Srem h = refl
binary_named OnWords.Smod h = refl
binary_named OnWords.Sll h = refl
binary_named OnWords.Srl h = refl
binary_named OnWords.Sra h = refl
binary_named OnWords.Ult h = refl
binary_named OnWords.Ulte h = refl
binary_named OnWords.Ugt h = refl
binary_named OnWords.Ugte h = refl
binary_named OnWords.Slt h = refl
binary_named OnWords.Slte h = refl
binary_named OnWords.Sgt h = refl
binary_named OnWords.Sgte h = refl
binary_named b h = absurd (cc)

-- the others, without indices
abbrev pub is_known : TermOp → Bool
is_known op.And = true
is_known op.Equal = true
is_known op.Ite = true
is_known op.Concat = true
is_known (op.BvUnary OnWord.Not) = true
is_known (op.BvUnary OnWord.Neg) = true
is_known (op.BvBinary b) = is_written b
is_known o = false

named : (o : TermOp) → is_known o ≡ true → operator_named (operator_word o) ≡ Some o
unfolding operators
named op.And h = refl
named op.Equal h = refl
named op.Ite h = refl
named op.Concat h = refl
named (op.BvUnary OnWord.Not) h = refl
named (op.BvUnary OnWord.Neg) h = refl
named (op.BvBinary b) h = binary_named b h
named o h = absurd (cc)

head_is : (o : TermOp) → is_known o ≡ true → head_named no_scope (operator_word o) ≡ Some (heads.Operator o)
head_is o h = ap (option_map heads.Operator) (named o h)

operator_stands : (o : TermOp) → is_known o ≡ true → IsKnownOperator no_scope o
operator_stands op.Not h = absurd (cc)
operator_stands op.And h = head_is op.And h
operator_stands op.Or h = absurd (cc)
operator_stands op.Xor h = absurd (cc)
operator_stands op.Implies h = absurd (cc)
operator_stands op.Equal h = head_is op.Equal h
operator_stands op.Distinct h = absurd (cc)
operator_stands op.Ite h = head_is op.Ite h
operator_stands op.Concat h = head_is op.Concat h
operator_stands (op.Extract high low) h = absurd (cc)
operator_stands (op.ZeroExtend n) h = absurd (cc)
operator_stands (op.SignExtend n) h = absurd (cc)
operator_stands (op.BvUnary u) h = head_is (op.BvUnary u) h
operator_stands (op.BvBinary b) h = head_is (op.BvBinary b) h

-- a context in which nothing is declared
abbrev pub context_of : List Local → Primes → Context
context_of vars primes = record { scope = no_scope; variables = vars; primes = primes }

module _ (vars : List Local) (primes : Primes) where
  -- a term of a sort that can stand
  abbrev pub IsTerm : Tree → Sort → Type 0
  IsTerm t s = IsWellScoped (context_of vars primes) [] t s

  one_stand : (o : TermOp) (s z : Sort) (a : Tree) → is_known o ≡ true → op_sort o (s ∷ []) ≡ Ok z → IsTerm a s → IsTerm (apply o (one a)) z
  one_stand o s z a h e i = (s ∷ [], (i, tt), e, operator_stands o h)

  two_stand : (o : TermOp) (s r z : Sort) (a b : Tree) → is_known o ≡ true → op_sort o (s ∷ r ∷ []) ≡ Ok z → IsTerm a s → IsTerm b r → IsTerm (apply o (two a b)) z
  two_stand o s r z a b h e i j = (s ∷ r ∷ [], (i, (j, tt)), e, operator_stands o h)

  words_stand : (b : Binary) (m : ℕ) (z : Sort) (x y : Tree) → is_written b ≡ true → calculated b (Some (Bits m)) ≡ Ok z → IsTerm x (Bits m) → IsTerm y (Bits m) → IsTerm (words_term b x y) z
  words_stand b m z x y h e i j = two_stand (op.BvBinary b) (Bits m) (Bits m) z x y h (words_sort b m z e) i j

  pub equal_stands : (s : Sort) (a b : Tree) → IsTerm a s → IsTerm b s → IsTerm (equal_term a b) Truth
  equal_stands s a b i j = two_stand op.Equal s s Truth a b refl (equal_sort s) i j

  pub choice_stands : (s : Sort) (q a b : Tree) → IsTerm q Truth → IsTerm a s → IsTerm b s → IsTerm (choice_term q a b) s
  choice_stands s q a b i j k = (Truth ∷ s ∷ s ∷ [], (i, (j, (k, tt))), choice_sort s, operator_stands op.Ite refl)

  pub word_stands : (m n : ℕ) → 1 ≤ m → m ≤ WIDEST → n < 2 ^ m → IsTerm (word_term m n) (Bits m)
  word_stands m n some most h = (refl, (some, most, h))

  pub not_stands : (m : ℕ) (a : Tree) → IsTerm a (Bits m) → IsTerm (not_term a) (Bits m)
  not_stands m a i = one_stand (op.BvUnary OnWord.Not) (Bits m) (Bits m) a refl refl i

  bit_one : IsTerm (word_term 1 1) (Bits 1)
  bit_one = word_stands 1 1 (omega arith) (omega arith) (omega arith)

  bit_zero : IsTerm (word_term 1 0) (Bits 1)
  bit_zero = word_stands 1 0 (omega arith) (omega arith) (omega arith)

  truth_stands : (q : Tree) → IsTerm q Truth → IsTerm (truth_term q) (Bits 1)
  truth_stands q i = choice_stands (Bits 1) q (word_term 1 1) (word_term 1 0) i bit_one bit_zero

  falsity_stands : (q : Tree) → IsTerm q Truth → IsTerm (falsity_term q) (Bits 1)
  falsity_stands q i = choice_stands (Bits 1) q (word_term 1 0) (word_term 1 1) i bit_zero bit_one

  pub one_stands : (a : Tree) → IsTerm a (Bits 1) → IsTerm (is_one a) Truth
  one_stands a i = equal_stands (Bits 1) a (word_term 1 1) i bit_one

  -- one operator on many terms of one sort
  many_stand : (o : TermOp) (s z : Sort) (t : Tree) (ts : Trees) → is_known o ≡ true → count_fits o (length (copies s (tree t ts))) ≡ true → (common (s ∷ copies s ts) ≡ Some s → fitting o (copies s (tree t ts)) ≡ Ok z)
      → AreWellScoped (context_of vars primes) [] (tree t ts) (copies s (tree t ts)) → IsTerm (apply o (tree t ts)) z
  many_stand o s z t ts h c f i = (copies s (tree t ts), i, counted o (copies s (tree t ts)) z c (f (common_copies s ts)), operator_stands o h)

  pub and_stands : (t : Tree) (ts : Trees) → AreWellScoped (context_of vars primes) [] (tree t ts) (copies Truth (tree t ts)) → IsTerm (apply op.And (tree t ts)) Truth
  and_stands t ts i = many_stand op.And Truth Truth t ts refl (le-leb 1 (length (copies Truth (tree t ts))) (omega arith)) (λ e. ap logical e) i

  -- ---- parts and extensions of words

  pub extract_stands : (high low m : ℕ) (a : Tree) → m ≤ WIDEST → high < m → low ≤ high → IsTerm a (Bits m) → IsTerm (apply (op.Extract high low) (one a)) (Bits (high - low + 1))
  extract_stands high low m a most h l i =
      (Bits m ∷ [], (i, tt), ap (λ b. if b then Ok (Bits (high - low + 1)) else Err (M 8)) (and_from (nat_le low high) (nat_lt high m) (le-leb low high l) (lt-ltb high m h)), (omega (arith, h, most), omega (arith, h, l, most)))

  pub zeros_stand : (n m : ℕ) (a : Tree) → m + n ≤ WIDEST → IsTerm a (Bits m) → IsTerm (apply (op.ZeroExtend n) (one a)) (Bits (m + n))
  zeros_stand n m a h i = (Bits m ∷ [], (i, tt), ap (λ b. if b then Ok (Bits (m + n)) else Err (M 8)) (le-leb (m + n) WIDEST h), (omega (arith, h)))

  pub signs_stand : (n m : ℕ) (a : Tree) → m + n ≤ WIDEST → IsTerm a (Bits m) → IsTerm (apply (op.SignExtend n) (one a)) (Bits (m + n))
  signs_stand n m a h i = (Bits m ∷ [], (i, tt), ap (λ b. if b then Ok (Bits (m + n)) else Err (M 8)) (le-leb (m + n) WIDEST h), (omega (arith, h)))

  concat_stands : (v w : ℕ) (a b : Tree) → v + w ≤ WIDEST → IsTerm a (Bits v) → IsTerm b (Bits w) → IsTerm (apply op.Concat (two a b)) (Bits (v + w))
  concat_stands v w a b h i j = two_stand op.Concat (Bits v) (Bits w) (Bits (v + w)) a b refl (ap (λ c. if c then Ok (Bits (v + w)) else Err (M 8)) (le-leb (v + w) WIDEST h)) i j

  -- ---- bits of a word

  bits_stand : (m : ℕ) (a : Tree) → m ≤ WIDEST → IsTerm a (Bits m) → (i n : ℕ) → i + n ≤ m → AreWellScoped (context_of vars primes) [] (trees_of (bits_from i n a)) (copies (Bits 1) (trees_of (bits_from i n a)))
  bits_stand m a most s i zero h = tt
  bits_stand m a most s i (suc n) h =
      (subst (λ k. IsTerm (apply (op.Extract i i) (one a)) (Bits k)) (let e : i - i + 1 ≡ 1 = omega arith in e) (extract_stands i i m a most (omega (arith, h)) (omega arith) s), bits_stand m a most s (i + 1) n (omega (arith, h)))

  two_more : (k : ℕ) → 1 ≤ k → (k ≡ 1 → ⊥) → 2 ≤ k
  two_more k h n = omega (arith, h, n)

  parity_many : (m : ℕ) (a : Tree) → m ≤ WIDEST → IsTerm a (Bits m) → (n : ℕ) → n ≡ m → 2 ≤ n → IsTerm (apply (op.BvBinary OnWords.Xor) (trees_of (bits_from 0 n a))) (Bits 1)
  parity_many m a most s zero e h = absurd (omega (arith, h))
  parity_many m a most s (suc zero) e h = absurd (omega (arith, h))
  parity_many m a most s (suc (suc n)) e h =
      let t = apply (op.Extract 0 0) (one a) in
      let ts = trees_of (bits_from (0 + 1) (suc n) a) in
      many_stand (op.BvBinary OnWords.Xor) (Bits 1) (Bits 1) t ts refl (le-leb 2 (length (copies (Bits 1) (tree t ts))) (omega arith)) (λ c. ap (calculated OnWords.Xor) c)
      (bits_stand m a most s 0 (suc (suc n)) (omega (arith, e)))

  pub parity_stands : (m : ℕ) (a : Tree) → 1 ≤ m → m ≤ WIDEST → IsTerm a (Bits m) → IsTerm (parity_term m a) (Bits 1)
  parity_stands m a some most i = by (m == 1) refl
    where
      by : (b : Bool) → (m == 1) ≡ b → IsTerm (if b then a else apply (op.BvBinary OnWords.Xor) (trees_of (bits_from 0 m a))) (Bits 1)
      by true e = subst (λ k. IsTerm a (Bits k)) (eqb-true m 1 e) i
      by false e = parity_many m a most i m refl (two_more m some (eqb-false m 1 e))

  -- ---- the rows of the table

  pub unary_stands : (o : Unary) (m : ℕ) (a : Tree) → 1 ≤ m → m ≤ WIDEST → IsTerm a (Bits m) → IsTerm (unary_term o m a) (Bits (unary_width o m))
  unary_stands OnWord.Not m a some most i = not_stands m a i
  unary_stands OnWord.Neg m a some most i = one_stand (op.BvUnary OnWord.Neg) (Bits m) (Bits m) a refl refl i
  unary_stands OnWord.Inc m a some most i = words_stand OnWords.Add m (Bits m) a (word_term m 1) refl refl i (word_stands m 1 some most (one_lt m some))
  unary_stands OnWord.Dec m a some most i = words_stand OnWords.Sub m (Bits m) a (word_term m 1) refl refl i (word_stands m 1 some most (one_lt m some))
  unary_stands OnWord.RedAnd m a some most i = truth_stands (equal_term a (word_term m (2 ^ m - 1))) (equal_stands (Bits m) a (word_term m (2 ^ m - 1)) i (word_stands m (2 ^ m - 1) some most (let p = one-le-pow m 2 (omega arith) in omega (arith, p))))
  unary_stands OnWord.RedOr m a some most i = falsity_stands (equal_term a (word_term m 0)) (equal_stands (Bits m) a (word_term m 0) i (word_stands m 0 some most (one-le-pow m 2 (omega arith))))
  unary_stands OnWord.RedXor m a some most i = parity_stands m a some most i

  -- operators on two words of one width
  same_stands : (o : Binary) (m : ℕ) (z : Sort) (a b : Tree) (n : ℕ) → is_written o ≡ true → calculated o (Some (Bits m)) ≡ Ok z → m ≡ n → IsTerm a (Bits m) → IsTerm b (Bits n) → IsTerm (words_term o a b) z
  same_stands o m z a b n h e s i j = words_stand o m z a b h e i (subst (λ k. IsTerm b (Bits k)) (sym s) j)

  same_equal : (m n : ℕ) (a b : Tree) → m ≡ n → IsTerm a (Bits m) → IsTerm b (Bits n) → IsTerm (equal_term a b) Truth
  same_equal m n a b s i j = equal_stands (Bits m) a b i (subst (λ k. IsTerm b (Bits k)) (sym s) j)

  one_wide : (m : ℕ) (t : Tree) → m ≡ 1 → IsTerm t (Bits m) → IsTerm t (Bits 1)
  one_wide m t e i = subst (λ k. IsTerm t (Bits k)) e i

  pub binary_stands : (o : Binary) (v w : ℕ) (a b : Tree) → BinaryFits o v w → IsTerm a (Bits v) → IsTerm b (Bits w) → IsTerm (binary_term o a b) (Bits (binary_width o v w))
  binary_stands OnWords.Iff v w a b f i j = not_stands 1 (words_term OnWords.Xor a b) (words_stand OnWords.Xor 1 (Bits 1) a b refl refl (one_wide v a f.0 i) (one_wide w b f.1 j))
  binary_stands OnWords.Implies v w a b f i j = words_stand OnWords.Or 1 (Bits 1) (not_term a) b refl refl (not_stands 1 a (one_wide v a f.0 i)) (one_wide w b f.1 j)
  binary_stands OnWords.Eq v w a b f i j = truth_stands (equal_term a b) (same_equal v w a b f i j)
  binary_stands OnWords.Neq v w a b f i j = falsity_stands (equal_term a b) (same_equal v w a b f i j)
  binary_stands OnWords.Sgt v w a b f i j = truth_stands (words_term OnWords.Sgt a b) (same_stands OnWords.Sgt v Truth a b w refl refl f i j)
  binary_stands OnWords.Sgte v w a b f i j = truth_stands (words_term OnWords.Sgte a b) (same_stands OnWords.Sgte v Truth a b w refl refl f i j)
  binary_stands OnWords.Slt v w a b f i j = truth_stands (words_term OnWords.Slt a b) (same_stands OnWords.Slt v Truth a b w refl refl f i j)
  binary_stands OnWords.Slte v w a b f i j = truth_stands (words_term OnWords.Slte a b) (same_stands OnWords.Slte v Truth a b w refl refl f i j)
  binary_stands OnWords.Ugt v w a b f i j = truth_stands (words_term OnWords.Ugt a b) (same_stands OnWords.Ugt v Truth a b w refl refl f i j)
  binary_stands OnWords.Ugte v w a b f i j = truth_stands (words_term OnWords.Ugte a b) (same_stands OnWords.Ugte v Truth a b w refl refl f i j)
  binary_stands OnWords.Ult v w a b f i j = truth_stands (words_term OnWords.Ult a b) (same_stands OnWords.Ult v Truth a b w refl refl f i j)
  binary_stands OnWords.Ulte v w a b f i j = truth_stands (words_term OnWords.Ulte a b) (same_stands OnWords.Ulte v Truth a b w refl refl f i j)
  binary_stands OnWords.And v w a b f i j = same_stands OnWords.And v (Bits v) a b w refl refl f i j
  binary_stands OnWords.Nand v w a b f i j = not_stands v (words_term OnWords.And a b) (same_stands OnWords.And v (Bits v) a b w refl refl f i j)
  binary_stands OnWords.Nor v w a b f i j = not_stands v (words_term OnWords.Or a b) (same_stands OnWords.Or v (Bits v) a b w refl refl f i j)
  binary_stands OnWords.Or v w a b f i j = same_stands OnWords.Or v (Bits v) a b w refl refl f i j
  binary_stands OnWords.Xnor v w a b f i j = not_stands v (words_term OnWords.Xor a b) (same_stands OnWords.Xor v (Bits v) a b w refl refl f i j)
  binary_stands OnWords.Xor v w a b f i j = same_stands OnWords.Xor v (Bits v) a b w refl refl f i j
  binary_stands OnWords.Sll v w a b f i j = same_stands OnWords.Sll v (Bits v) a b w refl refl f i j
  binary_stands OnWords.Srl v w a b f i j = same_stands OnWords.Srl v (Bits v) a b w refl refl f i j
  binary_stands OnWords.Sra v w a b f i j = same_stands OnWords.Sra v (Bits v) a b w refl refl f i j
  binary_stands OnWords.Add v w a b f i j = same_stands OnWords.Add v (Bits v) a b w refl refl f i j
  binary_stands OnWords.Sub v w a b f i j = same_stands OnWords.Sub v (Bits v) a b w refl refl f i j
  binary_stands OnWords.Mul v w a b f i j = same_stands OnWords.Mul v (Bits v) a b w refl refl f i j
  binary_stands OnWords.Udiv v w a b f i j = same_stands OnWords.Udiv v (Bits v) a b w refl refl f i j
  binary_stands OnWords.Sdiv v w a b f i j = same_stands OnWords.Sdiv v (Bits v) a b w refl refl f i j
  binary_stands OnWords.Urem v w a b f i j = same_stands OnWords.Urem v (Bits v) a b w refl refl f i j
  binary_stands OnWords.Srem v w a b f i j = same_stands OnWords.Srem v (Bits v) a b w refl refl f i j
  binary_stands OnWords.Smod v w a b f i j = same_stands OnWords.Smod v (Bits v) a b w refl refl f i j
  binary_stands OnWords.Concat v w a b f i j = concat_stands v w a b f i j
