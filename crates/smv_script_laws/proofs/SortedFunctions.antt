-- Applications of functions whose arguments' types fit have the sort of their type.
use Rattle.std.proofs.Common.{◌≡◌, ℕ, ◌+◌, ◌-◌, ◌^◌, ◌≤◌, Bool, true, false, ◌==◌, nat_lt, ℤ, pos, List, [], ◌∷◌, ◌++◌, map, length, refl, sym, ap, subst, arith}
use Rattle.std.proofs.lemmas.Bool.{eqb-true, le-leb, ltb-true, ltb-false}
use Rattle.std.proofs.lemmas.Int.{ints}
use Rattle.std.proofs.lemmas.Nat.{pow_pos}
use Rattle.std.proofs.lemmas.Nat.{pow_below}
use Rattle.std.specs.List.{list_all}
use Rattle.word_core.specs.declared.word.TheConstants.{WIDEST}
use Rattle.word_core.specs.declared.kinds.Unary.TheVariants as OnWord
use Rattle.word_core.specs.declared.kinds.Binary.TheVariants as OnWords
use Rattle.smv_text.specs.declared.operators.Function.{Function}
use Rattle.smv_text.specs.declared.operators.Function.TheVariants as OfFunction
use Rattle.smv_meaning.specs.Types.{ExprType, integer_type, is_truth_type, is_integer_type, is_word_type, type_width, over_both_ends, function_fits, first_type}
use Rattle.smv_meaning.specs.laws.Booleans.{both_true, absurd_bool}
use Rattle.smv_flat.specs.FlatWidth.{Holds}
use Rattle.moxi_terms.specs.declared.data.Sort.{Sort}
use Rattle.moxi_terms.specs.declared.data.Sort.TheVariants.{Truth, Bits}
use Rattle.moxi_terms.specs.declared.data.TermOp.TheVariants as op
use Rattle.moxi_terms.specs.declared.data.Primes.{Primes}
use Rattle.moxi_terms.specs.declared.term.Enumeration.{Enumeration}
use Rattle.moxi_terms.specs.Sorts.{calculated}
use Rattle.moxi_terms.specs.Tree.{Tree, bound, apply, Trees, no_trees, tree}
use Rattle.moxi_term_reading.specs.declared.locals.Local.{Local}
use Rattle.moxi_term_print.specs.WellScoped.{IsWellScoped, AreWellScoped}
use Rattle.smv_script.specs.Codes.{sort_of}
use Rattle.smv_script.specs.Operators.{word_term, integer_term, counted_term, counted_terms, sum_term, extended_term, is_below, Arguments, function_term}
use Rattle.smv_script_laws.proofs.Applied.{ctx, one_stand, words_stand, equal_stands, choice_stands, many_stand, word_stands, integer_stands, extended_stands}
use Rattle.smv_script_laws.proofs.Bounds.{one_bound, two_bound, one_stands, first_stands, second_stands}
use Rattle.smv_script_laws.proofs.SortedRows.{word_cases, truth_case, integer_case}
use Rattle.moxi_term_print.proofs.SortedTerms.{copies}
use Rattle.moxi_terms.specs.Applications.{one, words_term}

-- a word whose greatest number the integers' width holds is no wider
pub held_width : (width m : ℕ) → 1 ≤ width → Holds width (pos (2 ^ m - 1)) → m ≤ width
held_width width m some held = by (nat_lt width m) refl
  where
    by : (b : Bool) → nat_lt width m ≡ b → m ≤ width
    by true e =
        let l = ltb-true width m e in
        let p = pow_below (width - 1) m (omega (arith, l)) in
        let q = held.1 in
        let r = pow_pos m in
        absurd (omega (arith, ints))
    by false e = ltb-false width m e

module _ (w : ℕ) (some : 1 ≤ w) (most : w ≤ WIDEST) (es : List Enumeration) (vars : List Local) (primes : Primes) (bounds : List Local) where
  abbrev Has : Tree → ExprType → Type 0
  Has a t = IsWellScoped (ctx es vars primes) bounds a (sort_of w t)

  abbrev HaveTypes : Trees → List ExprType → Type 0
  HaveTypes ts us = AreWellScoped (ctx es vars primes) bounds ts (map (sort_of w) us)

  -- one argument, and two
  one_part : (P : Trees → Type 0) (t : ExprType) → ((a : Tree) → Has a t → P (tree a no_trees)) → (ts : Trees) → HaveTypes ts (t ∷ []) → P ts
  one_part P t f no_trees h = absurd h
  one_part P t f (tree a no_trees) h = f a h.0
  one_part P t f (tree a (tree b more)) h = absurd h.1

  two_parts : (P : Trees → Type 0) (t u : ExprType) → ((a b : Tree) → Has a t → Has b u → P (tree a (tree b no_trees))) → (ts : Trees) → HaveTypes ts (t ∷ u ∷ []) → P ts
  two_parts P t u f no_trees h = absurd h
  two_parts P t u f (tree a no_trees) h = absurd h.1
  two_parts P t u f (tree a (tree b no_trees)) h = f a b h.0 h.1.0
  two_parts P t u f (tree a (tree b (tree c more))) h = absurd h.1.1

  abbrev Calls : Function → Arguments → Trees → Sort → Type 0
  Calls f args ts s = IsWellScoped (ctx es vars primes) bounds (function_term w (length bounds) f args ts) s

  pub bool_stands : (args : Arguments) (us : List ExprType) (ts : Trees) → function_fits OfFunction.Bool us ≡ true → HaveTypes ts us → Calls OfFunction.Bool args ts Truth
  bool_stands args [] ts h i = absurd_bool h
  bool_stands args (t ∷ u ∷ us) ts h i = absurd_bool h
  bool_stands args (t ∷ []) ts h i =
      let b = both_true (is_word_type t) (type_width t == 1) h in
      one_part (λ ts. Calls OfFunction.Bool args ts Truth) t
      (λ a j. equal_stands es vars primes bounds (Bits 1) a (word_term 1 1)
      (word_cases (λ t. (type_width t == 1) ≡ true → Has a t → IsWellScoped (ctx es vars primes) bounds a (Bits 1)) (λ m e k. subst (λ n. IsWellScoped (ctx es vars primes) bounds a (Bits n)) (eqb-true m 1 e) k) t b.0 b.1 j)
      (word_stands es vars primes bounds 1 1 (omega arith) (omega arith) (omega arith))) ts i

  pub word1_stands : (args : Arguments) (us : List ExprType) (ts : Trees) → function_fits OfFunction.Word1 us ≡ true → HaveTypes ts us → Calls OfFunction.Word1 args ts (Bits 1)
  word1_stands args [] ts h i = absurd_bool h
  word1_stands args (t ∷ u ∷ us) ts h i = absurd_bool h
  word1_stands args (t ∷ []) ts h i =
      one_part (λ ts. Calls OfFunction.Word1 args ts (Bits 1)) t
      (λ a j. choice_stands es vars primes bounds (Bits 1) a (word_term 1 1) (word_term 1 0) (truth_case (λ t. Has a t → IsWellScoped (ctx es vars primes) bounds a Truth) (λ k. k) t h j)
      (word_stands es vars primes bounds 1 1 (omega arith) (omega arith) (omega arith)) (word_stands es vars primes bounds 1 0 (omega arith) (omega arith) (omega arith))) ts i

  pub toint_stands : (args : Arguments) (us : List ExprType) (ts : Trees) → args.width ≡ type_width (first_type us) → Holds w (pos (2 ^ type_width (first_type us) - 1)) → function_fits OfFunction.Toint us ≡ true → HaveTypes ts us → Calls OfFunction.Toint args ts (Bits w)
  toint_stands args [] ts e held h i = absurd_bool h
  toint_stands args (t ∷ u ∷ us) ts e held h i = absurd_bool h
  toint_stands args (t ∷ []) ts e held h i = one_part (λ ts. Calls OfFunction.Toint args ts (Bits w)) t
      (λ a j. word_cases (λ t. args.width ≡ type_width t → Holds w (pos (2 ^ type_width t - 1)) → Has a t → IsWellScoped (ctx es vars primes) bounds (extended_term (w - args.width) a) (Bits w))
      (λ m e held k.
      let l = held_width w m some held in
      let s : m + (w - m) ≡ w = omega (arith, l) in
      subst (λ n. IsWellScoped (ctx es vars primes) bounds (extended_term (w - n) a) (Bits w)) (sym e)
      (subst (λ n. IsWellScoped (ctx es vars primes) bounds (extended_term (w - m) a) (Bits n)) s (extended_stands es vars primes bounds (w - m) m a (omega (arith, s, most)) k))) t h e held j) ts i

  counted_all : (us : List ExprType) (ts : Trees) → list_all is_truth_type us ≡ true → HaveTypes ts us → AreWellScoped (ctx es vars primes) bounds (counted_terms w ts) (copies (Bits w) (counted_terms w ts))
  counted_all [] no_trees h i = tt
  counted_all (u ∷ us) no_trees h i = absurd i
  counted_all [] (tree a ts) h i = absurd i
  counted_all (u ∷ us) (tree a ts) h i =
      let b = both_true (is_truth_type u) (list_all is_truth_type us) h in (
        choice_stands es vars primes bounds (Bits w) a (integer_term w (pos 1)) (integer_term w (pos 0)) (truth_case (λ t. Has a t → IsWellScoped (ctx es vars primes) bounds a Truth) (λ k. k) u b.0 i.0)
            (integer_stands es vars primes bounds w (pos 1) some most) (integer_stands es vars primes bounds w (pos 0) some most),
        counted_all us ts b.1 i.1,
      )

  sum_stands : (a : Tree) (ts : Trees) → AreWellScoped (ctx es vars primes) bounds (tree a ts) (copies (Bits w) (tree a ts)) → IsWellScoped (ctx es vars primes) bounds (sum_term (tree a ts)) (Bits w)
  sum_stands a no_trees i = i.0
  sum_stands a (tree b more) i =
      many_stand es vars primes bounds (op.BvBinary OnWords.Add) (Bits w) (Bits w) a (tree b more) refl (le-leb 2 (length (copies (Bits w) (tree a (tree b more)))) (omega arith)) (λ e. ap (calculated OnWords.Add) e) i

  pub count_stands : (args : Arguments) (us : List ExprType) (ts : Trees) → function_fits OfFunction.Count us ≡ true → HaveTypes ts us → Calls OfFunction.Count args ts (Bits w)
  count_stands args [] ts h i = absurd_bool h
  count_stands args (t ∷ us) no_trees h i = absurd i
  count_stands args (t ∷ us) (tree a ts) h i = sum_stands (counted_term w a) (counted_terms w ts) (counted_all (t ∷ us) (tree a ts) h i)

  integer_has : (a : Tree) (t : ExprType) → is_integer_type t ≡ true → Has a t → IsWellScoped (ctx es vars primes) bounds a (Bits w)
  integer_has a t h i = integer_case (λ t. Has a t → IsWellScoped (ctx es vars primes) bounds a (Bits w)) (λ c d k. k) t h i

  below : IsWellScoped (ctx es vars primes) (bounds ++ two_bound (Bits w) (Bits w)) (is_below (length bounds)) Truth
  below = words_stand es vars primes (bounds ++ two_bound (Bits w) (Bits w)) OnWords.Slt w Truth (bound (length bounds)) (bound (length bounds + 1)) refl refl
      (first_stands (ctx es vars primes) bounds (Bits w) (Bits w)) (second_stands (ctx es vars primes) bounds (Bits w) (Bits w))

  pub max_stands : (args : Arguments) (us : List ExprType) (ts : Trees) → function_fits OfFunction.Max us ≡ true → HaveTypes ts us → Calls OfFunction.Max args ts (Bits w)
  max_stands args [] ts h i = absurd_bool h
  max_stands args (t ∷ []) ts h i = absurd_bool h
  max_stands args (t ∷ u ∷ s ∷ us) ts h i = absurd_bool h
  max_stands args (t ∷ u ∷ []) ts h i =
      let b = both_true (is_integer_type t) (is_integer_type u) h in
      two_parts (λ ts. Calls OfFunction.Max args ts (Bits w)) t u
      (λ x y j k. (
        Bits w ∷ Bits w ∷ [],
        omega arith,
        refl,
        (integer_has x t b.0 j, (integer_has y u b.1 k, tt)),
        choice_stands es vars primes (bounds ++ two_bound (Bits w) (Bits w)) (Bits w) (is_below (length bounds)) (bound (length bounds + 1)) (bound (length bounds)) below
            (second_stands (ctx es vars primes) bounds (Bits w) (Bits w)) (first_stands (ctx es vars primes) bounds (Bits w) (Bits w)),
      )) ts i

  pub min_stands : (args : Arguments) (us : List ExprType) (ts : Trees) → function_fits OfFunction.Min us ≡ true → HaveTypes ts us → Calls OfFunction.Min args ts (Bits w)
  min_stands args [] ts h i = absurd_bool h
  min_stands args (t ∷ []) ts h i = absurd_bool h
  min_stands args (t ∷ u ∷ s ∷ us) ts h i = absurd_bool h
  min_stands args (t ∷ u ∷ []) ts h i =
      let b = both_true (is_integer_type t) (is_integer_type u) h in
      two_parts (λ ts. Calls OfFunction.Min args ts (Bits w)) t u
      (λ x y j k. (
        Bits w ∷ Bits w ∷ [],
        omega arith,
        refl,
        (integer_has x t b.0 j, (integer_has y u b.1 k, tt)),
        choice_stands es vars primes (bounds ++ two_bound (Bits w) (Bits w)) (Bits w) (is_below (length bounds)) (bound (length bounds)) (bound (length bounds + 1)) below
            (first_stands (ctx es vars primes) bounds (Bits w) (Bits w)) (second_stands (ctx es vars primes) bounds (Bits w) (Bits w)),
      )) ts i

  pub abs_stands : (args : Arguments) (us : List ExprType) (ts : Trees) → function_fits OfFunction.Abs us ≡ true → HaveTypes ts us → Calls OfFunction.Abs args ts (Bits w)
  abs_stands args [] ts h i = absurd_bool h
  abs_stands args (t ∷ u ∷ us) ts h i = absurd_bool h
  abs_stands args (t ∷ []) ts h i =
      let here = bounds ++ one_bound (Bits w) in
      let x = one_stands (ctx es vars primes) bounds (Bits w) in
      one_part (λ ts. Calls OfFunction.Abs args ts (Bits w)) t
      (λ a j. (
        Bits w ∷ [],
        omega arith,
        refl,
        (integer_has a t h j, tt),
        choice_stands es vars primes here (Bits w) (words_term OnWords.Slt (bound (length bounds)) (integer_term w (pos 0))) (apply (op.BvUnary OnWord.Neg) (one (bound (length bounds)))) (bound (length bounds))
            (words_stand es vars primes here OnWords.Slt w Truth (bound (length bounds)) (integer_term w (pos 0)) refl refl x (integer_stands es vars primes here w (pos 0) some most))
            (one_stand es vars primes here (op.BvUnary OnWord.Neg) (Bits w) (Bits w) (bound (length bounds)) refl refl x) x,
      )) ts i

  -- the types of results
  pub ends_sort : (f : ℤ → ℤ → ℤ) (t u : ExprType) → is_integer_type t ≡ true → is_integer_type u ≡ true → sort_of w (over_both_ends f t u) ≡ Bits w
  ends_sort f t u h k = integer_case (λ t. sort_of w (over_both_ends f t u) ≡ Bits w) (λ a b. integer_case (λ u. sort_of w (over_both_ends f (integer_type a b) u) ≡ Bits w) (λ c d. refl) u k) t h
