-- By how many lines operators make lines grow.
use Rattle.std.proofs.Common.{◌≡◌, ℕ, zero, suc, ◌+◌, ◌-◌, ◌*◌, ◌/◌, ◌≤◌, true, false, List, [], ◌∷◌, length, map, refl, sym, ap, ◌∙◌, subst, arith, None}
use Rattle.std.proofs.lemmas.Bool.{leb-true}
use Rattle.std.proofs.Math.Nat.{mul_comm, suc-mul}
use Rattle.std.proofs.lemmas.List.{length-append, length-map}
use Rattle.word_core.specs.Table.{binary_width, unary_width}
use Rattle.word_core.specs.declared.kinds.Unary.TheVariants as one
use Rattle.word_core.specs.declared.kinds.Binary.{Binary}
use Rattle.word_core.specs.declared.kinds.Binary.TheVariants as two
use Rattle.btor_tree.specs.declared.args.Arg.{Arg}
use Rattle.btor_tree.specs.declared.lines.Line.{Line}
use Rattle.btor_tree.specs.declared.lines.LineOp.{LineOp}
use Rattle.btor_tree.specs.declared.lines.LineOp.TheVariants as line
use Rattle.btor_tree.specs.Fits.{plain_arg, width_at}
use Rattle.moxi_terms.specs.declared.data.TermOp.{TermOp}
use Rattle.moxi_terms.specs.declared.data.TermOp.TheVariants as op
use Rattle.moxi_terms.specs.Sorts.{count_fits}
use Rattle.moxi_flat.specs.Terms.{operator_size}
use Rattle.moxi_lines.specs.TermLines.{Built, chain_lines, compared_lines, folded_lines, implied_lines, neighbours, paired_lines, pairs_of, with_binary, with_implication, with_operator, with_word}
use Rattle.moxi_layout.proofs.Growth.{Grows, grows_more, grows_none, grows_then, is_sort, sorted_grows}

pub word_counts : (lines : List Line) (o : LineOp) (w : ℕ) (args : List Arg) → is_sort o ≡ false → Grows 1 lines (with_word lines o w args).0
word_counts lines o w args h = sorted_grows lines o w args None h

pub binary_counts : (b : Binary) (lines : List Line) (p q : ℕ) → Grows 1 lines (with_binary b lines p q).0
binary_counts b lines p q = word_counts lines (line.Binary b) (binary_width b (width_at lines p) (width_at lines q)) (plain_arg p ∷ plain_arg q ∷ []) refl

pub folded_counts : (b : Binary) (m : Built) (qs : List ℕ) → Grows (length qs) m.0 (folded_lines b m qs).0
folded_counts b m [] = grows_none m.0
folded_counts b m (q ∷ qs) =
    let n = with_binary b m.0 m.1 q in
    grows_more (1 + length qs) (suc (length qs)) m.0 (folded_lines b n qs).0 (omega arith)
    (grows_then 1 (length qs) m.0 n.0 (folded_lines b n qs).0 (binary_counts b m.0 m.1 q) (folded_counts b n qs))

pub chain_counts : (b : Binary) (lines : List Line) (ps : List ℕ) → Grows (length ps - 1) lines (chain_lines b lines ps).0
chain_counts b lines [] = grows_none lines
chain_counts b lines (p ∷ ps) = grows_more (length ps) (suc (length ps) - 1) lines (folded_lines b (lines, p) ps).0 (omega arith) (folded_counts b (lines, p) ps)

implied_counts : (lines : List Line) (p : ℕ) (ps : List ℕ) → Grows (length ps) lines (implied_lines lines p ps).0
implied_counts lines p [] = grows_none lines
implied_counts lines p (q ∷ qs) =
    let m = implied_lines lines q qs in
    grows_more (length qs + 1) (suc (length qs)) lines (with_implication p m).0 (omega arith)
    (grows_then (length qs) 1 lines m.0 (with_implication p m).0 (implied_counts lines q qs) (binary_counts two.Implies m.0 p m.1))

paired_counts : (b : Binary) (lines : List Line) (xs : List (ℕ × ℕ)) → Grows (length xs) lines (paired_lines b lines xs).0
paired_counts b lines [] = grows_none lines
paired_counts b lines (x ∷ xs) =
    let n = with_binary b lines x.0 x.1 in
    grows_more (1 + length xs) (suc (length xs)) lines (paired_lines b n.0 xs).0 (omega arith)
    (grows_then 1 (length xs) lines n.0 (paired_lines b n.0 xs).0 (binary_counts b lines x.0 x.1) (paired_counts b n.0 xs))

pub paired_long : (b : Binary) (lines : List Line) (xs : List (ℕ × ℕ)) → length (paired_lines b lines xs).1 ≡ length xs
paired_long b lines [] = refl
paired_long b lines (x ∷ xs) = ap suc (paired_long b (with_binary b lines x.0 x.1).0 xs)

compared_counts : (b : Binary) (lines : List Line) (xs : List (ℕ × ℕ)) → Grows (length xs + (length xs - 1)) lines (compared_lines b lines xs).0
compared_counts b lines xs =
    let m = paired_lines b lines xs in
    let r = chain_lines two.And m.0 m.1 in
    grows_then (length xs) (length xs - 1) lines m.0 r.0 (paired_counts b lines xs)
    (subst (λ n. Grows (n - 1) m.0 r.0) (paired_long b lines xs) (chain_counts two.And m.0 m.1))

neighbours_long : (p : ℕ) (ps : List ℕ) → length (neighbours p ps) ≡ length ps
neighbours_long p [] = refl
neighbours_long p (q ∷ qs) = ap suc (neighbours_long q qs)

pairs_next : (k m : ℕ) → 2 * k ≡ suc m * m → 2 * (suc m + k) ≡ suc (suc m) * suc m
pairs_next k m h = omega (arith, h, mul_comm (suc m) m, suc-mul (suc m) (suc m), suc-mul m (suc m))

pairs_step : (k n : ℕ) → 2 * k ≡ n * (n - 1) → 2 * (n + k) ≡ suc n * n
pairs_step k zero h = omega (arith, h)
pairs_step k (suc m) h = pairs_next k m (h ∙ ap (λ n. suc m * n) (let e : suc m - 1 ≡ m = omega arith in e))

-- twice the pairs of n elements are n * (n - 1)
twice_pairs : (ps : List ℕ) → 2 * length (pairs_of ps) ≡ length ps * (length ps - 1)
twice_pairs [] = refl
twice_pairs (p ∷ ps) =
    ap (λ n. 2 * n) (length-append (map (λ q. (p, q)) ps) (pairs_of ps) ∙ ap (λ n. n + length (pairs_of ps)) (length-map ps (λ q. (p, q))))
    ∙ pairs_step (length (pairs_of ps)) (length ps) (twice_pairs ps)
    ∙ ap (λ n. suc (length ps) * n) (let e : length ps ≡ suc (length ps) - 1 = omega arith in e)

half : (k n : ℕ) → 2 * k ≡ n → n / 2 ≡ k
half k n h = omega (arith, h)

pairs_long : (ps : List ℕ) → length (pairs_of ps) ≡ length ps * (length ps - 1) / 2
pairs_long ps = sym (half (length (pairs_of ps)) (length ps * (length ps - 1)) (twice_pairs ps))

-- ---- operators

-- what an operator makes of lines and places, with two to spare
pub record OperatorCounts (o : TermOp) (lines : List Line) (ps : List ℕ) : Type 0 where
  pub count : ℕ
  pub grows : Grows count lines (with_operator o lines ps).0
  pub few : count + 2 ≤ 2 * operator_size o (length ps) + length ps

none_made : (o : TermOp) (lines : List Line) (ps : List ℕ) → with_operator o lines ps ≡ (lines, 0) → operator_size o (length ps) ≡ 1 → OperatorCounts o lines ps
none_made o lines ps e s =
    record { count = 0; grows = subst (λ (m : Built). Grows 0 lines m.0) (sym e) (grows_none lines); few = omega (arith, s) }

one_made : (o : TermOp) (lines : List Line) (ps : List ℕ) → operator_size o (length ps) ≡ 1 → 1 ≤ length ps → Grows 1 lines (with_operator o lines ps).0 → OperatorCounts o lines ps
one_made o lines ps s l g = record { count = 1; grows = g; few = omega (arith, s, l) }

chain_made : (o : TermOp) (b : Binary) (lines : List Line) (ps : List ℕ) → operator_size o (length ps) ≡ 1 → with_operator o lines ps ≡ chain_lines b lines ps → OperatorCounts o lines ps
chain_made o b lines ps s e =
    record { count = length ps - 1; grows = subst (λ (m : Built). Grows (length ps - 1) lines m.0) (sym e) (chain_counts b lines ps); few = omega (arith, s) }

pub operator_counts : (o : TermOp) (lines : List Line) (ps : List ℕ) → count_fits o (length ps) ≡ true → OperatorCounts o lines ps
operator_counts op.Not lines [] h = none_made op.Not lines [] refl refl
operator_counts op.Not lines (p ∷ []) h = one_made op.Not lines (p ∷ []) refl (omega arith) (word_counts lines (line.Unary one.Not) (unary_width one.Not (width_at lines p)) (plain_arg p ∷ []) refl)
operator_counts op.Not lines (p ∷ q ∷ ps) h = none_made op.Not lines (p ∷ q ∷ ps) refl refl
operator_counts op.And lines ps h = chain_made op.And two.And lines ps refl refl
operator_counts op.Or lines ps h = chain_made op.Or two.Or lines ps refl refl
operator_counts op.Xor lines ps h = chain_made op.Xor two.Xor lines ps refl refl
operator_counts op.Implies lines [] h = none_made op.Implies lines [] refl refl
operator_counts op.Implies lines (p ∷ ps) h = record { count = length ps; grows = implied_counts lines p ps; few = omega arith }
operator_counts op.Equal lines [] h = absurd (cc)
operator_counts op.Equal lines (p ∷ ps) h =
    let l = leb-true 2 (length (p ∷ ps)) h in
    let n = neighbours_long p ps in
    record { count = length (neighbours p ps) + (length (neighbours p ps) - 1); grows = compared_counts two.Eq lines (neighbours p ps); few = omega (arith, l, n) }
operator_counts op.Distinct lines ps h =
    let l = leb-true 2 (length ps) h in
    let n = pairs_long ps in
    record { count = length (pairs_of ps) + (length (pairs_of ps) - 1); grows = compared_counts two.Neq lines (pairs_of ps); few = omega (arith, l, n) }
operator_counts op.Ite lines [] h = none_made op.Ite lines [] refl refl
operator_counts op.Ite lines (c ∷ []) h = none_made op.Ite lines (c ∷ []) refl refl
operator_counts op.Ite lines (c ∷ p ∷ []) h = none_made op.Ite lines (c ∷ p ∷ []) refl refl
operator_counts op.Ite lines (c ∷ p ∷ q ∷ []) h =
    one_made op.Ite lines (c ∷ p ∷ q ∷ []) refl (omega arith) (word_counts lines line.Ite (width_at lines p) (plain_arg c ∷ plain_arg p ∷ plain_arg q ∷ []) refl)
operator_counts op.Ite lines (c ∷ p ∷ q ∷ r ∷ ps) h = none_made op.Ite lines (c ∷ p ∷ q ∷ r ∷ ps) refl refl
operator_counts op.Concat lines [] h = none_made op.Concat lines [] refl refl
operator_counts op.Concat lines (p ∷ []) h = none_made op.Concat lines (p ∷ []) refl refl
operator_counts op.Concat lines (p ∷ q ∷ []) h = one_made op.Concat lines (p ∷ q ∷ []) refl (omega arith) (binary_counts two.Concat lines p q)
operator_counts op.Concat lines (p ∷ q ∷ r ∷ ps) h = none_made op.Concat lines (p ∷ q ∷ r ∷ ps) refl refl
operator_counts (op.Extract high low) lines [] h = none_made (op.Extract high low) lines [] refl refl
operator_counts (op.Extract high low) lines (p ∷ []) h =
    one_made (op.Extract high low) lines (p ∷ []) refl (omega arith) (word_counts lines (line.Slice high low) (high - low + 1) (plain_arg p ∷ []) refl)
operator_counts (op.Extract high low) lines (p ∷ q ∷ ps) h = none_made (op.Extract high low) lines (p ∷ q ∷ ps) refl refl
operator_counts (op.ZeroExtend n) lines [] h = none_made (op.ZeroExtend n) lines [] refl refl
operator_counts (op.ZeroExtend zero) lines (p ∷ []) h = record { count = 0; grows = grows_none lines; few = omega arith }
operator_counts (op.ZeroExtend (suc n)) lines (p ∷ []) h =
    one_made (op.ZeroExtend (suc n)) lines (p ∷ []) refl (omega arith) (word_counts lines (line.Uext (suc n)) (width_at lines p + suc n) (plain_arg p ∷ []) refl)
operator_counts (op.ZeroExtend n) lines (p ∷ q ∷ ps) h = none_made (op.ZeroExtend n) lines (p ∷ q ∷ ps) refl refl
operator_counts (op.SignExtend n) lines [] h = none_made (op.SignExtend n) lines [] refl refl
operator_counts (op.SignExtend zero) lines (p ∷ []) h = record { count = 0; grows = grows_none lines; few = omega arith }
operator_counts (op.SignExtend (suc n)) lines (p ∷ []) h =
    one_made (op.SignExtend (suc n)) lines (p ∷ []) refl (omega arith) (word_counts lines (line.Sext (suc n)) (width_at lines p + suc n) (plain_arg p ∷ []) refl)
operator_counts (op.SignExtend n) lines (p ∷ q ∷ ps) h = none_made (op.SignExtend n) lines (p ∷ q ∷ ps) refl refl
operator_counts (op.BvUnary u) lines [] h = none_made (op.BvUnary u) lines [] refl refl
operator_counts (op.BvUnary u) lines (p ∷ []) h =
    one_made (op.BvUnary u) lines (p ∷ []) refl (omega arith) (word_counts lines (line.Unary u) (unary_width u (width_at lines p)) (plain_arg p ∷ []) refl)
operator_counts (op.BvUnary u) lines (p ∷ q ∷ ps) h = none_made (op.BvUnary u) lines (p ∷ q ∷ ps) refl refl
operator_counts (op.BvBinary b) lines ps h = chain_made (op.BvBinary b) b lines ps refl refl
