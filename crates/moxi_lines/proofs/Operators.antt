-- The lines of an operator give the word of its value.
use Rattle.std.proofs.Common.{◌≡◌, ℕ, zero, suc, ◌+◌, ◌<◌, ◌≤◌, Bool, true, false, not, cond, nat_le, eqb, List, [], ◌∷◌, length, map, Option, Some, None, Ok, refl, sym, ap, ◌∙◌, subst, arith}
use Rattle.std.specs.List.{AllByRecursion, list_all, list_any}
use Rattle.std.proofs.lemmas.Bool.Decides.{nat_tests}
use Rattle.text_core.specs.declared.place.Kind.TheVariants.{M}
use Rattle.word_core.specs.Words.{BitVector}
use Rattle.word_core.specs.Table.{BinaryFits, binary_of, binary_width, ite_of, sext_of, slice_of, uext_of, unary_of, unary_width}
use Rattle.word_core.specs.declared.kinds.Unary.{Unary}
use Rattle.word_core.specs.declared.kinds.Unary.TheVariants as one
use Rattle.word_core.specs.declared.kinds.Binary.{Binary}
use Rattle.word_core.specs.declared.kinds.Binary.TheVariants as two
use Rattle.btor_tree.specs.declared.lines.Line.{Line}
use Rattle.btor_tree.specs.Fits.{greatest_id}
use Rattle.moxi_terms.specs.declared.data.Sort.{Sort}
use Rattle.moxi_terms.specs.declared.data.Sort.TheVariants.{Truth, Bits, Choice}
use Rattle.moxi_terms.specs.declared.data.Datum.{Datum}
use Rattle.moxi_terms.specs.declared.data.Datum.TheVariants as datum
use Rattle.moxi_terms.specs.declared.data.TermOp.{TermOp}
use Rattle.moxi_terms.specs.declared.data.TermOp.TheVariants as op
use Rattle.moxi_terms.specs.declared.term.Enumeration.{Enumeration}
use Rattle.moxi_terms.specs.Operators.{all_differ, all_equal, folded, implied, is_comparison, on_words, op_value, parity, truth_of, word_of}
use Rattle.moxi_terms.specs.Sorts.{IsOf, common, compared, count_fits, fitting, is_chain, is_negation, logical, op_sort}
use Rattle.moxi_terms.proofs.SortLaws.{AllOf, AllOne, Calculated, arithmetic, arithmetic_fits, calculated_is, chosen_is, common_one, comparison, same_ok, taken, widened_is}
use Rattle.moxi_terms.proofs.OperatorLaws.{extracted}
use Rattle.moxi_lines.specs.Codes.{code_of, sort_bits}
use Rattle.moxi_lines.specs.TermLines.{Built, chain_lines, neighbours, pairs_of, with_operator}
use Rattle.moxi_lines.specs.TermLaws.{AreNumbered, Makes, Represents}
use Rattle.moxi_lines.proofs.Growing.{grown_none}
use Rattle.moxi_lines.proofs.Steps.{BuiltWord, WordAt, binary_step, ite_step, signs_step, slice_step, unary_step, zeros_step}
use Rattle.moxi_lines.proofs.Chains.{WordsAt, chain_made, compared_made, fold_all, fold_words, implied_made, neighbours_at, pairs_at}
use Rattle.moxi_lines.proofs.Words.{and_words, bit, code_bits, code_truth, codes, comparison_bit, distinct_words, equal_words, folded_codes, implied_words, ite_code, or_words, parity_words, sext_none, uext_none}

-- an argument: the place of its word, its sort and its value
pub data Operand : Type 0 where
  operand : ℕ → Sort → Datum → Operand

abbrev pub place_of : Operand → ℕ
place_of (operand p s d) = p

abbrev pub sort_of : Operand → Sort
sort_of (operand p s d) = s

abbrev pub datum_of : Operand → Datum
datum_of (operand p s d) = d

abbrev pub places : List Operand → List ℕ
places xs = map place_of xs

abbrev pub sorts : List Operand → List Sort
sorts xs = map sort_of xs

abbrev pub data_of : List Operand → List Datum
data_of xs = map datum_of xs

pub logical_is : (o : Option Sort) (s : Sort) → logical o ≡ Ok s → (o ≡ Some Truth) × (s ≡ Truth)
logical_is None s h = absurd (cc)
logical_is (Some Truth) s h = (refl, sym (same_ok Truth s h))
logical_is (Some (Bits w)) s h = absurd (cc)
logical_is (Some (Choice n)) s h = absurd (cc)

pub compared_is : (o : Option Sort) (s : Sort) → compared o ≡ Ok s → (t : Sort) × (o ≡ Some t) × (s ≡ Truth)
compared_is None s h = absurd (cc)
compared_is (Some t) s h = (t, refl, sym (same_ok Truth s h))

pub exactly : (n k : ℕ) → eqb n k ≡ true → n ≡ k
exactly n k h = grind (arith, nat_tests)

pub at_least : (k n : ℕ) → nat_le k n ≡ true → k ≤ n
at_least k n h = grind (arith, nat_tests)

same_long : (xs : List Operand) → length (data_of xs) ≡ length (sorts xs)
same_long [] = refl
same_long (a ∷ xs) = ap suc (same_long xs)

pub negation_keeps : (u : Unary) (w : ℕ) → is_negation u ≡ true → unary_width u w ≡ w
negation_keeps one.Not w h = refl
negation_keeps one.Neg w h = refl
negation_keeps u w h = absurd (cc)

comparison_keeps : (b : Binary) (w : ℕ) → is_comparison b ≡ true → BinaryFits b w w × (binary_width b w w ≡ 1)
comparison_keeps two.Iff w h = absurd (cc)
comparison_keeps two.Implies w h = absurd (cc)
comparison_keeps two.Concat w h = absurd (cc)
comparison_keeps b w h = (refl, cc)

comparison_is_no_chain : (b : Binary) → is_comparison b ≡ true → is_chain b ≡ false
comparison_is_no_chain two.And h = absurd (cc)
comparison_is_no_chain b h = cc

module _ (es : List Enumeration) (row : List BitVector) (known : Bool) (lines : List Line) (n : AreNumbered lines) where
  abbrev pub Stands : Operand → Type 0
  Stands (operand p s d) = Represents es row known lines p s d × IsOf es s d

  abbrev pub AllStand : List Operand → Type 0
  AllStand xs = AllByRecursion Stands xs

  abbrev pub Room : Built → Type 0
  Room m = length m.0 < greatest_id

  makes : (m : Built) (w : ℕ) (x : BitVector) (s : Sort) (d : Datum) → BuiltWord row known lines m w x → 1 ≤ w → sort_bits es s ≡ w → x ≡ code_of es d → Makes es row known lines m s d
  makes m w x s d made low e f =
      record {
        grows = made.grows;
        numbered = made.numbered;
        stands = record { wide = subst (λ i. 1 ≤ i) (sym e) low; width = made.at.width ∙ sym e; word = λ k met. made.at.word k met ∙ f };
      }

  -- a truth value
  makes_truth : (m : Built) (x : BitVector) (s : Sort) (b : Bool) → BuiltWord row known lines m 1 x → s ≡ Truth → x ≡ bit b → Makes es row known lines m s (datum.Truth b)
  makes_truth m x s b made e f = makes m 1 x s (datum.Truth b) made (omega arith) (ap (sort_bits es) e) f

  word_here : (p : ℕ) (s : Sort) (d : Datum) → Stands (operand p s d) → WordAt row known lines p (sort_bits es s) (code_of es d)
  word_here p s d a = record { width = a.0.width; word = a.0.word }

  word_of_sort : (p : ℕ) (s t : Sort) (d : Datum) → Stands (operand p s d) → s ≡ t → WordAt row known lines p (sort_bits es t) (code_of es d)
  word_of_sort p s t d a e = subst (λ u. WordAt row known lines p (sort_bits es u) (code_of es d)) e (word_here p s d a)

  words_here : (s : Sort) (xs : List Operand) → AllOne s (sorts xs) → AllStand xs → WordsAt row known lines (places xs) (sort_bits es s) (codes es (data_of xs))
  words_here s [] o a = tt
  words_here s (operand p t d ∷ xs) o a = (word_of_sort p t s d a.0 o.0, words_here s xs o.1 a.1)

  values_here : (s : Sort) (xs : List Operand) → AllOne s (sorts xs) → AllStand xs → AllOf es s (data_of xs)
  values_here s [] o a = tt
  values_here s (operand p t d ∷ xs) o a = (subst (λ u. IsOf es u d) o.0 a.0.1, values_here s xs o.1 a.1)

  wide_here : (p : ℕ) (s t : Sort) (d : Datum) → Stands (operand p s d) → s ≡ t → 1 ≤ sort_bits es t
  wide_here p s t d a e = subst (λ u. 1 ≤ sort_bits es u) e a.0.wide

  -- ---- truth values

  not_made : (xs : List Operand) (s : Sort) → AllStand xs → eqb (length (sorts xs)) 1 ≡ true → logical (common (sorts xs)) ≡ Ok s → Room (with_operator op.Not lines (places xs))
      → Makes es row known lines (with_operator op.Not lines (places xs)) s (op_value op.Not (data_of xs))
  not_made [] s a c h room = absurd (cc)
  not_made (operand p t d ∷ []) s a c h room =
      let e = logical_is (common (t ∷ [])) s h in
      let o = common_one (t ∷ []) Truth e.0 in
      let made = unary_step row known one.Not lines p 1 (code_of es d) n (omega arith) refl (word_of_sort p t Truth d a.0 o.0) room in
      makes_truth _ _ s (not (truth_of d)) made e.1 (ap (unary_of one.Not) (code_truth es d (subst (λ u. IsOf es u d) o.0 a.0.1)) ∙ not_bit (truth_of d))
    where
      not_bit : (b : Bool) → unary_of one.Not (bit b) ≡ bit (not b)
      not_bit true = refl
      not_bit false = refl
  not_made (x ∷ y ∷ xs) s a c h room = absurd (omega (arith, exactly (suc (suc (length (sorts xs)))) 1 c))

  -- a chain of truth values
  chain_truth : (b : Binary) (v : Bool) (xs : List Operand) (s : Sort) → BinaryFits b 1 1 → binary_width b 1 1 ≡ 1 → AllStand xs → 1 ≤ length (sorts xs) → logical (common (sorts xs)) ≡ Ok s
      → (AllOf es Truth (data_of xs) → fold_all b (codes es (data_of xs)) ≡ bit v) → Room (chain_lines b lines (places xs)) → Makes es row known lines (chain_lines b lines (places xs)) s (datum.Truth v)
  chain_truth b v xs s fits w a l h value room =
      let e = logical_is (common (sorts xs)) s h in
      let o = common_one (sorts xs) Truth e.0 in
      let long : length (codes es (data_of xs)) ≡ length (sorts xs) = codes_long xs in
      let made = chain_made row known b 1 (omega arith) fits w lines (places xs) (codes es (data_of xs)) n (omega (arith, long, l)) (words_here Truth xs o a) room in
      makes_truth _ _ s v made e.1 (value (values_here Truth xs o a))
    where
      codes_long : (xs : List Operand) → length (codes es (data_of xs)) ≡ length (sorts xs)
      codes_long [] = refl
      codes_long (x ∷ xs) = ap suc (codes_long xs)

  and_value : (ds : List Datum) → 1 ≤ length ds → AllOf es Truth ds → fold_all two.And (codes es ds) ≡ bit (list_all truth_of ds)
  and_value [] l a = absurd (omega (arith, l))
  and_value (d ∷ ds) l a = ap (λ z. fold_words two.And z (codes es ds)) (code_truth es d a.0) ∙ and_words es (truth_of d) ds a.1

  or_value : (ds : List Datum) → 1 ≤ length ds → AllOf es Truth ds → fold_all two.Or (codes es ds) ≡ bit (list_any truth_of ds)
  or_value [] l a = absurd (omega (arith, l))
  or_value (d ∷ ds) l a = ap (λ z. fold_words two.Or z (codes es ds)) (code_truth es d a.0) ∙ or_words es (truth_of d) ds a.1

  xor_value : (ds : List Datum) → 1 ≤ length ds → AllOf es Truth ds → fold_all two.Xor (codes es ds) ≡ bit (parity false ds)
  xor_value [] l a = absurd (omega (arith, l))
  xor_value (d ∷ ds) l a = parity_words es d ds a

  implies_made : (xs : List Operand) (s : Sort) → AllStand xs → nat_le 2 (length (sorts xs)) ≡ true → logical (common (sorts xs)) ≡ Ok s → Room (with_operator op.Implies lines (places xs))
      → Makes es row known lines (with_operator op.Implies lines (places xs)) s (op_value op.Implies (data_of xs))
  implies_made [] s a c h room = absurd (cc)
  implies_made (operand p t d ∷ xs) s a c h room =
      let e = logical_is (common (t ∷ sorts xs)) s h in
      let o = common_one (t ∷ sorts xs) Truth e.0 in
      let w = words_here Truth (operand p t d ∷ xs) o a in
      let made = implied_made row known lines p (code_of es d) (places xs) (codes es (data_of xs)) n w.0 w.1 room in
      makes_truth _ _ s (implied d (data_of xs)) made e.1 (implied_words es d (data_of xs) (values_here Truth (operand p t d ∷ xs) o a))

  -- ---- comparisons

  equal_made : (xs : List Operand) (s : Sort) → AllStand xs → nat_le 2 (length (sorts xs)) ≡ true → compared (common (sorts xs)) ≡ Ok s → Room (with_operator op.Equal lines (places xs))
      → Makes es row known lines (with_operator op.Equal lines (places xs)) s (op_value op.Equal (data_of xs))
  equal_made [] s a c h room = absurd (cc)
  equal_made (operand p t d ∷ []) s a c h room = absurd (cc)
  equal_made (operand p t d ∷ operand q u e ∷ xs) s a c h room =
      let all = operand p t d ∷ operand q u e ∷ xs in
      let k = compared_is (common (sorts all)) s h in
      let o = common_one (sorts all) k.0 k.1 in
      let w = words_here k.0 all o a in
      let low = wide_here p t k.0 d a.0 o.0 in
      let made = compared_made row known two.Eq (sort_bits es k.0) low refl refl lines (neighbours p (q ∷ places xs)) (neighbours (code_of es d) (code_of es e ∷ codes es (data_of xs))) n (omega arith)
      (neighbours_at row known lines p (sort_bits es k.0) (code_of es d) (q ∷ places xs) (code_of es e ∷ codes es (data_of xs)) w.0 w.1) room in
      makes_truth _ _ s (all_equal d (e ∷ data_of xs)) made k.2 (equal_words es k.0 d (e ∷ data_of xs) (omega arith) (values_here k.0 all o a))

  distinct_made : (xs : List Operand) (s : Sort) → AllStand xs → nat_le 2 (length (sorts xs)) ≡ true → compared (common (sorts xs)) ≡ Ok s → Room (with_operator op.Distinct lines (places xs))
      → Makes es row known lines (with_operator op.Distinct lines (places xs)) s (op_value op.Distinct (data_of xs))
  distinct_made [] s a c h room = absurd (cc)
  distinct_made (operand p t d ∷ []) s a c h room = absurd (cc)
  distinct_made (operand p t d ∷ operand q u e ∷ xs) s a c h room =
      let all = operand p t d ∷ operand q u e ∷ xs in
      let k = compared_is (common (sorts all)) s h in
      let o = common_one (sorts all) k.0 k.1 in
      let w = words_here k.0 all o a in
      let low = wide_here p t k.0 d a.0 o.0 in
      let made = compared_made row known two.Neq (sort_bits es k.0) low refl refl lines (pairs_of (places all)) (pairs_of (codes es (data_of all))) n (omega arith)
      (pairs_at row known lines (sort_bits es k.0) (places all) (codes es (data_of all)) w) room in
      makes_truth _ _ s (all_differ (data_of all)) made k.2 (distinct_words es k.0 (data_of all) (omega arith) (values_here k.0 all o a))

  -- ---- words

  ite_made : (xs : List Operand) (s : Sort) → AllStand xs → eqb (length (sorts xs)) 3 ≡ true → fitting op.Ite (sorts xs) ≡ Ok s → Room (with_operator op.Ite lines (places xs))
      → Makes es row known lines (with_operator op.Ite lines (places xs)) s (op_value op.Ite (data_of xs))
  ite_made [] s a c h room = absurd (cc)
  ite_made (operand p (Bits w) d ∷ xs) s a c h room = absurd (cc)
  ite_made (operand p (Choice w) d ∷ xs) s a c h room = absurd (cc)
  ite_made (operand p Truth d ∷ []) s a c h room = absurd (cc)
  ite_made (operand p Truth d ∷ x ∷ []) s a c h room = absurd (cc)
  ite_made (operand p Truth d ∷ operand q t e ∷ operand r u f ∷ []) s a c h room =
      let o = common_one (t ∷ u ∷ []) s (chosen_is (common (t ∷ u ∷ [])) s h) in
      let made = ite_step row known lines p q r (sort_bits es s) (code_of es d) (code_of es e) (code_of es f) n (wide_here q t s e a.1.0 o.0) (word_here p Truth d a.0) (word_of_sort q t s e a.1.0 o.0) (word_of_sort r u s f a.1.1.0 o.1.0) room in
      makes _ _ _ s (cond (truth_of d) e f) made (wide_here q t s e a.1.0 o.0) refl
      (ap (λ z. ite_of z (code_of es e) (code_of es f)) (code_truth es d a.0.1) ∙ ite_code es (truth_of d) e f)
  ite_made (operand p Truth d ∷ x ∷ y ∷ z ∷ xs) s a c h room = absurd (omega (arith, exactly (suc (suc (suc (suc (length (sorts xs)))))) 3 c))

  concat_made : (xs : List Operand) (s : Sort) → AllStand xs → eqb (length (sorts xs)) 2 ≡ true → fitting op.Concat (sorts xs) ≡ Ok s → Room (with_operator op.Concat lines (places xs))
      → Makes es row known lines (with_operator op.Concat lines (places xs)) s (op_value op.Concat (data_of xs))
  concat_made [] s a c h room = absurd (cc)
  concat_made (x ∷ []) s a c h room = absurd (cc)
  concat_made (operand p Truth d ∷ y ∷ xs) s a c h room = absurd (cc)
  concat_made (operand p (Choice v) d ∷ y ∷ xs) s a c h room = absurd (cc)
  concat_made (operand p (Bits v) d ∷ operand q Truth e ∷ xs) s a c h room = absurd (cc)
  concat_made (operand p (Bits v) d ∷ operand q (Choice w) e ∷ xs) s a c h room = absurd (cc)
  concat_made (operand p (Bits v) d ∷ operand q (Bits w) e ∷ []) s a c h room =
      let k = widened_is (v + w) s h in
      let low : 1 ≤ v + w = omega (arith, a.0.0.wide) in
      let made = binary_step row known two.Concat lines p q v w (code_of es d) (code_of es e) n a.0.0.wide a.1.0.0.wide (word_here p (Bits v) d a.0) (word_here q (Bits w) e a.1.0) k.0 low k.0 room in
      makes _ _ _ s (op_value op.Concat (d ∷ e ∷ [])) made low (ap (sort_bits es) k.1)
      (ap (λ z. binary_of two.Concat z (code_of es e)) (code_bits es v d a.0.1) ∙ ap (binary_of two.Concat (word_of d)) (code_bits es w e a.1.0.1))
  concat_made (x ∷ y ∷ z ∷ xs) s a c h room = absurd (omega (arith, exactly (suc (suc (suc (length (sorts xs))))) 2 c))

  extract_made : (high low : ℕ) (xs : List Operand) (s : Sort) → AllStand xs → eqb (length (sorts xs)) 1 ≡ true → fitting (op.Extract high low) (sorts xs) ≡ Ok s → Room (with_operator (op.Extract high low) lines (places xs))
      → Makes es row known lines (with_operator (op.Extract high low) lines (places xs)) s (op_value (op.Extract high low) (data_of xs))
  extract_made high low [] s a c h room = absurd (cc)
  extract_made high low (operand p Truth d ∷ []) s a c h room = absurd (cc)
  extract_made high low (operand p (Choice v) d ∷ []) s a c h room = absurd (cc)
  extract_made high low (operand p (Bits w) d ∷ []) s a c h room =
      let k = extracted high low w s h in
      let made = slice_step row known high low lines p w (code_of es d) n a.0.0.wide k.0 k.1 (word_here p (Bits w) d a.0) room in
      makes _ _ _ s (op_value (op.Extract high low) (d ∷ [])) made (omega arith) (ap (sort_bits es) k.2) (ap (λ z. slice_of z high low) (code_bits es w d a.0.1))
  extract_made high low (x ∷ y ∷ xs) s a c h room = absurd (omega (arith, exactly (suc (suc (length (sorts xs)))) 1 c))

  -- nothing is made of lines
  stays : (p w : ℕ) (x : BitVector) → WordAt row known lines p w x → BuiltWord row known lines (lines, p) w x
  stays p w x at = record { grows = grown_none lines; numbered = n; at = at }

  zeros_made : (i : ℕ) (xs : List Operand) (s : Sort) → AllStand xs → eqb (length (sorts xs)) 1 ≡ true → fitting (op.ZeroExtend i) (sorts xs) ≡ Ok s → Room (with_operator (op.ZeroExtend i) lines (places xs))
      → Makes es row known lines (with_operator (op.ZeroExtend i) lines (places xs)) s (op_value (op.ZeroExtend i) (data_of xs))
  zeros_made i [] s a c h room = absurd (cc)
  zeros_made i (operand p Truth d ∷ []) s a c h room = absurd (cc)
  zeros_made i (operand p (Choice v) d ∷ []) s a c h room = absurd (cc)
  zeros_made zero (operand p (Bits w) d ∷ []) s a c h room =
      let k = widened_is (w + 0) s h in
      makes _ _ _ s (op_value (op.ZeroExtend 0) (d ∷ [])) (stays p w (code_of es d) (word_here p (Bits w) d a.0)) a.0.0.wide (ap (sort_bits es) k.1 ∙ (let e : w + 0 ≡ w = omega arith in e))
      (code_bits es w d a.0.1 ∙ uext_none (word_of d))
  zeros_made (suc i) (operand p (Bits w) d ∷ []) s a c h room =
      let k = widened_is (w + suc i) s h in
      let made = zeros_step row known i lines p w (code_of es d) n a.0.0.wide k.0 (word_here p (Bits w) d a.0) room in
      makes _ _ _ s (op_value (op.ZeroExtend (suc i)) (d ∷ [])) made (omega arith) (ap (sort_bits es) k.1) (ap (λ z. uext_of z (suc i)) (code_bits es w d a.0.1))
  zeros_made i (x ∷ y ∷ xs) s a c h room = absurd (omega (arith, exactly (suc (suc (length (sorts xs)))) 1 c))

  signs_made : (i : ℕ) (xs : List Operand) (s : Sort) → AllStand xs → eqb (length (sorts xs)) 1 ≡ true → fitting (op.SignExtend i) (sorts xs) ≡ Ok s → Room (with_operator (op.SignExtend i) lines (places xs))
      → Makes es row known lines (with_operator (op.SignExtend i) lines (places xs)) s (op_value (op.SignExtend i) (data_of xs))
  signs_made i [] s a c h room = absurd (cc)
  signs_made i (operand p Truth d ∷ []) s a c h room = absurd (cc)
  signs_made i (operand p (Choice v) d ∷ []) s a c h room = absurd (cc)
  signs_made zero (operand p (Bits w) d ∷ []) s a c h room =
      let k = widened_is (w + 0) s h in
      makes _ _ _ s (op_value (op.SignExtend 0) (d ∷ [])) (stays p w (code_of es d) (word_here p (Bits w) d a.0)) a.0.0.wide (ap (sort_bits es) k.1 ∙ (let e : w + 0 ≡ w = omega arith in e))
      (code_bits es w d a.0.1 ∙ sext_none (word_of d))
  signs_made (suc i) (operand p (Bits w) d ∷ []) s a c h room =
      let k = widened_is (w + suc i) s h in
      let made = signs_step row known i lines p w (code_of es d) n a.0.0.wide k.0 (word_here p (Bits w) d a.0) room in
      makes _ _ _ s (op_value (op.SignExtend (suc i)) (d ∷ [])) made (omega arith) (ap (sort_bits es) k.1) (ap (λ z. sext_of z (suc i)) (code_bits es w d a.0.1))
  signs_made i (x ∷ y ∷ xs) s a c h room = absurd (omega (arith, exactly (suc (suc (length (sorts xs)))) 1 c))

  unary_made : (u : Unary) (xs : List Operand) (s : Sort) → AllStand xs → eqb (length (sorts xs)) 1 ≡ true → fitting (op.BvUnary u) (sorts xs) ≡ Ok s → Room (with_operator (op.BvUnary u) lines (places xs))
      → Makes es row known lines (with_operator (op.BvUnary u) lines (places xs)) s (op_value (op.BvUnary u) (data_of xs))
  unary_made u [] s a c h room = absurd (cc)
  unary_made u (operand p Truth d ∷ []) s a c h room = absurd (cc)
  unary_made u (operand p (Choice v) d ∷ []) s a c h room = absurd (cc)
  unary_made u (operand p (Bits w) d ∷ []) s a c h room =
      let k = taken (is_negation u) (Ok (Bits w)) (M 5) s h in
      let made = unary_step row known u lines p w (code_of es d) n a.0.0.wide (negation_keeps u w k.0) (word_here p (Bits w) d a.0) room in
      makes _ _ _ s (op_value (op.BvUnary u) (d ∷ [])) made a.0.0.wide (ap (sort_bits es) (sym (same_ok (Bits w) s k.1))) (ap (unary_of u) (code_bits es w d a.0.1))
  unary_made u (x ∷ y ∷ xs) s a c h room = absurd (omega (arith, exactly (suc (suc (length (sorts xs)))) 1 c))

  calculated_made : (b : Binary) (w : ℕ) (xs : List Operand) (s : Sort) → AllStand xs → AllOne (Bits w) (sorts xs) → Calculated b w s → cond (is_chain b) (nat_le 2 (length (sorts xs))) (eqb (length (sorts xs)) 2) ≡ true
      → Room (with_operator (op.BvBinary b) lines (places xs)) → Makes es row known lines (with_operator (op.BvBinary b) lines (places xs)) s (op_value (op.BvBinary b) (data_of xs))
  calculated_made b w [] s a o k c room = absurd (none (is_chain b) c)
    where
      none : (t : Bool) → cond t (nat_le 2 0) (eqb 0 2) ≡ true → ⊥
      none true h = absurd (cc)
      none false h = absurd (cc)
  calculated_made b w (operand p t d ∷ xs) s a o (arithmetic c i e) f room =
      let all = operand p t d ∷ xs in
      let fits = arithmetic_fits b w i in
      let low = wide_here p t (Bits w) d a.0 o.0 in
      let made = chain_made row known b w low fits.0 fits.1 lines (places all) (codes es (data_of all)) n (omega arith) (words_here (Bits w) all o a) room in
      let v = values_here (Bits w) all o a in
      makes _ _ _ s (on_words b (word_of d) (data_of xs)) made low (ap (sort_bits es) e)
      (ap (λ z. fold_words b z (codes es (data_of xs))) (code_bits es w d v.0) ∙ folded_codes es b w (word_of d) (data_of xs) v.1
      ∙ ap (λ t. code_of es (cond t (datum.Truth (eqb (folded b (word_of d) (data_of xs)).bits 1)) (datum.Bits (folded b (word_of d) (data_of xs))))) (sym c))
  calculated_made b w (operand p t d ∷ []) s a o (comparison c e) f room =
      absurd (one_is_not_two (is_chain b) f)
    where
      one_is_not_two : (t : Bool) → cond t (nat_le 2 1) (eqb 1 2) ≡ true → ⊥
      one_is_not_two true h = absurd (cc)
      one_is_not_two false h = absurd (cc)
  calculated_made b w (operand p t d ∷ operand q u g ∷ []) s a o (comparison c e) f room =
      let keeps = comparison_keeps b w c in
      let low = wide_here p t (Bits w) d a.0 o.0 in
      let made = binary_step row known b lines p q w w (code_of es d) (code_of es g) n low low (word_of_sort p t (Bits w) d a.0 o.0) (word_of_sort q u (Bits w) g a.1.0 o.1.0) keeps.0 (omega (arith, keeps.1)) (omega (arith, keeps.1)) room in
      let v = values_here (Bits w) (operand p t d ∷ operand q u g ∷ []) o a in
      makes _ _ _ s (on_words b (word_of d) (g ∷ [])) made (omega (arith, keeps.1)) (ap (sort_bits es) e ∙ sym keeps.1)
      (ap (λ z. binary_of b z (code_of es g)) (code_bits es w d v.0) ∙ ap (binary_of b (word_of d)) (code_bits es w g v.1.0) ∙ comparison_bit b (word_of d) (word_of g) c
      ∙ ap (λ t. code_of es (cond t (datum.Truth (eqb (binary_of b (word_of d) (word_of g)).bits 1)) (datum.Bits (binary_of b (word_of d) (word_of g))))) (sym c))
  calculated_made b w (x ∷ y ∷ z ∷ xs) s a o (comparison c e) f room =
      absurd (more_than_two (is_chain b) (comparison_is_no_chain b c) (length (sorts xs)) f)
    where
      more_than_two : (t : Bool) → t ≡ false → (m : ℕ) → cond t (nat_le 2 (suc (suc (suc m)))) (eqb (suc (suc (suc m))) 2) ≡ true → ⊥
      more_than_two true h m k = absurd (cc)
      more_than_two false h m k = absurd (omega (arith, exactly (suc (suc (suc m))) 2 k))

  fitting_made : (o : TermOp) (xs : List Operand) (s : Sort) → AllStand xs → count_fits o (length (sorts xs)) ≡ true → fitting o (sorts xs) ≡ Ok s → Room (with_operator o lines (places xs))
      → Makes es row known lines (with_operator o lines (places xs)) s (op_value o (data_of xs))
  fitting_made op.Not xs s a c h room = not_made xs s a c h room
  fitting_made op.And xs s a c h room =
      let l = at_least 1 (length (sorts xs)) c in chain_truth two.And (list_all truth_of (data_of xs)) xs s refl refl a l h (λ v. and_value (data_of xs) (omega (arith, l, same_long xs)) v) room
  fitting_made op.Or xs s a c h room =
      let l = at_least 1 (length (sorts xs)) c in chain_truth two.Or (list_any truth_of (data_of xs)) xs s refl refl a l h (λ v. or_value (data_of xs) (omega (arith, l, same_long xs)) v) room
  fitting_made op.Xor xs s a c h room =
      let l : 1 ≤ length (sorts xs) = omega (arith, at_least 2 (length (sorts xs)) c) in
      chain_truth two.Xor (parity false (data_of xs)) xs s refl refl a l h (λ v. xor_value (data_of xs) (omega (arith, l, same_long xs)) v) room
  fitting_made op.Implies xs s a c h room = implies_made xs s a c h room
  fitting_made op.Equal xs s a c h room = equal_made xs s a c h room
  fitting_made op.Distinct xs s a c h room = distinct_made xs s a c h room
  fitting_made op.Ite xs s a c h room = ite_made xs s a c h room
  fitting_made op.Concat xs s a c h room = concat_made xs s a c h room
  fitting_made (op.Extract high low) xs s a c h room = extract_made high low xs s a c h room
  fitting_made (op.ZeroExtend i) xs s a c h room = zeros_made i xs s a c h room
  fitting_made (op.SignExtend i) xs s a c h room = signs_made i xs s a c h room
  fitting_made (op.BvUnary u) xs s a c h room = unary_made u xs s a c h room
  fitting_made (op.BvBinary b) xs s a c h room =
      let k = calculated_is b (common (sorts xs)) s h in
      calculated_made b k.0 xs s a (common_one (sorts xs) (Bits k.0) k.1) k.2 c room

  pub operator_made : (o : TermOp) (xs : List Operand) (s : Sort) → AllStand xs → op_sort o (sorts xs) ≡ Ok s → Room (with_operator o lines (places xs))
      → Makes es row known lines (with_operator o lines (places xs)) s (op_value o (data_of xs))
  operator_made o xs s a h room =
      let p = taken (count_fits o (length (sorts xs))) (fitting o (sorts xs)) (M 12) s h in
      fitting_made o xs s a p.0 p.1 room
