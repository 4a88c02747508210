-- The width of an operator's word, and when its lines may be put.
use Rattle.std.proofs.Common.{◌≡◌, ℕ, suc, ◌+◌, ◌<◌, ◌≤◌, Bool, true, false, cond, nat_le, eqb, List, [], ◌∷◌, length, map, Ok, refl, sym, ap, ◌∙◌, subst, arith}
use Rattle.std.specs.List.{AllByRecursion}
use Rattle.text_core.specs.declared.place.Kind.TheVariants.{M}
use Rattle.word_core.specs.declared.kinds.Unary.{Unary}
use Rattle.word_core.specs.declared.kinds.Unary.TheVariants as one
use Rattle.word_core.specs.declared.kinds.Binary.{Binary}
use Rattle.word_core.specs.declared.kinds.Binary.TheVariants as two
use Rattle.btor_tree.specs.declared.lines.Line.{Line}
use Rattle.btor_tree.specs.Fits.{greatest_id}
use Rattle.moxi_terms.specs.declared.data.Sort.{Sort}
use Rattle.moxi_terms.specs.declared.data.Sort.TheVariants.{Truth, Bits, Choice}
use Rattle.moxi_terms.specs.declared.data.TermOp.{TermOp}
use Rattle.moxi_terms.specs.declared.data.TermOp.TheVariants as op
use Rattle.moxi_terms.specs.declared.term.Enumeration.{Enumeration}
use Rattle.moxi_terms.specs.Operators.{is_comparison}
use Rattle.moxi_terms.specs.Sorts.{common, compared, count_fits, fitting, is_chain, is_negation, logical, op_sort}
use Rattle.moxi_terms.proofs.SortLaws.{AllOne, Calculated, arithmetic, arithmetic_fits, calculated_is, chosen_is, common_one, comparison, comparison_count, same_ok, taken, widened_is}
use Rattle.moxi_terms.proofs.OperatorLaws.{extracted}
use Rattle.moxi_lines.specs.Codes.{sort_bits}
use Rattle.moxi_lines.specs.TermLines.{Built, chain_lines, neighbours, pairs_of, with_operator}
use Rattle.moxi_to_btor.specs.TermPutting.{CanChain, CanOperate}
use Rattle.moxi_to_btor.specs.Standing.{AreAsWide, IsAsWide}
use Rattle.moxi_to_btor.proofs.Folding.{implied_is}
use Rattle.moxi_to_btor.proofs.Widths.{IsWide, binary_can, binary_wide, ite_can, ite_wide, signs_can, signs_wide, slice_can, slice_wide, unary_can, unary_wide, zeros_can, zeros_wide}
use Rattle.moxi_to_btor.proofs.ChainWidths.{AreWide, Compares, Keeps, all_can, chain_can, chain_wide, compared_can, compared_wide, comparison_can, comparison_wide, implied_wide, neighbours_wide, pairs_wide}
use Rattle.moxi_lines.proofs.Operators.{at_least, compared_is, exactly, logical_is, negation_keeps}

comparison_keeps : (b : Binary) (w : ℕ) → is_comparison b ≡ true → Compares b w
comparison_keeps two.Iff w h = absurd (cc)
comparison_keeps two.Implies w h = absurd (cc)
comparison_keeps two.Concat w h = absurd (cc)
comparison_keeps b w h = record { fits = refl; width = cc }

-- arguments: their places and sorts
abbrev places : List (ℕ × Sort) → List ℕ
places xs = map (λ (x : ℕ × Sort). x.0) xs

abbrev sorts : List (ℕ × Sort) → List Sort
sorts xs = map (λ (x : ℕ × Sort). x.1) xs

places_long : (xs : List (ℕ × Sort)) → length (places xs) ≡ length (sorts xs)
places_long [] = refl
places_long (x ∷ xs) = ap suc (places_long xs)

module _ (es : List Enumeration) (lines : List Line) where
  abbrev AllStand : List (ℕ × Sort) → Type 0
  AllStand xs = AllByRecursion (λ (x : ℕ × Sort). IsAsWide es lines x.0 x.1) xs

  pub record Operated (o : TermOp) (ps : List ℕ) (s : Sort) : Type 0 where
    pub wide : IsAsWide es (with_operator o lines ps).0 (with_operator o lines ps).1 s
    pub can : length (with_operator o lines ps).0 < greatest_id → CanOperate o lines ps

  wide_here : (p : ℕ) (s t : Sort) → IsAsWide es lines p s → s ≡ t → IsWide lines p (sort_bits es t)
  wide_here p s t h e = subst (λ u. IsWide lines p (sort_bits es u)) e (record { low = h.wide; high = h.narrow; width = h.width })

  all_wide : (s : Sort) (xs : List (ℕ × Sort)) → AllOne s (sorts xs) → AllStand xs → AreWide lines (places xs) (sort_bits es s)
  all_wide s [] o a = tt
  all_wide s (x ∷ xs) o a = (wide_here x.0 x.1 s a.0 o.0, all_wide s xs o.1 a.1)

  as_wide : (ls : List Line) (p w : ℕ) (s : Sort) → IsWide ls p w → sort_bits es s ≡ w → IsAsWide es ls p s
  as_wide ls p w s h e = record { wide = omega (arith, e, h.low); narrow = omega (arith, e, h.high); width = h.width ∙ sym e }

  -- ---- truth values

  not_done : (xs : List (ℕ × Sort)) (s : Sort) → AllStand xs → eqb (length (sorts xs)) 1 ≡ true → logical (common (sorts xs)) ≡ Ok s → Operated op.Not (places xs) s
  not_done [] s a c h = absurd (cc)
  not_done (x ∷ []) s a c h =
      let e = logical_is (common (x.1 ∷ [])) s h in
      let o = common_one (x.1 ∷ []) Truth e.0 in
      let w = wide_here x.0 x.1 Truth a.0 o.0 in
      record { wide = as_wide _ _ 1 s (unary_wide one.Not lines x.0 1 w refl) (ap (sort_bits es) e.1); can = λ room. unary_can one.Not lines x.0 1 w refl room }
  not_done (x ∷ y ∷ xs) s a c h = absurd (omega (arith, exactly (suc (suc (length (sorts xs)))) 1 c))

  -- a chain of truth values
  record TruthChain (b : Binary) (xs : List (ℕ × Sort)) (s : Sort) : Type 0 where
    wide : IsAsWide es (chain_lines b lines (places xs)).0 (chain_lines b lines (places xs)).1 s
    can : length (chain_lines b lines (places xs)).0 < greatest_id → CanChain b lines (places xs)

  truth_chain : (b : Binary) (xs : List (ℕ × Sort)) (s : Sort) → Keeps b 1 → AllStand xs → 1 ≤ length (sorts xs) → logical (common (sorts xs)) ≡ Ok s → TruthChain b xs s
  truth_chain b xs s k a l h =
      let e = logical_is (common (sorts xs)) s h in
      let o = common_one (sorts xs) Truth e.0 in
      let w = all_wide Truth xs o a in
      record { wide = as_wide _ _ 1 s (chain_wide b 1 k lines (places xs) (omega (arith, l, places_long xs)) w) (ap (sort_bits es) e.1); can = λ room. chain_can b 1 k lines (places xs) w room }

  implies_done : (xs : List (ℕ × Sort)) (s : Sort) → AllStand xs → nat_le 2 (length (sorts xs)) ≡ true → logical (common (sorts xs)) ≡ Ok s → Operated op.Implies (places xs) s
  implies_done [] s a c h = absurd (cc)
  implies_done (x ∷ xs) s a c h =
      let e = logical_is (common (x.1 ∷ sorts xs)) s h in
      let o = common_one (x.1 ∷ sorts xs) Truth e.0 in
      let w = all_wide Truth (x ∷ xs) o a in
      record {
        wide = as_wide _ _ 1 s (implied_wide lines x.0 (places xs) w.0 w.1) (ap (sort_bits es) e.1);
        can = λ room. all_can lines (places (x ∷ xs)) w (λ before last f. subst (λ (m : Built). length m.0 < greatest_id) (implied_is lines (places (x ∷ xs)) before last f) room);
      }

  -- ---- comparisons

  equal_done : (xs : List (ℕ × Sort)) (s : Sort) → AllStand xs → nat_le 2 (length (sorts xs)) ≡ true → compared (common (sorts xs)) ≡ Ok s → Operated op.Equal (places xs) s
  equal_done [] s a c h = absurd (cc)
  equal_done (x ∷ []) s a c h = absurd (cc)
  equal_done (x ∷ y ∷ xs) s a c h =
      let all = x ∷ y ∷ xs in
      let k = compared_is (common (sorts all)) s h in
      let v = sort_bits es k.0 in
      let w = all_wide k.0 all (common_one (sorts all) k.0 k.1) a in
      let pairs = neighbours_wide lines v x.0 (places (y ∷ xs)) w.0 w.1 in
      let eq : Compares two.Eq v = record { fits = refl; width = refl } in
      record {
        wide = as_wide _ _ 1 s (comparison_wide two.Eq v eq lines (neighbours x.0 (places (y ∷ xs))) (omega arith) pairs) (ap (sort_bits es) k.2);
        can = λ room. comparison_can two.Eq v eq lines (neighbours x.0 (places (y ∷ xs))) pairs room;
      }

  distinct_done : (xs : List (ℕ × Sort)) (s : Sort) → AllStand xs → nat_le 2 (length (sorts xs)) ≡ true → compared (common (sorts xs)) ≡ Ok s → Operated op.Distinct (places xs) s
  distinct_done [] s a c h = absurd (cc)
  distinct_done (x ∷ []) s a c h = absurd (cc)
  distinct_done (x ∷ y ∷ xs) s a c h =
      let all = x ∷ y ∷ xs in
      let k = compared_is (common (sorts all)) s h in
      let v = sort_bits es k.0 in
      let w = all_wide k.0 all (common_one (sorts all) k.0 k.1) a in
      let pairs = pairs_wide lines v (places all) w in
      let neq : Compares two.Neq v = record { fits = refl; width = refl } in
      record {
        wide = as_wide _ _ 1 s (comparison_wide two.Neq v neq lines (pairs_of (places all)) (omega arith) pairs) (ap (sort_bits es) k.2);
        can = λ room. comparison_can two.Neq v neq lines (pairs_of (places all)) pairs room;
      }

  -- ---- words

  ite_done : (xs : List (ℕ × Sort)) (s : Sort) → AllStand xs → eqb (length (sorts xs)) 3 ≡ true → fitting op.Ite (sorts xs) ≡ Ok s → Operated op.Ite (places xs) s
  ite_done [] s a c h = absurd (cc)
  ite_done ((p, Bits w) ∷ xs) s a c h = absurd (cc)
  ite_done ((p, Choice w) ∷ xs) s a c h = absurd (cc)
  ite_done ((p, Truth) ∷ []) s a c h = absurd (cc)
  ite_done ((p, Truth) ∷ x ∷ []) s a c h = absurd (cc)
  ite_done ((p, Truth) ∷ x ∷ y ∷ []) s a c h =
      let o = common_one (x.1 ∷ y.1 ∷ []) s (chosen_is (common (x.1 ∷ y.1 ∷ [])) s h) in
      let i = wide_here p Truth Truth a.0 refl in
      let j = wide_here x.0 x.1 s a.1.0 o.0 in
      let k = wide_here y.0 y.1 s a.1.1.0 o.1.0 in
      record { wide = as_wide _ _ (sort_bits es s) s (ite_wide lines p x.0 y.0 (sort_bits es s) j) refl; can = λ room. ite_can lines p x.0 y.0 (sort_bits es s) i j k room }
  ite_done ((p, Truth) ∷ x ∷ y ∷ z ∷ xs) s a c h = absurd (omega (arith, exactly (suc (suc (suc (suc (length (sorts xs)))))) 3 c))

  concat_done : (xs : List (ℕ × Sort)) (s : Sort) → AllStand xs → eqb (length (sorts xs)) 2 ≡ true → fitting op.Concat (sorts xs) ≡ Ok s → Operated op.Concat (places xs) s
  concat_done [] s a c h = absurd (cc)
  concat_done (x ∷ []) s a c h = absurd (cc)
  concat_done ((p, Truth) ∷ y ∷ xs) s a c h = absurd (cc)
  concat_done ((p, Choice v) ∷ y ∷ xs) s a c h = absurd (cc)
  concat_done ((p, Bits v) ∷ (q, Truth) ∷ xs) s a c h = absurd (cc)
  concat_done ((p, Bits v) ∷ (q, Choice w) ∷ xs) s a c h = absurd (cc)
  concat_done ((p, Bits v) ∷ (q, Bits w) ∷ []) s a c h =
      let k = widened_is (v + w) s h in
      let i = wide_here p (Bits v) (Bits v) a.0 refl in
      let j = wide_here q (Bits w) (Bits w) a.1.0 refl in
      let low : 1 ≤ v + w = omega (arith, i.low) in
      record { wide = as_wide _ _ (v + w) s (binary_wide two.Concat lines p q v w i j low k.0) (ap (sort_bits es) k.1); can = λ room. binary_can two.Concat lines p q v w i j k.0 low k.0 room }
  concat_done (x ∷ y ∷ z ∷ xs) s a c h = absurd (omega (arith, exactly (suc (suc (suc (length (sorts xs))))) 2 c))

  extract_done : (high low : ℕ) (xs : List (ℕ × Sort)) (s : Sort) → AllStand xs → eqb (length (sorts xs)) 1 ≡ true → fitting (op.Extract high low) (sorts xs) ≡ Ok s → Operated (op.Extract high low) (places xs) s
  extract_done high low [] s a c h = absurd (cc)
  extract_done high low ((p, Truth) ∷ []) s a c h = absurd (cc)
  extract_done high low ((p, Choice v) ∷ []) s a c h = absurd (cc)
  extract_done high low ((p, Bits w) ∷ []) s a c h =
      let k = extracted high low w s h in
      let i = wide_here p (Bits w) (Bits w) a.0 refl in
      record { wide = as_wide _ _ _ s (slice_wide high low lines p w i k.0 k.1) (ap (sort_bits es) k.2); can = λ room. slice_can high low lines p w i k.0 k.1 room }
  extract_done high low (x ∷ y ∷ xs) s a c h = absurd (omega (arith, exactly (suc (suc (length (sorts xs)))) 1 c))

  zeros_done : (i : ℕ) (xs : List (ℕ × Sort)) (s : Sort) → AllStand xs → eqb (length (sorts xs)) 1 ≡ true → fitting (op.ZeroExtend i) (sorts xs) ≡ Ok s → Operated (op.ZeroExtend i) (places xs) s
  zeros_done i [] s a c h = absurd (cc)
  zeros_done i ((p, Truth) ∷ []) s a c h = absurd (cc)
  zeros_done i ((p, Choice v) ∷ []) s a c h = absurd (cc)
  zeros_done i ((p, Bits w) ∷ []) s a c h =
      let k = widened_is (w + i) s h in
      let j = wide_here p (Bits w) (Bits w) a.0 refl in
      record { wide = as_wide _ _ (w + i) s (zeros_wide i lines p w j k.0) (ap (sort_bits es) k.1); can = λ room. zeros_can i lines p w j k.0 room }
  zeros_done i (x ∷ y ∷ xs) s a c h = absurd (omega (arith, exactly (suc (suc (length (sorts xs)))) 1 c))

  signs_done : (i : ℕ) (xs : List (ℕ × Sort)) (s : Sort) → AllStand xs → eqb (length (sorts xs)) 1 ≡ true → fitting (op.SignExtend i) (sorts xs) ≡ Ok s → Operated (op.SignExtend i) (places xs) s
  signs_done i [] s a c h = absurd (cc)
  signs_done i ((p, Truth) ∷ []) s a c h = absurd (cc)
  signs_done i ((p, Choice v) ∷ []) s a c h = absurd (cc)
  signs_done i ((p, Bits w) ∷ []) s a c h =
      let k = widened_is (w + i) s h in
      let j = wide_here p (Bits w) (Bits w) a.0 refl in
      record { wide = as_wide _ _ (w + i) s (signs_wide i lines p w j k.0) (ap (sort_bits es) k.1); can = λ room. signs_can i lines p w j k.0 room }
  signs_done i (x ∷ y ∷ xs) s a c h = absurd (omega (arith, exactly (suc (suc (length (sorts xs)))) 1 c))

  unary_done : (u : Unary) (xs : List (ℕ × Sort)) (s : Sort) → AllStand xs → eqb (length (sorts xs)) 1 ≡ true → fitting (op.BvUnary u) (sorts xs) ≡ Ok s → Operated (op.BvUnary u) (places xs) s
  unary_done u [] s a c h = absurd (cc)
  unary_done u ((p, Truth) ∷ []) s a c h = absurd (cc)
  unary_done u ((p, Choice v) ∷ []) s a c h = absurd (cc)
  unary_done u ((p, Bits w) ∷ []) s a c h =
      let k = taken (is_negation u) (Ok (Bits w)) (M 5) s h in
      let e = negation_keeps u w k.0 in
      let i = wide_here p (Bits w) (Bits w) a.0 refl in
      record { wide = as_wide _ _ w s (unary_wide u lines p w i e) (ap (sort_bits es) (sym (same_ok (Bits w) s k.1))); can = λ room. unary_can u lines p w i e room }
  unary_done u (x ∷ y ∷ xs) s a c h = absurd (omega (arith, exactly (suc (suc (length (sorts xs)))) 1 c))

  calculated_done : (b : Binary) (w : ℕ) (xs : List (ℕ × Sort)) (s : Sort) → AllStand xs → AllOne (Bits w) (sorts xs) → Calculated b w s → cond (is_chain b) (nat_le 2 (length (sorts xs))) (eqb (length (sorts xs)) 2) ≡ true → Operated (op.BvBinary b) (places xs) s
  calculated_done b w xs s a o (arithmetic c i e) f =
      let fits = arithmetic_fits b w i in
      let k : Keeps b w = record { fits = fits.0; width = fits.1 } in
      let all = all_wide (Bits w) xs o a in
      record {
        wide = as_wide _ _ w s (chain_wide b w k lines (places xs) (omega (arith, places_long xs, some (is_chain b) (length (sorts xs)) f)) all) (ap (sort_bits es) e);
        can = λ room. chain_can b w k lines (places xs) all room;
      }
    where
      some : (t : Bool) (n : ℕ) → cond t (nat_le 2 n) (eqb n 2) ≡ true → 1 ≤ n
      some true n h = omega (arith, at_least 2 n h)
      some false n h = omega (arith, exactly n 2 h)
  calculated_done b w xs s a o (comparison c e) f = both xs a o (comparison_count b (length (sorts xs)) c f)
    where
      both : (xs : List (ℕ × Sort)) → AllStand xs → AllOne (Bits w) (sorts xs) → length (sorts xs) ≡ 2 → Operated (op.BvBinary b) (places xs) s
      both [] a o n = absurd (omega (arith, n))
      both (x ∷ []) a o n = absurd (omega (arith, n))
      both (x ∷ y ∷ []) a o n =
          let k = comparison_keeps b w c in
          let i = wide_here x.0 x.1 (Bits w) a.0 o.0 in
          let j = wide_here y.0 y.1 (Bits w) a.1.0 o.1.0 in
          record { wide = as_wide _ _ 1 s (compared_wide b lines x.0 y.0 w k i j) (ap (sort_bits es) e); can = λ room. compared_can b lines x.0 y.0 w k i j room }
      both (x ∷ y ∷ z ∷ xs) a o n = absurd (omega (arith, n))

  fitting_done : (o : TermOp) (xs : List (ℕ × Sort)) (s : Sort) → AllStand xs → count_fits o (length (sorts xs)) ≡ true → fitting o (sorts xs) ≡ Ok s → Operated o (places xs) s
  fitting_done op.Not xs s a c h = not_done xs s a c h
  fitting_done op.And xs s a c h =
      let r = truth_chain two.And xs s (record { fits = refl; width = refl }) a (at_least 1 (length (sorts xs)) c) h in record { wide = r.wide; can = r.can }
  fitting_done op.Or xs s a c h =
      let r = truth_chain two.Or xs s (record { fits = refl; width = refl }) a (at_least 1 (length (sorts xs)) c) h in record { wide = r.wide; can = r.can }
  fitting_done op.Xor xs s a c h =
      let l : 1 ≤ length (sorts xs) = omega (arith, at_least 2 (length (sorts xs)) c) in
      let r = truth_chain two.Xor xs s (record { fits = refl; width = refl }) a l h in record { wide = r.wide; can = r.can }
  fitting_done op.Implies xs s a c h = implies_done xs s a c h
  fitting_done op.Equal xs s a c h = equal_done xs s a c h
  fitting_done op.Distinct xs s a c h = distinct_done xs s a c h
  fitting_done op.Ite xs s a c h = ite_done xs s a c h
  fitting_done op.Concat xs s a c h = concat_done xs s a c h
  fitting_done (op.Extract high low) xs s a c h = extract_done high low xs s a c h
  fitting_done (op.ZeroExtend i) xs s a c h = zeros_done i xs s a c h
  fitting_done (op.SignExtend i) xs s a c h = signs_done i xs s a c h
  fitting_done (op.BvUnary u) xs s a c h = unary_done u xs s a c h
  fitting_done (op.BvBinary b) xs s a c h =
      let k = calculated_is b (common (sorts xs)) s h in
      calculated_done b k.0 xs s a (common_one (sorts xs) (Bits k.0) k.1) k.2 c

  record Zipped (ps : List ℕ) (ss : List Sort) : Type 0 where
    list : List (ℕ × Sort)
    places_are : places list ≡ ps
    sorts_are : sorts list ≡ ss
    stand : AllStand list

  zipped : (ps : List ℕ) (ss : List Sort) → AreAsWide es lines ps ss → Zipped ps ss
  zipped [] [] a = record { list = []; places_are = refl; sorts_are = refl; stand = tt }
  zipped [] (s ∷ ss) a = absurd a
  zipped (p ∷ ps) [] a = absurd a
  zipped (p ∷ ps) (s ∷ ss) a =
      let r = zipped ps ss a.1 in
      record { list = (p, s) ∷ r.list; places_are = ap (λ qs. p ∷ qs) r.places_are; sorts_are = ap (λ ts. s ∷ ts) r.sorts_are; stand = (a.0, r.stand) }

  pub operated : (o : TermOp) (ps : List ℕ) (ss : List Sort) (s : Sort) → AreAsWide es lines ps ss → op_sort o ss ≡ Ok s → Operated o ps s
  operated o ps ss s a h =
      let r = zipped ps ss a in
      let p = taken (count_fits o (length (sorts r.list))) (fitting o (sorts r.list)) (M 12) s (ap (op_sort o) r.sorts_are ∙ h) in
      subst (λ qs. Operated o qs s) r.places_are (fitting_done o r.list s r.stand p.0 p.1)
