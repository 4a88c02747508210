-- When conjunctions and equations hold.
use Rattle.std.proofs.Common.{◌≡◌, ℕ, true, ◌==◌, ◌&&◌, List, [], ◌∷◌, refl, sym, ap, ◌∙◌}
use Rattle.std.specs.List.{AllByRecursion, list_all}
use Rattle.std.proofs.lemmas.Bool.{and_from, and_parts, eq-eqb, eqb-true}
use Rattle.word_core.specs.Words.{BitVector}
use Rattle.moxi_terms.specs.declared.data.Datum.{Datum}
use Rattle.moxi_terms.specs.declared.data.Datum.TheVariants.{Truth, Bits, Constant}
use Rattle.moxi_terms.specs.Operators.{same, truth_of}
use Rattle.moxi_terms.specs.Tree.{Tree, trees_of}
use Rattle.moxi_terms.specs.Value.{Calls, Values, term_value, term_values}
use Rattle.moxi_scripts.specs.Behaviour.{Holds}
use Rattle.moxi_terms.specs.Applications.{equal_term, all_term}

is_truth : (d : Datum) → truth_of d ≡ true → d ≡ Truth true
is_truth (Truth b) h = ap Truth h
is_truth (Bits w) h = absurd (cc)
is_truth (Constant n i) h = absurd (cc)

module _ (calls : Calls) (now later : Values) where
  list_holds : (ts : List Tree) → AllByRecursion (λ t. Holds calls now later t) ts → list_all truth_of (term_values calls now later [] (trees_of ts)) ≡ true
  list_holds [] h = refl
  list_holds (t ∷ ts) h = and_from (truth_of (term_value calls now later [] t)) (list_all truth_of (term_values calls now later [] (trees_of ts))) (ap truth_of h.0) (list_holds ts h.1)

  list_each : (ts : List Tree) → list_all truth_of (term_values calls now later [] (trees_of ts)) ≡ true → AllByRecursion (λ t. Holds calls now later t) ts
  list_each [] h = tt
  list_each (t ∷ ts) h =
      let p = and_parts (truth_of (term_value calls now later [] t)) (list_all truth_of (term_values calls now later [] (trees_of ts))) h in
      (is_truth (term_value calls now later [] t) p.0, list_each ts p.1)

  pub all_hold : (ts : List Tree) → AllByRecursion (λ t. Holds calls now later t) ts → Holds calls now later (all_term ts)
  all_hold [] h = refl
  all_hold (t ∷ []) h = h.0
  all_hold (t ∷ u ∷ ts) h = ap Truth (list_holds (t ∷ u ∷ ts) h)

  pub each_holds : (ts : List Tree) → Holds calls now later (all_term ts) → AllByRecursion (λ t. Holds calls now later t) ts
  each_holds [] h = tt
  each_holds (t ∷ []) h = (h, tt)
  each_holds (t ∷ u ∷ ts) h = list_each (t ∷ u ∷ ts) (ap truth_of h)

  equal_value : (a b : Tree) (x y : BitVector) → term_value calls now later [] a ≡ Bits x → term_value calls now later [] b ≡ Bits y
      → term_value calls now later [] (equal_term a b) ≡ Truth (((x.width == y.width) && (x.bits == y.bits)) && true)
  equal_value a b x y h k = ap (λ d. Truth (same d (term_value calls now later [] b) && true)) h ∙ ap (λ d. Truth (same (Bits x) d && true)) k

  pub equal_holds : (a b : Tree) (x y : BitVector) → term_value calls now later [] a ≡ Bits x → term_value calls now later [] b ≡ Bits y → x ≡ y → Holds calls now later (equal_term a b)
  equal_holds a b x y h k e =
      equal_value a b x y h k
      ∙ ap Truth (and_from ((x.width == y.width) && (x.bits == y.bits)) true (and_from (x.width == y.width) (x.bits == y.bits) (eq-eqb x.width y.width (ap (λ (w : BitVector). w.width) e)) (eq-eqb x.bits y.bits (ap (λ (w : BitVector). w.bits) e))) refl)

  pub holds_equal : (a b : Tree) (x y : BitVector) → term_value calls now later [] a ≡ Bits x → term_value calls now later [] b ≡ Bits y → Holds calls now later (equal_term a b) → x ≡ y
  holds_equal a b x y h k e =
      let t : ((x.width == y.width) && (x.bits == y.bits)) && true ≡ true = ap truth_of (sym (equal_value a b x y h k) ∙ e) in
      let p = and_parts ((x.width == y.width) && (x.bits == y.bits)) true t in
      let q = and_parts (x.width == y.width) (x.bits == y.bits) p.0 in
      same_word x.width y.width x.bits y.bits (eqb-true x.width y.width q.0) (eqb-true x.bits y.bits q.1)
    where
      same_word : (w v m n : ℕ) → w ≡ v → m ≡ n → (let r : BitVector = record { width = w; bits = m } in r) ≡ record { width = v; bits = n }
      same_word w v m n f g = ap (λ j. let r : BitVector = record { width = j; bits = m } in r) f ∙ ap (λ j. let r : BitVector = record { width = v; bits = j } in r) g
