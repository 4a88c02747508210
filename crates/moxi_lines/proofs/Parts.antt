-- The constraints of parts hold exactly where their formulas are true.
use Rattle.std.proofs.Common.{◌≡◌, ℕ, ◌<◌, ◌≤◌, ◌^◌, Bool, true, false, not, ◌&&◌, ◌||◌, cond, List, [], ◌∷◌, length, refl, sym, ap, ◌∙◌, subst, arith, inl, inr, ◌⊎◌, zero, suc}
use Rattle.std.specs.List.{AllByRecursion}
use Rattle.std.proofs.Math.Bool.{or-true}
use Rattle.std.proofs.lemmas.Bool.{and_parts, and_from}
use Rattle.word_core.specs.Words.{BitVector, IsWord}
use Rattle.word_core.specs.Table.{binary_of, bit_of}
use Rattle.word_core.specs.declared.kinds.Binary.{Binary}
use Rattle.word_core.specs.declared.kinds.Binary.TheVariants as two
use Rattle.btor_tree.specs.declared.lines.Line.{Line}
use Rattle.btor_tree.specs.Fits.{greatest_id}
use Rattle.btor_tree.specs.Frame.{Meets, true_word, word_at}
use Rattle.btor_tree.specs.Sharing.{GrowsByShared}
use Rattle.btor_tree.proofs.Widths.{wide}
use Rattle.moxi_terms.specs.declared.data.Sort.TheVariants.{Truth}
use Rattle.moxi_terms.specs.declared.data.Datum.TheVariants as datum
use Rattle.moxi_terms.specs.Sorted.{AreFunctions}
use Rattle.moxi_terms.specs.Tree.{Tree, apply, binding, bound, call, constant, sorts_of, variable}
use Rattle.moxi_terms.specs.Value.{Values, calls_upto, term_value}
use Rattle.moxi_terms.proofs.ValueLaws.{all_suit, value_sorted}
use Rattle.moxi_flat.specs.FlatSorts.{IsFlatTruth, PartIsSorted}
use Rattle.moxi_flat.specs.FlatSystem.{PlainFlatSystem, PlainPart}
use Rattle.moxi_lines.specs.Codes.{code_of}
use Rattle.moxi_lines.specs.TermLines.{Built, with_binary}
use Rattle.moxi_lines.specs.TermLaws.{AreNumbered, HaveCodes, Makes, VariablesAreRepresented}
use Rattle.moxi_lines.proofs.Growing.{grown_long, grown_meets, grown_then}
use Rattle.moxi_lines.proofs.Steps.{WordAt, binary_step}
use Rattle.moxi_lines.proofs.Chains.{binary_grows}
use Rattle.moxi_lines.proofs.Words.{bit, code_truth, implies_bit, or_bit}
use Rattle.moxi_lines.proofs.Terms.{calls_grow, term_grows, whole_made}
use Rattle.moxi_lines.specs.Lines.{first_place, input_place, is_true_term, state_place, with_constraint, with_formula, with_init, with_inv, with_part, with_parts, with_step, with_trans}
use Rattle.moxi_lines.specs.Constraints.{Constrains, VariablesAreThere, is_true, part_holds, parts_hold}
use Rattle.moxi_lines.proofs.Extending.{Extends, Pushed, constraint_push, extends_long, extends_meets, extends_none, extends_then, extends_variables, extends_width, quietly}

true_bit : (b : Bool) → bit b ≡ true_word → b ≡ true
true_bit true h = refl
true_bit false h = absurd (omega (arith, ap (λ (w : BitVector). w.bits) h))

bit_true : (b : Bool) → b ≡ true → bit b ≡ true_word
bit_true b h = ap bit h

bit_from : (n : ℕ) → n < 2 → (n ≡ bit_of true) ⊎ (n ≡ bit_of false)
bit_from zero h = inr refl
bit_from (suc zero) h = inl refl
bit_from (suc (suc n)) h = absurd (omega (arith, h))

-- a word of one bit
some_bit : (x : BitVector) → IsWord x → x.width ≡ 1 → (b : Bool) × (x ≡ bit b)
some_bit x w e =
    let small : x.bits < 2 = subst (λ n. x.bits < 2 ^ n) e w.2 in
    let one : x ≡ record { width = 1; bits = x.bits } = ap (λ n. let y : BitVector = record { width = n; bits = x.bits } in y) e in
    elim (bit_from x.bits small) [
      | inl h ↦ (true, one ∙ ap (λ n. let y : BitVector = record { width = 1; bits = n } in y) h)
      | inr h ↦ (false, one ∙ ap (λ n. let y : BitVector = record { width = 1; bits = n } in y) h)
    ]

is_true_means : (t : Tree) → is_true_term t ≡ true → t ≡ constant (datum.Truth true)
is_true_means (constant (datum.Truth true)) h = refl
is_true_means (constant (datum.Truth false)) h = absurd (cc)
is_true_means (constant (datum.Bits v)) h = absurd (cc)
is_true_means (constant (datum.Constant n i)) h = absurd (cc)
is_true_means (variable v p) h = absurd (cc)
is_true_means (bound i) h = absurd (cc)
is_true_means (apply o ts) h = absurd (cc)
is_true_means (binding names ts t) h = absurd (cc)
is_true_means (call n ts) h = absurd (cc)

-- nothing is added for a formula that is true
stays : (row : List BitVector) (known : Bool) (lines : List Line) (b : Bool) → AreNumbered lines → b ≡ true → Constrains row known lines lines b
stays row known lines b n e =
    let g = extends_none lines in
    record { more = g.more; extends = g.is; numbered = n; constraints = λ k m. (λ h. (h, e), λ h. h.0) }

chosen : (row : List BitVector) (known c : Bool) (lines new : List Line) (b : Bool) → AreNumbered lines → (c ≡ true → b ≡ true) → (c ≡ false → Constrains row known lines new b) → Constrains row known lines (cond c lines new) b
chosen row known true lines new b n e f = stays row known lines b n (e refl)
chosen row known false lines new b n e f = f refl

-- a constraint on a line that was made
from_pushed : (row : List BitVector) (known : Bool) (lines : List Line) (m : Built) (b : Bool) → GrowsByShared lines m.0 → Pushed row lines m → (known ≡ true → Meets m.0 row → word_at row m.1 ≡ bit b) → Constrains row known lines (with_constraint m) b
from_pushed row known lines m b g p word =
    let x = extends_then lines m.0 (with_constraint m) (quietly lines m.0 g) p.extends in
    record {
      more = x.more;
      extends = x.is;
      numbered = p.numbered;
      constraints = λ k met.
          let here = extends_meets m.0 (with_constraint m) row p.extends met in
          (λ h. let q = p.held h in (q.0, true_bit b (sym (word k here) ∙ q.1)), λ h. p.holds h.0 (word k here ∙ bit_true b h.1));
    }

shorter : (m : Built) → length (with_constraint m) < greatest_id → length m.0 < greatest_id
shorter m h = let e : length m.0 ≤ length (with_constraint m) = extends_long m.0 (with_constraint m) (record { more = _; is = refl }) in omega (arith, e, h)

-- one after another
both_constrain : (row : List BitVector) (known : Bool) (a b c : List Line) (x y : Bool) → Constrains row known a b x → Constrains row known b c y → Constrains row known a c (x && y)
both_constrain row known a b c x y g h =
    let e = extends_then a b c (record { more = g.more; is = g.extends }) (record { more = h.more; is = h.extends }) in
    record {
      more = e.more;
      extends = e.is;
      numbered = h.numbered;
      constraints = λ k met.
          let p = h.constraints k met in
          let q = g.constraints k (extends_meets b c row (record { more = h.more; is = h.extends }) met) in (
            λ held. let r = p.0 held in let s = q.0 r.0 in (s.0, and_from x y s.1 r.1),
            λ held. let r = and_parts x y held.1 in p.1 (q.1 (held.0, r.0), r.1),
          );
    }

module _ (f : PlainFlatSystem) (codes : HaveCodes f.scope.enumerations) (functions : AreFunctions f.scope.enumerations f.scope.functions) (row : List BitVector) (known both first : Bool) (inputs : List ℕ) (before now : Values) where
  abbrev now_m : List Line → Tree → Built
  now_m lines t = with_formula f.scope inputs lines t

  abbrev init_g : List Line → Tree → Built
  init_g lines t = with_binary two.Implies (now_m lines t).0 first_place (now_m lines t).1

  abbrev step_m : List Line → Tree → Built
  step_m lines t = with_step f.scope inputs lines t

  abbrev trans_g : List Line → Tree → Built
  trans_g lines t = with_binary two.Or (step_m lines t).0 first_place (step_m lines t).1

  later_there : (a b : List Line) → Extends a b → VariablesAreThere f row known both first inputs before now a → VariablesAreThere f row known both first inputs before now b
  later_there a b g t =
      record {
        first_width = extends_width a b first_place 1 (omega arith) g t.first_width;
        first_word = λ m. t.first_word (extends_meets a b row g m);
        later = t.later;
        now_known = extends_variables _ row known a b _ _ now g t.now_known;
        now_both = extends_variables _ row both a b _ _ now g t.now_both;
        before_both = extends_variables _ row both a b _ _ before g t.before_both;
      }

  now_made : (lines : List Line) (t : Tree) → AreNumbered lines → VariablesAreThere f row known both first inputs before now lines → IsFlatTruth f t → length (with_formula f.scope inputs lines t).0 < greatest_id
      → Makes f.scope.enumerations row known lines (with_formula f.scope inputs lines t) Truth (term_value (calls_upto f.scope.functions (length f.scope.functions)) now now [] t)
  now_made lines t n v h room =
      whole_made f.scope.enumerations row known codes f.scope.functions functions (sorts_of f.variables) t Truth h lines n (input_place inputs) (input_place inputs) now now v.now_known v.now_known room

  step_made : (lines : List Line) (t : Tree) → AreNumbered lines → VariablesAreThere f row known both first inputs before now lines → IsFlatTruth f t → length (with_step f.scope inputs lines t).0 < greatest_id
      → Makes f.scope.enumerations row both lines (with_step f.scope inputs lines t) Truth (term_value (calls_upto f.scope.functions (length f.scope.functions)) before now [] t)
  step_made lines t n v h room =
      whole_made f.scope.enumerations row both codes f.scope.functions functions (sorts_of f.variables) t Truth h lines n (state_place inputs) (input_place inputs) before now v.before_both v.now_both room

  is_truth : (a b : Values) (t : Tree) (lines : List Line) (k l : Bool) (p q : ℕ → ℕ) → VariablesAreRepresented f.scope.enumerations row k lines (sorts_of f.variables) p a → VariablesAreRepresented f.scope.enumerations row l lines (sorts_of f.variables) q b → IsFlatTruth f t
      → code_of f.scope.enumerations (term_value (calls_upto f.scope.functions (length f.scope.functions)) a b [] t) ≡ bit (is_true f.scope a b t)
  is_truth a b t lines k l p q v w h =
      code_truth f.scope.enumerations _ (value_sorted f.scope.enumerations f.scope.functions _ (all_suit f.scope.enumerations f.scope.functions functions) (sorts_of f.variables) a b (record { each = v.sorted }) (record { each = w.sorted }) [] [] t Truth tt h)

  inv_constrains : (lines : List Line) (t : Tree) → AreNumbered lines → VariablesAreThere f row known both first inputs before now lines → IsFlatTruth f t → length (with_inv f.scope inputs lines t) < greatest_id
      → Constrains row known lines (with_inv f.scope inputs lines t) (is_true f.scope now now t)
  inv_constrains lines t n v h room =
      chosen row known (is_true_term t) lines (with_constraint (now_m lines t)) (is_true f.scope now now t) n (λ e. ap (λ u. is_true f.scope now now u) (is_true_means t e))
      (λ e.
      let few = subst (λ c. length (cond c lines (with_constraint (now_m lines t))) < greatest_id) e room in
      let made = now_made lines t n v h (shorter (now_m lines t) few) in
      from_pushed row known lines (now_m lines t) (is_true f.scope now now t) made.grows (constraint_push row lines (now_m lines t) made.grows made.numbered made.stands.width (shorter (now_m lines t) few))
      (λ k met. made.stands.word k met ∙ is_truth now now t lines known known _ _ v.now_known v.now_known h))

  gate_small : (b : Binary) (m : Built) → length (with_binary b m.0 first_place m.1).0 < greatest_id → length m.0 < greatest_id
  gate_small b m h = omega (arith, h, grown_long m.0 (with_binary b m.0 first_place m.1).0 (binary_grows b m.0 first_place m.1))

  first_at : (lines : List Line) (k : Bool) → VariablesAreThere f row known both first inputs before now lines → WordAt row k lines first_place 1 (bit first)
  first_at lines k v = record { width = v.first_width; word = λ e m. v.first_word m }

  init_constrains : (lines : List Line) (t : Tree) → AreNumbered lines → VariablesAreThere f row known both first inputs before now lines → IsFlatTruth f t → length (with_init f.scope inputs lines t) < greatest_id
      → Constrains row known lines (with_init f.scope inputs lines t) (not first || is_true f.scope now now t)
  init_constrains lines t n v h room =
      chosen row known (is_true_term t) lines (with_constraint (init_g lines t)) (not first || is_true f.scope now now t) n (λ e. ap (λ u. not first || is_true f.scope now now u) (is_true_means t e) ∙ or-true (not first))
      (λ e.
      let few = shorter (init_g lines t) (subst (λ c. length (cond c lines (with_constraint (init_g lines t))) < greatest_id) e room) in
      let made = now_made lines t n v h (gate_small two.Implies (now_m lines t) few) in
      let there = later_there lines (now_m lines t).0 (quietly lines (now_m lines t).0 made.grows) v in
      let at : WordAt row known (now_m lines t).0 (now_m lines t).1 1 (bit (is_true f.scope now now t)) = record { width = made.stands.width; word = λ k met. made.stands.word k met ∙ is_truth now now t lines known known _ _ v.now_known v.now_known h } in
      let one : 1 ≤ 1 = omega arith in
      let s = binary_step row known two.Implies (now_m lines t).0 first_place (now_m lines t).1 1 1 (bit first) (bit (is_true f.scope now now t)) made.numbered one one (first_at (now_m lines t).0 known there) at (refl, refl) one (omega arith) few in
      let grows = grown_then lines (now_m lines t).0 (init_g lines t).0 made.grows s.grows in
      from_pushed row known lines (init_g lines t) (not first || is_true f.scope now now t) grows (constraint_push row lines (init_g lines t) grows s.numbered s.at.width few)
      (λ k met. s.at.word k met ∙ implies_bit first (is_true f.scope now now t)))

  trans_constrains : (lines : List Line) (t : Tree) → AreNumbered lines → VariablesAreThere f row known both first inputs before now lines → IsFlatTruth f t → length (with_trans f.scope inputs lines t) < greatest_id
      → Constrains row known lines (with_trans f.scope inputs lines t) (first || is_true f.scope before now t)
  trans_constrains lines t n v h room =
      chosen row known (is_true_term t) lines (with_constraint (trans_g lines t)) (first || is_true f.scope before now t) n (λ e. ap (λ u. first || is_true f.scope before now u) (is_true_means t e) ∙ or-true first)
      (λ e.
      let few = shorter (trans_g lines t) (subst (λ c. length (cond c lines (with_constraint (trans_g lines t))) < greatest_id) e room) in
      let made = step_made lines t n v h (gate_small two.Or (step_m lines t) few) in
      let there = later_there lines (step_m lines t).0 (quietly lines (step_m lines t).0 made.grows) v in
      let x = word_at row (step_m lines t).1 in
      let at : WordAt row known (step_m lines t).0 (step_m lines t).1 1 x = record { width = made.stands.width; word = λ k met. refl } in
      let one : 1 ≤ 1 = omega arith in
      let s = binary_step row known two.Or (step_m lines t).0 first_place (step_m lines t).1 1 1 (bit first) x made.numbered one one (first_at (step_m lines t).0 known there) at refl one (omega arith) few in
      let grows = grown_then lines (step_m lines t).0 (trans_g lines t).0 made.grows s.grows in
      from_pushed row known lines (trans_g lines t) (first || is_true f.scope before now t) grows (constraint_push row lines (trans_g lines t) grows s.numbered s.at.width few)
      (λ k met.
      let here = grown_meets (step_m lines t).0 (trans_g lines t).0 row s.grows met in
      let w = wide (step_m lines t).0 row made.numbered.fit here (step_m lines t).1 (subst (λ i. 1 ≤ i) (sym made.stands.width) one) in
      s.at.word k met ∙ gate first x (some_bit x w.0 (w.1 ∙ made.stands.width))
      (λ e2. made.stands.word (v.later e2 k) here ∙ is_truth before now t lines both both _ _ v.before_both v.now_both h)))
    where
      gate : (a : Bool) (x : BitVector) → (b : Bool) × (x ≡ bit b) → (a ≡ false → x ≡ bit (is_true f.scope before now t)) → binary_of two.Or (bit a) x ≡ bit (a || is_true f.scope before now t)
      gate true x b w = ap (binary_of two.Or (bit true)) b.1 ∙ or_bit true b.0
      gate false x b w = ap (binary_of two.Or (bit false)) (w refl) ∙ or_bit false (is_true f.scope before now t)

  init_extends : (lines : List Line) (t : Tree) → Extends lines (with_init f.scope inputs lines t)
  init_extends lines t = go (is_true_term t)
    where
      grows : GrowsByShared lines (init_g lines t).0
      grows = grown_then lines (now_m lines t).0 (init_g lines t).0 (term_grows _ _ (calls_grow _ f.scope.functions (length f.scope.functions)) (input_place inputs) (input_place inputs) [] lines t) (binary_grows two.Implies (now_m lines t).0 first_place (now_m lines t).1)

      go : (c : Bool) → Extends lines (cond c lines (with_constraint (init_g lines t)))
      go true = extends_none lines
      go false = extends_then lines (init_g lines t).0 (with_constraint (init_g lines t)) (quietly lines (init_g lines t).0 grows) (record { more = _; is = refl })

  trans_extends : (lines : List Line) (t : Tree) → Extends lines (with_trans f.scope inputs lines t)
  trans_extends lines t = go (is_true_term t)
    where
      grows : GrowsByShared lines (trans_g lines t).0
      grows = grown_then lines (step_m lines t).0 (trans_g lines t).0 (term_grows _ _ (calls_grow _ f.scope.functions (length f.scope.functions)) (state_place inputs) (input_place inputs) [] lines t) (binary_grows two.Or (step_m lines t).0 first_place (step_m lines t).1)

      go : (c : Bool) → Extends lines (cond c lines (with_constraint (trans_g lines t)))
      go true = extends_none lines
      go false = extends_then lines (trans_g lines t).0 (with_constraint (trans_g lines t)) (quietly lines (trans_g lines t).0 grows) (record { more = _; is = refl })

  inv_extends : (lines : List Line) (t : Tree) → Extends lines (with_inv f.scope inputs lines t)
  inv_extends lines t = go (is_true_term t)
    where
      go : (c : Bool) → Extends lines (cond c lines (with_constraint (now_m lines t)))
      go true = extends_none lines
      go false =
          extends_then lines (now_m lines t).0 (with_constraint (now_m lines t)) (quietly lines (now_m lines t).0 (term_grows _ _ (calls_grow _ f.scope.functions (length f.scope.functions)) (input_place inputs) (input_place inputs) [] lines t)) (record { more = _; is = refl })

  part_extends : (lines : List Line) (p : PlainPart) → Extends lines (with_part f.scope inputs lines p)
  part_extends lines p =
      let a = with_init f.scope inputs lines p.init in
      let b = with_trans f.scope inputs a p.trans in
      extends_then lines b (with_part f.scope inputs lines p) (extends_then lines a b (init_extends lines p.init) (trans_extends a p.trans)) (inv_extends b p.inv)

  pub parts_extend : (lines : List Line) (ps : List PlainPart) → Extends lines (with_parts f.scope inputs lines ps)
  parts_extend lines [] = extends_none lines
  parts_extend lines (p ∷ ps) =
      let a = with_part f.scope inputs lines p in
      extends_then lines a (with_parts f.scope inputs a ps) (part_extends lines p) (parts_extend a ps)

  part_constrains : (lines : List Line) (p : PlainPart) → AreNumbered lines → VariablesAreThere f row known both first inputs before now lines → PartIsSorted f p → length (with_part f.scope inputs lines p) < greatest_id
      → Constrains row known lines (with_part f.scope inputs lines p) (part_holds f.scope first before now p)
  part_constrains lines p n v h room =
      let a = with_init f.scope inputs lines p.init in
      let b = with_trans f.scope inputs a p.trans in
      let c = with_inv f.scope inputs b p.inv in
      let few_b : length b < greatest_id = omega (arith, room, extends_long b c (inv_extends b p.inv)) in
      let few_a : length a < greatest_id = omega (arith, few_b, extends_long a b (trans_extends a p.trans)) in
      let x = init_constrains lines p.init n v h.init few_a in
      let va = later_there lines a (init_extends lines p.init) v in
      let y = trans_constrains a p.trans x.numbered va h.trans few_b in
      let vb = later_there a b (trans_extends a p.trans) va in
      let z = inv_constrains b p.inv y.numbered vb h.inv room in
      both_constrain row known lines a c _ _ x (both_constrain row known a b c _ _ y z)

  pub parts_constrain : (ps : List PlainPart) → AllByRecursion (PartIsSorted f) ps → (lines : List Line) → AreNumbered lines → VariablesAreThere f row known both first inputs before now lines → length (with_parts f.scope inputs lines ps) < greatest_id
      → Constrains row known lines (with_parts f.scope inputs lines ps) (parts_hold f.scope first before now ps)
  parts_constrain [] h lines n v room = stays row known lines true n refl
  parts_constrain (p ∷ ps) h lines n v room =
      let a = with_part f.scope inputs lines p in
      let few : length a < greatest_id = omega (arith, room, extends_long a (with_parts f.scope inputs a ps) (parts_extend a ps)) in
      let x = part_constrains lines p n v h.0 few in
      let y = parts_constrain ps h.1 a x.numbered (later_there lines a (part_extends lines p) v) room in
      both_constrain row known lines a (with_parts f.scope inputs a ps) _ _ x y
