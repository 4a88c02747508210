-- Formulas of one step, and the conditions of a query.
use Rattle.std.proofs.Common.{◌≡◌, ℕ, ◌<◌, Bool, true, not, ◌&&◌, ◌||◌, List, [], ◌∷◌, ◌++◌, length, map, refl, sym, ap, ◌∙◌, subst, arith, append_assoc}
use Rattle.std.specs.Prelude.{codes}
use Rattle.std.specs.List.{AllByRecursion, AllZip, list_all}
use Rattle.std.proofs.lemmas.List.{append-nil}
use Rattle.std.proofs.lemmas.List.Folds.{list_all-append, list_all-map}
use Rattle.word_core.specs.Words.{BitVector}
use Rattle.word_core.specs.declared.kinds.Binary.TheVariants as two
use Rattle.btor_tree.specs.declared.lines.Line.{Line}
use Rattle.btor_tree.specs.declared.lines.LineOp.TheVariants as line
use Rattle.btor_tree.specs.Fits.{greatest_id}
use Rattle.btor_tree.specs.Frame.{Meets, word_at}
use Rattle.btor_tree.specs.Sharing.{GrowsByShared}
use Rattle.moxi_terms.specs.declared.data.Sort.TheVariants.{Truth}
use Rattle.moxi_terms.specs.Operators.{nothing}
use Rattle.moxi_terms.specs.Sorted.{AreFunctions, IsUnprimed}
use Rattle.moxi_terms.specs.Tree.{Tree, constant, sorts_of}
use Rattle.moxi_terms.specs.Value.{Values}
use Rattle.moxi_terms.proofs.ValueLaws.{all_suit, read_at, value_sorted}
use Rattle.moxi_scripts.specs.declared.script.Query.{Query}
use Rattle.moxi_scripts.specs.Script.{PlainFormula, formula_at}
use Rattle.moxi_flat.specs.FlatSorts.{AreFlatTruths, IsFlatTruth}
use Rattle.moxi_flat.specs.FlatSystem.{PlainFlatSystem}
use Rattle.moxi_lines.specs.TermLines.{AllBuilt, Built, folded_lines, with_binary}
use Rattle.moxi_lines.specs.TermLaws.{AreNumbered, HaveCodes, VariablesAreRepresented}
use Rattle.moxi_lines.proofs.Chains.{binary_grows, folded_grows}
use Rattle.moxi_lines.proofs.Growing.{grown_long, grown_none, grown_then}
use Rattle.moxi_lines.proofs.Terms.{calls_grow, term_grows, whole_made}
use Rattle.moxi_lines.proofs.Words.{bit, code_truth, implies_bit}
use Rattle.moxi_lines.specs.Lines.{first_place, head_lines, input_place, one_place, with_assumptions, with_conditions, with_currents, with_formula, with_given, with_latch}
use Rattle.moxi_lines.specs.Constraints.{is_true}
use Rattle.moxi_lines.proofs.Extending.{Extends, extends_long, extends_meets, extends_then, extends_variables, extends_width, quietly}
use Rattle.moxi_lines.proofs.VariableLaws.{all_get}
use Rattle.moxi_layout.proofs.QueryLines.{IsLatch, Latch, conditions_hold}
use Rattle.moxi_layout.specs.Layout.{is_set}
use Rattle.moxi_layout.proofs.Bits.{BitAt, BitMade, all_true, and_folded, bit_later, bits_later, gate, some_bit, zip_push}
use Rattle.moxi_layout.proofs.LatchLines.{head_long, latch_closed, latch_extends, latch_opened, next_extends, open_later}

-- ---- growth

module _ (f : PlainFlatSystem) (inputs : List ℕ) where
  pub formula_grows : (lines : List Line) (t : Tree) → GrowsByShared lines (with_formula f.scope inputs lines t).0
  formula_grows lines t = term_grows _ _ (calls_grow _ f.scope.functions (length f.scope.functions)) (input_place inputs) (input_place inputs) [] lines t

  assumptions_grow : (m : AllBuilt) (is : List ℕ) → GrowsByShared m.0 (with_assumptions f inputs m is).0
  assumptions_grow m [] = grown_none m.0
  assumptions_grow m (i ∷ is) =
      let n = with_formula f.scope inputs m.0 (formula_at f.assumptions i) in
      let next : AllBuilt = (n.0, m.1 ++ n.1 ∷ []) in
      grown_then m.0 n.0 (with_assumptions f inputs next is).0 (formula_grows m.0 (formula_at f.assumptions i)) (assumptions_grow next is)

  currents_grow : (m : AllBuilt) (is : List ℕ) → GrowsByShared m.0 (with_currents f inputs m is).0
  currents_grow m [] = grown_none m.0
  currents_grow m (i ∷ is) =
      let n = with_formula f.scope inputs m.0 (formula_at f.currents i) in
      let g = with_binary two.Implies n.0 first_place n.1 in
      let next : AllBuilt = (g.0, m.1 ++ g.1 ∷ []) in
      grown_then m.0 g.0 (with_currents f inputs next is).0
      (grown_then m.0 n.0 g.0 (formula_grows m.0 (formula_at f.currents i)) (binary_grows two.Implies n.0 first_place n.1)) (currents_grow next is)

  -- from the latch's init to the chain
  pub chain_grows_on : (lines : List Line) (s : ℕ) (q : Query) →
      let c = with_currents f inputs (with_assumptions f inputs (lines, []) q.assumptions) q.currents in GrowsByShared lines (folded_lines two.And (c.0, s) c.1).0
  chain_grows_on lines s q =
      let a = with_assumptions f inputs (lines, []) q.assumptions in
      let c = with_currents f inputs a q.currents in
      grown_then lines a.0 _ (assumptions_grow (lines, []) q.assumptions) (grown_then a.0 c.0 _ (currents_grow a q.currents) (folded_grows two.And (c.0, s) c.1))

  pub conditions_extend : (lines : List Line) (q : Query) → Extends head_lines lines → Extends lines (with_conditions f inputs lines q).0
  conditions_extend lines q g =
      let s = with_latch lines (q.name ++ codes ".ok") one_place in
      let c = with_currents f inputs (with_assumptions f inputs (s.0, []) q.assumptions) q.currents in
      let chain = folded_lines two.And (c.0, s.1) c.1 in
      let e1 = latch_extends lines (q.name ++ codes ".ok") one_place g in
      let e2 = extends_then lines s.0 chain.0 e1 (quietly s.0 chain.0 (chain_grows_on s.0 s.1 q)) in
      extends_then lines chain.0 _ e2 (next_extends chain.0 s.1 chain.1 (extends_then head_lines lines chain.0 g e2))

pub formula_is : (f : PlainFlatSystem) (fs : List PlainFormula) (i : ℕ) → AreFlatTruths f fs → i < length fs → IsFlatTruth f (formula_at fs i)
formula_is f fs i a h =
    let g = all_get (λ (x : PlainFormula). IsFlatTruth f x.term × IsUnprimed x.term) fs i h a in
    subst (IsFlatTruth f) (sym (ap (λ (x : PlainFormula). x.term) (read_at fs i g.0 (record { name = []; term = constant nothing }) g.1))) g.2.0

-- the latch of a query's conditions
abbrev pub ok_latch : PlainFlatSystem → List ℕ → List Line → Query → Latch
ok_latch f inputs lines q = record { state = (with_latch lines (q.name ++ codes ".ok") one_place).1; next = (with_conditions f inputs lines q).1 }

-- ---- words

module _ (f : PlainFlatSystem) (codes_fit : HaveCodes f.scope.enumerations) (functions : AreFunctions f.scope.enumerations f.scope.functions) (inputs : List ℕ) (row : List BitVector) (known first : Bool) (now : Values) where
  -- what is in lines for formulas of one step
  pub record Stands (lines : List Line) : Type 0 where
    pub head : Extends head_lines lines
    pub first_word : known ≡ true → Meets lines row → word_at row first_place ≡ bit first
    pub variables : VariablesAreRepresented f.scope.enumerations row known lines (sorts_of f.variables) (input_place inputs) now

  pub stands_later : (a b : List Line) → Extends a b → Stands a → Stands b
  stands_later a b g s =
      record {
        head = extends_then head_lines a b s.head g;
        first_word = λ k m. s.first_word k (extends_meets a b row g m);
        variables = extends_variables _ row known a b _ _ now g s.variables;
      }

  pub stands_quietly : (a b : List Line) → GrowsByShared a b → Stands a → Stands b
  stands_quietly a b g s = stands_later a b (quietly a b g) s

  pub formula_made : (lines : List Line) (t : Tree) → AreNumbered lines → Stands lines → IsFlatTruth f t → length (with_formula f.scope inputs lines t).0 < greatest_id
      → BitMade row known lines (with_formula f.scope inputs lines t) (is_true f.scope now now t)
  formula_made lines t n v h room =
      let m = whole_made f.scope.enumerations row known codes_fit f.scope.functions functions (sorts_of f.variables) t Truth h lines n (input_place inputs) (input_place inputs) now now v.variables v.variables room in
      let e = code_truth f.scope.enumerations _ (value_sorted f.scope.enumerations f.scope.functions _ (all_suit f.scope.enumerations f.scope.functions functions) (sorts_of f.variables) now now (record { each = v.variables.sorted }) (record { each = v.variables.sorted }) [] [] t Truth tt h) in
      record { grows = m.grows; numbered = m.numbered; at = record { width = m.stands.width; word = λ k met. m.stands.word k met ∙ e } }

  pub first_at : (lines : List Line) → Stands lines → BitAt row known lines first_place first
  first_at lines s = record { width = extends_width head_lines lines first_place 1 (omega arith) s.head refl; word = s.first_word }

  -- places of several truth values
  pub record BitsMade (m : AllBuilt) (bs : List Bool) : Type 0 where
    pub numbered : AreNumbered m.0
    pub at : AllZip (BitAt row known m.0) m.1 bs

  abbrev assumption : ℕ → Bool
  assumption a = is_true f.scope now now (formula_at f.assumptions a)

  abbrev current : ℕ → Bool
  current c = not first || is_true f.scope now now (formula_at f.currents c)

  assumptions_made : (m : AllBuilt) (bs : List Bool) (is : List ℕ) → AllByRecursion (λ (i : ℕ). i < length f.assumptions) is → AreFlatTruths f f.assumptions → Stands m.0 → BitsMade m bs → length (with_assumptions f inputs m is).0 < greatest_id
      → BitsMade (with_assumptions f inputs m is) (bs ++ map assumption is)
  assumptions_made m bs [] h a v d room = record { numbered = d.numbered; at = subst (AllZip (BitAt row known m.0) m.1) (sym (append-nil bs)) d.at }
  assumptions_made m bs (i ∷ is) h a v d room =
      let n = with_formula f.scope inputs m.0 (formula_at f.assumptions i) in
      let next : AllBuilt = (n.0, m.1 ++ n.1 ∷ []) in
      let new = with_assumptions f inputs next is in
      let few : length n.0 < greatest_id = omega (arith, room, grown_long n.0 new.0 (assumptions_grow f inputs next is)) in
      let s = formula_made m.0 (formula_at f.assumptions i) d.numbered v (formula_is f f.assumptions i a h.0) few in
      let old = bits_later row known m.0 n.0 (quietly m.0 n.0 s.grows) m.1 bs d.at in
      let made : BitsMade next (bs ++ assumption i ∷ []) = record { numbered = s.numbered; at = zip_push (BitAt row known n.0) m.1 n.1 bs (assumption i) old s.at } in
      let r = assumptions_made next (bs ++ assumption i ∷ []) is h.1 a (stands_quietly m.0 n.0 s.grows v) made room in
      subst (BitsMade new) (append_assoc bs (assumption i ∷ []) (map assumption is)) r

  currents_made : (m : AllBuilt) (bs : List Bool) (is : List ℕ) → AllByRecursion (λ (i : ℕ). i < length f.currents) is → AreFlatTruths f f.currents → Stands m.0 → BitsMade m bs → length (with_currents f inputs m is).0 < greatest_id
      → BitsMade (with_currents f inputs m is) (bs ++ map current is)
  currents_made m bs [] h a v d room = record { numbered = d.numbered; at = subst (AllZip (BitAt row known m.0) m.1) (sym (append-nil bs)) d.at }
  currents_made m bs (i ∷ is) h a v d room =
      let n = with_formula f.scope inputs m.0 (formula_at f.currents i) in
      let g = with_binary two.Implies n.0 first_place n.1 in
      let next : AllBuilt = (g.0, m.1 ++ g.1 ∷ []) in
      let new = with_currents f inputs next is in
      let few_g : length g.0 < greatest_id = omega (arith, room, grown_long g.0 new.0 (currents_grow f inputs next is)) in
      let few_n : length n.0 < greatest_id = omega (arith, few_g, grown_long n.0 g.0 (binary_grows two.Implies n.0 first_place n.1)) in
      let s = formula_made m.0 (formula_at f.currents i) d.numbered v (formula_is f f.currents i a h.0) few_n in
      let vn = stands_quietly m.0 n.0 s.grows v in
      let t = gate row known two.Implies (λ x y. not x || y) (refl, refl) refl implies_bit n.0 first_place n.1 first (is_true f.scope now now (formula_at f.currents i)) s.numbered (first_at n.0 vn) s.at few_g in
      let grows = grown_then m.0 n.0 g.0 s.grows t.grows in
      let old = bits_later row known m.0 g.0 (quietly m.0 g.0 grows) m.1 bs d.at in
      let made : BitsMade next (bs ++ current i ∷ []) = record { numbered = t.numbered; at = zip_push (BitAt row known g.0) m.1 g.1 bs (current i) old t.at } in
      let r = currents_made next (bs ++ current i ∷ []) is h.1 a (stands_quietly m.0 g.0 grows v) made room in
      subst (BitsMade new) (append_assoc bs (current i ∷ []) (map current is)) r

  all_hold : (q : Query) → all_true (map assumption q.assumptions ++ map current q.currents) ≡ conditions_hold f first now q
  all_hold q =
      list_all-append (λ b. b) (map assumption q.assumptions) (map current q.currents)
      ∙ ap (λ b. b && all_true (map current q.currents)) (list_all-map (λ b. b) assumption q.assumptions)
      ∙ ap (λ b. list_all assumption q.assumptions && b) (list_all-map (λ b. b) current q.currents)

  -- the latch of the conditions
  pub record ConditionsMade (lines : List Line) (q : Query) (l : Latch) (m : Built) : Type 0 where
    pub extends : Extends lines m.0
    pub numbered : AreNumbered m.0
    pub latch : IsLatch m.0 one_place l
    pub next : m.1 ≡ l.next
    pub at : BitAt row known m.0 m.1 (is_set row l.state && conditions_hold f first now q)

  pub conditions_made : (lines : List Line) (q : Query) → AllByRecursion (λ (i : ℕ). i < length f.assumptions) q.assumptions → AllByRecursion (λ (i : ℕ). i < length f.currents) q.currents → AreFlatTruths f f.assumptions → AreFlatTruths f f.currents
      → AreNumbered lines → Stands lines → length (with_conditions f inputs lines q).0 < greatest_id → ConditionsMade lines q (ok_latch f inputs lines q) (with_conditions f inputs lines q)
  conditions_made lines q ha hc sa sc n v room =
      let name = q.name ++ codes ".ok" in
      let s = with_latch lines name one_place in
      let a = with_assumptions f inputs (s.0, []) q.assumptions in
      let c = with_currents f inputs a q.currents in
      let chain = folded_lines two.And (c.0, s.1) c.1 in
      let new = with_given chain.0 line.Next 1 s.1 chain.1 in
      let set = is_set row (ok_latch f inputs lines q).state in
      let ga = assumptions_grow f inputs (s.0, []) q.assumptions in
      let gc = currents_grow f inputs a q.currents in
      let gf = folded_grows two.And (c.0, s.1) c.1 in
      let gs = chain_grows_on f inputs s.0 s.1 q in
      let head_s = extends_then head_lines lines s.0 v.head (latch_extends lines name one_place v.head) in
      let head_c = extends_then head_lines s.0 chain.0 head_s (quietly s.0 chain.0 gs) in
      let few_chain : length chain.0 < greatest_id = omega (arith, room, extends_long chain.0 new (next_extends chain.0 s.1 chain.1 head_c)) in
      let few_c : length c.0 < greatest_id = omega (arith, few_chain, grown_long c.0 chain.0 gf) in
      let few_a : length a.0 < greatest_id = omega (arith, few_c, grown_long a.0 c.0 gc) in
      let few_s : length s.0 < greatest_id = omega (arith, few_a, grown_long s.0 a.0 ga) in
      let o = latch_opened lines name one_place n v.head (omega (arith, head_long lines v.head)) (extends_width head_lines lines one_place 1 (omega arith) v.head refl) few_s in
      let vs = stands_later lines s.0 o.extends v in
      let start : BitsMade (s.0, []) [] = record { numbered = o.numbered; at = tt } in
      let da = assumptions_made (s.0, []) [] q.assumptions ha sa vs start few_a in
      let va = stands_quietly s.0 a.0 ga vs in
      let dc = currents_made a (map assumption q.assumptions) q.currents hc sc va da few_c in
      let sc0 = bit_later row known s.0 c.0 (quietly s.0 c.0 (grown_then s.0 a.0 c.0 ga gc)) s.1 set (some_bit row known s.0 s.1 o.numbered o.opens.width) in
      let ch = and_folded row known (c.0, s.1) set c.1 (map assumption q.assumptions ++ map current q.currents) dc.numbered sc0 dc.at few_chain in
      let at : BitAt row known chain.0 chain.1 (set && conditions_hold f first now q) = subst (λ b. BitAt row known chain.0 chain.1 (set && b)) (all_hold q) ch.at in
      let cl = latch_closed chain.0 s.1 one_place chain.1 ch.numbered head_c (open_later s.0 chain.0 s.1 one_place gs o.opens) ch.at.width room in
      record {
        extends = extends_then lines s.0 new o.extends (extends_then s.0 chain.0 new (quietly s.0 chain.0 gs) cl.extends);
        numbered = cl.numbered;
        latch = cl.latch;
        next = refl;
        at = bit_later row known chain.0 new cl.extends chain.1 (set && conditions_hold f first now q) at;
      }
