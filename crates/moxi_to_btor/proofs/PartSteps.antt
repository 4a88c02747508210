-- What the lines of formulas and parts ask for.
use Rattle.std.proofs.Common.{◌≡◌, ℕ, ◌<◌, Bool, true, false, cond, List, [], ◌∷◌, length, take, refl, sym, ap, ◌∙◌, subst, arith}
use Rattle.std.specs.Borrow.{Bor}
use Rattle.std.proofs.lemmas.List.{take_all}
use Rattle.word_core.specs.declared.kinds.Binary.{Binary}
use Rattle.word_core.specs.declared.kinds.Binary.TheVariants as two
use Rattle.word_core.specs.Table.{BinaryFits, binary_width}
use Rattle.btor_tree.specs.declared.lines.Line.{Line}
use Rattle.btor_tree.specs.Fits.{greatest_id, width_at}
use Rattle.btor_tree.specs.Sharing.{GrowsByShared}
use Rattle.moxi_terms.specs.declared.data.Sort.{Sort}
use Rattle.moxi_terms.specs.declared.data.Sort.TheVariants.{Truth}
use Rattle.moxi_terms.specs.declared.term.Enumeration.{Enumeration}
use Rattle.moxi_terms.specs.declared.term.Variable.{Variable}
use Rattle.moxi_terms.specs.Sorted.{HasSort}
use Rattle.moxi_terms.specs.Tree.{Tree, sorts_of}
use Rattle.moxi_terms.specs.View.{ScopeState}
use Rattle.moxi_flat.specs.FlatSystem.{PlainPart}
use Rattle.moxi_lines.specs.Codes.{sort_bits}
use Rattle.moxi_lines.specs.TermLines.{Built, call_lines, with_binary}
use Rattle.moxi_lines.proofs.Growing.{grown_long, grown_then}
use Rattle.moxi_lines.proofs.Chains.{binary_grows}
use Rattle.moxi_lines.proofs.Terms.{calls_grow, term_grows}
use Rattle.moxi_to_btor.specs.declared.terms.Places.TheVariants.{At, Behind}
use Rattle.moxi_to_btor.specs.TermPutting.{CanPutBinary}
use Rattle.moxi_to_btor.specs.Standing.{IsAsWide, VariablesAreAsWide}
use Rattle.moxi_to_btor.specs.Terms.{CanPutWhole, place_by}
use Rattle.moxi_to_btor.proofs.Widths.{IsWide, binary_can, binary_wide, later_wide}
use Rattle.moxi_to_btor.proofs.TermWidths.{one_term_wide}
use Rattle.moxi_lines.specs.Lines.{first_place, input_place, is_true_term, state_place, with_constraint, with_formula, with_init, with_inv, with_part, with_parts, with_step, with_trans}
use Rattle.moxi_lines.proofs.Extending.{Extends, extends_long, extends_none, extends_then, extends_width, quietly}
use Rattle.moxi_to_btor.specs.Putting.{CanPutFormula, CanPutInit, CanPutInv, CanPutPart, CanPutParts, CanPutStep, CanPutTrans, CanPutTruth, IsSetUp, IsTruthOver}

-- ---- what stays as lines grow

pub variables_later : (es : List Enumeration) (a b : List Line) (vars : List Sort) (places : ℕ → ℕ) → Extends a b → VariablesAreAsWide es a vars places → VariablesAreAsWide es b vars places
variables_later es a b vars places g h =
    record { each = λ v s e. let i = h.each v s e in record { wide = i.wide; narrow = i.narrow; width = extends_width a b (places v) (sort_bits es s) i.wide g i.width } }

pub setup_later : (s : ScopeState) (vars : List Variable) (inputs : List ℕ) (a b : List Line) → Extends a b → IsSetUp s vars inputs a → IsSetUp s vars inputs b
setup_later s vars inputs a b g h =
    record {
      codes = h.codes;
      sound = h.sound;
      stand_now = variables_later s.enumerations a b (sorts_of vars) (input_place inputs) g h.stand_now;
      stand_before = variables_later s.enumerations a b (sorts_of vars) (state_place inputs) g h.stand_before;
      one = extends_width a b _ 1 (omega arith) g h.one;
      zero = extends_width a b _ 1 (omega arith) g h.zero;
      first = extends_width a b _ 1 (omega arith) g h.first;
    }

-- ---- formulas

module _ (s : ScopeState) (vars : List Variable) (inputs : List ℕ) (lines : List Line) (t : Tree) where
  pub formula_grows : GrowsByShared lines (with_formula s inputs lines t).0
  formula_grows = term_grows s.enumerations (call_lines s.enumerations s.functions (length s.functions)) (calls_grow s.enumerations s.functions (length s.functions)) (input_place inputs) (input_place inputs) [] lines t

  pub step_grows : GrowsByShared lines (with_step s inputs lines t).0
  step_grows = term_grows s.enumerations (call_lines s.enumerations s.functions (length s.functions)) (calls_grow s.enumerations s.functions (length s.functions)) (state_place inputs) (input_place inputs) [] lines t

  all_functions : IsTruthOver s vars t → HasSort s.enumerations (take (length s.functions) s.functions) (sorts_of vars) [] t Truth
  all_functions h = subst (λ fs. HasSort s.enumerations fs (sorts_of vars) [] t Truth) (sym (take_all (length s.functions) s.functions (omega arith))) h

  of_truth : (m : Built) → IsAsWide s.enumerations m.0 m.1 Truth → IsWide m.0 m.1 1
  of_truth m h = record { low = omega arith; high = omega arith; width = h.width }

  pub formula_wide : IsSetUp s vars inputs lines → IsTruthOver s vars t → IsWide (with_formula s inputs lines t).0 (with_formula s inputs lines t).1 1
  formula_wide there h =
      of_truth (with_formula s inputs lines t) (one_term_wide s.enumerations there.codes s.functions there.sound.functions (length s.functions) (sorts_of vars) (input_place inputs) (input_place inputs) [] [] lines t Truth there.stand_now there.stand_now tt (all_functions h))

  pub step_wide : IsSetUp s vars inputs lines → IsTruthOver s vars t → IsWide (with_step s inputs lines t).0 (with_step s inputs lines t).1 1
  step_wide there h =
      of_truth (with_step s inputs lines t) (one_term_wide s.enumerations there.codes s.functions there.sound.functions (length s.functions) (sorts_of vars) (state_place inputs) (input_place inputs) [] [] lines t Truth there.stand_before there.stand_now tt (all_functions h))

pub formula_whole : (s : ScopeState) (inputs : Bor (List ℕ)) (lines : List Line) (t : Tree) → CanPutFormula s inputs.now lines t → CanPutWhole s (place_by (At inputs)) (place_by (At inputs)) lines t
formula_whole s inputs lines t c =
    record { vars = sorts_of c.vars; sort = Truth; codes = c.there.codes; sorted = c.truth; stand_now = c.there.stand_now; stand_later = c.there.stand_now; room = c.room }

pub step_whole : (s : ScopeState) (inputs : Bor (List ℕ)) (lines : List Line) (t : Tree) → CanPutStep s inputs.now lines t → CanPutWhole s (place_by (Behind inputs)) (place_by (At inputs)) lines t
step_whole s inputs lines t c =
    record { vars = sorts_of c.vars; sort = Truth; codes = c.there.codes; sorted = c.truth; stand_now = c.there.stand_before; stand_later = c.there.stand_now; room = c.room }

-- ---- a formula behind `first`

-- an operator on two truth values that gives one
pub record IsGate (b : Binary) : Type 0 where
  pub fits : BinaryFits b 1 1
  pub width : binary_width b 1 1 ≡ 1

abbrev pub gated : Binary → Built → Built
gated b m = with_binary b m.0 first_place m.1

module _ (b : Binary) (gate : IsGate b) (lines : List Line) (m : Built) (g : GrowsByShared lines m.0) (first : width_at lines first_place ≡ 1) (w : IsWide m.0 m.1 1) where
  first_wide : IsWide m.0 first_place 1
  first_wide = later_wide lines m.0 first_place 1 g (record { low = omega arith; high = omega arith; width = first })

  pub gate_can : length (gated b m).0 < greatest_id → CanPutBinary b m.0 first_place m.1
  gate_can room = binary_can b m.0 first_place m.1 1 1 first_wide w gate.fits (omega (arith, gate.width)) (omega (arith, gate.width)) room

  pub gate_wide : width_at (gated b m).0 (gated b m).1 ≡ 1
  gate_wide = (binary_wide b m.0 first_place m.1 1 1 first_wide w (omega (arith, gate.width)) (omega (arith, gate.width))).width ∙ gate.width

constraint_extends : (m : Built) → Extends m.0 (with_constraint m)
constraint_extends m = record { more = _; is = refl }

pub gate_room : (b : Binary) (m : Built) → length (with_constraint (gated b m)) < greatest_id → length (gated b m).0 < greatest_id
gate_room b m room = omega (arith, room, extends_long (gated b m).0 (with_constraint (gated b m)) (constraint_extends (gated b m)))

pub made_room : (b : Binary) (m : Built) → length (with_constraint (gated b m)) < greatest_id → length m.0 < greatest_id
made_room b m room = omega (arith, gate_room b m room, grown_long m.0 (gated b m).0 (binary_grows b m.0 first_place m.1))

pub implies_gate : IsGate two.Implies
implies_gate = record { fits = (refl, refl); width = refl }

pub or_gate : IsGate two.Or
or_gate = record { fits = refl; width = refl }

-- ---- init, trans, inv

module _ (s : ScopeState) (inputs : List ℕ) (lines : List Line) (t : Tree) where
  module _ (c : CanPutInit s inputs lines t) (some : is_true_term t ≡ false) where
    init_room : length (with_constraint (gated two.Implies (with_formula s inputs lines t))) < greatest_id
    init_room = subst (λ b. length (cond b lines (with_constraint (gated two.Implies (with_formula s inputs lines t)))) < greatest_id) some c.room

    pub init_formula : CanPutFormula s inputs lines t
    init_formula = record { vars = c.vars; there = c.there; truth = c.truth; room = made_room two.Implies (with_formula s inputs lines t) init_room }

    pub init_gate : (m : Built) → m ≡ with_formula s inputs lines t → CanPutBinary two.Implies m.0 first_place m.1
    init_gate m e =
        let n = with_formula s inputs lines t in
        subst (λ (m : Built). CanPutBinary two.Implies m.0 first_place m.1) (sym e) (gate_can two.Implies implies_gate lines n (formula_grows s c.vars inputs lines t) c.there.first (formula_wide s c.vars inputs lines t c.there c.truth) (gate_room two.Implies n init_room))

    pub init_truth : (m g : Built) → m ≡ with_formula s inputs lines t → g ≡ gated two.Implies m → CanPutTruth g.0 g.1
    init_truth m g e f =
        let n = with_formula s inputs lines t in
        subst (λ (g : Built). CanPutTruth g.0 g.1) (sym (f ∙ ap (gated two.Implies) e))
        (record { room = gate_room two.Implies n init_room; width = gate_wide two.Implies implies_gate lines n (formula_grows s c.vars inputs lines t) c.there.first (formula_wide s c.vars inputs lines t c.there c.truth) })

  module _ (c : CanPutTrans s inputs lines t) (some : is_true_term t ≡ false) where
    trans_room : length (with_constraint (gated two.Or (with_step s inputs lines t))) < greatest_id
    trans_room = subst (λ b. length (cond b lines (with_constraint (gated two.Or (with_step s inputs lines t)))) < greatest_id) some c.room

    pub trans_step : CanPutStep s inputs lines t
    trans_step = record { vars = c.vars; there = c.there; truth = c.truth; room = made_room two.Or (with_step s inputs lines t) trans_room }

    pub trans_gate : (m : Built) → m ≡ with_step s inputs lines t → CanPutBinary two.Or m.0 first_place m.1
    trans_gate m e =
        let n = with_step s inputs lines t in
        subst (λ (m : Built). CanPutBinary two.Or m.0 first_place m.1) (sym e) (gate_can two.Or or_gate lines n (step_grows s c.vars inputs lines t) c.there.first (step_wide s c.vars inputs lines t c.there c.truth) (gate_room two.Or n trans_room))

    pub trans_truth : (m g : Built) → m ≡ with_step s inputs lines t → g ≡ gated two.Or m → CanPutTruth g.0 g.1
    trans_truth m g e f =
        let n = with_step s inputs lines t in
        subst (λ (g : Built). CanPutTruth g.0 g.1) (sym (f ∙ ap (gated two.Or) e))
        (record { room = gate_room two.Or n trans_room; width = gate_wide two.Or or_gate lines n (step_grows s c.vars inputs lines t) c.there.first (step_wide s c.vars inputs lines t c.there c.truth) })

  module _ (c : CanPutInv s inputs lines t) (some : is_true_term t ≡ false) where
    inv_room : length (with_formula s inputs lines t).0 < greatest_id
    inv_room =
        let m = with_formula s inputs lines t in
        let all : length (with_constraint m) < greatest_id = subst (λ b. length (cond b lines (with_constraint m)) < greatest_id) some c.room in
        omega (arith, all, extends_long m.0 (with_constraint m) (constraint_extends m))

    pub inv_formula : CanPutFormula s inputs lines t
    inv_formula = record { vars = c.vars; there = c.there; truth = c.truth; room = inv_room }

    pub inv_truth : (m : Built) → m ≡ with_formula s inputs lines t → CanPutTruth m.0 m.1
    inv_truth m e = subst (λ (m : Built). CanPutTruth m.0 m.1) (sym e) (record { room = inv_room; width = (formula_wide s c.vars inputs lines t c.there c.truth).width })

  -- ---- growth

  pub init_extends : Extends lines (with_init s inputs lines t)
  init_extends = either (is_true_term t)
    where
      either : (b : Bool) → Extends lines (cond b lines (with_constraint (gated two.Implies (with_formula s inputs lines t))))
      either true = extends_none lines
      either false =
          let m = with_formula s inputs lines t in
          extends_then lines (gated two.Implies m).0 _ (quietly lines _ (grown_then lines m.0 _ (formula_grows s [] inputs lines t) (binary_grows two.Implies m.0 first_place m.1))) (constraint_extends (gated two.Implies m))

  pub trans_extends : Extends lines (with_trans s inputs lines t)
  trans_extends = either (is_true_term t)
    where
      either : (b : Bool) → Extends lines (cond b lines (with_constraint (gated two.Or (with_step s inputs lines t))))
      either true = extends_none lines
      either false =
          let m = with_step s inputs lines t in
          extends_then lines (gated two.Or m).0 _ (quietly lines _ (grown_then lines m.0 _ (step_grows s [] inputs lines t) (binary_grows two.Or m.0 first_place m.1))) (constraint_extends (gated two.Or m))

  pub inv_extends : Extends lines (with_inv s inputs lines t)
  inv_extends = either (is_true_term t)
    where
      either : (b : Bool) → Extends lines (cond b lines (with_constraint (with_formula s inputs lines t)))
      either true = extends_none lines
      either false = let m = with_formula s inputs lines t in extends_then lines m.0 _ (quietly lines _ (formula_grows s [] inputs lines t)) (constraint_extends m)

-- ---- parts

module _ (s : ScopeState) (inputs : List ℕ) (lines : List Line) (p : PlainPart) where
  abbrev init_l : List Line
  init_l = with_init s inputs lines p.init

  abbrev trans_l : List Line
  trans_l = with_trans s inputs init_l p.trans

  pub part_extends : Extends lines (with_part s inputs lines p)
  part_extends =
      extends_then lines init_l _ (init_extends s inputs lines p.init) (extends_then init_l trans_l _ (trans_extends s inputs init_l p.trans) (inv_extends s inputs trans_l p.inv))

  module _ (c : CanPutPart s inputs lines p) where
    trans_few : length trans_l < greatest_id
    trans_few = omega (arith, c.room, extends_long trans_l (with_inv s inputs trans_l p.inv) (inv_extends s inputs trans_l p.inv))

    pub part_init : CanPutInit s inputs lines p.init
    part_init = record { vars = c.vars; there = c.there; truth = c.over.init; room = omega (arith, trans_few, extends_long init_l trans_l (trans_extends s inputs init_l p.trans)) }

    pub part_trans : (new : List Line) → new ≡ init_l → CanPutTrans s inputs new p.trans
    part_trans new e =
        subst (λ ls. CanPutTrans s inputs ls p.trans) (sym e) (record { vars = c.vars; there = setup_later s c.vars inputs lines init_l (init_extends s inputs lines p.init) c.there; truth = c.over.trans; room = trans_few })

    pub part_inv : (new : List Line) → new ≡ trans_l → CanPutInv s inputs new p.inv
    part_inv new e =
        let g = extends_then lines init_l trans_l (init_extends s inputs lines p.init) (trans_extends s inputs init_l p.trans) in
        subst (λ ls. CanPutInv s inputs ls p.inv) (sym e) (record { vars = c.vars; there = setup_later s c.vars inputs lines trans_l g c.there; truth = c.over.inv; room = c.room })

pub parts_extend : (s : ScopeState) (inputs : List ℕ) (lines : List Line) (ps : List PlainPart) → Extends lines (with_parts s inputs lines ps)
parts_extend s inputs lines [] = extends_none lines
parts_extend s inputs lines (p ∷ ps) = let n = with_part s inputs lines p in extends_then lines n _ (part_extends s inputs lines p) (parts_extend s inputs n ps)

pub first_part : (s : ScopeState) (inputs : List ℕ) (lines : List Line) (p : PlainPart) (ps : List PlainPart) → CanPutParts s inputs lines (p ∷ ps) → CanPutPart s inputs lines p
first_part s inputs lines p ps c =
    let n = with_part s inputs lines p in
    record { vars = c.vars; there = c.there; over = c.over.0; room = omega (arith, c.room, extends_long n (with_parts s inputs n ps) (parts_extend s inputs n ps)) }

pub rest_parts : (s : ScopeState) (inputs : List ℕ) (lines new : List Line) (p : PlainPart) (ps : List PlainPart) → CanPutParts s inputs lines (p ∷ ps) → new ≡ with_part s inputs lines p → CanPutParts s inputs new ps
rest_parts s inputs lines new p ps c e =
    let n = with_part s inputs lines p in
    subst (λ ls. CanPutParts s inputs ls ps) (sym e) (record { vars = c.vars; there = setup_later s c.vars inputs lines n (part_extends s inputs lines p) c.there; over = c.over.1; room = c.room })
