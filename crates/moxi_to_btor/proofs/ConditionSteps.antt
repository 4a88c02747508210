-- What the lines of a query's conditions ask for.
use Rattle.std.proofs.Common.{◌≡◌, ℕ, zero, suc, ◌<◌, List, [], ◌∷◌, ◌++◌, length, map, refl, sym, ap, ◌∙◌, subst, arith}
use Rattle.std.specs.Prelude.{codes, slice_index_or}
use Rattle.std.specs.List.{AllByRecursion}
use Rattle.word_core.specs.declared.kinds.Binary.TheVariants as two
use Rattle.btor_tree.specs.declared.lines.Line.{Line}
use Rattle.btor_tree.specs.declared.lines.LineOp.TheVariants as line
use Rattle.btor_tree.specs.Fits.{IsWellFormed, greatest_id, is_init, is_next, width_at}
use Rattle.btor_tree.specs.Sharing.{GrowsByShared}
use Rattle.moxi_terms.specs.declared.term.Variable.{Variable}
use Rattle.moxi_terms.specs.Tree.{Tree}
use Rattle.moxi_terms.specs.View.{ScopeState, plain}
use Rattle.moxi_scripts.specs.declared.script.Formula.{Formula}
use Rattle.moxi_scripts.specs.declared.script.Query.{Query}
use Rattle.moxi_scripts.specs.Script.{PlainFormula, formula_at, plain_formula}
use Rattle.moxi_flat.specs.FlatSystem.{PlainFlatSystem}
use Rattle.moxi_lines.specs.TermLines.{AllBuilt, Built, folded_lines}
use Rattle.moxi_lines.proofs.Growing.{grown_long, grown_none, grown_then, wide_inside}
use Rattle.moxi_lines.proofs.Chains.{binary_grows, folded_grows}
use Rattle.moxi_to_btor.specs.TermPutting.{CanFold, CanPutBinary}
use Rattle.moxi_to_btor.proofs.Widths.{IsWide, later_wide}
use Rattle.moxi_to_btor.proofs.ChainWidths.{AreWide, Keeps, folded_can, folded_wide}
use Rattle.moxi_lines.specs.Lines.{first_place, one_place, with_assumptions, with_conditions, with_currents, with_formula, with_free, with_given, with_latch}
use Rattle.moxi_lines.proofs.Extending.{Extends, extends_long, extends_then, extends_width, quietly}
use Rattle.moxi_to_btor.specs.Putting.{CanPutFree, CanPutGiven, IsOpen, IsTruthOver}
use Rattle.moxi_to_btor.specs.Queries.{CanPutAssumptions, CanPutConditions, CanPutCurrent, CanPutCurrents, CanPutLatch, CanPutNumbered, IsReady, current_lines}
use Rattle.moxi_to_btor.proofs.Giving.{init_can, init_extends, init_gives, init_open, later_open, next_can, next_extends, next_gives, state_can, state_extends, state_open, state_place, state_wide}
use Rattle.moxi_to_btor.proofs.PartSteps.{formula_grows, formula_wide, gate_can, gate_wide, implies_gate, setup_later}
use Rattle.moxi_to_btor.proofs.Stepping.{all_made, made}

-- ---- latches

pub latch_extends : (lines : List Line) (name : List ℕ) (p : ℕ) → Extends lines (with_latch lines name p).0
latch_extends lines name p =
    let s = with_free lines line.State 1 name in
    extends_then lines s.0 (with_latch lines name p).0 (state_extends lines 1 name) (init_extends s.0 1 s.1 p)

module _ (lines : List Line) (name : List ℕ) (value : ℕ) (c : CanPutLatch lines name value) where
  latch_state_room : length (with_free lines line.State 1 name).0 < greatest_id
  latch_state_room = let s = with_free lines line.State 1 name in omega (arith, c.room, extends_long s.0 (with_latch lines name value).0 (init_extends s.0 1 s.1 value))

  pub latch_state : CanPutFree lines line.State 1 name
  latch_state = state_can lines 1 name (omega arith) (omega arith) latch_state_room

  pub latch_init : (m : Built) → m ≡ with_free lines line.State 1 name → IsWellFormed lines → CanPutGiven m.0 line.Init 1 m.1 value
  latch_init m e wf =
      let s = with_free lines line.State 1 name in
      let here : value < length lines = wide_inside lines value 1 (omega arith) c.width in
      let before : value < s.1 = omega (arith, here, state_place lines 1 name) in
      subst (λ (m : Built). CanPutGiven m.0 line.Init 1 m.1 value) (sym e)
      (init_can s.0 1 s.1 value (omega arith) (omega arith) (state_open is_init init_gives lines 1 name wf (omega arith)) (extends_width lines s.0 value 1 (omega arith) (state_extends lines 1 name) c.width) before c.room)

  pub latch_is : (m : Built) (new : List Line) → m ≡ with_free lines line.State 1 name → new ≡ with_given m.0 line.Init 1 m.1 value → made new m.1 ≡ with_latch lines name value
  latch_is m new e f = ap (λ ls. made ls m.1) f ∙ ap (λ (m : Built). made (with_given m.0 line.Init 1 m.1 value) m.1) e

  pub latch_open : (m : Built) (new : List Line) → m ≡ with_free lines line.State 1 name → new ≡ with_given m.0 line.Init 1 m.1 value → IsWellFormed lines → IsOpen is_next new m.1 1
  latch_open m new e f wf =
      let s = with_free lines line.State 1 name in
      let o = init_open s.0 1 1 s.1 value (omega arith) (state_open is_next next_gives lines 1 name wf (omega arith)) in
      subst (λ ls. IsOpen is_next ls m.1 1) (sym f) (subst (λ (m : Built). IsOpen is_next (with_given m.0 line.Init 1 m.1 value) m.1 1) (sym e) o)

pub latch_wide_at : (lines : List Line) (name : List ℕ) (p : ℕ) → width_at (with_latch lines name p).0 (with_latch lines name p).1 ≡ 1
latch_wide_at lines name p =
    let s = with_free lines line.State 1 name in
    extends_width s.0 (with_latch lines name p).0 s.1 1 (omega arith) (init_extends s.0 1 s.1 p) (state_wide lines 1 name (omega arith))

-- ---- formulas by their numbers

pub numbered_is : (fs : List Formula) (i : ℕ) (x : Formula) → i < length (map plain_formula fs) → x ≡ slice_index_or fs i x → formula_at (map plain_formula fs) i ≡ plain x.term
numbered_is [] i x h e = absurd (omega (arith, h))
numbered_is (f ∷ fs) zero x h e = ap (λ (f : Formula). plain f.term) (sym e)
numbered_is (f ∷ fs) (suc i) x h e = numbered_is fs i x (omega (arith, h)) e

pub truth_at : (s : ScopeState) (vars : List Variable) (fs : List PlainFormula) → AllByRecursion (λ (x : PlainFormula). IsTruthOver s vars x.term) fs → (i : ℕ) → IsTruthOver s vars (formula_at fs i)
truth_at s vars [] a i = tt
truth_at s vars (f ∷ fs) a zero = a.0
truth_at s vars (f ∷ fs) a (suc i) = truth_at s vars fs a.1 i

pub ready_later : (f : PlainFlatSystem) (inputs : List ℕ) (a b : List Line) → Extends a b → IsReady f inputs a → IsReady f inputs b
ready_later f inputs a b g h = record { there = setup_later f.scope f.variables inputs a b g h.there; assumptions = h.assumptions; currents = h.currents; reachables = h.reachables }

-- ---- assumptions

module _ (f : PlainFlatSystem) (inputs : List ℕ) where
  abbrev pub one_assumption : AllBuilt → ℕ → AllBuilt
  one_assumption m i = let n = with_formula f.scope inputs m.0 (formula_at f.assumptions i) in (n.0, m.1 ++ n.1 ∷ [])

  formula_extends : (lines : List Line) (t : Tree) → Extends lines (with_formula f.scope inputs lines t).0
  formula_extends lines t = quietly lines (with_formula f.scope inputs lines t).0 (formula_grows f.scope f.variables inputs lines t)

  pub assumptions_grow : (m : AllBuilt) (is : List ℕ) → GrowsByShared m.0 (with_assumptions f inputs m is).0
  assumptions_grow m [] = grown_none m.0
  assumptions_grow m (i ∷ is) =
      let n = one_assumption m i in
      grown_then m.0 n.0 (with_assumptions f inputs n is).0 (formula_grows f.scope f.variables inputs m.0 (formula_at f.assumptions i)) (assumptions_grow n is)

  pub first_assumption : (m : AllBuilt) (i : ℕ) (is : List ℕ) → CanPutAssumptions f inputs m (i ∷ is) → CanPutNumbered f.scope inputs m.0 f.assumptions i
  first_assumption m i is c =
      let n = one_assumption m i in
      record {
        within = c.within.0;
        can = record {
          vars = f.variables;
          there = c.ready.there;
          truth = truth_at f.scope f.variables f.assumptions c.ready.assumptions i;
          room = omega (arith, c.room, grown_long n.0 (with_assumptions f inputs n is).0 (assumptions_grow n is));
        };
      }

  pub rest_assumptions : (m n : AllBuilt) (i : ℕ) (is : List ℕ) → CanPutAssumptions f inputs m (i ∷ is) → n ≡ one_assumption m i → CanPutAssumptions f inputs n is
  rest_assumptions m n i is c e =
      let k = one_assumption m i in
      subst (λ n. CanPutAssumptions f inputs n is) (sym e) (record { ready = ready_later f inputs m.0 k.0 (formula_extends m.0 (formula_at f.assumptions i)) c.ready; within = c.within.1; room = c.room })

  pub assumption_is : (m : AllBuilt) (i : ℕ) (new : List Line) (p : ℕ) (more : List ℕ) → made new p ≡ with_formula f.scope inputs m.0 (formula_at f.assumptions i) → more ≡ m.1 ++ p ∷ [] → all_made new more ≡ one_assumption m i
  assumption_is m i new p more e g = ap (all_made new) g ∙ ap (λ (z : Built). all_made z.0 (m.1 ++ z.1 ∷ [])) e

  -- ---- current conditions

  abbrev pub one_current : AllBuilt → ℕ → AllBuilt
  one_current m i = let g = current_lines f.scope inputs m.0 f.currents i in (g.0, m.1 ++ g.1 ∷ [])

  current_grows : (lines : List Line) (i : ℕ) → GrowsByShared lines (current_lines f.scope inputs lines f.currents i).0
  current_grows lines i =
      let n = with_formula f.scope inputs lines (formula_at f.currents i) in
      grown_then lines n.0 (current_lines f.scope inputs lines f.currents i).0 (formula_grows f.scope f.variables inputs lines (formula_at f.currents i)) (binary_grows two.Implies n.0 first_place n.1)

  pub currents_grow : (m : AllBuilt) (is : List ℕ) → GrowsByShared m.0 (with_currents f inputs m is).0
  currents_grow m [] = grown_none m.0
  currents_grow m (i ∷ is) = let n = one_current m i in grown_then m.0 n.0 (with_currents f inputs n is).0 (current_grows m.0 i) (currents_grow n is)

  pub first_current : (m : AllBuilt) (i : ℕ) (is : List ℕ) → CanPutCurrents f inputs m (i ∷ is) → CanPutCurrent f.scope inputs m.0 f.currents i
  first_current m i is c =
      let n = one_current m i in
      record {
        vars = f.variables;
        there = c.ready.there;
        within = c.within.0;
        truth = truth_at f.scope f.variables f.currents c.ready.currents i;
        room = omega (arith, c.room, grown_long n.0 (with_currents f inputs n is).0 (currents_grow n is));
      }

  pub rest_currents : (m n : AllBuilt) (i : ℕ) (is : List ℕ) → CanPutCurrents f inputs m (i ∷ is) → n ≡ one_current m i → CanPutCurrents f inputs n is
  rest_currents m n i is c e =
      let k = one_current m i in
      subst (λ n. CanPutCurrents f inputs n is) (sym e) (record { ready = ready_later f inputs m.0 k.0 (quietly m.0 k.0 (current_grows m.0 i)) c.ready; within = c.within.1; room = c.room })

  pub current_is : (m : AllBuilt) (i : ℕ) (new : List Line) (p : ℕ) (more : List ℕ) → made new p ≡ current_lines f.scope inputs m.0 f.currents i → more ≡ m.1 ++ p ∷ [] → all_made new more ≡ one_current m i
  current_is m i new p more e g = ap (all_made new) g ∙ ap (λ (z : Built). all_made z.0 (m.1 ++ z.1 ∷ [])) e

  -- ---- widths

  later_all : (a b : List Line) (ps : List ℕ) → GrowsByShared a b → AreWide a ps 1 → AreWide b ps 1
  later_all a b [] g h = tt
  later_all a b (p ∷ ps) g h = (later_wide a b p 1 g h.0, later_all a b ps g h.1)

  one_more : (lines : List Line) (ps : List ℕ) (p : ℕ) → AreWide lines ps 1 → IsWide lines p 1 → AreWide lines (ps ++ p ∷ []) 1
  one_more lines [] p a h = (h, tt)
  one_more lines (q ∷ ps) p a h = (a.0, one_more lines ps p a.1 h)

  assumptions_wide : (m : AllBuilt) (is : List ℕ) → IsReady f inputs m.0 → AreWide m.0 m.1 1 → AreWide (with_assumptions f inputs m is).0 (with_assumptions f inputs m is).1 1
  assumptions_wide m [] r a = a
  assumptions_wide m (i ∷ is) r a =
      let n = one_assumption m i in
      let t = formula_at f.assumptions i in
      let g = formula_grows f.scope f.variables inputs m.0 t in
      assumptions_wide n is (ready_later f inputs m.0 n.0 (quietly m.0 n.0 g) r)
      (one_more n.0 m.1 _ (later_all m.0 n.0 m.1 g a) (formula_wide f.scope f.variables inputs m.0 t r.there (truth_at f.scope f.variables f.assumptions r.assumptions i)))

  currents_wide : (m : AllBuilt) (is : List ℕ) → IsReady f inputs m.0 → AreWide m.0 m.1 1 → AreWide (with_currents f inputs m is).0 (with_currents f inputs m is).1 1
  currents_wide m [] r a = a
  currents_wide m (i ∷ is) r a =
      let n = one_current m i in
      let t = formula_at f.currents i in
      let g = current_grows m.0 i in
      let w = gate_wide two.Implies implies_gate m.0 (with_formula f.scope inputs m.0 t) (formula_grows f.scope f.variables inputs m.0 t) r.there.first (formula_wide f.scope f.variables inputs m.0 t r.there (truth_at f.scope f.variables f.currents r.currents i)) in
      currents_wide n is (ready_later f inputs m.0 n.0 (quietly m.0 n.0 g) r) (one_more n.0 m.1 _ (later_all m.0 n.0 m.1 g a) (record { low = omega arith; high = omega arith; width = w }))

  -- ---- the chain

  module _ (lines : List Line) (q : Query) (c : CanPutConditions f inputs lines q) where
    abbrev latch_m : Built
    latch_m = with_latch lines (q.name ++ codes ".ok") one_place

    abbrev given_m : AllBuilt
    given_m = with_assumptions f inputs (latch_m.0, []) q.assumptions

    abbrev held_m : AllBuilt
    held_m = with_currents f inputs given_m q.currents

    abbrev chain_m : Built
    chain_m = folded_lines two.And (held_m.0, latch_m.1) held_m.1

    chain_room : length chain_m.0 < greatest_id
    chain_room = omega (arith, c.room, extends_long chain_m.0 _ (next_extends chain_m.0 1 latch_m.1 chain_m.1))

    held_room : length held_m.0 < greatest_id
    held_room = omega (arith, chain_room, grown_long held_m.0 chain_m.0 (folded_grows two.And (held_m.0, latch_m.1) held_m.1))

    given_room : length given_m.0 < greatest_id
    given_room = omega (arith, held_room, grown_long given_m.0 held_m.0 (currents_grow given_m q.currents))

    latch_ready : IsReady f inputs latch_m.0
    latch_ready = ready_later f inputs lines latch_m.0 (latch_extends lines (q.name ++ codes ".ok") one_place) c.ready

    given_ready : IsReady f inputs given_m.0
    given_ready = ready_later f inputs latch_m.0 given_m.0 (quietly latch_m.0 given_m.0 (assumptions_grow (latch_m.0, []) q.assumptions)) latch_ready

    after_latch : GrowsByShared latch_m.0 held_m.0
    after_latch = grown_then latch_m.0 given_m.0 held_m.0 (assumptions_grow (latch_m.0, []) q.assumptions) (currents_grow given_m q.currents)

    pub conditions_latch : (name : List ℕ) → name ≡ q.name ++ codes ".ok" → CanPutLatch lines name one_place
    conditions_latch name e =
        subst (λ name. CanPutLatch lines name one_place) (sym e)
        (record { width = c.ready.there.one; room = omega (arith, given_room, grown_long latch_m.0 given_m.0 (assumptions_grow (latch_m.0, []) q.assumptions)) })

    pub latch_same : (name : List ℕ) (m : Built) → name ≡ q.name ++ codes ".ok" → m ≡ with_latch lines name one_place → m ≡ latch_m
    latch_same name m e g = g ∙ ap (λ name. with_latch lines name one_place) e

    pub conditions_assumptions : (m : AllBuilt) → m ≡ all_made latch_m.0 [] → CanPutAssumptions f inputs m q.assumptions
    conditions_assumptions m e = subst (λ m. CanPutAssumptions f inputs m q.assumptions) (sym e) (record { ready = latch_ready; within = c.whole.assumptions_there; room = given_room })

    pub conditions_currents : (m : AllBuilt) → m ≡ given_m → CanPutCurrents f inputs m q.currents
    conditions_currents m e = subst (λ m. CanPutCurrents f inputs m q.currents) (sym e) (record { ready = given_ready; within = c.whole.currents_there; room = held_room })

    and_keeps : Keeps two.And 1
    and_keeps = record { fits = refl; width = refl }

    held_wide : AreWide held_m.0 held_m.1 1
    held_wide = currents_wide given_m q.currents given_ready (assumptions_wide (latch_m.0, []) q.assumptions latch_ready tt)

    latch_wide : IsOpen is_next latch_m.0 latch_m.1 1 → IsWide held_m.0 latch_m.1 1
    latch_wide o = later_wide latch_m.0 held_m.0 latch_m.1 1 after_latch (record { low = omega arith; high = omega arith; width = o.width })

    pub conditions_fold : (l : Built) (m : AllBuilt) → l ≡ latch_m → m ≡ held_m → IsOpen is_next l.0 l.1 1 → CanFold two.And (m.0, l.1) m.1
    conditions_fold l m e g o =
        let here : IsOpen is_next latch_m.0 latch_m.1 1 = subst (λ (l : Built). IsOpen is_next l.0 l.1 1) e o in
        subst (λ (m : AllBuilt). CanFold two.And (m.0, l.1) m.1) (sym g) (subst (λ (l : Built). CanFold two.And (held_m.0, l.1) held_m.1) (sym e) (folded_can two.And 1 and_keeps (held_m.0, latch_m.1) held_m.1 (latch_wide here) held_wide chain_room))

    pub chain_same : (l : Built) (m : AllBuilt) → l ≡ latch_m → m ≡ held_m → folded_lines two.And (m.0, l.1) m.1 ≡ chain_m
    chain_same l m e g = ap (λ (m : AllBuilt). folded_lines two.And (m.0, l.1) m.1) g ∙ ap (λ (l : Built). folded_lines two.And (held_m.0, l.1) held_m.1) e

    pub conditions_next : (l k : Built) → l ≡ latch_m → k ≡ chain_m → IsOpen is_next l.0 l.1 1 → CanPutGiven k.0 line.Next 1 l.1 k.1
    conditions_next l k e g o =
        let here : IsOpen is_next latch_m.0 latch_m.1 1 = subst (λ (l : Built). IsOpen is_next l.0 l.1 1) e o in
        let grows = grown_then latch_m.0 held_m.0 chain_m.0 after_latch (folded_grows two.And (held_m.0, latch_m.1) held_m.1) in
        let w = folded_wide two.And 1 and_keeps (held_m.0, latch_m.1) held_m.1 (latch_wide here) held_wide in
        subst (λ (k : Built). CanPutGiven k.0 line.Next 1 l.1 k.1) (sym g) (subst (λ (l : Built). CanPutGiven chain_m.0 line.Next 1 l.1 chain_m.1) (sym e)
        (next_can chain_m.0 1 latch_m.1 chain_m.1 (omega arith) (omega arith) (later_open is_next next_gives latch_m.0 chain_m.0 latch_m.1 1 (omega arith) grows here) w.width c.room))

    pub conditions_are : (l k : Built) (new : List Line) → l ≡ latch_m → k ≡ chain_m → new ≡ with_given k.0 line.Next 1 l.1 k.1 → made new k.1 ≡ with_conditions f inputs lines q
    conditions_are l k new e g h =
        ap (λ ls. made ls k.1) h ∙ ap (λ (l : Built). made (with_given k.0 line.Next 1 l.1 k.1) k.1) e ∙ ap (λ (k : Built). made (with_given k.0 line.Next 1 latch_m.1 k.1) k.1) g

  pub conditions_extend : (lines : List Line) (q : Query) → Extends lines (with_conditions f inputs lines q).0
  conditions_extend lines q =
      let l = with_latch lines (q.name ++ codes ".ok") one_place in
      let a = with_assumptions f inputs (l.0, []) q.assumptions in
      let h = with_currents f inputs a q.currents in
      let k = folded_lines two.And (h.0, l.1) h.1 in
      extends_then lines l.0 _ (latch_extends lines (q.name ++ codes ".ok") one_place)
      (extends_then l.0 k.0 _ (quietly l.0 k.0 (grown_then l.0 a.0 k.0 (assumptions_grow (l.0, []) q.assumptions) (grown_then a.0 h.0 k.0 (currents_grow a q.currents) (folded_grows two.And (h.0, l.1) h.1)))) (next_extends k.0 1 l.1 k.1))

  pub conditions_wide : (lines : List Line) (q : Query) → IsReady f inputs lines → width_at (with_conditions f inputs lines q).0 (with_conditions f inputs lines q).1 ≡ 1
  conditions_wide lines q r =
      let l = with_latch lines (q.name ++ codes ".ok") one_place in
      let a = with_assumptions f inputs (l.0, []) q.assumptions in
      let h = with_currents f inputs a q.currents in
      let k = folded_lines two.And (h.0, l.1) h.1 in
      let after = ready_later f inputs lines l.0 (latch_extends lines (q.name ++ codes ".ok") one_place) r in
      let given = ready_later f inputs l.0 a.0 (quietly l.0 a.0 (assumptions_grow (l.0, []) q.assumptions)) after in
      let all = currents_wide a q.currents given (assumptions_wide (l.0, []) q.assumptions after tt) in
      let first = later_wide l.0 h.0 l.1 1 (grown_then l.0 a.0 h.0 (assumptions_grow (l.0, []) q.assumptions) (currents_grow a q.currents)) (record { low = omega arith; high = omega arith; width = latch_wide_at lines (q.name ++ codes ".ok") one_place }) in
      extends_width k.0 (with_given k.0 line.Next 1 l.1 k.1) k.1 1 (omega arith) (next_extends k.0 1 l.1 k.1) (folded_wide two.And 1 (record { fits = refl; width = refl }) (h.0, l.1) h.1 first all).width

-- one current condition
module _ (s : ScopeState) (inputs : List ℕ) (lines : List Line) (fs : List PlainFormula) (i : ℕ) (c : CanPutCurrent s inputs lines fs i) where
  pub current_numbered : CanPutNumbered s inputs lines fs i
  current_numbered =
      let n = with_formula s inputs lines (formula_at fs i) in
      record {
        within = c.within;
        can = record { vars = c.vars; there = c.there; truth = c.truth; room = omega (arith, c.room, grown_long n.0 (current_lines s inputs lines fs i).0 (binary_grows two.Implies n.0 first_place n.1)) };
      }

  pub current_gate : (m : Built) → m ≡ with_formula s inputs lines (formula_at fs i) → CanPutBinary two.Implies m.0 first_place m.1
  current_gate m e =
      let t = formula_at fs i in
      let n = with_formula s inputs lines t in
      subst (λ (m : Built). CanPutBinary two.Implies m.0 first_place m.1) (sym e) (gate_can two.Implies implies_gate lines n (formula_grows s c.vars inputs lines t) c.there.first (formula_wide s c.vars inputs lines t c.there c.truth) c.room)
