-- What the lines of queries ask for.
use Rattle.std.proofs.Common.{◌≡◌, ℕ, zero, suc, ◌+◌, ◌<◌, List, [], ◌∷◌, ◌++◌, length, map, refl, sym, ap, ◌∙◌, subst, arith}
use Rattle.std.specs.Prelude.{Result, Ok, Err, OnOk, codes, slice_index_or}
use Rattle.std.proofs.lemmas.List.{length-append}
use Rattle.word_core.specs.declared.kinds.Binary.TheVariants as two
use Rattle.btor_tree.specs.declared.lines.Line.{Line}
use Rattle.btor_tree.specs.declared.lines.LineOp.TheVariants as line
use Rattle.btor_tree.specs.Fits.{greatest_id, is_next, width_at}
use Rattle.btor_tree.specs.Sharing.{GrowsByShared}
use Rattle.moxi_scripts.specs.declared.script.Formula.{Formula}
use Rattle.moxi_scripts.specs.Script.{formula_at, plain_formula}
use Rattle.moxi_flat.specs.FlatSystem.{PlainFlatSystem}
use Rattle.moxi_lines.specs.TermLines.{Built, with_binary}
use Rattle.moxi_lines.proofs.Growing.{grown_long, grown_then}
use Rattle.moxi_lines.proofs.Chains.{binary_grows}
use Rattle.moxi_to_btor.specs.TermPutting.{CanPutBinary}
use Rattle.moxi_to_btor.proofs.Widths.{IsWide, binary_can, binary_wide, later_wide}
use Rattle.moxi_to_btor.proofs.ChainWidths.{AreWide, Keeps}
use Rattle.moxi_lines.specs.Lines.{Reaching, formula_name, with_formula, with_given, with_latch, with_reachable, with_reachables, zero_place}
use Rattle.moxi_lines.proofs.Extending.{Extends, extends_long, extends_none, extends_then, extends_width, quietly}
use Rattle.moxi_to_btor.specs.Putting.{CanPutGiven, IsOpen}
use Rattle.moxi_to_btor.specs.Queries.{AreTruths, CanPutLatch, CanPutNumbered, CanPutReachable, CanPutReachables, IsReady, reaching}
use Rattle.moxi_to_btor.proofs.Giving.{later_open, next_can, next_extends, next_gives}
use Rattle.moxi_to_btor.proofs.PartSteps.{formula_grows, formula_wide}
use Rattle.moxi_to_btor.proofs.ConditionSteps.{latch_extends, latch_wide_at, ready_later, truth_at}

pub truth_wide : (lines : List Line) (p : ℕ) → width_at lines p ≡ 1 → IsWide lines p 1
truth_wide lines p e = record { low = omega arith; high = omega arith; width = e }

pub truths_wide : (lines : List Line) (ps : List ℕ) → AreTruths lines ps → AreWide lines ps 1
truths_wide lines [] a = tt
truths_wide lines (p ∷ ps) a = (truth_wide lines p a.0, truths_wide lines ps a.1)

pub truths_later : (a b : List Line) (ps : List ℕ) → Extends a b → AreTruths a ps → AreTruths b ps
truths_later a b [] g h = tt
truths_later a b (p ∷ ps) g h = (extends_width a b p 1 (omega arith) g h.0, truths_later a b ps g h.1)

pub truths_append : (lines : List Line) (ps qs : List ℕ) → AreTruths lines ps → AreTruths lines qs → AreTruths lines (ps ++ qs)
truths_append lines [] qs a b = b
truths_append lines (p ∷ ps) qs a b = (a.0, truths_append lines ps qs a.1 b)

pub or_keeps : Keeps two.Or 1
or_keeps = record { fits = refl; width = refl }

pub reached_same : {A E : Type 0} (r : Result A E) (seen more : List ℕ) (new : List Line) (formulas : List ℕ) (x : Reaching) → (seen ≡ more → reaching new formulas seen ≡ x) → OnOk r (seen ≡ more) → OnOk r (reaching new formulas seen ≡ x)
reached_same (Ok y) seen more new formulas x h e = h e
reached_same (Err y) seen more new formulas x h e = e

-- ---- one of several formulas

pub name_is : (fs : List Formula) (i : ℕ) (x : Formula) → i < length (map plain_formula fs) → x ≡ slice_index_or fs i x → formula_name (map plain_formula fs) i ≡ x.name
name_is [] i x h e = absurd (omega (arith, h))
name_is (f ∷ fs) zero x h e = ap (λ (f : Formula). f.name) (sym e)
name_is (f ∷ fs) (suc i) x h e = name_is fs i x (omega (arith, h)) e

module _ (f : PlainFlatSystem) (inputs name : List ℕ) where
  abbrev pub latch_name : ℕ → List ℕ
  latch_name r = name ++ (codes "." ++ (formula_name f.reachables r ++ codes ".seen"))

  abbrev seen_m : List Line → ℕ → Built
  seen_m lines r = with_latch lines (latch_name r) zero_place

  abbrev formula_m : List Line → ℕ → Built
  formula_m lines r = with_formula f.scope inputs (seen_m lines r).0 (formula_at f.reachables r)

  abbrev met_m : List Line → ℕ → Built
  met_m lines r = with_binary two.Or (formula_m lines r).0 (seen_m lines r).1 (formula_m lines r).1

  abbrev next_l : List Line → ℕ → List Line
  next_l lines r = with_given (met_m lines r).0 line.Next 1 (seen_m lines r).1 (met_m lines r).1

  seen_grows : (lines : List Line) (r : ℕ) → GrowsByShared (seen_m lines r).0 (formula_m lines r).0
  seen_grows lines r = formula_grows f.scope f.variables inputs (seen_m lines r).0 (formula_at f.reachables r)

  met_grows : (lines : List Line) (r : ℕ) → GrowsByShared (formula_m lines r).0 (met_m lines r).0
  met_grows lines r = binary_grows two.Or (formula_m lines r).0 (seen_m lines r).1 (formula_m lines r).1

  formula_after : (lines : List Line) (r : ℕ) → Extends (formula_m lines r).0 (next_l lines r)
  formula_after lines r =
      extends_then (formula_m lines r).0 (met_m lines r).0 (next_l lines r) (quietly _ _ (met_grows lines r)) (next_extends (met_m lines r).0 1 (seen_m lines r).1 (met_m lines r).1)

  reachable_extends : (lines : List Line) (r : ℕ) → Extends lines (next_l lines r)
  reachable_extends lines r =
      extends_then lines (seen_m lines r).0 (next_l lines r) (latch_extends lines (latch_name r) zero_place) (extends_then (seen_m lines r).0 (formula_m lines r).0 (next_l lines r) (quietly _ _ (seen_grows lines r)) (formula_after lines r))

  pub reachables_extend : (m : Reaching) (rs : List ℕ) → Extends m.lines (with_reachables f inputs name m rs).lines
  reachables_extend m [] = extends_none m.lines
  reachables_extend m (r ∷ rs) = let n = with_reachable f inputs name m r in extends_then m.lines n.lines _ (reachable_extends m.lines r) (reachables_extend n rs)

  module _ (lines : List Line) (r : ℕ) (ready : IsReady f inputs lines) where
    seen_ready : IsReady f inputs (seen_m lines r).0
    seen_ready = ready_later f inputs lines (seen_m lines r).0 (latch_extends lines (latch_name r) zero_place) ready

    formula_is_wide : IsWide (formula_m lines r).0 (formula_m lines r).1 1
    formula_is_wide = formula_wide f.scope f.variables inputs (seen_m lines r).0 (formula_at f.reachables r) seen_ready.there (truth_at f.scope f.variables f.reachables ready.reachables r)

    seen_wide : IsWide (formula_m lines r).0 (seen_m lines r).1 1
    seen_wide = later_wide (seen_m lines r).0 (formula_m lines r).0 (seen_m lines r).1 1 (seen_grows lines r) (truth_wide _ _ (latch_wide_at lines (latch_name r) zero_place))

    met_wide : IsWide (met_m lines r).0 (met_m lines r).1 1
    met_wide = binary_wide two.Or (formula_m lines r).0 (seen_m lines r).1 (formula_m lines r).1 1 1 seen_wide formula_is_wide (omega arith) (omega arith)

    formula_truth : width_at (next_l lines r) (formula_m lines r).1 ≡ 1
    formula_truth = extends_width (formula_m lines r).0 (next_l lines r) (formula_m lines r).1 1 (omega arith) (formula_after lines r) formula_is_wide.width

    met_truth : width_at (next_l lines r) (met_m lines r).1 ≡ 1
    met_truth = extends_width (met_m lines r).0 (next_l lines r) (met_m lines r).1 1 (omega arith) (next_extends (met_m lines r).0 1 (seen_m lines r).1 (met_m lines r).1) met_wide.width

  module _ (m : Reaching) (r : ℕ) (c : CanPutReachable f inputs name m r) where
    met_room : length (met_m m.lines r).0 < greatest_id
    met_room = omega (arith, c.room, extends_long (met_m m.lines r).0 (next_l m.lines r) (next_extends (met_m m.lines r).0 1 (seen_m m.lines r).1 (met_m m.lines r).1))

    formula_room : length (formula_m m.lines r).0 < greatest_id
    formula_room = omega (arith, met_room, grown_long (formula_m m.lines r).0 (met_m m.lines r).0 (met_grows m.lines r))

    pub reachable_latch : (all : List ℕ) → all ≡ latch_name r → CanPutLatch m.lines all zero_place
    reachable_latch all e =
        subst (λ n. CanPutLatch m.lines n zero_place) (sym e) (record { width = c.ready.there.zero; room = omega (arith, formula_room, grown_long (seen_m m.lines r).0 (formula_m m.lines r).0 (seen_grows m.lines r)) })

    pub latch_here : (all : List ℕ) (l : Built) → all ≡ latch_name r → l ≡ with_latch m.lines all zero_place → l ≡ seen_m m.lines r
    latch_here all l e g = g ∙ ap (λ n. with_latch m.lines n zero_place) e

    pub reachable_numbered : (l : Built) → l ≡ seen_m m.lines r → CanPutNumbered f.scope inputs l.0 f.reachables r
    reachable_numbered l e =
        subst (λ (l : Built). CanPutNumbered f.scope inputs l.0 f.reachables r) (sym e)
        (record { within = c.within; can = record { vars = f.variables; there = (seen_ready m.lines r c.ready).there; truth = truth_at f.scope f.variables f.reachables c.ready.reachables r; room = formula_room } })

    pub reachable_met : (l p : Built) → l ≡ seen_m m.lines r → p ≡ formula_m m.lines r → CanPutBinary two.Or p.0 l.1 p.1
    reachable_met l p e g =
        subst (λ (p : Built). CanPutBinary two.Or p.0 l.1 p.1) (sym g) (subst (λ (l : Built). CanPutBinary two.Or (formula_m m.lines r).0 l.1 (formula_m m.lines r).1) (sym e)
        (binary_can two.Or (formula_m m.lines r).0 (seen_m m.lines r).1 (formula_m m.lines r).1 1 1 (seen_wide m.lines r c.ready) (formula_is_wide m.lines r c.ready) refl (omega arith) (omega arith) met_room))

    pub met_here : (l p o : Built) → l ≡ seen_m m.lines r → p ≡ formula_m m.lines r → o ≡ with_binary two.Or p.0 l.1 p.1 → o ≡ met_m m.lines r
    met_here l p o e g h = h ∙ ap (λ (p : Built). with_binary two.Or p.0 l.1 p.1) g ∙ ap (λ (l : Built). with_binary two.Or (formula_m m.lines r).0 l.1 (formula_m m.lines r).1) e

    pub reachable_next : (l k : Built) → l ≡ seen_m m.lines r → k ≡ met_m m.lines r → IsOpen is_next l.0 l.1 1 → CanPutGiven k.0 line.Next 1 l.1 k.1
    reachable_next l k e g o =
        let here : IsOpen is_next (seen_m m.lines r).0 (seen_m m.lines r).1 1 = subst (λ (l : Built). IsOpen is_next l.0 l.1 1) e o in
        let grows = grown_then (seen_m m.lines r).0 (formula_m m.lines r).0 (met_m m.lines r).0 (seen_grows m.lines r) (met_grows m.lines r) in
        subst (λ (k : Built). CanPutGiven k.0 line.Next 1 l.1 k.1) (sym g) (subst (λ (l : Built). CanPutGiven (met_m m.lines r).0 line.Next 1 l.1 (met_m m.lines r).1) (sym e)
        (next_can (met_m m.lines r).0 1 (seen_m m.lines r).1 (met_m m.lines r).1 (omega arith) (omega arith) (later_open is_next next_gives _ _ (seen_m m.lines r).1 1 (omega arith) grows here) (met_wide m.lines r c.ready).width c.room))

    pub reachable_is : (l p k : Built) (new : List Line) (formulas seen : List ℕ) → l ≡ seen_m m.lines r → p ≡ formula_m m.lines r → k ≡ met_m m.lines r → new ≡ with_given k.0 line.Next 1 l.1 k.1
        → formulas ≡ m.formulas ++ p.1 ∷ [] → seen ≡ m.seen ++ k.1 ∷ [] → reaching new formulas seen ≡ with_reachable f inputs name m r
    reachable_is l p k new formulas seen e g h i j t =
        ap (λ ls. reaching ls formulas seen) (i ∙ ap (λ (l : Built). with_given k.0 line.Next 1 l.1 k.1) e ∙ ap (λ (k : Built). with_given k.0 line.Next 1 (seen_m m.lines r).1 k.1) h)
        ∙ ap (λ fs. reaching (next_l m.lines r) fs seen) (j ∙ ap (λ (p : Built). m.formulas ++ p.1 ∷ []) g) ∙ ap (reaching (next_l m.lines r) (with_reachable f inputs name m r).formulas) (t ∙ ap (λ (k : Built). m.seen ++ k.1 ∷ []) h)

  -- ---- all of them

  pub first_reachable : (m : Reaching) (r : ℕ) (rs : List ℕ) → CanPutReachables f inputs name m (r ∷ rs) → CanPutReachable f inputs name m r
  first_reachable m r rs c =
      let n = with_reachable f inputs name m r in
      record { ready = c.ready; within = c.within.0; room = omega (arith, c.room, extends_long n.lines (with_reachables f inputs name n rs).lines (reachables_extend n rs)) }

  pub rest_reachables : (m n : Reaching) (r : ℕ) (rs : List ℕ) → CanPutReachables f inputs name m (r ∷ rs) → n ≡ with_reachable f inputs name m r → CanPutReachables f inputs name n rs
  rest_reachables m n r rs c e =
      subst (λ n. CanPutReachables f inputs name n rs) (sym e) (record { ready = ready_later f inputs m.lines (next_l m.lines r) (reachable_extends m.lines r) c.ready; within = c.within.1; room = c.room })

  -- their formulas, and what tells whether each was met, are truth values
  pub record AreReached (m : Reaching) : Type 0 where
    pub formulas : AreTruths m.lines m.formulas
    pub seen : AreTruths m.lines m.seen

  one_reached : (m : Reaching) (r : ℕ) → IsReady f inputs m.lines → AreReached m → AreReached (with_reachable f inputs name m r)
  one_reached m r ready a =
      let g = reachable_extends m.lines r in
      record {
        formulas = truths_append (next_l m.lines r) m.formulas ((formula_m m.lines r).1 ∷ []) (truths_later m.lines (next_l m.lines r) m.formulas g a.formulas) (formula_truth m.lines r ready, tt);
        seen = truths_append (next_l m.lines r) m.seen ((met_m m.lines r).1 ∷ []) (truths_later m.lines (next_l m.lines r) m.seen g a.seen) (met_truth m.lines r ready, tt);
      }

  pub all_reached : (m : Reaching) (rs : List ℕ) → IsReady f inputs m.lines → AreReached m → AreReached (with_reachables f inputs name m rs)
  all_reached m [] ready a = a
  all_reached m (r ∷ rs) ready a = all_reached (with_reachable f inputs name m r) rs (ready_later f inputs m.lines (next_l m.lines r) (reachable_extends m.lines r) ready) (one_reached m r ready a)

  pub formulas_long : (m : Reaching) (rs : List ℕ) → length (with_reachables f inputs name m rs).formulas ≡ length m.formulas + length rs
  formulas_long m [] = omega arith
  formulas_long m (r ∷ rs) = omega (arith, formulas_long (with_reachable f inputs name m r) rs, length-append m.formulas ((formula_m m.lines r).1 ∷ []))

  pub seen_long : (m : Reaching) (rs : List ℕ) → length (with_reachables f inputs name m rs).seen ≡ length m.seen + length rs
  seen_long m [] = omega arith
  seen_long m (r ∷ rs) = omega (arith, seen_long (with_reachable f inputs name m r) rs, length-append m.seen ((met_m m.lines r).1 ∷ []))
