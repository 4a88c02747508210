-- What the words of queries ask for.
use Rattle.std.proofs.Common.{◌≡◌, ℕ, ◌<◌, ◌≤◌, Bool, true, false, cond, List, [], ◌∷◌, ◌++◌, length, refl, sym, ap, ◌∙◌, subst, arith}
use Rattle.std.specs.Prelude.{Some, slice_get, slice_index_or}
use Rattle.std.proofs.lemmas.Option.{none-some, same_Some}
use Rattle.std.specs.List.{AllByRecursion}
use Rattle.std.proofs.lemmas.List.{length-append}
use Rattle.word_core.specs.declared.kinds.Binary.TheVariants as two
use Rattle.btor_tree.specs.declared.lines.Line.{Line}
use Rattle.btor_tree.specs.Fits.{greatest_id, width_at}
use Rattle.btor_tree.specs.Sharing.{GrowsByShared}
use Rattle.moxi_scripts.specs.declared.script.Query.{Query}
use Rattle.moxi_scripts.specs.Script.{formula_at}
use Rattle.moxi_scripts.specs.QueryReading.{some_distinct}
use Rattle.moxi_flat.specs.FlatSystem.{PlainFlatSystem}
use Rattle.moxi_lines.specs.TermLines.{Built, chain_lines, with_binary}
use Rattle.moxi_lines.proofs.Growing.{grown_long, grown_none, grown_then}
use Rattle.moxi_lines.proofs.Chains.{binary_grows, chain_grows}
use Rattle.moxi_to_btor.specs.TermPutting.{CanChain, CanPutBinary}
use Rattle.moxi_to_btor.proofs.Widths.{IsWide, binary_can, binary_wide, later_wide}
use Rattle.moxi_to_btor.proofs.ChainWidths.{chain_can, chain_wide, and_keeps}
use Rattle.moxi_lines.specs.Lines.{Reaching, has_conditions, with_all_met, with_conditions, with_formula, with_goal, with_one_met, with_queries, with_query, with_reachables}
use Rattle.moxi_lines.proofs.Extending.{Extends, extends_long, extends_none, extends_then, quietly}
use Rattle.moxi_to_btor.specs.Putting.{CanPutTruth}
use Rattle.moxi_to_btor.specs.Queries.{AreTruths, CanPutAllMet, CanPutConditions, CanPutGoal, CanPutNumbered, CanPutOneMet, CanPutQueries, CanPutQuery, CanPutReachables, CanPutSeveral, IsReady, reaching, whole_goal}
use Rattle.moxi_to_btor.proofs.PartSteps.{formula_grows, formula_wide}
use Rattle.moxi_to_btor.proofs.ConditionSteps.{conditions_extend, conditions_wide, ready_later, truth_at}
use Rattle.moxi_to_btor.proofs.QuerySteps.{all_reached, formulas_long, or_keeps, reachables_extend, seen_long, truth_wide, truths_append, truths_later, truths_wide}

-- ---- all formulas

module _ (m : Reaching) (before : List ℕ) where
  abbrev all_m : Built
  all_m = chain_lines two.And m.lines (before ++ m.seen)

  abbrev some_m : Built
  some_m = chain_lines two.Or all_m.0 m.formulas

  abbrev both_m : Built
  both_m = with_binary two.And some_m.0 all_m.1 some_m.1

  all_grows : GrowsByShared m.lines all_m.0
  all_grows = chain_grows two.And m.lines (before ++ m.seen)

  some_grows : GrowsByShared all_m.0 some_m.0
  some_grows = chain_grows two.Or all_m.0 m.formulas

  both_grows : GrowsByShared some_m.0 both_m.0
  both_grows = binary_grows two.And some_m.0 all_m.1 some_m.1

  pub all_met_grows : GrowsByShared m.lines (with_all_met m before).0
  all_met_grows = grown_then m.lines all_m.0 both_m.0 all_grows (grown_then all_m.0 some_m.0 both_m.0 some_grows both_grows)

  module _ (c : CanPutAllMet m before) where
    some_room : length some_m.0 < greatest_id
    some_room = omega (arith, c.room, grown_long some_m.0 both_m.0 both_grows)

    all_room : length all_m.0 < greatest_id
    all_room = omega (arith, some_room, grown_long all_m.0 some_m.0 some_grows)

    all_wide : IsWide some_m.0 all_m.1 1
    all_wide =
        let long : 1 ≤ length (before ++ m.seen) = omega (arith, c.some_seen, length-append before m.seen) in
        later_wide all_m.0 some_m.0 all_m.1 1 some_grows (chain_wide two.And 1 and_keeps m.lines (before ++ m.seen) long (truths_wide m.lines (before ++ m.seen) (truths_append m.lines before m.seen c.before_truths c.seen_truths)))

    some_wide : IsWide some_m.0 some_m.1 1
    some_wide = chain_wide two.Or 1 or_keeps all_m.0 m.formulas c.some_formula (truths_wide all_m.0 m.formulas (truths_later m.lines all_m.0 m.formulas (quietly m.lines all_m.0 all_grows) c.formula_truths))

    pub met_chain : (parts : List ℕ) → parts ≡ before ++ m.seen → CanChain two.And m.lines parts
    met_chain parts e =
        subst (CanChain two.And m.lines) (sym e) (chain_can two.And 1 and_keeps m.lines (before ++ m.seen) (truths_wide m.lines (before ++ m.seen) (truths_append m.lines before m.seen c.before_truths c.seen_truths)) all_room)

    pub some_chain : (a : Built) → a ≡ all_m → CanChain two.Or a.0 m.formulas
    some_chain a e =
        subst (λ (a : Built). CanChain two.Or a.0 m.formulas) (sym e)
        (chain_can two.Or 1 or_keeps all_m.0 m.formulas (truths_wide all_m.0 m.formulas (truths_later m.lines all_m.0 m.formulas (quietly m.lines all_m.0 all_grows) c.formula_truths)) some_room)

    pub both_can : (a s : Built) → a ≡ all_m → s ≡ some_m → CanPutBinary two.And s.0 a.1 s.1
    both_can a s e g =
        subst (λ (s : Built). CanPutBinary two.And s.0 a.1 s.1) (sym g) (subst (λ (a : Built). CanPutBinary two.And some_m.0 a.1 some_m.1) (sym e)
        (binary_can two.And some_m.0 all_m.1 some_m.1 1 1 all_wide some_wide refl (omega arith) (omega arith) c.room))

    pub both_is : (a s : Built) → a ≡ all_m → s ≡ some_m → with_binary two.And s.0 a.1 s.1 ≡ with_all_met m before
    both_is a s e g = ap (λ (s : Built). with_binary two.And s.0 a.1 s.1) g ∙ ap (λ (a : Built). with_binary two.And some_m.0 a.1 some_m.1) e

    pub all_met_truth : width_at (with_all_met m before).0 (with_all_met m before).1 ≡ 1
    all_met_truth = (binary_wide two.And some_m.0 all_m.1 some_m.1 1 1 all_wide some_wide (omega arith) (omega arith)).width

-- ---- one formula

pub one_met_grows : (m : Built) (before : List ℕ) → GrowsByShared m.0 (with_one_met m before).0
one_met_grows m [] = grown_none m.0
one_met_grows m (p ∷ ps) = binary_grows two.And m.0 p m.1

pub one_met_binary : (lines : List Line) (p q : ℕ) (ps : List ℕ) → CanPutOneMet lines p (q ∷ ps) → CanPutBinary two.And lines q p
one_met_binary lines p q ps c = binary_can two.And lines q p 1 1 (truth_wide lines q c.before_truths.0) (truth_wide lines p c.truth) refl (omega arith) (omega arith) c.room

pub one_met_first : (lines : List Line) (p q : ℕ) (before : List ℕ) → CanPutOneMet lines p before → Some q ≡ slice_get before 0 → CanPutBinary two.And lines q p
one_met_first lines p q [] c e = absurd (none-some q (sym e))
one_met_first lines p q (r ∷ ps) c e = subst (λ r. CanPutBinary two.And lines r p) (sym (same_Some q r e)) (one_met_binary lines p r ps c)

pub one_met_truth : (m : Built) (before : List ℕ) → AreTruths m.0 before → width_at m.0 m.1 ≡ 1 → width_at (with_one_met m before).0 (with_one_met m before).1 ≡ 1
one_met_truth m [] a e = e
one_met_truth m (p ∷ ps) a e = (binary_wide two.And m.0 p m.1 1 1 (truth_wide m.0 p a.0) (truth_wide m.0 m.1 e) (omega arith) (omega arith)).width

-- ---- goals

pub only_one : (rs : List ℕ) (x : ℕ) → length rs ≡ 1 → rs ≡ slice_index_or rs 0 x ∷ []
only_one [] x h = absurd (omega (arith, h))
only_one (r ∷ []) x h = refl
only_one (r ∷ s ∷ rs) x h = absurd (omega (arith, h))

some_long : (rs : List ℕ) → some_distinct rs ≡ true → 1 ≤ length rs
some_long [] h = absurd (cc)
some_long (r ∷ rs) h = omega arith

module _ (f : PlainFlatSystem) (inputs : List ℕ) (q : Query) (before : List ℕ) (lines : List Line) where
  abbrev start : Reaching
  start = reaching lines [] []

  abbrev several : List ℕ → Built
  several rs = with_all_met (with_reachables f inputs q.name start rs) before

  pub goal_several : (rs : List ℕ) → (length rs ≡ 1 → ⊥) → with_goal f inputs q before lines rs ≡ several rs
  goal_several [] h = refl
  goal_several (r ∷ []) h = absurd (h refl)
  goal_several (r ∷ s ∷ rs) h = refl

  several_extends : (rs : List ℕ) → Extends lines (several rs).0
  several_extends rs =
      let r = with_reachables f inputs q.name start rs in
      extends_then lines r.lines (several rs).0 (reachables_extend f inputs q.name start rs) (quietly r.lines (several rs).0 (all_met_grows r before))

  pub goal_extends : (rs : List ℕ) → Extends lines (with_goal f inputs q before lines rs).0
  goal_extends [] = several_extends []
  goal_extends (r ∷ []) =
      let m = with_formula f.scope inputs lines (formula_at f.reachables r) in
      quietly lines (with_one_met m before).0 (grown_then lines m.0 (with_one_met m before).0 (formula_grows f.scope f.variables inputs lines (formula_at f.reachables r)) (one_met_grows m before))
  goal_extends (r ∷ s ∷ rs) = several_extends (r ∷ s ∷ rs)

  module _ (ready : IsReady f inputs lines) (before_truths : AreTruths lines before) where
    all_met_can : (rs : List ℕ) → 1 ≤ length rs → length (several rs).0 < greatest_id → CanPutAllMet (with_reachables f inputs q.name start rs) before
    all_met_can rs long room =
        let r = with_reachables f inputs q.name start rs in
        let a = all_reached f inputs q.name start rs ready (record { formulas = tt; seen = tt }) in
        record {
          before_truths = truths_later lines r.lines before (reachables_extend f inputs q.name start rs) before_truths;
          formula_truths = a.formulas;
          seen_truths = a.seen;
          some_formula = omega (arith, long, formulas_long f inputs q.name start rs);
          some_seen = omega (arith, long, seen_long f inputs q.name start rs);
          room = room;
        }

    one_wide : (r : ℕ) → IsWide (with_formula f.scope inputs lines (formula_at f.reachables r)).0 (with_formula f.scope inputs lines (formula_at f.reachables r)).1 1
    one_wide r = formula_wide f.scope f.variables inputs lines (formula_at f.reachables r) ready.there (truth_at f.scope f.variables f.reachables ready.reachables r)

    before_later : (r : ℕ) → AreTruths (with_formula f.scope inputs lines (formula_at f.reachables r)).0 before
    before_later r =
        let m = with_formula f.scope inputs lines (formula_at f.reachables r) in
        truths_later lines m.0 before (quietly lines m.0 (formula_grows f.scope f.variables inputs lines (formula_at f.reachables r))) before_truths

    pub goal_truth : (rs : List ℕ) → 1 ≤ length rs → length (with_goal f inputs q before lines rs).0 < greatest_id → width_at (with_goal f inputs q before lines rs).0 (with_goal f inputs q before lines rs).1 ≡ 1
    goal_truth [] long room = absurd (omega (arith, long))
    goal_truth (r ∷ []) long room = one_met_truth (with_formula f.scope inputs lines (formula_at f.reachables r)) before (before_later r) (one_wide r).width
    goal_truth (r ∷ s ∷ rs) long room = all_met_truth (with_reachables f inputs q.name start (r ∷ s ∷ rs)) before (all_met_can (r ∷ s ∷ rs) long room)

    numbered_can : (r : ℕ) → r < length f.reachables → length (with_one_met (with_formula f.scope inputs lines (formula_at f.reachables r)) before).0 < greatest_id → CanPutNumbered f.scope inputs lines f.reachables r
    numbered_can r h room =
        let m = with_formula f.scope inputs lines (formula_at f.reachables r) in
        record {
          within = h;
          can = record { vars = f.variables; there = ready.there; truth = truth_at f.scope f.variables f.reachables ready.reachables r; room = omega (arith, room, grown_long m.0 (with_one_met m before).0 (one_met_grows m before)) };
        }

    one_met_can : (r : ℕ) → length (with_one_met (with_formula f.scope inputs lines (formula_at f.reachables r)) before).0 < greatest_id
        → CanPutOneMet (with_formula f.scope inputs lines (formula_at f.reachables r)).0 (with_formula f.scope inputs lines (formula_at f.reachables r)).1 before
    one_met_can r room = record { before_truths = before_later r; truth = (one_wide r).width; room = room }

  -- ---- what the code's steps ask for

  module _ (c : CanPutGoal f inputs q before lines) where
    single_room : (r : ℕ) → q.reachables ≡ r ∷ [] → length (with_one_met (with_formula f.scope inputs lines (formula_at f.reachables r)) before).0 < greatest_id
    single_room r e = subst (λ rs. length (with_goal f inputs q before lines rs).0 < greatest_id) e c.room

    pub goal_numbered : (r : ℕ) → q.reachables ≡ r ∷ [] → CanPutNumbered f.scope inputs lines f.reachables r
    goal_numbered r e = numbered_can c.ready c.before_truths r (subst (λ rs. AllByRecursion (λ (i : ℕ). i < length f.reachables) rs) e c.whole.reachables_there).0 (single_room r e)

    pub goal_one : (r : ℕ) (m : Built) → q.reachables ≡ r ∷ [] → m ≡ with_formula f.scope inputs lines (formula_at f.reachables r) → CanPutOneMet m.0 m.1 before
    goal_one r m e g = subst (λ (m : Built). CanPutOneMet m.0 m.1 before) (sym g) (one_met_can c.ready c.before_truths r (single_room r e))

    pub goal_one_is : (r : ℕ) (m : Built) → q.reachables ≡ r ∷ [] → m ≡ with_formula f.scope inputs lines (formula_at f.reachables r) → with_one_met m before ≡ with_goal f inputs q before lines q.reachables
    goal_one_is r m e g = ap (λ m. with_one_met m before) g ∙ sym (ap (with_goal f inputs q before lines) e)

    pub goal_several_can : (length q.reachables ≡ 1 → ⊥) → CanPutSeveral f inputs q before lines
    goal_several_can h = record { ready = c.ready; whole = c.whole; before_truths = c.before_truths; room = subst (λ (m : Built). length m.0 < greatest_id) (goal_several q.reachables h) c.room }

  module _ (c : CanPutSeveral f inputs q before lines) where
    pub several_reachables : CanPutReachables f inputs q.name start q.reachables
    several_reachables =
        let r = with_reachables f inputs q.name start q.reachables in
        record { ready = c.ready; within = c.whole.reachables_there; room = omega (arith, c.room, grown_long r.lines (several q.reachables).0 (all_met_grows r before)) }

    pub several_start : (name : List ℕ) (m : Reaching) (rs : List ℕ) → name ≡ q.name → m ≡ start → rs ≡ q.reachables → CanPutReachables f inputs name m rs
    several_start name m rs e g h =
        subst (λ name. CanPutReachables f inputs name m rs) (sym e) (subst (λ m. CanPutReachables f inputs q.name m rs) (sym g) (subst (CanPutReachables f inputs q.name start) (sym h) several_reachables))

    pub several_end : (name : List ℕ) (m : Reaching) (rs : List ℕ) → name ≡ q.name → m ≡ start → rs ≡ q.reachables → with_reachables f inputs name m rs ≡ with_reachables f inputs q.name start q.reachables
    several_end name m rs e g h = ap (λ name. with_reachables f inputs name m rs) e ∙ ap (λ m. with_reachables f inputs q.name m rs) g ∙ ap (with_reachables f inputs q.name start) h

    pub several_all_met : (m : Reaching) → m ≡ with_reachables f inputs q.name start q.reachables → CanPutAllMet m before
    several_all_met m e = subst (λ m. CanPutAllMet m before) (sym e) (all_met_can c.ready c.before_truths q.reachables (some_long q.reachables c.whole.reachables_differ) c.room)

-- ---- queries

module _ (f : PlainFlatSystem) (inputs : List ℕ) (lines : List Line) (q : Query) where
  abbrev chain_m : Built
  chain_m = with_conditions f inputs lines q

  abbrev held_m : Built
  held_m = with_goal f inputs q (chain_m.1 ∷ []) chain_m.0 q.reachables

  abbrev free_m : Built
  free_m = with_goal f inputs q [] lines q.reachables

  bad_extends : Extends (whole_goal f inputs lines q).0 (with_query f inputs lines q)
  bad_extends = record { more = _; is = refl }

  goal_after : (b : Bool) → Extends lines (cond b held_m free_m).0
  goal_after true = extends_then lines chain_m.0 held_m.0 (conditions_extend f inputs lines q) (goal_extends f inputs q (chain_m.1 ∷ []) chain_m.0 q.reachables)
  goal_after false = goal_extends f inputs q [] lines q.reachables

  pub query_extends : Extends lines (with_query f inputs lines q)
  query_extends = extends_then lines (whole_goal f inputs lines q).0 (with_query f inputs lines q) (goal_after (has_conditions q.assumptions q.currents)) bad_extends

  module _ (c : CanPutQuery f inputs lines q) where
    goal_room : length (whole_goal f inputs lines q).0 < greatest_id
    goal_room = omega (arith, c.room, extends_long (whole_goal f inputs lines q).0 (with_query f inputs lines q) bad_extends)

    room_at : (b : Bool) → has_conditions q.assumptions q.currents ≡ b → length (cond b held_m free_m).0 < greatest_id
    room_at b e = subst (λ b. length (cond b held_m free_m).0 < greatest_id) e goal_room

    chain_ready : IsReady f inputs chain_m.0
    chain_ready = ready_later f inputs lines chain_m.0 (conditions_extend f inputs lines q) c.ready

    pub query_conditions : has_conditions q.assumptions q.currents ≡ true → CanPutConditions f inputs lines q
    query_conditions e =
        record { ready = c.ready; whole = c.whole; room = omega (arith, room_at true e, extends_long chain_m.0 held_m.0 (goal_extends f inputs q (chain_m.1 ∷ []) chain_m.0 q.reachables)) }

    pub query_held : (k : Built) → has_conditions q.assumptions q.currents ≡ true → k ≡ chain_m → CanPutGoal f inputs q (k.1 ∷ []) k.0
    query_held k e g =
        subst (λ (k : Built). CanPutGoal f inputs q (k.1 ∷ []) k.0) (sym g)
        (record { ready = chain_ready; whole = c.whole; before_truths = (conditions_wide f inputs lines q c.ready, tt); room = room_at true e })

    pub query_held_is : (k : Built) → has_conditions q.assumptions q.currents ≡ true → k ≡ chain_m → with_goal f inputs q (k.1 ∷ []) k.0 q.reachables ≡ whole_goal f inputs lines q
    query_held_is k e g = ap (λ (k : Built). with_goal f inputs q (k.1 ∷ []) k.0 q.reachables) g ∙ sym (ap (λ b. cond b held_m free_m) e)

    pub query_free : has_conditions q.assumptions q.currents ≡ false → CanPutGoal f inputs q [] lines
    query_free e = record { ready = c.ready; whole = c.whole; before_truths = tt; room = room_at false e }

    pub query_free_is : has_conditions q.assumptions q.currents ≡ false → free_m ≡ whole_goal f inputs lines q
    query_free_is e = sym (ap (λ b. cond b held_m free_m) e)

    truth_by : (b : Bool) → length (cond b held_m free_m).0 < greatest_id → width_at (cond b held_m free_m).0 (cond b held_m free_m).1 ≡ 1
    truth_by true room = goal_truth f inputs q (chain_m.1 ∷ []) chain_m.0 chain_ready (conditions_wide f inputs lines q c.ready, tt) q.reachables (some_long q.reachables c.whole.reachables_differ) room
    truth_by false room = goal_truth f inputs q [] lines c.ready tt q.reachables (some_long q.reachables c.whole.reachables_differ) room

    pub query_truth : (m : Built) → m ≡ whole_goal f inputs lines q → CanPutTruth m.0 m.1
    query_truth m e = subst (λ (m : Built). CanPutTruth m.0 m.1) (sym e) (record { room = goal_room; width = truth_by (has_conditions q.assumptions q.currents) goal_room })

pub queries_extend : (f : PlainFlatSystem) (inputs : List ℕ) (lines : List Line) (qs : List Query) → Extends lines (with_queries f inputs lines qs)
queries_extend f inputs lines [] = extends_none lines
queries_extend f inputs lines (q ∷ qs) = let n = with_query f inputs lines q in extends_then lines n _ (query_extends f inputs lines q) (queries_extend f inputs n qs)

pub first_query : (f : PlainFlatSystem) (inputs : List ℕ) (lines : List Line) (q : Query) (qs : List Query) → CanPutQueries f inputs lines (q ∷ qs) → CanPutQuery f inputs lines q
first_query f inputs lines q qs c =
    let n = with_query f inputs lines q in record { ready = c.ready; whole = c.whole.0; room = omega (arith, c.room, extends_long n (with_queries f inputs n qs) (queries_extend f inputs n qs)) }

pub rest_queries : (f : PlainFlatSystem) (inputs : List ℕ) (lines new : List Line) (q : Query) (qs : List Query) → CanPutQueries f inputs lines (q ∷ qs) → new ≡ with_query f inputs lines q → CanPutQueries f inputs new qs
rest_queries f inputs lines new q qs c e =
    subst (λ ls. CanPutQueries f inputs ls qs) (sym e) (record { ready = ready_later f inputs lines (with_query f inputs lines q) (query_extends f inputs lines q) c.ready; whole = c.whole.1; room = c.room })
