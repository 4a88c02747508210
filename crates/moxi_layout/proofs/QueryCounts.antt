-- By how many lines queries make lines grow.
use Rattle.std.proofs.Common.{◌≡◌, ℕ, zero, suc, ◌+◌, ◌-◌, ◌*◌, ◌≤◌, Bool, true, false, cond, List, [], ◌∷◌, ◌++◌, length, refl, ap, ◌∙◌, subst, arith}
use Rattle.std.specs.Prelude.{codes, sum_by}
use Rattle.std.specs.List.{AllByRecursion}
use Rattle.std.proofs.lemmas.List.{length-append}
use Rattle.std.proofs.lemmas.List.Sums.{sum_by-cons}
use Rattle.word_core.specs.declared.kinds.Binary.TheVariants as two
use Rattle.btor_tree.specs.declared.lines.Line.{Line}
use Rattle.btor_tree.specs.declared.lines.LineOp.TheVariants as line
use Rattle.btor_tree.specs.Fits.{plain_arg}
use Rattle.moxi_scripts.specs.declared.script.Query.{Query}
use Rattle.moxi_scripts.specs.Script.{PlainFormula, formula_at}
use Rattle.moxi_flat.specs.Terms.{call_sizes, term_size}
use Rattle.moxi_flat.specs.Systems.{named_size}
use Rattle.moxi_flat.specs.FlatSorts.{AreFlatTruths, IsFlatTruth, IsSortedFlat}
use Rattle.moxi_flat.specs.FlatSystem.{PlainFlatSystem}
use Rattle.moxi_lines.specs.TermLines.{AllBuilt, Built, chain_lines, folded_lines, with_binary}
use Rattle.moxi_lines.specs.Lines.{Reaching, first_place, formula_name, has_conditions, one_place, symbol_of, with_all_met, with_assumptions, with_bad, with_conditions, with_currents, with_formula, with_free, with_given, with_goal, with_latch, with_one_met, with_queries, with_query, with_reachable, with_reachables, zero_place}
use Rattle.moxi_layout.specs.Counts.{NamesOneFormula, flat_query_size}
use Rattle.moxi_layout.proofs.Growth.{Grows, grows_more, grows_none, grows_then, push_grows}
use Rattle.moxi_layout.proofs.Chains.{binary_counts, chain_counts, folded_counts}
use Rattle.moxi_layout.proofs.TermCounts.{Counts, HasHead, head_stays}
use Rattle.moxi_layout.proofs.Systems.{formula_here, free_counts, given_counts}

pub bad_counts : (name : List ℕ) (m : Built) → Grows 1 m.0 (with_bad name m)
bad_counts name m = push_grows m.0 line.Bad 0 (plain_arg m.1 ∷ []) (symbol_of name) refl

latch_counts : (lines : List Line) (name : List ℕ) (p : ℕ) → Grows 2 lines (with_latch lines name p).0
latch_counts lines name p =
    let s = with_free lines line.State 1 name in
    grows_then 1 1 lines s.0 (with_given s.0 line.Init 1 s.1 p) (free_counts lines line.State 1 name refl) (given_counts s.0 line.Init 1 s.1 p refl)

all_long : (ps : List ℕ) (p n : ℕ) → length (ps ++ p ∷ []) + n ≡ length ps + suc n
all_long ps p n = omega (arith, length-append ps (p ∷ []))

module _ (f : PlainFlatSystem) (sorted : IsSortedFlat f) (inputs : List ℕ) where
  abbrev sizes : ℕ → ℕ
  sizes n = call_sizes f.scope n

  pub formula_sorted : (fs : List PlainFormula) → AreFlatTruths f fs → (i : ℕ) → IsFlatTruth f (formula_at fs i)
  formula_sorted [] a i = tt
  formula_sorted (x ∷ fs) a zero = a.0.0
  formula_sorted (x ∷ fs) a (suc i) = formula_sorted fs a.1 i

  formula_counted : (fs : List PlainFormula) → AreFlatTruths f fs → (lines : List Line) (i : ℕ) → HasHead lines
      → Counts 2 (term_size (call_sizes f.scope) (formula_at fs i)) lines (with_formula f.scope inputs lines (formula_at fs i)).0
  formula_counted fs a lines i head = formula_here f sorted.scope.functions inputs lines (formula_at fs i) head (formula_sorted fs a i)

  named_more : (fs : List PlainFormula) (i : ℕ) (is : List ℕ) → named_size (call_sizes f.scope) fs (i ∷ is) ≡ term_size (call_sizes f.scope) (formula_at fs i) + named_size (call_sizes f.scope) fs is
  named_more fs i is = sum_by-cons (λ k. term_size (call_sizes f.scope) (formula_at fs k)) i is

  -- ---- conditions

  -- so many lines, and one place more for each formula
  record AllCount (spared size more : ℕ) (old new : AllBuilt) : Type 0 where
    counts : Counts spared size old.0 new.0
    places : length new.1 ≡ length old.1 + more

  assumptions_count : (m : AllBuilt) (is : List ℕ) → HasHead m.0 → AllCount (2 * length is) (named_size (call_sizes f.scope) f.assumptions is) (length is) m (with_assumptions f inputs m is)
  assumptions_count m [] head = record { counts = record { count = 0; grows = grows_none m.0; few = omega arith }; places = omega arith }
  assumptions_count m (i ∷ is) head =
      let n = with_formula f.scope inputs m.0 (formula_at f.assumptions i) in
      let next : AllBuilt = (n.0, m.1 ++ n.1 ∷ []) in
      let r = formula_counted f.assumptions sorted.assumptions m.0 i head in
      let q = assumptions_count next is (head_stays r.count m.0 n.0 r.grows head) in
      let a = r.few in
      let b = q.counts.few in
      let c = q.places in
      record {
        counts = record {
          count = r.count + q.counts.count;
          grows = grows_then r.count q.counts.count m.0 n.0 (with_assumptions f inputs next is).0 r.grows q.counts.grows;
          few = omega (arith, a, b, named_more f.assumptions i is);
        };
        places = omega (arith, c, all_long m.1 n.1 (length is));
      }

  currents_count : (m : AllBuilt) (is : List ℕ) → HasHead m.0 → AllCount (length is) (named_size (call_sizes f.scope) f.currents is) (length is) m (with_currents f inputs m is)
  currents_count m [] head = record { counts = record { count = 0; grows = grows_none m.0; few = omega arith }; places = omega arith }
  currents_count m (i ∷ is) head =
      let n = with_formula f.scope inputs m.0 (formula_at f.currents i) in
      let g = with_binary two.Implies n.0 first_place n.1 in
      let next : AllBuilt = (g.0, m.1 ++ g.1 ∷ []) in
      let r = formula_counted f.currents sorted.currents m.0 i head in
      let one = grows_then r.count 1 m.0 n.0 g.0 r.grows (binary_counts two.Implies n.0 first_place n.1) in
      let q = currents_count next is (head_stays (r.count + 1) m.0 g.0 one head) in
      let a = r.few in
      let b = q.counts.few in
      let c = q.places in
      record {
        counts = record {
          count = (r.count + 1) + q.counts.count;
          grows = grows_then (r.count + 1) q.counts.count m.0 g.0 (with_currents f inputs next is).0 one q.counts.grows;
          few = omega (arith, a, b, named_more f.currents i is);
        };
        places = omega (arith, c, all_long m.1 g.1 (length is));
      }

  conditions_count : (lines : List Line) (q : Query) → HasHead lines
      → Grows (3 + (2 * named_size (call_sizes f.scope) f.assumptions q.assumptions + 2 * named_size (call_sizes f.scope) f.currents q.currents)) lines (with_conditions f inputs lines q).0
  conditions_count lines q head =
      let s = with_latch lines (q.name ++ codes ".ok") one_place in
      let a = with_assumptions f inputs (s.0, []) q.assumptions in
      let c = with_currents f inputs a q.currents in
      let chain = folded_lines two.And (c.0, s.1) c.1 in
      let last = with_given chain.0 line.Next 1 s.1 chain.1 in
      let l = latch_counts lines (q.name ++ codes ".ok") one_place in
      let head_s = head_stays 2 lines s.0 l head in
      let x = assumptions_count (s.0, []) q.assumptions head_s in
      let y = currents_count a q.currents (head_stays x.counts.count s.0 a.0 x.counts.grows head_s) in
      let z = folded_counts two.And (c.0, s.1) c.1 in
      let few_x = x.counts.few in
      let few_y = y.counts.few in
      let places_x = x.places in
      let places_y = y.places in
      let n = 2 + (x.counts.count + (y.counts.count + (length c.1 + 1))) in
      grows_more n (3 + (2 * named_size (call_sizes f.scope) f.assumptions q.assumptions + 2 * named_size (call_sizes f.scope) f.currents q.currents)) lines last
      (omega (arith, few_x, few_y, places_x, places_y))
      (grows_then 2 (x.counts.count + (y.counts.count + (length c.1 + 1))) lines s.0 last l
      (grows_then x.counts.count (y.counts.count + (length c.1 + 1)) s.0 a.0 last x.counts.grows
      (grows_then y.counts.count (length c.1 + 1) a.0 c.0 last y.counts.grows
      (grows_then (length c.1) 1 c.0 chain.0 last z (given_counts chain.0 line.Next 1 s.1 chain.1 refl)))))

  -- ---- reachable formulas

  -- so many lines, with two for each formula still to come
  record ReachingCounts (size more : ℕ) (old new : Reaching) : Type 0 where
    count : ℕ
    grows : Grows count old.lines new.lines
    few : count + 2 * more ≤ 6 * size
    formulas : length new.formulas ≡ length old.formulas + more
    seen : length new.seen ≡ length old.seen + more

  reachable_counts : (name : List ℕ) (m : Reaching) (i : ℕ) → HasHead m.lines → ReachingCounts (term_size (call_sizes f.scope) (formula_at f.reachables i)) 1 m (with_reachable f inputs name m i)
  reachable_counts name m i head =
      let latch_name = name ++ (codes "." ++ (formula_name f.reachables i ++ codes ".seen")) in
      let s = with_latch m.lines latch_name zero_place in
      let n = with_formula f.scope inputs s.0 (formula_at f.reachables i) in
      let o = with_binary two.Or n.0 s.1 n.1 in
      let new = with_given o.0 line.Next 1 s.1 o.1 in
      let l = latch_counts m.lines latch_name zero_place in
      let r = formula_counted f.reachables sorted.reachables s.0 i (head_stays 2 m.lines s.0 l head) in
      let few = r.few in
      record {
        count = 2 + (r.count + 2);
        grows = grows_then 2 (r.count + 2) m.lines s.0 new l
            (grows_then r.count 2 s.0 n.0 new r.grows (grows_then 1 1 n.0 o.0 new (binary_counts two.Or n.0 s.1 n.1) (given_counts o.0 line.Next 1 s.1 o.1 refl)));
        few = omega (arith, few);
        formulas = length-append m.formulas (n.1 ∷ []);
        seen = length-append m.seen (o.1 ∷ []);
      }

  reachables_count : (name : List ℕ) (m : Reaching) (is : List ℕ) → HasHead m.lines → ReachingCounts (named_size (call_sizes f.scope) f.reachables is) (length is) m (with_reachables f inputs name m is)
  reachables_count name m [] head = record { count = 0; grows = grows_none m.lines; few = omega arith; formulas = omega arith; seen = omega arith }
  reachables_count name m (i ∷ is) head =
      let n = with_reachable f inputs name m i in
      let r = reachable_counts name m i head in
      let q = reachables_count name n is (head_stays r.count m.lines n.lines r.grows head) in
      let a = r.few in
      let b = q.few in
      let formulas_r = r.formulas in
      let formulas_q = q.formulas in
      let seen_r = r.seen in
      let seen_q = q.seen in
      record {
        count = r.count + q.count;
        grows = grows_then r.count q.count m.lines n.lines (with_reachables f inputs name n is).lines r.grows q.grows;
        few = omega (arith, a, b, named_more f.reachables i is);
        formulas = omega (arith, formulas_r, formulas_q);
        seen = omega (arith, seen_r, seen_q);
      }

  all_met_counts : (m : Reaching) (before : List ℕ) → Grows ((length before + length m.seen - 1) + ((length m.formulas - 1) + 1)) m.lines (with_all_met m before).0
  all_met_counts m before =
      let all = chain_lines two.And m.lines (before ++ m.seen) in
      let some = chain_lines two.Or all.0 m.formulas in
      let both = with_binary two.And some.0 all.1 some.1 in
      grows_then (length before + length m.seen - 1) ((length m.formulas - 1) + 1) m.lines all.0 both.0
      (subst (λ n. Grows (n - 1) m.lines all.0) (length-append before m.seen) (chain_counts two.And m.lines (before ++ m.seen)))
      (grows_then (length m.formulas - 1) 1 all.0 some.0 both.0 (chain_counts two.Or all.0 m.formulas) (binary_counts two.And some.0 all.1 some.1))

  one_met_counts : (m : Built) (before : List ℕ) → Grows (length before) m.0 (with_one_met m before).0
  one_met_counts m [] = grows_none m.0
  one_met_counts m (p ∷ ps) =
      grows_more 1 (suc (length ps)) m.0 (with_binary two.And m.0 p m.1).0 (omega arith) (binary_counts two.And m.0 p m.1)

  several_count : (q : Query) (before : List ℕ) (lines : List Line) (rs : List ℕ) → length before ≤ 1 → HasHead lines
      → Grows (6 * named_size (call_sizes f.scope) f.reachables rs + 1) lines (with_all_met (with_reachables f inputs q.name (record { lines = lines; formulas = []; seen = [] }) rs) before).0
  several_count q before lines rs le head =
      let m : Reaching = record { lines = lines; formulas = []; seen = [] } in
      let r = with_reachables f inputs q.name m rs in
      let x = reachables_count q.name m rs head in
      let few = x.few in
      let formulas = x.formulas in
      let seen = x.seen in
      let k = (length before + length r.seen - 1) + ((length r.formulas - 1) + 1) in
      grows_more (x.count + k) (6 * named_size (call_sizes f.scope) f.reachables rs + 1) lines (with_all_met r before).0 (omega (arith, few, formulas, seen, le))
      (grows_then x.count k lines r.lines (with_all_met r before).0 x.grows (all_met_counts r before))

  single_counts : (before : List ℕ) (lines : List Line) (r : ℕ) → HasHead lines
      → Counts 2 (named_size (call_sizes f.scope) f.reachables (r ∷ [])) lines (with_formula f.scope inputs lines (formula_at f.reachables r)).0
  single_counts before lines r head =
      let c = formula_counted f.reachables sorted.reachables lines r head in
      let few = c.few in
      record { count = c.count; grows = c.grows; few = omega (arith, few, named_more f.reachables r []) }

  goal_counts : (q : Query) (before : List ℕ) (lines : List Line) (rs : List ℕ) → length before ≤ 1 → HasHead lines
      → Grows (6 * named_size (call_sizes f.scope) f.reachables rs + 1) lines (with_goal f inputs q before lines rs).0
  goal_counts q before lines [] le head = several_count q before lines [] le head
  goal_counts q before lines (r ∷ []) le head =
      let m = with_formula f.scope inputs lines (formula_at f.reachables r) in
      let c = single_counts before lines r head in
      let few = c.few in
      grows_more (c.count + length before) (6 * named_size (call_sizes f.scope) f.reachables (r ∷ []) + 1) lines (with_one_met m before).0 (omega (arith, few, le))
      (grows_then c.count (length before) lines m.0 (with_one_met m before).0 c.grows (one_met_counts m before))
  goal_counts q before lines (r ∷ s ∷ rs) le head = several_count q before lines (r ∷ s ∷ rs) le head

  made_counts : (b : Bool) (n : ℕ) (lines : List Line) (x y : Built) → Grows n lines x.0 → Grows n lines y.0 → Grows n lines (cond b x y).0
  made_counts true n lines x y g h = g
  made_counts false n lines x y g h = h

  query_counts : (lines : List Line) (q : Query) → HasHead lines → Grows (6 * flat_query_size (call_sizes f.scope) f q) lines (with_query f inputs lines q)
  query_counts lines q head =
      let c = with_conditions f inputs lines q in
      let g = with_goal f inputs q (c.1 ∷ []) c.0 q.reachables in
      let h = with_goal f inputs q [] lines q.reachables in
      let b = has_conditions q.assumptions q.currents in
      let m : Built = cond b g h in
      let k = 3 + (2 * named_size (call_sizes f.scope) f.assumptions q.assumptions + 2 * named_size (call_sizes f.scope) f.currents q.currents) in
      let j = 6 * named_size (call_sizes f.scope) f.reachables q.reachables + 1 in
      let x = conditions_count lines q head in
      let with_them = grows_then k j lines c.0 g.0 x (goal_counts q (c.1 ∷ []) c.0 q.reachables (omega arith) (head_stays k lines c.0 x head)) in
      let without = grows_more j (k + j) lines h.0 (omega arith) (goal_counts q [] lines q.reachables (omega arith) head) in
      grows_more ((k + j) + 1) (6 * flat_query_size (call_sizes f.scope) f q) lines (with_bad q.name m) (omega arith)
      (grows_then (k + j) 1 lines m.0 (with_bad q.name m) (made_counts b (k + j) lines g h with_them without) (bad_counts q.name m))

  pub queries_count : (lines : List Line) (qs : List Query) → HasHead lines → Grows (6 * sum_by (flat_query_size (call_sizes f.scope) f) qs) lines (with_queries f inputs lines qs)
  queries_count lines [] head = grows_none lines
  queries_count lines (q ∷ qs) head =
      let size = flat_query_size (call_sizes f.scope) f in
      let n = with_query f inputs lines q in
      let all = with_queries f inputs n qs in
      let one = query_counts lines q head in
      let sum = sum_by-cons size q qs in
      grows_more (6 * size q + 6 * sum_by size qs) (6 * sum_by size (q ∷ qs)) lines all (omega (arith, sum))
      (grows_then (6 * size q) (6 * sum_by size qs) lines n all one (queries_count n qs (head_stays (6 * size q) lines n one head)))

  -- ---- queries that name one reachable formula and nothing else

  one_goal : (q : Query) (lines : List Line) (rs : List ℕ) → length rs ≡ 1 → HasHead lines → Counts 2 (named_size (call_sizes f.scope) f.reachables rs) lines (with_goal f inputs q [] lines rs).0
  one_goal q lines [] e head = absurd (omega (arith, e))
  one_goal q lines (r ∷ []) e head = single_counts [] lines r head
  one_goal q lines (r ∷ s ∷ rs) e head = absurd (omega (arith, e))

  pub none_given : (q : Query) → NamesOneFormula q → has_conditions q.assumptions q.currents ≡ false
  none_given q h = ap (λ xs. has_conditions xs q.currents) h.assumptions ∙ ap (has_conditions []) h.currents

  second_counts : (b : Bool) (n : ℕ) (lines : List Line) (x y : Built) → b ≡ false → Grows n lines y.0 → Grows n lines (cond b x y).0
  second_counts true n lines x y e g = absurd (cc)
  second_counts false n lines x y e g = g

  one_query : (lines : List Line) (q : Query) → HasHead lines → NamesOneFormula q → Grows (2 * flat_query_size (call_sizes f.scope) f q) lines (with_query f inputs lines q)
  one_query lines q head names =
      let c = with_conditions f inputs lines q in
      let g = with_goal f inputs q (c.1 ∷ []) c.0 q.reachables in
      let h = with_goal f inputs q [] lines q.reachables in
      let b = has_conditions q.assumptions q.currents in
      let m : Built = cond b g h in
      let x = one_goal q lines q.reachables names.reachables head in
      let few = x.few in
      grows_more (x.count + 1) (2 * flat_query_size (call_sizes f.scope) f q) lines (with_bad q.name m) (omega (arith, few))
      (grows_then x.count 1 lines m.0 (with_bad q.name m) (second_counts b x.count lines g h (none_given q names) x.grows) (bad_counts q.name m))

  pub single_queries_count : (lines : List Line) (qs : List Query) → HasHead lines → AllByRecursion NamesOneFormula qs
      → Grows (2 * sum_by (flat_query_size (call_sizes f.scope) f) qs) lines (with_queries f inputs lines qs)
  single_queries_count lines [] head names = grows_none lines
  single_queries_count lines (q ∷ qs) head names =
      let size = flat_query_size (call_sizes f.scope) f in
      let n = with_query f inputs lines q in
      let all = with_queries f inputs n qs in
      let one = one_query lines q head names.0 in
      let sum = sum_by-cons size q qs in
      grows_more (2 * size q + 2 * sum_by size qs) (2 * sum_by size (q ∷ qs)) lines all (omega (arith, sum))
      (grows_then (2 * size q) (2 * sum_by size qs) lines n all one (single_queries_count n qs (head_stays (2 * size q) lines n one head) names.1))
