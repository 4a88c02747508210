-- A query's lines from its latches to its bad line.
use Rattle.std.proofs.Common.{◌≡◌, ℕ, ◌<◌, ◌≤◌, Bool, true, false, ◌&&◌, ◌||◌, cond, List, [], ◌∷◌, ◌++◌, length, map, Some, None, refl, ap, ◌∙◌, subst, arith}
use Rattle.std.specs.List.{AllByRecursion, AllZip, list_any}
use Rattle.word_core.specs.Words.{BitVector}
use Rattle.word_core.specs.declared.kinds.Binary.TheVariants as two
use Rattle.btor_tree.specs.declared.lines.Line.{Line}
use Rattle.btor_tree.specs.declared.lines.LineOp.TheVariants as line
use Rattle.btor_tree.specs.Fits.{Suits, greatest_id, plain_arg}
use Rattle.btor_tree.specs.Frame.{Meets}
use Rattle.btor_tree.specs.Sharing.{GrowsByShared}
use Rattle.btor_tree.proofs.Equations.{pushed_fit}
use Rattle.moxi_terms.specs.Sorted.{AreFunctions}
use Rattle.moxi_terms.specs.Value.{Values}
use Rattle.moxi_scripts.specs.declared.script.Query.{Query}
use Rattle.moxi_scripts.specs.QueryReading.{some_distinct}
use Rattle.moxi_scripts.specs.Script.{formula_at}
use Rattle.moxi_scripts.specs.Valid.{IsValidQuery}
use Rattle.moxi_flat.specs.FlatSorts.{AreFlatTruths, IsSortedFlat}
use Rattle.moxi_flat.specs.FlatSystem.{PlainFlatSystem}
use Rattle.moxi_lines.specs.TermLines.{Built, chain_lines}
use Rattle.moxi_lines.specs.TermLaws.{AreNumbered, HaveCodes}
use Rattle.moxi_lines.proofs.Chains.{binary_grows, chain_grows}
use Rattle.moxi_lines.proofs.Growing.{grown_long, grown_none, grown_then, wide_inside}
use Rattle.moxi_lines.specs.Lines.{Reaching, has_conditions, head_lines, symbol_of, with_all_met, with_bad, with_conditions, with_formula, with_goal, with_one_met, with_queries, with_query, with_reachables, zero_place}
use Rattle.moxi_lines.proofs.Extending.{Extends, extends_long, extends_meets, extends_none, extends_then, quietly}
use Rattle.moxi_lines.proofs.VariableLines.{symbol_is}
use Rattle.moxi_layout.proofs.QueryLines.{HasQueryWords, IsLatch, IsQueryAt, Latch, OkIsAt, QueryPlaces, are_reached, have_held, latched, reached_until}
use Rattle.moxi_layout.specs.Layout.{is_reached}
use Rattle.moxi_layout.proofs.Bits.{BitAt, all_true, bit_later, some_true, zip_map}
use Rattle.moxi_layout.proofs.LatchLines.{latch_later, one_more}
use Rattle.moxi_layout.proofs.Conditions.{Stands, conditions_extend, conditions_made, formula_grows, formula_is, formula_made, ok_latch, stands_later}
use Rattle.moxi_layout.proofs.Reachables.{HeldAt, all_bits, all_met_made, one_met_made, reachables_extend, reachables_made, reached_bits, seen_latches}
use Rattle.moxi_lines.proofs.Words.{or_false}

abbrev pub nothing_reached : List Line → Reaching
nothing_reached lines = record { lines = lines; formulas = []; seen = [] }

-- the latches of a goal's formulas
abbrev pub goal_latches : PlainFlatSystem → List ℕ → List ℕ → List Line → List ℕ → List Latch
goal_latches f inputs name lines (r ∷ []) = []
goal_latches f inputs name lines rs = seen_latches f inputs name (nothing_reached lines) rs

-- the places of a query's lines, with a latch for its conditions or without
abbrev pub places_if : PlainFlatSystem → List ℕ → List Line → Query → Bool → QueryPlaces
places_if f inputs lines q true =
    let c = with_conditions f inputs lines q in
    record {
      ok = Some (ok_latch f inputs lines q);
      seen = goal_latches f inputs q.name c.0 q.reachables;
      goal = (with_goal f inputs q (c.1 ∷ []) c.0 q.reachables).1;
    }
places_if f inputs lines q false = record { ok = None; seen = goal_latches f inputs q.name lines q.reachables; goal = (with_goal f inputs q [] lines q.reachables).1 }

abbrev pub query_places : PlainFlatSystem → List ℕ → List Line → Query → QueryPlaces
query_places f inputs lines q = places_if f inputs lines q (has_conditions q.assumptions q.currents)

abbrev pub all_places : PlainFlatSystem → List ℕ → List Line → List Query → List QueryPlaces
all_places f inputs lines [] = []
all_places f inputs lines (q ∷ qs) = query_places f inputs lines q ∷ all_places f inputs (with_query f inputs lines q) qs

-- ---- growth

module _ (f : PlainFlatSystem) (inputs : List ℕ) where
  pub all_met_grows : (m : Reaching) (before : List ℕ) → GrowsByShared m.lines (with_all_met m before).0
  all_met_grows m before =
      let all = chain_lines two.And m.lines (before ++ m.seen) in
      let some = chain_lines two.Or all.0 m.formulas in
      grown_then m.lines all.0 _ (chain_grows two.And m.lines (before ++ m.seen)) (grown_then all.0 some.0 _ (chain_grows two.Or all.0 m.formulas) (binary_grows two.And some.0 all.1 some.1))

  pub one_met_grows : (m : Built) (before : List ℕ) → GrowsByShared m.0 (with_one_met m before).0
  one_met_grows m [] = grown_none m.0
  one_met_grows m (p ∷ ps) = binary_grows two.And m.0 p m.1

  several_extend : (q : Query) (before : List ℕ) (lines : List Line) (rs : List ℕ) → Extends head_lines lines → Extends lines (with_all_met (with_reachables f inputs q.name (nothing_reached lines) rs) before).0
  several_extend q before lines rs g =
      let r = with_reachables f inputs q.name (nothing_reached lines) rs in
      extends_then lines r.lines (with_all_met r before).0 (reachables_extend f inputs q.name (nothing_reached lines) rs g) (quietly r.lines (with_all_met r before).0 (all_met_grows r before))

  pub goal_extends : (q : Query) (before : List ℕ) (lines : List Line) (rs : List ℕ) → Extends head_lines lines → Extends lines (with_goal f inputs q before lines rs).0
  goal_extends q before lines [] g = several_extend q before lines [] g
  goal_extends q before lines (r ∷ []) g =
      let m = with_formula f.scope inputs lines (formula_at f.reachables r) in
      quietly lines (with_one_met m before).0 (grown_then lines m.0 (with_one_met m before).0 (formula_grows f inputs lines (formula_at f.reachables r)) (one_met_grows m before))
  goal_extends q before lines (r ∷ s ∷ rs) g = several_extend q before lines (r ∷ s ∷ rs) g

  pub query_extends : (lines : List Line) (q : Query) → Extends head_lines lines → Extends lines (with_query f inputs lines q)
  query_extends lines q g = go (has_conditions q.assumptions q.currents)
    where
      c : Built
      c = with_conditions f inputs lines q

      go : (b : Bool) → Extends lines (with_bad q.name (cond b (with_goal f inputs q (c.1 ∷ []) c.0 q.reachables) (with_goal f inputs q [] lines q.reachables)))
      go true =
          let e = conditions_extend f inputs lines q g in
          let m = with_goal f inputs q (c.1 ∷ []) c.0 q.reachables in
          extends_then lines c.0 _ e (extends_then c.0 m.0 _ (goal_extends q (c.1 ∷ []) c.0 q.reachables (extends_then head_lines lines c.0 g e)) (one_more m.0 _))
      go false = let m = with_goal f inputs q [] lines q.reachables in extends_then lines m.0 _ (goal_extends q [] lines q.reachables g) (one_more m.0 _)

  pub queries_extend : (lines : List Line) (qs : List Query) → Extends head_lines lines → Extends lines (with_queries f inputs lines qs)
  queries_extend lines [] g = extends_none lines
  queries_extend lines (q ∷ qs) g =
      let n = with_query f inputs lines q in
      let e = query_extends lines q g in
      extends_then lines n (with_queries f inputs n qs) e (queries_extend n qs (extends_then head_lines lines n g e))

some_mapped : {A : Type 0} (h : A → Bool) (xs : List A) → some_true (map h xs) ≡ list_any h xs
some_mapped h [] = refl
some_mapped h (x ∷ xs) = ap (λ b. h x || b) (some_mapped h xs)

some_there : (rs : List ℕ) → some_distinct rs ≡ true → 1 ≤ length rs
some_there [] h = absurd (cc)
some_there (r ∷ rs) h = omega arith

-- ---- words

module _ (f : PlainFlatSystem) (codes_fit : HaveCodes f.scope.enumerations) (functions : AreFunctions f.scope.enumerations f.scope.functions) (inputs : List ℕ) (row : List BitVector) (known first : Bool) (now : Values) where
  abbrev Ready : List Line → Type 0
  Ready lines = Stands f codes_fit functions inputs row known first now lines

  abbrev Held : List Line → List ℕ → Bool → Type 0
  Held lines before held = HeldAt f codes_fit functions inputs row known first now lines before held

  pub record GoalMade (lines : List Line) (rs : List ℕ) (m : Built) (ls : List Latch) (b : Bool) : Type 0 where
    pub extends : Extends lines m.0
    pub numbered : AreNumbered m.0
    pub latches : AllZip (λ (r : ℕ) (l : Latch). IsLatch m.0 zero_place l) (latched rs) ls
    pub words : AllZip (λ (r : ℕ) (l : Latch). BitAt row known m.0 l.next (reached_until f row now r l)) (latched rs) ls
    pub at : BitAt row known m.0 m.1 b

  held_later : (a b : List Line) → Extends a b → (before : List ℕ) (held : Bool) → Held a before held → Held b before held
  held_later a b g [] held h = h
  held_later a b g (p ∷ []) held h = bit_later row known a b g p held h
  held_later a b g (p ∷ q ∷ ps) held h = absurd h

  abbrev goal_bit : Bool → List ℕ → List Latch → Bool
  goal_bit held rs ls = held && (are_reached f row now (latched rs) ls && list_any (is_reached f now) rs)

  goal_made : (q : Query) (before : List ℕ) (held : Bool) (lines : List Line) (rs : List ℕ) → 1 ≤ length rs → AllByRecursion (λ (r : ℕ). r < length f.reachables) rs → AreFlatTruths f f.reachables → AreNumbered lines → Ready lines
      → Held lines before held → length (with_goal f inputs q before lines rs).0 < greatest_id → GoalMade lines rs (with_goal f inputs q before lines rs) (goal_latches f inputs q.name lines rs) (goal_bit held rs (goal_latches f inputs q.name lines rs))
  goal_made q before held lines [] some h sorts n v hold room = absurd (omega (arith, some))
  goal_made q before held lines (r ∷ []) some h sorts n v hold room =
      let t = formula_at f.reachables r in
      let m = with_formula f.scope inputs lines t in
      let new = with_one_met m before in
      let few : length m.0 < greatest_id = omega (arith, room, grown_long m.0 new.0 (one_met_grows f inputs m before)) in
      let a = formula_made f codes_fit functions inputs row known first now lines t n v (formula_is f f.reachables r sorts h.0) few in
      let o = one_met_made f codes_fit functions inputs row known first now m (is_reached f now r) before held a.numbered a.at (held_later lines m.0 (quietly lines m.0 a.grows) before held hold) room in
      record {
        extends = goal_extends f inputs q before lines (r ∷ []) v.head;
        numbered = o.0;
        latches = tt;
        words = tt;
        at = subst (λ b. BitAt row known new.0 new.1 (held && b)) (or_false (is_reached f now r)) o.1;
      }
  goal_made q before held lines (r ∷ s ∷ more) some h sorts n v hold room =
      let rs = r ∷ s ∷ more in
      let m = nothing_reached lines in
      let ls = seen_latches f inputs q.name m rs in
      let t = with_reachables f inputs q.name m rs in
      let new = with_all_met t before in
      let g = all_met_grows f inputs t before in
      let few : length t.lines < greatest_id = omega (arith, room, grown_long t.lines new.0 g) in
      let a = reachables_made f codes_fit functions inputs row known first now q.name m rs [] [] h sorts v (record { numbered = n; formulas = tt; seen = tt }) few in
      let bits = reached_bits f codes_fit functions inputs row known first now rs ls in
      let o = all_met_made f codes_fit functions inputs row known first now t (map (is_reached f now) rs) bits before held (omega arith) (omega arith) a.made (held_later lines t.lines a.extends before held hold) room in
      let e : (held && (all_true bits && some_true (map (is_reached f now) rs))) ≡ goal_bit held rs ls =
      ap (λ b. held && (b && some_true (map (is_reached f now) rs))) (all_bits f codes_fit functions inputs row known first now (λ (r : ℕ) (l : Latch). IsLatch t.lines zero_place l) rs ls a.latches)
      ∙ ap (λ b. held && (are_reached f row now rs ls && b)) (some_mapped (is_reached f now) rs) in
      let on = quietly t.lines new.0 g in
      record {
        extends = goal_extends f inputs q before lines rs v.head;
        numbered = o.0;
        latches = zip_map (λ (r : ℕ) (l : Latch). IsLatch t.lines zero_place l) (λ (r : ℕ) (l : Latch). IsLatch new.0 zero_place l) (λ r l. latch_later t.lines new.0 zero_place l on) rs ls a.latches;
        words = zip_map (λ (r : ℕ) (l : Latch). BitAt row known t.lines l.next (reached_until f row now r l)) (λ (r : ℕ) (l : Latch). BitAt row known new.0 l.next (reached_until f row now r l))
            (λ r l. bit_later row known t.lines new.0 on l.next (reached_until f row now r l)) rs ls a.words;
        at = subst (BitAt row known new.0 new.1) e o.1;
      }

  -- ---- one query

  pub record QueryMade (b : Bool) (lines new : List Line) (q : Query) (p : QueryPlaces) : Type 0 where
    pub extends : Extends lines new
    pub numbered : AreNumbered new
    pub ok : OkIsAt new b p.ok
    pub seen : AllZip (λ (r : ℕ) (l : Latch). IsLatch new zero_place l) (latched q.reachables) p.seen
    pub words : known ≡ true → Meets new row → HasQueryWords f row first now q p

  bad_pushed : (name : List ℕ) (m : Built) (b : Bool) → AreNumbered m.0 → BitAt row known m.0 m.1 b → length (with_bad name m) < greatest_id → AreNumbered (with_bad name m)
  bad_pushed name m b n at room =
      let suits : Suits m.0 line.Bad 0 (plain_arg m.1 ∷ []) (symbol_of name) = record { earlier = (wide_inside m.0 m.1 1 (omega arith) at.width, tt); sorts = (refl, at.width); symbol = symbol_is name } in
      let few : length m.0 < greatest_id = omega (arith, room, extends_long m.0 (with_bad name m) (one_more m.0 _)) in
      let fit = pushed_fit m.0 line.Bad 0 (plain_arg m.1 ∷ []) (symbol_of name) n.fit n.ids few suits in
      record { fit = fit.0; ids = fit.1 }

  abbrev AllLatched : List Line → List ℕ → List Latch → Type 0
  AllLatched lines rs ls = AllZip (λ (r : ℕ) (l : Latch). IsLatch lines zero_place l) rs ls

  latches_later : (a b : List Line) → Extends a b → (rs : List ℕ) (ls : List Latch) → AllLatched a rs ls → AllLatched b rs ls
  latches_later a b g rs ls x = zip_map (λ (r : ℕ) (l : Latch). IsLatch a zero_place l) (λ (r : ℕ) (l : Latch). IsLatch b zero_place l) (λ r l. latch_later a b zero_place l g) rs ls x

  query_made : (lines : List Line) (q : Query) → IsSortedFlat f → IsValidQuery (length f.assumptions) (length f.currents) (length f.reachables) q → AreNumbered lines → Ready lines → (b : Bool)
      → let c = with_conditions f inputs lines q in let m = cond b (with_goal f inputs q (c.1 ∷ []) c.0 q.reachables) (with_goal f inputs q [] lines q.reachables) in
      length (with_bad q.name m) < greatest_id → QueryMade b lines (with_bad q.name m) q (places_if f inputs lines q b)
  query_made lines q sorted whole n v true room =
      let c = with_conditions f inputs lines q in
      let m = with_goal f inputs q (c.1 ∷ []) c.0 q.reachables in
      let new = with_bad q.name m in
      let l = ok_latch f inputs lines q in
      let ls = goal_latches f inputs q.name c.0 q.reachables in
      let held = have_held f row first now q (Some l) in
      let after : Extends m.0 new = one_more m.0 _ in
      let e = conditions_extend f inputs lines q v.head in
      let few_m : length m.0 < greatest_id = omega (arith, room, extends_long m.0 new after) in
      let few_c : length c.0 < greatest_id = omega (arith, few_m, extends_long c.0 m.0 (goal_extends f inputs q (c.1 ∷ []) c.0 q.reachables (extends_then head_lines lines c.0 v.head e))) in
      let d = conditions_made f codes_fit functions inputs row known first now lines q whole.assumptions_there whole.currents_there sorted.assumptions sorted.currents n v few_c in
      let vc = stands_later f codes_fit functions inputs row known first now lines c.0 e v in
      let g = goal_made q (c.1 ∷ []) held c.0 q.reachables (some_there q.reachables whole.reachables_differ) whole.reachables_there sorted.reachables d.numbered vc d.at few_m in
      let to_end = extends_then c.0 m.0 new g.extends after in
      record {
        extends = extends_then lines c.0 new e to_end;
        numbered = bad_pushed q.name m _ g.numbered g.at room;
        ok = latch_later c.0 new _ l to_end d.latch;
        seen = latches_later m.0 new after (latched q.reachables) ls g.latches;
        words = λ k met.
            let met_m = extends_meets m.0 new row after met in
            let met_c = extends_meets c.0 m.0 row g.extends met_m in
            record {
              ok = d.at.word k met_c;
              seen = zip_map (λ (r : ℕ) (x : Latch). BitAt row known m.0 x.next (reached_until f row now r x)) _ (λ r x at. at.word k met_m) (latched q.reachables) ls g.words;
              goal = g.at.word k met_m;
            };
      }
  query_made lines q sorted whole n v false room =
      let m = with_goal f inputs q [] lines q.reachables in
      let new = with_bad q.name m in
      let ls = goal_latches f inputs q.name lines q.reachables in
      let after : Extends m.0 new = one_more m.0 _ in
      let few_m : length m.0 < greatest_id = omega (arith, room, extends_long m.0 new after) in
      let g = goal_made q [] true lines q.reachables (some_there q.reachables whole.reachables_differ) whole.reachables_there sorted.reachables n v refl few_m in
      record {
        extends = extends_then lines m.0 new g.extends after;
        numbered = bad_pushed q.name m _ g.numbered g.at room;
        ok = tt;
        seen = latches_later m.0 new after (latched q.reachables) ls g.latches;
        words = λ k met.
            let met_m = extends_meets m.0 new row after met in
            record {
              ok = tt;
              seen = zip_map (λ (r : ℕ) (x : Latch). BitAt row known m.0 x.next (reached_until f row now r x)) _ (λ r x at. at.word k met_m) (latched q.reachables) ls g.words;
              goal = g.at.word k met_m;
            };
      }

  -- ---- all queries

  query_at_later : (a b : List Line) → Extends a b → (q : Query) (p : QueryPlaces) → IsQueryAt a q p → IsQueryAt b q p
  query_at_later a b g q p x = record { ok = ok_later (has_conditions q.assumptions q.currents) p.ok x.ok; seen = latches_later a b g (latched q.reachables) p.seen x.seen }
    where
      ok_later : (c : Bool) (o : _) → OkIsAt a c o → OkIsAt b c o
      ok_later true (Some l) h = latch_later a b _ l g h
      ok_later true None h = absurd h
      ok_later false (Some l) h = absurd h
      ok_later false None h = tt

  pub record QueriesMade (lines new : List Line) (qs : List Query) (ps : List QueryPlaces) : Type 0 where
    pub numbered : AreNumbered new
    pub each : AllZip (IsQueryAt new) qs ps
    pub words : known ≡ true → Meets new row → AllZip (HasQueryWords f row first now) qs ps

  pub queries_made : (lines : List Line) (qs : List Query) → IsSortedFlat f → AllByRecursion (IsValidQuery (length f.assumptions) (length f.currents) (length f.reachables)) qs → AreNumbered lines → Ready lines
      → length (with_queries f inputs lines qs) < greatest_id → QueriesMade lines (with_queries f inputs lines qs) qs (all_places f inputs lines qs)
  queries_made lines [] sorted whole n v room = record { numbered = n; each = tt; words = λ k m. tt }
  queries_made lines (q ∷ qs) sorted whole n v room =
      let next = with_query f inputs lines q in
      let new = with_queries f inputs next qs in
      let e1 = query_extends f inputs lines q v.head in
      let e2 = queries_extend f inputs next qs (extends_then head_lines lines next v.head e1) in
      let few : length next < greatest_id = omega (arith, room, extends_long next new e2) in
      let one = query_made lines q sorted whole.0 n v (has_conditions q.assumptions q.currents) few in
      let rest = queries_made next qs sorted whole.1 one.numbered (stands_later f codes_fit functions inputs row known first now lines next e1 v) room in
      record {
        numbered = rest.numbered;
        each = (query_at_later next new e2 q (query_places f inputs lines q) (record { ok = one.ok; seen = one.seen }), rest.each);
        words = λ k met. (one.words k (extends_meets next new row e2 met), rest.words k met);
      }
