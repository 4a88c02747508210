-- What the lines of queries add to the order of lines.
use Rattle.std.proofs.Common.{◌≡◌, ℕ, Bool, true, false, cond, Option, List, [], ◌∷◌, ◌++◌, length, map, Some, None, refl, sym, ap, ◌∙◌, subst}
use Rattle.std.specs.Prelude.{codes, flat_map}
use Rattle.std.proofs.lemmas.List.{append-nil}
use Rattle.word_core.specs.declared.kinds.Binary.TheVariants as two
use Rattle.btor_tree.specs.declared.args.Arg.{Arg}
use Rattle.btor_tree.specs.declared.lines.Line.{Line}
use Rattle.btor_tree.specs.declared.lines.LineOp.TheVariants as line
use Rattle.btor_tree.specs.Fits.{is_state, plain_arg}
use Rattle.btor_tree.specs.Sharing.{next_line}
use Rattle.moxi_scripts.specs.declared.script.Query.{Query}
use Rattle.moxi_scripts.specs.Script.{formula_at}
use Rattle.moxi_flat.specs.FlatSystem.{PlainFlatSystem}
use Rattle.moxi_lines.specs.TermLines.{Built, folded_lines, with_binary}
use Rattle.moxi_lines.proofs.Growing.{grown_then}
use Rattle.moxi_lines.specs.Lines.{Reaching, has_conditions, head_lines, one_place, symbol_of, with_all_met, with_assumptions, with_bad, with_conditions, with_currents, with_formula, with_given, with_goal, with_latch, with_one_met, with_queries, with_query, with_reachable, with_reachables, zero_place}
use Rattle.moxi_lines.proofs.Extending.{Extends, extends_then}
use Rattle.btor_witness.specs.Room.{places_of}
use Rattle.moxi_layout.specs.Skeleton.{Entry, entry, has_several, latch_entries, query_entries, reachable_latches}
use Rattle.moxi_layout.proofs.QueryLines.{Latch, QueryPlaces}
use Rattle.moxi_layout.proofs.Additions.{Added, Adds, adds_line, adds_none, adds_quietly, adds_then, adds_then_quietly}
use Rattle.moxi_layout.proofs.LatchLines.{given_line, head_sort, latch_is, next_is, one_more, state_line, with_state}
use Rattle.moxi_layout.proofs.Conditions.{chain_grows_on, formula_grows, ok_latch}
use Rattle.moxi_layout.proofs.Reachables.{seen_grows, seen_latch, seen_latches, seen_name}
use Rattle.moxi_layout.proofs.Goals.{all_met_grows, all_places, goal_latches, nothing_reached, one_met_grows, places_if}

abbrev pub of_states : List Entry → List ℕ → Added
of_states es states = record { entries = es; inputs = []; states = states; constraints = []; bads = [] }

abbrev pub latch_states : List Latch → List ℕ
latch_states ls = map (λ (l : Latch). l.state) ls

abbrev pub ok_states : Option Latch → List ℕ
ok_states None = []
ok_states (Some l) = l.state ∷ []

-- the places of the states of a query's latches
abbrev pub query_states : QueryPlaces → List ℕ
query_states p = ok_states p.ok ++ latch_states p.seen

abbrev pub goals : List QueryPlaces → List Arg
goals ps = map (λ (p : QueryPlaces). plain_arg p.goal) ps

latch_adds : (lines : List Line) (name : List ℕ) (v : ℕ) → Extends head_lines lines
    → Adds lines (with_latch lines name v).0 (of_states (entry line.State 1 (symbol_of name) ∷ entry line.Init 1 None ∷ []) ((with_latch lines name v).1 ∷ []))
latch_adds lines name v g =
    let more = with_state lines name in
    let l = given_line more line.Init (length lines) v in
    let g1 = extends_then head_lines lines more g (one_more lines (state_line lines name)) in
    let g2 = extends_then head_lines more (more ++ l ∷ []) g1 (one_more more l) in
    let a = adds_line lines (state_line lines name) 1 (λ all x. head_sort all (extends_then head_lines more all g1 x)) in
    let b = adds_line more l 1 (λ all x. head_sort all (extends_then head_lines (more ++ l ∷ []) all g2 x)) in
    subst (λ (m : Built). Adds lines m.0 (of_states (entry line.State 1 (symbol_of name) ∷ entry line.Init 1 None ∷ []) (m.1 ∷ []))) (sym (latch_is lines name v g)) (adds_then lines more (more ++ l ∷ []) _ _ a b)

next_adds : (lines : List Line) (s p : ℕ) → Extends head_lines lines → Adds lines (with_given lines line.Next 1 s p) (of_states (entry line.Next 1 None ∷ []) [])
next_adds lines s p g =
    let l = given_line lines line.Next s p in
    let g1 = extends_then head_lines lines (lines ++ l ∷ []) g (one_more lines l) in
    subst (λ ls. Adds lines ls (of_states (entry line.Next 1 None ∷ []) [])) (sym (next_is lines s p g)) (adds_line lines l 1 (λ all x. head_sort all (extends_then head_lines (lines ++ l ∷ []) all g1 x)))

module _ (f : PlainFlatSystem) (inputs : List ℕ) where
  conditions_adds : (lines : List Line) (q : Query) → Extends head_lines lines → Adds lines (with_conditions f inputs lines q).0 (of_states (latch_entries (q.name ++ codes ".ok")) ((ok_latch f inputs lines q).state ∷ []))
  conditions_adds lines q g =
      let name = q.name ++ codes ".ok" in
      let s = with_latch lines name one_place in
      let c = with_currents f inputs (with_assumptions f inputs (s.0, []) q.assumptions) q.currents in
      let chain = folded_lines two.And (c.0, s.1) c.1 in
      let a = latch_adds lines name one_place g in
      let b = adds_quietly s.0 chain.0 (chain_grows_on f inputs s.0 s.1 q) in
      let ab = adds_then lines s.0 chain.0 _ _ a b in
      adds_then lines chain.0 _ _ _ ab (next_adds chain.0 s.1 chain.1 (extends_then head_lines lines chain.0 g ab.extends))

  reachable_adds : (name : List ℕ) (m : Reaching) (r : ℕ) → Extends head_lines m.lines
      → Adds m.lines (with_reachable f inputs name m r).lines (of_states (latch_entries (seen_name f name r)) ((seen_latch f inputs name m r).state ∷ []))
  reachable_adds name m r g =
      let s = with_latch m.lines (seen_name f name r) zero_place in
      let n = with_formula f.scope inputs s.0 (formula_at f.reachables r) in
      let o = with_binary two.Or n.0 s.1 n.1 in
      let a = latch_adds m.lines (seen_name f name r) zero_place g in
      let ab = adds_then m.lines s.0 o.0 _ _ a (adds_quietly s.0 o.0 (seen_grows f inputs name s.0 s.1 r)) in
      adds_then m.lines o.0 _ _ _ ab (next_adds o.0 s.1 o.1 (extends_then head_lines m.lines o.0 g ab.extends))

  reachables_add : (name : List ℕ) (m : Reaching) (rs : List ℕ) → Extends head_lines m.lines
      → Adds m.lines (with_reachables f inputs name m rs).lines (of_states (flat_map latch_entries (map (seen_name f name) rs)) (latch_states (seen_latches f inputs name m rs)))
  reachables_add name m [] g = adds_none m.lines
  reachables_add name m (r ∷ rs) g =
      let n = with_reachable f inputs name m r in
      let a = reachable_adds name m r g in
      adds_then m.lines n.lines (with_reachables f inputs name n rs).lines _ _ a (reachables_add name n rs (extends_then head_lines m.lines n.lines g a.extends))

  abbrev seen_names : List ℕ → List ℕ → List (List ℕ)
  seen_names name rs = cond (has_several rs) (map (seen_name f name) rs) []

  goal_adds : (q : Query) (before : List ℕ) (lines : List Line) (rs : List ℕ) → Extends head_lines lines
      → Adds lines (with_goal f inputs q before lines rs).0 (of_states (flat_map latch_entries (seen_names q.name rs)) (latch_states (goal_latches f inputs q.name lines rs)))
  goal_adds q before lines [] g = adds_quietly lines (with_all_met (nothing_reached lines) before).0 (all_met_grows f inputs (nothing_reached lines) before)
  goal_adds q before lines (r ∷ []) g =
      let m = with_formula f.scope inputs lines (formula_at f.reachables r) in
      adds_quietly lines (with_one_met m before).0 (grown_then lines m.0 (with_one_met m before).0 (formula_grows f inputs lines (formula_at f.reachables r)) (one_met_grows f inputs m before))
  goal_adds q before lines (r ∷ s ∷ rs) g =
      let t = with_reachables f inputs q.name (nothing_reached lines) (r ∷ s ∷ rs) in
      let a = reachables_add q.name (nothing_reached lines) (r ∷ s ∷ rs) g in
      adds_then_quietly lines t.lines (with_all_met t before).0 _ a (all_met_grows f inputs t before)

  abbrev query_added : Query → List (List ℕ) → QueryPlaces → Added
  query_added q ok p =
      record {
        entries = flat_map latch_entries (ok ++ reachable_latches f q) ++ entry line.Bad 0 (symbol_of q.name) ∷ [];
        inputs = [];
        states = query_states p;
        constraints = [];
        bads = plain_arg p.goal ∷ [];
      }

  bad_adds : (name : List ℕ) (m : Built) → Adds m.0 (with_bad name m) (record { entries = entry line.Bad 0 (symbol_of name) ∷ []; inputs = []; states = []; constraints = []; bads = plain_arg m.1 ∷ [] })
  bad_adds name m = adds_line m.0 (next_line m.0 line.Bad 0 (plain_arg m.1 ∷ []) (symbol_of name)) 0 (λ all x. refl)

  abbrev ok_names : Query → Bool → List (List ℕ)
  ok_names q b = cond b ((q.name ++ codes ".ok") ∷ []) []

  with_states : (lines new : List Line) (d : Added) (states : List ℕ) → d.states ≡ states → Adds lines new d → Adds lines new (record d { states = states })
  with_states lines new d states e a = record { extends = a.extends; entries = a.entries; inputs = a.inputs; states = a.states ∙ ap (λ z. places_of is_state lines ++ z) e; constraints = a.constraints; bads = a.bads }

  query_adds : (lines : List Line) (q : Query) → Extends head_lines lines → (b : Bool)
      → let c = with_conditions f inputs lines q in let m = cond b (with_goal f inputs q (c.1 ∷ []) c.0 q.reachables) (with_goal f inputs q [] lines q.reachables) in
      Adds lines (with_bad q.name m) (query_added q (ok_names q b) (places_if f inputs lines q b))
  query_adds lines q g true =
      let c = with_conditions f inputs lines q in
      let m = with_goal f inputs q (c.1 ∷ []) c.0 q.reachables in
      let a = conditions_adds lines q g in
      let d = goal_adds q (c.1 ∷ []) c.0 q.reachables (extends_then head_lines lines c.0 g a.extends) in
      let l = (ok_latch f inputs lines q).state in
      let ls = latch_states (goal_latches f inputs q.name c.0 q.reachables) in
      let x = adds_then lines c.0 (with_bad q.name m) _ _ a (adds_then c.0 m.0 (with_bad q.name m) _ _ d (bad_adds q.name m)) in
      with_states lines (with_bad q.name m) _ (l ∷ ls) (ap (λ z. l ∷ z) (append-nil ls)) x
  query_adds lines q g false =
      let m = with_goal f inputs q [] lines q.reachables in
      let x = adds_then lines m.0 (with_bad q.name m) _ _ (goal_adds q [] lines q.reachables g) (bad_adds q.name m) in
      let ls = latch_states (goal_latches f inputs q.name lines q.reachables) in
      with_states lines (with_bad q.name m) _ ls (append-nil ls) x

  -- what all queries add
  abbrev pub queries_added : List Query → List QueryPlaces → Added
  queries_added qs ps = record { entries = flat_map (query_entries f) qs; inputs = []; states = flat_map query_states ps; constraints = []; bads = goals ps }

  pub queries_add : (lines : List Line) (qs : List Query) → Extends head_lines lines → Adds lines (with_queries f inputs lines qs) (queries_added qs (all_places f inputs lines qs))
  queries_add lines [] g = adds_none lines
  queries_add lines (q ∷ qs) g =
      let n = with_query f inputs lines q in
      let a = query_adds lines q g (has_conditions q.assumptions q.currents) in
      adds_then lines n (with_queries f inputs n qs) _ _ a (queries_add n qs (extends_then head_lines lines n g a.extends))
