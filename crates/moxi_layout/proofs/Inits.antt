-- States that have no init: latches give one to their own states alone, and the lines of variables and parts give none.
use Rattle.std.proofs.Common.{◌≡◌, ℕ, ◌<◌, ◌≤◌, Bool, true, false, cond, eqb, List, [], ◌∷◌, ◌++◌, length, Some, None, refl, sym, ap, ◌∙◌, subst, arith}
use Rattle.std.specs.Prelude.{codes, flat_map}
use Rattle.std.specs.Option.{option_or}
use Rattle.std.specs.List.{AllByRecursion}
use Rattle.std.proofs.lemmas.Bool.Decides.{nat_tests}
use Rattle.std.proofs.lemmas.List.{append_cancel_left}
use Rattle.word_core.specs.declared.kinds.Binary.TheVariants as two
use Rattle.btor_tree.specs.declared.lines.Line.{Line}
use Rattle.btor_tree.specs.declared.lines.LineOp.{LineOp}
use Rattle.btor_tree.specs.declared.lines.LineOp.TheVariants as line
use Rattle.btor_tree.specs.Fits.{is_init, plain_arg, state_value, value_for}
use Rattle.btor_tree.specs.Sharing.{GrowsByShared, is_shared}
use Rattle.btor_tree.proofs.Paths.{state_value_append}
use Rattle.moxi_terms.specs.declared.term.Enumeration.{Enumeration}
use Rattle.moxi_terms.specs.declared.term.Variable.{Variable}
use Rattle.moxi_scripts.specs.declared.script.Query.{Query}
use Rattle.moxi_scripts.specs.Script.{formula_at}
use Rattle.moxi_flat.specs.FlatSystem.{PlainFlatSystem, PlainPart}
use Rattle.moxi_lines.specs.TermLines.{Built, folded_lines, with_binary}
use Rattle.moxi_lines.proofs.Growing.{grown_then}
use Rattle.moxi_lines.specs.Lines.{Reaching, has_conditions, head_lines, one_place, with_all_met, with_assumptions, with_bad, with_conditions, with_currents, with_formula, with_given, with_goal, with_latch, with_one_met, with_queries, with_query, with_reachable, with_reachables, zero_place}
use Rattle.moxi_lines.proofs.Extending.{Extends, extends_long, extends_none, extends_then, quietly}
use Rattle.moxi_layout.specs.Skeleton.{Entry, constraint_if, entries_in, entry_of, formula_entries, has_gap, is_ordered, part_entries, variable_entries}
use Rattle.moxi_layout.proofs.Additions.{Added, Adds, entries_append}
use Rattle.moxi_layout.proofs.LatchLines.{given_line, latch_extends, latch_is, next_is, state_line, with_state}
use Rattle.moxi_layout.proofs.Conditions.{chain_grows_on, conditions_extend, formula_grows}
use Rattle.moxi_layout.proofs.Reachables.{reachable_extends, seen_grows, seen_name}
use Rattle.moxi_layout.proofs.Goals.{all_met_grows, nothing_reached, one_met_grows, query_extends}
use Rattle.text_core.proofs.Truths.{or_none}

-- the states that are in lines keep their inits behind more lines
pub record KeepsInits (old new : List Line) : Type 0 where
  pub long : length old ≤ length new
  pub same : (s : ℕ) → s < length old → state_value is_init new s ≡ state_value is_init old s

keeps_none : (lines : List Line) → KeepsInits lines lines
keeps_none lines = record { long = omega arith; same = λ s h. refl }

keeps_then : (a b c : List Line) → KeepsInits a b → KeepsInits b c → KeepsInits a c
keeps_then a b c g h = record { long = omega (arith, g.long, h.long); same = λ s l. h.same s (omega (arith, l, g.long)) ∙ g.same s l }

pub shared_init : (o : LineOp) → is_shared o ≡ true → is_init o ≡ false
shared_init line.Init h = absurd (cc)
shared_init o h = refl

quiet_init : (more : List Line) (s : ℕ) → AllByRecursion (λ l. is_shared l.op ≡ true) more → state_value is_init more s ≡ None
quiet_init [] s a = refl
quiet_init (l ∷ more) s a =
    ap (λ b. option_or (cond b (value_for l.args s) None) (state_value is_init more s)) (shared_init l.op a.0) ∙ quiet_init more s a.1

nothing_more : (a b more : List Line) (s : ℕ) → b ≡ a ++ more → state_value is_init more s ≡ None → state_value is_init b s ≡ state_value is_init a s
nothing_more a b more s e h =
    ap (λ ls. state_value is_init ls s) e ∙ state_value_append is_init a more s ∙ ap (option_or (state_value is_init a s)) h ∙ or_none (state_value is_init a s)

quiet_keeps : (a b : List Line) → GrowsByShared a b → KeepsInits a b
quiet_keeps a b g = record { long = extends_long a b (quietly a b g); same = λ s h. nothing_more a b g.0 s g.1 (quiet_init g.0 s g.2) }

line_keeps : (lines : List Line) (l : Line) → is_init l.op ≡ false → KeepsInits lines (lines ++ l ∷ [])
line_keeps lines l e =
    record {
      long = extends_long lines (lines ++ l ∷ []) (record { more = l ∷ []; is = refl });
      same = λ s h. nothing_more lines (lines ++ l ∷ []) (l ∷ []) s refl (ap (λ b. option_or (cond b (value_for l.args s) None) None) e);
    }

differs : (a b : ℕ) → b < a → eqb a b ≡ false
differs a b h = grind (arith, nat_tests)

latch_keeps : (lines : List Line) (name : List ℕ) (v : ℕ) → Extends head_lines lines → KeepsInits lines (with_latch lines name v).0
latch_keeps lines name v g =
    let more = with_state lines name in
    let l = given_line more line.Init (length lines) v in
    let k = line_keeps lines (state_line lines name) refl in
    let all : KeepsInits lines (more ++ l ∷ []) = record {
      long = omega (arith, k.long, extends_long more (more ++ l ∷ []) (record { more = l ∷ []; is = refl }));
      same = λ s h. nothing_more more (more ++ l ∷ []) (l ∷ []) s refl (ap (λ b. option_or (cond b (Some (plain_arg v)) None) None) (differs (length lines) s h)) ∙ k.same s h;
    } in
    subst (λ (m : Built). KeepsInits lines m.0) (sym (latch_is lines name v g)) all

next_keeps : (lines : List Line) (s p : ℕ) → Extends head_lines lines → KeepsInits lines (with_given lines line.Next 1 s p)
next_keeps lines s p g = subst (KeepsInits lines) (sym (next_is lines s p g)) (line_keeps lines (given_line lines line.Next s p) refl)

module _ (f : PlainFlatSystem) (inputs : List ℕ) where
  conditions_keep : (lines : List Line) (q : Query) → Extends head_lines lines → KeepsInits lines (with_conditions f inputs lines q).0
  conditions_keep lines q g =
      let name = q.name ++ codes ".ok" in
      let s = with_latch lines name one_place in
      let c = with_currents f inputs (with_assumptions f inputs (s.0, []) q.assumptions) q.currents in
      let chain = folded_lines two.And (c.0, s.1) c.1 in
      let gs = chain_grows_on f inputs s.0 s.1 q in
      let h = extends_then head_lines lines chain.0 g (extends_then lines s.0 chain.0 (latch_extends lines name one_place g) (quietly s.0 chain.0 gs)) in
      keeps_then lines s.0 _ (latch_keeps lines name one_place g) (keeps_then s.0 chain.0 _ (quiet_keeps s.0 chain.0 gs) (next_keeps chain.0 s.1 chain.1 h))

  reachable_keeps : (name : List ℕ) (m : Reaching) (r : ℕ) → Extends head_lines m.lines → KeepsInits m.lines (with_reachable f inputs name m r).lines
  reachable_keeps name m r g =
      let s = with_latch m.lines (seen_name f name r) zero_place in
      let n = with_formula f.scope inputs s.0 (formula_at f.reachables r) in
      let o = with_binary two.Or n.0 s.1 n.1 in
      let gs = seen_grows f inputs name s.0 s.1 r in
      let h = extends_then head_lines m.lines o.0 g (extends_then m.lines s.0 o.0 (latch_extends m.lines (seen_name f name r) zero_place g) (quietly s.0 o.0 gs)) in
      keeps_then m.lines s.0 _ (latch_keeps m.lines (seen_name f name r) zero_place g) (keeps_then s.0 o.0 _ (quiet_keeps s.0 o.0 gs) (next_keeps o.0 s.1 o.1 h))

  reachables_keep : (name : List ℕ) (m : Reaching) (rs : List ℕ) → Extends head_lines m.lines → KeepsInits m.lines (with_reachables f inputs name m rs).lines
  reachables_keep name m [] g = keeps_none m.lines
  reachables_keep name m (r ∷ rs) g =
      let n = with_reachable f inputs name m r in
      keeps_then m.lines n.lines (with_reachables f inputs name n rs).lines (reachable_keeps name m r g) (reachables_keep name n rs (extends_then head_lines m.lines n.lines g (reachable_extends f inputs name m r g)))

  several_keep : (q : Query) (before : List ℕ) (lines : List Line) (rs : List ℕ) → Extends head_lines lines → KeepsInits lines (with_all_met (with_reachables f inputs q.name (nothing_reached lines) rs) before).0
  several_keep q before lines rs g =
      let t = with_reachables f inputs q.name (nothing_reached lines) rs in
      keeps_then lines t.lines (with_all_met t before).0 (reachables_keep q.name (nothing_reached lines) rs g) (quiet_keeps t.lines (with_all_met t before).0 (all_met_grows f inputs t before))

  goal_keeps : (q : Query) (before : List ℕ) (lines : List Line) (rs : List ℕ) → Extends head_lines lines → KeepsInits lines (with_goal f inputs q before lines rs).0
  goal_keeps q before lines [] g = several_keep q before lines [] g
  goal_keeps q before lines (r ∷ []) g =
      let m = with_formula f.scope inputs lines (formula_at f.reachables r) in
      quiet_keeps lines (with_one_met m before).0 (grown_then lines m.0 (with_one_met m before).0 (formula_grows f inputs lines (formula_at f.reachables r)) (one_met_grows f inputs m before))
  goal_keeps q before lines (r ∷ s ∷ rs) g = several_keep q before lines (r ∷ s ∷ rs) g

  bad_keeps : (name : List ℕ) (m : Built) → KeepsInits m.0 (with_bad name m)
  bad_keeps name m = line_keeps m.0 _ refl

  query_keeps : (lines : List Line) (q : Query) → Extends head_lines lines → (b : Bool) → let c = with_conditions f inputs lines q in
      KeepsInits lines (with_bad q.name (cond b (with_goal f inputs q (c.1 ∷ []) c.0 q.reachables) (with_goal f inputs q [] lines q.reachables)))
  query_keeps lines q g true =
      let c = with_conditions f inputs lines q in
      let m = with_goal f inputs q (c.1 ∷ []) c.0 q.reachables in
      let h = extends_then head_lines lines c.0 g (conditions_extend f inputs lines q g) in
      keeps_then lines c.0 _ (conditions_keep lines q g) (keeps_then c.0 m.0 _ (goal_keeps q (c.1 ∷ []) c.0 q.reachables h) (bad_keeps q.name m))
  query_keeps lines q g false =
      let m = with_goal f inputs q [] lines q.reachables in keeps_then lines m.0 _ (goal_keeps q [] lines q.reachables g) (bad_keeps q.name m)

  pub queries_keep_inits : (lines : List Line) (qs : List Query) → Extends head_lines lines → KeepsInits lines (with_queries f inputs lines qs)
  queries_keep_inits lines [] g = keeps_none lines
  queries_keep_inits lines (q ∷ qs) g =
      let n = with_query f inputs lines q in
      keeps_then lines n (with_queries f inputs n qs) (query_keeps lines q g (has_conditions q.assumptions q.currents)) (queries_keep_inits n qs (extends_then head_lines lines n g (query_extends f inputs lines q g)))

-- ---- lines without inits

abbrev pub HasNoInit : List Entry → Type 0
HasNoInit es = AllByRecursion (λ (e : Entry). is_init e.kind ≡ false) es

unordered : (o : LineOp) → is_ordered o ≡ false → is_init o ≡ false
unordered line.Init h = absurd (cc)
unordered o h = refl

no_init_in : (all more : List Line) (s : ℕ) → HasNoInit (entries_in all more) → state_value is_init more s ≡ None
no_init_in all [] s h = refl
no_init_in all (l ∷ more) s h =
    let k = split (is_ordered l.op) refl h in
    ap (λ b. option_or (cond b (value_for l.args s) None) (state_value is_init more s)) k.0 ∙ no_init_in all more s k.1
  where
    split : (b : Bool) → is_ordered l.op ≡ b → HasNoInit (cond b (entry_of all l ∷ entries_in all more) (entries_in all more)) → (is_init l.op ≡ false) × HasNoInit (entries_in all more)
    split true e h = (h.0, h.1)
    split false e h = (unordered l.op e, h)

clean_both : (xs ys : List Entry) → HasNoInit xs → HasNoInit ys → HasNoInit (xs ++ ys)
clean_both [] ys a b = b
clean_both (x ∷ xs) ys a b = (a.0, clean_both xs ys a.1 b)

constraint_clean : (b : Bool) → HasNoInit (constraint_if b)
constraint_clean true = (refl, tt)
constraint_clean false = tt

pub variables_clean : (es : List Enumeration) (vs : List Variable) → HasNoInit (flat_map (variable_entries es) vs)
variables_clean es [] = tt
variables_clean es (v ∷ vs) = clean_both (variable_entries es v) (flat_map (variable_entries es) vs) (refl, (refl, (refl, constraint_clean (has_gap es v.sort)))) (variables_clean es vs)

pub parts_clean : (ps : List PlainPart) → HasNoInit (flat_map part_entries ps)
parts_clean [] = tt
parts_clean (p ∷ ps) =
    clean_both (part_entries p) (flat_map part_entries ps)
    (clean_both (formula_entries p.init) _ (constraint_clean _) (clean_both (formula_entries p.trans) (formula_entries p.inv) (constraint_clean _) (constraint_clean _))) (parts_clean ps)

-- lines that add no init leave all inits as they were
pub same_inits : (a b : List Line) (d : Added) → Adds a b d → HasNoInit d.entries → (s : ℕ) → state_value is_init b s ≡ state_value is_init a s
same_inits a b d g clean s =
    let more = g.extends.more in
    let e : entries_in b more ≡ d.entries =
    append_cancel_left (entries_in b a) (entries_in b more) d.entries (sym (entries_append b a more) ∙ ap (entries_in b) (sym g.extends.is) ∙ g.entries b (extends_none b)) in
    nothing_more a b more s g.extends.is (no_init_in b more s (subst HasNoInit (sym e) clean))
