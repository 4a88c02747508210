-- By how many lines variables and parts make lines grow.
use Rattle.std.proofs.Common.{◌≡◌, ℕ, ◌+◌, ◌*◌, ◌^◌, Bool, true, false, cond, nat_eq, List, [], ◌∷◌, ◌++◌, length, None, refl, arith}
use Rattle.std.specs.Prelude.{codes, sum_by}
use Rattle.std.specs.List.{AllByRecursion}
use Rattle.std.proofs.lemmas.List.Sums.{sum_by-cons}
use Rattle.word_core.specs.declared.kinds.Binary.TheVariants as two
use Rattle.btor_tree.specs.declared.lines.Line.{Line}
use Rattle.btor_tree.specs.declared.lines.LineOp.{LineOp}
use Rattle.btor_tree.specs.declared.lines.LineOp.TheVariants as line
use Rattle.btor_tree.specs.Fits.{plain_arg}
use Rattle.moxi_terms.specs.declared.data.Sort.{Sort}
use Rattle.moxi_terms.specs.declared.data.Sort.TheVariants.{Truth, Bits, Choice}
use Rattle.moxi_terms.specs.declared.term.Enumeration.{Enumeration}
use Rattle.moxi_terms.specs.declared.term.Variable.{Variable}
use Rattle.moxi_terms.specs.Sorted.{AreFunctions}
use Rattle.moxi_terms.specs.Tree.{Tree, sorts_of}
use Rattle.moxi_terms.specs.Names.{constant_count}
use Rattle.moxi_flat.specs.Terms.{call_sizes, term_size}
use Rattle.moxi_flat.specs.FlatSizes.{part_size}
use Rattle.moxi_flat.specs.FlatSorts.{IsFlatTruth, PartIsSorted}
use Rattle.moxi_flat.specs.FlatSystem.{PlainFlatSystem, PlainPart}
use Rattle.moxi_lines.specs.Codes.{choice_width, sort_bits}
use Rattle.moxi_lines.specs.TermLines.{AllBuilt, Built, with_binary, with_constant}
use Rattle.moxi_lines.specs.Lines.{first_place, input_place, is_true_term, state_place, symbol_of, with_code, with_constraint, with_formula, with_free, with_given, with_init, with_inv, with_part, with_parts, with_state, with_step, with_trans, with_variable, with_variables}
use Rattle.moxi_layout.proofs.Growth.{Grows, grows_more, grows_none, grows_then, is_sort, push_grows, sorted_grows}
use Rattle.moxi_layout.proofs.Chains.{binary_counts, word_counts}
use Rattle.moxi_layout.proofs.TermCounts.{Counts, HasHead, formula_counts, head_stays}

pub free_counts : (lines : List Line) (o : LineOp) (w : ℕ) (name : List ℕ) → is_sort o ≡ false → Grows 1 lines (with_free lines o w name).0
free_counts lines o w name h = sorted_grows lines o w [] (symbol_of name) h

pub given_counts : (lines : List Line) (o : LineOp) (w s p : ℕ) → is_sort o ≡ false → Grows 1 lines (with_given lines o w s p)
given_counts lines o w s p h = sorted_grows lines o w (plain_arg s ∷ plain_arg p ∷ []) None h

constraint_counts : (m : Built) → Grows 1 m.0 (with_constraint m)
constraint_counts m = push_grows m.0 line.Constraint 0 (plain_arg m.1 ∷ []) None refl

pub either_counts : (b : Bool) (n : ℕ) (lines x y : List Line) → Grows n lines x → Grows n lines y → Grows n lines (cond b x y)
either_counts true n lines x y g h = g
either_counts false n lines x y g h = h

-- ---- variables

code_counts : (es : List Enumeration) (s : Sort) (lines : List Line) (p : ℕ) → Grows 3 lines (with_code es s lines p)
code_counts es Truth lines p = grows_more 0 3 lines lines (omega arith) (grows_none lines)
code_counts es (Bits w) lines p = grows_more 0 3 lines lines (omega arith) (grows_none lines)
code_counts es (Choice n) lines p =
    let count = constant_count es n in
    let m = with_constant lines (record { width = choice_width count; bits = count }) in
    let c = with_binary two.Ult m.0 p m.1 in
    either_counts (nat_eq count (2 ^ choice_width count)) 3 lines lines (with_constraint c) (grows_more 0 3 lines lines (omega arith) (grows_none lines))
    (grows_then 1 2 lines m.0 (with_constraint c) (word_counts lines (line.Constant (record { width = choice_width count; bits = count })) (choice_width count) [] refl)
    (grows_then 1 1 m.0 c.0 (with_constraint c) (binary_counts two.Ult m.0 p m.1) (constraint_counts c)))

state_counts : (es : List Enumeration) (v : Variable) (m : Built) → Grows 5 m.0 (with_state es v m).0
state_counts es v m =
    let s = with_free m.0 line.State (sort_bits es v.sort) (v.name ++ codes ".prev") in
    let n = with_given s.0 line.Next (sort_bits es v.sort) s.1 m.1 in
    let c = with_code es v.sort n m.1 in
    grows_then 1 4 m.0 s.0 c (free_counts m.0 line.State (sort_bits es v.sort) (v.name ++ codes ".prev") refl)
    (grows_then 1 3 s.0 n c (given_counts s.0 line.Next (sort_bits es v.sort) s.1 m.1 refl) (code_counts es v.sort n m.1))

variable_counts : (es : List Enumeration) (lines : List Line) (v : Variable) → Grows 6 lines (with_variable es lines v).0
variable_counts es lines v =
    let i = with_free lines line.Input (sort_bits es v.sort) v.name in
    grows_then 1 5 lines i.0 (with_state es v i).0 (free_counts lines line.Input (sort_bits es v.sort) v.name refl) (state_counts es v i)

pub variables_count : (es : List Enumeration) (m : AllBuilt) (vs : List Variable) → Grows (6 * length vs) m.0 (with_variables es m vs).0
variables_count es m [] = grows_none m.0
variables_count es m (v ∷ vs) =
    let one = with_variable es m.0 v in
    let next : AllBuilt = (one.0, m.1 ++ one.1 ∷ []) in
    let all = with_variables es next vs in
    grows_more (6 + 6 * length vs) (6 * length (v ∷ vs)) m.0 all.0 (omega arith) (grows_then 6 (6 * length vs) m.0 one.0 all.0 (variable_counts es m.0 v) (variables_count es next vs))

-- ---- parts

-- two lines behind a formula of truth values
two_behind : (n : ℕ) (a b c d : List Line) → Counts 2 n a b → Grows 1 b c → Grows 1 c d → Grows (2 * n) a d
two_behind n a b c d r g h =
    let few = r.few in
    grows_more (r.count + 2) (2 * n) a d (omega (arith, few)) (grows_then r.count 2 a b d r.grows (grows_then 1 1 b c d g h))

one_behind : (n : ℕ) (a b c : List Line) → Counts 2 n a b → Grows 1 b c → Grows (2 * n) a c
one_behind n a b c r g =
    let few = r.few in
    grows_more (r.count + 1) (2 * n) a c (omega (arith, few)) (grows_then r.count 1 a b c r.grows g)

module _ (f : PlainFlatSystem) (sorted : AreFunctions f.scope.enumerations f.scope.functions) (inputs : List ℕ) where
  abbrev size : Tree → ℕ
  size t = term_size (call_sizes f.scope) t

  pub formula_here : (lines : List Line) (t : Tree) → HasHead lines → IsFlatTruth f t → Counts 2 (term_size (call_sizes f.scope) t) lines (with_formula f.scope inputs lines t).0
  formula_here lines t head h =
      formula_counts f.scope.enumerations f.scope.functions sorted (sorts_of f.variables) (input_place inputs) (input_place inputs) lines t head h

  step_here : (lines : List Line) (t : Tree) → HasHead lines → IsFlatTruth f t → Counts 2 (size t) lines (with_step f.scope inputs lines t).0
  step_here lines t head h =
      formula_counts f.scope.enumerations f.scope.functions sorted (sorts_of f.variables) (state_place inputs) (input_place inputs) lines t head h

  none_here : (n : ℕ) (lines : List Line) → Grows n lines lines
  none_here n lines = grows_more 0 n lines lines (omega arith) (grows_none lines)

  init_counts : (lines : List Line) (t : Tree) → HasHead lines → IsFlatTruth f t → Grows (2 * size t) lines (with_init f.scope inputs lines t)
  init_counts lines t head h =
      let m = with_formula f.scope inputs lines t in
      let c = with_binary two.Implies m.0 first_place m.1 in
      either_counts (is_true_term t) (2 * size t) lines lines (with_constraint c) (none_here (2 * size t) lines)
      (two_behind (size t) lines m.0 c.0 (with_constraint c) (formula_here lines t head h) (binary_counts two.Implies m.0 first_place m.1) (constraint_counts c))

  trans_counts : (lines : List Line) (t : Tree) → HasHead lines → IsFlatTruth f t → Grows (2 * size t) lines (with_trans f.scope inputs lines t)
  trans_counts lines t head h =
      let m = with_step f.scope inputs lines t in
      let c = with_binary two.Or m.0 first_place m.1 in
      either_counts (is_true_term t) (2 * size t) lines lines (with_constraint c) (none_here (2 * size t) lines)
      (two_behind (size t) lines m.0 c.0 (with_constraint c) (step_here lines t head h) (binary_counts two.Or m.0 first_place m.1) (constraint_counts c))

  inv_counts : (lines : List Line) (t : Tree) → HasHead lines → IsFlatTruth f t → Grows (2 * size t) lines (with_inv f.scope inputs lines t)
  inv_counts lines t head h =
      let m = with_formula f.scope inputs lines t in
      either_counts (is_true_term t) (2 * size t) lines lines (with_constraint m) (none_here (2 * size t) lines)
      (one_behind (size t) lines m.0 (with_constraint m) (formula_here lines t head h) (constraint_counts m))

  part_counts : (lines : List Line) (p : PlainPart) → HasHead lines → PartIsSorted f p → Grows (2 * part_size (call_sizes f.scope) p) lines (with_part f.scope inputs lines p)
  part_counts lines p head h =
      let a = with_init f.scope inputs lines p.init in
      let b = with_trans f.scope inputs a p.trans in
      let c = with_inv f.scope inputs b p.inv in
      let i = init_counts lines p.init head h.init in
      let head_a = head_stays (2 * size p.init) lines a i head in
      let t = trans_counts a p.trans head_a h.trans in
      let v = inv_counts b p.inv (head_stays (2 * size p.trans) a b t head_a) h.inv in
      grows_more (2 * size p.init + (2 * size p.trans + 2 * size p.inv)) (2 * part_size (call_sizes f.scope) p) lines c (omega arith)
      (grows_then (2 * size p.init) (2 * size p.trans + 2 * size p.inv) lines a c i (grows_then (2 * size p.trans) (2 * size p.inv) a b c t v))

  pub parts_count : (lines : List Line) (ps : List PlainPart) → HasHead lines → AllByRecursion (PartIsSorted f) ps
      → Grows (2 * sum_by (part_size (call_sizes f.scope)) ps) lines (with_parts f.scope inputs lines ps)
  parts_count lines [] head h = grows_none lines
  parts_count lines (p ∷ ps) head h =
      let calls = call_sizes f.scope in
      let n = with_part f.scope inputs lines p in
      let all = with_parts f.scope inputs n ps in
      let one = part_counts lines p head h.0 in
      let sum = sum_by-cons (part_size calls) p ps in
      grows_more (2 * part_size calls p + 2 * sum_by (part_size calls) ps) (2 * sum_by (part_size calls) (p ∷ ps)) lines all (omega (arith, sum))
      (grows_then (2 * part_size calls p) (2 * sum_by (part_size calls) ps) lines n all one (parts_count n ps (head_stays (2 * part_size calls p) lines n one head) h.1))
