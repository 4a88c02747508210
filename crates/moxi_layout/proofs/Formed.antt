-- The lines of a flat system whose queries name one reachable formula each are well formed, where they are few enough for ids.
use Rattle.std.proofs.Common.{◌≡◌, ℕ, zero, suc, ◌<◌, Bool, true, false, cond, List, [], ◌∷◌, length, Some, refl, sym, ap, ◌∙◌, subst, arith}
use Rattle.std.specs.Prelude.{slice_get, slice_index_or}
use Rattle.std.specs.List.{AllByRecursion}
use Rattle.std.proofs.lemmas.Option.{same_Some, none-some}
use Rattle.std.proofs.Math.Nat.{one-le-pow}
use Rattle.word_core.specs.Words.{BitVector}
use Rattle.word_core.specs.Table.{bit_of}
use Rattle.btor_tree.specs.declared.lines.Line.{Line}
use Rattle.btor_tree.specs.declared.lines.LineOp.TheVariants as line
use Rattle.btor_tree.specs.Fits.{Suits, greatest_id, plain_arg, width_at}
use Rattle.btor_tree.specs.Frame.{word_at}
use Rattle.btor_tree.proofs.Equations.{pushed_fit}
use Rattle.moxi_terms.specs.declared.data.Sort.{Sort}
use Rattle.moxi_terms.specs.declared.data.Sort.TheVariants.{Truth, Bits, Choice}
use Rattle.moxi_terms.specs.declared.data.Datum.{Datum}
use Rattle.moxi_terms.specs.declared.data.Datum.TheVariants as datum
use Rattle.moxi_terms.specs.declared.term.Enumeration.{Enumeration}
use Rattle.moxi_terms.specs.declared.term.Variable.{Variable}
use Rattle.moxi_terms.specs.Sorts.{IsOf, IsSort}
use Rattle.moxi_terms.specs.Sorted.{AreSorts}
use Rattle.moxi_terms.specs.Tree.{sorts_of}
use Rattle.moxi_terms.specs.Value.{Values}
use Rattle.moxi_terms.proofs.ValueLaws.{read_at}
use Rattle.moxi_scripts.specs.declared.script.Query.{Query}
use Rattle.moxi_scripts.specs.Script.{formula_at}
use Rattle.moxi_flat.specs.FlatSorts.{IsSortedFlat}
use Rattle.moxi_flat.specs.FlatSystem.{PlainFlatSystem}
use Rattle.moxi_lines.specs.Codes.{sort_bits}
use Rattle.moxi_lines.specs.TermLines.{Built}
use Rattle.moxi_lines.specs.TermLaws.{AreNumbered, HaveCodes, Makes, VariablesAreRepresented}
use Rattle.moxi_lines.proofs.Growing.{wide_inside}
use Rattle.moxi_lines.proofs.Terms.{whole_made}
use Rattle.moxi_lines.specs.Lines.{first_place, has_conditions, head_lines, input_place, lines_of, state_place, symbol_of, variable_lines, with_bad, with_conditions, with_formula, with_goal, with_parts, with_queries, with_query}
use Rattle.moxi_lines.specs.Constraints.{VariablesAreThere}
use Rattle.moxi_lines.proofs.Extending.{Extends, extends_long, extends_variables, extends_width}
use Rattle.moxi_lines.proofs.HeadLines.{variables_have_lines_law}
use Rattle.moxi_lines.proofs.Parts.{parts_constrain, parts_extend}
use Rattle.moxi_lines.proofs.Queries.{queries_keep}
use Rattle.moxi_lines.proofs.VariableLaws.{all_get, sort_wide}
use Rattle.moxi_lines.proofs.VariableLines.{symbol_is}
use Rattle.moxi_layout.specs.Counts.{NamesOneFormula}
use Rattle.moxi_layout.proofs.QueryCounts.{bad_counts, formula_sorted, none_given}
use Rattle.moxi_lines.proofs.Decoded.{input_width, state_width}

-- ---- some value of each sort

some_datum : Sort → Datum
some_datum Truth = datum.Truth false
some_datum (Bits w) = datum.Bits (record { width = w; bits = 0 })
some_datum (Choice n) = datum.Constant n 0

some_values : List Variable → Values
some_values vs v = some_datum (slice_index_or (sorts_of vs) v Truth)

datum_is_of : (es : List Enumeration) → AllByRecursion (λ (e : Enumeration). 0 < length e.constants) es → (s : Sort) → IsSort es s → IsOf es s (some_datum s)
unfolding some_datum
datum_is_of es full Truth h = tt
datum_is_of es full (Bits w) h = (refl, (h.0, h.1, one-le-pow w 2 (omega arith)))
datum_is_of es full (Choice n) h =
    let g = all_get (λ (e : Enumeration). 0 < length e.constants) es n h full in
    (refl, record { enumeration = g.0; there = g.1; within = g.2 })

sort_at_place : (es : List Enumeration) (ss : List Sort) (v : ℕ) (s : Sort) → AreSorts es ss → slice_get ss v ≡ Some s → IsSort es s
sort_at_place es [] v s a h = absurd (none-some s h)
sort_at_place es (t ∷ ss) zero s a h = subst (IsSort es) (same_Some t s h) a.0
sort_at_place es (t ∷ ss) (suc v) s a h = sort_at_place es ss v s a.1 h

-- a row in which `first` is one
first_row : List BitVector
first_row =
    let one : BitVector = record { width = 1; bits = 1 } in one ∷ one ∷ one ∷ one ∷ []

first_is_one : word_at first_row first_place ≡ record { width = 1; bits = bit_of true }
unfolding first_row
first_is_one = refl

module _ (f : PlainFlatSystem) (have : HaveCodes f.scope.enumerations) (sorted : IsSortedFlat f) (row : List BitVector) where
  -- variables are at places of their widths, though no word of theirs is known
  places_stand : (lines : List Line) (place : ℕ → ℕ) → ((v : ℕ) (s : Sort) → slice_get (sorts_of f.variables) v ≡ Some s → width_at lines (place v) ≡ sort_bits f.scope.enumerations s)
      → VariablesAreRepresented f.scope.enumerations row false lines (sorts_of f.variables) place (some_values f.variables)
  unfolding some_values
  places_stand lines place width =
      let es = f.scope.enumerations in
      let ss = sorts_of f.variables in
      record {
        sorted = λ v s h. subst (λ t. IsOf es s (some_datum t)) (sym (read_at ss v s Truth h)) (datum_is_of es sorted.scope.enumerations s (sort_at_place es ss v s sorted.variables h));
        each = λ v s h. record {
          wide = (sort_wide es have s (sort_at_place es ss v s sorted.variables h)).0;
          width = width v s h;
          word = λ k m. absurd (cc);
        };
      }

  -- ---- queries

  module _ (inputs : List ℕ) where
    abbrev Stand : List Line → Type 0
    Stand lines = VariablesAreRepresented f.scope.enumerations row false lines (sorts_of f.variables) (input_place inputs) (some_values f.variables)

    bad_numbered : (name : List ℕ) (m : Built) → AreNumbered m.0 → width_at m.0 m.1 ≡ 1 → length m.0 < greatest_id → AreNumbered (with_bad name m)
    bad_numbered name m n w room =
        let arg = plain_arg m.1 in
        let suits : Suits m.0 line.Bad 0 (arg ∷ []) (symbol_of name) = record { earlier = (wide_inside m.0 m.1 1 (omega arith) w, tt); sorts = (refl, w); symbol = symbol_is name } in
        let fits = pushed_fit m.0 line.Bad 0 (arg ∷ []) (symbol_of name) n.fit n.ids room suits in
        record { fit = fits.0; ids = fits.1 }

    second : (b : Bool) (x y : Built) → b ≡ false → cond b x y ≡ y
    second true x y e = absurd (cc)
    second false x y e = refl

    goal_is : (q : Query) (lines : List Line) (rs : List ℕ) → length rs ≡ 1 → (r : ℕ) × (with_goal f inputs q [] lines rs ≡ with_formula f.scope inputs lines (formula_at f.reachables r))
    goal_is q lines [] e = absurd (omega (arith, e))
    goal_is q lines (r ∷ []) e = (r, refl)
    goal_is q lines (r ∷ s ∷ rs) e = absurd (omega (arith, e))

    query_is : (q : Query) (lines : List Line) → NamesOneFormula q → (r : ℕ) × (with_query f inputs lines q ≡ with_bad q.name (with_formula f.scope inputs lines (formula_at f.reachables r)))
    query_is q lines names =
        let c = with_conditions f inputs lines q in
        let g = with_goal f inputs q (c.1 ∷ []) c.0 q.reachables in
        let h = with_goal f inputs q [] lines q.reachables in
        let z = goal_is q lines q.reachables names.reachables in
        (z.0, ap (with_bad q.name) (second (has_conditions q.assumptions q.currents) g h (none_given f sorted inputs q names) ∙ z.1))

    formula_numbered : (name : List ℕ) (lines : List Line) (r : ℕ) → AreNumbered lines → Stand lines → length (with_bad name (with_formula f.scope inputs lines (formula_at f.reachables r))) < greatest_id
        → AreNumbered (with_bad name (with_formula f.scope inputs lines (formula_at f.reachables r)))
    formula_numbered name lines r n stand room =
        let es = f.scope.enumerations in
        let fs = f.scope.functions in
        let t = formula_at f.reachables r in
        let m = with_formula f.scope inputs lines t in
        let one = bad_counts name m in
        let few : length m.0 < greatest_id = omega (arith, room, extends_long m.0 (with_bad name m) one.extends) in
        let made : Makes es row false lines m Truth _ =
        whole_made es row false have fs sorted.scope.functions (sorts_of f.variables) t Truth (formula_sorted f sorted inputs f.reachables sorted.reachables r) lines n
        (input_place inputs) (input_place inputs) (some_values f.variables) (some_values f.variables) stand stand few in
        bad_numbered name m made.numbered made.stands.width few

    queries_numbered : (lines : List Line) (qs : List Query) → AllByRecursion NamesOneFormula qs → AreNumbered lines → Stand lines → length (with_queries f inputs lines qs) < greatest_id → AreNumbered (with_queries f inputs lines qs)
    queries_numbered lines [] names n stand room = n
    queries_numbered lines (q ∷ qs) names n stand room =
        let next = with_query f inputs lines q in
        let all = with_queries f inputs next qs in
        let few : length next < greatest_id = omega (arith, room, extends_long next all (queries_keep f inputs next qs).extends) in
        let z = query_is q lines names.0 in
        let here : AreNumbered next = subst AreNumbered (sym z.1) (formula_numbered q.name lines z.0 n stand (subst (λ ls. length ls < greatest_id) z.1 few)) in
        queries_numbered next qs names.1 here
        (extends_variables f.scope.enumerations row false lines next (sorts_of f.variables) (input_place inputs) (some_values f.variables) (queries_keep f inputs lines (q ∷ [])).extends stand) room

pub lines_numbered : (f : PlainFlatSystem) → HaveCodes f.scope.enumerations → IsSortedFlat f → AllByRecursion NamesOneFormula f.queries → length (lines_of f) < greatest_id → AreNumbered (lines_of f)
lines_numbered f have sorted names room =
    let es = f.scope.enumerations in
    let m = variable_lines f in
    let vl = m.0 in
    let inputs = m.1 in
    let pl = with_parts f.scope inputs vl f.parts in
    let values = some_values f.variables in
    let ext : Extends vl pl = parts_extend f have sorted.scope.functions first_row false false true inputs values values vl f.parts in
    let few_pl : length pl < greatest_id = omega (arith, room, extends_long pl (lines_of f) (queries_keep f inputs pl f.queries).extends) in
    let few_vl : length vl < greatest_id = omega (arith, few_pl, extends_long vl pl ext) in
    let v = variables_have_lines_law es have f.variables sorted.variables few_vl in
    let now = places_stand f have sorted first_row vl (input_place inputs) (λ i s h. input_width es vl f.variables inputs i s v.each h) in
    let before = places_stand f have sorted first_row vl (state_place inputs) (λ i s h. state_width es vl f.variables inputs i s v.each h) in
    let there : VariablesAreThere f first_row false false true inputs values values vl = record {
      first_width = extends_width head_lines vl first_place 1 (omega arith) (record { more = v.more; is = v.extends }) refl;
      first_word = λ met. first_is_one;
      later = λ e k. absurd (cc);
      now_known = now;
      now_both = now;
      before_both = before;
    } in
    let parts = parts_constrain f have sorted.scope.functions first_row false false true inputs values values f.parts sorted.parts vl v.numbered there few_pl in
    queries_numbered f have sorted first_row inputs pl f.queries names parts.numbered
    (extends_variables es first_row false vl pl (sorts_of f.variables) (input_place inputs) values ext now) room
