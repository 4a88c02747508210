-- What the lines of variables add to the order of lines, and the words of the constraints on codes.
use Rattle.std.proofs.Common.{◌≡◌, ℕ, suc, ◌≤◌, ◌^◌, Bool, true, false, not, cond, eqb, List, [], ◌∷◌, ◌++◌, length, map, None, refl, sym, ap, ◌∙◌, subst, arith, append_assoc}
use Rattle.std.specs.Prelude.{codes, flat_map, nat_lt, take}
use Rattle.std.proofs.lemmas.List.{append-nil, length_push}
use Rattle.word_core.specs.Words.{BitVector}
use Rattle.word_core.specs.Table.{binary_of, binary_width}
use Rattle.word_core.specs.declared.kinds.Binary.{Binary}
use Rattle.word_core.specs.declared.kinds.Binary.TheVariants as two
use Rattle.btor_tree.specs.declared.args.Arg.{Arg}
use Rattle.btor_tree.specs.declared.lines.Line.{Line}
use Rattle.btor_tree.specs.declared.lines.LineOp.{LineOp}
use Rattle.btor_tree.specs.declared.lines.LineOp.TheVariants as line
use Rattle.btor_tree.specs.Fits.{plain_arg, sort_at, width_at}
use Rattle.btor_tree.specs.Frame.{Equation, Meets, operand, word_at}
use Rattle.btor_tree.specs.Sharing.{GrowsByShared, SaysAt, next_line, with_sort}
use Rattle.btor_tree.proofs.Alike.{pushed_quiet, pushed_says, pushed_sort}
use Rattle.btor_tree.proofs.Grows.{slice_get_front}
use Rattle.btor_tree.proofs.Widths.{sort_front}
use Rattle.moxi_terms.specs.declared.data.Sort.{Sort}
use Rattle.moxi_terms.specs.declared.data.Sort.TheVariants.{Truth, Bits, Choice}
use Rattle.moxi_terms.specs.declared.term.Enumeration.{Enumeration}
use Rattle.moxi_terms.specs.declared.term.Variable.{Variable}
use Rattle.moxi_terms.specs.Sorted.{AreSorts}
use Rattle.moxi_terms.specs.Tree.{sorts_of}
use Rattle.moxi_terms.specs.Names.{constant_count}
use Rattle.moxi_lines.specs.Codes.{choice_width, sort_bits}
use Rattle.moxi_lines.specs.TermLines.{AllBuilt, Built}
use Rattle.moxi_lines.specs.TermLaws.{HaveCodes}
use Rattle.moxi_lines.proofs.Chains.{binary_grows}
use Rattle.moxi_lines.specs.Lines.{symbol_of, with_code, with_constraint, with_free, with_given, with_variable, with_variables}
use Rattle.moxi_lines.proofs.Extending.{Extends, extends_meets, extends_then, quietly}
use Rattle.moxi_lines.proofs.VariableLaws.{sort_wide, code_g, code_grows, code_m}
use Rattle.moxi_lines.proofs.VariableLines.{sort_again}
use Rattle.moxi_layout.specs.Layout.{codes_inside, is_inside, truth_word}
use Rattle.moxi_layout.specs.Skeleton.{Entry, constraint_if, entry, has_gap, variable_entries}
use Rattle.moxi_layout.proofs.Additions.{Adds, adds_line, adds_none, adds_quietly, adds_then}
use Rattle.moxi_layout.proofs.LatchLines.{one_more}
use Rattle.moxi_layout.proofs.PartAdditions.{arg_unless, both_mapped, constraint_adds, of_constraints}

-- ---- single lines

pub sort_grows : (lines : List Line) (w : ℕ) → GrowsByShared lines (with_sort lines w).0
sort_grows lines w = pushed_quiet lines (line.Sort w) 0 [] None refl

sort_stays : (lines all : List Line) (w : ℕ) → 1 ≤ w → Extends (with_sort lines w).0 all → sort_at all (with_sort lines w).1 ≡ w
sort_stays lines all w low g =
    let s = with_sort lines w in
    let e : sort_at s.0 s.1 ≡ w = pushed_sort lines w [] None in
    ap (λ ls. sort_at ls s.1) g.is ∙ sort_front s.0 g.more s.1 (subst (λ n. 1 ≤ n) (sym e) low) ∙ e

abbrev one_entry : LineOp → ℕ → List ℕ → List Entry
one_entry o w name = entry o w (symbol_of name) ∷ []

input_adds : (lines : List Line) (w : ℕ) (name : List ℕ) → 1 ≤ w → let m = with_free lines line.Input w name in
    Adds lines m.0 (record { entries = one_entry line.Input w name; inputs = m.1 ∷ []; states = []; constraints = []; bads = [] })
input_adds lines w name low =
    let s = with_sort lines w in
    let l = next_line s.0 line.Input s.1 [] (symbol_of name) in
    adds_then lines s.0 (s.0 ++ l ∷ []) _ _ (adds_quietly lines s.0 (sort_grows lines w)) (adds_line s.0 l w (λ all g. sort_stays lines all w low (extends_then s.0 (s.0 ++ l ∷ []) all (one_more s.0 l) g)))

state_adds : (lines : List Line) (w : ℕ) (name : List ℕ) → 1 ≤ w → let m = with_free lines line.State w name in
    Adds lines m.0 (record { entries = one_entry line.State w name; inputs = []; states = m.1 ∷ []; constraints = []; bads = [] })
state_adds lines w name low =
    let s = with_sort lines w in
    let l = next_line s.0 line.State s.1 [] (symbol_of name) in
    adds_then lines s.0 (s.0 ++ l ∷ []) _ _ (adds_quietly lines s.0 (sort_grows lines w)) (adds_line s.0 l w (λ all g. sort_stays lines all w low (extends_then s.0 (s.0 ++ l ∷ []) all (one_more s.0 l) g)))

next_adds : (lines : List Line) (w x p : ℕ) → 1 ≤ w → Adds lines (with_given lines line.Next w x p) (record { entries = entry line.Next w None ∷ []; inputs = []; states = []; constraints = []; bads = [] })
next_adds lines w x p low =
    let s = with_sort lines w in
    let l = next_line s.0 line.Next s.1 (plain_arg x ∷ plain_arg p ∷ []) None in
    adds_then lines s.0 (s.0 ++ l ∷ []) _ _ (adds_quietly lines s.0 (sort_grows lines w)) (adds_line s.0 l w (λ all g. sort_stays lines all w low (extends_then s.0 (s.0 ++ l ∷ []) all (one_more s.0 l) g)))

-- the state stands right behind the input, since the sort stands already
state_behind : (lines : List Line) (w : ℕ) (name other : List ℕ) → let i = with_free lines line.Input w name in (with_free i.0 line.State w other).1 ≡ suc i.1
state_behind lines w name other =
    let s = with_sort lines w in
    let l = next_line s.0 line.Input s.1 [] (symbol_of name) in
    let i = s.0 ++ l ∷ [] in
    let says = pushed_says lines (line.Sort w) 0 [] None in
    let there : SaysAt i s.1 (line.Sort w) 0 [] = (says.0, slice_get_front s.0 (l ∷ []) s.1 says.0 says.1, says.2) in
    let again : length (with_sort i w).0 ≡ length i = ap length (sort_again i w s.1 there) in
    omega (arith, again, length_push s.0 l)

-- ---- codes

-- the argument of the constraint on a code, unless there is none
abbrev code_args : List Enumeration → Sort → List Line → ℕ → List Arg
code_args es (Choice n) lines p = let c = constant_count es n in arg_unless (eqb c (2 ^ choice_width c)) (code_g lines p c)
code_args es s lines p = []

code_adds : (es : List Enumeration) (s : Sort) (lines : List Line) (p : ℕ) → Adds lines (with_code es s lines p) (of_constraints (constraint_if (has_gap es s)) (code_args es s lines p))
code_adds es Truth lines p = adds_none lines
code_adds es (Bits w) lines p = adds_none lines
code_adds es (Choice n) lines p = let c = constant_count es n in constraint_adds lines (code_g lines p c) (eqb c (2 ^ choice_width c)) (code_grows lines p c)

-- the words of lines that say this
binary_says : (lines : List Line) (row : List BitVector) (p sort : ℕ) (b : Binary) (x y : Arg) → SaysAt lines p (line.Binary b) sort (x ∷ y ∷ []) → Meets lines row → word_at row p ≡ binary_of b (operand row x) (operand row y)
binary_says lines row p sort b x y s met =
    let l = s.0 in
    let e = met.by_line p l s.1 in
    subst (λ args. Equation (take p lines) row l.sort (line.Binary b) args (word_at row p)) s.2.2 (subst (λ o. Equation (take p lines) row l.sort o l.args (word_at row p)) s.2.0 e)

constant_says : (lines : List Line) (row : List BitVector) (p sort : ℕ) (c : BitVector) (args : List Arg) → SaysAt lines p (line.Constant c) sort args → Meets lines row → word_at row p ≡ c
constant_says lines row p sort c args s met =
    let l = s.0 in subst (λ o. Equation (take p lines) row l.sort o l.args (word_at row p)) s.2.0 (met.by_line p l s.1)

code_word : (lines : List Line) (row : List BitVector) (p c : ℕ) → Meets (code_g lines p c).0 row → word_at row (code_g lines p c).1 ≡ truth_word (nat_lt (word_at row p).bits c)
code_word lines row p c met =
    let k : BitVector = record { width = choice_width c; bits = c } in
    let m = code_m lines c in
    let g = code_g lines p c in
    let before = extends_meets m.0 g.0 row (quietly m.0 g.0 (binary_grows two.Ult m.0 p m.1)) met in
    let constant : word_at row m.1 ≡ k = constant_says m.0 row m.1 _ k [] (pushed_says (with_sort lines (choice_width c)).0 (line.Constant k) (with_sort lines (choice_width c)).1 [] None) before in
    let s = with_sort m.0 (binary_width two.Ult (width_at m.0 p) (width_at m.0 m.1)) in
    binary_says g.0 row g.1 s.1 two.Ult (plain_arg p) (plain_arg m.1) (pushed_says s.0 (line.Binary two.Ult) s.1 (plain_arg p ∷ plain_arg m.1 ∷ []) None) met
    ∙ ap (binary_of two.Ult (word_at row p)) constant

code_words : (es : List Enumeration) (s : Sort) (lines : List Line) (p : ℕ) (row : List BitVector) → Meets (with_code es s lines p) row
    → map (operand row) (code_args es s lines p) ≡ map truth_word (cond (has_gap es s) (is_inside es s (word_at row p) ∷ []) [])
code_words es Truth lines p row met = refl
code_words es (Bits w) lines p row met = refl
code_words es (Choice n) lines p row met = let c = constant_count es n in go c (eqb c (2 ^ choice_width c)) met
  where
    go : (c : ℕ) (b : Bool) → Meets (cond b lines (with_constraint (code_g lines p c))) row → map (operand row) (arg_unless b (code_g lines p c)) ≡ map truth_word (cond (not b) (nat_lt (word_at row p).bits c ∷ []) [])
    go c true met = refl
    go c false met = ap (λ w. w ∷ []) (code_word lines row p c (extends_meets (code_g lines p c).0 _ row (one_more (code_g lines p c).0 _) met))

-- ---- variables

module _ (es : List Enumeration) where
  abbrev input_m : List Line → Variable → Built
  input_m lines v = with_free lines line.Input (sort_bits es v.sort) v.name

  abbrev state_m : List Line → Variable → Built
  state_m lines v = with_free (input_m lines v).0 line.State (sort_bits es v.sort) (v.name ++ codes ".prev")

  abbrev next_m : List Line → Variable → List Line
  next_m lines v = with_given (state_m lines v).0 line.Next (sort_bits es v.sort) (state_m lines v).1 (input_m lines v).1

  abbrev variable_args : List Line → Variable → List Arg
  variable_args lines v = code_args es v.sort (next_m lines v) (input_m lines v).1

  variable_adds : (lines : List Line) (v : Variable) → 1 ≤ sort_bits es v.sort → let m = with_variable es lines v in
      Adds lines m.0 (record { entries = variable_entries es v; inputs = m.1 ∷ []; states = suc m.1 ∷ []; constraints = variable_args lines v; bads = [] })
  variable_adds lines v low =
      let w = sort_bits es v.sort in
      let i = input_m lines v in
      let s = state_m lines v in
      let n = next_m lines v in
      let new = with_code es v.sort n i.1 in
      let a = input_adds lines w v.name low in
      let b = state_adds i.0 w (v.name ++ codes ".prev") low in
      let c = next_adds s.0 w s.1 i.1 low in
      let d = code_adds es v.sort n i.1 in
      let x = adds_then lines i.0 new _ _ a (adds_then i.0 s.0 new _ _ b (adds_then s.0 n new _ _ c d)) in
      subst (λ p. Adds lines new (record { entries = variable_entries es v; inputs = i.1 ∷ []; states = p ∷ []; constraints = variable_args lines v; bads = [] })) (state_behind lines w v.name (v.name ++ codes ".prev")) x

  -- the places of the inputs
  abbrev pub places_from : List Line → List Variable → List ℕ
  places_from lines [] = []
  places_from lines (v ∷ vs) = let m = with_variable es lines v in m.1 ∷ places_from m.0 vs

  abbrev pub variables_args : List Line → List Variable → List Arg
  variables_args lines [] = []
  variables_args lines (v ∷ vs) = variable_args lines v ++ variables_args (with_variable es lines v).0 vs

  pub places_are : (m : AllBuilt) (vs : List Variable) → (with_variables es m vs).1 ≡ m.1 ++ places_from m.0 vs
  places_are m [] = sym (append-nil m.1)
  places_are m (v ∷ vs) = let one = with_variable es m.0 v in places_are (one.0, m.1 ++ one.1 ∷ []) vs ∙ append_assoc m.1 (one.1 ∷ []) (places_from one.0 vs)

  pub variables_add : HaveCodes es → (m : AllBuilt) (vs : List Variable) → AreSorts es (sorts_of vs)
      → Adds m.0 (with_variables es m vs).0 (record { entries = flat_map (variable_entries es) vs; inputs = places_from m.0 vs; states = map (λ p. suc p) (places_from m.0 vs); constraints = variables_args m.0 vs; bads = [] })
  variables_add have m [] sorts = adds_none m.0
  variables_add have m (v ∷ vs) sorts =
      let one = with_variable es m.0 v in
      let next : AllBuilt = (one.0, m.1 ++ one.1 ∷ []) in
      adds_then m.0 one.0 (with_variables es next vs).0 _ _ (variable_adds m.0 v (sort_wide es have v.sort sorts.0).0) (variables_add have next vs sorts.1)

  pub variables_words : HaveCodes es → (m : AllBuilt) (vs : List Variable) → AreSorts es (sorts_of vs) → (row : List BitVector) → Meets (with_variables es m vs).0 row
      → map (operand row) (variables_args m.0 vs) ≡ map truth_word (codes_inside es row vs (places_from m.0 vs))
  variables_words have m [] sorts row met = refl
  variables_words have m (v ∷ vs) sorts row met =
      let one = with_variable es m.0 v in
      let next : AllBuilt = (one.0, m.1 ++ one.1 ∷ []) in
      let g = (variables_add have next vs sorts.1).extends in
      both_mapped (operand row) truth_word _ _ _ _ (code_words es v.sort (next_m m.0 v) (input_m m.0 v).1 row (extends_meets one.0 (with_variables es next vs).0 row g met)) (variables_words have next vs sorts.1 row met)
