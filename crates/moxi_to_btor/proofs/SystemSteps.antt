-- What the lines of a system ask for.
use Rattle.std.proofs.Common.{◌≡◌, ℕ, zero, suc, ◌<◌, ◌^◌, List, [], ◌∷◌, length, Some, refl, sym, ap, ◌∙◌, subst, arith}
use Rattle.std.specs.Prelude.{codes, slice_get}
use Rattle.std.proofs.lemmas.Option.{none-some, same_Some}
use Rattle.btor_tree.specs.declared.lines.Line.{Line}
use Rattle.btor_tree.specs.declared.lines.LineOp.TheVariants as line
use Rattle.btor_tree.specs.Fits.{greatest_id, is_init, is_next}
use Rattle.moxi_terms.specs.declared.data.Sort.{Sort}
use Rattle.moxi_terms.specs.declared.term.Enumeration.{Enumeration}
use Rattle.moxi_terms.specs.declared.term.Variable.{Variable}
use Rattle.moxi_terms.specs.Sorted.{AreSorts, IsScope}
use Rattle.moxi_terms.specs.Tree.{sorts_of}
use Rattle.moxi_flat.specs.FlatSystem.{PlainFlatSystem}
use Rattle.moxi_lines.specs.TermLaws.{HaveCodes}
use Rattle.moxi_lines.specs.TermLines.{AllBuilt, Built, place_in}
use Rattle.moxi_to_btor.specs.Standing.{IsAsWide}
use Rattle.moxi_lines.specs.Lines.{head_lines, lines_of, variable_lines, with_free, with_given, with_parts, with_queries, with_variables}
use Rattle.moxi_lines.specs.Variables.{AreVariablesAt}
use Rattle.moxi_lines.proofs.Extending.{Extends, extends_long, extends_width}
use Rattle.moxi_lines.proofs.HeadLines.{variables_have_lines_law}
use Rattle.moxi_lines.proofs.VariableLaws.{sort_wide}
use Rattle.moxi_to_btor.specs.Putting.{CanPutFree, CanPutGiven, CanPutParts, CanPutVariables, IsOpen, IsSetUp}
use Rattle.moxi_to_btor.specs.Queries.{CanPutQueries, IsReady}
use Rattle.moxi_to_btor.specs.Systems.{IsKnown, constant_lines}
use Rattle.moxi_to_btor.proofs.ConditionSteps.{ready_later}
use Rattle.moxi_to_btor.proofs.Giving.{init_can, next_can, state_can}
use Rattle.moxi_to_btor.proofs.GoalSteps.{queries_extend}
use Rattle.moxi_to_btor.proofs.PartSteps.{parts_extend}
use Rattle.moxi_to_btor.proofs.Stepping.{all_made}

-- ---- codes

pub codes_more : (e : Enumeration) (n : ℕ) (es : List Enumeration) → n ≡ length e.constants → n < 2 ^ 64 → HaveCodes es → HaveCodes (e ∷ es)
codes_more e n es f h rest = (omega (arith, f, h), rest)

-- ---- the head

abbrev first_m : Built
first_m = with_free constant_lines line.State 1 (codes "first")

abbrev first_init : List Line
first_init = with_given first_m.0 line.Init 1 3 1

pub head_state : (lines : List Line) → lines ≡ constant_lines → CanPutFree lines line.State 1 (codes "first")
head_state lines e = subst (λ ls. CanPutFree ls line.State 1 (codes "first")) (sym e) (state_can constant_lines 1 (codes "first") (omega arith) (omega arith) (omega arith))

pub head_init : (lines : List Line) (m : Built) → lines ≡ constant_lines → m ≡ with_free lines line.State 1 (codes "first") → CanPutGiven m.0 line.Init 1 3 1
head_init lines m e f =
    let o : IsOpen is_init first_m.0 3 1 = record { state = refl; width = refl; none = refl } in
    subst (λ (m : Built). CanPutGiven m.0 line.Init 1 3 1) (sym (f ∙ ap (λ ls. with_free ls line.State 1 (codes "first")) e)) (init_can first_m.0 1 3 1 (omega arith) (omega arith) o refl (omega arith) (omega arith))

pub head_next : (lines : List Line) (m : Built) (new : List Line) → lines ≡ constant_lines → m ≡ with_free lines line.State 1 (codes "first") → new ≡ with_given m.0 line.Init 1 3 1 → CanPutGiven new line.Next 1 3 2
head_next lines m new e f g =
    let o : IsOpen is_next first_init 3 1 = record { state = refl; width = refl; none = refl } in
    let h : new ≡ first_init = g ∙ ap (λ (m : Built). with_given m.0 line.Init 1 3 1) (f ∙ ap (λ ls. with_free ls line.State 1 (codes "first")) e) in
    subst (λ ls. CanPutGiven ls line.Next 1 3 2) (sym h) (next_can first_init 1 3 2 (omega arith) (omega arith) o refl (omega arith))

pub head_is : (lines : List Line) (m : Built) (new : List Line) → lines ≡ constant_lines → m ≡ with_free lines line.State 1 (codes "first") → new ≡ with_given m.0 line.Init 1 3 1 → with_given new line.Next 1 3 2 ≡ head_lines
head_is lines m new e f g =
    ap (λ ls. with_given ls line.Next 1 3 2) (g ∙ ap (λ (m : Built). with_given m.0 line.Init 1 3 1) (f ∙ ap (λ ls. with_free ls line.State 1 (codes "first")) e))

-- ---- variables

input_wide : (es : List Enumeration) → HaveCodes es → (lines : List Line) (vs : List Variable) (ps : List ℕ) → AreSorts es (sorts_of vs) → AreVariablesAt es lines vs ps → (v : ℕ) (s : Sort) → slice_get (sorts_of vs) v ≡ Some s
    → IsAsWide es lines (place_in ps v) s
input_wide es codes lines [] ps k a v s h = absurd (none-some s h)
input_wide es codes lines (x ∷ vs) [] k a v s h = absurd a
input_wide es codes lines (x ∷ vs) (p ∷ ps) k a zero s h =
    let w = sort_wide es codes x.sort k.0 in subst (IsAsWide es lines p) (same_Some x.sort s h) (record { wide = w.0; narrow = w.1; width = a.0.input_width })
input_wide es codes lines (x ∷ vs) (p ∷ ps) k a (suc v) s h = input_wide es codes lines vs ps k.1 a.1 v s h

state_wide : (es : List Enumeration) → HaveCodes es → (lines : List Line) (vs : List Variable) (ps : List ℕ) → AreSorts es (sorts_of vs) → AreVariablesAt es lines vs ps → (v : ℕ) (s : Sort) → slice_get (sorts_of vs) v ≡ Some s
    → IsAsWide es lines (suc (place_in ps v)) s
state_wide es codes lines [] ps k a v s h = absurd (none-some s h)
state_wide es codes lines (x ∷ vs) [] k a v s h = absurd a
state_wide es codes lines (x ∷ vs) (p ∷ ps) k a zero s h =
    let w = sort_wide es codes x.sort k.0 in subst (IsAsWide es lines (suc p)) (same_Some x.sort s h) (record { wide = w.0; narrow = w.1; width = a.0.state_width })
state_wide es codes lines (x ∷ vs) (p ∷ ps) k a (suc v) s h = state_wide es codes lines vs ps k.1 a.1 v s h

-- ---- the whole

module _ (f : PlainFlatSystem) (codes : HaveCodes f.scope.enumerations) (sound : IsScope f.scope) (k : IsKnown f) where
  abbrev variables_m : AllBuilt
  variables_m = variable_lines f

  abbrev parts_l : List Line
  parts_l = with_parts f.scope variables_m.1 variables_m.0 f.parts

  parts_room : length parts_l < greatest_id
  parts_room = omega (arith, k.room, extends_long parts_l (lines_of f) (queries_extend f variables_m.1 parts_l f.queries))

  variables_room : length variables_m.0 < greatest_id
  variables_room = omega (arith, parts_room, extends_long variables_m.0 parts_l (parts_extend f.scope variables_m.1 variables_m.0 f.parts))

  set_up : IsSetUp f.scope f.variables variables_m.1 variables_m.0
  set_up =
      let es = f.scope.enumerations in
      let v = variables_have_lines_law es codes f.variables k.sorts variables_room in
      let g : Extends head_lines variables_m.0 = record { more = v.more; is = v.extends } in
      record {
        codes = codes;
        sound = sound;
        stand_now = record { each = input_wide es codes variables_m.0 f.variables variables_m.1 k.sorts v.each };
        stand_before = record { each = state_wide es codes variables_m.0 f.variables variables_m.1 k.sorts v.each };
        one = extends_width head_lines variables_m.0 1 1 (omega arith) g refl;
        zero = extends_width head_lines variables_m.0 2 1 (omega arith) g refl;
        first = extends_width head_lines variables_m.0 3 1 (omega arith) g refl;
      }

  pub variables_can : (es : List Enumeration) (lines : List Line) (vs : List Variable) → es ≡ f.scope.enumerations → lines ≡ head_lines → vs ≡ f.variables → CanPutVariables es (all_made lines []) vs
  variables_can es lines vs e g h =
      subst (λ es. CanPutVariables es (all_made lines []) vs) (sym e) (subst (λ ls. CanPutVariables f.scope.enumerations (all_made ls []) vs) (sym g) (subst (CanPutVariables f.scope.enumerations (all_made head_lines [])) (sym h)
      (record { codes = codes; sorts = k.sorts; room = variables_room })))

  pub variables_are : (es : List Enumeration) (lines : List Line) (vs : List Variable) → es ≡ f.scope.enumerations → lines ≡ head_lines → vs ≡ f.variables → with_variables es (all_made lines []) vs ≡ variable_lines f
  variables_are es lines vs e g h = ap (λ es. with_variables es (all_made lines []) vs) e ∙ ap (λ ls. with_variables f.scope.enumerations (all_made ls []) vs) g ∙ ap (with_variables f.scope.enumerations (all_made head_lines [])) h

  pub parts_can : (m : AllBuilt) → m ≡ variable_lines f → CanPutParts f.scope m.1 m.0 f.parts
  parts_can m e = subst (λ (m : AllBuilt). CanPutParts f.scope m.1 m.0 f.parts) (sym e) (record { vars = f.variables; there = set_up; over = k.parts; room = parts_room })

  pub queries_can : (m : AllBuilt) (new : List Line) → m ≡ variable_lines f → new ≡ with_parts f.scope m.1 m.0 f.parts → CanPutQueries f m.1 new f.queries
  queries_can m new e g =
      let ready : IsReady f variables_m.1 variables_m.0 = record { there = set_up; assumptions = k.assumptions; currents = k.currents; reachables = k.reachables } in
      subst (λ ls. CanPutQueries f m.1 ls f.queries) (sym g) (subst (λ (m : AllBuilt). CanPutQueries f m.1 (with_parts f.scope m.1 m.0 f.parts) f.queries) (sym e)
      (record { ready = ready_later f variables_m.1 variables_m.0 parts_l (parts_extend f.scope variables_m.1 variables_m.0 f.parts) ready; whole = k.queries; room = k.room }))

  pub whole_is : (m : AllBuilt) (new : List Line) → m ≡ variable_lines f → new ≡ with_parts f.scope m.1 m.0 f.parts → with_queries f m.1 new f.queries ≡ lines_of f
  whole_is m new e g = ap (λ ls. with_queries f m.1 ls f.queries) g ∙ ap (λ (m : AllBuilt). with_queries f m.1 (with_parts f.scope m.1 m.0 f.parts) f.queries) e
