-- Steps one behind another, and what each line is.
use Rattle.std.proofs.Common.{◌≡◌, true, false, Option, Some, None, List, ℕ, Result, Ok, Err, refl, sym, ap, ◌∙◌}
use Rattle.std.specs.Prelude.{is_some, codes, slice_get}
use Rattle.std.proofs.lemmas.Bool.{cond-true, cond-false}
use Rattle.text_core.specs.declared.place.Kind.TheVariants.{Y}
use Rattle.text_core.specs.declared.place.Place.{Place}
use Rattle.text_core.specs.declared.place.Refusal.{Refusal}
use Rattle.text_core.specs.declared.end.End.{End}
use Rattle.text_core.specs.declared.end.End.TheVariants.{Bad, NoMemory}
use Rattle.smv_numbered.specs.declared.heading.Heading.{Heading}
use Rattle.smv_numbered.specs.declared.heading.Heading.TheVariants.{State, Input}
use Rattle.smv_meaning.specs.declared.value.Value.{Value}
use Rattle.smv_items.specs.FlatItems.{PlainFlatItem}
use Rattle.smv_numbered.specs.Stated.{Declarations}
use Rattle.smv_numbered.specs.Values.{picks}
use Rattle.smv_trace.specs.Values.{value_of}
use Rattle.smv_trace_text.specs.Lines.{is_passed, heading_numbers}
use Rattle.smv_trace.specs.Reading.{Reading, ended, is_define, with_value, item_line, heading_line, other_step, state_step, step, run_of, finished_at, finished}
use Rattle.smv_trace.specs.Answer.{Finishes}
use Rattle.text_core.specs.Answers.{go_on, Leaves}

-- the last step gives the run
last_finishes : {B : Type 0} (o : Result Reading Refusal) (new : Reading) (r : Result B End) → Leaves o new r → Finishes (go_on o run_of) new r
last_finishes o new (Ok x) h = ap (λ x. go_on x run_of) h
last_finishes o new (Err (Bad refusal)) h = ap (λ x. go_on x run_of) h
last_finishes o new (Err NoMemory) h = tt

pub finish_none : (d : Declarations) (end : Place) (r : Reading) → is_some r.heading ≡ false → finished d end r ≡ Err (record { kind = Y 1; place = end })
unfolding finished
finish_none d end r none = go r.heading none
  where
    go : (o : Option Heading) → is_some o ≡ false → finished_at d end o r ≡ Err (record { kind = Y 1; place = end })
    go None e = refl
    go (Some h) e = absurd (let g : true ≡ false = e in cc)

pub finish_some : {B : Type 0} (d : Declarations) (end : Place) (r new : Reading) (result : Result B End) → is_some r.heading ≡ true → Leaves (ended d Input r.heading r) new result → Finishes (finished d end r) new result
unfolding finished
finish_some d end r new result some h = go r.heading some h
  where
    go : (o : Option Heading) → is_some o ≡ true → Leaves (ended d Input o r) new result → Finishes (finished_at d end o r) new result
    go None e h = absurd (let g : false ≡ true = e in cc)
    go (Some i) e h = last_finishes (ended d Input (Some i) r) new result h

-- a value of an item that the heading states
pub item_taken : (d : Declarations) (h : Heading) (at : Place) (text : List ℕ) (k : ℕ) (r : Reading) (m : PlainFlatItem) (v : Option Value) → slice_get d.items k ≡ Some m → is_define m.kind ≡ false → picks h m.kind ≡ true
    → v ≡ value_of d.symbols m.type text → item_line d h at text k r (slice_get d.items k) ≡ with_value at k r v
item_taken d h at text k r m v is define picked value =
    ap (item_line d h at text k r) is ∙ cond-false (is_define m.kind) _ _ define ∙ cond-true (picks h m.kind) _ _ picked ∙ ap (with_value at k r) (sym value)

-- what a line is
pub passed_step : (d : Declarations) (at : Place) (line : List ℕ) (r : Reading) → is_passed line ≡ true → step d at line r ≡ Ok r
unfolding step
passed_step d at line r e = cond-true (is_passed line) _ _ e

pub state_heading : (d : Declarations) (at : Place) (line : List ℕ) (r : Reading) (p : List ℕ × List ℕ) → is_passed line ≡ false → heading_numbers (codes "State:") line ≡ Some p → step d at line r ≡ heading_line d State at p r
unfolding step
state_heading d at line r p e f = cond-false (is_passed line) _ _ e ∙ ap (state_step d at line r) f

pub other_line : (d : Declarations) (at : Place) (line : List ℕ) (r : Reading) → is_passed line ≡ false → heading_numbers (codes "State:") line ≡ None → step d at line r ≡ other_step d at line r r.heading
unfolding step
other_line d at line r e f = cond-false (is_passed line) _ _ e ∙ ap (state_step d at line r) f

pub marked_step : (d : Declarations) (at : Place) (line : List ℕ) (r : Reading) → is_passed line ≡ false → step d at line r ≡ state_step d at line r (heading_numbers (codes "State:") line)
unfolding step
marked_step d at line r e = cond-false (is_passed line) _ _ e
