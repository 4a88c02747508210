-- What the reader answers.
use Rattle.std.specs.Prelude.{◌≡◌, List, Result, Ok, Err, map}
use Rattle.text_core.specs.declared.place.Place.{Place}
use Rattle.text_core.specs.declared.place.Kind.TheVariants.{Y}
use Rattle.text_core.specs.declared.place.Refusal.{Refusal}
use Rattle.text_core.specs.declared.end.End.{End}
use Rattle.text_core.specs.declared.end.End.TheVariants.{Bad, NoMemory}
use Rattle.smv_items.specs.FlatItemView.{item_plain}
use Rattle.smv_items.specs.FlatItems.{PlainFlatItem}
use Rattle.smv_numbered.specs.declared.run.NumberedRun.{NumberedRun}
use Rattle.smv_numbered.specs.Runs.{run_in}
use Rattle.smv_flatten.specs.FlatModel.{FlatModel}
use Rattle.smv_meaning.specs.declared.value.Run.{Run}
use Rattle.smv_trace.specs.declared.fault.ValueFault.{ValueFault}
use Rattle.smv_trace.specs.declared.fault.ValueFault.TheVariants as fault
use Rattle.smv_numbered.specs.Stated.{Declarations}
use Rattle.smv_trace.specs.Reading.{Reading, run_of}
use Rattle.text_core.specs.Answers.{Leaves}

-- the same at the end of a text
abbrev pub Finishes : {B : Type 0} → Result Run Refusal → Reading → Result B End → Type 0
Finishes wanted new (Ok done) = wanted ≡ run_of new
Finishes wanted new (Err (Bad refusal)) = wanted ≡ Err refusal
Finishes wanted new (Err NoMemory) = Unit {0}

-- the same of a run by the numbers of these items
abbrev pub StatesRun : List PlainFlatItem → Result Run Refusal → Result NumberedRun End → Type 0
StatesRun items wanted (Ok run) = wanted ≡ Ok (run_in items run)
StatesRun items wanted (Err (Bad refusal)) = wanted ≡ Err refusal
StatesRun items wanted (Err NoMemory) = Unit {0}

-- how the reading ends where a line with a value at this place isn't taken
abbrev pub end_at : Place → ValueFault → End
end_at at fault.Shape = Bad (record { kind = Y 1; place = at })
end_at at fault.Name = Bad (record { kind = Y 2; place = at })
end_at at fault.Value = Bad (record { kind = Y 3; place = at })
end_at at fault.NoMemory = NoMemory

-- the same of a line with a value at this place
abbrev pub Takes : {B : Type 0} → Place → Result Reading Refusal → Reading → Result B ValueFault → Type 0
Takes at wanted new (Ok done) = wanted ≡ Ok new
Takes at wanted new (Err why) = Leaves {B = Unit {0}} wanted new (Err (end_at at why))

-- what a flat form declares
abbrev pub declarations_of : FlatModel → Declarations
declarations_of f = record { items = map item_plain f.items; symbols = f.symbols }
