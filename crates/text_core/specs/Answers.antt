-- What a reader answers: a result, a refusal, or out of memory.
use Rattle.std.specs.Prelude.{Result, Ok, Err, ℕ, ◌≡◌}
use Rattle.text_core.specs.declared.place.Refusal.{Refusal}
use Rattle.text_core.specs.declared.place.Place.{Place}
use Rattle.text_core.specs.declared.place.Kind.TheVariants.{Y}
use Rattle.text_core.specs.declared.end.End.{End}
use Rattle.text_core.specs.declared.end.End.TheVariants.{Bad, NoMemory}

abbrev pub go_on : {A B : Type 0} → Result A Refusal → (A → Result B Refusal) → Result B Refusal
go_on (Ok x) f = f x
go_on (Err refusal) f = Err refusal

abbrev pub refused : {A : Type 0} → ℕ → Place → Result A Refusal
refused n at = Err (record { kind = Y n; place = at })

-- this result or this refusal, or out of memory
abbrev pub Answers : {A : Type 0} → Result A Refusal → Result A End → Type 0
Answers wanted (Ok x) = wanted ≡ Ok x
Answers wanted (Err (Bad refusal)) = wanted ≡ Err refusal
Answers wanted (Err NoMemory) = Unit {0}

-- the same of a step that leaves what it is to come to
abbrev pub Leaves : {A B : Type 0} → Result A Refusal → A → Result B End → Type 0
Leaves wanted new (Ok done) = wanted ≡ Ok new
Leaves wanted new (Err (Bad refusal)) = wanted ≡ Err refusal
Leaves wanted new (Err NoMemory) = Unit {0}
