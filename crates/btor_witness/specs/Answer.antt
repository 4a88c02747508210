-- What the reader answers.
use Rattle.std.specs.Prelude.{◌≡◌, ◌⊎◌, ℕ, Bool, true, false, List, Result, Ok, Err}
use Rattle.text_core.specs.declared.place.Kind.{Kind}
use Rattle.text_core.specs.declared.place.Refusal.{Refusal}
use Rattle.btor_tree.specs.declared.lines.Line.{Line}
use Rattle.btor_tree.specs.Parts.{line_place}
use Rattle.btor_witness.specs.declared.ends.LineEnd.{LineEnd}
use Rattle.btor_witness.specs.declared.ends.LineEnd.TheVariants as end
use Rattle.btor_witness.specs.declared.witness.Stated.{Stated}
use Rattle.btor_witness.specs.declared.witness.Witness.{Witness}
use Rattle.text_core.specs.declared.end.End.{End}
use Rattle.text_core.specs.declared.end.End.TheVariants.{Bad, NoMemory}
use Rattle.btor_witness.specs.Sizes.{Sizes}
use Rattle.btor_witness.specs.Reading.{Reading, Next, nothing, moves, done, bad}
use Rattle.btor_witness.specs.Texts.{RefusesText, RefusesWitness}

-- the refusal is of this kind, at the place of this line of the text
abbrev pub IsAt : List ℕ → Refusal → Kind → ℕ → Type 0
IsAt text refusal kind at = (refusal.kind ≡ kind) × (refusal.place ≡ line_place text at)

-- this witness, or out of memory
abbrev pub Gives : Witness → Result Witness End → Type 0
Gives w (Ok witness) = witness ≡ w
Gives w (Err (Bad refusal)) = ⊥
Gives w (Err NoMemory) = Unit {0}

-- this refusal, or out of memory
abbrev pub Stops : List ℕ → Kind → ℕ → Result Witness End → Type 0
Stops text kind at (Ok witness) = ⊥
Stops text kind at (Err (Bad refusal)) = IsAt text refusal kind at
Stops text kind at (Err NoMemory) = Unit {0}

-- the refusal is the text's
abbrev pub IsRefused : List Line → List ℕ → End → Type 0
IsRefused lines text (Bad refusal) = RefusesWitness lines text refusal.kind refusal.place.line × (refusal.place ≡ line_place text refusal.place.line)
IsRefused lines text NoMemory = Unit {0}

-- what a reader is seen as: what it reads against, and where it is
pub record ReaderState : Type 0 where
  pub sizes : Sizes
  pub reading : Reading

-- one step of a reader that is here behind it: `true` at the end of the witness
abbrev pub Steps : Next → Reading → Result Bool LineEnd → Type 0
Steps next new (Ok false) = next ≡ moves new
Steps next new (Ok true) = next ≡ done (record { bad = new.bad; frames = new.frames })
Steps next new (Err (end.Bad kind)) = next ≡ bad kind
Steps next new (Err end.NoMemory) = Unit {0}

-- one line, which may also be passed over
abbrev pub Takes : Next → Reading → Reading → Result Bool LineEnd → Type 0
Takes next old new (Ok false) = (next ≡ moves new) ⊎ ((next ≡ nothing) × (new ≡ old))
Takes next old new (Ok true) = next ≡ done (record { bad = new.bad; frames = new.frames })
Takes next old new (Err (end.Bad kind)) = next ≡ bad kind
Takes next old new (Err end.NoMemory) = Unit {0}

-- the statements of a part behind one more statement
abbrev pub Added : Result (List Stated) Kind → List Stated → Result (Unit {0}) LineEnd → Type 0
Added stating new (Ok _) = stating ≡ Ok new
Added stating new (Err (end.Bad kind)) = stating ≡ Err kind
Added stating new (Err end.NoMemory) = Unit {0}

-- the refusal is that of a line of the text
abbrev pub IsRefusedLine : Sizes → List ℕ → End → Type 0
IsRefusedLine sizes text (Bad refusal) = RefusesText sizes text refusal.kind refusal.place.line × (refusal.place ≡ line_place text refusal.place.line)
IsRefusedLine sizes text NoMemory = Unit {0}
