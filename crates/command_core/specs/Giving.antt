-- When a call may give an answer that files define, and which files it begins.
use Rattle.std.specs.Prelude.{◌≡◌, ◌⊎◌, ℕ, List, [], ◌∷◌, Option, Some, None, IfSome}
use Rattle.text_core.specs.Outside.{Files}
use Rattle.command_core.specs.declared.answer.Answer.{Answer}
use Rattle.command_core.specs.declared.answer.Answer.TheVariants.{Usage, Unread}

-- the files are exposed, and this holds of them
abbrev pub IfExposed : Option Files → (Files → Type 0) → Type 0
IfExposed None P = ⊥
IfExposed (Some files) P = P files

-- the name is one of these
abbrev pub IsAmong : List (List ℕ) → List ℕ → Type 0
IsAmong [] name = ⊥
IsAmong (x ∷ []) name = name ≡ x
IsAmong (x ∷ y ∷ xs) name = (name ≡ x) ⊎ IsAmong (y ∷ xs) name

-- When an answer may be given where files define it so. It is the defined one, where the files are exposed. That one of the files
-- with these names was not read may also be said where the count grew. That the words are no command is never said.
abbrev pub MayGive : Option Files → List (List ℕ) → (Files → Answer → Type 0) → Type 0 → Answer → Type 0
MayGive files names defined faulted Usage = ⊥
MayGive files names defined faulted (Unread name) = IsAmong names name × (faulted ⊎ IfExposed files (λ fs. defined fs (Unread name)))
MayGive files names defined faulted other = IfSome files (λ fs. defined fs other)

-- where the files are exposed, one of these names was begun last, or else what was begun before
abbrev pub BeginsAmong : Option Files → Option (List ℕ) → Option (List ℕ) → List (List ℕ) → Type 0
BeginsAmong None before now names = Unit {0}
BeginsAmong (Some files) before now names = ((name : List ℕ) × IsAmong names name × (now ≡ Some name)) ⊎ (now ≡ before)
