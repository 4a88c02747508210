-- What was put into a sink.
use Rattle.std.specs.Prelude.{◌≡◌, ◌⊎◌, ◌≤◌, ℕ, List, length, take, Option, Result, Ok, Err}
use Rattle.text_core.specs.Outside.{grown, HasNewFault}
use Rattle.command_core.specs.declared.status.Status.{Status}
use Rattle.command_core.specs.declared.status.Status.TheVariants.{WriteFault}

-- a front of these bytes was put
pub record IsPart (before now : Option (List ℕ)) (bytes : List ℕ) : Type 0 where
  pub count : ℕ
  pub within : count ≤ length bytes
  pub taken : now ≡ grown before (take count bytes)

-- what a call that puts bytes says: all were put, and the count stays; or it grew, and a front of them was put
abbrev pub Puts : {T E : Type 0} → Option (List ℕ) → Option (List ℕ) → ℕ → ℕ → List ℕ → Result T E → Type 0
Puts before now count later bytes (Ok done) = (now ≡ grown before bytes) × (later ≡ count)
Puts before now count later bytes (Err fault) = IsPart before now bytes × HasNewFault count later

-- a line was noted whole for a status, which is answered; or the sink failed, and a front of the line was put
abbrev pub Noted : Option (List ℕ) → Option (List ℕ) → ℕ → ℕ → List ℕ → Status → Status → Type 0
Noted before now count later line status result =
    ((result ≡ status) × (now ≡ grown before line) × (later ≡ count)) ⊎ ((result ≡ WriteFault) × IsPart before now line × HasNewFault count later)

-- a line was put whole, or the sink failed and a front of it was put
abbrev pub WroteLine : Option (List ℕ) → Option (List ℕ) → ℕ → ℕ → List ℕ → Type 0
WroteLine before now count later line = (now ≡ grown before line) ⊎ (IsPart before now line × HasNewFault count later)

-- a status, or where its line was not put the fault
abbrev pub ended : {T E : Type 0} → Result T E → Status → Status
ended (Ok done) status = status
ended (Err fault) status = WriteFault
