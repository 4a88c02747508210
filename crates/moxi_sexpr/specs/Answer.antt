-- What the functions answer.
use Rattle.std.specs.Prelude.{◌≡◌, ◌<◌, ◌++◌, ℕ, List, map, length, Option, Some, None, Result, Ok, Err}
use Rattle.std.specs.Borrow.{Bor}
use Rattle.std.specs.Global.{Vec}
use Rattle.text_core.specs.declared.end.End.{End}
use Rattle.text_core.specs.declared.end.End.TheVariants.{Bad, NoMemory}
use Rattle.text_core.specs.declared.place.Refusal.{Refusal}
use Rattle.moxi_sexpr.specs.declared.scan.Spelling.{Spelling}
use Rattle.moxi_sexpr.specs.declared.form.Form.{Form}
use Rattle.moxi_sexpr.specs.Tree.{Tree, Trees, trees_of, plain}
use Rattle.moxi_sexpr.specs.Grammar.{RefusesWith}
use Rattle.moxi_sexpr.specs.Reading.{Scan}
use Rattle.moxi_sexpr.specs.Machine.{Frame, Move, stop, onward, Turn, stops, goes_to}

-- these forms, or out of memory
abbrev pub Reads : Trees → Result (Vec Form) End → Type 0
Reads ts (Ok v) = trees_of (map plain v.items) ≡ ts
Reads ts (Err (Bad why)) = ⊥
Reads ts (Err NoMemory) = Unit {0}

-- this refusal, or out of memory
abbrev pub IsAnswered : Refusal → Result (Vec Form) End → Type 0
IsAnswered why (Ok v) = ⊥
IsAnswered why (Err (Bad x)) = x ≡ why
IsAnswered why (Err NoMemory) = Unit {0}

-- the text is refused so, or memory ran out
abbrev pub IsRefused : List ℕ → End → Type 0
IsRefused text (Bad why) = RefusesWith text why
IsRefused text NoMemory = Unit {0}

-- the scan, with its bytes behind references
abbrev pub Scans : Option (Spelling × Bor (List ℕ) × Bor (List ℕ)) → Scan → Type 0
Scans None o = o ≡ None
Scans (Some x) o = o ≡ Some (x.0, x.1.now, x.2.now)

-- one or more bytes are before the rest
pub record IsBehind (text rest : List ℕ) : Type 0 where
  pub bytes : List ℕ
  pub is : text ≡ bytes ++ rest
  pub some : 0 < length bytes

-- a move goes on to these open lists and forms
abbrev pub Moves : Move → Result (Unit {0}) End → List Frame → List Tree → Type 0
Moves m (Ok u) k done = m ≡ onward k done
Moves m (Err (Bad why)) k done = m ≡ stop why
Moves m (Err NoMemory) k done = Unit {0}

-- a turn goes on to this rest, these open lists and forms
abbrev pub Turns : Turn → Result (Bor (List ℕ)) End → List Frame → List Tree → Type 0
Turns t (Ok rest) k done = t ≡ goes_to rest.now k done
Turns t (Err (Bad why)) k done = t ≡ stops why
Turns t (Err NoMemory) k done = Unit {0}
