-- Reading, one token at a time, with the lists that stand open.
use Rattle.std.specs.Prelude.{ℕ, nat_lt, if◌then◌else◌, Option, None, Some, List, [], ◌∷◌, ◌++◌, length, map, reverse}
use Rattle.text_core.specs.declared.place.Place.{Place}
use Rattle.text_core.specs.declared.place.Refusal.{Refusal}
use Rattle.moxi_sexpr.specs.declared.read.TokenKind.{TokenKind}
use Rattle.moxi_sexpr.specs.declared.read.TokenKind.TheVariants.{Open, Close, Atom}
use Rattle.moxi_sexpr.specs.declared.read.Opened.{Opened}
use Rattle.moxi_sexpr.specs.Tree.{Tree, atom, list, trees_of, plain}
use Rattle.moxi_sexpr.specs.Lexing.{Token, limit, refusal}

-- an open list: its place, and the forms before it
pub record Frame : Type 0 where
  pub place : Place
  pub before : List Tree

pub data Move : Type 0 where
  stop : Refusal → Move
  onward : List Frame → List Tree → Move

abbrev pub closed : Place → List Frame → List Tree → Move
closed place [] done = stop (refusal 1 place)
closed place (f ∷ k) done = onward k (f.before ++ list f.place (trees_of done) ∷ [])

abbrev pub step : TokenKind → Place → List Frame → List Tree → Move
step Open place k done = if nat_lt (length k) limit then onward (record { place = place; before = done } ∷ k) [] else stop (refusal 3 place)
step Close place k done = closed place k done
step (Atom a) place k done = onward k (done ++ atom place a ∷ [])

-- a refusal, or the text that is left, the open lists and the forms
pub data Turn : Type 0 where
  stops : Refusal → Turn
  goes_to : List ℕ → List Frame → List Tree → Turn

-- the move, with this text left
abbrev pub with_rest : List ℕ → Move → Turn
with_rest rest (stop why) = stops why
with_rest rest (onward k done) = goes_to rest k done

-- what the token at the front of a text, if one is there, leads to
abbrev pub turn_of : Place → Option (TokenKind × List ℕ) → List Frame → List Tree → Turn
turn_of place None k done = stops (refusal 1 place)
turn_of place (Some x) k done = with_rest x.1 (step x.0 place k done)

-- the move without the limit
abbrev pub shift : TokenKind → Place → List Frame → List Tree → Move
shift Open place k done = onward (record { place = place; before = done } ∷ k) []
shift Close place k done = closed place k done
shift (Atom a) place k done = onward k (done ++ atom place a ∷ [])

abbrev pub next_move : Move → (List Frame → List Tree → Option (List Tree)) → Option (List Tree)
next_move (stop f) next = None
next_move (onward k done) next = next k done

abbrev pub ended : List Frame → List Tree → Option (List Tree)
ended [] done = Some done
ended (f ∷ k) done = None

-- the forms of tokens, where no bracket stands against it
unfoldable pub run : List Token → List Frame → List Tree → Option (List Tree)
run [] k done = ended k done
run (x ∷ xs) k done = next_move (shift x.kind x.place k done) (λ k done. run xs k done)

abbrev pub plain_open : Opened → Frame
plain_open o = record { place = o.place; before = map plain o.before.items }

-- the last one opened comes first
abbrev pub open_lists : List Opened → List Frame
open_lists os = reverse (map plain_open os)
