-- What the lines of queries are: latches, which remember what has held in the frames before, and what the bad lines take.
use Rattle.std.specs.Prelude.{◌≡◌, ℕ, Bool, true, false, not, ◌&&◌, ◌||◌, Option, Some, None, IfSome, List, [], ◌∷◌}
use Rattle.std.specs.List.{AllZip, list_all, list_any}
use Rattle.word_core.specs.Words.{BitVector}
use Rattle.btor_tree.specs.declared.lines.Line.{Line}
use Rattle.btor_tree.specs.Fits.{is_init, is_next, is_state, kind_at, plain_arg, state_value, width_at}
use Rattle.btor_tree.specs.Frame.{word_at}
use Rattle.moxi_terms.specs.Value.{Values}
use Rattle.moxi_scripts.specs.declared.script.Query.{Query}
use Rattle.moxi_scripts.specs.Script.{formula_at}
use Rattle.moxi_flat.specs.FlatSystem.{PlainFlatSystem}
use Rattle.moxi_lines.specs.Lines.{has_conditions, one_place, zero_place}
use Rattle.moxi_lines.specs.Constraints.{is_true}
use Rattle.moxi_layout.specs.Layout.{is_reached, is_set, truth_word}

-- ---- places

-- the place of a latch's state, and of the line whose word its next value is
pub record Latch : Type 0 where
  pub state : ℕ
  pub next : ℕ

-- The places of a query's lines: the latch of its conditions, those of its reachable formulas, and the line that its bad line takes.
pub record QueryPlaces : Type 0 where
  pub ok : Option Latch
  pub seen : List Latch
  pub goal : ℕ

-- a state of a truth value, with its init and its next
pub record IsLatch (lines : List Line) (begins : ℕ) (l : Latch) : Type 0 where
  pub state : kind_at is_state lines l.state ≡ true
  pub width : width_at lines l.state ≡ 1
  pub init : state_value is_init lines l.state ≡ Some (plain_arg begins)
  pub next : state_value is_next lines l.state ≡ Some (plain_arg l.next)

-- a query with assumptions or current conditions has a latch for them, which begins as one
abbrev pub OkIsAt : List Line → Bool → Option Latch → Type 0
OkIsAt lines true (Some l) = IsLatch lines one_place l
OkIsAt lines false None = Unit {0}
OkIsAt lines b o = ⊥

-- the reachable formulas that have latches: all, where they are several
abbrev pub latched : List ℕ → List ℕ
latched (r ∷ []) = []
latched rs = rs

-- each of them has a latch that begins as zero
pub record IsQueryAt (lines : List Line) (q : Query) (p : QueryPlaces) : Type 0 where
  pub ok : OkIsAt lines (has_conditions q.assumptions q.currents) p.ok
  pub seen : AllZip (λ (r : ℕ) (l : Latch). IsLatch lines zero_place l) (latched q.reachables) p.seen

-- ---- words

-- the assumptions hold, and in the first frame the current conditions
abbrev pub conditions_hold : PlainFlatSystem → Bool → Values → Query → Bool
conditions_hold f first now q =
    list_all (λ a. is_true f.scope now now (formula_at f.assumptions a)) q.assumptions && list_all (λ c. not first || is_true f.scope now now (formula_at f.currents c)) q.currents

-- the reachable formula of this number is true now, or was so before by its latch
abbrev pub reached_until : PlainFlatSystem → List BitVector → Values → ℕ → Latch → Bool
reached_until f row now r l = is_set row l.state || is_reached f now r

abbrev pub are_reached : PlainFlatSystem → List BitVector → Values → List ℕ → List Latch → Bool
are_reached f row now [] [] = true
are_reached f row now (r ∷ rs) (l ∷ ls) = reached_until f row now r l && are_reached f row now rs ls
are_reached f row now rs ls = false

-- the conditions hold now, and held before by their latch
abbrev pub have_held : PlainFlatSystem → List BitVector → Bool → Values → Query → Option Latch → Bool
have_held f row first now q None = true
have_held f row first now q (Some l) = is_set row l.state && conditions_hold f first now q

-- The conditions have held until now, each reachable formula was reached until now, and one or more are reached now.
abbrev pub is_met : PlainFlatSystem → List BitVector → Bool → Values → Query → QueryPlaces → Bool
is_met f row first now q p = have_held f row first now q p.ok && (are_reached f row now (latched q.reachables) p.seen && list_any (is_reached f now) q.reachables)

-- the words of a query's lines
pub record HasQueryWords (f : PlainFlatSystem) (row : List BitVector) (first : Bool) (now : Values) (q : Query) (p : QueryPlaces) : Type 0 where
  pub ok : IfSome p.ok (λ l. word_at row l.next ≡ truth_word (have_held f row first now q p.ok))
  pub seen : AllZip (λ r l. word_at row l.next ≡ truth_word (reached_until f row now r l)) (latched q.reachables) p.seen
  pub goal : word_at row p.goal ≡ truth_word (is_met f row first now q p)
