-- What a line says, as a key of an ordered map, and what the map of a list of lines holds.
use Rattle.std.specs.Prelude.{◌≡◌, ℕ, suc, ◌+◌, ◌*◌, ◌<◌, ◌≤◌, Bool, false, ◌&&◌, List, [], ◌∷◌, length, get_or, Option, Some, None, option_map, slice_get, slice_index_or, if◌then◌else◌}
use Rattle.std.specs.declared.cmp.Ordering.{Ordering}
use Rattle.std.specs.Ordering.{ordering_then, nat_cmp, bool_cmp}
use Rattle.std.specs.BTreeMap.{BTreeMap, get, is_at, IsUnchanged}
use Rattle.btor_tree.specs.declared.args.Arg.{Arg}
use Rattle.btor_tree.specs.declared.lines.Line.{Line}
use Rattle.btor_tree.specs.declared.lines.LineOp.{LineOp}
use Rattle.btor_tree.specs.declared.line_key.LineKey.{LineKey}
use Rattle.btor_tree.specs.declared.line_places.LinePlaces.{LinePlaces}
use Rattle.btor_tree.specs.Fits.{plain_arg}
use Rattle.btor_tree.specs.declared.lines.LineOp.TheVariants as op
use Rattle.word_core.specs.declared.word.TheConstants.{WIDEST}
use Rattle.btor_tree.specs.Sharing.{is_shared, op_kind, op_number, op_second, place_of_equal}

-- no line that is shared has more arguments
abbrev pub IsShort : List Arg → Type 0
IsShort args = length args ≤ 3

-- what a line says that is shared
abbrev pub key_of : LineOp → ℕ → List Arg → LineKey
key_of o sort args =
    record { first = record { 0 = slice_index_or args 0 (plain_arg 0) }; second = record { 0 = slice_index_or args 1 (plain_arg 0) }; number = op_number o; kind = op_kind o; sort = sort; other = op_second o; third = slice_index_or args 2 (plain_arg 0); count = length args }

-- what a line says
abbrev pub line_key : Line → LineKey
line_key l = key_of l.op l.sort l.args

-- by line, and then by sign
abbrev pub arg_cmp : Arg → Arg → Ordering
arg_cmp a b = ordering_then (nat_cmp a.line b.line) (bool_cmp a.negated b.negated)

-- by the fields in their order, with later arguments in front
abbrev pub key_cmp : LineKey → LineKey → Ordering
key_cmp a b =
    ordering_then (arg_cmp b.first.0 a.first.0) (ordering_then (arg_cmp b.second.0 a.second.0) (ordering_then (nat_cmp a.number b.number) (ordering_then (nat_cmp a.kind b.kind)
    (ordering_then (nat_cmp a.sort b.sort) (ordering_then (nat_cmp a.other b.other) (ordering_then (arg_cmp a.third b.third) (nat_cmp a.count b.count)))))))

-- does the line say what the key does?
abbrev pub is_keyed : LineKey → Line → Bool
is_keyed k l = is_shared l.op && is_at (key_cmp k) (line_key l)

-- the place of the first line that says what a key does
abbrev pub place_keyed : List Line → LineKey → Option ℕ
place_keyed [] k = None
place_keyed (l ∷ ls) k = if is_keyed k l then Some 0 else option_map suc (place_keyed ls k)

-- the slot of a key, which tells most keys apart: twice the line of the first argument, and the line of the second
abbrev pub slot_of : LineKey → ℕ
slot_of k = 2 * k.first.0.line + k.second.0.line

-- does the line at a place say what the key does?
abbrev pub is_keyed_at : LineKey → Option Line → Bool
is_keyed_at k None = false
is_keyed_at k (Some l) = is_keyed k l

-- what is known of a key, given the place of the line that has its slot
abbrev pub known_from : List Line → BTreeMap LineKey ℕ → LineKey → Option ℕ → Option ℕ
known_from lines others k None = None
known_from lines others k (Some p) = if is_keyed_at k (slice_get lines p) then Some p else get key_cmp others k

-- the place that is known for a key
abbrev pub known_at : List Line → LinePlaces → LineKey → Option ℕ
known_at lines places k = known_from lines places.others k (get_or places.slots.items (slot_of k) None)

-- the places of the lines that are shared are known, and no others; the map has no key whose slot is free
pub record HasPlaces (lines : List Line) (places : LinePlaces) : Type 0 where
  pub by_key : (k : LineKey) → known_at lines places k ≡ place_keyed lines k
  pub there : (i p : ℕ) → get_or places.slots.items i None ≡ Some p → p < length lines
  pub behind : (k : LineKey) → get_or places.slots.items (slot_of k) None ≡ None → get key_cmp places.others k ≡ None

-- what the table has at w is the place of the sort line of width w + 1
pub record KnowsSorts (lines : List Line) (sorts : List (Option ℕ)) : Type 0 where
  pub long : length sorts ≡ WIDEST
  pub places : (w p : ℕ) → get_or sorts w None ≡ Some p → place_of_equal lines (op.Sort (suc w)) 0 [] ≡ Some p

-- the map as it is where it has a value for a key, or with the value for it where it has none
abbrev pub EntersKey : {K : Type 0} → (K → K → Ordering) → Option ℕ → K → ℕ → BTreeMap K ℕ → BTreeMap K ℕ → Type 0
EntersKey cmp (Some there) k p old new = IsUnchanged old new
EntersKey {K} cmp None k p old new = (q : K) → get cmp new q ≡ (if is_at (cmp k) q then Some p else get cmp old q)
