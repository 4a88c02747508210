-- What a line is behind the lines before it, or the first rule that it breaks (BTOR2, CAV 2018, section 2).
use Rattle.std.specs.Prelude.{◌==◌, ◌+◌, ◌-◌, ◌^◌, ℕ, length, Bool, ◌&&◌, ◌||◌, true, false, List, [], ◌∷◌, Option, Some, None, is_none, Result, Ok, Err, option_and_then, nat_lt, nat_le, map, option_map, suc, if◌then◌else◌}
use Rattle.word_core.specs.declared.word.TheConstants.{WIDEST}
use Rattle.word_core.specs.declared.kinds.Binary.{Binary}
use Rattle.word_core.specs.declared.kinds.Binary.TheVariants.{Iff, Implies, Concat}
use Rattle.word_core.specs.declared.kinds.Unary.TheVariants.{Neg}
use Rattle.word_core.specs.Words.{BitVector}
use Rattle.word_core.specs.Digits.{read_word}
use Rattle.word_core.specs.Table.{unary_of, unary_width, binary_width}
use Rattle.btor_tree.specs.declared.args.Arg.{Arg}
use Rattle.btor_tree.specs.declared.lines.Line.{Line}
use Rattle.btor_tree.specs.declared.lines.LineOp.{LineOp}
use Rattle.btor_tree.specs.declared.lines.LineOp.TheVariants as op
use Rattle.btor_tree.specs.Fits.{plain_arg, is_constant, last_id, sort_at, width_at, kind_at, is_state, state_value, is_init, is_next}
use Rattle.btor_tree.specs.Shapes.{Operand, Nullary, input, state, one, zero, ones, Base, in_binary, in_decimal, in_hex, Extension, uext, sext, Binding, init, next, Property, bad, constraint, output, is_negative, magnitude_of, Content, sort_content, nullary_content, constant_content, binding_content, property_content, unary_content, binary_content, ite_content, slice_content, extension_content, unsupported_content, Shape}

-- The rule that a line breaks, in the order in which the rules of one line are tested: no shape fits (B1), the
-- word is left out (B5), the id doesn't rise (B2), a width isn't 1 to `WIDEST` (B6), a line isn't there (B3), widths don't fit (B4), a state has a second init
-- or next (B7), the value of an init comes too late (B8).
pub data Fault : Type 0 where
  no_shape : Fault
  not_supported : Fault
  id_order : Fault
  wide_sort : Fault
  no_such_node : Fault
  sort_clash : Fault
  twice : Fault
  init_late : Fault

-- the ids of lines, in order
abbrev pub line_ids : List Line → List ℕ
line_ids = map (λ l. l.id)

-- the place of the first of these that is n
abbrev pub place_in : ℕ → List ℕ → Option ℕ
place_in n [] = None
place_in n (x ∷ xs) = if x == n then Some 0 else option_map suc (place_in n xs)

-- the place of the line of an id, where that line passes
abbrev pub place_of_id : List Line → ℕ → (ℕ → Bool) → Option ℕ
place_of_id before id passes = option_and_then (λ i. if passes i then Some i else None) (place_in id (line_ids before))

-- the place of the sort line of an id
abbrev pub sort_of_id : List Line → ℕ → Option ℕ
sort_of_id before s = place_of_id before s (λ i. nat_lt 0 (sort_at before i))

-- the place of the state line of an id
abbrev pub state_of_id : List Line → ℕ → Option ℕ
state_of_id before x = place_of_id before x (λ i. kind_at is_state before i)

-- the place of the line of an id, where it has a word
abbrev pub word_of_id : List Line → ℕ → Option ℕ
word_of_id before a = place_of_id before a (λ i. nat_lt 0 (width_at before i))

-- go on with the place of a line that is there
abbrev pub at_place : Option ℕ → (ℕ → Result Line Fault) → Result Line Fault
at_place None f = Err no_such_node
at_place (Some i) f = f i

-- go on where a test is passed
abbrev pub owed : Bool → Fault → Result Line Fault → Result Line Fault
owed true fault r = r
owed false fault r = Err fault

-- what the lines of each class do
abbrev pub nullary_op : Nullary → LineOp
nullary_op input = op.Input
nullary_op state = op.State
nullary_op one = op.One
nullary_op zero = op.Zero
nullary_op ones = op.Ones

abbrev pub binding_op : Binding → LineOp
binding_op init = op.Init
binding_op next = op.Next

abbrev pub property_op : Property → LineOp
property_op bad = op.Bad
property_op constraint = op.Constraint
property_op output = op.Output

abbrev pub extension_op : Extension → ℕ → LineOp
extension_op uext n = op.Uext n
extension_op sext n = op.Sext n

-- is this a width that such a line's operand may have? The operand of an output has any.
abbrev pub property_takes : Property → ℕ → Bool
property_takes output w = true
property_takes k w = w == 1

-- minus the number of a word, where its magnitude is at most two to the width less one
abbrev pub minus_word : BitVector → Option BitVector
minus_word a = if nat_le a.bits (2 ^ (a.width - 1)) then Some (unary_of Neg a) else None

-- the word of a width that the digits of a constant spell: a binary one has as many digits as the width says, a decimal one may be
-- negative
abbrev pub literal_word : Base → ℕ → List ℕ → Option BitVector
literal_word in_binary w text = if length text == w then read_word w 2 text else None
literal_word in_decimal w text = if is_negative text then option_and_then minus_word (read_word w 10 (magnitude_of text)) else read_word w 10 text
literal_word in_hex w text = read_word w 16 text

-- go on with the word of a constant that fits
abbrev pub at_word : Option BitVector → (BitVector → Result Line Fault) → Result Line Fault
at_word None f = Err sort_clash
at_word (Some c) f = f c

-- are these the widths that a binary operator's row asks for?
abbrev pub binary_fits : Binary → ℕ → ℕ → Bool
binary_fits Iff v w = (v == 1) && (w == 1)
binary_fits Implies v w = (v == 1) && (w == 1)
binary_fits Concat v w = nat_le (v + w) WIDEST
binary_fits op v w = v == w

-- does no line of this kind give the state a value so far?
abbrev pub is_first : Binding → List Line → ℕ → Bool
is_first init before x = is_none (state_value is_init before x)
is_first next before x = is_none (state_value is_next before x)

-- does init's value stand before its state, or is it a constant line?
abbrev pub is_in_time : Binding → List Line → ℕ → ℕ → Bool
is_in_time init before x v = nat_lt v x || kind_at is_constant before v
is_in_time next before x v = true

-- the line of a shape, with places for its ids
abbrev pub filled : Shape → LineOp → ℕ → List Arg → Line
filled sh o s args = record { id = sh.id; op = o; sort = s; args = args; symbol = sh.symbol }

-- the argument at a place, negated as its operand is
abbrev pub argument : Operand → ℕ → Arg
argument a i = record { line = i; negated = a.negated }

-- the line of a content, or the first rule that it breaks: earlier lines are there, widths fit, and the rules of states
abbrev pub resolve_content : List Line → Shape → Content → Result Line Fault
resolve_content before sh (sort_content w) = owed (nat_le 1 w && nat_le w WIDEST) wide_sort (Ok (filled sh (op.Sort w) 0 []))
resolve_content before sh (nullary_content k s) = at_place (sort_of_id before s) (λ i. Ok (filled sh (nullary_op k) i []))
resolve_content before sh (constant_content k s digits) =
    at_place (sort_of_id before s) (λ i. at_word (literal_word k (sort_at before i) digits) (λ c. Ok (filled sh (op.Constant c) i [])))
resolve_content before sh (binding_content k s x v) =
    at_place (sort_of_id before s) (λ i. at_place (state_of_id before x) (λ j. at_place (word_of_id before v.id) (λ n.
    owed (width_at before j == sort_at before i && width_at before n == width_at before j) sort_clash (
    owed (is_first k before j) twice (
    owed (is_in_time k before j n) init_late (Ok (filled sh (binding_op k) i (plain_arg j ∷ argument v n ∷ []))))))))
resolve_content before sh (property_content k a) =
    at_place (word_of_id before a.id) (λ j. owed (property_takes k (width_at before j)) sort_clash (Ok (filled sh (property_op k) 0 (argument a j ∷ []))))
resolve_content before sh (unary_content o s a) =
    at_place (sort_of_id before s) (λ i. at_place (word_of_id before a.id) (λ j.
    owed (unary_width o (width_at before j) == sort_at before i) sort_clash (Ok (filled sh (op.Unary o) i (argument a j ∷ [])))))
resolve_content before sh (binary_content o s a b) =
    at_place (sort_of_id before s) (λ i. at_place (word_of_id before a.id) (λ j. at_place (word_of_id before b.id) (λ n.
    owed (binary_fits o (width_at before j) (width_at before n) && binary_width o (width_at before j) (width_at before n) == sort_at before i) sort_clash (Ok (filled sh (op.Binary o) i (argument a j ∷ argument b n ∷ []))))))
resolve_content before sh (ite_content s c a b) =
    at_place (sort_of_id before s) (λ i. at_place (word_of_id before c.id) (λ m. at_place (word_of_id before a.id) (λ j. at_place (word_of_id before b.id) (λ n.
    owed (width_at before m == 1 && (width_at before j == sort_at before i && width_at before n == sort_at before i)) sort_clash (Ok (filled sh op.Ite i (argument c m ∷ argument a j ∷ argument b n ∷ [])))))))
resolve_content before sh (slice_content s a high low) =
    at_place (sort_of_id before s) (λ i. at_place (word_of_id before a.id) (λ j.
    owed (nat_le low high && (nat_lt high (width_at before j) && high - low + 1 == sort_at before i)) sort_clash (Ok (filled sh (op.Slice high low) i (argument a j ∷ [])))))
resolve_content before sh (extension_content k s a n) =
    at_place (sort_of_id before s) (λ i. at_place (word_of_id before a.id) (λ j.
    owed (width_at before j + n == sort_at before i) sort_clash (Ok (filled sh (extension_op k n) i (argument a j ∷ [])))))
resolve_content before sh unsupported_content = Err not_supported

-- is the word of the line not left out?
abbrev pub is_supported : Content → Bool
is_supported unsupported_content = false
is_supported content = true

-- the line of a shape behind these lines, or the first rule that it breaks
abbrev pub resolve : List Line → Shape → Result Line Fault
resolve before sh = owed (is_supported sh.content) not_supported (owed (nat_lt (last_id before) sh.id) id_order (resolve_content before sh sh.content))
