-- What is printed is spelled.
use Rattle.std.proofs.Common.{◌≡◌, ℕ, ◌+◌, ◌-◌, ◌<◌, ◌≤◌, ◌^◌, Bool, true, false, cond, eqb, ltb, List, [], ◌∷◌, ◌++◌, length, take, map, Option, Some, None, Ok, refl, sym, ap, ◌∙◌, subst, arith, inl, inr}
use Rattle.std.specs.Prelude.{option_and_then, option_map, IfSome, slice_get, codes}
use Rattle.std.specs.Fmt.{decimal}
use Rattle.std.specs.List.{flat_map}
use Rattle.std.proofs.lemmas.Fmt.{decimal_nonempty}
use Rattle.std.proofs.lemmas.List.{append_assoc, append-nil, take_at}
use Rattle.std.proofs.lemmas.Bool.{cond-true, cond-false, lt-ltb, le-leb, eq-eqb, and_parts, and_from, or_right, cases_lt}
use Rattle.std.proofs.lemmas.Bool.Decides.{nat_tests}
use Rattle.std.proofs.lemmas.Option.{slice_get_past}
use Rattle.word_core.specs.declared.word.TheConstants.{WIDEST}
use Rattle.word_core.specs.declared.kinds.Unary.{Unary}
use Rattle.word_core.specs.declared.kinds.Unary.TheVariants.{Not}
use Rattle.word_core.specs.declared.kinds.Binary.{Binary}
use Rattle.word_core.specs.declared.kinds.Binary.TheVariants.{Iff, Implies, Concat}
use Rattle.text_core.specs.Binary.{binary_digits}
use Rattle.word_core.specs.Words.{BitVector, IsWord}
use Rattle.word_core.specs.Table.{unary_width, BinaryFits, binary_width}
use Rattle.btor_tree.specs.declared.args.Arg.{Arg}
use Rattle.btor_tree.specs.declared.lines.Line.{Line}
use Rattle.btor_tree.specs.declared.lines.LineOp.{LineOp}
use Rattle.btor_tree.specs.declared.lines.LineOp.TheVariants as op
use Rattle.btor_tree.specs.Fits.{Fits, OpFits, IsWellFormed, last_id, sort_at, width_at, kind_at, is_state, is_init, is_next, is_constant, InitRule, GivesValue, IsSymbol}
use Rattle.text_core.specs.Bytes.{is_digit}
use Rattle.btor_tree.specs.Parts.{Parts, is_symbol, cap, numeral, raw_lines}
use Rattle.btor_tree.specs.Shapes.{Operand, Nullary, input, state, one, zero, ones, in_binary, Extension, uext, sext, Binding, init, next, Property, bad, constraint, output, Content, sort_content, nullary_content, constant_content, binding_content, property_content, unary_content, binary_content, ite_content, slice_content, extension_content, Shape, nullary_text, binding_text, property_text, extension_text, unary_text, binary_text, operand_of, symbol_parts, SpellsContent, Spells}
use Rattle.btor_tree.specs.Resolving.{place_of_id, sort_of_id, state_of_id, word_of_id, nullary_op, property_op, extension_op, property_takes, is_supported, binary_fits, is_in_time, filled, resolve_content, resolve}
use Rattle.btor_tree.specs.Texts.{Reads, ends, passed, line, SpellsLines}
use Rattle.btor_tree.specs.Printing.{id_at, operand_text, op_text, sort_parts, number_parts, printed_rest, spaced, line_text, printed}
use Rattle.btor_tree.proofs.AtPlaces.{width_of_sort, width_of_line}
use Rattle.btor_tree.proofs.Numerals.{numeral_again, decimal_digits}
use Rattle.btor_tree.proofs.PartLaws.{AllParts, parts_append, symbol_bytes, joined_parts, joined_end, decimal_part, line_at, symbol_test}
use Rattle.btor_tree.proofs.Widths.{sort_small, width_small}
use Rattle.btor_tree.proofs.Literals.{digits_part, digits_are, literal_again}
use Rattle.btor_tree.proofs.IdLaws.{Knows, place_again, small_id, get_end, front_known}
use Rattle.text_core.proofs.Numerals.{all_digits}

-- the place of a printed id
place_back : (before lines : List Line) → Knows before lines → (k : ℕ) (passes : ℕ → Bool) → k < length before → passes k ≡ true → place_of_id before (id_at lines k) passes ≡ Some k
place_back before lines h k passes lt e =
    ap (option_and_then (λ i. cond (passes i) (Some i) None)) (place_again before lines h k lt) ∙ cond-true (passes k) (Some k) None e

within : (before : List Line) (k : ℕ) (f : Option Line → ℕ) → f None ≡ 0 → 1 ≤ f (slice_get before k) → k < length before
within before k f e le =
    elim (cases_lt k (length before)) [
      | inl lt ↦ lt
      | inr past ↦ absurd (omega (arith, ap f (slice_get_past before k past)))
    ]

sort_back : (before lines : List Line) → Knows before lines → (s : ℕ) → 1 ≤ sort_at before s → sort_of_id before (id_at lines s) ≡ Some s
sort_back before lines h s le = place_back before lines h s (λ i. ltb 0 (sort_at before i)) (within before s width_of_sort refl le) (lt-ltb 0 (sort_at before s) le)

word_back : (before lines : List Line) → Knows before lines → (a : ℕ) → 1 ≤ width_at before a → word_of_id before (id_at lines a) ≡ Some a
word_back before lines h a le = place_back before lines h a (λ i. ltb 0 (width_at before i)) (within before a (width_of_line before) refl le) (lt-ltb 0 (width_at before a) le)

state_back : (before lines : List Line) → Knows before lines → (x : ℕ) → 1 ≤ width_at before x → kind_at is_state before x ≡ true → state_of_id before (id_at lines x) ≡ Some x
state_back before lines h x le e = place_back before lines h x (λ i. kind_at is_state before i) (within before x (width_of_line before) refl le) e

-- the operand that an argument is printed as
abbrev back : List Line → Arg → Operand
back lines a = record { id = id_at lines a.line; negated = a.negated }

abbrev signed : Bool → ℕ → Operand
signed negated n = record { id = n; negated = negated }

no_minus : (bs : List ℕ) → all_digits bs ≡ true → 0 < length bs → operand_of bs ≡ option_map (signed false) (numeral bs)
no_minus [] e lt = absurd (omega arith)
no_minus (b ∷ bs) e lt =
    let digit = (and_parts (is_digit b) (all_digits bs) e).0 in
    let plain : eqb b 45 ≡ false = grind (arith, nat_tests) in
    ap (λ t. option_map (signed t) (numeral (cond t bs (b ∷ bs)))) plain

operand_again : (n : ℕ) (negated : Bool) → n < cap → operand_of (cond negated (45 ∷ decimal n) (decimal n)) ≡ Some (record { id = n; negated = negated })
operand_again n true lt = ap (option_map (signed true)) (numeral_again n lt)
operand_again n false lt =
    let small : n < 2 ^ 64 = omega arith in
    no_minus (decimal n) (decimal_digits n small) (decimal_nonempty n small) ∙ ap (option_map (signed false)) (numeral_again n lt)

unsigned_text : (lines : List Line) (x : Arg) → x.negated ≡ false → operand_text lines x ≡ decimal (id_at lines x.line)
unsigned_text lines x e = cond-false x.negated (45 ∷ decimal (id_at lines x.line)) (decimal (id_at lines x.line)) e

-- what the printed parts of a line say, and what that is behind the lines before it
record Again (before lines : List Line) (l : Line) : Type 0 where
  content : Content
  supported : is_supported content ≡ true
  spells : SpellsContent content (symbol_parts l.symbol) (printed_rest lines l)
  resolves : resolve_content before (record { id = l.id; content = content; symbol = l.symbol }) content ≡ Ok l

-- the facts that each case wants
record Printing (before lines : List Line) : Type 0 where
  knows : Knows before lines
  small : (k : ℕ) → id_at lines k < cap

number : (before lines : List Line) → Printing before lines → (k : ℕ) → numeral (decimal (id_at lines k)) ≡ Some (id_at lines k)
number before lines p k = numeral_again (id_at lines k) (p.small k)

operand_back : (before lines : List Line) → Printing before lines → (a : Arg) → operand_of (operand_text lines a) ≡ Some (back lines a)
operand_back before lines p a = operand_again (id_at lines a.line) a.negated (p.small a.line)

nullary_resolves : (before lines : List Line) → Printing before lines → (k : Nullary) (s : ℕ) (sh : Shape) → 1 ≤ sort_at before s
    → resolve_content before sh (nullary_content k (id_at lines s)) ≡ Ok (filled sh (nullary_op k) s [])
nullary_resolves before lines p k s sh le = rw (sort_back before lines p.knows s le) refl

property_resolves : (before lines : List Line) → Printing before lines → (k : Property) (a : Arg) (sh : Shape) → 1 ≤ width_at before a.line → property_takes k (width_at before a.line) ≡ true
    → resolve_content before sh (property_content k (back lines a)) ≡ Ok (filled sh (property_op k) 0 (a ∷ []))
property_resolves before lines p k a sh le e = rw (word_back before lines p.knows a.line le, e) refl

constant_resolves : (before lines : List Line) → Printing before lines → (s : ℕ) (c : BitVector) (sh : Shape) → IsWord c → c.width ≡ sort_at before s
    → resolve_content before sh (constant_content in_binary (id_at lines s) (binary_digits c.width c.bits)) ≡ Ok (filled sh (op.Constant c) s [])
constant_resolves before lines p s c sh word e =
    rw (sort_back before lines p.knows s (omega (arith, word.0, e)), literal_again c (sort_at before s) word e) refl

ite_resolves : (before lines : List Line) → Printing before lines → (s : ℕ) (c a b : Arg) (sh : Shape) → 1 ≤ sort_at before s → width_at before c.line ≡ 1 → width_at before a.line ≡ sort_at before s → width_at before b.line ≡ sort_at before s
    → resolve_content before sh (ite_content (id_at lines s) (back lines c) (back lines a) (back lines b)) ≡ Ok (filled sh op.Ite s (c ∷ a ∷ b ∷ []))
ite_resolves before lines p s c a b sh wide one_bit first second =
    rw (sort_back before lines p.knows s wide, word_back before lines p.knows c.line (omega (arith, one_bit)), word_back before lines p.knows a.line (omega (arith, wide, first)), word_back before lines p.knows b.line (omega (arith, wide, second)), eq-eqb (width_at before c.line) 1 one_bit, eq-eqb (width_at before a.line) (sort_at before s) first, eq-eqb (width_at before b.line) (sort_at before s) second) refl

slice_resolves : (before lines : List Line) → Printing before lines → (s : ℕ) (a : Arg) (high low : ℕ) (sh : Shape) → 1 ≤ sort_at before s → low ≤ high → high < width_at before a.line → high - low + 1 ≡ sort_at before s
    → resolve_content before sh (slice_content (id_at lines s) (back lines a) high low) ≡ Ok (filled sh (op.Slice high low) s (a ∷ []))
slice_resolves before lines p s a high low sh wide order range e =
    rw (sort_back before lines p.knows s wide, word_back before lines p.knows a.line (omega (arith, range)), le-leb low high order, lt-ltb high (width_at before a.line) range, eq-eqb (high - low + 1) (sort_at before s) e) refl

extension_resolves : (before lines : List Line) → Printing before lines → (k : Extension) (s : ℕ) (a : Arg) (n : ℕ) (sh : Shape) → 1 ≤ sort_at before s → 1 ≤ width_at before a.line → width_at before a.line + n ≡ sort_at before s
    → resolve_content before sh (extension_content k (id_at lines s) (back lines a) n) ≡ Ok (filled sh (extension_op k n) s (a ∷ []))
extension_resolves before lines p k s a n sh wide word e =
    rw (sort_back before lines p.knows s wide, word_back before lines p.knows a.line word, eq-eqb (width_at before a.line + n) (sort_at before s) e) refl

unary_resolves : (before lines : List Line) → Printing before lines → (o : Unary) (s : ℕ) (a : Arg) (sh : Shape) → 1 ≤ sort_at before s → 1 ≤ width_at before a.line → unary_width o (width_at before a.line) ≡ sort_at before s
    → resolve_content before sh (unary_content o (id_at lines s) (back lines a)) ≡ Ok (filled sh (op.Unary o) s (a ∷ []))
unary_resolves before lines p o s a sh wide word e =
    rw (sort_back before lines p.knows s wide, word_back before lines p.knows a.line word, eq-eqb (unary_width o (width_at before a.line)) (sort_at before s) e) refl

fits_test : (o : Binary) (v w : ℕ) → BinaryFits o v w → binary_fits o v w ≡ true
fits_test Iff v w e = and_from (eqb v 1) (eqb w 1) (eq-eqb v 1 e.0) (eq-eqb w 1 e.1)
fits_test Implies v w e = and_from (eqb v 1) (eqb w 1) (eq-eqb v 1 e.0) (eq-eqb w 1 e.1)
fits_test Concat v w e = le-leb (v + w) WIDEST e
fits_test op v w e = eq-eqb v w e

binary_resolves : (before lines : List Line) → Printing before lines → (o : Binary) (s : ℕ) (a b : Arg) (sh : Shape) → 1 ≤ sort_at before s → 1 ≤ width_at before a.line → 1 ≤ width_at before b.line
    → BinaryFits o (width_at before a.line) (width_at before b.line) → binary_width o (width_at before a.line) (width_at before b.line) ≡ sort_at before s
    → resolve_content before sh (binary_content o (id_at lines s) (back lines a) (back lines b)) ≡ Ok (filled sh (op.Binary o) s (a ∷ b ∷ []))
binary_resolves before lines p o s a b sh wide first second fits e =
    rw (sort_back before lines p.knows s wide, word_back before lines p.knows a.line first, word_back before lines p.knows b.line second, fits_test o (width_at before a.line) (width_at before b.line) fits, eq-eqb (binary_width o (width_at before a.line) (width_at before b.line)) (sort_at before s) e) refl

-- an init rule's test
in_time : (before : List Line) (x v : Arg) → InitRule before x v → is_in_time init before x.line v.line ≡ true
in_time before x v (inl early) = rw (lt-ltb v.line x.line early) refl
in_time before x v (inr constant) = or_right (ltb v.line x.line) (kind_at is_constant before v.line) constant

init_resolves : (before lines : List Line) → Printing before lines → (s : ℕ) (x v : Arg) (sh : Shape) → GivesValue is_init before s x v → InitRule before x v
    → resolve_content before sh (binding_content init (id_at lines s) (id_at lines x.line) (back lines v)) ≡ Ok (filled sh op.Init s (x ∷ v ∷ []))
init_resolves before lines p s x v sh h early =
    let value : width_at before v.line ≡ width_at before x.line = omega (arith, h.3, h.4) in
    rw (sort_back before lines p.knows s h.2, state_back before lines p.knows x.line (omega (arith, h.2, h.3)) h.0, word_back before lines p.knows v.line (omega (arith, h.2, h.4)), eq-eqb (width_at before x.line) (sort_at before s) h.3, eq-eqb (width_at before v.line) (width_at before x.line) value, h.5, in_time before x v early, h.1) refl

next_resolves : (before lines : List Line) → Printing before lines → (s : ℕ) (x v : Arg) (sh : Shape) → GivesValue is_next before s x v
    → resolve_content before sh (binding_content next (id_at lines s) (id_at lines x.line) (back lines v)) ≡ Ok (filled sh op.Next s (x ∷ v ∷ []))
next_resolves before lines p s x v sh h =
    let value : width_at before v.line ≡ width_at before x.line = omega (arith, h.3, h.4) in
    rw (sort_back before lines p.knows s h.2, state_back before lines p.knows x.line (omega (arith, h.2, h.3)) h.0, word_back before lines p.knows v.line (omega (arith, h.2, h.4)), eq-eqb (width_at before x.line) (sort_at before s) h.3, eq-eqb (width_at before v.line) (width_at before x.line) value, h.5, h.1) refl

nullary_spells : (before lines : List Line) → Printing before lines → (k : Nullary) (s : ℕ) (tail : Parts) → SpellsContent (nullary_content k (id_at lines s)) tail (nullary_text k ∷ decimal (id_at lines s) ∷ tail)
nullary_spells before lines p k s tail = (decimal (id_at lines s), refl, number before lines p s)

property_spells : (before lines : List Line) → Printing before lines → (k : Property) (a : Arg) (tail : Parts) → SpellsContent (property_content k (back lines a)) tail (property_text k ∷ operand_text lines a ∷ tail)
property_spells before lines p k a tail = (operand_text lines a, refl, operand_back before lines p a)

binding_spells : (before lines : List Line) → Printing before lines → (k : Binding) (s : ℕ) (x v : Arg) (tail : Parts) → x.negated ≡ false
    → SpellsContent (binding_content k (id_at lines s) (id_at lines x.line) (back lines v)) tail (binding_text k ∷ decimal (id_at lines s) ∷ operand_text lines x ∷ operand_text lines v ∷ tail)
binding_spells before lines p k s x v tail plain =
    (decimal (id_at lines s), decimal (id_at lines x.line), operand_text lines v, ap (λ t. binding_text k ∷ decimal (id_at lines s) ∷ t ∷ operand_text lines v ∷ tail) (unsigned_text lines x plain), number before lines p s, number before lines p x.line, operand_back before lines p v)

unary_spells : (before lines : List Line) → Printing before lines → (o : Unary) (s : ℕ) (a : Arg) (tail : Parts) → SpellsContent (unary_content o (id_at lines s) (back lines a)) tail (unary_text o ∷ decimal (id_at lines s) ∷ operand_text lines a ∷ tail)
unary_spells before lines p o s a tail = (decimal (id_at lines s), operand_text lines a, refl, number before lines p s, operand_back before lines p a)

binary_spells : (before lines : List Line) → Printing before lines → (o : Binary) (s : ℕ) (a b : Arg) (tail : Parts)
    → SpellsContent (binary_content o (id_at lines s) (back lines a) (back lines b)) tail (binary_text o ∷ decimal (id_at lines s) ∷ operand_text lines a ∷ operand_text lines b ∷ tail)
binary_spells before lines p o s a b tail =
    (decimal (id_at lines s), operand_text lines a, operand_text lines b, refl, number before lines p s, operand_back before lines p a, operand_back before lines p b)

constant_spells : (before lines : List Line) → Printing before lines → (s : ℕ) (c : BitVector) (tail : Parts) → IsWord c
    → SpellsContent (constant_content in_binary (id_at lines s) (binary_digits c.width c.bits)) tail (codes "const" ∷ decimal (id_at lines s) ∷ binary_digits c.width c.bits ∷ tail)
constant_spells before lines p s c tail word = (decimal (id_at lines s), refl, number before lines p s, digits_are c.width c.bits word.0)

ite_spells : (before lines : List Line) → Printing before lines → (s : ℕ) (c a b : Arg) (tail : Parts)
    → SpellsContent (ite_content (id_at lines s) (back lines c) (back lines a) (back lines b)) tail (codes "ite" ∷ decimal (id_at lines s) ∷ operand_text lines c ∷ operand_text lines a ∷ operand_text lines b ∷ tail)
ite_spells before lines p s c a b tail =
    (decimal (id_at lines s), operand_text lines c, operand_text lines a, operand_text lines b, refl, number before lines p s, operand_back before lines p c, operand_back before lines p a, operand_back before lines p b)

slice_spells : (before lines : List Line) → Printing before lines → (s : ℕ) (a : Arg) (high low : ℕ) (tail : Parts) → high < cap → low < cap
    → SpellsContent (slice_content (id_at lines s) (back lines a) high low) tail (codes "slice" ∷ decimal (id_at lines s) ∷ operand_text lines a ∷ decimal high ∷ decimal low ∷ tail)
slice_spells before lines p s a high low tail h l =
    (decimal (id_at lines s), operand_text lines a, decimal high, decimal low, refl, number before lines p s, operand_back before lines p a, numeral_again high h, numeral_again low l)

extension_spells : (before lines : List Line) → Printing before lines → (k : Extension) (s : ℕ) (a : Arg) (n : ℕ) (tail : Parts) → n < cap
    → SpellsContent (extension_content k (id_at lines s) (back lines a) n) tail (extension_text k ∷ decimal (id_at lines s) ∷ operand_text lines a ∷ decimal n ∷ tail)
extension_spells before lines p k s a n tail h =
    (decimal (id_at lines s), operand_text lines a, decimal n, refl, number before lines p s, operand_back before lines p a, numeral_again n h)

abbrev shape : ℕ → Option (List ℕ) → Content → Shape
shape id symbol content = record { id = id; content = content; symbol = symbol }

-- a line of a sort alone
again_nullary : (before lines : List Line) → Printing before lines → (id s : ℕ) (symbol : Option (List ℕ)) (k : Nullary) → 1 ≤ sort_at before s → Again before lines (record { id = id; op = nullary_op k; sort = s; args = []; symbol = symbol })
again_nullary before lines p id s symbol input le =
    let content = nullary_content input (id_at lines s) in
    record { content = content; supported = refl; spells = nullary_spells before lines p input s (symbol_parts symbol); resolves = nullary_resolves before lines p input s (shape id symbol content) le }
again_nullary before lines p id s symbol state le =
    let content = nullary_content state (id_at lines s) in
    record { content = content; supported = refl; spells = nullary_spells before lines p state s (symbol_parts symbol); resolves = nullary_resolves before lines p state s (shape id symbol content) le }
again_nullary before lines p id s symbol one le =
    let content = nullary_content one (id_at lines s) in
    record { content = content; supported = refl; spells = nullary_spells before lines p one s (symbol_parts symbol); resolves = nullary_resolves before lines p one s (shape id symbol content) le }
again_nullary before lines p id s symbol zero le =
    let content = nullary_content zero (id_at lines s) in
    record { content = content; supported = refl; spells = nullary_spells before lines p zero s (symbol_parts symbol); resolves = nullary_resolves before lines p zero s (shape id symbol content) le }
again_nullary before lines p id s symbol ones le =
    let content = nullary_content ones (id_at lines s) in
    record { content = content; supported = refl; spells = nullary_spells before lines p ones s (symbol_parts symbol); resolves = nullary_resolves before lines p ones s (shape id symbol content) le }

-- a constant
again_constant : (before lines : List Line) → Printing before lines → (id s : ℕ) (symbol : Option (List ℕ)) (c : BitVector) → IsWord c → c.width ≡ sort_at before s → Again before lines (record { id = id; op = op.Constant c; sort = s; args = []; symbol = symbol })
again_constant before lines p id s symbol c word e =
    let content = constant_content in_binary (id_at lines s) (binary_digits c.width c.bits) in
    record { content = content; supported = refl; spells = constant_spells before lines p s c (symbol_parts symbol) word; resolves = constant_resolves before lines p s c (shape id symbol content) word e }

-- a line of one operand and no sort
again_property : (before lines : List Line) → Printing before lines → (id : ℕ) (a : Arg) (symbol : Option (List ℕ)) (k : Property) → 1 ≤ width_at before a.line → property_takes k (width_at before a.line) ≡ true → Again before lines (record { id = id; op = property_op k; sort = 0; args = a ∷ []; symbol = symbol })
again_property before lines p id a symbol bad le e =
    let content = property_content bad (back lines a) in
    record { content = content; supported = refl; spells = property_spells before lines p bad a (symbol_parts symbol); resolves = property_resolves before lines p bad a (shape id symbol content) le e }
again_property before lines p id a symbol constraint le e =
    let content = property_content constraint (back lines a) in
    record { content = content; supported = refl; spells = property_spells before lines p constraint a (symbol_parts symbol); resolves = property_resolves before lines p constraint a (shape id symbol content) le e }
again_property before lines p id a symbol output le e =
    let content = property_content output (back lines a) in
    record { content = content; supported = refl; spells = property_spells before lines p output a (symbol_parts symbol); resolves = property_resolves before lines p output a (shape id symbol content) le e }

-- a line of one operand of one bit
again_bit : (before lines : List Line) → Printing before lines → (id : ℕ) (a : Arg) (symbol : Option (List ℕ)) → width_at before a.line ≡ 1
    → Again before lines (record { id = id; op = op.Bad; sort = 0; args = a ∷ []; symbol = symbol }) × Again before lines (record { id = id; op = op.Constraint; sort = 0; args = a ∷ []; symbol = symbol })
again_bit before lines p id a symbol e =
    let le : 1 ≤ width_at before a.line = omega (arith, e) in
    (again_property before lines p id a symbol bad le (eq-eqb (width_at before a.line) 1 e), again_property before lines p id a symbol constraint le (eq-eqb (width_at before a.line) 1 e))

again_sort : (before lines : List Line) (id w : ℕ) (symbol : Option (List ℕ)) → 1 ≤ w → w ≤ WIDEST → Again before lines (record { id = id; op = op.Sort w; sort = 0; args = []; symbol = symbol })
again_sort before lines id w symbol low high =
    record { content = sort_content w; supported = refl; spells = (decimal w, refl, numeral_again w (omega arith)); resolves = rw (le-leb 1 w low, le-leb w WIDEST high) refl }

again_unary : (before lines : List Line) → Printing before lines → (id s : ℕ) (a : Arg) (symbol : Option (List ℕ)) (o : Unary) → 1 ≤ sort_at before s → 1 ≤ width_at before a.line → unary_width o (width_at before a.line) ≡ sort_at before s
    → Again before lines (record { id = id; op = op.Unary o; sort = s; args = a ∷ []; symbol = symbol })
again_unary before lines p id s a symbol o wide word e =
    let content = unary_content o (id_at lines s) (back lines a) in
    record { content = content; supported = refl; spells = unary_spells before lines p o s a (symbol_parts symbol); resolves = unary_resolves before lines p o s a (shape id symbol content) wide word e }

again_binary : (before lines : List Line) → Printing before lines → (id s : ℕ) (a b : Arg) (symbol : Option (List ℕ)) (o : Binary) → 1 ≤ sort_at before s → 1 ≤ width_at before a.line → 1 ≤ width_at before b.line
    → BinaryFits o (width_at before a.line) (width_at before b.line) → binary_width o (width_at before a.line) (width_at before b.line) ≡ sort_at before s
    → Again before lines (record { id = id; op = op.Binary o; sort = s; args = a ∷ b ∷ []; symbol = symbol })
again_binary before lines p id s a b symbol o wide first second fits e =
    let content = binary_content o (id_at lines s) (back lines a) (back lines b) in
    record { content = content; supported = refl; spells = binary_spells before lines p o s a b (symbol_parts symbol); resolves = binary_resolves before lines p o s a b (shape id symbol content) wide first second fits e }

again_init : (before lines : List Line) → Printing before lines → (id s : ℕ) (x v : Arg) (symbol : Option (List ℕ)) → GivesValue is_init before s x v → InitRule before x v
    → Again before lines (record { id = id; op = op.Init; sort = s; args = x ∷ v ∷ []; symbol = symbol })
again_init before lines p id s x v symbol h early =
    let content = binding_content init (id_at lines s) (id_at lines x.line) (back lines v) in
    record { content = content; supported = refl; spells = binding_spells before lines p init s x v (symbol_parts symbol) h.1; resolves = init_resolves before lines p s x v (shape id symbol content) h early }

again_next : (before lines : List Line) → Printing before lines → (id s : ℕ) (x v : Arg) (symbol : Option (List ℕ)) → GivesValue is_next before s x v
    → Again before lines (record { id = id; op = op.Next; sort = s; args = x ∷ v ∷ []; symbol = symbol })
again_next before lines p id s x v symbol h =
    let content = binding_content next (id_at lines s) (id_at lines x.line) (back lines v) in
    record { content = content; supported = refl; spells = binding_spells before lines p next s x v (symbol_parts symbol) h.1; resolves = next_resolves before lines p s x v (shape id symbol content) h }

again_ite : (before lines : List Line) → Printing before lines → (id s : ℕ) (c a b : Arg) (symbol : Option (List ℕ)) → 1 ≤ sort_at before s → width_at before c.line ≡ 1 → width_at before a.line ≡ sort_at before s → width_at before b.line ≡ sort_at before s
    → Again before lines (record { id = id; op = op.Ite; sort = s; args = c ∷ a ∷ b ∷ []; symbol = symbol })
again_ite before lines p id s c a b symbol wide one_bit first second =
    let content = ite_content (id_at lines s) (back lines c) (back lines a) (back lines b) in
    record { content = content; supported = refl; spells = ite_spells before lines p s c a b (symbol_parts symbol); resolves = ite_resolves before lines p s c a b (shape id symbol content) wide one_bit first second }

again_slice : (before lines : List Line) → Printing before lines → (id s : ℕ) (a : Arg) (high low : ℕ) (symbol : Option (List ℕ)) → 1 ≤ sort_at before s → low ≤ high → high < width_at before a.line → high - low + 1 ≡ sort_at before s
    → Again before lines (record { id = id; op = op.Slice high low; sort = s; args = a ∷ []; symbol = symbol })
again_slice before lines p id s a high low symbol wide order range e =
    let content = slice_content (id_at lines s) (back lines a) high low in
    let most : width_at before a.line ≤ WIDEST = width_small before a.line p.knows.well in
    record { content = content; supported = refl; spells = slice_spells before lines p s a high low (symbol_parts symbol) (omega (arith, range, most)) (omega (arith, order, range, most)); resolves = slice_resolves before lines p s a high low (shape id symbol content) wide order range e }

again_uext : (before lines : List Line) → Printing before lines → (id s : ℕ) (a : Arg) (n : ℕ) (symbol : Option (List ℕ)) → 1 ≤ sort_at before s → 1 ≤ width_at before a.line → width_at before a.line + n ≡ sort_at before s
    → Again before lines (record { id = id; op = op.Uext n; sort = s; args = a ∷ []; symbol = symbol })
again_uext before lines p id s a n symbol wide word e =
    let content = extension_content uext (id_at lines s) (back lines a) n in
    let most : sort_at before s ≤ WIDEST = sort_small before s p.knows.well in
    record { content = content; supported = refl; spells = extension_spells before lines p uext s a n (symbol_parts symbol) (omega (arith, e, most)); resolves = extension_resolves before lines p uext s a n (shape id symbol content) wide word e }

again_sext : (before lines : List Line) → Printing before lines → (id s : ℕ) (a : Arg) (n : ℕ) (symbol : Option (List ℕ)) → 1 ≤ sort_at before s → 1 ≤ width_at before a.line → width_at before a.line + n ≡ sort_at before s
    → Again before lines (record { id = id; op = op.Sext n; sort = s; args = a ∷ []; symbol = symbol })
again_sext before lines p id s a n symbol wide word e =
    let content = extension_content sext (id_at lines s) (back lines a) n in
    let most : sort_at before s ≤ WIDEST = sort_small before s p.knows.well in
    record { content = content; supported = refl; spells = extension_spells before lines p sext s a n (symbol_parts symbol) (omega (arith, e, most)); resolves = extension_resolves before lines p sext s a n (shape id symbol content) wide word e }

-- with no arguments
no_args : (before lines : List Line) (id : ℕ) (o : LineOp) (s : ℕ) (args : List Arg) (symbol : Option (List ℕ)) → args ≡ [] → Again before lines (record { id = id; op = o; sort = s; args = []; symbol = symbol })
    → Again before lines (record { id = id; op = o; sort = s; args = args; symbol = symbol })
no_args before lines id o s args symbol e a = subst (λ (xs : List Arg). Again before lines (record { id = id; op = o; sort = s; args = xs; symbol = symbol })) (sym e) a

-- with no sort
no_sort : (before lines : List Line) (id : ℕ) (o : LineOp) (s : ℕ) (args : List Arg) (symbol : Option (List ℕ)) → s ≡ 0 → Again before lines (record { id = id; op = o; sort = 0; args = args; symbol = symbol })
    → Again before lines (record { id = id; op = o; sort = s; args = args; symbol = symbol })
no_sort before lines id o s args symbol e a = subst (λ (n : ℕ). Again before lines (record { id = id; op = o; sort = n; args = args; symbol = symbol })) (sym e) a

again : (before lines : List Line) → Printing before lines → (id s : ℕ) (o : LineOp) (args : List Arg) (symbol : Option (List ℕ)) → OpFits before s o args
    → Again before lines (record { id = id; op = o; sort = s; args = args; symbol = symbol })
again before lines p id s (op.Sort w) args symbol h = no_args before lines id (op.Sort w) s args symbol h.3 (no_sort before lines id (op.Sort w) s [] symbol h.2 (again_sort before lines id w symbol h.0 h.1))
again before lines p id s op.Input args symbol h = no_args before lines id op.Input s args symbol h.1 (again_nullary before lines p id s symbol input h.0)
again before lines p id s op.State args symbol h = no_args before lines id op.State s args symbol h.1 (again_nullary before lines p id s symbol state h.0)
again before lines p id s (op.Constant c) args symbol h = no_args before lines id (op.Constant c) s args symbol h.2 (again_constant before lines p id s symbol c h.0 h.1)
again before lines p id s op.One args symbol h = no_args before lines id op.One s args symbol h.1 (again_nullary before lines p id s symbol one h.0)
again before lines p id s op.Zero args symbol h = no_args before lines id op.Zero s args symbol h.1 (again_nullary before lines p id s symbol zero h.0)
again before lines p id s op.Ones args symbol h = no_args before lines id op.Ones s args symbol h.1 (again_nullary before lines p id s symbol ones h.0)
again before lines p id s op.Init [] symbol h = absurd h
again before lines p id s op.Init (x ∷ []) symbol h = absurd h
again before lines p id s op.Init (x ∷ v ∷ []) symbol h = again_init before lines p id s x v symbol h.0 h.1
again before lines p id s op.Init (x ∷ v ∷ y ∷ more) symbol h = absurd h
again before lines p id s op.Next [] symbol h = absurd h
again before lines p id s op.Next (x ∷ []) symbol h = absurd h
again before lines p id s op.Next (x ∷ v ∷ []) symbol h = again_next before lines p id s x v symbol h
again before lines p id s op.Next (x ∷ v ∷ y ∷ more) symbol h = absurd h
again before lines p id s op.Bad [] symbol h = absurd h.1
again before lines p id s op.Bad (a ∷ []) symbol h = no_sort before lines id op.Bad s (a ∷ []) symbol h.0 (again_bit before lines p id a symbol h.1).0
again before lines p id s op.Bad (a ∷ b ∷ more) symbol h = absurd h.1
again before lines p id s op.Constraint [] symbol h = absurd h.1
again before lines p id s op.Constraint (a ∷ []) symbol h = no_sort before lines id op.Constraint s (a ∷ []) symbol h.0 (again_bit before lines p id a symbol h.1).1
again before lines p id s op.Constraint (a ∷ b ∷ more) symbol h = absurd h.1
again before lines p id s op.Output [] symbol h = absurd h.1
again before lines p id s op.Output (a ∷ []) symbol h = no_sort before lines id op.Output s (a ∷ []) symbol h.0 (again_property before lines p id a symbol output h.1 refl)
again before lines p id s op.Output (a ∷ b ∷ more) symbol h = absurd h.1
again before lines p id s (op.Unary o) [] symbol h = absurd h.1
again before lines p id s (op.Unary o) (a ∷ []) symbol h = again_unary before lines p id s a symbol o h.0 h.1.0 h.1.1
again before lines p id s (op.Unary o) (a ∷ b ∷ more) symbol h = absurd h.1
again before lines p id s (op.Binary o) [] symbol h = absurd h.1
again before lines p id s (op.Binary o) (a ∷ []) symbol h = absurd h.1
again before lines p id s (op.Binary o) (a ∷ b ∷ []) symbol h = again_binary before lines p id s a b symbol o h.0 h.1.0 h.1.1 h.1.2 h.1.3
again before lines p id s (op.Binary o) (a ∷ b ∷ c ∷ more) symbol h = absurd h.1
again before lines p id s op.Ite [] symbol h = absurd h.1
again before lines p id s op.Ite (c ∷ []) symbol h = absurd h.1
again before lines p id s op.Ite (c ∷ a ∷ []) symbol h = absurd h.1
again before lines p id s op.Ite (c ∷ a ∷ b ∷ []) symbol h = again_ite before lines p id s c a b symbol h.0 h.1.0 h.1.1 h.1.2
again before lines p id s op.Ite (c ∷ a ∷ b ∷ d ∷ more) symbol h = absurd h.1
again before lines p id s (op.Slice high low) [] symbol h = absurd h.1
again before lines p id s (op.Slice high low) (a ∷ []) symbol h = again_slice before lines p id s a high low symbol h.0 h.1.0 h.1.1 h.1.2
again before lines p id s (op.Slice high low) (a ∷ b ∷ more) symbol h = absurd h.1
again before lines p id s (op.Uext n) [] symbol h = absurd h.1
again before lines p id s (op.Uext n) (a ∷ []) symbol h = again_uext before lines p id s a n symbol h.0 h.1.0 h.1.1
again before lines p id s (op.Uext n) (a ∷ b ∷ more) symbol h = absurd h.1
again before lines p id s (op.Sext n) [] symbol h = absurd h.1
again before lines p id s (op.Sext n) (a ∷ []) symbol h = again_sext before lines p id s a n symbol h.0 h.1.0 h.1.1
again before lines p id s (op.Sext n) (a ∷ b ∷ more) symbol h = absurd h.1

small_line : (before : List Line) (l : Line) → Fits before l → l.id < cap
small_line before l f = omega (arith, f.small)

first_line : (before : List Line) (l : Line) → Fits before l → 0 < l.id
first_line before l f = omega (arith, f.rises)

line_spelled : (before lines : List Line) (l : Line) → Printing before lines → Fits before l → (sh : Shape) × Spells sh (decimal l.id ∷ printed_rest lines l) × (resolve before sh ≡ Ok l)
line_spelled before lines l p f =
    let a = again before lines p l.id l.sort l.op l.args l.symbol f.body.sorts in (
      record { id = l.id; content = a.content; symbol = l.symbol },
      record { id_part = decimal l.id; rest = printed_rest lines l; splits = refl; id_is = numeral_again l.id (small_line before l f); first = first_line before l f; small = f.small; content = a.spells; symbol = f.body.symbol },
      rw (a.supported, lt-ltb (last_id before) l.id f.rises) a.resolves,
    )

-- The parts of a printed line. A clause for one operator has the next checked for each other one by itself.
unary_part : (o : Unary) → is_symbol (unary_text o) ≡ true
unary_part Not = refl
unary_part o = refl

binary_part : (o : Binary) → is_symbol (binary_text o) ≡ true
binary_part Iff = refl
binary_part o = refl

op_part : (o : LineOp) → is_symbol (op_text o) ≡ true
op_part (op.Unary o) = unary_part o
op_part (op.Binary o) = binary_part o
op_part o = refl

id_part : (lines : List Line) → IsWellFormed lines → (s : ℕ) → AllParts (decimal (id_at lines s) ∷ [])
id_part lines w s = (decimal_part (id_at lines s) (small_id lines w s), tt)

sort_part : (lines before : List Line) → IsWellFormed lines → (o : LineOp) (s : ℕ) (args : List Arg) → OpFits before s o args → AllParts (sort_parts lines o s)
sort_part lines before w (op.Sort n) s args f = (refl, (decimal_part n (omega (arith, f.1)), tt))
sort_part lines before w op.Input s args f = id_part lines w s
sort_part lines before w op.State s args f = id_part lines w s
sort_part lines before w (op.Constant c) s args f = (decimal_part (id_at lines s) (small_id lines w s), (digits_part c.width c.bits f.0.0, tt))
sort_part lines before w op.One s args f = id_part lines w s
sort_part lines before w op.Zero s args f = id_part lines w s
sort_part lines before w op.Ones s args f = id_part lines w s
sort_part lines before w op.Init s args f = id_part lines w s
sort_part lines before w op.Next s args f = id_part lines w s
sort_part lines before w op.Bad s args f = tt
sort_part lines before w op.Constraint s args f = tt
sort_part lines before w op.Output s args f = tt
sort_part lines before w (op.Unary o) s args f = id_part lines w s
sort_part lines before w (op.Binary o) s args f = id_part lines w s
sort_part lines before w op.Ite s args f = id_part lines w s
sort_part lines before w (op.Slice high low) s args f = id_part lines w s
sort_part lines before w (op.Uext n) s args f = id_part lines w s
sort_part lines before w (op.Sext n) s args f = id_part lines w s

count_parts : (before : List Line) → IsWellFormed before → (s n v : ℕ) → v + n ≡ sort_at before s → AllParts (decimal n ∷ [])
count_parts before w s n v e = (decimal_part n (omega (arith, e, sort_small before s w)), tt)

number_part : (before : List Line) → IsWellFormed before → (o : LineOp) (s : ℕ) (args : List Arg) → OpFits before s o args → AllParts (number_parts o)
number_part before w (op.Slice high low) s [] f = absurd f.1
number_part before w (op.Slice high low) s (a ∷ []) f =
    let most : width_at before a.line ≤ WIDEST = width_small before a.line w in
    (decimal_part high (omega (arith, f.1.1, most)), (decimal_part low (omega (arith, f.1.0, f.1.1, most)), tt))
number_part before w (op.Slice high low) s (a ∷ b ∷ more) f = absurd f.1
number_part before w (op.Uext n) s [] f = absurd f.1
number_part before w (op.Uext n) s (a ∷ []) f = count_parts before w s n (width_at before a.line) f.1.1
number_part before w (op.Uext n) s (a ∷ b ∷ more) f = absurd f.1
number_part before w (op.Sext n) s [] f = absurd f.1
number_part before w (op.Sext n) s (a ∷ []) f = count_parts before w s n (width_at before a.line) f.1.1
number_part before w (op.Sext n) s (a ∷ b ∷ more) f = absurd f.1
number_part before w o s args f = tt

signed_part : (negated : Bool) (n : ℕ) → n < cap → is_symbol (cond negated (45 ∷ decimal n) (decimal n)) ≡ true
signed_part true n lt = symbol_bytes (decimal n) (decimal_part n lt)
signed_part false n lt = decimal_part n lt

arg_parts : (lines : List Line) → IsWellFormed lines → (args : List Arg) → AllParts (map (operand_text lines) args)
arg_parts lines w [] = tt
arg_parts lines w (a ∷ more) = (signed_part a.negated (id_at lines a.line) (small_id lines w a.line), arg_parts lines w more)

symbol_part : (o : Option (List ℕ)) → IfSome o IsSymbol → AllParts (symbol_parts o)
symbol_part None h = tt
symbol_part (Some s) h = (symbol_test s h, tt)

all_parts : (lines before : List Line) → IsWellFormed lines → IsWellFormed before → (l : Line) → Fits before l → AllParts (printed_rest lines l)
all_parts lines before w b l f = (
  op_part l.op,
  parts_append (sort_parts lines l.op l.sort) _ (sort_part lines before w l.op l.sort l.args f.body.sorts) (parts_append (map (operand_text lines) l.args) _ (arg_parts lines w l.args)
      (parts_append (number_parts l.op) (symbol_parts l.symbol) (number_part before b l.op l.sort l.args f.body.sorts) (symbol_part l.symbol f.body.symbol))),
)

text_line : (lines before : List Line) → IsWellFormed lines → IsWellFormed before → (l : Line) → Fits before l → (text : List ℕ) → raw_lines (line_text lines l ++ text) ≡ (decimal l.id ++ spaced (printed_rest lines l)) ∷ raw_lines text
text_line lines before w b l f text =
    let front = decimal l.id ++ spaced (printed_rest lines l) in
    ap raw_lines (append_assoc front (10 ∷ []) text) ∙ line_at front text (joined_end (decimal l.id) (printed_rest lines l) (decimal_part l.id (small_line before l f)) (all_parts lines before w b l f))

reads_printed : (lines : List Line) → IsWellFormed lines → (rest before : List Line) → before ++ rest ≡ lines → Reads before (raw_lines (flat_map (line_text lines) rest)) lines
reads_printed lines w [] before e = subst (λ (x : List Line). Reads before ([] ∷ []) x) (sym (append-nil before) ∙ e) (passed refl ends)
reads_printed lines w (l ∷ ls) before e =
    let here : slice_get lines (length before) ≡ Some l = ap (λ x. slice_get x (length before)) (sym e) ∙ get_end before l ls in
    let fits : Fits before l = subst (λ (b : List Line). Fits b l) (ap (take (length before)) (sym e) ∙ take_at before (l ∷ ls) (length before) refl) (w.by_line (length before) l here) in
    let p : Printing before lines = record { knows = front_known before (l ∷ ls) lines e w; small = small_id lines w } in
    let text = flat_map (line_text lines) ls in
    let said = line_spelled before lines l p fits in
    let spells = subst (Spells said.0) (sym (joined_parts (decimal l.id) (printed_rest lines l) (decimal_part l.id (small_line before l fits)) (all_parts lines before w p.knows.well l fits))) said.1 in
    subst (λ (x : Parts). Reads before x lines) (sym (text_line lines before w p.knows.well l fits text)) (line said.0 l spells said.2 (reads_printed lines w ls (before ++ l ∷ []) (append_assoc before (l ∷ []) ls ∙ e)))

pub printed_spells : (lines : List Line) → IsWellFormed lines → SpellsLines (printed lines) lines
printed_spells lines w = reads_printed lines w lines [] refl
