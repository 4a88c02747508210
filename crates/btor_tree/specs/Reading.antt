-- What the parts of a line are, read from the front.
use Rattle.std.specs.Prelude.{ℕ, ◌&&◌, List, [], ◌∷◌, ◌++◌, map, Option, Some, None, option_map, option_and_then, Result, Ok, Err, nat_lt, nat_le, if◌then◌else◌, codes}
use Rattle.std.specs.Str.{bytes_eq}
use Rattle.word_core.specs.declared.kinds.Unary.{Unary}
use Rattle.word_core.specs.declared.kinds.Binary.{Binary}
use Rattle.btor_tree.specs.Fits.{greatest_id}
use Rattle.btor_tree.specs.Parts.{Parts, numeral, is_symbol}
use Rattle.btor_tree.specs.declared.lines.Line.{Line}
use Rattle.btor_tree.specs.Resolving.{Fault, no_shape, resolve}
use Rattle.btor_tree.specs.Texts.{Next, nothing, good, faulty}
use Rattle.btor_tree.specs.Shapes.{Nullary, input, state, one, zero, ones, Base, in_binary, in_decimal, in_hex, Extension, uext, sext, Binding, init, next, Property, bad, constraint, output, Word, sort_word, nullary_word, base_word, binding_word, property_word, unary_word, binary_word, ite_word, slice_word, extension_word, unaries, binaries, word_text, is_unsupported, is_literal, Content, sort_content, nullary_content, constant_content, binding_content, property_content, unary_content, binary_content, ite_content, slice_content, extension_content, unsupported_content, Shape, operand_of}

-- the words of lines
abbrev pub words : List Word
words =
    sort_word ∷ nullary_word input ∷ nullary_word state ∷ nullary_word one ∷ nullary_word zero ∷ nullary_word ones ∷ base_word in_binary ∷ base_word in_decimal ∷ base_word in_hex ∷ binding_word init ∷ binding_word next ∷ property_word bad ∷ property_word constraint ∷ property_word output ∷ (map unary_word unaries ++ map binary_word binaries ++ ite_word ∷ slice_word ∷ extension_word uext ∷ extension_word sext ∷ [])

-- the first of these words that has this text
abbrev pub word_among : List Word → List ℕ → Option Word
word_among [] text = None
word_among (w ∷ ws) text = if bytes_eq text (word_text w) then Some w else word_among ws text

abbrev pub word_of : List ℕ → Option Word
word_of text = word_among words text

-- a content and the parts behind it
abbrev pub Read : Type 0
Read = Option (Content × Parts)

abbrev pub bitvec_args : List ℕ → Parts → Read
bitvec_args k [] = None
bitvec_args k (x ∷ tail) = if bytes_eq k (codes "bitvec") then option_map (λ w. (sort_content w, tail)) (numeral x) else None

abbrev pub sort_args : Parts → Read
sort_args [] = None
sort_args (k ∷ more) = if bytes_eq k (codes "array") then Some (unsupported_content, []) else bitvec_args k more

abbrev pub nullary_args : Nullary → Parts → Read
nullary_args k [] = None
nullary_args k (x ∷ tail) = option_map (λ s. (nullary_content k s, tail)) (numeral x)

abbrev pub constant_args : Base → Parts → Read
constant_args k [] = None
constant_args k (a ∷ []) = None
constant_args k (a ∷ (digits ∷ tail)) = if is_literal k digits then option_map (λ s. (constant_content k s digits, tail)) (numeral a) else None

abbrev pub binding_args : Binding → Parts → Read
binding_args k [] = None
binding_args k (a ∷ []) = None
binding_args k (a ∷ (b ∷ [])) = None
binding_args k (a ∷ (b ∷ (c ∷ tail))) =
    option_and_then (λ s. option_and_then (λ x. option_map (λ v. (binding_content k s x v, tail)) (operand_of c)) (numeral b)) (numeral a)

abbrev pub property_args : Property → Parts → Read
property_args k [] = None
property_args k (a ∷ tail) = option_map (λ x. (property_content k x, tail)) (operand_of a)

abbrev pub unary_args : Unary → Parts → Read
unary_args op [] = None
unary_args op (a ∷ []) = None
unary_args op (a ∷ (b ∷ tail)) = option_and_then (λ s. option_map (λ x. (unary_content op s x, tail)) (operand_of b)) (numeral a)

abbrev pub binary_args : Binary → Parts → Read
binary_args op [] = None
binary_args op (a ∷ []) = None
binary_args op (a ∷ (b ∷ [])) = None
binary_args op (a ∷ (b ∷ (c ∷ tail))) =
    option_and_then (λ s. option_and_then (λ x. option_map (λ y. (binary_content op s x y, tail)) (operand_of c)) (operand_of b)) (numeral a)

abbrev pub ite_args : Parts → Read
ite_args [] = None
ite_args (a ∷ []) = None
ite_args (a ∷ (b ∷ [])) = None
ite_args (a ∷ (b ∷ (c ∷ []))) = None
ite_args (a ∷ (b ∷ (c ∷ (d ∷ tail)))) =
    option_and_then (λ s. option_and_then (λ x. option_and_then (λ y. option_map (λ z. (ite_content s x y z, tail)) (operand_of d)) (operand_of c)) (operand_of b)) (numeral a)

abbrev pub slice_args : Parts → Read
slice_args [] = None
slice_args (a ∷ []) = None
slice_args (a ∷ (b ∷ [])) = None
slice_args (a ∷ (b ∷ (c ∷ []))) = None
slice_args (a ∷ (b ∷ (c ∷ (d ∷ tail)))) =
    option_and_then (λ s. option_and_then (λ x. option_and_then (λ high. option_map (λ low. (slice_content s x high low, tail)) (numeral d)) (numeral c)) (operand_of b)) (numeral a)

abbrev pub extension_args : Extension → Parts → Read
extension_args k [] = None
extension_args k (a ∷ []) = None
extension_args k (a ∷ (b ∷ [])) = None
extension_args k (a ∷ (b ∷ (c ∷ tail))) =
    option_and_then (λ s. option_and_then (λ x. option_map (λ n. (extension_content k s x n, tail)) (numeral c)) (operand_of b)) (numeral a)

abbrev pub content_at : Parts → Word → Read
content_at args sort_word = sort_args args
content_at args (nullary_word k) = nullary_args k args
content_at args (base_word k) = constant_args k args
content_at args (binding_word k) = binding_args k args
content_at args (property_word k) = property_args k args
content_at args (unary_word op) = unary_args op args
content_at args (binary_word op) = binary_args op args
content_at args ite_word = ite_args args
content_at args slice_word = slice_args args
content_at args (extension_word k) = extension_args k args

abbrev pub content_of : Parts → Read
content_of [] = None
content_of (word ∷ args) = if is_unsupported word then Some (unsupported_content, []) else option_and_then (content_at args) (word_of word)

-- with the symbol, if there is one, and nothing behind it
abbrev pub shaped : ℕ → Content × Parts → Option Shape
shaped n (content, []) = Some (record { id = n; content = content; symbol = None })
shaped n (content, s ∷ []) = if is_symbol s then Some (record { id = n; content = content; symbol = Some s }) else None
shaped n (content, s ∷ (t ∷ more)) = None

abbrev pub numbered : Read → ℕ → Option Shape
numbered read n = if (nat_lt 0 n) && (nat_le n greatest_id) then option_and_then (shaped n) read else None

abbrev pub shape_of : Parts → Option Shape
shape_of [] = None
shape_of (i ∷ rest) = option_and_then (numbered (content_of rest)) (numeral i)

-- what the parts of one line are, by reading
abbrev pub resolved : Result Line Fault → Next
resolved (Ok l) = good l
resolved (Err k) = faulty k

abbrev pub shaped_next : List Line → Option Shape → Next
shaped_next before None = faulty no_shape
shaped_next before (Some sh) = resolved (resolve before sh)

unfoldable pub next_of : List Line → Parts → Next
next_of before [] = nothing
next_of before (p ∷ ps) = shaped_next before (shape_of (p ∷ ps))
