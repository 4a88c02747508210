-- What the reader's values stand for.
use Rattle.std.specs.Prelude.{ℕ, List, [], ◌∷◌, map, Option, Some, None, option_map, Result, Ok, Err, if◌then◌else◌}
use Rattle.std.specs.Borrow.{Bor}
use Rattle.std.specs.Str.{bytes_eq}
use Rattle.btor_tree.specs.declared.lines.Line.{Line}
use Rattle.btor_tree.specs.Parts.{Parts, parts}
use Rattle.btor_tree.specs.Shapes as shapes
use Rattle.btor_tree.specs.Reading.{words}
use Rattle.btor_tree.specs.Resolving as faults
use Rattle.btor_text.specs.declared.word.Nullary.{Nullary}
use Rattle.btor_text.specs.declared.word.Nullary.TheVariants as nullary
use Rattle.btor_text.specs.declared.word.Base.{Base}
use Rattle.btor_text.specs.declared.word.Base.TheVariants as base
use Rattle.btor_text.specs.declared.word.Binding.{Binding}
use Rattle.btor_text.specs.declared.word.Binding.TheVariants as binding
use Rattle.btor_text.specs.declared.word.Property.{Property}
use Rattle.btor_text.specs.declared.word.Property.TheVariants as property
use Rattle.btor_text.specs.declared.word.Extension.{Extension}
use Rattle.btor_text.specs.declared.word.Extension.TheVariants as extension
use Rattle.btor_text.specs.declared.word.LineWord.{LineWord}
use Rattle.btor_text.specs.declared.word.LineWord.TheVariants as word
use Rattle.btor_text.specs.declared.shape.Operand.{Operand}
use Rattle.btor_text.specs.declared.shape.Content.{Content}
use Rattle.btor_text.specs.declared.shape.Content.TheVariants as content
use Rattle.btor_text.specs.declared.shape.Shape.{Shape}
use Rattle.btor_text.specs.declared.resolve.Body.{Body}
use Rattle.btor_text.specs.declared.resolve.Fault.{Fault}
use Rattle.btor_text.specs.declared.resolve.Fault.TheVariants as fault

abbrev pub seen_nullary : Nullary → shapes.Nullary
seen_nullary nullary.Input = shapes.input
seen_nullary nullary.State = shapes.state
seen_nullary nullary.One = shapes.one
seen_nullary nullary.Zero = shapes.zero
seen_nullary nullary.Ones = shapes.ones

abbrev pub seen_base : Base → shapes.Base
seen_base base.Binary = shapes.in_binary
seen_base base.Decimal = shapes.in_decimal
seen_base base.Hex = shapes.in_hex

abbrev pub seen_binding : Binding → shapes.Binding
seen_binding binding.Init = shapes.init
seen_binding binding.Next = shapes.next

abbrev pub seen_property : Property → shapes.Property
seen_property property.Bad = shapes.bad
seen_property property.Constraint = shapes.constraint
seen_property property.Output = shapes.output

abbrev pub seen_extension : Extension → shapes.Extension
seen_extension extension.Uext = shapes.uext
seen_extension extension.Sext = shapes.sext

abbrev pub seen_word : LineWord → shapes.Word
seen_word word.Sort = shapes.sort_word
seen_word (word.Nullary k) = shapes.nullary_word (seen_nullary k)
seen_word (word.Base k) = shapes.base_word (seen_base k)
seen_word (word.Binding k) = shapes.binding_word (seen_binding k)
seen_word (word.Property k) = shapes.property_word (seen_property k)
seen_word (word.Unary op) = shapes.unary_word op
seen_word (word.Binary op) = shapes.binary_word op
seen_word word.Ite = shapes.ite_word
seen_word word.Slice = shapes.slice_word
seen_word (word.Extension k) = shapes.extension_word (seen_extension k)

-- a row of the table of words
abbrev pub entry : Bor (List ℕ) × LineWord → List ℕ × shapes.Word
entry row = (row.0.now, seen_word row.1)

-- the word of the first row with this text
abbrev pub look_up : List ℕ → List (List ℕ × shapes.Word) → Option shapes.Word
look_up text [] = None
look_up text (row ∷ rows) = if bytes_eq text row.0 then Some row.1 else look_up text rows

-- the words of lines with their texts
abbrev pub rows : List (List ℕ × shapes.Word)
rows = map (λ w. (shapes.word_text w, w)) words

abbrev pub texts : List (Bor (List ℕ)) → Parts
texts = map (λ p. p.now)

abbrev pub seen_operand : Operand → shapes.Operand
seen_operand a = record { id = a.id; negated = a.negated }

abbrev pub seen_content : Content → shapes.Content
seen_content (content.Sort w) = shapes.sort_content w
seen_content (content.Nullary k s) = shapes.nullary_content (seen_nullary k) s
seen_content (content.Constant k s digits) = shapes.constant_content (seen_base k) s digits.now
seen_content (content.Binding k s x v) = shapes.binding_content (seen_binding k) s x (seen_operand v)
seen_content (content.Property k a) = shapes.property_content (seen_property k) (seen_operand a)
seen_content (content.Unary op s a) = shapes.unary_content op s (seen_operand a)
seen_content (content.Binary op s a b) = shapes.binary_content op s (seen_operand a) (seen_operand b)
seen_content (content.Ite s c a b) = shapes.ite_content s (seen_operand c) (seen_operand a) (seen_operand b)
seen_content (content.Slice s a high low) = shapes.slice_content s (seen_operand a) high low
seen_content (content.Extension k s a n) = shapes.extension_content (seen_extension k) s (seen_operand a) n
seen_content content.Unsupported = shapes.unsupported_content

-- a content, and the parts of what is left
abbrev pub seen_read : Content × Bor (List ℕ) → shapes.Content × Parts
seen_read x = (seen_content x.0, parts x.1.now)

-- what a line says whose word isn't among those that are read
abbrev pub unknown_content : List ℕ → Option (shapes.Content × Parts)
unknown_content text = if shapes.is_unsupported text then Some (shapes.unsupported_content, []) else None

abbrev pub seen_symbol : Option (Bor (List ℕ)) → Option (List ℕ)
seen_symbol = option_map (λ s. s.now)

abbrev pub seen_shape : Shape → shapes.Shape
seen_shape sh = record { id = sh.id; content = seen_content sh.content; symbol = seen_symbol sh.symbol }

abbrev pub seen_fault : Fault → faults.Fault
seen_fault fault.NoShape = faults.no_shape
seen_fault fault.NotSupported = faults.not_supported
seen_fault fault.IdOrder = faults.id_order
seen_fault fault.WideSort = faults.wide_sort
seen_fault fault.NoSuchNode = faults.no_such_node
seen_fault fault.SortClash = faults.sort_clash
seen_fault fault.Twice = faults.twice
seen_fault fault.InitLate = faults.init_late

-- the line of a shape and what was found for it, or its fault
abbrev pub line_of : shapes.Shape → Result Body Fault → Result Line faults.Fault
line_of sh (Ok body) = Ok (faults.filled sh body.op body.sort body.args)
line_of sh (Err k) = Err (seen_fault k)
