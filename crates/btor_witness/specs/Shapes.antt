-- What one line of a witness says by itself (BTOR2, CAV 2018, witness format).
use Rattle.std.specs.Prelude.{◌≡◌, ◌==◌, ℕ, Bool, true, false, List, [], ◌∷◌, length, Option, Some, None, is_some, if◌then◌else◌, codes}
use Rattle.std.specs.Str.{bytes_eq}
use Rattle.word_core.specs.Digits.{digits_value, read_word}
use Rattle.btor_tree.specs.Parts.{Parts, numeral}
use Rattle.btor_tree.specs.Shapes.{symbol_parts}
use Rattle.btor_witness.specs.declared.shape.Shape.{Shape}
use Rattle.btor_witness.specs.declared.shape.Shape.TheVariants.{Sat, Property, Justice, States, Inputs, End, Assignment}
use Rattle.btor_witness.specs.Bytes.{all_binary, word_of}

-- a part that is a byte and then a number
abbrev pub IsMarked : ℕ → ℕ → Parts → Type 0
IsMarked mark n ps = (digits : List ℕ) × (ps ≡ (mark ∷ digits) ∷ []) × (numeral digits ≡ Some n)

-- The parts of a line spell a shape. The word of binary digits has as many bits, and of more digits than a word has there is none.
abbrev pub Spells : Shape → Parts → Type 0
Spells Sat ps = ps ≡ codes "sat" ∷ []
Spells (Property n) ps = IsMarked 98 n ps
Spells (Justice n) ps = IsMarked 106 n ps
Spells (States n) ps = IsMarked 35 n ps
Spells (Inputs n) ps = IsMarked 64 n ps
Spells End ps = ps ≡ codes "." ∷ []
Spells (Assignment i word) ps =
    (index : List ℕ) × (digits : List ℕ) × (symbol : Option (List ℕ)) × (ps ≡ index ∷ digits ∷ symbol_parts symbol) × (numeral index ≡ Some i) × (is_some (digits_value 2 digits) ≡ true) × (word ≡ read_word (length digits) 2 digits)

-- the same, read from the front
abbrev pub marked : ℕ → ℕ → Option Shape
marked b n =
    if b == 98 then Some (Property n) else (if b == 106 then Some (Justice n) else (if b == 35 then Some (States n) else (if b == 64 then Some (Inputs n) else None)))

abbrev pub on_number : ℕ → Option ℕ → Option Shape
on_number b None = None
on_number b (Some n) = marked b n

abbrev pub number_shape : List ℕ → Option Shape
number_shape [] = None
number_shape (b ∷ digits) = on_number b (numeral digits)

abbrev pub single_shape : List ℕ → Option Shape
single_shape part =
    if bytes_eq part (codes "sat") then Some Sat else (if bytes_eq part (codes ".") then Some End else number_shape part)

abbrev pub assignment_shape : Option ℕ → List ℕ → Option Shape
assignment_shape None digits = None
assignment_shape (Some i) [] = None
assignment_shape (Some i) (b ∷ bs) = if all_binary (b ∷ bs) then Some (Assignment i (word_of (b ∷ bs))) else None

abbrev pub shape_of : Parts → Option Shape
shape_of [] = None
shape_of (part ∷ []) = single_shape part
shape_of (index ∷ digits ∷ []) = assignment_shape (numeral index) digits
shape_of (index ∷ digits ∷ symbol ∷ []) = assignment_shape (numeral index) digits
shape_of (index ∷ digits ∷ symbol ∷ p ∷ ps) = None

-- blank lines and lines that begin with `;` are passed over
abbrev pub is_passed : Parts → Bool
is_passed [] = true
is_passed ([] ∷ ps) = false
is_passed ((b ∷ bs) ∷ ps) = b == 59
