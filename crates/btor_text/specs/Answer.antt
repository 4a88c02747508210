-- What the reader answers.
use Rattle.std.specs.Prelude.{◌≡◌, ℕ, List, ◌∷◌, [], ◌++◌, Result, Ok, Err, Option, Some, None}
use Rattle.text_core.specs.declared.place.Kind.{Kind}
use Rattle.text_core.specs.declared.place.Kind.TheVariants.{B}
use Rattle.btor_tree.specs.declared.lines.Line.{Line}
use Rattle.btor_tree.specs.Parts.{line_place}
use Rattle.btor_tree.specs.Resolving.{Fault, no_shape, not_supported, id_order, wide_sort, no_such_node, sort_clash, twice, init_late}
use Rattle.btor_tree.specs.Texts.{Next, nothing, good, faulty, RefusesText}
use Rattle.btor_text.specs.Seen.{seen_fault}
use Rattle.text_core.specs.declared.end.End.{End}
use Rattle.text_core.specs.declared.end.End.TheVariants.{Bad, NoMemory}
use Rattle.btor_text.specs.declared.read.LineEnd.{LineEnd}
use Rattle.btor_text.specs.declared.read.LineEnd.TheVariants as end

-- the kind of a refusal
abbrev pub kind_of : Fault → Kind
kind_of no_shape = B 1
kind_of id_order = B 2
kind_of no_such_node = B 3
kind_of sort_clash = B 4
kind_of not_supported = B 5
kind_of wide_sort = B 6
kind_of twice = B 7
kind_of init_late = B 8

-- these lines, or out of memory
abbrev pub Gives : List Line → Result (List Line) End → Type 0
Gives lines (Ok nodes) = nodes ≡ lines
Gives lines (Err (Bad r)) = ⊥
Gives lines (Err NoMemory) = Unit {0}

-- this fault at the place of this line, or out of memory
abbrev pub Stops : List ℕ → Fault → ℕ → Result (List Line) End → Type 0
Stops text fault at (Ok nodes) = ⊥
Stops text fault at (Err (Bad r)) = (r.kind ≡ kind_of fault) × (r.place ≡ line_place text at)
Stops text fault at (Err NoMemory) = Unit {0}

-- the text has this fault first, at the place of this line; or memory ran out
abbrev pub IsRefused : List ℕ → End → Type 0
IsRefused text (Bad r) =
    (fault : Fault) × RefusesText text fault r.place.line × (r.kind ≡ kind_of fault) × (r.place ≡ line_place text r.place.line)
IsRefused text NoMemory = Unit {0}

-- the lines behind one more line of the text
abbrev pub Takes : Next → List Line → List Line → Type 0
Takes nothing old new = new ≡ old
Takes (good l) old new = new ≡ old ++ l ∷ []
Takes (faulty k) old new = ⊥

abbrev pub Fails : Next → LineEnd → Type 0
Fails next (end.Bad k) = next ≡ faulty (seen_fault k)
Fails next end.NoMemory = Unit {0}

abbrev pub Answers : Result (Option Line) LineEnd → Next → Type 0
Answers (Ok None) next = next ≡ nothing
Answers (Ok (Some l)) next = next ≡ good l
Answers (Err e) next = Fails next e

-- what a shape is behind the lines so far
abbrev pub IsResolved : Result Line LineEnd → Result Line Fault → Type 0
IsResolved (Ok l) r = r ≡ Ok l
IsResolved (Err (end.Bad k)) r = r ≡ Err (seen_fault k)
IsResolved (Err end.NoMemory) r = Unit {0}
