-- The printed form of forms.
use Rattle.std.specs.Prelude.{◌≡◌, ℕ, Bool, not, ◌&&◌, if◌then◌else◌, List, [], ◌∷◌, ◌++◌, codes}
use Rattle.std.specs.List.{list_any}
use Rattle.std.specs.Str.{bytes_eq}
use Rattle.std.specs.Prelude.{IsTrue}
use Rattle.moxi_sexpr.specs.declared.form.Atom.{Atom}
use Rattle.moxi_sexpr.specs.declared.form.Atom.TheVariants as atoms
use Rattle.moxi_sexpr.specs.declared.scan.Spelling.{Spelling}
use Rattle.moxi_sexpr.specs.declared.scan.Spelling.TheVariants as how
use Rattle.moxi_sexpr.specs.Atoms.{is_simple, may_appear, spelled}
use Rattle.moxi_sexpr.specs.Tree.{Tree, atom, list, Trees, no_trees, tree, all_unplaced}
use Rattle.moxi_sexpr.specs.Grammar.{SpellsForms}

-- SMT-LIB's reserved words but for the names of its commands (SMT-LIB 2.6, section 3.1)
unfoldable pub reserved_words : List (List ℕ)
reserved_words =
    codes "_" ∷ codes "!" ∷ codes "as" ∷ codes "let" ∷ codes "exists" ∷ codes "forall" ∷ codes "match" ∷ codes "par" ∷ codes "BINARY" ∷ codes "DECIMAL" ∷ codes "HEXADECIMAL" ∷ codes "NUMERAL" ∷ codes "STRING" ∷ []

-- the name is one of the words
abbrev pub is_among : List ℕ → List (List ℕ) → Bool
is_among name words = list_any (λ word. bytes_eq name word) words

-- a symbol is printed in bars unless it is simple and no reserved word
abbrev pub symbol_spelling : List ℕ → Bool → Spelling
symbol_spelling name primed = if is_simple name && not (is_among name reserved_words) then how.Bare primed else how.Barred primed

-- how an atom is printed
abbrev pub spelling_of : Atom → Spelling
spelling_of (atoms.Symbol name primed) = symbol_spelling name primed
spelling_of (atoms.Keyword name) = how.Keyword
spelling_of (atoms.Numeral name) = how.Numeral
spelling_of (atoms.Binary name) = how.Binary
spelling_of (atoms.Hex name) = how.Hex
spelling_of (atoms.Quote name) = how.Quote

abbrev pub name_of : Atom → List ℕ
name_of (atoms.Symbol name primed) = name
name_of (atoms.Keyword name) = name
name_of (atoms.Numeral name) = name
name_of (atoms.Binary name) = name
name_of (atoms.Hex name) = name
name_of (atoms.Quote name) = name

abbrev pub printed_atom : Atom → List ℕ
printed_atom a = spelled (spelling_of a) (name_of a)

-- single blanks between the parts of a list, none inside a bracket; `before` is before the first part
abbrev mutual
  pub printed : Tree → List ℕ
  printed (atom p a) = printed_atom a
  printed (list p ts) = 40 ∷ (printed_parts [] ts ++ 41 ∷ [])

  pub printed_parts : List ℕ → Trees → List ℕ
  printed_parts before no_trees = []
  printed_parts before (tree t ts) = before ++ (printed t ++ printed_parts (32 ∷ []) ts)

-- each form on a line of its own
abbrev pub printed_forms : Trees → List ℕ
printed_forms no_trees = []
printed_forms (tree t ts) = printed t ++ 10 ∷ printed_forms ts

-- each atom can be spelled as its kind asks
abbrev pub CanBeSpelled : Atom → Type 0
CanBeSpelled a = IsTrue (may_appear (spelling_of a) (name_of a))

abbrev mutual
  pub IsPrintable : Tree → Type 0
  IsPrintable (atom p a) = CanBeSpelled a
  IsPrintable (list p ts) = ArePrintable ts

  pub ArePrintable : Trees → Type 0
  ArePrintable no_trees = Unit {0}
  ArePrintable (tree t ts) = IsPrintable t × ArePrintable ts

-- the text reads back to these forms but for places
pub record ReadsBack (text : List ℕ) (ts : Trees) : Type 0 where
  pub forms : Trees
  pub spelled : SpellsForms text forms
  pub same : all_unplaced forms ≡ all_unplaced ts
