-- What is printed of a script: words of its own shapes, which stand bare even where SMT-LIB reserves them (`_` and `let`), atoms,
-- and lists.
use Rattle.std.specs.Prelude.{◌≡◌, ℕ, suc, max, false, IsTrue, List, [], ◌∷◌, ◌++◌}
use Rattle.moxi_sexpr.specs.declared.form.Atom.{Atom}
use Rattle.moxi_sexpr.specs.declared.form.Atom.TheVariants.{Symbol}
use Rattle.moxi_sexpr.specs.Atoms.{is_simple}
use Rattle.moxi_sexpr.specs.Tree.{Tree, atom, list, Trees, no_trees, tree}
use Rattle.moxi_sexpr.specs.Printing.{printed_atom, CanBeSpelled}
use Rattle.moxi_sexpr.specs.Grammar.{SpellsForms}

mutual
  pub data Shown : Type 0 where
    word : List ℕ → Shown
    part : Atom → Shown
    group : Showns → Shown

  pub data Showns : Type 0 where
    no_showns : Showns
    shown : Shown → Showns → Showns

abbrev pub joined : Showns → Showns → Showns
joined no_showns ys = ys
joined (shown x xs) ys = shown x (joined xs ys)

-- single blanks between the parts of a list, none inside a bracket; `before` is before the first part
abbrev mutual
  pub text_of : Shown → List ℕ
  text_of (word w) = w
  text_of (part a) = printed_atom a
  text_of (group xs) = 40 ∷ (parts_text [] xs ++ 41 ∷ [])

  pub parts_text : List ℕ → Showns → List ℕ
  parts_text before no_showns = []
  parts_text before (shown x xs) = before ++ (text_of x ++ parts_text (32 ∷ []) xs)

-- each on a line of its own
abbrev pub lines_text : Showns → List ℕ
lines_text no_showns = []
lines_text (shown x xs) = text_of x ++ 10 ∷ lines_text xs

-- how many brackets stand open at most
abbrev mutual
  pub shown_depth : Shown → ℕ
  shown_depth (word w) = 0
  shown_depth (part a) = 0
  shown_depth (group xs) = suc (shown_depths xs)

  pub shown_depths : Showns → ℕ
  shown_depths no_showns = 0
  shown_depths (shown x xs) = max (shown_depth x) (shown_depths xs)

-- each word is a simple symbol, and each atom can be spelled as its kind asks
abbrev mutual
  pub CanBeShown : Shown → Type 0
  CanBeShown (word w) = IsTrue (is_simple w)
  CanBeShown (part a) = CanBeSpelled a
  CanBeShown (group xs) = AllCanBeShown xs

  pub AllCanBeShown : Showns → Type 0
  AllCanBeShown no_showns = Unit {0}
  AllCanBeShown (shown x xs) = CanBeShown x × AllCanBeShown xs

-- the form is shown so, wherever it stands
abbrev mutual
  pub Shows : Tree → Shown → Type 0
  Shows (atom p a) (word w) = a ≡ Symbol w false
  Shows (atom p a) (part b) = a ≡ b
  Shows (atom p a) (group xs) = ⊥
  Shows (list p ts) (word w) = ⊥
  Shows (list p ts) (part b) = ⊥
  Shows (list p ts) (group xs) = ShowEach ts xs

  pub ShowEach : Trees → Showns → Type 0
  ShowEach no_trees no_showns = Unit {0}
  ShowEach no_trees (shown x xs) = ⊥
  ShowEach (tree t ts) no_showns = ⊥
  ShowEach (tree t ts) (shown x xs) = Shows t x × ShowEach ts xs

-- the text spells forms that are shown so
pub record SpellsShown (text : List ℕ) (xs : Showns) : Type 0 where
  pub forms : Trees
  pub spelled : SpellsForms text forms
  pub shown : ShowEach forms xs
