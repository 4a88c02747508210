-- Texts that write forms with single blanks, each atom in any spelling that it may appear in.
use Rattle.std.specs.Prelude.{ℕ, IsTrue, List, [], ◌∷◌, ◌++◌}
use Rattle.text_core.specs.declared.place.Place.{Place}
use Rattle.moxi_sexpr.specs.declared.scan.Spelling.{Spelling}
use Rattle.moxi_sexpr.specs.Atoms.{may_appear, spelled, atom_of}
use Rattle.moxi_sexpr.specs.Tree.{Tree, atom, list, Trees, no_trees, tree}

-- an atom in a spelling, or parts between brackets
mutual
  pub data Writes : Tree → List ℕ → Type 0 where
    word : (p : Place) (h : Spelling) (name : List ℕ) → IsTrue (may_appear h name) → Writes (atom p (atom_of h name)) (spelled h name)
    brackets : {ts : Trees} {body : List ℕ} (p : Place) → WritesParts ts body → Writes (list p ts) (40 ∷ (body ++ 41 ∷ []))

  -- parts with a blank between two
  pub data WritesParts : Trees → List ℕ → Type 0 where
    no_parts : WritesParts no_trees []
    parts : {t : Tree} {ts : Trees} {xs ys : List ℕ} → Writes t xs → WritesOthers ts ys → WritesParts (tree t ts) (xs ++ ys)

  -- parts, each behind a blank
  pub data WritesOthers : Trees → List ℕ → Type 0 where
    no_others : WritesOthers no_trees []
    others : {t : Tree} {ts : Trees} {xs ys : List ℕ} → Writes t xs → WritesOthers ts ys → WritesOthers (tree t ts) (32 ∷ (xs ++ ys))

-- each form on a line of its own
pub data WritesLines : Trees → List ℕ → Type 0 where
  no_lines : WritesLines no_trees []
  lines : {t : Tree} {ts : Trees} {xs ys : List ℕ} → Writes t xs → WritesLines ts ys → WritesLines (tree t ts) (xs ++ 10 ∷ ys)
