-- Which texts spell which forms: S-expressions (SMT-LIB 2.6, section 3.2).
use Rattle.std.specs.Prelude.{ℕ, List, [], ◌∷◌, ◌++◌}
use Rattle.text_core.specs.declared.place.Place.{Place}
use Rattle.text_core.specs.declared.place.Refusal.{Refusal}
use Rattle.moxi_sexpr.specs.declared.form.Atom.{Atom}
use Rattle.moxi_sexpr.specs.Tree.{Tree, atom, list, Trees, no_trees, tree}
use Rattle.moxi_sexpr.specs.declared.read.TokenKind.TheVariants as kind
use Rattle.moxi_sexpr.specs.Lexing.{Token, token, Lexes, Refuses, begin}

-- an atom, or forms between brackets; a form has the place of its first token
mutual
  pub data Spells : Tree → List Token → Type 0 where
    one : (p : Place) (a : Atom) → Spells (atom p a) (token p (kind.Atom a) ∷ [])
    bracketed : {ts : Trees} {xs : List Token} (p q : Place) → SpellsAll ts xs → Spells (list p ts) (token p kind.Open ∷ (xs ++ token q kind.Close ∷ []))

  pub data SpellsAll : Trees → List Token → Type 0 where
    no_forms : SpellsAll no_trees []
    forms : {t : Tree} {ts : Trees} {xs ys : List Token} → Spells t xs → SpellsAll ts ys → SpellsAll (tree t ts) (xs ++ ys)

-- the whole text spells these forms
pub record SpellsForms (text : List ℕ) (ts : Trees) : Type 0 where
  pub tokens : List Token
  pub lexed : Lexes begin text tokens
  pub formed : SpellsAll ts tokens

-- the text is refused with this kind at this place
abbrev pub RefusesWith : List ℕ → Refusal → Type 0
RefusesWith = Refuses begin
