-- The plain form of a form: a tree of places and atoms.
use Rattle.std.specs.Prelude.{ℕ, suc, ◌+◌, max, List, [], ◌∷◌, map}
use Rattle.text_core.specs.declared.place.Place.{Place}
use Rattle.moxi_sexpr.specs.declared.form.Atom.{Atom}
use Rattle.moxi_sexpr.specs.declared.form.Form.{Form, Form-F, fold-Form}
use Rattle.moxi_sexpr.specs.declared.form.FormShape.{FormShape-F}
use Rattle.text_core.specs.Places.{start}

mutual
  pub data Tree : Type 0 where
    atom : Place → Atom → Tree
    list : Place → Trees → Tree

  pub data Trees : Type 0 where
    no_trees : Trees
    tree : Tree → Trees → Trees

abbrev pub trees_of : List Tree → Trees
trees_of [] = no_trees
trees_of (t ∷ ts) = tree t (trees_of ts)

abbrev pub list_of : Trees → List Tree
list_of no_trees = []
list_of (tree t ts) = t ∷ list_of ts

abbrev pub shape_step : FormShape-F (Place → Tree) Tree → Place → Tree
shape_step (FormShape-F.Atom a) place = atom place a
shape_step (FormShape-F.List fs) place = list place (trees_of fs.items)

abbrev pub form_step : Form-F (Place → Tree) Tree → Tree
form_step f = f.shape f.place

-- the plain form
abbrev pub plain : Form → Tree
plain = fold-Form (Place → Tree) Tree shape_step form_step

-- the plain form of forms
abbrev pub plain_forms : List Form → Trees
plain_forms fs = trees_of (map plain fs)

-- how many brackets stand open at most
abbrev mutual
  pub depth : Tree → ℕ
  depth (atom p a) = 0
  depth (list p ts) = suc (depths ts)

  pub depths : Trees → ℕ
  depths no_trees = 0
  depths (tree t ts) = max (depth t) (depths ts)

-- how many atoms and lists a form has, with the form itself
abbrev mutual
  pub nodes : Tree → ℕ
  nodes (atom p a) = 1
  nodes (list p ts) = suc (all_nodes ts)

  pub all_nodes : Trees → ℕ
  all_nodes no_trees = 0
  all_nodes (tree t ts) = nodes t + all_nodes ts

-- the same form but for its places
abbrev mutual
  pub unplaced : Tree → Tree
  unplaced (atom p a) = atom start a
  unplaced (list p ts) = list start (all_unplaced ts)

  pub all_unplaced : Trees → Trees
  all_unplaced no_trees = no_trees
  all_unplaced (tree t ts) = tree (unplaced t) (all_unplaced ts)
