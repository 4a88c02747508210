-- A `let` binds no more names than its list has nodes.
use Rattle.std.proofs.Common.{◌≡◌, ◌+◌, ◌<◌, ◌≤◌, ℕ, suc, Bool, List, ◌∷◌, ◌++◌, length, Option, None, Some, ap, arith}
use Rattle.std.proofs.lemmas.List.{length-append}
use Rattle.text_core.specs.declared.place.Place.{Place}
use Rattle.moxi_sexpr.specs.Tree.{Tree, atom, list, Trees, no_trees, tree, all_nodes, nodes}
use Rattle.moxi_term_reading.specs.declared.locals.Local.{Local}
use Rattle.moxi_term_reading.specs.Forms.{symbol_of}
use Rattle.moxi_term_reading.specs.Reading.{Context, Reading, binding_of, read, read_binding, read_bindings}

pub nodes_some : (t : Tree) → 1 ≤ nodes t
nodes_some (atom p a) = omega arith
nodes_some (list p ts) = let g : 1 ≤ suc (all_nodes ts) = omega arith in g

bound_one : (p : Place) (x : Tree) (o : Option (List ℕ × Bool)) (r : Reading) → length (binding_of p x o r).locals ≤ 1
bound_one p x None r = omega arith
bound_one p x (Some s) r = omega arith

binding_one : (c : Context) (bounds : List Local) (q : Place) (t : Tree) → length (read_binding c bounds q t).locals ≤ 1
binding_one c bounds q (atom p a) = omega arith
binding_one c bounds q (list p no_trees) = omega arith
binding_one c bounds q (list p (tree x no_trees)) = omega arith
binding_one c bounds q (list p (tree x (tree t no_trees))) = bound_one p x (symbol_of x) (read c bounds t)
binding_one c bounds q (list p (tree x (tree t (tree u us)))) = omega arith

pub bindings_few : (c : Context) (bounds : List Local) (q : Place) (ts : Trees) → length (read_bindings c bounds q ts).locals ≤ all_nodes ts
bindings_few c bounds q no_trees = omega arith
bindings_few c bounds q (tree t ts) =
    let here = (read_binding c bounds q t).locals in
    let more = (read_bindings c bounds q ts).locals in
    let sum : length (here ++ more) ≡ length here + length more = length-append here more in
    let g : length (here ++ more) ≤ nodes t + all_nodes ts = omega (arith, sum, nodes_some t, binding_one c bounds q t, bindings_few c bounds q ts) in
    g

-- there is room for one of the names that are left
pub name_room : (ls xs old names : List Local) (x : Local) (rest : List Local) → ls ++ xs ≡ old ++ names → xs ≡ x ∷ rest → length old + length names ≤ 4294967296 → length ls < 4294967296
name_room ls xs old names x rest e f h = omega (arith, ap length e, length-append ls xs, length-append old names, ap length f, h)
