-- A small system whose lines are in its order.
use Rattle.std.proofs.Common.{◌≡◌, false, true, [], ◌∷◌, refl}
use Rattle.std.specs.Prelude.{codes}
use Rattle.moxi_terms.specs.declared.data.Sort.TheVariants.{Bits, Choice, Truth}
use Rattle.moxi_terms.specs.declared.data.Datum.TheVariants as datum
use Rattle.moxi_terms.specs.declared.data.TermOp.TheVariants as op
use Rattle.moxi_terms.specs.Tree.{Tree, apply, constant, no_trees, tree, variable}
use Rattle.moxi_flat.specs.FlatSystem.{PlainFlatSystem}
use Rattle.moxi_lines.specs.Lines.{lines_of}
use Rattle.moxi_layout.specs.Skeleton.{skeleton, skeleton_of}
use Rattle.moxi_lines.proofs.Examples.{not_term}

abbrev equal : Tree → Tree → Tree
equal a b = apply op.Equal (tree a (tree b no_trees))

-- a switch, a lamp of three colours and a number; the second query has conditions and two formulas
abbrev lamp : PlainFlatSystem
lamp =
    record {
      scope = record { enumerations = record { name = codes "colour"; constants = codes "red" ∷ codes "green" ∷ codes "blue" ∷ [] } ∷ []; sorts = []; functions = [] };
      variables = record { name = codes "on"; sort = Truth } ∷ record { name = codes "shade"; sort = Choice 0 } ∷ record { name = codes "count"; sort = Bits 4 } ∷ [];
      parts =
          record {
            init = not_term (variable 0 false);
            trans = equal (variable 0 true) (not_term (variable 0 false));
            inv = constant (datum.Truth true);
          }
          ∷ [];
      assumptions = record { name = codes "a"; term = equal (variable 1 false) (constant (datum.Constant 0 0)) } ∷ [];
      currents = record { name = codes "c"; term = not_term (variable 0 false) } ∷ [];
      reachables = record { name = codes "lit"; term = variable 0 false } ∷ record { name = codes "dark"; term = not_term (variable 0 false) } ∷ [];
      queries = record { name = codes "once"; assumptions = []; currents = []; reachables = 0 ∷ [] } ∷ record { name = codes "all"; assumptions = 0 ∷ []; currents = 0 ∷ []; reachables = 0 ∷ 1 ∷ [] } ∷ [];
    }

lamp_order : skeleton (lines_of lamp) ≡ skeleton_of lamp
lamp_order = refl
