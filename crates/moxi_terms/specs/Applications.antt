-- Terms that are one application (SMT-LIB 2.6, theories Core and FixedSizeBitVectors).
use Rattle.moxi_terms.specs.Tree.{Tree, Trees, no_trees, tree, apply, constant, trees_of}
use Rattle.word_core.specs.declared.kinds.Binary.{Binary}
use Rattle.moxi_terms.specs.declared.data.TermOp.TheVariants as op
use Rattle.std.specs.Prelude.{true, List, [], ◌∷◌}
use Rattle.moxi_terms.specs.declared.data.Datum.TheVariants as datum

abbrev pub one : Tree → Trees
one a = tree a no_trees

abbrev pub two : Tree → Tree → Trees
two a b = tree a (one b)

abbrev pub three : Tree → Tree → Tree → Trees
three a b c = tree a (two b c)

abbrev pub words_term : Binary → Tree → Tree → Tree
words_term o a b = apply (op.BvBinary o) (two a b)

abbrev pub equal_term : Tree → Tree → Tree
equal_term a b = apply op.Equal (two a b)

abbrev pub choice_term : Tree → Tree → Tree → Tree
choice_term c a b = apply op.Ite (three c a b)

-- no part is true, one part is itself
abbrev pub all_term : List Tree → Tree
all_term [] = constant (datum.Truth true)
all_term (t ∷ []) = t
all_term (t ∷ u ∷ ts) = apply op.And (trees_of (t ∷ u ∷ ts))
