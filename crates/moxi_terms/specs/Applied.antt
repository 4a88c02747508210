-- What the evaluator of operators asks for.
use Rattle.std.specs.Prelude.{◌≡◌, Ok, List, [], ◌∷◌}
use Rattle.word_core.specs.Words.{BitVector}
use Rattle.word_core.specs.Table.{BinaryFits, binary_of}
use Rattle.word_core.specs.declared.kinds.Binary.{Binary}
use Rattle.moxi_terms.specs.declared.data.Sort.{Sort}
use Rattle.moxi_terms.specs.declared.data.Datum.{Datum}
use Rattle.moxi_terms.specs.declared.data.Datum.TheVariants as datum
use Rattle.moxi_terms.specs.declared.data.TermOp.{TermOp}
use Rattle.moxi_terms.specs.declared.term.Enumeration.{Enumeration}
use Rattle.moxi_terms.specs.Operators.{word_of}
use Rattle.moxi_terms.specs.Sorts.{Fit, op_sort}

-- the values are of sorts that the operator takes
pub record CanApply (o : TermOp) (vs : List Datum) : Type 0 where
  pub enumerations : List Enumeration
  pub sorts : List Sort
  pub sort : Sort
  pub fit : Fit enumerations sorts vs
  pub sorted : op_sort o sorts ≡ Ok sort

abbrev pub IsBits : Datum → Type 0
IsBits (datum.Bits w) = Unit {0}
IsBits d = ⊥

-- from the left, each word has the widths that the operator asks for
abbrev pub AreWide : Binary → BitVector → List Datum → Type 0
AreWide b w [] = Unit {0}
AreWide b w (v ∷ vs) = IsBits v × BinaryFits b w.width (word_of v).width × AreWide b (binary_of b w (word_of v)) vs
