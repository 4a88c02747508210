-- What the types of the code stand for (NuSMV 2.6 User Manual, 2.1).
use Rattle.smv_meaning.specs.Types.{ExprType, truth_type, integer_type, symbol_type, word_type}
use Rattle.smv_intervals.specs.declared.types.Ty.{Ty}
use Rattle.smv_intervals.specs.declared.types.Ty.TheVariants.{Truth, Integer, Symbol, Bits}

abbrev pub seen : Ty → ExprType
seen Truth = truth_type
seen (Integer low high) = integer_type low high
seen Symbol = symbol_type
seen (Bits n) = word_type n
