-- The names of variables.
use Rattle.std.proofs.Common.{◌≡◌, List, [], ◌∷◌, refl, ap}
use Rattle.moxi_terms.specs.declared.term.Variable.{Variable}
use Rattle.moxi_term_reading.specs.Answer.{locals_of}
use Rattle.moxi_term_reading.specs.Reading.{names_of}
use Rattle.moxi_term_print.specs.Terms.{variable_names}

pub names_of_locals : (vs : List Variable) → names_of (locals_of vs) ≡ variable_names vs
names_of_locals [] = refl
names_of_locals (v ∷ vs) = ap (λ ns. v.name ∷ ns) (names_of_locals vs)
