-- The plain forms of terms without parts.
use Rattle.std.proofs.Common.{◌≡◌, ℕ, Bool, rules}
use Rattle.moxi_terms.specs.declared.data.Datum.{Datum}
use Rattle.moxi_terms.specs.declared.term.Term.{Constant, Variable, the_lemmas}
use Rattle.moxi_terms.specs.Tree.{constant, variable}
use Rattle.moxi_terms.specs.View.{plain}

pub plain-Constant : (d : Datum) → plain (Constant d) ≡ constant d
plain-Constant d = search (rules, the_lemmas)

pub plain-Variable : (v : ℕ) (primed : Bool) → plain (Variable v primed) ≡ variable v primed
plain-Variable v primed = search (rules, the_lemmas)
