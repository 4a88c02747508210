-- Formulas that are shown and read again.
use Rattle.std.proofs.Common.{◌≡◌, Some, List, [], ◌++◌, sym, ap, ◌∙◌, subst}
use Rattle.moxi_sexpr.specs.Tree as form
use Rattle.moxi_terms.specs.declared.data.Primes.{Primes}
use Rattle.moxi_terms.specs.declared.data.Sort.TheVariants.{Truth}
use Rattle.moxi_term_reading.specs.declared.locals.Local.{Local}
use Rattle.moxi_terms.specs.declared.term.Variable.{Variable}
use Rattle.moxi_term_reading.specs.Answer.{locals_of}
use Rattle.moxi_term_reading.specs.Forms.{place_in}
use Rattle.moxi_term_reading.specs.Reading.{Reading}
use Rattle.moxi_terms.specs.Tree.{Tree}
use Rattle.moxi_terms.specs.View.{ScopeState}
use Rattle.moxi_term_print.specs.Shown.{Shows}
use Rattle.moxi_term_print.specs.WellScopedReads.{whole}
use Rattle.moxi_term_print.specs.Terms.{shown_term, variable_names}
use Rattle.moxi_scripts.specs.Declarations.{clash_failures}
use Rattle.moxi_scripts.specs.Formulas.{reading_of, term_failures, term_of}
use Rattle.moxi_scripts.specs.Valid.{IsFormula, over}
use Rattle.moxi_script_print.specs.laws.VariableNames.{names_of_locals}
use Rattle.moxi_script_print.proofs.AgainParts.{ReadsBack}

pub formula_read : (s : ScopeState) (back : ReadsBack s) (vs : List Variable) (locals : List Local) (primes : Primes) (t : Tree) (f : form.Tree) → locals ≡ locals_of vs → IsFormula s vs primes t → Shows f (shown_term s (variable_names vs) [] t)
    → reading_of s locals primes f ≡ whole t Truth
formula_read s back vs locals primes t f e i h =
    ap (λ ls. reading_of s ls primes f) e ∙ back.terms (over s vs primes) [] t Truth f i (subst (λ ns. Shows f (shown_term s ns [] t)) (sym (names_of_locals vs)) h)

pub term_again : (s : ScopeState) (back : ReadsBack s) (vs : List Variable) (locals : List Local) (primes : Primes) (t : Tree) (f : form.Tree) → locals ≡ locals_of vs → IsFormula s vs primes t → Shows f (shown_term s (variable_names vs) [] t)
    → term_of s locals primes f ≡ t
term_again s back vs locals primes t f e i h = ap (λ (r : Reading). r.term) (formula_read s back vs locals primes t f e i h)

pub term_passes : (s : ScopeState) (back : ReadsBack s) (vs : List Variable) (locals : List Local) (primes : Primes) (t : Tree) (f : form.Tree) → locals ≡ locals_of vs → IsFormula s vs primes t → Shows f (shown_term s (variable_names vs) [] t)
    → term_failures s locals primes f ≡ []
term_passes s back vs locals primes t f e i h = ap (λ (r : Reading). r.failures ++ clash_failures (Some Truth) r.sort (place_in f)) (formula_read s back vs locals primes t f e i h)
