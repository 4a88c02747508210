-- Formulas of systems and checks.
use Rattle.std.specs.Prelude.{true, Option, None, Some, List, [], ◌++◌}
use Rattle.text_core.specs.declared.place.Refusal.{Refusal}
use Rattle.moxi_sexpr.specs.Tree as form
use Rattle.moxi_terms.specs.declared.data.Datum.TheVariants as datum
use Rattle.moxi_terms.specs.declared.data.Primes.{Primes}
use Rattle.moxi_terms.specs.declared.data.Sort.TheVariants.{Truth}
use Rattle.moxi_term_reading.specs.declared.locals.Local.{Local}
use Rattle.moxi_term_reading.specs.Forms.{place_in}
use Rattle.moxi_term_reading.specs.Reading.{Reading, read}
use Rattle.moxi_terms.specs.Tree.{Tree, constant}
use Rattle.moxi_terms.specs.View.{ScopeState}
use Rattle.moxi_scripts.specs.Declarations.{clash_failures}

-- what stands where a formula is missing
abbrev pub true_term : Tree
true_term = constant (datum.Truth true)

abbrev pub reading_of : ScopeState → List Local → Primes → form.Tree → Reading
reading_of s locals primes t = read (record { scope = s; variables = locals; primes = primes }) [] t

abbrev pub term_of : ScopeState → List Local → Primes → form.Tree → Tree
term_of s locals primes t = (reading_of s locals primes t).term

-- a formula has the sort of truth values
abbrev pub term_failures : ScopeState → List Local → Primes → form.Tree → List Refusal
term_failures s locals primes t = (reading_of s locals primes t).failures ++ clash_failures (Some Truth) (reading_of s locals primes t).sort (place_in t)

abbrev pub formula_term : ScopeState → List Local → Primes → Option form.Tree → Tree
formula_term s locals primes None = true_term
formula_term s locals primes (Some t) = term_of s locals primes t

abbrev pub formula_failures : ScopeState → List Local → Primes → Option form.Tree → List Refusal
formula_failures s locals primes None = []
formula_failures s locals primes (Some t) = term_failures s locals primes t
