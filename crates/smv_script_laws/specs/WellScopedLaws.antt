-- The law of sorts: what stands for a typed expression can appear in the script of its model.
use Rattle.std.specs.Prelude.{◌≡◌, ℕ, ◌≤◌, true, List, Some}
use Rattle.text_core.specs.declared.place.Place.{Place}
use Rattle.smv_text.specs.declared.token.Token.{Token}
use Rattle.smv_text.specs.Tree.{Tree, PlainSource}
use Rattle.smv_text.specs.Lexing.{Lexes}
use Rattle.smv_text.specs.Sources.{SpellsSource}
use Rattle.smv_meaning.specs.Instances.{Instance, instances_of}
use Rattle.smv_meaning.specs.Types.{ExprType}
use Rattle.smv_meaning.specs.Checks.{Position, typing}
use Rattle.smv_meaning.specs.Phases.{IsAccepted}
use Rattle.smv_meaning.specs.Settled.{types_in}
use Rattle.smv_flat.specs.FlatForms.{PlainFlat, flat_in, flat_of, flat_smv}
use Rattle.smv_flat.specs.FlatWidth.{width_of}
use Rattle.smv_width.specs.SourceWidth.{expression_width, has_operators}
use Rattle.moxi_terms.specs.declared.data.Primes.{Primes}
use Rattle.moxi_term_reading.specs.Reading.{Context}
use Rattle.moxi_term_print.specs.WellScoped.{IsAllowedPrime}
use Rattle.moxi_scripts.specs.Script.{variables_in}
use Rattle.moxi_scripts.specs.Valid.{over}
use Rattle.smv_script.specs.Codes.{sort_of}
use Rattle.smv_script.specs.Terms.{translation}
use Rattle.smv_script.specs.Script.{coding_of, script_of, system_of}
use Rattle.smv_script_laws.specs.WellScoped.{CanAppear}

-- where the terms of a script stand: its scope and its system's variables
abbrev pub place_in_script : PlainFlat → ℕ → Primes → Context
place_in_script flat width primes = over (script_of flat width).scope (variables_in (system_of flat width)) primes

-- an expression of an instance that has operators in its chains, a width and a type, and `next` only where primes may stand
abbrev pub ExpressionsAreWellScoped : List Instance → ℕ → Type 0
ExpressionsAreWellScoped t width = (primes : Primes) (i : ℕ) (at : Position) → IsAllowedPrime primes at.nexts → (e : Tree) → has_operators e ≡ true → expression_width (types_in true t i) at e ≤ width
    → (u : ExprType) → (typing (types_in true t i) at e).type ≡ Some u
    → CanAppear (place_in_script (flat_of t) width primes) (sort_of width u) at.sets (translation (coding_of (flat_of t) width) (flat_in t i at e))

abbrev pub TermsAreWellScoped : Type 0
TermsAreWellScoped = (source : PlainSource) (end : Place) (text : List ℕ) (xs : List Token) → Lexes text xs → SpellsSource source end xs → (needed : ℕ) → IsAccepted source needed
    → ExpressionsAreWellScoped (instances_of source) (width_of (flat_smv source))
