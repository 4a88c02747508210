-- An enumeration of a script has at most as many constants as the script's text has bytes.
use Rattle.std.proofs.Common.{ℕ, ◌≤◌, List, [], ◌∷◌, length, sym, subst, arith}
use Rattle.std.specs.List.{AllByRecursion}
use Rattle.std.specs.Prelude.{◌^◌}
use Rattle.word_core.specs.declared.word.TheConstants.{WIDEST}
use Rattle.moxi_terms.specs.declared.term.Enumeration.{Enumeration}
use Rattle.moxi_scripts.specs.Commands.{nothing_read}
use Rattle.moxi_scripts.specs.Script.{PlainScript}
use Rattle.moxi_lines.specs.TermLaws.{HaveCodes}
use Rattle.moxi_layout.specs.ConstantLaws.{CodesAreFew, ConstantsAreFew}
use Rattle.moxi_layout.proofs.Atoms.{text_atoms_few}
use Rattle.moxi_layout.proofs.Constants.{AtMost, forms_few}

pub constants_are_few_law : ConstantsAreFew
constants_are_few_law text ts end s spelled script =
    subst (λ (x : PlainScript). AtMost (length text) x.scope) (sym script.script) (forms_few (length text) nothing_read ts tt (text_atoms_few text ts spelled))

few_coded : (n : ℕ) (es : List Enumeration) → n ≤ 2 ^ WIDEST → AllByRecursion (λ (e : Enumeration). length e.constants ≤ n) es → HaveCodes es
few_coded n [] h all = tt
few_coded n (e ∷ es) h all = (let few : length e.constants ≤ n = all.0 in omega (arith, h, few), few_coded n es h all.1)

pub codes_are_few_law : CodesAreFew
codes_are_few_law text ts end s short spelled script = few_coded (length text) s.scope.enumerations short (constants_are_few_law text ts end s spelled script)
