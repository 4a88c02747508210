use Rattle.std.proofs.Common.{refl, sym, ◌≡◌, false, eqb, arith}
use Rattle.std.proofs.lemmas.Bool.Decides.{nat_tests}
use Rattle.btor_text.specs.Seen.{rows}
use Rattle.btor_text.proofs.Words.{none_from}
use Rattle.btor_text.proofs.word.words_from.Goals as goal

pub returns-in_default : goal.returns-in_default
returns-in_default c =
    let b = c.args.first in
    let not_97 : eqb b 97 ≡ false = grind (arith, nat_tests) in
    let not_98 : eqb b 98 ≡ false = grind (arith, nat_tests) in
    let not_99 : eqb b 99 ≡ false = grind (arith, nat_tests) in
    let not_100 : eqb b 100 ≡ false = grind (arith, nat_tests) in
    let not_101 : eqb b 101 ≡ false = grind (arith, nat_tests) in
    let not_105 : eqb b 105 ≡ false = grind (arith, nat_tests) in
    let not_109 : eqb b 109 ≡ false = grind (arith, nat_tests) in
    let not_110 : eqb b 110 ≡ false = grind (arith, nat_tests) in
    let not_111 : eqb b 111 ≡ false = grind (arith, nat_tests) in
    let not_114 : eqb b 114 ≡ false = grind (arith, nat_tests) in
    let not_115 : eqb b 115 ≡ false = grind (arith, nat_tests) in
    let not_117 : eqb b 117 ≡ false = grind (arith, nat_tests) in
    let not_120 : eqb b 120 ≡ false = grind (arith, nat_tests) in
    let not_122 : eqb b 122 ≡ false = grind (arith, nat_tests) in
    sym (none_from b rows (rw (not_97, not_98, not_99, not_100, not_101, not_105, not_109, not_110, not_111, not_114, not_115, not_117, not_120, not_122) refl))
