use Rattle.std.proofs.Common.{refl, sym, ◌≡◌, false, eqb, arith}
use Rattle.std.proofs.lemmas.Bool.Decides.{nat_tests}
use Rattle.smv_text.specs.Keywords.{keywords}
use Rattle.smv_lex.proofs.Keywords.{none_from}
use Rattle.smv_lex.proofs.tables.keywords_from.Goals as goal

pub returns-in_default : goal.returns-in_default
unfolding keywords
returns-in_default c =
    let b = c.args.first in
    let not_65 : eqb b 65 ≡ false = grind (arith, nat_tests) in
    let not_66 : eqb b 66 ≡ false = grind (arith, nat_tests) in
    let not_67 : eqb b 67 ≡ false = grind (arith, nat_tests) in
    let not_68 : eqb b 68 ≡ false = grind (arith, nat_tests) in
    let not_69 : eqb b 69 ≡ false = grind (arith, nat_tests) in
    let not_70 : eqb b 70 ≡ false = grind (arith, nat_tests) in
    let not_71 : eqb b 71 ≡ false = grind (arith, nat_tests) in
    let not_72 : eqb b 72 ≡ false = grind (arith, nat_tests) in
    let not_73 : eqb b 73 ≡ false = grind (arith, nat_tests) in
    let not_74 : eqb b 74 ≡ false = grind (arith, nat_tests) in
    let not_76 : eqb b 76 ≡ false = grind (arith, nat_tests) in
    let not_77 : eqb b 77 ≡ false = grind (arith, nat_tests) in
    let not_78 : eqb b 78 ≡ false = grind (arith, nat_tests) in
    let not_79 : eqb b 79 ≡ false = grind (arith, nat_tests) in
    let not_80 : eqb b 80 ≡ false = grind (arith, nat_tests) in
    let not_83 : eqb b 83 ≡ false = grind (arith, nat_tests) in
    let not_84 : eqb b 84 ≡ false = grind (arith, nat_tests) in
    let not_85 : eqb b 85 ≡ false = grind (arith, nat_tests) in
    let not_86 : eqb b 86 ≡ false = grind (arith, nat_tests) in
    let not_88 : eqb b 88 ≡ false = grind (arith, nat_tests) in
    let not_89 : eqb b 89 ≡ false = grind (arith, nat_tests) in
    let not_90 : eqb b 90 ≡ false = grind (arith, nat_tests) in
    let not_97 : eqb b 97 ≡ false = grind (arith, nat_tests) in
    let not_98 : eqb b 98 ≡ false = grind (arith, nat_tests) in
    let not_99 : eqb b 99 ≡ false = grind (arith, nat_tests) in
    let not_101 : eqb b 101 ≡ false = grind (arith, nat_tests) in
    let not_105 : eqb b 105 ≡ false = grind (arith, nat_tests) in
    let not_109 : eqb b 109 ≡ false = grind (arith, nat_tests) in
    let not_110 : eqb b 110 ≡ false = grind (arith, nat_tests) in
    let not_111 : eqb b 111 ≡ false = grind (arith, nat_tests) in
    let not_112 : eqb b 112 ≡ false = grind (arith, nat_tests) in
    let not_114 : eqb b 114 ≡ false = grind (arith, nat_tests) in
    let not_115 : eqb b 115 ≡ false = grind (arith, nat_tests) in
    let not_116 : eqb b 116 ≡ false = grind (arith, nat_tests) in
    let not_117 : eqb b 117 ≡ false = grind (arith, nat_tests) in
    let not_119 : eqb b 119 ≡ false = grind (arith, nat_tests) in
    let not_120 : eqb b 120 ≡ false = grind (arith, nat_tests) in
    sym (none_from b keywords (rw (not_65, not_66, not_67, not_68, not_69, not_70, not_71, not_72, not_73, not_74, not_76, not_77, not_78, not_79, not_80, not_83, not_84, not_85, not_86, not_88, not_89, not_90, not_97, not_98, not_99, not_101, not_105, not_109, not_110, not_111, not_112, not_114, not_115, not_116, not_117, not_119, not_120) refl))
