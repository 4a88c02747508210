use Rattle.std.proofs.Common.{◌≡◌, ◌∙◌, Some, true, false}
use Rattle.std.specs.Str.{bytes_eq}
use Rattle.std.specs.List.{slice_get}
use Rattle.std.proofs.lemmas.Option.{slice_get_read}
use Rattle.text_core.proofs.MemoryLemmas.{file_at_passed, place_found}
use Rattle.text_core.proofs.lists.List+FilePair.place_of.Goals as goal

pub returns-then-eq-clause-found : goal.returns-then-eq-clause-found
returns-then-eq-clause-found c =
    let got : slice_get c.args.self.now c.loop-i.i ≡ Some c.at.result.now = slice_get_read _ _ _ _ c.len-i-end.ensures c.loop-i-test.true c.at.ensures in
    let same : bytes_eq c.at.result.now.0 c.args.name.now ≡ true = cc in
    place_found c.args.self.now c.loop-i.i c.args.name.now c.at.result.now got same c.loop-i.invariant

pub loop-i-preserved : goal.loop-i-preserved
loop-i-preserved c =
    let got : slice_get c.args.self.now c.loop-i.i ≡ Some c.at.result.now = slice_get_read _ _ _ _ c.len-i-end.ensures c.loop-i-test.true c.at.ensures in
    let other : bytes_eq c.at.result.now.0 c.args.name.now ≡ false = cc in
    file_at_passed c.args.self.now c.loop-i.i c.args.name.now c.at.result.now got other ∙ c.loop-i.invariant
