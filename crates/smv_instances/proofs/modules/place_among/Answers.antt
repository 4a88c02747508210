use Rattle.std.proofs.Common.{◌≡◌, ◌<◌, length, sym, subst, ◌∙◌}
use Rattle.std.specs.Prelude.{slice_index_or}
use Rattle.smv_instances.proofs.ScanLemmas.{module_here}
use Rattle.smv_instances.proofs.modules.place_among.Goals as goal

pub returns-then-is_same-clause-module : goal.returns-then-is_same-clause-module
returns-then-is_same-clause-module c =
    let found = c.module-item.result in
    let same = c.as_slice-module-items.ensures in
    module_here c.args.modules.now c.loop-k.k found c.bytes.result.now c.args.name.now (subst (λ ms. c.loop-k.k < length ms) same c.loop-k-test.true) (subst (λ ms. found ≡ slice_index_or ms c.loop-k.k found) same c.module-item.is)
    c.bytes.ensures (sym c.is_same.ensures ∙ c.if-is_same.true) ∙ c.loop-k.invariant
