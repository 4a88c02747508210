use Rattle.std.proofs.Common.{◌&&◌, if◌then◌else◌, Some, is_none, length, bytes_eq, refl, sym, ap, ◌∙◌, arith}
use Rattle.name_maps.specs.Rows.{row_in}
use Rattle.smv_meaning.specs.Names.{is_parent}
use Rattle.smv_instances.specs.laws.ChildLemmas.{with_part}
use Rattle.smv_instances.proofs.children.children_of.Goals as goal

pub loop-c-preserved : goal.loop-c-preserved
loop-c-preserved c = λ i x.
    let before = row_in c.loop-c.children i x in
    with_part c.args.table.now c.loop-c.c (length c.args.table.now) c.index-table-c.result i x before (row_in c.add_first_in.new.numbers i x)
    refl (omega arith) c.index-table-c.is (c.loop-c.invariant i x)
    (c.in_ok-add_first_in.ensures i x ∙ ap (λ q. if is_none before && (is_parent i q && bytes_eq c.index-table-c.result.name.now x) then Some c.loop-c.c else before) (sym c.in-Some.is))
