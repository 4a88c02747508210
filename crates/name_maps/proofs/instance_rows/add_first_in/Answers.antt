use Rattle.std.proofs.Common.{sym}
use Rattle.name_maps.specs.Rows.{row_in}
use Rattle.name_maps.proofs.RowLemmas.{stays, on_put}
use Rattle.name_maps.proofs.instance_rows.add_first_in.Goals as goal

pub returns-in-Some : goal.returns-in-Some
returns-in-Some c = λ j y. stays (row_in c.args.numbers.now) c.args.i c.args.x.now c.args.n j y _ (sym c.in-Some.ensures)

pub returns-in-None : goal.returns-in-None
returns-in-None c =
    on_put c.add_row_in.result (row_in c.args.numbers.now) (row_in c.add_row_in.new.map) c.args.i c.args.x.now c.args.n (sym c.in-None.ensures) c.add_row_in.ensures
