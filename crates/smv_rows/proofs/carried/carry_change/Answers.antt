use Rattle.std.proofs.Common.{map, set, ap, ◌∙◌}
use Rattle.std.proofs.lemmas.List.{map-set}
use Rattle.smv_operators.specs.View.{seen_value}
use Rattle.smv_rows.proofs.carried.carry_change.Goals as goal

pub returns-then-k-len : goal.returns-then-k-len
returns-then-k-len c =
    map-set seen_value c.args.values.now.items c.args.change.now.item c.borrow_value.result ∙ ap (set (map seen_value c.args.values.now.items) c.args.change.now.item) c.borrow_value.ensures
