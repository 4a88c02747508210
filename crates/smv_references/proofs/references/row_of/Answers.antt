use Rattle.std.proofs.Common.{map, sym, ap, ◌∙◌}
use Rattle.smv_instances.specs.View.{instance_plain, local_plain}
use Rattle.smv_references.specs.View.{key_of}
use Rattle.smv_text.specs.View.{plain}
use Rattle.smv_references.proofs.ReferenceLemmas.{body_row}
use Rattle.smv_references.proofs.references.row_of.Goals as goal

pub returns-in_ok-body_row-in-Body : goal.returns-in_ok-body_row-in-Body
returns-in_ok-body_row-in-Body c =
    c.in_ok-body_row-in-Body.ensures
    ∙ body_row (map instance_plain c.args.table.now) (key_of c.args.body.now) c.in-Body.j (plain c.in-Body.e.now) (sym (ap local_plain c.in-Body.is) ∙ c.local.ensures)
