use Rattle.std.proofs.Common.{◌≡◌, map, sym, subst}
use Rattle.smv_meaning.specs.Names.{cyclic, steps_of, found_in}
use Rattle.smv_instances.specs.View.{instance_plain, Declares}
use Rattle.smv_instances.proofs.LeadLemmas.{open_is_cyclic}
use Rattle.smv_instances.proofs.table.Table.target.Goals as goal

pub returns-in-Ends-clause-declared : goal.returns-in-Ends-clause-declared
returns-in-Ends-clause-declared c =
    let t = map instance_plain c.self.inside.parts in
    subst (λ l. Declares (map instance_plain l) c.reached.result) c.self.view_is (c.reached.ensures.declared t c.in-Ends.ensures.2)

pub returns-in-Waits-clause-found : goal.returns-in-Waits-clause-found
returns-in-Waits-clause-found c =
    let t = map instance_plain c.self.inside.parts in
    subst (λ l. cyclic ≡ found_in (map instance_plain l) c.args.i c.args.path.now) c.self.view_is
    (sym (c.in-Waits.ensures.1 (steps_of t) (open_is_cyclic t c.self.inside.leads c.self.invariant.1 (steps_of t) c.in-Waits.field-0.instance c.in-Waits.field-0.name.now c.in-Waits.ensures.0)))
