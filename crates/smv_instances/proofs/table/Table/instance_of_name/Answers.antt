use Rattle.std.proofs.Common.{map, position, sym, ap, refl, ◌∙◌}
use Rattle.smv_text.specs.View.{plain, plain_domain}
use Rattle.smv_meaning.specs.Bodies.{instance_within}
use Rattle.smv_meaning.specs.Names.{body_of, variable_of, inner, nothing, variable_at, body_at, none, dotted_at, at_child, is_child}
use Rattle.smv_instances.specs.View.{instance_plain, local_plain}
use Rattle.smv_instances.proofs.LeadLemmas.{looked_once, child_within}
use Rattle.smv_instances.proofs.table.Table.instance_of_name.Goals as goal

pub returns-in-Body : goal.returns-in-Body
returns-in-Body c =
    let t = map instance_plain c.args.self.now in
    let j = c.in-Body.field-0 in
    let e = plain c.in-Body.field-1.now in
    ap instance_within (sym (looked_once t c.args.i c.args.x.now (body_of j e) (body_at c.args.i c.args.x.now j e) (ap local_plain (sym c.in-Body.is) ∙ c.requires.known) (λ f. refl)))

pub returns-in-Variable : goal.returns-in-Variable
returns-in-Variable c =
    let t = map instance_plain c.args.self.now in
    let kind = c.in-Variable.field-0 in
    let d = plain_domain c.in-Variable.field-1.now in
    ap instance_within (sym (looked_once t c.args.i c.args.x.now (variable_of kind d) (variable_at (dotted_at t c.args.i c.args.x.now) kind d) (ap local_plain (sym c.in-Variable.is) ∙ c.requires.known) (λ f. refl)))

pub returns-in-Instance : goal.returns-in-Instance
returns-in-Instance c =
    let t = map instance_plain c.args.self.now in
    c.child.ensures ∙ child_within (position (is_child c.args.i c.args.x.now) t)
    ∙ ap instance_within (sym (looked_once t c.args.i c.args.x.now inner (at_child (position (is_child c.args.i c.args.x.now) t)) (ap local_plain (sym c.in-Instance.is) ∙ c.requires.known) (λ f. refl)))

pub returns-in-Nothing : goal.returns-in-Nothing
returns-in-Nothing c =
    let t = map instance_plain c.args.self.now in
    ap instance_within (sym (looked_once t c.args.i c.args.x.now nothing none (ap local_plain (sym c.in-Nothing.is) ∙ c.requires.known) (λ f. refl)))
