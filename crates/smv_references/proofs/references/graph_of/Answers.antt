use Rattle.std.proofs.Common.{map, ap, ◌∙◌}
use Rattle.std.proofs.lemmas.List.{take_all}
use Rattle.smv_meaning.specs.Bodies.{number_in, references_of}
use Rattle.smv_instances.specs.View.{instance_plain}
use Rattle.smv_references.specs.View.{key_of}
use Rattle.smv_references.specs.laws.NumberLemmas.{keys_are}
use Rattle.smv_references.proofs.references.graph_of.Goals as goal

pub row_of-requires : goal.row_of-requires
row_of-requires c = λ i x. c.in_ok-numbers.ensures i x ∙ ap (λ ks. number_in ks (i, x)) (keys_are c.args.bodies.now (map instance_plain c.args.table.now) c.requires)

pub returns : goal.returns
returns c =
    let t = map instance_plain c.args.table.now in
    c.loop-body.invariant ∙ ap (λ fs. map (references_of t) (map key_of fs)) (take_all c.loop-body.body-index c.args.bodies.now c.loop-body-test.false) ∙ ap (map (references_of t)) (keys_are c.args.bodies.now t c.requires)
