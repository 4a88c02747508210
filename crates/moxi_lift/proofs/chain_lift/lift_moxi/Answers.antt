use Rattle.std.proofs.Common.{List, subst, sym}
use Rattle.std.specs.Prelude.{IfErr}
use Rattle.std.proofs.lemmas.Result.{IfOk-weaker}
use Rattle.btor_tree.specs.declared.lines.Line.{Line}
use Rattle.btor_witness.specs.Printing.{IsWitness}
use Rattle.btor_witness.specs.Sizes.{sizes_of}
use Rattle.moxi_lift.specs.Ends.{IsLiftEnd}
use Rattle.moxi_lift.proofs.Answered.{chain_lifted, some_system}
use Rattle.moxi_lift.proofs.chain_lift.lift_moxi.Goals as goal

pub lift_lines-requires-clause-system : goal.lift_lines-requires-clause-system
lift_lines-requires-clause-system c =
    some_system c.args.chain.now c.system-system.result.now c.system-system.ensures c.scope-scope.result.now c.variables-variables.result.now c.nodes-nodes.result.now c.scope-scope.ensures c.variables-variables.ensures c.nodes-nodes.ensures c.are_laid_out.ensures

pub lift_lines-requires-clause-witness : goal.lift_lines-requires-clause-witness
lift_lines-requires-clause-witness c = subst (λ (ls : List Line). IsWitness (sizes_of ls) c.args.witness.now) (sym c.nodes-nodes.ensures) c.requires

pub returns-clause-accepted : goal.returns-clause-accepted
returns-clause-accepted c =
    IfOk-weaker c.lift_lines.result _ _ (λ t l. l.accepted)
    (chain_lifted c.args.chain.now c.system-system.result.now c.system-system.ensures c.scope-scope.result.now c.variables-variables.result.now c.nodes-nodes.result.now c.scope-scope.ensures c.variables-variables.ensures c.nodes-nodes.ensures c.are_laid_out.ensures c.args.witness.now c.lift_lines.result c.lift_lines.ensures.lifted)

pub returns-clause-exact : goal.returns-clause-exact
returns-clause-exact c =
    IfOk-weaker c.lift_lines.result _ _ (λ t l. l.exact)
    (chain_lifted c.args.chain.now c.system-system.result.now c.system-system.ensures c.scope-scope.result.now c.variables-variables.result.now c.nodes-nodes.result.now c.scope-scope.ensures c.variables-variables.ensures c.nodes-nodes.ensures c.are_laid_out.ensures c.args.witness.now c.lift_lines.result c.lift_lines.ensures.lifted)

pub returns-clause-frames : goal.returns-clause-frames
returns-clause-frames c =
    IfOk-weaker c.lift_lines.result _ _ (λ t l. l.frames)
    (chain_lifted c.args.chain.now c.system-system.result.now c.system-system.ensures c.scope-scope.result.now c.variables-variables.result.now c.nodes-nodes.result.now c.scope-scope.ensures c.variables-variables.ensures c.nodes-nodes.ensures c.are_laid_out.ensures c.args.witness.now c.lift_lines.result c.lift_lines.ensures.lifted)

pub returns-clause-some : goal.returns-clause-some
returns-clause-some c =
    IfOk-weaker c.lift_lines.result _ _ (λ t l. l.some)
    (chain_lifted c.args.chain.now c.system-system.result.now c.system-system.ensures c.scope-scope.result.now c.variables-variables.result.now c.nodes-nodes.result.now c.scope-scope.ensures c.variables-variables.ensures c.nodes-nodes.ensures c.are_laid_out.ensures c.args.witness.now c.lift_lines.result c.lift_lines.ensures.lifted)

pub returns-clause-fits : goal.returns-clause-fits
returns-clause-fits c =
    IfOk-weaker c.lift_lines.result _ _ (λ t l. l.fits)
    (chain_lifted c.args.chain.now c.system-system.result.now c.system-system.ensures c.scope-scope.result.now c.variables-variables.result.now c.nodes-nodes.result.now c.scope-scope.ensures c.variables-variables.ensures c.nodes-nodes.ensures c.are_laid_out.ensures c.args.witness.now c.lift_lines.result c.lift_lines.ensures.lifted)

pub returns-clause-meets : goal.returns-clause-meets
returns-clause-meets c =
    IfOk-weaker c.lift_lines.result _ _ (λ t l. l.meets)
    (chain_lifted c.args.chain.now c.system-system.result.now c.system-system.ensures c.scope-scope.result.now c.variables-variables.result.now c.nodes-nodes.result.now c.scope-scope.ensures c.variables-variables.ensures c.nodes-nodes.ensures c.are_laid_out.ensures c.args.witness.now c.lift_lines.result c.lift_lines.ensures.lifted)

pub returns-clause-refused : goal.returns-clause-refused
returns-clause-refused c = subst (λ (ls : List Line). IfErr c.lift_lines.result (IsLiftEnd ls c.args.witness.now)) c.nodes-nodes.ensures c.lift_lines.ensures.refused
