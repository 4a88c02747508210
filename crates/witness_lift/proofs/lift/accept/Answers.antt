use Rattle.std.proofs.Common.{List, subst, sym}
use Rattle.std.specs.Prelude.{IfErr}
use Rattle.std.proofs.lemmas.Result.{IfOk-weaker}
use Rattle.btor_tree.specs.declared.lines.Line.{Line}
use Rattle.btor_witness.specs.Printing.{IsWitness}
use Rattle.btor_witness.specs.Sizes.{sizes_of}
use Rattle.moxi_lift.specs.Ends.{IsLiftEnd}
use Rattle.witness_lift.proofs.Lifts.{inputs_answered, lifted_answered, some_system, sorts_answered}
use Rattle.witness_lift.proofs.lift.accept.Goals as goal

pub accept_lines-requires-clause-system : goal.accept_lines-requires-clause-system
accept_lines-requires-clause-system c =
    some_system c.args.chain.now c.scope-scope.result.now c.variables-variables.result.now c.nodes-nodes.result.now c.scope-scope.ensures c.variables-variables.ensures c.nodes-nodes.ensures c.is_laid_out.ensures

pub accept_lines-requires-clause-witness : goal.accept_lines-requires-clause-witness
accept_lines-requires-clause-witness c = subst (λ (ls : List Line). IsWitness (sizes_of ls) c.args.witness.now) (sym c.nodes-nodes.ensures) c.requires

pub returns-clause-lifted : goal.returns-clause-lifted
returns-clause-lifted c =
    lifted_answered c.args.chain.now c.scope-scope.result.now c.variables-variables.result.now c.nodes-nodes.result.now c.scope-scope.ensures c.variables-variables.ensures c.nodes-nodes.ensures c.is_laid_out.ensures
    c.args.witness.now c.accept_lines.result c.accept_lines.ensures.lifted

pub returns-clause-sorts : goal.returns-clause-sorts
returns-clause-sorts c =
    IfOk-weaker c.accept_lines.result _ _ (λ x h. sorts_answered c.args.chain.now c.scope-scope.result.now c.variables-variables.result.now c.scope-scope.ensures c.variables-variables.ensures h) c.accept_lines.ensures.sorts

pub returns-clause-inputs : goal.returns-clause-inputs
returns-clause-inputs c =
    IfOk-weaker c.accept_lines.result _ _ (λ x h. inputs_answered c.args.chain.now c.variables-variables.result.now c.variables-variables.ensures c.args.witness.now h) c.accept_lines.ensures.inputs

pub returns-clause-refused : goal.returns-clause-refused
returns-clause-refused c = subst (λ (ls : List Line). IfErr c.accept_lines.result (IsLiftEnd ls c.args.witness.now)) c.nodes-nodes.ensures c.accept_lines.ensures.refused
