use Rattle.std.proofs.Common.{◌≡◌, subst}
use Rattle.std.specs.Prelude.{IfOk}
use Rattle.moxi_flat.specs.FlatSystem.{PlainFlatSystem}
use Rattle.moxi_lines.specs.Lines.{lines_of}
use Rattle.witness_lift.specs.declared.system_lines.OwnLines.{OwnLines}
use Rattle.witness_lift.proofs.system_lines.single_lines.Goals as goal

pub returns-clause-variables : goal.returns-clause-variables
returns-clause-variables c = subst (λ (f : PlainFlatSystem). IfOk c.own_lines.result (λ (own : OwnLines). own.variables ≡ f.variables)) c.in_ok-flat.ensures c.own_lines.ensures.variables

pub returns-clause-nodes : goal.returns-clause-nodes
returns-clause-nodes c = subst (λ (f : PlainFlatSystem). IfOk c.own_lines.result (λ (own : OwnLines). own.nodes ≡ lines_of f)) c.in_ok-flat.ensures c.own_lines.ensures.nodes
