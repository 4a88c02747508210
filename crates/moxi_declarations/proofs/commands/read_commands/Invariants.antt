use Rattle.std.proofs.Common.{◌≡◌, ◌<◌, ◌+◌, ◌^◌, drop}
use Rattle.moxi_sexpr.specs.Tree.{all_nodes, plain_forms}
use Rattle.moxi_scripts.specs.Collecting.{also}
use Rattle.moxi_scripts.specs.Commands.{commands_failures, reading_after}
use Rattle.moxi_declarations.specs.Sizes.{reading_size}
use Rattle.moxi_declarations.specs.Views.{plain_draft}
use Rattle.moxi_declarations.proofs.commands.read_commands.Given as goal

abbrev pub invariant-loop-form : goal.invariant-loop-form
invariant-loop-form l = record {
  few : reading_size (plain_draft l.draft) + all_nodes (plain_forms (drop l.form-index l.forms)) < 2 ^ 32;
  draft : reading_after (plain_draft l.draft) (plain_forms (drop l.form-index l.forms)) ≡ reading_after (plain_draft l.fn.draft) (plain_forms l.forms);
  finds : also l.found (commands_failures (plain_draft l.draft) (plain_forms (drop l.form-index l.forms))) ≡ also l.fn.found (commands_failures (plain_draft l.fn.draft) (plain_forms l.forms));
}
