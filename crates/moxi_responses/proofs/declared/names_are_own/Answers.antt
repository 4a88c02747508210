use Rattle.std.proofs.Common.{◌≡◌, ◌≤◌, ◌^◌, true, [], length, subst}
use Rattle.name_maps.specs.Names.{are_fresh}
use Rattle.moxi_term_print.specs.Terms.{variable_names}
use Rattle.moxi_flat.specs.FlatSystem.{PlainFlatSystem}
use Rattle.moxi_responses.proofs.OwnNames.{few_queries, names_again, own_names}
use Rattle.moxi_responses.proofs.declared.names_are_own.Goals as goal

pub returns-clause-own : goal.returns-clause-own
returns-clause-own c =
    own_names c.args.script.now c.spelled_scripts_are_valid.ensures (subst (λ (f : PlainFlatSystem). are_fresh [] (variable_names f.variables) ≡ true) c.requires c.is_within_limits.ensures.names)
    (subst (λ (f : PlainFlatSystem). length f.queries ≤ 2 ^ 32) c.requires (few_queries c.args.system.now c.is_within_limits.ensures.size))

pub returns-clause-again : goal.returns-clause-again
returns-clause-again c =
    names_again c.args.script.now c.spelled_scripts_are_valid.ensures (subst (λ (f : PlainFlatSystem). are_fresh [] (variable_names f.variables) ≡ true) c.requires c.is_within_limits.ensures.names)
    c.printable_forms_give_spellable_names.ensures
