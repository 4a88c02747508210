use Rattle.moxi_responses.proofs.ReadAgain.{can_be_read_back, names_differ}
use Rattle.moxi_responses.proofs.laws.responses_are_read_back.Goals as goal

pub returns : goal.returns
returns c s i accepted =
    can_be_read_back s (c.spelled_scripts_are_valid.ensures i.forms i.end s i.spelled) (c.printable_forms_give_spellable_names.ensures i.forms i.end s i.printable i.spelled) (names_differ s accepted)
