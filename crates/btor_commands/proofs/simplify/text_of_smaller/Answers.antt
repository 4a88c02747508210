use Rattle.btor_commands.proofs.Smaller.{printed_smaller}
use Rattle.btor_commands.proofs.simplify.text_of_smaller.Goals as goal

pub returns : goal.returns
returns c = printed_smaller c.print_btor.result c.args.nodes c.in_ok-smaller.smaller c.in_ok-smaller.ensures.simplified c.print_btor.ensures.printed
