use Rattle.moxi_to_btor.proofs.Giving.{ok_same}
use Rattle.moxi_to_btor.proofs.SystemSteps.{head_init, head_is, head_next, head_state}
use Rattle.moxi_to_btor.proofs.system.put_first.Goals as goal
use Rattle.moxi_to_btor.proofs.Stepping.{made}

pub put_free-requires : goal.put_free-requires
put_free-requires c = head_state c.args.builder.now c.requires

pub put_given-requires : goal.put_given-requires
put_given-requires c = head_init c.args.builder.now (made c.put_free.new.builder c.in_ok-put_free.field-0) c.requires c.in_ok-put_free.ensures

pub put_given-requires-2 : goal.put_given-requires-2
put_given-requires-2 c = head_next c.args.builder.now (made c.put_free.new.builder c.in_ok-put_free.field-0) c.put_given.new.builder c.requires c.in_ok-put_free.ensures c.in_ok-put_given.ensures

pub returns : goal.returns
returns c =
    ok_same c.put_given-2.result c.put_given-2.new.builder _ _ (head_is c.args.builder.now (made c.put_free.new.builder c.in_ok-put_free.field-0) c.put_given.new.builder c.requires c.in_ok-put_free.ensures c.in_ok-put_given.ensures) c.put_given-2.ensures
