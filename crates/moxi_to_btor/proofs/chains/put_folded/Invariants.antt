use Rattle.std.proofs.Common.{◌≡◌, drop}
use Rattle.moxi_lines.specs.TermLines.{folded_lines}
use Rattle.moxi_to_btor.specs.TermPutting.{CanFold}
use Rattle.moxi_to_btor.proofs.chains.put_folded.Given as goal

abbrev pub invariant-loop-p : goal.invariant-loop-p
invariant-loop-p l = record {
  told : folded_lines l.op (l.builder, l.chain) (drop l.p-index l.rest) ≡ folded_lines l.op (l.fn.builder, l.first) l.rest;
  can : CanFold l.op (l.builder, l.chain) (drop l.p-index l.rest);
}
