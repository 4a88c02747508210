use Rattle.std.proofs.Common.{◌≡◌, drop}
use Rattle.moxi_terms.specs.Operators.{folded}
use Rattle.moxi_terms.specs.Applied.{AreWide}
use Rattle.moxi_terms.proofs.operate.folded.Given as goal

abbrev pub invariant-loop-v : goal.invariant-loop-v
invariant-loop-v l = record {
  told : folded l.op l.word (drop l.v-index l.rest) ≡ folded l.op l.fn.first l.rest;
  wide : AreWide l.op l.word (drop l.v-index l.rest);
}
