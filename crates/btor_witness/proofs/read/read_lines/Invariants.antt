use Rattle.std.proofs.Common.{◌≡◌, ℕ, ◌≤◌, ◌+◌, length}
use Rattle.text_core.specs.declared.place.Kind.{Kind}
use Rattle.btor_tree.specs.Parts.{raw_lines}
use Rattle.btor_tree.proofs.Places.{IsBehind}
use Rattle.btor_witness.specs.declared.witness.Witness.{Witness}
use Rattle.btor_witness.specs.Sizes.{sizes_of}
use Rattle.btor_witness.specs.Texts.{Reads, Refuses, ReadsText, RefusesText}
use Rattle.btor_witness.proofs.read.read_lines.Given as goal

abbrev pub invariant-lines : goal.invariant-lines
invariant-lines l = record {
  reads : (w : Witness) → Reads (sizes_of l.nodes) l.reader.reading (raw_lines l.rest) w → ReadsText (sizes_of l.nodes) l.text w;
  refuses : (k : Kind) (at : ℕ) → Refuses l.number (sizes_of l.nodes) l.reader.reading (raw_lines l.rest) k at → RefusesText (sizes_of l.nodes) l.text k at;
  sizes : l.reader.sizes ≡ sizes_of l.nodes;
  starts : IsBehind l.number l.text l.rest;
  many : l.number + length l.rest ≤ length l.text;
}

abbrev pub decreases-lines : goal.decreases-lines
decreases-lines l = length l.rest
