use Rattle.std.proofs.Common.{ℕ, ◌≤◌, ◌+◌, ◌-◌, List, length}
use Rattle.btor_tree.specs.declared.lines.Line.{Line}
use Rattle.btor_tree.specs.Parts.{raw_lines}
use Rattle.btor_tree.specs.Resolving.{Fault}
use Rattle.btor_tree.specs.Texts.{Reads, Refuses, SpellsLines, RefusesText}
use Rattle.btor_tree.proofs.Places.{IsBehind}
use Rattle.btor_text.proofs.read.nodes_of.Given as goal

abbrev pub invariant-lines : goal.invariant-lines
invariant-lines l = record {
  reads : (all : List Line) → Reads l.progress (raw_lines l.rest) all → SpellsLines l.text all;
  refuses : (k : Fault) (at : ℕ) → Refuses l.number l.progress (raw_lines l.rest) k at → RefusesText l.text k at;
  starts : IsBehind (l.number - 1) l.text l.rest;
  many : l.number + length l.rest ≤ length l.text + 1;
  least : 1 ≤ l.number;
}

abbrev pub decreases-lines : goal.decreases-lines
decreases-lines l = length l.rest
