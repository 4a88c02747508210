use Rattle.std.proofs.Common.{◌≡◌, drop}
use Rattle.btor_tree.specs.Bytes.{all_of_base}
use Rattle.btor_text.proofs.word.are_digits.Given as goal

abbrev pub invariant-loop-b : goal.invariant-loop-b
invariant-loop-b l = all_of_base l.base (drop l.b-index l.text) ≡ all_of_base l.base l.text
