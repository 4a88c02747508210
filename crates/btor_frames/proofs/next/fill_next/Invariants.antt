use Rattle.std.proofs.Common.{◌≡◌, ◌≤◌, ℕ, true, length, take, Some}
use Rattle.std.specs.Prelude.{slice_get}
use Rattle.btor_tree.specs.Frame.{nothing, word_at}
use Rattle.btor_tree.proofs.Rows.{row_upto}
use Rattle.btor_frames.specs.declared.sources.Source.TheVariants.{NoWord}
use Rattle.btor_frames.proofs.Loop.{giving}
use Rattle.btor_frames.proofs.next.fill_next.Given as goal

abbrev pub invariant-loop-i : goal.invariant-loop-i
invariant-loop-i l = record {
  long : length l.spare ≡ length l.nodes;
  filled : take l.i l.spare ≡ row_upto l.nodes (giving true l.nodes l.last l.supplied.inputs.now l.supplied.free.now) l.i;
  blank : (k : ℕ) → l.i ≤ k → slice_get l.tables.sources k ≡ Some NoWord → word_at l.spare k ≡ nothing;
}
