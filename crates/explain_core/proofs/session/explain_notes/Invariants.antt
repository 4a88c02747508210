use Rattle.std.proofs.Common.{◌≡◌, drop, map}
use Rattle.std.specs.Prelude.{◌||◌}
use Rattle.explain_core.specs.Explaining.{explained_lines, file_of, is_explained}
use Rattle.explain_core.proofs.Noting.{Wrote}
use Rattle.explain_core.proofs.session.explain_notes.Given as goal

abbrev pub invariant-loop-i : goal.invariant-loop-i
invariant-loop-i g l = record {
  wrote : Wrote (g.K.Sink.taken l.initial.out) (g.K.Sink.taken l.out) (explained_lines (file_of l.model) (file_of l.second) (drop l.i (map (λ note. note.now) l.notes))) (explained_lines (file_of l.model) (file_of l.second) (map (λ note. note.now) l.notes));
  steady : g.K.Sink.faults l.out ≡ g.K.Sink.faults l.initial.out;
  explained : (l.explained || is_explained (drop l.i (map (λ note. note.now) l.notes))) ≡ is_explained (map (λ note. note.now) l.notes);
}
