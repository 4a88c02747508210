use Rattle.std.proofs.Common.{◌≡◌, ◌<◌, ◌+◌, [], length, drop, get_or, map, sym, ap, ◌∙◌}
use Rattle.std.proofs.lemmas.List.{length-map}
use Rattle.std.specs.Prelude.{is_some, ◌||◌}
use Rattle.explain_core.specs.Notes.{note_of}
use Rattle.explain_core.specs.Explaining.{file_of, is_explained}
use Rattle.explain_core.proofs.Noting.{explained_at, flag_off, flag_on, line_fails, line_more}
use Rattle.explain_core.proofs.session.explain_notes.Goals.{else-branch, then-branch}
use Rattle.explain_core.proofs.session.explain_notes.Goals as goal

pub returns-in_err-explain_at-clause-written : goal.returns-in_err-explain_at-clause-written
returns-in_err-explain_at-clause-written g c =
    let within : c.loop-i.i < length (map (λ note. note.now) c.args.notes.now) = rw length-map c.loop-i-test.true in
    line_fails c.from_residual.result (file_of c.args.model.now) (file_of c.args.second.now) (map (λ note. note.now) c.args.notes.now) c.loop-i.i _ _ _ _ _ _ within c.from_residual.ensures.0
    c.loop-i.invariant.wrote c.loop-i.invariant.steady c.in_err-explain_at.ensures.written

pub loop-i-preserved : goal.loop-i-preserved
loop-i-preserved g c =
    let within : c.loop-i.i < length (map (λ note. note.now) c.args.notes.now) = rw length-map c.loop-i-test.true in
    record {
      wrote = line_more (file_of c.args.model.now) (file_of c.args.second.now) (map (λ note. note.now) c.args.notes.now) c.loop-i.i _ _ _ within c.loop-i.invariant.wrote c.in_ok-explain_at.ensures.written.0;
      steady = c.in_ok-explain_at.ensures.written.1 ∙ c.loop-i.invariant.steady;
      explained =
          let before : (c.loop-i.explained || (is_some (note_of (get_or (map (λ note. note.now) c.args.notes.now) c.loop-i.i [])) || is_explained (drop (c.loop-i.i + 1) (map (λ note. note.now) c.args.notes.now))))
          ≡ is_explained (map (λ note. note.now) c.args.notes.now) =
          ap (λ v. c.loop-i.explained || v) (sym (explained_at (map (λ note. note.now) c.args.notes.now) c.loop-i.i within)) ∙ c.loop-i.invariant.explained in
          elim c.if-branch.branch [
            | then-branch w ↦ flag_on c.loop-i.explained c.if-branch.explained _ _ _ (sym c.in_ok-explain_at.ensures.explained ∙ w.if-branch.true) w.explained-is before
            | else-branch w ↦ flag_off c.loop-i.explained c.if-branch.explained _ _ _ (sym c.in_ok-explain_at.ensures.explained ∙ w.if-branch.false) w.explained-is before
          ];
    }
