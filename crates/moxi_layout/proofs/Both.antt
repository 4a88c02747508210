-- The frames of lines that lay a system out are the system's traces.
use Rattle.std.proofs.Common.{ℕ, ◌≤◌, length, arith}
use Rattle.btor_tree.specs.Frame.{ConstraintsHold, IsBad}
use Rattle.moxi_terms.specs.Tree.{sorts_of}
use Rattle.moxi_scripts.specs.Valid.{IsValidQuery}
use Rattle.moxi_flat.specs.FlatMeeting.{MeetsFlat}
use Rattle.moxi_layout.specs.LayoutLaws.{FramesAreTraces, TracesAreFrames, TracesHaveFrames, decoded_trace}
use Rattle.moxi_layout.proofs.Frames.{frames_meet, meet_frames}
use Rattle.moxi_layout.proofs.Free.{trace_path}
use Rattle.moxi_layout.proofs.Lists.{all_get}
use Rattle.moxi_layout.proofs.Rows.{get_last, last_get, path_rows, row_at, rows_all, rows_get}
use Rattle.moxi_layout.proofs.Same.{meets_same}
use Rattle.moxi_layout.proofs.Terms.{agree_back}
use Rattle.moxi_layout.proofs.Values.{read_inside, read_values}

pub frames_are_traces_law : FramesAreTraces
frames_are_traces_law f lines laid i k q h rows b =
    frames_meet f lines laid k (row_at rows) (path_rows lines rows k b.frames.0 b.sized) i q h
    (λ j l. rows_get (ConstraintsHold lines) rows j b.frames.1 (omega (arith, l, b.sized))) (last_get (λ row. IsBad lines row i) rows k b.sized b.bad)

pub traces_are_frames_law : TracesAreFrames
traces_are_frames_law f lines laid i k q h trace m =
    let p = trace_path f lines laid k trace m.behaves.suits in
    let rows = p.0 in
    let suits = λ (j : ℕ) (l : j ≤ k). m.behaves.suits j (omega (arith, l)) in
    let agree = λ (j : ℕ) (l : j ≤ k). read_values f lines laid (row_at rows j) (trace j) (suits j l) (p.1.reads j l) in
    let whole = all_get (IsValidQuery (length f.assumptions) (length f.currents) (length f.reachables)) f.queries i q laid.sorted.queries h in
    let same : MeetsFlat f q k (decoded_trace f lines rows) = meets_same f laid.sorted k trace (decoded_trace f lines rows) (λ j l. agree_back (sorts_of f.variables) (decoded_trace f lines rows j) (trace j) (agree j l)) q whole m in
    let x = meet_frames f lines laid k (row_at rows) (path_rows lines rows k p.1.is_path p.1.sized) i q h (λ j l. read_inside f lines laid (row_at rows j) (trace j) (suits j l) (p.1.reads j l)) same in (
      rows,
      record {
        frames = record {
          sized = p.1.sized;
          frames = (p.1.is_path, rows_all (ConstraintsHold lines) rows (λ j l. x.0 j (omega (arith, l, p.1.sized))));
          bad = get_last (λ row. IsBad lines row i) rows k p.1.sized x.1;
        };
        decoded = λ j v s l g. (agree j l).each v s g;
      },
    )

pub traces_have_frames_law : TracesHaveFrames
traces_have_frames_law f lines laid i k q h = (
  λ t. let x = traces_are_frames_law f lines laid i k q h t.0 t.1 in (x.0, x.1.frames),
  λ r. (decoded_trace f lines r.0, frames_are_traces_law f lines laid i k q h r.0 r.1),
)
