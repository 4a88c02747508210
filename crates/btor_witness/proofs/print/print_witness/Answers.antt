use Rattle.std.proofs.Common.{◌≡◌, ◌+◌, ◌<◌, ◌≤◌, List, [], ◌∷◌, ◌++◌, length, take, map, sym, ap, ◌∙◌, arith}
use Rattle.std.specs.Prelude.{codes}
use Rattle.std.proofs.lemmas.List.{append_assoc, map_more, length-map, length-take-le}
use Rattle.btor_witness.specs.declared.witness.Frame.{Frame}
use Rattle.btor_witness.specs.Sizes.{sizes_of}
use Rattle.btor_witness.specs.Printing.{rising_frame, number_line, frame_text, frames_text}
use Rattle.btor_witness.proofs.Tables.{frames_more}
use Rattle.btor_witness.proofs.print.print_witness.Goals as goal

pub loop-number-preserved : goal.loop-number-preserved
loop-number-preserved c =
    let sizes = sizes_of c.args.nodes.now in
    let i = c.loop-number.number in
    let frames = c.args.witness.now.frames in
    let f : Frame → Frame = rising_frame sizes in
    let head = number_line 98 c.args.witness.now.bad in
    let done : List Frame = map f (take i frames) in
    let lt : i < length frames = omega (arith, c.loop-number-test.true, c.len-number-end.ensures) in
    let le : i ≤ length frames = omega arith in
    let size : 0 + length done ≡ i = omega (arith, length-map (take i frames) f, length-take-le i frames le) in
    let more : map f (take (i + 1) frames) ≡ done ++ f c.at.result.now ∷ [] =
    map_more f frames i c.at.result.now lt ∙ ap (λ x. done ++ f x ∷ []) (sym c.at.ensures) in
    let texts : frames_text 0 (map f (take (i + 1) frames)) ≡ frames_text 0 done ++ frame_text i (f c.at.result.now) =
    ap (frames_text 0) more ∙ frames_more 0 done (f c.at.result.now) ∙ ap (λ n. frames_text 0 done ++ frame_text n (f c.at.result.now)) size in
    c.in_ok-put_rising_frame.ensures ∙ ap (λ x. x ++ frame_text i (f c.at.result.now)) c.loop-number.invariant
    ∙ append_assoc (codes "sat" ++ 10 ∷ []) (head ++ frames_text 0 done) (frame_text i (f c.at.result.now))
    ∙ ap (λ x. codes "sat" ++ 10 ∷ x) (append_assoc head (frames_text 0 done) (frame_text i (f c.at.result.now)))
    ∙ ap (λ x. codes "sat" ++ 10 ∷ (head ++ x)) (sym texts)
