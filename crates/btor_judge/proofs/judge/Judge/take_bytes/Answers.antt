use Rattle.std.proofs.Common.{◌≡◌, ◌<◌, ◌++◌, ◌∷◌, [], length, get_or, take, sym, ap, ◌∙◌, subst, append_assoc, arith}
use Rattle.std.proofs.Math.Seq.{take-length}
use Rattle.std.proofs.lemmas.List.{take_more}
use Rattle.btor_judge.specs.Judging.{Represents}
use Rattle.btor_judge.proofs.judge.Judge.take_bytes.Goals as goal

pub take-requires-clause-some : goal.take-requires-clause-some
take-requires-clause-some c = (c.requires.some.0 ++ take c.loop-b.b-index c.args.piece.now, c.loop-b.invariant.represents c.requires.some.0 c.requires.some.1)

pub loop-b-preserved : goal.loop-b-preserved
loop-b-preserved c =
    let piece = c.args.piece.now in
    let i = c.loop-b.b-index in
    let front = take i piece in
    let lt : i < length piece = omega (arith, c.loop-b-test.true) in
    record {
      represents = λ text h.
          let more = c.take.ensures.represents (text ++ front) (c.loop-b.invariant.represents text h) in
          subst (Represents c.args.nodes.now c.take.new.self) (append_assoc text front (get_or piece i 0 ∷ []) ∙ ap (λ x. text ++ x) (sym (take_more piece i 0 lt))) more;
      unended = c.take.ensures.unchanged ∙ c.loop-b.invariant.unended;
    }

pub returns-clause-unchanged : goal.returns-clause-unchanged
returns-clause-unchanged c = c.loop-b.invariant.unended ∙ sym c.requires.unended

pub returns-clause-represents : goal.returns-clause-represents
returns-clause-represents c = λ text h.
    let piece = c.args.piece.now in
    let i = c.loop-b.b-index in
    let all : i ≡ length piece = omega (arith, c.loop-b-test.false, c.loop-b.auto.b-index-end) in
    subst (λ x. Represents c.args.nodes.now c.loop-b.self (text ++ x)) (ap (λ n. take n piece) all ∙ take-length piece) (c.loop-b.invariant.represents text h)
