use Rattle.std.proofs.Common.{◌≡◌, ◌++◌, ◌∷◌, [], refl, sym, ap, ◌∙◌, subst, append_assoc, append-nil}
use Rattle.std.proofs.lemmas.List.{nil_from_length}
use Rattle.btor_judge.specs.Judging.{Represents}
use Rattle.btor_judge.proofs.Fronts.{front_is_line, front_on, front_last}
use Rattle.btor_judge.proofs.judge.Judge.feed.Goals as goal

pub lines-init : goal.lines-init
lines-init c = record {
  represents = λ text h. ([], refl, subst (Represents c.args.nodes.now c.args.self.now) (sym (append-nil text)) h);
  unended = c.if-self.false;
}

pub take_bytes-requires-clause-some : goal.take_bytes-requires-clause-some
take_bytes-requires-clause-some c = let s = c.lines.invariant.represents c.requires.0 c.requires.1 in (c.requires.0 ++ s.0, s.2)

pub take_line-requires-clause-some : goal.take_line-requires-clause-some
take_line-requires-clause-some c = let s = c.lines.invariant.represents c.requires.0 c.requires.1 in (c.requires.0 ++ s.0, s.2)

pub take_line-requires-clause-line : goal.take_line-requires-clause-line
take_line-requires-clause-line c = front_is_line c.lines.rest.now c.split_at.result.0.now c.line_length.result c.line_length.ensures.value c.split_at.ensures.front

pub returns-in_default-clause-represents : goal.returns-in_default-clause-represents
returns-in_default-clause-represents c = λ text e h.
    let s = c.lines.invariant.represents text h in
    let raw = c.split_at.result.0.now in
    let back = c.split_at.result.1.now in
    let none : back ≡ [] = nil_from_length back c.in_default.ensures.cases in
    let all : s.0 ++ raw ≡ c.args.piece.now = front_last c.args.piece.now s.0 c.lines.rest.now raw back c.line_length.result s.1 c.split_at.ensures.front c.split_at.ensures.back none in
    subst (Represents c.args.nodes.now c.take_bytes.new.self) (append_assoc text s.0 raw ∙ ap (λ x. text ++ x) all) (c.take_bytes.ensures.represents (text ++ s.0) s.2)

pub returns-in_default-clause-some : goal.returns-in_default-clause-some
returns-in_default-clause-some c =
    let s = c.lines.invariant.represents c.requires.0 c.requires.1 in
    ((c.requires.0 ++ s.0) ++ c.split_at.result.0.now, c.take_bytes.ensures.represents (c.requires.0 ++ s.0) s.2)

pub lines-preserved : goal.lines-preserved
lines-preserved c =
    let raw = c.split_at.result.0.now in
    let back = c.split_at.result.1.now in
    let last = c.in-Some.last.now in
    let more : back ≡ c.in-Some.field-0-0.now ∷ last = c.in-Some.ensures.cases.0 in
    record {
      represents = λ text h.
          let s = c.lines.invariant.represents text h in (
            s.0 ++ (raw ++ 10 ∷ []),
            front_on c.args.piece.now s.0 c.lines.rest.now raw back last c.line_length.result c.in-Some.field-0-0.now s.1 c.line_length.ensures.value c.split_at.ensures.front c.split_at.ensures.back more,
            subst (Represents c.args.nodes.now c.take_line.new.self) (append_assoc text s.0 (raw ++ 10 ∷ [])) (c.take_line.ensures.represents (text ++ s.0) s.2),
          );
      unended = c.take_line.ensures.unchanged ∙ c.lines.invariant.unended;
    }
