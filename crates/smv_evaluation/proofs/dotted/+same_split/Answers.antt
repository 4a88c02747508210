use Rattle.std.proofs.Common.{rules, ◌≡◌, ◌∷◌, length}
use Rattle.smv_evaluation.proofs.DottedLemmas.{is_empty, dot_ends}
use Rattle.smv_evaluation.proofs.dotted.+same_split.Goals as goal

pub returns-then-a-eq46 : goal.returns-then-a-eq46
returns-then-a-eq46 t c =
    let first : c.args.p.now ≡ c.in-Some.a.now ∷ c.in-Some.more.now = search rules in
    let none : length c.args.q.now ≡ 0 = search rules in
    dot_ends c.follows-then-a-eq46.result c.in-Some.a.now c.in-Some.more.now c.args.x.now c.args.y.now c.args.p.now c.args.q.now first (is_empty c.args.q.now none) (search rules) c.follows-then-a-eq46.ensures
