use Rattle.std.proofs.Common.{Bool, List, [], sym, subst, arith}
use Rattle.std.proofs.lemmas.List.{with_items_is}
use Rattle.btor_judge.specs.Kept.{StatedPart, kept, Holds}
use Rattle.btor_judge.proofs.part.Part.clear.Goals as goal

pub returns-clause-none : goal.returns-clause-none
returns-clause-none c = λ stated h.
    let old = c.self.inside in
    let before = subst (λ (k : StatedPart). Holds k stated) (sym c.self.view_is) h in
    let handed = subst (λ (marks : List Bool). Holds (kept old.widths marks old.words) stated) (sym c.deref_mut.ensures.value) before in
    subst (λ (marks : List Bool). Holds (kept old.widths marks c.clear.new.words) []) (sym (with_items_is old.marks c.clear.new.marks (omega (arith, c.clear.ensures.marked, c.self.invariant.marked, old.marks.ok.0)))) (c.clear.ensures.none stated handed)
