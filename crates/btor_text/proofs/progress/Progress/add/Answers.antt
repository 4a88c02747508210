use Rattle.std.proofs.Common.{◌≡◌, [], ◌∷◌, ◌++◌, rules, sym, ap, ◌∙◌, subst}
use Rattle.btor_tree.specs.Fits.{Fits, last_id}
use Rattle.btor_tree.proofs.Grows.{last_push}
use Rattle.btor_text.specs.Marks.{IsMarked, no_mark, noted}
use Rattle.btor_text.proofs.MarkLaws.{marked_push}
use Rattle.btor_text.proofs.progress.Progress.add.Goals as goal

pub invariant_of-result : goal.invariant_of-result
invariant_of-result c =
    let lines = c.self.inside.nodes in
    let line = c.args.line in
    let old = c.self.inside.marks.items in
    let is : c.add.new.self ≡ lines ++ line ∷ [] = c.in_ok-add.ensures.ok in
    let pushed : c.push.new.self.items ≡ old ++ no_mark ∷ [] = search rules in
    let marks : c.note.new.marks.items ≡ noted line.op line.args (old ++ no_mark ∷ []) = c.note.ensures ∙ ap (noted line.op line.args) pushed in
    let fits : Fits lines line = subst (λ b. Fits b line) (sym c.self.view_is) c.requires in
    let made = marked_push lines line old fits c.self.invariant.2 in (
      c.in_ok-add.ensures.well_formed,
      sym (ap last_id is ∙ last_push lines line),
      subst (λ ls. IsMarked ls c.note.new.marks.items) (sym is) (subst (IsMarked (lines ++ line ∷ [])) (sym marks) made),
    )
