use Rattle.std.proofs.Common.{◌≡◌, ◌+◌, [], ◌∷◌, ◌++◌, length, sym, ap, ◌∙◌, subst}
use Rattle.std.proofs.lemmas.List.{length_push}
use Rattle.btor_tree.specs.declared.lines.Line.{Line}
use Rattle.btor_tree.specs.Fits.{sort_width}
use Rattle.btor_tree.specs.Held.{IsNumbered, HasSorts, noted}
use Rattle.btor_tree.proofs.Grows.{last_push}
use Rattle.btor_tree.proofs.Sorts.{has_sorts_push}
use Rattle.btor_tree.proofs.Widths.{op_small}
use Rattle.btor_tree.proofs.numbered_lines.NumberedLines.push.Goals as goal

pub invariant_of-self-2 : goal.invariant_of-self-2
invariant_of-self-2 c =
    let lines = c.self.inside.nodes in
    let line : Line = record { id = c.len-place.result + 1; op = c.args.op; sort = c.args.sort; args = c.args.args; symbol = c.args.symbol } in
    let is : c.add.new.self ≡ lines ++ line ∷ [] = c.in_ok-add.ensures.ok in
    let small = op_small c.args.self.now c.args.sort c.args.op c.args.args c.requires.fits.sorts in
    let numbered : IsNumbered (lines ++ line ∷ []) = last_push lines line ∙ ap (λ n. n + 1) c.len-place.ensures.value ∙ sym (length_push lines line) in
    let sorts : c.note_sort.new.sorts ≡ noted c.self.inside.sorts (sort_width c.args.op) (length lines) =
    c.note_sort.ensures ∙ ap (λ w. noted c.self.inside.sorts w c.len-place.result) c.sort_width-width.ensures ∙ ap (noted c.self.inside.sorts (sort_width c.args.op)) c.len-place.ensures.value in
    let has = has_sorts_push lines line c.self.inside.sorts small c.self.invariant.2 in (
      c.in_ok-add.ensures.well_formed,
      subst IsNumbered (sym is) numbered,
      subst (λ ls. HasSorts ls c.note_sort.new.sorts) (sym is) (subst (HasSorts (lines ++ line ∷ [])) (sym sorts) has),
    )
