use Rattle.std.proofs.Common.{◌≡◌, refl, sym, ap, subst, ◌∙◌, length, [], ◌∷◌, ◌++◌}
use Rattle.std.specs.Prelude.{slice_get, Some}
use Rattle.std.proofs.lemmas.Option.{slice_get_read}
use Rattle.std.specs.BTreeMap.{is_at}
use Rattle.std.specs.Map.{lookup}
use Rattle.btor_simplify.specs.Contents.{content_cmp}
use Rattle.btor_simplify.specs.Fates.{AreFates, HasContents, IsFate, KeepsWidth}
use Rattle.btor_simplify.proofs.Pushes.{fates_push, no_fates, no_contents, one_longer}
use Rattle.btor_simplify.proofs.fates.fates_of.Goals as goal

pub loop-line-init : goal.loop-line-init
loop-line-init c =
    let none = c.new-fates.ensures.items in
    record {
      known = subst (AreFates c.args.nodes.now) (sym none) (no_fates c.args.nodes.now);
      has = subst (λ fs. HasContents c.args.nodes.now fs c.new-contents.result) (sym none) (no_contents c.args.nodes.now c.new-contents.result (λ k. ap (lookup (is_at (content_cmp k))) c.new-contents.ensures.empty));
      long = ap length none;
    }

pub fate_of-requires-clause-next : goal.fate_of-requires-clause-next
fate_of-requires-clause-next c =
    let lines = c.args.nodes.now in
    let l = c.line-item.result in
    let v = c.deref.ensures.value in
    let here : slice_get c.as_slice-line-items.result.now c.loop-line.line-index ≡ Some l = slice_get_read c.as_slice-line-items.result.now _ c.loop-line.line-index l refl c.loop-line-test.true c.line-item.is in
    let at : slice_get lines (length c.loop-line.fates.items) ≡ Some l = ap (slice_get lines) c.loop-line.invariant.long ∙ ap (λ xs. slice_get xs c.loop-line.line-index) (sym c.as_slice-line-items.ensures) ∙ here in
    record {
      well_formed = c.are_well_formed.ensures;
      known = subst (AreFates lines) (sym v) c.loop-line.invariant.known;
      at = ap (λ fs. slice_get lines (length fs)) v ∙ at;
    }

pub loop-line-preserved : goal.loop-line-preserved
loop-line-preserved c =
    let lines = c.args.nodes.now in
    let fates = c.loop-line.fates.items in
    let l = c.line-item.result in
    let f = c.in_ok-fate.fate in
    let v = c.deref.ensures.value in
    let more = c.in_ok-push.ensures.items in
    let here : slice_get c.as_slice-line-items.result.now c.loop-line.line-index ≡ Some l = slice_get_read c.as_slice-line-items.result.now _ c.loop-line.line-index l refl c.loop-line-test.true c.line-item.is in
    let at : slice_get lines (length fates) ≡ Some l = ap (slice_get lines) c.loop-line.invariant.long ∙ ap (λ xs. slice_get xs c.loop-line.line-index) (sym c.as_slice-line-items.ensures) ∙ here in
    let fate = subst (λ fs. IsFate lines fs l f) v c.in_ok-fate.ensures.fate in
    let keeps = subst (λ fs. KeepsWidth lines fs (length fs) f) v c.in_ok-fate.ensures.width in
    let has = subst (λ fs. HasContents lines (fs ++ f ∷ []) c.fate_of.new.contents) v c.in_ok-fate.ensures.has in
    record {
      known = subst (AreFates lines) (sym more) (fates_push lines fates f l c.loop-line.invariant.known at fate keeps);
      has = subst (λ fs. HasContents lines fs c.fate_of.new.contents) (sym more) has;
      long = ap length more ∙ one_longer fates f c.loop-line.line-index c.loop-line.invariant.long;
    }
