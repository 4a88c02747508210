use Rattle.std.proofs.Common.{◌≡◌, Some, None, cond, eqb, get_or, length, refl, sym, ap, ◌∙◌}
use Rattle.std.specs.Prelude.{slice_get}
use Rattle.std.specs.BTreeMap.{get}
use Rattle.std.proofs.lemmas.Option.{slice_get_read}
use Rattle.std.proofs.lemmas.Result.{IfOk-weaker}
use Rattle.btor_tree.specs.declared.line_places.LinePlaces.{LinePlaces}
use Rattle.btor_tree.specs.LineKeys.{slot_of, key_cmp, line_key}
use Rattle.btor_tree.specs.Sharing.{standing}
use Rattle.btor_tree.proofs.TwoLevels.{none_found, slot_found, other_found, set_has, map_both}
use Rattle.btor_tree.proofs.line_places.enter.Goals as goal

pub returns-in_ok-take_slot-in-None-clause-found : goal.returns-in_ok-take_slot-in-None-clause-found
returns-in_ok-take_slot-in-None-clause-found c =
    let a = c.args in
    let first : get_or a.places.now.slots.items (slot_of (line_key a.line.now)) None ≡ None =
    ap (λ i. get_or a.places.now.slots.items i None) (sym c.slot_of-slot.ensures.value) ∙ ap (λ xs. get_or xs c.slot_of-slot.result None) (sym c.deref.ensures.value) ∙ sym c.at_slot.ensures ∙ c.in-None.is in
    none_found a.lines.now a.line.now a.places.now c.requires.has c.requires.shared c.requires.short first

pub returns-in_ok-take_slot-in-None-clause-entered : goal.returns-in_ok-take_slot-in-None-clause-entered
returns-in_ok-take_slot-in-None-clause-entered c =
    let a = c.args in
    let new : LinePlaces = record { slots = c.take_slot.new.slots; others = a.places.now.others } in
    let first : get_or a.places.now.slots.items (slot_of (line_key a.line.now)) None ≡ None =
    ap (λ i. get_or a.places.now.slots.items i None) (sym c.slot_of-slot.ensures.value) ∙ ap (λ xs. get_or xs c.slot_of-slot.result None) (sym c.deref.ensures.value) ∙ sym c.at_slot.ensures ∙ c.in-None.is in
    set_has a.lines.now a.line.now a.places.now new c.requires.has
    (λ i. c.in_ok-take_slot-in-None.ensures.ok i ∙ ap (λ f. cond (eqb i f) (Some (length a.lines.now)) (get_or a.places.now.slots.items i None)) c.slot_of-slot.ensures.value) refl first

pub returns-then-is_equal_line-clause-found : goal.returns-then-is_equal_line-clause-found
returns-then-is_equal_line-clause-found c =
    let a = c.args in
    let first : get_or a.places.now.slots.items (slot_of (line_key a.line.now)) None ≡ Some c.in-Some.there =
    ap (λ i. get_or a.places.now.slots.items i None) (sym c.slot_of-slot.ensures.value) ∙ ap (λ xs. get_or xs c.slot_of-slot.result None) (sym c.deref.ensures.value) ∙ sym c.at_slot.ensures ∙ c.in-Some.is in
    let at : slice_get a.lines.now c.in-Some.there ≡ Some c.index-lines-there.result = slice_get_read a.lines.now (length a.lines.now) c.in-Some.there c.index-lines-there.result refl (c.requires.has.there _ _ first) c.index-lines-there.is in
    slot_found a.lines.now a.line.now a.places.now c.requires.has c.requires.shared c.requires.short c.in-Some.there c.index-lines-there.result first at (sym c.is_equal_line.ensures ∙ c.if-is_equal_line.true)

pub returns-else-is_equal_line-clause-found : goal.returns-else-is_equal_line-clause-found
returns-else-is_equal_line-clause-found c =
    let a = c.args in
    let first : get_or a.places.now.slots.items (slot_of (line_key a.line.now)) None ≡ Some c.in-Some.there =
    ap (λ i. get_or a.places.now.slots.items i None) (sym c.slot_of-slot.ensures.value) ∙ ap (λ xs. get_or xs c.slot_of-slot.result None) (sym c.deref.ensures.value) ∙ sym c.at_slot.ensures ∙ c.in-Some.is in
    let at : slice_get a.lines.now c.in-Some.there ≡ Some c.index-lines-there.result = slice_get_read a.lines.now (length a.lines.now) c.in-Some.there c.index-lines-there.result refl (c.requires.has.there _ _ first) c.index-lines-there.is in
    let other : get key_cmp a.places.now.others (line_key a.line.now) ≡ standing a.lines.now a.line.now.op a.line.now.sort a.line.now.args =
    other_found a.lines.now a.line.now a.places.now c.requires.has c.requires.shared c.requires.short c.in-Some.there c.index-lines-there.result first at (sym c.is_equal_line.ensures ∙ c.if-is_equal_line.false) in
    IfOk-weaker c.enter_key.result _ _ (λ found e. e ∙ ap (get key_cmp a.places.now.others) c.line_key.ensures ∙ other) c.enter_key.ensures.found

pub returns-else-is_equal_line-clause-entered : goal.returns-else-is_equal_line-clause-entered
returns-else-is_equal_line-clause-entered c =
    let a = c.args in
    let new : LinePlaces = record { slots = a.places.now.slots; others = c.enter_key.new.places } in
    let first : get_or a.places.now.slots.items (slot_of (line_key a.line.now)) None ≡ Some c.in-Some.there =
    ap (λ i. get_or a.places.now.slots.items i None) (sym c.slot_of-slot.ensures.value) ∙ ap (λ xs. get_or xs c.slot_of-slot.result None) (sym c.deref.ensures.value) ∙ sym c.at_slot.ensures ∙ c.in-Some.is in
    map_both a.lines.now a.line.now a.places.now new c.requires.has refl c.in-Some.there first c.enter_key.result c.line_key.result c.requires.shared c.requires.short c.line_key.ensures (returns-else-is_equal_line-clause-found c) c.enter_key.ensures.entered
