use Rattle.std.proofs.Common.{◌≡◌, ◌<◌, ◌≤◌, ◌+◌, ◌++◌, ◌∷◌, length, map, sym, ap, ◌∙◌, subst, arith}
use Rattle.std.specs.Prelude.{slice_index_or, sum_by}
use Rattle.std.specs.List.{AllByRecursion}
use Rattle.std.proofs.lemmas.List.{length-map}
use Rattle.moxi_scripts.specs.declared.script.Subsystem.{Subsystem}
use Rattle.moxi_scripts.specs.Script.{plain_system, system_at, variables_in}
use Rattle.moxi_flat.specs.Systems.{nesting_upto}
use Rattle.moxi_flat.specs.FlatSystem.{count_upto, part_of, parts_each, parts_upto}
use Rattle.moxi_flat.specs.Instantiating.{HasActuals}
use Rattle.moxi_instantiate.specs.Copying.{number_in}
use Rattle.moxi_instantiate.specs.Instances.{count_inside}
use Rattle.moxi_instantiate.specs.PlainParts.{plain_part}
use Rattle.moxi_instantiate.proofs.Agreeing.{inside_parts}
use Rattle.moxi_instantiate.proofs.Filling.{system_read}
use Rattle.moxi_instantiate.proofs.Held.{ranked_held, sub_at}
use Rattle.moxi_instantiate.proofs.Instanced.{on_ok, parts_end, room_at, sums_end}
use Rattle.moxi_flat.proofs.Alike.{renumbers_consistently_law}
use Rattle.moxi_instantiate.proofs.instances.+parts.Goals as goal

pub add_inside-returns-clause-parts : goal.add_inside-returns-clause-parts
add_inside-returns-clause-parts t c =
    let ss = map plain_system c.args.systems.now in
    let i = c.args.subsystem.now.system in
    let inside : c.args.subsystem.now.system < length c.args.systems.now = subst (λ n. c.args.subsystem.now.system < n) (length-map c.args.systems.now plain_system) c.requires.there in
    let same = system_read c.args.systems.now i c.at-system.result.now inside c.at-system.ensures in
    on_ok c.add_parts.result
    (λ e. e
    ∙ ap (λ ps. map plain_part c.args.parts.now ++ ps)
    (inside_parts ss renumbers_consistently_law c.requires.over (number_in c.args.places.now) c.args.subsystem.now c.args.fresh c.len-locals.result c.deref.result.now c.requires.there c.requires.actuals
    (c.len-locals.ensures ∙ ap (λ s. length s.locals) same) (λ v l. ap (λ xs. number_in xs v) c.deref.ensures.value ∙ c.in_ok-inside.ensures.places v l)))
    c.add_parts.ensures.parts

pub add_parts-add_inside-requires : goal.add_parts-add_inside-requires
add_parts-add_inside-requires t c =
    let ss = map plain_system c.args.systems.now in
    let n = length ss in
    let bs = c.as_slice-subsystem-items.result.now in
    let b = c.subsystem-item.result in
    let inside : c.args.i < length c.args.systems.now = subst (λ n. c.args.i < n) (length-map c.args.systems.now plain_system) c.requires.there in
    let same : (system_at (map plain_system c.args.systems.now) c.args.i).subsystems ≡ c.as_slice-subsystem-items.result.now =
    sym (c.as_slice-subsystem-items.ensures ∙ ap (λ s. s.subsystems) (system_read c.args.systems.now c.args.i c.at-system.result.now inside c.at-system.ensures)) in
    let ranked = ranked_held ss c.requires.ranked in
    let l = c.loop-subsystem-test.true in
    let own = sub_at (HasActuals ss (length (variables_in (system_at ss c.args.i)))) bs c.loop-subsystem.subsystem-index b
    (subst (AllByRecursion (HasActuals ss (length (variables_in (system_at ss c.args.i))))) same (c.requires.over c.args.i c.requires.there).subsystems) l c.subsystem-item.is in
    let low : nesting_upto (map plain_system c.args.systems.now) (length (map plain_system c.args.systems.now)) c.subsystem-item.result.system
    < nesting_upto (map plain_system c.args.systems.now) (length (map plain_system c.args.systems.now)) c.args.i =
    sub_at (λ b. nesting_upto ss n b.system < nesting_upto ss n c.args.i) bs c.loop-subsystem.subsystem-index b
    (subst (λ bs. AllByRecursion (λ (b : Subsystem). nesting_upto ss n b.system < nesting_upto ss n c.args.i) bs) same (ranked.falls c.args.i c.requires.there)) l c.subsystem-item.is in
    let all = (system_at ss c.args.i).subsystems in
    let total : c.args.fresh + sum_by (count_inside ss) all ≡ c.args.fresh + count_upto ss n c.args.i = ap (λ k. c.args.fresh + k) (ranked.enough c.args.i c.requires.there).count in
    let room = room_at (count_inside ss) all c.loop-subsystem.subsystem-index b c.loop-subsystem.next (c.args.fresh + sum_by (count_inside ss) all) 4294967296 (subst (λ bs. c.loop-subsystem.subsystem-index < length bs) (sym same) l)
    (subst (λ bs. b ≡ slice_index_or bs c.loop-subsystem.subsystem-index b) (sym same) c.subsystem-item.is) c.loop-subsystem.invariant.counted (subst (λ k. k < 4294967296) (sym total) c.requires.room) in
    (omega (arith, low), (c.requires.ranked, (c.requires.over, (own.there, (own.long, room)))))

pub add_parts-returns-clause-next : goal.add_parts-returns-clause-next
add_parts-returns-clause-next t c =
    let ss = map plain_system c.args.systems.now in
    let all = (system_at (map plain_system c.args.systems.now) c.args.i).subsystems in
    let inside : c.args.i < length c.args.systems.now = subst (λ n. c.args.i < n) (length-map c.args.systems.now plain_system) c.requires.there in
    let same : (system_at (map plain_system c.args.systems.now) c.args.i).subsystems ≡ c.as_slice-subsystem-items.result.now =
    sym (c.as_slice-subsystem-items.ensures ∙ ap (λ s. s.subsystems) (system_read c.args.systems.now c.args.i c.at-system.result.now inside c.at-system.ensures)) in
    let ends : length (system_at (map plain_system c.args.systems.now) c.args.i).subsystems ≤ c.loop-subsystem.subsystem-index = omega (arith, c.loop-subsystem-test.false, ap length same) in
    sums_end (count_inside ss) all c.loop-subsystem.subsystem-index c.loop-subsystem.next (c.args.fresh + sum_by (count_inside ss) all) ends c.loop-subsystem.invariant.counted
    ∙ ap (λ k. c.args.fresh + k) ((ranked_held ss c.requires.ranked).enough c.args.i c.requires.there).count

pub add_parts-returns-clause-parts : goal.add_parts-returns-clause-parts
add_parts-returns-clause-parts t c =
    let ss = map plain_system c.args.systems.now in
    let n = length ss in
    let place = number_in c.args.places.now in
    let all = (system_at (map plain_system c.args.systems.now) c.args.i).subsystems in
    let inside : c.args.i < length c.args.systems.now = subst (λ n. c.args.i < n) (length-map c.args.systems.now plain_system) c.requires.there in
    let same : (system_at (map plain_system c.args.systems.now) c.args.i).subsystems ≡ c.as_slice-subsystem-items.result.now =
    sym (c.as_slice-subsystem-items.ensures ∙ ap (λ s. s.subsystems) (system_read c.args.systems.now c.args.i c.at-system.result.now inside c.at-system.ensures)) in
    let ends : length (system_at (map plain_system c.args.systems.now) c.args.i).subsystems ≤ c.loop-subsystem.subsystem-index = omega (arith, c.loop-subsystem-test.false, ap length same) in
    parts_end ss (count_upto ss n) (parts_upto ss n) place all c.loop-subsystem.subsystem-index c.loop-subsystem.next (map plain_part c.loop-subsystem.parts)
    (map plain_part c.args.parts.now ++ part_of place (system_at ss c.args.i) ∷ parts_each ss (count_upto ss n) (parts_upto ss n) place c.args.fresh all) ends c.loop-subsystem.invariant.parts
    ∙ ap (λ ps. map plain_part c.args.parts.now ++ ps) (((ranked_held ss c.requires.ranked).enough c.args.i c.requires.there).parts place c.args.fresh)
