use Rattle.std.proofs.Common.{◌≡◌, ◌<◌, ◌≤◌, ◌++◌, length, map, sym, ap, ◌∙◌, subst, arith}
use Rattle.std.specs.List.{AllByRecursion}
use Rattle.std.proofs.lemmas.List.{length-map}
use Rattle.moxi_scripts.specs.declared.script.Subsystem.{Subsystem}
use Rattle.moxi_scripts.specs.Script.{plain_system, system_at}
use Rattle.moxi_flat.specs.Systems.{nesting_upto}
use Rattle.moxi_flat.specs.FlatSystem.{locals_each, locals_upto}
use Rattle.moxi_instantiate.proofs.Filling.{system_read}
use Rattle.moxi_instantiate.proofs.Held.{locals_end, locals_whole, ranked_held, sub_at}
use Rattle.moxi_instantiate.proofs.variables.+locals.Goals as goal

pub add_locals-add_subsystem-requires : goal.add_locals-add_subsystem-requires
add_locals-add_subsystem-requires t c =
    let ss = map plain_system c.args.systems.now in
    let n = length ss in
    let bs = c.as_slice-subsystems.result.now in
    let b = c.subsystem-item.result in
    let inside : c.args.i < length c.args.systems.now = subst (λ n. c.args.i < n) (length-map c.args.systems.now plain_system) c.requires.there in
    let same : (system_at (map plain_system c.args.systems.now) c.args.i).subsystems ≡ c.as_slice-subsystems.result.now =
    sym (c.as_slice-subsystems.ensures ∙ ap (λ s. s.subsystems) (system_read c.args.systems.now c.args.i c.at.result.now inside c.at.ensures)) in
    let ranked = ranked_held ss c.requires.ranked in
    let there = sub_at (λ b. b.system < n) bs c.loop-subsystem.subsystem-index b (subst (λ bs. AllByRecursion (λ (b : Subsystem). b.system < n) bs) same (ranked.there c.args.i c.requires.there)) c.loop-subsystem-test.true c.subsystem-item.is in
    let low : nesting_upto (map plain_system c.args.systems.now) (length (map plain_system c.args.systems.now)) c.subsystem-item.result.system
    < nesting_upto (map plain_system c.args.systems.now) (length (map plain_system c.args.systems.now)) c.args.i =
    sub_at (λ b. nesting_upto ss n b.system < nesting_upto ss n c.args.i) bs c.loop-subsystem.subsystem-index b
    (subst (λ bs. AllByRecursion (λ (b : Subsystem). nesting_upto ss n b.system < nesting_upto ss n c.args.i) bs) same (ranked.falls c.args.i c.requires.there)) c.loop-subsystem-test.true c.subsystem-item.is in
    (omega (arith, low), (c.requires.ranked, there))

pub add_locals-returns : goal.add_locals-returns
add_locals-returns t c =
    let ss = map plain_system c.args.systems.now in
    let inside : c.args.i < length c.args.systems.now = subst (λ n. c.args.i < n) (length-map c.args.systems.now plain_system) c.requires.there in
    let same : (system_at (map plain_system c.args.systems.now) c.args.i).subsystems ≡ c.as_slice-subsystems.result.now =
    sym (c.as_slice-subsystems.ensures ∙ ap (λ s. s.subsystems) (system_read c.args.systems.now c.args.i c.at.result.now inside c.at.ensures)) in
    let ends : length (system_at (map plain_system c.args.systems.now) c.args.i).subsystems ≤ c.loop-subsystem.subsystem-index = omega (arith, c.loop-subsystem-test.false, ap length same) in
    let within = locals_upto ss (length ss) in
    locals_end ss within c.args.path.now (system_at ss c.args.i).subsystems c.loop-subsystem.subsystem-index c.loop-subsystem.all (c.args.all.now ++ locals_each ss within c.args.path.now (system_at ss c.args.i).subsystems) ends c.loop-subsystem.invariant
    ∙ ap (λ vs. c.args.all.now ++ vs) (locals_whole ss c.requires.ranked c.args.path.now c.args.i c.requires.there)
