use Rattle.std.proofs.Common.{sym, ◌∙◌}
use Rattle.smv_to_moxi.proofs.Scripts.{no_symbols, not_refused, room_for_symbols, scope_is, symbols_are}
use Rattle.smv_to_moxi.proofs.script.declare_symbols.Goals as goal

pub returns-then-len-eq0 : goal.returns-then-len-eq0
returns-then-len-eq0 c =
    no_symbols c.args.scope.now c.args.symbols.now c.requires.nothing (sym c.len.ensures ∙ c.if-len-eq0.true)

pub returns-in-Ok-true : goal.returns-in-Ok-true
returns-in-Ok-true c =
    symbols_are _ _ (scope_is c.args.scope.now c.add_enumeration.new.self c.in_ok-name.name c.in_ok-constants.constants c.args.symbols.now c.in-Ok-true.field-0 c.requires.nothing c.in_ok-name.ensures c.in_ok-constants.ensures
    (λ h. c.if-len-eq0.false (c.len.ensures ∙ h)) c.in-Ok-true.field-0-test c.in-Ok-true.ensures.scope)

pub add_enumeration-requires : goal.add_enumeration-requires
add_enumeration-requires c =
    let r = room_for_symbols c.args.scope.now c.in_ok-constants.constants c.args.symbols.now c.requires.nothing c.requires.symbols c.in_ok-constants.ensures (λ h. c.if-len-eq0.false (c.len.ensures ∙ h)) in
    record { some = r.some; room = r.room; room_for_constants = r.room_for_constants }

pub unreachable-requires : goal.unreachable-requires
unreachable-requires c =
    not_refused c.args.scope.now c.in_ok-name.name c.in_ok-constants.constants c.args.symbols.now c.in-Ok-false.field-0 c.requires.nothing c.in_ok-name.ensures c.in_ok-constants.ensures c.requires.symbols
    c.in-Ok-false.ensures.added c.in-Ok-false.field-0-test
