use Rattle.std.proofs.Common.{◌≡◌, ◌<◌, Some, None, map, length, refl, sym, ap, ◌∙◌, arith}
use Rattle.smv_text.specs.View.{plain_module}
use Rattle.std.proofs.Common.{◌-◌, drop}
use Rattle.smv_parse.specs.Parsing.{refusal, dead_refusal, too_high, dead, no_memory}
use Rattle.smv_grammar.proofs.Models.{reading, found_spelled, model_spelled, model_within, rest_dies, left_dies, rest_is, all_read, exact_none, exact_high}
use Rattle.smv_parse.proofs.Ending.{is_too_high, has_dead, lost}
use Rattle.smv_parse.proofs.source.parse.Goals as goal

pub returns-then-not-is_empty-clause-exact : goal.returns-then-not-is_empty-clause-exact
returns-then-not-is_empty-clause-exact c s d =
    absurd (model_spelled s.modules c.args.tokens.now.items (length c.in-Ok.rest.now) d.0 (rest_dies c.args.tokens.now.items (map plain_module c.in-Ok.modules) c.in-Ok.high c.in-Ok.rest.now (ap reading (sym c.as_slice-all.ensures) ∙ c.in-Ok.ensures.reads) (let n : 0 < length c.in-Ok.rest.now = grind (arith, c.is_empty.ensures) in n)))

pub returns-then-not-is_empty-clause-refused : goal.returns-then-not-is_empty-clause-refused
returns-then-not-is_empty-clause-refused c =
    dead (has_dead c.args.tokens.now (length c.in-Ok.rest.now) c.dead_refusal.result (rest_dies c.args.tokens.now.items (map plain_module c.in-Ok.modules) c.in-Ok.high c.in-Ok.rest.now (ap reading (sym c.as_slice-all.ensures) ∙ c.in-Ok.ensures.reads) (let n : 0 < length c.in-Ok.rest.now = grind (arith, c.is_empty.ensures) in n))
    (c.dead_refusal.ensures ∙ ap (λ z. dead_refusal z c.in-Ok.rest.now) c.end-end.ensures ∙ ap (dead_refusal c.args.tokens.now.end) (sym (rest_is c.args.tokens.now.items (map plain_module c.in-Ok.modules) c.in-Ok.high c.in-Ok.rest.now (ap reading (sym c.as_slice-all.ensures) ∙ c.in-Ok.ensures.reads)))))

pub overflow_sub-all : goal.overflow_sub-all
overflow_sub-all c =
    let w = model_within c.args.tokens.now.items c.in-Err-Dead.left (left_dies c.args.tokens.now.items c.in-Err-Dead.left (ap reading (sym c.as_slice-all.ensures) ∙ lost (reading c.as_slice-all.result.now) c.in-Err-Dead.field-0 c.in-Err-Dead.left c.in-Err-Dead.field-0-is c.in-Err-Dead.ensures.reads)) in let n : length c.as_slice-all.result.now ≡ length c.args.tokens.now.items = ap length c.as_slice-all.ensures in omega arith

pub returns-in-None-clause-spelled : goal.returns-in-None-clause-spelled
returns-in-None-clause-spelled c =
    let p = found_spelled c.args.tokens.now.items (map plain_module c.in-Ok.modules) (all_read c.args.tokens.now.items (map plain_module c.in-Ok.modules) c.in-Ok.high c.in-Ok.rest.now (ap reading (sym c.as_slice-all.ensures) ∙ c.in-Ok.ensures.reads) (let n : length c.in-Ok.rest.now ≡ 0 = grind (arith, c.is_empty.ensures) in n) None c.in-None.is) in ((p.0, c.end-end.ensures), p.1)

pub returns-in-None-clause-exact : goal.returns-in-None-clause-exact
returns-in-None-clause-exact c s d =
    exact_none c.args.tokens.now.items (map plain_module c.in-Ok.modules) c.end-end.result s (all_read c.args.tokens.now.items (map plain_module c.in-Ok.modules) c.in-Ok.high c.in-Ok.rest.now (ap reading (sym c.as_slice-all.ensures) ∙ c.in-Ok.ensures.reads) (let n : length c.in-Ok.rest.now ≡ 0 = grind (arith, c.is_empty.ensures) in n) None c.in-None.is) d.0 (d.1 ∙ sym c.end-end.ensures)

pub returns-in-Some-clause-exact : goal.returns-in-Some-clause-exact
returns-in-Some-clause-exact c s d =
    (c.in-Some.place, exact_high c.args.tokens.now.items (map plain_module c.in-Ok.modules) c.in-Some.place s (all_read c.args.tokens.now.items (map plain_module c.in-Ok.modules) c.in-Ok.high c.in-Ok.rest.now (ap reading (sym c.as_slice-all.ensures) ∙ c.in-Ok.ensures.reads) (let n : length c.in-Ok.rest.now ≡ 0 = grind (arith, c.is_empty.ensures) in n) (Some c.in-Some.place) c.in-Some.is) d.0, refl)

pub returns-in-Some-clause-refused : goal.returns-in-Some-clause-refused
returns-in-Some-clause-refused c =
    too_high (is_too_high c.args.tokens.now (map plain_module c.in-Ok.modules) c.in-Some.place (refusal 7 c.in-Some.place) (all_read c.args.tokens.now.items (map plain_module c.in-Ok.modules) c.in-Ok.high c.in-Ok.rest.now (ap reading (sym c.as_slice-all.ensures) ∙ c.in-Ok.ensures.reads) (let n : length c.in-Ok.rest.now ≡ 0 = grind (arith, c.is_empty.ensures) in n) (Some c.in-Some.place) c.in-Some.is) refl)

pub returns-in-Err-Dead-clause-exact : goal.returns-in-Err-Dead-clause-exact
returns-in-Err-Dead-clause-exact c s d =
    absurd (model_spelled s.modules c.args.tokens.now.items c.in-Err-Dead.left d.0 (left_dies c.args.tokens.now.items c.in-Err-Dead.left (ap reading (sym c.as_slice-all.ensures) ∙ lost (reading c.as_slice-all.result.now) c.in-Err-Dead.field-0 c.in-Err-Dead.left c.in-Err-Dead.field-0-is c.in-Err-Dead.ensures.reads)))

pub returns-in-Err-Dead-clause-refused : goal.returns-in-Err-Dead-clause-refused
returns-in-Err-Dead-clause-refused c =
    dead (has_dead c.args.tokens.now c.in-Err-Dead.left c.dead_refusal-in-Err-Dead.result (left_dies c.args.tokens.now.items c.in-Err-Dead.left (ap reading (sym c.as_slice-all.ensures) ∙ lost (reading c.as_slice-all.result.now) c.in-Err-Dead.field-0 c.in-Err-Dead.left c.in-Err-Dead.field-0-is c.in-Err-Dead.ensures.reads))
    (c.dead_refusal-in-Err-Dead.ensures ∙ ap (λ z. dead_refusal z c.split_at.result.1.now) c.end-end.ensures
    ∙ ap (dead_refusal c.args.tokens.now.end) (c.split_at.ensures.back ∙ ap (λ z. drop (length z - c.in-Err-Dead.left) z) c.as_slice-all.ensures)))

pub returns-in-Err-NoMemory-clause-refused : goal.returns-in-Err-NoMemory-clause-refused
returns-in-Err-NoMemory-clause-refused c =
    no_memory
