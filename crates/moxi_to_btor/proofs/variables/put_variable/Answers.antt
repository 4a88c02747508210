use Rattle.std.specs.Prelude.{codes}
use Rattle.std.proofs.Common.{◌++◌, ap, ◌∙◌}
use Rattle.moxi_to_btor.proofs.VariableSteps.{code_can_put, input_can_put, input_is, next_can_put, next_is, state_can_put, state_is}
use Rattle.moxi_to_btor.proofs.variables.put_variable.Goals as goal

pub put_free-requires : goal.put_free-requires
put_free-requires c = input_can_put c.args.enumerations.now c.args.builder.now c.args.variable.now c.requires c.sort_width-width.result c.bytes-name.result.now c.sort_width-width.ensures c.bytes-name.ensures

pub put_free_behind-requires : goal.put_free_behind-requires
put_free_behind-requires c =
    let es = c.args.enumerations.now in
    let v = c.args.variable.now in
    let w = c.sort_width-width.ensures in
    let name = ap (λ n. n ++ codes ".prev") c.bytes-name.ensures in
    state_can_put es c.args.builder.now v c.requires c.sort_width-width.result (c.bytes-name.result.now ++ codes ".prev") (c.put_free.new.builder, c.in_ok-input.input) w name
    (c.in_ok-input.ensures ∙ input_is es c.args.builder.now v c.requires c.sort_width-width.result c.bytes-name.result.now w c.bytes-name.ensures)

pub put_given-requires : goal.put_given-requires
put_given-requires c =
    let es = c.args.enumerations.now in
    let v = c.args.variable.now in
    let lines = c.args.builder.now in
    let width = c.sort_width-width.result in
    let w = c.sort_width-width.ensures in
    let name = ap (λ n. n ++ codes ".prev") c.bytes-name.ensures in
    let i = c.in_ok-input.ensures ∙ input_is es lines v c.requires width c.bytes-name.result.now w c.bytes-name.ensures in
    let s = c.in_ok-state.ensures ∙ state_is es lines v c.requires width (c.bytes-name.result.now ++ codes ".prev") (c.put_free.new.builder, c.in_ok-input.input) w name i in
    next_can_put es lines v c.requires width (c.put_free.new.builder, c.in_ok-input.input) (c.put_free_behind.new.builder, c.in_ok-state.state) w i s c.len.ensures.well_formed

pub put_code-requires : goal.put_code-requires
put_code-requires c =
    let es = c.args.enumerations.now in
    let v = c.args.variable.now in
    let lines = c.args.builder.now in
    let width = c.sort_width-width.result in
    let w = c.sort_width-width.ensures in
    let name = ap (λ n. n ++ codes ".prev") c.bytes-name.ensures in
    let i = c.in_ok-input.ensures ∙ input_is es lines v c.requires width c.bytes-name.result.now w c.bytes-name.ensures in
    let s = c.in_ok-state.ensures ∙ state_is es lines v c.requires width (c.bytes-name.result.now ++ codes ".prev") (c.put_free.new.builder, c.in_ok-input.input) w name i in
    let n = c.in_ok-put_given.ensures ∙ next_is es lines v c.requires width (c.put_free.new.builder, c.in_ok-input.input) (c.put_free_behind.new.builder, c.in_ok-state.state) w i s in
    code_can_put es lines v c.requires (c.put_free.new.builder, c.in_ok-input.input) c.put_given.new.builder i n
