use Rattle.std.proofs.Common.{◌≡◌, sym, ap, ◌∙◌}
use Rattle.btor_rules.specs.declared.operand.Outcome.TheVariants.{Stays, Constant, Argument}
use Rattle.btor_rules.specs.Rules.{outcome}
use Rattle.btor_simplify.specs.Fates.{operands_of, content_of_word}
use Rattle.btor_simplify.proofs.Steps.{can_say}
use Rattle.btor_simplify.proofs.Sharing.{has_same}
use Rattle.btor_simplify.proofs.Extents.{fate_ok, width_ok, has_ok, sort_known, constant_keeps, argument_keeps}
use Rattle.btor_simplify.proofs.fates.shared_fate.Goals as goal

pub content_as_it_is-content-requires : goal.content_as_it_is-content-requires
content_as_it_is-content-requires c = can_say c.args.nodes.now c.args.fates.now c.args.line.now c.requires.next c.requires.shared

pub sort_for-requires : goal.sort_for-requires
sort_for-requires c =
    let e : Constant c.in-Constant.word ≡ outcome c.args.line.now.op (operands_of c.args.nodes.now c.args.fates.now c.args.line.now.args) = sym c.in-Constant.is ∙ c.outcome.ensures ∙ ap (outcome c.args.line.now.op) c.operands_of-operands.ensures in
    sort_known c.args.nodes.now c.args.fates.now c.args.line.now c.requires.next c.requires.shared c.in-Constant.word e

pub returns-in-Stays-clause-fate : goal.returns-in-Stays-clause-fate
returns-in-Stays-clause-fate c =
    let l = c.args.line.now in
    let e : Stays ≡ outcome l.op (operands_of c.args.nodes.now c.args.fates.now l.args) = sym c.in-Stays.is ∙ c.outcome.ensures ∙ ap (outcome l.op) c.operands_of-operands.ensures in
    fate_ok c.args.nodes.now c.args.fates.now l c.requires.next c.requires.shared (Stays) tt e tt c.args.contents.now c.shared_or.new.contents c.requires.has c.content_as_it_is-content.result c.content_as_it_is-content.ensures c.shared_or.result c.shared_or.ensures.fate

pub returns-in-Stays-clause-width : goal.returns-in-Stays-clause-width
returns-in-Stays-clause-width c =
    let l = c.args.line.now in
    let e : Stays ≡ outcome l.op (operands_of c.args.nodes.now c.args.fates.now l.args) = sym c.in-Stays.is ∙ c.outcome.ensures ∙ ap (outcome l.op) c.operands_of-operands.ensures in
    width_ok c.args.nodes.now c.args.fates.now l c.requires.next c.requires.shared (Stays) tt e tt c.args.contents.now c.shared_or.new.contents c.requires.has c.content_as_it_is-content.result c.content_as_it_is-content.ensures c.shared_or.result c.shared_or.ensures.fate

pub returns-in-Stays-clause-has : goal.returns-in-Stays-clause-has
returns-in-Stays-clause-has c =
    let l = c.args.line.now in
    let e : Stays ≡ outcome l.op (operands_of c.args.nodes.now c.args.fates.now l.args) = sym c.in-Stays.is ∙ c.outcome.ensures ∙ ap (outcome l.op) c.operands_of-operands.ensures in
    has_ok c.args.nodes.now c.args.fates.now l c.requires.next c.requires.shared (Stays) tt e tt c.args.contents.now c.shared_or.new.contents c.requires.has c.content_as_it_is-content.result c.content_as_it_is-content.ensures c.shared_or.result c.shared_or.ensures.fate c.shared_or.ensures.entered

pub returns-in-Constant-clause-fate : goal.returns-in-Constant-clause-fate
returns-in-Constant-clause-fate c =
    let l = c.args.line.now in
    let e : Constant c.in-Constant.word ≡ outcome l.op (operands_of c.args.nodes.now c.args.fates.now l.args) = sym c.in-Constant.is ∙ c.outcome.ensures ∙ ap (outcome l.op) c.operands_of-operands.ensures in
    fate_ok c.args.nodes.now c.args.fates.now l c.requires.next c.requires.shared (Constant c.in-Constant.word) tt e (constant_keeps c.args.nodes.now c.args.fates.now l c.requires.next c.requires.shared c.in-Constant.word e) c.args.contents.now c.shared_or-in-Constant.new.contents c.requires.has c.content_of_word-content.result (c.content_of_word-content.ensures ∙ ap (content_of_word c.in-Constant.word) c.sort_for.ensures) c.shared_or-in-Constant.result c.shared_or-in-Constant.ensures.fate

pub returns-in-Constant-clause-width : goal.returns-in-Constant-clause-width
returns-in-Constant-clause-width c =
    let l = c.args.line.now in
    let e : Constant c.in-Constant.word ≡ outcome l.op (operands_of c.args.nodes.now c.args.fates.now l.args) = sym c.in-Constant.is ∙ c.outcome.ensures ∙ ap (outcome l.op) c.operands_of-operands.ensures in
    width_ok c.args.nodes.now c.args.fates.now l c.requires.next c.requires.shared (Constant c.in-Constant.word) tt e (constant_keeps c.args.nodes.now c.args.fates.now l c.requires.next c.requires.shared c.in-Constant.word e) c.args.contents.now c.shared_or-in-Constant.new.contents c.requires.has c.content_of_word-content.result (c.content_of_word-content.ensures ∙ ap (content_of_word c.in-Constant.word) c.sort_for.ensures) c.shared_or-in-Constant.result c.shared_or-in-Constant.ensures.fate

pub returns-in-Constant-clause-has : goal.returns-in-Constant-clause-has
returns-in-Constant-clause-has c =
    let l = c.args.line.now in
    let e : Constant c.in-Constant.word ≡ outcome l.op (operands_of c.args.nodes.now c.args.fates.now l.args) = sym c.in-Constant.is ∙ c.outcome.ensures ∙ ap (outcome l.op) c.operands_of-operands.ensures in
    has_ok c.args.nodes.now c.args.fates.now l c.requires.next c.requires.shared (Constant c.in-Constant.word) tt e (constant_keeps c.args.nodes.now c.args.fates.now l c.requires.next c.requires.shared c.in-Constant.word e) c.args.contents.now c.shared_or-in-Constant.new.contents c.requires.has c.content_of_word-content.result (c.content_of_word-content.ensures ∙ ap (content_of_word c.in-Constant.word) c.sort_for.ensures) c.shared_or-in-Constant.result c.shared_or-in-Constant.ensures.fate c.shared_or-in-Constant.ensures.entered

pub returns-in-Argument-clause-width : goal.returns-in-Argument-clause-width
returns-in-Argument-clause-width c =
    let e : Argument c.in-Argument.a ≡ outcome c.args.line.now.op (operands_of c.args.nodes.now c.args.fates.now c.args.line.now.args) = sym c.in-Argument.is ∙ c.outcome.ensures ∙ ap (outcome c.args.line.now.op) c.operands_of-operands.ensures in
    argument_keeps c.args.nodes.now c.args.fates.now c.args.line.now c.requires.next c.requires.shared c.in-Argument.a e

pub returns-in-Argument-clause-has : goal.returns-in-Argument-clause-has
returns-in-Argument-clause-has c =
    has_same c.args.nodes.now c.args.fates.now (Argument c.in-Argument.a) c.args.contents.now c.requires.has (λ m g h b. b) c.args.line.now c.requires.next.at
