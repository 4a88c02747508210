use Rattle.std.proofs.Common.{◌≡◌, suc, ap, ◌∙◌, sym, arith, if◌then◌else◌}
use Rattle.smv_text.specs.Heights.{folded, folded_right, is_implied}
use Rattle.smv_expressions.specs.Gathered.{highest_link}
use Rattle.smv_grammar.specs.Kept.{capped}
use Rattle.smv_expressions.proofs.Capping.{folded_right-before}
use Rattle.smv_expressions.proofs.kept.Heights.height.Goals as goal

pub returns-then-self-2 : goal.returns-then-self-2
returns-then-self-2 c n ls h =
    let s = c.args.self in
    let same : c.higher.result ≡ capped (folded_right n ls) =
    omega (arith, folded_right-before n ls, c.higher.ensures, c.under-then-self-2.ensures, h.before, h.depth, h.last) in
    same ∙ ap (λ b. capped (if b then folded_right n ls else folded n ls)) (sym c.if-self-2.true ∙ h.implied)
    ∙ ap (λ b. capped (if b then suc (highest_link n ls) else (if is_implied ls then folded_right n ls else folded n ls))) (sym c.if-self.false ∙ h.joined)
