use Rattle.std.proofs.Common.{◌≡◌, eqb, false, sym, ◌∙◌, subst}
use Rattle.std.specs.Prelude.{IfOk}
use Rattle.std.specs.List.{list_any}
use Rattle.moxi_sexpr.proofs.Strings.{undoubled_plain}
use Rattle.moxi_sexpr.proofs.scan.unquoted.Goals as goal

pub returns-else-contains : goal.returns-else-contains
returns-else-contains c =
    let plain : list_any (λ b. eqb b 34) c.args.raw.now ≡ false = sym c.contains.ensures.value ∙ c.if-contains.false in
    subst (λ x. IfOk c.of.result (λ name. name ≡ x)) (sym (undoubled_plain c.args.raw.now plain)) c.of.ensures
