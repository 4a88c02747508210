use Rattle.std.proofs.Common.{◌≡◌, List, ℕ, [], ◌∷◌, ◌++◌, sym, ap, ◌∙◌, subst, append_assoc}
use Rattle.std.specs.Prelude.{OnOk}
use Rattle.smv_text.specs.declared.token.Reserved.TheVariants as word
use Rattle.smv_text.specs.declared.token.TokenKind.TheVariants as kind
use Rattle.smv_text.specs.View.{plain_module}
use Rattle.smv_lex.specs.Spelling.{spaced, written}
use Rattle.smv_print.specs.Printing.{rest_kinds}
use Rattle.smv_print.proofs.Spaces.{written_apart}
use Rattle.smv_print.proofs.printing.put_module.Goals as goal

pub returns : goal.returns
returns c =
    let ks = rest_kinds (plain_module c.args.declared.now) in
    let first = kind.Reserved word.Module in
    let before = c.args.out.now in
    let apart : (before ++ written c.args.behind (first ∷ [])) ++ spaced ks ≡ before ++ written c.args.behind (first ∷ ks) =
    append_assoc before (written c.args.behind (first ∷ [])) (spaced ks) ∙ ap (λ x. before ++ x) (sym (written_apart c.args.behind first ks)) in
    subst (λ (x : List ℕ). OnOk c.put_rest.result (c.put_rest.new.out ≡ x)) (ap (λ x. x ++ spaced ks) c.in_ok-put_first.ensures ∙ apart) c.put_rest.ensures
