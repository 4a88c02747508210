use Rattle.std.proofs.Common.{◌≡◌, ℕ, List, [], ◌∷◌, false, ap, ◌∙◌}
use Rattle.smv_text.specs.Tree.{name}
use Rattle.smv_grammar.specs.Kept.{cap}
use Rattle.smv_expressions.proofs.Keeping.{leaf_name}
use Rattle.smv_expressions.proofs.kept.name_leaf.Goals as goal

pub returns-clause-made : goal.returns-clause-made
returns-clause-made c =
    let p = c.args.place in
    let same : c.in_ok-duplicate.field-0 ≡ c.args.name.now = c.in_ok-duplicate.ensures in
    leaf_name _ p (record { from_self = false; names = c.one.result; place = p }) c.put_leaf.ensures
    ∙ ap (λ ns. cap (name p (record { from_self = false; names = ns; place = p }))) (c.one.ensures ∙ ap (λ (n : List ℕ). n ∷ []) same)
