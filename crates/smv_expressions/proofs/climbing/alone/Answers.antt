use Rattle.std.proofs.Common.{◌≡◌, true, false, [], ◌∷◌, length, sym, ap, ◌∙◌, subst}
use Rattle.std.proofs.lemmas.Result.{err_from_is_err_and}
use Rattle.smv_text.specs.Tree.{truth, number, literal, name}
use Rattle.smv_grammar.specs.declared.levels.Leader.TheVariants as leader
use Rattle.smv_grammar.specs.Machine.{leader_of, ask, have, failed, walk}
use Rattle.smv_grammar.specs.Reading.{found, first_path}
use Rattle.smv_expressions.specs.Following.{IsLost}
use Rattle.smv_expressions.proofs.Keeping.{leaf_number, leaf_literal, leaf_true, leaf_false, leaf_name}
use Rattle.smv_grammar.proofs.Steps.{named_on}
use Rattle.smv_grammar.proofs.Climbing.{leads_by, path_begins}
use Rattle.smv_expressions.proofs.Descending.{path_place}
use Rattle.smv_expressions.proofs.Following.{path_dies, follows_err}
use Rattle.smv_expressions.proofs.climbing.alone.Goals as goal

pub returns-in-Number-clause-reads : goal.returns-in-Number-clause-reads
returns-in-Number-clause-reads c so =
    let x = c.args.token.now in
    let xs = c.args.rest.now in
    let n = c.in-Number.n in
    let by : leader.Number n ≡ leader_of x.kind = sym c.in-Number.is ∙ c.requires.leads in
    record {
      tree = number x.place n;
      kept = leaf_number _ x.place n c.put_leaf.ensures;
      leads = λ k. ap (λ zs. walk zs (ask [] k)) c.requires.first ∙ leads_by k x xs (leader.Number n) by;
    }

pub returns-in-Literal-clause-reads : goal.returns-in-Literal-clause-reads
returns-in-Literal-clause-reads c so =
    let x = c.args.token.now in
    let xs = c.args.rest.now in
    let w = c.in-Literal.word in
    let by : leader.Literal w ≡ leader_of x.kind = sym c.in-Literal.is ∙ c.requires.leads in
    record {
      tree = literal x.place w;
      kept = leaf_literal _ x.place w c.put_leaf-in-Literal.ensures;
      leads = λ k. ap (λ zs. walk zs (ask [] k)) c.requires.first ∙ leads_by k x xs (leader.Literal w) by;
    }

pub returns-in-Truth-true-clause-reads : goal.returns-in-Truth-true-clause-reads
returns-in-Truth-true-clause-reads c so =
    let x = c.args.token.now in
    let xs = c.args.rest.now in
    let by : leader.Truth true ≡ leader_of x.kind = ap leader.Truth (sym c.in-Truth-true.field-0-test) ∙ sym c.in-Truth-true.is ∙ c.requires.leads in
    record {
      tree = truth x.place true;
      kept = leaf_true _ x.place c.put_leaf-in-Truth-true.ensures;
      leads = λ k. ap (λ zs. walk zs (ask [] k)) c.requires.first ∙ leads_by k x xs (leader.Truth true) by;
    }

pub returns-in-Truth-false-clause-reads : goal.returns-in-Truth-false-clause-reads
returns-in-Truth-false-clause-reads c so =
    let x = c.args.token.now in
    let xs = c.args.rest.now in
    let by : leader.Truth false ≡ leader_of x.kind = ap leader.Truth (sym c.in-Truth-false.field-0-test) ∙ sym c.in-Truth-false.is ∙ c.requires.leads in
    record {
      tree = truth x.place false;
      kept = leaf_false _ x.place c.put_leaf-in-Truth-false.ensures;
      leads = λ k. ap (λ zs. walk zs (ask [] k)) c.requires.first ∙ leads_by k x xs (leader.Truth false) by;
    }

pub returns-in_err-path-in-Path-clause-reads : goal.returns-in_err-path-in-Path-clause-reads
returns-in_err-path-in-Path-clause-reads c so =
    let q = c.from_residual in
    let p = err_from_is_err_and q.result q.ensures.1 in
    let x = c.args.token.now in
    let xs = c.args.rest.now in
    let ys = c.args.tokens.now in
    let by : leader.Path ≡ leader_of x.kind = sym c.in-Path.is ∙ c.requires.leads in
    follows_err _ _ (ask []) (ask []) ys (x ∷ xs) _ p.0 _ p.1 p.2 (λ k. (k, ap (λ zs. walk zs (ask [] k)) c.requires.first))
    (path_dies x xs by _ (subst (λ zs. IsLost (first_path zs) c.in_err-path-in-Path.field-0.0) c.requires.first c.in_err-path-in-Path.ensures.found))

pub returns-in_ok-path-in-Path-clause-reads : goal.returns-in_ok-path-in-Path-clause-reads
returns-in_ok-path-in-Path-clause-reads c so =
    let x = c.args.token.now in
    let xs = c.args.rest.now in
    let by : leader.Path ≡ leader_of x.kind = sym c.in-Path.is ∙ c.requires.leads in
    let q = c.in_ok-path-in-Path.path in
    let last = c.in_ok-path-in-Path.last.now in
    let f : first_path (x ∷ xs) ≡ found q last = subst (λ zs. first_path zs ≡ found q last) c.requires.first c.in_ok-path-in-Path.ensures.found in
    record {
      tree = name x.place q;
      kept = leaf_name _ x.place q c.put_leaf-in-Path.ensures;
      leads = λ k. ap (λ zs. walk zs (ask [] k)) c.requires.first ∙ path_begins k x xs by ∙ ap (λ g. named_on g k) f ∙ ap (λ p. walk last (have (name p q) k)) (path_place x xs last q f);
    }

pub returns-in-Nothing-clause-reads : goal.returns-in-Nothing-clause-reads
returns-in-Nothing-clause-reads c so k =
    let x = c.args.token.now in
    let xs = c.args.rest.now in
    let by : leader.Nothing ≡ leader_of x.kind = sym c.in-Nothing.is ∙ c.requires.leads in
    ap (λ zs. walk zs (ask [] k)) c.requires.first ∙ leads_by k x xs (leader.Nothing) by ∙ ap (λ zs. failed (length zs)) (sym c.requires.first)
