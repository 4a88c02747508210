use Rattle.std.proofs.Common.{◌≡◌, true, false, sym, ◌∙◌}
use Rattle.smv_text.specs.declared.token.Reserved.TheVariants as word
use Rattle.smv_text.specs.declared.token.TokenKind.TheVariants as kind
use Rattle.smv_text.specs.Tree.{truth, number}
use Rattle.smv_expressions.proofs.Descending.{number_leads, truth_leads}
use Rattle.smv_expressions.proofs.Keeping.{leaf_number, leaf_true, leaf_false}
use Rattle.smv_expressions.proofs.climbing.put_constant.Goals as goal

pub returns-else-is_first : goal.returns-else-is_first
returns-else-is_first c =
    let x = c.args.token.now in
    let m = c.in-Number.n in
    record {
      tree = number x.place m;
      kept = leaf_number _ x.place m c.put_leaf.ensures;
      leads = λ n few k. number_leads n few x c.args.rest.now k m c.in-Number.is (sym c.is_first.ensures ∙ c.if-is_first.false);
    }

pub returns-in-True : goal.returns-in-True
returns-in-True c =
    let x = c.args.token.now in
    let e : x.kind ≡ kind.Reserved word.True = cc in
    record {
      tree = truth x.place true;
      kept = leaf_true _ x.place c.put_leaf-in-True.ensures;
      leads = λ n few k. truth_leads n few x c.args.rest.now k true e;
    }

pub returns-in-False : goal.returns-in-False
returns-in-False c =
    let x = c.args.token.now in
    let e : x.kind ≡ kind.Reserved word.False = cc in
    record {
      tree = truth x.place false;
      kept = leaf_false _ x.place c.put_leaf-in-False.ensures;
      leads = λ n few k. truth_leads n few x c.args.rest.now k false e;
    }
