use Rattle.std.proofs.Common.{◌∷◌, sym, ◌∙◌, arith}
use Rattle.std.proofs.lemmas.Result.{err_from_is_err_and}
use Rattle.smv_text.specs.Tree.{select}
use Rattle.smv_grammar.specs.Machine.{selected, have, high_end}
use Rattle.smv_grammar.proofs.Steps.{selected_goes, selected_leaves}
use Rattle.smv_expressions.proofs.Following.{selects_dies, follows_err, follows_free}
use Rattle.smv_expressions.proofs.climbing.selections.Goals as goal

pub returns-in_err-high-clause-reads : goal.returns-in_err-high-clause-reads
returns-in_err-high-clause-reads c t h =
    let q = c.from_residual in
    let p = err_from_is_err_and q.result q.ensures.1 in
    let l = c.loop-more in
    let f = l.invariant.reads t h in
    let more = c.in-Some.more.now in
    follows_err _ _ (λ k. have t (selected c.args.place ∷ k)) (high_end c.args.place f.tree) c.args.tokens.now more _ p.0 _ p.1 p.2
    (λ k. (k, f.leads k ∙ selected_goes k f.tree l.rest.now more c.args.place (sym c.in-Some.ensures.found))) (selects_dies more _ c.in_err-high.ensures.reads c.args.place f.tree)

pub returns-in_err-selected-clause-reads : goal.returns-in_err-selected-clause-reads
returns-in_err-selected-clause-reads c t h =
    let q = c.from_residual-in_err-selected in
    let p = err_from_is_err_and q.result q.ensures.1 in
    follows_free _ _ (λ k. have t (selected c.args.place ∷ k)) c.args.tokens.now _ p.0 _ p.1 p.2 c.in_err-selected.ensures.free

pub loop-more-preserved : goal.loop-more-preserved
loop-more-preserved c =
    let l = c.loop-more in
    let place = c.args.place in
    record {
      reads = λ t h.
          let f = l.invariant.reads t h in
          record {
            tree = select place f.tree c.in_ok-high.high c.in_ok-high.low;
            kept = c.in_ok-selected.ensures.made f.tree f.kept;
            leads = λ k. f.leads k ∙ selected_goes k f.tree l.rest.now c.in-Some.more.now place (sym c.in-Some.ensures.found) ∙ c.in_ok-high.ensures.reads place f.tree k;
          };
      shorter = omega (arith, l.invariant.shorter, c.in-Some.ensures.shorter, c.in_ok-high.ensures.shorter);
    }

pub returns-clause-reads : goal.returns-clause-reads
returns-clause-reads c t h =
    let l = c.loop-more in
    let f = l.invariant.reads t h in
    record {
      tree = f.tree;
      kept = f.kept;
      leads = λ k. f.leads k ∙ selected_leaves k f.tree l.rest.now c.args.place (sym c.in_default.ensures.found);
    }
