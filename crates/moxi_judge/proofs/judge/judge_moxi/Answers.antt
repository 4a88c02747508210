use Rattle.std.proofs.Common.{◌≡◌, ◌∙◌, ◌-◌, IfOk, length, subst, sym}
use Rattle.std.specs.Prelude.{◌↔◌}
use Rattle.std.specs.List.{AllByRecursion}
use Rattle.std.proofs.Math.Logic.{∥∥₁_map}
use Rattle.text_core.specs.declared.verdict.Verdict.TheVariants.{Yes}
use Rattle.moxi_scripts.specs.Invariant.{IsSpelled}
use Rattle.moxi_scripts.specs.ScriptView.{plain_script}
use Rattle.moxi_scripts.specs.Asking.{no_query, query_at}
use Rattle.moxi_flat.specs.FlatMeeting.{MeetsFlat}
use Rattle.moxi_flat.specs.FlatSystem.{flat_of}
use Rattle.moxi_judge.specs.FlatTests.{IsQueryOf, judged_by_parts}
use Rattle.moxi_judge.specs.Judging.{IsStatedTrace}
use Rattle.moxi_judge.proofs.Elements.{all_at, found_at}
use Rattle.moxi_judge.proofs.Held.{can_judge}
use Rattle.moxi_judge.proofs.Verdicts.{if_ok_more, parts_give_verdict, stated_suit, verdict_is, yes_is_met}
use Rattle.moxi_flat.proofs.Tested.{hidden_values_are_written_law, parts_are_tested_law}
use Rattle.moxi_scripts.proofs.AskingLaws.{first_part}
use Rattle.moxi_judge.proofs.judge.judge_moxi.Goals as goal
use Rattle.moxi_scripts.specs.Behaviour.{trace_of}

pub judge_steps-requires-clause-can : goal.judge_steps-requires-clause-can
judge_steps-requires-clause-can c = can_judge c.args.system.now c.is_sorted.ensures

pub judge_steps-requires-clause-query : goal.judge_steps-requires-clause-query
judge_steps-requires-clause-query c =
    let system = c.args.system.now in
    let queries = c.args.script.now.check.queries in
    let query = c.at-query.result.now in
    all_at (IsQueryOf system) queries c.args.q query query (subst (λ f. AllByRecursion (IsQueryOf system) f.queries) c.requires.system (can_judge system c.is_sorted.ensures).queries) c.requires.query c.at-query.ensures

pub returns-clause-verdict : goal.returns-clause-verdict
returns-clause-verdict c =
    let s = plain_script c.args.script.now in
    let q = query_at c.args.script.now.check.queries c.args.q in
    let envs = c.args.trace.now in
    let query = found_at c.args.script.now.check.queries c.args.q c.at-query.result.now no_query c.requires.query c.at-query.ensures in
    let whole = ∥∥₁_map c.args.script.now.spelled (λ (i : IsSpelled (plain_script c.args.script.now)). c.spelled_scripts_are_valid.ensures i.forms i.end s i.spelled) in
    subst (λ w. IfOk c.judge_steps.result (λ v. v ≡ w))
    (verdict_is c.args.system.now (flat_of s) c.at-query.result.now q c.as_slice.result.now envs c.requires.system query c.as_slice.ensures c.requires.trace.some
    ∙ parts_give_verdict hidden_values_are_written_law parts_are_tested_law first_part s whole q (length envs - 1) (trace_of envs))
    c.judge_steps.ensures

pub returns-clause-yes : goal.returns-clause-yes
returns-clause-yes c =
    let s = plain_script c.args.script.now in
    let f = flat_of s in
    let q = query_at c.args.script.now.check.queries c.args.q in
    let envs = c.args.trace.now in
    let query = found_at c.args.script.now.check.queries c.args.q c.at-query.result.now no_query c.requires.query c.at-query.ensures in
    let steps = judged_by_parts c.args.system.now c.at-query.result.now (length c.as_slice.result.now - 1) (trace_of c.as_slice.result.now) 0 (length c.as_slice.result.now) in
    let met =
    yes_is_met c.queries_are_met_where_nothing_fails.ensures.meets c.queries_are_met_where_nothing_fails.ensures.asks f q (length envs - 1) (trace_of envs)
    (stated_suit f envs (subst (λ g. IsStatedTrace g envs) c.requires.system c.requires.trace)) in
    if_ok_more (λ v. v ≡ steps) (λ v. (v ≡ Yes) ↔ MeetsFlat f q (length envs - 1) (trace_of envs)) c.judge_steps.result
    (λ v e. subst (λ w. (w ≡ Yes) ↔ MeetsFlat f q (length envs - 1) (trace_of envs))
    (sym (e ∙ verdict_is c.args.system.now f c.at-query.result.now q c.as_slice.result.now envs c.requires.system query c.as_slice.ensures c.requires.trace.some)) met)
    c.judge_steps.ensures
