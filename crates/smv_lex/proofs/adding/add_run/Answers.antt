use Rattle.std.proofs.Common.{◌≡◌, Some, Ok, take, sym, ◌∙◌}
use Rattle.smv_text.specs.Words.{run_kind}
use Rattle.smv_lex.proofs.Sized.{added, is_put, run_opens_none}
use Rattle.smv_lex.proofs.adding.add_run.Goals as goal

pub returns-in-Some : goal.returns-in-Some
returns-in-Some c =
    let run = take c.args.size c.args.text.now in
    let kind = c.in-Some.kind in
    let is : run_kind run ≡ Some kind = sym c.in_ok-kind.ensures ∙ c.in-Some.is in
    added c.args.opened c.args.place c.args.text.now c.args.size kind _ _ (Ok c.put.result) c.requires.size c.requires.some (c.requires.run ∙ is)
    (is_put c.args.opened c.args.opened c.args.place c.args.size kind _ _ c.put.result c.put.ensures.items c.put.ensures.added (sym (run_opens_none c.args.opened run kind is)) c.requires.opened)
