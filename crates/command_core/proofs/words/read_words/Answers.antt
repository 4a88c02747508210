use Rattle.std.proofs.Common.{◌≡◌, ◌∙◌, true, sym, true≢false}
use Rattle.std.proofs.lemmas.Result.{IfOk-weaker}
use Rattle.clap.specs.Values.{kind_of}
use Rattle.clap.specs.declared.error.kind.ErrorKind.TheVariants.{OutOfMemory}
use Rattle.command_core.proofs.Parsing.{accepted, are_texts, refused}
use Rattle.command_core.proofs.words.read_words.Goals as goal

pub returns-in-Ok : goal.returns-in-Ok
returns-in-Ok c =
    let is = accepted _ _ c.in-Ok.matches c.in_ok-command.ensures (are_texts c.args.words.now) c.in-Ok.ensures.matches c.in-Ok.ensures.kinds in
    IfOk-weaker c.given_words.result _ _ (λ given same. same ∙ is) c.given_words.ensures

pub returns : goal.returns
returns c =
    let is_memory : kind_of c.in-Err.error ≡ OutOfMemory → c.eq.result ≡ true = λ memory. rw (c.kind.ensures ∙ memory) at c.eq.ensures in
    refused _ _ c.in-Err.error c.in_ok-command.ensures (are_texts c.args.words.now) c.in-Err.ensures.kinds (λ memory. true≢false (sym (is_memory memory) ∙ c.if-eq.false))
