use Rattle.std.proofs.Common.{Result, Ok, Err, IfOk, subst}
use Rattle.text_core.specs.declared.end.End.{End}
use Rattle.smv_text.specs.View.{plain_source}
use Rattle.smv_meaning.specs.Checks.{first_failing, IsBad}
use Rattle.smv_meaning.specs.Phases.{checks_of}
use Rattle.smv_judge.proofs.StepLaws.{none_refused}
use Rattle.smv_flatten.specs.FlatModel.{IsFormOf}
use Rattle.trace_lower.proofs.lower.lower_smv.Goals as goal

pub unreachable-requires : goal.unreachable-requires
unreachable-requires c =
    none_refused (checks_of (plain_source c.args.source.now) c.args.j) c.in-Err-Bad.field-0-0 c.requires.accepted
    (subst (λ (e : End). IsBad e (first_failing (checks_of (plain_source c.args.source.now) c.args.j))) c.in-Err-Bad.field-0-is c.in-Err-Bad.ensures.checks)

-- what is told of a value under a premise
told : {A B : Type 0} (P Q : Type 0) (result : Result A B) → (P → Q) → IfOk result (λ a. P) → IfOk result (λ a. Q)
told P Q (Ok a) f h = f h
told P Q (Err e) f h = tt

pub returns-in-Ok-clause-judged : goal.returns-in-Ok-clause-judged
returns-in-Ok-clause-judged c =
    let form : IsFormOf (plain_source c.args.source.now) c.in-Ok.flat = record {
      needed = c.args.j;
      read = c.requires.read;
      accepted = c.requires.accepted;
      form = c.in-Ok.ensures.form;
      width = c.in-Ok.ensures.width;
    } in
    told _ _ c.lower_flat.result (λ h. h (plain_source c.args.source.now) form) c.lower_flat.ensures.judged
