-- What a response states can be judged.
use Rattle.std.proofs.Common.{◌≡◌, ℕ, suc, List, [], ◌∷◌, length, ap, ◌∙◌, arith}
use Rattle.std.specs.Prelude.{◌-◌}
use Rattle.moxi_scripts.specs.declared.script.Query.{Query}
use Rattle.moxi_scripts.specs.declared.script.Script.{Script}
use Rattle.moxi_scripts.specs.ScriptView.{plain_script}
use Rattle.moxi_scripts.specs.Asking.{query_at}
use Rattle.moxi_scripts.specs.Valid.{query_names}
use Rattle.moxi_trace.specs.declared.point.Answered.{Answered}
use Rattle.moxi_trace.specs.Texts.{symbol_text}
use Rattle.command_core.specs.declared.answer.Answer.TheVariants.{Done}
use Rattle.command_core.specs.declared.answer.Output.TheVariants as output
use Rattle.moxi_commands.specs.Judgement.{met_answer}

names_long : (qs : List Query) → length (query_names qs) ≡ length qs
names_long [] = omega arith
names_long (q ∷ qs) = ap suc (names_long qs)

-- what is answered where the query is met
pub met_is : (script : Script) (r : Answered) (symbol : List ℕ) (step : ℕ) → symbol ≡ symbol_text (query_at script.check.queries r.query).name → step ≡ length r.trace - 1
    → Done (output.Met symbol step) ≡ met_answer (plain_script script) r
met_is script r symbol step e f = ap (λ x. Done (output.Met x step)) e ∙ ap (λ n. Done (output.Met (symbol_text (query_at script.check.queries r.query).name) n)) f
