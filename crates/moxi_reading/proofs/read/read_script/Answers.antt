use Rattle.std.proofs.Common.{◌≡◌, ◌^◌, min, Result, Ok, Err, IfOk, IfErr, Some, sym, ap, ◌∙◌, arith}
use Rattle.std.proofs.lemmas.Option.{none-some, same_Some}
use Rattle.text_core.specs.declared.end.End.{End}
use Rattle.text_core.specs.declared.end.End.TheVariants.{Bad, NoMemory}
use Rattle.text_core.specs.declared.place.Place.{Place}
use Rattle.text_core.specs.declared.place.Refusal.{Refusal}
use Rattle.moxi_sexpr.specs.Tree.{all_nodes, Trees, plain_forms}
use Rattle.moxi_term_reading.specs.Failures.{least}
use Rattle.moxi_scripts.specs.declared.script.Script.{Script}
use Rattle.moxi_scripts.specs.Kinds.{HasScriptKind}
use Rattle.moxi_reading.specs.Answer.{IsFirstFailure, IsFirstOf, IsRefusal, IsScript}
use Rattle.moxi_scripts.specs.Script.{PlainScript}
use Rattle.moxi_scripts.specs.ScriptView.{plain_script}
use Rattle.moxi_scripts.specs.Spelling.{SpellsScript, script_failures}
use Rattle.moxi_scripts.proofs.ScriptKinds.{script_kinds}
use Rattle.moxi_scripts.proofs.ScriptLaws.{each_in, first_is, kinds_have_bytes, one_script}
use Rattle.moxi_reading.proofs.read.read_script.Goals as goal

is_read : (ts : Trees) (end : Place) (x : Result Script End) (s : PlainScript) → IfOk x (λ a. SpellsScript ts end (plain_script a)) → IfErr x (IsFirstFailure ts end) → SpellsScript ts end s → IsScript s x
is_read ts end (Ok a) s h g spelled = one_script ts end (plain_script a) s h spelled
is_read ts end (Err (Bad r)) s h g spelled = none-some r (sym (ap least spelled.passes) ∙ g)
is_read ts end (Err NoMemory) s h g spelled = tt

is_answered : (ts : Trees) (end : Place) (x : Result Script End) (r : Refusal) → IfOk x (λ a. SpellsScript ts end (plain_script a)) → IfErr x (IsFirstFailure ts end) → least (script_failures ts end) ≡ Some r → IsRefusal r x
is_answered ts end (Ok a) r h g first = none-some r (sym (ap least h.passes) ∙ first)
is_answered ts end (Err (Bad f)) r h g first = same_Some f r (sym g ∙ first)
is_answered ts end (Err NoMemory) r h g first = tt

is_first : (ts : Trees) (end : Place) (x : Result Script End) → IfErr x (IsFirstFailure ts end) → IfErr x (IsFirstOf ts end)
is_first ts end (Ok a) g = tt
is_first ts end (Err (Bad r)) g =
    let f = first_is (script_failures ts end) r (kinds_have_bytes (script_failures ts end) (script_kinds ts end)) g in
    (each_in HasScriptKind r (script_failures ts end) f.among (script_kinds ts end), f)
is_first ts end (Err NoMemory) g = tt

pub returns-clause-first : goal.returns-clause-first
returns-clause-first c = is_first (plain_forms c.args.forms.now.items) c.args.end c.script_in-script.result c.script_in-script.ensures.refused

pub returns-clause-read : goal.returns-clause-read
returns-clause-read c s h = is_read _ c.args.end c.script_in-script.result s c.script_in-script.ensures.spelled c.script_in-script.ensures.refused h

pub returns-clause-answered : goal.returns-clause-answered
returns-clause-answered c r h = is_answered _ c.args.end c.script_in-script.result r c.script_in-script.ensures.spelled c.script_in-script.ensures.refused h

pub returns-clause-spelled : goal.returns-clause-spelled
returns-clause-spelled c = c.script_in-script.ensures.spelled

pub returns-clause-refused : goal.returns-clause-refused
returns-clause-refused c = c.script_in-script.ensures.refused

pub script_in-script-requires-clause-printable : goal.script_in-script-requires-clause-printable
script_in-script-requires-clause-printable c = c.requires

pub script_in-script-requires-clause-few : goal.script_in-script-requires-clause-few
script_in-script-requires-clause-few c =
    let counted : c.count_all_nodes.result ≡ min (all_nodes (plain_forms c.args.forms.now.items)) (2 ^ 32) =
    c.count_all_nodes.ensures ∙ ap (λ fs. min (all_nodes (plain_forms fs)) (2 ^ 32)) c.deref.ensures.value in
    omega (arith, counted, c.if-count_all_nodes-eq-MANY_NODES.false)

pub script_in-script-requires-clause-nothing : goal.script_in-script-requires-clause-nothing
script_in-script-requires-clause-nothing c = c.nothing_read-draft.ensures
