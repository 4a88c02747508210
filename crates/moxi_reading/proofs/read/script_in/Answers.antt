use Rattle.std.proofs.Common.{◌≡◌, List, Option, None, Some, map, option_map, ap, sym, ◌∙◌}
use Rattle.text_core.specs.declared.place.Place.{Place}
use Rattle.text_core.specs.declared.place.Refusal.{Refusal}
use Rattle.moxi_sexpr.specs.declared.form.Form.{Form}
use Rattle.moxi_sexpr.specs.Tree.{plain_forms}
use Rattle.moxi_declarations.specs.declared.checks.ReadCheck.{ReadCheck}
use Rattle.moxi_declarations.specs.declared.commands.Draft.{Draft}
use Rattle.moxi_declarations.specs.Views.{plain_check_reading, plain_draft, plain_reading}
use Rattle.moxi_scripts.specs.Collecting.{also}
use Rattle.moxi_scripts.specs.Script.{PlainScript}
use Rattle.moxi_scripts.specs.Spelling.{SpellsScript, check_of, reading_of, script_failures, system_of}
use Rattle.moxi_scripts.proofs.FunctionLaws.{least_found}
use Rattle.moxi_scripts.proofs.ScriptLaws.{always_there, spells}
use Rattle.moxi_reading.proofs.read.script_in.Goals as goal

-- the forms, and what was found in them
finds_in : (fs gs : List Form) (end : Place) (found : Option Refusal) → fs ≡ gs → found ≡ also None (script_failures (plain_forms fs) end) → found ≡ also None (script_failures (plain_forms gs) end)
finds_in fs gs end found e finds = finds ∙ ap (λ hs. also None (script_failures (plain_forms hs) end)) e

read_in : (fs gs : List Form) (d : Draft) → fs ≡ gs → plain_draft d ≡ reading_of (plain_forms fs) → plain_draft d ≡ reading_of (plain_forms gs)
read_in fs gs d e read = read ∙ ap (λ hs. reading_of (plain_forms hs)) e

-- what is taken out of the draft is the script
taken : (fs gs : List Form) (end : Place) (d : Draft) (found : Option Refusal) (check : ReadCheck) (s : PlainScript) → fs ≡ gs → plain_draft d ≡ reading_of (plain_forms fs) → found ≡ also None (script_failures (plain_forms fs) end)
    → found ≡ None → d.check ≡ Some check → s.logic ≡ d.logic → s.scope ≡ d.scope → s.systems ≡ map (system_of d.system_names) (map plain_reading d.systems.items) → s.check ≡ check_of d.system_names (plain_check_reading check)
    → SpellsScript (plain_forms gs) end s
taken fs gs end d found check s e read finds none there logic scope systems checks =
    spells (plain_forms gs) end (plain_draft d) (plain_check_reading check) found s (read_in fs gs d e read) (finds_in fs gs end found e finds) none (ap (option_map plain_check_reading) there) logic scope systems checks

pub returns-in-Some-clause-refused : goal.returns-in-Some-clause-refused
returns-in-Some-clause-refused c =
    let finds = finds_in _ _ c.args.end c.read_whole_script.new.found c.deref.ensures.value c.in_ok-read_whole_script.ensures.finds in
    sym (least_found c.read_whole_script.new.found _ finds) ∙ c.in-Some.is

pub unreachable-requires : goal.unreachable-requires
unreachable-requires c =
    let d = c.read_whole_script.new.draft in
    let got = c.in_ok-read_whole_script.ensures in
    always_there (plain_forms c.args.forms.now.items) c.args.end (plain_draft d) c.read_whole_script.new.found (read_in _ _ d c.deref.ensures.value got.draft)
    (finds_in _ _ c.args.end _ c.deref.ensures.value got.finds) c.in_default.is (ap (option_map plain_check_reading) (sym c.take.ensures.value ∙ c.in_default-take.is))

pub invariant_of-result : goal.invariant_of-result
invariant_of-result c =
    let got = c.in_ok-read_whole_script.ensures in
    record {
      spelled = ∣
          record {
            forms = plain_forms c.args.forms.now.items;
            end = c.args.end;
            printable = c.requires.printable;
            spelled = taken _ _ c.args.end c.read_whole_script.new.draft _ c.in-Some-take.read _ c.deref.ensures.value got.draft got.finds c.in_default.is (sym c.take.ensures.value ∙ c.in-Some-take.is)
                c.take-in-Ok.ensures.value c.replace-scope.ensures.value c.in-Ok.ensures c.in_ok-check.ensures;
          } ∣₁;
    }

pub returns-in-Ok-clause-spelled : goal.returns-in-Ok-clause-spelled
returns-in-Ok-clause-spelled c =
    let got = c.in_ok-read_whole_script.ensures in
    taken _ _ c.args.end c.read_whole_script.new.draft _ c.in-Some-take.read _ c.deref.ensures.value got.draft got.finds c.in_default.is (sym c.take.ensures.value ∙ c.in-Some-take.is)
    c.take-in-Ok.ensures.value c.replace-scope.ensures.value c.in-Ok.ensures c.in_ok-check.ensures
