-- A valid script that is shown is spelled by the forms.
use Rattle.std.proofs.Common.{◌≡◌, ℕ, ◌<◌, true, false, List, [], ◌∷◌, ◌++◌, map, length, refl, sym, ap, ◌∙◌}
use Rattle.text_core.specs.declared.place.Place.{Place}
use Rattle.moxi_sexpr.specs.Tree.{Trees}
use Rattle.moxi_terms.specs.Names.{is_term_name}
use Rattle.name_maps.specs.Names.{are_fresh, place_of}
use Rattle.moxi_term_print.specs.Shown.{no_showns, shown, ShowEach}
use Rattle.moxi_term_print.specs.laws.StandingShapes as shape
use Rattle.moxi_scripts.specs.declared.parts.Command.TheVariants.{Check}
use Rattle.moxi_scripts.specs.declared.parts.Declared.{Declared}
use Rattle.moxi_scripts.specs.declared.script.Subsystem.{Subsystem}
use Rattle.moxi_scripts.specs.declared.parts.Actual.{Actual}
use Rattle.moxi_scripts.specs.declared.parts.Use.{Use}
use Rattle.moxi_script_print.specs.Again.{ReadsAs, with_place}
use Rattle.moxi_scripts.specs.Checks.{CheckReading, content_of}
use Rattle.moxi_scripts.specs.Commands.{Reading, commands_failures, nothing_read, reading_after}
use Rattle.moxi_scripts.specs.Cycles.{cycle_failures}
use Rattle.moxi_scripts.specs.Entries.{variables_of}
use Rattle.moxi_scripts.specs.Links.{links_failures}
use Rattle.moxi_scripts.specs.Lists.{all_entries, lists_in}
use Rattle.moxi_script_print.specs.Printing.{shown_check, shown_script}
use Rattle.moxi_scripts.specs.Script.{PlainCheck, PlainScript, PlainSystem}
use Rattle.moxi_scripts.specs.Spelling.{check_of, number_or_none, script_with, subsystem_of, system_of}
use Rattle.moxi_scripts.specs.Systems.{SystemReading}
use Rattle.moxi_scripts.specs.Valid.{IsValid, check_variables, system_names}
use Rattle.moxi_script_print.proofs.AgainChecks.{AgreeCheck, check_read, reading_checked}
use Rattle.moxi_script_print.proofs.AgainCommands.{AgreeSystems, all_back, commands_go, reading_at, term_names}
use Rattle.moxi_script_print.proofs.AgainCycles.{cycles_pass}
use Rattle.moxi_script_print.proofs.AgainEntries.{agree_all, agree_variables}
use Rattle.moxi_script_print.proofs.AgainLinks.{links_pass, system_place}
use Rattle.moxi_script_print.proofs.AgainParts.{SortsRead, SortsStand, TermsRead, both_nil}
use Rattle.moxi_script_print.proofs.AgainSystems.{AgreeSystem, all_agree}
use Rattle.moxi_script_print.proofs.AgainUses.{AgreeUses}
use Rattle.moxi_scripts.specs.laws.WholeParts.{all_append}

-- THE SAME SCRIPT

module _ (ss : List PlainSystem) (fresh : are_fresh [] (system_names ss) ≡ true) where
  uses_same : (bs : List Subsystem) (us : List Use) → AgreeUses (system_names ss) ss bs us → map (subsystem_of (system_names ss)) us ≡ bs
  uses_same [] [] a = refl
  uses_same [] (u ∷ us) a = absurd a
  uses_same (b ∷ bs) [] a = absurd a
  uses_same (b ∷ bs) (u ∷ us) a =
      let rest = map (subsystem_of (system_names ss)) us in
      ap (λ n. record { name = n; system = number_or_none (place_of (system_names ss) u.target); actuals = map (λ (a : Actual). a.number) u.actuals } ∷ rest) a.0.name
      ∙ ap (λ o. record { name = b.name; system = number_or_none o; actuals = map (λ (a : Actual). a.number) u.actuals } ∷ rest) (ap (place_of (system_names ss)) a.0.target ∙ system_place ss b.system fresh a.0.there)
      ∙ ap (λ ns. record { name = b.name; system = b.system; actuals = ns } ∷ rest) a.0.numbers ∙ ap (λ bs. b ∷ bs) (uses_same bs us a.1)

  system_same : (x : PlainSystem) (r : SystemReading) → AgreeSystem (system_names ss) ss x r → system_of (system_names ss) r ≡ x
  system_same x r a =
      let us = map (subsystem_of (system_names ss)) r.uses in
      let i = variables_of r.lists.inputs.entries in
      let o = variables_of r.lists.outputs.entries in
      let l = variables_of r.lists.locals.entries in
      ap (λ n. record { name = n; inputs = i; outputs = o; locals = l; init = r.init; trans = r.trans; inv = r.inv; subsystems = us }) a.name
      ∙ ap (λ vs. record { name = x.name; inputs = vs; outputs = o; locals = l; init = r.init; trans = r.trans; inv = r.inv; subsystems = us }) (agree_variables x.inputs r.lists.inputs.entries a.lists.inputs_agree)
      ∙ ap (λ vs. record { name = x.name; inputs = x.inputs; outputs = vs; locals = l; init = r.init; trans = r.trans; inv = r.inv; subsystems = us }) (agree_variables x.outputs r.lists.outputs.entries a.lists.outputs_agree)
      ∙ ap (λ vs. record { name = x.name; inputs = x.inputs; outputs = x.outputs; locals = vs; init = r.init; trans = r.trans; inv = r.inv; subsystems = us }) (agree_variables x.locals r.lists.locals.entries a.lists.locals_agree)
      ∙ ap (λ t. record x { init = t; trans = r.trans; inv = r.inv; subsystems = us }) a.init
      ∙ ap (λ t. record x { trans = t; inv = r.inv; subsystems = us }) a.trans
      ∙ ap (λ t. record x { inv = t; subsystems = us }) a.inv
      ∙ ap (λ bs. record x { subsystems = bs }) (uses_same x.subsystems r.uses a.uses)

  systems_same : (xs : List PlainSystem) (rs : List SystemReading) → AgreeSystems (system_names ss) ss xs rs → map (system_of (system_names ss)) rs ≡ xs
  systems_same [] [] a = refl
  systems_same [] (r ∷ rs) a = absurd a
  systems_same (x ∷ xs) [] a = absurd a
  systems_same (x ∷ xs) (r ∷ rs) a =
      ap (λ y. y ∷ map (system_of (system_names ss)) rs) (system_same x r a.0) ∙ ap (λ ys. x ∷ ys) (systems_same xs rs a.1)

  check_same : (c : PlainCheck) (r : CheckReading) → c.system < length ss → AgreeCheck (system_names ss) c r → check_of (system_names ss) r ≡ record c { place = r.place }
  check_same c r l a =
      let i = variables_of r.lists.inputs.entries in
      let o = variables_of r.lists.outputs.entries in
      let v = variables_of r.lists.locals.entries in
      let ls = r.labels in
      ap (λ n.
      record {
        place = r.place;
        system = number_or_none n;
        inputs = i;
        outputs = o;
        locals = v;
        assumptions = ls.assumptions.formulas;
        currents = ls.currents.formulas;
        reachables = ls.reachables.formulas;
        queries = r.queries;
      }) (ap (place_of (system_names ss)) a.target ∙ system_place ss c.system fresh l)
      ∙ ap (λ ls.
      record c {
        place = r.place;
        inputs = i;
        outputs = o;
        locals = v;
        assumptions = ls.assumptions.formulas;
        currents = ls.currents.formulas;
        reachables = ls.reachables.formulas;
        queries = r.queries;
      }) a.labels
      ∙ ap (λ vs. record c { place = r.place; inputs = vs; outputs = o; locals = v; queries = r.queries }) (agree_variables c.inputs r.lists.inputs.entries a.lists.inputs_agree)
      ∙ ap (λ vs. record c { place = r.place; outputs = vs; locals = v; queries = r.queries }) (agree_variables c.outputs r.lists.outputs.entries a.lists.outputs_agree)
      ∙ ap (λ vs. record c { place = r.place; locals = vs; queries = r.queries }) (agree_variables c.locals r.lists.locals.entries a.lists.locals_agree)
      ∙ ap (λ qs. record c { place = r.place; queries = qs }) a.queries

-- ALL OF IT

pub script_read : TermsRead → SortsRead → SortsStand → (s : PlainScript) (ts : Trees) (end : Place) → IsValid s → ShowEach ts (shown_script s) → ReadsAs ts end s
script_read terms_read sorts_read sorts_stand s ts end w h =
    let u = s.scope in
    let ss = s.systems in
    let names = system_names ss in
    let terms = term_names u u.functions in
    let back = all_back terms_read sorts_read sorts_stand u w.scope in
    let a = commands_go s.logic u ss (shown (shown_check u names s.check) no_showns) ts w.scope back w.systems.systems w.systems.names h in
    let r = reading_at s.logic u terms names a.variables a.systems in
    let one = shape.is_one a.goes.forms (shown_check u names s.check) a.goes.show in
    let k = check_read names ss s.check r one.0 (back u refl) w.check refl one.2 in
    let c = content_of u k.place k.head in
    let last = reading_checked r k.place k.head in
    let l = lists_in u Check k.head.rest in
    let after : reading_after nothing_read ts ≡ last = a.goes.after ∙ ap (reading_after r) one.1 ∙ k.is in
    let commands : commands_failures nothing_read ts ≡ [] = a.goes.pass ∙ ap (commands_failures r) one.1 ∙ ap (λ xs. xs ++ []) k.pass in
    let untaken = all_append (λ (d : Declared). is_term_name u d.name ≡ false) a.variables (all_entries l) a.untaken
    (agree_all (λ (name : List ℕ). is_term_name u name ≡ false) (check_variables s.check) (all_entries l) (all_agree s.check.inputs s.check.outputs s.check.locals l k.agree.lists) w.check.variables.names.free) in
    let links : links_failures last end ≡ [] = both_nil _ [] (links_pass ss w.systems.names a.systems a.agree u (a.variables ++ all_entries l) s.check c untaken w.check.there w.check.fits k.agree) refl in
    let cycles : cycle_failures last.systems last.system_names ≡ [] = cycles_pass ss w.systems.names a.systems a.agree w.systems.acyclic in
    let script : script_with last c ≡ with_place s c.place =
    ap (λ xs. record { logic = s.logic; scope = u; systems = xs; check = check_of names c }) (systems_same ss w.systems.names ss a.systems a.agree)
    ∙ ap (λ k. record s { check = k }) (check_same ss w.systems.names s.check c w.check.there k.agree) in (
      c.place,
      record {
        check = c;
        there = ap (λ (r : Reading). r.check) after;
        script = sym script ∙ ap (λ (r : Reading). script_with r c) (sym after);
        passes =
            ap (λ xs. (xs ++ links_failures (reading_after nothing_read ts) end) ++ cycle_failures (reading_after nothing_read ts).systems (reading_after nothing_read ts).system_names) commands
            ∙ ap (λ (r : Reading). links_failures r end ++ cycle_failures r.systems r.system_names) after ∙ both_nil _ _ links cycles;
      },
    )
