-- Systems that are shown and read again.
use Rattle.std.proofs.Common.{◌≡◌, ℕ, true, false, cond, is_none, not, Some, List, [], ◌∷◌, ◌++◌, refl, sym, ap, ◌∙◌, subst, append_assoc, append-nil}
use Rattle.std.specs.Prelude.{codes}
use Rattle.text_core.specs.declared.place.Place.{Place}
use Rattle.moxi_sexpr.specs.declared.form.Atom.TheVariants.{Symbol}
use Rattle.moxi_sexpr.specs.Lexing.{refusal}
use Rattle.moxi_sexpr.specs.Tree as form
use Rattle.moxi_scripts.specs.Collecting.{fails_if}
use Rattle.moxi_scripts.specs.Entries.{twice_failures}
use Rattle.moxi_terms.specs.declared.data.Primes.TheVariants.{Allowed, Refused}
use Rattle.moxi_terms.specs.declared.term.Variable.{Variable}
use Rattle.moxi_term_reading.specs.Answer as answer
use Rattle.name_maps.specs.Names.{are_fresh, place_of}
use Rattle.moxi_terms.specs.Sorted.{AreSorts}
use Rattle.moxi_terms.specs.Sorts.{IsSort}
use Rattle.moxi_terms.specs.Tree.{sorts_of}
use Rattle.moxi_terms.specs.View.{ScopeState}
use Rattle.moxi_term_print.specs.Shown.{word, group, Showns, shown, joined, Shows, ShowEach}
use Rattle.moxi_term_print.specs.Terms.{symbol, shown_variables, variable_names}
use Rattle.moxi_term_print.specs.laws.StandingShapes as shape
use Rattle.moxi_scripts.specs.declared.parts.Command.{Command}
use Rattle.moxi_scripts.specs.declared.parts.Command.TheVariants.{System}
use Rattle.moxi_scripts.specs.declared.parts.Turn.TheVariants.{AtKeyword}
use Rattle.moxi_scripts.specs.declared.parts.Lists.{Lists}
use Rattle.moxi_scripts.specs.Attributes.{shape_holds, unknown_failures}
use Rattle.moxi_scripts.specs.Commands.{Reading, with_form, form_failures}
use Rattle.moxi_scripts.specs.Lists.{all_entries, are_shaped, list_of, lists_in, text_entries}
use Rattle.moxi_script_print.specs.Printing.{shown_command, shown_lists, shown_formulas, shown_subsystems, shown_system}
use Rattle.moxi_scripts.specs.Script.{PlainSystem, variables_in}
use Rattle.moxi_scripts.specs.Systems as systems
use Rattle.moxi_scripts.specs.Systems.{SystemReading, locals_of, text_entries_in, variables_failures}
use Rattle.moxi_scripts.specs.Uses.{uses_failures, uses_in}
use Rattle.moxi_scripts.specs.Valid.{AreVariables, IsValidSystem}
use Rattle.moxi_script_print.proofs.AgainAttributes.{has_formulas, has_lists, list_forms, formula_forms, system_shape}
use Rattle.moxi_script_print.proofs.AgainEntries.{Agree, agree_append, agree_differ, agree_locals, agree_names, list_read}
use Rattle.moxi_script_print.proofs.AgainFormulas.{term_again, term_passes}
use Rattle.moxi_script_print.proofs.AgainParts.{ReadsBack, both_nil}
use Rattle.moxi_script_print.proofs.AgainShapes.{is_listed}
use Rattle.moxi_script_print.proofs.AgainUses.{AgreeUses, uses_read}
use Rattle.moxi_scripts.specs.laws.WholeNames.{and_both}
use Rattle.moxi_scripts.specs.laws.WholeParts.{all_parts, map_append}
use Rattle.moxi_scripts.specs.laws.WholeText.{locals_are, names_declared}

-- THE LISTS

pub record AgreeLists (inputs outputs locals : List Variable) (l : Lists) : Type 0 where
  pub inputs_agree : Agree inputs l.inputs.entries
  pub outputs_agree : Agree outputs l.outputs.entries
  pub locals_agree : Agree locals l.locals.entries

pub all_agree : (inputs outputs locals : List Variable) (l : Lists) → AgreeLists inputs outputs locals l → Agree (inputs ++ (outputs ++ locals)) (all_entries l)
all_agree inputs outputs locals l a =
    subst (λ vs. Agree vs (all_entries l)) (append_assoc inputs outputs locals)
    (agree_append (inputs ++ outputs) locals (l.inputs.entries ++ l.outputs.entries) l.locals.entries
    (agree_append inputs outputs l.inputs.entries l.outputs.entries a.inputs_agree a.outputs_agree) a.locals_agree)

pub record HasReadLists (s : ScopeState) (command : Command) (inputs outputs locals : List Variable) (ts : form.Trees) : Type 0 where
  pub agree : AgreeLists inputs outputs locals (lists_in s command ts)
  pub same : locals_of s command ts ≡ answer.locals_of (inputs ++ (outputs ++ locals))
  pub pass : variables_failures s command ts ≡ []

pub lists_read : (s : ScopeState) (command : Command) (inputs outputs locals : List Variable) (p q r : Place) (i o l : form.Tree) (ts : form.Trees) → ReadsBack s → AreVariables s (inputs ++ (outputs ++ locals))
    → Shows i (group (shown_variables s inputs)) → Shows o (group (shown_variables s outputs)) → Shows l (group (shown_variables s locals)) → unknown_failures command AtKeyword ts ≡ [] → ((l : Lists) → text_entries l command AtKeyword ts ≡ [])
    → HasReadLists s command inputs outputs locals (list_forms p i q o r l ts)
lists_read s command inputs outputs locals p q r i o l ts back w hi ho hl known tail =
    let all = all_parts (IsSort s.enumerations) (sorts_of inputs) (sorts_of (outputs ++ locals)) (subst (AreSorts s.enumerations) (map_append (λ (v : Variable). v.sort) inputs (outputs ++ locals)) w.sorts) in
    let rest = all_parts (IsSort s.enumerations) (sorts_of outputs) (sorts_of locals) (subst (AreSorts s.enumerations) (map_append (λ (v : Variable). v.sort) outputs locals) all.1) in
    let a = list_read s back inputs i all.0 hi in
    let b = list_read s back outputs o rest.0 ho in
    let c = list_read s back locals l rest.1 hl in
    let ls : Lists = record { inputs = list_of s (Some i); outputs = list_of s (Some o); locals = list_of s (Some l) } in
    let agree : AgreeLists inputs outputs locals ls = record { inputs_agree = a.entries; outputs_agree = b.entries; locals_agree = c.entries } in
    let vs = inputs ++ (outputs ++ locals) in
    let forms = list_forms p i q o r l ts in
    let x = ls.inputs.entries in
    let y = ls.outputs.entries in
    let z = ls.locals.entries in
    let flat : text_entries_in s command forms ≡ all_entries ls = ap (λ xs. x ++ (y ++ (z ++ xs))) (tail ls) ∙ ap (λ xs. x ++ (y ++ xs)) (append-nil z) ∙ sym (append_assoc x y z) in
    let shaped : are_shaped ls ≡ true = and_both ls.inputs.shaped _ a.shaped (and_both ls.outputs.shaped ls.locals.shaped b.shaped c.shaped) in
    let fresh = ap (λ ds. are_fresh [] (names_declared ds)) flat ∙ ap (are_fresh []) (agree_names vs (all_entries ls) (all_agree inputs outputs locals ls agree)) ∙ w.names.differ in
    record {
      agree = agree;
      same = locals_are s command forms shaped fresh ∙ agree_locals vs (all_entries ls) (all_agree inputs outputs locals ls agree);
      pass =
          both_nil _ _ (both_nil _ _ known (both_nil _ _ (both_nil _ _ a.pass b.pass) c.pass)) (ap (twice_failures []) flat ∙ agree_differ vs (all_entries ls) (all_agree inputs outputs locals ls agree) w.names.differ);
    }

-- SYSTEMS

-- what is read of a system, among systems of these names
pub record AgreeSystem (names : List (List ℕ)) (all : List PlainSystem) (x : PlainSystem) (r : SystemReading) : Type 0 where
  pub name : r.name ≡ x.name
  pub lists : AgreeLists x.inputs x.outputs x.locals r.lists
  pub init : r.init ≡ x.init
  pub trans : r.trans ≡ x.trans
  pub inv : r.inv ≡ x.inv
  pub uses : AgreeUses names all x.subsystems r.uses

record IsReadSystem (s : ScopeState) (names : List (List ℕ)) (all : List PlainSystem) (x : PlainSystem) (ts : form.Trees) : Type 0 where
  pub agree : AgreeSystem names all x (systems.content_of s x.name ts)
  pub shape : shape_holds System ts ≡ true
  pub pass : systems.content_failures s ts ≡ []

content_read : (s : ScopeState) (names : List (List ℕ)) (all : List PlainSystem) (x : PlainSystem) (ts : form.Trees) → ReadsBack s → IsValidSystem s all x
    → ShowEach ts (joined (shown_lists s x.inputs x.outputs x.locals)
    (joined (shown_formulas s (variable_names (variables_in x)) x.init x.trans x.inv) (shown_subsystems names (variable_names (variables_in x)) x.subsystems)))
    → IsReadSystem s names all x ts
content_read s names all x ts back w h =
    let vs = variables_in x in
    let vars = variable_names vs in
    let subsystems = shown_subsystems names vars x.subsystems in
    let a = has_lists s x.inputs x.outputs x.locals (joined (shown_formulas s vars x.init x.trans x.inv) subsystems) ts h in
    let f = has_formulas s vars x.init x.trans x.inv subsystems a.more a.show_more in
    let u = uses_read names all vs x.subsystems [] f.more w.variables.names.differ w.subsystems w.names f.show_more in
    let after = formula_forms f.init_place f.init_form f.trans_place f.trans_form f.inv_place f.inv_form f.more in
    let forms = list_forms a.input_place a.input a.output_place a.output a.local_place a.local after in
    let l = lists_read s System x.inputs x.outputs x.locals a.input_place a.output_place a.local_place a.input a.output a.local after back w.variables a.shows_inputs a.shows_outputs a.shows_locals u.tail.known u.tail.lists in
    let locals = locals_of s System forms in
    let same : locals ≡ answer.locals_of vs = l.same in
    let is : ts ≡ forms = a.is ∙ ap (list_forms a.input_place a.input a.output_place a.output a.local_place a.local) f.is in
    subst (IsReadSystem s names all x) (sym is)
    (record {
      agree = record {
        name = refl;
        lists = l.agree;
        init = term_again s back vs locals Refused x.init f.init_form same w.init f.shows_init;
        trans = term_again s back vs locals Allowed x.trans f.trans_form same w.trans f.shows_trans;
        inv = term_again s back vs locals Refused x.inv f.inv_form same w.inv f.shows_inv;
        uses = subst (λ ls. AgreeUses names all x.subsystems (uses_in ls AtKeyword f.more)) (sym same) u.agree;
      };
      shape =
          system_shape a.input_place a.output_place a.local_place f.init_place f.trans_place f.inv_place a.input a.output a.local f.init_form f.trans_form f.inv_form f.more
          (is_listed a.input (shown_variables s x.inputs) a.shows_inputs).listed (is_listed a.output (shown_variables s x.outputs) a.shows_outputs).listed
          (is_listed a.local (shown_variables s x.locals) a.shows_locals).listed u.tail;
      pass =
          both_nil _ _ (both_nil _ _ l.pass (both_nil _ _ (both_nil _ _
          (term_passes s back vs locals Refused x.init f.init_form same w.init f.shows_init) (term_passes s back vs locals Allowed x.trans f.trans_form same w.trans f.shows_trans))
          (term_passes s back vs locals Refused x.inv f.inv_form same w.inv f.shows_inv)))
          (ap (λ ls. uses_failures ls [] AtKeyword f.more) same ∙ u.pass);
    })

-- THE COMMAND

abbrev pub command_form : Place → Place → List ℕ → Place → List ℕ → form.Trees → form.Tree
command_form p q w r name ts = form.list p (form.tree (form.atom q (Symbol w false)) (form.tree (form.atom r (Symbol name false)) ts))

pub record IsCommand (f : form.Tree) (w name : List ℕ) (xs : Showns) : Type 0 where
  pub place : Place
  pub word_place : Place
  pub name_place : Place
  pub forms : form.Trees
  pub is : f ≡ command_form place word_place w name_place name forms
  pub show : ShowEach forms xs

pub is_command : (f : form.Tree) (w name : List ℕ) (xs : Showns) → Shows f (shown_command w name xs) → IsCommand f w name xs
is_command f w name xs h =
    let g = shape.is_group f (shown (word w) (shown (symbol name) xs)) h in
    let a = shape.is_more g.1 (word w) (shown (symbol name) xs) g.3 in
    let u = shape.is_word a.0 w a.3 in
    let b = shape.is_more a.1 (symbol name) xs a.4 in
    let v = shape.is_part b.0 (Symbol name false) b.3 in
    record {
      place = g.0;
      word_place = u.0;
      name_place = v.0;
      forms = b.1;
      is = g.2 ∙ ap (form.list g.0) (a.2 ∙ ap (λ t. form.tree t a.1) u.1 ∙ ap (form.tree (form.atom u.0 (Symbol w false))) (b.2 ∙ ap (λ t. form.tree t b.1) v.1));
      show = b.4;
    }

abbrev pub reading_with : Reading → List ℕ → form.Trees → Reading
reading_with r name ts =
    record r {
      system_names = r.system_names ++ name ∷ [];
      variables = r.variables ++ all_entries (lists_in r.scope System ts);
      systems = r.systems ++ systems.content_of r.scope name ts ∷ [];
    }

-- behind these commands the system is read, and no test of it fails
pub record IsNextSystem (s : ScopeState) (names : List (List ℕ)) (all : List PlainSystem) (x : PlainSystem) (r : Reading) (f : form.Tree) : Type 0 where
  pub forms : form.Trees
  pub is : with_form r f ≡ reading_with r x.name forms
  pub pass : form_failures r f ≡ []
  pub agree : AgreeSystem names all x (systems.content_of s x.name forms)

system_command : (r : Reading) (p q n : Place) (name : List ℕ) (ts : form.Trees) → is_none (place_of r.system_names name) ≡ true → shape_holds System ts ≡ true
    → with_form r (command_form p q (codes "define-system") n name ts) ≡ reading_with r name ts
system_command r p q n name ts new shape =
    ap (λ b.
    record r {
      system_names = cond b (r.system_names ++ name ∷ []) r.system_names;
      variables = r.variables ++ systems.shaped_variables r.scope ts;
      systems = cond b (r.systems ++ systems.shaped_system r.scope name ts ∷ []) r.systems;
      repeated = cond b r.repeated (r.repeated ++ systems.shaped_system r.scope name ts ∷ []);
    }) new
    ∙ ap (λ b.
    record r {
      system_names = r.system_names ++ name ∷ [];
      variables = r.variables ++ cond b (all_entries (lists_in r.scope System ts)) [];
      systems = r.systems ++ cond b (systems.content_of r.scope name ts) (systems.bare_system name) ∷ [];
    }) shape

system_passes : (r : Reading) (p q n : Place) (name : List ℕ) (ts : form.Trees) → is_none (place_of r.system_names name) ≡ true → shape_holds System ts ≡ true → systems.content_failures r.scope ts ≡ []
    → form_failures r (command_form p q (codes "define-system") n name ts) ≡ []
system_passes r p q n name ts new shape pass =
    ap (λ b. fails_if (not b) 9 n ++ systems.shaped_failures r.scope p ts) new ∙ ap (λ b. cond b (systems.content_failures r.scope ts) (refusal 12 p ∷ [])) shape ∙ pass

pub system_read : (names : List (List ℕ)) (all : List PlainSystem) (x : PlainSystem) (r : Reading) (f : form.Tree) → ReadsBack r.scope → IsValidSystem r.scope all x
    → is_none (place_of r.system_names x.name) ≡ true → Shows f (shown_system r.scope names x) → IsNextSystem r.scope names all x r f
system_read names all x r f back w new h =
    let c = is_command f (codes "define-system") x.name _ h in
    let d = content_read r.scope names all x c.forms back w c.show in
    record {
      forms = c.forms;
      is = ap (with_form r) c.is ∙ system_command r c.place c.word_place c.name_place x.name c.forms new d.shape;
      pass = ap (form_failures r) c.is ∙ system_passes r c.place c.word_place c.name_place x.name c.forms new d.shape d.pass;
      agree = d.agree;
    }
