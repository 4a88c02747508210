-- The check of a script that is shown and read again.
use Rattle.std.proofs.Common.{◌≡◌, ℕ, true, false, cond, None, Some, List, [], ◌∷◌, ◌++◌, length, refl, sym, ap, ◌∙◌, subst}
use Rattle.std.specs.Prelude.{codes}
use Rattle.std.specs.List.{AllByRecursion}
use Rattle.std.proofs.lemmas.List.{length-map}
use Rattle.text_core.specs.declared.place.Place.{Place}
use Rattle.moxi_sexpr.specs.Lexing.{refusal}
use Rattle.moxi_sexpr.specs.Tree as form
use Rattle.moxi_term_reading.specs.declared.locals.Local.{Local}
use Rattle.moxi_term_reading.specs.Answer as answer
use Rattle.moxi_terms.specs.View.{ScopeState}
use Rattle.moxi_term_print.specs.Shown.{joined, Shows, ShowEach}
use Rattle.moxi_term_print.specs.Terms.{name_at, shown_variables, variable_names}
use Rattle.moxi_scripts.specs.declared.parts.Command.TheVariants.{Check}
use Rattle.moxi_scripts.specs.declared.parts.Turn.TheVariants.{AtKeyword}
use Rattle.moxi_scripts.specs.Attributes.{shape_holds}
use Rattle.moxi_scripts.specs.Checks as checks
use Rattle.moxi_scripts.specs.Checks.{CheckReading, labels_in}
use Rattle.moxi_scripts.specs.Collecting.{fails_if}
use Rattle.moxi_scripts.specs.Commands as commands
use Rattle.moxi_scripts.specs.Commands.{Reading, with_form, form_failures}
use Rattle.moxi_scripts.specs.Labels.{labels_after, labels_failures, no_labels}
use Rattle.moxi_scripts.specs.Lists.{all_entries, lists_in}
use Rattle.moxi_script_print.specs.Printing.{all_queries, shown_check, shown_conditions, shown_lists}
use Rattle.moxi_scripts.specs.QueryReading as query
use Rattle.moxi_scripts.specs.Script.{PlainCheck, PlainFormula, PlainSystem}
use Rattle.moxi_scripts.specs.Shapes.{HeadedForms}
use Rattle.moxi_scripts.specs.Systems.{locals_of}
use Rattle.moxi_scripts.specs.Valid.{IsValidCheck, IsValidQuery, check_variables, formula_names}
use Rattle.moxi_script_print.proofs.AgainAttributes.{IsTail, check_shape, has_lists, list_forms}
use Rattle.moxi_script_print.proofs.AgainLabels.{all_labels_read, made_labels}
use Rattle.moxi_script_print.proofs.AgainParts.{ReadsBack, both_nil}
use Rattle.moxi_script_print.proofs.AgainQueries.{are_three, queries_read}
use Rattle.moxi_script_print.proofs.AgainShapes.{is_listed}
use Rattle.moxi_script_print.proofs.AgainSystems.{AgreeLists, command_form, is_command, lists_read}

-- what is read of a check, among systems of these names
pub record AgreeCheck (names : List (List ℕ)) (c : PlainCheck) (r : CheckReading) : Type 0 where
  pub target : r.target ≡ name_at names c.system
  pub lists : AgreeLists c.inputs c.outputs c.locals r.lists
  pub labels : r.labels ≡ made_labels c.assumptions c.currents c.reachables
  pub queries : r.queries ≡ c.queries

abbrev pub target_forms : List ℕ → Place → form.Trees → HeadedForms
target_forms name p ts = record { name = name; primed = false; place = p; rest = ts }

record IsReadCheck (s : ScopeState) (names : List (List ℕ)) (c : PlainCheck) (ts : form.Trees) : Type 0 where
  pub agree : (p q : Place) → AgreeCheck names c (checks.content_of s p (target_forms (name_at names c.system) q ts))
  pub shape : shape_holds Check ts ≡ true
  pub pass : checks.content_failures s ts ≡ []

queries_there : (c : PlainCheck) → AllByRecursion (IsValidQuery (length c.assumptions) (length c.currents) (length c.reachables)) c.queries
    → AllByRecursion (IsValidQuery (length (formula_names c.assumptions)) (length (formula_names c.currents)) (length (formula_names c.reachables))) c.queries
queries_there c h =
    let name = λ (f : PlainFormula). f.name in
    subst (λ n. AllByRecursion (IsValidQuery n (length (formula_names c.currents)) (length (formula_names c.reachables))) c.queries) (sym (length-map c.assumptions name))
    (subst (λ n. AllByRecursion (IsValidQuery (length c.assumptions) n (length (formula_names c.reachables))) c.queries) (sym (length-map c.currents name))
    (subst (λ n. AllByRecursion (IsValidQuery (length c.assumptions) (length c.currents) n) c.queries) (sym (length-map c.reachables name)) h))

-- what is behind the lists
record AreReadConditions (s : ScopeState) (locals : List Local) (c : PlainCheck) (ts : form.Trees) : Type 0 where
  pub labels : labels_after s locals no_labels AtKeyword ts ≡ made_labels c.assumptions c.currents c.reachables
  pub labels_pass : labels_failures s locals no_labels AtKeyword ts ≡ []
  pub queries : query.queries_after (made_labels c.assumptions c.currents c.reachables) AtKeyword ts ≡ c.queries
  pub queries_pass : query.all_queries_failures (made_labels c.assumptions c.currents c.reachables) [] AtKeyword ts ≡ []
  pub tail : IsTail Check ts

conditions_read : (s : ScopeState) (back : ReadsBack s) (locals : List Local) (ss : List PlainSystem) (c : PlainCheck) (ts : form.Trees) → locals ≡ answer.locals_of (check_variables c) → IsValidCheck s ss c
    → ShowEach ts (shown_conditions s (variable_names (check_variables c)) c) → AreReadConditions s locals c ts
unfolding shown_conditions
conditions_read s back locals ss c ts same w h =
    let ls = made_labels c.assumptions c.currents c.reachables in
    let f = w.formulas in
    let l = all_labels_read s back (check_variables c) locals c.assumptions c.currents c.reachables ts (all_queries c) same f.assumptions f.currents f.reachables f.names h in
    let q = queries_read c.assumptions c.currents c.reachables c.queries [] l.more (are_three (formula_names c.assumptions) (formula_names c.currents) (formula_names c.reachables) f.names)
    (queries_there c w.queries.queries) w.queries.names l.show_more in
    record {
      labels = l.after ∙ (q.no_labels s locals).0;
      labels_pass = l.pass ∙ (q.no_labels s locals).1;
      queries = l.queries ls ∙ q.is;
      queries_pass = l.queries_pass ls [] ∙ q.pass;
      tail = l.tail q.tail;
    }

content_read : (s : ScopeState) (names : List (List ℕ)) (ss : List PlainSystem) (c : PlainCheck) (ts : form.Trees) → ReadsBack s → IsValidCheck s ss c
    → ShowEach ts (joined (shown_lists s c.inputs c.outputs c.locals) (shown_conditions s (variable_names (check_variables c)) c)) → IsReadCheck s names c ts
content_read s names ss c ts back w h =
    let vs = check_variables c in
    let a = has_lists s c.inputs c.outputs c.locals (shown_conditions s (variable_names vs) c) ts h in
    let d0 = conditions_read s back (answer.locals_of vs) ss c a.more refl w a.show_more in
    let forms = list_forms a.input_place a.input a.output_place a.output a.local_place a.local a.more in
    let l = lists_read s Check c.inputs c.outputs c.locals a.input_place a.output_place a.local_place a.input a.output a.local a.more back w.variables a.shows_inputs a.shows_outputs a.shows_locals d0.tail.known d0.tail.lists in
    let locals = locals_of s Check forms in
    let d = conditions_read s back locals ss c a.more l.same w a.show_more in
    let made : labels_in s forms ≡ made_labels c.assumptions c.currents c.reachables = d.labels in
    subst (IsReadCheck s names c) (sym a.is)
    (record {
      agree = λ p q. record {
        target = refl;
        lists = l.agree;
        labels = made;
        queries = ap (λ ls. query.queries_after ls AtKeyword a.more) made ∙ d.queries;
      };
      shape =
          check_shape a.input_place a.output_place a.local_place a.input a.output a.local a.more (is_listed a.input (shown_variables s c.inputs) a.shows_inputs).listed
          (is_listed a.output (shown_variables s c.outputs) a.shows_outputs).listed (is_listed a.local (shown_variables s c.locals) a.shows_locals).listed d.tail;
      pass =
          both_nil _ _ (both_nil _ _ l.pass d.labels_pass) (ap (λ ls. query.all_queries_failures ls [] AtKeyword a.more) made ∙ d.queries_pass);
    })

-- THE COMMAND

abbrev pub reading_checked : Reading → Place → HeadedForms → Reading
reading_checked r p h =
    record r {
      variables = r.variables ++ all_entries (lists_in r.scope Check h.rest);
      checked = true;
      check = Some (checks.content_of r.scope p h);
    }

pub record IsNextCheck (names : List (List ℕ)) (c : PlainCheck) (r : Reading) (f : form.Tree) : Type 0 where
  pub place : Place
  pub head : HeadedForms
  pub is : with_form r f ≡ reading_checked r place head
  pub pass : form_failures r f ≡ []
  pub agree : AgreeCheck names c (checks.content_of r.scope place head)

check_command : (r : Reading) (p q n : Place) (name : List ℕ) (ts : form.Trees) → r.checked ≡ false → shape_holds Check ts ≡ true
    → with_form r (command_form p q (codes "check-system") n name ts) ≡ reading_checked r p (target_forms name n ts)
check_command r p q n name ts first shape =
    let h = target_forms name n ts in
    ap (λ b.
    record r {
      variables = r.variables ++ cond b (all_entries (lists_in r.scope Check ts)) [];
      checked = true;
      check = commands.first_check r.check r.checked (cond b (Some (checks.content_of r.scope p h)) None);
    }) shape
    ∙ ap (λ b.
    record r {
      variables = r.variables ++ all_entries (lists_in r.scope Check ts);
      checked = true;
      check = commands.first_check r.check b (Some (checks.content_of r.scope p h));
    }) first

check_passes : (r : Reading) (p q n : Place) (name : List ℕ) (ts : form.Trees) → r.checked ≡ false → shape_holds Check ts ≡ true → checks.content_failures r.scope ts ≡ []
    → form_failures r (command_form p q (codes "check-system") n name ts) ≡ []
check_passes r p q n name ts first shape pass =
    ap (λ b. cond b (checks.content_failures r.scope ts) (refusal 12 p ∷ []) ++ fails_if r.checked 13 p) shape ∙ ap (λ xs. xs ++ fails_if r.checked 13 p) pass ∙ ap (λ b. fails_if b 13 p) first

pub check_read : (names : List (List ℕ)) (ss : List PlainSystem) (c : PlainCheck) (r : Reading) (f : form.Tree) → ReadsBack r.scope → IsValidCheck r.scope ss c → r.checked ≡ false → Shows f (shown_check r.scope names c)
    → IsNextCheck names c r f
check_read names ss c r f back w first h =
    let name = name_at names c.system in
    let x = is_command f (codes "check-system") name _ h in
    let d = content_read r.scope names ss c x.forms back w x.show in
    record {
      place = x.place;
      head = target_forms name x.name_place x.forms;
      is = ap (with_form r) x.is ∙ check_command r x.place x.word_place x.name_place name x.forms first d.shape;
      pass = ap (form_failures r) x.is ∙ check_passes r x.place x.word_place x.name_place name x.forms first d.shape d.pass;
      agree = d.agree x.place x.name_place;
    }
