-- A script that printable forms spell has names that can be spelled: its systems, its check and what its commands declare.
use Rattle.std.proofs.Common.{ℕ, Bool, true, false, cond, is_none, IfSome, Option, None, Some, List, [], ◌∷◌, ◌++◌, sym, subst}
use Rattle.std.specs.List.{AllByRecursion}
use Rattle.text_core.specs.declared.place.Place.{Place}
use Rattle.moxi_sexpr.specs.Printing.{ArePrintable, IsPrintable}
use Rattle.moxi_sexpr.specs.Tree as form
use Rattle.moxi_terms.specs.declared.data.Primes.{Primes}
use Rattle.moxi_terms.specs.declared.data.Primes.TheVariants.{Allowed, Refused}
use Rattle.moxi_term_reading.specs.declared.locals.Local.{Local}
use Rattle.moxi_term_reading.specs.Forms.{only_of, place_in, symbol_of}
use Rattle.name_maps.specs.Names.{place_of}
use Rattle.moxi_term_reading.specs.Reading.{Context}
use Rattle.moxi_terms.specs.View.{ScopeState}
use Rattle.moxi_term_print.specs.StandingNames.{IsSpellable, NamesAreSpellable}
use Rattle.moxi_scripts.specs.declared.parts.Command.TheVariants.{Check, System}
use Rattle.moxi_scripts.specs.declared.parts.Key.{Key}
use Rattle.moxi_scripts.specs.declared.parts.Key.TheVariants as keys
use Rattle.moxi_scripts.specs.declared.parts.Turn.{Turn}
use Rattle.moxi_scripts.specs.declared.parts.Turn.TheVariants.{AtKeyword, Behind, Passing}
use Rattle.moxi_scripts.specs.declared.parts.CommandName.{CommandName}
use Rattle.moxi_scripts.specs.declared.parts.CommandName.TheVariants as name
use Rattle.moxi_scripts.specs.declared.script.Query.{Query}
use Rattle.moxi_scripts.specs.declared.script.Subsystem.{Subsystem}
use Rattle.moxi_scripts.specs.declared.parts.Use.{Use}
use Rattle.moxi_scripts.specs.Attributes.{is_behind, shape_holds, turn_after}
use Rattle.moxi_scripts.specs.Checks as checks
use Rattle.moxi_scripts.specs.Checks.{CheckReading, labels_in}
use Rattle.moxi_scripts.specs.Commands as commands
use Rattle.moxi_scripts.specs.Commands.{Reading, command_named, first_check, logic_of, logic_symbol, nothing_read, reading_after, with_command, with_form}
use Rattle.moxi_scripts.specs.Declarations.{are_symbols}
use Rattle.moxi_scripts.specs.Formulas.{formula_term, term_of}
use Rattle.moxi_scripts.specs.Labels.{FormulaLists, is_formula_key, is_label, labels_after, labels_with, no_labels, with_formula, with_named}
use Rattle.moxi_scripts.specs.Lists.{value_at}
use Rattle.moxi_script_print.specs.NamesOfScripts.{DeclaresSpellable, HasSpellableNames, IsSpellableCheck, IsSpellableFormula, IsSpellableSystem}
use Rattle.moxi_scripts.specs.QueryReading.{forms_among, queries_after, queries_among, queries_in, queries_named, query_forms, query_of}
use Rattle.moxi_scripts.specs.Script.{PlainFormula, PlainScript}
use Rattle.moxi_scripts.specs.Shapes.{HeadedForms, NamedForm, headed, named, parts_of}
use Rattle.moxi_scripts.specs.Spelling as spelling
use Rattle.moxi_scripts.specs.Spelling.{SpellsScript, reading_of, subsystem_of}
use Rattle.moxi_scripts.specs.Systems as systems
use Rattle.moxi_scripts.specs.Systems.{SystemReading, bare_system, locals_of}
use Rattle.moxi_scripts.specs.Uses.{actuals_in, use_among, use_headed, use_named, use_of, uses_in}
use Rattle.moxi_script_print.proofs.NamesLaws.{ArePrintableIf, IsPrintableHeaded, IsPrintableIf, IsPrintableNamed, IsSpellableSymbol, chosen, headed_printable, list_spellable, named_printable, only_printable, parts_printable, symbol_spellable, value_printable}
use Rattle.moxi_script_print.proofs.NamesLawsScopes.{EnumerationStays, FunctionStays, SortStays, TermNamesAreSpellable, enumeration_declares, function_declares, sort_declares}
use Rattle.moxi_scripts.specs.laws.WholeParts.{all_append, all_map}
use Rattle.moxi_terms.proofs.ScopeLaws.{all_of}

-- SUBSYSTEMS

abbrev HasSpellableUse : Use → Type 0
HasSpellableUse u = IsSpellable u.name

use_spellable : (locals : List Local) (t : form.Tree) → IsPrintable t → AllByRecursion HasSpellableUse (use_of locals t)
use_spellable locals t h = by_name (named t) (named_printable t h)
  where
    by_head : (n : NamedForm) (o : Option HeadedForms) → IsSpellable n.name → AllByRecursion HasSpellableUse (use_headed locals n.name (place_in n.form) o)
    by_head n None g = tt
    by_head n (Some x) g =
        chosen (AllByRecursion HasSpellableUse) (are_symbols x.rest) (record { name = n.name; target = x.name; place = x.place; list = place_in n.form; actuals = actuals_in locals x.rest } ∷ []) [] (g, tt) tt

    by_parts : (n : NamedForm) (o : Option form.Trees) → IsSpellable n.name → AllByRecursion HasSpellableUse (use_among locals n o)
    by_parts n None g = tt
    by_parts n (Some ts) g = by_head n (headed ts) g

    by_name : (o : Option NamedForm) → IsPrintableNamed o → AllByRecursion HasSpellableUse (use_named locals o)
    by_name None g = tt
    by_name (Some n) g = by_parts n (parts_of n.form) g.0

uses_spellable : (locals : List Local) (turn : Turn) (ts : form.Trees) → ArePrintable ts → AllByRecursion HasSpellableUse (uses_in locals turn ts)
uses_spellable locals turn form.no_trees h = tt
uses_spellable locals turn (form.tree t ts) h =
    all_append HasSpellableUse (cond (is_behind keys.Subsystem turn) (use_of locals t) []) (uses_in locals (turn_after System turn t) ts)
    (chosen (AllByRecursion HasSpellableUse) (is_behind keys.Subsystem turn) (use_of locals t) [] (use_spellable locals t h.0) tt) (uses_spellable locals (turn_after System turn t) ts h.1)

-- QUERIES

abbrev HasSpellableQuery : Query → Type 0
HasSpellableQuery q = IsSpellable q.name

query_spellable : (ls : FormulaLists) (t : form.Tree) → IsPrintable t → AllByRecursion HasSpellableQuery (query_of ls t)
query_spellable ls t h = by_name (named t) (named_printable t h)
  where
    by_parts : (n : NamedForm) (o : Option form.Trees) → IsSpellable n.name → AllByRecursion HasSpellableQuery (queries_among ls n o)
    by_parts n None g = tt
    by_parts n (Some ts) g = (g, tt)

    by_name : (o : Option NamedForm) → IsPrintableNamed o → AllByRecursion HasSpellableQuery (queries_named ls o)
    by_name None g = tt
    by_name (Some n) g = by_parts n (parts_of n.form) g.0

queries_spellable : (ls : FormulaLists) (ts : form.Trees) → ArePrintable ts → AllByRecursion HasSpellableQuery (queries_in ls ts)
queries_spellable ls form.no_trees h = tt
queries_spellable ls (form.tree t ts) h = all_append HasSpellableQuery (query_of ls t) (queries_in ls ts) (query_spellable ls t h.0) (queries_spellable ls ts h.1)

forms_printable : (o : Option form.Trees) → ArePrintableIf o → ArePrintable (forms_among o)
forms_printable None g = tt
forms_printable (Some ts) g = g

query_forms_printable : (turn : Turn) (t : form.Tree) → IsPrintable t → ArePrintable (query_forms turn t)
query_forms_printable turn t h =
    chosen ArePrintable (is_behind keys.Query turn) (form.tree t form.no_trees) (cond (is_behind keys.Queries turn) (forms_among (parts_of t)) form.no_trees) (h, tt)
    (chosen ArePrintable (is_behind keys.Queries turn) (forms_among (parts_of t)) form.no_trees (forms_printable (parts_of t) (parts_printable t h)) tt)

all_queries_spellable : (ls : FormulaLists) (turn : Turn) (ts : form.Trees) → ArePrintable ts → AllByRecursion HasSpellableQuery (queries_after ls turn ts)
all_queries_spellable ls turn form.no_trees h = tt
all_queries_spellable ls turn (form.tree t ts) h =
    all_append HasSpellableQuery (queries_in ls (query_forms turn t)) (queries_after ls (turn_after Check turn t) ts) (queries_spellable ls (query_forms turn t) (query_forms_printable turn t h.0))
    (all_queries_spellable ls (turn_after Check turn t) ts h.1)

-- FORMULAS

record AreSpellableLabels (ls : FormulaLists) : Type 0 where
  pub assumptions : AllByRecursion IsSpellableFormula ls.assumptions.formulas
  pub currents : AllByRecursion IsSpellableFormula ls.currents.formulas
  pub reachables : AllByRecursion IsSpellableFormula ls.reachables.formulas

with_one_formula : (k : Key) (ls : FormulaLists) (f : PlainFormula) → AreSpellableLabels ls → IsSpellableFormula f → AreSpellableLabels (with_formula k ls f)
with_one_formula keys.Assumption ls f l g = record { assumptions = all_append IsSpellableFormula ls.assumptions.formulas (f ∷ []) l.assumptions (g, tt); currents = l.currents; reachables = l.reachables }
with_one_formula keys.Current ls f l g = record { assumptions = l.assumptions; currents = all_append IsSpellableFormula ls.currents.formulas (f ∷ []) l.currents (g, tt); reachables = l.reachables }
with_one_formula keys.Reachable ls f l g = record { assumptions = l.assumptions; currents = l.currents; reachables = all_append IsSpellableFormula ls.reachables.formulas (f ∷ []) l.reachables (g, tt) }
with_one_formula k ls f l g = l

module _ (names : TermNamesAreSpellable) where
  term_spellable : (s : ScopeState) (locals : List Local) (primes : Primes) (t : form.Tree) → IsPrintable t → NamesAreSpellable (term_of s locals primes t)
  term_spellable s locals primes t h = names (let c : Context = record { scope = s; variables = locals; primes = primes } in c) [] t h

  formula_spellable : (s : ScopeState) (locals : List Local) (primes : Primes) (o : Option form.Tree) → IsPrintableIf o → NamesAreSpellable (formula_term s locals primes o)
  formula_spellable s locals primes None h = tt
  formula_spellable s locals primes (Some t) h = term_spellable s locals primes t h

  named_spellable : (s : ScopeState) (locals : List Local) (k : Key) (ls : FormulaLists) (o : Option NamedForm) → AreSpellableLabels ls → IsPrintableNamed o → AreSpellableLabels (with_named s locals k ls o)
  named_spellable s locals k ls None l g = record { assumptions = l.assumptions; currents = l.currents; reachables = l.reachables }
  named_spellable s locals k ls (Some n) l g =
      let f : PlainFormula = record { name = n.name; term = term_of s locals Refused n.form } in
      chosen AreSpellableLabels (is_label ls n.name) ls (with_formula k ls f) l (with_one_formula k ls f l (record { name = g.0; term = term_spellable s locals Refused n.form g.1 }))

  label_spellable : (s : ScopeState) (locals : List Local) (turn : Turn) (ls : FormulaLists) (t : form.Tree) → AreSpellableLabels ls → IsPrintable t → AreSpellableLabels (labels_with s locals turn ls t)
  label_spellable s locals AtKeyword ls t l h = l
  label_spellable s locals (Behind k) ls t l h =
      chosen AreSpellableLabels (is_formula_key k) (with_named s locals k ls (named t)) ls (named_spellable s locals k ls (named t) l (named_printable t h)) l
  label_spellable s locals Passing ls t l h = l

  labels_spellable : (s : ScopeState) (locals : List Local) (ls : FormulaLists) (turn : Turn) (ts : form.Trees) → AreSpellableLabels ls → ArePrintable ts → AreSpellableLabels (labels_after s locals ls turn ts)
  labels_spellable s locals ls turn form.no_trees l h = l
  labels_spellable s locals ls turn (form.tree t ts) l h = labels_spellable s locals (labels_with s locals turn ls t) (turn_after Check turn t) ts (label_spellable s locals turn ls t l h.0) h.1

  -- SYSTEMS: whatever the names of systems are

  abbrev pub IsSpellableSystemReading : SystemReading → Type 0
  IsSpellableSystemReading r = (ss : List (List ℕ)) → IsSpellableSystem (spelling.system_of ss r)

  content_spellable : (s : ScopeState) (n : List ℕ) (ts : form.Trees) → IsSpellable n → ArePrintable ts → IsSpellableSystemReading (systems.content_of s n ts)
  content_spellable s n ts g h ss =
      let value = λ (k : Key). value_printable System k AtKeyword ts h in
      let locals = locals_of s System ts in
      record {
        name = g;
        inputs = list_spellable s (value_at System keys.Input ts) (value keys.Input);
        outputs = list_spellable s (value_at System keys.Output ts) (value keys.Output);
        locals = list_spellable s (value_at System keys.Local ts) (value keys.Local);
        init = formula_spellable s locals Refused (value_at System keys.Init ts) (value keys.Init);
        trans = formula_spellable s locals Allowed (value_at System keys.Trans ts) (value keys.Trans);
        inv = formula_spellable s locals Refused (value_at System keys.Inv ts) (value keys.Inv);
        subsystems = all_map (subsystem_of ss) (λ (b : Subsystem). IsSpellable b.name) (uses_in locals AtKeyword ts) (uses_spellable locals AtKeyword ts h);
      }

  bare_spellable : (n : List ℕ) → IsSpellable n → IsSpellableSystemReading (bare_system n)
  bare_spellable n g ss = record { name = g; inputs = tt; outputs = tt; locals = tt; init = tt; trans = tt; inv = tt; subsystems = tt }

  systems_spellable : (s : ScopeState) (ns : List (List ℕ)) (rs : List SystemReading) (o : Option HeadedForms) → AllByRecursion IsSpellableSystemReading rs → IsPrintableHeaded o
      → AllByRecursion IsSpellableSystemReading (systems.with_system s ns rs o)
  systems_spellable s ns rs None i g = i
  systems_spellable s ns rs (Some h) i g =
      let r = systems.shaped_system s h.name h.rest in
      let one = chosen IsSpellableSystemReading (shape_holds System h.rest) (systems.content_of s h.name h.rest) (bare_system h.name) (content_spellable s h.name h.rest g.0 g.1) (bare_spellable h.name g.0) in
      chosen (AllByRecursion IsSpellableSystemReading) (is_none (place_of ns h.name)) (rs ++ r ∷ []) rs (all_append IsSpellableSystemReading rs (r ∷ []) i (one, tt)) i

  -- CHECKS

  abbrev pub IsSpellableCheckReading : CheckReading → Type 0
  IsSpellableCheckReading c = (ss : List (List ℕ)) → IsSpellableCheck (spelling.check_of ss c)

  check_content_spellable : (s : ScopeState) (p : Place) (h : HeadedForms) → ArePrintable h.rest → IsSpellableCheckReading (checks.content_of s p h)
  check_content_spellable s p h g ss =
      let ts = h.rest in
      let value = λ (k : Key). value_printable Check k AtKeyword ts g in
      let l = labels_spellable s (locals_of s Check ts) no_labels AtKeyword ts (record { assumptions = tt; currents = tt; reachables = tt }) g in
      record {
        inputs = list_spellable s (value_at Check keys.Input ts) (value keys.Input);
        outputs = list_spellable s (value_at Check keys.Output ts) (value keys.Output);
        locals = list_spellable s (value_at Check keys.Local ts) (value keys.Local);
        assumptions = l.assumptions;
        currents = l.currents;
        reachables = l.reachables;
        queries = all_queries_spellable (labels_in s ts) AtKeyword ts g;
      }

  check_spellable : (s : ScopeState) (p : Place) (o : Option HeadedForms) → IsPrintableHeaded o → IfSome (checks.check_in s p o) IsSpellableCheckReading
  check_spellable s p None g = tt
  check_spellable s p (Some h) g = chosen (λ (o : Option CheckReading). IfSome o IsSpellableCheckReading) (shape_holds Check h.rest) (Some (checks.content_of s p h)) None (check_content_spellable s p h g.1) tt

  -- COMMANDS

  record IsSpellableReading (r : Reading) : Type 0 where
    pub logic : IfSome r.logic IsSpellable
    pub scope : DeclaresSpellable r.scope
    pub systems : AllByRecursion IsSpellableSystemReading r.systems
    pub check : IfSome r.check IsSpellableCheckReading

  logic_spellable : (old : Option (List ℕ)) (o : Option form.Tree) → IfSome old IsSpellable → IsPrintableIf o → IfSome (logic_of old o) IsSpellable
  logic_spellable old None h g = h
  logic_spellable old (Some t) h g = by_symbol (symbol_of t) (symbol_spellable t g)
    where
      by_symbol : (o : Option (List ℕ × Bool)) → IsSpellableSymbol o → IfSome (logic_symbol old o) IsSpellable
      by_symbol None l = h
      by_symbol (Some x) l = l

  first_spellable : (old : Option CheckReading) (checked : Bool) (new : Option CheckReading) → IfSome old IsSpellableCheckReading → IfSome new IsSpellableCheckReading
      → IfSome (first_check old checked new) IsSpellableCheckReading
  first_spellable old true new h g = h
  first_spellable old false new h g = g

  module _ (enumeration : EnumerationStays) (sorted : SortStays) (function : FunctionStays) where
    command_spellable : (c : CommandName) (r : Reading) (p : Place) (ts : form.Trees) → IsSpellableReading r → ArePrintable ts → IsSpellableReading (with_command c r p ts)
    command_spellable name.Logic r p ts i h = record { logic = logic_spellable r.logic (only_of ts) i.logic (only_printable ts h); scope = i.scope; systems = i.systems; check = i.check }
    command_spellable name.PassedOver r p ts i h = i
    command_spellable name.Enumeration r p ts i h =
        record { logic = i.logic; scope = enumeration_declares names enumeration sorted function r.scope i.scope ts h; systems = i.systems; check = i.check }
    command_spellable name.Sort r p ts i h = record { logic = i.logic; scope = sort_declares names enumeration sorted function r.scope i.scope p ts h; systems = i.systems; check = i.check }
    command_spellable name.Function r p ts i h =
        record { logic = i.logic; scope = function_declares names enumeration sorted function r.scope i.scope p ts h; systems = i.systems; check = i.check }
    command_spellable name.System r p ts i h = record {
      logic = i.logic;
      scope = i.scope;
      systems = systems_spellable r.scope r.system_names r.systems (headed ts) i.systems (headed_printable ts h);
      check = i.check;
    }
    command_spellable name.Check r p ts i h = record {
      logic = i.logic;
      scope = i.scope;
      systems = i.systems;
      check = first_spellable r.check r.checked (checks.check_of r.scope p ts) i.check (check_spellable r.scope p (headed ts) (headed_printable ts h));
    }

    form_spellable : (r : Reading) (t : form.Tree) → IsSpellableReading r → IsPrintable t → IsSpellableReading (with_form r t)
    form_spellable r (form.atom p a) i h = i
    form_spellable r (form.list p ts) i h = by_head (headed ts) (headed_printable ts h)
      where
        by_name : (o : Option CommandName) (us : form.Trees) → ArePrintable us → IsSpellableReading (commands.with_known o r p us)
        by_name None us g = i
        by_name (Some c) us g = command_spellable c r p us i g

        by_head : (o : Option HeadedForms) → IsPrintableHeaded o → IsSpellableReading (commands.with_headed r p o)
        by_head None g = i
        by_head (Some x) g = by_name (command_named x.name) x.rest g.1

    forms_spellable : (r : Reading) (ts : form.Trees) → IsSpellableReading r → ArePrintable ts → IsSpellableReading (reading_after r ts)
    forms_spellable r form.no_trees i h = i
    forms_spellable r (form.tree t ts) i h = forms_spellable (with_form r t) ts (form_spellable r t i h.0) h.1

    reading_spellable : (ts : form.Trees) → ArePrintable ts → IsSpellableReading (reading_of ts)
    reading_spellable ts h =
        forms_spellable nothing_read ts
        (record { logic = tt; scope = record { scope = record { enumerations = tt; constants = tt; functions = tt }; sorts = tt; functions = tt }; systems = tt; check = tt }) h

    pub script_spellable : (ts : form.Trees) (end : Place) (s : PlainScript) → ArePrintable ts → SpellsScript ts end s → HasSpellableNames s
    script_spellable ts end s h g =
        let r = reading_of ts in
        let i = reading_spellable ts h in
        let check : IsSpellableCheckReading g.check = subst (λ (o : Option CheckReading). IfSome o IsSpellableCheckReading) g.there i.check in
        subst HasSpellableNames (sym g.script) (record {
          logic = i.logic;
          scope = i.scope;
          systems = all_map (spelling.system_of r.system_names) IsSpellableSystem r.systems
              (all_of IsSpellableSystemReading (λ (x : SystemReading). IsSpellableSystem (spelling.system_of r.system_names x)) r.systems (λ x f. f r.system_names) i.systems);
          check = check r.system_names;
        })
