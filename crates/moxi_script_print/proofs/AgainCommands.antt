-- The commands of a script that are shown and read again, one behind the other.
use Rattle.std.proofs.Common.{◌≡◌, ℕ, ◌<◌, true, false, Option, None, Some, List, [], ◌∷◌, ◌++◌, map, take, length, refl, sym, ap, ◌∙◌, subst, append_assoc, append-nil, arith}
use Rattle.std.specs.Prelude.{codes, slice_get}
use Rattle.std.specs.List.{AllByRecursion}
use Rattle.std.specs.Str.{bytes_eq}
use Rattle.moxi_sexpr.specs.Tree.{Tree, Trees, no_trees, tree}
use Rattle.moxi_terms.specs.declared.data.Primes.TheVariants.{Refused}
use Rattle.moxi_terms.specs.declared.term.Enumeration.{Enumeration}
use Rattle.moxi_terms.specs.declared.term.NamedSort.{NamedSort}
use Rattle.moxi_terms.specs.Names.{all_constants, enumeration_names, function_names, is_among, is_term_name, no_scope, sort_names}
use Rattle.name_maps.specs.Names.{are_fresh, place_of}
use Rattle.moxi_terms.specs.Sorts.{IsSort}
use Rattle.moxi_terms.specs.Tree.{PlainFunction}
use Rattle.moxi_terms.specs.View.{ScopeState}
use Rattle.moxi_term_print.specs.Declarations.{shown_function, shown_named_sort}
use Rattle.moxi_term_print.specs.Shown.{word, group, Showns, no_showns, shown, joined, Shows, ShowEach}
use Rattle.moxi_term_print.specs.WellScoped.{IsWellScoped}
use Rattle.moxi_term_print.specs.Terms.{shown_sort, shown_term, shown_variables, symbol, variable_names}
use Rattle.moxi_term_print.specs.laws.StandingShapes as shape
use Rattle.moxi_scripts.specs.declared.parts.Command.TheVariants.{System}
use Rattle.moxi_scripts.specs.declared.parts.Declared.{Declared}
use Rattle.moxi_scripts.specs.Commands.{Reading, commands_failures, form_failures, nothing_read, reading_after, with_form}
use Rattle.moxi_scripts.specs.Lists.{all_entries, lists_in}
use Rattle.moxi_script_print.specs.Printing.{shown_enumerations, shown_functions, shown_logic, shown_sorts, shown_systems}
use Rattle.moxi_scripts.specs.Script.{PlainSystem, variables_in}
use Rattle.moxi_scripts.specs.Systems.{SystemReading, content_of}
use Rattle.moxi_scripts.specs.Valid.{IsValidFunction, IsValidScope, IsValidSystem, before, is_fixed_sort, is_fixed_term, over, system_names}
use Rattle.moxi_script_print.proofs.AgainDeclarations.{IsNewEnumeration, IsNewFunction, Reads, enumeration_read, function_read, sort_definition_read, sort_new}
use Rattle.moxi_script_print.proofs.AgainEntries.{agree_all}
use Rattle.moxi_script_print.proofs.AgainParts.{AllReadBack, ReadsBack, SortsRead, SortsStand, TermsRead, all_both, some_if}
use Rattle.moxi_script_print.proofs.AgainScopes.{same_sorts_shown, same_variables_shown, term_shown}
use Rattle.moxi_script_print.proofs.AgainSystems.{AgreeSystem, all_agree, command_form, is_command, system_read}
use Rattle.moxi_scripts.specs.laws.ListLaws.{get_left, get_right}
use Rattle.moxi_scripts.specs.laws.WholeNames.{Absent, absent_parts, fresh_first, fresh_split, is_absent, or_both, or_parts, other_way}
use Rattle.moxi_scripts.specs.laws.WholeParts.{all_append, all_parts, get_below, map_append}
use Rattle.moxi_scripts.specs.laws.WholeScopes.{constants_append, take_whole, term_new}
use Rattle.moxi_terms.proofs.ScopeLaws.{all_of}

-- what is read so far; no check is read
abbrev pub reading_at : Option (List ℕ) → ScopeState → List (List ℕ) → List (List ℕ) → List Declared → List SystemReading → Reading
reading_at logic s names systems ds rs = record { logic = logic; scope = s; term_names = names; system_names = systems; variables = ds; systems = rs; repeated = []; checked = false; check = None }

-- behind some of the forms this is read, no test of them fails, and the others are shown so
pub record Goes (r then : Reading) (rest : Showns) (ts : Trees) : Type 0 where
  pub forms : Trees
  pub show : ShowEach forms rest
  pub after : reading_after r ts ≡ reading_after then forms
  pub pass : commands_failures r ts ≡ commands_failures then forms

go_nowhere : (r : Reading) (rest : Showns) (ts : Trees) → ShowEach ts rest → Goes r r rest ts
go_nowhere r rest ts h = record { forms = ts; show = h; after = refl; pass = refl }

go_one : (r next then : Reading) (rest : Showns) (t : Tree) (ts : Trees) → Reads r next t → Goes next then rest ts → Goes r then rest (tree t ts)
go_one r next then rest t ts one g = record {
  forms = g.forms;
  show = g.show;
  after = ap (λ r. reading_after r ts) one.is ∙ g.after;
  pass = ap (λ xs. xs ++ commands_failures (with_form r t) ts) one.pass ∙ ap (λ r. commands_failures r ts) one.is ∙ g.pass;
}

-- LISTS

fresh_absent : (before names : List (List ℕ)) → are_fresh before names ≡ true → AllByRecursion (Absent before) names
fresh_absent before [] h = tt
fresh_absent before (x ∷ xs) h =
    let p = fresh_first before x xs h in
    (p.0, all_of (Absent (before ++ x ∷ [])) (Absent before) xs (λ y k. (absent_parts before (x ∷ []) y k).0) (fresh_absent (before ++ x ∷ []) xs p.1))

-- LOGIC

pub logic_goes : (o : Option (List ℕ)) (rest : Showns) (ts : Trees) → ShowEach ts (joined (shown_logic o) rest) → Goes nothing_read (reading_at o no_scope [] [] [] []) rest ts
logic_goes None rest ts h = go_nowhere nothing_read rest ts h
logic_goes (Some name) rest no_trees h = absurd h
logic_goes (Some name) rest (tree t ts) h =
    let c = is_command t (codes "set-logic") name no_showns h.0 in
    let is : t ≡ command_form c.place c.word_place (codes "set-logic") c.name_place name no_trees =
    c.is ∙ ap (command_form c.place c.word_place (codes "set-logic") c.name_place name) (shape.is_none c.forms c.show) in
    let r = reading_at (Some name) no_scope [] [] [] [] in
    go_one nothing_read r r rest t ts (record { is = ap (with_form nothing_read) is; pass = ap (form_failures nothing_read) is }) (go_nowhere r rest ts h.1)

-- ENUMERATIONS

abbrev enumerated : List Enumeration → List (List ℕ)
enumerated es = map (λ (e : Enumeration). e.name) es

abbrev only_enumerations : List Enumeration → ScopeState
only_enumerations es = record { enumerations = es; sorts = []; functions = [] }

abbrev reading_enumerations : Option (List ℕ) → List Enumeration → Reading
reading_enumerations logic es = reading_at logic (only_enumerations es) (all_constants es) [] [] []

one_more : (es : List Enumeration) (e : Enumeration) → all_constants (es ++ e ∷ []) ≡ all_constants es ++ e.constants
one_more es e = constants_append es (e ∷ []) ∙ ap (λ cs. all_constants es ++ cs) (append-nil e.constants)

-- enumerations that can be declared behind those that are there
record CanFollow (there es : List Enumeration) : Type 0 where
  pub some : AllByRecursion (λ (e : Enumeration). 0 < length e.constants) es
  pub names : are_fresh (enumerated there) (enumerated es) ≡ true
  pub free : AllByRecursion (λ (name : List ℕ). is_fixed_sort name ≡ false) (enumerated es)
  pub constants : are_fresh (all_constants there) (all_constants es) ≡ true
  pub constants_free : AllByRecursion (λ (name : List ℕ). is_fixed_term name ≡ false) (all_constants es)

follow_rest : (there : List Enumeration) (e : Enumeration) (es : List Enumeration) → CanFollow there (e ∷ es) → CanFollow (there ++ e ∷ []) es
follow_rest there e es w = record {
  some = w.some.1;
  names = ap (λ ns. are_fresh ns (enumerated es)) (map_append (λ (e : Enumeration). e.name) there (e ∷ [])) ∙ (fresh_first (enumerated there) e.name (enumerated es) w.names).1;
  free = w.free.1;
  constants = ap (λ ns. are_fresh ns (all_constants es)) (one_more there e) ∙ (fresh_split (all_constants there) e.constants (all_constants es) w.constants).1;
  constants_free = (all_parts (λ (name : List ℕ). is_fixed_term name ≡ false) e.constants (all_constants es) w.constants_free).1;
}

follow_new : (there : List Enumeration) (e : Enumeration) (es : List Enumeration) → CanFollow there (e ∷ es) → IsNewEnumeration (only_enumerations there) (all_constants there) e
follow_new there e es w =
    let c = fresh_split (all_constants there) e.constants (all_constants es) w.constants in
    let free = λ (name : List ℕ). is_fixed_term name ≡ false in
    let s = only_enumerations there in
    record {
      some = w.some.0;
      sort = sort_new s e.name w.free.0 (fresh_first (enumerated there) e.name (enumerated es) w.names).0 refl;
      constants = all_both free (Absent (all_constants there)) (λ (name : List ℕ). is_term_name s name ≡ false) e.constants
          (λ name o a. term_new s name (record { free = o; constants = a; functions = refl })) (all_parts free e.constants (all_constants es) w.constants_free).0 (fresh_absent (all_constants there) e.constants c.0);
      differ = c.0;
      behind = c.0;
    }

enumerations_go : (logic : Option (List ℕ)) (there es : List Enumeration) (rest : Showns) (ts : Trees) → CanFollow there es → ShowEach ts (joined (shown_enumerations es) rest)
    → Goes (reading_enumerations logic there) (reading_enumerations logic (there ++ es)) rest ts
enumerations_go logic there [] rest ts w h = subst (λ es. Goes (reading_enumerations logic there) (reading_enumerations logic es) rest ts) (sym (append-nil there)) (go_nowhere (reading_enumerations logic there) rest ts h)
enumerations_go logic there (e ∷ es) rest no_trees w h = absurd h
enumerations_go logic there (e ∷ es) rest (tree t ts) w h =
    let r = reading_enumerations logic there in
    let next = reading_enumerations logic (there ++ e ∷ []) in
    let one = enumeration_read r e t (follow_new there e es w) h.0 in
    let is : with_form r t ≡ next = one.is ∙ ap (λ ns. reading_at logic (only_enumerations (there ++ e ∷ [])) ns [] [] []) (sym (one_more there e)) in
    go_one r next (reading_enumerations logic (there ++ e ∷ es)) rest t ts (record { is = is; pass = one.pass })
    (subst (λ es. Goes next (reading_enumerations logic es) rest ts) (append_assoc there (e ∷ []) es) (enumerations_go logic (there ++ e ∷ []) es rest ts (follow_rest there e es w) h.1))

-- SORTS

abbrev sorted : List NamedSort → List (List ℕ)
sorted ns = map (λ (n : NamedSort). n.name) ns

abbrev without_functions : List Enumeration → List NamedSort → ScopeState
without_functions es ns = record { enumerations = es; sorts = ns; functions = [] }

abbrev reading_sorts : Option (List ℕ) → List Enumeration → List NamedSort → Reading
reading_sorts logic es ns = reading_at logic (without_functions es ns) (all_constants es) [] [] []

sorts_go : (logic : Option (List ℕ)) (u : ScopeState) (there ns : List NamedSort) (rest : Showns) (ts : Trees) → AllReadBack u.enumerations → AllByRecursion (λ (n : NamedSort). IsSort u.enumerations n.sort) ns
    → are_fresh (enumeration_names u ++ sorted there) (sorted ns) ≡ true → AllByRecursion (λ (name : List ℕ). is_fixed_sort name ≡ false) (sorted ns) → ShowEach ts (joined (shown_sorts u ns) rest)
    → Goes (reading_sorts logic u.enumerations there) (reading_sorts logic u.enumerations (there ++ ns)) rest ts
sorts_go logic u there [] rest ts back i d free h =
    subst (λ ns. Goes (reading_sorts logic u.enumerations there) (reading_sorts logic u.enumerations ns) rest ts) (sym (append-nil there)) (go_nowhere (reading_sorts logic u.enumerations there) rest ts h)
sorts_go logic u there (n ∷ ns) rest no_trees back i d free h = absurd h
sorts_go logic u there (n ∷ ns) rest (tree t ts) back i d free h =
    let es = u.enumerations in
    let s = without_functions es there in
    let r = reading_sorts logic es there in
    let next = reading_sorts logic es (there ++ n ∷ []) in
    let p = fresh_first (enumeration_names u ++ sorted there) n.name (sorted ns) d in
    let a = absent_parts (enumeration_names u) (sorted there) n.name p.0 in
    let show : Shows t (shown_named_sort s n) =
    subst (λ x. Shows t (group (shown (word (codes "define-sort")) (shown (symbol n.name) (shown (group no_showns) (shown x no_showns)))))) (same_sorts_shown u s refl n.sort) h.0 in
    let one = sort_definition_read r n t (back s refl) i.0 (sort_new s n.name free.0 a.0 a.1) show in
    let names : (enumeration_names u ++ sorted there) ++ n.name ∷ [] ≡ enumeration_names u ++ sorted (there ++ n ∷ []) =
    append_assoc (enumeration_names u) (sorted there) (n.name ∷ []) ∙ ap (λ xs. enumeration_names u ++ xs) (sym (map_append (λ (n : NamedSort). n.name) there (n ∷ []))) in
    go_one r next (reading_sorts logic es (there ++ n ∷ ns)) rest t ts one
    (subst (λ ns. Goes next (reading_sorts logic es ns) rest ts) (append_assoc there (n ∷ []) ns)
    (sorts_go logic u (there ++ n ∷ []) ns rest ts back i.1 (ap (λ xs. are_fresh xs (sorted ns)) (sym names) ∙ p.1) free.1 h.1))

-- FUNCTIONS

abbrev called : List PlainFunction → List (List ℕ)
called fs = map (λ (f : PlainFunction). f.name) fs

abbrev with_functions : ScopeState → List PlainFunction → ScopeState
with_functions u fs = record { enumerations = u.enumerations; sorts = u.sorts; functions = fs }

abbrev pub term_names : ScopeState → List PlainFunction → List (List ℕ)
term_names u fs = all_constants u.enumerations ++ called fs

abbrev reading_functions : Option (List ℕ) → ScopeState → List PlainFunction → List Declared → Reading
reading_functions logic u fs ds = reading_at logic (with_functions u fs) (term_names u fs) [] ds []

-- no variable has the name of a constant or a function
abbrev pub AreUntaken : ScopeState → List Declared → Type 0
AreUntaken u ds = AllByRecursion (λ (d : Declared). is_term_name u d.name ≡ false) ds

record GoFunctions (logic : Option (List ℕ)) (u : ScopeState) (there fs : List PlainFunction) (ds : List Declared) (rest : Showns) (ts : Trees) : Type 0 where
  pub variables : List Declared
  pub untaken : AreUntaken u variables
  pub goes : Goes (reading_functions logic u there ds) (reading_functions logic u (there ++ fs) variables) rest ts

-- a function that is declared behind those that are there
function_new : (u : ScopeState) (there : List PlainFunction) (f : PlainFunction) (fs : List PlainFunction) → u.functions ≡ there ++ f ∷ fs → IsValidFunction u (length there) f → IsSort u.enumerations f.result
    → are_fresh (term_names u there) (called (f ∷ fs)) ≡ true → is_fixed_term f.name ≡ false → IsNewFunction (with_functions u there) (term_names u there) f
function_new u there f fs all w i d free =
    let p = fresh_first (term_names u there) f.name (called fs) d in
    let a = absent_parts (all_constants u.enumerations) (called there) f.name p.0 in
    record {
      name = term_new (with_functions u there) f.name (record { free = free; constants = a.0; functions = a.1 });
      behind = is_absent (term_names u there) f.name p.0;
      parameters = w.parameters.sorts;
      differ = w.parameters.names.differ;
      result = i;
      body = subst (λ gs. IsWellScoped (over (with_functions u gs) f.parameters Refused) [] f.body f.result) (ap (take (length there)) all ∙ take_whole there (f ∷ fs)) w.body;
    }

-- it is shown as in the scope before it
function_shown : (u : ScopeState) (there : List PlainFunction) (f : PlainFunction) (fs : List PlainFunction) → u.functions ≡ there ++ f ∷ fs
    → IsWellScoped (over (with_functions u there) f.parameters Refused) [] f.body f.result → shown_function u f ≡ shown_function (with_functions u there) f
function_shown u there f fs all stands =
    let s = with_functions u there in
    let names = variable_names f.parameters in
    let there_too : (n : ℕ) (g : PlainFunction) → slice_get there n ≡ Some g → slice_get u.functions n ≡ Some g =
    λ n g e. ap (λ gs. slice_get gs n) all ∙ get_left there (f ∷ fs) n (get_below there n g e) ∙ e in
    ap (λ x. group (shown (word (codes "define-fun")) (shown (symbol f.name) (shown (group x) (shown (shown_sort u f.result) (shown (shown_term u names [] f.body) no_showns)))))) (same_variables_shown u s refl f.parameters)
    ∙ ap (λ x. group (shown (word (codes "define-fun")) (shown (symbol f.name) (shown (group (shown_variables s f.parameters)) (shown x (shown (shown_term u names [] f.body) no_showns)))))) (same_sorts_shown u s refl f.result)
    ∙ ap (λ x. group (shown (word (codes "define-fun")) (shown (symbol f.name) (shown (group (shown_variables s f.parameters)) (shown (shown_sort s f.result) (shown x no_showns))))))
    (term_shown (over s f.parameters Refused) u refl there_too names [] [] f.body f.result stands)

functions_go : (logic : Option (List ℕ)) (u : ScopeState) (there fs : List PlainFunction) (ds : List Declared) (rest : Showns) (ts : Trees) → IsValidScope u → AllReadBack u.enumerations → u.functions ≡ there ++ fs
    → are_fresh (term_names u there) (called fs) ≡ true → AllByRecursion (λ (name : List ℕ). is_fixed_term name ≡ false) (called fs) → AreUntaken u ds → ShowEach ts (joined (shown_functions u fs) rest)
    → GoFunctions logic u there fs ds rest ts
functions_go logic u there [] ds rest ts w back all d free n h = record {
  variables = ds;
  untaken = n;
  goes = subst (λ fs. Goes (reading_functions logic u there ds) (reading_functions logic u fs ds) rest ts) (sym (append-nil there)) (go_nowhere (reading_functions logic u there ds) rest ts h);
}
functions_go logic u there (f ∷ fs) ds rest no_trees w back all d free n h = absurd h
functions_go logic u there (f ∷ fs) ds rest (tree t ts) w back all d free n h =
    let s = with_functions u there in
    let r = reading_functions logic u there ds in
    let here : slice_get u.functions (length there) ≡ Some f = ap (λ gs. slice_get gs (length there)) all ∙ get_right there (f ∷ fs) (length there) 0 (omega arith) in
    let wf = w.functions (length there) f here in
    let new = function_new u there f fs all wf (w.scope.functions (length there) f here).result d free.0 in
    let one = function_read r f t (back s refl) new (subst (Shows t) (function_shown u there f fs all new.body) h.0) in
    let next = reading_functions logic u (there ++ f ∷ []) (ds ++ one.parameters) in
    let names : term_names u (there ++ f ∷ []) ≡ term_names u there ++ f.name ∷ [] =
    ap (λ xs. all_constants u.enumerations ++ xs) (map_append (λ (f : PlainFunction). f.name) there (f ∷ [])) ∙ sym (append_assoc (all_constants u.enumerations) (called there) (f.name ∷ [])) in
    let is : with_form r t ≡ next = one.reads.is ∙ ap (λ ns. reading_at logic (with_functions u (there ++ f ∷ [])) ns [] (ds ++ one.parameters) []) (sym names) in
    let more = functions_go logic u (there ++ f ∷ []) fs (ds ++ one.parameters) rest ts w back (all ∙ sym (append_assoc there (f ∷ []) fs))
    (ap (λ ns. are_fresh ns (called fs)) names ∙ (fresh_first (term_names u there) f.name (called fs) d).1) free.1
    (all_append (λ (d : Declared). is_term_name u d.name ≡ false) ds one.parameters n (agree_all (λ (name : List ℕ). is_term_name u name ≡ false) f.parameters one.parameters one.agree wf.parameters.names.free)) h.1 in
    record {
      variables = more.variables;
      untaken = more.untaken;
      goes = go_one r next (reading_functions logic u (there ++ f ∷ fs) more.variables) rest t ts (record { is = is; pass = one.reads.pass })
          (subst (λ gs. Goes next (reading_functions logic u gs more.variables) rest ts) (append_assoc there (f ∷ []) fs) more.goes);
    }

-- SYSTEMS

abbrev pub AgreeSystems : List (List ℕ) → List PlainSystem → List PlainSystem → List SystemReading → Type 0
AgreeSystems names all [] [] = Unit {0}
AgreeSystems names all [] (r ∷ rs) = ⊥
AgreeSystems names all (x ∷ xs) [] = ⊥
AgreeSystems names all (x ∷ xs) (r ∷ rs) = AgreeSystem names all x r × AgreeSystems names all xs rs

agree_more : (names : List (List ℕ)) (all xs ys : List PlainSystem) (rs qs : List SystemReading) → AgreeSystems names all xs rs → AgreeSystems names all ys qs → AgreeSystems names all (xs ++ ys) (rs ++ qs)
agree_more names all [] ys [] qs h g = g
agree_more names all [] ys (r ∷ rs) qs h g = absurd h
agree_more names all (x ∷ xs) ys [] qs h g = absurd h
agree_more names all (x ∷ xs) ys (r ∷ rs) qs h g = (h.0, agree_more names all xs ys rs qs h.1 g)

record GoSystems (logic : Option (List ℕ)) (u : ScopeState) (terms names : List (List ℕ)) (all there xs : List PlainSystem) (ds : List Declared) (rs : List SystemReading) (rest : Showns) (ts : Trees) : Type 0 where
  pub variables : List Declared
  pub untaken : AreUntaken u variables
  pub systems : List SystemReading
  pub agree : AgreeSystems names all (there ++ xs) systems
  pub goes : Goes (reading_at logic u terms (system_names there) ds rs) (reading_at logic u terms (system_names (there ++ xs)) variables systems) rest ts

systems_go : (logic : Option (List ℕ)) (u : ScopeState) (terms names : List (List ℕ)) (all there xs : List PlainSystem) (ds : List Declared) (rs : List SystemReading) (rest : Showns) (ts : Trees) → ReadsBack u
    → AllByRecursion (IsValidSystem u all) xs → are_fresh (system_names there) (system_names xs) ≡ true → AreUntaken u ds → AgreeSystems names all there rs → ShowEach ts (joined (shown_systems u names xs) rest)
    → GoSystems logic u terms names all there xs ds rs rest ts
systems_go logic u terms names all there [] ds rs rest ts back w d n a h =
    let r = reading_at logic u terms (system_names there) ds rs in
    record {
      variables = ds;
      untaken = n;
      systems = rs;
      agree = subst (λ xs. AgreeSystems names all xs rs) (sym (append-nil there)) a;
      goes = subst (λ xs. Goes r (reading_at logic u terms (system_names xs) ds rs) rest ts) (sym (append-nil there)) (go_nowhere r rest ts h);
    }
systems_go logic u terms names all there (x ∷ xs) ds rs rest no_trees back w d n a h = absurd h
systems_go logic u terms names all there (x ∷ xs) ds rs rest (tree t ts) back w d n a h =
    let r = reading_at logic u terms (system_names there) ds rs in
    let p = fresh_first (system_names there) x.name (system_names xs) d in
    let one = system_read names all x r t back w.0 (is_absent (system_names there) x.name p.0) h.0 in
    let l = lists_in u System one.forms in
    let variables = ds ++ all_entries l in
    let systems = rs ++ content_of u x.name one.forms ∷ [] in
    let next = reading_at logic u terms (system_names (there ++ x ∷ [])) variables systems in
    let end : system_names (there ++ x ∷ []) ≡ system_names there ++ x.name ∷ [] = map_append (λ (x : PlainSystem). x.name) there (x ∷ []) in
    let is : with_form r t ≡ next = one.is ∙ ap (λ ns. reading_at logic u terms ns variables systems) (sym end) in
    let new = all_append (λ (d : Declared). is_term_name u d.name ≡ false) ds (all_entries l) n
    (agree_all (λ (name : List ℕ). is_term_name u name ≡ false) (variables_in x) (all_entries l) (all_agree x.inputs x.outputs x.locals l one.agree.lists) w.0.variables.names.free) in
    let more = systems_go logic u terms names all (there ++ x ∷ []) xs variables systems rest ts back w.1 (ap (λ ns. are_fresh ns (system_names xs)) end ∙ p.1) new
    (agree_more names all there (x ∷ []) rs (content_of u x.name one.forms ∷ []) a (one.agree, tt)) h.1 in
    record {
      variables = more.variables;
      untaken = more.untaken;
      systems = more.systems;
      agree = subst (λ xs. AgreeSystems names all xs more.systems) (append_assoc there (x ∷ []) xs) more.agree;
      goes = go_one r next (reading_at logic u terms (system_names (there ++ x ∷ xs)) more.variables more.systems) rest t ts (record { is = is; pass = one.pass })
          (subst (λ xs. Goes next (reading_at logic u terms (system_names xs) more.variables more.systems) rest ts) (append_assoc there (x ∷ []) xs) more.goes);
    }

-- ALL OF THEM

go_on : (r mid then : Reading) (xs rest : Showns) (ts : Trees) (g : Goes r mid xs ts) → Goes mid then rest g.forms → Goes r then rest ts
go_on r mid then xs rest ts g n = record { forms = n.forms; show = n.show; after = g.after ∙ n.after; pass = g.pass ∙ n.pass }

no_bool : (names : List (List ℕ)) → AllByRecursion (λ (name : List ℕ). is_fixed_sort name ≡ false) names → Absent names (codes "Bool")
no_bool [] a = refl
no_bool (name ∷ names) a = or_both (bytes_eq (codes "Bool") name) _ (other_way name (codes "Bool") (or_parts (bytes_eq name (codes "Bool")) (bytes_eq name (codes "BitVec")) a.0).0) (no_bool names a.1)

pub all_back : (terms : TermsRead) (sorts : SortsRead) (stand : SortsStand) (u : ScopeState) → IsValidScope u → AllReadBack u.enumerations
all_back terms sorts stand u w s e =
    let f = fresh_split [] (enumeration_names u) (sort_names u) w.sorts.differ in
    let o = all_parts (λ (name : List ℕ). is_fixed_sort name ≡ false) (enumeration_names u) (sort_names u) w.sorts.free in
    let same : enumeration_names u ≡ enumeration_names s = ap enumerated (sym e) in
    let differ : are_fresh [] (enumeration_names s) ≡ true = ap (are_fresh []) (sym same) ∙ f.0 in
    let absent = no_bool (enumeration_names u) o.0 in
    let apart : is_among (enumeration_names s) (codes "Bool") ≡ false =
    ap (λ ns. is_among ns (codes "Bool")) (sym same) ∙ some_if (place_of (enumeration_names u) (codes "Bool")) (is_absent (enumeration_names u) (codes "Bool") absent) in
    record { sorts = λ around sort f i h. sorts s around sort f (stand s sort differ apart i) h; terms = terms }

-- all declarations of a scope
pub record IsDeclared (logic : Option (List ℕ)) (u : ScopeState) (rest : Showns) (ts : Trees) : Type 0 where
  pub variables : List Declared
  pub untaken : AreUntaken u variables
  pub goes : Goes nothing_read (reading_at logic u (term_names u u.functions) [] variables []) rest ts

pub declarations_go : (logic : Option (List ℕ)) (u : ScopeState) (rest : Showns) (ts : Trees) → IsValidScope u → AllReadBack u.enumerations
    → ShowEach ts (joined (shown_logic logic) (joined (shown_enumerations u.enumerations) (joined (shown_sorts u u.sorts) (joined (shown_functions u u.functions) rest)))) → IsDeclared logic u rest ts
declarations_go logic u rest ts w back h =
    let functions = joined (shown_functions u u.functions) rest in
    let sorts = joined (shown_sorts u u.sorts) functions in
    let enumerations = joined (shown_enumerations u.enumerations) sorts in
    let fs = fresh_split [] (enumeration_names u) (sort_names u) w.sorts.differ in
    let os = all_parts (λ (name : List ℕ). is_fixed_sort name ≡ false) (enumeration_names u) (sort_names u) w.sorts.free in
    let ft = fresh_split [] (all_constants u.enumerations) (function_names u) w.terms.differ in
    let ot = all_parts (λ (name : List ℕ). is_fixed_term name ≡ false) (all_constants u.enumerations) (function_names u) w.terms.free in
    let follow : CanFollow [] u.enumerations = record { some = w.scope.enumerations; names = fs.0; free = os.0; constants = ft.0; constants_free = ot.0 } in
    let a = logic_goes logic enumerations ts h in
    let b = enumerations_go logic [] u.enumerations sorts a.forms follow a.show in
    let c = sorts_go logic u [] u.sorts functions b.forms back w.scope.sorts (ap (λ ns. are_fresh ns (sort_names u)) (append-nil (enumeration_names u)) ∙ fs.1) os.1 b.show in
    let names : term_names u [] ≡ all_constants u.enumerations = append-nil (all_constants u.enumerations) in
    let d = functions_go logic u [] u.functions [] rest c.forms w back refl (ap (λ ns. are_fresh ns (function_names u)) names ∙ ft.1) ot.1 tt c.show in
    let r0 = reading_at logic no_scope [] [] [] [] in
    let r1 = reading_enumerations logic u.enumerations in
    let r2 = reading_sorts logic u.enumerations u.sorts in
    let r3 = reading_at logic u (term_names u u.functions) [] d.variables [] in
    record {
      variables = d.variables;
      untaken = d.untaken;
      goes = go_on nothing_read r0 r3 enumerations rest ts a (go_on r0 r1 r3 sorts rest a.forms b (go_on r1 r2 r3 functions rest b.forms c
          (subst (λ ns. Goes (reading_at logic (without_functions u.enumerations u.sorts) ns [] [] []) r3 rest c.forms) names d.goes)));
    }

pub record AreDeclaredSystems (logic : Option (List ℕ)) (u : ScopeState) (ss : List PlainSystem) (rest : Showns) (ts : Trees) : Type 0 where
  pub variables : List Declared
  pub untaken : AreUntaken u variables
  pub systems : List SystemReading
  pub agree : AgreeSystems (system_names ss) ss ss systems
  pub goes : Goes nothing_read (reading_at logic u (term_names u u.functions) (system_names ss) variables systems) rest ts

pub commands_go : (logic : Option (List ℕ)) (u : ScopeState) (ss : List PlainSystem) (rest : Showns) (ts : Trees) → IsValidScope u → AllReadBack u.enumerations → AllByRecursion (IsValidSystem u ss) ss → are_fresh [] (system_names ss) ≡ true
    → ShowEach ts (joined (shown_logic logic) (joined (shown_enumerations u.enumerations) (joined (shown_sorts u u.sorts) (joined (shown_functions u u.functions) (joined (shown_systems u (system_names ss) ss) rest)))))
    → AreDeclaredSystems logic u ss rest ts
commands_go logic u ss rest ts w back ws d h =
    let systems = joined (shown_systems u (system_names ss) ss) rest in
    let terms = term_names u u.functions in
    let a = declarations_go logic u systems ts w back h in
    let b = systems_go logic u terms (system_names ss) ss [] ss a.variables [] rest a.goes.forms (back u refl) ws d a.untaken tt a.goes.show in
    record {
      variables = b.variables;
      untaken = b.untaken;
      systems = b.systems;
      agree = b.agree;
      goes = go_on nothing_read (reading_at logic u terms [] a.variables []) (reading_at logic u terms (system_names ss) b.variables b.systems) systems rest ts a.goes b.goes;
    }
