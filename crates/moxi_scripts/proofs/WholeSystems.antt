-- Systems and checks as they are read, where no test fails.
use Rattle.std.proofs.Common.{◌≡◌, ℕ, Bool, true, false, cond, is_none, not, IfOk, Option, None, Some, List, [], ◌∷◌, ◌++◌, length, refl, sym, subst}
use Rattle.std.specs.List.{AllByRecursion}
use Rattle.text_core.specs.declared.place.Place.{Place}
use Rattle.moxi_sexpr.specs.Lexing.{refusal}
use Rattle.moxi_sexpr.specs.Tree as form
use Rattle.moxi_terms.specs.declared.data.Primes.{Primes}
use Rattle.moxi_terms.specs.declared.data.Primes.TheVariants.{Allowed, Refused}
use Rattle.moxi_term_reading.specs.declared.locals.Local.{Local}
use Rattle.moxi_terms.specs.Names.{is_term_name}
use Rattle.name_maps.specs.Names.{are_fresh, place_of}
use Rattle.moxi_term_reading.specs.Reading.{prime_failures}
use Rattle.moxi_term_reading.specs.SortReading.{sort_reading}
use Rattle.moxi_terms.specs.Sorts.{IsSort}
use Rattle.moxi_terms.specs.View.{ScopeState}
use Rattle.moxi_scripts.specs.declared.parts.Command.{Command}
use Rattle.moxi_scripts.specs.declared.parts.Command.TheVariants.{System, Check}
use Rattle.moxi_scripts.specs.declared.parts.Key.TheVariants.{Init, Trans, Inv}
use Rattle.moxi_scripts.specs.declared.parts.Turn.TheVariants.{AtKeyword}
use Rattle.moxi_scripts.specs.declared.parts.Declared.{Declared}
use Rattle.moxi_scripts.specs.declared.parts.Lists.{Lists}
use Rattle.moxi_scripts.specs.Attributes.{shape_holds, unknown_failures}
use Rattle.moxi_scripts.specs.Checks as checks
use Rattle.moxi_scripts.specs.Checks.{CheckReading, labels_in}
use Rattle.moxi_scripts.specs.Collecting.{fails_if}
use Rattle.moxi_scripts.specs.Entries.{locals_among, variables_of}
use Rattle.moxi_scripts.specs.Formulas.{formula_failures, formula_term}
use Rattle.moxi_scripts.specs.Labels.{labels_after, labels_failures, no_labels}
use Rattle.moxi_scripts.specs.Lists.{all_entries, lists_failures, lists_in, value_at}
use Rattle.moxi_scripts.specs.Shapes.{HeadedForms}
use Rattle.moxi_scripts.specs.Systems as systems
use Rattle.moxi_scripts.specs.Systems.{SystemReading, locals_of, text_entries_in, variables_failures}
use Rattle.moxi_scripts.specs.Uses.{uses_failures, uses_in}
use Rattle.moxi_scripts.specs.Valid.{AreVariables, IsFormula, IsValidQuery, query_names}
use Rattle.moxi_scripts.proofs.FunctionLaws.{none_in, some_fails}
use Rattle.moxi_scripts.proofs.WholeEntries.{AreKnown, AreKnownLists, IsKnown, all_known, all_shaped, lists_known, twice_fresh, variables_whole}
use Rattle.moxi_scripts.proofs.WholeFormulas.{StandOn, TermsAreWellScoped, formula_stands}
use Rattle.moxi_scripts.proofs.WholeLabels.{AreLabels, labels_are, nothing_labelled}
use Rattle.moxi_scripts.specs.laws.WholeNames.{Absent, absent_is}
use Rattle.moxi_scripts.specs.laws.WholeParts.{no_failure, not_false}
use Rattle.moxi_scripts.specs.laws.WholeText.{all_fresh, locals_are}
use Rattle.moxi_scripts.proofs.WholeQueries.{all_queries_are}
use Rattle.moxi_scripts.specs.laws.WholeScopes.{GrowsTo, sort_stays}
use Rattle.moxi_scripts.proofs.WholeUses.{IsUse, use_names, uses_are}
use Rattle.moxi_terms.proofs.ScopeLaws.{all_of}

-- no variable has the name of a constant or a function
abbrev pub AreUntaken : ScopeState → List Declared → Type 0
AreUntaken s ds = AllByRecursion (λ (d : Declared). is_term_name s d.name ≡ false) ds

-- a system whose subsystems aren't yet found
pub record IsSystemSoFar (s : ScopeState) (r : SystemReading) : Type 0 where
  pub known : AreKnownLists s.enumerations r.lists
  pub variables : AreVariables s (variables_of (all_entries r.lists))
  pub init : IsFormula s (variables_of (all_entries r.lists)) Refused r.init
  pub trans : IsFormula s (variables_of (all_entries r.lists)) Allowed r.trans
  pub inv : IsFormula s (variables_of (all_entries r.lists)) Refused r.inv
  pub names : are_fresh [] (use_names r.uses) ≡ true
  pub uses : AllByRecursion (IsUse (all_entries r.lists)) r.uses

-- a check whose system isn't yet found
pub record IsCheckSoFar (s : ScopeState) (c : CheckReading) : Type 0 where
  pub known : AreKnownLists s.enumerations c.lists
  pub variables : AreVariables s (variables_of (all_entries c.lists))
  pub labels : AreLabels s (variables_of (all_entries c.lists)) c.labels
  pub names : are_fresh [] (query_names c.queries) ≡ true
  pub queries : AllByRecursion (IsValidQuery (length c.labels.assumptions.names) (length c.labels.currents.names) (length c.labels.reachables.names)) c.queries

pub known_on : (s t : ScopeState) → GrowsTo s t → (ds : List Declared) → AreKnown s.enumerations ds → AreKnown t.enumerations ds
known_on s t g ds k =
    all_of (IsKnown s.enumerations) (IsKnown t.enumerations) ds (λ d h. (h.0, h.1, subst (λ es. IsSort es h.0) (sym g.enumerations) (sort_stays s.enumerations g.more_enumerations h.0 h.2))) k

lists_on : (s t : ScopeState) → GrowsTo s t → (l : Lists) → AreKnownLists s.enumerations l → AreKnownLists t.enumerations l
lists_on s t g l k = record {
  inputs = known_on s t g l.inputs.entries k.inputs;
  outputs = known_on s t g l.outputs.entries k.outputs;
  locals = known_on s t g l.locals.entries k.locals;
  inputs_whole = k.inputs_whole;
  outputs_whole = k.outputs_whole;
  locals_whole = k.locals_whole;
  inputs_shaped = k.inputs_shaped;
  outputs_shaped = k.outputs_shaped;
  locals_shaped = k.locals_shaped;
}

module _ (stand : TermsAreWellScoped) (on : StandOn) (s whole : ScopeState) (grows : GrowsTo s whole) (sorts : (around : Place) (t : form.Tree) → IfOk (sort_reading s around t) (IsSort s.enumerations)) where
  -- the variables of a system or a check
  record HasVariables (command : Command) (ts : form.Trees) : Type 0 where
    pub before : AreKnown s.enumerations (all_entries (lists_in s command ts))
    pub known : AreKnownLists whole.enumerations (lists_in s command ts)
    pub variables : AreVariables whole (variables_of (all_entries (lists_in s command ts)))
    pub found : locals_of s command ts ≡ locals_among (all_entries (lists_in s command ts))

  variables_are : (command : Command) (ts : form.Trees) → variables_failures s command ts ≡ [] → AreUntaken whole (all_entries (lists_in s command ts)) → HasVariables command ts
  variables_are command ts h u =
      let e = none_in (unknown_failures command AtKeyword ts ++ lists_failures s command ts) _ h in
      let f = none_in (unknown_failures command AtKeyword ts) _ e.0 in
      let l = lists_known s sorts command ts f.1 in
      let all = all_entries (lists_in s command ts) in
      let known = all_known s.enumerations (lists_in s command ts) l in
      let fresh = twice_fresh [] (text_entries_in s command ts) e.1 in
      record {
        before = known;
        known = lists_on s whole grows (lists_in s command ts) l;
        variables = variables_whole whole all (known_on s whole grows all known) (all_fresh s command ts fresh) u;
        found = locals_are s command ts (all_shaped s.enumerations (lists_in s command ts) l) fresh;
      }

  -- a formula over these variables
  formula_is : (ds : List Declared) (locals : List Local) → locals ≡ locals_among ds → AreKnown s.enumerations ds → AreVariables whole (variables_of ds) → (primes : Primes) (o : Option form.Tree)
      → formula_failures s locals primes o ≡ [] → IsFormula whole (variables_of ds) primes (formula_term s locals primes o)
  formula_is ds locals same known v primes o h =
      subst (λ ls. IsFormula whole (variables_of ds) primes (formula_term s ls primes o)) (sym same)
      (formula_stands stand on s whole grows ds known v primes o (subst (λ ls. formula_failures s ls primes o ≡ []) same h))

  system_is : (name : List ℕ) (ts : form.Trees) → systems.content_failures s ts ≡ [] → AreUntaken whole (all_entries (lists_in s System ts)) → IsSystemSoFar whole (systems.content_of s name ts)
  system_is name ts h u =
      let locals = locals_of s System ts in
      let ds = all_entries (lists_in s System ts) in
      let e = none_in (variables_failures s System ts ++ systems.formulas_failures s locals ts) _ h in
      let f = none_in (variables_failures s System ts) _ e.0 in
      let g = none_in (formula_failures s locals Refused (value_at System Init ts) ++ formula_failures s locals Allowed (value_at System Trans ts)) _ f.1 in
      let i = none_in (formula_failures s locals Refused (value_at System Init ts)) _ g.0 in
      let v = variables_are System ts f.0 u in
      let us = uses_are ds [] AtKeyword ts (subst (λ ls. uses_failures ls [] AtKeyword ts ≡ []) v.found e.1) in
      record {
        known = v.known;
        variables = v.variables;
        init = formula_is ds locals v.found v.before v.variables Refused (value_at System Init ts) i.0;
        trans = formula_is ds locals v.found v.before v.variables Allowed (value_at System Trans ts) i.1;
        inv = formula_is ds locals v.found v.before v.variables Refused (value_at System Inv ts) g.1;
        names = subst (λ ls. are_fresh [] (use_names (uses_in ls AtKeyword ts)) ≡ true) (sym v.found) us.1;
        uses = subst (λ ls. AllByRecursion (IsUse ds) (uses_in ls AtKeyword ts)) (sym v.found) us.0;
      }

  check_is : (p : Place) (h : HeadedForms) → checks.content_failures s h.rest ≡ [] → AreUntaken whole (all_entries (lists_in s Check h.rest)) → IsCheckSoFar whole (checks.content_of s p h)
  check_is p h e u =
      let ts = h.rest in
      let locals = locals_of s Check ts in
      let ds = all_entries (lists_in s Check ts) in
      let f = none_in (variables_failures s Check ts ++ labels_failures s locals no_labels AtKeyword ts) _ e in
      let g = none_in (variables_failures s Check ts) _ f.0 in
      let v = variables_are Check ts g.0 u in
      let l = subst (λ ls. AreLabels whole (variables_of ds) (labels_after s ls no_labels AtKeyword ts)) (sym v.found)
      (labels_are stand on s whole grows ds v.before no_labels AtKeyword ts (subst (λ ls. labels_failures s ls no_labels AtKeyword ts ≡ []) v.found g.1) (nothing_labelled whole (variables_of ds))) in
      let q = all_queries_are (labels_in s ts) l.whole [] AtKeyword ts f.1 in
      record { known = v.known; variables = v.variables; labels = l; names = q.1; queries = q.0 }

  -- behind these names and systems, one system with a new name
  pub record IsNextSystem (names : List (List ℕ)) (rs now : List SystemReading) (then : List (List ℕ)) : Type 0 where
    pub system : SystemReading
    pub added : now ≡ rs ++ system ∷ []
    pub is : IsSystemSoFar whole system
    pub fresh : Absent names system.name
    pub names_then : then ≡ names ++ system.name ∷ []

  pub next_system : (names : List (List ℕ)) (rs : List SystemReading) (p : Place) (o : Option HeadedForms) → systems.headed_system_failures s names p o ≡ [] → AreUntaken whole (systems.variables_of_system s o)
      → IsNextSystem names rs (systems.with_system s names rs o) (systems.names_with_system names o)
  next_system names rs p None e u = some_fails (refusal 12 p) [] e
  next_system names rs p (Some h) e u =
      let f = none_in (prime_failures h.primed h.place ++ fails_if (not (is_none (place_of names h.name))) 9 h.place) _ e in
      let g = none_in (prime_failures h.primed h.place) _ f.0 in
      let new : is_none (place_of names h.name) ≡ true = not_false _ (no_failure _ 9 h.place g.1) in
      let r = systems.shaped_system s h.name h.rest in
      subst (λ b. IsNextSystem names rs (cond b (rs ++ r ∷ []) rs) (cond b (names ++ h.name ∷ []) names)) (sym new) (by_shape (shape_holds System h.rest) new f.1 u)
    where
      by_shape : (b : Bool) → is_none (place_of names h.name) ≡ true → cond b (systems.content_failures s h.rest) (refusal 12 p ∷ []) ≡ [] → AreUntaken whole (cond b (all_entries (lists_in s System h.rest)) [])
          → IsNextSystem names rs (rs ++ cond b (systems.content_of s h.name h.rest) (systems.bare_system h.name) ∷ []) (names ++ h.name ∷ [])
      by_shape true n e u = record { system = systems.content_of s h.name h.rest; added = refl; is = system_is h.name h.rest e u; fresh = absent_is names h.name n; names_then = refl }
      by_shape false n e u = some_fails (refusal 12 p) [] e

  pub record IsReadCheck (o : Option CheckReading) : Type 0 where
    pub check : CheckReading
    pub read : o ≡ Some check
    pub is : IsCheckSoFar whole check

  pub read_check : (p : Place) (o : Option HeadedForms) → checks.headed_failures s p o ≡ [] → AreUntaken whole (checks.variables_in s o) → IsReadCheck (checks.check_in s p o)
  read_check p None e u = some_fails (refusal 12 p) [] e
  read_check p (Some h) e u = by_shape (shape_holds Check h.rest) e u
    where
      by_shape : (b : Bool) → cond b (prime_failures h.primed h.place ++ checks.content_failures s h.rest) (refusal 12 p ∷ []) ≡ [] → AreUntaken whole (cond b (all_entries (lists_in s Check h.rest)) [])
          → IsReadCheck (cond b (Some (checks.content_of s p h)) None)
      by_shape true e u = record { check = checks.content_of s p h; read = refl; is = check_is p h (none_in (prime_failures h.primed h.place) _ e).1 u }
      by_shape false e u = some_fails (refusal 12 p) [] e
