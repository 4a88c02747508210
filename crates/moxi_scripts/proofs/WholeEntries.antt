-- Lists of variables of which no test fails: each variable has a sort of the scope, and their names differ.
use Rattle.std.proofs.Common.{◌≡◌, ℕ, true, false, cond, is_none, is_some, IfOk, Option, None, Some, Result, Ok, Err, List, [], ◌∷◌, ◌++◌, map, refl, sym, ap, ◌∙◌, subst, append_assoc}
use Rattle.std.specs.List.{AllByRecursion}
use Rattle.std.proofs.lemmas.Option.{none-some, same_Some}
use Rattle.text_core.specs.declared.place.Place.{Place}
use Rattle.text_core.specs.declared.place.Refusal.{Refusal}
use Rattle.moxi_sexpr.specs.Tree as form
use Rattle.moxi_terms.specs.declared.data.Sort.{Sort}
use Rattle.moxi_terms.specs.declared.term.Enumeration.{Enumeration}
use Rattle.moxi_terms.specs.declared.term.Variable.{Variable}
use Rattle.moxi_term_reading.specs.Answer.{locals_of}
use Rattle.moxi_term_reading.specs.Forms.{place_in}
use Rattle.moxi_terms.specs.Names.{is_term_name}
use Rattle.name_maps.specs.Names.{are_fresh, place_of}
use Rattle.moxi_term_reading.specs.Reading.{prime_failures}
use Rattle.moxi_term_reading.specs.SortReading.{sort_reading}
use Rattle.moxi_terms.specs.Sorts.{IsSort}
use Rattle.moxi_terms.specs.Sorted.{AreSorts}
use Rattle.moxi_terms.specs.Tree.{sorts_of}
use Rattle.moxi_terms.specs.View.{ScopeState}
use Rattle.moxi_term_reading.specs.WellSorted.{HaveKnownSorts}
use Rattle.moxi_term_print.specs.Terms.{variable_names}
use Rattle.moxi_scripts.specs.declared.parts.Command.{Command}
use Rattle.moxi_scripts.specs.declared.parts.Key.TheVariants as keys
use Rattle.moxi_scripts.specs.declared.parts.Declared.{Declared}
use Rattle.moxi_scripts.specs.declared.parts.Lists.{Lists}
use Rattle.moxi_scripts.specs.Declarations.{is_nil}
use Rattle.moxi_scripts.specs.Entries.{are_entries, entries_failures, entries_of, entry_failures, entry_in, entry_of, entry_tests, known_sort, locals_among, names_with, sort_failures, twice_failures, twice_tests, variable_of, variables_of}
use Rattle.moxi_scripts.specs.Lists.{all_entries, are_shaped, has_entries, list_shape, listed_entries, listed_failures, lists_failures, lists_in, value_at, entries_tests, entries_among}
use Rattle.moxi_scripts.specs.Shapes.{NamedForm, misshapen, named, parts_of}
use Rattle.moxi_scripts.specs.Valid.{AreVariables}
use Rattle.moxi_scripts.proofs.FunctionLaws.{none_in, some_fails}
use Rattle.moxi_scripts.specs.laws.WholeNames.{absent_is, and_both, fresh_more}
use Rattle.moxi_scripts.specs.laws.WholeParts.{all_append, all_map, no_failure, not_false}

-- a variable that has a sort of a scope with these enumerations
abbrev pub IsKnown : List Enumeration → Declared → Type 0
IsKnown es d = (sort : Sort) × (d.sort ≡ Some sort) × IsSort es sort

abbrev pub AreKnown : List Enumeration → List Declared → Type 0
AreKnown es ds = AllByRecursion (IsKnown es) ds

abbrev pub declared_names : List Declared → List (List ℕ)
declared_names ds = map (λ (d : Declared). d.name) ds

abbrev pub declared_sorts : List Declared → List (Option Sort)
declared_sorts ds = map (λ (d : Declared). d.sort) ds

pub locals_same : (es : List Enumeration) (ds : List Declared) → AreKnown es ds → locals_among ds ≡ locals_of (variables_of ds)
locals_same es [] k = refl
locals_same es (d ∷ ds) k = by_sort d.sort k.0.1 (locals_same es ds k.1)
  where
    by_sort : (o : Option Sort) → o ≡ Some k.0.0 → locals_among ds ≡ locals_of (variables_of ds) → record { name = d.name; sort = o } ∷ locals_among ds ≡ locals_of (variable_of d.name o ++ variables_of ds)
    by_sort None e ih = absurd (none-some k.0.0 e)
    by_sort (Some s) e ih = ap (λ ls. record { name = d.name; sort = Some s } ∷ ls) ih

pub names_same : (es : List Enumeration) (ds : List Declared) → AreKnown es ds → variable_names (variables_of ds) ≡ declared_names ds
names_same es [] k = refl
names_same es (d ∷ ds) k = by_sort d.sort k.0.1 (names_same es ds k.1)
  where
    by_sort : (o : Option Sort) → o ≡ Some k.0.0 → variable_names (variables_of ds) ≡ declared_names ds → variable_names (variable_of d.name o ++ variables_of ds) ≡ d.name ∷ declared_names ds
    by_sort None e ih = absurd (none-some k.0.0 e)
    by_sort (Some s) e ih = ap (λ ns. d.name ∷ ns) ih

pub sorts_same : (es : List Enumeration) (ds : List Declared) → AreKnown es ds → map Some (sorts_of (variables_of ds)) ≡ declared_sorts ds
sorts_same es [] k = refl
sorts_same es (d ∷ ds) k = by_sort d.sort k.0.1 (sorts_same es ds k.1)
  where
    by_sort : (o : Option Sort) → o ≡ Some k.0.0 → map Some (sorts_of (variables_of ds)) ≡ declared_sorts ds → map Some (sorts_of (variable_of d.name o ++ variables_of ds)) ≡ o ∷ declared_sorts ds
    by_sort None e ih = absurd (none-some k.0.0 e)
    by_sort (Some s) e ih = ap (λ os. Some s ∷ os) ih

pub sorts_known : (es : List Enumeration) (ds : List Declared) → AreKnown es ds → AreSorts es (sorts_of (variables_of ds))
sorts_known es [] k = tt
sorts_known es (d ∷ ds) k = by_sort d.sort k.0.1 (sorts_known es ds k.1)
  where
    by_sort : (o : Option Sort) → o ≡ Some k.0.0 → AreSorts es (sorts_of (variables_of ds)) → AreSorts es (sorts_of (variable_of d.name o ++ variables_of ds))
    by_sort None e ih = absurd (none-some k.0.0 e)
    by_sort (Some s) e ih = (subst (IsSort es) (sym (same_Some s k.0.0 e)) k.0.2, ih)

pub variables_append : (xs ys : List Declared) → variables_of (xs ++ ys) ≡ variables_of xs ++ variables_of ys
variables_append [] ys = refl
variables_append (d ∷ ds) ys = ap (λ vs. variable_of d.name d.sort ++ vs) (variables_append ds ys) ∙ sym (append_assoc (variable_of d.name d.sort) (variables_of ds) (variables_of ys))

pub locals_known : (vs : List Variable) → HaveKnownSorts (locals_of vs) (sorts_of vs)
locals_known [] = tt
locals_known (v ∷ vs) = (refl, locals_known vs)

pub twice_fresh : (names : List (List ℕ)) (ds : List Declared) → twice_failures names ds ≡ [] → are_fresh names (declared_names ds) ≡ true
twice_fresh names [] h = refl
twice_fresh names (d ∷ ds) h =
    let e = none_in (twice_tests names d) (twice_failures (names_with names d.name) ds) h in
    let new : is_none (place_of names d.name) ≡ true = not_false _ (no_failure _ 9 d.place e.0) in
    fresh_more names d.name (declared_names ds) (absent_is names d.name new)
    (subst (λ b. are_fresh (cond b (names ++ d.name ∷ []) names) (declared_names ds) ≡ true) new (twice_fresh (names_with names d.name) ds e.1))

pub variables_whole : (s : ScopeState) (ds : List Declared) → AreKnown s.enumerations ds → are_fresh [] (declared_names ds) ≡ true → AllByRecursion (λ (d : Declared). is_term_name s d.name ≡ false) ds
    → AreVariables s (variables_of ds)
variables_whole s ds k h free = record {
  names = record {
    differ = ap (are_fresh []) (names_same s.enumerations ds k) ∙ h;
    free = subst (AllByRecursion (λ (name : List ℕ). is_term_name s name ≡ false)) (sym (names_same s.enumerations ds k)) (all_map (λ (d : Declared). d.name) (λ (name : List ℕ). is_term_name s name ≡ false) ds free);
  };
  sorts = sorts_known s.enumerations ds k;
}

-- the three lists of a system or a check
pub record AreKnownLists (es : List Enumeration) (l : Lists) : Type 0 where
  pub inputs : AreKnown es l.inputs.entries
  pub outputs : AreKnown es l.outputs.entries
  pub locals : AreKnown es l.locals.entries
  pub inputs_whole : l.inputs.whole ≡ true
  pub outputs_whole : l.outputs.whole ≡ true
  pub locals_whole : l.locals.whole ≡ true
  pub inputs_shaped : l.inputs.shaped ≡ true
  pub outputs_shaped : l.outputs.shaped ≡ true
  pub locals_shaped : l.locals.shaped ≡ true

pub all_shaped : (es : List Enumeration) (l : Lists) → AreKnownLists es l → are_shaped l ≡ true
all_shaped es l k = and_both l.inputs.shaped _ k.inputs_shaped (and_both l.outputs.shaped l.locals.shaped k.outputs_shaped k.locals_shaped)

pub all_known : (es : List Enumeration) (l : Lists) → AreKnownLists es l → AreKnown es (all_entries l)
all_known es l k = all_append (IsKnown es) (l.inputs.entries ++ l.outputs.entries) l.locals.entries (all_append (IsKnown es) l.inputs.entries l.outputs.entries k.inputs k.outputs) k.locals

pub variables_all : (l : Lists) → variables_of (all_entries l) ≡ variables_of l.inputs.entries ++ (variables_of l.outputs.entries ++ variables_of l.locals.entries)
variables_all l =
    variables_append (l.inputs.entries ++ l.outputs.entries) l.locals.entries ∙ ap (λ vs. vs ++ variables_of l.locals.entries) (variables_append l.inputs.entries l.outputs.entries)
    ∙ append_assoc (variables_of l.inputs.entries) (variables_of l.outputs.entries) (variables_of l.locals.entries)

module _ (s : ScopeState) (sorts : (around : Place) (t : form.Tree) → IfOk (sort_reading s around t) (IsSort s.enumerations)) where
  sort_known : (r : Result Sort Refusal) → IfOk r (IsSort s.enumerations) → sort_failures r ≡ [] → (sort : Sort) × (known_sort r ≡ Some sort) × IsSort s.enumerations sort
  sort_known (Ok sort) is h = (sort, refl, is)
  sort_known (Err f) is h = some_fails f [] h

  entry_known : (q : Place) (t : form.Tree) (o : Option NamedForm) → entry_tests s q t o ≡ [] → AreKnown s.enumerations (entry_in s (place_in t) o)
  entry_known q t None h = some_fails (misshapen q t) [] h
  entry_known q t (Some n) h = (sort_known (sort_reading s (place_in t) n.form) (sorts (place_in t) n.form) (none_in (prime_failures n.primed n.place) _ h).1, tt)

  pub entries_known : (q : Place) (ts : form.Trees) → entries_failures s q ts ≡ [] → AreKnown s.enumerations (entries_of s ts)
  entries_known q form.no_trees h = tt
  entries_known q (form.tree t ts) h =
      let e = none_in (entry_failures s q t) (entries_failures s q ts) h in
      all_append (IsKnown s.enumerations) (entry_of s t) (entries_of s ts) (entry_known q t (named t) e.0) (entries_known q ts e.1)

  listed_known : (o : Option form.Tree) → listed_failures s o ≡ [] → AreKnown s.enumerations (listed_entries s o)
  listed_known None h = tt
  listed_known (Some t) h = by_parts (parts_of t) h
    where
      by_parts : (o : Option form.Trees) → entries_tests s t o ≡ [] → AreKnown s.enumerations (entries_among s o)
      by_parts None h = tt
      by_parts (Some ts) h = entries_known (place_in t) ts h

  entries_shaped : (q : Place) (ts : form.Trees) → entries_failures s q ts ≡ [] → are_entries ts ≡ true
  entries_shaped q form.no_trees h = refl
  entries_shaped q (form.tree t ts) h =
      let e = none_in (entry_failures s q t) (entries_failures s q ts) h in
      and_both (is_some (named t)) (are_entries ts) (by_named (named t) e.0) (entries_shaped q ts e.1)
    where
      by_named : (o : Option NamedForm) → entry_tests s q t o ≡ [] → is_some o ≡ true
      by_named None h = some_fails (misshapen q t) [] h
      by_named (Some n) h = refl

  list_shaped : (o : Option form.Tree) → listed_failures s o ≡ [] → list_shape o ≡ true
  list_shaped None h = refl
  list_shaped (Some t) h = by_parts (parts_of t) h
    where
      by_parts : (o : Option form.Trees) → entries_tests s t o ≡ [] → has_entries o ≡ true
      by_parts None h = refl
      by_parts (Some ts) h = entries_shaped (place_in t) ts h

  pub lists_known : (command : Command) (ts : form.Trees) → lists_failures s command ts ≡ [] → AreKnownLists s.enumerations (lists_in s command ts)
  lists_known command ts h =
      let i = listed_failures s (value_at command keys.Input ts) in
      let o = listed_failures s (value_at command keys.Output ts) in
      let l = listed_failures s (value_at command keys.Local ts) in
      let e = none_in (i ++ o) l h in
      let f = none_in i o e.0 in
      record {
        inputs = listed_known (value_at command keys.Input ts) f.0;
        outputs = listed_known (value_at command keys.Output ts) f.1;
        locals = listed_known (value_at command keys.Local ts) e.1;
        inputs_whole = ap is_nil f.0;
        outputs_whole = ap is_nil f.1;
        locals_whole = ap is_nil e.1;
        inputs_shaped = list_shaped (value_at command keys.Input ts) f.0;
        outputs_shaped = list_shaped (value_at command keys.Output ts) f.1;
        locals_shaped = list_shaped (value_at command keys.Local ts) e.1;
      }
