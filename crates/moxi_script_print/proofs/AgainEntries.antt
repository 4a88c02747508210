-- Lists of variables that are shown and read again.
use Rattle.std.proofs.Common.{◌≡◌, ℕ, true, not, cond, is_none, is_some, Option, Some, List, [], ◌∷◌, ◌++◌, map, refl, sym, ap, ◌∙◌, subst}
use Rattle.std.specs.List.{AllByRecursion}
use Rattle.text_core.specs.declared.place.Place.{Place}
use Rattle.moxi_sexpr.specs.Tree as form
use Rattle.moxi_terms.specs.declared.term.Variable.{Variable}
use Rattle.moxi_term_reading.specs.Answer.{locals_of}
use Rattle.moxi_term_reading.specs.Forms.{place_in}
use Rattle.name_maps.specs.Names.{are_fresh, place_of}
use Rattle.moxi_terms.specs.Sorts.{IsSort}
use Rattle.moxi_terms.specs.Sorted.{AreSorts}
use Rattle.moxi_terms.specs.Tree.{sorts_of}
use Rattle.moxi_terms.specs.View.{ScopeState}
use Rattle.moxi_term_print.specs.Shown.{Shows, ShowEach, group}
use Rattle.moxi_term_print.specs.Terms.{shown_sort, shown_variable, shown_variables, variable_names}
use Rattle.moxi_scripts.specs.declared.parts.Declared.{Declared}
use Rattle.moxi_scripts.specs.Collecting.{fails_if}
use Rattle.moxi_scripts.specs.Entries.{are_entries, entries_failures, entries_of, entry_failures, entry_in, entry_of, entry_tests, known_sort, locals_among, names_with, sort_failures, twice_failures, variable_of, variables_of}
use Rattle.moxi_scripts.specs.Lists.{entries_among, entries_tests, has_entries, list_shape, listed_entries, listed_failures}
use Rattle.moxi_scripts.specs.Shapes.{named}
use Rattle.moxi_script_print.proofs.AgainParts.{ReadsBack}
use Rattle.moxi_script_print.proofs.AgainShapes.{is_listed, is_named}
use Rattle.moxi_scripts.specs.laws.WholeNames.{and_both, fresh_first, is_absent}

-- as many entries as variables, with their names and sorts
abbrev pub Agree : List Variable → List Declared → Type 0
Agree [] [] = Unit {0}
Agree [] (d ∷ ds) = ⊥
Agree (v ∷ vs) [] = ⊥
Agree (v ∷ vs) (d ∷ ds) = (d.name ≡ v.name) × (d.sort ≡ Some v.sort) × Agree vs ds

pub agree_append : (vs ws : List Variable) (ds es : List Declared) → Agree vs ds → Agree ws es → Agree (vs ++ ws) (ds ++ es)
agree_append [] ws [] es h g = g
agree_append [] ws (d ∷ ds) es h g = absurd h
agree_append (v ∷ vs) ws [] es h g = absurd h
agree_append (v ∷ vs) ws (d ∷ ds) es h g = (h.0, h.1, agree_append vs ws ds es h.2 g)

pub agree_variables : (vs : List Variable) (ds : List Declared) → Agree vs ds → variables_of ds ≡ vs
agree_variables [] [] h = refl
agree_variables [] (d ∷ ds) h = absurd h
agree_variables (v ∷ vs) [] h = absurd h
agree_variables (v ∷ vs) (d ∷ ds) h =
    ap (λ o. variable_of d.name o ++ variables_of ds) h.1 ∙ ap (λ n. record { name = n; sort = v.sort } ∷ variables_of ds) h.0 ∙ ap (λ xs. v ∷ xs) (agree_variables vs ds h.2)

pub agree_locals : (vs : List Variable) (ds : List Declared) → Agree vs ds → locals_among ds ≡ locals_of vs
agree_locals [] [] h = refl
agree_locals [] (d ∷ ds) h = absurd h
agree_locals (v ∷ vs) [] h = absurd h
agree_locals (v ∷ vs) (d ∷ ds) h =
    ap (λ o. record { name = d.name; sort = o } ∷ locals_among ds) h.1 ∙ ap (λ n. record { name = n; sort = Some v.sort } ∷ locals_among ds) h.0
    ∙ ap (λ xs. record { name = v.name; sort = Some v.sort } ∷ xs) (agree_locals vs ds h.2)

pub agree_names : (vs : List Variable) (ds : List Declared) → Agree vs ds → map (λ (d : Declared). d.name) ds ≡ variable_names vs
agree_names [] [] h = refl
agree_names [] (d ∷ ds) h = absurd h
agree_names (v ∷ vs) [] h = absurd h
agree_names (v ∷ vs) (d ∷ ds) h = ap (λ n. n ∷ map (λ (d : Declared). d.name) ds) h.0 ∙ ap (λ ns. v.name ∷ ns) (agree_names vs ds h.2)

pub agree_sorts : (vs : List Variable) (ds : List Declared) → Agree vs ds → map (λ (d : Declared). d.sort) ds ≡ map Some (sorts_of vs)
agree_sorts [] [] h = refl
agree_sorts [] (d ∷ ds) h = absurd h
agree_sorts (v ∷ vs) [] h = absurd h
agree_sorts (v ∷ vs) (d ∷ ds) h = ap (λ n. n ∷ map (λ (d : Declared). d.sort) ds) h.1 ∙ ap (λ ns. Some v.sort ∷ ns) (agree_sorts vs ds h.2)

pub agree_all : (P : List ℕ → Type 0) (vs : List Variable) (ds : List Declared) → Agree vs ds → AllByRecursion P (variable_names vs) → AllByRecursion (λ (d : Declared). P d.name) ds
agree_all P [] [] h a = tt
agree_all P [] (d ∷ ds) h a = absurd h
agree_all P (v ∷ vs) [] h a = absurd h
agree_all P (v ∷ vs) (d ∷ ds) h a = (subst P (sym h.0) a.0, agree_all P vs ds h.2 a.1)

-- names that differ
names_go : (names : List (List ℕ)) (name : List ℕ) → is_none (place_of names name) ≡ true → names_with names name ≡ names ++ name ∷ []
names_go names name h = ap (λ b. cond b (names ++ name ∷ []) names) h

twice_pass : (names : List (List ℕ)) (ds : List Declared) → are_fresh names (map (λ (d : Declared). d.name) ds) ≡ true → twice_failures names ds ≡ []
twice_pass names [] h = refl
twice_pass names (d ∷ ds) h =
    let p = fresh_first names d.name (map (λ (d : Declared). d.name) ds) h in
    let new : is_none (place_of names d.name) ≡ true = is_absent names d.name p.0 in
    ap (λ b. fails_if (not b) 9 d.place ++ twice_failures (names_with names d.name) ds) new ∙ ap (λ ns. twice_failures ns ds) (names_go names d.name new) ∙ twice_pass (names ++ d.name ∷ []) ds p.1

pub agree_differ : (vs : List Variable) (ds : List Declared) → Agree vs ds → are_fresh [] (variable_names vs) ≡ true → twice_failures [] ds ≡ []
agree_differ vs ds h f = twice_pass [] ds (ap (are_fresh []) (agree_names vs ds h) ∙ f)

-- the entries of a list have these variables' names and sorts, and none of their tests fails
pub record AreRead (s : ScopeState) (around : Place) (vs : List Variable) (ts : form.Trees) : Type 0 where
  pub entries : Agree vs (entries_of s ts)
  pub shaped : are_entries ts ≡ true
  pub pass : entries_failures s around ts ≡ []

-- the same of the list itself
pub record IsReadList (s : ScopeState) (vs : List Variable) (o : Option form.Tree) : Type 0 where
  pub entries : Agree vs (listed_entries s o)
  pub shaped : list_shape o ≡ true
  pub pass : listed_failures s o ≡ []

module _ (s : ScopeState) (back : ReadsBack s) where
  entry_known : (t : form.Tree) (v : Variable) → IsSort s.enumerations v.sort → Shows t (shown_variable s v) → (p : Place) × (entry_of s t ≡ record { name = v.name; place = p; sort = Some v.sort } ∷ [])
  entry_known t v i h =
      let n = is_named t v.name (shown_sort s v.sort) h in (
        n.place,
        ap (entry_in s (place_in t)) n.is ∙ ap (λ r. record { name = v.name; place = n.place; sort = known_sort r } ∷ []) (back.sorts (place_in t) v.sort n.form i n.shows),
      )

  entry_passes : (around : Place) (t : form.Tree) (v : Variable) → IsSort s.enumerations v.sort → Shows t (shown_variable s v) → entry_failures s around t ≡ []
  entry_passes around t v i h =
      let n = is_named t v.name (shown_sort s v.sort) h in
      ap (entry_tests s around t) n.is ∙ ap sort_failures (back.sorts (place_in t) v.sort n.form i n.shows)

  pub entries_read : (around : Place) (vs : List Variable) (ts : form.Trees) → AreSorts s.enumerations (sorts_of vs) → ShowEach ts (shown_variables s vs) → AreRead s around vs ts
  entries_read around [] form.no_trees i h = record { entries = tt; shaped = refl; pass = refl }
  entries_read around [] (form.tree t ts) i h = absurd h
  entries_read around (v ∷ vs) form.no_trees i h = absurd h
  entries_read around (v ∷ vs) (form.tree t ts) i h =
      let e = entry_known t v i.0 h.0 in
      let r = entries_read around vs ts i.1 h.1 in
      record {
        entries = subst (λ xs. Agree (v ∷ vs) (xs ++ entries_of s ts)) (sym e.1) (refl, refl, r.entries);
        shaped = and_both (is_some (named t)) (are_entries ts) (ap is_some (is_named t v.name (shown_sort s v.sort) h.0).is) r.shaped;
        pass = ap (λ xs. xs ++ entries_failures s around ts) (entry_passes around t v i.0 h.0) ∙ r.pass;
      }

  pub list_read : (vs : List Variable) (t : form.Tree) → AreSorts s.enumerations (sorts_of vs) → Shows t (group (shown_variables s vs)) → IsReadList s vs (Some t)
  list_read vs t i h =
      let l = is_listed t (shown_variables s vs) h in
      let r = entries_read (place_in t) vs l.parts i l.show in
      record { entries = subst (λ o. Agree vs (entries_among s o)) (sym l.is) r.entries; shaped = ap has_entries l.is ∙ r.shaped; pass = ap (entries_tests s t) l.is ∙ r.pass }
