-- Subsystems as they are written, where no test fails: their names differ, and each actual is a variable.
use Rattle.std.proofs.Common.{◌≡◌, ℕ, suc, ◌+◌, Bool, true, false, not, cond, is_none, Option, None, Some, List, [], ◌∷◌, ◌++◌, map, refl, sym, ap, ◌∙◌, subst, arith}
use Rattle.std.specs.Prelude.{slice_get}
use Rattle.std.specs.List.{AllByRecursion}
use Rattle.std.specs.Str.{bytes_eq}
use Rattle.std.proofs.lemmas.Option.{none-some, same_Some}
use Rattle.text_core.specs.declared.place.Place.{Place}
use Rattle.moxi_sexpr.specs.Lexing.{refusal}
use Rattle.moxi_sexpr.specs.Tree as form
use Rattle.moxi_term_reading.specs.Forms.{place_in, symbol_of}
use Rattle.name_maps.specs.Names.{are_fresh, place_of}
use Rattle.moxi_term_reading.specs.Finding.{Found, first_of}
use Rattle.moxi_term_reading.specs.Reading.{prime_failures}
use Rattle.moxi_scripts.specs.declared.parts.Command.TheVariants.{System}
use Rattle.moxi_scripts.specs.declared.parts.Key.TheVariants.{Subsystem}
use Rattle.moxi_scripts.specs.declared.parts.Turn.{Turn}
use Rattle.moxi_scripts.specs.declared.parts.Declared.{Declared}
use Rattle.moxi_scripts.specs.declared.parts.Actual.{Actual}
use Rattle.moxi_scripts.specs.declared.parts.Use.{Use}
use Rattle.moxi_scripts.specs.Attributes.{is_behind, turn_after}
use Rattle.moxi_scripts.specs.Collecting.{fails_if}
use Rattle.moxi_scripts.specs.Declarations.{are_symbols}
use Rattle.moxi_scripts.specs.Entries.{locals_among}
use Rattle.moxi_scripts.specs.Shapes.{HeadedForms, NamedForm, headed, misshapen, named, parts_of}
use Rattle.moxi_scripts.specs.QueryReading.{names_with_named}
use Rattle.moxi_scripts.specs.Uses as uses
use Rattle.moxi_scripts.proofs.FunctionLaws.{none_in, some_fails}
use Rattle.moxi_scripts.proofs.WholeEntries.{declared_sorts}
use Rattle.moxi_scripts.specs.laws.WholeNames.{absent_is, fresh_join, fresh_more}
use Rattle.moxi_scripts.specs.laws.WholeParts.{all_append, map_append, no_failure, not_false}

-- the actual is a variable of its sort
abbrev pub IsActual : List Declared → Actual → Type 0
IsActual ds a = slice_get (declared_sorts ds) a.number ≡ Some a.sort

abbrev pub IsUse : List Declared → Use → Type 0
IsUse ds u = AllByRecursion (IsActual ds) u.actuals

abbrev pub use_names : List Use → List (List ℕ)
use_names us = map (λ (u : Use). u.name) us

first_is : (n : ℕ) (ds : List Declared) (name : List ℕ) (f : Found) → first_of n (locals_among ds) name ≡ Some f → (i : ℕ) × (f.number ≡ n + i) × (slice_get (declared_sorts ds) i ≡ Some f.sort)
first_is n [] name f h = absurd (none-some f h)
first_is n (d ∷ ds) name f h = by_test (first_is (suc n) ds name f) (bytes_eq name d.name) h
  where
    by_test : (first_of (suc n) (locals_among ds) name ≡ Some f → (i : ℕ) × (f.number ≡ suc n + i) × (slice_get (declared_sorts ds) i ≡ Some f.sort)) → (b : Bool) → cond b (Some (let x : Found = record { number = n; sort = d.sort } in x)) (first_of (suc n) (locals_among ds) name) ≡ Some f
        → (i : ℕ) × (f.number ≡ n + i) × (slice_get (d.sort ∷ declared_sorts ds) i ≡ Some f.sort)
    by_test later true e = let same = same_Some _ f e in (0, (let k : n ≡ f.number = ap (λ (f : Found). f.number) same in omega arith), ap (λ (f : Found). Some f.sort) same)
    by_test later false e = let r = later e in (suc r.0, (let k : f.number ≡ suc n + r.0 = r.1 in omega arith), r.2)

module _ (ds : List Declared) where
  actual_is : (p : Place) (name : List ℕ) (o : Option Found) → first_of 0 (locals_among ds) name ≡ o → is_none o ≡ false → IsActual ds (uses.actual_at o p)
  actual_is p name None e h = absurd (cc)
  actual_is p name (Some f) e h =
      let r = first_is 0 ds name f e in
      ap (slice_get (declared_sorts ds)) (let k : f.number ≡ 0 + r.0 = r.1 in let l : f.number ≡ r.0 = omega arith in l) ∙ r.2

  actuals_are : (ts : form.Trees) → uses.actuals_failures (locals_among ds) ts ≡ [] → AllByRecursion (IsActual ds) (uses.actuals_in (locals_among ds) ts)
  actuals_are form.no_trees h = tt
  actuals_are (form.tree t ts) h =
      let e = none_in (uses.actual_failures (locals_among ds) t) (uses.actuals_failures (locals_among ds) ts) h in
      all_append (IsActual ds) (uses.actual_in (locals_among ds) t) (uses.actuals_in (locals_among ds) ts) (by_symbol (symbol_of t) e.0) (actuals_are ts e.1)
    where
      by_symbol : (o : Option (List ℕ × Bool)) → uses.actual_tests (locals_among ds) (place_in t) o ≡ [] → AllByRecursion (IsActual ds) (uses.symbol_actual (locals_among ds) (place_in t) o)
      by_symbol None h = tt
      by_symbol (Some x) h =
          let e = none_in (prime_failures x.1 (place_in t)) _ h in
          (actual_is (place_in t) x.0 (first_of 0 (locals_among ds) x.0) refl (no_failure _ 4 (place_in t) e.1), tt)

  -- a form that spells one subsystem of this name
  record IsOne (name : List ℕ) (us : List Use) : Type 0 where
    pub found : Use
    pub only : us ≡ found ∷ []
    pub named : found.name ≡ name
    pub is : IsUse ds found

  at_is : (name : List ℕ) (q : Place) (h : HeadedForms) → uses.target_failures (locals_among ds) q h ≡ [] → IsOne name (uses.use_at (locals_among ds) name q h)
  at_is name q h e =
      let f = none_in (prime_failures h.primed h.place ++ uses.actuals_failures (locals_among ds) h.rest) _ e in
      let g = none_in (prime_failures h.primed h.place) _ f.0 in
      let all : are_symbols h.rest ≡ true = not_false _ (no_failure _ 12 q f.1) in
      let u : Use = record { name = name; target = h.name; place = h.place; list = q; actuals = uses.actuals_in (locals_among ds) h.rest } in
      record { found = u; only = ap (λ b. cond b (u ∷ []) []) all; named = refl; is = actuals_are h.rest g.1 }

  headed_is : (name : List ℕ) (q : Place) (o : Option HeadedForms) → uses.headed_failures (locals_among ds) q o ≡ [] → IsOne name (uses.use_headed (locals_among ds) name q o)
  headed_is name q None e = some_fails (refusal 12 q) [] e
  headed_is name q (Some h) e = at_is name q h e

  among_is : (p : Place) (n : NamedForm) (o : Option form.Trees) → uses.among_failures (locals_among ds) p n o ≡ [] → IsOne n.name (uses.use_among (locals_among ds) n o)
  among_is p n None e = some_fails (refusal 12 p) [] e
  among_is p n (Some ts) e = headed_is n.name (place_in n.form) (headed ts) e

  -- behind these names, the form spells one subsystem with a new name
  record IsNext (names : List (List ℕ)) (us : List Use) (then : List (List ℕ)) : Type 0 where
    pub each : AllByRecursion (IsUse ds) us
    pub fresh : are_fresh names (use_names us) ≡ true
    pub names_then : then ≡ names ++ use_names us

  named_is : (names : List (List ℕ)) (t : form.Tree) (o : Option NamedForm) → uses.named_failures names (locals_among ds) t o ≡ []
      → IsNext names (uses.use_named (locals_among ds) o) (names_with_named names o)
  named_is names t None e = some_fails (misshapen (place_in t) t) [] e
  named_is names t (Some n) e =
      let f = none_in (prime_failures n.primed n.place ++ fails_if (not (is_none (place_of names n.name))) 9 n.place) _ e in
      let g = none_in (prime_failures n.primed n.place) _ f.0 in
      let new : is_none (place_of names n.name) ≡ true = not_false _ (no_failure _ 9 n.place g.1) in
      let one = among_is (place_in t) n (parts_of n.form) f.1 in
      let its : use_names (uses.use_named (locals_among ds) (Some n)) ≡ n.name ∷ [] = ap use_names one.only ∙ ap (λ x. x ∷ []) one.named in
      record {
        each = subst (AllByRecursion (IsUse ds)) (sym one.only) (one.is, tt);
        fresh = ap (are_fresh names) its ∙ fresh_more names n.name [] (absent_is names n.name new) refl;
        names_then = ap (λ b. cond b (names ++ n.name ∷ []) names) new ∙ ap (λ x. names ++ x) (sym its);
      }

  pub uses_are : (names : List (List ℕ)) (turn : Turn) (ts : form.Trees) → uses.uses_failures (locals_among ds) names turn ts ≡ []
      → AllByRecursion (IsUse ds) (uses.uses_in (locals_among ds) turn ts) × (are_fresh names (use_names (uses.uses_in (locals_among ds) turn ts)) ≡ true)
  uses_are names turn form.no_trees h = (tt, refl)
  uses_are names turn (form.tree t ts) h = by_turn (λ names. uses_are names (turn_after System turn t) ts) (is_behind Subsystem turn) h
    where
      by_turn : ((names : List (List ℕ)) → uses.uses_failures (locals_among ds) names (turn_after System turn t) ts ≡ []
          → AllByRecursion (IsUse ds) (uses.uses_in (locals_among ds) (turn_after System turn t) ts) × (are_fresh names (use_names (uses.uses_in (locals_among ds) (turn_after System turn t) ts)) ≡ true))
          → (b : Bool)
          → (cond b (uses.use_tests names (locals_among ds) t) []) ++ uses.uses_failures (locals_among ds) (cond b (uses.names_with_use names t) names) (turn_after System turn t) ts ≡ []
          → AllByRecursion (IsUse ds) ((cond b (uses.use_of (locals_among ds) t) []) ++ uses.uses_in (locals_among ds) (turn_after System turn t) ts)
          × (are_fresh names (use_names ((cond b (uses.use_of (locals_among ds) t) []) ++ uses.uses_in (locals_among ds) (turn_after System turn t) ts)) ≡ true)
      by_turn rest false h = rest names h
      by_turn rest true h =
          let e = none_in (uses.use_tests names (locals_among ds) t) _ h in
          let n = named_is names t (named t) e.0 in
          let r = rest (uses.names_with_use names t) e.1 in
          let one = uses.use_of (locals_among ds) t in
          let more = uses.uses_in (locals_among ds) (turn_after System turn t) ts in (
            all_append (IsUse ds) one more n.each r.0,
            ap (are_fresh names) (map_append (λ (u : Use). u.name) one more) ∙ fresh_join names (use_names one) (use_names more) n.fresh (subst (λ x. are_fresh x (use_names more) ≡ true) n.names_then r.1),
          )
