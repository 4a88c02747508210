-- What is read, once all tests of systems, subsystems and the check hold over the whole script.
use Rattle.std.proofs.Common.{◌≡◌, ℕ, zero, suc, ◌+◌, ◌<◌, eqb, Bool, true, false, not, cond, ◌&&◌, Option, None, Some, List, [], ◌∷◌, ◌++◌, map, length, refl, sym, ap, ◌∙◌, subst, arith, append_assoc}
use Rattle.std.specs.Prelude.{slice_get}
use Rattle.std.specs.List.{AllByRecursion}
use Rattle.std.proofs.lemmas.Bool.{and_parts}
use Rattle.std.proofs.lemmas.Bool.Decides.{nat_tests}
use Rattle.std.proofs.lemmas.List.{length-append, length-map}
use Rattle.std.proofs.lemmas.Option.{none-some, same_Some}
use Rattle.text_core.specs.declared.place.Place.{Place}
use Rattle.moxi_sexpr.specs.Lexing.{refusal}
use Rattle.moxi_terms.specs.declared.data.Primes.TheVariants.{Allowed, Refused}
use Rattle.moxi_terms.specs.declared.data.Sort.{Sort}
use Rattle.moxi_terms.specs.declared.term.Enumeration.{Enumeration}
use Rattle.moxi_terms.specs.declared.term.Variable.{Variable}
use Rattle.moxi_terms.specs.Names.{is_term_name}
use Rattle.name_maps.specs.Names.{are_fresh, place_of}
use Rattle.moxi_terms.specs.Tree.{sorts_of}
use Rattle.moxi_terms.specs.View.{ScopeState}
use Rattle.moxi_scripts.specs.declared.parts.Declared.{Declared}
use Rattle.moxi_scripts.specs.declared.parts.DeclaredList.{DeclaredList}
use Rattle.moxi_scripts.specs.declared.parts.Lists.{Lists}
use Rattle.moxi_scripts.specs.declared.script.Subsystem.{Subsystem}
use Rattle.moxi_scripts.specs.declared.parts.Actual.{Actual}
use Rattle.moxi_scripts.specs.declared.parts.Use.{Use}
use Rattle.moxi_scripts.specs.Checks.{CheckReading}
use Rattle.moxi_scripts.specs.Collecting.{fails_if}
use Rattle.moxi_scripts.specs.Declarations.{clash_failures, is_taken}
use Rattle.moxi_scripts.specs.Entries.{variables_of}
use Rattle.moxi_scripts.specs.Links as links
use Rattle.moxi_scripts.specs.Links.{entries_fit, entry_sort, lists_at, same_known, sort_at, taken_failures}
use Rattle.moxi_scripts.specs.Lists.{all_entries}
use Rattle.moxi_scripts.specs.Script.{PlainFormula, PlainSystem, system_at, variables_in}
use Rattle.moxi_scripts.specs.Spelling.{actual_numbers, check_of, number_or_none, subsystem_of, system_of}
use Rattle.moxi_scripts.specs.Systems.{SystemReading}
use Rattle.moxi_scripts.specs.Valid.{AreVariables, FitsSystem, IsFormula, IsValidCheck, IsValidQuery, IsValidSubsystem, IsValidSystem, check_variables, formula_names}
use Rattle.moxi_scripts.proofs.FunctionLaws.{none_in, one_sort, some_fails}
use Rattle.moxi_scripts.specs.laws.ListLaws.{get_right}
use Rattle.moxi_scripts.proofs.WholeEntries.{AreKnown, all_known, declared_sorts, sorts_same, variables_all, variables_append}
use Rattle.moxi_scripts.proofs.WholeFormulas.{no_clash}
use Rattle.moxi_scripts.specs.laws.WholeNames.{or_parts}
use Rattle.moxi_scripts.specs.laws.WholeParts.{all_append, all_at, get_map, get_there, index_get, no_failure}
use Rattle.moxi_scripts.proofs.WholeSystems.{AreUntaken, IsCheckSoFar, IsSystemSoFar}
use Rattle.moxi_scripts.proofs.WholeUses.{IsActual, IsUse}
use Rattle.name_maps.specs.laws.Places.{place_below}

pub untaken : (s : ScopeState) (names : List (List ℕ)) (ds : List Declared) → taken_failures s names ds ≡ [] → AreUntaken s ds
untaken s names [] h = tt
untaken s names (d ∷ ds) h =
    let e = none_in (fails_if (is_taken s names d.name) 9 d.place) (taken_failures s names ds) h in
    ((or_parts (is_term_name s d.name) _ (no_failure _ 9 d.place e.0)).0, untaken s names ds e.1)

map_map : {A B C : Type 0} (f : A → B) (g : B → C) (xs : List A) → map g (map f xs) ≡ map (λ (x : A). g (f x)) xs
map_map f g [] = refl
map_map f g (x ∷ xs) = ap (λ ys. g (f x) ∷ ys) (map_map f g xs)

-- SORTS

get_some : {A : Type 0} (xs : List A) (i : ℕ) (o : Option A) → slice_get (map Some xs) i ≡ Some o → slice_get xs i ≡ o
get_some [] i o h = absurd (none-some o h)
get_some (x ∷ xs) zero o h = same_Some (Some x) o h
get_some (x ∷ xs) (suc i) o h = get_some xs i o h

some_same : {A : Type 0} (xs ys : List A) → map Some xs ≡ map Some ys → xs ≡ ys
some_same [] [] h = refl
some_same [] (y ∷ ys) h = absurd (cc)
some_same (x ∷ xs) [] h = absurd (cc)
some_same {A} (x ∷ xs) (y ∷ ys) h = ap (λ z. z ∷ xs) (same_Some x y (first_same h)) ∙ ap (λ zs. y ∷ zs) (some_same xs ys (rest_same h))
  where
    first_of : List (Option A) → Option A
    first_of [] = None
    first_of (o ∷ os) = o

    rest_of : List (Option A) → List (Option A)
    rest_of [] = []
    rest_of (o ∷ os) = os

    first_same : Some x ∷ map Some xs ≡ Some y ∷ map Some ys → Some x ≡ Some y
    first_same e = ap first_of e

    rest_same : Some x ∷ map Some xs ≡ Some y ∷ map Some ys → map Some xs ≡ map Some ys
    rest_same e = ap rest_of e

known_at : (es : List Enumeration) (ds : List Declared) (i : ℕ) (o : Option Sort) → AreKnown es ds → slice_get (declared_sorts ds) i ≡ Some o → (s : Sort) × (o ≡ Some s)
known_at es [] i o k h = absurd (none-some o h)
known_at es (d ∷ ds) zero o k h = (k.0.0, sym (same_Some d.sort o h) ∙ k.0.1)
known_at es (d ∷ ds) (suc i) o k h = known_at es ds i o k.1 h

-- the actuals' sorts are those of the variables
numbers_sorts : (es : List Enumeration) (ds : List Declared) (xs : List Actual) → AreKnown es ds → AllByRecursion (IsActual ds) xs → map (slice_get (sorts_of (variables_of ds))) (actual_numbers xs) ≡ map (λ (a : Actual). a.sort) xs
numbers_sorts es ds [] k a = refl
numbers_sorts es ds (x ∷ xs) k a =
    ap (λ o. o ∷ map (slice_get (sorts_of (variables_of ds))) (actual_numbers xs)) (get_some (sorts_of (variables_of ds)) x.number x.sort (ap (λ os. slice_get os x.number) (sorts_same es ds k) ∙ a.0))
    ∙ ap (λ os. x.sort ∷ os) (numbers_sorts es ds xs k a.1)

-- and those of the entries from number i on
actuals_sorts : (es : List Enumeration) (ds : List Declared) (l : Lists) (front rest : List Declared) (i : ℕ) (xs : List Actual) → AreKnown es ds → AreKnown es rest → AllByRecursion (IsActual ds) xs
    → l.inputs.entries ++ l.outputs.entries ≡ front ++ rest → length front ≡ i → length xs ≡ length rest → links.actuals_clash l i xs ≡ [] → map (λ (a : Actual). a.sort) xs ≡ declared_sorts rest
actuals_sorts es ds l front [] i [] k q a e n m h = refl
actuals_sorts es ds l front (d ∷ rest) i [] k q a e n m h = absurd (omega arith)
actuals_sorts es ds l front [] i (x ∷ xs) k q a e n m h = absurd (omega arith)
actuals_sorts es ds l front (d ∷ rest) i (x ∷ xs) k q a e n m h =
    let p = none_in (clash_failures x.sort (sort_at l i) x.place) (links.actuals_clash l (suc i) xs) h in
    let known = known_at es ds x.number x.sort k a.0 in
    let at : slice_get (l.inputs.entries ++ l.outputs.entries) i ≡ Some d = ap (λ ys. slice_get ys i) e ∙ get_right front (d ∷ rest) i 0 (omega arith) in
    let sort : sort_at l i ≡ Some q.0.0 = ap entry_sort at ∙ q.0.1 in
    let same : known.0 ≡ q.0.0 = no_clash known.0 q.0.0 x.place (subst (λ o. clash_failures o (Some q.0.0) x.place ≡ []) known.1 (subst (λ o. clash_failures x.sort o x.place ≡ []) sort p.0)) in
    ap (λ o. o ∷ map (λ (a : Actual). a.sort) xs) (known.1 ∙ ap Some same ∙ sym q.0.1)
    ∙ ap (λ os. d.sort ∷ os)
    (actuals_sorts es ds l (front ++ d ∷ []) rest (suc i) xs k q.1 a.1 (e ∙ sym (append_assoc front (d ∷ []) rest)) (length-append front (d ∷ []) ∙ (let z : length front + 1 ≡ suc i = omega arith in z)) (omega arith) p.1)

fit_sorts : (es : List Enumeration) (xs ys : List Declared) → AreKnown es xs → AreKnown es ys → entries_fit xs ys ≡ true → declared_sorts xs ≡ declared_sorts ys
fit_sorts es [] [] k q h = refl
fit_sorts es [] (y ∷ ys) k q h = absurd (cc)
fit_sorts es (x ∷ xs) [] k q h = absurd (cc)
fit_sorts es (x ∷ xs) (y ∷ ys) k q h =
    let p = and_parts (same_known x.sort y.sort) (entries_fit xs ys) h in
    let same : k.0.0 ≡ q.0.0 = one_sort k.0.0 q.0.0 (subst (λ o. same_known o (Some q.0.0) ≡ true) k.0.1 (subst (λ o. same_known x.sort o ≡ true) q.0.1 p.0)) in
    ap (λ o. o ∷ declared_sorts xs) (k.0.1 ∙ ap Some same ∙ sym q.0.1) ∙ ap (λ os. y.sort ∷ os) (fit_sorts es xs ys k.1 q.1 p.1)

-- a list of the check has the sorts of the system's list
list_sorts : (es : List Enumeration) (a b : DeclaredList) (p : Place) → AreKnown es a.entries → AreKnown es b.entries → a.whole ≡ true → b.whole ≡ true → links.list_failures a b p ≡ []
    → sorts_of (variables_of b.entries) ≡ sorts_of (variables_of a.entries)
list_sorts es a b p k q x y h =
    let fits : entries_fit a.entries b.entries ≡ true = by_whole a.whole b.whole (entries_fit a.entries b.entries) x y (no_failure _ 13 p h) in
    some_same (sorts_of (variables_of b.entries)) (sorts_of (variables_of a.entries)) (sorts_same es b.entries q ∙ sym (fit_sorts es a.entries b.entries k q fits) ∙ sym (sorts_same es a.entries k))
  where
    by_whole : (v w c : Bool) → v ≡ true → w ≡ true → ((v && w) && not c) ≡ false → c ≡ true
    by_whole true true true x y h = refl
    by_whole true true false x y h = absurd (cc)
    by_whole true false c x y h = absurd (cc)
    by_whole false w c x y h = absurd (cc)

-- SYSTEMS

module _ (s : ScopeState) (rs : List SystemReading) (names : List (List ℕ)) (same : map (λ (x : SystemReading). x.name) rs ≡ names) (each : AllByRecursion (IsSystemSoFar s) rs) where
  abbrev pub found_systems : List PlainSystem
  found_systems = map (system_of names) rs

  -- the system of a name
  pub record IsFound (target : List ℕ) : Type 0 where
    pub number : ℕ
    pub place : place_of names target ≡ Some number
    pub below : number < length rs
    pub reading : SystemReading
    pub there : slice_get rs number ≡ Some reading

  pub found_at : (target : List ℕ) (j : ℕ) → place_of names target ≡ Some j → IsFound target
  found_at target j e =
      let below : j < length names = place_below names target j e in
      let long : length names ≡ length rs = ap length (sym same) ∙ length-map rs (λ (x : SystemReading). x.name) in
      let t = get_there rs j (omega arith) in
      record { number = j; place = e; below = omega arith; reading = t.0; there = t.1 }

  pub target_found : (u : Use) → links.use_failures rs names u ≡ [] → IsFound u.target
  target_found u h = by_place (place_of names u.target) refl h
    where
      by_place : (o : Option ℕ) → place_of names u.target ≡ o → links.target_failures rs u o ≡ [] → IsFound u.target
      by_place None e h = some_fails (refusal 10 u.place) [] h
      by_place (Some j) e h = found_at u.target j e

  pub system_there : (target : List ℕ) (f : IsFound target) → system_at found_systems (number_or_none (place_of names target)) ≡ system_of names f.reading
  system_there target f = ap (λ o. system_at found_systems (number_or_none o)) f.place ∙ index_get found_systems f.number (system_of names f.reading) _ (get_map (system_of names) rs f.number f.reading f.there)

  pub number_below : (target : List ℕ) (f : IsFound target) → number_or_none (place_of names target) < length found_systems
  number_below target f =
      let e : number_or_none (place_of names target) ≡ f.number = ap number_or_none f.place in
      let long : length found_systems ≡ length rs = length-map rs (system_of names) in
      let below : f.number < length rs = f.below in
      omega arith

  use_sorts : (ds : List Declared) (u : Use) (x : SystemReading) → AreKnown s.enumerations ds → IsUse ds u → IsSystemSoFar s x → links.actuals_failures u (Some x.lists) ≡ []
      → map (slice_get (sorts_of (variables_of ds))) (actual_numbers u.actuals) ≡ map Some (sorts_of (variables_of x.lists.inputs.entries ++ variables_of x.lists.outputs.entries))
  use_sorts ds u x k a i h =
      let l = x.lists in
      let es = s.enumerations in
      let io = l.inputs.entries ++ l.outputs.entries in
      let known = all_append _ l.inputs.entries l.outputs.entries i.known.inputs i.known.outputs in
      let fits = by_shape (l.inputs.shaped) (l.outputs.shaped) i.known.inputs_shaped i.known.outputs_shaped h in
      let p = by_count (eqb (length u.actuals) (length l.inputs.entries + length l.outputs.entries)) refl fits in
      numbers_sorts es ds u.actuals k a
      ∙ actuals_sorts es ds l [] io 0 u.actuals k known a refl refl ((let m : length u.actuals ≡ length l.inputs.entries + length l.outputs.entries = grind (arith, nat_tests, p.0) in m) ∙ sym (length-append l.inputs.entries l.outputs.entries)) p.1
      ∙ sym (sorts_same es io known) ∙ ap (λ vs. map Some (sorts_of vs)) (variables_append l.inputs.entries l.outputs.entries)
    where
      by_shape : (v w : Bool) → v ≡ true → w ≡ true → cond (v && w) (links.fit_failures u x.lists) [] ≡ [] → links.fit_failures u x.lists ≡ []
      by_shape true true a b h = h
      by_shape true false a b h = absurd (cc)
      by_shape false w a b h = absurd (cc)

      by_count : (b : Bool) → eqb (length u.actuals) (length x.lists.inputs.entries + length x.lists.outputs.entries) ≡ b → cond b (links.actuals_clash x.lists 0 u.actuals) (refusal 12 u.list ∷ []) ≡ []
          → (eqb (length u.actuals) (length x.lists.inputs.entries + length x.lists.outputs.entries) ≡ true) × (links.actuals_clash x.lists 0 u.actuals ≡ [])
      by_count true e h = (e, h)
      by_count false e h = some_fails (refusal 12 u.list) [] h

  use_whole : (ds : List Declared) (u : Use) → AreKnown s.enumerations ds → IsUse ds u → links.use_failures rs names u ≡ [] → IsValidSubsystem found_systems (variables_of ds) (subsystem_of names u)
  use_whole ds u k a h =
      let f = target_found u h in
      let x = f.reading in
      let lists : lists_at rs f.number ≡ Some x.lists = lists_there f.number x f.there in
      let fits : links.actuals_failures u (Some x.lists) ≡ [] = subst (λ o. links.actuals_failures u o ≡ []) lists (subst (λ o. links.target_failures rs u o ≡ []) f.place h) in
      let y = system_at found_systems (number_or_none (place_of names u.target)) in
      record {
        there = number_below u.target f;
        actuals = use_sorts ds u x k a (all_at (IsSystemSoFar s) rs f.number x each f.there) fits
            ∙ ap (λ (z : PlainSystem). map Some (sorts_of (z.inputs ++ z.outputs))) (sym (system_there u.target f));
      }
    where
      lists_there : (j : ℕ) (x : SystemReading) → slice_get rs j ≡ Some x → lists_at rs j ≡ Some x.lists
      lists_there j x e = by_get (slice_get rs j) e
        where
          by_get : (o : Option SystemReading) → o ≡ Some x → elim o [ None ↦ let n : Option Lists = None in n | Some r ↦ Some r.lists ] ≡ Some x.lists
          by_get None e = absurd (none-some x e)
          by_get (Some r) e = ap (λ (r : SystemReading). Some r.lists) (same_Some r x e)

  uses_whole : (ds : List Declared) (us : List Use) → AreKnown s.enumerations ds → AllByRecursion (IsUse ds) us → links.uses_failures rs names us ≡ []
      → AllByRecursion (IsValidSubsystem found_systems (variables_of ds)) (map (subsystem_of names) us)
  uses_whole ds [] k a h = tt
  uses_whole ds (u ∷ us) k a h =
      let e = none_in (links.use_failures rs names u) (links.uses_failures rs names us) h in
      (use_whole ds u k a.0 e.0, uses_whole ds us k a.1 e.1)

  system_whole : (r : SystemReading) → IsSystemSoFar s r → links.uses_failures rs names r.uses ≡ [] → IsValidSystem s found_systems (system_of names r)
  system_whole r i h =
      let ds = all_entries r.lists in
      let vs : variables_of ds ≡ variables_in (system_of names r) = variables_all r.lists in
      record {
        variables = subst (AreVariables s) vs i.variables;
        init = subst (λ ws. IsFormula s ws Refused r.init) vs i.init;
        trans = subst (λ ws. IsFormula s ws Allowed r.trans) vs i.trans;
        inv = subst (λ ws. IsFormula s ws Refused r.inv) vs i.inv;
        names = ap (are_fresh []) (map_map (subsystem_of names) (λ (b : Subsystem). b.name) r.uses) ∙ i.names;
        subsystems = subst (λ ws. AllByRecursion (IsValidSubsystem found_systems ws) (map (subsystem_of names) r.uses)) vs (uses_whole ds r.uses (all_known s.enumerations r.lists i.known) i.uses h);
      }

  pub systems_whole : (xs : List SystemReading) → AllByRecursion (IsSystemSoFar s) xs → links.systems_failures rs names xs ≡ [] → AllByRecursion (IsValidSystem s found_systems) (map (system_of names) xs)
  systems_whole [] a h = tt
  systems_whole (x ∷ xs) a h =
      let e = none_in (links.uses_failures rs names x.uses) (links.systems_failures rs names xs) h in
      (system_whole x a.0 e.0, systems_whole xs a.1 e.1)

  pub system_names_same : (xs : List SystemReading) → map (λ (y : PlainSystem). y.name) (map (system_of names) xs) ≡ map (λ (x : SystemReading). x.name) xs
  system_names_same xs = map_map (system_of names) (λ (y : PlainSystem). y.name) xs

  -- THE CHECK

  check_fits : (c : CheckReading) → IsCheckSoFar s c → (f : IsFound c.target) → links.checked_failures rs c (Some f.number) ≡ [] → FitsSystem (system_of names f.reading) (check_of names c)
  check_fits c i f h =
      let l = f.reading.lists in
      let x = all_at (IsSystemSoFar s) rs f.number f.reading each f.there in
      let lists : lists_at rs f.number ≡ Some l = by_get (slice_get rs f.number) f.there in
      let g : links.lists_failures (Some l) c.lists c.places ≡ [] = subst (λ o. links.lists_failures o c.lists c.places ≡ []) lists h in
      let p = none_in (links.list_failures l.inputs c.lists.inputs c.places.inputs ++ links.list_failures l.outputs c.lists.outputs c.places.outputs) _ g in
      let q = none_in (links.list_failures l.inputs c.lists.inputs c.places.inputs) _ p.0 in
      let es = s.enumerations in
      record {
        inputs = list_sorts es l.inputs c.lists.inputs c.places.inputs x.known.inputs i.known.inputs x.known.inputs_whole i.known.inputs_whole q.0;
        outputs = list_sorts es l.outputs c.lists.outputs c.places.outputs x.known.outputs i.known.outputs x.known.outputs_whole i.known.outputs_whole q.1;
        locals = list_sorts es l.locals c.lists.locals c.places.locals x.known.locals i.known.locals x.known.locals_whole i.known.locals_whole p.1;
      }
    where
      by_get : (o : Option SystemReading) → o ≡ Some f.reading → elim o [ None ↦ let n : Option Lists = None in n | Some r ↦ Some r.lists ] ≡ Some f.reading.lists
      by_get None e = absurd (none-some f.reading e)
      by_get (Some r) e = ap (λ (r : SystemReading). Some r.lists) (same_Some r f.reading e)

  pub check_whole : (c : CheckReading) → IsCheckSoFar s c → links.check_failures rs names (Some c) ≡ [] → IsValidCheck s found_systems (check_of names c)
  unfolding found_at
  check_whole c i h = by_place (place_of names c.target) refl h
    where
      by_place : (o : Option ℕ) → place_of names c.target ≡ o → links.checked_failures rs c o ≡ [] → IsValidCheck s found_systems (check_of names c)
      by_place None e h = some_fails (refusal 10 c.target_place) [] h
      by_place (Some j) e h =
          let f = found_at c.target j e in
          let vs : variables_of (all_entries c.lists) ≡ check_variables (check_of names c) = variables_all c.lists in
          let ls = c.labels in
          let formulas = λ (fs : List PlainFormula) (ws : List Variable). AllByRecursion (λ (x : PlainFormula). IsFormula s ws Refused x.term) fs in
          let long : (ns : List (List ℕ)) (fs : List PlainFormula) → ns ≡ formula_names fs → length ns ≡ length fs = λ ns fs e. ap length e ∙ length-map fs (λ (x : PlainFormula). x.name) in
          let la = long ls.assumptions.names ls.assumptions.formulas i.labels.assumptions.names in
          let lc = long ls.currents.names ls.currents.formulas i.labels.currents.names in
          let lr = long ls.reachables.names ls.reachables.formulas i.labels.reachables.names in
          record {
            there = number_below c.target f;
            fits = subst (λ (x : PlainSystem). FitsSystem x (check_of names c)) (sym (system_there c.target f)) (check_fits c i f h);
            variables = subst (AreVariables s) vs i.variables;
            formulas = record {
              names = ap (are_fresh [])
                  (ap (λ ns. ns ++ (formula_names ls.currents.formulas ++ formula_names ls.reachables.formulas)) (sym i.labels.assumptions.names)
                  ∙ ap (λ ns. ls.assumptions.names ++ (ns ++ formula_names ls.reachables.formulas)) (sym i.labels.currents.names)
                  ∙ ap (λ ns. ls.assumptions.names ++ (ls.currents.names ++ ns)) (sym i.labels.reachables.names)) ∙ i.labels.differ;
              assumptions = subst (formulas ls.assumptions.formulas) vs i.labels.assumptions.formulas;
              currents = subst (formulas ls.currents.formulas) vs i.labels.currents.formulas;
              reachables = subst (formulas ls.reachables.formulas) vs i.labels.reachables.formulas;
            };
            queries = record {
              names = i.names;
              queries = subst (λ n. AllByRecursion (IsValidQuery n (length ls.currents.formulas) (length ls.reachables.formulas)) c.queries) la
                  (subst (λ n. AllByRecursion (IsValidQuery (length ls.assumptions.names) n (length ls.reachables.formulas)) c.queries) lc
                  (subst (λ n. AllByRecursion (IsValidQuery (length ls.assumptions.names) (length ls.currents.names) n) c.queries) lr i.queries));
            };
          }
