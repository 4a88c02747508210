-- No test of links fails in a valid script that is shown and read again.
use Rattle.std.proofs.Common.{◌≡◌, ◌==◌, ℕ, zero, suc, ◌+◌, ◌<◌, Bool, true, false, not, cond, ◌&&◌, is_none, Option, None, Some, List, [], ◌∷◌, ◌++◌, map, length, refl, sym, ap, ◌∙◌, append_assoc, arith}
use Rattle.std.specs.Prelude.{slice_get}
use Rattle.std.specs.Option.{option_map}
use Rattle.std.proofs.lemmas.Bool.Decides.{nat_tests}
use Rattle.std.proofs.lemmas.List.{length-append, length-map}
use Rattle.text_core.specs.declared.place.Place.{Place}
use Rattle.text_core.specs.declared.place.Refusal.{Refusal}
use Rattle.moxi_sexpr.specs.Lexing.{refusal}
use Rattle.moxi_terms.specs.declared.data.Sort.{Sort}
use Rattle.moxi_terms.specs.declared.term.Variable.{Variable}
use Rattle.moxi_terms.specs.Names.{all_constants, function_names, is_term_name}
use Rattle.name_maps.specs.Names.{are_fresh, place_of}
use Rattle.moxi_terms.specs.Tree.{sorts_of}
use Rattle.moxi_terms.specs.View.{ScopeState}
use Rattle.moxi_term_print.specs.Terms.{name_at}
use Rattle.moxi_term_print.specs.laws.StandingPlaces.{fresh_place}
use Rattle.moxi_scripts.specs.declared.parts.Declared.{Declared}
use Rattle.moxi_scripts.specs.declared.parts.DeclaredList.{DeclaredList}
use Rattle.moxi_scripts.specs.declared.parts.Lists.{Lists}
use Rattle.moxi_scripts.specs.declared.script.Subsystem.{Subsystem}
use Rattle.moxi_scripts.specs.declared.parts.Actual.{Actual}
use Rattle.moxi_scripts.specs.declared.parts.Use.{Use}
use Rattle.moxi_scripts.specs.Checks.{CheckReading}
use Rattle.moxi_scripts.specs.Collecting.{fails_if}
use Rattle.moxi_scripts.specs.Declarations.{clash_failures, is_taken}
use Rattle.moxi_scripts.specs.Links as links
use Rattle.moxi_scripts.specs.Script.{PlainCheck, PlainSystem, system_at}
use Rattle.moxi_scripts.specs.Systems.{SystemReading}
use Rattle.moxi_scripts.specs.Valid.{FitsSystem, system_names}
use Rattle.moxi_script_print.proofs.AgainChecks.{AgreeCheck}
use Rattle.moxi_script_print.proofs.AgainCommands.{AgreeSystems, AreUntaken, term_names}
use Rattle.moxi_script_print.proofs.AgainDeclarations.{same_refl}
use Rattle.moxi_script_print.proofs.AgainEntries.{Agree, agree_append, agree_sorts}
use Rattle.moxi_script_print.proofs.AgainParts.{both_nil, first_or}
use Rattle.moxi_script_print.proofs.AgainSystems.{AgreeSystem}
use Rattle.moxi_script_print.proofs.AgainUses.{AgreeUse, AgreeUses, actual_sorts}
use Rattle.moxi_scripts.specs.laws.ListLaws.{get_right}
use Rattle.moxi_scripts.specs.laws.WholeNames.{absent_append, is_absent, or_both}
use Rattle.moxi_scripts.specs.laws.WholeScopes.{new_term}
use Rattle.text_core.proofs.ListLaws.{rest_of}

-- NAMES OF VARIABLES

taken_passes : (u : ScopeState) (ds : List Declared) → AreUntaken u ds → links.taken_failures u (term_names u u.functions) ds ≡ []
taken_passes u [] a = refl
taken_passes u (d ∷ ds) a =
    let names = term_names u u.functions in
    let n = new_term u d.name a.0 in
    let there : is_none (place_of names d.name) ≡ true = is_absent names d.name (absent_append (all_constants u.enumerations) (function_names u) d.name n.constants n.functions) in
    let free : is_taken u names d.name ≡ false = or_both (is_term_name u d.name) (not (is_none (place_of names d.name))) a.0 (ap not there) in
    both_nil (fails_if (is_taken u names d.name) 9 d.place) (links.taken_failures u names ds) (ap (λ b. fails_if b 9 d.place) free) (taken_passes u ds a.1)

-- SUBSYSTEMS

no_clash : (a b : Option Sort) (p : Place) → a ≡ b → clash_failures a b p ≡ []
no_clash None b p e = refl
no_clash (Some a) b p e = ap (λ b. clash_failures (Some a) b p) (sym e) ∙ ap (λ t. fails_if (not t) 5 p) (same_refl a)

abbrev entry_sorts : List Declared → List (Option Sort)
entry_sorts ds = map (λ (d : Declared). d.sort) ds

-- the entries from here on have the sorts of the actuals
none_clash : (l : Lists) (xs : List Actual) (front ds : List Declared) → l.inputs.entries ++ l.outputs.entries ≡ front ++ ds → actual_sorts xs ≡ entry_sorts ds → links.actuals_clash l (length front) xs ≡ []
none_clash l [] front ds e s = refl
none_clash l (a ∷ xs) front [] e s = absurd (cc)
none_clash l (a ∷ xs) front (d ∷ ds) e s =
    let here : links.sort_at l (length front) ≡ d.sort =
    ap (λ ds. links.entry_sort (slice_get ds (length front))) e ∙ ap links.entry_sort (get_right front (d ∷ ds) (length front) 0 (omega arith)) in
    let next : length (front ++ d ∷ []) ≡ suc (length front) = omega (arith, length-append front (d ∷ [])) in
    both_nil (clash_failures a.sort (links.sort_at l (length front)) a.place) (links.actuals_clash l (suc (length front)) xs) (no_clash a.sort (links.sort_at l (length front)) a.place (ap (first_or None) s ∙ sym here))
    (ap (λ n. links.actuals_clash l n xs) (sym next) ∙ none_clash l xs (front ++ d ∷ []) ds (e ∙ sym (append_assoc front (d ∷ []) ds)) (ap rest_of s))

fits : (u : Use) (l : Lists) (ins outs : List Variable) → Agree ins l.inputs.entries → Agree outs l.outputs.entries → actual_sorts u.actuals ≡ map Some (sorts_of (ins ++ outs)) → links.fit_failures u l ≡ []
fits u l ins outs i o s =
    let ds = l.inputs.entries ++ l.outputs.entries in
    let same : actual_sorts u.actuals ≡ entry_sorts ds = s ∙ sym (agree_sorts (ins ++ outs) ds (agree_append ins outs l.inputs.entries l.outputs.entries i o)) in
    let long : length (actual_sorts u.actuals) ≡ length (entry_sorts ds) = ap length same in
    let count : length u.actuals ≡ length l.inputs.entries + length l.outputs.entries =
    omega (arith, long, length-map u.actuals (λ (a : Actual). a.sort), length-map ds (λ (d : Declared). d.sort), length-append l.inputs.entries l.outputs.entries) in
    ap (λ b. cond b (links.actuals_clash l 0 u.actuals) (refusal 12 u.list ∷ [])) (equal (length u.actuals) (length l.inputs.entries + length l.outputs.entries) count)
    ∙ none_clash l u.actuals [] ds refl same
  where
    equal : (m n : ℕ) → m ≡ n → (m == n) ≡ true
    equal m n e = grind (arith, nat_tests)

-- the system of a number, and what is read of it
record IsAt (names : List (List ℕ)) (all xs : List PlainSystem) (rs : List SystemReading) (j : ℕ) : Type 0 where
  pub reading : SystemReading
  pub there : slice_get rs j ≡ Some reading
  pub agree : AgreeSystem names all (system_at xs j) reading

agree_at : (names : List (List ℕ)) (all xs : List PlainSystem) (rs : List SystemReading) (j : ℕ) → AgreeSystems names all xs rs → j < length xs → IsAt names all xs rs j
agree_at names all [] rs j a l = absurd (omega arith)
agree_at names all (x ∷ xs) [] j a l = absurd a
agree_at names all (x ∷ xs) (r ∷ rs) zero a l = record { reading = r; there = refl; agree = a.0 }
agree_at names all (x ∷ xs) (r ∷ rs) (suc j) a l =
    let i = agree_at names all xs rs j a.1 (omega arith) in
    record { reading = i.reading; there = i.there; agree = i.agree }

pub system_place : (ss : List PlainSystem) (j : ℕ) → are_fresh [] (system_names ss) ≡ true → j < length ss → place_of (system_names ss) (name_at (system_names ss) j) ≡ Some j
system_place ss j f l = fresh_place (system_names ss) j f (omega (arith, l, length-map ss (λ (x : PlainSystem). x.name)))

module _ (ss : List PlainSystem) (fresh : are_fresh [] (system_names ss) ≡ true) (rs : List SystemReading) (agree : AgreeSystems (system_names ss) ss ss rs) where
  lists_there : (j : ℕ) (l : j < length ss) → links.lists_at rs j ≡ Some (agree_at (system_names ss) ss ss rs j agree l).reading.lists
  lists_there j l = ap (option_map (λ (r : SystemReading). r.lists)) (agree_at (system_names ss) ss ss rs j agree l).there

  use_passes : (b : Subsystem) (u : Use) → AgreeUse (system_names ss) ss b u → links.use_failures rs (system_names ss) u ≡ []
  use_passes b u a =
      let at = agree_at (system_names ss) ss ss rs b.system agree a.there in
      let l = at.reading.lists in
      let x = system_at ss b.system in
      ap (links.target_failures rs u) (ap (place_of (system_names ss)) a.target ∙ system_place ss b.system fresh a.there) ∙ ap (links.actuals_failures u) (lists_there b.system a.there)
      ∙ by_shape (l.inputs.shaped && l.outputs.shaped) (links.fit_failures u l) (fits u l x.inputs x.outputs at.agree.lists.inputs_agree at.agree.lists.outputs_agree a.sorts)
    where
      by_shape : (b : Bool) (xs : List Refusal) → xs ≡ [] → cond b xs [] ≡ []
      by_shape true xs e = e
      by_shape false xs e = refl

  uses_pass : (bs : List Subsystem) (us : List Use) → AgreeUses (system_names ss) ss bs us → links.uses_failures rs (system_names ss) us ≡ []
  uses_pass [] [] a = refl
  uses_pass [] (u ∷ us) a = absurd a
  uses_pass (b ∷ bs) [] a = absurd a
  uses_pass (b ∷ bs) (u ∷ us) a = both_nil (links.use_failures rs (system_names ss) u) (links.uses_failures rs (system_names ss) us) (use_passes b u a.0) (uses_pass bs us a.1)

  systems_pass : (xs : List PlainSystem) (qs : List SystemReading) → AgreeSystems (system_names ss) ss xs qs → links.systems_failures rs (system_names ss) qs ≡ []
  systems_pass [] [] a = refl
  systems_pass [] (q ∷ qs) a = absurd a
  systems_pass (x ∷ xs) [] a = absurd a
  systems_pass (x ∷ xs) (q ∷ qs) a =
      both_nil (links.uses_failures rs (system_names ss) q.uses) (links.systems_failures rs (system_names ss) qs) (uses_pass x.subsystems q.uses a.0.uses) (systems_pass xs qs a.1)

  -- THE CHECK

  entries_same : (sorts : List Sort) (xs ys : List Declared) → entry_sorts xs ≡ map Some sorts → entry_sorts ys ≡ map Some sorts → links.entries_fit xs ys ≡ true
  entries_same [] [] [] e f = refl
  entries_same [] [] (y ∷ ys) e f = absurd (cc)
  entries_same [] (x ∷ xs) ys e f = absurd (cc)
  entries_same (s ∷ sorts) [] ys e f = absurd (cc)
  entries_same (s ∷ sorts) (x ∷ xs) [] e f = absurd (cc)
  entries_same (s ∷ sorts) (x ∷ xs) (y ∷ ys) e f =
      ap (λ o. links.same_known o y.sort && links.entries_fit xs ys) (ap (first_or None) e) ∙ ap (λ o. links.same_known (Some s) o && links.entries_fit xs ys) (ap (first_or None) f)
      ∙ ap (λ b. b && links.entries_fit xs ys) (same_refl s) ∙ entries_same sorts xs ys (ap rest_of e) (ap rest_of f)

  list_passes : (vs ws : List Variable) (a b : DeclaredList) (p : Place) → Agree vs a.entries → Agree ws b.entries → sorts_of ws ≡ sorts_of vs → links.list_failures a b p ≡ []
  list_passes vs ws a b p h g e =
      let fit : links.entries_fit a.entries b.entries ≡ true = entries_same (sorts_of vs) a.entries b.entries (agree_sorts vs a.entries h) (agree_sorts ws b.entries g ∙ ap (map Some) e) in
      ap (λ t. fails_if ((a.whole && b.whole) && not t) 13 p) fit ∙ ap (λ t. fails_if t 13 p) (never (a.whole && b.whole))
    where
      never : (t : Bool) → (t && false) ≡ false
      never true = refl
      never false = refl

  check_passes : (c : PlainCheck) (r : CheckReading) → c.system < length ss → FitsSystem (system_at ss c.system) c → AgreeCheck (system_names ss) c r → links.check_failures rs (system_names ss) (Some r) ≡ []
  check_passes c r l f a =
      let at = agree_at (system_names ss) ss ss rs c.system agree l in
      let x = system_at ss c.system in
      let ls = at.reading.lists in
      ap (links.checked_failures rs r) (ap (place_of (system_names ss)) a.target ∙ system_place ss c.system fresh l) ∙ ap (λ o. links.lists_failures o r.lists r.places) (lists_there c.system l)
      ∙ both_nil _ _ (both_nil _ _ (list_passes x.inputs c.inputs ls.inputs r.lists.inputs r.places.inputs at.agree.lists.inputs_agree a.lists.inputs_agree f.inputs)
      (list_passes x.outputs c.outputs ls.outputs r.lists.outputs r.places.outputs at.agree.lists.outputs_agree a.lists.outputs_agree f.outputs))
      (list_passes x.locals c.locals ls.locals r.lists.locals r.places.locals at.agree.lists.locals_agree a.lists.locals_agree f.locals)

  pub links_pass : (u : ScopeState) (ds : List Declared) (c : PlainCheck) (r : CheckReading) → AreUntaken u ds → c.system < length ss → FitsSystem (system_at ss c.system) c → AgreeCheck (system_names ss) c r
      → (links.taken_failures u (term_names u u.functions) ds ++ (links.systems_failures rs (system_names ss) rs ++ [])) ++ links.check_failures rs (system_names ss) (Some r) ≡ []
  links_pass u ds c r n l f a =
      let all = links.systems_failures rs (system_names ss) rs in
      both_nil (links.taken_failures u (term_names u u.functions) ds ++ (all ++ [])) (links.check_failures rs (system_names ss) (Some r))
      (both_nil (links.taken_failures u (term_names u u.functions) ds) (all ++ []) (taken_passes u ds n) (both_nil all [] (systems_pass ss rs agree) refl)) (check_passes c r l f a)
