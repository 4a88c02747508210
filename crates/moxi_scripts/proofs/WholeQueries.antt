-- Queries of which no test fails: their names differ, each number is that of a formula, and those of reachable formulas differ.
use Rattle.std.proofs.Common.{◌≡◌, ℕ, ◌<◌, Bool, true, false, not, cond, ◌&&◌, is_none, Option, None, Some, List, [], ◌∷◌, ◌++◌, length, refl, sym, ap, ◌∙◌, subst, append_assoc, append-nil}
use Rattle.std.specs.List.{AllByRecursion}
use Rattle.text_core.specs.declared.place.Place.{Place}
use Rattle.moxi_sexpr.specs.Lexing.{refusal}
use Rattle.moxi_sexpr.specs.Tree as form
use Rattle.moxi_term_reading.specs.Forms.{place_in, symbol_of}
use Rattle.name_maps.specs.Names.{are_fresh, place_of}
use Rattle.moxi_term_reading.specs.Reading.{prime_failures}
use Rattle.moxi_scripts.specs.declared.parts.Command.TheVariants.{Check}
use Rattle.moxi_scripts.specs.declared.parts.Turn.{Turn}
use Rattle.moxi_scripts.specs.declared.parts.QueryNames.{QueryNames}
use Rattle.moxi_scripts.specs.declared.script.Query.{Query}
use Rattle.moxi_scripts.specs.Attributes.{turn_after}
use Rattle.moxi_scripts.specs.Collecting.{fails_if}
use Rattle.moxi_scripts.specs.Declarations.{are_symbols}
use Rattle.moxi_scripts.specs.Labels.{FormulaLists}
use Rattle.moxi_scripts.specs.QueryReading as queries
use Rattle.moxi_scripts.specs.Shapes.{NamedForm, misshapen, named, parts_of}
use Rattle.moxi_scripts.specs.Valid.{IsValidQuery, query_names}
use Rattle.moxi_scripts.proofs.FunctionLaws.{none_in, some_fails}
use Rattle.moxi_scripts.specs.laws.WholeNames.{absent_is, fresh_join, fresh_more, or_both}
use Rattle.moxi_scripts.specs.laws.WholeParts.{all_append, map_append, no_failure, not_false}
use Rattle.name_maps.specs.laws.Places.{place_below}

no_prime : (b : Bool) (p : Place) → prime_failures b p ≡ [] → b ≡ false
no_prime true p h = some_fails _ [] h
no_prime false p h = refl

module _ (ls : FormulaLists) where
  abbrev Below : ℕ → List ℕ → Type 0
  Below n is = AllByRecursion (λ (i : ℕ). i < n) is

  -- each number is that of a formula
  record AreBelow (q : QueryNames) : Type 0 where
    pub assumptions : Below (length ls.assumptions.names) q.assumptions
    pub currents : Below (length ls.currents.names) q.currents
    pub reachables : Below (length ls.reachables.names) q.reachables

  one_more : (n i : ℕ) (is : List ℕ) → i < n → Below n is → Below n (is ++ i ∷ [])
  one_more n i is h b = all_append (λ (i : ℕ). i < n) is (i ∷ []) b (h, tt)

  number_below : (q : QueryNames) (name : List ℕ) (a c r : Option ℕ) → place_of ls.assumptions.names name ≡ a → place_of ls.currents.names name ≡ c → place_of ls.reachables.names name ≡ r
      → AreBelow q → AreBelow (queries.with_number q a c r)
  number_below q name (Some i) c r d e f b = record { assumptions = one_more _ i q.assumptions (place_below ls.assumptions.names name i d) b.assumptions; currents = b.currents; reachables = b.reachables }
  number_below q name None (Some i) r d e f b = record { assumptions = b.assumptions; currents = one_more _ i q.currents (place_below ls.currents.names name i e) b.currents; reachables = b.reachables }
  number_below q name None None (Some i) d e f b = record { assumptions = b.assumptions; currents = b.currents; reachables = one_more _ i q.reachables (place_below ls.reachables.names name i f) b.reachables }
  number_below q name None None None d e f b = record { assumptions = b.assumptions; currents = b.currents; reachables = b.reachables }

  symbol_below : (q : QueryNames) (o : Option (List ℕ × Bool)) → AreBelow q → AreBelow (queries.with_symbol ls q o)
  symbol_below q None b = b
  symbol_below q (Some x) b =
      number_below (queries.with_prime q x.1) x.0 (place_of ls.assumptions.names x.0) (place_of ls.currents.names x.0) (place_of ls.reachables.names x.0) refl refl refl
      (record { assumptions = b.assumptions; currents = b.currents; reachables = b.reachables })

  names_below : (q : QueryNames) (ts : form.Trees) → AreBelow q → AreBelow (queries.names_after ls q ts)
  names_below q form.no_trees b = b
  names_below q (form.tree t ts) b = names_below (queries.with_symbol ls q (symbol_of t)) ts (symbol_below q (symbol_of t) b)

  number_prime : (q : QueryNames) (a c r : Option ℕ) → (queries.with_number q a c r).primed ≡ q.primed
  number_prime q (Some i) c r = refl
  number_prime q None (Some i) r = refl
  number_prime q None None (Some i) = refl
  number_prime q None None None = refl

  symbol_prime : (q : QueryNames) (p : Place) (o : Option (List ℕ × Bool)) → queries.symbol_tests p o ≡ [] → q.primed ≡ false → (queries.with_symbol ls q o).primed ≡ false
  symbol_prime q p None h e = e
  symbol_prime q p (Some x) h e =
      number_prime (queries.with_prime q x.1) (place_of ls.assumptions.names x.0) (place_of ls.currents.names x.0) (place_of ls.reachables.names x.0)
      ∙ or_both q.primed x.1 e (no_prime x.1 p h)

  names_prime : (q : QueryNames) (ts : form.Trees) → queries.symbols_failures ts ≡ [] → q.primed ≡ false → (queries.names_after ls q ts).primed ≡ false
  names_prime q form.no_trees h e = e
  names_prime q (form.tree t ts) h e =
      let f = none_in (queries.symbol_tests (place_in t) (symbol_of t)) (queries.symbols_failures ts) h in
      names_prime (queries.with_symbol ls q (symbol_of t)) ts f.1 (symbol_prime q (place_in t) (symbol_of t) f.0 e)

  good_query : (w p k l s : Bool) → s ≡ true → (s && ((w && not p) && not (k && l))) ≡ false → w ≡ true → p ≡ false → l ≡ true
  good_query true false true true true a b c d = refl
  good_query true false true false true a b c d = absurd (cc)
  good_query true false false l true a b c d = absurd (cc)
  good_query true true k l true a b c d = absurd (cc)
  good_query false p k l true a b c d = absurd (cc)
  good_query w p k l false a b c d = absurd (cc)

  abbrev IsQuery : Query → Type 0
  IsQuery q = IsValidQuery (length ls.assumptions.names) (length ls.currents.names) (length ls.reachables.names) q

  -- behind these names the forms spell queries with new names
  record AreNext (names : List (List ℕ)) (qs : List Query) (then : List (List ℕ)) : Type 0 where
    pub each : AllByRecursion IsQuery qs
    pub fresh : are_fresh names (query_names qs) ≡ true
    pub names_then : then ≡ names ++ query_names qs

  module _ (whole : ls.whole ≡ true) where
    list_is : (p : Place) (n : NamedForm) (o : Option form.Trees) → queries.list_failures ls p n o ≡ [] → (q : Query) × (queries.queries_among ls n o ≡ q ∷ []) × (q.name ≡ n.name) × IsQuery q
    list_is p n None h = some_fails (refusal 12 p) [] h
    list_is p n (Some ts) h =
        let e = none_in (queries.symbols_failures ts ++ fails_if (not (are_symbols ts)) 12 (place_in n.form)) _ h in
        let f = none_in (queries.symbols_failures ts) _ e.0 in
        let all : are_symbols ts ≡ true = not_false _ (no_failure _ 12 (place_in n.form) f.1) in
        let x = queries.names_after ls queries.no_names ts in
        let b = names_below queries.no_names ts (record { assumptions = tt; currents = tt; reachables = tt }) in
        let differ : queries.some_distinct x.reachables ≡ true =
        good_query ls.whole x.primed x.known (queries.some_distinct x.reachables) (are_symbols ts) all (no_failure _ 14 p e.1) whole (names_prime queries.no_names ts f.0 refl) in
        (queries.query_with n.name x, refl, refl, record { assumptions_there = b.assumptions; currents_there = b.currents; reachables_there = b.reachables; reachables_differ = differ })

    named_is : (names : List (List ℕ)) (around : Place) (t : form.Tree) (o : Option NamedForm) → queries.named_failures ls names around t o ≡ []
        → AreNext names (queries.queries_named ls o) (queries.names_with_named names o)
    named_is names around t None h = some_fails (misshapen around t) [] h
    named_is names around t (Some n) h =
        let f = none_in (prime_failures n.primed n.place ++ fails_if (not (is_none (place_of names n.name))) 9 n.place) _ h in
        let g = none_in (prime_failures n.primed n.place) _ f.0 in
        let new : is_none (place_of names n.name) ≡ true = not_false _ (no_failure _ 9 n.place g.1) in
        let one = list_is (place_in t) n (parts_of n.form) f.1 in
        let its : query_names (queries.queries_named ls (Some n)) ≡ n.name ∷ [] = ap query_names one.1 ∙ ap (λ x. x ∷ []) one.2 in
        record {
          each = subst (AllByRecursion IsQuery) (sym one.1) (one.3, tt);
          fresh = ap (are_fresh names) its ∙ fresh_more names n.name [] (absent_is names n.name new) refl;
          names_then = ap (λ b. cond b (names ++ n.name ∷ []) names) new ∙ ap (λ x. names ++ x) (sym its);
        }

    both_next : (names middle then : List (List ℕ)) (xs ys : List Query) → AreNext names xs middle → AreNext middle ys then → AreNext names (xs ++ ys) then
    both_next names middle then xs ys a b =
        let its : query_names (xs ++ ys) ≡ query_names xs ++ query_names ys = map_append (λ (q : Query). q.name) xs ys in
        record {
          each = all_append IsQuery xs ys a.each b.each;
          fresh = ap (are_fresh names) its ∙ fresh_join names (query_names xs) (query_names ys) a.fresh (subst (λ x. are_fresh x (query_names ys) ≡ true) a.names_then b.fresh);
          names_then = b.names_then ∙ ap (λ x. x ++ query_names ys) a.names_then ∙ append_assoc names (query_names xs) (query_names ys) ∙ ap (λ x. names ++ x) (sym its);
        }

    nothing_next : (names : List (List ℕ)) → AreNext names [] names
    nothing_next names = record { each = tt; fresh = refl; names_then = sym (append-nil names) }

    queries_are : (names : List (List ℕ)) (around : Place) (ts : form.Trees) → queries.queries_failures ls names around ts ≡ []
        → AreNext names (queries.queries_in ls ts) (queries.names_with_queries names ts)
    queries_are names around form.no_trees h = nothing_next names
    queries_are names around (form.tree t ts) h =
        let e = none_in (queries.query_failures ls names around t) _ h in
        both_next names (queries.names_with_query names t) (queries.names_with_queries (queries.names_with_query names t) ts) (queries.query_of ls t) (queries.queries_in ls ts)
        (named_is names around t (named t) e.0) (queries_are (queries.names_with_query names t) around ts e.1)

    pub all_queries_are : (names : List (List ℕ)) (turn : Turn) (ts : form.Trees) → queries.all_queries_failures ls names turn ts ≡ []
        → AllByRecursion IsQuery (queries.queries_after ls turn ts) × (are_fresh names (query_names (queries.queries_after ls turn ts)) ≡ true)
    all_queries_are names turn form.no_trees h = (tt, refl)
    all_queries_are names turn (form.tree t ts) h =
        let e = none_in (queries.queries_failures ls names (place_in t) (queries.query_forms turn t)) _ h in
        let a = queries_are names (place_in t) (queries.query_forms turn t) e.0 in
        let then = queries.names_with_queries names (queries.query_forms turn t) in
        let b = all_queries_are then (turn_after Check turn t) ts e.1 in
        let xs = queries.queries_in ls (queries.query_forms turn t) in
        let ys = queries.queries_after ls (turn_after Check turn t) ts in (
          all_append IsQuery xs ys a.each b.0,
          ap (are_fresh names) (map_append (λ (q : Query). q.name) xs ys) ∙ fresh_join names (query_names xs) (query_names ys) a.fresh (subst (λ x. are_fresh x (query_names ys) ≡ true) a.names_then b.1),
        )
