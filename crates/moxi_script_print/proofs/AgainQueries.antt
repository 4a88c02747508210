-- Queries that are shown and read again.
use Rattle.std.proofs.Common.{◌≡◌, ℕ, ◌<◌, true, false, not, cond, ◌&&◌, is_none, None, Some, List, [], ◌∷◌, ◌++◌, length, refl, sym, ap, ◌∙◌, subst, append_assoc, append-nil}
use Rattle.std.specs.Prelude.{codes}
use Rattle.std.specs.List.{AllByRecursion}
use Rattle.text_core.specs.declared.place.Place.{Place}
use Rattle.moxi_sexpr.specs.declared.form.Atom.TheVariants.{Symbol}
use Rattle.moxi_sexpr.specs.Tree as form
use Rattle.moxi_term_reading.specs.Forms.{place_in}
use Rattle.moxi_term_reading.specs.declared.locals.Local.{Local}
use Rattle.name_maps.specs.Names.{are_fresh, place_of}
use Rattle.moxi_terms.specs.View.{ScopeState}
use Rattle.moxi_term_print.specs.Declarations.{shown_symbols}
use Rattle.moxi_term_print.specs.Shown.{group, Shows, ShowEach}
use Rattle.moxi_term_print.specs.Terms.{name_at, symbol}
use Rattle.moxi_term_print.specs.laws.StandingPlaces.{fresh_place}
use Rattle.moxi_term_print.specs.laws.StandingShapes as shape
use Rattle.moxi_scripts.specs.declared.parts.Command.TheVariants.{Check}
use Rattle.moxi_scripts.specs.declared.parts.Key.TheVariants as keys
use Rattle.moxi_scripts.specs.declared.parts.Turn.TheVariants.{AtKeyword}
use Rattle.moxi_scripts.specs.declared.parts.QueryNames.{QueryNames}
use Rattle.moxi_scripts.specs.declared.script.Query.{Query}
use Rattle.moxi_scripts.specs.Attributes.{is_list_form}
use Rattle.moxi_scripts.specs.Collecting.{fails_if}
use Rattle.moxi_scripts.specs.Declarations.{are_symbols}
use Rattle.moxi_scripts.specs.Labels.{FormulaLists, labels_after, labels_failures}
use Rattle.moxi_script_print.specs.Printing.{names_of, query_names, shown_names, shown_queries}
use Rattle.moxi_scripts.specs.QueryReading as query
use Rattle.moxi_scripts.specs.Script.{PlainFormula}
use Rattle.moxi_scripts.specs.Shapes.{parts_of}
use Rattle.moxi_scripts.specs.Valid.{IsValidQuery, formula_names}
use Rattle.moxi_scripts.specs.Valid as whole
use Rattle.moxi_script_print.proofs.AgainAttributes.{IsTail, attribute_forms, tail_end, tail_more}
use Rattle.moxi_script_print.proofs.AgainLabels.{made_labels}
use Rattle.moxi_script_print.proofs.AgainParts.{none_if}
use Rattle.moxi_script_print.proofs.AgainShapes.{is_attribute, is_listed, is_named, named_form}
use Rattle.moxi_script_print.proofs.AgainUses.{absent_at}
use Rattle.moxi_scripts.specs.laws.WholeNames.{Absent, absent_parts, fresh_first, fresh_split, fresh_with, is_absent}

-- NAMES

no_names : (ys : List (List ℕ)) → AllByRecursion (Absent []) ys
no_names [] = tt
no_names (y ∷ ys) = (refl, no_names ys)

fresh_alone : (before names : List (List ℕ)) → are_fresh before names ≡ true → are_fresh [] names ≡ true
fresh_alone before names h = fresh_with before [] [] names (λ name h g. refl) (no_names names) h

-- the names of three kinds of formulas, which differ
pub record AreThree (xs ys zs : List (List ℕ)) : Type 0 where
  pub first : (i : ℕ) → i < length xs → place_of xs (name_at xs i) ≡ Some i
  pub second : (i : ℕ) → i < length ys → (place_of xs (name_at ys i) ≡ None) × (place_of ys (name_at ys i) ≡ Some i)
  pub third : (i : ℕ) → i < length zs → (place_of xs (name_at zs i) ≡ None) × (place_of ys (name_at zs i) ≡ None) × (place_of zs (name_at zs i) ≡ Some i)

pub are_three : (xs ys zs : List (List ℕ)) → are_fresh [] (xs ++ (ys ++ zs)) ≡ true → AreThree xs ys zs
are_three xs ys zs h =
    let f = fresh_split [] xs (ys ++ zs) h in
    let g = fresh_split xs ys zs f.1 in
    let away : (ws : List (List ℕ)) (name : List ℕ) → Absent ws name → place_of ws name ≡ None = λ ws name a. none_if (place_of ws name) (is_absent ws name a) in
    record {
      first = λ i l. fresh_place xs i f.0 l;
      second = λ i l. (away xs (name_at ys i) (absent_at xs ys i g.0 l), fresh_place ys i (fresh_alone xs ys g.0) l);
      third = λ i l.
          let a = absent_parts xs ys (name_at zs i) (absent_at (xs ++ ys) zs i g.1 l) in
          (away xs (name_at zs i) a.0, away ys (name_at zs i) a.1, fresh_place zs i (fresh_alone (xs ++ ys) zs g.1) l);
    }

-- WHAT A QUERY NAMES

abbrev numbered : List ℕ → List ℕ → List ℕ → QueryNames
numbered xs ys zs = record { assumptions = xs; currents = ys; reachables = zs; known = true; primed = false }

-- symbols in front of others
record AreNumbered (ls : FormulaLists) (q r : QueryNames) (more : List (List ℕ)) (ts : form.Trees) : Type 0 where
  pub forms : form.Trees
  pub show : ShowEach forms (shown_symbols more)
  pub after : query.names_after ls q ts ≡ query.names_after ls r forms
  pub pass : query.symbols_failures ts ≡ query.symbols_failures forms
  pub symbols : are_symbols ts ≡ are_symbols forms

one_symbol : (ls : FormulaLists) (q r s : QueryNames) (name : List ℕ) (more : List (List ℕ)) (t : form.Tree) (ts : form.Trees) → Shows t (symbol name)
    → query.with_symbol ls q (Some (name, false)) ≡ r → AreNumbered ls r s more ts → AreNumbered ls q s more (form.tree t ts)
one_symbol ls q r s name more t ts h e n =
    let a = shape.is_part t (Symbol name false) h in
    record {
      forms = n.forms;
      show = n.show;
      after = ap (λ t. query.names_after ls q (form.tree t ts)) a.1 ∙ ap (λ q. query.names_after ls q ts) e ∙ n.after;
      pass = ap (λ t. query.symbols_failures (form.tree t ts)) a.1 ∙ n.pass;
      symbols = ap (λ t. are_symbols (form.tree t ts)) a.1 ∙ n.symbols;
    }

abbrev AreBelow : ℕ → List ℕ → Type 0
AreBelow n xs = AllByRecursion (λ (i : ℕ). i < n) xs

-- the assumptions, then the currents, then the reachable formulas
assumptions_numbered : (fs gs hs : List PlainFormula) (xs ys ns : List ℕ) (more : List (List ℕ)) (ts : form.Trees) → AreThree (formula_names fs) (formula_names gs) (formula_names hs) → AreBelow (length (formula_names fs)) ns
    → ShowEach ts (shown_symbols (names_of (formula_names fs) ns ++ more)) → AreNumbered (made_labels fs gs hs) (numbered xs ys []) (numbered (xs ++ ns) ys []) more ts
assumptions_numbered fs gs hs xs ys [] more ts three b h = record { forms = ts; show = h; after = ap (λ xs. query.names_after (made_labels fs gs hs) (numbered xs ys []) ts) (sym (append-nil xs)); pass = refl; symbols = refl }
assumptions_numbered fs gs hs xs ys (n ∷ ns) more form.no_trees three b h = absurd h
assumptions_numbered fs gs hs xs ys (n ∷ ns) more (form.tree t ts) three b h =
    let ls = made_labels fs gs hs in
    let name = name_at (formula_names fs) n in
    one_symbol ls (numbered xs ys []) (numbered (xs ++ n ∷ []) ys []) (numbered (xs ++ n ∷ ns) ys []) name more t ts h.0
    (ap (λ o. query.with_number (numbered xs ys []) o (place_of (formula_names gs) name) (place_of (formula_names hs) name)) (three.first n b.0))
    (subst (λ zs. AreNumbered ls (numbered (xs ++ n ∷ []) ys []) (numbered zs ys []) more ts) (append_assoc xs (n ∷ []) ns) (assumptions_numbered fs gs hs (xs ++ n ∷ []) ys ns more ts three b.1 h.1))

currents_numbered : (fs gs hs : List PlainFormula) (xs ys ns : List ℕ) (more : List (List ℕ)) (ts : form.Trees) → AreThree (formula_names fs) (formula_names gs) (formula_names hs) → AreBelow (length (formula_names gs)) ns
    → ShowEach ts (shown_symbols (names_of (formula_names gs) ns ++ more)) → AreNumbered (made_labels fs gs hs) (numbered xs ys []) (numbered xs (ys ++ ns) []) more ts
currents_numbered fs gs hs xs ys [] more ts three b h = record { forms = ts; show = h; after = ap (λ ys. query.names_after (made_labels fs gs hs) (numbered xs ys []) ts) (sym (append-nil ys)); pass = refl; symbols = refl }
currents_numbered fs gs hs xs ys (n ∷ ns) more form.no_trees three b h = absurd h
currents_numbered fs gs hs xs ys (n ∷ ns) more (form.tree t ts) three b h =
    let ls = made_labels fs gs hs in
    let name = name_at (formula_names gs) n in
    one_symbol ls (numbered xs ys []) (numbered xs (ys ++ n ∷ []) []) (numbered xs (ys ++ n ∷ ns) []) name more t ts h.0
    (ap (λ o. query.with_number (numbered xs ys []) o (place_of (formula_names gs) name) (place_of (formula_names hs) name)) (three.second n b.0).0
    ∙ ap (λ o. query.with_number (numbered xs ys []) None o (place_of (formula_names hs) name)) (three.second n b.0).1)
    (subst (λ zs. AreNumbered ls (numbered xs (ys ++ n ∷ []) []) (numbered xs zs []) more ts) (append_assoc ys (n ∷ []) ns) (currents_numbered fs gs hs xs (ys ++ n ∷ []) ns more ts three b.1 h.1))

reachables_numbered : (fs gs hs : List PlainFormula) (xs ys zs ns : List ℕ) (more : List (List ℕ)) (ts : form.Trees) → AreThree (formula_names fs) (formula_names gs) (formula_names hs) → AreBelow (length (formula_names hs)) ns
    → ShowEach ts (shown_symbols (names_of (formula_names hs) ns ++ more)) → AreNumbered (made_labels fs gs hs) (numbered xs ys zs) (numbered xs ys (zs ++ ns)) more ts
reachables_numbered fs gs hs xs ys zs [] more ts three b h = record { forms = ts; show = h; after = ap (λ zs. query.names_after (made_labels fs gs hs) (numbered xs ys zs) ts) (sym (append-nil zs)); pass = refl; symbols = refl }
reachables_numbered fs gs hs xs ys zs (n ∷ ns) more form.no_trees three b h = absurd h
reachables_numbered fs gs hs xs ys zs (n ∷ ns) more (form.tree t ts) three b h =
    let ls = made_labels fs gs hs in
    let name = name_at (formula_names hs) n in
    let places = three.third n b.0 in
    one_symbol ls (numbered xs ys zs) (numbered xs ys (zs ++ n ∷ [])) (numbered xs ys (zs ++ n ∷ ns)) name more t ts h.0
    (ap (λ o. query.with_number (numbered xs ys zs) o (place_of (formula_names gs) name) (place_of (formula_names hs) name)) places.0
    ∙ ap (λ o. query.with_number (numbered xs ys zs) None o (place_of (formula_names hs) name)) places.1
    ∙ ap (λ o. query.with_number (numbered xs ys zs) None None o) places.2)
    (subst (λ ws. AreNumbered ls (numbered xs ys (zs ++ n ∷ [])) (numbered xs ys ws) more ts) (append_assoc zs (n ∷ []) ns) (reachables_numbered fs gs hs xs ys (zs ++ n ∷ []) ns more ts three b.1 h.1))

-- QUERIES

record AreNames (fs gs hs : List PlainFormula) (q : Query) (ts : form.Trees) : Type 0 where
  pub after : query.names_after (made_labels fs gs hs) query.no_names ts ≡ numbered q.assumptions q.currents q.reachables
  pub pass : query.symbols_failures ts ≡ []
  pub symbols : are_symbols ts ≡ true

-- where nothing is shown, there are no forms
shows_none : (ts : form.Trees) → ShowEach ts (shown_symbols []) → ts ≡ form.no_trees
shows_none form.no_trees h = refl
shows_none (form.tree t ts) h = absurd h

names_read : (fs gs hs : List PlainFormula) (q : Query) (ts : form.Trees) → AreThree (formula_names fs) (formula_names gs) (formula_names hs)
    → IsValidQuery (length (formula_names fs)) (length (formula_names gs)) (length (formula_names hs)) q
    → ShowEach ts (shown_symbols (query_names (formula_names fs) (formula_names gs) (formula_names hs) q)) → AreNames fs gs hs q ts
names_read fs gs hs q ts three w h =
    let ls = made_labels fs gs hs in
    let names = names_of (formula_names hs) q.reachables in
    let a = assumptions_numbered fs gs hs [] [] q.assumptions (names_of (formula_names gs) q.currents ++ names) ts three w.assumptions_there h in
    let b = currents_numbered fs gs hs q.assumptions [] q.currents names a.forms three w.currents_there a.show in
    let all : names ≡ names ++ [] = sym (append-nil names) in
    let c = reachables_numbered fs gs hs q.assumptions q.currents [] q.reachables [] b.forms three w.reachables_there (subst (λ ns. ShowEach b.forms (shown_symbols ns)) all b.show) in
    let none : c.forms ≡ form.no_trees = shows_none c.forms c.show in
    record {
      after = a.after ∙ b.after ∙ c.after ∙ ap (query.names_after ls (numbered q.assumptions q.currents q.reachables)) none;
      pass = a.pass ∙ b.pass ∙ c.pass ∙ ap query.symbols_failures none;
      symbols = a.symbols ∙ b.symbols ∙ c.symbols ∙ ap are_symbols none;
    }

record IsReadQuery (fs gs hs : List PlainFormula) (q : Query) (t : form.Tree) : Type 0 where
  pub is : query.query_of (made_labels fs gs hs) t ≡ q ∷ []
  pub pass : (before : List (List ℕ)) (around : Place) → is_none (place_of before q.name) ≡ true → query.query_failures (made_labels fs gs hs) before around t ≡ []
  pub names_then : (before : List (List ℕ)) → is_none (place_of before q.name) ≡ true → query.names_with_query before t ≡ before ++ q.name ∷ []
  pub listed : is_list_form t ≡ true

query_read : (fs gs hs : List PlainFormula) (q : Query) (t : form.Tree) → AreThree (formula_names fs) (formula_names gs) (formula_names hs)
    → IsValidQuery (length (formula_names fs)) (length (formula_names gs)) (length (formula_names hs)) q
    → Shows t (shown_names q.name (query_names (formula_names fs) (formula_names gs) (formula_names hs) q)) → IsReadQuery fs gs hs q t
query_read fs gs hs q t three w h =
    let ls = made_labels fs gs hs in
    let names = query_names (formula_names fs) (formula_names gs) (formula_names hs) q in
    let n = is_named t q.name (group (shown_symbols names)) h in
    let l = is_listed n.form (shown_symbols names) n.shows in
    let r = names_read fs gs hs q l.parts three w l.show in
    let nf = named_form q.name n.place n.form in
    record {
      is = ap (query.queries_named ls) n.is ∙ ap (query.queries_among ls nf) l.is ∙ ap (λ x. query.query_with q.name x ∷ []) r.after;
      pass = λ before around new.
          ap (query.named_failures ls before around t) n.is ∙ ap (λ b. fails_if (not b) 9 n.place ++ query.list_failures ls (place_in t) nf (parts_of n.form)) new
          ∙ ap (query.list_failures ls (place_in t) nf) l.is
          ∙ ap (λ xs. (xs ++ fails_if (not (are_symbols l.parts)) 12 (place_in n.form)) ++ fails_if (are_symbols l.parts && query.is_bad_query ls (query.names_after ls query.no_names l.parts)) 14 (place_in t)) r.pass
          ∙ ap (λ b. fails_if (not b) 12 (place_in n.form) ++ fails_if (b && query.is_bad_query ls (query.names_after ls query.no_names l.parts)) 14 (place_in t)) r.symbols
          ∙ ap (λ x. fails_if (query.is_bad_query ls x) 14 (place_in t)) r.after
          ∙ ap (λ b. fails_if (not b) 14 (place_in t)) w.reachables_differ;
      names_then = λ before new. ap (query.names_with_named before) n.is ∙ ap (λ b. cond b (before ++ q.name ∷ []) before) new;
      listed = n.listed;
    }

pub record AreReadQueries (fs gs hs : List PlainFormula) (qs : List Query) (before : List (List ℕ)) (ts : form.Trees) : Type 0 where
  pub is : query.queries_after (made_labels fs gs hs) AtKeyword ts ≡ qs
  pub pass : query.all_queries_failures (made_labels fs gs hs) before AtKeyword ts ≡ []
  pub no_labels : (s : ScopeState) (locals : List Local) → (labels_after s locals (made_labels fs gs hs) AtKeyword ts ≡ made_labels fs gs hs) × (labels_failures s locals (made_labels fs gs hs) AtKeyword ts ≡ [])
  pub tail : IsTail Check ts

more_queries : (fs gs hs : List PlainFormula) (q : Query) (qs : List Query) (before : List (List ℕ)) (p : Place) (t : form.Tree) (ts : form.Trees) → is_none (place_of before q.name) ≡ true → IsReadQuery fs gs hs q t
    → AreReadQueries fs gs hs qs (before ++ q.name ∷ []) ts → AreReadQueries fs gs hs (q ∷ qs) before (attribute_forms p (codes "query") t ts)
more_queries fs gs hs q qs before p t ts new one r =
    let ls = made_labels fs gs hs in
    record {
      is = ap (λ xs. (xs ++ []) ++ query.queries_after ls AtKeyword ts) one.is ∙ ap (λ xs. q ∷ xs) r.is;
      pass =
          ap (λ xs. (xs ++ []) ++ query.all_queries_failures ls (query.names_with_query before t) AtKeyword ts) (one.pass before (place_in t) new)
          ∙ ap (λ ns. query.all_queries_failures ls ns AtKeyword ts) (one.names_then before new) ∙ r.pass;
      no_labels = r.no_labels;
      tail = tail_more Check (codes "query") keys.Query p t ts refl refl one.listed r.tail;
    }

pub queries_read : (fs gs hs : List PlainFormula) (qs : List Query) (before : List (List ℕ)) (ts : form.Trees) → AreThree (formula_names fs) (formula_names gs) (formula_names hs)
    → AllByRecursion (IsValidQuery (length (formula_names fs)) (length (formula_names gs)) (length (formula_names hs))) qs → are_fresh before (whole.query_names qs) ≡ true
    → ShowEach ts (shown_queries (formula_names fs) (formula_names gs) (formula_names hs) qs) → AreReadQueries fs gs hs qs before ts
queries_read fs gs hs [] before form.no_trees three w d h = record { is = refl; pass = refl; no_labels = λ s locals. (refl, refl); tail = tail_end Check }
queries_read fs gs hs [] before (form.tree t ts) three w d h = absurd h
queries_read fs gs hs (q ∷ qs) before ts three w d h =
    let names = query_names (formula_names fs) (formula_names gs) (formula_names hs) q in
    let a = is_attribute ts (codes "query") (shown_names q.name names) (shown_queries (formula_names fs) (formula_names gs) (formula_names hs) qs) h in
    let p = fresh_first before q.name (whole.query_names qs) d in
    subst (AreReadQueries fs gs hs (q ∷ qs) before) (sym a.is)
    (more_queries fs gs hs q qs before a.place a.value a.more (is_absent before q.name p.0) (query_read fs gs hs q a.value three w.0 a.shows)
    (queries_read fs gs hs qs (before ++ q.name ∷ []) a.more three w.1 p.1 a.show_more))
