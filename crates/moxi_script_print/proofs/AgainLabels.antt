-- Formulas of a check that are shown with their names and read again.
use Rattle.std.proofs.Common.{◌≡◌, ℕ, true, false, cond, ◌||◌, is_some, Some, List, [], ◌∷◌, ◌++◌, refl, sym, ap, ◌∙◌, subst, append_assoc, append-nil}
use Rattle.std.specs.Prelude.{codes}
use Rattle.text_core.specs.declared.place.Place.{Place}
use Rattle.moxi_sexpr.specs.Tree as form
use Rattle.moxi_terms.specs.declared.data.Primes.TheVariants.{Refused}
use Rattle.moxi_term_reading.specs.declared.locals.Local.{Local}
use Rattle.moxi_terms.specs.declared.term.Variable.{Variable}
use Rattle.moxi_term_reading.specs.Answer as answer
use Rattle.moxi_term_reading.specs.Forms.{place_in}
use Rattle.name_maps.specs.Names.{are_fresh, place_of}
use Rattle.moxi_terms.specs.Tree.{Tree}
use Rattle.moxi_terms.specs.View.{ScopeState}
use Rattle.moxi_term_print.specs.Shown.{Showns, joined, Shows, ShowEach}
use Rattle.moxi_term_print.specs.Terms.{shown_term, variable_names}
use Rattle.moxi_scripts.specs.declared.parts.Command.TheVariants.{Check}
use Rattle.moxi_scripts.specs.declared.parts.Key.{Key}
use Rattle.moxi_scripts.specs.declared.parts.Key.TheVariants as keys
use Rattle.moxi_scripts.specs.declared.parts.Turn.TheVariants.{AtKeyword, Behind}
use Rattle.moxi_scripts.specs.Attributes.{is_list_form, key_named, key_turn, same_key}
use Rattle.moxi_scripts.specs.Collecting.{fails_if}
use Rattle.moxi_scripts.specs.Formulas.{term_failures, term_of}
use Rattle.moxi_scripts.specs.Labels.{FormulaList, FormulaLists, is_formula_key, is_label, label_tests, labels_after, labels_failures, labels_with, named_tests, no_labels, with_formula, with_named}
use Rattle.moxi_script_print.specs.Printing.{attribute, shown_label, shown_labels}
use Rattle.moxi_scripts.specs.QueryReading as query
use Rattle.moxi_scripts.specs.Script.{PlainFormula}
use Rattle.moxi_scripts.specs.Shapes.{named, parts_of}
use Rattle.moxi_scripts.specs.Valid.{AreFormulas, IsFormula, formula_names}
use Rattle.moxi_script_print.proofs.AgainAttributes.{IsTail, attribute_forms, is_once, tail_more}
use Rattle.moxi_script_print.proofs.AgainFormulas.{term_again, term_passes}
use Rattle.moxi_script_print.proofs.AgainParts.{ReadsBack, some_if}
use Rattle.moxi_script_print.proofs.AgainShapes.{is_attribute, is_named, joined_joined}
use Rattle.moxi_scripts.specs.laws.WholeNames.{Absent, absent_append, absent_parts, fresh_first, fresh_split, is_absent, or_both}

-- NAMES

abbrev pub label_names : FormulaLists → List (List ℕ)
label_names ls = ls.assumptions.names ++ (ls.currents.names ++ ls.reachables.names)

-- each name of a formula is among these
abbrev pub Cover : List (List ℕ) → FormulaLists → Type 0
Cover before ls = (name : List ℕ) → Absent before name → Absent (label_names ls) name

no_label : (ls : FormulaLists) (name : List ℕ) → Absent (label_names ls) name → is_label ls name ≡ false
no_label ls name h =
    let a = absent_parts ls.assumptions.names (ls.currents.names ++ ls.reachables.names) name h in
    let b = absent_parts ls.currents.names ls.reachables.names name a.1 in
    or_both (is_some (place_of ls.assumptions.names name)) (is_some (place_of ls.currents.names name) || is_some (place_of ls.reachables.names name)) (some_if (place_of ls.assumptions.names name) (is_absent ls.assumptions.names name a.0))
    (or_both (is_some (place_of ls.currents.names name)) (is_some (place_of ls.reachables.names name)) (some_if (place_of ls.currents.names name) (is_absent ls.currents.names name b.0))
    (some_if (place_of ls.reachables.names name) (is_absent ls.reachables.names name b.1)))

cover_more : (k : Key) (before : List (List ℕ)) (ls : FormulaLists) (f : PlainFormula) → Cover before ls → Cover (before ++ f.name ∷ []) (with_formula k ls f)
cover_more k before ls f c name h =
    let p = absent_parts before (f.name ∷ []) name h in
    let a = absent_parts ls.assumptions.names (ls.currents.names ++ ls.reachables.names) name (c name p.0) in
    let b = absent_parts ls.currents.names ls.reachables.names name a.1 in
    by_key k p.1 a.0 b.0 b.1
  where
    all : (xs ys zs : List (List ℕ)) → Absent xs name → Absent ys name → Absent zs name → Absent (xs ++ (ys ++ zs)) name
    all xs ys zs x y z = absent_append xs (ys ++ zs) name x (absent_append ys zs name y z)

    by_key : (k : Key) → Absent (f.name ∷ []) name → Absent ls.assumptions.names name → Absent ls.currents.names name → Absent ls.reachables.names name → Absent (label_names (with_formula k ls f)) name
    by_key keys.Assumption n x y z = all (ls.assumptions.names ++ f.name ∷ []) ls.currents.names ls.reachables.names (absent_append ls.assumptions.names (f.name ∷ []) name x n) y z
    by_key keys.Current n x y z = all ls.assumptions.names (ls.currents.names ++ f.name ∷ []) ls.reachables.names x (absent_append ls.currents.names (f.name ∷ []) name y n) z
    by_key keys.Reachable n x y z = all ls.assumptions.names ls.currents.names (ls.reachables.names ++ f.name ∷ []) x y (absent_append ls.reachables.names (f.name ∷ []) name z n)
    by_key k n x y z = all ls.assumptions.names ls.currents.names ls.reachables.names x y z

-- ONE KIND

-- the keyword of a kind of formulas
pub record IsLabelKey (name : List ℕ) (k : Key) : Type 0 where
  pub named : key_named Check name ≡ Some k
  pub formula : is_formula_key k ≡ true
  pub many : is_once k ≡ false
  pub no_query : same_key keys.Query k ≡ false
  pub no_queries : same_key keys.Queries k ≡ false

pub assumption_key : IsLabelKey (codes "assumption") keys.Assumption
assumption_key = record { named = refl; formula = refl; many = refl; no_query = refl; no_queries = refl }

pub current_key : IsLabelKey (codes "current") keys.Current
current_key = record { named = refl; formula = refl; many = refl; no_query = refl; no_queries = refl }

pub reachable_key : IsLabelKey (codes "reachable") keys.Reachable
reachable_key = record { named = refl; formula = refl; many = refl; no_query = refl; no_queries = refl }

abbrev pub with_formulas : Key → FormulaLists → List PlainFormula → FormulaLists
with_formulas k ls [] = ls
with_formulas k ls (f ∷ fs) = with_formulas k (with_formula k ls f) fs

-- behind the formulas of one kind
pub record AreReadLabels (s : ScopeState) (locals : List Local) (k : Key) (fs : List PlainFormula) (before : List (List ℕ)) (ls : FormulaLists) (ts : form.Trees) (rest : Showns) : Type 0 where
  pub more : form.Trees
  pub show_more : ShowEach more rest
  pub cover : Cover (before ++ formula_names fs) (with_formulas k ls fs)
  pub after : labels_after s locals ls AtKeyword ts ≡ labels_after s locals (with_formulas k ls fs) AtKeyword more
  pub pass : labels_failures s locals ls AtKeyword ts ≡ labels_failures s locals (with_formulas k ls fs) AtKeyword more
  pub queries : (l : FormulaLists) → query.queries_after l AtKeyword ts ≡ query.queries_after l AtKeyword more
  pub queries_pass : (l : FormulaLists) (names : List (List ℕ)) → query.all_queries_failures l names AtKeyword ts ≡ query.all_queries_failures l names AtKeyword more
  pub tail : IsTail Check more → IsTail Check ts

-- a form that spells a formula
record IsReadLabel (s : ScopeState) (locals : List Local) (k : Key) (f : PlainFormula) (ls : FormulaLists) (t : form.Tree) : Type 0 where
  pub after : labels_with s locals (Behind k) ls t ≡ with_formula k ls f
  pub pass : label_tests s locals (Behind k) ls t ≡ []

abbrev labelled : List ℕ → Tree → PlainFormula
labelled name t = record { name = name; term = t }

label_read : (s : ScopeState) (back : ReadsBack s) (vs : List Variable) (locals : List Local) (name : List ℕ) (k : Key) (f : PlainFormula) (ls : FormulaLists) (t : form.Tree) → locals ≡ answer.locals_of vs → IsLabelKey name k
    → IsFormula s vs Refused f.term → Absent (label_names ls) f.name → Shows t (shown_label s (variable_names vs) f) → IsReadLabel s locals k f ls t
label_read s back vs locals name k f ls t same key w new h =
    let n = is_named t f.name (shown_term s (variable_names vs) [] f.term) h in
    let u = no_label ls f.name new in
    record {
      after =
          ap (λ b. cond b (with_named s locals k ls (named t)) ls) key.formula ∙ ap (with_named s locals k ls) n.is
          ∙ ap (λ b. cond b ls (with_formula k ls (labelled f.name (term_of s locals Refused n.form)))) u
          ∙ ap (λ t. with_formula k ls (labelled f.name t)) (term_again s back vs locals Refused f.term n.form same w n.shows);
      pass =
          ap (λ b. cond b (named_tests s locals ls t (named t)) []) key.formula ∙ ap (named_tests s locals ls t) n.is
          ∙ ap (λ b. fails_if b 9 n.place ++ term_failures s locals Refused n.form) u ∙ term_passes s back vs locals Refused f.term n.form same w n.shows;
    }

more_labels : (s : ScopeState) (locals : List Local) (name : List ℕ) (k : Key) (f : PlainFormula) (fs : List PlainFormula) (before : List (List ℕ)) (ls : FormulaLists) (p : Place) (t : form.Tree) (ts : form.Trees) (rest : Showns)
    → IsLabelKey name k → IsReadLabel s locals k f ls t → is_list_form t ≡ true → AreReadLabels s locals k fs (before ++ f.name ∷ []) (with_formula k ls f) ts rest
    → AreReadLabels s locals k (f ∷ fs) before ls (attribute_forms p name t ts) rest
more_labels s locals name k f fs before ls p t ts rest key one listed r = record {
  more = r.more;
  show_more = r.show_more;
  cover = subst (λ xs. Cover xs (with_formulas k (with_formula k ls f) fs)) (append_assoc before (f.name ∷ []) (formula_names fs)) r.cover;
  after = ap (λ o. labels_after s locals ls (key_turn o) (form.tree t ts)) key.named ∙ ap (λ l. labels_after s locals l AtKeyword ts) one.after ∙ r.after;
  pass =
      ap (λ o. labels_failures s locals ls (key_turn o) (form.tree t ts)) key.named ∙ ap (λ xs. xs ++ labels_failures s locals (labels_with s locals (Behind k) ls t) AtKeyword ts) one.pass
      ∙ ap (λ l. labels_failures s locals l AtKeyword ts) one.after ∙ r.pass;
  queries = λ l.
      ap (λ o. query.queries_after l (key_turn o) (form.tree t ts)) key.named ∙ ap (λ fs. query.queries_in l fs ++ query.queries_after l AtKeyword ts) no_forms ∙ r.queries l;
  queries_pass = λ l names.
      ap (λ o. query.all_queries_failures l names (key_turn o) (form.tree t ts)) key.named
      ∙ ap (λ fs. query.queries_failures l names (place_in t) fs ++ query.all_queries_failures l (query.names_with_queries names fs) AtKeyword ts) no_forms ∙ r.queries_pass l names;
  tail = λ e. tail_more Check name k p t ts key.named key.many listed (r.tail e);
}
  where
    no_forms : query.query_forms (Behind k) t ≡ form.no_trees
    no_forms =
        ap (λ b. cond b (form.tree t form.no_trees) (cond (same_key keys.Queries k) (query.forms_among (parts_of t)) form.no_trees)) key.no_query
        ∙ ap (λ b. cond b (query.forms_among (parts_of t)) form.no_trees) key.no_queries

pub labels_read : (s : ScopeState) (back : ReadsBack s) (vs : List Variable) (locals : List Local) (name : List ℕ) (k : Key) (fs : List PlainFormula) (before : List (List ℕ)) (ls : FormulaLists) (ts : form.Trees) (rest : Showns)
    → locals ≡ answer.locals_of vs → IsLabelKey name k → AreFormulas s vs fs → are_fresh before (formula_names fs) ≡ true → Cover before ls
    → ShowEach ts (joined (shown_labels s (variable_names vs) name fs) rest) → AreReadLabels s locals k fs before ls ts rest
labels_read s back vs locals name k [] before ls ts rest same key w d c h = record {
  more = ts;
  show_more = h;
  cover = subst (λ xs. Cover xs ls) (sym (append-nil before)) c;
  after = refl;
  pass = refl;
  queries = λ l. refl;
  queries_pass = λ l names. refl;
  tail = λ e. e;
}
labels_read s back vs locals name k (f ∷ fs) before ls ts rest same key w d c h =
    let others = shown_labels s (variable_names vs) name fs in
    let x = shown_label s (variable_names vs) f in
    let a = is_attribute ts name x (joined others rest) (subst (ShowEach ts) (joined_joined (attribute name x) others rest) h) in
    let p = fresh_first before f.name (formula_names fs) d in
    subst (λ ts. AreReadLabels s locals k (f ∷ fs) before ls ts rest) (sym a.is)
    (more_labels s locals name k f fs before ls a.place a.value a.more rest key (label_read s back vs locals name k f ls a.value same key w.0 (c f.name p.0) a.shows)
    (is_named a.value f.name (shown_term s (variable_names vs) [] f.term) a.shows).listed
    (labels_read s back vs locals name k fs (before ++ f.name ∷ []) (with_formula k ls f) a.more rest same key w.1 p.1 (cover_more k before ls f c) a.show_more))

-- ALL KINDS

abbrev pub made : List PlainFormula → FormulaList
made fs = record { names = formula_names fs; formulas = fs }

abbrev pub made_labels : List PlainFormula → List PlainFormula → List PlainFormula → FormulaLists
made_labels xs ys zs = record { assumptions = made xs; currents = made ys; reachables = made zs; whole = true }

abbrev with_all : FormulaList → List PlainFormula → FormulaList
with_all l fs = record { names = l.names ++ formula_names fs; formulas = l.formulas ++ fs }

all_here : (l : FormulaList) → with_all l [] ≡ l
all_here l = ap (λ ns. record { names = ns; formulas = l.formulas ++ [] }) (append-nil l.names) ∙ ap (λ fs. record { names = l.names; formulas = fs }) (append-nil l.formulas)

all_step : (l : FormulaList) (f : PlainFormula) (fs : List PlainFormula) → with_all (record { names = l.names ++ f.name ∷ []; formulas = l.formulas ++ f ∷ [] }) fs ≡ with_all l (f ∷ fs)
all_step l f fs =
    ap (λ ns. record { names = ns; formulas = (l.formulas ++ f ∷ []) ++ fs }) (append_assoc l.names (f.name ∷ []) (formula_names fs))
    ∙ ap (λ gs. record { names = l.names ++ formula_names (f ∷ fs); formulas = gs }) (append_assoc l.formulas (f ∷ []) fs)

with_assumptions : (fs : List PlainFormula) (ls : FormulaLists) → with_formulas keys.Assumption ls fs ≡ record ls { assumptions = with_all ls.assumptions fs }
with_assumptions [] ls = ap (λ l. record ls { assumptions = l }) (sym (all_here ls.assumptions))
with_assumptions (f ∷ fs) ls = with_assumptions fs (with_formula keys.Assumption ls f) ∙ ap (λ l. record ls { assumptions = l }) (all_step ls.assumptions f fs)

with_currents : (fs : List PlainFormula) (ls : FormulaLists) → with_formulas keys.Current ls fs ≡ record ls { currents = with_all ls.currents fs }
with_currents [] ls = ap (λ l. record ls { currents = l }) (sym (all_here ls.currents))
with_currents (f ∷ fs) ls = with_currents fs (with_formula keys.Current ls f) ∙ ap (λ l. record ls { currents = l }) (all_step ls.currents f fs)

with_reachables : (fs : List PlainFormula) (ls : FormulaLists) → with_formulas keys.Reachable ls fs ≡ record ls { reachables = with_all ls.reachables fs }
with_reachables [] ls = ap (λ l. record ls { reachables = l }) (sym (all_here ls.reachables))
with_reachables (f ∷ fs) ls = with_reachables fs (with_formula keys.Reachable ls f) ∙ ap (λ l. record ls { reachables = l }) (all_step ls.reachables f fs)

pub all_made : (xs ys zs : List PlainFormula)
    → with_formulas keys.Reachable (with_formulas keys.Current (with_formulas keys.Assumption no_labels xs) ys) zs ≡ made_labels xs ys zs
all_made xs ys zs =
    ap (λ ls. with_formulas keys.Reachable (with_formulas keys.Current ls ys) zs) (with_assumptions xs no_labels)
    ∙ ap (λ ls. with_formulas keys.Reachable ls zs) (with_currents ys (record no_labels { assumptions = made xs }))
    ∙ with_reachables zs (record no_labels { assumptions = made xs; currents = made ys })

-- behind all formulas
pub record AreAllLabels (s : ScopeState) (locals : List Local) (xs ys zs : List PlainFormula) (ts : form.Trees) (rest : Showns) : Type 0 where
  pub more : form.Trees
  pub show_more : ShowEach more rest
  pub after : labels_after s locals no_labels AtKeyword ts ≡ labels_after s locals (made_labels xs ys zs) AtKeyword more
  pub pass : labels_failures s locals no_labels AtKeyword ts ≡ labels_failures s locals (made_labels xs ys zs) AtKeyword more
  pub queries : (l : FormulaLists) → query.queries_after l AtKeyword ts ≡ query.queries_after l AtKeyword more
  pub queries_pass : (l : FormulaLists) (names : List (List ℕ)) → query.all_queries_failures l names AtKeyword ts ≡ query.all_queries_failures l names AtKeyword more
  pub tail : IsTail Check more → IsTail Check ts

pub all_labels_read : (s : ScopeState) (back : ReadsBack s) (vs : List Variable) (locals : List Local) (xs ys zs : List PlainFormula) (ts : form.Trees) (rest : Showns) → locals ≡ answer.locals_of vs → AreFormulas s vs xs → AreFormulas s vs ys
    → AreFormulas s vs zs → are_fresh [] (formula_names xs ++ (formula_names ys ++ formula_names zs)) ≡ true
    → ShowEach ts (joined (shown_labels s (variable_names vs) (codes "assumption") xs) (joined (shown_labels s (variable_names vs) (codes "current") ys) (joined (shown_labels s (variable_names vs) (codes "reachable") zs) rest)))
    → AreAllLabels s locals xs ys zs ts rest
all_labels_read s back vs locals xs ys zs ts rest same wa wc wr d h =
    let vars = variable_names vs in
    let f = fresh_split [] (formula_names xs) (formula_names ys ++ formula_names zs) d in
    let g = fresh_split (formula_names xs) (formula_names ys) (formula_names zs) f.1 in
    let a = labels_read s back vs locals (codes "assumption") keys.Assumption xs [] no_labels ts (joined (shown_labels s vars (codes "current") ys) (joined (shown_labels s vars (codes "reachable") zs) rest)) same assumption_key wa f.0 (λ name h. refl) h in
    let c = labels_read s back vs locals (codes "current") keys.Current ys (formula_names xs) (with_formulas keys.Assumption no_labels xs) a.more (joined (shown_labels s vars (codes "reachable") zs) rest) same current_key wc g.0 a.cover a.show_more in
    let r = labels_read s back vs locals (codes "reachable") keys.Reachable zs (formula_names xs ++ formula_names ys) (with_formulas keys.Current (with_formulas keys.Assumption no_labels xs) ys) c.more rest same reachable_key wr g.1 c.cover c.show_more in
    record {
      more = r.more;
      show_more = r.show_more;
      after = a.after ∙ c.after ∙ r.after ∙ ap (λ l. labels_after s locals l AtKeyword r.more) (all_made xs ys zs);
      pass = a.pass ∙ c.pass ∙ r.pass ∙ ap (λ l. labels_failures s locals l AtKeyword r.more) (all_made xs ys zs);
      queries = λ l. a.queries l ∙ c.queries l ∙ r.queries l;
      queries_pass = λ l names. a.queries_pass l names ∙ c.queries_pass l names ∙ r.queries_pass l names;
      tail = λ e. a.tail (c.tail (r.tail e));
    }
