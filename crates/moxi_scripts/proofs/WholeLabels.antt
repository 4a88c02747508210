-- The named formulas of a check of which no test fails: their names differ, and each can stand over the check's variables.
use Rattle.std.proofs.Common.{◌≡◌, ℕ, Bool, true, false, cond, ◌||◌, Option, None, Some, List, [], ◌∷◌, ◌++◌, refl, sym, ap, ◌∙◌, subst, append_assoc}
use Rattle.moxi_sexpr.specs.Tree as form
use Rattle.moxi_terms.specs.declared.data.Primes.TheVariants.{Refused}
use Rattle.moxi_terms.specs.declared.term.Variable.{Variable}
use Rattle.moxi_term_reading.specs.Forms.{place_in}
use Rattle.name_maps.specs.Names.{are_fresh}
use Rattle.moxi_term_reading.specs.Reading.{prime_failures}
use Rattle.moxi_terms.specs.View.{ScopeState}
use Rattle.moxi_scripts.specs.declared.parts.Command.TheVariants.{Check}
use Rattle.moxi_scripts.specs.declared.parts.Key.{Key}
use Rattle.moxi_scripts.specs.declared.parts.Key.TheVariants.{Input, Output, Local, Init, Trans, Inv, Subsystem, Assumption, Current, Reachable, Query, Queries}
use Rattle.moxi_scripts.specs.declared.parts.Turn.{Turn}
use Rattle.moxi_scripts.specs.declared.parts.Turn.TheVariants.{AtKeyword, Behind, Passing}
use Rattle.moxi_scripts.specs.declared.parts.Declared.{Declared}
use Rattle.moxi_scripts.specs.Attributes.{turn_after}
use Rattle.moxi_scripts.specs.Collecting.{fails_if}
use Rattle.moxi_scripts.specs.Entries.{locals_among, variables_of}
use Rattle.moxi_scripts.specs.Formulas.{term_of}
use Rattle.moxi_scripts.specs.Labels.{FormulaList, FormulaLists, has_name, is_formula_key, is_label, label_tests, labels_after, labels_failures, labels_with, named_tests, no_labels, with_formula, with_named}
use Rattle.moxi_scripts.specs.Script.{PlainFormula}
use Rattle.moxi_scripts.specs.Shapes.{NamedForm, misshapen, named}
use Rattle.moxi_scripts.specs.Valid.{AreFormulas, IsFormula, formula_names}
use Rattle.moxi_scripts.proofs.FunctionLaws.{none_in, some_fails}
use Rattle.moxi_scripts.proofs.WholeEntries.{AreKnown}
use Rattle.moxi_scripts.proofs.WholeFormulas.{StandOn, TermsAreWellScoped, term_stands}
use Rattle.moxi_scripts.specs.laws.WholeNames.{Absent, absent_append, absent_swap, fresh_between, fresh_end, fresh_more, or_parts}
use Rattle.moxi_scripts.specs.laws.WholeParts.{all_append, map_append, no_failure}
use Rattle.moxi_scripts.specs.laws.WholeScopes.{GrowsTo, among_absent}

-- formulas of one kind, with their names
pub record IsList (s : ScopeState) (vs : List Variable) (l : FormulaList) : Type 0 where
  pub names : l.names ≡ formula_names l.formulas
  pub formulas : AreFormulas s vs l.formulas

pub record AreLabels (s : ScopeState) (vs : List Variable) (ls : FormulaLists) : Type 0 where
  pub whole : ls.whole ≡ true
  pub differ : are_fresh [] (ls.assumptions.names ++ (ls.currents.names ++ ls.reachables.names)) ≡ true
  pub assumptions : IsList s vs ls.assumptions
  pub currents : IsList s vs ls.currents
  pub reachables : IsList s vs ls.reachables

one_more : (s : ScopeState) (vs : List Variable) (l : FormulaList) (f : PlainFormula) → IsList s vs l → IsFormula s vs Refused f.term
    → IsList s vs (record { names = l.names ++ f.name ∷ []; formulas = l.formulas ++ f ∷ [] })
one_more s vs l f k h = record {
  names = ap (λ ns. ns ++ f.name ∷ []) k.names ∙ sym (map_append (λ (f : PlainFormula). f.name) l.formulas (f ∷ []));
  formulas = all_append (λ (f : PlainFormula). IsFormula s vs Refused f.term) l.formulas (f ∷ []) k.formulas (h, tt);
}

-- a name that is put behind the first, second or third of three lists
first_differ : (a c r : List (List ℕ)) (name : List ℕ) → are_fresh [] (a ++ (c ++ r)) ≡ true → Absent a name → Absent c name → Absent r name → are_fresh [] ((a ++ name ∷ []) ++ (c ++ r)) ≡ true
first_differ a c r name h x y z = fresh_between a (name ∷ []) (c ++ r) h (fresh_more a name [] x refl) (absent_swap (name ∷ []) (c ++ r) (absent_append c r name y z, tt))

second_differ : (a c r : List (List ℕ)) (name : List ℕ) → are_fresh [] (a ++ (c ++ r)) ≡ true → Absent a name → Absent c name → Absent r name → are_fresh [] (a ++ ((c ++ name ∷ []) ++ r)) ≡ true
second_differ a c r name h x y z =
    ap (are_fresh []) (sym (append_assoc a (c ++ name ∷ []) r) ∙ ap (λ ns. ns ++ r) (sym (append_assoc a c (name ∷ []))))
    ∙ fresh_between (a ++ c) (name ∷ []) r (ap (are_fresh []) (append_assoc a c r) ∙ h) (fresh_more (a ++ c) name [] (absent_append a c name x y) refl) (absent_swap (name ∷ []) r (z, tt))

third_differ : (a c r : List (List ℕ)) (name : List ℕ) → are_fresh [] (a ++ (c ++ r)) ≡ true → Absent a name → Absent c name → Absent r name → are_fresh [] (a ++ (c ++ (r ++ name ∷ []))) ≡ true
third_differ a c r name h x y z =
    ap (are_fresh []) (ap (λ ns. a ++ ns) (sym (append_assoc c r (name ∷ []))) ∙ sym (append_assoc a (c ++ r) (name ∷ [])))
    ∙ fresh_end (a ++ (c ++ r)) name h (absent_append a (c ++ r) name x (absent_append c r name y z))

with_one : (s : ScopeState) (vs : List Variable) (k : Key) (ls : FormulaLists) (f : PlainFormula) → AreLabels s vs ls → is_label ls f.name ≡ false → IsFormula s vs Refused f.term → AreLabels s vs (with_formula k ls f)
with_one s vs k ls f l h g =
    let p = or_parts (has_name ls.assumptions f.name) (has_name ls.currents f.name || has_name ls.reachables f.name) h in
    let q = or_parts (has_name ls.currents f.name) (has_name ls.reachables f.name) p.1 in
    by_key k (among_absent ls.assumptions.names f.name p.0) (among_absent ls.currents.names f.name q.0) (among_absent ls.reachables.names f.name q.1)
  where
    by_key : (k : Key) → Absent ls.assumptions.names f.name → Absent ls.currents.names f.name → Absent ls.reachables.names f.name → AreLabels s vs (with_formula k ls f)
    by_key Assumption x y z = record {
      whole = l.whole;
      differ = first_differ ls.assumptions.names ls.currents.names ls.reachables.names f.name l.differ x y z;
      assumptions = one_more s vs ls.assumptions f l.assumptions g;
      currents = l.currents;
      reachables = l.reachables;
    }
    by_key Current x y z = record {
      whole = l.whole;
      differ = second_differ ls.assumptions.names ls.currents.names ls.reachables.names f.name l.differ x y z;
      assumptions = l.assumptions;
      currents = one_more s vs ls.currents f l.currents g;
      reachables = l.reachables;
    }
    by_key Reachable x y z = record {
      whole = l.whole;
      differ = third_differ ls.assumptions.names ls.currents.names ls.reachables.names f.name l.differ x y z;
      assumptions = l.assumptions;
      currents = l.currents;
      reachables = one_more s vs ls.reachables f l.reachables g;
    }
    by_key Input x y z = l
    by_key Output x y z = l
    by_key Local x y z = l
    by_key Init x y z = l
    by_key Trans x y z = l
    by_key Inv x y z = l
    by_key Subsystem x y z = l
    by_key Query x y z = l
    by_key Queries x y z = l

module _ (stand : TermsAreWellScoped) (on : StandOn) (s whole : ScopeState) (grows : GrowsTo s whole) (ds : List Declared) (known : AreKnown s.enumerations ds) where
  abbrev Are : FormulaLists → Type 0
  Are ls = AreLabels whole (variables_of ds) ls

  named_is : (k : Key) (ls : FormulaLists) (t : form.Tree) (o : Option NamedForm) → named_tests s (locals_among ds) ls t o ≡ [] → Are ls → Are (with_named s (locals_among ds) k ls o)
  named_is k ls t None h l = some_fails (misshapen (place_in t) t) [] h
  named_is k ls t (Some n) h l =
      let e = none_in (prime_failures n.primed n.place ++ fails_if (is_label ls n.name) 9 n.place) _ h in
      let f = none_in (prime_failures n.primed n.place) _ e.0 in
      let new : is_label ls n.name ≡ false = no_failure _ 9 n.place f.1 in
      let x : PlainFormula = record { name = n.name; term = term_of s (locals_among ds) Refused n.form } in
      subst Are (sym (ap (λ b. cond b ls (with_formula k ls x)) new)) (with_one whole (variables_of ds) k ls x l new (term_stands stand on s whole grows ds known Refused n.form e.1))

  label_is : (turn : Turn) (ls : FormulaLists) (t : form.Tree) → label_tests s (locals_among ds) turn ls t ≡ [] → Are ls → Are (labels_with s (locals_among ds) turn ls t)
  label_is AtKeyword ls t h l = l
  label_is (Behind k) ls t h l = by_key (is_formula_key k) h
    where
      by_key : (b : Bool) → cond b (named_tests s (locals_among ds) ls t (named t)) [] ≡ [] → Are (cond b (with_named s (locals_among ds) k ls (named t)) ls)
      by_key true h = named_is k ls t (named t) h l
      by_key false h = l
  label_is Passing ls t h l = l

  pub labels_are : (ls : FormulaLists) (turn : Turn) (ts : form.Trees) → labels_failures s (locals_among ds) ls turn ts ≡ [] → Are ls → Are (labels_after s (locals_among ds) ls turn ts)
  labels_are ls turn form.no_trees h l = l
  labels_are ls turn (form.tree t ts) h l =
      let e = none_in (label_tests s (locals_among ds) turn ls t) _ h in
      labels_are (labels_with s (locals_among ds) turn ls t) (turn_after Check turn t) ts e.1 (label_is turn ls t e.0 l)

pub nothing_labelled : (s : ScopeState) (vs : List Variable) → AreLabels s vs no_labels
nothing_labelled s vs =
    record { whole = refl; differ = refl; assumptions = record { names = refl; formulas = tt }; currents = record { names = refl; formulas = tt }; reachables = record { names = refl; formulas = tt } }
