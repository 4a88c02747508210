-- Formulas of which no test fails: each can stand over its variables, also in a scope that has grown.
use Rattle.std.proofs.Common.{◌≡◌, ℕ, suc, Bool, true, false, not, cond, ◌||◌, Option, None, Some, List, [], ◌∷◌, refl, sym, ap, ◌∙◌, subst}
use Rattle.std.specs.Prelude.{codes}
use Rattle.std.specs.List.{AllByRecursion}
use Rattle.std.specs.Str.{bytes_eq}
use Rattle.text_core.specs.declared.place.Place.{Place}
use Rattle.moxi_sexpr.specs.Tree as form
use Rattle.moxi_terms.specs.declared.data.Datum.TheVariants as datum
use Rattle.moxi_terms.specs.declared.data.Primes.{Primes}
use Rattle.moxi_terms.specs.declared.data.Sort.{Sort}
use Rattle.moxi_terms.specs.declared.data.Sort.TheVariants.{Truth}
use Rattle.moxi_terms.specs.declared.names.Meaning.{Meaning}
use Rattle.moxi_terms.specs.declared.names.Meaning.TheVariants as meaning
use Rattle.moxi_terms.specs.declared.term.Variable.{Variable}
use Rattle.moxi_term_reading.specs.Answer.{locals_of}
use Rattle.moxi_term_reading.specs.Forms.{place_in}
use Rattle.moxi_terms.specs.Names.{is_term_name, or_else}
use Rattle.moxi_term_reading.specs.Reading.{Context, read}
use Rattle.moxi_term_reading.specs.Finding.{Found, first_of}
use Rattle.moxi_terms.specs.Sorts.{same_sort}
use Rattle.moxi_terms.specs.Tree.{Tree, sorts_of}
use Rattle.moxi_terms.specs.View.{ScopeState}
use Rattle.moxi_term_reading.specs.WellSorted.{HaveKnownSorts}
use Rattle.moxi_term_print.specs.WellScoped.{IsWellScoped}
use Rattle.moxi_term_print.specs.Terms.{variable_names}
use Rattle.moxi_scripts.specs.declared.parts.Declared.{Declared}
use Rattle.moxi_scripts.specs.Declarations.{clash_failures}
use Rattle.moxi_scripts.specs.Entries.{locals_among, variables_of}
use Rattle.moxi_scripts.specs.Formulas.{formula_failures, formula_term, term_failures, term_of, true_term}
use Rattle.moxi_scripts.specs.Valid.{AreVariables, IsFormula}
use Rattle.moxi_scripts.proofs.FunctionLaws.{none_in, one_sort}
use Rattle.moxi_scripts.proofs.WholeEntries.{AreKnown, locals_known, locals_same}
use Rattle.moxi_scripts.specs.laws.WholeNames.{or_parts, other_way}
use Rattle.moxi_scripts.specs.laws.WholeParts.{no_failure}
use Rattle.moxi_scripts.specs.laws.WholeScopes.{GrowsTo, new_term}

-- a form of which no test fails spells a term that can appear where it is
abbrev pub TermsAreWellScoped : Type 0
TermsAreWellScoped = (c : Context) (vars : List Sort) (t : form.Tree) → HaveKnownSorts c.variables vars → (read c [] t).failures ≡ [] → (sort : Sort) × ((read c [] t).sort ≡ Some sort) × IsWellScoped c [] (read c [] t).term sort

-- a term that can appear in a scope can appear in one that has grown from it
abbrev pub StandOn : Type 0
StandOn = (c : Context) (s : ScopeState) → GrowsTo c.scope s → (t : Tree) (sort : Sort) → IsWellScoped c [] t sort → IsWellScoped (record { scope = s; variables = c.variables; primes = c.primes }) [] t sort

pub no_clash : (a b : Sort) (p : Place) → clash_failures (Some a) (Some b) p ≡ [] → a ≡ b
no_clash a b p h = one_sort a b (not_not (same_sort a b) (no_failure _ 5 p h))
  where
    not_not : (b : Bool) → not b ≡ false → b ≡ true
    not_not true h = refl
    not_not false h = absurd (cc)

pub no_first : (n : ℕ) (vs : List Variable) (name : List ℕ) → AllByRecursion (λ (other : List ℕ). bytes_eq name other ≡ false) (variable_names vs) → first_of n (locals_of vs) name ≡ None
no_first n [] name a = refl
no_first n (v ∷ vs) name a =
    ap (λ b. cond b (Some (let x : Found = record { number = n; sort = Some v.sort } in x)) (first_of (suc n) (locals_of vs) name)) a.0 ∙ no_first (suc n) vs name a.1

-- no variable is named `true`
not_true : (vs : List Variable) (s : ScopeState) → AllByRecursion (λ (name : List ℕ). is_term_name s name ≡ false) (variable_names vs)
    → AllByRecursion (λ (other : List ℕ). bytes_eq (codes "true") other ≡ false) (variable_names vs)
not_true [] s a = tt
not_true (v ∷ vs) s a =
    let n = new_term s v.name a.0 in
    let p = or_parts _ (bytes_eq v.name (codes "true") || bytes_eq v.name (codes "false")) n.free in
    let q = or_parts (bytes_eq v.name (codes "true")) (bytes_eq v.name (codes "false")) p.1 in
    (other_way v.name (codes "true") q.0, not_true vs s a.1)

pub true_stands : (s : ScopeState) (vs : List Variable) (primes : Primes) → AreVariables s vs → IsFormula s vs primes true_term
true_stands s vs primes v = (refl, by_first (first_of 0 (locals_of vs) (codes "true")) (no_first 0 vs (codes "true") (not_true vs s v.names.free)))
  where
    by_first : (o : Option Found) → o ≡ None → or_else (let x : Option Meaning = None in x) (or_else (elim o [ None ↦ let x : Option Meaning = None in x | Some f ↦ Some (meaning.Variable f.number f.sort) ]) (Some (meaning.Value (datum.Truth true) Truth)))
        ≡ Some (meaning.Value (datum.Truth true) Truth)
    by_first None e = refl
    by_first (Some f) e = absurd (cc)

module _ (stand : TermsAreWellScoped) (on : StandOn) (s whole : ScopeState) (grows : GrowsTo s whole) (ds : List Declared) (known : AreKnown s.enumerations ds) where
  pub term_stands : (primes : Primes) (t : form.Tree) → term_failures s (locals_among ds) primes t ≡ [] → IsFormula whole (variables_of ds) primes (term_of s (locals_among ds) primes t)
  term_stands primes t h =
      let c : Context = record { scope = s; variables = locals_among ds; primes = primes } in
      let same = locals_same s.enumerations ds known in
      let e = none_in (read c [] t).failures _ h in
      let r = stand c (sorts_of (variables_of ds)) t (subst (λ ls. HaveKnownSorts ls (sorts_of (variables_of ds))) (sym same) (locals_known (variables_of ds))) e.0 in
      let one : Truth ≡ r.0 = no_clash Truth r.0 (place_in t) (subst (λ o. clash_failures (Some Truth) o (place_in t) ≡ []) r.1 e.1) in
      subst (λ ls. IsWellScoped (let x : Context = record { scope = whole; variables = ls; primes = primes } in x) [] (term_of s (locals_among ds) primes t) Truth) same
      (on c whole grows (term_of s (locals_among ds) primes t) Truth (subst (IsWellScoped c [] (term_of s (locals_among ds) primes t)) (sym one) r.2))

  pub formula_stands : AreVariables whole (variables_of ds) → (primes : Primes) (o : Option form.Tree) → formula_failures s (locals_among ds) primes o ≡ []
      → IsFormula whole (variables_of ds) primes (formula_term s (locals_among ds) primes o)
  formula_stands v primes None h = true_stands whole (variables_of ds) primes v
  formula_stands v primes (Some t) h = term_stands primes t h
