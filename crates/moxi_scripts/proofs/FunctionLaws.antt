-- Functions that are read: where no test of its parts fails, a definition's body has its result's sort.
use Rattle.std.proofs.Common.{arith, ◌≡◌, ℕ, Bool, true, false, IfOk, IfSome, Result, Ok, Err, Option, None, Some, List, [], ◌∷◌, ◌++◌, is_none, not, refl, sym, ap, subst}
use Rattle.std.proofs.lemmas.Bool.Decides.{nat_tests}
use Rattle.std.proofs.lemmas.Option.{none-some, same_Some}
use Rattle.text_core.specs.declared.place.Place.{Place}
use Rattle.text_core.specs.declared.place.Refusal.{Refusal}
use Rattle.moxi_sexpr.specs.Tree as form
use Rattle.moxi_terms.specs.declared.data.Sort.{Sort}
use Rattle.moxi_terms.specs.declared.data.Sort.TheVariants.{Truth, Bits, Choice}
use Rattle.moxi_terms.specs.declared.data.Primes.TheVariants.{Refused}
use Rattle.moxi_term_reading.specs.Failures.{least, minimum}
use Rattle.moxi_term_reading.specs.Forms.{place_in}
use Rattle.moxi_term_reading.specs.Reading.{Context, read, prime_failures}
use Rattle.moxi_term_reading.specs.SortReading.{sort_reading}
use Rattle.moxi_terms.specs.Sorts.{IsSort, same_sort}
use Rattle.moxi_terms.specs.Sorted.{AreSorts, HasSort, IsFunction}
use Rattle.moxi_terms.specs.Tree.{sorts_of}
use Rattle.moxi_terms.specs.View.{ScopeState}
use Rattle.moxi_term_reading.specs.WellSorted.{HaveKnownSorts, IsWellSorted}
use Rattle.moxi_scripts.specs.Collecting.{also, fails_if}
use Rattle.moxi_scripts.specs.Declarations.{FunctionForms, body_reading, clash_failures, is_nil, part_failures, result_sort}
use Rattle.moxi_scripts.specs.Entries.{entries_failures, entries_of, entry_in, entry_tests, known_sort, locals_among, sort_failures, variables_of}
use Rattle.moxi_scripts.specs.Shapes.{NamedForm, named, misshapen}

pub known_if : (P : Sort → Type 0) (r : Result Sort Refusal) → IfOk r P → IfSome (known_sort r) P
known_if P (Ok s) h = h
known_if P (Err f) h = tt

pub none_is_nil : (fs : List Refusal) → is_none (also None fs) ≡ is_nil fs
unfolding also
none_is_nil [] = refl
none_is_nil (f ∷ fs) = by_rest (least fs)
  where
    by_rest : (o : Option Refusal) → is_none (minimum (Some f) o) ≡ false
    by_rest None = refl
    by_rest (Some g) = refl

pub nil_is : (fs : List Refusal) → is_nil fs ≡ true → fs ≡ []
nil_is [] h = refl
nil_is (f ∷ fs) h = absurd (cc)

pub some_fails : {A : Type 0} (f : Refusal) (fs : List Refusal) → f ∷ fs ≡ [] → A
some_fails f fs h = absurd (cc)

pub none_in : (xs ys : List Refusal) → xs ++ ys ≡ [] → (xs ≡ []) × (ys ≡ [])
none_in [] ys h = (refl, h)
none_in (x ∷ xs) ys h = some_fails x (xs ++ ys) h

pub one_sort : (s t : Sort) → same_sort s t ≡ true → s ≡ t
one_sort Truth Truth h = refl
one_sort Truth (Bits w) h = absurd (cc)
one_sort Truth (Choice n) h = absurd (cc)
one_sort (Bits v) Truth h = absurd (cc)
one_sort (Bits v) (Bits w) h = ap Bits (grind (arith, nat_tests))
one_sort (Bits v) (Choice n) h = absurd (cc)
one_sort (Choice n) Truth h = absurd (cc)
one_sort (Choice n) (Bits w) h = absurd (cc)
one_sort (Choice n) (Choice m) h = ap Choice (grind (arith, nat_tests))

module _ (s : ScopeState) (sorts : (around : Place) (t : form.Tree) → IfOk (sort_reading s around t) (IsSort s.enumerations)) where
  abbrev AreKnown : form.Trees → Type 0
  AreKnown ts = HaveKnownSorts (locals_among (entries_of s ts)) (sorts_of (variables_of (entries_of s ts))) × AreSorts s.enumerations (sorts_of (variables_of (entries_of s ts)))

  abbrev Both : form.Tree → form.Trees → Option NamedForm → Type 0
  Both t ts o = HaveKnownSorts (locals_among (entry_in s (place_in t) o ++ entries_of s ts)) (sorts_of (variables_of (entry_in s (place_in t) o ++ entries_of s ts)))
      × AreSorts s.enumerations (sorts_of (variables_of (entry_in s (place_in t) o ++ entries_of s ts)))

  abbrev TermHas : FunctionForms → Sort → Type 0
  TermHas f r = HasSort s.enumerations s.functions (sorts_of (variables_of (entries_of s f.parameters))) [] (body_reading s f).term r

  pub entries_known : (q : Place) (ts : form.Trees) → entries_failures s q ts ≡ [] → AreKnown ts
  entries_known q form.no_trees h = (tt, tt)
  entries_known q (form.tree t ts) h =
      let e = none_in (entry_tests s q t (named t)) (entries_failures s q ts) h in
      by_shape (named t) e.0 (entries_known q ts e.1)
    where
      by_shape : (o : Option NamedForm) → entry_tests s q t o ≡ [] → AreKnown ts → Both t ts o
      by_shape None h k = some_fails (misshapen q t) [] h
      by_shape (Some n) h k = by_sort (sort_reading s (place_in t) n.form) (sorts (place_in t) n.form) (none_in (prime_failures n.primed n.place) _ h).1
        where
          by_sort : (r : Result Sort Refusal) → IfOk r (IsSort s.enumerations) → sort_failures r ≡ []
              → HaveKnownSorts (record { name = n.name; sort = known_sort r } ∷ locals_among (entries_of s ts)) (sorts_of (variables_of (record { name = n.name; place = n.place; sort = known_sort r } ∷ entries_of s ts)))
              × AreSorts s.enumerations (sorts_of (variables_of (record { name = n.name; place = n.place; sort = known_sort r } ∷ entries_of s ts)))
          by_sort (Ok sort) is h = ((refl, k.0), (is, k.1))
          by_sort (Err f) is h = some_fails f [] h

  pub function_is : (p : Place) (f : FunctionForms) (r : Sort)
      → ((c : Context) (vars : List Sort) (t : form.Tree) → HaveKnownSorts c.variables vars → (read c [] t).failures ≡ [] → IsWellSorted c vars [] (read c [] t))
      → part_failures s p f ≡ [] → known_sort (result_sort s p f) ≡ Some r
      → IsFunction s.enumerations s.functions (record { name = f.name.name; parameters = variables_of (entries_of s f.parameters); result = r; body = (body_reading s f).term })
  function_is p f r terms h e =
      let front = none_in (entries_failures s f.place f.parameters ++ sort_failures (result_sort s p f)) _ h in
      let first = none_in (entries_failures s f.place f.parameters) _ front.0 in
      let back = none_in (body_reading s f).failures _ front.1 in
      let k = entries_known f.place f.parameters first.0 in
      let vars = sorts_of (variables_of (entries_of s f.parameters)) in
      let w = terms (record { scope = s; variables = locals_among (entries_of s f.parameters); primes = Refused }) vars f.body k.0 back.0 in
      let clash : clash_failures (Some r) (Some w.sort) (place_in f.body) ≡ [] = subst (λ o. clash_failures (Some r) o (place_in f.body) ≡ []) w.known (subst (λ o. clash_failures o (body_reading s f).sort (place_in f.body) ≡ []) e back.1) in
      let one : r ≡ w.sort = one_sort r w.sort (no_clash (same_sort r w.sort) 5 (place_in f.body) clash) in
      record {
        parameters = k.1;
        result = if_known (result_sort s p f) (sorts p f.result) e;
        unprimed = w.term.unprimed refl;
        body = subst (λ r. TermHas f r) (sym one) w.term.sorted;
      }
    where
      if_known : (o : Result Sort Refusal) → IfOk o (IsSort s.enumerations) → known_sort o ≡ Some r → IsSort s.enumerations r
      if_known (Ok t) h e = subst (IsSort s.enumerations) (same_Some t r e) h
      if_known (Err g) h e = absurd (none-some r e)

      no_clash : (b : Bool) (n : ℕ) (q : Place) → fails_if (not b) n q ≡ [] → b ≡ true
      no_clash true n q h = refl
      no_clash false n q h = some_fails _ [] h

pub least_found : (own : Option Refusal) (fs : List Refusal) → own ≡ also None fs → own ≡ least fs
unfolding also
least_found own fs e = e

pub some_each : {A : Type 0} (P : A → Type 0) (o : Option A) → ((x : A) → o ≡ Some x → P x) → IfSome o P
some_each P None f = tt
some_each P (Some x) f = f x refl
