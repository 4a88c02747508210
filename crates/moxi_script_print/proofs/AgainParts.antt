-- Lists, names and tests, and what is known of sorts and terms that are shown.
use Rattle.std.proofs.Common.{◌≡◌, ◌++◌, true, false, is_none, is_some, Option, None, Some, Ok, List, [], ◌∷◌, refl, ap, ◌∙◌}
use Rattle.std.specs.Prelude.{codes}
use Rattle.std.specs.List.{AllByRecursion}
use Rattle.text_core.specs.declared.place.Place.{Place}
use Rattle.text_core.specs.declared.place.Refusal.{Refusal}
use Rattle.moxi_sexpr.specs.Tree as form
use Rattle.moxi_terms.specs.declared.data.Sort.{Sort}
use Rattle.moxi_term_reading.specs.declared.locals.Local.{Local}
use Rattle.moxi_terms.specs.declared.term.Enumeration.{Enumeration}
use Rattle.moxi_terms.specs.Names.{enumeration_names, is_among}
use Rattle.name_maps.specs.Names.{are_fresh}
use Rattle.moxi_term_reading.specs.Reading.{Context, names_of, read}
use Rattle.moxi_term_reading.specs.SortReading.{sort_reading}
use Rattle.moxi_terms.specs.Sorts.{IsSort}
use Rattle.moxi_terms.specs.Tree.{Tree}
use Rattle.moxi_terms.specs.View.{ScopeState}
use Rattle.moxi_term_print.specs.Shown.{Shows}
use Rattle.moxi_term_print.specs.WellScoped.{IsWellScoped}
use Rattle.moxi_term_print.specs.WellScopedReads.{IsKnownSort, whole}
use Rattle.moxi_term_print.specs.Terms.{shown_sort, shown_term}

-- SORTS AND TERMS

-- a form that is shown as a term that can appear in its place spells it
abbrev pub TermsRead : Type 0
TermsRead = (c : Context) (bounds : List Local) (t : Tree) (s : Sort) (f : form.Tree) → IsWellScoped c bounds t s → Shows f (shown_term c.scope (names_of c.variables) (names_of bounds) t) → read c bounds f ≡ whole t s

-- a form that is shown as a sort that is named by its name spells it
abbrev pub SortsRead : Type 0
SortsRead = (s : ScopeState) (around : Place) (sort : Sort) (f : form.Tree) → IsKnownSort s sort → Shows f (shown_sort s sort) → sort_reading s around f ≡ Ok sort

-- the sorts of a scope are named by their names
abbrev pub SortsStand : Type 0
SortsStand = (s : ScopeState) (sort : Sort) → are_fresh [] (enumeration_names s) ≡ true → is_among (enumeration_names s) (codes "Bool") ≡ false → IsSort s.enumerations sort → IsKnownSort s sort

-- what is shown of sorts and terms in a scope is read again
pub record ReadsBack (s : ScopeState) : Type 0 where
  pub sorts : (around : Place) (sort : Sort) (f : form.Tree) → IsSort s.enumerations sort → Shows f (shown_sort s sort) → sort_reading s around f ≡ Ok sort
  pub terms : TermsRead

-- the same of each scope with these enumerations
abbrev pub AllReadBack : List Enumeration → Type 0
AllReadBack es = (s : ScopeState) → s.enumerations ≡ es → ReadsBack s

-- LISTS

abbrev pub first_or : {A : Type 0} → A → List A → A
first_or d [] = d
first_or d (x ∷ xs) = x

pub all_both : {A : Type 0} (P Q R : A → Type 0) (xs : List A) → ((x : A) → P x → Q x → R x) → AllByRecursion P xs → AllByRecursion Q xs → AllByRecursion R xs
all_both P Q R [] f a b = tt
all_both P Q R (x ∷ xs) f a b = (f x a.0 b.0, all_both P Q R xs f a.1 b.1)

pub some_if : {A : Type 0} (o : Option A) → is_none o ≡ true → is_some o ≡ false
some_if None h = refl
some_if (Some x) h = absurd (cc)

pub none_if : {A : Type 0} (o : Option A) → is_none o ≡ true → o ≡ None
none_if None h = refl
none_if (Some x) h = absurd (cc)

pub both_nil : (xs ys : List Refusal) → xs ≡ [] → ys ≡ [] → xs ++ ys ≡ []
both_nil xs ys h g = ap (λ xs. xs ++ ys) h ∙ g
