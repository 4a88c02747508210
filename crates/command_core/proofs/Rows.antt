-- The rows of what was found, and what they say of each argument.
use Rattle.std.proofs.Common.{◌≡◌, ◌∙◌, ◌&&◌, ◌||◌, ◌≤◌, ℕ, Bool, true, false, cond, List, [], ◌∷◌, ◌++◌, length, is_some, Option, Some, None, refl, sym, ap, arith}
use Rattle.std.specs.Prelude.{option_and_then, slice_get, find}
use Rattle.std.specs.List.{cons_option, list_all}
use Rattle.std.specs.Str.{bytes_eq}
use Rattle.std.proofs.lemmas.List.{append-nil}
use Rattle.clap.specs.declared.parser.matches.ValueSource.TheVariants.{CommandLine}
use Rattle.clap.specs.Walk.{Row, Text, at_row, first_of, has_row, more_values, reading_by, used, without}
use Rattle.clap.specs.Faults.{use_fault}
use Rattle.clap.specs.declared.error.kind.ErrorKind.TheVariants.{ArgumentConflict}
use Rattle.command_core.specs.Clap.{Texts, texts_by}
use Rattle.command_core.proofs.Shape.{first_id, second_id, third_id, property_id, option_rule, positional_rule}

-- a row with one value of an argument
abbrev pub row_of : Text → Text → Row
row_of id word = record { id = id; values = word ∷ []; count = None; source = Some CommandLine; reading = reading_by option_rule }

abbrev pub with_row : Text → Text → List Row → List Row
with_row id word rows = rows ++ row_of id word ∷ []

abbrev pub has_value : Row → Bool
has_value r = is_some (slice_get r.values 0)

-- an argument without a row is changed at the end
fresh : (id : Text) (change : Row → List Row) (missing rows : List Row) → has_row id rows ≡ false → at_row id change missing rows ≡ rows ++ missing
fresh id change missing [] e = refl
fresh id change missing (r ∷ rs) e = go (bytes_eq r.id id) e (fresh id change missing rs)
  where
    go : (b : Bool) → (b || has_row id rs) ≡ false → (has_row id rs ≡ false → at_row id change missing rs ≡ rs ++ missing)
        → cond b (change r ++ rs) (r ∷ at_row id change missing rs) ≡ r ∷ (rs ++ missing)
    go true e ih = cc
    go false e ih = ap (λ more. r ∷ more) (ih e)

used_fresh : (id word : Text) (rows : List Row) (change : Row → List Row) → has_row id rows ≡ false
    → at_row id change (row_of id word ∷ []) (without id rows) ≡ with_row id word rows
used_fresh id word rows change e =
    ap (at_row id change (row_of id word ∷ [])) (fresh id (λ r. []) [] rows e ∙ append-nil rows) ∙ fresh id change (row_of id word ∷ []) rows e

pub used_positional : (id : Text) (place : ℕ) (word : Text) (rows : List Row) → has_row id rows ≡ false
    → used (positional_rule id place) (word ∷ []) rows ≡ with_row id word rows
used_positional id place word rows e = used_fresh id word rows (more_values CommandLine (word ∷ [])) e

pub used_option : (word : Text) (rows : List Row) → has_row property_id rows ≡ false → used option_rule (word ∷ []) rows ≡ with_row property_id word rows
used_option word rows e = used_fresh property_id word rows (more_values CommandLine (word ∷ [])) e

pub positional_passes : (id : Text) (place : ℕ) (word : Text) (rows : List Row) → has_row id rows ≡ false
    → use_fault false (positional_rule id place) (word ∷ []) rows ≡ []
positional_passes id place word rows e = rw e refl

pub option_passes : (word : Text) (rows : List Row) → has_row property_id rows ≡ false → use_fault false option_rule (word ∷ []) rows ≡ []
option_passes word rows e = rw e refl

pub option_again : (word : Text) (rows : List Row) → has_row property_id rows ≡ true → use_fault false option_rule (word ∷ []) rows ≡ ArgumentConflict ∷ []
option_again word rows e = rw e refl

-- what is found behind one more row: its word for its own argument, and what was found before for another
found_own : (id word : Text) (rows : List Row) → bytes_eq id id ≡ true → has_row id rows ≡ false → first_of id (with_row id word rows) ≡ Some word
found_own id word [] same e = rw same refl
found_own id word (r ∷ rs) same e = go (bytes_eq r.id id) e (found_own id word rs same)
  where
    go : (b : Bool) → (b || has_row id rs) ≡ false → (has_row id rs ≡ false → first_of id (with_row id word rs) ≡ Some word)
        → option_and_then (λ (r : Row). slice_get r.values 0) (cond b (Some r) (find (λ r. bytes_eq r.id id) (with_row id word rs))) ≡ Some word
    go true e ih = cc
    go false e ih = ih e

found_other : (id word other : Text) (rows : List Row) → bytes_eq id other ≡ false → first_of other (with_row id word rows) ≡ first_of other rows
found_other id word other [] e = rw e refl
found_other id word other (r ∷ rs) e = go (bytes_eq r.id other) (found_other id word other rs e)
  where
    go : (b : Bool) → first_of other (with_row id word rs) ≡ first_of other rs
        → option_and_then (λ (r : Row). slice_get r.values 0) (cond b (Some r) (find (λ r. bytes_eq r.id other) (with_row id word rs)))
        ≡ option_and_then (λ (r : Row). slice_get r.values 0) (cond b (Some r) (find (λ r. bytes_eq r.id other) rs))
    go true ih = refl
    go false ih = ih

all_valued : (id word : Text) (rows : List Row) → list_all has_value rows ≡ true → list_all has_value (with_row id word rows) ≡ true
all_valued id word [] e = refl
all_valued id word (r ∷ rs) e = go (has_value r) e (all_valued id word rs)
  where
    go : (b : Bool) → (b && list_all has_value rs) ≡ true → (list_all has_value rs ≡ true → list_all has_value (with_row id word rs) ≡ true)
        → (b && list_all has_value (with_row id word rs)) ≡ true
    go true e ih = ih e
    go false e ih = cc

-- an argument has a row where it has a value
has_row-found : (id : Text) (rows : List Row) → list_all has_value rows ≡ true → has_row id rows ≡ is_some (first_of id rows)
has_row-found id [] e = refl
has_row-found id (r ∷ rs) e = go (has_value r) refl e (has_row-found id rs)
  where
    here : (b : Bool) → has_value r ≡ true → has_row id rs ≡ is_some (first_of id rs)
        → (b || has_row id rs) ≡ is_some (option_and_then (λ (r : Row). slice_get r.values 0) (cond b (Some r) (find (λ r. bytes_eq r.id id) rs)))
    here true v ih = sym v
    here false v ih = ih

    go : (b : Bool) → has_value r ≡ b → (b && list_all has_value rs) ≡ true → (list_all has_value rs ≡ true → has_row id rs ≡ is_some (first_of id rs))
        → has_row id (r ∷ rs) ≡ is_some (first_of id (r ∷ rs))
    go true v e ih = here (bytes_eq r.id id) v (ih e)
    go false v e ih = cc

-- the rows give the texts
pub record Gives (rows : List Row) (t : Texts) : Type 0 where
  pub first : first_of first_id rows ≡ slice_get t.positionals 0
  pub second : first_of second_id rows ≡ slice_get t.positionals 1
  pub third : first_of third_id rows ≡ slice_get t.positionals 2
  pub property : first_of property_id rows ≡ t.property
  pub valued : list_all has_value rows ≡ true
  pub fits : length t.positionals ≤ 3

-- no row of an argument, or one
pub has_row_is : (id : Text) (rows : List Row) (t : Texts) (o : Option Text) → Gives rows t → first_of id rows ≡ o → has_row id rows ≡ is_some o
has_row_is id rows t o g e = has_row-found id rows g.valued ∙ ap is_some e

pub gives_nothing : Gives [] (record { positionals = []; property = None })
gives_nothing = record { first = refl; second = refl; third = refl; property = refl; valued = refl; fits = omega arith }

pub gives_first : (rows : List Row) (property : Option Text) (word : Text) → Gives rows (record { positionals = []; property = property })
    → Gives (with_row first_id word rows) (record { positionals = word ∷ []; property = property })
gives_first rows property word g = record {
  first = found_own first_id word rows refl (has_row_is first_id rows _ None g g.first);
  second = found_other first_id word second_id rows refl ∙ g.second;
  third = found_other first_id word third_id rows refl ∙ g.third;
  property = found_other first_id word property_id rows refl ∙ g.property;
  valued = all_valued first_id word rows g.valued;
  fits = omega arith;
}

pub gives_second : (rows : List Row) (a : Text) (property : Option Text) (word : Text) → Gives rows (record { positionals = a ∷ []; property = property })
    → Gives (with_row second_id word rows) (record { positionals = a ∷ word ∷ []; property = property })
gives_second rows a property word g = record {
  first = found_other second_id word first_id rows refl ∙ g.first;
  second = found_own second_id word rows refl (has_row_is second_id rows _ None g g.second);
  third = found_other second_id word third_id rows refl ∙ g.third;
  property = found_other second_id word property_id rows refl ∙ g.property;
  valued = all_valued second_id word rows g.valued;
  fits = omega arith;
}

pub gives_third : (rows : List Row) (a b : Text) (property : Option Text) (word : Text) → Gives rows (record { positionals = a ∷ b ∷ []; property = property })
    → Gives (with_row third_id word rows) (record { positionals = a ∷ b ∷ word ∷ []; property = property })
gives_third rows a b property word g = record {
  first = found_other third_id word first_id rows refl ∙ g.first;
  second = found_other third_id word second_id rows refl ∙ g.second;
  third = found_own third_id word rows refl (has_row_is third_id rows _ None g g.third);
  property = found_other third_id word property_id rows refl ∙ g.property;
  valued = all_valued third_id word rows g.valued;
  fits = omega arith;
}

pub gives_property : (rows : List Row) (positionals : List Text) (word : Text) → Gives rows (record { positionals = positionals; property = None })
    → Gives (with_row property_id word rows) (record { positionals = positionals; property = Some word })
gives_property rows positionals word g = record {
  first = found_other property_id word first_id rows refl ∙ g.first;
  second = found_other property_id word second_id rows refl ∙ g.second;
  third = found_other property_id word third_id rows refl ∙ g.third;
  property = found_own property_id word rows refl (has_row_is property_id rows _ None g g.property);
  valued = all_valued property_id word rows g.valued;
  fits = g.fits;
}

abbrev listing : Option Text → Option Text → Option Text → Option Text → Texts
listing first second third property = record { positionals = cons_option first (cons_option second (cons_option third [])); property = property }

listed : (positionals : List Text) (property : Option Text) → length positionals ≤ 3
    → listing (slice_get positionals 0) (slice_get positionals 1) (slice_get positionals 2) property ≡ record { positionals = positionals; property = property }
listed [] property fits = refl
listed (a ∷ []) property fits = refl
listed (a ∷ b ∷ []) property fits = refl
listed (a ∷ b ∷ c ∷ []) property fits = refl
listed (a ∷ b ∷ c ∷ d ∷ more) property fits = absurd (omega arith)

-- what the rows give by the arguments' names
pub given_texts : (rows : List Row) (t : Texts) → Gives rows t → texts_by (λ id. first_of id rows) ≡ t
given_texts rows t g =
    let named : texts_by (λ id. first_of id rows) ≡ listing (slice_get t.positionals 0) (slice_get t.positionals 1) (slice_get t.positionals 2) t.property =
    λ i. listing (g.first i) (g.second i) (g.third i) (g.property i) in
    named ∙ listed t.positionals t.property g.fits
