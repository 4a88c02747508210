-- What is stored of bodies, by the numbers of their items.
use Rattle.std.proofs.Common.{◌≡◌, ℕ, Bool, true, false, ◌&&◌, ◌==◌, if◌then◌else◌, List, [], Option, Some, None, option_map, bytes_eq, refl, sym, ap, ◌∙◌, subst}
use Rattle.std.specs.Prelude.{slice_index_or}
use Rattle.std.specs.List.{slice_get}
use Rattle.std.proofs.lemmas.Bool.{eqb-true, eq-eqb}
use Rattle.std.proofs.lemmas.Option.{none-some}
use Rattle.std.proofs.lemmas.Slice.Eq.{bytes_eq-Decides}
use Rattle.name_maps.specs.declared.instance_rows.InstanceRows.{InstanceRows}
use Rattle.name_maps.specs.Rows.{row_in}
use Rattle.smv_text.specs.declared.tree.VarKind.{VarKind}
use Rattle.smv_text.specs.Tree.{PlainDomain}
use Rattle.smv_meaning.specs.Instances.{Instance}
use Rattle.smv_meaning.specs.Names.{Local, alias, body_of, variable_of, inner, nothing, local}
use Rattle.smv_meaning.specs.Phases.{Body, body_same}
use Rattle.smv_meaning.specs.laws.Booleans.{absurd_bool}
use Rattle.smv_laws.proofs.Cycles.{same_is}
use Rattle.smv_items.specs.FlatItems.{Origin, origins_of, is_body}
use Rattle.smv_items.specs.FlatOrigins.{is_body_at, AreBodies}
use Rattle.smv_flat_laws.proofs.FlatFound.{body_at_item}
use Rattle.smv_types.specs.declared.names.Named.{Named as Stored}
use Rattle.smv_types.specs.View.{named_seen}
use Rattle.smv_model_types.specs.Kept.{has_own_body}
use Rattle.smv_model_types.specs.Entries.{AreEnumerations, named_variable, stored_at, entries_seen, Becomes}
use Rattle.smv_model_types.proofs.Filling.{both_true, two_true}
use Rattle.smv_model_types.proofs.KeptLemmas.{at_position}

some_same : {X : Type 0} {x y : X} → Some x ≡ Some y → x ≡ y
some_same e = cc

pub none_stored : (numbers : InstanceRows ℕ) (stored : List (Option Stored)) → stored ≡ [] → (i : ℕ) (x : List ℕ) → entries_seen numbers stored i x ≡ None
none_stored numbers stored e i x = by (row_in numbers i x)
  where
    by : (o : Option ℕ) → stored_at stored o ≡ None
    by None = refl
    by (Some k) = ap (λ (xs : List (Option Stored)). option_map named_seen (slice_index_or xs k None)) e

-- a body has an item
pub own_item : (t : List Instance) (numbers : InstanceRows ℕ) → AreBodies (origins_of t) numbers → (i : ℕ) (x : List ℕ) (l : Local) → local t i x ≡ l → has_own_body l ≡ true
    → (k : ℕ) × (m : Origin) × (row_in numbers i x ≡ Some k) × (slice_get (origins_of t) k ≡ Some m)
own_item t numbers b i x (body_of j e) s h = let a = body_at_item t i x j e s in (a.k, a.x, b i x ∙ a.placed, a.there)
own_item t numbers b i x (alias j path) s h = absurd_bool h
own_item t numbers b i x (variable_of kind d) s h = absurd_bool h
own_item t numbers b i x inner s h = absurd_bool h
own_item t numbers b i x nothing s h = absurd_bool h

-- a body has a number
pub no_row_absurd : {X : Type 0} (t : List Instance) (numbers : InstanceRows ℕ) → AreBodies (origins_of t) numbers → (i : ℕ) (x : List ℕ) → has_own_body (local t i x) ≡ true → row_in numbers i x ≡ None → X
no_row_absurd {X = X} t numbers b i x own r = let item = own_item t numbers b i x (local t i x) refl own in absurd (none-some item.0 (sym r ∙ item.2))

-- the item with the number of a body has the body's instance and name
item_named : (t : List Instance) (numbers : InstanceRows ℕ) → AreBodies (origins_of t) numbers → (k i : ℕ) (x : List ℕ) → row_in numbers i x ≡ Some k → (m : Origin) → slice_get (origins_of t) k ≡ Some m → (m.instance ≡ i) × (m.name ≡ x)
item_named t numbers b k i x r m s =
    let found = both_true (is_body m.content) ((m.instance == i) && bytes_eq m.name x) (at_position (is_body_at i x) (origins_of t) k (sym (b i x) ∙ r) m s) in
    let parts = both_true (m.instance == i) (bytes_eq m.name x) found.1 in
    (eqb-true m.instance i parts.0, (bytes_eq-Decides m.name x).0 parts.1)

-- what is stored under the number of a body is stored of this body alone
pub stored_becomes : (t : List Instance) (numbers : InstanceRows ℕ) → AreBodies (origins_of t) numbers → (i : ℕ) (x : List ℕ) → has_own_body (local t i x) ≡ true → (k : ℕ) → row_in numbers i x ≡ Some k → (old new : List (Option Stored)) (n : Stored)
    → ((a : ℕ) → slice_index_or new a None ≡ (if a == k then Some n else slice_index_or old a None)) → Becomes (entries_seen numbers old) (i, x) (Some (named_seen n)) (entries_seen numbers new)
stored_becomes t numbers b i x own k r old new n put j y = by (row_in numbers j y) refl (body_same (i, x) (j, y)) refl
  where
    item : (a : ℕ) × (m : Origin) × (row_in numbers i x ≡ Some a) × (slice_get (origins_of t) a ≡ Some m)
    item = own_item t numbers b i x (local t i x) refl own

    there : slice_get (origins_of t) k ≡ Some item.1
    there = let same : item.0 ≡ k = some_same (sym item.2 ∙ r) in subst (λ a. slice_get (origins_of t) a ≡ Some item.1) same item.3

    here : body_same (i, x) (j, y) ≡ true → row_in numbers j y ≡ Some k
    here e = ap (λ (q : Body). row_in numbers q.0 q.1) (sym (same_is (i, x) (j, y) e)) ∙ r

    put_in : (a : ℕ) (c : Bool) → (a == k) ≡ c → stored_at new (Some a) ≡ (if c then Some (named_seen n) else stored_at old (Some a))
    put_in a true e = ap (option_map named_seen) (put a ∙ ap (λ (d : Bool). if d then Some n else slice_index_or old a None) e)
    put_in a false e = ap (option_map named_seen) (put a ∙ ap (λ (d : Bool). if d then Some n else slice_index_or old a None) e)

    apart : (a : ℕ) → row_in numbers j y ≡ Some a → body_same (i, x) (j, y) ≡ false → (c : Bool) → (a == k) ≡ c → c ≡ false
    apart a s e false f = refl
    apart a s e true f =
        let one = item_named t numbers b k i x r item.1 there in
        let other = item_named t numbers b k j y (s ∙ ap Some (eqb-true a k f)) item.1 there in
        let same : body_same (i, x) (j, y) ≡ true = two_true (i == j) (bytes_eq x y) (eq-eqb i j (sym one.0 ∙ other.0)) ((bytes_eq-Decides x y).1 (sym one.1 ∙ other.1)) in
        absurd_bool (sym e ∙ same)

    by : (o : Option ℕ) → row_in numbers j y ≡ o → (c : Bool) → body_same (i, x) (j, y) ≡ c → stored_at new o ≡ (if c then Some (named_seen n) else stored_at old o)
    by None s true e = absurd (none-some k (sym s ∙ here e))
    by None s false e = refl
    by (Some a) s true e = let same : a ≡ k = some_same (sym s ∙ here e) in put_in a true (eq-eqb a k same)
    by (Some a) s false e = put_in a false (apart a s e (a == k) refl)

-- ---- enumerations

pub no_enumerations : (t : List Instance) (m : InstanceRows Stored) → ((i : ℕ) (x : List ℕ) → row_in m i x ≡ None) → AreEnumerations t m
no_enumerations t m h i x n there kind d own = absurd (none-some n (sym (h i x) ∙ there))

-- one variable more is stored
pub enumeration_more : (t : List Instance) (old new : InstanceRows Stored) (i : ℕ) (x : List ℕ) (v : Stored) (kind : VarKind) (d : PlainDomain) → local t i x ≡ variable_of kind d → named_seen v ≡ named_variable kind d
    → ((j : ℕ) (y : List ℕ) → row_in new j y ≡ (if i == j && bytes_eq x y then Some v else row_in old j y)) → AreEnumerations t old → AreEnumerations t new
enumeration_more t old new i x v kind d own right put h j y n there k e other = by (i == j && bytes_eq x y) refl (sym (put j y) ∙ there)
  where
    by : (c : Bool) → (i == j && bytes_eq x y) ≡ c → (if c then Some v else row_in old j y) ≡ Some n → named_seen n ≡ named_variable k e
    by true s r =
        let same : v ≡ n = some_same r in
        let parts = both_true (i == j) (bytes_eq x y) s in
        let is : variable_of kind d ≡ variable_of k e = sym own ∙ ap (λ a. local t a x) (eqb-true i j parts.0) ∙ ap (local t j) ((bytes_eq-Decides x y).0 parts.1) ∙ other in
        let kinds : kind ≡ k = cc in
        let domains : d ≡ e = cc in
        sym (ap named_seen same) ∙ right ∙ ap (λ a. named_variable a d) kinds ∙ ap (named_variable k) domains
    by false s r = h j y n r k e other
