-- How the entries are filled: what is put into them is right, and at the end they have all.
use Rattle.std.proofs.Common.{◌≡◌, ℕ, Bool, true, false, ◌&&◌, ◌||◌, ◌==◌, if◌then◌else◌, List, [], ◌∷◌, ◌++◌, map, Option, Some, None, is_some, bytes_eq, flat_map, refl, sym, ap, ◌∙◌, subst}
use Rattle.std.specs.List.{list_all, list_any, position}
use Rattle.std.proofs.lemmas.Bool.{eq-eqb}
use Rattle.std.proofs.lemmas.Slice.Eq.{bytes_eq-Decides}
use Rattle.std.proofs.lemmas.List.Folds.{list_all-append, list_any-append}
use Rattle.smv_text.specs.declared.tree.Path.{Path}
use Rattle.smv_text.specs.Tree.{Tree}
use Rattle.smv_meaning.specs.Types.{ExprType}
use Rattle.smv_meaning.specs.Instances.{Instance}
use Rattle.smv_meaning.specs.Expressions.{paths_of}
use Rattle.smv_meaning.specs.Names.{Local, alias, body_of, variable_of, inner, nothing, local, Found, variable_at, body_at, instance_at, symbol_of, cyclic, none, is_child, is_end, at_child, onward, walk, has_symbol, single, through, landed, look, found_in, steps_of}
use Rattle.smv_meaning.specs.Checks.{Named, Typing, typing}
use Rattle.smv_meaning.specs.Naming.{in_body, named_found}
use Rattle.smv_meaning.specs.Phases.{Body, body_same, body_here, from_instance, path_bodies, referred, refers}
use Rattle.smv_meaning.specs.Settled.{Acyclic, has_body, types_in, NamesSettle, TypesSettle}
use Rattle.smv_meaning.specs.Bodies.{IsBodyOrder}
use Rattle.smv_meaning.specs.Orders.{numbered, is_listed, SameOn, TypesHangOnPaths, OrderIsComplete}
use Rattle.smv_model_types.specs.Entries.{Entries, or_unnamed, found_named, entries_names, HasEach, put_for, or_else, Becomes, IsPut, Right, IsEntered, Has}
use Rattle.smv_meaning.specs.laws.Booleans.{absurd_bool}
use Rattle.smv_instances.proofs.LeadLemmas.{looked_once}
use Rattle.smv_flat_laws.proofs.FlatFound.{Home, home_found}
use Rattle.smv_laws.proofs.Cycles.{same_is}

-- ---- tests

pub both_true : (a b : Bool) → (a && b) ≡ true → (a ≡ true) × (b ≡ true)
both_true true b h = (refl, h)
both_true false b h = absurd_bool h

pub two_true : (a b : Bool) → a ≡ true → b ≡ true → (a && b) ≡ true
two_true true b h k = k
two_true false b h k = absurd_bool h

-- what the types are
abbrev pub meaning : List Instance → Found → Named
meaning t m = named_found true (types_in true t) m

abbrev pub looked : List Instance → ℕ → List ℕ → Found
looked t = look t (steps_of t)

-- a name is what its declaration says
abbrev pub Settled : List Instance → Type 0
Settled t = (i : ℕ) (x : List ℕ) → looked t i x ≡ landed t (looked t) i x (local t i x)

-- entries that are right and have those of a list
pub record Holds (t : List Instance) (entries : Entries) (ks : List Body) : Type 0 where
  pub right : Right t entries
  pub has : Has t entries ks

-- ---- what listed names and paths lead to has entries

child_entered : (entries : Entries) (c : Option ℕ) → IsEntered entries (at_child c)
child_entered entries None = tt
child_entered entries (Some c) = tt

pick_entered : (entries : Entries) (b : Bool) (m : Found) → IsEntered entries m → IsEntered entries (if b then m else none)
pick_entered entries true m h = h
pick_entered entries false m h = tt

symbol_entered : (entries : Entries) (b : Bool) (x : List ℕ) → IsEntered entries (if b then symbol_of x else none)
symbol_entered entries true x = tt
symbol_entered entries false x = tt

name_entered : (t : List Instance) (entries : Entries) (ks : List Body) → Has t entries ks → (i : ℕ) (x : List ℕ) (l : Local) → looked t i x ≡ landed t (looked t) i x l → list_all (is_listed ks) (body_here i x l) ≡ true → IsEntered entries (looked t i x)
name_entered t entries ks has i x (alias j path) e h = has (i, x) (both_true (is_listed ks (i, x)) true h).0
name_entered t entries ks has i x (body_of j b) e h = has (i, x) (both_true (is_listed ks (i, x)) true h).0
name_entered t entries ks has i x (variable_of kind d) e h = subst (IsEntered entries) (sym e) tt
name_entered t entries ks has i x inner e h = subst (IsEntered entries) (sym e) (child_entered entries (position (is_child i x) t))
name_entered t entries ks has i x nothing e h = subst (IsEntered entries) (sym e) tt

onward_entered : (t : List Instance) (entries : Entries) (ks : List Body) (m : Found) (b : Bool) (rest : List (List ℕ)) → IsEntered entries m
    → ((c : ℕ) → list_all (is_listed ks) (path_bodies t (looked t) c rest) ≡ true → IsEntered entries (walk (looked t) c rest))
    → list_all (is_listed ks) (from_instance m (λ c. path_bodies t (looked t) c rest)) ≡ true → IsEntered entries (onward m b (λ c. walk (looked t) c rest))
onward_entered t entries ks (instance_at c) b rest e ih h = ih c h
onward_entered t entries ks (variable_at x kind d) b rest e ih h = pick_entered entries b (variable_at x kind d) e
onward_entered t entries ks (body_at i x j a) b rest e ih h = pick_entered entries b (body_at i x j a) e
onward_entered t entries ks (symbol_of x) b rest e ih h = pick_entered entries b (symbol_of x) e
onward_entered t entries ks cyclic b rest e ih h = tt
onward_entered t entries ks none b rest e ih h = pick_entered entries b none e

walk_entered : (t : List Instance) (entries : Entries) (ks : List Body) → Settled t → Has t entries ks → (names : List (List ℕ)) (i : ℕ) → list_all (is_listed ks) (path_bodies t (looked t) i names) ≡ true → IsEntered entries (walk (looked t) i names)
walk_entered t entries ks s has [] i h = tt
walk_entered t entries ks s has (x ∷ rest) i h =
    let m = looked t i x in
    let more : List Body = from_instance m (λ c. path_bodies t (looked t) c rest) in
    let b = both_true (list_all (is_listed ks) (body_here i x (local t i x))) (list_all (is_listed ks) more) (sym (list_all-append (is_listed ks) (body_here i x (local t i x)) more) ∙ h) in
    onward_entered t entries ks m (is_end rest) rest (name_entered t entries ks has i x (local t i x) (s i x) b.0) (λ c k. walk_entered t entries ks s has rest c k) b.1

single_entered : (t : List Instance) (entries : Entries) (i : ℕ) (x : List ℕ) (l : Local) → IsEntered entries (walk (looked t) i (x ∷ [])) → IsEntered entries (single t (looked t) i x l)
single_entered t entries i x (alias j path) e = e
single_entered t entries i x (body_of j b) e = e
single_entered t entries i x (variable_of kind d) e = e
single_entered t entries i x inner e = e
single_entered t entries i x nothing e = symbol_entered entries (has_symbol t x) x

through_entered : (t : List Instance) (entries : Entries) (i : ℕ) (names : List (List ℕ)) → IsEntered entries (walk (looked t) i names) → IsEntered entries (through t (looked t) i names)
through_entered t entries i [] e = e
through_entered t entries i (x ∷ []) e = single_entered t entries i x (local t i x) e
through_entered t entries i (x ∷ y ∷ ys) e = e

path_entered : (t : List Instance) (entries : Entries) (ks : List Body) → Settled t → Has t entries ks → (i : ℕ) (path : Path) → list_all (is_listed ks) (path_bodies t (looked t) i path.names) ≡ true → IsEntered entries (found_in t i path)
path_entered t entries ks s has i path h = by path.from_self
  where
    e : IsEntered entries (walk (looked t) i path.names)
    e = walk_entered t entries ks s has path.names i h

    by : (b : Bool) → IsEntered entries (if b then walk (looked t) i path.names else through t (looked t) i path.names)
    by true = e
    by false = through_entered t entries i path.names e

-- ---- what they are

-- a definition or an actual is found where it stands
path_looked : (t : List Instance) (i : ℕ) (path : Path) (j : ℕ) (y : List ℕ) (k : ℕ) (e : Tree) → found_in t i path ≡ body_at j y k e → looked t j y ≡ body_at j y k e
path_looked t i path j y k e h =
    let own : local t j y ≡ body_of k e = subst (Home t) h (home_found t i path) in
    looked_once t j y (body_of k e) (body_at j y k e) (sym own) (λ f. refl)

body_there : (t : List Instance) (m : Found) (o : Option Named) → is_some o ≡ true → ((n : Named) → o ≡ Some n → n ≡ meaning t m) → or_unnamed o ≡ meaning t m
body_there t m (Some n) h r = r n refl
body_there t m None h r = absurd_bool h

found_right : (t : List Instance) (entries : Entries) → Right t entries → (m : Found) → ((j : ℕ) (y : List ℕ) (k : ℕ) (e : Tree) → m ≡ body_at j y k e → looked t j y ≡ m) → IsEntered entries m → found_named entries m ≡ meaning t m
found_right t entries r (variable_at y kind d) own h = refl
found_right t entries r (body_at j y k e) own h = body_there t (body_at j y k e) (entries j y) h (λ n s. r j y n s ∙ ap (meaning t) (own j y k e refl))
found_right t entries r (instance_at c) own h = refl
found_right t entries r (symbol_of y) own h = refl
found_right t entries r cyclic own h = refl
found_right t entries r none own h = refl

names_right : (t : List Instance) (entries : Entries) (ks : List Body) → Settled t → Holds t entries ks → (i : ℕ) (path : Path) → list_all (is_listed ks) (path_bodies t (looked t) i path.names) ≡ true
    → entries_names t entries i path ≡ meaning t (found_in t i path)
names_right t entries ks s r i path h =
    found_right t entries r.right (found_in t i path) (λ j y k e is. path_looked t i path j y k e is ∙ sym is) (path_entered t entries ks s r.has i path h)

-- ---- bodies

pub paths_right : (t : List Instance) (entries : Entries) (ks : List Body) → Settled t → ((i : ℕ) (path : Path) → types_in true t i path ≡ meaning t (found_in t i path)) → Holds t entries ks
    → (j : ℕ) (qs : List Path) → list_all (is_listed ks) (flat_map (λ q. path_bodies t (looked t) j q.names) qs) ≡ true → SameOn (entries_names t entries j) (types_in true t j) qs
paths_right t entries ks s types r j [] h = tt
paths_right t entries ks s types r j (q ∷ qs) h =
    let more = flat_map (λ p. path_bodies t (looked t) j p.names) qs in
    let b = both_true (list_all (is_listed ks) (path_bodies t (looked t) j q.names)) (list_all (is_listed ks) more) (sym (list_all-append (is_listed ks) (path_bodies t (looked t) j q.names) more) ∙ h) in
    (names_right t entries ks s r j q b.0 ∙ sym (types j q), paths_right t entries ks s types r j qs b.1)

any_same : (f g : Path → Named) (qs : List Path) → SameOn f g qs → list_any (λ q. (f q).reaches_input) qs ≡ list_any (λ q. (g q).reaches_input) qs
any_same f g [] s = refl
any_same f g (q ∷ qs) s = ap (λ (n : Named). n.reaches_input || list_any (λ p. (f p).reaches_input) qs) s.0 ∙ ap (λ b. (g q).reaches_input || b) (any_same f g qs s.1)

abbrev body_is : Option ExprType → Bool → Named
body_is t b = record { type = t; is_instance = false; reaches_input = b }

bodies_same : (hang : TypesHangOnPaths) (t : List Instance) (entries : Entries) (i : ℕ) (x : List ℕ) (j : ℕ) (e : Tree) → SameOn (entries_names t entries j) (types_in true t j) (paths_of e [])
    → named_found true (entries_names t entries) (body_at 0 [] j e) ≡ meaning t (body_at i x j e)
bodies_same hang t entries i x j e s =
    ap (λ (a : Typing). body_is a.type (list_any (λ q. (entries_names t entries j q).reaches_input) (paths_of e []))) (hang (entries_names t entries j) (types_in true t j) in_body e s)
    ∙ ap (λ b. body_is (typing (types_in true t j) in_body e).type b) (any_same (entries_names t entries j) (types_in true t j) (paths_of e []) s)

-- ---- what is put is right

record Laws (t : List Instance) : Type 0 where
  settled : Settled t
  types : (i : ℕ) (path : Path) → types_in true t i path ≡ meaning t (found_in t i path)
  hang : TypesHangOnPaths

laws : (t : List Instance) → Acyclic t → NamesSettle → TypesSettle → TypesHangOnPaths → Laws t
laws t a n y h = record { settled = (n t a).1; types = y t a true; hang = h }

put_right : (t : List Instance) (entries : Entries) (ks : List Body) → Laws t → Holds t entries ks → (i : ℕ) (x : List ℕ) (l : Local) → list_all (is_listed ks) (referred t (looked t) l) ≡ true
    → (n : Named) → put_for t entries l ≡ Some n → n ≡ meaning t (landed t (looked t) i x l)
put_right t entries ks w r i x (alias j path) h n e = cc
put_right t entries ks w r i x (body_of j b) h n e =
    let f : named_found true (entries_names t entries) (body_at 0 [] j b) ≡ n = cc in
    sym f ∙ bodies_same w.hang t entries i x j b (paths_right t entries ks w.settled w.types r j (paths_of b []) h)
put_right t entries ks w r i x (variable_of kind d) h n e = cc
put_right t entries ks w r i x inner h n e = cc
put_right t entries ks w r i x nothing h n e = cc

-- ---- the entries with what is put into them

became_right : (m : Found → Named) (k : Body) (o old : Option Named) (b : Bool) (n : Named) (f g : Found) → (b ≡ true → f ≡ g) → ((p : Named) → o ≡ Some p → p ≡ m f) → ((p : Named) → old ≡ Some p → p ≡ m g)
    → (if b then or_else o old else old) ≡ Some n → n ≡ m g
became_right m k (Some p) old true n f g s put was e = let q : p ≡ n = cc in sym q ∙ put p refl ∙ ap m (s refl)
became_right m k None old true n f g s put was e = was n e
became_right m k o old false n f g s put was e = was n e

pub right_becomes : (t : List Instance) (old new : Entries) (k : Body) (o : Option Named) → Becomes old k o new → Right t old → ((n : Named) → o ≡ Some n → n ≡ meaning t (looked t k.0 k.1)) → Right t new
right_becomes t old new k o b r put i x n e =
    became_right (meaning t) k o (old i x) (body_same k (i, x)) n (looked t k.0 k.1) (looked t i x) (λ s. ap (λ (q : Body). looked t q.0 q.1) (same_is k (i, x) s)) put (r i x) (sym (b i x) ∙ e)

some_stays : (b : Bool) (o old : Option Named) → is_some old ≡ true → is_some (if b then or_else o old else old) ≡ true
some_stays true (Some n) old h = refl
some_stays true None old h = h
some_stays false o old h = h

some_put : (b : Bool) (o old : Option Named) → b ≡ true → is_some o ≡ true → is_some (if b then or_else o old else old) ≡ true
some_put true (Some n) old s h = refl
some_put true None old s h = absurd_bool h
some_put false o old s h = absurd_bool s

same_self : (k m : Body) → m ≡ k → body_same k m ≡ true
same_self k m e =
    two_true (k.0 == m.0) (bytes_eq k.1 m.1) (eq-eqb k.0 m.0 (ap (λ (q : Body). q.0) (sym e))) ((bytes_eq-Decides k.1 m.1).1 (ap (λ (q : Body). q.1) (sym e)))

last_true : (a : Bool) → (a || false) ≡ true → a ≡ true
last_true true h = refl
last_true false h = h

-- what has an entry still has one
entered_stays : (old new : Entries) (k : Body) (o : Option Named) → Becomes old k o new → (m : Found) → IsEntered old m → IsEntered new m
entered_stays old new k o b (body_at j y c e) h = ap is_some (b j y) ∙ some_stays (body_same k (j, y)) o (old j y) h
entered_stays old new k o b (variable_at y kind d) h = tt
entered_stays old new k o b (instance_at c) h = tt
entered_stays old new k o b (symbol_of y) h = tt
entered_stays old new k o b cyclic h = tt
entered_stays old new k o b none h = tt

-- what one more leads to has an entry
put_entered : (t : List Instance) (old new : Entries) (ks : List Body) → Settled t → Has t old ks → (i : ℕ) (x : List ℕ) (l : Local) → list_all (is_listed ks) (referred t (looked t) l) ≡ true → Becomes old (i, x) (put_for t old l) new
    → looked t i x ≡ landed t (looked t) i x l → IsEntered new (looked t i x)
put_entered t old new ks s has i x (alias j path) h b e =
    subst (IsEntered new) (sym e) (entered_stays old new (i, x) (put_for t old (alias j path)) b (found_in t j path) (path_entered t old ks s has j path h))
put_entered t old new ks s has i x (body_of j a) h b e =
    subst (IsEntered new) (sym e) (ap is_some (b i x) ∙ some_put (body_same (i, x) (i, x)) (put_for t old (body_of j a)) (old i x) (same_self (i, x) (i, x) refl) refl)
put_entered t old new ks s has i x (variable_of kind d) h b e = subst (IsEntered new) (sym e) tt
put_entered t old new ks s has i x inner h b e = subst (IsEntered new) (sym e) (child_entered new (position (is_child i x) t))
put_entered t old new ks s has i x nothing h b e = subst (IsEntered new) (sym e) tt

has_becomes : (t : List Instance) (old new : Entries) (k : Body) (ks : List Body) (o : Option Named) → Becomes old k o new → Has t old ks → IsEntered new (looked t k.0 k.1) → Has t new (ks ++ k ∷ [])
has_becomes t old new k ks o b h put m l = by (is_listed ks m) refl
  where
    by : (c : Bool) → is_listed ks m ≡ c → IsEntered new (looked t m.0 m.1)
    by true s = entered_stays old new k o b (looked t m.0 m.1) (h m s)
    by false s =
        let g : (is_listed ks m || (body_same m k || false)) ≡ true = sym (list_any-append (body_same m) ks (k ∷ [])) ∙ l in
        let e : m ≡ k = same_is m k (last_true (body_same m k) (sym (ap (λ c. c || (body_same m k || false)) s) ∙ g)) in
        subst (λ (q : Body). IsEntered new (looked t q.0 q.1)) (sym e) put

-- ---- their beginning, steps and end

pub none_right : (t : List Instance) (entries : Entries) → ((i : ℕ) (x : List ℕ) → entries i x ≡ None) → Right t entries
none_right t entries h i x n e = let no : None ≡ Some n = sym (h i x) ∙ e in cc

pub none_held : (t : List Instance) (entries : Entries) → Right t entries → Holds t entries []
none_held t entries r = record { right = r; has = λ k h. absurd_bool h }

pub one_more : (t : List Instance) (old new : Entries) (k : Body) (ks : List Body) → Acyclic t → NamesSettle → TypesSettle → TypesHangOnPaths → list_all (is_listed ks) (refers t k) ≡ true
    → IsPut t k old new → Holds t old ks → Holds t new (ks ++ k ∷ [])
one_more t old new k ks a n y h before b r =
    let w = laws t a n y h in
    record {
      right = right_becomes t old new k (put_for t old (local t k.0 k.1)) b r.right (λ m e. put_right t old ks w r k.0 k.1 (local t k.0 k.1) before m e ∙ sym (ap (meaning t) (w.settled k.0 k.1)));
      has = has_becomes t old new k ks (put_for t old (local t k.0 k.1)) b r.has (put_entered t old new ks w.settled r.has k.0 k.1 (local t k.0 k.1) before b (w.settled k.0 k.1));
    }

path_bodies_listed : (t : List Instance) (ks : List Body) → ((k : Body) → has_body (local t k.0 k.1) ≡ true → is_listed ks k ≡ true) → (names : List (List ℕ)) (i : ℕ) → list_all (is_listed ks) (path_bodies t (looked t) i names) ≡ true
path_bodies_listed t ks whole [] i = refl
path_bodies_listed t ks whole (x ∷ rest) i =
    let more : List Body = from_instance (looked t i x) (λ c. path_bodies t (looked t) c rest) in
    list_all-append (is_listed ks) (body_here i x (local t i x)) more
    ∙ two_true (list_all (is_listed ks) (body_here i x (local t i x))) (list_all (is_listed ks) more) (here (local t i x) (λ f. whole (i, x) f))
    (inside (looked t i x) (λ c. path_bodies_listed t ks whole rest c))
  where
    here : (l : Local) → (has_body l ≡ true → is_listed ks (i, x) ≡ true) → list_all (is_listed ks) (body_here i x l) ≡ true
    here (alias j path) f = two_true (is_listed ks (i, x)) true (f refl) refl
    here (body_of j e) f = two_true (is_listed ks (i, x)) true (f refl) refl
    here (variable_of kind d) f = refl
    here inner f = refl
    here nothing f = refl

    inside : (m : Found) → ((c : ℕ) → list_all (is_listed ks) (path_bodies t (looked t) c rest) ≡ true) → list_all (is_listed ks) (from_instance m (λ c. path_bodies t (looked t) c rest)) ≡ true
    inside (instance_at c) f = f c
    inside (variable_at y kind d) f = refl
    inside (body_at j y c e) f = refl
    inside (symbol_of y) f = refl
    inside cyclic f = refl
    inside none f = refl

pub all_held : (t : List Instance) (entries : Entries) (order : List ℕ) → IsBodyOrder t order → NamesSettle → TypesSettle → OrderIsComplete → Holds t entries (map (numbered t) order) → HasEach t entries
all_held t entries order o n y whole r i path =
    names_right t entries (map (numbered t) order) (n t o.acyclic).1 r i path (path_bodies_listed t (map (numbered t) order) (whole t order o) path.names i) ∙ sym (y t o.acyclic true i path)
