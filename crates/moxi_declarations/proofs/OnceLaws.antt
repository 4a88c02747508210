-- Lists in which no name occurs twice: no test of it fails, and each name is found with its own sort.
use Rattle.std.proofs.Common.{◌≡◌, ℕ, suc, ◌+◌, ◌≤◌, Bool, true, false, ◌||◌, not, cond, List, [], ◌∷◌, ◌++◌, length, map, Option, Some, is_none, refl, sym, ap, ◌∙◌, subst, arith, append-nil, append_assoc}
use Rattle.std.specs.List.{list_any}
use Rattle.std.specs.Str.{bytes_eq}
use Rattle.std.proofs.lemmas.List.{length-map, length_push}
use Rattle.std.proofs.lemmas.Slice.Eq.{bytes_eq-Decides}
use Rattle.text_core.specs.declared.place.Refusal.{Refusal}
use Rattle.name_maps.specs.Names.{place_of}
use Rattle.name_maps.specs.laws.Places.{placed}
use Rattle.moxi_sexpr.specs.Tree.{Trees}
use Rattle.moxi_terms.specs.View.{ScopeState}
use Rattle.moxi_terms.specs.declared.data.Sort.{Sort}
use Rattle.moxi_term_reading.specs.declared.locals.Local.{Local}
use Rattle.moxi_term_reading.specs.Finding.{first_of}
use Rattle.moxi_scripts.specs.declared.parts.Command.{Command}
use Rattle.moxi_scripts.specs.declared.parts.Declared.{Declared}
use Rattle.moxi_scripts.specs.declared.parts.Lists.{Lists}
use Rattle.moxi_scripts.specs.declared.parts.Turn.TheVariants.{AtKeyword}
use Rattle.moxi_scripts.specs.Collecting.{also, fails_if}
use Rattle.moxi_scripts.specs.Entries.{found_sort, locals_among, locals_found, names_after, names_with, twice_failures}
use Rattle.moxi_scripts.specs.Lists.{all_entries, are_shaped, possible_entries, text_entries}
use Rattle.moxi_attributes.specs.laws.Collecting.{also_none}
use Rattle.moxi_declarations.specs.Once.{locals_listed}
use Rattle.moxi_scripts.specs.laws.WholeNames.{or_parts}

abbrev local : List ℕ → Option Sort → Local
local name sort = record { name = name; sort = sort }

-- names are no more than what they are of
most_step : (names : List (List ℕ)) (d : Declared) (ds : List Declared) (b : Bool) → length (names_after (names ++ d.name ∷ []) ds) ≤ length (names ++ d.name ∷ []) + length ds
    → length (names_after names ds) ≤ length names + length ds → length (names_after (cond b (names ++ d.name ∷ []) names) ds) ≤ length names + suc (length ds)
most_step names d ds true h g = omega (arith, h, length_push names d.name)
most_step names d ds false h g = omega (arith, g)

most : (names : List (List ℕ)) (ds : List Declared) → length (names_after names ds) ≤ length names + length ds
most names [] = omega arith
most names (d ∷ ds) = most_step names d ds (is_none (place_of names d.name)) (most (names ++ d.name ∷ []) ds) (most names ds)

not_so : (b : Bool) → not b ≡ true → b ≡ false
not_so true h = sym h
not_so false h = refl

fresh_head : (names : List (List ℕ)) (d : Declared) (ds : List Declared) → length (names_after names (d ∷ ds)) ≡ length names + suc (length ds)
    → (list_any (bytes_eq d.name) names ≡ false) × (length (names_after (names ++ d.name ∷ []) ds) ≡ length (names ++ d.name ∷ []) + length ds)
fresh_head names d ds h = go (is_none (place_of names d.name)) refl h
  where
    go : (b : Bool) → is_none (place_of names d.name) ≡ b → length (names_after (cond b (names ++ d.name ∷ []) names) ds) ≡ length names + suc (length ds)
        → (list_any (bytes_eq d.name) names ≡ false) × (length (names_after (names ++ d.name ∷ []) ds) ≡ length (names ++ d.name ∷ []) + length ds)
    go true e h = (not_so _ (sym (placed names d.name) ∙ e), omega (arith, h, length_push names d.name))
    go false e h = absurd (omega (arith, h, most names ds))

abbrev name_of : Local → List ℕ
name_of x = x.name

-- what is behind other names is found
found_behind : (n : ℕ) (seen more : List Local) (x : Local) → list_any (bytes_eq x.name) (map name_of seen) ≡ false → found_sort (first_of n (seen ++ x ∷ more) x.name) ≡ x.sort
found_behind n [] more x h =
    ap (λ b. found_sort (cond b (Some (record { number = n; sort = x.sort })) (first_of (suc n) more x.name))) ((bytes_eq-Decides x.name x.name).1 refl)
found_behind n (y ∷ ys) more x h =
    let p = or_parts (bytes_eq x.name y.name) _ h in
    ap (λ b. found_sort (cond b (Some (record { number = n; sort = y.sort })) (first_of (suc n) (ys ++ x ∷ more) x.name))) p.0 ∙ found_behind (suc n) ys more x p.1

names_push : (seen : List Local) (x : Local) → map name_of (seen ++ x ∷ []) ≡ map name_of seen ++ x.name ∷ []
names_push [] x = refl
names_push (y ∷ ys) x = ap (λ ns. y.name ∷ ns) (names_push ys x)

each_found : (seen : List Local) (ds : List Declared) → length (names_after (map name_of seen) ds) ≡ length (map name_of seen) + length ds → locals_found (seen ++ locals_among ds) ds ≡ locals_among ds
each_found seen [] h = refl
each_found seen (d ∷ ds) h =
    let x : Local = local d.name d.sort in
    let f = fresh_head (map name_of seen) d ds h in
    let tail : locals_found ((seen ++ x ∷ []) ++ locals_among ds) ds ≡ locals_among ds =
    each_found (seen ++ x ∷ []) ds (subst (λ ns. length (names_after ns ds) ≡ length ns + length ds) (sym (names_push seen x)) f.1) in
    ap (λ s. local d.name s ∷ locals_found (seen ++ x ∷ locals_among ds) ds) (found_behind 0 seen (locals_among ds) x f.0)
    ∙ ap (λ ls. x ∷ locals_found ls ds) (sym (append_assoc seen (x ∷ []) (locals_among ds)))
    ∙ ap (λ ls. x ∷ ls) tail

-- where no name occurs twice, no test of it fails
none_twice : (names : List (List ℕ)) (ds : List Declared) → length (names_after names ds) ≡ length names + length ds → twice_failures names ds ≡ []
none_twice names [] h = refl
none_twice names (d ∷ ds) h =
    let f = fresh_head names d ds h in
    let e : is_none (place_of names d.name) ≡ true = placed names d.name ∙ ap not f.0 in
    ap (λ b. fails_if (not b) 9 d.place ++ twice_failures (cond b (names ++ d.name ∷ []) names) ds) e ∙ none_twice (names ++ d.name ∷ []) ds f.1

pub once_passes : (text all : List Declared) → text ≡ all → length (names_after [] all) ≡ length all → twice_failures [] text ≡ []
once_passes text all e h = ap (twice_failures []) e ∙ none_twice [] all (let g : length (names_after [] all) ≡ 0 + length all = omega (arith, h) in g)

pub once_found : (s : ScopeState) (l : Lists) (command : Command) (ts : Trees) → are_shaped l ≡ true → text_entries l command AtKeyword ts ≡ all_entries l → length (names_after [] (all_entries l)) ≡ length (all_entries l)
    → locals_among (all_entries l) ≡ locals_listed s l command ts
once_found s l command ts e same h =
    let all = all_entries l in
    sym (ap (λ b. locals_found (locals_among (text_entries l command AtKeyword ts ++ possible_entries s b ts)) (all ++ possible_entries s b ts)) e
    ∙ ap (λ xs. locals_found (locals_among (xs ++ [])) (all ++ [])) same
    ∙ ap (λ xs. locals_found (locals_among xs) xs) (append-nil all)
    ∙ each_found [] all (let g : length (names_after [] all) ≡ 0 + length all = omega (arith, h) in g))

pub also_nothing : (found : Option Refusal) (fs : List Refusal) → fs ≡ [] → found ≡ also found fs
also_nothing found fs e = sym (ap (also found) e ∙ also_none found)

-- NAMES OF VARIABLES, EACH ONCE

abbrev pub names_among : List (List ℕ) → List Local → List (List ℕ)
names_among names [] = names
names_among names (x ∷ xs) = names_among (names_with names x.name) xs

among_push : (names : List (List ℕ)) (xs : List Local) (x : Local) → names_among names (xs ++ x ∷ []) ≡ names_with (names_among names xs) x.name
among_push names [] x = refl
among_push names (y ∷ ys) x = among_push (names_with names y.name) ys x

among_are : (names : List (List ℕ)) (ds : List Declared) → names_after names ds ≡ names_among names (locals_among ds)
among_are names [] = refl
among_are names (d ∷ ds) = among_are (names_with names d.name) ds

or_none : (a : Bool) → (a || false) ≡ a
or_none true = refl
or_none false = refl

or_assoc : (a b c : Bool) → ((a || b) || c) ≡ (a || (b || c))
or_assoc true b c = refl
or_assoc false b c = refl

any_end : (q : List ℕ) (names : List (List ℕ)) (x : List ℕ) → list_any (bytes_eq q) (names ++ x ∷ []) ≡ (list_any (bytes_eq q) names || bytes_eq q x)
any_end q [] x = or_none (bytes_eq q x)
any_end q (n ∷ ns) x = ap (λ b. bytes_eq q n || b) (any_end q ns x) ∙ sym (or_assoc (bytes_eq q n) (list_any (bytes_eq q) ns) (bytes_eq q x))

is_so : (b : Bool) → not b ≡ false → b ≡ true
is_so true h = refl
is_so false h = sym h

any_with : (q : List ℕ) (names : List (List ℕ)) (x : List ℕ) → list_any (bytes_eq q) (names_with names x) ≡ (list_any (bytes_eq q) names || bytes_eq q x)
any_with q names x = go (is_none (place_of names x)) refl
  where
    there : (b : Bool) → bytes_eq q x ≡ b → list_any (bytes_eq x) names ≡ true → list_any (bytes_eq q) names ≡ (list_any (bytes_eq q) names || b)
    there true e h =
        let g : list_any (bytes_eq q) names ≡ true = ap (λ n. list_any (bytes_eq n) names) ((bytes_eq-Decides q x).0 e) ∙ h in
        g ∙ sym (ap (λ b. b || true) g)
    there false e h = sym (or_none (list_any (bytes_eq q) names))

    go : (b : Bool) → is_none (place_of names x) ≡ b → list_any (bytes_eq q) (names_with names x) ≡ (list_any (bytes_eq q) names || bytes_eq q x)
    go true e = ap (λ b. list_any (bytes_eq q) (cond b (names ++ x ∷ []) names)) e ∙ any_end q names x
    go false e = ap (λ b. list_any (bytes_eq q) (cond b (names ++ x ∷ []) names)) e ∙ there (bytes_eq q x) refl (is_so _ (sym (placed names x) ∙ e))

any_among : (q : List ℕ) (names : List (List ℕ)) (xs : List Local) → list_any (bytes_eq q) (names_among names xs) ≡ (list_any (bytes_eq q) names || list_any (bytes_eq q) (map name_of xs))
any_among q names [] = sym (or_none (list_any (bytes_eq q) names))
any_among q names (x ∷ xs) =
    any_among q (names_with names x.name) xs ∙ ap (λ b. b || list_any (bytes_eq q) (map name_of xs)) (any_with q names x.name)
    ∙ or_assoc (list_any (bytes_eq q) names) (bytes_eq q x.name) (list_any (bytes_eq q) (map name_of xs))

first_any : (n : ℕ) (xs : List Local) (q : List ℕ) → is_none (first_of n xs q) ≡ not (list_any (bytes_eq q) (map name_of xs))
first_any n [] q = refl
first_any n (x ∷ xs) q = go (bytes_eq q x.name) (first_any (suc n) xs q)
  where
    go : (b : Bool) → is_none (first_of (suc n) xs q) ≡ not (list_any (bytes_eq q) (map name_of xs)) → is_none (cond b (Some (record { number = n; sort = x.sort })) (first_of (suc n) xs q)) ≡ not (b || list_any (bytes_eq q) (map name_of xs))
    go true h = refl
    go false h = h

named_first : (xs : List Local) (q : List ℕ) → is_none (first_of 0 xs q) ≡ is_none (place_of (names_among [] xs) q)
named_first xs q = first_any 0 xs q ∙ ap not (sym (any_among q [] xs)) ∙ sym (placed (names_among [] xs) q)

-- no name occurs twice
abbrev pub AreOnce : List Local → Type 0
AreOnce xs = length (names_among [] xs) ≡ length xs

pub once_more : (xs : List Local) (x : Local) → is_none (first_of 0 xs x.name) ≡ true → AreOnce xs → AreOnce (xs ++ x ∷ [])
once_more xs x e h =
    let names = names_among [] xs in
    let more : names_among [] (xs ++ x ∷ []) ≡ names ++ x.name ∷ [] = among_push [] xs x ∙ ap (λ b. cond b (names ++ x.name ∷ []) names) (sym (named_first xs x.name) ∙ e) in
    omega (arith, ap length more, h, length_push names x.name, length_push xs x)

pub once_all : (ds : List Declared) (xs : List Local) → xs ≡ locals_among ds → AreOnce xs → length (names_after [] ds) ≡ length ds
once_all ds xs e h = ap length (among_are [] ds) ∙ subst AreOnce e h ∙ length-map ds _
