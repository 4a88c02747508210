-- Variables in the order of the text: where no name is declared twice in it, none is in the order of numbers, and each name has in
-- the text the sort of its own variable.
use Rattle.std.proofs.Common.{◌≡◌, ℕ, suc, ◌+◌, ◌≤◌, Bool, true, false, cond, ◌||◌, Option, None, Some, List, [], ◌∷◌, ◌++◌, map, refl, sym, ap, subst, ◌∙◌, arith, append_assoc, append-nil}
use Rattle.std.specs.List.{AllByRecursion, list_any}
use Rattle.std.specs.Str.{bytes_eq}
use Rattle.std.proofs.lemmas.Slice.Eq.{bytes_eq-Decides}
use Rattle.name_maps.specs.Names.{are_fresh}
use Rattle.moxi_sexpr.specs.Tree.{Tree, Trees, no_trees, tree}
use Rattle.moxi_terms.specs.View.{ScopeState}
use Rattle.moxi_term_reading.specs.Finding.{Found, first_of}
use Rattle.moxi_scripts.specs.declared.parts.Command.{Command}
use Rattle.moxi_scripts.specs.declared.parts.Declared.{Declared}
use Rattle.moxi_scripts.specs.declared.parts.Key.TheVariants as keys
use Rattle.moxi_scripts.specs.declared.parts.Lists.{Lists}
use Rattle.moxi_scripts.specs.declared.parts.Turn.{Turn}
use Rattle.moxi_scripts.specs.declared.parts.Turn.TheVariants.{AtKeyword, Behind, Passing}
use Rattle.moxi_scripts.specs.Attributes.{turn_after, value_of}
use Rattle.moxi_scripts.specs.Entries.{found_sort, locals_among, locals_found, sort_among}
use Rattle.moxi_scripts.specs.Lists.{all_entries, are_shaped, listed_entries, lists_in, possible_among, text_entries, value_at}
use Rattle.moxi_scripts.specs.Systems.{locals_of, text_entries_in}
use Rattle.moxi_scripts.specs.laws.WholeNames.{Absent, fresh_first, fresh_more, or_parts}
use Rattle.moxi_scripts.specs.laws.WholeParts.{all_append, all_parts, map_append}

abbrev pub names_declared : List Declared → List (List ℕ)
names_declared ds = map (λ (d : Declared). d.name) ds

-- HOW OFTEN A NAME STANDS AMONG OTHERS

abbrev pub one_if : Bool → ℕ
one_if true = 1
one_if false = 0

abbrev pub times : List ℕ → List (List ℕ) → ℕ
times name [] = 0
times name (x ∷ xs) = one_if (bytes_eq name x) + times name xs

times_append : (name : List ℕ) (xs ys : List (List ℕ)) → times name (xs ++ ys) ≡ times name xs + times name ys
times_append name [] ys = omega arith
times_append name (x ∷ xs) ys = let ih : times name (xs ++ ys) ≡ times name xs + times name ys = times_append name xs ys in omega (arith, ih)

absent_times : (name : List ℕ) (xs : List (List ℕ)) → Absent xs name → times name xs ≡ 0
absent_times name [] h = refl
absent_times name (x ∷ xs) h =
    let p = or_parts (bytes_eq name x) _ h in
    let e : one_if (bytes_eq name x) ≡ 0 = ap one_if p.0 in
    let ih : times name xs ≡ 0 = absent_times name xs p.1 in
    omega (arith, e, ih)

times_absent : (name : List ℕ) (xs : List (List ℕ)) → times name xs ≤ 0 → Absent xs name
times_absent name [] h = refl
times_absent name (x ∷ xs) h = by_test (bytes_eq name x) h (times_absent name xs)
  where
    by_test : (b : Bool) → one_if b + times name xs ≤ 0 → (times name xs ≤ 0 → Absent xs name) → (b || list_any (bytes_eq name) xs) ≡ false
    by_test true h f = absurd (omega arith)
    by_test false h f = f (omega arith)

same : (x : List ℕ) → bytes_eq x x ≡ true
same x = (bytes_eq-Decides x x).1 refl

-- a name that stands once at most before the others stands once at most among all
fresh_times : (before names : List (List ℕ)) (name : List ℕ) → are_fresh before names ≡ true → times name before ≤ 1 → times name (before ++ names) ≤ 1
fresh_times before [] name h l = subst (λ ns. times name ns ≤ 1) (sym (append-nil before)) l
fresh_times before (x ∷ xs) name h l =
    let p = fresh_first before x xs h in
    let e : times name (before ++ x ∷ []) ≡ times name before + (one_if (bytes_eq name x) + 0) = times_append name before (x ∷ []) in
    subst (λ ns. times name ns ≤ 1) (append_assoc before (x ∷ []) xs) (fresh_times (before ++ x ∷ []) xs name p.1 (by_test (bytes_eq name x) refl e p.0))
  where
    by_test : (b : Bool) → bytes_eq name x ≡ b → times name (before ++ x ∷ []) ≡ times name before + (one_if b + 0) → Absent before x → times name (before ++ x ∷ []) ≤ 1
    by_test true is e a =
        let one : name ≡ x = (bytes_eq-Decides name x).0 is in
        let none : times name before ≡ 0 = absent_times name before (subst (Absent before) (sym one) a) in
        omega (arith, e, none)
    by_test false is e a = omega (arith, e, l)

times_fresh : (before names : List (List ℕ)) → ((name : List ℕ) → times name (before ++ names) ≤ 1) → are_fresh before names ≡ true
times_fresh before [] f = refl
times_fresh before (x ∷ xs) f =
    let e : times x (before ++ x ∷ xs) ≡ times x before + (one_if (bytes_eq x x) + times x xs) = times_append x before (x ∷ xs) in
    let one : one_if (bytes_eq x x) ≡ 1 = ap one_if (same x) in
    let l : times x (before ++ x ∷ xs) ≤ 1 = f x in
    let none : times x before ≤ 0 = omega (arith, e, one, l) in
    fresh_more before x xs (times_absent x before none) (times_fresh (before ++ x ∷ []) xs (λ name. subst (λ ns. times name ns ≤ 1) (sym (append_assoc before (x ∷ []) xs)) (f name)))

-- THE TEXT HOLDS EACH LIST

-- what is counted where a list is there
abbrev there : Option Tree → ℕ → ℕ
there None n = 0
there (Some t) n = n

module _ (l : Lists) (command : Command) where
  module _ (name : List ℕ) where
    abbrev count : List Declared → ℕ
    count ds = times name (names_declared ds)

    abbrev AreCounted : Turn → Trees → Type 0
    AreCounted turn ts =
        there (value_of command keys.Input turn ts) (count l.inputs.entries) + (there (value_of command keys.Output turn ts) (count l.outputs.entries) + there (value_of command keys.Local turn ts) (count l.locals.entries))
        ≤ count (text_entries l command turn ts)

    count_append : (xs ys : List Declared) → count (xs ++ ys) ≡ count xs + count ys
    count_append xs ys = ap (times name) (map_append (λ (d : Declared). d.name) xs ys) ∙ times_append name (names_declared xs) (names_declared ys)

    at_most : (o : Option Tree) (n : ℕ) → there o n ≤ n
    at_most None n = omega arith
    at_most (Some t) n = omega arith

    counted : (turn : Turn) (ts : Trees) → AreCounted turn ts
    counted turn no_trees = omega arith
    counted AtKeyword (tree t ts) = counted (turn_after command AtKeyword t) ts
    counted Passing (tree t ts) = counted (turn_after command Passing t) ts
    counted (Behind keys.Input) (tree t ts) =
        let rest = counted AtKeyword ts in
        let e : count (l.inputs.entries ++ text_entries l command AtKeyword ts) ≡ count l.inputs.entries + count (text_entries l command AtKeyword ts) = count_append l.inputs.entries (text_entries l command AtKeyword ts) in
        omega (arith, e, rest)
    counted (Behind keys.Output) (tree t ts) =
        let rest = counted AtKeyword ts in
        let e : count (l.outputs.entries ++ text_entries l command AtKeyword ts) ≡ count l.outputs.entries + count (text_entries l command AtKeyword ts) = count_append l.outputs.entries (text_entries l command AtKeyword ts) in
        omega (arith, e, rest)
    counted (Behind keys.Local) (tree t ts) =
        let rest = counted AtKeyword ts in
        let e : count (l.locals.entries ++ text_entries l command AtKeyword ts) ≡ count l.locals.entries + count (text_entries l command AtKeyword ts) = count_append l.locals.entries (text_entries l command AtKeyword ts) in
        omega (arith, e, rest)
    counted (Behind keys.Init) (tree t ts) = counted AtKeyword ts
    counted (Behind keys.Trans) (tree t ts) = counted AtKeyword ts
    counted (Behind keys.Inv) (tree t ts) = counted AtKeyword ts
    counted (Behind keys.Subsystem) (tree t ts) = counted AtKeyword ts
    counted (Behind keys.Assumption) (tree t ts) = counted AtKeyword ts
    counted (Behind keys.Current) (tree t ts) = counted AtKeyword ts
    counted (Behind keys.Reachable) (tree t ts) = counted AtKeyword ts
    counted (Behind keys.Query) (tree t ts) = counted AtKeyword ts
    counted (Behind keys.Queries) (tree t ts) = counted AtKeyword ts

  -- what holds of the variables in the text holds of those of a list that is there
  module _ (P : Declared → Type 0) where
    abbrev Each : Option Tree → List Declared → Type 0
    Each None ds = Unit {0}
    Each (Some t) ds = AllByRecursion P ds

    abbrev EachThere : Turn → Trees → Type 0
    EachThere turn ts = Each (value_of command keys.Input turn ts) l.inputs.entries × Each (value_of command keys.Output turn ts) l.outputs.entries × Each (value_of command keys.Local turn ts) l.locals.entries

    held : (turn : Turn) (ts : Trees) → AllByRecursion P (text_entries l command turn ts) → EachThere turn ts
    held turn no_trees a = (tt, tt, tt)
    held AtKeyword (tree t ts) a = held (turn_after command AtKeyword t) ts a
    held Passing (tree t ts) a = held (turn_after command Passing t) ts a
    held (Behind keys.Input) (tree t ts) a =
        let p = all_parts P l.inputs.entries (text_entries l command AtKeyword ts) a in
        let rest = held AtKeyword ts p.1 in
        (p.0, rest.1, rest.2)
    held (Behind keys.Output) (tree t ts) a =
        let p = all_parts P l.outputs.entries (text_entries l command AtKeyword ts) a in
        let rest = held AtKeyword ts p.1 in
        (rest.0, p.0, rest.2)
    held (Behind keys.Local) (tree t ts) a =
        let p = all_parts P l.locals.entries (text_entries l command AtKeyword ts) a in
        let rest = held AtKeyword ts p.1 in
        (rest.0, rest.1, p.0)
    held (Behind keys.Init) (tree t ts) a = held AtKeyword ts a
    held (Behind keys.Trans) (tree t ts) a = held AtKeyword ts a
    held (Behind keys.Inv) (tree t ts) a = held AtKeyword ts a
    held (Behind keys.Subsystem) (tree t ts) a = held AtKeyword ts a
    held (Behind keys.Assumption) (tree t ts) a = held AtKeyword ts a
    held (Behind keys.Current) (tree t ts) a = held AtKeyword ts a
    held (Behind keys.Reachable) (tree t ts) a = held AtKeyword ts a
    held (Behind keys.Query) (tree t ts) a = held AtKeyword ts a
    held (Behind keys.Queries) (tree t ts) a = held AtKeyword ts a

-- THE ORDER OF NUMBERS

module _ (s : ScopeState) (command : Command) (ts : Trees) where
  listed_count : (name : List ℕ) (o : Option Tree) → times name (names_declared (listed_entries s o)) ≤ there o (times name (names_declared (listed_entries s o)))
  listed_count name None = omega arith
  listed_count name (Some t) = omega arith

  all_count : (name : List ℕ) → times name (names_declared (all_entries (lists_in s command ts))) ≤ times name (names_declared (text_entries_in s command ts))
  all_count name =
      let l = lists_in s command ts in
      let i = l.inputs.entries in
      let o = l.outputs.entries in
      let v = l.locals.entries in
      let e : times name (names_declared ((i ++ o) ++ v)) ≡ times name (names_declared (i ++ o)) + times name (names_declared v) = count_append l command name (i ++ o) v in
      let f : times name (names_declared (i ++ o)) ≡ times name (names_declared i) + times name (names_declared o) = count_append l command name i o in
      let all = counted l command name AtKeyword ts in
      let x = listed_count name (value_at command keys.Input ts) in
      let y = listed_count name (value_at command keys.Output ts) in
      let z = listed_count name (value_at command keys.Local ts) in
      omega (arith, e, f, all, x, y, z)

  -- names that differ in the order of the text differ in the order of numbers
  pub all_fresh : are_fresh [] (names_declared (text_entries_in s command ts)) ≡ true → are_fresh [] (names_declared (all_entries (lists_in s command ts))) ≡ true
  all_fresh h =
      times_fresh [] (names_declared (all_entries (lists_in s command ts)))
      (λ name. let a = all_count name in let b = fresh_times [] (names_declared (text_entries_in s command ts)) name h (omega arith) in omega (arith, a, b))

  listed_each : (P : Declared → Type 0) (o : Option Tree) → Each (lists_in s command ts) command P o (listed_entries s o) → AllByRecursion P (listed_entries s o)
  listed_each P None a = tt
  listed_each P (Some t) a = a

  all_each : (P : Declared → Type 0) → AllByRecursion P (text_entries_in s command ts) → AllByRecursion P (all_entries (lists_in s command ts))
  all_each P a =
      let l = lists_in s command ts in
      let h = held l command P AtKeyword ts a in
      all_append P (l.inputs.entries ++ l.outputs.entries) l.locals.entries
      (all_append P l.inputs.entries l.outputs.entries (listed_each P (value_at command keys.Input ts) h.0) (listed_each P (value_at command keys.Output ts) h.1)) (listed_each P (value_at command keys.Local ts) h.2)

-- SORTS

sort_behind : (n : ℕ) (front : List Declared) (d : Declared) (rest : List Declared) → Absent (names_declared front) d.name → found_sort (first_of n (locals_among (front ++ d ∷ rest)) d.name) ≡ d.sort
sort_behind n [] d rest h = ap (λ b. found_sort (cond b (Some (let x : Found = record { number = n; sort = d.sort } in x)) (first_of (suc n) (locals_among rest) d.name))) (same d.name)
sort_behind n (x ∷ front) d rest h =
    let p = or_parts (bytes_eq d.name x.name) _ h in
    ap (λ b. found_sort (cond b (Some (let y : Found = record { number = n; sort = x.sort } in y)) (first_of (suc n) (locals_among (front ++ d ∷ rest)) d.name))) p.0 ∙ sort_behind (suc n) front d rest p.1

-- each has in the text its own sort
abbrev HasItsSort : List Declared → Declared → Type 0
HasItsSort text d = sort_among (locals_among text) d.name ≡ d.sort

each_sort : (front ds text : List Declared) → front ++ ds ≡ text → are_fresh (names_declared front) (names_declared ds) ≡ true → AllByRecursion (HasItsSort text) ds
each_sort front [] text e h = tt
each_sort front (d ∷ ds) text e h =
    let p = fresh_first (names_declared front) d.name (names_declared ds) h in
    let next : are_fresh (names_declared (front ++ d ∷ [])) (names_declared ds) ≡ true = ap (λ ns. are_fresh ns (names_declared ds)) (map_append (λ (d : Declared). d.name) front (d ∷ [])) ∙ p.1 in
    (subst (λ t. HasItsSort t d) e (sort_behind 0 front d ds p.0), each_sort (front ++ d ∷ []) ds text (append_assoc front (d ∷ []) ds ∙ e) next)

found_same : (text ds : List Declared) → AllByRecursion (HasItsSort text) ds → locals_found (locals_among text) ds ≡ locals_among ds
found_same text [] a = refl
found_same text (d ∷ ds) a = ap (λ o. record { name = d.name; sort = o } ∷ locals_found (locals_among text) ds) a.0 ∙ ap (λ ls. record { name = d.name; sort = d.sort } ∷ ls) (found_same text ds a.1)

-- where the lists have their shape and no name is declared twice, names are found among the variables
pub locals_are : (s : ScopeState) (command : Command) (ts : Trees) → are_shaped (lists_in s command ts) ≡ true → are_fresh [] (names_declared (text_entries_in s command ts)) ≡ true
    → locals_of s command ts ≡ locals_among (all_entries (lists_in s command ts))
locals_are s command ts shaped h =
    let text = text_entries_in s command ts in
    let all = all_entries (lists_in s command ts) in
    ap (λ b. locals_found (locals_among (text ++ cond b [] (possible_among s ts))) (all ++ cond b [] (possible_among s ts))) shaped
    ∙ ap (λ t. locals_found (locals_among t) (all ++ [])) (append-nil text) ∙ ap (locals_found (locals_among text)) (append-nil all)
    ∙ found_same text all (all_each s command ts (HasItsSort text) (each_sort [] text text refl h))
