-- The first and the last of a name.
use Rattle.std.proofs.Common.{◌≡◌, ℕ, zero, suc, ◌+◌, ◌-◌, ◌<◌, ◌≤◌, ◌^◌, Bool, true, false, cond, List, [], ◌∷◌, ◌++◌, length, take, Option, None, Some, is_none, refl, sym, ap, ◌∙◌, subst, arith}
use Rattle.std.specs.Prelude.{slice_get, slice_index_or}
use Rattle.std.specs.Str.{bytes_eq}
use Rattle.std.proofs.lemmas.Slice.Eq.{bytes_eq-Decides}
use Rattle.std.proofs.lemmas.Option.{same_Some, none-some, slice_get_within}
use Rattle.std.proofs.lemmas.List.{take-append-le, length-append}
use Rattle.moxi_terms.specs.declared.data.Sort.{Sort}
use Rattle.moxi_term_reading.specs.declared.locals.Local.{Local}
use Rattle.moxi_terms.specs.Names.{or_else}
use Rattle.name_maps.specs.Names.{place_of}
use Rattle.moxi_term_reading.specs.Finding.{Found, first_of, IsIndexed, found_number, number_at, name_at}
use Rattle.moxi_terms.proofs.PlaceLaws.{place_append, place_there, place_within, index_read, get_end, take_whole, length_taken, get_kept}

pub name_there : (xs : List (List ℕ)) (q : List ℕ) (k : ℕ) → place_of xs q ≡ Some k → name_at xs k ≡ q
name_there xs q k e = index_read xs k q [] (place_there xs q k e)

abbrev pub found_at : ℕ → Option Sort → Found
found_at n s = record { number = n; sort = s }

first_more : (n m : ℕ) (s t : Option Sort) (b c : Bool) (o r : Option Found) → o ≡ or_else r (cond c (Some (found_at (suc n + m) t)) None)
    → cond b (Some (found_at n s)) o ≡ or_else (cond b (Some (found_at n s)) r) (cond c (Some (found_at (n + suc m) t)) None)
first_more n m s t true c o r e = refl
first_more n m s t false c o r e = e ∙ ap (λ k. or_else r (cond c (Some (found_at k t)) None)) (let e : suc n + m ≡ n + suc m = omega arith in e)

first_append : (n : ℕ) (xs : List Local) (x : Local) (q : List ℕ) → first_of n (xs ++ x ∷ []) q ≡ or_else (first_of n xs q) (cond (bytes_eq q x.name) (Some (found_at (n + length xs) x.sort)) None)
first_append n [] x q = ap (λ k. cond (bytes_eq q x.name) (Some (found_at k x.sort)) None) (let e : n ≡ n + 0 = omega arith in e)
first_append n (y ∷ ys) x q = first_more n (length ys) y.sort x.sort (bytes_eq q y.name) (bytes_eq q x.name) (first_of (suc n) (ys ++ x ∷ []) q) (first_of (suc n) ys q) (first_append (suc n) ys x q)

-- a variable of the list that was found
abbrev pub There : ℕ → List Local → Found → Type 0
There n xs f = (k : ℕ) × (x : Local) × (f.number ≡ n + k) × (slice_get xs k ≡ Some x) × (f.sort ≡ x.sort)

there_step : (n : ℕ) (x : Local) (xs : List Local) (f : Found) (o : Option Found) (b : Bool) → (o ≡ Some f → There (suc n) xs f) → cond b (Some (found_at n x.sort)) o ≡ Some f → There n (x ∷ xs) f
there_step n x xs f o true ih e =
    let s = same_Some (found_at n x.sort) f e in
    (0, x, (let h : n ≡ f.number = ap (λ (g : Found). g.number) s in omega arith), refl, sym (ap (λ (g : Found). g.sort) s))
there_step n x xs f o false ih e = let r = ih e in (suc r.0, r.1, omega (arith, r.2), r.3, r.4)

-- the sort of what was found is at its number
pub first_there : (n : ℕ) (xs : List Local) (q : List ℕ) (f : Found) → first_of n xs q ≡ Some f → There n xs f
first_there n [] q f e = absurd (none-some f e)
first_there n (x ∷ xs) q f e = there_step n x xs f (first_of (suc n) xs q) (bytes_eq q x.name) (λ e. first_there (suc n) xs q f e) e

-- junk behind the numbers of the names changes nothing
front_number : (names : List (List ℕ)) (firsts ys : List ℕ) (q : List ℕ) (o : Option ℕ) → length names ≤ length firsts → place_of names q ≡ o → number_at (take (length names) firsts ++ ys) (place_of names q) ≡ number_at firsts (place_of names q)
front_number names firsts ys q None l e = ap (number_at (take (length names) firsts ++ ys)) e ∙ sym (ap (number_at firsts) e)
front_number names firsts ys q (Some k) l e =
    ap (number_at (take (length names) firsts ++ ys)) e ∙ get_kept (length names) firsts ys k l (place_within names q k e) ∙ sym (ap (number_at firsts) e)

pub indexed_front : (locals : List Local) (names : List (List ℕ)) (firsts ys : List ℕ) → IsIndexed locals names firsts → IsIndexed locals names (take (length names) firsts ++ ys)
indexed_front locals names firsts ys i =
    let l : length names ≤ length firsts = omega (arith, i.long) in
    record {
      first = λ q. front_number names firsts ys q (place_of names q) l refl ∙ i.first q;
      long = omega (arith, length-append (take (length names) firsts) ys, length_taken (length names) firsts l);
      few = i.few;
    }

none_within : {A : Type 0} (xs : List A) (k : ℕ) → k < length xs → slice_get xs k ≡ None → ⊥
none_within [] k h e = absurd (omega arith)
none_within (x ∷ xs) zero h e = none-some x (sym e)
none_within (x ∷ xs) (suc k) h e = none_within xs k (omega arith) e

some_found : (firsts : List ℕ) (k : ℕ) (o : Option Found) → k < length firsts → slice_get firsts k ≡ found_number o → (f : Found) × (o ≡ Some f) × (slice_get firsts k ≡ Some f.number)
some_found firsts k None l e = absurd (none_within firsts k l e)
some_found firsts k (Some f) l e = (f, refl, e)

none_found : (o : Option Found) → None ≡ found_number o → o ≡ None
none_found None h = refl
none_found (Some f) h = absurd (none-some f.number h)

-- a name that has a place is found among the variables
first_some : (locals : List Local) (names : List (List ℕ)) (firsts : List ℕ) (q : List ℕ) (k : ℕ) → IsIndexed locals names firsts → place_of names q ≡ Some k
    → (f : Found) × (first_of 0 locals q ≡ Some f) × (slice_get firsts k ≡ Some f.number)
first_some locals names firsts q k i e =
    let h : k < length names = place_within names q k e in
    let l : length names < suc (length firsts) = i.long in
    some_found firsts k (first_of 0 locals q) (omega arith) (sym (ap (number_at firsts) e) ∙ i.first q)

first_none : (locals : List Local) (names : List (List ℕ)) (firsts : List ℕ) (q : List ℕ) → IsIndexed locals names firsts → place_of names q ≡ None → first_of 0 locals q ≡ None
first_none locals names firsts q i e = none_found (first_of 0 locals q) (sym (ap (number_at firsts) e) ∙ i.first q)

-- a name has a place where some variable has it
pub indexed_none : (locals : List Local) (names : List (List ℕ)) (firsts : List ℕ) (q : List ℕ) → IsIndexed locals names firsts → is_none (place_of names q) ≡ is_none (first_of 0 locals q)
indexed_none locals names firsts q i = go (place_of names q) refl
  where
    go : (o : Option ℕ) → place_of names q ≡ o → is_none (place_of names q) ≡ is_none (first_of 0 locals q)
    go None e = ap is_none e ∙ sym (ap is_none (first_none locals names firsts q i e))
    go (Some k) e = ap is_none e ∙ sym (ap is_none (first_some locals names firsts q k i e).1)

differ : (names : List (List ℕ)) (q x : List ℕ) (p : ℕ) (b : Bool) → place_of names x ≡ Some p → place_of names q ≡ None → bytes_eq q x ≡ b → b ≡ false
differ names q x p true g h t = absurd (none-some p (sym h ∙ ap (place_of names) ((bytes_eq-Decides q x).0 t) ∙ g))
differ names q x p false g h t = refl

new_number : (n : ℕ) (s : Option Sort) (b : Bool) → found_number (cond b (Some (found_at (0 + n) s)) None) ≡ cond b (Some n) None
new_number n s true = ap Some (let z : 0 + n ≡ n = omega arith in z)
new_number n s false = refl

module _ (locals : List Local) (names : List (List ℕ)) (firsts : List ℕ) (x : Local) (i : IsIndexed locals names firsts) (less : length names ≤ length firsts) where
  abbrev more : List ℕ
  more = take (length names) firsts ++ length locals ∷ []

  abbrev last_one : List ℕ → Option Found
  last_one q = cond (bytes_eq q x.name) (Some (found_at (0 + length locals) x.sort)) None

  -- a name that had a place
  old_number : (q : List ℕ) (k : ℕ) → place_of names q ≡ Some k → slice_get more k ≡ found_number (first_of 0 (locals ++ x ∷ []) q)
  old_number q k h =
      let f = first_some locals names firsts q k i h in
      get_kept (length names) firsts (length locals ∷ []) k less (place_within names q k h) ∙ f.2
      ∙ sym (ap found_number (first_append 0 locals x q ∙ ap (λ o. or_else o (last_one q)) f.1))

  -- a name that had none
  no_number : (q : List ℕ) → place_of names q ≡ None → found_number (first_of 0 (locals ++ x ∷ []) q) ≡ cond (bytes_eq q x.name) (Some (length locals)) None
  no_number q h = ap found_number (first_append 0 locals x q ∙ ap (λ o. or_else o (last_one q)) (first_none locals names firsts q i h)) ∙ new_number (length locals) x.sort (bytes_eq q x.name)

  at_end : (b : Bool) → number_at more (cond b (Some (length names)) None) ≡ cond b (Some (length locals)) None
  at_end true = get_end (take (length names) firsts) (length locals) (length names) (sym (length_taken (length names) firsts less))
  at_end false = refl

  pub fresh_first : (q : List ℕ) (o : Option ℕ) → place_of names q ≡ o → number_at more (place_of (names ++ x.name ∷ []) q) ≡ found_number (first_of 0 (locals ++ x ∷ []) q)
  fresh_first q (Some k) h = ap (number_at more) (place_append names x.name q ∙ ap (λ o. or_else o (cond (bytes_eq q x.name) (Some (length names)) None)) h) ∙ old_number q k h
  fresh_first q None h =
      ap (number_at more) (place_append names x.name q ∙ ap (λ o. or_else o (cond (bytes_eq q x.name) (Some (length names)) None)) h) ∙ at_end (bytes_eq q x.name) ∙ sym (no_number q h)

  pub same_first : (p : ℕ) → place_of names x.name ≡ Some p → (q : List ℕ) (o : Option ℕ) → place_of names q ≡ o → number_at more (place_of names q) ≡ found_number (first_of 0 (locals ++ x ∷ []) q)
  same_first p g q (Some k) h = ap (number_at more) h ∙ old_number q k h
  same_first p g q None h = ap (number_at more) h ∙ sym (no_number q h ∙ ap (λ b. cond b (Some (length locals)) None) (differ names q x.name p (bytes_eq q x.name) g h refl))

-- one more variable
indexed_by : (locals : List Local) (names : List (List ℕ)) (firsts : List ℕ) (x : Local) (fresh : Bool) (o : Option ℕ) → IsIndexed locals names firsts → length locals < 2 ^ 32 - 1 → place_of names x.name ≡ o → fresh ≡ is_none o
    → IsIndexed (locals ++ x ∷ []) (cond fresh (names ++ x.name ∷ []) names) (take (length names) firsts ++ length locals ∷ [])
indexed_by locals names firsts x true o i few h e =
    let less : length names ≤ length firsts = omega (arith, i.long) in
    record {
      first = λ q. fresh_first locals names firsts x i less q (place_of names q) refl;
      long = omega (arith, length-append (take (length names) firsts) (length locals ∷ []), length_taken (length names) firsts less, length-append names (x.name ∷ []));
      few = omega (arith, length-append locals (x ∷ []));
    }
indexed_by locals names firsts x false None i few h e = absurd (cc)
indexed_by locals names firsts x false (Some p) i few h e =
    let less : length names ≤ length firsts = omega (arith, i.long) in
    record {
      first = λ q. same_first locals names firsts x i less p h q (place_of names q) refl;
      long = omega (arith, length-append (take (length names) firsts) (length locals ∷ []), length_taken (length names) firsts less);
      few = omega (arith, length-append locals (x ∷ []));
    }

pub indexed_more : (locals : List Local) (names : List (List ℕ)) (firsts : List ℕ) (x : Local) (fresh : Bool) → IsIndexed locals names firsts → length locals < 2 ^ 32 - 1 → fresh ≡ is_none (place_of names x.name)
    → IsIndexed (locals ++ x ∷ []) (cond fresh (names ++ x.name ∷ []) names) (take (length names) firsts ++ length locals ∷ [])
indexed_more locals names firsts x fresh i few e = indexed_by locals names firsts x fresh (place_of names x.name) i few refl e

pub first_index : (locals : List Local) (names : List (List ℕ)) (firsts : List ℕ) (q : List ℕ) (k : ℕ) → IsIndexed locals names firsts → place_of names q ≡ Some k
    → (f : Found) × (first_of 0 locals q ≡ Some f) × ((d : ℕ) → slice_index_or firsts k d ≡ f.number) × (f.number < length locals) × ((d : Local) → d ≡ slice_index_or locals f.number d → d.sort ≡ f.sort)
first_index locals names firsts q k i e =
    let f = first_some locals names firsts q k i e in
    let r = first_there 0 locals q f.0 f.1 in
    let same : r.0 ≡ f.0.number = omega (arith, r.2) in (
      f.0,
      f.1,
      (λ d. index_read firsts k f.0.number d f.2),
      subst (λ n. n < length locals) same (slice_get_within locals r.0 r.1 r.3),
      (λ d g. ap (λ (x : Local). x.sort) (g ∙ ap (λ n. slice_index_or locals n d) (sym same) ∙ index_read locals r.0 r.1 d r.3) ∙ sym r.4),
    )

-- the names from before, where one more was declared or none
pub kept_names : (names more : List (List ℕ)) (name : List ℕ) (fresh : Bool) (n : ℕ) → more ≡ cond fresh (names ++ name ∷ []) names → n ≡ length names → take n more ≡ names
kept_names names more name fresh n e l = ap (λ k. take k more) l ∙ ap (take (length names)) e ∙ go fresh
  where
    go : (b : Bool) → take (length names) (cond b (names ++ name ∷ []) names) ≡ names
    go true = take-append-le (length names) names (name ∷ []) (omega arith) ∙ take_whole names
    go false = take_whole names
