-- The names that `let`s bind, as a stack.
use Rattle.std.proofs.Common.{◌≡◌, ◌≢◌, ◌⊎◌, ℕ, zero, suc, ◌+◌, ◌<◌, ◌≤◌, Bool, true, false, cond, List, [], ◌∷◌, ◌++◌, length, take, Option, None, Some, set, refl, sym, ap, ◌∙◌, subst, arith, inl, inr}
use Rattle.std.specs.Prelude.{slice_get, slice_index_or}
use Rattle.std.specs.List.{AllByRecursion}
use Rattle.std.specs.Str.{bytes_eq}
use Rattle.std.proofs.lemmas.Bool.Decides.{eqb_tells}
use Rattle.std.proofs.lemmas.Slice.Eq.{bytes_eq-Decides}
use Rattle.std.proofs.lemmas.Option.{same_Some, none-some, slice_get_within}
use Rattle.std.proofs.lemmas.List.{take-append-le, length-append}
use Rattle.moxi_terms.specs.declared.data.Sort.{Sort}
use Rattle.moxi_term_reading.specs.declared.locals.Local.{Local}
use Rattle.moxi_term_reading.specs.declared.locals.Binding.{Binding}
use Rattle.moxi_terms.specs.Names.{or_else}
use Rattle.name_maps.specs.Names.{place_of}
use Rattle.moxi_term_reading.specs.Finding.{Found, last_of, IsStacked, found_number, name_at, locals_in}
use Rattle.moxi_terms.proofs.PlaceLaws.{place_append, place_within, get_kept, get_front, get_end, length_taken, take_whole, index_read}
use Rattle.moxi_term_reading.proofs.FindingLaws.{name_there, found_at, There}
use Rattle.moxi_terms.proofs.ScopeLaws.{append_cases, take_front}

-- the last of a name, with one more name behind
last_more : (n m : ℕ) (t : Option Sort) (c : Bool) (o r : Option Found) (x : Option Found) → o ≡ cond c (Some (found_at (suc n + m) t)) r → or_else o x ≡ cond c (Some (found_at (n + suc m) t)) (or_else r x)
last_more n m t true o r x e = ap (λ o. or_else o x) e ∙ ap (λ k. Some (found_at k t)) (let e : suc n + m ≡ n + suc m = omega arith in e)
last_more n m t false o r x e = ap (λ o. or_else o x) e

last_first : (n : ℕ) (t : Option Sort) (c : Bool) → cond c (Some (found_at n t)) None ≡ cond c (Some (found_at (n + 0) t)) None
last_first n t c = ap (λ k. cond c (Some (found_at k t)) None) (let e : n ≡ n + 0 = omega arith in e)

pub last_append : (n : ℕ) (xs : List Local) (x : Local) (q : List ℕ) → last_of n (xs ++ x ∷ []) q ≡ cond (bytes_eq q x.name) (Some (found_at (n + length xs) x.sort)) (last_of n xs q)
last_append n [] x q = last_first n x.sort (bytes_eq q x.name)
last_append n (y ∷ ys) x q =
    last_more n (length ys) x.sort (bytes_eq q x.name) (last_of (suc n) (ys ++ x ∷ []) q) (last_of (suc n) ys q) (cond (bytes_eq q y.name) (Some (found_at n y.sort)) None) (last_append (suc n) ys x q)

head_there : (n : ℕ) (x : Local) (xs : List Local) (f : Found) (b : Bool) → cond b (Some (found_at n x.sort)) None ≡ Some f → There n (x ∷ xs) f
head_there n x xs f true e =
    let s = same_Some (found_at n x.sort) f e in
    (0, x, (let h : n ≡ f.number = ap (λ (g : Found). g.number) s in omega arith), refl, sym (ap (λ (g : Found). g.sort) s))
head_there n x xs f false e = absurd (none-some f e)

last_step : (n : ℕ) (x : Local) (xs : List Local) (f : Found) (o : Option Found) (b : Bool) → ((g : Found) → o ≡ Some g → There (suc n) xs g) → or_else o (cond b (Some (found_at n x.sort)) None) ≡ Some f → There n (x ∷ xs) f
last_step n x xs f (Some g) b ih e = let r = ih f (ap Some (same_Some g f e)) in (suc r.0, r.1, omega (arith, r.2), r.3, r.4)
last_step n x xs f None b ih e = head_there n x xs f b e

pub last_there : (n : ℕ) (xs : List Local) (q : List ℕ) (f : Found) → last_of n xs q ≡ Some f → There n xs f
last_there n [] q f e = absurd (none-some f e)
last_there n (x ∷ xs) q f e = last_step n x xs f (last_of (suc n) xs q) (bytes_eq q x.name) (λ g h. last_there (suc n) xs q g h) e

-- a list with another element
get_set_same : {A : Type 0} (xs : List A) (k : ℕ) (x : A) → k < length xs → slice_get (set xs k x) k ≡ Some x
get_set_same [] k x h = absurd (omega arith)
get_set_same (y ∷ ys) zero x h = refl
get_set_same (y ∷ ys) (suc k) x h = get_set_same ys k x (omega arith)

get_set_other : {A : Type 0} (xs : List A) (k j : ℕ) (x : A) → j ≢ k → slice_get (set xs k x) j ≡ slice_get xs j
get_set_other [] k j x h = refl
get_set_other (y ∷ ys) zero zero x h = absurd (h refl)
get_set_other (y ∷ ys) zero (suc j) x h = refl
get_set_other (y ∷ ys) (suc k) zero x h = refl
get_set_other (y ∷ ys) (suc k) (suc j) x h = get_set_other ys k j x (λ e. h (ap suc e))

length_set : {A : Type 0} (xs : List A) (k : ℕ) (x : A) → length (set xs k x) ≡ length xs
length_set [] k x = refl
length_set (y ∷ ys) zero x = refl
length_set (y ∷ ys) (suc k) x = ap suc (length_set ys k x)

-- the names of bindings are among the names
abbrev pub ArePlaced : List (List ℕ) → List Binding → Type 0
ArePlaced names bs = AllByRecursion (λ (b : Binding). place_of names (name_at names b.key) ≡ Some b.key) bs

placed_append : (names : List (List ℕ)) (bs : List Binding) (b : Binding) → ArePlaced names bs → place_of names (name_at names b.key) ≡ Some b.key → ArePlaced names (bs ++ b ∷ [])
placed_append names [] b p h = (h, tt)
placed_append names (c ∷ cs) b p h = (p.0, placed_append names cs b p.1 h)

placed_front : (names : List (List ℕ)) (bs : List Binding) (b : Binding) → ArePlaced names (bs ++ b ∷ []) → ArePlaced names bs × (place_of names (name_at names b.key) ≡ Some b.key)
placed_front names [] b p = (tt, p.0)
placed_front names (c ∷ cs) b p = let r = placed_front names cs b p.1 in ((p.0, r.0), r.1)

-- with one more name, the names from before stay
name_stays : (names : List (List ℕ)) (x : List ℕ) (k : ℕ) → k < length names → name_at (names ++ x ∷ []) k ≡ name_at names k
name_stays [] x k h = absurd (omega arith)
name_stays (y ∷ ys) x zero h = refl
name_stays (y ∷ ys) x (suc k) h = name_stays ys x k (omega arith)

place_stays : (names : List (List ℕ)) (x q : List ℕ) (k : ℕ) → place_of names q ≡ Some k → place_of (names ++ x ∷ []) q ≡ Some k
place_stays names x q k h = place_append names x q ∙ ap (λ o. or_else o (cond (bytes_eq q x) (Some (length names)) None)) h

pub same_locals : (names : List (List ℕ)) (x : List ℕ) (bs : List Binding) → ArePlaced names bs → locals_in (names ++ x ∷ []) bs ≡ locals_in names bs
same_locals names x [] p = refl
same_locals names x (b ∷ bs) p =
    let h : b.key < length names = place_within names (name_at names b.key) b.key p.0 in
    ap (λ n. record { name = n; sort = b.sort } ∷ locals_in (names ++ x ∷ []) bs) (name_stays names x b.key h)
    ∙ ap (λ ls. record { name = name_at names b.key; sort = b.sort } ∷ ls) (same_locals names x bs p.1)

placed_stays : (names : List (List ℕ)) (x : List ℕ) (bs : List Binding) → ArePlaced names bs → ArePlaced (names ++ x ∷ []) bs
placed_stays names x [] p = tt
placed_stays names x (b ∷ bs) p =
    let h : b.key < length names = place_within names (name_at names b.key) b.key p.0 in
    (ap (place_of (names ++ x ∷ [])) (name_stays names x b.key h) ∙ place_stays names x (name_at names b.key) b.key p.0, placed_stays names x bs p.1)

-- a name without a place is bound nowhere
differs : (names : List (List ℕ)) (q x : List ℕ) (k : ℕ) (b : Bool) → place_of names x ≡ Some k → place_of names q ≡ None → bytes_eq q x ≡ b → b ≡ false
differs names q x k true g h t = absurd (none-some k (sym h ∙ ap (place_of names) ((bytes_eq-Decides q x).0 t) ∙ g))
differs names q x k false g h t = refl

none_more : (n : ℕ) (s : Option Sort) (o : Option Found) (b : Bool) → o ≡ None → b ≡ false → or_else o (cond b (Some (found_at n s)) None) ≡ None
none_more n s o b e f = ap (λ o. or_else o (cond b (Some (found_at n s)) None)) e ∙ ap (λ b. cond b (Some (found_at n s)) None) f

pub unbound : (n : ℕ) (names : List (List ℕ)) (bs : List Binding) (q : List ℕ) → ArePlaced names bs → place_of names q ≡ None → last_of n (locals_in names bs) q ≡ None
unbound n names [] q p h = refl
unbound n names (b ∷ bs) q p h =
    none_more n b.sort (last_of (suc n) (locals_in names bs) q) (bytes_eq q (name_at names b.key)) (unbound (suc n) names bs q p.1 h) (differs names q (name_at names b.key) b.key _ p.0 h refl)

-- the bindings are before all names that were declared later
key_in : (names : List (List ℕ)) (bs : List Binding) (j : ℕ) (b : Binding) → ArePlaced names bs → slice_get bs j ≡ Some b → place_of names (name_at names b.key) ≡ Some b.key
key_in names [] j b p h = absurd (none-some b h)
key_in names (c ∷ cs) zero b p h = subst (λ (b : Binding). place_of names (name_at names b.key) ≡ Some b.key) (same_Some c b h) p.0
key_in names (c ∷ cs) (suc j) b p h = key_in names cs j b p.1 h

module _ (names : List (List ℕ)) (bs : List Binding) (lasts : List (Option ℕ)) (x : List ℕ) (i : IsStacked names bs lasts) (new : place_of names x ≡ None) where
  new_last : (q : List ℕ) (k : ℕ) (o : Option ℕ) (b : Bool) → place_of names q ≡ o → bytes_eq q x ≡ b → or_else o (cond b (Some (length names)) None) ≡ Some k
      → slice_get (take (length names) lasts ++ None ∷ []) k ≡ Some (found_number (last_of 0 (locals_in (names ++ x ∷ []) bs) q))
  new_last q k (Some j) b h t e =
      let same : j ≡ k = same_Some j k e in
      let l : length names ≤ length lasts = omega (arith, i.long) in
      subst (λ k. slice_get (take (length names) lasts ++ None ∷ []) k ≡ Some (found_number (last_of 0 (locals_in (names ++ x ∷ []) bs) q))) same
      (get_kept (length names) lasts (None ∷ []) j l (place_within names q j h) ∙ i.last q j h ∙ ap (λ ls. Some (found_number (last_of 0 ls q))) (sym (same_locals names x bs i.placed)))
  new_last q k None true h t e =
      let l : length names ≤ length lasts = omega (arith, i.long) in
      let same : k ≡ length (take (length names) lasts) = sym (same_Some (length names) k e) ∙ sym (length_taken (length names) lasts l) in
      get_end (take (length names) lasts) None k same
      ∙ ap (λ o. Some (found_number o)) (sym (ap (λ ls. last_of 0 ls q) (same_locals names x bs i.placed) ∙ unbound 0 names bs q i.placed h))
  new_last q k None false h t e = absurd (none-some k e)

  pub stacked_new : IsStacked (names ++ x ∷ []) bs (take (length names) lasts ++ None ∷ [])
  stacked_new =
      let l : length names ≤ length lasts = omega (arith, i.long) in
      let same = same_locals names x bs i.placed in
      record {
        last = λ q k h. new_last q k (place_of names q) (bytes_eq q x) refl refl (sym (place_append names x q) ∙ h);
        placed = placed_stays names x bs i.placed;
        before = λ j b h.
            let g = key_in names bs j b i.placed h in
            i.before j b h ∙ ap (λ ls. found_number (last_of 0 (take j ls) (name_at names b.key))) (sym same)
            ∙ ap (λ n. found_number (last_of 0 (take j (locals_in (names ++ x ∷ []) bs)) n)) (sym (name_stays names x b.key (place_within names (name_at names b.key) b.key g)));
        long = omega (arith, length-append (take (length names) lasts) (None ∷ []), length_taken (length names) lasts l, length-append names (x ∷ []));
      }

pub new_key : (names : List (List ℕ)) (x : List ℕ) → place_of names x ≡ None → place_of (names ++ x ∷ []) x ≡ Some (length names)
new_key names x h =
    place_append names x x ∙ ap (λ o. or_else o (cond (bytes_eq x x) (Some (length names)) None)) h ∙ ap (λ b. cond b (Some (length names)) None) ((bytes_eq-Decides x x).1 refl)

pub locals_append : (names : List (List ℕ)) (bs : List Binding) (b : Binding) → locals_in names (bs ++ b ∷ []) ≡ locals_in names bs ++ record { name = name_at names b.key; sort = b.sort } ∷ []
locals_append names [] b = refl
locals_append names (c ∷ cs) b = ap (λ ls. record { name = name_at names c.key; sort = c.sort } ∷ ls) (locals_append names cs b)

pub locals_long : (names : List (List ℕ)) (bs : List Binding) → length (locals_in names bs) ≡ length bs
locals_long names [] = refl
locals_long names (b ∷ bs) = ap suc (locals_long names bs)

front_of : {A : Type 0} (xs : List A) (x : A) → take (length xs) (xs ++ x ∷ []) ≡ xs
front_of xs x = take-append-le (length xs) xs (x ∷ []) (omega arith) ∙ take_whole xs

-- two names with one place are one
same_name : (names : List (List ℕ)) (p q : List ℕ) (k : ℕ) → place_of names p ≡ Some k → place_of names q ≡ Some k → p ≡ q
same_name names p q k e f = sym (name_there names p k e) ∙ name_there names q k f

other_place : (names : List (List ℕ)) (q x : List ℕ) (j k : ℕ) (b : Bool) → place_of names q ≡ Some j → place_of names x ≡ Some k → j ≢ k → bytes_eq q x ≡ b → b ≡ false
other_place names q x j k true g h n t = absurd (n (same_Some j k (sym g ∙ ap (place_of names) ((bytes_eq-Decides q x).0 t) ∙ h)))
other_place names q x j k false g h n t = refl

module _ (names : List (List ℕ)) (bs : List Binding) (lasts : List (Option ℕ)) (i : IsStacked names bs lasts) (q : List ℕ) (b : Binding) (n : ℕ)
    (place : place_of names q ≡ Some b.key) (before : slice_get lasts b.key ≡ Some b.before) (number : n ≡ length bs) where
  name : name_at names b.key ≡ q
  name = name_there names q b.key place

  placed : place_of names (name_at names b.key) ≡ Some b.key
  placed = ap (place_of names) name ∙ place

  at_key : (p : List ℕ) (k : ℕ) → place_of names p ≡ Some k → (k ≡ b.key) ⊎ (k ≢ b.key) → slice_get (set lasts b.key (Some n)) k ≡ Some (found_number (last_of 0 (locals_in names (bs ++ b ∷ [])) p))
  at_key p k h (inl e) =
      let within : b.key < length lasts = slice_get_within lasts b.key b.before before in
      let one : p ≡ name_at names b.key = same_name names p (name_at names b.key) b.key (h ∙ ap Some e) placed in
      let eq : bytes_eq p (name_at names b.key) ≡ true = (bytes_eq-Decides p (name_at names b.key)).1 one in
      let z : n ≡ 0 + length (locals_in names bs) = number ∙ sym (locals_long names bs) ∙ (let w : length (locals_in names bs) ≡ 0 + length (locals_in names bs) = omega arith in w) in
      ap (slice_get (set lasts b.key (Some n))) e ∙ get_set_same lasts b.key (Some n) within
      ∙ ap (λ n. Some (Some n)) z
      ∙ sym (ap (λ ls. Some (found_number (last_of 0 ls p))) (locals_append names bs b) ∙ ap (λ o. Some (found_number o)) (last_append 0 (locals_in names bs) (record { name = name_at names b.key; sort = b.sort }) p
      ∙ ap (λ c. cond c (Some (found_at (0 + length (locals_in names bs)) b.sort)) (last_of 0 (locals_in names bs) p)) eq))
  at_key p k h (inr e) =
      get_set_other lasts b.key k (Some n) e ∙ i.last p k h
      ∙ sym (ap (λ ls. Some (found_number (last_of 0 ls p))) (locals_append names bs b) ∙ ap (λ o. Some (found_number o)) (last_append 0 (locals_in names bs) (record { name = name_at names b.key; sort = b.sort }) p
      ∙ ap (λ c. cond c (Some (found_at (0 + length (locals_in names bs)) b.sort)) (last_of 0 (locals_in names bs) p)) (other_place names p (name_at names b.key) k b.key _ h placed e refl)))

  before_at : (j : ℕ) (d : Binding) → (slice_get bs j ≡ Some d × (j < length bs)) ⊎ ((j ≡ length bs) × (b ≡ d)) → d.before ≡ found_number (last_of 0 (take j (locals_in names (bs ++ b ∷ []))) (name_at names d.key))
  before_at j d (inl p) =
      i.before j d p.0 ∙ ap (λ ls. found_number (last_of 0 ls (name_at names d.key)))
      (sym (ap (take j) (locals_append names bs b) ∙ take_front (locals_in names bs) _ j (let l : j < length bs = p.1 in omega (arith, locals_long names bs))))
  before_at j d (inr p) =
      let here : b.before ≡ found_number (last_of 0 (locals_in names bs) (name_at names b.key)) = same_Some b.before _ (sym before ∙ i.last (name_at names b.key) b.key placed) in
      let front : take j (locals_in names (bs ++ b ∷ [])) ≡ locals_in names bs =
      ap (λ k. take k (locals_in names (bs ++ b ∷ []))) (p.0 ∙ sym (locals_long names bs)) ∙ ap (take (length (locals_in names bs))) (locals_append names bs b) ∙ front_of (locals_in names bs) _ in
      subst (λ (d : Binding). d.before ≡ found_number (last_of 0 (take j (locals_in names (bs ++ b ∷ []))) (name_at names d.key))) p.1
      (here ∙ ap (λ ls. found_number (last_of 0 ls (name_at names b.key))) (sym front))

  pub stacked_bind : IsStacked names (bs ++ b ∷ []) (set lasts b.key (Some n))
  stacked_bind = record {
    last = λ p k h. at_key p k h (decide k b.key);
    placed = placed_append names bs b i.placed placed;
    before = λ j d h. before_at j d (append_cases bs b d j h);
    long = omega (arith, length_set lasts b.key (Some n), i.long);
  }
    where
      decide : (k j : ℕ) → (k ≡ j) ⊎ (k ≢ j)
      decide k j = elim (eqb_tells k j) [ inl e ↦ inl e.1 | inr e ↦ inr e.1 ]

pub bound_locals : (names : List (List ℕ)) (bs : List Binding) (b : Binding) (q : List ℕ) → place_of names q ≡ Some b.key → locals_in names (bs ++ b ∷ []) ≡ locals_in names bs ++ record { name = q; sort = b.sort } ∷ []
bound_locals names bs b q h = locals_append names bs b ∙ ap (λ n. locals_in names bs ++ record { name = n; sort = b.sort } ∷ []) (name_there names q b.key h)

module _ (names : List (List ℕ)) (bs : List Binding) (b : Binding) (lasts : List (Option ℕ)) (i : IsStacked names (bs ++ b ∷ []) lasts) where
  its_place : place_of names (name_at names b.key) ≡ Some b.key
  its_place = (placed_front names bs b i.placed).1

  pub its_last : slice_get lasts b.key ≡ Some (found_number (last_of 0 (locals_in names (bs ++ b ∷ [])) (name_at names b.key)))
  its_last = i.last (name_at names b.key) b.key its_place

  its_before : b.before ≡ found_number (last_of 0 (locals_in names bs) (name_at names b.key))
  its_before =
      i.before (length bs) b (get_end bs b (length bs) refl)
      ∙ ap (λ ls. found_number (last_of 0 ls (name_at names b.key)))
      (ap (λ k. take k (locals_in names (bs ++ b ∷ []))) (sym (locals_long names bs)) ∙ ap (take (length (locals_in names bs))) (locals_append names bs b) ∙ front_of (locals_in names bs) _)

  back_at : (p : List ℕ) (k : ℕ) → place_of names p ≡ Some k → (k ≡ b.key) ⊎ (k ≢ b.key) → slice_get (set lasts b.key b.before) k ≡ Some (found_number (last_of 0 (locals_in names bs) p))
  back_at p k h (inl e) =
      ap (slice_get (set lasts b.key b.before)) e ∙ get_set_same lasts b.key b.before (slice_get_within lasts b.key _ its_last)
      ∙ ap Some (its_before ∙ ap (λ n. found_number (last_of 0 (locals_in names bs) n)) (sym (same_name names p (name_at names b.key) b.key (h ∙ ap Some e) its_place)))
  back_at p k h (inr e) =
      get_set_other lasts b.key k b.before e ∙ i.last p k h
      ∙ ap (λ ls. Some (found_number (last_of 0 ls p))) (locals_append names bs b)
      ∙ ap (λ o. Some (found_number o)) (last_append 0 (locals_in names bs) (record { name = name_at names b.key; sort = b.sort }) p
      ∙ ap (λ c. cond c (Some (found_at (0 + length (locals_in names bs)) b.sort)) (last_of 0 (locals_in names bs) p)) (other_place names p (name_at names b.key) k b.key _ h its_place e refl))

  pub stacked_unbind : IsStacked names bs (set lasts b.key b.before)
  stacked_unbind = record {
    last = λ p k h. back_at p k h (decide k b.key);
    placed = (placed_front names bs b i.placed).0;
    before = λ j d h.
        let l : j < length bs = slice_get_within bs j d h in
        i.before j d (get_front bs (b ∷ []) j l ∙ h)
        ∙ ap (λ ls. found_number (last_of 0 ls (name_at names d.key))) (ap (take j) (locals_append names bs b) ∙ take_front (locals_in names bs) _ j (omega (arith, locals_long names bs)));
    long = omega (arith, length_set lasts b.key b.before, i.long);
  }
    where
      decide : (k j : ℕ) → (k ≡ j) ⊎ (k ≢ j)
      decide k j = elim (eqb_tells k j) [ inl e ↦ inl e.1 | inr e ↦ inr e.1 ]

none_last : (o : Option Found) → None ≡ found_number o → o ≡ None
none_last None h = refl
none_last (Some f) h = absurd (none-some f.number h)

some_last : (o : Option Found) (n : ℕ) → Some n ≡ found_number o → (f : Found) × (o ≡ Some f) × (f.number ≡ n)
some_last None n h = absurd (none-some n (sym h))
some_last (Some f) n h = (f, refl, sym (same_Some n f.number h))

local_binding : (names : List (List ℕ)) (bs : List Binding) (k : ℕ) (x : Local) → slice_get (locals_in names bs) k ≡ Some x → (b : Binding) × (slice_get bs k ≡ Some b) × (x.sort ≡ b.sort)
local_binding names [] k x h = absurd (none-some x h)
local_binding names (b ∷ bs) zero x h = (b, refl, sym (ap (λ (l : Local). l.sort) (same_Some _ x h)))
local_binding names (b ∷ bs) (suc k) x h = local_binding names bs k x h

-- what the numbers tell
pub number_is : (names : List (List ℕ)) (bs : List Binding) (lasts : List (Option ℕ)) (q : List ℕ) (key : ℕ) (o : Option ℕ) → IsStacked names bs lasts → place_of names q ≡ Some key → o ≡ slice_index_or lasts key o
    → o ≡ found_number (last_of 0 (locals_in names bs) q)
number_is names bs lasts q key o i h e = e ∙ index_read lasts key (found_number (last_of 0 (locals_in names bs) q)) o (i.last q key h)

pub not_bound : (names : List (List ℕ)) (bs : List Binding) (q : List ℕ) (o : Option ℕ) → o ≡ None → o ≡ found_number (last_of 0 (locals_in names bs) q) → last_of 0 (locals_in names bs) q ≡ None
not_bound names bs q o e g = none_last (last_of 0 (locals_in names bs) q) (sym e ∙ g)

pub is_bound : (names : List (List ℕ)) (bs : List Binding) (q : List ℕ) (n : ℕ) (o : Option ℕ) → o ≡ Some n → o ≡ found_number (last_of 0 (locals_in names bs) q)
    → (f : Found) × (last_of 0 (locals_in names bs) q ≡ Some f) × (f.number ≡ n) × (n < length bs) × ((d : Binding) → d ≡ slice_index_or bs n d → d.sort ≡ f.sort)
is_bound names bs q n o e g =
    let s = some_last (last_of 0 (locals_in names bs) q) n (sym e ∙ g) in
    let r = last_there 0 (locals_in names bs) q s.0 s.1 in
    let same : r.0 ≡ n = omega (arith, r.2, s.2) in
    let b = local_binding names bs r.0 r.1 r.3 in (
      s.0,
      s.1,
      s.2,
      subst (λ k. k < length bs) same (slice_get_within bs r.0 b.0 b.1),
      (λ d h. ap (λ (b : Binding). b.sort) (h ∙ ap (λ k. slice_index_or bs k d) (sym same) ∙ index_read bs r.0 b.0 d b.1) ∙ sym b.2 ∙ sym r.4),
    )

pub before_read : (names : List (List ℕ)) (bs : List Binding) (lasts : List (Option ℕ)) (q : List ℕ) (key : ℕ) (o : Option ℕ) → IsStacked names bs lasts → place_of names q ≡ Some key → o ≡ slice_index_or lasts key o → slice_get lasts key ≡ Some o
before_read names bs lasts q key o i h e = i.last q key h ∙ ap Some (sym (number_is names bs lasts q key o i h e))
