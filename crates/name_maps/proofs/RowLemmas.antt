-- Values of names in rows.
use Rattle.std.proofs.Common.{◌≡◌, ℕ, zero, suc, ◌<◌, ◌≤◌, ◌-◌, ◌%◌, Bool, true, false, ◌==◌, ◌&&◌, if◌then◌else◌, List, [], ◌∷◌, ◌++◌, take, length, Option, Some, None, slice_get, bytes_eq, refl, sym, ap, ◌∙◌, is_none, Result, Ok, Err, OnOk, arith}
use Rattle.std.specs.Prelude.{slice_index_or, is_some}
use Rattle.std.specs.Option.{option_or}
use Rattle.std.proofs.Math.ListN.{set}
use Rattle.std.proofs.Math.Seq.{take-suc}
use Rattle.std.proofs.lemmas.Bool.{and_parts, eqb-true, true≢false}
use Rattle.std.proofs.lemmas.Slice.Eq.{bytes_eq-Decides}
use Rattle.std.proofs.lemmas.Option.{slice_get_read}
use Rattle.std.proofs.lemmas.List.{length-set}
use Rattle.name_maps.specs.declared.buckets.NamedValue.{NamedValue}
use Rattle.name_maps.specs.declared.buckets.Bucket.{Bucket}
use Rattle.name_maps.specs.Rows.{number_on, is_row_of, or_row, last_named, rows_of, held_named, bucket_named, buckets_named}

-- a row behind others
pub last_push : {V : Type 0} (rs : List (NamedValue V)) (r : NamedValue V) (i : ℕ) (x : List ℕ) → last_named (rs ++ r ∷ []) i x ≡ (if is_row_of r i x then Some r.value else last_named rs i x)
last_push [] r i x = refl
last_push (q ∷ rs) r i x = ap (λ o. or_row o (is_row_of q i x) q.value) (last_push rs r i x) ∙ over (is_row_of r i x)
  where
    over : (b : Bool) → or_row (if b then Some r.value else last_named rs i x) (is_row_of q i x) q.value ≡ (if b then Some r.value else or_row (last_named rs i x) (is_row_of q i x) q.value)
    over true = refl
    over false = refl

-- where the rest has no row of the name, the first row tells
pub held_first : {V : Type 0} (first : Option (NamedValue V)) (rest : List (NamedValue V)) (i : ℕ) (x : List ℕ) (o : Option V) → last_named rest i x ≡ None → o ≡ last_named (rows_of first []) i x → o ≡ last_named (rows_of first rest) i x
held_first None rest i x o e h = h ∙ sym e
held_first (Some r) rest i x o e h = h ∙ ap (λ p. or_row p (is_row_of r i x) r.value) (sym e)

-- rows of which the last tells are as those without it where it is of another name
pub held_before : {V : Type 0} (first second : Option (NamedValue V)) (rest : List (NamedValue V)) (i : ℕ) (x : List ℕ) (o : Option V) → last_named rest i x ≡ None
    → o ≡ last_named (rows_of first (rows_of second [])) i x → o ≡ last_named (rows_of first (rows_of second rest)) i x
held_before first None rest i x o e h = held_first first rest i x o e h
held_before None (Some r) rest i x o e h = held_first (Some r) rest i x o e h
held_before (Some q) (Some r) rest i x o e h = h ∙ ap (λ p. or_row (or_row p (is_row_of r i x) r.value) (is_row_of q i x) q.value) (sym e)

set_here : {X : Type 0} (xs : List X) (i : ℕ) (w : X) → i < length xs → slice_get (set xs i w) i ≡ Some w
set_here [] i w h = absurd (omega (arith, h))
set_here (x ∷ xs) zero w h = refl
set_here (x ∷ xs) (suc i) w h = set_here xs i w (let r : i < length xs = omega (arith, h) in r)

set_elsewhere : {X : Type 0} (xs : List X) (i j : ℕ) (w : X) → (i ≡ j → ⊥) → slice_get (set xs i w) j ≡ slice_get xs j
set_elsewhere [] i j w h = refl
set_elsewhere (x ∷ xs) zero zero w h = absurd (h refl)
set_elsewhere (x ∷ xs) zero (suc j) w h = refl
set_elsewhere (x ∷ xs) (suc i) zero w h = refl
set_elsewhere (x ∷ xs) (suc i) (suc j) w h = set_elsewhere xs i j w (λ e. h (ap suc e))

-- a row behind the others of a bucket
pub rest_put : {V : Type 0} (first second : Option (NamedValue V)) (rest new : List (NamedValue V)) (r : NamedValue V) → new ≡ rest ++ r ∷ []
    → (i : ℕ) (x : List ℕ) → last_named (rows_of first (rows_of second new)) i x ≡ (if is_row_of r i x then Some r.value else last_named (rows_of first (rows_of second rest)) i x)
rest_put None None rest new r e i x = ap (λ l. last_named l i x) e ∙ last_push rest r i x
rest_put None (Some s) rest new r e i x = ap (λ l. last_named (s ∷ l) i x) e ∙ last_push (s ∷ rest) r i x
rest_put (Some f) None rest new r e i x = ap (λ l. last_named (f ∷ l) i x) e ∙ last_push (f ∷ rest) r i x
rest_put (Some f) (Some s) rest new r e i x = ap (λ l. last_named (f ∷ s ∷ l) i x) e ∙ last_push (f ∷ s ∷ rest) r i x

-- a name more in its bucket
pub bucket_put : {V : Type 0} (bs new : List (Bucket V)) (k : ℕ) (b more : Bucket V) (n : ℕ) (name : List ℕ) (v : V) → k ≡ number_on (n % 4294967296) name % length bs → k < length bs → b ≡ slice_index_or bs k b
    → ((i : ℕ) (x : List ℕ) → held_named more i x ≡ (if n == i && bytes_eq name x then Some v else held_named b i x)) → new ≡ set bs k more
    → (i : ℕ) (x : List ℕ) → buckets_named new i x ≡ (if n == i && bytes_eq name x then Some v else buckets_named bs i x)
bucket_put bs new k b more n name v ek lk eb em es i x =
    ap (λ l. buckets_named l i x) es ∙ ap (λ m. bucket_named (slice_get (set bs k more) (number_on (i % 4294967296) x % m)) i x) (length-set bs k more) ∙ by (k == place) refl
  where
    place : ℕ
    place = number_on (i % 4294967296) x % length bs

    at : slice_get bs k ≡ Some b
    at = slice_get_read bs (length bs) k b refl lk eb

    by : (c : Bool) → (k == place) ≡ c → bucket_named (slice_get (set bs k more) place) i x ≡ (if n == i && bytes_eq name x then Some v else buckets_named bs i x)
    by true h =
        let e : k ≡ place = eqb-true k place h in
        ap (λ p. bucket_named (slice_get (set bs k more) p) i x) (sym e) ∙ ap (λ o. bucket_named o i x) (set_here bs k more lk) ∙ em i x
        ∙ ap (λ o. if n == i && bytes_eq name x then Some v else bucket_named o i x) (sym at) ∙ ap (λ p. if n == i && bytes_eq name x then Some v else bucket_named (slice_get bs p) i x) e
    by false h = ap (λ o. bucket_named o i x) (set_elsewhere bs k place more apart) ∙ over (n == i && bytes_eq name x) refl
      where
        apart : k ≡ place → ⊥
        apart e = grind (arith, h, e)

        over : (c : Bool) → (n == i && bytes_eq name x) ≡ c → buckets_named bs i x ≡ (if c then Some v else buckets_named bs i x)
        over true q =
            let b = and_parts (n == i) (bytes_eq name x) q in
            absurd (apart (ek ∙ ap (λ m. number_on (m % 4294967296) name % length bs) (eqb-true n i b.0) ∙ ap (λ y. number_on (i % 4294967296) y % length bs) ((bytes_eq-Decides name x).0 b.1)))
        over false q = refl

-- a bucket more that is empty
pub still_empty : {V : Type 0} (bs new : List (Bucket V)) (b : Bucket V) → new ≡ bs ++ b ∷ [] → rows_of b.first (rows_of b.second b.rest.items) ≡ [] → ((k i : ℕ) (x : List ℕ) → bucket_named (slice_get bs k) i x ≡ None)
    → (k i : ℕ) (x : List ℕ) → bucket_named (slice_get new k) i x ≡ None
still_empty {V} bs new b e n h k i x = ap (λ l. bucket_named (slice_get l k) i x) e ∙ over bs k h
  where
    end : (j : ℕ) → bucket_named (slice_get (b ∷ []) j) i x ≡ None
    end zero = ap (λ l. last_named l i x) n
    end (suc j) = refl

    over : (cs : List (Bucket V)) (j : ℕ) → ((k i : ℕ) (y : List ℕ) → bucket_named (slice_get cs k) i y ≡ None) → bucket_named (slice_get (cs ++ b ∷ []) j) i x ≡ None
    over [] j g = end j
    over (c ∷ cs) zero g = g zero i x
    over (c ∷ cs) (suc j) g = over cs j (λ k i y. g (suc k) i y)

taken : {V : Type 0} (rs : List (NamedValue V)) (k : ℕ) (r : NamedValue V) → 0 < k → k ≤ length rs → r ≡ slice_index_or rs (k - 1) r → take k rs ≡ take (k - 1) rs ++ r ∷ []
taken rs k r h l e = ap (λ n. take n rs) (let s : k ≡ suc (k - 1) = omega (arith, h) in s) ∙ take-suc rs (k - 1) r (omega (arith, h, l)) ∙ ap (λ y. take (k - 1) rs ++ y ∷ []) (sym e)

-- the last row of those that are left has the name, or hasn't
pub last_found : {V : Type 0} (rs : List (NamedValue V)) (k : ℕ) (r : NamedValue V) (i : ℕ) (x : List ℕ) → 0 < k → k ≤ length rs → r ≡ slice_index_or rs (k - 1) r → is_row_of r i x ≡ true → last_named (take k rs) i x ≡ last_named rs i x → Some r.value ≡ last_named rs i x
last_found rs k r i x h l e b w =
    sym (ap (λ o. if o then Some r.value else last_named (take (k - 1) rs) i x) b) ∙ sym (last_push (take (k - 1) rs) r i x) ∙ ap (λ ts. last_named ts i x) (sym (taken rs k r h l e)) ∙ w

pub last_passed : {V : Type 0} (rs : List (NamedValue V)) (k : ℕ) (r : NamedValue V) (i : ℕ) (x : List ℕ) → 0 < k → k ≤ length rs → r ≡ slice_index_or rs (k - 1) r → is_row_of r i x ≡ false → last_named (take k rs) i x ≡ last_named rs i x
    → last_named (take (k - 1) rs) i x ≡ last_named rs i x
last_passed rs k r i x h l e b w =
    sym (ap (λ o. if o then Some r.value else last_named (take (k - 1) rs) i x) b) ∙ sym (last_push (take (k - 1) rs) r i x) ∙ ap (λ ts. last_named ts i x) (sym (taken rs k r h l e)) ∙ w

-- what an equal key has
same_key : {V : Type 0} (f : ℕ → List ℕ → Option V) (i j : ℕ) (x y : List ℕ) → (i == j && bytes_eq x y) ≡ true → f j y ≡ f i x
same_key f i j x y h =
    let b = and_parts (i == j) (bytes_eq x y) h in
    let e : i ≡ j = eqb-true i j b.0 in
    let d : x ≡ y = (bytes_eq-Decides x y).0 b.1 in
    cc

pub stays : (f : ℕ → List ℕ → Option ℕ) (i : ℕ) (x : List ℕ) (c j : ℕ) (y : List ℕ) (n : ℕ) → f i x ≡ Some n → f j y ≡ (if is_none (f j y) && (i == j && bytes_eq x y) then Some c else f j y)
stays f i x c j y n e = by (i == j && bytes_eq x y) refl
  where
    by : (b : Bool) → (i == j && bytes_eq x y) ≡ b → f j y ≡ (if is_none (f j y) && b then Some c else f j y)
    by true h = let s : f j y ≡ Some n = same_key f i j x y h ∙ e in ap (λ o. if is_none o && true then Some c else f j y) (sym s)
    by false h = over (f j y)
      where
        over : (o : Option ℕ) → o ≡ (if is_none o && false then Some c else o)
        over None = refl
        over (Some m) = refl

pub is_put : (f : ℕ → List ℕ → Option ℕ) (i : ℕ) (x : List ℕ) (c j : ℕ) (y : List ℕ) (o : Option ℕ) → f i x ≡ None → o ≡ (if i == j && bytes_eq x y then Some c else f j y)
    → o ≡ (if is_none (f j y) && (i == j && bytes_eq x y) then Some c else f j y)
is_put f i x c j y o e k = k ∙ by (i == j && bytes_eq x y) refl
  where
    by : (b : Bool) → (i == j && bytes_eq x y) ≡ b → (if b then Some c else f j y) ≡ (if is_none (f j y) && b then Some c else f j y)
    by true h = let s : f j y ≡ None = same_key f i j x y h ∙ e in ap (λ p. if is_none p && true then Some c else f j y) (sym s)
    by false h = over (f j y)
      where
        over : (p : Option ℕ) → p ≡ (if is_none p && false then Some c else p)
        over None = refl
        over (Some m) = refl

pub on_put : {X E : Type 0} (r : Result X E) (f g : ℕ → List ℕ → Option ℕ) (i : ℕ) (x : List ℕ) (c : ℕ) → f i x ≡ None
    → OnOk r ((j : ℕ) (y : List ℕ) → g j y ≡ (if i == j && bytes_eq x y then Some c else f j y))
    → OnOk r ((j : ℕ) (y : List ℕ) → g j y ≡ (if is_none (f j y) && (i == j && bytes_eq x y) then Some c else f j y))
on_put (Ok u) f g i x c e h = λ j y. is_put f i x c j y (g j y) e (h j y)
on_put (Err u) f g i x c e h = tt

-- a name that is set in its bucket, where it has no other value
pub bucket_set : {V : Type 0} (s b new : ℕ → List ℕ → Option V) (i : ℕ) (x : List ℕ) (v : V) → is_some (s i x) ≡ false → ((j : ℕ) (y : List ℕ) → new j y ≡ (if i == j && bytes_eq x y then Some v else b j y))
    → (j : ℕ) (y : List ℕ) → option_or (s j y) (new j y) ≡ (if i == j && bytes_eq x y then Some v else option_or (s j y) (b j y))
bucket_set {V} s b new i x v none set j y = ap (option_or (s j y)) (set j y) ∙ by (i == j && bytes_eq x y) refl
  where
    absent : (o : Option V) → is_some o ≡ false → o ≡ None
    absent None e = refl
    absent (Some w) e = absurd (true≢false e)

    by : (c : Bool) → (i == j && bytes_eq x y) ≡ c → option_or (s j y) (if c then Some v else b j y) ≡ (if c then Some v else option_or (s j y) (b j y))
    by true h = ap (λ o. option_or o (Some v)) (same_key s i j x y h ∙ absent (s i x) none)
    by false h = refl

-- a name that is set outside its bucket
pub other_set : {V X E : Type 0} (r : Result X E) (s more b new : ℕ → List ℕ → Option V) (i : ℕ) (x : List ℕ) (v w : V) → w ≡ v → ((j : ℕ) (y : List ℕ) → new j y ≡ b j y)
    → OnOk r ((j : ℕ) (y : List ℕ) → more j y ≡ (if i == j && bytes_eq x y then Some w else s j y))
    → OnOk r ((j : ℕ) (y : List ℕ) → option_or (more j y) (new j y) ≡ (if i == j && bytes_eq x y then Some v else option_or (s j y) (b j y)))
other_set {V} (Ok u) s more b new i x v w e same set = λ j y.
    ap (λ o. option_or (more j y) o) (same j y) ∙ ap (λ o. option_or o (b j y)) (set j y) ∙ by (i == j && bytes_eq x y) (s j y) (b j y)
  where
    by : (c : Bool) (o p : Option V) → option_or (if c then Some w else o) p ≡ (if c then Some v else option_or o p)
    by true o p = ap Some e
    by false o p = refl
other_set (Err u) s more b new i x v w e same set = tt
