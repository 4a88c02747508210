-- The lines of a kind in two lists with the same lines: their places, numbers and widths.
use Rattle.std.proofs.Common.{◌≡◌, ℕ, zero, suc, ◌+◌, ◌<◌, ◌≤◌, Bool, true, false, List, [], ◌∷◌, length, take, map, Some, refl, sym, ap, subst, ◌∙◌, arith, inl, inr}
use Rattle.std.specs.Prelude.{slice_get}
use Rattle.std.proofs.lemmas.Bool.{cases_lt}
use Rattle.std.proofs.lemmas.List.{length-map}
use Rattle.std.proofs.lemmas.Option.{same_Some, none-some}
use Rattle.btor_tree.specs.declared.lines.Line.{Line}
use Rattle.btor_tree.specs.declared.lines.LineOp.{LineOp}
use Rattle.btor_tree.specs.declared.lines.LineOp.TheVariants as op
use Rattle.btor_tree.specs.Fits.{count_of, is_bad, is_constraint, is_input, is_state, width_at}
use Rattle.btor_tree.specs.Sharing.{is_shared}
use Rattle.btor_tree.proofs.Grows.{slice_get_inside}
use Rattle.btor_witness.specs.Room.{places_of}
use Rattle.btor_witness.specs.Sizes.{sizes_of, widths_of}
use Rattle.btor_witness.proofs.Places.{place_of, place_there, length_places, width_by_number}
use Rattle.btor_witness.proofs.Tables.{length_widths}
use Rattle.btor_simplify.specs.Kept.{AreSameLines}

-- numbers that rise
abbrev pub Rises : List ℕ → Type 0
Rises xs = (j k x y : ℕ) → slice_get xs j ≡ Some x → slice_get xs k ≡ Some y → j < k → x < y

abbrev pub IsAmong : List ℕ → List ℕ → Type 0
IsAmong xs ys = (k x : ℕ) → slice_get xs k ≡ Some x → (j : ℕ) × (slice_get ys j ≡ Some x)

rises_rest : (x : ℕ) (xs : List ℕ) → Rises (x ∷ xs) → Rises xs
rises_rest x xs r j k y z g h lt = r (suc j) (suc k) y z g h (omega (arith, lt))

rises_first : (x : ℕ) (xs : List ℕ) (k y : ℕ) → Rises (x ∷ xs) → slice_get xs k ≡ Some y → x < y
rises_first x xs k y r g = r zero (suc k) x y refl g (omega arith)

among_rest : (x : ℕ) (xs ys : List ℕ) → Rises (x ∷ xs) → IsAmong (x ∷ xs) (x ∷ ys) → IsAmong xs ys
among_rest x xs ys r a k y g = from (a (suc k) y g)
  where
    from : (j : ℕ) × (slice_get (x ∷ ys) j ≡ Some y) → (j : ℕ) × (slice_get ys j ≡ Some y)
    from (zero, e) = absurd (omega (arith, rises_first x xs k y r g, same_Some x y e))
    from (suc j, e) = (j, e)

first_least : (x y : ℕ) (ys : List ℕ) → Rises (y ∷ ys) → (j : ℕ) → slice_get (y ∷ ys) j ≡ Some x → y ≤ x
first_least x y ys r zero g = omega (arith, same_Some y x g)
first_least x y ys r (suc j) g = omega (arith, rises_first y ys j x r g)

-- rising numbers that are the same are the same list
pub one_list : (xs ys : List ℕ) → Rises xs → Rises ys → IsAmong xs ys → IsAmong ys xs → xs ≡ ys
one_list [] [] r s a b = refl
one_list [] (y ∷ ys) r s a b = absurd (none-some y (b zero y refl).1)
one_list (x ∷ xs) [] r s a b = absurd (none-some x (a zero x refl).1)
one_list (x ∷ xs) (y ∷ ys) r s a b =
    let p = a zero x refl in
    let q = b zero y refl in
    let e : y ≡ x = omega (arith, first_least x y ys s p.0 p.1, first_least y x xs r q.0 q.1) in
    let s2 : Rises (x ∷ ys) = subst (λ n. Rises (n ∷ ys)) e s in
    let a2 : IsAmong (x ∷ xs) (x ∷ ys) = subst (λ n. IsAmong (x ∷ xs) (n ∷ ys)) e a in
    let b2 : IsAmong (x ∷ ys) (x ∷ xs) = subst (λ n. IsAmong (n ∷ ys) (x ∷ xs)) e b in
    ap (λ zs. x ∷ zs) (one_list xs ys (rises_rest x xs r) (rises_rest x ys s2) (among_rest x xs ys r a2) (among_rest x ys xs s2 b2)) ∙ ap (λ n. n ∷ ys) (sym e)

-- lists with the same elements at all places
pub same_items : {X : Type 0} (xs ys : List X) → length xs ≡ length ys → ((k : ℕ) (x : X) → slice_get xs k ≡ Some x → slice_get ys k ≡ Some x) → xs ≡ ys
same_items [] [] e h = refl
same_items [] (y ∷ ys) e h = absurd (omega (arith, e))
same_items (x ∷ xs) [] e h = absurd (omega (arith, e))
same_items (x ∷ xs) (y ∷ ys) e h =
    ap (λ z. z ∷ xs) (sym (same_Some y x (h zero x refl))) ∙ ap (λ zs. y ∷ zs) (same_items xs ys (omega (arith, e)) (λ k z g. h (suc k) z g))

map_there : (f : ℕ → ℕ) (xs : List ℕ) (k x : ℕ) → slice_get xs k ≡ Some x → slice_get (map f xs) k ≡ Some (f x)
map_there f [] k x g = absurd (none-some x g)
map_there f (y ∷ xs) zero x g = ap (λ n. Some (f n)) (same_Some y x g)
map_there f (y ∷ xs) (suc k) x g = map_there f xs k x g

map_from : (f : ℕ → ℕ) (xs : List ℕ) (k y : ℕ) → slice_get (map f xs) k ≡ Some y → (x : ℕ) × (slice_get xs k ≡ Some x) × (f x ≡ y)
map_from f [] k y g = absurd (none-some y g)
map_from f (x ∷ xs) zero y g = (x, refl, same_Some (f x) y g)
map_from f (x ∷ xs) (suc k) y g = map_from f xs k y g

-- there are no fewer lines of a kind among more lines
count_rises : (kind : LineOp → Bool) (lines : List Line) (i j : ℕ) → i ≤ j → count_of kind (take i lines) ≤ count_of kind (take j lines)
count_rises kind lines zero j h = omega arith
count_rises kind [] (suc i) zero h = omega arith
count_rises kind [] (suc i) (suc j) h = omega arith
count_rises kind (l ∷ ls) (suc i) zero h = absurd (omega (arith, h))
count_rises kind (l ∷ ls) (suc i) (suc j) h = omega (arith, count_rises kind ls i j (omega (arith, h)))

-- the place of a line of a kind, by its number among them
pub kind_place : (kind : LineOp → Bool) (lines : List Line) (k p : ℕ) → slice_get (places_of kind lines) k ≡ Some p → (l : Line) × (slice_get lines p ≡ Some l) × (kind l.op ≡ true) × (count_of kind (take p lines) ≡ k)
kind_place kind lines k p g =
    let inside = slice_get_inside (places_of kind lines) k p g in
    let q = place_of kind lines k (omega (arith, inside, length_places 0 kind lines)) in
    let there : slice_get (places_of kind lines) k ≡ Some (0 + q.0) = subst (λ m. slice_get (places_of kind lines) m ≡ Some (0 + q.0)) q.4 (place_there 0 kind lines q.0 q.1 q.2 q.3) in
    let sum : 0 + q.0 ≡ p = same_Some (0 + q.0) p (sym there ∙ g) in
    let same : q.0 ≡ p = omega (arith, sum) in
    (q.1, ap (slice_get lines) (sym same) ∙ q.2, q.3, ap (λ n. count_of kind (take n lines)) (sym same) ∙ q.4)

pub number_there : (kind : LineOp → Bool) (lines : List Line) (i : ℕ) (l : Line) → slice_get lines i ≡ Some l → kind l.op ≡ true → slice_get (places_of kind lines) (count_of kind (take i lines)) ≡ Some i
number_there kind lines i l g t =
    let sum : 0 + i ≡ i = omega arith in
    place_there 0 kind lines i l g t ∙ ap (λ n. Some n) sum

places_rise : (kind : LineOp → Bool) (lines : List Line) → Rises (places_of kind lines)
places_rise kind lines j k x y g h lt =
    let p = kind_place kind lines j x g in
    let q = kind_place kind lines k y h in
    elim (cases_lt x y) [
      | inl less ↦ less
      | inr ge ↦ absurd (omega (arith, count_rises kind lines y x (omega (arith, ge)), p.3, q.3, lt))
    ]

-- kinds of lines that stay
abbrev pub IsKept : (LineOp → Bool) → Type 0
IsKept kind = (o : LineOp) → kind o ≡ true → is_shared o ≡ false

pub input_kept : IsKept is_input
input_kept op.Input h = refl
input_kept o h = absurd (cc)

pub state_kept : IsKept is_state
state_kept op.State h = refl
state_kept o h = absurd (cc)

pub bad_kept : IsKept is_bad
bad_kept op.Bad h = refl
bad_kept o h = absurd (cc)

pub constraint_kept : IsKept is_constraint
constraint_kept op.Constraint h = refl
constraint_kept o h = absurd (cc)

module _ (old new : List Line) (place : ℕ → ℕ) (same : AreSameLines old new place) where
  -- no two lines go to one place
  pub one_place : (i j : ℕ) (l m : Line) → slice_get old i ≡ Some l → slice_get old j ≡ Some m → is_shared l.op ≡ false → is_shared m.op ≡ false → place i ≡ place j → i ≡ j
  one_place i j l m g h a b e =
      elim (cases_lt i j) [
        | inl less ↦ absurd (omega (arith, same.rises i j l m g h a b less, e))
        | inr ge ↦ elim (cases_lt j i) [
          | inl less ↦ absurd (omega (arith, same.rises j i m l h g b a less, e))
          | inr le ↦ omega (arith, ge, le)
        ]
      ]

  -- the old line of a new one
  pub line_from : (q : ℕ) (m : Line) → slice_get new q ≡ Some m → is_shared m.op ≡ false → (i : ℕ) × (l : Line) × (slice_get old i ≡ Some l) × (l.op ≡ m.op) × (place i ≡ q)
  line_from q m g h =
      let f = same.onto q m g h in
      let t = same.there f.0 f.1 f.2 f.3 in
      let one : t.0 ≡ m = same_Some t.0 m (sym t.1 ∙ ap (slice_get new) f.4 ∙ g) in
      (f.0, f.1, f.2, sym t.2 ∙ ap (λ (x : Line). x.op) one, f.4)

  module _ (kind : LineOp → Bool) (kept : IsKept kind) where
    moved_rise : Rises (map place (places_of kind old))
    moved_rise j k x y g h lt =
        let p = map_from place (places_of kind old) j x g in
        let q = map_from place (places_of kind old) k y h in
        let l = kind_place kind old j p.0 p.1 in
        let m = kind_place kind old k q.0 q.1 in
        let less = places_rise kind old j k p.0 q.0 p.1 q.1 lt in
        omega (arith, p.2, q.2, same.rises p.0 q.0 l.0 m.0 l.1 m.1 (kept l.0.op l.2) (kept m.0.op m.2) less)

    new_among : IsAmong (places_of kind new) (map place (places_of kind old))
    new_among k q g =
        let m = kind_place kind new k q g in
        let f = line_from q m.0 m.1 (kept m.0.op m.2) in
        let n = number_there kind old f.0 f.1 f.2 (ap kind f.3 ∙ m.2) in
        (count_of kind (take f.0 old), map_there place (places_of kind old) _ f.0 n ∙ ap (λ x. Some x) f.4)

    moved_among : IsAmong (map place (places_of kind old)) (places_of kind new)
    moved_among k q g =
        let p = map_from place (places_of kind old) k q g in
        let l = kind_place kind old k p.0 p.1 in
        let t = same.there p.0 l.0 l.1 (kept l.0.op l.2) in
        (count_of kind (take (place p.0) new), number_there kind new (place p.0) t.0 t.1 (ap kind t.2 ∙ l.2) ∙ ap (λ x. Some x) p.2)

    -- the places of such lines are moved, in their order
    pub places_moved : places_of kind new ≡ map place (places_of kind old)
    places_moved = one_list (places_of kind new) (map place (places_of kind old)) (places_rise kind new) moved_rise new_among moved_among

    -- a line has the number that it had
    pub number_same : (i : ℕ) (l : Line) → slice_get old i ≡ Some l → kind l.op ≡ true → count_of kind (take (place i) new) ≡ count_of kind (take i old)
    number_same i l g t =
        let n = count_of kind (take i old) in
        let moved : slice_get (places_of kind new) n ≡ Some (place i) = ap (λ ps. slice_get ps n) places_moved ∙ map_there place (places_of kind old) n i (number_there kind old i l g t) in
        (kind_place kind new n (place i) moved).3

    pub count_same : count_of kind new ≡ count_of kind old
    count_same =
        sym (length_places 0 kind new) ∙ ap (λ (ps : List ℕ). length ps) places_moved ∙ length-map (places_of kind old) place ∙ length_places 0 kind old

    pub widths_same : widths_of kind new ≡ widths_of kind old
    widths_same =
        let long = length_widths old kind old in
        sym (same_items (widths_of kind old) (widths_of kind new) (long ∙ sym count_same ∙ sym (length_widths new kind new)) (λ k w g.
        let inside = slice_get_inside (widths_of kind old) k w g in
        let q = place_of kind old k (omega (arith, inside, long)) in
        let t = same.there q.0 q.1 q.2 (kept q.1.op q.3) in
        let before : slice_get (widths_of kind old) k ≡ Some (width_at old q.0) = subst (λ n. slice_get (widths_of kind old) n ≡ Some (width_at old q.0)) q.4 (width_by_number old kind q.0 q.1 q.2 q.3) in
        let number : count_of kind (take (place q.0) new) ≡ k = number_same q.0 q.1 q.2 q.3 ∙ q.4 in
        let after : slice_get (widths_of kind new) k ≡ Some (width_at new (place q.0)) = subst (λ n. slice_get (widths_of kind new) n ≡ Some (width_at new (place q.0))) number (width_by_number new kind (place q.0) t.0 t.1 (ap kind t.2 ∙ q.3)) in
        after ∙ ap (λ n. Some n) t.4 ∙ sym before ∙ g))

  pub sizes_same : sizes_of new ≡ sizes_of old
  sizes_same =
      let start : record { bads = count_of is_bad new; states = widths_of is_state new; inputs = widths_of is_input new } ≡ record { bads = count_of is_bad old; states = widths_of is_state new; inputs = widths_of is_input new } = ap (λ (n : ℕ). record { bads = n; states = widths_of is_state new; inputs = widths_of is_input new }) (count_same is_bad bad_kept) in
      start
      ∙ ap (λ (ws : List ℕ). record { bads = count_of is_bad old; states = ws; inputs = widths_of is_input new }) (widths_same is_state state_kept)
      ∙ ap (λ (ws : List ℕ). record { bads = count_of is_bad old; states = widths_of is_state old; inputs = ws }) (widths_same is_input input_kept)
