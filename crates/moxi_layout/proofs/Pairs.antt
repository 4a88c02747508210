-- Rows of two layouts of one system that have the same words of inputs and states say the same.
use Rattle.std.proofs.Common.{◌≡◌, ℕ, zero, suc, ◌+◌, ◌-◌, ◌<◌, ◌≤◌, false, eqb, List, [], ◌∷◌, ◌++◌, map, take, drop, length, Option, Some, refl, sym, ap, ◌∙◌, subst, arith, inl, inr, ◌⊎◌}
use Rattle.std.specs.Prelude.{slice_get, slice_index_or, option_map, IsSomeAnd}
use Rattle.std.specs.List.{AllByRecursion}
use Rattle.std.proofs.lemmas.List.{length-drop, map-append, take-append-drop}
use Rattle.word_core.specs.Words.{BitVector}
use Rattle.btor_tree.specs.declared.args.Arg.{Arg}
use Rattle.btor_tree.specs.declared.lines.Line.{Line}
use Rattle.btor_tree.specs.Fits.{count_of, is_bad, is_init, is_input, is_next, is_state, operands}
use Rattle.btor_tree.specs.Frame.{ConstraintsHold, IsBad, Meets, operand, true_word, word_at}
use Rattle.btor_tree.proofs.Grows.{slice_get_inside}
use Rattle.btor_witness.specs.Room.{places_of}
use Rattle.btor_witness.specs.Sizes.{Sizes}
use Rattle.btor_witness.proofs.Places.{length_places}
use Rattle.btor_witness.proofs.Tables.{length_widths}
use Rattle.moxi_terms.specs.declared.data.Sort.{Sort}
use Rattle.moxi_terms.specs.declared.data.Sort.TheVariants.{Truth}
use Rattle.moxi_terms.specs.Tree.{sorts_of}
use Rattle.moxi_scripts.specs.declared.script.Query.{Query}
use Rattle.moxi_scripts.specs.Valid.{IsValidQuery}
use Rattle.moxi_flat.specs.FlatSorts.{PartIsSorted}
use Rattle.moxi_flat.specs.FlatSystem.{PlainFlatSystem, PlainPart}
use Rattle.moxi_lines.specs.TermLines.{place_in}
use Rattle.moxi_lines.specs.Decoding.{PlacesInside, decoded_datum}
use Rattle.moxi_lines.specs.Variables.{IsInside}
use Rattle.moxi_layout.specs.Skeleton.{latch_names}
use Rattle.moxi_layout.specs.Layout.{AreQueriesLaid, IsInRange, before_values, first_at, given, input_at, is_met, is_set, latch_nexts, latches_in, now_values, prior_at, truth_word}
use Rattle.moxi_layout.specs.LayoutLaws.{IsLaidOut}
use Rattle.moxi_layout.proofs.Entries.{input_count, sorts_long}
use Rattle.moxi_layout.proofs.Lists.{all_with, nil_not, not_nil, same_head, same_rest}
use Rattle.moxi_layout.proofs.Parts.{PartAt}
use Rattle.moxi_layout.proofs.QuerySame.{met_same, nexts_same}
use Rattle.moxi_layout.proofs.RowLaws.{row_constraints, row_parts}
use Rattle.moxi_layout.proofs.Sizes.{same_sizes, states_long}
use Rattle.moxi_layout.proofs.Terms.{Agree, holds_same}

-- ---- lists that are equal by their maps

module _ {X Y Z : Type 0} (g : X → Z) (h : Y → Z) where
  take_maps : (n : ℕ) (xs : List X) (ys : List Y) → map g xs ≡ map h ys → map g (take n xs) ≡ map h (take n ys)
  take_maps zero xs ys e = refl
  take_maps (suc n) [] [] e = refl
  take_maps (suc n) [] (y ∷ ys) e = absurd (nil_not (h y) (map h ys) e)
  take_maps (suc n) (x ∷ xs) [] e = absurd (not_nil (g x) (map g xs) e)
  take_maps (suc n) (x ∷ xs) (y ∷ ys) e =
      ap (λ z. z ∷ map g (take n xs)) (same_head (g x) (h y) (map g xs) (map h ys) e) ∙ ap (λ zs. h y ∷ zs) (take_maps n xs ys (same_rest (g x) (h y) (map g xs) (map h ys) e))

  drop_maps : (n : ℕ) (xs : List X) (ys : List Y) → map g xs ≡ map h ys → map g (drop n xs) ≡ map h (drop n ys)
  drop_maps zero xs ys e = e
  drop_maps (suc n) [] [] e = refl
  drop_maps (suc n) [] (y ∷ ys) e = absurd (nil_not (h y) (map h ys) e)
  drop_maps (suc n) (x ∷ xs) [] e = absurd (not_nil (g x) (map g xs) e)
  drop_maps (suc n) (x ∷ xs) (y ∷ ys) e = drop_maps n xs ys (same_rest (g x) (h y) (map g xs) (map h ys) e)

  join_maps : (n : ℕ) (xs : List X) (ys : List Y) → map g (take n xs) ≡ map h (take n ys) → map g (drop n xs) ≡ map h (drop n ys) → map g xs ≡ map h ys
  join_maps n xs ys e f =
      sym (ap (map g) (take-append-drop n xs)) ∙ map-append g (take n xs) (drop n xs) ∙ ap (λ z. z ++ map g (drop n xs)) e ∙ ap (λ z. map h (take n ys) ++ z) f
      ∙ sym (map-append h (take n ys) (drop n ys)) ∙ ap (map h) (take-append-drop n ys)

maps_at : {Z : Type 0} (g h : ℕ → Z) (xs ys : List ℕ) (m : ℕ) → map g xs ≡ map h ys → m < length xs → g (place_in xs m) ≡ h (place_in ys m)
maps_at g h [] ys m e l = absurd (omega (arith, l))
maps_at g h (x ∷ xs) [] m e l = absurd (not_nil (g x) (map g xs) e)
maps_at g h (x ∷ xs) (y ∷ ys) zero e l = same_head (g x) (h y) (map g xs) (map h ys) e
maps_at g h (x ∷ xs) (y ∷ ys) (suc m) e l = maps_at g h xs ys m (same_rest (g x) (h y) (map g xs) (map h ys) e) (omega (arith, l))

at_maps : {Z : Type 0} (g h : ℕ → Z) (xs ys : List ℕ) → length xs ≡ length ys → ((m : ℕ) → m < length xs → g (place_in xs m) ≡ h (place_in ys m)) → map g xs ≡ map h ys
at_maps g h [] [] l e = refl
at_maps g h [] (y ∷ ys) l e = absurd (omega (arith, l))
at_maps g h (x ∷ xs) [] l e = absurd (omega (arith, l))
at_maps g h (x ∷ xs) (y ∷ ys) l e = ap (λ z. z ∷ map g xs) (e 0 (omega arith)) ∙ ap (λ zs. h y ∷ zs) (at_maps g h xs ys (omega (arith, l)) (λ m k. e (suc m) (omega (arith, k))))

place_drop : (n m : ℕ) (xs : List ℕ) → place_in (drop n xs) m ≡ place_in xs (n + m)
place_drop zero m xs = ap (place_in xs) (let e : m ≡ 0 + m = omega arith in e)
place_drop (suc n) m [] = refl
place_drop (suc n) m (x ∷ xs) = place_drop n m xs ∙ ap (place_in (x ∷ xs)) (let e : suc (n + m) ≡ suc n + m = omega arith in e)

lt_cases : (a b : ℕ) → (a < b) ⊎ (b ≤ a)
lt_cases a zero = inr (omega arith)
lt_cases zero (suc b) = inl (omega arith)
lt_cases (suc a) (suc b) = elim (lt_cases a b) [ inl h ↦ inl (omega (arith, h)) | inr h ↦ inr (omega (arith, h)) ]

-- ---- two rows

abbrev pub state_of : List Line → ℕ → ℕ
state_of lines n = place_in (places_of is_state lines) n

-- the same words of all inputs and all states, by their numbers
pub record AreAlike (lines other : List Line) (row next : List BitVector) : Type 0 where
  pub inputs : (n : ℕ) → n < count_of is_input lines → word_at row (input_at lines n) ≡ word_at next (input_at other n)
  pub states : (n : ℕ) → n < count_of is_state lines → word_at row (state_of lines n) ≡ word_at next (state_of other n)

-- where `first` is zero, the codes of the step before are inside
abbrev pub WereInside : PlainFlatSystem → List Line → List BitVector → Type 0
WereInside f lines row = is_set row (first_at lines) ≡ false → PlacesInside f.scope.enumerations f.variables row (prior_at lines)

pub variable_below : (f : PlainFlatSystem) (v : ℕ) (s : Sort) → slice_get (sorts_of f.variables) v ≡ Some s → v < length f.variables
variable_below f v s h = omega (arith, slice_get_inside (sorts_of f.variables) v s h, sorts_long f.variables)

module _ (f : PlainFlatSystem) (lines other : List Line) (laid : IsLaidOut f lines) (laid_other : IsLaidOut f other) where
  pub same_inputs : count_of is_input lines ≡ count_of is_input other
  same_inputs = input_count f lines laid.lays.order ∙ sym (input_count f other laid_other.lays.order)

  pub same_states : count_of is_state lines ≡ count_of is_state other
  same_states = sym (length_widths lines is_state lines) ∙ ap (λ (s : Sizes). length s.states) (same_sizes f lines other laid laid_other) ∙ length_widths other is_state other

  pub alike_back : (row next : List BitVector) → AreAlike lines other row next → AreAlike other lines next row
  alike_back row next a =
      record { inputs = λ n h. sym (a.inputs n (omega (arith, h, same_inputs))); states = λ n h. sym (a.states n (omega (arith, h, same_states))) }

  states_same_long : length (places_of is_state lines) ≡ length (places_of is_state other)
  states_same_long = length_places 0 is_state lines ∙ same_states ∙ sym (length_places 0 is_state other)

  -- ---- latches

  -- the inits give the same words
  latch_inits_same : (row next : List BitVector) → Meets lines row → Meets other next → (qs : List Query) (xs ys : List ℕ) (bs cs : List Arg) → AreQueriesLaid f lines qs xs bs → AreQueriesLaid f other qs ys cs
      → map (given is_init lines row) xs ≡ map (given is_init other next) ys
  latch_inits_same row next m k [] [] [] [] [] a b = refl
  latch_inits_same row next m k [] (x ∷ xs) ys bs cs a b = absurd a
  latch_inits_same row next m k [] [] (y ∷ ys) bs cs a b = absurd b
  latch_inits_same row next m k [] [] [] (b ∷ bs) cs a c = absurd a
  latch_inits_same row next m k [] [] [] [] (b ∷ cs) a c = absurd c
  latch_inits_same row next m k (q ∷ qs) xs ys [] cs a b = absurd a
  latch_inits_same row next m k (q ∷ qs) xs ys (x ∷ bs) [] a b = absurd b
  latch_inits_same row next m k (q ∷ qs) xs ys (x ∷ bs) (y ∷ cs) a b =
      let n = length (latch_names f q) in
      join_maps (given is_init lines row) (given is_init other next) n xs ys (a.0.inits row m ∙ sym (b.0.inits next k)) (latch_inits_same row next m k qs (drop n xs) (drop n ys) bs cs a.1 b.1)

  latch_at : (g h : ℕ → Option BitVector) → map g (latches_in f lines) ≡ map h (latches_in f other) → (n : ℕ) → n < count_of is_state lines → suc (length f.variables) ≤ n → g (state_of lines n) ≡ h (state_of other n)
  latch_at g h e n l b =
      let k = suc (length f.variables) in
      let m = n - k in
      let back : k + m ≡ n = omega (arith, b) in
      let inside : m < length (latches_in f lines) = omega (arith, length-drop k (places_of is_state lines), length_places 0 is_state lines, l, b) in
      let x : place_in (latches_in f lines) m ≡ state_of lines n = place_drop k m (places_of is_state lines) ∙ ap (state_of lines) back in
      let y : place_in (latches_in f other) m ≡ state_of other n = place_drop k m (places_of is_state other) ∙ ap (state_of other) back in
      ap g (sym x) ∙ maps_at g h (latches_in f lines) (latches_in f other) m e inside ∙ ap h y

  -- the inits of all states
  pub inits_same : (row next : List BitVector) → Meets lines row → Meets other next → (n : ℕ) → n < count_of is_state lines → given is_init lines row (state_of lines n) ≡ given is_init other next (state_of other n)
  inits_same row next m k zero l = laid.lays.first_init row m ∙ sym (laid_other.lays.first_init next k)
  inits_same row next m k (suc v) l =
      elim (lt_cases v (length f.variables)) [
        | inl h ↦ ap (option_map (operand row)) (laid.lays.prior_init v h) ∙ sym (ap (option_map (operand next)) (laid_other.lays.prior_init v h))
        | inr h ↦
            latch_at (given is_init lines row) (given is_init other next)
            (latch_inits_same row next m k f.queries (latches_in f lines) (latches_in f other) (operands is_bad lines) (operands is_bad other) laid.lays.queries laid_other.lays.queries) (suc v) l (omega (arith, h))
      ]

  -- ---- rows that are alike

  module _ (row next : List BitVector) (alike : AreAlike lines other row next) where
    first_same : is_set row (first_at lines) ≡ is_set next (first_at other)
    first_same = ap (λ (x : BitVector). eqb x.bits 1) (alike.states 0 (omega (arith, states_long f lines laid.lays.order)))

    prior_same : (v : ℕ) (s : Sort) → slice_get (sorts_of f.variables) v ≡ Some s → word_at row (prior_at lines v) ≡ word_at next (prior_at other v)
    prior_same v s h = alike.states (suc v) (omega (arith, variable_below f v s h, states_long f lines laid.lays.order))

    input_same : (v : ℕ) (s : Sort) → slice_get (sorts_of f.variables) v ≡ Some s → word_at row (input_at lines v) ≡ word_at next (input_at other v)
    input_same v s h = alike.inputs v (omega (arith, variable_below f v s h, input_count f lines laid.lays.order))

    now_same : Agree (sorts_of f.variables) (now_values f lines row) (now_values f other next)
    now_same = record { each = λ v s h. ap (decoded_datum f.scope.enumerations (slice_index_or (sorts_of f.variables) v Truth)) (input_same v s h) }

    before_same : Agree (sorts_of f.variables) (before_values f lines row) (before_values f other next)
    before_same = record { each = λ v s h. ap (decoded_datum f.scope.enumerations (slice_index_or (sorts_of f.variables) v Truth)) (prior_same v s h) }

    pub range_same : Meets other next → IsInRange f lines row → IsInRange f other next
    range_same m r =
        record {
          meets = m;
          now = record { each = λ v s h. subst (IsInside f.scope.enumerations s) (input_same v s h) (r.now.each v s h) };
          before = λ e. record { each = λ v s h. subst (IsInside f.scope.enumerations s) (prior_same v s h) ((r.before (first_same ∙ e)).each v s h) };
        }

    part_same : (p : PlainPart) → PartIsSorted f p → PartAt f.scope (is_set row (first_at lines)) (before_values f lines row) (now_values f lines row) p
        → PartAt f.scope (is_set next (first_at other)) (before_values f other next) (now_values f other next) p
    part_same p s h =
        let now = now_values f lines row in
        let later = now_values f other next in
        record {
          init = λ e. holds_same f now later now later p.init now_same now_same s.init (h.init (first_same ∙ e));
          trans = λ e. holds_same f (before_values f lines row) (before_values f other next) now later p.trans before_same now_same s.trans (h.trans (first_same ∙ e));
          inv = holds_same f now later now later p.inv now_same now_same s.inv h.inv;
        }

    -- constraints are true in the one where they are in the other
    pub constraints_same : Meets other next → IsInRange f lines row → ConstraintsHold lines row → ConstraintsHold other next
    constraints_same m r c =
        row_constraints f other laid_other next (range_same m r) (all_with (PartIsSorted f) _ _ f.parts part_same laid.sorted.parts (row_parts f lines laid row r c))

    sets_same : map (is_set row) (latches_in f lines) ≡ map (is_set next) (latches_in f other)
    sets_same =
        let k = suc (length f.variables) in
        let e = length-drop k (places_of is_state lines) in
        let g = length-drop k (places_of is_state other) in
        at_maps (is_set row) (is_set next) (latches_in f lines) (latches_in f other) (omega (arith, e, g, states_same_long)) (λ m l.
        let inside : k + m < count_of is_state lines = omega (arith, l, e, length_places 0 is_state lines) in
        let x : is_set row (state_of lines (k + m)) ≡ is_set next (state_of other (k + m)) = ap (λ (w : BitVector). eqb w.bits 1) (alike.states (k + m) inside) in
        ap (is_set row) (place_drop k m (places_of is_state lines)) ∙ x ∙ ap (is_set next) (sym (place_drop k m (places_of is_state other))))

    -- the nexts give the same words, and the bad lines have the same ones
    abbrev Whole : Query → Type 0
    Whole q = IsValidQuery (length f.assumptions) (length f.currents) (length f.reachables) q

    latch_nexts_same : IsInRange f lines row → IsInRange f other next → (qs : List Query) → AllByRecursion Whole qs → (xs ys : List ℕ) (bs cs : List Arg) → AreQueriesLaid f lines qs xs bs → AreQueriesLaid f other qs ys cs
        → map (is_set row) xs ≡ map (is_set next) ys → map (given is_next lines row) xs ≡ map (given is_next other next) ys
    latch_nexts_same r k [] w [] [] [] [] a b e = refl
    latch_nexts_same r k [] w (x ∷ xs) ys bs cs a b e = absurd a
    latch_nexts_same r k [] w [] (y ∷ ys) bs cs a b e = absurd b
    latch_nexts_same r k [] w [] [] (b ∷ bs) cs a c e = absurd a
    latch_nexts_same r k [] w [] [] [] (b ∷ cs) a c e = absurd c
    latch_nexts_same r k (q ∷ qs) w xs ys [] cs a b e = absurd a
    latch_nexts_same r k (q ∷ qs) w xs ys (x ∷ bs) [] a b e = absurd b
    latch_nexts_same r k (q ∷ qs) w xs ys (x ∷ bs) (y ∷ cs) a b e =
        let n = length (latch_names f q) in
        let now = now_values f lines row in
        let later = now_values f other next in
        let ls = map (is_set row) (take n xs) in
        let one : map (given is_next lines row) (take n xs) ≡ map (given is_next other next) (take n ys) = a.0.nexts row r
        ∙ ap (λ bools. map (λ c. Some (truth_word c)) bools) (ap (λ c. latch_nexts f c now q ls) first_same ∙ nexts_same f laid.sorted now later now_same q w.0 (is_set next (first_at other)) ls ∙ ap (latch_nexts f (is_set next (first_at other)) later q) (take_maps (is_set row) (is_set next) n xs ys e))
        ∙ sym (b.0.nexts next k) in
        join_maps (given is_next lines row) (given is_next other next) n xs ys one (latch_nexts_same r k qs w.1 (drop n xs) (drop n ys) bs cs a.1 b.1 (drop_maps (is_set row) (is_set next) n xs ys e))

    bad_same : IsInRange f lines row → IsInRange f other next → (qs : List Query) → AllByRecursion Whole qs → (xs ys : List ℕ) (bs cs : List Arg) → AreQueriesLaid f lines qs xs bs → AreQueriesLaid f other qs ys cs
        → map (is_set row) xs ≡ map (is_set next) ys → (j : ℕ) → IsSomeAnd (slice_get bs j) (λ z. operand row z ≡ true_word) → IsSomeAnd (slice_get cs j) (λ z. operand next z ≡ true_word)
    bad_same r k qs w xs ys [] cs a b e j h = absurd h
    bad_same r k [] w [] ys (x ∷ bs) cs a b e j h = absurd a
    bad_same r k [] w (z ∷ xs) ys (x ∷ bs) cs a b e j h = absurd a
    bad_same r k (q ∷ qs) w xs ys (x ∷ bs) [] a b e j h = absurd b
    bad_same r k (q ∷ qs) w xs ys (x ∷ bs) (y ∷ cs) a b e zero h =
        let n = length (latch_names f q) in
        let now = now_values f lines row in
        let later = now_values f other next in
        let ls = map (is_set row) (take n xs) in
        b.0.bad_word next k
        ∙ sym (ap truth_word (ap (λ c. is_met f c now q ls) first_same ∙ met_same f laid.sorted now later now_same q w.0 (is_set next (first_at other)) ls ∙ ap (is_met f (is_set next (first_at other)) later q) (take_maps (is_set row) (is_set next) n xs ys e)))
        ∙ sym (a.0.bad_word row r) ∙ h
    bad_same r k (q ∷ qs) w xs ys (x ∷ bs) (y ∷ cs) a b e (suc j) h =
        let n = length (latch_names f q) in
        bad_same r k qs w.1 (drop n xs) (drop n ys) bs cs a.1 b.1 (drop_maps (is_set row) (is_set next) n xs ys e) j h

    pub bads_same : IsInRange f lines row → IsInRange f other next → (j : ℕ) → IsBad lines row j → IsBad other next j
    bads_same r k j h =
        bad_same r k f.queries laid.sorted.queries (latches_in f lines) (latches_in f other) (operands is_bad lines) (operands is_bad other) laid.lays.queries laid_other.lays.queries sets_same j h

    -- the nexts of all states
    pub all_nexts_same : IsInRange f lines row → IsInRange f other next → (n : ℕ) → n < count_of is_state lines → given is_next lines row (state_of lines n) ≡ given is_next other next (state_of other n)
    all_nexts_same r k zero l = laid.lays.first_next row r.meets ∙ sym (laid_other.lays.first_next next k.meets)
    all_nexts_same r k (suc v) l =
        elim (lt_cases v (length f.variables)) [
          | inl h ↦
              let input : word_at row (input_at lines v) ≡ word_at next (input_at other v) = alike.inputs v (omega (arith, h, input_count f lines laid.lays.order)) in
              laid.lays.prior_next row r.meets v h ∙ ap (λ (x : BitVector). Some x) input ∙ sym (laid_other.lays.prior_next next k.meets v h)
          | inr h ↦
              latch_at (given is_next lines row) (given is_next other next)
              (latch_nexts_same r k f.queries laid.sorted.queries (latches_in f lines) (latches_in f other) (operands is_bad lines) (operands is_bad other) laid.lays.queries laid_other.lays.queries sets_same) (suc v) l (omega (arith, h))
        ]
