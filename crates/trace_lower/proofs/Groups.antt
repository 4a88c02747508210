-- The words of the items of one list, behind those of the lists before it.
use Rattle.std.proofs.Common.{◌≡◌, ℕ, zero, suc, ◌+◌, ◌<◌, ◌≤◌, Bool, true, false, cond, ◌==◌, if◌then◌else◌, List, [], ◌∷◌, ◌++◌, length, take, Some, refl, sym, ap, ◌∙◌, subst, arith}
use Rattle.std.specs.Prelude.{slice_get}
use Rattle.std.specs.List.{filter}
use Rattle.std.proofs.lemmas.Bool.{eq-eqb, eqb-true}
use Rattle.std.proofs.lemmas.List.{length-append}
use Rattle.std.proofs.lemmas.Option.{slice_get_within}
use Rattle.word_core.specs.Words.{BitVector}
use Rattle.btor_witness.specs.declared.witness.Stated.{Stated}
use Rattle.smv_items.specs.FlatItems.{PlainFlatItem}
use Rattle.smv_flat.specs.FlatTruth.{Row}
use Rattle.smv_script.specs.Codes.{datum_of}
use Rattle.smv_script.specs.Script.{Group, inputs, outputs, locals, group_of, group_start, items_in, place_among, place_of_item, same_group, symbol_sort}
use Rattle.smv_script_laws.specs.Decoding.{datum_from}
use Rattle.smv_script_laws.proofs.Places.{places_differ_law}
use Rattle.moxi_terms.specs.declared.term.Enumeration.{Enumeration}
use Rattle.moxi_terms.specs.Value.{Values}
use Rattle.moxi_lines.specs.Codes.{code_of}
use Rattle.moxi_lower.specs.Lowered.{codes_upto, stated_code}
use Rattle.trace_lower.specs.Stating.{Codes, group_end, stated_of, stated_upto, values_of, variable_count, word_of}

-- ---- the value at the place of an item

found_datum : (width : ℕ) (symbols : List (List ℕ)) (place : ℕ → ℕ) (row : Row) (total : ℕ) → ((k l : ℕ) → k < total → l < total → place k ≡ place l → k ≡ l)
    → (k : ℕ) (ms : List PlainFlatItem) (n : ℕ) → n < length ms → k + length ms ≤ total → datum_from width symbols place row (place (k + n)) k ms ≡ datum_of width symbols (row (k + n))
found_datum width symbols place row total differ k [] n h l = absurd (omega (arith, h))
found_datum width symbols place row total differ k (m ∷ ms) zero h l =
    let s : k ≡ k + 0 = omega arith in
    ap (λ b. if b then datum_of width symbols (row k) else datum_from width symbols place row (place (k + 0)) (k + 1) ms) (eq-eqb (place k) (place (k + 0)) (ap place s)) ∙ ap (λ i. datum_of width symbols (row i)) s
found_datum width symbols place row total differ k (m ∷ ms) (suc n) h l =
    let s : (k + 1) + n ≡ k + suc n = omega arith in
    by (place k == place (k + suc n)) refl
    ∙ ap (λ i. datum_from width symbols place row (place i) (k + 1) ms) (sym s) ∙ found_datum width symbols place row total differ (k + 1) ms n (omega (arith, h)) (omega (arith, l)) ∙ ap (λ i. datum_of width symbols (row i)) s
  where
    by : (b : Bool) → (place k == place (k + suc n)) ≡ b
        → (if b then datum_of width symbols (row k) else datum_from width symbols place row (place (k + suc n)) (k + 1) ms) ≡ datum_from width symbols place row (place (k + suc n)) (k + 1) ms
    by true e = let same : k ≡ k + suc n = differ k (k + suc n) (omega (arith, l)) (omega (arith, h, l)) (eqb-true (place k) (place (k + suc n)) e) in absurd (omega (arith, same))
    by false e = refl

value_at : (c : Codes) (items : List PlainFlatItem) (row : Row) (k : ℕ) → k < length items → values_of c items row (place_of_item items k) ≡ datum_of c.width c.symbols (row k)
value_at c items row k h =
    let s : 0 + k ≡ k = omega arith in
    subst (λ i. values_of c items row (place_of_item items i) ≡ datum_of c.width c.symbols (row i)) s
    (found_datum c.width c.symbols (place_of_item items) row (length items) (λ i j. places_differ_law items i j) 0 items k h (omega arith))

-- ---- groups

same_is : (g h : Group) → same_group g h ≡ true → h ≡ g
same_is inputs inputs e = refl
same_is outputs outputs e = refl
same_is locals locals e = refl
same_is inputs outputs e = cc
same_is inputs locals e = cc
same_is outputs inputs e = cc
same_is outputs locals e = cc
same_is locals inputs e = cc
same_is locals outputs e = cc

place_is : (items : List PlainFlatItem) (g : Group) (k : ℕ) (m : PlainFlatItem) → slice_get items k ≡ Some m → same_group g (group_of m.kind) ≡ true → place_of_item items k ≡ group_start items g + length (items_in g (take k items))
place_is items g k m h e = ap (place_among items k) h ∙ ap (λ f. group_start items f + length (items_in f (take k items))) (same_is g (group_of m.kind) e)

module _ (p : PlainFlatItem → Bool) where
  passes_more : (ms : List PlainFlatItem) (k : ℕ) (m : PlainFlatItem) → slice_get ms k ≡ Some m → p m ≡ true → length (filter p (take (suc k) ms)) ≡ suc (length (filter p (take k ms)))
  passes_more [] k m h e = cc
  passes_more (x ∷ ms) zero m h e =
      let same : x ≡ m = cc in
      ap (λ b. length (cond b (x ∷ []) [])) (ap p same ∙ e)
  passes_more (x ∷ ms) (suc k) m h e = by (p x) (passes_more ms k m h e)
    where
      by : (b : Bool) → length (filter p (take (suc k) ms)) ≡ suc (length (filter p (take k ms)))
          → length (cond b (x ∷ filter p (take (suc k) ms)) (filter p (take (suc k) ms))) ≡ suc (length (cond b (x ∷ filter p (take k ms)) (filter p (take k ms))))
      by true i = ap suc i
      by false i = i

  fails_same : (ms : List PlainFlatItem) (k : ℕ) (m : PlainFlatItem) → slice_get ms k ≡ Some m → p m ≡ false → length (filter p (take (suc k) ms)) ≡ length (filter p (take k ms))
  fails_same [] k m h e = cc
  fails_same (x ∷ ms) zero m h e =
      let same : x ≡ m = cc in
      ap (λ b. length (cond b (x ∷ []) [])) (ap p same ∙ e)
  fails_same (x ∷ ms) (suc k) m h e = by (p x) (fails_same ms k m h e)
    where
      by : (b : Bool) → length (filter p (take (suc k) ms)) ≡ length (filter p (take k ms))
          → length (cond b (x ∷ filter p (take (suc k) ms)) (filter p (take (suc k) ms))) ≡ length (cond b (x ∷ filter p (take k ms)) (filter p (take k ms)))
      by true i = ap suc i
      by false i = i

  passes_all : (ms : List PlainFlatItem) (k : ℕ) → k ≡ length ms → length (filter p (take k ms)) ≡ length (filter p ms)
  passes_all [] k h = ap (λ n. length (filter p (take n []))) h
  passes_all (x ∷ ms) zero h = cc
  passes_all (x ∷ ms) (suc k) h = by (p x) (passes_all ms k (omega (arith, h)))
    where
      by : (b : Bool) → length (filter p (take k ms)) ≡ length (filter p ms) → length (cond b (x ∷ filter p (take k ms)) (filter p (take k ms))) ≡ length (cond b (x ∷ filter p ms) (filter p ms))
      by true i = ap suc i
      by false i = i

  passes_most : (ms : List PlainFlatItem) (k : ℕ) → length (filter p (take k ms)) ≤ length (filter p ms)
  passes_most [] zero = omega arith
  passes_most [] (suc k) = omega arith
  passes_most (x ∷ ms) zero = omega arith
  passes_most (x ∷ ms) (suc k) = by (p x) (passes_most ms k)
    where
      by : (b : Bool) → length (filter p (take k ms)) ≤ length (filter p ms) → length (cond b (x ∷ filter p (take k ms)) (filter p (take k ms))) ≤ length (cond b (x ∷ filter p ms) (filter p ms))
      by true i = omega (arith, i)
      by false i = i

-- the variables of a list come before the number of all
group_inside : (items : List PlainFlatItem) (g : Group) → group_end items g ≤ variable_count items
group_inside items inputs = omega arith
group_inside items outputs = omega arith
group_inside items locals = omega arith

-- ---- one item more

codes_long : (es : List Enumeration) (values : Values) (n : ℕ) → length (codes_upto es values n) ≡ n
codes_long es values zero = refl
codes_long es values (suc n) = omega (arith, length-append (codes_upto es values n) (stated_code es values n ∷ []), codes_long es values n)

module _ (c : Codes) (items : List PlainFlatItem) (row : Row) (g : Group) (k : ℕ) (m : PlainFlatItem) (there : slice_get items k ≡ Some m) where
  abbrev before : ℕ
  before = group_start items g + length (items_in g (take k items))

  next : suc k ≡ k + 1
  next = omega arith

  pub item_stated : same_group g (group_of m.kind) ≡ true → (i : ℕ) (w : BitVector) (old new : List Stated) → old ≡ stated_upto c items row g k → i ≡ length old → w ≡ word_of c (row k) → new ≡ old ++ record { index = i; value = w } ∷ []
      → new ≡ stated_upto c items row g (k + 1)
  item_stated same i w old new o index word pushed =
      let es = symbol_sort c.symbols in
      let values = values_of c items row in
      let place : place_of_item items k ≡ before = place_is items g k m there same in
      let here : w ≡ code_of es (values before) = word ∙ ap (code_of es) (sym (value_at c items row k (slice_get_within items k m there)) ∙ ap values place) in
      let number : i ≡ before = index ∙ ap length o ∙ codes_long es values before in
      let more : length (items_in g (take (suc k) items)) ≡ suc (length (items_in g (take k items))) = passes_more (λ x. same_group g (group_of x.kind)) items k m there same in
      let count : suc before ≡ group_start items g + length (items_in g (take (suc k) items)) = omega (arith, more) in
      pushed ∙ ap (λ (xs : List Stated). xs ++ record { index = i; value = w } ∷ []) o
      ∙ ap (λ (x : BitVector). let s : Stated = record { index = i; value = x } in stated_of c items row before ++ s ∷ []) here
      ∙ ap (λ (n : ℕ). let s : Stated = record { index = n; value = code_of es (values before) } in stated_of c items row before ++ s ∷ []) number
      ∙ ap (stated_of c items row) count ∙ ap (stated_upto c items row g) next

  pub item_skipped : same_group g (group_of m.kind) ≡ false → (old : List Stated) → old ≡ stated_upto c items row g k → old ≡ stated_upto c items row g (k + 1)
  item_skipped apart old o =
      let same : length (items_in g (take (suc k) items)) ≡ length (items_in g (take k items)) = fails_same (λ x. same_group g (group_of x.kind)) items k m there apart in
      let count : before ≡ group_start items g + length (items_in g (take (suc k) items)) = omega (arith, same) in
      o ∙ ap (stated_of c items row) count ∙ ap (stated_upto c items row g) next

  -- it has a number
  pub item_numbered : same_group g (group_of m.kind) ≡ true → (old : List Stated) → old ≡ stated_upto c items row g k → length old < variable_count items
  item_numbered same old o =
      let es = symbol_sort c.symbols in
      let long : length old ≡ before = ap length o ∙ codes_long es (values_of c items row) before in
      let more = passes_more (λ x. same_group g (group_of x.kind)) items k m there same in
      by g long (group_inside items g) more (passes_most (λ x. same_group g (group_of x.kind)) items (suc k))
    where
      by : (h : Group) → length old ≡ group_start items h + length (items_in h (take k items)) → group_end items h ≤ variable_count items → length (items_in h (take (suc k) items)) ≡ suc (length (items_in h (take k items)))
          → length (items_in h (take (suc k) items)) ≤ length (items_in h items) → length old < variable_count items
      by h a b d e = omega (arith, a, b, d, e)

-- ---- all items

pub all_stated : (c : Codes) (items : List PlainFlatItem) (row : Row) (g : Group) (k : ℕ) → k ≡ length items → stated_upto c items row g k ≡ stated_of c items row (group_end items g)
all_stated c items row g k h = ap (λ n. stated_of c items row (group_start items g + n)) (passes_all (λ x. same_group g (group_of x.kind)) items k h)

pub none_stated : (c : Codes) (items : List PlainFlatItem) (row : Row) (g : Group) → stated_of c items row (group_start items g) ≡ stated_upto c items row g 0
none_stated c items row g = let n : group_start items g ≡ group_start items g + 0 = omega arith in ap (stated_of c items row) n
