-- The variables of groups of items, and the numbers of the items' variables.
use Rattle.std.proofs.Common.{◌≡◌, ℕ, zero, suc, ◌+◌, ◌≤◌, ◌++◌, get_or, cond, if◌then◌else◌, Bool, true, false, List, [], ◌∷◌, drop, length, map, take, Option, Some, None, refl, sym, ap, ◌∙◌, arith}
use Rattle.std.specs.Prelude.{slice_get}
use mathlib.Core.Path.{fun_ext}
use Rattle.smv_items.specs.declared.items.FlatItem.{FlatItem}
use Rattle.smv_items.specs.FlatItems.{PlainFlatItem}
use Rattle.smv_items.specs.FlatItemView.{item_plain}
use Rattle.moxi_terms.specs.declared.term.Variable.{Variable}
use Rattle.smv_script.specs.Script.{Group, inputs, outputs, locals, same_group, group_of, items_in, variable_of, variables_in, group_start, place_among, place_of_item}
use Rattle.smv_script_terms.specs.declared.variables.Counts.{Counts}
use Rattle.smv_script_terms.specs.Groups.{Numbers, AreAtMost, counts_plain, count_of, counted_on, start_counts, numbers_from}
use Rattle.smv_script_terms.proofs.Steps.{IsOfElements}

-- ---- groups

abbrev pub group_variables : ℕ → Group → List FlatItem → List Variable
group_variables width g xs = variables_in width g (map item_plain xs)

kept : (b : Bool) (width : ℕ) (m : PlainFlatItem) (ms : List PlainFlatItem) → map (variable_of width) (cond b (m ∷ ms) ms) ≡ map (variable_of width) (cond b (m ∷ []) []) ++ map (variable_of width) ms
kept true width m ms = refl
kept false width m ms = refl

pub variable_elements : (width : ℕ) (g : Group) → IsOfElements (group_variables width g)
variable_elements width g x xs = kept (same_group g (group_of x.kind)) width (item_plain x) (items_in g (map item_plain xs))

kept_length : (b : Bool) (m : PlainFlatItem) (ms : List PlainFlatItem) → length (cond b (m ∷ ms) ms) ≡ length (cond b (m ∷ []) []) + length ms
kept_length true m ms = omega arith
kept_length false m ms = omega arith

counted : (g : Group) (m : PlainFlatItem) (ms : List PlainFlatItem) → length (items_in g (m ∷ ms)) ≡ length (items_in g (m ∷ [])) + length (items_in g ms)
counted g m ms = kept_length (same_group g (group_of m.kind)) m (items_in g ms)

pub count_on : (g : Group) (xs : List FlatItem) (i : ℕ) (x : FlatItem) (count next total : ℕ) → drop i xs ≡ x ∷ drop (i + 1) xs → next ≡ count + length (items_in g (item_plain x ∷ []))
    → count + length (items_in g (map item_plain (drop i xs))) ≡ total → next + length (items_in g (map item_plain (drop (i + 1) xs))) ≡ total
count_on g xs i x count next total h e k =
    let c : length (items_in g (map item_plain (drop i xs))) ≡ length (items_in g (item_plain x ∷ [])) + length (items_in g (map item_plain (drop (i + 1) xs))) =
    ap (λ ys. length (items_in g (map item_plain ys))) h ∙ counted g (item_plain x) (map item_plain (drop (i + 1) xs)) in
    omega (arith, e, c, k)

kept_few : (b : Bool) (m : PlainFlatItem) (ms : List PlainFlatItem) (n : ℕ) → length ms ≤ n → length (cond b (m ∷ ms) ms) ≤ suc n
kept_few true m ms n h = omega (arith, h)
kept_few false m ms n h = omega (arith, h)

-- a group has no more items than there are
pub group_few : (g : Group) (xs : List FlatItem) → length (items_in g (map item_plain xs)) ≤ length xs
group_few g [] = omega arith
group_few g (x ∷ xs) = kept_few (same_group g (group_of x.kind)) (item_plain x) (items_in g (map item_plain xs)) (length xs) (group_few g xs)

-- ---- numbers

-- one more in one of the lists
pub one_more : (c d : Counts) (g : Group) (n : ℕ) → counts_plain d ≡ counted_on (counts_plain c) g → AreAtMost n c → AreAtMost (n + 1) d
one_more c d inputs n h a =
    let i : d.inputs ≡ c.inputs + 1 = ap (λ (x : Numbers). x.inputs) h in
    let o : d.outputs ≡ c.outputs = ap (λ (x : Numbers). x.outputs) h in
    let l : d.locals ≡ c.locals = ap (λ (x : Numbers). x.locals) h in
    record { inputs = omega (arith, i, a.inputs); outputs = omega (arith, o, a.outputs); locals = omega (arith, l, a.locals) }
one_more c d outputs n h a =
    let i : d.inputs ≡ c.inputs = ap (λ (x : Numbers). x.inputs) h in
    let o : d.outputs ≡ c.outputs + 1 = ap (λ (x : Numbers). x.outputs) h in
    let l : d.locals ≡ c.locals = ap (λ (x : Numbers). x.locals) h in
    record { inputs = omega (arith, i, a.inputs); outputs = omega (arith, o, a.outputs); locals = omega (arith, l, a.locals) }
one_more c d locals n h a =
    let i : d.inputs ≡ c.inputs = ap (λ (x : Numbers). x.inputs) h in
    let o : d.outputs ≡ c.outputs = ap (λ (x : Numbers). x.outputs) h in
    let l : d.locals ≡ c.locals + 1 = ap (λ (x : Numbers). x.locals) h in
    record { inputs = omega (arith, i, a.inputs); outputs = omega (arith, o, a.outputs); locals = omega (arith, l, a.locals) }

pub numbers_on : (c d : Numbers) (xs : List FlatItem) (i : ℕ) (x : FlatItem) (all more total : List ℕ) (n : ℕ) → drop i xs ≡ x ∷ drop (i + 1) xs → more ≡ all ++ n ∷ [] → n ≡ count_of c (group_of x.kind)
    → d ≡ counted_on c (group_of x.kind) → all ++ numbers_from c (map item_plain (drop i xs)) ≡ total → more ++ numbers_from d (map item_plain (drop (i + 1) xs)) ≡ total
numbers_on c d xs i x all more total n h e m s k =
    ap (λ ys. ys ++ numbers_from d (map item_plain (drop (i + 1) xs))) (e ∙ ap (λ p. all ++ p ∷ []) m)
    ∙ joined all (count_of c (group_of x.kind)) (numbers_from d (map item_plain (drop (i + 1) xs)))
    ∙ ap (λ f. all ++ count_of c (group_of x.kind) ∷ numbers_from f (map item_plain (drop (i + 1) xs))) s
    ∙ ap (λ ys. all ++ numbers_from c (map item_plain ys)) (sym h) ∙ k
  where
    joined : (xs : List ℕ) (y : ℕ) (zs : List ℕ) → (xs ++ y ∷ []) ++ zs ≡ xs ++ y ∷ zs
    joined [] y zs = refl
    joined (x ∷ xs) y zs = ap (λ ys. x ∷ ys) (joined xs y zs)

-- the number of the variable of a numbered item, given the next number in each list
abbrev number_at : Numbers → List PlainFlatItem → ℕ → Option PlainFlatItem → ℕ
number_at c ms k None = 0
number_at c ms k (Some m) = count_of c (group_of m.kind) + length (items_in (group_of m.kind) (take k ms))

-- one more where the groups are one
passed : (c : Numbers) (g h : Group) (n : ℕ) → count_of (counted_on c h) g + n ≡ count_of c g + ((if same_group g h then 1 else 0) + n)
passed c inputs inputs n = omega arith
passed c inputs outputs n = omega arith
passed c inputs locals n = omega arith
passed c outputs inputs n = omega arith
passed c outputs outputs n = omega arith
passed c outputs locals n = omega arith
passed c locals inputs n = omega arith
passed c locals outputs n = omega arith
passed c locals locals n = omega arith

one_if : (b : Bool) (m : PlainFlatItem) (ms : List PlainFlatItem) → (if b then 1 else 0) + length ms ≡ length (cond b (m ∷ ms) ms)
one_if true m ms = omega arith
one_if false m ms = omega arith

number_on : (c : Numbers) (m : PlainFlatItem) (ms : List PlainFlatItem) (k : ℕ) (o : Option PlainFlatItem) → number_at (counted_on c (group_of m.kind)) ms k o ≡ number_at c (m ∷ ms) (suc k) o
number_on c m ms k None = refl
number_on c m ms k (Some n) =
    passed c (group_of n.kind) (group_of m.kind) (length (items_in (group_of n.kind) (take k ms)))
    ∙ ap (λ j. count_of c (group_of n.kind) + j) (one_if (same_group (group_of n.kind) (group_of m.kind)) m (items_in (group_of n.kind) (take k ms)))

numbers_at : (c : Numbers) (ms : List PlainFlatItem) (k : ℕ) → get_or (numbers_from c ms) k 0 ≡ number_at c ms k (slice_get ms k)
numbers_at c [] k = refl
numbers_at c (m ∷ ms) zero = omega arith
numbers_at c (m ∷ ms) (suc k) = numbers_at (counted_on c (group_of m.kind)) ms k ∙ number_on c m ms k (slice_get ms k)

start_is : (items : List PlainFlatItem) (g : Group) → count_of (start_counts items) g ≡ group_start items g
start_is items inputs = refl
start_is items outputs = refl
start_is items locals = refl

place_is : (items : List PlainFlatItem) (k : ℕ) (o : Option PlainFlatItem) → number_at (start_counts items) items k o ≡ place_among items k o
place_is items k None = refl
place_is items k (Some m) = ap (λ n. n + length (items_in (group_of m.kind) (take k items))) (start_is items (group_of m.kind))

-- the places of the code are those of the definition
pub places_are : (items : List PlainFlatItem) (places : List ℕ) → places ≡ numbers_from (start_counts items) items → (λ k. get_or places k 0) ≡ place_of_item items
places_are items places h = fun_ext (λ k. ap (λ ps. get_or ps k 0) h ∙ numbers_at (start_counts items) items k ∙ place_is items k (slice_get items k))
