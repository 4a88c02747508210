-- Values after more changes.
use Rattle.std.proofs.Common.{◌≡◌, ℕ, ◌+◌, ◌-◌, ◌≤◌, List, [], ◌∷◌, ◌++◌, length, map, take, drop, refl, sym, ap, ◌∙◌, arith}
use Rattle.std.specs.Prelude.{Option, Some, None, slice_set}
use Rattle.std.proofs.lemmas.List.{length-set, length-replicate, take-append-le, take-append-drop, take-take, drop-take}
use Rattle.smv_meaning.specs.declared.value.Value.{Value}
use Rattle.smv_items.specs.FlatItems.{PlainFlatItem}
use Rattle.smv_numbered.specs.declared.run.Change.{Change}
use Rattle.smv_numbered.specs.Values.{nothing_stated, stated_by}
use Rattle.smv_numbered.specs.Runs.{stated_at, IsRising}

-- the values after two lists of changes
pub stated_then : (stated : List (Option Value)) (xs ys : List Change) → stated_by stated (xs ++ ys) ≡ stated_by (stated_by stated xs) ys
stated_then stated [] ys = refl
stated_then stated (c ∷ cs) ys = stated_then (slice_set stated c.item (Some c.value)) cs ys

pub stated_push : (stated : List (Option Value)) (cs : List Change) (c : Change) → stated_by stated (cs ++ c ∷ []) ≡ slice_set (stated_by stated cs) c.item (Some c.value)
stated_push stated cs c = stated_then stated cs (c ∷ [])

pub length_stated : (stated : List (Option Value)) (cs : List Change) → length (stated_by stated cs) ≡ length stated
length_stated stated [] = refl
length_stated stated (c ∷ cs) = length_stated (slice_set stated c.item (Some c.value)) cs ∙ length-set stated c.item (Some c.value)

-- there is a place for the value of each item
pub length_all : (items : List PlainFlatItem) (cs : List Change) → length (stated_by (nothing_stated items) cs) ≡ length items
length_all items cs = length_stated (nothing_stated items) cs ∙ length-replicate (length items) None

-- ---- ends

pub rising_low : (low : ℕ) (ns : List ℕ) (high : ℕ) → IsRising low ns high → low ≤ high
rising_low low [] high h = h
rising_low low (n ∷ ns) high h = let l : n ≤ high = rising_low n ns high h.1 in omega (arith, h.0)

pub rising_more : (low : ℕ) (ns : List ℕ) (high more : ℕ) → high ≤ more → IsRising low ns high → IsRising low ns more
rising_more low [] high more l h = omega (arith, h)
rising_more low (n ∷ ns) high more l h = (h.0, rising_more n ns high more l h.1)

pub rising_push : (low : ℕ) (ns : List ℕ) (high : ℕ) → IsRising low ns high → IsRising low (ns ++ high ∷ []) high
rising_push low [] high h = (h, omega arith)
rising_push low (n ∷ ns) high h = (h.0, rising_push n ns high h.1)

-- ---- a change more

-- what is made of the changes up to each end stays the same
pub ends_keep : {X : Type 0} (f : List Change → X) (cs : List Change) (c : Change) (low : ℕ) (ns : List ℕ) → IsRising low ns (length cs) → map (λ n. f (take n (cs ++ c ∷ []))) ns ≡ map (λ n. f (take n cs)) ns
ends_keep f cs c low [] h = refl
ends_keep f cs c low (n ∷ ns) h =
    let here = ap f (take-append-le n cs (c ∷ []) (rising_low n ns (length cs) h.1)) in
    let behind = ends_keep f cs c n ns h.1 in
    ap (λ x. x ∷ map (λ k. f (take k (cs ++ c ∷ []))) ns) here ∙ ap (λ xs. f (take n cs) ∷ xs) behind

-- ---- one end after another

upto : (cs : List Change) (low high : ℕ) → low ≤ high → take high cs ≡ take low cs ++ take (high - low) (drop low cs)
upto cs low high l =
    let n : low + (high - low) ≡ high = omega arith in
    sym (take-append-drop low (take high cs))
    ∙ ap (λ xs. xs ++ drop low (take high cs)) (take-take low high cs l)
    ∙ ap (λ k. take low cs ++ drop low (take k cs)) (sym n)
    ∙ ap (λ xs. take low cs ++ xs) (drop-take low (high - low) cs)

pub stated_on : (items : List PlainFlatItem) (cs : List Change) (low high : ℕ) → low ≤ high → stated_by (stated_at items cs low) (take (high - low) (drop low cs)) ≡ stated_at items cs high
stated_on items cs low high l =
    sym (stated_then (nothing_stated items) (take low cs) (take (high - low) (drop low cs))) ∙ ap (stated_by (nothing_stated items)) (sym (upto cs low high l))
