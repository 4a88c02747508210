-- Definitions and actuals by their numbers, in order.
use Rattle.std.proofs.Common.{◌≡◌, ℕ, zero, suc, ◌+◌, ◌<◌, true, nat_lt, List, [], ◌∷◌, ◌++◌, map, length, take, drop, sym, ap, ◌∙◌, subst, arith}
use Rattle.std.specs.Prelude.{slice_index_or}
use Rattle.std.specs.List.{list_all}
use Rattle.std.proofs.lemmas.Bool.{ltb-true}
use Rattle.std.proofs.lemmas.List.{length-map, get_or-map, map-append, take_more, drop_more, take-append-drop}
use Rattle.smv_references.specs.declared.bodies.Body.{Body as Kept}
use Rattle.smv_meaning.specs.Instances.{Instance}
use Rattle.smv_meaning.specs.Expressions.{paths_of}
use Rattle.smv_meaning.specs.Names.{Local}
use Rattle.smv_meaning.specs.Phases.{refers, referred}
use Rattle.smv_meaning.specs.Settled.{NamesSettle, TypesSettle}
use Rattle.smv_meaning.specs.Bodies.{Placed, placed_bodies, bodies_of, references_of, reference_graph, IsBodyOrder}
use Rattle.smv_meaning.specs.Orders.{numbered, is_listed, ReferencesComeBefore, TypesHangOnPaths}
use Rattle.smv_references.specs.View.{body_plain, key_of}
use Rattle.smv_model_types.specs.Entries.{Entries, IsPut}
use Rattle.smv_model_types.specs.Kept.{HasReferred}
use Rattle.smv_model_types.proofs.Filling.{both_true, looked, Holds, paths_right, one_more}

each_low : (n : ℕ) (xs : List ℕ) (k d : ℕ) → list_all (λ x. nat_lt x n) xs ≡ true → k < length xs → slice_index_or xs k d < n
each_low n [] k d h l = absurd (omega (arith, l))
each_low n (x ∷ xs) zero d h l = ltb-true x n (both_true (nat_lt x n) (list_all (λ y. nat_lt y n) xs) h).0
each_low n (x ∷ xs) (suc k) d h l = each_low n xs k d (both_true (nat_lt x n) (list_all (λ y. nat_lt y n) xs) h).1 (omega (arith, l))

bodies_counted : (t : List Instance) (fs : List Kept) → map body_plain fs ≡ placed_bodies t → length (reference_graph t) ≡ length fs
bodies_counted t fs e = length-map (bodies_of t) (references_of t) ∙ length-map (placed_bodies t) (λ f. f.body) ∙ sym (ap length e) ∙ length-map fs body_plain

-- a number of an order is one of a definition or an actual
pub number_low : (t : List Instance) (fs : List Kept) (order : List ℕ) (k n : ℕ) → map body_plain fs ≡ placed_bodies t → IsBodyOrder t order → k < length order → n ≡ slice_index_or order k n → n < length fs
number_low t fs order k n e o l is =
    omega (arith, is, bodies_counted t fs e, each_low (length (reference_graph t)) order k n o.sorted.within l)

-- the definition or the actual with a number
key_is : (t : List Instance) (fs : List Kept) (n : ℕ) (f : Kept) → map body_plain fs ≡ placed_bodies t → n < length fs → f ≡ slice_index_or fs n f → numbered t n ≡ key_of f
key_is t fs n f e l is =
    ap (λ ps. slice_index_or (map (λ (p : Placed). p.body) ps) n (0, [])) (sym e)
    ∙ get_or-map (λ (p : Placed). p.body) (map body_plain fs) n (body_plain f) (0, []) (omega (arith, l, length-map fs body_plain))
    ∙ ap (λ (p : Placed). p.body) (get_or-map body_plain fs n f (body_plain f) l)
    ∙ ap key_of (sym is)

parted : (order : List ℕ) (k n : ℕ) → k < length order → n ≡ slice_index_or order k n → order ≡ take k order ++ n ∷ drop (k + 1) order
parted order k n l is = sym (take-append-drop k order) ∙ ap (λ xs. take k order ++ xs) (drop_more order k n l ∙ ap (λ m. m ∷ drop (k + 1) order) (sym is))

-- one more of the order is put into the entries
pub next_put : (t : List Instance) (fs : List Kept) (order : List ℕ) (k n : ℕ) (f : Kept) (old new : Entries) → map body_plain fs ≡ placed_bodies t → IsBodyOrder t order → NamesSettle → TypesSettle → TypesHangOnPaths → ReferencesComeBefore
    → k < length order → n ≡ slice_index_or order k n → f ≡ slice_index_or fs n f → IsPut t (key_of f) old new
    → Holds t old (map (numbered t) (take k order)) → Holds t new (map (numbered t) (take (k + 1) order))
next_put t fs order k n f old new e o names types hang before l is fis b h =
    let low = number_low t fs order k n e o l is in
    let key : numbered t n ≡ key_of f = key_is t fs n f e low fis in
    let refs = before t (take k order) (drop (k + 1) order) n (subst (IsBodyOrder t) (parted order k n l is) o) in
    let more : map (numbered t) (take (k + 1) order) ≡ map (numbered t) (take k order) ++ key_of f ∷ [] =
    ap (map (numbered t)) (take_more order k n l ∙ ap (λ m. take k order ++ m ∷ []) (sym is)) ∙ map-append (numbered t) (take k order) (n ∷ []) ∙ ap (λ q. map (numbered t) (take k order) ++ q ∷ []) key in
    subst (Holds t new) (sym more)
    (one_more t old new (key_of f) (map (numbered t) (take k order)) o.acyclic names types hang (ap (λ q. list_all (is_listed (map (numbered t) (take k order))) (refers t q)) (sym key) ∙ refs) b h)

-- what the next of the order refers to is in the entries
pub next_referred : (t : List Instance) (fs : List Kept) (order : List ℕ) (k n : ℕ) (f : Kept) (entries : Entries) → map body_plain fs ≡ placed_bodies t → IsBodyOrder t order → NamesSettle → TypesSettle → ReferencesComeBefore
    → k < length order → n ≡ slice_index_or order k n → f ≡ slice_index_or fs n f → Holds t entries (map (numbered t) (take k order)) → HasReferred t entries (key_of f)
next_referred t fs order k n f entries b o names types before l is fis h j e at =
    let ks = map (numbered t) (take k order) in
    let key : numbered t n ≡ key_of f = key_is t fs n f b (number_low t fs order k n b o l is) fis in
    let refs : list_all (is_listed ks) (refers t (key_of f)) ≡ true = ap (λ q. list_all (is_listed ks) (refers t q)) (sym key) ∙ before t (take k order) (drop (k + 1) order) n (subst (IsBodyOrder t) (parted order k n l is) o) in
    paths_right t entries ks (names t o.acyclic).1 (types t o.acyclic true) h j (paths_of e [])
    (subst (λ (m : Local). list_all (is_listed ks) (referred t (looked t) m) ≡ true) at refs)
