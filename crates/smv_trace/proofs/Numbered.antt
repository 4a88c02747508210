-- Readings that hold stated values by the numbers of their items.
use Rattle.std.proofs.Common.{◌≡◌, ℕ, Bool, true, false, not, ◌&&◌, ◌||◌, Option, Some, None, is_none, List, [], ◌∷◌, ◌++◌, length, map, set, refl, sym, ap, ◌∙◌, subst, arith}
use Rattle.std.specs.Prelude.{if◌then◌else◌, is_some, replicate, slice_set, Result, Ok}
use Rattle.std.proofs.lemmas.List.{map-append, map-set, length-map, take_all, length_push}
use Rattle.text_core.specs.declared.place.Place.{Place}
use Rattle.text_core.specs.declared.place.Refusal.{Refusal}
use Rattle.smv_meaning.specs.declared.value.Value.{Value}
use Rattle.smv_meaning.specs.declared.value.Given.{Given}
use Rattle.smv_items.specs.FlatItems.{PlainFlatItem}
use Rattle.smv_numbered.specs.declared.heading.Heading.{Heading}
use Rattle.smv_numbered.specs.declared.heading.Heading.TheVariants.{State, Input}
use Rattle.smv_numbered.specs.declared.run.Change.{Change}
use Rattle.smv_numbered.specs.Values.{picks, values_of, nothing_stated, stated_by}
use Rattle.smv_numbered.specs.Runs.{stated_at, state_at, label_at, states_of, labels_of, IsRising}
use Rattle.smv_numbered.specs.laws.Stated.{stated_push, length_all, rising_more, rising_push, ends_keep}
use Rattle.smv_trace.specs.Reading.{Reading, lacks, with_state, with_value}
use Rattle.smv_trace.specs.Numbering.{Numbering, stated_in, reading_of, lacks_known, IsKept}
use Rattle.text_core.specs.Bytes.{is_empty}

-- ---- which items have a value

none_unknown : {X : Type 0} (v : Option X) → is_none v ≡ not (is_some v)
none_unknown None = refl
none_unknown (Some x) = refl

pub lacks_as_known : (h : Heading) (items : List PlainFlatItem) (vs : List (Option Value)) → lacks h items vs ≡ lacks_known h items (map is_some vs)
lacks_as_known h [] vs = refl
lacks_as_known h (m ∷ ms) [] = refl
lacks_as_known h (m ∷ ms) (v ∷ vs) =
    ap (λ b. (picks h m.kind && b) || lacks h ms vs) (none_unknown v) ∙ ap (λ b. (picks h m.kind && not (is_some v)) || b) (lacks_as_known h ms vs)

pub known_long : (items : List PlainFlatItem) (known : List Bool) (cs : List Change) (ns : List ℕ) → IsKept items known cs ns → length known ≡ length items
known_long items known cs ns kept = ap length kept.known_are ∙ length-map (stated_by (nothing_stated items) cs) is_some ∙ length_all items cs

pub lacks_is : (h : Heading) (items : List PlainFlatItem) (known : List Bool) (cs : List Change) (ns : List ℕ) → IsKept items known cs ns → lacks_known h items known ≡ lacks h items (stated_by (nothing_stated items) cs)
lacks_is h items known cs ns kept = ap (lacks_known h items) kept.known_are ∙ sym (lacks_as_known h items (stated_by (nothing_stated items) cs))

-- ---- what is kept

none_known : {X : Type 0} (items : List X) → replicate (length items) false ≡ map (λ (o : Option Value). is_some o) (replicate (length items) None)
none_known [] = refl
none_known (x ∷ xs) = ap (λ bs. false ∷ bs) (none_known xs)

pub kept_first : (items : List PlainFlatItem) (known : List Bool) → known ≡ replicate (length items) false → IsKept items known [] []
kept_first items known e = record { known_are = e ∙ none_known items; rising = omega arith }

pub kept_end : (items : List PlainFlatItem) (known : List Bool) (cs : List Change) (ns : List ℕ) → IsKept items known cs ns → IsKept items known cs (ns ++ length cs ∷ [])
kept_end items known cs ns kept = record { known_are = kept.known_are; rising = rising_push 0 ns (length cs) kept.rising }

pub kept_value : (items : List PlainFlatItem) (known : List Bool) (cs : List Change) (ns : List ℕ) (c : Change) → IsKept items known cs ns → IsKept items (set known c.item true) (cs ++ c ∷ []) ns
kept_value items known cs ns c kept =
    let stated = stated_by (nothing_stated items) cs in record {
      known_are = ap (λ bs. set bs c.item true) kept.known_are ∙ sym (map-set is_some stated c.item (Some c.value)) ∙ ap (map is_some) (sym (stated_push (nothing_stated items) cs c));
      rising = rising_more 0 ns (length cs) (length (cs ++ c ∷ [])) (omega (arith, length_push cs c)) kept.rising;
    }

pub kept_none : (items : List PlainFlatItem) (known : List Bool) (cs : List Change) (ns : List ℕ) → known ≡ replicate (length items) false → cs ≡ [] → ns ≡ [] → IsKept items known cs ns
kept_none items known cs ns e f g =
    subst (λ (xs : List Change). IsKept items known xs ns) (sym f) (subst (λ (ks : List ℕ). IsKept items known [] ks) (sym g) (kept_first items known e))

pub kept_with : (items : List PlainFlatItem) (known : List Bool) (cs : List Change) (ns new : List ℕ) (end : ℕ) → IsKept items known cs ns → new ≡ ns ++ end ∷ [] → end ≡ length cs → IsKept items known cs new
kept_with items known cs ns new end kept e f =
    subst (λ (ks : List ℕ). IsKept items known cs ks) (sym (e ∙ ap (λ k. ns ++ k ∷ []) f)) (kept_end items known cs ns kept)

pub same_ends : (items : List PlainFlatItem) (known : List Bool) (cs : List Change) (ns new : List ℕ) → IsKept items known cs ns → new ≡ ns → IsKept items known cs new
same_ends items known cs ns new kept e = subst (λ (ks : List ℕ). IsKept items known cs ks) (sym e) kept

pub kept_more : (items : List PlainFlatItem) (known : List Bool) (cs new : List Change) (ns : List ℕ) (c : Change) → IsKept items known cs ns → new ≡ cs ++ c ∷ [] → IsKept items (set known c.item true) new ns
kept_more items known cs new ns c kept e = subst (λ (xs : List Change). IsKept items (set known c.item true) xs ns) (sym e) (kept_value items known cs ns c kept)

-- ---- steps

ends_grown : {X : Type 0} (f : ℕ → X) (x : X) (ns : List ℕ) (n : ℕ) → f n ≡ x → map f (ns ++ n ∷ []) ≡ map f ns ++ x ∷ []
ends_grown f x ns n e = map-append f ns (n ∷ []) ∙ ap (λ y. map f ns ++ y ∷ []) e

values_here : (h : Heading) (items : List PlainFlatItem) (cs : List Change) → values_of h items (stated_at items cs (length cs)) ≡ values_of h items (stated_by (nothing_stated items) cs)
values_here h items cs = ap (λ xs. values_of h items (stated_by (nothing_stated items) xs)) (take_all (length cs) cs (omega arith))

states_grown : (items : List PlainFlatItem) (cs : List Change) (ns : List ℕ) → states_of items cs (ns ++ length cs ∷ []) ≡ states_of items cs ns ++ values_of State items (stated_by (nothing_stated items) cs) ∷ []
states_grown items cs ns = ends_grown (state_at items cs) _ ns (length cs) (values_here State items cs)

labels_grown : (items : List PlainFlatItem) (cs : List Change) (ns : List ℕ)
    → labels_of items cs (ns ++ length cs ∷ []) ≡ (if is_empty (states_of items cs ns) then labels_of items cs ns else labels_of items cs ns ++ values_of Input items (stated_by (nothing_stated items) cs) ∷ [])
labels_grown items cs [] = refl
labels_grown items cs (n ∷ ns) = ends_grown (label_at items cs) _ ns (length cs) (values_here Input items cs)

abbrev built : Numbering → List (Option Value) → List (List Given) → List (List Given) → Reading
built r stated states labels = record { heading = r.heading; place = r.place; first = r.first; stated = stated; states = states; labels = labels }

-- one more state, with its label
pub state_added : (r : Numbering) → reading_of (record r { ends = r.ends ++ length r.changes ∷ [] }) ≡ with_state r.table (reading_of r)
state_added r =
    let items = r.table.items in
    ap (λ xs. built r (stated_in r) xs (labels_of items r.changes (r.ends ++ length r.changes ∷ []))) (states_grown items r.changes r.ends)
    ∙ ap (λ ls. built r (stated_in r) (states_of items r.changes r.ends ++ values_of State items (stated_in r) ∷ []) ls) (labels_grown items r.changes r.ends)

labels_keep : (items : List PlainFlatItem) (cs : List Change) (c : Change) (ns : List ℕ) → IsRising 0 ns (length cs) → labels_of items (cs ++ c ∷ []) ns ≡ labels_of items cs ns
labels_keep items cs c [] h = refl
labels_keep items cs c (n ∷ ns) h = ends_keep (λ xs. values_of Input items (stated_by (nothing_stated items) xs)) cs c n ns h.1

-- one more value
pub value_added : (r : Numbering) (c : Change) → IsRising 0 r.ends (length r.changes)
    → reading_of (record r { changes = r.changes ++ c ∷ [] }) ≡ built r (slice_set (stated_in r) c.item (Some c.value)) (states_of r.table.items r.changes r.ends) (labels_of r.table.items r.changes r.ends)
value_added r c h =
    let items = r.table.items in
    let more = r.changes ++ c ∷ [] in
    ap (λ s. built r s (states_of items more r.ends) (labels_of items more r.ends)) (stated_push (nothing_stated items) r.changes c)
    ∙ ap (λ xs. built r (slice_set (stated_in r) c.item (Some c.value)) xs (labels_of items more r.ends)) (ends_keep (λ xs. values_of State items (stated_by (nothing_stated items) xs)) r.changes c 0 r.ends h)
    ∙ ap (λ ls. built r (slice_set (stated_in r) c.item (Some c.value)) (states_of items r.changes r.ends) ls) (labels_keep items r.changes c r.ends h)

pub state_ended : (r s : Numbering) (n : ℕ) (new : List ℕ) → r ≡ s → n ≡ length r.changes → new ≡ r.ends ++ n ∷ [] → reading_of (record r { ends = new }) ≡ with_state s.table (reading_of s)
state_ended r s n new e f g =
    ap (λ ns. reading_of (record r { ends = ns })) (g ∙ ap (λ k. r.ends ++ k ∷ []) f) ∙ state_added r ∙ ap (λ (x : Numbering). with_state x.table (reading_of x)) e

pub value_stated : (at : Place) (r s : Numbering) (k : ℕ) (v : Value) (o : Option Value) (new : List Change) → IsRising 0 r.ends (length r.changes) → r ≡ s → o ≡ Some v → new ≡ r.changes ++ record { item = k; value = v } ∷ []
    → with_value at k (reading_of s) o ≡ Ok (reading_of (record r { changes = new }))
value_stated at r s k v o new h e f g =
    ap (with_value at k (reading_of s)) f ∙ ap (λ (x : Numbering). with_value at k (reading_of x) (Some v)) (sym e)
    ∙ ap done (sym (value_added r (record { item = k; value = v }) h) ∙ ap (λ cs. reading_of (record r { changes = cs })) (sym g))
  where
    done : Reading → Result Reading Refusal
    done x = Ok x
