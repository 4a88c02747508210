-- Places that are known by a table of slots, and else by a map.
use Rattle.std.proofs.Common.{◌≡◌, ◌<◌, ℕ, Bool, true, false, cond, get_or, List, [], ◌∷◌, ◌++◌, length, Option, Some, None, refl, sym, ap, ◌∙◌, subst, arith, inl, inr, eqb}
use Rattle.std.specs.Prelude.{slice_get, IfOk}
use Rattle.std.specs.declared.result.Result.{Result}
use Rattle.std.specs.declared.result.Result.TheVariants.{Ok, Err}
use Rattle.std.specs.Option.{option_or}
use Rattle.std.specs.BTreeMap.{BTreeMap, IsUnchanged, get, is_at}
use Rattle.std.specs.Map.{lookup}
use Rattle.std.proofs.lemmas.Bool.{eq-eqb, ne_eqb, cases_eq, false_from_ne_true}
use Rattle.std.proofs.lemmas.List.{length_push}
use Rattle.std.proofs.lemmas.Option.{same_Some, none-some}
use Rattle.btor_tree.specs.declared.line_key.LineKey.{LineKey}
use Rattle.btor_tree.specs.declared.line_places.LinePlaces.{LinePlaces}
use Rattle.btor_tree.specs.declared.lines.Line.{Line}
use Rattle.btor_tree.specs.LineKeys.{IsShort, line_key, key_cmp, is_keyed, is_keyed_at, place_keyed, slot_of, known_from, HasPlaces, EntersKey}
use Rattle.btor_tree.specs.Sharing.{is_equal_line, is_shared, placed, standing}
use Rattle.btor_tree.proofs.Grows.{slice_get_front, slice_get_end, inside_get}
use Rattle.btor_tree.proofs.Keyed.{alike_keyed, at_same, other_keyed, place_more, place_push, push_not, standing_keyed, unshared_keyed}

not_at : (k q : LineKey) → (k ≡ q → ⊥) → is_at (key_cmp k) q ≡ false
not_at k q h = false_from_ne_true _ (λ e. h (at_same k q e))

abbrev at_slot : LinePlaces → LineKey → Option ℕ
at_slot places k = get_or places.slots.items (slot_of k) None

pub none_placed : (places : LinePlaces) → ((i : ℕ) → get_or places.slots.items i None ≡ None) → ((k : LineKey) → get key_cmp places.others k ≡ None) → HasPlaces [] places
none_placed places slots others =
    record {
      by_key = λ k. ap (known_from [] places.others k) (slots (slot_of k));
      there = λ i p e. absurd (none-some p (sym (slots i) ∙ e));
      behind = λ k e. others k;
    }

-- places that answer the same
from_same : (lines : List Line) (q : LineKey) (a b : BTreeMap LineKey ℕ) (o : Option ℕ) → get key_cmp a q ≡ get key_cmp b q → known_from lines a q o ≡ known_from lines b q o
from_same lines q a b None h = refl
from_same lines q a b (Some p) h = ap (λ r. cond (is_keyed_at q (slice_get lines p)) (Some p) r) h

has_same : (lines : List Line) (old new : LinePlaces) → ((i : ℕ) → get_or new.slots.items i None ≡ get_or old.slots.items i None) → ((q : LineKey) → get key_cmp new.others q ≡ get key_cmp old.others q) → HasPlaces lines old → HasPlaces lines new
has_same lines old new slots others has =
    record {
      by_key = λ q. ap (known_from lines new.others q) (slots (slot_of q)) ∙ from_same lines q new.others old.others (at_slot old q) (others q) ∙ has.by_key q;
      there = λ i p e. has.there i p (sym (slots i) ∙ e);
      behind = λ q e. others q ∙ has.behind q (sym (slots (slot_of q)) ∙ e);
    }

pub others_same : (lines : List Line) (old new : LinePlaces) → new.slots ≡ old.slots → IsUnchanged old.others new.others → HasPlaces lines old → HasPlaces lines new
others_same lines old new slots h has =
    has_same lines old new (λ i. ap (λ fs. get_or fs.items i None) slots) (λ q. ap (lookup (is_at (key_cmp q))) h) has

-- what the places answer for a line
module _ (lines : List Line) (l : Line) (old : LinePlaces) (has : HasPlaces lines old) (shared : is_shared l.op ≡ true) (short : IsShort l.args) where
  known_standing : (o : Option ℕ) → at_slot old (line_key l) ≡ o → known_from lines old.others (line_key l) o ≡ standing lines l.op l.sort l.args
  known_standing o e =
      ap (known_from lines old.others (line_key l)) (sym e) ∙ has.by_key (line_key l) ∙ sym (standing_keyed lines l shared short)

  pub none_found : at_slot old (line_key l) ≡ None → None ≡ standing lines l.op l.sort l.args
  none_found e = known_standing None e

  alike_there : (p : ℕ) (m : Line) (b : Bool) → slice_get lines p ≡ Some m → is_equal_line l.op l.sort l.args m ≡ b → is_keyed_at (line_key l) (slice_get lines p) ≡ b
  alike_there p m b at e = ap (is_keyed_at (line_key l)) at ∙ sym (alike_keyed l.op l.sort l.args m shared short) ∙ e

  pub slot_found : (p : ℕ) (m : Line) → at_slot old (line_key l) ≡ Some p → slice_get lines p ≡ Some m → is_equal_line l.op l.sort l.args m ≡ true → Some p ≡ standing lines l.op l.sort l.args
  slot_found p m first at e =
      ap (λ b. cond b (Some p) (get key_cmp old.others (line_key l))) (sym (alike_there p m true at e)) ∙ known_standing (Some p) first

  pub other_found : (p : ℕ) (m : Line) → at_slot old (line_key l) ≡ Some p → slice_get lines p ≡ Some m → is_equal_line l.op l.sort l.args m ≡ false → get key_cmp old.others (line_key l) ≡ standing lines l.op l.sort l.args
  other_found p m first at e =
      ap (λ b. cond b (Some p) (get key_cmp old.others (line_key l))) (sym (alike_there p m false at e)) ∙ known_standing (Some p) first

-- one line more
module _ (lines : List Line) (l : Line) (old : LinePlaces) (has : HasPlaces lines old) where
  at_front : (i p : ℕ) → get_or old.slots.items i None ≡ Some p → slice_get (lines ++ l ∷ []) p ≡ slice_get lines p
  at_front i p e =
      let g = inside_get lines p (has.there i p e) in
      slice_get_front lines (l ∷ []) p g.0 g.1 ∙ sym g.1

  from_front : (q : LineKey) (o : Option ℕ) → at_slot old q ≡ o → known_from (lines ++ l ∷ []) old.others q o ≡ known_from lines old.others q o
  from_front q None e = refl
  from_front q (Some p) e =
      ap (λ x. cond (is_keyed_at q x) (Some p) (get key_cmp old.others q)) (at_front (slot_of q) p e)

  there_more : (i p : ℕ) → get_or old.slots.items i None ≡ Some p → p < length (lines ++ l ∷ [])
  there_more i p e = omega (arith, has.there i p e, length_push lines l)

  by_other : (q : LineKey) → is_keyed q l ≡ false → known_from (lines ++ l ∷ []) old.others q (at_slot old q) ≡ place_keyed (lines ++ l ∷ []) q
  by_other q h = from_front q (at_slot old q) refl ∙ has.by_key q ∙ push_not lines l q h

  absent : (q : LineKey) → at_slot old q ≡ None → place_keyed lines q ≡ None
  absent q e = sym (has.by_key q) ∙ ap (known_from lines old.others q) e

  pub has_other : is_shared l.op ≡ false → HasPlaces (lines ++ l ∷ []) old
  has_other h = record { by_key = λ q. by_other q (unshared_keyed q l h); there = there_more; behind = has.behind }

-- the slots with a place at that of a key
abbrev Sets : LinePlaces → LinePlaces → LineKey → ℕ → Type 0
Sets old new key place = (i : ℕ) → get_or new.slots.items i None ≡ cond (eqb i (slot_of key)) (Some place) (get_or old.slots.items i None)

-- a line whose slot is free
module _ (lines : List Line) (l : Line) (old new : LinePlaces) (has : HasPlaces lines old) (sets : Sets old new (line_key l) (length lines)) (others : new.others ≡ old.others) (none : at_slot old (line_key l) ≡ None) where
  here : (i : ℕ) → i ≡ slot_of (line_key l) → get_or new.slots.items i None ≡ Some (length lines)
  here i e = sets i ∙ ap (λ b. cond b (Some (length lines)) (get_or old.slots.items i None)) (eq-eqb i (slot_of (line_key l)) e)

  elsewhere : (i : ℕ) → (i ≡ slot_of (line_key l) → ⊥) → get_or new.slots.items i None ≡ get_or old.slots.items i None
  elsewhere i d = sets i ∙ ap (λ b. cond b (Some (length lines)) (get_or old.slots.items i None)) (ne_eqb i (slot_of (line_key l)) d)

  by_set : (q : LineKey) → known_from (lines ++ l ∷ []) new.others q (at_slot new q) ≡ place_keyed (lines ++ l ∷ []) q
  by_set q =
      elim (cases_eq (slot_of q) (slot_of (line_key l))) [
        | inl e ↦
            let nothing : at_slot old q ≡ None = ap (λ i. get_or old.slots.items i None) e ∙ none in
            ap (known_from (lines ++ l ∷ []) new.others q) (here (slot_of q) e)
            ∙ ap (λ x. cond (is_keyed_at q x) (Some (length lines)) (get key_cmp new.others q)) (slice_get_end lines l)
            ∙ ap (λ o. cond (is_keyed q l) (Some (length lines)) (get key_cmp o q)) others
            ∙ ap (λ r. cond (is_keyed q l) (Some (length lines)) r) (has.behind q nothing)
            ∙ sym (place_push lines l q ∙ ap (λ r. option_or r (cond (is_keyed q l) (Some (length lines)) None)) (absent lines l old has q nothing))
        | inr d ↦
            ap (known_from (lines ++ l ∷ []) new.others q) (elsewhere (slot_of q) d)
            ∙ ap (λ o. known_from (lines ++ l ∷ []) o q (at_slot old q)) others
            ∙ by_other lines l old has q (other_keyed q l (λ s. d (ap slot_of s)))
      ]

  there_set : (i p : ℕ) → get_or new.slots.items i None ≡ Some p → p < length (lines ++ l ∷ [])
  there_set i p e =
      elim (cases_eq i (slot_of (line_key l))) [
        | inl s ↦ omega (arith, same_Some (length lines) p (sym (here i s) ∙ e), length_push lines l)
        | inr d ↦ there_more lines l old has i p (sym (elsewhere i d) ∙ e)
      ]

  behind_set : (q : LineKey) → at_slot new q ≡ None → get key_cmp new.others q ≡ None
  behind_set q h =
      elim (cases_eq (slot_of q) (slot_of (line_key l))) [
        | inl e ↦ absurd (none-some (length lines) (sym h ∙ here (slot_of q) e))
        | inr d ↦ ap (λ o. get key_cmp o q) others ∙ has.behind q (sym (elsewhere (slot_of q) d) ∙ h)
      ]

  pub set_has : HasPlaces (lines ++ l ∷ []) new
  set_has = record { by_key = by_set; there = there_set; behind = behind_set }

-- a line whose slot another one has
module _ (lines : List Line) (l : Line) (old new : LinePlaces) (has : HasPlaces lines old) (slots : new.slots ≡ old.slots) (there : ℕ) (first : at_slot old (line_key l) ≡ Some there) where
  slot_same : (i : ℕ) → get_or new.slots.items i None ≡ get_or old.slots.items i None
  slot_same i = ap (λ fs. get_or fs.items i None) slots

  not_none : (q : LineKey) → at_slot old q ≡ None → line_key l ≡ q → ⊥
  not_none q e s = none-some there (sym e ∙ ap (at_slot old) (sym s) ∙ first)

  module _ (shared : is_shared l.op ≡ true) (nowhere : place_keyed lines (line_key l) ≡ None) (enters : EntersKey key_cmp None (line_key l) (length lines) old.others new.others) where
    from_more : (q : LineKey) (o : Option ℕ) → at_slot old q ≡ o → known_from (lines ++ l ∷ []) new.others q o ≡ place_keyed (lines ++ l ∷ []) q
    from_more q None e = sym (absent lines l old has q e) ∙ push_not lines l q (other_keyed q l (λ s. not_none q e (sym s)))
    from_more q (Some p) e =
        ap (λ x. cond (is_keyed_at q x) (Some p) (get key_cmp new.others q)) (at_front lines l old has (slot_of q) p e) ∙ go (is_keyed_at q (slice_get lines p)) refl
      where
        known : (b : Bool) → is_keyed_at q (slice_get lines p) ≡ b → cond b (Some p) (get key_cmp old.others q) ≡ place_keyed lines q
        known b t =
            ap (λ c. cond c (Some p) (get key_cmp old.others q)) (sym t) ∙ ap (known_from lines old.others q) (sym e) ∙ has.by_key q

        go : (b : Bool) → is_keyed_at q (slice_get lines p) ≡ b → cond b (Some p) (get key_cmp new.others q) ≡ place_keyed (lines ++ l ∷ []) q
        go true t = ap (λ r. option_or r (cond (is_keyed q l) (Some (length lines)) None)) (known true t) ∙ sym (place_push lines l q)
        go false t =
            enters q ∙ ap (λ r. cond (is_at (key_cmp (line_key l)) q) (Some (length lines)) r) (known false t)
            ∙ place_more lines l q shared nowhere (is_at (key_cmp (line_key l)) q) refl

    behind_more : (q : LineKey) → at_slot new q ≡ None → get key_cmp new.others q ≡ None
    behind_more q h =
        let e : at_slot old q ≡ None = sym (slot_same (slot_of q)) ∙ h in
        enters q ∙ ap (λ b. cond b (Some (length lines)) (get key_cmp old.others q)) (not_at (line_key l) q (not_none q e)) ∙ has.behind q e

    map_more : HasPlaces (lines ++ l ∷ []) new
    map_more =
        record {
          by_key = λ q. ap (known_from (lines ++ l ∷ []) new.others q) (slot_same (slot_of q)) ∙ from_more q (at_slot old q) refl;
          there = λ i p e. there_more lines l old has i p (sym (slot_same i) ∙ e);
          behind = behind_more;
        }

  map_has : is_shared l.op ≡ true → IsShort l.args → (found : Option ℕ) → found ≡ standing lines l.op l.sort l.args → EntersKey key_cmp found (line_key l) (length lines) old.others new.others → HasPlaces (placed found lines l).0 new
  map_has shared short (Some p) f h = others_same lines old new slots h has
  map_has shared short None f h = map_more shared (sym (f ∙ standing_keyed lines l shared short)) h

  -- where it was not refused
  pub map_both : {E : Type 0} (r : Result (Option ℕ) E) (key : LineKey) → is_shared l.op ≡ true → IsShort l.args → key ≡ line_key l → IfOk r (λ found. found ≡ standing lines l.op l.sort l.args) → IfOk r (λ found. EntersKey key_cmp found key (length lines) old.others new.others) → IfOk r (λ found. HasPlaces (placed found lines l).0 new)
  map_both (Ok found) key shared short e f h =
      map_has shared short found f (subst (λ k. EntersKey key_cmp found k (length lines) old.others new.others) e h)
  map_both (Err e) key shared short _ f h = tt
