-- The statements of a part: which word is stated of a number, and how words are put in place.
use Rattle.std.proofs.Common.{◌≡◌, ◌≢◌, ℕ, zero, suc, ◌+◌, ◌<◌, Bool, true, false, cond, eqb, List, [], ◌∷◌, ◌++◌, length, take, map, get_or, set, option_map, Option, Some, None, refl, sym, ap, ◌∙◌, subst, arith, inl, inr, get_or-set_other, get_or-set_same}
use Rattle.std.specs.Prelude.{slice_get}
use Rattle.std.specs.Option.{option_or}
use Rattle.std.specs.List.{AllByRecursion}
use Rattle.std.proofs.Math.ListN.{length-set}
use Rattle.std.proofs.lemmas.List.{take_more, map_more}
use Rattle.std.proofs.lemmas.Bool.{cases_Bool, eqb-true, eqb-false, eq-eqb, cond-true, cond-false, or_parts}
use Rattle.std.proofs.lemmas.Option.{none-some, same_Some}
use Rattle.word_core.specs.Words.{BitVector, IsWord}
use Rattle.btor_tree.specs.Frame.{nothing, word_at}
use Rattle.btor_tree.proofs.Widths.{option_cases}
use Rattle.btor_tree.proofs.Grows.{slice_get_inside}
use Rattle.btor_frames.specs.Judged.{stated_or}
use Rattle.btor_witness.specs.declared.witness.Stated.{Stated}
use Rattle.btor_witness.specs.Parts.{is_stated}
use Rattle.btor_witness.specs.Printing.{IsOf, IsStatedOnce, value_of}
use Rattle.btor_witness.specs.Room.{zero_of, zeroed, word_or, ArePut, HoldsStated}
use Rattle.btor_witness.proofs.Tables.{value_more}

-- what holds of all statements holds of the one that is found
pub value_all : (P : Stated → Type 0) (stated : List Stated) (k : ℕ) (x : BitVector) → AllByRecursion P stated → value_of stated k ≡ Some x → P (record { index = k; value = x })
value_all P [] k x h e = absurd (none-some x e)
value_all P (s ∷ ss) k x h e =
    let first : Option BitVector = cond (eqb s.index k) (Some s.value) None in
    elim (option_cases (value_of ss k)) [
      | inl n ↦
          let here : first ≡ Some x = sym (ap (λ o. option_or o first) n) ∙ e in
          elim (cases_Bool (eqb s.index k)) [
            | inl t ↦
                let i : s.index ≡ k = eqb-true s.index k t in
                let v : s.value ≡ x = same_Some s.value x (sym (cond-true (eqb s.index k) (Some s.value) None t) ∙ here) in
                subst (λ y. P (record { index = k; value = y })) v (subst (λ n. P (record { index = n; value = s.value })) i h.0)
            | inr f ↦ absurd (none-some x (sym (cond-false (eqb s.index k) (Some s.value) None f) ∙ here))
          ]
      | inr f ↦ value_all P ss k x h.1 (f.1 ∙ (sym (ap (λ o. option_or o first) f.1) ∙ e))
    ]

unstated : (stated : List Stated) (k : ℕ) → is_stated stated k ≡ false → value_of stated k ≡ None
unstated [] k h = refl
unstated (s ∷ ss) k h =
    let parts = or_parts (eqb s.index k) (is_stated ss k) h in
    ap (λ o. option_or o (cond (eqb s.index k) (Some s.value) None)) (unstated ss k parts.1) ∙ cond-false (eqb s.index k) (Some s.value) None parts.0

-- a word that is stated once is the one that is found
pub value_once : (stated : List Stated) (i : ℕ) (s : Stated) → IsStatedOnce stated → slice_get stated i ≡ Some s → value_of stated s.index ≡ Some s.value
value_once [] i s once g = absurd (omega (arith, slice_get_inside [] i s g))
value_once (t ∷ ts) zero s once g =
    let e : t ≡ s = same_Some t s g in
    subst (λ u. value_of (t ∷ ts) u.index ≡ Some u.value) e
    (ap (λ o. option_or o (cond (eqb t.index t.index) (Some t.value) None)) (unstated ts t.index once.0) ∙ cond-true (eqb t.index t.index) (Some t.value) None (eq-eqb t.index t.index refl))
value_once (t ∷ ts) (suc i) s once g =
    ap (λ o. option_or o (cond (eqb t.index s.index) (Some t.value) None)) (value_once ts i s once.1 g)

pub all_from : {X : Type 0} (P : X → Type 0) (xs : List X) → ((i : ℕ) (x : X) → slice_get xs i ≡ Some x → P x) → AllByRecursion P xs
all_from P [] h = tt
all_from P (x ∷ xs) h = (h 0 x refl, all_from P xs (λ i y g. h (suc i) y g))

-- one word more is put in place
pub put_more : (xs : List Stated) (s : Stated) (old words new : List BitVector) → ArePut xs old words → s.index < length words → new ≡ set words s.index s.value → ArePut (xs ++ s ∷ []) old new
put_more xs s old words new p within e =
    record {
      sized = ap length e ∙ length-set words s.index s.value ∙ p.sized;
      by_index = λ k.
          let more = ap (λ o. word_or o (word_at old k)) (value_more xs s k) in
          elim (cases_Bool (eqb s.index k)) [
            | inl t ↦
                let i : s.index ≡ k = eqb-true s.index k t in
                let here : word_at (set words s.index s.value) k ≡ s.value = subst (λ n. word_at (set words s.index s.value) n ≡ s.value) i (get_or-set_same words s.index s.value nothing within) in
                ap (λ ws. word_at ws k) e ∙ here ∙ sym (more ∙ ap (λ o. word_or o (word_at old k)) (cond-true (eqb s.index k) (Some s.value) (value_of xs k) t))
            | inr f ↦
                let ne : k ≢ s.index = λ q. eqb-false s.index k f (sym q) in
                ap (λ ws. word_at ws k) e ∙ get_or-set_other words s.index k s.value nothing ne ∙ p.by_index k
                ∙ sym (more ∙ ap (λ o. word_or o (word_at old k)) (cond-false (eqb s.index k) (Some s.value) (value_of xs k) f))
          ];
    }

-- one statement more
pub one_more : (stated : List Stated) (i : ℕ) (s : Stated) → i < length stated → get_or stated i s ≡ s → take (i + 1) stated ≡ take i stated ++ s ∷ []
one_more stated i s h e = take_more stated i s h ∙ ap (λ x. take i stated ++ x ∷ []) e

pub one_zero_more : (stated : List Stated) (i : ℕ) (s : Stated) → i < length stated → get_or stated i s ≡ s → map zeroed (take (i + 1) stated) ≡ map zeroed (take i stated) ++ zeroed s ∷ []
one_zero_more stated i s h e = map_more zeroed stated i s h ∙ ap (λ x. map zeroed (take i stated) ++ zeroed x ∷ []) e

or_same : (o : Option BitVector) (w : ℕ) → word_or o (zero_of w) ≡ stated_or o w
or_same None w = refl
or_same (Some x) w = refl

-- stated words put in place of zeros
pub put_holds : (widths : List ℕ) (stated : List Stated) (old new : List BitVector) → HoldsStated widths [] old → ArePut stated old new → HoldsStated widths stated new
put_holds widths stated old new h p =
    record {
      sized = p.sized ∙ h.sized;
      by_index = λ k w g. p.by_index k ∙ ap (word_or (value_of stated k)) (h.by_index k w g) ∙ or_same (value_of stated k) w;
    }

abbrev width_zero : BitVector → BitVector
width_zero x = zero_of x.width

map_step : (b : Bool) (o : Option BitVector) (x : BitVector) → option_or (option_map width_zero o) (cond b (Some (width_zero x)) None) ≡ option_map width_zero (option_or o (cond b (Some x) None))
map_step true None x = refl
map_step false None x = refl
map_step b (Some y) x = refl

value_zeroed : (stated : List Stated) (k : ℕ) → value_of (map zeroed stated) k ≡ option_map width_zero (value_of stated k)
value_zeroed [] k = refl
value_zeroed (s ∷ ss) k =
    ap (λ o. option_or o (cond (eqb s.index k) (Some (width_zero s.value)) None)) (value_zeroed ss k) ∙ map_step (eqb s.index k) (value_of ss k) s.value

-- zeros put in place of stated words
pub clear_holds : (widths : List ℕ) (stated : List Stated) (mid new : List BitVector) → AllByRecursion (IsOf widths) stated → HoldsStated widths stated mid → ArePut (map zeroed stated) mid new → HoldsStated widths [] new
clear_holds widths stated mid new all h p =
    record {
      sized = p.sized ∙ h.sized;
      by_index = λ k w g.
          let start = p.by_index k ∙ ap (λ o. word_or o (word_at mid k)) (value_zeroed stated k) in
          elim (option_cases (value_of stated k)) [
            | inl n ↦ start ∙ ap (λ o. word_or (option_map width_zero o) (word_at mid k)) n ∙ h.by_index k w g ∙ ap (λ o. stated_or o w) n
            | inr f ↦
                let of = value_all (IsOf widths) stated k f.0 all f.1 in
                start ∙ ap (λ o. word_or (option_map width_zero o) (word_at mid k)) f.1 ∙ ap zero_of (same_Some f.0.width w (sym of.0 ∙ g))
          ];
    }

pub all_words : (widths : List ℕ) (stated : List Stated) → AllByRecursion (IsOf widths) stated → AllByRecursion (λ s. IsWord s.value) stated
all_words widths [] h = tt
all_words widths (s ∷ ss) h = (h.0.1, all_words widths ss h.1)
