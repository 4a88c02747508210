-- What is kept of a part, behind one statement more and behind none.
use Rattle.std.proofs.Common.{◌≡◌, ◌≢◌, ◌<◌, ◌≤◌, ◌+◌, ℕ, Bool, true, false, cond, eqb, ◌||◌, List, [], ◌∷◌, ◌++◌, length, get_or, set, Option, Some, None, Ok, Err, refl, sym, ap, ◌∙◌, subst, arith, inl, inr, get_or-set_other, get_or-set_same}
use Rattle.std.specs.Prelude.{slice_get}
use Rattle.std.specs.Option.{option_or}
use Rattle.std.proofs.lemmas.List.{get_or_past}
use Rattle.std.proofs.Math.ListN.{length-set}
use Rattle.std.proofs.lemmas.Bool.{cases_Bool, cases_lt, or_parts, eqb-true, eqb-false, eq-eqb, cond-true, cond-false}
use Rattle.std.proofs.lemmas.Option.{same_Some}
use Rattle.word_core.specs.Words.{BitVector}
use Rattle.text_core.specs.declared.place.Kind.TheVariants.{X}
use Rattle.btor_tree.specs.Frame.{nothing, word_at}
use Rattle.btor_frames.specs.Judged.{stated_or}
use Rattle.btor_witness.specs.declared.witness.Stated.{Stated}
use Rattle.btor_witness.specs.Parts.{is_stated, with_word, with_width, stating}
use Rattle.btor_witness.specs.Printing.{value_of}
use Rattle.btor_witness.specs.Room.{zero_of}
use Rattle.btor_witness.proofs.Tables.{value_more}
use Rattle.btor_judge.specs.Kept.{StatedPart, kept, Holds, IsClearing}

stated_push : (xs : List Stated) (s : Stated) (k : ℕ) → is_stated (xs ++ s ∷ []) k ≡ is_stated xs k || eqb s.index k
stated_push [] s k = elim (cases_Bool (eqb s.index k)) [ inl t ↦ rw t refl | inr f ↦ rw f refl ]
stated_push (x ∷ xs) s k = elim (cases_Bool (eqb x.index k)) [ inl t ↦ rw t refl | inr f ↦ rw f (stated_push xs s k) ]

or_none : (b : Bool) → b || false ≡ b
or_none true = refl
or_none false = refl

or_some : (b : Bool) → b || true ≡ true
or_some true = refl
or_some false = refl

-- one statement more
pub holds_more : (kept : StatedPart) (xs : List Stated) (s : Stated) → Holds kept xs → s.index < length kept.marks → s.index < length kept.words → Holds (record { widths = kept.widths; marks = set kept.marks s.index true; words = set kept.words s.index s.value }) (xs ++ s ∷ [])
holds_more kept xs s h in_marks in_words =
    record {
      marks = λ k.
          elim (cases_Bool (eqb s.index k)) [
            | inl t ↦
                let e : s.index ≡ k = eqb-true s.index k t in
                subst (λ n. get_or (set kept.marks s.index true) n false ≡ true) e (get_or-set_same kept.marks s.index true false in_marks) ∙ sym (stated_push xs s k ∙ ap (λ b. is_stated xs k || b) t ∙ or_some (is_stated xs k))
            | inr f ↦
                let ne : k ≢ s.index = λ e. eqb-false s.index k f (sym e) in
                get_or-set_other kept.marks s.index k true false ne ∙ h.marks k ∙ sym (stated_push xs s k ∙ ap (λ b. is_stated xs k || b) f ∙ or_none (is_stated xs k))
          ];
      words = record {
        sized = length-set kept.words s.index s.value ∙ h.words.sized;
        by_index = λ k w g.
            elim (cases_Bool (eqb s.index k)) [
              | inl t ↦
                  let e : s.index ≡ k = eqb-true s.index k t in
                  subst (λ n. word_at (set kept.words s.index s.value) n ≡ s.value) e (get_or-set_same kept.words s.index s.value nothing in_words)
                  ∙ sym (ap (λ o. stated_or o w) (value_more xs s k ∙ cond-true (eqb s.index k) (Some s.value) (value_of xs k) t))
              | inr f ↦
                  let ne : k ≢ s.index = λ e. eqb-false s.index k f (sym e) in
                  get_or-set_other kept.words s.index k s.value nothing ne ∙ h.words.by_index k w g ∙ sym (ap (λ o. stated_or o w) (value_more xs s k ∙ cond-false (eqb s.index k) (Some s.value) (value_of xs k) f))
            ];
      };
    }

-- a word that may be stated
fresh : (widths : List ℕ) (xs : List Stated) (i w : ℕ) (word : Option BitVector) → slice_get widths i ≡ Some w → is_stated xs i ≡ false → stating widths xs i word ≡ with_word xs i w word
fresh widths xs i w word g f = ap (λ o. with_width xs i o word) g ∙ cond-false (is_stated xs i) (Err (X 4)) (with_word xs i w word) f

pub is_stating : (widths : List ℕ) (xs : List Stated) (i w : ℕ) (word : BitVector) → slice_get widths i ≡ Some w → is_stated xs i ≡ false → word.width ≡ w → stating widths xs i (Some word) ≡ Ok (xs ++ record { index = i; value = word } ∷ [])
is_stating widths xs i w word g f e = fresh widths xs i w (Some word) g f ∙ cond-true (eqb word.width w) (Ok (xs ++ record { index = i; value = word } ∷ [])) (Err (X 5)) (eq-eqb word.width w e)

-- what is not stated has no word
value_none : (xs : List Stated) (k : ℕ) → is_stated xs k ≡ false → value_of xs k ≡ None
value_none [] k h = refl
value_none (s ∷ ss) k h =
    let p = or_parts (eqb s.index k) (is_stated ss k) h in
    ap (λ o. option_or o (cond (eqb s.index k) (Some s.value) None)) (value_none ss k p.1) ∙ cond-false (eqb s.index k) (Some s.value) None p.0

pub clearing_begun : (kept : StatedPart) (stated : List Stated) → Holds kept stated → IsClearing 0 kept
clearing_begun kept stated h =
    record {
      before = λ i lt. absurd (omega (arith, lt));
      cleared = λ i w g f. h.words.by_index i w g ∙ ap (λ o. stated_or o w) (value_none stated i (sym (h.marks i) ∙ f));
    }

-- one number more, which is marked or not
pub clearing_marked : (n w : ℕ) (widths : List ℕ) (marks : List Bool) (words : List BitVector) → slice_get widths n ≡ Some w → n < length marks → n < length words → IsClearing n (kept widths marks words) → IsClearing (n + 1) (kept widths (set marks n false) (set words n (zero_of w)))
clearing_marked n w widths marks words g in_marks in_words h =
    record {
      before = λ i lt.
          elim (cases_Bool (eqb n i)) [
            | inl t ↦ subst (λ m. get_or (set marks n false) m false ≡ false) (eqb-true n i t) (get_or-set_same marks n false false in_marks)
            | inr f ↦
                let ne : i ≢ n = λ e. eqb-false n i f (sym e) in
                get_or-set_other marks n i false false ne ∙ h.before i (omega (arith, lt, ne))
          ];
      cleared = λ i v at none.
          elim (cases_Bool (eqb n i)) [
            | inl t ↦
                let e : n ≡ i = eqb-true n i t in
                let same : w ≡ v = same_Some w v (sym g ∙ ap (slice_get widths) e ∙ at) in
                subst (λ m. word_at (set words n (zero_of w)) m ≡ zero_of w) e (get_or-set_same words n (zero_of w) nothing in_words) ∙ ap zero_of same
            | inr f ↦
                let ne : i ≢ n = λ e. eqb-false n i f (sym e) in
                get_or-set_other words n i (zero_of w) nothing ne ∙ h.cleared i v at (sym (get_or-set_other marks n i false false ne) ∙ none)
          ];
    }

pub clearing_unmarked : (n : ℕ) (widths : List ℕ) (marks : List Bool) (words : List BitVector) → get_or marks n false ≡ false → IsClearing n (kept widths marks words) → IsClearing (n + 1) (kept widths marks words)
clearing_unmarked n widths marks words f h =
    record {
      before = λ i lt.
          elim (cases_Bool (eqb n i)) [
            | inl t ↦ subst (λ m. get_or marks m false ≡ false) (eqb-true n i t) f
            | inr g ↦
                let ne : i ≢ n = λ e. eqb-false n i g (sym e) in
                h.before i (omega (arith, lt, ne))
          ];
      cleared = h.cleared;
    }

pub is_clear : (n : ℕ) (kept : StatedPart) → length kept.marks ≤ n → length kept.words ≡ length kept.widths → IsClearing n kept → Holds kept []
is_clear n kept long sized h =
    let none : (i : ℕ) → get_or kept.marks i false ≡ false = λ i. elim (cases_lt i n) [ inl lt ↦ h.before i lt | inr le ↦ get_or_past kept.marks i false (omega (arith, le, long)) ] in
    record { marks = none; words = record { sized = sized; by_index = λ i w g. h.cleared i w g (none i) } }
