-- Where the lines of a kind stand, and their widths.
use Rattle.std.proofs.Common.{◌≡◌, ℕ, zero, suc, ◌+◌, ◌<◌, ◌≤◌, Bool, true, false, cond, List, [], ◌∷◌, ◌++◌, length, take, get_or, Option, Some, refl, sym, ap, ◌∙◌, subst, arith, inl, inr}
use Rattle.std.specs.Prelude.{slice_get}
use Rattle.std.specs.List.{AllByRecursion}
use Rattle.std.proofs.lemmas.Bool.{cases_Bool, cond-true, cond-false}
use Rattle.std.proofs.lemmas.Option.{same_Some, slice_get_read}
use Rattle.word_core.specs.Words.{BitVector}
use Rattle.word_core.specs.declared.word.TheConstants.{WIDEST}
use Rattle.btor_tree.specs.declared.lines.Line.{Line}
use Rattle.btor_tree.specs.declared.lines.LineOp.{LineOp}
use Rattle.btor_tree.specs.Fits.{IsWellFormed, count_of, is_state, has_word, line_width, width_at}
use Rattle.btor_tree.specs.Frame.{word_at}
use Rattle.btor_tree.proofs.AtPlaces.{width_of_line}
use Rattle.btor_tree.proofs.Grows.{slice_get_inside, take_push}
use Rattle.btor_tree.proofs.Paths.{width_is}
use Rattle.btor_tree.proofs.Widths.{width_small}
use Rattle.btor_witness.specs.declared.witness.Stated.{Stated}
use Rattle.btor_witness.specs.Sizes.{widths_of}
use Rattle.btor_witness.specs.Printing.{IsBelow}
use Rattle.btor_witness.specs.Room.{AreWidths, IsWordThere, places_in, places_of}
use Rattle.btor_witness.proofs.Widths.{widths_cons, widths_in}
use Rattle.btor_witness.proofs.Tables.{length_widths, all_at}

abbrev one_where : Bool → ℕ
one_where b = cond b 1 0

cond_one : (b : Bool) → b ≡ true → one_where b ≡ 1
cond_one true h = refl
cond_one false h = absurd (cc)

cond_none : (b : Bool) → b ≡ false → one_where b ≡ 0
cond_none true h = absurd (cc)
cond_none false h = refl

-- a line of a kind by its number among them
pub place_of : (kind : LineOp → Bool) (ls : List Line) (k : ℕ) → k < count_of kind ls → (i : ℕ) × (l : Line) × (slice_get ls i ≡ Some l) × (kind l.op ≡ true) × (count_of kind (take i ls) ≡ k)
place_of kind [] k h = absurd (omega (arith, h))
place_of kind (l ∷ ls) zero h =
    elim (cases_Bool (kind l.op)) [
      | inl t ↦ (0, l, refl, t, refl)
      | inr f ↦
          let none = cond_none (kind l.op) f in
          let q = place_of kind ls zero (omega (arith, h, none)) in
          (suc q.0, q.1, q.2, q.3, omega (arith, q.4, none))
    ]
place_of kind (l ∷ ls) (suc k) h =
    elim (cases_Bool (kind l.op)) [
      | inl t ↦
          let one = cond_one (kind l.op) t in
          let q = place_of kind ls k (omega (arith, h, one)) in
          (suc q.0, q.1, q.2, q.3, omega (arith, q.4, one))
      | inr f ↦
          let none = cond_none (kind l.op) f in
          let q = place_of kind ls (suc k) (omega (arith, h, none)) in
          (suc q.0, q.1, q.2, q.3, omega (arith, q.4, none))
    ]

-- behind one line more
on_more : {X : Type 0} (b : Bool) (x : X) (xs : List X) (n : ℕ) (o : Option X) → slice_get xs n ≡ o → slice_get (cond b (x ∷ xs) xs) (cond b 1 0 + n) ≡ o
on_more true x xs n o h =
    let e : 1 + n ≡ suc n = omega arith in
    ap (slice_get (x ∷ xs)) e ∙ h
on_more false x xs n o h =
    let e : 0 + n ≡ n = omega arith in
    ap (slice_get xs) e ∙ h

pub width_there : (lines : List Line) (kind : LineOp → Bool) (ls : List Line) (i : ℕ) (l : Line) → slice_get ls i ≡ Some l → kind l.op ≡ true → slice_get (widths_in lines kind ls) (count_of kind (take i ls)) ≡ Some (line_width lines l)
width_there lines kind [] i l g t = absurd (omega (arith, slice_get_inside [] i l g))
width_there lines kind (m ∷ ls) zero l g t =
    let e : m ≡ l = same_Some m l g in
    let rest = widths_in lines kind ls in
    ap (λ xs. slice_get xs 0) (widths_cons lines kind m ls ∙ cond-true (kind m.op) (line_width lines m ∷ rest) rest (ap (λ x. kind x.op) e ∙ t)) ∙ ap (λ x. Some (line_width lines x)) e
width_there lines kind (m ∷ ls) (suc i) l g t =
    ap (λ ws. slice_get ws (count_of kind (take (suc i) (m ∷ ls)))) (widths_cons lines kind m ls)
    ∙ on_more (kind m.op) (line_width lines m) (widths_in lines kind ls) (count_of kind (take i ls)) _ (width_there lines kind ls i l g t)

-- the width of a line, by its number among the lines of its kind
pub width_by_number : (lines : List Line) (kind : LineOp → Bool) (i : ℕ) (l : Line) → slice_get lines i ≡ Some l → kind l.op ≡ true → slice_get (widths_of kind lines) (count_of kind (take i lines)) ≡ Some (width_at lines i)
width_by_number lines kind i l g t = width_there lines kind lines i l g t ∙ ap (λ o. Some (width_of_line lines o)) (sym g)

pub place_there : (n : ℕ) (kind : LineOp → Bool) (ls : List Line) (i : ℕ) (l : Line) → slice_get ls i ≡ Some l → kind l.op ≡ true → slice_get (places_in n kind ls) (count_of kind (take i ls)) ≡ Some (n + i)
place_there n kind [] i l g t = absurd (omega (arith, slice_get_inside [] i l g))
place_there n kind (m ∷ ls) zero l g t =
    let e : m ≡ l = same_Some m l g in
    let sum : n ≡ n + 0 = omega arith in
    let rest = places_in (suc n) kind ls in
    ap (λ xs. slice_get xs 0) (cond-true (kind m.op) (n ∷ rest) rest (ap (λ x. kind x.op) e ∙ t)) ∙ ap (λ x. Some x) sum
place_there n kind (m ∷ ls) (suc i) l g t =
    let sum : suc n + i ≡ n + suc i = omega arith in
    on_more (kind m.op) n (places_in (suc n) kind ls) (count_of kind (take i ls)) _ (place_there (suc n) kind ls i l g t) ∙ ap (λ x. Some x) sum

pub length_places : (n : ℕ) (kind : LineOp → Bool) (ls : List Line) → length (places_in n kind ls) ≡ count_of kind ls
length_places n kind [] = refl
length_places n kind (l ∷ ls) =
    let ih = length_places (suc n) kind ls in
    elim (cases_Bool (kind l.op)) [ inl t ↦ rw t (omega arith) | inr f ↦ rw f (omega arith) ]

kept : (n : ℕ) (kind : LineOp → Bool) (ls : List Line) (l : Line) → kind l.op ≡ true → places_in n kind (ls ++ l ∷ []) ≡ places_in n kind ls ++ (n + length ls) ∷ []
kept n kind [] l e =
    let sum : n ≡ n + 0 = omega arith in
    cond-true (kind l.op) (n ∷ []) [] e ∙ ap (λ k. k ∷ []) sum
kept n kind (m ∷ ls) l e =
    let sum : suc n + length ls ≡ n + length (m ∷ ls) = omega arith in
    let rest : places_in (suc n) kind (ls ++ l ∷ []) ≡ places_in (suc n) kind ls ++ (n + length (m ∷ ls)) ∷ [] = kept (suc n) kind ls l e ∙ ap (λ k. places_in (suc n) kind ls ++ k ∷ []) sum in
    elim (cases_Bool (kind m.op)) [ inl t ↦ rw t (ap (λ x. n ∷ x) rest) | inr f ↦ rw f rest ]

left_out : (n : ℕ) (kind : LineOp → Bool) (ls : List Line) (l : Line) → kind l.op ≡ false → places_in n kind (ls ++ l ∷ []) ≡ places_in n kind ls
left_out n kind [] l e = cond-false (kind l.op) (n ∷ []) [] e
left_out n kind (m ∷ ls) l e = elim (cases_Bool (kind m.op)) [ inl t ↦ rw t (ap (λ x. n ∷ x) (left_out (suc n) kind ls l e)) | inr f ↦ rw f (left_out (suc n) kind ls l e) ]

-- one more line, of the kind or not
pub place_more : (lines : List Line) (kind : LineOp → Bool) (i : ℕ) (l : Line) → i ≡ length (take i lines) → slice_get lines i ≡ Some l → kind l.op ≡ true → places_in 0 kind (take (suc i) lines) ≡ places_in 0 kind (take i lines) ++ i ∷ []
place_more lines kind i l long g e =
    let sum : 0 + length (take i lines) ≡ i = omega (arith, long) in
    ap (places_in 0 kind) (take_push lines i l g) ∙ kept 0 kind (take i lines) l e ∙ ap (λ k. places_in 0 kind (take i lines) ++ k ∷ []) sum

pub place_same : (lines : List Line) (kind : LineOp → Bool) (i : ℕ) (l : Line) → slice_get lines i ≡ Some l → kind l.op ≡ false → places_in 0 kind (take (suc i) lines) ≡ places_in 0 kind (take i lines)
place_same lines kind i l g e = ap (places_in 0 kind) (take_push lines i l g) ∙ left_out 0 kind (take i lines) l e

-- lines of a kind that has words have widths of words
pub are_widths : (lines : List Line) (kind : LineOp → Bool) → IsWellFormed lines → ((op : LineOp) → kind op ≡ true → has_word op ≡ true) → AreWidths (widths_of kind lines)
are_widths lines kind w has =
    record {
      by_index = λ k v g.
          let inside = slice_get_inside (widths_of kind lines) k v g in
          let q = place_of kind lines k (omega (arith, inside, length_widths lines kind lines)) in
          let at : slice_get (widths_of kind lines) k ≡ Some (width_at lines q.0) = subst (λ n. slice_get (widths_of kind lines) n ≡ Some (width_at lines q.0)) q.4 (width_by_number lines kind q.0 q.1 q.2 q.3) in
          let same : width_at lines q.0 ≡ v = same_Some (width_at lines q.0) v (sym at ∙ g) in
          let some = (width_is lines q.0 q.1 w q.2 (has q.1.op q.3)).1 in
          let small = width_small lines q.0 w in
          (omega (arith, some, same), subst (λ n. n ≤ WIDEST) same small);
    }

-- a state, by its number among the states
pub state_place : (lines : List Line) (k place : ℕ) → slice_get (places_of is_state lines) k ≡ Some place → (l : Line) × (slice_get lines place ≡ Some l) × (is_state l.op ≡ true) × (count_of is_state (take place lines) ≡ k)
state_place lines k place g =
    let inside = slice_get_inside (places_of is_state lines) k place g in
    let q = place_of is_state lines k (omega (arith, inside, length_places 0 is_state lines)) in
    let there : slice_get (places_of is_state lines) k ≡ Some (0 + q.0) = subst (λ m. slice_get (places_of is_state lines) m ≡ Some (0 + q.0)) q.4 (place_there 0 is_state lines q.0 q.1 q.2 q.3) in
    let sum : 0 + q.0 ≡ place = same_Some (0 + q.0) place (sym there ∙ g) in
    let same : q.0 ≡ place = omega (arith, sum) in
    (q.1, ap (slice_get lines) (sym same) ∙ q.2, q.3, ap (λ n. count_of is_state (take n lines)) (sym same) ∙ q.4)

-- a place in the table is the place of a line
pub place_inside : (lines : List Line) (places : List ℕ) (k place : ℕ) → places ≡ places_of is_state lines → k < length places → place ≡ get_or places k place → (slice_get (places_of is_state lines) k ≡ Some place) × (place < length lines)
place_inside lines places k place e h at =
    let g : slice_get (places_of is_state lines) k ≡ Some place = ap (λ xs. slice_get xs k) (sym e) ∙ slice_get_read places (length places) k place refl h at in
    let q = state_place lines k place g in
    (g, slice_get_inside lines place q.0 q.1)

pub word_there : (places : List ℕ) (row : List BitVector) (s : Stated) (place : ℕ) → slice_get places s.index ≡ Some place → word_at row place ≡ s.value → IsWordThere places row s
word_there places row s place g e i h = ap (word_at row) (same_Some i place (sym h ∙ g)) ∙ e

pub places_long : (lines : List Line) (places : List ℕ) (k : ℕ) → places ≡ places_of is_state lines → k < count_of is_state lines → k < length places
places_long lines places k e h = omega (arith, h, length_places 0 is_state lines, ap length e)

-- a stated state has a place
pub stated_place : (lines : List Line) (places : List ℕ) (stated : List Stated) (i : ℕ) (s : Stated) → places ≡ places_of is_state lines → AllByRecursion (IsBelow (count_of is_state lines)) stated → i < length stated → get_or stated i s ≡ s → s.index < length places
stated_place lines places stated i s e all h at =
    let below : s.index < count_of is_state lines = all_at (IsBelow (count_of is_state lines)) stated i s all h at in
    places_long lines places s.index e below
