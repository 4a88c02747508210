-- The widths of the lines of a kind, line by line.
use Rattle.std.proofs.Common.{◌≡◌, ℕ, suc, Bool, true, false, cond, List, [], ◌∷◌, ◌++◌, map, take, Some, refl, sym, ap, ◌∙◌, inl, inr}
use Rattle.std.specs.Prelude.{slice_get}
use Rattle.std.specs.List.{filter}
use Rattle.std.proofs.lemmas.Bool.{cases_Bool}
use Rattle.btor_tree.specs.declared.lines.Line.{Line}
use Rattle.btor_tree.specs.declared.lines.LineOp.{LineOp}
use Rattle.btor_tree.specs.declared.lines.LineOp.TheVariants.{Input}
use Rattle.btor_tree.specs.Fits.{line_width, width_at, is_state, is_input, has_word}
use Rattle.btor_tree.proofs.AtPlaces.{width_of_line}
use Rattle.btor_tree.proofs.Paths.{state_is}
use Rattle.btor_tree.proofs.Grows.{take_push}

abbrev pub widths_in : List Line → (LineOp → Bool) → List Line → List ℕ
widths_in lines kind ls = map (line_width lines) (filter (λ (l : Line). kind l.op) ls)

map_cond : {X Y : Type 0} (f : X → Y) (b : Bool) (x : X) (xs : List X) → map f (cond b (x ∷ xs) xs) ≡ cond b (f x ∷ map f xs) (map f xs)
map_cond f true x xs = refl
map_cond f false x xs = refl

pub widths_cons : (lines : List Line) (kind : LineOp → Bool) (l : Line) (ls : List Line) → widths_in lines kind (l ∷ ls) ≡ cond (kind l.op) (line_width lines l ∷ widths_in lines kind ls) (widths_in lines kind ls)
widths_cons lines kind l ls = map_cond (line_width lines) (kind l.op) l (filter (λ (m : Line). kind m.op) ls)

kept : (lines : List Line) (kind : LineOp → Bool) (ls : List Line) (l : Line) → kind l.op ≡ true → widths_in lines kind (ls ++ l ∷ []) ≡ widths_in lines kind ls ++ line_width lines l ∷ []
kept lines kind [] l e = rw e refl
kept lines kind (m ∷ ls) l e = elim (cases_Bool (kind m.op)) [ inl t ↦ rw t (ap (λ x. line_width lines m ∷ x) (kept lines kind ls l e)) | inr f ↦ rw f (kept lines kind ls l e) ]

left_out : (lines : List Line) (kind : LineOp → Bool) (ls : List Line) (l : Line) → kind l.op ≡ false → widths_in lines kind (ls ++ l ∷ []) ≡ widths_in lines kind ls
left_out lines kind [] l e = rw e refl
left_out lines kind (m ∷ ls) l e = elim (cases_Bool (kind m.op)) [ inl t ↦ rw t (ap (λ x. line_width lines m ∷ x) (left_out lines kind ls l e)) | inr f ↦ rw f (left_out lines kind ls l e) ]

-- one more line, of the kind or not
pub width_more : (lines : List Line) (kind : LineOp → Bool) (i : ℕ) (l : Line) → slice_get lines i ≡ Some l → kind l.op ≡ true
    → widths_in lines kind (take (suc i) lines) ≡ widths_in lines kind (take i lines) ++ width_at lines i ∷ []
width_more lines kind i l g e =
    ap (widths_in lines kind) (take_push lines i l g) ∙ kept lines kind (take i lines) l e ∙ ap (λ o. widths_in lines kind (take i lines) ++ width_of_line lines o ∷ []) (sym g)

pub width_same : (lines : List Line) (kind : LineOp → Bool) (i : ℕ) (l : Line) → slice_get lines i ≡ Some l → kind l.op ≡ false
    → widths_in lines kind (take (suc i) lines) ≡ widths_in lines kind (take i lines)
width_same lines kind i l g e = ap (widths_in lines kind) (take_push lines i l g) ∙ left_out lines kind (take i lines) l e

-- states and inputs have a word
pub state_has_word : (op : LineOp) → is_state op ≡ true → has_word op ≡ true
state_has_word op h = ap has_word (state_is op h)

pub input_has_word : (op : LineOp) → is_input op ≡ true → has_word op ≡ true
input_has_word Input h = refl
input_has_word op h = absurd (cc)
