-- The first line of a text, and what it does to the reading of the others.
use Rattle.std.proofs.Common.{◌≡◌, ◌==◌, ℕ, suc, Bool, true, false, not, cond, List, [], ◌∷◌, take, drop, Ok, Err, refl, sym, ap, ◌∙◌}
use Rattle.text_core.specs.declared.place.Place.{Place}
use Rattle.text_core.specs.declared.place.Refusal.{Refusal}
use Rattle.smv_text.specs.Bytes.{front_length}
use Rattle.smv_numbered.specs.Stated.{Declarations}
use Rattle.smv_trace_text.specs.Lines.{onto_first, lines_of, behind_line, trimmed, is_other}
use Rattle.smv_trace.specs.Reading.{Reading, step, finished}
use Rattle.smv_trace.specs.Texts.{lines_read}
use Rattle.smv_trace.specs.Answer.{Finishes}
use Rattle.text_core.specs.declared.end.End.{End}
use Rattle.text_core.specs.declared.end.End.TheVariants.{Bad, NoMemory}
use Rattle.text_core.specs.Answers.{go_on, Leaves}

-- the first line and the others, at the end of the first
abbrev pub split_line : List ℕ → List ℕ → List (List ℕ)
split_line l [] = l ∷ []
split_line l (b ∷ rest) = l ∷ lines_of rest

-- the same of a text whose first line has n bytes
abbrev front_line : List ℕ → ℕ → List (List ℕ)
front_line text n = split_line (take n text) (drop n text)

onto_split : (b : ℕ) (l rest : List ℕ) → onto_first b (split_line l rest) ≡ split_line (b ∷ l) rest
onto_split b l [] = refl
onto_split b l (c ∷ rest) = refl

lines_front : (text : List ℕ) → lines_of text ≡ front_line text (front_length (is_other 10) text)
lines_front [] = refl
lines_front (b ∷ bs) = go (b == 10) (lines_front bs)
  where
    go : (t : Bool) → lines_of bs ≡ front_line bs (front_length (is_other 10) bs)
        → cond t ([] ∷ lines_of bs) (onto_first b (lines_of bs)) ≡ front_line (b ∷ bs) (cond (not t) (suc (front_length (is_other 10) bs)) 0)
    go true ih = refl
    go false ih = ap (onto_first b) ih ∙ onto_split b (take (front_length (is_other 10) bs) bs) (drop (front_length (is_other 10) bs) bs)

pub rest_lines : (rest line marked : List ℕ) (n : ℕ) → n ≡ front_length (is_other 10) rest → line ≡ take n rest → marked ≡ drop n rest → lines_of rest ≡ split_line line marked
rest_lines rest line marked n e f g = let h = lines_front rest in cc

-- what a line, without the blanks around it, does to the reading of the rest
line_refused : (d : Declarations) (end at : Place) (rest line marked : List ℕ) (r : Reading) (refusal : Refusal) → lines_of rest ≡ split_line line marked → step d at (trimmed line) r ≡ Err refusal
    → lines_read d end at (lines_of rest) r ≡ Err refusal
line_refused d end at rest line marked r refusal e h = ap (λ ls. lines_read d end at ls r) e ∙ go marked
  where
    go : (back : List ℕ) → lines_read d end at (split_line line back) r ≡ Err refusal
    go [] = ap (λ o. go_on o (lines_read d end (behind_line at line) [])) h
    go (b ∷ more) = ap (λ o. go_on o (lines_read d end (behind_line at line) (lines_of more))) h

pub line_stops : (B : Type 0) (d : Declarations) (end at : Place) (rest line marked inner : List ℕ) (r q new : Reading) (why : End) → lines_of rest ≡ split_line line marked → inner ≡ trimmed line
    → Leaves {B = B} (step d at inner r) q (Err why) → Finishes {B = B} (lines_read d end at (lines_of rest) r) new (Err why)
line_stops B d end at rest line marked inner r q new (Bad refusal) e i h = line_refused d end at rest line marked r refusal e (ap (λ x. step d at x r) (sym i) ∙ h)
line_stops B d end at rest line marked inner r q new NoMemory e i h = tt

pub line_last : (d : Declarations) (end at : Place) (rest line marked inner : List ℕ) (r q : Reading) → lines_of rest ≡ split_line line marked → inner ≡ trimmed line → marked ≡ []
    → step d at inner r ≡ Ok q → lines_read d end at (lines_of rest) r ≡ finished d end q
line_last d end at rest line marked inner r q e i none h =
    ap (λ ls. lines_read d end at ls r) (e ∙ ap (split_line line) none) ∙ ap (λ o. go_on o (lines_read d end (behind_line at line) [])) (ap (λ x. step d at x r) (sym i) ∙ h)

pub line_more : (d : Declarations) (end at : Place) (rest line marked inner more : List ℕ) (b : ℕ) (r q : Reading) → lines_of rest ≡ split_line line marked → inner ≡ trimmed line → marked ≡ b ∷ more
    → step d at inner r ≡ Ok q → lines_read d end at (lines_of rest) r ≡ lines_read d end (behind_line at line) (lines_of more) q
line_more d end at rest line marked inner more b r q e i some h =
    ap (λ ls. lines_read d end at ls r) (e ∙ ap (split_line line) some)
    ∙ ap (λ o. go_on o (lines_read d end (behind_line at line) (lines_of more))) (ap (λ x. step d at x r) (sym i) ∙ h)
