-- The numbers of variables.
use Rattle.std.proofs.Common.{◌≡◌, ℕ, zero, suc, ◌+◌, ◌<◌, ◌≤◌, ◌^◌, Bool, true, false, List, [], ◌∷◌, ◌++◌, take, length, get_or, Some, if◌then◌else◌, cond, refl, sym, ap, ◌∙◌, arith, inl, inr}
use mathlib.Core.Path.{fun_ext}
use Rattle.std.specs.Prelude.{slice_get}
use Rattle.std.proofs.lemmas.Bool.{cases_lt}
use Rattle.std.proofs.lemmas.Option.{slice_get_past}
use Rattle.btor_tree.specs.declared.lines.Line.{Line}
use Rattle.btor_tree.specs.declared.lines.LineOp.{LineOp}
use Rattle.btor_tree.specs.declared.lines.LineOp.TheVariants as line
use Rattle.btor_tree.specs.Fits.{IsWellFormed, count_of, is_input, is_state}
use Rattle.btor_tree.proofs.Grows.{count_step, lines_short}
use Rattle.btor_import.specs.declared.numbers.Counts.{Counts}
use Rattle.btor_import.specs.Assembling.{counted_on, counts_at, number_at, number_in}
use Rattle.btor_import.specs.Script.{is_local, number_among, number_of}

-- ---- the next numbers

abbrev counts_with : ℕ → ℕ → ℕ → Counts
counts_with i s l = record { inputs = i; states = s; locals = l }

counts_same : (i j s t l m : ℕ) → i ≡ j → s ≡ t → l ≡ m → counts_with i s l ≡ counts_with j t m
counts_same i j s t l m a b c = ap (λ x. counts_with x s l) a ∙ ap (λ x. counts_with j x l) b ∙ ap (λ x. counts_with j t x) c

abbrev bit : Bool → ℕ
bit b = cond b 1 0

-- a line is of one kind at most
pub one_kind : (o : LineOp) → (is_input o ≡ true → is_local o ≡ false) × (is_state o ≡ true → (is_input o ≡ false) × (is_local o ≡ false))
one_kind line.Input = ((λ h. refl), (λ h. cc))
one_kind line.State = ((λ h. cc), (λ h. (refl, refl)))
one_kind o = ((λ h. cc), (λ h. cc))

counted : (c : Counts) (o : LineOp) → counted_on c o ≡ counts_with (c.inputs + bit (is_input o)) (c.states + bit (is_state o)) (c.locals + bit (is_local o))
counted c o = let k = one_kind o in by (is_input o) (is_state o) (is_local o) k.0 k.1
  where
    by : (a b d : Bool) → (a ≡ true → d ≡ false) → (b ≡ true → (a ≡ false) × (d ≡ false))
        → (if a then record c { inputs = c.inputs + 1 } else (if b then record c { states = c.states + 1 } else (if d then record c { locals = c.locals + 1 } else c)))
        ≡ counts_with (c.inputs + bit a) (c.states + bit b) (c.locals + bit d)
    by true true d f g = absurd (let s = (g refl).0 in cc)
    by true false true f g = absurd (let s = f refl in cc)
    by true false false f g = counts_same _ _ _ _ _ _ refl (omega arith) (omega arith)
    by false true true f g = absurd (let s = (g refl).1 in cc)
    by false true false f g = counts_same _ _ _ _ _ _ (omega arith) refl (omega arith)
    by false false true f g = counts_same _ _ _ _ _ _ (omega arith) (omega arith) refl
    by false false false f g = counts_same _ _ _ _ _ _ (omega arith) (omega arith) (omega arith)

pub counts_on : (lines : List Line) (i : ℕ) (l : Line) (c d : Counts) → slice_get lines i ≡ Some l → c ≡ counts_at lines i → d ≡ counted_on c l.op → d ≡ counts_at lines (i + 1)
counts_on lines i l c d h e f =
    f ∙ ap (λ x. counted_on x l.op) e ∙ counted (counts_at lines i) l.op
    ∙ (let a = count_step is_input lines i _ _ l h refl refl in
    let b = count_step is_state lines i _ _ l h refl refl in
    let d = count_step is_local lines i _ _ l h refl refl in
    counts_same _ _ _ _ _ _ (omega (arith, a)) (omega (arith, b)) (omega (arith, d)))

pub number_here : (lines : List Line) (i : ℕ) (l : Line) (c : Counts) (n : ℕ) → slice_get lines i ≡ Some l → c ≡ counts_at lines i → n ≡ number_in c l.op → n ≡ number_of lines i
number_here lines i l c n h e f = f ∙ ap (λ x. number_in x l.op) e ∙ ap (number_among lines (take i lines)) (sym h)

-- ---- they are few

sum_short : (lines : List Line) → count_of is_input lines + count_of is_state lines + count_of is_local lines ≤ length lines
sum_short [] = omega arith
sum_short (l ∷ ls) =
    let ih = sum_short ls in
    let k = one_kind l.op in
    by (is_input l.op) (is_state l.op) (is_local l.op) k.0 k.1 ih
  where
    by : (a b d : Bool) → (a ≡ true → d ≡ false) → (b ≡ true → (a ≡ false) × (d ≡ false)) → count_of is_input ls + count_of is_state ls + count_of is_local ls ≤ length ls
        → (bit a + count_of is_input ls) + (bit b + count_of is_state ls) + (bit d + count_of is_local ls) ≤ suc (length ls)
    by true true d f g h = absurd (let s = (g refl).0 in cc)
    by true false true f g h = absurd (let s = f refl in cc)
    by true false false f g h = omega (arith, h)
    by false true true f g h = absurd (let s = (g refl).1 in cc)
    by false true false f g h = omega (arith, h)
    by false false true f g h = omega (arith, h)
    by false false false f g h = omega (arith, h)

front_few : (kind : LineOp → Bool) (i : ℕ) (lines : List Line) → count_of kind (take i lines) ≤ count_of kind lines
front_few kind zero lines = omega arith
front_few kind (suc i) [] = omega arith
front_few kind (suc i) (l ∷ ls) = let h = front_few kind i ls in omega (arith, h)

pub counts_few : (lines : List Line) (i : ℕ) (c : Counts) → IsWellFormed lines → c ≡ counts_at lines i → (c.inputs + 1 < 2 ^ 32) × (c.states + 1 < 2 ^ 32) × (c.locals + 1 < 2 ^ 32)
counts_few lines i c w e =
    let s = sum_short lines in
    let f = front_few is_input i lines in
    let g = front_few is_state i lines in
    let h = front_few is_local i lines in
    let l = lines_short lines w in
    let a = ap (λ (x : Counts). x.inputs) e in
    let b = ap (λ (x : Counts). x.states) e in
    let d = ap (λ (x : Counts). x.locals) e in
    (omega (arith, s, f, l, a), omega (arith, s, f, g, l, b), omega (arith, s, f, g, h, l, d))

pub both_few : (lines : List Line) → IsWellFormed lines → count_of is_input lines + count_of is_state lines < 2 ^ 32
both_few lines w = let s = sum_short lines in let l = lines_short lines w in omega (arith, s, l)

-- ---- the table

pub get_end : (xs : List ℕ) (n : ℕ) (k : ℕ) → k ≡ length xs → get_or (xs ++ n ∷ []) k 0 ≡ n
get_end [] n zero h = refl
get_end [] n (suc k) h = absurd (omega (arith, h))
get_end (x ∷ xs) n zero h = absurd (omega (arith, h))
get_end (x ∷ xs) n (suc k) h = get_end xs n k (omega (arith, h))

pub get_front : (xs : List ℕ) (n : ℕ) (k : ℕ) → k < length xs → get_or (xs ++ n ∷ []) k 0 ≡ get_or xs k 0
get_front [] n k h = absurd (omega (arith, h))
get_front (x ∷ xs) n zero h = refl
get_front (x ∷ xs) n (suc k) h = get_front xs n k (omega (arith, h))

get_past : (xs : List ℕ) (k : ℕ) → length xs ≤ k → get_or xs k 0 ≡ 0
get_past [] k h = refl
get_past (x ∷ xs) zero h = absurd (omega (arith, h))
get_past (x ∷ xs) (suc k) h = get_past xs k (omega (arith, h))

pub table_on : (lines : List Line) (xs ys : List ℕ) (i n : ℕ) → length xs ≡ i → ys ≡ xs ++ n ∷ [] → n ≡ number_of lines i → ((k : ℕ) → k < i → get_or xs k 0 ≡ number_of lines k) → (k : ℕ) → k < i + 1 → get_or ys k 0 ≡ number_of lines k
table_on lines xs ys i n s h e f k lt =
    elim (cases_lt k i) [
      | inl less ↦ ap (λ zs. get_or zs k 0) h ∙ get_front xs n k (omega (arith, s, less)) ∙ f k less
      | inr most ↦ let same : k ≡ i = omega (arith, lt, most) in ap (λ zs. get_or zs k 0) h ∙ get_end xs n k (omega (arith, s, same)) ∙ e ∙ ap (number_of lines) (sym same)
    ]

pub table_is : (lines : List Line) (xs : List ℕ) → length xs ≡ length lines → ((k : ℕ) → k < length lines → get_or xs k 0 ≡ number_of lines k) → number_at xs ≡ number_of lines
table_is lines xs s f =
    fun_ext (λ k. elim (cases_lt k (length lines)) [
      | inl less ↦ f k less
      | inr most ↦ get_past xs k (omega (arith, s, most)) ∙ sym (ap (number_among lines (take k lines)) (slice_get_past lines k most))
    ])
