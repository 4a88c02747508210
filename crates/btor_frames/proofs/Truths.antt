-- The truth of constraint and bad lines.
use Rattle.std.proofs.Common.{◌≡◌, ℕ, zero, suc, ◌+◌, ◌<◌, Bool, true, false, cond, List, [], ◌∷◌, ◌++◌, length, take, get_or, Some, refl, sym, ap, ◌∙◌, subst, arith}
use Rattle.std.specs.Prelude.{slice_get, IsSomeAnd, IsTrue, ◌↔◌}
use Rattle.std.specs.List.{AllByRecursion}
use Rattle.std.proofs.lemmas.Option.{slice_get_read}
use Rattle.std.proofs.lemmas.List.{take_more}
use Rattle.word_core.specs.Words.{BitVector}
use Rattle.btor_tree.specs.declared.args.Arg.{Arg}
use Rattle.btor_tree.specs.declared.lines.Line.{Line}
use Rattle.btor_tree.specs.declared.lines.LineOp.{LineOp}
use Rattle.btor_tree.specs.declared.lines.LineOp.TheVariants.{Bad}
use Rattle.btor_tree.specs.Fits.{AreEarlier, OnOne, OpFits, IsWellFormed, count_of, operands, is_bad, is_constraint}
use Rattle.btor_tree.specs.Frame.{operand, true_word, ConstraintsHold, IsBad}
use Rattle.btor_frames.proofs.Finding.{earlier_inside}
use Rattle.text_core.proofs.ListLaws.{all_append}

pub all_at : {X : Type 0} (P : X → Type 0) (xs : List X) (i : ℕ) (x : X) → i < length xs → x ≡ get_or xs i x → AllByRecursion P xs → P x
all_at P [] i x h e a = absurd (omega (arith, h))
all_at P (y ∷ xs) zero x h e a = subst P (sym e) a.0
all_at P (y ∷ xs) (suc i) x h e a = all_at P xs i x (omega arith) e a.1

pub all_more : {X : Type 0} (P : X → Type 0) (xs : List X) (i : ℕ) (x : X) → i < length xs → x ≡ get_or xs i x → AllByRecursion P (take i xs) → P x → AllByRecursion P (take (i + 1) xs)
all_more P xs i x h e a p =
    subst (AllByRecursion P) (ap (λ y. take i xs ++ y ∷ []) e ∙ sym (take_more xs i x h)) (all_append P (take i xs) (x ∷ []) a (p, tt))

choice_all : (P : Arg → Type 0) (b : Bool) (args : List Arg) → (b ≡ true → AllByRecursion P args) → AllByRecursion P (cond b args [])
choice_all P true args h = h refl
choice_all P false args h = tt

-- what holds of the arguments of each line of a kind holds of all operands
operands_all : (P : Arg → Type 0) (kind : LineOp → Bool) (lines : List Line) → ((i : ℕ) (l : Line) → slice_get lines i ≡ Some l → kind l.op ≡ true → AllByRecursion P l.args) → AllByRecursion P (operands kind lines)
operands_all P kind [] h = tt
operands_all P kind (l ∷ ls) h =
    all_append P (cond (kind l.op) l.args []) (operands kind ls) (choice_all P (kind l.op) l.args (h 0 l refl)) (operands_all P kind ls (λ i k g. h (suc i) k g))

all_earlier : (n : ℕ) (args : List Arg) → AreEarlier n args → AllByRecursion (λ a. a.line < n) args
all_earlier n [] e = tt
all_earlier n (a ∷ more) e = (e.0, all_earlier n more e.1)

-- operands stand inside the list
pub operands_inside : (kind : LineOp → Bool) (lines : List Line) → IsWellFormed lines → AllByRecursion (λ a. a.line < length lines) (operands kind lines)
operands_inside kind lines w =
    operands_all (λ a. a.line < length lines) kind lines (λ i l g k. all_earlier (length lines) l.args (earlier_inside lines i l (length lines) w g refl))

pub operand_inside : (kind : LineOp → Bool) (lines : List Line) (found : List Arg) (i : ℕ) (a : Arg) → IsWellFormed lines → found ≡ operands kind lines → i < length found → a ≡ get_or found i a → a.line < length lines
operand_inside kind lines found i a w f h e =
    all_at (λ b. b.line < length lines) found i a h e (subst (AllByRecursion (λ b. b.line < length lines)) (sym f) (operands_inside kind lines w))

length_append : {X : Type 0} (xs ys : List X) → length (xs ++ ys) ≡ length xs + length ys
length_append [] ys = omega arith
length_append (x ∷ xs) ys = omega (arith, length_append xs ys)

choice_one : (b : Bool) (args : List Arg) → (b ≡ true → length args ≡ 1) → length (cond b args []) ≡ cond b 1 0
choice_one true args h = h refl
choice_one false args h = refl

-- a kind whose lines have one argument has as many operands as lines
operands_counted : (kind : LineOp → Bool) (lines : List Line) → ((i : ℕ) (l : Line) → slice_get lines i ≡ Some l → kind l.op ≡ true → length l.args ≡ 1) → length (operands kind lines) ≡ count_of kind lines
operands_counted kind [] h = refl
operands_counted kind (l ∷ ls) h =
    let rest = operands_counted kind ls (λ i k g. h (suc i) k g) in
    let one = choice_one (kind l.op) l.args (h 0 l refl) in
    omega (arith, rest, one, length_append (cond (kind l.op) l.args []) (operands kind ls))

one_only : (args : List Arg) (P : Arg → Type 0) → OnOne args P → length args ≡ 1
one_only [] P h = absurd h
one_only (a ∷ []) P h = refl
one_only (a ∷ b ∷ more) P h = absurd h

bad_one : (before : List Line) (s : ℕ) (op : LineOp) (args : List Arg) → is_bad op ≡ true → OpFits before s op args → length args ≡ 1
bad_one before s Bad args k f = one_only args _ f.1
bad_one before s op args k f = absurd (cc)

pub bads_counted : (lines : List Line) → IsWellFormed lines → length (operands is_bad lines) ≡ count_of is_bad lines
bads_counted lines w =
    operands_counted is_bad lines (λ i l g k. bad_one (take i lines) l.sort l.op l.args k (w.by_line i l g).body.sorts)

-- bad line j is there
pub bad_there : (lines : List Line) (found : List Arg) (j : ℕ) → IsWellFormed lines → found ≡ operands is_bad lines → j < count_of is_bad lines → j < length found
bad_there lines found j w f h = omega (arith, h, bads_counted lines w, ap length f)

-- bad line j is true exactly where its operand's word is
pub bad_both : (lines : List Line) (found : List Arg) (j : ℕ) (a : Arg) (inside row : List BitVector) (b : Bool) → found ≡ operands is_bad lines → j < length found → a ≡ get_or found j a → inside ≡ row → (IsTrue b → operand inside a ≡ true_word) × ((operand inside a ≡ true_word) → IsTrue b) → (IsTrue b → IsBad lines row j) × (IsBad lines row j → IsTrue b)
bad_both lines found j a inside row b f h e r both =
    let g : slice_get (operands is_bad lines) j ≡ Some a = ap (λ xs. slice_get xs j) (sym f) ∙ slice_get_read found (length found) j a refl h e in (
      λ t. subst (λ o. IsSomeAnd o (λ x. operand row x ≡ true_word)) (sym g) (subst (λ k. operand k a ≡ true_word) r (both.0 t)),
      λ p. both.1 (subst (λ k. operand k a ≡ true_word) (sym r) (subst (λ o. IsSomeAnd o (λ x. operand row x ≡ true_word)) g p)),
    )

-- all constraints are true exactly where the operands found are
pub constraints_both : (lines : List Line) (found : List Arg) (inside row : List BitVector) → found ≡ operands is_constraint lines → inside ≡ row → AllByRecursion (λ a. operand inside a ≡ true_word) found ↔ ConstraintsHold lines row
constraints_both lines found inside row f r =
    subst (λ (k : List BitVector). AllByRecursion (λ a. operand inside a ≡ true_word) found ↔ AllByRecursion (λ a. operand k a ≡ true_word) (operands is_constraint lines)) r
    (subst (λ xs. AllByRecursion (λ a. operand inside a ≡ true_word) found ↔ AllByRecursion (λ a. operand inside a ≡ true_word) xs) f (λ a. a, λ a. a))

-- what is asked of each of none
pub all_of_none : {X : Type 0} (P : X → Type 0) (xs : List X) → length xs ≡ 0 → AllByRecursion P xs
all_of_none P [] h = tt
all_of_none P (x ∷ xs) h = absurd (omega (arith, h))
