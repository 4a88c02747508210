-- Marks of numbers.
use Rattle.std.proofs.Common.{cond, drop, drop-cons, add-one, ◌≡◌, ℕ, suc, ◌+◌, ◌<◌, Bool, true, false, ◌||◌, List, [], ◌∷◌, ◌++◌, take, length, append_assoc, refl, sym, ap, ◌∙◌, subst, arith}
use Rattle.std.specs.Prelude.{min, nat_eq, slice_index_or}
use Rattle.std.specs.List.{list_any}
use Rattle.std.proofs.lemmas.List.{take_more}
use Rattle.std.proofs.lemmas.List.Folds.{list_any-append}
use Rattle.moxi_scripts.specs.declared.script.Query.{Query}
use Rattle.moxi_instantiate.specs.declared.checks.FormulaKind.{FormulaKind}
use Rattle.moxi_instantiate.specs.CheckCounts.{AreMarked, all_numbers, numbers_of, unnamed_sum}
use Rattle.moxi_instantiate.specs.declared.counts.TheConstants.{MOST}
use Rattle.moxi_instantiate.specs.Counting.{capped}
use Rattle.moxi_instantiate.proofs.Filling.{append_nothing}

or_last : (a : Bool) → (a || (true || false)) ≡ true
or_last true = refl
or_last false = refl

or_nothing : (a : Bool) → (a || (false || false)) ≡ a
or_nothing true = refl
or_nothing false = refl

with_last : (named : List ℕ) (k i : ℕ) → list_any (nat_eq k) (named ++ i ∷ []) ≡ (list_any (nat_eq k) named || (nat_eq k i || false))
with_last named k i = list_any-append (nat_eq k) named (i ∷ [])

-- one number more
pub marked_more : (marks : List Bool) (named numbers : List ℕ) (k i d : ℕ) → k < length numbers → i ≡ slice_index_or numbers k d → AreMarked marks ((named ++ take k numbers) ++ i ∷ [])
    → AreMarked marks (named ++ take (k + 1) numbers)
marked_more marks named numbers k i d l e m =
    subst (AreMarked marks) (append_assoc named (take k numbers) (i ∷ []) ∙ ap (λ xs. named ++ xs) (ap (λ j. take k numbers ++ j ∷ []) e ∙ sym (take_more numbers k d l))) m

all_append : (kind : FormulaKind) (qs rs : List Query) → all_numbers kind (qs ++ rs) ≡ all_numbers kind qs ++ all_numbers kind rs
all_append kind [] rs = refl
all_append kind (q ∷ qs) rs = ap (λ xs. numbers_of kind q ++ xs) (all_append kind qs rs) ∙ sym (append_assoc (numbers_of kind q) (all_numbers kind qs) (all_numbers kind rs))

-- one query more
pub marked_query : (marks : List Bool) (kind : FormulaKind) (qs : List Query) (k : ℕ) (q : Query) → k < length qs → q ≡ slice_index_or qs k q
    → AreMarked marks (all_numbers kind (take k qs) ++ numbers_of kind q) → AreMarked marks (all_numbers kind (take (k + 1) qs))
marked_query marks kind qs k q l e m =
    subst (AreMarked marks)
    (sym (ap (all_numbers kind) (take_more qs k q l) ∙ all_append kind (take k qs) (slice_index_or qs k q ∷ []) ∙ ap (λ x. all_numbers kind (take k qs) ++ (numbers_of kind x ++ [])) (sym e)
    ∙ ap (λ xs. all_numbers kind (take k qs) ++ xs) (append_nothing (numbers_of kind q)))) m

-- ---- what isn't named

within : (m total v rest : ℕ) → min (min (total + min v m) m + rest) m ≡ min (total + (v + rest)) m
within m total v rest = omega arith

nothing_within : (m : ℕ) → 0 ≡ min 0 m
nothing_within m = omega arith

picked : (b : Bool) (x : ℕ) → cond b 0 (capped x) ≡ capped (cond b 0 x)
picked true x = nothing_within MOST
picked false x = refl

pub unnamed_step : (named counts : List ℕ) (k : ℕ) (marked : Bool) (total count kept next end : ℕ) → k < length counts → marked ≡ list_any (nat_eq k) named → count ≡ capped (slice_index_or counts k 0)
    → kept ≡ cond marked 0 count → next ≡ capped (total + kept) → capped (total + unnamed_sum named k (drop k counts)) ≡ end → capped (next + unnamed_sum named (k + 1) (drop (k + 1) counts)) ≡ end
unnamed_step named counts k marked total count kept next end l m c p n before =
    let b = list_any (nat_eq k) named in
    let v = cond (list_any (nat_eq k) named) 0 (slice_index_or counts k 0) in
    let rest = unnamed_sum named (k + 1) (drop (suc k) counts) in
    ap (λ j. capped (next + unnamed_sum named (k + 1) (drop j counts))) (add-one k)
    ∙ ap (λ x. capped (x + rest)) (n ∙ ap (λ x. capped (total + x)) (p ∙ ap (λ a. cond a 0 count) m ∙ ap (cond b 0) c ∙ picked b (slice_index_or counts k 0)))
    ∙ within MOST total v rest
    ∙ sym (ap (λ xs. capped (total + unnamed_sum named k xs)) (drop-cons counts k 0 l))
    ∙ before
