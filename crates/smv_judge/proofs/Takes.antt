-- Rows that are handed on one after another.
use Rattle.std.proofs.Common.{◌≡◌, true, ◌==◌, List, [], ◌∷◌, ◌++◌, length, sym, subst, arith}
use Rattle.std.proofs.lemmas.List.{append_assoc}
use Rattle.smv_meaning.specs.declared.value.Given.{Given}
use Rattle.smv_meaning.specs.Values.{Valuation, given}
use Rattle.smv_flat.specs.FlatForms.{PlainFlat}
use Rattle.smv_flat.specs.FlatTruth.{Row, IsRow}
use Rattle.smv_judge.specs.Taken.{AreRowsOf, HasTaken}
use Rattle.digraph.proofs.Lists.{same}

-- rows were taken, and with the rows of the states that are left they are those of all states
pub record TakenBefore (took : List Row → Type 0) (flat : PlainFlat) (last : List Given) (all labels states left : List (List Given)) : Type 0 where
  pub rows : List Row
  pub taken : took rows
  pub goes_on : (more : List Row) → AreRowsOf flat last states left more → AreRowsOf flat last all labels (rows ++ more)

-- one row more was taken
abbrev pub Takes : (old new : List Row → Type 0) → Row → Type 0
Takes old new r = (rows : List Row) → old rows → new (rows ++ r ∷ [])

abbrev pub TakesLast : PlainFlat → Valuation → Valuation → (old new : List Row → Type 0) → Type 0
TakesLast flat s l old new = (r : Row) × IsRow flat s l r × Takes old new r

pub none_taken : (took : List Row → Type 0) (flat : PlainFlat) (last : List Given) (states labels : List (List Given)) → took [] → TakenBefore took flat last states labels states labels
none_taken took flat last states labels h = record { rows = []; taken = h; goes_on = λ more a. a }

pub one_taken : (old new : List Row → Type 0) (flat : PlainFlat) (last : List Given) (all labels : List (List Given)) (s l : List Given) (states left : List (List Given)) (r : Row) → IsRow flat (given s) (given l) r → Takes old new r
    → TakenBefore old flat last all labels (s ∷ states) (l ∷ left) → TakenBefore new flat last all labels states left
one_taken old new flat last all labels s l states left r row takes t = record {
  rows = t.rows ++ r ∷ [];
  taken = takes t.rows t.taken;
  goes_on = λ more a. subst (AreRowsOf flat last all labels) (sym (append_assoc t.rows (r ∷ []) more)) (t.goes_on (r ∷ more) (row, a));
}

pub all_taken : (old new : List Row → Type 0) (flat : PlainFlat) (last : List Given) (all labels : List (List Given)) (s : List Given) (states left : List (List Given)) → length states ≡ 0 → (length left == 0) ≡ true
    → TakesLast flat (given s) (given last) old new → TakenBefore old flat last all labels (s ∷ states) left → HasTaken new flat last all labels
all_taken old new flat last all labels s [] [] a b h t = record { rows = t.rows ++ h.0 ∷ []; taken = h.2 t.rows t.taken; are = t.goes_on (h.0 ∷ []) (h.1, tt) }
all_taken old new flat last all labels s [] (l ∷ left) a b h t = let z : length (l ∷ left) ≡ 0 = same (length (l ∷ left)) 0 b in absurd (omega (arith, z))
all_taken old new flat last all labels s (x ∷ states) left a b h t = absurd (omega (arith, a))
