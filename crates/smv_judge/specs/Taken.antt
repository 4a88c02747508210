-- The rows of a run's states that a judge hands on.
use Rattle.std.specs.Prelude.{List, [], ◌∷◌}
use Rattle.smv_meaning.specs.declared.value.Given.{Given}
use Rattle.smv_meaning.specs.Values.{given}
use Rattle.smv_flat.specs.FlatForms.{PlainFlat}
use Rattle.smv_flat.specs.FlatTruth.{Row, IsRow}

-- the first label, or the last one of all where none is left
abbrev pub next_or : List Given → List (List Given) → List Given
next_or last [] = last
next_or last (l ∷ labels) = l

abbrev pub labels_left : List (List Given) → List (List Given)
labels_left [] = []
labels_left (l ∷ labels) = labels

-- a row for each state, under the label of the transition that leaves it; the last state has the last label
abbrev pub AreRowsOf : PlainFlat → List Given → List (List Given) → List (List Given) → List Row → Type 0
AreRowsOf flat last [] labels [] = Unit {0}
AreRowsOf flat last [] labels (r ∷ rows) = ⊥
AreRowsOf flat last (s ∷ states) labels [] = ⊥
AreRowsOf flat last (s ∷ states) labels (r ∷ rows) = IsRow flat (given s) (given (next_or last labels)) r × AreRowsOf flat last states (labels_left labels) rows

-- these rows were taken, and no others
pub record HasTaken (took : List Row → Type 0) (flat : PlainFlat) (last : List Given) (states labels : List (List Given)) : Type 0 where
  pub rows : List Row
  pub taken : took rows
  pub are : AreRowsOf flat last states labels rows
