-- The frames of a witness that the judge accepts.
use Rattle.std.proofs.Common.{◌≡◌, ◌≢◌, ℕ, ◌+◌, ◌-◌, Bool, true, false, List, [], ◌∷◌, length, refl, arith}
use Rattle.std.specs.List.{AllByRecursion}
use Rattle.word_core.specs.Words.{BitVector}
use Rattle.btor_tree.specs.declared.lines.Line.{Line}
use Rattle.btor_tree.specs.Frame.{ConstraintsHold, Follow, IsBad, IsPath}
use Rattle.btor_frames.specs.Judged.{AreStatedAfter, PassAfter, Statement}
use Rattle.moxi_layout.specs.LayoutLaws.{AreBadFrames, AtLast}

module _ (lines : List Line) where
  follow : (last : List BitVector) (stated : List Statement) (rows : List (List BitVector)) → AreStatedAfter lines true last stated rows → Follow lines last rows
  follow last [] [] a = tt
  follow last [] (row ∷ rows) a = absurd a
  follow last (s ∷ more) [] a = absurd a
  follow last (s ∷ more) (row ∷ rows) a = (a.0.frame, a.0.values, follow row more rows a.1)

  path : (stated : List Statement) (rows : List (List BitVector)) → stated ≢ [] → AreStatedAfter lines false [] stated rows → IsPath lines rows
  path [] rows some a = absurd (some refl)
  path (s ∷ more) [] some a = absurd a
  path (s ∷ more) (row ∷ rows) some a = (a.0.frame, a.0.values, follow row more rows a.1)

  all_hold : (j : ℕ) (begun : Bool) (last : List BitVector) (stated : List Statement) (rows : List (List BitVector)) → AreStatedAfter lines begun last stated rows → PassAfter lines j begun stated rows
      → AllByRecursion (ConstraintsHold lines) rows
  all_hold j begun last [] rows a p = absurd p
  all_hold j begun last (s ∷ more) [] a p = absurd p
  all_hold j begun last (s ∷ []) (row ∷ []) a p = (p.1, tt)
  all_hold j begun last (s ∷ []) (row ∷ next ∷ rows) a p = absurd a.1
  all_hold j begun last (s ∷ t ∷ more) (row ∷ rows) a p = (p.1, all_hold j true row (t ∷ more) rows a.1 p.2)

  last_bad : (j : ℕ) (begun : Bool) (last : List BitVector) (stated : List Statement) (rows : List (List BitVector)) → AreStatedAfter lines begun last stated rows → PassAfter lines j begun stated rows
      → AtLast (λ row. IsBad lines row j) rows
  last_bad j begun last [] rows a p = absurd p
  last_bad j begun last (s ∷ more) [] a p = absurd p
  last_bad j begun last (s ∷ []) (row ∷ []) a p = p.2
  last_bad j begun last (s ∷ []) (row ∷ next ∷ rows) a p = absurd a.1
  last_bad j begun last (s ∷ t ∷ more) (row ∷ []) a p = absurd a.1
  last_bad j begun last (s ∷ t ∷ more) (row ∷ next ∷ rows) a p = last_bad j true row (t ∷ more) (next ∷ rows) a.1 p.2

  some_rows : (j : ℕ) (begun : Bool) (stated : List Statement) (rows : List (List BitVector)) → PassAfter lines j begun stated rows → length rows ≡ (length rows - 1) + 1
  some_rows j begun [] rows p = absurd p
  some_rows j begun (s ∷ more) [] p = absurd p
  some_rows j begun (s ∷ more) (row ∷ rows) p = omega arith

  pub bad_frames : (j : ℕ) (stated : List Statement) (rows : List (List BitVector)) → stated ≢ [] → AreStatedAfter lines false [] stated rows → PassAfter lines j false stated rows
      → AreBadFrames lines j (length rows - 1) rows
  bad_frames j stated rows some a p =
      record { sized = some_rows j false stated rows p; frames = (path stated rows some a, all_hold j false [] stated rows a p); bad = last_bad j false [] stated rows a p }
