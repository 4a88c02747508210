-- Assignments by the numbers of the items that they assign, and the kinds of assignments that an item has.
use Rattle.std.specs.Prelude.{ℕ, Bool, true, false, not, ◌==◌, ◌&&◌, ◌||◌, List, [], ◌∷◌, Option, Some, is_some, slice_index_or}
use Rattle.std.specs.List.{list_any}
use Rattle.smv_text.specs.declared.tree.When.{When}
use Rattle.smv_text.specs.declared.tree.When.TheVariants.{Always, First, Following}
use Rattle.smv_meaning.specs.Checks.{Check, check}
use Rattle.smv_meaning.specs.Phases.{when_same}
use Rattle.smv_names.specs.declared.assignments.Kinds.{Kinds}
use Rattle.smv_names.specs.declared.assignments.NumberedAssignment.{NumberedAssignment}

abbrev pub no_kinds : Kinds
no_kinds = record { always = false; first = false; following = false }

-- with one kind more
abbrev pub with_kind : Kinds → When → Kinds
with_kind k Always = record k { always = true }
with_kind k First = record k { first = true }
with_kind k Following = record k { following = true }

-- an item that has these kinds of assignments can't have this one too
abbrev pub kinds_clash : Kinds → When → Bool
kinds_clash k Always = k.always || k.first || k.following
kinds_clash k First = k.always || k.first
kinds_clash k Following = k.always || k.following

-- the kinds of the item with this number
abbrev pub kinds_at : List Kinds → ℕ → Kinds
kinds_at kept k = slice_index_or kept k no_kinds

abbrev pub item_same : Option ℕ → Option ℕ → Bool
item_same (Some k) (Some n) = k == n
item_same k n = false

-- two assignments to one item, of one kind or `x :=` with another
abbrev pub numbered_clash : NumberedAssignment → NumberedAssignment → Bool
numbered_clash a b = item_same a.item b.item && (when_same a.when b.when || when_same a.when Always || when_same b.when Always)

-- only what has an item can be assigned, and each once
abbrev pub numbered_checks : List NumberedAssignment → List NumberedAssignment → List Check
numbered_checks seen [] = []
numbered_checks seen (a ∷ more) =
    check 22 a.place (is_some a.item) ∷ check 21 a.place (not (list_any (numbered_clash a) seen)) ∷ numbered_checks (a ∷ seen) more
