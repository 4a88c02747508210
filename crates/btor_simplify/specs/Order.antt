-- The order of the lines that stay.
use Rattle.std.specs.Prelude.{◌≡◌, ◌<◌, ◌+◌, ℕ, Bool, true, false, List, [], ◌∷◌, length, Option, Some, None, slice_get, zero, suc, ◌++◌, ◌==◌, get_or, if◌then◌else◌}
use Rattle.std.specs.List.{AllByRecursion, list_any}
use Rattle.btor_tree.specs.declared.args.Arg.{Arg}
use Rattle.btor_tree.specs.declared.lines.Line.{Line}
use Rattle.btor_tree.specs.declared.lines.LineOp.{LineOp}
use Rattle.btor_tree.specs.declared.lines.LineOp.TheVariants as op
use Rattle.btor_rules.specs.declared.operand.Outcome.{Outcome}
use Rattle.btor_simplify.specs.Fates.{fate_at, sort_for, Lives, is_sort}
use Rattle.btor_simplify.specs.Marks.{args_by, is_marked}

-- has a line of this kind a sort?
abbrev pub has_sort : LineOp → Bool
has_sort (op.Sort w) = false
has_sort op.Bad = false
has_sort op.Constraint = false
has_sort op.Output = false
has_sort o = true

-- the line at an old place has this new place
abbrev pub IsMoved : List (Option ℕ) → ℕ → ℕ → Type 0
IsMoved moved i q = get_or moved i None ≡ Some q

abbrev pub IsBefore : List (Option ℕ) → ℕ → ℕ → Type 0
IsBefore moved i q = (p : ℕ) × IsMoved moved i p × (p < q)

abbrev pub AreBefore : List (Option ℕ) → List Arg → ℕ → Type 0
AreBefore moved args q = AllByRecursion (λ (b : Arg). IsBefore moved b.line q) args

-- what the line reads has earlier new places
pub record IsReadyAt (fates : List Outcome) (moved : List (Option ℕ)) (q i : ℕ) (l : Line) : Type 0 where
  pub args : AreBefore moved (args_by fates (fate_at fates i) l.args) q
  pub sort : has_sort l.op ≡ true → IsBefore moved (sort_for fates l.sort) q
  pub lives : Lives (fate_at fates i)

-- how many places are known
abbrev pub moved_count : List (Option ℕ) → ℕ
moved_count [] = 0
moved_count (None ∷ more) = moved_count more
moved_count (Some q ∷ more) = moved_count more + 1

-- new and old places of some of the first n lines, and of sort lines: each line comes behind what it reads, and those that are
-- no sorts stay in their order
pub record IsOrder (lines : List Line) (fates : List Outcome) (n : ℕ) (places : List ℕ) (moved : List (Option ℕ)) : Type 0 where
  pub sized : length moved ≡ length lines
  pub forward : (q i : ℕ) → slice_get places q ≡ Some i → IsMoved moved i q
  pub back : (i q : ℕ) → IsMoved moved i q → slice_get places q ≡ Some i
  pub count : moved_count moved ≡ length places
  pub bound : (q i : ℕ) (l : Line) → slice_get places q ≡ Some i → slice_get lines i ≡ Some l → is_sort l.op ≡ false → i < n
  pub ready : (q i : ℕ) (l : Line) → slice_get places q ≡ Some i → slice_get lines i ≡ Some l → IsReadyAt fates moved q i l
  pub rises : (p q i j : ℕ) (l m : Line) → slice_get places p ≡ Some i → slice_get places q ≡ Some j → slice_get lines i ≡ Some l → slice_get lines j ≡ Some m → is_sort l.op ≡ false → is_sort m.op ≡ false → p < q → i < j

-- places that were known stay
abbrev pub KeepsPlaces : List (Option ℕ) → List (Option ℕ) → Type 0
KeepsPlaces old new = (i q : ℕ) → IsMoved old i q → IsMoved new i q

-- each marked line of the first n has a place
abbrev pub HaveMarkedMoved : List Bool → ℕ → List (Option ℕ) → Type 0
HaveMarkedMoved marks n moved = (i : ℕ) → i < n → get_or marks i false ≡ true → (q : ℕ) × IsMoved moved i q

abbrev pub HasPlace : List (Option ℕ) → ℕ → Type 0
HasPlace moved i = (q : ℕ) × IsMoved moved i q

-- a sort line that stays
pub record IsLiveSort (lines : List Line) (fates : List Outcome) (s : ℕ) : Type 0 where
  pub line : Line
  pub at : slice_get lines s ≡ Some line
  pub sort : is_sort line.op ≡ true
  pub lives : Lives (fate_at fates s)

-- is the place in the list?
abbrev pub is_in : List ℕ → ℕ → Bool
is_in places s = list_any (λ p. p == s) places

-- the place comes at the end where the list does not have it yet
abbrev pub with_place : List ℕ → ℕ → List ℕ
with_place places s = if is_in places s then places else places ++ s ∷ []

-- the sort line of a line comes at the end where the list does not have it yet
abbrev pub with_sort_of : List Outcome → Line → List ℕ → List ℕ
with_sort_of fates l places = if has_sort l.op then with_place places (sort_for fates l.sort) else places

-- a line comes at the end, behind its sort line
abbrev pub with_line : List Outcome → ℕ → Option Line → List ℕ → List ℕ
with_line fates i None places = places
with_line fates i (Some l) places = with_sort_of fates l places ++ i ∷ []

-- a line comes at the end where it is marked
abbrev pub with_marked : List Line → List Outcome → List Bool → ℕ → List ℕ → List ℕ
with_marked lines fates marks i places = if is_marked marks i then with_line fates i (slice_get lines i) places else places

-- the old places of the lines that the first n lines make, in their order: those that are marked, and each sort line directly
-- before the first of them that has it
abbrev pub order_upto : List Line → List Outcome → List Bool → ℕ → List ℕ
order_upto lines fates marks zero = []
order_upto lines fates marks (suc n) = with_marked lines fates marks n (order_upto lines fates marks n)
