-- By how many lines a push makes lines grow, sorts counted apart.
use Rattle.std.proofs.Common.{◌≡◌, ℕ, ◌+◌, ◌≤◌, Bool, true, false, not, cond, List, [], ◌∷◌, ◌++◌, length, Option, Some, None, refl, arith}
use Rattle.btor_tree.specs.declared.args.Arg.{Arg}
use Rattle.btor_tree.specs.declared.lines.Line.{Line}
use Rattle.btor_tree.specs.declared.lines.LineOp.{LineOp}
use Rattle.btor_tree.specs.declared.lines.LineOp.TheVariants as line
use Rattle.btor_tree.specs.Fits.{count_of}
use Rattle.btor_tree.specs.Sharing.{HasNoDuplicates, next_line, placed, pushed, standing, with_sort}
use Rattle.btor_tree.proofs.Alike.{pushed_distinct}
use Rattle.btor_tree.proofs.Grows.{count_push}
use Rattle.moxi_lines.proofs.Extending.{Extends, extends_none, extends_then}

abbrev pub is_sort : LineOp → Bool
is_sort (line.Sort w) = true
is_sort o = false

abbrev pub is_other : LineOp → Bool
is_other o = not (is_sort o)

unfoldable pub sort_count : List Line → ℕ
sort_count lines = count_of is_sort lines

unfoldable pub other_count : List Line → ℕ
other_count lines = count_of is_other lines

-- each line is one of the two
either_one : (b : Bool) (n m : ℕ) → (cond b 1 0 + n) + (cond (not b) 1 0 + m) ≡ (n + m) + 1
either_one true n m = omega arith
either_one false n m = omega arith

pub counted_all : (lines : List Line) → length lines ≡ sort_count lines + other_count lines
unfolding sort_count other_count
counted_all [] = refl
counted_all (l ∷ ls) = omega (arith, counted_all ls, either_one (is_sort l.op) (count_of is_sort ls) (count_of is_other ls))

-- lines with more behind them, at most so many that are no sorts, and at most so many sorts
pub record GrowsBy (n m : ℕ) (old new : List Line) : Type 0 where
  pub extends : Extends old new
  pub others : other_count new ≤ other_count old + n
  pub sorts : sort_count new ≤ sort_count old + m
  pub alike : HasNoDuplicates old → HasNoDuplicates new

-- at most so many, each of which may bring a sort
abbrev pub Grows : ℕ → List Line → List Line → Type 0
Grows n old new = GrowsBy n n old new

pub grows_none : (lines : List Line) → Grows 0 lines lines
grows_none lines = record { extends = extends_none lines; others = omega arith; sorts = omega arith; alike = λ h. h }

by_then : (n m k l : ℕ) (a b c : List Line) → GrowsBy n m a b → GrowsBy k l b c → GrowsBy (n + k) (m + l) a c
by_then n m k l a b c g h =
    record {
      extends = extends_then a b c g.extends h.extends;
      others = omega (arith, g.others, h.others);
      sorts = omega (arith, g.sorts, h.sorts);
      alike = λ d. h.alike (g.alike d);
    }

pub grows_then : (n m : ℕ) (a b c : List Line) → Grows n a b → Grows m b c → Grows (n + m) a c
grows_then n m a b c g h = by_then n n m m a b c g h

pub grows_more : (n m : ℕ) (a b : List Line) → n ≤ m → Grows n a b → Grows m a b
grows_more n m a b h g =
    record { extends = g.extends; others = omega (arith, g.others, h); sorts = omega (arith, g.sorts, h); alike = g.alike }

-- ---- pushes

line_grows : (n m : ℕ) (lines : List Line) (l : Line) → cond (is_other l.op) 1 0 ≤ n → cond (is_sort l.op) 1 0 ≤ m → (HasNoDuplicates lines → HasNoDuplicates (lines ++ l ∷ [])) → GrowsBy n m lines (lines ++ l ∷ [])
unfolding sort_count other_count
line_grows n m lines l h k d =
    record {
      extends = record { more = l ∷ []; is = refl };
      others = omega (arith, count_push is_other lines l, h);
      sorts = omega (arith, count_push is_sort lines l, k);
      alike = d;
    }

placed_grows : (n m : ℕ) (lines : List Line) (l : Line) (found : Option ℕ) → cond (is_other l.op) 1 0 ≤ n → cond (is_sort l.op) 1 0 ≤ m → (HasNoDuplicates lines → HasNoDuplicates (placed found lines l).0)
    → GrowsBy n m lines (placed found lines l).0
placed_grows n m lines l (Some p) h k d = record { extends = extends_none lines; others = omega arith; sorts = omega arith; alike = d }
placed_grows n m lines l None h k d = line_grows n m lines l h k d

sort_grows : (lines : List Line) (w : ℕ) → GrowsBy 0 1 lines (with_sort lines w).0
sort_grows lines w =
    placed_grows 0 1 lines (next_line lines (line.Sort w) 0 [] None) (standing lines (line.Sort w) 0 []) (omega arith) (omega arith) (pushed_distinct lines (line.Sort w) 0 [] None)

other_is : (b : Bool) → b ≡ false → cond (not b) 1 0 ≤ 1
other_is true h = omega arith
other_is false h = omega arith

-- where it isn't so, nothing counts
pub sort_is : (b : Bool) → b ≡ false → cond b 1 0 ≤ 0
sort_is true h = absurd (cc)
sort_is false h = omega arith

other_grows : (lines : List Line) (o : LineOp) (sort : ℕ) (args : List Arg) (symbol : Option (List ℕ)) → is_sort o ≡ false → GrowsBy 1 0 lines (pushed lines o sort args symbol).0
other_grows lines o sort args symbol h =
    placed_grows 1 0 lines (next_line lines o sort args symbol) (standing lines o sort args) (other_is (is_sort o) h) (sort_is (is_sort o) h) (pushed_distinct lines o sort args symbol)

pub push_grows : (lines : List Line) (o : LineOp) (sort : ℕ) (args : List Arg) (symbol : Option (List ℕ)) → is_sort o ≡ false → Grows 1 lines (pushed lines o sort args symbol).0
push_grows lines o sort args symbol h =
    let g = other_grows lines o sort args symbol h in
    record { extends = g.extends; others = g.others; sorts = omega (arith, g.sorts); alike = g.alike }

-- a line with its sort
pub sorted_grows : (lines : List Line) (o : LineOp) (w : ℕ) (args : List Arg) (symbol : Option (List ℕ)) → is_sort o ≡ false → Grows 1 lines (pushed (with_sort lines w).0 o (with_sort lines w).1 args symbol).0
sorted_grows lines o w args symbol h =
    let s = with_sort lines w in
    by_then 0 1 1 0 lines s.0 (pushed s.0 o s.1 args symbol).0 (sort_grows lines w) (other_grows s.0 o s.1 args symbol h)
