-- Lines without two alike have one sort of each width at most.
use Rattle.std.proofs.Common.{◌≡◌, ℕ, zero, suc, ◌+◌, ◌≤◌, Bool, true, false, cond, nat_eq, nat_lt, List, [], ◌∷◌, take, Some, refl, sym, ap, ◌∙◌, subst, arith}
use Rattle.std.specs.Prelude.{slice_get}
use Rattle.std.proofs.lemmas.Bool.{eqb-false, eqb-true, ltb-false, ltb-true}
use Rattle.word_core.specs.declared.word.TheConstants.{WIDEST}
use Rattle.btor_tree.specs.declared.args.Arg.{Arg}
use Rattle.btor_tree.specs.declared.lines.Line.{Line}
use Rattle.btor_tree.specs.declared.lines.LineOp.{LineOp}
use Rattle.btor_tree.specs.declared.lines.LineOp.TheVariants as line
use Rattle.btor_tree.specs.Fits.{IsWellFormed, OpFits, count_of}
use Rattle.btor_tree.specs.Sharing.{HasNoDuplicates, is_shared}
use Rattle.moxi_layout.proofs.Growth.{is_sort, sort_count, sort_is}

-- a sort below a width, or of a width
abbrev is_below : ℕ → LineOp → Bool
is_below n (line.Sort w) = nat_lt w n
is_below n o = false

abbrev has_width : ℕ → LineOp → Bool
has_width n (line.Sort w) = nat_eq w n
has_width n o = false

-- each sort line has a width that isn't too great, and no sort and no arguments of its own
pub record HasPlainSorts (lines : List Line) : Type 0 where
  pub each : (i : ℕ) (l : Line) → slice_get lines i ≡ Some l → (w : ℕ) → l.op ≡ line.Sort w → (w ≤ WIDEST) × (l.sort ≡ 0) × (l.args ≡ [])

fits_plain : (before : List Line) (s : ℕ) (o : LineOp) (args : List Arg) → OpFits before s o args → (w : ℕ) → o ≡ line.Sort w → (w ≤ WIDEST) × (s ≡ 0) × (args ≡ [])
fits_plain before s o args f w e = let g : OpFits before s (line.Sort w) args = subst (λ p. OpFits before s p args) e f in (g.1, g.2, g.3)

pub formed_plain : (lines : List Line) → IsWellFormed lines → HasPlainSorts lines
formed_plain lines formed = record { each = λ i l h. fits_plain (take i lines) l.sort l.op l.args (formed.by_line i l h).body.sorts }

plain_rest : (l : Line) (ls : List Line) → HasPlainSorts (l ∷ ls) → HasPlainSorts ls
plain_rest l ls p = record { each = λ i m h. p.each (suc i) m h }

alike_rest : (l : Line) (ls : List Line) → HasNoDuplicates (l ∷ ls) → HasNoDuplicates ls
alike_rest l ls d = record { by_places = λ i j x y g h s t. let e = d.by_places (suc i) (suc j) x y g h s t in omega (arith, e) }

width_is : (n : ℕ) (o : LineOp) → has_width n o ≡ true → o ≡ line.Sort n
width_is n (line.Sort w) h = ap line.Sort (eqb-true w n h)
width_is n o h = absurd (cc)

none_of : (n : ℕ) (ls : List Line) → ((i : ℕ) (l : Line) → slice_get ls i ≡ Some l → l.op ≡ line.Sort n → ⊥) → count_of (has_width n) ls ≡ 0
none_of n [] h = refl
none_of n (l ∷ ls) h = by (has_width n l.op) refl (none_of n ls (λ i m g. h (suc i) m g))
  where
    by : (b : Bool) → has_width n l.op ≡ b → count_of (has_width n) ls ≡ 0 → count_of (has_width n) (l ∷ ls) ≡ 0
    by true e r = absurd (h 0 l refl (width_is n l.op e))
    by false e r = ap (λ b. cond b 1 0 + count_of (has_width n) ls) e ∙ ap (λ k. 0 + k) r

one_most : (b : Bool) → cond b 1 0 ≤ 1
one_most true = omega arith
one_most false = omega arith

one_of : (n : ℕ) (ls : List Line) → HasNoDuplicates ls → HasPlainSorts ls → count_of (has_width n) ls ≤ 1
one_of n [] d p = omega arith
one_of n (l ∷ ls) d p = by (one_of n ls (alike_rest l ls d) (plain_rest l ls p)) (has_width n l.op) refl
  where
    same : l.op ≡ line.Sort n → (i : ℕ) (m : Line) → slice_get ls i ≡ Some m → m.op ≡ line.Sort n → ⊥
    same e i m g f =
        let a = p.each 0 l refl n e in
        let b = p.each (suc i) m g n f in
        let k = d.by_places 0 (suc i) l m refl g (ap is_shared e) (e ∙ sym f, a.1 ∙ sym b.1, a.2 ∙ sym b.2) in
        absurd (omega (arith, k))

    by : count_of (has_width n) ls ≤ 1 → (b : Bool) → has_width n l.op ≡ b → count_of (has_width n) (l ∷ ls) ≤ 1
    by r true e =
        let z = none_of n ls (same (width_is n l.op e)) in
        let k = one_most (has_width n l.op) in
        omega (arith, z, k)
    by r false e = let k = sort_is (has_width n l.op) e in omega (arith, r, k)

next_width : (n w : ℕ) (a b c : Bool) → nat_lt w (suc n) ≡ a → nat_lt w n ≡ b → nat_eq w n ≡ c → cond a 1 0 ≤ cond b 1 0 + cond c 1 0
next_width n w a true c x y z = let k = one_most a in omega (arith, k)
next_width n w a false true x y z = let k = one_most a in omega (arith, k)
next_width n w false false false x y z = omega arith
next_width n w true false false x y z =
    let g = ltb-true w (suc n) x in
    let h = ltb-false w n y in
    absurd (eqb-false w n z (let e : w ≡ n = omega (arith, g, h) in e))

next_below : (n : ℕ) (o : LineOp) → cond (is_below (suc n) o) 1 0 ≤ cond (is_below n o) 1 0 + cond (has_width n o) 1 0
next_below n (line.Sort w) = next_width n w (nat_lt w (suc n)) (nat_lt w n) (nat_eq w n) refl refl refl
next_below n o = omega arith

counts_next : (n : ℕ) (ls : List Line) → count_of (is_below (suc n)) ls ≤ count_of (is_below n) ls + count_of (has_width n) ls
counts_next n [] = omega arith
counts_next n (l ∷ ls) = omega (arith, next_below n l.op, counts_next n ls)

none_below : (o : LineOp) → cond (is_below 0 o) 1 0 ≤ 0
none_below (line.Sort w) = by (nat_lt w 0) refl
  where
    by : (b : Bool) → nat_lt w 0 ≡ b → cond b 1 0 ≤ 0
    by true e = let g = ltb-true w 0 e in absurd (omega (arith, g))
    by false e = omega arith
none_below o = omega arith

counts_none : (ls : List Line) → count_of (is_below 0) ls ≤ 0
counts_none [] = omega arith
counts_none (l ∷ ls) = omega (arith, none_below l.op, counts_none ls)

counts_below : (n : ℕ) (ls : List Line) → HasNoDuplicates ls → HasPlainSorts ls → count_of (is_below n) ls ≤ n
counts_below zero ls d p = counts_none ls
counts_below (suc n) ls d p = omega (arith, counts_next n ls, counts_below n ls d p, one_of n ls d p)

all_below : (o : LineOp) → ((w : ℕ) → o ≡ line.Sort w → w ≤ WIDEST) → cond (is_sort o) 1 0 ≤ cond (is_below (suc WIDEST) o) 1 0
all_below (line.Sort w) h = by (nat_lt w (suc WIDEST)) refl (h w refl)
  where
    by : (b : Bool) → nat_lt w (suc WIDEST) ≡ b → w ≤ WIDEST → 1 ≤ cond b 1 0
    by true e k = omega arith
    by false e k = let g = ltb-false w (suc WIDEST) e in absurd (omega (arith, g, k))
all_below o h = omega arith

counts_all : (ls : List Line) → HasPlainSorts ls → sort_count ls ≤ count_of (is_below (suc WIDEST)) ls
unfolding sort_count
counts_all [] p = omega arith
counts_all (l ∷ ls) p = omega (arith, all_below l.op (λ w e. (p.each 0 l refl w e).0), counts_all ls (plain_rest l ls p))

-- no more sorts than widths
pub sorts_few : (lines : List Line) → HasNoDuplicates lines → HasPlainSorts lines → sort_count lines ≤ suc WIDEST
sorts_few lines d p = let a = counts_all lines p in let b = counts_below (suc WIDEST) lines d p in omega (arith, a, b)
