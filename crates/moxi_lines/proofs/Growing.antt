-- Lines that grow by sorts, constants and operators keep what is in them.
use Rattle.std.proofs.Common.{◌≡◌, ℕ, ◌<◌, ◌≤◌, true, List, [], ◌∷◌, ◌++◌, length, sym, ap, ◌∙◌, subst, arith, append_assoc}
use Rattle.std.proofs.lemmas.List.{append-nil, length-append}
use Rattle.word_core.specs.Words.{BitVector}
use Rattle.btor_tree.specs.declared.args.Arg.{Arg}
use Rattle.btor_tree.specs.declared.lines.Line.{Line}
use Rattle.btor_tree.specs.Fits.{AreEarlier, width_at, sort_at}
use Rattle.btor_tree.specs.Frame.{Meets}
use Rattle.btor_tree.specs.Sharing.{GrowsByShared, is_shared}
use Rattle.btor_tree.proofs.Grows.{meets_front, slice_get_inside}
use Rattle.btor_tree.proofs.Widths.{line_at, sort_front, width_front}
use Rattle.text_core.proofs.ListLaws.{all_append}

pub grown_none : (lines : List Line) → GrowsByShared lines lines
grown_none lines = ([], sym (append-nil lines), tt)

pub grown_then : (a b c : List Line) → GrowsByShared a b → GrowsByShared b c → GrowsByShared a c
grown_then a b c g h =
    (g.0 ++ h.0, h.1 ∙ ap (λ ls. ls ++ h.0) g.1 ∙ append_assoc a g.0 h.0, all_append (λ l. is_shared l.op ≡ true) g.0 h.0 g.2 h.2)

pub grown_long : (a b : List Line) → GrowsByShared a b → length a ≤ length b
grown_long a b g = omega (arith, ap length g.1, length-append a g.0)

pub grown_sort : (a b : List Line) (s w : ℕ) → 1 ≤ w → GrowsByShared a b → sort_at a s ≡ w → sort_at b s ≡ w
grown_sort a b s w p g e = ap (λ ls. sort_at ls s) g.1 ∙ sort_front a g.0 s (subst (λ n. 1 ≤ n) (sym e) p) ∙ e

pub grown_width : (a b : List Line) (i w : ℕ) → 1 ≤ w → GrowsByShared a b → width_at a i ≡ w → width_at b i ≡ w
grown_width a b i w p g e = ap (λ ls. width_at ls i) g.1 ∙ width_front a g.0 i (subst (λ n. 1 ≤ n) (sym e) p) ∙ e

pub grown_meets : (a b : List Line) (row : List BitVector) → GrowsByShared a b → Meets b row → Meets a row
grown_meets a b row g m = meets_front a g.0 row (subst (λ ls. Meets ls row) g.1 m)

pub earlier_more : (n m : ℕ) (args : List Arg) → n ≤ m → AreEarlier n args → AreEarlier m args
earlier_more n m [] h e = tt
earlier_more n m (a ∷ args) h e = (omega (arith, h, e.0), earlier_more n m args h e.1)

-- a line with a word is among the lines
pub wide_inside : (lines : List Line) (p w : ℕ) → 1 ≤ w → width_at lines p ≡ w → p < length lines
wide_inside lines p w h e =
    let g = line_at lines p (subst (λ n. 1 ≤ n) (sym e) h) in
    slice_get_inside lines p g.0 g.1
