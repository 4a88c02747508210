-- The parts of an expression are less deep than the expression.
use Rattle.std.proofs.Common.{◌≡◌, ℕ, zero, suc, ◌≤◌, ◌<◌, ◌++◌, get_or, max, List, [], ◌∷◌, length, map, subst, sym, ap, ◌∙◌, arith}
use Rattle.smv_flat.specs.declared.expressions.FlatExpr.{FlatExpr}
use Rattle.smv_flat.specs.declared.expressions.FlatLink.{FlatLink}
use Rattle.smv_flat.specs.declared.expressions.FlatBranch.{FlatBranch}
use Rattle.smv_flat.specs.declared.forms.FlatFormula.{FlatFormula}
use Rattle.smv_flat.specs.FlatFormulas.{form_plain}
use Rattle.smv_flat.specs.FlatTree.{flat_links_of, flat_branches_of, flat_trees_of}
use Rattle.smv_flat.specs.FlatView.{plain_flat, plain_flat_link, plain_flat_branch}
use Rattle.smv_script_terms.specs.Depths.{depth, links_depth, branches_depth, trees_depth, forms_depth}
use Rattle.smv_flat.proofs.FlatViews.{branch_at, link_at}

link_within : (other : ℕ) (ls : List FlatLink) (k : ℕ) (l : FlatLink) → k < length ls → depth other (plain_flat_link (get_or ls k l)).1 ≤ links_depth other (flat_links_of (map plain_flat_link ls))
link_within other [] k l h = absurd (omega (arith, h))
link_within other (m ∷ ls) zero l h = omega arith
link_within other (m ∷ ls) (suc k) l h = let i : k < length ls = omega (arith, h) in let r = link_within other ls k l i in omega (arith, r)

pub link_low : (other : ℕ) (ls : List FlatLink) (k : ℕ) (l : FlatLink) → k < length ls → l ≡ get_or ls k l → depth other (plain_flat l.operand) ≤ links_depth other (flat_links_of (map plain_flat_link ls))
link_low other ls k l h e =
    subst (λ d. d ≤ links_depth other (flat_links_of (map plain_flat_link ls))) (ap (λ m. depth other (plain_flat_link m).1) (sym e) ∙ ap (λ p. depth other p.1) (link_at l)) (link_within other ls k l h)

pub record BranchLow (other : ℕ) (b : FlatBranch) (n : ℕ) : Type 0 where
  pub when : depth other (plain_flat b.when) ≤ n
  pub value : depth other (plain_flat b.value) ≤ n

branch_within : (other : ℕ) (bs : List FlatBranch) (k : ℕ) (b : FlatBranch) → k < length bs → max (depth other (plain_flat_branch (get_or bs k b)).0) (depth other (plain_flat_branch (get_or bs k b)).1) ≤ branches_depth other (flat_branches_of (map plain_flat_branch bs))
branch_within other [] k b h = absurd (omega (arith, h))
branch_within other (c ∷ bs) zero b h = omega arith
branch_within other (c ∷ bs) (suc k) b h = let i : k < length bs = omega (arith, h) in let r = branch_within other bs k b i in omega (arith, r)

both : (x y n : ℕ) → max x y ≤ n → (x ≤ n) × (y ≤ n)
both x y n h = (omega (arith, h), omega (arith, h))

pub branch_low : (other : ℕ) (bs : List FlatBranch) (k : ℕ) (b : FlatBranch) → k < length bs → b ≡ get_or bs k b → BranchLow other b (branches_depth other (flat_branches_of (map plain_flat_branch bs)))
branch_low other bs k b h e =
    let n = branches_depth other (flat_branches_of (map plain_flat_branch bs)) in
    let low = both (depth other (plain_flat_branch (get_or bs k b)).0) (depth other (plain_flat_branch (get_or bs k b)).1) n (branch_within other bs k b h) in
    record {
      when = subst (λ d. d ≤ n) (ap (λ m. depth other (plain_flat_branch m).0) (sym e) ∙ ap (λ p. depth other p.0) (branch_at b)) low.0;
      value = subst (λ d. d ≤ n) (ap (λ m. depth other (plain_flat_branch m).1) (sym e) ∙ ap (λ p. depth other p.1) (branch_at b)) low.1;
    }

tree_within : (other : ℕ) (es : List FlatExpr) (k : ℕ) (e : FlatExpr) → k < length es → depth other (plain_flat (get_or es k e)) ≤ trees_depth other (flat_trees_of (map plain_flat es))
tree_within other [] k e h = absurd (omega (arith, h))
tree_within other (f ∷ es) zero e h = omega arith
tree_within other (f ∷ es) (suc k) e h = let i : k < length es = omega (arith, h) in let r = tree_within other es k e i in omega (arith, r)

pub tree_low : (other : ℕ) (es : List FlatExpr) (k : ℕ) (e : FlatExpr) → k < length es → e ≡ get_or es k e → depth other (plain_flat e) ≤ trees_depth other (flat_trees_of (map plain_flat es))
tree_low other es k e h q = subst (λ d. d ≤ trees_depth other (flat_trees_of (map plain_flat es))) (ap (λ m. depth other (plain_flat m)) (sym q)) (tree_within other es k e h)

firsts_of : (other : ℕ) (bs : List FlatBranch) (b : FlatBranch) → max (branches_depth other (flat_branches_of (map plain_flat_branch bs))) (depth other (plain_flat_branch b).1) ≤ branches_depth other (flat_branches_of (map plain_flat_branch (bs ++ b ∷ [])))
firsts_of other [] b = omega arith
firsts_of other (c ∷ bs) b = let h = firsts_of other bs b in omega (arith, h)

-- all branches but the last, and the value of the last
pub record FirstsLow (other : ℕ) (bs : List FlatBranch) (b : FlatBranch) (n : ℕ) : Type 0 where
  pub firsts : branches_depth other (flat_branches_of (map plain_flat_branch bs)) ≤ n
  pub last : depth other (plain_flat b.value) ≤ n

pub firsts_low : (other : ℕ) (all bs : List FlatBranch) (b : FlatBranch) → all ≡ bs ++ b ∷ [] → FirstsLow other bs b (branches_depth other (flat_branches_of (map plain_flat_branch all)))
firsts_low other all bs b e =
    let n = branches_depth other (flat_branches_of (map plain_flat_branch all)) in
    let low = both (branches_depth other (flat_branches_of (map plain_flat_branch bs))) (depth other (plain_flat_branch b).1) n
    (subst (λ xs. max (branches_depth other (flat_branches_of (map plain_flat_branch bs))) (depth other (plain_flat_branch b).1) ≤ branches_depth other (flat_branches_of (map plain_flat_branch xs))) (sym e) (firsts_of other bs b)) in
    record { firsts = low.0; last = subst (λ d. d ≤ n) (ap (λ p. depth other p.1) (branch_at b)) low.1 }

pub form_within : (fs : List FlatFormula) (k : ℕ) (f : FlatFormula) → k < length fs → depth 0 (plain_flat (get_or fs k f).body) ≤ forms_depth (map form_plain fs)
form_within [] k f h = absurd (omega (arith, h))
form_within (g ∷ fs) zero f h = omega arith
form_within (g ∷ fs) (suc k) f h = let i : k < length fs = omega (arith, h) in let r = form_within fs k f i in omega (arith, r)

pub form_low : (fs : List FlatFormula) (k : ℕ) (f : FlatFormula) → k < length fs → f ≡ get_or fs k f → depth 0 (plain_flat f.body) ≤ forms_depth (map form_plain fs)
form_low fs k f h q = subst (λ d. d ≤ forms_depth (map form_plain fs)) (ap (λ (g : FlatFormula). depth 0 (plain_flat g.body)) (sym q)) (form_within fs k f h)
