-- The numbers of an expression's parts are in range where those of the expression are.
use Rattle.std.proofs.Common.{◌≡◌, ℕ, zero, suc, ◌+◌, ◌≤◌, ◌<◌, ◌++◌, get_or, List, [], ◌∷◌, length, map, subst, sym, ap, ◌∙◌, arith}
use Rattle.smv_flat.specs.declared.expressions.FlatExpr.{FlatExpr}
use Rattle.smv_flat.specs.declared.expressions.FlatLink.{FlatLink}
use Rattle.smv_flat.specs.declared.expressions.FlatBranch.{FlatBranch}
use Rattle.smv_flat.specs.declared.forms.FlatFormula.{FlatFormula}
use Rattle.smv_flat.specs.FlatFormulas.{form_plain}
use Rattle.smv_flat.specs.FlatTree.{flat_links_of, flat_branches_of, flat_trees_of}
use Rattle.smv_flat.specs.FlatView.{plain_flat, plain_flat_link, plain_flat_branch}
use Rattle.smv_script.specs.Operators.{front_width}
use Rattle.smv_script.specs.Ranges.{excess, links_excess, branches_excess, trees_excess, fronts_excess, forms_excess, joined_excess, shift_excess}
use Rattle.smv_script.specs.Terms.{amount_of, word_width}
use Rattle.smv_script_terms.proofs.LinkLists.{links_at}
use Rattle.smv_flat.proofs.FlatViews.{branch_at, link_at}

-- ---- operands

link_within : (ls : List FlatLink) (k : ℕ) (l : FlatLink) → k < length ls → excess (plain_flat_link (get_or ls k l)).1 ≤ links_excess (flat_links_of (map plain_flat_link ls))
link_within [] k l h = absurd (omega (arith, h))
link_within (m ∷ ls) zero l h = omega arith
link_within (m ∷ ls) (suc k) l h = let i : k < length ls = omega (arith, h) in let r = link_within ls k l i in omega (arith, r)

pub link_in_range : (ls : List FlatLink) (k : ℕ) (l : FlatLink) → k < length ls → l ≡ get_or ls k l → excess (plain_flat l.operand) ≤ links_excess (flat_links_of (map plain_flat_link ls))
link_in_range ls k l h e =
    subst (λ d. d ≤ links_excess (flat_links_of (map plain_flat_link ls))) (ap (λ m. excess (plain_flat_link m).1) (sym e) ∙ ap (λ p. excess p.1) (link_at l)) (link_within ls k l h)

-- ---- branches

pub record BranchInRange (b : FlatBranch) (n : ℕ) : Type 0 where
  pub when : excess (plain_flat b.when) ≤ n
  pub value : excess (plain_flat b.value) ≤ n

branch_within : (bs : List FlatBranch) (k : ℕ) (b : FlatBranch) → k < length bs → excess (plain_flat_branch (get_or bs k b)).0 + excess (plain_flat_branch (get_or bs k b)).1 ≤ branches_excess (flat_branches_of (map plain_flat_branch bs))
branch_within [] k b h = absurd (omega (arith, h))
branch_within (c ∷ bs) zero b h = omega arith
branch_within (c ∷ bs) (suc k) b h = let i : k < length bs = omega (arith, h) in let r = branch_within bs k b i in omega (arith, r)

both : (x y n : ℕ) → x + y ≤ n → (x ≤ n) × (y ≤ n)
both x y n h = (omega (arith, h), omega (arith, h))

pub branch_in_range : (bs : List FlatBranch) (k : ℕ) (b : FlatBranch) → k < length bs → b ≡ get_or bs k b → BranchInRange b (branches_excess (flat_branches_of (map plain_flat_branch bs)))
branch_in_range bs k b h e =
    let n = branches_excess (flat_branches_of (map plain_flat_branch bs)) in
    let low = both (excess (plain_flat_branch (get_or bs k b)).0) (excess (plain_flat_branch (get_or bs k b)).1) n (branch_within bs k b h) in
    record {
      when = subst (λ d. d ≤ n) (ap (λ m. excess (plain_flat_branch m).0) (sym e) ∙ ap (λ p. excess p.0) (branch_at b)) low.0;
      value = subst (λ d. d ≤ n) (ap (λ m. excess (plain_flat_branch m).1) (sym e) ∙ ap (λ p. excess p.1) (branch_at b)) low.1;
    }

firsts_of : (bs : List FlatBranch) (b : FlatBranch) → branches_excess (flat_branches_of (map plain_flat_branch bs)) + excess (plain_flat_branch b).1 ≤ branches_excess (flat_branches_of (map plain_flat_branch (bs ++ b ∷ [])))
firsts_of [] b = omega arith
firsts_of (c ∷ bs) b = let h = firsts_of bs b in omega (arith, h)

-- all branches but the last, and the value of the last
pub record FirstsInRange (bs : List FlatBranch) (b : FlatBranch) (n : ℕ) : Type 0 where
  pub firsts : branches_excess (flat_branches_of (map plain_flat_branch bs)) ≤ n
  pub last : excess (plain_flat b.value) ≤ n

pub firsts_in_range : (all bs : List FlatBranch) (b : FlatBranch) → all ≡ bs ++ b ∷ [] → FirstsInRange bs b (branches_excess (flat_branches_of (map plain_flat_branch all)))
firsts_in_range all bs b e =
    let n = branches_excess (flat_branches_of (map plain_flat_branch all)) in
    let low = both (branches_excess (flat_branches_of (map plain_flat_branch bs))) (excess (plain_flat_branch b).1) n
    (subst (λ xs. branches_excess (flat_branches_of (map plain_flat_branch bs)) + excess (plain_flat_branch b).1 ≤ branches_excess (flat_branches_of (map plain_flat_branch xs))) (sym e) (firsts_of bs b)) in
    record { firsts = low.0; last = subst (λ d. d ≤ n) (ap (λ p. excess p.1) (branch_at b)) low.1 }

-- ---- arguments and elements

tree_within : (es : List FlatExpr) (k : ℕ) (e : FlatExpr) → k < length es → excess (plain_flat (get_or es k e)) ≤ trees_excess (flat_trees_of (map plain_flat es))
tree_within [] k e h = absurd (omega (arith, h))
tree_within (f ∷ es) zero e h = omega arith
tree_within (f ∷ es) (suc k) e h = let i : k < length es = omega (arith, h) in let r = tree_within es k e i in omega (arith, r)

pub tree_in_range : (es : List FlatExpr) (k : ℕ) (e : FlatExpr) → k < length es → e ≡ get_or es k e → excess (plain_flat e) ≤ trees_excess (flat_trees_of (map plain_flat es))
tree_in_range es k e h q = subst (λ d. d ≤ trees_excess (flat_trees_of (map plain_flat es))) (ap (λ m. excess (plain_flat m)) (sym q)) (tree_within es k e h)

-- ---- formulas

pub form_range_within : (fs : List FlatFormula) (k : ℕ) (f : FlatFormula) → k < length fs → excess (plain_flat (get_or fs k f).body) ≤ forms_excess (map form_plain fs)
form_range_within [] k f h = absurd (omega (arith, h))
form_range_within (g ∷ fs) zero f h = omega arith
form_range_within (g ∷ fs) (suc k) f h = let i : k < length fs = omega (arith, h) in let r = form_range_within fs k f i in omega (arith, r)

pub form_in_range : (fs : List FlatFormula) (k : ℕ) (f : FlatFormula) → k < length fs → f ≡ get_or fs k f → excess (plain_flat f.body) ≤ forms_excess (map form_plain fs)
form_in_range fs k f h q = subst (λ d. d ≤ forms_excess (map form_plain fs)) (ap (λ (g : FlatFormula). excess (plain_flat g.body)) (sym q)) (form_range_within fs k f h)

-- ---- a chain that is read from the left

-- the operators from this link on
abbrev pub fronts_from : ℕ → List FlatLink → ℕ
fronts_from m xs = fronts_excess m (flat_links_of (map plain_flat_link xs))

fronts_at : (m : ℕ) (xs rest : List FlatLink) (l : FlatLink) → xs ≡ l ∷ rest
    → fronts_from m xs ≡ shift_excess l.op m (amount_of (plain_flat l.operand)) + joined_excess l.op m (word_width (plain_flat l.operand)) + fronts_from (front_width l.op m (word_width (plain_flat l.operand))) rest
fronts_at m xs rest l h = ap (fronts_excess m) (links_at xs rest l h)

pub record FrontInRange (m : ℕ) (l : FlatLink) (more : List FlatLink) : Type 0 where
  pub shift : shift_excess l.op m (amount_of (plain_flat l.operand)) ≡ 0
  pub joined : joined_excess l.op m (word_width (plain_flat l.operand)) ≡ 0
  pub rest : fronts_from (front_width l.op m (word_width (plain_flat l.operand))) more ≡ 0

pub front_in_range : (m : ℕ) (xs rest : List FlatLink) (l : FlatLink) → xs ≡ l ∷ rest → fronts_from m xs ≡ 0 → FrontInRange m l rest
front_in_range m xs rest l h e =
    let s = fronts_at m xs rest l h in
    record { shift = omega (arith, s, e); joined = omega (arith, s, e); rest = omega (arith, s, e) }
