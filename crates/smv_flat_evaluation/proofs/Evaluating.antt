-- Steps of evaluating a flat expression.
use Rattle.std.proofs.Common.{◌≡◌, ℕ, ◌≤◌, max, Bool, true, false, ◌&&◌, if◌then◌else◌, List, [], ◌∷◌, ◌++◌, map, Option, option_map, refl, sym, ap, ◌∙◌, subst, arith, rules, Vec, Box, Global}
use Rattle.smv_text.specs.declared.operators.Infix.{Infix}
use Rattle.smv_laws.proofs.SafeLaws.{front_value_is, front_permits_is, or_false, or_last}
use Rattle.smv_meaning.specs.declared.value.Value.{Value}
use Rattle.smv_meaning.specs.Values.{is_true}
use Rattle.smv_meaning.specs.Expressions.{Denotation, alone, joined, is_implies}
use Rattle.smv_meaning.specs.Safety.{front_value}
use Rattle.smv_meaning.specs.Types.{ExprType}
use Rattle.smv_intervals.specs.View.{seen}
use Rattle.smv_flat.specs.declared.expressions.FlatExpr.{FlatExpr, the_lemmas as expr_lemmas}
use Rattle.smv_flat.specs.declared.expressions.FlatLink.{FlatLink, the_lemmas as link_lemmas}
use Rattle.smv_flat.specs.declared.expressions.FlatBranch.{FlatBranch}
use Rattle.smv_flat.specs.declared.expressions.FlatShape.{Chain, the_lemmas as shape_lemmas}
use Rattle.smv_flat.specs.FlatTree.{FlatTree, flat_chain, FlatLinks, no_flat_links, flat_link, flat_links_of, flat_branches_of, flat_are_implies, flat_from_right, flat_is_last, flat_denote, flat_implications, flat_linked, flat_chosen, flat_taken}
use Rattle.smv_flat.specs.FlatView.{plain_flat, plain_flat_link, plain_flat_branch}
use Rattle.smv_flat_evaluation.specs.Fronts.{flat_fronts_value, flat_fronts_permit, chain_value}
use Rattle.smv_flat_evaluation.specs.FlatSafety.{FlatSafe, FlatSafeBranches}
use Rattle.smv_flat_evaluation.proofs.Depths.{flat_depth, flat_branch_depth}
use Rattle.smv_flat.proofs.FlatViews.{branch_at, link_at}

-- ---- plain forms

plain_chain : (e : FlatExpr) (a : Box FlatExpr Global) (ls : Vec FlatLink Global) → e.shape ≡ Chain a ls
    → plain_flat e ≡ flat_chain (option_map seen e.ty) (plain_flat a.value) (flat_links_of (map plain_flat_link ls.items))
plain_chain e a ls h = search (rules, expr_lemmas, shape_lemmas, link_lemmas, h)

-- ---- chains

pub right_front : (all : List FlatLink) (l : FlatLink) (ls : List FlatLink) → all ≡ l ∷ ls → flat_are_implies (flat_links_of (map plain_flat_link all)) ≡ flat_from_right (flat_links_of (map plain_flat_link all))
right_front all l ls e =
    ap (λ xs. flat_are_implies (flat_links_of (map plain_flat_link xs))) e ∙ sym (ap (λ xs. flat_from_right (flat_links_of (map plain_flat_link xs))) e)

pub implies_front : (l : FlatLink) (ls : List FlatLink) → flat_are_implies (flat_links_of (map plain_flat_link (l ∷ ls))) ≡ (is_implies l.op && flat_are_implies (flat_links_of (map plain_flat_link ls)))
implies_front l ls = ap (λ (p : Infix × FlatTree). is_implies p.0 && flat_are_implies (flat_links_of (map plain_flat_link ls))) (link_at l)

fronts_value_is : (s f g : ℕ → Value) (d : Denotation) (ls : FlatLinks) → (flat_linked s f g d ls).value ≡ flat_fronts_value s f g d.value ls
fronts_value_is s f g d no_flat_links = refl
fronts_value_is s f g d (flat_link op e ls) =
    fronts_value_is s f g (joined op d (flat_denote s f g e)) ls ∙ ap (λ v. flat_fronts_value s f g v ls) (front_value_is op d (flat_denote s f g e))

fronts_permit_is : (s f g : ℕ → Value) (d : Denotation) (u : Value) (ls : FlatLinks) → (flat_linked s f g d ls).permits u ≡ flat_fronts_permit s f g u d.value (d.permits u) ls
fronts_permit_is s f g d u no_flat_links = refl
fronts_permit_is s f g d u (flat_link op e ls) =
    fronts_permit_is s f g (joined op d (flat_denote s f g e)) u ls
    ∙ ap (λ v. flat_fronts_permit s f g u v ((joined op d (flat_denote s f g e)).permits u) ls) (front_value_is op d (flat_denote s f g e))
    ∙ ap (λ p. flat_fronts_permit s f g u (front_value op d.value (flat_denote s f g e)) p ls) (front_permits_is op d (flat_denote s f g e) u)

chain_is : (s f g : ℕ → Value) (t : Option ExprType) (e : FlatTree) (ls : FlatLinks) → (flat_denote s f g (flat_chain t e ls)).value ≡ chain_value s f g (flat_denote s f g e).value ls
chain_is s f g t e ls = by (flat_from_right ls)
  where
    by : (b : Bool) → (if b then alone (flat_implications s f g (flat_denote s f g e).value ls) else flat_linked s f g (flat_denote s f g e) ls).value
        ≡ (if b then flat_implications s f g (flat_denote s f g e).value ls else flat_fronts_value s f g (flat_denote s f g e).value ls)
    by true = refl
    by false = fronts_value_is s f g (flat_denote s f g e) ls

chain_permits : (s f g : ℕ → Value) (t : Option ExprType) (e : FlatTree) (ls : FlatLinks) (u : Value) → flat_from_right ls ≡ false
    → (flat_denote s f g (flat_chain t e ls)).permits u ≡ flat_fronts_permit s f g u (flat_denote s f g e).value ((flat_denote s f g e).permits u) ls
chain_permits s f g t e ls u h =
    ap (λ b. (if b then alone (flat_implications s f g (flat_denote s f g e).value ls) else flat_linked s f g (flat_denote s f g e) ls).permits u) h ∙ fronts_permit_is s f g (flat_denote s f g e) u ls

-- ---- the branches of a case

not_last : (bs : List FlatBranch) (l : FlatBranch) → flat_is_last (flat_branches_of (map plain_flat_branch (bs ++ l ∷ []))) ≡ false
not_last [] l = refl
not_last (b ∷ bs) l = refl

taken_is_chosen_of : (s f g : ℕ → Value) (bs : List FlatBranch) (l : FlatBranch) (all : List FlatBranch) → all ≡ bs ++ l ∷ []
    → flat_taken s f g (flat_branches_of (map plain_flat_branch all)) ≡ flat_chosen s f g (flat_branches_of (map plain_flat_branch bs)) (flat_denote s f g (plain_flat_branch l).1)
taken_is_chosen_of s f g bs l all e = ap (λ xs. flat_taken s f g (flat_branches_of (map plain_flat_branch xs))) e ∙ by bs
  where
    by : (bs : List FlatBranch) → flat_taken s f g (flat_branches_of (map plain_flat_branch (bs ++ l ∷ []))) ≡ flat_chosen s f g (flat_branches_of (map plain_flat_branch bs)) (flat_denote s f g (plain_flat_branch l).1)
    by [] = or_last (is_true (flat_denote s f g (plain_flat_branch l).0).value) _ _
    by (b ∷ bs) =
        let a = is_true (flat_denote s f g (plain_flat_branch b).0).value in
        let more = flat_taken s f g (flat_branches_of (map plain_flat_branch (bs ++ l ∷ []))) in
        ap (λ t. if t then flat_denote s f g (plain_flat_branch b).1 else more) (or_false a _ (not_last bs l)) ∙ ap (λ d. if a then flat_denote s f g (plain_flat_branch b).1 else d) (by bs)

depth_firsts_of : (bs : List FlatBranch) (l : FlatBranch) (all : List FlatBranch) → all ≡ bs ++ l ∷ []
    → max (flat_branch_depth (flat_branches_of (map plain_flat_branch bs))) (flat_depth (plain_flat_branch l).1) ≤ flat_branch_depth (flat_branches_of (map plain_flat_branch all))
depth_firsts_of bs l all e =
    subst (λ xs. max (flat_branch_depth (flat_branches_of (map plain_flat_branch bs))) (flat_depth (plain_flat_branch l).1) ≤ flat_branch_depth (flat_branches_of (map plain_flat_branch xs))) (sym e) (by bs)
  where
    by : (bs : List FlatBranch) → max (flat_branch_depth (flat_branches_of (map plain_flat_branch bs))) (flat_depth (plain_flat_branch l).1) ≤ flat_branch_depth (flat_branches_of (map plain_flat_branch (bs ++ l ∷ [])))
    by [] = omega arith
    by (b ∷ bs) = let h = by bs in omega arith

value_of_branch : (l : FlatBranch) → (plain_flat_branch l).1 ≡ plain_flat l.value
value_of_branch l = ap (λ p. p.1) (branch_at l)

safe_firsts_of : (s f g : ℕ → Value) (bs : List FlatBranch) (l : FlatBranch) (all : List FlatBranch) → all ≡ bs ++ l ∷ []
    → FlatSafeBranches s f g (flat_branches_of (map plain_flat_branch all)) → FlatSafeBranches s f g (flat_branches_of (map plain_flat_branch bs)) × FlatSafe s f g (plain_flat_branch l).1
safe_firsts_of s f g bs l all e h = by bs (subst (λ xs. FlatSafeBranches s f g (flat_branches_of (map plain_flat_branch xs))) e h)
  where
    by : (bs : List FlatBranch) → FlatSafeBranches s f g (flat_branches_of (map plain_flat_branch (bs ++ l ∷ [])))
        → FlatSafeBranches s f g (flat_branches_of (map plain_flat_branch bs)) × FlatSafe s f g (plain_flat_branch l).1
    by [] h = (tt, h.1)
    by (b ∷ bs) h = let r = by bs h.2 in ((h.0, h.1, r.0), r.1)

pub safe_firsts : (s f g : ℕ → Value) (bs : List FlatBranch) (l : FlatBranch) (all : List FlatBranch) → all ≡ bs ++ l ∷ []
    → FlatSafeBranches s f g (flat_branches_of (map plain_flat_branch all)) → FlatSafeBranches s f g (flat_branches_of (map plain_flat_branch bs)) × FlatSafe s f g (plain_flat l.value)
safe_firsts s f g bs l all e h =
    let r = safe_firsts_of s f g bs l all e h in (r.0, subst (λ t. FlatSafe s f g t) (value_of_branch l) r.1)

pub taken_is_chosen : (s f g : ℕ → Value) (bs : List FlatBranch) (l : FlatBranch) (all : List FlatBranch) → all ≡ bs ++ l ∷ []
    → flat_taken s f g (flat_branches_of (map plain_flat_branch all)) ≡ flat_chosen s f g (flat_branches_of (map plain_flat_branch bs)) (flat_denote s f g (plain_flat l.value))
taken_is_chosen s f g bs l all e =
    taken_is_chosen_of s f g bs l all e ∙ ap (λ t. flat_chosen s f g (flat_branches_of (map plain_flat_branch bs)) (flat_denote s f g t)) (value_of_branch l)

pub depth_firsts : (bs : List FlatBranch) (l : FlatBranch) (all : List FlatBranch) → all ≡ bs ++ l ∷ []
    → max (flat_branch_depth (flat_branches_of (map plain_flat_branch bs))) (flat_depth (plain_flat l.value)) ≤ flat_branch_depth (flat_branches_of (map plain_flat_branch all))
depth_firsts bs l all e =
    subst (λ t. max (flat_branch_depth (flat_branches_of (map plain_flat_branch bs))) (flat_depth t) ≤ flat_branch_depth (flat_branches_of (map plain_flat_branch all))) (value_of_branch l) (depth_firsts_of bs l all e)

-- ---- a chain in code

pub chain_made : (s f g : ℕ → Value) (e : FlatExpr) (a : Box FlatExpr Global) (ls : Vec FlatLink Global) (first : Value) (x : FlatExpr) (xs : List FlatLink) → e.shape ≡ Chain a ls
    → first ≡ (flat_denote s f g (plain_flat x)).value → x ≡ a.value → xs ≡ ls.items → chain_value s f g first (flat_links_of (map plain_flat_link xs)) ≡ (flat_denote s f g (plain_flat e)).value
chain_made s f g e a ls first x xs shape fv xe xse =
    ap (λ l. chain_value s f g first (flat_links_of (map plain_flat_link l))) xse
    ∙ ap (λ v. chain_value s f g v (flat_links_of (map plain_flat_link ls.items))) (fv ∙ ap (λ t. (flat_denote s f g (plain_flat t)).value) xe)
    ∙ sym (chain_is s f g (option_map seen e.ty) (plain_flat a.value) (flat_links_of (map plain_flat_link ls.items))) ∙ sym (ap (λ t. (flat_denote s f g t).value) (plain_chain e a ls shape))

pub left_permits : (s f g : ℕ → Value) (e : FlatExpr) (a : Box FlatExpr Global) (ls : Vec FlatLink Global) (u first : Value) (has : Bool) (x x' : FlatExpr) (xs ys : List FlatLink) (r : Bool) → e.shape ≡ Chain a ls
    → first ≡ (flat_denote s f g (plain_flat x)).value → x ≡ a.value → has ≡ (flat_denote s f g (plain_flat x')).permits u → x' ≡ a.value → xs ≡ ls.items → ys ≡ ls.items
    → r ≡ flat_from_right (flat_links_of (map plain_flat_link xs)) → r ≡ false → flat_fronts_permit s f g u first has (flat_links_of (map plain_flat_link ys)) ≡ (flat_denote s f g (plain_flat e)).permits u
left_permits s f g e a ls u first has x x' xs ys r shape fv xe hv xe' xse yse re rf =
    let left : flat_from_right (flat_links_of (map plain_flat_link ls.items)) ≡ false = ap (λ l. flat_from_right (flat_links_of (map plain_flat_link l))) (sym xse) ∙ sym re ∙ rf in
    let start : first ≡ (flat_denote s f g (plain_flat a.value)).value = fv ∙ ap (λ t. (flat_denote s f g (plain_flat t)).value) xe in
    let begins : has ≡ (flat_denote s f g (plain_flat a.value)).permits u = hv ∙ ap (λ t. (flat_denote s f g (plain_flat t)).permits u) xe' in
    ap (λ v. flat_fronts_permit s f g u v has (flat_links_of (map plain_flat_link ys))) start
    ∙ ap (λ b. flat_fronts_permit s f g u (flat_denote s f g (plain_flat a.value)).value b (flat_links_of (map plain_flat_link ys))) begins
    ∙ ap (λ l. flat_fronts_permit s f g u (flat_denote s f g (plain_flat a.value)).value ((flat_denote s f g (plain_flat a.value)).permits u) (flat_links_of (map plain_flat_link l))) yse
    ∙ sym (chain_permits s f g (option_map seen e.ty) (plain_flat a.value) (flat_links_of (map plain_flat_link ls.items)) u left) ∙ sym (ap (λ t. (flat_denote s f g t).permits u) (plain_chain e a ls shape))
