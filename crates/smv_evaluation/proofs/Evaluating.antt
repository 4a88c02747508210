-- Steps of evaluating an expression.
use Rattle.std.proofs.Common.{◌≡◌, ℕ, ◌+◌, ◌≤◌, max, Bool, true, false, ◌&&◌, if◌then◌else◌, List, [], ◌∷◌, ◌++◌, map, refl, sym, ap, ◌∙◌, subst, arith}
use Rattle.text_core.specs.declared.place.Place.{Place}
use Rattle.smv_text.specs.declared.tree.Path.{Path}
use Rattle.smv_text.specs.declared.tree.Branch.{Branch}
use Rattle.smv_text.specs.declared.operators.Infix.{Infix}
use Rattle.smv_text.specs.Tree.{Tree, chain, Links, no_links, link, links_of, branches_of}
use Rattle.std.proofs.Common.{Vec, Box, Global}
use Rattle.smv_text.specs.declared.tree.Expr.{Expr}
use Rattle.smv_text.specs.declared.tree.Link.{Link}
use Rattle.smv_text.specs.declared.tree.Shape.{Chain}
use Rattle.smv_text.specs.View.{plain, plain_branch, plain_link}
use Rattle.smv_laws.proofs.SafeLaws.{front_value_is, front_permits_is, or_false, or_last}
use Rattle.smv_meaning.specs.laws.Plain.{plain_branch-at, plain_link-at, plain-chain}
use Rattle.smv_meaning.specs.declared.value.Value.{Value}
use Rattle.smv_meaning.specs.Values.{is_true}
use Rattle.smv_meaning.specs.Expressions.{Denotation, alone, joined, is_implies, are_implies, is_from_right, is_last, denote, implications, linked, chosen, taken}
use Rattle.smv_meaning.specs.Safety.{depth, link_depth, right_depth, branch_depth, front_value, fronts_value, fronts_permit, Safe, SafeBranches}

-- ---- chains

pub right_front : (all : List Link) (l : Link) (ls : List Link) → all ≡ l ∷ ls → are_implies (links_of (map plain_link all)) ≡ is_from_right (links_of (map plain_link all))
right_front all l ls e =
    ap (λ xs. are_implies (links_of (map plain_link xs))) e ∙ sym (ap (λ xs. is_from_right (links_of (map plain_link xs))) e)

pub implies_front : (l : Link) (ls : List Link) → are_implies (links_of (map plain_link (l ∷ ls))) ≡ (is_implies l.op && are_implies (links_of (map plain_link ls)))
implies_front l ls = ap (λ (p : Infix × Tree). is_implies p.0 && are_implies (links_of (map plain_link ls))) (plain_link-at l)

fronts_value_is : (f g : Path → Value) (d : Denotation) (ls : Links) → (linked f g d ls).value ≡ fronts_value f g d.value ls
fronts_value_is f g d no_links = refl
fronts_value_is f g d (link op e ls) =
    fronts_value_is f g (joined op d (denote f g e)) ls ∙ ap (λ v. fronts_value f g v ls) (front_value_is op d (denote f g e))

fronts_permit_is : (f g : Path → Value) (d : Denotation) (u : Value) (ls : Links) → (linked f g d ls).permits u ≡ fronts_permit f g u d.value (d.permits u) ls
fronts_permit_is f g d u no_links = refl
fronts_permit_is f g d u (link op e ls) =
    fronts_permit_is f g (joined op d (denote f g e)) u ls
    ∙ ap (λ v. fronts_permit f g u v ((joined op d (denote f g e)).permits u) ls) (front_value_is op d (denote f g e))
    ∙ ap (λ p. fronts_permit f g u (front_value op d.value (denote f g e)) p ls) (front_permits_is op d (denote f g e) u)

pub chain_left : (f g : Path → Value) (p : Place) (e : Tree) (ls : Links) → is_from_right ls ≡ false → (denote f g (chain p e ls)).value ≡ fronts_value f g (denote f g e).value ls
chain_left f g p e ls h =
    ap (λ b. (if b then alone (implications f g (denote f g e).value ls) else linked f g (denote f g e) ls).value) h ∙ fronts_value_is f g (denote f g e) ls

pub chain_permits : (f g : Path → Value) (p : Place) (e : Tree) (ls : Links) (u : Value) → is_from_right ls ≡ false
    → (denote f g (chain p e ls)).permits u ≡ fronts_permit f g u (denote f g e).value ((denote f g e).permits u) ls
chain_permits f g p e ls u h =
    ap (λ b. (if b then alone (implications f g (denote f g e).value ls) else linked f g (denote f g e) ls).permits u) h ∙ fronts_permit_is f g (denote f g e) u ls

if_max : (b : Bool) (m n k : ℕ) → b ≡ true → n ≤ max k (if b then n else 0)
if_max true m n k h = omega arith
if_max false m n k h = cc

-- the operands of `->` are no deeper than the chain
pub right_low : (p : Place) (e : Tree) (ls : Links) → is_from_right ls ≡ true → right_depth ls + 1 ≤ depth (chain p e ls)
right_low p e ls h = let l = if_max (is_from_right ls) 0 (right_depth ls) (link_depth ls) h in omega arith

-- ---- the branches of a case

not_last : (bs : List Branch) (l : Branch) → is_last (branches_of (map plain_branch (bs ++ l ∷ []))) ≡ false
not_last [] l = refl
not_last (b ∷ bs) l = refl

taken_is_chosen_of : (f g : Path → Value) (bs : List Branch) (l : Branch) (all : List Branch) → all ≡ bs ++ l ∷ []
    → taken f g (branches_of (map plain_branch all)) ≡ chosen f g (branches_of (map plain_branch bs)) (denote f g (plain_branch l).1)
taken_is_chosen_of f g bs l all e = ap (λ xs. taken f g (branches_of (map plain_branch xs))) e ∙ by bs
  where
    by : (bs : List Branch) → taken f g (branches_of (map plain_branch (bs ++ l ∷ []))) ≡ chosen f g (branches_of (map plain_branch bs)) (denote f g (plain_branch l).1)
    by [] = or_last (is_true (denote f g (plain_branch l).0).value) _ _
    by (b ∷ bs) =
        let a = is_true (denote f g (plain_branch b).0).value in
        let more = taken f g (branches_of (map plain_branch (bs ++ l ∷ []))) in
        ap (λ t. if t then denote f g (plain_branch b).1 else more) (or_false a _ (not_last bs l)) ∙ ap (λ d. if a then denote f g (plain_branch b).1 else d) (by bs)

safe_firsts_of : (P Q : Path → Type 0) (f g : Path → Value) (bs : List Branch) (l : Branch) (all : List Branch) → all ≡ bs ++ l ∷ []
    → SafeBranches P Q f g (branches_of (map plain_branch all)) → SafeBranches P Q f g (branches_of (map plain_branch bs)) × Safe P Q f g (plain_branch l).1
safe_firsts_of P Q f g bs l all e h = by bs (subst (λ xs. SafeBranches P Q f g (branches_of (map plain_branch xs))) e h)
  where
    by : (bs : List Branch) → SafeBranches P Q f g (branches_of (map plain_branch (bs ++ l ∷ []))) → SafeBranches P Q f g (branches_of (map plain_branch bs)) × Safe P Q f g (plain_branch l).1
    by [] h = (tt, h.1)
    by (b ∷ bs) h = let r = by bs h.2 in ((h.0, h.1, r.0), r.1)

depth_firsts_of : (bs : List Branch) (l : Branch) (all : List Branch) → all ≡ bs ++ l ∷ []
    → max (branch_depth (branches_of (map plain_branch bs))) (depth (plain_branch l).1) ≤ branch_depth (branches_of (map plain_branch all))
depth_firsts_of bs l all e = subst (λ xs. max (branch_depth (branches_of (map plain_branch bs))) (depth (plain_branch l).1) ≤ branch_depth (branches_of (map plain_branch xs))) (sym e) (by bs)
  where
    by : (bs : List Branch) → max (branch_depth (branches_of (map plain_branch bs))) (depth (plain_branch l).1) ≤ branch_depth (branches_of (map plain_branch (bs ++ l ∷ [])))
    by [] = omega arith
    by (b ∷ bs) = let h = by bs in omega arith

value_of_branch : (l : Branch) → (plain_branch l).1 ≡ plain l.value
value_of_branch l = ap (λ p. p.1) (plain_branch-at l)

pub taken_is_chosen : (f g : Path → Value) (bs : List Branch) (l : Branch) (all : List Branch) → all ≡ bs ++ l ∷ []
    → taken f g (branches_of (map plain_branch all)) ≡ chosen f g (branches_of (map plain_branch bs)) (denote f g (plain l.value))
taken_is_chosen f g bs l all e =
    taken_is_chosen_of f g bs l all e ∙ ap (λ t. chosen f g (branches_of (map plain_branch bs)) (denote f g t)) (value_of_branch l)

pub safe_firsts : (P Q : Path → Type 0) (f g : Path → Value) (bs : List Branch) (l : Branch) (all : List Branch) → all ≡ bs ++ l ∷ []
    → SafeBranches P Q f g (branches_of (map plain_branch all)) → SafeBranches P Q f g (branches_of (map plain_branch bs)) × Safe P Q f g (plain l.value)
safe_firsts P Q f g bs l all e h =
    let s = safe_firsts_of P Q f g bs l all e h in (s.0, subst (λ t. Safe P Q f g t) (value_of_branch l) s.1)

pub depth_firsts : (bs : List Branch) (l : Branch) (all : List Branch) → all ≡ bs ++ l ∷ []
    → max (branch_depth (branches_of (map plain_branch bs))) (depth (plain l.value)) ≤ branch_depth (branches_of (map plain_branch all))
depth_firsts bs l all e =
    subst (λ t. max (branch_depth (branches_of (map plain_branch bs))) (depth t) ≤ branch_depth (branches_of (map plain_branch all))) (value_of_branch l) (depth_firsts_of bs l all e)

-- ---- a chain in code

pub left_value : (f g : Path → Value) (e : Expr) (a : Box Expr Global) (ls : Vec Link Global) (first w : Value) (x : Expr) (xs ys : List Link) (r : Bool) → e.shape ≡ Chain a ls
    → first ≡ (denote f g (plain x)).value → x ≡ a.value → xs ≡ ls.items → ys ≡ ls.items → r ≡ is_from_right (links_of (map plain_link xs)) → r ≡ false
    → w ≡ fronts_value f g first (links_of (map plain_link ys)) → w ≡ (denote f g (plain e)).value
left_value f g e a ls first w x xs ys r shape fv xe xse yse re rf we =
    let left : is_from_right (links_of (map plain_link ls.items)) ≡ false = ap (λ l. is_from_right (links_of (map plain_link l))) (sym xse) ∙ sym re ∙ rf in
    let whole = ap (λ t. (denote f g t).value) (plain-chain e a ls shape) in
    let start : first ≡ (denote f g (plain a.value)).value = fv ∙ ap (λ t. (denote f g (plain t)).value) xe in
    we ∙ ap (λ v. fronts_value f g v (links_of (map plain_link ys))) start ∙ ap (λ l. fronts_value f g (denote f g (plain a.value)).value (links_of (map plain_link l))) yse
    ∙ sym (chain_left f g e.place (plain a.value) (links_of (map plain_link ls.items)) left) ∙ sym whole

pub left_permits : (f g : Path → Value) (e : Expr) (a : Box Expr Global) (ls : Vec Link Global) (u first : Value) (has w : Bool) (x x' : Expr) (xs ys : List Link) (r : Bool) → e.shape ≡ Chain a ls
    → first ≡ (denote f g (plain x)).value → x ≡ a.value → has ≡ (denote f g (plain x')).permits u → x' ≡ a.value → xs ≡ ls.items → ys ≡ ls.items
    → r ≡ is_from_right (links_of (map plain_link xs)) → r ≡ false → w ≡ fronts_permit f g u first has (links_of (map plain_link ys)) → w ≡ (denote f g (plain e)).permits u
left_permits f g e a ls u first has w x x' xs ys r shape fv xe hv xe' xse yse re rf we =
    let left : is_from_right (links_of (map plain_link ls.items)) ≡ false = ap (λ l. is_from_right (links_of (map plain_link l))) (sym xse) ∙ sym re ∙ rf in
    let whole = ap (λ t. (denote f g t).permits u) (plain-chain e a ls shape) in
    let start : first ≡ (denote f g (plain a.value)).value = fv ∙ ap (λ t. (denote f g (plain t)).value) xe in
    let begins : has ≡ (denote f g (plain a.value)).permits u = hv ∙ ap (λ t. (denote f g (plain t)).permits u) xe' in
    we ∙ ap (λ v. fronts_permit f g u v has (links_of (map plain_link ys))) start
    ∙ ap (λ b. fronts_permit f g u (denote f g (plain a.value)).value b (links_of (map plain_link ys))) begins
    ∙ ap (λ l. fronts_permit f g u (denote f g (plain a.value)).value ((denote f g (plain a.value)).permits u) (links_of (map plain_link l))) yse
    ∙ sym (chain_permits f g e.place (plain a.value) (links_of (map plain_link ls.items)) u left) ∙ sym whole

-- ---- functions

-- only `count` takes three arguments or more
