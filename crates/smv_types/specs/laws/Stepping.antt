-- One operand more of a list of operands.
use Rattle.std.proofs.Common.{◌≡◌, ℕ, ◌+◌, ◌<◌, suc, true, false, rules, Bool, ◌&&◌, IsTrue, List, [], ◌∷◌, ◌++◌, map, drop, length, get_or, Option, option_map, Result, Ok, Err, IfErr, add-one, refl, sym, ◌∙◌, ap, subst}
use Rattle.std.specs.Result.{IsErrAnd}
use Rattle.std.proofs.Math.Seq.{drop-cons}
use Rattle.smv_text.specs.declared.tree.Path.{Path}
use Rattle.smv_text.specs.declared.tree.Expr.{Expr}
use Rattle.smv_text.specs.declared.tree.Link.{Link, the_lemmas as link_lemmas}
use Rattle.smv_text.specs.declared.tree.Branch.{Branch, the_lemmas as branch_lemmas}
use Rattle.smv_text.specs.Tree.{link, branch, links_of, branches_of, trees_of}
use Rattle.smv_text.specs.View.{plain, plain_link, plain_branch}
use Rattle.smv_meaning.specs.Types.{ExprType}
use Rattle.text_core.specs.declared.end.End.{End}
use Rattle.text_core.specs.declared.place.Place.{Place}
use Rattle.text_core.specs.declared.place.Refusal.{Refusal}
use Rattle.smv_meaning.specs.Checks.{Check, first_failing, Position, Named, Typing, typing, single, linked, behind, tree_checks, tree_types, link_checks, link_types, branch_checks, condition_types, value_types, IsBad}
use Rattle.smv_intervals.specs.declared.types.Ty.{Ty}
use Rattle.smv_intervals.specs.View.{seen}
use Rattle.smv_types.specs.Outcome.{outcome, Ends, is_known, trees_known, links_known, branches_known}
use Rattle.smv_types.specs.Steps.{passed, behind_checks, front_step}
use Rattle.smv_types.specs.laws.Composing.{ok_parts, same_end, operand_ends, front_ends, one_link}
use Rattle.smv_meaning.specs.laws.Composing.{goes, ends, ends_behind}

pub taken {ℓ} : {A : Type ℓ} (xs : List A) (i : ℕ) (x : A) → i < length xs → x ≡ get_or xs i x → drop i xs ≡ x ∷ drop (i + 1) xs
taken xs i x h e = drop-cons xs i x h ∙ ap (λ y. y ∷ drop (suc i) xs) (sym e) ∙ ap (λ n. x ∷ drop n xs) (sym (add-one i))

-- what a `?` hands on
pub rest_refuses : {T : Type 0} (r : Result T End) (x : End) (o : Option Refusal) → IsErrAnd r (λ e. e ≡ x) → IsBad x o → IfErr r (λ e. IsBad e o)
rest_refuses (Ok v) x o h k = absurd h
rest_refuses (Err e) x o h k = subst (λ y. IsBad y o) (sym h) k

pub rest_stops : (r : Result (Option Ty) End) (x : End) (cs : List Check) (s : Typing) → IsErrAnd r (λ e. e ≡ x) → IsBad x (first_failing cs) → Ends r (behind_checks cs s)
rest_stops (Ok v) x cs s h k = absurd h
rest_stops (Err e) x cs s h k = subst (λ y. IsBad y (first_failing (cs ++ s.checks))) (sym h) (ends x cs s.checks k)

pub right_holds : (a b : Bool) → a && b ≡ true → b ≡ true
right_holds true b h = h
right_holds false b h = cc

pub one_more : (ts : List (Option Ty)) (t : Option Ty) (us vs all : List (Option ExprType)) (u : Option ExprType) → u ≡ option_map seen t
    → map (option_map seen) ts ++ us ≡ all → us ≡ u ∷ vs → map (option_map seen) (ts ++ t ∷ []) ++ vs ≡ all
one_more [] t us vs all u e h k = ap (λ x. x ∷ vs) (sym e) ∙ sym k ∙ h
one_more (w ∷ ts) t us vs all u e h k =
    ap (λ xs. option_map seen w ∷ xs) (one_more ts t us vs (map (option_map seen) ts ++ us) u e refl k) ∙ h

-- ---- arguments and elements

pub trees_end : (names : Path → Named) (at : Position) (xs rest : List Expr) (e : Expr) (i : ℕ) (x : End) → drop i xs ≡ e ∷ rest
    → first_failing (tree_checks names at (trees_of (map plain xs))) ≡ first_failing (tree_checks names at (trees_of (map plain (drop i xs))))
    → IsBad x (first_failing (typing names at (plain e)).checks) → IsBad x (first_failing (tree_checks names at (trees_of (map plain xs))))
trees_end names at xs rest e i x s h k =
    subst (λ o. IsBad x o) (sym (h ∙ ap (λ ys. first_failing (tree_checks names at (trees_of (map plain ys)))) s))
    (ends x (typing names at (plain e)).checks (tree_checks names at (trees_of (map plain rest))) k)

pub trees_go : (names : Path → Named) (at : Position) (xs rest : List Expr) (e : Expr) (i : ℕ) (t : Option ExprType) → drop i xs ≡ e ∷ rest
    → first_failing (tree_checks names at (trees_of (map plain xs))) ≡ first_failing (tree_checks names at (trees_of (map plain (drop i xs))))
    → outcome (typing names at (plain e)) ≡ Ok t
    → first_failing (tree_checks names at (trees_of (map plain xs))) ≡ first_failing (tree_checks names at (trees_of (map plain rest)))
trees_go names at xs rest e i t s h k =
    let a = typing names at (plain e) in
    h ∙ ap (λ ys. first_failing (tree_checks names at (trees_of (map plain ys)))) s
    ∙ goes a.checks (tree_checks names at (trees_of (map plain rest))) (ok_parts (first_failing a.checks) a.type t k).0

pub trees_more : (names : Path → Named) (at : Position) (ts : List (Option Ty)) (xs rest : List Expr) (e : Expr) (i : ℕ) (t : Option Ty) (all : List (Option ExprType)) → drop i xs ≡ e ∷ rest
    → map (option_map seen) ts ++ tree_types names at (trees_of (map plain (drop i xs))) ≡ all
    → outcome (typing names at (plain e)) ≡ Ok (option_map seen t)
    → map (option_map seen) (ts ++ t ∷ []) ++ tree_types names at (trees_of (map plain rest)) ≡ all
trees_more names at ts xs rest e i t all s h k =
    let a = typing names at (plain e) in
    one_more ts t (tree_types names at (trees_of (map plain (drop i xs)))) (tree_types names at (trees_of (map plain rest))) all a.type
    (ok_parts (first_failing a.checks) a.type (option_map seen t) k).1 h (ap (λ ys. tree_types names at (trees_of (map plain ys))) s)

pub trees_still : (knows : Path → Bool) (xs rest : List Expr) (e : Expr) (i : ℕ) → drop i xs ≡ e ∷ rest
    → IsTrue (trees_known knows (trees_of (map plain (drop i xs)))) → IsTrue (trees_known knows (trees_of (map plain rest)))
trees_still knows xs rest e i s h =
    right_holds (is_known knows (plain e)) (trees_known knows (trees_of (map plain rest))) (sym (ap (λ ys. trees_known knows (trees_of (map plain ys))) s) ∙ h)

-- ---- operands behind operators

pub plain_link_is : (l : Link) → plain_link l ≡ (l.op, plain l.operand)
plain_link_is l = search (rules, link_lemmas)

pub plain_branch_is : (b : Branch) → plain_branch b ≡ (plain b.when, plain b.value)
plain_branch_is b = search (rules, branch_lemmas)

-- the first of the links and of the branches that are left
first_link : (xs rest : List Link) (l : Link) (i : ℕ) → drop i xs ≡ l ∷ rest → links_of (map plain_link (drop i xs)) ≡ link l.op (plain l.operand) (links_of (map plain_link rest))
first_link xs rest l i s = ap (λ ys. links_of (map plain_link ys)) s ∙ ap (λ q. link q.0 q.1 (links_of (map plain_link rest))) (plain_link_is l)

first_branch : (xs rest : List Branch) (b : Branch) (i : ℕ) → drop i xs ≡ b ∷ rest
    → branches_of (map plain_branch (drop i xs)) ≡ branch (plain b.when) (plain b.value) (branches_of (map plain_branch rest))
first_branch xs rest b i s = ap (λ ys. branches_of (map plain_branch ys)) s ∙ ap (λ q. branch q.0 q.1 (branches_of (map plain_branch rest))) (plain_branch_is b)

pub links_end : (names : Path → Named) (at : Position) (xs rest : List Link) (l : Link) (i : ℕ) (x : End) → drop i xs ≡ l ∷ rest
    → first_failing (link_checks names at (links_of (map plain_link xs))) ≡ first_failing (link_checks names at (links_of (map plain_link (drop i xs))))
    → IsBad x (first_failing (typing names at (plain l.operand)).checks) → IsBad x (first_failing (link_checks names at (links_of (map plain_link xs))))
links_end names at xs rest l i x s h k =
    subst (λ o. IsBad x o) (sym (h ∙ ap (λ ls. first_failing (link_checks names at ls)) (first_link xs rest l i s)))
    (ends x (typing names at (plain l.operand)).checks (link_checks names at (links_of (map plain_link rest))) k)

pub links_go : (names : Path → Named) (at : Position) (xs rest : List Link) (l : Link) (i : ℕ) (t : Option ExprType) → drop i xs ≡ l ∷ rest
    → first_failing (link_checks names at (links_of (map plain_link xs))) ≡ first_failing (link_checks names at (links_of (map plain_link (drop i xs))))
    → outcome (typing names at (plain l.operand)) ≡ Ok t
    → first_failing (link_checks names at (links_of (map plain_link xs))) ≡ first_failing (link_checks names at (links_of (map plain_link rest)))
links_go names at xs rest l i t s h k =
    let a = typing names at (plain l.operand) in
    h ∙ ap (λ ls. first_failing (link_checks names at ls)) (first_link xs rest l i s)
    ∙ goes a.checks (link_checks names at (links_of (map plain_link rest))) (ok_parts (first_failing a.checks) a.type t k).0

pub links_more : (names : Path → Named) (at : Position) (ts : List (Option Ty)) (xs rest : List Link) (l : Link) (i : ℕ) (t : Option Ty) (all : List (Option ExprType)) → drop i xs ≡ l ∷ rest
    → map (option_map seen) ts ++ link_types names at (links_of (map plain_link (drop i xs))) ≡ all
    → outcome (typing names at (plain l.operand)) ≡ Ok (option_map seen t)
    → map (option_map seen) (ts ++ t ∷ []) ++ link_types names at (links_of (map plain_link rest)) ≡ all
links_more names at ts xs rest l i t all s h k =
    let a = typing names at (plain l.operand) in
    one_more ts t (link_types names at (links_of (map plain_link (drop i xs)))) (link_types names at (links_of (map plain_link rest))) all a.type
    (ok_parts (first_failing a.checks) a.type (option_map seen t) k).1 h (ap (λ ls. link_types names at ls) (first_link xs rest l i s))

pub links_still : (knows : Path → Bool) (xs rest : List Link) (l : Link) (i : ℕ) → drop i xs ≡ l ∷ rest
    → IsTrue (links_known knows (links_of (map plain_link (drop i xs)))) → IsTrue (links_known knows (links_of (map plain_link rest)))
links_still knows xs rest l i s h =
    right_holds (is_known knows (plain l.operand)) (links_known knows (links_of (map plain_link rest))) (sym (ap (λ ls. links_known knows ls) (first_link xs rest l i s)) ∙ h)

-- ---- branches

pub conditions_end : (names : Path → Named) (at : Position) (xs rest : List Branch) (b : Branch) (i : ℕ) (x : End) → drop i xs ≡ b ∷ rest
    → first_failing (branch_checks names at (branches_of (map plain_branch xs))) ≡ first_failing (branch_checks names at (branches_of (map plain_branch (drop i xs))))
    → IsBad x (first_failing (typing names (single at) (plain b.when)).checks) → IsBad x (first_failing (branch_checks names at (branches_of (map plain_branch xs))))
conditions_end names at xs rest b i x s h k =
    let c = (typing names (single at) (plain b.when)).checks in
    let v = (typing names at (plain b.value)).checks in
    let m = branch_checks names at (branches_of (map plain_branch rest)) in
    subst (λ o. IsBad x o) (sym (h ∙ ap (λ bs. first_failing (branch_checks names at bs)) (first_branch xs rest b i s)))
    (ends x (c ++ v) m (ends x c v k))

pub values_end : (names : Path → Named) (at : Position) (xs rest : List Branch) (b : Branch) (i : ℕ) (t : Option ExprType) (x : End) → drop i xs ≡ b ∷ rest
    → first_failing (branch_checks names at (branches_of (map plain_branch xs))) ≡ first_failing (branch_checks names at (branches_of (map plain_branch (drop i xs))))
    → outcome (typing names (single at) (plain b.when)) ≡ Ok t
    → IsBad x (first_failing (typing names at (plain b.value)).checks) → IsBad x (first_failing (branch_checks names at (branches_of (map plain_branch xs))))
values_end names at xs rest b i t x s h g k =
    let a = typing names (single at) (plain b.when) in
    let v = (typing names at (plain b.value)).checks in
    let m = branch_checks names at (branches_of (map plain_branch rest)) in
    subst (λ o. IsBad x o) (sym (h ∙ ap (λ bs. first_failing (branch_checks names at bs)) (first_branch xs rest b i s)))
    (ends x (a.checks ++ v) m (ends_behind x a.checks v (ok_parts (first_failing a.checks) a.type t g).0 k))

pub branches_go : (names : Path → Named) (at : Position) (xs rest : List Branch) (b : Branch) (i : ℕ) (t u : Option ExprType) → drop i xs ≡ b ∷ rest
    → first_failing (branch_checks names at (branches_of (map plain_branch xs))) ≡ first_failing (branch_checks names at (branches_of (map plain_branch (drop i xs))))
    → outcome (typing names (single at) (plain b.when)) ≡ Ok t → outcome (typing names at (plain b.value)) ≡ Ok u
    → first_failing (branch_checks names at (branches_of (map plain_branch xs))) ≡ first_failing (branch_checks names at (branches_of (map plain_branch rest)))
branches_go names at xs rest b i t u s h j k =
    let a = typing names (single at) (plain b.when) in
    let v = typing names at (plain b.value) in
    let m = branch_checks names at (branches_of (map plain_branch rest)) in
    h ∙ ap (λ bs. first_failing (branch_checks names at bs)) (first_branch xs rest b i s)
    ∙ goes (a.checks ++ v.checks) m (goes a.checks v.checks (ok_parts (first_failing a.checks) a.type t j).0 ∙ (ok_parts (first_failing v.checks) v.type u k).0)

pub conditions_more : (names : Path → Named) (at : Position) (ts : List (Option Ty)) (xs rest : List Branch) (b : Branch) (i : ℕ) (t : Option Ty) (all : List (Option ExprType)) → drop i xs ≡ b ∷ rest
    → map (option_map seen) ts ++ condition_types names at (branches_of (map plain_branch (drop i xs))) ≡ all
    → outcome (typing names at (plain b.when)) ≡ Ok (option_map seen t)
    → map (option_map seen) (ts ++ t ∷ []) ++ condition_types names at (branches_of (map plain_branch rest)) ≡ all
conditions_more names at ts xs rest b i t all s h k =
    let a = typing names at (plain b.when) in
    one_more ts t (condition_types names at (branches_of (map plain_branch (drop i xs)))) (condition_types names at (branches_of (map plain_branch rest))) all a.type
    (ok_parts (first_failing a.checks) a.type (option_map seen t) k).1 h (ap (λ bs. condition_types names at bs) (first_branch xs rest b i s))

pub values_more : (names : Path → Named) (at : Position) (ts : List (Option Ty)) (xs rest : List Branch) (b : Branch) (i : ℕ) (t : Option Ty) (all : List (Option ExprType)) → drop i xs ≡ b ∷ rest
    → map (option_map seen) ts ++ value_types names at (branches_of (map plain_branch (drop i xs))) [] ≡ all
    → outcome (typing names at (plain b.value)) ≡ Ok (option_map seen t)
    → map (option_map seen) (ts ++ t ∷ []) ++ value_types names at (branches_of (map plain_branch rest)) [] ≡ all
values_more names at ts xs rest b i t all s h k =
    let a = typing names at (plain b.value) in
    one_more ts t (value_types names at (branches_of (map plain_branch (drop i xs))) []) (value_types names at (branches_of (map plain_branch rest)) []) all a.type
    (ok_parts (first_failing a.checks) a.type (option_map seen t) k).1 h (ap (λ bs. value_types names at bs []) (first_branch xs rest b i s))

pub branches_still : (knows : Path → Bool) (xs rest : List Branch) (b : Branch) (i : ℕ) → drop i xs ≡ b ∷ rest
    → IsTrue (branches_known knows (branches_of (map plain_branch (drop i xs)))) → IsTrue (branches_known knows (branches_of (map plain_branch rest)))
branches_still knows xs rest b i s h =
    let v = is_known knows (plain b.value) in
    let m = branches_known knows (branches_of (map plain_branch rest)) in
    right_holds v m (right_holds (is_known knows (plain b.when)) (v && m) (sym (ap (λ bs. branches_known knows bs) (first_branch xs rest b i s)) ∙ h))

-- ---- fronts

pub fronts_end : (names : Path → Named) (at : Position) (p : Place) (w : Option ExprType) (xs rest : List Link) (l : Link) (i : ℕ) (x : End) (whole : Typing) (r : Result (Option Ty) End)
    → drop i xs ≡ l ∷ rest → outcome (linked names at p (passed w) (links_of (map plain_link (drop i xs)))) ≡ outcome whole
    → IsErrAnd r (λ e. e ≡ x) → IsBad x (first_failing (typing names (behind l.op at) (plain l.operand)).checks) → Ends r whole
fronts_end names at p w xs rest l i x whole (Ok v) s h g k = absurd g
fronts_end names at p w xs rest l i x whole (Err e) s h g k =
    let ls = links_of (map plain_link rest) in
    subst (λ y. IsBad y (first_failing whole.checks)) (sym g) (
    same_end x (linked names at p (passed w) (link l.op (plain l.operand) ls)) whole
    (sym (ap (λ ls. outcome (linked names at p (passed w) ls)) (first_link xs rest l i s)) ∙ h)
    (operand_ends names at p w l.op (plain l.operand) ls x k)
    )

pub fronts_stop : (names : Path → Named) (at : Position) (p : Place) (w y : Option ExprType) (xs rest : List Link) (l : Link) (i : ℕ) (x : End) (whole : Typing) (r : Result (Option Ty) End)
    → drop i xs ≡ l ∷ rest → outcome (linked names at p (passed w) (links_of (map plain_link (drop i xs)))) ≡ outcome whole
    → IsErrAnd r (λ e. e ≡ x) → outcome (typing names (behind l.op at) (plain l.operand)) ≡ Ok y
    → IsBad x (first_failing (front_step l.op at p w y (plain l.operand)).checks) → Ends r whole
fronts_stop names at p w y xs rest l i x whole (Ok v) s h g j k = absurd g
fronts_stop names at p w y xs rest l i x whole (Err e) s h g j k =
    let ls = links_of (map plain_link rest) in
    subst (λ z. IsBad z (first_failing whole.checks)) (sym g) (
    same_end x (linked names at p (passed w) (link l.op (plain l.operand) ls)) whole
    (sym (ap (λ ls. outcome (linked names at p (passed w) ls)) (first_link xs rest l i s)) ∙ h)
    (front_ends names at p w y l.op (plain l.operand) ls x j k)
    )

pub fronts_go : (names : Path → Named) (at : Position) (p : Place) (w y z : Option ExprType) (xs rest : List Link) (l : Link) (i : ℕ) (whole : Result (Option ExprType) Refusal)
    → drop i xs ≡ l ∷ rest → outcome (linked names at p (passed w) (links_of (map plain_link (drop i xs)))) ≡ whole
    → outcome (typing names (behind l.op at) (plain l.operand)) ≡ Ok y → outcome (front_step l.op at p w y (plain l.operand)) ≡ Ok z
    → outcome (linked names at p (passed z) (links_of (map plain_link rest))) ≡ whole
fronts_go names at p w y z xs rest l i whole s h j k =
    let ls = links_of (map plain_link rest) in
    sym (one_link names at p w y z l.op (plain l.operand) ls j k)
    ∙ sym (ap (λ ls. outcome (linked names at p (passed w) ls)) (first_link xs rest l i s)) ∙ h
