-- Chains and choices by the outcomes of their operands.
use Rattle.std.proofs.Common.{◌≡◌, Bool, true, false, List, [], ◌∷◌, ◌++◌, map, Option, None, option_map, Result, Ok, Err, Vec, Box, Global, append_assoc, refl, sym, ◌∙◌, ap, subst, rules}
use Rattle.std.specs.Result.{IsErrAnd}
use Rattle.text_core.specs.declared.end.End.{End}
use Rattle.text_core.specs.declared.end.End.TheVariants.{Bad, NoMemory}
use Rattle.text_core.specs.declared.place.Place.{Place}
use Rattle.smv_text.specs.declared.tree.Path.{Path}
use Rattle.smv_text.specs.declared.operators.Infix.{Infix}
use Rattle.smv_text.specs.declared.operators.Infix.TheVariants as OfInfix
use Rattle.smv_text.specs.declared.tree.Expr.{Expr, the_lemmas as expr_lemmas}
use Rattle.smv_text.specs.declared.tree.Link.{Link}
use Rattle.smv_text.specs.declared.tree.Branch.{Branch}
use Rattle.smv_text.specs.declared.tree.Shape.TheVariants.{Chain, Choice}
use Rattle.smv_text.specs.Tree.{Tree, chain, choice, Links, no_links, link, Branches, links_of, branches_of}
use Rattle.smv_text.specs.View.{plain, plain_link, plain_branch}
use Rattle.smv_meaning.specs.Types.{ExprType}
use Rattle.smv_meaning.specs.Expressions.{is_implies, are_implies, is_from_right}
use Rattle.smv_meaning.specs.Checks.{first_failing, Position, Named, typing, single, across, linked, link_checks, link_types, branch_checks, condition_types, value_types, all_types, IsBad}
use Rattle.smv_meaning.specs.laws.Booleans.{both_true, absurd_bool}
use Rattle.smv_intervals.specs.declared.types.Ty.{Ty}
use Rattle.smv_intervals.specs.View.{seen}
use Rattle.smv_types.specs.Outcome.{verdict, outcome, Ends}
use Rattle.smv_types.specs.Steps.{passed, behind_checks, implies_step, implications_step, branches_step}
use Rattle.smv_types.specs.laws.Composing.{ok_parts, err_part, same_ends, same_linked, linked_stops, over, passed_operand, values_then}
use Rattle.smv_types.specs.laws.Stepping.{rest_stops}
use Rattle.smv_meaning.specs.laws.Composing.{ends, ends_behind, both_pass}

pub plain_chain : (e : Expr) (first : Box Expr Global) (links : Vec Link Global) → e.shape ≡ Chain first links
    → plain e ≡ chain e.place (plain first.value) (links_of (map plain_link links.items))
plain_chain e first links h = search (rules, expr_lemmas)

pub plain_choice : (e : Expr) (branches : Vec Branch Global) (last : Box Expr Global) → e.shape ≡ Choice branches last
    → plain e ≡ choice e.place (branches_of (map plain_branch branches.items)) (plain last.value)
plain_choice e branches last h = search (rules, expr_lemmas)

-- ---- a chain of `->`

pub implies_across : (op : Infix) (e : Tree) (ls : Links) (at : Position) → is_implies op ≡ true → across (link op e ls) at ≡ single at
implies_across OfInfix.Implies e ls at h = refl
implies_across op e ls at h = absurd_bool h

-- its first operand stands where that of any other chain does
right_across : (ls : Links) (at : Position) → is_from_right ls ≡ true → across ls at ≡ single at
right_across no_links at h = absurd_bool h
right_across (link op e ls) at h = implies_across op e ls at (both_true (is_implies op) (are_implies ls) h).0

right_is : (names : Path → Named) (at : Position) (p : Place) (f : Tree) (ls : Links) → is_from_right ls ≡ true
    → typing names at (chain p f ls)
    ≡ behind_checks ((typing names (single at) f).checks ++ link_checks names (single at) ls)
    (implies_step p (all_types ((typing names (single at) f).type ∷ link_types names (single at) ls)))
right_is names at p f ls h = rw h refl

right_stops : (names : Path → Named) (at : Position) (p : Place) (f : Tree) (ls : Links) (r : Result (Option Ty) End) (x : End) → is_from_right ls ≡ true
    → IsErrAnd r (λ e. e ≡ x) → IsBad x (first_failing (typing names (across ls at) f).checks) → Ends r (typing names at (chain p f ls))
right_stops names at p f ls r x h g k =
    let a = typing names (single at) f in
    let cs = link_checks names (single at) ls in
    let bad : IsBad x (first_failing a.checks) = subst (λ (c : Position). IsBad x (first_failing (typing names c f).checks)) (right_across ls at h) k in
    subst (λ t. Ends r t) (sym (right_is names at p f ls h)) (
    rest_stops r x (a.checks ++ cs) (implies_step p (all_types (a.type ∷ link_types names (single at) ls))) g (ends x a.checks cs bad)
    )

pub right_goes : (names : Path → Named) (at : Position) (p : Place) (f : Tree) (ls : Links) (r : Result (Option Ty) End) (x : Option ExprType) → is_from_right ls ≡ true
    → outcome (typing names (across ls at) f) ≡ Ok x → Ends r (implications_step p x (link_checks names (single at) ls) (link_types names (single at) ls))
    → Ends r (typing names at (chain p f ls))
right_goes names at p f ls r x h g k =
    let a = typing names (single at) f in
    let told : outcome a ≡ Ok x = subst (λ (c : Position). outcome (typing names c f) ≡ Ok x) (right_across ls at h) g in
    let cs = link_checks names (single at) ls in
    let ts = link_types names (single at) ls in
    let s = implies_step p (all_types (a.type ∷ ts)) in
    subst (λ t. Ends r t) (sym (right_is names at p f ls h)) (
    same_ends r (behind_checks a.checks (behind_checks cs s)) (behind_checks (a.checks ++ cs) s)
    (ap (λ xs. verdict (first_failing xs) s.type) (sym (append_assoc a.checks cs s.checks)))
    (passed_operand r a x (λ y. implications_step p y cs ts) told k)
    )

-- ---- any other chain

left_is : (names : Path → Named) (at : Position) (p : Place) (f : Tree) (ls : Links) → is_from_right ls ≡ false
    → typing names at (chain p f ls) ≡ linked names (across ls at) p (typing names (across ls at) f) ls
left_is names at p f ls h = rw h refl

left_stops : (names : Path → Named) (at : Position) (p : Place) (f : Tree) (ls : Links) (r : Result (Option Ty) End) (x : End) → is_from_right ls ≡ false
    → IsErrAnd r (λ e. e ≡ x) → IsBad x (first_failing (typing names (across ls at) f).checks) → Ends r (typing names at (chain p f ls))
left_stops names at p f ls (Ok v) x h g k = absurd g
left_stops names at p f ls (Err e) NoMemory h g k = subst (λ y. IsBad y (first_failing (typing names at (chain p f ls)).checks)) (sym g) tt
left_stops names at p f ls (Err e) (Bad why) h g k =
    let a = typing names (across ls at) f in
    let t = linked names (across ls at) p a ls in
    subst (λ y. IsBad y (first_failing (typing names at (chain p f ls)).checks)) (sym g) (
    ap (λ u. first_failing u.checks) (left_is names at p f ls h)
    ∙ err_part (first_failing t.checks) t.type why (linked_stops names (across ls at) p a why ls (ap (λ o. verdict o a.type) k))
    )

pub left_goes : (names : Path → Named) (at : Position) (p : Place) (f : Tree) (ls : Links) (r : Result (Option Ty) End) (x : Option ExprType) → is_from_right ls ≡ false
    → outcome (typing names (across ls at) f) ≡ Ok x → Ends r (linked names (across ls at) p (passed x) ls) → Ends r (typing names at (chain p f ls))
left_goes names at p f ls r x h g k =
    let a = typing names (across ls at) f in
    subst (λ t. Ends r t) (sym (left_is names at p f ls h)) (
    same_ends r (linked names (across ls at) p (passed x) ls) (linked names (across ls at) p a ls) (same_linked names (across ls at) p (passed x) a ls (sym g)) k
    )

-- ---- each chain

pub chain_stops : (names : Path → Named) (at : Position) (p : Place) (f : Tree) (ls : Links) (r : Result (Option Ty) End) (x : End)
    → IsErrAnd r (λ e. e ≡ x) → IsBad x (first_failing (typing names (across ls at) f).checks) → Ends r (typing names at (chain p f ls))
chain_stops names at p f ls r x g k = by (is_from_right ls) refl
  where
    by : (b : Bool) → is_from_right ls ≡ b → Ends r (typing names at (chain p f ls))
    by true h = right_stops names at p f ls r x h g k
    by false h = left_stops names at p f ls r x h g k

-- ---- a choice

pub choice_stops : (names : Path → Named) (at : Position) (p : Place) (bs : Branches) (e : Tree) (r : Result (Option Ty) End) (x : End)
    → IsErrAnd r (λ d. d ≡ x) → IsBad x (first_failing (branch_checks names at bs)) → Ends r (typing names at (choice p bs e))
choice_stops names at p bs e r x g k =
    let a = typing names at e in
    let cs = branch_checks names at bs in
    rest_stops r x (cs ++ a.checks) (branches_step p (all_types (condition_types names (single at) bs)) (all_types (value_types names at bs (a.type ∷ [])))) g (ends x cs a.checks k)

pub last_stops : (names : Path → Named) (at : Position) (p : Place) (bs : Branches) (e : Tree) (r : Result (Option Ty) End) (x : End)
    → IsErrAnd r (λ d. d ≡ x) → first_failing (branch_checks names at bs) ≡ None → IsBad x (first_failing (typing names at e).checks) → Ends r (typing names at (choice p bs e))
last_stops names at p bs e r x g h k =
    let a = typing names at e in
    let cs = branch_checks names at bs in
    rest_stops r x (cs ++ a.checks) (branches_step p (all_types (condition_types names (single at) bs)) (all_types (value_types names at bs (a.type ∷ [])))) g
    (ends_behind x cs a.checks h k)

with_last : (ts : List (Option Ty)) (t : Option Ty) (us : List (Option ExprType)) (u : Option ExprType) → map (option_map seen) ts ≡ us → u ≡ option_map seen t
    → map (option_map seen) (ts ++ t ∷ []) ≡ us ++ u ∷ []
with_last [] t us u h e = ap (λ x. x ∷ []) (sym e) ∙ ap (λ xs. xs ++ u ∷ []) h
with_last (w ∷ ts) t us u h e = ap (λ xs. option_map seen w ∷ xs) (with_last ts t (map (option_map seen) ts) u refl e) ∙ ap (λ xs. xs ++ u ∷ []) h

pub choice_goes : (names : Path → Named) (at : Position) (p : Place) (bs : Branches) (e : Tree) (r : Result (Option Ty) End)
    (conditions values : List (Option Ty)) (t : Option Ty)
    → first_failing (branch_checks names at bs) ≡ None
    → map (option_map seen) conditions ≡ condition_types names (single at) bs → map (option_map seen) values ≡ value_types names at bs []
    → outcome (typing names at e) ≡ Ok (option_map seen t)
    → Ends r (branches_step p (all_types (map (option_map seen) conditions)) (all_types (map (option_map seen) (values ++ t ∷ []))))
    → Ends r (typing names at (choice p bs e))
choice_goes names at p bs e r conditions values t g h j k m =
    let a = typing names at e in
    let cs = branch_checks names at bs in
    let q = ok_parts (first_failing a.checks) a.type (option_map seen t) k in
    over r (cs ++ a.checks)
    (branches_step p (all_types (map (option_map seen) conditions)) (all_types (map (option_map seen) (values ++ t ∷ []))))
    (branches_step p (all_types (condition_types names (single at) bs)) (all_types (value_types names at bs (a.type ∷ []))))
    (both_pass cs a.checks g q.0)
    (ap (λ us. branches_step p (all_types us) (all_types (map (option_map seen) (values ++ t ∷ [])))) h
    ∙ ap (λ us. branches_step p (all_types (condition_types names (single at) bs)) (all_types us)) (with_last values t (value_types names at bs []) a.type j q.1 ∙ sym (values_then names at bs (a.type ∷ []))))
    m
