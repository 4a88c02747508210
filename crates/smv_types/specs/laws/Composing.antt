-- Checks one after another: the first that fails refuses.
use Rattle.std.proofs.Common.{◌≡◌, List, [], ◌∷◌, ◌++◌, Option, Some, None, Result, Ok, Err, append_assoc, refl, sym, ◌∙◌, ap, subst}
use Rattle.text_core.specs.declared.end.End.{End}
use Rattle.text_core.specs.declared.end.End.TheVariants.{Bad, NoMemory}
use Rattle.text_core.specs.declared.place.Place.{Place}
use Rattle.text_core.specs.declared.place.Refusal.{Refusal}
use Rattle.smv_text.specs.declared.tree.Path.{Path}
use Rattle.smv_text.specs.declared.operators.Infix.{Infix}
use Rattle.smv_text.specs.Tree.{Tree, Links, no_links, link, Branches, no_branches, branch}
use Rattle.smv_meaning.specs.Types.{ExprType}
use Rattle.smv_meaning.specs.Checks.{Check, first_failing, Position, Named, Typing, typing, front, linked, behind, value_types, IsBad}
use Rattle.smv_intervals.specs.declared.types.Ty.{Ty}
use Rattle.smv_types.specs.Outcome.{verdict, outcome, Answers, Ends}
use Rattle.smv_types.specs.Steps.{passed, behind_checks, front_step}
use Rattle.smv_meaning.specs.laws.Composing.{stops, goes, ends_behind}

pub ok_parts : {X : Type 0} (o : Option Refusal) (x y : X) → verdict o x ≡ Ok y → (o ≡ None) × (x ≡ y)
ok_parts None x y h = (refl, cc)
ok_parts (Some why) x y h = cc

pub err_part : {X : Type 0} (o : Option Refusal) (x : X) (why : Refusal) → verdict o x ≡ Err why → o ≡ Some why
err_part None x why h = cc
err_part (Some r) x why h = cc

-- an operand that passes its checks, and then its node
pub goes_on : (a : Typing) (x : Option ExprType) (step : Option ExprType → Typing) (r : Result (Option ExprType) Refusal)
    → outcome a ≡ Ok x → outcome (step x) ≡ r → outcome (behind_checks a.checks (step a.type)) ≡ r
goes_on a x step r h k =
    let p = ok_parts (first_failing a.checks) a.type x h in
    ap (λ o. verdict o (step a.type).type) (goes a.checks (step a.type).checks p.0) ∙ ap (λ t. outcome (step t)) p.1 ∙ k

-- checks that pass, and then a node
pub passes_over : (r : Result (Option Ty) Refusal) (cs : List Check) (s t : Typing) → first_failing cs ≡ None → s ≡ t → Answers r s → Answers r (behind_checks cs t)
passes_over (Ok o) cs s t g e k = ap (λ f. verdict f t.type) (goes cs t.checks g) ∙ sym (ap outcome e) ∙ k
passes_over (Err why) cs s t g e k = ap (λ f. verdict f t.type) (goes cs t.checks g) ∙ sym (ap outcome e) ∙ k

-- what ends or answers one typing does so for each of the same outcome
pub same_end : (e : End) (s t : Typing) → outcome s ≡ outcome t → IsBad e (first_failing s.checks) → IsBad e (first_failing t.checks)
same_end (Bad why) s t h k = err_part (first_failing t.checks) t.type why (sym h ∙ ap (λ o. verdict o s.type) k)
same_end NoMemory s t h k = tt

pub same_ends : (r : Result (Option Ty) End) (s t : Typing) → outcome s ≡ outcome t → Ends r s → Ends r t
same_ends (Ok o) s t h k = sym h ∙ k
same_ends (Err e) s t h k = same_end e s t h k

-- ---- fronts of a chain

pub front_from : (op : Infix) (at : Position) (p : Place) (a b : Typing) (x : Option ExprType) (e : Tree) → outcome a ≡ Ok x
    → outcome (front op at p a b e) ≡ outcome (front op at p (passed x) b e)
front_from op at p a b x e h =
    let q = ok_parts (first_failing a.checks) a.type x h in
    let own = (front_step op at p a.type b.type e).checks in
    ap (λ o. verdict o (front_step op at p a.type b.type e).type) (ap first_failing (append_assoc a.checks b.checks own) ∙ goes a.checks (b.checks ++ own) q.0)
    ∙ ap (λ t. outcome (front op at p (passed t) b e)) q.1

pub front_right : (op : Infix) (at : Position) (p : Place) (x : Option ExprType) (b : Typing) (y : Option ExprType) (e : Tree) → outcome b ≡ Ok y
    → outcome (front op at p (passed x) b e) ≡ outcome (front_step op at p x y e)
front_right op at p x b y e h = goes_on b y (λ t. front_step op at p x t e) (outcome (front_step op at p x y e)) h refl

pub front_stops : (op : Infix) (at : Position) (p : Place) (a b : Typing) (why : Refusal) (e : Tree) → outcome a ≡ Err why
    → outcome (front op at p a b e) ≡ Err why
front_stops op at p a b why e h =
    let own = (front_step op at p a.type b.type e).checks in
    ap (λ o. verdict o (front_step op at p a.type b.type e).type) (
    stops (a.checks ++ b.checks) own why (stops a.checks b.checks why (err_part (first_failing a.checks) a.type why h))
    )

same_front : (op : Infix) (at : Position) (p : Place) (a c b : Typing) (e : Tree) (r : Result (Option ExprType) Refusal) → outcome a ≡ r → outcome c ≡ r
    → outcome (front op at p a b e) ≡ outcome (front op at p c b e)
same_front op at p a c b e (Ok x) h k = front_from op at p a b x e h ∙ sym (front_from op at p c b x e k)
same_front op at p a c b e (Err why) h k = front_stops op at p a b why e h ∙ sym (front_stops op at p c b why e k)

pub same_linked : (names : Path → Named) (at : Position) (p : Place) (a c : Typing) (ls : Links) → outcome a ≡ outcome c
    → outcome (linked names at p a ls) ≡ outcome (linked names at p c ls)
same_linked names at p a c no_links h = h
same_linked names at p a c (link op e ls) h =
    same_linked names at p (front op at p a (typing names (behind op at) e) e) (front op at p c (typing names (behind op at) e) e) ls
    (same_front op at p a c (typing names (behind op at) e) e (outcome c) h refl)

pub linked_stops : (names : Path → Named) (at : Position) (p : Place) (a : Typing) (why : Refusal) (ls : Links) → outcome a ≡ Err why
    → outcome (linked names at p a ls) ≡ Err why
linked_stops names at p a why no_links h = h
linked_stops names at p a why (link op e ls) h =
    linked_stops names at p (front op at p a (typing names (behind op at) e) e) why ls (front_stops op at p a (typing names (behind op at) e) why e h)

-- a front with one link more
pub one_link : (names : Path → Named) (at : Position) (p : Place) (x y z : Option ExprType) (op : Infix) (e : Tree) (ls : Links)
    → outcome (typing names (behind op at) e) ≡ Ok y → outcome (front_step op at p x y e) ≡ Ok z
    → outcome (linked names at p (passed x) (link op e ls)) ≡ outcome (linked names at p (passed z) ls)
one_link names at p x y z op e ls h k =
    same_linked names at p (front op at p (passed x) (typing names (behind op at) e) e) (passed z) ls
    (front_right op at p x (typing names (behind op at) e) y e h ∙ k)

pub operand_ends : (names : Path → Named) (at : Position) (p : Place) (x : Option ExprType) (op : Infix) (e : Tree) (ls : Links) (end : End)
    → IsBad end (first_failing (typing names (behind op at) e).checks) → IsBad end (first_failing (linked names at p (passed x) (link op e ls)).checks)
operand_ends names at p x op e ls (Bad why) h =
    let b = typing names (behind op at) e in
    let f = front op at p (passed x) b e in
    err_part (first_failing (linked names at p f ls).checks) (linked names at p f ls).type why (
    linked_stops names at p f why ls (ap (λ o. verdict o f.type) (stops b.checks (front_step op at p x b.type e).checks why h))
    )
operand_ends names at p x op e ls NoMemory h = tt

pub front_ends : (names : Path → Named) (at : Position) (p : Place) (x y : Option ExprType) (op : Infix) (e : Tree) (ls : Links) (end : End)
    → outcome (typing names (behind op at) e) ≡ Ok y → IsBad end (first_failing (front_step op at p x y e).checks)
    → IsBad end (first_failing (linked names at p (passed x) (link op e ls)).checks)
front_ends names at p x y op e ls (Bad why) h k =
    let f = front op at p (passed x) (typing names (behind op at) e) e in
    err_part (first_failing (linked names at p f ls).checks) (linked names at p f ls).type why (
    linked_stops names at p f why ls (front_right op at p x (typing names (behind op at) e) y e h ∙ ap (λ o. verdict o (front_step op at p x y e).type) k)
    )
front_ends names at p x y op e ls NoMemory h k = tt

-- ---- the values of branches

pub values_then : (names : Path → Named) (at : Position) (bs : Branches) (more : List (Option ExprType))
    → value_types names at bs more ≡ value_types names at bs [] ++ more
values_then names at no_branches more = refl
values_then names at (branch c e rest) more = ap (λ ts. (typing names at e).type ∷ ts) (values_then names at rest more)

-- checks that pass, and then what has answered
pub over : (r : Result (Option Ty) End) (cs : List Check) (s t : Typing) → first_failing cs ≡ None → s ≡ t → Ends r s → Ends r (behind_checks cs t)
over (Ok o) cs s t g e k = passes_over (Ok o) cs s t g e k
over (Err x) cs s t g e k = ends_behind x cs t.checks g (subst (λ u. IsBad x (first_failing u.checks)) e k)

pub passed_operand : (r : Result (Option Ty) End) (a : Typing) (x : Option ExprType) (step : Option ExprType → Typing) → outcome a ≡ Ok x → Ends r (step x) → Ends r (behind_checks a.checks (step a.type))
passed_operand r a x step h k =
    let p = ok_parts (first_failing a.checks) a.type x h in
    over r a.checks (step x) (step a.type) p.0 (ap step (sym p.1)) k
