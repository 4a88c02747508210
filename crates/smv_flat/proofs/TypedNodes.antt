-- Nodes by the results of their checks and by their shapes.
use Rattle.std.proofs.Common.{◌≡◌, ℕ, ℤ, ◌≤◌, ◌||◌, ◌&&◌, Bool, IsTrue, true, false, List, [], ◌∷◌, ◌++◌, drop, length, map, Option, option_map, Result, Ok, Err, Vec, Box, Global, append_assoc, refl, sym, ap, ◌∙◌, subst, rules}
use Rattle.std.specs.List.{list_any}
use Rattle.std.specs.Result.{IsErrAnd}
use Rattle.std.proofs.Math.Bool.{or_assoc}
use Rattle.std.proofs.lemmas.List.{drop_all}
use Rattle.text_core.proofs.ListLaws.{append_none}
use Rattle.text_core.proofs.Truths.{or_false}
use Rattle.text_core.specs.declared.end.End.{End}
use Rattle.smv_text.specs.declared.tree.Path.{Path}
use Rattle.smv_text.specs.declared.operators.Infix.{Infix}
use Rattle.smv_text.specs.declared.operators.Infix.TheVariants as OfInfix
use Rattle.smv_text.specs.declared.operators.Prefix.{Prefix}
use Rattle.smv_text.specs.declared.operators.Function.{Function}
use Rattle.smv_text.specs.declared.tree.Link.{Link}
use Rattle.smv_text.specs.declared.tree.Branch.{Branch}
use Rattle.smv_text.specs.declared.tree.Expr.{Expr, the_lemmas as expr_lemmas}
use Rattle.smv_text.specs.declared.tree.Shape.TheVariants as OfExpr
use Rattle.word_core.specs.Words.{BitVector}
use Rattle.smv_text.specs.Tree.{Tree, truth, number, literal, range, Links, no_links, link, branch, links_of, branches_of, trees_of}
use Rattle.smv_text.specs.View.{plain, plain_link, plain_branch}
use Rattle.smv_meaning.specs.Expressions.{is_implies, are_implies, is_from_right}
use Rattle.smv_meaning.specs.Types.{ExprType}
use Rattle.smv_meaning.specs.Checks.{Position, Named, Typing, single, across, behind, first_failing, IsBad}
use Rattle.smv_meaning.specs.laws.Booleans.{both_true, absurd_bool}
use Rattle.smv_meaning.specs.laws.Plain.{plain_branch-at, plain_link-at}
use Rattle.smv_intervals.specs.declared.types.Ty.{Ty}
use Rattle.smv_intervals.specs.View.{seen}
use Rattle.smv_types.specs.Outcome.{outcome, Ends, is_known, branches_known}
use Rattle.smv_types.specs.laws.Composing.{ok_parts}
use Rattle.smv_types.specs.laws.Shapes.{implies_across}
use Rattle.smv_items.specs.FlatItems.{Leaf}
use Rattle.smv_flat.specs.declared.expressions.FlatExpr.{FlatExpr}
use Rattle.smv_flat.specs.declared.expressions.FlatBranch.{FlatBranch}
use Rattle.smv_flat.specs.declared.expressions.FlatShape.{FlatShape, the_lemmas as shape_lemmas}
use Rattle.smv_flat.specs.declared.expressions.FlatShape.TheVariants as OfShape
use Rattle.smv_flat.specs.declared.nodes.Typed.{Typed}
use Rattle.smv_flat.specs.declared.nodes.Rest.{Rest}
use Rattle.smv_flat.specs.FlatTree.{FlatTree, FlatLinks, flat_prefix, flat_chain, flat_choice, flat_cases, flat_select, flat_call, flat_set, flat_link, flat_links_of, flat_branches_of, flat_trees_of, flat_branch, flat_tree_then, flat_tree, flat_links, flat_branches, flat_trees, unless_set, is_set, has_set, reaches, links_reach, branches_reach, trees_reach}
use Rattle.smv_flat.specs.FlatView.{plain_flat, plain_flat_link, plain_flat_branch, plain_shape, mapped, IsNodeOf, IsRetyped, IsChained, EndsAs, links_at}

-- ---- results

-- what a `?` hands on
pub stopped : (r : Result Typed End) (x : End) (t : Typing) (tree : FlatTree) (set inputs : Bool) → IsErrAnd r (λ e. e ≡ x) → IsBad x (first_failing t.checks) → EndsAs t tree set inputs r
stopped (Ok v) x t tree set inputs h k = absurd h
stopped (Err e) x t tree set inputs h k = subst (λ y. IsBad y (first_failing t.checks)) (sym h) k

pub err_mapped : {X : Type 0} (f : X → Option Ty) (r : Result X End) (x : End) → IsErrAnd r (λ e. e ≡ x) → IsErrAnd (mapped f r) (λ e. e ≡ x)
err_mapped f (Ok v) x h = h
err_mapped f (Err e) x h = h

-- a node whose checks come to what was found, and whose shape is this tree
pub node_ends : (t : Typing) (ty : Result (Option Ty) End) (shape : FlatShape) (own set reached inputs : Bool) (tree : Option ExprType → FlatTree) (whole : FlatTree) (r : Result Typed End)
    → Ends ty t → IsNodeOf shape ty own reached r → own ≡ set → reached ≡ inputs → ((u : Option ExprType) → plain_shape shape u ≡ tree u) → tree (unless_set set t.type) ≡ whole → EndsAs t whole set inputs r
node_ends t ty shape own set reached inputs tree whole (Ok x) h n s i g e =
    let told : outcome t ≡ Ok (option_map seen x.ty) = subst (λ y. Ends y t) n.0 h in
    let type : t.type ≡ option_map seen x.ty = (ok_parts (first_failing t.checks) t.type (option_map seen x.ty) told).1 in
    (told, n.1 ∙ g (unless_set own (option_map seen x.ty)) ∙ ap (λ u. tree (unless_set own u)) (sym type) ∙ ap (λ b. tree (unless_set b t.type)) s ∙ e, n.2 ∙ s, n.3 ∙ i)
node_ends t ty shape own set reached inputs tree whole (Err x) h n s i g e = subst (λ y. Ends y t) n h

-- a chain whose first operand and rest have this form
pub chain_ends : (t : Typing) (first : Typed) (rest : Rest) (own set front behind : Bool) (tree : FlatTree) (links : FlatLinks) (whole : FlatTree) (r : Result Typed End)
    → outcome t ≡ Ok (option_map seen rest.ty) → IsChained first rest own r → own ≡ set → plain_flat first.expr ≡ tree → flat_links_of (map plain_flat_link rest.links.items) ≡ links → first.reaches_input ≡ front → rest.reaches_input ≡ behind
    → flat_chain (unless_set set t.type) tree links ≡ whole → EndsAs t whole set (front || behind) r
chain_ends t first rest own set front behind tree links whole (Ok x) h n s f l i j e =
    let type : t.type ≡ option_map seen rest.ty = (ok_parts (first_failing t.checks) t.type (option_map seen rest.ty) h).1 in (
      h ∙ ap (λ u. Ok (option_map seen u)) (sym n.0),
      n.1 ∙ ap (λ u. flat_chain (unless_set own u) (plain_flat first.expr) (flat_links_of (map plain_flat_link rest.links.items))) (sym type)
          ∙ ap (λ b. flat_chain (unless_set b t.type) (plain_flat first.expr) (flat_links_of (map plain_flat_link rest.links.items))) s
          ∙ ap (λ v. flat_chain (unless_set set t.type) v (flat_links_of (map plain_flat_link rest.links.items))) f ∙ ap (flat_chain (unless_set set t.type) tree) l ∙ e,
      n.2 ∙ s,
      n.3 ∙ ap (λ b. b || rest.reaches_input) i ∙ ap (λ b. front || b) j,
    )
chain_ends t first rest own set front behind tree links whole (Err x) h n s f l i j e = subst (λ y. IsBad y (first_failing t.checks)) (sym n) tt

-- `next`: the same node
pub retyped_ends : (t : Typing) (x : Typed) (ty : Result (Option Ty) End) (tree : FlatTree) (set inputs : Bool) (r : Result Typed End)
    → Ends ty t → IsRetyped x ty r → plain_flat x.expr ≡ tree → x.is_set ≡ set → x.reaches_input ≡ inputs → EndsAs t tree set inputs r
retyped_ends t x ty tree set inputs (Ok y) h n e s i = (subst (λ z. Ends z t) n.0 h, ap plain_flat n.1 ∙ e, n.2 ∙ s, n.3 ∙ i)
retyped_ends t x ty tree set inputs (Err y) h n e s i = subst (λ z. Ends z t) n h

-- what a `?` hands on of a type
pub handed : (r : Result (Option Ty) End) (x : End) (t : Typing) → IsErrAnd r (λ e. e ≡ x) → IsBad x (first_failing t.checks) → Ends r t
handed (Ok v) x t h k = absurd h
handed (Err e) x t h k = subst (λ y. IsBad y (first_failing t.checks)) (sym h) k

-- ---- shapes

pub shape_prefix : (sign : Prefix) (n : ℕ) (b : Box FlatExpr Global) (u : Option ExprType) → plain_shape (OfShape.Prefix sign n b) u ≡ flat_prefix u sign n (plain_flat b.value)
shape_prefix sign n b u = search (rules, shape_lemmas)

pub shape_choice : (bs : Vec FlatBranch Global) (b : Box FlatExpr Global) (u : Option ExprType) → plain_shape (OfShape.Choice bs b) u ≡ flat_choice u (flat_branches_of (map plain_flat_branch bs.items)) (plain_flat b.value)
shape_choice bs b u = search (rules, shape_lemmas)

pub shape_case : (bs : Vec FlatBranch Global) (u : Option ExprType) → plain_shape (OfShape.Case bs) u ≡ flat_cases u (flat_branches_of (map plain_flat_branch bs.items))
shape_case bs u = search (rules, shape_lemmas)

pub shape_select : (b : Box FlatExpr Global) (high low : ℕ) (u : Option ExprType) → plain_shape (OfShape.Select b high low) u ≡ flat_select u (plain_flat b.value) high low
shape_select b high low u = search (rules, shape_lemmas)

pub shape_call : (f : Function) (es : Vec FlatExpr Global) (u : Option ExprType) → plain_shape (OfShape.Call f es) u ≡ flat_call u f (flat_trees_of (map plain_flat es.items))
shape_call f es u = search (rules, shape_lemmas)

pub shape_set : (es : Vec FlatExpr Global) (u : Option ExprType) → plain_shape (OfShape.Set es) u ≡ flat_set u (flat_trees_of (map plain_flat es.items))
shape_set es u = search (rules, shape_lemmas)

-- ---- lists

-- one element more
pub grown : {X Y : Type 0} (old new all : List Y) (y : Y) (g : X → Y) (x : X) (xs rest : List X) (i : ℕ) → new ≡ old ++ y ∷ [] → y ≡ g x → drop i xs ≡ x ∷ rest → old ++ map g (drop i xs) ≡ all → new ++ map g rest ≡ all
grown old new all y g x xs rest i n e s h =
    ap (λ l. l ++ map g rest) n ∙ append_assoc old (y ∷ []) (map g rest) ∙ ap (λ z. old ++ z ∷ map g rest) e ∙ ap (λ l. old ++ map g l) (sym s) ∙ h

-- whether one passes a test, with one element more
pub any_grown : {X : Type 0} (f : X → Bool) (old new v all : Bool) (x : X) (xs rest : List X) (i : ℕ) → new ≡ (old || v) → v ≡ f x → drop i xs ≡ x ∷ rest → (old || list_any f (drop i xs)) ≡ all → (new || list_any f rest) ≡ all
any_grown f old new v all x xs rest i n e s h =
    ap (λ c. c || list_any f rest) (n ∙ ap (λ c. old || c) e) ∙ or_assoc old (f x) (list_any f rest) ∙ ap (λ l. old || list_any f l) (sym s) ∙ h

pub any_finished : {X : Type 0} (f : X → Bool) (done all : Bool) (xs : List X) (k : ℕ) → length xs ≤ k → (done || list_any f (drop k xs)) ≡ all → done ≡ all
any_finished f done all xs k l h = sym (or_false done) ∙ ap (λ ys. done || list_any f ys) (sym (drop_all k xs l)) ∙ h

pub finished : {X Y : Type 0} (done all : List Y) (g : X → Y) (xs : List X) (k : ℕ) → length xs ≤ k → done ++ map g (drop k xs) ≡ all → done ≡ all
finished done all g xs k l h = sym (append_none done) ∙ ap (λ zs. done ++ map g zs) (sym (drop_all k xs l)) ∙ h

-- each where it is
abbrev pub link_flat : (Path → Named) → (Path → Leaf) → Position → Bool → Link → Infix × FlatTree
link_flat names leaf at under l = (l.op, flat_tree names leaf (behind l.op at) under (plain l.operand))

pub links_are : (names : Path → Named) (leaf : Path → Leaf) (at : Position) (under : Bool) (ls : List Link) → flat_links_of (map (link_flat names leaf at under) ls) ≡ flat_links names leaf at under (links_of (map plain_link ls))
links_are names leaf at under [] = refl
links_are names leaf at under (l ∷ ls) =
    ap (λ rest. flat_link l.op (flat_tree names leaf (behind l.op at) under (plain l.operand)) rest) (links_are names leaf at under ls)
    ∙ ap (λ (p : Infix × Tree). flat_links names leaf at under (link p.0 p.1 (links_of (map plain_link ls)))) (sym (plain_link-at l))

abbrev pub link_reaches : (Path → Named) → Link → Bool
link_reaches names l = reaches names (plain l.operand)

pub any_link : (names : Path → Named) (ls : List Link) → list_any (link_reaches names) ls ≡ links_reach names (links_of (map plain_link ls))
any_link names [] = refl
any_link names (l ∷ ls) =
    ap (λ rest. link_reaches names l || rest) (any_link names ls) ∙ ap (λ (p : Infix × Tree). reaches names p.1 || links_reach names (links_of (map plain_link ls))) (sym (plain_link-at l))

-- all at the same position
abbrev pub same_flat : (Path → Named) → (Path → Leaf) → Position → Bool → Link → Infix × FlatTree
same_flat names leaf at under l = (l.op, flat_tree names leaf at under (plain l.operand))

pub same_are : (names : Path → Named) (leaf : Path → Leaf) (at : Position) (under : Bool) (ls : List Link) → flat_links_of (map (same_flat names leaf at under) ls) ≡ links_at names leaf at under (links_of (map plain_link ls))
same_are names leaf at under [] = refl
same_are names leaf at under (l ∷ ls) =
    ap (λ rest. flat_link l.op (flat_tree names leaf at under (plain l.operand)) rest) (same_are names leaf at under ls)
    ∙ ap (λ (p : Infix × Tree). links_at names leaf at under (link p.0 p.1 (links_of (map plain_link ls)))) (sym (plain_link-at l))

implies_behind : (op : Infix) (at : Position) → is_implies op ≡ true → single at ≡ behind op (single at)
implies_behind OfInfix.Implies at h = refl
implies_behind op at h = absurd_bool h

right_links : (names : Path → Named) (leaf : Path → Leaf) (at : Position) (under : Bool) (ls : Links) → are_implies ls ≡ true → links_at names leaf (single at) under ls ≡ flat_links names leaf (single at) under ls
right_links names leaf at under no_links h = refl
right_links names leaf at under (link op e ls) h =
    let b = both_true (is_implies op) (are_implies ls) h in
    ap (λ (c : Position). flat_link op (flat_tree names leaf c under e) (links_at names leaf (single at) under ls)) (implies_behind op at b.0)
    ∙ ap (flat_link op (flat_tree names leaf (behind op (single at)) under e)) (right_links names leaf at under ls b.1)

-- in a chain of `->` both are the same
pub right_chain : (names : Path → Named) (leaf : Path → Leaf) (at : Position) (under : Bool) (ls : Links) → is_from_right ls ≡ true → links_at names leaf (single at) under ls ≡ flat_links names leaf (across ls at) under ls
right_chain names leaf at under no_links h = absurd_bool h
right_chain names leaf at under (link op e ls) h =
    let b = both_true (is_implies op) (are_implies ls) h in
    right_links names leaf at under (link op e ls) h ∙ ap (λ (c : Position). flat_links names leaf c under (link op e ls)) (sym (implies_across op e ls at b.0))

-- ---- branches

abbrev pub branch_flat : (Path → Named) → (Path → Leaf) → Position → Bool → Branch → FlatTree × FlatTree
branch_flat names leaf at under b = (flat_tree names leaf (single at) under (plain b.when), flat_tree names leaf at under (plain b.value))

pub branches_are : (names : Path → Named) (leaf : Path → Leaf) (at : Position) (under : Bool) (bs : List Branch)
    → flat_branches_of (map (branch_flat names leaf at under) bs) ≡ flat_branches names leaf at under (branches_of (map plain_branch bs))
branches_are names leaf at under [] = refl
branches_are names leaf at under (b ∷ bs) =
    ap (λ rest. flat_branch (flat_tree names leaf (single at) under (plain b.when)) (flat_tree names leaf at under (plain b.value)) rest) (branches_are names leaf at under bs)
    ∙ ap (λ (p : Tree × Tree). flat_branch (flat_tree names leaf (single at) under p.0) (flat_tree names leaf at under p.1) (flat_branches names leaf at under (branches_of (map plain_branch bs)))) (sym (plain_branch-at b))

abbrev pub value_set : Branch → Bool
value_set b = is_set (plain b.value)

pub sets_are : (bs : List Branch) → list_any value_set bs ≡ has_set (branches_of (map plain_branch bs))
sets_are [] = refl
sets_are (b ∷ bs) =
    ap (λ rest. value_set b || rest) (sets_are bs) ∙ ap (λ (p : Tree × Tree). is_set p.1 || has_set (branches_of (map plain_branch bs))) (sym (plain_branch-at b))

-- a branch reaches an input by its condition or its value
abbrev pub branch_reaches : (Path → Named) → Branch → Bool
branch_reaches names b = reaches names (plain b.when) || reaches names (plain b.value)

pub any_branch : (names : Path → Named) (bs : List Branch) → list_any (branch_reaches names) bs ≡ branches_reach names (branches_of (map plain_branch bs))
any_branch names [] = refl
any_branch names (b ∷ bs) =
    ap (λ rest. branch_reaches names b || rest) (any_branch names bs)
    ∙ ap (λ (p : Tree × Tree). (reaches names p.0 || reaches names p.1) || branches_reach names (branches_of (map plain_branch bs))) (sym (plain_branch-at b))

-- the value of a branch of known ones is known
pub value_known : (knows : Path → Bool) (xs rest : List Branch) (b : Branch) (i : ℕ) → drop i xs ≡ b ∷ rest → IsTrue (branches_known knows (branches_of (map plain_branch (drop i xs)))) → IsTrue (is_known knows (plain b.value))
value_known knows xs rest b i s h =
    let bs = branches_of (map plain_branch rest) in
    let first : branches_of (map plain_branch (drop i xs)) ≡ branch (plain b.when) (plain b.value) bs =
    ap (λ ys. branches_of (map plain_branch ys)) s ∙ ap (λ (p : Tree × Tree). branch p.0 p.1 bs) (plain_branch-at b) in
    let both = both_true (is_known knows (plain b.when)) (is_known knows (plain b.value) && branches_known knows bs) (sym (ap (branches_known knows) first) ∙ h) in
    (both_true (is_known knows (plain b.value)) (branches_known knows bs) both.1).0

-- ---- arguments and elements

abbrev pub part_flat : (Path → Named) → (Path → Leaf) → Position → Bool → Expr → FlatTree
part_flat names leaf at under e = flat_tree names leaf at under (plain e)

pub parts_are : (names : Path → Named) (leaf : Path → Leaf) (at : Position) (under : Bool) (es : List Expr) → flat_trees_of (map (part_flat names leaf at under) es) ≡ flat_trees names leaf at under (trees_of (map plain es))
parts_are names leaf at under [] = refl
parts_are names leaf at under (e ∷ es) = ap (λ rest. flat_tree_then (flat_tree names leaf at under (plain e)) rest) (parts_are names leaf at under es)

abbrev pub part_reaches : (Path → Named) → Expr → Bool
part_reaches names e = reaches names (plain e)

pub any_part : (names : Path → Named) (es : List Expr) → list_any (part_reaches names) es ≡ trees_reach names (trees_of (map plain es))
any_part names [] = refl
any_part names (e ∷ es) = ap (λ rest. reaches names (plain e) || rest) (any_part names es)

-- ---- atoms

pub plain_truth_is : (e : Expr) → e.shape ≡ OfExpr.True → plain e ≡ truth e.place true
plain_truth_is e h = search (rules, expr_lemmas)

pub plain_untruth_is : (e : Expr) → e.shape ≡ OfExpr.False → plain e ≡ truth e.place false
plain_untruth_is e h = search (rules, expr_lemmas)

pub plain_number_is : (e : Expr) (n : ℕ) → e.shape ≡ OfExpr.Number n → plain e ≡ number e.place n
plain_number_is e n h = search (rules, expr_lemmas)

pub plain_literal_is : (e : Expr) (w : BitVector) → e.shape ≡ OfExpr.Literal w → plain e ≡ literal e.place w
plain_literal_is e w h = search (rules, expr_lemmas)

pub plain_range_is : (e : Expr) (low high : ℤ) → e.shape ≡ OfExpr.Range low high → plain e ≡ range e.place low high
plain_range_is e low high h = search (rules, expr_lemmas)
