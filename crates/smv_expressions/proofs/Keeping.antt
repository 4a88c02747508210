-- What is kept of each shape.
use Rattle.std.proofs.Common.{◌≡◌, ℕ, ℤ, true, false, suc, ◌+◌, ◌≤◌, ◌<◌, max, List, [], ◌∷◌, ◌++◌, map, length, refl, sym, ap, ◌∙◌, arith, rules, Vec, Box, Global}
use Rattle.std.proofs.lemmas.List.{map-append, length-map}
use Rattle.text_core.specs.declared.place.Place.{Place}
use Rattle.word_core.specs.Words.{BitVector}
use Rattle.smv_text.specs.declared.tree.Path.{Path}
use Rattle.smv_text.specs.declared.operators.Infix.{Infix}
use Rattle.smv_text.specs.declared.operators.Function.{Function}
use Rattle.smv_text.specs.declared.tree.Expr.{Expr}
use Rattle.smv_text.specs.declared.tree.Link.{Link, roll-Link}
use Rattle.smv_text.specs.declared.tree.Branch.{Branch, roll-Branch}
use Rattle.smv_text.specs.declared.tree.Shape.{True, False, Number, Literal, Name, Range, Chain, Choice, Case, Call, Set, the_lemmas}
use Rattle.smv_text.specs.Tree.{Tree, truth, number, literal, name, range, chain, choice, cases, call, set, links_of, branches_of, trees_of}
use Rattle.smv_text.specs.Heights.{height, highest, chain_height, link_heights}
use Rattle.smv_text.specs.View.{plain, plain_link, plain_branch}
use Rattle.smv_expressions.specs.declared.kept.MeasuredExpr.{MeasuredExpr}
use Rattle.smv_grammar.specs.declared.listing.Listing.TheVariants.{Arguments, Elements}
use Rattle.smv_grammar.specs.Kept.{cap, capped, keep_at}
use Rattle.smv_grammar.specs.Machine.{whole, choice_at, listed}
use Rattle.smv_expressions.specs.Gathered.{read_of, shaped, low, low_link, low_branch, highest_branch}
use Rattle.smv_expressions.proofs.Capping.{cap_height, keeps, chain-within, low_is, low_links, low_branches, low_trees, heights-map, branches_height-highest}

pub read_low : (x : MeasuredExpr) (t : Tree) → read_of x ≡ cap t → plain x.expr ≡ low t
read_low x t e = ap (λ r. r.tree) e

pub read_height : (x : MeasuredExpr) (t : Tree) → read_of x ≡ cap t → x.height ≡ capped (height t)
read_height x t e = ap (λ r. r.height) e ∙ cap_height t

plain-Chain : (p : Place) (e : Box Expr Global) (ls : Vec Link Global) → shaped p (Chain e ls) ≡ chain p (plain e.value) (links_of (map plain_link ls.items))
plain-Chain p e ls = search (rules, the_lemmas)

plain-Choice : (p : Place) (bs : Vec Branch Global) (e : Box Expr Global) → shaped p (Choice bs e) ≡ choice p (branches_of (map plain_branch bs.items)) (plain e.value)
plain-Choice p bs e = search (rules, the_lemmas)

plain-Case : (p : Place) (bs : Vec Branch Global) → shaped p (Case bs) ≡ cases p (branches_of (map plain_branch bs.items))
plain-Case p bs = search (rules, the_lemmas)

plain-Call : (p : Place) (f : Function) (es : Vec Expr Global) → shaped p (Call f es) ≡ call p f (trees_of (map plain es.items))
plain-Call p f es = search (rules, the_lemmas)

plain-Set : (p : Place) (es : Vec Expr Global) → shaped p (Set es) ≡ set p (trees_of (map plain es.items))
plain-Set p es = search (rules, the_lemmas)

plain_link-at : (op : Infix) (e : Expr) → plain_link (roll-Link (record { op = op; operand = e })) ≡ (op, plain e)
plain_link-at op e = search (rules, the_lemmas)

plain_branch-at : (w v : Expr) → plain_branch (roll-Branch (record { when = w; value = v })) ≡ (plain w, plain v)
plain_branch-at w v = search (rules, the_lemmas)

-- leaves
pub leaf_number : (x : MeasuredExpr) (p : Place) (n : ℕ) → read_of x ≡ record { tree = shaped p (Number n); height = 1 } → read_of x ≡ cap (number p n)
leaf_number x p n e = e ∙ ap (λ t. record { tree = t; height = 1 }) (let same : shaped p (Number n) ≡ number p n = search (rules, the_lemmas) in same)

pub leaf_literal : (x : MeasuredExpr) (p : Place) (w : BitVector) → read_of x ≡ record { tree = shaped p (Literal w); height = 1 } → read_of x ≡ cap (literal p w)
leaf_literal x p w e = e ∙ ap (λ t. record { tree = t; height = 1 }) (let same : shaped p (Literal w) ≡ literal p w = search (rules, the_lemmas) in same)

pub leaf_true : (x : MeasuredExpr) (p : Place) → read_of x ≡ record { tree = shaped p True; height = 1 } → read_of x ≡ cap (truth p true)
leaf_true x p e = e ∙ ap (λ t. record { tree = t; height = 1 }) (let same : shaped p True ≡ truth p true = search (rules, the_lemmas) in same)

pub leaf_false : (x : MeasuredExpr) (p : Place) → read_of x ≡ record { tree = shaped p False; height = 1 } → read_of x ≡ cap (truth p false)
leaf_false x p e = e ∙ ap (λ t. record { tree = t; height = 1 }) (let same : shaped p False ≡ truth p false = search (rules, the_lemmas) in same)

pub leaf_name : (x : MeasuredExpr) (p : Place) (path : Path) → read_of x ≡ record { tree = shaped p (Name path); height = 1 } → read_of x ≡ cap (name p path)
leaf_name x p path e = e ∙ ap (λ t. record { tree = t; height = 1 }) (let same : shaped p (Name path) ≡ name p path = search (rules, the_lemmas) in same)

pub leaf_range : (x : MeasuredExpr) (p : Place) (low high : ℤ) → read_of x ≡ record { tree = shaped p (Range low high); height = 1 } → read_of x ≡ cap (range p low high)
leaf_range x p low high e = e ∙ ap (λ t. record { tree = t; height = 1 }) (let same : shaped p (Range low high) ≡ range p low high = search (rules, the_lemmas) in same)

-- one more part
pub one_more_member : (es all : List Expr) (e : Expr) (ts : List Tree) (t : Tree)
    → all ≡ es ++ e ∷ [] → map plain es ≡ map low ts → plain e ≡ low t → map plain all ≡ map low (ts ++ t ∷ [])
one_more_member es all e ts t is before same =
    ap (map plain) is ∙ map-append plain es _ ∙ ap (λ us. us ++ plain e ∷ []) before ∙ ap (λ u. map low ts ++ u ∷ []) same ∙ sym (map-append low ts (t ∷ []))

pub one_more_link : (es all : List Link) (op : Infix) (e : Expr) (ls : List (Infix × Tree)) (t : Tree)
    → all ≡ es ++ roll-Link (record { op = op; operand = e }) ∷ [] → map plain_link es ≡ map low_link ls → plain e ≡ low t
    → map plain_link all ≡ map low_link (ls ++ (op, t) ∷ [])
one_more_link es all op e ls t is before same =
    ap (map plain_link) is ∙ map-append plain_link es _ ∙ ap (λ us. us ++ plain_link (roll-Link (record { op = op; operand = e })) ∷ []) before
    ∙ ap (λ u. map low_link ls ++ u ∷ []) (plain_link-at op e ∙ ap (λ u. (op, u)) same) ∙ sym (map-append low_link ls ((op, t) ∷ []))

pub one_more_branch : (es all : List Branch) (d e : Expr) (bs : List (Tree × Tree)) (w v : Tree)
    → all ≡ es ++ roll-Branch (record { when = d; value = e }) ∷ [] → map plain_branch es ≡ map low_branch bs → plain d ≡ low w → plain e ≡ low v
    → map plain_branch all ≡ map low_branch (bs ++ (w, v) ∷ [])
one_more_branch es all d e bs w v is before same same' =
    ap (map plain_branch) is ∙ map-append plain_branch es _ ∙ ap (λ us. us ++ plain_branch (roll-Branch (record { when = d; value = e })) ∷ []) before
    ∙ ap (λ u. map low_branch bs ++ u ∷ []) (plain_branch-at d e ∙ ap (λ u. (u, plain e)) same ∙ ap (λ u. (low w, u)) same') ∙ sym (map-append low_branch bs ((w, v) ∷ []))

-- the whole shape
pub keeps_chain : (p : Place) (b : Box Expr Global) (all : Vec Link Global) (x : MeasuredExpr) (t : Tree) (ls : List (Infix × Tree)) (n : ℕ)
    → 0 < length all.items → b.value ≡ x.expr → read_of x ≡ cap t → map plain_link all.items ≡ map low_link ls → n ≡ capped (chain_height (height t) (link_heights (links_of ls)))
    → keep_at p (shaped p (Chain b all)) n ≡ cap (whole p (record { first = t; links = ls }))
keeps_chain p b all x t [] n some is read same h = absurd (let none : length (map plain_link all.items) ≡ 0 = ap length same in grind (arith, length-map all.items plain_link))
keeps_chain p b all x t (l ∷ ls) n some is read same h =
    ap (λ u. keep_at p u n) (plain-Chain p b all ∙ ap (λ e. chain p (plain e) (links_of (map plain_link all.items))) is ∙ ap (λ u. chain p u (links_of (map plain_link all.items))) (read_low x t read) ∙ ap (λ us. chain p (low t) (links_of us)) same)
    ∙ keeps (chain p t (links_of (l ∷ ls))) (chain p (low t) (links_of (map low_link (l ∷ ls)))) p n refl h
    (λ within. let w = chain-within 380 (height t) (link_heights (links_of (l ∷ ls))) within in
    ap (λ u. chain p u (links_of (map low_link (l ∷ ls)))) (low_is t w.0) ∙ ap (λ us. chain p t (links_of us)) (low_links (l ∷ ls) w.1))

pub keeps_choice : (p : Place) (all : Vec Branch Global) (b : Box Expr Global) (x : MeasuredExpr) (bs : List (Tree × Tree)) (t : Tree) (n : ℕ)
    → 0 < length all.items → b.value ≡ x.expr → read_of x ≡ cap t → map plain_branch all.items ≡ map low_branch bs → n ≡ capped (max (highest_branch 0 bs) (length bs + height t))
    → keep_at p (shaped p (Choice all b)) n ≡ cap (choice_at p (branches_of bs) t)
keeps_choice p all b x [] t n some is read same h = absurd (let none : length (map plain_branch all.items) ≡ 0 = ap length same in grind (arith, length-map all.items plain_branch))
keeps_choice p all b x (c ∷ bs) t n some is read same h =
    ap (λ u. keep_at p u n) (plain-Choice p all b ∙ ap (λ e. choice p (branches_of (map plain_branch all.items)) (plain e)) is ∙ ap (choice p (branches_of (map plain_branch all.items))) (read_low x t read) ∙ ap (λ us. choice p (branches_of us) (low t)) same)
    ∙ keeps (choice p (branches_of (c ∷ bs)) t) (choice p (branches_of (map low_branch (c ∷ bs))) (low t)) p n refl (h ∙ ap capped (sym (branches_height-highest (height t) (c ∷ bs))))
    (λ within. let w : max (highest_branch 0 (c ∷ bs)) (length (c ∷ bs) + height t) ≤ 380 = omega (arith, branches_height-highest (height t) (c ∷ bs)) in
    ap (choice p (branches_of (map low_branch (c ∷ bs)))) (low_is t (omega arith)) ∙ ap (λ us. choice p (branches_of us) t) (low_branches 0 (c ∷ bs) (omega arith)))

pub keeps_cases : (p : Place) (all : Vec Branch Global) (bs : List (Tree × Tree)) (n : ℕ)
    → map plain_branch all.items ≡ map low_branch bs → n ≡ capped (max (highest_branch 0 bs) (length bs + 0)) → keep_at p (shaped p (Case all)) n ≡ cap (cases p (branches_of bs))
keeps_cases p all bs n same h =
    ap (λ u. keep_at p u n) (plain-Case p all ∙ ap (λ us. cases p (branches_of us)) same)
    ∙ keeps (cases p (branches_of bs)) (cases p (branches_of (map low_branch bs))) p n refl (h ∙ ap capped (sym (branches_height-highest 0 bs)))
    (λ within. let w : max (highest_branch 0 bs) (length bs + 0) ≤ 380 = omega (arith, branches_height-highest 0 bs) in ap (λ us. cases p (branches_of us)) (low_branches 0 bs (omega arith)))

pub keeps_call : (p : Place) (f : Function) (all : Vec Expr Global) (ts : List Tree) (n : ℕ)
    → map plain all.items ≡ map low ts → n ≡ capped (suc (highest (map height ts))) → keep_at p (shaped p (Call f all)) n ≡ cap (listed p (Arguments f) ts)
keeps_call p f all ts n same h =
    ap (λ u. keep_at p u n) (plain-Call p f all ∙ ap (λ us. call p f (trees_of us)) same)
    ∙ keeps (call p f (trees_of ts)) (call p f (trees_of (map low ts))) p n refl (h ∙ ap (λ ns. capped (suc (highest ns))) (sym (heights-map ts)))
    (λ within. ap (λ us. call p f (trees_of us)) (low_trees ts (let same_heights = ap highest (heights-map ts) in omega arith)))

pub keeps_set : (p : Place) (all : Vec Expr Global) (ts : List Tree) (n : ℕ)
    → map plain all.items ≡ map low ts → n ≡ capped (suc (highest (map height ts))) → keep_at p (shaped p (Set all)) n ≡ cap (listed p Elements ts)
keeps_set p all ts n same h =
    ap (λ u. keep_at p u n) (plain-Set p all ∙ ap (λ us. set p (trees_of us)) same)
    ∙ keeps (set p (trees_of ts)) (set p (trees_of (map low ts))) p n refl (h ∙ ap (λ ns. capped (suc (highest ns))) (sym (heights-map ts)))
    (λ within. ap (λ us. set p (trees_of us)) (low_trees ts (let same_heights = ap highest (heights-map ts) in omega arith)))
