-- Tokens of the kinds that are printed for an expression spell it but for its places.
use Rattle.std.proofs.Common.{◌≡◌, ◌≤◌, ℕ, zero, suc, ℤ, pos, negsuc, ◌-ℤ◌, Bool, true, false, cond, nat_le, Some, List, [], ◌∷◌, ◌++◌, map, drop, refl, sym, ap, ◌∙◌, subst, append_assoc, append-nil, arith}
use Rattle.std.proofs.lemmas.Int.{ints}
use Rattle.text_core.specs.declared.place.Place.{Place}
use Rattle.smv_text.specs.declared.token.Token.{Token}
use Rattle.smv_text.specs.declared.token.Reserved.TheVariants as word
use Rattle.smv_text.specs.declared.token.Sign.{Sign}
use Rattle.smv_text.specs.declared.token.Sign.TheVariants as sign
use Rattle.smv_text.specs.declared.token.TokenKind.{TokenKind}
use Rattle.smv_text.specs.declared.token.TokenKind.TheVariants as kind
use Rattle.smv_text.specs.declared.tree.Path.{Path}
use Rattle.smv_text.specs.declared.operators.Prefix.{Prefix}
use Rattle.smv_text.specs.declared.operators.Infix.{Infix}
use Rattle.smv_text.specs.declared.operators.Function.{Function}
use Rattle.smv_text.specs.declared.level.OperatorClass.{OperatorClass}
use Rattle.smv_text.specs.declared.level.Level.{Level}
use Rattle.smv_text.specs.declared.level.Level.TheVariants.{Chain, Range, Before, Selection}
use Rattle.smv_text.specs.Lexing.{kinds}
use Rattle.smv_text.specs.Levels.{all_levels, infix_of, prefix_kind, function_at, class_of, infix_kind, function_word}
use Rattle.smv_text.specs.laws.Operators.{class_is}
use Rattle.smv_text.specs.Tree.{Tree, truth, number, literal, name, prefix, chain, choice, cases, select, call, next, set, range, Links, no_links, link, Branches, no_branches, branch, Trees, no_trees, tree}
use Rattle.smv_text.specs.Grammar.{start, IsSign, Signs, no_signs, sign_then, SpellsInteger, unsigned, negative, SpellsSteps, no_steps, step, SpellsPath, from_name, from_itself, Spells, pass, chains, chooses, ranges, prefixes, selects, is_true, is_false, numbers, literals, names, brackets, nexts, calls, sets, switches, SpellsLinks, no_more, one_more, SpellsBranches, otherwise, picks, SpellsListed, last_one, one_before, SpellsCases, last_case, case_before}
use Rattle.smv_print.specs.Ranks.{rank, tree_rank}
use Rattle.smv_print.specs.Printing.{repeated, parted, ident, in_brackets, int_kinds, path_kinds, standing, tree_kinds, link_kinds, choice_kinds, case_kinds, argument_kinds}
use Rattle.smv_print.specs.Unplaced.{nowhere, unplaced_path, unplaced, unplaced_links, unplaced_branches, unplaced_trees, SpellsSame}
use Rattle.smv_print.proofs.Parting.{headed, nothing}
use Rattle.smv_print.proofs.Parting.{parted as cut}
use Rattle.smv_print.proofs.Raised.{from_below, raised, level_first, infix_again, function_again}

-- whatever tokens have these kinds
abbrev pub Remade : List Level → Tree → List TokenKind → Type 0
Remade ls t ks = (ys : List Token) → kinds ys ≡ ks → SpellsSame ls t ys

abbrev RemadeAtRank : Tree → Type 0
RemadeAtRank t = Remade (drop (tree_rank t) all_levels) t (tree_kinds t)

along : (ls : List Level) (t : Tree) (xs ys : List Token) → ys ≡ xs → SpellsSame ls t xs → SpellsSame ls t ys
along ls t xs ys e s = subst (λ (zs : List Token). SpellsSame ls t zs) (sym e) s

at_level : (l k : List Level) (t : Tree) (ks : List TokenKind) → l ≡ k → Remade l t ks → Remade k t ks
at_level l k t ks e r = subst (λ (m : List Level). Remade m t ks) e r

-- one token alone
single : (k : TokenKind) (t : Tree) (make : (x : Token) → x.kind ≡ k → SpellsSame [] t (x ∷ [])) → Remade [] t (k ∷ [])
single k t make ys e =
    let h = headed k [] ys e in
    along [] t (h.token ∷ []) ys (h.is ∙ ap (λ xs. h.token ∷ xs) (nothing h.rest h.rest_kinds)) (make h.token h.kind)

-- bare where its level is tight enough, else in brackets
bracketed : (t : Tree) → Remade all_levels t (tree_kinds t) → Remade [] t (in_brackets (tree_kinds t))
bracketed t r ys e =
    let o = headed (kind.Sign sign.Open) (tree_kinds t ++ kind.Sign sign.Close ∷ []) ys e in
    let p = cut (tree_kinds t) (kind.Sign sign.Close ∷ []) o.rest o.rest_kinds in
    let c = headed (kind.Sign sign.Close) [] p.back p.back_kinds in
    let s = r p.front p.front_kinds in
    let end : c.rest ≡ [] = nothing c.rest c.rest_kinds in
    along [] t (o.token ∷ (p.front ++ c.token ∷ [])) ys
    (o.is ∙ ap (λ xs. o.token ∷ xs) (p.is ∙ ap (λ xs. p.front ++ xs) (c.is ∙ ap (λ xs. c.token ∷ xs) end)))
    (record { expression = s.expression; spelled = brackets o.token o.kind s.spelled c.token c.kind; same = s.same })

loosest : (t : Tree) → RemadeAtRank t → Remade all_levels t (tree_kinds t)
loosest t remade ys e =
    let s = remade ys e in
    record { expression = s.expression; spelled = raised 0 (tree_rank t) all_levels (omega arith) s.spelled; same = s.same }

stands_by : (t : Tree) → RemadeAtRank t → (n : ℕ) (b : Bool) → nat_le n (tree_rank t) ≡ b → Remade (drop n all_levels) t (cond b (tree_kinds t) (in_brackets (tree_kinds t)))
stands_by t remade n true h ys e =
    let s = remade ys e in
    let below : n ≤ tree_rank t = grind arith in
    record { expression = s.expression; spelled = raised n (tree_rank t) all_levels below s.spelled; same = s.same }
stands_by t remade n false h ys e =
    let s = bracketed t (loosest t remade) ys e in
    record { expression = s.expression; spelled = from_below (drop n all_levels) s.spelled; same = s.same }

stands : (t : Tree) → RemadeAtRank t → (n : ℕ) → Remade (drop n all_levels) t (standing n t (tree_kinds t))
stands t remade n = stands_by t remade n (nat_le n (tree_rank t)) refl

-- signs
signs_again : (pre : Prefix) (n : ℕ) (ys : List Token) → kinds ys ≡ repeated n (prefix_kind pre) → Signs pre n ys
signs_again pre zero ys e = subst (λ (xs : List Token). Signs pre 0 xs) (sym (nothing ys e)) no_signs
signs_again pre (suc n) ys e =
    let h = headed (prefix_kind pre) (repeated n (prefix_kind pre)) ys e in
    subst (λ (xs : List Token). Signs pre (suc n) xs) (sym h.is) (sign_then h.token h.kind (signs_again pre n h.rest h.rest_kinds))

prefixed : (pre : Prefix) (n : ℕ) (p : Place) (t : Tree) → RemadeAtRank t → Remade (Before pre ∷ drop (suc (rank (Before pre))) all_levels) (prefix p pre (suc n) t) (repeated (suc n) (prefix_kind pre) ++ standing (suc (rank (Before pre))) t (tree_kinds t))
prefixed pre n p t remade ys e =
    let c = cut (repeated (suc n) (prefix_kind pre)) (standing (suc (rank (Before pre))) t (tree_kinds t)) ys e in
    let s = stands t remade (suc (rank (Before pre))) c.back c.back_kinds in
    along (Before pre ∷ drop (suc (rank (Before pre))) all_levels) (prefix p pre (suc n) t) (c.front ++ c.back) ys c.is
    (record {
      expression = prefix (start c.front) pre (suc n) s.expression;
      spelled = prefixes (signs_again pre (suc n) c.front c.front_kinds) s.spelled;
      same = ap (prefix nowhere pre (suc n)) s.same;
    })

minus_is : (n : ℕ) → pos 0 -ℤ pos (suc n) ≡ negsuc n
minus_is n = omega (arith, ints)

pub integer_again : (i : ℤ) (ys : List Token) → kinds ys ≡ int_kinds i → SpellsInteger i ys
integer_again (pos n) ys e =
    let h = headed (kind.Number n) [] ys e in
    let is : ys ≡ h.token ∷ [] = h.is ∙ ap (λ xs. h.token ∷ xs) (nothing h.rest h.rest_kinds) in
    subst (λ (xs : List Token). SpellsInteger (pos n) xs) (sym is) (unsigned h.token h.kind)
integer_again (negsuc n) ys e =
    let m = headed (kind.Sign sign.Minus) (kind.Number (suc n) ∷ []) ys e in
    let h = headed (kind.Number (suc n)) [] m.rest m.rest_kinds in
    let is : ys ≡ m.token ∷ h.token ∷ [] = m.is ∙ ap (λ xs. m.token ∷ xs) (h.is ∙ ap (λ xs. h.token ∷ xs) (nothing h.rest h.rest_kinds)) in
    let P : ℤ → Type 0 = λ i. SpellsInteger i (m.token ∷ h.token ∷ []) in
    subst (λ (xs : List Token). SpellsInteger (negsuc n) xs) (sym is) (subst P (minus_is n) (negative m.token h.token m.kind h.kind))

ranged : (p : Place) (low high : ℤ) → RemadeAtRank (range p low high)
ranged p low high ys e =
    let l = cut (int_kinds low) (kind.Sign sign.Range ∷ int_kinds high) ys e in
    let d = headed (kind.Sign sign.Range) (int_kinds high) l.back l.back_kinds in
    along (drop (rank Range) all_levels) (range p low high) (l.front ++ d.token ∷ d.rest) ys (l.is ∙ ap (λ xs. l.front ++ xs) d.is)
    (record {
      expression = range (start l.front) low high;
      spelled = ranges (integer_again low l.front l.front_kinds) d.token d.kind (integer_again high d.rest d.rest_kinds);
      same = refl;
    })

-- names
steps_again : (ns : List (List ℕ)) (ys : List Token) → kinds ys ≡ parted sign.Dot true (map ident ns) → SpellsSteps ns ys
steps_again [] ys e = subst (λ (xs : List Token). SpellsSteps [] xs) (sym (nothing ys e)) no_steps
steps_again (n ∷ ns) ys e =
    let d = headed (kind.Sign sign.Dot) (kind.Ident n ∷ parted sign.Dot true (map ident ns)) ys e in
    let h = headed (kind.Ident n) (parted sign.Dot true (map ident ns)) d.rest d.rest_kinds in
    subst (λ (xs : List Token). SpellsSteps (n ∷ ns) xs) (sym (d.is ∙ ap (λ xs. d.token ∷ xs) h.is)) (step d.token h.token d.kind h.kind (steps_again ns h.rest h.rest_kinds))

-- The tokens spell this path but for its place.
pub record SpellsSamePath (path : Path) (xs : List Token) : Type 0 where
  pub other : Path
  pub spelled : SpellsPath other xs
  pub same : unplaced_path other ≡ unplaced_path path

pub path_again : {path : Path} {xs : List Token} → SpellsPath path xs → (ys : List Token) → kinds ys ≡ path_kinds path → SpellsSamePath path ys
path_again (from_name {n = n} {ns = ns} x k s) ys e =
    let path : Path = record { from_self = false; names = n ∷ ns; place = x.place } in
    let h = headed (kind.Ident n) (parted sign.Dot true (map ident ns)) ys e in
    subst (λ (xs : List Token). SpellsSamePath path xs) (sym h.is)
    (record { other = record { from_self = false; names = n ∷ ns; place = h.token.place }; spelled = from_name h.token h.kind (steps_again ns h.rest h.rest_kinds); same = refl })
path_again (from_itself {ns = ns} x k s) ys e =
    let path : Path = record { from_self = true; names = ns; place = x.place } in
    let h = headed (kind.Reserved word.Itself) (parted sign.Dot true (map ident ns)) ys e in
    subst (λ (xs : List Token). SpellsSamePath path xs) (sym h.is)
    (record { other = record { from_self = true; names = ns; place = h.token.place }; spelled = from_itself h.token h.kind (steps_again ns h.rest h.rest_kinds); same = refl })

named : {path : Path} {xs : List Token} (p : Place) → SpellsPath path xs → Remade [] (name p path) (path_kinds path)
named p s ys e =
    let a = path_again s ys e in
    record { expression = name (start ys) a.other; spelled = names a.spelled; same = ap (name nowhere) a.same }

-- chains
record SameLinks (j : OperatorClass) (below : List Level) (ls : Links) (ys : List Token) : Type 0 where
  pub others : Links
  pub spelled : SpellsLinks j below others ys
  pub same : unplaced_links others ≡ unplaced_links ls

abbrev LinksAgain : OperatorClass → ℕ → Links → Type 0
LinksAgain j n ls = (ys : List Token) → kinds ys ≡ link_kinds n ls → SameLinks j (drop n all_levels) ls ys

no_links_again : (j : OperatorClass) (n : ℕ) → LinksAgain j n no_links
no_links_again j n ys e =
    subst (λ (xs : List Token). SameLinks j (drop n all_levels) no_links xs) (sym (nothing ys e)) (record { others = no_links; spelled = no_more; same = refl })

links_again : (j : OperatorClass) (n : ℕ) (o : Infix) (t : Tree) (ls : Links) → class_of o ≡ j → RemadeAtRank t → LinksAgain j n ls → LinksAgain j n (link o t ls)
links_again j n o t ls same remade more ys e =
    let h = headed (infix_kind o) (standing n t (tree_kinds t) ++ link_kinds n ls) ys e in
    let c = cut (standing n t (tree_kinds t)) (link_kinds n ls) h.rest h.rest_kinds in
    let s = stands t remade n c.front c.front_kinds in
    let m = more c.back c.back_kinds in
    let is_infix : infix_of j h.token.kind ≡ Some o = ap (infix_of j) h.kind ∙ subst (λ (i : OperatorClass). infix_of i (infix_kind o) ≡ Some o) same (infix_again o) in
    subst (λ (xs : List Token). SameLinks j (drop n all_levels) (link o t ls) xs) (sym (h.is ∙ ap (λ xs. h.token ∷ xs) c.is))
    (record {
      others = link o s.expression m.others;
      spelled = one_more h.token is_infix s.spelled m.spelled;
      same = ap (λ u. link o u (unplaced_links m.others)) s.same ∙ ap (link o (unplaced t)) m.same;
    })

chain_by : (j : OperatorClass) (below : List Level) (p : Place) (t : Tree) (o : Infix) (u : Tree) (ls : Links) (xs ys : List Token) → SpellsSame below t xs
    → (others : Links) → SpellsLinks j below others ys → unplaced_links others ≡ unplaced_links (link o u ls)
    → SpellsSame (Chain j ∷ below) (chain p t (link o u ls)) (xs ++ ys)
chain_by j below p t o u ls xs ys s no_links m e = absurd (cc)
chain_by j below p t o u ls xs ys s (link o' u' ls') m e = record {
  expression = chain (start xs) s.expression (link o' u' ls');
  spelled = chains s.spelled m;
  same = ap (λ v. chain nowhere v (unplaced_links (link o' u' ls'))) s.same ∙ ap (chain nowhere (unplaced t)) e;
}

-- the links that spell these begin as these do
chain_of : (j : OperatorClass) (below : List Level) (p : Place) (t : Tree) (o : Infix) (u : Tree) (ls : Links) (xs ys : List Token) → SpellsSame below t xs → SameLinks j below (link o u ls) ys
    → SpellsSame (Chain j ∷ below) (chain p t (link o u ls)) (xs ++ ys)
chain_of j below p t o u ls xs ys s m = chain_by j below p t o u ls xs ys s m.others m.spelled m.same

chained_at : (j : OperatorClass) (p : Place) (t u : Tree) (o : Infix) (ls : Links) → RemadeAtRank t → LinksAgain j (suc (rank (Chain j))) (link o u ls)
    → Remade (Chain j ∷ drop (suc (rank (Chain j))) all_levels) (chain p t (link o u ls)) (standing (suc (rank (Chain j))) t (tree_kinds t) ++ link_kinds (suc (rank (Chain j))) (link o u ls))
chained_at j p t u o ls remade more ys e =
    let n = suc (rank (Chain j)) in
    let c = cut (standing n t (tree_kinds t)) (link_kinds n (link o u ls)) ys e in
    let s = stands t remade n c.front c.front_kinds in
    let m = more c.back c.back_kinds in
    along (Chain j ∷ drop n all_levels) (chain p t (link o u ls)) (c.front ++ c.back) ys c.is
    (chain_of j (drop n all_levels) p t o u ls c.front c.back s m)

chained : (j : OperatorClass) (p : Place) (t u : Tree) (o : Infix) (ls : Links) → class_of o ≡ j → RemadeAtRank t → LinksAgain j (suc (rank (Chain j))) (link o u ls) → RemadeAtRank (chain p t (link o u ls))
chained j p t u o ls same remade more =
    let P : OperatorClass → Type 0 = λ i. Remade (drop (rank (Chain i)) all_levels) (chain p t (link o u ls)) (standing (suc (rank (Chain i))) t (tree_kinds t) ++ link_kinds (suc (rank (Chain i))) (link o u ls)) in
    subst P (sym same) (at_level (Chain j ∷ drop (suc (rank (Chain j))) all_levels) (drop (rank (Chain j)) all_levels) (chain p t (link o u ls)) _ (sym (level_first (Chain j))) (chained_at j p t u o ls remade more))

-- conditions and values
record SameBranches (below : List Level) (bs : Branches) (t : Tree) (ys : List Token) : Type 0 where
  pub others : Branches
  pub last : Tree
  pub spelled : SpellsBranches below others last ys
  pub same : unplaced_branches others ≡ unplaced_branches bs
  pub same_last : unplaced last ≡ unplaced t

abbrev BranchesAgain : Branches → Tree → Type 0
BranchesAgain bs t = (ys : List Token) → kinds ys ≡ choice_kinds bs ++ standing 3 t (tree_kinds t) → SameBranches (drop 3 all_levels) bs t ys

otherwise_again : (t : Tree) → RemadeAtRank t → BranchesAgain no_branches t
otherwise_again t remade ys e =
    let s = stands t remade 3 ys e in
    record { others = no_branches; last = s.expression; spelled = otherwise s.spelled; same = refl; same_last = s.same }

picks_again : (w v : Tree) (bs : Branches) (t : Tree) → RemadeAtRank w → RemadeAtRank v → BranchesAgain bs t → BranchesAgain (branch w v bs) t
picks_again w v bs t remade_w remade_v more ys e =
    let tail : List TokenKind = standing 3 t (tree_kinds t) in
    let rest : List TokenKind = choice_kinds bs ++ tail in
    let ws : List TokenKind = standing 3 w (tree_kinds w) in
    let vs : List TokenKind = standing 3 v (tree_kinds v) in
    let behind : List TokenKind = kind.Sign sign.Question ∷ (vs ++ (kind.Sign sign.Colon ∷ choice_kinds bs)) in
    let split : (ws ++ behind) ++ tail ≡ ws ++ (kind.Sign sign.Question ∷ (vs ++ (kind.Sign sign.Colon ∷ rest))) =
    append_assoc ws behind tail ∙ ap (λ ks. ws ++ (kind.Sign sign.Question ∷ ks)) (append_assoc vs (kind.Sign sign.Colon ∷ choice_kinds bs) tail) in
    let a = cut ws (kind.Sign sign.Question ∷ (vs ++ (kind.Sign sign.Colon ∷ rest))) ys (e ∙ split) in
    let q = headed (kind.Sign sign.Question) (vs ++ (kind.Sign sign.Colon ∷ rest)) a.back a.back_kinds in
    let b = cut vs (kind.Sign sign.Colon ∷ rest) q.rest q.rest_kinds in
    let c = headed (kind.Sign sign.Colon) rest b.back b.back_kinds in
    let s = stands w remade_w 3 a.front a.front_kinds in
    let u = stands v remade_v 3 b.front b.front_kinds in
    let m = more c.rest c.rest_kinds in
    let is : ys ≡ a.front ++ q.token ∷ (b.front ++ c.token ∷ c.rest) = a.is ∙ ap (λ xs. a.front ++ xs) (q.is ∙ ap (λ xs. q.token ∷ xs) (b.is ∙ ap (λ xs. b.front ++ xs) c.is)) in
    subst (λ (xs : List Token). SameBranches (drop 3 all_levels) (branch w v bs) t xs) (sym is)
    (record {
      others = branch s.expression u.expression m.others;
      last = m.last;
      spelled = picks s.spelled q.token q.kind u.spelled c.token c.kind m.spelled;
      same = let f : unplaced s.expression ≡ unplaced w = s.same in let g : unplaced u.expression ≡ unplaced v = u.same in let h : unplaced_branches m.others ≡ unplaced_branches bs = m.same in cc;
      same_last = m.same_last;
    })

choice_by : (p : Place) (w v t : Tree) (bs : Branches) (ys : List Token) (others : Branches) (last : Tree) → SpellsBranches (drop 3 all_levels) others last ys
    → unplaced_branches others ≡ unplaced_branches (branch w v bs) → unplaced last ≡ unplaced t → SpellsSame (drop 2 all_levels) (choice p (branch w v bs) t) ys
choice_by p w v t bs ys no_branches last s e f = absurd (cc)
choice_by p w v t bs ys (branch w' v' bs') last s e f = record {
  expression = choice (start ys) (branch w' v' bs') last;
  spelled = chooses s;
  same = ap (λ cs. choice nowhere cs (unplaced last)) e ∙ ap (choice nowhere (unplaced_branches (branch w v bs))) f;
}

chosen : (p : Place) (w v t : Tree) (bs : Branches) → BranchesAgain (branch w v bs) t → RemadeAtRank (choice p (branch w v bs) t)
chosen p w v t bs again ys e = let m = again ys e in choice_by p w v t bs ys m.others m.last m.spelled m.same m.same_last

-- lists with commas
pub record SameListed (s : Sign) (ts : Trees) (ys : List Token) : Type 0 where
  pub others : Trees
  pub spelled : SpellsListed s others ys
  pub same : unplaced_trees others ≡ unplaced_trees ts

abbrev pub ListedAgain : Sign → Trees → Type 0
ListedAgain s ts = (ys : List Token) → kinds ys ≡ argument_kinds false ts ++ kind.Sign s ∷ [] → SameListed s ts ys

last_again : (s : Sign) (t : Tree) → RemadeAtRank t → ListedAgain s (tree t no_trees)
last_again s t remade ys e =
    let plain : (tree_kinds t ++ []) ++ kind.Sign s ∷ [] ≡ tree_kinds t ++ kind.Sign s ∷ [] = ap (λ ks. ks ++ kind.Sign s ∷ []) (append-nil (tree_kinds t)) in
    let a = cut (tree_kinds t) (kind.Sign s ∷ []) ys (e ∙ plain) in
    let c = headed (kind.Sign s) [] a.back a.back_kinds in
    let u = loosest t remade a.front a.front_kinds in
    let is : ys ≡ a.front ++ c.token ∷ [] = a.is ∙ ap (λ xs. a.front ++ xs) (c.is ∙ ap (λ xs. c.token ∷ xs) (nothing c.rest c.rest_kinds)) in
    subst (λ (xs : List Token). SameListed s (tree t no_trees) xs) (sym is)
    (record { others = tree u.expression no_trees; spelled = last_one u.spelled c.token c.kind; same = ap (λ v. tree v no_trees) u.same })

before_by : (s : Sign) (t u : Tree) (ts : Trees) (xs ys : List Token) (comma : Token) → IsSign sign.Comma comma → SpellsSame all_levels t xs
    → (others : Trees) → SpellsListed s others ys → unplaced_trees others ≡ unplaced_trees (tree u ts) → SameListed s (tree t (tree u ts)) (xs ++ comma ∷ ys)
before_by s t u ts xs ys comma k a no_trees l e = absurd (cc)
before_by s t u ts xs ys comma k a (tree u' ts') l e = record {
  others = tree a.expression (tree u' ts');
  spelled = one_before a.spelled comma k l;
  same = ap (λ v. tree v (unplaced_trees (tree u' ts'))) a.same ∙ ap (tree (unplaced t)) e;
}

before_again : (s : Sign) (t u : Tree) (ts : Trees) → RemadeAtRank t → ListedAgain s (tree u ts) → ListedAgain s (tree t (tree u ts))
before_again s t u ts remade more ys e =
    let rest : List TokenKind = argument_kinds false (tree u ts) ++ kind.Sign s ∷ [] in
    let split : (tree_kinds t ++ argument_kinds true (tree u ts)) ++ kind.Sign s ∷ [] ≡ tree_kinds t ++ (kind.Sign sign.Comma ∷ rest) = append_assoc (tree_kinds t) (argument_kinds true (tree u ts)) (kind.Sign s ∷ []) in
    let a = cut (tree_kinds t) (kind.Sign sign.Comma ∷ rest) ys (e ∙ split) in
    let c = headed (kind.Sign sign.Comma) rest a.back a.back_kinds in
    let m = more c.rest c.rest_kinds in
    subst (λ (xs : List Token). SameListed s (tree t (tree u ts)) xs) (sym (a.is ∙ ap (λ xs. a.front ++ xs) c.is))
    (before_by s t u ts a.front c.rest c.token c.kind (loosest t remade a.front a.front_kinds) m.others m.spelled m.same)

called : (p : Place) (f : Function) (ts : Trees) → ListedAgain sign.Close ts → RemadeAtRank (call p f ts)
called p f ts again ys e =
    let h = headed (kind.Reserved (function_word f)) (in_brackets (argument_kinds false ts)) ys e in
    let o = headed (kind.Sign sign.Open) (argument_kinds false ts ++ kind.Sign sign.Close ∷ []) h.rest h.rest_kinds in
    let m = again o.rest o.rest_kinds in
    along [] (call p f ts) (h.token ∷ o.token ∷ o.rest) ys (h.is ∙ ap (λ xs. h.token ∷ xs) o.is)
    (record { expression = call h.token.place f m.others; spelled = calls h.token (ap function_at h.kind ∙ function_again f) o.token o.kind m.spelled; same = ap (call nowhere f) m.same })

set_again : (p : Place) (ts : Trees) → ListedAgain sign.CloseBrace ts → RemadeAtRank (set p ts)
set_again p ts again ys e =
    let o = headed (kind.Sign sign.OpenBrace) (argument_kinds false ts ++ kind.Sign sign.CloseBrace ∷ []) ys e in
    let m = again o.rest o.rest_kinds in
    along [] (set p ts) (o.token ∷ o.rest) ys o.is (record { expression = set o.token.place m.others; spelled = sets o.token o.kind m.spelled; same = ap (set nowhere) m.same })

next_again : (p : Place) (t : Tree) → RemadeAtRank t → RemadeAtRank (next p t)
next_again p t remade ys e =
    let h = headed (kind.Reserved word.Next) (in_brackets (tree_kinds t)) ys e in
    let o = headed (kind.Sign sign.Open) (tree_kinds t ++ kind.Sign sign.Close ∷ []) h.rest h.rest_kinds in
    let a = cut (tree_kinds t) (kind.Sign sign.Close ∷ []) o.rest o.rest_kinds in
    let c = headed (kind.Sign sign.Close) [] a.back a.back_kinds in
    let s = loosest t remade a.front a.front_kinds in
    let is : ys ≡ h.token ∷ o.token ∷ (a.front ++ c.token ∷ []) =
    h.is ∙ ap (λ xs. h.token ∷ xs) (o.is ∙ ap (λ xs. o.token ∷ xs) (a.is ∙ ap (λ xs. a.front ++ xs) (c.is ∙ ap (λ xs. c.token ∷ xs) (nothing c.rest c.rest_kinds)))) in
    along [] (next p t) (h.token ∷ o.token ∷ (a.front ++ c.token ∷ [])) ys is
    (record { expression = next h.token.place s.expression; spelled = nexts h.token h.kind o.token o.kind s.spelled c.token c.kind; same = ap (next nowhere) s.same })

-- bit selections
selected : (p : Place) (t : Tree) (high low : ℕ) → RemadeAtRank t → RemadeAtRank (select p t high low)
selected p t high low remade ys e =
    let n : ℕ = rank Selection in
    let a = cut (standing n t (tree_kinds t)) (kind.Sign sign.OpenBracket ∷ kind.Number high ∷ kind.Sign sign.Colon ∷ kind.Number low ∷ kind.Sign sign.CloseBracket ∷ []) ys e in
    let o = headed (kind.Sign sign.OpenBracket) (kind.Number high ∷ kind.Sign sign.Colon ∷ kind.Number low ∷ kind.Sign sign.CloseBracket ∷ []) a.back a.back_kinds in
    let h = headed (kind.Number high) (kind.Sign sign.Colon ∷ kind.Number low ∷ kind.Sign sign.CloseBracket ∷ []) o.rest o.rest_kinds in
    let c = headed (kind.Sign sign.Colon) (kind.Number low ∷ kind.Sign sign.CloseBracket ∷ []) h.rest h.rest_kinds in
    let l = headed (kind.Number low) (kind.Sign sign.CloseBracket ∷ []) c.rest c.rest_kinds in
    let d = headed (kind.Sign sign.CloseBracket) [] l.rest l.rest_kinds in
    let s = stands t remade n a.front a.front_kinds in
    let ends : List Token = o.token ∷ h.token ∷ c.token ∷ l.token ∷ d.token ∷ [] in
    let is : ys ≡ a.front ++ ends =
    a.is ∙ ap (λ xs. a.front ++ xs) (o.is ∙ ap (λ xs. o.token ∷ xs) (h.is ∙ ap (λ xs. h.token ∷ xs) (c.is ∙ ap (λ xs. c.token ∷ xs) (l.is ∙ ap (λ xs. l.token ∷ xs) (d.is ∙ ap (λ xs. d.token ∷ xs) (nothing d.rest d.rest_kinds)))))) in
    along (Selection ∷ []) (select p t high low) (a.front ++ ends) ys is
    (record {
      expression = select (start a.front) s.expression high low;
      spelled = selects s.spelled o.token h.token c.token l.token d.token o.kind h.kind c.kind l.kind d.kind;
      same = ap (λ v. select nowhere v high low) s.same;
    })

-- cases
record SameCases (bs : Branches) (ys : List Token) : Type 0 where
  pub others : Branches
  pub spelled : SpellsCases others ys
  pub same : unplaced_branches others ≡ unplaced_branches bs

abbrev CasesAgain : Branches → Type 0
CasesAgain bs = (ys : List Token) → kinds ys ≡ case_kinds bs ++ kind.Reserved word.Esac ∷ [] → SameCases bs ys

-- a condition, its value, and what is behind them
record Case (w v : Tree) (ks : List TokenKind) (ys : List Token) : Type 0 where
  pub condition : List Token
  pub value : List Token
  pub colon : Token
  pub semicolon : Token
  pub rest : List Token
  pub is : ys ≡ condition ++ colon ∷ (value ++ semicolon ∷ rest)
  pub condition_spelled : SpellsSame all_levels w condition
  pub is_colon : IsSign sign.Colon colon
  pub value_spelled : SpellsSame all_levels v value
  pub is_semicolon : IsSign sign.Semicolon semicolon
  pub rest_kinds : kinds rest ≡ ks

one_case : (w v : Tree) (bs : Branches) → RemadeAtRank w → RemadeAtRank v → (ys : List Token) → kinds ys ≡ case_kinds (branch w v bs) ++ kind.Reserved word.Esac ∷ [] → Case w v (case_kinds bs ++ kind.Reserved word.Esac ∷ []) ys
one_case w v bs remade_w remade_v ys e =
    let tail : List TokenKind = kind.Reserved word.Esac ∷ [] in
    let rest : List TokenKind = case_kinds bs ++ tail in
    let ws : List TokenKind = tree_kinds w in
    let vs : List TokenKind = tree_kinds v in
    let behind : List TokenKind = kind.Sign sign.Colon ∷ (vs ++ (kind.Sign sign.Semicolon ∷ case_kinds bs)) in
    let split : (ws ++ behind) ++ tail ≡ ws ++ (kind.Sign sign.Colon ∷ (vs ++ (kind.Sign sign.Semicolon ∷ rest))) =
    append_assoc ws behind tail ∙ ap (λ ks. ws ++ (kind.Sign sign.Colon ∷ ks)) (append_assoc vs (kind.Sign sign.Semicolon ∷ case_kinds bs) tail) in
    let a = cut ws (kind.Sign sign.Colon ∷ (vs ++ (kind.Sign sign.Semicolon ∷ rest))) ys (e ∙ split) in
    let q = headed (kind.Sign sign.Colon) (vs ++ (kind.Sign sign.Semicolon ∷ rest)) a.back a.back_kinds in
    let b = cut vs (kind.Sign sign.Semicolon ∷ rest) q.rest q.rest_kinds in
    let c = headed (kind.Sign sign.Semicolon) rest b.back b.back_kinds in
    record {
      condition = a.front;
      value = b.front;
      colon = q.token;
      semicolon = c.token;
      rest = c.rest;
      is = a.is ∙ ap (λ xs. a.front ++ xs) (q.is ∙ ap (λ xs. q.token ∷ xs) (b.is ∙ ap (λ xs. b.front ++ xs) c.is));
      condition_spelled = loosest w remade_w a.front a.front_kinds;
      is_colon = q.kind;
      value_spelled = loosest v remade_v b.front b.front_kinds;
      is_semicolon = c.kind;
      rest_kinds = c.rest_kinds;
    }

last_case_again : (w v : Tree) → RemadeAtRank w → RemadeAtRank v → CasesAgain (branch w v no_branches)
last_case_again w v remade_w remade_v ys e =
    let c = one_case w v no_branches remade_w remade_v ys e in
    let s = c.condition_spelled in
    let u = c.value_spelled in
    let d = headed (kind.Reserved word.Esac) [] c.rest c.rest_kinds in
    let is : ys ≡ c.condition ++ c.colon ∷ (c.value ++ c.semicolon ∷ d.token ∷ []) = c.is ∙ ap (λ xs. c.condition ++ c.colon ∷ (c.value ++ c.semicolon ∷ xs)) (d.is ∙ ap (λ xs. d.token ∷ xs) (nothing d.rest d.rest_kinds)) in
    subst (λ (xs : List Token). SameCases (branch w v no_branches) xs) (sym is)
    (record {
      others = branch s.expression u.expression no_branches;
      spelled = last_case s.spelled c.colon c.is_colon u.spelled c.semicolon c.is_semicolon d.token d.kind;
      same = let f : unplaced s.expression ≡ unplaced w = s.same in let g : unplaced u.expression ≡ unplaced v = u.same in cc;
    })

case_by : (w v a b : Tree) (bs : Branches) (ys : List Token) (ks : List TokenKind) (c : Case w v ks ys) (others : Branches) → SpellsCases others c.rest → unplaced_branches others ≡ unplaced_branches (branch a b bs)
    → SameCases (branch w v (branch a b bs)) ys
case_by w v a b bs ys ks c no_branches m e = absurd (cc)
case_by w v a b bs ys ks c (branch a' b' bs') m e =
    let s = c.condition_spelled in
    let u = c.value_spelled in
    subst (λ (xs : List Token). SameCases (branch w v (branch a b bs)) xs) (sym c.is)
    (record {
      others = branch s.expression u.expression (branch a' b' bs');
      spelled = case_before s.spelled c.colon c.is_colon u.spelled c.semicolon c.is_semicolon m;
      same = ap (λ x. branch x (unplaced u.expression) (unplaced_branches (branch a' b' bs'))) s.same ∙ ap (λ x. branch (unplaced w) x (unplaced_branches (branch a' b' bs'))) u.same ∙ ap (branch (unplaced w) (unplaced v)) e;
    })

case_again : (w v a b : Tree) (bs : Branches) → RemadeAtRank w → RemadeAtRank v → CasesAgain (branch a b bs) → CasesAgain (branch w v (branch a b bs))
case_again w v a b bs remade_w remade_v more ys e =
    let c = one_case w v (branch a b bs) remade_w remade_v ys e in
    let m = more c.rest c.rest_kinds in
    case_by w v a b bs ys (case_kinds (branch a b bs) ++ kind.Reserved word.Esac ∷ []) c m.others m.spelled m.same

switched : (p : Place) (bs : Branches) → CasesAgain bs → RemadeAtRank (cases p bs)
switched p bs again ys e =
    let h = headed (kind.Reserved word.Case) (case_kinds bs ++ kind.Reserved word.Esac ∷ []) ys e in
    let m = again h.rest h.rest_kinds in
    along [] (cases p bs) (h.token ∷ h.rest) ys h.is (record { expression = cases h.token.place m.others; spelled = switches h.token h.kind m.spelled; same = ap (cases nowhere) m.same })

prefix_remade : (pre : Prefix) (n : ℕ) (p : Place) (t : Tree) → RemadeAtRank t → RemadeAtRank (prefix p pre (suc n) t)
prefix_remade pre n p t remade =
    at_level (Before pre ∷ drop (suc (rank (Before pre))) all_levels) (drop (rank (Before pre)) all_levels) (prefix p pre (suc n) t) _ (sym (level_first (Before pre))) (prefixed pre n p t remade)

mutual
  remade : {ls : List Level} {t : Tree} {xs : List Token} → Spells ls t xs → RemadeAtRank t
  remade (pass s) = remade s
  remade (chains {j = j} {t = t} {u = u} {op = o} {links = ls} {xs = xs} s (one_more x e a m)) =
      chained j (start xs) t u o ls (class_is j x.kind o e) (remade s) (remade_links (one_more x e a m) (suc (rank (Chain j))))
  remade (chooses {w = w} {v = v} {t = t} {bs = bs} {xs = xs} s) = chosen (start xs) w v t bs (remade_branches s)
  remade (ranges {low = low} {high = high} {xs = xs} a dots k b) = ranged (start xs) low high
  remade (prefixes {pre = pre} {n = n} {t = t} {xs = xs} signs s) = prefix_remade pre n (start xs) t (remade s)
  remade (selects {t = t} {high = high} {low = low} {xs = xs} s o h c l d _ _ _ _ _) = selected (start xs) t high low (remade s)
  remade (is_true x k) = single (kind.Reserved word.True) (truth x.place true) (λ y e. record { expression = truth y.place true; spelled = is_true y e; same = refl })
  remade (is_false x k) = single (kind.Reserved word.False) (truth x.place false) (λ y e. record { expression = truth y.place false; spelled = is_false y e; same = refl })
  remade (numbers {n = n} x k) = single (kind.Number n) (number x.place n) (λ y e. record { expression = number y.place n; spelled = numbers y e; same = refl })
  remade (literals {w = w} x k) = single (kind.Literal w) (literal x.place w) (λ y e. record { expression = literal y.place w; spelled = literals y e; same = refl })
  remade (names {xs = xs} s) = named (start xs) s
  remade (brackets o k s c l) = remade s
  remade (nexts {t = t} x k o l s c m) = next_again x.place t (remade s)
  remade (calls {f = f} {ts = ts} x k o l s) = called x.place f ts (remade_listed s)
  remade (sets {ts = ts} o k s) = set_again o.place ts (remade_listed s)
  remade (switches {bs = bs} x k s) = switched x.place bs (remade_cases s)

  remade_links : {j : OperatorClass} {below : List Level} {ls : Links} {xs : List Token} → SpellsLinks j below ls xs → (n : ℕ) → LinksAgain j n ls
  remade_links (no_more {j = j}) n = no_links_again j n
  remade_links (one_more {j = j} {op = o} {t = t} {links = ls} x e s m) n = links_again j n o t ls (class_is j x.kind o e) (remade s) (remade_links m n)

  remade_branches : {below : List Level} {bs : Branches} {t : Tree} {xs : List Token} → SpellsBranches below bs t xs → BranchesAgain bs t
  remade_branches (otherwise {t = t} s) = otherwise_again t (remade s)
  remade_branches (picks {w = w} {v = v} {t = t} {bs = bs} a q k b c l m) = picks_again w v bs t (remade a) (remade b) (remade_branches m)

  remade_listed : {s : Sign} {ts : Trees} {xs : List Token} → SpellsListed s ts xs → ListedAgain s ts
  remade_listed (last_one {s = s} {t = t} a c k) = last_again s t (remade a)
  remade_listed (one_before {s = s} {t = t} {u = u} {ts = ts} a c k m) = before_again s t u ts (remade a) (remade_listed m)

  remade_cases : {bs : Branches} {xs : List Token} → SpellsCases bs xs → CasesAgain bs
  remade_cases (last_case {w = w} {v = v} a c k b d l x m) = last_case_again w v (remade a) (remade b)
  remade_cases (case_before {w = w} {v = v} {a = a} {b = b} {bs = bs} s c k u d l m) = case_again w v a b bs (remade s) (remade u) (remade_cases m)

-- an expression that some tokens spell is spelled, but for places, by all tokens of the kinds that are printed for it
pub expression_again : {ls : List Level} {t : Tree} {xs : List Token} → Spells ls t xs → Remade all_levels t (tree_kinds t)
expression_again {t = t} s = loosest t (remade s)

pub listed_again : {s : Sign} {ts : Trees} {xs : List Token} → SpellsListed s ts xs → ListedAgain s ts
listed_again s = remade_listed s
