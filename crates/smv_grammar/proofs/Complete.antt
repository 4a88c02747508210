-- The machine comes to each expression by each of its spellings.
use Rattle.std.proofs.Common.{◌≡◌, ℕ, ℤ, zero, suc, ◌+◌, ◌<◌, ◌≤◌, true, false, cond, Some, None, option_map, List, [], ◌∷◌, ◌++◌, refl, sym, ap, ◌∙◌, append_assoc, arith}
use Rattle.std.proofs.lemmas.List.{append-nil}
use Rattle.text_core.specs.declared.place.Place.{Place}
use Rattle.smv_text.specs.declared.token.Reserved.TheVariants as word
use Rattle.smv_text.specs.declared.token.Sign.{Sign}
use Rattle.smv_text.specs.declared.token.Sign.TheVariants as sign
use Rattle.smv_text.specs.declared.token.Token.{Token}
use Rattle.smv_text.specs.declared.token.TokenKind.{TokenKind}
use Rattle.smv_text.specs.declared.token.TokenKind.TheVariants as kind
use Rattle.smv_text.specs.declared.tree.Path.{Path}
use Rattle.smv_text.specs.declared.operators.Prefix.{Prefix}
use Rattle.smv_text.specs.declared.operators.Prefix.TheVariants as prefix
use Rattle.smv_text.specs.declared.operators.Infix.{Infix}
use Rattle.smv_text.specs.declared.operators.Function.{Function}
use Rattle.smv_text.specs.declared.level.OperatorClass.{OperatorClass}
use Rattle.smv_text.specs.declared.level.OperatorClass.TheVariants as classes
use Rattle.smv_text.specs.declared.level.Level.{Level}
use Rattle.smv_text.specs.declared.level.Level.TheVariants.{Chain, Choice, Range, Before, Selection}
use Rattle.smv_text.specs.Levels.{all_levels, infix_of, prefix_kind, function_at}
use Rattle.smv_text.specs.Tree.{Tree, cases, call, set, select, range, Links, no_links, link, Branches, no_branches, branch, Trees, no_trees, tree, links_of, branches_of, trees_of}
use Rattle.smv_text.specs.Grammar.{start, Signs, no_signs, sign_then, SpellsInteger, unsigned, negative, SpellsSteps, no_steps, step, SpellsPath, from_name, from_itself, Spells, pass, chains, chooses, ranges, prefixes, selects, is_true, is_false, numbers, literals, names, brackets, nexts, calls, sets, switches, SpellsLinks, no_more, one_more, SpellsBranches, otherwise, picks, SpellsListed, last_one, one_before, SpellsCases, last_case, case_before}
use Rattle.smv_grammar.specs.declared.listing.Listing.{Listing}
use Rattle.smv_grammar.specs.declared.listing.Listing.TheVariants.{Arguments, Elements}
use Rattle.smv_grammar.specs.declared.levels.Leader.TheVariants as leader
use Rattle.smv_grammar.specs.Marks.{is_sign, is_word}
use Rattle.smv_grammar.specs.Ranks.{level_at, tightest, class_rank, level_rank, rank_of, first_rank}
use Rattle.smv_grammar.specs.Machine.{prefix_sign, is_prefix, Chained, bare, joined, taken, chain_at, choice_at, Frame, operand, when, value, selected, bracket, following, listing, condition, result, closing_of, listed, ask, have, signed, opened, longer, leader_of, calling, walk}
use Rattle.smv_grammar.specs.Reading.{after, after_word, found, number_at, first_number, negated, integer_at, first_integer, starts_with_dots, dots_behind, starts_range, name_at, path_on, path_at}
use Rattle.smv_grammar.proofs.Ranked.{rank_at, class_ranks, not_sign, Stops}
use Rattle.smv_grammar.proofs.First.{path_on-step, path_on-ends, dots_negated}
use Rattle.smv_grammar.proofs.Steps.{chained, chain_goes, when_goes, value_goes, selected_goes, bracket_goes, following_goes, condition_goes, result_goes, listing_goes, listing_ends, when_leaves, selected_leaves, signs_fold, operand_goes, signed_goes, open_next_goes, open_call_goes, high_colon_goes, low_close_goes, signed_ends, case_more, case_ends, high_end_goes, low_end_goes, upto_goes, named_on}
use Rattle.smv_grammar.proofs.Climbing.{none_after, none_joined, opened_leaves, chain_begins, choice_begins, selection_begins, IsPlain, passes, prefix_begins, range_goes, leads_by, path_begins}

-- parts behind those so far
abbrev pub links_onto : List (Infix × Tree) → Links → Links
links_onto [] ls = ls
links_onto (l ∷ all) ls = link l.0 l.1 (links_onto all ls)

abbrev pub branches_onto : List (Tree × Tree) → Branches → Branches
branches_onto [] bs = bs
branches_onto (b ∷ all) bs = branch b.0 b.1 (branches_onto all bs)

abbrev pub trees_onto : List Tree → Trees → Trees
trees_onto [] ts = ts
trees_onto (t ∷ all) ts = tree t (trees_onto all ts)

pub links_all : (all : List (Infix × Tree)) → links_of all ≡ links_onto all no_links
links_all [] = refl
links_all (l ∷ all) = ap (link l.0 l.1) (links_all all)

pub links_push : (all : List (Infix × Tree)) (op : Infix) (t : Tree) (ls : Links) → links_onto (all ++ (op, t) ∷ []) ls ≡ links_onto all (link op t ls)
links_push [] op t ls = refl
links_push (l ∷ all) op t ls = ap (link l.0 l.1) (links_push all op t ls)

pub branches_all : (all : List (Tree × Tree)) → branches_of all ≡ branches_onto all no_branches
branches_all [] = refl
branches_all (b ∷ all) = ap (branch b.0 b.1) (branches_all all)

pub branches_push : (all : List (Tree × Tree)) (w v : Tree) (bs : Branches) → branches_onto (all ++ (w, v) ∷ []) bs ≡ branches_onto all (branch w v bs)
branches_push [] w v bs = refl
branches_push (b ∷ all) w v bs = ap (branch b.0 b.1) (branches_push all w v bs)

pub trees_all : (all : List Tree) → trees_of all ≡ trees_onto all no_trees
trees_all [] = refl
trees_all (t ∷ all) = ap (tree t) (trees_all all)

pub trees_push : (all : List Tree) (t : Tree) (ts : Trees) → trees_onto (all ++ t ∷ []) ts ≡ trees_onto all (tree t ts)
trees_push [] t ts = refl
trees_push (u ∷ all) t ts = ap (tree u) (trees_push all t ts)

-- a list's expression
abbrev pub made : Place → Listing → Trees → Tree
made p (Arguments f) ts = call p f ts
made p Elements ts = set p ts

pub listed_made : (p : Place) (what : Listing) (ts : List Tree) → listed p what ts ≡ made p what (trees_of ts)
listed_made p (Arguments f) ts = refl
listed_made p Elements ts = refl

-- which level it is
head_is : {l m : Level} {ls ms : List Level} → ◌≡◌ {A = List Level} (l ∷ ls) (m ∷ ms) → l ≡ m
head_is e = cc

tail_is : {l m : Level} {ls ms : List Level} → ◌≡◌ {A = List Level} (l ∷ ls) (m ∷ ms) → ls ≡ ms
tail_is e = cc

rank_is : (l : Level) (below : List Level) (m : ℕ) → suc m ≤ 16 → ◌≡◌ {A = List Level} (l ∷ below) (tightest (suc m)) → level_rank l ≡ suc m
rank_is l below m few is = let e : ◌≡◌ {A = List Level} (l ∷ below) (level_at m ∷ tightest m) = is in ap level_rank (head_is e) ∙ rank_at m (omega arith)

below_is : (l : Level) (below : List Level) (m : ℕ) → ◌≡◌ {A = List Level} (l ∷ below) (tightest (suc m)) → below ≡ tightest m
below_is l below m is = let e : ◌≡◌ {A = List Level} (l ∷ below) (level_at m ∷ tightest m) = is in tail_is e

-- what a token is not
of_kind : (x : Token) (z : TokenKind) (s : Sign) → x.kind ≡ z → is_sign s z ≡ false → is_sign s x.kind ≡ false
of_kind x z s e f = ap (is_sign s) e ∙ f

no_word : (x : Token) (z : TokenKind) → x.kind ≡ z → is_word word.Esac z ≡ false → is_word word.Esac x.kind ≡ false
no_word x z e f = ap (is_word word.Esac) e ∙ f

sign_test : (x : Token) (s : Sign) → x.kind ≡ kind.Sign s → is_sign s (kind.Sign s) ≡ true → is_sign s x.kind ≡ true
sign_test x s e f = ap (is_sign s) e ∙ f

found_after : (s : Sign) (x : Token) (xs : List Token) → x.kind ≡ kind.Sign s → is_sign s (kind.Sign s) ≡ true → after s (x ∷ xs) ≡ Some xs
found_after s x xs e f = ap (λ b. cond b (Some xs) None) (sign_test x s e f)

not_after : (s : Sign) (x : Token) (xs : List Token) → is_sign s x.kind ≡ false → after s (x ∷ xs) ≡ None
not_after s x xs e = ap (λ b. cond b (Some xs) None) e

function_sign : (z : TokenKind) (f : Function) (s : Sign) → function_at z ≡ Some f → is_sign s z ≡ false
function_sign (kind.Sign y) f s e = cc
function_sign (kind.Reserved w) f s e = refl
function_sign _ f s e = refl

function_word : (z : TokenKind) (f : Function) → function_at z ≡ Some f → is_word word.Esac z ≡ false
function_word (kind.Reserved word.Esac) f e = cc
function_word (kind.Reserved _) f e = refl
function_word (kind.Sign s) f e = refl
function_word _ f e = refl

function_integer : (z : TokenKind) (f : Function) (xs : List Token) → function_at z ≡ Some f → dots_behind (integer_at z xs) ≡ false
function_integer (kind.Sign sign.Minus) f xs e = cc
function_integer (kind.Sign _) f xs e = refl
function_integer (kind.Number n) f xs e = cc
function_integer (kind.Reserved w) f xs e = refl
function_integer _ f xs e = refl

operator_kind : (j : OperatorClass) (x : TokenKind) (op : Infix) → infix_of j x ≡ Some op → 0 < rank_of x
operator_kind j x op e = let r = class_ranks j x op e in let some = class_some j in omega arith
  where
    class_some : (i : OperatorClass) → 0 < class_rank i
    class_some classes.Sums = omega arith
    class_some _ = omega arith

operator_dots : (j : OperatorClass) (x : TokenKind) (op : Infix) → infix_of j x ≡ Some op → is_sign sign.Range x ≡ false
operator_dots j x op e = not_sign sign.Range x (λ same. let some = operator_kind j x op e in let zero_is : rank_of x ≡ 0 = same in omega arith)

-- what a spelling begins with
abbrev pub Filled : List Token → Type 0
Filled [] = ⊥
Filled (x ∷ xs) = Unit {0}

filled_front : (xs ys : List Token) → Filled xs → Filled (xs ++ ys)
filled_front [] ys f = absurd f
filled_front (x ∷ xs) ys f = tt

integer_filled : {z : ℤ} {xs : List Token} → SpellsInteger z xs → Filled xs
integer_filled (unsigned x e) = tt
integer_filled (negative m x e f) = tt

path_filled : {path : Path} {xs : List Token} → SpellsPath path xs → Filled xs
path_filled (from_name x e s) = tt
path_filled (from_itself x e s) = tt

pub filled : {ls : List Level} {t : Tree} {xs : List Token} → Spells ls t xs → Filled xs
filled (pass s) = filled s
filled (chains {xs = xs} {ys = ys} s more) = filled_front xs ys (filled s)
filled (chooses (picks {xs = xs} s q e v c g ps)) = filled_front xs _ (filled s)
filled (ranges {xs = xs} low dots e high) = filled_front xs _ (integer_filled low)
filled (prefixes (sign_then x e more) s) = tt
filled (selects {xs = xs} s o a c b d e1 e2 e3 e4 e5) = filled_front xs _ (filled s)
filled (is_true x e) = tt
filled (is_false x e) = tt
filled (numbers x e) = tt
filled (literals x e) = tt
filled (names path) = path_filled path
filled (brackets o e s c f) = tt
filled (nexts x e o f s c g) = tt
filled (calls x e o f s) = tt
filled (sets o e s) = tt
filled (switches x e s) = tt

start_at : (xs ys : List Token) → Filled xs → start (xs ++ ys) ≡ start xs
start_at [] ys f = absurd f
start_at (x ∷ xs) ys f = refl

pub start_front : {ls : List Level} {t : Tree} {xs : List Token} → Spells ls t xs → (ys : List Token) → start (xs ++ ys) ≡ start xs
start_front {xs = xs} s ys = start_at xs ys (filled s)

abbrev pub Opens : ℕ → List Token → Type 0
Opens n [] = ⊥
Opens n (x ∷ xs) = (n ≤ 1 → is_sign sign.Not x.kind ≡ false) × (n ≤ 3 → is_sign sign.Minus x.kind ≡ false) × (is_word word.Esac x.kind ≡ false)

opens_front : (n : ℕ) (xs ys : List Token) → Opens n xs → Opens n (xs ++ ys)
opens_front n [] ys o = absurd o
opens_front n (x ∷ xs) ys o = o

opens_over : (n : ℕ) (xs : List Token) → Opens n xs → Opens (suc n) xs
opens_over n [] o = absurd o
opens_over n (x ∷ xs) o = (λ h. o.0 (omega arith), λ h. o.1 (omega arith), o.2)

opens_kind : (n : ℕ) (x : Token) (z : TokenKind) → x.kind ≡ z → is_sign sign.Not z ≡ false → is_sign sign.Minus z ≡ false → is_word word.Esac z ≡ false → Opens n (x ∷ [])
opens_kind n x z e a b c = (λ _. of_kind x z sign.Not e a, λ _. of_kind x z sign.Minus e b, no_word x z e c)

opens_high : (n : ℕ) (x : Token) (z : TokenKind) → 3 < n → x.kind ≡ z → is_word word.Esac z ≡ false → Opens n (x ∷ [])
opens_high n x z h e c = (λ a. absurd (omega arith), λ a. absurd (omega arith), no_word x z e c)

pub opens : {ls : List Level} {t : Tree} {xs : List Token} → Spells ls t xs → (n : ℕ) → n ≤ 16 → ls ≡ tightest n → Opens n xs
opens (pass s) zero few is = cc
opens (pass {level = l} {below = b} {xs = xs} s) (suc m) few is = opens_over m xs (opens s m (omega arith) (below_is l b m is))
opens (chains s more) zero few is = cc
opens (chains {j = j} {below = b} {xs = xs} {ys = ys} s more) (suc m) few is = opens_over m (xs ++ ys) (opens_front m xs ys (opens s m (omega arith) (below_is (Chain j) b m is)))
opens (chooses ps) zero few is = cc
opens (chooses {below = b} (picks {xs = xs} {ys = ys} s q e v c g ps)) (suc m) few is = opens_over m (xs ++ _) (opens_front m xs _ (opens s m (omega arith) (below_is Choice b m is)))
opens (ranges low dots e high) zero few is = cc
opens (ranges {below = b} (unsigned x f) dots e high) (suc m) few is = let r = rank_is Range b m few is in opens_high (suc m) x _ (omega arith) f refl
opens (ranges {below = b} (negative y x f g) dots e high) (suc m) few is = let r = rank_is Range b m few is in opens_high (suc m) y _ (omega arith) f refl
opens (prefixes s t) zero few is = cc
opens (prefixes {pre = prefix.Not} {below = b} (sign_then x e more) s) (suc m) few is =
    let r = rank_is (Before prefix.Not) b m few is in (λ h. absurd (omega arith), λ h. of_kind x (kind.Sign sign.Not) sign.Minus e refl, no_word x (kind.Sign sign.Not) e refl)
opens (prefixes {pre = prefix.Minus} {below = b} (sign_then x e more) s) (suc m) few is =
    let r = rank_is (Before prefix.Minus) b m few is in opens_high (suc m) x (kind.Sign sign.Minus) (omega arith) e refl
opens (selects {xs = xs} s o a c b d e1 e2 e3 e4 e5) n few is = opens_front n xs _ (opens s n few is)
opens (is_true x e) n few is = opens_kind n x _ e refl refl refl
opens (is_false x e) n few is = opens_kind n x _ e refl refl refl
opens (numbers x e) n few is = opens_kind n x _ e refl refl refl
opens (literals x e) n few is = opens_kind n x _ e refl refl refl
opens (names (from_name x e s)) n few is = opens_kind n x _ e refl refl refl
opens (names (from_itself x e s)) n few is = opens_kind n x _ e refl refl refl
opens (brackets o e s c f) n few is = opens_kind n o _ e refl refl refl
opens (nexts x e o f s c g) n few is = opens_kind n x _ e refl refl refl
opens (calls {f = f} x e o g s) n few is = (λ _. function_sign x.kind f sign.Not e, λ _. function_sign x.kind f sign.Minus e, function_word x.kind f e)
opens (sets o e s) n few is = opens_kind n o _ e refl refl refl
opens (switches x e s) n few is = opens_kind n x _ e refl refl refl

-- no integer with a range behind it
lone : (x : Token) (xs : List Token) (z : TokenKind) → x.kind ≡ z → dots_behind (integer_at z xs) ≡ false → starts_range (x ∷ xs) ≡ false
lone x xs z e f = ap (λ v. dots_behind (integer_at v xs)) e ∙ f

number_only : (xs : List Token) → starts_range xs ≡ false → dots_behind (first_number xs) ≡ false
number_only [] e = refl
number_only (x ∷ xs) e = by x.kind e
  where
    by : (z : TokenKind) → dots_behind (integer_at z xs) ≡ false → dots_behind (number_at z xs) ≡ false
    by (kind.Number n) e = e
    by (kind.Ident n) e = refl
    by _ e = refl

signs_unranged : (n : ℕ) (pre : Prefix) (zs ys : List Token) (xs : List Token) → Signs pre (suc n) xs → starts_range (zs ++ ys) ≡ false → starts_range ((xs ++ zs) ++ ys) ≡ false
signs_unranged n prefix.Not zs ys xs (sign_then x e more) h = lone x _ (kind.Sign sign.Not) e refl
signs_unranged n prefix.Minus zs ys xs (sign_then x e no_signs) h = lone x (zs ++ ys) (kind.Sign sign.Minus) e (dots_negated (first_number (zs ++ ys)) ∙ number_only (zs ++ ys) h)
signs_unranged n prefix.Minus zs ys xs (sign_then x e (sign_then {xs = ws} y f more)) h =
    lone x (y ∷ ((ws ++ zs) ++ ys)) (kind.Sign sign.Minus) e (dots_negated (first_number (y ∷ ((ws ++ zs) ++ ys))) ∙ ap (λ v. dots_behind (number_at v ((ws ++ zs) ++ ys))) f)

pub unranged : {ls : List Level} {t : Tree} {xs : List Token} → Spells ls t xs → (n : ℕ) → n ≤ 7 → ls ≡ tightest n → (ys : List Token) → starts_with_dots ys ≡ false → starts_range (xs ++ ys) ≡ false
unranged (pass s) zero few is ys h = cc
unranged (pass {level = l} {below = b} s) (suc m) few is ys h = unranged s m (omega arith) (below_is l b m is) ys h
unranged (chains s more) zero few is ys h = cc
unranged (chains {j = j} {below = b} {xs = xs} s (one_more {op = op} {xs = vs} {ys = ws} x e t more)) (suc m) few is ys h =
    ap starts_range (append_assoc xs (x ∷ (vs ++ ws)) ys) ∙ unranged s m (omega arith) (below_is (Chain j) b m is) (x ∷ ((vs ++ ws) ++ ys)) (operator_dots j x.kind op e)
unranged (chooses ps) zero few is ys h = cc
unranged (chooses {below = b} (picks {xs = xs} {ys = vs} {zs = zs} s q e v c g ps)) (suc m) few is ys h =
    ap starts_range (append_assoc xs (q ∷ (vs ++ c ∷ zs)) ys) ∙ unranged s m (omega arith) (below_is Choice b m is) (q ∷ ((vs ++ c ∷ zs) ++ ys)) (of_kind q _ sign.Range e refl)
unranged (ranges low dots e high) zero few is ys h = cc
unranged (ranges {below = b} low dots e high) (suc m) few is ys h = let r = rank_is Range b m (omega arith) is in absurd (omega arith)
unranged (prefixes more s) zero few is ys h = cc
unranged (prefixes {pre = pre} {below = b} {n = n} {xs = xs} {ys = zs} more s) (suc m) few is ys h = signs_unranged n pre zs ys xs more (unranged s m (omega arith) (below_is (Before pre) b m is) ys h)
unranged (selects {xs = xs} s o a c b d e1 e2 e3 e4 e5) n few is ys h =
    ap starts_range (append_assoc xs (o ∷ a ∷ c ∷ b ∷ d ∷ []) ys) ∙ unranged s n few is (o ∷ a ∷ c ∷ b ∷ d ∷ ys) (of_kind o _ sign.Range e1 refl)
unranged (is_true x e) n few is ys h = lone x ys _ e refl
unranged (is_false x e) n few is ys h = lone x ys _ e refl
unranged (numbers x e) n few is ys h = lone x ys _ e h
unranged (literals x e) n few is ys h = lone x ys _ e refl
unranged (names (from_name x e s)) n few is ys h = lone x _ _ e refl
unranged (names (from_itself x e s)) n few is ys h = lone x _ _ e refl
unranged (brackets o e s c f) n few is ys h = lone o _ _ e refl
unranged (nexts x e o f s c g) n few is ys h = lone x _ _ e refl
unranged (calls {f = f} x e o g s) n few is ys h = function_integer x.kind f _ e
unranged (sets o e s) n few is ys h = lone o _ _ e refl
unranged (switches x e s) n few is ys h = lone x _ _ e refl

-- what stops
stops_dots : (n : ℕ) (ys : List Token) → Stops n ys → starts_with_dots ys ≡ false
stops_dots n [] h = refl
stops_dots n (y ∷ ys) h = not_sign sign.Range y.kind (λ same. let none : rank_of y.kind ≡ 0 = same in omega arith)

stops_dot : (n : ℕ) (ys : List Token) → Stops n ys → after sign.Dot ys ≡ None
stops_dot n ys h = none_after sign.Dot ys (λ same. let none : first_rank ys ≡ 0 = same in omega arith)

stops_at : (n : ℕ) (x : Token) (z : TokenKind) → x.kind ≡ z → n < rank_of z → Stops n (x ∷ [])
stops_at n x z e h = let r = ap rank_of e in omega arith

-- integers and paths
integer_first : {z : ℤ} {xs : List Token} → SpellsInteger z xs → (r : List Token) → first_integer (xs ++ r) ≡ found z r
integer_first (unsigned x e) r = ap (λ v. integer_at v r) e
integer_first (negative m x e f) r = ap (λ v. integer_at v (x ∷ r)) e ∙ ap (λ v. negated (number_at v r)) f

steps_first : {ns : List (List ℕ)} {xs : List Token} → SpellsSteps ns xs → (path : Path) (ys : List Token) → after sign.Dot ys ≡ None
    → path_on path (xs ++ ys) ≡ found (record { from_self = path.from_self; names = path.names ++ ns; place = path.place }) ys
steps_first no_steps path ys h = path_on-ends path ys h ∙ ap (λ ns. found (record { from_self = path.from_self; names = ns; place = path.place }) ys) (sym (append-nil path.names))
steps_first (step {n = n} {ns = ns} {xs = xs} dot x e f s) path ys h =
    path_on-step path (dot ∷ x ∷ (xs ++ ys)) (x ∷ (xs ++ ys)) (xs ++ ys) n (found_after sign.Dot dot _ e refl) (ap (λ v. name_at v (xs ++ ys)) f)
    ∙ steps_first s (longer path n) ys h ∙ ap (λ ms. found (record { from_self = path.from_self; names = ms; place = path.place }) ys) (append_assoc path.names (n ∷ []) ns)

-- all prefix signs
signs_go : {pre : Prefix} {m : ℕ} {xs : List Token} → Signs pre m xs → (n : ℕ) (below : List Level) (p : Place) (k : List Frame) (rest : List Token)
    → walk (xs ++ rest) (signed pre below p n k) ≡ walk rest (signed pre below p (m + n) k)
signs_go {pre = pre} no_signs n below p k rest = ap (λ i. walk rest (signed pre below p i k)) (omega arith)
signs_go {pre = pre} (sign_then {n = m} {xs = xs} x e s) n below p k rest =
    signed_goes k (x ∷ (xs ++ rest)) (xs ++ rest) pre below p n (found_prefix pre x (xs ++ rest) e) ∙ signs_go s (suc n) below p k rest ∙ ap (λ i. walk rest (signed pre below p i k)) (omega arith)
  where
    found_prefix : (q : Prefix) (y : Token) (ys : List Token) → y.kind ≡ prefix_kind q → after (prefix_sign q) (y ∷ ys) ≡ Some ys
    found_prefix prefix.Not y ys e = found_after sign.Not y ys e refl
    found_prefix prefix.Minus y ys e = found_after sign.Minus y ys e refl

prefix_test : (pre : Prefix) (x : Token) → x.kind ≡ prefix_kind pre → is_prefix pre x.kind ≡ true
prefix_test prefix.Not x e = sign_test x sign.Not e refl
prefix_test prefix.Minus x e = sign_test x sign.Minus e refl

no_prefix : (pre : Prefix) (m : ℕ) (xs ys : List Token) → Opens m xs → level_rank (Before pre) ≡ suc m → after (prefix_sign pre) (xs ++ ys) ≡ None
no_prefix pre m [] ys o r = absurd o
no_prefix prefix.Not m (x ∷ xs) ys o r = not_after sign.Not x (xs ++ ys) (o.0 (omega arith))
no_prefix prefix.Minus m (x ∷ xs) ys o r = not_after sign.Minus x (xs ++ ys) (o.1 (omega arith))

no_esac : (n : ℕ) (xs ys : List Token) → Opens n xs → after_word word.Esac (xs ++ ys) ≡ None
no_esac n [] ys o = absurd o
no_esac n (x ∷ xs) ys o = ap (λ b. cond b (Some (xs ++ ys)) None) o.2

plain_at : (m : ℕ) (xs ys : List Token) → Opens m xs → (m ≤ 7 → starts_range (xs ++ ys) ≡ false) → IsPlain m (suc m) (xs ++ ys)
plain_at m [] ys o r = absurd o
plain_at m (x ∷ xs) ys o r = record { no_not = λ a b. not_after sign.Not x (xs ++ ys) (o.0 a); no_minus = λ a b. not_after sign.Minus x (xs ++ ys) (o.1 a); no_range = λ a b. r a }

-- a selection
selection_steps : (k : List Frame) (p : Place) (t : Tree) (high low : ℕ) (o a c b d : Token) (ys : List Token)
    → o.kind ≡ kind.Sign sign.OpenBracket → a.kind ≡ kind.Number high → c.kind ≡ kind.Sign sign.Colon → b.kind ≡ kind.Number low → d.kind ≡ kind.Sign sign.CloseBracket
    → walk (o ∷ a ∷ c ∷ b ∷ d ∷ ys) (have t (selected p ∷ k)) ≡ walk ys (have (select p t high low) (selected p ∷ k))
selection_steps k p t high low o a c b d ys e1 e2 e3 e4 e5 =
    selected_goes k t (o ∷ a ∷ c ∷ b ∷ d ∷ ys) (a ∷ c ∷ b ∷ d ∷ ys) p (found_after sign.OpenBracket o _ e1 refl)
    ∙ high_end_goes k (a ∷ c ∷ b ∷ d ∷ ys) (c ∷ b ∷ d ∷ ys) p t high (ap (λ v. number_at v (c ∷ b ∷ d ∷ ys)) e2)
    ∙ high_colon_goes k (c ∷ b ∷ d ∷ ys) (b ∷ d ∷ ys) p t high (found_after sign.Colon c _ e3 refl)
    ∙ low_end_goes k (b ∷ d ∷ ys) (d ∷ ys) p t high low (ap (λ v. number_at v (d ∷ ys)) e4)
    ∙ low_close_goes k (d ∷ ys) ys p t high low (found_after sign.CloseBracket d _ e5 refl)

-- what closes a list
closing_ranks : (what : Listing) → 16 < rank_of (kind.Sign (closing_of what))
closing_ranks (Arguments f) = omega arith
closing_ranks Elements = omega arith

closing_comma : (what : Listing) → is_sign sign.Comma (kind.Sign (closing_of what)) ≡ false
closing_comma (Arguments f) = refl
closing_comma Elements = refl

closing_itself : (what : Listing) → is_sign (closing_of what) (kind.Sign (closing_of what)) ≡ true
closing_itself (Arguments f) = refl
closing_itself Elements = refl

call_leader : (z : TokenKind) (f : Function) → function_at z ≡ Some f → leader.Call f ≡ leader_of z
call_leader (kind.Reserved word.True) f e = cc
call_leader (kind.Reserved word.False) f e = cc
call_leader (kind.Reserved word.Itself) f e = cc
call_leader (kind.Reserved word.Next) f e = cc
call_leader (kind.Reserved word.Case) f e = cc
call_leader (kind.Reserved _) f e = sym (ap calling e)
call_leader (kind.Sign s) f e = cc
call_leader _ f e = cc

cases_open : {bs : Branches} {xs : List Token} → SpellsCases bs xs → (ys : List Token) → after_word word.Esac (xs ++ ys) ≡ None
cases_open (last_case {xs = xs} {ys = vs} s c e d m f z g) ys = no_esac 16 (xs ++ c ∷ (vs ++ m ∷ z ∷ [])) ys (opens_front 16 xs _ (opens s 16 (omega arith) refl))
cases_open (case_before {xs = xs} {ys = vs} {zs = zs} s c e d m f others) ys = no_esac 16 (xs ++ c ∷ (vs ++ m ∷ zs)) ys (opens_front 16 xs _ (opens s 16 (omega arith) refl))

mutual
  pub comes : {ls : List Level} {t : Tree} {xs : List Token} → Spells ls t xs → (n : ℕ) → n ≤ 16 → ls ≡ tightest n → (k : List Frame) (ys : List Token) → Stops n ys → walk (xs ++ ys) (ask ls k) ≡ walk ys (have t k)
  comes (pass s) zero few is k ys stops = cc
  comes (pass {level = l} {below = b} {t = t} {xs = xs} s) (suc m) few is k ys stops =
      let same = below_is l b m is in
      ap (λ ls. walk (xs ++ ys) (ask ls k)) is
      ∙ passes m (omega arith) (xs ++ ys) k (plain_at m xs ys (opens s m (omega arith) same) (λ h. unranged s m h same ys (stops_dots (suc m) ys stops)))
      ∙ ap (λ ls. walk (xs ++ ys) (ask ls (opened (level_at m) (tightest m) (start (xs ++ ys)) k))) (sym same)
      ∙ comes s m (omega arith) same _ ys (omega arith)
      ∙ opened_leaves (level_at m) (tightest m) (start (xs ++ ys)) k t ys (λ other. let r = rank_at m (omega arith) in omega arith)
  comes (chains s more) zero few is k ys stops = cc
  comes (chains {j = j} {below = b} {t = t} {xs = xs} {ys = zs} s more) (suc m) few is k ys stops =
      let same = below_is (Chain j) b m is in
      let r = rank_is (Chain j) b m few is in
      ap (λ l. walk l (ask (Chain j ∷ b) k)) (append_assoc xs zs ys)
      ∙ chain_begins j b k (xs ++ (zs ++ ys))
      ∙ ap (λ p. walk (xs ++ (zs ++ ys)) (ask b (operand j b p bare ∷ k))) (start_front s (zs ++ ys))
      ∙ comes s m (omega arith) same _ (zs ++ ys) (links_stop more m r ys stops)
      ∙ operand_goes k b j (start xs) bare t (zs ++ ys)
      ∙ links_go more m (omega arith) r same k (start xs) (record { first = t; links = [] }) ys stops
  comes (chooses ps) zero few is k ys stops = cc
  comes (chooses {below = b} {xs = xs} ps) (suc m) few is k ys stops =
      choice_begins b k (xs ++ ys) ∙ ap (λ p. walk (xs ++ ys) (ask b (when b p [] ∷ k))) (start_front (chooses ps) ys)
      ∙ branches_go ps m (omega arith) (rank_is Choice b m few is) (below_is Choice b m is) k (start xs) [] ys stops
  comes (ranges low dots e high) zero few is k ys stops = cc
  comes (ranges {below = b} {low = low} {high = high} {xs = xs} {ys = zs} l dots e h) (suc m) few is k ys stops =
      let seven : suc m ≡ 8 = sym (rank_is Range b m few is) in
      ap (λ ls. walk ((xs ++ dots ∷ zs) ++ ys) (ask ls k)) (is ∙ ap tightest seven)
      ∙ ap (λ v. walk v (ask (tightest 8) k)) (append_assoc xs (dots ∷ zs) ys)
      ∙ range_goes k (xs ++ dots ∷ (zs ++ ys)) (dots ∷ (zs ++ ys)) (zs ++ ys) low (integer_first l (dots ∷ (zs ++ ys))) (found_after sign.Range dots _ e refl)
      ∙ upto_goes k (zs ++ ys) ys _ low high (integer_first h ys)
      ∙ ap (λ p. walk ys (have (range p low high) k)) (start_at xs (dots ∷ (zs ++ ys)) (integer_filled l))
  comes (prefixes more s) zero few is k ys stops = cc
  comes (prefixes {pre = pre} {below = b} {n = n} {t = t} {ys = zs} (sign_then {xs = ws} x e more) s) (suc m) few is k ys stops =
      let same = below_is (Before pre) b m is in
      prefix_begins pre b k x ((ws ++ zs) ++ ys) (prefix_test pre x e)
      ∙ ap (λ l. walk l (signed pre b x.place 1 k)) (append_assoc ws zs ys)
      ∙ signs_go more 1 b x.place k (zs ++ ys)
      ∙ ap (λ i. walk (zs ++ ys) (signed pre b x.place i k)) (let one : n + 1 ≡ suc n = omega arith in one)
      ∙ signed_ends k (zs ++ ys) pre b x.place (suc n) (no_prefix pre m zs ys (opens s m (omega arith) same) (rank_is (Before pre) b m few is))
      ∙ comes s m (omega arith) same _ ys (omega arith)
      ∙ signs_fold k t ys pre b x.place (suc n)
  comes (selects s o a c b d e1 e2 e3 e4 e5) zero few is k ys stops = cc
  comes (selects {below = below} {t = t} {high = high} {low = low} {xs = xs} s o a c b d e1 e2 e3 e4 e5) (suc m) few is k ys stops =
      let one : suc m ≡ 1 = sym (rank_is Selection below m few is) in
      ap (λ l. walk l (ask (Selection ∷ below) k)) (append_assoc xs (o ∷ a ∷ c ∷ b ∷ d ∷ []) ys)
      ∙ selects_go s (is ∙ ap tightest one) k (o ∷ a ∷ c ∷ b ∷ d ∷ ys) (stops_at 0 o _ e1 (omega arith))
      ∙ selection_steps k (start xs) t high low o a c b d ys e1 e2 e3 e4 e5
      ∙ selected_leaves k (select (start xs) t high low) ys (start xs) (none_after sign.OpenBracket ys (λ other. let none : first_rank ys ≡ 1 = other in omega arith))
      ∙ ap (λ p. walk ys (have (select p t high low) k)) refl
  comes (is_true x e) n few is k ys stops = leads_by k x ys (leader.Truth true) (sym (ap leader_of e))
  comes (is_false x e) n few is k ys stops = leads_by k x ys (leader.Truth false) (sym (ap leader_of e))
  comes (numbers {n = i} x e) n few is k ys stops = leads_by k x ys (leader.Number i) (sym (ap leader_of e))
  comes (literals {w = w} x e) n few is k ys stops = leads_by k x ys (leader.Literal w) (sym (ap leader_of e))
  comes (names (from_name {n = i} {ns = ns} {xs = xs} x e s)) n few is k ys stops =
      path_begins k x (xs ++ ys) (sym (ap leader_of e))
      ∙ ap (λ f. named_on f k) (ap (λ z. path_at z x.place (xs ++ ys)) e ∙ steps_first s (record { from_self = false; names = i ∷ []; place = x.place }) ys (stops_dot n ys stops))
  comes (names (from_itself {ns = ns} {xs = xs} x e s)) n few is k ys stops =
      path_begins k x (xs ++ ys) (sym (ap leader_of e))
      ∙ ap (λ f. named_on f k) (ap (λ z. path_at z x.place (xs ++ ys)) e ∙ steps_first s (record { from_self = true; names = []; place = x.place }) ys (stops_dot n ys stops))
  comes (brackets {t = t} {xs = xs} o e s c f) n few is k ys stops =
      leads_by k o ((xs ++ c ∷ []) ++ ys) leader.Bracket (sym (ap leader_of e))
      ∙ ap (λ l. walk l (ask all_levels (bracket ∷ k))) (append_assoc xs (c ∷ []) ys)
      ∙ comes s 16 (omega arith) refl _ (c ∷ ys) (stops_at 16 c _ f (omega arith))
      ∙ bracket_goes k t (c ∷ ys) ys (found_after sign.Close c ys f refl)
  comes (nexts {t = t} {xs = xs} x e o f s c g) n few is k ys stops =
      leads_by k x (o ∷ ((xs ++ c ∷ []) ++ ys)) leader.Next (sym (ap leader_of e))
      ∙ open_next_goes k (o ∷ ((xs ++ c ∷ []) ++ ys)) ((xs ++ c ∷ []) ++ ys) x.place (found_after sign.Open o _ f refl)
      ∙ ap (λ l. walk l (ask all_levels (following x.place ∷ k))) (append_assoc xs (c ∷ []) ys)
      ∙ comes s 16 (omega arith) refl _ (c ∷ ys) (stops_at 16 c _ g (omega arith))
      ∙ following_goes k t (c ∷ ys) ys x.place (found_after sign.Close c ys g refl)
  comes (calls {f = f} {ts = ts} {xs = xs} x e o g s) n few is k ys stops =
      leads_by k x (o ∷ (xs ++ ys)) (leader.Call f) (call_leader x.kind f e)
      ∙ open_call_goes k (o ∷ (xs ++ ys)) (xs ++ ys) x.place f (found_after sign.Open o _ g refl)
      ∙ listed_go s (Arguments f) refl k x.place [] ys
  comes (sets {ts = ts} {xs = xs} o e s) n few is k ys stops =
      leads_by k o (xs ++ ys) leader.Set (sym (ap leader_of e)) ∙ listed_go s Elements refl k o.place [] ys
  comes (switches {xs = xs} x e s) n few is k ys stops =
      leads_by k x (xs ++ ys) leader.Case (sym (ap leader_of e)) ∙ cases_go s k x.place [] ys

  selects_go : {ls : List Level} {t : Tree} {xs : List Token} → Spells ls t xs → ls ≡ tightest 1 → (k : List Frame) (ys : List Token) → Stops 0 ys → walk (xs ++ ys) (ask ls k) ≡ walk ys (have t (selected (start xs) ∷ k))
  selects_go (pass {level = l} {below = b} {t = t} {xs = xs} s) is k ys stops =
      let e : ◌≡◌ {A = List Level} (l ∷ b) (Selection ∷ []) = is in
      ap (λ ls. walk (xs ++ ys) (ask ls k)) e ∙ selection_begins [] k (xs ++ ys) ∙ ap (λ p. walk (xs ++ ys) (ask [] (selected p ∷ k))) (start_front s ys)
      ∙ ap (λ ls. walk (xs ++ ys) (ask ls (selected (start xs) ∷ k))) (sym (tail_is e)) ∙ comes s 0 (omega arith) (tail_is e) _ ys stops
  selects_go (selects {below = below} {t = t} {high = high} {low = low} {xs = xs} s o a c b d e1 e2 e3 e4 e5) is k ys stops =
      ap (λ l. walk l (ask (Selection ∷ below) k)) (append_assoc xs (o ∷ a ∷ c ∷ b ∷ d ∷ []) ys)
      ∙ selects_go s is k (o ∷ a ∷ c ∷ b ∷ d ∷ ys) (stops_at 0 o _ e1 (omega arith))
      ∙ selection_steps k (start xs) t high low o a c b d ys e1 e2 e3 e4 e5
      ∙ ap (λ p. walk ys (have (select (start xs) t high low) (selected p ∷ k))) (sym (start_front s (o ∷ a ∷ c ∷ b ∷ d ∷ [])))
  selects_go (chains s more) is k ys stops = cc
  selects_go (chooses ps) is k ys stops = cc
  selects_go (ranges low dots e high) is k ys stops = cc
  selects_go (prefixes more s) is k ys stops = cc
  selects_go (is_true x e) is k ys stops = cc
  selects_go (is_false x e) is k ys stops = cc
  selects_go (numbers x e) is k ys stops = cc
  selects_go (literals x e) is k ys stops = cc
  selects_go (names path) is k ys stops = cc
  selects_go (brackets o e s c f) is k ys stops = cc
  selects_go (nexts x e o f s c g) is k ys stops = cc
  selects_go (calls x e o f s) is k ys stops = cc
  selects_go (sets o e s) is k ys stops = cc
  selects_go (switches x e s) is k ys stops = cc

  links_stop : {j : OperatorClass} {below : List Level} {links : Links} {xs : List Token} → SpellsLinks j below links xs → (m : ℕ) → class_rank j ≡ suc m → (ys : List Token) → Stops (suc m) ys → Stops m (xs ++ ys)
  links_stop no_more m r ys stops = omega arith
  links_stop (one_more {j = j} {op = op} x e s more) m r ys stops = let same = class_ranks j x.kind op e in omega arith

  links_go : {j : OperatorClass} {below : List Level} {links : Links} {xs : List Token} → SpellsLinks j below links xs → (m : ℕ) → m ≤ 16 → class_rank j ≡ suc m → below ≡ tightest m → (k : List Frame) (p : Place) (c : Chained) (ys : List Token)
      → Stops (suc m) ys → chained j below p c k (xs ++ ys) ≡ walk ys (have (chain_at p c.first (links_onto c.links links)) k)
  links_go (no_more {j = j} {below = below}) m few r same k p c ys stops =
      ap (chain_goes j below p c k ys) (none_joined j ys (λ other. omega arith)) ∙ ap (λ ls. walk ys (have (chain_at p c.first ls) k)) (links_all c.links)
  links_go (one_more {j = j} {below = below} {op = op} {t = t} {links = links} {xs = xs} {ys = zs} x e s more) m few r same k p c ys stops =
      ap (λ o. chain_goes j below p c k (x ∷ ((xs ++ zs) ++ ys)) (option_map (λ i. (i, (xs ++ zs) ++ ys)) o)) e
      ∙ ap (λ l. walk l (ask below (operand j below p (joined c op) ∷ k))) (append_assoc xs zs ys)
      ∙ comes s m few same _ (zs ++ ys) (links_stop more m r ys stops)
      ∙ operand_goes k below j p (joined c op) t (zs ++ ys)
      ∙ links_go more m few r same k p (taken (joined c op) t) ys stops
      ∙ ap (λ ls. walk ys (have (chain_at p c.first ls) k)) (links_push c.links op t links)

  branches_go : {below : List Level} {bs : Branches} {t : Tree} {xs : List Token} → SpellsBranches below bs t xs → (m : ℕ) → m ≤ 16 → 14 ≡ suc m → below ≡ tightest m → (k : List Frame) (p : Place) (all : List (Tree × Tree)) (ys : List Token)
      → Stops (suc m) ys → walk (xs ++ ys) (ask below (when below p all ∷ k)) ≡ walk ys (have (choice_at p (branches_onto all bs) t) k)
  branches_go (otherwise {below = below} {t = t} {xs = xs} s) m few r same k p all ys stops =
      comes s m few same _ ys (omega arith) ∙ when_leaves k t ys below p all (none_after sign.Question ys (λ other. let q : first_rank ys ≡ 14 = other in omega arith))
      ∙ ap (λ bs. walk ys (have (choice_at p bs t) k)) (branches_all all)
  branches_go (picks {below = below} {w = w} {v = v} {t = t} {bs = bs} {xs = xs} {ys = vs} {zs = zs} s q e d c g ps) m few r same k p all ys stops =
      ap (λ l. walk l (ask below (when below p all ∷ k))) (append_assoc xs (q ∷ (vs ++ c ∷ zs)) ys)
      ∙ comes s m few same _ (q ∷ ((vs ++ c ∷ zs) ++ ys)) (stops_at m q _ e (omega arith))
      ∙ when_goes k w (q ∷ ((vs ++ c ∷ zs) ++ ys)) ((vs ++ c ∷ zs) ++ ys) below p all (found_after sign.Question q _ e refl)
      ∙ ap (λ l. walk l (ask below (value below p all w ∷ k))) (append_assoc vs (c ∷ zs) ys)
      ∙ comes d m few same _ (c ∷ (zs ++ ys)) (stops_at m c _ g (omega arith))
      ∙ value_goes k v (c ∷ (zs ++ ys)) (zs ++ ys) below p all w (found_after sign.Colon c _ g refl)
      ∙ branches_go ps m few r same k p (all ++ (w, v) ∷ []) ys stops
      ∙ ap (λ bs. walk ys (have (choice_at p bs t) k)) (branches_push all w v bs)

  listed_go : {s : Sign} {ts : Trees} {xs : List Token} → SpellsListed s ts xs → (what : Listing) → s ≡ closing_of what → (k : List Frame) (p : Place) (all : List Tree) (ys : List Token)
      → walk (xs ++ ys) (ask all_levels (listing p what all ∷ k)) ≡ walk ys (have (made p what (trees_onto all ts)) k)
  listed_go (last_one {s = z} {t = t} {xs = xs} s c e) what same k p all ys =
      let closing : c.kind ≡ kind.Sign (closing_of what) = e ∙ ap kind.Sign same in
      ap (λ l. walk l (ask all_levels (listing p what all ∷ k))) (append_assoc xs (c ∷ []) ys)
      ∙ comes s 16 (omega arith) refl _ (c ∷ ys) (stops_at 16 c _ closing (closing_ranks what))
      ∙ listing_ends k t (c ∷ ys) ys p what all (not_after sign.Comma c ys (of_kind c _ sign.Comma closing (closing_comma what))) (found_after (closing_of what) c ys closing (closing_itself what))
      ∙ ap (λ u. walk ys (have u k)) (listed_made p what (all ++ t ∷ []) ∙ ap (made p what) (trees_all (all ++ t ∷ []) ∙ trees_push all t no_trees))
  listed_go (one_before {t = t} {u = u} {ts = ts} {xs = xs} {ys = zs} s c e others) what same k p all ys =
      ap (λ l. walk l (ask all_levels (listing p what all ∷ k))) (append_assoc xs (c ∷ zs) ys)
      ∙ comes s 16 (omega arith) refl _ (c ∷ (zs ++ ys)) (stops_at 16 c _ e (omega arith))
      ∙ listing_goes k t (c ∷ (zs ++ ys)) (zs ++ ys) p what all (found_after sign.Comma c _ e refl)
      ∙ listed_go others what same k p (all ++ t ∷ []) ys
      ∙ ap (λ us. walk ys (have (made p what us) k)) (trees_push all t (tree u ts))

  cases_go : {bs : Branches} {xs : List Token} → SpellsCases bs xs → (k : List Frame) (p : Place) (all : List (Tree × Tree)) (ys : List Token)
      → walk (xs ++ ys) (ask all_levels (condition p all ∷ k)) ≡ walk ys (have (cases p (branches_onto all bs)) k)
  cases_go (last_case {w = w} {v = v} {xs = xs} {ys = vs} s c e d m f z g) k p all ys =
      ap (λ l. walk l (ask all_levels (condition p all ∷ k))) (append_assoc xs (c ∷ (vs ++ m ∷ z ∷ [])) ys)
      ∙ comes s 16 (omega arith) refl _ (c ∷ ((vs ++ m ∷ z ∷ []) ++ ys)) (stops_at 16 c _ e (omega arith))
      ∙ condition_goes k w (c ∷ ((vs ++ m ∷ z ∷ []) ++ ys)) ((vs ++ m ∷ z ∷ []) ++ ys) p all (found_after sign.Colon c _ e refl)
      ∙ ap (λ l. walk l (ask all_levels (result p all w ∷ k))) (append_assoc vs (m ∷ z ∷ []) ys)
      ∙ comes d 16 (omega arith) refl _ (m ∷ z ∷ ys) (stops_at 16 m _ f (omega arith))
      ∙ result_goes k v (m ∷ z ∷ ys) (z ∷ ys) p all w (found_after sign.Semicolon m _ f refl)
      ∙ case_ends k (z ∷ ys) ys p (all ++ (w, v) ∷ []) (ap (λ b. cond b (Some ys) None) (ap (is_word word.Esac) g))
      ∙ ap (λ bs. walk ys (have (cases p bs) k)) (branches_all (all ++ (w, v) ∷ []) ∙ branches_push all w v no_branches)
  cases_go (case_before {w = w} {v = v} {a = a} {b = b} {bs = bs} {xs = xs} {ys = vs} {zs = zs} s c e d m f others) k p all ys =
      ap (λ l. walk l (ask all_levels (condition p all ∷ k))) (append_assoc xs (c ∷ (vs ++ m ∷ zs)) ys)
      ∙ comes s 16 (omega arith) refl _ (c ∷ ((vs ++ m ∷ zs) ++ ys)) (stops_at 16 c _ e (omega arith))
      ∙ condition_goes k w (c ∷ ((vs ++ m ∷ zs) ++ ys)) ((vs ++ m ∷ zs) ++ ys) p all (found_after sign.Colon c _ e refl)
      ∙ ap (λ l. walk l (ask all_levels (result p all w ∷ k))) (append_assoc vs (m ∷ zs) ys)
      ∙ comes d 16 (omega arith) refl _ (m ∷ (zs ++ ys)) (stops_at 16 m _ f (omega arith))
      ∙ result_goes k v (m ∷ (zs ++ ys)) (zs ++ ys) p all w (found_after sign.Semicolon m _ f refl)
      ∙ case_more k (zs ++ ys) p (all ++ (w, v) ∷ []) (cases_open others ys)
      ∙ cases_go others k p (all ++ (w, v) ∷ []) ys
      ∙ ap (λ bs. walk ys (have (cases p bs) k)) (branches_push all w v (branch a b bs))
