-- What is printed for a model nests no deeper than what spelled it, and its tokens can be printed.
use Rattle.std.proofs.Common.{◌≡◌, ◌≤◌, ◌<◌, ◌+◌, ℕ, zero, suc, ℤ, pos, negsuc, ◌-ℤ◌, Bool, true, false, cond, nat_le, Some, List, [], ◌∷◌, ◌++◌, map, drop, length, refl, sym, ap, ◌∙◌, subst, append_assoc, arith, inl, inr}
use Rattle.std.proofs.lemmas.Bool.Decides.{nat_tests}
use Rattle.std.proofs.lemmas.Int.{ints}
use Rattle.word_core.specs.Words.{BitVector}
use Rattle.smv_text.specs.declared.token.Token.{Token}
use Rattle.smv_text.specs.declared.token.Reserved.TheVariants as word
use Rattle.smv_text.specs.declared.token.Sign.{Sign}
use Rattle.smv_text.specs.declared.token.Sign.TheVariants as sign
use Rattle.smv_text.specs.declared.token.TokenKind.{TokenKind}
use Rattle.smv_text.specs.declared.token.TokenKind.TheVariants as kind
use Rattle.smv_text.specs.declared.tree.Path.{Path}
use Rattle.smv_text.specs.declared.operators.Prefix.{Prefix}
use Rattle.smv_text.specs.declared.operators.Prefix.TheVariants as pre_
use Rattle.smv_text.specs.declared.operators.Infix.{Infix}
use Rattle.smv_text.specs.declared.operators.Infix.TheVariants as op
use Rattle.smv_text.specs.declared.operators.Function.{Function}
use Rattle.smv_text.specs.declared.operators.Function.TheVariants as function
use Rattle.smv_text.specs.declared.level.OperatorClass.{OperatorClass}
use Rattle.smv_text.specs.declared.level.Level.{Level}
use Rattle.smv_text.specs.declared.level.Level.TheVariants.{Chain, Choice, Range, Before, Selection}
use Rattle.smv_text.specs.Lexing.{kinds, opened_by, most_brackets}
use Rattle.smv_text.specs.Levels.{all_levels, infix_of, prefix_kind, function_at, class_of, infix_at, of_class, infix_kind, function_word}
use Rattle.smv_text.specs.laws.Operators.{class_is, infix_is}
use Rattle.smv_text.specs.Tree.{Tree, truth, number, literal, name, prefix, chain, choice, cases, select, call, next, set, range, Links, link, Branches, no_branches, branch, Trees, tree}
use Rattle.smv_text.specs.Grammar.{Signs, no_signs, sign_then, SpellsInteger, unsigned, negative, SpellsSteps, no_steps, step, SpellsPath, from_name, from_itself, Spells, pass, chains, chooses, ranges, prefixes, selects, is_true, is_false, numbers, literals, names, brackets, nexts, calls, sets, switches, SpellsLinks, no_more, one_more, SpellsBranches, otherwise, picks, SpellsListed, last_one, one_before, SpellsCases, last_case, case_before}
use Rattle.smv_print.specs.Ranks.{rank, tree_rank, tightest}
use Rattle.smv_print.specs.Printing.{repeated, parted, ident, in_brackets, int_kinds, path_kinds, standing, tree_kinds, link_kinds, choice_kinds, case_kinds, argument_kinds}
use Rattle.smv_lex.specs.Printable.{IsPrintable, ArePrintable, CanBePrinted, CanAllBePrinted}

-- how many brackets stand open behind tokens of these kinds
abbrev pub open_behind : ℕ → List TokenKind → ℕ
open_behind n [] = n
open_behind n (k ∷ ks) = open_behind (opened_by n k) ks

pub open_append : (n : ℕ) (ks ls : List TokenKind) → open_behind n (ks ++ ls) ≡ open_behind (open_behind n ks) ls
open_append n [] ls = refl
open_append n (k ∷ ks) ls = open_append (opened_by n k) ks ls

-- the kinds can be printed where n brackets stand open, and wherever they stand as many stand open behind them
pub record Prints (n : ℕ) (ks : List TokenKind) : Type 0 where
  pub fine : ArePrintable n ks
  pub closed : (m : ℕ) → open_behind m ks ≡ m

pub printable_append : (n : ℕ) (ks ls : List TokenKind) → ArePrintable n ks → ArePrintable (open_behind n ks) ls → ArePrintable n (ks ++ ls)
printable_append n [] ls a b = b
printable_append n (k ∷ ks) ls a b = (a.0, a.1, printable_append (opened_by n k) ks ls a.2 b)

pub prints_none : (n : ℕ) → Prints n []
prints_none n = record { fine = tt; closed = λ m. refl }

pub prints_append : (n : ℕ) (ks ls : List TokenKind) → Prints n ks → Prints n ls → Prints n (ks ++ ls)
prints_append n ks ls a b = record {
  fine = printable_append n ks ls a.fine (subst (λ m. ArePrintable m ls) (sym (a.closed n)) b.fine);
  closed = λ m. open_append m ks ls ∙ ap (λ i. open_behind i ls) (a.closed m) ∙ b.closed m;
}

-- a token that is no bracket
pub IsPlain : TokenKind → Type 0
IsPlain k = (m : ℕ) → opened_by m k ≡ m

pub prints_one : (n : ℕ) (k : TokenKind) (ks : List TokenKind) → IsPlain k → n ≤ most_brackets → IsPrintable k → Prints n ks → Prints n (k ∷ ks)
unfolding IsPlain
prints_one n k ks e few p r = record {
  fine = (p, omega (arith, e n, few), subst (λ m. ArePrintable m ks) (sym (e n)) r.fine);
  closed = λ m. ap (λ i. open_behind i ks) (e m) ∙ r.closed m;
}

-- one that opens, and one that closes
pub Opens : TokenKind → Type 0
Opens k = (m : ℕ) → opened_by m k ≡ suc m

pub Closes : TokenKind → Type 0
Closes k = (m : ℕ) → opened_by (suc m) k ≡ m

pub prints_within : (n : ℕ) (o c : TokenKind) (ks : List TokenKind) → Opens o → Closes c → IsPrintable o → IsPrintable c → suc n ≤ most_brackets → Prints (suc n) ks → Prints n (o ∷ (ks ++ c ∷ []))
unfolding Opens Closes
prints_within n o c ks e f po pc few r =
    let back : ArePrintable (open_behind (suc n) ks) (c ∷ []) = subst (λ m. ArePrintable m (c ∷ [])) (sym (r.closed (suc n))) (pc, omega (arith, f n, few), tt) in
    record {
      fine = (po, omega (arith, e n, few), subst (λ m. ArePrintable m (ks ++ c ∷ [])) (sym (e n)) (printable_append (suc n) ks (c ∷ []) r.fine back));
      closed = λ m. ap (λ i. open_behind i (ks ++ c ∷ [])) (e m) ∙ open_append (suc m) ks (c ∷ []) ∙ ap (λ i. opened_by i c) (r.closed (suc m)) ∙ f m;
    }

-- where fewer brackets stand open before, fewer do behind
opened_more : (n m : ℕ) (k : TokenKind) → n ≤ m → opened_by n k ≤ opened_by m k
opened_more n m (kind.Reserved word.Case) le = omega (arith, le)
opened_more n m (kind.Reserved word.Esac) le = omega (arith, le)
opened_more n m (kind.Reserved _) le = le
opened_more n m kind.Refused le = le
opened_more n m (kind.Ident x) le = le
opened_more n m (kind.Number x) le = le
opened_more n m (kind.Literal x) le = le
opened_more n m (kind.Sign sign.Open) le = omega (arith, le)
opened_more n m (kind.Sign sign.OpenBrace) le = omega (arith, le)
opened_more n m (kind.Sign sign.OpenBracket) le = omega (arith, le)
opened_more n m (kind.Sign sign.Close) le = omega (arith, le)
opened_more n m (kind.Sign sign.CloseBrace) le = omega (arith, le)
opened_more n m (kind.Sign sign.CloseBracket) le = omega (arith, le)
opened_more n m (kind.Sign _) le = le

pub printable_less : (n m : ℕ) (ks : List TokenKind) → n ≤ m → ArePrintable m ks → ArePrintable n ks
printable_less n m [] le a = tt
printable_less n m (k ∷ ks) le a = (a.0, omega (arith, opened_more n m k le, a.1), printable_less (opened_by n k) (opened_by m k) ks (opened_more n m k le) a.2)

pub prints_less : (n : ℕ) (ks : List TokenKind) → Prints (suc n) ks → Prints n ks
prints_less n ks p = record { fine = printable_less n (suc n) ks (omega arith) p.fine; closed = p.closed }

-- tokens that can be printed, in parts
pub kinds_append : (xs ys : List Token) → kinds (xs ++ ys) ≡ kinds xs ++ kinds ys
kinds_append [] ys = refl
kinds_append (x ∷ xs) ys = ap (λ ks. x.kind ∷ ks) (kinds_append xs ys)

unfoldable pub CanPrint : ℕ → List Token → Type 0
CanPrint n xs = CanAllBePrinted n (kinds xs)

front_by : (n : ℕ) (ks ls : List TokenKind) → CanAllBePrinted n (ks ++ ls) → CanAllBePrinted n ks
front_by n [] ls c = tt
front_by n (k ∷ ks) ls c = (c.0, c.1, front_by (opened_by n k) ks ls c.2)

back_by : (n : ℕ) (ks ls : List TokenKind) → CanAllBePrinted n (ks ++ ls) → CanAllBePrinted (open_behind n ks) ls
back_by n [] ls c = c
back_by n (k ∷ ks) ls c = back_by (opened_by n k) ks ls c.2

pub front : (n : ℕ) (xs ys : List Token) → CanPrint n (xs ++ ys) → CanPrint n xs
unfolding CanPrint
front n xs ys c = front_by n (kinds xs) (kinds ys) (subst (CanAllBePrinted n) (kinds_append xs ys) c)

pub back : (n m : ℕ) (xs ys : List Token) → open_behind n (kinds xs) ≡ m → CanPrint n (xs ++ ys) → CanPrint m ys
unfolding CanPrint
back n m xs ys e c = subst (λ i. CanAllBePrinted i (kinds ys)) e (back_by n (kinds xs) (kinds ys) (subst (CanAllBePrinted n) (kinds_append xs ys) c))

-- behind a first token of this kind
pub past : (n m : ℕ) (x : Token) (xs : List Token) (k : TokenKind) → x.kind ≡ k → opened_by n k ≡ m → CanPrint n (x ∷ xs) → CanPrint m xs
unfolding CanPrint
past n m x xs k is e c = subst (λ i. CanAllBePrinted i (kinds xs)) (ap (opened_by n) is ∙ e) c.2

-- where an opening bracket can be printed, one more can stand open
pub room : (n : ℕ) (x : Token) (xs : List Token) (k : TokenKind) → x.kind ≡ k → opened_by n k ≡ suc n → CanPrint n (x ∷ xs) → suc n ≤ most_brackets
unfolding CanPrint
room n x xs k is e c = let same : opened_by n x.kind ≡ suc n = ap (opened_by n) is ∙ e in omega (arith, same, c.1)

pub first_can : (n : ℕ) (x : Token) (xs : List Token) (k : TokenKind) → x.kind ≡ k → CanPrint n (x ∷ xs) → CanBePrinted k
unfolding CanPrint
first_can n x xs k is c = subst CanBePrinted is c.0

refused_not : {k : TokenKind} → (k ≡ kind.Refused → ⊥) → CanBePrinted k → IsPrintable k
refused_not other (inl e) = absurd (other e)
refused_not other (inr p) = p

pub number_fits : (n : ℕ) → CanBePrinted (kind.Number n) → IsPrintable (kind.Number n)
number_fits n c = refused_not {k = kind.Number n} (λ e. cc) c

pub literal_fits : (w : BitVector) → CanBePrinted (kind.Literal w) → IsPrintable (kind.Literal w)
literal_fits w c = refused_not {k = kind.Literal w} (λ e. cc) c

pub name_fits : (n : List ℕ) → CanBePrinted (kind.Ident n) → IsPrintable (kind.Ident n)
name_fits n c = refused_not {k = kind.Ident n} (λ e. cc) c

-- operators and functions are no brackets
plain_operator : (j : OperatorClass) (k : TokenKind) (o : Infix) → of_class j (infix_at k) ≡ Some o → (m : ℕ) → opened_by m k ≡ m
plain_operator j (kind.Reserved word.Case) o e m = cc
plain_operator j (kind.Reserved word.Esac) o e m = cc
plain_operator j (kind.Reserved _) o e m = refl
plain_operator j kind.Refused o e m = refl
plain_operator j (kind.Ident x) o e m = refl
plain_operator j (kind.Number x) o e m = refl
plain_operator j (kind.Literal x) o e m = refl
plain_operator j (kind.Sign sign.Open) o e m = cc
plain_operator j (kind.Sign sign.OpenBrace) o e m = cc
plain_operator j (kind.Sign sign.OpenBracket) o e m = cc
plain_operator j (kind.Sign sign.Close) o e m = cc
plain_operator j (kind.Sign sign.CloseBrace) o e m = cc
plain_operator j (kind.Sign sign.CloseBracket) o e m = cc
plain_operator j (kind.Sign _) o e m = refl

pub infix_plain : (j : OperatorClass) (k : TokenKind) (o : Infix) → infix_of j k ≡ Some o → (m : ℕ) → opened_by m k ≡ m
infix_plain j k o e m = plain_operator j k o (sym (infix_is j k) ∙ e) m

pub function_plain : (k : TokenKind) (f : Function) → function_at k ≡ Some f → (m : ℕ) → opened_by m k ≡ m
function_plain (kind.Reserved word.Case) f e m = cc
function_plain (kind.Reserved word.Esac) f e m = cc
function_plain (kind.Reserved _) f e m = refl
function_plain kind.Refused f e m = refl
function_plain (kind.Ident x) f e m = refl
function_plain (kind.Number x) f e m = refl
function_plain (kind.Literal x) f e m = refl
function_plain (kind.Sign s) f e m = cc

pub printed_infix_plain : (o : Infix) (m : ℕ) → opened_by m (infix_kind o) ≡ m
printed_infix_plain op.Implies m = refl
printed_infix_plain _ m = refl

pub printed_infix_fits : (o : Infix) → IsPrintable (infix_kind o)
printed_infix_fits op.Implies = tt
printed_infix_fits _ = tt

pub printed_function_plain : (f : Function) (m : ℕ) → opened_by m (kind.Reserved (function_word f)) ≡ m
printed_function_plain function.Bool m = refl
printed_function_plain _ m = refl

-- the level at a place among all levels
Ranked : ℕ → List Level → Type 0
Ranked i [] = Unit {0}
Ranked i (l ∷ ls) = (rank l ≡ i) × Ranked (suc i) ls

drop_none : (ls : List Level) → drop 0 ls ≡ ls
drop_none [] = refl
drop_none (l ∷ ls) = refl

head_same : (x l : Level) (xs ls : List Level) → x ∷ xs ≡ l ∷ ls → x ≡ l
head_same x l xs ls e = cc

nil_cons : (l : Level) (ls : List Level) → [] ≡ l ∷ ls → ⊥
nil_cons l ls e = cc

tail_same : (x l : Level) (xs ls : List Level) → x ∷ xs ≡ l ∷ ls → xs ≡ ls
tail_same x l xs ls e = cc

ranked : (ls : List Level) (i f : ℕ) (l : Level) (below : List Level) → Ranked i ls → drop f ls ≡ l ∷ below → (f + i ≡ rank l) × (suc f ≤ length ls) × (drop (suc f) ls ≡ below)
unfolding Ranked
ranked [] i zero l below r e = absurd (nil_cons l below e)
ranked [] i (suc f) l below r e = absurd (nil_cons l below e)
ranked (x ∷ xs) i zero l below r e = (
  omega (arith, r.0, ap rank (head_same x l xs below e)),
  omega arith,
  drop_none xs ∙ tail_same x l xs below e,
)
ranked (x ∷ xs) i (suc f) l below r e =
    let h = ranked xs (suc i) f l below r.1 e in (omega (arith, h.0), omega (arith, h.1), h.2)

all_ranked : Ranked 0 all_levels
unfolding Ranked
all_ranked = (refl, (refl, (refl, (refl, (refl, (refl, (refl, (refl, (refl, (refl, (refl, (refl, (refl, (refl, (refl, (refl, tt))))))))))))))))

pub first_of : (f : ℕ) (l : Level) (below : List Level) → drop f all_levels ≡ l ∷ below → (f ≡ rank l) × (suc f ≤ tightest) × (drop (suc f) all_levels ≡ below)
first_of f l below e = let h = ranked all_levels 0 f l below all_ranked e in (omega (arith, h.0), h.1, h.2)

-- what spells an expression closes what it opens
pub OpensNone : List Token → Type 0
OpensNone xs = (m : ℕ) → open_behind m (kinds xs) ≡ m

-- and a list of them with its closing sign closes one more
pub OpensOneLess : List Token → Type 0
OpensOneLess xs = (m : ℕ) → open_behind (suc m) (kinds xs) ≡ m

opens_append : (m : ℕ) (xs ys : List Token) → open_behind m (kinds (xs ++ ys)) ≡ open_behind (open_behind m (kinds xs)) (kinds ys)
opens_append m xs ys = ap (open_behind m) (kinds_append xs ys) ∙ open_append m (kinds xs) (kinds ys)

pub none_none : (xs ys : List Token) → OpensNone xs → OpensNone ys → OpensNone (xs ++ ys)
unfolding OpensNone
none_none xs ys a b m = opens_append m xs ys ∙ ap (λ i. open_behind i (kinds ys)) (a m) ∙ b m

pub none_less : (xs ys : List Token) → OpensNone xs → OpensOneLess ys → OpensOneLess (xs ++ ys)
unfolding OpensNone OpensOneLess
none_less xs ys a b m = opens_append (suc m) xs ys ∙ ap (λ i. open_behind i (kinds ys)) (a (suc m)) ∙ b m

pub plain_none : (x : Token) (xs : List Token) (k : TokenKind) → x.kind ≡ k → IsPlain k → OpensNone xs → OpensNone (x ∷ xs)
unfolding OpensNone IsPlain
plain_none x xs k is e a m = ap (λ i. open_behind i (kinds xs)) (ap (opened_by m) is ∙ e m) ∙ a m

pub plain_less : (x : Token) (xs : List Token) (k : TokenKind) → x.kind ≡ k → IsPlain k → OpensOneLess xs → OpensOneLess (x ∷ xs)
unfolding OpensOneLess IsPlain
plain_less x xs k is e a m = ap (λ i. open_behind i (kinds xs)) (ap (opened_by (suc m)) is ∙ e (suc m)) ∙ a m

pub open_none : (x : Token) (xs : List Token) (k : TokenKind) → x.kind ≡ k → Opens k → OpensOneLess xs → OpensNone (x ∷ xs)
unfolding OpensNone OpensOneLess Opens
open_none x xs k is e a m = ap (λ i. open_behind i (kinds xs)) (ap (opened_by m) is ∙ e m) ∙ a m

pub close_less : (x : Token) (xs : List Token) (k : TokenKind) → x.kind ≡ k → Closes k → OpensNone xs → OpensOneLess (x ∷ xs)
unfolding OpensNone OpensOneLess Closes
close_less x xs k is e a m = ap (λ i. open_behind i (kinds xs)) (ap (opened_by (suc m)) is ∙ e m) ∙ a m

pub no_tokens : OpensNone []
unfolding OpensNone
no_tokens m = refl

opens_sign : (s : Sign) → ((m : ℕ) → opened_by m (kind.Sign s) ≡ suc m) → Opens (kind.Sign s)
unfolding Opens
opens_sign s e = e

closes_sign : (s : Sign) → ((m : ℕ) → opened_by (suc m) (kind.Sign s) ≡ m) → Closes (kind.Sign s)
unfolding Closes
closes_sign s e = e

opens_case : Opens (kind.Reserved word.Case)
unfolding Opens
opens_case m = refl

closes_esac : Closes (kind.Reserved word.Esac)
unfolding Closes
closes_esac m = omega arith

pub opens_round : Opens (kind.Sign sign.Open)
opens_round = opens_sign sign.Open (λ m. refl)

pub closes_round : Closes (kind.Sign sign.Close)
closes_round = closes_sign sign.Close (λ m. omega arith)

pub opens_curly : Opens (kind.Sign sign.OpenBrace)
opens_curly = opens_sign sign.OpenBrace (λ m. refl)

pub closes_curly : Closes (kind.Sign sign.CloseBrace)
closes_curly = closes_sign sign.CloseBrace (λ m. omega arith)

pub opens_square : Opens (kind.Sign sign.OpenBracket)
opens_square = opens_sign sign.OpenBracket (λ m. refl)

pub closes_square : Closes (kind.Sign sign.CloseBracket)
closes_square = closes_sign sign.CloseBracket (λ m. omega arith)

pub plain_of : (k : TokenKind) → ((m : ℕ) → opened_by m k ≡ m) → IsPlain k
unfolding IsPlain
plain_of k e = e

prefix_plain : (pre : Prefix) → IsPlain (prefix_kind pre)
prefix_plain pre_.Not = plain_of (kind.Sign sign.Not) (λ m. refl)
prefix_plain pre_.Minus = plain_of (kind.Sign sign.Minus) (λ m. refl)

signs_none : {pre : Prefix} {n : ℕ} {xs : List Token} → Signs pre n xs → OpensNone xs
signs_none no_signs = no_tokens
signs_none {pre = pre} (sign_then {xs = xs} x is s) = plain_none x xs (prefix_kind pre) is (prefix_plain pre) (signs_none s)

plain_token : (x : Token) (k : TokenKind) → x.kind ≡ k → ((m : ℕ) → opened_by m k ≡ m) → OpensNone (x ∷ [])
plain_token x k is e = plain_none x [] k is (plain_of k e) no_tokens

pub integer_none : {i : ℤ} {xs : List Token} → SpellsInteger i xs → OpensNone xs
integer_none (unsigned {n = n} x is) = plain_token x (kind.Number n) is (λ m. refl)
integer_none (negative {n = n} minus x a b) = plain_none minus (x ∷ []) (kind.Sign sign.Minus) a (plain_of (kind.Sign sign.Minus) (λ m. refl)) (plain_token x (kind.Number n) b (λ m. refl))

steps_none : {ns : List (List ℕ)} {xs : List Token} → SpellsSteps ns xs → OpensNone xs
steps_none no_steps = no_tokens
steps_none (step {n = n} {xs = xs} dot x a b s) =
    plain_none dot (x ∷ xs) (kind.Sign sign.Dot) a (plain_of (kind.Sign sign.Dot) (λ m. refl)) (plain_none x xs (kind.Ident n) b (plain_of (kind.Ident n) (λ m. refl)) (steps_none s))

pub path_none : {path : Path} {xs : List Token} → SpellsPath path xs → OpensNone xs
path_none (from_name {n = n} {xs = xs} x a s) = plain_none x xs (kind.Ident n) a (plain_of (kind.Ident n) (λ m. refl)) (steps_none s)
path_none (from_itself {xs = xs} x a s) = plain_none x xs (kind.Reserved word.Itself) a (plain_of (kind.Reserved word.Itself) (λ m. refl)) (steps_none s)

infix_token : (j : OperatorClass) (x : Token) (xs : List Token) (o : Infix) → infix_of j x.kind ≡ Some o → OpensNone xs → OpensNone (x ∷ xs)
infix_token j x xs o e a = plain_none x xs x.kind refl (plain_of x.kind (infix_plain j x.kind o e)) a

pub colon_plain : IsPlain (kind.Sign sign.Colon)
colon_plain = plain_of (kind.Sign sign.Colon) (λ m. refl)

pub semicolon_plain : IsPlain (kind.Sign sign.Semicolon)
semicolon_plain = plain_of (kind.Sign sign.Semicolon) (λ m. refl)

pub comma_plain : IsPlain (kind.Sign sign.Comma)
comma_plain = plain_of (kind.Sign sign.Comma) (λ m. refl)

question_plain : IsPlain (kind.Sign sign.Question)
question_plain = plain_of (kind.Sign sign.Question) (λ m. refl)

pub range_plain : IsPlain (kind.Sign sign.Range)
range_plain = plain_of (kind.Sign sign.Range) (λ m. refl)

pub number_plain : (n : ℕ) → IsPlain (kind.Number n)
number_plain n = plain_of (kind.Number n) (λ m. refl)

mutual
  pub spelled_none : {ls : List Level} {t : Tree} {xs : List Token} → Spells ls t xs → OpensNone xs
  spelled_none (pass s) = spelled_none s
  spelled_none (chains {xs = xs} {ys = ys} s ls) = none_none xs ys (spelled_none s) (links_none ls)
  spelled_none (chooses s) = branches_none s
  spelled_none (ranges {xs = xs} {ys = ys} a dots is b) = none_none xs (dots ∷ ys) (integer_none a) (plain_none dots ys (kind.Sign sign.Range) is range_plain (integer_none b))
  spelled_none (prefixes {xs = xs} {ys = ys} n s) = none_none xs ys (signs_none n) (spelled_none s)
  spelled_none (selects {high = high} {low = low} {xs = xs} s opening first colon last closing a b c d e) =
      none_none xs (opening ∷ first ∷ colon ∷ last ∷ closing ∷ []) (spelled_none s)
      (open_none opening (first ∷ colon ∷ last ∷ closing ∷ []) (kind.Sign sign.OpenBracket) a opens_square
      (plain_less first (colon ∷ last ∷ closing ∷ []) (kind.Number high) b (number_plain high)
      (plain_less colon (last ∷ closing ∷ []) (kind.Sign sign.Colon) c colon_plain
      (plain_less last (closing ∷ []) (kind.Number low) d (number_plain low) (close_less closing [] (kind.Sign sign.CloseBracket) e closes_square no_tokens)))))
  spelled_none (is_true x is) = plain_token x (kind.Reserved word.True) is (λ m. refl)
  spelled_none (is_false x is) = plain_token x (kind.Reserved word.False) is (λ m. refl)
  spelled_none (numbers {n = n} x is) = plain_token x (kind.Number n) is (λ m. refl)
  spelled_none (literals {w = w} x is) = plain_token x (kind.Literal w) is (λ m. refl)
  spelled_none (names p) = path_none p
  spelled_none (brackets {xs = xs} opening a s closing b) =
      open_none opening (xs ++ closing ∷ []) (kind.Sign sign.Open) a opens_round (none_less xs (closing ∷ []) (spelled_none s) (close_less closing [] (kind.Sign sign.Close) b closes_round no_tokens))
  spelled_none (nexts {xs = xs} x a opening b s closing c) =
      plain_none x (opening ∷ (xs ++ closing ∷ [])) (kind.Reserved word.Next) a (plain_of (kind.Reserved word.Next) (λ m. refl))
      (open_none opening (xs ++ closing ∷ []) (kind.Sign sign.Open) b opens_round (none_less xs (closing ∷ []) (spelled_none s) (close_less closing [] (kind.Sign sign.Close) c closes_round no_tokens)))
  spelled_none (calls {f = f} {xs = xs} x a opening b l) =
      plain_none x (opening ∷ xs) x.kind refl (plain_of x.kind (function_plain x.kind f a)) (open_none opening xs (kind.Sign sign.Open) b opens_round (listed_less closes_round l))
  spelled_none (sets {xs = xs} opening a l) = open_none opening xs (kind.Sign sign.OpenBrace) a opens_curly (listed_less closes_curly l)
  spelled_none (switches {xs = xs} x a c) = open_none x xs (kind.Reserved word.Case) a opens_case (cases_less c)

  pub links_none : {j : OperatorClass} {below : List Level} {links : Links} {xs : List Token} → SpellsLinks j below links xs → OpensNone xs
  links_none no_more = no_tokens
  links_none {j = j} (one_more {op = o} {xs = xs} {ys = ys} x is s ls) = infix_token j x (xs ++ ys) o is (none_none xs ys (spelled_none s) (links_none ls))

  pub branches_none : {below : List Level} {bs : Branches} {t : Tree} {xs : List Token} → SpellsBranches below bs t xs → OpensNone xs
  branches_none (otherwise s) = spelled_none s
  branches_none (picks {xs = xs} {ys = ys} {zs = zs} s question a u colon b more) =
      none_none xs (question ∷ (ys ++ colon ∷ zs)) (spelled_none s)
      (plain_none question (ys ++ colon ∷ zs) (kind.Sign sign.Question) a question_plain (none_none ys (colon ∷ zs) (spelled_none u) (plain_none colon zs (kind.Sign sign.Colon) b colon_plain (branches_none more))))

  pub listed_less : {s : Sign} {ts : Trees} {xs : List Token} → Closes (kind.Sign s) → SpellsListed s ts xs → OpensOneLess xs
  listed_less {s = s} c (last_one {xs = xs} d closing a) = none_less xs (closing ∷ []) (spelled_none d) (close_less closing [] (kind.Sign s) a c no_tokens)
  listed_less c (one_before {xs = xs} {ys = ys} d comma a l) = none_less xs (comma ∷ ys) (spelled_none d) (plain_less comma ys (kind.Sign sign.Comma) a comma_plain (listed_less c l))

  pub cases_less : {bs : Branches} {xs : List Token} → SpellsCases bs xs → OpensOneLess xs
  cases_less (last_case {xs = xs} {ys = ys} s colon a u semicolon b esac c) =
      none_less xs (colon ∷ (ys ++ semicolon ∷ esac ∷ [])) (spelled_none s)
      (plain_less colon (ys ++ semicolon ∷ esac ∷ []) (kind.Sign sign.Colon) a colon_plain
      (none_less ys (semicolon ∷ esac ∷ []) (spelled_none u) (plain_less semicolon (esac ∷ []) (kind.Sign sign.Semicolon) b semicolon_plain (close_less esac [] (kind.Reserved word.Esac) c closes_esac no_tokens))))
  cases_less (case_before {xs = xs} {ys = ys} {zs = zs} s colon a u semicolon b more) =
      none_less xs (colon ∷ (ys ++ semicolon ∷ zs)) (spelled_none s)
      (plain_less colon (ys ++ semicolon ∷ zs) (kind.Sign sign.Colon) a colon_plain
      (none_less ys (semicolon ∷ zs) (spelled_none u) (plain_less semicolon zs (kind.Sign sign.Semicolon) b semicolon_plain (cases_less more))))

-- what is printed for an expression that was spelled where n brackets stand open; the place among all levels is the one that
-- it was spelled at, and where its own level is looser it was spelled in brackets
pub record Nests (f n : ℕ) (t : Tree) : Type 0 where
  pub bare : Prints n (tree_kinds t)
  pub loose : tree_rank t < f → (suc n ≤ most_brackets) × Prints (suc n) (tree_kinds t)

round : (n : ℕ) (ks : List TokenKind) → suc n ≤ most_brackets → Prints (suc n) ks → Prints n (in_brackets ks)
round n ks few p = prints_within n (kind.Sign sign.Open) (kind.Sign sign.Close) ks opens_round closes_round tt tt few p

pub stands : (f n : ℕ) (t : Tree) → Nests f n t → Prints n (standing f t (tree_kinds t))
stands f n t h = by_rank (nat_le f (tree_rank t)) refl
  where
    by_rank : (b : Bool) → nat_le f (tree_rank t) ≡ b → Prints n (cond b (tree_kinds t) (in_brackets (tree_kinds t)))
    by_rank true e = h.bare
    by_rank false e = let l = h.loose (grind (arith, nat_tests, e)) in round n (tree_kinds t) l.0 l.1

-- at its own level nothing is looser
tight : (f n : ℕ) (t : Tree) → f ≤ tree_rank t → Prints n (tree_kinds t) → Nests f n t
tight f n t le p = record { bare = p; loose = λ lt. absurd (omega (arith, le, lt)) }

-- in brackets everything may stand
inside : (f n : ℕ) (t : Tree) → suc n ≤ most_brackets → Prints (suc n) (tree_kinds t) → Nests f n t
inside f n t few p = record { bare = prints_less n (tree_kinds t) p; loose = λ lt. (few, p) }

repeated_prints : (n m : ℕ) (pre : Prefix) (ks : List TokenKind) → n ≤ most_brackets → Prints n ks → Prints n (repeated m (prefix_kind pre) ++ ks)
repeated_prints n zero pre ks few p = p
repeated_prints n (suc m) pre ks few p = prints_one n (prefix_kind pre) (repeated m (prefix_kind pre) ++ ks) (prefix_plain pre) few (fits pre) (repeated_prints n m pre ks few p)
  where
    fits : (pre : Prefix) → IsPrintable (prefix_kind pre)
    fits pre_.Not = tt
    fits pre_.Minus = tt

number_prints : (n m : ℕ) → n ≤ most_brackets → CanBePrinted (kind.Number m) → Prints n (kind.Number m ∷ [])
number_prints n m few c = prints_one n (kind.Number m) [] (number_plain m) few (number_fits m c) (prints_none n)

pub integer_prints : {i : ℤ} {xs : List Token} → SpellsInteger i xs → (n : ℕ) → n ≤ most_brackets → CanPrint n xs → Prints n (int_kinds i)
integer_prints (unsigned {n = m} x is) n few c = number_prints n m few (first_can n x [] (kind.Number m) is c)
integer_prints (negative {n = m} minus x a b) n few c = go m (first_can n x [] (kind.Number m) b (past n n minus (x ∷ []) (kind.Sign sign.Minus) a refl c))
  where
    negated : (i : ℤ) (m : ℕ) → pos 0 -ℤ pos (suc m) ≡ i → CanBePrinted (kind.Number (suc m)) → Prints n (int_kinds i)
    negated i m e c =
        let same : negsuc m ≡ i = sym (omega (arith, ints)) ∙ e in
        subst (λ (j : ℤ). Prints n (int_kinds j)) same (prints_one n (kind.Sign sign.Minus) (kind.Number (suc m) ∷ []) (plain_of (kind.Sign sign.Minus) (λ i. refl)) few tt (number_prints n (suc m) few c))

    go : (m : ℕ) → CanBePrinted (kind.Number m) → Prints n (int_kinds (pos 0 -ℤ pos m))
    go zero c = number_prints n 0 few c
    go (suc m) c = negated (pos 0 -ℤ pos (suc m)) m refl c

dot_plain : IsPlain (kind.Sign sign.Dot)
dot_plain = plain_of (kind.Sign sign.Dot) (λ m. refl)

pub ident_plain : (i : List ℕ) → IsPlain (kind.Ident i)
ident_plain i = plain_of (kind.Ident i) (λ m. refl)

steps_prints : {ns : List (List ℕ)} {xs : List Token} → SpellsSteps ns xs → (n : ℕ) → n ≤ most_brackets → CanPrint n xs → Prints n (parted sign.Dot true (map ident ns))
steps_prints no_steps n few c = prints_none n
steps_prints (step {n = i} {ns = ns} {xs = xs} dot x a b s) n few c =
    let c1 = past n n dot (x ∷ xs) (kind.Sign sign.Dot) a refl c in
    prints_one n (kind.Sign sign.Dot) (kind.Ident i ∷ parted sign.Dot true (map ident ns)) dot_plain few tt
    (prints_one n (kind.Ident i) (parted sign.Dot true (map ident ns)) (ident_plain i) few (name_fits i (first_can n x xs (kind.Ident i) b c1)) (steps_prints s n few (past n n x xs (kind.Ident i) b refl c1)))

pub path_prints : {path : Path} {xs : List Token} → SpellsPath path xs → (n : ℕ) → n ≤ most_brackets → CanPrint n xs → Prints n (path_kinds path)
path_prints (from_name {n = i} {ns = ns} {xs = xs} x a s) n few c =
    prints_one n (kind.Ident i) (parted sign.Dot true (map ident ns)) (ident_plain i) few (name_fits i (first_can n x xs (kind.Ident i) a c)) (steps_prints s n few (past n n x xs (kind.Ident i) a refl c))
path_prints (from_itself {ns = ns} {xs = xs} x a s) n few c =
    prints_one n (kind.Reserved word.Itself) (parted sign.Dot true (map ident ns)) (plain_of (kind.Reserved word.Itself) (λ m. refl)) few tt (steps_prints s n few (past n n x xs (kind.Reserved word.Itself) a refl c))

links_class : {j : OperatorClass} {below : List Level} {o : Infix} {u : Tree} {links : Links} {xs : List Token} → SpellsLinks j below (link o u links) xs → class_of o ≡ j
links_class {j = j} {o = o} (one_more x e s ls) = class_is j x.kind o e

pub opens_none_at : (xs : List Token) → OpensNone xs → (m : ℕ) → open_behind m (kinds xs) ≡ m
unfolding OpensNone
opens_none_at xs o m = o m

-- conditions and values, each where the level of this place is wanted, and what is behind the last colon
branch_at : ℕ → Branches → Tree → List TokenKind
branch_at f no_branches t = standing f t (tree_kinds t)
branch_at f (branch w v bs) t =
    standing f w (tree_kinds w) ++ (kind.Sign sign.Question ∷ (standing f v (tree_kinds v) ++ (kind.Sign sign.Colon ∷ branch_at f bs t)))

branch_is : (bs : Branches) (t : Tree) → branch_at 3 bs t ≡ choice_kinds bs ++ standing 3 t (tree_kinds t)
unfolding branch_at
branch_is no_branches t = refl
branch_is (branch w v bs) t =
    let ws : List TokenKind = standing 3 w (tree_kinds w) in
    let vs : List TokenKind = standing 3 v (tree_kinds v) in
    let tail : List TokenKind = standing 3 t (tree_kinds t) in
    ap (λ ks. ws ++ (kind.Sign sign.Question ∷ (vs ++ (kind.Sign sign.Colon ∷ ks)))) (branch_is bs t)
    ∙ ap (λ ks. ws ++ (kind.Sign sign.Question ∷ ks)) (sym (append_assoc vs (kind.Sign sign.Colon ∷ choice_kinds bs) tail))
    ∙ sym (append_assoc ws (kind.Sign sign.Question ∷ (vs ++ (kind.Sign sign.Colon ∷ choice_kinds bs))) tail)

one_case : (n : ℕ) (w v : Tree) (more : List TokenKind) → n ≤ most_brackets → Prints n (tree_kinds w) → Prints n (tree_kinds v) → Prints n more
    → Prints n (tree_kinds w ++ (kind.Sign sign.Colon ∷ (tree_kinds v ++ (kind.Sign sign.Semicolon ∷ more))))
one_case n w v more few a b c =
    prints_append n (tree_kinds w) (kind.Sign sign.Colon ∷ (tree_kinds v ++ (kind.Sign sign.Semicolon ∷ more))) a
    (prints_one n (kind.Sign sign.Colon) (tree_kinds v ++ (kind.Sign sign.Semicolon ∷ more)) colon_plain few tt
    (prints_append n (tree_kinds v) (kind.Sign sign.Semicolon ∷ more) b (prints_one n (kind.Sign sign.Semicolon) more semicolon_plain few tt c)))

mutual
  unfolding branch_at

  pub nests : {ls : List Level} {t : Tree} {xs : List Token} → Spells ls t xs → (f n : ℕ) → drop f all_levels ≡ ls → f ≤ tightest → n ≤ most_brackets → CanPrint n xs → Nests f n t
  nests (pass {level = l} {below = below} {t = t} s) f n e most few c =
      let h = first_of f l below e in
      let r = nests s (suc f) n h.2 h.1 few c in
      record { bare = r.bare; loose = λ lt. r.loose (omega (arith, lt)) }
  nests (chains {j = j} {below = below} {t = t} {u = u} {op = o} {links = links} {xs = xs} {ys = ys} s ls) f n e most few c =
      let h = first_of f (Chain j) below e in
      let same = links_class ls in
      let r = nests s (suc f) n h.2 h.1 few (front n xs ys c) in
      let m = links_nest ls (suc f) n h.2 h.1 few (back n n xs ys (opens_none_at _ (spelled_none s) n) c) in
      let at : Prints n (standing (suc f) t (tree_kinds t) ++ link_kinds (suc f) (link o u links)) = prints_append n (standing (suc f) t (tree_kinds t)) (link_kinds (suc f) (link o u links)) (stands (suc f) n t r) m in
      let remade : f ≡ rank (Chain (class_of o)) = h.0 ∙ ap (λ i. rank (Chain i)) (sym same) in
      tight f n (chain _ t (link o u links)) (omega (arith, remade)) (subst (λ g. Prints n (standing (suc g) t (tree_kinds t) ++ link_kinds (suc g) (link o u links))) remade at)
  nests (chooses {below = below} {w = w} {v = v} {t = t} {bs = bs} s) f n e most few c =
      let h = first_of f Choice below e in
      let r = branches_nest s (suc f) n h.2 h.1 few c in
      tight f n (choice _ (branch w v bs) t) (omega (arith, h.0)) (subst (Prints n) (ap (λ g. branch_at (suc g) (branch w v bs) t) h.0 ∙ branch_is (branch w v bs) t) r)
  nests (ranges {below = below} {low = low} {high = high} {xs = xs} {ys = ys} a dots is b) f n e most few c =
      let h = first_of f Range below e in
      let c1 = back n n xs (dots ∷ ys) (opens_none_at _ (integer_none a) n) c in
      tight f n (range _ low high) (omega (arith, h.0))
      (prints_append n (int_kinds low) (kind.Sign sign.Range ∷ int_kinds high) (integer_prints a n few (front n xs (dots ∷ ys) c))
      (prints_one n (kind.Sign sign.Range) (int_kinds high) range_plain few tt (integer_prints b n few (past n n dots ys (kind.Sign sign.Range) is refl c1))))
  nests (prefixes {pre = pre} {below = below} {n = m} {t = t} {xs = xs} {ys = ys} g s) f n e most few c =
      let h = first_of f (Before pre) below e in
      let r = nests s (suc f) n h.2 h.1 few (back n n xs ys (opens_none_at _ (signs_none g) n) c) in
      tight f n (prefix _ pre (suc m) t) (omega (arith, h.0))
      (repeated_prints n (suc m) pre (standing (suc (rank (Before pre))) t (tree_kinds t)) few (subst (λ i. Prints n (standing (suc i) t (tree_kinds t))) h.0 (stands (suc f) n t r)))
  nests (selects {below = below} {t = t} {high = high} {low = low} {xs = xs} s opening first colon last closing a b c d g) f n e most few k =
      let h = first_of f Selection below e in
      let tail : List Token = opening ∷ first ∷ colon ∷ last ∷ closing ∷ [] in
      let r = nests s f n e most few (front n xs tail k) in
      let k1 = back n n xs tail (opens_none_at _ (spelled_none s) n) k in
      let deep = room n opening (first ∷ colon ∷ last ∷ closing ∷ []) (kind.Sign sign.OpenBracket) a refl k1 in
      let k2 = past n (suc n) opening (first ∷ colon ∷ last ∷ closing ∷ []) (kind.Sign sign.OpenBracket) a refl k1 in
      let k3 = past (suc n) (suc n) first (colon ∷ last ∷ closing ∷ []) (kind.Number high) b refl k2 in
      let k4 = past (suc n) (suc n) colon (last ∷ closing ∷ []) (kind.Sign sign.Colon) c refl k3 in
      let within : Prints (suc n) (kind.Number high ∷ kind.Sign sign.Colon ∷ kind.Number low ∷ []) =
      prints_one (suc n) (kind.Number high) (kind.Sign sign.Colon ∷ kind.Number low ∷ []) (number_plain high) deep (number_fits high (first_can (suc n) first (colon ∷ last ∷ closing ∷ []) (kind.Number high) b k2))
      (prints_one (suc n) (kind.Sign sign.Colon) (kind.Number low ∷ []) colon_plain deep tt (number_prints (suc n) low deep (first_can (suc n) last (closing ∷ []) (kind.Number low) d k4))) in
      tight f n (select _ t high low) (omega (arith, h.0))
      (prints_append n (standing (rank Selection) t (tree_kinds t)) (kind.Sign sign.OpenBracket ∷ kind.Number high ∷ kind.Sign sign.Colon ∷ kind.Number low ∷ kind.Sign sign.CloseBracket ∷ [])
      (subst (λ i. Prints n (standing i t (tree_kinds t))) h.0 (stands f n t r))
      (prints_within n (kind.Sign sign.OpenBracket) (kind.Sign sign.CloseBracket) (kind.Number high ∷ kind.Sign sign.Colon ∷ kind.Number low ∷ []) opens_square closes_square tt tt deep within))
  nests (is_true x is) f n e most few c = tight f n (truth _ true) most (prints_one n (kind.Reserved word.True) [] (plain_of (kind.Reserved word.True) (λ m. refl)) few tt (prints_none n))
  nests (is_false x is) f n e most few c = tight f n (truth _ false) most (prints_one n (kind.Reserved word.False) [] (plain_of (kind.Reserved word.False) (λ m. refl)) few tt (prints_none n))
  nests (numbers {n = m} x is) f n e most few c = tight f n (number _ m) most (number_prints n m few (first_can n x [] (kind.Number m) is c))
  nests (literals {w = w} x is) f n e most few c =
      tight f n (literal _ w) most (prints_one n (kind.Literal w) [] (plain_of (kind.Literal w) (λ m. refl)) few (literal_fits w (first_can n x [] (kind.Literal w) is c)) (prints_none n))
  nests (names {path = path} p) f n e most few c = tight f n (name _ path) most (path_prints p n few c)
  nests (brackets {t = t} {xs = xs} opening a s closing b) f n e most few c =
      let deep = room n opening (xs ++ closing ∷ []) (kind.Sign sign.Open) a refl c in
      inside f n t deep (nests s 0 (suc n) refl (omega arith) deep (front (suc n) xs (closing ∷ []) (past n (suc n) opening (xs ++ closing ∷ []) (kind.Sign sign.Open) a refl c))).bare
  nests (nexts {t = t} {xs = xs} x a opening b s closing d) f n e most few c =
      let c1 = past n n x (opening ∷ (xs ++ closing ∷ [])) (kind.Reserved word.Next) a refl c in
      let deep = room n opening (xs ++ closing ∷ []) (kind.Sign sign.Open) b refl c1 in
      let r = nests s 0 (suc n) refl (omega arith) deep (front (suc n) xs (closing ∷ []) (past n (suc n) opening (xs ++ closing ∷ []) (kind.Sign sign.Open) b refl c1)) in
      tight f n (next _ t) most (prints_one n (kind.Reserved word.Next) (in_brackets (tree_kinds t)) (plain_of (kind.Reserved word.Next) (λ m. refl)) few tt (round n (tree_kinds t) deep r.bare))
  nests (calls {f = g} {ts = ts} {xs = xs} x a opening b l) f n e most few c =
      let c1 = past n n x (opening ∷ xs) x.kind refl (function_plain x.kind g a n) c in
      let deep = room n opening xs (kind.Sign sign.Open) b refl c1 in
      let r = listed_nest l (suc n) deep (past n (suc n) opening xs (kind.Sign sign.Open) b refl c1) in
      tight f n (call _ g ts) most (prints_one n (kind.Reserved (function_word g)) (in_brackets (argument_kinds false ts)) (plain_of (kind.Reserved (function_word g)) (printed_function_plain g)) few tt (round n (argument_kinds false ts) deep r))
  nests (sets {ts = ts} {xs = xs} opening a l) f n e most few c =
      let deep = room n opening xs (kind.Sign sign.OpenBrace) a refl c in
      let r = listed_nest l (suc n) deep (past n (suc n) opening xs (kind.Sign sign.OpenBrace) a refl c) in
      tight f n (set _ ts) most (prints_within n (kind.Sign sign.OpenBrace) (kind.Sign sign.CloseBrace) (argument_kinds false ts) opens_curly closes_curly tt tt deep r)
  nests (switches {bs = bs} {xs = xs} x a cs) f n e most few c =
      let deep = room n x xs (kind.Reserved word.Case) a refl c in
      let r = cases_nest cs (suc n) deep (past n (suc n) x xs (kind.Reserved word.Case) a refl c) in
      tight f n (cases _ bs) most (prints_within n (kind.Reserved word.Case) (kind.Reserved word.Esac) (case_kinds bs) opens_case closes_esac tt tt deep r)

  links_nest : {j : OperatorClass} {below : List Level} {links : Links} {xs : List Token} → SpellsLinks j below links xs → (f n : ℕ) → drop f all_levels ≡ below → f ≤ tightest → n ≤ most_brackets → CanPrint n xs → Prints n (link_kinds f links)
  links_nest no_more f n e most few c = prints_none n
  links_nest {j = j} (one_more {op = o} {t = t} {links = links} {xs = xs} {ys = ys} x is s ls) f n e most few c =
      let c1 = past n n x (xs ++ ys) x.kind refl (infix_plain j x.kind o is n) c in
      let r = nests s f n e most few (front n xs ys c1) in
      let m = links_nest ls f n e most few (back n n xs ys (opens_none_at _ (spelled_none s) n) c1) in
      prints_one n (infix_kind o) (standing f t (tree_kinds t) ++ link_kinds f links) (plain_of (infix_kind o) (printed_infix_plain o)) few (printed_infix_fits o)
      (prints_append n (standing f t (tree_kinds t)) (link_kinds f links) (stands f n t r) m)

  branches_nest : {below : List Level} {bs : Branches} {t : Tree} {xs : List Token} → SpellsBranches below bs t xs → (f n : ℕ) → drop f all_levels ≡ below → f ≤ tightest → n ≤ most_brackets → CanPrint n xs → Prints n (branch_at f bs t)
  branches_nest (otherwise {t = t} s) f n e most few c = stands f n t (nests s f n e most few c)
  branches_nest (picks {w = w} {v = v} {t = t} {bs = bs} {xs = xs} {ys = ys} {zs = zs} s question a u colon b more) f n e most few c =
      let c1 = back n n xs (question ∷ (ys ++ colon ∷ zs)) (opens_none_at _ (spelled_none s) n) c in
      let c2 = past n n question (ys ++ colon ∷ zs) (kind.Sign sign.Question) a refl c1 in
      let c3 = back n n ys (colon ∷ zs) (opens_none_at _ (spelled_none u) n) c2 in
      let c4 = past n n colon zs (kind.Sign sign.Colon) b refl c3 in
      prints_append n (standing f w (tree_kinds w)) (kind.Sign sign.Question ∷ (standing f v (tree_kinds v) ++ (kind.Sign sign.Colon ∷ branch_at f bs t)))
      (stands f n w (nests s f n e most few (front n xs (question ∷ (ys ++ colon ∷ zs)) c)))
      (prints_one n (kind.Sign sign.Question) (standing f v (tree_kinds v) ++ (kind.Sign sign.Colon ∷ branch_at f bs t)) question_plain few tt
      (prints_append n (standing f v (tree_kinds v)) (kind.Sign sign.Colon ∷ branch_at f bs t) (stands f n v (nests u f n e most few (front n ys (colon ∷ zs) c2)))
      (prints_one n (kind.Sign sign.Colon) (branch_at f bs t) colon_plain few tt (branches_nest more f n e most few c4))))

  pub listed_nest : {s : Sign} {ts : Trees} {xs : List Token} → SpellsListed s ts xs → (n : ℕ) → n ≤ most_brackets → CanPrint n xs → Prints n (argument_kinds false ts)
  listed_nest (last_one {t = t} {xs = xs} d closing a) n few c =
      prints_append n (tree_kinds t) [] (nests d 0 n refl (omega arith) few (front n xs (closing ∷ []) c)).bare (prints_none n)
  listed_nest (one_before {t = t} {u = u} {ts = ts} {xs = xs} {ys = ys} d comma a l) n few c =
      let c1 = back n n xs (comma ∷ ys) (opens_none_at _ (spelled_none d) n) c in
      prints_append n (tree_kinds t) (kind.Sign sign.Comma ∷ argument_kinds false (tree u ts)) (nests d 0 n refl (omega arith) few (front n xs (comma ∷ ys) c)).bare
      (prints_one n (kind.Sign sign.Comma) (argument_kinds false (tree u ts)) comma_plain few tt (listed_nest l n few (past n n comma ys (kind.Sign sign.Comma) a refl c1)))

  cases_nest : {bs : Branches} {xs : List Token} → SpellsCases bs xs → (n : ℕ) → n ≤ most_brackets → CanPrint n xs → Prints n (case_kinds bs)
  cases_nest (last_case {w = w} {v = v} {xs = xs} {ys = ys} s colon a u semicolon b esac g) n few c =
      let tail : List Token = semicolon ∷ esac ∷ [] in
      let c1 = back n n xs (colon ∷ (ys ++ tail)) (opens_none_at _ (spelled_none s) n) c in
      let c2 = past n n colon (ys ++ tail) (kind.Sign sign.Colon) a refl c1 in
      one_case n w v [] few (nests s 0 n refl (omega arith) few (front n xs (colon ∷ (ys ++ tail)) c)).bare (nests u 0 n refl (omega arith) few (front n ys tail c2)).bare (prints_none n)
  cases_nest (case_before {w = w} {v = v} {a = a} {b = b} {bs = bs} {xs = xs} {ys = ys} {zs = zs} s colon ic u semicolon is more) n few c =
      let tail : List Token = semicolon ∷ zs in
      let c1 = back n n xs (colon ∷ (ys ++ tail)) (opens_none_at _ (spelled_none s) n) c in
      let c2 = past n n colon (ys ++ tail) (kind.Sign sign.Colon) ic refl c1 in
      let c3 = back n n ys tail (opens_none_at _ (spelled_none u) n) c2 in
      one_case n w v (case_kinds (branch a b bs)) few (nests s 0 n refl (omega arith) few (front n xs (colon ∷ (ys ++ tail)) c)).bare (nests u 0 n refl (omega arith) few (front n ys tail c2)).bare
      (cases_nest more n few (past n n semicolon zs (kind.Sign sign.Semicolon) is refl c3))
