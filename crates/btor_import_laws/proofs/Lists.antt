-- Lists of lines: the arguments of lines of a kind, the parts of formulas, and the values of states.
use Rattle.std.proofs.Common.{◌≡◌, ℕ, zero, suc, ◌+◌, Bool, true, false, cond, if◌then◌else◌, List, [], ◌∷◌, ◌++◌, map, take, drop, length, Some, None, refl, sym, ap, ◌∙◌, subst, arith}
use Rattle.std.specs.Prelude.{slice_get}
use Rattle.std.specs.Option.{option_or}
use Rattle.std.specs.List.{AllByRecursion}
use Rattle.std.proofs.lemmas.Bool.{eq-eqb}
use Rattle.std.proofs.lemmas.List.{take-append-drop}
use Rattle.std.proofs.lemmas.Option.{same_Some, none-some}
use Rattle.btor_tree.specs.declared.args.Arg.{Arg}
use Rattle.btor_tree.specs.declared.lines.Line.{Line}
use Rattle.btor_tree.specs.declared.lines.LineOp.{LineOp}
use Rattle.btor_tree.specs.Fits.{is_bad, operands, state_value, value_for}
use Rattle.btor_tree.proofs.Paths.{state_value_append}
use Rattle.moxi_terms.specs.Tree.{Tree}
use Rattle.moxi_scripts.specs.declared.script.Query.{Query}
use Rattle.moxi_scripts.specs.Script.{formula_at, query_of}
use Rattle.btor_import.specs.Operators.{argument, is_one, operand_term}
use Rattle.btor_import.specs.Script.{lines_in, parts_from, queries_from, reachables_from}
use Rattle.btor_import.proofs.Steps.{drop_there}
use Rattle.name_maps.proofs.FreshNames.{all_back, all_front, all_joined}

-- ---- parts of formulas

-- what holds of all parts holds of those of each line
pub parts_each : (P : Tree → Type 0) (part : ℕ → Line → List Tree) (ls : List Line) (n : ℕ) → AllByRecursion P (parts_from part n ls) → (k : ℕ) (l : Line) → slice_get ls k ≡ Some l → AllByRecursion P (part (n + k) l)
parts_each P part [] n a k l h = absurd (none-some l h)
parts_each P part (m ∷ ls) n a zero l h =
    subst (λ (x : Line). AllByRecursion P (part (n + 0) x)) (same_Some m l h) (subst (λ j. AllByRecursion P (part j m)) (let e : n ≡ n + 0 = omega arith in e) (all_front P (part n m) (parts_from part (n + 1) ls) a))
parts_each P part (m ∷ ls) n a (suc k) l h =
    subst (λ j. AllByRecursion P (part j l)) (let e : n + 1 + k ≡ n + suc k = omega arith in e) (parts_each P part ls (n + 1) (all_back P (part n m) (parts_from part (n + 1) ls) a) k l h)

-- ---- arguments of lines of a kind

pub operands_each : (P : Arg → Type 0) (kind : LineOp → Bool) (ls : List Line) → AllByRecursion P (operands kind ls) → (k : ℕ) (l : Line) → slice_get ls k ≡ Some l → kind l.op ≡ true → AllByRecursion P l.args
operands_each P kind [] a k l h e = absurd (none-some l h)
operands_each P kind (m ∷ ls) a zero l h e =
    let s = same_Some m l h in
    subst (AllByRecursion P) (ap (λ b. if b then m.args else []) (ap (λ (x : Line). kind x.op) s ∙ e) ∙ ap (λ (x : Line). x.args) s) (all_front P (if kind m.op then m.args else []) (operands kind ls) a)
operands_each P kind (m ∷ ls) a (suc k) l h e = operands_each P kind ls (all_back P (if kind m.op then m.args else []) (operands kind ls) a) k l h e

pub operands_all : (P : Arg → Type 0) (kind : LineOp → Bool) (ls : List Line) → ((k : ℕ) (l : Line) → slice_get ls k ≡ Some l → kind l.op ≡ true → AllByRecursion P l.args) → AllByRecursion P (operands kind ls)
operands_all P kind [] f = tt
operands_all P kind (m ∷ ls) f =
    all_joined P (if kind m.op then m.args else []) (operands kind ls) (by (kind m.op) (λ e. f 0 m refl e)) (operands_all P kind ls (λ k l h e. f (suc k) l h e))
  where
    by : (b : Bool) → (b ≡ true → AllByRecursion P m.args) → AllByRecursion P (if b then m.args else [])
    by true g = g refl
    by false g = tt

-- ---- bad lines

abbrev pub first_of : Line → Arg
first_of l = argument l.args 0

-- each bad line has one argument
pub bads_are : (ls : List Line) → ((k : ℕ) (l : Line) → slice_get ls k ≡ Some l → is_bad l.op ≡ true → (a : Arg) × (l.args ≡ a ∷ [])) → operands is_bad ls ≡ map first_of (lines_in is_bad ls)
bads_are [] f = refl
bads_are (m ∷ ls) f = by (is_bad m.op) (λ e. f 0 m refl e) (bads_are ls (λ k l h e. f (suc k) l h e))
  where
    by : (b : Bool) → (b ≡ true → (a : Arg) × (m.args ≡ a ∷ [])) → operands is_bad ls ≡ map first_of (lines_in is_bad ls)
        → (if b then m.args else []) ++ operands is_bad ls ≡ map first_of (if b then m ∷ lines_in is_bad ls else lines_in is_bad ls)
    by true g h = let s = g refl in ap (λ xs. xs ++ operands is_bad ls) s.1 ∙ ap (λ xs. s.0 ∷ xs) h ∙ ap (λ (a : Arg). a ∷ map first_of (lines_in is_bad ls)) (sym (ap (λ xs. argument xs 0) s.1))
    by false g h = h

pub query_at : (n : ℕ) (ls : List Line) (j : ℕ) (q : Query) → slice_get (queries_from n ls) j ≡ Some q → (l : Line) × (slice_get ls j ≡ Some l) × (q ≡ query_of (n + j))
query_at n [] j q h = absurd (none-some q h)
query_at n (l ∷ ls) zero q h = (l, refl, sym (same_Some (query_of n) q h) ∙ ap query_of (let e : n ≡ n + 0 = omega arith in e))
query_at n (l ∷ ls) (suc j) q h = let r = query_at (n + 1) ls j q h in (r.0, r.1, r.2 ∙ ap query_of (let e : n + 1 + j ≡ n + suc j = omega arith in e))

pub reachable_at : (number : ℕ → ℕ) (n : ℕ) (ls : List Line) (j : ℕ) (l : Line) → slice_get ls j ≡ Some l → formula_at (reachables_from number n ls) j ≡ is_one (operand_term number (first_of l))
reachable_at number n [] j l h = absurd (none-some l h)
reachable_at number n (m ∷ ls) zero l h = ap (λ (x : Line). is_one (operand_term number (first_of x))) (same_Some m l h)
reachable_at number n (m ∷ ls) (suc j) l h = reachable_at number (n + 1) ls j l h

pub queries_long : (n : ℕ) (ls : List Line) → length (queries_from n ls) ≡ length ls
queries_long n [] = refl
queries_long n (l ∷ ls) = ap suc (queries_long (n + 1) ls)

-- ---- values of states

-- the first line that gives a state a value is what the state has
pub value_given : (kind : LineOp → Bool) (lines : List Line) (i : ℕ) (l : Line) (x v : Arg) → slice_get lines i ≡ Some l → kind l.op ≡ true → l.args ≡ x ∷ v ∷ [] → state_value kind (take i lines) x.line ≡ None
    → state_value kind lines x.line ≡ Some v
value_given kind lines i l x v h k e n =
    let rest = drop (i + 1) lines in
    ap (λ ls. state_value kind ls x.line) (sym (take-append-drop i lines))
    ∙ ap (λ ls. state_value kind (take i lines ++ ls) x.line) (drop_there lines i l h)
    ∙ state_value_append kind (take i lines) (l ∷ rest) x.line
    ∙ ap (λ o. option_or o (state_value kind (l ∷ rest) x.line)) n
    ∙ ap (λ b. option_or (cond b (value_for l.args x.line) None) (state_value kind rest x.line)) k
    ∙ ap (λ args. option_or (value_for args x.line) (state_value kind rest x.line)) e
    ∙ ap (λ b. option_or (cond b (Some v) None) (state_value kind rest x.line)) (eq-eqb x.line x.line refl)
