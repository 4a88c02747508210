-- What a loop over lines has made so far, and what is left.
use Rattle.std.proofs.Common.{◌≡◌, ℕ, zero, suc, ◌+◌, Bool, true, false, List, [], ◌∷◌, ◌++◌, map, drop, length, Some, if◌then◌else◌, refl, sym, ap, ◌∙◌, arith, append_assoc, ◌-◌, ◌<◌}
use Rattle.std.specs.Prelude.{slice_get}
use Rattle.std.proofs.lemmas.Option.{same_Some, none-some}
use Rattle.btor_tree.specs.declared.lines.Line.{Line}
use Rattle.btor_tree.specs.declared.lines.LineOp.{LineOp}
use Rattle.btor_tree.specs.Fits.{is_bad}
use Rattle.moxi_terms.specs.declared.term.Variable.{Variable}
use Rattle.moxi_terms.specs.declared.data.TermOp.TheVariants as op
use Rattle.moxi_terms.specs.Tree.{Tree, apply}
use Rattle.btor_import.specs.Operators.{bits_from}
use Rattle.moxi_scripts.specs.declared.script.Formula.{Formula}
use Rattle.moxi_scripts.specs.declared.script.Query.{Query}
use Rattle.moxi_scripts.specs.Script.{PlainFormula, plain_formula, query_of}
use Rattle.btor_import.specs.Assembling.{variables_for}
use Rattle.btor_import.specs.Script.{lines_in, parts_from, queries_from, reachable_of, reachables_from, variable_of}
use Rattle.text_core.proofs.ListLaws.{grown, joined, put}
use Rattle.moxi_terms.specs.Applications.{one}

pub drop_there : {X : Type 0} (xs : List X) (i : ℕ) (x : X) → slice_get xs i ≡ Some x → drop i xs ≡ x ∷ drop (i + 1) xs
drop_there [] i x h = absurd (none-some x h)
drop_there (y ∷ ys) zero x h = ap (λ z. z ∷ ys) (same_Some y x h)
drop_there (y ∷ ys) (suc i) x h = drop_there ys i x h ∙ ap (λ n. x ∷ drop n (y ∷ ys)) (let e : suc (i + 1) ≡ suc i + 1 = omega arith in e)

-- ---- parts

pub parts_on : (part : ℕ → Line → List Tree) (lines : List Line) (i : ℕ) (l : Line) (old new total : List Tree) → slice_get lines i ≡ Some l → new ≡ old ++ part i l
    → old ++ parts_from part i (drop i lines) ≡ total → new ++ parts_from part (i + 1) (drop (i + 1) lines) ≡ total
parts_on part lines i l old new total h m k =
    ap (λ xs. xs ++ parts_from part (i + 1) (drop (i + 1) lines)) m ∙ append_assoc old (part i l) (parts_from part (i + 1) (drop (i + 1) lines))
    ∙ ap (λ ls. old ++ parts_from part i ls) (sym (drop_there lines i l h)) ∙ k

-- ---- variables

one_more : (lines : List Line) (letter : List ℕ) (kind : LineOp → Bool) (l : Line) (ls : List Line) → variables_for lines letter kind (l ∷ []) ++ variables_for lines letter kind ls ≡ variables_for lines letter kind (l ∷ ls)
one_more lines letter kind l ls = by (kind l.op)
  where
    by : (b : Bool) → map (variable_of lines letter) (if b then l ∷ [] else []) ++ map (variable_of lines letter) (lines_in kind ls) ≡ map (variable_of lines letter) (if b then l ∷ lines_in kind ls else lines_in kind ls)
    by true = refl
    by false = refl

pub variables_on : (lines : List Line) (letter : List ℕ) (kind : LineOp → Bool) (i : ℕ) (l : Line) (old new total : List Variable) → slice_get lines i ≡ Some l → new ≡ old ++ variables_for lines letter kind (l ∷ [])
    → old ++ variables_for lines letter kind (drop i lines) ≡ total → new ++ variables_for lines letter kind (drop (i + 1) lines) ≡ total
variables_on lines letter kind i l old new total h m k =
    ap (λ xs. xs ++ variables_for lines letter kind (drop (i + 1) lines)) m
    ∙ append_assoc old (variables_for lines letter kind (l ∷ [])) (variables_for lines letter kind (drop (i + 1) lines))
    ∙ ap (λ xs. old ++ xs) (one_more lines letter kind l (drop (i + 1) lines))
    ∙ ap (λ ls. old ++ variables_for lines letter kind ls) (sym (drop_there lines i l h)) ∙ k

-- ---- bad lines

bad_there : (lines : List Line) (i : ℕ) (l : Line) → slice_get lines i ≡ Some l → is_bad l.op ≡ true → lines_in is_bad (drop i lines) ≡ l ∷ lines_in is_bad (drop (i + 1) lines)
bad_there lines i l h e = ap (lines_in is_bad) (drop_there lines i l h) ∙ ap (λ b. if b then l ∷ lines_in is_bad (drop (i + 1) lines) else lines_in is_bad (drop (i + 1) lines)) e

none_there : (lines : List Line) (i : ℕ) (l : Line) → slice_get lines i ≡ Some l → is_bad l.op ≡ false → lines_in is_bad (drop i lines) ≡ lines_in is_bad (drop (i + 1) lines)
none_there lines i l h e = ap (lines_in is_bad) (drop_there lines i l h) ∙ ap (λ b. if b then l ∷ lines_in is_bad (drop (i + 1) lines) else lines_in is_bad (drop (i + 1) lines)) e

pub reachable_on : (number : ℕ → ℕ) (lines : List Line) (i : ℕ) (l : Line) (all more : List Formula) (x : Formula) (total : List PlainFormula) → slice_get lines i ≡ Some l → is_bad l.op ≡ true
    → more ≡ all ++ x ∷ [] → plain_formula x ≡ reachable_of number (length all) l → map plain_formula all ++ reachables_from number (length all) (lines_in is_bad (drop i lines)) ≡ total
    → map plain_formula more ++ reachables_from number (length more) (lines_in is_bad (drop (i + 1) lines)) ≡ total
reachable_on number lines i l all more x total h e m p k =
    let rest = lines_in is_bad (drop (i + 1) lines) in
    ap (λ ys. map plain_formula ys ++ reachables_from number (length ys) rest) m
    ∙ joined plain_formula all x (reachables_from number (length (all ++ x ∷ [])) rest)
    ∙ ap (λ n. map plain_formula all ++ plain_formula x ∷ reachables_from number n rest) (grown all x)
    ∙ ap (λ y. map plain_formula all ++ y ∷ reachables_from number (length all + 1) rest) p
    ∙ ap (λ ls. map plain_formula all ++ reachables_from number (length all) ls) (sym (bad_there lines i l h e)) ∙ k

pub reachable_off : (number : ℕ → ℕ) (lines : List Line) (i : ℕ) (l : Line) (all : List Formula) (total : List PlainFormula) → slice_get lines i ≡ Some l → is_bad l.op ≡ false
    → map plain_formula all ++ reachables_from number (length all) (lines_in is_bad (drop i lines)) ≡ total
    → map plain_formula all ++ reachables_from number (length all) (lines_in is_bad (drop (i + 1) lines)) ≡ total
reachable_off number lines i l all total h e k = ap (λ ls. map plain_formula all ++ reachables_from number (length all) ls) (sym (none_there lines i l h e)) ∙ k

pub query_on : (lines : List Line) (i : ℕ) (l : Line) (all more : List Query) (x : Query) (total : List Query) → slice_get lines i ≡ Some l → is_bad l.op ≡ true
    → more ≡ all ++ x ∷ [] → x ≡ query_of (length all) → all ++ queries_from (length all) (lines_in is_bad (drop i lines)) ≡ total
    → more ++ queries_from (length more) (lines_in is_bad (drop (i + 1) lines)) ≡ total
query_on lines i l all more x total h e m p k =
    let rest = lines_in is_bad (drop (i + 1) lines) in
    ap (λ ys. ys ++ queries_from (length ys) rest) m
    ∙ put all x (queries_from (length (all ++ x ∷ [])) rest)
    ∙ ap (λ n. all ++ x ∷ queries_from n rest) (grown all x)
    ∙ ap (λ y. all ++ y ∷ queries_from (length all + 1) rest) p
    ∙ ap (λ ls. all ++ queries_from (length all) ls) (sym (bad_there lines i l h e)) ∙ k

pub query_off : (lines : List Line) (i : ℕ) (l : Line) (all : List Query) (total : List Query) → slice_get lines i ≡ Some l → is_bad l.op ≡ false
    → all ++ queries_from (length all) (lines_in is_bad (drop i lines)) ≡ total → all ++ queries_from (length all) (lines_in is_bad (drop (i + 1) lines)) ≡ total
query_off lines i l all total h e k = ap (λ ls. all ++ queries_from (length all) ls) (sym (none_there lines i l h e)) ∙ k

-- ---- bits

pub bits_on : (w i : ℕ) (a : Tree) (old new total : List Tree) → i < w → new ≡ old ++ apply (op.Extract i i) (one a) ∷ [] → old ++ bits_from i (w - i) a ≡ total → new ++ bits_from (i + 1) (w - (i + 1)) a ≡ total
bits_on w i a old new total h m k =
    ap (λ xs. xs ++ bits_from (i + 1) (w - (i + 1)) a) m ∙ put old (apply (op.Extract i i) (one a)) (bits_from (i + 1) (w - (i + 1)) a)
    ∙ ap (λ n. old ++ bits_from i n a) (let e : suc (w - (i + 1)) ≡ w - i = omega (arith, h) in e) ∙ k
