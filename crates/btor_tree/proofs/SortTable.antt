-- The table of the places of sort lines, and what a builder keeps.
use Rattle.std.proofs.Common.{◌≡◌, ℕ, suc, ◌+◌, ◌-◌, ◌<◌, ◌≤◌, Bool, true, false, cond, List, [], ◌∷◌, ◌++◌, length, set, get_or, Option, Some, None, option_map, refl, sym, ap, ◌∙◌, subst, arith, inl, inr}
use Rattle.std.specs.Prelude.{IfOk, OnErr}
use Rattle.std.specs.declared.result.Result.{Result}
use Rattle.std.specs.declared.result.Result.TheVariants.{Ok, Err}
use Rattle.std.proofs.lemmas.Bool.{cases_eq}
use Rattle.std.proofs.lemmas.Option.{same_Some, none-some}
use Rattle.std.proofs.lemmas.List.{get_or-set_same, get_or-set_other, length-set}
use Rattle.word_core.specs.declared.word.TheConstants.{WIDEST}
use Rattle.btor_tree.specs.declared.args.Arg.{Arg}
use Rattle.btor_tree.specs.declared.lines.Line.{Line}
use Rattle.btor_tree.specs.declared.lines.LineOp.{LineOp}
use Rattle.btor_tree.specs.declared.lines.LineOp.TheVariants as op
use Rattle.btor_tree.specs.Fits.{IsWellFormed, Suits, greatest_id}
use Rattle.btor_tree.specs.Held.{IsNumbered}
use Rattle.btor_tree.specs.Sharing.{HasNoDuplicates, is_equal_line, place_of_equal, standing, next_line, placed, pushed}
use Rattle.btor_tree.specs.LineKeys.{KnowsSorts}
use Rattle.btor_tree.proofs.Alike.{none_step, pushed_distinct, says_alike}
use Rattle.btor_tree.proofs.Equations.{pushed_fit}
use Rattle.btor_tree.proofs.Sorts.{no_places, none_at}

-- a line at the end changes no place that was found
stays_step : (b : Bool) (r s : Option ℕ) (p : ℕ) → ((q : ℕ) → r ≡ Some q → s ≡ Some q) → cond b (Some 0) (option_map suc r) ≡ Some p → cond b (Some 0) (option_map suc s) ≡ Some p
stays_step true r s p f h = h
stays_step false None s p f h = absurd (none-some p h)
stays_step false (Some q) s p f h = ap (option_map suc) (f q refl) ∙ h

place_stays : (lines : List Line) (l : Line) (o : LineOp) (sort : ℕ) (args : List Arg) (p : ℕ) → place_of_equal lines o sort args ≡ Some p → place_of_equal (lines ++ l ∷ []) o sort args ≡ Some p
place_stays [] l o sort args p h = absurd (none-some p h)
place_stays (m ∷ ms) l o sort args p h =
    stays_step (is_equal_line o sort args m) (place_of_equal ms o sort args) (place_of_equal (ms ++ l ∷ []) o sort args) p (place_stays ms l o sort args) h

knows_push : (lines : List Line) (l : Line) (sorts : List (Option ℕ)) → KnowsSorts lines sorts → KnowsSorts (lines ++ l ∷ []) sorts
knows_push lines l sorts k =
    record { long = k.long; places = λ w p h. place_stays lines l (op.Sort (suc w)) 0 [] p (k.places w p h) }

knows_placed : (found : Option ℕ) (lines : List Line) (l : Line) (sorts : List (Option ℕ)) → KnowsSorts lines sorts → KnowsSorts (placed found lines l).0 sorts
knows_placed (Some there) lines l sorts k = k
knows_placed None lines l sorts k = knows_push lines l sorts k

pub knows_pushed : (lines : List Line) (o : LineOp) (sort : ℕ) (args : List Arg) (symbol : Option (List ℕ)) (sorts : List (Option ℕ)) → KnowsSorts lines sorts → KnowsSorts (pushed lines o sort args symbol).0 sorts
knows_pushed lines o sort args symbol sorts k = knows_placed (standing lines o sort args) lines (next_line lines o sort args symbol) sorts k

-- what a builder keeps of its lines and its table
abbrev pub Keeps : List Line → List (Option ℕ) → Type 0
Keeps lines sorts = IsWellFormed lines × IsNumbered lines × HasNoDuplicates lines × KnowsSorts lines sorts

keeps_pushed : (lines : List Line) (sorts : List (Option ℕ)) (o : LineOp) (sort : ℕ) (args : List Arg) (symbol : Option (List ℕ)) → Keeps lines sorts → length lines < greatest_id → Suits lines o sort args symbol → Keeps (pushed lines o sort args symbol).0 sorts
keeps_pushed lines sorts o sort args symbol k room suits =
    let fit = pushed_fit lines o sort args symbol k.0 k.1 room suits in
    (fit.0, fit.1, pushed_distinct lines o sort args symbol k.2, knows_pushed lines o sort args symbol sorts k.3)

-- whether or not a line was pushed
pub keeps_both : {E : Type 0} (r : Result ℕ E) (now inside more : List Line) (sorts : List (Option ℕ)) (o : LineOp) (sort : ℕ) (args : List Arg) (symbol : Option (List ℕ)) (n : ℕ) → inside ≡ now → n ≡ length inside → Keeps inside sorts → length now < greatest_id → Suits now o sort args symbol → IfOk r (λ p. (more, p) ≡ placed (standing inside o sort args) inside (record { id = n + 1; op = o; sort = sort; args = args; symbol = symbol })) → OnErr r (more ≡ inside) → Keeps more sorts
keeps_both (Ok p) now inside more sorts o sort args symbol n view long k room suits put same =
    let e : (more, p) ≡ pushed inside o sort args symbol = put ∙ ap (λ m. placed (standing inside o sort args) inside (record { id = m + 1; op = o; sort = sort; args = args; symbol = symbol })) long in
    subst (λ (x : List Line × ℕ). Keeps x.0 sorts) (sym e)
    (keeps_pushed inside sorts o sort args symbol k (subst (λ ls. length ls < greatest_id) (sym view) room) (subst (λ ls. Suits ls o sort args symbol) (sym view) suits))
keeps_both (Err e) now inside more sorts o sort args symbol n view long k room suits put same = subst (λ ls. Keeps ls sorts) (sym same) k

-- an empty table
pub knows_none : (lines : List Line) → KnowsSorts lines (no_places WIDEST)
knows_none lines = record { long = refl; places = λ w p h. absurd (none-some p (sym (none_at WIDEST w) ∙ h)) }

-- one place more
pub knows_set : (lines : List Line) (sorts : List (Option ℕ)) (w place : ℕ) → 1 ≤ w → w ≤ WIDEST → place_of_equal lines (op.Sort w) 0 [] ≡ Some place → KnowsSorts lines sorts → KnowsSorts lines (set sorts (w - 1) (Some place))
knows_set lines sorts w place least most there k =
    record {
      long = length-set sorts (w - 1) (Some place) ∙ k.long;
      places = λ v p h.
          elim (cases_eq v (w - 1)) [
            | inl e ↦
                let same : place ≡ p = same_Some place p (sym (get_or-set_same sorts (w - 1) (Some place) None (omega (arith, least, most, k.long))) ∙ ap (λ u. get_or (set sorts (w - 1) (Some place)) u None) (sym e) ∙ h) in
                ap (λ u. place_of_equal lines (op.Sort u) 0 []) (omega (arith, e, least)) ∙ there ∙ ap (λ q. Some q) same
            | inr d ↦ k.places v p (sym (get_or-set_other sorts (w - 1) v (Some place) None d) ∙ h)
          ];
    }

-- the place that a push of a sort answers is that of the first such line
place_end : (lines : List Line) (l : Line) (o : LineOp) (sort : ℕ) (args : List Arg) → place_of_equal lines o sort args ≡ None → is_equal_line o sort args l ≡ true → place_of_equal (lines ++ l ∷ []) o sort args ≡ Some (length lines)
place_end [] l o sort args none h = ap (λ b. cond b (Some 0) None) h
place_end (m ∷ ms) l o sort args none h =
    let n = none_step (is_equal_line o sort args m) (place_of_equal ms o sort args) none in
    ap (λ b. cond b (Some 0) (option_map suc (place_of_equal (ms ++ l ∷ []) o sort args))) n.0 ∙ ap (option_map suc) (place_end ms l o sort args n.1 h)

placed_there : (lines : List Line) (l : Line) (found : Option ℕ) → place_of_equal lines l.op l.sort l.args ≡ found → place_of_equal (placed found lines l).0 l.op l.sort l.args ≡ Some (placed found lines l).1
placed_there lines l (Some p) e = e
placed_there lines l None e = place_end lines l l.op l.sort l.args e (says_alike l.op l.sort l.args l (refl, refl, refl))

pub pushed_there : (lines : List Line) (w : ℕ) (args : List Arg) (symbol : Option (List ℕ)) (more : List Line) (p : ℕ) → args ≡ [] → (more, p) ≡ pushed lines (op.Sort w) 0 args symbol → place_of_equal more (op.Sort w) 0 [] ≡ Some p
pushed_there lines w args symbol more p none e =
    subst (λ given. place_of_equal more (op.Sort w) 0 given ≡ Some p) none
    (subst (λ (x : List Line × ℕ). place_of_equal x.0 (op.Sort w) 0 args ≡ Some x.1) (sym e)
    (placed_there lines (next_line lines (op.Sort w) 0 args symbol) (place_of_equal lines (op.Sort w) 0 args) refl))

-- a width that the table knows
pub sort_known : (lines : List Line) (sorts : List (Option ℕ)) (w place : ℕ) → 1 ≤ w → get_or sorts (w - 1) None ≡ Some place → KnowsSorts lines sorts → (lines, place) ≡ pushed lines (op.Sort w) 0 [] None
sort_known lines sorts w place least h k =
    let there : place_of_equal lines (op.Sort w) 0 [] ≡ Some place = ap (λ u. place_of_equal lines (op.Sort u) 0 []) (omega (arith, least)) ∙ k.places (w - 1) place h in
    ap (λ r. placed r lines (next_line lines (op.Sort w) 0 [] None)) (sym there)
