-- The plain form of each kind of term, and the bodies of functions.
use Rattle.std.proofs.Common.{◌≡◌, ℕ, zero, suc, ◌<◌, ◌+◌, cond, List, [], ◌∷◌, map, drop, length, Some, Vec, Box, Global, IfOk, Result, Ok, Err, refl, sym, ap, ◌∙◌, arith, rules, inl, inr, drop-cons, add-one}
use Rattle.std.specs.Prelude.{slice_get, slice_index_or}
use Rattle.std.proofs.lemmas.Bool.Decides.{eqb_tells}
use Rattle.std.proofs.lemmas.Option.{none-some}
use Rattle.moxi_terms.specs.declared.data.Datum.{Datum}
use Rattle.moxi_terms.specs.declared.data.TermOp.{TermOp}
use Rattle.moxi_terms.specs.declared.term.Function.{Function}
use Rattle.moxi_terms.specs.declared.term.Term.{Term, Apply, Let, Call, the_lemmas}
use Rattle.moxi_terms.specs.Tree.{apply, binding, call, trees_of, tree, PlainFunction}
use Rattle.moxi_terms.specs.Value.{at, term_value, calls_upto, body_at}
use Rattle.moxi_terms.specs.Cost.{cost, cost_upto}
use Rattle.moxi_terms.specs.View.{plain, plain_function}
use Rattle.moxi_terms.proofs.ValueLaws.{calls_at}

pub plain-Apply : (op : TermOp) (ts : Vec Term Global) → plain (Apply op ts) ≡ apply op (trees_of (map plain ts.items))
plain-Apply op ts = search (rules, the_lemmas)

pub plain-Let : (names : List (List ℕ)) (ts : Vec Term Global) (t : Box Term Global) → plain (Let names ts t) ≡ binding names (trees_of (map plain ts.items)) (plain t.value)
plain-Let names ts t = search (rules, the_lemmas)

pub plain-Call : (n : ℕ) (ts : Vec Term Global) → plain (Call n ts) ≡ call n (trees_of (map plain ts.items))
plain-Call n ts = search (rules, the_lemmas)

pub terms_step : (ts : List Term) (i : ℕ) (x : Term) → i < length ts → x ≡ slice_index_or ts i x → trees_of (map plain (drop i ts)) ≡ tree (plain x) (trees_of (map plain (drop (i + 1) ts)))
terms_step ts i x h e = ap (λ us. trees_of (map plain us)) (drop-cons ts i x h ∙ ap (λ y. y ∷ drop (suc i) ts) (sym e)) ∙ ap (λ k. tree (plain x) (trees_of (map plain (drop k ts)))) (sym (add-one i))

-- the body of a function of the code
pub body_of : (fs : List Function) (n : ℕ) (d : Function) → n < length fs → body_at (map plain_function fs) n ≡ plain (slice_index_or fs n d).body
body_of [] n d h = absurd (omega arith)
body_of (f ∷ fs) zero d h = refl
body_of (f ∷ fs) (suc n) d h = body_of fs n d (omega arith)

pub cost_at : (fs : List PlainFunction) (k n : ℕ) → n < k → cost_upto fs k n ≡ cost (cost_upto fs n) (body_at fs n)
cost_at fs zero n h = absurd (omega arith)
cost_at fs (suc k) n h =
    elim (eqb_tells n k) [
      | inl e ↦ ap (λ b. cond b (cost (cost_upto fs k) (body_at fs k)) (cost_upto fs k n)) e.0 ∙ ap (λ k. cost (cost_upto fs k) (body_at fs k)) (sym e.1)
      | inr e ↦ ap (λ b. cond b (cost (cost_upto fs k) (body_at fs k)) (cost_upto fs k n)) e.0 ∙ cost_at fs k n (let h2 : n < k = grind arith in h2)
    ]

pub called : (fs : List Function) (k n : ℕ) (args : List Datum) (d : Function) → n < k → n < length fs
    → calls_upto (map plain_function fs) k n args ≡ term_value (calls_upto (map plain_function fs) n) (at args) (at args) [] (plain (slice_index_or fs n d).body)
called fs k n args d h le =
    calls_at (map plain_function fs) k n args h ∙ ap (term_value (calls_upto (map plain_function fs) n) (at args) (at args) []) (body_of fs n d le)

pub called_cost : (fs : List Function) (k n : ℕ) (d : Function) → n < k → n < length fs
    → cost_upto (map plain_function fs) k n ≡ cost (cost_upto (map plain_function fs) n) (plain (slice_index_or fs n d).body)
called_cost fs k n d h le =
    cost_at (map plain_function fs) k n h ∙ ap (cost (cost_upto (map plain_function fs) n)) (body_of fs n d le)

-- what a number finds is within
pub found_within : {A : Type 0} (xs : List A) (n : ℕ) (x : A) → slice_get xs n ≡ Some x → n < length xs
found_within [] n x h = absurd (none-some x h)
found_within (y ∷ ys) zero x h = omega arith
found_within (y ∷ ys) (suc n) x h = let p : n < length ys = found_within ys n x h in omega arith

pub if_ok_same : {A E : Type 0} (r : Result A E) (x y : A) → x ≡ y → IfOk r (λ d. d ≡ x) → IfOk r (λ d. d ≡ y)
if_ok_same (Ok a) x y e h = h ∙ e
if_ok_same (Err a) x y e h = h
