-- What the answer of a part says of the answer of the whole.
use Rattle.std.proofs.Common.{◌≡◌, ℕ, ℤ, Some, None, Result, Ok, Err, List, [], ◌∷◌, length, refl, sym, ap, ◌∙◌, subst}
use Rattle.text_core.specs.declared.place.Place.{Place}
use Rattle.smv_text.specs.declared.token.Sign.{Sign}
use Rattle.smv_text.specs.declared.token.Token.{Token}
use Rattle.smv_text.specs.Levels.{all_levels}
use Rattle.smv_text.specs.Tree.{Tree}
use Rattle.smv_grammar.specs.declared.levels.Leader.TheVariants as leader
use Rattle.smv_expressions.specs.declared.stop.Stop.{Stop}
use Rattle.smv_expressions.specs.declared.stop.Stop.TheVariants.{Dead, NoMemory}
use Rattle.smv_grammar.specs.Kept.{Read, cap}
use Rattle.smv_grammar.specs.Machine.{Frame, State, ask, have, upto, high_end, leader_of, failed, walk, took}
use Rattle.smv_grammar.specs.Reading.{after, first_integer, first_path, Found}
use Rattle.smv_expressions.specs.Following.{IsLost, Finds, Dies, Leads, Follows, Misses, Passes, Gathers, Collects, Takes, Selects, SelectsNone}
use Rattle.smv_grammar.proofs.Steps.{named_on, upto_dies}
use Rattle.smv_grammar.proofs.Climbing.{path_begins}
use Rattle.smv_grammar.proofs.Running.{had, outcome, runs}

-- where a part dies, the whole dies
pub dies_along : (from from' : List Frame → State) (xs xs' : List Token) → ((k : List Frame) → (k' : List Frame) × (walk xs (from k) ≡ walk xs' (from' k')))
    → (e : Stop) → Dies from' xs' e → Dies from xs e
dies_along from from' xs xs' h (Dead n) d = λ k. (h k).1 ∙ d (h k).0
dies_along from from' xs xs' h NoMemory d = tt

pub follows_err : {Y : Type 0} (view : Y → Read × List Token) (adding : Y → List Frame → List Frame) (from from' : List Frame → State) (xs xs' : List Token) (r : Result Y Stop) (d e : Stop) → r ≡ Err d → d ≡ e
    → ((k : List Frame) → (k' : List Frame) × (walk xs (from k) ≡ walk xs' (from' k'))) → Dies from' xs' e → Leads view adding from xs r
follows_err view adding from from' xs xs' r d e is same h dies = subst (Leads view adding from xs) (sym (is ∙ ap Err same)) (dies_along from from' xs xs' h e dies)

-- what follows a part follows the whole that begins with it
pub follows_along : {Y : Type 0} (view : Y → Read × List Token) (adding : Y → List Frame → List Frame) (from from' : List Frame → State) (xs xs' : List Token) (r : Result Y Stop)
    → ((k : List Frame) → walk xs (from k) ≡ walk xs' (from' k)) → Leads view adding from' xs' r → Leads view adding from xs r
follows_along view adding from from' xs xs' (Ok y) h f = record { tree = f.tree; kept = f.kept; leads = λ k. h k ∙ f.leads k }
follows_along view adding from from' xs xs' (Err e) h f = dies_along from from' xs xs' (λ k. (k, h k)) e f

-- a sign that has to come is missing
missed : (from : List Frame → State) (xs ys : List Token) (s : Sign) → ((k : List Frame) → after s ys ≡ None → walk xs (from k) ≡ failed (length ys))
    → (e : Stop) → Misses s ys e → Dies from xs e
missed from xs ys s h (Dead n) m = λ k. h k m.1 ∙ ap failed (sym m.0)
missed from xs ys s h NoMemory m = tt

pub follows_missed : {Y : Type 0} (view : Y → Read × List Token) (adding : Y → List Frame → List Frame) (from : List Frame → State) (xs ys : List Token) (s : Sign) (r : Result Y Stop) (d e : Stop) → r ≡ Err d → d ≡ e
    → ((k : List Frame) → after s ys ≡ None → walk xs (from k) ≡ failed (length ys)) → Misses s ys e → Leads view adding from xs r
follows_missed view adding from xs ys s r d e is same h m = subst (Leads view adding from xs) (sym (is ∙ ap Err same)) (missed from xs ys s h e m)

-- a sign that ends the whole is taken or missing
pub follows_passed : {Y : Type 0} (view : Y → Read × List Token) (from : List Frame → State) (xs ys : List Token) (s : Sign) (r : Result Y Stop) (t : Tree) (at : (y : Y) → (view y).0 ≡ cap t)
    → ((k : List Frame) (rest : List Token) → after s ys ≡ Some rest → walk xs (from k) ≡ walk rest (have t k)) → ((k : List Frame) → after s ys ≡ None → walk xs (from k) ≡ failed (length ys))
    → Passes (λ y. (view y).1) r s ys → Follows view from xs r
follows_passed view from xs ys s (Ok y) t at goes dies h = record { tree = t; kept = at y; leads = λ k. goes k (view y).1 h }
follows_passed view from xs ys s (Err e) t at goes dies h = missed from xs ys s dies e h

-- what is said of parts that were gathered
pub collects_ok : {P Y : Type 0} (are : P → Type 0) (whole : P → Tree) (view : Y → List Token) (from : List Frame → State) (xs : List Token) (r : Result Y Stop) (y : Y) → r ≡ Ok y
    → Collects are whole view from xs r → Gathers are whole from xs (view y)
collects_ok are whole view from xs r y is h = subst (Collects are whole view from xs) is h

pub collects_err : {P Y : Type 0} (are : P → Type 0) (whole : P → Tree) (view : Y → List Token) (from : List Frame → State) (xs : List Token) (r : Result Y Stop) (e : Stop) → r ≡ Err e
    → Collects are whole view from xs r → Dies from xs e
collects_err are whole view from xs r e is h = subst (Collects are whole view from xs) is h

pub collects_dead : {P Y : Type 0} (are : P → Type 0) (whole : P → Tree) (view : Y → List Token) (from from' : List Frame → State) (xs xs' : List Token) (r : Result Y Stop) (d e : Stop) → r ≡ Err d → d ≡ e
    → ((k : List Frame) → (k' : List Frame) × (walk xs (from k) ≡ walk xs' (from' k'))) → Dies from' xs' e → Collects are whole view from xs r
collects_dead are whole view from from' xs xs' r d e is same h dies = subst (Collects are whole view from xs) (sym (is ∙ ap Err same)) (dies_along from from' xs xs' h e dies)

pub collects_missed : {P Y : Type 0} (are : P → Type 0) (whole : P → Tree) (view : Y → List Token) (from : List Frame → State) (xs ys : List Token) (s : Sign) (r : Result Y Stop) (d e : Stop) → r ≡ Err d → d ≡ e
    → ((k : List Frame) → after s ys ≡ None → walk xs (from k) ≡ failed (length ys)) → Misses s ys e → Collects are whole view from xs r
collects_missed are whole view from xs ys s r d e is same h m = subst (Collects are whole view from xs) (sym (is ∙ ap Err same)) (missed from xs ys s h e m)

pub collects_passed : {P Y : Type 0} (are : P → Type 0) (whole : P → Tree) (view : Y → List Token) (from : List Frame → State) (xs ys : List Token) (s : Sign) (r : Result Y Stop) (parts : P) → are parts
    → ((k : List Frame) (rest : List Token) → after s ys ≡ Some rest → walk xs (from k) ≡ walk rest (have (whole parts) k)) → ((k : List Frame) → after s ys ≡ None → walk xs (from k) ≡ failed (length ys))
    → Passes view r s ys → Collects are whole view from xs r
collects_passed are whole view from xs ys s (Ok y) parts so goes dies h = record { parts = parts; gathered = so; leads = λ k. goes k (view y) h }
collects_passed are whole view from xs ys s (Err e) parts so goes dies h = missed from xs ys s dies e h

pub collects_free : {P Y : Type 0} (are : P → Type 0) (whole : P → Tree) (view : Y → List Token) (from : List Frame → State) (xs : List Token) (r : Result Y Stop) (d e : Stop) → r ≡ Err d → d ≡ e → e ≡ NoMemory → Collects are whole view from xs r
collects_free are whole view from xs r d e is same free = subst (Collects are whole view from xs) (sym (is ∙ ap Err (same ∙ free))) tt

-- memory ran out
pub follows_free : {Y : Type 0} (view : Y → Read × List Token) (adding : Y → List Frame → List Frame) (from : List Frame → State) (xs : List Token) (r : Result Y Stop) (d e : Stop) → r ≡ Err d → d ≡ e → e ≡ NoMemory → Leads view adding from xs r
follows_free view adding from xs r d e is same free = subst (Leads view adding from xs) (sym (is ∙ ap Err (same ∙ free))) tt

-- what dies where a path, an integer or the ends of a selection are missing
pub path_dies : (x : Token) (xs : List Token) → leader.Path ≡ leader_of x.kind → (e : Stop) → IsLost (first_path (x ∷ xs)) e → Dies (ask []) (x ∷ xs) e
path_dies x xs by (Dead n) h = λ k. path_begins k x xs by ∙ ap (λ f. named_on f k) h
path_dies x xs by NoMemory h = tt

pub upto_lost : (p : Place) (low : ℤ) (xs : List Token) (e : Stop) → IsLost (first_integer xs) e → Dies (upto p low) xs e
upto_lost p low xs (Dead n) h = λ k. upto_dies k xs p low n h
upto_lost p low xs NoMemory h = tt

pub selects_err : {Y : Type 0} (view : Y → ℕ × ℕ × List Token) (xs : List Token) (r : Result Y Stop) (d e : Stop) → r ≡ Err d → d ≡ e
    → ((n : ℕ) → e ≡ Dead n → (p : Place) (t : Tree) (k : List Frame) → walk xs (high_end p t k) ≡ failed n) → Selects view xs r
selects_err view xs r d e is same h = subst (Selects view xs) (sym (is ∙ ap Err same)) (go e h)
  where
    go : (e : Stop) → ((n : ℕ) → e ≡ Dead n → (p : Place) (t : Tree) (k : List Frame) → walk xs (high_end p t k) ≡ failed n) → Selects view xs (Err e)
    go (Dead n) h = h n refl
    go NoMemory h = tt

pub selects_dies : (xs : List Token) (e : Stop) → SelectsNone xs e → (p : Place) (t : Tree) → Dies (high_end p t) xs e
selects_dies xs (Dead n) h p t = h p t
selects_dies xs NoMemory h p t = tt

-- want of memory says nothing
pub finds_free : {A Y : Type 0} (view : Y → A × List Token) (f : Found A) (r : Result Y Stop) (d e : Stop) → r ≡ Err d → d ≡ e → e ≡ NoMemory → Finds view f r
finds_free view f r d e is same none = subst (Finds view f) (sym (is ∙ ap Err (same ∙ none))) tt

pub takes_so : {Y : Type 0} (view : Y → Read × List Token) (xs : List Token) (r : Result Y Stop) → Follows view (ask all_levels) xs r → Takes view xs r
takes_so view xs (Ok y) f =
    runs xs (ask all_levels []) ∙ ap outcome (f.leads [] ∙ had (view y).1 f.tree) ∙ ap (λ v. took v (view y).1) (sym f.kept)
takes_so view xs (Err (Dead n)) f = runs xs (ask all_levels []) ∙ ap outcome (f [])
takes_so view xs (Err NoMemory) f = tt
