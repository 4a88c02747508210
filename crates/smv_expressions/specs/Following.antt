-- What the parser's functions answer, told by the machine.
use Rattle.std.specs.Prelude.{◌≡◌, ◌≤◌, ◌&&◌, ℕ, nat_le, Bool, true, false, if◌then◌else◌, is_some, Some, None, Result, Ok, Err, List, [], ◌∷◌, length}
use Rattle.text_core.specs.declared.place.Place.{Place}
use Rattle.smv_text.specs.declared.token.Sign.{Sign}
use Rattle.smv_text.specs.declared.token.Token.{Token}
use Rattle.smv_text.specs.Levels.{all_levels}
use Rattle.smv_text.specs.declared.level.OperatorClass.{OperatorClass}
use Rattle.smv_text.specs.declared.operators.Infix.{Infix}
use Rattle.smv_text.specs.Tree.{Tree, select, branches_of}
use Rattle.smv_text.specs.declared.token.Sign.TheVariants as sign
use Rattle.smv_grammar.specs.declared.levels.Leader.{Leader}
use Rattle.smv_grammar.specs.declared.levels.Leader.TheVariants as leader
use Rattle.smv_expressions.specs.declared.stop.Stop.{Stop}
use Rattle.smv_expressions.specs.declared.stop.Stop.TheVariants.{Dead, NoMemory}
use Rattle.smv_grammar.specs.Kept.{Read, cap}
use Rattle.smv_grammar.specs.Ranks.{tightest}
use Rattle.smv_grammar.specs.Machine.{Frame, State, bare, operand, when, whole, choice_at, ask, have, high_end, selected, failed, walk, took, dead, run}
use Rattle.smv_grammar.specs.Reading.{Found, after, found, lost, starts_range, waiting}

abbrev pub IsLost : {A : Type 0} → Found A → Stop → Type 0
IsLost f (Dead n) = f ≡ lost n
IsLost f NoMemory = Unit {0}

-- a function that looks for such answers so
abbrev pub Finds : {A Y : Type 0} → (Y → A × List Token) → Found A → Result Y Stop → Type 0
Finds view f (Ok y) = f ≡ found (view y).0 (view y).1
Finds view f (Err e) = IsLost f e

-- Whatever waits for the expression, the machine comes to have it, where this is kept of it and these are the tokens behind it.
pub record Reads (from : List Frame → State) (onto : List Frame → List Frame) (xs : List Token) (r : Read) (rest : List Token) : Type 0 where
  pub tree : Tree
  pub kept : r ≡ cap tree
  pub leads : (k : List Frame) → walk xs (from k) ≡ walk rest (have tree (onto k))

-- The token is an operand by itself: at however many levels, the machine comes to have it with all of them waiting.
pub record IsOperand (x : Token) (xs : List Token) (r : Read) : Type 0 where
  pub tree : Tree
  pub kept : r ≡ cap tree
  pub leads : (n : ℕ) → n ≤ 16 → (k : List Frame) → walk (x ∷ xs) (ask (tightest n) k) ≡ walk xs (have tree (waiting 0 n x.place k))

-- the expression that such a token begins holds no other
abbrev pub is_alone : Leader → Bool
is_alone leader.Bracket = false
is_alone leader.Set = false
is_alone leader.Next = false
is_alone leader.Case = false
is_alone (leader.Call f) = false
is_alone l = true

-- at how many of the levels the first operand is read
abbrev pub first_level : ℕ → List Token → ℕ
first_level n xs =
    if nat_le 8 n && starts_range xs then 8 else if nat_le 4 n && is_some (after sign.Minus xs) then 4 else if nat_le 2 n && is_some (after sign.Not xs) then 2 else 0

-- the tokens begin as what is read at so many levels
pub record Begins (m : ℕ) (xs : List Token) : Type 0 where
  pub range : m ≡ 8 → starts_range xs ≡ true
  pub minus : m ≡ 4 → is_some (after sign.Minus xs) ≡ true
  pub negation : m ≡ 2 → is_some (after sign.Not xs) ≡ true
  pub below : ¬ (m ≡ 8) → ¬ (m ≡ 4) → ¬ (m ≡ 2) → m ≡ 0

-- The machine dies where the function does.
abbrev pub Dies : (List Frame → State) → List Token → Stop → Type 0
Dies from xs (Dead n) = (k : List Frame) → walk xs (from k) ≡ failed n
Dies from xs NoMemory = Unit {0}

-- The machine comes to have the expression where the function does, with further frames waiting.
abbrev pub Leads : {Y : Type 0} → (Y → Read × List Token) → (Y → List Frame → List Frame) → (List Frame → State) → List Token → Result Y Stop → Type 0
Leads view onto from xs (Ok y) = Reads from (onto y) xs (view y).0 (view y).1
Leads view onto from xs (Err e) = Dies from xs e

abbrev pub Follows : {Y : Type 0} → (Y → Read × List Token) → (List Frame → State) → List Token → Result Y Stop → Type 0
Follows view from xs r = Leads view (λ y k. k) from xs r

-- Whatever waits for it, the machine comes to have the whole of parts that were gathered, and these are the tokens behind it.
pub record Gathers {P : Type 0} (are : P → Type 0) (whole : P → Tree) (from : List Frame → State) (xs rest : List Token) : Type 0 where
  pub parts : P
  pub gathered : are parts
  pub leads : (k : List Frame) → walk xs (from k) ≡ walk rest (have (whole parts) k)

abbrev pub Collects : {P Y : Type 0} → (P → Type 0) → (P → Tree) → (Y → List Token) → (List Frame → State) → List Token → Result Y Stop → Type 0
Collects are whole view from xs (Ok y) = Gathers are whole from xs (view y)
Collects are whole view from xs (Err e) = Dies from xs e

-- The machine has the first operand of a chain, and the chain of that operand and links.
abbrev pub chain_from : OperatorClass → ℕ → Place → Tree → List Frame → State
chain_from class below p t k = have t (operand class (tightest below) p bare ∷ k)

abbrev pub chain_of : Place → Tree → List (Infix × Tree) → Tree
chain_of p t ls = whole p (record { first = t; links = ls })

-- The machine has the first condition of a choice, and the choice of branches and what is behind the last colon.
abbrev pub choice_from : ℕ → Place → Tree → List Frame → State
choice_from below p t k = have t (when (tightest below) p [] ∷ k)

abbrev pub choice_of : Place → List (Tree × Tree) × Tree → Tree
choice_of p c = choice_at p (branches_of c.0) c.1

-- a function that wants a sign
abbrev pub Misses : Sign → List Token → Stop → Type 0
Misses s xs (Dead n) = (n ≡ length xs) × (after s xs ≡ None)
Misses s xs NoMemory = ⊥

abbrev pub Passes : {Y : Type 0} → (Y → List Token) → Result Y Stop → Sign → List Token → Type 0
Passes view (Ok y) s xs = after s xs ≡ Some (view y)
Passes view (Err e) s xs = Misses s xs e

-- an expression that is part of no other
abbrev pub Takes : {Y : Type 0} → (Y → Read × List Token) → List Token → Result Y Stop → Type 0
Takes view xs (Ok y) = run xs (ask all_levels []) ≡ took (view y).0 (view y).1
Takes view xs (Err (Dead n)) = run xs (ask all_levels []) ≡ dead n
Takes view xs (Err NoMemory) = Unit {0}

-- the ends of a selection, behind its opening bracket
abbrev pub SelectsNone : List Token → Stop → Type 0
SelectsNone xs (Dead n) = (p : Place) (t : Tree) (k : List Frame) → walk xs (high_end p t k) ≡ failed n
SelectsNone xs NoMemory = Unit {0}

abbrev pub Selects : {Y : Type 0} → (Y → ℕ × ℕ × List Token) → List Token → Result Y Stop → Type 0
Selects view xs (Ok y) = (p : Place) (t : Tree) (k : List Frame) → walk xs (high_end p t k) ≡ walk (view y).2 (have (select p t (view y).0 (view y).1) (selected p ∷ k))
Selects view xs (Err e) = SelectsNone xs e
