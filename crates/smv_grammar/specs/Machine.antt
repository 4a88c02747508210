-- Reading an expression token by token: a stack of what waits for an expression.
use Rattle.std.specs.Prelude.{◌≡◌, ◌||◌, is_some, ℕ, ℤ, pos, ◌-ℤ◌, suc, true, false, Bool, cond, Option, Some, None, option_map, List, [], ◌∷◌, ◌++◌, length}
use Rattle.text_core.specs.declared.place.Place.{Place}
use Rattle.smv_text.specs.declared.token.Reserved.TheVariants as word
use Rattle.smv_text.specs.declared.token.Sign.{Sign}
use Rattle.smv_text.specs.declared.token.Sign.TheVariants as sign
use Rattle.smv_text.specs.declared.token.TokenKind.{TokenKind}
use Rattle.smv_text.specs.declared.token.TokenKind.TheVariants as kind
use Rattle.smv_text.specs.declared.token.Token.{Token}
use Rattle.smv_text.specs.declared.tree.Path.{Path}
use Rattle.smv_text.specs.declared.operators.Prefix.{Prefix}
use Rattle.smv_text.specs.declared.operators.Prefix.TheVariants as prefixes
use Rattle.smv_text.specs.declared.operators.Infix.{Infix}
use Rattle.smv_text.specs.declared.operators.Function.{Function}
use Rattle.smv_text.specs.declared.level.OperatorClass.{OperatorClass}
use Rattle.smv_text.specs.declared.level.Level.{Level}
use Rattle.smv_text.specs.declared.level.Level.TheVariants.{Chain, Choice, Range, Before, Selection}
use Rattle.smv_text.specs.Levels.{all_levels, infix_of, function_at, infix_at}
use Rattle.smv_text.specs.Tree.{Tree, truth, number, literal, name, prefix, chain, choice, cases, select, call, next as next_value, set, range, Links, no_links, link, Branches, no_branches, branch, links_of, branches_of, trees_of}
use Rattle.smv_grammar.specs.declared.listing.Listing.{Listing}
use Rattle.smv_grammar.specs.declared.listing.Listing.TheVariants.{Arguments, Elements}
use Rattle.smv_grammar.specs.declared.levels.Leader.{Leader}
use Rattle.smv_grammar.specs.declared.levels.Leader.TheVariants as leader
use Rattle.smv_grammar.specs.Marks.{is_sign, is_word}
use Rattle.smv_grammar.specs.Kept.{Read, cap}

abbrev pub prefix_sign : Prefix → Sign
prefix_sign prefixes.Not = sign.Not
prefix_sign prefixes.Minus = sign.Minus

-- the token is the sign of this prefix
abbrev pub is_prefix : Prefix → TokenKind → Bool
is_prefix pre x = is_sign (prefix_sign pre) x

-- the operands of a chain so far, the first alone
pub record Chained : Type 0 where
  pub first : Tree
  pub links : List (Infix × Tree)

-- what is before an operand of a chain
pub data Front : Type 0 where
  bare : Front
  joined : Chained → Infix → Front

-- the sign that ends a list
abbrev pub closing_of : Listing → Sign
closing_of (Arguments f) = sign.Close
closing_of Elements = sign.CloseBrace

abbrev pub listed : Place → Listing → List Tree → Tree
listed p (Arguments f) ts = call p f (trees_of ts)
listed p Elements ts = set p (trees_of ts)

-- What waits for an expression, with the place of its own first token.
pub data Frame : Type 0 where
  operand : OperatorClass → List Level → Place → Front → Frame
  when : List Level → Place → List (Tree × Tree) → Frame  -- a condition of a choice, or what stands behind its last colon
  value : List Level → Place → List (Tree × Tree) → Tree → Frame
  signs : Prefix → List Level → Place → ℕ → Frame
  selected : Place → Frame  -- a selection from it may follow
  bracket : Frame
  following : Place → Frame  -- the argument of `next`
  listing : Place → Listing → List Tree → Frame
  condition : Place → List (Tree × Tree) → Frame  -- of a case
  result : Place → List (Tree × Tree) → Tree → Frame

pub data State : Type 0 where
  ask : List Level → List Frame → State  -- an expression of the first level comes
  have : Tree → List Frame → State  -- an expression was read, and more of it may come
  signed : Prefix → List Level → Place → ℕ → List Frame → State  -- prefix signs were read, and more may come
  integer : List Level → Place → ℕ → List Frame → State  -- a number was read, and a range may follow
  minus : List Level → Place → List Frame → State  -- a minus was read, and a range may follow
  negative : List Level → Place → Place → ℕ → List Frame → State  -- a minus and a number were read, and a range may follow
  upto : Place → ℤ → List Frame → State  -- the high end of a range comes
  upto_minus : Place → ℤ → List Frame → State  -- and its number
  named : Path → List Frame → State  -- a path was read, and more of it may come
  dotted : Path → List Frame → State  -- its next name comes
  open_next : Place → List Frame → State  -- the bracket of `next` comes
  open_call : Place → Function → List Frame → State
  high_end : Place → Tree → List Frame → State  -- the high end of a selection comes
  high_colon : Place → Tree → ℕ → List Frame → State
  low_end : Place → Tree → ℕ → List Frame → State
  low_close : Place → Tree → ℕ → ℕ → List Frame → State
  case_goes : Place → List (Tree × Tree) → List Frame → State  -- a condition, or the end of the cases

-- what a token is: part of the expression, what is behind it, or neither
pub data Move : Type 0 where
  onto : State → Move
  behind : Tree → Move
  nowhere : Move

-- the operands with one more
abbrev pub taken : Front → Tree → Chained
taken bare t = record { first = t; links = [] }
taken (joined c op) t = record { first = c.first; links = c.links ++ (op, t) ∷ [] }

abbrev pub chain_at : Place → Tree → Links → Tree
chain_at p t no_links = t
chain_at p t (link op u ls) = chain p t (link op u ls)

abbrev pub choice_at : Place → Branches → Tree → Tree
choice_at p no_branches t = t
choice_at p (branch w v bs) t = choice p (branch w v bs) t

abbrev pub whole : Place → Chained → Tree
whole p c = chain_at p c.first (links_of c.links)

-- what a frame does with an expression and a token that it takes, over what waits behind it
abbrev pub accept : Frame → Tree → TokenKind → List Frame → Option State
accept (operand j below p front) t x k = option_map (λ op. ask below (operand j below p (joined (taken front t) op) ∷ k)) (infix_of j x)
accept (when below p bs) t x k = cond (is_sign sign.Question x) (Some (ask below (value below p bs t ∷ k))) None
accept (value below p bs w) t x k = cond (is_sign sign.Colon x) (Some (ask below (when below p (bs ++ (w, t) ∷ []) ∷ k))) None
accept (signs pre below p n) t x k = None
accept (selected p) t x k = cond (is_sign sign.OpenBracket x) (Some (high_end p t k)) None
accept bracket t x k = cond (is_sign sign.Close x) (Some (have t k)) None
accept (following p) t x k = cond (is_sign sign.Close x) (Some (have (next_value p t) k)) None
accept (listing p what ts) t x k =
    cond (is_sign sign.Comma x) (Some (ask all_levels (listing p what (ts ++ t ∷ []) ∷ k)))
    (cond (is_sign (closing_of what) x) (Some (have (listed p what (ts ++ t ∷ [])) k)) None)
accept (condition p bs) t x k = cond (is_sign sign.Colon x) (Some (ask all_levels (result p bs t ∷ k))) None
accept (result p bs w) t x k = cond (is_sign sign.Semicolon x) (Some (case_goes p (bs ++ (w, t) ∷ []) k)) None

-- what a frame and an expression make where the frame takes no more tokens
abbrev pub folded : Frame → Tree → Option Tree
folded (operand j below p front) t = Some (whole p (taken front t))
folded (when below p bs) t = Some (choice_at p (branches_of bs) t)
folded (value below p bs w) t = None
folded (signs pre below p n) t = Some (prefix p pre n t)
folded (selected p) t = Some t
folded bracket t = None
folded (following p) t = None
folded (listing p what ts) t = None
folded (condition p bs) t = None
folded (result p bs w) t = None

abbrev pub or_else : Option State → Move → Move
or_else (Some s) otherwise = onto s
or_else None otherwise = otherwise

abbrev pub with_folded : {A : Type 0} → Option Tree → A → (Tree → A) → A
with_folded None a f = a
with_folded (Some t) a f = f t

-- an expression was read, and a token comes
abbrev pub give : List Frame → Tree → TokenKind → Move
give [] t x = behind t
give (f ∷ k) t x = or_else (accept f t x k) (with_folded (folded f t) nowhere (λ u. give k u x))

-- an expression was read, and the tokens end
abbrev pub finish : List Frame → Tree → Option Tree
finish [] t = Some t
finish (f ∷ k) t = with_folded (folded f t) None (finish k)

-- what waits at a level where an expression begins, and the levels below it come
abbrev pub opened : Level → List Level → Place → List Frame → List Frame
opened (Chain j) below p k = operand j below p bare ∷ k
opened Choice below p k = when below p [] ∷ k
opened Range below p k = k
opened (Before pre) below p k = k
opened Selection below p k = selected p ∷ k

-- what waits where an expression of these levels begins with neither a sign of a prefix nor an integer
abbrev pub pushed : List Level → Place → List Frame → List Frame
pushed [] p k = k
pushed (level ∷ below) p k = pushed below p (opened level below p k)

-- the beginning of a path
abbrev pub path_head : TokenKind → Place → Path
path_head (kind.Ident n) p = record { from_self = false; names = n ∷ []; place = p }
path_head x p = record { from_self = true; names = []; place = p }

-- an expression below all levels begins
abbrev pub primary : Leader → List Frame → Place → TokenKind → Move
primary (leader.Number n) k p x = onto (have (number p n) k)
primary (leader.Literal w) k p x = onto (have (literal p w) k)
primary (leader.Truth b) k p x = onto (have (truth p b) k)
primary leader.Path k p x = onto (named (path_head x p) k)
primary leader.Bracket k p x = onto (ask all_levels (bracket ∷ k))
primary leader.Set k p x = onto (ask all_levels (listing p Elements [] ∷ k))
primary leader.Next k p x = onto (open_next p k)
primary leader.Case k p x = onto (ask all_levels (condition p [] ∷ k))
primary (leader.Call f) k p x = onto (open_call p f k)
primary leader.Nothing k p x = nowhere

abbrev pub calling : Option Function → Leader
calling None = leader.Nothing
calling (Some f) = leader.Call f

-- what a token begins, below all levels
abbrev pub leader_of : TokenKind → Leader
leader_of (kind.Number n) = leader.Number n
leader_of (kind.Literal w) = leader.Literal w
leader_of (kind.Ident n) = leader.Path
leader_of (kind.Sign sign.Open) = leader.Bracket
leader_of (kind.Sign sign.OpenBrace) = leader.Set
leader_of (kind.Reserved word.True) = leader.Truth true
leader_of (kind.Reserved word.False) = leader.Truth false
leader_of (kind.Reserved word.Itself) = leader.Path
leader_of (kind.Reserved word.Next) = leader.Next
leader_of (kind.Reserved word.Case) = leader.Case
leader_of x = calling (function_at x)

-- an integer begins, or what comes otherwise
abbrev pub begin_integer : TokenKind → Move → List Level → Place → List Frame → Move
begin_integer (kind.Number n) otherwise below p k = onto (integer below p n k)
begin_integer (kind.Sign sign.Minus) otherwise below p k = onto (minus below p k)
begin_integer x otherwise below p k = otherwise

-- an expression begins
abbrev pub begin : List Level → List Frame → Place → TokenKind → Move
begin [] k p x = primary (leader_of x) k p x
begin (Chain j ∷ below) k p x = begin below (operand j below p bare ∷ k) p x
begin (Choice ∷ below) k p x = begin below (when below p [] ∷ k) p x
begin (Range ∷ below) k p x = begin_integer x (begin below k p x) below p k
begin (Before pre ∷ below) k p x = cond (is_prefix pre x) (onto (signed pre below p 1 k)) (begin below k p x)
begin (Selection ∷ below) k p x = begin below (selected p ∷ k) p x

-- so many signs of a prefix were read, and a token comes
abbrev pub after_sign : Prefix → List Level → Place → ℕ → List Frame → Place → TokenKind → Move
after_sign pre below p n k q x = cond (is_prefix pre x) (onto (signed pre below p (suc n) k)) (begin below (signs pre below p n ∷ k) q x)

-- the levels below that of the minus, and what waits over it
abbrev pub minus_to : List Level → Place → List Frame → Option (List Level × List Frame)
minus_to [] p k = None
minus_to (Chain j ∷ below) p k = minus_to below p (operand j below p bare ∷ k)
minus_to (Choice ∷ below) p k = minus_to below p (when below p [] ∷ k)
minus_to (Range ∷ below) p k = minus_to below p k
minus_to (Before prefixes.Minus ∷ below) p k = Some (below, k)
minus_to (Before prefixes.Not ∷ below) p k = minus_to below p k
minus_to (Selection ∷ below) p k = minus_to below p (selected p ∷ k)

abbrev pub after_one : Option (List Level × List Frame) → Place → Place → TokenKind → Move
after_one None p q x = nowhere
after_one (Some f) p q x = after_sign prefixes.Minus f.0 p 1 f.1 q x

-- a minus was read where an expression of these levels begins, and a token comes
abbrev pub after_minus : List Level → Place → List Frame → Place → TokenKind → Move
after_minus below p k q (kind.Number n) = onto (negative below p q n k)
after_minus below p k q x = after_one (minus_to below p k) p q x

-- a minus and a number were read, before what is no range: what waits for the number
abbrev pub number_pushed : Place → Place → List Level × List Frame → List Frame
number_pushed p q f = pushed f.0 q (signs prefixes.Minus f.0 p 1 ∷ f.1)

abbrev pub number_gives : Option (List Level × List Frame) → Place → Place → ℕ → TokenKind → Move
number_gives None p q n x = nowhere
number_gives (Some f) p q n x = give (number_pushed p q f) (number q n) x

abbrev pub number_halts : Option (List Level × List Frame) → Place → Place → ℕ → Option Tree
number_halts None p q n = None
number_halts (Some f) p q n = finish (number_pushed p q f) (number q n)

abbrev pub expects : Bool → State → Move
expects true s = onto s
expects false s = nowhere

abbrev pub take_number : TokenKind → (ℕ → State) → Move
take_number (kind.Number n) s = onto (s n)
take_number x s = nowhere

abbrev pub take_name : TokenKind → (List ℕ → State) → Move
take_name (kind.Ident n) s = onto (s n)
take_name x s = nowhere

-- the high end of a range, or its minus
abbrev pub range_end : Place → ℤ → List Frame → TokenKind → Move
range_end p low k (kind.Number n) = onto (have (range p low (pos n)) k)
range_end p low k (kind.Sign sign.Minus) = onto (upto_minus p low k)
range_end p low k x = nowhere

-- one more name of a path
abbrev pub longer : Path → List ℕ → Path
longer path n = record { from_self = path.from_self; names = path.names ++ n ∷ []; place = path.place }

abbrev pub move : State → Token → Move
move (ask levels k) x = begin levels k x.place x.kind
move (have t k) x = give k t x.kind
move (signed pre below p n k) x = after_sign pre below p n k x.place x.kind
move (integer below p n k) x = cond (is_sign sign.Range x.kind) (onto (upto p (pos n) k)) (give (pushed below p k) (number p n) x.kind)
move (minus below p k) x = after_minus below p k x.place x.kind
move (negative below p q n k) x =
    cond (is_sign sign.Range x.kind) (onto (upto p (pos 0 -ℤ pos n) k)) (number_gives (minus_to below p k) p q n x.kind)
move (upto p low k) x = range_end p low k x.kind
move (upto_minus p low k) x = take_number x.kind (λ n. have (range p low (pos 0 -ℤ pos n)) k)
move (named path k) x = cond (is_sign sign.Dot x.kind) (onto (dotted path k)) (give k (name path.place path) x.kind)
move (dotted path k) x = take_name x.kind (λ n. named (longer path n) k)
move (open_next p k) x = expects (is_sign sign.Open x.kind) (ask all_levels (following p ∷ k))
move (open_call p f k) x = expects (is_sign sign.Open x.kind) (ask all_levels (listing p (Arguments f) [] ∷ k))
move (high_end p t k) x = take_number x.kind (λ n. high_colon p t n k)
move (high_colon p t n k) x = expects (is_sign sign.Colon x.kind) (low_end p t n k)
move (low_end p t n k) x = take_number x.kind (λ m. low_close p t n m k)
move (low_close p t n m k) x = expects (is_sign sign.CloseBracket x.kind) (have (select p t n m) (selected p ∷ k))
move (case_goes p bs k) x = cond (is_word word.Esac x.kind) (onto (have (cases p (branches_of bs)) k)) (begin all_levels (condition p bs ∷ k) x.place x.kind)

-- what was read where the tokens end
abbrev pub halt : State → Option Tree
halt (have t k) = finish k t
halt (integer below p n k) = finish (pushed below p k) (number p n)
halt (negative below p q n k) = number_halts (minus_to below p k) p q n
halt (named path k) = finish k (name path.place path)
halt _ = None

-- what reading comes to: an expression and the tokens behind it, or how many tokens are left, the dead one among them
pub data Reach : Type 0 where
  reached : Tree → List Token → Reach
  failed : ℕ → Reach

abbrev pub halted : Option Tree → Reach
halted None = failed 0
halted (Some t) = reached t []

abbrev pub along : Move → Token → List Token → (State → Reach) → Reach
along (onto s) x xs go = go s
along (behind t) x xs go = reached t (x ∷ xs)
along nowhere x xs go = failed (suc (length xs))

-- where the tokens lead
unfoldable pub walk : List Token → State → Reach
walk [] s = halted (halt s)
walk (x ∷ xs) s = along (move s x) x xs (walk xs)

-- The same, with what is kept of the expression in its place: what a token does, ..
pub data Advance : Type 0 where
  goes : State → Advance
  ended : Read → Advance
  stuck : Advance

abbrev pub advance : Move → Advance
advance (onto s) = goes s
advance (behind t) = ended (cap t)
advance nowhere = stuck

abbrev pub step : State → Token → Advance
step s x = advance (move s x)

-- .. what was read where the tokens end, ..
abbrev pub stop : State → Option Read
stop s = option_map cap (halt s)

-- .. and what reading comes to
pub data Outcome : Type 0 where
  took : Read → List Token → Outcome
  dead : ℕ → Outcome

abbrev pub at_end : Option Read → Outcome
at_end None = dead 0
at_end (Some r) = took r []

abbrev pub next : Advance → Token → List Token → (State → Outcome) → Outcome
next (goes s) x xs go = go s
next (ended r) x xs go = took r (x ∷ xs)
next stuck x xs go = dead (suc (length xs))

unfoldable pub run : List Token → State → Outcome
run [] s = at_end (stop s)
run (x ∷ xs) s = next (step s x) x xs (run xs)

-- the token may be part of an expression that has begun; else an expression ends before it
abbrev pub goes_on : TokenKind → Bool
goes_on x = is_some (infix_at x) || (is_sign sign.Question x || (is_sign sign.OpenBracket x || (is_sign sign.Dot x || is_sign sign.Range x)))

-- an expression ends before these tokens
abbrev pub Ends : List Token → Type 0
Ends [] = Unit {0}
Ends (x ∷ xs) = goes_on x.kind ≡ false
