-- Where the word of each line comes from in a frame after frame 0, found once for all of them.
use Rattle.std.specs.Prelude.{◌≡◌, ◌⊎◌, ℕ, false, true, List, [], ◌∷◌, length, take, Some, None, slice_get}
use Rattle.word_core.specs.Words.{BitVector}
use Rattle.word_core.specs.declared.kinds.Binary.{Binary as BinaryKind}
use Rattle.word_core.specs.declared.kinds.Binary.TheVariants.{And, Or, Eq}
use Rattle.word_core.specs.declared.kinds.Unary.{Unary as UnaryKind}
use Rattle.word_core.specs.declared.kinds.Unary.TheVariants.{Not}
use Rattle.btor_tree.specs.declared.args.Arg.{Arg}
use Rattle.btor_tree.specs.declared.lines.Line.{Line}
use Rattle.btor_tree.specs.declared.lines.LineOp.TheVariants.{Input, State, Unary, Binary, Ite}
use Rattle.btor_tree.specs.Fits.{has_word, is_constant, is_input, is_state, is_next, count_of, state_value, plain_arg}
use Rattle.btor_tree.specs.Frame.{nothing, word_at}
use Rattle.btor_frames.specs.declared.sources.Source.{Source}
use Rattle.btor_frames.specs.declared.sources.Source.TheVariants.{NoWord, FromInput, FromFree, FromLast, FromLastNot, NotOf, AndOf, OrOf, EqOf, IteOf, ByLine}
use Rattle.btor_frames.specs.Steps.{is_given}

-- a line of an operator on two words, neither of them negated
abbrev pub IsOnBoth : BinaryKind → ℕ → ℕ → Line → Type 0
IsOnBoth op a b l = (l.op ≡ Binary op) × (l.args ≡ plain_arg a ∷ plain_arg b ∷ [])

-- a bitwise not of a word that is not negated
abbrev pub IsOnOne : ℕ → Line → Type 0
IsOnOne a l = (l.op ≡ Unary Not) × (l.args ≡ plain_arg a ∷ [])

-- an if-then-else on three words, none of them negated
abbrev pub IsOnThree : ℕ → ℕ → ℕ → Line → Type 0
IsOnThree c a b l = (l.op ≡ Ite) × (l.args ≡ plain_arg c ∷ plain_arg a ∷ plain_arg b ∷ [])

-- the bitwise not of the word of the line at a place
abbrev pub negated_arg : ℕ → Arg
negated_arg i = record { line = i; negated = true }

-- a state with this next
abbrev pub IsStateOf : List Line → ℕ → Line → Arg → Type 0
IsStateOf lines i l a = (l.op ≡ State) × (state_value is_next lines i ≡ Some a)

-- a state whose next is that line's word, or a constant, which that line is itself
abbrev pub IsOfLast : List Line → ℕ → Line → ℕ → Type 0
IsOfLast lines i l n = IsStateOf lines i l (plain_arg n) ⊎ ((is_constant l.op ≡ true) × (n ≡ i))

-- the line's word comes from there
abbrev pub IsSource : List Line → ℕ → Line → Source → Type 0
IsSource lines i l NoWord = has_word l.op ≡ false
IsSource lines i l (FromInput n) = (l.op ≡ Input) × (n ≡ count_of is_input (take i lines))
IsSource lines i l (FromFree n) =
    (l.op ≡ State) × (state_value is_next lines i ≡ None) × (n ≡ count_of is_state (take i lines))
IsSource lines i l (FromLast n) = IsOfLast lines i l n
IsSource lines i l (FromLastNot n) = IsStateOf lines i l (negated_arg n)
IsSource lines i l (NotOf a) = IsOnOne a l
IsSource lines i l (AndOf a b) = IsOnBoth And a b l
IsSource lines i l (OrOf a b) = IsOnBoth Or a b l
IsSource lines i l (EqOf a b) = IsOnBoth Eq a b l
IsSource lines i l (IteOf c a b) = IsOnThree c a b l
IsSource lines i l ByLine = is_given l.op ≡ false

-- a source of an operator's word: on two lines, where neither is negated, and on a line's arguments
abbrev pub IsJoined : BinaryKind → ℕ → ℕ → Source → Type 0
IsJoined op a b (AndOf c d) = (op ≡ And) × (a ≡ c) × (b ≡ d)
IsJoined op a b (OrOf c d) = (op ≡ Or) × (a ≡ c) × (b ≡ d)
IsJoined op a b (EqOf c d) = (op ≡ Eq) × (a ≡ c) × (b ≡ d)
IsJoined op a b s = s ≡ ByLine

abbrev pub IsOfArgs : BinaryKind → List Arg → Source → Type 0
IsOfArgs op args (AndOf a b) = (op ≡ And) × (args ≡ plain_arg a ∷ plain_arg b ∷ [])
IsOfArgs op args (OrOf a b) = (op ≡ Or) × (args ≡ plain_arg a ∷ plain_arg b ∷ [])
IsOfArgs op args (EqOf a b) = (op ≡ Eq) × (args ≡ plain_arg a ∷ plain_arg b ∷ [])
IsOfArgs op args s = s ≡ ByLine

-- a source of an operator's word on a line's one argument, of an if-then-else, and of a state with this next
abbrev pub IsOfOne : UnaryKind → List Arg → Source → Type 0
IsOfOne op args (NotOf a) = (op ≡ Not) × (args ≡ plain_arg a ∷ [])
IsOfOne op args s = s ≡ ByLine

abbrev pub IsOfThree : List Arg → Source → Type 0
IsOfThree args (IteOf c a b) = args ≡ plain_arg c ∷ plain_arg a ∷ plain_arg b ∷ []
IsOfThree args s = s ≡ ByLine

abbrev pub IsOfNext : Arg → Source → Type 0
IsOfNext next (FromLast n) = next ≡ plain_arg n
IsOfNext next (FromLastNot n) = next ≡ negated_arg n
IsOfNext next s = ⊥

-- at each place where the word of the line there comes from
pub record HoldsSources (lines : List Line) (sources : List Source) : Type 0 where
  pub sized : length sources ≡ length lines
  pub at : (i : ℕ) (l : Line) (s : Source) → slice_get lines i ≡ Some l → slice_get sources i ≡ Some s → IsSource lines i l s

-- nothing is at the places of lines that have no word
abbrev pub IsBlank : List Source → List BitVector → Type 0
IsBlank sources row = (i : ℕ) → slice_get sources i ≡ Some NoWord → word_at row i ≡ nothing

-- n words, and each is nothing
abbrev pub HoldsNothing : ℕ → List BitVector → Type 0
HoldsNothing n row = (length row ≡ n) × ((i : ℕ) → word_at row i ≡ nothing)
