-- What becomes of each line: it stays, it is a constant, or an argument stands for it.
use Rattle.std.specs.Prelude.{◌≡◌, ◌⊎◌, ◌≤◌, ◌<◌, ℕ, Bool, true, false, List, [], ◌∷◌, length, take, map, Option, Some, None, option_map, slice_get, slice_index_or, if◌then◌else◌}
use Rattle.std.specs.List.{AllByRecursion}
use Rattle.word_core.specs.Words.{BitVector, IsWord}
use Rattle.word_core.specs.declared.word.TheConstants.{WIDEST}
use Rattle.btor_tree.specs.declared.args.Arg.{Arg}
use Rattle.btor_tree.specs.declared.lines.Line.{Line}
use Rattle.btor_tree.specs.declared.lines.LineOp.{LineOp}
use Rattle.btor_tree.specs.declared.lines.LineOp.TheVariants as op
use Rattle.std.specs.BTreeMap.{BTreeMap, get}
use Rattle.btor_tree.specs.Fits.{plain_arg, is_constant, sort_at, width_at, IsWellFormed}
use Rattle.btor_tree.specs.LineKeys.{IsShort}
use Rattle.btor_tree.specs.Frame.{constant_word, signed_word}
use Rattle.btor_tree.specs.Sharing.{is_shared}
use Rattle.btor_rules.specs.declared.operand.Operand.{Operand}
use Rattle.btor_rules.specs.declared.operand.Operands.{Operands}
use Rattle.btor_rules.specs.declared.operand.Operands.TheVariants.{Empty, Single, Pair, Triple}
use Rattle.btor_rules.specs.declared.operand.Outcome.{Outcome}
use Rattle.btor_rules.specs.declared.operand.Outcome.TheVariants.{Stays, Constant, Argument}
use Rattle.btor_rules.specs.Rules.{other_sign, outcome}
use Rattle.btor_simplify.specs.declared.contents.Content.{Content}
use Rattle.btor_simplify.specs.Contents.{content_of, content_cmp}

-- what becomes of the line at a place
abbrev pub fate_at : List Outcome → ℕ → Outcome
fate_at fates i = slice_index_or fates i Stays

-- the argument, or the bitwise not of it
abbrev pub with_sign : Bool → Arg → Arg
with_sign negated a = if negated then other_sign a else a

abbrev pub replaced_by : Outcome → Arg → Arg
replaced_by (Argument b) a = with_sign a.negated b
replaced_by f a = a

-- what stands for an argument
abbrev pub replaced : List Outcome → Arg → Arg
replaced fates a = replaced_by (fate_at fates a.line) a

abbrev pub place_by : Outcome → ℕ → ℕ
place_by (Argument b) p = b.line
place_by f p = p

-- the place of the sort line that stands for a sort line
abbrev pub sort_for : List Outcome → ℕ → ℕ
sort_for fates s = place_by (fate_at fates s) s

-- a line that stays, also as a constant
abbrev pub Lives : Outcome → Type 0
Lives (Argument b) = ⊥
Lives f = Unit {0}

-- the word of a constant line of this width
abbrev pub constant_of : ℕ → LineOp → Option BitVector
constant_of w o = if is_constant o then Some (constant_word w o) else None

abbrev pub constant_of_line : List Line → Option Line → Option BitVector
constant_of_line lines None = None
constant_of_line lines (Some l) = constant_of (sort_at lines l.sort) l.op

abbrev pub constant_by : Outcome → Option BitVector → Option BitVector
constant_by (Constant c) known = Some c
constant_by f known = known

-- the word of the line at a place, where it is a constant
abbrev pub constant_at : List Line → List Outcome → ℕ → Option BitVector
constant_at lines fates p = constant_by (fate_at fates p) (constant_of_line lines (slice_get lines p))

-- an argument as an operand
abbrev pub operand_as : List Line → List Outcome → Arg → Operand
operand_as lines fates a =
    record { arg = a; width = width_at lines a.line; constant = option_map (signed_word a.negated) (constant_at lines fates a.line) }

-- what stands for an argument, as an operand
abbrev pub operand_of : List Line → List Outcome → Arg → Operand
operand_of lines fates a = operand_as lines fates (replaced fates a)

abbrev pub operands_of : List Line → List Outcome → List Arg → Operands
operands_of lines fates [] = Empty
operands_of lines fates (a ∷ []) = Single (operand_of lines fates a)
operands_of lines fates (a ∷ b ∷ []) = Pair (operand_of lines fates a) (operand_of lines fates b)
operands_of lines fates (a ∷ b ∷ c ∷ []) = Triple (operand_of lines fates a) (operand_of lines fates b) (operand_of lines fates c)
operands_of lines fates (a ∷ b ∷ c ∷ d ∷ more) = Empty

-- the arguments are those of lines whose fates are known
abbrev pub AreThere : List Outcome → List Arg → Type 0
AreThere fates args = AllByRecursion (λ (a : Arg). a.line < length fates) args

-- what stands for the argument has a word
abbrev pub IsReady : List Line → List Outcome → Arg → Type 0
IsReady lines fates a =
    (a.line < length fates) × ((replaced fates a).line < length fates) × (1 ≤ width_at lines (replaced fates a).line)

abbrev pub AreReady : List Line → List Outcome → List Arg → Type 0
AreReady lines fates args = AllByRecursion (IsReady lines fates) args

-- what the constant line of a word says
abbrev pub content_of_word : BitVector → ℕ → Content
content_of_word c sort = content_of (op.Constant c) sort []

abbrev pub content_or : Option BitVector → ℕ → Content → Content
content_or None sort other = other
content_or (Some c) sort other = content_of_word c sort

-- what a line says that stays as it is; all constant lines of one word say the same
abbrev pub content_as_it_is : List Line → List Outcome → LineOp → ℕ → List Arg → Content
content_as_it_is lines fates (op.Sort w) sort args = content_of (op.Sort w) 0 []
content_as_it_is lines fates o sort args =
    content_or (constant_of (sort_at lines sort) o) (sort_for fates sort) (content_of o (sort_for fates sort) (map (replaced fates) args))

-- what a line says, by what becomes of it
abbrev pub content_by : List Line → List Outcome → Outcome → Line → Content
content_by lines fates (Constant c) l = content_of_word c (sort_for fates l.sort)
content_by lines fates f l = content_as_it_is lines fates l.op l.sort l.args

-- the line at a place stays and says this
pub record Says (lines : List Line) (fates : List Outcome) (p : ℕ) (content : Content) : Type 0 where
  pub line : Line
  pub there : p < length fates
  pub at : slice_get lines p ≡ Some line
  pub shared : is_shared line.op ≡ true
  pub lives : Lives (fate_at fates p)
  pub says : content_by lines (take p fates) (fate_at fates p) line ≡ content

-- the first line that says this stays, and it stands for each later one
abbrev pub IsSharedFate : List Line → List Outcome → Content → Outcome → Outcome → Type 0
IsSharedFate lines fates content own f =
    ((p : ℕ) × Says lines fates p content × (f ≡ Argument (plain_arg p))) ⊎ ((f ≡ own) × ((p : ℕ) → Says lines fates p content → ⊥))

abbrev pub IsFateBy : List Line → List Outcome → Line → Outcome → Outcome → Type 0
IsFateBy lines fates l (Argument a) f = f ≡ Argument a
IsFateBy lines fates l own f = IsSharedFate lines fates (content_by lines fates own l) own f

-- what becomes of a line: the first rule that fits says it, and lines that say the same are one
abbrev pub IsFate : List Line → List Outcome → Line → Outcome → Type 0
IsFate lines fates l f =
    (is_shared l.op ≡ false → f ≡ Stays) × (is_shared l.op ≡ true → IsFateBy lines fates l (outcome l.op (operands_of lines fates l.args)) f)

-- a fate that keeps widths
abbrev pub KeepsWidth : List Line → List Outcome → ℕ → Outcome → Type 0
KeepsWidth lines fates i Stays = Unit {0}
KeepsWidth lines fates i (Constant c) = IsWord c × (c.width ≡ width_at lines i)
KeepsWidth lines fates i (Argument b) =
    (b.line < i) × Lives (fate_at fates b.line) × (width_at lines b.line ≡ width_at lines i) × (sort_at lines b.line ≡ sort_at lines i)

-- what becomes of the first lines
pub record AreFates (lines : List Line) (fates : List Outcome) : Type 0 where
  pub by_line : (i : ℕ) (l : Line) (f : Outcome) → slice_get lines i ≡ Some l → slice_get fates i ≡ Some f → IsFate lines (take i fates) l f
  pub widths : (i : ℕ) → i < length fates → KeepsWidth lines fates i (fate_at fates i)

-- the word of a constant line fits its width
abbrev pub IsOfWidth : LineOp → ℕ → Type 0
IsOfWidth o w = is_constant o ≡ true → (1 ≤ w) × (w ≤ WIDEST)

abbrev pub is_sort : LineOp → Bool
is_sort (op.Sort w) = true
is_sort o = false

-- what the line says can be told from these fates
pub record CanSay (lines : List Line) (fates : List Outcome) (l : Line) : Type 0 where
  pub well_formed : IsWellFormed lines
  pub short : IsShort l.args
  pub there : AreThere fates l.args
  pub few : length fates ≤ length lines
  pub sort : is_sort l.op ≡ false → l.sort < length fates
  pub width : is_constant l.op ≡ true → (1 ≤ sort_at lines l.sort) × (sort_at lines l.sort ≤ WIDEST)

-- the places of what the lines say that stay, and of nothing else
pub record HasContents (lines : List Line) (fates : List Outcome) (places : BTreeMap Content ℕ) : Type 0 where
  pub found : (content : Content) (p : ℕ) → get content_cmp places content ≡ Some p → Says lines fates p content
  pub missing : (content : Content) → get content_cmp places content ≡ None → (p : ℕ) → Says lines fates p content → ⊥

-- the line that comes next after those whose fates are known
pub record IsNextLine (lines : List Line) (fates : List Outcome) (l : Line) : Type 0 where
  pub well_formed : IsWellFormed lines
  pub known : AreFates lines fates
  pub at : slice_get lines (length fates) ≡ Some l
