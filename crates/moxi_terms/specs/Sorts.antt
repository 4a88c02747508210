-- Sorts, the values that they have, and the sort of an application (SMT-LIB 2.6, section 3.5 and the two theories).
use Rattle.std.specs.Prelude.{◌≡◌, ◌==◌, ℕ, ◌+◌, ◌-◌, ◌<◌, ◌≤◌, nat_le, nat_lt, Bool, true, false, ◌&&◌, if◌then◌else◌, Option, None, Some, Result, Ok, Err, List, [], ◌∷◌, length, slice_get}
use Rattle.std.specs.List.{list_all}
use Rattle.text_core.specs.declared.place.Kind.{Kind}
use Rattle.text_core.specs.declared.place.Kind.TheVariants.{M}
use Rattle.word_core.specs.Words.{IsWord}
use Rattle.word_core.specs.declared.word.TheConstants.{WIDEST}
use Rattle.word_core.specs.declared.kinds.Unary.{Unary}
use Rattle.word_core.specs.declared.kinds.Unary.TheVariants as one
use Rattle.word_core.specs.declared.kinds.Binary.{Binary}
use Rattle.word_core.specs.declared.kinds.Binary.TheVariants as words
use Rattle.moxi_terms.specs.declared.data.Sort.{Sort}
use Rattle.moxi_terms.specs.declared.data.Sort.TheVariants.{Truth, Bits, Choice}
use Rattle.moxi_terms.specs.declared.data.Datum.{Datum}
use Rattle.moxi_terms.specs.declared.data.Datum.TheVariants as datum
use Rattle.moxi_terms.specs.declared.data.TermOp.{TermOp}
use Rattle.moxi_terms.specs.declared.data.TermOp.TheVariants as op
use Rattle.moxi_terms.specs.declared.term.Enumeration.{Enumeration}
use Rattle.moxi_terms.specs.Operators.{is_comparison}

-- a sort of a scope with these enumerations
abbrev pub IsSort : List Enumeration → Sort → Type 0
IsSort es Truth = Unit {0}
IsSort es (Bits w) = (1 ≤ w) × (w ≤ WIDEST)
IsSort es (Choice n) = n < length es

-- the enumeration number n has a constant number i
pub record IsConstant (es : List Enumeration) (n i : ℕ) : Type 0 where
  pub enumeration : Enumeration
  pub there : slice_get es n ≡ Some enumeration
  pub within : i < length enumeration.constants

-- the value is one of the sort
abbrev pub IsOf : List Enumeration → Sort → Datum → Type 0
IsOf es Truth (datum.Truth b) = Unit {0}
IsOf es (Bits w) (datum.Bits v) = (v.width ≡ w) × IsWord v
IsOf es (Choice n) (datum.Constant m i) = (m ≡ n) × IsConstant es n i
IsOf es s d = ⊥

-- as many values as sorts, each of its sort
abbrev pub Fit : List Enumeration → List Sort → List Datum → Type 0
Fit es [] [] = Unit {0}
Fit es (s ∷ ss) (v ∷ vs) = IsOf es s v × Fit es ss vs
Fit es [] (v ∷ vs) = ⊥
Fit es (s ∷ ss) [] = ⊥

abbrev pub same_sort : Sort → Sort → Bool
same_sort Truth Truth = true
same_sort (Bits v) (Bits w) = v == w
same_sort (Choice n) (Choice m) = n == m
same_sort s t = false

abbrev pub same_sorts : List Sort → List Sort → Bool
same_sorts [] [] = true
same_sorts (s ∷ ss) (t ∷ ts) = same_sort s t && same_sorts ss ts
same_sorts ss ts = false

-- the one sort that all of them are
abbrev pub common : List Sort → Option Sort
common [] = None
common (s ∷ ss) = if list_all (same_sort s) ss then Some s else None

-- the operators of more than two arguments; those on words are folded from the left
abbrev pub is_chain : Binary → Bool
is_chain words.And = true
is_chain words.Or = true
is_chain words.Xor = true
is_chain words.Add = true
is_chain words.Mul = true
is_chain b = false

-- the operators of two arguments that give a word of their width
abbrev pub is_arithmetic : Binary → Bool
is_arithmetic words.Sub = true
is_arithmetic words.Udiv = true
is_arithmetic words.Urem = true
is_arithmetic words.Sdiv = true
is_arithmetic words.Srem = true
is_arithmetic words.Smod = true
is_arithmetic words.Sll = true
is_arithmetic words.Srl = true
is_arithmetic words.Sra = true
is_arithmetic b = is_chain b

abbrev pub is_negation : Unary → Bool
is_negation one.Not = true
is_negation one.Neg = true
is_negation u = false

-- may the operator have so many arguments?
abbrev pub count_fits : TermOp → ℕ → Bool
count_fits op.And n = nat_le 1 n
count_fits op.Or n = nat_le 1 n
count_fits op.Xor n = nat_le 2 n
count_fits op.Implies n = nat_le 2 n
count_fits op.Equal n = nat_le 2 n
count_fits op.Distinct n = nat_le 2 n
count_fits op.Ite n = n == 3
count_fits op.Concat n = n == 2
count_fits (op.BvBinary b) n = if is_chain b then nat_le 2 n else (n == 2)
count_fits o n = n == 1

-- a truth value, of truth values
abbrev pub logical : Option Sort → Result Sort Kind
logical (Some Truth) = Ok Truth
logical s = Err (M 5)

-- a truth value, of values of one sort
abbrev pub compared : Option Sort → Result Sort Kind
compared (Some s) = Ok Truth
compared None = Err (M 5)

-- one of the values of one sort
abbrev pub chosen : Option Sort → Result Sort Kind
chosen (Some s) = Ok s
chosen None = Err (M 5)

abbrev pub calculated : Binary → Option Sort → Result Sort Kind
calculated b (Some (Bits w)) = if is_comparison b then Ok Truth else (if is_arithmetic b then Ok (Bits w) else Err (M 5))
calculated b s = Err (M 5)

-- words of a width that is not too great
abbrev pub widened : ℕ → Result Sort Kind
widened w = if nat_le w WIDEST then Ok (Bits w) else Err (M 8)

abbrev pub fitting : TermOp → List Sort → Result Sort Kind
fitting op.Not ss = logical (common ss)
fitting op.And ss = logical (common ss)
fitting op.Or ss = logical (common ss)
fitting op.Xor ss = logical (common ss)
fitting op.Implies ss = logical (common ss)
fitting op.Equal ss = compared (common ss)
fitting op.Distinct ss = compared (common ss)
fitting op.Ite (Truth ∷ ss) = chosen (common ss)
fitting op.Concat (Bits v ∷ Bits w ∷ []) = widened (v + w)
fitting (op.Extract high low) (Bits w ∷ []) = if nat_le low high && nat_lt high w then Ok (Bits (high - low + 1)) else Err (M 8)
fitting (op.ZeroExtend n) (Bits w ∷ []) = widened (w + n)
fitting (op.SignExtend n) (Bits w ∷ []) = widened (w + n)
fitting (op.BvUnary u) (Bits w ∷ []) = if is_negation u then Ok (Bits w) else Err (M 5)
fitting (op.BvBinary b) ss = calculated b (common ss)
fitting o ss = Err (M 5)

-- The sort of an application to arguments of these sorts, or the kind of the refusal: M12 for a wrong number of
-- arguments, M5 where the sorts don't fit, M8 where a width or an index doesn't.
abbrev pub op_sort : TermOp → List Sort → Result Sort Kind
op_sort o ss = if count_fits o (length ss) then fitting o ss else Err (M 12)
