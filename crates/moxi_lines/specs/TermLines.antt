-- The lines of a term: those of its arguments from the left, and then its own (BTOR2, CAV 2018, table 1). A line that says what a
-- line says already isn't written again.
use Rattle.std.specs.Prelude.{ℕ, zero, suc, ◌+◌, ◌-◌, nat_eq, true, false, if◌then◌else◌, List, [], ◌∷◌, ◌++◌, map, None, slice_index_or}
use Rattle.word_core.specs.Words.{BitVector}
use Rattle.word_core.specs.Table.{unary_width, binary_width}
use Rattle.word_core.specs.declared.kinds.Unary.{Unary}
use Rattle.word_core.specs.declared.kinds.Unary.TheVariants as one
use Rattle.word_core.specs.declared.kinds.Binary.{Binary}
use Rattle.word_core.specs.declared.kinds.Binary.TheVariants as two
use Rattle.btor_tree.specs.declared.args.Arg.{Arg}
use Rattle.btor_tree.specs.declared.lines.Line.{Line}
use Rattle.btor_tree.specs.declared.lines.LineOp.{LineOp}
use Rattle.btor_tree.specs.declared.lines.LineOp.TheVariants as line
use Rattle.btor_tree.specs.Fits.{plain_arg, width_at}
use Rattle.btor_tree.specs.Sharing.{pushed, with_sort}
use Rattle.moxi_terms.specs.declared.data.Datum.{Datum}
use Rattle.moxi_terms.specs.declared.data.Datum.TheVariants as datum
use Rattle.moxi_terms.specs.declared.data.TermOp.{TermOp}
use Rattle.moxi_terms.specs.declared.data.TermOp.TheVariants as op
use Rattle.moxi_terms.specs.declared.term.Enumeration.{Enumeration}
use Rattle.moxi_terms.specs.Tree.{Tree, constant, variable, bound, apply, binding, call, Trees, no_trees, tree, PlainFunction}
use Rattle.moxi_terms.specs.Value.{body_at}
use Rattle.moxi_lines.specs.Codes.{code_of}

-- lines, and the place of the one that has the word
abbrev pub Built : Type 0
Built = List Line × ℕ

-- lines, and the places of those that have the words
abbrev pub AllBuilt : Type 0
AllBuilt = List Line × List ℕ

-- ---- one line

-- a constant or an operator of this width
abbrev pub with_word : List Line → LineOp → ℕ → List Arg → Built
with_word lines o width args = pushed (with_sort lines width).0 o (with_sort lines width).1 args None

abbrev pub with_unary : Unary → List Line → ℕ → Built
with_unary u lines p = with_word lines (line.Unary u) (unary_width u (width_at lines p)) (plain_arg p ∷ [])

abbrev pub with_binary : Binary → List Line → ℕ → ℕ → Built
with_binary b lines p q =
    with_word lines (line.Binary b) (binary_width b (width_at lines p) (width_at lines q)) (plain_arg p ∷ plain_arg q ∷ [])

abbrev pub with_ite : List Line → ℕ → ℕ → ℕ → Built
with_ite lines c p q = with_word lines line.Ite (width_at lines p) (plain_arg c ∷ plain_arg p ∷ plain_arg q ∷ [])

abbrev pub with_slice : ℕ → ℕ → List Line → ℕ → Built
with_slice high low lines p = with_word lines (line.Slice high low) (high - low + 1) (plain_arg p ∷ [])

-- an extension by 0 has no line
abbrev pub with_zeros : ℕ → List Line → ℕ → Built
with_zeros zero lines p = (lines, p)
with_zeros (suc n) lines p = with_word lines (line.Uext (suc n)) (width_at lines p + suc n) (plain_arg p ∷ [])

abbrev pub with_signs : ℕ → List Line → ℕ → Built
with_signs zero lines p = (lines, p)
with_signs (suc n) lines p = with_word lines (line.Sext (suc n)) (width_at lines p + suc n) (plain_arg p ∷ [])

abbrev pub with_constant : List Line → BitVector → Built
with_constant lines c = with_word lines (line.Constant c) c.width []

-- truth values are the constants one and zero
abbrev pub with_datum : List Enumeration → List Line → Datum → Built
with_datum es lines (datum.Truth true) = with_word lines line.One 1 []
with_datum es lines (datum.Truth false) = with_word lines line.Zero 1 []
with_datum es lines d = with_constant lines (code_of es d)

-- ---- chains

-- from the left
abbrev pub folded_lines : Binary → Built → List ℕ → Built
folded_lines b m [] = m
folded_lines b m (q ∷ qs) = folded_lines b (with_binary b m.0 m.1 q) qs

abbrev pub chain_lines : Binary → List Line → List ℕ → Built
chain_lines b lines [] = (lines, 0)
chain_lines b lines (p ∷ ps) = folded_lines b (lines, p) ps

abbrev pub with_implication : ℕ → Built → Built
with_implication p m = with_binary two.Implies m.0 p m.1

-- from the right
abbrev pub implied_lines : List Line → ℕ → List ℕ → Built
implied_lines lines p [] = (lines, p)
implied_lines lines p (q ∷ qs) = with_implication p (implied_lines lines q qs)

-- each with the next one
abbrev pub neighbours : {A : Type 0} → A → List A → List (A × A)
neighbours x [] = []
neighbours x (y ∷ ys) = (x, y) ∷ neighbours y ys

-- each with each later one
abbrev pub pairs_of : {A : Type 0} → List A → List (A × A)
pairs_of [] = []
pairs_of (x ∷ xs) = map (λ y. (x, y)) xs ++ pairs_of xs

abbrev pub followed_by : ℕ → AllBuilt → AllBuilt
followed_by p rest = (rest.0, p ∷ rest.1)

-- one line for each pair
abbrev pub paired_lines : Binary → List Line → List (ℕ × ℕ) → AllBuilt
paired_lines b lines [] = (lines, [])
paired_lines b lines (x ∷ xs) = followed_by (with_binary b lines x.0 x.1).1 (paired_lines b (with_binary b lines x.0 x.1).0 xs)

-- all pairs meet the comparison
abbrev pub compared_lines : Binary → List Line → List (ℕ × ℕ) → Built
compared_lines b lines xs = chain_lines two.And (paired_lines b lines xs).0 (paired_lines b lines xs).1

-- ---- operators

abbrev pub with_operator : TermOp → List Line → List ℕ → Built
with_operator op.Not lines (p ∷ []) = with_unary one.Not lines p
with_operator op.And lines ps = chain_lines two.And lines ps
with_operator op.Or lines ps = chain_lines two.Or lines ps
with_operator op.Xor lines ps = chain_lines two.Xor lines ps
with_operator op.Implies lines (p ∷ ps) = implied_lines lines p ps
with_operator op.Equal lines (p ∷ ps) = compared_lines two.Eq lines (neighbours p ps)
with_operator op.Distinct lines ps = compared_lines two.Neq lines (pairs_of ps)
with_operator op.Ite lines (c ∷ p ∷ q ∷ []) = with_ite lines c p q
with_operator op.Concat lines (p ∷ q ∷ []) = with_binary two.Concat lines p q
with_operator (op.Extract high low) lines (p ∷ []) = with_slice high low lines p
with_operator (op.ZeroExtend n) lines (p ∷ []) = with_zeros n lines p
with_operator (op.SignExtend n) lines (p ∷ []) = with_signs n lines p
with_operator (op.BvUnary u) lines (p ∷ []) = with_unary u lines p
with_operator (op.BvBinary b) lines ps = chain_lines b lines ps
with_operator o lines ps = (lines, 0)

-- ---- terms

-- what a call of a function makes of lines and the places of its arguments
abbrev pub CallLines : Type 0
CallLines = ℕ → List Line → List ℕ → Built

abbrev pub place_in : List ℕ → ℕ → ℕ
place_in ps i = slice_index_or ps i 0

-- Variables have their words at places given, those of later values for the primed ones. What a `let` binds has its lines once.
abbrev mutual
  pub with_term : List Enumeration → CallLines → (ℕ → ℕ) → (ℕ → ℕ) → List ℕ → List Line → Tree → Built
  with_term es calls now later bounds lines (constant d) = with_datum es lines d
  with_term es calls now later bounds lines (variable v primed) = (lines, if primed then later v else now v)
  with_term es calls now later bounds lines (bound i) = (lines, place_in bounds i)
  with_term es calls now later bounds lines (apply o ts) =
      with_operator o (with_terms es calls now later bounds lines ts).0 (with_terms es calls now later bounds lines ts).1
  with_term es calls now later bounds lines (binding names ts t) =
      with_term es calls now later (bounds ++ (with_terms es calls now later bounds lines ts).1) (with_terms es calls now later bounds lines ts).0 t
  with_term es calls now later bounds lines (call n ts) =
      calls n (with_terms es calls now later bounds lines ts).0 (with_terms es calls now later bounds lines ts).1

  pub with_terms : List Enumeration → CallLines → (ℕ → ℕ) → (ℕ → ℕ) → List ℕ → List Line → Trees → AllBuilt
  with_terms es calls now later bounds lines no_trees = (lines, [])
  with_terms es calls now later bounds lines (tree t ts) =
      followed_by (with_term es calls now later bounds lines t).1 (with_terms es calls now later bounds (with_term es calls now later bounds lines t).0 ts)

-- what calls of the first k functions make: the lines of the function's body, once a call
abbrev pub call_lines : List Enumeration → List PlainFunction → ℕ → CallLines
call_lines es fs zero n lines ps = (lines, 0)
call_lines es fs (suc k) n lines ps =
    if nat_eq n k then with_term es (call_lines es fs k) (place_in ps) (place_in ps) [] lines (body_at fs k) else call_lines es fs k n lines ps
