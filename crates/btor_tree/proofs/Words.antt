-- The words of a frame.
use Rattle.std.proofs.Common.{◌≡◌, ℕ, ◌-◌, ◌^◌, ◌<◌, List, [], ◌∷◌, refl, ap, ◌∙◌}
use Rattle.word_core.specs.Words.{BitVector}
use Rattle.word_core.specs.Table.{unary_of, binary_of, ite_of, slice_of, uext_of, sext_of}
use Rattle.btor_tree.specs.declared.args.Arg.{Arg}
use Rattle.btor_tree.specs.declared.lines.Line.{Line}
use Rattle.btor_tree.specs.declared.lines.LineOp.{LineOp}
use Rattle.btor_tree.specs.declared.lines.LineOp.TheVariants.{Input, State, Constant, One, Zero, Ones, Unary, Binary, Ite, Slice, Uext, Sext}
use Rattle.btor_tree.specs.Fits.{AreEarlier, OpFits, sort_at}
use Rattle.btor_tree.specs.Frame.{GivenFits, nothing, word_at, signed_word, operand, Equation}

-- the rows have the same words below n
abbrev pub SameBelow : ℕ → List BitVector → List BitVector → Type 0
SameBelow n row other = (k : ℕ) → k < n → word_at row k ≡ word_at other k

pub same_operand : (n : ℕ) (row other : List BitVector) (a : Arg) → SameBelow n row other → a.line < n → operand row a ≡ operand other a
same_operand n row other a same h = ap (signed_word a.negated) (same a.line h)

-- an equation reads earlier words alone
pub same_equation : (before : List Line) (row other : List BitVector) (n s : ℕ) (op : LineOp) (args : List Arg) (x : BitVector) → SameBelow n row other → AreEarlier n args → Equation before row s op args x → Equation before other s op args x
same_equation before row other n s (Unary op) (a ∷ []) x same e h = h ∙ ap (unary_of op) (same_operand n row other a same e.0)
same_equation before row other n s (Binary op) (a ∷ b ∷ []) x same e h =
    h ∙ ap (λ u. binary_of op u (operand row b)) (same_operand n row other a same e.0) ∙ ap (λ v. binary_of op (operand other a) v) (same_operand n row other b same e.1.0)
same_equation before row other n s Ite (c ∷ a ∷ b ∷ []) x same e h =
    h ∙ ap (λ u. ite_of u (operand row a) (operand row b)) (same_operand n row other c same e.0)
    ∙ ap (λ u. ite_of (operand other c) u (operand row b)) (same_operand n row other a same e.1.0)
    ∙ ap (λ u. ite_of (operand other c) (operand other a) u) (same_operand n row other b same e.1.1.0)
same_equation before row other n s (Slice high low) (a ∷ []) x same e h = h ∙ ap (λ u. slice_of u high low) (same_operand n row other a same e.0)
same_equation before row other n s (Uext k) (a ∷ []) x same e h = h ∙ ap (λ u. uext_of u k) (same_operand n row other a same e.0)
same_equation before row other n s (Sext k) (a ∷ []) x same e h = h ∙ ap (λ u. sext_of u k) (same_operand n row other a same e.0)
same_equation before row other n s op args x same e h = h

-- the word that a line's equation gives, where the line is no input and no state
abbrev pub computed : List Line → List BitVector → ℕ → LineOp → List Arg → BitVector → BitVector
computed before row s Input args given = given
computed before row s State args given = given
computed before row s (Constant c) args given = c
computed before row s One args given = record { width = sort_at before s; bits = 1 }
computed before row s Zero args given = record { width = sort_at before s; bits = 0 }
computed before row s Ones args given = record { width = sort_at before s; bits = 2 ^ sort_at before s - 1 }
computed before row s (Unary op) (a ∷ []) given = unary_of op (operand row a)
computed before row s (Binary op) (a ∷ b ∷ []) given = binary_of op (operand row a) (operand row b)
computed before row s Ite (c ∷ a ∷ b ∷ []) given = ite_of (operand row c) (operand row a) (operand row b)
computed before row s (Slice high low) (a ∷ []) given = slice_of (operand row a) high low
computed before row s (Uext n) (a ∷ []) given = uext_of (operand row a) n
computed before row s (Sext n) (a ∷ []) given = sext_of (operand row a) n
computed before row s op args given = nothing

pub computed_equation : (before : List Line) (row : List BitVector) (s : ℕ) (op : LineOp) (args : List Arg) (given : BitVector) → OpFits before s op args → GivenFits before s op given → Equation before row s op args (computed before row s op args given)
computed_equation before row s Input args given f g = g
computed_equation before row s State args given f g = g
computed_equation before row s (Unary op) [] given f g = f.1
computed_equation before row s (Unary op) (a ∷ b ∷ more) given f g = f.1
computed_equation before row s (Binary op) [] given f g = f.1
computed_equation before row s (Binary op) (a ∷ []) given f g = f.1
computed_equation before row s (Binary op) (a ∷ b ∷ c ∷ more) given f g = f.1
computed_equation before row s Ite [] given f g = f.1
computed_equation before row s Ite (a ∷ []) given f g = f.1
computed_equation before row s Ite (a ∷ b ∷ []) given f g = f.1
computed_equation before row s Ite (a ∷ b ∷ c ∷ d ∷ more) given f g = f.1
computed_equation before row s (Slice high low) [] given f g = f.1
computed_equation before row s (Slice high low) (a ∷ b ∷ more) given f g = f.1
computed_equation before row s (Uext n) [] given f g = f.1
computed_equation before row s (Uext n) (a ∷ b ∷ more) given f g = f.1
computed_equation before row s (Sext n) [] given f g = f.1
computed_equation before row s (Sext n) (a ∷ b ∷ more) given f g = f.1
computed_equation before row s op args given f g = refl

-- an equation has one solution
pub one_solution : (before : List Line) (row : List BitVector) (s : ℕ) (op : LineOp) (args : List Arg) (x given : BitVector) → Equation before row s op args x → x ≡ computed before row s op args x
one_solution before row s Input args x given h = refl
one_solution before row s State args x given h = refl
one_solution before row s (Unary op) [] x given h = absurd h
one_solution before row s (Unary op) (a ∷ b ∷ more) x given h = absurd h
one_solution before row s (Binary op) [] x given h = absurd h
one_solution before row s (Binary op) (a ∷ []) x given h = absurd h
one_solution before row s (Binary op) (a ∷ b ∷ c ∷ more) x given h = absurd h
one_solution before row s Ite [] x given h = absurd h
one_solution before row s Ite (a ∷ []) x given h = absurd h
one_solution before row s Ite (a ∷ b ∷ []) x given h = absurd h
one_solution before row s Ite (a ∷ b ∷ c ∷ d ∷ more) x given h = absurd h
one_solution before row s (Slice high low) [] x given h = absurd h
one_solution before row s (Slice high low) (a ∷ b ∷ more) x given h = absurd h
one_solution before row s (Uext n) [] x given h = absurd h
one_solution before row s (Uext n) (a ∷ b ∷ more) x given h = absurd h
one_solution before row s (Sext n) [] x given h = absurd h
one_solution before row s (Sext n) (a ∷ b ∷ more) x given h = absurd h
one_solution before row s op args x given h = h
