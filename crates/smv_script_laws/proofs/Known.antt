-- The symbols among the values of expressions are those of names.
use Rattle.std.proofs.Common.{ℕ, Bool, true, false, ◌&&◌, ◌||◌, ◌==◌, if◌then◌else◌, ℤ, pos, List, [], ◌∷◌}
use Rattle.word_core.specs.declared.kinds.Binary.{Binary}
use Rattle.word_core.specs.declared.kinds.Binary.TheVariants as OnWords
use Rattle.smv_text.specs.declared.tree.Path.{Path}
use Rattle.smv_text.specs.declared.operators.Prefix.{Prefix}
use Rattle.smv_text.specs.declared.operators.Prefix.TheVariants as OfPrefix
use Rattle.smv_text.specs.declared.operators.Infix.{Infix}
use Rattle.smv_text.specs.declared.operators.Infix.TheVariants.{Implies, Iff, Or, Xor, Xnor, And, Equal, Unequal, Less, Greater, LessEq, GreaterEq, Member, Union, ShiftLeft, ShiftRight, Plus, Minus, Times, Divide, Mod, Concat}
use Rattle.smv_text.specs.declared.operators.Function.{Function}
use Rattle.smv_text.specs.declared.operators.Function.TheVariants as OfFunction
use Rattle.smv_text.specs.Tree.{Tree as Expression, truth, number, literal, name, prefix, chain, choice, cases, select, call, next, set, range, Links, no_links, link, Branches, no_branches, branch}
use Rattle.smv_meaning.specs.declared.value.Value.{Value}
use Rattle.smv_meaning.specs.declared.value.Value.TheVariants.{Truth, Integer, Bits}
use Rattle.smv_meaning.specs.Values.{no_value, is_true}
use Rattle.smv_meaning.specs.Operators.{Operands, truths, integers, words, operands_of, logical_of, compared_of, calculated_of, shifted, concatenated, negation, minus, applied, signed, selected, called}
use Rattle.smv_meaning.specs.Expressions.{Denotation, alone, joined, is_from_right, is_last, denote, implications, linked as linked_values, chosen, taken, values_of}
use Rattle.smv_script_laws.specs.Kinds.{IsKnown}

-- ---- which values are known

module _ (symbols : List (List ℕ)) where
  known_if : (b : Bool) (v w : Value) → IsKnown symbols v → IsKnown symbols w → IsKnown symbols (if b then v else w)
  known_if true v w h k = h
  known_if false v w h k = k

  known_logical : (f : Bool → Bool → Bool) (b : Binary) (o : Operands) → IsKnown symbols (logical_of f b o)
  known_logical f b (truths x y) = tt
  known_logical f b (words v w) = known_if (v.width == w.width) (Bits _) no_value tt tt
  known_logical f b o = tt

  known_compared : (f : ℤ → ℤ → Bool) (b : Binary) (o : Operands) → IsKnown symbols (compared_of f b o)
  known_compared f b (integers x y) = tt
  known_compared f b (words v w) = known_if (v.width == w.width) (Truth _) no_value tt tt
  known_compared f b o = tt

  known_calculated : (f : ℤ → ℤ → ℤ) (b : Binary) (o : Operands) → IsKnown symbols (calculated_of f b o)
  known_calculated f b (integers x y) = tt
  known_calculated f b (words v w) = known_if (v.width == w.width) (Bits _) no_value tt tt
  known_calculated f b o = tt

  known_shifted : (b : Binary) (v w : Value) → IsKnown symbols (shifted b v w)
  known_shifted b (Bits v) (Integer (pos n)) = known_if _ (Bits _) no_value tt tt
  known_shifted b v w = tt

  known_concatenated : (v w : Value) → IsKnown symbols (concatenated v w)
  known_concatenated (Bits v) (Bits w) = known_if _ (Bits _) no_value tt tt
  known_concatenated v w = tt

  known_negation : (v : Value) → IsKnown symbols (negation v)
  known_negation (Truth b) = tt
  known_negation (Bits w) = tt
  known_negation v = tt

  known_minus : (v : Value) → IsKnown symbols (minus v)
  known_minus (Integer z) = tt
  known_minus (Bits w) = tt
  known_minus v = tt

  pub known_applied : (o : Infix) (v w : Value) → IsKnown symbols (applied o v w)
  known_applied Implies v w = known_logical (λ p q. p || q) OnWords.Or (operands_of (negation v) w)
  known_applied Iff v w = known_logical _ OnWords.Xnor (operands_of v w)
  known_applied Or v w = known_logical (λ p q. p || q) OnWords.Or (operands_of v w)
  known_applied Xor v w = known_logical _ OnWords.Xor (operands_of v w)
  known_applied Xnor v w = known_logical _ OnWords.Xnor (operands_of v w)
  known_applied And v w = known_logical (λ p q. p && q) OnWords.And (operands_of v w)
  known_applied Equal v w = tt
  known_applied Unequal v w = tt
  known_applied Less v w = known_compared _ OnWords.Ult (operands_of v w)
  known_applied Greater v w = known_compared _ OnWords.Ugt (operands_of v w)
  known_applied LessEq v w = known_compared _ OnWords.Ulte (operands_of v w)
  known_applied GreaterEq v w = known_compared _ OnWords.Ugte (operands_of v w)
  known_applied Member v w = tt
  known_applied Union v w = tt
  known_applied ShiftLeft v w = known_shifted OnWords.Sll v w
  known_applied ShiftRight v w = known_shifted OnWords.Srl v w
  known_applied Plus v w = known_calculated _ OnWords.Add (operands_of v w)
  known_applied Minus v w = known_calculated _ OnWords.Sub (operands_of v w)
  known_applied Times v w = known_calculated _ OnWords.Mul (operands_of v w)
  known_applied Divide v w = known_calculated _ OnWords.Udiv (operands_of v w)
  known_applied Mod v w = known_calculated _ OnWords.Urem (operands_of v w)
  known_applied Concat v w = known_concatenated v w

  pub known_joined : (o : Infix) (d e : Denotation) → IsKnown symbols (joined o d e).value
  known_joined Member d e = tt
  known_joined Union d e = tt
  known_joined o d e = known_applied o d.value e.value

  known_signed : (sign : Prefix) (n : ℕ) (v : Value) → IsKnown symbols v → IsKnown symbols (signed sign n v)
  known_signed OfPrefix.Not n v h = known_if _ (negation v) v (known_negation v) h
  known_signed OfPrefix.Minus n v h = known_if _ (minus v) v (known_minus v) h

  known_selected : (high low : ℕ) (v : Value) → IsKnown symbols (selected high low v)
  known_selected high low (Bits w) = known_if _ (Bits _) no_value tt tt
  known_selected high low v = tt

  known_called : (f : Function) (vs : List Value) → IsKnown symbols (called f vs)
  known_called OfFunction.Uwconst (Integer (pos v) ∷ Integer (pos n) ∷ []) = known_if _ (Bits _) no_value tt tt
  known_called OfFunction.Extend (Bits v ∷ Integer (pos n) ∷ []) = known_if _ (Bits _) no_value tt tt
  known_called OfFunction.Resize (Bits v ∷ Integer (pos n) ∷ []) = known_if _ (Bits _) no_value tt tt
  known_called OfFunction.Uwconst vs = tt
  known_called OfFunction.Extend vs = tt
  known_called OfFunction.Resize vs = tt
  known_called OfFunction.Bool (Bits v ∷ []) = tt
  known_called OfFunction.Bool vs = tt
  known_called OfFunction.Word1 (Truth b ∷ []) = tt
  known_called OfFunction.Word1 vs = tt
  known_called OfFunction.Toint (Bits v ∷ []) = tt
  known_called OfFunction.Toint vs = tt
  known_called OfFunction.Count vs = tt
  known_called OfFunction.Max (Integer a ∷ Integer b ∷ []) = tt
  known_called OfFunction.Max vs = tt
  known_called OfFunction.Min (Integer a ∷ Integer b ∷ []) = tt
  known_called OfFunction.Min vs = tt
  known_called OfFunction.Abs (Integer a ∷ []) = tt
  known_called OfFunction.Abs vs = tt

  known_linked : (f g : Path → Value) (d : Denotation) (ls : Links) → IsKnown symbols d.value → IsKnown symbols (linked_values f g d ls).value
  known_linked f g d no_links h = h
  known_linked f g d (link o e ls) h = known_linked f g (joined o d (denote f g e)) ls (known_joined o d (denote f g e))

  known_implications : (f g : Path → Value) (v : Value) (ls : Links) → IsKnown symbols v → IsKnown symbols (implications f g v ls)
  known_implications f g v no_links h = h
  known_implications f g v (link o e ls) h = known_applied Implies v (implications f g (denote f g e).value ls)

  known_choice : (b : Bool) (d e : Denotation) → IsKnown symbols d.value → IsKnown symbols e.value → IsKnown symbols (if b then d else e).value
  known_choice true d e h k = h
  known_choice false d e h k = k

  mutual
    pub known_value : (f g : Path → Value) → ((x : Path) → IsKnown symbols (f x)) → ((x : Path) → IsKnown symbols (g x)) → (e : Expression) → IsKnown symbols (denote f g e).value
    known_value f g hf hg (truth p b) = tt
    known_value f g hf hg (number p n) = tt
    known_value f g hf hg (literal p w) = tt
    known_value f g hf hg (name p x) = hf x
    known_value f g hf hg (prefix p sign n e) = known_signed sign n (denote f g e).value (known_value f g hf hg e)
    known_value f g hf hg (chain p e ls) =
        known_choice (is_from_right ls) (alone (implications f g (denote f g e).value ls)) (linked_values f g (denote f g e) ls)
        (known_implications f g (denote f g e).value ls (known_value f g hf hg e)) (known_linked f g (denote f g e) ls (known_value f g hf hg e))
    known_value f g hf hg (choice p bs e) = known_chosen f g hf hg bs (denote f g e) (known_value f g hf hg e)
    known_value f g hf hg (cases p bs) = known_taken f g hf hg bs
    known_value f g hf hg (select p e high low) = known_selected high low (denote f g e).value
    known_value f g hf hg (call p h es) = known_called h (values_of f g es)
    known_value f g hf hg (next p e) = known_value g g hg hg e
    known_value f g hf hg (set p es) = tt
    known_value f g hf hg (range p low high) = tt

    known_chosen : (f g : Path → Value) → ((x : Path) → IsKnown symbols (f x)) → ((x : Path) → IsKnown symbols (g x)) → (bs : Branches) (d : Denotation) → IsKnown symbols d.value → IsKnown symbols (chosen f g bs d).value
    known_chosen f g hf hg no_branches d h = h
    known_chosen f g hf hg (branch k e rest) d h =
        known_choice (is_true (denote f g k).value) (denote f g e) (chosen f g rest d) (known_value f g hf hg e) (known_chosen f g hf hg rest d h)

    known_taken : (f g : Path → Value) → ((x : Path) → IsKnown symbols (f x)) → ((x : Path) → IsKnown symbols (g x)) → (bs : Branches) → IsKnown symbols (taken f g bs).value
    known_taken f g hf hg no_branches = tt
    known_taken f g hf hg (branch k e rest) =
        known_choice (is_true (denote f g k).value || is_last rest) (denote f g e) (taken f g rest) (known_value f g hf hg e) (known_taken f g hf hg rest)
