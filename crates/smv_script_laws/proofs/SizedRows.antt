-- The bounds for each row of the table of operators and functions.
use Rattle.std.proofs.Common.{◌≡◌, ℕ, zero, suc, ◌+◌, ◌-◌, ◌≤◌, max, Bool, true, false, ◌&&◌, ◌==◌, nat_lt, ℤ, length, refl, arith}
use Rattle.word_core.specs.declared.kinds.Binary.{Binary}
use Rattle.word_core.specs.declared.kinds.Binary.TheVariants as OnWords
use Rattle.word_core.specs.declared.kinds.Unary.TheVariants as OnWord
use Rattle.smv_text.specs.declared.operators.Prefix.{Prefix}
use Rattle.smv_text.specs.declared.operators.Prefix.TheVariants as OfPrefix
use Rattle.smv_text.specs.declared.operators.Infix.{Infix}
use Rattle.smv_text.specs.declared.operators.Infix.TheVariants.{Implies, Iff, Or, Xor, Xnor, And, Unequal, Member, Union, ShiftLeft, ShiftRight, Plus, Times}
use Rattle.smv_text.specs.declared.operators.Function.{Function}
use Rattle.smv_text.specs.declared.operators.Function.TheVariants as OfFunction
use Rattle.moxi_terms.specs.declared.data.Datum.{Datum}
use Rattle.moxi_terms.specs.declared.data.TermOp.{TermOp}
use Rattle.moxi_terms.specs.declared.data.TermOp.TheVariants as op
use Rattle.moxi_terms.specs.Tree.{Tree, constant, variable, bound, apply, binding, Trees, no_trees, tree, list_of}
use Rattle.moxi_flat.specs.Terms.{operator_size}
use Rattle.smv_script.specs.Operators.{word_term, any_term, sign_op, repeated, logical_op, infix_op, joins_with, infix_term, link_term, extended_term, selected_term, resized_term, counted_terms, sum_term, t_and_u, is_below, Arguments, function_term, between_term, among_term}
use Rattle.smv_script_laws.proofs.Measures.{IsLeaf, Within, Inside, Together, AllWithin, none_within, one_within, within_more, within_if}
use Rattle.moxi_terms.specs.Applications.{one, two, equal_term, choice_term}

pub constant_leaf : (d : Datum) → IsLeaf (constant d)
constant_leaf d = record { size = refl; height = refl; brackets = refl }

pub variable_leaf : (v : ℕ) (b : Bool) → IsLeaf (variable v b)
variable_leaf v b = record { size = refl; height = refl; brackets = refl }

pub bound_leaf : (i : ℕ) → IsLeaf (bound i)
bound_leaf i = record { size = refl; height = refl; brackets = refl }

pub leaf_within : (n h : ℕ) (t : Tree) → IsLeaf t → Within (suc n) (suc h) t
leaf_within n h t l = record {
  size = omega (arith, l.size);
  height = omega (arith, l.height);
  brackets = omega (arith, l.brackets);
}

-- ---- applications

pub one_applied : (o : TermOp) → operator_size o 1 ≡ 1 → {n h : ℕ} (a : Tree) → Within n h a → Within (suc n) (suc h) (apply o (one a))
one_applied o p a v = record {
  size = omega (arith, p, v.size);
  height = omega (arith, v.height);
  brackets = omega (arith, v.brackets);
}

pub two_applied : (o : TermOp) → operator_size o 2 ≡ 1 → {n m h i : ℕ} (a b : Tree) → Within n h a → Within m i b → Within (n + m) (suc (max h i)) (apply o (two a b))
two_applied o p a b v w = record {
  size = omega (arith, p, v.size, w.size);
  height = omega (arith, v.height, w.height);
  brackets = omega (arith, v.brackets, w.brackets);
}

one_of_two : (o q : TermOp) → operator_size o 1 ≡ 1 → operator_size q 2 ≡ 1 → {n m h i : ℕ} (a b : Tree) → Within n h a → Within m i b
    → Within (suc (n + m)) (suc (max h i)) (apply o (one (apply q (two a b))))
one_of_two o q p r a b v w = record {
  size = omega (arith, p, r, v.size, w.size);
  height = omega (arith, v.height, w.height);
  brackets = omega (arith, v.brackets, w.brackets);
}

two_with_one : (o q : TermOp) → operator_size o 2 ≡ 1 → operator_size q 1 ≡ 1 → {n m h i : ℕ} (a b : Tree) → Within n h a → Within m i b
    → Within (suc (n + m)) (suc (max h i)) (apply o (two (apply q (one a)) b))
two_with_one o q p r a b v w = record {
  size = omega (arith, p, r, v.size, w.size);
  height = omega (arith, v.height, w.height);
  brackets = omega (arith, v.brackets, w.brackets);
}

pub three_chosen : {n m p h i j : ℕ} (c a b : Tree) → Within n h c → Within m i a → Within p j b → Within (n + (m + p)) (suc (max (max h i) j)) (choice_term c a b)
three_chosen c a b u v w = record {
  size = omega (arith, u.size, v.size, w.size);
  height = omega (arith, u.height, v.height, w.height);
  brackets = omega (arith, u.brackets, v.brackets, w.brackets);
}

pub inside_chosen : {n m p h i j : ℕ} (c a b : Tree) → Within n h c → Inside m i a → Inside p j b → Inside (n + (m + p)) (suc (max (max h i) j)) (choice_term c a b)
inside_chosen c a b u v w = record {
  size = omega (arith, u.size, v.size, w.size);
  height = omega (arith, u.height, v.height, w.height);
  brackets = omega (arith, u.brackets, v.brackets, w.brackets);
}

pub equal_inside : {n h : ℕ} (x a : Tree) → IsLeaf x → Within n h a → Inside n h (equal_term x a)
equal_inside x a l w = record {
  size = omega (arith, l.size, w.size);
  height = omega (arith, l.height, w.height, w.brackets);
  brackets = omega (arith, l.brackets, w.brackets);
}

pub between_inside : (width : ℕ) (low high : ℤ) (x : Tree) → IsLeaf x → Inside 3 1 (between_term width low high x)
between_inside width low high x l = record {
  size = omega (arith, l.size);
  height = omega (arith, l.height);
  brackets = omega (arith, l.brackets);
}

-- an application to any number of arguments
pub joined_within : (o : TermOp) {n h : ℕ} (ts : Trees) → operator_size o (length (list_of ts)) ≡ 1 → Together n h ts → 1 ≤ h → Within (suc n) (suc h) (apply o ts)
joined_within o ts p w a = record {
  size = omega (arith, p, w.size);
  height = omega (arith, w.height);
  brackets = omega (arith, w.brackets, a);
}

pub any_inside : {n h : ℕ} (ts : Trees) → Together n h ts → Inside (suc n) (suc h) (any_term ts)
any_inside no_trees w = record { size = omega arith; height = omega arith; brackets = omega arith }
any_inside (tree a no_trees) w = record {
  size = omega (arith, w.size);
  height = omega (arith, w.height);
  brackets = omega (arith, w.brackets);
}
any_inside (tree a (tree b more)) w = record {
  size = omega (arith, w.size);
  height = omega (arith, w.height);
  brackets = omega (arith, w.brackets);
}

-- ---- signs

sign_counts : (sign : Prefix) (words : Bool) → operator_size (sign_op sign words) 1 ≡ 1
sign_counts OfPrefix.Not true = refl
sign_counts OfPrefix.Not false = refl
sign_counts OfPrefix.Minus words = refl

repeated_within : (o : TermOp) → operator_size o 1 ≡ 1 → (n : ℕ) {m h : ℕ} (a : Tree) → Within m h a → Within (n + m) (n + h) (repeated o n a)
repeated_within o p zero a w = within_more a w (omega arith) (omega arith)
repeated_within o p (suc n) a w = within_more _ (one_applied o p (repeated o n a) (repeated_within o p n a w)) (omega arith) (omega arith)

pub signed_within : (sign : Prefix) (words : Bool) (n : ℕ) {m h : ℕ} (a : Tree) → Within m h a → Within (n + m) (n + h) (repeated (sign_op sign words) n a)
signed_within sign words n a w = repeated_within (sign_op sign words) (sign_counts sign words) n a w

-- ---- operators between two operands

logical_counts : (words : Bool) (o : TermOp) (b : Binary) (n : ℕ) → operator_size o n ≡ 1 → operator_size (logical_op words o b) n ≡ 1
logical_counts true o b n p = refl
logical_counts false o b n p = p

-- of operators of which a chain is one application, for any number of operands
pub op_counts : (o : Infix) (words : Bool) (n : ℕ) → joins_with o o ≡ true → operator_size (infix_op o words) n ≡ 1
op_counts And words n j = logical_counts words op.And OnWords.And n refl
op_counts Or words n j = logical_counts words op.Or OnWords.Or n refl
op_counts Xor words n j = logical_counts words op.Xor OnWords.Xor n refl
op_counts Plus words n j = refl
op_counts Times words n j = refl
op_counts o words n j = cc

two_counts : (o : Infix) (words : Bool) → operator_size (infix_op o words) 2 ≡ 1
two_counts And words = logical_counts words op.And OnWords.And 2 refl
two_counts Or words = logical_counts words op.Or OnWords.Or 2 refl
two_counts Xor words = logical_counts words op.Xor OnWords.Xor 2 refl
two_counts o words = refl

one_more : {n h : ℕ} (t : Tree) → Within n h t → Within (suc n) h t
one_more t w = record { size = omega (arith, w.size); height = w.height; brackets = w.brackets }

nothing_within : (n h : ℕ) (d : Datum) → Within (suc n) (suc h) (constant d)
nothing_within n h d = record { size = omega arith; height = omega arith; brackets = omega arith }

pub infix_within : (o : Infix) (words : Bool) {n m h i : ℕ} (a b : Tree) → Within n h a → Within m i b → Within (suc (n + m)) (suc (max h i)) (infix_term o words a b)
infix_within Implies true a b v w = two_with_one (op.BvBinary OnWords.Or) (op.BvUnary OnWord.Not) refl refl a b v w
infix_within Implies false a b v w = one_more _ (two_applied op.Implies refl a b v w)
infix_within Iff true a b v w = one_of_two (op.BvUnary OnWord.Not) (op.BvBinary OnWords.Xor) refl refl a b v w
infix_within Iff false a b v w = one_more _ (two_applied op.Equal refl a b v w)
infix_within Xnor true a b v w = one_of_two (op.BvUnary OnWord.Not) (op.BvBinary OnWords.Xor) refl refl a b v w
infix_within Xnor false a b v w = one_of_two op.Not op.Xor refl refl a b v w
infix_within Unequal words a b v w = one_of_two op.Not op.Equal refl refl a b v w
infix_within Member words a b v w = nothing_within _ _ _
infix_within Union words a b v w = nothing_within _ _ _
infix_within o words a b v w = one_more _ (two_applied (infix_op o words) (two_counts o words) a b v w)

-- a word term in place of the operand
word_within : {m i : ℕ} (width bits : ℕ) (b : Tree) → Within m i b → Within m i (word_term width bits)
word_within width bits b w = record { size = omega (arith, w.size); height = omega (arith, w.brackets); brackets = omega (arith, w.brackets) }

pub link_within : (o : Infix) (words : Bool) (m amount : ℕ) {n p h i : ℕ} (a b among : Tree) → Within n h a → Within p i b → Within (suc (n + p)) (suc (max h i)) among
    → Within (suc (n + p)) (suc (max h i)) (link_term o words m amount a b among)
link_within Member words m amount a b among v w x = x
link_within ShiftLeft words m amount a b among v w x = infix_within ShiftLeft words a (word_term m amount) v (word_within m amount b w)
link_within ShiftRight words m amount a b among v w x = infix_within ShiftRight words a (word_term m amount) v (word_within m amount b w)
link_within o words m amount a b among v w x = infix_within o words a b v w

-- a name is tested as it is, anything else is bound first
pub among_within : (named : Bool) (k : ℕ) {n m h i : ℕ} (a : Tree) (member : ℕ → Tree → Tree) → (named ≡ true → IsLeaf a) → Within n h a
    → ((j : ℕ) (x : Tree) → IsLeaf x → Inside m i (member j x)) → Within (suc (n + m)) (suc (max h i)) (among_term named k a member)
among_within true k a member l v w =
    let x = w k a (l refl) in
    record { size = omega (arith, x.size); height = omega (arith, x.height); brackets = omega (arith, x.brackets) }
among_within false k a member l v w =
    let x = w (k + 1) (bound k) (bound_leaf k) in
    record { size = omega (arith, v.size, x.size); height = omega (arith, v.height, x.height); brackets = omega (arith, v.brackets, x.brackets) }

-- ---- selections and functions

pub selected_within : (width high low : ℕ) {n h : ℕ} (a : Tree) → Within n h a → Within (suc n) (suc h) (selected_term width high low a)
selected_within width high low a w = within_if (low == 0 && high + 1 == width) a _ (within_more a w (omega arith) (omega arith)) (one_applied (op.Extract high low) refl a w)

extended_within : (k : ℕ) {n h : ℕ} (a : Tree) → Within n h a → Within (suc n) (suc h) (extended_term k a)
extended_within k a w = within_if (k == 0) a _ (within_more a w (omega arith) (omega arith)) (one_applied (op.ZeroExtend k) refl a w)

resized_within : (width k : ℕ) {n h : ℕ} (a : Tree) → Within n h a → Within (suc n) (suc h) (resized_term width k a)
resized_within width k a w = within_if (nat_lt k width) _ _ (one_applied (op.Extract (k - 1) 0) refl a w) (extended_within (k - width) a w)

counted_together : (width : ℕ) {n h : ℕ} {ts : Trees} → AllWithin n h ts → Together n h (counted_terms width ts)
counted_together width none_within = record { size = omega arith; height = omega arith; brackets = omega arith }
counted_together width (one_within w rest) =
    let r = counted_together width rest in
    record {
      size = omega (arith, w.size, r.size);
      height = omega (arith, w.height, w.brackets, r.height);
      brackets = omega (arith, w.brackets, r.brackets);
    }

sum_within : {n h : ℕ} (ts : Trees) → 1 ≤ h → Together n h ts → Within (2 + n) (suc h) (sum_term ts)
sum_within no_trees a w = record { size = omega arith; height = omega arith; brackets = omega arith }
sum_within (tree a no_trees) p w = record { size = omega (arith, w.size); height = omega (arith, w.height); brackets = omega (arith, w.brackets) }
sum_within (tree a (tree b more)) p w = record { size = omega (arith, w.size); height = omega (arith, w.height); brackets = omega (arith, p, w.brackets) }

-- a term in which no argument stands
constant_within : (n h : ℕ) (d : Datum) → Within (2 + n) (suc h) (constant d)
constant_within n h d = record { size = omega arith; height = omega arith; brackets = omega arith }

-- one more name is bound for the greater or lesser of two
extreme_within : (k i j : ℕ) {n m h l : ℕ} (a b : Tree) → Within n h a → Within m l b
    → Within (2 + (1 + (n + (1 + (m + 0))))) (suc (max h (max l 0))) (binding t_and_u (two a b) (choice_term (is_below k) (bound i) (bound j)))
extreme_within k i j a b v w = record {
  size = omega (arith, v.size, w.size);
  height = omega (arith, v.height, w.height, v.brackets);
  brackets = omega (arith, v.brackets, w.brackets);
}

function_alone : (width k : ℕ) (f : Function) (args : Arguments) {n h : ℕ} (a : Tree) → Within n h a → Within (2 + (1 + (n + 0))) (suc (max h 0)) (function_term width k f args (tree a no_trees))
function_alone width k OfFunction.Bool args a w = record { size = omega (arith, w.size); height = omega (arith, w.height, w.brackets); brackets = omega (arith, w.brackets) }
function_alone width k OfFunction.Word1 args a w = record { size = omega (arith, w.size); height = omega (arith, w.height, w.brackets); brackets = omega (arith, w.brackets) }
function_alone width k OfFunction.Toint args a w = within_more _ (extended_within (width - args.width) a w) (omega arith) (omega arith)
function_alone width k OfFunction.Uwconst args a w = constant_within _ _ _
function_alone width k OfFunction.Extend args a w = within_more _ (extended_within args.second a w) (omega arith) (omega arith)
function_alone width k OfFunction.Resize args a w = within_more _ (resized_within args.width args.second a w) (omega arith) (omega arith)
function_alone width k OfFunction.Count args a w = sum_within _ (omega (arith, w.brackets)) (counted_together width (one_within w none_within))
function_alone width k OfFunction.Max args a w = constant_within _ _ _
function_alone width k OfFunction.Min args a w = constant_within _ _ _
function_alone width k OfFunction.Abs args a w = record { size = omega (arith, w.size); height = omega (arith, w.height, w.brackets); brackets = omega (arith, w.brackets) }

pub function_within : (width k : ℕ) (f : Function) (args : Arguments) {n h : ℕ} {ts : Trees} → AllWithin n h ts → Within (2 + n) (suc h) (function_term width k f args ts)
function_within width k OfFunction.Bool args none_within = constant_within 0 0 _
function_within width k OfFunction.Word1 args none_within = constant_within 0 0 _
function_within width k OfFunction.Toint args none_within = constant_within 0 0 _
function_within width k OfFunction.Uwconst args none_within = constant_within 0 0 _
function_within width k OfFunction.Extend args none_within = constant_within 0 0 _
function_within width k OfFunction.Resize args none_within = constant_within 0 0 _
function_within width k OfFunction.Count args none_within = constant_within 0 0 _
function_within width k OfFunction.Max args none_within = constant_within 0 0 _
function_within width k OfFunction.Min args none_within = constant_within 0 0 _
function_within width k OfFunction.Abs args none_within = constant_within 0 0 _
function_within width k f args (one_within w none_within) = function_alone width k f args _ w
function_within width k OfFunction.Bool args (one_within w (one_within x none_within)) = constant_within _ _ _
function_within width k OfFunction.Bool args (one_within w (one_within x (one_within y more))) = constant_within _ _ _
function_within width k OfFunction.Word1 args (one_within w (one_within x none_within)) = constant_within _ _ _
function_within width k OfFunction.Word1 args (one_within w (one_within x (one_within y more))) = constant_within _ _ _
function_within width k OfFunction.Toint args (one_within w (one_within x none_within)) = constant_within _ _ _
function_within width k OfFunction.Toint args (one_within w (one_within x (one_within y more))) = constant_within _ _ _
function_within width k OfFunction.Uwconst args (one_within w (one_within x none_within)) = constant_within _ _ _
function_within width k OfFunction.Uwconst args (one_within w (one_within x (one_within y more))) = constant_within _ _ _
function_within width k OfFunction.Extend args (one_within w (one_within x none_within)) = within_more _ (extended_within args.second _ w) (omega arith) (omega arith)
function_within width k OfFunction.Extend args (one_within w (one_within x (one_within y more))) = within_more _ (extended_within args.second _ w) (omega arith) (omega arith)
function_within width k OfFunction.Resize args (one_within w (one_within x none_within)) = within_more _ (resized_within args.width args.second _ w) (omega arith) (omega arith)
function_within width k OfFunction.Resize args (one_within w (one_within x (one_within y more))) = within_more _ (resized_within args.width args.second _ w) (omega arith) (omega arith)
function_within width k OfFunction.Count args (one_within w (one_within x none_within)) = sum_within _ (omega (arith, w.brackets)) (counted_together width (one_within w (one_within x none_within)))
function_within width k OfFunction.Count args (one_within w (one_within x (one_within y more))) = sum_within _ (omega (arith, w.brackets)) (counted_together width (one_within w (one_within x (one_within y more))))
function_within width k OfFunction.Max args (one_within w (one_within x none_within)) = extreme_within k (k + 1) k _ _ w x
function_within width k OfFunction.Max args (one_within w (one_within x (one_within y more))) = constant_within _ _ _
function_within width k OfFunction.Min args (one_within w (one_within x none_within)) = extreme_within k k (k + 1) _ _ w x
function_within width k OfFunction.Min args (one_within w (one_within x (one_within y more))) = constant_within _ _ _
function_within width k OfFunction.Abs args (one_within w (one_within x none_within)) = constant_within _ _ _
function_within width k OfFunction.Abs args (one_within w (one_within x (one_within y more))) = constant_within _ _ _
