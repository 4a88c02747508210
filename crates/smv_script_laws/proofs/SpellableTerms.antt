-- The names that the terms of a script bind can be spelled: they are `t` and `u`.
use Rattle.std.proofs.Common.{ℕ, zero, suc, ◌+◌, ◌-◌, Bool, true, false, ◌&&◌, ◌==◌, nat_lt, if◌then◌else◌, refl}
use Rattle.smv_text.specs.declared.operators.Infix.{Infix}
use Rattle.smv_text.specs.declared.operators.Infix.TheVariants.{Implies, Iff, Xnor, Unequal, Member, Union, ShiftLeft, ShiftRight}
use Rattle.smv_text.specs.declared.operators.Function.{Function}
use Rattle.smv_text.specs.declared.operators.Function.TheVariants as OfFunction
use Rattle.smv_meaning.specs.Expressions.{is_implies}
use Rattle.smv_meaning.specs.Types.{is_union}
use Rattle.smv_flat.specs.FlatTree.{FlatTree, flat_truth, flat_number, flat_literal, flat_symbol, flat_item, flat_prefix, flat_chain, flat_choice, flat_cases, flat_select, flat_call, flat_set, flat_range, FlatLinks, no_flat_links, flat_link, FlatBranches, no_flat_branches, flat_branch, FlatTrees, no_flat_trees, flat_tree_then, flat_are_implies, flat_is_last}
use Rattle.moxi_terms.specs.declared.data.TermOp.{TermOp}
use Rattle.moxi_terms.specs.declared.data.TermOp.TheVariants as op
use Rattle.moxi_terms.specs.Tree.{Tree, bound, apply, Trees, no_trees, tree}
use Rattle.moxi_term_print.specs.StandingNames.{NamesAreSpellable, AllNamesAreSpellable}
use Rattle.std.specs.Prelude.{codes}
use Rattle.smv_script_laws.proofs.Spellable.{barred_spellable}
use Rattle.smv_script.specs.Operators.{any_term, repeated, joins_with, infix_term, link_term, front_width, selected_term, resized_term, extended_term, counted_terms, sum_term, Arguments, function_term, among_term}
use Rattle.smv_script.specs.Terms.{is_word, word_width, amount_of, is_name, arguments_of, Translation, Coding, translation, chain_translation, implied_term, folded_term, link_terms, link_members, chosen_translation, taken_translation, terms, members, are_flat_unions, all_join_with}

pub record IsNamed (x : Translation) : Type 0 where
  pub term : (k : ℕ) → NamesAreSpellable (x.term k)
  pub member : (k : ℕ) (y : Tree) → NamesAreSpellable y → NamesAreSpellable (x.member k y)

pick : {X : Type 0} (P : X → Type 0) (b : Bool) (x y : X) → P x → P y → P (if b then x else y)
pick P true x y h k = h
pick P false x y h k = k

repeated_named : (o : TermOp) (n : ℕ) (a : Tree) → NamesAreSpellable a → NamesAreSpellable (repeated o n a)
repeated_named o zero a h = h
repeated_named o (suc n) a h = (repeated_named o n a h, tt)

pub any_named : (ts : Trees) → AllNamesAreSpellable ts → NamesAreSpellable (any_term ts)
any_named no_trees h = tt
any_named (tree a no_trees) h = h.0
any_named (tree a (tree b more)) h = h

infix_named : (o : Infix) (w : Bool) (a b : Tree) → NamesAreSpellable a → NamesAreSpellable b → NamesAreSpellable (infix_term o w a b)
infix_named Implies true a b h k = ((h, tt), (k, tt))
infix_named Implies false a b h k = (h, (k, tt))
infix_named Iff true a b h k = ((h, (k, tt)), tt)
infix_named Iff false a b h k = (h, (k, tt))
infix_named Xnor true a b h k = ((h, (k, tt)), tt)
infix_named Xnor false a b h k = ((h, (k, tt)), tt)
infix_named Unequal w a b h k = ((h, (k, tt)), tt)
infix_named Member w a b h k = tt
infix_named Union w a b h k = tt
infix_named o w a b h k = (h, (k, tt))

link_named : (o : Infix) (w : Bool) (m n : ℕ) (a b among : Tree) → NamesAreSpellable a → NamesAreSpellable b → NamesAreSpellable among → NamesAreSpellable (link_term o w m n a b among)
link_named Member w m n a b among h k l = l
link_named ShiftLeft w m n a b among h k l = (h, (tt, tt))
link_named ShiftRight w m n a b among h k l = (h, (tt, tt))
link_named o w m n a b among h k l = infix_named o w a b h k

extended_named : (n : ℕ) (a : Tree) → NamesAreSpellable a → NamesAreSpellable (extended_term n a)
extended_named n a h = pick NamesAreSpellable (n == 0) a (apply (op.ZeroExtend n) (tree a no_trees)) h (h, tt)

selected_named : (m high low : ℕ) (a : Tree) → NamesAreSpellable a → NamesAreSpellable (selected_term m high low a)
selected_named m high low a h = pick NamesAreSpellable (low == 0 && high + 1 == m) a (apply (op.Extract high low) (tree a no_trees)) h (h, tt)

resized_named : (m n : ℕ) (a : Tree) → NamesAreSpellable a → NamesAreSpellable (resized_term m n a)
resized_named m n a h = pick NamesAreSpellable (nat_lt n m) (apply (op.Extract (n - 1) 0) (tree a no_trees)) (extended_term (n - m) a) (h, tt) (extended_named (n - m) a h)

counted_named : (w : ℕ) (ts : Trees) → AllNamesAreSpellable ts → AllNamesAreSpellable (counted_terms w ts)
counted_named w no_trees h = tt
counted_named w (tree a ts) h = ((h.0, (tt, (tt, tt))), counted_named w ts h.1)

sum_named : (ts : Trees) → AllNamesAreSpellable ts → NamesAreSpellable (sum_term ts)
sum_named no_trees h = tt
sum_named (tree a no_trees) h = h.0
sum_named (tree a (tree b more)) h = h

call_named : (w k : ℕ) (f : Function) (args : Arguments) (ts : Trees) → AllNamesAreSpellable ts → NamesAreSpellable (function_term w k f args ts)
call_named w k OfFunction.Bool args no_trees h = tt
call_named w k OfFunction.Bool args (tree a no_trees) h = (h.0, (tt, tt))
call_named w k OfFunction.Bool args (tree a (tree b more)) h = tt
call_named w k OfFunction.Word1 args no_trees h = tt
call_named w k OfFunction.Word1 args (tree a no_trees) h = (h.0, (tt, (tt, tt)))
call_named w k OfFunction.Word1 args (tree a (tree b more)) h = tt
call_named w k OfFunction.Toint args no_trees h = tt
call_named w k OfFunction.Toint args (tree a no_trees) h = extended_named (w - args.width) a h.0
call_named w k OfFunction.Toint args (tree a (tree b more)) h = tt
call_named w k OfFunction.Uwconst args ts h = tt
call_named w k OfFunction.Extend args no_trees h = tt
call_named w k OfFunction.Extend args (tree a more) h = extended_named args.second a h.0
call_named w k OfFunction.Resize args no_trees h = tt
call_named w k OfFunction.Resize args (tree a more) h = resized_named args.width args.second a h.0
call_named w k OfFunction.Count args ts h = sum_named (counted_terms w ts) (counted_named w ts h)
call_named w k OfFunction.Max args no_trees h = tt
call_named w k OfFunction.Max args (tree a no_trees) h = tt
call_named w k OfFunction.Max args (tree a (tree b no_trees)) h = ((barred_spellable (codes "t") refl, (barred_spellable (codes "u") refl, tt)), h, ((tt, (tt, tt)), (tt, (tt, tt))))
call_named w k OfFunction.Max args (tree a (tree b (tree c more))) h = tt
call_named w k OfFunction.Min args no_trees h = tt
call_named w k OfFunction.Min args (tree a no_trees) h = tt
call_named w k OfFunction.Min args (tree a (tree b no_trees)) h = ((barred_spellable (codes "t") refl, (barred_spellable (codes "u") refl, tt)), h, ((tt, (tt, tt)), (tt, (tt, tt))))
call_named w k OfFunction.Min args (tree a (tree b (tree c more))) h = tt
call_named w k OfFunction.Abs args no_trees h = tt
call_named w k OfFunction.Abs args (tree a no_trees) h = ((barred_spellable (codes "t") refl, tt), h, ((tt, (tt, tt)), ((tt, tt), (tt, tt))))
call_named w k OfFunction.Abs args (tree a (tree b more)) h = tt

among_named : (named : Bool) (k : ℕ) (a : Tree) (x : Translation) → NamesAreSpellable a → IsNamed x → NamesAreSpellable (among_term named k a x.member)
among_named true k a x h n = n.member k a h
among_named false k a x h n = ((barred_spellable (codes "t") refl, tt), (h, tt), n.member (k + 1) (bound k) tt)

mutual
  pub translation_named : (c : Coding) (e : FlatTree) → IsNamed (translation c e)
  translation_named c (flat_truth t b) = record { term = λ k. tt; member = λ k y h. (h, (tt, tt)) }
  translation_named c (flat_number t n) = record { term = λ k. tt; member = λ k y h. (h, (tt, tt)) }
  translation_named c (flat_literal t w) = record { term = λ k. tt; member = λ k y h. (h, (tt, tt)) }
  translation_named c (flat_symbol t s) = record { term = λ k. tt; member = λ k y h. (h, (tt, tt)) }
  translation_named c (flat_item t i under) = record { term = λ k. tt; member = λ k y h. (h, (tt, tt)) }
  translation_named c (flat_prefix t sign n e) =
      let x = λ (k : ℕ). repeated_named _ n ((translation c e).term k) ((translation_named c e).term k) in record { term = x; member = λ k y h. (h, (x k, tt)) }
  translation_named c (flat_chain t e ls) = chain_named c (is_name e) (word_width e) (translation c e) ls (translation_named c e)
  translation_named c (flat_choice t bs e) = chosen_named c bs (translation c e) (translation_named c e)
  translation_named c (flat_cases t bs) = taken_named c bs
  translation_named c (flat_select t e high low) =
      let x = λ (k : ℕ). selected_named (word_width e) high low ((translation c e).term k) ((translation_named c e).term k) in record { term = x; member = λ k y h. (h, (x k, tt)) }
  translation_named c (flat_call t f es) =
      let x = λ (k : ℕ). call_named c.width k f (arguments_of es) (terms c k es) (terms_named c k es) in record { term = x; member = λ k y h. (h, (x k, tt)) }
  translation_named c (flat_set t es) = record { term = λ k. tt; member = λ k y h. any_named (members c k y es) (members_named c k y es h) }
  translation_named c (flat_range t low high) = record { term = λ k. tt; member = λ k y h. ((tt, (h, tt)), ((h, (tt, tt)), tt)) }

  chain_named : (c : Coding) (named : Bool) (m : ℕ) (d : Translation) (ls : FlatLinks) → IsNamed d → IsNamed (chain_translation c named m d ls)
  chain_named c named m d no_flat_links h = h
  chain_named c named m d (flat_link o e ls) h =
      let n = translation_named c e in
      let right = λ (k : ℕ). infix_named Implies (is_word e) (d.term k) (implied_term c k ((translation c e).term k) ls) (h.term k) (implied_named c k ((translation c e).term k) ls (n.term k)) in
      let one_sign = λ (k : ℕ). let x : AllNamesAreSpellable (tree (d.term k) (tree ((translation c e).term k) (link_terms c k ls))) = (h.term k, (n.term k, links_named c k ls)) in x in
      let left = λ (k : ℕ). folded_named c k (front_width o m (word_width e))
      (link_term o (is_word e) m (amount_of e) (d.term k) ((translation c e).term k) (among_term named k (d.term k) (translation c e).member)) ls
      (link_named o (is_word e) m (amount_of e) (d.term k) ((translation c e).term k) (among_term named k (d.term k) (translation c e).member) (h.term k) (n.term k) (among_named named k (d.term k) (translation c e) (h.term k) n)) in
      pick IsNamed (is_union o && are_flat_unions ls) _ _
      (record { term = λ k. tt; member = λ k y g. any_named (tree (d.member k y) (tree ((translation c e).member k y) (link_members c k y ls))) (h.member k y g, (n.member k y g, unions_named c k y ls g)) })
      (pick IsNamed (is_implies o && flat_are_implies ls) _ _
      (record { term = right; member = λ k y g. (g, (right k, tt)) })
      (pick IsNamed (joins_with o o && all_join_with o ls) _ _
      (record { term = one_sign; member = λ k y g. (g, (one_sign k, tt)) })
      (record { term = left; member = λ k y g. (g, (left k, tt)) })))

  implied_named : (c : Coding) (k : ℕ) (a : Tree) (ls : FlatLinks) → NamesAreSpellable a → NamesAreSpellable (implied_term c k a ls)
  implied_named c k a no_flat_links h = h
  implied_named c k a (flat_link o e ls) h =
      infix_named Implies (is_word e) a (implied_term c k ((translation c e).term k) ls) h (implied_named c k ((translation c e).term k) ls ((translation_named c e).term k))

  folded_named : (c : Coding) (k m : ℕ) (a : Tree) (ls : FlatLinks) → NamesAreSpellable a → NamesAreSpellable (folded_term c k m a ls)
  folded_named c k m a no_flat_links h = h
  folded_named c k m a (flat_link o e ls) h =
      let n = translation_named c e in
      folded_named c k (front_width o m (word_width e)) (link_term o (is_word e) m (amount_of e) a ((translation c e).term k) (among_term false k a (translation c e).member)) ls
      (link_named o (is_word e) m (amount_of e) a ((translation c e).term k) (among_term false k a (translation c e).member) h (n.term k) (among_named false k a (translation c e) h n))

  links_named : (c : Coding) (k : ℕ) (ls : FlatLinks) → AllNamesAreSpellable (link_terms c k ls)
  links_named c k no_flat_links = tt
  links_named c k (flat_link o e ls) = ((translation_named c e).term k, links_named c k ls)

  unions_named : (c : Coding) (k : ℕ) (y : Tree) (ls : FlatLinks) → NamesAreSpellable y → AllNamesAreSpellable (link_members c k y ls)
  unions_named c k y no_flat_links h = tt
  unions_named c k y (flat_link o e ls) h = ((translation_named c e).member k y h, unions_named c k y ls h)

  chosen_named : (c : Coding) (bs : FlatBranches) (d : Translation) → IsNamed d → IsNamed (chosen_translation c bs d)
  chosen_named c no_flat_branches d h = h
  chosen_named c (flat_branch q e rest) d h =
      let x = translation_named c q in
      let y = translation_named c e in
      let z = chosen_named c rest d h in
      record { term = λ k. (x.term k, (y.term k, (z.term k, tt))); member = λ k a g. (x.term k, (y.member k a g, (z.member k a g, tt))) }

  taken_named : (c : Coding) (bs : FlatBranches) → IsNamed (taken_translation c bs)
  taken_named c no_flat_branches = record { term = λ k. tt; member = λ k y h. (h, (tt, tt)) }
  taken_named c (flat_branch q e rest) =
      let x = translation_named c q in
      let y = translation_named c e in
      let z = taken_named c rest in
      pick IsNamed (flat_is_last rest) _ _ y (record { term = λ k. (x.term k, (y.term k, (z.term k, tt))); member = λ k a g. (x.term k, (y.member k a g, (z.member k a g, tt))) })

  terms_named : (c : Coding) (k : ℕ) (es : FlatTrees) → AllNamesAreSpellable (terms c k es)
  terms_named c k no_flat_trees = tt
  terms_named c k (flat_tree_then e es) = ((translation_named c e).term k, terms_named c k es)

  members_named : (c : Coding) (k : ℕ) (y : Tree) (es : FlatTrees) → NamesAreSpellable y → AllNamesAreSpellable (members c k y es)
  members_named c k y no_flat_trees h = tt
  members_named c k y (flat_tree_then e es) h = ((translation_named c e).member k y h, members_named c k y es h)
