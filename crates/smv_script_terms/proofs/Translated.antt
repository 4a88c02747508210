-- What expressions answer, by their kinds.
use Rattle.std.proofs.Common.{◌≡◌, ℕ, Bool, true, false, if◌then◌else◌, is_some, Option, Some, None, Result, Ok, Err, IfOk, refl, sym, ap, ◌∙◌}
use Rattle.smv_text.specs.declared.operators.Infix.{Infix}
use Rattle.smv_text.specs.declared.operators.Infix.TheVariants.{Implies, Member, ShiftLeft, ShiftRight}
use Rattle.smv_meaning.specs.Types.{ExprType}
use Rattle.moxi_terms.specs.declared.data.TermOp.TheVariants as op
use Rattle.moxi_terms.specs.Tree.{Tree, apply, Trees, no_trees, tree, trees_of, list_of}
use Rattle.smv_flat.specs.FlatTree.{FlatTree, flat_truth, flat_number, flat_literal, flat_symbol, flat_item, flat_prefix, flat_chain, flat_choice, flat_cases, flat_select, flat_call, flat_set, flat_range, FlatLinks, no_flat_links, flat_link, FlatBranches, no_flat_branches, flat_branch, FlatTrees, no_flat_trees, flat_tree_then, flat_are_implies}
use Rattle.smv_script.specs.Operators.{any_term, infix_term, infix_op, front_width, link_term, among_term}
use Rattle.smv_script.specs.Terms.{Coding, Translation, value_translation, translation, chain_translation, chosen_translation, choice_translation, implied_term, folded_term, link_terms, link_members, terms, members, is_name, is_word, word_width, amount_of, are_flat_unions, all_join_with}
use Rattle.smv_script_terms.specs.declared.coding.Question.{Question}
use Rattle.smv_script_terms.specs.declared.coding.Question.TheVariants.{Value, Permits}
use Rattle.smv_script_terms.specs.declared.coding.Subject.{Subject}
use Rattle.smv_script_terms.specs.declared.readings.Reading.{Reading}
use Rattle.smv_script_terms.specs.declared.readings.Reading.TheVariants as by
use Rattle.smv_script_terms.specs.Questions.{answered, answered_value, subject_tree}
use Rattle.smv_script_terms.specs.Operands.{several, implied_parts, operands_of, behind_term, joined_term, folded, IsSubject, link_answers, answers, cases_of, chosen_cases}
use Rattle.smv_script_terms.specs.Readings.{reading, named_subject, chain_answered, united_answer, gathered_answer, folded_answer}
use Rattle.moxi_terms.specs.Applications.{choice_term}

pub ok_same : {A B E : Type 0} (f : A → B) (r : Result A E) (x y : B) → x ≡ y → IfOk r (λ t. f t ≡ x) → IfOk r (λ t. f t ≡ y)
ok_same f (Ok a) x y e h = h ∙ e
ok_same f (Err a) x y e h = h

pub value_answered : (q : Question) (f : ℕ → Tree) (k : ℕ) → answered_value q (f k) ≡ answered q (value_translation f) k
value_answered Value f k = refl
value_answered (Permits x) f k = refl

-- of an expression that is no set
pub value_made : (q : Question) (c : Coding) (k : ℕ) (e t : FlatTree) (f : ℕ → Tree) (v : Tree) → e ≡ t → translation c t ≡ value_translation f → v ≡ f k → answered_value q v ≡ answered q (translation c e) k
value_made q c k e t f v h d g =
    ap (answered_value q) g ∙ value_answered q f k ∙ ap (λ x. answered q x k) (sym d) ∙ ap (λ y. answered q (translation c y) k) (sym h)

-- ---- lists

pub back : (ts : Trees) → trees_of (list_of ts) ≡ ts
back no_trees = refl
back (tree t ts) = ap (tree t) (back ts)

pub any_is : (ts : Trees) → several op.Or false ts ≡ any_term ts
any_is no_trees = refl
any_is (tree a no_trees) = refl
any_is (tree a (tree b ts)) = refl

pub values_are : (c : Coding) (k : ℕ) (es : FlatTrees) → answers Value c k es ≡ terms c k es
values_are c k no_flat_trees = refl
values_are c k (flat_tree_then e es) = ap (tree ((translation c e).term k)) (values_are c k es)

members_are : (x : Subject) (c : Coding) (k : ℕ) (es : FlatTrees) → answers (Permits x) c k es ≡ members c k (subject_tree x) es
members_are x c k no_flat_trees = refl
members_are x c k (flat_tree_then e es) = ap (tree ((translation c e).member k (subject_tree x))) (members_are x c k es)

pub gathered_is : (q : Question) (c : Coding) (k : ℕ) (e : FlatTree) (t : Option ExprType) (es : FlatTrees) → e ≡ flat_set t es → gathered_answer q c k es ≡ answered q (translation c e) k
gathered_is Value c k e t es h = ap (λ f. answered Value (translation c f) k) (sym h)
gathered_is (Permits x) c k e t es h =
    any_is (answers (Permits x) c k es) ∙ ap any_term (members_are x c k es) ∙ ap (λ f. answered (Permits x) (translation c f) k) (sym h)

link_values : (c : Coding) (k : ℕ) (ls : FlatLinks) → link_answers Value c k ls ≡ link_terms c k ls
link_values c k no_flat_links = refl
link_values c k (flat_link o e ls) = ap (tree ((translation c e).term k)) (link_values c k ls)

links_permit : (x : Subject) (c : Coding) (k : ℕ) (ls : FlatLinks) → link_answers (Permits x) c k ls ≡ link_members c k (subject_tree x) ls
links_permit x c k no_flat_links = refl
links_permit x c k (flat_link o e ls) = ap (tree ((translation c e).member k (subject_tree x))) (links_permit x c k ls)

-- ---- cases

choice_answered : (q : Question) (d a b : Translation) (k : ℕ) → answered q (choice_translation d a b) k ≡ choice_term (d.term k) (answered q a k) (answered q b k)
choice_answered Value d a b k = refl
choice_answered (Permits x) d a b k = refl

pub cases_are : (q : Question) (c : Coding) (k : ℕ) (bs : FlatBranches) (d : Translation) → chosen_cases (cases_of q c k bs) (answered q d k) ≡ answered q (chosen_translation c bs d) k
cases_are q c k no_flat_branches d = refl
cases_are q c k (flat_branch p e rest) d =
    ap (choice_term ((translation c p).term k) (answered q (translation c e) k)) (cases_are q c k rest d)
    ∙ sym (choice_answered q (translation c p) (translation c e) (chosen_translation c rest d) k)

-- ---- chains

implied_are : (c : Coding) (k : ℕ) (a : Tree) (ls : FlatLinks) → implied_parts a (operands_of c k ls) ≡ implied_term c k a ls
implied_are c k a no_flat_links = refl
implied_are c k a (flat_link o e ls) = ap (infix_term Implies (is_word e) a) (implied_are c k ((translation c e).term k) ls)

link_is : (o : Infix) (x : Option Subject) (words : Bool) (m amount k : ℕ) (a : Tree) (d : Translation) → IsSubject x a
    → joined_term o (is_some x) words m amount a (behind_term o k x d) ≡ link_term o words m amount a (d.term k) (among_term (is_some x) k a d.member)
link_is Member None words m amount k a d h = refl
link_is Member (Some x) words m amount k a d h = ap (d.member k) (sym h)
link_is ShiftLeft None words m amount k a d h = refl
link_is ShiftLeft (Some x) words m amount k a d h = refl
link_is ShiftRight None words m amount k a d h = refl
link_is ShiftRight (Some x) words m amount k a d h = refl
link_is o None words m amount k a d h = refl
link_is o (Some x) words m amount k a d h = refl

pub folded_none : (c : Coding) (k m : ℕ) (a : Tree) (ls : FlatLinks) → folded c k None m a ls ≡ folded_term c k m a ls
folded_none c k m a no_flat_links = refl
folded_none c k m a (flat_link o e ls) = ap (λ b. folded_term c k (front_width o m (word_width e)) b ls) (link_is o None (is_word e) m (amount_of e) k a (translation c e) tt)

name_is : (c : Coding) (e : FlatTree) → is_some (named_subject c e) ≡ is_name e
name_is c (flat_truth t b) = refl
name_is c (flat_number t n) = refl
name_is c (flat_literal t w) = refl
name_is c (flat_symbol t s) = refl
name_is c (flat_item t i under) = refl
name_is c (flat_prefix t sign n e) = refl
name_is c (flat_chain t e ls) = refl
name_is c (flat_choice t bs e) = refl
name_is c (flat_cases t bs) = refl
name_is c (flat_select t e high low) = refl
name_is c (flat_call t f es) = refl
name_is c (flat_set t es) = refl
name_is c (flat_range t low high) = refl

subject_is : (c : Coding) (e : FlatTree) (k : ℕ) → IsSubject (named_subject c e) ((translation c e).term k)
subject_is c (flat_truth t b) k = tt
subject_is c (flat_number t n) k = tt
subject_is c (flat_literal t w) k = tt
subject_is c (flat_symbol t s) k = refl
subject_is c (flat_item t i under) k = refl
subject_is c (flat_prefix t sign n e) k = tt
subject_is c (flat_chain t e ls) k = tt
subject_is c (flat_choice t bs e) k = tt
subject_is c (flat_cases t bs) k = tt
subject_is c (flat_select t e high low) k = tt
subject_is c (flat_call t f es) k = tt
subject_is c (flat_set t es) k = tt
subject_is c (flat_range t low high) k = tt

-- ---- by how a chain is read

abbrev flags : Bool → Bool → Bool → Infix → Bool → Reading
flags a b d o words = if a then by.Union else (if b then by.Implied else (if d then by.OneOperator o words else by.Left))

abbrev picked : Bool → Bool → Bool → (s t u v : Translation) → Translation
picked a b d s t u v = if a then s else (if b then t else (if d then u else v))

union_flag : (a b d : Bool) (o : Infix) (w : Bool) (s t u v : Translation) → flags a b d o w ≡ by.Union → picked a b d s t u v ≡ s
union_flag true b d o w s t u v h = refl
union_flag false true d o w s t u v h = cc
union_flag false false true o w s t u v h = cc
union_flag false false false o w s t u v h = cc

implied_flag : (a b d : Bool) (o : Infix) (w : Bool) (s t u v : Translation) → flags a b d o w ≡ by.Implied → picked a b d s t u v ≡ t
implied_flag true b d o w s t u v h = cc
implied_flag false true d o w s t u v h = refl
implied_flag false false true o w s t u v h = cc
implied_flag false false false o w s t u v h = cc

left_flag : (a b d : Bool) (o : Infix) (w : Bool) (s t u v : Translation) → flags a b d o w ≡ by.Left → picked a b d s t u v ≡ v
left_flag true b d o w s t u v h = cc
left_flag false true d o w s t u v h = cc
left_flag false false true o w s t u v h = cc
left_flag false false false o w s t u v h = refl

record IsJoint (o p : Infix) (w x : Bool) (d u : Translation) : Type 0 where
  pub sign : o ≡ p
  pub words : w ≡ x
  pub picked : d ≡ u

joined_flag : (a b d : Bool) (o p : Infix) (w x : Bool) (s t u v : Translation) → flags a b d o w ≡ by.OneOperator p x → IsJoint o p w x (picked a b d s t u v) u
joined_flag true b d o p w x s t u v h = cc
joined_flag false true d o p w x s t u v h = cc
joined_flag false false true o p w x s t u v h = record { sign = cc; words = cc; picked = refl }
joined_flag false false false o p w x s t u v h = cc

abbrev of_chain : Coding → FlatTree → FlatLinks → Translation
of_chain c e ls = chain_translation c (is_name e) (word_width e) (translation c e) ls

pub union_read : (q : Question) (c : Coding) (k : ℕ) (e : FlatTree) (ls : FlatLinks) → reading ls ≡ by.Union → united_answer q c k e ls ≡ chain_answered q c k e ls
union_read q c k e no_flat_links h = cc
union_read Value c k e (flat_link o f ls) h =
    ap (λ d. answered Value d k) (sym (union_flag (are_flat_unions (flat_link o f ls)) (flat_are_implies (flat_link o f ls)) (all_join_with o (flat_link o f ls)) o (is_word f) _ _ _ _ h))
union_read (Permits x) c k e (flat_link o f ls) h =
    any_is (tree ((translation c e).member k (subject_tree x)) (link_answers (Permits x) c k (flat_link o f ls)))
    ∙ ap (λ ts. any_term (tree ((translation c e).member k (subject_tree x)) ts)) (links_permit x c k (flat_link o f ls))
    ∙ ap (λ d. answered (Permits x) d k) (sym (union_flag (are_flat_unions (flat_link o f ls)) (flat_are_implies (flat_link o f ls)) (all_join_with o (flat_link o f ls)) o (is_word f) _ _ _ _ h))

by_value : (q : Question) (k : ℕ) (d : Translation) (f : ℕ → Tree) (v : Tree) → d ≡ value_translation f → v ≡ f k → answered_value q v ≡ answered q d k
by_value q k d f v h g = ap (answered_value q) g ∙ value_answered q f k ∙ ap (λ x. answered q x k) (sym h)

pub implied_read : (q : Question) (c : Coding) (k : ℕ) (e : FlatTree) (ls : FlatLinks) (v : Tree) → reading ls ≡ by.Implied → v ≡ implied_parts ((translation c e).term k) (operands_of c k ls)
    → answered_value q v ≡ chain_answered q c k e ls
implied_read q c k e no_flat_links v h g = cc
implied_read q c k e (flat_link o f ls) v h g =
    by_value q k (of_chain c e (flat_link o f ls)) (λ j. implied_term c j ((translation c e).term j) (flat_link o f ls)) v
    (implied_flag (are_flat_unions (flat_link o f ls)) (flat_are_implies (flat_link o f ls)) (all_join_with o (flat_link o f ls)) o (is_word f) _ _ _ _ h)
    (g ∙ implied_are c k ((translation c e).term k) (flat_link o f ls))

pub joined_read : (q : Question) (c : Coding) (k : ℕ) (e : FlatTree) (ls : FlatLinks) (p : Infix) (words : Bool) (v : Tree) → reading ls ≡ by.OneOperator p words
    → v ≡ apply (infix_op p words) (tree ((translation c e).term k) (link_answers Value c k ls)) → answered_value q v ≡ chain_answered q c k e ls
joined_read q c k e no_flat_links p words v h g = cc
joined_read q c k e (flat_link o f ls) p words v h g =
    let j = joined_flag (are_flat_unions (flat_link o f ls)) (flat_are_implies (flat_link o f ls)) (all_join_with o (flat_link o f ls)) o p (is_word f) words _ _ _ _ h in
    by_value q k (of_chain c e (flat_link o f ls)) (λ i. apply (infix_op o (is_word f)) (tree ((translation c e).term i) (link_terms c i (flat_link o f ls)))) v j.picked
    (g ∙ ap (λ ts. apply (infix_op p words) (tree ((translation c e).term k) ts)) (link_values c k (flat_link o f ls))
    ∙ ap (λ r. apply (infix_op r words) (tree ((translation c e).term k) (link_terms c k (flat_link o f ls)))) (sym j.sign)
    ∙ ap (λ r. apply (infix_op o r) (tree ((translation c e).term k) (link_terms c k (flat_link o f ls)))) (sym j.words))

first_link : (c : Coding) (k : ℕ) (e : FlatTree) (o : Infix) (f : FlatTree) (m : ℕ)
    → joined_term o (is_some (named_subject c e)) (is_word f) m (amount_of f) ((translation c e).term k) (behind_term o k (named_subject c e) (translation c f))
    ≡ link_term o (is_word f) m (amount_of f) ((translation c e).term k) ((translation c f).term k) (among_term (is_name e) k ((translation c e).term k) (translation c f).member)
first_link c k e o f m =
    link_is o (named_subject c e) (is_word f) m (amount_of f) k ((translation c e).term k) (translation c f) (subject_is c e k)
    ∙ ap (λ b. link_term o (is_word f) m (amount_of f) ((translation c e).term k) ((translation c f).term k) (among_term b k ((translation c e).term k) (translation c f).member)) (name_is c e)

pub left_read : (q : Question) (c : Coding) (k : ℕ) (e : FlatTree) (ls : FlatLinks) (v : Tree) → reading ls ≡ by.Left → v ≡ folded_answer c k e ls → answered_value q v ≡ chain_answered q c k e ls
left_read q c k e no_flat_links v h g = cc
left_read q c k e (flat_link o f ls) v h g =
    by_value q k (of_chain c e (flat_link o f ls))
    (λ i. folded_term c i (front_width o (word_width e) (word_width f)) (link_term o (is_word f) (word_width e) (amount_of f) ((translation c e).term i) ((translation c f).term i) (among_term (is_name e) i ((translation c e).term i) (translation c f).member)) ls)
    v
    (left_flag (are_flat_unions (flat_link o f ls)) (flat_are_implies (flat_link o f ls)) (all_join_with o (flat_link o f ls)) o (is_word f) _ _ _ _ h)
    (g ∙ ap (λ b. folded_term c k (front_width o (word_width e) (word_width f)) b ls) (first_link c k e o f (word_width e)))
