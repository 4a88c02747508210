-- The loops over the parts of expressions.
use Rattle.std.proofs.Common.{◌≡◌, ℕ, ◌+◌, ◌++◌, Bool, List, [], ◌∷◌, drop, map, option_map, is_some, Option, None, Vec, Box, Global, refl, sym, ap, ◌∙◌, rules}
use Rattle.smv_text.specs.declared.operators.Prefix.{Prefix}
use Rattle.smv_text.specs.declared.operators.Function.{Function}
use Rattle.smv_text.specs.declared.operators.Infix.{Infix}
use Rattle.smv_intervals.specs.View.{seen}
use Rattle.moxi_terms.specs.Tree.{Tree, list_of}
use Rattle.smv_flat.specs.declared.expressions.FlatExpr.{FlatExpr, the_lemmas}
use Rattle.smv_flat.specs.declared.expressions.FlatShape.TheVariants as OfShape
use Rattle.smv_flat.specs.declared.expressions.FlatLink.{FlatLink}
use Rattle.smv_flat.specs.declared.expressions.FlatBranch.{FlatBranch}
use Rattle.smv_flat.specs.FlatTree.{FlatTree, flat_prefix, flat_choice, flat_select, flat_call, flat_set, FlatLinks, flat_link, flat_links_of, flat_branches_of, flat_trees_of}
use Rattle.smv_flat.specs.FlatView.{plain_flat, plain_flat_link, plain_flat_branch}
use Rattle.smv_script.specs.Operators.{front_width, repeated, selected_term, sign_op}
use Rattle.smv_script.specs.Terms.{Coding, translation, folded_term, chosen_translation, taken_translation, choice_translation, is_word, word_width, amount_of}
use Rattle.smv_script_terms.specs.declared.coding.Question.{Question}
use Rattle.smv_script_terms.specs.declared.coding.Subject.{Subject}
use Rattle.smv_script_terms.specs.Questions.{answered, answered_value}
use Rattle.smv_script_terms.specs.Readings.{called_term, gathered_answer}
use Rattle.smv_script_terms.specs.Operands.{link_answers, answers, operands_of, cases_of, chosen_cases, folded, joined_term, behind_term}
use Rattle.smv_script_terms.proofs.LinkLists.{links_at}
use Rattle.smv_script_terms.proofs.Steps.{IsOfElements}
use Rattle.smv_script_terms.proofs.Translated.{folded_none, cases_are, gathered_is, value_made}
use Rattle.smv_flat.proofs.FlatViews.{branch_at, link_at}

-- ---- the plain forms of expressions by their shapes

pub plain_prefix : (e : FlatExpr) (sign : Prefix) (n : ℕ) (a : Box FlatExpr Global) → e.shape ≡ OfShape.Prefix sign n a → plain_flat e ≡ flat_prefix (option_map seen e.ty) sign n (plain_flat a.value)
plain_prefix e sign n a h = search (rules, the_lemmas)

pub plain_choice : (e : FlatExpr) (bs : Vec FlatBranch Global) (a : Box FlatExpr Global) → e.shape ≡ OfShape.Choice bs a → plain_flat e ≡ flat_choice (option_map seen e.ty) (flat_branches_of (map plain_flat_branch bs.items)) (plain_flat a.value)
plain_choice e bs a h = search (rules, the_lemmas)

pub plain_select : (e : FlatExpr) (a : Box FlatExpr Global) (high low : ℕ) → e.shape ≡ OfShape.Select a high low → plain_flat e ≡ flat_select (option_map seen e.ty) (plain_flat a.value) high low
plain_select e a high low h = search (rules, the_lemmas)

pub plain_call : (e : FlatExpr) (f : Function) (es : Vec FlatExpr Global) → e.shape ≡ OfShape.Call f es → plain_flat e ≡ flat_call (option_map seen e.ty) f (flat_trees_of (map plain_flat es.items))
plain_call e f es h = search (rules, the_lemmas)

pub plain_set : (e : FlatExpr) (es : Vec FlatExpr Global) → e.shape ≡ OfShape.Set es → plain_flat e ≡ flat_set (option_map seen e.ty) (flat_trees_of (map plain_flat es.items))
plain_set e es h = search (rules, the_lemmas)

-- ---- lists of links, of branches and of parts

abbrev pub link_list : Question → Coding → ℕ → List FlatLink → List Tree
link_list q c k xs = list_of (link_answers q c k (flat_links_of (map plain_flat_link xs)))

pub link_elements : (q : Question) (c : Coding) (k : ℕ) → IsOfElements (link_list q c k)
link_elements q c k x xs = refl

pub link_alone : (q : Question) (c : Coding) (k : ℕ) (l : FlatLink) → answered q (translation c (plain_flat l.operand)) k ∷ [] ≡ link_list q c k (l ∷ [])
link_alone q c k l = ap (λ (p : Infix × FlatTree). answered q (translation c p.1) k ∷ []) (sym (link_at l))

abbrev pub operand_list : Coding → ℕ → List FlatLink → List (Bool × Tree)
operand_list c k xs = operands_of c k (flat_links_of (map plain_flat_link xs))

pub operand_elements : (c : Coding) (k : ℕ) → IsOfElements (operand_list c k)
operand_elements c k x xs = refl

pub operand_alone : (c : Coding) (k : ℕ) (l : FlatLink) → (is_word (plain_flat l.operand), (translation c (plain_flat l.operand)).term k) ∷ [] ≡ operand_list c k (l ∷ [])
operand_alone c k l = ap (λ (p : Infix × FlatTree). (is_word p.1, (translation c p.1).term k) ∷ []) (sym (link_at l))

abbrev pub case_list : Question → Coding → ℕ → List FlatBranch → List (Tree × Tree)
case_list q c k xs = cases_of q c k (flat_branches_of (map plain_flat_branch xs))

pub case_elements : (q : Question) (c : Coding) (k : ℕ) → IsOfElements (case_list q c k)
case_elements q c k x xs = refl

pub case_alone : (q : Question) (c : Coding) (k : ℕ) (b : FlatBranch) → ((translation c (plain_flat b.when)).term k, answered q (translation c (plain_flat b.value)) k) ∷ [] ≡ case_list q c k (b ∷ [])
case_alone q c k b = ap (λ (p : FlatTree × FlatTree). ((translation c p.0).term k, answered q (translation c p.1) k) ∷ []) (sym (branch_at b))

abbrev pub part_list : Question → Coding → ℕ → List FlatExpr → List Tree
part_list q c k xs = list_of (answers q c k (flat_trees_of (map plain_flat xs)))

-- ---- a chain that is read from the left

folded_link : (c : Coding) (k : ℕ) (x : Option Subject) (m : ℕ) (a : Tree) (o : Infix) (e : FlatTree) (ls : FlatLinks) (n : ℕ) (t b : Tree) → n ≡ front_width o m (word_width e)
    → t ≡ behind_term o k x (translation c e) → b ≡ joined_term o (is_some x) (is_word e) m (amount_of e) a t → folded c k None n b ls ≡ folded c k x m a (flat_link o e ls)
folded_link c k x m a o e ls n t b h g j =
    folded_none c k n b ls ∙ ap (λ w. folded_term c k w b ls) h
    ∙ ap (λ d. folded_term c k (front_width o m (word_width e)) d ls) (j ∙ ap (joined_term o (is_some x) (is_word e) m (amount_of e) a) g)

pub folded_on : (c : Coding) (k : ℕ) (xs : List FlatLink) (i : ℕ) (l : FlatLink) (x : Option Subject) (m : ℕ) (a : Tree) (n w : ℕ) (t b total : Tree) (named : Bool) → drop i xs ≡ l ∷ drop (i + 1) xs
    → w ≡ word_width (plain_flat l.operand) → n ≡ front_width l.op m w → t ≡ behind_term l.op k x (translation c (plain_flat l.operand)) → named ≡ is_some x
    → b ≡ joined_term l.op named (is_word (plain_flat l.operand)) m (amount_of (plain_flat l.operand)) a t
    → folded c k x m a (flat_links_of (map plain_flat_link (drop i xs))) ≡ total → folded c k None n b (flat_links_of (map plain_flat_link (drop (i + 1) xs))) ≡ total
folded_on c k xs i l x m a n w t b total named d v h g s j r =
    folded_link c k x m a l.op (plain_flat l.operand) (flat_links_of (map plain_flat_link (drop (i + 1) xs))) n t b (h ∙ ap (front_width l.op m) v) g
    (j ∙ ap (λ z. joined_term l.op z (is_word (plain_flat l.operand)) m (amount_of (plain_flat l.operand)) a t) s)
    ∙ ap (folded c k x m a) (sym (links_at (drop i xs) (drop (i + 1) xs) l d)) ∙ r

-- ---- cases

taken_is : (c : Coding) (bs : List FlatBranch) (b : FlatBranch) → taken_translation c (flat_branches_of (map plain_flat_branch (bs ++ b ∷ []))) ≡ chosen_translation c (flat_branches_of (map plain_flat_branch bs)) (translation c (plain_flat_branch b).1)
taken_is c [] b = refl
taken_is c (d ∷ []) b = refl
taken_is c (d ∷ f ∷ bs) b = ap (choice_translation (translation c (plain_flat_branch d).0) (translation c (plain_flat_branch d).1)) (taken_is c (f ∷ bs) b)

pub taken_cases : (q : Question) (c : Coding) (k : ℕ) (all bs : List FlatBranch) (b : FlatBranch) (xs : List (Tree × Tree)) (t : Tree) → all ≡ bs ++ b ∷ [] → xs ≡ case_list q c k bs
    → t ≡ answered q (translation c (plain_flat b.value)) k → chosen_cases xs t ≡ answered q (taken_translation c (flat_branches_of (map plain_flat_branch all))) k
taken_cases q c k all bs b xs t h e g =
    ap (λ ys. chosen_cases ys t) e ∙ ap (chosen_cases (case_list q c k bs)) g
    ∙ cases_are q c k (flat_branches_of (map plain_flat_branch bs)) (translation c (plain_flat b.value))
    ∙ ap (λ (p : FlatTree × FlatTree). answered q (chosen_translation c (flat_branches_of (map plain_flat_branch bs)) (translation c p.1)) k) (sym (branch_at b))
    ∙ ap (λ d. answered q d k) (sym (ap (λ ys. taken_translation c (flat_branches_of (map plain_flat_branch ys))) h ∙ taken_is c bs b))

pub choice_made : (q : Question) (c : Coding) (k : ℕ) (e d : FlatExpr) (bs : Vec FlatBranch Global) (a : Box FlatExpr Global) (ys : List FlatBranch) (xs : List (Tree × Tree)) (t : Tree) → e.shape ≡ OfShape.Choice bs a
    → ys ≡ bs.items → d ≡ a.value → xs ≡ case_list q c k ys → t ≡ answered q (translation c (plain_flat d)) k → chosen_cases xs t ≡ answered q (translation c (plain_flat e)) k
choice_made q c k e d bs a ys xs t h i j x g =
    ap (λ zs. chosen_cases zs t) (x ∙ ap (case_list q c k) i) ∙ ap (chosen_cases (case_list q c k bs.items)) (g ∙ ap (λ m. answered q (translation c (plain_flat m)) k) j)
    ∙ cases_are q c k (flat_branches_of (map plain_flat_branch bs.items)) (translation c (plain_flat a.value))
    ∙ ap (λ m. answered q (translation c m) k) (sym (plain_choice e bs a h))

-- ---- single expressions

pub prefix_made : (q : Question) (c : Coding) (k : ℕ) (e d : FlatExpr) (sign : Prefix) (n : ℕ) (a : Box FlatExpr Global) (v : Tree) → e.shape ≡ OfShape.Prefix sign n a → d ≡ a.value
    → v ≡ repeated (sign_op sign (is_word (plain_flat d))) n ((translation c (plain_flat d)).term k) → answered_value q v ≡ answered q (translation c (plain_flat e)) k
prefix_made q c k e d sign n a v h i g =
    value_made q c k (plain_flat e) (flat_prefix (option_map seen e.ty) sign n (plain_flat a.value)) (λ j. repeated (sign_op sign (is_word (plain_flat a.value))) n ((translation c (plain_flat a.value)).term j)) v
    (plain_prefix e sign n a h) refl (g ∙ ap (λ m. repeated (sign_op sign (is_word (plain_flat m))) n ((translation c (plain_flat m)).term k)) i)

pub select_made : (q : Question) (c : Coding) (k : ℕ) (e d f : FlatExpr) (a : Box FlatExpr Global) (high low width : ℕ) (t v : Tree) → e.shape ≡ OfShape.Select a high low → d ≡ a.value → f ≡ a.value
    → t ≡ (translation c (plain_flat d)).term k → width ≡ word_width (plain_flat f) → v ≡ selected_term width high low t → answered_value q v ≡ answered q (translation c (plain_flat e)) k
select_made q c k e d f a high low width t v h i j x w g =
    value_made q c k (plain_flat e) (flat_select (option_map seen e.ty) (plain_flat a.value) high low) (λ r. selected_term (word_width (plain_flat a.value)) high low ((translation c (plain_flat a.value)).term r)) v
    (plain_select e a high low h) refl
    (g ∙ ap (λ n. selected_term n high low t) (w ∙ ap (λ m. word_width (plain_flat m)) j) ∙ ap (selected_term (word_width (plain_flat a.value)) high low) (x ∙ ap (λ m. (translation c (plain_flat m)).term k) i))

pub call_made : (q : Question) (c : Coding) (k : ℕ) (e : FlatExpr) (f : Function) (es : Vec FlatExpr Global) (xs : List FlatExpr) (v : Tree) → e.shape ≡ OfShape.Call f es → xs ≡ es.items
    → v ≡ called_term c k f (flat_trees_of (map plain_flat xs)) → answered_value q v ≡ answered q (translation c (plain_flat e)) k
call_made q c k e f es xs v h i g =
    value_made q c k (plain_flat e) (flat_call (option_map seen e.ty) f (flat_trees_of (map plain_flat es.items))) (λ j. called_term c j f (flat_trees_of (map plain_flat es.items))) v
    (plain_call e f es h) refl (g ∙ ap (λ ys. called_term c k f (flat_trees_of (map plain_flat ys))) i)

pub set_made : (q : Question) (c : Coding) (k : ℕ) (e : FlatExpr) (es : Vec FlatExpr Global) (xs : List FlatExpr) → e.shape ≡ OfShape.Set es → xs ≡ es.items
    → gathered_answer q c k (flat_trees_of (map plain_flat xs)) ≡ answered q (translation c (plain_flat e)) k
set_made q c k e es xs h i =
    ap (λ ys. gathered_answer q c k (flat_trees_of (map plain_flat ys))) i ∙ gathered_is q c k (plain_flat e) (option_map seen e.ty) (flat_trees_of (map plain_flat es.items)) (plain_set e es h)
