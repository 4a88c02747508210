-- Places and counts of tokens change nothing of what is printed.
use Rattle.std.proofs.Common.{◌≡◌, ℕ, suc, Bool, true, false, cond, nat_le, List, [], ◌∷◌, ◌++◌, map, refl, sym, ap, ◌∙◌}
use Rattle.std.specs.List.{flat_map}
use Rattle.smv_text.specs.declared.token.Reserved.TheVariants as word
use Rattle.smv_text.specs.declared.token.Sign.TheVariants as sign
use Rattle.smv_text.specs.declared.token.TokenKind.{TokenKind}
use Rattle.smv_text.specs.declared.token.TokenKind.TheVariants as kind
use Rattle.smv_text.specs.declared.tree.Path.{Path}
use Rattle.smv_text.specs.declared.tree.When.{When}
use Rattle.smv_text.specs.declared.tree.When.TheVariants.{Always, First, Following}
use Rattle.smv_text.specs.declared.tree.Parameter.{Parameter}
use Rattle.smv_text.specs.declared.level.Level.TheVariants.{Chain, Before}
use Rattle.smv_text.specs.Levels.{prefix_kind, infix_kind, function_word}
use Rattle.smv_text.specs.Tree.{Tree, truth, number, literal, name, prefix, chain, choice, cases, select, call, next, set, range, Links, no_links, link, Branches, no_branches, branch, Trees, no_trees, tree, PlainDomain, boolean, members, between, bits, instance, PlainItem, PlainDefinition, PlainAssignment, PlainElement, vars, defines, constants, assigns, init, trans, invar, spec, PlainModule, PlainSource}
use Rattle.smv_text.specs.Sources.{section_word}
use Rattle.smv_print.specs.Ranks.{rank, chain_class, tree_rank}
use Rattle.smv_lex.specs.Spelling.{joined}
use Rattle.smv_print.specs.Printing.{wanted, repeated, parted, ident, in_brackets, path_kinds, standing, tree_kinds, link_kinds, choice_kinds, case_kinds, argument_kinds, actual_kinds, domain_kinds, item_kinds, body_kinds, definition_kinds, target_kinds, assignment_kinds, spec_name_kinds, formula_kinds, element_kinds, parameter_name, parameter_kinds, module_kinds, printed}
use Rattle.smv_print.specs.Unplaced.{unplaced_path, unplaced, unplaced_links, unplaced_branches, unplaced_trees, unplaced_domain, unplaced_item, unplaced_definition, unplaced_assignment, unplaced_element, unplaced_parameter, unplaced_module, unplaced_source}

class_same : (ls : Links) → chain_class (unplaced_links ls) ≡ chain_class ls
class_same no_links = refl
class_same (link o t ls) = refl

rank_same : (t : Tree) → tree_rank (unplaced t) ≡ tree_rank t
rank_same (truth p b) = refl
rank_same (number p n) = refl
rank_same (literal p w) = refl
rank_same (name p path) = refl
rank_same (prefix p s n t) = refl
rank_same (chain p t ls) = ap (λ j. rank (Chain j)) (class_same ls)
rank_same (choice p bs t) = refl
rank_same (cases p bs) = refl
rank_same (select p t high low) = refl
rank_same (call p f ts) = refl
rank_same (next p t) = refl
rank_same (set p ts) = refl
rank_same (range p low high) = refl

stands_same : (n : ℕ) (t : Tree) → tree_kinds (unplaced t) ≡ tree_kinds t → standing n (unplaced t) (tree_kinds (unplaced t)) ≡ standing n t (tree_kinds t)
stands_same n t e = ap (λ r. cond (nat_le n r) (tree_kinds (unplaced t)) (in_brackets (tree_kinds (unplaced t)))) (rank_same t) ∙ ap (λ ks. standing n t ks) e

mutual
  tree_same : (t : Tree) → tree_kinds (unplaced t) ≡ tree_kinds t
  tree_same (truth p b) = refl
  tree_same (number p n) = refl
  tree_same (literal p w) = refl
  tree_same (name p path) = refl
  tree_same (prefix p s n t) = ap (λ ks. repeated n (prefix_kind s) ++ ks) (stands_same (suc (rank (Before s))) t (tree_same t))
  tree_same (chain p t ls) =
      ap (λ j. standing (suc (rank (Chain j))) (unplaced t) (tree_kinds (unplaced t)) ++ link_kinds (suc (rank (Chain j))) (unplaced_links ls)) (class_same ls)
      ∙ ap (λ ks. ks ++ link_kinds (suc (rank (Chain (chain_class ls)))) (unplaced_links ls)) (stands_same (suc (rank (Chain (chain_class ls)))) t (tree_same t))
      ∙ ap (λ ks. standing (suc (rank (Chain (chain_class ls)))) t (tree_kinds t) ++ ks) (links_same (suc (rank (Chain (chain_class ls)))) ls)
  tree_same (choice p bs t) = ap (λ ks. ks ++ standing 3 (unplaced t) (tree_kinds (unplaced t))) (choices_same bs) ∙ ap (λ ks. choice_kinds bs ++ ks) (stands_same 3 t (tree_same t))
  tree_same (cases p bs) = ap (λ ks. kind.Reserved word.Case ∷ (ks ++ kind.Reserved word.Esac ∷ [])) (cases_same bs)
  tree_same (select p t high low) = ap (λ ks. ks ++ kind.Sign sign.OpenBracket ∷ kind.Number high ∷ kind.Sign sign.Colon ∷ kind.Number low ∷ kind.Sign sign.CloseBracket ∷ []) (stands_same 15 t (tree_same t))
  tree_same (call p f ts) = ap (λ ks. kind.Reserved (function_word f) ∷ in_brackets ks) (arguments_same false ts)
  tree_same (next p t) = ap (λ ks. kind.Reserved word.Next ∷ in_brackets ks) (tree_same t)
  tree_same (set p ts) = ap (λ ks. kind.Sign sign.OpenBrace ∷ (ks ++ kind.Sign sign.CloseBrace ∷ [])) (arguments_same false ts)
  tree_same (range p low high) = refl

  links_same : (n : ℕ) (ls : Links) → link_kinds n (unplaced_links ls) ≡ link_kinds n ls
  links_same n no_links = refl
  links_same n (link o t ls) =
      ap (λ ks. infix_kind o ∷ (ks ++ link_kinds n (unplaced_links ls))) (stands_same n t (tree_same t)) ∙ ap (λ ks. infix_kind o ∷ (standing n t (tree_kinds t) ++ ks)) (links_same n ls)

  choices_same : (bs : Branches) → choice_kinds (unplaced_branches bs) ≡ choice_kinds bs
  choices_same no_branches = refl
  choices_same (branch w v bs) =
      ap (λ ks. ks ++ (kind.Sign sign.Question ∷ (standing 3 (unplaced v) (tree_kinds (unplaced v)) ++ (kind.Sign sign.Colon ∷ choice_kinds (unplaced_branches bs))))) (stands_same 3 w (tree_same w))
      ∙ ap (λ ks. standing 3 w (tree_kinds w) ++ (kind.Sign sign.Question ∷ (ks ++ (kind.Sign sign.Colon ∷ choice_kinds (unplaced_branches bs))))) (stands_same 3 v (tree_same v))
      ∙ ap (λ ks. standing 3 w (tree_kinds w) ++ (kind.Sign sign.Question ∷ (standing 3 v (tree_kinds v) ++ (kind.Sign sign.Colon ∷ ks)))) (choices_same bs)

  cases_same : (bs : Branches) → case_kinds (unplaced_branches bs) ≡ case_kinds bs
  cases_same no_branches = refl
  cases_same (branch w v bs) =
      ap (λ ks. ks ++ (kind.Sign sign.Colon ∷ (tree_kinds (unplaced v) ++ (kind.Sign sign.Semicolon ∷ case_kinds (unplaced_branches bs))))) (tree_same w)
      ∙ ap (λ ks. tree_kinds w ++ (kind.Sign sign.Colon ∷ (ks ++ (kind.Sign sign.Semicolon ∷ case_kinds (unplaced_branches bs))))) (tree_same v)
      ∙ ap (λ ks. tree_kinds w ++ (kind.Sign sign.Colon ∷ (tree_kinds v ++ (kind.Sign sign.Semicolon ∷ ks)))) (cases_same bs)

  arguments_same : (behind : Bool) (ts : Trees) → argument_kinds behind (unplaced_trees ts) ≡ argument_kinds behind ts
  arguments_same behind no_trees = refl
  arguments_same behind (tree t ts) =
      ap (λ ks. wanted behind sign.Comma ++ (ks ++ argument_kinds true (unplaced_trees ts))) (tree_same t) ∙ ap (λ ks. wanted behind sign.Comma ++ (tree_kinds t ++ ks)) (arguments_same true ts)

-- lists of parts
each_same : {A : Type 0} (f : A → List TokenKind) (g : A → A) → ((x : A) → f (g x) ≡ f x) → (xs : List A) → flat_map f (map g xs) ≡ flat_map f xs
each_same f g same [] = refl
each_same f g same (x ∷ xs) = ap (λ ks. ks ++ flat_map f (map g xs)) (same x) ∙ ap (λ ks. f x ++ ks) (each_same f g same xs)

actuals_same : (ts : Trees) → actual_kinds (unplaced_trees ts) ≡ actual_kinds ts
actuals_same no_trees = refl
actuals_same (tree t ts) = ap in_brackets (arguments_same false (tree t ts))

domain_same : (d : PlainDomain) → domain_kinds (unplaced_domain d) ≡ domain_kinds d
domain_same boolean = refl
domain_same (members ms) = refl
domain_same (between low high) = refl
domain_same (bits n) = refl
domain_same (instance m ts) = ap (λ ks. kind.Ident m ∷ ks) (actuals_same ts)

item_same : (i : PlainItem) → item_kinds (unplaced_item i) ≡ item_kinds i
item_same i = ap (λ ks. kind.Ident i.name ∷ kind.Sign sign.Colon ∷ (ks ++ kind.Sign sign.Semicolon ∷ [])) (domain_same i.domain)

formula_same : (t : Tree) → formula_kinds (unplaced t) ≡ formula_kinds t
formula_same t = ap (λ ks. ks ++ kind.Sign sign.Semicolon ∷ []) (tree_same t)

body_same : (t : Tree) → body_kinds (unplaced t) ≡ body_kinds t
body_same t = ap (λ ks. kind.Sign sign.Assign ∷ ks) (formula_same t)

definition_same : (d : PlainDefinition) → definition_kinds (unplaced_definition d) ≡ definition_kinds d
definition_same d = ap (λ ks. kind.Ident d.name ∷ ks) (body_same d.body)

target_same : (w : When) (p : Path) (t : Tree) → target_kinds w (unplaced_path p) ++ body_kinds (unplaced t) ≡ target_kinds w p ++ body_kinds t
target_same Always p t = ap (λ ks. path_kinds p ++ ks) (body_same t)
target_same First p t = ap (λ ks. target_kinds First p ++ ks) (body_same t)
target_same Following p t = ap (λ ks. target_kinds Following p ++ ks) (body_same t)

assignment_same : (a : PlainAssignment) → assignment_kinds (unplaced_assignment a) ≡ assignment_kinds a
assignment_same a = target_same a.when a.target a.body

parameters_same : (ps : List Parameter) → map parameter_name (map unplaced_parameter ps) ≡ map parameter_name ps
parameters_same [] = refl
parameters_same (p ∷ ps) = ap (λ ns. p.name ∷ ns) (parameters_same ps)

formals_same : (ps : List Parameter) → parameter_kinds (map unplaced_parameter ps) ≡ parameter_kinds ps
formals_same [] = refl
formals_same (p ∷ ps) = ap (λ ns. in_brackets (parted sign.Comma false (map ident ns))) (parameters_same (p ∷ ps))

element_same : (e : PlainElement) → element_kinds (unplaced_element e) ≡ element_kinds e
element_same (vars k items) = ap (λ ks. kind.Reserved (section_word k) ∷ ks) (each_same item_kinds unplaced_item item_same items)
element_same (defines ds) = ap (λ ks. kind.Reserved word.Define ∷ ks) (each_same definition_kinds unplaced_definition definition_same ds)
element_same (constants ns) = refl
element_same (assigns items) = ap (λ ks. kind.Reserved word.Assign ∷ ks) (each_same assignment_kinds unplaced_assignment assignment_same items)
element_same (init t) = ap (λ ks. kind.Reserved word.Init ∷ ks) (formula_same t)
element_same (trans t) = ap (λ ks. kind.Reserved word.Trans ∷ ks) (formula_same t)
element_same (invar t) = ap (λ ks. kind.Reserved word.Invar ∷ ks) (formula_same t)
element_same (spec o t) = ap (λ ks. kind.Reserved word.Invarspec ∷ (spec_name_kinds o ++ ks)) (formula_same t)

module_same : (m : PlainModule) → module_kinds (unplaced_module m) ≡ module_kinds m
module_same m =
    ap (λ ks. kind.Reserved word.Module ∷ kind.Ident m.name ∷ (ks ++ flat_map element_kinds (map unplaced_element m.elements))) (formals_same m.parameters)
    ∙ ap (λ ks. kind.Reserved word.Module ∷ kind.Ident m.name ∷ (parameter_kinds m.parameters ++ ks)) (each_same element_kinds unplaced_element element_same m.elements)

printed_unplaced : (s : PlainSource) → printed (unplaced_source s) ≡ printed s
printed_unplaced s = ap joined (each_same module_kinds unplaced_module module_same s.modules)

pub one_text : (s u : PlainSource) → unplaced_source s ≡ unplaced_source u → printed s ≡ printed u
one_text s u e = sym (printed_unplaced s) ∙ ap printed e ∙ printed_unplaced u
