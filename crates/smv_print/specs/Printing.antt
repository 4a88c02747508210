-- The printed form of a model: brackets only where the grammar needs them, every optional `;`, no brackets for empty lists of
-- parameters, and `word` without `unsigned` (NuSMV 2.6 User Manual, 2.2 and 2.3). This layout is our own.
use Rattle.std.specs.Prelude.{ℕ, zero, suc, ℤ, pos, negsuc, Bool, true, false, cond, nat_le, Option, Some, None, List, [], ◌∷◌, ◌++◌, map}
use Rattle.std.specs.List.{flat_map}
use Rattle.smv_text.specs.declared.token.Reserved.{Reserved}
use Rattle.smv_text.specs.declared.token.Reserved.TheVariants as word
use Rattle.smv_text.specs.declared.token.Sign.{Sign}
use Rattle.smv_text.specs.declared.token.Sign.TheVariants as sign
use Rattle.smv_text.specs.declared.token.TokenKind.{TokenKind}
use Rattle.smv_text.specs.declared.token.TokenKind.TheVariants as kind
use Rattle.smv_text.specs.declared.tree.Path.{Path}
use Rattle.smv_text.specs.declared.tree.Member.{Member}
use Rattle.smv_text.specs.declared.tree.Member.TheVariants.{Symbol, Integer}
use Rattle.smv_text.specs.declared.tree.When.{When}
use Rattle.smv_text.specs.declared.tree.When.TheVariants.{Always, First, Following}
use Rattle.smv_text.specs.declared.tree.Parameter.{Parameter}
use Rattle.smv_text.specs.declared.level.Level.TheVariants as level
use Rattle.smv_text.specs.Levels.{infix_kind, prefix_kind, function_word}
use Rattle.smv_print.specs.Ranks.{rank, chain_class, tree_rank}
use Rattle.smv_text.specs.Sources.{section_word}
use Rattle.smv_lex.specs.Spelling.{joined}
use Rattle.smv_text.specs.Tree.{Tree, truth, number, literal, name, prefix, chain, choice, cases, select, call, next, set, range, Links, no_links, link, Branches, no_branches, branch, Trees, no_trees, tree, PlainDomain, boolean, members, between, bits, instance, PlainItem, PlainDefinition, PlainAssignment, PlainElement, vars, defines, constants, assigns, init, trans, invar, spec, PlainModule, PlainSource}

-- a sign, where one is wanted
abbrev pub wanted : Bool → Sign → List TokenKind
wanted true s = kind.Sign s ∷ []
wanted false s = []

-- the token, so many times
abbrev pub repeated : ℕ → TokenKind → List TokenKind
repeated zero k = []
repeated (suc n) k = k ∷ repeated n k

-- the sign between two parts, and also before the first where `behind` is true
abbrev pub parted : Sign → Bool → List (List TokenKind) → List TokenKind
parted s behind [] = []
parted s behind (x ∷ xs) = wanted behind s ++ (x ++ parted s true xs)

-- an identifier alone
abbrev pub ident : List ℕ → List TokenKind
ident n = kind.Ident n ∷ []

abbrev pub in_brackets : List TokenKind → List TokenKind
in_brackets ks = kind.Sign sign.Open ∷ (ks ++ kind.Sign sign.Close ∷ [])

abbrev pub int_kinds : ℤ → List TokenKind
int_kinds (pos n) = kind.Number n ∷ []
int_kinds (negsuc n) = kind.Sign sign.Minus ∷ kind.Number (suc n) ∷ []

abbrev pub range_kinds : ℤ → ℤ → List TokenKind
range_kinds low high = int_kinds low ++ kind.Sign sign.Range ∷ int_kinds high

abbrev pub self_kinds : Bool → List TokenKind
self_kinds true = kind.Reserved word.Itself ∷ []
self_kinds false = []

abbrev pub path_kinds : Path → List TokenKind
path_kinds p = self_kinds p.from_self ++ parted sign.Dot p.from_self (map ident p.names)

abbrev pub truth_word : Bool → Reserved
truth_word true = word.True
truth_word false = word.False

-- An expression with these tokens stands where the level of this place is wanted: bare where its own level is that one or a
-- tighter one, else in brackets.
abbrev pub standing : ℕ → Tree → List TokenKind → List TokenKind
standing floor t ks = cond (nat_le floor (tree_rank t)) ks (in_brackets ks)

-- the tokens of an expression
abbrev mutual
  pub tree_kinds : Tree → List TokenKind
  tree_kinds (truth p b) = kind.Reserved (truth_word b) ∷ []
  tree_kinds (number p n) = kind.Number n ∷ []
  tree_kinds (literal p w) = kind.Literal w ∷ []
  tree_kinds (name p path) = path_kinds path
  tree_kinds (prefix p s n t) = repeated n (prefix_kind s) ++ standing (suc (rank (level.Before s))) t (tree_kinds t)
  tree_kinds (chain p t ls) = standing (suc (rank (level.Chain (chain_class ls)))) t (tree_kinds t) ++ link_kinds (suc (rank (level.Chain (chain_class ls)))) ls
  tree_kinds (choice p bs t) = choice_kinds bs ++ standing (suc (rank level.Choice)) t (tree_kinds t)
  tree_kinds (cases p bs) = kind.Reserved word.Case ∷ (case_kinds bs ++ kind.Reserved word.Esac ∷ [])
  tree_kinds (select p t high low) =
      standing (rank level.Selection) t (tree_kinds t) ++ kind.Sign sign.OpenBracket ∷ kind.Number high ∷ kind.Sign sign.Colon ∷ kind.Number low ∷ kind.Sign sign.CloseBracket ∷ []
  tree_kinds (call p f ts) = kind.Reserved (function_word f) ∷ in_brackets (argument_kinds false ts)
  tree_kinds (next p t) = kind.Reserved word.Next ∷ in_brackets (tree_kinds t)
  tree_kinds (set p ts) = kind.Sign sign.OpenBrace ∷ (argument_kinds false ts ++ kind.Sign sign.CloseBrace ∷ [])
  tree_kinds (range p low high) = range_kinds low high

  -- operators and operands, each operand where the level of this place is wanted
  pub link_kinds : ℕ → Links → List TokenKind
  link_kinds floor no_links = []
  link_kinds floor (link o t ls) = infix_kind o ∷ (standing floor t (tree_kinds t) ++ link_kinds floor ls)

  -- conditions and values, each of a level tighter than the choice
  pub choice_kinds : Branches → List TokenKind
  choice_kinds no_branches = []
  choice_kinds (branch w v bs) =
      standing (suc (rank level.Choice)) w (tree_kinds w) ++ (kind.Sign sign.Question ∷ (standing (suc (rank level.Choice)) v (tree_kinds v) ++ (kind.Sign sign.Colon ∷ choice_kinds bs)))

  pub case_kinds : Branches → List TokenKind
  case_kinds no_branches = []
  case_kinds (branch w v bs) = tree_kinds w ++ (kind.Sign sign.Colon ∷ (tree_kinds v ++ (kind.Sign sign.Semicolon ∷ case_kinds bs)))

  -- a comma between two, and also before the first where `behind` is true
  pub argument_kinds : Bool → Trees → List TokenKind
  argument_kinds behind no_trees = []
  argument_kinds behind (tree t ts) = wanted behind sign.Comma ++ (tree_kinds t ++ argument_kinds true ts)

abbrev pub member_kinds : Member → List TokenKind
member_kinds (Symbol n) = ident n
member_kinds (Integer i) = int_kinds i

-- actual parameters, with no brackets where there are none
abbrev pub actual_kinds : Trees → List TokenKind
actual_kinds no_trees = []
actual_kinds (tree t ts) = in_brackets (argument_kinds false (tree t ts))

abbrev pub domain_kinds : PlainDomain → List TokenKind
domain_kinds boolean = kind.Reserved word.Boolean ∷ []
domain_kinds (members ms) = kind.Sign sign.OpenBrace ∷ (parted sign.Comma false (map member_kinds ms) ++ kind.Sign sign.CloseBrace ∷ [])
domain_kinds (between low high) = range_kinds low high
domain_kinds (bits n) = kind.Reserved word.Word ∷ kind.Sign sign.OpenBracket ∷ kind.Number n ∷ kind.Sign sign.CloseBracket ∷ []
domain_kinds (instance m ts) = kind.Ident m ∷ actual_kinds ts

abbrev pub item_kinds : PlainItem → List TokenKind
item_kinds i = kind.Ident i.name ∷ kind.Sign sign.Colon ∷ (domain_kinds i.domain ++ kind.Sign sign.Semicolon ∷ [])

-- what is assigned, behind its sign
abbrev pub body_kinds : Tree → List TokenKind
body_kinds t = kind.Sign sign.Assign ∷ (tree_kinds t ++ kind.Sign sign.Semicolon ∷ [])

abbrev pub definition_kinds : PlainDefinition → List TokenKind
definition_kinds d = kind.Ident d.name ∷ body_kinds d.body

abbrev pub target_kinds : When → Path → List TokenKind
target_kinds Always p = path_kinds p
target_kinds First p = kind.Reserved word.Initial ∷ in_brackets (path_kinds p)
target_kinds Following p = kind.Reserved word.Next ∷ in_brackets (path_kinds p)

abbrev pub assignment_kinds : PlainAssignment → List TokenKind
assignment_kinds a = target_kinds a.when a.target ++ body_kinds a.body

-- the name of an invariant, where it has one
abbrev pub spec_name_kinds : Option (List ℕ) → List TokenKind
spec_name_kinds None = []
spec_name_kinds (Some n) = kind.Reserved word.Name ∷ kind.Ident n ∷ kind.Sign sign.Assign ∷ []

abbrev pub formula_kinds : Tree → List TokenKind
formula_kinds t = tree_kinds t ++ kind.Sign sign.Semicolon ∷ []

abbrev pub element_kinds : PlainElement → List TokenKind
element_kinds (vars v items) = kind.Reserved (section_word v) ∷ flat_map item_kinds items
element_kinds (defines ds) = kind.Reserved word.Define ∷ flat_map definition_kinds ds
element_kinds (constants ns) = kind.Reserved word.Constants ∷ (parted sign.Comma false (map ident ns) ++ kind.Sign sign.Semicolon ∷ [])
element_kinds (assigns items) = kind.Reserved word.Assign ∷ flat_map assignment_kinds items
element_kinds (init t) = kind.Reserved word.Init ∷ formula_kinds t
element_kinds (trans t) = kind.Reserved word.Trans ∷ formula_kinds t
element_kinds (invar t) = kind.Reserved word.Invar ∷ formula_kinds t
element_kinds (spec o t) = kind.Reserved word.Invarspec ∷ (spec_name_kinds o ++ formula_kinds t)

abbrev pub parameter_name : Parameter → List ℕ
parameter_name p = p.name

-- parameters, with no brackets where there are none
abbrev pub parameter_kinds : List Parameter → List TokenKind
parameter_kinds [] = []
parameter_kinds (p ∷ ps) = in_brackets (parted sign.Comma false (map ident (map parameter_name (p ∷ ps))))

-- what is behind a module's first word
abbrev pub rest_kinds : PlainModule → List TokenKind
rest_kinds m = kind.Ident m.name ∷ (parameter_kinds m.parameters ++ flat_map element_kinds m.elements)

abbrev pub module_kinds : PlainModule → List TokenKind
module_kinds m = kind.Reserved word.Module ∷ rest_kinds m

abbrev pub source_kinds : PlainSource → List TokenKind
source_kinds s = flat_map module_kinds s.modules

-- the printed form of a model: its tokens with single blanks between them
abbrev pub printed : PlainSource → List ℕ
printed s = joined (source_kinds s)
