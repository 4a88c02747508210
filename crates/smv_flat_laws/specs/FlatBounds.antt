-- The numbers in a flat form are those of items and symbols that are there.
use Rattle.std.specs.Prelude.{ℕ, Bool, true, ◌&&◌, nat_lt, length, IsTrue}
use Rattle.std.specs.List.{list_all}
use Rattle.smv_text.specs.Tree.{PlainSource}
use Rattle.smv_meaning.specs.Phases.{IsAccepted}
use Rattle.smv_flat.specs.declared.forms.Role.{Role}
use Rattle.smv_flat.specs.declared.forms.Role.TheVariants.{Body, Assign}
use Rattle.smv_flat.specs.FlatTree.{FlatTree, flat_truth, flat_number, flat_literal, flat_symbol, flat_item, flat_prefix, flat_chain, flat_choice, flat_cases, flat_select, flat_call, flat_set, flat_range, FlatLinks, no_flat_links, flat_link, FlatBranches, no_flat_branches, flat_branch, FlatTrees, no_flat_trees, flat_tree_then}
use Rattle.smv_flat.specs.FlatForms.{Form, PlainFlat, flat_smv}

-- given how many items and symbols there are
abbrev mutual
  pub numbers_lie : ℕ → ℕ → FlatTree → Bool
  numbers_lie items symbols (flat_truth t b) = true
  numbers_lie items symbols (flat_number t n) = true
  numbers_lie items symbols (flat_literal t w) = true
  numbers_lie items symbols (flat_symbol t s) = nat_lt s symbols
  numbers_lie items symbols (flat_item t k under) = nat_lt k items
  numbers_lie items symbols (flat_prefix t sign n e) = numbers_lie items symbols e
  numbers_lie items symbols (flat_chain t e ls) = numbers_lie items symbols e && links_lie items symbols ls
  numbers_lie items symbols (flat_choice t bs e) = branches_lie items symbols bs && numbers_lie items symbols e
  numbers_lie items symbols (flat_cases t bs) = branches_lie items symbols bs
  numbers_lie items symbols (flat_select t e high low) = numbers_lie items symbols e
  numbers_lie items symbols (flat_call t f es) = trees_lie items symbols es
  numbers_lie items symbols (flat_set t es) = trees_lie items symbols es
  numbers_lie items symbols (flat_range t low high) = true

  pub links_lie : ℕ → ℕ → FlatLinks → Bool
  links_lie items symbols no_flat_links = true
  links_lie items symbols (flat_link op e ls) = numbers_lie items symbols e && links_lie items symbols ls

  pub branches_lie : ℕ → ℕ → FlatBranches → Bool
  branches_lie items symbols no_flat_branches = true
  branches_lie items symbols (flat_branch c e rest) = numbers_lie items symbols c && (numbers_lie items symbols e && branches_lie items symbols rest)

  pub trees_lie : ℕ → ℕ → FlatTrees → Bool
  trees_lie items symbols no_flat_trees = true
  trees_lie items symbols (flat_tree_then e es) = numbers_lie items symbols e && trees_lie items symbols es

abbrev pub role_lies : ℕ → Role → Bool
role_lies items (Body k) = nat_lt k items
role_lies items (Assign when k) = nat_lt k items
role_lies items r = true

abbrev pub form_lies : ℕ → ℕ → Form → Bool
form_lies items symbols f = role_lies items f.role && numbers_lie items symbols f.body

abbrev pub flat_lies : PlainFlat → Bool
flat_lies flat = list_all (form_lies (length flat.items) (length flat.symbols)) flat.forms

abbrev pub NumbersLie : Type 0
NumbersLie = (source : PlainSource) (needed : ℕ) → IsAccepted source needed → IsTrue (flat_lies (flat_smv source))
