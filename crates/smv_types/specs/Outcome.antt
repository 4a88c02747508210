-- The outcome of an expression's checks: its type, or the first refusal (kinds and order are this translator's own).
use Rattle.std.specs.Prelude.{◌≡◌, ℕ, true, false, Bool, ◌&&◌, Option, Some, None, option_map, Result, Ok, Err}
use Rattle.text_core.specs.declared.end.End.{End}
use Rattle.text_core.specs.declared.place.Place.{Place}
use Rattle.text_core.specs.declared.place.Refusal.{Refusal}
use Rattle.smv_text.specs.declared.tree.Path.{Path}
use Rattle.smv_text.specs.Tree.{Tree, truth, number, literal, name, prefix, chain, choice, cases, select, call, next, set, range, Links, no_links, link, Branches, no_branches, branch, Trees, no_trees, tree}
use Rattle.smv_meaning.specs.Types.{ExprType}
use Rattle.smv_meaning.specs.Checks.{check, first_failing, Typing, IsBad}
use Rattle.smv_intervals.specs.declared.types.Ty.{Ty}
use Rattle.smv_intervals.specs.View.{seen}

abbrev pub verdict : {X : Type 0} → Option Refusal → X → Result X Refusal
verdict None x = Ok x
verdict (Some r) x = Err r

abbrev pub outcome : Typing → Result (Option ExprType) Refusal
outcome t = verdict (first_failing t.checks) t.type

-- the refusal of a kind at a place
abbrev pub refusal_at : ℕ → Place → Refusal
refusal_at n p = (check n p false).refusal

abbrev pub Answers : Result (Option Ty) Refusal → Typing → Type 0
Answers (Ok o) t = outcome t ≡ Ok (option_map seen o)
Answers (Err why) t = outcome t ≡ Err why

abbrev pub Ends : Result (Option Ty) End → Typing → Type 0
Ends (Ok o) t = outcome t ≡ Ok (option_map seen o)
Ends (Err e) t = IsBad e (first_failing t.checks)

-- each path of an expression is one of those that are known
abbrev mutual
  pub is_known : (Path → Bool) → Tree → Bool
  is_known knows (truth p b) = true
  is_known knows (number p n) = true
  is_known knows (literal p w) = true
  is_known knows (name p x) = knows x
  is_known knows (prefix p sign n e) = is_known knows e
  is_known knows (chain p e ls) = is_known knows e && links_known knows ls
  is_known knows (choice p bs e) = branches_known knows bs && is_known knows e
  is_known knows (cases p bs) = branches_known knows bs
  is_known knows (select p e high low) = is_known knows e
  is_known knows (call p f es) = trees_known knows es
  is_known knows (next p e) = is_known knows e
  is_known knows (set p es) = trees_known knows es
  is_known knows (range p low high) = true

  pub links_known : (Path → Bool) → Links → Bool
  links_known knows no_links = true
  links_known knows (link op e ls) = is_known knows e && links_known knows ls

  pub branches_known : (Path → Bool) → Branches → Bool
  branches_known knows no_branches = true
  branches_known knows (branch c e rest) = is_known knows c && (is_known knows e && branches_known knows rest)

  pub trees_known : (Path → Bool) → Trees → Bool
  trees_known knows no_trees = true
  trees_known knows (tree e es) = is_known knows e && trees_known knows es
