-- Each word literal is a word: its width is one that words have, and its bits are below two to the width.
use Rattle.std.specs.Prelude.{Bool, true, ◌&&◌}
use Rattle.smv_text.specs.Tree.{Tree, literal, prefix, chain, choice, cases, select, call, next, set, Links, no_links, link, Branches, no_branches, branch, Trees, no_trees, tree}
use Rattle.smv_meaning.specs.Checks.{is_literal}

abbrev mutual
  pub words_fit : Tree → Bool
  words_fit (literal p w) = is_literal w
  words_fit (prefix p sign n e) = words_fit e
  words_fit (chain p e ls) = words_fit e && link_words ls
  words_fit (choice p bs e) = branch_words bs && words_fit e
  words_fit (cases p bs) = branch_words bs
  words_fit (select p e high low) = words_fit e
  words_fit (call p f es) = tree_words es
  words_fit (next p e) = words_fit e
  words_fit (set p es) = tree_words es
  words_fit e = true

  pub link_words : Links → Bool
  link_words no_links = true
  link_words (link op e ls) = words_fit e && link_words ls

  pub branch_words : Branches → Bool
  branch_words no_branches = true
  branch_words (branch c e rest) = words_fit c && (words_fit e && branch_words rest)

  pub tree_words : Trees → Bool
  tree_words no_trees = true
  tree_words (tree e es) = words_fit e && tree_words es
