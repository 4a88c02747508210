-- What bounds the terms that stand for an expression: the least number of its tokens, and its height.
use Rattle.std.proofs.Common.{◌≡◌, ℕ, ◌+◌, ◌*◌, ◌≤◌, max, Bool, true, false, if◌then◌else◌, refl, arith}
use Rattle.smv_text.specs.Tree.{Tree as Expression, truth, number, literal, name, prefix, chain, choice, cases, select, call, next, set, range, Links, no_links, link, Branches, no_branches, branch, Trees as Expressions, no_trees as no_expressions, tree as expression}
use Rattle.moxi_terms.specs.Tree.{Tree, Trees, no_trees, tree}
use Rattle.moxi_flat.specs.Terms.{term_size, terms_size, term_height, terms_height}
use Rattle.smv_script.specs.Terms.{Translation}
use Rattle.moxi_script_print.proofs.OpenBrackets.{open_brackets, all_brackets}

-- ---- the least number of tokens

abbrev mutual
  pub fewest : Expression → ℕ
  fewest (truth p b) = 1
  fewest (number p n) = 1
  fewest (literal p w) = 1
  fewest (name p path) = 1
  fewest (prefix p sign n e) = n + fewest e
  fewest (chain p e ls) = fewest e + fewest_links ls
  fewest (choice p bs e) = fewest_branches bs + fewest e
  fewest (cases p bs) = 2 + fewest_branches bs
  fewest (select p e high low) = 5 + fewest e
  fewest (call p f es) = 2 + fewest_parts es
  fewest (next p e) = 3 + fewest e
  fewest (set p es) = 1 + fewest_parts es
  fewest (range p low high) = 3

  pub fewest_links : Links → ℕ
  fewest_links no_links = 0
  fewest_links (link op e ls) = 1 + (fewest e + fewest_links ls)

  pub fewest_branches : Branches → ℕ
  fewest_branches no_branches = 0
  fewest_branches (branch q e bs) = 2 + (fewest q + (fewest e + fewest_branches bs))

  -- each with a comma or a closing bracket
  pub fewest_parts : Expressions → ℕ
  fewest_parts no_expressions = 0
  fewest_parts (expression e es) = 1 + (fewest e + fewest_parts es)

-- ---- terms that call no function

abbrev pub no_calls : ℕ → ℕ
no_calls n = 0

pub record IsLeaf (t : Tree) : Type 0 where
  pub size : term_size no_calls t ≡ 1
  pub height : term_height no_calls t ≡ 1
  pub brackets : open_brackets t ≡ 0

-- what a term may have that stands for an expression of so many tokens and this height
pub record Within (n h : ℕ) (t : Tree) : Type 0 where
  pub size : term_size no_calls t + 2 ≤ 3 * n
  pub height : term_height no_calls t ≤ 2 * h
  pub brackets : open_brackets t + 2 ≤ 3 * h

-- what a term may have that says whether a name's value is among those of such an expression
pub record Inside (n h : ℕ) (t : Tree) : Type 0 where
  pub size : term_size no_calls t ≤ 3 * n
  pub height : term_height no_calls t ≤ 2 * h + 1
  pub brackets : open_brackets t ≤ 3 * h

-- the same of several terms
pub record Together (n h : ℕ) (ts : Trees) : Type 0 where
  pub size : terms_size no_calls ts ≤ 3 * n
  pub height : terms_height no_calls ts ≤ 2 * h + 1
  pub brackets : all_brackets ts ≤ 3 * h

pub record Fits (n h : ℕ) (d : Translation) : Type 0 where
  pub term : (k : ℕ) → Within n h (d.term k)
  pub member : (k : ℕ) (x : Tree) → IsLeaf x → Inside n h (d.member k x)

-- terms of several arguments, each with a comma or a bracket behind it
pub data AllWithin : ℕ → ℕ → Trees → Type 0 where
  none_within : AllWithin 0 0 no_trees
  one_within : {n m h i : ℕ} {t : Tree} {ts : Trees} → Within n h t → AllWithin m i ts → AllWithin (1 + (n + m)) (max h i) (tree t ts)

-- ---- larger bounds

pub within_more : {n m h i : ℕ} (t : Tree) → Within n h t → n ≤ m → h ≤ i → Within m i t
within_more t w a b = record {
  size = omega (arith, w.size, a);
  height = omega (arith, w.height, b);
  brackets = omega (arith, w.brackets, b);
}

pub inside_more : {n m h i : ℕ} (t : Tree) → Inside n h t → n ≤ m → h ≤ i → Inside m i t
inside_more t w a b = record {
  size = omega (arith, w.size, a);
  height = omega (arith, w.height, b);
  brackets = omega (arith, w.brackets, b);
}

pub fits_more : {n m h i : ℕ} (d : Translation) → Fits n h d → n ≤ m → h ≤ i → Fits m i d
fits_more d f a b = record {
  term = λ k. within_more (d.term k) (f.term k) a b;
  member = λ k x l. inside_more (d.member k x) (f.member k x l) a b;
}

-- ---- choices between terms

pub within_if : {n h : ℕ} (b : Bool) (t u : Tree) → Within n h t → Within n h u → Within n h (if b then t else u)
within_if true t u v w = v
within_if false t u v w = w

pub fits_if : {n h : ℕ} (b : Bool) (d e : Translation) → (b ≡ true → Fits n h d) → (b ≡ false → Fits n h e) → Fits n h (if b then d else e)
fits_if true d e f g = f refl
fits_if false d e f g = g refl
