-- What holds of an expression holds of its parts: the checks, and what they need of names, of word literals and of depths.
use Rattle.std.proofs.Common.{◌≡◌, Bool, true, false, ◌&&◌, if◌then◌else◌, List, ◌++◌, sym, subst}
use mathlib.Core.Logic.{inl, inr}
use Rattle.text_core.specs.declared.place.Place.{Place}
use Rattle.smv_text.specs.declared.tree.Path.{Path}
use Rattle.smv_text.specs.Tree.{Tree, truth, number, literal, name, prefix, chain, choice, cases, select, call, next, set, range, Links, no_links, link, Branches, no_branches, branch, Trees, no_trees, tree}
use Rattle.smv_meaning.specs.Expressions.{is_from_right, paths_of, link_paths, branch_paths, tree_paths}
use Rattle.smv_meaning.specs.Checks.{passes, Position, single, under_next, Named, Typing, front, across, behind, typing, link_checks, linked, branch_checks, tree_checks}
use Rattle.smv_meaning.specs.Owed.{HasType}
use Rattle.smv_meaning.specs.Literals.{words_fit, link_words, branch_words, tree_words}
use Rattle.smv_meaning.specs.Parts.{IsPart, InLinks, InBranches, InTrees}
use Rattle.smv_meaning.specs.laws.Booleans.{both_true}
use Rattle.smv_laws.proofs.Agreeing.{more_paths, more_branches}
use Rattle.smv_laws.proofs.Typable.{TypedPaths, split, linked_front, front_parts, has_type}

-- somewhere the checks hold
pub record Sound (names : Path → Named) (e : Tree) : Type 0 where
  pub at : Position
  pub more : List Path
  pub typed : TypedPaths names (paths_of e more)
  pub words : words_fit e ≡ true
  pub checks : passes (typing names at e).checks ≡ true

pub sound_type : (names : Path → Named) (e : Tree) (s : Sound names e) → HasType (typing names s.at e).type
sound_type names e s = has_type names s.at e s.more s.typed s.words s.checks

-- in some position the checks hold
abbrev pub AnyHold : (Path → Named) → Tree → Type 0
AnyHold names e = (at : Position) × (passes (typing names at e).checks ≡ true)

abbrev LinksHold : (Path → Named) → Links → Type 0
LinksHold names no_links = Unit {0}
LinksHold names (link op e ls) = AnyHold names e × LinksHold names ls

abbrev BranchesHold : (Path → Named) → Branches → Type 0
BranchesHold names no_branches = Unit {0}
BranchesHold names (branch c e rest) = AnyHold names c × AnyHold names e × BranchesHold names rest

abbrev pub TreesHold : (Path → Named) → Trees → Type 0
TreesHold names no_trees = Unit {0}
TreesHold names (tree e es) = AnyHold names e × TreesHold names es

right_hold : (names : Path → Named) (at : Position) (ls : Links) → passes (link_checks names at ls) ≡ true → LinksHold names ls
right_hold names at no_links h = tt
right_hold names at (link op e ls) h =
    let b = split (typing names at e).checks (link_checks names at ls) h in ((at, b.0), right_hold names at ls b.1)

left_hold : (names : Path → Named) (at : Position) (p : Place) (a : Typing) (ls : Links) → passes (linked names at p a ls).checks ≡ true → LinksHold names ls
left_hold names at p a no_links h = tt
left_hold names at p a (link op e ls) h =
    ((behind op at, (front_parts names at p a op e ls h).0), left_hold names at p (front op at p a (typing names (behind op at) e) e) ls h)

branches_hold : (names : Path → Named) (at : Position) (bs : Branches) → passes (branch_checks names at bs) ≡ true → BranchesHold names bs
branches_hold names at no_branches h = tt
branches_hold names at (branch c e rest) h =
    let b = split ((typing names (single at) c).checks ++ (typing names at e).checks) (branch_checks names at rest) h in
    let d = split (typing names (single at) c).checks (typing names at e).checks b.0 in
    ((single at, d.0), (at, d.1), branches_hold names at rest b.1)

trees_hold : (names : Path → Named) (at : Position) (es : Trees) → passes (tree_checks names at es) ≡ true → TreesHold names es
trees_hold names at no_trees h = tt
trees_hold names at (tree e es) h = let b = split (typing names at e).checks (tree_checks names at es) h in ((at, b.0), trees_hold names at es b.1)

pick : {X : Type 0} (b : Bool) (x y : Typing) → passes (if b then x else y).checks ≡ true → (passes x.checks ≡ true → X) → (passes y.checks ≡ true → X) → X
pick true x y h f g = f h
pick false x y h f g = g h

chain_hold : (names : Path → Named) (at : Position) (p : Place) (e : Tree) (ls : Links) → passes (typing names at (chain p e ls)).checks ≡ true → AnyHold names e × LinksHold names ls
chain_hold names at p e ls h =
    pick {X = AnyHold names e × LinksHold names ls} (is_from_right ls) _ _ h
    (λ k.
    let b = split ((typing names (single at) e).checks ++ link_checks names (single at) ls) _ k in
    let c = split (typing names (single at) e).checks (link_checks names (single at) ls) b.0 in
    ((single at, c.0), right_hold names (single at) ls c.1))
    (λ k. ((across ls at, linked_front names (across ls at) p (typing names (across ls at) e) ls k), left_hold names (across ls at) p (typing names (across ls at) e) ls k))

here : (names : Path → Named) (x : Tree) (more : List Path) → TypedPaths names (paths_of x more) → words_fit x ≡ true → AnyHold names x → (e : Tree) → e ≡ x → Sound names e
here names x more s w k e h = subst (Sound names) (sym h) (record { at = k.0; more = more; typed = s; words = w; checks = k.1 })

mutual
  pub part_sound : (names : Path → Named) (x : Tree) (more : List Path) → TypedPaths names (paths_of x more) → words_fit x ≡ true → AnyHold names x
      → (e : Tree) → IsPart e x → Sound names e
  part_sound names (truth p b) more s w k e h = here names (truth p b) more s w k e h
  part_sound names (number p n) more s w k e h = here names (number p n) more s w k e h
  part_sound names (literal p v) more s w k e h = here names (literal p v) more s w k e h
  part_sound names (name p x) more s w k e h = here names (name p x) more s w k e h
  part_sound names (prefix p sign n x) more s w k e (inl h) = here names (prefix p sign n x) more s w k e h
  part_sound names (prefix p sign n x) more s w k e (inr h) =
      part_sound names x more s w (single k.0, (split (typing names (single k.0) x).checks _ k.1).0) e h
  part_sound names (chain p x ls) more s w k e (inl h) = here names (chain p x ls) more s w k e h
  part_sound names (chain p x ls) more s w k e (inr (inl h)) =
      let c = chain_hold names k.0 p x ls k.1 in
      part_sound names x (link_paths ls more) s (both_true (words_fit x) (link_words ls) w).0 c.0 e h
  part_sound names (chain p x ls) more s w k e (inr (inr h)) =
      let c = chain_hold names k.0 p x ls k.1 in
      links_sound names ls more (λ q i. s q (more_paths x (link_paths ls more) q i)) (both_true (words_fit x) (link_words ls) w).1 c.1 e h
  part_sound names (choice p bs x) more s w k e (inl h) = here names (choice p bs x) more s w k e h
  part_sound names (choice p bs x) more s w k e (inr (inl h)) =
      let b = split (branch_checks names k.0 bs ++ (typing names k.0 x).checks) _ k.1 in
      let c = split (branch_checks names k.0 bs) (typing names k.0 x).checks b.0 in
      branches_sound names bs (paths_of x more) s (both_true (branch_words bs) (words_fit x) w).0 (branches_hold names k.0 bs c.0) e h
  part_sound names (choice p bs x) more s w k e (inr (inr h)) =
      let b = split (branch_checks names k.0 bs ++ (typing names k.0 x).checks) _ k.1 in
      let c = split (branch_checks names k.0 bs) (typing names k.0 x).checks b.0 in
      part_sound names x more (λ q i. s q (more_branches bs (paths_of x more) q i)) (both_true (branch_words bs) (words_fit x) w).1 (k.0, c.1) e h
  part_sound names (cases p bs) more s w k e (inl h) = here names (cases p bs) more s w k e h
  part_sound names (cases p bs) more s w k e (inr h) =
      branches_sound names bs more s w (branches_hold names k.0 bs (split (branch_checks names k.0 bs) _ k.1).0) e h
  part_sound names (select p x high low) more s w k e (inl h) = here names (select p x high low) more s w k e h
  part_sound names (select p x high low) more s w k e (inr h) =
      part_sound names x more s w (single k.0, (split (typing names (single k.0) x).checks _ k.1).0) e h
  part_sound names (call p f xs) more s w k e (inl h) = here names (call p f xs) more s w k e h
  part_sound names (call p f xs) more s w k e (inr h) =
      trees_sound names xs more s w (trees_hold names (single k.0) xs (split (tree_checks names (single k.0) xs) _ k.1).0) e h
  part_sound names (next p x) more s w k e (inl h) = here names (next p x) more s w k e h
  part_sound names (next p x) more s w k e (inr h) = part_sound names x more s w (under_next, (split (typing names under_next x).checks _ k.1).0) e h
  part_sound names (set p xs) more s w k e (inl h) = here names (set p xs) more s w k e h
  part_sound names (set p xs) more s w k e (inr h) =
      trees_sound names xs more s w (trees_hold names k.0 xs (split (tree_checks names k.0 xs) _ k.1).0) e h
  part_sound names (range p low high) more s w k e h = here names (range p low high) more s w k e h

  links_sound : (names : Path → Named) (ls : Links) (more : List Path) → TypedPaths names (link_paths ls more) → link_words ls ≡ true → LinksHold names ls
      → (e : Tree) → InLinks e ls → Sound names e
  links_sound names no_links more s w k e h = absurd h
  links_sound names (link op x ls) more s w k e (inl h) =
      part_sound names x (link_paths ls more) s (both_true (words_fit x) (link_words ls) w).0 k.0 e h
  links_sound names (link op x ls) more s w k e (inr h) =
      links_sound names ls more (λ q i. s q (more_paths x (link_paths ls more) q i)) (both_true (words_fit x) (link_words ls) w).1 k.1 e h

  branches_sound : (names : Path → Named) (bs : Branches) (more : List Path) → TypedPaths names (branch_paths bs more) → branch_words bs ≡ true → BranchesHold names bs
      → (e : Tree) → InBranches e bs → Sound names e
  branches_sound names no_branches more s w k e h = absurd h
  branches_sound names (branch c x rest) more s w k e (inl h) =
      let v = both_true (words_fit c) (words_fit x && branch_words rest) w in
      part_sound names c (paths_of x (branch_paths rest more)) s v.0 k.0 e h
  branches_sound names (branch c x rest) more s w k e (inr (inl h)) =
      let v = both_true (words_fit c) (words_fit x && branch_words rest) w in
      part_sound names x (branch_paths rest more) (λ q i. s q (more_paths c (paths_of x (branch_paths rest more)) q i)) (both_true (words_fit x) (branch_words rest) v.1).0 k.1 e h
  branches_sound names (branch c x rest) more s w k e (inr (inr h)) =
      let v = both_true (words_fit c) (words_fit x && branch_words rest) w in
      branches_sound names rest more (λ q i. s q (more_paths c (paths_of x (branch_paths rest more)) q (more_paths x (branch_paths rest more) q i)))
      (both_true (words_fit x) (branch_words rest) v.1).1 k.2 e h

  pub trees_sound : (names : Path → Named) (xs : Trees) (more : List Path) → TypedPaths names (tree_paths xs more) → tree_words xs ≡ true → TreesHold names xs
      → (e : Tree) → InTrees e xs → Sound names e
  trees_sound names no_trees more s w k e h = absurd h
  trees_sound names (tree x xs) more s w k e (inl h) =
      part_sound names x (tree_paths xs more) s (both_true (words_fit x) (tree_words xs) w).0 k.0 e h
  trees_sound names (tree x xs) more s w k e (inr h) =
      trees_sound names xs more (λ q i. s q (more_paths x (tree_paths xs more) q i)) (both_true (words_fit x) (tree_words xs) w).1 k.1 e h
