-- Where rows agree on the items that an expression reads, it is evaluated safely in one where it is in the other.
use Rattle.std.proofs.Common.{◌≡◌, ℕ, Bool, true, ◌&&◌, List, subst}
use Rattle.smv_meaning.specs.declared.value.Value.{Value}
use Rattle.smv_meaning.specs.Operators.{signed, called}
use Rattle.smv_meaning.specs.Expressions.{Denotation}
use Rattle.smv_meaning.specs.Safety.{Fits, front_value}
use Rattle.smv_meaning.specs.laws.Booleans.{both_true}
use Rattle.smv_flat.specs.FlatTree.{FlatTree, flat_truth, flat_number, flat_literal, flat_symbol, flat_item, flat_prefix, flat_chain, flat_choice, flat_cases, flat_select, flat_call, flat_set, flat_range, FlatLinks, no_flat_links, flat_link, FlatBranches, no_flat_branches, flat_branch, FlatTrees, no_flat_trees, flat_tree_then, flat_denote}
use Rattle.smv_flat_evaluation.specs.FlatSafety.{FlatSafe, FlatSafeLinks, FlatSafeOperands, FlatSafeBranches, FlatSafeTrees}
use Rattle.smv_flat_laws.specs.FlatOrders.{all_read, links_read, branches_read, trees_read}
use Rattle.smv_rows.proofs.Agreeing.{Agree, denote_same, values_same}

mutual
  pub safe_same : (test : ℕ → Bool) (s r q : ℕ → Value) → Agree test r q → (e : FlatTree) → all_read test e ≡ true → FlatSafe s r r e → FlatSafe s q q e
  safe_same test s r q h (flat_truth t b) a f = tt
  safe_same test s r q h (flat_number t n) a f = f
  safe_same test s r q h (flat_literal t w) a f = tt
  safe_same test s r q h (flat_symbol t k) a f = tt
  safe_same test s r q h (flat_item t k under) a f = tt
  safe_same test s r q h (flat_prefix t sign n e) a f =
      (safe_same test s r q h e a f.0, subst (λ (d : Denotation). Fits (signed sign n d.value)) (denote_same test s r q h e a) f.1)
  safe_same test s r q h (flat_chain t e ls) a f =
      let b = both_true (all_read test e) (links_read test ls) a in (
        safe_same test s r q h e b.0 f.0,
        subst (λ (d : Denotation). FlatSafeLinks s q q d.value ls) (denote_same test s r q h e b.0) (links_same test s r q h (flat_denote s r r e).value ls b.1 f.1),
        operands_same test s r q h ls b.1 f.2,
      )
  safe_same test s r q h (flat_choice t bs e) a f =
      let b = both_true (branches_read test bs) (all_read test e) a in (branches_same test s r q h bs b.0 f.0, safe_same test s r q h e b.1 f.1)
  safe_same test s r q h (flat_cases t bs) a f = branches_same test s r q h bs a f
  safe_same test s r q h (flat_select t e high low) a f = safe_same test s r q h e a f
  safe_same test s r q h (flat_call t g es) a f = (trees_same test s r q h es a f.0, subst (λ (vs : List Value). Fits (called g vs)) (values_same test s r q h es a) f.1)
  safe_same test s r q h (flat_set t es) a f = trees_same test s r q h es a f
  safe_same test s r q h (flat_range t low high) a f = tt

  links_same : (test : ℕ → Bool) (s r q : ℕ → Value) → Agree test r q → (v : Value) (ls : FlatLinks) → links_read test ls ≡ true → FlatSafeLinks s r r v ls → FlatSafeLinks s q q v ls
  links_same test s r q h v no_flat_links a f = tt
  links_same test s r q h v (flat_link op e ls) a f =
      let b = both_true (all_read test e) (links_read test ls) a in
      let d = denote_same test s r q h e b.0 in (
        safe_same test s r q h e b.0 f.0,
        subst (λ (c : Denotation). Fits (front_value op v c)) d f.1,
        subst (λ (c : Denotation). FlatSafeLinks s q q (front_value op v c) ls) d (links_same test s r q h (front_value op v (flat_denote s r r e)) ls b.1 f.2),
      )

  operands_same : (test : ℕ → Bool) (s r q : ℕ → Value) → Agree test r q → (ls : FlatLinks) → links_read test ls ≡ true → FlatSafeOperands s r r ls → FlatSafeOperands s q q ls
  operands_same test s r q h no_flat_links a f = tt
  operands_same test s r q h (flat_link op e ls) a f =
      let b = both_true (all_read test e) (links_read test ls) a in (safe_same test s r q h e b.0 f.0, operands_same test s r q h ls b.1 f.1)

  branches_same : (test : ℕ → Bool) (s r q : ℕ → Value) → Agree test r q → (bs : FlatBranches) → branches_read test bs ≡ true → FlatSafeBranches s r r bs → FlatSafeBranches s q q bs
  branches_same test s r q h no_flat_branches a f = tt
  branches_same test s r q h (flat_branch c e rest) a f =
      let b = both_true (all_read test c) (all_read test e && branches_read test rest) a in
      let g = both_true (all_read test e) (branches_read test rest) b.1 in
      (safe_same test s r q h c b.0 f.0, safe_same test s r q h e g.0 f.1, branches_same test s r q h rest g.1 f.2)

  trees_same : (test : ℕ → Bool) (s r q : ℕ → Value) → Agree test r q → (es : FlatTrees) → trees_read test es ≡ true → FlatSafeTrees s r r es → FlatSafeTrees s q q es
  trees_same test s r q h no_flat_trees a f = tt
  trees_same test s r q h (flat_tree_then e es) a f =
      let b = both_true (all_read test e) (trees_read test es) a in (safe_same test s r q h e b.0 f.0, trees_same test s r q h es b.1 f.1)
