-- What is kept of names gives their values.
use Rattle.std.proofs.Common.{◌≡◌, ℕ, List, [], map, refl, sym, ap, ◌∙◌, subst}
use mathlib.Core.Logic.{inl}
use mathlib.Core.Path.{fun_ext}
use Rattle.smv_text.specs.declared.tree.Path.{Path}
use Rattle.smv_text.specs.Tree.{Tree, truth, number, literal, name, prefix, chain, choice, cases, select, call, next, set, range, Links, no_links, link, Branches, no_branches, branch, Trees, no_trees, tree}
use Rattle.smv_meaning.specs.declared.value.Value.{Value}
use Rattle.smv_evaluation.specs.declared.rows.Values.{Values}
use Rattle.smv_evaluation.specs.declared.rows.Row.{Row}
use Rattle.smv_instances.specs.declared.instances.Instance.{Instance as PartOf}
use Rattle.smv_meaning.specs.Names.{Found}
use Rattle.smv_meaning.specs.Meaning.{value_found}
use Rattle.smv_meaning.specs.Expressions.{denote, paths_of, link_paths, branch_paths, tree_paths}
use Rattle.smv_meaning.specs.Safety.{front_value, Safe, SafeLinks, SafeOperands, SafeBranches, SafeTrees}
use Rattle.smv_meaning.specs.Settled.{Acyclic}
use Rattle.smv_evaluation.specs.Rows.{AreGiven, row_values, row_reads, FoundIsCached, IsCached}
use Rattle.smv_instances.specs.View.{instance_plain, found_here}
use Rattle.smv_evaluation.specs.View.{stated}
use Rattle.smv_laws.proofs.Cycles.{In}
use Rattle.smv_laws.proofs.Agreeing.{more_paths, more_branches}
use Rattle.smv_laws.proofs.Settling.{values_settle_law}

-- ---- what is owed of names may be another thing

-- here, and under `next`
abbrev pub Owed : (R S : Path → Type 0) → List Path → Type 0
Owed R S xs = (q : Path) → In q xs → R q × S q

mutual
  pub safe_holds : (P Q R S : Path → Type 0) (f g : Path → Value) (e : Tree) (more : List Path) → Owed R S (paths_of e more) → Safe P Q f g e → Safe R S f g e
  safe_holds P Q R S f g (truth p b) more h s = s
  safe_holds P Q R S f g (number p n) more h s = s
  safe_holds P Q R S f g (literal p w) more h s = s
  safe_holds P Q R S f g (name p x) more h s = (h x (inl refl)).0
  safe_holds P Q R S f g (prefix p sign n e) more h s = (safe_holds P Q R S f g e more h s.0, s.1)
  safe_holds P Q R S f g (chain p e ls) more h s =
      let rest : Owed R S (link_paths ls more) = λ q i. h q (more_paths e (link_paths ls more) q i) in
      (safe_holds P Q R S f g e (link_paths ls more) h s.0, links_hold P Q R S f g (denote f g e).value ls more rest s.1, operands_hold P Q R S f g ls more rest s.2)
  safe_holds P Q R S f g (choice p bs e) more h s =
      (branches_hold P Q R S f g bs (paths_of e more) h s.0, safe_holds P Q R S f g e more (λ q i. h q (more_branches bs (paths_of e more) q i)) s.1)
  safe_holds P Q R S f g (cases p bs) more h s = branches_hold P Q R S f g bs more h s
  safe_holds P Q R S f g (select p e high low) more h s = safe_holds P Q R S f g e more h s
  safe_holds P Q R S f g (call p o es) more h s = (trees_hold P Q R S f g es more h s.0, s.1)
  safe_holds P Q R S f g (next p e) more h s = safe_holds Q Q S S g g e more (λ q i. ((h q i).1, (h q i).1)) s
  safe_holds P Q R S f g (set p es) more h s = trees_hold P Q R S f g es more h s
  safe_holds P Q R S f g (range p low high) more h s = s

  links_hold : (P Q R S : Path → Type 0) (f g : Path → Value) (v : Value) (ls : Links) (more : List Path) → Owed R S (link_paths ls more) → SafeLinks P Q f g v ls → SafeLinks R S f g v ls
  links_hold P Q R S f g v no_links more h s = s
  links_hold P Q R S f g v (link op e ls) more h s =
      (safe_holds P Q R S f g e (link_paths ls more) h s.0, s.1, links_hold P Q R S f g (front_value op v (denote f g e)) ls more (λ q i. h q (more_paths e (link_paths ls more) q i)) s.2)

  operands_hold : (P Q R S : Path → Type 0) (f g : Path → Value) (ls : Links) (more : List Path) → Owed R S (link_paths ls more) → SafeOperands P Q f g ls → SafeOperands R S f g ls
  operands_hold P Q R S f g no_links more h s = s
  operands_hold P Q R S f g (link op e ls) more h s =
      (safe_holds P Q R S f g e (link_paths ls more) h s.0, operands_hold P Q R S f g ls more (λ q i. h q (more_paths e (link_paths ls more) q i)) s.1)

  branches_hold : (P Q R S : Path → Type 0) (f g : Path → Value) (bs : Branches) (more : List Path) → Owed R S (branch_paths bs more) → SafeBranches P Q f g bs → SafeBranches R S f g bs
  branches_hold P Q R S f g no_branches more h s = s
  branches_hold P Q R S f g (branch c e rest) more h s =
      let under : Owed R S (paths_of e (branch_paths rest more)) = λ q i. h q (more_paths c (paths_of e (branch_paths rest more)) q i) in (
        safe_holds P Q R S f g c (paths_of e (branch_paths rest more)) h s.0,
        safe_holds P Q R S f g e (branch_paths rest more) under s.1,
        branches_hold P Q R S f g rest more (λ q i. under q (more_paths e (branch_paths rest more) q i)) s.2,
      )

  trees_hold : (P Q R S : Path → Type 0) (f g : Path → Value) (es : Trees) (more : List Path) → Owed R S (tree_paths es more) → SafeTrees P Q f g es → SafeTrees R S f g es
  trees_hold P Q R S f g no_trees more h s = s
  trees_hold P Q R S f g (tree e es) more h s =
      (safe_holds P Q R S f g e (tree_paths es more) h s.0, trees_hold P Q R S f g es more (λ q i. h q (more_paths e (tree_paths es more) q i)) s.1)

-- ---- values

pub read_found : (ts : List PartOf) (i : ℕ) (row : Row) (label : Values) (path : Path) (m : Found) → m ≡ found_here ts i path
    → value_found (row_values ts row label) (stated row.state.given) (stated label.given) m ≡ row_reads ts i row label path
unfolding row_reads
read_found ts i row label path m e = ap (value_found (row_values ts row label) (stated row.state.given) (stated label.given)) e

-- names have the values of what they lead to
pub reads_are : (ts : List PartOf) → Acyclic (map instance_plain ts) → (i : ℕ) (row : Row) (label : Values) → row_reads ts i row label ≡ row_values ts row label i
unfolding row_reads
reads_are ts a i row label = fun_ext (λ path. sym (values_settle_law (map instance_plain ts) a (stated row.state.given) (stated label.given) i path))

pub kept : (ts : List PartOf) (i : ℕ) (row : Row) (label : Values) (q : Path) → AreGiven row.state → AreGiven label → FoundIsCached ts row label (found_here ts i q) → IsCached ts i row label q
unfolding IsCached
kept ts i row label q s l f = (s, l, f)

-- what is owed of a name
pub is_kept : (ts : List PartOf) (i : ℕ) (row : Row) (label : Values) (q : Path) → IsCached ts i row label q → AreGiven row.state × AreGiven label × FoundIsCached ts row label (found_here ts i q)
unfolding IsCached
is_kept ts i row label q h = h

-- an expression is safely evaluated by what is kept
pub safely_kept : (ts : List PartOf) → Acyclic (map instance_plain ts) → (P Q : Path → Type 0) (i : ℕ) (row later : Row) (label : Values) (e : Tree)
    → Safe P Q (row_values ts row label i) (row_values ts later label i) e
    → ((q : Path) → In q (paths_of e []) → IsCached ts i row label q × IsCached ts i later label q)
    → Safe (IsCached ts i row label) (IsCached ts i later label) (row_reads ts i row label) (row_reads ts i later label) e
safely_kept ts a P Q i row later label e s h =
    let there = safe_holds P Q (IsCached ts i row label) (IsCached ts i later label) (row_values ts row label i) (row_values ts later label i) e [] h s in
    let first = subst (λ f. Safe (IsCached ts i row label) (IsCached ts i later label) f (row_values ts later label i) e) (sym (reads_are ts a i row label)) there in
    subst (λ g. Safe (IsCached ts i row label) (IsCached ts i later label) (row_reads ts i row label) g e) (sym (reads_are ts a i later label)) first

pub denoted_kept : (ts : List PartOf) → Acyclic (map instance_plain ts) → (i : ℕ) (row later : Row) (label : Values) (e : Tree)
    → (denote (row_reads ts i row label) (row_reads ts i later label) e).value ≡ (denote (row_values ts row label i) (row_values ts later label i) e).value
denoted_kept ts a i row later label e =
    ap (λ f. (denote f (row_reads ts i later label) e).value) (reads_are ts a i row label) ∙ ap (λ g. (denote (row_values ts row label i) g e).value) (reads_are ts a i later label)
