-- What an evaluation needs: each integer that it comes to fits 64 bits.
use Rattle.std.specs.Prelude.{◌||◌, if◌then◌else◌, Bool, ℕ, zero, suc, ◌+◌, max, pos, FitsSigned}
use Rattle.std.specs.Int.{w64}
use Rattle.smv_text.specs.declared.tree.Path.{Path}
use Rattle.smv_text.specs.declared.operators.Infix.{Infix}
use Rattle.smv_text.specs.declared.operators.Infix.TheVariants.{Member, Union}
use Rattle.smv_text.specs.Tree.{Tree, truth, number, literal, name, prefix, chain, choice, cases, select, call, next, set, range, Links, no_links, link, Branches, no_branches, branch, Trees, no_trees, tree}
use Rattle.smv_meaning.specs.declared.value.Value.{Value}
use Rattle.smv_meaning.specs.declared.value.Value.TheVariants.{Truth, Integer}
use Rattle.smv_meaning.specs.Values.{Valuation, no_value, value_same}
use Rattle.smv_meaning.specs.Operators.{applied, signed, called}
use Rattle.smv_meaning.specs.Expressions.{Denotation, is_from_right, denote, values_of}
use Rattle.smv_meaning.specs.Names.{Found, body_at}
use Rattle.smv_meaning.specs.Meaning.{reading}

-- how deep an expression's parts nest; a chain is one level, but each `->` of one is
abbrev mutual
  pub depth : Tree → ℕ
  depth (truth p b) = 1
  depth (number p n) = 1
  depth (literal p w) = 1
  depth (name p x) = 1
  depth (prefix p sign n e) = depth e + 1
  depth (chain p e ls) = max (depth e) (max (link_depth ls) (if is_from_right ls then right_depth ls else 0)) + 1
  depth (choice p bs e) = max (branch_depth bs) (depth e) + 1
  depth (cases p bs) = branch_depth bs + 1
  depth (select p e high low) = depth e + 1
  depth (call p f es) = tree_depth es + 1
  depth (next p e) = depth e + 1
  depth (set p es) = tree_depth es + 1
  depth (range p low high) = 1

  pub link_depth : Links → ℕ
  link_depth no_links = 0
  link_depth (link op e ls) = max (depth e) (link_depth ls)

  pub right_depth : Links → ℕ
  right_depth no_links = 0
  right_depth (link op e ls) = max (depth e) (right_depth ls) + 1

  pub branch_depth : Branches → ℕ
  branch_depth no_branches = 0
  branch_depth (branch c e rest) = max (max (depth c) (depth e)) (branch_depth rest)

  pub tree_depth : Trees → ℕ
  tree_depth no_trees = 0
  tree_depth (tree e es) = max (depth e) (tree_depth es)

abbrev pub Fits : Value → Type 0
Fits (Integer z) = FitsSigned w64 z
Fits v = Unit {0}

-- ---- a chain from the left, by values

-- the value of a front with the operand behind its last operator
abbrev pub front_value : Infix → Value → Denotation → Value
front_value Member v c = Truth (c.permits v)
front_value Union v c = no_value
front_value op v c = applied op v c.value

abbrev pub fronts_value : (Path → Value) → (Path → Value) → Value → Links → Value
fronts_value f g v no_links = v
fronts_value f g v (link op e ls) = fronts_value f g (front_value op v (denote f g e)) ls

-- whether it permits the value u, where what is before does or doesn't
abbrev pub front_permits : Infix → Value → Value → Bool → Denotation → Bool
front_permits Union u v p c = p || c.permits u
front_permits op u v p c = value_same (front_value op v c) u

abbrev pub fronts_permit : (Path → Value) → (Path → Value) → Value → Value → Bool → Links → Bool
fronts_permit f g u v p no_links = p
fronts_permit f g u v p (link op e ls) =
    fronts_permit f g u (front_value op v (denote f g e)) (front_permits op u v p (denote f g e)) ls

-- given what is owed of a name here, and under `next`
abbrev mutual
  pub Safe : (Path → Type 0) → (Path → Type 0) → (Path → Value) → (Path → Value) → Tree → Type 0
  Safe P Q f g (truth p b) = Unit {0}
  Safe P Q f g (number p n) = Fits (Integer (pos n))
  Safe P Q f g (literal p w) = Unit {0}
  Safe P Q f g (name p x) = P x
  Safe P Q f g (prefix p sign n e) = Safe P Q f g e × Fits (signed sign n (denote f g e).value)
  Safe P Q f g (chain p e ls) = Safe P Q f g e × SafeLinks P Q f g (denote f g e).value ls × SafeOperands P Q f g ls
  Safe P Q f g (choice p bs e) = SafeBranches P Q f g bs × Safe P Q f g e
  Safe P Q f g (cases p bs) = SafeBranches P Q f g bs
  Safe P Q f g (select p e high low) = Safe P Q f g e
  Safe P Q f g (call p h es) = SafeTrees P Q f g es × Fits (called h (values_of f g es))
  Safe P Q f g (next p e) = Safe Q Q g g e
  Safe P Q f g (set p es) = SafeTrees P Q f g es
  Safe P Q f g (range p low high) = Unit {0}

  pub SafeLinks : (Path → Type 0) → (Path → Type 0) → (Path → Value) → (Path → Value) → Value → Links → Type 0
  SafeLinks P Q f g v no_links = Unit {0}
  SafeLinks P Q f g v (link op e ls) =
      Safe P Q f g e × Fits (front_value op v (denote f g e)) × SafeLinks P Q f g (front_value op v (denote f g e)) ls

  -- what is owed of the operands alone
  pub SafeOperands : (Path → Type 0) → (Path → Type 0) → (Path → Value) → (Path → Value) → Links → Type 0
  SafeOperands P Q f g no_links = Unit {0}
  SafeOperands P Q f g (link op e ls) = Safe P Q f g e × SafeOperands P Q f g ls

  pub SafeBranches : (Path → Type 0) → (Path → Type 0) → (Path → Value) → (Path → Value) → Branches → Type 0
  SafeBranches P Q f g no_branches = Unit {0}
  SafeBranches P Q f g (branch c e rest) = Safe P Q f g c × Safe P Q f g e × SafeBranches P Q f g rest

  pub SafeTrees : (Path → Type 0) → (Path → Type 0) → (Path → Value) → (Path → Value) → Trees → Type 0
  SafeTrees P Q f g no_trees = Unit {0}
  SafeTrees P Q f g (tree e es) = Safe P Q f g e × SafeTrees P Q f g es

abbrev pub SafeFound : (ℕ → Path → Type 0) → (ℕ → Path → Value) → Found → Type 0
SafeFound Fine read (body_at i x j e) = Safe (Fine j) (Fine j) (read j) (read j) e
SafeFound Fine read m = Unit {0}

unfoldable pub SafePath : (ℕ → Path → Found) → ℕ → Valuation → Valuation → ℕ → Path → Type 0
SafePath found zero state label i path = Unit {0}
SafePath found (suc n) state label i path = SafeFound (SafePath found n state label) (reading found n state label) (found i path)
