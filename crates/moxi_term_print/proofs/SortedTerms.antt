-- Sorts of applications.
use Rattle.std.proofs.Common.{◌≡◌, Bool, true, false, nat_le, ◌==◌, if◌then◌else◌, List, [], ◌∷◌, length, Ok, Err, refl, ap, ◌∙◌, cond, Some, None, ℕ, Option}
use Rattle.std.proofs.lemmas.Bool.{eq-eqb, and_from}
use Rattle.text_core.specs.declared.place.Kind.TheVariants.{M}
use Rattle.word_core.specs.declared.kinds.Binary.{Binary}
use Rattle.moxi_terms.specs.declared.data.Sort.{Sort}
use Rattle.moxi_terms.specs.declared.data.Sort.TheVariants.{Truth, Bits, Choice}
use Rattle.moxi_terms.specs.declared.data.TermOp.{TermOp}
use Rattle.moxi_terms.specs.Sorts.{same_sort, count_fits, is_chain, fitting, op_sort, common, calculated, compared, chosen}
use Rattle.moxi_terms.specs.Tree.{Trees, no_trees, tree}
use Rattle.moxi_terms.specs.declared.data.TermOp.TheVariants as op
use Rattle.std.specs.List.{list_all}

pub same_self : (s : Sort) → same_sort s s ≡ true
same_self Truth = refl
same_self (Bits w) = eq-eqb w w refl
same_self (Choice n) = eq-eqb n n refl

-- as many times as there are terms
abbrev pub copies : Sort → Trees → List Sort
copies s no_trees = []
copies s (tree t ts) = s ∷ copies s ts

pub counted : (o : TermOp) (ss : List Sort) (z : Sort) → count_fits o (length ss) ≡ true → fitting o ss ≡ Ok z → op_sort o ss ≡ Ok z
counted o ss z c f = ap (λ b. if b then fitting o ss else Err (M 12)) c ∙ f

pub two_fit : (b : Binary) → count_fits (op.BvBinary b) 2 ≡ true
two_fit b = by (is_chain b)
  where
    by : (t : Bool) → (if t then nat_le 2 2 else (2 == 2)) ≡ true
    by true = refl
    by false = refl

pub all_same : (s : Sort) (ts : Trees) → list_all (same_sort s) (copies s ts) ≡ true
all_same s no_trees = refl
all_same s (tree t ts) = and_from (same_sort s s) (list_all (same_sort s) (copies s ts)) (same_self s) (all_same s ts)

pub common_copies : (s : Sort) (ts : Trees) → common (s ∷ copies s ts) ≡ Some s
common_copies s ts = ap (λ b. cond b (Some s) None) (all_same s ts)

pub common_two : (s : Sort) → common (s ∷ s ∷ []) ≡ Some s
common_two s = ap (λ b. cond b (Some s) None) (and_from (same_sort s s) true (same_self s) refl)

pub words_sort : (b : Binary) (m : ℕ) (z : Sort) → calculated b (Some (Bits m)) ≡ Ok z → op_sort (op.BvBinary b) (Bits m ∷ Bits m ∷ []) ≡ Ok z
words_sort b m z e = counted (op.BvBinary b) (Bits m ∷ Bits m ∷ []) z (two_fit b) (ap (calculated b) (common_two (Bits m)) ∙ e)

pub equal_sort : (s : Sort) → op_sort op.Equal (s ∷ s ∷ []) ≡ Ok Truth
equal_sort s = ap (λ (o : Option Sort). compared o) (common_two s)

pub choice_sort : (s : Sort) → op_sort op.Ite (Truth ∷ s ∷ s ∷ []) ≡ Ok s
choice_sort s = ap (λ (o : Option Sort). chosen o) (common_two s)
