-- Scripts that are put together from their parts.
use Rattle.std.proofs.Common.{◌≡◌, ℕ, List, ap, ◌∙◌, sym, subst}
use Rattle.moxi_terms.specs.declared.term.Variable.{Variable}
use Rattle.moxi_terms.specs.Tree.{Tree}
use Rattle.moxi_scripts.specs.declared.script.Query.{Query}
use Rattle.moxi_scripts.specs.declared.script.Subsystem.{Subsystem}
use Rattle.moxi_scripts.specs.Invariant.{IsSpelled}
use Rattle.moxi_scripts.specs.Script.{PlainCheck, PlainFormula, PlainScript, PlainSystem}

abbrev pub system_with : List ℕ → (ins outs locs : List Variable) → (init trans inv : Tree) → List Subsystem → PlainSystem
system_with name ins outs locs init trans inv subsystems =
    record { name = name; inputs = ins; outputs = outs; locals = locs; init = init; trans = trans; inv = inv; subsystems = subsystems }

pub system_same : (n m : List ℕ) (i j o p l k : List Variable) (f g t u v w : Tree) (s r : List Subsystem) → n ≡ m → i ≡ j → o ≡ p → l ≡ k → f ≡ g → t ≡ u → v ≡ w → s ≡ r
    → system_with n i o l f t v s ≡ system_with m j p k g u w r
system_same n m i j o p l k f g t u v w s r a b c d e h q z =
    ap (λ x. system_with x i o l f t v s) a ∙ ap (λ x. system_with m x o l f t v s) b ∙ ap (λ x. system_with m j x l f t v s) c ∙ ap (λ x. system_with m j p x f t v s) d
    ∙ ap (λ x. system_with m j p k x t v s) e ∙ ap (λ x. system_with m j p k g x v s) h ∙ ap (λ x. system_with m j p k g u x s) q ∙ ap (λ x. system_with m j p k g u w x) z

abbrev pub check_with : (ins outs locs : List Variable) → (assumptions currents reachables : List PlainFormula) → List Query → PlainCheck
check_with ins outs locs assumptions currents reachables queries =
    record { place = record { line = 1; column = 1; offset = 0 }; system = 0; inputs = ins; outputs = outs; locals = locs; assumptions = assumptions; currents = currents; reachables = reachables; queries = queries }

pub check_same : (i j o p l k : List Variable) (f g t u v w : List PlainFormula) (s r : List Query) → i ≡ j → o ≡ p → l ≡ k → f ≡ g → t ≡ u → v ≡ w → s ≡ r → check_with i o l f t v s ≡ check_with j p k g u w r
check_same i j o p l k f g t u v w s r b c d e h q z =
    ap (λ x. check_with x o l f t v s) b ∙ ap (λ x. check_with j x l f t v s) c ∙ ap (λ x. check_with j p x f t v s) d
    ∙ ap (λ x. check_with j p k x t v s) e ∙ ap (λ x. check_with j p k g x v s) h ∙ ap (λ x. check_with j p k g u x s) q ∙ ap (λ x. check_with j p k g u w x) z

pub spelled_by : (s t : PlainScript) → s ≡ t → ∥ IsSpelled t ∥₁ → ∥ IsSpelled s ∥₁
spelled_by s t e h = subst (λ (x : PlainScript). ∥ IsSpelled x ∥₁) (sym e) h
