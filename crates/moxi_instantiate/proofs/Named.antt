-- Variables under the empty path.
use Rattle.std.proofs.Common.{◌≡◌, ℕ, List, [], ◌∷◌, ◌++◌, append_assoc, length, refl, ap, ◌∙◌}
use Rattle.moxi_terms.specs.declared.term.Variable.{Variable}
use Rattle.moxi_scripts.specs.Script.{PlainCheck, PlainScript}
use Rattle.moxi_scripts.specs.Valid.{check_variables}
use Rattle.moxi_flat.specs.FlatSystem.{flat_of, locals_upto, named_inside}

named_bare : (vs : List Variable) → named_inside [] vs ≡ vs
named_bare [] = refl
named_bare (v ∷ vs) = ap (λ us. v ∷ us) (named_bare vs)

pub own_are : (k : PlainCheck) (none a b c : List Variable) (p q r : List ℕ) → none ≡ [] → p ≡ [] → q ≡ [] → r ≡ []
    → a ≡ none ++ named_inside p k.inputs → b ≡ a ++ named_inside q k.outputs → c ≡ b ++ named_inside r k.locals → c ≡ check_variables k
own_are k none a b c p q r en ep eq er ea eb ec =
    let first = ea ∙ ap (λ vs. vs ++ named_inside p k.inputs) en ∙ ap (λ p. named_inside p k.inputs) ep ∙ named_bare k.inputs in
    let second = eb ∙ ap (λ vs. vs ++ named_inside q k.outputs) first ∙ ap (λ p. k.inputs ++ named_inside p k.outputs) eq ∙ ap (λ vs. k.inputs ++ vs) (named_bare k.outputs) in
    ec ∙ ap (λ vs. vs ++ named_inside r k.locals) second ∙ ap (λ p. (k.inputs ++ k.outputs) ++ named_inside p k.locals) er
    ∙ ap (λ vs. (k.inputs ++ k.outputs) ++ vs) (named_bare k.locals) ∙ append_assoc k.inputs k.outputs k.locals

pub variables_are : (s : PlainScript) (own all : List Variable) (p : List ℕ) → own ≡ check_variables s.check → p ≡ []
    → all ≡ own ++ locals_upto s.systems (length s.systems) p s.check.system → all ≡ (flat_of s).variables
variables_are s own all p eo ep ea =
    ea ∙ ap (λ vs. vs ++ locals_upto s.systems (length s.systems) p s.check.system) eo
    ∙ ap (λ p. check_variables s.check ++ locals_upto s.systems (length s.systems) p s.check.system) ep
