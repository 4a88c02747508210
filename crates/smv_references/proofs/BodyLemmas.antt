-- Lists of definitions and actuals, grown from the left.
use Rattle.std.proofs.Common.{◌≡◌, ℕ, ◌⊎◌, inl, inr, List, [], ◌∷◌, ◌++◌, map, refl, ap, ◌∙◌}
use Rattle.text_core.proofs.ListLaws.{append_none}
use Rattle.smv_text.specs.declared.tree.Parameter.{Parameter}
use Rattle.smv_text.specs.declared.tree.Expr.{Expr}
use Rattle.smv_text.specs.Tree.{no_trees, trees_of}
use Rattle.smv_text.specs.View.{plain}
use Rattle.smv_meaning.specs.Bodies.{Placed, actual_bodies}

none_placed : (i : ℕ) (qs : List Parameter) → actual_bodies i qs no_trees ≡ []
none_placed i [] = refl
none_placed i (q ∷ qs) = refl

-- no actuals follow where either list is at its end
pub no_actuals : (i : ℕ) (qs : List Parameter) (es : List Expr) (bodies : List Placed) → (qs ≡ []) ⊎ (es ≡ []) → bodies ++ actual_bodies i qs (trees_of (map plain es)) ≡ bodies
no_actuals i qs es bodies (inl e) = ap (λ ps. bodies ++ actual_bodies i ps (trees_of (map plain es))) e ∙ append_none bodies
no_actuals i qs es bodies (inr e) = ap (λ fs. bodies ++ actual_bodies i qs (trees_of (map plain fs))) e ∙ ap (λ bs. bodies ++ bs) (none_placed i qs) ∙ append_none bodies
