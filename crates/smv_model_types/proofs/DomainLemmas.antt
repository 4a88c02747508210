-- The types of variables.
use Rattle.std.proofs.Common.{◌≡◌, Bool, true, false, not, ◌&&◌, if◌then◌else◌, [], ◌∷◌, Option, Some, None, refl, sym, ◌∙◌}
use Rattle.text_core.specs.declared.place.Kind.{Kind}
use Rattle.text_core.specs.declared.place.Place.{Place}
use Rattle.text_core.specs.declared.place.Refusal.{Refusal}
use Rattle.smv_text.specs.declared.tree.VarKind.{VarKind}
use Rattle.smv_text.specs.Tree.{PlainDomain}
use Rattle.smv_meaning.specs.Types.{ExprType, is_unmixed, has_width, has_order, domain_type, in_limit}
use Rattle.smv_meaning.specs.Meaning.{is_input}
use Rattle.smv_meaning.specs.Checks.{check, first_failing, on_type, domain_checks, variable_type}
use Rattle.smv_meaning.specs.Naming.{typed_variable}
use Rattle.smv_meaning.specs.Phases.{start_place}

four_pass : (p : Place) (a b c d : Bool) (t : Option ExprType) → first_failing (check 16 p a ∷ check 17 p b ∷ check 25 p c ∷ check 26 p d ∷ []) ≡ None → (if a && b && c && d then t else None) ≡ t
four_pass p true true true true t h = refl
four_pass p true true true false t h = cc
four_pass p true true false d t h = cc
four_pass p true false c d t h = cc
four_pass p false b c d t h = cc

one_fails : (p : Place) (a b c d : Bool) (t : Option ExprType) (why : Refusal) → first_failing (check 16 p a ∷ check 17 p b ∷ check 25 p c ∷ check 26 p d ∷ []) ≡ Some why → (if a && b && c && d then t else None) ≡ None
one_fails p true true true true t why h = cc
one_fails p true true true false t why h = refl
one_fails p true true false d t why h = refl
one_fails p true false c d t why h = refl
one_fails p false b c d t why h = refl

pub typed : (d : PlainDomain) (t : Option ExprType) → ((p : Place) → first_failing (domain_checks p d) ≡ None) → t ≡ domain_type d → t ≡ variable_type d
typed d t h e = e ∙ sym (four_pass start_place (is_unmixed d) (on_type (domain_type d) in_limit) (has_width d) (has_order d) (domain_type d) (h start_place))

pub untyped : (d : PlainDomain) (kind : Kind) → ((p : Place) → first_failing (domain_checks p d) ≡ Some (record { kind = kind; place = p })) → None ≡ variable_type d
untyped d kind h = sym (one_fails start_place (is_unmixed d) (on_type (domain_type d) in_limit) (has_width d) (has_order d) (domain_type d) (record { kind = kind; place = start_place }) (h start_place))

-- a label is given
pub with_label : (kind : VarKind) (d : PlainDomain) (t : Option ExprType) → t ≡ variable_type d → t ≡ typed_variable true kind d
with_label kind d t e = by (is_input kind)
  where
    by : (b : Bool) → t ≡ (if b && not true then None else variable_type d)
    by true = e
    by false = e
