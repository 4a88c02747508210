-- Bodies of definitions and actuals: one with a check that fails has no type, and an actual that is no path is a body.
use Rattle.std.proofs.Common.{◌≡◌, true, false, None, Result, refl, sym, subst}
use Rattle.text_core.specs.declared.end.End.{End}
use Rattle.text_core.specs.declared.end.End.TheVariants.{Bad}
use Rattle.text_core.specs.declared.place.Refusal.{Refusal}
use Rattle.smv_text.specs.declared.tree.Path.{Path}
use Rattle.smv_text.specs.Tree.{Tree, truth, number, literal, name, prefix, chain, choice, cases, select, call, next, set, range}
use Rattle.smv_meaning.specs.Checks.{first_failing, Position, Named, typing, IsBad}
use Rattle.smv_meaning.specs.Orders.{RefusedHaveNoType}
use Rattle.smv_meaning.specs.Naming.{in_body}
use Rattle.smv_meaning.specs.Phases.{actual_typing}
use Rattle.smv_names.specs.Outcome.{Settles}
use Rattle.smv_model_types.specs.Outcome.{is_path}

pub bad_has_none : RefusedHaveNoType → (names : Path → Named) (at : Position) (e : Tree) (end : End) (why : Refusal) → end ≡ Bad why → IsBad end (first_failing (typing names at e).checks) → None ≡ (typing names at e).type
bad_has_none law names at e end why s h = sym (law names at e why (subst (λ x. IsBad x (first_failing (typing names at e).checks)) s h))

pub path_actual : (names : Path → Named) (e : Tree) → is_path e ≡ true → first_failing (actual_typing names e) ≡ None
path_actual names (name p x) h = refl
path_actual names e h = cc

pub other_actual : (names : Path → Named) (e : Tree) (r : Result (Unit {0}) End) → is_path e ≡ false → Settles r (typing names in_body e).checks → Settles r (actual_typing names e)
other_actual names (name p x) r h s = cc
other_actual names (truth p b) r h s = s
other_actual names (number p n) r h s = s
other_actual names (literal p v) r h s = s
other_actual names (prefix p sign n e) r h s = s
other_actual names (chain p e ls) r h s = s
other_actual names (choice p bs e) r h s = s
other_actual names (cases p bs) r h s = s
other_actual names (select p e high low) r h s = s
other_actual names (call p f es) r h s = s
other_actual names (next p e) r h s = s
other_actual names (set p es) r h s = s
other_actual names (range p low high) r h s = s
