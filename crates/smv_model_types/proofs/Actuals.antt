-- What an actual, and what a variable adds.
use Rattle.std.proofs.Common.{◌≡◌, ℕ, true, false, List, [], ◌∷◌, length, map, option_map, Option, ◌++◌, refl, sym, ap, ◌∙◌, subst}
use Rattle.std.proofs.lemmas.List.{map-append}
use Rattle.text_core.proofs.ListLaws.{append_none}
use Rattle.smv_text.specs.declared.tree.VarKind.{VarKind}
use Rattle.smv_text.specs.Tree.{Tree, truth, number, literal, name, prefix, chain, choice, cases, select, call, next, set, range, PlainDomain, boolean, members, between, bits, instance, PlainItem}
use Rattle.smv_meaning.specs.Checks.{variable_type}
use Rattle.smv_meaning.specs.Instances.{Instance}
use Rattle.smv_meaning.specs.Phases.{domain_declares_instance}
use Rattle.smv_intervals.specs.declared.types.Ty.{Ty}
use Rattle.smv_intervals.specs.View.{seen}
use Rattle.smv_items.specs.FlatItems.{Origin, with_content, actual_content, domain_content, variable_item, content_type}
use Rattle.smv_flat.specs.FlatForms.{body_forms}
use Rattle.smv_flat.specs.FlatFormulas.{form_plain}
use Rattle.smv_model_types.specs.declared.built.Building.{Building}
use Rattle.smv_model_types.specs.Kept.{AreKept, IsBodyAt, body_or_none}
use Rattle.smv_model_types.specs.Building.{Adds, BodyAdds, IsReady}
use Rattle.smv_model_types.specs.Outcome.{is_path}
use Rattle.smv_model_types.proofs.BuildingLaws.{adds_nothing, actual_adds}

-- a path adds nothing, whatever is then known of the paths so far
pub path_adds : (t : List Instance) (i j : ℕ) (e : Tree) (old new : Building) → is_path e ≡ true → new.types ≡ old.types → new.forms ≡ old.forms → new.rest ≡ old.rest → new.assigned ≡ old.assigned → new.kept ≡ old.kept
    → Adds t (with_content i [] (actual_content j e)) [] old new
path_adds t i j (name p x) old new h types forms rest assigned kept = record {
  types = ap (λ ts. map (option_map seen) ts.items) types ∙ sym (append_none (map (option_map seen) old.types.items));
  forms = ap (λ fs. map form_plain fs.items) forms ∙ sym (append_none (map form_plain old.forms.items));
  rest = ap (λ fs. map form_plain fs.items) rest ∙ sym (append_none (map form_plain old.rest.items));
  assigned = ap (λ xs. xs.items) assigned ∙ sym (append_none old.assigned.items);
  kept = λ r. subst (AreKept t) (ap (λ ks. ks.items) (sym kept)) r;
}
path_adds t i j e old new h types forms rest assigned kept = cc

pub other_adds : (t : List Instance) (i j : ℕ) (e : Tree) (old new : Building) → is_path e ≡ false → BodyAdds t i j e old new → Adds t (with_content i [] (actual_content j e)) [] old new
other_adds t i j (name p x) old new h a = cc
other_adds t i j (truth p b) old new h a = actual_adds t i j [] (truth p b) old new a
other_adds t i j (number p n) old new h a = actual_adds t i j [] (number p n) old new a
other_adds t i j (literal p v) old new h a = actual_adds t i j [] (literal p v) old new a
other_adds t i j (prefix p sign n e) old new h a = actual_adds t i j [] (prefix p sign n e) old new a
other_adds t i j (chain p e ls) old new h a = actual_adds t i j [] (chain p e ls) old new a
other_adds t i j (choice p bs e) old new h a = actual_adds t i j [] (choice p bs e) old new a
other_adds t i j (cases p bs) old new h a = actual_adds t i j [] (cases p bs) old new a
other_adds t i j (select p e high low) old new h a = actual_adds t i j [] (select p e high low) old new a
other_adds t i j (call p f es) old new h a = actual_adds t i j [] (call p f es) old new a
other_adds t i j (next p e) old new h a = actual_adds t i j [] (next p e) old new a
other_adds t i j (set p es) old new h a = actual_adds t i j [] (set p es) old new a
other_adds t i j (range p low high) old new h a = actual_adds t i j [] (range p low high) old new a

pub instance_adds : (t : List Instance) (i : ℕ) (kind : VarKind) (v : PlainItem) (b : Building) → domain_declares_instance v.domain ≡ true → Adds t (variable_item i kind v) [] b b
instance_adds t i kind v b h = by v.domain h
  where
    by : (d : PlainDomain) → domain_declares_instance d ≡ true → Adds t (with_content i v.name (domain_content kind d)) [] b b
    by (instance m es) h = adds_nothing t b
    by d h = cc

-- a variable has no formula
pub variable_adds : (t : List Instance) (i : ℕ) (kind : VarKind) (v : PlainItem) (o : Option Ty) (old new : Building) → domain_declares_instance v.domain ≡ false
    → option_map seen o ≡ variable_type v.domain → new.types.items ≡ old.types.items ++ o ∷ [] → new.forms ≡ old.forms → new.rest ≡ old.rest → new.assigned ≡ old.assigned → new.kept ≡ old.kept → Adds t (variable_item i kind v) [] old new
variable_adds t i kind v o old new h ty types forms rest assigned kept = record {
  types =
      ap (map (option_map seen)) types ∙ map-append (option_map seen) old.types.items (o ∷ [])
      ∙ ap (λ u. map (option_map seen) old.types.items ++ u ∷ []) ty ∙ ap (λ ts. map (option_map seen) old.types.items ++ ts) (sym (only v.domain h));
  forms = ap (λ fs. map form_plain fs.items) forms ∙ sym (append_none (map form_plain old.forms.items)) ∙ ap (λ fs. map form_plain old.forms.items ++ fs) (sym (none v.domain h));
  rest = ap (λ fs. map form_plain fs.items) rest ∙ sym (append_none (map form_plain old.rest.items));
  assigned = ap (λ xs. xs.items) assigned ∙ sym (append_none old.assigned.items);
  kept = λ r. subst (AreKept t) (ap (λ ks. ks.items) (sym kept)) r;
}
  where
    only : (d : PlainDomain) → domain_declares_instance d ≡ false → map (λ (m : Origin). content_type t m.content) (with_content i v.name (domain_content kind d)) ≡ variable_type d ∷ []
    only (instance m es) h = cc
    only boolean h = refl
    only (members ms) h = refl
    only (between low high) h = refl
    only (bits n) h = refl

    none : (d : PlainDomain) → domain_declares_instance d ≡ false → body_forms t (length old.types.items) (with_content i v.name (domain_content kind d)) ≡ []
    none (instance m es) h = cc
    none boolean h = refl
    none (members ms) h = refl
    none (between low high) h = refl
    none (bits n) h = refl

pub other_next : (t : List Instance) (i j : ℕ) (e : Tree) (now : Building) → is_path e ≡ false → IsReady t (with_content i [] (actual_content j e)) now → IsBodyAt t (length now.types.items) j e
other_next t i j (name p x) now h r = cc
other_next t i j (truth p b) now h r = ap body_or_none r.items.0
other_next t i j (number p n) now h r = ap body_or_none r.items.0
other_next t i j (literal p v) now h r = ap body_or_none r.items.0
other_next t i j (prefix p sign n e) now h r = ap body_or_none r.items.0
other_next t i j (chain p e ls) now h r = ap body_or_none r.items.0
other_next t i j (choice p bs e) now h r = ap body_or_none r.items.0
other_next t i j (cases p bs) now h r = ap body_or_none r.items.0
other_next t i j (select p e high low) now h r = ap body_or_none r.items.0
other_next t i j (call p f es) now h r = ap body_or_none r.items.0
other_next t i j (next p e) now h r = ap body_or_none r.items.0
other_next t i j (set p es) now h r = ap body_or_none r.items.0
other_next t i j (range p low high) now h r = ap body_or_none r.items.0
