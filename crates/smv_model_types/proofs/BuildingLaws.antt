-- Items and formulas, one list after another.
use Rattle.std.proofs.Common.{◌≡◌, ℕ, suc, ◌+◌, ◌<◌, ◌^◌, true, IsTrue, List, [], ◌∷◌, ◌++◌, length, map, flat_map, option_map, append_assoc, refl, sym, ap, ◌∙◌, subst, arith}
use Rattle.std.proofs.lemmas.Grind.{flat_map-append}
use Rattle.std.proofs.lemmas.List.{length-append, length-map, map-append}
use Rattle.text_core.proofs.ListLaws.{append_none}
use Rattle.smv_text.specs.Tree.{Tree}
use Rattle.smv_meaning.specs.Expressions.{paths_of}
use Rattle.smv_meaning.specs.Instances.{Instance}
use Rattle.smv_instances.specs.declared.instances.Instance.{Instance as PartOf}
use Rattle.smv_instances.specs.View.{instance_plain}
use Rattle.smv_intervals.specs.View.{seen}
use Rattle.smv_types.specs.Outcome.{is_known}
use Rattle.smv_types.specs.laws.Known.{all_known, always_known}
use Rattle.smv_items.specs.Counts.{AreFew}
use Rattle.smv_items.specs.FlatItems.{Origin, definition, actual, actual_items, element_items, items_here, content_type, origins_of, symbols_of}
use Rattle.smv_flat.specs.FlatForms.{content_form, body_forms, element_forms}
use Rattle.smv_meaning.specs.Names.{parent_of}
use Rattle.smv_flat.specs.FlatFormulas.{form_plain}
use Rattle.smv_model_types.specs.declared.built.Building.{Building}
use Rattle.smv_model_types.specs.Kept.{AreKept}
use Rattle.smv_model_types.specs.Building.{Piece, element_pieces, Adds, BodyAdds, InstanceAdds}
use Rattle.std.proofs.Common.{Bool, false, Option, None, Some, Ok}
use Rattle.text_core.specs.declared.place.Place.{Place}
use Rattle.smv_meaning.specs.laws.Composing.{goes}
use Rattle.smv_model_types.proofs.Composing.{misfit}
use Rattle.smv_model_types.proofs.Pieces.{form_in, assigned_by, pieces_forms, pieces_assigned}
use Rattle.smv_meaning.specs.Types.{ExprType}
use Rattle.smv_meaning.specs.Checks.{Typing, typing, check, first_failing}
use Rattle.smv_meaning.specs.Naming.{in_body}
use Rattle.smv_meaning.specs.Settled.{types_in}
use Rattle.smv_types.specs.Outcome.{outcome}
use Rattle.smv_types.specs.laws.Composing.{ok_parts}
use Rattle.smv_items.specs.FlatItems.{leaf_in}
use Rattle.smv_flat.specs.declared.forms.Role.TheVariants.{Body}
use Rattle.smv_flat.specs.declared.nodes.Typed.{Typed}
use Rattle.smv_flat.specs.FlatView.{EndsTyped, plain_flat}

pub known_always : (e : Tree) → IsTrue (is_known (λ x. true) e)
known_always e = all_known (λ x. true) e (always_known (paths_of e []))

pub few_origins : (t : List PartOf) → AreFew (map instance_plain t) → length (origins_of (map instance_plain t)) < 2 ^ 32
few_origins t h = h.items

pub few_symbols : (t : List PartOf) (symbols : List (List ℕ)) → AreFew (map instance_plain t) → symbols ≡ symbols_of (map instance_plain t) → length symbols < 2 ^ 32
few_symbols t symbols h e = subst (λ (xs : List (List ℕ)). length xs < 2 ^ 32) (sym e) h.symbols

-- bodies of two lists of items
pub bodies_joined : (t : List Instance) (k : ℕ) (ms ns : List Origin) → body_forms t k (ms ++ ns) ≡ body_forms t k ms ++ body_forms t (k + length ms) ns
bodies_joined t k [] ns = ap (λ n. body_forms t n ns) (let e : k ≡ k + 0 = omega arith in e)
bodies_joined t k (m ∷ ms) ns =
    let n : (k + 1) + length ms ≡ k + suc (length ms) = omega arith in
    ap (λ fs. content_form t k m.instance m.content ++ fs) (bodies_joined t (k + 1) ms ns ∙ ap (λ j. body_forms t (k + 1) ms ++ body_forms t j ns) n)
    ∙ sym (append_assoc (content_form t k m.instance m.content) (body_forms t (k + 1) ms) (body_forms t (k + suc (length ms)) ns))

-- what passes its checks has its type
pub passed : (a : Typing) (o : Option ExprType) → outcome a ≡ Ok o → (first_failing a.checks ≡ None) × (a.type ≡ o)
passed a o h = ok_parts (first_failing a.checks) a.type o h

-- as many types more as items
pub types_long : (t : List Instance) (ms : List Origin) (ps : List Piece) (old new : Building) → Adds t ms ps old new → length new.types.items ≡ length old.types.items + length ms
types_long t ms ps old new h =
    sym (length-map new.types.items (option_map seen)) ∙ ap length h.types
    ∙ length-append (map (option_map seen) old.types.items) (map (λ (m : Origin). content_type t m.content) ms)
    ∙ ap (λ n. n + length (map (λ (m : Origin). content_type t m.content) ms)) (length-map old.types.items (option_map seen))
    ∙ ap (λ n. length old.types.items + n) (length-map ms (λ (m : Origin). content_type t m.content))

pub adds_nothing : (t : List Instance) (b : Building) → Adds t [] [] b b
adds_nothing t b = record { types = sym (append_none (map (option_map seen) b.types.items)); forms = sym (append_none (map form_plain b.forms.items)); rest = sym (append_none (map form_plain b.rest.items)); assigned = sym (append_none b.assigned.items); kept = λ h. h }

-- one after another
pub adds_then : (t : List Instance) (ms ns : List Origin) (ps qs : List Piece) (a b c : Building) → Adds t ms ps a b → Adds t ns qs b c → Adds t (ms ++ ns) (ps ++ qs) a c
adds_then t ms ns ps qs a b c h k =
    let type = λ (m : Origin). content_type t m.content in
    record {
      types = k.types ∙ ap (λ ts. ts ++ map type ns) h.types ∙ append_assoc (map (option_map seen) a.types.items) (map type ms) (map type ns) ∙ ap (λ ts. map (option_map seen) a.types.items ++ ts) (sym (map-append type ms ns));
      forms = k.forms ∙ ap (λ n. map form_plain b.forms.items ++ body_forms t n ns) (types_long t ms ps a b h)
          ∙ ap (λ xs. xs ++ body_forms t (length a.types.items + length ms) ns) h.forms
          ∙ append_assoc (map form_plain a.forms.items) (body_forms t (length a.types.items) ms) (body_forms t (length a.types.items + length ms) ns)
          ∙ ap (λ xs. map form_plain a.forms.items ++ xs) (sym (bodies_joined t (length a.types.items) ms ns));
      rest = k.rest ∙ ap (λ xs. xs ++ map form_in qs) h.rest
          ∙ append_assoc (map form_plain a.rest.items) (map form_in ps) (map form_in qs) ∙ ap (λ xs. map form_plain a.rest.items ++ xs) (sym (map-append form_in ps qs));
      assigned = k.assigned ∙ ap (λ xs. xs ++ flat_map assigned_by qs) h.assigned
          ∙ append_assoc a.assigned.items (flat_map assigned_by ps) (flat_map assigned_by qs) ∙ ap (λ xs. a.assigned.items ++ xs) (sym (flat_map-append assigned_by ps qs));
      kept = λ r. k.kept (h.kept r);
    }

-- a body that was typed and added as the next item
pub body_added : (t : List Instance) (i j : ℕ) (e : Tree) (x : Typed) (k : ℕ) (old new : Building) → k ≡ length old.types.items → EndsTyped (types_in true t j) (leaf_in t j) in_body false e (Ok x)
    → new.types.items ≡ old.types.items ++ x.ty ∷ [] → map form_plain new.forms.items ≡ map form_plain old.forms.items ++ record { instance = i; role = Body k; body = plain_flat x.expr } ∷ []
    → new.rest ≡ old.rest → new.assigned ≡ old.assigned → (AreKept t old.kept.items → AreKept t new.kept.items) → BodyAdds t i j e old new
body_added t i j e x k old new long ends types forms rest assigned kept = record {
  types =
      ap (map (option_map seen)) types ∙ map-append (option_map seen) old.types.items (x.ty ∷ [])
      ∙ ap (λ o. map (option_map seen) old.types.items ++ o ∷ []) (sym (passed (typing (types_in true t j) in_body e) (option_map seen x.ty) ends.0).1);
  forms =
      forms ∙ ap (λ n. map form_plain old.forms.items ++ record { instance = i; role = Body n; body = plain_flat x.expr } ∷ []) long
      ∙ ap (λ f. map form_plain old.forms.items ++ record { instance = i; role = Body (length old.types.items); body = f } ∷ []) ends.1;
  rest = ap (λ fs. map form_plain fs.items) rest;
  assigned = ap (λ xs. xs.items) assigned;
  kept = kept;
}

-- such a body is that of a definition, or of an actual that is no path
pub definition_adds : (t : List Instance) (i j : ℕ) (x : List ℕ) (e : Tree) (old new : Building) → BodyAdds t i j e old new → Adds t (record { instance = i; name = x; content = definition j e } ∷ []) [] old new
definition_adds t i j x e old new h = record { types = h.types; forms = h.forms; rest = h.rest ∙ sym (append_none (map form_plain old.rest.items)); assigned = h.assigned ∙ sym (append_none old.assigned.items); kept = h.kept }

pub actual_adds : (t : List Instance) (i j : ℕ) (x : List ℕ) (e : Tree) (old new : Building) → BodyAdds t i j e old new → Adds t (record { instance = i; name = x; content = actual j e } ∷ []) [] old new
actual_adds t i j x e old new h = record { types = h.types; forms = h.forms; rest = h.rest ∙ sym (append_none (map form_plain old.rest.items)); assigned = h.assigned ∙ sym (append_none old.assigned.items); kept = h.kept }

-- the check of a type behind those of an expression that passes
pub fit_fails : (a : Typing) (p : Place) (o : Option ExprType) (test : Option ExprType → Bool) → outcome a ≡ Ok o → test o ≡ false → first_failing (a.checks ++ check 16 p (test a.type) ∷ []) ≡ Some (check 16 p false).refusal
fit_fails a p o test e w = let h = passed a o e in misfit a.checks p (test a.type) (check 16 p false).refusal h.0 (ap test h.1 ∙ w) refl

pub fit_passes : (a : Typing) (p : Place) (o : Option ExprType) (test : Option ExprType → Bool) → outcome a ≡ Ok o → test o ≡ true → first_failing (a.checks ++ check 16 p (test a.type) ∷ []) ≡ None
fit_passes a p o test e w =
    let h = passed a o e in
    goes a.checks (check 16 p (test a.type) ∷ []) h.0 ∙ ap (λ b. first_failing (check 16 p b ∷ [])) (ap test h.1 ∙ w)

-- the actuals, then the elements, then the assignments and sections behind the bodies
pub instance_added : (t : List Instance) (i p : ℕ) (at : Instance) (old mid new last : Building) → p ≡ parent_of at → old.rest.items ≡ []
    → Adds t (actual_items i p at.module.parameters at.actuals) [] old mid → Adds t (flat_map (element_items i) at.module.elements) (flat_map (element_pieces t i) at.module.elements) mid new
    → last.forms.items ≡ new.forms.items ++ new.rest.items → last.rest.items ≡ [] → last.assigned ≡ new.assigned → last.types ≡ new.types → last.kept ≡ new.kept → InstanceAdds t i at old last
instance_added t i p at old mid new last parent none own more forms rest assigned types kept =
    let first = subst (λ j. Adds t (actual_items i j at.module.parameters at.actuals) [] old mid) parent own in
    let both = adds_then t (actual_items i (parent_of at) at.module.parameters at.actuals) (flat_map (element_items i) at.module.elements) [] (flat_map (element_pieces t i) at.module.elements) old mid new first more in
    let behind = both.rest ∙ ap (λ fs. map form_plain fs ++ map form_in (flat_map (element_pieces t i) at.module.elements)) none ∙ pieces_forms t i at.module.elements in
    record {
      types = ap (λ ts. map (option_map seen) ts.items) types ∙ both.types;
      forms =
          ap (map form_plain) forms ∙ map-append form_plain new.forms.items new.rest.items
          ∙ ap (λ fs. map form_plain new.forms.items ++ fs) behind ∙ ap (λ fs. fs ++ flat_map (element_forms t i) at.module.elements) both.forms
          ∙ append_assoc (map form_plain old.forms.items) (body_forms t (length old.types.items) (items_here i at)) (flat_map (element_forms t i) at.module.elements);
      rest = rest;
      assigned = ap (λ xs. xs.items) assigned ∙ both.assigned ∙ ap (λ xs. old.assigned.items ++ xs) (pieces_assigned t i at.module.elements);
      kept = λ r. subst (AreKept t) (ap (λ ks. ks.items) (sym kept)) (both.kept r);
    }
