-- The parts of all items in the environments of two rows.
use Rattle.std.proofs.Common.{◌≡◌, ℕ, zero, suc, ◌+◌, ◌<◌, ◌≤◌, Bool, true, false, ◌&&◌, ◌==◌, if◌then◌else◌, List, [], ◌∷◌, length, flat_map, Some, refl, sym, ap, ◌∙◌, subst, arith}
use Rattle.std.specs.Prelude.{◌↔◌, slice_get}
use Rattle.std.specs.List.{AllByRecursion}
use Rattle.std.proofs.lemmas.Bool.{eqb-true}
use Rattle.smv_text.specs.declared.tree.VarKind.TheVariants as OfVarKind
use Rattle.smv_text.specs.declared.tree.When.TheVariants.{Always, Following}
use Rattle.smv_meaning.specs.Values.{Valuation, value_same, is_of_type}
use Rattle.smv_meaning.specs.Instances.{Instance}
use Rattle.smv_meaning.specs.laws.Booleans.{both_true, two_true}
use Rattle.smv_items.specs.declared.items.ItemKind.{ItemKind}
use Rattle.smv_items.specs.declared.items.ItemKind.TheVariants.{State, Frozen, Input, Define, Actual}
use Rattle.smv_items.specs.FlatItems.{Content, variable, definition, actual, symbols_of, kind_of, type_or_truth, content_type, content_members, path_of, PlainFlatItem, flat_item_of}
use Rattle.smv_flat.specs.declared.forms.Role.{Role}
use Rattle.smv_flat.specs.declared.forms.Role.TheVariants.{Body, Assign, Init, Trans, Invar, Invariant}
use Rattle.smv_flat.specs.FlatForms.{Form, flat_of}
use Rattle.smv_flat.specs.FlatTruth.{Row, form_denotes, MeetsRole, MeetsForms, kind_stays, items_stay}
use Rattle.smv_flat_laws.proofs.FlatRows.{HasContent, row_reads, has_items, item_there}
use Rattle.smv_flat.specs.FlatWidth.{integers_width, items_width}
use Rattle.moxi_terms.specs.declared.data.Datum.TheVariants as datum
use Rattle.moxi_terms.specs.Operators.{truth_of, same}
use Rattle.moxi_terms.specs.Tree.{Tree, variable as of_variable}
use Rattle.moxi_terms.specs.Value.{Calls, Values, term_value}
use Rattle.moxi_scripts.specs.Behaviour.{Holds}
use Rattle.smv_script.specs.Codes.{datum_of}
use Rattle.smv_script.specs.Terms.{Coding, translation}
use Rattle.smv_script.specs.Script.{body_part, body_parts, invar_item, trans_item, item_parts}
use Rattle.smv_script_laws.specs.TermLaws.{HasRow}
use Rattle.smv_script_laws.proofs.Rows.{same_codes}
use Rattle.smv_script_laws.specs.Parts.{ItemsHold}
use Rattle.smv_script_laws.proofs.Forms.{RoleGood, FormGood}
use Rattle.smv_script_laws.proofs.FormulaMeanings.{form_says}
use Rattle.smv_script_laws.proofs.Members.{same_self, domain_holds}
use Rattle.smv_script_laws.proofs.Premises.{Known}
use Rattle.smv_script_laws.proofs.Targets.{index_below, item_width, origin_there, is_variable, variable_fits_at, variable_kind}
use Rattle.smv_script_laws.proofs.Variables.{Fits}
use Rattle.smv_script_laws.proofs.Bodies.{all_joined}
use Rattle.text_core.proofs.Truths.{and_true}
use Rattle.moxi_terms.specs.Applications.{equal_term}

-- ---- in each state

module _ (t : List Instance) (c : Coding) (known : Known t c.width) (state label : Valuation) (row : Row) (calls : Calls) (env : Values) (r : HasRow t c state label row env) where
  abbrev AllHold : List Tree → Type 0
  AllHold ts = AllByRecursion (Holds calls env env) ts

  -- a body's term has the datum of the item's value
  body_holds : (k : ℕ) → k < length (flat_of t).items → (f : Form) → FormGood t c.width f → MeetsRole row (form_denotes (flat_of t) row row f.body).value f.role → AllHold (body_part c k f.role f.body)
  body_holds k l f g m = by f.role g.role m
    where
      here : g.at.sets ≡ false → row k ≡ (form_denotes (flat_of t) row row f.body).value → AllHold (equal_term (of_variable (c.place k) false) ((translation c f.body).term 0) ∷ [])
      here s e =
          let value : term_value calls env env [] ((translation c f.body).term 0) ≡ datum_of c.width (symbols_of t) (row k) =
          (form_says t c known.ready known.some known.types known.items state label state label row row calls env env r r f g).value s [] ∙ sym (ap (datum_of c.width (symbols_of t)) e) in (
            ap (λ d. datum.Truth (same d (term_value calls env env [] ((translation c f.body).term 0)) && true)) (r.coded k l)
                ∙ ap (λ d. datum.Truth (same (datum_of c.width (symbols_of t) (row k)) d && true)) value
                ∙ ap (λ b. datum.Truth (b && true)) (same_self (datum_of c.width (symbols_of t) (row k))),
            tt,
          )

      by : (x : Role) → RoleGood t g.from g.at g.good.type x → MeetsRole row (form_denotes (flat_of t) row row f.body).value x → AllHold (body_part c k x f.body)
      by (Body j) q m = pick (j == k) refl
        where
          pick : (b : Bool) → (j == k) ≡ b → AllHold (if b then equal_term (of_variable (c.place k) false) ((translation c f.body).term 0) ∷ [] else [])
          pick true e = here q (ap row (sym (eqb-true j k e)) ∙ m)
          pick false e = tt
      by (Assign when j) q m = tt
      by Init q m = tt
      by Trans q m = tt
      by Invar q m = tt
      by Invariant q m = tt

  bodies_hold : (k : ℕ) → k < length (flat_of t).items → (fs : List Form) → AllByRecursion (FormGood t c.width) fs → MeetsForms (flat_of t) row fs → AllHold (body_parts c k fs)
  bodies_hold k l [] g m = tt
  bodies_hold k l (f ∷ fs) g m =
      all_joined (Holds calls env env) (body_part c k f.role f.body) (flat_map (λ (x : Form). body_part c k x.role x.body) fs) (body_holds k l f g.0 m.0) (bodies_hold k l fs g.1 m.1)

  -- an item of this content
  content_holds : (k : ℕ) → k < length (flat_of t).items → (name : List ℕ) (i : ℕ) (x : Content) → Fits state label name x → HasContent t state label (row_reads t row) (row k) name x
      → integers_width (type_or_truth (content_type t x)) ≤ c.width
      → AllHold (invar_item (flat_of t) c k (record { name = name; instance = i; kind = kind_of x; type = type_or_truth (content_type t x); members = content_members x }) (kind_of x))
  content_holds k l name i (variable OfVarKind.State d) f h w = domain_holds c.width (symbols_of t) known.some calls env (c.place k) (row k) (r.coded k l) d (ap (is_of_type d) h ∙ f.0) f.1 w
  content_holds k l name i (variable OfVarKind.Frozen d) f h w = domain_holds c.width (symbols_of t) known.some calls env (c.place k) (row k) (r.coded k l) d (ap (is_of_type d) h ∙ f.0) f.1 w
  content_holds k l name i (variable OfVarKind.Input d) f h w = domain_holds c.width (symbols_of t) known.some calls env (c.place k) (row k) (r.coded k l) d (ap (is_of_type d) h ∙ f.0) f.1 w
  content_holds k l name i (definition j e) f h w = bodies_hold k l (flat_of t).forms known.forms r.is_row.bodies
  content_holds k l name i (actual j e) f h w = bodies_hold k l (flat_of t).forms known.forms r.is_row.bodies

  pub each_holds : ItemsHold (flat_of t) c Always calls env env
  each_holds k m h =
      let o = origin_there t k m h in
      let there = item_there t k o.0 o.1 in
      let narrow : integers_width (flat_item_of t o.0).type ≤ items_width (flat_of t).items = item_width (flat_of t).items k (flat_item_of t o.0) there in
      let wide : items_width (flat_of t).items ≤ c.width = known.items in
      subst (λ x. AllHold (item_parts (flat_of t) c Always k x)) o.2
      (content_holds k (index_below (flat_of t).items k m h) (path_of t o.0) (o.0).instance (o.0).content
      (variable_fits_at t c known.types known.items state label row env r k o.0 o.1) (has_items t state label row r.is_row k o.0 o.1) (omega (arith, narrow, wide)))

-- ---- of each transition

frozen_variable : (x : Content) → kind_of x ≡ Frozen → is_variable x ≡ true
frozen_variable (variable kind d) h = refl
frozen_variable (definition j e) h = cc
frozen_variable (actual j e) h = cc

stays_all : (now later : Row) (k : ℕ) (ms : List PlainFlatItem) → ((n : ℕ) (m : PlainFlatItem) → slice_get ms n ≡ Some m → kind_stays (now (k + n)) (later (k + n)) m.kind ≡ true)
    → items_stay now later k ms ≡ true
stays_all now later k [] h = refl
stays_all now later k (m ∷ ms) h =
    let s : k + 0 ≡ k = omega arith in
    two_true (kind_stays (now k) (later k) m.kind) (items_stay now later (k + 1) ms) (subst (λ j. kind_stays (now j) (later j) m.kind ≡ true) s (h 0 m refl))
    (stays_all now later (k + 1) ms (λ n x e. let z : k + suc n ≡ (k + 1) + n = omega arith in subst (λ j. kind_stays (now j) (later j) x.kind ≡ true) z (h (suc n) x e)))

stays_one : (now later : Row) (k : ℕ) (ms : List PlainFlatItem) → items_stay now later k ms ≡ true → (n : ℕ) (m : PlainFlatItem) → slice_get ms n ≡ Some m
    → kind_stays (now (k + n)) (later (k + n)) m.kind ≡ true
stays_one now later k [] a n m h = cc
stays_one now later k (o ∷ ms) a zero m h =
    let s : k ≡ k + 0 = omega arith in
    let e : o ≡ m = cc in
    subst (λ j. kind_stays (now j) (later j) m.kind ≡ true) s
    (subst (λ (x : PlainFlatItem). kind_stays (now k) (later k) x.kind ≡ true) e (both_true (kind_stays (now k) (later k) o.kind) (items_stay now later (k + 1) ms) a).0)
stays_one now later k (o ∷ ms) a (suc n) m h =
    let s : (k + 1) + n ≡ k + suc n = omega arith in
    subst (λ j. kind_stays (now j) (later j) m.kind ≡ true) s (stays_one now later (k + 1) ms (both_true (kind_stays (now k) (later k) o.kind) (items_stay now later (k + 1) ms) a).1 n m h)

module _ (t : List Instance) (c : Coding) (known : Known t c.width) (state label following other : Valuation) (now later : Row) (calls : Calls) (first second : Values)
    (this : HasRow t c state label now first) (next : HasRow t c following other later second) where
  frozen_at : (k : ℕ) (m : PlainFlatItem) → slice_get (flat_of t).items k ≡ Some m → m.kind ≡ Frozen
      → term_value calls first second [] (equal_term (of_variable (c.place k) true) (of_variable (c.place k) false)) ≡ datum.Truth (value_same (now k) (later k))
  frozen_at k m h e =
      let o = origin_there t k m h in
      let l = index_below (flat_of t).items k m h in
      let v = frozen_variable (o.0).content (ap (λ (x : PlainFlatItem). x.kind) o.2 ∙ e) in
      let a = variable_kind t c known.types known.items state label now first this k o.0 o.1 v in
      let b = variable_kind t c known.types known.items following other later second next k o.0 o.1 v in
      ap (λ d. datum.Truth (same d (first (c.place k)) && true)) (next.coded k l)
      ∙ ap (λ d. datum.Truth (same (datum_of c.width (symbols_of t) (later k)) d && true)) (this.coded k l)
      ∙ ap datum.Truth (and_true (same (datum_of c.width (symbols_of t) (later k)) (datum_of c.width (symbols_of t) (now k)))
      ∙ same_codes c.width (symbols_of t) known.some (flat_item_of t o.0).type (later k) (now k) b a)

  item_means : (k : ℕ) (m : PlainFlatItem) → slice_get (flat_of t).items k ≡ Some m
      → AllByRecursion (Holds calls first second) (trans_item c k m.kind) ↔ (kind_stays (now k) (later k) m.kind ≡ true)
  item_means k m h = by m.kind refl
    where
      by : (x : ItemKind) → m.kind ≡ x → AllByRecursion (Holds calls first second) (trans_item c k x) ↔ (kind_stays (now k) (later k) x ≡ true)
      by State e = (λ a. refl, λ a. tt)
      by Input e = (λ a. refl, λ a. tt)
      by Define e = (λ a. refl, λ a. tt)
      by Actual e = (λ a. refl, λ a. tt)
      by Frozen e = let v = frozen_at k m h e in (λ a. ap truth_of (sym v ∙ a.0), λ a. (v ∙ ap datum.Truth a, tt))

  pub items_mean : ItemsHold (flat_of t) c Following calls first second ↔ (items_stay now later 0 (flat_of t).items ≡ true)
  items_mean = (
    λ a. stays_all now later 0 (flat_of t).items (λ n m h.
        let s : n ≡ 0 + n = omega arith in
        subst (λ j. kind_stays (now j) (later j) m.kind ≡ true) s ((item_means n m h).0 (a n m h))),
    λ a n m h. (item_means n m h).1 (let s : 0 + n ≡ n = omega arith in subst (λ j. kind_stays (now j) (later j) m.kind ≡ true) s (stays_one now later 0 (flat_of t).items a n m h)),
  )
