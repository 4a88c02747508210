-- Values of variables that meet the equations of definitions and actuals have the data of the row of their state and label.
use Rattle.std.proofs.Common.{◌≡◌, ℕ, zero, suc, ◌≤◌, Bool, true, false, ◌&&◌, ◌==◌, nat_lt, if◌then◌else◌, List, [], ◌∷◌, flat_map, position, Option, Some, None, refl, sym, ap, ◌∙◌, subst, arith}
use Rattle.std.specs.List.{slice_get, AllByRecursion}
use Rattle.std.specs.Str.{bytes_eq}
use Rattle.std.proofs.lemmas.Bool.{eq-eqb, lt-ltb, ltb-true}
use Rattle.smv_text.specs.declared.tree.Path.{Path}
use Rattle.smv_text.specs.declared.tree.VarKind.{VarKind}
use Rattle.smv_text.specs.Tree.{Tree, PlainDomain}
use Rattle.smv_meaning.specs.Values.{Valuation}
use Rattle.smv_meaning.specs.Expressions.{denote}
use Rattle.smv_meaning.specs.Instances.{Instance}
use Rattle.smv_meaning.specs.Names.{body_of, local, Found, variable_at, body_at, instance_at, symbol_of, cyclic, none, found_in, steps_of}
use Rattle.smv_meaning.specs.Types.{ExprType}
use Rattle.smv_meaning.specs.Checks.{typing}
use Rattle.smv_meaning.specs.Naming.{in_body}
use Rattle.smv_meaning.specs.Settled.{rank_of, types_in, values_in}
use Rattle.smv_meaning.specs.laws.Booleans.{both_true}
use Rattle.smv_laws.proofs.Ranked.{key}
use Rattle.smv_laws.proofs.Settling.{Under, under_more, all_under, body_under, descent, ranking}
use Rattle.smv_items.specs.FlatItems.{Leaf, Content, variable, definition, actual, Origin, origins_of, symbols_of, is_variable_as, path_of, is_item, item_leaf, symbol_leaf, leaf_found, content_type}
use Rattle.smv_flat.specs.declared.forms.Role.TheVariants.{Body}
use Rattle.smv_flat.specs.FlatForms.{Form, flat_in, content_form, forms_of}
use Rattle.smv_flat.specs.FlatTruth.{Row}
use Rattle.smv_flat_laws.specs.FlatLaws.{content_value, origin_value, row_of}
use Rattle.smv_flat_laws.proofs.FlatFound.{body_in, pair, body_at_item}
use Rattle.smv_flat_laws.proofs.FlatRows.{row_leaf, row_reads, row_values, row_is_there_law, pair_parts}
use Rattle.moxi_terms.specs.declared.data.Datum.{Datum}
use Rattle.moxi_terms.specs.Operators.{same}
use Rattle.moxi_terms.specs.Tree.{variable as moxi_variable}
use Rattle.moxi_terms.specs.Value.{Calls, Values, term_value}
use Rattle.moxi_scripts.specs.Behaviour.{Holds}
use Rattle.smv_flat.specs.FlatWidth.{tree_width}
use Rattle.smv_script.specs.Codes.{value_of}
use Rattle.smv_script.specs.Terms.{Coding, translation}
use Rattle.smv_script.specs.Script.{body_part, body_parts}
use Rattle.smv_script_laws.proofs.ValueLaws.{values_round_trip_law}
use Rattle.smv_script_laws.proofs.Bodies.{all_left, all_right, IsBody, IsGood}
use Rattle.smv_script_laws.proofs.Domains.{same_datum, truth_is}
use Rattle.smv_script_laws.proofs.Models.{Model, item_typed, item_forms, item_width, found_origin, IsCoded}
use Rattle.smv_script_laws.proofs.Steps.{Fit, Reads, body_says}
use Rattle.moxi_terms.specs.Applications.{equal_term}

-- ---- the equation of a body

all_flat : {X Y : Type 0} (P : Y → Type 0) (g : X → List Y) (xs : List X) → AllByRecursion P (flat_map g xs) → AllByRecursion (λ x. AllByRecursion P (g x)) xs
all_flat P g [] h = tt
all_flat P g (x ∷ xs) h = (all_left P (g x) (flat_map g xs) h, all_flat P g xs (all_right P (g x) (flat_map g xs) h))

abbrev PartHolds : Calls → Values → Coding → ℕ → Form → Type 0
PartHolds calls env c k f = AllByRecursion (Holds calls env env) (body_part c k f.role f.body)

own_part : (calls : Calls) (env : Values) (c : Coding) (t : List Instance) (k i j : ℕ) (e : Tree) → PartHolds calls env c k (record { instance = i; role = Body k; body = flat_in t j in_body e })
    → env (c.place k) ≡ term_value calls env env [] ((translation c (flat_in t j in_body e)).term 0)
own_part calls env c t k i j e h = by (k == k) (eq-eqb k k refl) h
  where
    d : Datum
    d = term_value calls env env [] ((translation c (flat_in t j in_body e)).term 0)

    by : (b : Bool) → b ≡ true → AllByRecursion (Holds calls env env) (if b then equal_term (moxi_variable (c.place k) false) ((translation c (flat_in t j in_body e)).term 0) ∷ [] else [])
        → env (c.place k) ≡ term_value calls env env [] ((translation c (flat_in t j in_body e)).term 0)
    by true s p = same_datum (env (c.place k)) d (both_true (same (env (c.place k)) d) true (truth_is (same (env (c.place k)) d && true) p.0)).0
    by false s p = cc

-- ---- what is known of the values

-- each variable has the datum of its value, and each definition and actual that of its body
pub record Meets (t : List Instance) (c : Coding) (calls : Calls) (row : Row) (env : Values) (state label : Valuation) : Type 0 where
  pub model : Model t c.width
  pub codes : IsCoded t c.width c.place row env
  pub fit : Fit t state label
  pub variables : (k : ℕ) (m : Origin) (kind : VarKind) (d : PlainDomain) → slice_get (origins_of t) k ≡ Some m → m.content ≡ variable kind d → row k ≡ content_value t state label (path_of t m) (variable kind d)
  pub decoded : (k : ℕ) (m : Origin) (u : ExprType) → slice_get (origins_of t) k ≡ Some m → content_type t m.content ≡ Some u → row k ≡ value_of (symbols_of t) u (env (c.place k))
  pub equations : (k : ℕ) (m : Origin) (j : ℕ) (e : Tree) → slice_get (origins_of t) k ≡ Some m → body_in m.content ≡ Some (pair j e) → AllByRecursion (Holds calls env env) (body_parts c k (forms_of t))

abbrev ContentReads : List Instance → Row → Valuation → Valuation → Content → Type 0
ContentReads t row state label (variable kind d) = Unit {0}
ContentReads t row state label (definition j e) = Reads t row state label j e
ContentReads t row state label (actual j e) = Reads t row state label j e

content_reads : (t : List Instance) (row : Row) (state label : Valuation) (c : Content) (j : ℕ) (e : Tree) → body_in c ≡ Some (pair j e) → Reads t row state label j e → ContentReads t row state label c
content_reads t row state label (variable kind d) j e h r = tt
content_reads t row state label (definition i b) j e h r =
    let p = pair_parts i j b e h in subst (λ n. Reads t row state label n b) (sym p.0) (subst (λ x. Reads t row state label j x) (sym p.1) r)
content_reads t row state label (actual i b) j e h r =
    let p = pair_parts i j b e h in subst (λ n. Reads t row state label n b) (sym p.0) (subst (λ x. Reads t row state label j x) (sym p.1) r)

abbrev leaves_same : List Instance → Row → Row → Leaf → Type 0
leaves_same t row other l = row_leaf t row l ≡ row_leaf t other l

module _ (t : List Instance) (c : Coding) (calls : Calls) (row : Row) (env : Values) (state label : Valuation) (meets : Meets t c calls row env state label) where
  body_row : (k : ℕ) (m : Origin) (j : ℕ) (e : Tree) → slice_get (origins_of t) k ≡ Some m → content_type t m.content ≡ (typing (types_in true t j) in_body e).type → IsBody t j e
      → tree_width (flat_in t j in_body e) ≤ c.width → env (c.place k) ≡ term_value calls env env [] ((translation c (flat_in t j in_body e)).term 0) → Reads t row state label j e
      → row k ≡ (denote (values_in t state label j) (values_in t state label j) e).value
  body_row k m j e h type b wide equation r =
      let y = item_typed t c.width meets.model k m h in
      let v = (denote (values_in t state label j) (values_in t state label j) e).value in
      let s = body_says t c meets.model.some calls row env meets.codes state label meets.fit j e b wide y.type (sym type ∙ y.has) r in
      meets.decoded k m y.type h y.has ∙ ap (value_of (symbols_of t) y.type) (equation ∙ s.value refl [])
      ∙ values_round_trip_law c.width (symbols_of t) meets.model.some y.type v (s.kind refl)

  content_row : (k : ℕ) (m : Origin) → slice_get (origins_of t) k ≡ Some m → (x : Content) → m.content ≡ x → ContentReads t row state label x → row k ≡ content_value t state label (path_of t m) x
  content_row k m h (variable kind d) e r = meets.variables k m kind d h e
  content_row k m h (definition j b) e r =
      body_row k m j b h (ap (content_type t) e) (subst (IsGood t) e (item_typed t c.width meets.model k m h).good)
      (subst (λ x. AllByRecursion (λ f. tree_width f.body ≤ c.width) (content_form t k m.instance x)) e (item_width t c.width meets.model k m h)).0
      (own_part calls env c t k m.instance j b
      (subst (λ x. AllByRecursion (PartHolds calls env c k) (content_form t k m.instance x)) e
      (item_forms t (PartHolds calls env c k) (all_flat (Holds calls env env) (λ f. body_part c k f.role f.body) (forms_of t) (meets.equations k m j b h (ap body_in e))) k m h)).0)
      r
  content_row k m h (actual j b) e r =
      body_row k m j b h (ap (content_type t) e) (subst (IsGood t) e (item_typed t c.width meets.model k m h).good)
      (subst (λ x. AllByRecursion (λ f. tree_width f.body ≤ c.width) (content_form t k m.instance x)) e (item_width t c.width meets.model k m h)).0
      (own_part calls env c t k m.instance j b
      (subst (λ x. AllByRecursion (PartHolds calls env c k) (content_form t k m.instance x)) e
      (item_forms t (PartHolds calls env c k) (all_flat (Holds calls env env) (λ f. body_part c k f.role f.body) (forms_of t) (meets.equations k m j b h (ap body_in e))) k m h)).0)
      r

  origin_row : (k : ℕ) (m : Origin) → slice_get (origins_of t) k ≡ Some m → ContentReads t row state label m.content → row k ≡ row_of t state label k
  origin_row k m h r = content_row k m h m.content refl r ∙ sym (ap (origin_value t state label) h)

  -- ---- paths, by the rank of the bodies to which they lead

  abbrev is_low : ℕ → Found → Bool
  is_low n (body_at i x j e) = nat_lt (rank_of t (key i x)) n
  is_low n m = true

  low_under : (n : ℕ) (m : Found) → Under t (rank_of t) (steps_of t) m → is_low n m ≡ true → Under t (rank_of t) n m
  low_under n (body_at i x j e) u l = (ltb-true (rank_of t (key i x)) n l, u.1)
  low_under n cyclic u l = u
  low_under n (variable_at x kind d) u l = tt
  low_under n (instance_at i) u l = tt
  low_under n (symbol_of x) u l = tt
  low_under n none u l = tt

  under_low : (n : ℕ) (m : Found) → Under t (rank_of t) n m → is_low n m ≡ true
  under_low n (body_at i x j e) u = lt-ltb (rank_of t (key i x)) n u.0
  under_low n cyclic u = refl
  under_low n (variable_at x kind d) u = refl
  under_low n (instance_at i) u = refl
  under_low n (symbol_of x) u = refl
  under_low n none u = refl

  symbols_same : (o : Option ℕ) → leaves_same t row (row_of t state label) (symbol_leaf o)
  symbols_same None = refl
  symbols_same (Some s) = refl

  variable_origin : (k : ℕ) (m : Origin) (kind : VarKind) → slice_get (origins_of t) k ≡ Some m → (x : Content) → m.content ≡ x → is_variable_as kind x ≡ true → row k ≡ row_of t state label k
  variable_origin k m kind h (variable v d) e s = meets.variables k m v d h e ∙ sym (ap (content_value t state label (path_of t m)) e) ∙ sym (ap (origin_value t state label) h)
  variable_origin k m kind h (definition j b) e s = cc
  variable_origin k m kind h (actual j b) e s = cc

  variables_same : (y : List ℕ) (kind : VarKind) (d : PlainDomain) (o : Option ℕ) → position (is_item t (variable_at y kind d)) (origins_of t) ≡ o → leaves_same t row (row_of t state label) (item_leaf o)
  variables_same y kind d None e = refl
  variables_same y kind d (Some k) e =
      let p = found_origin t (variable_at y kind d) k e in
      variable_origin k p.0 kind p.1 p.0.content refl (both_true (is_variable_as kind p.0.content) (bytes_eq (path_of t p.0) y) p.2).0

  bodies_same : (i : ℕ) (x : List ℕ) (j : ℕ) (e : Tree) → local t i x ≡ body_of j e → Reads t row state label j e
      → leaves_same t row (row_of t state label) (leaf_found t (body_at i x j e))
  bodies_same i x j e h r =
      let a = body_at_item t i x j e h in
      subst (λ o. leaves_same t row (row_of t state label) (item_leaf o)) (sym a.placed) (origin_row a.k a.x a.there (content_reads t row state label a.x.content j e a.gives r))

  read_from : (i : ℕ) (q : Path) → leaves_same t row (row_of t state label) (leaf_found t (found_in t i q)) → row_reads t row i q ≡ values_in t state label i q
  read_from i q s = s ∙ row_values t meets.model.acyclic state label (row_of t state label) (row_is_there_law t meets.model.acyclic state label) i q

  found_same : (n : ℕ) (m : Found) → Under t (rank_of t) n m → leaves_same t row (row_of t state label) (leaf_found t m)
  found_same n (variable_at y kind d) u = variables_same y kind d _ refl
  found_same n (instance_at i) u = refl
  found_same n (symbol_of x) u = symbols_same _
  found_same n cyclic u = refl
  found_same n none u = refl
  found_same zero (body_at i x j e) u = let less = u.0 in absurd (omega arith)
  found_same (suc n) (body_at i x j e) u =
      let less = u.0 in
      let rank = ranking t meets.model.acyclic in
      bodies_same i x j e u.1 (record {
        good = λ q. is_low n (found_in t j q);
        own = λ q g. under_low n (found_in t j q) (under_more t (rank_of t) (rank_of t (key i x)) n (omega arith) (found_in t j q) (body_under t (rank_of t) (descent t (rank_of t) rank) i x j e u.1 q g));
        same = λ q l. read_from j q (found_same n (found_in t j q) (low_under n (found_in t j q) (all_under t (rank_of t) rank j q) l));
      })

  all_read : (j : ℕ) (e : Tree) → Reads t row state label j e
  all_read j e = record {
    good = λ q. true;
    own = λ q g. refl;
    same = λ q l. read_from j q (found_same (steps_of t) (found_in t j q) (all_under t (rank_of t) (ranking t meets.model.acyclic) j q));
  }

  content_all : (x : Content) → ContentReads t row state label x
  content_all (variable kind d) = tt
  content_all (definition j e) = all_read j e
  content_all (actual j e) = all_read j e

  pub row_same : (k : ℕ) (m : Origin) → slice_get (origins_of t) k ≡ Some m → row k ≡ row_of t state label k
  row_same k m h = origin_row k m h (content_all m.content)
