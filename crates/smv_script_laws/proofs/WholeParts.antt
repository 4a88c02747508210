-- The parts of a script's formulas are terms of truth values.
use Rattle.std.proofs.Common.{◌≡◌, ℕ, zero, suc, ◌+◌, ◌≤◌, max, Bool, true, false, ◌==◌, if◌then◌else◌, List, [], ◌∷◌, map, flat_map, Option, Some, option_map, refl, sym, ap, ◌∙◌, subst, arith, inl, inr}
use Rattle.std.specs.Prelude.{slice_get}
use Rattle.std.specs.List.{AllByRecursion}
use Rattle.std.proofs.lemmas.Bool.{eqb-true}
use Rattle.std.proofs.lemmas.Option.{slice_get-map}
use Rattle.word_core.specs.declared.word.TheConstants.{WIDEST}
use Rattle.smv_text.specs.declared.tree.VarKind.{VarKind}
use Rattle.smv_text.specs.declared.tree.VarKind.TheVariants as OfVarKind
use Rattle.smv_text.specs.declared.tree.When.{When}
use Rattle.smv_text.specs.declared.tree.When.TheVariants.{Always, First, Following}
use Rattle.smv_text.specs.declared.tree.Member.{Member}
use Rattle.smv_text.specs.declared.tree.Member.TheVariants as OfMember
use Rattle.smv_text.specs.Tree.{PlainDomain, boolean, members, between, bits, instance}
use Rattle.smv_meaning.specs.Instances.{Instance}
use Rattle.smv_meaning.specs.Types.{ExprType, truth_type, integer_type, symbol_type, word_type, are_same, hull_of, member_type, in_limit}
use Rattle.smv_meaning.specs.Checks.{Position, variable_type}
use Rattle.smv_meaning.specs.Naming.{in_body}
use Rattle.smv_meaning.specs.Phases.{when_same, in_state, in_step, in_assignment}
use Rattle.smv_meaning.specs.Settled.{Acyclic, types_in}
use Rattle.smv_meaning.specs.laws.Booleans.{both_true}
use Rattle.smv_laws.proofs.Cycles.{In}
use Rattle.smv_items.specs.declared.items.ItemKind.{ItemKind}
use Rattle.smv_items.specs.declared.items.ItemKind.TheVariants.{State, Frozen, Input, Define, Actual}
use Rattle.smv_items.specs.FlatItems.{Content, variable, definition, actual, Origin, origins_of, symbols_of, leaf_in, content_type, type_or_truth, domain_members, content_members, kind_of, flat_item_of}
use Rattle.smv_flat.specs.declared.forms.Role.{Role}
use Rattle.smv_flat.specs.declared.forms.Role.TheVariants.{Body, Assign, Init, Trans, Invar, Invariant}
use Rattle.smv_flat.specs.FlatTree.{FlatTree}
use Rattle.smv_flat.specs.FlatForms.{Form, flat_of}
use Rattle.smv_flat.specs.FlatTruth.{forms_invariants, role_invariant}
use Rattle.smv_flat.specs.FlatWidth.{tree_width, forms_width}
use Rattle.smv_width.proofs.SourceWidths.{same_width}
use Rattle.name_maps.specs.Names.{place_of}
use Rattle.moxi_terms.specs.declared.data.Sort.{Sort}
use Rattle.moxi_terms.specs.declared.data.Sort.TheVariants as sort
use Rattle.moxi_terms.specs.declared.data.Datum.TheVariants as datum
use Rattle.moxi_terms.specs.declared.data.Primes.{Primes}
use Rattle.moxi_terms.specs.declared.data.Primes.TheVariants.{Allowed, Refused}
use Rattle.moxi_terms.specs.declared.term.Enumeration.{Enumeration}
use Rattle.moxi_terms.specs.Tree.{Tree, constant, variable as var, trees_of}
use Rattle.moxi_term_reading.specs.declared.locals.Local.{Local}
use Rattle.moxi_term_reading.specs.Answer.{locals_of}
use Rattle.moxi_term_print.specs.WellScoped.{IsWellScoped, AreWellScoped, IsAllowedPrime}
use Rattle.moxi_scripts.specs.Script.{PlainFormula}
use Rattle.smv_script.specs.Codes.{sort_of, symbol_datum, number_or_zero}
use Rattle.smv_script.specs.Operators.{integer_term}
use Rattle.smv_script.specs.Terms.{Coding, translation}
use Rattle.smv_script.specs.Script.{coding_of, member_term, interval_parts, domain_parts, body_part, body_parts, invar_item, trans_item, item_parts, is_following, form_parts, numbered_parts, instance_parts, parts_upto, above_items, above_forms, formula_of, reachables_from, symbol_sort}
use Rattle.smv_script_laws.specs.PlaceLaws.{all_variables}
use Rattle.smv_script_laws.specs.WellScoped.{CanAppear}
use Rattle.smv_script_laws.specs.WellScopedLaws.{place_in_script}
use Rattle.smv_script_laws.proofs.Applied.{equal_stands, not_stands, integer_stands, between_stands, any_stands, and_stands}
use Rattle.smv_script_laws.proofs.SortedRows.{same_sort_of, hull_of_sorts}
use Rattle.smv_script_laws.proofs.Typed.{never_primed}
use Rattle.smv_script_laws.proofs.Declared.{symbol_placed}
use Rattle.smv_script_laws.proofs.Leaves.{ItemsDiffer}
use Rattle.smv_script_laws.proofs.Sorts.{instances_symbol}
use Rattle.smv_script_laws.proofs.SortLaws.{item_stands, truth_can, symbol_can, expressions_are_well_scoped}
use Rattle.smv_script_laws.proofs.PrintedForms.{IsOfSound, IsTyped, AreTyped, HasItem, IsRole}
use Rattle.smv_script_laws.proofs.Typings.{node_typed, some_same}
use Rattle.moxi_term_print.proofs.SortedTerms.{copies}
use Rattle.name_maps.proofs.FreshNames.{all_joined}
use Rattle.name_maps.specs.laws.Places.{place_below}
use Rattle.moxi_terms.specs.Applications.{equal_term, all_term}

-- primes are in transitions alone
abbrev pub primes_of : When → Primes
primes_of Following = Allowed
primes_of when = Refused

target_primes : (when : When) → IsAllowedPrime (primes_of when) (is_following when)
target_primes Following = tt
target_primes First = refl
target_primes Always = refl

body_primes : (w when : When) → when_same w when ≡ true → IsAllowedPrime (primes_of when) (in_assignment w).nexts
body_primes Always Always h = refl
body_primes First First h = refl
body_primes Following Following h = tt
body_primes Always First h = cc
body_primes Always Following h = cc
body_primes First Always h = cc
body_primes First Following h = cc
body_primes Following Always h = cc
body_primes Following First h = cc

all_flat : {X Y : Type 0} (P : Y → Type 0) (f : X → List Y) (xs : List X) → AllByRecursion (λ x. AllByRecursion P (f x)) xs → AllByRecursion P (flat_map f xs)
all_flat P f [] h = tt
all_flat P f (x ∷ xs) h = all_joined P (f x) (flat_map f xs) h.0 (all_flat P f xs h.1)

all_if : {X : Type 0} (P : X → Type 0) (b : Bool) (xs : List X) → (b ≡ true → AllByRecursion P xs) → AllByRecursion P (if b then xs else [])
all_if P true xs h = h refl
all_if P false xs h = tt

all_map : {X : Type 0} (P Q : X → Type 0) → ((x : X) → P x → Q x) → (xs : List X) → AllByRecursion P xs → AllByRecursion Q xs
all_map P Q f [] h = tt
all_map P Q f (x ∷ xs) h = (f x h.0, all_map P Q f xs h.1)

module _ (t : List Instance) (w : ℕ) (some : 1 ≤ w) (most : w ≤ WIDEST) (acyclic : Acyclic t) (fresh : ItemsDiffer t) where
  abbrev es : List Enumeration
  es = symbol_sort (symbols_of t)

  abbrev vs : List Local
  vs = locals_of (all_variables w (flat_of t).items)

  abbrev c : Coding
  c = coding_of (flat_of t) w

  -- a term of truth values over the system's variables
  abbrev pub IsFormulaIn : Primes → Tree → Type 0
  IsFormulaIn primes x = IsWellScoped (place_in_script (flat_of t) w primes) [] x sort.Truth

  abbrev pub AreFormulasIn : Primes → List Tree → Type 0
  AreFormulasIn primes xs = AllByRecursion (IsFormulaIn primes) xs

  -- what stands for a sound expression can stand
  sound_can : (primes : Primes) (at : Position) (b : FlatTree) (u : ExprType) → IsAllowedPrime primes at.nexts → IsOfSound t at b u → tree_width b ≤ w → CanAppear (place_in_script (flat_of t) w primes) (sort_of w u) at.sets (translation c b)
  sound_can primes at b u n s l =
      let e = s.sound in
      let width = same_width (types_in true t s.instance) (leaf_in t s.instance) at false s.expression e.operators e.checks in
      let low : tree_width _ ≤ w = subst (λ z. tree_width z ≤ w) s.same l in
      subst (λ z. CanAppear (place_in_script (flat_of t) w primes) (sort_of w u) at.sets (translation c z)) (sym s.same)
      (expressions_are_well_scoped t acyclic fresh w some most primes s.instance at n s.expression e.operators (subst (λ n. n ≤ w) width low) u e.typed)

  origin_item : (k : ℕ) (m : Origin) → slice_get (origins_of t) k ≡ Some m → slice_get (flat_of t).items k ≡ Some (flat_item_of t m)
  origin_item k m h = slice_get-map (flat_item_of t) (origins_of t) k ∙ ap (option_map (flat_item_of t)) h

  -- the variable of an item with this type
  item_can : (primes : Primes) (k : ℕ) (primed : Bool) (u : ExprType) → IsAllowedPrime primes primed → HasItem t k u → IsWellScoped (place_in_script (flat_of t) w primes) [] (var (c.place k) primed) (sort_of w u)
  item_can primes k primed u p h =
      subst (λ (o : Option ExprType). IsWellScoped (place_in_script (flat_of t) w primes) [] (var (c.place k) primed) (sort_of w (type_or_truth o))) h.typed
      (item_stands t w some most fresh primes [] tt k primed p (flat_item_of t h.origin) (origin_item k h.origin h.there))

  -- ---- bodies

  body_can : (primes : Primes) (k : ℕ) (r : Role) (b : FlatTree) → IsRole t r b → tree_width b ≤ w → AreFormulasIn primes (body_part c k r b)
  body_can primes k (Body j) b h l =
      all_if (IsFormulaIn primes) (j == k) (equal_term (var (c.place k) false) ((translation c b).term 0) ∷ [])
      (λ e. (
        equal_stands es vs primes [] (sort_of w h.0) (var (c.place k) false) ((translation c b).term 0)
            (item_can primes k false h.0 (never_primed primes) (subst (λ n. HasItem t n h.0) (eqb-true j k e) h.1))
            ((sound_can primes in_body b h.0 (never_primed primes) h.2 l).value refl [] tt),
        tt,
      ))
  body_can primes k (Assign when j) b h l = tt
  body_can primes k Init b h l = tt
  body_can primes k Trans b h l = tt
  body_can primes k Invar b h l = tt
  body_can primes k Invariant b h l = tt

  -- a formula's role, and that the width is enough for it
  abbrev pub IsReady : Form → Type 0
  IsReady f = IsRole t f.role f.body × (tree_width f.body ≤ w)

  bodies_can : (primes : Primes) (k : ℕ) (fs : List Form) → AllByRecursion IsReady fs → AreFormulasIn primes (body_parts c k fs)
  bodies_can primes k fs h = all_flat (IsFormulaIn primes) (λ (f : Form). body_part c k f.role f.body) fs (all_map IsReady (λ (f : Form). AreFormulasIn primes (body_part c k f.role f.body)) (λ f r. body_can primes k f.role f.body r.0 r.1) fs h)

  -- ---- the values of a variable's type

  interval_can : (primes : Primes) (x : Tree) (u : ExprType) → IsWellScoped (place_in_script (flat_of t) w primes) [] x (sort_of w u) → AreFormulasIn primes (interval_parts w x u)
  interval_can primes x (integer_type low high) h = (between_stands es vs primes [] w low high x some most h, tt)
  interval_can primes x truth_type h = tt
  interval_can primes x symbol_type h = tt
  interval_can primes x (word_type n) h = tt

  -- each symbol among the members is one of the model's
  abbrev ArePlaced : List Member → Type 0
  ArePlaced ms = (s : List ℕ) → In (OfMember.Symbol s) ms → (i : ℕ) × (place_of (symbols_of t) s ≡ Some i)

  member_can : (primes : Primes) (x : Tree) (s : Sort) (m : Member) → ((y : List ℕ) → m ≡ OfMember.Symbol y → (i : ℕ) × (place_of (symbols_of t) y ≡ Some i)) → sort_of w (member_type m) ≡ s → IsWellScoped (place_in_script (flat_of t) w primes) [] x s
      → IsFormulaIn primes (member_term w (symbols_of t) x m)
  member_can primes x s (OfMember.Symbol y) p e h =
      let i = p y refl in
      equal_stands es vs primes [] (sort.Choice 0) x (constant (symbol_datum (symbols_of t) y)) (subst (IsWellScoped (place_in_script (flat_of t) w primes) [] x) (sym e) h)
      (subst (λ (o : Option ℕ). IsWellScoped (place_in_script (flat_of t) w primes) [] (constant (datum.Constant 0 (number_or_zero o))) (sort.Choice 0)) (sym i.1)
      (symbol_can t w some most fresh primes [] tt i.0 (place_below (symbols_of t) y i.0 i.1)))
  member_can primes x s (OfMember.Integer z) p e h =
      equal_stands es vs primes [] (sort.Bits w) x (integer_term w z) (subst (IsWellScoped (place_in_script (flat_of t) w primes) [] x) (sym e) h) (integer_stands es vs primes [] w z some most)

  members_can : (primes : Primes) (x : Tree) (s : Sort) (ms : List Member) → ArePlaced ms → AllByRecursion (λ u. sort_of w u ≡ s) (map member_type ms) → IsWellScoped (place_in_script (flat_of t) w primes) [] x s
      → AreWellScoped (place_in_script (flat_of t) w primes) [] (trees_of (map (member_term w (symbols_of t) x) ms)) (copies sort.Truth (trees_of (map (member_term w (symbols_of t) x) ms)))
  members_can primes x s [] p e h = tt
  members_can primes x s (m ∷ ms) p e h = (member_can primes x s m (λ y g. p y (inl (sym g))) e.0 h, members_can primes x s ms (λ y g. p y (inr g)) e.1 h)

  members_type : (ms : List Member) (u : ExprType) → variable_type (members ms) ≡ Some u → (are_same (map member_type ms) ≡ true) × (hull_of (map member_type ms) ≡ u)
  members_type ms u h =
      let n = node_typed _ (Some (hull_of (map member_type ms))) u h in
      let a = both_true _ true n.0 in
      let b = both_true _ true a.0 in
      ((both_true (are_same (map member_type ms)) (in_limit (hull_of (map member_type ms))) b.0).0, some_same (hull_of (map member_type ms)) u n.1)

  domain_can : (primes : Primes) (x : Tree) (d : PlainDomain) (u : ExprType) → variable_type d ≡ Some u → ((ms : List Member) → d ≡ members ms → ArePlaced ms) → IsWellScoped (place_in_script (flat_of t) w primes) [] x (sort_of w u)
      → AreFormulasIn primes (domain_parts w (symbols_of t) x u (domain_members d))
  domain_can primes x boolean u e p h = interval_can primes x u h
  domain_can primes x (members []) u e p h = interval_can primes x u h
  domain_can primes x (members (m ∷ ms)) u e p h =
      let s = members_type (m ∷ ms) u e in
      let sorts : AllByRecursion (λ v. sort_of w v ≡ sort_of w u) (map member_type (m ∷ ms)) = subst (λ z. AllByRecursion (λ v. sort_of w v ≡ sort_of w z) (map member_type (m ∷ ms))) s.1 (hull_of_sorts w (map member_type (m ∷ ms)) s.0) in
      (any_stands es vs primes [] (truth_can t w some most fresh primes false [] tt) (trees_of (map (member_term w (symbols_of t) x) (m ∷ ms))) (members_can primes x (sort_of w u) (m ∷ ms) (p (m ∷ ms) refl) sorts h), tt)
  domain_can primes x (between low high) u e p h = interval_can primes x u h
  domain_can primes x (bits n) u e p h = interval_can primes x u h
  domain_can primes x (instance m xs) u e p h = interval_can primes x u h

  -- ---- parts of items

  module _ (forms : AllByRecursion IsReady (flat_of t).forms) where
    variable_can : (primes : Primes) (k : ℕ) (m : Origin) (kind : VarKind) (d : PlainDomain) → m.content ≡ variable kind d → In m (origins_of t) → IsTyped t (variable kind d) → slice_get (origins_of t) k ≡ Some m
        → AreFormulasIn primes (domain_parts w (symbols_of t) (var (c.place k) false) (type_or_truth (variable_type d)) (domain_members d))
    variable_can primes k m kind d e g u h =
        subst (λ (o : Option ExprType). AreFormulasIn primes (domain_parts w (symbols_of t) (var (c.place k) false) (type_or_truth o) (domain_members d))) (sym u.1)
        (domain_can primes (var (c.place k) false) d u.0 u.1 (λ ms f s i. symbol_placed t s (instances_symbol s ms i 0 t m kind g (e ∙ ap (variable kind) f)))
        (item_can primes k false u.0 (never_primed primes) (record { origin = m; there = h; typed = ap (content_type t) e ∙ u.1 })))

    content_can : (k : ℕ) (m : Origin) → In m (origins_of t) → slice_get (origins_of t) k ≡ Some m → (x : Content) → m.content ≡ x → IsTyped t x
        → AreFormulasIn Refused (invar_item (flat_of t) c k (record { name = (flat_item_of t m).name; instance = m.instance; kind = kind_of x; type = type_or_truth (content_type t x); members = content_members x }) (kind_of x))
    content_can k m g h (variable OfVarKind.State d) e u = variable_can Refused k m OfVarKind.State d e g u h
    content_can k m g h (variable OfVarKind.Frozen d) e u = variable_can Refused k m OfVarKind.Frozen d e g u h
    content_can k m g h (variable OfVarKind.Input d) e u = variable_can Refused k m OfVarKind.Input d e g u h
    content_can k m g h (definition j b) e u = bodies_can Refused k (flat_of t).forms forms
    content_can k m g h (actual j b) e u = bodies_can Refused k (flat_of t).forms forms

    frozen_can : (k : ℕ) (m : Origin) → slice_get (origins_of t) k ≡ Some m → (kind : ItemKind) → AreFormulasIn Allowed (trans_item c k kind)
    frozen_can k m h Frozen =
        let x = item_stands t w some most fresh Allowed [] tt k true tt (flat_item_of t m) (origin_item k m h) in
        let y = item_stands t w some most fresh Allowed [] tt k false tt (flat_item_of t m) (origin_item k m h) in
        (equal_stands es vs Allowed [] (sort_of w (flat_item_of t m).type) (var (c.place k) true) (var (c.place k) false) x y, tt)
    frozen_can k m h State = tt
    frozen_can k m h Input = tt
    frozen_can k m h Define = tt
    frozen_can k m h Actual = tt

    item_formulas : (when : When) (k : ℕ) (m : Origin) → In m (origins_of t) → slice_get (origins_of t) k ≡ Some m → IsTyped t m.content → AreFormulasIn (primes_of when) (item_parts (flat_of t) c when k (flat_item_of t m))
    item_formulas First k m g h u = tt
    item_formulas Always k m g h u = content_can k m g h m.content refl u
    item_formulas Following k m g h u = frozen_can k m h (kind_of m.content)

    -- ---- parts of formulas

    one_can : (primes : Primes) (at : Position) (b : FlatTree) → at.sets ≡ false → IsAllowedPrime primes at.nexts → IsOfSound t at b truth_type → tree_width b ≤ w → IsFormulaIn primes ((translation c b).term 0)
    one_can primes at b s n h l = (sound_can primes at b truth_type n h l).value s [] tt

    role_formulas : (when : When) (r : Role) (b : FlatTree) → IsRole t r b → tree_width b ≤ w → AreFormulasIn (primes_of when) (form_parts c when r b)
    role_formulas when (Assign v k) b h l =
        all_if (IsFormulaIn (primes_of when)) (when_same v when) ((translation c b).member 0 (var (c.place k) (is_following when)) ∷ [])
        (λ e. (
          (sound_can (primes_of when) (in_assignment v) b h.1 (body_primes v when e) h.4 l).member [] tt (var (c.place k) (is_following when))
              (subst (IsWellScoped (place_in_script (flat_of t) w (primes_of when)) [] (var (c.place k) (is_following when))) (sym (same_sort_of w h.0 h.1 h.3))
              (item_can (primes_of when) k (is_following when) h.0 (target_primes when) h.2)),
          tt,
        ))
    role_formulas First Init b h l = (one_can Refused in_state b refl refl h l, tt)
    role_formulas Following Trans b h l = (one_can Allowed in_step b refl tt h l, tt)
    role_formulas Always Invar b h l = (one_can Refused in_state b refl refl h l, tt)
    role_formulas First (Body k) b h l = tt
    role_formulas First Trans b h l = tt
    role_formulas First Invar b h l = tt
    role_formulas First Invariant b h l = tt
    role_formulas Following (Body k) b h l = tt
    role_formulas Following Init b h l = tt
    role_formulas Following Invar b h l = tt
    role_formulas Following Invariant b h l = tt
    role_formulas Always (Body k) b h l = tt
    role_formulas Always Init b h l = tt
    role_formulas Always Trans b h l = tt
    role_formulas Always Invariant b h l = tt

    -- ---- all parts

    numbered_formulas : (when : When) (i k : ℕ) (ms : List Origin) → ((m : Origin) → In m ms → In m (origins_of t)) → ((n : ℕ) (m : Origin) → slice_get ms n ≡ Some m → slice_get (origins_of t) (k + n) ≡ Some m) → AreTyped t ms
        → AreFormulasIn (primes_of when) (numbered_parts (flat_of t) c when i k (map (flat_item_of t) ms))
    numbered_formulas when i k [] g s h = tt
    numbered_formulas when i k (m ∷ ms) g s h =
        all_joined (IsFormulaIn (primes_of when)) (if m.instance == i then item_parts (flat_of t) c when k (flat_item_of t m) else []) (numbered_parts (flat_of t) c when i (k + 1) (map (flat_item_of t) ms))
        (all_if (IsFormulaIn (primes_of when)) (m.instance == i) (item_parts (flat_of t) c when k (flat_item_of t m))
        (λ e. item_formulas when k m (g m (inl refl)) (subst (λ j. slice_get (origins_of t) j ≡ Some m) (let z : k + 0 ≡ k = omega arith in z) (s 0 m refl)) h.0))
        (numbered_formulas when i (k + 1) ms (λ x y. g x (inr y)) (λ n x e. subst (λ j. slice_get (origins_of t) j ≡ Some x) (let z : k + suc n ≡ (k + 1) + n = omega arith in z) (s (suc n) x e)) h.1)

    module _ (items : AreTyped t (origins_of t)) where
      instance_formulas : (when : When) (i : ℕ) → AreFormulasIn (primes_of when) (instance_parts (flat_of t) c when i)
      instance_formulas when i =
          all_joined (IsFormulaIn (primes_of when)) (numbered_parts (flat_of t) c when i 0 (flat_of t).items) (flat_map (λ (f : Form). if f.instance == i then form_parts c when f.role f.body else []) (flat_of t).forms)
          (numbered_formulas when i 0 (origins_of t) (λ m g. g) (λ n m e. subst (λ j. slice_get (origins_of t) j ≡ Some m) (let z : n ≡ 0 + n = omega arith in z) e) items)
          (all_flat (IsFormulaIn (primes_of when)) (λ (f : Form). if f.instance == i then form_parts c when f.role f.body else []) (flat_of t).forms
          (all_map IsReady (λ (f : Form). AreFormulasIn (primes_of when) (if f.instance == i then form_parts c when f.role f.body else []))
          (λ f r. all_if (IsFormulaIn (primes_of when)) (f.instance == i) (form_parts c when f.role f.body) (λ e. role_formulas when f.role f.body r.0 r.1)) (flat_of t).forms forms))

      parts_formulas : (when : When) (n : ℕ) → AreFormulasIn (primes_of when) (parts_upto (flat_of t) c when n)
      parts_formulas when zero = tt
      parts_formulas when (suc n) = all_joined (IsFormulaIn (primes_of when)) (parts_upto (flat_of t) c when n) (instance_parts (flat_of t) c when n) (parts_formulas when n) (instance_formulas when n)

      each_stands : (primes : Primes) (xs : List Tree) → AreFormulasIn primes xs → AreWellScoped (place_in_script (flat_of t) w primes) [] (trees_of xs) (copies sort.Truth (trees_of xs))
      each_stands primes [] h = tt
      each_stands primes (x ∷ xs) h = (h.0, each_stands primes xs h.1)

      all_stands : (primes : Primes) (xs : List Tree) → AreFormulasIn primes xs → IsFormulaIn primes (all_term xs)
      all_stands primes [] h = truth_can t w some most fresh primes true [] tt
      all_stands primes (x ∷ []) h = h.0
      all_stands primes (x ∷ y ∷ xs) h = and_stands es vs primes [] x (trees_of (y ∷ xs)) (each_stands primes (x ∷ y ∷ xs) h)

      pub formula_stands : (when : When) → IsFormulaIn (primes_of when) (formula_of (flat_of t) c when)
      formula_stands when = all_stands (primes_of when) (parts_upto (flat_of t) c when (max (above_items (flat_of t).items) (above_forms (flat_of t).forms))) (parts_formulas when (max (above_items (flat_of t).items) (above_forms (flat_of t).forms)))

    -- ---- reachable formulas

    abbrev AreStates : List FlatTree → Type 0
    AreStates bs = AllByRecursion (λ b. IsOfSound t in_state b truth_type × (tree_width b ≤ w)) bs

    invariants_sound : (fs : List Form) → AllByRecursion IsReady fs → AreStates (forms_invariants fs)
    invariants_sound [] h = tt
    invariants_sound (f ∷ fs) h = all_joined (λ b. IsOfSound t in_state b truth_type × (tree_width b ≤ w)) (role_invariant f.role f.body) (forms_invariants fs) (by f.role f.body h.0) (invariants_sound fs h.1)
      where
        by : (r : Role) (b : FlatTree) → IsRole t r b × (tree_width b ≤ w) → AreStates (role_invariant r b)
        by (Body k) b h = tt
        by (Assign when k) b h = tt
        by Init b h = tt
        by Trans b h = tt
        by Invar b h = tt
        by Invariant b h = (h, tt)

    reachables_stand : (j : ℕ) (bs : List FlatTree) → AreStates bs → AllByRecursion (λ (f : PlainFormula). IsFormulaIn Refused f.term) (reachables_from c j bs)
    reachables_stand j [] h = tt
    reachables_stand j (b ∷ bs) h = (not_stands es vs Refused [] ((translation c b).term 0) (one_can Refused in_state b refl refl h.0.0 h.0.1), reachables_stand (j + 1) bs h.1)

    pub reachables_formulas : AllByRecursion (λ (f : PlainFormula). IsFormulaIn Refused f.term) (reachables_from c 0 (forms_invariants (flat_of t).forms))
    reachables_formulas = reachables_stand 0 (forms_invariants (flat_of t).forms) (invariants_sound (flat_of t).forms forms)

-- the width is enough for each formula
pub forms_low : (w : ℕ) (fs : List Form) → forms_width fs ≤ w → AllByRecursion (λ (f : Form). tree_width f.body ≤ w) fs
forms_low w [] h = tt
forms_low w (f ∷ fs) h = (omega (arith, h), forms_low w fs (omega (arith, h)))

pub both_all : {X : Type 0} (P Q : X → Type 0) (xs : List X) → AllByRecursion P xs → AllByRecursion Q xs → AllByRecursion (λ x. P x × Q x) xs
both_all P Q [] h k = tt
both_all P Q (x ∷ xs) h k = ((h.0, k.0), both_all P Q xs h.1 k.1)
