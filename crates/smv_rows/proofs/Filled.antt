-- What a row that is filled body by body has in the end.
use Rattle.std.proofs.Common.{◌≡◌, ℕ, ◌⊎◌, inl, inr, Bool, true, false, not, ◌&&◌, ◌||◌, ◌==◌, if◌then◌else◌, List, [], ◌∷◌, map, Option, Some, None, option_map, refl, sym, ap, ◌∙◌, subst}
use Rattle.std.specs.List.{slice_get}
use Rattle.std.proofs.lemmas.Bool.{or_cases}
use Rattle.std.proofs.lemmas.Option.{slice_get-map}
use Rattle.digraph.specs.Graph.{is_in}
use Rattle.smv_meaning.specs.declared.value.Value.{Value}
use Rattle.smv_meaning.specs.Values.{Valuation}
use Rattle.smv_meaning.specs.Expressions.{Denotation}
use Rattle.smv_meaning.specs.laws.Booleans.{both_true}
use Rattle.smv_items.specs.declared.items.ItemKind.{ItemKind}
use Rattle.smv_items.specs.declared.items.ItemKind.TheVariants.{State, Frozen, Input, Define, Actual}
use Rattle.smv_items.specs.declared.items.FlatItem.{FlatItem}
use Rattle.smv_items.specs.FlatItemView.{item_plain}
use Rattle.smv_flat.specs.FlatTree.{FlatTree, flat_denote}
use Rattle.smv_flat.specs.declared.forms.Role.{Role}
use Rattle.smv_flat.specs.declared.forms.Role.TheVariants.{Body, Assign, Init, Trans, Invar, Invariant}
use Rattle.smv_flat.specs.FlatForms.{Form, PlainFlat}
use Rattle.smv_flat.specs.FlatTruth.{Row, symbol_value, form_denotes, GivesKind, GivesItem, MeetsRole, MeetsForms, IsRow}
use Rattle.smv_flat_laws.specs.FlatOrders.{all_read, Bodies, is_variable, body_reads, is_settled, AllOccur}
use Rattle.smv_rows.specs.Filling.{with_body, filled}
use Rattle.smv_rows.specs.RowOrders.{IsRoleBody, HaveBodies, VariablesAreFree}
use Rattle.smv_rows.proofs.Sets.{own}
use Rattle.smv_rows.proofs.Agreeing.{denote_same}
use Rattle.text_core.proofs.Truths.{not_true}
use Rattle.digraph.proofs.Lists.{same}

pub or_false : (a b : Bool) → (a || b) ≡ false → (a ≡ false) × (b ≡ false)
or_false true b h = cc
or_false false b h = (refl, h)

-- ---- what stays

with_body_out : (symbols : ℕ → Value) (row : Row) (k m : ℕ) (o : Option FlatTree) → (k == m) ≡ false → with_body symbols row k o m ≡ row m
with_body_out symbols row k m None h = refl
with_body_out symbols row k m (Some e) h = ap (λ b. if b then (flat_denote symbols row row e).value else row m) h

-- what isn't listed stays
pub filled_out : (bodies : Bodies) (symbols : ℕ → Value) (row : Row) (ks : List ℕ) (m : ℕ) → is_in ks m ≡ false → filled bodies symbols row ks m ≡ row m
filled_out bodies symbols row [] m h = refl
filled_out bodies symbols row (k ∷ ks) m h =
    let s = or_false (k == m) (is_in ks m) h in
    filled_out bodies symbols (with_body symbols row k (bodies k)) ks m s.1 ∙ with_body_out symbols row k m (bodies k) s.0

with_none : (symbols : ℕ → Value) (row : Row) (k m : ℕ) (o p : Option FlatTree) → p ≡ None → (k ≡ m → o ≡ p) → with_body symbols row k o m ≡ row m
with_none symbols row k m o p n e = by (k == m) refl
  where
    by : (b : Bool) → (k == m) ≡ b → with_body symbols row k o m ≡ row m
    by true h = ap (λ x. with_body symbols row k x m) (e (same k m h) ∙ n)
    by false h = with_body_out symbols row k m o h

-- what has no body stays
filled_free : (bodies : Bodies) (symbols : ℕ → Value) (row : Row) (ks : List ℕ) (m : ℕ) → bodies m ≡ None → filled bodies symbols row ks m ≡ row m
filled_free bodies symbols row [] m h = refl
filled_free bodies symbols row (k ∷ ks) m h =
    filled_free bodies symbols (with_body symbols row k (bodies k)) ks m h ∙ with_none symbols row k m (bodies k) (bodies m) h (λ e. ap bodies e)

-- ---- each body's value, in the end

first_value : (symbols : ℕ → Value) (row : Row) (k : ℕ) (o : Option FlatTree) (e : FlatTree) → o ≡ Some e → with_body symbols row k o k ≡ (flat_denote symbols row row e).value
first_value symbols row k o e h =
    ap (λ x. with_body symbols row k x k) h ∙ ap (λ b. if b then (flat_denote symbols row row e).value else row k) (own k)

abbrev pub HasValue : Bodies → (ℕ → Value) → Row → ℕ → FlatTree → Type 0
HasValue bodies symbols row k e = row k ≡ (flat_denote symbols row row e).value

front_value : (bodies : Bodies) (symbols : ℕ → Value) (row : Row) (k : ℕ) (ks : List ℕ) (e : FlatTree) → bodies k ≡ Some e → is_in ks k ≡ false → body_reads (λ m. not (is_in (k ∷ ks) m)) (bodies k) ≡ true
    → HasValue bodies symbols (filled bodies symbols row (k ∷ ks)) k e
front_value bodies symbols row k ks e h out reads =
    let all : all_read (λ m. not (is_in (k ∷ ks) m)) e ≡ true = subst (λ o. body_reads (λ m. not (is_in (k ∷ ks) m)) o ≡ true) h reads in
    let end = filled bodies symbols row (k ∷ ks) in
    filled_out bodies symbols (with_body symbols row k (bodies k)) ks k out
    ∙ first_value symbols row k (bodies k) e h
    ∙ ap (λ (d : Denotation). d.value) (denote_same (λ m. not (is_in (k ∷ ks) m)) symbols row end (λ m g. sym (filled_out bodies symbols row (k ∷ ks) m (not_true (is_in (k ∷ ks) m) g))) e all)

pub settled_value : (bodies : Bodies) (symbols : ℕ → Value) (row : Row) (ks : List ℕ) → is_settled bodies ks ≡ true → (k : ℕ) (e : FlatTree) → is_in ks k ≡ true → bodies k ≡ Some e
    → HasValue bodies symbols (filled bodies symbols row ks) k e
settled_value bodies symbols row [] s k e i h = cc
settled_value bodies symbols row (j ∷ ks) s k e i h =
    let a = both_true (body_reads (λ m. not (is_in (j ∷ ks) m)) (bodies j)) (not (is_in ks j) && is_settled bodies ks) s in
    let b = both_true (not (is_in ks j)) (is_settled bodies ks) a.1 in
    by a.0 (not_true (is_in ks j) b.0) (λ (g : is_in ks k ≡ true). settled_value bodies symbols (with_body symbols row j (bodies j)) ks b.1 k e g h) (or_cases (j == k) (is_in ks k) i)
  where
    by : body_reads (λ m. not (is_in (j ∷ ks) m)) (bodies j) ≡ true → is_in ks j ≡ false → (is_in ks k ≡ true → HasValue bodies symbols (filled bodies symbols row (j ∷ ks)) k e) → ((j == k) ≡ true) ⊎ (is_in ks k ≡ true)
        → HasValue bodies symbols (filled bodies symbols row (j ∷ ks)) k e
    by reads out rest (inl g) =
        let x : j ≡ k = same j k g in
        subst (λ n. HasValue bodies symbols (filled bodies symbols row (j ∷ ks)) n e) x (front_value bodies symbols row j ks e (ap bodies x ∙ h) out reads)
    by reads out rest (inr g) = rest g

-- ---- the row meets the flat form

role_meets : (flat : PlainFlat) (bodies : Bodies) (end : Row) → ((k : ℕ) (e : FlatTree) → bodies k ≡ Some e → HasValue bodies (symbol_value flat.symbols) end k e)
    → (r : Role) (e : FlatTree) → IsRoleBody bodies r e → MeetsRole end (form_denotes flat end end e).value r
role_meets flat bodies end h (Body k) e b = h k e b
role_meets flat bodies end h (Assign w k) e b = tt
role_meets flat bodies end h Init e b = tt
role_meets flat bodies end h Trans e b = tt
role_meets flat bodies end h Invar e b = tt
role_meets flat bodies end h Invariant e b = tt

forms_meet : (flat : PlainFlat) (bodies : Bodies) (end : Row) → ((k : ℕ) (e : FlatTree) → bodies k ≡ Some e → HasValue bodies (symbol_value flat.symbols) end k e)
    → (fs : List Form) → HaveBodies bodies fs → MeetsForms flat end fs
forms_meet flat bodies end h [] b = tt
forms_meet flat bodies end h (f ∷ fs) b = (role_meets flat bodies end h f.role f.body b.0, forms_meet flat bodies end h fs b.1)

kind_stays : (state label : Valuation) (x : List ℕ) (v w : Value) (kind : ItemKind) → (is_variable kind ≡ true → v ≡ w) → GivesKind state label x w kind → GivesKind state label x v kind
kind_stays state label x v w State h g = h refl ∙ g
kind_stays state label x v w Frozen h g = h refl ∙ g
kind_stays state label x v w Input h g = h refl ∙ g
kind_stays state label x v w Define h g = tt
kind_stays state label x v w Actual h g = tt

item_stays : (state label : Valuation) (v w : Value) (o : Option FlatItem) → ((m : FlatItem) → o ≡ Some m → is_variable m.kind ≡ true → v ≡ w) → GivesItem state label w (option_map item_plain o) → GivesItem state label v (option_map item_plain o)
item_stays state label v w None h g = tt
item_stays state label v w (Some m) h g = kind_stays state label m.name v w m.kind (h m refl) g

pub row_meets : (flat : PlainFlat) (items : List FlatItem) (bodies : Bodies) (order : List ℕ) (state label : Valuation) (row : Row) → flat.items ≡ map item_plain items
    → HaveBodies bodies flat.forms → VariablesAreFree bodies items → is_settled bodies order ≡ true → AllOccur bodies order
    → ((k : ℕ) → GivesItem state label (row k) (option_map item_plain (slice_get items k))) → IsRow flat state label (filled bodies (symbol_value flat.symbols) row order)
row_meets flat items bodies order state label row same have free settled whole given =
    let symbols = symbol_value flat.symbols in
    let end = filled bodies symbols row order in
    record {
      variables = λ k. subst (λ o. GivesItem state label (end k) o) (sym (ap (λ ms. slice_get ms k) same ∙ slice_get-map item_plain items k))
          (item_stays state label (end k) (row k) (slice_get items k) (λ m is v. filled_free bodies symbols row order k (free k m is v)) (given k));
      bodies = forms_meet flat bodies end (λ k e h. settled_value bodies symbols row order settled k e (whole k e h) h) flat.forms have;
    }
