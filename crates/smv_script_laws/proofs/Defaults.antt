-- In an accepted model each variable has a value of its type, so that there is a label of the declared types.
use Rattle.std.proofs.Common.{◌≡◌, ℕ, suc, ◌^◌, nat_lt, nat_le, Bool, true, false, not, ◌&&◌, ◌||◌, ◌==◌, if◌then◌else◌, ℤ, int_le, List, [], ◌∷◌, Option, Some, None, option_map, is_some, refl, sym, ap, ◌∙◌, arith}
use Rattle.std.proofs.lemmas.Bool.{eq-eqb, lt-ltb}
use Rattle.std.proofs.lemmas.Int.{ints}
use Rattle.std.proofs.lemmas.Nat.{pow_pos}
use Rattle.std.proofs.lemmas.Option.{slice_get-map}
use Rattle.std.proofs.lemmas.Slice.Eq.{bytes_eq-Decides}
use Rattle.std.specs.List.{slice_get, list_all}
use Rattle.name_maps.specs.Names.{place_of}
use Rattle.word_core.specs.declared.word.TheConstants.{WIDEST}
use Rattle.smv_text.specs.declared.tree.Member.{Member}
use Rattle.smv_text.specs.declared.tree.Member.TheVariants as OfMember
use Rattle.smv_text.specs.Tree.{PlainDomain, boolean, members, between, bits, instance}
use Rattle.smv_meaning.specs.declared.value.Value.{Value}
use Rattle.smv_meaning.specs.declared.value.Value.TheVariants.{Truth, Integer, Bits}
use Rattle.smv_meaning.specs.Values.{Valuation, no_value, value_same, member_value, is_among, is_of_type}
use Rattle.smv_meaning.specs.Operators.{word}
use Rattle.smv_meaning.specs.Instances.{Instance}
use Rattle.smv_meaning.specs.Meaning.{is_input}
use Rattle.smv_meaning.specs.Types.{ExprType, is_unmixed, has_width, domain_type, in_limit}
use Rattle.smv_meaning.specs.Checks.{on_type, variable_type}
use Rattle.smv_meaning.specs.Owed.{HasType}
use Rattle.smv_meaning.specs.Runs.{label_fits}
use Rattle.smv_meaning.specs.laws.Booleans.{both_true, two_true, absurd_bool}
use Rattle.smv_items.specs.FlatItems.{Content, variable, definition, actual, Origin, origins_of, path_of, content_type}
use Rattle.smv_accepted.specs.NameLaws.{item_names}
use Rattle.smv_accepted.proofs.Fitting.{content_fits, origin_fits, values_fit_so}
use Rattle.smv_script_laws.proofs.Models.{Model, item_typed}
use Rattle.smv_flat_laws.proofs.FlatFound.{left_true}

-- ---- a value of each declared type

abbrev pub default_value : PlainDomain → Value
default_value boolean = Truth false
default_value (members []) = no_value
default_value (members (m ∷ ms)) = member_value m
default_value (between low high) = Integer low
default_value (bits n) = Bits (word n 0)
default_value (instance m es) = no_value

if_holds : (b : Bool) (o : Option ExprType) → HasType (if b then o else None) → b ≡ true
if_holds true o h = refl
if_holds false o h = absurd_bool h

self_le : (z : ℤ) → int_le z z ≡ true
self_le z = by (int_le z z) refl
  where
    by : (b : Bool) → int_le z z ≡ b → b ≡ true
    by true e = refl
    by false e = absurd (omega (arith, ints))

member_itself : (m : Member) → value_same (member_value m) (member_value m) ≡ true
member_itself (OfMember.Symbol s) = (bytes_eq-Decides s s).1 refl
member_itself (OfMember.Integer z) = two_true (int_le z z) (int_le z z) (self_le z) (self_le z)

default_fits : (d : PlainDomain) → HasType (variable_type d) → is_of_type d (default_value d) ≡ true
default_fits boolean h = refl
default_fits (members []) h = absurd_bool h
default_fits (members (m ∷ ms)) h = left_true (value_same (member_value m) (member_value m)) (is_among ms (member_value m)) (member_itself m)
default_fits (between low high) h =
    let c = if_holds _ (domain_type (between low high)) h in
    two_true (int_le low low) (int_le low high) (self_le low) (both_true ((is_unmixed (between low high) && on_type (domain_type (between low high)) in_limit) && has_width (between low high)) (int_le low high) c).1
default_fits (bits n) h =
    let c = both_true ((is_unmixed (bits n) && on_type (domain_type (bits n)) in_limit) && has_width (bits n)) true (if_holds _ (domain_type (bits n)) h) in
    let w = both_true (is_unmixed (bits n) && on_type (domain_type (bits n)) in_limit) (has_width (bits n)) c.0 in
    two_true (nat_le 1 n) ((n == n) && nat_lt 0 (2 ^ n)) (both_true (nat_le 1 n) (nat_le n WIDEST) w.1).0
    (two_true (n == n) (nat_lt 0 (2 ^ n)) (eq-eqb n n refl) (lt-ltb 0 (2 ^ n) (pow_pos n)))
default_fits (instance m es) h = absurd_bool h

-- ---- a label

abbrev pub default_content : Content → Value
default_content (variable kind d) = default_value d
default_content (definition j e) = no_value
default_content (actual j e) = no_value

abbrev pub default_origin : Option Origin → Value
default_origin None = no_value
default_origin (Some m) = default_content m.content

abbrev pub default_at : List Instance → Option ℕ → Value
default_at t None = no_value
default_at t (Some k) = default_origin (slice_get (origins_of t) k)

abbrev pub default_label : List Instance → Valuation
default_label t x = default_at t (place_of (item_names t) x)

all_true : {X : Type 0} (p : X → Bool) (xs : List X) → ((k : ℕ) (x : X) → slice_get xs k ≡ Some x → p x ≡ true) → list_all p xs ≡ true
all_true p [] h = refl
all_true p (x ∷ xs) h = two_true (p x) (list_all p xs) (h 0 x refl) (all_true p xs (λ k y e. h (suc k) y e))

or_true : (a b : Bool) → b ≡ true → (a || b) ≡ true
or_true true b h = refl
or_true false b h = h

module _ (t : List Instance) (width : ℕ) (model : Model t width) (once : (k : ℕ) (x : List ℕ) → slice_get (item_names t) k ≡ Some x → place_of (item_names t) x ≡ Some k) where
  label_gives : (k : ℕ) (m : Origin) → slice_get (origins_of t) k ≡ Some m → default_label t (path_of t m) ≡ default_content m.content
  label_gives k m h =
      let named : slice_get (item_names t) k ≡ Some (path_of t m) = slice_get-map (path_of t) (origins_of t) k ∙ ap (option_map (path_of t)) h in
      ap (default_at t) (once k (path_of t m) named) ∙ ap default_origin h

  origin_gives : (k : ℕ) (m : Origin) → slice_get (origins_of t) k ≡ Some m → origin_fits is_input t (default_label t) m ≡ true
  origin_gives k m h = by m.content (label_gives k m h) (item_typed t width model k m h).type (item_typed t width model k m h).has
    where
      by : (c : Content) → default_label t (path_of t m) ≡ default_content c → (u : ExprType) → content_type t c ≡ Some u → content_fits is_input (default_label t) (path_of t m) c ≡ true
      by (variable kind d) e u g =
          or_true (not (is_input kind)) (is_of_type d (default_label t (path_of t m))) (ap (is_of_type d) e ∙ default_fits d (ap is_some g))
      by (definition j c) e u g = refl
      by (actual j c) e u g = refl

  pub default_label_fits : label_fits t (default_label t) ≡ true
  default_label_fits = sym (values_fit_so is_input t (default_label t)) ∙ all_true (origin_fits is_input t (default_label t)) (origins_of t) origin_gives
