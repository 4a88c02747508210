-- The law of values in the rows of a model's states, and the codes both ways.
use Rattle.std.proofs.Common.{◌≡◌, ℕ, ◌-◌, ◌%◌, ◌^◌, ◌<◌, Bool, true, false, nat_lt, if◌then◌else◌, pos, ◌-ℤ◌, List, [], length, get_or, refl, sym, ap, ◌∙◌, subst, arith}
use Rattle.std.proofs.lemmas.Int.{ints}
use Rattle.std.proofs.lemmas.List.{length-map}
use Rattle.std.proofs.lemmas.List.Quantifiers.{position-Some}
use Rattle.std.proofs.lemmas.Option.{slice_get-get_or}
use Rattle.std.proofs.lemmas.Slice.Eq.{bytes_eq-Decides}
use Rattle.std.proofs.Math.Nat.{mod-eq_of_lt}
use Rattle.std.specs.Str.{bytes_eq}
use Rattle.word_core.specs.Table.{signed_value}
use Rattle.smv_text.specs.declared.tree.Path.{Path}
use Rattle.smv_meaning.specs.declared.value.Value.TheVariants.{Truth, Integer, Symbol, Bits}
use Rattle.smv_meaning.specs.Values.{Valuation}
use Rattle.smv_meaning.specs.Operators.{word}
use Rattle.smv_meaning.specs.Instances.{Instance}
use Rattle.smv_meaning.specs.Names.{found_in}
use Rattle.smv_meaning.specs.Types.{truth_type, integer_type, symbol_type, word_type}
use Rattle.smv_meaning.specs.Settled.{Acyclic, types_in, values_in}
use Rattle.smv_laws.proofs.TypeLaws.{NamesLie}
use Rattle.smv_laws.proofs.ValueLaws.{paths_lie_law}
use Rattle.smv_items.specs.FlatItems.{Leaf, of_item, of_symbol, of_nothing, origins_of, symbols_of, leaf_in}
use Rattle.smv_flat.specs.FlatForms.{flat_in, flat_of}
use Rattle.smv_flat.specs.FlatTruth.{Row, symbol_or_none, symbol_value}
use Rattle.smv_flat_laws.proofs.FlatSame.{leaf_value}
use Rattle.smv_flat_laws.proofs.FlatRows.{row_values}
use Rattle.smv_flat_laws.proofs.FlatTruths.{flat_value}
use Rattle.moxi_terms.specs.declared.data.Datum.TheVariants as datum
use Rattle.moxi_terms.specs.Value.{Values}
use Rattle.smv_script.specs.Codes.{integer_bits, number_or_zero, datum_of}
use Rattle.smv_script.specs.Terms.{Coding, translation}
use Rattle.smv_script_laws.specs.Meanings.{Says}
use Rattle.smv_script_laws.specs.TermLaws.{HasRow, TermsHaveValues, ValuesRoundTrip, DataRoundTrip}
use Rattle.smv_script_laws.proofs.Integers.{same_code, signed_back}
use Rattle.smv_script_laws.proofs.Parts.{LeafIsRepresented}
use Rattle.smv_script_laws.proofs.Translations.{says}
use Rattle.smv_script_laws.proofs.Models.{IsPlaced, leaf_placed}

-- ---- what paths become

-- ---- the law of values

items_are : (t : List Instance) → length (flat_of t).items ≡ length (origins_of t)
items_are t = search length-map

leaf_stands : (t : List Instance) (c : Coding) (state label : Valuation) (row : Row) (env : Values) → HasRow t c state label row env → (l : Leaf) → IsPlaced t l
    → LeafIsRepresented c.width (symbols_of t) c.place env l (leaf_value (symbol_value (symbols_of t)) row l)
leaf_stands t c state label row env r (of_item k) p = let b : k < length (flat_of t).items = omega (arith, p, items_are t) in (r.coded k b, r.known k b)
leaf_stands t c state label row env r (of_symbol s) p =
    let e : symbol_value (symbols_of t) s ≡ Symbol p.0 = ap symbol_or_none p.1 in
    subst (λ v. LeafIsRepresented c.width (symbols_of t) c.place env (of_symbol s) v) (sym e) (ap (λ n. datum.Constant 0 n) (sym (ap number_or_zero p.2)), (s, p.2))
leaf_stands t c state label row env r of_nothing p = (refl, tt)

path_stands : (t : List Instance) → Acyclic t → (c : Coding) (state label : Valuation) (row : Row) (env : Values) → HasRow t c state label row env → (i : ℕ) (x : Path)
    → LeafIsRepresented c.width (symbols_of t) c.place env (leaf_in t i x) (values_in t state label i x)
path_stands t a c state label row env r i x =
    subst (λ v. LeafIsRepresented c.width (symbols_of t) c.place env (leaf_in t i x) v) (row_values t a state label row r.is_row i x)
    (leaf_stands t c state label row env r (leaf_in t i x) (leaf_placed t (found_in t i x)))

names_lie : (t : List Instance) (c : Coding) (state label : Valuation) (row : Row) (env : Values) → HasRow t c state label row env → (i : ℕ) → NamesLie (types_in true t i) (values_in t state label i)
names_lie t c state label row env r i x = paths_lie_law t true state label r.of_state (λ b. r.of_label) i x

pub terms_have_values_law : TermsHaveValues
terms_have_values_law t a c some state label following other now later calls first second p q i at e o l u h =
    subst (λ d. Says c.width (symbols_of t) calls first second u d at.sets (translation c (flat_in t i at e))) (sym (flat_value t state label following other now later (record { acyclic = a; this = p.is_row; next = q.is_row }) i at e))
    (says c (symbols_of t) some calls first second (types_in true t i) (leaf_in t i) (values_in t following other i) (names_lie t c following other later second q i) (path_stands t a c following other later second q i)
    false (values_in t state label i) (names_lie t c state label now first p i) (path_stands t a c state label now first p i) at e o l u h)

-- ---- codes

pub values_round_trip_law : ValuesRoundTrip
values_round_trip_law width symbols some truth_type (Truth b) h = refl
values_round_trip_law width symbols some truth_type v h = absurd h
values_round_trip_law width symbols some (integer_type low high) (Integer z) h = ap Integer (signed_back width z some h)
values_round_trip_law width symbols some (integer_type low high) v h = absurd h
values_round_trip_law width symbols some symbol_type (Symbol s) h =
    let p = position-Some (bytes_eq s) symbols h.0 [] h.1 in
    ap (λ n. symbol_value symbols n) (ap number_or_zero h.1) ∙ ap symbol_or_none (slice_get-get_or symbols h.0 [] p.0) ∙ ap Symbol (sym ((bytes_eq-Decides s (get_or symbols h.0 [])).0 p.1))
values_round_trip_law width symbols some symbol_type v h = absurd h
values_round_trip_law width symbols some (word_type n) (Bits w) h = refl
values_round_trip_law width symbols some (word_type n) v h = absurd h

bits_back : (w b : ℕ) → b < 2 ^ w → integer_bits w (signed_value w b) ≡ b
bits_back w b h = by (nat_lt b (2 ^ (w - 1))) ∙ mod-eq_of_lt h
  where
    by : (c : Bool) → integer_bits w (if c then pos b else pos b -ℤ pos (2 ^ w)) ≡ b % 2 ^ w
    by true = refl
    by false = same_code w (pos b -ℤ pos (2 ^ w)) (pos b) 1 0 (omega (arith, ints))

pub data_round_trip_law : DataRoundTrip
data_round_trip_law width symbols some once truth_type (datum.Truth b) h = refl
data_round_trip_law width symbols some once truth_type d h = absurd h
data_round_trip_law width symbols some once (integer_type low high) (datum.Bits w) h =
    ap (λ n. datum.Bits (word width (integer_bits width (signed_value n w.bits)))) h.0
    ∙ ap (λ n. datum.Bits (word width n)) (bits_back width w.bits (subst (λ n. w.bits < 2 ^ n) h.0 h.1.2)) ∙ ap (λ n. datum.Bits (word n w.bits)) (sym h.0)
data_round_trip_law width symbols some once (integer_type low high) d h = absurd h
data_round_trip_law width symbols some once symbol_type (datum.Constant n i) h =
    let y = get_or symbols i [] in
    let e = slice_get-get_or symbols i [] h.1 in
    ap (λ v. datum_of width symbols v) (ap symbol_or_none e) ∙ ap (λ k. datum.Constant 0 (number_or_zero k)) (once i y e) ∙ ap (λ k. datum.Constant k i) (sym h.0)
data_round_trip_law width symbols some once symbol_type d h = absurd h
data_round_trip_law width symbols some once (word_type n) (datum.Bits w) h = refl
data_round_trip_law width symbols some once (word_type n) d h = absurd h
