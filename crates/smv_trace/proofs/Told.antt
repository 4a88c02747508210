-- Names and symbols of an accepted model are words, and its names differ.
use Rattle.std.proofs.Common.{◌≡◌, ℕ, Bool, true, ◌&&◌, not, List, [], ◌∷◌, map, Result, Ok, Err, refl, sym, ap, ◌∙◌, subst, arith}
use Rattle.std.specs.Prelude.{IfOk}
use Rattle.std.specs.List.{list_all, AllByRecursion}
use Rattle.std.proofs.Math.Bool.{Bool-set}
use Rattle.std.proofs.Math.Logic.{∥∥₁_elim}
use Rattle.std.proofs.lemmas.Bool.{and_parts, and_from}
use Rattle.std.proofs.lemmas.Bool.Decides.{nat_tests}
use Rattle.std.proofs.lemmas.Simd.{map-map}
use Rattle.name_maps.specs.Names.{are_fresh}
use Rattle.text_core.specs.declared.place.Place.{Place}
use Rattle.smv_text.specs.Bytes.{is_letter, is_blank}
use Rattle.smv_text.specs.declared.token.Token.{Token}
use Rattle.smv_text.specs.Tree.{PlainSource}
use Rattle.smv_text.specs.Lexing.{Lexes}
use Rattle.smv_text.specs.Sources.{SpellsSource}
use Rattle.smv_meaning.specs.declared.value.Run.{Run}
use Rattle.smv_meaning.specs.Instances.{Instance, instances_of}
use Rattle.smv_meaning.specs.Phases.{IsAccepted}
use Rattle.smv_items.specs.FlatItemView.{item_plain}
use Rattle.smv_items.specs.FlatItems.{origins_of, symbols_of, flat_item_of, PlainFlatItem}
use Rattle.smv_flat.specs.FlatForms.{flat_smv}
use Rattle.smv_flatten.specs.FlatModel.{FlatModel, IsOfModel}
use Rattle.smv_accepted.specs.Names.{is_name_byte, is_dotted_byte, IsIdentifier, IsDottedName}
use Rattle.smv_accepted.specs.NameLaws.{item_names}
use Rattle.smv_accepted.proofs.ItemNames.{names_differ_law, names_are_words_law, symbols_are_words_law}
use Rattle.smv_trace_text.specs.Texts.{trace_text}
use Rattle.smv_numbered.specs.Stated.{Declarations}
use Rattle.smv_trace.specs.ReadBack.{ReadsBack, declared_by, PrintedReadsBack}
use Rattle.smv_trace.specs.Answer.{declarations_of}
use Rattle.smv_trace.proofs.Solid.{is_solid, is_named, all_weaker}
use Rattle.smv_trace.proofs.PrintedSteps.{IsTold}
use Rattle.smv_trace.proofs.ReadBack.{reads_back}

dotted_solid : (b : ℕ) → is_dotted_byte b ≡ true → not (is_blank b) ≡ true
dotted_solid b h = grind (arith, nat_tests)

name_solid : (b : ℕ) → is_name_byte b ≡ true → not (is_blank b) ≡ true
name_solid b h = grind (arith, nat_tests)

dotted_named : (x : List ℕ) → IsDottedName x → is_named x ≡ true
dotted_named [] h = absurd h
dotted_named (b ∷ bs) h = and_from (is_letter b) (is_solid bs) h.0 (all_weaker is_dotted_byte (λ b. not (is_blank b)) dotted_solid bs h.1)

identifier_named : (x : List ℕ) → IsIdentifier x → is_named x ≡ true
identifier_named [] h = absurd h
identifier_named (b ∷ bs) h = and_from (is_letter b) (is_solid bs) h.0 (all_weaker is_name_byte (λ b. not (is_blank b)) name_solid bs h.1)

all_tested : (P : List ℕ → Type 0) (p : List ℕ → Bool) → ((x : List ℕ) → P x → p x ≡ true) → (xs : List (List ℕ)) → AllByRecursion P xs → list_all p xs ≡ true
all_tested P p f [] h = refl
all_tested P p f (x ∷ xs) h = and_from (p x) (list_all p xs) (f x h.0) (all_tested P p f xs h.1)

names_same : (t : List Instance) → map (λ (m : PlainFlatItem). m.name) (map (flat_item_of t) (origins_of t)) ≡ item_names t
names_same t = map-map (λ (m : PlainFlatItem). m.name) (flat_item_of t) (origins_of t)

told : (source : PlainSource) (end : Place) (text : List ℕ) (xs : List Token) → Lexes text xs → SpellsSource source end xs → (needed : ℕ) → IsAccepted source needed → IsTold (declared_by (flat_smv source))
told source end text xs l s needed h =
    let t = instances_of source in
    let e = names_same t in
    record {
      fresh = ap (are_fresh []) e ∙ names_differ_law source end text xs l s needed h;
      names = ap (list_all is_named) e ∙ all_tested IsDottedName is_named dotted_named (item_names t) (names_are_words_law source end text xs l s);
      symbols = all_tested IsIdentifier is_named identifier_named (symbols_of t) (symbols_are_words_law source end text xs l s);
    }

pub printed_reads_back_law : PrintedReadsBack
printed_reads_back_law source end text xs l s needed h j run = reads_back (declared_by (flat_smv source)) (told source end text xs l s needed h) j run

-- ---- the code's flat form

names_in : Declarations → List (List ℕ)
names_in d = map (λ (m : PlainFlatItem). m.name) d.items

-- the same as a test
tells : Declarations → Bool
tells d = are_fresh [] (names_in d) && (list_all is_named (names_in d) && list_all is_named d.symbols)

tests_told : (d : Declarations) → IsTold d → tells d ≡ true
unfolding tells names_in
tests_told d k = and_from (are_fresh [] (names_in d)) _ k.fresh (and_from (list_all is_named (names_in d)) _ k.names k.symbols)

told_tests : (d : Declarations) → tells d ≡ true → IsTold d
unfolding tells names_in
told_tests d h =
    let t = and_parts (are_fresh [] (names_in d)) (list_all is_named (names_in d) && list_all is_named d.symbols) h in
    let u = and_parts (list_all is_named (names_in d)) (list_all is_named d.symbols) t.1 in
    record { fresh = t.0; names = u.0; symbols = u.1 }

model_told : (f : FlatModel) → IsOfModel f → tells (declarations_of f) ≡ true
model_told f m =
    ap (λ p. tells (declared_by p)) m.form ∙ tests_told (declared_by (flat_smv m.source)) (told m.source m.read.end m.read.text m.read.tokens m.read.lexed m.read.spelled m.needed m.accepted)

model_reads_back : (f : FlatModel) → ∥ IsOfModel f ∥₁ → (j : ℕ) (run : Run) → ReadsBack (declarations_of f) run (trace_text (declarations_of f).items j run.states run.labels)
model_reads_back f m j run = reads_back (declarations_of f) (told_tests (declarations_of f) (∥∥₁_elim m (Bool-set (tells (declarations_of f)) true) (model_told f))) j run

pub printed_again : {E : Type 0} (f : FlatModel) → ∥ IsOfModel f ∥₁ → (j : ℕ) (run : Run) (r : Result (List ℕ) E) → IfOk r (λ text. text ≡ trace_text (declarations_of f).items j run.states run.labels)
    → IfOk r (ReadsBack (declarations_of f) run)
printed_again f m j run (Ok text) h = subst (λ (text : List ℕ). ReadsBack (declarations_of f) run text) (sym h) (model_reads_back f m j run)
printed_again f m j run (Err e) h = tt

-- the names of a model's items differ
pub names_fresh : (f : FlatModel) → ∥ IsOfModel f ∥₁ → are_fresh [] (map (λ (m : PlainFlatItem). m.name) (map item_plain f.items)) ≡ true
names_fresh f m = (told_tests (declarations_of f) (∥∥₁_elim m (Bool-set (tells (declarations_of f)) true) (model_told f))).fresh
