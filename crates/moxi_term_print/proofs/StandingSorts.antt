-- What is printed of a sort is read as this sort.
use Rattle.std.proofs.Common.{◌≡◌, ℕ, ◌<◌, ◌≤◌, Bool, true, false, cond, is_some, [], length, Option, Some, Ok, Err, refl, sym, ap, ◌∙◌, subst, arith}
use Rattle.std.specs.Prelude.{codes, nat_le}
use Rattle.std.specs.Option.{option_map}
use Rattle.std.specs.Str.{bytes_eq}
use Rattle.std.proofs.lemmas.Bool.{and_from, le-leb}
use Rattle.std.proofs.lemmas.List.{length-map}
use Rattle.std.proofs.lemmas.Slice.Eq.{bytes_eq-Decides}
use Rattle.text_core.specs.declared.place.Place.{Place}
use Rattle.word_core.specs.declared.word.TheConstants.{WIDEST}
use Rattle.moxi_sexpr.specs.declared.form.Atom.TheVariants as atoms
use Rattle.moxi_sexpr.specs.Lexing.{refusal}
use Rattle.moxi_sexpr.specs.Tree as form
use Rattle.moxi_terms.specs.declared.data.Sort.{Sort}
use Rattle.moxi_terms.specs.declared.data.Sort.TheVariants.{Truth, Bits, Choice}
use Rattle.moxi_terms.specs.Names.{is_among, or_else, enumeration_names, sort_named, declared_sort}
use Rattle.name_maps.specs.Names.{place_of, are_fresh}
use Rattle.moxi_term_reading.specs.SortReading.{sort_reading, symbol_sort, width_sort}
use Rattle.moxi_terms.specs.Sorts.{IsSort}
use Rattle.moxi_terms.specs.View.{ScopeState}
use Rattle.moxi_term_print.specs.Shown.{Shows}
use Rattle.moxi_term_print.specs.Terms.{name_at, numeral, shown_sort}
use Rattle.moxi_term_print.specs.WellScopedReads.{IsKnownSort, HasSortNames}
use Rattle.moxi_term_print.proofs.StandingNumbers.{index_again}
use Rattle.moxi_term_print.specs.laws.StandingPlaces.{fresh_place}
use Rattle.moxi_term_print.specs.laws.StandingShapes as shape

width_read : (w : ℕ) (p q r : Place) → 1 ≤ w → w ≤ WIDEST → width_sort w p q false r false ≡ Ok (Bits w)
width_read w p q r low high =
    ap (λ b. cond b (Ok (Bits w)) (Err (refusal 8 p))) (and_from (nat_le 1 w) (nat_le w WIDEST) (le-leb 1 w low) (le-leb w WIDEST high))

pub sort_read : (s : ScopeState) (around : Place) (sort : Sort) (f : form.Tree) → IsKnownSort s sort → Shows f (shown_sort s sort) → sort_reading s around f ≡ Ok sort
sort_read s around Truth f h g = let a = shape.is_word f (codes "Bool") g in ap (sort_reading s around) a.1
sort_read s around (Bits w) f h g =
    let a = shape.is_indexed f (codes "BitVec") _ g in
    let b = shape.is_one a.3 (numeral w) a.5 in
    let u = shape.is_part b.0 _ b.2 in
    ap (sort_reading s around)
    (a.4 ∙ ap (λ ts. form.list a.0 (form.tree (form.atom a.1 (atoms.Symbol (codes "_") false)) (form.tree (form.atom a.2 (atoms.Symbol (codes "BitVec") false)) ts))) (b.1 ∙ ap (λ t. form.tree t form.no_trees) u.1))
    ∙ ap (λ n. width_sort n a.0 a.1 false a.2 false) (index_again w (let l : w ≤ WIDEST = h.1 in omega arith)) ∙ width_read w a.0 a.1 a.2 h.0 h.1
sort_read s around (Choice n) f h g =
    let name = name_at (enumeration_names s) n in
    let a = shape.is_part f (atoms.Symbol name false) g in
    ap (sort_reading s around) a.1 ∙ ap (λ o. symbol_sort o name false a.0) h

chosen_first : (o : Option ℕ) (n : ℕ) (r : Option Sort) → o ≡ Some n → or_else (option_map Choice o) r ≡ Some (Choice n)
chosen_first o n r e = ap (λ o. or_else (option_map Choice o) r) e

-- an enumeration is found by its name, where the names differ and none is `Bool`
choice_stands : (s : ScopeState) (n : ℕ) → are_fresh [] (enumeration_names s) ≡ true → is_among (enumeration_names s) (codes "Bool") ≡ false → n < length s.enumerations
    → sort_named s (name_at (enumeration_names s) n) ≡ Some (Choice n)
choice_stands s n fresh apart l =
    let names = enumeration_names s in
    let place = fresh_place names n fresh (subst (λ m. n < m) (sym (length-map s.enumerations _)) l) in
    by_test (bytes_eq (name_at names n) (codes "Bool")) refl place
  where
    by_test : (b : Bool) → bytes_eq (name_at (enumeration_names s) n) (codes "Bool") ≡ b → place_of (enumeration_names s) (name_at (enumeration_names s) n) ≡ Some n
        → cond b (Some Truth) (declared_sort s (name_at (enumeration_names s) n)) ≡ Some (Choice n)
    by_test true e place =
        let same : name_at (enumeration_names s) n ≡ codes "Bool" = (bytes_eq-Decides (name_at (enumeration_names s) n) (codes "Bool")).0 e in
        absurd (let t : true ≡ false = ap is_some (sym (sym (ap (place_of (enumeration_names s)) same) ∙ place)) ∙ apart in cc)
    by_test false e place = chosen_first (place_of (enumeration_names s) (name_at (enumeration_names s) n)) n _ place

pub sort_stands : (s : ScopeState) (sort : Sort) → HasSortNames s → IsSort s.enumerations sort → IsKnownSort s sort
sort_stands s Truth names h = tt
sort_stands s (Bits w) names h = h
sort_stands s (Choice n) names h = choice_stands s n names.fresh names.apart h
