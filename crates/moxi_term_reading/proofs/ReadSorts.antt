-- A sort that a form spells is one of the scope.
use Rattle.std.proofs.Common.{◌≡◌, ℕ, ◌<◌, Bool, true, false, cond, ◌||◌, nat_le, is_some, List, length, Option, None, Some, Result, Ok, Err, IfOk, refl, subst, arith}
use Rattle.std.specs.Prelude.{slice_get, codes, option_and_then}
use Rattle.std.specs.Option.{option_map}
use Rattle.std.specs.Str.{bytes_eq}
use Rattle.std.proofs.lemmas.Bool.{and_parts}
use Rattle.std.proofs.lemmas.Bool.Decides.{nat_tests}
use Rattle.std.proofs.lemmas.List.{length-map}
use Rattle.text_core.specs.declared.place.Place.{Place}
use Rattle.text_core.specs.declared.place.Refusal.{Refusal}
use Rattle.word_core.specs.declared.word.TheConstants.{WIDEST}
use Rattle.moxi_sexpr.specs.Lexing.{refusal}
use Rattle.moxi_sexpr.specs.Tree as form
use Rattle.moxi_terms.specs.declared.data.Sort.{Sort}
use Rattle.moxi_terms.specs.declared.data.Sort.TheVariants.{Truth, Bits, Choice}
use Rattle.moxi_terms.specs.declared.term.Enumeration.{Enumeration}
use Rattle.moxi_terms.specs.declared.term.NamedSort.{NamedSort}
use Rattle.moxi_terms.specs.View.{ScopeState}
use Rattle.moxi_terms.specs.Names.{or_else, enumeration_names, sort_names, sort_named, declared_sort}
use Rattle.name_maps.specs.Names.{place_of}
use Rattle.moxi_terms.specs.Words.{is_one_of, left_out_sorts}
use Rattle.moxi_term_reading.specs.Forms.{place_in, symbol_of, symbol_atom}
use Rattle.moxi_terms.specs.Sorts.{IsSort}
use Rattle.moxi_terms.specs.Sorted.{IsScope}
use Rattle.moxi_term_reading.specs.SortReading.{sort_reading, symbol_sort, width_sort, vector_sort, only_numeral, symbol_indexed, indexed_sort, listed_sort, atom_sort, index_of, is_width, unknown, unknown_indexed}
use Rattle.name_maps.specs.laws.Places.{place_below}
use Rattle.moxi_term_reading.specs.laws.AllLaws.{all_at}

width_is : (es : List Enumeration) (w : ℕ) (p q : Place) (first : Bool) (r : Place) (second : Bool) → IfOk (width_sort w p q first r second) (IsSort es)
width_is es w p q first r second = by_width (is_width w) refl first second
  where
    by_width : (b : Bool) → is_width w ≡ b → (first second : Bool)
        → IfOk (let x : Result Sort Refusal = cond b (cond first (Err (refusal 7 q)) (cond second (Err (refusal 7 r)) (Ok (Bits w)))) (Err (refusal 8 p)) in x) (IsSort es)
    by_width false e first second = tt
    by_width true e true second = tt
    by_width true e false true = tt
    by_width true e false false = let p = and_parts (nat_le 1 w) (nat_le w WIDEST) e in (grind (arith, nat_tests), grind (arith, nat_tests))

vector_is : (es : List Enumeration) (p q : Place) (first : Bool) (r : Place) (second : Bool) (o : Option (List ℕ)) → IfOk (vector_sort p q first r second o) (IsSort es)
vector_is es p q first r second None = tt
vector_is es p q first r second (Some digits) = width_is es (index_of digits) p q first r second

symbol_is : (s : ScopeState) (p q : Place) (first : Bool) (r : Place) (o : Option (List ℕ × Bool)) (ts : form.Trees) → IfOk (symbol_indexed s p q first r o ts) (IsSort s.enumerations)
symbol_is s p q first r None ts = tt
symbol_is s p q first r (Some x) ts = by_word (bytes_eq x.0 (codes "BitVec")) (is_some (sort_named s x.0))
  where
    by_word : (a b : Bool)
        → IfOk (cond a (vector_sort p q first r x.1 (only_numeral ts)) (cond b (Err (refusal 12 p)) (Err (unknown_indexed (is_one_of left_out_sorts x.0) p q first r)))) (IsSort s.enumerations)
    by_word true b = vector_is s.enumerations p q first r x.1 (only_numeral ts)
    by_word false true = tt
    by_word false false = tt

indexed_is : (s : ScopeState) (p q : Place) (first : Bool) (ts : form.Trees) → IfOk (indexed_sort s p q first ts) (IsSort s.enumerations)
indexed_is s p q first form.no_trees = tt
indexed_is s p q first (form.tree t ts) = symbol_is s p q first (place_in t) (symbol_of t) ts

listed_is : (s : ScopeState) (p q : Place) (o : Option (List ℕ × Bool)) (ts : form.Trees) → IfOk (listed_sort s p q o ts) (IsSort s.enumerations)
listed_is s p q None ts = tt
listed_is s p q (Some x) ts = by_word (bytes_eq x.0 (codes "_")) (bytes_eq x.0 (codes "BitVec") || is_some (sort_named s x.0))
  where
    by_word : (a b : Bool) → IfOk (cond a (indexed_sort s p q x.1 ts) (cond b (Err (refusal 12 p)) (Err (unknown (is_one_of left_out_sorts x.0) p q)))) (IsSort s.enumerations)
    by_word true b = indexed_is s p q x.1 ts
    by_word false true = tt
    by_word false false = tt

-- a name that stands for a sort stands for one of the scope
abbrev IsKnown : List Enumeration → Option Sort → Type 0
IsKnown es None = Unit {0}
IsKnown es (Some x) = IsSort es x

either_known : (es : List Enumeration) (a b : Option Sort) → IsKnown es a → IsKnown es b → IsKnown es (or_else a b)
either_known es None b h g = g
either_known es (Some x) b h g = h

enumeration_known : (s : ScopeState) (name : List ℕ) (o : Option ℕ) → place_of (enumeration_names s) name ≡ o → IsKnown s.enumerations (option_map Choice o)
enumeration_known s name None e = tt
enumeration_known s name (Some i) e =
    let h : i < length (enumeration_names s) = place_below (enumeration_names s) name i e in
    subst (λ n. i < n) (length-map s.enumerations (λ (e : Enumeration). e.name)) h

sort_known : (s : ScopeState) → IsScope s → (o : Option ℕ) → IsKnown s.enumerations (option_map (λ (n : NamedSort). n.sort) (option_and_then (slice_get s.sorts) o))
sort_known s sc None = tt
sort_known s sc (Some i) = by_place (slice_get s.sorts i) refl
  where
    by_place : (o : Option NamedSort) → slice_get s.sorts i ≡ o → IsKnown s.enumerations (option_map (λ (n : NamedSort). n.sort) o)
    by_place None e = tt
    by_place (Some x) e = all_at (λ (n : NamedSort). IsSort s.enumerations n.sort) s.sorts i x sc.sorts e

name_known : (s : ScopeState) → IsScope s → (name : List ℕ) → IsKnown s.enumerations (sort_named s name)
name_known s sc name = by_word (bytes_eq name (codes "Bool"))
  where
    by_word : (b : Bool) → IsKnown s.enumerations (cond b (Some Truth) (declared_sort s name))
    by_word true = tt
    by_word false = either_known s.enumerations _ _ (enumeration_known s name (place_of (enumeration_names s) name) refl) (sort_known s sc (place_of (sort_names s) name))

named_is : (es : List Enumeration) (o : Option Sort) (name : List ℕ) (primed : Bool) (p : Place) → IsKnown es o → IfOk (symbol_sort o name primed p) (IsSort es)
named_is es None name primed p h = tt
named_is es (Some x) name true p h = tt
named_is es (Some x) name false p h = h

atom_is : (s : ScopeState) → IsScope s → (around p : Place) (o : Option (List ℕ × Bool)) → IfOk (atom_sort s around p o) (IsSort s.enumerations)
atom_is s sc around p None = tt
atom_is s sc around p (Some x) = named_is s.enumerations (sort_named s x.0) x.0 x.1 p (name_known s sc x.0)

pub sort_is : (s : ScopeState) → IsScope s → (around : Place) (t : form.Tree) → IfOk (sort_reading s around t) (IsSort s.enumerations)
sort_is s sc around (form.atom p a) = atom_is s sc around p (symbol_atom a)
sort_is s sc around (form.list p form.no_trees) = tt
sort_is s sc around (form.list p (form.tree t ts)) = listed_is s p (place_in t) (symbol_of t) ts
