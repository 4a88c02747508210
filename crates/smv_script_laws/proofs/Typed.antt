-- What it says that a node has a type, with the types of its parts.
use Rattle.std.proofs.Common.{◌≡◌, ℕ, ◌+◌, ◌-◌, ◌<◌, ◌≤◌, ◌^◌, nat_lt, nat_le, Bool, true, false, ◌&&◌, if◌then◌else◌, List, [], ◌∷◌, Option, Some, None, option_map, refl, subst}
use Rattle.std.proofs.lemmas.Bool.{ltb-true, leb-true}
use Rattle.std.specs.List.{list_all}
use Rattle.text_core.specs.declared.place.Place.{Place}
use Rattle.word_core.specs.Words.{BitVector, IsWord}
use Rattle.word_core.specs.declared.word.TheConstants.{WIDEST}
use Rattle.smv_text.specs.declared.tree.Path.{Path}
use Rattle.smv_text.specs.declared.operators.Prefix.{Prefix}
use Rattle.smv_text.specs.declared.operators.Infix.{Infix}
use Rattle.smv_text.specs.declared.operators.Infix.TheVariants.{Member}
use Rattle.smv_text.specs.Tree.{Tree as Expression, Links}
use Rattle.smv_meaning.specs.declared.value.Value.{Value}
use Rattle.smv_meaning.specs.declared.value.Value.TheVariants.{Bits}
use Rattle.smv_meaning.specs.Operators.{is_width}
use Rattle.smv_meaning.specs.Expressions.{denote}
use Rattle.smv_meaning.specs.Types.{ExprType, truth_type, integer_type, symbol_type, word_type, is_truth_type, is_word_type, type_width, in_limit, hull_of, prefix_fits, prefix_type, is_select, are_same}
use Rattle.smv_meaning.specs.Checks.{check, passes, Position, single, Named, on_type, branches_fit, branches_type, across, are_unions, behind, is_literal, literal_type, typing}
use Rattle.smv_meaning.specs.Typed.{LiesIn, Lies}
use Rattle.smv_meaning.specs.laws.Booleans.{both_true}
use Rattle.smv_laws.proofs.OperatorLaws.{width_of}
use Rattle.smv_laws.proofs.TypeLaws.{NamesLie, fine, two_tests}
use Rattle.moxi_terms.specs.declared.data.Primes.{Primes}
use Rattle.moxi_terms.specs.declared.data.Primes.TheVariants.{Allowed, Refused}
use Rattle.moxi_term_print.specs.WellScoped.{IsAllowedPrime}
use Rattle.smv_script_laws.proofs.Typings.{node_typed, some_same}
use Rattle.smv_script_laws.proofs.SortedRows.{TypeFits}

pub prefix_whole : (p : Place) (sign : Prefix) (n : ℕ) (o : Option ExprType) (t : ExprType)
    → (if passes (check 16 p (on_type o (prefix_fits sign)) ∷ check 17 p (on_type o (λ u. in_limit (prefix_type sign n u))) ∷ []) then option_map (prefix_type sign n) o else None) ≡ Some t
    → (u : ExprType) × (o ≡ Some u) × (prefix_fits sign u ≡ true) × (prefix_type sign n u ≡ t)
prefix_whole p sign n None t h = let e = (node_typed true None t h).1 in cc
prefix_whole p sign n (Some u) t h =
    let b = node_typed (passes (check 16 p (prefix_fits sign u) ∷ check 17 p (in_limit (prefix_type sign n u)) ∷ [])) (Some (prefix_type sign n u)) t h in
    (u, refl, (two_tests (prefix_fits sign u) (in_limit (prefix_type sign n u)) b.0).0, some_same (prefix_type sign n u) t b.1)

pub select_whole : (p : Place) (high low : ℕ) (o : Option ExprType) (t : ExprType)
    → (if passes (check 16 p (on_type o is_word_type) ∷ check 25 p (on_type o (λ u. is_select u high low)) ∷ []) then option_map (λ u. word_type (high - low + 1)) o else None) ≡ Some t
    → (u : ExprType) × (o ≡ Some u) × (is_word_type u ≡ true) × (is_select u high low ≡ true) × (word_type (high - low + 1) ≡ t)
select_whole p high low None t h = let e = (node_typed true None t h).1 in cc
select_whole p high low (Some u) t h =
    let n = node_typed (passes (check 16 p (is_word_type u) ∷ check 25 p (is_select u high low) ∷ [])) (Some (word_type (high - low + 1))) t h in
    let b = two_tests (is_word_type u) (is_select u high low) n.0 in
    (u, refl, b.0, b.1, some_same (word_type (high - low + 1)) t n.1)

pub branches_whole : (p : Place) (cs vs : Option (List ExprType)) (t : ExprType)
    → (if passes (check 16 p (branches_fit cs vs) ∷ []) then branches_type cs vs else None) ≡ Some t
    → (qs : List ExprType) × (us : List ExprType) × (cs ≡ Some qs) × (vs ≡ Some us) × (list_all is_truth_type qs ≡ true) × (are_same us ≡ true) × (hull_of us ≡ t)
branches_whole p None vs t h = let e = (node_typed (passes (check 16 p (branches_fit None vs) ∷ [])) None t h).1 in cc
branches_whole p (Some qs) None t h = let e = (node_typed (passes (check 16 p (branches_fit (Some qs) None) ∷ [])) None t h).1 in cc
branches_whole p (Some qs) (Some us) t h =
    let b = node_typed (passes (check 16 p (branches_fit (Some qs) (Some us)) ∷ [])) (Some (hull_of us)) t h in
    let c = both_true (list_all is_truth_type qs && are_same us) true b.0 in
    let d = both_true (list_all is_truth_type qs) (are_same us) c.0 in
    (qs, us, refl, refl, d.0, d.1, some_same (hull_of us) t b.1)

pub literal_whole : (w : BitVector) (t : ExprType) → literal_type w ≡ Some t → (word_type w.width ≡ t) × IsWord w
literal_whole w t h =
    let b = node_typed (is_literal w) (Some (word_type w.width)) t h in
    let c = both_true (is_width w.width) (nat_lt w.bits (2 ^ w.width)) b.0 in
    let d = width_of w.width c.0 in
    (some_same (word_type w.width) t b.1, (d.0, d.1, ltb-true w.bits (2 ^ w.width) c.1))

pub select_bounds : (t : ExprType) (high low : ℕ) → is_select t high low ≡ true → (high < type_width t) × (low ≤ high)
select_bounds t high low h = let b = both_true (nat_lt high (type_width t)) (nat_le low high) h in (ltb-true high (type_width t) b.0, leb-true low high b.1)

-- ---- positions

pub behind_nexts : (i : Infix) (q : Position) → (behind i q).nexts ≡ q.nexts
behind_nexts i q = by i
  where
    by : (i : Infix) → (behind i q).nexts ≡ q.nexts
    by Member = refl
    by i = refl

pub across_nexts : (ls : Links) (q : Position) → (across ls q).nexts ≡ q.nexts
across_nexts ls q = by (are_unions ls)
  where
    by : (b : Bool) → (if b then q else single q).nexts ≡ q.nexts
    by true = refl
    by false = refl

pub never_primed : (primes : Primes) → IsAllowedPrime primes false
never_primed Allowed = tt
never_primed Refused = refl

-- ---- types in which a value lies

pub lies_fits : (t : ExprType) (v : Value) → LiesIn t v → TypeFits t
lies_fits (word_type n) (Bits x) h = (subst (λ k. 1 ≤ k) h.0 h.1.0, subst (λ k. k ≤ WIDEST) h.0 h.1.1)
lies_fits (word_type n) v h = absurd h
lies_fits truth_type v h = tt
lies_fits (integer_type low high) v h = tt
lies_fits symbol_type v h = tt

pub type_fits : (names : Path → Named) (f : Path → Value) → NamesLie names f → (at : Position) → at.sets ≡ false → (e : Expression) (t : ExprType) → (typing names at e).type ≡ Some t → TypeFits t
type_fits names f hf at s e t h = lies_fits t (denote f f e).value (subst (λ o. Lies o (denote f f e).value) h ((fine names f f hf hf at e).valued s))
