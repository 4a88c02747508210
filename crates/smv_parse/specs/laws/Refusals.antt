-- Tokens have one refusal, and none where they spell a model none of whose expressions is too high.
use Rattle.std.proofs.Common.{◌≡◌, ℕ, suc, ◌+◌, ◌-◌, ◌<◌, Option, Some, None, List, ◌++◌, take, drop, sym, ap, ◌∙◌, subst, arith}
use Rattle.std.proofs.lemmas.List.{append_assoc}
use Rattle.std.proofs.Math.Seq.{take-add}
use Rattle.text_core.specs.declared.end.End.TheVariants.{Bad}
use Rattle.text_core.specs.declared.place.Place.{Place}
use Rattle.text_core.specs.declared.place.Refusal.{Refusal}
use Rattle.smv_text.specs.declared.token.Token.{Token}
use Rattle.smv_text.specs.Lexing.{TokenList}
use Rattle.smv_text.specs.Tree.{PlainModule}
use Rattle.smv_text.specs.Heights.{first_high, of_modules}
use Rattle.smv_text.specs.Sources.{SpellsModules, IsDeadAt}
use Rattle.smv_parse.specs.Parsing.{refusal, dead_refusal, IsTooHigh, HasDead, IsRefused, too_high, dead}
use Rattle.smv_grammar.proofs.Models.{one_list}

-- no dead token is before another
none_before : (xs : List Token) (i j : ℕ) → IsDeadAt xs i → IsDeadAt xs j → i < j → ⊥
none_before xs i j a b lt =
    let up : suc i + (j - suc i) ≡ j = omega (arith, lt) in
    let front : take j xs ≡ take (suc i) xs ++ take (j - suc i) (drop (suc i) xs) = ap (λ n. take n xs) (sym up) ∙ take-add (suc i) (j - suc i) xs in
    let more = b.begins in
    a.blocked (omega (arith, lt, b.within)) more.0 (take (j - suc i) (drop (suc i) xs) ++ more.1)
    (subst (SpellsModules more.0) (ap (λ ys. ys ++ more.1) front ∙ append_assoc (take (suc i) xs) (take (j - suc i) (drop (suc i) xs)) more.1) more.2)

pub one_dead : (xs : List Token) (i j : ℕ) → IsDeadAt xs i → IsDeadAt xs j → i ≡ j
one_dead xs i j a b = omega (arith, none_before xs i j a b, none_before xs j i b a)

some_place : (p q : Place) (o : Option Place) → o ≡ Some p → o ≡ Some q → p ≡ q
some_place p q o e f = cc

none_some : (p : Place) (o : Option Place) → o ≡ None → o ≡ Some p → ⊥
none_some p o e f = cc

same_high : (xs : List Token) (ms ns : List PlainModule) → SpellsModules ms xs → SpellsModules ns xs → first_high (of_modules ms) ≡ first_high (of_modules ns)
same_high xs ms ns s t = ap (λ x. first_high (of_modules x)) (one_list xs ms ns s t)

by_both : (tokens : TokenList) (why other : Refusal) → HasDead tokens why → HasDead tokens other → why ≡ other
by_both tokens why other a b = a.is ∙ ap (λ i. dead_refusal tokens.end (drop i tokens.items)) (one_dead tokens.items a.index b.index a.dead b.dead) ∙ sym b.is

both_high : (tokens : TokenList) (why other : Refusal) → IsTooHigh tokens why → IsTooHigh tokens other → why ≡ other
both_high tokens why other a b =
    a.is ∙ ap (refusal 7) (some_place a.place b.place (first_high (of_modules b.source.modules)) (same_high tokens.items b.source.modules a.source.modules b.spelled.0 a.spelled.0 ∙ a.first) b.first) ∙ sym b.is

pub one_refusal : (tokens : TokenList) (why other : Refusal) → IsRefused tokens (Bad why) → IsRefused tokens (Bad other) → why ≡ other
one_refusal tokens why other (too_high a) (too_high b) = both_high tokens why other a b
one_refusal tokens why other (too_high a) (dead b) = absurd (b.dead.unspelled a.source.modules a.spelled.0)
one_refusal tokens why other (dead a) (too_high b) = absurd (a.dead.unspelled b.source.modules b.spelled.0)
one_refusal tokens why other (dead a) (dead b) = by_both tokens why other a b

pub refused_not_low : (tokens : TokenList) (why : Refusal) (ms : List PlainModule) → IsRefused tokens (Bad why) → SpellsModules ms tokens.items → first_high (of_modules ms) ≡ None → ⊥
refused_not_low tokens why ms (dead a) s low = a.dead.unspelled ms s
refused_not_low tokens why ms (too_high a) s low =
    none_some a.place (first_high (of_modules a.source.modules)) (same_high tokens.items a.source.modules ms a.spelled.0 s ∙ low) a.first
