-- Bytes spell one model, and none where their text or its model is refused.
use Rattle.std.proofs.Common.{◌≡◌, ◌&&◌, IsTrue, if◌then◌else◌, [], ◌∷◌, ℕ, Bool, true, false, List, refl, sym, ap, ◌∙◌, subst, Option, Some, None}
use Rattle.text_core.specs.declared.place.Refusal.{Refusal}
use Rattle.text_core.specs.declared.end.End.TheVariants.{Bad}
use Rattle.text_core.specs.Places.{start, after}
use Rattle.smv_text.specs.declared.token.Token.{Token}
use Rattle.smv_text.specs.Lexing.{Lexes}
use Rattle.smv_text.specs.Tree.{PlainModule, PlainSource}
use Rattle.smv_text.specs.Sources.{SpellsSource}
use Rattle.smv_lex.proofs.Laws.{one_lexing}
use Rattle.smv_meaning.specs.Checks.{Check, passes, first_failing}
use Rattle.smv_parse.specs.Parsing.{IsRefused}
use Rattle.smv_grammar.proofs.Models.{one_list as one_model}
use Rattle.smv_parse.specs.laws.Refusals.{refused_not_low}
use Rattle.smv_models.specs.Models.{IsModel}

-- bytes spell one model
same_source : (m n : PlainSource) → m.modules ≡ n.modules → m.end ≡ n.end → m ≡ n
same_source m n e f = ap (λ (ms : List PlainModule). record { modules = ms; end = m.end }) e ∙ ap (λ p. record { modules = n.modules; end = p }) f

pub same_model : (bytes : List ℕ) (m n : PlainSource) → IsModel bytes m → IsModel bytes n → m ≡ n
same_model bytes m n a b =
    let spelled = subst (SpellsSource m (after start bytes)) (one_lexing bytes a.tokens b.tokens a.lexed b.lexed) a.spelled in
    same_source m n (one_model b.tokens m.modules n.modules spelled.0 b.spelled.0) (spelled.1 ∙ sym b.spelled.1)

-- the refusal of the grammar, with the place of the text's end
abbrev pub GrammarRefusal : List ℕ → List Token → Refusal → Type 0
GrammarRefusal bytes tokens why = IsRefused (record { items = tokens; end = after start bytes }) (Bad why)

-- it is none where a model is spelled
pub grammar_no_model : (bytes : List ℕ) (why : Refusal) (tokens : List Token) (m : PlainSource) → Lexes bytes tokens → GrammarRefusal bytes tokens why → IsModel bytes m → ⊥
grammar_no_model bytes why tokens m l r a =
    refused_not_low (record { items = tokens; end = after start bytes }) why m.modules r (subst (SpellsSource m (after start bytes)) (one_lexing bytes a.tokens tokens a.lexed l) a.spelled).0 a.low

none_first : (b : Bool) (why : Refusal) (cs : List Check) → IsTrue (b && passes cs) → (IsTrue (passes cs) → first_failing cs ≡ None) → (if b then first_failing cs else Some why) ≡ None
none_first true why cs h rest = rest h
none_first false why cs h rest = cc

-- no check fails where each holds
none_fails : (cs : List Check) → IsTrue (passes cs) → first_failing cs ≡ None
none_fails [] h = refl
none_fails (c ∷ cs) h = none_first c.holds c.refusal cs h (none_fails cs)

-- a refusal by a check is none of an accepted model
pub refused_none : (cs : List Check) (why : Refusal) → first_failing cs ≡ Some why → IsTrue (passes cs) → ⊥
refused_none cs why e h = let n = none_fails cs h in absurd (cc)

pub one_some : (o : Option Refusal) (why other : Refusal) → o ≡ Some why → o ≡ Some other → why ≡ other
one_some o why other e f = cc
