-- What the reader of models says of the grammar.
use Rattle.std.proofs.Common.{◌≡◌, ℕ, ◌≤◌, Option, Some, List, [], length, drop, ◌-◌, refl, subst, arith, Err}
use Rattle.text_core.specs.declared.place.Place.{Place}
use Rattle.smv_text.specs.declared.token.Token.{Token}
use Rattle.smv_text.specs.Tree.{PlainModule}
use Rattle.smv_grammar.specs.Readers.{Reading, found, died, expression}
use Rattle.smv_grammar.specs.Rules.{model}
use Rattle.text_core.specs.declared.place.Refusal.{Refusal}
use Rattle.smv_text.specs.Lexing.{TokenList}
use Rattle.smv_expressions.specs.declared.stop.Stop.{Stop}
use Rattle.smv_expressions.specs.declared.stop.Stop.TheVariants.{Dead, NoMemory}
use Rattle.smv_parse.specs.Answers.{Loses}
use Rattle.smv_parse.specs.Parsing.{refusal, dead_refusal, IsTooHigh, HasDead}
use Rattle.std.specs.Borrow.{Bor}
use Rattle.smv_expressions.specs.declared.kept.MeasuredExpr.{MeasuredExpr}
use Rattle.smv_expressions.specs.Following.{Takes}
use Rattle.smv_expressions.specs.Gathered.{read_of}
use Rattle.smv_grammar.proofs.Asked.{expression_dies}
use Rattle.smv_grammar.proofs.Models.{dead_at, found_high, model_within, reading}

pub expression_loses : (h : Option Place) (xs : List Token) (e : Stop) → Takes {Y = MeasuredExpr × Bor (List Token)} (λ x. (read_of x.0, x.1.now)) xs (Err e) → Loses (expression h xs) e
expression_loses h xs (Dead n) f = expression_dies h xs n f
expression_loses h xs NoMemory f = tt

pub is_too_high : (tokens : TokenList) (ms : List PlainModule) (q : Place) (why : Refusal) → reading tokens.items ≡ found ms (Some q) [] → why ≡ refusal 7 q → IsTooHigh tokens why
is_too_high tokens ms q why e is =
    let p = found_high tokens.items ms q e in
    record { source = record { modules = p.0; end = tokens.end }; spelled = (p.1, refl); place = q; first = p.2; is = is }

pub has_dead : (tokens : TokenList) (n : ℕ) (why : Refusal) → model tokens.items ≡ died n → why ≡ dead_refusal tokens.end (drop (length tokens.items - n) tokens.items) → HasDead tokens why
has_dead tokens n why e is =
    let within : n ≤ length tokens.items = model_within tokens.items n e in
    record { index = length tokens.items - n; dead = dead_at tokens.items n (length tokens.items - n) e (omega arith); is = is }

pub lost : {A : Type 0} (o : Reading A) (e : Stop) (n : ℕ) → e ≡ Dead n → Loses o e → o ≡ died n
lost o e n same l = subst (Loses o) same l
