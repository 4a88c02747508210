-- A text has one refusal at most, and none where its model's checks hold.
use Rattle.std.proofs.Common.{◌≡◌, inl, inr, ℕ, List, ap, ◌∙◌, subst}
use Rattle.text_core.specs.declared.place.Refusal.{Refusal}
use Rattle.text_core.specs.Places.{start, after}
use Rattle.smv_text.specs.Tree.{PlainSource}
use Rattle.smv_meaning.specs.Phases.{checks_of, first_refusal}
use Rattle.smv_lex.proofs.Laws as laws
use Rattle.smv_lex.proofs.Laws.{one_lex_refusal, one_lexing}
use Rattle.smv_parse.specs.laws.Refusals.{one_refusal}
use Rattle.smv_models.specs.Models.{IsAcceptedModel, IsCheckRefusal, IsTextRefusal}
use Rattle.smv_models.specs.Models.{IsModel}
use Rattle.smv_models.proofs.Sources.{GrammarRefusal, grammar_no_model, one_some, refused_none, same_model}

one_text_refusal : (bytes : List ℕ) (why other : Refusal) → IsTextRefusal bytes why → IsTextRefusal bytes other → why ≡ other
one_text_refusal bytes why other (inl a) (inl b) = one_lex_refusal bytes why other a b
one_text_refusal bytes why other (inl a) (inr (tokens, lexed, r)) = absurd (laws.not_both bytes tokens why lexed a)
one_text_refusal bytes why other (inr (tokens, lexed, r)) (inl b) = absurd (laws.not_both bytes tokens other lexed b)
one_text_refusal bytes why other (inr (tokens, lexed, r)) (inr (others, lexed', r')) =
    one_refusal (record { items = others; end = after start bytes }) why other (subst (λ ts. GrammarRefusal bytes ts why) (one_lexing bytes tokens others lexed lexed') r) r'

text_no_model : (bytes : List ℕ) (why : Refusal) (model : PlainSource) → IsTextRefusal bytes why → IsModel bytes model → ⊥
text_no_model bytes why model (inl a) m = laws.not_both bytes m.tokens why m.lexed a
text_no_model bytes why model (inr (tokens, lexed, r)) m = grammar_no_model bytes why tokens model lexed r m

-- a text has one refusal
pub one_check_refusal : (bytes : List ℕ) (needed : ℕ) (why other : Refusal) → IsCheckRefusal bytes needed why → IsCheckRefusal bytes needed other → why ≡ other
one_check_refusal bytes needed why other (inl a) (inl b) = one_text_refusal bytes why other a b
one_check_refusal bytes needed why other (inl a) (inr (m, is, e)) = absurd (text_no_model bytes why m a is)
one_check_refusal bytes needed why other (inr (m, is, e)) (inl b) = absurd (text_no_model bytes other m b is)
one_check_refusal bytes needed why other (inr (m, is, e)) (inr (n, is', f)) =
    one_some (first_refusal n needed) why other (ap (λ s. first_refusal s needed) (same_model bytes n m is' is) ∙ e) f

-- and none where the checks of its model hold
pub not_checked : (bytes : List ℕ) (needed : ℕ) (why : Refusal) (source : PlainSource) → IsCheckRefusal bytes needed why → IsAcceptedModel bytes needed source → ⊥
not_checked bytes needed why source (inl a) m = text_no_model bytes why source a m.is_model
not_checked bytes needed why source (inr (n, is, e)) m =
    refused_none (checks_of source needed) why (ap (λ s. first_refusal s needed) (same_model bytes source n m.is_model is) ∙ e) m.accepted
