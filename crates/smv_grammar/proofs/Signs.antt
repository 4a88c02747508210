-- What it says that a token is a sign, a reserved word or an operator.
use Rattle.std.proofs.Common.{◌≡◌, Bool, true, false, cond, get_or, Some, None, List, [], ◌∷◌, refl, sym, ap, ◌∙◌}
use Rattle.std.proofs.lemmas.Bool.{eqb-true}
use Rattle.smv_text.specs.declared.token.Reserved.{Reserved}
use Rattle.smv_text.specs.declared.token.Reserved.TheVariants as word
use Rattle.smv_text.specs.declared.token.Sign.{Sign}
use Rattle.smv_text.specs.declared.token.Sign.TheVariants as sign
use Rattle.smv_text.specs.declared.token.Token.{Token}
use Rattle.smv_text.specs.declared.token.TokenKind.{TokenKind}
use Rattle.smv_text.specs.declared.token.TokenKind.TheVariants as kind
use Rattle.smv_text.specs.Signs.{all_signs, sign_number}
use Rattle.smv_text.specs.Keywords.{all_reserved, word_number}
use Rattle.smv_grammar.specs.Marks.{is_sign, is_word}
use Rattle.smv_grammar.specs.Reading.{after}

numbered : (s : Sign) → get_or all_signs (sign_number s) sign.Not ≡ s
numbered sign.Open = refl
numbered _ = refl

pub sign_is : (x : TokenKind) (s : Sign) → is_sign s x ≡ true → x ≡ kind.Sign s
sign_is (kind.Sign z) s e = ap kind.Sign (sym (numbered z) ∙ ap (λ n. get_or all_signs n sign.Not) (eqb-true (sign_number z) (sign_number s) e) ∙ numbered s)
sign_is (kind.Number n) s e = cc
sign_is _ s e = cc

word_numbered : (w : Reserved) → get_or all_reserved (word_number w) word.Name ≡ w
word_numbered word.Module = refl
word_numbered _ = refl

pub word_is : (x : TokenKind) (w : Reserved) → is_word w x ≡ true → x ≡ kind.Reserved w
word_is (kind.Reserved z) w e = ap kind.Reserved (sym (word_numbered z) ∙ ap (λ n. get_or all_reserved n word.Name) (eqb-true (word_number z) (word_number w) e) ∙ word_numbered w)
word_is (kind.Number n) w e = cc
word_is _ w e = cc

pub not_minus : {A : Type 0} (b : Bool) (xs : A) → cond b (Some xs) None ≡ None → b ≡ false
not_minus true xs e = cc
not_minus false xs e = refl

-- what comes first
pub after_found : (s : Sign) (xs rest : List Token) → after s xs ≡ Some rest → (x : Token) × (xs ≡ x ∷ rest) × (is_sign s x.kind ≡ true)
after_found s [] rest e = cc
after_found s (x ∷ xs) rest e = go (is_sign s x.kind) refl e
  where
    go : (b : Bool) → is_sign s x.kind ≡ b → cond b (Some xs) None ≡ Some rest → (y : Token) × (x ∷ xs ≡ y ∷ rest) × (is_sign s y.kind ≡ true)
    go true t e = (x, let same : xs ≡ rest = cc in ap (λ r. x ∷ r) same, t)
    go false t e = cc
