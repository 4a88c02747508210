-- The spellings of signs and words are read as what they spell.
use Rattle.std.proofs.Common.{◌≡◌, Some, refl}
use Rattle.smv_text.specs.declared.token.Reserved.{Reserved}
use Rattle.smv_text.specs.declared.token.Reserved.TheVariants as word
use Rattle.smv_text.specs.declared.token.Sign.{Sign}
use Rattle.smv_text.specs.declared.token.Sign.TheVariants as sign
use Rattle.smv_text.specs.declared.token.TokenKind.TheVariants as kind
use Rattle.smv_text.specs.Signs.{sign_bytes, signs}
use Rattle.smv_text.specs.Keywords.{keywords, word_bytes}
use Rattle.smv_text.specs.Words.{kind_of}

pub sign_read : (s : Sign) → kind_of (sign_bytes s) ≡ Some (kind.Sign s)
unfolding signs
sign_read sign.Open = refl
sign_read _ = refl

pub word_read : (r : Reserved) → kind_of (word_bytes r) ≡ Some (kind.Reserved r)
unfolding keywords
word_read word.Module = refl
word_read _ = refl
