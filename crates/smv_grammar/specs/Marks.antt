-- Which sign or reserved word a token is.
use Rattle.std.specs.Prelude.{Bool, false, nat_eq}
use Rattle.smv_text.specs.declared.token.Reserved.{Reserved}
use Rattle.smv_text.specs.declared.token.Sign.{Sign}
use Rattle.smv_text.specs.declared.token.TokenKind.{TokenKind}
use Rattle.smv_text.specs.declared.token.TokenKind.TheVariants as kind
use Rattle.smv_text.specs.Signs.{sign_number}
use Rattle.smv_text.specs.Keywords.{word_number}

-- the token is this sign
abbrev pub is_sign : Sign → TokenKind → Bool
is_sign s (kind.Sign other) = nat_eq (sign_number other) (sign_number s)
is_sign s _ = false

-- the token is this reserved word
abbrev pub is_word : Reserved → TokenKind → Bool
is_word w (kind.Reserved other) = nat_eq (word_number other) (word_number w)
is_word w _ = false
