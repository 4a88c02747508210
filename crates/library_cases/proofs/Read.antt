-- What a text spells is read.
use Rattle.std.specs.Prelude.{ℕ, List}
use Rattle.smv_text.specs.Tree.{PlainSource}
use Rattle.library_cases.specs.Spelled.{IsSpelled}
use Rattle.smv_flatten.specs.FlatModel.{IsRead}

pub is_read : (text : List ℕ) (source : PlainSource) → IsSpelled text source → IsRead source
is_read text source s = record { text = text; tokens = s.tokens; end = s.end; lexed = s.lexed; spelled = s.spelled; low = s.low }
