-- Readers, from which the grammar of models is made: each reads tokens from the front of a list, one pass, one token ahead. A
-- reader carries the place of the first expression that is too high.
use Rattle.std.specs.Prelude.{ℕ, zero, suc, Option, Some, None, nat_le, if◌then◌else◌, List, [], ◌∷◌, ◌-◌, length}
use Rattle.text_core.specs.declared.place.Place.{Place}
use Rattle.smv_text.specs.declared.token.TokenKind.{TokenKind}
use Rattle.smv_text.specs.declared.token.Token.{Token}
use Rattle.smv_text.specs.Levels.{all_levels}
use Rattle.smv_text.specs.Grammar.{start}
use Rattle.smv_text.specs.Heights.{height, most_height, place_of}
use Rattle.smv_text.specs.Tree.{Tree}
use Rattle.smv_grammar.specs.Machine.{ask, run, Outcome}
use Rattle.smv_grammar.specs.Machine as machine

-- What a reader comes to: what it found, the first place that is too high, and the tokens behind; or how many tokens are
-- left, the dead one among them.
pub data Reading (A : Type 0) : Type 0 where
  found : A → Option Place → List Token → Reading A
  died : ℕ → Reading A

abbrev pub Reader : Type 0 → Type 0
Reader A = Option Place → List Token → Reading A

abbrev pub and_then : {A B : Type 0} → Reading A → (A → Option Place → List Token → Reading B) → Reading B
and_then (found a h rest) next = next a h rest
and_then (died n) next = died n

-- no token, and this
abbrev pub nothing : {A : Type 0} → A → Reader A
nothing a h xs = found a h xs

-- no token may come
abbrev pub fail : {A : Type 0} → Reader A
fail h xs = died (length xs)

abbrev pub one_of : {A : Type 0} → Option A → Token → Option Place → List Token → Reading (A × Place)
one_of None x h xs = died (suc (length xs))
one_of (Some a) x h xs = found (a, x.place) h xs

-- one token that has a value, and its place
unfoldable pub one : {A : Type 0} → (TokenKind → Option A) → Reader (A × Place)
one value h [] = died 0
one value h (x ∷ xs) = one_of (value x.kind) x h xs

-- one after the other
unfoldable pub both : {A B : Type 0} → Reader A → Reader B → Reader (A × B)
both r s h xs = and_then (r h xs) (λ a g ys. and_then (s g ys) (λ b k zs. found (a, b) k zs))

unfoldable pub mapped : {A B : Type 0} → (A → B) → Reader A → Reader B
mapped f r h xs = and_then (r h xs) (λ a g ys. found (f a) g ys)

-- what is behind a token of a kind, where the token may stand
abbrev pub Pick : Type 0 → Type 0
Pick A = TokenKind → Place → Option (Reader A)

abbrev pub picked : {A : Type 0} → Option (Reader A) → Option Place → List Token → Reading A → Reading A
picked None h xs other = other
picked (Some r) h xs other = r h xs

-- by the first token, or otherwise
unfoldable pub either : {A : Type 0} → Pick A → Reader A → Reader A
either pick other h [] = other h []
either pick other h (x ∷ xs) = picked (pick x.kind x.place) h xs (other h (x ∷ xs))

abbrev pub with_first : {A : Type 0} → A → Reading (List A) → Reading (List A)
with_first a (found all h rest) = found (a ∷ all) h rest
with_first a (died n) = died n

abbrev pub again : {A : Type 0} → Reader (List A) → Option (Reader A) → Option Place → Token → List Token → Reading (List A)
again others None h x xs = found [] h (x ∷ xs)
again others (Some r) h x xs = and_then (r h xs) (λ a g ys. with_first a (others g ys))

-- as long as the first token may stand, and so many times at most
unfoldable pub loop : {A : Type 0} → ℕ → Pick A → Reader (List A)
loop zero pick h xs = found [] h xs
loop (suc n) pick h [] = found [] h []
loop (suc n) pick h (x ∷ xs) = again (loop n pick) (pick x.kind x.place) h x xs

-- as long as the first token may stand
unfoldable pub many : {A : Type 0} → Pick A → Reader (List A)
many pick h xs = loop (length xs) pick h xs

-- with the place of the first token
unfoldable pub placed : {A : Type 0} → Reader A → Reader (Place × A)
placed r h xs = and_then (r h xs) (λ a g ys. found (start xs, a) g ys)

-- with the number of the tokens
unfoldable pub counted : {A : Type 0} → Reader A → Reader (ℕ × A)
counted r h xs = and_then (r h xs) (λ a g ys. found (length xs - length ys, a) g ys)

-- the place that is too high, or the next one
abbrev pub high_or : Option Place → ℕ → Place → Option Place
high_or (Some p) n q = Some p
high_or None n q = if nat_le n most_height then None else Some q

abbrev pub from_run : Option Place → Outcome → Reading Tree
from_run h (machine.took r rest) = found r.tree (high_or h r.height (place_of r.tree)) rest
from_run h (machine.dead n) = died n

-- an expression
unfoldable pub expression : Reader Tree
expression h xs = from_run h (run xs (ask all_levels []))

-- the first place that is too high, of one that was found before and of these expressions
abbrev pub highs : Option Place → List Tree → Option Place
highs h [] = h
highs h (t ∷ ts) = highs (high_or h (height t) (place_of t)) ts
