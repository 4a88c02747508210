-- Checks one after another: the first that fails refuses.
use Rattle.std.proofs.Common.{◌≡◌, Bool, true, false, List, [], ◌∷◌, ◌++◌, ◌&&◌, Option, Some, None, if◌then◌else◌, IsTrue, refl}
use Rattle.text_core.specs.declared.end.End.{End}
use Rattle.text_core.specs.declared.place.Refusal.{Refusal}
use Rattle.smv_meaning.specs.Checks.{Check, passes, first_failing, IsBad}
use Rattle.smv_meaning.specs.laws.Composing as composing

pub ends : (e : End) (xs ys : List Check) → IsBad e (first_failing xs) → IsBad e (first_failing (xs ++ ys))
ends e xs ys h = composing.ends e xs ys h

pub ends_behind : (e : End) (xs ys : List Check) → first_failing xs ≡ None → IsBad e (first_failing ys) → IsBad e (first_failing (xs ++ ys))
ends_behind e xs ys g h = composing.ends_behind e xs ys g h

pub both_pass : (xs ys : List Check) → first_failing xs ≡ None → first_failing ys ≡ None → first_failing (xs ++ ys) ≡ None
both_pass xs ys g h = composing.both_pass xs ys g h

-- checks that pass may stand between
around : (e : End) (b : Bool) (why : Refusal) (o p : Option Refusal) → (IsBad e o → IsBad e p) → IsBad e (if b then o else Some why) → IsBad e (if b then p else Some why)
around e true why o p f h = f h
around e false why o p f h = h

pub ends_around : (e : End) (xs ys zs : List Check) → first_failing ys ≡ None → IsBad e (first_failing (xs ++ zs)) → IsBad e (first_failing (xs ++ ys ++ zs))
ends_around e [] ys zs g h = composing.ends_behind e ys zs g h
ends_around e (c ∷ xs) ys zs g h = around e c.holds c.refusal (first_failing (xs ++ zs)) (first_failing (xs ++ ys ++ zs)) (ends_around e xs ys zs g) h

holds_first : (b : Bool) (why : Refusal) (cs : List Check) → (if b then first_failing cs else Some why) ≡ None → (first_failing cs ≡ None → IsTrue (passes cs)) → IsTrue (b && passes cs)
holds_first true why cs h rest = rest h
holds_first false why cs h rest = absurd (cc)

-- each check holds where none fails
pub all_hold : (cs : List Check) → first_failing cs ≡ None → IsTrue (passes cs)
all_hold [] h = refl
all_hold (c ∷ cs) h = holds_first c.holds c.refusal cs h (all_hold cs)
