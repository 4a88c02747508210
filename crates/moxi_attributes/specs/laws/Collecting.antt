-- The least of failing tests, and tests one after another.
use Rattle.std.proofs.Common.{◌≡◌, Bool, ◌&&◌, true, false, Option, None, Some, List, [], ◌++◌, append-nil, append_assoc, refl, sym, ap, ◌∙◌}
use Rattle.text_core.specs.declared.place.Refusal.{Refusal}
use Rattle.moxi_term_reading.specs.Failures.{minimum, least}
use Rattle.moxi_scripts.specs.Collecting.{also}
use Rattle.moxi_term_reading.specs.laws.Least.{least_append, minimum_assoc}

minimum_none : (a : Option Refusal) → minimum a None ≡ a
minimum_none None = refl
minimum_none (Some a) = refl

pub also_none : (found : Option Refusal) → also found [] ≡ found
unfolding also
also_none found = minimum_none found

pub also_append : (found : Option Refusal) (xs ys : List Refusal) → also (also found xs) ys ≡ also found (xs ++ ys)
unfolding also
also_append found xs ys = sym (minimum_assoc found (least xs) (least ys)) ∙ ap (minimum found) (sym (least_append xs ys))

pub also_least : (found f : Option Refusal) (fs : List Refusal) → f ≡ least fs → minimum found f ≡ also found fs
unfolding also
also_least found f fs e = ap (minimum found) e

-- one round of a loop, and its end
pub list_step : {A : Type 0} (all now one more whole total : List A) → now ≡ all ++ one → whole ≡ one ++ more → all ++ whole ≡ total → now ++ more ≡ total
list_step all now one more whole total e f g = ap (λ xs. xs ++ more) e ∙ append_assoc all one more ∙ ap (λ xs. all ++ xs) (sym f) ∙ g

pub also_step : (found now : Option Refusal) (one more whole : List Refusal) (total : Option Refusal) → now ≡ also found one → whole ≡ one ++ more → also found whole ≡ total → also now more ≡ total
also_step found now one more whole total e f g = ap (λ x. also x more) e ∙ also_append found one more ∙ ap (also found) (sym f) ∙ g

pub also_end : (found : Option Refusal) (whole : List Refusal) (total : Option Refusal) → whole ≡ [] → also found whole ≡ total → found ≡ total
also_end found whole total e g = sym (also_none found) ∙ ap (also found) (sym e) ∙ g

pub also_two : (found then now : Option Refusal) (one two : List Refusal) → then ≡ also found one → now ≡ also then two → now ≡ also found (one ++ two)
also_two found then now one two e f = f ∙ ap (λ x. also x two) e ∙ also_append found one two

pub and_step : (all now one more whole total : Bool) → now ≡ (all && one) → whole ≡ (one && more) → (all && whole) ≡ total → (now && more) ≡ total
and_step all now one more whole total e f g = ap (λ b. b && more) e ∙ regroup all one more ∙ ap (λ b. all && b) (sym f) ∙ g
  where
    regroup : (a b c : Bool) → ((a && b) && c) ≡ (a && (b && c))
    regroup true b c = refl
    regroup false b c = refl

pub nothing_more : {A : Type 0} (xs : List A) → xs ++ [] ≡ xs
nothing_more xs = append-nil xs

pub list_joined : {A : Type 0} (a b c w x y z : List A) → x ≡ w ++ a → y ≡ x ++ b → z ≡ y ++ c → z ≡ w ++ ((a ++ b) ++ c)
list_joined a b c w x y z e f g = g ∙ ap (λ v. v ++ c) (f ∙ ap (λ v. v ++ b) e ∙ append_assoc w a b) ∙ append_assoc w (a ++ b) c
