-- Checks one after another: the first that fails refuses.
use Rattle.std.proofs.Common.{◌≡◌, ℕ, ◌+◌, Bool, true, false, not, ◌&&◌, ◌||◌, nat_le, List, [], ◌∷◌, ◌++◌, length, Option, Some, None, is_some, if◌then◌else◌, bytes_eq, append_assoc, sym, ◌∙◌, ap}
use Rattle.text_core.specs.declared.place.Refusal.{Refusal}
use Rattle.smv_text.specs.Tree.{PlainModule}
use Rattle.smv_meaning.specs.Checks.{Check, check, first_failing}
use Rattle.smv_meaning.specs.Phases.{Declared, declares_instance, longest_path, most_instances, item_checks, counted, declared_checks}
use Rattle.smv_meaning.specs.Instances.{dotted, is_one_of}
use Rattle.smv_names.specs.Visits.{checks_behind_name}
use Rattle.smv_meaning.specs.laws.Composing.{goes}

pub fails_behind : (xs ys : List Check) (why : Refusal) → first_failing xs ≡ None → first_failing ys ≡ Some why → first_failing (xs ++ ys) ≡ Some why
fails_behind xs ys why g h = goes xs ys g ∙ h

-- a declaration that passes, and those behind it
pub declared_next : (ms : List PlainModule) (above : List (List ℕ)) (path : List ℕ) (names : List (List ℕ)) (met : ℕ) (d : Declared) (ds : List Declared)
    → is_one_of names d.name ≡ false → first_failing (checks_behind_name ms above path met d) ≡ None
    → first_failing (declared_checks ms above path names met (d ∷ ds)) ≡ first_failing (declared_checks ms above path (d.name ∷ names) (counted met d) ds)
declared_next ms above path names met d ds h k =
    let rest = declared_checks ms above path (d.name ∷ names) (counted met d) ds in
    let own = check 28 d.place (nat_le (length (dotted path d.name)) longest_path && (not (declares_instance d.item) || nat_le (met + 1) most_instances)) in
    ap (λ b. if not b then first_failing (item_checks ms above d.item ++ own ∷ rest) else Some (check 10 d.place false).refusal) h
    ∙ ap first_failing (sym (append_assoc (item_checks ms above d.item) (own ∷ []) rest)) ∙ goes (checks_behind_name ms above path met d) rest k

put_seen : (b c : Bool) (was now : Option (Unit {0})) → now ≡ (if b then Some tt else was) → is_some was ≡ c → is_some now ≡ (b || c)
put_seen true c was now e h = ap is_some e
put_seen false c was now e h = ap is_some e ∙ h

pub seen_more : (names : List (List ℕ)) (name x : List ℕ) (was now : Option (Unit {0})) → now ≡ (if bytes_eq name x then Some tt else was) → is_some was ≡ is_one_of names x → is_some now ≡ is_one_of (name ∷ names) x
seen_more names name x was now e h = put_seen (bytes_eq name x) (is_one_of names x) was now e h

pub counted_is : (b : Bool) (n met : ℕ) (d : Declared) → b ≡ declares_instance d.item → n ≡ (if b then met + 1 else met) → n ≡ counted met d
counted_is b n met d e h = h ∙ ap (λ c. if c then met + 1 else met) e
