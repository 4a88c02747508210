use Rattle.std.proofs.Common.{◌≡◌, ℕ, true, false, not, ◌&&◌, ◌||◌, if◌then◌else◌, nat_le, ◌+◌, List, ◌∷◌, ◌++◌, [], Some, map, drop, length, append_assoc, refl, sym, ap, ◌∙◌, arith}
use Rattle.text_core.specs.declared.place.Refusal.{Refusal}
use Rattle.smv_text.specs.Tree.{PlainModule}
use Rattle.smv_text.specs.View.{plain_module}
use Rattle.smv_meaning.specs.Instances.{dotted, is_one_of}
use Rattle.smv_meaning.specs.Checks.{check, first_failing}
use Rattle.smv_meaning.specs.Phases.{Declared, declares_instance, longest_path, most_instances, item_checks, counted, declared_checks, counted_all}
use Rattle.smv_names.specs.Declaring.{first_twice, is_place}
use Rattle.smv_names.specs.View.{declared_plain, names_above}
use Rattle.smv_names.specs.Visits.{checks_behind_name}
use Rattle.smv_names.proofs.DeclaringLemmas.{placed_here, twice_later, refused_twice}
use Rattle.smv_names.specs.laws.Composing.{declared_next, counted_is}
use Rattle.smv_names.proofs.declarations.declared_checked.Goals as goal
use Rattle.smv_names.proofs.declarations.declared_checked.Goals.{then-is_instance, else-is_instance}
use Rattle.smv_meaning.specs.laws.Composing.{stops}
use Rattle.smv_meaning.specs.laws.Lists.{front_is}

-- a declaration with a new name is refused by its other checks before those behind it
refused_behind : (ms : List PlainModule) (above : List (List ℕ)) (path : List ℕ) (names : List (List ℕ)) (met : ℕ) (d : Declared) (ds : List Declared) (why : Refusal)
    → is_one_of names d.name ≡ false → first_failing (checks_behind_name ms above path met d) ≡ Some why → first_failing (declared_checks ms above path names met (d ∷ ds)) ≡ Some why
refused_behind ms above path names met d ds why h k =
    let rest = declared_checks ms above path (d.name ∷ names) (counted met d) ds in
    let own = check 28 d.place (nat_le (length (dotted path d.name)) longest_path && (not (declares_instance d.item) || nat_le (met + 1) most_instances)) in
    ap (λ b. if not b then first_failing (item_checks ms above d.item ++ own ∷ rest) else Some (check 10 d.place false).refusal) h
    ∙ ap first_failing (sym (append_assoc (item_checks ms above d.item) (own ∷ []) rest)) ∙ stops (checks_behind_name ms above path met d) rest why k

pub loop-k-init : goal.loop-k-init
loop-k-init c =
    let ms = map plain_module c.args.modules.now in
    let above = names_above c.args.above.now in (
      [],
      c.twice-twice.ensures ∙ ap (first_twice 0 []) (sym c.declarations-list.ensures),
      λ path is. ap (λ l. first_failing (declared_checks ms above path [] c.args.met l)) c.declarations-list.ensures,
      ap (counted_all c.args.met) c.declarations-list.ensures,
    )

pub returns-then-stands_at : goal.returns-then-stands_at
returns-then-stands_at c path is =
    let ms = map plain_module c.args.modules.now in
    let above = names_above c.args.above.now in
    let list = c.declarations-list.result.now in
    let d = declared_plain c.index-list-k.result in
    let rest = map declared_plain (drop (c.loop-k.k + 1) list) in
    let names = c.loop-k.invariant.0 in
    let front : map declared_plain (drop c.loop-k.k list) ≡ d ∷ rest = ap (map declared_plain) (front_is list c.loop-k.k (length list) c.index-list-k.result refl (omega arith) c.index-list-k.is) in
    let here : c.twice-twice.result ≡ first_twice c.loop-k.k names (d ∷ rest) = c.loop-k.invariant.1 ∙ ap (first_twice c.loop-k.k names) front in
    let known : is_one_of names d.name ≡ true = sym (placed_here c.loop-k.k names d rest) ∙ ap (λ o. is_place o c.loop-k.k) (sym here) ∙ sym c.stands_at.ensures ∙ c.if-stands_at.true in
    sym (c.loop-k.invariant.2 path is) ∙ ap (λ l. first_failing (declared_checks ms above path names c.loop-k.count l)) front ∙ refused_twice ms above path names c.loop-k.count d rest known

pub returns-in-Some : goal.returns-in-Some
returns-in-Some c path is =
    let ms = map plain_module c.args.modules.now in
    let above = names_above c.args.above.now in
    let list = c.declarations-list.result.now in
    let d = declared_plain c.index-list-k.result in
    let rest = map declared_plain (drop (c.loop-k.k + 1) list) in
    let names = c.loop-k.invariant.0 in
    let front : map declared_plain (drop c.loop-k.k list) ≡ d ∷ rest = ap (map declared_plain) (front_is list c.loop-k.k (length list) c.index-list-k.result refl (omega arith) c.index-list-k.is) in
    let here : c.twice-twice.result ≡ first_twice c.loop-k.k names (d ∷ rest) = c.loop-k.invariant.1 ∙ ap (first_twice c.loop-k.k names) front in
    let fresh : is_one_of names d.name ≡ false = sym (placed_here c.loop-k.k names d rest) ∙ ap (λ o. is_place o c.loop-k.k) (sym here) ∙ sym c.stands_at.ensures ∙ c.if-stands_at.false in
    sym (c.loop-k.invariant.2 path is) ∙ ap (λ l. first_failing (declared_checks ms above path names c.loop-k.count l)) front
    ∙ refused_behind ms above path names c.loop-k.count d rest c.in-Some.why fresh (sym (c.in-Some.ensures.checks path is))

pub overflow_add-count : goal.overflow_add-count
overflow_add-count c = omega (arith, c.in_default.ensures.few refl (sym c.is_instance.ensures ∙ c.if-is_instance.true))

pub loop-k-preserved : goal.loop-k-preserved
loop-k-preserved c =
    let ms = map plain_module c.args.modules.now in
    let above = names_above c.args.above.now in
    let list = c.declarations-list.result.now in
    let d = declared_plain c.index-list-k.result in
    let rest = map declared_plain (drop (c.loop-k.k + 1) list) in
    let names = c.loop-k.invariant.0 in
    let front : map declared_plain (drop c.loop-k.k list) ≡ d ∷ rest = ap (map declared_plain) (front_is list c.loop-k.k (length list) c.index-list-k.result refl (omega arith) c.index-list-k.is) in
    let here : c.twice-twice.result ≡ first_twice c.loop-k.k names (d ∷ rest) = c.loop-k.invariant.1 ∙ ap (first_twice c.loop-k.k names) front in
    let fresh : is_one_of names d.name ≡ false = sym (placed_here c.loop-k.k names d rest) ∙ ap (λ o. is_place o c.loop-k.k) (sym here) ∙ sym c.stands_at.ensures ∙ c.if-stands_at.false in
    let n : c.if-is_instance.count ≡ counted c.loop-k.count d =
    elim c.if-is_instance.branch [
      | then-is_instance w ↦ counted_is c.is_instance.result c.if-is_instance.count c.loop-k.count d c.is_instance.ensures (rw w.if-is_instance.true w.count-is)
      | else-is_instance w ↦ counted_is c.is_instance.result c.if-is_instance.count c.loop-k.count d c.is_instance.ensures (rw w.if-is_instance.false w.count-is)
    ] in (
      d.name ∷ names,
      here ∙ twice_later c.loop-k.k names d rest fresh,
      λ path is. ap (λ m. first_failing (declared_checks ms above path (d.name ∷ names) m rest)) n
          ∙ sym (declared_next ms above path names c.loop-k.count d rest fresh (sym (c.in_default.ensures.checks path is)))
          ∙ ap (λ l. first_failing (declared_checks ms above path names c.loop-k.count l)) (sym front) ∙ c.loop-k.invariant.2 path is,
      ap (λ m. counted_all m rest) n ∙ ap (λ l. counted_all c.loop-k.count l) (sym front) ∙ c.loop-k.invariant.3,
    )
