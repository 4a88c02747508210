-- Scripts: where no test fails the check is there, and the first of failing tests.
use Rattle.std.proofs.Common.{◌≡◌, ◌<◌, ◌≤◌, inl, inr, Bool, true, false, cond, not, is_some, Option, None, Some, List, [], ◌∷◌, ◌++◌, map, refl, sym, ap, ◌∙◌, subst, arith}
use Rattle.std.specs.List.{AllByRecursion}
use Rattle.std.proofs.lemmas.Bool.{cases_lt}
use Rattle.std.proofs.lemmas.Bool.Decides.{nat_tests}
use Rattle.std.proofs.lemmas.Option.{none-some, same_Some}
use Rattle.text_core.specs.declared.place.Kind.{Kind}
use Rattle.text_core.specs.declared.place.Kind.TheVariants.{S, M, B, X, Y}
use Rattle.text_core.specs.declared.place.Place.{Place}
use Rattle.text_core.specs.declared.place.Refusal.{Refusal}
use Rattle.moxi_sexpr.specs.Lexing.{refusal}
use Rattle.moxi_sexpr.specs.Tree.{Tree, atom, list, Trees, no_trees, tree}
use Rattle.moxi_term_reading.specs.Failures.{key, pick, minimum, least, IsIn, number_of}
use Rattle.moxi_term_reading.specs.Reading.{prime_failures}
use Rattle.moxi_terms.specs.View.{ScopeState}
use Rattle.moxi_scripts.specs.declared.parts.Command.TheVariants.{Check}
use Rattle.moxi_scripts.specs.declared.parts.CommandName.{CommandName}
use Rattle.moxi_scripts.specs.declared.parts.CommandName.TheVariants as name
use Rattle.moxi_scripts.specs.Kinds.{HasByte, HasScriptKind, ComesFirst, IsFirst, is_script_kind}
use Rattle.moxi_scripts.specs.Attributes.{shape_holds}
use Rattle.moxi_scripts.specs.Checks.{CheckReading, check_failures, check_in, content_failures, content_of, headed_failures as check_headed_failures}
use Rattle.moxi_scripts.specs.Collecting.{also, fails_if}
use Rattle.moxi_scripts.specs.Commands.{Reading, command_failures, command_named, commands_failures, first_check, form_failures, headed_failures, known_failures, nothing_read, reading_after, with_command, with_form, with_headed, with_known}
use Rattle.moxi_scripts.specs.Cycles.{cycle_failures}
use Rattle.moxi_scripts.specs.Links.{links_failures}
use Rattle.moxi_scripts.specs.Script.{PlainScript}
use Rattle.moxi_scripts.specs.Shapes.{HeadedForms, headed}
use Rattle.moxi_scripts.specs.Spelling.{SpellsScript, check_of, reading_of, script_failures, script_with, system_of}
use Rattle.moxi_scripts.proofs.FunctionLaws.{none_in, least_found, some_fails}
use Rattle.moxi_term_reading.specs.laws.Least.{pick_first, pick_other}

-- a check that is read is there
abbrev IsNameIndex : Reading → Type 0
IsNameIndex r = r.checked ≡ true → is_some r.check ≡ true

check_there : (s : ScopeState) (p : Place) (o : Option HeadedForms) → check_headed_failures s p o ≡ [] → is_some (check_in s p o) ≡ true
check_there s p None h = some_fails (refusal 12 p) [] h
check_there s p (Some x) h = by_shape (content_of s p x) (prime_failures x.primed x.place ++ content_failures s x.rest) (shape_holds Check x.rest) h
  where
    by_shape : (c : CheckReading) (fs : List Refusal) (b : Bool) → cond b fs (refusal 12 p ∷ []) ≡ [] → is_some (cond b (Some c) None) ≡ true
    by_shape c fs true e = refl
    by_shape c fs false e = some_fails (refusal 12 p) [] e

first_there : (old new : Option CheckReading) (checked : Bool) (p : Place) → is_some new ≡ true → fails_if checked 13 p ≡ [] → is_some (first_check old checked new) ≡ true
first_there old new true p e h = some_fails (refusal 13 p) [] h
first_there old new false p e h = e

command_keeps : (c : CommandName) (r : Reading) (p : Place) (ts : Trees) → command_failures c r p ts ≡ [] → IsNameIndex r → IsNameIndex (with_command c r p ts)
command_keeps name.Logic r p ts h k = k
command_keeps name.PassedOver r p ts h k = k
command_keeps name.Enumeration r p ts h k = k
command_keeps name.Sort r p ts h k = k
command_keeps name.Function r p ts h k = k
command_keeps name.System r p ts h k = k
command_keeps name.Check r p ts h k =
    let e = none_in (check_failures r.scope p ts) (fails_if r.checked 13 p) h in
    λ _. first_there r.check (check_in r.scope p (headed ts)) r.checked p (check_there r.scope p (headed ts) e.0) e.1

known_keeps : (o : Option CommandName) (r : Reading) (p : Place) (ts : Trees) → known_failures o r p ts ≡ [] → IsNameIndex r → IsNameIndex (with_known o r p ts)
known_keeps None r p ts h k = k
known_keeps (Some c) r p ts h k = command_keeps c r p ts h k

headed_keeps : (o : Option HeadedForms) (r : Reading) (p : Place) → headed_failures r p o ≡ [] → IsNameIndex r → IsNameIndex (with_headed r p o)
headed_keeps None r p h k = k
headed_keeps (Some x) r p h k =
    let e = none_in (prime_failures x.primed x.place) (known_failures (command_named x.name) r p x.rest) h in
    known_keeps (command_named x.name) r p x.rest e.1 k

form_keeps : (t : Tree) (r : Reading) → form_failures r t ≡ [] → IsNameIndex r → IsNameIndex (with_form r t)
form_keeps (atom p a) r h k = k
form_keeps (list p ts) r h k = headed_keeps (headed ts) r p h k

forms_keep : (ts : Trees) (r : Reading) → commands_failures r ts ≡ [] → IsNameIndex r → IsNameIndex (reading_after r ts)
forms_keep no_trees r h k = k
forms_keep (tree t ts) r h k =
    let e = none_in (form_failures r t) (commands_failures (with_form r t) ts) h in
    forms_keep ts (with_form r t) e.1 (form_keeps t r e.0 k)

is_checked : (b : Bool) (p : Place) → fails_if (not b) 13 p ≡ [] → b ≡ true
is_checked true p h = refl
is_checked false p h = some_fails (refusal 13 p) [] h

-- forms of which no test fails have a check
pub checked : (ts : Trees) (end : Place) → script_failures ts end ≡ [] → is_some (reading_of ts).check ≡ true
checked ts end h =
    let r = reading_of ts in
    let e = none_in (commands_failures nothing_read ts ++ links_failures r end) (cycle_failures r.systems r.system_names) h in
    let f = none_in (commands_failures nothing_read ts) (links_failures r end) e.0 in
    let g = none_in _ (fails_if (not r.checked) 13 end) f.1 in
    forms_keep ts nothing_read f.0 (λ e. absurd (cc)) (is_checked r.checked end g.1)

pub one_script : (ts : Trees) (end : Place) (a b : PlainScript) → SpellsScript ts end a → SpellsScript ts end b → a ≡ b
one_script ts end a b s t = s.script ∙ ap (script_with (reading_of ts)) (same_Some s.check t.check (sym s.there ∙ t.there)) ∙ sym t.script

-- THE SCRIPT THAT IS READ

pub none_fails : (fs : List Refusal) → least fs ≡ None → fs ≡ []
none_fails [] h = refl
none_fails (f ∷ fs) h = absurd (some_minimum f (least fs) h)
  where
    some_minimum : (x : Refusal) (o : Option Refusal) → minimum (Some x) o ≡ None → ⊥
    some_minimum x None h = none-some x (sym h)
    some_minimum x (Some y) h = none-some (pick x y) (sym h)

built : (r : Reading) (c : CheckReading) (s : PlainScript) → s.logic ≡ r.logic → s.scope ≡ r.scope → s.systems ≡ map (system_of r.system_names) r.systems → s.check ≡ check_of r.system_names c → s ≡ script_with r c
built r c s e f g h =
    ap (λ x. record { logic = x; scope = s.scope; systems = s.systems; check = s.check }) e
    ∙ ap (λ x. record { logic = r.logic; scope = x; systems = s.systems; check = s.check }) f
    ∙ ap (λ x. record { logic = r.logic; scope = r.scope; systems = x; check = s.check }) g
    ∙ ap (λ x. record { logic = r.logic; scope = r.scope; systems = map (system_of r.system_names) r.systems; check = x }) h

-- nothing was found where no test fails
passed : (ts : Trees) (end : Place) (found : Option Refusal) → found ≡ also None (script_failures ts end) → found ≡ None → script_failures ts end ≡ []
passed ts end found finds none = none_fails (script_failures ts end) (sym (least_found found (script_failures ts end) finds) ∙ none)

-- what is built of what is read is the script, where nothing was found
pub spells : (ts : Trees) (end : Place) (r : Reading) (c : CheckReading) (found : Option Refusal) (s : PlainScript) → r ≡ reading_of ts → found ≡ also None (script_failures ts end) → found ≡ None → r.check ≡ Some c
    → s.logic ≡ r.logic → s.scope ≡ r.scope → s.systems ≡ map (system_of r.system_names) r.systems → s.check ≡ check_of r.system_names c → SpellsScript ts end s
spells ts end r c found s read finds none there e f g h =
    record { check = c; there = ap (λ (x : Reading). x.check) (sym read) ∙ there; script = built r c s e f g h ∙ ap (λ x. script_with x c) read; passes = passed ts end found finds none }

pub always_there : (ts : Trees) (end : Place) (r : Reading) (found : Option Refusal) → r ≡ reading_of ts → found ≡ also None (script_failures ts end) → found ≡ None → r.check ≡ None → ⊥
always_there ts end r found read finds none missing =
    let e : is_some r.check ≡ true = ap (λ (x : Reading). is_some x.check) read ∙ checked ts end (passed ts end found finds none) in
    absurd (cc)

-- THE FIRST OF FAILING TESTS

first_by_key : (r f : Refusal) → key r ≤ key f → HasByte f → ComesFirst r f
first_by_key r f h byte = elim (cases_lt r.place.offset f.place.offset) [
  | inl less ↦ inl less
  | inr le ↦ inr (omega arith, omega arith)
]

abbrev IsLeastOf : Refusal → List Refusal → Type 0
IsLeastOf r fs = IsIn r fs × AllByRecursion (λ f. key r ≤ key f) fs

all_behind : (f g : Refusal) (xs : List Refusal) → key g ≤ key f → AllByRecursion (λ h. key f ≤ key h) xs → AllByRecursion (λ h. key g ≤ key h) xs
all_behind f g [] le a = tt
all_behind f g (x ∷ xs) le a = (let h : key f ≤ key x = a.0 in omega arith, all_behind f g xs le a.1)

least_more : (x y f : Refusal) (xs : List Refusal) → IsLeastOf y xs → pick x y ≡ f → IsLeastOf f (x ∷ xs)
least_more x y f xs l e = elim (cases_lt (key y) (key x)) [
  | inl h ↦ let g : y ≡ f = sym (pick_other x y h) ∙ e in subst (λ f. IsLeastOf f (x ∷ xs)) g (inr l.0, (omega arith, l.1))
  | inr h ↦ let g : x ≡ f = sym (pick_first x y h) ∙ e in subst (λ f. IsLeastOf f (x ∷ xs)) g (inl refl, (omega arith, all_behind y x xs h l.1))
]

least_of : (xs : List Refusal) (f : Refusal) → least xs ≡ Some f → IsLeastOf f xs
least_of [] f h = absurd (none-some f h)
least_of (x ∷ xs) f h = by_rest (least xs) (λ y e. least_of xs y e) refl h
  where
    by_rest : (o : Option Refusal) → ((y : Refusal) → least xs ≡ Some y → IsLeastOf y xs) → least xs ≡ o → minimum (Some x) o ≡ Some f → IsLeastOf f (x ∷ xs)
    by_rest None ih e h = subst (λ f. IsLeastOf f (x ∷ xs)) (same_Some x f h) (inl refl, (omega arith, subst (AllByRecursion (λ g. key x ≤ key g)) (sym (none_fails xs e)) tt))
    by_rest (Some y) ih e h = least_more x y f xs (ih y e) (same_Some (pick x y) f h)

each_first : (r : Refusal) (fs : List Refusal) → AllByRecursion (λ f. key r ≤ key f) fs → AllByRecursion HasByte fs → AllByRecursion (ComesFirst r) fs
each_first r [] a b = tt
each_first r (f ∷ fs) a b = (first_by_key r f a.0 b.0, each_first r fs a.1 b.1)

pub first_is : (fs : List Refusal) (r : Refusal) → AllByRecursion HasByte fs → least fs ≡ Some r → IsFirst r fs
first_is fs r b h = let l = least_of fs r h in record { among = l.0; before = each_first r fs l.1 b }

-- what holds of each of these holds of one of them
pub each_in : (P : Refusal → Type 0) (r : Refusal) (fs : List Refusal) → IsIn r fs → AllByRecursion P fs → P r
each_in P r [] i a = absurd i
each_in P r (f ∷ fs) i a = elim i [
  | inl e ↦ subst P (sym e) a.0
  | inr j ↦ each_in P r fs j a.1
]

has_byte : (k : Kind) → is_script_kind k ≡ true → number_of k < 256
has_byte (S n) h = absurd (cc)
has_byte (M n) h = grind (arith, nat_tests)
has_byte (B n) h = absurd (cc)
has_byte (X n) h = absurd (cc)
has_byte (Y n) h = absurd (cc)

pub kinds_have_bytes : (fs : List Refusal) → AllByRecursion HasScriptKind fs → AllByRecursion HasByte fs
kinds_have_bytes [] a = tt
kinds_have_bytes (f ∷ fs) a = (has_byte f.kind a.0, kinds_have_bytes fs a.1)
