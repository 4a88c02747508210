-- Forms that are shown so, all at the start of a text, spell a valid script whose check is there.
use Rattle.std.proofs.Common.{◌≡◌, Bool, true, false, if◌then◌else◌, IfSome, Option, Some, None, refl, sym, ap, ◌∙◌, subst, ℕ, not, ◌&&◌, ◌||◌, ◌==◌, IsTrue, List, [], ◌∷◌}
use Rattle.text_core.specs.declared.place.Place.{Place}
use Rattle.text_core.specs.Places.{start}
use Rattle.moxi_terms.specs.View.{ScopeState}
use Rattle.moxi_term_print.specs.Shown.{Shown, word, part, group, Showns, no_showns, shown, AllCanBeShown, ShowEach, CanBeShown, Shows}
use Rattle.moxi_scripts.specs.declared.parts.CommandName.{CommandName}
use Rattle.moxi_scripts.specs.declared.parts.Command.TheVariants.{Check}
use Rattle.moxi_scripts.specs.Attributes.{shape_holds}
use Rattle.moxi_scripts.specs.Checks.{CheckReading, content_of, check_in, check_of}
use Rattle.moxi_scripts.specs.Commands.{Reading, nothing_read, first_check, command_named, with_command, with_known, with_headed, with_form, reading_after}
use Rattle.moxi_scripts.specs.Invariant.{IsSpelled}
use Rattle.moxi_scripts.specs.Script.{PlainScript}
use Rattle.moxi_scripts.specs.Shapes.{HeadedForms, headed}
use Rattle.moxi_scripts.specs.Spelling.{SpellsScript}
use Rattle.moxi_script_print.specs.NamesOfScripts.{HasSpellableNames}
use Rattle.moxi_script_print.specs.Printing.{shown_script}
use Rattle.moxi_script_print.specs.Again.{with_place, ReadsAs}
use Rattle.moxi_scripts.specs.Valid.{IsValid}
use Rattle.std.specs.List.{list_all}
use Rattle.std.proofs.lemmas.Bool.{and_from, and_parts, eqb-true}
use Rattle.moxi_sexpr.specs.declared.form.Atom.TheVariants.{Symbol}
use Rattle.moxi_sexpr.specs.Atoms.{is_simple, may_appear}
use Rattle.moxi_sexpr.specs.Bytes.{is_symbol_byte, is_barred_byte}
use Rattle.moxi_sexpr.specs.Printing.{IsPrintable, ArePrintable, is_among, reserved_words}
use Rattle.moxi_term_print.specs.StandingNames.{IsSpellable}
use Rattle.moxi_sexpr.specs.Tree as form
use Rattle.moxi_scripts.specs.declared.parts.CommandName.TheVariants as name

-- ---- what has no bar and no backslash can be spelled

pub pick : {X : Type 0} (P : X → Type 0) (b : Bool) (x y : X) → (b ≡ true → P x) → (b ≡ false → P y) → P (if b then x else y)
pick P true x y h k = h refl
pick P false x y h k = k refl

pub barred_spellable : (x : List ℕ) → list_all is_barred_byte x ≡ true → IsSpellable x
barred_spellable x h =
    pick (λ s. IsTrue (may_appear s x)) (is_simple x && not (is_among x reserved_words)) _ _ (λ e. (and_parts (is_simple x) (not (is_among x reserved_words)) e).0) (λ e. h)

pub not_barred : (b : ℕ) (p : ℕ → Bool) → p b ≡ true → p 124 ≡ false → p 92 ≡ false → is_barred_byte b ≡ true
not_barred b p h f g = by (b == 124) (b == 92) refl refl
  where
    by : (x y : Bool) → (b == 124) ≡ x → (b == 92) ≡ y → not ((b == 124) || (b == 92)) ≡ true
    by true y e k = absurd (let s = sym (ap p (eqb-true b 124 e)) in cc)
    by false true e k = absurd (let s = sym (ap p (eqb-true b 92 k)) in cc)
    by false false e k = ap (λ x. not (x || (b == 92))) e ∙ ap not k

pub all_bytes : (p q : ℕ → Bool) → ((b : ℕ) → p b ≡ true → q b ≡ true) → (bs : List ℕ) → list_all p bs ≡ true → list_all q bs ≡ true
all_bytes p q f [] h = refl
all_bytes p q f (b ∷ bs) h = let s = and_parts (p b) (list_all p bs) h in and_from (q b) (list_all q bs) (f b s.0) (all_bytes p q f bs s.1)

-- ---- forms that are shown so

abbrev mutual
  pub formed : Shown → form.Tree
  formed (word w) = form.atom start (Symbol w false)
  formed (part a) = form.atom start a
  formed (group xs) = form.list start (all_formed xs)

  pub all_formed : Showns → form.Trees
  all_formed no_showns = form.no_trees
  all_formed (shown x xs) = form.tree (formed x) (all_formed xs)

mutual
  pub formed_shows : (x : Shown) → Shows (formed x) x
  formed_shows (word w) = refl
  formed_shows (part a) = refl
  formed_shows (group xs) = all_shown xs

  pub all_shown : (xs : Showns) → ShowEach (all_formed xs) xs
  all_shown no_showns = tt
  all_shown (shown x xs) = (formed_shows x, all_shown xs)

mutual
  pub formed_printable : (x : Shown) → CanBeShown x → IsPrintable (formed x)
  formed_printable (word w) h = barred_spellable w (all_bytes is_symbol_byte is_barred_byte (λ b g. not_barred b is_symbol_byte g refl refl) w (and_parts _ (list_all is_symbol_byte w) h).1)
  formed_printable (part a) h = h
  formed_printable (group xs) h = all_printable xs h

  pub all_printable : (xs : Showns) → AllCanBeShown xs → ArePrintable (all_formed xs)
  all_printable no_showns h = tt
  all_printable (shown x xs) h = (formed_printable x h.0, all_printable xs h.1)

-- ---- the check that is read is at the start

abbrev pub StartsIf : Option CheckReading → Type 0
StartsIf o = IfSome o (λ (c : CheckReading). c.place ≡ start)

pub check_starts : (s : ScopeState) (o : Option HeadedForms) → StartsIf (check_in s start o)
check_starts s None = tt
check_starts s (Some h) = by (shape_holds Check h.rest)
  where
    by : (b : Bool) → StartsIf (if b then Some (content_of s start h) else None)
    by true = refl
    by false = tt

pub first_starts : (old : Option CheckReading) (b : Bool) (new : Option CheckReading) → StartsIf old → StartsIf new → StartsIf (first_check old b new)
first_starts old true new h k = h
first_starts old false new h k = k

pub command_starts : (c : CommandName) (r : Reading) (ts : form.Trees) → StartsIf r.check → StartsIf (with_command c r start ts).check
command_starts name.Logic r ts h = h
command_starts name.PassedOver r ts h = h
command_starts name.Enumeration r ts h = h
command_starts name.Sort r ts h = h
command_starts name.Function r ts h = h
command_starts name.System r ts h = h
command_starts name.Check r ts h = first_starts r.check r.checked (check_of r.scope start ts) h (check_starts r.scope (headed ts))

pub known_starts : (o : Option CommandName) (r : Reading) (ts : form.Trees) → StartsIf r.check → StartsIf (with_known o r start ts).check
known_starts None r ts h = h
known_starts (Some c) r ts h = command_starts c r ts h

pub headed_starts : (o : Option HeadedForms) (r : Reading) → StartsIf r.check → StartsIf (with_headed r start o).check
headed_starts None r h = h
headed_starts (Some f) r h = known_starts (command_named f.name) r f.rest h

pub form_starts : (r : Reading) (x : Shown) → StartsIf r.check → StartsIf (with_form r (formed x)).check
form_starts r (word w) h = h
form_starts r (part a) h = h
form_starts r (group xs) h = headed_starts (headed (all_formed xs)) r h

pub forms_start : (r : Reading) (xs : Showns) → StartsIf r.check → StartsIf (reading_after r (all_formed xs)).check
forms_start r no_showns h = h
forms_start r (shown x xs) h = forms_start (with_form r (formed x)) xs (form_starts r x h)

-- what is known of scripts that are printed
abbrev pub CanBePrinted : Type 0
CanBePrinted = (s : PlainScript) → IsValid s → HasSpellableNames s → AllCanBeShown (shown_script s)

abbrev pub IsReadAs : Type 0
IsReadAs = (s : PlainScript) (ts : form.Trees) (end : Place) → IsValid s → ShowEach ts (shown_script s) → ReadsAs ts end s

-- a script with its check at the start is spelled by forms that are there
pub spelled_at_start : CanBePrinted → IsReadAs → (s : PlainScript) → s.check.place ≡ start → IsValid s → HasSpellableNames s → IsSpelled s
spelled_at_start printed read s p whole names =
    let xs = shown_script s in
    let r = read s (all_formed xs) start whole (all_shown xs) in
    let c : r.1.check.place ≡ start = subst StartsIf r.1.there (forms_start nothing_read xs tt) in
    let same : r.0 ≡ s.check.place = ap (λ (q : PlainScript). q.check.place) r.1.script ∙ c ∙ sym p in
    record {
      forms = all_formed xs;
      end = start;
      printable = all_printable xs (printed s whole names);
      spelled = subst (λ q. SpellsScript (all_formed xs) start (with_place s q)) same r.1;
    }
