-- The walk of clap over the words, and what it makes of them.
use Rattle.std.proofs.Common.{◌≡◌, ◌∙◌, ◌+◌, ◌&&◌, ◌||◌, ◌≤◌, ℕ, Bool, true, false, cond, List, [], ◌∷◌, ◌++◌, length, min, Option, Some, None, refl, sym, ap, ap₂, subst, codes, arith}
use Rattle.std.specs.Prelude.{option_and_then, fold}
use Rattle.std.specs.Str.{IsUtf8}
use Rattle.std.specs.Option.{option_map_or}
use Rattle.clap.specs.Walk as step
use Rattle.clap.specs.Lexer.{long_of, short_of, usize_max}
use Rattle.clap.specs.Walk.{Held, Row, Rule, Step, Text, Waiting, Walk, after_step, arg_by_index, finished, first_of, has_row, idle, is_pending, long_or_other, option, plain_word, positional_held, pushed, settled, settled_rows, short_or_plain, subcommand_met, subcommand_or_other, to_positional, value, walked, with_default, word_met}
use Rattle.clap.specs.Kinds.{Kinds, or_else}
use Rattle.clap.specs.Faults.{bundle_fault, check_fault, defaults_fault, flag_word_fault, other_fault, positional_fault, settle_fault, step_fault, turn_fault, use_fault, walk_fault, word_fault}
use Rattle.clap.specs.declared.error.kind.ErrorKind.{ErrorKind}
use Rattle.clap.specs.declared.error.kind.ErrorKind.TheVariants.{UnknownArgument}
use Rattle.command_core.specs.Clap.{Texts, texts_by}
use Rattle.command_core.proofs.Shape.{first_id, second_id, third_id, property_id, option_rule, positional_rule, rules, shape}
use Rattle.command_core.proofs.Forms as forms
use Rattle.command_core.proofs.Forms.{Form, IsOther, form_of, held}
use Rattle.command_core.proofs.Rows.{Gives, gives_first, gives_second, gives_third, given_texts, has_row_is, positional_passes, used_positional}
use Rattle.command_core.proofs.Texts.{put_positional, texts_behind}
use Rattle.text_core.proofs.Truths.{or_false}

-- ---- what a walk comes to

abbrev pub walk_end : Walk → List Text → Walk
walk_end w words = fold (walked rules []) w words

-- what fails behind the last word
abbrev pub end_fault : Held → Kinds
end_fault h = or_else (settle_fault rules false h) (or_else (defaults_fault (settled rules h).rows rules) (check_fault shape (finished rules h) false))

abbrev pub faults : Walk → List Text → Kinds
faults w words = or_else (walk_fault shape [] w words) (end_fault (walk_end w words).held)

abbrev pub found : List Row → Texts
found rows = texts_by (λ id. first_of id rows)

abbrev pub judged : Kinds → List Row → Option Texts
judged [] rows = Some (found rows)
judged (k ∷ ks) rows = None

abbrev pub verdict : Walk → List Text → Option Texts
verdict w words = judged (faults w words) (finished rules (walk_end w words).held)

-- a word that passes, and one that fails
pub goes_on : (w after : Walk) (word : Text) (rest : List Text) → turn_fault shape [] w word ≡ [] → walked rules [] w word ≡ after → verdict w (word ∷ rest) ≡ verdict after rest
unfolding walk_fault
goes_on w after word rest passes next =
    ap (λ k. judged (or_else (or_else k (walk_fault shape [] (walked rules [] w word) rest)) (end_fault (walk_end (walked rules [] w word) rest).held))
    (finished rules (walk_end (walked rules [] w word) rest).held)) passes
    ∙ ap (λ v. verdict v rest) next

pub fails : (w : Walk) (word : Text) (rest : List Text) (k : ErrorKind) (ks : Kinds) → turn_fault shape [] w word ≡ k ∷ ks → verdict w (word ∷ rest) ≡ None
unfolding walk_fault
fails w word rest k ks refused =
    ap (λ ks. judged (or_else (or_else ks (walk_fault shape [] (walked rules [] w word) rest)) (end_fault (walk_end (walked rules [] w word) rest).held))
    (finished rules (walk_end (walked rules [] w word) rest).held)) refused

-- ---- the walk between two words

abbrev pub between : List Row → Option (Text × List Text) → Waiting → ℕ → Bool → Walk
between rows pending waiting position trailing =
    record { held = held rows pending; waiting = waiting; position = position; is_trailing = trailing; stopped = None }

abbrev pub settled_of : List Row → Option (Text × List Text) → List Row
settled_of rows pending = settled_rows rules pending rows

-- what is held passes so far, and gives the texts
pub record Stands (rows : List Row) (pending : Option (Text × List Text)) (t : Texts) : Type 0 where
  pub passes : settle_fault rules false (held rows pending) ≡ []
  pub gives : Gives (settled_of rows pending) t

-- ---- the end

abbrev rule_1 : Rule
rule_1 = positional_rule first_id 1

abbrev rule_2 : Rule
rule_2 = positional_rule second_id 2

abbrev rule_3 : Rule
rule_3 = positional_rule third_id 3

passed : (a b : Kinds) → a ≡ [] → or_else a b ≡ b
passed a b none = ap (λ k. or_else k b) none

no_default : (b : Bool) (k : Kinds) → cond (b || true) [] k ≡ []
no_default true k = refl
no_default false k = refl

no_faults : (rows : List Row) → defaults_fault rows rules ≡ []
unfolding defaults_fault
no_faults rows =
    passed _ _ (no_default (has_row first_id rows) _)
    ∙ passed _ _ (no_default (has_row second_id (with_default rows rule_1)) _)
    ∙ passed _ _ (no_default (has_row third_id (with_default (with_default rows rule_1) rule_2)) _)
    ∙ passed _ _ (no_default (has_row property_id (with_default (with_default (with_default rows rule_1) rule_2) rule_3)) _)

kept : (b : Bool) (rows : List Row) → cond b rows rows ≡ rows
kept true rows = refl
kept false rows = refl

finished_is : (rows : List Row) → fold with_default rows rules ≡ rows
finished_is rows =
    let one : with_default rows rule_1 ≡ rows = kept (has_row first_id rows) rows in
    let two : with_default rows rule_2 ≡ rows = kept (has_row second_id rows) rows in
    let three : with_default rows rule_3 ≡ rows = kept (has_row third_id rows) rows in
    let four : with_default rows option_rule ≡ rows = kept (has_row property_id rows) rows in
    ap (λ rs. with_default (with_default (with_default rs rule_2) rule_3) option_rule) one
    ∙ ap (λ rs. with_default (with_default rs rule_3) option_rule) two
    ∙ ap (λ rs. with_default rs option_rule) three ∙ four

end_passes : (rows : List Row) (pending : Option (Text × List Text)) → settle_fault rules false (held rows pending) ≡ [] → end_fault (held rows pending) ≡ []
end_passes rows pending passes = passed _ _ passes ∙ passed _ _ (no_faults (settled_of rows pending))

pub ended : (rows : List Row) (pending : Option (Text × List Text)) (waiting : Waiting) (position : ℕ) (trailing : Bool) (t : Texts) → Stands rows pending t
    → verdict (between rows pending waiting position trailing) [] ≡ Some t
unfolding walk_fault
ended rows pending waiting position trailing t s =
    ap₂ judged (end_passes rows pending s.passes) (finished_is (settled_of rows pending)) ∙ ap Some (given_texts (settled_of rows pending) t s.gives)

-- ---- a pending option that fails

pub ends_badly : (rows : List Row) (pending : Option (Text × List Text)) (waiting : Waiting) (position : ℕ) (trailing : Bool) (k : ErrorKind) (ks : Kinds)
    → settle_fault rules false (held rows pending) ≡ k ∷ ks → verdict (between rows pending waiting position trailing) [] ≡ None
unfolding walk_fault
ends_badly rows pending waiting position trailing k ks bad =
    ap (λ ks. judged (or_else ks (or_else (defaults_fault (settled_of rows pending) rules) (check_fault shape (finished rules (held rows pending)) false))) (finished rules (held rows pending))) bad

-- ---- a word for a positional

pub data Placing (rows : List Row) (pending : Option (Text × List Text)) (t : Texts) (word : Text) : Type 0 where
  goes : (more : Texts) (next : List Row) (id : Text) → put_positional t word ≡ Some more → Stands next (Some (id, word ∷ [])) more
      → step_fault shape (length t.positionals + 1) (held rows pending) value ≡ []
      → ((waiting : Waiting) (trailing : Bool) → to_positional rules (arg_by_index rules (length t.positionals + 1)) word (between rows pending waiting (length t.positionals + 1) trailing) (held rows pending)
      ≡ between next (Some (id, word ∷ [])) idle (length more.positionals + 1) trailing)
      → Placing rows pending t word
  stops : put_positional t word ≡ None → step_fault shape (length t.positionals + 1) (held rows pending) value ≡ UnknownArgument ∷ [] → Placing rows pending t word

no_several : (b : Bool) (k : Kinds) → k ≡ [] → cond (b && false) [] k ≡ []
no_several true k e = e
no_several false k e = e

moved : (id : Text) (place : ℕ) (word : Text) (rows : List Row) (pending : Option (Text × List Text))
    → positional_held rules (positional_rule id place) word (held rows pending) ≡ held (settled_of rows pending) (Some (id, word ∷ []))
moved id place word rows pending = go (is_pending (positional_rule id place) pending)
  where
    go : (b : Bool) → pushed id word (cond (b && false) (held rows pending) (settled rules (held rows pending))) ≡ held (settled_of rows pending) (Some (id, word ∷ []))
    go true = refl
    go false = refl

taken : (id : Text) (place position : ℕ) (word : Text) (rows : List Row) (pending : Option (Text × List Text)) (waiting : Waiting) (trailing : Bool)
    → to_positional rules (Some (positional_rule id place)) word (between rows pending waiting position trailing) (held rows pending)
    ≡ between (settled_of rows pending) (Some (id, word ∷ [])) idle (min (position + 1) usize_max) trailing
taken id place position word rows pending waiting trailing = λ i. record {
  held = moved id place word rows pending i;
  waiting = idle;
  position = min (position + 1) usize_max;
  is_trailing = or_false trailing i;
  stopped = None;
}

place_passes : (id : Text) (place : ℕ) (rows : List Row) (pending : Option (Text × List Text)) → settle_fault rules false (held rows pending) ≡ []
    → positional_fault rules false (positional_rule id place) (held rows pending) ≡ []
place_passes id place rows pending passes = no_several (is_pending (positional_rule id place) pending) _ passes

pub step_from : (rows : List Row) (pending : Option (Text × List Text)) (positionals : List Text) (property : Option Text) (word : Text)
    → Stands rows pending (record { positionals = positionals; property = property }) → Placing rows pending (record { positionals = positionals; property = property }) word
step_from rows pending [] property word s =
    let next = settled_of rows pending in
    let fresh : has_row first_id next ≡ false = has_row_is first_id next _ None s.gives s.gives.first in
    goes (record { positionals = word ∷ []; property = property }) next first_id refl
    (record { passes = positional_passes first_id 1 word next fresh; gives = rw (used_positional first_id 1 word next fresh) (gives_first next property word s.gives) })
    (place_passes first_id 1 rows pending s.passes) (taken first_id 1 1 word rows pending)
step_from rows pending (a ∷ []) property word s =
    let next = settled_of rows pending in
    let fresh : has_row second_id next ≡ false = has_row_is second_id next _ None s.gives s.gives.second in
    goes (record { positionals = a ∷ word ∷ []; property = property }) next second_id refl
    (record { passes = positional_passes second_id 2 word next fresh; gives = rw (used_positional second_id 2 word next fresh) (gives_second next a property word s.gives) })
    (place_passes second_id 2 rows pending s.passes) (taken second_id 2 2 word rows pending)
step_from rows pending (a ∷ b ∷ []) property word s =
    let next = settled_of rows pending in
    let fresh : has_row third_id next ≡ false = has_row_is third_id next _ None s.gives s.gives.third in
    goes (record { positionals = a ∷ b ∷ word ∷ []; property = property }) next third_id refl
    (record { passes = positional_passes third_id 3 word next fresh; gives = rw (used_positional third_id 3 word next fresh) (gives_third next a b property word s.gives) })
    (place_passes third_id 3 rows pending s.passes) (taken third_id 3 3 word rows pending)
step_from rows pending (a ∷ b ∷ c ∷ []) property word s = stops refl refl
step_from rows pending (a ∷ b ∷ c ∷ d ∷ more) property word s = absurd (omega (arith, s.gives.fits))

-- ---- behind `--`

pub behind : (words : List Text) (rows : List Row) (pending : Option (Text × List Text)) (waiting : Waiting) (t : Texts) → Stands rows pending t
    → verdict (between rows pending waiting (length t.positionals + 1) true) words ≡ texts_behind t words
unfolding walked
behind [] rows pending waiting t s = ended rows pending waiting (length t.positionals + 1) true t s
behind (word ∷ rest) rows pending waiting t s = go (step_from rows pending t.positionals t.property word s) (behind rest)
  where
    go : Placing rows pending t word
        → ((rows : List Row) (pending : Option (Text × List Text)) (waiting : Waiting) (t : Texts) → Stands rows pending t
        → verdict (between rows pending waiting (length t.positionals + 1) true) rest ≡ texts_behind t rest)
        → verdict (between rows pending waiting (length t.positionals + 1) true) (word ∷ rest) ≡ texts_behind t (word ∷ rest)
    go (goes more next id put stands passes step) ih =
        goes_on _ _ word rest passes (step waiting true) ∙ ih next (Some (id, word ∷ [])) idle more stands
        ∙ sym (ap (option_and_then (λ more. texts_behind more rest)) put)
    go (stops put refused) ih =
        fails _ word rest UnknownArgument [] refused ∙ sym (ap (option_and_then (λ more. texts_behind more rest)) put)

-- ---- an option whose values fail

abbrev pub given_property : List Text → Option (Text × List Text)
given_property values = Some (property_id, values)

-- the option that waits to be settled fails
abbrev pub IsBad : List Row → List Text → ErrorKind → Kinds → Type 0
IsBad rows values k ks = settle_fault rules false (held rows (given_property values)) ≡ k ∷ ks

bad_step : (positionals : List Text) (rows : List Row) (values : List Text) (k : ErrorKind) (ks : Kinds) → length positionals ≤ 3 → IsBad rows values k ks
    → (j : ErrorKind) × (js : Kinds) × (step_fault shape (length positionals + 1) (held rows (given_property values)) value ≡ j ∷ js)
bad_step [] rows values k ks fits bad = (k, ks, bad)
bad_step (a ∷ []) rows values k ks fits bad = (k, ks, bad)
bad_step (a ∷ b ∷ []) rows values k ks fits bad = (k, ks, bad)
bad_step (a ∷ b ∷ c ∷ []) rows values k ks fits bad = (UnknownArgument, [], refl)
bad_step (a ∷ b ∷ c ∷ d ∷ more) rows values k ks fits bad = absurd (omega arith)

pub lost_behind : (words positionals : List Text) (rows : List Row) (values : List Text) (waiting : Waiting) (k : ErrorKind) (ks : Kinds) → length positionals ≤ 3 → IsBad rows values k ks
    → verdict (between rows (given_property values) waiting (length positionals + 1) true) words ≡ None
lost_behind [] positionals rows values waiting k ks fits bad = ends_badly rows (given_property values) waiting (length positionals + 1) true k ks bad
lost_behind (word ∷ rest) positionals rows values waiting k ks fits bad =
    let step = bad_step positionals rows values k ks fits bad in
    fails _ word rest step.0 step.1 step.2

-- ---- a word before `--`

module _ (word : Text) (waiting : Waiting) (position : ℕ) (h : Held) (none : subcommand_met [] waiting word ≡ None) (other : IsOther word) where
  plain_fault : long_of word ≡ None → short_of word ≡ None → word_fault shape [] false waiting word h ≡ []
  plain_fault no_long no_short =
      ap (λ o. other_fault shape o word h) none
      ∙ ap (λ b. cond b [] (flag_word_fault rules false (long_of word) word h)) other.dashes
      ∙ ap (λ l. flag_word_fault rules false l word h) no_long
      ∙ ap (λ o. option_map_or (λ flags. bundle_fault rules false flags h) o []) no_short

  plain_met : long_of word ≡ None → short_of word ≡ None → word_met rules [] false waiting position word h ≡ plain_word rules waiting word h
  plain_met no_long no_short =
      ap (λ o. subcommand_or_other rules o waiting position word h) none
      ∙ ap (λ b. cond b (h, step.trailing position) (long_or_other rules waiting word (long_of word) h)) other.dashes
      ∙ ap (λ l. long_or_other rules waiting word l h) no_long
      ∙ ap (λ o. short_or_plain rules waiting word o h) no_short

  unknown_fault : flag_word_fault rules false (long_of word) word h ≡ UnknownArgument ∷ [] → word_fault shape [] false waiting word h ≡ UnknownArgument ∷ []
  unknown_fault refused =
      ap (λ o. other_fault shape o word h) none
      ∙ ap (λ b. cond b [] (flag_word_fault rules false (long_of word) word h)) other.dashes ∙ refused

abbrev turn_with : ℕ → Kinds → Held × Step → Kinds
turn_with position ks met = or_else ks (step_fault shape position met.0 met.1)

module _ (word : Text) (rows : List Row) (pending : Option (Text × List Text)) (position : ℕ) (other : IsOther word) where
  pub turn_plain : long_of word ≡ None → short_of word ≡ None
      → turn_fault shape [] (between rows pending idle position false) word ≡ step_fault shape position (held rows pending) value
  turn_plain no_long no_short =
      ap₂ (turn_with position) (plain_fault word idle position (held rows pending) refl other no_long no_short) (plain_met word idle position (held rows pending) refl other no_long no_short)

  pub walked_plain : long_of word ≡ None → short_of word ≡ None → walked rules [] (between rows pending idle position false) word
      ≡ to_positional rules (arg_by_index rules position) word (between rows pending idle position false) (held rows pending)
  unfolding walked
  walked_plain no_long no_short =
      ap (λ (met : Held × Step). after_step rules word (between rows pending idle position false) met.0 met.1) (plain_met word idle position (held rows pending) refl other no_long no_short)

  pub turn_unknown : (waiting : Waiting) → subcommand_met [] waiting word ≡ None → flag_word_fault rules false (long_of word) word (held rows pending) ≡ UnknownArgument ∷ []
      → turn_fault shape [] (between rows pending waiting position false) word ≡ UnknownArgument ∷ []
  turn_unknown waiting none refused =
      ap (λ ks. turn_with position ks (word_met rules [] false waiting position word (held rows pending))) (unknown_fault word waiting position (held rows pending) none other refused)

-- the value of the option that waits for it
pub turn_value : (word : Text) (rows : List Row) (position : ℕ) → IsOther word → long_of word ≡ None → short_of word ≡ None
    → turn_fault shape [] (between rows (given_property []) (option property_id) position false) word ≡ []
turn_value word rows position other no_long no_short =
    let h = held rows (given_property []) in
    ap₂ (turn_with position) (plain_fault word (option property_id) position h refl other no_long no_short) (plain_met word (option property_id) position h refl other no_long no_short)

pub walked_value : (word : Text) (rows : List Row) (position : ℕ) → IsOther word → long_of word ≡ None → short_of word ≡ None
    → walked rules [] (between rows (given_property []) (option property_id) position false) word ≡ between rows (given_property (word ∷ [])) idle position false
unfolding walked
walked_value word rows position other no_long no_short =
    let h = held rows (given_property []) in
    ap (λ (met : Held × Step). after_step rules word (between rows (given_property []) (option property_id) position false) met.0 met.1)
    (plain_met word (option property_id) position h refl other no_long no_short)

-- words that are UTF-8
abbrev pub AreTexts : List Text → Type 0
AreTexts [] = Unit {0}
AreTexts (word ∷ rest) = IsUtf8 word × AreTexts rest

-- after a second value nothing is read
pub lost : (words positionals : List Text) (rows : List Row) (values : List Text) (k : ErrorKind) (ks : Kinds) → AreTexts words → length positionals ≤ 3 → IsBad rows values k ks
    → verdict (between rows (given_property values) idle (length positionals + 1) false) words ≡ None
unfolding walked
lost [] positionals rows values k ks u fits bad = ends_badly rows (given_property values) idle (length positionals + 1) false k ks bad
lost (word ∷ rest) positionals rows values k ks u fits bad = go (form_of word u.0)
  where
    go : Form word → verdict (between rows (given_property values) idle (length positionals + 1) false) (word ∷ rest) ≡ None
    go (forms.dashes is) = subst (λ w. verdict (between rows (given_property values) idle (length positionals + 1) false) (w ∷ rest) ≡ None) (sym is)
        (goes_on _ (between rows (given_property values) idle (length positionals + 1) true) (codes "--") rest refl refl ∙ lost_behind rest positionals rows values idle k ks fits bad)
    go (forms.bare is) = subst (λ w. verdict (between rows (given_property values) idle (length positionals + 1) false) (w ∷ rest) ≡ None) (sym is)
        (fails _ (codes "--property") rest k ks (ap (λ ks. or_else ks []) bad))
    go (forms.valued v is) = subst (λ w. verdict (between rows (given_property values) idle (length positionals + 1) false) (w ∷ rest) ≡ None) (sym is)
        (fails _ (codes "--property=" ++ v) rest k ks
        (ap (λ ks. or_else (or_else ks (use_fault false option_rule (v ∷ []) (settled_of rows (given_property values)))) []) bad))
    go (forms.plain other alone no_long no_short) =
        let step = bad_step positionals rows values k ks fits bad in
        fails _ word rest step.0 step.1 (turn_plain word rows (given_property values) (length positionals + 1) other no_long no_short ∙ step.2)
    go (forms.unknown other alone refused) =
        fails _ word rest UnknownArgument [] (turn_unknown word rows (given_property values) (length positionals + 1) other idle refl (refused rows (given_property values)))
