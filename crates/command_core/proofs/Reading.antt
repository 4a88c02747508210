-- The parse of clap is the reading of the words.
use Rattle.std.proofs.Common.{◌≡◌, ◌∙◌, ◌+◌, true, false, cond, List, [], ◌∷◌, ◌++◌, length, Option, Some, None, refl, sym, ap, subst, codes}
use Rattle.std.specs.Prelude.{option_and_then}
use Rattle.clap.specs.Lexer.{long_of, short_of}
use Rattle.clap.specs.Walk.{Row, Text, has_row, idle, option, walked}
use Rattle.clap.specs.Kinds.{or_else}
use Rattle.clap.specs.Faults.{use_fault}
use Rattle.clap.specs.declared.error.kind.ErrorKind.TheVariants.{ArgumentConflict, InvalidValue, UnknownArgument}
use Rattle.command_core.specs.Clap.{Texts}
use Rattle.command_core.specs.Words.{is_option}
use Rattle.command_core.proofs.Shape.{property_id, option_rule}
use Rattle.command_core.proofs.Forms as forms
use Rattle.command_core.proofs.Forms.{Form, IsOther, form_of}
use Rattle.command_core.proofs.Rows.{Gives, gives_property, has_row_is, option_again, option_passes, used_option, with_row}
use Rattle.command_core.proofs.Texts.{put_positional, put_property, texts_from}
use Rattle.command_core.proofs.Walks.{AreTexts, Placing, goes, stops, Stands, behind, between, ended, ends_badly, fails, given_property, goes_on, lost, lost_behind, settled_of, step_from, turn_plain, turn_unknown, turn_value, verdict, walked_plain, walked_value}

-- between two words the walk reads on as the definition does
abbrev pub Reads : List Text → Type 0
Reads words = (rows : List Row) (pending : Option (Text × List Text)) (t : Texts) → Stands rows pending t
    → verdict (between rows pending idle (length t.positionals + 1) false) words ≡ texts_from false t words

-- and behind `--property`
abbrev pub Awaits : List Text → Type 0
Awaits words = (rows : List Row) (t : Texts) → Gives rows t
    → verdict (between rows (given_property []) (option property_id) (length t.positionals + 1) false) words ≡ texts_from true t words

-- a value of `--property` that comes in its word
read_value : (v : Text) (rest : List Text) (rows : List Row) (pending : Option (Text × List Text)) (positionals : List Text) (property : Option Text) → Reads rest
    → Stands rows pending (record { positionals = positionals; property = property })
    → verdict (between rows pending idle (length positionals + 1) false) ((codes "--property=" ++ v) ∷ rest)
    ≡ texts_from false (record { positionals = positionals; property = property }) ((codes "--property=" ++ v) ∷ rest)
unfolding walked
read_value v rest rows pending positionals None reads s =
    let next = settled_of rows pending in
    let fresh : has_row property_id next ≡ false = has_row_is property_id next _ None s.gives s.gives.property in
    goes_on _ (between (with_row property_id v next) None idle (length positionals + 1) false) (codes "--property=" ++ v) rest
    (ap (λ ks. or_else (or_else ks (use_fault false option_rule (v ∷ []) next)) []) s.passes ∙ ap (λ ks. or_else ks []) (option_passes v next fresh))
    (ap (λ rows. between rows None idle (length positionals + 1) false) (used_option v next fresh))
    ∙ reads (with_row property_id v next) None (record { positionals = positionals; property = Some v })
    (record { passes = refl; gives = gives_property next positionals v s.gives })
read_value v rest rows pending positionals (Some old) reads s =
    let next = settled_of rows pending in
    fails _ (codes "--property=" ++ v) rest ArgumentConflict []
    (ap (λ ks. or_else (or_else ks (use_fault false option_rule (v ∷ []) next)) []) s.passes
    ∙ ap (λ ks. or_else ks []) (option_again v next (has_row_is property_id next _ (Some old) s.gives s.gives.property)))

plain_texts : (t : Texts) (word : Text) (rest : List Text) → IsOther word → is_option word ≡ false
    → texts_from false t (word ∷ rest) ≡ option_and_then (λ more. texts_from false more rest) (put_positional t word)
plain_texts t word rest other alone = rw (other.dashes, other.bare, other.valued, alone) refl

unknown_texts : (t : Texts) (word : Text) (rest : List Text) → IsOther word → is_option word ≡ true → texts_from false t (word ∷ rest) ≡ None
unknown_texts t word rest other alone = rw (other.dashes, other.bare, other.valued, alone) refl

read_plain : (word : Text) (rest : List Text) (rows : List Row) (pending : Option (Text × List Text)) (t : Texts) → Reads rest → IsOther word → is_option word ≡ false
    → long_of word ≡ None → short_of word ≡ None → Placing rows pending t word
    → verdict (between rows pending idle (length t.positionals + 1) false) (word ∷ rest) ≡ texts_from false t (word ∷ rest)
read_plain word rest rows pending t reads other alone no_long no_short (goes more next id put stands passes step) =
    goes_on _ _ word rest (turn_plain word rows pending (length t.positionals + 1) other no_long no_short ∙ passes)
    (walked_plain word rows pending (length t.positionals + 1) other no_long no_short ∙ step idle false)
    ∙ reads next (Some (id, word ∷ [])) more stands
    ∙ sym (plain_texts t word rest other alone ∙ ap (option_and_then (λ more. texts_from false more rest)) put)
read_plain word rest rows pending t reads other alone no_long no_short (stops put refused) =
    fails _ word rest UnknownArgument [] (turn_plain word rows pending (length t.positionals + 1) other no_long no_short ∙ refused)
    ∙ sym (plain_texts t word rest other alone ∙ ap (option_and_then (λ more. texts_from false more rest)) put)

read_word : (word : Text) (rest : List Text) → Form word → Reads rest → Awaits rest → Reads (word ∷ rest)
unfolding walked
read_word word rest (forms.dashes is) reads awaits rows pending t s =
    subst (λ w. verdict (between rows pending idle (length t.positionals + 1) false) (w ∷ rest) ≡ texts_from false t (w ∷ rest)) (sym is)
    (goes_on _ (between rows pending idle (length t.positionals + 1) true) (codes "--") rest refl refl ∙ behind rest rows pending idle t s)
read_word word rest (forms.bare is) reads awaits rows pending t s =
    subst (λ w. verdict (between rows pending idle (length t.positionals + 1) false) (w ∷ rest) ≡ texts_from false t (w ∷ rest)) (sym is)
    (goes_on _ (between (settled_of rows pending) (given_property []) (option property_id) (length t.positionals + 1) false) (codes "--property") rest
    (ap (λ ks. or_else ks []) s.passes) refl ∙ awaits (settled_of rows pending) t s.gives)
read_word word rest (forms.valued v is) reads awaits rows pending t s =
    subst (λ w. verdict (between rows pending idle (length t.positionals + 1) false) (w ∷ rest) ≡ texts_from false t (w ∷ rest)) (sym is)
    (read_value v rest rows pending t.positionals t.property reads s)
read_word word rest (forms.plain other alone no_long no_short) reads awaits rows pending t s =
    read_plain word rest rows pending t reads other alone no_long no_short (step_from rows pending t.positionals t.property word s)
read_word word rest (forms.unknown other alone refused) reads awaits rows pending t s =
    fails _ word rest UnknownArgument [] (turn_unknown word rows pending (length t.positionals + 1) other idle refl (refused rows pending))
    ∙ sym (unknown_texts t word rest other alone)

-- the word behind `--property`
read_awaited : (word : Text) (rest : List Text) (rows : List Row) (positionals : List Text) (property : Option Text) → AreTexts rest → Reads rest → IsOther word
    → is_option word ≡ false → long_of word ≡ None → short_of word ≡ None → Gives rows (record { positionals = positionals; property = property })
    → verdict (between rows (given_property []) (option property_id) (length positionals + 1) false) (word ∷ rest)
    ≡ option_and_then (λ more. texts_from false more rest) (put_property (record { positionals = positionals; property = property }) word)
read_awaited word rest rows positionals None u reads other alone no_long no_short g =
    let fresh : has_row property_id rows ≡ false = has_row_is property_id rows _ None g g.property in
    goes_on _ _ word rest (turn_value word rows (length positionals + 1) other no_long no_short) (walked_value word rows (length positionals + 1) other no_long no_short)
    ∙ reads rows (given_property (word ∷ [])) (record { positionals = positionals; property = Some word })
    (record { passes = option_passes word rows fresh; gives = rw (used_option word rows fresh) (gives_property rows positionals word g) })
read_awaited word rest rows positionals (Some old) u reads other alone no_long no_short g =
    goes_on _ _ word rest (turn_value word rows (length positionals + 1) other no_long no_short) (walked_value word rows (length positionals + 1) other no_long no_short)
    ∙ lost rest positionals rows (word ∷ []) ArgumentConflict [] u g.fits (option_again word rows (has_row_is property_id rows _ (Some old) g g.property))

await_word : (word : Text) (rest : List Text) → Form word → AreTexts rest → Reads rest → Awaits (word ∷ rest)
unfolding walked
await_word word rest (forms.dashes is) u reads rows t g =
    subst (λ w. verdict (between rows (given_property []) (option property_id) (length t.positionals + 1) false) (w ∷ rest) ≡ texts_from true t (w ∷ rest)) (sym is)
    (goes_on _ (between rows (given_property []) (option property_id) (length t.positionals + 1) true) (codes "--") rest refl refl
    ∙ lost_behind rest t.positionals rows [] (option property_id) InvalidValue [] g.fits refl)
await_word word rest (forms.bare is) u reads rows t g =
    subst (λ w. verdict (between rows (given_property []) (option property_id) (length t.positionals + 1) false) (w ∷ rest) ≡ texts_from true t (w ∷ rest)) (sym is)
    (fails _ (codes "--property") rest InvalidValue [] refl)
await_word word rest (forms.valued v is) u reads rows t g =
    subst (λ w. verdict (between rows (given_property []) (option property_id) (length t.positionals + 1) false) (w ∷ rest) ≡ texts_from true t (w ∷ rest)) (sym is)
    (fails _ (codes "--property=" ++ v) rest InvalidValue [] refl)
await_word word rest (forms.plain other alone no_long no_short) u reads rows t g =
    read_awaited word rest rows t.positionals t.property u reads other alone no_long no_short g
    ∙ sym (ap (λ b. cond b None (option_and_then (λ more. texts_from false more rest) (put_property t word))) alone)
await_word word rest (forms.unknown other alone refused) u reads rows t g =
    fails _ word rest UnknownArgument [] (turn_unknown word rows (given_property []) (length t.positionals + 1) other (option property_id) refl (refused rows (given_property [])))
    ∙ sym (ap (λ b. cond b None (option_and_then (λ more. texts_from false more rest) (put_property t word))) alone)

pub both : (words : List Text) → AreTexts words → Reads words × Awaits words
both [] u = (
  λ rows pending t s. ended rows pending idle (length t.positionals + 1) false t s,
  λ rows t g. ends_badly rows (given_property []) (option property_id) (length t.positionals + 1) false InvalidValue [] refl,
)
both (word ∷ rest) u =
    let ih = both rest u.1 in
    (read_word word rest (form_of word u.0) ih.0 ih.1, await_word word rest (form_of word u.0) u.1 ih.0)
