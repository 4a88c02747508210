-- The forms that a word can have.
use Rattle.std.proofs.Common.{◌≢◌, ◌≡◌, ◌∙◌, ◌⊎◌, ◌+◌, ◌==◌, ℕ, suc, Bool, true, false, List, [], ◌∷◌, ◌++◌, take, drop, length, Option, Some, None, refl, sym, ap, ap₂, subst, codes, inl, inr, arith}
use Rattle.std.specs.List.{before_first, position_or_len}
use Rattle.std.specs.Str.{IsUtf8, bytes_eq, chars}
use Rattle.std.specs.Char.{encode_utf8}
use Rattle.std.specs.Str.{encode_utf8_all}
use Rattle.std.specs.Prelude.{slice_get}
use Rattle.std.specs.Option.{option_map_or}
use Rattle.std.proofs.lemmas.Bool.{false_from_ne_true}
use Rattle.std.proofs.lemmas.Bool.Decides.{eqb_tells}
use Rattle.std.proofs.lemmas.Slice.Eq.{bytes_eq-Decides}
use Rattle.std.proofs.lemmas.Str.{encodes-chars}
use Rattle.std.proofs.lemmas.List.{take-append-drop}
use Rattle.clap.specs.Lexer.{long_of, short_of}
use Rattle.clap.specs.Walk.{Held, Row, Text, arg_by_long}
use Rattle.clap.specs.Faults.{bundle_fault, bundle_step_fault, flag_word_fault, flags_fault, long_fault}
use Rattle.clap.specs.declared.error.kind.ErrorKind.TheVariants.{UnknownArgument}
use Rattle.command_core.specs.Words.{is_option}
use Rattle.command_core.proofs.Shape as shape

abbrev pub held : List Row → Option (Text × List Text) → Held
held rows pending = record { rows = rows; pending = pending; skip = 0 }

-- none of the words that are read as more than themselves
pub record IsOther (word : Text) : Type 0 where
  pub dashes : bytes_eq word (codes "--") ≡ false
  pub bare : bytes_eq word (codes "--property") ≡ false
  pub valued : bytes_eq (take 11 word) (codes "--property=") ≡ false

pub data Form (word : Text) : Type 0 where
  dashes : word ≡ codes "--" → Form word
  bare : word ≡ codes "--property" → Form word
  valued : (v : Text) → word ≡ codes "--property=" ++ v → Form word
  plain : IsOther word → is_option word ≡ false → long_of word ≡ None → short_of word ≡ None → Form word
  unknown : IsOther word → is_option word ≡ true → ((rows : List Row) (pending : Option (Text × List Text)) → flag_word_fault shape.rules false (long_of word) word (held rows pending) ≡ UnknownArgument ∷ []) → Form word

abbrev is_equals : ℕ → Bool
is_equals b = b == 61

plain_one : (b : ℕ) → Form (b ∷ [])
plain_one b = elim (eqb_tells b 45) [
  | inl (e, same) ↦ subst (λ c. Form (c ∷ [])) (sym same) (plain (record { dashes = refl; bare = refl; valued = refl }) refl refl refl)
  | inr (e, other) ↦ plain (record { dashes = rw e refl; bare = rw e refl; valued = rw e refl }) refl (rw e refl) (rw e refl)
]

plain_more : (b : ℕ) (rest : Text) → (b == 45) ≡ false → is_option (b ∷ rest) ≡ false → Form (b ∷ rest)
plain_more b rest e o = plain (record { dashes = rw e refl; bare = rw e refl; valued = rw e refl }) o (rw e refl) (rw e refl)

-- the part of a text up to its first `=`
abbrev name_in : Text → Text
name_in = before_first is_equals

take_more : (n b : ℕ) (bs : Text) → take (1 + n) (b ∷ bs) ≡ b ∷ take n bs
take_more n b bs = let more : 1 + n ≡ suc n = omega arith in ap (λ m. take m (b ∷ bs)) more

name_goes_on : (b : ℕ) (bs : Text) → (b == 61) ≡ false → name_in (b ∷ bs) ≡ b ∷ name_in bs
name_goes_on b bs e = rw e (take_more (position_or_len is_equals bs) b bs)

-- what stands up to the first `=` and behind it
cut : (name text : Text) → name_in text ≡ name → (text ≡ name) ⊎ ((v : Text) × (text ≡ name ++ 61 ∷ v))
cut [] [] e = inl refl
cut [] (b ∷ bs) e = elim (eqb_tells b 61) [
  | inl (t, same) ↦ inr (bs, ap (λ c. c ∷ bs) same)
  | inr (t, other) ↦ let no : b ∷ name_in bs ≡ [] = sym (name_goes_on b bs t) ∙ e in cc
]
cut (n ∷ ns) [] e = cc
cut (n ∷ ns) (b ∷ bs) e = elim (eqb_tells b 61) [
  | inl (t, same) ↦ let no : ◌≡◌ {A = Text} [] (n ∷ ns) = rw t at e in cc
  | inr (t, other) ↦
      let parts : b ∷ name_in bs ≡ n ∷ ns = sym (name_goes_on b bs t) ∙ e in
      let head : b ≡ n = cc in
      let tail : name_in bs ≡ ns = cc in
      elim (cut ns bs tail) [
        | inl is ↦ inl (ap₂ (λ (c : ℕ) (cs : Text). c ∷ cs) head is)
        | inr (v, is) ↦ inr (v, ap₂ (λ (c : ℕ) (cs : Text). c ∷ cs) head is)
      ]
]

-- a text that goes on behind an ASCII byte has a character there
has_char : (x : ℕ) (xs : Text) → IsUtf8 (45 ∷ x ∷ xs) → (c : ℕ) × (slice_get (chars (x ∷ xs)) 0 ≡ Some c)
unfolding chars encode_utf8
has_char x xs u = go (chars (x ∷ xs)) refl
  where
    go : (cs : List ℕ) → chars (x ∷ xs) ≡ cs → (c : ℕ) × (slice_get (chars (x ∷ xs)) 0 ≡ Some c)
    go [] e = let no : 45 ∷ encode_utf8_all (chars (x ∷ xs)) ≡ 45 ∷ x ∷ xs = encodes-chars (45 ∷ x ∷ xs) u in
        let none : 45 ∷ [] ≡ 45 ∷ x ∷ xs = rw e at no in cc
    go (c ∷ cs) e = (c, rw e refl)

short_fails : (c x : ℕ) (xs : Text) (rows : List Row) (pending : Option (Text × List Text)) → slice_get (chars (x ∷ xs)) 0 ≡ Some c
    → flags_fault shape.rules false (length (x ∷ xs)) (x ∷ xs) 0 (held rows pending) ≡ UnknownArgument ∷ []
unfolding flags_fault
short_fails c x xs rows pending e =
    ap (λ o. bundle_step_fault shape.rules false o (x ∷ xs) 0 (held rows pending) (flags_fault shape.rules false (length xs))) e

short_form : (x : ℕ) (xs : Text) → IsUtf8 (45 ∷ x ∷ xs) → (x == 45) ≡ false → Form (45 ∷ x ∷ xs)
short_form x xs u e = unknown (record { dashes = rw e refl; bare = rw e refl; valued = rw e refl }) refl
    (λ rows pending.
    let no_long : long_of (45 ∷ x ∷ xs) ≡ None = rw e refl in
    let is_short : short_of (45 ∷ x ∷ xs) ≡ Some (x ∷ xs) = rw e refl in
    ap (λ l. flag_word_fault shape.rules false l (45 ∷ x ∷ xs) (held rows pending)) no_long
    ∙ ap (λ o. option_map_or (λ flags. bundle_fault shape.rules false flags (held rows pending)) o []) is_short
    ∙ short_fails (has_char x xs u).0 x xs rows pending (has_char x xs u).1)

unknown_long : (name : Text) (v : Option Text) (rows : List Row) (pending : Option (Text × List Text)) → bytes_eq shape.property_id name ≡ false
    → long_fault shape.rules false (arg_by_long shape.rules name) v (held rows pending) ≡ UnknownArgument ∷ []
unknown_long name v rows pending e = rw e refl

other_name : (x : ℕ) (xs : Text) → bytes_eq shape.property_id (name_in (x ∷ xs)) ≡ false → IsOther (45 ∷ 45 ∷ x ∷ xs)
other_name x xs e = record {
  dashes = refl;
  bare = false_from_ne_true _ (λ t.
      let is : 45 ∷ 45 ∷ x ∷ xs ≡ codes "--property" = (bytes_eq-Decides (45 ∷ 45 ∷ x ∷ xs) (codes "--property")).0 t in
      let rest : x ∷ xs ≡ codes "property" = ap (drop 2) is in
      let yes : true ≡ false = ap (λ (text : Text). bytes_eq shape.property_id (name_in text)) (sym rest) ∙ e in cc);
  valued = false_from_ne_true _ (λ t.
      let is : take 11 (45 ∷ 45 ∷ x ∷ xs) ≡ codes "--property=" = (bytes_eq-Decides (take 11 (45 ∷ 45 ∷ x ∷ xs)) (codes "--property=")).0 t in
      let whole : 45 ∷ 45 ∷ x ∷ xs ≡ codes "--property=" ++ drop 11 (45 ∷ 45 ∷ x ∷ xs) =
      sym (take-append-drop 11 (45 ∷ 45 ∷ x ∷ xs)) ∙ ap (λ (front : Text). front ++ drop 11 (45 ∷ 45 ∷ x ∷ xs)) is in
      let rest : x ∷ xs ≡ codes "property=" ++ drop 11 (45 ∷ 45 ∷ x ∷ xs) = ap (drop 2) whole in
      let yes : true ≡ false = ap (λ (text : Text). bytes_eq shape.property_id (name_in text)) (sym rest) ∙ e in cc);
}

long_form : (x : ℕ) (xs : Text) → Form (45 ∷ 45 ∷ x ∷ xs)
long_form x xs = go (bytes_eq shape.property_id (name_in (x ∷ xs))) refl
  where
    go : (t : Bool) → bytes_eq shape.property_id (name_in (x ∷ xs)) ≡ t → Form (45 ∷ 45 ∷ x ∷ xs)
    go false e = unknown (other_name x xs e) refl (λ rows pending. unknown_long (name_in (x ∷ xs)) _ rows pending e)
    go true e = elim (cut shape.property_id (x ∷ xs) (sym ((bytes_eq-Decides shape.property_id (name_in (x ∷ xs))).0 e))) [
      | inl is ↦ bare (ap (λ (text : Text). 45 ∷ 45 ∷ text) is)
      | inr (v, is) ↦ valued v (ap (λ (text : Text). 45 ∷ 45 ∷ text) is)
    ]

dashed : (c : ℕ) (rest : Text) → IsUtf8 (45 ∷ c ∷ rest) → Form (45 ∷ c ∷ rest)
dashed c rest u = elim (eqb_tells c 45) [
  | inl (e, same) ↦ subst (λ b. Form (45 ∷ b ∷ rest)) (sym same) (longer rest)
  | inr (e, other) ↦ short_form c rest u e
]
  where
    longer : (rest : Text) → Form (45 ∷ 45 ∷ rest)
    longer [] = dashes refl
    longer (x ∷ xs) = long_form x xs

-- a word has one of the forms
pub form_of : (word : Text) → IsUtf8 word → Form word
form_of [] u = plain (record { dashes = refl; bare = refl; valued = refl }) refl refl refl
form_of (b ∷ []) u = plain_one b
form_of (b ∷ c ∷ rest) u = go b (eqb_tells b 45) u
  where
    go : (b : ℕ) → (((b == 45) ≡ true) × (b ≡ 45)) ⊎ (((b == 45) ≡ false) × (b ≢ 45)) → IsUtf8 (b ∷ c ∷ rest) → Form (b ∷ c ∷ rest)
    go b (inl (e, same)) u = subst (λ a. IsUtf8 (a ∷ c ∷ rest) → Form (a ∷ c ∷ rest)) (sym same) (dashed c rest) u
    go b (inr (e, other)) u = plain_more b (c ∷ rest) e e
