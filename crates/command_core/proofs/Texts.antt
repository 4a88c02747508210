-- The words read with the value of `--property` as a text, and then as a number.
use Rattle.std.proofs.Common.{◌≡◌, ◌∙◌, ◌&&◌, ℕ, Bool, true, false, cond, if◌then◌else◌, List, [], ◌∷◌, ◌++◌, take, drop, length, is_some, option_map, Option, Some, None, refl, sym, ap, subst, codes, nat_lt, nat_le}
use Rattle.std.specs.Prelude.{option_and_then}
use Rattle.std.specs.Str.{bytes_eq}
use Rattle.std.specs.Str.Parse.{digits_value}
use Rattle.std.proofs.lemmas.Bool.Decides.{Decides-eqb}
use Rattle.clap.specs.Walk.{Text}
use Rattle.command_core.specs.Clap.{Texts, number_in, numbered}
use Rattle.command_core.specs.Numbers.{invariant_number}
use Rattle.command_core.specs.Words.{PlainWords, is_option, read_from, read_positionals, with_positional, with_property, words_of}

abbrev pub no_texts : Texts
no_texts = record { positionals = []; property = None }

abbrev pub put_positional : Texts → Text → Option Texts
put_positional given word =
    if nat_lt (length given.positionals) 3 then Some (record given { positionals = given.positionals ++ word ∷ [] }) else None

abbrev pub put_property : Texts → Text → Option Texts
put_property given text = if is_some given.property then None else Some (record given { property = Some text })

abbrev pub texts_behind : Texts → List Text → Option Texts
texts_behind given [] = Some given
texts_behind given (word ∷ rest) = option_and_then (λ more. texts_behind more rest) (put_positional given word)

-- as the definition reads them, but for a value that begins with `-`, which is no number
abbrev pub texts_from : Bool → Texts → List Text → Option Texts
texts_from awaited given [] = if awaited then None else Some given
texts_from true given (word ∷ rest) =
    if is_option word then None else option_and_then (λ more. texts_from false more rest) (put_property given word)
texts_from false given (word ∷ rest) =
    if bytes_eq word (codes "--") then texts_behind given rest
    else (if bytes_eq word (codes "--property") then texts_from true given rest
    else (if bytes_eq (take 11 word) (codes "--property=") then option_and_then (λ more. texts_from false more rest) (put_property given (drop 11 word))
    else (if is_option word then None else option_and_then (λ more. texts_from false more rest) (put_positional given word))))

joined : {A B C : Type 0} (f : A → Option B) (g : B → Option C) (o : Option A)
    → option_and_then g (option_and_then f o) ≡ option_and_then (λ x. option_and_then g (f x)) o
joined f g None = refl
joined f g (Some x) = refl

-- a step and what follows it, where each goes with its numbers
carried : (o : Option Texts) (m : Option PlainWords) (more : Texts → Option Texts) (step next : PlainWords → Option PlainWords)
    → ((t : Texts) → option_and_then numbered (more t) ≡ option_and_then next (numbered t)) → option_and_then numbered o ≡ option_and_then step m
    → option_and_then numbered (option_and_then more o) ≡ option_and_then (λ g. option_and_then next (step g)) m
carried None m more step next ih e = ap (option_and_then next) e ∙ joined step next m
carried (Some t) m more step next ih e = ih t ∙ ap (option_and_then next) e ∙ joined step next m

nothing_left : {A B : Type 0} (m : Option A) → None ≡ option_and_then {T = A} {U = B} (λ g. None) m
nothing_left None = refl
nothing_left (Some g) = refl

positional_step : (t : Texts) (word : Text) → option_and_then numbered (put_positional t word) ≡ option_and_then (λ g. with_positional g word) (numbered t)
positional_step t word = kept (nat_lt (length t.positionals) 3) ∙ same (number_in t.property)
  where
    more : List Text
    more = t.positionals ++ word ∷ []

    kept : (b : Bool) → option_and_then numbered (cond b (Some (record t { positionals = t.positionals ++ word ∷ [] })) None)
        ≡ cond b (option_map (λ j. record { positionals = t.positionals ++ word ∷ []; property = j }) (number_in t.property)) None
    kept true = refl
    kept false = refl

    none : (b : Bool) → cond {A = Option PlainWords} b None None ≡ None
    none true = refl
    none false = refl

    same : (o : Option (Option ℕ)) → cond (nat_lt (length t.positionals) 3) (option_map (λ j. record { positionals = t.positionals ++ word ∷ []; property = j }) o) None
        ≡ option_and_then (λ g. with_positional g word) (option_map (λ j. record { positionals = t.positionals; property = j }) o)
    same None = none (nat_lt (length t.positionals) 3)
    same (Some j) = refl

property_step : (positionals : List Text) (property : Option Text) (text : Text)
    → option_and_then numbered (put_property (record { positionals = positionals; property = property }) text)
    ≡ option_and_then (λ g. with_property g text) (numbered (record { positionals = positionals; property = property }))
property_step positionals None text = go (invariant_number text)
  where
    go : (o : Option ℕ) → option_map {U = PlainWords} (λ j. record { positionals = positionals; property = j }) (option_map Some o)
        ≡ option_map {U = PlainWords} (λ j. record { positionals = positionals; property = Some j }) o
    go None = refl
    go (Some j) = refl
property_step positionals (Some old) text = go (invariant_number old)
  where
    go : (o : Option ℕ) → None ≡ option_and_then (λ g. with_property g text) (option_map {U = PlainWords} (λ j. record { positionals = positionals; property = j }) (option_map Some o))
    go None = refl
    go (Some j) = refl

-- a word that begins with `-` is no number
no_number : (word : Text) → is_option word ≡ true → invariant_number word ≡ None
no_number [] e = cc
no_number (b ∷ []) e = cc
no_number (b ∷ c ∷ rest) e =
    subst (λ a. invariant_number (a ∷ c ∷ rest) ≡ None) (sym ((Decides-eqb b 45).0 e))
    (ends (nat_le 1 (length (45 ∷ c ∷ rest))) (nat_le (length (45 ∷ c ∷ rest)) 9) (digits_value 10 (45 ∷ c ∷ rest)))
  where
    ends : (p q : Bool) (n : ℕ) → cond (p && (q && false)) (Some n) None ≡ None
    ends true true n = refl
    ends true false n = refl
    ends false q n = refl

behind_agree : (words : List Text) (t : Texts) → option_and_then numbered (texts_behind t words) ≡ option_and_then (λ g. read_positionals g words) (numbered t)
behind_agree [] t = whole (numbered t)
  where
    whole : (m : Option PlainWords) → m ≡ option_and_then (λ g. Some g) m
    whole None = refl
    whole (Some g) = refl
behind_agree (word ∷ rest) t =
    carried (put_positional t word) (numbered t) (λ more. texts_behind more rest) (λ g. with_positional g word) (λ more. read_positionals more rest)
    (behind_agree rest) (positional_step t word)

-- the texts with their numbers are the words of the definition
pub texts_agree : (words : List Text) (awaited : Bool) (t : Texts)
    → option_and_then numbered (texts_from awaited t words) ≡ option_and_then (λ g. read_from awaited g words) (numbered t)
texts_agree [] true t = nothing_left (numbered t)
texts_agree [] false t = whole (numbered t)
  where
    whole : (m : Option PlainWords) → m ≡ option_and_then (λ g. Some g) m
    whole None = refl
    whole (Some g) = refl
texts_agree (word ∷ rest) true t = go (is_option word) refl (texts_agree rest false)
  where
    go : (b : Bool) → is_option word ≡ b → ((s : Texts) → option_and_then numbered (texts_from false s rest) ≡ option_and_then (λ g. read_from false g rest) (numbered s))
        → option_and_then numbered (cond b None (option_and_then (λ more. texts_from false more rest) (put_property t word)))
        ≡ option_and_then (λ g. option_and_then (λ more. read_from false more rest) (with_property g word)) (numbered t)
    go true e ih = refused (numbered t)
      where
        none : (b : Bool) (o : Option ℕ) (g : PlainWords) → o ≡ None → None ≡ option_and_then (λ more. read_from false more rest) (cond b None (option_map (λ j. record g { property = Some j }) o))
        none true o g e = refl
        none false o g e = rw e refl

        refused : (m : Option PlainWords) → None ≡ option_and_then (λ g. option_and_then (λ more. read_from false more rest) (with_property g word)) m
        refused None = refl
        refused (Some g) = none (is_some g.property) (invariant_number word) g (no_number word e)
    go false e ih = carried (put_property t word) (numbered t) (λ more. texts_from false more rest) (λ g. with_property g word) (λ more. read_from false more rest)
        ih (property_step t.positionals t.property word)
texts_agree (word ∷ rest) false t =
    go (bytes_eq word (codes "--")) (bytes_eq word (codes "--property")) (bytes_eq (take 11 word) (codes "--property=")) (is_option word) (texts_agree rest)
  where
    go : (dashes bare valued option : Bool)
        → ((awaited : Bool) (s : Texts) → option_and_then numbered (texts_from awaited s rest) ≡ option_and_then (λ g. read_from awaited g rest) (numbered s))
        → option_and_then numbered (cond dashes (texts_behind t rest) (cond bare (texts_from true t rest)
        (cond valued (option_and_then (λ more. texts_from false more rest) (put_property t (drop 11 word)))
        (cond option None (option_and_then (λ more. texts_from false more rest) (put_positional t word))))))
        ≡ option_and_then (λ g. cond dashes (read_positionals g rest) (cond bare (read_from true g rest)
        (cond valued (option_and_then (λ more. read_from false more rest) (with_property g (drop 11 word)))
        (cond option None (option_and_then (λ more. read_from false more rest) (with_positional g word)))))) (numbered t)
    go true bare valued option ih = behind_agree rest t
    go false true valued option ih = ih true t
    go false false true option ih =
        carried (put_property t (drop 11 word)) (numbered t) (λ more. texts_from false more rest) (λ g. with_property g (drop 11 word)) (λ more. read_from false more rest)
        (ih false) (property_step t.positionals t.property (drop 11 word))
    go false false false true ih = nothing_left (numbered t)
    go false false false false ih =
        carried (put_positional t word) (numbered t) (λ more. texts_from false more rest) (λ g. with_positional g word) (λ more. read_from false more rest)
        (ih false) (positional_step t word)

pub words_agree : (words : List Text) → option_and_then numbered (texts_from false no_texts words) ≡ words_of words
unfolding words_of
words_agree words = texts_agree words false no_texts
