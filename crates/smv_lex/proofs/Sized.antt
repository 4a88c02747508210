-- Adding the token that stands next: its size and kind, by its first byte.
use Rattle.std.proofs.Common.{◌≡◌, ◌<◌, ◌≤◌, ℕ, false, Option, Some, None, Result, Ok, Err, List, [], ◌∷◌, ◌++◌, length, take, drop, refl, sym, ap, ◌∙◌, subst, arith}
use Rattle.std.proofs.lemmas.List.{length-take-le}
use Rattle.std.proofs.lemmas.Bool.{cond-true, cond-false, le-leb, lt-leb}
use Rattle.text_core.specs.declared.end.End.{End}
use Rattle.text_core.specs.declared.end.End.TheVariants.{Bad, NoMemory}
use Rattle.text_core.specs.declared.place.Place.{Place}
use Rattle.text_core.specs.Bytes.{is_digit}
use Rattle.text_core.specs.Places.{after, along}
use Rattle.smv_text.specs.declared.token.Reserved.{Reserved}
use Rattle.smv_text.specs.declared.token.Sign.{Sign}
use Rattle.smv_text.specs.declared.token.Token.{Token}
use Rattle.smv_text.specs.declared.token.TokenKind.{TokenKind}
use Rattle.smv_text.specs.declared.token.TokenKind.TheVariants as kind
use Rattle.smv_text.specs.Bytes.{is_letter, look_up}
use Rattle.smv_text.specs.Keywords.{keywords}
use Rattle.smv_text.specs.Signs.{sign_bytes}
use Rattle.std.specs.Prelude.{option_map}
use Rattle.std.specs.Option.{option_or}
use Rattle.word_core.specs.Words.{BitVector}
use Rattle.smv_text.specs.Numbers.{number_of, literal_of}
use Rattle.smv_text.specs.Words.{keyword_kind, kind_of, run_kind, word_kind}
use Rattle.smv_text.specs.Lexing.{go, bad, opened_by, most_brackets}
use Rattle.smv_lex.specs.declared.adding.Added.{Added}
use Rattle.smv_lex.specs.Adding.{Adds, AddsKind, sized_token}
use Rattle.smv_lex.specs.Reading.{behind, kinded, lexeme_length, sign_at, sign_length}
use Rattle.smv_lex.proofs.Laws.{behind_more}
use Rattle.smv_lex.proofs.Lines.{lexeme_along}
use Rattle.smv_lex.proofs.Longest.{OnSign, lexeme_is, sign_fits, sign_front, some_bytes}
use Rattle.smv_lex.proofs.Spellings.{sign_read}

-- what stands next at a lexeme of this size and kind
next_at : (n : ℕ) (at : Place) (text : List ℕ) (size : ℕ) (o : Option TokenKind) → size ≡ lexeme_length text → 0 < size → kind_of (take size text) ≡ o
    → behind n at text ≡ kinded n at (take size text) (drop size text) o
next_at n at text size o e some is =
    let there : 0 < lexeme_length text = omega arith in
    behind_more n at text there ∙ sym (ap (λ k. kinded n at (take k text) (drop k text) (kind_of (take k text))) e) ∙ ap (kinded n at (take size text) (drop size text)) is

within_text : (text : List ℕ) (size : ℕ) → size ≡ lexeme_length text → size ≤ length text
within_text text size e = omega (arith, (lexeme_is text).0)

line_at : (text : List ℕ) (at : Place) (size : ℕ) → size ≡ lexeme_length text → 0 < size → after at (take size text) ≡ along at size
line_at text at size e some = subst (λ k. after at (take k text) ≡ along at k) (sym e) (lexeme_along text at (omega arith))

-- the token that stands next, where not too many brackets stand open behind it
goes : (n : ℕ) (at : Place) (text : List ℕ) (size : ℕ) (kind : TokenKind) → size ≡ lexeme_length text → 0 < size → kind_of (take size text) ≡ Some kind
    → opened_by n kind ≤ most_brackets → behind n at text ≡ go (sized_token at kind size) (along at size) (drop size text)
goes n at text size kind e some is few =
    next_at n at text size (Some kind) e some is ∙ cond-true _ _ _ (le-leb (opened_by n kind) most_brackets few)
    ∙ ap (λ k. go (sized_token at kind k) (after at (take size text)) (drop size text)) (length-take-le size text (within_text text size e))
    ∙ ap (λ p. go (sized_token at kind size) p (drop size text)) (line_at text at size e some)

-- the answer for its kind is that for the token
pub added : (n : ℕ) (at : Place) (text : List ℕ) (size : ℕ) (kind : TokenKind) (before now : List Token) (r : Result Added End)
    → size ≡ lexeme_length text → 0 < size → kind_of (take size text) ≡ Some kind → AddsKind n at kind size before now r → Adds n at text before now r
added n at text size kind before now (Ok a) e some is (items, sizes, opened, few) =
    let same : size ≡ a.size = sym sizes in
    record {
      token = sized_token at kind size;
      items = items;
      next = subst (λ (k : ℕ). behind n at text ≡ go (sized_token at kind size) (along at k) (drop k text)) same (goes n at text size kind e some is few);
      line = subst (λ (k : ℕ). after at (take k text) ≡ along at k) same (line_at text at size e some);
      opened = opened;
      few = omega arith;
      some = omega arith;
      within = omega (arith, within_text text size e);
    }
added n at text size kind before now (Err (Bad why)) e some is (same, many) =
    next_at n at text size (Some kind) e some is ∙ cond-false _ _ _ (lt-leb (opened_by n kind) most_brackets many) ∙ ap bad (sym same)
added n at text size kind before now (Err NoMemory) e some is h = tt

-- the kind of a word that is no identifier, and of one that is
one_kind : (bs : List ℕ) (o : Option Reserved) → keyword_kind bs (Some o) ≡ keyword_kind [] (Some o)
one_kind bs None = refl
one_kind bs (Some r) = refl

pub known_kind : (bs : List ℕ) (found : Option (Option Reserved)) (o : Option Reserved) (kind : TokenKind)
    → kind_of bs ≡ Some (word_kind bs) → found ≡ look_up bs keywords → found ≡ Some o → kind ≡ keyword_kind [] (Some o) → kind_of bs ≡ Some kind
known_kind bs found o kind word at is same = word ∙ ap (λ x. Some (keyword_kind bs x)) (sym at ∙ is) ∙ ap Some (one_kind bs o ∙ sym same)

pub name_kind : (bs name : List ℕ) (found : Option (Option Reserved))
    → kind_of bs ≡ Some (word_kind bs) → found ≡ look_up bs keywords → found ≡ None → name ≡ bs → kind_of bs ≡ Some (kind.Ident name)
name_kind bs name found word at is same = word ∙ ap (λ x. Some (keyword_kind bs x)) (sym at ∙ is) ∙ ap (λ x. Some (kind.Ident x)) (sym same)

-- a text that begins with neither
sign_size : (rest : List ℕ) (b : ℕ) → is_letter b ≡ false → is_digit b ≡ false → lexeme_length (b ∷ rest) ≡ sign_length (sign_at b rest)
sign_size rest b letter digit = cond-false _ _ _ letter ∙ cond-false _ _ _ digit

pub sign_added : (n : ℕ) (at : Place) (rest : List ℕ) (b : ℕ) (s : Sign) (size : ℕ) (before now : List Token) (r : Result Added End)
    → is_letter b ≡ false → is_digit b ≡ false → sign_at b rest ≡ Some s → size ≡ length (sign_bytes s)
    → AddsKind n at (kind.Sign s) size before now r → Adds n at (b ∷ rest) before now r
sign_added n at rest b s size before now r letter digit e same a =
    let text : List ℕ = b ∷ rest in
    let long : length (sign_bytes s) ≡ lexeme_length text = sym (sign_size rest b letter digit ∙ ap sign_length e) in
    let front : take size text ≡ sign_bytes s = ap (λ k. take k text) same ∙ sign_front text s (subst (OnSign text) e (sign_fits b rest)) in
    added n at text size (kind.Sign s) before now r (same ∙ long) (omega (arith, same, some_bytes s)) (ap kind_of front ∙ sign_read s) a

-- what is put, with the brackets that it opens and closes
pub is_put : (n m : ℕ) (at : Place) (size : ℕ) (kind : TokenKind) (before now : List Token) (a : Added)
    → now ≡ before ++ sized_token at kind size ∷ [] → a ≡ record { size = size; opened = m } → m ≡ opened_by n kind → m ≤ most_brackets → AddsKind n at kind size before now (Ok a)
is_put n m at size kind before now a items e opened few = (items, ap (λ x. x.size) e, ap (λ x. x.opened) e ∙ opened, omega arith)

-- a run opens and closes none
pub run_opens_none : (n : ℕ) (bs : List ℕ) (k : TokenKind) → run_kind bs ≡ Some k → opened_by n k ≡ n
run_opens_none n bs k e = by_parts (number_of bs) (literal_of bs) e
  where
    by_parts : (number : Option ℕ) (word : Option BitVector) → option_or (option_map kind.Number number) (option_map kind.Literal word) ≡ Some k → opened_by n k ≡ n
    by_parts (Some i) word e = let same : kind.Number i ≡ k = cc in ap (opened_by n) (sym same)
    by_parts None (Some w) e = let same : kind.Literal w ≡ k = cc in ap (opened_by n) (sym same)
    by_parts None None e = absurd (cc)
