-- Signs, words, names and numbers as readers.
use Rattle.std.proofs.Common.{◌≡◌, ℕ, Bool, true, false, Some, List, [], ◌∷◌, ◌++◌, refl, ap, ◌∙◌}
use Rattle.text_core.specs.declared.place.Place.{Place}
use Rattle.smv_text.specs.declared.token.Reserved.{Reserved}
use Rattle.smv_text.specs.declared.token.Reserved.TheVariants as words
use Rattle.smv_text.specs.declared.token.Sign.{Sign}
use Rattle.smv_text.specs.declared.token.Sign.TheVariants as signs
use Rattle.smv_text.specs.declared.token.TokenKind.{TokenKind}
use Rattle.smv_text.specs.declared.token.TokenKind.TheVariants as kind
use Rattle.smv_text.specs.declared.token.Token.{Token}
use Rattle.smv_text.specs.Tree.{Tree}
use Rattle.smv_grammar.specs.Marks.{is_sign, is_word}
use Rattle.smv_grammar.proofs.Signs as marks
use Rattle.smv_grammar.specs.Readers.{Reader, mapped}
use Rattle.smv_grammar.specs.Rules.{mark, sign, word, name, number, name_of, number_of}
use Rattle.smv_grammar.proofs.Lawful.{Lawful}
use Rattle.smv_grammar.proofs.Choices.{Free, of_none, One, lawful_one}
use Rattle.smv_grammar.proofs.Mapped.{lawful_mapped}

pub sign_itself : (s : Sign) → is_sign s (kind.Sign s) ≡ true
sign_itself signs.Open = refl
sign_itself _ = refl

pub word_itself : (w : Reserved) → is_word w (kind.Reserved w) ≡ true
word_itself words.Module = refl
word_itself _ = refl

pub sign_is : (s : Sign) (k : TokenKind) → is_sign s k ≡ true → k ≡ kind.Sign s
sign_is s k e = marks.sign_is k s e

pub word_is : (w : Reserved) (k : TokenKind) → is_word w k ≡ true → k ≡ kind.Reserved w
word_is w k e = marks.word_is k w e

pub name_is : (k : TokenKind) (n : List ℕ) → name_of k ≡ Some n → k ≡ kind.Ident n
name_is (kind.Ident m) n e = let f : m ≡ n = cc in ap kind.Ident f
name_is _ n e = cc

pub number_is : (k : TokenKind) (n : ℕ) → number_of k ≡ Some n → k ≡ kind.Number n
number_is (kind.Number m) n e = let f : m ≡ n = cc in ap kind.Number f
number_is _ n e = cc

marked : (b : Bool) (u : Unit {0}) → mark b ≡ Some u → b ≡ true
marked true u e = refl
marked false u e = cc

-- the same, where two relations say the same
module _ {A : Type 0} (r : Reader A) (R S : A → List Token → Type 0) (of : A → List Tree) (stops : List Token → Type 0) where
  pub lawful_as : Lawful r R of stops → ((v : A) (ys : List Token) → R v ys → S v ys) → ((v : A) (ys : List Token) → S v ys → R v ys) → Lawful r S of stops
  lawful_as l to from = record {
    sound = λ h xs a g rest e. let p = l.sound h xs a g rest e in record {
      value = p.value;
      tokens = p.tokens;
      split = p.split;
      spells = to p.value p.tokens p.spells;
      high = p.high;
      same = p.same;
    };
    complete = λ v ys d h rest stop. l.complete v ys (from v ys d) h rest stop;
    stays = l.stays;
    keeps = l.keeps;
    begins = λ h xs n e. let b = l.begins h xs n e in record {
      front = b.front;
      back = b.back;
      remainder = b.remainder;
      value = b.value;
      split = b.split;
      count = b.count;
      spells = to b.value (b.front ++ b.remainder) b.spells;
    };
    unique = λ v w ys zs rest other d e stop stop' same. l.unique v w ys zs rest other (from v ys d) (from w zs e) stop stop' same;
  }

-- a reader that stops before fewer tokens
module _ {A : Type 0} (r : Reader A) (R : A → List Token → Type 0) (of : A → List Tree) (stops : List Token → Type 0) where
  pub lawful_before : (ends : List Token → Type 0) → Lawful r R of stops → ((rest : List Token) → ends rest → stops rest) → Lawful r R of ends
  lawful_before ends l h = record {
    sound = l.sound;
    complete = λ v ys d i rest stop. l.complete v ys d i rest (h rest stop);
    stays = l.stays;
    keeps = l.keeps;
    begins = l.begins;
    unique = λ v w ys zs rest other d e stop stop' same. l.unique v w ys zs rest other d e (h rest stop) (h other stop') same;
  }

-- one token of this kind
abbrev pub At : {A : Type 0} → (A → TokenKind) → A × Place → List Token → Type 0
At of v xs = (x : Token) × (xs ≡ x ∷ []) × (x.kind ≡ of v.0) × (v.1 ≡ x.place)

abbrev pub token : TokenKind → Token
token k = record { kind = k; place = record { line = 1; column = 1; offset = 0 }; length = 1 }

abbrev pub SignAt : Sign → Unit {0} × Place → List Token → Type 0
SignAt s = At (λ (u : Unit {0}). kind.Sign s)

abbrev pub WordAt : Reserved → Unit {0} × Place → List Token → Type 0
WordAt w = At (λ (u : Unit {0}). kind.Reserved w)

abbrev pub NameAt : List ℕ × Place → List Token → Type 0
NameAt = At kind.Ident

abbrev pub NumberAt : ℕ × Place → List Token → Type 0
NumberAt = At kind.Number

pub lawful_sign : (s : Sign) → Lawful (sign s) (SignAt s) of_none Free
lawful_sign s = lawful_as (sign s) (One (λ k. mark (is_sign s k))) (SignAt s) of_none Free
    (lawful_one (λ k. mark (is_sign s k)) (token (kind.Sign s)) tt (ap mark (sign_itself s)))
    (λ v ys d. (d.0, d.1, sign_is s d.0.kind (marked (is_sign s d.0.kind) v.0 d.2), d.3))
    (λ v ys d. (d.0, d.1, ap (λ k. mark (is_sign s k)) d.2 ∙ ap mark (sign_itself s), d.3))

pub lawful_word : (w : Reserved) → Lawful (word w) (WordAt w) of_none Free
lawful_word w = lawful_as (word w) (One (λ k. mark (is_word w k))) (WordAt w) of_none Free
    (lawful_one (λ k. mark (is_word w k)) (token (kind.Reserved w)) tt (ap mark (word_itself w)))
    (λ v ys d. (d.0, d.1, word_is w d.0.kind (marked (is_word w d.0.kind) v.0 d.2), d.3))
    (λ v ys d. (d.0, d.1, ap (λ k. mark (is_word w k)) d.2 ∙ ap mark (word_itself w), d.3))

pub lawful_name : Lawful name NameAt of_none Free
lawful_name = lawful_as name (One name_of) NameAt of_none Free (lawful_one name_of (token (kind.Ident [])) [] refl)
    (λ v ys d. (d.0, d.1, name_is d.0.kind v.0 d.2, d.3)) (λ v ys d. (d.0, d.1, ap name_of d.2, d.3))

pub lawful_number : Lawful number NumberAt of_none Free
lawful_number = lawful_as number (One number_of) NumberAt of_none Free (lawful_one number_of (token (kind.Number 0)) 0 refl)
    (λ v ys d. (d.0, d.1, number_is d.0.kind v.0 d.2, d.3)) (λ v ys d. (d.0, d.1, ap number_of d.2, d.3))

-- what is made from what is spelled
abbrev pub Made : {A B : Type 0} → (A → B) → (A → List Token → Type 0) → B → List Token → Type 0
Made {A} f R b ys = (a : A) × (f a ≡ b) × R a ys

pub lawful_made : {A B : Type 0} (f : A → B) (r : Reader A) (R : A → List Token → Type 0) (of : A → List Tree) (of' : B → List Tree) (stops : List Token → Type 0)
    → Lawful r R of stops → ((a : A) → of' (f a) ≡ of a) → Lawful (mapped f r) (Made f R) of' stops
lawful_made f r R of of' stops l ofs = lawful_mapped f r R of stops l (Made f R) of' (λ a ys d. (a, refl, d)) (λ b ys d. d) ofs

pub some_sign : (s : Sign) → (v : Unit {0} × Place) × (ys : List Token) × SignAt s v ys
some_sign s = ((tt, (token (kind.Sign s)).place), token (kind.Sign s) ∷ [], (token (kind.Sign s), refl, refl, refl))

pub some_number : (v : ℕ × Place) × (ys : List Token) × NumberAt v ys
some_number = ((0, (token (kind.Number 0)).place), token (kind.Number 0) ∷ [], (token (kind.Number 0), refl, refl, refl))
