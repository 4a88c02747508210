-- What a text lexes to (SMT-LIB 2.6, section 3.1), and where it doesn't; the limit of open brackets is our own.
use Rattle.std.specs.Prelude.{◌≡◌, ◌≢◌, ◌≤◌, ◌<◌, ℕ, suc, not, IsTrue, false, List, [], ◌∷◌, ◌++◌}
use Rattle.std.specs.List.{list_all}
use Rattle.text_core.specs.declared.place.Place.{Place}
use Rattle.text_core.specs.declared.place.Kind.TheVariants.{M}
use Rattle.text_core.specs.declared.place.Refusal.{Refusal}
use Rattle.moxi_sexpr.specs.declared.scan.Spelling.{Spelling}
use Rattle.moxi_sexpr.specs.declared.read.TokenKind.{TokenKind}
use Rattle.moxi_sexpr.specs.declared.read.TokenKind.TheVariants.{Open, Close, Atom}
use Rattle.moxi_sexpr.specs.Bytes.{is_blank, ends_line, Stops}
use Rattle.text_core.specs.Places.{after, start}
use Rattle.moxi_sexpr.specs.Atoms.{may_appear, spelled, goes_on, atom_of}

-- a bracket or an atom, and its place
pub record Token : Type 0 where
  pub place : Place
  pub kind : TokenKind

abbrev pub token : Place → TokenKind → Token
token place kind = record { place = place; kind = kind }

-- a place in a text, and how many brackets stand open there
pub record Mark : Type 0 where
  pub place : Place
  pub depth : ℕ

-- what stands next: nothing more, a token and what follows it, or a refusal
pub data Next : Type 0 where
  finished : Next
  go : Token → Mark → List ℕ → Next
  bad : Refusal → Next

-- how many brackets may stand open
abbrev pub limit : ℕ
limit = 1200

abbrev pub refusal : ℕ → Place → Refusal
refusal number place = record { kind = M number; place = place }

-- the mark behind these bytes, with so many brackets open
abbrev pub past : Mark → List ℕ → ℕ → Mark
past m bytes depth = record { place = after m.place bytes; depth = depth }

-- an atom spelled so is at the front, and ends before the rest
pub record IsSpelled (text : List ℕ) (h : Spelling) (name rest : List ℕ) : Type 0 where
  pub is : text ≡ spelled h name ++ rest
  pub may : IsTrue (may_appear h name)
  pub ends : Stops (goes_on h) rest

-- Blanks, comments up to the end of their line, brackets, and atoms as long as they can be.
pub data Steps : Mark → List ℕ → Next → Type 0 where
  blank : {m : Mark} {text : List ℕ} {x : Next} (b : ℕ) → IsTrue (is_blank b) → Steps (past m (b ∷ []) m.depth) text x → Steps m (b ∷ text) x
  comment : {m : Mark} {text : List ℕ} {x : Next} (free : List ℕ) → IsTrue (list_all (λ b. not (ends_line b)) free) → Stops (λ b. not (ends_line b)) text
      → Steps (past m (59 ∷ free) m.depth) text x → Steps m (59 ∷ (free ++ text)) x
  ends : (m : Mark) → m.depth ≡ 0 → Steps m [] finished
  unclosed : (m : Mark) → 0 < m.depth → Steps m [] (bad (refusal 2 m.place))
  opening : (m : Mark) (rest : List ℕ) → m.depth < limit → Steps m (40 ∷ rest) (go (token m.place Open) (past m (40 ∷ []) (suc m.depth)) rest)
  too_deep : (m : Mark) (rest : List ℕ) → limit ≤ m.depth → Steps m (40 ∷ rest) (bad (refusal 3 m.place))
  closing : (m : Mark) (rest : List ℕ) (n : ℕ) → m.depth ≡ suc n → Steps m (41 ∷ rest) (go (token m.place Close) (past m (41 ∷ []) n) rest)
  unopened : (m : Mark) (rest : List ℕ) → m.depth ≡ 0 → Steps m (41 ∷ rest) (bad (refusal 1 m.place))
  atoms : (m : Mark) (text : List ℕ) (h : Spelling) (name rest : List ℕ) → IsSpelled text h name rest
      → Steps m text (go (token m.place (Atom (atom_of h name))) (past m (spelled h name) m.depth) rest)
  stray : (m : Mark) (b : ℕ) (rest : List ℕ) → is_blank b ≡ false → b ≢ 59 → b ≢ 40 → b ≢ 41
      → ((h : Spelling) (name more : List ℕ) → IsSpelled (b ∷ rest) h name more → ⊥) → Steps m (b ∷ rest) (bad (refusal 1 m.place))

-- the text is these tokens, with each bracket closed
pub data Lexes : Mark → List ℕ → List Token → Type 0 where
  last : {m : Mark} {text : List ℕ} → Steps m text finished → Lexes m text []
  more : {m : Mark} {text : List ℕ} {ts : List Token} (t : Token) (next : Mark) (rest : List ℕ)
      → Steps m text (go t next rest) → Lexes next rest ts → Lexes m text (t ∷ ts)

-- the least place at which the text can't go on
pub data Refuses : Mark → List ℕ → Refusal → Type 0 where
  here : {m : Mark} {text : List ℕ} (why : Refusal) → Steps m text (bad why) → Refuses m text why
  later : {m : Mark} {text : List ℕ} {why : Refusal} (t : Token) (next : Mark) (rest : List ℕ)
      → Steps m text (go t next rest) → Refuses next rest why → Refuses m text why

abbrev pub begin : Mark
begin = record { place = start; depth = 0 }
