-- Dotted paths.
use Rattle.std.proofs.Common.{◌≡◌, ◌≢◌, ℕ, true, ◌||◌, ◌==◌, List, [], ◌∷◌, ◌++◌, refl, sym, ap, ◌∙◌, append_assoc, subst}
use Rattle.std.specs.List.{AllByRecursion, list_all}
use Rattle.std.proofs.lemmas.List.Folds.{list_all-append}
use Rattle.text_core.specs.Bytes.{is_digit}
use Rattle.smv_text.specs.Bytes.{is_letter}
use Rattle.smv_meaning.specs.Instances.{dotted}
use Rattle.smv_meaning.specs.laws.Booleans.{both_true, two_true}
use Rattle.smv_accepted.specs.Names.{is_name_byte, is_dotted_byte, IsIdentifier, IsDottedName}

-- ---- names without dots

abbrev pub NoDot : List ℕ → Type 0
NoDot x = AllByRecursion (λ b. b ≢ 46) x

-- no name goes on with a byte that is no dot
pub data Tail : List ℕ → Type 0 where
  ended : Tail []
  onward : (r : List ℕ) → Tail (46 ∷ r)

name_byte_dotless : (b : ℕ) → is_name_byte b ≡ true → b ≢ 46
name_byte_dotless b h e = let g : is_name_byte 46 ≡ true = ap is_name_byte (sym e) ∙ h in cc

letter_name_byte : (b : ℕ) → is_letter b ≡ true → is_name_byte b ≡ true
letter_name_byte b h = ap (λ c. (c || (is_digit b || ((b == 36) || (b == 35)))) || (b == 45)) h

letter_dotless : (b : ℕ) → is_letter b ≡ true → b ≢ 46
letter_dotless b h = name_byte_dotless b (letter_name_byte b h)

bytes_dotless : (bs : List ℕ) → list_all is_name_byte bs ≡ true → NoDot bs
bytes_dotless [] h = tt
bytes_dotless (b ∷ bs) h = let p = both_true (is_name_byte b) (list_all is_name_byte bs) h in (name_byte_dotless b p.0, bytes_dotless bs p.1)

pub identifier_dotless : (x : List ℕ) → IsIdentifier x → NoDot x
identifier_dotless [] h = absurd h
identifier_dotless (b ∷ bs) h = (letter_dotless b h.0, bytes_dotless bs h.1)

pub identifier_some : (x : List ℕ) → IsIdentifier x → x ≢ []
identifier_some [] h e = h
identifier_some (b ∷ bs) h e = cc

-- ---- two names, each with what goes on behind it

tail_dot : (b : ℕ) (bs : List ℕ) → Tail (b ∷ bs) → b ≡ 46
tail_dot b bs (onward r) = refl

pub same_front : (x y s r : List ℕ) → NoDot x → NoDot y → Tail s → Tail r → x ++ s ≡ y ++ r → x ≡ y
same_front [] [] s r h k t u e = refl
same_front [] (c ∷ y) [] r h k t u e = cc
same_front [] (c ∷ y) (b ∷ s) r h k t u e = let d = tail_dot b s t in absurd (k.0 (let f : b ≡ c = cc in sym f ∙ d))
same_front (b ∷ x) [] s [] h k t u e = cc
same_front (b ∷ x) [] s (c ∷ r) h k t u e = let d = tail_dot c r u in absurd (h.0 (let f : b ≡ c = cc in f ∙ d))
same_front (b ∷ x) (c ∷ y) s r h k t u e =
    let f : b ≡ c = cc in
    let g : x ++ s ≡ y ++ r = cc in
    let i : x ≡ y = same_front x y s r h.1 k.1 t u g in
    cc

-- ---- a path and a name, told from the dotted name

no_dot_in : (q y x : List ℕ) → x ≡ q ++ 46 ∷ y → NoDot x → ⊥
no_dot_in [] y [] f h = cc
no_dot_in (c ∷ q) y [] f h = cc
no_dot_in [] y (b ∷ x) f h = h.0 (let g : b ≡ 46 = cc in g)
no_dot_in (c ∷ q) y (b ∷ x) f h = no_dot_in q y x (let g : x ≡ q ++ 46 ∷ y = cc in g) h.1

-- a last name that has no dot
same_last : (p q x y : List ℕ) → NoDot x → NoDot y → p ++ 46 ∷ x ≡ q ++ 46 ∷ y → (p ≡ q) × (x ≡ y)
same_last [] [] x y h k e = (refl, cc)
same_last [] (c ∷ q) x y h k e = absurd (no_dot_in q y x (let f : x ≡ q ++ 46 ∷ y = cc in f) h)
same_last (b ∷ p) [] x y h k e = absurd (no_dot_in p x y (let f : y ≡ p ++ 46 ∷ x = cc in f) k)
same_last (b ∷ p) (c ∷ q) x y h k e =
    let f : b ≡ c = cc in
    let g : p ++ 46 ∷ x ≡ q ++ 46 ∷ y = cc in
    let i = same_last p q x y h k g in
    (let j = i.0 in cc, i.1)

pub dotted_is : (b : ℕ) (p x : List ℕ) → dotted (b ∷ p) x ≡ (b ∷ p) ++ 46 ∷ x
dotted_is b p x = ap (λ l. b ∷ l) (append_assoc p (46 ∷ []) x)

pub dotted_once : (p q x y : List ℕ) → NoDot x → NoDot y → dotted p x ≡ dotted q y → (p ≡ q) × (x ≡ y)
dotted_once [] [] x y h k e = (refl, e)
dotted_once [] (c ∷ q) x y h k e = absurd (no_dot_in (c ∷ q) y x (e ∙ dotted_is c q y) h)
dotted_once (b ∷ p) [] x y h k e = absurd (no_dot_in (b ∷ p) x y (sym e ∙ dotted_is b p x) k)
dotted_once (b ∷ p) (c ∷ q) x y h k e = same_last (b ∷ p) (c ∷ q) x y h k (sym (dotted_is b p x) ∙ e ∙ dotted_is c q y)

-- ---- the words of paths

name_byte_dotted : (b : ℕ) → is_name_byte b ≡ true → is_dotted_byte b ≡ true
name_byte_dotted b h = ap (λ c. c || (b == 46)) h

bytes_dotted : (bs : List ℕ) → list_all is_name_byte bs ≡ true → list_all is_dotted_byte bs ≡ true
bytes_dotted [] h = refl
bytes_dotted (b ∷ bs) h =
    let p = both_true (is_name_byte b) (list_all is_name_byte bs) h in
    two_true (is_dotted_byte b) (list_all is_dotted_byte bs) (name_byte_dotted b p.0) (bytes_dotted bs p.1)

pub identifier_dotted : (x : List ℕ) → IsIdentifier x → IsDottedName x
identifier_dotted [] h = h
identifier_dotted (b ∷ bs) h = (h.0, bytes_dotted bs h.1)

whole_dotted : (x : List ℕ) → IsIdentifier x → list_all is_dotted_byte x ≡ true
whole_dotted [] h = refl
whole_dotted (b ∷ bs) h = two_true (is_dotted_byte b) (list_all is_dotted_byte bs) (name_byte_dotted b (letter_name_byte b h.0)) (bytes_dotted bs h.1)

-- the path of an instance: none, or a dotted name
abbrev pub IsPath : List ℕ → Type 0
IsPath [] = Unit {0}
IsPath (b ∷ bs) = IsDottedName (b ∷ bs)

pub dotted_named : (p x : List ℕ) → IsPath p → IsIdentifier x → IsDottedName (dotted p x)
dotted_named [] x h k = identifier_dotted x k
dotted_named (b ∷ p) x h k =
    subst IsDottedName (sym (dotted_is b p x))
    (h.0, list_all-append is_dotted_byte p (46 ∷ x) ∙ two_true (list_all is_dotted_byte p) (list_all is_dotted_byte (46 ∷ x)) h.1 (whole_dotted x k))

named_path : (p : List ℕ) → IsDottedName p → IsPath p
named_path [] h = tt
named_path (b ∷ p) h = h

pub dotted_path : (p x : List ℕ) → IsPath p → IsIdentifier x → IsPath (dotted p x)
dotted_path p x h k = named_path (dotted p x) (dotted_named p x h k)
