-- The scanning functions find what is spelled, and nothing else.
use Rattle.std.proofs.Common.{◌≡◌, ◌≢◌, ℕ, Bool, true, false, not, cond, eqb, ◌&&◌, Option, Some, None, List, [], ◌∷◌, ◌++◌, length, take, drop, refl, sym, ap, ◌∙◌, subst, arith}
use Rattle.std.specs.Prelude.{IsTrue}
use Rattle.std.specs.List.{list_all}
use Rattle.std.proofs.lemmas.List.{take_at, drop_at, take-append-drop, append_assoc}
use Rattle.std.proofs.lemmas.Bool.{ne_eqb, eqb-true, cond_both, and_parts, or_parts, cond-true, cond-false}
use Rattle.moxi_sexpr.specs.declared.scan.Spelling.{Spelling}
use Rattle.moxi_sexpr.specs.declared.scan.Spelling.TheVariants as how
use Rattle.moxi_sexpr.specs.declared.read.TokenKind.TheVariants.{Atom}
use Rattle.text_core.specs.Bytes.{is_digit}
use Rattle.moxi_sexpr.specs.Bytes.{Stops, is_symbol_byte, is_binary_digit, is_hex_digit, is_barred_byte}
use Rattle.moxi_sexpr.specs.Atoms.{is_run, is_simple, starts_simple, doubled, prime, may_appear, spelled, goes_on, atom_of}
use Rattle.moxi_sexpr.specs.Lexing.{IsSpelled}
use Rattle.moxi_sexpr.specs.Reading.{gap_length, run_length, Scan, run_of, simple_of, with_prime, bare_of, closed_by_bar, barred_of, quote_length, quoted, quote_of, digits_of, scan_of, undoubled, value_of, token_from, token_of}
use Rattle.moxi_sexpr.proofs.Runs.{other_byte, run_take, run_drop, run_of_is, simple_run, simple_all, simple_starts, run_passes, run_stops, run_runs}
use Rattle.moxi_sexpr.proofs.Strings.{undoubled_doubled, quote_length_is, Closed, closed_outside}

no_digit : (t : Bool) → not t ≡ true → t ≡ false
no_digit true e = absurd (let g : false ≡ true = e in cc)
no_digit false e = refl

and_true : (x y : Bool) → x ≡ true → y ≡ true → (x && y) ≡ true
and_true x y e f = rw (e, f) refl

-- the first byte of a text is one of a symbol or of a numeral
symbol_first : (b : ℕ) (bs : List ℕ) → is_symbol_byte b ≡ true → is_digit b ≡ false → token_of (b ∷ bs) ≡ token_from (bare_of (b ∷ bs))
symbol_first b bs e d =
    let P = is_symbol_byte in
    let a : eqb b 40 ≡ false = other_byte P b 40 e refl in
    let c : eqb b 41 ≡ false = other_byte P b 41 e refl in
    let f : eqb b 58 ≡ false = other_byte P b 58 e refl in
    let g : eqb b 124 ≡ false = other_byte P b 124 e refl in
    let h : eqb b 34 ≡ false = other_byte P b 34 e refl in
    let i : eqb b 35 ≡ false = other_byte P b 35 e refl in
    cond-false _ _ _ a ∙ cond-false _ _ _ c ∙ ap token_from (cond-false _ _ _ f ∙ cond-false _ _ _ g ∙ cond-false _ _ _ h ∙ cond-false _ _ _ i ∙ cond-false _ _ _ d)

digit_first : (b : ℕ) (bs : List ℕ) → is_digit b ≡ true → token_of (b ∷ bs) ≡ token_from (run_of how.Numeral is_digit (b ∷ bs))
digit_first b bs e =
    let P = is_digit in
    let a : eqb b 40 ≡ false = other_byte P b 40 e refl in
    let c : eqb b 41 ≡ false = other_byte P b 41 e refl in
    let f : eqb b 58 ≡ false = other_byte P b 58 e refl in
    let g : eqb b 124 ≡ false = other_byte P b 124 e refl in
    let h : eqb b 34 ≡ false = other_byte P b 34 e refl in
    let i : eqb b 35 ≡ false = other_byte P b 35 e refl in
    cond-false _ _ _ a ∙ cond-false _ _ _ c ∙ ap token_from (cond-false _ _ _ f ∙ cond-false _ _ _ g ∙ cond-false _ _ _ h ∙ cond-false _ _ _ i ∙ cond-true _ _ _ e)

-- no bracket stands first
pub atom_token : (text : List ℕ) (b : ℕ) (rest : List ℕ) → text ≡ b ∷ rest → b ≢ 40 → b ≢ 41 → token_of text ≡ token_from (scan_of text)
atom_token text b rest is e f = subst (λ (t : List ℕ). token_of t ≡ token_from (scan_of t)) (sym is) (cond-false _ _ _ (ne_eqb b 40 e) ∙ cond-false _ _ _ (ne_eqb b 41 f))

no_gap_first : (p : ℕ → Bool) (b : ℕ) (bs : List ℕ) → p b ≡ true → p 9 ≡ false → p 10 ≡ false → p 13 ≡ false → p 32 ≡ false → p 59 ≡ false → gap_length false (b ∷ bs) ≡ 0
no_gap_first p b bs e f g h i j =
    let t : eqb b 9 ≡ false = other_byte p b 9 e f in
    let n : eqb b 10 ≡ false = other_byte p b 10 e g in
    let r : eqb b 13 ≡ false = other_byte p b 13 e h in
    let s : eqb b 32 ≡ false = other_byte p b 32 e i in
    let c : eqb b 59 ≡ false = other_byte p b 59 e j in
    rw (t, n, r, s, c) refl

-- a prime or none
primed_is : (h : Bool → Spelling) (raw : List ℕ) (primed : Bool) (rest : List ℕ) → Stops (λ b. not primed && eqb b 39) rest → with_prime h raw (prime primed ++ rest) ≡ Some (h primed, raw, rest)
primed_is h raw true rest f = refl
primed_is h raw false [] f = refl
primed_is h raw false (b ∷ bs) f = let e : eqb b 39 ≡ false = f in rw e refl

bare_stops : (primed : Bool) (rest : List ℕ) → Stops (goes_on (how.Bare primed)) rest → Stops (λ b. not primed && eqb b 39) rest
bare_stops true [] f = tt
bare_stops true (b ∷ bs) f = refl
bare_stops false [] f = tt
bare_stops false (b ∷ bs) f = (or_parts (is_symbol_byte b) (eqb b 39) f).1

bare_ends : (primed : Bool) (rest : List ℕ) → Stops (goes_on (how.Bare primed)) rest → Stops is_symbol_byte (prime primed ++ rest)
bare_ends true rest f = refl
bare_ends false [] f = tt
bare_ends false (b ∷ bs) f = (or_parts (is_symbol_byte b) (eqb b 39) f).0

bare_is : (name : List ℕ) (primed : Bool) (rest : List ℕ) → is_simple name ≡ true → Stops (goes_on (how.Bare primed)) rest → bare_of (name ++ (prime primed ++ rest)) ≡ Some (how.Bare primed, name, rest)
bare_is name primed rest e f =
    let text = name ++ (prime primed ++ rest) in
    let stops = bare_ends primed rest f in
    let a = simple_all name e in
    cond-true _ _ _ (simple_starts name (prime primed ++ rest) e)
    ∙ ap (λ x. with_prime how.Bare x (drop (run_length is_symbol_byte text) text)) (run_take is_symbol_byte name (prime primed ++ rest) a stops)
    ∙ ap (with_prime how.Bare name) (run_drop is_symbol_byte name (prime primed ++ rest) a stops)
    ∙ primed_is how.Bare name primed rest (bare_stops primed rest f)

barred_is : (name : List ℕ) (primed : Bool) (rest : List ℕ) → list_all is_barred_byte name ≡ true → Stops (goes_on (how.Barred primed)) rest
    → barred_of (name ++ 124 ∷ (prime primed ++ rest)) ≡ Some (how.Barred primed, name, rest)
barred_is name primed rest a f =
    let more = 124 ∷ (prime primed ++ rest) in
    let text = name ++ more in
    ap (λ x. closed_by_bar x (drop (run_length is_barred_byte text) text)) (run_take is_barred_byte name more a refl)
    ∙ ap (closed_by_bar name) (run_drop is_barred_byte name more a refl)
    ∙ primed_is how.Barred name primed rest f

quote_is : (name rest : List ℕ) → Stops (λ b. eqb b 34) rest → quote_of (doubled name ++ 34 ∷ rest) ≡ Some (how.Quote, doubled name, rest)
quote_is name rest f =
    let text = doubled name ++ 34 ∷ rest in
    let n : ℕ = length (doubled name) in
    let e : quote_length 0 false text ≡ Some n = quote_length_is name rest f 0 ∙ ap Some (omega arith) in
    ap (quoted text) e ∙ ap (λ x. Some (how.Quote, x, drop 1 (drop n text))) (take_at (doubled name) (34 ∷ rest) n refl)
    ∙ ap (λ x. Some (how.Quote, doubled name, drop 1 x)) (drop_at (doubled name) (34 ∷ rest) n refl)

abbrev Read : List ℕ → Spelling → List ℕ → List ℕ → Type 0
Read text h name rest = (gap_length false text ≡ 0) × (token_of text ≡ Some (Atom (atom_of h name), rest))

bare_read : (name : List ℕ) (primed : Bool) (rest : List ℕ) → is_simple name ≡ true → Stops (goes_on (how.Bare primed)) rest → Read (name ++ (prime primed ++ rest)) (how.Bare primed) name rest
bare_read [] primed rest e f = absurd (let g : false ≡ true = e in cc)
bare_read (b ∷ bs) primed rest e f =
    let start = (and_parts (starts_simple (b ∷ bs)) (list_all is_symbol_byte (b ∷ bs)) e).0 in
    let both = and_parts (is_symbol_byte b) (not (is_digit b)) start in
    let digit : is_digit b ≡ false = no_digit (is_digit b) both.1 in (
      no_gap_first is_symbol_byte b (bs ++ (prime primed ++ rest)) both.0 refl refl refl refl refl,
      symbol_first b (bs ++ (prime primed ++ rest)) both.0 digit ∙ ap token_from (bare_is (b ∷ bs) primed rest e f),
    )

numeral_read : (name rest : List ℕ) → is_run is_digit name ≡ true → Stops is_digit rest → Read (name ++ rest) how.Numeral name rest
numeral_read [] rest e f = absurd (let g : false ≡ true = e in cc)
numeral_read (b ∷ bs) rest e f =
    let d = (and_parts (is_digit b) (list_all is_digit bs) e).0 in (
      no_gap_first is_digit b (bs ++ rest) d refl refl refl refl refl,
      digit_first b (bs ++ rest) d ∙ ap token_from (run_of_is how.Numeral is_digit (b ∷ bs) rest e f),
    )

keyword_read : (name rest : List ℕ) → is_simple name ≡ true → Stops is_symbol_byte rest → Read (58 ∷ (name ++ rest)) how.Keyword name rest
keyword_read name rest e f = (
  refl,
  ap token_from (cond-true _ _ _ (simple_starts name rest e) ∙ run_of_is how.Keyword is_symbol_byte name rest (simple_run name e) f),
)

quote_read : (name rest : List ℕ) → Stops (λ b. eqb b 34) rest → Read (34 ∷ (doubled name ++ 34 ∷ rest)) how.Quote name rest
quote_read name rest f = (refl, ap token_from (quote_is name rest f) ∙ ap (λ x. Some (Atom (atom_of how.Quote x), rest)) (undoubled_doubled name))

moved_text : (text text' : List ℕ) (h : Spelling) (name rest : List ℕ) → text ≡ text' → Read text' h name rest → Read text h name rest
moved_text text text' h name rest e r = subst (λ (x : List ℕ). Read x h name rest) (sym e) r

-- what is spelled is read
read_how : (h : Spelling) (name rest : List ℕ) → IsTrue (may_appear h name) → Stops (goes_on h) rest → Read (spelled h name ++ rest) h name rest
read_how (how.Bare primed) name rest e f = moved_text _ _ (how.Bare primed) name rest (append_assoc name (prime primed) rest) (bare_read name primed rest e f)
read_how (how.Barred primed) name rest e f =
    moved_text (124 ∷ ((name ++ 124 ∷ prime primed) ++ rest)) (124 ∷ (name ++ 124 ∷ (prime primed ++ rest))) (how.Barred primed) name rest
    (ap (λ x. 124 ∷ x) (append_assoc name (124 ∷ prime primed) rest)) (refl, ap token_from (barred_is name primed rest e f))
read_how how.Keyword name rest e f = keyword_read name rest e f
read_how how.Numeral name rest e f = numeral_read name rest e f
read_how how.Binary name rest e f = (refl, ap token_from (run_of_is how.Binary is_binary_digit name rest e f))
read_how how.Hex name rest e f = (refl, ap token_from (run_of_is how.Hex is_hex_digit name rest e f))
read_how how.Quote name rest e f =
    moved_text (34 ∷ ((doubled name ++ 34 ∷ []) ++ rest)) (34 ∷ (doubled name ++ 34 ∷ rest)) how.Quote name rest
    (ap (λ x. 34 ∷ x) (append_assoc (doubled name) (34 ∷ []) rest)) (quote_read name rest f)

pub spelled_read : (text : List ℕ) (h : Spelling) (name rest : List ℕ) → IsSpelled text h name rest → (gap_length false text ≡ 0) × (token_of text ≡ Some (Atom (atom_of h name), rest))
spelled_read text h name rest s = moved_text text (spelled h name ++ rest) h name rest s.is (read_how h name rest s.may s.ends)

-- what is read is spelled
abbrev pub Found : List ℕ → Scan → Type 0
Found text None = Unit {0}
Found text (Some x) = IsSpelled text x.0 (value_of x.0 x.1) x.2

spell : (text : List ℕ) (h : Spelling) (name rest : List ℕ) → text ≡ spelled h name ++ rest → IsTrue (may_appear h name) → Stops (goes_on h) rest → IsSpelled text h name rest
spell text h name rest e f g = record { is = e; may = f; ends = g }

cut : (n : ℕ) (text : List ℕ) → text ≡ take n text ++ drop n text
cut n text = sym (take-append-drop n text)

numeral_found : (text : List ℕ) → Found text (run_of how.Numeral is_digit text)
numeral_found text =
    let n = run_length is_digit text in
    cond_both (eqb n 0) _ _ (Found text) (λ _. tt) (λ e. spell text how.Numeral (take n text) (drop n text) (cut n text) (run_runs is_digit text e) (run_stops is_digit text))

binary_found : (text : List ℕ) → Found (35 ∷ (98 ∷ text)) (run_of how.Binary is_binary_digit text)
binary_found text =
    let n = run_length is_binary_digit text in
    cond_both (eqb n 0) _ _ (Found (35 ∷ (98 ∷ text))) (λ _. tt)
    (λ e. spell (35 ∷ (98 ∷ text)) how.Binary (take n text) (drop n text) (ap (λ x. 35 ∷ (98 ∷ x)) (cut n text)) (run_runs is_binary_digit text e) (run_stops is_binary_digit text))

hex_found : (text : List ℕ) → Found (35 ∷ (120 ∷ text)) (run_of how.Hex is_hex_digit text)
hex_found text =
    let n = run_length is_hex_digit text in
    cond_both (eqb n 0) _ _ (Found (35 ∷ (120 ∷ text))) (λ _. tt)
    (λ e. spell (35 ∷ (120 ∷ text)) how.Hex (take n text) (drop n text) (ap (λ x. 35 ∷ (120 ∷ x)) (cut n text)) (run_runs is_hex_digit text e) (run_stops is_hex_digit text))

digits_found : (text : List ℕ) → Found (35 ∷ text) (digits_of text)
digits_found [] = tt
digits_found (b ∷ bs) =
    cond_both (eqb b 98) _ _ (Found (35 ∷ (b ∷ bs))) (λ e. let P : ℕ → Type 0 = λ x. Found (35 ∷ (x ∷ bs)) (run_of how.Binary is_binary_digit bs) in subst P (sym (eqb-true b 98 e)) (binary_found bs)) (λ _.
    cond_both (eqb b 120) _ None (Found (35 ∷ (b ∷ bs))) (λ e. let P : ℕ → Type 0 = λ x. Found (35 ∷ (x ∷ bs)) (run_of how.Hex is_hex_digit bs) in subst P (sym (eqb-true b 120 e)) (hex_found bs)) (λ _. tt))

-- the first run of a text that starts as a simple symbol does is one
simple_front : (text : List ℕ) → starts_simple text ≡ true → is_simple (take (run_length is_symbol_byte text) text) ≡ true
simple_front [] e = absurd (let g : false ≡ true = e in cc)
simple_front (b ∷ bs) e =
    let first : is_symbol_byte b ≡ true = (and_parts (is_symbol_byte b) (not (is_digit b)) e).0 in
    let passes = run_passes is_symbol_byte bs in
    rw first (and_true (starts_simple (b ∷ bs)) (list_all is_symbol_byte (b ∷ take (run_length is_symbol_byte bs) bs)) e (and_true (is_symbol_byte b) _ first passes))

keyword_found : (text : List ℕ) → Found (58 ∷ text) (simple_of how.Keyword text)
keyword_found text =
    let n = run_length is_symbol_byte text in
    cond_both (starts_simple text) _ None (Found (58 ∷ text)) (λ e. cond_both (eqb n 0) _ _ (Found (58 ∷ text)) (λ _. tt)
    (λ _. spell (58 ∷ text) how.Keyword (take n text) (drop n text) (ap (λ x. 58 ∷ x) (cut n text)) (simple_front text e) (run_stops is_symbol_byte text))) (λ _. tt)

no_stop : (rest : List ℕ) → Stops (λ b. not true && eqb b 39) rest
no_stop [] = tt
no_stop (b ∷ bs) = refl

-- with a prime or with none
abbrev Primes : (Bool → Spelling) → List ℕ → List ℕ → List ℕ → Type 0
Primes h text raw more = ((primed : Bool) (rest : List ℕ) → more ≡ prime primed ++ rest → Stops (λ b. not primed && eqb b 39) rest → Found text (Some (h primed, raw, rest)))

prime_step : (t : Bool) (h : Bool → Spelling) (text raw : List ℕ) (b : ℕ) (bs : List ℕ) → eqb b 39 ≡ t → Primes h text raw (b ∷ bs)
    → Found text (Some (h t, raw, cond t bs (b ∷ bs)))
prime_step true h text raw b bs e k = k true bs (ap (λ x. x ∷ bs) (eqb-true b 39 e)) (no_stop bs)
prime_step false h text raw b bs e k = k false (b ∷ bs) refl e

prime_found : (h : Bool → Spelling) (text raw more : List ℕ) → Primes h text raw more → Found text (with_prime h raw more)
prime_found h text raw [] k = k false [] refl tt
prime_found h text raw (b ∷ bs) k =
    prime_step (eqb b 39) h text raw b bs refl k

bare_both : (primed : Bool) (rest : List ℕ) → Stops is_symbol_byte (prime primed ++ rest) → Stops (λ b. not primed && eqb b 39) rest → Stops (goes_on (how.Bare primed)) rest
bare_both primed [] e f = tt
bare_both true (b ∷ bs) e f = refl
bare_both false (b ∷ bs) e f = let g : is_symbol_byte b ≡ false = e in let h : eqb b 39 ≡ false = f in rw (g, h) refl

bare_found : (text : List ℕ) → Found text (bare_of text)
bare_found text =
    let n = run_length is_symbol_byte text in
    let raw = take n text in
    cond_both (starts_simple text) _ None (Found text) (λ e. prime_found how.Bare text raw (drop n text)
    (λ primed rest same stops. spell text (how.Bare primed) raw rest (cut n text ∙ ap (λ x. raw ++ x) same ∙ sym (append_assoc raw (prime primed) rest)) (simple_front text e)
    (bare_both primed rest (subst (Stops is_symbol_byte) same (run_stops is_symbol_byte text)) stops))) (λ _. tt)

closed_found : (text raw more : List ℕ) → text ≡ raw ++ more → list_all is_barred_byte raw ≡ true → Found (124 ∷ text) (closed_by_bar raw more)
closed_found text raw [] same passes = tt
closed_found text raw (b ∷ bs) same passes =
    cond_both (eqb b 124) _ None (Found (124 ∷ text)) (λ e. prime_found how.Barred (124 ∷ text) raw bs
    (λ primed rest is stops. spell (124 ∷ text) (how.Barred primed) raw rest
    (ap (λ x. 124 ∷ x) (same ∙ ap (λ x. raw ++ x) (ap (λ x. x ∷ bs) (eqb-true b 124 e) ∙ ap (λ x. 124 ∷ x) is) ∙ sym (append_assoc raw (124 ∷ prime primed) rest)))
    passes stops)) (λ _. tt)

barred_found : (text : List ℕ) → Found (124 ∷ text) (barred_of text)
barred_found text =
    let n = run_length is_barred_byte text in
    closed_found text (take n text) (drop n text) (cut n text) (run_passes is_barred_byte text)

quoted_found : (text : List ℕ) (o : Option ℕ) → Closed 0 text o → Found (34 ∷ text) (quoted text o)
quoted_found text None h = tt
quoted_found text (Some k) (s, rest, same, stops, long) =
    let n : length (doubled s) ≡ k = omega arith in
    let front : take k text ≡ doubled s = ap (take k) same ∙ take_at (doubled s) (34 ∷ rest) k n in
    let back : drop k text ≡ 34 ∷ rest = ap (drop k) same ∙ drop_at (doubled s) (34 ∷ rest) k n in
    let value : undoubled false (take k text) ≡ s = ap (undoubled false) front ∙ undoubled_doubled s in
    let last : drop 1 (drop k text) ≡ rest = ap (drop 1) back in
    let whole : IsSpelled (34 ∷ text) how.Quote s rest = spell (34 ∷ text) how.Quote s rest (ap (λ x. 34 ∷ x) (same ∙ sym (append_assoc (doubled s) (34 ∷ []) rest))) refl stops in
    subst (λ (x : List ℕ). IsSpelled (34 ∷ text) how.Quote x (drop 1 (drop k text))) (sym value) (subst (λ (x : List ℕ). IsSpelled (34 ∷ text) how.Quote s x) (sym last) whole)

by_first : (b c : ℕ) (bs : List ℕ) (o : Scan) → eqb b c ≡ true → Found (c ∷ bs) o → Found (b ∷ bs) o
by_first b c bs o e h = let P : ℕ → Type 0 = λ x. Found (x ∷ bs) o in subst P (sym (eqb-true b c e)) h

pub scan_found : (text : List ℕ) → Found text (scan_of text)
scan_found [] = tt
scan_found (b ∷ bs) =
    let P : Scan → Type 0 = Found (b ∷ bs) in
    cond_both (eqb b 58) _ _ P (λ e. by_first b 58 bs _ e (keyword_found bs)) (λ _.
    cond_both (eqb b 124) _ _ P (λ e. by_first b 124 bs _ e (barred_found bs)) (λ _.
    cond_both (eqb b 34) _ _ P (λ e. by_first b 34 bs _ e (quoted_found bs _ (closed_outside bs 0))) (λ _.
    cond_both (eqb b 35) _ _ P (λ e. by_first b 35 bs _ e (digits_found bs)) (λ _.
    cond_both (is_digit b) _ _ P (λ _. numeral_found (b ∷ bs)) (λ _. bare_found (b ∷ bs))))))
