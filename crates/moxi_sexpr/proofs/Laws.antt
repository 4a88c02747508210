-- What stands next is one, so what a text lexes to and its refusal are one.
use Rattle.std.proofs.Common.{◌≡◌, ◌≢◌, ℕ, zero, suc, Bool, true, false, not, ◌&&◌, ◌||◌, ◌⊎◌, cond, eqb, ltb, Option, Some, None, List, [], ◌∷◌, ◌++◌, take, drop, refl, sym, ap, ◌∙◌, subst, inl, inr, arith}
use Rattle.std.specs.List.{list_all}
use Rattle.std.proofs.lemmas.Bool.{ne_eqb, lt-ltb, le-ltb, ltb-true, ltb-false, cond_both, eqb-true, eqb-false, cond-true, cond-false, and_parts}
use Rattle.text_core.specs.declared.place.Refusal.{Refusal}
use Rattle.moxi_sexpr.specs.declared.scan.Spelling.{Spelling}
use Rattle.moxi_sexpr.specs.declared.read.TokenKind.{TokenKind}
use Rattle.moxi_sexpr.specs.declared.read.TokenKind.TheVariants.{Open, Close, Atom}
use Rattle.moxi_sexpr.specs.Bytes.{is_blank, ends_line, Stops}
use Rattle.moxi_sexpr.specs.Atoms.{spelled, atom_of}
use Rattle.moxi_sexpr.specs.Lexing.{Token, token, Mark, Next, go, limit, past, IsSpelled, Steps, blank, comment, ends, unclosed, opening, too_deep, closing, unopened, atoms, stray, Lexes, last, more, Refuses, here, later}
use Rattle.moxi_sexpr.specs.Reading.{gap_length, Scan, scan_of, value_of, token_from, token_of, nested, front, turned, behind, stands, next_of}
use Rattle.moxi_sexpr.proofs.Runs.{front_is}
use Rattle.moxi_sexpr.proofs.Scanning.{Found, scan_found, spelled_read}
use Rattle.text_core.specs.Bytes.{on_some}

-- what stands next behind blanks and comments, of which one may stand open
abbrev next_in : Bool → Mark → List ℕ → Next
next_in inside m text = stands (past m (take (gap_length inside text) text) m.depth) (drop (gap_length inside text) text)

either : (x y : Bool) → (x || y) ≡ true → (x ≡ true) ⊎ (y ≡ true)
either true y e = inl refl
either false y e = inr e

end_line_blank : (b : ℕ) → ends_line b ≡ true → is_blank b ≡ true
end_line_blank b e =
    elim (either (eqb b 10) (eqb b 13) e) [
      | inl f ↦ subst (λ (x : ℕ). is_blank x ≡ true) (sym (eqb-true b 10 f)) refl
      | inr g ↦ subst (λ (x : ℕ). is_blank x ≡ true) (sym (eqb-true b 13 g)) refl
    ]

flipped : (t : Bool) → not t ≡ false → t ≡ true
flipped true e = refl
flipped false e = absurd (let g : true ≡ false = e in cc)

and_split : (x y : Bool) → (x && y) ≡ true → (x ≡ true) × (y ≡ true)
and_split x y e = and_parts x y e

inside_step : (m : Mark) (b : ℕ) (text : List ℕ) (t : Bool) → not (ends_line b) ≡ t → next_in true m (b ∷ text) ≡ next_in t (past m (b ∷ []) m.depth) text
inside_step m b text t e = rw e refl

outside_blank : (m : Mark) (b : ℕ) (text : List ℕ) → is_blank b ≡ true → next_in false m (b ∷ text) ≡ next_in false (past m (b ∷ []) m.depth) text
outside_blank m b text e = rw e refl

comment_over : (m : Mark) (text : List ℕ) → Stops (λ b. not (ends_line b)) text → next_in true m text ≡ next_in false m text
comment_over m [] f = refl
comment_over m (b ∷ bs) f = inside_step m b bs false f ∙ sym (outside_blank m b bs (end_line_blank b (flipped (ends_line b) f)))

comment_through : (free : List ℕ) (m : Mark) (text : List ℕ) → list_all (λ b. not (ends_line b)) free ≡ true → Stops (λ b. not (ends_line b)) text
    → next_in true m (free ++ text) ≡ next_in false (past m free m.depth) text
comment_through [] m text a f = comment_over m text f
comment_through (b ∷ free) m text a f =
    let both = and_split (not (ends_line b)) (list_all (λ b. not (ends_line b)) free) a in
    inside_step m b (free ++ text) true both.0 ∙ comment_through free (past m (b ∷ []) m.depth) text both.1 f

-- where nothing is to be passed over
at_once : (m : Mark) (text : List ℕ) → gap_length false text ≡ 0 → next_in false m text ≡ stands m text
at_once m text e = ap (λ n. stands (past m (take n text) m.depth) (drop n text)) e

pub stands_token : (m : Mark) (text : List ℕ) (x : TokenKind × List ℕ) → token_of text ≡ Some x → stands m text ≡ behind m text (Some x)
stands_token m [] x e = absurd (let f : None ≡ Some x = e in cc)
stands_token m (b ∷ bs) x e = ap (behind m (b ∷ bs)) e

turned_front : (m : Mark) (k : TokenKind) (s rest : List ℕ) → turned m k (front (s ++ rest) rest) rest (nested k m.depth) ≡ turned m k s rest (nested k m.depth)
turned_front m k s rest = ap (λ x. turned m k x rest (nested k m.depth)) (front_is s rest)

no_gap : (b : ℕ) (rest : List ℕ) → is_blank b ≡ false → b ≢ 59 → gap_length false (b ∷ rest) ≡ 0
no_gap b rest e f = let g : eqb b 59 ≡ false = ne_eqb b 59 f in rw (e, g) refl

not_spelled : (text : List ℕ) (o : Scan) → Found text o → ((h : Spelling) (name more : List ℕ) → IsSpelled text h name more → ⊥) → token_from o ≡ None
not_spelled text None f none = refl
not_spelled text (Some x) f none = absurd (none x.0 (value_of x.0 x.1) x.2 f)

stray_token : (b : ℕ) (rest : List ℕ) → b ≢ 40 → b ≢ 41 → ((h : Spelling) (name more : List ℕ) → IsSpelled (b ∷ rest) h name more → ⊥) → token_of (b ∷ rest) ≡ None
stray_token b rest e f none =
    cond-false _ _ _ (ne_eqb b 40 e) ∙ cond-false _ _ _ (ne_eqb b 41 f) ∙ not_spelled (b ∷ rest) (scan_of (b ∷ rest)) (scan_found (b ∷ rest)) none

next_out : {m : Mark} {text : List ℕ} {x : Next} → Steps m text x → next_in false m text ≡ x
next_out (blank {m = m} {text = text} b e s) = outside_blank m b text e ∙ next_out s
next_out (comment {m = m} {text = text} free a f s) = comment_through free (past m (59 ∷ []) m.depth) text a f ∙ next_out s
next_out (ends m e) = let t : eqb m.depth 0 ≡ true = ap (λ n. eqb n 0) e in cond-true _ _ _ t
next_out (unclosed m h) = cond-false _ _ _ (ne_eqb m.depth 0 (λ e. omega arith))
next_out (opening m rest h) = turned_front m Open (40 ∷ []) rest ∙ ap (turned m Open (40 ∷ []) rest) (cond-true _ _ _ (lt-ltb m.depth limit h))
next_out (too_deep m rest h) = turned_front m Open (40 ∷ []) rest ∙ ap (turned m Open (40 ∷ []) rest) (cond-false _ _ _ (le-ltb m.depth limit h))
next_out (closing m rest n e) = turned_front m Close (41 ∷ []) rest ∙ ap (λ d. turned m Close (41 ∷ []) rest (nested Close d)) e
next_out (unopened m rest e) = ap (λ d. turned m Close (front (41 ∷ rest) rest) rest (nested Close d)) e
next_out (atoms m text h name rest s) =
    let r = spelled_read text h name rest s in
    at_once m text r.0 ∙ stands_token m text (Atom (atom_of h name), rest) r.1 ∙ ap (λ (x : List ℕ). go (token m.place (Atom (atom_of h name))) (past m x m.depth) rest) (ap (λ x. front x rest) s.is ∙ front_is (spelled h name) rest)
next_out (stray m b rest e f g h none) = at_once m (b ∷ rest) (no_gap b rest e f) ∙ ap (behind m (b ∷ rest)) (stray_token b rest g h none)

pub next_is : {m : Mark} {text : List ℕ} {x : Next} → Steps m text x → next_of m text ≡ x
unfolding next_of
next_is s = next_out s

-- and something stands next
depth_steps : (m : Mark) (rest : List ℕ) (d : ℕ) → m.depth ≡ d → Steps m (41 ∷ rest) (turned m Close (41 ∷ []) rest (nested Close d))
depth_steps m rest zero e = unopened m rest e
depth_steps m rest (suc n) e = closing m rest n e

open_steps : (m : Mark) (rest : List ℕ) → Steps m (40 ∷ rest) (turned m Open (40 ∷ []) rest (nested Open m.depth))
open_steps m rest =
    cond_both (ltb m.depth limit) _ _ (λ o. Steps m (40 ∷ rest) (turned m Open (40 ∷ []) rest o)) (λ e. opening m rest (ltb-true m.depth limit e)) (λ e. too_deep m rest (ltb-false m.depth limit e))

atom_steps : (m : Mark) (b : ℕ) (bs : List ℕ) (o : Scan) → is_blank b ≡ false → b ≢ 59 → b ≢ 40 → b ≢ 41 → scan_of (b ∷ bs) ≡ o → Found (b ∷ bs) o → Steps m (b ∷ bs) (behind m (b ∷ bs) (token_from o))
atom_steps m b bs None e f g h same found =
    stray m b bs e f g h (λ how name rest s. let r = (spelled_read (b ∷ bs) how name rest s).1 in
    let n : token_of (b ∷ bs) ≡ None = cond-false _ _ _ (ne_eqb b 40 g) ∙ cond-false _ _ _ (ne_eqb b 41 h) ∙ ap token_from same in
    let c : None ≡ Some (Atom (atom_of how name), rest) = sym n ∙ r in cc)
atom_steps m b bs (Some x) e f g h same found =
    let name = value_of x.0 x.1 in
    subst (λ (y : List ℕ). Steps m (b ∷ bs) (go (token m.place (Atom (atom_of x.0 name))) (past m y m.depth) x.2)) (sym (ap (λ y. front y x.2) found.is ∙ front_is (spelled x.0 name) x.2))
    (atoms m (b ∷ bs) x.0 name x.2 found)

front_steps : (m : Mark) (k : TokenKind) (s rest : List ℕ) → Steps m (s ++ rest) (turned m k s rest (nested k m.depth)) → Steps m (s ++ rest) (turned m k (front (s ++ rest) rest) rest (nested k m.depth))
front_steps m k s rest h = subst (Steps m (s ++ rest)) (sym (turned_front m k s rest)) h

standing : (m : Mark) (b : ℕ) (bs : List ℕ) → is_blank b ≡ false → b ≢ 59 → Steps m (b ∷ bs) (behind m (b ∷ bs) (token_of (b ∷ bs)))
standing m b bs e f =
    let P : Option (TokenKind × List ℕ) → Type 0 = λ o. Steps m (b ∷ bs) (behind m (b ∷ bs) o) in
    cond_both (eqb b 40) _ _ P (λ g. let Q : ℕ → Type 0 = λ c. Steps m (c ∷ bs) (behind m (c ∷ bs) (Some (Open, bs))) in subst Q (sym (eqb-true b 40 g)) (front_steps m Open (40 ∷ []) bs (open_steps m bs))) (λ g.
    cond_both (eqb b 41) _ _ P (λ h. let Q : ℕ → Type 0 = λ c. Steps m (c ∷ bs) (behind m (c ∷ bs) (Some (Close, bs))) in subst Q (sym (eqb-true b 41 h)) (front_steps m Close (41 ∷ []) bs (depth_steps m bs m.depth refl))) (λ h.
    atom_steps m b bs (scan_of (b ∷ bs)) e f (eqb-false b 40 g) (eqb-false b 41 h) refl (scan_found (b ∷ bs))))

-- a comment's bytes, and what is behind them
record Commented (m : Mark) (text : List ℕ) : Type 0 where
  pub free : List ℕ
  pub rest : List ℕ
  pub is : text ≡ free ++ rest
  pub all : list_all (λ b. not (ends_line b)) free ≡ true
  pub stops : Stops (λ b. not (ends_line b)) rest
  pub steps : Steps (past m free m.depth) rest (next_in true m text)

comment_ends : (m : Mark) (b : ℕ) (bs : List ℕ) → ends_line b ≡ true → Steps (past m (b ∷ []) m.depth) bs (next_in false (past m (b ∷ []) m.depth) bs) → Commented m (b ∷ bs)
comment_ends m b bs e s =
    let n : not (ends_line b) ≡ false = ap not e in
    record {
      free = [];
      rest = b ∷ bs;
      is = refl;
      all = refl;
      stops = n;
      steps = subst (Steps m (b ∷ bs)) (sym (inside_step m b bs false n)) (blank b (end_line_blank b e) s);
    }

comment_goes_on : (m : Mark) (b : ℕ) (bs : List ℕ) → ends_line b ≡ false → Commented (past m (b ∷ []) m.depth) bs → Commented m (b ∷ bs)
comment_goes_on m b bs e c =
    let n : not (ends_line b) ≡ true = ap not e in
    record {
      free = b ∷ c.free;
      rest = c.rest;
      is = ap (λ x. b ∷ x) c.is;
      all = rw n c.all;
      stops = c.stops;
      steps = subst (Steps (past m (b ∷ c.free) m.depth) c.rest) (sym (inside_step m b bs true n)) c.steps;
    }

comment_from : (m : Mark) (bs : List ℕ) → Commented (past m (59 ∷ []) m.depth) bs → Steps m (59 ∷ bs) (next_in true (past m (59 ∷ []) m.depth) bs)
comment_from m bs c = subst (λ (x : List ℕ). Steps m (59 ∷ x) (next_in true (past m (59 ∷ []) m.depth) bs)) (sym c.is) (comment c.free c.all c.stops c.steps)

inside_by : (t : Bool) (b : ℕ) (bs : List ℕ) (m : Mark) → ends_line b ≡ t → Steps (past m (b ∷ []) m.depth) bs (next_in false (past m (b ∷ []) m.depth) bs) → Commented (past m (b ∷ []) m.depth) bs
    → Commented m (b ∷ bs)
inside_by true b bs m e s c = comment_ends m b bs e s
inside_by false b bs m e s c = comment_goes_on m b bs e c

outside_end : (m : Mark) → Steps m [] (next_in false m [])
outside_end m = cond_both (eqb m.depth 0) _ _ (Steps m []) (λ e. ends m (eqb-true m.depth 0 e)) (λ e. unclosed m (let h = eqb-false m.depth 0 e in omega arith))

mutual
  outside : (text : List ℕ) (m : Mark) → Steps m text (next_in false m text)
  outside [] m = outside_end m
  outside (b ∷ bs) m =
      let P : Option Bool → Type 0 = λ o. Steps m (b ∷ bs) (stands (past m (take (on_some o 0 (λ i. suc (gap_length i bs))) (b ∷ bs)) m.depth) (drop (on_some o 0 (λ i. suc (gap_length i bs))) (b ∷ bs))) in
      cond_both (is_blank b) (Some false) (cond (eqb b 59) (Some true) None) P (λ e. blank b e (outside bs (past m (b ∷ []) m.depth))) (λ e.
      cond_both (eqb b 59) (Some true) None P
      (λ f. let Q : ℕ → Type 0 = λ c. Steps m (c ∷ bs) (next_in true (past m (c ∷ []) m.depth) bs) in subst Q (sym (eqb-true b 59 f)) (comment_from m bs (inside bs (past m (59 ∷ []) m.depth))))
      (λ f. standing m b bs e (eqb-false b 59 f)))

  inside : (text : List ℕ) (m : Mark) → Commented m text
  inside [] m = record { free = []; rest = []; is = refl; all = refl; stops = tt; steps = outside_end m }
  inside (b ∷ bs) m = inside_by (ends_line b) b bs m refl (outside bs (past m (b ∷ []) m.depth)) (inside bs (past m (b ∷ []) m.depth))

pub next_steps : (m : Mark) (text : List ℕ) → Steps m text (next_of m text)
unfolding next_of
next_steps m text = outside text m

pub steps_from : (m : Mark) (text : List ℕ) (x : Next) → next_of m text ≡ x → Steps m text x
steps_from m text x e = subst (Steps m text) e (next_steps m text)

one_next : {m m' : Mark} {text text' : List ℕ} {x y : Next} → Steps m text x → Steps m' text' y → m ≡ m' → text ≡ text' → x ≡ y
one_next a b e f = let p = next_is a in let q = next_is b in cc

pub one_list : {m m' : Mark} {text text' : List ℕ} {ts us : List Token} → Lexes m text ts → Lexes m' text' us → m ≡ m' → text ≡ text' → ts ≡ us
one_list (last a) (last b) e f = refl
one_list (last a) (more t m r b h) e f = let x = one_next a b e f in cc
one_list (more t m r b h) (last a) e f = let x = one_next b a e f in cc
one_list (more t m r a h) (more t' m' r' b h') e f =
    let x = one_next a b e f in
    let marks : m ≡ m' = cc in
    let rests : r ≡ r' = cc in
    let tokens : t ≡ t' = cc in
    let ih = one_list h h' marks rests in
    cc

pub no_list : {m m' : Mark} {text text' : List ℕ} {ts : List Token} {why : Refusal} → Lexes m text ts → Refuses m' text' why → m ≡ m' → text ≡ text' → ⊥
no_list (last a) (here why b) e f = let x = one_next a b e f in cc
no_list (last a) (later t m r b h) e f = let x = one_next a b e f in cc
no_list (more t m r a h) (here why b) e f = let x = one_next a b e f in cc
no_list (more t m r a h) (later t' m' r' b h') e f = let x = one_next a b e f in let marks : m ≡ m' = cc in let rests : r ≡ r' = cc in no_list h h' marks rests

pub one_refusal : {m m' : Mark} {text text' : List ℕ} {why why' : Refusal} → Refuses m text why → Refuses m' text' why' → m ≡ m' → text ≡ text' → why ≡ why'
one_refusal (here why a) (here why' b) e f = let x = one_next a b e f in cc
one_refusal (here why a) (later t m r b h) e f = let x = one_next a b e f in cc
one_refusal (later t m r a h) (here why b) e f = let x = one_next a b e f in cc
one_refusal (later t m r a h) (later t' m' r' b h') e f = let x = one_next a b e f in let marks : m ≡ m' = cc in let rests : r ≡ r' = cc in one_refusal h h' marks rests

-- a token is at the front, or the text is at its end
pub steps_at : (m : Mark) (text : List ℕ) (b : ℕ) (bs : List ℕ) (x : Next) → text ≡ b ∷ bs → is_blank b ≡ false → eqb b 59 ≡ false → stands m text ≡ x → Steps m text x
unfolding next_of
steps_at m text b bs x is e f h =
    let none : gap_length false (b ∷ bs) ≡ 0 = rw (e, f) refl in
    steps_from m text x (at_once m text (ap (gap_length false) is ∙ none) ∙ h)

pub steps_end : (m : Mark) (text : List ℕ) (x : Next) → text ≡ [] → stands m text ≡ x → Steps m text x
unfolding next_of
steps_end m text x none h = steps_from m text x (at_once m text (ap (gap_length false) none) ∙ h)
