-- What is read can be printed, and each text is spelled or refused.
use Rattle.std.proofs.Common.{◌≡◌, ◌≤◌, ◌<◌, ◌+◌, ℕ, zero, suc, Bool, true, false, not, cond, eqb, ◌&&◌, ◌⊎◌, Some, List, [], ◌∷◌, ◌++◌, length, refl, sym, ap, ◌∙◌, subst, append-nil, append_assoc, inl, inr, arith}
use Rattle.std.specs.Prelude.{IsTrue}
use Rattle.std.specs.List.{list_all}
use Rattle.std.proofs.lemmas.List.{length-append}
use Rattle.std.proofs.lemmas.Bool.{and_parts}
use Rattle.text_core.specs.declared.place.Place.{Place}
use Rattle.text_core.specs.declared.place.Refusal.{Refusal}
use Rattle.moxi_sexpr.specs.declared.scan.Spelling.{Spelling}
use Rattle.moxi_sexpr.specs.declared.scan.Spelling.TheVariants as how
use Rattle.moxi_sexpr.specs.declared.read.TokenKind.{TokenKind}
use Rattle.moxi_sexpr.specs.declared.read.TokenKind.TheVariants.{Open, Close, Atom}
use Rattle.moxi_sexpr.specs.Bytes.{is_symbol_byte, is_barred_byte}
use Rattle.moxi_sexpr.specs.Atoms.{is_simple, may_appear, spelled, atom_of}
use Rattle.moxi_sexpr.specs.Tree.{Tree, atom, list, Trees, trees_of, depth, depths}
use Rattle.moxi_sexpr.specs.Lexing.{Token, token, Mark, Next, finished, go, bad, limit, Steps, blank, comment, ends, unclosed, opening, too_deep, closing, unopened, atoms, stray, Lexes, last, more, Refuses, here, later, begin}
use Rattle.moxi_sexpr.specs.Grammar.{Spells, one, bracketed, SpellsAll, no_forms, forms, SpellsForms, RefusesWith}
use Rattle.moxi_sexpr.specs.Reading.{next_of}
use Rattle.moxi_sexpr.specs.Machine.{Frame, onward, shift, run}
use Rattle.moxi_sexpr.specs.Printing.{reserved_words, is_among, CanBeSpelled, IsPrintable, ArePrintable}
use Rattle.moxi_sexpr.proofs.Runs.{other_byte, simple_all}
use Rattle.moxi_sexpr.proofs.Laws.{next_steps}
use Rattle.moxi_sexpr.proofs.Forming.{goes, sound}
use Rattle.moxi_sexpr.proofs.Leading.{some_name, ended_none}

-- a byte of a simple symbol may appear in bars
barred_byte : (b : ℕ) → is_symbol_byte b ≡ true → is_barred_byte b ≡ true
barred_byte b e =
    let bar : eqb b 124 ≡ false = other_byte is_symbol_byte b 124 e refl in
    let slash : eqb b 92 ≡ false = other_byte is_symbol_byte b 92 e refl in
    rw (bar, slash) refl

symbol_barred : (name : List ℕ) → list_all is_symbol_byte name ≡ true → list_all is_barred_byte name ≡ true
symbol_barred [] e = refl
symbol_barred (b ∷ bs) e =
    let both = and_parts (is_symbol_byte b) (list_all is_symbol_byte bs) e in
    let first = barred_byte b both.0 in
    rw first (symbol_barred bs both.1)

-- a name that may appear in bars can be spelled, in bars or without
can_symbol : (t : Bool) (name : List ℕ) (primed : Bool) → (t ≡ true → is_simple name ≡ true) → list_all is_barred_byte name ≡ true → IsTrue (may_appear (cond t (how.Bare primed) (how.Barred primed)) name)
can_symbol true name primed simple barred = simple refl
can_symbol false name primed simple barred = barred

can_atom : (h : Spelling) (name : List ℕ) → IsTrue (may_appear h name) → CanBeSpelled (atom_of h name)
can_atom (how.Bare primed) name e =
    can_symbol (is_simple name && not (is_among name reserved_words)) name primed (λ t. (and_parts (is_simple name) (not (is_among name reserved_words)) t).0) (symbol_barred name (simple_all name e))
can_atom (how.Barred primed) name e = can_symbol (is_simple name && not (is_among name reserved_words)) name primed (λ t. (and_parts (is_simple name) (not (is_among name reserved_words)) t).0) e
can_atom how.Keyword name e = e
can_atom how.Numeral name e = e
can_atom how.Binary name e = e
can_atom how.Hex name e = e
can_atom how.Quote name e = refl

-- a token's atom can be spelled, and its bracket is within the limit
abbrev Level : TokenKind → ℕ → ℕ → Type 0
Level Open n after = (n < limit) × (after ≡ suc n)
Level Close n after = n ≡ suc after
Level (Atom a) n after = CanBeSpelled a × (after ≡ n)

abbrev NextLevel : ℕ → List ℕ → Next → Type 0
NextLevel n text finished = n ≡ 0
NextLevel n text (go t next rest) = Level t.kind n next.depth × (length rest < length text)
NextLevel n text (bad why) = Unit {0}

longer : (n : ℕ) (xs ys : List ℕ) (x : Next) → length xs ≤ length ys → NextLevel n xs x → NextLevel n ys x
longer n xs ys finished h l = l
longer n xs ys (go t next rest) h l = (l.0, let k = l.1 in omega arith)
longer n xs ys (bad why) h l = tt

level : {m : Mark} {text : List ℕ} {x : Next} → Steps m text x → NextLevel m.depth text x
level (blank {m = m} {text = text} {x = x} b e s) = longer m.depth text (b ∷ text) x (omega arith) (level s)
level (comment {m = m} {text = text} {x = x} free a f s) = longer m.depth text (59 ∷ (free ++ text)) x (omega (arith, length-append free text)) (level s)
level (ends m e) = e
level (unclosed m h) = tt
level (opening m rest h) = ((h, refl), omega arith)
level (too_deep m rest h) = tt
level (closing m rest n e) = (e, omega arith)
level (unopened m rest e) = tt
level (atoms m text h name rest s) =
    let some = some_name h name s.may in
    let long : length text ≡ length (spelled h name ++ rest) = ap length s.is in
    ((can_atom h name s.may, refl), omega (arith, some, long, length-append (spelled h name) rest))
level (stray m b rest e f g h none) = tt

-- tokens from a number of open brackets on
abbrev Levels : ℕ → List Token → Type 0
Levels n [] = n ≡ 0
Levels n (t ∷ ts) = (after : ℕ) × Level t.kind n after × Levels after ts

lexed_levels : {m : Mark} {text : List ℕ} {ts : List Token} → Lexes m text ts → Levels m.depth ts
lexed_levels (last s) = level s
lexed_levels (more t next rest s l) = (next.depth, (level s).0, lexed_levels l)

record FormFits (t : Tree) (n : ℕ) (rest : List Token) : Type 0 where
  pub can : IsPrintable t
  pub room : n + depth t ≤ limit
  pub left : Levels n rest

record FormsFit (ts : Trees) (n : ℕ) (rest : List Token) : Type 0 where
  pub can : ArePrintable ts
  pub room : n + depths ts ≤ limit
  pub left : Levels n rest

levels_along : (xs ys : List Token) (n k : ℕ) → xs ≡ ys → n ≡ k → Levels n xs → Levels k ys
levels_along xs ys n k e f l = subst (λ (zs : List Token). Levels k zs) e (subst (λ (i : ℕ). Levels i xs) f l)

closed_fits : (p : Place) (ts : Trees) (n after : ℕ) (q : Place) (rest : List Token) → n < limit → after ≡ suc n → FormsFit ts after (token q Close ∷ rest) → FormFits (list p ts) n rest
closed_fits p ts n after q rest h e f =
    let l = f.left in
    let room = f.room in
    let back : l.0 ≡ n = let c : after ≡ suc l.0 = l.1 in omega arith in
    record { can = f.can; room = omega arith; left = levels_along rest rest l.0 n refl back l.2 }

mutual
  form_fits : {t : Tree} {xs : List Token} → Spells t xs → (n : ℕ) (rest : List Token) → n ≤ limit → Levels n (xs ++ rest) → FormFits t n rest
  form_fits (one p a) n rest room (after, l, ls) = record { can = l.0; room = omega arith; left = levels_along rest rest after n refl l.1 ls }
  form_fits (bracketed {ts = ts} {xs = xs} p q s) n rest room (after, l, ls) =
      let h : n < limit = l.0 in
      let e : after ≡ suc n = l.1 in
      let inner = levels_along ((xs ++ token q Close ∷ []) ++ rest) (xs ++ token q Close ∷ rest) after after (append_assoc xs (token q Close ∷ []) rest) refl ls in
      closed_fits p ts n after q rest h e (forms_fit s after (token q Close ∷ rest) (omega arith) inner)

  forms_fit : {ts : Trees} {xs : List Token} → SpellsAll ts xs → (n : ℕ) (rest : List Token) → n ≤ limit → Levels n (xs ++ rest) → FormsFit ts n rest
  forms_fit no_forms n rest room l = record { can = tt; room = omega arith; left = l }
  forms_fit (forms {t = t} {ts = ts} {xs = xs} {ys = ys} s ss) n rest room l =
      let a = form_fits s n (ys ++ rest) room (levels_along ((xs ++ ys) ++ rest) (xs ++ (ys ++ rest)) n n (append_assoc xs ys rest) refl l) in
      let b = forms_fit ss n rest room a.left in
      record { can = (a.can, b.can); room = let x = a.room in let y = b.room in omega arith; left = b.left }

fits_whole : (text : List ℕ) (ts : Trees) → SpellsForms text ts → FormsFit ts 0 []
fits_whole text ts s = forms_fit s.formed 0 [] (omega arith) (levels_along s.tokens (s.tokens ++ []) 0 0 (sym (append-nil s.tokens)) refl (lexed_levels s.lexed))

pub read_printable : (text : List ℕ) (ts : Trees) → SpellsForms text ts → ArePrintable ts
read_printable text ts s = (fits_whole text ts s).can

pub read_depth : (text : List ℕ) (ts : Trees) → SpellsForms text ts → depths ts ≤ limit
read_depth text ts s = let room = (fits_whole text ts s).room in omega arith

-- such tokens are formed
record Shifts (i : TokenKind) (p : Place) (k : List Frame) (done : List Tree) (after : ℕ) : Type 0 where
  pub open_lists : List Frame
  pub forms : List Tree
  pub is : shift i p k done ≡ onward open_lists forms
  pub size : after ≡ length open_lists

shifts : (i : TokenKind) (p : Place) (k : List Frame) (done : List Tree) (n after : ℕ) → n ≡ length k → Level i n after → Shifts i p k done after
shifts Open p k done n after e l = let f : after ≡ suc n = l.1 in record { open_lists = record { place = p; before = done } ∷ k; forms = []; is = refl; size = omega arith }
shifts Close p [] done n after e l = absurd (let f : n ≡ suc after = l in omega arith)
shifts Close p (f ∷ k) done n after e l = let g : n ≡ suc after = l in record { open_lists = k; forms = f.before ++ list f.place (trees_of done) ∷ []; is = refl; size = omega arith }
shifts (Atom a) p k done n after e l = let f : after ≡ n = l.1 in record { open_lists = k; forms = done ++ atom p a ∷ []; is = refl; size = f ∙ e }

runs : (ts : List Token) (n : ℕ) (k : List Frame) (done : List Tree) → n ≡ length k → Levels n ts → (fs : List Tree) × (run ts k done ≡ Some fs)
runs [] n k done e l = (done, ended_none k done (sym e ∙ l))
runs (t ∷ ts) n k done e (after, l, ls) =
    let s = shifts t.kind t.place k done n after e l in
    let r = runs ts after s.open_lists s.forms s.size ls in
    (r.0, goes t ts k s.open_lists done s.forms s.is ∙ r.1)

-- a text has an end, of tokens or of a refusal
abbrev HasEnd : Mark → List ℕ → Type 0
HasEnd m text = ((ts : List Token) × Lexes m text ts) ⊎ ((why : Refusal) × Refuses m text why)

end_later : (m : Mark) (text : List ℕ) (t : Token) (next : Mark) (rest : List ℕ) → Steps m text (go t next rest) → HasEnd next rest → HasEnd m text
end_later m text t next rest s (inl (ts, l)) = inl (t ∷ ts, more t next rest s l)
end_later m text t next rest s (inr (why, r)) = inr (why, later t next rest s r)

end_by : (n : ℕ) (m : Mark) (text : List ℕ) (x : Next) → length text ≤ n → Steps m text x → ((k : ℕ) → suc k ≡ n → (next : Mark) (rest : List ℕ) → length rest ≤ k → HasEnd next rest) → HasEnd m text
end_by n m text finished h s ih = inl ([], last s)
end_by zero m text (go t next rest) h s ih = absurd (let l = (level s).1 in omega arith)
end_by (suc n) m text (go t next rest) h s ih = let l = (level s).1 in end_later m text t next rest s (ih n refl next rest (omega arith))
end_by n m text (bad why) h s ih = inr (why, here why s)

ends_within : (n : ℕ) (m : Mark) (text : List ℕ) → length text ≤ n → HasEnd m text
ends_within zero m text h = end_by zero m text (next_of m text) h (next_steps m text) (λ k e. absurd (omega arith))
ends_within (suc n) m text h =
    end_by (suc n) m text (next_of m text) h (next_steps m text) (λ k e next rest small. let same : k ≡ n = omega arith in ends_within n next rest (omega arith))

whole_end : (text : List ℕ) → HasEnd begin text → ((ts : Trees) × SpellsForms text ts) ⊎ ((why : Refusal) × RefusesWith text why)
whole_end text (inl (ts, l)) = let r = runs ts 0 [] [] refl (lexed_levels l) in inl (trees_of r.0, record { tokens = ts; lexed = l; formed = sound ts r.0 r.1 })
whole_end text (inr (why, r)) = inr (why, r)

pub spelled_or_refused : (text : List ℕ) → ((ts : Trees) × SpellsForms text ts) ⊎ ((why : Refusal) × RefusesWith text why)
spelled_or_refused text = whole_end text (ends_within (length text) begin text (omega arith))
