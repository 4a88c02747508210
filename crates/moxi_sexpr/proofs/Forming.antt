-- What is spelled is formed, and what is formed is spelled.
use Rattle.std.proofs.Common.{◌≡◌, ℕ, suc, Bool, true, false, cond, ltb, Option, Some, None, Result, Ok, Err, List, [], ◌∷◌, ◌++◌, length, refl, sym, ap, ◌∙◌, subst, append_assoc, append-nil}
use Rattle.text_core.specs.declared.place.Place.{Place}
use Rattle.text_core.specs.declared.place.Refusal.{Refusal}
use Rattle.moxi_sexpr.specs.declared.read.TokenKind.{TokenKind}
use Rattle.moxi_sexpr.specs.declared.read.TokenKind.TheVariants.{Open, Close, Atom}
use Rattle.moxi_sexpr.specs.Tree.{Tree, atom, list, Trees, no_trees, tree, trees_of, list_of}
use Rattle.moxi_sexpr.specs.Lexing.{Token, token, limit, refusal}
use Rattle.moxi_sexpr.specs.Grammar.{Spells, one, bracketed, SpellsAll, no_forms, forms}
use Rattle.moxi_sexpr.specs.Reading.{nested}
use Rattle.moxi_sexpr.specs.Machine.{Frame, Move, stop, onward, closed, shift, step, next_move, ended, run}

pub back : (ts : Trees) → trees_of (list_of ts) ≡ ts
back no_trees = refl
back (tree t ts) = ap (tree t) (back ts)

-- one token
pub goes : (x : Token) (xs : List Token) (k j : List Frame) (done more : List Tree) → shift x.kind x.place k done ≡ onward j more → run (x ∷ xs) k done ≡ run xs j more
unfolding run
goes x xs k j done more e = ap (λ m. next_move m (λ k done. run xs k done)) e

mutual
  pub comes : {t : Tree} {xs : List Token} → Spells t xs → (k : List Frame) (done : List Tree) (rest : List Token) → run (xs ++ rest) k done ≡ run rest k (done ++ t ∷ [])
  comes (one p a) k done rest = goes (token p (Atom a)) rest k k done (done ++ atom p a ∷ []) refl
  comes (bracketed {ts = ts} {xs = xs} p q s) k done rest =
      let f : Frame = record { place = p; before = done } in
      ap (λ zs. run (token p Open ∷ zs) k done) (append_assoc xs (token q Close ∷ []) rest)
      ∙ goes (token p Open) (xs ++ token q Close ∷ rest) k (f ∷ k) done [] refl
      ∙ comes_all s (f ∷ k) [] (token q Close ∷ rest)
      ∙ goes (token q Close) rest (f ∷ k) k (list_of ts) (done ++ list p ts ∷ []) (ap (λ us. onward k (done ++ list p us ∷ [])) (back ts))

  pub comes_all : {ts : Trees} {xs : List Token} → SpellsAll ts xs → (k : List Frame) (done : List Tree) (rest : List Token) → run (xs ++ rest) k done ≡ run rest k (done ++ list_of ts)
  comes_all no_forms k done rest = ap (run rest k) (sym (append-nil done))
  comes_all (forms {t = t} {ts = ts} {xs = xs} {ys = ys} s ss) k done rest =
      ap (λ zs. run zs k done) (append_assoc xs ys rest) ∙ comes s k done (ys ++ rest) ∙ comes_all ss k (done ++ t ∷ []) rest
      ∙ ap (run rest k) (append_assoc done (t ∷ []) (list_of ts))

ends_whole : (done : List Tree) → run [] [] done ≡ Some done
unfolding run
ends_whole done = refl

comes_whole : (ts : Trees) (xs : List Token) → SpellsAll ts xs → run xs [] [] ≡ Some (list_of ts)
comes_whole ts xs s = ap (λ zs. run zs [] []) (sym (append-nil xs)) ∙ comes_all s [] [] [] ∙ ends_whole (list_of ts)

-- tokens spell one list of forms
pub one_forms : (ts us : Trees) (xs : List Token) → SpellsAll ts xs → SpellsAll us xs → ts ≡ us
one_forms ts us xs a b =
    let p = comes_whole ts xs a in
    let q = comes_whole us xs b in
    let e : list_of ts ≡ list_of us = cc in
    sym (back ts) ∙ ap trees_of e ∙ back us

-- these tokens led to these open lists and these forms
abbrev pub Led : List Token → List Frame → List Tree → Type 0
Led zs [] done = SpellsAll (trees_of done) zs
Led zs (f ∷ k) done = (ys : List Token) × (us : List Token) × (zs ≡ ys ++ token f.place Open ∷ us) × SpellsAll (trees_of done) us × Led ys k f.before

spells_more : (done : List Tree) (t : Tree) (us vs : List Token) → SpellsAll (trees_of done) us → Spells t vs → SpellsAll (trees_of (done ++ t ∷ [])) (us ++ vs)
spells_more [] t us vs no_forms v = subst (SpellsAll (tree t no_trees)) (append-nil vs) (forms v no_forms)
spells_more (d ∷ done) t us vs (forms {xs = xs} {ys = ys} s ss) v =
    subst (SpellsAll (tree d (trees_of (done ++ t ∷ [])))) (sym (append_assoc xs ys vs)) (forms s (spells_more done t ys vs ss v))

led_more : (zs vs : List Token) (k : List Frame) (done : List Tree) (t : Tree) → Led zs k done → Spells t vs → Led (zs ++ vs) k (done ++ t ∷ [])
led_more zs vs [] done t l v = spells_more done t zs vs l v
led_more zs vs (f ∷ k) done t l v =
    (l.0, l.1 ++ vs, ap (λ z. z ++ vs) l.2 ∙ append_assoc l.0 (token f.place Open ∷ l.1) vs, spells_more done t l.1 vs l.3 v, l.4)

led_closed : (zs : List Token) (p : Place) (f : Frame) (k : List Frame) (done : List Tree) → Led zs (f ∷ k) done → Led (zs ++ token p Close ∷ []) k (f.before ++ list f.place (trees_of done) ∷ [])
led_closed zs p f k done l =
    let x : Token = token p Close in
    subst (λ z. Led z k (f.before ++ list f.place (trees_of done) ∷ [])) (sym (ap (λ z. z ++ x ∷ []) l.2 ∙ append_assoc l.0 (token f.place Open ∷ l.1) (x ∷ [])))
    (led_more l.0 (token f.place Open ∷ (l.1 ++ x ∷ [])) k f.before (list f.place (trees_of done)) l.4 (bracketed f.place p l.3))

-- what a move leads to
abbrev LedBy : List Token → Move → Type 0
LedBy zs (stop f) = Unit {0}
LedBy zs (onward k done) = Led zs k done

led_close : (zs : List Token) (p : Place) (k : List Frame) (done : List Tree) → Led zs k done → LedBy (zs ++ token p Close ∷ []) (closed p k done)
led_close zs p [] done l = tt
led_close zs p (f ∷ k) done l = led_closed zs p f k done l

led_step : (zs : List Token) (p : Place) (k : List Frame) (done : List Tree) (i : TokenKind) → Led zs k done → LedBy (zs ++ token p i ∷ []) (shift i p k done)
led_step zs p k done Open l = (zs, [], refl, no_forms, l)
led_step zs p k done Close l = led_close zs p k done l
led_step zs p k done (Atom a) l = led_more zs (token p (Atom a) ∷ []) k done (atom p a) l (one p a)

abbrev Whole : List Token → Option (List Tree) → Type 0
Whole zs (Some ts) = SpellsAll (trees_of ts) zs
Whole zs None = Unit {0}

whole_end : (zs : List Token) (k : List Frame) (done : List Tree) → Led zs k done → Whole zs (ended k done)
whole_end zs [] done l = l
whole_end zs (f ∷ k) done l = tt

whole_after : (zs all : List Token) (m : Move) (next : List Frame → List Tree → Option (List Tree)) → ((k : List Frame) (done : List Tree) → Led zs k done → Whole all (next k done))
    → LedBy zs m → Whole all (next_move m next)
whole_after zs all (stop f) next h l = tt
whole_after zs all (onward k done) next h l = h k done l

pub whole : (xs zs : List Token) (k : List Frame) (done : List Tree) → Led zs k done → Whole (zs ++ xs) (run xs k done)
unfolding run
whole [] zs k done l = subst (λ z. Whole z (ended k done)) (sym (append-nil zs)) (whole_end zs k done l)
whole (x ∷ xs) zs k done l =
    subst (λ z. Whole z (next_move (shift x.kind x.place k done) (λ k done. run xs k done))) (append_assoc zs (x ∷ []) xs)
    (whole_after (zs ++ x ∷ []) ((zs ++ x ∷ []) ++ xs) (shift x.kind x.place k done) (λ k done. run xs k done) (λ j more h. whole xs (zs ++ x ∷ []) j more h) (led_step zs x.place k done x.kind l))

pub sound : (xs : List Token) (ts : List Tree) → run xs [] [] ≡ Some ts → SpellsAll (trees_of ts) xs
sound xs ts e = subst (Whole xs) e (whole xs [] [] [] no_forms)

-- a move within the limit, and how many brackets stand open behind it
size_of : Move → ℕ
size_of (stop f) = 0
size_of (onward k done) = length k

abbrev GoesOn : Move → Move → Result ℕ ℕ → List Frame → List Tree → Type 0
GoesOn m s n j more = m ≡ onward j more → (s ≡ onward j more) × (n ≡ Ok (length j))

abbrev sized : ℕ → Result ℕ ℕ
sized n = Ok n

same_size : (k j : List Frame) (done more : List Tree) → onward k done ≡ onward j more → sized (length k) ≡ sized (length j)
unfolding size_of
same_size k j done more e = ap (λ m. sized (size_of m)) e

open_goes : (t : Bool) (p : Place) (k j : List Frame) (done more : List Tree)
    → GoesOn (cond t (onward (record { place = p; before = done } ∷ k) []) (stop (refusal 3 p))) (onward (record { place = p; before = done } ∷ k) []) (cond t (Ok (suc (length k))) (Err 3)) j more
open_goes true p k j done more e = (e, same_size (record { place = p; before = done } ∷ k) j [] more e)
open_goes false p k j done more e = absurd (cc)

pub step_goes : (i : TokenKind) (p : Place) (k j : List Frame) (done more : List Tree) → step i p k done ≡ onward j more → (shift i p k done ≡ onward j more) × (nested i (length k) ≡ Ok (length j))
step_goes Open p k j done more e = open_goes (ltb (length k) limit) p k j done more e
step_goes Close p [] j done more e = absurd (cc)
step_goes Close p (f ∷ k) j done more e = (e, same_size k j _ more e)
step_goes (Atom a) p k j done more e = (e, same_size k j _ more e)

abbrev pub Stopped : Result ℕ ℕ → Place → Refusal → Type 0
Stopped n p why = (number : ℕ) × (n ≡ Err number) × (why ≡ refusal number p)

why_of : Move → Refusal → Refusal
why_of (stop f) r = f
why_of (onward k done) r = r

same_why : (a b : Refusal) → stop a ≡ stop b → b ≡ a
unfolding why_of
same_why a b e = sym (ap (λ m. why_of m a) e)

open_stops : (t : Bool) (p : Place) (k : List Frame) (done : List Tree) (why : Refusal) → cond t (onward (record { place = p; before = done } ∷ k) []) (stop (refusal 3 p)) ≡ stop why
    → Stopped (cond t (Ok (suc (length k))) (Err 3)) p why
open_stops true p k done why e = absurd (cc)
open_stops false p k done why e = (3, refl, same_why (refusal 3 p) why e)

pub step_stops : (i : TokenKind) (p : Place) (k : List Frame) (done : List Tree) (why : Refusal) → step i p k done ≡ stop why → Stopped (nested i (length k)) p why
step_stops Open p k done why e = open_stops (ltb (length k) limit) p k done why e
step_stops Close p [] done why e = (1, refl, same_why (refusal 1 p) why e)
step_stops Close p (f ∷ k) done why e = absurd (cc)
step_stops (Atom a) p k done why e = absurd (cc)
