-- What is printed reads back to the same forms but for places.
use Rattle.std.proofs.Common.{◌≡◌, ◌≤◌, ◌<◌, ◌+◌, ℕ, suc, Bool, true, false, not, cond, eqb, ◌&&◌, ◌||◌, Result, Ok, Err, List, [], ◌∷◌, ◌++◌, refl, sym, ap, ◌∙◌, subst, append_assoc, append-nil, arith}
use Rattle.std.specs.Prelude.{IsTrue, IfOk}
use Rattle.std.proofs.lemmas.Bool.{eqb-true}
use Rattle.text_core.specs.declared.place.Place.{Place}
use Rattle.moxi_sexpr.specs.declared.form.Atom.{Atom as AnAtom}
use Rattle.moxi_sexpr.specs.declared.form.Atom.TheVariants as kinds
use Rattle.moxi_sexpr.specs.declared.scan.Spelling.{Spelling}
use Rattle.moxi_sexpr.specs.declared.scan.Spelling.TheVariants as how
use Rattle.moxi_sexpr.specs.declared.read.TokenKind.TheVariants.{Open, Close, Atom}
use Rattle.moxi_sexpr.specs.Bytes.{Stops, is_blank}
use Rattle.text_core.specs.Places.{start}
use Rattle.moxi_sexpr.specs.Atoms.{is_simple, may_appear, spelled, goes_on, atom_of}
use Rattle.moxi_sexpr.specs.Tree.{Tree, atom, list, Trees, no_trees, tree, depth, depths, unplaced, all_unplaced}
use Rattle.moxi_sexpr.specs.Lexing.{Token, token, Mark, go, limit, past, Steps, blank, ends, opening, closing, atoms, Lexes, last, more, begin}
use Rattle.moxi_sexpr.specs.Grammar.{Spells, one, bracketed, SpellsAll, no_forms, forms}
use Rattle.moxi_sexpr.specs.Writing.{Writes, word, brackets, WritesParts, no_parts, parts, WritesOthers, no_others, others, WritesLines, no_lines, lines}
use Rattle.moxi_sexpr.specs.Printing.{reserved_words, is_among, spelling_of, name_of, printed_atom, printed, printed_parts, printed_forms, IsPrintable, ArePrintable, ReadsBack}

-- bytes at which each atom ends
abbrev is_end : ℕ → Bool
is_end b = eqb b 10 || (eqb b 32 || eqb b 41)

abbrev Ends : List ℕ → Type 0
Ends rest = Stops (λ b. not (is_end b)) rest

end_byte : (p : ℕ → Bool) (b : ℕ) (x y z : Bool) → eqb b 10 ≡ x → eqb b 32 ≡ y → eqb b 41 ≡ z → not (x || (y || z)) ≡ false → p 10 ≡ false → p 32 ≡ false → p 41 ≡ false → p b ≡ false
end_byte p b true y z e f g h i j k = ap p (eqb-true b 10 e) ∙ i
end_byte p b false true z e f g h i j k = ap p (eqb-true b 32 f) ∙ j
end_byte p b false false true e f g h i j k = ap p (eqb-true b 41 g) ∙ k
end_byte p b false false false e f g h i j k = absurd (let l : true ≡ false = h in cc)

stops_by : (p : ℕ → Bool) (rest : List ℕ) → Ends rest → p 10 ≡ false → p 32 ≡ false → p 41 ≡ false → Stops p rest
stops_by p [] e i j k = tt
stops_by p (b ∷ bs) e i j k = end_byte p b (eqb b 10) (eqb b 32) (eqb b 41) refl refl refl e i j k

atom_stops : (h : Spelling) (rest : List ℕ) → Ends rest → Stops (goes_on h) rest
atom_stops (how.Bare true) rest e = stops_by (goes_on (how.Bare true)) rest e refl refl refl
atom_stops (how.Bare false) rest e = stops_by (goes_on (how.Bare false)) rest e refl refl refl
atom_stops (how.Barred true) rest e = stops_by (goes_on (how.Barred true)) rest e refl refl refl
atom_stops (how.Barred false) rest e = stops_by (goes_on (how.Barred false)) rest e refl refl refl
atom_stops how.Keyword rest e = stops_by (goes_on how.Keyword) rest e refl refl refl
atom_stops how.Numeral rest e = stops_by (goes_on how.Numeral) rest e refl refl refl
atom_stops how.Binary rest e = stops_by (goes_on how.Binary) rest e refl refl refl
atom_stops how.Hex rest e = stops_by (goes_on how.Hex) rest e refl refl refl
atom_stops how.Quote rest e = stops_by (goes_on how.Quote) rest e refl refl refl

word_step : (h : Spelling) (name : List ℕ) (m : Mark) (rest : List ℕ) → IsTrue (may_appear h name) → Ends rest
    → Steps m (spelled h name ++ rest) (go (token m.place (Atom (atom_of h name))) (past m (spelled h name) m.depth) rest)
word_step h name m rest may e = atoms m (spelled h name ++ rest) h name rest (record { is = refl; may = may; ends = atom_stops h rest e })

-- a blank before a text changes no token
lex_blank : {m : Mark} {text : List ℕ} {ts : List Token} (b : ℕ) → IsTrue (is_blank b) → Lexes (past m (b ∷ []) m.depth) text ts → Lexes m (b ∷ text) ts
lex_blank b e (last s) = last (blank b e s)
lex_blank b e (more t next rest s l) = more t next rest (blank b e s) l

-- the text reads back to the form, and then the rest stands
record Again (t : Tree) (text : List ℕ) (m : Mark) (rest : List ℕ) : Type 0 where
  pub form : Tree
  pub same : unplaced form ≡ unplaced t
  pub tokens : List Token
  pub spells : Spells form tokens
  pub next : Mark
  pub level : next.depth ≡ m.depth
  pub lexes : (ts : List Token) → Lexes next rest ts → Lexes m text (tokens ++ ts)

record AllAgain (ts : Trees) (text : List ℕ) (m : Mark) (rest : List ℕ) : Type 0 where
  pub trees : Trees
  pub same : all_unplaced trees ≡ all_unplaced ts
  pub tokens : List Token
  pub spells : SpellsAll trees tokens
  pub next : Mark
  pub level : next.depth ≡ m.depth
  pub lexes : (zs : List Token) → Lexes next rest zs → Lexes m text (tokens ++ zs)

-- one form and those behind it
joined : (t : Tree) (ts : Trees) (text middle rest : List ℕ) (m : Mark) (a : Again t text m middle) → AllAgain ts middle a.next rest → AllAgain (tree t ts) text m rest
joined t ts text middle rest m a b = record {
  trees = tree a.form b.trees;
  same = ap (λ x. tree x (all_unplaced b.trees)) a.same ∙ ap (tree (unplaced t)) b.same;
  tokens = a.tokens ++ b.tokens;
  spells = forms a.spells b.spells;
  next = b.next;
  level = b.level ∙ a.level;
  lexes = λ zs l. subst (Lexes m text) (sym (append_assoc a.tokens b.tokens zs)) (a.lexes (b.tokens ++ zs) (b.lexes zs l));
}

moved : (ts : Trees) (text text' : List ℕ) (m : Mark) (rest : List ℕ) → text ≡ text' → AllAgain ts text' m rest → AllAgain ts text m rest
moved ts text text' m rest e a = subst (λ (x : List ℕ). AllAgain ts x m rest) (sym e) a

behind_blank : (b : ℕ) (ts : Trees) (text : List ℕ) (m : Mark) (rest : List ℕ) → IsTrue (is_blank b) → AllAgain ts text (past m (b ∷ []) m.depth) rest → AllAgain ts (b ∷ text) m rest
behind_blank b ts text m rest e a = record {
  trees = a.trees;
  same = a.same;
  tokens = a.tokens;
  spells = a.spells;
  next = a.next;
  level = a.level;
  lexes = λ zs l. lex_blank b e (a.lexes zs l);
}

bracket_again : (p : Place) (ts : Trees) (body : List ℕ) (m : Mark) (rest : List ℕ) → m.depth < limit → AllAgain ts (body ++ 41 ∷ rest) (past m (40 ∷ []) (suc m.depth)) (41 ∷ rest)
    → Again (list p ts) ((40 ∷ (body ++ 41 ∷ [])) ++ rest) m rest
bracket_again p ts body m rest h a =
    let close : Token = token a.next.place Close in
    let inner : Mark = past m (40 ∷ []) (suc m.depth) in
    record {
      form = list m.place a.trees;
      same = ap (list start) a.same;
      tokens = token m.place Open ∷ (a.tokens ++ close ∷ []);
      spells = bracketed m.place a.next.place a.spells;
      next = past a.next (41 ∷ []) m.depth;
      level = refl;
      lexes = λ zs l. subst (λ (x : List ℕ). Lexes m (40 ∷ x) (token m.place Open ∷ ((a.tokens ++ close ∷ []) ++ zs))) (sym (append_assoc body (41 ∷ []) rest))
          (more (token m.place Open) inner (body ++ 41 ∷ rest) (opening m (body ++ 41 ∷ rest) h)
          (subst (Lexes inner (body ++ 41 ∷ rest)) (sym (append_assoc a.tokens (close ∷ []) zs)) (a.lexes (close ∷ zs) (more close (past a.next (41 ∷ []) m.depth) rest (closing a.next rest m.depth a.level) l))));
    }

others_end : {ts : Trees} {ys : List ℕ} → WritesOthers ts ys → (rest : List ℕ) → Ends rest → Ends (ys ++ rest)
others_end no_others rest e = e
others_end (others w ws) rest e = refl

nothing_again : (m : Mark) (rest : List ℕ) → AllAgain no_trees rest m rest
nothing_again m rest = record { trees = no_trees; same = refl; tokens = []; spells = no_forms; next = m; level = refl; lexes = λ zs l. l }

mutual
  tree_again : {t : Tree} {xs : List ℕ} → Writes t xs → (m : Mark) (rest : List ℕ) → m.depth + depth t ≤ limit → Ends rest → Again t (xs ++ rest) m rest
  tree_again (word p h name may) m rest room e = record {
    form = atom m.place (atom_of h name);
    same = refl;
    tokens = token m.place (Atom (atom_of h name)) ∷ [];
    spells = one m.place (atom_of h name);
    next = past m (spelled h name) m.depth;
    level = refl;
    lexes = λ ts l. more (token m.place (Atom (atom_of h name))) (past m (spelled h name) m.depth) rest (word_step h name m rest may e) l;
  }
  tree_again (brackets {ts = ts} {body = body} p w) m rest room e =
      bracket_again p ts body m rest (omega arith) (parts_again w (past m (40 ∷ []) (suc m.depth)) (41 ∷ rest) (omega arith) refl)

  parts_again : {ts : Trees} {xs : List ℕ} → WritesParts ts xs → (m : Mark) (rest : List ℕ) → m.depth + depths ts ≤ limit → Ends rest → AllAgain ts (xs ++ rest) m rest
  parts_again no_parts m rest room e = nothing_again m rest
  parts_again (parts {t = t} {ts = ts} {xs = xs} {ys = ys} w ws) m rest room e =
      let middle : List ℕ = ys ++ rest in
      let a = tree_again w m middle (omega arith) (others_end ws rest e) in
      moved (tree t ts) _ (xs ++ middle) m rest (append_assoc xs ys rest)
      (joined t ts (xs ++ middle) middle rest m a (others_again ws a.next rest (let l = a.level in omega arith) e))

  others_again : {ts : Trees} {xs : List ℕ} → WritesOthers ts xs → (m : Mark) (rest : List ℕ) → m.depth + depths ts ≤ limit → Ends rest → AllAgain ts (xs ++ rest) m rest
  others_again no_others m rest room e = nothing_again m rest
  others_again (others {t = t} {ts = ts} {xs = xs} {ys = ys} w ws) m rest room e =
      let middle : List ℕ = ys ++ rest in
      let inner : Mark = past m (32 ∷ []) m.depth in
      let a = tree_again w inner middle (omega arith) (others_end ws rest e) in
      behind_blank 32 (tree t ts) ((xs ++ ys) ++ rest) m rest refl
      (moved (tree t ts) _ (xs ++ middle) inner rest (append_assoc xs ys rest) (joined t ts (xs ++ middle) middle rest inner a (others_again ws a.next rest (let l = a.level in omega arith) e)))

lines_again : {ts : Trees} {xs : List ℕ} → WritesLines ts xs → (m : Mark) → m.depth + depths ts ≤ limit → AllAgain ts xs m []
lines_again no_lines m room = nothing_again m []
lines_again (lines {t = t} {ts = ts} {xs = xs} {ys = ys} w ws) m room =
    let middle : List ℕ = 10 ∷ ys in
    let a = tree_again w m middle (omega arith) refl in
    joined t ts (xs ++ middle) middle [] m a (behind_blank 10 ts ys a.next [] refl (lines_again ws (past a.next (10 ∷ []) a.next.depth) (let l = a.level in omega arith)))

pub written_back : (text : List ℕ) (ts : Trees) → WritesLines ts text → depths ts ≤ limit → ReadsBack text ts
written_back text ts w room =
    let a = lines_again w begin (omega arith) in
    let level : a.next.depth ≡ 0 = a.level in
    record {
      forms = a.trees;
      spelled = record { tokens = a.tokens ++ []; lexed = a.lexes [] (last (ends a.next level)); formed = subst (SpellsAll a.trees) (sym (append-nil a.tokens)) a.spells };
      same = a.same;
    }

-- what is printed is written
pub symbol_again : (name : List ℕ) (primed t : Bool) → atom_of (cond t (how.Bare primed) (how.Barred primed)) name ≡ kinds.Symbol name primed
symbol_again name primed true = refl
symbol_again name primed false = refl

atom_again : (a : AnAtom) → atom_of (spelling_of a) (name_of a) ≡ a
atom_again (kinds.Symbol name primed) = symbol_again name primed (is_simple name && not (is_among name reserved_words))
atom_again (kinds.Keyword name) = refl
atom_again (kinds.Numeral name) = refl
atom_again (kinds.Binary name) = refl
atom_again (kinds.Hex name) = refl
atom_again (kinds.Quote name) = refl

mutual
  printed_writes : (t : Tree) → IsPrintable t → Writes t (printed t)
  printed_writes (atom p a) h = let P : AnAtom → Type 0 = λ x. Writes (atom p x) (printed_atom a) in subst P (atom_again a) (word p (spelling_of a) (name_of a) h)
  printed_writes (list p ts) h = brackets p (printed_parts_write ts h)

  printed_parts_write : (ts : Trees) → ArePrintable ts → WritesParts ts (printed_parts [] ts)
  printed_parts_write no_trees h = no_parts
  printed_parts_write (tree t ts) h = parts (printed_writes t h.0) (printed_others_write ts h.1)

  printed_others_write : (ts : Trees) → ArePrintable ts → WritesOthers ts (printed_parts (32 ∷ []) ts)
  printed_others_write no_trees h = no_others
  printed_others_write (tree t ts) h = others (printed_writes t h.0) (printed_others_write ts h.1)

printed_lines : (ts : Trees) → ArePrintable ts → WritesLines ts (printed_forms ts)
printed_lines no_trees h = no_lines
printed_lines (tree t ts) h = lines (printed_writes t h.0) (printed_lines ts h.1)

pub reads_back : (ts : Trees) → ArePrintable ts → depths ts ≤ limit → ReadsBack (printed_forms ts) ts
reads_back ts h room = written_back (printed_forms ts) ts (printed_lines ts h) room

pub reads_back_from : {E : Type 0} (r : Result (List ℕ) E) (ts : Trees) → IfOk r (λ text. text ≡ printed_forms ts) → ArePrintable ts → depths ts ≤ limit → IfOk r (λ text. ReadsBack text ts)
reads_back_from (Ok text) ts e h room = subst (λ (x : List ℕ). ReadsBack x ts) (sym e) (reads_back ts h room)
reads_back_from (Err x) ts e h room = tt
