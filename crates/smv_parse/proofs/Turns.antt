-- Which reader the first token leads to.
use Rattle.std.proofs.Common.{◌≡◌, ℕ, suc, true, false, cond, Option, Some, None, List, [], ◌∷◌, length, refl, sym, ap, ◌∙◌}
use Rattle.std.specs.Prelude.{is_some}
use Rattle.text_core.specs.declared.place.Place.{Place}
use Rattle.smv_text.specs.declared.token.Reserved.{Reserved}
use Rattle.smv_text.specs.declared.token.Reserved.TheVariants as words
use Rattle.smv_text.specs.declared.token.Sign.{Sign}
use Rattle.smv_text.specs.declared.token.Sign.TheVariants as signs
use Rattle.smv_text.specs.declared.token.Token.{Token}
use Rattle.smv_text.specs.declared.token.TokenKind.{TokenKind}
use Rattle.smv_text.specs.declared.token.TokenKind.TheVariants as kind
use Rattle.smv_text.specs.declared.tree.Member.TheVariants.{Symbol, Integer}
use Rattle.smv_text.specs.declared.tree.Path.{Path}
use Rattle.smv_text.specs.declared.tree.VarKind.{VarKind}
use Rattle.smv_text.specs.declared.tree.When.{When}
use Rattle.smv_text.specs.Tree.{PlainDomain, PlainElement}
use Rattle.smv_text.specs.Tree.{Tree}
use Rattle.smv_parse.specs.Answers.{first_is, is_name, begins_target, begins_section}
use Rattle.smv_grammar.specs.Marks.{is_word}
use Rattle.smv_grammar.specs.Readers.{Reading, found, died, Reader, nothing, fail, both, mapped, Pick, picked, either}
use Rattle.smv_grammar.specs.Reading.{after, after_word}
use Rattle.smv_grammar.specs.Rules.{name, name_of, behind, listed, bracketed, member, symbol_pick, integer, integer_pick, interval, domain, domain_pick, item_pick, definition_pick, body, path, path_pick, target_pick, assigned, assignment_pick, optional, label_pick, label, element_pick}
use Rattle.smv_grammar.proofs.Choices.{Unpicked, either_picks, either_passes, one_reads, one_dies, one_ends}
use Rattle.smv_grammar.proofs.Lawful.{found_same, not_both, died_count, both_reads, both_dies, both_dies_first}
use Rattle.smv_parse.proofs.Leads.{after_found, word_found, not_first, not_first_word}
use Rattle.smv_grammar.proofs.Mapped.{mapped_reads, mapped_dies}
use Rattle.smv_grammar.proofs.Modules.{no_value}
use Rattle.smv_grammar.proofs.Sections.{always_of, assignment_of}

-- by a name
pub name_ends : (h : Option Place) → name h [] ≡ died 0
name_ends h = one_ends name_of h

pub name_goes : {A : Type 0} (pick : Pick A) (r : List ℕ → Place → Reader A) → ((n : List ℕ) (p : Place) → pick (kind.Ident n) p ≡ Some (r n p)) → (h g : Option Place) (xs : List Token) (v : List ℕ × Place) (rest : List Token)
    → name h xs ≡ found v g rest → either pick fail h xs ≡ r v.0 v.1 h rest
name_goes pick r is h g [] v rest e = absurd (not_both (sym e ∙ name_ends h))
name_goes {A} pick r is h g (x ∷ xs) v rest e = go x.kind refl
  where
    go : (k : TokenKind) → x.kind ≡ k → either pick fail h (x ∷ xs) ≡ r v.0 v.1 h rest
    go (kind.Ident n) f =
        let m = found_same (sym (one_reads name_of h x xs n (ap name_of f)) ∙ e) in
        either_picks pick fail h x xs (r n x.place) (ap (λ k. pick k x.place) f ∙ is n x.place)
        ∙ ap (λ (z : List ℕ × Place). r z.0 z.1 h xs) m.0 ∙ ap (r v.0 v.1 h) m.2
    go k f = absurd (not_both (sym e ∙ one_dies name_of h x xs (ap name_of f)))

pub name_fails : {A : Type 0} (pick : Pick A) → ((k : TokenKind) (p : Place) → name_of k ≡ None → pick k p ≡ None) → (h : Option Place) (xs : List Token) (n : ℕ) → name h xs ≡ died n → either pick fail h xs ≡ died n
name_fails pick none h [] n e = either_passes pick fail h [] tt ∙ ap died (died_count (name h []) 0 n (name_ends h) e)
name_fails pick none h (x ∷ xs) n e = go (name_of x.kind) refl
  where
    go : (o : Option (List ℕ)) → name_of x.kind ≡ o → either pick fail h (x ∷ xs) ≡ died n
    go None f = either_passes pick fail h (x ∷ xs) (none x.kind x.place f) ∙ ap died (died_count (name h (x ∷ xs)) (suc (length xs)) n (one_dies name_of h x xs f) e)
    go (Some m) f = absurd (not_both (sym (one_reads name_of h x xs m f) ∙ e))

pub item_nameless : (j : VarKind) (k : TokenKind) (p : Place) → name_of k ≡ None → item_pick j k p ≡ None
item_nameless j (kind.Ident n) p e = absurd (let f : Some n ≡ None = e in cc)
item_nameless j _ p e = refl

pub definition_nameless : (k : TokenKind) (p : Place) → name_of k ≡ None → definition_pick k p ≡ None
definition_nameless (kind.Ident n) p e = absurd (let f : Some n ≡ None = e in cc)
definition_nameless _ p e = refl

-- members
pub member_name : (h g : Option Place) (xs : List Token) (v : List ℕ × Place) (rest : List Token) → first_is is_name xs ≡ true → name h xs ≡ found v g rest → member h xs ≡ found (Symbol v.0) g rest
unfolding member
member_name h g [] v rest t e = absurd (let f : false ≡ true = t in cc)
member_name h g (x ∷ xs) v rest t e = go x.kind refl t
  where
    go : (k : TokenKind) → x.kind ≡ k → is_name k ≡ true → either symbol_pick (mapped Integer integer) h (x ∷ xs) ≡ found (Symbol v.0) g rest
    go (kind.Ident n) f t =
        let m = found_same (sym (one_reads name_of h x xs n (ap name_of f)) ∙ e) in
        either_picks symbol_pick (mapped Integer integer) h x xs (nothing (Symbol n)) (ap (λ k. symbol_pick k x.place) f)
        ∙ ap (λ (z : List ℕ × Place). found (Symbol z.0) h xs) m.0 ∙ ap (λ z. found (Symbol v.0) z xs) m.1 ∙ ap (found (Symbol v.0) g) m.2
    go _ f t = absurd (let i : false ≡ true = t in cc)

pub named_lives : (h : Option Place) (xs : List Token) (n : ℕ) → first_is is_name xs ≡ true → name h xs ≡ died n → ⊥
named_lives h [] n t e = let f : false ≡ true = t in cc
named_lives h (x ∷ xs) n t e = go x.kind refl t
  where
    go : (k : TokenKind) → x.kind ≡ k → is_name k ≡ true → ⊥
    go (kind.Ident m) f t = not_both (sym (one_reads name_of h x xs m (ap name_of f)) ∙ e)
    go _ f t = let i : false ≡ true = t in cc

pub member_other : (h : Option Place) (xs : List Token) → first_is is_name xs ≡ false → member h xs ≡ mapped Integer integer h xs
unfolding member
member_other h xs t = either_passes symbol_pick (mapped Integer integer) h xs (go xs t)
  where
    kinds : (k : TokenKind) (p : Place) → is_name k ≡ false → symbol_pick k p ≡ None
    kinds (kind.Ident n) p f = absurd (let i : true ≡ false = f in cc)
    kinds _ p f = refl

    go : (zs : List Token) → first_is is_name zs ≡ false → Unpicked symbol_pick zs
    go [] f = tt
    go (z ∷ zs) f = kinds z.kind z.place f

-- brackets
pub bracketed_none : {A : Type 0} (r : Reader A) (h : Option Place) (xs : List Token) → after signs.Open xs ≡ None → bracketed r h xs ≡ found [] h xs
unfolding bracketed
bracketed_none {A} r h xs e = either_passes (behind signs.Open (either (behind signs.Close (nothing [])) (listed r signs.Close))) (nothing []) h xs (go xs e)
  where
    go : (zs : List Token) → after signs.Open zs ≡ None → Unpicked (behind signs.Open (either (behind signs.Close (nothing [])) (listed r signs.Close))) zs
    go [] f = tt
    go (z ∷ zs) f = ap (λ b. cond b (Some (either (behind signs.Close (nothing [])) (listed r signs.Close))) None) (not_first signs.Open z zs f)

bracketed_opens : {A : Type 0} (r : Reader A) (h : Option Place) (xs rest : List Token) → after signs.Open xs ≡ Some rest → bracketed r h xs ≡ either (behind signs.Close (nothing [])) (listed r signs.Close) h rest
unfolding bracketed
bracketed_opens r h xs rest e =
    let f = after_found signs.Open xs rest e in
    ap (either (behind signs.Open (either (behind signs.Close (nothing [])) (listed r signs.Close))) (nothing []) h) f.1
    ∙ either_picks (behind signs.Open (either (behind signs.Close (nothing [])) (listed r signs.Close))) (nothing []) h f.0 rest (either (behind signs.Close (nothing [])) (listed r signs.Close))
    (ap (λ k. behind signs.Open (either (behind signs.Close (nothing [])) (listed r signs.Close)) k f.0.place) f.2)

pub bracketed_empty : {A : Type 0} (r : Reader A) (h : Option Place) (xs rest last : List Token) → after signs.Open xs ≡ Some rest → after signs.Close rest ≡ Some last → bracketed r h xs ≡ found [] h last
bracketed_empty r h xs rest last e d =
    let f = after_found signs.Close rest last d in
    bracketed_opens r h xs rest e ∙ ap (either (behind signs.Close (nothing [])) (listed r signs.Close) h) f.1
    ∙ either_picks (behind signs.Close (nothing [])) (listed r signs.Close) h f.0 last (nothing []) (ap (λ k. behind signs.Close (nothing []) k f.0.place) f.2)

pub bracketed_some : {A : Type 0} (r : Reader A) (h : Option Place) (xs rest : List Token) → after signs.Open xs ≡ Some rest → after signs.Close rest ≡ None → bracketed r h xs ≡ listed r signs.Close h rest
bracketed_some {A} r h xs rest e d = bracketed_opens r h xs rest e ∙ either_passes (behind signs.Close (nothing [])) (listed r signs.Close) h rest (go rest d)
  where
    go : (zs : List Token) → after signs.Close zs ≡ None → Unpicked (behind signs.Close (nothing {A = List A} [])) zs
    go [] f = tt
    go (z ∷ zs) f = ap (λ b. cond b (Some (nothing {A = List A} [])) None) (not_first signs.Close z zs f)

-- the left side of an assignment
pub target_first : (w : Reserved) (r : Reader (When × Path)) → ((p : Place) → target_pick (kind.Reserved w) p ≡ Some r) → (h : Option Place) (xs rest : List Token) → after_word w xs ≡ Some rest
    → either target_pick fail h xs ≡ r h rest
target_first w r is h xs rest e =
    let f = word_found w xs rest e in
    ap (either target_pick fail h) f.1 ∙ either_picks target_pick fail h f.0 rest r (ap (λ k. target_pick k f.0.place) f.2 ∙ is f.0.place)

pub target_path : (h : Option Place) (xs : List Token) → after_word words.Initial xs ≡ None → after_word words.Next xs ≡ None → either target_pick fail h xs ≡ mapped always_of path h xs
unfolding path
target_path h [] i n = either_passes target_pick fail h [] tt ∙ sym (mapped_dies always_of (either path_pick fail) (either_passes path_pick fail h [] tt))
target_path h (x ∷ xs) i n = go x.kind refl (not_first_word words.Initial x xs i) (not_first_word words.Next x xs n)
  where
    taken : (r : Reader Path) → path_pick x.kind x.place ≡ Some r → target_pick x.kind x.place ≡ Some (mapped always_of r)
        → either target_pick fail h (x ∷ xs) ≡ mapped always_of (either path_pick fail) h (x ∷ xs)
    taken r e f = either_picks target_pick fail h x xs (mapped always_of r) f ∙ alike (r h xs) refl
      where
        alike : (o : Reading Path) → r h xs ≡ o → mapped always_of r h xs ≡ mapped always_of (either path_pick fail) h (x ∷ xs)
        alike (found q g rest) d = mapped_reads always_of r d ∙ sym (mapped_reads always_of (either path_pick fail) (either_picks path_pick fail h x xs r e ∙ d))
        alike (died m) d = mapped_dies always_of r d ∙ sym (mapped_dies always_of (either path_pick fail) (either_picks path_pick fail h x xs r e ∙ d))

    passed : path_pick x.kind x.place ≡ None → target_pick x.kind x.place ≡ None → either target_pick fail h (x ∷ xs) ≡ mapped always_of (either path_pick fail) h (x ∷ xs)
    passed e f = either_passes target_pick fail h (x ∷ xs) f ∙ sym (mapped_dies always_of (either path_pick fail) (either_passes path_pick fail h (x ∷ xs) e))

    go : (k : TokenKind) → x.kind ≡ k → is_word words.Initial k ≡ false → is_word words.Next k ≡ false → either target_pick fail h (x ∷ xs) ≡ mapped always_of (either path_pick fail) h (x ∷ xs)
    go (kind.Reserved words.Initial) e a b = absurd (let f : true ≡ false = a in cc)
    go (kind.Reserved words.Next) e a b = absurd (let f : true ≡ false = b in cc)
    go (kind.Ident m) e a b = taken _ (ap (λ k. path_pick k x.place) e) (ap (λ k. target_pick k x.place) e)
    go (kind.Reserved words.Itself) e a b = taken _ (ap (λ k. path_pick k x.place) e) (ap (λ k. target_pick k x.place) e)
    go _ e a b = passed (ap (λ k. path_pick k x.place) e) (ap (λ k. target_pick k x.place) e)

-- an assignment is its left side and what is assigned
pub assignment_reads : (h g k : Option Place) (xs ys zs : List Token) (a : When × Path) (t : Tree) → either target_pick fail h xs ≡ found a g ys → body g ys ≡ found t k zs → either assignment_pick fail h xs ≡ found (assignment_of (a, t)) k zs
assignment_reads h g k [] ys zs a t e f = absurd (not_both (sym e ∙ either_passes target_pick fail h [] tt))
assignment_reads h g k (x ∷ xs) ys zs a t e f = go (target_pick x.kind x.place) refl
  where
    go : (o : Option (Reader (When × Path))) → target_pick x.kind x.place ≡ o → either assignment_pick fail h (x ∷ xs) ≡ found (assignment_of (a, t)) k zs
    go None d = absurd (not_both (sym e ∙ either_passes target_pick fail h (x ∷ xs) d))
    go (Some r) d =
        either_picks assignment_pick fail h x xs (mapped assignment_of (both r body)) (ap assigned d)
        ∙ mapped_reads assignment_of (both r body) (both_reads r body (sym (either_picks target_pick fail h x xs r d) ∙ e) f)

pub assignment_dies : (h : Option Place) (xs : List Token) (n : ℕ) → either target_pick fail h xs ≡ died n → either assignment_pick fail h xs ≡ died n
assignment_dies h [] n e = either_passes assignment_pick fail h [] tt ∙ ap died (died_count (either target_pick fail h []) 0 n (either_passes target_pick fail h [] tt) e)
assignment_dies h (x ∷ xs) n e = go (target_pick x.kind x.place) refl
  where
    go : (o : Option (Reader (When × Path))) → target_pick x.kind x.place ≡ o → either assignment_pick fail h (x ∷ xs) ≡ died n
    go None d = either_passes assignment_pick fail h (x ∷ xs) (ap assigned d) ∙ ap died (died_count (either target_pick fail h (x ∷ xs)) (suc (length xs)) n (either_passes target_pick fail h (x ∷ xs) d) e)
    go (Some r) d =
        either_picks assignment_pick fail h x xs (mapped assignment_of (both r body)) (ap assigned d)
        ∙ mapped_dies assignment_of (both r body) (both_dies_first r body (sym (either_picks target_pick fail h x xs r d) ∙ e))

pub assignment_dies_later : (h g : Option Place) (xs ys : List Token) (a : When × Path) (n : ℕ) → either target_pick fail h xs ≡ found a g ys → body g ys ≡ died n → either assignment_pick fail h xs ≡ died n
assignment_dies_later h g [] ys a n e f = absurd (not_both (sym e ∙ either_passes target_pick fail h [] tt))
assignment_dies_later h g (x ∷ xs) ys a n e f = go (target_pick x.kind x.place) refl
  where
    go : (o : Option (Reader (When × Path))) → target_pick x.kind x.place ≡ o → either assignment_pick fail h (x ∷ xs) ≡ died n
    go None d = absurd (not_both (sym e ∙ either_passes target_pick fail h (x ∷ xs) d))
    go (Some r) d =
        either_picks assignment_pick fail h x xs (mapped assignment_of (both r body)) (ap assigned d)
        ∙ mapped_dies assignment_of (both r body) (both_dies r body (sym (either_picks target_pick fail h x xs r d) ∙ e) f)

-- a semicolon, or none
pub optional_taken : (h : Option Place) (xs rest : List Token) → after signs.Semicolon xs ≡ Some rest → optional h xs ≡ found tt h rest
unfolding optional
optional_taken h xs rest e =
    let f = after_found signs.Semicolon xs rest e in
    ap (either (behind signs.Semicolon (nothing tt)) (nothing tt) h) f.1 ∙ either_picks (behind signs.Semicolon (nothing tt)) (nothing tt) h f.0 rest (nothing tt) (ap (λ k. behind signs.Semicolon (nothing tt) k f.0.place) f.2)

pub optional_passed : (h : Option Place) (xs : List Token) → after signs.Semicolon xs ≡ None → optional h xs ≡ found tt h xs
unfolding optional
optional_passed h xs e = either_passes (behind signs.Semicolon no_value) no_value h xs (go xs e)
  where
    go : (zs : List Token) → after signs.Semicolon zs ≡ None → Unpicked (behind signs.Semicolon no_value) zs
    go [] f = tt
    go (z ∷ zs) f = ap (λ b. cond b (Some no_value) None) (not_first signs.Semicolon z zs f)

-- labels
pub label_taken : (h : Option Place) (xs rest : List Token) → after_word words.Name xs ≡ Some rest → (r : Reader (Option (List ℕ))) → ((p : Place) → label_pick (kind.Reserved words.Name) p ≡ Some r) → label h xs ≡ r h rest
unfolding label
label_taken h xs rest e r is =
    let f = word_found words.Name xs rest e in
    ap (either label_pick (nothing None) h) f.1 ∙ either_picks label_pick (nothing None) h f.0 rest r (ap (λ k. label_pick k f.0.place) f.2 ∙ is f.0.place)

pub label_passed : (h : Option Place) (xs : List Token) → after_word words.Name xs ≡ None → label h xs ≡ found None h xs
unfolding label
label_passed h xs e = either_passes label_pick (nothing None) h xs (go xs e)
  where
    kinds : (k : TokenKind) (p : Place) → is_word words.Name k ≡ false → label_pick k p ≡ None
    kinds (kind.Reserved words.Name) p f = absurd (let g : true ≡ false = f in cc)
    kinds _ p f = refl

    go : (zs : List Token) → after_word words.Name zs ≡ None → Unpicked label_pick zs
    go [] f = tt
    go (z ∷ zs) f = kinds z.kind z.place (not_first_word words.Name z zs f)

-- tests of the first token
pub item_agrees : (j : VarKind) (k : TokenKind) (p : Place) → is_some (item_pick j k p) ≡ is_name k
item_agrees j (kind.Ident n) p = refl
item_agrees j _ p = refl

pub definition_agrees : (k : TokenKind) (p : Place) → is_some (definition_pick k p) ≡ is_name k
definition_agrees (kind.Ident n) p = refl
definition_agrees _ p = refl

pub assignment_agrees : (k : TokenKind) (p : Place) → is_some (assignment_pick k p) ≡ begins_target k
assignment_agrees (kind.Reserved words.Initial) p = refl
assignment_agrees (kind.Reserved words.Next) p = refl
assignment_agrees (kind.Ident n) p = refl
assignment_agrees (kind.Reserved words.Itself) p = refl
assignment_agrees _ p = refl

pub element_agrees : (k : TokenKind) (p : Place) → is_some (element_pick k p) ≡ begins_section k
element_agrees (kind.Reserved words.Var) p = refl
element_agrees _ p = refl

-- no section and no type begins with these words
pub no_section : (w : Reserved) (p : Place) → (w ≡ words.Var → ⊥) → (w ≡ words.Ivar → ⊥) → (w ≡ words.Frozenvar → ⊥) → (w ≡ words.Define → ⊥) → (w ≡ words.Constants → ⊥) → (w ≡ words.Assign → ⊥) → (w ≡ words.Init → ⊥)
    → (w ≡ words.Trans → ⊥) → (w ≡ words.Invar → ⊥) → (w ≡ words.Invarspec → ⊥) → element_pick (kind.Reserved w) p ≡ None
no_section words.Var p a b c d e f g h i j = absurd (a refl)
no_section words.Ivar p a b c d e f g h i j = absurd (b refl)
no_section words.Frozenvar p a b c d e f g h i j = absurd (c refl)
no_section words.Define p a b c d e f g h i j = absurd (d refl)
no_section words.Constants p a b c d e f g h i j = absurd (e refl)
no_section words.Assign p a b c d e f g h i j = absurd (f refl)
no_section words.Init p a b c d e f g h i j = absurd (g refl)
no_section words.Trans p a b c d e f g h i j = absurd (h refl)
no_section words.Invar p a b c d e f g h i j = absurd (i refl)
no_section words.Invarspec p a b c d e f g h i j = absurd (j refl)
no_section _ p a b c d e f g h i j = refl

pub no_brace : (k : VarKind) (s : Sign) (p : Place) → (s ≡ signs.OpenBrace → ⊥) → domain_pick k (kind.Sign s) p ≡ None
no_brace k signs.OpenBrace p a = absurd (a refl)
no_brace k _ p a = refl

pub no_domain : (k : VarKind) (t : TokenKind) (p : Place) → ((w : Reserved) → t ≡ kind.Reserved w → ⊥) → ((n : List ℕ) → t ≡ kind.Ident n → ⊥) → ((s : Sign) → t ≡ kind.Sign s → ⊥) → domain_pick k t p ≡ None
no_domain k (kind.Reserved w) p a b c = absurd (a w refl)
no_domain k (kind.Ident n) p a b c = absurd (b n refl)
no_domain k (kind.Sign s) p a b c = absurd (c s refl)
no_domain k _ p a b c = refl

pub no_word : (t : TokenKind) (p : Place) → ((w : Reserved) → t ≡ kind.Reserved w → ⊥) → element_pick t p ≡ None
no_word (kind.Reserved w) p a = absurd (a w refl)
no_word _ p a = refl

-- types
integer_dies : (h : Option Place) (x : Token) (xs : List Token) → integer_pick x.kind x.place ≡ None → integer h (x ∷ xs) ≡ died (suc (length xs))
unfolding integer
integer_dies h x xs e = either_passes integer_pick fail h (x ∷ xs) e

integer_ends : (h : Option Place) → integer h [] ≡ died 0
unfolding integer
integer_ends h = either_passes integer_pick fail h [] tt

interval_dies : (h : Option Place) (x : Token) (xs : List Token) → integer_pick x.kind x.place ≡ None → interval h (x ∷ xs) ≡ died (suc (length xs))
unfolding interval
interval_dies h x xs e = mapped_dies _ _ (both_dies_first _ _ (integer_dies h x xs e))

interval_ends : (h : Option Place) → interval h [] ≡ died 0
unfolding interval
interval_ends h = mapped_dies _ _ (both_dies_first _ _ (integer_ends h))

pub domain_ends : (k : VarKind) (h : Option Place) → domain k h [] ≡ died 0
unfolding domain
domain_ends k h = either_passes (domain_pick k) interval h [] tt ∙ interval_ends h

pub domain_passes : (k : VarKind) (h : Option Place) (xs : List Token) → Unpicked (domain_pick k) xs → domain k h xs ≡ interval h xs
unfolding domain
domain_passes k h xs u = either_passes (domain_pick k) interval h xs u

pub domain_at : (k : VarKind) (h : Option Place) (x : Token) (xs : List Token) (t : TokenKind) → x.kind ≡ t → integer_pick t x.place ≡ None
    → domain k h (x ∷ xs) ≡ picked (domain_pick k t x.place) h xs (died (suc (length xs)))
unfolding domain
domain_at k h x xs t e none = go (domain_pick k x.kind x.place) refl ∙ ap (λ t. picked (domain_pick k t x.place) h xs (died (suc (length xs)))) e
  where
    go : (o : Option (Reader PlainDomain)) → domain_pick k x.kind x.place ≡ o → either (domain_pick k) interval h (x ∷ xs) ≡ picked (domain_pick k x.kind x.place) h xs (died (suc (length xs)))
    go None f = either_passes (domain_pick k) interval h (x ∷ xs) f ∙ interval_dies h x xs (ap (λ t. integer_pick t x.place) e ∙ none) ∙ sym (ap (λ o. picked o h xs (died (suc (length xs)))) f)
    go (Some r) f = either_picks (domain_pick k) interval h x xs r f ∙ sym (ap (λ o. picked o h xs (died (suc (length xs)))) f)

-- sections
pub element_at : (h : Option Place) (x : Token) (xs : List Token) (t : TokenKind) → x.kind ≡ t → either element_pick fail h (x ∷ xs) ≡ picked (element_pick t x.place) h xs (died (suc (length xs)))
element_at h x xs t e = go (element_pick x.kind x.place) refl ∙ ap (λ t. picked (element_pick t x.place) h xs (died (suc (length xs)))) e
  where
    go : (o : Option (Reader PlainElement)) → element_pick x.kind x.place ≡ o → either element_pick fail h (x ∷ xs) ≡ picked (element_pick x.kind x.place) h xs (died (suc (length xs)))
    go None f = either_passes element_pick fail h (x ∷ xs) f ∙ sym (ap (λ o. picked o h xs (died (suc (length xs)))) f)
    go (Some r) f = either_picks element_pick fail h x xs r f ∙ sym (ap (λ o. picked o h xs (died (suc (length xs)))) f)
