-- The readers of declarations, definitions and assignments.
use Rattle.std.proofs.Common.{◌≡◌, inl, inr, ℕ, true, false, cond, Option, Some, None, List, [], ◌∷◌, ◌++◌, refl, sym, ap, ◌∙◌, subst, append_assoc}
use Rattle.std.proofs.lemmas.List.{append-nil}
use Rattle.text_core.specs.declared.place.Place.{Place}
use Rattle.smv_text.specs.declared.token.Reserved.TheVariants as words
use Rattle.smv_text.specs.declared.token.Sign.{Sign}
use Rattle.smv_text.specs.declared.token.Sign.TheVariants as signs
use Rattle.smv_text.specs.declared.token.TokenKind.{TokenKind}
use Rattle.smv_text.specs.declared.token.TokenKind.TheVariants as kind
use Rattle.smv_text.specs.declared.token.Token.{Token}
use Rattle.smv_text.specs.declared.tree.Path.{Path}
use Rattle.smv_text.specs.declared.tree.VarKind.{VarKind}
use Rattle.smv_text.specs.declared.tree.When.{When}
use Rattle.smv_text.specs.declared.tree.When.TheVariants.{Always, First, Following}
use Rattle.smv_text.specs.Levels.{all_levels}
use Rattle.smv_text.specs.Grammar.{start, IsSign, SpellsSteps, no_steps, step, SpellsPath, from_name, from_itself, Spells}
use Rattle.smv_text.specs.Heights.{of_domain, of_items, of_definitions, of_assignments}
use Rattle.smv_text.specs.Sources.{booleans, SpellsDomain, types, SpellsItems, no_items, item_then, SpellsDefinitions, no_definitions, definition_then, SpellsTarget, always as always_target, first as first_target, following as following_target, SpellsAssignments, no_assignments, assignment_then}
use Rattle.smv_text.specs.Tree.{Tree, PlainDomain, boolean, PlainItem, PlainDefinition, PlainAssignment}
use Rattle.smv_grammar.specs.Marks.{is_sign}
use Rattle.smv_grammar.specs.Machine.{goes_on, Ends}
use Rattle.smv_grammar.specs.Readers.{Reader, Pick, both, mapped, many, placed, expression}
use Rattle.smv_grammar.specs.Rules.{symbol, sign, name, behind, domain, item, item_pick, body, definition_pick, steps, path_pick, path, enclosed, always, target_pick, assigned, assignment_pick}
use Rattle.smv_grammar.proofs.Lawful.{Lawful, Inhabited, Both, of_both, lawful_both}
use Rattle.smv_grammar.proofs.Choices.{Free, of_none, PickLaw, Picked, Either, Unpicked, Never, lawful_switch}
use Rattle.smv_grammar.proofs.Mapped.{Placed, of_second, lawful_placed}
use Rattle.smv_grammar.proofs.Loops.{Many, none, more, of_all, lawful_many}
use Rattle.smv_grammar.proofs.Types.{carried, all_none, lawful_domain, domain_some}
use Rattle.smv_grammar.proofs.Asked.{alone, lawful_expression, some_expression}
use Rattle.smv_grammar.proofs.Tokens.{token, lawful_as, lawful_before, SignAt, NameAt, lawful_sign, lawful_name, Made, lawful_made, some_sign}
use Rattle.smv_grammar.proofs.Lists.{Behind, behind_law, NotOpen}

-- behind an identifier
abbrev pub Named : {A : Type 0} → (List ℕ → Place → A → List Token → Type 0) → TokenKind → Place → A → List Token → Type 0
Named Q k p v ys = (n : List ℕ) × (k ≡ kind.Ident n) × Q n p v ys

-- what is behind an identifier and what may, where nothing else may stand
pub named_law : {A : Type 0} (pick : Pick A) (Q : List ℕ → Place → A → List Token → Type 0) (of : A → List Tree) (stops : List Token → Type 0) (r : List ℕ → Place → Reader A)
    → ((n : List ℕ) (p : Place) → Lawful (r n p) (Q n p) of stops)
    → (k : TokenKind) (p : Place) → ((n : List ℕ) → k ≡ kind.Ident n → pick k p ≡ Some (r n p)) → (((n : List ℕ) → k ≡ kind.Ident n → ⊥) → pick k p ≡ None)
    → PickLaw (pick k p) (Named Q k p) of stops
named_law {A} pick Q of stops r l k p is no_pick = go k refl
  where
    some : (n : List ℕ) → k ≡ kind.Ident n → Lawful (r n p) (Named Q k p) of stops
    some n e = lawful_as (r n p) (Q n p) (Named Q k p) of stops (l n p) (λ v ys d. (n, e, d)) (λ v ys d. let f : kind.Ident d.0 ≡ kind.Ident n = sym d.1 ∙ e in let g : d.0 ≡ n = cc in subst (λ m. Q m p v ys) g d.2)

    other : ((n : List ℕ) → k ≡ kind.Ident n → ⊥) → PickLaw (pick k p) (Named Q k p) of stops
    other h = subst (λ o. PickLaw o (Named Q k p) of stops) (sym (no_pick h)) (λ v ys d. h d.0 d.1)

    go : (t : TokenKind) → k ≡ t → PickLaw (pick k p) (Named Q k p) of stops
    go (kind.Ident n) e = subst (λ o. PickLaw o (Named Q k p) of stops) (sym (is n e)) (some n e)
    go (kind.Reserved w) e = other (λ n f. let g : kind.Reserved w ≡ kind.Ident n = sym e ∙ f in cc)
    go kind.Refused e = other (λ n f. let g : kind.Refused ≡ kind.Ident n = sym e ∙ f in cc)
    go (kind.Number m) e = other (λ n f. let g : kind.Number m ≡ kind.Ident n = sym e ∙ f in cc)
    go (kind.Literal w) e = other (λ n f. let g : kind.Literal w ≡ kind.Ident n = sym e ∙ f in cc)
    go (kind.Sign s) e = other (λ n f. let g : kind.Sign s ≡ kind.Ident n = sym e ∙ f in cc)

-- declarations
abbrev pub Domained : Type 0
Domained = (Unit {0} × Place) × ((Place × PlainDomain) × (Unit {0} × Place))

abbrev pub item_of : List ℕ → Place → Domained → PlainItem
item_of n p q = record { name = n; place = p; domain = q.1.0.1; domain_place = q.1.0.0 }

abbrev pub of_item : PlainItem → List Tree
of_item i = of_domain i.domain

abbrev pub DomainedAt : VarKind → Domained → List Token → Type 0
DomainedAt k = Both (SignAt signs.Colon) (Both (Placed (SpellsDomain k)) (SignAt signs.Semicolon))

abbrev pub ItemAt : VarKind → List ℕ → Place → PlainItem → List Token → Type 0
ItemAt k n p = Made (item_of n p) (DomainedAt k)

some_domain : (k : VarKind) → Inhabited (SpellsDomain k)
some_domain k = (boolean, token (kind.Reserved words.Boolean) ∷ [], types (booleans (token (kind.Reserved words.Boolean)) refl))

semicolon_shuts : (w : Unit {0} × Place) (zs rest : List Token) → SignAt signs.Semicolon w zs → Free rest → NotOpen (zs ++ rest)
semicolon_shuts w zs rest d stop = subst (λ z. NotOpen (z ++ rest)) (sym d.1) (ap (is_sign signs.Open) d.2)

lawful_item : (k : VarKind) (n : List ℕ) (p : Place) → Lawful (item k n p) (ItemAt k n p) of_item Free
unfolding item
lawful_item k n p =
    let s = some_sign signs.Semicolon in
    let placed_domain = lawful_placed (domain k) (SpellsDomain k) of_domain NotOpen (lawful_domain k) (domain_some k) in
    let ended = lawful_both (placed (domain k)) (sign signs.Semicolon) (Placed (SpellsDomain k)) (SignAt signs.Semicolon) (of_second of_domain) of_none NotOpen Free placed_domain (lawful_sign signs.Semicolon) s semicolon_shuts in
    let some = some_domain k in
    lawful_made (item_of n p) (both (sign signs.Colon) (both (placed (domain k)) (sign signs.Semicolon))) (DomainedAt k) (of_both of_none (of_both (of_second of_domain) of_none)) of_item Free
    (lawful_both (sign signs.Colon) (both (placed (domain k)) (sign signs.Semicolon)) (SignAt signs.Colon) (Both (Placed (SpellsDomain k)) (SignAt signs.Semicolon)) of_none (of_both (of_second of_domain) of_none) Free Free
    (lawful_sign signs.Colon) ended
    (((start some.1, some.0), s.0), some.1 ++ s.1, (some.1, s.1, refl, (some.2, refl), s.2)) (λ w zs rest d stop. tt))
    (λ q. sym (append-nil (of_domain q.1.0.1)))

pub item_law : (k : VarKind) (t : TokenKind) (p : Place) → PickLaw (item_pick k t p) (Named (ItemAt k) t p) of_item Free
item_law k t p = named_law (item_pick k) (ItemAt k) of_item Free (item k) (lawful_item k) t p (λ n e. ap (λ z. item_pick k z p) e) (none_picked t)
  where
    none_picked : (t : TokenKind) → ((n : List ℕ) → t ≡ kind.Ident n → ⊥) → item_pick k t p ≡ None
    none_picked (kind.Ident n) h = absurd (h n refl)
    none_picked _ h = refl

items_to : {k : VarKind} {is : List PlainItem} {ys : List Token} → Many (Named (ItemAt k)) is ys → SpellsItems k is ys
items_to none = no_items
items_to {k} (more {v = v} {vs = vs} {ys = us} {zs = zs} x d m) =
    let q = d.2.2 in
    let c = q.3 in
    let f = q.4.3 in
    let s = q.4.4 in
    carried (SpellsItems k)
    (ap (λ (z : PlainItem). z ∷ vs) (ap (λ (z : Place). record { name = d.0; place = x.place; domain = d.2.0.1.0.1; domain_place = z }) (sym f.1) ∙ d.2.1))
    (ap (λ z. x ∷ z)
    (ap (λ z. c.0 ∷ z) (sym (append_assoc q.4.0 (s.0 ∷ []) zs)) ∙ ap (λ z. z ++ zs) (ap (λ z. c.0 ∷ (q.4.0 ++ z)) (sym s.1) ∙ ap (λ z. c.0 ∷ z) (sym q.4.2) ∙ ap (λ z. z ++ q.1) (sym c.1) ∙ sym q.2)))
    (item_then x c.0 d.1 c.2 f.0 s.0 s.2 (items_to m))

items_from : {k : VarKind} {is : List PlainItem} {ys : List Token} → SpellsItems k is ys → Many (Named (ItemAt k)) is ys
items_from no_items = none
items_from {k} (item_then {n = n} {d = d} {is = is} {xs = xs} {ys = zs} x colon e c f semi s m) =
    carried (Many (Named (ItemAt k))) refl (ap (λ z. x ∷ colon ∷ z) (append_assoc xs (semi ∷ []) zs))
    (more {ys = colon ∷ (xs ++ semi ∷ [])} x
    (n, e, (((tt, colon.place), ((start xs, d), (tt, semi.place))), refl, (colon ∷ [], xs ++ semi ∷ [], refl, (colon, refl, c, refl), (xs, semi ∷ [], refl, (f, refl), (semi, refl, s, refl)))))
    (items_from m))

pub all_items : (is : List PlainItem) → of_all of_item is ≡ of_items is
all_items [] = refl
all_items (i ∷ is) = ap (λ z. of_domain i.domain ++ z) (all_items is)

pub lawful_items : (k : VarKind) → Lawful (many (item_pick k)) (SpellsItems k) (of_all of_item) (Unpicked (item_pick k))
lawful_items k = lawful_as (many (item_pick k)) (Many (Named (ItemAt k))) (SpellsItems k) (of_all of_item) (Unpicked (item_pick k))
    (lawful_many (item_pick k) (Named (ItemAt k)) of_item Free (Unpicked (item_pick k)) (item_law k) (λ rest stop. (stop, tt)) (λ x v ys zs d. tt))
    (λ v ys d. items_to d) (λ v ys d. items_from d)

-- what is assigned
abbrev pub BodyAt : Tree → List Token → Type 0
BodyAt = Made (λ (q : (Unit {0} × Place) × (Tree × (Unit {0} × Place))). q.1.0) (Both (SignAt signs.Assign) (Both (Spells all_levels) (SignAt signs.Semicolon)))

pub lawful_body : Lawful body BodyAt alone Free
unfolding body
lawful_body =
    let s = some_sign signs.Semicolon in
    let ended = lawful_both expression (sign signs.Semicolon) (Spells all_levels) (SignAt signs.Semicolon) alone of_none Ends Free lawful_expression (lawful_sign signs.Semicolon) s
    (λ w zs rest d stop. subst (λ z. Ends (z ++ rest)) (sym d.1) (ap goes_on d.2)) in
    lawful_made (λ (q : (Unit {0} × Place) × (Tree × (Unit {0} × Place))). q.1.0) (both (sign signs.Assign) (both expression (sign signs.Semicolon))) (Both (SignAt signs.Assign) (Both (Spells all_levels) (SignAt signs.Semicolon)))
    (of_both of_none (of_both alone of_none)) alone Free
    (lawful_both (sign signs.Assign) (both expression (sign signs.Semicolon)) (SignAt signs.Assign) (Both (Spells all_levels) (SignAt signs.Semicolon)) of_none (of_both alone of_none) Free Free (lawful_sign signs.Assign) ended
    ((some_expression.0, s.0), some_expression.1 ++ s.1, (some_expression.1, s.1, refl, some_expression.2, s.2)) (λ w zs rest d stop. tt))
    (λ q. refl)

some_body : Inhabited BodyAt
some_body =
    let a = some_sign signs.Assign in
    let s = some_sign signs.Semicolon in
    let e = some_expression in
    (e.0, a.1 ++ (e.1 ++ s.1), ((a.0, (e.0, s.0)), refl, (a.1, e.1 ++ s.1, refl, a.2, (e.1, s.1, refl, e.2, s.2))))

-- the tokens of a body
record Assigned (t : Tree) (ys : List Token) : Type 0 where
  assign : Token
  tokens : List Token
  semi : Token
  split : ys ≡ assign ∷ (tokens ++ semi ∷ [])
  is : IsSign signs.Assign assign
  spells : Spells all_levels t tokens
  ends : IsSign signs.Semicolon semi

assigned_to : (t : Tree) (ys : List Token) → BodyAt t ys → Assigned t ys
assigned_to t ys d =
    let q = d.2 in record {
      assign = q.3.0;
      tokens = q.4.0;
      semi = q.4.4.0;
      split = q.2 ∙ ap (λ z. z ++ q.1) q.3.1 ∙ ap (λ z. q.3.0 ∷ z) (q.4.2 ∙ ap (λ z. q.4.0 ++ z) q.4.4.1);
      is = q.3.2;
      spells = subst (λ z. Spells all_levels z q.4.0) d.1 q.4.3;
      ends = q.4.4.2;
    }

body_from : (t : Tree) (xs : List Token) (assign semi : Token) → IsSign signs.Assign assign → Spells all_levels t xs → IsSign signs.Semicolon semi → BodyAt t (assign ∷ (xs ++ semi ∷ []))
body_from t xs assign semi a e s = (((tt, assign.place), (t, (tt, semi.place))), refl, (assign ∷ [], xs ++ semi ∷ [], refl, (assign, refl, a, refl), (xs, semi ∷ [], refl, e, (semi, refl, s, refl))))

-- definitions
abbrev pub definition_of : List ℕ → Place → Tree → PlainDefinition
definition_of n p t = record { name = n; place = p; body = t }

abbrev pub of_definition : PlainDefinition → List Tree
of_definition d = d.body ∷ []

abbrev pub DefinitionAt : List ℕ → Place → PlainDefinition → List Token → Type 0
DefinitionAt n p = Made (definition_of n p) BodyAt

pub definition_law : (t : TokenKind) (p : Place) → PickLaw (definition_pick t p) (Named DefinitionAt t p) of_definition Free
definition_law t p = named_law definition_pick DefinitionAt of_definition Free (λ n p. mapped (definition_of n p) body)
    (λ n p. lawful_made (definition_of n p) body BodyAt alone of_definition Free lawful_body (λ q. refl)) t p (λ n e. ap (λ z. definition_pick z p) e) (none_picked t)
  where
    none_picked : (t : TokenKind) → ((n : List ℕ) → t ≡ kind.Ident n → ⊥) → definition_pick t p ≡ None
    none_picked (kind.Ident n) h = absurd (h n refl)
    none_picked _ h = refl

definitions_to : {ds : List PlainDefinition} {ys : List Token} → Many (Named DefinitionAt) ds ys → SpellsDefinitions ds ys
definitions_to none = no_definitions
definitions_to (more {v = v} {vs = vs} {ys = us} {zs = zs} x d m) =
    let b = assigned_to d.2.0 us d.2.2 in
    carried SpellsDefinitions (ap (λ (z : PlainDefinition). z ∷ vs) d.2.1)
    (ap (λ z. x ∷ z) (ap (λ z. b.assign ∷ z) (sym (append_assoc b.tokens (b.semi ∷ []) zs)) ∙ ap (λ z. z ++ zs) (sym b.split)))
    (definition_then x b.assign d.1 b.is b.spells b.semi b.ends (definitions_to m))

definitions_from : {ds : List PlainDefinition} {ys : List Token} → SpellsDefinitions ds ys → Many (Named DefinitionAt) ds ys
definitions_from no_definitions = none
definitions_from (definition_then {n = n} {t = t} {ds = ds} {xs = xs} {ys = zs} x assign e a f semi s m) =
    carried (Many (Named DefinitionAt)) refl (ap (λ z. x ∷ assign ∷ z) (append_assoc xs (semi ∷ []) zs))
    (more {ys = assign ∷ (xs ++ semi ∷ [])} x (n, e, (t, refl, body_from t xs assign semi a f s)) (definitions_from m))

pub lawful_definitions : Lawful (many definition_pick) SpellsDefinitions (of_all of_definition) (Unpicked definition_pick)
lawful_definitions = lawful_as (many definition_pick) (Many (Named DefinitionAt)) SpellsDefinitions (of_all of_definition) (Unpicked definition_pick)
    (lawful_many definition_pick (Named DefinitionAt) of_definition Free (Unpicked definition_pick) definition_law (λ rest stop. (stop, tt)) (λ x v ys zs d. tt))
    (λ v ys d. definitions_to d) (λ v ys d. definitions_from d)

pub all_definitions : (ds : List PlainDefinition) → of_all of_definition ds ≡ of_definitions ds
all_definitions [] = refl
all_definitions (d ∷ ds) = ap (λ z. d.body ∷ z) (all_definitions ds)

-- paths
abbrev pub StepAt : List ℕ → List Token → Type 0
StepAt = Made (λ (q : List ℕ × Place). q.0) NameAt

pub lawful_symbol : Lawful symbol StepAt of_none Free
unfolding symbol
lawful_symbol = lawful_made (λ (q : List ℕ × Place). q.0) name NameAt of_none of_none Free lawful_name (λ a. refl)

abbrev pub NotDot : List Token → Type 0
NotDot = Unpicked (behind signs.Dot symbol)

steps_to : {ns : List (List ℕ)} {ys : List Token} → Many (Behind signs.Dot StepAt) ns ys → SpellsSteps ns ys
steps_to none = no_steps
steps_to (more {v = v} {vs = vs} {ys = us} {zs = zs} x d m) =
    let q = d.1.2 in
    carried SpellsSteps (ap (λ (z : List ℕ). z ∷ vs) d.1.1) (ap (λ z. x ∷ (z ++ zs)) (sym q.1)) (step x q.0 d.0 q.2 (steps_to m))

steps_from : {ns : List (List ℕ)} {ys : List Token} → SpellsSteps ns ys → Many (Behind signs.Dot StepAt) ns ys
steps_from no_steps = none
steps_from (step {n = n} dot x o e m) = more {ys = x ∷ []} dot (o, ((n, x.place), refl, (x, refl, e, refl))) (steps_from m)

lawful_steps : Lawful steps SpellsSteps (of_all of_none) NotDot
unfolding steps
lawful_steps = lawful_as (many (behind signs.Dot symbol)) (Many (Behind signs.Dot StepAt)) SpellsSteps (of_all of_none) NotDot
    (lawful_many (behind signs.Dot symbol) (Behind signs.Dot StepAt) of_none Free NotDot
    (behind_law symbol StepAt of_none Free lawful_symbol signs.Dot)
    (λ rest stop. (stop, tt)) (λ x v ys zs d. tt))
    (λ v ys d. steps_to d) (λ v ys d. steps_from d)

abbrev pub path_of : List ℕ → Place → List (List ℕ) → Path
path_of n p ns = record { from_self = false; names = n ∷ ns; place = p }

abbrev pub self_path : Place → List (List ℕ) → Path
self_path p ns = record { from_self = true; names = ns; place = p }

abbrev pub PathAt : TokenKind → Place → Path → List Token → Type 0
PathAt (kind.Ident n) p q ys = Made (path_of n p) SpellsSteps q ys
PathAt (kind.Reserved words.Itself) p q ys = Made (self_path p) SpellsSteps q ys
PathAt _ p q ys = ⊥

path_law : (k : TokenKind) (p : Place) → PickLaw (path_pick k p) (PathAt k p) of_none NotDot
path_law (kind.Ident n) p = lawful_made (path_of n p) steps SpellsSteps (of_all of_none) of_none NotDot lawful_steps (λ a. sym (all_none a))
path_law (kind.Reserved words.Itself) p = lawful_made (self_path p) steps SpellsSteps (of_all of_none) of_none NotDot lawful_steps (λ a. sym (all_none a))
path_law _ p = λ v ys d. d

path_at_to : (x : Token) (q : Path) (ys : List Token) → PathAt x.kind x.place q ys → SpellsPath q (x ∷ ys)
path_at_to x q ys d = go x.kind refl d
  where
    go : (k : TokenKind) → x.kind ≡ k → PathAt k x.place q ys → SpellsPath q (x ∷ ys)
    go (kind.Ident n) e f = subst (λ z. SpellsPath z (x ∷ ys)) f.1 (from_name x e f.2)
    go (kind.Reserved words.Itself) e f = subst (λ z. SpellsPath z (x ∷ ys)) f.1 (from_itself x e f.2)
    go _ e f = absurd f

path_from : (q : Path) (ys : List Token) → SpellsPath q ys → Picked PathAt q ys
path_from q ys (from_name {n = n} {ns = ns} {xs = xs} x e d) = (x, xs, refl, subst (λ k. PathAt k x.place (path_of n x.place ns) xs) (sym e) (ns, refl, d))
path_from q ys (from_itself {ns = ns} {xs = xs} x e d) = (x, xs, refl, subst (λ k. PathAt k x.place (self_path x.place ns) xs) (sym e) (ns, refl, d))

path_to : (q : Path) (ys : List Token) → Either PathAt Never q ys → SpellsPath q ys
path_to q ys (inr d) = absurd d
path_to q ys (inl d) = subst (SpellsPath q) (sym d.2) (path_at_to d.0 q d.1 d.3)

some_path : Inhabited SpellsPath
some_path = (path_of [] (token (kind.Ident [])).place [], token (kind.Ident []) ∷ [], from_name (token (kind.Ident [])) refl no_steps)

pub lawful_path : Lawful path SpellsPath of_none NotDot
unfolding path
lawful_path = lawful_as path (Either PathAt Never) SpellsPath of_none NotDot
    (lawful_switch path_pick PathAt of_none NotDot path_law (some_path.0, some_path.1, path_from some_path.0 some_path.1 some_path.2)) path_to (λ q ys d. inl (path_from q ys d))

-- the left side of an assignment
abbrev pub Shut : Type 0
Shut = (Unit {0} × Place) × (Path × (Unit {0} × Place))

abbrev pub enclosed_of : When → Shut → When × Path
enclosed_of w q = (w, q.1.0)

abbrev pub EnclosedAt : When → When × Path → List Token → Type 0
EnclosedAt w = Made (enclosed_of w) (Both (SignAt signs.Open) (Both SpellsPath (SignAt signs.Close)))

close_after : (w : Unit {0} × Place) (zs rest : List Token) (s : Sign) → SignAt s w zs → is_sign signs.Dot (kind.Sign s) ≡ false → NotDot (zs ++ rest)
close_after w zs rest s d e = subst (λ z. NotDot (z ++ rest)) (sym d.1) (ap (λ b. cond b (Some symbol) None) (ap (is_sign signs.Dot) d.2 ∙ e))

lawful_enclosed : (w : When) → Lawful (enclosed w) (EnclosedAt w) of_none Free
unfolding enclosed
lawful_enclosed w =
    let s = some_sign signs.Close in
    let ended = lawful_both path (sign signs.Close) SpellsPath (SignAt signs.Close) of_none of_none NotDot Free lawful_path (lawful_sign signs.Close) s (λ w zs rest d stop. close_after w zs rest signs.Close d refl) in
    lawful_made (enclosed_of w) (both (sign signs.Open) (both path (sign signs.Close))) (Both (SignAt signs.Open) (Both SpellsPath (SignAt signs.Close))) (of_both of_none (of_both of_none of_none)) of_none Free
    (lawful_both (sign signs.Open) (both path (sign signs.Close)) (SignAt signs.Open) (Both SpellsPath (SignAt signs.Close)) of_none (of_both of_none of_none) Free Free (lawful_sign signs.Open) ended
    ((some_path.0, s.0), some_path.1 ++ s.1, (some_path.1, s.1, refl, some_path.2, s.2)) (λ w zs rest d stop. tt))
    (λ q. refl)

abbrev pub always_of : Path → When × Path
always_of q = (Always, q)

abbrev pub TargetAt : TokenKind → Place → When × Path → List Token → Type 0
TargetAt (kind.Reserved words.Initial) p v ys = EnclosedAt First v ys
TargetAt (kind.Reserved words.Next) p v ys = EnclosedAt Following v ys
TargetAt k p v ys = Made always_of (PathAt k p) v ys

always_law : (o : Option (Reader Path)) (Q : Path → List Token → Type 0) → PickLaw o Q of_none NotDot → PickLaw (always o) (Made always_of Q) of_none NotDot
always_law None Q l = λ v ys d. l d.0 ys d.2
always_law (Some r) Q l = lawful_made always_of r Q of_none of_none NotDot l (λ a. refl)

target_law : (k : TokenKind) (p : Place) → PickLaw (target_pick k p) (TargetAt k p) of_none NotDot
target_law (kind.Reserved words.Initial) p = lawful_before (enclosed First) (EnclosedAt First) of_none Free NotDot (lawful_enclosed First) (λ rest stop. tt)
target_law (kind.Reserved words.Next) p = lawful_before (enclosed Following) (EnclosedAt Following) of_none Free NotDot (lawful_enclosed Following) (λ rest stop. tt)
target_law (kind.Ident n) p = always_law (path_pick (kind.Ident n) p) (PathAt (kind.Ident n) p) (path_law (kind.Ident n) p)
target_law (kind.Reserved words.Itself) p = always_law (path_pick (kind.Reserved words.Itself) p) (PathAt (kind.Reserved words.Itself) p) (path_law (kind.Reserved words.Itself) p)
target_law _ p = λ v ys d. d.2

abbrev SpellsAim : When × Path → List Token → Type 0
SpellsAim v ys = SpellsTarget v.0 v.1 ys

target_to : (x : Token) (v : When × Path) (ys : List Token) → TargetAt x.kind x.place v ys → SpellsAim v (x ∷ ys)
target_to x v ys d = go x.kind refl d
  where
    shut : (w : When) (f : EnclosedAt w v ys) → f.2.3.0 ∷ (f.2.4.0 ++ f.2.4.4.0 ∷ []) ≡ ys
    shut w f = let q = f.2 in ap (λ z. q.3.0 ∷ (q.4.0 ++ z)) (sym q.4.4.1) ∙ ap (λ z. q.3.0 ∷ z) (sym q.4.2) ∙ ap (λ z. z ++ q.1) (sym q.3.1) ∙ sym q.2

    go : (k : TokenKind) → x.kind ≡ k → TargetAt k x.place v ys → SpellsAim v (x ∷ ys)
    go (kind.Reserved words.Initial) e f = let q = f.2 in carried SpellsAim f.1 (ap (λ z. x ∷ z) (shut First f)) (first_target x q.3.0 e q.3.2 q.4.3 q.4.4.0 q.4.4.2)
    go (kind.Reserved words.Next) e f = let q = f.2 in carried SpellsAim f.1 (ap (λ z. x ∷ z) (shut Following f)) (following_target x q.3.0 e q.3.2 q.4.3 q.4.4.0 q.4.4.2)
    go (kind.Ident n) e f = carried SpellsAim f.1 refl (always_target (subst (λ z. SpellsPath z (x ∷ ys)) f.2.1 (from_name x e f.2.2)))
    go (kind.Reserved words.Itself) e f = carried SpellsAim f.1 refl (always_target (subst (λ z. SpellsPath z (x ∷ ys)) f.2.1 (from_itself x e f.2.2)))
    go _ e f = absurd f.2

path_target : (k : TokenKind) (p : Place) (q : Path) (ys : List Token) → PathAt k p q ys → TargetAt k p (Always, q) ys
path_target (kind.Ident n) p q ys d = (q, refl, d)
path_target (kind.Reserved words.Itself) p q ys d = (q, refl, d)
path_target _ p q ys d = absurd d

enclosed_from : (w : When) (q : Path) (opening closing : Token) (xs : List Token) → IsSign signs.Open opening → SpellsPath q xs → IsSign signs.Close closing → EnclosedAt w (w, q) (opening ∷ (xs ++ closing ∷ []))
enclosed_from w q opening closing xs o d c =
    (((tt, opening.place), (q, (tt, closing.place))), refl, (opening ∷ [], xs ++ closing ∷ [], refl, (opening, refl, o, refl), (xs, closing ∷ [], refl, d, (closing, refl, c, refl))))

target_from : (w : When) (q : Path) (ys : List Token) → SpellsTarget w q ys → Picked TargetAt (w, q) ys
target_from w q ys (always_target d) = let p = path_from q ys d in (p.0, p.1, p.2, path_target p.0.kind p.0.place q p.1 p.3)
target_from w q ys (first_target {xs = xs} x opening i o d closing c) =
    (x, opening ∷ (xs ++ closing ∷ []), refl, subst (λ k. TargetAt k x.place (First, q) (opening ∷ (xs ++ closing ∷ []))) (sym i) (enclosed_from First q opening closing xs o d c))
target_from w q ys (following_target {xs = xs} x opening i o d closing c) =
    (x, opening ∷ (xs ++ closing ∷ []), refl, subst (λ k. TargetAt k x.place (Following, q) (opening ∷ (xs ++ closing ∷ []))) (sym i) (enclosed_from Following q opening closing xs o d c))

-- assignments
abbrev pub assignment_of : (When × Path) × Tree → PlainAssignment
assignment_of q = record { when = q.0.0; target = q.0.1; body = q.1 }

abbrev pub of_assignment : PlainAssignment → List Tree
of_assignment a = a.body ∷ []

abbrev pub AssignmentAt : TokenKind → Place → PlainAssignment → List Token → Type 0
AssignmentAt k p = Made assignment_of (Both (TargetAt k p) BodyAt)

body_follows : (w : Tree) (zs rest : List Token) → BodyAt w zs → Free rest → NotDot (zs ++ rest)
body_follows w zs rest d stop =
    let b = assigned_to w zs d in subst (λ z. NotDot (z ++ rest)) (sym b.split) (ap (λ (k : TokenKind). cond (is_sign signs.Dot k) (Some symbol) None) b.is)

assigned_law : (o : Option (Reader (When × Path))) (Q : When × Path → List Token → Type 0) → PickLaw o Q of_none NotDot → PickLaw (assigned o) (Made assignment_of (Both Q BodyAt)) of_assignment Free
assigned_law None Q l = λ v ys d. l d.0.0 d.2.0 d.2.3
assigned_law (Some r) Q l = lawful_made assignment_of (both r body) (Both Q BodyAt) (of_both of_none alone) of_assignment Free
    (lawful_both r body Q BodyAt of_none alone NotDot Free l lawful_body some_body body_follows) (λ q. refl)

pub assignment_law : (k : TokenKind) (p : Place) → PickLaw (assignment_pick k p) (AssignmentAt k p) of_assignment Free
assignment_law k p = assigned_law (target_pick k p) (TargetAt k p) (target_law k p)

assignments_to : {rest : List PlainAssignment} {ys : List Token} → Many AssignmentAt rest ys → SpellsAssignments rest ys
assignments_to none = no_assignments
assignments_to (more {v = v} {vs = vs} {ys = us} {zs = zs} x d m) =
    let q = d.2 in
    let b = assigned_to d.0.1 q.1 q.4 in
    let split : us ≡ q.0 ++ b.assign ∷ (b.tokens ++ b.semi ∷ []) = q.2 ∙ ap (λ z. q.0 ++ z) b.split in
    carried SpellsAssignments (ap (λ (z : PlainAssignment). z ∷ vs) d.1)
    (ap (λ z. x ∷ z) (ap (λ z. q.0 ++ b.assign ∷ z) (sym (append_assoc b.tokens (b.semi ∷ []) zs)) ∙ sym (append_assoc q.0 (b.assign ∷ (b.tokens ++ b.semi ∷ [])) zs) ∙ ap (λ z. z ++ zs) (sym split)))
    (assignment_then (target_to x d.0.0 q.0 q.3) b.assign b.is b.spells b.semi b.ends (assignments_to m))

assignments_from : {rest : List PlainAssignment} {ys : List Token} → SpellsAssignments rest ys → Many AssignmentAt rest ys
assignments_from no_assignments = none
assignments_from (assignment_then {w = w} {path = path} {t = t} {rest = rest} {xs = xs} {ys = ys} {zs = zs} target assign a e semi s m) =
    let p = target_from w path xs target in
    carried (Many AssignmentAt) refl
    (ap (λ z. p.0 ∷ z) (append_assoc p.1 (assign ∷ (ys ++ semi ∷ [])) zs ∙ ap (λ z. p.1 ++ assign ∷ z) (append_assoc ys (semi ∷ []) zs)) ∙ ap (λ z. z ++ assign ∷ (ys ++ semi ∷ zs)) (sym p.2))
    (more {ys = p.1 ++ assign ∷ (ys ++ semi ∷ [])} p.0 (((w, path), t), refl, (p.1, assign ∷ (ys ++ semi ∷ []), refl, p.3, body_from t ys assign semi a e s)) (assignments_from m))

pub lawful_assignments : Lawful (many assignment_pick) SpellsAssignments (of_all of_assignment) (Unpicked assignment_pick)
lawful_assignments = lawful_as (many assignment_pick) (Many AssignmentAt) SpellsAssignments (of_all of_assignment) (Unpicked assignment_pick)
    (lawful_many assignment_pick AssignmentAt of_assignment Free (Unpicked assignment_pick) assignment_law (λ rest stop. (stop, tt)) (λ x v ys zs d. tt))
    (λ v ys d. assignments_to d) (λ v ys d. assignments_from d)

pub all_assignments : (rest : List PlainAssignment) → of_all of_assignment rest ≡ of_assignments rest
all_assignments [] = refl
all_assignments (a ∷ rest) = ap (λ z. a.body ∷ z) (all_assignments rest)
