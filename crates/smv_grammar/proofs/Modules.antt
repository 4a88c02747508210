-- The readers of sections and modules.
use Rattle.std.proofs.Common.{◌≡◌, inl, inr, ℕ, Bool, true, false, Option, Some, None, List, [], ◌∷◌, ◌++◌, length, refl, sym, ap, ◌∙◌, subst, append_assoc}
use Rattle.std.specs.List.{flat_map}
use Rattle.text_core.specs.declared.place.Place.{Place}
use Rattle.smv_text.specs.declared.token.Reserved.TheVariants as words
use Rattle.smv_text.specs.declared.token.Sign.TheVariants as signs
use Rattle.smv_text.specs.declared.token.TokenKind.{TokenKind}
use Rattle.smv_text.specs.declared.token.TokenKind.TheVariants as kind
use Rattle.smv_text.specs.declared.token.Token.{Token}
use Rattle.smv_text.specs.declared.tree.VarKind.{VarKind}
use Rattle.smv_text.specs.declared.tree.VarKind.TheVariants.{State, Input, Frozen}
use Rattle.smv_text.specs.declared.tree.Parameter.{Parameter}
use Rattle.smv_text.specs.Levels.{all_levels}
use Rattle.smv_text.specs.Grammar.{Spells}
use Rattle.smv_text.specs.Heights.{of_element, of_modules}
use Rattle.smv_text.specs.Sources.{SpellsNames, no_names, name_then, SpellsFormals, no_formals, SpellsItems, SpellsDefinitions, SpellsAssignments, IsOptional, left_out, semicolon, SpellsLabel, no_label, label as label_stated, section_word, SpellsElement, variables, definitions, symbol_names, assignments, inits, transitions, invariants, specifications, SpellsElements, no_elements, element_then, SpellsModules, no_modules, module_then}
use Rattle.smv_text.specs.Tree.{Tree, PlainElement, vars, defines, constants, assigns, init, trans, invar, spec, PlainModule}
use Rattle.smv_grammar.specs.Marks.{is_sign, is_word}
use Rattle.smv_grammar.specs.Machine.{goes_on, Ends}
use Rattle.smv_grammar.specs.Readers.{Reader, both, mapped, many, nothing, counted, expression}
use Rattle.smv_grammar.specs.Rules.{symbol, sign, name, behind, listed, bracketed, parameter, item_pick, definition_pick, assignment_pick, optional, constraint, label_pick, label, element_pick, module_rest, module_pick}
use Rattle.smv_grammar.proofs.Lawful.{Lawful, Inhabited, Both, of_both, lawful_both}
use Rattle.smv_grammar.proofs.Choices.{Free, of_none, PickLaw, Picked, Either, Unpicked, Nothing, lawful_nothing, lawful_either}
use Rattle.smv_grammar.proofs.Mapped.{Counted, of_second, lawful_counted}
use Rattle.smv_grammar.proofs.Loops.{Many, none, more, of_all, lawful_many}
use Rattle.smv_grammar.proofs.Types.{carried, all_none, expression_opens, lawful_formals}
use Rattle.smv_grammar.proofs.Sections.{of_item, all_items, lawful_items, of_definition, all_definitions, lawful_definitions, of_assignment, all_assignments, lawful_assignments, StepAt, lawful_symbol}
use Rattle.smv_grammar.proofs.Asked.{alone, lawful_expression, some_expression}
use Rattle.smv_grammar.proofs.Tokens.{lawful_as, lawful_before, SignAt, NameAt, lawful_sign, lawful_name, Made, lawful_made, some_sign}
use Rattle.smv_grammar.proofs.Lists.{Behind, behind_law, Listed, lawful_listed, NotOpen}

-- what ends a section: a word that begins the next one or the next module, or the end
abbrev pub closes : TokenKind → Bool
closes (kind.Reserved words.Module) = true
closes (kind.Reserved words.Var) = true
closes (kind.Reserved words.Ivar) = true
closes (kind.Reserved words.Frozenvar) = true
closes (kind.Reserved words.Define) = true
closes (kind.Reserved words.Constants) = true
closes (kind.Reserved words.Assign) = true
closes (kind.Reserved words.Init) = true
closes (kind.Reserved words.Trans) = true
closes (kind.Reserved words.Invar) = true
closes (kind.Reserved words.Invarspec) = true
closes _ = false

abbrev pub Closed : List Token → Type 0
Closed [] = Unit {0}
Closed (x ∷ xs) = closes x.kind ≡ true

abbrev pub no_value : Reader (Unit {0})
no_value = nothing tt

-- no section goes on with such a word
abbrev Facts : TokenKind → Place → Type 0
Facts k p =
    (goes_on k ≡ false) × (is_sign signs.Open k ≡ false) × (behind signs.Semicolon no_value k p ≡ None) × ((j : VarKind) → item_pick j k p ≡ None) × (definition_pick k p ≡ None)
    × (assignment_pick k p ≡ None)

facts : (k : TokenKind) (p : Place) → closes k ≡ true → Facts k p
facts (kind.Reserved words.Module) p e = (refl, refl, refl, λ j. refl, refl, refl)
facts (kind.Reserved words.Var) p e = (refl, refl, refl, λ j. refl, refl, refl)
facts (kind.Reserved words.Ivar) p e = (refl, refl, refl, λ j. refl, refl, refl)
facts (kind.Reserved words.Frozenvar) p e = (refl, refl, refl, λ j. refl, refl, refl)
facts (kind.Reserved words.Define) p e = (refl, refl, refl, λ j. refl, refl, refl)
facts (kind.Reserved words.Constants) p e = (refl, refl, refl, λ j. refl, refl, refl)
facts (kind.Reserved words.Assign) p e = (refl, refl, refl, λ j. refl, refl, refl)
facts (kind.Reserved words.Init) p e = (refl, refl, refl, λ j. refl, refl, refl)
facts (kind.Reserved words.Trans) p e = (refl, refl, refl, λ j. refl, refl, refl)
facts (kind.Reserved words.Invar) p e = (refl, refl, refl, λ j. refl, refl, refl)
facts (kind.Reserved words.Invarspec) p e = (refl, refl, refl, λ j. refl, refl, refl)
facts _ p e = absurd (let f : false ≡ true = e in cc)

closed_ends : (xs : List Token) → Closed xs → Ends xs
closed_ends [] c = tt
closed_ends (x ∷ xs) c = (facts x.kind x.place c).0

closed_shut : (xs : List Token) → Closed xs → NotOpen xs
closed_shut [] c = tt
closed_shut (x ∷ xs) c = (facts x.kind x.place c).1

closed_items : (k : VarKind) (xs : List Token) → Closed xs → Unpicked (item_pick k) xs
closed_items k [] c = tt
closed_items k (x ∷ xs) c = (facts x.kind x.place c).3 k

closed_definitions : (xs : List Token) → Closed xs → Unpicked definition_pick xs
closed_definitions [] c = tt
closed_definitions (x ∷ xs) c = (facts x.kind x.place c).4

closed_assignments : (xs : List Token) → Closed xs → Unpicked assignment_pick xs
closed_assignments [] c = tt
closed_assignments (x ∷ xs) c = (facts x.kind x.place c).5

-- a semicolon, or nothing
abbrev pub OptionalAt : Unit {0} → List Token → Type 0
OptionalAt u ys = IsOptional ys

abbrev NotSemicolon : List Token → Type 0
NotSemicolon = Unpicked (behind signs.Semicolon no_value)

closed_semicolon : (xs : List Token) → Closed xs → NotSemicolon xs
closed_semicolon [] c = tt
closed_semicolon (x ∷ xs) c = (facts x.kind x.place c).2

optional_to : (u : Unit {0}) (ys : List Token) → Either (Behind signs.Semicolon (Nothing tt)) (Nothing tt) u ys → IsOptional ys
optional_to u ys (inl d) = subst IsOptional (sym (d.2 ∙ ap (λ z. d.0 ∷ z) d.3.1.1)) (semicolon d.0 d.3.0)
optional_to u ys (inr d) = subst IsOptional (sym d.1) left_out

optional_from : (u : Unit {0}) (ys : List Token) → IsOptional ys → Either (Behind signs.Semicolon (Nothing tt)) (Nothing tt) u ys
optional_from u ys left_out = inr (refl, refl)
optional_from u ys (semicolon x s) = inl (x, [], refl, (s, (refl, refl)))

lawful_optional : Lawful optional OptionalAt of_none NotSemicolon
unfolding optional
lawful_optional = lawful_as optional (Either (Behind signs.Semicolon (Nothing tt)) (Nothing tt)) OptionalAt of_none NotSemicolon
    (lawful_either (behind signs.Semicolon no_value) (Behind signs.Semicolon (Nothing tt)) of_none NotSemicolon
    (behind_law no_value (Nothing tt) of_none NotSemicolon (lawful_nothing tt of_none NotSemicolon refl) signs.Semicolon)
    no_value (Nothing tt) (lawful_nothing tt of_none NotSemicolon refl) (λ v ys rest d stop. subst (λ z. NotSemicolon (z ++ rest)) (sym d.1) stop))
    optional_to optional_from

-- a constraint
abbrev pub constraint_of : Tree × Unit {0} → Tree
constraint_of q = q.0

abbrev pub ConstraintAt : Tree → List Token → Type 0
ConstraintAt = Made constraint_of (Both (Spells all_levels) OptionalAt)

optional_ends : (u : Unit {0}) (zs rest : List Token) → IsOptional zs → Closed rest → Ends (zs ++ rest)
optional_ends u zs rest left_out c = closed_ends rest c
optional_ends u zs rest (semicolon x s) c = ap goes_on s

lawful_constraint : Lawful constraint ConstraintAt alone Closed
unfolding constraint
lawful_constraint = lawful_made constraint_of (both expression optional) (Both (Spells all_levels) OptionalAt) (of_both alone of_none) alone Closed
    (lawful_both expression optional (Spells all_levels) OptionalAt alone of_none Ends Closed lawful_expression (lawful_before optional OptionalAt of_none NotSemicolon Closed lawful_optional closed_semicolon) (tt, [], left_out) optional_ends)
    (λ q. refl)

constraint_from : (t : Tree) (xs ys : List Token) → Spells all_levels t xs → IsOptional ys → ConstraintAt t (xs ++ ys)
constraint_from t xs ys d o = ((t, tt), refl, (xs, ys, refl, d, o))

-- the name of an invariant
abbrev label_of : (List ℕ × Place) × (Unit {0} × Place) → Option (List ℕ)
label_of q = Some q.0.0

abbrev LabelAt : TokenKind → Place → Option (List ℕ) → List Token → Type 0
LabelAt (kind.Reserved words.Name) p o ys = Made label_of (Both NameAt (SignAt signs.Assign)) o ys
LabelAt _ p o ys = ⊥

abbrev NotLabel : List Token → Type 0
NotLabel = Unpicked label_pick

label_law : (k : TokenKind) (p : Place) → PickLaw (label_pick k p) (LabelAt k p) of_none NotLabel
label_law (kind.Reserved words.Name) p = lawful_made label_of (both name (sign signs.Assign)) (Both NameAt (SignAt signs.Assign)) (of_both of_none of_none) of_none NotLabel
    (lawful_before (both name (sign signs.Assign)) (Both NameAt (SignAt signs.Assign)) (of_both of_none of_none) Free NotLabel
    (lawful_both name (sign signs.Assign) NameAt (SignAt signs.Assign) of_none of_none Free Free lawful_name (lawful_sign signs.Assign) (some_sign signs.Assign) (λ w zs rest d stop. tt)) (λ rest stop. tt))
    (λ q. refl)
label_law _ p = λ v ys d. d

label_to : (o : Option (List ℕ)) (ys : List Token) → Either LabelAt (Nothing None) o ys → SpellsLabel o ys
label_to o ys (inr d) = carried SpellsLabel (sym d.0) (sym d.1) no_label
label_to o ys (inl d) = subst (SpellsLabel o) (sym d.2) (go d.0.kind refl d.3)
  where
    go : (k : TokenKind) → d.0.kind ≡ k → LabelAt k d.0.place o d.1 → SpellsLabel o (d.0 ∷ d.1)
    go (kind.Reserved words.Name) e f =
        let q = f.2 in
        carried SpellsLabel f.1 (ap (λ z. d.0 ∷ z) (ap (λ z. q.3.0 ∷ z) (sym q.4.1) ∙ ap (λ z. z ++ q.1) (sym q.3.1) ∙ sym q.2)) (label_stated d.0 q.3.0 q.4.0 e q.3.2 q.4.2)
    go _ e f = absurd f

label_from : (o : Option (List ℕ)) (ys : List Token) → SpellsLabel o ys → Either LabelAt (Nothing None) o ys
label_from o ys no_label = inr (refl, refl)
label_from o ys (label_stated {n = n} x identifier assign e i a) = inl (
  x,
  identifier ∷ assign ∷ [],
  refl,
  subst (λ k. LabelAt k x.place (Some n) (identifier ∷ assign ∷ [])) (sym e) (((n, identifier.place), (tt, assign.place)), refl, (identifier ∷ [], assign ∷ [], refl, (identifier, refl, i, refl), (assign, refl, a, refl))),
)

lawful_label : Lawful label SpellsLabel of_none NotLabel
unfolding label
lawful_label = lawful_as label (Either LabelAt (Nothing None)) SpellsLabel of_none NotLabel
    (lawful_either label_pick LabelAt of_none NotLabel label_law (nothing None) (Nothing None) (lawful_nothing None of_none NotLabel refl)
    (λ v ys rest d stop. subst (λ z. NotLabel (z ++ rest)) (sym d.1) stop))
    label_to label_from

not_label : (k : TokenKind) (p : Place) → is_word words.Name k ≡ false → label_pick k p ≡ None
not_label (kind.Reserved words.Name) p e = absurd (let f : true ≡ false = e in cc)
not_label _ p e = refl

constraint_opens : (t : Tree) (zs rest : List Token) → ConstraintAt t zs → Closed rest → NotLabel (zs ++ rest)
constraint_opens t zs rest d stop =
    let q = d.2 in
    let o = expression_opens d.0.0 q.0 q.3 in
    subst (λ z. NotLabel (z ++ rest)) (sym (q.2 ∙ ap (λ z. z ++ q.1) o.split)) (not_label o.first.kind o.first.place o.not_name)

abbrev pub specification_of : Option (List ℕ) × Tree → PlainElement
specification_of q = spec q.0 q.1

some_constraint : Inhabited ConstraintAt
some_constraint = (some_expression.0, some_expression.1 ++ [], constraint_from some_expression.0 some_expression.1 [] some_expression.2 left_out)

lawful_specification : Lawful (both label constraint) (Both SpellsLabel ConstraintAt) (of_both of_none alone) Closed
lawful_specification = lawful_both label constraint SpellsLabel ConstraintAt of_none alone NotLabel Closed lawful_label lawful_constraint some_constraint constraint_opens

-- symbols
lawful_symbols : Lawful (listed symbol signs.Semicolon) (Listed StepAt signs.Semicolon) (of_all of_none) Free
lawful_symbols = lawful_listed symbol StepAt of_none Free lawful_symbol signs.Semicolon (λ x xs e. tt) (λ x xs e. tt) refl

names_to : {ns : List (List ℕ)} {ys : List Token} → Many (Behind signs.Comma StepAt) ns ys → SpellsNames ns ys
names_to none = no_names
names_to (more {v = v} {vs = vs} {ys = us} {zs = zs} x d m) =
    let q = d.1.2 in
    carried SpellsNames (ap (λ (z : List ℕ). z ∷ vs) d.1.1) (ap (λ z. x ∷ (z ++ zs)) (sym q.1)) (name_then x q.0 d.0 q.2 (names_to m))

names_from : {ns : List (List ℕ)} {ys : List Token} → SpellsNames ns ys → Many (Behind signs.Comma StepAt) ns ys
names_from no_names = none
names_from (name_then {n = n} comma x c e m) = more {ys = x ∷ []} comma (c, ((n, x.place), refl, (x, refl, e, refl))) (names_from m)

-- sections
abbrev pub ElementAt : TokenKind → Place → PlainElement → List Token → Type 0
ElementAt (kind.Reserved words.Var) p e ys = Made (vars State) (SpellsItems State) e ys
ElementAt (kind.Reserved words.Ivar) p e ys = Made (vars Input) (SpellsItems Input) e ys
ElementAt (kind.Reserved words.Frozenvar) p e ys = Made (vars Frozen) (SpellsItems Frozen) e ys
ElementAt (kind.Reserved words.Define) p e ys = Made defines SpellsDefinitions e ys
ElementAt (kind.Reserved words.Constants) p e ys = Made constants (Listed StepAt signs.Semicolon) e ys
ElementAt (kind.Reserved words.Assign) p e ys = Made assigns SpellsAssignments e ys
ElementAt (kind.Reserved words.Init) p e ys = Made init ConstraintAt e ys
ElementAt (kind.Reserved words.Trans) p e ys = Made trans ConstraintAt e ys
ElementAt (kind.Reserved words.Invar) p e ys = Made invar ConstraintAt e ys
ElementAt (kind.Reserved words.Invarspec) p e ys = Made specification_of (Both SpellsLabel ConstraintAt) e ys
ElementAt _ p e ys = ⊥

variables_law : (k : VarKind) → Lawful (mapped (vars k) (many (item_pick k))) (Made (vars k) (SpellsItems k)) of_element Closed
variables_law k = lawful_made (vars k) (many (item_pick k)) (SpellsItems k) (of_all of_item) of_element Closed
    (lawful_before (many (item_pick k)) (SpellsItems k) (of_all of_item) (Unpicked (item_pick k)) Closed (lawful_items k) (closed_items k)) (λ is. sym (all_items is))

pub element_law : (k : TokenKind) (p : Place) → PickLaw (element_pick k p) (ElementAt k p) of_element Closed
element_law (kind.Reserved words.Var) p = variables_law State
element_law (kind.Reserved words.Ivar) p = variables_law Input
element_law (kind.Reserved words.Frozenvar) p = variables_law Frozen
element_law (kind.Reserved words.Define) p = lawful_made defines (many definition_pick) SpellsDefinitions (of_all of_definition) of_element Closed
    (lawful_before (many definition_pick) SpellsDefinitions (of_all of_definition) (Unpicked definition_pick) Closed lawful_definitions closed_definitions) (λ ds. sym (all_definitions ds))
element_law (kind.Reserved words.Constants) p = lawful_made constants (listed symbol signs.Semicolon) (Listed StepAt signs.Semicolon) (of_all of_none) of_element Closed
    (lawful_before (listed symbol signs.Semicolon) (Listed StepAt signs.Semicolon) (of_all of_none) Free Closed lawful_symbols (λ rest stop. tt)) (λ ns. sym (all_none ns))
element_law (kind.Reserved words.Assign) p = lawful_made assigns (many assignment_pick) SpellsAssignments (of_all of_assignment) of_element Closed
    (lawful_before (many assignment_pick) SpellsAssignments (of_all of_assignment) (Unpicked assignment_pick) Closed lawful_assignments closed_assignments) (λ all. sym (all_assignments all))
element_law (kind.Reserved words.Init) p = lawful_made init constraint ConstraintAt alone of_element Closed lawful_constraint (λ t. refl)
element_law (kind.Reserved words.Trans) p = lawful_made trans constraint ConstraintAt alone of_element Closed lawful_constraint (λ t. refl)
element_law (kind.Reserved words.Invar) p = lawful_made invar constraint ConstraintAt alone of_element Closed lawful_constraint (λ t. refl)
element_law (kind.Reserved words.Invarspec) p = lawful_made specification_of (both label constraint) (Both SpellsLabel ConstraintAt) (of_both of_none alone) of_element Closed lawful_specification (λ q. refl)
element_law _ p = λ v ys d. d

element_to : (x : Token) (e : PlainElement) (ys : List Token) → ElementAt x.kind x.place e ys → SpellsElement e (x ∷ ys)
element_to x e ys d = go x.kind refl d
  where
    section : (k : VarKind) → x.kind ≡ kind.Reserved (section_word k) → Made (vars k) (SpellsItems k) e ys → SpellsElement e (x ∷ ys)
    section k i f = subst (λ z. SpellsElement z (x ∷ ys)) f.1 (variables {k = k} x i f.2)

    held : (f : Tree → PlainElement) → ((t : Tree) (xs zs : List Token) → Spells all_levels t xs → IsOptional zs → SpellsElement (f t) (x ∷ (xs ++ zs))) → Made f ConstraintAt e ys → SpellsElement e (x ∷ ys)
    held f make g = let q = g.2.2 in carried SpellsElement (ap f g.2.1 ∙ g.1) (ap (λ z. x ∷ z) (sym q.2)) (make g.2.0.0 q.0 q.1 q.3 q.4)

    go : (k : TokenKind) → x.kind ≡ k → ElementAt k x.place e ys → SpellsElement e (x ∷ ys)
    go (kind.Reserved words.Var) i f = section State i f
    go (kind.Reserved words.Ivar) i f = section Input i f
    go (kind.Reserved words.Frozenvar) i f = section Frozen i f
    go (kind.Reserved words.Define) i f = subst (λ z. SpellsElement z (x ∷ ys)) f.1 (definitions x i f.2)
    go (kind.Reserved words.Constants) i f =
        let l = f.2 in
        let q = l.spells.2 in
        carried SpellsElement (ap constants (ap (λ (z : List ℕ). z ∷ l.others) l.spells.1 ∙ sym l.values) ∙ f.1)
        (ap (λ z. x ∷ z) (ap (λ z. z ++ (l.remainder ++ l.closing ∷ [])) (sym q.1) ∙ sym l.split)) (symbol_names x q.0 i q.2 (names_to l.more) l.closing l.closes)
    go (kind.Reserved words.Assign) i f = subst (λ z. SpellsElement z (x ∷ ys)) f.1 (assignments x i f.2)
    go (kind.Reserved words.Init) i f = held init (λ t xs zs d o. inits x i d o) f
    go (kind.Reserved words.Trans) i f = held trans (λ t xs zs d o. transitions x i d o) f
    go (kind.Reserved words.Invar) i f = held invar (λ t xs zs d o. invariants x i d o) f
    go (kind.Reserved words.Invarspec) i f =
        let b = f.2 in
        let q = b.4.2 in
        carried SpellsElement (ap (spec f.0.0) b.4.1 ∙ f.1) (ap (λ z. x ∷ z) (ap (λ z. b.0 ++ z) (sym q.2) ∙ sym b.2)) (specifications x i b.3 q.3 q.4)
    go _ i f = absurd f

element_from : (e : PlainElement) (ys : List Token) → SpellsElement e ys → Picked ElementAt e ys
element_from e ys (variables {k = State} {is = is} {xs = xs} x i d) = (x, xs, refl, subst (λ k. ElementAt k x.place (vars State is) xs) (sym i) (is, refl, d))
element_from e ys (variables {k = Input} {is = is} {xs = xs} x i d) = (x, xs, refl, subst (λ k. ElementAt k x.place (vars Input is) xs) (sym i) (is, refl, d))
element_from e ys (variables {k = Frozen} {is = is} {xs = xs} x i d) = (x, xs, refl, subst (λ k. ElementAt k x.place (vars Frozen is) xs) (sym i) (is, refl, d))
element_from e ys (definitions {ds = ds} {xs = xs} x i d) = (x, xs, refl, subst (λ k. ElementAt k x.place (defines ds) xs) (sym i) (ds, refl, d))
element_from e ys (symbol_names {n = n} {ns = ns} {xs = xs} x first i f m semi s) =
    let l : Listed StepAt signs.Semicolon (n ∷ ns) (first ∷ (xs ++ semi ∷ [])) = record {
      first = n;
      others = ns;
      tokens = first ∷ [];
      remainder = xs;
      closing = semi;
      values = refl;
      split = refl;
      spells = ((n, first.place), refl, (first, refl, f, refl));
      more = names_from m;
      closes = s;
    } in
    (x, first ∷ (xs ++ semi ∷ []), refl, subst (λ k. ElementAt k x.place (constants (n ∷ ns)) (first ∷ (xs ++ semi ∷ []))) (sym i) (n ∷ ns, refl, l))
element_from e ys (assignments {rest = rest} {xs = xs} x i d) = (x, xs, refl, subst (λ k. ElementAt k x.place (assigns rest) xs) (sym i) (rest, refl, d))
element_from e ys (inits {t = t} {xs = xs} {ys = os} x i d o) = (x, xs ++ os, refl, subst (λ k. ElementAt k x.place (init t) (xs ++ os)) (sym i) (t, refl, constraint_from t xs os d o))
element_from e ys (transitions {t = t} {xs = xs} {ys = os} x i d o) = (x, xs ++ os, refl, subst (λ k. ElementAt k x.place (trans t) (xs ++ os)) (sym i) (t, refl, constraint_from t xs os d o))
element_from e ys (invariants {t = t} {xs = xs} {ys = os} x i d o) = (x, xs ++ os, refl, subst (λ k. ElementAt k x.place (invar t) (xs ++ os)) (sym i) (t, refl, constraint_from t xs os d o))
element_from e ys (specifications {o = l} {t = t} {ns = ns} {xs = xs} {ys = os} x i n d o) =
    (x, ns ++ (xs ++ os), refl, subst (λ k. ElementAt k x.place (spec l t) (ns ++ (xs ++ os))) (sym i) ((l, t), refl, (ns, xs ++ os, refl, n, constraint_from t xs os d o)))

-- a section begins with a word that ends another
element_closes : (k : TokenKind) (p : Place) (e : PlainElement) (ys : List Token) → ElementAt k p e ys → closes k ≡ true
element_closes k p e ys d = go k d
  where
    go : (k : TokenKind) → ElementAt k p e ys → closes k ≡ true
    go (kind.Reserved words.Var) f = refl
    go (kind.Reserved words.Ivar) f = refl
    go (kind.Reserved words.Frozenvar) f = refl
    go (kind.Reserved words.Define) f = refl
    go (kind.Reserved words.Constants) f = refl
    go (kind.Reserved words.Assign) f = refl
    go (kind.Reserved words.Init) f = refl
    go (kind.Reserved words.Trans) f = refl
    go (kind.Reserved words.Invar) f = refl
    go (kind.Reserved words.Invarspec) f = refl
    go _ f = absurd f

elements_to : {es : List PlainElement} {ys : List Token} → Many ElementAt es ys → SpellsElements es ys
elements_to none = no_elements
elements_to (more {v = v} {ys = us} x d m) = element_then (element_to x v us d) (elements_to m)

elements_from : {es : List PlainElement} {ys : List Token} → SpellsElements es ys → Many ElementAt es ys
elements_from no_elements = none
elements_from (element_then {e = e} {xs = xs} {ys = zs} d m) = let p = element_from e xs d in carried (Many ElementAt) refl (ap (λ z. z ++ zs) (sym p.2)) (more {ys = p.1} p.0 p.3 (elements_from m))

-- the next module, or the end
abbrev pub Outside : List Token → Type 0
Outside [] = Unit {0}
Outside (x ∷ xs) = x.kind ≡ kind.Reserved words.Module

outside_closed : (xs : List Token) → Outside xs → Closed xs
outside_closed [] c = tt
outside_closed (x ∷ xs) c = ap closes c

outside_unpicked : (xs : List Token) → Outside xs → Unpicked element_pick xs
outside_unpicked [] c = tt
outside_unpicked (x ∷ xs) c = ap (λ k. element_pick k x.place) c

lawful_elements : Lawful (many element_pick) SpellsElements (of_all of_element) Outside
lawful_elements = lawful_as (many element_pick) (Many ElementAt) SpellsElements (of_all of_element) Outside
    (lawful_many element_pick ElementAt of_element Closed Outside element_law (λ rest stop. (outside_unpicked rest stop, outside_closed rest stop)) (λ x v ys zs d. element_closes x.kind x.place v ys d))
    (λ v ys d. elements_to d) (λ v ys d. elements_from d)

all_elements : (es : List PlainElement) → of_all of_element es ≡ flat_map of_element es
all_elements [] = refl
all_elements (e ∷ es) = ap (λ z. of_element e ++ z) (all_elements es)

-- modules
abbrev pub Parts : Type 0
Parts = (List ℕ × Place) × (List Parameter × (ℕ × List PlainElement))

abbrev pub module_of : Parts → PlainModule
module_of q = record { name = q.0.0; place = q.0.1; parameters = q.1.0; elements = q.1.1.1; tokens = q.1.1.0 }

abbrev pub of_module : PlainModule → List Tree
of_module m = flat_map of_element m.elements

abbrev pub PartsAt : Parts → List Token → Type 0
PartsAt = Both NameAt (Both SpellsFormals (Counted SpellsElements))

abbrev pub ModuleAt : TokenKind → Place → PlainModule → List Token → Type 0
ModuleAt (kind.Reserved words.Module) p m ys = Made module_of PartsAt m ys
ModuleAt _ p m ys = ⊥

elements_shut : (c : ℕ × List PlainElement) (zs rest : List Token) → Counted SpellsElements c zs → Outside rest → NotOpen (zs ++ rest)
elements_shut c zs rest d stop = closed_shut (zs ++ rest) (go (elements_from d.0))
  where
    go : {es : List PlainElement} {ys : List Token} → Many ElementAt es ys → Closed (ys ++ rest)
    go none = outside_closed rest stop
    go (more {v = v} {ys = us} x e m) = element_closes x.kind x.place v us e

lawful_module : Lawful module_rest (Made module_of PartsAt) of_module Outside
unfolding module_rest
lawful_module =
    let counted_elements = lawful_counted (many element_pick) SpellsElements (of_all of_element) Outside lawful_elements in
    lawful_made module_of (both name (both (bracketed parameter) (counted (many element_pick)))) PartsAt (of_both of_none (of_both (of_all of_none) (of_second (of_all of_element)))) of_module Outside
    (lawful_both name (both (bracketed parameter) (counted (many element_pick))) NameAt (Both SpellsFormals (Counted SpellsElements)) of_none (of_both (of_all of_none) (of_second (of_all of_element))) Free Outside lawful_name
    (lawful_both (bracketed parameter) (counted (many element_pick)) SpellsFormals (Counted SpellsElements) (of_all of_none) (of_second (of_all of_element)) NotOpen Outside lawful_formals counted_elements
    ((0, []), [], (no_elements, refl)) elements_shut)
    (([], (0, [])), [], ([], [], refl, no_formals, (no_elements, refl))) (λ w zs rest d stop. tt))
    (λ q. sym (ap (λ z. z ++ of_all of_element q.1.1.1) (all_none q.1.0) ∙ all_elements q.1.1.1))

pub module_law : (k : TokenKind) (p : Place) → PickLaw (module_pick k p) (ModuleAt k p) of_module Outside
module_law (kind.Reserved words.Module) p = lawful_module
module_law _ p = λ v ys d. d

modules_to : {ms : List PlainModule} {ys : List Token} → Many ModuleAt ms ys → SpellsModules ms ys
modules_to none = no_modules
modules_to (more {v = v} {vs = vs} {ys = us} {zs = zs} x d m) = go x.kind refl d (modules_to m)
  where
    go : (k : TokenKind) → x.kind ≡ k → ModuleAt k x.place v us → SpellsModules vs zs → SpellsModules (v ∷ vs) (x ∷ (us ++ zs))
    go (kind.Reserved words.Module) i f others =
        let q = f.0 in
        let a = f.2 in
        let b = a.4 in
        let name_place : PlainModule = module_of ((q.0.0, a.3.0.place), (q.1.0, (length b.1, q.1.1.1))) in
        let value : name_place ≡ v =
        ap (λ (z : Place). module_of ((q.0.0, z), (q.1.0, (length b.1, q.1.1.1)))) (sym a.3.3)
        ∙ ap (λ (z : ℕ). module_of (q.0, (q.1.0, (z, q.1.1.1)))) (sym b.4.1) ∙ f.1 in
        carried SpellsModules (ap (λ (z : PlainModule). z ∷ vs) value)
        (ap (λ z. x ∷ z) (ap (λ z. a.3.0 ∷ z) (sym (append_assoc b.0 b.1 zs)) ∙ ap (λ z. z ++ zs) (ap (λ z. a.3.0 ∷ z) (sym b.2) ∙ ap (λ z. z ++ a.1) (sym a.3.1) ∙ sym a.2)))
        (module_then x a.3.0 i a.3.2 b.3 b.4.0 others)
    go _ i f others = absurd f

modules_from : {ms : List PlainModule} {ys : List Token} → SpellsModules ms ys → Many ModuleAt ms ys
modules_from no_modules = none
modules_from (module_then {n = n} {ps = ps} {es = es} {ms = ms} {xs = xs} {ys = ys} {zs = zs} x identifier i e f d m) =
    let value : PlainModule = module_of ((n, identifier.place), (ps, (length ys, es))) in
    let parts : Made module_of PartsAt value (identifier ∷ (xs ++ ys)) =
    (((n, identifier.place), (ps, (length ys, es))), refl, (identifier ∷ [], xs ++ ys, refl, (identifier, refl, e, refl), (xs, ys, refl, f, (d, refl)))) in
    carried (Many ModuleAt) refl (ap (λ z. x ∷ identifier ∷ z) (append_assoc xs ys zs))
    (more {ys = identifier ∷ (xs ++ ys)} x (subst (λ k. ModuleAt k x.place value (identifier ∷ (xs ++ ys))) (sym i) parts) (modules_from m))

module_word : (k : TokenKind) (p : Place) (m : PlainModule) (ys : List Token) → ModuleAt k p m ys → k ≡ kind.Reserved words.Module
module_word k p m ys d = go k d
  where
    go : (t : TokenKind) → ModuleAt t p m ys → t ≡ kind.Reserved words.Module
    go (kind.Reserved words.Module) f = refl
    go _ f = absurd f

abbrev pub AtEnd : List Token → Type 0
AtEnd xs = xs ≡ []

pub lawful_modules : Lawful (many module_pick) SpellsModules (of_all of_module) AtEnd
lawful_modules = lawful_as (many module_pick) (Many ModuleAt) SpellsModules (of_all of_module) AtEnd
    (lawful_many module_pick ModuleAt of_module Outside AtEnd module_law (λ rest stop. (subst (Unpicked module_pick) (sym stop) tt, subst Outside (sym stop) tt))
    (λ x v ys zs d. module_word x.kind x.place v ys d))
    (λ v ys d. modules_to d) (λ v ys d. modules_from d)

pub all_modules : (ms : List PlainModule) → of_all of_module ms ≡ of_modules ms
all_modules [] = refl
all_modules (m ∷ ms) = ap (λ z. flat_map of_element m.elements ++ z) (all_modules ms)
