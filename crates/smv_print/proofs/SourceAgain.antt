-- Tokens of the kinds that are printed for a model spell it but for its places and its counts of tokens.
use Rattle.std.proofs.Common.{◌≡◌, ℕ, true, false, Option, Some, None, List, [], ◌∷◌, ◌++◌, map, length, refl, sym, ap, ◌∙◌, subst, append_assoc}
use Rattle.std.specs.List.{flat_map}
use Rattle.text_core.specs.declared.place.Place.{Place}
use Rattle.smv_text.specs.declared.token.Token.{Token}
use Rattle.smv_text.specs.declared.token.Reserved.{Reserved}
use Rattle.smv_text.specs.declared.token.Reserved.TheVariants as word
use Rattle.smv_text.specs.declared.token.Sign.{Sign}
use Rattle.smv_text.specs.declared.token.Sign.TheVariants as sign
use Rattle.smv_text.specs.declared.token.TokenKind.{TokenKind}
use Rattle.smv_text.specs.declared.token.TokenKind.TheVariants as kind
use Rattle.smv_text.specs.declared.tree.Path.{Path}
use Rattle.smv_text.specs.declared.tree.Member.{Member}
use Rattle.smv_text.specs.declared.tree.Member.TheVariants as member
use Rattle.smv_text.specs.declared.tree.VarKind.{VarKind}
use Rattle.smv_text.specs.declared.tree.VarKind.TheVariants as var_kind
use Rattle.smv_text.specs.declared.tree.When.{When}
use Rattle.smv_text.specs.declared.tree.When.TheVariants as when_
use Rattle.smv_text.specs.declared.tree.Parameter.{Parameter}
use Rattle.smv_text.specs.Lexing.{kinds}
use Rattle.smv_text.specs.Levels.{all_levels}
use Rattle.smv_text.specs.Tree.{Tree, Trees, no_trees, PlainDomain, boolean, members, between, bits, instance, PlainItem, PlainDefinition, PlainAssignment, PlainElement, vars, defines, constants, assigns, init, trans, invar, spec, PlainModule, PlainSource}
use Rattle.smv_text.specs.Grammar.{start, IsSign, Spells, SpellsListed, last_one, one_before}
use Rattle.smv_text.specs.Sources.{IsWord, SpellsNames, no_names, name_then, SpellsParameters, no_parameters, parameter_then, SpellsFormals, no_formals, formals, SpellsActuals, no_actuals, empty_actuals, actuals, SpellsMember, symbols, integers, SpellsMembers, no_members, member_then, unstated, SpellsType, booleans, enumerations, intervals, words, SpellsDomain, types, instances, SpellsItems, no_items, item_then, SpellsDefinitions, no_definitions, definition_then, SpellsTarget, always, first, following, SpellsAssignments, no_assignments, assignment_then, semicolon, SpellsLabel, no_label, label, section_word, SpellsElement, variables, definitions, symbol_names, assignments, inits, transitions, invariants, specifications, SpellsElements, no_elements, element_then, SpellsModules, no_modules, module_then, SpellsSource}
use Rattle.smv_print.specs.Printing.{parted, ident, in_brackets, int_kinds, path_kinds, tree_kinds, argument_kinds, member_kinds, actual_kinds, domain_kinds, item_kinds, body_kinds, definition_kinds, target_kinds, assignment_kinds, spec_name_kinds, formula_kinds, element_kinds, parameter_name, parameter_kinds, module_kinds, source_kinds}
use Rattle.smv_print.specs.Unplaced.{nowhere, unplaced_path, unplaced, unplaced_trees, unplaced_domain, unplaced_item, unplaced_definition, unplaced_assignment, unplaced_element, unplaced_parameter, unplaced_module, SpellsSame, SpellsSameSource}
use Rattle.smv_print.proofs.Parting.{headed, nothing}
use Rattle.smv_print.proofs.Parting.{parted as cut}
use Rattle.smv_print.proofs.Again.{path_again, integer_again, listed_again, expression_again}

-- a front, a token, and what is behind it
record Ended (ahead : List TokenKind) (k : TokenKind) (bs : List TokenKind) (xs : List Token) : Type 0 where
  pub front : List Token
  pub token : Token
  pub back : List Token
  pub is : xs ≡ front ++ token ∷ back
  pub front_kinds : kinds front ≡ ahead
  pub kind : token.kind ≡ k
  pub back_kinds : kinds back ≡ bs

ended : (ahead : List TokenKind) (k : TokenKind) (bs : List TokenKind) (xs : List Token) → kinds xs ≡ (ahead ++ k ∷ []) ++ bs → Ended ahead k bs xs
ended ahead k bs xs e =
    let p = cut ahead (k ∷ bs) xs (e ∙ append_assoc ahead (k ∷ []) bs) in
    let h = headed k bs p.back p.back_kinds in
    record { front = p.front; token = h.token; back = h.rest; is = p.is ∙ ap (λ ys. p.front ++ ys) h.is; front_kinds = p.front_kinds; kind = h.kind; back_kinds = h.rest_kinds }

-- a front and a last token
record Closed (ahead : List TokenKind) (k : TokenKind) (xs : List Token) : Type 0 where
  pub front : List Token
  pub token : Token
  pub is : xs ≡ front ++ token ∷ []
  pub front_kinds : kinds front ≡ ahead
  pub kind : token.kind ≡ k

closed : (ahead : List TokenKind) (k : TokenKind) (xs : List Token) → kinds xs ≡ ahead ++ k ∷ [] → Closed ahead k xs
closed ahead k xs e =
    let p = cut ahead (k ∷ []) xs e in
    let h = headed k [] p.back p.back_kinds in
    record { front = p.front; token = h.token; is = p.is ∙ ap (λ ys. p.front ++ ys) (h.is ∙ ap (λ ys. h.token ∷ ys) (nothing h.rest h.rest_kinds)); front_kinds = p.front_kinds; kind = h.kind }

-- names
names_again : (ns : List (List ℕ)) (ys : List Token) → kinds ys ≡ parted sign.Comma true (map ident ns) → SpellsNames ns ys
names_again [] ys e = subst (λ (xs : List Token). SpellsNames [] xs) (sym (nothing ys e)) no_names
names_again (n ∷ ns) ys e =
    let c = headed (kind.Sign sign.Comma) (kind.Ident n ∷ parted sign.Comma true (map ident ns)) ys e in
    let h = headed (kind.Ident n) (parted sign.Comma true (map ident ns)) c.rest c.rest_kinds in
    subst (λ (xs : List Token). SpellsNames (n ∷ ns) xs) (sym (c.is ∙ ap (λ xs. c.token ∷ xs) h.is)) (name_then c.token h.token c.kind h.kind (names_again ns h.rest h.rest_kinds))

-- parameters
record SameParameters (ps : List Parameter) (ys : List Token) : Type 0 where
  pub others : List Parameter
  pub spelled : SpellsParameters others ys
  pub same : map unplaced_parameter others ≡ map unplaced_parameter ps

parameters_again : (ps : List Parameter) (ys : List Token) → kinds ys ≡ parted sign.Comma true (map ident (map parameter_name ps)) → SameParameters ps ys
parameters_again [] ys e = subst (λ (xs : List Token). SameParameters [] xs) (sym (nothing ys e)) (record { others = []; spelled = no_parameters; same = refl })
parameters_again (p ∷ ps) ys e =
    let rest = parted sign.Comma true (map ident (map parameter_name ps)) in
    let c = headed (kind.Sign sign.Comma) (kind.Ident p.name ∷ rest) ys e in
    let h = headed (kind.Ident p.name) rest c.rest c.rest_kinds in
    let m = parameters_again ps h.rest h.rest_kinds in
    subst (λ (xs : List Token). SameParameters (p ∷ ps) xs) (sym (c.is ∙ ap (λ xs. c.token ∷ xs) h.is))
    (record {
      others = record { name = p.name; place = h.token.place } ∷ m.others;
      spelled = parameter_then c.token h.token c.kind h.kind m.spelled;
      same = ap (λ qs. unplaced_parameter p ∷ qs) m.same;
    })

record SameFormals (ps : List Parameter) (ys : List Token) : Type 0 where
  pub others : List Parameter
  pub spelled : SpellsFormals others ys
  pub same : map unplaced_parameter others ≡ map unplaced_parameter ps

formals_again : (ps : List Parameter) (ys : List Token) → kinds ys ≡ parameter_kinds ps → SameFormals ps ys
formals_again [] ys e = subst (λ (xs : List Token). SameFormals [] xs) (sym (nothing ys e)) (record { others = []; spelled = no_formals; same = refl })
formals_again (p ∷ ps) ys e =
    let rest = parted sign.Comma true (map ident (map parameter_name ps)) in
    let o = headed (kind.Sign sign.Open) (kind.Ident p.name ∷ (rest ++ kind.Sign sign.Close ∷ [])) ys e in
    let h = headed (kind.Ident p.name) (rest ++ kind.Sign sign.Close ∷ []) o.rest o.rest_kinds in
    let c = closed rest (kind.Sign sign.Close) h.rest h.rest_kinds in
    let m = parameters_again ps c.front c.front_kinds in
    subst (λ (xs : List Token). SameFormals (p ∷ ps) xs) (sym (o.is ∙ ap (λ xs. o.token ∷ xs) (h.is ∙ ap (λ xs. h.token ∷ xs) c.is)))
    (record {
      others = record { name = p.name; place = h.token.place } ∷ m.others;
      spelled = formals o.token h.token c.token o.kind h.kind m.spelled c.kind;
      same = ap (λ qs. unplaced_parameter p ∷ qs) m.same;
    })

-- actuals
record SameActuals (ts : Trees) (ys : List Token) : Type 0 where
  pub others : Trees
  pub spelled : SpellsActuals others ys
  pub same : unplaced_trees others ≡ unplaced_trees ts

no_actuals_again : (ys : List Token) → kinds ys ≡ [] → SameActuals no_trees ys
no_actuals_again ys e = subst (λ (xs : List Token). SameActuals no_trees xs) (sym (nothing ys e)) (record { others = no_trees; spelled = no_actuals; same = refl })

some_listed : {s : Sign} {ts : Trees} {xs : List Token} → SpellsListed s ts xs → actual_kinds ts ≡ in_brackets (argument_kinds false ts)
some_listed (last_one a c k) = refl
some_listed (one_before a c k m) = refl

actuals_again : {ts : Trees} {xs : List Token} → SpellsActuals ts xs → (ys : List Token) → kinds ys ≡ actual_kinds ts → SameActuals ts ys
actuals_again no_actuals ys e = no_actuals_again ys e
actuals_again (empty_actuals o c k l) ys e = no_actuals_again ys e
actuals_again (actuals {ts = ts} x k s) ys e =
    let o = headed (kind.Sign sign.Open) (argument_kinds false ts ++ kind.Sign sign.Close ∷ []) ys (e ∙ some_listed s) in
    let m = listed_again s o.rest o.rest_kinds in
    subst (λ (xs : List Token). SameActuals ts xs) (sym o.is) (record { others = m.others; spelled = actuals o.token o.kind m.spelled; same = m.same })

-- members
member_again : (m : Member) (ys : List Token) → kinds ys ≡ member_kinds m → SpellsMember m ys
member_again (member.Symbol n) ys e =
    let h = headed (kind.Ident n) [] ys e in
    subst (λ (xs : List Token). SpellsMember (member.Symbol n) xs) (sym (h.is ∙ ap (λ xs. h.token ∷ xs) (nothing h.rest h.rest_kinds))) (symbols h.token h.kind)
member_again (member.Integer i) ys e = integers (integer_again i ys e)

members_again : (ms : List Member) (ys : List Token) → kinds ys ≡ parted sign.Comma true (map member_kinds ms) → SpellsMembers ms ys
members_again [] ys e = subst (λ (xs : List Token). SpellsMembers [] xs) (sym (nothing ys e)) no_members
members_again (m ∷ ms) ys e =
    let rest = parted sign.Comma true (map member_kinds ms) in
    let c = headed (kind.Sign sign.Comma) (member_kinds m ++ rest) ys e in
    let p = cut (member_kinds m) rest c.rest c.rest_kinds in
    subst (λ (xs : List Token). SpellsMembers (m ∷ ms) xs) (sym (c.is ∙ ap (λ xs. c.token ∷ xs) p.is))
    (member_then c.token c.kind (member_again m p.front p.front_kinds) (members_again ms p.back p.back_kinds))

-- types and instances
type_again : {d : PlainDomain} {xs : List Token} → SpellsType d xs → (ys : List Token) → kinds ys ≡ domain_kinds d → SpellsType d ys
type_again (booleans x k) ys e =
    let h = headed (kind.Reserved word.Boolean) [] ys e in
    subst (λ (xs : List Token). SpellsType boolean xs) (sym (h.is ∙ ap (λ xs. h.token ∷ xs) (nothing h.rest h.rest_kinds))) (booleans h.token h.kind)
type_again (enumerations {m = m} {ms = ms} x k a b y l) ys e =
    let rest = parted sign.Comma true (map member_kinds ms) in
    let o = headed (kind.Sign sign.OpenBrace) ((member_kinds m ++ rest) ++ kind.Sign sign.CloseBrace ∷ []) ys e in
    let p = cut (member_kinds m) (rest ++ kind.Sign sign.CloseBrace ∷ []) o.rest (o.rest_kinds ∙ append_assoc (member_kinds m) rest (kind.Sign sign.CloseBrace ∷ [])) in
    let c = closed rest (kind.Sign sign.CloseBrace) p.back p.back_kinds in
    subst (λ (xs : List Token). SpellsType (members (m ∷ ms)) xs) (sym (o.is ∙ ap (λ xs. o.token ∷ xs) (p.is ∙ ap (λ xs. p.front ++ xs) c.is)))
    (enumerations o.token o.kind (member_again m p.front p.front_kinds) (members_again ms c.front c.front_kinds) c.token c.kind)
type_again (intervals {low = low} {high = high} a dots k b) ys e =
    let l = cut (int_kinds low) (kind.Sign sign.Range ∷ int_kinds high) ys e in
    let d = headed (kind.Sign sign.Range) (int_kinds high) l.back l.back_kinds in
    subst (λ (xs : List Token). SpellsType (between low high) xs) (sym (l.is ∙ ap (λ xs. l.front ++ xs) d.is))
    (intervals (integer_again low l.front l.front_kinds) d.token d.kind (integer_again high d.rest d.rest_kinds))
type_again (words {n = n} u x opening width closing a b c d) ys e =
    let w = headed (kind.Reserved word.Word) (kind.Sign sign.OpenBracket ∷ kind.Number n ∷ kind.Sign sign.CloseBracket ∷ []) ys e in
    let o = headed (kind.Sign sign.OpenBracket) (kind.Number n ∷ kind.Sign sign.CloseBracket ∷ []) w.rest w.rest_kinds in
    let h = headed (kind.Number n) (kind.Sign sign.CloseBracket ∷ []) o.rest o.rest_kinds in
    let z = headed (kind.Sign sign.CloseBracket) [] h.rest h.rest_kinds in
    let is : ys ≡ w.token ∷ o.token ∷ h.token ∷ z.token ∷ [] =
    w.is ∙ ap (λ xs. w.token ∷ xs) (o.is ∙ ap (λ xs. o.token ∷ xs) (h.is ∙ ap (λ xs. h.token ∷ xs) (z.is ∙ ap (λ xs. z.token ∷ xs) (nothing z.rest z.rest_kinds)))) in
    subst (λ (xs : List Token). SpellsType (bits n) xs) (sym is) (words unstated w.token o.token h.token z.token w.kind o.kind h.kind z.kind)

record SameDomain (k : VarKind) (d : PlainDomain) (ys : List Token) : Type 0 where
  pub other : PlainDomain
  pub spelled : SpellsDomain k other ys
  pub same : unplaced_domain other ≡ unplaced_domain d

domain_again : {k : VarKind} {d : PlainDomain} {xs : List Token} → SpellsDomain k d xs → (ys : List Token) → kinds ys ≡ domain_kinds d → SameDomain k d ys
domain_again (types {d = d} s) ys e = record { other = d; spelled = types (type_again s ys e); same = refl }
domain_again (instances {n = n} {ts = ts} x k s) ys e =
    let h = headed (kind.Ident n) (actual_kinds ts) ys e in
    let m = actuals_again s h.rest h.rest_kinds in
    subst (λ (xs : List Token). SameDomain var_kind.State (instance n ts) xs) (sym h.is)
    (record { other = instance n m.others; spelled = instances h.token h.kind m.spelled; same = ap (instance n) m.same })

record SameItems (k : VarKind) (is : List PlainItem) (ys : List Token) : Type 0 where
  pub others : List PlainItem
  pub spelled : SpellsItems k others ys
  pub same : map unplaced_item others ≡ map unplaced_item is

items_again : {k : VarKind} {is : List PlainItem} {xs : List Token} → SpellsItems k is xs → (ys : List Token) → kinds ys ≡ flat_map item_kinds is → SameItems k is ys
items_again {k = k} no_items ys e = subst (λ (xs : List Token). SameItems k [] xs) (sym (nothing ys e)) (record { others = []; spelled = no_items; same = refl })
items_again {k = k} (item_then {n = n} {d = d} {is = is} {xs = xs} x colon a b s c l m) ys e =
    let rest = flat_map item_kinds is in
    let i : PlainItem = record { name = n; place = x.place; domain = d; domain_place = start xs } in
    let h = headed (kind.Ident n) (kind.Sign sign.Colon ∷ ((domain_kinds d ++ kind.Sign sign.Semicolon ∷ []) ++ rest)) ys e in
    let o = headed (kind.Sign sign.Colon) ((domain_kinds d ++ kind.Sign sign.Semicolon ∷ []) ++ rest) h.rest h.rest_kinds in
    let p = ended (domain_kinds d) (kind.Sign sign.Semicolon) rest o.rest o.rest_kinds in
    let u = domain_again s p.front p.front_kinds in
    let r = items_again m p.back p.back_kinds in
    subst (λ (zs : List Token). SameItems k (i ∷ is) zs) (sym (h.is ∙ ap (λ zs. h.token ∷ zs) (o.is ∙ ap (λ zs. o.token ∷ zs) p.is)))
    (record {
      others = record { name = n; place = h.token.place; domain = u.other; domain_place = start p.front } ∷ r.others;
      spelled = item_then h.token o.token h.kind o.kind u.spelled p.token p.kind r.spelled;
      same = ap (λ v. record { name = n; place = nowhere; domain = v; domain_place = nowhere } ∷ map unplaced_item r.others) u.same ∙ ap (λ vs. unplaced_item i ∷ vs) r.same;
    })

-- definitions
record SameDefinitions (ds : List PlainDefinition) (ys : List Token) : Type 0 where
  pub others : List PlainDefinition
  pub spelled : SpellsDefinitions others ys
  pub same : map unplaced_definition others ≡ map unplaced_definition ds

definitions_again : {ds : List PlainDefinition} {xs : List Token} → SpellsDefinitions ds xs → (ys : List Token) → kinds ys ≡ flat_map definition_kinds ds → SameDefinitions ds ys
definitions_again no_definitions ys e = subst (λ (xs : List Token). SameDefinitions [] xs) (sym (nothing ys e)) (record { others = []; spelled = no_definitions; same = refl })
definitions_again (definition_then {n = n} {t = t} {ds = ds} x assign a b s c l m) ys e =
    let rest = flat_map definition_kinds ds in
    let d : PlainDefinition = record { name = n; place = x.place; body = t } in
    let h = headed (kind.Ident n) (kind.Sign sign.Assign ∷ ((tree_kinds t ++ kind.Sign sign.Semicolon ∷ []) ++ rest)) ys e in
    let o = headed (kind.Sign sign.Assign) ((tree_kinds t ++ kind.Sign sign.Semicolon ∷ []) ++ rest) h.rest h.rest_kinds in
    let p = ended (tree_kinds t) (kind.Sign sign.Semicolon) rest o.rest o.rest_kinds in
    let u = expression_again s p.front p.front_kinds in
    let r = definitions_again m p.back p.back_kinds in
    subst (λ (zs : List Token). SameDefinitions (d ∷ ds) zs) (sym (h.is ∙ ap (λ zs. h.token ∷ zs) (o.is ∙ ap (λ zs. o.token ∷ zs) p.is)))
    (record {
      others = record { name = n; place = h.token.place; body = u.expression } ∷ r.others;
      spelled = definition_then h.token o.token h.kind o.kind u.spelled p.token p.kind r.spelled;
      same = ap (λ v. record { name = n; place = nowhere; body = v } ∷ map unplaced_definition r.others) u.same ∙ ap (λ vs. unplaced_definition d ∷ vs) r.same;
    })

-- assignments
record SameTarget (w : When) (path : Path) (ys : List Token) : Type 0 where
  pub other : Path
  pub spelled : SpellsTarget w other ys
  pub same : unplaced_path other ≡ unplaced_path path

target_again : {w : When} {path : Path} {xs : List Token} → SpellsTarget w path xs → (ys : List Token) → kinds ys ≡ target_kinds w path → SameTarget w path ys
target_again (always s) ys e = let m = path_again s ys e in record { other = m.other; spelled = always m.spelled; same = m.same }
target_again (first {path = path} x opening a b s z c) ys e =
    let h = headed (kind.Reserved word.Initial) (in_brackets (path_kinds path)) ys e in
    let o = headed (kind.Sign sign.Open) (path_kinds path ++ kind.Sign sign.Close ∷ []) h.rest h.rest_kinds in
    let p = closed (path_kinds path) (kind.Sign sign.Close) o.rest o.rest_kinds in
    let m = path_again s p.front p.front_kinds in
    subst (λ (xs : List Token). SameTarget when_.First path xs) (sym (h.is ∙ ap (λ zs. h.token ∷ zs) (o.is ∙ ap (λ zs. o.token ∷ zs) p.is)))
    (record { other = m.other; spelled = first h.token o.token h.kind o.kind m.spelled p.token p.kind; same = m.same })
target_again (following {path = path} x opening a b s z c) ys e =
    let h = headed (kind.Reserved word.Next) (in_brackets (path_kinds path)) ys e in
    let o = headed (kind.Sign sign.Open) (path_kinds path ++ kind.Sign sign.Close ∷ []) h.rest h.rest_kinds in
    let p = closed (path_kinds path) (kind.Sign sign.Close) o.rest o.rest_kinds in
    let m = path_again s p.front p.front_kinds in
    subst (λ (xs : List Token). SameTarget when_.Following path xs) (sym (h.is ∙ ap (λ zs. h.token ∷ zs) (o.is ∙ ap (λ zs. o.token ∷ zs) p.is)))
    (record { other = m.other; spelled = following h.token o.token h.kind o.kind m.spelled p.token p.kind; same = m.same })

record SameAssignments (items : List PlainAssignment) (ys : List Token) : Type 0 where
  pub others : List PlainAssignment
  pub spelled : SpellsAssignments others ys
  pub same : map unplaced_assignment others ≡ map unplaced_assignment items

assignments_again : {items : List PlainAssignment} {xs : List Token} → SpellsAssignments items xs → (ys : List Token) → kinds ys ≡ flat_map assignment_kinds items → SameAssignments items ys
assignments_again no_assignments ys e = subst (λ (xs : List Token). SameAssignments [] xs) (sym (nothing ys e)) (record { others = []; spelled = no_assignments; same = refl })
assignments_again (assignment_then {w = w} {path = path} {t = t} {rest = items} a assign b s c l m) ys e =
    let rest = flat_map assignment_kinds items in
    let d : PlainAssignment = record { when = w; target = path; body = t } in
    let body : List TokenKind = (tree_kinds t ++ kind.Sign sign.Semicolon ∷ []) ++ rest in
    let g = cut (target_kinds w path) (kind.Sign sign.Assign ∷ body) ys (e ∙ append_assoc (target_kinds w path) (body_kinds t) rest) in
    let o = headed (kind.Sign sign.Assign) body g.back g.back_kinds in
    let p = ended (tree_kinds t) (kind.Sign sign.Semicolon) rest o.rest o.rest_kinds in
    let v = target_again a g.front g.front_kinds in
    let u = expression_again s p.front p.front_kinds in
    let r = assignments_again m p.back p.back_kinds in
    subst (λ (zs : List Token). SameAssignments (d ∷ items) zs) (sym (g.is ∙ ap (λ zs. g.front ++ zs) (o.is ∙ ap (λ zs. o.token ∷ zs) p.is)))
    (record {
      others = record { when = w; target = v.other; body = u.expression } ∷ r.others;
      spelled = assignment_then v.spelled o.token o.kind u.spelled p.token p.kind r.spelled;
      same = ap (λ x. record { when = w; target = x; body = unplaced u.expression } ∷ map unplaced_assignment r.others) v.same
          ∙ ap (λ x. record { when = w; target = unplaced_path path; body = x } ∷ map unplaced_assignment r.others) u.same ∙ ap (λ vs. unplaced_assignment d ∷ vs) r.same;
    })

-- sections
record SameElement (d : PlainElement) (ys : List Token) : Type 0 where
  pub other : PlainElement
  pub spelled : SpellsElement other ys
  pub same : unplaced_element other ≡ unplaced_element d

-- a formula and its semicolon, behind a word
record Formula (w : Reserved) (t : Tree) (ys : List Token) : Type 0 where
  pub token : Token
  pub front : List Token
  pub end : Token
  pub is : ys ≡ token ∷ (front ++ end ∷ [])
  pub is_word : IsWord w token
  pub formula : SpellsSame all_levels t front
  pub is_end : IsSign sign.Semicolon end

formula_again : (w : Reserved) {t : Tree} {xs : List Token} → Spells all_levels t xs → (ys : List Token) → kinds ys ≡ kind.Reserved w ∷ formula_kinds t → Formula w t ys
formula_again w {t = t} s ys e =
    let h = headed (kind.Reserved w) (formula_kinds t) ys e in
    let p = closed (tree_kinds t) (kind.Sign sign.Semicolon) h.rest h.rest_kinds in
    record { token = h.token; front = p.front; end = p.token; is = h.is ∙ ap (λ zs. h.token ∷ zs) p.is; is_word = h.kind; formula = expression_again s p.front p.front_kinds; is_end = p.kind }

label_again : (o : Option (List ℕ)) (ys : List Token) → kinds ys ≡ spec_name_kinds o → SpellsLabel o ys
label_again None ys e = subst (λ (xs : List Token). SpellsLabel None xs) (sym (nothing ys e)) no_label
label_again (Some n) ys e =
    let h = headed (kind.Reserved word.Name) (kind.Ident n ∷ kind.Sign sign.Assign ∷ []) ys e in
    let i = headed (kind.Ident n) (kind.Sign sign.Assign ∷ []) h.rest h.rest_kinds in
    let a = headed (kind.Sign sign.Assign) [] i.rest i.rest_kinds in
    let is : ys ≡ h.token ∷ i.token ∷ a.token ∷ [] = h.is ∙ ap (λ xs. h.token ∷ xs) (i.is ∙ ap (λ xs. i.token ∷ xs) (a.is ∙ ap (λ xs. a.token ∷ xs) (nothing a.rest a.rest_kinds))) in
    subst (λ (xs : List Token). SpellsLabel (Some n) xs) (sym is) (label h.token i.token a.token h.kind i.kind a.kind)

moved_element : (d : PlainElement) (xs ys : List Token) → ys ≡ xs → SameElement d xs → SameElement d ys
moved_element d xs ys e s = subst (λ (zs : List Token). SameElement d zs) (sym e) s

element_again : {d : PlainElement} {xs : List Token} → SpellsElement d xs → (ys : List Token) → kinds ys ≡ element_kinds d → SameElement d ys
element_again (variables {k = k} {is = is} x w s) ys e =
    let h = headed (kind.Reserved (section_word k)) (flat_map item_kinds is) ys e in
    let m = items_again s h.rest h.rest_kinds in
    moved_element (vars k is) (h.token ∷ h.rest) ys h.is (record { other = vars k m.others; spelled = variables h.token h.kind m.spelled; same = ap (vars k) m.same })
element_again (definitions {ds = ds} x w s) ys e =
    let h = headed (kind.Reserved word.Define) (flat_map definition_kinds ds) ys e in
    let m = definitions_again s h.rest h.rest_kinds in
    moved_element (defines ds) (h.token ∷ h.rest) ys h.is (record { other = defines m.others; spelled = definitions h.token h.kind m.spelled; same = ap defines m.same })
element_again (symbol_names {n = n} {ns = ns} x one w a s z c) ys e =
    let rest = parted sign.Comma true (map ident ns) in
    let h = headed (kind.Reserved word.Constants) (kind.Ident n ∷ (rest ++ kind.Sign sign.Semicolon ∷ [])) ys e in
    let i = headed (kind.Ident n) (rest ++ kind.Sign sign.Semicolon ∷ []) h.rest h.rest_kinds in
    let p = closed rest (kind.Sign sign.Semicolon) i.rest i.rest_kinds in
    moved_element (constants (n ∷ ns)) (h.token ∷ i.token ∷ (p.front ++ p.token ∷ [])) ys (h.is ∙ ap (λ xs. h.token ∷ xs) (i.is ∙ ap (λ xs. i.token ∷ xs) p.is))
    (record { other = constants (n ∷ ns); spelled = symbol_names h.token i.token h.kind i.kind (names_again ns p.front p.front_kinds) p.token p.kind; same = refl })
element_again (assignments {rest = items} x w s) ys e =
    let h = headed (kind.Reserved word.Assign) (flat_map assignment_kinds items) ys e in
    let m = assignments_again s h.rest h.rest_kinds in
    moved_element (assigns items) (h.token ∷ h.rest) ys h.is (record { other = assigns m.others; spelled = assignments h.token h.kind m.spelled; same = ap assigns m.same })
element_again (inits {t = t} x w s o) ys e =
    let f = formula_again word.Init s ys e in
    let u = f.formula in
    moved_element (init t) (f.token ∷ (f.front ++ f.end ∷ [])) ys f.is (record { other = init u.expression; spelled = inits f.token f.is_word u.spelled (semicolon f.end f.is_end); same = ap init u.same })
element_again (transitions {t = t} x w s o) ys e =
    let f = formula_again word.Trans s ys e in
    let u = f.formula in
    moved_element (trans t) (f.token ∷ (f.front ++ f.end ∷ [])) ys f.is (record { other = trans u.expression; spelled = transitions f.token f.is_word u.spelled (semicolon f.end f.is_end); same = ap trans u.same })
element_again (invariants {t = t} x w s o) ys e =
    let f = formula_again word.Invar s ys e in
    let u = f.formula in
    moved_element (invar t) (f.token ∷ (f.front ++ f.end ∷ [])) ys f.is (record { other = invar u.expression; spelled = invariants f.token f.is_word u.spelled (semicolon f.end f.is_end); same = ap invar u.same })
element_again (specifications {o = o} {t = t} x w l s c) ys e =
    let h = headed (kind.Reserved word.Invarspec) (spec_name_kinds o ++ formula_kinds t) ys e in
    let g = cut (spec_name_kinds o) (formula_kinds t) h.rest h.rest_kinds in
    let p = closed (tree_kinds t) (kind.Sign sign.Semicolon) g.back g.back_kinds in
    let u = expression_again s p.front p.front_kinds in
    moved_element (spec o t) (h.token ∷ (g.front ++ (p.front ++ p.token ∷ []))) ys (h.is ∙ ap (λ xs. h.token ∷ xs) (g.is ∙ ap (λ xs. g.front ++ xs) p.is))
    (record { other = spec o u.expression; spelled = specifications h.token h.kind (label_again o g.front g.front_kinds) u.spelled (semicolon p.token p.kind); same = ap (spec o) u.same })

record SameElements (ds : List PlainElement) (ys : List Token) : Type 0 where
  pub others : List PlainElement
  pub spelled : SpellsElements others ys
  pub same : map unplaced_element others ≡ map unplaced_element ds

elements_again : {ds : List PlainElement} {xs : List Token} → SpellsElements ds xs → (ys : List Token) → kinds ys ≡ flat_map element_kinds ds → SameElements ds ys
elements_again no_elements ys e = subst (λ (xs : List Token). SameElements [] xs) (sym (nothing ys e)) (record { others = []; spelled = no_elements; same = refl })
elements_again (element_then {e = d} {es = ds} s m) ys e =
    let p = cut (element_kinds d) (flat_map element_kinds ds) ys e in
    let u = element_again s p.front p.front_kinds in
    let r = elements_again m p.back p.back_kinds in
    subst (λ (zs : List Token). SameElements (d ∷ ds) zs) (sym p.is)
    (record { others = u.other ∷ r.others; spelled = element_then u.spelled r.spelled; same = ap (λ v. v ∷ map unplaced_element r.others) u.same ∙ ap (λ vs. unplaced_element d ∷ vs) r.same })

-- modules
record SameModules (ms : List PlainModule) (ys : List Token) : Type 0 where
  pub others : List PlainModule
  pub spelled : SpellsModules others ys
  pub same : map unplaced_module others ≡ map unplaced_module ms

modules_again : {ms : List PlainModule} {xs : List Token} → SpellsModules ms xs → (ys : List Token) → kinds ys ≡ flat_map module_kinds ms → SameModules ms ys
modules_again no_modules ys e = subst (λ (xs : List Token). SameModules [] xs) (sym (nothing ys e)) (record { others = []; spelled = no_modules; same = refl })
modules_again (module_then {n = n} {ps = ps} {es = ds} {ms = ms} {ys = body} x identifier a b f s m) ys e =
    let rest = flat_map module_kinds ms in
    let d : PlainModule = record { name = n; place = identifier.place; parameters = ps; elements = ds; tokens = length body } in
    let inner : List TokenKind = (parameter_kinds ps ++ flat_map element_kinds ds) ++ rest in
    let h = headed (kind.Reserved word.Module) (kind.Ident n ∷ inner) ys e in
    let i = headed (kind.Ident n) inner h.rest h.rest_kinds in
    let g = cut (parameter_kinds ps) (flat_map element_kinds ds ++ rest) i.rest (i.rest_kinds ∙ append_assoc (parameter_kinds ps) (flat_map element_kinds ds) rest) in
    let p = cut (flat_map element_kinds ds) rest g.back g.back_kinds in
    let v = formals_again ps g.front g.front_kinds in
    let u = elements_again s p.front p.front_kinds in
    let r = modules_again m p.back p.back_kinds in
    subst (λ (zs : List Token). SameModules (d ∷ ms) zs) (sym (h.is ∙ ap (λ zs. h.token ∷ zs) (i.is ∙ ap (λ zs. i.token ∷ zs) (g.is ∙ ap (λ zs. g.front ++ zs) p.is))))
    (record {
      others = record { name = n; place = i.token.place; parameters = v.others; elements = u.others; tokens = length p.front } ∷ r.others;
      spelled = module_then h.token i.token h.kind i.kind v.spelled u.spelled r.spelled;
      same = ap (λ x. record { name = n; place = nowhere; parameters = x; elements = map unplaced_element u.others; tokens = 0 } ∷ map unplaced_module r.others) v.same
          ∙ ap (λ x. record { name = n; place = nowhere; parameters = map unplaced_parameter ps; elements = x; tokens = 0 } ∷ map unplaced_module r.others) u.same ∙ ap (λ vs. unplaced_module d ∷ vs) r.same;
    })

pub source_again : (source : PlainSource) (end place : Place) (xs ys : List Token) → SpellsSource source end xs → kinds ys ≡ source_kinds source → SpellsSameSource source place ys
source_again source end place xs ys s e =
    let m = modules_again s.0 ys e in
    record { model = record { modules = m.others; end = place }; spelled = (m.spelled, refl); same = ap (λ ms. record { modules = ms; end = nowhere }) m.same }
