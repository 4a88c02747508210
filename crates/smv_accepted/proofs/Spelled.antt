-- The names that a spelled model declares, and its symbols, are identifiers.
use Rattle.std.proofs.Common.{◌≡◌, ℕ, Bool, true, false, ◌||◌, ◌&&◌, ◌==◌, not, if◌then◌else◌, List, [], ◌∷◌, ◌++◌, map, Option, Some, None, option_map, refl, sym, ap, ◌∙◌, subst, inl, inr}
use Rattle.std.specs.List.{AllByRecursion, list_all, flat_map}
use Rattle.std.specs.Option.{option_or}
use Rattle.std.proofs.Common.{arith}
use Rattle.std.proofs.lemmas.Bool.Decides.{nat_tests}
use Rattle.text_core.specs.declared.place.Place.{Place}
use Rattle.text_core.specs.Bytes.{is_digit, heads}
use Rattle.word_core.specs.Words.{BitVector}
use Rattle.smv_text.specs.declared.token.Token.{Token}
use Rattle.smv_text.specs.declared.token.TokenKind.TheVariants as kind
use Rattle.smv_text.specs.declared.token.Reserved.{Reserved}
use Rattle.smv_text.specs.declared.token.Sign.{Sign}
use Rattle.smv_text.specs.declared.token.Sign.TheVariants as sign
use Rattle.smv_text.specs.declared.tree.Member.{Member}
use Rattle.smv_text.specs.declared.tree.VarKind.{VarKind}
use Rattle.smv_text.specs.declared.tree.Parameter.{Parameter}
use Rattle.smv_text.specs.Bytes.{is_letter, AllPass, look_up}
use Rattle.smv_text.specs.Signs.{sign_bytes, signs}
use Rattle.smv_text.specs.Keywords.{keywords}
use Rattle.smv_text.specs.Numbers.{number_of, literal_of}
use Rattle.smv_text.specs.Words.{in_word, IsLexeme, kind_of, keyword_kind, word_kind, run_kind}
use Rattle.smv_text.specs.Lexing.{Next, go, Steps, ends, token, stray, misspelled, too_nested, LexesFrom, last, more, Lexes}
use Rattle.smv_text.specs.Tree.{PlainDomain, PlainItem, PlainDefinition, PlainElement, PlainModule}
use Rattle.smv_text.specs.Sources.{SpellsNames, no_names, name_then, SpellsParameters, no_parameters, parameter_then, SpellsFormals, no_formals, empty_formals, formals, SpellsMember, symbols, integers, SpellsMembers, no_members, member_then, SpellsType, booleans, enumerations, intervals, words, SpellsDomain, types, instances, SpellsItems, no_items, item_then, SpellsDefinitions, no_definitions, definition_then, SpellsElement, variables, definitions, symbol_names, assignments, inits, transitions, invariants, specifications, SpellsElements, no_elements, element_then, SpellsModules, no_modules, module_then}
use Rattle.smv_meaning.specs.Phases.{Declared, element_declares, declared_in}
use Rattle.smv_meaning.specs.laws.Booleans.{two_true}
use Rattle.smv_items.specs.FlatItems.{member_symbols, domain_symbols, element_symbols}
use Rattle.smv_accepted.specs.Names.{is_name_byte, IsIdentifier}
use Rattle.name_maps.proofs.FreshNames.{all_back, all_front, all_joined, all_mapped}

-- ---- lexemes

word_byte : (b : ℕ) (rest : List ℕ) → in_word b rest ≡ true → is_name_byte b ≡ true
word_byte b rest = by (is_letter b || (is_digit b || ((b == 36) || (b == 35)))) (b == 45) (not (heads 62 rest))
  where
    by : (x y z : Bool) → (x || (y && z)) ≡ true → (x || y) ≡ true
    by true y z h = refl
    by false true z h = refl
    by false false z h = h

word_bytes : (bs rest : List ℕ) → AllPass in_word bs rest → list_all is_name_byte bs ≡ true
word_bytes [] rest h = refl
word_bytes (b ∷ bs) rest h = two_true (is_name_byte b) (list_all is_name_byte bs) (word_byte b (bs ++ rest) h.0) (word_bytes bs rest h.1)

keyword_named : (bs n : List ℕ) (o : Option (Option Reserved)) → keyword_kind bs o ≡ kind.Ident n → bs ≡ n
keyword_named bs n None h = cc
keyword_named bs n (Some None) h = cc
keyword_named bs n (Some (Some r)) h = cc

run_unnamed : (n : List ℕ) (o : Option ℕ) (p : Option BitVector) → option_or (option_map kind.Number o) (option_map kind.Literal p) ≡ Some (kind.Ident n) → ⊥
run_unnamed n (Some k) p h = cc
run_unnamed n None (Some w) h = cc
run_unnamed n None None h = cc

sign_unnamed : (n : List ℕ) (o : Option Sign) → option_map kind.Sign o ≡ Some (kind.Ident n) → ⊥
sign_unnamed n (Some s) h = cc
sign_unnamed n None h = cc

unlettered_unnamed : (bs n : List ℕ) (d : Bool) → (if d then run_kind bs else option_map kind.Sign (look_up bs signs)) ≡ Some (kind.Ident n) → ⊥
unlettered_unnamed bs n true h = run_unnamed n (number_of bs) (literal_of bs) h
unlettered_unnamed bs n false h = sign_unnamed n (look_up bs signs) h

-- an identifier is its lexeme, and begins with a letter
lettered : (b : ℕ) (bs n : List ℕ) (l : Bool) → is_letter b ≡ l → kind_of (b ∷ bs) ≡ Some (kind.Ident n) → (is_letter b ≡ true) × (b ∷ bs ≡ n)
lettered b bs n true e h =
    let f : Some (word_kind (b ∷ bs)) ≡ Some (kind.Ident n) = sym (ap (λ c. if c then Some (word_kind (b ∷ bs)) else (if is_digit b then run_kind (b ∷ bs) else option_map kind.Sign (look_up (b ∷ bs) signs))) e) ∙ h in
    (e, keyword_named (b ∷ bs) n (look_up (b ∷ bs) keywords) (let g : word_kind (b ∷ bs) ≡ kind.Ident n = cc in g))
lettered b bs n false e h =
    let f : (if is_digit b then run_kind (b ∷ bs) else option_map kind.Sign (look_up (b ∷ bs) signs)) ≡ Some (kind.Ident n)
    = sym (ap (λ c. if c then Some (word_kind (b ∷ bs)) else (if is_digit b then run_kind (b ∷ bs) else option_map kind.Sign (look_up (b ∷ bs) signs))) e) ∙ h in
    absurd (unlettered_unnamed (b ∷ bs) n (is_digit b) f)

-- no sign begins with a letter
abbrev begins_lettered : List ℕ → Bool
begins_lettered [] = false
begins_lettered (b ∷ bs) = is_letter b

sign_unlettered : (s : Sign) → begins_lettered (sign_bytes s) ≡ false
sign_unlettered sign.Open = refl
sign_unlettered s = refl

digit_unlettered : (b : ℕ) → is_digit b ≡ true → is_letter b ≡ true → ⊥
digit_unlettered b d l = grind (arith, nat_tests)

lexeme_named : (lexeme rest n : List ℕ) → IsLexeme lexeme rest → kind_of lexeme ≡ Some (kind.Ident n) → IsIdentifier n
lexeme_named [] rest n h e = absurd h
lexeme_named (b ∷ bs) rest n (inl h) e = let p = lettered b bs n (is_letter b) refl e in subst IsIdentifier p.1 (h.0, word_bytes bs rest h.1)
lexeme_named (b ∷ bs) rest n (inr (inl h)) e = let p = lettered b bs n (is_letter b) refl e in absurd (digit_unlettered b h.0 p.0)
lexeme_named (b ∷ bs) rest n (inr (inr h)) e =
    let p = lettered b bs n (is_letter b) refl e in
    let q : is_letter b ≡ false = ap begins_lettered h.1 ∙ sign_unlettered h.0 in
    absurd (let r : true ≡ false = sym p.0 ∙ q in cc)

-- ---- tokens

-- the name of an identifier's token
abbrev pub IsNamed : Token → Type 0
IsNamed t = (n : List ℕ) → t.kind ≡ kind.Ident n → IsIdentifier n

step_named : {m : ℕ} {at : Place} {text : List ℕ} {x : Next} → Steps m at text x → (t : Token) (next : Place) (rest : List ℕ) → x ≡ go t next rest → IsNamed t
step_named (ends at gap g) t next rest e n k = cc
step_named (stray at gap r a b c) t next rest e n k = cc
step_named (misspelled at gap lexeme r a b c) t next rest e n k = cc
step_named (too_nested at gap lexeme r j a b c d) t next rest e n k = cc
step_named (token at gap lexeme r j a b c d) t next rest e n k =
    let same : j ≡ t.kind = cc in
    lexeme_named lexeme r n b.fits (c ∙ ap Some (same ∙ k))

lexed_named : {before all : List Token} {at : Place} {text : List ℕ} → LexesFrom before at text all → AllByRecursion IsNamed before → AllByRecursion IsNamed all
lexed_named (last s) h = h
lexed_named {before = before} (more t next rest s l) h = lexed_named l (all_joined IsNamed before (t ∷ []) h (step_named s t next rest refl, tt))

pub tokens_named : (text : List ℕ) (xs : List Token) → Lexes text xs → AllByRecursion IsNamed xs
tokens_named text xs l = lexed_named l tt

-- ---- models

abbrev pub IsDeclaredWell : Declared → Type 0
IsDeclaredWell d = IsIdentifier d.name

-- what a module declares, and its symbols, are identifiers
pub record HasIdentifiers (m : PlainModule) : Type 0 where
  pub declared : AllByRecursion IsDeclaredWell (declared_in m)
  pub symbols : AllByRecursion IsIdentifier (flat_map element_symbols m.elements)

names_identifiers : {ns : List (List ℕ)} {xs : List Token} → SpellsNames ns xs → AllByRecursion IsNamed xs → AllByRecursion IsIdentifier ns
names_identifiers no_names h = tt
names_identifiers (name_then {n = n} comma x c k s) h = (h.1.0 n k, names_identifiers s h.1.1)

abbrev IsParameterWell : Parameter → Type 0
IsParameterWell q = IsIdentifier q.name

parameters_identifiers : {ps : List Parameter} {xs : List Token} → SpellsParameters ps xs → AllByRecursion IsNamed xs → AllByRecursion IsParameterWell ps
parameters_identifiers no_parameters h = tt
parameters_identifiers (parameter_then {n = n} comma x c k s) h = (h.1.0 n k, parameters_identifiers s h.1.1)

formals_identifiers : {ps : List Parameter} {xs : List Token} → SpellsFormals ps xs → AllByRecursion IsNamed xs → AllByRecursion IsParameterWell ps
formals_identifiers no_formals h = tt
formals_identifiers (empty_formals o c p q) h = tt
formals_identifiers (formals {n = n} {xs = xs} o x c p k s q) h = (h.1.0 n k, parameters_identifiers s (all_front IsNamed xs (c ∷ []) h.1.1))

member_identifiers : {m : Member} {xs : List Token} → SpellsMember m xs → AllByRecursion IsNamed xs → AllByRecursion IsIdentifier (member_symbols m)
member_identifiers (symbols {n = n} x k) h = (h.0 n k, tt)
member_identifiers (integers s) h = tt

members_identifiers : {ms : List Member} {xs : List Token} → SpellsMembers ms xs → AllByRecursion IsNamed xs → AllByRecursion IsIdentifier (flat_map member_symbols ms)
members_identifiers no_members h = tt
members_identifiers (member_then {m = m} {ms = ms} {xs = xs} {ys = ys} comma c s r) h =
    all_joined IsIdentifier (member_symbols m) (flat_map member_symbols ms) (member_identifiers s (all_front IsNamed xs ys h.1)) (members_identifiers r (all_back IsNamed xs ys h.1))

type_identifiers : {d : PlainDomain} {xs : List Token} → SpellsType d xs → AllByRecursion IsNamed xs → AllByRecursion IsIdentifier (domain_symbols d)
type_identifiers (booleans x w) h = tt
type_identifiers (enumerations {m = m} {ms = ms} {xs = xs} {ys = ys} o p s r c q) h =
    all_joined IsIdentifier (member_symbols m) (flat_map member_symbols ms) (member_identifiers s (all_front IsNamed xs (ys ++ c ∷ []) h.1))
    (members_identifiers r (all_front IsNamed ys (c ∷ []) (all_back IsNamed xs (ys ++ c ∷ []) h.1)))
type_identifiers (intervals s d p r) h = tt
type_identifiers (words u x o w c p q r s) h = tt

domain_identifiers : {k : VarKind} {d : PlainDomain} {xs : List Token} → SpellsDomain k d xs → AllByRecursion IsNamed xs → AllByRecursion IsIdentifier (domain_symbols d)
domain_identifiers (types s) h = type_identifiers s h
domain_identifiers (instances x k s) h = tt

abbrev IsItemWell : PlainItem → Type 0
IsItemWell i = IsIdentifier i.name

abbrev item_symbols : PlainItem → List (List ℕ)
item_symbols v = domain_symbols v.domain

items_identifiers : {k : VarKind} {is : List PlainItem} {xs : List Token} → SpellsItems k is xs → AllByRecursion IsNamed xs → AllByRecursion IsItemWell is × AllByRecursion IsIdentifier (flat_map item_symbols is)
items_identifiers no_items h = (tt, tt)
items_identifiers (item_then {n = n} {d = d} {is = is} {xs = xs} {ys = ys} x colon k p s semi q r) h =
    let i = items_identifiers r (all_back IsNamed xs (semi ∷ ys) h.1.1).1 in
    ((h.0 n k, i.0), all_joined IsIdentifier (domain_symbols d) (flat_map item_symbols is) (domain_identifiers s (all_front IsNamed xs (semi ∷ ys) h.1.1)) i.1)

abbrev IsDefinitionWell : PlainDefinition → Type 0
IsDefinitionWell d = IsIdentifier d.name

definitions_identifiers : {ds : List PlainDefinition} {xs : List Token} → SpellsDefinitions ds xs → AllByRecursion IsNamed xs → AllByRecursion IsDefinitionWell ds
definitions_identifiers no_definitions h = tt
definitions_identifiers (definition_then {n = n} {xs = xs} {ys = ys} x assign k p s semi q r) h = (h.0 n k, definitions_identifiers r (all_back IsNamed xs (semi ∷ ys) h.1.1).1)

element_identifiers : {e : PlainElement} {xs : List Token} → SpellsElement e xs → AllByRecursion IsNamed xs → AllByRecursion IsDeclaredWell (element_declares e) × AllByRecursion IsIdentifier (element_symbols e)
element_identifiers (variables {is = is} x w s) h =
    let i = items_identifiers s h.1 in (all_mapped IsDeclaredWell (λ (i : PlainItem). record { name = i.name; place = i.place; item = Some i }) is i.0, i.1)
element_identifiers (definitions {ds = ds} x w s) h = (all_mapped IsDeclaredWell (λ (d : PlainDefinition). record { name = d.name; place = d.place; item = None }) ds (definitions_identifiers s h.1), tt)
element_identifiers (symbol_names {n = n} {xs = xs} x y w k s semi q) h = (tt, (h.1.0 n k, names_identifiers s (all_front IsNamed xs (semi ∷ []) h.1.1)))
element_identifiers (assignments x w s) h = (tt, tt)
element_identifiers (inits x w s o) h = (tt, tt)
element_identifiers (transitions x w s o) h = (tt, tt)
element_identifiers (invariants x w s o) h = (tt, tt)
element_identifiers (specifications x w l s o) h = (tt, tt)

elements_identifiers : {es : List PlainElement} {xs : List Token} → SpellsElements es xs → AllByRecursion IsNamed xs
    → AllByRecursion IsDeclaredWell (flat_map element_declares es) × AllByRecursion IsIdentifier (flat_map element_symbols es)
elements_identifiers no_elements h = (tt, tt)
elements_identifiers (element_then {e = e} {es = es} {xs = xs} {ys = ys} s r) h =
    let a = element_identifiers s (all_front IsNamed xs ys h) in
    let b = elements_identifiers r (all_back IsNamed xs ys h) in
    (all_joined IsDeclaredWell (element_declares e) (flat_map element_declares es) a.0 b.0, all_joined IsIdentifier (element_symbols e) (flat_map element_symbols es) a.1 b.1)

pub modules_identifiers : {ms : List PlainModule} {xs : List Token} → SpellsModules ms xs → AllByRecursion IsNamed xs → AllByRecursion HasIdentifiers ms
modules_identifiers no_modules h = tt
modules_identifiers (module_then {ps = ps} {es = es} {xs = xs} {ys = ys} {zs = zs} x identifier w k f s r) h =
    let t = all_back IsNamed xs (ys ++ zs) h.1.1 in
    let e = elements_identifiers s (all_front IsNamed ys zs t) in
    let q = all_mapped IsDeclaredWell (λ (q : Parameter). record { name = q.name; place = q.place; item = None }) ps (formals_identifiers f (all_front IsNamed xs (ys ++ zs) h.1.1)) in (
      record { declared = all_joined IsDeclaredWell (map (λ (q : Parameter). record { name = q.name; place = q.place; item = None }) ps) (flat_map element_declares es) q e.0; symbols = e.1 },
      modules_identifiers r (all_back IsNamed ys zs t),
    )
