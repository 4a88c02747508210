-- What is printed for a model can be printed where its own tokens could.
use Rattle.std.proofs.Common.{◌≡◌, ◌≤◌, ℕ, suc, Option, true, false, List, [], ◌∷◌, ◌++◌, map, refl, arith}
use Rattle.std.specs.List.{flat_map}
use Rattle.smv_text.specs.declared.token.Token.{Token}
use Rattle.smv_text.specs.declared.token.Reserved.{Reserved}
use Rattle.smv_text.specs.declared.token.Reserved.TheVariants as word
use Rattle.smv_text.specs.declared.token.Sign.{Sign}
use Rattle.smv_text.specs.declared.token.Sign.TheVariants as sign
use Rattle.smv_text.specs.declared.token.TokenKind.{TokenKind}
use Rattle.smv_text.specs.declared.token.TokenKind.TheVariants as kind
use Rattle.smv_text.specs.declared.tree.Path.{Path}
use Rattle.smv_text.specs.declared.tree.Member.{Member}
use Rattle.smv_text.specs.declared.tree.VarKind.{VarKind}
use Rattle.smv_text.specs.declared.tree.VarKind.TheVariants as var_kind
use Rattle.smv_text.specs.declared.tree.When.{When}
use Rattle.smv_text.specs.declared.tree.Parameter.{Parameter}
use Rattle.smv_text.specs.Lexing.{kinds, opened_by, most_brackets}
use Rattle.smv_text.specs.Levels.{all_levels}
use Rattle.smv_text.specs.Tree.{Tree, Trees, no_trees, tree, PlainDomain, PlainItem, PlainDefinition, PlainAssignment, PlainElement, PlainModule}
use Rattle.smv_text.specs.Grammar.{IsSign, Spells, SpellsListed}
use Rattle.smv_text.specs.Sources.{IsWord, section_word, SpellsNames, no_names, name_then, SpellsParameters, no_parameters, parameter_then, SpellsFormals, no_formals, empty_formals, formals, SpellsActuals, no_actuals, empty_actuals, actuals, SpellsMember, symbols, integers, SpellsMembers, no_members, member_then, IsUnsigned, unstated, stated, SpellsType, booleans, enumerations, intervals, words, SpellsDomain, types, instances, SpellsItems, no_items, item_then, SpellsDefinitions, no_definitions, definition_then, SpellsTarget, always, first, following, SpellsAssignments, no_assignments, assignment_then, IsOptional, left_out, semicolon, SpellsLabel, no_label, label, SpellsElement, variables, definitions, symbol_names, assignments, inits, transitions, invariants, specifications, SpellsElements, no_elements, element_then, SpellsModules, no_modules, module_then}
use Rattle.smv_print.specs.Printing.{parted, ident, in_brackets, int_kinds, tree_kinds, argument_kinds, member_kinds, actual_kinds, domain_kinds, item_kinds, body_kinds, definition_kinds, target_kinds, assignment_kinds, spec_name_kinds, formula_kinds, element_kinds, parameter_name, parameter_kinds, module_kinds}
use Rattle.smv_lex.specs.Printable.{ArePrintable, CanAllBePrinted}
use Rattle.smv_print.proofs.Nesting.{Prints, prints_none, prints_append, prints_one, prints_within, IsPlain, plain_of, CanPrint, front, back, past, room, first_can, number_fits, name_fits, OpensNone, none_none, none_less, plain_none, plain_less, open_none, close_less, no_tokens, opens_none_at, opens_round, closes_round, opens_curly, closes_curly, opens_square, closes_square, integer_none, path_none, spelled_none, listed_less, integer_prints, path_prints, nests, listed_nest, ident_plain, number_plain, comma_plain, semicolon_plain, colon_plain, range_plain}

-- one token that is no bracket
reserved_prints : (n : ℕ) (w : Reserved) (ks : List TokenKind) → ((m : ℕ) → opened_by m (kind.Reserved w) ≡ m) → n ≤ most_brackets → Prints n ks → Prints n (kind.Reserved w ∷ ks)
reserved_prints n w ks e le p = prints_one n (kind.Reserved w) ks (plain_of (kind.Reserved w) e) le tt p

sign_prints : (n : ℕ) (s : Sign) (ks : List TokenKind) → ((m : ℕ) → opened_by m (kind.Sign s) ≡ m) → n ≤ most_brackets → Prints n ks → Prints n (kind.Sign s ∷ ks)
sign_prints n s ks e le p = prints_one n (kind.Sign s) ks (plain_of (kind.Sign s) e) le tt p

name_prints : (n : ℕ) (x : Token) (xs : List Token) (i : List ℕ) (ks : List TokenKind) → x.kind ≡ kind.Ident i → n ≤ most_brackets → CanPrint n (x ∷ xs) → Prints n ks → Prints n (kind.Ident i ∷ ks)
name_prints n x xs i ks is le c p = prints_one n (kind.Ident i) ks (ident_plain i) le (name_fits i (first_can n x xs (kind.Ident i) is c)) p

-- names behind commas
names_none : {ns : List (List ℕ)} {xs : List Token} → SpellsNames ns xs → OpensNone xs
names_none no_names = no_tokens
names_none (name_then {n = n} {xs = xs} comma x a b s) = plain_none comma (x ∷ xs) (kind.Sign sign.Comma) a comma_plain (plain_none x xs (kind.Ident n) b (ident_plain n) (names_none s))

names_print : {ns : List (List ℕ)} {xs : List Token} → SpellsNames ns xs → (n : ℕ) → n ≤ most_brackets → CanPrint n xs → Prints n (parted sign.Comma true (map ident ns))
names_print no_names n le c = prints_none n
names_print (name_then {n = i} {ns = ns} {xs = xs} comma x a b s) n le c =
    let c1 = past n n comma (x ∷ xs) (kind.Sign sign.Comma) a refl c in
    sign_prints n sign.Comma (kind.Ident i ∷ parted sign.Comma true (map ident ns)) (λ m. refl) le
    (name_prints n x xs i (parted sign.Comma true (map ident ns)) b le c1 (names_print s n le (past n n x xs (kind.Ident i) b refl c1)))

parameters_none : {ps : List Parameter} {xs : List Token} → SpellsParameters ps xs → OpensNone xs
parameters_none no_parameters = no_tokens
parameters_none (parameter_then {n = n} {xs = xs} comma x a b s) = plain_none comma (x ∷ xs) (kind.Sign sign.Comma) a comma_plain (plain_none x xs (kind.Ident n) b (ident_plain n) (parameters_none s))

parameters_print : {ps : List Parameter} {xs : List Token} → SpellsParameters ps xs → (n : ℕ) → n ≤ most_brackets → CanPrint n xs → Prints n (parted sign.Comma true (map ident (map parameter_name ps)))
parameters_print no_parameters n le c = prints_none n
parameters_print (parameter_then {n = i} {ps = ps} {xs = xs} comma x a b s) n le c =
    let c1 = past n n comma (x ∷ xs) (kind.Sign sign.Comma) a refl c in
    sign_prints n sign.Comma (kind.Ident i ∷ parted sign.Comma true (map ident (map parameter_name ps))) (λ m. refl) le
    (name_prints n x xs i (parted sign.Comma true (map ident (map parameter_name ps))) b le c1 (parameters_print s n le (past n n x xs (kind.Ident i) b refl c1)))

formals_none : {ps : List Parameter} {xs : List Token} → SpellsFormals ps xs → OpensNone xs
formals_none no_formals = no_tokens
formals_none (empty_formals opening closing a b) = open_none opening (closing ∷ []) (kind.Sign sign.Open) a opens_round (close_less closing [] (kind.Sign sign.Close) b closes_round no_tokens)
formals_none (formals {n = n} {xs = xs} opening x closing a b s d) =
    open_none opening (x ∷ (xs ++ closing ∷ [])) (kind.Sign sign.Open) a opens_round
    (plain_less x (xs ++ closing ∷ []) (kind.Ident n) b (ident_plain n) (none_less xs (closing ∷ []) (parameters_none s) (close_less closing [] (kind.Sign sign.Close) d closes_round no_tokens)))

round_prints : (n : ℕ) (ks : List TokenKind) → suc n ≤ most_brackets → Prints (suc n) ks → Prints n (in_brackets ks)
round_prints n ks deep p = prints_within n (kind.Sign sign.Open) (kind.Sign sign.Close) ks opens_round closes_round tt tt deep p

formals_print : {ps : List Parameter} {xs : List Token} → SpellsFormals ps xs → (n : ℕ) → n ≤ most_brackets → CanPrint n xs → Prints n (parameter_kinds ps)
formals_print no_formals n le c = prints_none n
formals_print (empty_formals opening closing a b) n le c = prints_none n
formals_print (formals {n = i} {ps = ps} {xs = xs} opening x closing a b s d) n le c =
    let deep = room n opening (x ∷ (xs ++ closing ∷ [])) (kind.Sign sign.Open) a refl c in
    let c1 = past n (suc n) opening (x ∷ (xs ++ closing ∷ [])) (kind.Sign sign.Open) a refl c in
    let c2 = past (suc n) (suc n) x (xs ++ closing ∷ []) (kind.Ident i) b refl c1 in
    round_prints n (kind.Ident i ∷ parted sign.Comma true (map ident (map parameter_name ps))) deep
    (name_prints (suc n) x (xs ++ closing ∷ []) i (parted sign.Comma true (map ident (map parameter_name ps))) b deep c1 (parameters_print s (suc n) deep (front (suc n) xs (closing ∷ []) c2)))

-- actuals
actuals_none : {ts : Trees} {xs : List Token} → SpellsActuals ts xs → OpensNone xs
actuals_none no_actuals = no_tokens
actuals_none (empty_actuals opening closing a b) = open_none opening (closing ∷ []) (kind.Sign sign.Open) a opens_round (close_less closing [] (kind.Sign sign.Close) b closes_round no_tokens)
actuals_none (actuals {xs = xs} opening a l) = open_none opening xs (kind.Sign sign.Open) a opens_round (listed_less closes_round l)

listed_actuals : (ts : Trees) (n : ℕ) (s : Sign) (xs : List Token) → SpellsListed s ts xs → Prints n (in_brackets (argument_kinds false ts)) → Prints n (actual_kinds ts)
listed_actuals no_trees n s xs l p = prints_none n
listed_actuals (tree t ts) n s xs l p = p

actuals_print : {ts : Trees} {xs : List Token} → SpellsActuals ts xs → (n : ℕ) → n ≤ most_brackets → CanPrint n xs → Prints n (actual_kinds ts)
actuals_print no_actuals n le c = prints_none n
actuals_print (empty_actuals opening closing a b) n le c = prints_none n
actuals_print (actuals {ts = ts} {xs = xs} opening a l) n le c =
    let deep = room n opening xs (kind.Sign sign.Open) a refl c in
    listed_actuals ts n sign.Close xs l (round_prints n (argument_kinds false ts) deep (listed_nest l (suc n) deep (past n (suc n) opening xs (kind.Sign sign.Open) a refl c)))

-- members and types
member_none : {m : Member} {xs : List Token} → SpellsMember m xs → OpensNone xs
member_none (symbols {n = n} x is) = plain_none x [] (kind.Ident n) is (ident_plain n) no_tokens
member_none (integers i) = integer_none i

member_prints : {m : Member} {xs : List Token} → SpellsMember m xs → (n : ℕ) → n ≤ most_brackets → CanPrint n xs → Prints n (member_kinds m)
member_prints (symbols {n = i} x is) n le c = name_prints n x [] i [] is le c (prints_none n)
member_prints (integers i) n le c = integer_prints i n le c

members_none : {ms : List Member} {xs : List Token} → SpellsMembers ms xs → OpensNone xs
members_none no_members = no_tokens
members_none (member_then {xs = xs} {ys = ys} comma a m s) = plain_none comma (xs ++ ys) (kind.Sign sign.Comma) a comma_plain (none_none xs ys (member_none m) (members_none s))

members_print : {ms : List Member} {xs : List Token} → SpellsMembers ms xs → (n : ℕ) → n ≤ most_brackets → CanPrint n xs → Prints n (parted sign.Comma true (map member_kinds ms))
members_print no_members n le c = prints_none n
members_print (member_then {m = m} {ms = ms} {xs = xs} {ys = ys} comma a d s) n le c =
    let c1 = past n n comma (xs ++ ys) (kind.Sign sign.Comma) a refl c in
    sign_prints n sign.Comma (member_kinds m ++ parted sign.Comma true (map member_kinds ms)) (λ i. refl) le
    (prints_append n (member_kinds m) (parted sign.Comma true (map member_kinds ms)) (member_prints d n le (front n xs ys c1)) (members_print s n le (back n n xs ys (opens_none_at _ (member_none d) n) c1)))

unsigned_none : {xs : List Token} → IsUnsigned xs → OpensNone xs
unsigned_none unstated = no_tokens
unsigned_none (stated x is) = plain_none x [] (kind.Reserved word.Unsigned) is (plain_of (kind.Reserved word.Unsigned) (λ m. refl)) no_tokens

type_none : {d : PlainDomain} {xs : List Token} → SpellsType d xs → OpensNone xs
type_none (booleans x is) = plain_none x [] (kind.Reserved word.Boolean) is (plain_of (kind.Reserved word.Boolean) (λ m. refl)) no_tokens
type_none (enumerations {xs = xs} {ys = ys} opening a m ms closing b) =
    open_none opening (xs ++ (ys ++ closing ∷ [])) (kind.Sign sign.OpenBrace) a opens_curly
    (none_less xs (ys ++ closing ∷ []) (member_none m) (none_less ys (closing ∷ []) (members_none ms) (close_less closing [] (kind.Sign sign.CloseBrace) b closes_curly no_tokens)))
type_none (intervals {xs = xs} {ys = ys} a dots is b) = none_none xs (dots ∷ ys) (integer_none a) (plain_none dots ys (kind.Sign sign.Range) is range_plain (integer_none b))
type_none (words {n = n} {xs = xs} u x opening width closing a b d e) =
    none_none xs (x ∷ opening ∷ width ∷ closing ∷ []) (unsigned_none u)
    (plain_none x (opening ∷ width ∷ closing ∷ []) (kind.Reserved word.Word) a (plain_of (kind.Reserved word.Word) (λ m. refl))
    (open_none opening (width ∷ closing ∷ []) (kind.Sign sign.OpenBracket) b opens_square (plain_less width (closing ∷ []) (kind.Number n) d (number_plain n) (close_less closing [] (kind.Sign sign.CloseBracket) e closes_square no_tokens))))

type_prints : {d : PlainDomain} {xs : List Token} → SpellsType d xs → (n : ℕ) → n ≤ most_brackets → CanPrint n xs → Prints n (domain_kinds d)
type_prints (booleans x is) n le c = reserved_prints n word.Boolean [] (λ m. refl) le (prints_none n)
type_prints (enumerations {m = m} {ms = ms} {xs = xs} {ys = ys} opening a d s closing b) n le c =
    let deep = room n opening (xs ++ (ys ++ closing ∷ [])) (kind.Sign sign.OpenBrace) a refl c in
    let c1 = past n (suc n) opening (xs ++ (ys ++ closing ∷ [])) (kind.Sign sign.OpenBrace) a refl c in
    let c2 = back (suc n) (suc n) xs (ys ++ closing ∷ []) (opens_none_at _ (member_none d) (suc n)) c1 in
    prints_within n (kind.Sign sign.OpenBrace) (kind.Sign sign.CloseBrace) (member_kinds m ++ parted sign.Comma true (map member_kinds ms)) opens_curly closes_curly tt tt deep
    (prints_append (suc n) (member_kinds m) (parted sign.Comma true (map member_kinds ms)) (member_prints d (suc n) deep (front (suc n) xs (ys ++ closing ∷ []) c1)) (members_print s (suc n) deep (front (suc n) ys (closing ∷ []) c2)))
type_prints (intervals {low = low} {high = high} {xs = xs} {ys = ys} a dots is b) n le c =
    let c1 = back n n xs (dots ∷ ys) (opens_none_at _ (integer_none a) n) c in
    prints_append n (int_kinds low) (kind.Sign sign.Range ∷ int_kinds high) (integer_prints a n le (front n xs (dots ∷ ys) c))
    (sign_prints n sign.Range (int_kinds high) (λ m. refl) le (integer_prints b n le (past n n dots ys (kind.Sign sign.Range) is refl c1)))
type_prints (words {n = m} {xs = xs} u x opening width closing a b d e) n le c =
    let tail : List Token = opening ∷ width ∷ closing ∷ [] in
    let c1 = back n n xs (x ∷ tail) (opens_none_at _ (unsigned_none u) n) c in
    let c2 = past n n x tail (kind.Reserved word.Word) a refl c1 in
    let deep = room n opening (width ∷ closing ∷ []) (kind.Sign sign.OpenBracket) b refl c2 in
    let c3 = past n (suc n) opening (width ∷ closing ∷ []) (kind.Sign sign.OpenBracket) b refl c2 in
    reserved_prints n word.Word (kind.Sign sign.OpenBracket ∷ kind.Number m ∷ kind.Sign sign.CloseBracket ∷ []) (λ i. refl) le
    (prints_within n (kind.Sign sign.OpenBracket) (kind.Sign sign.CloseBracket) (kind.Number m ∷ []) opens_square closes_square tt tt deep
    (prints_one (suc n) (kind.Number m) [] (number_plain m) deep (number_fits m (first_can (suc n) width (closing ∷ []) (kind.Number m) d c3)) (prints_none (suc n))))

domain_none : {k : VarKind} {d : PlainDomain} {xs : List Token} → SpellsDomain k d xs → OpensNone xs
domain_none (types t) = type_none t
domain_none (instances {n = n} {xs = xs} x is l) = plain_none x xs (kind.Ident n) is (ident_plain n) (actuals_none l)

domain_prints : {k : VarKind} {d : PlainDomain} {xs : List Token} → SpellsDomain k d xs → (n : ℕ) → n ≤ most_brackets → CanPrint n xs → Prints n (domain_kinds d)
domain_prints (types t) n le c = type_prints t n le c
domain_prints (instances {n = i} {ts = ts} {xs = xs} x is l) n le c = name_prints n x xs i (actual_kinds ts) is le c (actuals_print l n le (past n n x xs (kind.Ident i) is refl c))

-- declarations, definitions, assignments
items_none : {k : VarKind} {is : List PlainItem} {xs : List Token} → SpellsItems k is xs → OpensNone xs
items_none no_items = no_tokens
items_none (item_then {n = n} {xs = xs} {ys = ys} x colon a b d semi e more) =
    plain_none x (colon ∷ (xs ++ semi ∷ ys)) (kind.Ident n) a (ident_plain n)
    (plain_none colon (xs ++ semi ∷ ys) (kind.Sign sign.Colon) b colon_plain (none_none xs (semi ∷ ys) (domain_none d) (plain_none semi ys (kind.Sign sign.Semicolon) e semicolon_plain (items_none more))))

items_print : {k : VarKind} {is : List PlainItem} {xs : List Token} → SpellsItems k is xs → (n : ℕ) → n ≤ most_brackets → CanPrint n xs → Prints n (flat_map item_kinds is)
items_print no_items n le c = prints_none n
items_print (item_then {n = i} {d = d} {is = is} {xs = xs} {ys = ys} x colon a b s semi e more) n le c =
    let c1 = past n n x (colon ∷ (xs ++ semi ∷ ys)) (kind.Ident i) a refl c in
    let c2 = past n n colon (xs ++ semi ∷ ys) (kind.Sign sign.Colon) b refl c1 in
    let c3 = back n n xs (semi ∷ ys) (opens_none_at _ (domain_none s) n) c2 in
    prints_append n (kind.Ident i ∷ kind.Sign sign.Colon ∷ (domain_kinds d ++ kind.Sign sign.Semicolon ∷ [])) (flat_map item_kinds is)
    (name_prints n x (colon ∷ (xs ++ semi ∷ ys)) i (kind.Sign sign.Colon ∷ (domain_kinds d ++ kind.Sign sign.Semicolon ∷ [])) a le c
    (sign_prints n sign.Colon (domain_kinds d ++ kind.Sign sign.Semicolon ∷ []) (λ m. refl) le
    (prints_append n (domain_kinds d) (kind.Sign sign.Semicolon ∷ []) (domain_prints s n le (front n xs (semi ∷ ys) c2)) (sign_prints n sign.Semicolon [] (λ m. refl) le (prints_none n)))))
    (items_print more n le (past n n semi ys (kind.Sign sign.Semicolon) e refl c3))

tree_prints : {t : Tree} {xs : List Token} → Spells all_levels t xs → (n : ℕ) → n ≤ most_brackets → CanPrint n xs → Prints n (tree_kinds t)
tree_prints s n le c = (nests s 0 n refl (omega arith) le c).bare

body_prints : (n : ℕ) (t : Tree) → n ≤ most_brackets → Prints n (tree_kinds t) → Prints n (body_kinds t)
body_prints n t le p =
    sign_prints n sign.Assign (tree_kinds t ++ kind.Sign sign.Semicolon ∷ []) (λ m. refl) le
    (prints_append n (tree_kinds t) (kind.Sign sign.Semicolon ∷ []) p (sign_prints n sign.Semicolon [] (λ m. refl) le (prints_none n)))

assign_plain : IsPlain (kind.Sign sign.Assign)
assign_plain = plain_of (kind.Sign sign.Assign) (λ m. refl)

definitions_none : {ds : List PlainDefinition} {xs : List Token} → SpellsDefinitions ds xs → OpensNone xs
definitions_none no_definitions = no_tokens
definitions_none (definition_then {n = n} {xs = xs} {ys = ys} x assign a b s semi e more) =
    plain_none x (assign ∷ (xs ++ semi ∷ ys)) (kind.Ident n) a (ident_plain n)
    (plain_none assign (xs ++ semi ∷ ys) (kind.Sign sign.Assign) b assign_plain (none_none xs (semi ∷ ys) (spelled_none s) (plain_none semi ys (kind.Sign sign.Semicolon) e semicolon_plain (definitions_none more))))

definitions_print : {ds : List PlainDefinition} {xs : List Token} → SpellsDefinitions ds xs → (n : ℕ) → n ≤ most_brackets → CanPrint n xs → Prints n (flat_map definition_kinds ds)
definitions_print no_definitions n le c = prints_none n
definitions_print (definition_then {n = i} {t = t} {ds = ds} {xs = xs} {ys = ys} x assign a b s semi e more) n le c =
    let c1 = past n n x (assign ∷ (xs ++ semi ∷ ys)) (kind.Ident i) a refl c in
    let c2 = past n n assign (xs ++ semi ∷ ys) (kind.Sign sign.Assign) b refl c1 in
    let c3 = back n n xs (semi ∷ ys) (opens_none_at _ (spelled_none s) n) c2 in
    prints_append n (kind.Ident i ∷ body_kinds t) (flat_map definition_kinds ds)
    (name_prints n x (assign ∷ (xs ++ semi ∷ ys)) i (body_kinds t) a le c (body_prints n t le (tree_prints s n le (front n xs (semi ∷ ys) c2))))
    (definitions_print more n le (past n n semi ys (kind.Sign sign.Semicolon) e refl c3))

call_none : (x opening : Token) (xs : List Token) (closing : Token) (w : Reserved) → ((m : ℕ) → opened_by m (kind.Reserved w) ≡ m) → IsWord w x → IsSign sign.Open opening → OpensNone xs → IsSign sign.Close closing → OpensNone (x ∷ opening ∷ (xs ++ closing ∷ []))
call_none x opening xs closing w e a b s d =
    plain_none x (opening ∷ (xs ++ closing ∷ [])) (kind.Reserved w) a (plain_of (kind.Reserved w) e)
    (open_none opening (xs ++ closing ∷ []) (kind.Sign sign.Open) b opens_round (none_less xs (closing ∷ []) s (close_less closing [] (kind.Sign sign.Close) d closes_round no_tokens)))

target_none : {w : When} {path : Path} {xs : List Token} → SpellsTarget w path xs → OpensNone xs
target_none (always p) = path_none p
target_none (first {xs = xs} x opening a b p closing d) = call_none x opening xs closing word.Initial (λ m. refl) a b (path_none p) d
target_none (following {xs = xs} x opening a b p closing d) = call_none x opening xs closing word.Next (λ m. refl) a b (path_none p) d

target_prints : {w : When} {path : Path} {xs : List Token} → SpellsTarget w path xs → (n : ℕ) → n ≤ most_brackets → CanPrint n xs → Prints n (target_kinds w path)
target_prints (always p) n le c = path_prints p n le c
target_prints (first {path = path} {xs = xs} x opening a b p closing d) n le c =
    let c1 = past n n x (opening ∷ (xs ++ closing ∷ [])) (kind.Reserved word.Initial) a refl c in
    let deep = room n opening (xs ++ closing ∷ []) (kind.Sign sign.Open) b refl c1 in
    let c2 = past n (suc n) opening (xs ++ closing ∷ []) (kind.Sign sign.Open) b refl c1 in
    reserved_prints n word.Initial _ (λ m. refl) le (round_prints n _ deep (path_prints p (suc n) deep (front (suc n) xs (closing ∷ []) c2)))
target_prints (following {path = path} {xs = xs} x opening a b p closing d) n le c =
    let c1 = past n n x (opening ∷ (xs ++ closing ∷ [])) (kind.Reserved word.Next) a refl c in
    let deep = room n opening (xs ++ closing ∷ []) (kind.Sign sign.Open) b refl c1 in
    let c2 = past n (suc n) opening (xs ++ closing ∷ []) (kind.Sign sign.Open) b refl c1 in
    reserved_prints n word.Next _ (λ m. refl) le (round_prints n _ deep (path_prints p (suc n) deep (front (suc n) xs (closing ∷ []) c2)))

assignments_none : {rest : List PlainAssignment} {xs : List Token} → SpellsAssignments rest xs → OpensNone xs
assignments_none no_assignments = no_tokens
assignments_none (assignment_then {xs = xs} {ys = ys} {zs = zs} t assign a s semi e more) =
    none_none xs (assign ∷ (ys ++ semi ∷ zs)) (target_none t)
    (plain_none assign (ys ++ semi ∷ zs) (kind.Sign sign.Assign) a assign_plain (none_none ys (semi ∷ zs) (spelled_none s) (plain_none semi zs (kind.Sign sign.Semicolon) e semicolon_plain (assignments_none more))))

assignments_print : {rest : List PlainAssignment} {xs : List Token} → SpellsAssignments rest xs → (n : ℕ) → n ≤ most_brackets → CanPrint n xs → Prints n (flat_map assignment_kinds rest)
assignments_print no_assignments n le c = prints_none n
assignments_print (assignment_then {w = w} {path = path} {t = t} {rest = rest} {xs = xs} {ys = ys} {zs = zs} g assign a s semi e more) n le c =
    let c1 = back n n xs (assign ∷ (ys ++ semi ∷ zs)) (opens_none_at _ (target_none g) n) c in
    let c2 = past n n assign (ys ++ semi ∷ zs) (kind.Sign sign.Assign) a refl c1 in
    let c3 = back n n ys (semi ∷ zs) (opens_none_at _ (spelled_none s) n) c2 in
    prints_append n (target_kinds w path ++ body_kinds t) (flat_map assignment_kinds rest)
    (prints_append n (target_kinds w path) (body_kinds t) (target_prints g n le (front n xs (assign ∷ (ys ++ semi ∷ zs)) c)) (body_prints n t le (tree_prints s n le (front n ys (semi ∷ zs) c2))))
    (assignments_print more n le (past n n semi zs (kind.Sign sign.Semicolon) e refl c3))

-- sections
optional_none : {xs : List Token} → IsOptional xs → OpensNone xs
optional_none left_out = no_tokens
optional_none (semicolon x is) = plain_none x [] (kind.Sign sign.Semicolon) is semicolon_plain no_tokens

label_none : {o : Option (List ℕ)} {xs : List Token} → SpellsLabel o xs → OpensNone xs
label_none no_label = no_tokens
label_none (label {n = n} x identifier assign a b d) =
    plain_none x (identifier ∷ assign ∷ []) (kind.Reserved word.Name) a (plain_of (kind.Reserved word.Name) (λ m. refl))
    (plain_none identifier (assign ∷ []) (kind.Ident n) b (ident_plain n) (plain_none assign [] (kind.Sign sign.Assign) d assign_plain no_tokens))

label_prints : {o : Option (List ℕ)} {xs : List Token} → SpellsLabel o xs → (n : ℕ) → n ≤ most_brackets → CanPrint n xs → Prints n (spec_name_kinds o)
label_prints no_label n le c = prints_none n
label_prints (label {n = i} x identifier assign a b d) n le c =
    let c1 = past n n x (identifier ∷ assign ∷ []) (kind.Reserved word.Name) a refl c in
    reserved_prints n word.Name (kind.Ident i ∷ kind.Sign sign.Assign ∷ []) (λ m. refl) le
    (name_prints n identifier (assign ∷ []) i (kind.Sign sign.Assign ∷ []) b le c1 (sign_prints n sign.Assign [] (λ m. refl) le (prints_none n)))

formula_prints : (n : ℕ) (t : Tree) → n ≤ most_brackets → Prints n (tree_kinds t) → Prints n (formula_kinds t)
formula_prints n t le p = prints_append n (tree_kinds t) (kind.Sign sign.Semicolon ∷ []) p (sign_prints n sign.Semicolon [] (λ m. refl) le (prints_none n))

section_plain : (k : VarKind) (m : ℕ) → opened_by m (kind.Reserved (section_word k)) ≡ m
section_plain var_kind.State m = refl
section_plain var_kind.Input m = refl
section_plain var_kind.Frozen m = refl

formula_none : (x : Token) (xs ys : List Token) (w : Reserved) → ((m : ℕ) → opened_by m (kind.Reserved w) ≡ m) → IsWord w x → OpensNone xs → OpensNone ys → OpensNone (x ∷ (xs ++ ys))
formula_none x xs ys w e a s o = plain_none x (xs ++ ys) (kind.Reserved w) a (plain_of (kind.Reserved w) e) (none_none xs ys s o)

formula_section : (x : Token) (xs ys : List Token) (w : Reserved) (t : Tree) → ((m : ℕ) → opened_by m (kind.Reserved w) ≡ m) → IsWord w x → Spells all_levels t xs → (n : ℕ) → n ≤ most_brackets → CanPrint n (x ∷ (xs ++ ys)) → Prints n (kind.Reserved w ∷ formula_kinds t)
formula_section x xs ys w t e a s n le c =
    reserved_prints n w (formula_kinds t) e le (formula_prints n t le (tree_prints s n le (front n xs ys (past n n x (xs ++ ys) (kind.Reserved w) a (e n) c))))

element_none : {e : PlainElement} {xs : List Token} → SpellsElement e xs → OpensNone xs
element_none (variables {k = k} {xs = xs} x a s) = plain_none x xs (kind.Reserved (section_word k)) a (plain_of (kind.Reserved (section_word k)) (section_plain k)) (items_none s)
element_none (definitions {xs = xs} x a s) = plain_none x xs (kind.Reserved word.Define) a (plain_of (kind.Reserved word.Define) (λ m. refl)) (definitions_none s)
element_none (symbol_names {n = n} {xs = xs} x f a b s semi d) =
    plain_none x (f ∷ (xs ++ semi ∷ [])) (kind.Reserved word.Constants) a (plain_of (kind.Reserved word.Constants) (λ m. refl))
    (plain_none f (xs ++ semi ∷ []) (kind.Ident n) b (ident_plain n) (none_none xs (semi ∷ []) (names_none s) (plain_none semi [] (kind.Sign sign.Semicolon) d semicolon_plain no_tokens)))
element_none (assignments {xs = xs} x a s) = plain_none x xs (kind.Reserved word.Assign) a (plain_of (kind.Reserved word.Assign) (λ m. refl)) (assignments_none s)
element_none (inits {xs = xs} {ys = ys} x a s o) = formula_none x xs ys word.Init (λ m. refl) a (spelled_none s) (optional_none o)
element_none (transitions {xs = xs} {ys = ys} x a s o) = formula_none x xs ys word.Trans (λ m. refl) a (spelled_none s) (optional_none o)
element_none (invariants {xs = xs} {ys = ys} x a s o) = formula_none x xs ys word.Invar (λ m. refl) a (spelled_none s) (optional_none o)
element_none (specifications {ns = ns} {xs = xs} {ys = ys} x a l s o) =
    plain_none x (ns ++ (xs ++ ys)) (kind.Reserved word.Invarspec) a (plain_of (kind.Reserved word.Invarspec) (λ m. refl)) (none_none ns (xs ++ ys) (label_none l) (none_none xs ys (spelled_none s) (optional_none o)))

element_prints : {e : PlainElement} {xs : List Token} → SpellsElement e xs → (n : ℕ) → n ≤ most_brackets → CanPrint n xs → Prints n (element_kinds e)
element_prints (variables {k = k} {is = is} {xs = xs} x a s) n le c =
    reserved_prints n (section_word k) (flat_map item_kinds is) (section_plain k) le (items_print s n le (past n n x xs (kind.Reserved (section_word k)) a (section_plain k n) c))
element_prints (definitions {ds = ds} {xs = xs} x a s) n le c =
    reserved_prints n word.Define (flat_map definition_kinds ds) (λ m. refl) le (definitions_print s n le (past n n x xs (kind.Reserved word.Define) a refl c))
element_prints (symbol_names {n = i} {ns = ns} {xs = xs} x f a b s semi d) n le c =
    let c1 = past n n x (f ∷ (xs ++ semi ∷ [])) (kind.Reserved word.Constants) a refl c in
    let c2 = past n n f (xs ++ semi ∷ []) (kind.Ident i) b refl c1 in
    reserved_prints n word.Constants (kind.Ident i ∷ (parted sign.Comma true (map ident ns) ++ kind.Sign sign.Semicolon ∷ [])) (λ m. refl) le
    (name_prints n f (xs ++ semi ∷ []) i (parted sign.Comma true (map ident ns) ++ kind.Sign sign.Semicolon ∷ []) b le c1
    (prints_append n (parted sign.Comma true (map ident ns)) (kind.Sign sign.Semicolon ∷ []) (names_print s n le (front n xs (semi ∷ []) c2)) (sign_prints n sign.Semicolon [] (λ m. refl) le (prints_none n))))
element_prints (assignments {rest = rest} {xs = xs} x a s) n le c =
    reserved_prints n word.Assign (flat_map assignment_kinds rest) (λ m. refl) le (assignments_print s n le (past n n x xs (kind.Reserved word.Assign) a refl c))
element_prints (inits {t = t} {xs = xs} {ys = ys} x a s o) n le c = formula_section x xs ys word.Init t (λ m. refl) a s n le c
element_prints (transitions {t = t} {xs = xs} {ys = ys} x a s o) n le c = formula_section x xs ys word.Trans t (λ m. refl) a s n le c
element_prints (invariants {t = t} {xs = xs} {ys = ys} x a s o) n le c = formula_section x xs ys word.Invar t (λ m. refl) a s n le c
element_prints (specifications {o = o} {t = t} {ns = ns} {xs = xs} {ys = ys} x a l s p) n le c =
    let c1 = past n n x (ns ++ (xs ++ ys)) (kind.Reserved word.Invarspec) a refl c in
    let c2 = back n n ns (xs ++ ys) (opens_none_at _ (label_none l) n) c1 in
    reserved_prints n word.Invarspec (spec_name_kinds o ++ formula_kinds t) (λ m. refl) le
    (prints_append n (spec_name_kinds o) (formula_kinds t) (label_prints l n le (front n ns (xs ++ ys) c1)) (formula_prints n t le (tree_prints s n le (front n xs ys c2))))

elements_none : {es : List PlainElement} {xs : List Token} → SpellsElements es xs → OpensNone xs
elements_none no_elements = no_tokens
elements_none (element_then {xs = xs} {ys = ys} e s) = none_none xs ys (element_none e) (elements_none s)

elements_print : {es : List PlainElement} {xs : List Token} → SpellsElements es xs → (n : ℕ) → n ≤ most_brackets → CanPrint n xs → Prints n (flat_map element_kinds es)
elements_print no_elements n le c = prints_none n
elements_print (element_then {e = e} {es = es} {xs = xs} {ys = ys} d s) n le c =
    prints_append n (element_kinds e) (flat_map element_kinds es) (element_prints d n le (front n xs ys c)) (elements_print s n le (back n n xs ys (opens_none_at _ (element_none d) n) c))

modules_print : {ms : List PlainModule} {xs : List Token} → SpellsModules ms xs → (n : ℕ) → n ≤ most_brackets → CanPrint n xs → Prints n (flat_map module_kinds ms)
modules_print no_modules n le c = prints_none n
modules_print (module_then {n = i} {ps = ps} {es = es} {ms = ms} {xs = xs} {ys = ys} {zs = zs} x identifier a b f s more) n le c =
    let c1 = past n n x (identifier ∷ (xs ++ (ys ++ zs))) (kind.Reserved word.Module) a refl c in
    let c2 = past n n identifier (xs ++ (ys ++ zs)) (kind.Ident i) b refl c1 in
    let c3 = back n n xs (ys ++ zs) (opens_none_at _ (formals_none f) n) c2 in
    let c4 = back n n ys zs (opens_none_at _ (elements_none s) n) c3 in
    prints_append n (kind.Reserved word.Module ∷ kind.Ident i ∷ (parameter_kinds ps ++ flat_map element_kinds es)) (flat_map module_kinds ms)
    (reserved_prints n word.Module (kind.Ident i ∷ (parameter_kinds ps ++ flat_map element_kinds es)) (λ m. refl) le
    (name_prints n identifier (xs ++ (ys ++ zs)) i (parameter_kinds ps ++ flat_map element_kinds es) b le c1
    (prints_append n (parameter_kinds ps) (flat_map element_kinds es) (formals_print f n le (front n xs (ys ++ zs) c2)) (elements_print s n le (front n ys zs c3)))))
    (modules_print more n le c4)

pub source_prints : (ms : List PlainModule) (xs : List Token) → SpellsModules ms xs → CanAllBePrinted 0 (kinds xs) → ArePrintable 0 (flat_map module_kinds ms)
unfolding CanPrint
source_prints ms xs s c = (modules_print s 0 (omega arith) c).fine
