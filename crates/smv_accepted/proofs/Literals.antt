-- In a model that a text spells each word literal is a word.
use Rattle.std.proofs.Common.{◌≡◌, ℕ, ◌^◌, nat_lt, nat_le, Bool, true, ◌&&◌, List, [], ◌∷◌, ◌++◌, refl, sym, ap, ◌∙◌}
use mathlib.Core.Logic.{inl, inr}
use Rattle.std.specs.List.{list_all}
use Rattle.std.proofs.lemmas.List.Folds.{list_all-append}
use Rattle.std.proofs.lemmas.Bool.{lt-ltb, le-leb}
use Rattle.word_core.specs.declared.word.TheConstants.{WIDEST}
use Rattle.smv_text.specs.declared.token.Token.{Token}
use Rattle.smv_text.specs.declared.token.TokenKind.{TokenKind}
use Rattle.smv_text.specs.declared.token.TokenKind.TheVariants as kind
use Rattle.smv_text.specs.declared.token.Sign.{Sign}
use Rattle.smv_text.specs.declared.tree.VarKind.{VarKind}
use Rattle.smv_text.specs.declared.level.OperatorClass.{OperatorClass}
use Rattle.smv_text.specs.declared.level.Level.{Level}
use Rattle.smv_text.specs.Tree.{Tree, Links, Branches, Trees, PlainDomain, PlainItem, PlainDefinition, PlainAssignment, PlainElement, PlainModule}
use Rattle.smv_text.specs.Grammar.{Spells, pass, chains, chooses, ranges, prefixes, selects, is_true, is_false, numbers, literals, names, brackets, nexts, calls, sets, switches, SpellsLinks, no_more, one_more, SpellsBranches, otherwise, picks, SpellsListed, last_one, one_before, SpellsCases, last_case, case_before}
use Rattle.smv_text.specs.Heights.{list_of, of_domain, of_items, of_definitions, of_assignments}
use Rattle.smv_text.specs.Lexing.{kinds, opened_by}
use Rattle.smv_text.specs.Sources.{SpellsActuals, no_actuals, empty_actuals, actuals, SpellsDomain, types, instances, SpellsType, booleans, enumerations, intervals, words, SpellsItems, no_items, item_then, SpellsDefinitions, no_definitions, definition_then, SpellsAssignments, no_assignments, assignment_then, SpellsElement, variables, definitions, symbol_names, assignments, inits, transitions, invariants, specifications, SpellsElements, no_elements, element_then, SpellsModules, no_modules, module_then}
use Rattle.smv_lex.specs.Printable.{CanBePrinted, CanAllBePrinted}
use Rattle.smv_lex.proofs.LexedAgain.{lexed_printable}
use Rattle.smv_meaning.specs.Operators.{is_width}
use Rattle.smv_meaning.specs.Instances.{module_named, main_name}
use Rattle.smv_meaning.specs.Checks.{is_literal}
use Rattle.smv_meaning.specs.Literals.{words_fit, link_words, branch_words, tree_words}
use Rattle.smv_meaning.specs.laws.Booleans.{both_true, two_true}
use Rattle.smv_accepted.specs.WordLaws.{WordsFit}
use Rattle.smv_width.proofs.SpelledWidths.{append_all, element_all, module_all, named_good}

-- ---- tokens

abbrev kind_fits : TokenKind → Bool
kind_fits (kind.Literal w) = is_literal w
kind_fits k = true

abbrev token_fits : Token → Bool
token_fits x = kind_fits x.kind

abbrev AllFit : List Token → Type 0
AllFit xs = list_all token_fits xs ≡ true

printed_fits : (k : TokenKind) → CanBePrinted k → kind_fits k ≡ true
printed_fits (kind.Literal w) (inl e) = cc
printed_fits (kind.Literal w) (inr h) =
    two_true (is_width w.width) (nat_lt w.bits (2 ^ w.width)) (two_true (nat_le 1 w.width) (nat_le w.width WIDEST) (le-leb 1 w.width h.0) (le-leb w.width WIDEST h.1)) (lt-ltb w.bits (2 ^ w.width) h.2)
printed_fits (kind.Reserved w) h = refl
printed_fits kind.Refused h = refl
printed_fits (kind.Ident n) h = refl
printed_fits (kind.Number n) h = refl
printed_fits (kind.Sign s) h = refl

all_printed : (n : ℕ) (xs : List Token) → CanAllBePrinted n (kinds xs) → AllFit xs
all_printed n [] h = refl
all_printed n (x ∷ xs) h = two_true (token_fits x) (list_all token_fits xs) (printed_fits x.kind h.0) (all_printed (opened_by n x.kind) xs h.2)

parts : (xs ys : List Token) → AllFit (xs ++ ys) → AllFit xs × AllFit ys
parts xs ys h = both_true (list_all token_fits xs) (list_all token_fits ys) (sym (list_all-append token_fits xs ys) ∙ h)

rest : (x : Token) (xs : List Token) → AllFit (x ∷ xs) → AllFit xs
rest x xs h = (both_true (token_fits x) (list_all token_fits xs) h).1

-- ---- expressions

mutual
  spelled_words : {levels : List Level} {t : Tree} {xs : List Token} → Spells levels t xs → AllFit xs → words_fit t ≡ true
  spelled_words (pass s) h = spelled_words s h
  spelled_words (chains {xs} {ys} s ls) h = let p = parts xs ys h in two_true _ _ (spelled_words s p.0) (spelled_links ls p.1)
  spelled_words (chooses bs) h = spelled_branches bs h
  spelled_words (ranges a dots b c) h = refl
  spelled_words (prefixes {xs} {ys} a s) h = spelled_words s (parts xs ys h).1
  spelled_words (selects {xs} s opening first colon last closing a b c d e) h = spelled_words s (parts xs (opening ∷ first ∷ colon ∷ last ∷ closing ∷ []) h).0
  spelled_words (is_true x a) h = refl
  spelled_words (is_false x a) h = refl
  spelled_words (numbers x a) h = refl
  spelled_words (literals {w} x a) h = sym (ap kind_fits a) ∙ (both_true (token_fits x) true h).0
  spelled_words (names a) h = refl
  spelled_words (brackets {xs} opening a s closing b) h = spelled_words s (parts xs (closing ∷ []) (rest opening (xs ++ closing ∷ []) h)).0
  spelled_words (nexts {xs} x a opening b s closing c) h = spelled_words s (parts xs (closing ∷ []) (rest opening (xs ++ closing ∷ []) (rest x (opening ∷ (xs ++ closing ∷ [])) h))).0
  spelled_words (calls {xs} x a opening b l) h = spelled_parts l (rest opening xs (rest x (opening ∷ xs) h))
  spelled_words (sets {xs} opening a l) h = spelled_parts l (rest opening xs h)
  spelled_words (switches {xs} x a c) h = spelled_cases c (rest x xs h)

  spelled_links : {c : OperatorClass} {below : List Level} {ls : Links} {xs : List Token} → SpellsLinks c below ls xs → AllFit xs → link_words ls ≡ true
  spelled_links no_more h = refl
  spelled_links (one_more {xs} {ys} x a s ls) h = let p = parts xs ys (rest x (xs ++ ys) h) in two_true _ _ (spelled_words s p.0) (spelled_links ls p.1)

  spelled_branches : {below : List Level} {bs : Branches} {t : Tree} {xs : List Token} → SpellsBranches below bs t xs → AllFit xs → (branch_words bs && words_fit t) ≡ true
  spelled_branches (otherwise s) h = spelled_words s h
  spelled_branches (picks {xs} {ys} {zs} a question b c colon d more) h =
      let p = parts xs (question ∷ (ys ++ colon ∷ zs)) h in
      let q = parts ys (colon ∷ zs) (rest question (ys ++ colon ∷ zs) p.1) in
      let r = both_true _ _ (spelled_branches more (rest colon zs q.1)) in
      two_true _ _ (two_true _ _ (spelled_words a p.0) (two_true _ _ (spelled_words c q.0) r.0)) r.1

  spelled_parts : {s : Sign} {ts : Trees} {xs : List Token} → SpellsListed s ts xs → AllFit xs → tree_words ts ≡ true
  spelled_parts (last_one {xs} s closing a) h = two_true _ _ (spelled_words s (parts xs (closing ∷ []) h).0) refl
  spelled_parts (one_before {xs} {ys} s comma a more) h = let p = parts xs (comma ∷ ys) h in two_true _ _ (spelled_words s p.0) (spelled_parts more (rest comma ys p.1))

  spelled_cases : {bs : Branches} {xs : List Token} → SpellsCases bs xs → AllFit xs → branch_words bs ≡ true
  spelled_cases (last_case {xs} {ys} a colon b c semicolon d esac e) h =
      let p = parts xs (colon ∷ (ys ++ semicolon ∷ esac ∷ [])) h in
      let q = parts ys (semicolon ∷ esac ∷ []) (rest colon (ys ++ semicolon ∷ esac ∷ []) p.1) in
      two_true _ _ (spelled_words a p.0) (two_true _ _ (spelled_words c q.0) refl)
  spelled_cases (case_before {xs} {ys} {zs} a colon b c semicolon d more) h =
      let p = parts xs (colon ∷ (ys ++ semicolon ∷ zs)) h in
      let q = parts ys (semicolon ∷ zs) (rest colon (ys ++ semicolon ∷ zs) p.1) in
      two_true _ _ (spelled_words a p.0) (two_true _ _ (spelled_words c q.0) (spelled_cases more (rest semicolon zs q.1)))

-- ---- the expressions of modules

listed_words : {s : Sign} {ts : Trees} {xs : List Token} → SpellsListed s ts xs → AllFit xs → list_all words_fit (list_of ts) ≡ true
listed_words (last_one {xs} s closing a) h = two_true _ _ (spelled_words s (parts xs (closing ∷ []) h).0) refl
listed_words (one_before {xs} {ys} s comma a more) h = let p = parts xs (comma ∷ ys) h in two_true _ _ (spelled_words s p.0) (listed_words more (rest comma ys p.1))

actuals_words : {ts : Trees} {xs : List Token} → SpellsActuals ts xs → AllFit xs → list_all words_fit (list_of ts) ≡ true
actuals_words no_actuals h = refl
actuals_words (empty_actuals opening closing a b) h = refl
actuals_words (actuals {xs} opening a l) h = listed_words l (rest opening xs h)

type_words : {d : PlainDomain} {xs : List Token} → SpellsType d xs → list_all words_fit (of_domain d) ≡ true
type_words (booleans x a) = refl
type_words (enumerations opening a b c closing d) = refl
type_words (intervals a dots b c) = refl
type_words (words a x opening width closing b c d e) = refl

domain_words : {k : VarKind} {d : PlainDomain} {xs : List Token} → SpellsDomain k d xs → AllFit xs → list_all words_fit (of_domain d) ≡ true
domain_words (types s) h = type_words s
domain_words (instances {xs} x a s) h = actuals_words s (rest x xs h)

items_words : {k : VarKind} {items : List PlainItem} {xs : List Token} → SpellsItems k items xs → AllFit xs → list_all words_fit (of_items items) ≡ true
items_words no_items h = refl
items_words (item_then {d} {is} {xs} {ys} x colon a b s semicolon c more) h =
    let p = parts xs (semicolon ∷ ys) (rest colon (xs ++ semicolon ∷ ys) (rest x (colon ∷ (xs ++ semicolon ∷ ys)) h)) in
    append_all words_fit (of_domain d) (of_items is) (domain_words s p.0) (items_words more (rest semicolon ys p.1))

definitions_words : {ds : List PlainDefinition} {xs : List Token} → SpellsDefinitions ds xs → AllFit xs → list_all words_fit (of_definitions ds) ≡ true
definitions_words no_definitions h = refl
definitions_words (definition_then {xs} {ys} x assign a b s semicolon c more) h =
    let p = parts xs (semicolon ∷ ys) (rest assign (xs ++ semicolon ∷ ys) (rest x (assign ∷ (xs ++ semicolon ∷ ys)) h)) in
    two_true _ _ (spelled_words s p.0) (definitions_words more (rest semicolon ys p.1))

assignments_words : {ds : List PlainAssignment} {xs : List Token} → SpellsAssignments ds xs → AllFit xs → list_all words_fit (of_assignments ds) ≡ true
assignments_words no_assignments h = refl
assignments_words (assignment_then {xs} {ys} {zs} target assign a s semicolon b more) h =
    let p = parts xs (assign ∷ (ys ++ semicolon ∷ zs)) h in
    let q = parts ys (semicolon ∷ zs) (rest assign (ys ++ semicolon ∷ zs) p.1) in
    two_true _ _ (spelled_words s q.0) (assignments_words more (rest semicolon zs q.1))

element_words : {e : PlainElement} {xs : List Token} → SpellsElement e xs → AllFit xs → element_all words_fit e ≡ true
element_words (variables {xs} x a s) h = items_words s (rest x xs h)
element_words (definitions {xs} x a s) h = definitions_words s (rest x xs h)
element_words (symbol_names x first a b s semicolon c) h = refl
element_words (assignments {xs} x a s) h = assignments_words s (rest x xs h)
element_words (inits {xs} {ys} x a s o) h = two_true _ _ (spelled_words s (parts xs ys (rest x (xs ++ ys) h)).0) refl
element_words (transitions {xs} {ys} x a s o) h = two_true _ _ (spelled_words s (parts xs ys (rest x (xs ++ ys) h)).0) refl
element_words (invariants {xs} {ys} x a s o) h = two_true _ _ (spelled_words s (parts xs ys (rest x (xs ++ ys) h)).0) refl
element_words (specifications {ns} {xs} {ys} x a l s o) h = two_true _ _ (spelled_words s (parts xs ys (parts ns (xs ++ ys) (rest x (ns ++ (xs ++ ys)) h)).1).0) refl

elements_words : {es : List PlainElement} {xs : List Token} → SpellsElements es xs → AllFit xs → list_all (element_all words_fit) es ≡ true
elements_words no_elements h = refl
elements_words (element_then {xs} {ys} s more) h = let p = parts xs ys h in two_true _ _ (element_words s p.0) (elements_words more p.1)

modules_words : {ms : List PlainModule} {xs : List Token} → SpellsModules ms xs → AllFit xs → list_all (module_all words_fit) ms ≡ true
modules_words no_modules h = refl
modules_words (module_then {xs} {ys} {zs} x identifier a b f es more) h =
    let p = parts xs (ys ++ zs) (rest identifier (xs ++ (ys ++ zs)) (rest x (identifier ∷ (xs ++ (ys ++ zs))) h)) in
    let q = parts ys zs p.1 in
    two_true _ _ (elements_words es q.0) (modules_words more q.1)

pub words_fit_law : WordsFit
words_fit_law source end text xs lexed spelled =
    named_good words_fit source.modules main_name (modules_words spelled.0 (all_printed 0 xs (lexed_printable text xs lexed))) (module_named source.modules main_name) refl
