-- Which tokens spell which model (NuSMV 2.6 User Manual, 2.3).
use Rattle.std.specs.Prelude.{◌≡◌, ◌≤◌, ◌<◌, ℕ, ℤ, suc, Option, Some, None, List, [], ◌∷◌, ◌++◌, length, take}
use Rattle.text_core.specs.declared.place.Place.{Place}
use Rattle.smv_text.specs.declared.token.Reserved.{Reserved}
use Rattle.smv_text.specs.declared.token.Reserved.TheVariants as word
use Rattle.smv_text.specs.declared.token.Sign.TheVariants as sign
use Rattle.smv_text.specs.declared.token.Token.{Token}
use Rattle.smv_text.specs.declared.token.TokenKind.TheVariants as kind
use Rattle.smv_text.specs.declared.tree.Path.{Path}
use Rattle.smv_text.specs.declared.tree.Member.{Member}
use Rattle.smv_text.specs.declared.tree.Member.TheVariants as member
use Rattle.smv_text.specs.declared.tree.VarKind.{VarKind}
use Rattle.smv_text.specs.declared.tree.VarKind.TheVariants as var_kind
use Rattle.smv_text.specs.declared.tree.When.{When}
use Rattle.smv_text.specs.declared.tree.When.TheVariants as when_
use Rattle.smv_text.specs.declared.tree.Parameter.{Parameter}
use Rattle.smv_text.specs.Tree.{Tree, Trees, no_trees, PlainDomain, boolean, members, between, bits, instance, PlainItem, PlainDefinition, PlainAssignment, PlainElement, vars, defines, constants, assigns, init, trans, invar, spec, PlainModule, PlainSource}
use Rattle.smv_text.specs.Levels.{all_levels}
use Rattle.smv_text.specs.Grammar.{start, IsSign, SpellsInteger, SpellsPath, Spells, SpellsListed}

-- a token of this reserved word
abbrev pub IsWord : Reserved → Token → Type 0
IsWord w x = x.kind ≡ kind.Reserved w

-- further identifiers, each behind a comma
pub data SpellsNames : List (List ℕ) → List Token → Type 0 where
  no_names : SpellsNames [] []
  name_then : {n : List ℕ} {ns : List (List ℕ)} {xs : List Token} (comma x : Token)
      → IsSign sign.Comma comma → x.kind ≡ kind.Ident n → SpellsNames ns xs → SpellsNames (n ∷ ns) (comma ∷ x ∷ xs)

-- further parameters, each behind a comma
pub data SpellsParameters : List Parameter → List Token → Type 0 where
  no_parameters : SpellsParameters [] []
  parameter_then : {n : List ℕ} {ps : List Parameter} {xs : List Token} (comma x : Token)
      → IsSign sign.Comma comma → x.kind ≡ kind.Ident n → SpellsParameters ps xs
      → SpellsParameters (record { name = n; place = x.place } ∷ ps) (comma ∷ x ∷ xs)

-- the parameters of a module's head: no brackets, brackets without parameters, or brackets with some
pub data SpellsFormals : List Parameter → List Token → Type 0 where
  no_formals : SpellsFormals [] []
  empty_formals : (opening closing : Token) → IsSign sign.Open opening → IsSign sign.Close closing → SpellsFormals [] (opening ∷ closing ∷ [])
  formals : {n : List ℕ} {ps : List Parameter} {xs : List Token} (opening x closing : Token)
      → IsSign sign.Open opening → x.kind ≡ kind.Ident n → SpellsParameters ps xs → IsSign sign.Close closing
      → SpellsFormals (record { name = n; place = x.place } ∷ ps) (opening ∷ x ∷ (xs ++ closing ∷ []))

-- the actuals of an instance: no brackets, brackets without actuals, or brackets with some
pub data SpellsActuals : Trees → List Token → Type 0 where
  no_actuals : SpellsActuals no_trees []
  empty_actuals : (opening closing : Token) → IsSign sign.Open opening → IsSign sign.Close closing → SpellsActuals no_trees (opening ∷ closing ∷ [])
  actuals : {ts : Trees} {xs : List Token} (opening : Token)
      → IsSign sign.Open opening → SpellsListed sign.Close ts xs → SpellsActuals ts (opening ∷ xs)

-- a symbol or an integer
pub data SpellsMember : Member → List Token → Type 0 where
  symbols : {n : List ℕ} (x : Token) → x.kind ≡ kind.Ident n → SpellsMember (member.Symbol n) (x ∷ [])
  integers : {i : ℤ} {xs : List Token} → SpellsInteger i xs → SpellsMember (member.Integer i) xs

-- further members, each behind a comma
pub data SpellsMembers : List Member → List Token → Type 0 where
  no_members : SpellsMembers [] []
  member_then : {m : Member} {ms : List Member} {xs ys : List Token} (comma : Token)
      → IsSign sign.Comma comma → SpellsMember m xs → SpellsMembers ms ys → SpellsMembers (m ∷ ms) (comma ∷ (xs ++ ys))

-- `unsigned`, or nothing
pub data IsUnsigned : List Token → Type 0 where
  unstated : IsUnsigned []
  stated : (x : Token) → IsWord word.Unsigned x → IsUnsigned (x ∷ [])

-- what a variable ranges over (manual, 2.3)
pub data SpellsType : PlainDomain → List Token → Type 0 where
  booleans : (x : Token) → IsWord word.Boolean x → SpellsType boolean (x ∷ [])
  enumerations : {m : Member} {ms : List Member} {xs ys : List Token} (opening : Token)
      → IsSign sign.OpenBrace opening → SpellsMember m xs → SpellsMembers ms ys → (closing : Token) → IsSign sign.CloseBrace closing
      → SpellsType (members (m ∷ ms)) (opening ∷ (xs ++ (ys ++ closing ∷ [])))
  intervals : {low high : ℤ} {xs ys : List Token}
      → SpellsInteger low xs → (dots : Token) → IsSign sign.Range dots → SpellsInteger high ys → SpellsType (between low high) (xs ++ dots ∷ ys)
  words : {n : ℕ} {xs : List Token} → IsUnsigned xs → (x opening width closing : Token)
      → IsWord word.Word x → IsSign sign.OpenBracket opening → width.kind ≡ kind.Number n → IsSign sign.CloseBracket closing
      → SpellsType (bits n) (xs ++ x ∷ opening ∷ width ∷ closing ∷ [])

-- a type, or in VAR an instance of a module (manual, 2.3)
pub data SpellsDomain : VarKind → PlainDomain → List Token → Type 0 where
  types : {k : VarKind} {d : PlainDomain} {xs : List Token} → SpellsType d xs → SpellsDomain k d xs
  instances : {n : List ℕ} {ts : Trees} {xs : List Token} (x : Token)
      → x.kind ≡ kind.Ident n → SpellsActuals ts xs → SpellsDomain var_kind.State (instance n ts) (x ∷ xs)

-- declarations, each with its semicolon
pub data SpellsItems (k : VarKind) : List PlainItem → List Token → Type 0 where
  no_items : SpellsItems k [] []
  item_then : {n : List ℕ} {d : PlainDomain} {is : List PlainItem} {xs ys : List Token} (x colon : Token)
      → x.kind ≡ kind.Ident n → IsSign sign.Colon colon → SpellsDomain k d xs → (semicolon : Token) → IsSign sign.Semicolon semicolon
      → SpellsItems k is ys
      → SpellsItems k (record { name = n; place = x.place; domain = d; domain_place = start xs } ∷ is) (x ∷ colon ∷ (xs ++ semicolon ∷ ys))

-- definitions, each with its semicolon (manual, 2.3)
pub data SpellsDefinitions : List PlainDefinition → List Token → Type 0 where
  no_definitions : SpellsDefinitions [] []
  definition_then : {n : List ℕ} {t : Tree} {ds : List PlainDefinition} {xs ys : List Token} (x assign : Token)
      → x.kind ≡ kind.Ident n → IsSign sign.Assign assign → Spells all_levels t xs → (semicolon : Token) → IsSign sign.Semicolon semicolon
      → SpellsDefinitions ds ys
      → SpellsDefinitions (record { name = n; place = x.place; body = t } ∷ ds) (x ∷ assign ∷ (xs ++ semicolon ∷ ys))

-- the left side of an assignment (manual, 2.3)
pub data SpellsTarget : When → Path → List Token → Type 0 where
  always : {path : Path} {xs : List Token} → SpellsPath path xs → SpellsTarget when_.Always path xs
  first : {path : Path} {xs : List Token} (x opening : Token) → IsWord word.Initial x → IsSign sign.Open opening
      → SpellsPath path xs → (closing : Token) → IsSign sign.Close closing → SpellsTarget when_.First path (x ∷ opening ∷ (xs ++ closing ∷ []))
  following : {path : Path} {xs : List Token} (x opening : Token) → IsWord word.Next x → IsSign sign.Open opening
      → SpellsPath path xs → (closing : Token) → IsSign sign.Close closing → SpellsTarget when_.Following path (x ∷ opening ∷ (xs ++ closing ∷ []))

-- assignments, each with its semicolon
pub data SpellsAssignments : List PlainAssignment → List Token → Type 0 where
  no_assignments : SpellsAssignments [] []
  assignment_then : {w : When} {path : Path} {t : Tree} {rest : List PlainAssignment} {xs ys zs : List Token}
      → SpellsTarget w path xs → (assign : Token) → IsSign sign.Assign assign → Spells all_levels t ys → (semicolon : Token) → IsSign sign.Semicolon semicolon
      → SpellsAssignments rest zs
      → SpellsAssignments (record { when = w; target = path; body = t } ∷ rest) (xs ++ assign ∷ (ys ++ semicolon ∷ zs))

-- a semicolon, or nothing
pub data IsOptional : List Token → Type 0 where
  left_out : IsOptional []
  semicolon : (x : Token) → IsSign sign.Semicolon x → IsOptional (x ∷ [])

-- the name of an invariant, or nothing
pub data SpellsLabel : Option (List ℕ) → List Token → Type 0 where
  no_label : SpellsLabel None []
  label : {n : List ℕ} (x identifier assign : Token)
      → IsWord word.Name x → identifier.kind ≡ kind.Ident n → IsSign sign.Assign assign → SpellsLabel (Some n) (x ∷ identifier ∷ assign ∷ [])

-- the word that begins a section of variables
abbrev pub section_word : VarKind → Reserved
section_word var_kind.State = word.Var
section_word var_kind.Input = word.Ivar
section_word var_kind.Frozen = word.Frozenvar

-- a section of a module's body
pub data SpellsElement : PlainElement → List Token → Type 0 where
  variables : {k : VarKind} {is : List PlainItem} {xs : List Token} (x : Token)
      → IsWord (section_word k) x → SpellsItems k is xs → SpellsElement (vars k is) (x ∷ xs)
  definitions : {ds : List PlainDefinition} {xs : List Token} (x : Token)
      → IsWord word.Define x → SpellsDefinitions ds xs → SpellsElement (defines ds) (x ∷ xs)
  symbol_names : {n : List ℕ} {ns : List (List ℕ)} {xs : List Token} (x first : Token)
      → IsWord word.Constants x → first.kind ≡ kind.Ident n → SpellsNames ns xs → (semicolon : Token) → IsSign sign.Semicolon semicolon
      → SpellsElement (constants (n ∷ ns)) (x ∷ first ∷ (xs ++ semicolon ∷ []))
  assignments : {rest : List PlainAssignment} {xs : List Token} (x : Token)
      → IsWord word.Assign x → SpellsAssignments rest xs → SpellsElement (assigns rest) (x ∷ xs)
  inits : {t : Tree} {xs ys : List Token} (x : Token)
      → IsWord word.Init x → Spells all_levels t xs → IsOptional ys → SpellsElement (init t) (x ∷ (xs ++ ys))
  transitions : {t : Tree} {xs ys : List Token} (x : Token)
      → IsWord word.Trans x → Spells all_levels t xs → IsOptional ys → SpellsElement (trans t) (x ∷ (xs ++ ys))
  invariants : {t : Tree} {xs ys : List Token} (x : Token)
      → IsWord word.Invar x → Spells all_levels t xs → IsOptional ys → SpellsElement (invar t) (x ∷ (xs ++ ys))
  specifications : {o : Option (List ℕ)} {t : Tree} {ns xs ys : List Token} (x : Token)
      → IsWord word.Invarspec x → SpellsLabel o ns → Spells all_levels t xs → IsOptional ys
      → SpellsElement (spec o t) (x ∷ (ns ++ (xs ++ ys)))

pub data SpellsElements : List PlainElement → List Token → Type 0 where
  no_elements : SpellsElements [] []
  element_then : {e : PlainElement} {es : List PlainElement} {xs ys : List Token}
      → SpellsElement e xs → SpellsElements es ys → SpellsElements (e ∷ es) (xs ++ ys)

-- modules, each with the number of its body's tokens (manual, 2.3)
pub data SpellsModules : List PlainModule → List Token → Type 0 where
  no_modules : SpellsModules [] []
  module_then : {n : List ℕ} {ps : List Parameter} {es : List PlainElement} {ms : List PlainModule} {xs ys zs : List Token} (x identifier : Token)
      → IsWord word.Module x → identifier.kind ≡ kind.Ident n → SpellsFormals ps xs → SpellsElements es ys → SpellsModules ms zs
      → SpellsModules (record { name = n; place = identifier.place; parameters = ps; elements = es; tokens = length ys } ∷ ms) (x ∷ identifier ∷ (xs ++ (ys ++ zs)))

-- the tokens of a text with this end spell the model
abbrev pub SpellsSource : PlainSource → Place → List Token → Type 0
SpellsSource source end xs = SpellsModules source.modules xs × (source.end ≡ end)

-- The tokens begin no spelling.
abbrev pub BeginsNone : List Token → Type 0
BeginsNone xs = (ms : List PlainModule) (ys : List Token) → SpellsModules ms (xs ++ ys) → ⊥

-- The dead token of these is at i: the least such that no spelling begins with the tokens up to it. Where they only end too
-- early, it is their end.
pub record IsDeadAt (xs : List Token) (i : ℕ) : Type 0 where
  pub within : i ≤ length xs
  pub blocked : i < length xs → BeginsNone (take (suc i) xs)
  pub unspelled : (ms : List PlainModule) → SpellsModules ms xs → ⊥
  pub begins : (ms : List PlainModule) × (ys : List Token) × SpellsModules ms (take i xs ++ ys)
