-- Which tokens spell which expression, by the levels of the grammar (NuSMV 2.6 User Manual, 2.2). Round brackets may appear at
-- any level and leave no trace in the tree. The place of an expression is that of its first token.
use Rattle.std.specs.Prelude.{◌≡◌, ℕ, ℤ, pos, ◌-ℤ◌, suc, true, false, Some, List, [], ◌∷◌, ◌++◌}
use Rattle.text_core.specs.declared.place.Place.{Place}
use Rattle.word_core.specs.Words.{BitVector}
use Rattle.smv_text.specs.declared.token.Reserved.TheVariants as word
use Rattle.smv_text.specs.declared.token.Sign.{Sign}
use Rattle.smv_text.specs.declared.token.Sign.TheVariants as sign
use Rattle.smv_text.specs.declared.token.Token.{Token}
use Rattle.smv_text.specs.declared.token.TokenKind.TheVariants as kind
use Rattle.smv_text.specs.declared.tree.Path.{Path}
use Rattle.smv_text.specs.declared.operators.Prefix.{Prefix}
use Rattle.smv_text.specs.declared.operators.Infix.{Infix}
use Rattle.smv_text.specs.declared.operators.Function.{Function}
use Rattle.smv_text.specs.declared.level.OperatorClass.{OperatorClass}
use Rattle.smv_text.specs.declared.level.Level.{Level}
use Rattle.smv_text.specs.declared.level.Level.TheVariants.{Chain, Choice, Range, Before, Selection}
use Rattle.smv_text.specs.Levels.{all_levels, infix_of, prefix_kind, function_at}
use Rattle.smv_text.specs.Tree.{Tree, truth, number, literal, name, prefix, chain, choice, cases, select, call, next, set, range, Links, no_links, link, Branches, no_branches, branch, Trees, no_trees, tree}

-- the place of the first token; a text's first byte where there is none
abbrev pub start : List Token → Place
start [] = record { line = 1; column = 1; offset = 0 }
start (t ∷ ts) = t.place

-- a token of this sign
abbrev pub IsSign : Sign → Token → Type 0
IsSign s x = x.kind ≡ kind.Sign s

-- so many prefix signs and nothing else
pub data Signs (pre : Prefix) : ℕ → List Token → Type 0 where
  no_signs : Signs pre 0 []
  sign_then : {n : ℕ} {xs : List Token} (x : Token) → x.kind ≡ prefix_kind pre → Signs pre n xs → Signs pre (suc n) (x ∷ xs)

-- a decimal number, with or without a minus
pub data SpellsInteger : ℤ → List Token → Type 0 where
  unsigned : {n : ℕ} (x : Token) → x.kind ≡ kind.Number n → SpellsInteger (pos n) (x ∷ [])
  negative : {n : ℕ} (minus x : Token) → IsSign sign.Minus minus → x.kind ≡ kind.Number n → SpellsInteger (pos 0 -ℤ pos n) (minus ∷ x ∷ [])

-- further names of a path, each behind a dot
pub data SpellsSteps : List (List ℕ) → List Token → Type 0 where
  no_steps : SpellsSteps [] []
  step : {n : List ℕ} {ns : List (List ℕ)} {xs : List Token} (dot x : Token)
      → IsSign sign.Dot dot → x.kind ≡ kind.Ident n → SpellsSteps ns xs → SpellsSteps (n ∷ ns) (dot ∷ x ∷ xs)

-- a path: `self` or an identifier, and the names that it steps into (manual, 2.3)
pub data SpellsPath : Path → List Token → Type 0 where
  from_name : {n : List ℕ} {ns : List (List ℕ)} {xs : List Token} (x : Token)
      → x.kind ≡ kind.Ident n → SpellsSteps ns xs → SpellsPath (record { from_self = false; names = n ∷ ns; place = x.place }) (x ∷ xs)
  from_itself : {ns : List (List ℕ)} {xs : List Token} (x : Token)
      → x.kind ≡ kind.Reserved word.Itself → SpellsSteps ns xs → SpellsPath (record { from_self = true; names = ns; place = x.place }) (x ∷ xs)

mutual
  -- The tokens spell the tree at the first of these levels. Below all levels stand names, constants, functions, cases, sets and
  -- brackets.
  pub data Spells : List Level → Tree → List Token → Type 0 where
    pass : {level : Level} {below : List Level} {t : Tree} {xs : List Token} → Spells below t xs → Spells (level ∷ below) t xs
    -- operands of one level and the operators between them; an operand is of the levels below, or in brackets
    chains : {j : OperatorClass} {below : List Level} {t u : Tree} {op : Infix} {links : Links} {xs ys : List Token}
        → Spells below t xs → SpellsLinks j below (link op u links) ys
        → Spells (Chain j ∷ below) (chain (start xs) t (link op u links)) (xs ++ ys)
    -- conditions with their values, and what is behind the last colon, each of the levels below, or in brackets
    chooses : {below : List Level} {w v t : Tree} {bs : Branches} {xs : List Token}
        → SpellsBranches below (branch w v bs) t xs → Spells (Choice ∷ below) (choice (start xs) (branch w v bs) t) xs
    ranges : {below : List Level} {low high : ℤ} {xs ys : List Token}
        → SpellsInteger low xs → (dots : Token) → IsSign sign.Range dots → SpellsInteger high ys
        → Spells (Range ∷ below) (range (start xs) low high) (xs ++ dots ∷ ys)
    prefixes : {pre : Prefix} {below : List Level} {n : ℕ} {t : Tree} {xs ys : List Token}
        → Signs pre (suc n) xs → Spells below t ys → Spells (Before pre ∷ below) (prefix (start xs) pre (suc n) t) (xs ++ ys)
    selects : {below : List Level} {t : Tree} {high low : ℕ} {xs : List Token}
        → Spells (Selection ∷ below) t xs → (opening first colon last closing : Token)
        → IsSign sign.OpenBracket opening → first.kind ≡ kind.Number high → IsSign sign.Colon colon → last.kind ≡ kind.Number low → IsSign sign.CloseBracket closing
        → Spells (Selection ∷ below) (select (start xs) t high low) (xs ++ opening ∷ first ∷ colon ∷ last ∷ closing ∷ [])
    is_true : (x : Token) → x.kind ≡ kind.Reserved word.True → Spells [] (truth x.place true) (x ∷ [])
    is_false : (x : Token) → x.kind ≡ kind.Reserved word.False → Spells [] (truth x.place false) (x ∷ [])
    numbers : {n : ℕ} (x : Token) → x.kind ≡ kind.Number n → Spells [] (number x.place n) (x ∷ [])
    literals : {w : BitVector} (x : Token) → x.kind ≡ kind.Literal w → Spells [] (literal x.place w) (x ∷ [])
    names : {path : Path} {xs : List Token} → SpellsPath path xs → Spells [] (name (start xs) path) xs
    brackets : {t : Tree} {xs : List Token}
        → (opening : Token) → IsSign sign.Open opening → Spells all_levels t xs → (closing : Token) → IsSign sign.Close closing
        → Spells [] t (opening ∷ (xs ++ closing ∷ []))
    nexts : {t : Tree} {xs : List Token}
        → (x : Token) → x.kind ≡ kind.Reserved word.Next → (opening : Token) → IsSign sign.Open opening
        → Spells all_levels t xs → (closing : Token) → IsSign sign.Close closing
        → Spells [] (next x.place t) (x ∷ opening ∷ (xs ++ closing ∷ []))
    calls : {f : Function} {ts : Trees} {xs : List Token}
        → (x : Token) → function_at x.kind ≡ Some f → (opening : Token) → IsSign sign.Open opening → SpellsListed sign.Close ts xs
        → Spells [] (call x.place f ts) (x ∷ opening ∷ xs)
    sets : {ts : Trees} {xs : List Token}
        → (opening : Token) → IsSign sign.OpenBrace opening → SpellsListed sign.CloseBrace ts xs
        → Spells [] (set opening.place ts) (opening ∷ xs)
    switches : {bs : Branches} {xs : List Token}
        → (x : Token) → x.kind ≡ kind.Reserved word.Case → SpellsCases bs xs → Spells [] (cases x.place bs) (x ∷ xs)

  -- further operands, each behind its operator
  pub data SpellsLinks : OperatorClass → List Level → Links → List Token → Type 0 where
    no_more : {j : OperatorClass} {below : List Level} → SpellsLinks j below no_links []
    one_more : {j : OperatorClass} {below : List Level} {op : Infix} {t : Tree} {links : Links} {xs ys : List Token}
        → (x : Token) → infix_of j x.kind ≡ Some op → Spells below t xs → SpellsLinks j below links ys
        → SpellsLinks j below (link op t links) (x ∷ (xs ++ ys))

  -- conditions with their values, and what counts where none is true
  pub data SpellsBranches : List Level → Branches → Tree → List Token → Type 0 where
    otherwise : {below : List Level} {t : Tree} {xs : List Token} → Spells below t xs → SpellsBranches below no_branches t xs
    picks : {below : List Level} {w v t : Tree} {bs : Branches} {xs ys zs : List Token}
        → Spells below w xs → (question : Token) → IsSign sign.Question question
        → Spells below v ys → (colon : Token) → IsSign sign.Colon colon → SpellsBranches below bs t zs
        → SpellsBranches below (branch w v bs) t (xs ++ question ∷ (ys ++ colon ∷ zs))

  -- one or more expressions with commas between them, and the sign that closes the list
  pub data SpellsListed : Sign → Trees → List Token → Type 0 where
    last_one : {s : Sign} {t : Tree} {xs : List Token}
        → Spells all_levels t xs → (closing : Token) → IsSign s closing → SpellsListed s (tree t no_trees) (xs ++ closing ∷ [])
    one_before : {s : Sign} {t u : Tree} {ts : Trees} {xs ys : List Token}
        → Spells all_levels t xs → (comma : Token) → IsSign sign.Comma comma → SpellsListed s (tree u ts) ys
        → SpellsListed s (tree t (tree u ts)) (xs ++ comma ∷ ys)

  -- one or more conditions with their values, and the word that closes the cases
  pub data SpellsCases : Branches → List Token → Type 0 where
    last_case : {w v : Tree} {xs ys : List Token}
        → Spells all_levels w xs → (colon : Token) → IsSign sign.Colon colon
        → Spells all_levels v ys → (semicolon : Token) → IsSign sign.Semicolon semicolon → (esac : Token) → esac.kind ≡ kind.Reserved word.Esac
        → SpellsCases (branch w v no_branches) (xs ++ colon ∷ (ys ++ semicolon ∷ esac ∷ []))
    case_before : {w v a b : Tree} {bs : Branches} {xs ys zs : List Token}
        → Spells all_levels w xs → (colon : Token) → IsSign sign.Colon colon
        → Spells all_levels v ys → (semicolon : Token) → IsSign sign.Semicolon semicolon → SpellsCases (branch a b bs) zs
        → SpellsCases (branch w v (branch a b bs)) (xs ++ colon ∷ (ys ++ semicolon ∷ zs))
