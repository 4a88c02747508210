-- Of each spelled expression: no fewer tokens spell it than its least number of them, and its term is bounded by that and its height.
use Rattle.std.proofs.Common.{◌≡◌, ℕ, suc, ◌+◌, ◌≤◌, Bool, true, ℤ, Option, List, [], ◌∷◌, ◌++◌, length, length-append, refl, arith}
use Rattle.text_core.specs.declared.place.Place.{Place}
use Rattle.smv_text.specs.declared.token.Token.{Token}
use Rattle.smv_text.specs.declared.token.Sign.{Sign}
use Rattle.smv_text.specs.declared.tree.Path.{Path}
use Rattle.smv_text.specs.declared.operators.Prefix.{Prefix}
use Rattle.smv_text.specs.declared.operators.Function.{Function}
use Rattle.smv_text.specs.declared.level.OperatorClass.{OperatorClass}
use Rattle.smv_text.specs.declared.level.Level.{Level}
use Rattle.smv_text.specs.laws.Operators.{class_is}
use Rattle.smv_text.specs.Tree.{Tree as Expression, truth, prefix, choice, cases, select, call, next, set, range, Links, Branches, no_branches, branch, Trees as Expressions}
use Rattle.smv_text.specs.Heights.{height, heights, highest}
use Rattle.smv_text.specs.Grammar.{start, SpellsInteger, unsigned, negative, Signs, no_signs, sign_then, SpellsPath, from_name, from_itself, Spells, pass, chains, chooses, ranges, prefixes, selects, is_true, is_false, numbers, literals, names, brackets, nexts, calls, sets, switches, SpellsLinks, no_more, one_more, SpellsBranches, otherwise, picks, SpellsListed, last_one, one_before, SpellsCases, last_case, case_before}
use Rattle.smv_meaning.specs.Types.{ExprType}
use Rattle.smv_meaning.specs.Checks.{single, under_next}
use Rattle.smv_items.specs.FlatItems.{Leaf, of_item, of_symbol, of_nothing}
use Rattle.smv_flat.specs.FlatTree.{leaf_tree, flat_tree, flat_trees}
use Rattle.smv_script.specs.Terms.{is_word, word_width, arguments_of, Coding, translation, members}
use Rattle.smv_script_laws.proofs.Measures.{fewest, fewest_links, fewest_branches, fewest_parts, Fits, within_more, inside_more, fits_more}
use Rattle.smv_script_laws.proofs.SizedRows.{constant_leaf, variable_leaf, leaf_within, between_inside, any_inside, signed_within, selected_within, function_within}
use Rattle.smv_script_laws.proofs.Chains.{Sized, LinksSized, none_linked, one_linked, BranchesSized, none_branched, one_branched, PartsSized, none_listed, one_listed, value_fits, set_fits, chain_sized, chosen_fits, taken_fits, parts_within, members_together}

-- ---- nodes

truth_sized : (p : Place) (b : Bool) → Sized (truth p b)
truth_sized p b c known leaf at under = value_fits {n = 1} {h = 1} _ (λ k. leaf_within 0 0 _ (constant_leaf _))

leaf_fits : (c : Coding) (t : Option ExprType) (under : Bool) (l : Leaf) → Fits 1 1 (translation c (leaf_tree t under l))
leaf_fits c t under (of_item k) = value_fits {n = 1} {h = 1} _ (λ j. leaf_within 0 0 _ (variable_leaf _ _))
leaf_fits c t under (of_symbol s) = value_fits {n = 1} {h = 1} _ (λ j. leaf_within 0 0 _ (constant_leaf _))
leaf_fits c t under of_nothing = value_fits {n = 1} {h = 1} _ (λ j. leaf_within 0 0 _ (constant_leaf _))

prefix_sized : (p : Place) (sign : Prefix) (n : ℕ) (e : Expression) → Sized e → Sized (prefix p sign n e)
prefix_sized p sign n e s c known leaf at under =
    value_fits {n = n + fewest e} {h = n + height e} _ (λ k. signed_within sign (is_word (flat_tree known leaf (single at) under e)) n _ ((s c known leaf (single at) under).term k))

select_sized : (p : Place) (e : Expression) (high low : ℕ) → Sized e → Sized (select p e high low)
select_sized p e high low s c known leaf at under =
    value_fits {n = 5 + fewest e} {h = suc (height e)} _ (λ k.
    within_more _ (selected_within (word_width (flat_tree known leaf (single at) under e)) high low _ ((s c known leaf (single at) under).term k)) (omega arith) (omega arith))

call_sized : (p : Place) (f : Function) (es : Expressions) → PartsSized es → Sized (call p f es)
call_sized p f es s c known leaf at under =
    value_fits {n = 2 + fewest_parts es} {h = suc (highest (heights es))} _ (λ k.
    function_within c.width k f (arguments_of (flat_trees known leaf (single at) under es)) (parts_within s c known leaf (single at) under k))

set_sized : (p : Place) (es : Expressions) → PartsSized es → Sized (set p es)
set_sized p es s c known leaf at under =
    set_fits {n = 1 + fewest_parts es} {h = suc (highest (heights es))} _ (omega arith) (omega arith) (λ k x l.
    inside_more _ (any_inside (members c k x (flat_trees known leaf at under es)) (members_together s c known leaf at under k x l)) (omega arith) (omega arith))

range_sized : (p : Place) (low high : ℤ) → Sized (range p low high)
range_sized p low high c known leaf at under = set_fits {n = 3} {h = 1} _ (omega arith) (omega arith) (λ k x l. between_inside c.width low high x l)

choice_sized : (p : Place) (bs : Branches) (e : Expression) → BranchesSized bs → Sized e → Sized (choice p bs e)
choice_sized p bs e s v c known leaf at under = chosen_fits s c known leaf at under _ (v c known leaf at under)

cases_sized : (p : Place) (q e : Expression) (bs : Branches) → BranchesSized (branch q e bs) → Sized (cases p (branch q e bs))
cases_sized p q e bs (one_branched u v rest) c known leaf at under = fits_more _ (taken_fits q e bs u v rest c known leaf at under) (omega arith) (omega arith)

-- there is a case
abbrev HasCase : Branches → Type 0
HasCase no_branches = ⊥
HasCase (branch q e bs) = Unit {0}

cases_of : (p : Place) (bs : Branches) → HasCase bs → BranchesSized bs → Sized (cases p bs)
cases_of p no_branches h s = absurd h
cases_of p (branch q e bs) h s = cases_sized p q e bs s

some_case : {bs : Branches} {xs : List Token} → SpellsCases bs xs → HasCase bs
some_case (last_case a colon b c semicolon d esac e) = tt
some_case (case_before a colon b c semicolon d rest) = tt

next_sized : (p : Place) (e : Expression) → Sized e → Sized (next p e)
next_sized p e s c known leaf at under = fits_more _ (s c known leaf under_next true) (omega arith) (omega arith)

-- ---- tokens

signs_length : {pre : Prefix} {n : ℕ} {xs : List Token} → Signs pre n xs → length xs ≡ n
signs_length no_signs = refl
signs_length (sign_then x a rest) = let i = signs_length rest in omega (arith, i)

pub integer_length : {z : ℤ} {xs : List Token} → SpellsInteger z xs → 1 ≤ length xs
integer_length (unsigned x a) = omega arith
integer_length (negative minus x a b) = omega arith

pub path_length : {path : Path} {xs : List Token} → SpellsPath path xs → 1 ≤ length xs
path_length (from_name x a steps) = omega arith
path_length (from_itself x a steps) = omega arith

-- two pieces, and a piece with one token behind it
ends : (xs : List Token) (x : Token) → length (xs ++ x ∷ []) ≡ suc (length xs)
ends xs x = let i = length-append xs (x ∷ []) in omega (arith, i)

-- ---- spelled expressions

mutual
  pub spelled : {levels : List Level} {e : Expression} {xs : List Token} → Spells levels e xs → (fewest e ≤ length xs) × Sized e
  spelled (pass s) = spelled s
  spelled (chains {t = t} {xs = xs} {ys = ys} s ls) =
      let a = spelled s in
      let b = spelled_links ls in
      let l = length-append xs ys in
      (omega (arith, a.0, b.0, l), chain_sized (start xs) t a.1 b.1)
  spelled (chooses {xs = xs} bs) = let b = spelled_branches bs in (b.0, choice_sized (start xs) _ _ b.1.0 b.1.1)
  spelled (ranges {xs = xs} {ys = ys} a dots b c) =
      let l = length-append xs (dots ∷ ys) in
      let m = integer_length a in
      let n = integer_length c in
      (omega (arith, l, m, n), range_sized (start xs) _ _)
  spelled (prefixes {n = n} {xs = xs} {ys = ys} a s) =
      let r = spelled s in
      let l = length-append xs ys in
      let m = signs_length a in
      (omega (arith, l, m, r.0), prefix_sized (start xs) _ (suc n) _ r.1)
  spelled (selects {xs = xs} s opening first colon last closing a b c d e) =
      let r = spelled s in
      let l = length-append xs (opening ∷ first ∷ colon ∷ last ∷ closing ∷ []) in
      (omega (arith, l, r.0), select_sized (start xs) _ _ _ r.1)
  spelled (is_true x a) = (omega arith, truth_sized x.place _)
  spelled (is_false x a) = (omega arith, truth_sized x.place _)
  spelled (numbers x a) = (omega arith, λ c known leaf at under. value_fits {n = 1} {h = 1} _ (λ k. leaf_within 0 0 _ (constant_leaf _)))
  spelled (literals x a) = (omega arith, λ c known leaf at under. value_fits {n = 1} {h = 1} _ (λ k. leaf_within 0 0 _ (constant_leaf _)))
  spelled (names {path = path} a) = (path_length a, λ c known leaf at under. leaf_fits c _ under (leaf path))
  spelled (brackets {xs = xs} opening a s closing b) =
      let r = spelled s in
      let l = ends xs closing in
      (omega (arith, l, r.0), r.1)
  spelled (nexts {xs = xs} x a opening b s closing c) =
      let r = spelled s in
      let l = ends xs closing in
      (omega (arith, l, r.0), next_sized x.place _ r.1)
  spelled (calls x a opening b l) = let r = spelled_parts l in (omega (arith, r.0), call_sized x.place _ _ r.1)
  spelled (sets opening a l) = let r = spelled_parts l in (omega (arith, r.0), set_sized opening.place _ r.1)
  spelled (switches x a c) = let r = spelled_cases c in (omega (arith, r.0), cases_of x.place _ (some_case c) r.1)

  spelled_links : {j : OperatorClass} {below : List Level} {ls : Links} {xs : List Token} → SpellsLinks j below ls xs → (fewest_links ls ≤ length xs) × LinksSized j ls
  spelled_links no_more = (omega arith, none_linked)
  spelled_links (one_more {j = j} {op = op} {xs = xs} {ys = ys} x a s ls) =
      let r = spelled s in
      let b = spelled_links ls in
      let l = length-append xs ys in
      (omega (arith, l, r.0, b.0), one_linked (class_is j x.kind op a) r.1 b.1)

  spelled_branches : {below : List Level} {bs : Branches} {e : Expression} {xs : List Token} → SpellsBranches below bs e xs
      → (fewest_branches bs + fewest e ≤ length xs) × (BranchesSized bs × Sized e)
  spelled_branches (otherwise s) = let r = spelled s in (omega (arith, r.0), (none_branched, r.1))
  spelled_branches (picks {xs = xs} {ys = ys} {zs = zs} a question b c colon d rest) =
      let q = spelled a in
      let e = spelled c in
      let r = spelled_branches rest in
      let l = length-append xs (question ∷ (ys ++ colon ∷ zs)) in
      let m = length-append ys (colon ∷ zs) in
      (omega (arith, l, m, q.0, e.0, r.0), (one_branched q.1 e.1 r.1.0, r.1.1))

  pub spelled_parts : {s : Sign} {es : Expressions} {xs : List Token} → SpellsListed s es xs → (fewest_parts es ≤ length xs) × PartsSized es
  spelled_parts (last_one {xs = xs} s closing a) =
      let r = spelled s in
      let l = ends xs closing in
      (omega (arith, l, r.0), one_listed r.1 none_listed)
  spelled_parts (one_before {xs = xs} {ys = ys} s comma a rest) =
      let r = spelled s in
      let b = spelled_parts rest in
      let l = length-append xs (comma ∷ ys) in
      (omega (arith, l, r.0, b.0), one_listed r.1 b.1)

  spelled_cases : {bs : Branches} {xs : List Token} → SpellsCases bs xs → (1 + fewest_branches bs ≤ length xs) × BranchesSized bs
  spelled_cases (last_case {xs = xs} {ys = ys} a colon b c semicolon d esac e) =
      let q = spelled a in
      let v = spelled c in
      let l = length-append xs (colon ∷ (ys ++ semicolon ∷ esac ∷ [])) in
      let m = length-append ys (semicolon ∷ esac ∷ []) in
      (omega (arith, l, m, q.0, v.0), one_branched q.1 v.1 none_branched)
  spelled_cases (case_before {xs = xs} {ys = ys} {zs = zs} a colon b c semicolon d rest) =
      let q = spelled a in
      let v = spelled c in
      let r = spelled_cases rest in
      let l = length-append xs (colon ∷ (ys ++ semicolon ∷ zs)) in
      let m = length-append ys (semicolon ∷ zs) in
      (omega (arith, l, m, q.0, v.0, r.0), one_branched q.1 v.1 r.1)
