-- What is kept of an expression, and the heights of chains and branches that grow.
use Rattle.std.proofs.Common.{◌≡◌, ℕ, suc, ◌+◌, ◌≤◌, max, Bool, true, false, if◌then◌else◌, leb, List, [], ◌∷◌, ◌++◌, map, length, refl, ap, ◌∙◌, arith}
use Rattle.std.proofs.lemmas.Bool.{leb-true, leb-false}
use Rattle.text_core.specs.declared.place.Place.{Place}
use Rattle.smv_text.specs.declared.operators.Infix.{Infix}
use Rattle.smv_text.specs.Tree.{Tree, truth, links_of, branches_of, trees_of}
use Rattle.smv_text.specs.Heights.{height, highest, folded, folded_right, chain_height, branches_height, is_joined, is_implied, link_heights, branch_heights, heights, place_of}
use Rattle.smv_grammar.specs.Kept.{Read, cap, capped, keep_at}
use Rattle.smv_expressions.specs.Gathered.{low, low_link, low_branch, highest_branch, highest_link, highest_before, last_height}

-- what is kept of a tree
kept_height : (b : Bool) (t u : Tree) (n : ℕ) → leb n 380 ≡ b → (let r : Read = if b then record { tree = t; height = n } else record { tree = u; height = 381 } in r.height) ≡ capped n
kept_height true t u n e = let h = leb-true n 380 e in omega arith
kept_height false t u n e = let h = leb-false n 380 e in omega arith

pub cap_height : (t : Tree) → (cap t).height ≡ capped (height t)
cap_height t = kept_height (leb (height t) 380) t (truth (place_of t) true) (height t) refl

kept_low : (b : Bool) (t u : Tree) (n : ℕ) → leb n 380 ≡ b → n ≤ 380 → (let r : Read = if b then record { tree = t; height = n } else record { tree = u; height = 381 } in r.tree) ≡ t
kept_low true t u n e h = refl
kept_low false t u n e h = let g = leb-false n 380 e in absurd (omega arith)

pub low_is : (t : Tree) → height t ≤ 380 → low t ≡ t
low_is t h = kept_low (leb (height t) 380) t (truth (place_of t) true) (height t) refl h

-- what is kept of an expression, by what is kept of its parts
pub keeps : (t u : Tree) (p : Place) (n : ℕ) → p ≡ place_of t → n ≡ capped (height t) → (height t ≤ 380 → u ≡ t) → keep_at p u n ≡ cap t
keeps t u p n at is same = go (leb (height t) 380) refl (leb n 380) refl
  where
    go : (a : Bool) → leb (height t) 380 ≡ a → (b : Bool) → leb n 380 ≡ b
        → (if b then record { tree = u; height = n } else record { tree = truth p true; height = 381 })
        ≡ (let r : Read = if a then record { tree = t; height = height t } else record { tree = truth (place_of t) true; height = 381 } in r)
    go true a true b =
        let h = leb-true (height t) 380 a in let e = same h in let f : n ≡ height t = omega arith in ap (λ v. record { tree = v; height = n }) e ∙ ap (λ m. record { tree = t; height = m }) f
    go true a false b = let h = leb-true (height t) 380 a in let g = leb-false n 380 b in absurd (omega arith)
    go false a true b = let h = leb-false (height t) 380 a in let g = leb-true n 380 b in absurd (omega arith)
    go false a false b = ap (λ q. record { tree = truth q true; height = 381 }) at

-- a chain that grows
pub highest_link-push : (n : ℕ) (ls : List (Infix × ℕ)) (l : Infix × ℕ) → highest_link n (ls ++ l ∷ []) ≡ max (highest_link n ls) l.1
highest_link-push n [] l = omega arith
highest_link-push n (x ∷ ls) l = let ih = highest_link-push x.1 ls l in omega arith

pub folded-push : (n : ℕ) (ls : List (Infix × ℕ)) (l : Infix × ℕ) → folded n (ls ++ l ∷ []) ≡ suc (max (folded n ls) l.1)
folded-push n [] l = refl
folded-push n (x ∷ ls) l = folded-push (suc (max n x.1)) ls l

pub last_height-push : (n : ℕ) (ls : List (Infix × ℕ)) (l : Infix × ℕ) → last_height n (ls ++ l ∷ []) ≡ l.1
last_height-push n [] l = refl
last_height-push n (x ∷ ls) l = last_height-push x.1 ls l

pub highest_before-push : (d n : ℕ) (ls : List (Infix × ℕ)) (l : Infix × ℕ)
    → highest_before d n (ls ++ l ∷ []) ≡ max (highest_before d n ls) (suc (d + length ls) + last_height n ls)
highest_before-push d n [] l = omega arith
highest_before-push d n (x ∷ ls) l = let ih = highest_before-push (suc d) x.1 ls l in omega arith

folded_right_is : (d n : ℕ) (ls : List (Infix × ℕ)) → d + folded_right n ls ≡ max (highest_before d n ls) (d + length ls + last_height n ls)
folded_right_is d n [] = omega arith
folded_right_is d n (x ∷ ls) = let ih = folded_right_is (suc d) x.1 ls in omega arith

pub folded_right-before : (n : ℕ) (ls : List (Infix × ℕ)) → folded_right n ls ≡ max (highest_before 0 n ls) (length ls + last_height n ls)
folded_right-before n ls = let h = folded_right_is 0 n ls in omega arith

pub length-push : {A : Type 0} (ls : List A) (l : A) → length (ls ++ l ∷ []) ≡ suc (length ls)
length-push [] l = refl
length-push (x ∷ ls) l = ap suc (length-push ls l)

pub none_so_far : {A : Type 0} (ls : List A) → length ls ≡ 0 → ls ≡ []
none_so_far [] e = refl
none_so_far (x ∷ ls) e = absurd (omega arith)

-- a chain is at least as high as its parts
folded-least : (n : ℕ) (ls : List (Infix × ℕ)) → n ≤ folded n ls
folded-least n [] = omega arith
folded-least n (x ∷ ls) = let ih = folded-least (suc (max n x.1)) ls in omega arith

folded_right-least : (n : ℕ) (ls : List (Infix × ℕ)) → n ≤ folded_right n ls
folded_right-least n [] = omega arith
folded_right-least n (x ∷ ls) = omega arith

-- all parts are within a bound
abbrev pub Within : ℕ → List (Infix × ℕ) → Type 0
Within m [] = Unit {0}
Within m (l ∷ ls) = (l.1 ≤ m) × Within m ls

highest_link-within : (m n : ℕ) (ls : List (Infix × ℕ)) → highest_link n ls ≤ m → Within m ls
highest_link-within m n [] h = tt
highest_link-within m n (x ∷ ls) h = (omega arith, highest_link-within m x.1 ls (omega arith))

folded-within : (m n : ℕ) (ls : List (Infix × ℕ)) → folded n ls ≤ m → Within m ls
folded-within m n [] h = tt
folded-within m n (x ∷ ls) h = (let g = folded-least (suc (max n x.1)) ls in omega arith, folded-within m (suc (max n x.1)) ls h)

folded_right-within : (m n : ℕ) (ls : List (Infix × ℕ)) → folded_right n ls ≤ m → Within m ls
folded_right-within m n [] h = tt
folded_right-within m n (x ∷ ls) h = (let g = folded_right-least x.1 ls in omega arith, folded_right-within m x.1 ls (omega arith))

pub chain-within : (m n : ℕ) (ls : List (Infix × ℕ)) → chain_height n ls ≤ m → (n ≤ m) × Within m ls
chain-within m n ls h = go (is_joined ls) (is_implied ls) h
  where
    go : (a b : Bool) → (if a then suc (highest_link n ls) else (if b then folded_right n ls else folded n ls)) ≤ m → (n ≤ m) × Within m ls
    go true b h = (omega arith, highest_link-within m n ls (omega arith))
    go false true h = (let g = folded_right-least n ls in omega arith, folded_right-within m n ls h)
    go false false h = (let g = folded-least n ls in omega arith, folded-within m n ls h)

pub low_links : (ls : List (Infix × Tree)) → Within 380 (link_heights (links_of ls)) → map low_link ls ≡ ls
low_links [] h = refl
low_links (l ∷ ls) h = ap (λ t. (l.0, t) ∷ map low_link ls) (low_is l.1 h.0) ∙ ap (λ rest. l ∷ rest) (low_links ls h.1)

pub link_heights-push : (ls : List (Infix × Tree)) (op : Infix) (t : Tree)
    → link_heights (links_of (ls ++ (op, t) ∷ [])) ≡ link_heights (links_of ls) ++ (op, height t) ∷ []
link_heights-push [] op t = refl
link_heights-push (l ∷ ls) op t = ap (λ rest. (l.0, height l.1) ∷ rest) (link_heights-push ls op t)

-- branches that grow
pub highest_branch-push : (d : ℕ) (bs : List (Tree × Tree)) (b : Tree × Tree)
    → highest_branch d (bs ++ b ∷ []) ≡ max (highest_branch d bs) (suc (d + length bs) + max (height b.0) (height b.1))
highest_branch-push d [] b = omega arith
highest_branch-push d (x ∷ bs) b = let ih = highest_branch-push (suc d) bs b in omega arith

branches_height_is : (d n : ℕ) (bs : List (Tree × Tree)) → d + branches_height (branch_heights (branches_of bs)) n ≡ max (highest_branch d bs) (d + length bs + n)
branches_height_is d n [] = omega arith
branches_height_is d n (x ∷ bs) = let ih = branches_height_is (suc d) n bs in omega arith

pub branches_height-highest : (n : ℕ) (bs : List (Tree × Tree)) → branches_height (branch_heights (branches_of bs)) n ≡ max (highest_branch 0 bs) (length bs + n)
branches_height-highest n bs = let h = branches_height_is 0 n bs in omega arith

pub low_branches : (d : ℕ) (bs : List (Tree × Tree)) → highest_branch d bs ≤ 380 → map low_branch bs ≡ bs
low_branches d [] h = refl
low_branches d (b ∷ bs) h =
    ap (λ t. (t, low b.1) ∷ map low_branch bs) (low_is b.0 (omega arith)) ∙ ap (λ t. (b.0, t) ∷ map low_branch bs) (low_is b.1 (omega arith))
    ∙ ap (λ rest. b ∷ rest) (low_branches (suc d) bs (omega arith))

-- lists that grow
pub highest-push : (ns : List ℕ) (n : ℕ) → highest (ns ++ n ∷ []) ≡ max (highest ns) n
highest-push [] n = omega arith
highest-push (x ∷ ns) n = let ih = highest-push ns n in omega arith

pub heights-map : (ts : List Tree) → heights (trees_of ts) ≡ map height ts
heights-map [] = refl
heights-map (t ∷ ts) = ap (λ ns. height t ∷ ns) (heights-map ts)

pub low_trees : (ts : List Tree) → highest (map height ts) ≤ 380 → map low ts ≡ ts
low_trees [] h = refl
low_trees (t ∷ ts) h = ap (λ u. u ∷ map low ts) (low_is t (omega arith)) ∙ ap (λ us. t ∷ us) (low_trees ts (omega arith))
