-- What an expression denotes, and its type, hang on its own paths alone.
use Rattle.std.proofs.Common.{◌≡◌, ◌+◌, ◌-◌, Bool, true, false, not, ◌||◌, if◌then◌else◌, List, [], ◌∷◌, ◌++◌, Option, option_map, refl, ap, ◌∙◌}
use mathlib.Core.Logic.{inl, inr}
use Rattle.text_core.specs.declared.place.Place.{Place}
use Rattle.smv_text.specs.declared.tree.Path.{Path}
use Rattle.smv_text.specs.Tree.{Tree, truth, number, literal, name, prefix, chain, choice, cases, select, call, next, set, range, Links, no_links, link, Branches, no_branches, branch, Trees, no_trees, tree}
use Rattle.smv_meaning.specs.declared.value.Value.{Value}
use Rattle.smv_meaning.specs.Values.{is_true}
use Rattle.smv_meaning.specs.Operators.{implied, signed, selected, called}
use Rattle.smv_meaning.specs.Expressions.{Denotation, alone, set_of, joined, is_from_right, is_last, denote, implications, linked as linked_values, chosen, taken, values_of, one_permits, paths_of, link_paths, branch_paths, tree_paths}
use Rattle.smv_meaning.specs.Types.{ExprType, word_type, is_word_type, in_limit, prefix_fits, prefix_type, is_select, function_fits, arguments_fit, function_type, numbers_of, are_same, hull_of, implies_fits, first_type}
use Rattle.smv_meaning.specs.Checks.{Check, check, Position, single, under_next, Named, Typing, node, on_type, all_types, on_all, front, across, behind, branches_fit, branches_type, typing, link_types, link_checks, linked, condition_types, value_types, branch_checks, tree_types, tree_checks}
use Rattle.smv_laws.proofs.Cycles.{In}

-- ---- what follows an expression's paths is among them

mutual
  pub more_paths : (e : Tree) (more : List Path) (q : Path) → In q more → In q (paths_of e more)
  more_paths (truth p b) more q h = h
  more_paths (number p n) more q h = h
  more_paths (literal p w) more q h = h
  more_paths (name p x) more q h = inr h
  more_paths (prefix p sign n e) more q h = more_paths e more q h
  more_paths (chain p e ls) more q h = more_paths e (link_paths ls more) q (more_links ls more q h)
  more_paths (choice p bs e) more q h = more_branches bs (paths_of e more) q (more_paths e more q h)
  more_paths (cases p bs) more q h = more_branches bs more q h
  more_paths (select p e high low) more q h = more_paths e more q h
  more_paths (call p f es) more q h = more_trees es more q h
  more_paths (next p e) more q h = more_paths e more q h
  more_paths (set p es) more q h = more_trees es more q h
  more_paths (range p low high) more q h = h

  pub more_links : (ls : Links) (more : List Path) (q : Path) → In q more → In q (link_paths ls more)
  more_links no_links more q h = h
  more_links (link op e ls) more q h = more_paths e (link_paths ls more) q (more_links ls more q h)

  pub more_branches : (bs : Branches) (more : List Path) (q : Path) → In q more → In q (branch_paths bs more)
  more_branches no_branches more q h = h
  more_branches (branch c e rest) more q h =
      more_paths c (paths_of e (branch_paths rest more)) q (more_paths e (branch_paths rest more) q (more_branches rest more q h))

  pub more_trees : (es : Trees) (more : List Path) (q : Path) → In q more → In q (tree_paths es more)
  more_trees no_trees more q h = h
  more_trees (tree e es) more q h = more_paths e (tree_paths es more) q (more_trees es more q h)

-- more may follow
abbrev Among : List Path → List Path → Type 0
Among xs ys = (q : Path) → In q xs → In q ys

cons_among : (x : Path) (xs ys : List Path) → Among xs ys → Among (x ∷ xs) (x ∷ ys)
cons_among x xs ys h q (inl s) = inl s
cons_among x xs ys h q (inr s) = inr (h q s)

mutual
  among_paths : (e : Tree) (xs ys : List Path) → Among xs ys → Among (paths_of e xs) (paths_of e ys)
  among_paths (truth p b) xs ys h = h
  among_paths (number p n) xs ys h = h
  among_paths (literal p w) xs ys h = h
  among_paths (name p x) xs ys h = cons_among x xs ys h
  among_paths (prefix p sign n e) xs ys h = among_paths e xs ys h
  among_paths (chain p e ls) xs ys h = among_paths e (link_paths ls xs) (link_paths ls ys) (among_links ls xs ys h)
  among_paths (choice p bs e) xs ys h = among_branches bs (paths_of e xs) (paths_of e ys) (among_paths e xs ys h)
  among_paths (cases p bs) xs ys h = among_branches bs xs ys h
  among_paths (select p e high low) xs ys h = among_paths e xs ys h
  among_paths (call p f es) xs ys h = among_trees es xs ys h
  among_paths (next p e) xs ys h = among_paths e xs ys h
  among_paths (set p es) xs ys h = among_trees es xs ys h
  among_paths (range p low high) xs ys h = h

  among_links : (ls : Links) (xs ys : List Path) → Among xs ys → Among (link_paths ls xs) (link_paths ls ys)
  among_links no_links xs ys h = h
  among_links (link op e ls) xs ys h = among_paths e (link_paths ls xs) (link_paths ls ys) (among_links ls xs ys h)

  among_branches : (bs : Branches) (xs ys : List Path) → Among xs ys → Among (branch_paths bs xs) (branch_paths bs ys)
  among_branches no_branches xs ys h = h
  among_branches (branch c e rest) xs ys h =
      among_paths c (paths_of e (branch_paths rest xs)) (paths_of e (branch_paths rest ys)) (among_paths e (branch_paths rest xs) (branch_paths rest ys) (among_branches rest xs ys h))

  among_trees : (es : Trees) (xs ys : List Path) → Among xs ys → Among (tree_paths es xs) (tree_paths es ys)
  among_trees no_trees xs ys h = h
  among_trees (tree e es) xs ys h = among_paths e (tree_paths es xs) (tree_paths es ys) (among_trees es xs ys h)

pub paths_before : (e : Tree) (more : List Path) (q : Path) → In q (paths_of e []) → In q (paths_of e more)
paths_before e more q h = among_paths e [] more (λ z i. absurd i) q h

-- ---- values

if_same : {X : Type 0} (b : Bool) (x y z w : X) → x ≡ z → y ≡ w → (if b then x else y) ≡ (if b then z else w)
if_same true x y z w h k = h
if_same false x y z w h k = k

-- the paths have the same values
abbrev pub SameValues : (f g h k : Path → Value) → List Path → Type 0
SameValues f g h k xs = (q : Path) → In q xs → (f q ≡ h q) × (g q ≡ k q)

mutual
  pub denote_same : (f g h k : Path → Value) (e : Tree) (more : List Path) → SameValues f g h k (paths_of e more) → denote f g e ≡ denote h k e
  denote_same f g h k (truth p b) more s = refl
  denote_same f g h k (number p n) more s = refl
  denote_same f g h k (literal p w) more s = refl
  denote_same f g h k (name p x) more s = ap alone (s x (inl refl)).0
  denote_same f g h k (prefix p sign n e) more s = ap (λ (d : Denotation). alone (signed sign n d.value)) (denote_same f g h k e more s)
  denote_same f g h k (chain p e ls) more s =
      let d = denote_same f g h k e (link_paths ls more) s in
      if_same (is_from_right ls) _ _ _ _
      (ap alone (ap (λ (d : Denotation). implications f g d.value ls) d ∙ implications_same f g h k (denote h k e).value ls more (λ q i. s q (more_paths e (link_paths ls more) q i))))
      (ap (λ (d : Denotation). linked_values f g d ls) d ∙ linked_same f g h k (denote h k e) ls more (λ q i. s q (more_paths e (link_paths ls more) q i)))
  denote_same f g h k (choice p bs e) more s =
      ap (λ (d : Denotation). chosen f g bs d) (denote_same f g h k e more (λ q i. s q (more_branches bs (paths_of e more) q i)))
      ∙ chosen_same f g h k bs (denote h k e) (paths_of e more) s
  denote_same f g h k (cases p bs) more s = taken_same f g h k bs more s
  denote_same f g h k (select p e high low) more s = ap (λ (d : Denotation). alone (selected high low d.value)) (denote_same f g h k e more s)
  denote_same f g h k (call p o es) more s = ap (λ (vs : List Value). alone (called o vs)) (values_same f g h k es more s)
  denote_same f g h k (next p e) more s = denote_same g g k k e more (λ q i. ((s q i).1, (s q i).1))
  denote_same f g h k (set p es) more s = ap set_of (permits_same f g h k es more s)
  denote_same f g h k (range p low high) more s = refl

  implications_same : (f g h k : Path → Value) (v : Value) (ls : Links) (more : List Path) → SameValues f g h k (link_paths ls more) → implications f g v ls ≡ implications h k v ls
  implications_same f g h k v no_links more s = refl
  implications_same f g h k v (link op e ls) more s =
      ap (implied v)
      (ap (λ (d : Denotation). implications f g d.value ls) (denote_same f g h k e (link_paths ls more) s)
      ∙ implications_same f g h k (denote h k e).value ls more (λ q i. s q (more_paths e (link_paths ls more) q i)))

  linked_same : (f g h k : Path → Value) (d : Denotation) (ls : Links) (more : List Path) → SameValues f g h k (link_paths ls more) → linked_values f g d ls ≡ linked_values h k d ls
  linked_same f g h k d no_links more s = refl
  linked_same f g h k d (link op e ls) more s =
      ap (λ (c : Denotation). linked_values f g (joined op d c) ls) (denote_same f g h k e (link_paths ls more) s)
      ∙ linked_same f g h k (joined op d (denote h k e)) ls more (λ q i. s q (more_paths e (link_paths ls more) q i))

  chosen_same : (f g h k : Path → Value) (bs : Branches) (d : Denotation) (more : List Path) → SameValues f g h k (branch_paths bs more) → chosen f g bs d ≡ chosen h k bs d
  chosen_same f g h k no_branches d more s = refl
  chosen_same f g h k (branch c e rest) d more s =
      ap (λ (a : Denotation). if is_true a.value then denote f g e else chosen f g rest d) (denote_same f g h k c (paths_of e (branch_paths rest more)) s)
      ∙ if_same (is_true (denote h k c).value) _ _ _ _
      (denote_same f g h k e (branch_paths rest more) (λ q i. s q (more_paths c (paths_of e (branch_paths rest more)) q i)))
      (chosen_same f g h k rest d more (λ q i. s q (more_paths c (paths_of e (branch_paths rest more)) q (more_paths e (branch_paths rest more) q i))))

  taken_same : (f g h k : Path → Value) (bs : Branches) (more : List Path) → SameValues f g h k (branch_paths bs more) → taken f g bs ≡ taken h k bs
  taken_same f g h k no_branches more s = refl
  taken_same f g h k (branch c e rest) more s =
      ap (λ (a : Denotation). if is_true a.value || is_last rest then denote f g e else taken f g rest) (denote_same f g h k c (paths_of e (branch_paths rest more)) s)
      ∙ if_same (is_true (denote h k c).value || is_last rest) _ _ _ _
      (denote_same f g h k e (branch_paths rest more) (λ q i. s q (more_paths c (paths_of e (branch_paths rest more)) q i)))
      (taken_same f g h k rest more (λ q i. s q (more_paths c (paths_of e (branch_paths rest more)) q (more_paths e (branch_paths rest more) q i))))

  values_same : (f g h k : Path → Value) (es : Trees) (more : List Path) → SameValues f g h k (tree_paths es more) → values_of f g es ≡ values_of h k es
  values_same f g h k no_trees more s = refl
  values_same f g h k (tree e es) more s =
      ap (λ (d : Denotation). d.value ∷ values_of f g es) (denote_same f g h k e (tree_paths es more) s)
      ∙ ap (λ (vs : List Value). (denote h k e).value ∷ vs) (values_same f g h k es more (λ q i. s q (more_paths e (tree_paths es more) q i)))

  permits_same : (f g h k : Path → Value) (es : Trees) (more : List Path) → SameValues f g h k (tree_paths es more) → one_permits f g es ≡ one_permits h k es
  permits_same f g h k no_trees more s = refl
  permits_same f g h k (tree e es) more s =
      ap {B = Value → Bool} (λ d v. d.permits v || one_permits f g es v) (denote_same f g h k e (tree_paths es more) s)
      ∙ ap {B = Value → Bool} (λ o v. (denote h k e).permits v || o v) (permits_same f g h k es more (λ q i. s q (more_paths e (tree_paths es more) q i)))

-- ---- types

-- the paths are the same to the types
abbrev pub SameNames : (n m : Path → Named) → List Path → Type 0
SameNames n m xs = (q : Path) → In q xs → n q ≡ m q

three_same : {A B C D : Type 0} (f : A → B → C → D) (a x : A) (b y : B) (c z : C) → a ≡ x → b ≡ y → c ≡ z → f a b c ≡ f x y z
three_same f a x b y c z p q r = ap (λ w. f w b c) p ∙ ap (λ w. f x w c) q ∙ ap (λ w. f x y w) r

abbrev name_node : Position → Place → Named → Typing
name_node at p m = node [] (check 16 p (not m.is_instance) ∷ check 18 p (at.inputs || not m.reaches_input) ∷ []) m.type

abbrev right_node : Place → Typing → List (Option ExprType) → List Check → Typing
right_node p a ts cs = node (a.checks ++ cs) (check 16 p (on_all (all_types (a.type ∷ ts)) implies_fits) ∷ []) (option_map first_type (all_types (a.type ∷ ts)))

abbrev branch_node : Place → List Check → List (Option ExprType) → List (Option ExprType) → Typing
branch_node p cs conditions values =
    node cs (check 16 p (branches_fit (all_types conditions) (all_types values)) ∷ []) (branches_type (all_types conditions) (all_types values))

mutual
  pub typing_same : (n m : Path → Named) (at : Position) (e : Tree) (more : List Path) → SameNames n m (paths_of e more) → typing n at e ≡ typing m at e
  typing_same n m at (truth p b) more s = refl
  typing_same n m at (number p c) more s = refl
  typing_same n m at (literal p w) more s = refl
  typing_same n m at (name p x) more s = ap (name_node at p) (s x (inl refl))
  typing_same n m at (prefix p sign c e) more s = ap
      (λ (a : Typing). node a.checks
      (check 16 p (on_type a.type (prefix_fits sign)) ∷ check 17 p (on_type a.type (λ u. in_limit (prefix_type sign c u))) ∷ [])
      (option_map (prefix_type sign c) a.type)) (typing_same n m (single at) e more s)
  typing_same n m at (chain p e ls) more s =
      let less : SameNames n m (link_paths ls more) = λ q i. s q (more_paths e (link_paths ls more) q i) in
      if_same (is_from_right ls) _ _ _ _
      (three_same (right_node p) _ _ _ _ _ _ (typing_same n m (single at) e (link_paths ls more) s) (link_types_same n m (single at) ls more less) (link_checks_same n m (single at) ls more less))
      (ap (λ (a : Typing). linked n (across ls at) p a ls) (typing_same n m (across ls at) e (link_paths ls more) s) ∙ linked_types_same n m (across ls at) p (typing m (across ls at) e) ls more less)
  typing_same n m at (choice p bs e) more s =
      let less : SameNames n m (paths_of e more) = λ q i. s q (more_branches bs (paths_of e more) q i) in
      let own = typing_same n m at e more less in
      three_same (branch_node p) _ _ _ _ _ _
      (ap (λ (a : Typing). branch_checks n at bs ++ a.checks) own ∙ ap (λ (cs : List Check). cs ++ (typing m at e).checks) (branch_checks_same n m at bs (paths_of e more) s))
      (condition_types_same n m (single at) bs (paths_of e more) s)
      (ap (λ (a : Typing). value_types n at bs (a.type ∷ [])) own ∙ value_types_same n m at bs ((typing m at e).type ∷ []) (paths_of e more) s)
  typing_same n m at (cases p bs) more s =
      three_same (branch_node p) _ _ _ _ _ _ (branch_checks_same n m at bs more s) (condition_types_same n m (single at) bs more s) (value_types_same n m at bs [] more s)
  typing_same n m at (select p e high low) more s = ap
      (λ (a : Typing). node a.checks
      (check 16 p (on_type a.type is_word_type) ∷ check 25 p (on_type a.type (λ u. is_select u high low)) ∷ [])
      (option_map (λ u. word_type (high - low + 1)) a.type)) (typing_same n m (single at) e more s)
  typing_same n m at (call p f es) more s =
      ap (λ (ts : List (Option ExprType)). node (tree_checks n (single at) es) (
      check 16 p (on_all (all_types ts) (function_fits f))
      ∷ check 17 p (on_all (all_types ts) (λ us. in_limit (function_type f us (numbers_of es))))
      ∷ check 25 p (on_all (all_types ts) (λ us. arguments_fit f us (numbers_of es)))
      ∷ []
      ) (option_map (λ us. function_type f us (numbers_of es)) (all_types ts))) (tree_types_same n m (single at) es more s)
      ∙ ap (λ (cs : List Check). node cs (
      check 16 p (on_all (all_types (tree_types m (single at) es)) (function_fits f))
      ∷ check 17 p (on_all (all_types (tree_types m (single at) es)) (λ us. in_limit (function_type f us (numbers_of es))))
      ∷ check 25 p (on_all (all_types (tree_types m (single at) es)) (λ us. arguments_fit f us (numbers_of es)))
      ∷ []
      ) (option_map (λ us. function_type f us (numbers_of es)) (all_types (tree_types m (single at) es)))) (tree_checks_same n m (single at) es more s)
  typing_same n m at (next p e) more s = ap (λ (a : Typing). node a.checks (check 19 p at.nexts ∷ []) a.type) (typing_same n m under_next e more s)
  typing_same n m at (set p es) more s =
      ap (λ (ts : List (Option ExprType)). node (tree_checks n at es) (check 16 p (on_all (all_types ts) are_same) ∷ check 20 p at.sets ∷ []) (option_map hull_of (all_types ts))) (tree_types_same n m at es more s)
      ∙ ap (λ (cs : List Check). node cs (check 16 p (on_all (all_types (tree_types m at es)) are_same) ∷ check 20 p at.sets ∷ []) (option_map hull_of (all_types (tree_types m at es))))
      (tree_checks_same n m at es more s)
  typing_same n m at (range p low high) more s = refl

  link_types_same : (n m : Path → Named) (at : Position) (ls : Links) (more : List Path) → SameNames n m (link_paths ls more) → link_types n at ls ≡ link_types m at ls
  link_types_same n m at no_links more s = refl
  link_types_same n m at (link op e ls) more s =
      ap (λ (a : Typing). a.type ∷ link_types n at ls) (typing_same n m at e (link_paths ls more) s)
      ∙ ap (λ (ts : List (Option ExprType)). (typing m at e).type ∷ ts) (link_types_same n m at ls more (λ q i. s q (more_paths e (link_paths ls more) q i)))

  link_checks_same : (n m : Path → Named) (at : Position) (ls : Links) (more : List Path) → SameNames n m (link_paths ls more) → link_checks n at ls ≡ link_checks m at ls
  link_checks_same n m at no_links more s = refl
  link_checks_same n m at (link op e ls) more s =
      ap (λ (a : Typing). a.checks ++ link_checks n at ls) (typing_same n m at e (link_paths ls more) s)
      ∙ ap (λ (cs : List Check). (typing m at e).checks ++ cs) (link_checks_same n m at ls more (λ q i. s q (more_paths e (link_paths ls more) q i)))

  linked_types_same : (n m : Path → Named) (at : Position) (p : Place) (a : Typing) (ls : Links) (more : List Path) → SameNames n m (link_paths ls more) → linked n at p a ls ≡ linked m at p a ls
  linked_types_same n m at p a no_links more s = refl
  linked_types_same n m at p a (link op e ls) more s =
      ap (λ (b : Typing). linked n at p (front op at p a b e) ls) (typing_same n m (behind op at) e (link_paths ls more) s)
      ∙ linked_types_same n m at p (front op at p a (typing m (behind op at) e) e) ls more (λ q i. s q (more_paths e (link_paths ls more) q i))

  condition_types_same : (n m : Path → Named) (at : Position) (bs : Branches) (more : List Path) → SameNames n m (branch_paths bs more) → condition_types n at bs ≡ condition_types m at bs
  condition_types_same n m at no_branches more s = refl
  condition_types_same n m at (branch c e rest) more s =
      ap (λ (a : Typing). a.type ∷ condition_types n at rest) (typing_same n m at c (paths_of e (branch_paths rest more)) s)
      ∙ ap (λ (ts : List (Option ExprType)). (typing m at c).type ∷ ts)
      (condition_types_same n m at rest more (λ q i. s q (more_paths c (paths_of e (branch_paths rest more)) q (more_paths e (branch_paths rest more) q i))))

  value_types_same : (n m : Path → Named) (at : Position) (bs : Branches) (others : List (Option ExprType)) (more : List Path) → SameNames n m (branch_paths bs more)
      → value_types n at bs others ≡ value_types m at bs others
  value_types_same n m at no_branches others more s = refl
  value_types_same n m at (branch c e rest) others more s =
      ap (λ (a : Typing). a.type ∷ value_types n at rest others) (typing_same n m at e (branch_paths rest more) (λ q i. s q (more_paths c (paths_of e (branch_paths rest more)) q i)))
      ∙ ap (λ (ts : List (Option ExprType)). (typing m at e).type ∷ ts)
      (value_types_same n m at rest others more (λ q i. s q (more_paths c (paths_of e (branch_paths rest more)) q (more_paths e (branch_paths rest more) q i))))

  branch_checks_same : (n m : Path → Named) (at : Position) (bs : Branches) (more : List Path) → SameNames n m (branch_paths bs more) → branch_checks n at bs ≡ branch_checks m at bs
  branch_checks_same n m at no_branches more s = refl
  branch_checks_same n m at (branch c e rest) more s =
      three_same (λ (a b : Typing) (cs : List Check). a.checks ++ b.checks ++ cs) _ _ _ _ _ _ (typing_same n m (single at) c (paths_of e (branch_paths rest more)) s)
      (typing_same n m at e (branch_paths rest more) (λ q i. s q (more_paths c (paths_of e (branch_paths rest more)) q i)))
      (branch_checks_same n m at rest more (λ q i. s q (more_paths c (paths_of e (branch_paths rest more)) q (more_paths e (branch_paths rest more) q i))))

  tree_types_same : (n m : Path → Named) (at : Position) (es : Trees) (more : List Path) → SameNames n m (tree_paths es more) → tree_types n at es ≡ tree_types m at es
  tree_types_same n m at no_trees more s = refl
  tree_types_same n m at (tree e es) more s =
      ap (λ (a : Typing). a.type ∷ tree_types n at es) (typing_same n m at e (tree_paths es more) s)
      ∙ ap (λ (ts : List (Option ExprType)). (typing m at e).type ∷ ts) (tree_types_same n m at es more (λ q i. s q (more_paths e (tree_paths es more) q i)))

  tree_checks_same : (n m : Path → Named) (at : Position) (es : Trees) (more : List Path) → SameNames n m (tree_paths es more) → tree_checks n at es ≡ tree_checks m at es
  tree_checks_same n m at no_trees more s = refl
  tree_checks_same n m at (tree e es) more s =
      ap (λ (a : Typing). a.checks ++ tree_checks n at es) (typing_same n m at e (tree_paths es more) s)
      ∙ ap (λ (cs : List Check). (typing m at e).checks ++ cs) (tree_checks_same n m at es more (λ q i. s q (more_paths e (tree_paths es more) q i)))
