-- What the machine comes to is spelled by the tokens that it read.
use Rattle.std.proofs.Common.{◌≡◌, ℕ, ℤ, pos, ◌-ℤ◌, suc, Bool, true, false, cond, Option, Some, None, option_map, List, [], ◌∷◌, ◌++◌, refl, sym, ap, ◌∙◌, append_assoc, subst}
use Rattle.std.proofs.lemmas.List.{append-nil}
use Rattle.text_core.specs.declared.place.Place.{Place}
use Rattle.smv_text.specs.declared.token.Reserved.TheVariants as word
use Rattle.smv_text.specs.declared.token.Sign.{Sign}
use Rattle.smv_text.specs.declared.token.Sign.TheVariants as sign
use Rattle.smv_text.specs.declared.token.Token.{Token}
use Rattle.smv_text.specs.declared.token.TokenKind.{TokenKind}
use Rattle.smv_text.specs.declared.token.TokenKind.TheVariants as kind
use Rattle.smv_text.specs.declared.tree.Path.{Path}
use Rattle.smv_text.specs.declared.operators.Prefix.{Prefix}
use Rattle.smv_text.specs.declared.operators.Prefix.TheVariants as prefix
use Rattle.smv_text.specs.declared.operators.Infix.{Infix}
use Rattle.smv_text.specs.declared.operators.Function.{Function}
use Rattle.smv_text.specs.declared.level.OperatorClass.{OperatorClass}
use Rattle.smv_text.specs.declared.level.Level.{Level}
use Rattle.smv_text.specs.declared.level.Level.TheVariants.{Chain, Choice, Range, Before, Selection}
use Rattle.smv_text.specs.Levels.{all_levels, infix_of, prefix_kind, function_at}
use Rattle.smv_text.specs.Tree.{Tree, number, name, prefix as prefix_tree, chain, choice, cases, call, next as next_value, select, range, Links, no_links, link, Branches, no_branches, branch, Trees, no_trees, tree, links_of, branches_of}
use Rattle.smv_text.specs.Grammar.{start, IsSign, Signs, no_signs, sign_then, SpellsInteger, unsigned, negative as negative_integer, SpellsSteps, no_steps, step, SpellsPath, from_name, from_itself, Spells, pass, chains, chooses, ranges, prefixes, selects, is_true, is_false, numbers, literals, names, brackets, nexts, calls, sets, switches, SpellsLinks, no_more, one_more, SpellsBranches, otherwise, picks, SpellsListed, last_one, one_before, SpellsCases, last_case, case_before}
use Rattle.smv_grammar.specs.declared.listing.Listing.{Listing}
use Rattle.smv_grammar.specs.declared.listing.Listing.TheVariants.{Arguments, Elements}
use Rattle.smv_grammar.specs.declared.levels.Leader.{Leader}
use Rattle.smv_grammar.specs.declared.levels.Leader.TheVariants as leader
use Rattle.smv_grammar.specs.Marks.{is_sign, is_word}
use Rattle.smv_grammar.specs.Machine.{is_prefix, Chained, Front, bare, joined, taken, whole, chain_at, choice_at, Frame, operand, when, value, signs, selected, bracket, following, listing, condition, result, closing_of, listed, State, ask, have, signed, integer, minus, negative, upto, upto_minus, named, dotted, open_next, open_call, high_end, high_colon, low_end, low_close, case_goes, Move, onto, behind, nowhere, accept, folded, or_else, with_folded, give, finish, opened, pushed, path_head, primary, calling, leader_of, begin_integer, begin, after_sign, minus_to, after_one, after_minus, number_pushed, number_gives, number_halts, expects, take_number, take_name, range_end, longer, move, halt, reached, halted, along, walk}
use Rattle.smv_grammar.proofs.Signs.{sign_is, word_is}
use Rattle.smv_grammar.proofs.Complete.{links_onto, branches_onto, trees_onto, links_all, links_push, branches_all, branches_push, trees_all, trees_push, made, listed_made, Filled, filled, start_front}

-- what is spelled at the one levels is spelled at the others
abbrev pub Lifts : List Level → List Level → Type 0
Lifts ls ms = (t : Tree) (xs : List Token) → Spells ls t xs → Spells ms t xs

itself : (ls : List Level) → Lifts ls ls
itself ls t xs d = d

-- the parts so far, told by what they make of those to come
abbrev pub LinksBefore : OperatorClass → List Level → List (Infix × Tree) → List Token → Type 0
LinksBefore j below all xs = (ls : Links) (ys : List Token) → SpellsLinks j below ls ys → SpellsLinks j below (links_onto all ls) (xs ++ ys)

abbrev pub PicksBefore : List Level → List (Tree × Tree) → List Token → Type 0
PicksBefore below all xs = (bs : Branches) (t : Tree) (ys : List Token) → SpellsBranches below bs t ys → SpellsBranches below (branches_onto all bs) t (xs ++ ys)

abbrev pub TreesBefore : Sign → List Tree → List Token → Type 0
TreesBefore s all xs = (ts : Trees) (ys : List Token) → SpellsListed s ts ys → SpellsListed s (trees_onto all ts) (xs ++ ys)

abbrev pub CasesBefore : List (Tree × Tree) → List Token → Type 0
CasesBefore all xs = (bs : Branches) (ys : List Token) → SpellsCases bs ys → SpellsCases (branches_onto all bs) (xs ++ ys)

-- these tokens begin a list
abbrev pub Heads : Place → Listing → List Token → Type 0
Heads p what zs = ((ts : Trees) (xs : List Token) → SpellsListed (closing_of what) ts xs → Spells [] (made p what ts) (zs ++ xs)) × ((xs : List Token) → start (zs ++ xs) ≡ p)

-- the place of the first token, or of what comes
abbrev pub start_or : List Token → Place → Place
start_or [] s = s
start_or (x ∷ xs) s = x.place

-- the tokens of a chain so far
abbrev pub Chains : OperatorClass → List Level → Chained → List Token → Type 0
Chains j below c xs = (ys : List Token) × (zs : List Token) × (xs ≡ ys ++ zs) × Spells below c.first ys × LinksBefore j below c.links zs

-- The frames wait for an expression at these levels, whose first token is at this place, and these tokens led to them.
abbrev pub Waits : List Frame → List Level → List Token → Place → Type 0
Waits [] ls q s = Lifts ls all_levels × (q ≡ [])
Waits (operand j below p bare ∷ k) ls q s = Lifts ls below × (p ≡ s) × Waits k (Chain j ∷ below) q s
Waits (operand j below p (joined c op) ∷ k) ls q s =
    (w : List Token) × (xs : List Token) × (x : Token) × Lifts ls below × (q ≡ w ++ (xs ++ x ∷ [])) × (infix_of j x.kind ≡ Some op) × Chains j below c xs × (p ≡ start xs) × Waits k (Chain j ∷ below) w p
Waits (when below p bs ∷ k) ls q s =
    (w : List Token) × (xs : List Token) × Lifts ls below × (q ≡ w ++ xs) × PicksBefore below bs xs × (p ≡ start_or xs s) × Waits k (Choice ∷ below) w p
Waits (value below p bs u ∷ k) ls q s =
    (w : List Token) × (xs : List Token) × (ys : List Token) × (x : Token) × Lifts ls below × (q ≡ w ++ (xs ++ (ys ++ x ∷ []))) × PicksBefore below bs xs × Spells below u ys
    × IsSign sign.Question x × (p ≡ start (xs ++ ys)) × Waits k (Choice ∷ below) w p
Waits (signs pre below p n ∷ k) ls q s =
    (w : List Token) × (xs : List Token) × (m : ℕ) × Lifts ls below × (q ≡ w ++ xs) × (n ≡ suc m) × Signs pre (suc m) xs × (p ≡ start xs) × Waits k (Before pre ∷ below) w p
Waits (selected p ∷ k) ls q s = (below : List Level) × Lifts ls (Selection ∷ below) × (p ≡ s) × Waits k (Selection ∷ below) q s
Waits (bracket ∷ k) ls q s = (w : List Token) × (x : Token) × Lifts ls all_levels × (q ≡ w ++ x ∷ []) × IsSign sign.Open x × Waits k [] w x.place
Waits (following p ∷ k) ls q s =
    (w : List Token) × (x : Token) × (y : Token) × Lifts ls all_levels × (q ≡ w ++ (x ∷ y ∷ [])) × (x.kind ≡ kind.Reserved word.Next) × IsSign sign.Open y × (p ≡ x.place) × Waits k [] w p
Waits (listing p what all ∷ k) ls q s =
    (w : List Token) × (zs : List Token) × (xs : List Token) × Lifts ls all_levels × (q ≡ w ++ (zs ++ xs)) × Heads p what zs × TreesBefore (closing_of what) all xs × Waits k [] w p
Waits (condition p bs ∷ k) ls q s =
    (w : List Token) × (z : Token) × (xs : List Token) × Lifts ls all_levels × (q ≡ w ++ (z ∷ xs)) × (z.kind ≡ kind.Reserved word.Case) × CasesBefore bs xs × (p ≡ z.place) × Waits k [] w p
Waits (result p bs u ∷ k) ls q s =
    (w : List Token) × (z : Token) × (xs : List Token) × (ys : List Token) × (c : Token) × Lifts ls all_levels × (q ≡ w ++ (z ∷ (xs ++ (ys ++ c ∷ [])))) × (z.kind ≡ kind.Reserved word.Case)
    × CasesBefore bs xs × Spells all_levels u ys × IsSign sign.Colon c × (p ≡ z.place) × Waits k [] w p

-- an expression was read at the end of these tokens, and the frames wait for it
abbrev pub Held : List Frame → Tree → List Token → Type 0
Held k t q = (ls : List Level) × (w : List Token) × (xs : List Token) × (q ≡ w ++ xs) × Spells ls t xs × Waits k ls w (start xs)

-- a selection has begun
abbrev pub Selected : Place → Tree → List Frame → List Token → List Token → Type 0
Selected p t k vs q =
    (below : List Level) × (w : List Token) × (xs : List Token) × (q ≡ w ++ (xs ++ vs)) × Spells (Selection ∷ below) t xs × (p ≡ start xs) × Waits k (Selection ∷ below) w p

-- a range has begun
abbrev pub Ranged : Place → ℤ → List Frame → List Token → List Token → Type 0
Ranged p low k vs q =
    (below : List Level) × (w : List Token) × (xs : List Token) × (d : Token) × (q ≡ w ++ (xs ++ d ∷ vs)) × SpellsInteger low xs × IsSign sign.Range d × (p ≡ start xs) × Waits k (Range ∷ below) w p

abbrev pub Means : State → List Token → Type 0
Means (ask ls k) q = (s : Place) → Waits k ls q s
Means (have t k) q = Held k t q
Means (signed pre below p n k) q =
    (w : List Token) × (xs : List Token) × (m : ℕ) × (q ≡ w ++ xs) × (n ≡ suc m) × Signs pre (suc m) xs × (p ≡ start xs) × Waits k (Before pre ∷ below) w p
Means (integer below p n k) q = (w : List Token) × (x : Token) × (q ≡ w ++ x ∷ []) × (x.kind ≡ kind.Number n) × (p ≡ x.place) × Waits k (Range ∷ below) w p
Means (minus below p k) q = (w : List Token) × (x : Token) × (q ≡ w ++ x ∷ []) × IsSign sign.Minus x × (p ≡ x.place) × Waits k (Range ∷ below) w p
Means (negative below p r n k) q =
    (w : List Token) × (x : Token) × (y : Token) × (q ≡ w ++ (x ∷ y ∷ [])) × IsSign sign.Minus x × (y.kind ≡ kind.Number n) × (p ≡ x.place) × (r ≡ y.place) × Waits k (Range ∷ below) w p
Means (upto p low k) q = Ranged p low k [] q
Means (upto_minus p low k) q = (m : Token) × IsSign sign.Minus m × Ranged p low k (m ∷ []) q
Means (named path k) q = (w : List Token) × (xs : List Token) × (q ≡ w ++ xs) × SpellsPath path xs × Waits k [] w path.place
Means (dotted path k) q = (w : List Token) × (xs : List Token) × (d : Token) × (q ≡ w ++ (xs ++ d ∷ [])) × SpellsPath path xs × IsSign sign.Dot d × Waits k [] w path.place
Means (open_next p k) q = (w : List Token) × (x : Token) × (q ≡ w ++ x ∷ []) × (x.kind ≡ kind.Reserved word.Next) × (p ≡ x.place) × Waits k [] w p
Means (open_call p f k) q = (w : List Token) × (x : Token) × (q ≡ w ++ x ∷ []) × (function_at x.kind ≡ Some f) × (p ≡ x.place) × Waits k [] w p
Means (high_end p t k) q = (o : Token) × IsSign sign.OpenBracket o × Selected p t k (o ∷ []) q
Means (high_colon p t n k) q = (o : Token) × (a : Token) × IsSign sign.OpenBracket o × (a.kind ≡ kind.Number n) × Selected p t k (o ∷ a ∷ []) q
Means (low_end p t n k) q = (o : Token) × (a : Token) × (c : Token) × IsSign sign.OpenBracket o × (a.kind ≡ kind.Number n) × IsSign sign.Colon c × Selected p t k (o ∷ a ∷ c ∷ []) q
Means (low_close p t n m k) q =
    (o : Token) × (a : Token) × (c : Token) × (b : Token) × IsSign sign.OpenBracket o × (a.kind ≡ kind.Number n) × IsSign sign.Colon c × (b.kind ≡ kind.Number m) × Selected p t k (o ∷ a ∷ c ∷ b ∷ []) q
Means (case_goes p all k) q =
    (w : List Token) × (z : Token) × (xs : List Token) × (q ≡ w ++ (z ∷ xs)) × (z.kind ≡ kind.Reserved word.Case) × CasesBefore all xs
    × ((e : Token) → e.kind ≡ kind.Reserved word.Esac → SpellsCases (branches_of all) (xs ++ e ∷ [])) × (p ≡ z.place) × Waits k [] w p

-- waiting at looser levels serves
lowers : (k : List Frame) (ls ms : List Level) (q : List Token) (s : Place) → Lifts ms ls → Waits k ls q s → Waits k ms q s
lowers [] ls ms q s h w = (λ t xs d. w.0 t xs (h t xs d), w.1)
lowers (operand j below p bare ∷ k) ls ms q s h w = (λ t xs d. w.0 t xs (h t xs d), w.1, w.2)
lowers (operand j below p (joined c op) ∷ k) ls ms q s h w = (w.0, w.1, w.2, λ t xs d. w.3 t xs (h t xs d), w.4, w.5, w.6, w.7, w.8)
lowers (when below p bs ∷ k) ls ms q s h w = (w.0, w.1, λ t xs d. w.2 t xs (h t xs d), w.3, w.4, w.5, w.6)
lowers (value below p bs u ∷ k) ls ms q s h w = (w.0, w.1, w.2, w.3, λ t xs d. w.4 t xs (h t xs d), w.5, w.6, w.7, w.8, w.9, w.10)
lowers (signs pre below p n ∷ k) ls ms q s h w = (w.0, w.1, w.2, λ t xs d. w.3 t xs (h t xs d), w.4, w.5, w.6, w.7, w.8)
lowers (selected p ∷ k) ls ms q s h w = (w.0, λ t xs d. w.1 t xs (h t xs d), w.2, w.3)
lowers (bracket ∷ k) ls ms q s h w = (w.0, w.1, λ t xs d. w.2 t xs (h t xs d), w.3, w.4, w.5)
lowers (following p ∷ k) ls ms q s h w = (w.0, w.1, w.2, λ t xs d. w.3 t xs (h t xs d), w.4, w.5, w.6, w.7, w.8)
lowers (listing p what all ∷ k) ls ms q s h w = (w.0, w.1, w.2, λ t xs d. w.3 t xs (h t xs d), w.4, w.5, w.6, w.7)
lowers (condition p bs ∷ k) ls ms q s h w = (w.0, w.1, w.2, λ t xs d. w.3 t xs (h t xs d), w.4, w.5, w.6, w.7, w.8)
lowers (result p bs u ∷ k) ls ms q s h w = (w.0, w.1, w.2, w.3, w.4, λ t xs d. w.5 t xs (h t xs d), w.6, w.7, w.8, w.9, w.10, w.11, w.12)

-- down to the levels below
opened_waits : (l : Level) (below : List Level) (k : List Frame) (q : List Token) (p : Place) → Waits k (l ∷ below) q p → Waits (opened l below p k) below q p
opened_waits (Chain j) below k q p w = (itself below, refl, w)
opened_waits Choice below k q p w = (q, [], itself below, sym (append-nil q), λ bs t ys d. d, refl, w)
opened_waits Range below k q p w = lowers k (Range ∷ below) below q p (λ t xs d. pass d) w
opened_waits (Before pre) below k q p w = lowers k (Before pre ∷ below) below q p (λ t xs d. pass d) w
opened_waits Selection below k q p w = (below, λ t xs d. pass d, refl, w)

pushed_waits : (ls : List Level) (k : List Frame) (q : List Token) (p : Place) → Waits k ls q p → Waits (pushed ls p k) [] q p
pushed_waits [] k q p w = w
pushed_waits (l ∷ below) k q p w = pushed_waits below (opened l below p k) q p (opened_waits l below k q p w)

minus_waits : (ls : List Level) (k : List Frame) (q : List Token) (p : Place) (f : List Level × List Frame) → Waits k ls q p → minus_to ls p k ≡ Some f → Waits f.1 (Before prefix.Minus ∷ f.0) q p
minus_waits [] k q p f w e = cc
minus_waits (Chain j ∷ below) k q p f w e = minus_waits below (operand j below p bare ∷ k) q p f (opened_waits (Chain j) below k q p w) e
minus_waits (Choice ∷ below) k q p f w e = minus_waits below (when below p [] ∷ k) q p f (opened_waits Choice below k q p w) e
minus_waits (Range ∷ below) k q p f w e = minus_waits below k q p f (opened_waits Range below k q p w) e
minus_waits (Before prefix.Minus ∷ below) k q p f w e =
    let same : ◌≡◌ {A = List Level × List Frame} (below, k) f = cc in subst (λ (g : List Level × List Frame). Waits g.1 (Before prefix.Minus ∷ g.0) q p) same w
minus_waits (Before prefix.Not ∷ below) k q p f w e = minus_waits below k q p f (opened_waits (Before prefix.Not) below k q p w) e
minus_waits (Selection ∷ below) k q p f w e = minus_waits below (selected p ∷ k) q p f (opened_waits Selection below k q p w) e

-- the state that a test leads to
meant : (s r : State) (q : List Token) → onto s ≡ onto r → Means s q → Means r q
meant s r q e m = let same : s ≡ r = cc in subst (λ v. Means v q) same m

meant_or : (b : Bool) (s r : State) (other : Move) (q : List Token) → cond b (onto s) other ≡ onto r → (b ≡ true → Means s q) → (other ≡ onto r → Means r q) → Means r q
meant_or true s r other q e h g = meant s r q e (h refl)
meant_or false s r other q e h g = g e

meant_if : (b : Bool) (s r : State) (q : List Token) → expects b s ≡ onto r → (b ≡ true → Means s q) → Means r q
meant_if true s r q e h = meant s r q e (h refl)
meant_if false s r q e h = cc

accepted : (b : Bool) (s r : State) (q : List Token) → cond b (Some s) None ≡ Some r → (b ≡ true → Means s q) → Means r q
accepted true s r q e h = let same : s ≡ r = cc in subst (λ v. Means v q) same (h refl)
accepted false s r q e h = cc

accepted_or : (b : Bool) (s r : State) (other : Option State) (q : List Token) → cond b (Some s) other ≡ Some r → (b ≡ true → Means s q) → (other ≡ Some r → Means r q) → Means r q
accepted_or true s r other q e h g = let same : s ≡ r = cc in subst (λ v. Means v q) same (h refl)
accepted_or false s r other q e h g = g e

numbered : (z : TokenKind) (s : ℕ → State) (r : State) (q : List Token) → take_number z s ≡ onto r → ((n : ℕ) → z ≡ kind.Number n → Means (s n) q) → Means r q
numbered (kind.Number n) s r q e h = meant (s n) r q e (h n refl)
numbered (kind.Ident n) s r q e h = cc
numbered _ s r q e h = cc

prefix_is : (pre : Prefix) (x : Token) → is_prefix pre x.kind ≡ true → x.kind ≡ prefix_kind pre
prefix_is prefix.Not x e = sign_is x.kind sign.Not e
prefix_is prefix.Minus x e = sign_is x.kind sign.Minus e

-- an expression begins
primary_means : (k : List Frame) (q : List Token) (x : Token) (r : State) → Waits k [] q x.place → primary (leader_of x.kind) k x.place x.kind ≡ onto r → Means r (q ++ x ∷ [])
primary_means k q x r w e = go x.kind refl e
  where
    called : (o : Option Function) → function_at x.kind ≡ o → primary (calling o) k x.place x.kind ≡ onto r → Means r (q ++ x ∷ [])
    called None f e = cc
    called (Some f) g e = meant (open_call x.place f k) r _ e (q, x, refl, g, refl, w)

    go : (z : TokenKind) → x.kind ≡ z → primary (leader_of z) k x.place z ≡ onto r → Means r (q ++ x ∷ [])
    go (kind.Number n) same h = meant (have (number x.place n) k) r _ h ([], q, x ∷ [], refl, numbers x same, w)
    go (kind.Literal v) same h = meant _ r _ h ([], q, x ∷ [], refl, literals x same, w)
    go (kind.Ident n) same h = meant (named (path_head (kind.Ident n) x.place) k) r _ h (q, x ∷ [], refl, from_name x same no_steps, w)
    go (kind.Sign sign.Open) same h = meant (ask all_levels (bracket ∷ k)) r _ h (λ _. (q, x, itself all_levels, refl, same, w))
    go (kind.Sign sign.OpenBrace) same h =
        meant (ask all_levels (listing x.place Elements [] ∷ k)) r _ h (λ _. (q, x ∷ [], [], itself all_levels, refl, (λ ts xs d. sets x same d, λ xs. refl), λ ts ys d. d, w))
    go (kind.Sign _) same h = cc
    go (kind.Reserved word.True) same h = meant _ r _ h ([], q, x ∷ [], refl, is_true x same, w)
    go (kind.Reserved word.False) same h = meant _ r _ h ([], q, x ∷ [], refl, is_false x same, w)
    go (kind.Reserved word.Itself) same h = meant (named (path_head (kind.Reserved word.Itself) x.place) k) r _ h (q, x ∷ [], refl, from_itself x same no_steps, w)
    go (kind.Reserved word.Next) same h = meant (open_next x.place k) r _ h (q, x, refl, same, refl, w)
    go (kind.Reserved word.Case) same h = meant (ask all_levels (condition x.place [] ∷ k)) r _ h (λ _. (q, x, [], itself all_levels, refl, same, λ bs ys d. d, refl, w))
    go (kind.Reserved _) same h = called _ (ap function_at same) h
    go kind.Refused same h = cc

begin_means : (ls : List Level) (k : List Frame) (q : List Token) (x : Token) (r : State) → Waits k ls q x.place → begin ls k x.place x.kind ≡ onto r → Means r (q ++ x ∷ [])
begin_means [] k q x r w e = primary_means k q x r w e
begin_means (Chain j ∷ below) k q x r w e = begin_means below (operand j below x.place bare ∷ k) q x r (opened_waits (Chain j) below k q x.place w) e
begin_means (Choice ∷ below) k q x r w e = begin_means below (when below x.place [] ∷ k) q x r (opened_waits Choice below k q x.place w) e
begin_means (Range ∷ below) k q x r w e = go x.kind refl (begin_means below k q x r (opened_waits Range below k q x.place w)) e
  where
    go : (z : TokenKind) → x.kind ≡ z → (begin below k x.place x.kind ≡ onto r → Means r (q ++ x ∷ [])) → begin_integer z (begin below k x.place x.kind) below x.place k ≡ onto r → Means r (q ++ x ∷ [])
    go (kind.Number n) same ih h = meant (integer below x.place n k) r _ h (q, x, refl, same, refl, w)
    go (kind.Sign sign.Minus) same ih h = meant (minus below x.place k) r _ h (q, x, refl, same, refl, w)
    go (kind.Sign _) same ih h = ih h
    go (kind.Ident n) same ih h = ih h
    go _ same ih h = ih h
begin_means (Before pre ∷ below) k q x r w e =
    meant_or (is_prefix pre x.kind) (signed pre below x.place 1 k) r _ _ e (λ t. (q, x ∷ [], 0, refl, refl, sign_then x (prefix_is pre x t) no_signs, refl, w))
    (begin_means below k q x r (opened_waits (Before pre) below k q x.place w))
begin_means (Selection ∷ below) k q x r w e = begin_means below (selected x.place ∷ k) q x r (opened_waits Selection below k q x.place w) e

-- a chain grows by an operand
chain_grows : (j : OperatorClass) (below : List Level) (c : Chained) (op : Infix) (t : Tree) (xs : List Token) (y : Token) (zs : List Token)
    → Chains j below c xs → infix_of j y.kind ≡ Some op → Spells below t zs → Chains j below (taken (joined c op) t) (xs ++ y ∷ zs)
chain_grows j below c op t xs y zs h e d = (
  h.0,
  h.1 ++ y ∷ zs,
  ap (λ l. l ++ y ∷ zs) h.2 ∙ append_assoc h.0 h.1 (y ∷ zs),
  h.3,
  λ ls ws tl. subst (λ l. SpellsLinks j below (links_onto (c.links ++ (op, t) ∷ []) ls) l) (sym (append_assoc h.1 (y ∷ zs) ws))
      (subst (λ l. SpellsLinks j below l (h.1 ++ y ∷ (zs ++ ws))) (sym (links_push c.links op t ls)) (h.4 (link op t ls) (y ∷ (zs ++ ws)) (one_more y e d tl))),
)

chain_start : (j : OperatorClass) (below : List Level) (c : Chained) (xs : List Token) → Chains j below c xs → (r : List Token) → start (xs ++ r) ≡ start xs
chain_start j below c xs h r =
    ap (λ l. start (l ++ r)) h.2 ∙ ap start (append_assoc h.0 h.1 r) ∙ start_front h.3 (h.1 ++ r) ∙ sym (start_front h.3 h.1) ∙ ap start (sym h.2)

no_tokens : {j : OperatorClass} {below : List Level} {xs : List Token} → SpellsLinks j below no_links xs → xs ≡ []
no_tokens no_more = refl

chain_spelled : (j : OperatorClass) (below : List Level) (c : Chained) (xs : List Token) (p : Place) → Chains j below c xs → p ≡ start xs → Spells (Chain j ∷ below) (whole p c) xs
chain_spelled j below c xs p h at = go (links_of c.links) tails
  where
    tails : SpellsLinks j below (links_of c.links) h.1
    tails = subst (λ l. SpellsLinks j below l h.1) (sym (links_all c.links)) (subst (λ l. SpellsLinks j below (links_onto c.links no_links) l) (append-nil h.1) (h.4 no_links [] no_more))

    go : (ls : Links) → SpellsLinks j below ls h.1 → Spells (Chain j ∷ below) (chain_at p c.first ls) xs
    go no_links tl = pass (subst (λ l. Spells below c.first l) (sym (h.2 ∙ ap (λ l. h.0 ++ l) (no_tokens tl) ∙ append-nil h.0)) h.3)
    go (link op u ls) tl =
        subst (λ l. Spells (Chain j ∷ below) (chain p c.first (link op u ls)) l) (sym h.2)
        (subst (λ r. Spells (Chain j ∷ below) (chain r c.first (link op u ls)) (h.0 ++ h.1)) (sym (at ∙ ap start h.2 ∙ start_front h.3 h.1)) (chains h.3 tl))

-- an operand was read: what the chain is then
operand_held : (j : OperatorClass) (below : List Level) (p : Place) (front : Front) (k : List Frame) (t : Tree) (q : List Token) → Held (operand j below p front ∷ k) t q
    → (w : List Token) × (xs : List Token) × (q ≡ w ++ xs) × Chains j below (taken front t) xs × (p ≡ start xs) × Waits k (Chain j ∷ below) w p
operand_held j below p bare k t q h =
    let w = h.5 in (h.1, h.2, h.3, (h.2, [], sym (append-nil h.2), w.0 t h.2 h.4, λ ls ys tl. tl), w.1, subst (Waits k (Chain j ∷ below) h.1) (sym w.1) w.2)
operand_held j below p (joined c op) k t q h =
    let w = h.5 in (
      w.0,
      w.1 ++ w.2 ∷ h.2,
      h.3 ∙ ap (λ l. l ++ h.2) w.4 ∙ append_assoc w.0 (w.1 ++ w.2 ∷ []) h.2 ∙ ap (λ l. w.0 ++ l) (append_assoc w.1 (w.2 ∷ []) h.2),
      chain_grows j below c op t w.1 w.2 h.2 w.6 w.5 (w.3 t h.2 h.4),
      w.7 ∙ sym (chain_start j below c w.1 w.6 (w.2 ∷ h.2)),
      w.8,
    )

mapped_some : {A B : Type 0} (f : A → B) (o : Option A) (b : B) → option_map f o ≡ Some b → (a : A) × (o ≡ Some a) × (f a ≡ b)
mapped_some f None b e = cc
mapped_some f (Some a) b e = (a, refl, cc)

signs_start : {pre : Prefix} {n : ℕ} {xs : List Token} → Signs pre (suc n) xs → (r : List Token) → start (xs ++ r) ≡ start xs
signs_start (sign_then x e s) r = refl

signs_push : {pre : Prefix} {n : ℕ} {xs : List Token} → Signs pre n xs → (x : Token) → x.kind ≡ prefix_kind pre → Signs pre (suc n) (xs ++ x ∷ [])
signs_push no_signs x e = sign_then x e no_signs
signs_push (sign_then y f s) x e = sign_then y f (signs_push s x e)

start_or_is : (xs ys : List Token) → start_or xs (start ys) ≡ start (xs ++ ys)
start_or_is [] ys = refl
start_or_is (x ∷ xs) ys = refl

start_or_front : (xs ys : List Token) → Filled ys → (r : List Token) (s : Place) → start (xs ++ ys) ≡ start_or (xs ++ (ys ++ r)) s
start_or_front [] [] o r s = absurd o
start_or_front [] (y ∷ ys) o r s = refl
start_or_front (x ∷ xs) ys o r s = refl

last_spelled : {below : List Level} {t : Tree} {xs : List Token} → SpellsBranches below no_branches t xs → Spells below t xs
last_spelled (otherwise s) = s

choice_spelled : (below : List Level) (bs : Branches) (t : Tree) (xs : List Token) (p : Place) → SpellsBranches below bs t xs → p ≡ start xs → Spells (Choice ∷ below) (choice_at p bs t) xs
choice_spelled below no_branches t xs p ps at = pass (last_spelled ps)
choice_spelled below (branch w v bs) t xs p ps at = subst (λ r. Spells (Choice ∷ below) (choice r (branch w v bs) t) xs) (sym at) (chooses ps)

listed_push : {s : Sign} {t : Tree} {ts : Trees} {xs ys : List Token} → Spells all_levels t xs → (comma : Token) → IsSign sign.Comma comma → SpellsListed s ts ys → SpellsListed s (tree t ts) (xs ++ comma ∷ ys)
listed_push d c e (last_one s z f) = one_before d c e (last_one s z f)
listed_push d c e (one_before s z f more) = one_before d c e (one_before s z f more)

cases_push : {w v : Tree} {bs : Branches} {xs ys zs : List Token} → Spells all_levels w xs → (c : Token) → IsSign sign.Colon c → Spells all_levels v ys → (m : Token) → IsSign sign.Semicolon m → SpellsCases bs zs
    → SpellsCases (branch w v bs) (xs ++ c ∷ (ys ++ m ∷ zs))
cases_push d c e f m g (last_case s c2 e2 d2 m2 f2 z h) = case_before d c e f m g (last_case s c2 e2 d2 m2 f2 z h)
cases_push d c e f m g (case_before s c2 e2 d2 m2 f2 more) = case_before d c e f m g (case_before s c2 e2 d2 m2 f2 more)

-- a frame takes a token
accept_means : (f : Frame) (k : List Frame) (t : Tree) (x : Token) (q : List Token) (r : State) → Held (f ∷ k) t q → accept f t x.kind k ≡ Some r → Means r (q ++ x ∷ [])
accept_means (operand j below p front) k t x q r h e =
    let w = operand_held j below p front k t q h in
    let i = mapped_some (λ op. ask below (operand j below p (joined (taken front t) op) ∷ k)) (infix_of j x.kind) r e in
    let n : Means (ask below (operand j below p (joined (taken front t) i.0) ∷ k)) (q ++ x ∷ []) = λ _. (w.0, w.1, x, itself below, ap (λ l. l ++ x ∷ []) w.2 ∙ append_assoc w.0 w.1 (x ∷ []), i.1, w.3, w.4, w.5) in
    subst (λ v. Means v (q ++ x ∷ [])) i.2 n
accept_means (when below p bs) k t x q r h e =
    let w = h.5 in
    accepted (is_sign sign.Question x.kind) (ask below (value below p bs t ∷ k)) r _ e
    (λ b _. (
      w.0,
      w.1,
      h.2,
      x,
      itself below,
      ap (λ l. l ++ x ∷ []) (h.3 ∙ ap (λ l. l ++ h.2) w.3) ∙ simp append_assoc,
      w.4,
      w.2 t h.2 h.4,
      sign_is x.kind sign.Question b,
      w.5 ∙ start_or_is w.1 h.2,
      w.6,
    ))
accept_means (value below p bs u) k t x q r h e =
    let w = h.5 in
    let more_tokens = w.2 ++ w.3 ∷ (h.2 ++ x ∷ []) in
    let before : IsSign sign.Colon x → PicksBefore below (bs ++ (u, t) ∷ []) (w.1 ++ more_tokens) = λ b rest v zs ps.
    subst (λ l. SpellsBranches below (branches_onto (bs ++ (u, t) ∷ []) rest) v l) (sym (append_assoc w.1 more_tokens zs ∙ ap (λ l. w.1 ++ l) (append_assoc w.2 (w.3 ∷ (h.2 ++ x ∷ [])) zs ∙ ap (λ l. w.2 ++ w.3 ∷ l) (append_assoc h.2 (x ∷ []) zs))))
    (subst (λ l. SpellsBranches below l v (w.1 ++ (w.2 ++ w.3 ∷ (h.2 ++ x ∷ zs)))) (sym (branches_push bs u t rest)) (w.6 (branch u t rest) v (w.2 ++ w.3 ∷ (h.2 ++ x ∷ zs)) (picks w.7 w.3 w.8 (w.4 t h.2 h.4) x b ps))) in
    accepted (is_sign sign.Colon x.kind) (ask below (when below p (bs ++ (u, t) ∷ []) ∷ k)) r _ e
    (λ b s. (
      w.0,
      w.1 ++ more_tokens,
      itself below,
      ap (λ l. l ++ x ∷ []) (h.3 ∙ ap (λ l. l ++ h.2) w.5) ∙ simp append_assoc,
      before (sign_is x.kind sign.Colon b),
      w.9 ∙ start_or_front w.1 w.2 (filled w.7) (w.3 ∷ (h.2 ++ x ∷ [])) s,
      w.10,
    ))
accept_means (signs pre below p n) k t x q r h e = cc
accept_means (selected p) k t x q r h e =
    let w = h.5 in
    accepted (is_sign sign.OpenBracket x.kind) (high_end p t k) r _ e
    (λ b. (x, sign_is x.kind sign.OpenBracket b, (w.0, h.1, h.2, ap (λ l. l ++ x ∷ []) h.3 ∙ append_assoc h.1 h.2 (x ∷ []), w.1 t h.2 h.4, w.2, subst (Waits k (Selection ∷ w.0) h.1) (sym w.2) w.3)))
accept_means bracket k t x q r h e =
    let w = h.5 in
    accepted (is_sign sign.Close x.kind) (have t k) r _ e
    (λ b. (
      [],
      w.0,
      w.1 ∷ (h.2 ++ x ∷ []),
      ap (λ l. l ++ x ∷ []) (h.3 ∙ ap (λ l. l ++ h.2) w.3) ∙ simp append_assoc,
      brackets w.1 w.4 (w.2 t h.2 h.4) x (sign_is x.kind sign.Close b),
      w.5,
    ))
accept_means (following p) k t x q r h e =
    let w = h.5 in
    accepted (is_sign sign.Close x.kind) (have (next_value p t) k) r _ e
    (λ b. (
      [],
      w.0,
      w.1 ∷ w.2 ∷ (h.2 ++ x ∷ []),
      ap (λ l. l ++ x ∷ []) (h.3 ∙ ap (λ l. l ++ h.2) w.4) ∙ simp append_assoc,
      subst (λ o. Spells [] (next_value o t) (w.1 ∷ w.2 ∷ (h.2 ++ x ∷ []))) (sym w.7) (nexts w.1 w.5 w.2 w.6 (w.3 t h.2 h.4) x (sign_is x.kind sign.Close b)),
      subst (Waits k [] w.0) w.7 w.8,
    ))
accept_means (listing p what all) k t x q r h e =
    accepted_or (is_sign sign.Comma x.kind) (ask all_levels (listing p what (all ++ t ∷ []) ∷ k)) r _ _ e comma (λ e. accepted (is_sign (closing_of what) x.kind) (have (listed p what (all ++ t ∷ [])) k) r _ e ended)
  where
    w : Waits (listing p what all ∷ k) h.0 h.1 (start h.2)
    w = h.5

    placed : q ++ x ∷ [] ≡ w.0 ++ (w.1 ++ (w.2 ++ (h.2 ++ x ∷ [])))
    placed = ap (λ l. l ++ x ∷ []) (h.3 ∙ ap (λ l. l ++ h.2) w.4) ∙ simp append_assoc

    spelled : Spells all_levels t h.2
    spelled = w.3 t h.2 h.4

    before : IsSign sign.Comma x → TreesBefore (closing_of what) (all ++ t ∷ []) (w.2 ++ (h.2 ++ x ∷ []))
    before b ts ys r =
        subst (λ l. SpellsListed (closing_of what) (trees_onto (all ++ t ∷ []) ts) l) (sym (append_assoc w.2 (h.2 ++ x ∷ []) ys ∙ ap (λ l. w.2 ++ l) (append_assoc h.2 (x ∷ []) ys)))
        (subst (λ l. SpellsListed (closing_of what) l (w.2 ++ (h.2 ++ x ∷ ys))) (sym (trees_push all t ts)) (w.6 (tree t ts) (h.2 ++ x ∷ ys) (listed_push spelled x b r)))

    comma : is_sign sign.Comma x.kind ≡ true → Means (ask all_levels (listing p what (all ++ t ∷ []) ∷ k)) (q ++ x ∷ [])
    comma b _ = (w.0, w.1, w.2 ++ (h.2 ++ x ∷ []), itself all_levels, placed, w.5, before (sign_is x.kind sign.Comma b), w.7)

    ended : is_sign (closing_of what) x.kind ≡ true → Held k (listed p what (all ++ t ∷ [])) (q ++ x ∷ [])
    ended b = (
      [],
      w.0,
      w.1 ++ (w.2 ++ (h.2 ++ x ∷ [])),
      placed,
      subst (λ u. Spells [] u (w.1 ++ (w.2 ++ (h.2 ++ x ∷ [])))) (sym (listed_made p what (all ++ t ∷ []) ∙ ap (made p what) (trees_all (all ++ t ∷ []) ∙ trees_push all t no_trees)))
          (w.5.0 (trees_onto all (tree t no_trees)) (w.2 ++ (h.2 ++ x ∷ [])) (w.6 (tree t no_trees) (h.2 ++ x ∷ []) (last_one spelled x (sign_is x.kind (closing_of what) b)))),
      subst (Waits k [] w.0) (sym (w.5.1 (w.2 ++ (h.2 ++ x ∷ [])))) w.7,
    )
accept_means (condition p bs) k t x q r h e =
    let w = h.5 in
    accepted (is_sign sign.Colon x.kind) (ask all_levels (result p bs t ∷ k)) r _ e
    (λ b _. (
      w.0,
      w.1,
      w.2,
      h.2,
      x,
      itself all_levels,
      ap (λ l. l ++ x ∷ []) (h.3 ∙ ap (λ l. l ++ h.2) w.4) ∙ simp append_assoc,
      w.5,
      w.6,
      w.3 t h.2 h.4,
      sign_is x.kind sign.Colon b,
      w.7,
      w.8,
    ))
accept_means (result p bs u) k t x q r h e =
    let w = h.5 in
    let more_tokens = w.3 ++ w.4 ∷ (h.2 ++ x ∷ []) in
    let joins : (zs : List Token) → (w.2 ++ more_tokens) ++ zs ≡ w.2 ++ (w.3 ++ w.4 ∷ (h.2 ++ x ∷ zs)) = λ zs. simp append_assoc in
    let before : IsSign sign.Semicolon x → CasesBefore (bs ++ (u, t) ∷ []) (w.2 ++ more_tokens) = λ b rest zs ps.
    subst (λ l. SpellsCases (branches_onto (bs ++ (u, t) ∷ []) rest) l) (sym (joins zs))
    (subst (λ l. SpellsCases l (w.2 ++ (w.3 ++ w.4 ∷ (h.2 ++ x ∷ zs)))) (sym (branches_push bs u t rest)) (w.8 (branch u t rest) (w.3 ++ w.4 ∷ (h.2 ++ x ∷ zs)) (cases_push w.9 w.4 w.10 (w.5 t h.2 h.4) x b ps))) in
    let ends : IsSign sign.Semicolon x → (z : Token) → z.kind ≡ kind.Reserved word.Esac → SpellsCases (branches_of (bs ++ (u, t) ∷ [])) ((w.2 ++ more_tokens) ++ z ∷ []) = λ b z f.
    subst (λ l. SpellsCases (branches_of (bs ++ (u, t) ∷ [])) l) (sym (joins (z ∷ [])))
    (subst (λ l. SpellsCases l (w.2 ++ (w.3 ++ w.4 ∷ (h.2 ++ x ∷ z ∷ [])))) (sym (branches_all (bs ++ (u, t) ∷ []) ∙ branches_push bs u t no_branches))
    (w.8 (branch u t no_branches) (w.3 ++ w.4 ∷ (h.2 ++ x ∷ z ∷ [])) (last_case w.9 w.4 w.10 (w.5 t h.2 h.4) x b z f))) in
    accepted (is_sign sign.Semicolon x.kind) (case_goes p (bs ++ (u, t) ∷ []) k) r _ e
    (λ b. (
      w.0,
      w.1,
      w.2 ++ more_tokens,
      ap (λ l. l ++ x ∷ []) (h.3 ∙ ap (λ l. l ++ h.2) w.6) ∙ simp append_assoc,
      w.7,
      before (sign_is x.kind sign.Semicolon b),
      ends (sign_is x.kind sign.Semicolon b),
      w.11,
      w.12,
    ))

-- a frame takes no token, and the expression goes into a larger one
fold_means : (f : Frame) (k : List Frame) (t u : Tree) (q : List Token) → Held (f ∷ k) t q → folded f t ≡ Some u → Held k u q
fold_means (operand j below p front) k t u q h e =
    let w = operand_held j below p front k t q h in
    let n : Held k (whole p (taken front t)) q = (Chain j ∷ below, w.0, w.1, w.2, chain_spelled j below (taken front t) w.1 p w.3 w.4, subst (Waits k (Chain j ∷ below) w.0) w.4 w.5) in
    subst (λ v. Held k v q) (let i : whole p (taken front t) ≡ u = cc in i) n
fold_means (when below p bs) k t u q h e =
    let w = h.5 in
    let at : p ≡ start (w.1 ++ h.2) = w.5 ∙ start_or_is w.1 h.2 in
    let ps : SpellsBranches below (branches_of bs) t (w.1 ++ h.2) = subst (λ l. SpellsBranches below l t (w.1 ++ h.2)) (sym (branches_all bs)) (w.4 no_branches t h.2 (otherwise (w.2 t h.2 h.4))) in
    let held : Held k (choice_at p (branches_of bs) t) q = (
      Choice ∷ below,
      w.0,
      w.1 ++ h.2,
      h.3 ∙ ap (λ l. l ++ h.2) w.3 ∙ append_assoc w.0 w.1 h.2,
      choice_spelled below (branches_of bs) t (w.1 ++ h.2) p ps at,
      subst (Waits k (Choice ∷ below) w.0) at w.6,
    ) in
    subst (λ v. Held k v q) (let i : choice_at p (branches_of bs) t ≡ u = cc in i) held
fold_means (value below p bs w) k t u q h e = cc
fold_means (signs pre below p n) k t u q h e =
    let w = h.5 in
    let xs = w.1 ++ h.2 in
    let at : p ≡ start xs = w.7 ∙ sym (signs_start w.6 h.2) in
    let spelled : Spells (Before pre ∷ below) (prefix_tree (start w.1) pre (suc w.2) t) xs = prefixes w.6 (w.3 t h.2 h.4) in
    let held : Held k (prefix_tree p pre n t) q = (
      Before pre ∷ below,
      w.0,
      xs,
      h.3 ∙ ap (λ l. l ++ h.2) w.4 ∙ append_assoc w.0 w.1 h.2,
      subst (λ o. Spells (Before pre ∷ below) (prefix_tree o pre n t) xs) (sym w.7) (subst (λ m. Spells (Before pre ∷ below) (prefix_tree (start w.1) pre m t) xs) (sym w.5) spelled),
      subst (Waits k (Before pre ∷ below) w.0) at w.8,
    ) in
    subst (λ v. Held k v q) (let i : prefix_tree p pre n t ≡ u = cc in i) held
fold_means (selected p) k t u q h e =
    let w = h.5 in
    let held : Held k t q = (Selection ∷ w.0, h.1, h.2, h.3, w.1 t h.2 h.4, w.3) in
    subst (λ v. Held k v q) (let i : t ≡ u = cc in i) held
fold_means bracket k t u q h e = cc
fold_means (following p) k t u q h e = cc
fold_means (listing p what all) k t u q h e = cc
fold_means (condition p bs) k t u q h e = cc
fold_means (result p bs w) k t u q h e = cc

give_means : (k : List Frame) (t : Tree) (x : Token) (q : List Token) (r : State) → Held k t q → give k t x.kind ≡ onto r → Means r (q ++ x ∷ [])
give_means [] t x q r h e = cc
give_means (f ∷ k) t x q r h e = go (accept f t x.kind k) refl (folded f t) refl (λ u. give_means k u x q r) e
  where
    go : (a : Option State) → accept f t x.kind k ≡ a → (o : Option Tree) → folded f t ≡ o → ((u : Tree) → Held k u q → give k u x.kind ≡ onto r → Means r (q ++ x ∷ []))
        → or_else a (with_folded o nowhere (λ u. give k u x.kind)) ≡ onto r → Means r (q ++ x ∷ [])
    go (Some s) a o b ih e = meant s r _ e (accept_means f k t x q s h a)
    go None a (Some u) b ih e = ih u (fold_means f k t u q h b) e
    go None a None b ih e = cc

held_whole : (t u : Tree) (q : List Token) → Held [] t q → t ≡ u → Spells all_levels u q
held_whole t u q h e = subst (λ l. Spells all_levels u l) (sym (h.3 ∙ ap (λ l. l ++ h.2) h.5.1)) (subst (λ v. Spells all_levels v h.2) e (h.5.0 t h.2 h.4))

give_behind : (k : List Frame) (t u : Tree) (x : Token) (q : List Token) → Held k t q → give k t x.kind ≡ behind u → Spells all_levels u q
give_behind [] t u x q h e = held_whole t u q h (let i : t ≡ u = cc in i)
give_behind (f ∷ k) t u x q h e = go (accept f t x.kind k) (folded f t) refl (λ v. give_behind k v u x q) e
  where
    go : (a : Option State) (o : Option Tree) → folded f t ≡ o → ((v : Tree) → Held k v q → give k v x.kind ≡ behind u → Spells all_levels u q)
        → or_else a (with_folded o nowhere (λ v. give k v x.kind)) ≡ behind u → Spells all_levels u q
    go (Some s) o b ih e = cc
    go None (Some v) b ih e = ih v (fold_means f k t v q h b) e
    go None None b ih e = cc

finish_means : (k : List Frame) (t u : Tree) (q : List Token) → Held k t q → finish k t ≡ Some u → Spells all_levels u q
finish_means [] t u q h e = held_whole t u q h (let i : t ≡ u = cc in i)
finish_means (f ∷ k) t u q h e = go (folded f t) refl (λ v. finish_means k v u q) e
  where
    go : (o : Option Tree) → folded f t ≡ o → ((v : Tree) → Held k v q → finish k v ≡ Some u → Spells all_levels u q) → with_folded o None (finish k) ≡ Some u → Spells all_levels u q
    go None b ih e = cc
    go (Some v) b ih e = ih v (fold_means f k t v q h b) e

-- what waits for the number behind a minus
negative_held : (below : List Level) (p r : Place) (n : ℕ) (k : List Frame) (q : List Token) (f : List Level × List Frame) → Means (negative below p r n k) q → minus_to below p k ≡ Some f → Held (number_pushed p r f) (number r n) q
negative_held below p r n k q f m e = (
  [],
  m.0 ++ m.1 ∷ [],
  m.2 ∷ [],
  m.3 ∙ sym (append_assoc m.0 (m.1 ∷ []) (m.2 ∷ [])),
  subst (λ o. Spells [] (number o n) (m.2 ∷ [])) (sym m.7) (numbers m.2 m.5),
  subst (λ o. Waits (number_pushed p r f) [] (m.0 ++ m.1 ∷ []) o) m.7
      (pushed_waits f.0 (signs prefix.Minus f.0 p 1 ∷ f.1) (m.0 ++ m.1 ∷ []) r
      (m.0, m.1 ∷ [], 0, itself f.0, refl, refl, sign_then m.1 m.4 no_signs, m.6, minus_waits below k m.0 p f (lowers k (Range ∷ below) below m.0 p (λ t xs d. pass d) m.8) e)),
)

integer_held : (below : List Level) (p : Place) (n : ℕ) (k : List Frame) (q : List Token) → Means (integer below p n k) q → Held (pushed below p k) (number p n) q
integer_held below p n k q m = (
  [],
  m.0,
  m.1 ∷ [],
  m.2,
  subst (λ o. Spells [] (number o n) (m.1 ∷ [])) (sym m.4) (numbers m.1 m.3),
  subst (Waits (pushed below p k) [] m.0) m.4 (pushed_waits below k m.0 p (lowers k (Range ∷ below) below m.0 p (λ t xs d. pass d) m.5)),
)

path_start : (path : Path) (xs : List Token) → SpellsPath path xs → path.place ≡ start xs
path_start path xs (from_name x e s) = refl
path_start path xs (from_itself x e s) = refl

named_held : (path : Path) (k : List Frame) (q : List Token) → Means (named path k) q → Held k (name path.place path) q
named_held path k q m =
    let at = path_start path m.1 m.3 in ([], m.0, m.1, m.2, subst (λ o. Spells [] (name o path) m.1) (sym at) (names m.3), subst (Waits k [] m.0) at m.4)

steps_push : {ns : List (List ℕ)} {xs : List Token} → SpellsSteps ns xs → (d x : Token) (n : List ℕ) → IsSign sign.Dot d → x.kind ≡ kind.Ident n → SpellsSteps (ns ++ n ∷ []) (xs ++ d ∷ x ∷ [])
steps_push no_steps d x n e f = step d x e f no_steps
steps_push (step c y g h s) d x n e f = step c y g h (steps_push s d x n e f)

path_push : (path : Path) (xs : List Token) → SpellsPath path xs → (d x : Token) (n : List ℕ) → IsSign sign.Dot d → x.kind ≡ kind.Ident n → SpellsPath (longer path n) (xs ++ d ∷ x ∷ [])
path_push path xs (from_name y g s) d x n e f = from_name y g (steps_push s d x n e f)
path_push path xs (from_itself y g s) d x n e f = from_itself y g (steps_push s d x n e f)

integer_some : {z : ℤ} {xs : List Token} → SpellsInteger z xs → (r : List Token) → start (xs ++ r) ≡ start xs
integer_some (unsigned x e) r = refl
integer_some (negative_integer x y e f) r = refl

-- a range was read
ranged_held : (p : Place) (low high : ℤ) (k : List Frame) (q vs : List Token) → Ranged p low k vs q → SpellsInteger high vs → Held k (range p low high) q
ranged_held p low high k q vs m h =
    let xs = m.2 ++ m.3 ∷ vs in
    let at : p ≡ start xs = m.7 ∙ sym (integer_some m.5 (m.3 ∷ vs)) in
    (Range ∷ m.0, m.1, xs, m.4, subst (λ o. Spells (Range ∷ m.0) (range o low high) xs) (sym m.7) (ranges m.5 m.3 m.6 h), subst (Waits k (Range ∷ m.0) m.1) at m.8)

ranged_push : (p : Place) (low : ℤ) (k : List Frame) (q vs : List Token) (x : Token) → Ranged p low k vs q → Ranged p low k (vs ++ x ∷ []) (q ++ x ∷ [])
ranged_push p low k q vs x m = (m.0, m.1, m.2, m.3, ap (λ l. l ++ x ∷ []) m.4 ∙ simp append_assoc, m.5, m.6, m.7, m.8)

selected_push : (p : Place) (t : Tree) (k : List Frame) (vs q : List Token) (x : Token) → Selected p t k vs q → Selected p t k (vs ++ x ∷ []) (q ++ x ∷ [])
selected_push p t k vs q x m = (m.0, m.1, m.2, ap (λ l. l ++ x ∷ []) m.3 ∙ simp append_assoc, m.4, m.5, m.6)

after_sign_means : (pre : Prefix) (below : List Level) (p : Place) (n : ℕ) (k : List Frame) (x : Token) (q : List Token) (r : State) → Means (signed pre below p n k) q
    → after_sign pre below p n k x.place x.kind ≡ onto r → Means r (q ++ x ∷ [])
after_sign_means pre below p n k x q r m e =
    meant_or (is_prefix pre x.kind) (signed pre below p (suc n) k) r _ _ e
    (λ b. (m.0, m.1 ++ x ∷ [], suc m.2, ap (λ l. l ++ x ∷ []) m.3 ∙ append_assoc m.0 m.1 (x ∷ []), ap suc m.4, signs_push m.5 x (prefix_is pre x b), m.6 ∙ sym (signs_start m.5 (x ∷ [])), m.7))
    (begin_means below (signs pre below p n ∷ k) q x r (m.0, m.1, m.2, itself below, m.3, m.4, m.5, m.6, m.7))

after_minus_means : (below : List Level) (p : Place) (k : List Frame) (x : Token) (q : List Token) (r : State) → Means (minus below p k) q → after_minus below p k x.place x.kind ≡ onto r → Means r (q ++ x ∷ [])
after_minus_means below p k x q r m e = by x.kind refl e
  where
    one : (o : Option (List Level × List Frame)) → minus_to below p k ≡ o → after_one o p x.place x.kind ≡ onto r → Means r (q ++ x ∷ [])
    one None f e = cc
    one (Some g) f e =
        after_sign_means prefix.Minus g.0 p 1 g.1 x q r (m.0, m.1 ∷ [], 0, m.2, refl, sign_then m.1 m.3 no_signs, m.4, minus_waits below k m.0 p g (lowers k (Range ∷ below) below m.0 p (λ t xs d. pass d) m.5) f) e

    by : (z : TokenKind) → x.kind ≡ z → after_minus below p k x.place z ≡ onto r → Means r (q ++ x ∷ [])
    by (kind.Number n) same h = meant (negative below p x.place n k) r _ h (m.0, m.1, x, ap (λ l. l ++ x ∷ []) m.2 ∙ append_assoc m.0 (m.1 ∷ []) (x ∷ []), m.3, same, m.4, refl, m.5)
    by (kind.Ident n) same h = one (minus_to below p k) refl (ap (after_one (minus_to below p k) p x.place) same ∙ h)
    by _ same h = one (minus_to below p k) refl (ap (after_one (minus_to below p k) p x.place) same ∙ h)

upto_means : (p : Place) (low : ℤ) (k : List Frame) (x : Token) (q : List Token) (r : State) → Means (upto p low k) q → range_end p low k x.kind ≡ onto r → Means r (q ++ x ∷ [])
upto_means p low k x q r m e = by x.kind refl e
  where
    by : (z : TokenKind) → x.kind ≡ z → range_end p low k z ≡ onto r → Means r (q ++ x ∷ [])
    by (kind.Number n) same h = meant (have (range p low (pos n)) k) r _ h (ranged_held p low (pos n) k (q ++ x ∷ []) (x ∷ []) (ranged_push p low k q [] x m) (unsigned x same))
    by (kind.Sign sign.Minus) same h = meant (upto_minus p low k) r _ h (x, same, ranged_push p low k q [] x m)
    by (kind.Sign _) same h = cc
    by (kind.Ident n) same h = cc
    by _ same h = cc

dotted_means : (path : Path) (k : List Frame) (x : Token) (q : List Token) (r : State) → Means (dotted path k) q → take_name x.kind (λ n. named (longer path n) k) ≡ onto r → Means r (q ++ x ∷ [])
dotted_means path k x q r m e = by x.kind refl e
  where
    by : (z : TokenKind) → x.kind ≡ z → take_name z (λ n. named (longer path n) k) ≡ onto r → Means r (q ++ x ∷ [])
    by (kind.Ident n) same h =
        meant (named (longer path n) k) r _ h (m.0, m.1 ++ m.2 ∷ x ∷ [], ap (λ l. l ++ x ∷ []) m.3 ∙ simp append_assoc, path_push path m.1 m.4 m.2 x n m.5 same, m.6)
    by (kind.Number n) same h = cc
    by _ same h = cc

move_means : (s : State) (x : Token) (q : List Token) (r : State) → Means s q → move s x ≡ onto r → Means r (q ++ x ∷ [])
move_means (ask ls k) x q r m e = begin_means ls k q x r (m x.place) e
move_means (have t k) x q r m e = give_means k t x q r m e
move_means (signed pre below p n k) x q r m e = after_sign_means pre below p n k x q r m e
move_means (integer below p n k) x q r m e =
    meant_or (is_sign sign.Range x.kind) (upto p (pos n) k) r _ _ e
    (λ b. (below, m.0, m.1 ∷ [], x, ap (λ l. l ++ x ∷ []) m.2 ∙ simp append_assoc, unsigned m.1 m.3, sign_is x.kind sign.Range b, m.4, m.5))
    (give_means (pushed below p k) (number p n) x q r (integer_held below p n k q m))
move_means (minus below p k) x q r m e = after_minus_means below p k x q r m e
move_means (negative below p l n k) x q r m e =
    meant_or (is_sign sign.Range x.kind) (upto p (pos 0 -ℤ pos n) k) r _ _ e
    (λ b. (below, m.0, m.1 ∷ m.2 ∷ [], x, ap (λ l. l ++ x ∷ []) m.3 ∙ simp append_assoc, negative_integer m.1 m.2 m.4 m.5, sign_is x.kind sign.Range b, m.6, m.8))
    (gives (minus_to below p k) refl)
  where
    gives : (o : Option (List Level × List Frame)) → minus_to below p k ≡ o → number_gives o p l n x.kind ≡ onto r → Means r (q ++ x ∷ [])
    gives None f e = cc
    gives (Some g) f e = give_means (number_pushed p l g) (number l n) x q r (negative_held below p l n k q g m f) e
move_means (upto p low k) x q r m e = upto_means p low k x q r m e
move_means (upto_minus p low k) x q r m e =
    numbered x.kind (λ n. have (range p low (pos 0 -ℤ pos n)) k) r _ e
    (λ n same. ranged_held p low (pos 0 -ℤ pos n) k (q ++ x ∷ []) (m.0 ∷ x ∷ []) (ranged_push p low k q (m.0 ∷ []) x m.2) (negative_integer m.0 x m.1 same))
move_means (named path k) x q r m e =
    meant_or (is_sign sign.Dot x.kind) (dotted path k) r _ _ e (λ b. (m.0, m.1, x, ap (λ l. l ++ x ∷ []) m.2 ∙ append_assoc m.0 m.1 (x ∷ []), m.3, sign_is x.kind sign.Dot b, m.4))
    (give_means k (name path.place path) x q r (named_held path k q m))
move_means (dotted path k) x q r m e = dotted_means path k x q r m e
move_means (open_next p k) x q r m e =
    meant_if (is_sign sign.Open x.kind) (ask all_levels (following p ∷ k)) r _ e
    (λ b _. (m.0, m.1, x, itself all_levels, ap (λ l. l ++ x ∷ []) m.2 ∙ append_assoc m.0 (m.1 ∷ []) (x ∷ []), m.3, sign_is x.kind sign.Open b, m.4, m.5))
move_means (open_call p f k) x q r m e =
    meant_if (is_sign sign.Open x.kind) (ask all_levels (listing p (Arguments f) [] ∷ k)) r _ e
    (λ b _. (
      m.0,
      m.1 ∷ x ∷ [],
      [],
      itself all_levels,
      ap (λ l. l ++ x ∷ []) m.2 ∙ append_assoc m.0 (m.1 ∷ []) (x ∷ []),
      (λ ts xs d. subst (λ o. Spells [] (call o f ts) (m.1 ∷ x ∷ xs)) (sym m.4) (calls m.1 m.3 x (sign_is x.kind sign.Open b) d), λ xs. sym m.4),
      λ ts ys d. d,
      m.5,
    ))
move_means (high_end p t k) x q r m e = numbered x.kind (λ n. high_colon p t n k) r _ e (λ n same. (m.0, x, m.1, same, selected_push p t k (m.0 ∷ []) q x m.2))
move_means (high_colon p t n k) x q r m e =
    meant_if (is_sign sign.Colon x.kind) (low_end p t n k) r _ e (λ b. (m.0, m.1, x, m.2, m.3, sign_is x.kind sign.Colon b, selected_push p t k (m.0 ∷ m.1 ∷ []) q x m.4))
move_means (low_end p t n k) x q r m e =
    numbered x.kind (λ i. low_close p t n i k) r _ e (λ i same. (m.0, m.1, m.2, x, m.3, m.4, m.5, same, selected_push p t k (m.0 ∷ m.1 ∷ m.2 ∷ []) q x m.6))
move_means (low_close p t n i k) x q r m e =
    meant_if (is_sign sign.CloseBracket x.kind) (have (select p t n i) (selected p ∷ k)) r _ e
    (λ b.
    let d = selected_push p t k (m.0 ∷ m.1 ∷ m.2 ∷ m.3 ∷ []) q x m.8 in
    let xs = d.2 ++ (m.0 ∷ m.1 ∷ m.2 ∷ m.3 ∷ x ∷ []) in
    let at : p ≡ start xs = d.5 ∙ sym (start_front d.4 (m.0 ∷ m.1 ∷ m.2 ∷ m.3 ∷ x ∷ [])) in (
      Selection ∷ d.0,
      d.1,
      xs,
      d.3,
      subst (λ o. Spells (Selection ∷ d.0) (select o t n i) xs) (sym d.5) (selects d.4 m.0 m.1 m.2 m.3 x m.4 m.5 m.6 m.7 (sign_is x.kind sign.CloseBracket b)),
      (d.0, itself (Selection ∷ d.0), at, subst (Waits k (Selection ∷ d.0) d.1) at d.6),
    ))
move_means (case_goes p all k) x q r m e =
    meant_or (is_word word.Esac x.kind) (have (cases p (branches_of all)) k) r _ _ e
    (λ b. (
      [],
      m.0,
      m.1 ∷ (m.2 ++ x ∷ []),
      ap (λ l. l ++ x ∷ []) m.3 ∙ append_assoc m.0 (m.1 ∷ m.2) (x ∷ []),
      subst (λ o. Spells [] (cases o (branches_of all)) (m.1 ∷ (m.2 ++ x ∷ []))) (sym m.7) (switches m.1 m.4 (m.6 x (word_is x.kind word.Esac b))),
      subst (Waits k [] m.0) m.7 m.8,
    ))
    (begin_means all_levels (condition p all ∷ k) q x r (m.0, m.1, m.2, itself all_levels, m.3, m.4, m.5, m.7, m.8))

-- nothing that has not ended is left behind
primary_stays : (l : Leader) (k : List Frame) (p : Place) (z : TokenKind) (u : Tree) → primary l k p z ≡ behind u → ⊥
primary_stays (leader.Number n) k p z u e = cc
primary_stays leader.Path k p z u e = cc
primary_stays _ k p z u e = cc

begin_stays : (ls : List Level) (k : List Frame) (p : Place) (z : TokenKind) (u : Tree) → begin ls k p z ≡ behind u → ⊥
begin_stays [] k p z u e = primary_stays (leader_of z) k p z u e
begin_stays (Chain j ∷ below) k p z u e = begin_stays below _ p z u e
begin_stays (Choice ∷ below) k p z u e = begin_stays below _ p z u e
begin_stays (Range ∷ below) k p z u e = go z (begin_stays below k p z u) e
  where
    go : (y : TokenKind) → (begin below k p z ≡ behind u → ⊥) → begin_integer y (begin below k p z) below p k ≡ behind u → ⊥
    go (kind.Number n) ih h = cc
    go (kind.Sign sign.Minus) ih h = cc
    go (kind.Sign _) ih h = ih h
    go (kind.Ident n) ih h = ih h
    go _ ih h = ih h
begin_stays (Before pre ∷ below) k p z u e = go (is_prefix pre z) (begin_stays below k p z u) e
  where
    go : (b : Bool) → (begin below k p z ≡ behind u → ⊥) → cond b (onto (signed pre below p 1 k)) (begin below k p z) ≡ behind u → ⊥
    go true ih h = cc
    go false ih h = ih h
begin_stays (Selection ∷ below) k p z u e = begin_stays below _ p z u e

after_sign_stays : (pre : Prefix) (below : List Level) (p : Place) (n : ℕ) (k : List Frame) (q : Place) (z : TokenKind) (u : Tree) → after_sign pre below p n k q z ≡ behind u → ⊥
after_sign_stays pre below p n k q z u e = go (is_prefix pre z) e
  where
    go : (b : Bool) → cond b (onto (signed pre below p (suc n) k)) (begin below (signs pre below p n ∷ k) q z) ≡ behind u → ⊥
    go true h = cc
    go false h = begin_stays below (signs pre below p n ∷ k) q z u h

after_minus_stays : (below : List Level) (p : Place) (k : List Frame) (q : Place) (z : TokenKind) (u : Tree) → after_minus below p k q z ≡ behind u → ⊥
after_minus_stays below p k q z u e = by z e
  where
    one : (o : Option (List Level × List Frame)) (y : TokenKind) → after_one o p q y ≡ behind u → ⊥
    one None y e = cc
    one (Some g) y e = after_sign_stays prefix.Minus g.0 p 1 g.1 q y u e

    by : (y : TokenKind) → after_minus below p k q y ≡ behind u → ⊥
    by (kind.Number n) e = cc
    by (kind.Ident n) e = one (minus_to below p k) (kind.Ident n) e
    by (kind.Sign s) e = one (minus_to below p k) (kind.Sign s) e
    by (kind.Reserved w) e = one (minus_to below p k) (kind.Reserved w) e
    by (kind.Literal w) e = one (minus_to below p k) (kind.Literal w) e
    by kind.Refused e = one (minus_to below p k) kind.Refused e

range_stays : (p : Place) (low : ℤ) (k : List Frame) (z : TokenKind) (u : Tree) → range_end p low k z ≡ behind u → ⊥
range_stays p low k (kind.Number n) u e = cc
range_stays p low k (kind.Sign sign.Minus) u e = cc
range_stays p low k (kind.Sign _) u e = cc
range_stays p low k _ u e = cc

number_stays : (z : TokenKind) (s : ℕ → State) (u : Tree) → take_number z s ≡ behind u → ⊥
number_stays (kind.Number n) s u e = cc
number_stays _ s u e = cc

name_stays : (z : TokenKind) (s : List ℕ → State) (u : Tree) → take_name z s ≡ behind u → ⊥
name_stays (kind.Ident n) s u e = cc
name_stays (kind.Number n) s u e = cc
name_stays _ s u e = cc

expects_stays : (b : Bool) (s : State) (u : Tree) → expects b s ≡ behind u → ⊥
expects_stays true s u e = cc
expects_stays false s u e = cc

or_behind : (b : Bool) (s : State) (other : Move) (u : Tree) (A : Type 0) → cond b (onto s) other ≡ behind u → (other ≡ behind u → A) → A
or_behind true s other u A e h = cc
or_behind false s other u A e h = h e

move_ends : (s : State) (x : Token) (q : List Token) (u : Tree) → Means s q → move s x ≡ behind u → Spells all_levels u q
move_ends (ask ls k) x q u m e = absurd (begin_stays ls k x.place x.kind u e)
move_ends (have t k) x q u m e = give_behind k t u x q m e
move_ends (signed pre below p n k) x q u m e = absurd (after_sign_stays pre below p n k x.place x.kind u e)
move_ends (integer below p n k) x q u m e = or_behind (is_sign sign.Range x.kind) _ _ u _ e (give_behind (pushed below p k) (number p n) u x q (integer_held below p n k q m))
move_ends (minus below p k) x q u m e = absurd (after_minus_stays below p k x.place x.kind u e)
move_ends (negative below p l n k) x q u m e = or_behind (is_sign sign.Range x.kind) _ _ u _ e (gives (minus_to below p k) refl)
  where
    gives : (o : Option (List Level × List Frame)) → minus_to below p k ≡ o → number_gives o p l n x.kind ≡ behind u → Spells all_levels u q
    gives None f e = cc
    gives (Some g) f e = give_behind (number_pushed p l g) (number l n) u x q (negative_held below p l n k q g m f) e
move_ends (upto p low k) x q u m e = absurd (range_stays p low k x.kind u e)
move_ends (upto_minus p low k) x q u m e = absurd (number_stays x.kind _ u e)
move_ends (named path k) x q u m e = or_behind (is_sign sign.Dot x.kind) _ _ u _ e (give_behind k (name path.place path) u x q (named_held path k q m))
move_ends (dotted path k) x q u m e = absurd (name_stays x.kind _ u e)
move_ends (open_next p k) x q u m e = absurd (expects_stays (is_sign sign.Open x.kind) _ u e)
move_ends (open_call p f k) x q u m e = absurd (expects_stays (is_sign sign.Open x.kind) _ u e)
move_ends (high_end p t k) x q u m e = absurd (number_stays x.kind _ u e)
move_ends (high_colon p t n k) x q u m e = absurd (expects_stays (is_sign sign.Colon x.kind) _ u e)
move_ends (low_end p t n k) x q u m e = absurd (number_stays x.kind _ u e)
move_ends (low_close p t n i k) x q u m e = absurd (expects_stays (is_sign sign.CloseBracket x.kind) _ u e)
move_ends (case_goes p all k) x q u m e = or_behind (is_word word.Esac x.kind) _ _ u _ e (λ h. absurd (begin_stays all_levels (condition p all ∷ k) x.place x.kind u h))

halt_means : (s : State) (u : Tree) (q : List Token) → Means s q → halt s ≡ Some u → Spells all_levels u q
halt_means (have t k) u q m e = finish_means k t u q m e
halt_means (integer below p n k) u q m e = finish_means (pushed below p k) (number p n) u q (integer_held below p n k q m) e
halt_means (negative below p l n k) u q m e = halts (minus_to below p k) refl e
  where
    halts : (o : Option (List Level × List Frame)) → minus_to below p k ≡ o → number_halts o p l n ≡ Some u → Spells all_levels u q
    halts None f e = cc
    halts (Some g) f e = finish_means (number_pushed p l g) (number l n) u q (negative_held below p l n k q g m f) e
halt_means (named path k) u q m e = finish_means k (name path.place path) u q (named_held path k q m) e
halt_means (ask ls k) u q m e = cc
halt_means _ u q m e = cc

-- the tokens that were read spell what was reached
pub record IsReached (q xs : List Token) (u : Tree) (rest : List Token) : Type 0 where
  pub read : List Token
  pub parts : xs ≡ read ++ rest
  pub spelled : Spells all_levels u (q ++ read)

walk_means : (xs : List Token) (s : State) (q : List Token) (u : Tree) (rest : List Token) → Means s q → walk xs s ≡ reached u rest → IsReached q xs u rest
unfolding walk
walk_means [] s q u rest m e = go (halt s) refl e
  where
    go : (o : Option Tree) → halt s ≡ o → halted o ≡ reached u rest → IsReached q [] u rest
    go None f e = cc
    go (Some v) f e =
        let none : [] ≡ rest = cc in
        let same : v ≡ u = cc in
        record { read = []; parts = none; spelled = subst (λ l. Spells all_levels u l) (sym (append-nil q)) (halt_means s u q m (f ∙ ap Some same)) }
walk_means (x ∷ xs) s q u rest m e = go (move s x) refl (λ r. walk_means xs r (q ++ x ∷ []) u rest) e
  where
    go : (o : Move) → move s x ≡ o → ((r : State) → Means r (q ++ x ∷ []) → walk xs r ≡ reached u rest → IsReached (q ++ x ∷ []) xs u rest) → along o x xs (λ r. walk xs r) ≡ reached u rest → IsReached q (x ∷ xs) u rest
    go (onto r) f ih e =
        let i = ih r (move_means s x q r m f) e in record { read = x ∷ i.read; parts = ap (λ l. x ∷ l) i.parts; spelled = subst (λ l. Spells all_levels u l) (append_assoc q (x ∷ []) i.read) i.spelled }
    go (behind v) f ih e =
        let none : x ∷ xs ≡ rest = cc in
        let same : v ≡ u = cc in
        record { read = []; parts = none; spelled = subst (λ l. Spells all_levels u l) (sym (append-nil q)) (move_ends s x q u m (f ∙ ap behind same)) }
    go nowhere f ih e = cc

-- from the start
pub spelled : (xs : List Token) (u : Tree) (rest : List Token) → walk xs (ask all_levels []) ≡ reached u rest → IsReached [] xs u rest
spelled xs u rest e = walk_means xs (ask all_levels []) [] u rest (λ _. (itself all_levels, refl)) e
