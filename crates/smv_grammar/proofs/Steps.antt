-- How the machine goes on, one frame at a time.
use Rattle.std.proofs.Common.{◌≡◌, ℕ, ℤ, pos, ◌-ℤ◌, suc, Bool, true, false, cond, Option, Some, None, option_map, List, [], ◌∷◌, ◌++◌, length, refl, ap, ◌∙◌, subst}
use Rattle.text_core.specs.declared.place.Place.{Place}
use Rattle.smv_text.specs.declared.token.Reserved.TheVariants as word
use Rattle.smv_text.specs.declared.token.Sign.{Sign}
use Rattle.smv_text.specs.declared.token.Sign.TheVariants as sign
use Rattle.smv_text.specs.declared.token.Token.{Token}
use Rattle.smv_text.specs.declared.token.TokenKind.{TokenKind}
use Rattle.smv_text.specs.declared.token.TokenKind.TheVariants as kind
use Rattle.smv_text.specs.declared.tree.Path.{Path}
use Rattle.smv_text.specs.declared.operators.Prefix.{Prefix}
use Rattle.smv_text.specs.declared.operators.Infix.{Infix}
use Rattle.smv_text.specs.declared.operators.Function.{Function}
use Rattle.smv_text.specs.declared.level.OperatorClass.{OperatorClass}
use Rattle.smv_text.specs.declared.level.Level.{Level}
use Rattle.smv_text.specs.Levels.{all_levels, infix_of}
use Rattle.smv_text.specs.Tree.{Tree, name, prefix, cases, select, next, range, branches_of}
use Rattle.smv_grammar.specs.declared.listing.Listing.{Listing}
use Rattle.smv_grammar.specs.declared.listing.Listing.TheVariants.{Arguments}
use Rattle.smv_grammar.specs.Marks.{is_sign, is_word}
use Rattle.smv_grammar.specs.Machine.{prefix_sign, Chained, Front, joined, taken, whole, choice_at, Frame, operand, when, value, signs, selected, bracket, following, listing, condition, result, closing_of, listed, State, ask, have, signed, upto, upto_minus, named, dotted, open_next, open_call, high_end, high_colon, low_end, low_close, case_goes, Move, onto, or_else, give, begin, longer, Reach, failed, along, walk, expects, take_number, take_name, range_end}
use Rattle.smv_grammar.specs.Reading.{after, after_word, operator_after, Found, found, lost, number_at, first_number, negated, first_integer, integer_at, with_name, path_on, path_step}
use Rattle.smv_grammar.proofs.Signs.{after_found, not_minus}

-- what a test leads to
taking : (b : Bool) (s : State) (o : Move) (x : Token) (xs : List Token) (go : State → Reach) → b ≡ true → along (or_else (cond b (Some s) None) o) x xs go ≡ go s
taking true s o x xs go e = refl
taking false s o x xs go e = cc

leaving : (b : Bool) (s : State) (o : Move) (x : Token) (xs : List Token) (go : State → Reach) → b ≡ false → along (or_else (cond b (Some s) None) o) x xs go ≡ along o x xs go
leaving true s o x xs go e = cc
leaving false s o x xs go e = refl

module _ (k : List Frame) (t : Tree) (x : Token) (xs : List Token) where
  when_takes : (below : List Level) (p : Place) (bs : List (Tree × Tree)) → is_sign sign.Question x.kind ≡ true
      → walk (x ∷ xs) (have t (when below p bs ∷ k)) ≡ walk xs (ask below (value below p bs t ∷ k))
  unfolding walk
  when_takes below p bs e = taking (is_sign sign.Question x.kind) _ _ x xs _ e

  value_takes : (below : List Level) (p : Place) (bs : List (Tree × Tree)) (w : Tree) → is_sign sign.Colon x.kind ≡ true
      → walk (x ∷ xs) (have t (value below p bs w ∷ k)) ≡ walk xs (ask below (when below p (bs ++ (w, t) ∷ []) ∷ k))
  unfolding walk
  value_takes below p bs w e = taking (is_sign sign.Colon x.kind) _ _ x xs _ e

  selected_takes : (p : Place) → is_sign sign.OpenBracket x.kind ≡ true → walk (x ∷ xs) (have t (selected p ∷ k)) ≡ walk xs (high_end p t k)
  unfolding walk
  selected_takes p e = taking (is_sign sign.OpenBracket x.kind) _ _ x xs _ e

  bracket_takes : is_sign sign.Close x.kind ≡ true → walk (x ∷ xs) (have t (bracket ∷ k)) ≡ walk xs (have t k)
  unfolding walk
  bracket_takes e = taking (is_sign sign.Close x.kind) _ _ x xs _ e

  following_takes : (p : Place) → is_sign sign.Close x.kind ≡ true → walk (x ∷ xs) (have t (following p ∷ k)) ≡ walk xs (have (next p t) k)
  unfolding walk
  following_takes p e = taking (is_sign sign.Close x.kind) _ _ x xs _ e

  condition_takes : (p : Place) (bs : List (Tree × Tree)) → is_sign sign.Colon x.kind ≡ true
      → walk (x ∷ xs) (have t (condition p bs ∷ k)) ≡ walk xs (ask all_levels (result p bs t ∷ k))
  unfolding walk
  condition_takes p bs e = taking (is_sign sign.Colon x.kind) _ _ x xs _ e

  result_takes : (p : Place) (bs : List (Tree × Tree)) (w : Tree) → is_sign sign.Semicolon x.kind ≡ true
      → walk (x ∷ xs) (have t (result p bs w ∷ k)) ≡ walk xs (case_goes p (bs ++ (w, t) ∷ []) k)
  unfolding walk
  result_takes p bs w e = taking (is_sign sign.Semicolon x.kind) _ _ x xs _ e

  comma_taken : (a : Bool) (s : State) (o : Option State) (m : Move) (go : State → Reach) → a ≡ true → along (or_else (cond a (Some s) o) m) x xs go ≡ go s
  comma_taken true s o m go e = refl
  comma_taken false s o m go e = cc

  comma_left : (a : Bool) (s : State) (o : Option State) (m : Move) (go : State → Reach) → a ≡ false → along (or_else (cond a (Some s) o) m) x xs go ≡ along (or_else o m) x xs go
  comma_left true s o m go e = cc
  comma_left false s o m go e = refl

  listing_takes : (p : Place) (what : Listing) (ts : List Tree) → is_sign sign.Comma x.kind ≡ true
      → walk (x ∷ xs) (have t (listing p what ts ∷ k)) ≡ walk xs (ask all_levels (listing p what (ts ++ t ∷ []) ∷ k))
  unfolding walk
  listing_takes p what ts e = comma_taken (is_sign sign.Comma x.kind) _ _ _ _ e

  listing_closes : (p : Place) (what : Listing) (ts : List Tree) → is_sign sign.Comma x.kind ≡ false → is_sign (closing_of what) x.kind ≡ true
      → walk (x ∷ xs) (have t (listing p what ts ∷ k)) ≡ walk xs (have (listed p what (ts ++ t ∷ [])) k)
  unfolding walk
  listing_closes p what ts e f = comma_left (is_sign sign.Comma x.kind) _ _ _ _ e ∙ taking (is_sign (closing_of what) x.kind) _ _ x xs _ f

-- the same, by what the functions of the code find
module _ (k : List Frame) (t : Tree) (xs rest : List Token) where
  pub when_goes : (below : List Level) (p : Place) (bs : List (Tree × Tree)) → after sign.Question xs ≡ Some rest
      → walk xs (have t (when below p bs ∷ k)) ≡ walk rest (ask below (value below p bs t ∷ k))
  when_goes below p bs e = let f = after_found sign.Question xs rest e in ap (λ zs. walk zs (have t (when below p bs ∷ k))) f.1 ∙ when_takes k t f.0 rest below p bs f.2

  pub value_goes : (below : List Level) (p : Place) (bs : List (Tree × Tree)) (w : Tree) → after sign.Colon xs ≡ Some rest
      → walk xs (have t (value below p bs w ∷ k)) ≡ walk rest (ask below (when below p (bs ++ (w, t) ∷ []) ∷ k))
  value_goes below p bs w e = let f = after_found sign.Colon xs rest e in ap (λ zs. walk zs (have t (value below p bs w ∷ k))) f.1 ∙ value_takes k t f.0 rest below p bs w f.2

  pub selected_goes : (p : Place) → after sign.OpenBracket xs ≡ Some rest → walk xs (have t (selected p ∷ k)) ≡ walk rest (high_end p t k)
  selected_goes p e = let f = after_found sign.OpenBracket xs rest e in ap (λ zs. walk zs (have t (selected p ∷ k))) f.1 ∙ selected_takes k t f.0 rest p f.2

  pub bracket_goes : after sign.Close xs ≡ Some rest → walk xs (have t (bracket ∷ k)) ≡ walk rest (have t k)
  bracket_goes e = let f = after_found sign.Close xs rest e in ap (λ zs. walk zs (have t (bracket ∷ k))) f.1 ∙ bracket_takes k t f.0 rest f.2

  pub following_goes : (p : Place) → after sign.Close xs ≡ Some rest → walk xs (have t (following p ∷ k)) ≡ walk rest (have (next p t) k)
  following_goes p e = let f = after_found sign.Close xs rest e in ap (λ zs. walk zs (have t (following p ∷ k))) f.1 ∙ following_takes k t f.0 rest p f.2

  pub condition_goes : (p : Place) (bs : List (Tree × Tree)) → after sign.Colon xs ≡ Some rest → walk xs (have t (condition p bs ∷ k)) ≡ walk rest (ask all_levels (result p bs t ∷ k))
  condition_goes p bs e = let f = after_found sign.Colon xs rest e in ap (λ zs. walk zs (have t (condition p bs ∷ k))) f.1 ∙ condition_takes k t f.0 rest p bs f.2

  pub result_goes : (p : Place) (bs : List (Tree × Tree)) (w : Tree) → after sign.Semicolon xs ≡ Some rest → walk xs (have t (result p bs w ∷ k)) ≡ walk rest (case_goes p (bs ++ (w, t) ∷ []) k)
  result_goes p bs w e = let f = after_found sign.Semicolon xs rest e in ap (λ zs. walk zs (have t (result p bs w ∷ k))) f.1 ∙ result_takes k t f.0 rest p bs w f.2

  pub listing_goes : (p : Place) (what : Listing) (ts : List Tree) → after sign.Comma xs ≡ Some rest
      → walk xs (have t (listing p what ts ∷ k)) ≡ walk rest (ask all_levels (listing p what (ts ++ t ∷ []) ∷ k))
  listing_goes p what ts e = let f = after_found sign.Comma xs rest e in ap (λ zs. walk zs (have t (listing p what ts ∷ k))) f.1 ∙ listing_takes k t f.0 rest p what ts f.2

  pub listing_ends : (p : Place) (what : Listing) (ts : List Tree) → after sign.Comma xs ≡ None → after (closing_of what) xs ≡ Some rest
      → walk xs (have t (listing p what ts ∷ k)) ≡ walk rest (have (listed p what (ts ++ t ∷ [])) k)
  listing_ends p what ts e h =
      let f = after_found (closing_of what) xs rest h in
      let g : after sign.Comma (f.0 ∷ rest) ≡ None = subst (λ zs. after sign.Comma zs ≡ None) f.1 e in
      ap (λ zs. walk zs (have t (listing p what ts ∷ k))) f.1 ∙ listing_closes k t f.0 rest p what ts (not_minus (is_sign sign.Comma f.0.kind) rest g) f.2

-- a frame takes nothing more, or dies
module _ (k : List Frame) (t : Tree) where
  pub when_leaves : (xs : List Token) (below : List Level) (p : Place) (bs : List (Tree × Tree)) → after sign.Question xs ≡ None
      → walk xs (have t (when below p bs ∷ k)) ≡ walk xs (have (choice_at p (branches_of bs) t) k)
  unfolding walk
  when_leaves [] below p bs e = refl
  when_leaves (x ∷ xs) below p bs e = leaving (is_sign sign.Question x.kind) _ _ x xs _ (not_minus _ xs e)

  pub value_dies : (xs : List Token) (below : List Level) (p : Place) (bs : List (Tree × Tree)) (w : Tree) → after sign.Colon xs ≡ None
      → walk xs (have t (value below p bs w ∷ k)) ≡ failed (length xs)
  unfolding walk
  value_dies [] below p bs w e = refl
  value_dies (x ∷ xs) below p bs w e = leaving (is_sign sign.Colon x.kind) _ _ x xs _ (not_minus _ xs e)

  pub selected_leaves : (xs : List Token) (p : Place) → after sign.OpenBracket xs ≡ None → walk xs (have t (selected p ∷ k)) ≡ walk xs (have t k)
  unfolding walk
  selected_leaves [] p e = refl
  selected_leaves (x ∷ xs) p e = leaving (is_sign sign.OpenBracket x.kind) _ _ x xs _ (not_minus _ xs e)

  pub signs_fold : (xs : List Token) (pre : Prefix) (below : List Level) (p : Place) (n : ℕ) → walk xs (have t (signs pre below p n ∷ k)) ≡ walk xs (have (prefix p pre n t) k)
  unfolding walk
  signs_fold [] pre below p n = refl
  signs_fold (x ∷ xs) pre below p n = refl

  pub bracket_dies : (xs : List Token) → after sign.Close xs ≡ None → walk xs (have t (bracket ∷ k)) ≡ failed (length xs)
  unfolding walk
  bracket_dies [] e = refl
  bracket_dies (x ∷ xs) e = leaving (is_sign sign.Close x.kind) _ _ x xs _ (not_minus _ xs e)

  pub following_dies : (xs : List Token) (p : Place) → after sign.Close xs ≡ None → walk xs (have t (following p ∷ k)) ≡ failed (length xs)
  unfolding walk
  following_dies [] p e = refl
  following_dies (x ∷ xs) p e = leaving (is_sign sign.Close x.kind) _ _ x xs _ (not_minus _ xs e)

  pub condition_dies : (xs : List Token) (p : Place) (bs : List (Tree × Tree)) → after sign.Colon xs ≡ None → walk xs (have t (condition p bs ∷ k)) ≡ failed (length xs)
  unfolding walk
  condition_dies [] p bs e = refl
  condition_dies (x ∷ xs) p bs e = leaving (is_sign sign.Colon x.kind) _ _ x xs _ (not_minus _ xs e)

  pub result_dies : (xs : List Token) (p : Place) (bs : List (Tree × Tree)) (w : Tree) → after sign.Semicolon xs ≡ None → walk xs (have t (result p bs w ∷ k)) ≡ failed (length xs)
  unfolding walk
  result_dies [] p bs w e = refl
  result_dies (x ∷ xs) p bs w e = leaving (is_sign sign.Semicolon x.kind) _ _ x xs _ (not_minus _ xs e)

  pub listing_dies : (xs : List Token) (p : Place) (what : Listing) (ts : List Tree) → after sign.Comma xs ≡ None → after (closing_of what) xs ≡ None
      → walk xs (have t (listing p what ts ∷ k)) ≡ failed (length xs)
  unfolding walk
  listing_dies [] p what ts e f = refl
  listing_dies (x ∷ xs) p what ts e f =
      comma_left k t x xs (is_sign sign.Comma x.kind) _ _ _ _ (not_minus _ xs e) ∙ leaving (is_sign (closing_of what) x.kind) _ _ x xs _ (not_minus _ xs f)

-- what the machine comes to from a chain so far
abbrev pub chain_goes : OperatorClass → List Level → Place → Chained → List Frame → List Token → Option (Infix × List Token) → Reach
chain_goes j below p c k xs None = walk xs (have (whole p c) k)
chain_goes j below p c k xs (Some m) = walk m.1 (ask below (operand j below p (joined c m.0) ∷ k))

abbrev pub chained : OperatorClass → List Level → Place → Chained → List Frame → List Token → Reach
chained j below p c k xs = chain_goes j below p c k xs (operator_after j xs)

chain_on : (m : Option Infix) (j : OperatorClass) (below : List Level) (p : Place) (c : Chained) (k : List Frame) (x : Token) (xs : List Token)
    → along (or_else (option_map (λ op. ask below (operand j below p (joined c op) ∷ k)) m) (give k (whole p c) x.kind)) x xs (λ s. walk xs s)
    ≡ chain_goes j below p c k (x ∷ xs) (option_map (λ op. (op, xs)) m)
unfolding walk
chain_on None j below p c k x xs = refl
chain_on (Some op) j below p c k x xs = refl

pub operand_goes : (k : List Frame) (below : List Level) (j : OperatorClass) (p : Place) (front : Front) (t : Tree) (xs : List Token)
    → walk xs (have t (operand j below p front ∷ k)) ≡ chained j below p (taken front t) k xs
unfolding walk
operand_goes k below j p front t [] = refl
operand_goes k below j p front t (x ∷ xs) = chain_on (infix_of j x.kind) j below p (taken front t) k x xs

-- the signs and words between
module _ (k : List Frame) (xs rest : List Token) where
  pub signed_goes : (pre : Prefix) (below : List Level) (p : Place) (n : ℕ) → after (prefix_sign pre) xs ≡ Some rest → walk xs (signed pre below p n k) ≡ walk rest (signed pre below p (suc n) k)
  unfolding walk
  signed_goes pre below p n e =
      let f = after_found (prefix_sign pre) xs rest e in
      ap (λ zs. walk zs (signed pre below p n k)) f.1
      ∙ ap (λ b. along (cond b (onto (signed pre below p (suc n) k)) (begin below (signs pre below p n ∷ k) (f.0).place (f.0).kind)) f.0 rest (λ s. walk rest s)) f.2

  expected : (s : Sign) (from to : State) → ((x : Token) → walk (x ∷ rest) from ≡ along (expects (is_sign s x.kind) to) x rest (λ z. walk rest z)) → after s xs ≡ Some rest → walk xs from ≡ walk rest to
  expected s from to h e = let f = after_found s xs rest e in ap (λ zs. walk zs from) f.1 ∙ h f.0 ∙ ap (λ b. along (expects b to) f.0 rest (λ z. walk rest z)) f.2

  pub open_next_goes : (p : Place) → after sign.Open xs ≡ Some rest → walk xs (open_next p k) ≡ walk rest (ask all_levels (following p ∷ k))
  unfolding walk
  open_next_goes p e = expected sign.Open (open_next p k) _ (λ x. refl) e

  pub open_call_goes : (p : Place) (f : Function) → after sign.Open xs ≡ Some rest → walk xs (open_call p f k) ≡ walk rest (ask all_levels (listing p (Arguments f) [] ∷ k))
  unfolding walk
  open_call_goes p f e = expected sign.Open (open_call p f k) _ (λ x. refl) e

  pub high_colon_goes : (p : Place) (t : Tree) (n : ℕ) → after sign.Colon xs ≡ Some rest → walk xs (high_colon p t n k) ≡ walk rest (low_end p t n k)
  unfolding walk
  high_colon_goes p t n e = expected sign.Colon (high_colon p t n k) _ (λ x. refl) e

  pub low_close_goes : (p : Place) (t : Tree) (n m : ℕ) → after sign.CloseBracket xs ≡ Some rest → walk xs (low_close p t n m k) ≡ walk rest (have (select p t n m) (selected p ∷ k))
  unfolding walk
  low_close_goes p t n m e = expected sign.CloseBracket (low_close p t n m k) _ (λ x. refl) e

dies_so : (b : Bool) (s : State) (x : Token) (xs : List Token) (go : State → Reach) → b ≡ false → along (expects b s) x xs go ≡ failed (suc (length xs))
dies_so true s x xs go e = cc
dies_so false s x xs go e = refl

module _ (k : List Frame) where
  pub signed_ends : (xs : List Token) (pre : Prefix) (below : List Level) (p : Place) (n : ℕ) → after (prefix_sign pre) xs ≡ None
      → walk xs (signed pre below p n k) ≡ walk xs (ask below (signs pre below p n ∷ k))
  unfolding walk
  signed_ends [] pre below p n e = refl
  signed_ends (x ∷ xs) pre below p n e =
      ap (λ b. along (cond b (onto (signed pre below p (suc n) k)) (begin below (signs pre below p n ∷ k) x.place x.kind)) x xs (λ s. walk xs s)) (not_minus (is_sign (prefix_sign pre) x.kind) xs e)

  pub open_next_dies : (xs : List Token) (p : Place) → after sign.Open xs ≡ None → walk xs (open_next p k) ≡ failed (length xs)
  unfolding walk
  open_next_dies [] p e = refl
  open_next_dies (x ∷ xs) p e = dies_so (is_sign sign.Open x.kind) _ x xs _ (not_minus _ xs e)

  pub open_call_dies : (xs : List Token) (p : Place) (f : Function) → after sign.Open xs ≡ None → walk xs (open_call p f k) ≡ failed (length xs)
  unfolding walk
  open_call_dies [] p f e = refl
  open_call_dies (x ∷ xs) p f e = dies_so (is_sign sign.Open x.kind) _ x xs _ (not_minus _ xs e)

  pub high_colon_dies : (xs : List Token) (p : Place) (t : Tree) (n : ℕ) → after sign.Colon xs ≡ None → walk xs (high_colon p t n k) ≡ failed (length xs)
  unfolding walk
  high_colon_dies [] p t n e = refl
  high_colon_dies (x ∷ xs) p t n e = dies_so (is_sign sign.Colon x.kind) _ x xs _ (not_minus _ xs e)

  pub low_close_dies : (xs : List Token) (p : Place) (t : Tree) (n m : ℕ) → after sign.CloseBracket xs ≡ None → walk xs (low_close p t n m k) ≡ failed (length xs)
  unfolding walk
  low_close_dies [] p t n m e = refl
  low_close_dies (x ∷ xs) p t n m e = dies_so (is_sign sign.CloseBracket x.kind) _ x xs _ (not_minus _ xs e)

  pub case_more : (xs : List Token) (p : Place) (bs : List (Tree × Tree)) → after_word word.Esac xs ≡ None → walk xs (case_goes p bs k) ≡ walk xs (ask all_levels (condition p bs ∷ k))
  unfolding walk
  case_more [] p bs e = refl
  case_more (x ∷ xs) p bs e =
      ap (λ b. along (cond b (onto (have (cases p (branches_of bs)) k)) (begin all_levels (condition p bs ∷ k) x.place x.kind)) x xs (λ s. walk xs s)) (not_minus (is_word word.Esac x.kind) xs e)

  pub case_ends : (xs rest : List Token) (p : Place) (bs : List (Tree × Tree)) → after_word word.Esac xs ≡ Some rest → walk xs (case_goes p bs k) ≡ walk rest (have (cases p (branches_of bs)) k)
  unfolding walk
  case_ends [] rest p bs e = cc
  case_ends (x ∷ xs) rest p bs e = go (is_word word.Esac x.kind) e
    where
      go : (b : Bool) → cond b (Some xs) None ≡ Some rest
          → along (cond b (onto (have (cases p (branches_of bs)) k)) (begin all_levels (condition p bs ∷ k) x.place x.kind)) x xs (λ s. walk xs s) ≡ walk rest (have (cases p (branches_of bs)) k)
      go true e = ap (λ ys. walk ys (have (cases p (branches_of bs)) k)) (let same : xs ≡ rest = cc in same)
      go false e = cc

  -- numbers
  number_goes : (xs rest : List Token) (n : ℕ) (to : ℕ → State) (from : State)
      → ((x : Token) (ys : List Token) → walk (x ∷ ys) from ≡ along (take_number x.kind to) x ys (λ s. walk ys s)) → first_number xs ≡ found n rest → walk xs from ≡ walk rest (to n)
  number_goes [] rest n to from h e = cc
  number_goes (x ∷ xs) rest n to from h e = h x xs ∙ by x.kind e
    where
      by : (z : TokenKind) → number_at z xs ≡ found n rest → along (take_number z to) x xs (λ s. walk xs s) ≡ walk rest (to n)
      by (kind.Number m) e = let p : m ≡ n = cc in let q : xs ≡ rest = cc in ap (λ v. walk xs (to v)) p ∙ ap (λ ys. walk ys (to n)) q
      by _ e = cc

  number_lost : (xs : List Token) (n : ℕ) (to : ℕ → State) (from : State) → walk [] from ≡ failed 0
      → ((x : Token) (ys : List Token) → walk (x ∷ ys) from ≡ along (take_number x.kind to) x ys (λ s. walk ys s)) → first_number xs ≡ lost n → walk xs from ≡ failed n
  number_lost [] n to from none h e = none ∙ ap failed (let same : 0 ≡ n = cc in same)
  number_lost (x ∷ xs) n to from none h e = h x xs ∙ by x.kind e
    where
      by : (z : TokenKind) → number_at z xs ≡ lost n → along (take_number z to) x xs (λ s. walk xs s) ≡ failed n
      by (kind.Number m) e = cc
      by (kind.Ident m) e = ap failed (let same : suc (length xs) ≡ n = cc in same)
      by _ e = ap failed (let same : suc (length xs) ≡ n = cc in same)

  pub high_end_goes : (xs rest : List Token) (p : Place) (t : Tree) (n : ℕ) → first_number xs ≡ found n rest → walk xs (high_end p t k) ≡ walk rest (high_colon p t n k)
  unfolding walk
  high_end_goes xs rest p t n e = number_goes xs rest n (λ m. high_colon p t m k) (high_end p t k) (λ x ys. refl) e

  pub high_end_dies : (xs : List Token) (p : Place) (t : Tree) (n : ℕ) → first_number xs ≡ lost n → walk xs (high_end p t k) ≡ failed n
  unfolding walk
  high_end_dies xs p t n e = number_lost xs n (λ m. high_colon p t m k) (high_end p t k) refl (λ x ys. refl) e

  pub low_end_goes : (xs rest : List Token) (p : Place) (t : Tree) (n m : ℕ) → first_number xs ≡ found m rest → walk xs (low_end p t n k) ≡ walk rest (low_close p t n m k)
  unfolding walk
  low_end_goes xs rest p t n m e = number_goes xs rest m (λ i. low_close p t n i k) (low_end p t n k) (λ x ys. refl) e

  pub low_end_dies : (xs : List Token) (p : Place) (t : Tree) (n m : ℕ) → first_number xs ≡ lost m → walk xs (low_end p t n k) ≡ failed m
  unfolding walk
  low_end_dies xs p t n m e = number_lost xs m (λ i. low_close p t n i k) (low_end p t n k) refl (λ x ys. refl) e

  upto_minus_goes : (xs rest : List Token) (p : Place) (low : ℤ) (n : ℕ) → first_number xs ≡ found n rest → walk xs (upto_minus p low k) ≡ walk rest (have (range p low (pos 0 -ℤ pos n)) k)
  unfolding walk
  upto_minus_goes xs rest p low n e = number_goes xs rest n (λ m. have (range p low (pos 0 -ℤ pos m)) k) (upto_minus p low k) (λ x ys. refl) e

  upto_minus_dies : (xs : List Token) (p : Place) (low : ℤ) (n : ℕ) → first_number xs ≡ lost n → walk xs (upto_minus p low k) ≡ failed n
  unfolding walk
  upto_minus_dies xs p low n e = number_lost xs n (λ m. have (range p low (pos 0 -ℤ pos m)) k) (upto_minus p low k) refl (λ x ys. refl) e

  pub upto_goes : (xs rest : List Token) (p : Place) (low high : ℤ) → first_integer xs ≡ found high rest → walk xs (upto p low k) ≡ walk rest (have (range p low high) k)
  unfolding walk
  upto_goes [] rest p low high e = cc
  upto_goes (x ∷ xs) rest p low high e = go x.kind refl
    where
      minus_goes : (f : Found ℕ) → first_number xs ≡ f → negated f ≡ found high rest → walk xs (upto_minus p low k) ≡ walk rest (have (range p low high) k)
      minus_goes (found n ys) e f = let q : ys ≡ rest = cc in let z : pos 0 -ℤ pos n ≡ high = cc in upto_minus_goes xs ys p low n e ∙ ap (λ l. walk l (have (range p low (pos 0 -ℤ pos n)) k)) q ∙ ap (λ h. walk rest (have (range p low h) k)) z
      minus_goes (lost n) e f = cc

      by : (z : TokenKind) → integer_at z xs ≡ found high rest → along (range_end p low k z) x xs (λ s. walk xs s) ≡ walk rest (have (range p low high) k)
      by (kind.Number n) e = let q : xs ≡ rest = cc in let z : pos n ≡ high = cc in ap (λ l. walk l (have (range p low (pos n)) k)) q ∙ ap (λ h. walk rest (have (range p low h) k)) z
      by (kind.Sign sign.Minus) e = minus_goes (first_number xs) refl e
      by _ e = cc

      go : (z : TokenKind) → x.kind ≡ z → along (range_end p low k x.kind) x xs (λ s. walk xs s) ≡ walk rest (have (range p low high) k)
      go z same = by x.kind e

  pub upto_dies : (xs : List Token) (p : Place) (low : ℤ) (n : ℕ) → first_integer xs ≡ lost n → walk xs (upto p low k) ≡ failed n
  unfolding walk
  upto_dies [] p low n e = ap failed (let same : 0 ≡ n = cc in same)
  upto_dies (x ∷ xs) p low n e = by x.kind e
    where
      minus_dies : (f : Found ℕ) → first_number xs ≡ f → negated f ≡ lost n → walk xs (upto_minus p low k) ≡ failed n
      minus_dies (found m ys) e f = cc
      minus_dies (lost m) e f = upto_minus_dies xs p low m e ∙ ap failed (let same : m ≡ n = cc in same)

      by : (z : TokenKind) → integer_at z xs ≡ lost n → along (range_end p low k z) x xs (λ s. walk xs s) ≡ failed n
      by (kind.Number m) e = cc
      by (kind.Sign sign.Minus) e = minus_dies (first_number xs) refl e
      by _ e = ap failed (let same : suc (length xs) ≡ n = cc in same)

-- paths
abbrev pub named_on : (f : Found Path) (k : List Frame) → Reach
named_on (found q rest) k = walk rest (have (name q.place q) k)
named_on (lost n) k = failed n

mutual
  unfolding walk

  pub named_goes : (xs : List Token) (path : Path) (k : List Frame) → walk xs (named path k) ≡ named_on (path_on path xs) k
  named_goes [] path k = refl
  named_goes (x ∷ xs) path k = go (is_sign sign.Dot x.kind) (dotted_goes xs path k)
    where
      go : (b : Bool) → walk xs (dotted path k) ≡ named_on (path_step path xs) k
          → along (cond b (onto (dotted path k)) (give k (name path.place path) x.kind)) x xs (λ s. walk xs s) ≡ named_on (cond b (path_step path xs) (found path (x ∷ xs))) k
      go true ih = ih
      go false ih = refl

  dotted_goes : (xs : List Token) (path : Path) (k : List Frame) → walk xs (dotted path k) ≡ named_on (path_step path xs) k
  dotted_goes [] path k = refl
  dotted_goes (x ∷ xs) path k = by x.kind (λ n. named_goes xs (longer path n) k)
    where
      by : (z : TokenKind) → ((n : List ℕ) → walk xs (named (longer path n) k) ≡ named_on (path_on (longer path n) xs) k)
          → along (take_name z (λ n. named (longer path n) k)) x xs (λ s. walk xs s) ≡ named_on (with_name z (λ n. path_on (longer path n) xs) (suc (length xs))) k
      by (kind.Ident n) ih = ih n
      by (kind.Number n) ih = refl
      by _ ih = refl
