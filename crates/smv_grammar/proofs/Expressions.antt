-- The grammar of expressions and the machine that reads them agree.
use Rattle.std.proofs.Common.{◌≡◌, ℕ, suc, Option, Some, None, List, [], ◌∷◌, ◌++◌, length, refl, sym, ap, ◌∙◌, subst, arith}
use Rattle.std.proofs.lemmas.List.{append-nil}
use Rattle.smv_text.specs.declared.token.Token.{Token}
use Rattle.smv_text.specs.Levels.{all_levels}
use Rattle.smv_text.specs.Tree.{Tree}
use Rattle.smv_text.specs.Grammar.{Spells}
use Rattle.smv_grammar.specs.Kept.{Read, cap}
use Rattle.smv_grammar.specs.Machine.{State, ask, Move, onto, behind, nowhere, move, halt, halted, along, Reach, reached, failed, walk, took, dead, run, Ends}
use Rattle.smv_grammar.proofs.Ranked.{ends_stop}
use Rattle.smv_grammar.proofs.Running.{outcome, runs, had}
use Rattle.smv_grammar.proofs.Complete.{comes}
use Rattle.smv_grammar.proofs.Sound.{spelled}
use Rattle.smv_grammar.proofs.Closes.{ends}
use Rattle.smv_grammar.specs.Taken.{IsTaken, IsBegun}

-- what is spelled is taken
pub spelled_taken : (t : Tree) (ys rest : List Token) → Spells all_levels t ys → Ends rest → run (ys ++ rest) (ask all_levels []) ≡ took (cap t) rest
spelled_taken t ys rest d e = runs (ys ++ rest) (ask all_levels []) ∙ ap outcome (comes d 16 (omega arith) refl [] rest (ends_stop rest e) ∙ had rest t)

-- what is taken is spelled
pub taken_spells : (xs rest : List Token) (r : Read) → run xs (ask all_levels []) ≡ took r rest → IsTaken xs r rest
taken_spells xs rest r e = go (walk xs (ask all_levels [])) refl (sym (runs xs (ask all_levels [])) ∙ e)
  where
    go : (o : Reach) → walk xs (ask all_levels []) ≡ o → outcome o ≡ took r rest → IsTaken xs r rest
    go (reached t left) f e =
        let same : left ≡ rest = cc in
        let kept : cap t ≡ r = cc in
        let s = spelled xs t left f in
        record { ys = s.read; t = t; parts = s.parts ∙ ap (λ l. s.read ++ l) same; spells = s.spelled; kept = sym kept }
    go (failed n) f e = cc

-- no tokens spell two expressions
pub one_tree : (xs : List Token) (t u : Tree) → Spells all_levels t xs → Spells all_levels u xs → t ≡ u
one_tree xs t u d e =
    let same : reached t [] ≡ reached u [] =
    sym (comes d 16 (omega arith) refl [] [] (omega arith) ∙ had [] t) ∙ comes e 16 (omega arith) refl [] [] (omega arith) ∙ had [] u in
    cc

-- where the machine dies, the tokens before lead to a state
pub record IsCut (xs : List Token) (s : State) (n : ℕ) : Type 0 where
  pub front : List Token
  pub back : List Token
  pub state : State
  pub parts : xs ≡ front ++ back
  pub left : length back ≡ n
  pub leads : (zs : List Token) → walk (front ++ zs) s ≡ walk zs state

cut : (xs : List Token) (s : State) (n : ℕ) → walk xs s ≡ failed n → IsCut xs s n
unfolding walk
cut [] s n e = go (halt s) e
  where
    go : (o : Option Tree) → halted o ≡ failed n → IsCut [] s n
    go None e = record { front = []; back = []; state = s; parts = refl; left = (let same : 0 ≡ n = cc in same); leads = λ zs. refl }
    go (Some t) e = cc
cut (x ∷ xs) s n e = go (move s x) refl (λ r. cut xs r n) e
  where
    go : (o : Move) → move s x ≡ o → ((r : State) → walk xs r ≡ failed n → IsCut xs r n) → along o x xs (λ r. walk xs r) ≡ failed n → IsCut (x ∷ xs) s n
    go (onto r) f ih e =
        let i = ih r e in
        record { front = x ∷ i.front; back = i.back; state = i.state; parts = ap (λ l. x ∷ l) i.parts; left = i.left; leads = λ zs. ap (λ m. along m x (i.front ++ zs) (λ v. walk (i.front ++ zs) v)) f ∙ i.leads zs }
    go (behind t) f ih e = cc
    go nowhere f ih e = record { front = []; back = x ∷ xs; state = s; parts = refl; left = (let same : suc (length xs) ≡ n = cc in same); leads = λ zs. refl }

-- the tokens before the dead one begin a spelling
pub dead_begins : (xs : List Token) (n : ℕ) → run xs (ask all_levels []) ≡ dead n → IsBegun xs n
dead_begins xs n e = go (walk xs (ask all_levels [])) refl (sym (runs xs (ask all_levels [])) ∙ e)
  where
    go : (o : Reach) → walk xs (ask all_levels []) ≡ o → outcome o ≡ dead n → IsBegun xs n
    go (reached t rest) f e = cc
    go (failed m) f e =
        let same : m ≡ n = cc in
        let c = cut xs (ask all_levels []) m f in
        let end = ends c.state in
        let s = spelled (c.front ++ end.0) end.1.0 [] (c.leads end.0 ∙ end.1.1) in
        record {
          front = c.front;
          back = c.back;
          zs = end.0;
          t = end.1.0;
          parts = c.parts;
          left = c.left ∙ same;
          spells = subst (λ l. Spells all_levels end.1.0 l) (sym (s.parts ∙ append-nil s.read)) s.spelled;
        }
