-- A query's latches and its bad line say what a layout asks of them.
use Rattle.std.proofs.Common.{◌≡◌, ℕ, suc, Bool, true, false, not, ◌&&◌, ◌||◌, cond, Option, List, [], ◌∷◌, ◌++◌, length, map, take, Some, None, refl, sym, ap, ◌∙◌, subst, arith}
use Rattle.std.specs.Prelude.{IfSome, codes, drop, flat_map, option_map, slice_index_or}
use Rattle.std.specs.List.{AllZip, list_all, list_any}
use Rattle.std.proofs.lemmas.List.{length-append, length-map}
use Rattle.std.proofs.Math.Seq.{drop-append_seam, take-append_seam}
use Rattle.word_core.specs.Words.{BitVector}
use Rattle.btor_tree.specs.declared.lines.Line.{Line}
use Rattle.btor_tree.specs.Fits.{is_init, is_next, plain_arg}
use Rattle.btor_tree.specs.Frame.{Meets, operand, word_at}
use Rattle.moxi_terms.specs.Value.{Values}
use Rattle.moxi_scripts.specs.declared.script.Query.{Query}
use Rattle.moxi_scripts.specs.Script.{formula_at}
use Rattle.moxi_flat.specs.FlatSystem.{PlainFlatSystem}
use Rattle.moxi_lines.specs.Lines.{has_conditions, one_place, zero_place}
use Rattle.moxi_lines.specs.Constraints.{is_true}
use Rattle.moxi_layout.specs.Layout.{AreQueriesLaid, IsInRange, IsQueryLaid, first_at, given, held_now, is_reached, is_set, latch_inits, latch_nexts, now_values, reached_before, reached_now, reached_upto, truth_word}
use Rattle.moxi_layout.specs.Layout as layout
use Rattle.moxi_layout.specs.Skeleton.{has_several, latch_names, condition_latches, reachable_latches}
use Rattle.moxi_layout.proofs.QueryLines.{HasQueryWords, IsLatch, IsQueryAt, Latch, OkIsAt, QueryPlaces, are_reached, conditions_hold, have_held, is_met, latched, reached_until}
use Rattle.moxi_layout.proofs.PartAdditions.{both_mapped}
use Rattle.moxi_layout.proofs.Reachables.{seen_name}
use Rattle.moxi_layout.proofs.QueryAdditions.{goals, latch_states, ok_states, query_states}

abbrev word_given : Bool → Option BitVector
word_given b = Some (truth_word b)

module _ (f : PlainFlatSystem) (lines : List Line) where
  abbrev AllLatches : List ℕ → List Latch → Type 0
  AllLatches rs ls = AllZip (λ (r : ℕ) (l : Latch). IsLatch lines zero_place l) rs ls

  -- ---- inits

  ok_inits : (row : List BitVector) → word_at row one_place ≡ truth_word true → (c : Bool) (o : Option Latch) → OkIsAt lines c o → map (given is_init lines row) (ok_states o) ≡ map word_given (cond c (true ∷ []) [])
  ok_inits row e true (Some l) h = ap (λ o. option_map (operand row) o ∷ []) h.init ∙ ap (λ w. Some w ∷ []) e
  ok_inits row e true None h = absurd h
  ok_inits row e false (Some l) h = absurd h
  ok_inits row e false None h = refl

  seen_inits : (row : List BitVector) → word_at row zero_place ≡ truth_word false → (rs : List ℕ) (ls : List Latch) → AllLatches rs ls → map (given is_init lines row) (latch_states ls) ≡ map word_given (map (λ (r : ℕ). false) rs)
  seen_inits row e [] [] h = refl
  seen_inits row e [] (l ∷ ls) h = absurd h
  seen_inits row e (r ∷ rs) [] h = absurd h
  seen_inits row e (r ∷ rs) (l ∷ ls) h =
      ap (λ o. option_map (operand row) o ∷ map (given is_init lines row) (latch_states ls)) h.0.init ∙ ap (λ w. Some w ∷ map (given is_init lines row) (latch_states ls)) e ∙ ap (λ os. word_given false ∷ os) (seen_inits row e rs ls h.1)

  latched_if : {A : Type 0} (h : ℕ → A) (rs : List ℕ) → map h (latched rs) ≡ cond (has_several rs) (map h rs) []
  latched_if h [] = refl
  latched_if h (r ∷ []) = refl
  latched_if h (r ∷ s ∷ rs) = refl

  query_inits : (row : List BitVector) → word_at row one_place ≡ truth_word true → word_at row zero_place ≡ truth_word false → (q : Query) (p : QueryPlaces) → IsQueryAt lines q p
      → map (given is_init lines row) (query_states p) ≡ map word_given (latch_inits q)
  query_inits row one zero q p h =
      both_mapped (given is_init lines row) word_given (ok_states p.ok) (latch_states p.seen) (cond (has_conditions q.assumptions q.currents) (true ∷ []) []) (cond (has_several q.reachables) (map (λ r. false) q.reachables) [])
      (ok_inits row one (has_conditions q.assumptions q.currents) p.ok h.ok) (seen_inits row zero (latched q.reachables) p.seen h.seen ∙ ap (map word_given) (latched_if (λ r. false) q.reachables))

  -- ---- nexts

  vacuous : (xs ys : List ℕ) (h k : ℕ → Bool) → has_conditions xs ys ≡ false → (list_all h xs && list_all k ys) ≡ true
  vacuous [] [] h k e = refl
  vacuous [] (y ∷ ys) h k e = absurd (cc)
  vacuous (x ∷ xs) ys h k e = absurd (cc)

  held_is : (row : List BitVector) (first : Bool) (now : Values) (q : Query) (rest : List ℕ) (c : Bool) (o : Option Latch) → has_conditions q.assumptions q.currents ≡ c → OkIsAt lines c o
      → held_now f first now q (map (is_set row) (ok_states o ++ rest)) ≡ have_held f row first now q o
  held_is row first now q rest true (Some l) e h = ap (λ b. cond b (is_set row l.state) true && conditions_hold f first now q) e
  held_is row first now q rest true None e h = absurd h
  held_is row first now q rest false (Some l) e h = absurd h
  held_is row first now q rest false None e h =
      ap (λ b. cond b (slice_index_or (map (is_set row) rest) 0 true) true && conditions_hold f first now q) e
      ∙ vacuous q.assumptions q.currents (λ a. is_true f.scope now now (formula_at f.assumptions a)) (λ c. not first || is_true f.scope now now (formula_at f.currents c)) e

  before_is : (row : List BitVector) (q : Query) (rest : List ℕ) (c : Bool) (o : Option Latch) → has_conditions q.assumptions q.currents ≡ c → OkIsAt lines c o → reached_before q (map (is_set row) (ok_states o ++ rest)) ≡ map (is_set row) rest
  before_is row q rest true (Some l) e h = ap (λ b. cond b (map (is_set row) rest) (is_set row l.state ∷ map (is_set row) rest)) e
  before_is row q rest true None e h = absurd h
  before_is row q rest false (Some l) e h = absurd h
  before_is row q rest false None e h = ap (λ b. cond b (drop 1 (map (is_set row) rest)) (map (is_set row) rest)) e

  ok_nexts : (row : List BitVector) (b c : Bool) (o : Option Latch) → OkIsAt lines c o → IfSome o (λ l. word_at row l.next ≡ truth_word b) → map (given is_next lines row) (ok_states o) ≡ map word_given (cond c (b ∷ []) [])
  ok_nexts row b true (Some l) h w = ap (λ o. option_map (operand row) o ∷ []) h.next ∙ ap (λ x. Some x ∷ []) w
  ok_nexts row b true None h w = absurd h
  ok_nexts row b false (Some l) h w = absurd h
  ok_nexts row b false None h w = refl

  seen_nexts : (row : List BitVector) (now : Values) (rs : List ℕ) (ls : List Latch) → AllLatches rs ls → AllZip (λ (r : ℕ) (l : Latch). word_at row l.next ≡ truth_word (reached_until f row now r l)) rs ls
      → map (given is_next lines row) (latch_states ls) ≡ map word_given (reached_upto f now rs (map (is_set row) (latch_states ls)))
  seen_nexts row now [] [] h w = refl
  seen_nexts row now [] (l ∷ ls) h w = absurd h
  seen_nexts row now (r ∷ rs) [] h w = absurd h
  seen_nexts row now (r ∷ rs) (l ∷ ls) h w =
      ap (λ o. option_map (operand row) o ∷ map (given is_next lines row) (latch_states ls)) h.0.next ∙ ap (λ x. Some x ∷ map (given is_next lines row) (latch_states ls)) w.0
      ∙ ap (λ os. word_given (reached_until f row now r l) ∷ os) (seen_nexts row now rs ls h.1 w.1)

  upto_if : (now : Values) (rs : List ℕ) (bs : List Bool) → reached_upto f now (latched rs) bs ≡ cond (has_several rs) (reached_upto f now rs bs) []
  upto_if now [] bs = refl
  upto_if now (r ∷ []) bs = refl
  upto_if now (r ∷ s ∷ rs) bs = refl

  query_nexts : (row : List BitVector) (first : Bool) (now : Values) (q : Query) (p : QueryPlaces) → IsQueryAt lines q p → HasQueryWords f row first now q p
      → map (given is_next lines row) (query_states p) ≡ map word_given (latch_nexts f first now q (map (is_set row) (query_states p)))
  query_nexts row first now q p h w =
      let c = has_conditions q.assumptions q.currents in
      let latches = map (is_set row) (query_states p) in
      let seen = latch_states p.seen in
      let held = held_is row first now q seen c p.ok refl h.ok in
      let before = before_is row q seen c p.ok refl h.ok in
      both_mapped (given is_next lines row) word_given (ok_states p.ok) seen (cond c (held_now f first now q latches ∷ []) []) (cond (has_several q.reachables) (reached_now f now q latches) [])
      (ok_nexts row (have_held f row first now q p.ok) c p.ok h.ok w.ok ∙ ap (λ b. map word_given (cond c (b ∷ []) [])) (sym held))
      (seen_nexts row now (latched q.reachables) p.seen h.seen w.seen ∙ ap (map word_given) (upto_if now q.reachables (map (is_set row) seen))
      ∙ ap (λ bs. map word_given (cond (has_several q.reachables) (reached_upto f now q.reachables bs) [])) (sym before))

  -- ---- the bad line

  upto_all : (row : List BitVector) (now : Values) (rs : List ℕ) (ls : List Latch) → AllLatches rs ls → list_all (λ b. b) (reached_upto f now rs (map (is_set row) (latch_states ls))) ≡ are_reached f row now rs ls
  upto_all row now [] [] h = refl
  upto_all row now [] (l ∷ ls) h = absurd h
  upto_all row now (r ∷ rs) [] h = absurd h
  upto_all row now (r ∷ rs) (l ∷ ls) h = ap (λ b. reached_until f row now r l && b) (upto_all row now rs ls h.1)

  one_reached : (b : Bool) → ((b && true) && (b || false)) ≡ (true && (b || false))
  one_reached true = refl
  one_reached false = refl

  reached_all : (row : List BitVector) (now : Values) (rs : List ℕ) (ls : List Latch) → AllLatches (latched rs) ls
      → (list_all (λ b. b) (reached_upto f now rs (map (is_set row) (latch_states ls))) && list_any (is_reached f now) rs) ≡ (are_reached f row now (latched rs) ls && list_any (is_reached f now) rs)
  reached_all row now [] [] h = refl
  reached_all row now [] (l ∷ ls) h = absurd h
  reached_all row now (r ∷ []) [] h = one_reached (is_reached f now r)
  reached_all row now (r ∷ []) (l ∷ ls) h = absurd h
  reached_all row now (r ∷ s ∷ rs) ls h = ap (λ b. b && list_any (is_reached f now) (r ∷ s ∷ rs)) (upto_all row now (r ∷ s ∷ rs) ls h)

  met_is : (row : List BitVector) (first : Bool) (now : Values) (q : Query) (p : QueryPlaces) → IsQueryAt lines q p → is_met f row first now q p ≡ layout.is_met f first now q (map (is_set row) (query_states p))
  met_is row first now q p h =
      let c = has_conditions q.assumptions q.currents in
      let seen = latch_states p.seen in
      let some = list_any (is_reached f now) q.reachables in
      let held = held_is row first now q seen c p.ok refl h.ok in
      let before = before_is row q seen c p.ok refl h.ok in
      sym (ap (λ b. b && (list_all (λ b. b) (reached_now f now q (map (is_set row) (query_states p))) && some)) held
      ∙ ap (λ bs. have_held f row first now q p.ok && (list_all (λ b. b) (reached_upto f now q.reachables bs) && some)) before
      ∙ ap (λ b. have_held f row first now q p.ok && b) (reached_all row now q.reachables p.seen h.seen))

  -- ---- one query, and all

  ok_long : (name : List ℕ) (c : Bool) (o : Option Latch) → OkIsAt lines c o → length (ok_states o) ≡ length (cond c (name ∷ []) [])
  ok_long name true (Some l) h = refl
  ok_long name true None h = absurd h
  ok_long name false (Some l) h = absurd h
  ok_long name false None h = refl

  zip_long : (rs : List ℕ) (ls : List Latch) → AllLatches rs ls → length ls ≡ length rs
  zip_long [] [] h = refl
  zip_long [] (l ∷ ls) h = absurd h
  zip_long (r ∷ rs) [] h = absurd h
  zip_long (r ∷ rs) (l ∷ ls) h = ap suc (zip_long rs ls h.1)

  states_long : (q : Query) (p : QueryPlaces) → IsQueryAt lines q p → length (latch_names f q) ≡ length (query_states p)
  states_long q p h =
      let ok = ok_long (q.name ++ codes ".ok") (has_conditions q.assumptions q.currents) p.ok h.ok in
      let name = seen_name f q.name in
      let seen : length (latch_states p.seen) ≡ length (reachable_latches f q) = length-map p.seen (λ l. l.state) ∙ zip_long (latched q.reachables) p.seen h.seen ∙ sym (length-map (latched q.reachables) name) ∙ ap length (latched_if name q.reachables) in
      omega (arith, ok, seen, length-append (condition_latches q) (reachable_latches f q), length-append (ok_states p.ok) (latch_states p.seen))

  query_laid : (q : Query) (p : QueryPlaces) → IsQueryAt lines q p → ((row : List BitVector) → Meets lines row → (word_at row one_place ≡ truth_word true) × (word_at row zero_place ≡ truth_word false))
      → ((row : List BitVector) → IsInRange f lines row → HasQueryWords f row (is_set row (first_at lines)) (now_values f lines row) q p) → IsQueryLaid f lines q (query_states p) (plain_arg p.goal)
  query_laid q p h constants w =
      record {
        inits = λ row met. let c = constants row met in query_inits row c.0 c.1 q p h;
        nexts = λ row r. query_nexts row (is_set row (first_at lines)) (now_values f lines row) q p h (w row r);
        bad_word = λ row r. (w row r).goal ∙ ap truth_word (met_is row (is_set row (first_at lines)) (now_values f lines row) q p h);
      }

  pub queries_laid : ((row : List BitVector) → Meets lines row → (word_at row one_place ≡ truth_word true) × (word_at row zero_place ≡ truth_word false)) → (qs : List Query) (ps : List QueryPlaces) → AllZip (IsQueryAt lines) qs ps
      → ((row : List BitVector) → IsInRange f lines row → AllZip (HasQueryWords f row (is_set row (first_at lines)) (now_values f lines row)) qs ps) → AreQueriesLaid f lines qs (flat_map query_states ps) (goals ps)
  queries_laid constants [] [] h w = tt
  queries_laid constants [] (p ∷ ps) h w = absurd h
  queries_laid constants (q ∷ qs) [] h w = absurd h
  queries_laid constants (q ∷ qs) (p ∷ ps) h w =
      let own = query_states p in
      let rest = flat_map query_states ps in
      let n = states_long q p h.0 in
      let front : take (length (latch_names f q)) (own ++ rest) ≡ own = ap (λ n. take n (own ++ rest)) n ∙ take-append_seam own rest in
      let back : drop (length (latch_names f q)) (own ++ rest) ≡ rest = ap (λ n. drop n (own ++ rest)) n ∙ drop-append_seam own rest in (
        subst (λ latches. IsQueryLaid f lines q latches (plain_arg p.goal)) (sym front) (query_laid q p h.0 constants (λ row r. (w row r).0)),
        subst (λ latches. AreQueriesLaid f lines qs latches (goals ps)) (sym back) (queries_laid constants qs ps h.1 (λ row r. (w row r).1)),
      )
