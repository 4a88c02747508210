-- What is counted of a check is its size.
use Rattle.std.proofs.Common.{◌≡◌, ℕ, zero, suc, ◌+◌, Bool, true, false, cond, List, [], ◌∷◌, ◌++◌, map, refl, sym, ap, ◌∙◌}
use Rattle.std.specs.Prelude.{nat_eq, sum_by, flat_map, max}
use Rattle.std.specs.List.{list_any}
use Rattle.std.proofs.lemmas.List.Sums.{sum_by-cons}
use Rattle.moxi_terms.specs.View.{plain}
use Rattle.moxi_scripts.specs.declared.script.Check.{Check}
use Rattle.moxi_scripts.specs.declared.script.Formula.{Formula}
use Rattle.moxi_scripts.specs.declared.script.Query.{Query}
use Rattle.moxi_scripts.specs.Script.{PlainFormula, formula_at, plain_check, plain_formula}
use Rattle.moxi_flat.specs.Terms.{term_height, term_size}
use Rattle.moxi_flat.specs.Systems.{check_height, check_size, formulas_height, named_size, query_size, unnamed_size}
use Rattle.moxi_instantiate.specs.declared.checks.FormulaKind.{FormulaKind}
use Rattle.moxi_instantiate.specs.declared.checks.FormulaKind.TheVariants.{Assumption, Current, Reachable}
use Rattle.moxi_instantiate.specs.CheckCounts.{all_numbers, named_sum, numbers_of, queries_sum, size_at, unnamed_sum}
use Rattle.moxi_instantiate.specs.Counting.{AreCounted, capped, known}
use Rattle.moxi_instantiate.proofs.Capping.{cap_max, cap_sum, capped_twice, heights_agree, same_max, same_sum, sizes_agree}

numbers_are : (kind : FormulaKind) (qs : List Query) → all_numbers kind qs ≡ flat_map (numbers_of kind) qs
numbers_are kind [] = refl
numbers_are kind (q ∷ qs) = ap (λ xs. numbers_of kind q ++ xs) (numbers_are kind qs)

module _ (calls : ℕ → ℕ) where
  abbrev one : Formula → ℕ
  one f = capped (term_size calls (plain f.term))

  at_is : (fs : List Formula) (k : ℕ) → capped (size_at (map one fs) k) ≡ capped (term_size calls (formula_at (map plain_formula fs) k))
  at_is [] zero = refl
  at_is [] (suc k) = refl
  at_is (f ∷ fs) zero = capped_twice (term_size calls (plain f.term))
  at_is (f ∷ fs) (suc k) = at_is fs k

  named_is : (fs : List Formula) (ks : List ℕ) → capped (named_sum (map one fs) ks) ≡ capped (named_size calls (map plain_formula fs) ks)
  named_is fs [] = refl
  named_is fs (k ∷ ks) =
      same_sum (size_at (map one fs) k) (named_sum (map one fs) ks) (term_size calls (formula_at (map plain_formula fs) k)) (named_size calls (map plain_formula fs) ks) (at_is fs k) (named_is fs ks)
      ∙ sym (ap capped (sum_by-cons (λ k. term_size calls (formula_at (map plain_formula fs) k)) k ks))

  queries_are : (c : Check) (qs : List Query) → capped (queries_sum (map one c.assumptions) (map one c.currents) (map one c.reachables) qs) ≡ capped (sum_by (query_size calls (plain_check c)) qs)
  queries_are c [] = refl
  queries_are c (q ∷ qs) =
      same_sum _ (queries_sum (map one c.assumptions) (map one c.currents) (map one c.reachables) qs) (query_size calls (plain_check c) q) (sum_by (query_size calls (plain_check c)) qs)
      (same_sum 1 _ 1 _ refl (same_sum (named_sum (map one c.assumptions) q.assumptions) _ (named_size calls (map plain_formula c.assumptions) q.assumptions) _ (named_is c.assumptions q.assumptions)
      (same_sum (named_sum (map one c.currents) q.currents) (named_sum (map one c.reachables) q.reachables) (named_size calls (map plain_formula c.currents) q.currents)
      (named_size calls (map plain_formula c.reachables) q.reachables) (named_is c.currents q.currents) (named_is c.reachables q.reachables))))
      (queries_are c qs)
      ∙ sym (ap capped (sum_by-cons (query_size calls (plain_check c)) q qs))

  unnamed_is : (named : List ℕ) (k : ℕ) (fs : List Formula) → capped (unnamed_sum named k (map one fs)) ≡ capped (unnamed_size calls named k (map plain_formula fs))
  unnamed_is named k [] = refl
  unnamed_is named k (f ∷ fs) =
      same_sum (cond (list_any (nat_eq k) named) 0 (one f)) (unnamed_sum named (k + 1) (map one fs)) (cond (list_any (nat_eq k) named) 0 (term_size calls (plain f.term)))
      (unnamed_size calls named (k + 1) (map plain_formula fs)) (by_named (list_any (nat_eq k) named)) (unnamed_is named (k + 1) fs)
    where
      by_named : (b : Bool) → capped (cond b 0 (one f)) ≡ capped (cond b 0 (term_size calls (plain f.term)))
      by_named true = refl
      by_named false = capped_twice (term_size calls (plain f.term))

  kind_is : (kind : FormulaKind) (qs : List Query) (fs : List Formula) (counts : List ℕ) (n : ℕ) → counts ≡ map one fs → n ≡ capped (unnamed_sum (all_numbers kind qs) 0 counts)
      → n ≡ capped (unnamed_size calls (flat_map (numbers_of kind) qs) 0 (map plain_formula fs))
  kind_is kind qs fs counts n e h =
      h ∙ ap (λ cs. capped (unnamed_sum (all_numbers kind qs) 0 cs)) e ∙ unnamed_is (all_numbers kind qs) 0 fs ∙ ap (λ ns. capped (unnamed_size calls ns 0 (map plain_formula fs))) (numbers_are kind qs)

  pub check_counted : (c : Check) (assumptions currents reachables : List ℕ) → assumptions ≡ map one c.assumptions → currents ≡ map one c.currents → reachables ≡ map one c.reachables
      → (n a b r z y x : ℕ) → n ≡ capped (queries_sum assumptions currents reachables c.queries) → a ≡ capped (unnamed_sum (all_numbers Assumption c.queries) 0 assumptions)
      → b ≡ capped (unnamed_sum (all_numbers Current c.queries) 0 currents) → r ≡ capped (unnamed_sum (all_numbers Reachable c.queries) 0 reachables)
      → z ≡ capped (b + r) → y ≡ capped (a + z) → x ≡ capped (n + y) → x ≡ capped (check_size calls (plain_check c))
  check_counted c assumptions currents reachables e f g n a b r z y x hn ha hb hr hz hy hx =
      let first = unnamed_size calls (flat_map (numbers_of Assumption) c.queries) 0 (map plain_formula c.assumptions) in
      let second = unnamed_size calls (flat_map (numbers_of Current) c.queries) 0 (map plain_formula c.currents) in
      let third = unnamed_size calls (flat_map (numbers_of Reachable) c.queries) 0 (map plain_formula c.reachables) in
      let all = sum_by (query_size calls (plain_check c)) c.queries in
      let named = hn ∙ ap (λ cs. capped (queries_sum cs currents reachables c.queries)) e ∙ ap (λ cs. capped (queries_sum (map one c.assumptions) cs reachables c.queries)) f
      ∙ ap (λ cs. capped (queries_sum (map one c.assumptions) (map one c.currents) cs c.queries)) g ∙ queries_are c c.queries in
      let last = hz ∙ cap_sum second third b r (kind_is Current c.queries c.currents currents b f hb) (kind_is Reachable c.queries c.reachables reachables r g hr) in
      let rest = hy ∙ cap_sum first (second + third) a z (kind_is Assumption c.queries c.assumptions assumptions a e ha) last in
      hx ∙ cap_sum all (first + (second + third)) n y named rest

-- under counts of functions that agree
pub formulas_counted : (calls : ℕ → ℕ) (sizes : List ℕ) → AreCounted calls sizes → (fs : List Formula)
    → map (λ (f : Formula). capped (term_size (known sizes) (plain f.term))) fs ≡ map (λ (f : Formula). capped (term_size calls (plain f.term))) fs
formulas_counted calls sizes a [] = refl
formulas_counted calls sizes a (f ∷ fs) =
    ap (λ n. n ∷ map (λ (f : Formula). capped (term_size (known sizes) (plain f.term))) fs) (sizes_agree (known sizes) calls a (plain f.term))
    ∙ ap (λ ns. capped (term_size calls (plain f.term)) ∷ ns) (formulas_counted calls sizes a fs)

heights_counted : (calls : ℕ → ℕ) (heights : List ℕ) → AreCounted calls heights → (fs : List PlainFormula) → capped (formulas_height (known heights) fs) ≡ capped (formulas_height calls fs)
heights_counted calls heights a [] = refl
heights_counted calls heights a (f ∷ fs) =
    same_max (term_height (known heights) f.term) (formulas_height (known heights) fs) (term_height calls f.term) (formulas_height calls fs) (heights_agree (known heights) calls a f.term) (heights_counted calls heights a fs)

pub check_heights : (calls : ℕ → ℕ) (heights : List ℕ) → AreCounted calls heights → (c : Check) (a b r z x : ℕ) → a ≡ capped (formulas_height (known heights) (map plain_formula c.assumptions))
    → b ≡ capped (formulas_height (known heights) (map plain_formula c.currents)) → r ≡ capped (formulas_height (known heights) (map plain_formula c.reachables))
    → z ≡ max b r → x ≡ max a z → x ≡ capped (check_height calls (plain_check c))
check_heights calls heights counted c a b r z x ha hb hr hz hx =
    let first = formulas_height calls (map plain_formula c.assumptions) in
    let second = formulas_height calls (map plain_formula c.currents) in
    let third = formulas_height calls (map plain_formula c.reachables) in
    hx ∙ cap_max first (max second third) a z (ha ∙ heights_counted calls heights counted (map plain_formula c.assumptions))
    (hz ∙ cap_max second third b r (hb ∙ heights_counted calls heights counted (map plain_formula c.currents)) (hr ∙ heights_counted calls heights counted (map plain_formula c.reachables)))
