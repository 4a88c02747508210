-- A trace that behaves has hidden values, with which it is a trace of the flat system.
use Rattle.std.proofs.Common.{◌≡◌, ℕ, zero, suc, ◌+◌, ◌-◌, ◌<◌, List, [], ◌∷◌, ◌++◌, length, sym, ap, ◌∙◌, subst, arith, inl, inr, ◌⊎◌, length-append}
use Rattle.std.specs.List.{AllByRecursion}
use Rattle.std.proofs.lemmas.Bool.{cases_lt}
use Rattle.std.proofs.lemmas.Option.{none-some}
use Rattle.moxi_terms.specs.declared.data.Sort.{Sort}
use Rattle.moxi_terms.specs.declared.term.Enumeration.{Enumeration}
use Rattle.moxi_terms.specs.Value.{Calls}
use Rattle.moxi_scripts.specs.declared.script.Subsystem.{Subsystem}
use Rattle.moxi_scripts.specs.Script.{PlainSystem, system_at}
use Rattle.moxi_scripts.specs.Behaviour.{Trace, Suits, Shares, Behaves, behaves, EachBehaves, subsystem}
use Rattle.moxi_scripts.specs.laws.WholeParts.{all_append, get_there}
use Rattle.moxi_flat.specs.FlatSystem.{PlainPart, place_inside, parts_each, parts_upto, count_upto}
use Rattle.moxi_flat.specs.FlatMeeting.{PartHolds}
use Rattle.moxi_flat.proofs.Values.{ActualsFit, actuals_long, actual_there, inside_front, inside_back, suits_back, beside, beside_front, beside_back, suits_beside}
use Rattle.moxi_flat.proofs.Nesting.{Nests}
use Rattle.moxi_flat.proofs.Fine.{AreFine, interface, local_sorts, own_sorts, own_split, own_long, locals_long, sorts_each, hidden_sorts, count_is}
use Rattle.moxi_flat.proofs.Shown.{Shows, is_part}

-- the flat trace has these values from a number on
pub record Lies (steps start n : ℕ) (flat hidden : Trace) : Type 0 where
  pub each : (j h : ℕ) → j < steps → h < n → flat j (start + h) ≡ hidden j h

split_at : (n m v : ℕ) → v < n + m → (v < n) ⊎ ((k : ℕ) × (v ≡ n + k) × (k < m))
split_at n m v h = elim (cases_lt v n) [
  | inl a ↦ inl a
  | inr a ↦ inr (v - n, omega arith, omega arith)
]

pub lies_front : (steps start m n : ℕ) (flat f g : Trace) → Lies steps start (m + n) flat (λ j. beside m (f j) (g j)) → Lies steps start m flat f
lies_front steps start m n flat f g l = record { each = λ j h a b. l.each j h a (omega arith) ∙ beside_front m (f j) (g j) h b }

pub lies_back : (steps start m n : ℕ) (flat f g : Trace) → Lies steps start (m + n) flat (λ j. beside m (f j) (g j)) → Lies steps (start + m) n flat g
lies_back steps start m n flat f g l = record {
  each = λ j h a b.
      let e : start + m + h ≡ start + (m + h) = omega arith in
      ap (flat j) e ∙ l.each j (m + h) a (omega arith) ∙ beside_back m (f j) (g j) h;
}

module _ (es : List Enumeration) (calls : Calls) (ss : List PlainSystem) (fine : AreFine ss) (steps : ℕ) (some : 0 < steps) where
  -- hidden values of these sorts, with which the parts hold wherever the trace and they are in a flat trace
  pub record Hides (sorts : List Sort) (parts : (ℕ → ℕ) → ℕ → List PlainPart) (n : ℕ) (trace : Trace) : Type 0 where
    pub hidden : Trace
    pub suits : (j : ℕ) → j < steps → Suits es sorts (hidden j)
    pub holds : (place : ℕ → ℕ) (fresh : ℕ) (flat : Trace) → Shows steps n place flat trace → Lies steps fresh (length sorts) flat hidden
        → AllByRecursion (PartHolds calls steps flat) (parts place fresh)

  pub of_sorts : {i : ℕ} {trace : Trace} → Behaves es calls ss steps i trace → (j : ℕ) → j < steps → Suits es (own_sorts (system_at ss i)) (trace j)
  of_sorts (behaves le suits formulas subs) = suits

  -- a subsystem's trace is at its places
  inside_shows : (s : PlainSystem) (place : ℕ → ℕ) (actuals : List ℕ) (fresh : ℕ) (vars : List Sort) (flat trace inner : Trace) → ActualsFit vars actuals (interface s)
      → Shows steps (length vars) place flat trace → Shares steps actuals trace inner → Lies steps fresh (length (local_sorts s)) flat (λ j h. inner j (length (interface s) + h))
      → Shows steps (length (own_sorts s)) (place_inside place actuals fresh) flat inner
  inside_shows s place actuals fresh vars flat trace inner fit shows shares lies = record {
    each = λ j v h g.
        let long = actuals_long vars actuals (interface s) fit in
        elim (split_at (length (interface s)) (length (local_sorts s)) v (subst (λ m. v < m) (own_long s) g)) [
          | inl a ↦ let w = get_there actuals v (subst (λ m. v < m) (sym long) a) in
              ap (flat j) (inside_front place actuals fresh v w.0 w.1) ∙ shows.each j w.0 h (actual_there vars actuals (interface s) v w.0 fit w.1) ∙ sym (shares.each j v w.0 h w.1)
          | inr a ↦ ap (λ v. flat j (place_inside place actuals fresh v)) a.1
              ∙ ap (flat j) (inside_back place actuals fresh (length (interface s)) a.0 long) ∙ lies.each j a.0 h a.2 ∙ ap (inner j) (sym a.1)
        ];
  }

  abbrev Completes : ℕ → Type 0
  Completes depth = (i : ℕ) (trace : Trace) → Nests depth ss i → Behaves es calls ss steps i trace
      → Hides (hidden_sorts ss depth i) (λ place fresh. parts_upto ss depth place fresh i) (length (own_sorts (system_at ss i))) trace

  written_each : (depth : ℕ) → Completes depth → (bs : List Subsystem) (vars : List Sort) (trace : Trace)
      → AllByRecursion (λ (b : Subsystem). Nests depth ss b.system) bs → AllByRecursion (λ (b : Subsystem). ActualsFit vars b.actuals (interface (system_at ss b.system))) bs
      → EachBehaves es calls ss steps bs trace
      → Hides (sorts_each ss (hidden_sorts ss depth) bs) (λ place fresh. parts_each ss (count_upto ss depth) (parts_upto ss depth) place fresh bs) (length vars) trace
  written_each depth completes [] vars trace nests fits e = record { hidden = trace; suits = λ j h. record { each = λ v s g. absurd (none-some s g) }; holds = λ place fresh flat shows lies. tt }
  written_each depth completes (b ∷ bs) vars trace nests fits (subsystem inner does shares rest) =
      let s = system_at ss b.system in
      let sorts = local_sorts s in
      let m = length sorts in
      let n = length s.locals in
      let within = hidden_sorts ss depth b.system in
      let count = count_upto ss depth b.system in
      let after = sorts_each ss (hidden_sorts ss depth) bs in
      let first = completes b.system inner nests.0 does in
      let others = written_each depth completes bs vars trace nests.1 fits.1 rest in
      let of_locals = λ (j h : ℕ). inner j (length (interface s) + h) in
      let of_more = λ (j : ℕ). beside (length within) (first.hidden j) (others.hidden j) in
      record {
        hidden = λ j. beside m (of_locals j) (of_more j);
        suits = λ j h. suits_beside es sorts (within ++ after) (of_locals j) (of_more j)
            (suits_back es (interface s) sorts (inner j) (subst (λ ts. Suits es ts (inner j)) (own_split s) (of_sorts does j h)))
            (suits_beside es within after (first.hidden j) (others.hidden j) (first.suits j h) (others.suits j h));
        holds = λ place fresh flat shows lies.
            let all = subst (λ k. Lies steps fresh k flat (λ j. beside m (of_locals j) (of_more j))) (length-append sorts (within ++ after)) lies in
            let back = subst (λ k. Lies steps (fresh + k) (length (within ++ after)) flat of_more) (locals_long s) (lies_back steps fresh m (length (within ++ after)) flat of_locals of_more all) in
            let more = subst (λ k. Lies steps (fresh + n) k flat of_more) (length-append within after) back in
            let last = subst (λ k. Lies steps (fresh + n + k) (length after) flat others.hidden) (sym (count_is ss depth b.system)) (lies_back steps (fresh + n) (length within) (length after) flat first.hidden others.hidden more) in
            all_append (PartHolds calls steps flat) (parts_upto ss depth (place_inside place b.actuals fresh) (fresh + n) b.system)
            (parts_each ss (count_upto ss depth) (parts_upto ss depth) place (fresh + n + count) bs)
            (first.holds (place_inside place b.actuals fresh) (fresh + n) flat
            (inside_shows s place b.actuals fresh vars flat trace inner fits.0 shows shares (lies_front steps fresh m (length (within ++ after)) flat of_locals of_more all))
            (lies_front steps (fresh + n) (length within) (length after) flat first.hidden others.hidden more))
            (others.holds place (fresh + n + count) flat shows last);
      }

  pub written : (depth : ℕ) → Completes depth
  written zero i trace nests does = absurd nests
  written (suc depth) i trace nests (behaves le suits formulas subs) =
      let s = system_at ss i in
      let h = written_each depth (written depth) s.subsystems (own_sorts s) trace nests.1 (fine i le).actuals subs in
      record {
        hidden = h.hidden;
        suits = h.suits;
        holds = λ place fresh flat shows lies. (is_part es calls ss fine steps some i place flat trace le shows formulas, h.holds place fresh flat shows lies);
      }
