-- The states and labels that are read of a trace's steps are those of the run for which it stands.
use Rattle.std.proofs.Common.{◌≡◌, ℕ, zero, suc, ◌+◌, ◌-◌, ◌<◌, ◌≤◌, List, [], ◌∷◌, ◌++◌, length, map, take, Some, refl, sym, ap, ◌∙◌, subst, arith}
use Rattle.std.specs.Prelude.{slice_get, slice_index_or}
use Rattle.std.specs.List.{AllByRecursion}
use Rattle.std.proofs.lemmas.List.{get_or-take, length-take-le, take_more, map-append}
use Rattle.std.proofs.lemmas.Option.{slice_get_read}
use Rattle.smv_meaning.specs.declared.value.Given.{Given}
use Rattle.smv_meaning.specs.declared.value.Run.{Run}
use Rattle.smv_flatten.specs.FlatModel.{FlatModel, flat_plain}
use Rattle.moxi_terms.specs.declared.data.Datum.{Datum}
use Rattle.moxi_terms.specs.Value.{at, Values}
use Rattle.moxi_scripts.specs.Behaviour.{Trace, trace_of}
use Rattle.smv_script.specs.Terms.{Coding}
use Rattle.smv_script.specs.Script.{coding_of}
use Rattle.smv_script_laws.specs.Decoding.{decoded_steps, decoded_state, decoded_label, run_of}
use Rattle.smv_to_moxi.specs.declared.lift.Part.TheVariants.{State, Label}
use Rattle.smv_to_moxi.specs.Lifting.{read_of}
use Rattle.smv_to_moxi.proofs.LiftedParts.{take_whole}

pub each_there : {X : Type 0} (P : X → Type 0) (xs : List X) (k : ℕ) (x : X) → AllByRecursion P xs → slice_get xs k ≡ Some x → P x
each_there P [] k x a h = cc
each_there P (y ∷ xs) zero x a h = let e : y ≡ x = cc in subst P e a.0
each_there P (y ∷ xs) (suc k) x a h = each_there P xs k x a.1 h

-- a loop over a list of steps
pub step_here : {X : Type 0} (P : X → Type 0) (xs : List X) (k : ℕ) (x : X) → AllByRecursion P xs → k < length xs → x ≡ slice_index_or xs k x → P x
step_here P xs k x a l e = each_there P xs k x a (slice_get_read xs (length xs) k x refl l e)

pub mapped_more : {X Y : Type 0} (f : X → Y) (xs : List X) (k : ℕ) (x : X) (ys zs : List Y) (y : Y) → k < length xs → x ≡ slice_index_or xs k x → ys ≡ map f (take k xs) → y ≡ f x → zs ≡ ys ++ y ∷ []
    → zs ≡ map f (take (k + 1) xs)
mapped_more f xs k x ys zs y l e before here pushed =
    let more : take (k + 1) xs ≡ take k xs ++ x ∷ [] = take_more xs k x l ∙ ap (λ z. take k xs ++ z ∷ []) (sym e) in
    pushed ∙ ap (λ v. ys ++ v ∷ []) here ∙ ap (λ vs. vs ++ f x ∷ []) before ∙ sym (map-append f (take k xs) (x ∷ [])) ∙ ap (map f) (sym more)

pub mapped_end : {X Y : Type 0} (f : X → Y) (xs : List X) (k : ℕ) (ys : List Y) → length xs ≤ k → ys ≡ map f (take k xs) → ys ≡ map f xs
mapped_end f xs k ys l e = e ∙ ap (map f) (take_whole xs k l)

steps_from : (read : Values → List Given) (trace : Trace) (envs : List (List Datum)) (j : ℕ) → ((i : ℕ) → i < length envs → trace (j + i) ≡ at (slice_index_or envs i []))
    → decoded_steps read trace j (length envs) ≡ map (λ env. read (at env)) envs
steps_from read trace [] j h = refl
steps_from read trace (env ∷ envs) j h =
    let e : j ≡ j + 0 = omega arith in
    let first : trace j ≡ at env = ap trace e ∙ h 0 (omega arith) in
    let more : (i : ℕ) → i < length envs → trace (j + 1 + i) ≡ at (slice_index_or envs i []) = λ i l. let s : j + 1 + i ≡ j + suc i = omega arith in ap trace s ∙ h (suc i) (omega (arith, l)) in
    ap (λ v. read v ∷ decoded_steps read trace (j + 1) (length envs)) first ∙ ap (λ gs. read (at env) ∷ gs) (steps_from read trace envs (j + 1) more)

-- the first so many steps
steps_taken : (read : Values → List Given) (envs : List (List Datum)) (n : ℕ) → n ≤ length envs → decoded_steps read (trace_of envs) 0 n ≡ map (λ env. read (at env)) (take n envs)
steps_taken read envs n l =
    let long : length (take n envs) ≡ n = length-take-le n envs l in
    ap (decoded_steps read (trace_of envs) 0) (sym long)
    ∙ steps_from read (trace_of envs) (take n envs) 0 (λ i b. let e : 0 + i ≡ i = omega arith in let s : i < n = omega (arith, b, long) in ap (trace_of envs) e ∙ ap at (sym (get_or-take n envs i [] s)))

pub same_run : (a b c d : List (List Given)) → a ≡ b → c ≡ d → ◌≡◌ {A = Run} (record { states = a; labels = c }) (record { states = b; labels = d })
same_run a b c d p q = ap (λ (xs : List (List Given)). record { states = xs; labels = c }) p ∙ ap (λ (xs : List (List Given)). record { states = b; labels = xs }) q

module _ (f : FlatModel) (envs : List (List Datum)) (some : 1 ≤ length envs) where
  abbrev c : Coding
  c = coding_of (flat_plain f) f.width

  states_read : map (read_of State f) envs ≡ decoded_steps (decoded_state (flat_plain f) c) (trace_of envs) 0 (length envs - 1 + 1)
  states_read =
      let e : length envs ≡ length envs - 1 + 1 = omega (arith, some) in
      sym (ap (decoded_steps (decoded_state (flat_plain f) c) (trace_of envs) 0) (sym e)
      ∙ steps_from (decoded_state (flat_plain f) c) (trace_of envs) envs 0 (λ i b. let s : 0 + i ≡ i = omega arith in ap (trace_of envs) s))

  labels_read : map (read_of Label f) (take (length envs - 1) envs) ≡ decoded_steps (decoded_label (flat_plain f) c) (trace_of envs) 0 (length envs - 1)
  labels_read = sym (steps_taken (decoded_label (flat_plain f) c) envs (length envs - 1) (omega arith))

  -- a state of each step, and a label of each but the last
  pub run_read : ◌≡◌ {A = Run} (record { states = map (read_of State f) envs; labels = map (read_of Label f) (take (length envs - 1) envs) }) (run_of (flat_plain f) c (trace_of envs) (length envs - 1))
  run_read =
      same_run (map (read_of State f) envs) (decoded_steps (decoded_state (flat_plain f) c) (trace_of envs) 0 (length envs - 1 + 1))
      (map (read_of Label f) (take (length envs - 1) envs)) (decoded_steps (decoded_label (flat_plain f) c) (trace_of envs) 0 (length envs - 1)) states_read labels_read
