-- Steps of the walk over the modules.
use Rattle.std.proofs.Common.{◌≡◌, ℕ, suc, ◌-◌, ◌<◌, List, [], ◌∷◌, ◌++◌, None, append_assoc, refl, sym, ap, ◌∙◌, subst, arith}
use Rattle.text_core.specs.declared.end.End.{End}
use Rattle.smv_text.specs.Tree.{PlainModule}
use Rattle.smv_meaning.specs.Checks.{first_failing, IsBad}
use Rattle.smv_meaning.specs.Phases.{Declared, declared_in, declared_checks, counted_all}
use Rattle.smv_names.specs.Visits.{Visit, declared_visits, visits, visit_checks, visit_count}
use Rattle.smv_meaning.specs.laws.Composing.{goes, ends}

pub checks_append : (ms : List PlainModule) (met : ℕ) (vs ws : List Visit) → visit_checks ms met (vs ++ ws) ≡ visit_checks ms met vs ++ visit_checks ms (visit_count met vs) ws
checks_append ms met [] ws = refl
checks_append ms met (v ∷ vs) ws =
    let own = declared_checks ms v.above v.path [] met (declared_in v.module) in
    let more = counted_all met (declared_in v.module) in
    ap (λ cs. own ++ cs) (checks_append ms more vs ws) ∙ sym (append_assoc own (visit_checks ms more vs) (visit_checks ms (visit_count more vs) ws))

pub count_append : (met : ℕ) (vs ws : List Visit) → visit_count met (vs ++ ws) ≡ visit_count (visit_count met vs) ws
count_append met [] ws = refl
count_append met (v ∷ vs) ws = count_append (counted_all met (declared_in v.module)) vs ws

pub visits_none : (n : ℕ) (ms : List PlainModule) (above : List (List ℕ)) (path : List ℕ) (m : PlainModule) → n ≡ 0 → visits n ms above path m ≡ []
unfolding visits
visits_none n ms above path m e = ap (λ k. visits k ms above path m) e

visits_begin : (n : ℕ) (ms : List PlainModule) (above : List (List ℕ)) (path : List ℕ) (m : PlainModule) → 0 < n
    → visits n ms above path m ≡ record { «module» = m; path = path; above = m.name ∷ above } ∷ declared_visits (visits (n - 1) ms (m.name ∷ above)) ms path (declared_in m)
unfolding visits
visits_begin n ms above path m h = let e : n ≡ suc (n - 1) = omega (arith, h) in ap (λ k. visits k ms above path m) e

-- an instance's own checks come first
begins : (n : ℕ) (ms : List PlainModule) (above own : List (List ℕ)) (path : List ℕ) (met : ℕ) (m : PlainModule) (ds : List Declared) → 0 < n → own ≡ m.name ∷ above → ds ≡ declared_in m
    → visit_checks ms met (visits n ms above path m) ≡ declared_checks ms own path [] met ds ++ visit_checks ms (counted_all met ds) (declared_visits (visits (n - 1) ms (m.name ∷ above)) ms path ds)
begins n ms above own path met m ds h o e =
    ap (visit_checks ms met) (visits_begin n ms above path m h)
    ∙ ap (λ a. declared_checks ms a path [] met (declared_in m) ++ visit_checks ms (counted_all met (declared_in m)) (declared_visits (visits (n - 1) ms (m.name ∷ above)) ms path (declared_in m))) (sym o)
    ∙ ap (λ l. declared_checks ms own path [] met l ++ visit_checks ms (counted_all met l) (declared_visits (visits (n - 1) ms (m.name ∷ above)) ms path l)) (sym e)

pub begins_bad : (n : ℕ) (ms : List PlainModule) (above own : List (List ℕ)) (path : List ℕ) (met : ℕ) (m : PlainModule) (ds : List Declared) (e : End) → 0 < n → own ≡ m.name ∷ above → ds ≡ declared_in m
    → IsBad e (first_failing (declared_checks ms own path [] met ds)) → IsBad e (first_failing (visit_checks ms met (visits n ms above path m)))
begins_bad n ms above own path met m ds e h o d b =
    subst (λ cs. IsBad e (first_failing cs)) (sym (begins n ms above own path met m ds h o d))
    (ends e (declared_checks ms own path [] met ds) (visit_checks ms (counted_all met ds) (declared_visits (visits (n - 1) ms (m.name ∷ above)) ms path ds)) b)

pub begins_well : (n : ℕ) (ms : List PlainModule) (above own : List (List ℕ)) (path : List ℕ) (met : ℕ) (m : PlainModule) (ds : List Declared) → 0 < n → own ≡ m.name ∷ above → ds ≡ declared_in m
    → first_failing (declared_checks ms own path [] met ds) ≡ None
    → first_failing (visit_checks ms (counted_all met ds) (declared_visits (visits (n - 1) ms (m.name ∷ above)) ms path ds)) ≡ first_failing (visit_checks ms met (visits n ms above path m))
begins_well n ms above own path met m ds h o d k =
    sym (ap first_failing (begins n ms above own path met m ds h o d)
    ∙ goes (declared_checks ms own path [] met ds) (visit_checks ms (counted_all met ds) (declared_visits (visits (n - 1) ms (m.name ∷ above)) ms path ds)) k)

pub begins_count : (n : ℕ) (ms : List PlainModule) (above : List (List ℕ)) (path : List ℕ) (met : ℕ) (m : PlainModule) (ds : List Declared) → 0 < n → ds ≡ declared_in m
    → visit_count (counted_all met ds) (declared_visits (visits (n - 1) ms (m.name ∷ above)) ms path ds) ≡ visit_count met (visits n ms above path m)
begins_count n ms above path met m ds h d =
    ap (λ l. visit_count (counted_all met l) (declared_visits (visits (n - 1) ms (m.name ∷ above)) ms path l)) d ∙ sym (ap (visit_count met) (visits_begin n ms above path m h))

-- an item's instance, and what is behind the item
pub goes_on : (ms : List PlainModule) (count more : ℕ) (vs ws : List Visit) → first_failing (visit_checks ms count vs) ≡ None → more ≡ visit_count count vs
    → first_failing (visit_checks ms more ws) ≡ first_failing (visit_checks ms count (vs ++ ws))
goes_on ms count more vs ws h e =
    ap (λ m. first_failing (visit_checks ms m ws)) e
    ∙ sym (ap first_failing (checks_append ms count vs ws) ∙ goes (visit_checks ms count vs) (visit_checks ms (visit_count count vs) ws) h)

pub ends_in : (ms : List PlainModule) (count : ℕ) (vs ws : List Visit) (e : End) → IsBad e (first_failing (visit_checks ms count vs)) → IsBad e (first_failing (visit_checks ms count (vs ++ ws)))
ends_in ms count vs ws e h =
    subst (λ cs. IsBad e (first_failing cs)) (sym (checks_append ms count vs ws)) (ends e (visit_checks ms count vs) (visit_checks ms (visit_count count vs) ws) h)
