-- What a path goes through, name by name.
use Rattle.std.proofs.Common.{◌≡◌, ℕ, false, List, [], ◌∷◌, ◌++◌, map, Some, None, refl, sym, ap, ◌∙◌}
use Rattle.std.specs.Prelude.{flat_map}
use Rattle.std.proofs.lemmas.List.{map-append}
use Rattle.smv_text.specs.declared.tree.Path.{Path}
use Rattle.smv_text.specs.Tree.{Tree}
use Rattle.smv_meaning.specs.Expressions.{paths_of}
use Rattle.smv_meaning.specs.Instances.{Instance}
use Rattle.smv_meaning.specs.Names.{Found, variable_at, body_at, instance_at, symbol_of, cyclic, none, Local, alias, body_of, local, look, steps_of}
use Rattle.smv_meaning.specs.Phases.{Body, body_here, from_instance, path_bodies, referred}
use Rattle.smv_meaning.specs.Bodies.{bodies_of, number_or, path_numbers, all_path_numbers, instance_within, references_of}
use Rattle.smv_meaning.specs.Settled.{has_body}
use Rattle.smv_laws.proofs.Ranked.{no_reference}
use Rattle.text_core.proofs.ListLaws.{append_none}

abbrev pub here_numbers : List Instance → ℕ → List ℕ → List ℕ
here_numbers t i x = map (number_or (bodies_of t)) (body_here i x (local t i x))

from_none : (m : Found) (go : ℕ → List Body) → instance_within m ≡ None → from_instance m go ≡ []
from_none (instance_at c) go h = cc
from_none (variable_at x k d) go h = refl
from_none (body_at i x j e) go h = refl
from_none (symbol_of x) go h = refl
from_none cyclic go h = refl
from_none none go h = refl

from_some : (m : Found) (go : ℕ → List Body) (c : ℕ) → instance_within m ≡ Some c → from_instance m go ≡ go c
from_some (instance_at d) go c h = let e : d ≡ c = cc in ap go e
from_some (variable_at x k d) go c h = cc
from_some (body_at i x j e) go c h = cc
from_some (symbol_of x) go c h = cc
from_some cyclic go c h = cc
from_some none go c h = cc

pub path_numbers_none : (t : List Instance) (i : ℕ) (names : List (List ℕ)) → names ≡ [] → path_numbers t i names ≡ []
path_numbers_none t i names e = ap (path_numbers t i) e

pub path_numbers_last : (t : List Instance) (i : ℕ) (x : List ℕ) (names rest : List (List ℕ)) → None ≡ instance_within (look t (steps_of t) i x) → names ≡ x ∷ rest → path_numbers t i names ≡ here_numbers t i x
path_numbers_last t i x names rest h e =
    ap (path_numbers t i) e
    ∙ ap (λ fs. map (number_or (bodies_of t)) (body_here i x (local t i x) ++ fs)) (from_none (look t (steps_of t) i x) (λ c. path_bodies t (look t (steps_of t)) c rest) (sym h))
    ∙ ap (map (number_or (bodies_of t))) (append_none (body_here i x (local t i x)))

pub path_numbers_more : (t : List Instance) (i c : ℕ) (x : List ℕ) (names rest : List (List ℕ)) → Some c ≡ instance_within (look t (steps_of t) i x) → names ≡ x ∷ rest
    → path_numbers t i names ≡ here_numbers t i x ++ path_numbers t c rest
path_numbers_more t i c x names rest h e =
    ap (path_numbers t i) e
    ∙ ap (λ fs. map (number_or (bodies_of t)) (body_here i x (local t i x) ++ fs)) (from_some (look t (steps_of t) i x) (λ c. path_bodies t (look t (steps_of t)) c rest) c (sym h))
    ∙ map-append (number_or (bodies_of t)) (body_here i x (local t i x)) (path_bodies t (look t (steps_of t)) c rest)

-- what all paths of an expression go through
pub all_path_numbers_is : (t : List Instance) (j : ℕ) (qs : List Path) → all_path_numbers t j qs ≡ map (number_or (bodies_of t)) (flat_map (λ q. path_bodies t (look t (steps_of t)) j q.names) qs)
all_path_numbers_is t j [] = refl
all_path_numbers_is t j (q ∷ qs) =
    ap (λ ns. path_numbers t j q.names ++ ns) (all_path_numbers_is t j qs)
    ∙ sym (map-append (number_or (bodies_of t)) (path_bodies t (look t (steps_of t)) j q.names) (flat_map (λ r. path_bodies t (look t (steps_of t)) j r.names) qs))

-- the row of a definition or an actual
pub alias_row : (t : List Instance) (k : Body) (j : ℕ) (p : Path) → alias j p ≡ local t k.0 k.1 → path_numbers t j p.names ≡ references_of t k
alias_row t k j p h = ap (λ l. map (number_or (bodies_of t)) (referred t (look t (steps_of t)) l)) h

pub body_row : (t : List Instance) (k : Body) (j : ℕ) (e : Tree) → body_of j e ≡ local t k.0 k.1 → all_path_numbers t j (paths_of e []) ≡ references_of t k
body_row t k j e h = all_path_numbers_is t j (paths_of e []) ∙ ap (λ l. map (number_or (bodies_of t)) (referred t (look t (steps_of t)) l)) h

pub no_row : (t : List Instance) (k : Body) (l : Local) → l ≡ local t k.0 k.1 → has_body l ≡ false → references_of t k ≡ []
no_row t k l h e = ap (λ fs. map (number_or (bodies_of t)) fs) (ap (referred t (look t (steps_of t))) (sym h) ∙ no_reference t (look t (steps_of t)) l e)
