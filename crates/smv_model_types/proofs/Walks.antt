-- A walk over parts of an instance: their checks, and what each of them adds.
use Rattle.std.proofs.Common.{◌≡◌, List, [], ◌∷◌, ◌++◌, length, map, flat_map, None, refl, sym, ap, ◌∙◌, subst}
use Rattle.text_core.specs.declared.end.End.{End}
use Rattle.smv_text.specs.Tree.{Tree, trees_of}
use Rattle.smv_text.specs.declared.tree.Path.{Path}
use Rattle.smv_meaning.specs.Checks.{Check, first_failing, IsBad, Named}
use Rattle.smv_meaning.specs.Instances.{Instance}
use Rattle.smv_meaning.specs.Phases.{actual_typing, actuals_typing}
use Rattle.smv_meaning.specs.laws.Composing.{goes, ends}
use Rattle.smv_items.specs.FlatItems.{Origin}
use Rattle.smv_model_types.specs.declared.built.Building.{Building}
use Rattle.smv_model_types.specs.Building.{Piece, Adds, Finds, IsReady}
use Rattle.smv_model_types.proofs.BuildingLaws.{adds_nothing, adds_then}
use Rattle.smv_model_types.proofs.Finding.{finds_nothing, finds_then}
use Rattle.smv_model_types.proofs.Ready.{ready_first, ready_behind}

-- the parts that remain decide the checks, and what they add completes what all of them add
pub record Walks {X : Type 0} (t : List Instance) (f : X → List Check) (m : X → List Origin) (g : X → List Piece) (k : X → List Check) (all : List X) (old : Building) (rest : List X) (now : Building) : Type 0 where
  pub checks : first_failing (flat_map f rest) ≡ first_failing (flat_map f all)
  pub ready : IsReady t (flat_map m all) old → IsReady t (flat_map m rest) now
  pub adds : (b : Building) → Adds t (flat_map m rest) (flat_map g rest) now b → Adds t (flat_map m all) (flat_map g all) old b
  pub finds : (b : Building) → Finds (flat_map k rest) now b → Finds (flat_map k all) old b

pub walks_start : {X : Type 0} (t : List Instance) (f : X → List Check) (m : X → List Origin) (g : X → List Piece) (k : X → List Check) (all : List X) (old : Building) → Walks t f m g k all old all old
walks_start t f m g k all old = record { checks = refl; ready = λ r. r; adds = λ b h. h; finds = λ b h. h }

-- at the first of the parts that remain
pub walks_here : {X Y : Type 0} (t : List Instance) (f : X → List Check) (m : X → List Origin) (g : X → List Piece) (k : X → List Check) (all : List X) (old : Building) (p : Y → X) (xs : List Y) (y : Y) (ys : List Y) (now : Building)
    → xs ≡ y ∷ ys → Walks t f m g k all old (map p xs) now → Walks t f m g k all old (p y ∷ map p ys) now
walks_here t f m g k all old p xs y ys now e w = subst (λ zs. Walks t f m g k all old (map p zs) now) e w

-- where none remain
pub walks_over : {X Y : Type 0} (t : List Instance) (f : X → List Check) (m : X → List Origin) (g : X → List Piece) (k : X → List Check) (all : List X) (old : Building) (p : Y → X) (xs : List Y) (now : Building)
    → length xs ≡ 0 → Walks t f m g k all old (map p xs) now → Walks t f m g k all old [] now
walks_over t f m g k all old p [] now e w = w
walks_over t f m g k all old p (x ∷ xs) now e w = cc

pub walks_step : {X : Type 0} (t : List Instance) (f : X → List Check) (m : X → List Origin) (g : X → List Piece) (k : X → List Check) (all : List X) (old : Building) (x : X) (rest : List X) (now next : Building)
    → Walks t f m g k all old (x ∷ rest) now → first_failing (f x) ≡ None → Adds t (m x) (g x) now next → Finds (k x) now next → Walks t f m g k all old rest next
walks_step t f m g k all old x rest now next w c a n = record {
  checks = sym (goes (f x) (flat_map f rest) c) ∙ w.checks;
  ready = λ r. ready_behind t (m x) (flat_map m rest) (g x) now next a (w.ready r);
  adds = λ b h. w.adds b (adds_then t (m x) (flat_map m rest) (g x) (flat_map g rest) now next b a h);
  finds = λ b h. w.finds b (finds_then (k x) (flat_map k rest) now next b n h);
}

pub walks_stop : {X : Type 0} (t : List Instance) (f : X → List Check) (m : X → List Origin) (g : X → List Piece) (k : X → List Check) (all : List X) (old : Building) (x : X) (rest : List X) (now : Building) (end : End)
    → Walks t f m g k all old (x ∷ rest) now → IsBad end (first_failing (f x)) → IsBad end (first_failing (flat_map f all))
walks_stop t f m g k all old x rest now end w h = subst (IsBad end) w.checks (ends end (f x) (flat_map f rest) h)

pub walks_checks : {X : Type 0} (t : List Instance) (f : X → List Check) (m : X → List Origin) (g : X → List Piece) (k : X → List Check) (all : List X) (old now : Building) → Walks t f m g k all old [] now → first_failing (flat_map f all) ≡ None
walks_checks t f m g k all old now w = sym w.checks

pub walks_end : {X : Type 0} (t : List Instance) (f : X → List Check) (m : X → List Origin) (g : X → List Piece) (k : X → List Check) (all : List X) (old now : Building) → Walks t f m g k all old [] now → Adds t (flat_map m all) (flat_map g all) old now
walks_end t f m g k all old now w = w.adds now (adds_nothing t now)

pub walks_finds : {X : Type 0} (t : List Instance) (f : X → List Check) (m : X → List Origin) (g : X → List Piece) (k : X → List Check) (all : List X) (old now : Building) → Walks t f m g k all old [] now → Finds (flat_map k all) old now
walks_finds t f m g k all old now w = w.finds now (finds_nothing now)

-- what the first of the parts that remain adds comes next
pub walks_ready : {X : Type 0} (t : List Instance) (f : X → List Check) (m : X → List Origin) (g : X → List Piece) (k : X → List Check) (all : List X) (old : Building) (x : X) (rest : List X) (now : Building)
    → Walks t f m g k all old (x ∷ rest) now → IsReady t (flat_map m all) old → IsReady t (m x) now
walks_ready t f m g k all old x rest now w r = ready_first t (m x) (flat_map m rest) now (w.ready r)

-- parts that add no item, or no assignment and no section
abbrev pub adds_none : {X Y : Type 0} → X → List Y
adds_none x = []

pub none_all : {X Y : Type 0} (xs : List X) → flat_map (adds_none {X = X} {Y = Y}) xs ≡ []
none_all [] = refl
none_all (x ∷ xs) = none_all xs

pub singles : {X Y : Type 0} (f : X → Y) (xs : List X) → flat_map (λ x. f x ∷ []) xs ≡ map f xs
singles f [] = refl
singles f (x ∷ xs) = ap (λ ys. f x ∷ ys) (singles f xs)

pub actuals_each : (names : Path → Named) (es : List Tree) → actuals_typing names (trees_of es) ≡ flat_map (actual_typing names) es
actuals_each names [] = refl
actuals_each names (e ∷ es) = ap (λ cs. actual_typing names e ++ cs) (actuals_each names es)
