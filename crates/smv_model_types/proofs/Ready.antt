-- Items that come next, and what is kept.
use Rattle.std.proofs.Common.{◌≡◌, ℕ, List, [], ◌∷◌, ◌++◌, length, map, Some, sym, ap, ◌∙◌, subst}
use Rattle.smv_text.specs.Tree.{Tree}
use Rattle.smv_meaning.specs.Instances.{Instance}
use Rattle.smv_items.specs.FlatItems.{Origin, definition, origins_of}
use Rattle.smv_model_types.specs.declared.built.Building.{Building}
use Rattle.smv_model_types.specs.Kept.{Stand, IsBodyAt, body_or_none}
use Rattle.smv_model_types.specs.Building.{Piece, Adds, IsReady}
use Rattle.smv_model_types.proofs.BuildingLaws.{types_long}
use Rattle.smv_model_types.proofs.KeptLemmas.{stand_front, stand_back, stand_mapped}

pub ready_first : (t : List Instance) (ms ns : List Origin) (now : Building) → IsReady t (ms ++ ns) now → IsReady t ms now
ready_first t ms ns now r = record { kept = r.kept; items = stand_front (origins_of t) (length now.types.items) ms ns r.items }

-- behind those that are added
pub ready_behind : (t : List Instance) (ms ns : List Origin) (ps : List Piece) (now next : Building) → Adds t ms ps now next → IsReady t (ms ++ ns) now → IsReady t ns next
ready_behind t ms ns ps now next a r = record {
  kept = a.kept r.kept;
  items = subst (λ k. Stand (origins_of t) k ns) (sym (types_long t ms ps now next a)) (stand_back (origins_of t) (length now.types.items) ms ns r.items);
}

pub ready_mapped : (t : List Instance) (f : Origin → Origin) (ms ns : List Origin) (now : Building) → ((m : Origin) → (f m).content ≡ m.content) → map f ms ≡ ns → IsReady t ms now → IsReady t ns now
ready_mapped t f ms ns now same e r = record { kept = r.kept; items = subst (λ xs. Stand (origins_of t) (length now.types.items) xs) e (stand_mapped f same (origins_of t) (length now.types.items) ms r.items) }

-- a body that comes next
pub definition_next : (t : List Instance) (m : Origin) (j : ℕ) (e : Tree) (now : Building) → m.content ≡ definition j e → IsReady t (m ∷ []) now → IsBodyAt t (length now.types.items) j e
definition_next t m j e now c r = ap body_or_none r.items.0 ∙ ap (λ b. body_or_none (Some b)) c
