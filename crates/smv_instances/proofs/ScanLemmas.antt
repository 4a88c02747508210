-- Names that are found by going through the declarations of a module.
use Rattle.std.proofs.Common.{◌≡◌, ℕ, ◌+◌, ◌<◌, ◌⊎◌, inl, inr, true, Some, if◌then◌else◌, List, [], map, drop, length, bytes_eq, refl, sym, ap, ◌∙◌, arith}
use Rattle.std.specs.Prelude.{slice_get, slice_index_or}
use Rattle.std.specs.Option.{option_map}
use Rattle.std.proofs.lemmas.Option.{slice_get_read}
use Rattle.smv_text.specs.declared.tree.Parameter.{Parameter}
use Rattle.smv_text.specs.declared.tree.Expr.{Expr}
use Rattle.smv_text.specs.Tree.{trees_of}
use Rattle.smv_text.specs.View.{plain, plain_module}
use Rattle.smv_text.specs.declared.tree.Module.{Module}
use Rattle.smv_meaning.specs.Instances.{module_named}
use Rattle.smv_meaning.specs.Names.{Local, among_parameters}
use Rattle.smv_meaning.specs.laws.Lists.{front_is}
use Rattle.smv_instances.specs.laws.NameLemmas.{parameters_end}

-- ---- parameters

-- none is found where either list is at its end
pub none_among : (j : ℕ) (ys : List Parameter) (es : List Expr) (x : List ℕ) (other : Local) → (ys ≡ []) ⊎ (es ≡ []) → other ≡ among_parameters j ys (trees_of (map plain es)) x other
none_among j ys es x other (inl e) = sym (ap (λ qs. among_parameters j qs (trees_of (map plain es)) x other) e)
none_among j ys es x other (inr e) = sym (parameters_end j 0 (length es) ys es x other refl (omega (arith, ap length e)))

-- ---- modules

-- the module at a place is the first one of its name from there on
pub module_here : (ms : List Module) (k : ℕ) (one : Module) (name x : List ℕ) → k < length ms → one ≡ slice_index_or ms k one → name ≡ one.name → bytes_eq name x ≡ true
    → option_map plain_module (slice_get ms k) ≡ module_named (map plain_module (drop k ms)) x
module_here ms k one name x h is n e =
    ap (option_map plain_module) (slice_get_read ms (length ms) k one refl h is)
    ∙ sym (ap (λ l. module_named (map plain_module l) x) (front_is ms k (length ms) one refl h is) ∙ ap (λ z. if bytes_eq z x then Some (plain_module one) else module_named (map plain_module (drop (k + 1) ms)) x) (sym n)
    ∙ ap (λ b. if b then Some (plain_module one) else module_named (map plain_module (drop (k + 1) ms)) x) e)
