-- Actuals and their parameters.
use Rattle.std.specs.Prelude.{Result, Ok, Err, OnOk}
use Rattle.std.proofs.Common.{◌≡◌, false, ℕ, ◌+◌, ◌≤◌, List, [], ◌∷◌, ◌++◌, length, map, flat_map, Option, None, Some, option_map, append_assoc, refl, sym, ap, ◌∙◌, subst, arith}
use Rattle.std.proofs.lemmas.List.{map-append, length-map}
use Rattle.smv_text.specs.declared.tree.Expr.{Expr}
use Rattle.smv_text.specs.declared.tree.Path.{Path}
use Rattle.smv_text.specs.declared.tree.Parameter.{Parameter}
use Rattle.smv_text.specs.Tree.{Tree, trees_of}
use Rattle.smv_text.specs.View.{plain}
use Rattle.smv_meaning.specs.Checks.{Check, Named}
use Rattle.text_core.specs.declared.end.End.{End}
use Rattle.smv_meaning.specs.Instances.{Instance}
use Rattle.smv_meaning.specs.Phases.{actual_typing, actuals_typing}
use Rattle.smv_intervals.specs.View.{seen}
use Rattle.smv_flat.specs.FlatFormulas.{form_plain}
use Rattle.smv_items.specs.FlatItems.{Origin, Content, with_content, actual_content, actual_items, content_type}
use Rattle.smv_flat.specs.FlatForms.{content_form, body_forms}
use Rattle.smv_model_types.specs.declared.built.Building.{Building}
use Rattle.smv_model_types.specs.Building.{Piece, Adds, IsReady, own_items}
use Rattle.smv_model_types.proofs.Ready.{ready_mapped}
use Rattle.smv_model_types.proofs.Walks.{actuals_each}

-- the same item without its name
abbrev pub unnamed : Origin → Origin
unnamed m = record { instance = m.instance; name = []; content = m.content }

same_types : (t : List Instance) (ms : List Origin) → map (λ (m : Origin). content_type t m.content) (map unnamed ms) ≡ map (λ (m : Origin). content_type t m.content) ms
same_types t [] = refl
same_types t (m ∷ ms) = ap (λ ts. content_type t m.content ∷ ts) (same_types t ms)

same_forms : (t : List Instance) (k : ℕ) (ms : List Origin) → body_forms t k (map unnamed ms) ≡ body_forms t k ms
same_forms t k [] = refl
same_forms t k (m ∷ ms) = ap (λ fs. content_form t k m.instance m.content ++ fs) (same_forms t (k + 1) ms)

pub named_adds : (t : List Instance) (ms : List Origin) (ps : List Piece) (old new : Building) → Adds t (map unnamed ms) ps old new → Adds t ms ps old new
named_adds t ms ps old new h = record {
  types = h.types ∙ ap (λ ts. map (option_map seen) old.types.items ++ ts) (same_types t ms);
  forms = h.forms ∙ ap (λ gs. map form_plain old.forms.items ++ gs) (same_forms t (length old.types.items) ms);
  rest = h.rest;
  assigned = h.assigned;
  kept = h.kept;
}

item_unnamed : (i : ℕ) (x : List ℕ) (c : Option Content) (ms : List Origin) → map unnamed (with_content i x c ++ ms) ≡ with_content i [] c ++ map unnamed ms
item_unnamed i x None ms = refl
item_unnamed i x (Some c) ms = refl

none_left : (i j : ℕ) (qs : List Parameter) → actual_items i j qs (trees_of []) ≡ []
none_left i j [] = refl
none_left i j (q ∷ qs) = refl

-- more actuals than parameters
pub items_front : (i j : ℕ) (qs : List Parameter) (front back : List Tree) → length front ≡ length qs → map unnamed (actual_items i j qs (trees_of (front ++ back))) ≡ flat_map (own_items i j) front
items_front i j [] [] back l = refl
items_front i j [] (e ∷ front) back l = cc
items_front i j (q ∷ qs) [] back l = cc
items_front i j (q ∷ qs) (e ∷ front) back l =
    item_unnamed i q.name (actual_content j e) (actual_items i j qs (trees_of (front ++ back)))
    ∙ ap (λ ms. with_content i [] (actual_content j e) ++ ms) (items_front i j qs front back (let r : length front ≡ length qs = omega (arith, l) in r))

-- a parameter for each actual
pub items_all : (i j : ℕ) (qs : List Parameter) (es : List Tree) → length es ≤ length qs → map unnamed (actual_items i j qs (trees_of es)) ≡ flat_map (own_items i j) es
items_all i j qs [] l = ap (map unnamed) (none_left i j qs)
items_all i j [] (e ∷ es) l = absurd (omega (arith, l))
items_all i j (q ∷ qs) (e ∷ es) l =
    item_unnamed i q.name (actual_content j e) (actual_items i j qs (trees_of es))
    ∙ ap (λ ms. with_content i [] (actual_content j e) ++ ms) (items_all i j qs es (let r : length es ≤ length qs = omega (arith, l) in r))

each_joined : (f : Tree → List Check) (xs ys : List Tree) → flat_map f (xs ++ ys) ≡ flat_map f xs ++ flat_map f ys
each_joined f [] ys = refl
each_joined f (x ∷ xs) ys = ap (λ cs. f x ++ cs) (each_joined f xs ys) ∙ sym (append_assoc (f x) (flat_map f xs) (flat_map f ys))

pub checks_split : (names : Path → Named) (es front back : List Expr) → es ≡ front ++ back
    → actuals_typing names (trees_of (map plain es)) ≡ flat_map (actual_typing names) (map plain front) ++ flat_map (actual_typing names) (map plain back)
checks_split names es front back e =
    actuals_each names (map plain es) ∙ ap (λ xs. flat_map (actual_typing names) (map plain xs)) e
    ∙ ap (flat_map (actual_typing names)) (map-append plain front back) ∙ each_joined (actual_typing names) (map plain front) (map plain back)

pub own_split : (i j : ℕ) (qs : List Parameter) (es own others : List Expr) → es ≡ own ++ others → length own ≡ length qs → map unnamed (actual_items i j qs (trees_of (map plain es))) ≡ flat_map (own_items i j) (map plain own)
own_split i j qs es own others e l =
    ap (λ xs. map unnamed (actual_items i j qs (trees_of xs))) (ap (map plain) e ∙ map-append plain own others)
    ∙ items_front i j qs (map plain own) (map plain others) (length-map own plain ∙ l)

pub own_all : (i j : ℕ) (qs : List Parameter) (es : List Expr) → length es ≤ length qs → map unnamed (actual_items i j qs (trees_of (map plain es))) ≡ flat_map (own_items i j) (map plain es)
own_all i j qs es l = let m : length (map plain es) ≡ length es = length-map es plain in items_all i j qs (map plain es) (omega (arith, l, m))

pub own_ready : (t : List Instance) (ms xs : List Origin) (now : Building) → map unnamed ms ≡ xs → IsReady t ms now → IsReady t xs now
own_ready t ms xs now e r = ready_mapped t unnamed ms xs now (λ m. refl) e r

pub own_adds : (t : List Instance) (ms xs : List Origin) (ps : List Piece) (old new : Building) → map unnamed ms ≡ xs → Adds t xs ps old new → Adds t ms ps old new
own_adds t ms xs ps old new e h = named_adds t ms ps old new (subst (λ ys. Adds t ys ps old new) (sym e) h)

-- whatever is then known of the paths so far
pub adds_unfound : (t : List Instance) (ms : List Origin) (ps : List Piece) (old new : Building) → Adds t ms ps old new
    → Adds t ms ps old (record { forms = new.forms; rest = new.rest; assigned = new.assigned; types = new.types; kept = new.kept; all_found = false })
adds_unfound t ms ps old new h = record { types = h.types; forms = h.forms; rest = h.rest; assigned = h.assigned; kept = h.kept }

pub on_ok_map : {X Y : Type 0} (r : Result (Unit {0}) End) → (X → Y) → OnOk r X → OnOk r Y
on_ok_map (Ok u) f x = f x
on_ok_map (Err end) f x = tt
