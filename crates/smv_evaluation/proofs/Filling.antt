-- Steps of evaluating what an expression reaches.
use Rattle.std.proofs.Common.{◌≡◌, ℕ, ◌+◌, ◌<◌, ◌≤◌, ◌==◌, Bool, true, false, ◌&&◌, if◌then◌else◌, bytes_eq, List, [], map, length, refl, sym, ap, ◌∙◌, subst, arith}
use mathlib.Core.Logic.{◌⊎◌, inl, inr, ⊎_elim}
use Rattle.std.specs.Borrow.{Bor}
use Rattle.std.specs.HashMap.{HashMap}
use Rattle.std.proofs.lemmas.Bool.{cases_lt}
use Rattle.smv_text.specs.declared.tree.Path.{Path}
use Rattle.smv_text.specs.Tree.{Tree}
use Rattle.smv_evaluation.specs.declared.rows.Values.{Values}
use Rattle.smv_evaluation.specs.declared.rows.Row.{Row}
use Rattle.smv_instances.specs.declared.instances.Instance.{Instance as PartOf}
use Rattle.smv_meaning.specs.Expressions.{denote, paths_of}
use Rattle.smv_meaning.specs.Names.{Local, alias, body_of, variable_of, inner, nothing, local, Found, variable_at, body_at, instance_at, symbol_of, cyclic, none, found_in}
use Rattle.smv_meaning.specs.Phases.{Body}
use Rattle.name_maps.specs.Maps.{named_in}
use Rattle.smv_meaning.specs.Settled.{has_body, values_in}
use Rattle.smv_meaning.specs.Bodies.{IsBodyOrder}
use Rattle.smv_evaluation.specs.Rows.{AreGiven, cached_value, row_values, FoundIsCached, IsCached, is_marked, MarksClosed, is_written, LocalReady, local_value, LocalSafe, MarkedSafe, MarkedAreCached, KeepsMarked}
use Rattle.smv_meaning.specs.Reached.{is_body_of, local_leads_to}
use Rattle.smv_instances.specs.View.{instance_plain}
use Rattle.smv_evaluation.specs.View.{stated}
use Rattle.smv_meaning.specs.laws.Booleans.{both_true, absurd_bool}
use Rattle.smv_laws.proofs.Cycles.{In, in_any, same_is, same_self}
use Rattle.smv_laws.proofs.Ranked.{key, in_keys}
use Rattle.smv_laws.proofs.OrderLaws.{number}
use Rattle.smv_laws.proofs.Settling.{Under}
use Rattle.smv_laws.proofs.Positions.{upto_positive, order_rank, at_place, rank_low, rank_at, body_before}
use Rattle.smv_evaluation.proofs.RowReads.{kept, safely_kept, denoted_kept}
use Rattle.text_core.proofs.Truths.{bool_cases}

-- up to a place in the order the values of what is marked are kept
abbrev pub KeptUpto : {S : Type 0} → List PartOf → List ℕ → HashMap (ℕ × Bor (List ℕ)) Bool S → Row → Values → ℕ → Type 0
KeptUpto ts order marks row label n = (k : ℕ) (x : List ℕ) (j : ℕ) (e : Tree) → order_rank (map instance_plain ts) order (key k x) ≤ n → is_marked marks k x ≡ true
    → local (map instance_plain ts) k x ≡ body_of j e → FoundIsCached ts row label (body_at k x j e)

-- what a path leads to is kept, where it is before and is marked
found_kept : {S : Type 0} (ts : List PartOf) (order : List ℕ) (marks : HashMap (ℕ × Bor (List ℕ)) Bool S) (row : Row) (label : Values) (n : ℕ) → KeptUpto ts order marks row label n
    → (m : Found) → Under (map instance_plain ts) (order_rank (map instance_plain ts) order) (n + 1) m
    → ((k : ℕ) (x : List ℕ) → is_body_of k x m ≡ true → is_marked marks k x ≡ true) → FoundIsCached ts row label m
found_kept ts order marks row label n h (body_at k x j e) u s = let low = u.0 in h k x j e (omega arith) (s k x (same_self (key k x))) u.1
found_kept ts order marks row label n h (variable_at x kind d) u s = tt
found_kept ts order marks row label n h (instance_at i) u s = tt
found_kept ts order marks row label n h (symbol_of x) u s = tt
found_kept ts order marks row label n h cyclic u s = tt
found_kept ts order marks row label n h none u s = tt

-- a marked one at a place is safely evaluated
pub ready : {S : Type 0} (ts : List PartOf) (order : List ℕ) → IsBodyOrder (map instance_plain ts) order → (marks : HashMap (ℕ × Bor (List ℕ)) Bool S) → MarksClosed (map instance_plain ts) marks
    → (row : Row) (label : Values) → AreGiven row.state → AreGiven label → MarkedSafe (map instance_plain ts) marks (stated row.state.given) (stated label.given)
    → (n : ℕ) → n < length order → KeptUpto ts order marks row label n → (i : ℕ) (x : List ℕ) → at_place (map instance_plain ts) order n ≡ key i x → is_marked marks i x ≡ true
    → LocalReady ts row label (local (map instance_plain ts) i x)
ready ts order o marks closed row label right labelled safe n l h i x at marked = by (local (map instance_plain ts) i x) refl (safe i x marked)
  where
    by : (m : Local) → local (map instance_plain ts) i x ≡ m → LocalSafe (values_in (map instance_plain ts) (stated row.state.given) (stated label.given)) m → LocalReady ts row label m
    by (body_of j e) is s =
        let each : (q : Path) → In q (paths_of e []) → IsCached ts j row label q = λ q g.
        kept ts j row label q right labelled
        (found_kept ts order marks row label n h (found_in (map instance_plain ts) j q) (body_before (map instance_plain ts) order o n l i x at j e is q g)
        (λ k y b. closed i x k y marked (subst (λ m. local_leads_to (map instance_plain ts) m k y ≡ true) (sym is) (in_any (λ z. is_body_of k y (found_in (map instance_plain ts) j z)) q (paths_of e []) g b)))) in
        safely_kept ts o.acyclic (λ q. Unit {0}) (λ q. Unit {0}) j row row label e s (λ q g. (each q g, each q g))
    by (alias j path) is s = tt
    by (variable_of kind d) is s = tt
    by inner is s = tt
    by nothing is s = tt

pub kept_on : {S : Type 0} (ts : List PartOf) (order : List ℕ) → IsBodyOrder (map instance_plain ts) order → (marks : HashMap (ℕ × Bor (List ℕ)) Bool S) (was now : Row) (label : Values) (n : ℕ) → n < length order
    → (i : ℕ) (x : List ℕ) → at_place (map instance_plain ts) order n ≡ key i x → now.state ≡ was.state → KeepsMarked ts marks was now label i x
    → KeptUpto ts order marks was label n → KeptUpto ts order marks now label (n + 1)
kept_on ts order o marks was now label n l i x at same put h k y j e low marked is = put k y ∙ by (bool_cases picked) ∙ still
  where
    picked : Bool
    picked = is_marked marks i x && (is_written (local (map instance_plain ts) i x) && (i == k && bytes_eq x y))

    still : (denote (row_values ts was label j) (row_values ts was label j) e).value ≡ (denote (row_values ts now label j) (row_values ts now label j) e).value
    still = ap (λ (v : Values). (denote (values_in (map instance_plain ts) (stated v.given) (stated label.given) j) (values_in (map instance_plain ts) (stated v.given) (stated label.given) j) e).value) (sym same)

    own : key i x ≡ key k y → local_value ts was label (local (map instance_plain ts) i x) ≡ (denote (row_values ts was label j) (row_values ts was label j) e).value
    own s = ap (λ (q : Body). local_value ts was label (local (map instance_plain ts) q.0 q.1)) s ∙ ap (local_value ts was label) is ∙ denoted_kept ts o.acyclic j was was label e

    chosen : key i x ≡ key k y → picked ≡ true
    chosen s =
        ap (λ (q : Body). is_marked marks q.0 q.1 && (is_written (local (map instance_plain ts) q.0 q.1) && (q.0 == k && bytes_eq q.1 y))) s
        ∙ ap (λ b. b && (is_written (local (map instance_plain ts) k y) && (k == k && bytes_eq y y))) marked ∙ ap (λ m. is_written m && (k == k && bytes_eq y y)) is ∙ same_self (key k y)

    by : (picked ≡ true) ⊎ (picked ≡ false) → (if picked then local_value ts was label (local (map instance_plain ts) i x) else cached_value (named_in was.bodies k y)) ≡ (denote (row_values ts was label j) (row_values ts was label j) e).value
    by (inl b) =
        let c = both_true (is_marked marks i x) (is_written (local (map instance_plain ts) i x) && (i == k && bytes_eq x y)) b in
        let d = both_true (is_written (local (map instance_plain ts) i x)) (i == k && bytes_eq x y) c.1 in
        ap (λ z. if z then local_value ts was label (local (map instance_plain ts) i x) else cached_value (named_in was.bodies k y)) b ∙ own (same_is (key i x) (key k y) d.1)
    by (inr b) =
        ap (λ z. if z then local_value ts was label (local (map instance_plain ts) i x) else cached_value (named_in was.bodies k y)) b
        ∙ ⊎_elim (λ r. h k y j e (omega (arith, r)) marked is)
        (λ r.
        let there : order_rank (map instance_plain ts) order (key k y) ≡ n + 1 = omega (arith, r, low) in
        let z = chosen (sym at ∙ rank_at (map instance_plain ts) order (key k y) (in_keys (map instance_plain ts) k y (ap has_body is)) n l there) in
        absurd_bool (sym b ∙ z))
        (cases_lt (order_rank (map instance_plain ts) order (key k y)) (n + 1))

pub kept_end : {S : Type 0} (ts : List PartOf) (order : List ℕ) → IsBodyOrder (map instance_plain ts) order → (marks : HashMap (ℕ × Bor (List ℕ)) Bool S) (row : Row) (label : Values) (n : ℕ) → length order ≤ n
    → KeptUpto ts order marks row label n → MarkedAreCached ts marks row label
kept_end ts order o marks row label n l h k x j e marked is =
    h k x j e (let low = rank_low (map instance_plain ts) order o (key k x) (in_keys (map instance_plain ts) k x (ap has_body is)) in omega (arith, low, l)) marked is

-- nothing stands up to the beginning
pub kept_none : {S : Type 0} (ts : List PartOf) (order : List ℕ) (marks : HashMap (ℕ × Bor (List ℕ)) Bool S) (row : Row) (label : Values) → KeptUpto ts order marks row label 0
kept_none ts order marks row label k x j e low marked is = absurd (let s = upto_positive order (number (map instance_plain ts) (key k x)) in omega (arith, s, low))
