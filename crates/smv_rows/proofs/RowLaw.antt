-- What was given the variables of a state and a label, and filled, is their row.
use Rattle.std.proofs.Common.{◌≡◌, ℕ, List, map, length, Option, refl, sym, ap, ◌∙◌, subst}
use Rattle.std.specs.Borrow.{Bor}
use Rattle.std.proofs.lemmas.List.{length-map}
use Rattle.smv_meaning.specs.Values.{Valuation}
use Rattle.smv_operators.specs.declared.seen.Seen.{Seen}
use Rattle.smv_operators.specs.View.{seen_value}
use Rattle.smv_flat.specs.declared.expressions.FlatExpr.{FlatExpr}
use Rattle.smv_flat.specs.FlatTruth.{Row, symbol_value, IsRow}
use Rattle.smv_flat_evaluation.specs.RowValues.{row_values}
use Rattle.smv_rows.specs.Filling.{bodies_in, filled, FillsSafely}
use Rattle.smv_flat.specs.FlatParts.{parts_plain}
use Rattle.smv_rows.specs.Places.{kind_and_place, item_place, NamesHave, given_value}
use Rattle.smv_rows.specs.RowOrders.{IsRowOrder}
use Rattle.smv_rows.specs.Truths.{Gives, CanFill, Fills}
use Rattle.smv_rows.specs.declared.order.RowOrder.{RowOrder}
use Rattle.smv_flat.specs.declared.parts.FlatParts.{FlatParts}
use Rattle.smv_rows.specs.declared.places.ItemPlace.{ItemPlace}
use Rattle.smv_rows.proofs.Filled.{row_meets}
use Rattle.smv_rows.proofs.SafeFilled.{among_safe, fills_safely}
use Rattle.smv_rows.proofs.VariableRows.{row_given}

pub gives_is : (o : RowOrder) (s l : Valuation) (sv lv values : List Seen) (places : List ItemPlace) → NamesHave o.names s sv → NamesHave o.names l lv → (state label : List Seen) → state ≡ sv → label ≡ lv → places ≡ o.places.items
    → map seen_value values ≡ map (given_value state label) places → Gives o s l values
gives_is o s l sv lv values places h g state label se le pe values_are items have =
    let are : map seen_value values ≡ map (given_value sv lv) o.places.items =
    values_are ∙ ap (λ (x : List Seen). map (given_value x label) places) se ∙ ap (λ (x : List Seen). map (given_value sv x) places) le ∙ ap (map (given_value sv lv)) pe in
    record {
      size = sym (length-map values seen_value) ∙ ap length are ∙ length-map o.places.items (given_value sv lv) ∙ sym (length-map o.places.items kind_and_place)
          ∙ ap length have ∙ length-map items (item_place o.names);
      variables = row_given o.names s l sv lv h g items o.places.items values have are;
    }

-- the code's bodies and order are those of the way in which rows are filled
pub filled_is : (flat : FlatParts) (o : RowOrder) → IsRowOrder flat o → (values new : List Seen) (bodies : List (Option (Bor FlatExpr))) (order : List ℕ) → bodies ≡ o.bodies.items → order ≡ o.order.now
    → row_values new ≡ filled (bodies_in bodies) (symbol_value flat.symbols.now) (row_values values) order → Fills flat values new
filled_is flat o r values new bodies order be oe end_is s l g =
    let is : row_values new ≡ filled (bodies_in o.bodies.items) (symbol_value flat.symbols.now) (row_values values) o.order.now =
    end_is ∙ ap (λ (x : List (Option (Bor FlatExpr))). filled (bodies_in x) (symbol_value flat.symbols.now) (row_values values) order) be
    ∙ ap (filled (bodies_in o.bodies.items) (symbol_value flat.symbols.now) (row_values values)) oe in
    subst (λ (x : Row). IsRow (parts_plain flat) s l x) (sym is)
    (row_meets (parts_plain flat) flat.items.now (bodies_in o.bodies.items) o.order.now s l (row_values values) refl r.bodies.have r.bodies.free r.order.settled r.order.whole g.variables)

-- the bodies are evaluated safely, where they are so in the row of the state and the label
pub fills_so : (flat : FlatParts) (o : RowOrder) → IsRowOrder flat o → (values : List Seen) (bodies : List (Option (Bor FlatExpr))) (order : List ℕ) → bodies ≡ o.bodies.items → order ≡ o.order.now
    → CanFill flat values → FillsSafely (bodies_in bodies) (symbol_value flat.symbols.now) (row_values values) order
fills_so flat o r values bodies order be oe can =
    let own = filled (bodies_in o.bodies.items) (symbol_value flat.symbols.now) (row_values values) o.order.now in
    let row = row_meets (parts_plain flat) flat.items.now (bodies_in o.bodies.items) o.order.now can.0 can.1 (row_values values) refl r.bodies.have r.bodies.free r.order.settled r.order.whole can.2.variables in
    let fine = can.3 own row in
    let safe = fills_safely (bodies_in o.bodies.items) (symbol_value flat.symbols.now) (row_values values) o.order.now r.order.settled
    (λ k e is. among_safe (parts_plain flat) own own (parts_plain flat).forms fine k e (r.bodies.only k e is)) in
    subst (λ (ks : List ℕ). FillsSafely (bodies_in bodies) (symbol_value flat.symbols.now) (row_values values) ks) (sym oe)
    (subst (λ (bs : List (Option (Bor FlatExpr))). FillsSafely (bodies_in bs) (symbol_value flat.symbols.now) (row_values values) o.order.now) (sym be) safe)
