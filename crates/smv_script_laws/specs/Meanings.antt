-- What is said of an expression and of the terms that stand for it.
use Rattle.std.specs.Prelude.{◌≡◌, ℕ, Bool, false, List, length}
use Rattle.smv_meaning.specs.declared.value.Value.{Value}
use Rattle.smv_meaning.specs.Expressions.{Denotation}
use Rattle.smv_meaning.specs.Types.{ExprType}
use Rattle.moxi_terms.specs.declared.data.Datum.{Datum}
use Rattle.moxi_terms.specs.declared.data.Datum.TheVariants as datum
use Rattle.moxi_terms.specs.Tree.{Tree}
use Rattle.moxi_terms.specs.Value.{Calls, Values, term_value}
use Rattle.smv_script.specs.Codes.{datum_of}
use Rattle.smv_script.specs.Terms.{Translation}
use Rattle.smv_script_laws.specs.Kinds.{IsOfKind}

-- Of an expression of this type, whatever values are bound around: where it may be no set, its term has the datum of its value, which is
-- of the type's kind; and for a term that has the datum of a value of the kind, the term of membership says whether the expression
-- permits that value.
pub record Says (width : ℕ) (symbols : List (List ℕ)) (calls : Calls) (now later : Values) (t : ExprType) (d : Denotation) (sets : Bool) (x : Translation) : Type 0 where
  pub value : sets ≡ false → (vals : List Datum) → term_value calls now later vals (x.term (length vals)) ≡ datum_of width symbols d.value
  pub kind : sets ≡ false → IsOfKind width symbols t d.value
  pub member : (vals : List Datum) (y : Tree) (v : Value) → IsOfKind width symbols t v → term_value calls now later vals y ≡ datum_of width symbols v
      → term_value calls now later vals (x.member (length vals) y) ≡ datum.Truth (d.permits v)
