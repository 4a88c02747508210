-- What stands for an expression can appear in the script (SMT-LIB 2.6, section 3.6).
use Rattle.std.specs.Prelude.{◌≡◌, Bool, false, List, length}
use Rattle.moxi_terms.specs.declared.data.Sort.{Sort}
use Rattle.moxi_terms.specs.declared.data.Sort.TheVariants.{Truth}
use Rattle.moxi_term_reading.specs.declared.locals.Local.{Local}
use Rattle.moxi_term_reading.specs.Reading.{Context}
use Rattle.moxi_terms.specs.Tree.{Tree}
use Rattle.moxi_term_print.specs.WellScoped.{IsWellScoped}
use Rattle.smv_script.specs.Terms.{Translation}
use Rattle.smv_script_laws.specs.LetNames.{AreLetNames}

-- Whatever `let` binds around: where the expression may be no set, its term has this sort; and the term of membership of a term of this
-- sort is one of truth values.
pub record CanAppear (c : Context) (sort : Sort) (sets : Bool) (x : Translation) : Type 0 where
  pub value : sets ≡ false → (bounds : List Local) → AreLetNames bounds → IsWellScoped c bounds (x.term (length bounds)) sort
  pub member : (bounds : List Local) → AreLetNames bounds → (y : Tree) → IsWellScoped c bounds y sort → IsWellScoped c bounds (x.member (length bounds) y) Truth
