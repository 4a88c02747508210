-- The head is well formed, and variables are behind it.
use Rattle.std.proofs.Common.{◌<◌, List, [], ◌∷◌, length, Some, None, refl, sym, subst, arith, inl}
use Rattle.std.specs.Prelude.{codes}
use Rattle.btor_tree.specs.declared.lines.Line.{Line}
use Rattle.btor_tree.specs.declared.lines.LineOp.TheVariants as line
use Rattle.btor_tree.specs.Fits.{Suits, greatest_id, plain_arg}
use Rattle.btor_tree.specs.Sharing.{pushed}
use Rattle.btor_tree.proofs.Equations.{pushed_fit}
use Rattle.btor_tree.proofs.Grows.{empty_well_formed}
use Rattle.moxi_terms.specs.declared.term.Enumeration.{Enumeration}
use Rattle.moxi_terms.specs.declared.term.Variable.{Variable}
use Rattle.moxi_terms.specs.Sorted.{AreSorts}
use Rattle.moxi_terms.specs.Tree.{sorts_of}
use Rattle.moxi_lines.specs.TermLaws.{AreNumbered, HaveCodes}
use Rattle.moxi_lines.specs.Lines.{head_lines, with_variables}
use Rattle.moxi_lines.specs.Variables.{AreInside, AreVariableLines, AreVariablesAt}
use Rattle.moxi_lines.proofs.VariableLines.{symbol_is}
use Rattle.moxi_lines.proofs.VariableLaws.{all_extend, all_made}

pub head_numbered : AreNumbered head_lines
head_numbered =
    let l0 : List Line = [] in
    let a1 : Suits l0 (line.Sort 1) 0 [] None = record { earlier = tt; sorts = (omega arith, omega arith, refl, refl); symbol = tt } in
    let f1 = pushed_fit l0 (line.Sort 1) 0 [] None empty_well_formed refl (omega arith) a1 in
    let l1 = (pushed l0 (line.Sort 1) 0 [] None).0 in
    let a2 : Suits l1 line.One 0 [] None = record { earlier = tt; sorts = (omega arith, refl); symbol = tt } in
    let f2 = pushed_fit l1 line.One 0 [] None f1.0 f1.1 (omega arith) a2 in
    let l2 = (pushed l1 line.One 0 [] None).0 in
    let a3 : Suits l2 line.Zero 0 [] None = record { earlier = tt; sorts = (omega arith, refl); symbol = tt } in
    let f3 = pushed_fit l2 line.Zero 0 [] None f2.0 f2.1 (omega arith) a3 in
    let l3 = (pushed l2 line.Zero 0 [] None).0 in
    let a4 : Suits l3 line.State 0 [] (Some (codes "first")) = record { earlier = tt; sorts = (omega arith, refl); symbol = symbol_is (codes "first") } in
    let f4 = pushed_fit l3 line.State 0 [] (Some (codes "first")) f3.0 f3.1 (omega arith) a4 in
    let l4 = (pushed l3 line.State 0 [] (Some (codes "first"))).0 in
    let a5 : Suits l4 line.Init 0 (plain_arg 3 ∷ plain_arg 1 ∷ []) None = record { earlier = (omega arith, (omega arith, tt)); sorts = ((refl, refl, omega arith, refl, refl, refl), inl (omega arith)); symbol = tt } in
    let f5 = pushed_fit l4 line.Init 0 (plain_arg 3 ∷ plain_arg 1 ∷ []) None f4.0 f4.1 (omega arith) a5 in
    let l5 = (pushed l4 line.Init 0 (plain_arg 3 ∷ plain_arg 1 ∷ []) None).0 in
    let a6 : Suits l5 line.Next 0 (plain_arg 3 ∷ plain_arg 2 ∷ []) None = record { earlier = (omega arith, (omega arith, tt)); sorts = (refl, refl, omega arith, refl, refl, refl); symbol = tt } in
    let f6 = pushed_fit l5 line.Next 0 (plain_arg 3 ∷ plain_arg 2 ∷ []) None f5.0 f5.1 (omega arith) a6 in
    record { fit = f6.0; ids = f6.1 }

pub variables_have_lines_law : (es : List Enumeration) → HaveCodes es → (vs : List Variable) → AreSorts es (sorts_of vs) → length (with_variables es (head_lines, []) vs).0 < greatest_id
    → AreVariableLines es vs (with_variables es (head_lines, []) vs).0 (with_variables es (head_lines, []) vs).1
variables_have_lines_law es have vs sorts room =
    let r = with_variables es (head_lines, []) vs in
    let g = all_extend es (head_lines, []) vs in
    let given = all_made [] es have (head_lines, []) vs sorts head_numbered room in
    record {
      more = g.more;
      extends = g.is;
      numbered = given.numbered;
      each = subst (AreVariablesAt es r.0 vs) (sym given.places) given.each;
      constraints = λ row met.
          let b = all_made row es have (head_lines, []) vs sorts head_numbered room in
          let q = b.constraints met in (
            λ h. subst (AreInside es row vs) (sym b.places) (q.0 h).1,
            λ i. q.1 tt (subst (AreInside es row vs) b.places i),
          );
    }
