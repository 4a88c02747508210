use Rattle.std.proofs.Common.{◌≡◌, ℕ, Bool, Result, sym, subst}
use Rattle.btor_witness.specs.declared.ends.LineEnd.{LineEnd}
use Rattle.btor_witness.specs.declared.shape.Shape.{Shape}
use Rattle.btor_witness.specs.declared.shape.Shape.TheVariants.{Justice}
use Rattle.btor_witness.specs.Sizes.{Sizes}
use Rattle.btor_witness.specs.Reading.{Reading, step}
use Rattle.btor_witness.specs.Answer.{Steps}
use Rattle.btor_witness.proofs.reader.Reader.step.Goals as goal

justice : (sizes : Sizes) (r : Reading) (shape : Shape) (n : ℕ) (answer : Result Bool LineEnd) → shape ≡ Justice n → ((k : ℕ) → Steps (step sizes r (Justice k)) r answer) → Steps (step sizes r shape) r answer
justice sizes r shape n answer e h = subst (λ s. Steps (step sizes r s) r answer) (sym e) (h n)

pub returns-in-Justice-clause-next : goal.returns-in-Justice-clause-next
returns-in-Justice-clause-next c = justice c.args.self.now.sizes c.args.self.now.reading c.args.shape _ c.justice_line.result c.in-Justice.is c.justice_line.ensures
