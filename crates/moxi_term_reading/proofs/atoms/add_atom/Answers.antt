use Rattle.std.proofs.Common.{◌≡◌, ℕ, Bool, Some, List, OnOk, ap, subst}
use Rattle.std.proofs.lemmas.Option.{same_Some}
use Rattle.text_core.specs.declared.place.Place.{Place}
use Rattle.moxi_sexpr.specs.declared.form.Atom.{Atom}
use Rattle.moxi_sexpr.specs.declared.form.Atom.TheVariants.{Symbol}
use Rattle.moxi_term_reading.specs.declared.locals.Local.{Local}
use Rattle.moxi_term_reading.specs.Forms.{symbol_atom}
use Rattle.moxi_term_reading.specs.Answer.{IsAdded, context_of}
use Rattle.moxi_term_reading.specs.Reading.{Context, Reading, atom_reading, meaning_of, named_reading}
use Rattle.moxi_term_reading.proofs.atoms.add_atom.Goals as goal

-- a symbol is read as its name
symbol_reading : (c : Context) (bounds : List Local) (p : Place) (a : Atom) (name : List ℕ) (primed : Bool) → Some (name, primed) ≡ symbol_atom a
    → named_reading c.primes p primed (meaning_of c bounds name) ≡ atom_reading c bounds p a
symbol_reading c bounds p (Symbol n b) name primed h = ap (λ (x : List ℕ × Bool). named_reading c.primes p x.1 (meaning_of c bounds x.0)) (same_Some (name, primed) (n, b) h)
symbol_reading c bounds p a name primed h = cc

pub returns-in-Some : goal.returns-in-Some
returns-in-Some c =
    subst (λ (y : Reading). OnOk c.add_name.result (IsAdded y c.args.args.now c.args.sorts.now.items c.add_name.new.args c.add_name.new.sorts.items))
    (symbol_reading (context_of c.args.setting) c.args.bounds.now c.args.p c.args.a.now c.in-Some.name.now c.in-Some.primed c.in-Some.ensures) c.add_name.ensures
