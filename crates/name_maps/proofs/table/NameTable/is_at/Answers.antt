use Rattle.std.proofs.Common.{◌≡◌, Some, length, refl, sym, ap, ◌∙◌, subst}
use Rattle.std.proofs.lemmas.Option.{slice_get_read}
use Rattle.std.specs.List.{slice_get}
use Rattle.std.proofs.lemmas.Slice.Eq.{bytes_eq-Decides}
use Rattle.name_maps.specs.Names.{place_of}
use Rattle.name_maps.proofs.table.NameTable.is_at.Goals as goal

pub returns-in-Some : goal.returns-in-Some
returns-in-Some c = λ yes.
    let there : slice_get c.as_slice.result.now c.args.place ≡ Some c.in-Some.own.now = slice_get_read c.as_slice.result.now (length c.as_slice.result.now) c.args.place c.in-Some.own.now refl c.in-Some.ensures.lookup.3.0 c.in-Some.ensures.lookup.1 in
    let stands : slice_get c.self.inside.set c.args.place ≡ Some c.in-Some.own.now = sym (ap (λ ns. slice_get ns c.args.place) (c.as_slice.ensures ∙ c.self.invariant.0)) ∙ there in
    let same = (bytes_eq-Decides c.bytes.result.now c.args.name.now).0 (sym c.eq.ensures ∙ yes) in
    subst (λ n. place_of c.args.self.now n ≡ Some c.args.place) (sym c.bytes.ensures ∙ same)
    (sym (ap (λ ns. place_of ns c.in-Some.own.now) c.self.view_is) ∙ c.self.invariant.1 c.args.place c.in-Some.own.now stands)
