use Rattle.std.proofs.Common.{◌≡◌, true, false, ◌+◌, ◌∷◌, map, drop, length, refl, sym, ap, ◌∙◌, arith}
use Rattle.smv_meaning.specs.Instances.{is_one_of}
use Rattle.name_maps.specs.Rows.{row_named}
use Rattle.smv_names.specs.View.{declared_plain}
use Rattle.smv_names.specs.Declaring.{first_twice}
use Rattle.smv_names.proofs.DeclaringLemmas.{twice_here, twice_later}
use Rattle.smv_names.specs.laws.Composing.{seen_more}
use Rattle.smv_names.proofs.declaring.place_twice.Goals as goal
use Rattle.smv_meaning.specs.laws.Lists.{front_is}

pub returns-then-is_some : goal.returns-then-is_some
returns-then-is_some c =
    let d = declared_plain c.index-list-k.result in
    let rest = map declared_plain (drop (c.loop-k.k + 1) c.args.list.now) in
    let names = c.loop-k.invariant.0 in
    let front : map declared_plain (drop c.loop-k.k c.args.list.now) ≡ d ∷ rest = ap (map declared_plain) (front_is c.args.list.now c.loop-k.k (length c.args.list.now) c.index-list-k.result refl (omega arith) c.index-list-k.is) in
    let known : is_one_of names d.name ≡ true = (let i = c.loop-k.invariant.1 d.name in cc) in
    sym (twice_here c.loop-k.k names d rest known) ∙ ap (first_twice c.loop-k.k names) (sym front) ∙ c.loop-k.invariant.2

pub loop-k-preserved : goal.loop-k-preserved
loop-k-preserved c =
    let d = declared_plain c.index-list-k.result in
    let rest = map declared_plain (drop (c.loop-k.k + 1) c.args.list.now) in
    let names = c.loop-k.invariant.0 in
    let front : map declared_plain (drop c.loop-k.k c.args.list.now) ≡ d ∷ rest = ap (map declared_plain) (front_is c.args.list.now c.loop-k.k (length c.args.list.now) c.index-list-k.result refl (omega arith) c.index-list-k.is) in
    let fresh : is_one_of names d.name ≡ false = (let i = c.loop-k.invariant.1 d.name in cc) in (
      d.name ∷ names,
      λ x. seen_more names d.name x (row_named c.loop-k.seen x) (row_named c.add_row.new.map x) (c.in_ok-add_row.ensures x) (c.loop-k.invariant.1 x),
      sym (twice_later c.loop-k.k names d rest fresh) ∙ ap (first_twice c.loop-k.k names) (sym front) ∙ c.loop-k.invariant.2,
    )
