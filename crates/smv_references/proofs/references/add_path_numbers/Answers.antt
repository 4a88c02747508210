use Rattle.std.proofs.Common.{◌≡◌, ◌+◌, ◌∷◌, ◌++◌, OnOk, map, drop, length, refl, sym, ap, ◌∙◌, subst, append_assoc}
use Rattle.smv_meaning.specs.laws.Lists.{front_is}
use Rattle.smv_meaning.specs.Phases.{body_here}
use Rattle.smv_meaning.specs.Bodies.{bodies_of, number_or, path_numbers}
use Rattle.smv_instances.specs.View.{instance_plain, local_plain}
use Rattle.smv_references.proofs.ReferenceLemmas.{here_numbers, path_numbers_last, path_numbers_more}
use Rattle.smv_references.proofs.references.add_path_numbers.Goals as goal

pub returns-in-None : goal.returns-in-None
returns-in-None c =
    let t = map instance_plain c.args.table.now in
    let at = c.loop-name.at in
    let x = c.bytes-x.result.now in
    let names = c.as_slice-name-items.result.now in
    let rest = drop (c.loop-name.name-index + 1) names in
    let front : drop c.loop-name.name-index names ≡ x ∷ rest =
    front_is names c.loop-name.name-index (length names) c.name-item.result refl c.loop-name-test.true c.name-item.is ∙ ap (λ y. y ∷ rest) (sym c.bytes-x.ensures) in
    let noted : c.note.new.row ≡ c.loop-name.row ++ here_numbers t at x =
    subst (λ r. OnOk r (c.note.new.row ≡ c.loop-name.row ++ map (number_or (bodies_of t)) (body_here at x (local_plain c.local-known.result)))) c.in_ok-note.was (c.note.ensures t c.requires)
    ∙ ap (λ l. c.loop-name.row ++ map (number_or (bodies_of t)) (body_here at x l)) c.local-known.ensures in
    noted ∙ ap (λ ns. c.loop-name.row ++ ns) (sym (path_numbers_last t at x (drop c.loop-name.name-index names) rest c.in-None.ensures front)) ∙ c.loop-name.invariant

pub loop-name-preserved : goal.loop-name-preserved
loop-name-preserved c =
    let t = map instance_plain c.args.table.now in
    let at = c.loop-name.at in
    let x = c.bytes-x.result.now in
    let names = c.as_slice-name-items.result.now in
    let rest = drop (c.loop-name.name-index + 1) names in
    let front : drop c.loop-name.name-index names ≡ x ∷ rest =
    front_is names c.loop-name.name-index (length names) c.name-item.result refl c.loop-name-test.true c.name-item.is ∙ ap (λ y. y ∷ rest) (sym c.bytes-x.ensures) in
    let noted : c.note.new.row ≡ c.loop-name.row ++ here_numbers t at x =
    subst (λ r. OnOk r (c.note.new.row ≡ c.loop-name.row ++ map (number_or (bodies_of t)) (body_here at x (local_plain c.local-known.result)))) c.in_ok-note.was (c.note.ensures t c.requires)
    ∙ ap (λ l. c.loop-name.row ++ map (number_or (bodies_of t)) (body_here at x l)) c.local-known.ensures in
    ap (λ ns. ns ++ path_numbers t c.in-Some.c rest) noted ∙ append_assoc c.loop-name.row (here_numbers t at x) (path_numbers t c.in-Some.c rest)
    ∙ ap (λ ns. c.loop-name.row ++ ns) (sym (path_numbers_more t at c.in-Some.c x (drop c.loop-name.name-index names) rest c.in-Some.ensures front)) ∙ c.loop-name.invariant
