use Rattle.std.proofs.Common.{◌≡◌, length, refl, sym, ap, ◌∙◌, arith}
use Rattle.std.proofs.lemmas.Option.{get_or_from_slice_get}
use Rattle.btor_tree.specs.Frame.{nothing, word_at}
use Rattle.btor_witness.proofs.Judgement.{not_both}
use Rattle.btor_judge.proofs.StandLaws.{numbers, place_read, agrees_where}
use Rattle.btor_judge.proofs.reader.Reader.agrees_at.Goals as goal

pub is_marked-requires : goal.is_marked-requires
is_marked-requires c = (numbers c.args.nodes.now c.args.self.now c.requires.frame.0 c.args.k c.requires.frame.1 c.requires.inside).0

pub value-requires : goal.value-requires
value-requires c = (place_read c.args.nodes.now c.args.self.now c.args.k c.at-place.result.now c.requires.frame.1.fits c.requires.inside c.at-place.ensures).1

pub at-requires : goal.at-requires
at-requires c = omega (arith, (numbers c.args.nodes.now c.args.self.now c.requires.frame.0 c.args.k c.requires.frame.1 c.requires.inside).1, ap length c.words.ensures)

pub returns-then-not-is_marked : goal.returns-then-not-is_marked
returns-then-not-is_marked c = (λ t. λ marked place there. absurd (not_both _ (c.is_marked.ensures ∙ marked) c.if-not-is_marked.true), λ a. refl)

pub returns : goal.returns
returns c =
    let lines = c.args.nodes.now in
    let reader = c.args.self.now in
    let k = c.args.k in
    let place = c.at-place.result.now in
    let there = (place_read lines reader k place c.requires.frame.1.fits c.requires.inside c.at-place.ensures).0 in
    let word : c.at.result ≡ word_at reader.states.words k = sym (get_or_from_slice_get c.words.result.now k c.at.result nothing c.at.ensures) ∙ ap (λ ws. word_at ws k) c.words.ensures in (
      λ t. agrees_where lines reader k place c.at.result there word (sym c.value.ensures ∙ c.is_same.ensures.0 t),
      λ a. c.is_same.ensures.1 (c.value.ensures ∙ a (sym c.is_marked.ensures ∙ c.if-not-is_marked.false) place there ∙ sym word),
    )
