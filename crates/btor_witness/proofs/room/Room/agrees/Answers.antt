use Rattle.std.proofs.Common.{◌≡◌, ◌<◌, length, true, sym, ◌∙◌, arith, get_or, ap}
use Rattle.btor_tree.specs.Fits.{is_state}
use Rattle.btor_tree.specs.Frame.{word_at}
use Rattle.btor_frames.proofs.Truths.{all_more}
use Rattle.btor_witness.specs.Room.{IsWordThere, places_of}
use Rattle.btor_witness.proofs.Tables.{all_at}
use Rattle.btor_witness.proofs.Places.{place_inside, word_there, stated_place}
use Rattle.btor_witness.proofs.room.Room.agrees.Goals as goal

pub at-place-requires : goal.at-place-requires
at-place-requires c =
    let stated = c.args.stated.now in
    let lt : c.loop-statement.statement-index < length stated = omega (arith, c.loop-statement-test.true, ap length c.as_slice-statement-items.ensures) in
    let at : get_or stated c.loop-statement.statement-index c.statement-item.result ≡ c.statement-item.result =
    ap (λ xs. get_or xs c.loop-statement.statement-index c.statement-item.result) (sym c.as_slice-statement-items.ensures) ∙ sym c.statement-item.is in
    stated_place c.args.nodes.now c.args.self.now.places stated c.loop-statement.statement-index c.statement-item.result c.requires.fits.places c.requires.below lt at

pub value-requires : goal.value-requires
value-requires c =
    let s = c.statement-item.result in
    let lt : c.loop-statement.statement-index < length c.args.stated.now = omega (arith, c.loop-statement-test.true, ap length c.as_slice-statement-items.ensures) in
    let at : get_or c.args.stated.now c.loop-statement.statement-index s ≡ s =
    ap (λ xs. get_or xs c.loop-statement.statement-index s) (sym c.as_slice-statement-items.ensures) ∙ sym c.statement-item.is in
    let there = place_inside c.args.nodes.now c.args.self.now.places s.index c.at-place.result.now c.requires.fits.places (stated_place c.args.nodes.now c.args.self.now.places c.args.stated.now c.loop-statement.statement-index s c.requires.fits.places c.requires.below lt at) c.at-place.ensures in
    omega (arith, there.1, c.requires.fits.frames.sized)

pub returns-then-not-is_same : goal.returns-then-not-is_same
returns-then-not-is_same c =
    let stated = c.args.stated.now in
    let lines = c.args.nodes.now in
    let row = c.args.self.now.frames.row in
    let s = c.statement-item.result in
    let lt : c.loop-statement.statement-index < length stated = omega (arith, c.loop-statement-test.true, ap length c.as_slice-statement-items.ensures) in
    let at : get_or stated c.loop-statement.statement-index s ≡ s =
    ap (λ xs. get_or xs c.loop-statement.statement-index s) (sym c.as_slice-statement-items.ensures) ∙ sym c.statement-item.is in
    let there = place_inside lines c.args.self.now.places s.index c.at-place.result.now c.requires.fits.places (stated_place lines c.args.self.now.places c.args.stated.now c.loop-statement.statement-index s c.requires.fits.places c.requires.below lt at) c.at-place.ensures in (
      λ t. absurd (cc),
      λ all.
          let here : IsWordThere (places_of is_state lines) row s = all_at (IsWordThere (places_of is_state lines) row) stated c.loop-statement.statement-index s all lt at in
          let same : c.is_same.result ≡ true = c.is_same.ensures.1 (c.value.ensures ∙ here c.at-place.result.now there.0) in
          sym c.if-not-is_same.true ∙ same,
    )

pub loop-statement-preserved : goal.loop-statement-preserved
loop-statement-preserved c =
    let stated = c.args.stated.now in
    let lines = c.args.nodes.now in
    let row = c.args.self.now.frames.row in
    let s = c.statement-item.result in
    let lt : c.loop-statement.statement-index < length stated = omega (arith, c.loop-statement-test.true, ap length c.as_slice-statement-items.ensures) in
    let at : get_or stated c.loop-statement.statement-index s ≡ s =
    ap (λ xs. get_or xs c.loop-statement.statement-index s) (sym c.as_slice-statement-items.ensures) ∙ sym c.statement-item.is in
    let there = place_inside lines c.args.self.now.places s.index c.at-place.result.now c.requires.fits.places (stated_place lines c.args.self.now.places c.args.stated.now c.loop-statement.statement-index s c.requires.fits.places c.requires.below lt at) c.at-place.ensures in
    let equal : word_at row c.at-place.result.now ≡ s.value = sym c.value.ensures ∙ c.is_same.ensures.0 c.if-not-is_same.false in
    let here : IsWordThere (places_of is_state lines) row s = word_there (places_of is_state lines) row s c.at-place.result.now there.0 equal in
    all_more (IsWordThere (places_of is_state lines) row) stated c.loop-statement.statement-index s lt (sym at) c.loop-statement.invariant here
