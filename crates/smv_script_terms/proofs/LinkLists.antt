-- The links of chains in order.
use Rattle.std.proofs.Common.{◌≡◌, List, ◌∷◌, map, ap, ◌∙◌}
use Rattle.smv_text.specs.declared.operators.Infix.{Infix}
use Rattle.smv_flat.specs.declared.expressions.FlatLink.{FlatLink}
use Rattle.smv_flat.specs.FlatTree.{FlatTree, flat_link, flat_links_of}
use Rattle.smv_flat.specs.FlatView.{plain_flat, plain_flat_link}
use Rattle.smv_flat.proofs.FlatViews.{link_at}

pub links_at : (xs rest : List FlatLink) (l : FlatLink) → xs ≡ l ∷ rest → flat_links_of (map plain_flat_link xs) ≡ flat_link l.op (plain_flat l.operand) (flat_links_of (map plain_flat_link rest))
links_at xs rest l h =
    ap (λ ys. flat_links_of (map plain_flat_link ys)) h ∙ ap (λ (y : Infix × FlatTree). flat_link y.0 y.1 (flat_links_of (map plain_flat_link rest))) (link_at l)
