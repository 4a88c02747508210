use Rattle.std.proofs.Common.{◌≡◌, drop}
use Rattle.std.specs.List.{list_any}
use Rattle.std.specs.Str.{bytes_eq}
use Rattle.btor_text.specs.Seen.{texts}
use Rattle.btor_text.proofs.word.is_among.Given as goal

abbrev pub invariant-loop-bytes : goal.invariant-loop-bytes
invariant-loop-bytes l = list_any (λ w. bytes_eq l.text w) (texts (drop l.bytes-index l.table)) ≡ list_any (λ w. bytes_eq l.text w) (texts l.table)
