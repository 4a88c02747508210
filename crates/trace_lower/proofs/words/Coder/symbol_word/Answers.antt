use Rattle.std.proofs.Common.{length, sym, ap, ◌∙◌, subst}
use Rattle.word_core.specs.Words.{IsWord}
use Rattle.name_maps.specs.Names.{place_of}
use Rattle.smv_script.specs.Codes.{number_or_zero}
use Rattle.moxi_lines.specs.Codes.{choice_width}
use Rattle.trace_lower.specs.Stating.{Codes}
use Rattle.trace_lower.proofs.WordLaws.{symbol_is_word}
use Rattle.trace_lower.proofs.words.Coder.symbol_word.Goals as goal

pub unwrap-requires : goal.unwrap-requires
unwrap-requires c =
    let i = c.self.inside in
    let symbols = ap (λ (x : Codes). x.symbols) c.self.view_is in
    let place = c.symbol_place.ensures ∙ sym (ap (λ xs. number_or_zero (place_of xs c.args.symbol.now)) symbols) in
    c.of.ensures.there.1
    (subst (λ w. IsWord (record { width = w; bits = c.symbol_place.result })) (sym c.self.invariant.3)
    (subst (λ b. IsWord (record { width = choice_width (length i.symbols.now); bits = b })) (sym place) (symbol_is_word i.symbols.now c.args.symbol.now c.self.invariant.2)))
