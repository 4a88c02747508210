-- No reader leaves more tokens than there were.
use Rattle.std.proofs.Common.{◌≡◌, ℕ, true, false, Option, None, List, [], ◌∷◌, refl}
use Rattle.text_core.specs.declared.place.Place.{Place}
use Rattle.smv_text.specs.declared.token.Reserved.TheVariants as words
use Rattle.smv_text.specs.declared.token.Sign.TheVariants as signs
use Rattle.smv_text.specs.declared.token.Token.{Token}
use Rattle.smv_text.specs.declared.token.TokenKind.{TokenKind}
use Rattle.smv_text.specs.declared.token.TokenKind.TheVariants as kind
use Rattle.smv_text.specs.declared.tree.VarKind.{VarKind}
use Rattle.smv_text.specs.Grammar.{Spells}
use Rattle.smv_text.specs.Levels.{all_levels}
use Rattle.smv_text.specs.Sources.{SpellsMember}
use Rattle.smv_grammar.specs.Machine.{Ends}
use Rattle.smv_grammar.specs.Marks.{is_word}
use Rattle.smv_grammar.specs.Readers.{found, died, expression}
use Rattle.smv_grammar.specs.Reading.{after_word}
use Rattle.smv_grammar.specs.Rules.{behind, name, symbol, parameter, member, item_pick, definition_pick, assignment_pick, element_pick, module_pick}
use Rattle.smv_grammar.proofs.Asked.{alone, lawful_expression}
use Rattle.smv_grammar.proofs.Choices.{Free, of_none, Unpicked}
use Rattle.smv_parse.proofs.Leads.{Shrinks, law_shrinks, behind_shrinks, lawful_shorter, not_first_word}
use Rattle.smv_grammar.proofs.Mapped.{mapped_reads, mapped_dies}
use Rattle.smv_grammar.proofs.Modules.{ElementAt, of_module, ModuleAt, Closed, Outside, element_law, module_law}
use Rattle.smv_text.specs.Heights.{of_element}
use Rattle.smv_grammar.proofs.Sections.{Named, ItemAt, of_item, item_law, DefinitionAt, of_definition, definition_law, AssignmentAt, of_assignment, assignment_law, StepAt, lawful_symbol}
use Rattle.smv_grammar.proofs.Types.{ParameterAt, lawful_parameter, lawful_member}

pub parameter_shrinks : Shrinks (behind signs.Comma parameter)
parameter_shrinks = behind_shrinks signs.Comma parameter (lawful_shorter parameter ParameterAt of_none Free lawful_parameter)

pub member_shrinks : Shrinks (behind signs.Comma member)
member_shrinks = behind_shrinks signs.Comma member (lawful_shorter member SpellsMember of_none Free lawful_member)

pub symbol_shrinks : Shrinks (behind signs.Comma symbol)
symbol_shrinks = behind_shrinks signs.Comma symbol (lawful_shorter symbol StepAt of_none Free lawful_symbol)

pub expression_shrinks : Shrinks (behind signs.Comma expression)
expression_shrinks = behind_shrinks signs.Comma expression (lawful_shorter expression (Spells all_levels) alone Ends lawful_expression)

pub item_shrinks : (k : VarKind) → Shrinks (item_pick k)
item_shrinks k = law_shrinks (item_pick k) (Named (ItemAt k)) of_item Free (item_law k)

pub definition_shrinks : Shrinks definition_pick
definition_shrinks = law_shrinks definition_pick (Named DefinitionAt) of_definition Free definition_law

pub assignment_shrinks : Shrinks assignment_pick
assignment_shrinks = law_shrinks assignment_pick AssignmentAt of_assignment Free assignment_law

pub element_shrinks : Shrinks element_pick
element_shrinks = law_shrinks element_pick ElementAt of_element Closed element_law

pub module_shrinks : Shrinks module_pick
module_shrinks = law_shrinks module_pick ModuleAt of_module Outside module_law

pub symbol_name : (h : Option Place) (xs : List Token) {g : Option Place} {ys : List Token} {v : List ℕ × Place} → name h xs ≡ found v g ys → symbol h xs ≡ found v.0 g ys
unfolding symbol
symbol_name h xs e = mapped_reads (λ q. q.0) name e

pub symbol_nameless : (h : Option Place) (xs : List Token) {n : ℕ} → name h xs ≡ died n → symbol h xs ≡ died n
unfolding symbol
symbol_nameless h xs e = mapped_dies (λ q. q.0) name e

pub no_module : (xs : List Token) → after_word words.Module xs ≡ None → Unpicked module_pick xs
no_module [] e = tt
no_module (x ∷ xs) e = go x.kind (not_first_word words.Module x xs e)
  where
    go : (k : TokenKind) → is_word words.Module k ≡ false → module_pick k x.place ≡ None
    go (kind.Reserved words.Module) f = let g : true ≡ false = f in cc
    go _ f = refl
