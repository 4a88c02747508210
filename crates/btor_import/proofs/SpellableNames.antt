-- Each name of the script can be spelled: letters, dots and digits alone.
use Rattle.std.proofs.Common.{◌≡◌, ℕ, zero, suc, ◌+◌, ◌≤◌, ◌<◌, Bool, true, false, ◌==◌, if◌then◌else◌, List, [], ◌∷◌, ◌++◌, length, decimal, refl, sym, subst, arith}
use Rattle.std.specs.Prelude.{codes}
use Rattle.std.specs.List.{AllByRecursion, list_all}
use Rattle.word_core.specs.declared.kinds.Unary.{Unary}
use Rattle.word_core.specs.declared.kinds.Unary.TheVariants as OnWord
use Rattle.word_core.specs.declared.kinds.Binary.{Binary}
use Rattle.word_core.specs.declared.kinds.Binary.TheVariants as OnWords
use Rattle.text_core.specs.Bytes.{is_digit}
use Rattle.btor_tree.specs.declared.args.Arg.{Arg}
use Rattle.btor_tree.specs.declared.lines.Line.{Line}
use Rattle.btor_tree.specs.declared.lines.LineOp.{LineOp}
use Rattle.btor_tree.specs.declared.lines.LineOp.TheVariants as line
use Rattle.btor_tree.specs.Fits.{IsWellFormed, is_bad, is_constraint, is_init, is_input, is_next, is_state, sort_at, width_at}
use Rattle.moxi_sexpr.specs.Bytes.{is_barred_byte}
use Rattle.moxi_terms.specs.declared.data.TermOp.TheVariants as op
use Rattle.moxi_terms.specs.declared.term.Variable.{Variable}
use Rattle.moxi_terms.specs.Tree.{Tree, variable, apply, trees_of}
use Rattle.moxi_term_print.specs.StandingNames.{IsSpellable, NamesAreSpellable, AllNamesAreSpellable}
use Rattle.moxi_term_print.proofs.StandingNumbers.{decimal_run}
use Rattle.moxi_scripts.specs.declared.script.Query.{Query}
use Rattle.moxi_script_print.specs.NamesOfScripts.{HasSpellableNames, VariablesAreSpellable, IsSpellableFormula}
use Rattle.btor_import.specs.Operators.{argument, bits_from, binary_term, is_one, line_term, not_term, operand_term, parity_term, unary_term}
use Rattle.btor_import.specs.Script.{equation_term, formula_of, import_of, init_part, inv_part, is_local, lines_in, number_of, parts_from, queries_from, reachables_from, trans_part, value_part}
use Rattle.btor_import.proofs.Lists.{all_by}
use Rattle.moxi_script_print.proofs.SpelledCommands.{all_bytes, barred_spellable, not_barred}
use Rattle.btor_import.proofs.Standing.{parts_all}
use Rattle.btor_import.proofs.LineVariables.{all_variables, inputs_of, id_small, letter_by, line_of_variable, locals_in, outputs_of}
use Rattle.btor_import.proofs.Whole.{bads_few}
use Rattle.moxi_term_print.proofs.SpellableNames.{Named, run_all}
use Rattle.name_maps.proofs.FreshNames.{all_back, all_front}
use Rattle.moxi_terms.specs.Applications.{all_term}

-- ---- names with numbers

number_barred : (n : ℕ) → n < 4294967296 → list_all is_barred_byte (decimal n) ≡ true
number_barred n h = all_bytes is_digit is_barred_byte (λ b g. not_barred b is_digit g refl refl) (decimal n) (run_all is_digit (decimal n) (decimal_run n h))

lettered : (a b : Bool) (n : ℕ) → n < 4294967296 → IsSpellable (letter_by a b ++ decimal n)
lettered true b n h = barred_spellable (codes "i." ++ decimal n) (number_barred n h)
lettered false true n h = barred_spellable (codes "s." ++ decimal n) (number_barred n h)
lettered false false n h = barred_spellable (codes "n." ++ decimal n) (number_barred n h)

-- ---- terms bind no name

operand_named : (number : ℕ → ℕ) (a : Arg) → NamesAreSpellable (operand_term number a)
operand_named number a = by a.negated
  where
    by : (b : Bool) → NamesAreSpellable (if b then not_term (variable (number a.line) false) else variable (number a.line) false)
    by true = (tt, tt)
    by false = tt

bits_named : (i n : ℕ) (a : Tree) → NamesAreSpellable a → AllNamesAreSpellable (trees_of (bits_from i n a))
bits_named i zero a h = tt
bits_named i (suc n) a h = ((h, tt), bits_named (i + 1) n a h)

parity_named : (w : ℕ) (a : Tree) → NamesAreSpellable a → NamesAreSpellable (parity_term w a)
parity_named w a h = by (w == 1)
  where
    by : (b : Bool) → NamesAreSpellable (if b then a else apply (op.BvBinary OnWords.Xor) (trees_of (bits_from 0 w a)))
    by true = h
    by false = bits_named 0 w a h

unary_named : (o : Unary) (w : ℕ) (a : Tree) → NamesAreSpellable a → NamesAreSpellable (unary_term o w a)
unary_named OnWord.Not w a h = (h, tt)
unary_named OnWord.Neg w a h = (h, tt)
unary_named OnWord.Inc w a h = (h, (tt, tt))
unary_named OnWord.Dec w a h = (h, (tt, tt))
unary_named OnWord.RedAnd w a h = ((h, (tt, tt)), (tt, (tt, tt)))
unary_named OnWord.RedOr w a h = ((h, (tt, tt)), (tt, (tt, tt)))
unary_named OnWord.RedXor w a h = parity_named w a h

binary_named : (o : Binary) (a b : Tree) → NamesAreSpellable a → NamesAreSpellable b → NamesAreSpellable (binary_term o a b)
binary_named OnWords.Iff a b h k = ((h, (k, tt)), tt)
binary_named OnWords.Implies a b h k = ((h, tt), (k, tt))
binary_named OnWords.Eq a b h k = ((h, (k, tt)), (tt, (tt, tt)))
binary_named OnWords.Neq a b h k = ((h, (k, tt)), (tt, (tt, tt)))
binary_named OnWords.Ult a b h k = ((h, (k, tt)), (tt, (tt, tt)))
binary_named OnWords.Ulte a b h k = ((h, (k, tt)), (tt, (tt, tt)))
binary_named OnWords.Ugt a b h k = ((h, (k, tt)), (tt, (tt, tt)))
binary_named OnWords.Ugte a b h k = ((h, (k, tt)), (tt, (tt, tt)))
binary_named OnWords.Slt a b h k = ((h, (k, tt)), (tt, (tt, tt)))
binary_named OnWords.Slte a b h k = ((h, (k, tt)), (tt, (tt, tt)))
binary_named OnWords.Sgt a b h k = ((h, (k, tt)), (tt, (tt, tt)))
binary_named OnWords.Sgte a b h k = ((h, (k, tt)), (tt, (tt, tt)))
binary_named OnWords.Nand a b h k = ((h, (k, tt)), tt)
binary_named OnWords.Nor a b h k = ((h, (k, tt)), tt)
binary_named OnWords.Xnor a b h k = ((h, (k, tt)), tt)
binary_named OnWords.Concat a b h k = (h, (k, tt))
binary_named o a b h k = (h, (k, tt))

line_named : (number width : ℕ → ℕ) (w : ℕ) (o : LineOp) (args : List Arg) → NamesAreSpellable (line_term number width w o args)
line_named number width w (line.Unary o) args = unary_named o (width (argument args 0).line) (operand_term number (argument args 0)) (operand_named number (argument args 0))
line_named number width w (line.Binary o) args =
    binary_named o (operand_term number (argument args 0)) (operand_term number (argument args 1)) (operand_named number (argument args 0)) (operand_named number (argument args 1))
line_named number width w line.Ite args = ((operand_named number (argument args 0), (tt, tt)), (operand_named number (argument args 1), (operand_named number (argument args 2), tt)))
line_named number width w (line.Slice high low) args = (operand_named number (argument args 0), tt)
line_named number width w (line.Uext n) args = (operand_named number (argument args 0), tt)
line_named number width w (line.Sext n) args = (operand_named number (argument args 0), tt)
line_named number width w o args = tt

-- ---- formulas

list_named : (ts : List Tree) → Named ts → AllNamesAreSpellable (trees_of ts)
list_named [] h = tt
list_named (t ∷ ts) h = (h.0, list_named ts h.1)

all_named : (ts : List Tree) → Named ts → NamesAreSpellable (all_term ts)
all_named [] h = tt
all_named (t ∷ []) h = h.0
all_named (t ∷ u ∷ ts) h = list_named (t ∷ u ∷ ts) h

formula_named : (part : ℕ → Line → List Tree) → ((i : ℕ) (l : Line) → Named (part i l)) → (lines : List Line) → NamesAreSpellable (formula_of part lines)
formula_named part f lines = all_named (parts_from part 0 lines) (parts_all NamesAreSpellable part lines 0 (λ k l h. f (0 + k) l))

named_if : (b : Bool) (xs ys : List Tree) → Named xs → Named ys → Named (if b then xs else ys)
named_if true xs ys h k = h
named_if false xs ys h k = k

value_named : (number : ℕ → ℕ) (primed : Bool) (args : List Arg) → NamesAreSpellable (value_part number primed args)
value_named number primed args = (tt, (operand_named number (argument args 1), tt))

init_named : (number : ℕ → ℕ) (i : ℕ) (l : Line) → Named (init_part number i l)
init_named number i l = named_if (is_init l.op) (value_part number false l.args ∷ []) [] (value_named number false l.args, tt) tt

trans_named : (number : ℕ → ℕ) (i : ℕ) (l : Line) → Named (trans_part number i l)
trans_named number i l = named_if (is_next l.op) (value_part number true l.args ∷ []) [] (value_named number true l.args, tt) tt

inv_named : (lines : List Line) (number : ℕ → ℕ) (i : ℕ) (l : Line) → Named (inv_part lines number i l)
inv_named lines number i l =
    named_if (is_local l.op) (equation_term number lines i l ∷ []) (if is_constraint l.op then is_one (operand_term number (argument l.args 0)) ∷ [] else [])
    ((tt, (line_named number (width_at lines) (sort_at lines l.sort) l.op l.args, tt)), tt)
    (named_if (is_constraint l.op) (is_one (operand_term number (argument l.args 0)) ∷ []) [] ((operand_named number (argument l.args 0), (tt, tt)), tt) tt)

reachables_named : (number : ℕ → ℕ) (j : ℕ) (ls : List Line) → j + length ls ≤ 4294967296 → AllByRecursion IsSpellableFormula (reachables_from number j ls)
reachables_named number j [] h = tt
reachables_named number j (l ∷ ls) h =
    (record { name = barred_spellable (codes "b." ++ decimal j) (number_barred j (omega (arith, h))); term = (operand_named number (argument l.args 0), (tt, tt)) }, reachables_named number (j + 1) ls (omega (arith, h)))

queries_named : (j : ℕ) (ls : List Line) → j + length ls ≤ 4294967296 → AllByRecursion (λ (q : Query). IsSpellable q.name) (queries_from j ls)
queries_named j [] h = tt
queries_named j (l ∷ ls) h = (barred_spellable (codes "q." ++ decimal j) (number_barred j (omega (arith, h))), queries_named (j + 1) ls (omega (arith, h)))

-- ---- the script

module _ (lines : List Line) (well : IsWellFormed lines) where
  variables_named : VariablesAreSpellable (all_variables lines)
  variables_named = all_by (λ (v : Variable). IsSpellable v.name) (all_variables lines)
      (λ v x h.
      let p = line_of_variable lines v x h in
      let s = id_small lines p.place p.line well p.there in
      subst (λ (y : Variable). IsSpellable y.name) (sym p.same) (lettered (is_input p.line.op) (is_state p.line.op) p.line.id (omega (arith, s))))

  inputs_named : VariablesAreSpellable (inputs_of lines)
  inputs_named = all_front (λ (v : Variable). IsSpellable v.name) (inputs_of lines) (outputs_of lines ++ locals_in lines) variables_named

  others_named : VariablesAreSpellable (outputs_of lines ++ locals_in lines)
  others_named = all_back (λ (v : Variable). IsSpellable v.name) (inputs_of lines) (outputs_of lines ++ locals_in lines) variables_named

  outputs_named : VariablesAreSpellable (outputs_of lines)
  outputs_named = all_front (λ (v : Variable). IsSpellable v.name) (outputs_of lines) (locals_in lines) others_named

  locals_named : VariablesAreSpellable (locals_in lines)
  locals_named = all_back (λ (v : Variable). IsSpellable v.name) (outputs_of lines) (locals_in lines) others_named

  pub names_spellable : HasSpellableNames (import_of lines)
  names_spellable =
      let few = bads_few lines well in
      record {
        logic = barred_spellable (codes "QF_BV") refl;
        scope = record { scope = record { enumerations = tt; constants = tt; functions = tt }; sorts = tt; functions = tt };
        systems = (
          record {
            name = barred_spellable (codes "main") refl;
            inputs = inputs_named;
            outputs = outputs_named;
            locals = locals_named;
            init = formula_named (init_part (number_of lines)) (init_named (number_of lines)) lines;
            trans = formula_named (trans_part (number_of lines)) (trans_named (number_of lines)) lines;
            inv = formula_named (inv_part lines (number_of lines)) (inv_named lines (number_of lines)) lines;
            subsystems = tt;
          },
          tt,
        );
        check = record {
          inputs = inputs_named;
          outputs = outputs_named;
          locals = locals_named;
          assumptions = tt;
          currents = tt;
          reachables = reachables_named (number_of lines) 0 (lines_in is_bad lines) (omega (arith, few));
          queries = queries_named 0 (lines_in is_bad lines) (omega (arith, few));
        };
      }
