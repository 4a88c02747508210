-- One node each, given the types of its operands: its own checks in their order, and its type (NuSMV 2.6 User Manual, 2.2; intervals
-- and the order of checks are this translator's own).
use Rattle.std.specs.Prelude.{ℕ, ℤ, pos, int_le, ◌+◌, ◌-◌, Bool, true, false, not, ◌||◌, List, [], ◌∷◌, ◌++◌, Option, Some, option_map}
use Rattle.text_core.specs.declared.place.Place.{Place}
use Rattle.smv_text.specs.declared.operators.Prefix.{Prefix}
use Rattle.smv_text.specs.declared.operators.Infix.{Infix}
use Rattle.smv_text.specs.declared.operators.Infix.TheVariants.{Concat}
use Rattle.smv_text.specs.declared.operators.Function.{Function}
use Rattle.smv_text.specs.Tree.{Tree}
use Rattle.smv_meaning.specs.Types.{ExprType, integer_type, word_type, is_word_type, in_limit, prefix_fits, prefix_type, is_select, function_fits, arguments_fit, function_type, are_same, hull_of, implies_fits, first_type}
use Rattle.smv_meaning.specs.Checks.{Check, check, Position, Named, Typing, node, on_type, on_all, all_types, front, branches_fit, branches_type}

-- an operand that passes its checks
abbrev pub passed : Option ExprType → Typing
passed t = record { checks = []; type = t }

-- a node behind the checks of its operands
abbrev pub behind_checks : List Check → Typing → Typing
behind_checks cs t = record { checks = cs ++ t.checks; type = t.type }

abbrev pub name_step : Place → Position → Named → Typing
name_step p at n = node [] (check 16 p (not n.is_instance) ∷ check 18 p (at.inputs || not n.reaches_input) ∷ []) n.type

abbrev pub prefix_step : Place → Prefix → ℕ → Option ExprType → Typing
prefix_step p sign n t =
    node [] (check 16 p (on_type t (prefix_fits sign)) ∷ check 17 p (on_type t (λ u. in_limit (prefix_type sign n u))) ∷ []) (option_map (prefix_type sign n) t)

abbrev pub select_step : Place → ℕ → ℕ → Option ExprType → Typing
select_step p high low t =
    node [] (check 16 p (on_type t is_word_type) ∷ check 25 p (on_type t (λ u. is_select u high low)) ∷ []) (option_map (λ u. word_type (high - low + 1)) t)

abbrev pub next_step : Place → Position → Option ExprType → Typing
next_step p at t = node [] (check 19 p at.nexts ∷ []) t

abbrev pub front_step : Infix → Position → Place → Option ExprType → Option ExprType → Tree → Typing
front_step op at p t u e = front op at p (passed t) (passed u) e

abbrev pub implies_step : Place → Option (List ExprType) → Typing
implies_step p ts = node [] (check 16 p (on_all ts implies_fits) ∷ []) (option_map first_type ts)

-- the operands behind the first, and then the node
abbrev pub implications_step : Place → Option ExprType → List Check → List (Option ExprType) → Typing
implications_step p first cs ts = behind_checks cs (implies_step p (all_types (first ∷ ts)))

abbrev pub branches_step : Place → Option (List ExprType) → Option (List ExprType) → Typing
branches_step p conditions values = node [] (check 16 p (branches_fit conditions values) ∷ []) (branches_type conditions values)

abbrev pub call_step : Place → Function → Option (List ExprType) → List (Option ℕ) → Typing
call_step p f ts ns =
    node [] (
    check 16 p (on_all ts (function_fits f))
    ∷ check 17 p (on_all ts (λ us. in_limit (function_type f us ns)))
    ∷ check 25 p (on_all ts (λ us. arguments_fit f us ns))
    ∷ []
    ) (option_map (λ us. function_type f us ns) ts)

abbrev pub set_step : Place → Position → Option (List ExprType) → Typing
set_step p at ts = node [] (check 16 p (on_all ts are_same) ∷ check 20 p at.sets ∷ []) (option_map hull_of ts)

abbrev pub number_step : Place → ℕ → Typing
number_step p n = node [] (check 17 p (in_limit (integer_type (pos n) (pos n))) ∷ []) (Some (integer_type (pos n) (pos n)))

abbrev pub range_step : Place → Position → ℤ → ℤ → Typing
range_step p at low high =
    node [] (check 17 p (in_limit (integer_type low high)) ∷ check 20 p at.sets ∷ check 26 p (int_le low high) ∷ []) (Some (integer_type low high))

abbrev pub is_concat : Infix → Bool
is_concat Concat = true
is_concat op = false
