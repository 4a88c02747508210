-- The number of invariants, whatever the number of their instance.
use Rattle.std.proofs.Common.{◌≡◌, ℕ, List, [], ◌∷◌, length, flat_map, length-append, refl, arith}
use Rattle.smv_text.specs.Tree.{PlainElement, vars, defines, constants, assigns, init, trans, invar, spec}
use Rattle.smv_meaning.specs.Phases.{element_invariants}

one_length : (i j : ℕ) (e : PlainElement) → length (element_invariants i e) ≡ length (element_invariants j e)
one_length i j (vars kind items) = refl
one_length i j (defines ds) = refl
one_length i j (constants names) = refl
one_length i j (assigns xs) = refl
one_length i j (init e) = refl
one_length i j (trans e) = refl
one_length i j (invar e) = refl
one_length i j (spec label e) = refl

pub each_length : (i j : ℕ) (es : List PlainElement) → length (flat_map (element_invariants i) es) ≡ length (flat_map (element_invariants j) es)
each_length i j [] = refl
each_length i j (e ∷ es) =
    let a = one_length i j e in
    let r = each_length i j es in
    let k = length-append (element_invariants i e) (flat_map (element_invariants i) es) in
    let l = length-append (element_invariants j e) (flat_map (element_invariants j) es) in
    omega (arith, a, r, k, l)
