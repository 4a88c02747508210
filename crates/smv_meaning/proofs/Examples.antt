-- The smallest examples of refusals and of accepted models, computed by the definitions. P stands for
-- `MODULE main VAR x : boolean; `.
use Rattle.std.proofs.Common.{◌≡◌, ℕ, true, false, [], ◌∷◌, Option, Some, None, pos, negsuc, refl}
use Rattle.std.specs.Prelude.{codes, replicate}
use Rattle.text_core.specs.declared.place.Place.{Place}
use Rattle.text_core.specs.declared.place.Kind.TheVariants.{S}
use Rattle.text_core.specs.declared.place.Refusal.{Refusal}
use Rattle.smv_text.specs.declared.operators.Infix.TheVariants as I
use Rattle.smv_text.specs.declared.operators.Function.TheVariants as G
use Rattle.smv_text.specs.declared.operators.Prefix.TheVariants as F
use Rattle.smv_text.specs.declared.tree.VarKind.TheVariants as K
use Rattle.smv_text.specs.declared.tree.When.TheVariants as W
use Rattle.smv_text.specs.declared.tree.Member.TheVariants as M
use Rattle.smv_text.specs.Tree.{truth, number, literal, name, prefix, chain, choice, cases, select, call, next, set, range, no_links, link, no_branches, branch, no_trees, tree, boolean, members, between, bits, instance, vars, defines, assigns, init, trans, spec}
use Rattle.smv_meaning.specs.Instances.{grow}
use Rattle.smv_meaning.specs.Names.{look}
use Rattle.smv_meaning.specs.Naming.{naming}
use Rattle.smv_meaning.specs.Phases.{reaches, first_refusal}
use Rattle.std.specs.Prelude.{bytes_eq, if◌then◌else◌}
use Rattle.text_core.specs.declared.verdict.Clause.TheVariants.{ValueOutside, InitFails, TransFails, NotBroken}
use Rattle.text_core.specs.declared.verdict.Verdict.TheVariants.{Yes, No}
use Rattle.smv_meaning.specs.declared.value.Value.TheVariants.{Truth, Integer, Symbol, Bits}
use Rattle.smv_meaning.specs.Values.{no_value}
use Rattle.smv_meaning.specs.Meaning.{reading}
use Rattle.smv_meaning.specs.Runs.{no_values, judged_smv}

-- a place
at : ℕ → ℕ → ℕ → Place
at l c o = record { line = l; column = c; offset = o }

refused : ℕ → Place → Option Refusal
refused n p = Some (record { kind = S n; place = p })

-- P``
example_0 : first_refusal (record { modules = ((record { name = codes "main"; place = (at 1 8 7); parameters = ([]); elements = ((vars K.State ((record { name = codes "x"; place = (at 1 17 16); domain = boolean; domain_place = (at 1 21 20) }) ∷ [])) ∷ []); tokens = 5 }) ∷ []); end = (at 1 30 29) }) 0 ≡ refused 27 (at 1 30 29)
unfolding grow look naming reaches at refused
example_0 = refl

-- ``
example_1 : first_refusal (record { modules = ([]); end = (at 1 1 0) }) 0 ≡ refused 8 (at 1 1 0)
unfolding grow look naming reaches at refused
example_1 = refl

-- `MODULE main VAR x : 0..3; INVARSPEC x-1 < 2`
example_2 : first_refusal (record { modules = ((record { name = codes "main"; place = (at 1 8 7); parameters = ([]); elements = ((vars K.State ((record { name = codes "x"; place = (at 1 17 16); domain = (between (pos 0) (pos 3)); domain_place = (at 1 21 20) }) ∷ [])) ∷ (spec None (chain (at 1 37 36) (name (at 1 37 36) (record { from_self = false; names = (codes "x-1" ∷ []); place = (at 1 37 36) })) (link I.Less (number (at 1 43 42) 2) no_links))) ∷ []); tokens = 11 }) ∷ []); end = (at 1 44 43) }) 0 ≡ refused 14 (at 1 37 36)
unfolding grow look naming reaches at refused
example_2 = refl

-- `MODULE main VAR p : m(d); DEFINE d := p.e; INVARSPEC d MODULE m(x) DEFINE e := x;`
example_3 : first_refusal (record { modules = ((record { name = codes "main"; place = (at 1 8 7); parameters = ([]); elements = ((vars K.State ((record { name = codes "p"; place = (at 1 17 16); domain = (instance (codes "m") (tree (name (at 1 23 22) (record { from_self = false; names = (codes "d" ∷ []); place = (at 1 23 22) })) no_trees)); domain_place = (at 1 21 20) }) ∷ [])) ∷ (defines ((record { name = codes "d"; place = (at 1 34 33); body = (name (at 1 39 38) (record { from_self = false; names = (codes "p" ∷ codes "e" ∷ []); place = (at 1 39 38) })) }) ∷ [])) ∷ (spec None (name (at 1 54 53) (record { from_self = false; names = (codes "d" ∷ []); place = (at 1 54 53) }))) ∷ []); tokens = 17 }) ∷ (record { name = codes "m"; place = (at 1 63 62); parameters = ((record { name = codes "x"; place = (at 1 65 64) }) ∷ []); elements = ((defines ((record { name = codes "e"; place = (at 1 75 74); body = (name (at 1 80 79) (record { from_self = false; names = (codes "x" ∷ []); place = (at 1 80 79) })) }) ∷ [])) ∷ []); tokens = 5 }) ∷ []); end = (at 1 82 81) }) 0 ≡ refused 15 (at 1 34 33)
unfolding grow look naming reaches at refused
example_3 = refl

-- P`INVARSPEC x MODULE main`
example_4 : first_refusal (record { modules = ((record { name = codes "main"; place = (at 1 8 7); parameters = ([]); elements = ((vars K.State ((record { name = codes "x"; place = (at 1 17 16); domain = boolean; domain_place = (at 1 21 20) }) ∷ [])) ∷ (spec None (name (at 1 40 39) (record { from_self = false; names = (codes "x" ∷ []); place = (at 1 40 39) }))) ∷ []); tokens = 7 }) ∷ (record { name = codes "main"; place = (at 1 49 48); parameters = ([]); elements = ([]); tokens = 0 }) ∷ []); end = (at 1 53 52) }) 0 ≡ refused 9 (at 1 49 48)
unfolding grow look naming reaches at refused
example_4 = refl

-- P`VAR x : boolean;`
example_5 : first_refusal (record { modules = ((record { name = codes "main"; place = (at 1 8 7); parameters = ([]); elements = ((vars K.State ((record { name = codes "x"; place = (at 1 17 16); domain = boolean; domain_place = (at 1 21 20) }) ∷ [])) ∷ (vars K.State ((record { name = codes "x"; place = (at 1 34 33); domain = boolean; domain_place = (at 1 38 37) }) ∷ [])) ∷ []); tokens = 10 }) ∷ []); end = (at 1 46 45) }) 0 ≡ refused 10 (at 1 34 33)
unfolding grow look naming reaches at refused
example_5 = refl

-- P`VAR p : m;`
example_6 : first_refusal (record { modules = ((record { name = codes "main"; place = (at 1 8 7); parameters = ([]); elements = ((vars K.State ((record { name = codes "x"; place = (at 1 17 16); domain = boolean; domain_place = (at 1 21 20) }) ∷ [])) ∷ (vars K.State ((record { name = codes "p"; place = (at 1 34 33); domain = (instance (codes "m") no_trees); domain_place = (at 1 38 37) }) ∷ [])) ∷ []); tokens = 10 }) ∷ []); end = (at 1 40 39) }) 0 ≡ refused 11 (at 1 38 37)
unfolding grow look naming reaches at refused
example_6 = refl

-- P`VAR p : m; MODULE m VAR q : m;`
example_7 : first_refusal (record { modules = ((record { name = codes "main"; place = (at 1 8 7); parameters = ([]); elements = ((vars K.State ((record { name = codes "x"; place = (at 1 17 16); domain = boolean; domain_place = (at 1 21 20) }) ∷ [])) ∷ (vars K.State ((record { name = codes "p"; place = (at 1 34 33); domain = (instance (codes "m") no_trees); domain_place = (at 1 38 37) }) ∷ [])) ∷ []); tokens = 10 }) ∷ (record { name = codes "m"; place = (at 1 48 47); parameters = ([]); elements = ((vars K.State ((record { name = codes "q"; place = (at 1 54 53); domain = (instance (codes "m") no_trees); domain_place = (at 1 58 57) }) ∷ [])) ∷ []); tokens = 5 }) ∷ []); end = (at 1 60 59) }) 0 ≡ refused 12 (at 1 58 57)
unfolding grow look naming reaches at refused
example_7 = refl

-- P`VAR p : m(x); MODULE m`
example_8 : first_refusal (record { modules = ((record { name = codes "main"; place = (at 1 8 7); parameters = ([]); elements = ((vars K.State ((record { name = codes "x"; place = (at 1 17 16); domain = boolean; domain_place = (at 1 21 20) }) ∷ [])) ∷ (vars K.State ((record { name = codes "p"; place = (at 1 34 33); domain = (instance (codes "m") (tree (name (at 1 40 39) (record { from_self = false; names = (codes "x" ∷ []); place = (at 1 40 39) })) no_trees)); domain_place = (at 1 38 37) }) ∷ [])) ∷ []); tokens = 13 }) ∷ (record { name = codes "m"; place = (at 1 51 50); parameters = ([]); elements = ([]); tokens = 0 }) ∷ []); end = (at 1 52 51) }) 0 ≡ refused 13 (at 1 38 37)
unfolding grow look naming reaches at refused
example_8 = refl

-- P`INVARSPEC x = 1`
example_9 : first_refusal (record { modules = ((record { name = codes "main"; place = (at 1 8 7); parameters = ([]); elements = ((vars K.State ((record { name = codes "x"; place = (at 1 17 16); domain = boolean; domain_place = (at 1 21 20) }) ∷ [])) ∷ (spec None (chain (at 1 40 39) (name (at 1 40 39) (record { from_self = false; names = (codes "x" ∷ []); place = (at 1 40 39) })) (link I.Equal (number (at 1 44 43) 1) no_links))) ∷ []); tokens = 9 }) ∷ []); end = (at 1 45 44) }) 0 ≡ refused 16 (at 1 40 39)
unfolding grow look naming reaches at refused
example_9 = refl

-- P`INVARSPEC 4611686018427387903 + 1 = 0`
example_10 : first_refusal (record { modules = ((record { name = codes "main"; place = (at 1 8 7); parameters = ([]); elements = ((vars K.State ((record { name = codes "x"; place = (at 1 17 16); domain = boolean; domain_place = (at 1 21 20) }) ∷ [])) ∷ (spec None (chain (at 1 40 39) (chain (at 1 40 39) (number (at 1 40 39) 4611686018427387903) (link I.Plus (number (at 1 62 61) 1) no_links)) (link I.Equal (number (at 1 66 65) 0) no_links))) ∷ []); tokens = 11 }) ∷ []); end = (at 1 67 66) }) 0 ≡ refused 17 (at 1 40 39)
unfolding grow look naming reaches at refused
example_10 = refl

-- P`IVAR i : boolean; INVARSPEC i`
example_11 : first_refusal (record { modules = ((record { name = codes "main"; place = (at 1 8 7); parameters = ([]); elements = ((vars K.State ((record { name = codes "x"; place = (at 1 17 16); domain = boolean; domain_place = (at 1 21 20) }) ∷ [])) ∷ (vars K.Input ((record { name = codes "i"; place = (at 1 35 34); domain = boolean; domain_place = (at 1 39 38) }) ∷ [])) ∷ (spec None (name (at 1 58 57) (record { from_self = false; names = (codes "i" ∷ []); place = (at 1 58 57) }))) ∷ []); tokens = 12 }) ∷ []); end = (at 1 59 58) }) 0 ≡ refused 18 (at 1 58 57)
unfolding grow look naming reaches at refused
example_11 = refl

-- P`INVARSPEC next(x)`
example_12 : first_refusal (record { modules = ((record { name = codes "main"; place = (at 1 8 7); parameters = ([]); elements = ((vars K.State ((record { name = codes "x"; place = (at 1 17 16); domain = boolean; domain_place = (at 1 21 20) }) ∷ [])) ∷ (spec None (next (at 1 40 39) (name (at 1 45 44) (record { from_self = false; names = (codes "x" ∷ []); place = (at 1 45 44) })))) ∷ []); tokens = 10 }) ∷ []); end = (at 1 47 46) }) 0 ≡ refused 19 (at 1 40 39)
unfolding grow look naming reaches at refused
example_12 = refl

-- P`DEFINE d := {TRUE};`
example_13 : first_refusal (record { modules = ((record { name = codes "main"; place = (at 1 8 7); parameters = ([]); elements = ((vars K.State ((record { name = codes "x"; place = (at 1 17 16); domain = boolean; domain_place = (at 1 21 20) }) ∷ [])) ∷ (defines ((record { name = codes "d"; place = (at 1 37 36); body = (set (at 1 42 41) (tree (truth (at 1 43 42) true) no_trees)) }) ∷ [])) ∷ []); tokens = 12 }) ∷ []); end = (at 1 49 48) }) 0 ≡ refused 20 (at 1 42 41)
unfolding grow look naming reaches at refused
example_13 = refl

-- P`ASSIGN init(x) := TRUE; x := FALSE;`
example_14 : first_refusal (record { modules = ((record { name = codes "main"; place = (at 1 8 7); parameters = ([]); elements = ((vars K.State ((record { name = codes "x"; place = (at 1 17 16); domain = boolean; domain_place = (at 1 21 20) }) ∷ [])) ∷ (assigns ((record { when = W.First; target = (record { from_self = false; names = (codes "x" ∷ []); place = (at 1 42 41) }); body = (truth (at 1 48 47) true) }) ∷ (record { when = W.Always; target = (record { from_self = false; names = (codes "x" ∷ []); place = (at 1 54 53) }); body = (truth (at 1 59 58) false) }) ∷ [])) ∷ []); tokens = 17 }) ∷ []); end = (at 1 65 64) }) 0 ≡ refused 21 (at 1 54 53)
unfolding grow look naming reaches at refused
example_14 = refl

-- P`DEFINE d := x; ASSIGN d := TRUE;`
example_15 : first_refusal (record { modules = ((record { name = codes "main"; place = (at 1 8 7); parameters = ([]); elements = ((vars K.State ((record { name = codes "x"; place = (at 1 17 16); domain = boolean; domain_place = (at 1 21 20) }) ∷ [])) ∷ (defines ((record { name = codes "d"; place = (at 1 37 36); body = (name (at 1 42 41) (record { from_self = false; names = (codes "x" ∷ []); place = (at 1 42 41) })) }) ∷ [])) ∷ (assigns ((record { when = W.Always; target = (record { from_self = false; names = (codes "d" ∷ []); place = (at 1 52 51) }); body = (truth (at 1 57 56) true) }) ∷ [])) ∷ []); tokens = 15 }) ∷ []); end = (at 1 62 61) }) 0 ≡ refused 22 (at 1 52 51)
unfolding grow look naming reaches at refused
example_15 = refl

-- P`INVARSPEC 7 / 0 = 1`
example_16 : first_refusal (record { modules = ((record { name = codes "main"; place = (at 1 8 7); parameters = ([]); elements = ((vars K.State ((record { name = codes "x"; place = (at 1 17 16); domain = boolean; domain_place = (at 1 21 20) }) ∷ [])) ∷ (spec None (chain (at 1 40 39) (chain (at 1 40 39) (number (at 1 40 39) 7) (link I.Divide (number (at 1 44 43) 0) no_links)) (link I.Equal (number (at 1 48 47) 1) no_links))) ∷ []); tokens = 11 }) ∷ []); end = (at 1 49 48) }) 0 ≡ refused 23 (at 1 40 39)
unfolding grow look naming reaches at refused
example_16 = refl

-- P`INVARSPEC 0ud2_1 << 3 = 0ud2_0`
example_17 : first_refusal (record { modules = ((record { name = codes "main"; place = (at 1 8 7); parameters = ([]); elements = ((vars K.State ((record { name = codes "x"; place = (at 1 17 16); domain = boolean; domain_place = (at 1 21 20) }) ∷ [])) ∷ (spec None (chain (at 1 40 39) (chain (at 1 40 39) (literal (at 1 40 39) (record { width = 2; bits = 1 })) (link I.ShiftLeft (number (at 1 50 49) 3) no_links)) (link I.Equal (literal (at 1 54 53) (record { width = 2; bits = 0 })) no_links))) ∷ []); tokens = 11 }) ∷ []); end = (at 1 60 59) }) 0 ≡ refused 24 (at 1 40 39)
unfolding grow look naming reaches at refused
example_17 = refl

-- P`INVARSPEC 0ud2_1[2:0] = 0ud3_0`
example_18 : first_refusal (record { modules = ((record { name = codes "main"; place = (at 1 8 7); parameters = ([]); elements = ((vars K.State ((record { name = codes "x"; place = (at 1 17 16); domain = boolean; domain_place = (at 1 21 20) }) ∷ [])) ∷ (spec None (chain (at 1 40 39) (select (at 1 40 39) (literal (at 1 40 39) (record { width = 2; bits = 1 })) 2 0) (link I.Equal (literal (at 1 54 53) (record { width = 3; bits = 0 })) no_links))) ∷ []); tokens = 14 }) ∷ []); end = (at 1 60 59) }) 0 ≡ refused 25 (at 1 40 39)
unfolding grow look naming reaches at refused
example_18 = refl

-- P`VAR y : 3..1;`
example_19 : first_refusal (record { modules = ((record { name = codes "main"; place = (at 1 8 7); parameters = ([]); elements = ((vars K.State ((record { name = codes "x"; place = (at 1 17 16); domain = boolean; domain_place = (at 1 21 20) }) ∷ [])) ∷ (vars K.State ((record { name = codes "y"; place = (at 1 34 33); domain = (between (pos 3) (pos 1)); domain_place = (at 1 38 37) }) ∷ [])) ∷ []); tokens = 12 }) ∷ []); end = (at 1 43 42) }) 0 ≡ refused 26 (at 1 38 37)
unfolding grow look naming reaches at refused
example_19 = refl

-- P`INVARSPEC x`
example_20 : first_refusal (record { modules = ((record { name = codes "main"; place = (at 1 8 7); parameters = ([]); elements = ((vars K.State ((record { name = codes "x"; place = (at 1 17 16); domain = boolean; domain_place = (at 1 21 20) }) ∷ [])) ∷ (spec None (name (at 1 40 39) (record { from_self = false; names = (codes "x" ∷ []); place = (at 1 40 39) }))) ∷ []); tokens = 7 }) ∷ []); end = (at 1 41 40) }) 0 ≡ None
unfolding grow look naming reaches at refused
example_20 = refl

-- `MODULE main VAR a : boolean; b : boolean; p : pick(a, b); q : pick(b, p.out); INVARSPEC p.out | !q.out MODULE pick(left, right) DEFINE out := left & !right; MODULE spare(z)`
example_21 : first_refusal (record { modules = ((record { name = codes "main"; place = (at 1 8 7); parameters = ([]); elements = ((vars K.State ((record { name = codes "a"; place = (at 1 17 16); domain = boolean; domain_place = (at 1 21 20) }) ∷ (record { name = codes "b"; place = (at 1 30 29); domain = boolean; domain_place = (at 1 34 33) }) ∷ (record { name = codes "p"; place = (at 1 43 42); domain = (instance (codes "pick") (tree (name (at 1 52 51) (record { from_self = false; names = (codes "a" ∷ []); place = (at 1 52 51) })) (tree (name (at 1 55 54) (record { from_self = false; names = (codes "b" ∷ []); place = (at 1 55 54) })) no_trees))); domain_place = (at 1 47 46) }) ∷ (record { name = codes "q"; place = (at 1 59 58); domain = (instance (codes "pick") (tree (name (at 1 68 67) (record { from_self = false; names = (codes "b" ∷ []); place = (at 1 68 67) })) (tree (name (at 1 71 70) (record { from_self = false; names = (codes "p" ∷ codes "out" ∷ []); place = (at 1 71 70) })) no_trees))); domain_place = (at 1 63 62) }) ∷ [])) ∷ (spec None (chain (at 1 89 88) (name (at 1 89 88) (record { from_self = false; names = (codes "p" ∷ codes "out" ∷ []); place = (at 1 89 88) })) (link I.Or (prefix (at 1 97 96) F.Not 1 (name (at 1 98 97) (record { from_self = false; names = (codes "q" ∷ codes "out" ∷ []); place = (at 1 98 97) }))) no_links))) ∷ []); tokens = 38 }) ∷ (record { name = codes "pick"; place = (at 1 111 110); parameters = ((record { name = codes "left"; place = (at 1 116 115) }) ∷ (record { name = codes "right"; place = (at 1 122 121) }) ∷ []); elements = ((defines ((record { name = codes "out"; place = (at 1 136 135); body = (chain (at 1 143 142) (name (at 1 143 142) (record { from_self = false; names = (codes "left" ∷ []); place = (at 1 143 142) })) (link I.And (prefix (at 1 150 149) F.Not 1 (name (at 1 151 150) (record { from_self = false; names = (codes "right" ∷ []); place = (at 1 151 150) }))) no_links)) }) ∷ [])) ∷ []); tokens = 8 }) ∷ (record { name = codes "spare"; place = (at 1 165 164); parameters = ((record { name = codes "z"; place = (at 1 171 170) }) ∷ []); elements = ([]); tokens = 0 }) ∷ []); end = (at 1 173 172) }) 0 ≡ None
unfolding grow look naming reaches at refused
example_21 = refl

-- `MODULE main VAR x : -7..7; y : -7..7; INIT x = -7 / 2 & y = -7 mod 2 INVARSPEC x + y != -4`
example_22 : first_refusal (record { modules = ((record { name = codes "main"; place = (at 1 8 7); parameters = ([]); elements = ((vars K.State ((record { name = codes "x"; place = (at 1 17 16); domain = (between (negsuc 6) (pos 7)); domain_place = (at 1 21 20) }) ∷ (record { name = codes "y"; place = (at 1 28 27); domain = (between (negsuc 6) (pos 7)); domain_place = (at 1 32 31) }) ∷ [])) ∷ (init (chain (at 1 44 43) (chain (at 1 44 43) (name (at 1 44 43) (record { from_self = false; names = (codes "x" ∷ []); place = (at 1 44 43) })) (link I.Equal (chain (at 1 48 47) (prefix (at 1 48 47) F.Minus 1 (number (at 1 49 48) 7)) (link I.Divide (number (at 1 53 52) 2) no_links)) no_links)) (link I.And (chain (at 1 57 56) (name (at 1 57 56) (record { from_self = false; names = (codes "y" ∷ []); place = (at 1 57 56) })) (link I.Equal (chain (at 1 61 60) (prefix (at 1 61 60) F.Minus 1 (number (at 1 62 61) 7)) (link I.Mod (number (at 1 68 67) 2) no_links)) no_links)) no_links))) ∷ (spec None (chain (at 1 80 79) (chain (at 1 80 79) (name (at 1 80 79) (record { from_self = false; names = (codes "x" ∷ []); place = (at 1 80 79) })) (link I.Plus (name (at 1 84 83) (record { from_self = false; names = (codes "y" ∷ []); place = (at 1 84 83) })) no_links)) (link I.Unequal (prefix (at 1 89 88) F.Minus 1 (number (at 1 90 89) 4)) no_links))) ∷ []); tokens = 36 }) ∷ []); end = (at 1 91 90) }) 0 ≡ None
unfolding grow look naming reaches at refused
example_22 = refl

-- `MODULE main VAR p : m(p); INVARSPEC p.x.x.x.b MODULE m(x) VAR b : boolean;`
example_23 : first_refusal (record { modules = ((record { name = codes "main"; place = (at 1 8 7); parameters = ([]); elements = ((vars K.State ((record { name = codes "p"; place = (at 1 17 16); domain = (instance (codes "m") (tree (name (at 1 23 22) (record { from_self = false; names = (codes "p" ∷ []); place = (at 1 23 22) })) no_trees)); domain_place = (at 1 21 20) }) ∷ [])) ∷ (spec None (name (at 1 37 36) (record { from_self = false; names = (codes "p" ∷ codes "x" ∷ codes "x" ∷ codes "x" ∷ codes "b" ∷ []); place = (at 1 37 36) }))) ∷ []); tokens = 18 }) ∷ (record { name = codes "m"; place = (at 1 54 53); parameters = ((record { name = codes "x"; place = (at 1 56 55) }) ∷ []); elements = ((vars K.State ((record { name = codes "b"; place = (at 1 63 62); domain = boolean; domain_place = (at 1 67 66) }) ∷ [])) ∷ []); tokens = 5 }) ∷ []); end = (at 1 75 74) }) 0 ≡ None
unfolding grow look naming reaches at refused
example_23 = refl

-- `MODULE main VAR s : {a, b, c}; INVARSPEC s in {a, b}`
example_24 : first_refusal (record { modules = ((record { name = codes "main"; place = (at 1 8 7); parameters = ([]); elements = ((vars K.State ((record { name = codes "s"; place = (at 1 17 16); domain = (members ((M.Symbol (codes "a")) ∷ (M.Symbol (codes "b")) ∷ (M.Symbol (codes "c")) ∷ [])); domain_place = (at 1 21 20) }) ∷ [])) ∷ (spec None (chain (at 1 42 41) (name (at 1 42 41) (record { from_self = false; names = (codes "s" ∷ []); place = (at 1 42 41) })) (link I.Member (set (at 1 47 46) (tree (name (at 1 48 47) (record { from_self = false; names = (codes "a" ∷ []); place = (at 1 48 47) })) (tree (name (at 1 51 50) (record { from_self = false; names = (codes "b" ∷ []); place = (at 1 51 50) })) no_trees))) no_links))) ∷ []); tokens = 19 }) ∷ []); end = (at 1 53 52) }) 0 ≡ None
unfolding grow look naming reaches at refused
example_24 = refl

-- `MODULE main VAR s : {a, 1}; INVARSPEC TRUE`
example_25 : first_refusal (record { modules = ((record { name = codes "main"; place = (at 1 8 7); parameters = ([]); elements = ((vars K.State ((record { name = codes "s"; place = (at 1 17 16); domain = (members ((M.Symbol (codes "a")) ∷ (M.Integer (pos 1)) ∷ [])); domain_place = (at 1 21 20) }) ∷ [])) ∷ (spec None (truth (at 1 39 38) true)) ∷ []); tokens = 11 }) ∷ []); end = (at 1 43 42) }) 0 ≡ refused 16 (at 1 21 20)
unfolding grow look naming reaches at refused
example_25 = refl

-- `MODULE main VAR s : {red}; red : boolean; INVARSPEC TRUE`
example_26 : first_refusal (record { modules = ((record { name = codes "main"; place = (at 1 8 7); parameters = ([]); elements = ((vars K.State ((record { name = codes "s"; place = (at 1 17 16); domain = (members ((M.Symbol (codes "red")) ∷ [])); domain_place = (at 1 21 20) }) ∷ (record { name = codes "red"; place = (at 1 28 27); domain = boolean; domain_place = (at 1 34 33) }) ∷ [])) ∷ (spec None (truth (at 1 53 52) true)) ∷ []); tokens = 13 }) ∷ []); end = (at 1 57 56) }) 0 ≡ refused 10 (at 1 28 27)
unfolding grow look naming reaches at refused
example_26 = refl

-- P`INVARSPEC {{TRUE}}`
example_27 : first_refusal (record { modules = ((record { name = codes "main"; place = (at 1 8 7); parameters = ([]); elements = ((vars K.State ((record { name = codes "x"; place = (at 1 17 16); domain = boolean; domain_place = (at 1 21 20) }) ∷ [])) ∷ (spec None (set (at 1 40 39) (tree (set (at 1 41 40) (tree (truth (at 1 42 41) true) no_trees)) no_trees))) ∷ []); tokens = 11 }) ∷ []); end = (at 1 48 47) }) 0 ≡ refused 20 (at 1 41 40)
unfolding grow look naming reaches at refused
example_27 = refl

-- P`FROZENVAR f : boolean; ASSIGN init(f) := TRUE; f := x;`
example_28 : first_refusal (record { modules = ((record { name = codes "main"; place = (at 1 8 7); parameters = ([]); elements = ((vars K.State ((record { name = codes "x"; place = (at 1 17 16); domain = boolean; domain_place = (at 1 21 20) }) ∷ [])) ∷ (vars K.Frozen ((record { name = codes "f"; place = (at 1 40 39); domain = boolean; domain_place = (at 1 44 43) }) ∷ [])) ∷ (assigns ((record { when = W.First; target = (record { from_self = false; names = (codes "f" ∷ []); place = (at 1 65 64) }); body = (truth (at 1 71 70) true) }) ∷ (record { when = W.Always; target = (record { from_self = false; names = (codes "f" ∷ []); place = (at 1 77 76) }); body = (name (at 1 82 81) (record { from_self = false; names = (codes "x" ∷ []); place = (at 1 82 81) })) }) ∷ [])) ∷ []); tokens = 22 }) ∷ []); end = (at 1 84 83) }) 0 ≡ refused 22 (at 1 77 76)
unfolding grow look naming reaches at refused
example_28 = refl

-- `MODULE main VAR w : word[64]; INIT w = 0ud64_18446744073709551615 TRANS next(w) = w + 0ud64_1 INVARSPEC w != 0ud64_0`
example_29 : first_refusal (record { modules = ((record { name = codes "main"; place = (at 1 8 7); parameters = ([]); elements = ((vars K.State ((record { name = codes "w"; place = (at 1 17 16); domain = (bits 64); domain_place = (at 1 21 20) }) ∷ [])) ∷ (init (chain (at 1 36 35) (name (at 1 36 35) (record { from_self = false; names = (codes "w" ∷ []); place = (at 1 36 35) })) (link I.Equal (literal (at 1 40 39) (record { width = 64; bits = 18446744073709551615 })) no_links))) ∷ (trans (chain (at 1 73 72) (next (at 1 73 72) (name (at 1 78 77) (record { from_self = false; names = (codes "w" ∷ []); place = (at 1 78 77) }))) (link I.Equal (chain (at 1 83 82) (name (at 1 83 82) (record { from_self = false; names = (codes "w" ∷ []); place = (at 1 83 82) })) (link I.Plus (literal (at 1 87 86) (record { width = 64; bits = 1 })) no_links)) no_links))) ∷ (spec None (chain (at 1 105 104) (name (at 1 105 104) (record { from_self = false; names = (codes "w" ∷ []); place = (at 1 105 104) })) (link I.Unequal (literal (at 1 110 109) (record { width = 64; bits = 0 })) no_links))) ∷ []); tokens = 25 }) ∷ []); end = (at 1 117 116) }) 0 ≡ None
unfolding grow look naming reaches at refused
example_29 = refl

-- P`INVARSPEC x -> x -> 1`
example_30 : first_refusal (record { modules = ((record { name = codes "main"; place = (at 1 8 7); parameters = ([]); elements = ((vars K.State ((record { name = codes "x"; place = (at 1 17 16); domain = boolean; domain_place = (at 1 21 20) }) ∷ [])) ∷ (spec None (chain (at 1 40 39) (name (at 1 40 39) (record { from_self = false; names = (codes "x" ∷ []); place = (at 1 40 39) })) (link I.Implies (name (at 1 45 44) (record { from_self = false; names = (codes "x" ∷ []); place = (at 1 45 44) })) (link I.Implies (number (at 1 50 49) 1) no_links)))) ∷ []); tokens = 11 }) ∷ []); end = (at 1 51 50) }) 0 ≡ refused 16 (at 1 40 39)
unfolding grow look naming reaches at refused
example_30 = refl

-- P`INVARSPEC (x ? 1 : 2) in 1..3 union {5}`
example_31 : first_refusal (record { modules = ((record { name = codes "main"; place = (at 1 8 7); parameters = ([]); elements = ((vars K.State ((record { name = codes "x"; place = (at 1 17 16); domain = boolean; domain_place = (at 1 21 20) }) ∷ [])) ∷ (spec None (chain (at 1 40 39) (choice (at 1 41 40) (branch (name (at 1 41 40) (record { from_self = false; names = (codes "x" ∷ []); place = (at 1 41 40) })) (number (at 1 45 44) 1) no_branches) (number (at 1 49 48) 2)) (link I.Member (chain (at 1 55 54) (range (at 1 55 54) (pos 1) (pos 3)) (link I.Union (set (at 1 66 65) (tree (number (at 1 67 66) 5) no_trees)) no_links)) no_links))) ∷ []); tokens = 21 }) ∷ []); end = (at 1 69 68) }) 0 ≡ None
unfolding grow look naming reaches at refused
example_31 = refl

-- P`INVARSPEC 1 union 2 = 1`
example_32 : first_refusal (record { modules = ((record { name = codes "main"; place = (at 1 8 7); parameters = ([]); elements = ((vars K.State ((record { name = codes "x"; place = (at 1 17 16); domain = boolean; domain_place = (at 1 21 20) }) ∷ [])) ∷ (spec None (chain (at 1 40 39) (chain (at 1 40 39) (number (at 1 40 39) 1) (link I.Union (number (at 1 48 47) 2) no_links)) (link I.Equal (number (at 1 52 51) 1) no_links))) ∷ []); tokens = 11 }) ∷ []); end = (at 1 53 52) }) 0 ≡ refused 20 (at 1 40 39)
unfolding grow look naming reaches at refused
example_32 = refl

-- `MODULE main VAR y : 0..7; INVARSPEC y / - - 2 = 1`
example_33 : first_refusal (record { modules = ((record { name = codes "main"; place = (at 1 8 7); parameters = ([]); elements = ((vars K.State ((record { name = codes "y"; place = (at 1 17 16); domain = (between (pos 0) (pos 7)); domain_place = (at 1 21 20) }) ∷ [])) ∷ (spec None (chain (at 1 37 36) (chain (at 1 37 36) (name (at 1 37 36) (record { from_self = false; names = (codes "y" ∷ []); place = (at 1 37 36) })) (link I.Divide (prefix (at 1 41 40) F.Minus 2 (number (at 1 45 44) 2)) no_links)) (link I.Equal (number (at 1 49 48) 1) no_links))) ∷ []); tokens = 15 }) ∷ []); end = (at 1 50 49) }) 0 ≡ refused 23 (at 1 37 36)
unfolding grow look naming reaches at refused
example_33 = refl

-- `MODULE main VAR y : 0..7; INVARSPEC y mod -4 < 4`
example_34 : first_refusal (record { modules = ((record { name = codes "main"; place = (at 1 8 7); parameters = ([]); elements = ((vars K.State ((record { name = codes "y"; place = (at 1 17 16); domain = (between (pos 0) (pos 7)); domain_place = (at 1 21 20) }) ∷ [])) ∷ (spec None (chain (at 1 37 36) (chain (at 1 37 36) (name (at 1 37 36) (record { from_self = false; names = (codes "y" ∷ []); place = (at 1 37 36) })) (link I.Mod (prefix (at 1 43 42) F.Minus 1 (number (at 1 44 43) 4)) no_links)) (link I.Less (number (at 1 48 47) 4) no_links))) ∷ []); tokens = 14 }) ∷ []); end = (at 1 49 48) }) 0 ≡ None
unfolding grow look naming reaches at refused
example_34 = refl

-- `MODULE main VAR p : m; INVARSPEC p.d = 1 MODULE m DEFINE d := 1 + TRUE;`
example_35 : first_refusal (record { modules = ((record { name = codes "main"; place = (at 1 8 7); parameters = ([]); elements = ((vars K.State ((record { name = codes "p"; place = (at 1 17 16); domain = (instance (codes "m") no_trees); domain_place = (at 1 21 20) }) ∷ [])) ∷ (spec None (chain (at 1 34 33) (name (at 1 34 33) (record { from_self = false; names = (codes "p" ∷ codes "d" ∷ []); place = (at 1 34 33) })) (link I.Equal (number (at 1 40 39) 1) no_links))) ∷ []); tokens = 11 }) ∷ (record { name = codes "m"; place = (at 1 49 48); parameters = ([]); elements = ((defines ((record { name = codes "d"; place = (at 1 58 57); body = (chain (at 1 63 62) (number (at 1 63 62) 1) (link I.Plus (truth (at 1 67 66) true) no_links)) }) ∷ [])) ∷ []); tokens = 7 }) ∷ []); end = (at 1 72 71) }) 0 ≡ refused 16 (at 1 63 62)
unfolding grow look naming reaches at refused
example_35 = refl

-- `MODULE main VAR p : m; INVARSPEC p MODULE m`
example_36 : first_refusal (record { modules = ((record { name = codes "main"; place = (at 1 8 7); parameters = ([]); elements = ((vars K.State ((record { name = codes "p"; place = (at 1 17 16); domain = (instance (codes "m") no_trees); domain_place = (at 1 21 20) }) ∷ [])) ∷ (spec None (name (at 1 34 33) (record { from_self = false; names = (codes "p" ∷ []); place = (at 1 34 33) }))) ∷ []); tokens = 7 }) ∷ (record { name = codes "m"; place = (at 1 43 42); parameters = ([]); elements = ([]); tokens = 0 }) ∷ []); end = (at 1 44 43) }) 0 ≡ refused 16 (at 1 34 33)
unfolding grow look naming reaches at refused
example_36 = refl

-- `MODULE main VAR p : m(q.x); q : m(p.x); INVARSPEC TRUE MODULE m(x)`
example_37 : first_refusal (record { modules = ((record { name = codes "main"; place = (at 1 8 7); parameters = ([]); elements = ((vars K.State ((record { name = codes "p"; place = (at 1 17 16); domain = (instance (codes "m") (tree (name (at 1 23 22) (record { from_self = false; names = (codes "q" ∷ codes "x" ∷ []); place = (at 1 23 22) })) no_trees)); domain_place = (at 1 21 20) }) ∷ (record { name = codes "q"; place = (at 1 29 28); domain = (instance (codes "m") (tree (name (at 1 35 34) (record { from_self = false; names = (codes "p" ∷ codes "x" ∷ []); place = (at 1 35 34) })) no_trees)); domain_place = (at 1 33 32) }) ∷ [])) ∷ (spec None (truth (at 1 51 50) true)) ∷ []); tokens = 21 }) ∷ (record { name = codes "m"; place = (at 1 63 62); parameters = ((record { name = codes "x"; place = (at 1 65 64) }) ∷ []); elements = ([]); tokens = 0 }) ∷ []); end = (at 1 67 66) }) 0 ≡ refused 15 (at 1 23 22)
unfolding grow look naming reaches at refused
example_37 = refl

-- P`INVARSPEC x & (x xor x xnor x) <-> x`
example_38 : first_refusal (record { modules = ((record { name = codes "main"; place = (at 1 8 7); parameters = ([]); elements = ((vars K.State ((record { name = codes "x"; place = (at 1 17 16); domain = boolean; domain_place = (at 1 21 20) }) ∷ [])) ∷ (spec None (chain (at 1 40 39) (chain (at 1 40 39) (name (at 1 40 39) (record { from_self = false; names = (codes "x" ∷ []); place = (at 1 40 39) })) (link I.And (chain (at 1 45 44) (name (at 1 45 44) (record { from_self = false; names = (codes "x" ∷ []); place = (at 1 45 44) })) (link I.Xor (name (at 1 51 50) (record { from_self = false; names = (codes "x" ∷ []); place = (at 1 51 50) })) (link I.Xnor (name (at 1 58 57) (record { from_self = false; names = (codes "x" ∷ []); place = (at 1 58 57) })) no_links))) no_links)) (link I.Iff (name (at 1 65 64) (record { from_self = false; names = (codes "x" ∷ []); place = (at 1 65 64) })) no_links))) ∷ []); tokens = 17 }) ∷ []); end = (at 1 66 65) }) 0 ≡ None
unfolding grow look naming reaches at refused
example_38 = refl

-- `MODULE main VAR w : word[4]; INVARSPEC (0ub1_1 :: w)[4:1] = w >> 1 | extend(w, 2)[3:0] = resize(w, 4) & toint(w) < uwconst(3, 2) + 1`
example_39 : first_refusal (record { modules = ((record { name = codes "main"; place = (at 1 8 7); parameters = ([]); elements = ((vars K.State ((record { name = codes "w"; place = (at 1 17 16); domain = (bits 4); domain_place = (at 1 21 20) }) ∷ [])) ∷ (spec None (chain (at 1 40 39) (chain (at 1 40 39) (select (at 1 40 39) (chain (at 1 41 40) (literal (at 1 41 40) (record { width = 1; bits = 1 })) (link I.Concat (name (at 1 51 50) (record { from_self = false; names = (codes "w" ∷ []); place = (at 1 51 50) })) no_links)) 4 1) (link I.Equal (chain (at 1 61 60) (name (at 1 61 60) (record { from_self = false; names = (codes "w" ∷ []); place = (at 1 61 60) })) (link I.ShiftRight (number (at 1 66 65) 1) no_links)) no_links)) (link I.Or (chain (at 1 70 69) (chain (at 1 70 69) (select (at 1 70 69) (call (at 1 70 69) G.Extend (tree (name (at 1 77 76) (record { from_self = false; names = (codes "w" ∷ []); place = (at 1 77 76) })) (tree (number (at 1 80 79) 2) no_trees))) 3 0) (link I.Equal (call (at 1 90 89) G.Resize (tree (name (at 1 97 96) (record { from_self = false; names = (codes "w" ∷ []); place = (at 1 97 96) })) (tree (number (at 1 100 99) 4) no_trees))) no_links)) (link I.And (chain (at 1 105 104) (call (at 1 105 104) G.Toint (tree (name (at 1 111 110) (record { from_self = false; names = (codes "w" ∷ []); place = (at 1 111 110) })) no_trees)) (link I.Less (chain (at 1 116 115) (call (at 1 116 115) G.Uwconst (tree (number (at 1 124 123) 3) (tree (number (at 1 127 126) 2) no_trees))) (link I.Plus (number (at 1 132 131) 1) no_links)) no_links)) no_links)) no_links))) ∷ []); tokens = 56 }) ∷ []); end = (at 1 133 132) }) 0 ≡ refused 16 (at 1 116 115)
unfolding grow look naming reaches at refused
example_39 = refl

-- `MODULE main VAR w : word[4]; INVARSPEC w[4:0] = w`
example_40 : first_refusal (record { modules = ((record { name = codes "main"; place = (at 1 8 7); parameters = ([]); elements = ((vars K.State ((record { name = codes "w"; place = (at 1 17 16); domain = (bits 4); domain_place = (at 1 21 20) }) ∷ [])) ∷ (spec None (chain (at 1 40 39) (select (at 1 40 39) (name (at 1 40 39) (record { from_self = false; names = (codes "w" ∷ []); place = (at 1 40 39) })) 4 0) (link I.Equal (name (at 1 49 48) (record { from_self = false; names = (codes "w" ∷ []); place = (at 1 49 48) })) no_links))) ∷ []); tokens = 17 }) ∷ []); end = (at 1 50 49) }) 0 ≡ refused 25 (at 1 40 39)
unfolding grow look naming reaches at refused
example_40 = refl

-- `MODULE main VAR w : word[70]; INVARSPEC w :: w = w`
example_41 : first_refusal (record { modules = ((record { name = codes "main"; place = (at 1 8 7); parameters = ([]); elements = ((vars K.State ((record { name = codes "w"; place = (at 1 17 16); domain = (bits 70); domain_place = (at 1 21 20) }) ∷ [])) ∷ (spec None (chain (at 1 41 40) (chain (at 1 41 40) (name (at 1 41 40) (record { from_self = false; names = (codes "w" ∷ []); place = (at 1 41 40) })) (link I.Concat (name (at 1 46 45) (record { from_self = false; names = (codes "w" ∷ []); place = (at 1 46 45) })) no_links)) (link I.Equal (name (at 1 50 49) (record { from_self = false; names = (codes "w" ∷ []); place = (at 1 50 49) })) no_links))) ∷ []); tokens = 14 }) ∷ []); end = (at 1 51 50) }) 0 ≡ refused 25 (at 1 41 40)
unfolding grow look naming reaches at refused
example_41 = refl

-- `MODULE main VAR w : word[63]; INVARSPEC toint(w) = 1`
example_42 : first_refusal (record { modules = ((record { name = codes "main"; place = (at 1 8 7); parameters = ([]); elements = ((vars K.State ((record { name = codes "w"; place = (at 1 17 16); domain = (bits 63); domain_place = (at 1 21 20) }) ∷ [])) ∷ (spec None (chain (at 1 41 40) (call (at 1 41 40) G.Toint (tree (name (at 1 47 46) (record { from_self = false; names = (codes "w" ∷ []); place = (at 1 47 46) })) no_trees)) (link I.Equal (number (at 1 52 51) 1) no_links))) ∷ []); tokens = 15 }) ∷ []); end = (at 1 53 52) }) 0 ≡ refused 17 (at 1 41 40)
unfolding grow look naming reaches at refused
example_42 = refl

-- `MODULE main VAR w : word[62]; INVARSPEC toint(w) = 1`
example_43 : first_refusal (record { modules = ((record { name = codes "main"; place = (at 1 8 7); parameters = ([]); elements = ((vars K.State ((record { name = codes "w"; place = (at 1 17 16); domain = (bits 62); domain_place = (at 1 21 20) }) ∷ [])) ∷ (spec None (chain (at 1 41 40) (call (at 1 41 40) G.Toint (tree (name (at 1 47 46) (record { from_self = false; names = (codes "w" ∷ []); place = (at 1 47 46) })) no_trees)) (link I.Equal (number (at 1 52 51) 1) no_links))) ∷ []); tokens = 15 }) ∷ []); end = (at 1 53 52) }) 0 ≡ None
unfolding grow look naming reaches at refused
example_43 = refl

-- P`INVARSPEC count(x, x, !x) > 1 & max(1, 2) = 2 & abs(-3) = 3 & min(1, -1) = -1`
example_44 : first_refusal (record { modules = ((record { name = codes "main"; place = (at 1 8 7); parameters = ([]); elements = ((vars K.State ((record { name = codes "x"; place = (at 1 17 16); domain = boolean; domain_place = (at 1 21 20) }) ∷ [])) ∷ (spec None (chain (at 1 40 39) (chain (at 1 40 39) (call (at 1 40 39) G.Count (tree (name (at 1 46 45) (record { from_self = false; names = (codes "x" ∷ []); place = (at 1 46 45) })) (tree (name (at 1 49 48) (record { from_self = false; names = (codes "x" ∷ []); place = (at 1 49 48) })) (tree (prefix (at 1 52 51) F.Not 1 (name (at 1 53 52) (record { from_self = false; names = (codes "x" ∷ []); place = (at 1 53 52) }))) no_trees)))) (link I.Greater (number (at 1 58 57) 1) no_links)) (link I.And (chain (at 1 62 61) (call (at 1 62 61) G.Max (tree (number (at 1 66 65) 1) (tree (number (at 1 69 68) 2) no_trees))) (link I.Equal (number (at 1 74 73) 2) no_links)) (link I.And (chain (at 1 78 77) (call (at 1 78 77) G.Abs (tree (prefix (at 1 82 81) F.Minus 1 (number (at 1 83 82) 3)) no_trees)) (link I.Equal (number (at 1 88 87) 3) no_links)) (link I.And (chain (at 1 92 91) (call (at 1 92 91) G.Min (tree (number (at 1 96 95) 1) (tree (prefix (at 1 99 98) F.Minus 1 (number (at 1 100 99) 1)) no_trees))) (link I.Equal (prefix (at 1 105 104) F.Minus 1 (number (at 1 106 105) 1)) no_links)) no_links))))) ∷ []); tokens = 45 }) ∷ []); end = (at 1 107 106) }) 0 ≡ None
unfolding grow look naming reaches at refused
example_44 = refl

-- P`INVARSPEC uwconst(x, 3) = 0ud3_0`
example_45 : first_refusal (record { modules = ((record { name = codes "main"; place = (at 1 8 7); parameters = ([]); elements = ((vars K.State ((record { name = codes "x"; place = (at 1 17 16); domain = boolean; domain_place = (at 1 21 20) }) ∷ [])) ∷ (spec None (chain (at 1 40 39) (call (at 1 40 39) G.Uwconst (tree (name (at 1 48 47) (record { from_self = false; names = (codes "x" ∷ []); place = (at 1 48 47) })) (tree (number (at 1 51 50) 3) no_trees))) (link I.Equal (literal (at 1 56 55) (record { width = 3; bits = 0 })) no_links))) ∷ []); tokens = 14 }) ∷ []); end = (at 1 62 61) }) 0 ≡ refused 25 (at 1 40 39)
unfolding grow look naming reaches at refused
example_45 = refl

-- P`INVARSPEC uwconst(3) = 0ud3_0`
example_46 : first_refusal (record { modules = ((record { name = codes "main"; place = (at 1 8 7); parameters = ([]); elements = ((vars K.State ((record { name = codes "x"; place = (at 1 17 16); domain = boolean; domain_place = (at 1 21 20) }) ∷ [])) ∷ (spec None (chain (at 1 40 39) (call (at 1 40 39) G.Uwconst (tree (number (at 1 48 47) 3) no_trees)) (link I.Equal (literal (at 1 53 52) (record { width = 3; bits = 0 })) no_links))) ∷ []); tokens = 12 }) ∷ []); end = (at 1 59 58) }) 0 ≡ refused 16 (at 1 40 39)
unfolding grow look naming reaches at refused
example_46 = refl

-- P`IVAR i : boolean; TRANS next(x & i)`
example_47 : first_refusal (record { modules = ((record { name = codes "main"; place = (at 1 8 7); parameters = ([]); elements = ((vars K.State ((record { name = codes "x"; place = (at 1 17 16); domain = boolean; domain_place = (at 1 21 20) }) ∷ [])) ∷ (vars K.Input ((record { name = codes "i"; place = (at 1 35 34); domain = boolean; domain_place = (at 1 39 38) }) ∷ [])) ∷ (trans (next (at 1 54 53) (chain (at 1 59 58) (name (at 1 59 58) (record { from_self = false; names = (codes "x" ∷ []); place = (at 1 59 58) })) (link I.And (name (at 1 63 62) (record { from_self = false; names = (codes "i" ∷ []); place = (at 1 63 62) })) no_links)))) ∷ []); tokens = 17 }) ∷ []); end = (at 1 65 64) }) 0 ≡ refused 18 (at 1 63 62)
unfolding grow look naming reaches at refused
example_47 = refl

-- P`IVAR i : boolean; TRANS next(x) = i INVARSPEC x`
example_48 : first_refusal (record { modules = ((record { name = codes "main"; place = (at 1 8 7); parameters = ([]); elements = ((vars K.State ((record { name = codes "x"; place = (at 1 17 16); domain = boolean; domain_place = (at 1 21 20) }) ∷ [])) ∷ (vars K.Input ((record { name = codes "i"; place = (at 1 35 34); domain = boolean; domain_place = (at 1 39 38) }) ∷ [])) ∷ (trans (chain (at 1 54 53) (next (at 1 54 53) (name (at 1 59 58) (record { from_self = false; names = (codes "x" ∷ []); place = (at 1 59 58) }))) (link I.Equal (name (at 1 64 63) (record { from_self = false; names = (codes "i" ∷ []); place = (at 1 64 63) })) no_links))) ∷ (spec None (name (at 1 76 75) (record { from_self = false; names = (codes "x" ∷ []); place = (at 1 76 75) }))) ∷ []); tokens = 19 }) ∷ []); end = (at 1 77 76) }) 0 ≡ None
unfolding grow look naming reaches at refused
example_48 = refl

-- P`TRANS next(next(x))`
example_49 : first_refusal (record { modules = ((record { name = codes "main"; place = (at 1 8 7); parameters = ([]); elements = ((vars K.State ((record { name = codes "x"; place = (at 1 17 16); domain = boolean; domain_place = (at 1 21 20) }) ∷ [])) ∷ (trans (next (at 1 36 35) (next (at 1 41 40) (name (at 1 46 45) (record { from_self = false; names = (codes "x" ∷ []); place = (at 1 46 45) }))))) ∷ []); tokens = 13 }) ∷ []); end = (at 1 49 48) }) 0 ≡ refused 19 (at 1 41 40)
unfolding grow look naming reaches at refused
example_49 = refl

-- `MODULE main VAR x : 0..3; p : m; ASSIGN next(p.y) := x; MODULE m VAR y : 0..3; ASSIGN next(y) := 1;`
example_50 : first_refusal (record { modules = ((record { name = codes "main"; place = (at 1 8 7); parameters = ([]); elements = ((vars K.State ((record { name = codes "x"; place = (at 1 17 16); domain = (between (pos 0) (pos 3)); domain_place = (at 1 21 20) }) ∷ (record { name = codes "p"; place = (at 1 27 26); domain = (instance (codes "m") no_trees); domain_place = (at 1 31 30) }) ∷ [])) ∷ (assigns ((record { when = W.Following; target = (record { from_self = false; names = (codes "p" ∷ codes "y" ∷ []); place = (at 1 46 45) }); body = (name (at 1 54 53) (record { from_self = false; names = (codes "x" ∷ []); place = (at 1 54 53) })) }) ∷ [])) ∷ []); tokens = 21 }) ∷ (record { name = codes "m"; place = (at 1 64 63); parameters = ([]); elements = ((vars K.State ((record { name = codes "y"; place = (at 1 70 69); domain = (between (pos 0) (pos 3)); domain_place = (at 1 74 73) }) ∷ [])) ∷ (assigns ((record { when = W.Following; target = (record { from_self = false; names = (codes "y" ∷ []); place = (at 1 92 91) }); body = (number (at 1 98 97) 1) }) ∷ [])) ∷ []); tokens = 15 }) ∷ []); end = (at 1 100 99) }) 0 ≡ refused 21 (at 1 92 91)
unfolding grow look naming reaches at refused
example_50 = refl

-- `MODULE main VAR x : 0..3; ASSIGN x := case x > 1 : {1, 2}; TRUE : 0..2 union 3; esac; INVARSPEC x in {0} union 1..2`
example_51 : first_refusal (record { modules = ((record { name = codes "main"; place = (at 1 8 7); parameters = ([]); elements = ((vars K.State ((record { name = codes "x"; place = (at 1 17 16); domain = (between (pos 0) (pos 3)); domain_place = (at 1 21 20) }) ∷ [])) ∷ (assigns ((record { when = W.Always; target = (record { from_self = false; names = (codes "x" ∷ []); place = (at 1 34 33) }); body = (cases (at 1 39 38) (branch (chain (at 1 44 43) (name (at 1 44 43) (record { from_self = false; names = (codes "x" ∷ []); place = (at 1 44 43) })) (link I.Greater (number (at 1 48 47) 1) no_links)) (set (at 1 52 51) (tree (number (at 1 53 52) 1) (tree (number (at 1 56 55) 2) no_trees))) (branch (truth (at 1 60 59) true) (chain (at 1 67 66) (range (at 1 67 66) (pos 0) (pos 2)) (link I.Union (number (at 1 78 77) 3) no_links)) no_branches))) }) ∷ [])) ∷ (spec None (chain (at 1 97 96) (name (at 1 97 96) (record { from_self = false; names = (codes "x" ∷ []); place = (at 1 97 96) })) (link I.Member (chain (at 1 102 101) (set (at 1 102 101) (tree (number (at 1 103 102) 0) no_trees)) (link I.Union (range (at 1 112 111) (pos 1) (pos 2)) no_links)) no_links))) ∷ []); tokens = 41 }) ∷ []); end = (at 1 116 115) }) 0 ≡ None
unfolding grow look naming reaches at refused
example_51 = refl

-- `MODULE main VAR s : {a, b}; INVARSPEC s = a & s != b MODULE unused VAR q : nothing;`
example_52 : first_refusal (record { modules = ((record { name = codes "main"; place = (at 1 8 7); parameters = ([]); elements = ((vars K.State ((record { name = codes "s"; place = (at 1 17 16); domain = (members ((M.Symbol (codes "a")) ∷ (M.Symbol (codes "b")) ∷ [])); domain_place = (at 1 21 20) }) ∷ [])) ∷ (spec None (chain (at 1 39 38) (chain (at 1 39 38) (name (at 1 39 38) (record { from_self = false; names = (codes "s" ∷ []); place = (at 1 39 38) })) (link I.Equal (name (at 1 43 42) (record { from_self = false; names = (codes "a" ∷ []); place = (at 1 43 42) })) no_links)) (link I.And (chain (at 1 47 46) (name (at 1 47 46) (record { from_self = false; names = (codes "s" ∷ []); place = (at 1 47 46) })) (link I.Unequal (name (at 1 52 51) (record { from_self = false; names = (codes "b" ∷ []); place = (at 1 52 51) })) no_links)) no_links))) ∷ []); tokens = 17 }) ∷ (record { name = codes "unused"; place = (at 1 61 60); parameters = ([]); elements = ((vars K.State ((record { name = codes "q"; place = (at 1 72 71); domain = (instance (codes "nothing") no_trees); domain_place = (at 1 76 75) }) ∷ [])) ∷ []); tokens = 5 }) ∷ []); end = (at 1 84 83) }) 0 ≡ None
unfolding grow look naming reaches at refused
example_52 = refl

-- `MODULE main VAR p : m; INVARSPEC self.p.b MODULE m VAR b : boolean;`
example_53 : first_refusal (record { modules = ((record { name = codes "main"; place = (at 1 8 7); parameters = ([]); elements = ((vars K.State ((record { name = codes "p"; place = (at 1 17 16); domain = (instance (codes "m") no_trees); domain_place = (at 1 21 20) }) ∷ [])) ∷ (spec None (name (at 1 34 33) (record { from_self = true; names = (codes "p" ∷ codes "b" ∷ []); place = (at 1 34 33) }))) ∷ []); tokens = 11 }) ∷ (record { name = codes "m"; place = (at 1 50 49); parameters = ([]); elements = ((vars K.State ((record { name = codes "b"; place = (at 1 56 55); domain = boolean; domain_place = (at 1 60 59) }) ∷ [])) ∷ []); tokens = 5 }) ∷ []); end = (at 1 68 67) }) 0 ≡ None
unfolding grow look naming reaches at refused
example_53 = refl

-- `MODULE main VAR x : 0..3; ASSIGN init(x) := 0; next(x) := x + 1; INVARSPEC x != 3`
verdict_0 : judged_smv (record { modules = ((record { name = codes "main"; place = (at 1 8 7); parameters = ([]); elements = ((vars K.State ((record { name = codes "x"; place = (at 1 17 16); domain = (between (pos 0) (pos 3)); domain_place = (at 1 21 20) }) ∷ [])) ∷ (assigns ((record { when = W.First; target = (record { from_self = false; names = (codes "x" ∷ []); place = (at 1 39 38) }); body = (number (at 1 45 44) 0) }) ∷ (record { when = W.Following; target = (record { from_self = false; names = (codes "x" ∷ []); place = (at 1 53 52) }); body = (chain (at 1 59 58) (name (at 1 59 58) (record { from_self = false; names = (codes "x" ∷ []); place = (at 1 59 58) })) (link I.Plus (number (at 1 63 62) 1) no_links)) }) ∷ [])) ∷ (spec None (chain (at 1 76 75) (name (at 1 76 75) (record { from_self = false; names = (codes "x" ∷ []); place = (at 1 76 75) })) (link I.Unequal (number (at 1 81 80) 3) no_links))) ∷ []); tokens = 28 }) ∷ []); end = (at 1 82 81) }) 0 ((λ x. (if bytes_eq x (codes "x") then Integer (pos 0) else no_value)) ∷ (λ x. (if bytes_eq x (codes "x") then Integer (pos 1) else no_value)) ∷ (λ x. (if bytes_eq x (codes "x") then Integer (pos 2) else no_value)) ∷ (λ x. (if bytes_eq x (codes "x") then Integer (pos 3) else no_value)) ∷ []) (no_values ∷ no_values ∷ no_values ∷ []) ≡ Yes
unfolding grow look reading at
verdict_0 = refl

-- `MODULE main VAR x : 0..3; ASSIGN init(x) := 0; next(x) := x + 1; INVARSPEC x != 3`
verdict_1 : judged_smv (record { modules = ((record { name = codes "main"; place = (at 1 8 7); parameters = ([]); elements = ((vars K.State ((record { name = codes "x"; place = (at 1 17 16); domain = (between (pos 0) (pos 3)); domain_place = (at 1 21 20) }) ∷ [])) ∷ (assigns ((record { when = W.First; target = (record { from_self = false; names = (codes "x" ∷ []); place = (at 1 39 38) }); body = (number (at 1 45 44) 0) }) ∷ (record { when = W.Following; target = (record { from_self = false; names = (codes "x" ∷ []); place = (at 1 53 52) }); body = (chain (at 1 59 58) (name (at 1 59 58) (record { from_self = false; names = (codes "x" ∷ []); place = (at 1 59 58) })) (link I.Plus (number (at 1 63 62) 1) no_links)) }) ∷ [])) ∷ (spec None (chain (at 1 76 75) (name (at 1 76 75) (record { from_self = false; names = (codes "x" ∷ []); place = (at 1 76 75) })) (link I.Unequal (number (at 1 81 80) 3) no_links))) ∷ []); tokens = 28 }) ∷ []); end = (at 1 82 81) }) 0 ((λ x. (if bytes_eq x (codes "x") then Integer (pos 0) else no_value)) ∷ (λ x. (if bytes_eq x (codes "x") then Integer (pos 1) else no_value)) ∷ (λ x. (if bytes_eq x (codes "x") then Integer (pos 2) else no_value)) ∷ (λ x. (if bytes_eq x (codes "x") then Integer (pos 3) else no_value)) ∷ (λ x. (if bytes_eq x (codes "x") then Integer (pos 4) else no_value)) ∷ []) (no_values ∷ no_values ∷ no_values ∷ no_values ∷ []) ≡ No 4 ValueOutside
unfolding grow look reading at
verdict_1 = refl

-- `MODULE main VAR x : 0..3; ASSIGN init(x) := 0; next(x) := x + 1; INVARSPEC x != 3`
verdict_2 : judged_smv (record { modules = ((record { name = codes "main"; place = (at 1 8 7); parameters = ([]); elements = ((vars K.State ((record { name = codes "x"; place = (at 1 17 16); domain = (between (pos 0) (pos 3)); domain_place = (at 1 21 20) }) ∷ [])) ∷ (assigns ((record { when = W.First; target = (record { from_self = false; names = (codes "x" ∷ []); place = (at 1 39 38) }); body = (number (at 1 45 44) 0) }) ∷ (record { when = W.Following; target = (record { from_self = false; names = (codes "x" ∷ []); place = (at 1 53 52) }); body = (chain (at 1 59 58) (name (at 1 59 58) (record { from_self = false; names = (codes "x" ∷ []); place = (at 1 59 58) })) (link I.Plus (number (at 1 63 62) 1) no_links)) }) ∷ [])) ∷ (spec None (chain (at 1 76 75) (name (at 1 76 75) (record { from_self = false; names = (codes "x" ∷ []); place = (at 1 76 75) })) (link I.Unequal (number (at 1 81 80) 3) no_links))) ∷ []); tokens = 28 }) ∷ []); end = (at 1 82 81) }) 0 ((λ x. (if bytes_eq x (codes "x") then Integer (pos 0) else no_value)) ∷ (λ x. (if bytes_eq x (codes "x") then Integer (pos 0) else no_value)) ∷ []) (no_values ∷ []) ≡ No 1 TransFails
unfolding grow look reading at
verdict_2 = refl

-- `MODULE main VAR x : 0..3; ASSIGN init(x) := 0; next(x) := x + 1; INVARSPEC x != 3`
verdict_3 : judged_smv (record { modules = ((record { name = codes "main"; place = (at 1 8 7); parameters = ([]); elements = ((vars K.State ((record { name = codes "x"; place = (at 1 17 16); domain = (between (pos 0) (pos 3)); domain_place = (at 1 21 20) }) ∷ [])) ∷ (assigns ((record { when = W.First; target = (record { from_self = false; names = (codes "x" ∷ []); place = (at 1 39 38) }); body = (number (at 1 45 44) 0) }) ∷ (record { when = W.Following; target = (record { from_self = false; names = (codes "x" ∷ []); place = (at 1 53 52) }); body = (chain (at 1 59 58) (name (at 1 59 58) (record { from_self = false; names = (codes "x" ∷ []); place = (at 1 59 58) })) (link I.Plus (number (at 1 63 62) 1) no_links)) }) ∷ [])) ∷ (spec None (chain (at 1 76 75) (name (at 1 76 75) (record { from_self = false; names = (codes "x" ∷ []); place = (at 1 76 75) })) (link I.Unequal (number (at 1 81 80) 3) no_links))) ∷ []); tokens = 28 }) ∷ []); end = (at 1 82 81) }) 0 ((λ x. (if bytes_eq x (codes "x") then Integer (pos 1) else no_value)) ∷ []) [] ≡ No 0 InitFails
unfolding grow look reading at
verdict_3 = refl

-- `MODULE main VAR x : 0..3; ASSIGN init(x) := 0; next(x) := x + 1; INVARSPEC x != 3`
verdict_4 : judged_smv (record { modules = ((record { name = codes "main"; place = (at 1 8 7); parameters = ([]); elements = ((vars K.State ((record { name = codes "x"; place = (at 1 17 16); domain = (between (pos 0) (pos 3)); domain_place = (at 1 21 20) }) ∷ [])) ∷ (assigns ((record { when = W.First; target = (record { from_self = false; names = (codes "x" ∷ []); place = (at 1 39 38) }); body = (number (at 1 45 44) 0) }) ∷ (record { when = W.Following; target = (record { from_self = false; names = (codes "x" ∷ []); place = (at 1 53 52) }); body = (chain (at 1 59 58) (name (at 1 59 58) (record { from_self = false; names = (codes "x" ∷ []); place = (at 1 59 58) })) (link I.Plus (number (at 1 63 62) 1) no_links)) }) ∷ [])) ∷ (spec None (chain (at 1 76 75) (name (at 1 76 75) (record { from_self = false; names = (codes "x" ∷ []); place = (at 1 76 75) })) (link I.Unequal (number (at 1 81 80) 3) no_links))) ∷ []); tokens = 28 }) ∷ []); end = (at 1 82 81) }) 0 ((λ x. (if bytes_eq x (codes "x") then Integer (pos 0) else no_value)) ∷ []) [] ≡ No 0 NotBroken
unfolding grow look reading at
verdict_4 = refl

-- `MODULE main VAR x : boolean; IVAR i : boolean; INIT !x TRANS next(x) = i INVARSPEC !x`
verdict_5 : judged_smv (record { modules = ((record { name = codes "main"; place = (at 1 8 7); parameters = ([]); elements = ((vars K.State ((record { name = codes "x"; place = (at 1 17 16); domain = boolean; domain_place = (at 1 21 20) }) ∷ [])) ∷ (vars K.Input ((record { name = codes "i"; place = (at 1 35 34); domain = boolean; domain_place = (at 1 39 38) }) ∷ [])) ∷ (init (prefix (at 1 53 52) F.Not 1 (name (at 1 54 53) (record { from_self = false; names = (codes "x" ∷ []); place = (at 1 54 53) })))) ∷ (trans (chain (at 1 62 61) (next (at 1 62 61) (name (at 1 67 66) (record { from_self = false; names = (codes "x" ∷ []); place = (at 1 67 66) }))) (link I.Equal (name (at 1 72 71) (record { from_self = false; names = (codes "i" ∷ []); place = (at 1 72 71) })) no_links))) ∷ (spec None (prefix (at 1 84 83) F.Not 1 (name (at 1 85 84) (record { from_self = false; names = (codes "x" ∷ []); place = (at 1 85 84) })))) ∷ []); tokens = 23 }) ∷ []); end = (at 1 86 85) }) 0 ((λ x. (if bytes_eq x (codes "x") then Truth false else no_value)) ∷ (λ x. (if bytes_eq x (codes "x") then Truth true else no_value)) ∷ []) ((λ x. (if bytes_eq x (codes "i") then Truth true else no_value)) ∷ []) ≡ Yes
unfolding grow look reading at
verdict_5 = refl

-- `MODULE main VAR x : boolean; IVAR i : boolean; INIT !x TRANS next(x) = i INVARSPEC !x`
verdict_6 : judged_smv (record { modules = ((record { name = codes "main"; place = (at 1 8 7); parameters = ([]); elements = ((vars K.State ((record { name = codes "x"; place = (at 1 17 16); domain = boolean; domain_place = (at 1 21 20) }) ∷ [])) ∷ (vars K.Input ((record { name = codes "i"; place = (at 1 35 34); domain = boolean; domain_place = (at 1 39 38) }) ∷ [])) ∷ (init (prefix (at 1 53 52) F.Not 1 (name (at 1 54 53) (record { from_self = false; names = (codes "x" ∷ []); place = (at 1 54 53) })))) ∷ (trans (chain (at 1 62 61) (next (at 1 62 61) (name (at 1 67 66) (record { from_self = false; names = (codes "x" ∷ []); place = (at 1 67 66) }))) (link I.Equal (name (at 1 72 71) (record { from_self = false; names = (codes "i" ∷ []); place = (at 1 72 71) })) no_links))) ∷ (spec None (prefix (at 1 84 83) F.Not 1 (name (at 1 85 84) (record { from_self = false; names = (codes "x" ∷ []); place = (at 1 85 84) })))) ∷ []); tokens = 23 }) ∷ []); end = (at 1 86 85) }) 0 ((λ x. (if bytes_eq x (codes "x") then Truth false else no_value)) ∷ (λ x. (if bytes_eq x (codes "x") then Truth true else no_value)) ∷ []) ((λ x. (if bytes_eq x (codes "i") then Truth false else no_value)) ∷ []) ≡ No 1 TransFails
unfolding grow look reading at
verdict_6 = refl

-- `MODULE main VAR x : -7..7; y : -7..7; INIT x = -7 / 2 & y = -7 mod 2 INVARSPEC x + y != -4`
verdict_7 : judged_smv (record { modules = ((record { name = codes "main"; place = (at 1 8 7); parameters = ([]); elements = ((vars K.State ((record { name = codes "x"; place = (at 1 17 16); domain = (between (negsuc 6) (pos 7)); domain_place = (at 1 21 20) }) ∷ (record { name = codes "y"; place = (at 1 28 27); domain = (between (negsuc 6) (pos 7)); domain_place = (at 1 32 31) }) ∷ [])) ∷ (init (chain (at 1 44 43) (chain (at 1 44 43) (name (at 1 44 43) (record { from_self = false; names = (codes "x" ∷ []); place = (at 1 44 43) })) (link I.Equal (chain (at 1 48 47) (prefix (at 1 48 47) F.Minus 1 (number (at 1 49 48) 7)) (link I.Divide (number (at 1 53 52) 2) no_links)) no_links)) (link I.And (chain (at 1 57 56) (name (at 1 57 56) (record { from_self = false; names = (codes "y" ∷ []); place = (at 1 57 56) })) (link I.Equal (chain (at 1 61 60) (prefix (at 1 61 60) F.Minus 1 (number (at 1 62 61) 7)) (link I.Mod (number (at 1 68 67) 2) no_links)) no_links)) no_links))) ∷ (spec None (chain (at 1 80 79) (chain (at 1 80 79) (name (at 1 80 79) (record { from_self = false; names = (codes "x" ∷ []); place = (at 1 80 79) })) (link I.Plus (name (at 1 84 83) (record { from_self = false; names = (codes "y" ∷ []); place = (at 1 84 83) })) no_links)) (link I.Unequal (prefix (at 1 89 88) F.Minus 1 (number (at 1 90 89) 4)) no_links))) ∷ []); tokens = 36 }) ∷ []); end = (at 1 91 90) }) 0 ((λ x. (if bytes_eq x (codes "y") then Integer (negsuc 0) else (if bytes_eq x (codes "x") then Integer (negsuc 2) else no_value))) ∷ []) [] ≡ Yes
unfolding grow look reading at
verdict_7 = refl

-- `MODULE main VAR x : -7..7; y : -7..7; INIT x = -7 / 2 & y = -7 mod 2 INVARSPEC x + y != -4`
verdict_8 : judged_smv (record { modules = ((record { name = codes "main"; place = (at 1 8 7); parameters = ([]); elements = ((vars K.State ((record { name = codes "x"; place = (at 1 17 16); domain = (between (negsuc 6) (pos 7)); domain_place = (at 1 21 20) }) ∷ (record { name = codes "y"; place = (at 1 28 27); domain = (between (negsuc 6) (pos 7)); domain_place = (at 1 32 31) }) ∷ [])) ∷ (init (chain (at 1 44 43) (chain (at 1 44 43) (name (at 1 44 43) (record { from_self = false; names = (codes "x" ∷ []); place = (at 1 44 43) })) (link I.Equal (chain (at 1 48 47) (prefix (at 1 48 47) F.Minus 1 (number (at 1 49 48) 7)) (link I.Divide (number (at 1 53 52) 2) no_links)) no_links)) (link I.And (chain (at 1 57 56) (name (at 1 57 56) (record { from_self = false; names = (codes "y" ∷ []); place = (at 1 57 56) })) (link I.Equal (chain (at 1 61 60) (prefix (at 1 61 60) F.Minus 1 (number (at 1 62 61) 7)) (link I.Mod (number (at 1 68 67) 2) no_links)) no_links)) no_links))) ∷ (spec None (chain (at 1 80 79) (chain (at 1 80 79) (name (at 1 80 79) (record { from_self = false; names = (codes "x" ∷ []); place = (at 1 80 79) })) (link I.Plus (name (at 1 84 83) (record { from_self = false; names = (codes "y" ∷ []); place = (at 1 84 83) })) no_links)) (link I.Unequal (prefix (at 1 89 88) F.Minus 1 (number (at 1 90 89) 4)) no_links))) ∷ []); tokens = 36 }) ∷ []); end = (at 1 91 90) }) 0 ((λ x. (if bytes_eq x (codes "y") then Integer (pos 1) else (if bytes_eq x (codes "x") then Integer (negsuc 3) else no_value))) ∷ []) [] ≡ No 0 InitFails
unfolding grow look reading at
verdict_8 = refl

-- `MODULE main VAR w : word[64]; INIT w = 0ud64_18446744073709551615 TRANS next(w) = w + 0ud64_1 INVARSPEC w != 0ud64_0`
verdict_9 : judged_smv (record { modules = ((record { name = codes "main"; place = (at 1 8 7); parameters = ([]); elements = ((vars K.State ((record { name = codes "w"; place = (at 1 17 16); domain = (bits 64); domain_place = (at 1 21 20) }) ∷ [])) ∷ (init (chain (at 1 36 35) (name (at 1 36 35) (record { from_self = false; names = (codes "w" ∷ []); place = (at 1 36 35) })) (link I.Equal (literal (at 1 40 39) (record { width = 64; bits = 18446744073709551615 })) no_links))) ∷ (trans (chain (at 1 73 72) (next (at 1 73 72) (name (at 1 78 77) (record { from_self = false; names = (codes "w" ∷ []); place = (at 1 78 77) }))) (link I.Equal (chain (at 1 83 82) (name (at 1 83 82) (record { from_self = false; names = (codes "w" ∷ []); place = (at 1 83 82) })) (link I.Plus (literal (at 1 87 86) (record { width = 64; bits = 1 })) no_links)) no_links))) ∷ (spec None (chain (at 1 105 104) (name (at 1 105 104) (record { from_self = false; names = (codes "w" ∷ []); place = (at 1 105 104) })) (link I.Unequal (literal (at 1 110 109) (record { width = 64; bits = 0 })) no_links))) ∷ []); tokens = 25 }) ∷ []); end = (at 1 117 116) }) 0 ((λ x. (if bytes_eq x (codes "w") then Bits (record { width = 64; bits = 18446744073709551615 }) else no_value)) ∷ (λ x. (if bytes_eq x (codes "w") then Bits (record { width = 64; bits = 0 }) else no_value)) ∷ []) (no_values ∷ []) ≡ Yes
unfolding grow look reading at
verdict_9 = refl

-- `MODULE main VAR a : boolean; b : boolean; p : pick(a, b); q : pick(b, p.out); INVARSPEC p.out | !q.out MODULE pick(left, right) DEFINE out := left & !right;`
verdict_10 : judged_smv (record { modules = ((record { name = codes "main"; place = (at 1 8 7); parameters = ([]); elements = ((vars K.State ((record { name = codes "a"; place = (at 1 17 16); domain = boolean; domain_place = (at 1 21 20) }) ∷ (record { name = codes "b"; place = (at 1 30 29); domain = boolean; domain_place = (at 1 34 33) }) ∷ (record { name = codes "p"; place = (at 1 43 42); domain = (instance (codes "pick") (tree (name (at 1 52 51) (record { from_self = false; names = (codes "a" ∷ []); place = (at 1 52 51) })) (tree (name (at 1 55 54) (record { from_self = false; names = (codes "b" ∷ []); place = (at 1 55 54) })) no_trees))); domain_place = (at 1 47 46) }) ∷ (record { name = codes "q"; place = (at 1 59 58); domain = (instance (codes "pick") (tree (name (at 1 68 67) (record { from_self = false; names = (codes "b" ∷ []); place = (at 1 68 67) })) (tree (name (at 1 71 70) (record { from_self = false; names = (codes "p" ∷ codes "out" ∷ []); place = (at 1 71 70) })) no_trees))); domain_place = (at 1 63 62) }) ∷ [])) ∷ (spec None (chain (at 1 89 88) (name (at 1 89 88) (record { from_self = false; names = (codes "p" ∷ codes "out" ∷ []); place = (at 1 89 88) })) (link I.Or (prefix (at 1 97 96) F.Not 1 (name (at 1 98 97) (record { from_self = false; names = (codes "q" ∷ codes "out" ∷ []); place = (at 1 98 97) }))) no_links))) ∷ []); tokens = 38 }) ∷ (record { name = codes "pick"; place = (at 1 111 110); parameters = ((record { name = codes "left"; place = (at 1 116 115) }) ∷ (record { name = codes "right"; place = (at 1 122 121) }) ∷ []); elements = ((defines ((record { name = codes "out"; place = (at 1 136 135); body = (chain (at 1 143 142) (name (at 1 143 142) (record { from_self = false; names = (codes "left" ∷ []); place = (at 1 143 142) })) (link I.And (prefix (at 1 150 149) F.Not 1 (name (at 1 151 150) (record { from_self = false; names = (codes "right" ∷ []); place = (at 1 151 150) }))) no_links)) }) ∷ [])) ∷ []); tokens = 8 }) ∷ []); end = (at 1 157 156) }) 0 ((λ x. (if bytes_eq x (codes "b") then Truth true else (if bytes_eq x (codes "a") then Truth false else no_value))) ∷ []) [] ≡ Yes
unfolding grow look reading at
verdict_10 = refl

-- `MODULE main VAR s : {a, b, c}; INVARSPEC s in {a, b}`
verdict_11 : judged_smv (record { modules = ((record { name = codes "main"; place = (at 1 8 7); parameters = ([]); elements = ((vars K.State ((record { name = codes "s"; place = (at 1 17 16); domain = (members ((M.Symbol (codes "a")) ∷ (M.Symbol (codes "b")) ∷ (M.Symbol (codes "c")) ∷ [])); domain_place = (at 1 21 20) }) ∷ [])) ∷ (spec None (chain (at 1 42 41) (name (at 1 42 41) (record { from_self = false; names = (codes "s" ∷ []); place = (at 1 42 41) })) (link I.Member (set (at 1 47 46) (tree (name (at 1 48 47) (record { from_self = false; names = (codes "a" ∷ []); place = (at 1 48 47) })) (tree (name (at 1 51 50) (record { from_self = false; names = (codes "b" ∷ []); place = (at 1 51 50) })) no_trees))) no_links))) ∷ []); tokens = 19 }) ∷ []); end = (at 1 53 52) }) 0 ((λ x. (if bytes_eq x (codes "s") then Symbol (codes "c") else no_value)) ∷ []) [] ≡ Yes
unfolding grow look reading at
verdict_11 = refl

-- `MODULE main VAR s : {a, b, c}; INVARSPEC s in {a, b}`
verdict_12 : judged_smv (record { modules = ((record { name = codes "main"; place = (at 1 8 7); parameters = ([]); elements = ((vars K.State ((record { name = codes "s"; place = (at 1 17 16); domain = (members ((M.Symbol (codes "a")) ∷ (M.Symbol (codes "b")) ∷ (M.Symbol (codes "c")) ∷ [])); domain_place = (at 1 21 20) }) ∷ [])) ∷ (spec None (chain (at 1 42 41) (name (at 1 42 41) (record { from_self = false; names = (codes "s" ∷ []); place = (at 1 42 41) })) (link I.Member (set (at 1 47 46) (tree (name (at 1 48 47) (record { from_self = false; names = (codes "a" ∷ []); place = (at 1 48 47) })) (tree (name (at 1 51 50) (record { from_self = false; names = (codes "b" ∷ []); place = (at 1 51 50) })) no_trees))) no_links))) ∷ []); tokens = 19 }) ∷ []); end = (at 1 53 52) }) 0 ((λ x. (if bytes_eq x (codes "s") then Symbol (codes "b") else no_value)) ∷ []) [] ≡ No 0 NotBroken
unfolding grow look reading at
verdict_12 = refl

-- `MODULE main VAR x : boolean; INIT TRUE TRANS FALSE INVARSPEC !x`
verdict_13 : judged_smv (record { modules = ((record { name = codes "main"; place = (at 1 8 7); parameters = ([]); elements = ((vars K.State ((record { name = codes "x"; place = (at 1 17 16); domain = boolean; domain_place = (at 1 21 20) }) ∷ [])) ∷ (init (truth (at 1 35 34) true)) ∷ (trans (truth (at 1 46 45) false)) ∷ (spec None (prefix (at 1 62 61) F.Not 1 (name (at 1 63 62) (record { from_self = false; names = (codes "x" ∷ []); place = (at 1 63 62) })))) ∷ []); tokens = 12 }) ∷ []); end = (at 1 64 63) }) 0 ((λ x. (if bytes_eq x (codes "x") then Truth true else no_value)) ∷ []) [] ≡ Yes
unfolding grow look reading at
verdict_13 = refl

-- `MODULE main VAR x : boolean; INIT TRUE TRANS FALSE INVARSPEC !x`
verdict_14 : judged_smv (record { modules = ((record { name = codes "main"; place = (at 1 8 7); parameters = ([]); elements = ((vars K.State ((record { name = codes "x"; place = (at 1 17 16); domain = boolean; domain_place = (at 1 21 20) }) ∷ [])) ∷ (init (truth (at 1 35 34) true)) ∷ (trans (truth (at 1 46 45) false)) ∷ (spec None (prefix (at 1 62 61) F.Not 1 (name (at 1 63 62) (record { from_self = false; names = (codes "x" ∷ []); place = (at 1 63 62) })))) ∷ []); tokens = 12 }) ∷ []); end = (at 1 64 63) }) 0 ((λ x. (if bytes_eq x (codes "x") then Truth true else no_value)) ∷ (λ x. (if bytes_eq x (codes "x") then Truth true else no_value)) ∷ []) (no_values ∷ []) ≡ No 1 TransFails
unfolding grow look reading at
verdict_14 = refl

-- `MODULE main VAR x : boolean; INIT TRUE TRANS FALSE INVARSPEC !x`, with one label too many
verdict_15 : judged_smv (record { modules = ((record { name = codes "main"; place = (at 1 8 7); parameters = ([]); elements = ((vars K.State ((record { name = codes "x"; place = (at 1 17 16); domain = boolean; domain_place = (at 1 21 20) }) ∷ [])) ∷ (init (truth (at 1 35 34) true)) ∷ (trans (truth (at 1 46 45) false)) ∷ (spec None (prefix (at 1 62 61) F.Not 1 (name (at 1 63 62) (record { from_self = false; names = (codes "x" ∷ []); place = (at 1 63 62) })))) ∷ []); tokens = 12 }) ∷ []); end = (at 1 64 63) }) 0 ((λ x. (if bytes_eq x (codes "x") then Truth true else no_value)) ∷ []) (no_values ∷ []) ≡ No 1 ValueOutside
unfolding grow look reading at
verdict_15 = refl

-- P`VAR y…y : boolean;`, a name of 1,001 letters
example_54 : first_refusal (record { modules = ((record { name = codes "main"; place = (at 1 8 7); parameters = ([]); elements = ((vars K.State ((record { name = codes "x"; place = (at 1 17 16); domain = boolean; domain_place = (at 1 21 20) }) ∷ [])) ∷ (vars K.State ((record { name = replicate 1001 121; place = (at 1 34 33); domain = boolean; domain_place = (at 1 1038 1037) }) ∷ [])) ∷ []); tokens = 10 }) ∷ []); end = (at 1 1046 1045) }) 0 ≡ refused 28 (at 1 34 33)
unfolding grow look naming reaches at refused
example_54 = refl
