-- The names that a `let` binds mean its values, whatever is bound around.
use Rattle.std.proofs.Common.{◌≡◌, ℕ, suc, ◌+◌, false, cond, List, [], ◌∷◌, ◌++◌, length, Option, Some, None, option_map, refl, sym, ap, ◌∙◌, arith, append_assoc, inl, inr}
use Rattle.std.specs.Prelude.{codes}
use Rattle.std.specs.Str.{bytes_eq}
use Rattle.std.proofs.lemmas.List.{length-append}
use Rattle.moxi_terms.specs.declared.data.Sort.{Sort}
use Rattle.moxi_terms.specs.declared.names.Meaning.TheVariants as meaning
use Rattle.moxi_terms.specs.Names.{or_else, function_names}
use Rattle.moxi_term_reading.specs.declared.locals.Local.{Local}
use Rattle.moxi_term_reading.specs.Finding.{Found, first_of, last_of}
use Rattle.moxi_terms.specs.Meanings.{value_named, bare_call, call_of}
use Rattle.name_maps.specs.Names.{place_of}
use Rattle.moxi_term_reading.proofs.StackLaws.{last_append}
use Rattle.moxi_term_reading.specs.Reading.{Context, meaning_of, names_of}
use Rattle.moxi_terms.specs.Tree.{bound}
use Rattle.moxi_term_print.specs.Terms.{name_at}
use Rattle.moxi_term_print.specs.WellScoped.{IsWellScoped, bound_locals}
use Rattle.smv_script.specs.Operators.{t_alone, t_and_u}
use Rattle.smv_script_laws.specs.LetNames.{IsLetName, AreLetNames}

pub lets_append : (xs ys : List Local) → AreLetNames xs → AreLetNames ys → AreLetNames (xs ++ ys)
lets_append [] ys h k = k
lets_append (x ∷ xs) ys h k = (h.0, lets_append xs ys h.1 k)

-- what is bound to one name, and to two
abbrev pub one_bound : Sort → List Local
one_bound s = bound_locals t_alone (s ∷ [])

abbrev pub two_bound : Sort → Sort → List Local
two_bound s r = bound_locals t_and_u (s ∷ r ∷ [])

pub one_let : (bounds : List Local) (s : Sort) → AreLetNames bounds → AreLetNames (bounds ++ one_bound s)
one_let bounds s h = lets_append bounds (one_bound s) h (inl refl, tt)

pub one_long : (bounds : List Local) (s : Sort) → length (bounds ++ one_bound s) ≡ length bounds + 1
one_long bounds s = length-append bounds (one_bound s)

name_behind : (bounds : List Local) (x : Local) (more : List Local) → name_at (names_of (bounds ++ x ∷ more)) (length bounds) ≡ x.name
name_behind [] x more = refl
name_behind (b ∷ bounds) x more = name_behind bounds x more

bound_found : (c : Context) (bounds : List Local) (name : List ℕ) (n : ℕ) (s : Sort) → last_of 0 bounds name ≡ Some (let f : Found = record { number = n; sort = Some s } in f)
    → meaning_of c bounds name ≡ Some (meaning.Bound n (Some s))
bound_found c bounds name n s e = ap (λ (o : Option Found). or_else (option_map (λ (f : Found). meaning.Bound f.number f.sort) o) (or_else (option_map (λ (f : Found). meaning.Variable f.number f.sort) (first_of 0 c.variables name)) (or_else (value_named c.scope name) (call_of bare_call c.scope.functions (place_of (function_names c.scope) name))))) e

-- the last of one name
one_last : (bounds : List Local) (s : Sort) → last_of 0 (bounds ++ one_bound s) (codes "t") ≡ Some (let f : Found = record { number = length bounds; sort = Some s } in f)
one_last bounds s =
    last_append 0 bounds (record { name = codes "t"; sort = Some s }) (codes "t")
    ∙ ap (λ n. Some (let f : Found = record { number = n; sort = Some s } in f)) (let e : 0 + length bounds ≡ length bounds = omega arith in e)

pub one_stands : (c : Context) (bounds : List Local) (s : Sort) → IsWellScoped c (bounds ++ one_bound s) (bound (length bounds)) s
one_stands c bounds s =
    ap (meaning_of c (bounds ++ one_bound s)) (name_behind bounds (record { name = codes "t"; sort = Some s }) [])
    ∙ bound_found c (bounds ++ one_bound s) (codes "t") (length bounds) s (one_last bounds s)

two_apart : (bounds : List Local) (s r : Sort) → bounds ++ two_bound s r ≡ (bounds ++ one_bound s) ++ (record { name = codes "u"; sort = Some r }) ∷ []
two_apart bounds s r = sym (append_assoc bounds (one_bound s) (record { name = codes "u"; sort = Some r } ∷ []))

pub first_stands : (c : Context) (bounds : List Local) (s r : Sort) → IsWellScoped c (bounds ++ two_bound s r) (bound (length bounds)) s
first_stands c bounds s r =
    ap (meaning_of c (bounds ++ two_bound s r)) (name_behind bounds (record { name = codes "t"; sort = Some s }) (record { name = codes "u"; sort = Some r } ∷ []))
    ∙ bound_found c (bounds ++ two_bound s r) (codes "t") (length bounds) s
    (ap (λ ls. last_of 0 ls (codes "t")) (two_apart bounds s r) ∙ last_append 0 (bounds ++ one_bound s) (record { name = codes "u"; sort = Some r }) (codes "t") ∙ one_last bounds s)

pub second_stands : (c : Context) (bounds : List Local) (s r : Sort) → IsWellScoped c (bounds ++ two_bound s r) (bound (length bounds + 1)) r
second_stands c bounds s r =
    let x : Local = record { name = codes "u"; sort = Some r } in
    let l = one_long bounds s in
    let n : 0 + length (bounds ++ one_bound s) ≡ length bounds + 1 = omega (arith, l) in
    ap (meaning_of c (bounds ++ two_bound s r))
    (ap (λ ls. name_at (names_of ls) (length bounds + 1)) (two_apart bounds s r) ∙ ap (λ k. name_at (names_of ((bounds ++ one_bound s) ++ x ∷ [])) k) (sym l) ∙ name_behind (bounds ++ one_bound s) x [])
    ∙ bound_found c (bounds ++ two_bound s r) (codes "u") (length bounds + 1) r
    (ap (λ ls. last_of 0 ls (codes "u")) (two_apart bounds s r) ∙ last_append 0 (bounds ++ one_bound s) x (codes "u")
    ∙ ap (λ k. Some (let f : Found = record { number = k; sort = Some r } in f)) n)

-- no other name is bound
pub no_last : (n : ℕ) (bounds : List Local) → AreLetNames bounds → (name : List ℕ) → bytes_eq name (codes "t") ≡ false → bytes_eq name (codes "u") ≡ false → last_of n bounds name ≡ None
no_last n [] h name t u = refl
no_last n (x ∷ bounds) h name t u =
    ap (λ (o : Option Found). or_else o (cond (bytes_eq name x.name) (Some (let f : Found = record { number = n; sort = x.sort } in f)) None)) (no_last (suc n) bounds h.1 name t u)
    ∙ ap (λ b. cond b (Some (let f : Found = record { number = n; sort = x.sort } in f)) None) (other h.0)
  where
    other : IsLetName x.name → bytes_eq name x.name ≡ false
    other (inl e) = ap (bytes_eq name) e ∙ t
    other (inr e) = ap (bytes_eq name) e ∙ u

pub past_lets : (c : Context) (bounds : List Local) → AreLetNames bounds → (name : List ℕ) → bytes_eq name (codes "t") ≡ false → bytes_eq name (codes "u") ≡ false → meaning_of c bounds name ≡ meaning_of c [] name
past_lets c bounds h name t u = ap (λ (o : Option Found). or_else (option_map (λ (f : Found). meaning.Bound f.number f.sort) o) (or_else (option_map (λ (f : Found). meaning.Variable f.number f.sort) (first_of 0 c.variables name)) (or_else (value_named c.scope name) (call_of bare_call c.scope.functions (place_of (function_names c.scope) name))))) (no_last 0 bounds h name t u)
