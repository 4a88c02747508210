-- The terms of a script can appear in it.
use Rattle.std.proofs.Common.{◌≡◌, ◌≢◌, ℕ, zero, suc, ◌+◌, ◌-◌, ◌≤◌, Bool, true, false, cond, if◌then◌else◌, List, [], ◌∷◌, ◌++◌, take, drop, Option, Some, None, option_map, refl, sym, ap, ◌∙◌, subst, arith}
use Rattle.std.specs.Prelude.{slice_get, codes}
use Rattle.std.specs.List.{AllByRecursion}
use Rattle.std.specs.Str.{bytes_eq}
use Rattle.std.proofs.lemmas.List.{take-append-drop}
use Rattle.std.proofs.lemmas.Option.{same_Some, none-some}
use Rattle.std.proofs.lemmas.Slice.Eq.{bytes_eq-Decides}
use Rattle.std.proofs.Math.Nat.{one-le-pow}
use Rattle.word_core.specs.declared.word.TheConstants.{WIDEST}
use Rattle.word_core.specs.Table.{binary_width, unary_width}
use Rattle.btor_tree.specs.declared.args.Arg.{Arg}
use Rattle.btor_tree.specs.declared.lines.Line.{Line}
use Rattle.btor_tree.specs.declared.lines.LineOp.{LineOp}
use Rattle.btor_tree.specs.declared.lines.LineOp.TheVariants as line
use Rattle.btor_tree.specs.Fits.{IsWellFormed, OpFits, OnOne, OnTwo, GivesValue, has_word, is_init, is_next, is_bad, is_constraint, line_width, sort_at, width_at}
use Rattle.btor_tree.proofs.Paths.{width_is}
use Rattle.std.specs.Option.{option_map_or}
use Rattle.btor_tree.proofs.Widths.{line_at, one_lt, sort_front, width_front, width_small, sort_small}
use Rattle.name_maps.specs.Names.{place_of}
use Rattle.moxi_terms.specs.declared.data.Sort.{Sort}
use Rattle.moxi_terms.specs.declared.data.Sort.TheVariants.{Truth, Bits}
use Rattle.moxi_terms.specs.declared.data.Datum.TheVariants as datum
use Rattle.moxi_terms.specs.declared.data.Primes.{Primes}
use Rattle.moxi_terms.specs.declared.data.Primes.TheVariants.{Allowed, Refused}
use Rattle.moxi_terms.specs.declared.names.Meaning.TheVariants as meaning
use Rattle.moxi_terms.specs.declared.term.Variable.{Variable}
use Rattle.moxi_terms.specs.Words.{operators, indexed_operators}
use Rattle.moxi_terms.specs.Names.{no_scope, or_else, function_names, is_term_name}
use Rattle.moxi_terms.specs.Meanings.{value_named, bare_call, call_of}
use Rattle.moxi_terms.specs.Tree.{Tree, constant, variable, trees_of}
use Rattle.moxi_term_reading.specs.declared.locals.Local.{Local}
use Rattle.moxi_term_reading.specs.Finding.{Found, first_of}
use Rattle.moxi_term_reading.specs.Reading.{Context, meaning_of, names_of}
use Rattle.moxi_term_reading.specs.Answer.{locals_of}
use Rattle.moxi_term_print.specs.Terms.{name_at, variable_names}
use Rattle.moxi_term_print.specs.WellScoped.{AreWellScoped, IsAllowedPrime}
use Rattle.btor_import.specs.Operators.{argument, is_one, line_term, not_term, operand_term}
use Rattle.btor_import.specs.Script.{equation_term, formula_of, init_part, inv_part, is_local, lines_in, number_of, parts_from, reachables_from, trans_part, value_part}
use Rattle.moxi_scripts.specs.Script.{PlainFormula}
use Rattle.btor_import.proofs.Applied.{IsTerm, and_stands, binary_stands, choice_stands, context_of, equal_stands, extract_stands, not_stands, one_stands, signs_stand, unary_stands, word_stands, zeros_stand}
use Rattle.btor_import.proofs.Lists.{all_by, differ_by, mapped_at}
use Rattle.btor_import.proofs.LineVariables.{all_variables, letter_by, line_of_variable, local_word, one_name, picked, variable_for, variable_there}
use Rattle.moxi_term_print.proofs.SortedTerms.{copies}
use Rattle.name_maps.proofs.FreshNames.{AllDiffer, Lacks, all_joined, tells_apart}
use Rattle.moxi_terms.specs.Applications.{all_term}

-- ---- names of variables mean them

-- the name is none of a value or an operator
pub record IsFree (name : List ℕ) : Type 0 where
  pub no_true : bytes_eq (codes "true") name ≡ false
  pub no_false : bytes_eq (codes "false") name ≡ false
  pub no_term : is_term_name no_scope name ≡ false

letter_free : (a b : Bool) (x : List ℕ) → IsFree (letter_by a b ++ x)
unfolding operators indexed_operators
letter_free true b x = record { no_true = refl; no_false = refl; no_term = refl }
letter_free false true x = record { no_true = refl; no_false = refl; no_term = refl }
letter_free false false x = record { no_true = refl; no_false = refl; no_term = refl }

first_is : (n : ℕ) (vs : List Variable) (v : ℕ) (x : Variable) → AllDiffer (variable_names vs) → slice_get vs v ≡ Some x → first_of n (locals_of vs) x.name ≡ Some (let f : Found = record { number = n + v; sort = Some x.sort } in f)
first_is n [] v x d h = absurd (none-some x h)
first_is n (y ∷ ys) zero x d h =
    let e : y ≡ x = same_Some y x h in
    let same : bytes_eq x.name y.name ≡ true = (bytes_eq-Decides x.name y.name).1 (sym (ap (λ (v : Variable). v.name) e)) in
    let k : n ≡ n + 0 = omega arith in
    ap (λ b. cond b (Some (let f : Found = record { number = n; sort = Some y.sort } in f)) (first_of (suc n) (locals_of ys) x.name)) same
    ∙ ap (λ (v : Variable). Some (let f : Found = record { number = n; sort = Some v.sort } in f)) e ∙ ap (λ m. Some (let f : Found = record { number = m; sort = Some x.sort } in f)) k
first_is n (y ∷ ys) (suc v) x d h =
    let k : suc n + v ≡ n + suc v = omega arith in
    ap (λ b. cond b (Some (let f : Found = record { number = n; sort = Some y.sort } in f)) (first_of (suc n) (locals_of ys) x.name)) (tells_apart x.name y.name (apart ys v h d.0))
    ∙ first_is (suc n) ys v x d.1 h ∙ ap (λ m. Some (let f : Found = record { number = m; sort = Some x.sort } in f)) k
  where
    apart : (zs : List Variable) (v : ℕ) → slice_get zs v ≡ Some x → Lacks (variable_names zs) y.name → x.name ≢ y.name
    apart [] v h l = absurd (none-some x h)
    apart (z ∷ zs) zero h l = λ e. l.0 (ap (λ (v : Variable). v.name) (same_Some z x h) ∙ e)
    apart (z ∷ zs) (suc v) h l = apart zs v h l.1

no_first : (n : ℕ) (vs : List Variable) (name : List ℕ) → AllByRecursion (λ (v : Variable). bytes_eq name v.name ≡ false) vs → first_of n (locals_of vs) name ≡ None
no_first n [] name a = refl
no_first n (v ∷ vs) name a =
    ap (λ b. cond b (Some (let x : Found = record { number = n; sort = Some v.sort } in x)) (first_of (suc n) (locals_of vs) name)) a.0 ∙ no_first (suc n) vs name a.1

name_of : (vs : List Variable) (v : ℕ) (x : Variable) → slice_get vs v ≡ Some x → name_at (names_of (locals_of vs)) v ≡ x.name
name_of [] v x h = absurd (none-some x h)
name_of (y ∷ ys) zero x h = ap (λ (v : Variable). v.name) (same_Some y x h)
name_of (y ∷ ys) (suc v) x h = name_of ys v x h

-- what a name means, given the variable of this name
meaning_is : (c : Context) (name : List ℕ) (o : Option Found) → first_of 0 c.variables name ≡ o
    → meaning_of c [] name ≡ or_else (option_map (λ (f : Found). meaning.Variable f.number f.sort) o) (or_else (value_named c.scope name) (call_of bare_call c.scope.functions (place_of (function_names c.scope) name)))
meaning_is c name o e =
    ap (λ (p : Option Found). or_else (option_map (λ (f : Found). meaning.Variable f.number f.sort) p) (or_else (value_named c.scope name) (call_of bare_call c.scope.functions (place_of (function_names c.scope) name)))) e

-- primes may be missing everywhere
unprimed : (primes : Primes) → IsAllowedPrime primes false
unprimed Allowed = tt
unprimed Refused = refl

-- ---- what holds of each part of a formula

pub parts_all : (P : Tree → Type 0) (part : ℕ → Line → List Tree) (ls : List Line) (n : ℕ) → ((k : ℕ) (l : Line) → slice_get ls k ≡ Some l → AllByRecursion P (part (n + k) l)) → AllByRecursion P (parts_from part n ls)
parts_all P part [] n f = tt
parts_all P part (l ∷ ls) n f =
    all_joined P (part n l) (parts_from part (n + 1) ls)
    (subst (λ m. AllByRecursion P (part m l)) (let e : n + 0 ≡ n = omega arith in e) (f 0 l refl))
    (parts_all P part ls (n + 1) (λ k m h. subst (λ j. AllByRecursion P (part j m)) (let e : n + suc k ≡ n + 1 + k = omega arith in e) (f (suc k) m h)))

all_if : {X : Type 0} (P : X → Type 0) (b : Bool) (xs ys : List X) → (b ≡ true → AllByRecursion P xs) → (b ≡ false → AllByRecursion P ys) → AllByRecursion P (if b then xs else ys)
all_if P true xs ys f g = f refl
all_if P false xs ys f g = g refl

module _ (lines : List Line) (well : IsWellFormed lines) where
  pub names_differ : AllDiffer (variable_names (all_variables lines))
  names_differ = differ_by (variable_names (all_variables lines))
      (λ k l x y a b e.
      let p = mapped_at (λ (v : Variable). v.name) (all_variables lines) k x a in
      let q = mapped_at (λ (v : Variable). v.name) (all_variables lines) l y b in
      one_name lines well k l p.0 q.0 p.1 q.1 (sym p.2 ∙ e ∙ q.2))

  free_at : (v : ℕ) (x : Variable) → slice_get (all_variables lines) v ≡ Some x → IsFree x.name
  free_at v x h = let p = line_of_variable lines v x h in subst IsFree (sym (ap (λ (y : Variable). y.name) p.same)) (letter_free _ _ _)

  pub all_free : AllByRecursion (λ (v : Variable). IsFree v.name) (all_variables lines)
  all_free = all_by (λ (v : Variable). IsFree v.name) (all_variables lines) free_at

  module _ (primes : Primes) where
    abbrev pub IsTermHere : Tree → Sort → Type 0
    IsTermHere t s = IsTerm (locals_of (all_variables lines)) primes t s

    variable_stands : (v : ℕ) (x : Variable) (primed : Bool) → slice_get (all_variables lines) v ≡ Some x → IsAllowedPrime primes primed → IsTermHere (variable v primed) x.sort
    variable_stands v x primed h p =
        let c = context_of (locals_of (all_variables lines)) primes in (
          ap (meaning_of c []) (name_of (all_variables lines) v x h)
              ∙ meaning_is c x.name _ (first_is 0 (all_variables lines) v x names_differ h ∙ ap (λ m. Some (let f : Found = record { number = m; sort = Some x.sort } in f)) (let e : 0 + v ≡ v = omega arith in e)),
          p,
        )

    pub truth_stands : IsTermHere (constant (datum.Truth true)) Truth
    truth_stands = (
      refl,
      meaning_is (context_of (locals_of (all_variables lines)) primes) (codes "true") None
          (no_first 0 (all_variables lines) (codes "true") (all_by (λ (v : Variable). bytes_eq (codes "true") v.name ≡ false) (all_variables lines) (λ v x h. (free_at v x h).no_true))),
    )

    -- the variable of a line with a word
    pub line_stands : (i : ℕ) (primed : Bool) → 1 ≤ width_at lines i → IsAllowedPrime primes primed → IsTermHere (variable (number_of lines i) primed) (Bits (width_at lines i))
    line_stands i primed h p =
        let g = line_at lines i h in
        subst (λ n. IsTermHere (variable (number_of lines i) primed) (Bits n)) (sym g.3) (variable_stands (number_of lines i) (variable_for lines g.0) primed (variable_there lines i g.0 g.1 g.2) p)

    pub operand_stands : (a : Arg) → 1 ≤ width_at lines a.line → IsTermHere (operand_term (number_of lines) a) (Bits (width_at lines a.line))
    operand_stands a h = by a.negated (line_stands a.line false h (unprimed primes))
      where
        by : (b : Bool) → IsTermHere (variable (number_of lines a.line) false) (Bits (width_at lines a.line)) → IsTermHere (if b then not_term (variable (number_of lines a.line) false) else variable (number_of lines a.line) false) (Bits (width_at lines a.line))
        by true i = not_stands (locals_of (all_variables lines)) primes (width_at lines a.line) (variable (number_of lines a.line) false) i
        by false i = i

    -- an operand of a line at place i
    module _ (i : ℕ) where
      wider : (k : ℕ) → 1 ≤ width_at (take i lines) k → width_at lines k ≡ width_at (take i lines) k
      wider k h = ap (λ ls. width_at ls k) (sym (take-append-drop i lines)) ∙ width_front (take i lines) (drop i lines) k h

      sorter : (s : ℕ) → 1 ≤ sort_at (take i lines) s → sort_at lines s ≡ sort_at (take i lines) s
      sorter s h = ap (λ ls. sort_at ls s) (sym (take-append-drop i lines)) ∙ sort_front (take i lines) (drop i lines) s h

      earlier_stands : (a : Arg) (w : ℕ) → 1 ≤ w → width_at (take i lines) a.line ≡ w → IsTermHere (operand_term (number_of lines) a) (Bits w)
      earlier_stands a w h e =
          let some : 1 ≤ width_at (take i lines) a.line = omega (arith, h, e) in
          let here = wider a.line some in
          let some_here : 1 ≤ width_at lines a.line = omega (arith, some, here) in
          subst (λ n. IsTermHere (operand_term (number_of lines) a) (Bits n)) (here ∙ e) (operand_stands a some_here)

      small : (k : ℕ) → 1 ≤ width_at (take i lines) k → width_at (take i lines) k ≤ WIDEST
      small k h = let e = wider k h in let s = width_small lines k well in omega (arith, e, s)

      least : (s : ℕ) → 1 ≤ sort_at (take i lines) s → (1 ≤ sort_at lines s) × (sort_at lines s ≤ WIDEST)
      least s h = let e = sorter s h in let t = sort_small lines s well in (omega (arith, e, h), t)

      -- a term of the sort that a line has before it
      abbrev IsOfSort : ℕ → Tree → Type 0
      IsOfSort s t = IsTermHere t (Bits (sort_at lines s))

      of_sort : (s w : ℕ) (t : Tree) → 1 ≤ sort_at (take i lines) s → w ≡ sort_at (take i lines) s → IsTermHere t (Bits w) → IsOfSort s t
      of_sort s w t h e k = subst (λ n. IsTermHere t (Bits n)) (e ∙ sym (sorter s h)) k

      abbrev vs : List Local
      vs = locals_of (all_variables lines)

      -- what a constant or operator line says
      pub line_term_stands : (s : ℕ) (o : LineOp) (args : List Arg) → OpFits (take i lines) s o args → is_local o ≡ true → IsOfSort s (line_term (number_of lines) (width_at lines) (sort_at lines s) o args)
      line_term_stands s (line.Constant c) args f h = (ap Bits (sorter s (let e = f.1 in let k = f.0.0 in omega (arith, e, k)) ∙ sym f.1), f.0)
      line_term_stands s line.One args f h = let l = least s f.0 in word_stands vs primes (sort_at lines s) 1 l.0 l.1 (one_lt (sort_at lines s) l.0)
      line_term_stands s line.Zero args f h = let l = least s f.0 in word_stands vs primes (sort_at lines s) 0 l.0 l.1 (one-le-pow (sort_at lines s) 2 (omega arith))
      line_term_stands s line.Ones args f h = let l = least s f.0 in let p = one-le-pow (sort_at lines s) 2 (omega arith) in word_stands vs primes (sort_at lines s) _ l.0 l.1 (omega (arith, p))
      line_term_stands s (line.Unary o) (a ∷ []) f h =
          let e = wider a.line f.1.0 in
          of_sort s (unary_width o (width_at lines a.line)) (line_term (number_of lines) (width_at lines) (sort_at lines s) (line.Unary o) (a ∷ [])) f.0 (ap (unary_width o) e ∙ f.1.1)
          (unary_stands vs primes o (width_at lines a.line) (operand_term (number_of lines) a) (omega (arith, e, f.1.0)) (width_small lines a.line well) (operand_stands a (omega (arith, e, f.1.0))))
      line_term_stands s (line.Unary o) [] f h = absurd f.1
      line_term_stands s (line.Unary o) (a ∷ b ∷ args) f h = absurd f.1
      line_term_stands s (line.Binary o) (a ∷ b ∷ []) f h =
          of_sort s (binary_width o (width_at (take i lines) a.line) (width_at (take i lines) b.line)) (line_term (number_of lines) (width_at lines) (sort_at lines s) (line.Binary o) (a ∷ b ∷ [])) f.0 f.1.3
          (binary_stands vs primes o (width_at (take i lines) a.line) (width_at (take i lines) b.line) (operand_term (number_of lines) a) (operand_term (number_of lines) b) f.1.2 (earlier_stands a _ f.1.0 refl) (earlier_stands b _ f.1.1 refl))
      line_term_stands s (line.Binary o) [] f h = absurd f.1
      line_term_stands s (line.Binary o) (a ∷ []) f h = absurd f.1
      line_term_stands s (line.Binary o) (a ∷ b ∷ c ∷ args) f h = absurd f.1
      line_term_stands s line.Ite (c ∷ a ∷ b ∷ []) f h =
          of_sort s (sort_at (take i lines) s) (line_term (number_of lines) (width_at lines) (sort_at lines s) line.Ite (c ∷ a ∷ b ∷ [])) f.0 refl
          (choice_stands vs primes (Bits (sort_at (take i lines) s)) (is_one (operand_term (number_of lines) c)) (operand_term (number_of lines) a) (operand_term (number_of lines) b)
          (one_stands vs primes (operand_term (number_of lines) c) (earlier_stands c 1 (omega arith) f.1.0)) (earlier_stands a _ f.0 f.1.1) (earlier_stands b _ f.0 f.1.2))
      line_term_stands s line.Ite [] f h = absurd f.1
      line_term_stands s line.Ite (a ∷ []) f h = absurd f.1
      line_term_stands s line.Ite (a ∷ b ∷ []) f h = absurd f.1
      line_term_stands s line.Ite (a ∷ b ∷ c ∷ d ∷ args) f h = absurd f.1
      line_term_stands s (line.Slice high low) (a ∷ []) f h =
          let some : 1 ≤ width_at (take i lines) a.line = omega (arith, f.1.1) in
          of_sort s (high - low + 1) (line_term (number_of lines) (width_at lines) (sort_at lines s) (line.Slice high low) (a ∷ [])) f.0 f.1.2 (extract_stands vs primes high low (width_at (take i lines) a.line) (operand_term (number_of lines) a) (small a.line some) f.1.1 f.1.0 (earlier_stands a _ some refl))
      line_term_stands s (line.Slice high low) [] f h = absurd f.1
      line_term_stands s (line.Slice high low) (a ∷ b ∷ args) f h = absurd f.1
      line_term_stands s (line.Uext n) (a ∷ []) f h =
          of_sort s (width_at (take i lines) a.line + n) (line_term (number_of lines) (width_at lines) (sort_at lines s) (line.Uext n) (a ∷ [])) f.0 f.1.1
          (zeros_stand vs primes n (width_at (take i lines) a.line) (operand_term (number_of lines) a) (let e = sorter s f.0 in let t = sort_small lines s well in let k = f.1.1 in omega (arith, e, t, k)) (earlier_stands a _ f.1.0 refl))
      line_term_stands s (line.Uext n) [] f h = absurd f.1
      line_term_stands s (line.Uext n) (a ∷ b ∷ args) f h = absurd f.1
      line_term_stands s (line.Sext n) (a ∷ []) f h =
          of_sort s (width_at (take i lines) a.line + n) (line_term (number_of lines) (width_at lines) (sort_at lines s) (line.Sext n) (a ∷ [])) f.0 f.1.1
          (signs_stand vs primes n (width_at (take i lines) a.line) (operand_term (number_of lines) a) (let e = sorter s f.0 in let t = sort_small lines s well in let k = f.1.1 in omega (arith, e, t, k)) (earlier_stands a _ f.1.0 refl))
      line_term_stands s (line.Sext n) [] f h = absurd f.1
      line_term_stands s (line.Sext n) (a ∷ b ∷ args) f h = absurd f.1
      line_term_stands s (line.Sort w) args f h = absurd (cc)
      line_term_stands s line.Input args f h = absurd (cc)
      line_term_stands s line.State args f h = absurd (cc)
      line_term_stands s line.Init args f h = absurd (cc)
      line_term_stands s line.Next args f h = absurd (cc)
      line_term_stands s line.Bad args f h = absurd (cc)
      line_term_stands s line.Constraint args f h = absurd (cc)
      line_term_stands s line.Output args f h = absurd (cc)

      -- a state has a value
      pub value_stands : (kind : LineOp → Bool) (s : ℕ) (args : List Arg) (primed : Bool) → IsAllowedPrime primes primed → OnTwo args (λ x v. GivesValue kind (take i lines) s x v) → IsTermHere (value_part (number_of lines) primed args) Truth
      value_stands kind s (x ∷ v ∷ []) primed p f =
          let some : 1 ≤ width_at (take i lines) x.line = let e = f.3 in let k = f.2 in omega (arith, e, k) in
          let here = wider x.line some in
          equal_stands vs primes (Bits (width_at (take i lines) x.line)) (variable (number_of lines x.line) primed) (operand_term (number_of lines) v)
          (subst (λ n. IsTermHere (variable (number_of lines x.line) primed) (Bits n)) here (line_stands x.line primed (omega (arith, here, some)) p))
          (earlier_stands v (width_at (take i lines) x.line) some (f.4 ∙ sym f.3))
      value_stands kind s [] primed p f = absurd f
      value_stands kind s (x ∷ []) primed p f = absurd f
      value_stands kind s (x ∷ v ∷ y ∷ args) primed p f = absurd f

      -- an operand of one bit is 1
      pub true_stands : (args : List Arg) → OnOne args (λ a. width_at (take i lines) a.line ≡ 1) → IsTermHere (is_one (operand_term (number_of lines) (argument args 0))) Truth
      true_stands (a ∷ []) f = one_stands vs primes (operand_term (number_of lines) a) (earlier_stands a 1 (omega arith) f)
      true_stands [] f = absurd f
      true_stands (a ∷ b ∷ args) f = absurd f

    -- ---- conjunctions

    each_stands : (xs : List Tree) → AllByRecursion (λ t. IsTermHere t Truth) xs → AreWellScoped (context_of (locals_of (all_variables lines)) primes) [] (trees_of xs) (copies Truth (trees_of xs))
    each_stands [] h = tt
    each_stands (x ∷ xs) h = (h.0, each_stands xs h.1)

    pub all_stands : (xs : List Tree) → AllByRecursion (λ t. IsTermHere t Truth) xs → IsTermHere (all_term xs) Truth
    all_stands [] h = truth_stands
    all_stands (x ∷ []) h = h.0
    all_stands (x ∷ y ∷ xs) h = and_stands (locals_of (all_variables lines)) primes x (trees_of (y ∷ xs)) (each_stands (x ∷ y ∷ xs) h)

  -- ---- the three formulas

  init_of : (i : ℕ) (s : ℕ) (o : LineOp) (args : List Arg) → is_init o ≡ true → OpFits (take i lines) s o args → OnTwo args (λ x v. GivesValue is_init (take i lines) s x v)
  init_of i s line.Init (x ∷ v ∷ []) h f = f.0
  init_of i s line.Init [] h f = f
  init_of i s line.Init (x ∷ []) h f = f
  init_of i s line.Init (x ∷ v ∷ y ∷ args) h f = f
  init_of i s o args h f = absurd (cc)

  next_of : (i : ℕ) (s : ℕ) (o : LineOp) (args : List Arg) → is_next o ≡ true → OpFits (take i lines) s o args → OnTwo args (λ x v. GivesValue is_next (take i lines) s x v)
  next_of i s line.Next args h f = f
  next_of i s o args h f = absurd (cc)

  pub bad_of : (i : ℕ) (s : ℕ) (o : LineOp) (args : List Arg) → is_bad o ≡ true → OpFits (take i lines) s o args → OnOne args (λ a. width_at (take i lines) a.line ≡ 1)
  bad_of i s line.Bad args h f = f.1
  bad_of i s o args h f = absurd (cc)

  pub constraint_of : (i : ℕ) (s : ℕ) (o : LineOp) (args : List Arg) → is_constraint o ≡ true → OpFits (take i lines) s o args → OnOne args (λ a. width_at (take i lines) a.line ≡ 1)
  constraint_of i s line.Constraint args h f = f.1
  constraint_of i s o args h f = absurd (cc)

  fits_at : (i : ℕ) (l : Line) → slice_get lines i ≡ Some l → OpFits (take i lines) l.sort l.op l.args
  fits_at i l h = (well.by_line i l h).body.sorts

  local_wide : (i : ℕ) (l : Line) → slice_get lines i ≡ Some l → has_word l.op ≡ true → (1 ≤ width_at lines i) × (width_at lines i ≡ sort_at lines l.sort)
  local_wide i l h w = ((width_is lines i l well h w).1, ap (λ o. option_map_or (line_width lines) o 0) h ∙ ap (λ b. if b then sort_at lines l.sort else 0) w)

  pub sort_some : (i : ℕ) (l : Line) → slice_get lines i ≡ Some l → has_word l.op ≡ true → 1 ≤ sort_at lines l.sort
  sort_some i l h w = let p = local_wide i l h w in let a = p.0 in let b = p.1 in omega (arith, a, b)

  equation_stands : (i : ℕ) (l : Line) → slice_get lines i ≡ Some l → is_local l.op ≡ true → IsTermHere Refused (equation_term (number_of lines) lines i l) Truth
  equation_stands i l h k =
      let w = local_wide i l h (local_word l.op k).0 in
      equal_stands (locals_of (all_variables lines)) Refused (Bits (sort_at lines l.sort)) (variable (number_of lines i) false) (line_term (number_of lines) (width_at lines) (sort_at lines l.sort) l.op l.args)
      (subst (λ n. IsTermHere Refused (variable (number_of lines i) false) (Bits n)) w.1 (line_stands Refused i false w.0 refl))
      (line_term_stands Refused i l.sort l.op l.args (fits_at i l h) k)

  init_parts : (i : ℕ) (l : Line) → slice_get lines i ≡ Some l → (n : ℕ) → AllByRecursion (λ t. IsTermHere Refused t Truth) (init_part (number_of lines) n l)
  init_parts i l h n =
      all_if (λ t. IsTermHere Refused t Truth) (is_init l.op) (value_part (number_of lines) false l.args ∷ []) []
      (λ e. (value_stands Refused i is_init l.sort l.args false refl (init_of i l.sort l.op l.args e (fits_at i l h)), tt)) (λ e. tt)

  trans_parts : (i : ℕ) (l : Line) → slice_get lines i ≡ Some l → (n : ℕ) → AllByRecursion (λ t. IsTermHere Allowed t Truth) (trans_part (number_of lines) n l)
  trans_parts i l h n =
      all_if (λ t. IsTermHere Allowed t Truth) (is_next l.op) (value_part (number_of lines) true l.args ∷ []) []
      (λ e. (value_stands Allowed i is_next l.sort l.args true tt (next_of i l.sort l.op l.args e (fits_at i l h)), tt)) (λ e. tt)

  inv_parts : (i : ℕ) (l : Line) → slice_get lines i ≡ Some l → AllByRecursion (λ t. IsTermHere Refused t Truth) (inv_part lines (number_of lines) i l)
  inv_parts i l h =
      all_if (λ t. IsTermHere Refused t Truth) (is_local l.op) (equation_term (number_of lines) lines i l ∷ []) (if is_constraint l.op then is_one (operand_term (number_of lines) (argument l.args 0)) ∷ [] else [])
      (λ e. (equation_stands i l h e, tt))
      (λ e. all_if (λ t. IsTermHere Refused t Truth) (is_constraint l.op) (is_one (operand_term (number_of lines) (argument l.args 0)) ∷ []) []
      (λ k. (true_stands Refused i l.args (constraint_of i l.sort l.op l.args k (fits_at i l h)), tt)) (λ k. tt))

  pub init_stands : IsTermHere Refused (formula_of (init_part (number_of lines)) lines) Truth
  init_stands = all_stands Refused (parts_from (init_part (number_of lines)) 0 lines) (parts_all (λ t. IsTermHere Refused t Truth) (init_part (number_of lines)) lines 0 (λ k l h. init_parts k l h (0 + k)))

  pub trans_stands : IsTermHere Allowed (formula_of (trans_part (number_of lines)) lines) Truth
  trans_stands = all_stands Allowed (parts_from (trans_part (number_of lines)) 0 lines) (parts_all (λ t. IsTermHere Allowed t Truth) (trans_part (number_of lines)) lines 0 (λ k l h. trans_parts k l h (0 + k)))

  pub inv_stands : IsTermHere Refused (formula_of (inv_part lines (number_of lines)) lines) Truth
  inv_stands =
      all_stands Refused (parts_from (inv_part lines (number_of lines)) 0 lines)
      (parts_all (λ t. IsTermHere Refused t Truth) (inv_part lines (number_of lines)) lines 0
      (λ k l h. subst (λ j. AllByRecursion (λ t. IsTermHere Refused t Truth) (inv_part lines (number_of lines) j l)) (let e : k ≡ 0 + k = omega arith in e) (inv_parts k l h)))

  -- ---- bad lines

  bad_stands : (v : ℕ) (l : Line) → slice_get (lines_in is_bad lines) v ≡ Some l → IsTermHere Refused (is_one (operand_term (number_of lines) (argument l.args 0))) Truth
  bad_stands v l h =
      let p = picked is_bad lines v l h in
      true_stands Refused p.place l.args (bad_of p.place l.sort l.op l.args p.is (fits_at p.place l p.there))

  reachables_in : (j : ℕ) (ls : List Line) → AllByRecursion (λ (l : Line). IsTermHere Refused (is_one (operand_term (number_of lines) (argument l.args 0))) Truth) ls
      → AllByRecursion (λ (f : PlainFormula). IsTermHere Refused f.term Truth) (reachables_from (number_of lines) j ls)
  reachables_in j [] h = tt
  reachables_in j (l ∷ ls) h = (h.0, reachables_in (j + 1) ls h.1)

  pub reachables_stand : AllByRecursion (λ (f : PlainFormula). IsTermHere Refused f.term Truth) (reachables_from (number_of lines) 0 (lines_in is_bad lines))
  reachables_stand =
      reachables_in 0 (lines_in is_bad lines) (all_by (λ (l : Line). IsTermHere Refused (is_one (operand_term (number_of lines) (argument l.args 0))) Truth) (lines_in is_bad lines) bad_stands)
