-- The readers of types and of what they are made from.
use Rattle.std.proofs.Common.{◌≡◌, ◌⊎◌, inl, inr, ℕ, ℤ, suc, pos, ◌-ℤ◌, Bool, true, false, None, List, [], ◌∷◌, ◌++◌, length, refl, sym, ap, ◌∙◌, subst, append_assoc}
use Rattle.text_core.specs.declared.place.Place.{Place}
use Rattle.smv_text.specs.declared.token.Reserved.TheVariants as words
use Rattle.smv_text.specs.declared.token.Sign.{Sign}
use Rattle.smv_text.specs.declared.token.Sign.TheVariants as signs
use Rattle.smv_text.specs.declared.token.TokenKind.{TokenKind}
use Rattle.smv_text.specs.declared.token.TokenKind.TheVariants as kind
use Rattle.smv_text.specs.declared.token.Token.{Token}
use Rattle.smv_text.specs.declared.tree.Member.{Member}
use Rattle.smv_text.specs.declared.tree.Member.TheVariants.{Symbol, Integer}
use Rattle.smv_text.specs.declared.tree.VarKind.{VarKind}
use Rattle.smv_text.specs.declared.tree.VarKind.TheVariants.{State, Input, Frozen}
use Rattle.smv_text.specs.declared.tree.Parameter.{Parameter}
use Rattle.smv_text.specs.Levels.{all_levels}
use Rattle.smv_text.specs.Grammar.{IsSign, SpellsInteger, unsigned, negative, Spells, SpellsListed, last_one, one_before}
use Rattle.smv_text.specs.Heights.{list_of, of_domain}
use Rattle.smv_text.specs.Sources.{SpellsParameters, no_parameters, parameter_then, SpellsFormals, no_formals, empty_formals, formals, SpellsActuals, no_actuals, empty_actuals, actuals, SpellsMember, symbols, integers, SpellsMembers, no_members, member_then, unstated, stated, SpellsType, booleans, enumerations, intervals, words as word_types, SpellsDomain, types, instances}
use Rattle.smv_text.specs.Tree.{Tree, Trees, tree, trees_of, PlainDomain, boolean, members, between, bits, instance}
use Rattle.smv_grammar.specs.Marks.{is_sign, is_word}
use Rattle.smv_grammar.specs.Machine.{goes_on, Ends, run, ask, took, dead, stuck}
use Rattle.smv_grammar.specs.Machine as machine
use Rattle.smv_grammar.specs.Readers.{both, mapped, expression}
use Rattle.smv_grammar.specs.Rules.{sign, word, name, number, listed, bracketed, parameter, integer_pick, integer, symbol_pick, member, width, interval, instance_pick, domain_pick, domain}
use Rattle.smv_grammar.specs.Kept.{cap}
use Rattle.smv_grammar.proofs.Expressions.{spelled_taken}
use Rattle.smv_grammar.proofs.Lawful.{Lawful, Inhabited, Both, of_both, lawful_both}
use Rattle.smv_grammar.proofs.Choices.{Free, of_none, PickLaw, Either, Unpicked, Nothing, Never, lawful_nothing, lawful_either, lawful_switch}
use Rattle.smv_grammar.proofs.Mapped.{lawful_mapped}
use Rattle.smv_grammar.proofs.Loops.{Many, none, more, of_all}
use Rattle.smv_grammar.proofs.Asked.{alone, lawful_expression}
use Rattle.smv_grammar.proofs.Tokens.{token, sign_is, word_is, lawful_as, lawful_before, SignAt, WordAt, NameAt, NumberAt, lawful_sign, lawful_word, lawful_name, lawful_number, Made, lawful_made, some_sign, some_number}
use Rattle.smv_grammar.proofs.Lists.{Behind, Listed, lawful_listed, Bracketed, no_brackets, empty_brackets, in_brackets, NotOpen, lawful_bracketed}

-- the same spelling, of an equal value and by equal tokens
pub carried : {A : Type 0} (S : A → List Token → Type 0) {v w : A} {xs ys : List Token} → v ≡ w → xs ≡ ys → S v xs → S w ys
carried S {w = w} {xs = xs} e f d = subst (S w) f (subst (λ v. S v xs) e d)

pub all_none : {A : Type 0} (vs : List A) → of_all of_none vs ≡ []
all_none [] = refl
all_none (v ∷ vs) = all_none vs

pub all_alone : (ts : List Tree) → of_all alone ts ≡ ts
all_alone [] = refl
all_alone (t ∷ ts) = ap (λ z. t ∷ z) (all_alone ts)

pub list_trees : (ts : List Tree) → list_of (trees_of ts) ≡ ts
list_trees [] = refl
list_trees (t ∷ ts) = ap (λ z. t ∷ z) (list_trees ts)

-- an expression begins with a token that the machine takes
no_expression_ends : {t : Tree} → Spells all_levels t [] → ⊥
unfolding machine.run
no_expression_ends {t} d = let e : run [] (ask all_levels []) ≡ took (cap t) [] = spelled_taken t [] [] d tt in cc

expression_goes : {t : Tree} (x : Token) (xs : List Token) → Spells all_levels t (x ∷ xs) → machine.step (ask all_levels []) x ≡ stuck → ⊥
unfolding machine.run
expression_goes {t} x xs d e =
    let f : run (x ∷ (xs ++ [])) (ask all_levels []) ≡ took (cap t) [] = spelled_taken t (x ∷ xs) [] d tt in
    let g : run (x ∷ (xs ++ [])) (ask all_levels []) ≡ dead (suc (length (xs ++ []))) = ap (λ o. machine.next o x (xs ++ []) (run (xs ++ []))) e in
    let h : took (cap t) [] ≡ dead (suc (length (xs ++ []))) = sym f ∙ g in
    cc

-- no expression begins with a token of this kind
abbrev BeginsNone : TokenKind → Type 0
BeginsNone k = (p : Place) (n : ℕ) → machine.step (ask all_levels []) (record { kind = k; place = p; length = n }) ≡ stuck

begun_by : {t : Tree} (k : TokenKind) → BeginsNone k → (x : Token) (xs : List Token) → Spells all_levels t (x ∷ xs) → x.kind ≡ k → ⊥
begun_by k starts_none x xs d e = expression_goes x xs d (ap (λ z. machine.step (ask all_levels []) (record { kind = z; place = x.place; length = x.length })) e ∙ starts_none x.place x.length)

-- the first token of an expression: it closes no bracket and is no `NAME`
pub record Opens (ys : List Token) : Type 0 where
  pub first : Token
  pub others : List Token
  pub split : ys ≡ first ∷ others
  pub not_close : is_sign signs.Close first.kind ≡ false
  pub not_name : is_word words.Name first.kind ≡ false

pub expression_opens : (t : Tree) (ys : List Token) → Spells all_levels t ys → Opens ys
expression_opens t [] d = absurd (no_expression_ends d)
expression_opens t (y ∷ ys) d = record {
  first = y;
  others = ys;
  split = refl;
  not_close = go (is_sign signs.Close y.kind) refl (λ e. begun_by (kind.Sign signs.Close) (λ p n. refl) y ys d (sign_is signs.Close y.kind e));
  not_name = go (is_word words.Name y.kind) refl (λ e. begun_by (kind.Reserved words.Name) (λ p n. refl) y ys d (word_is words.Name y.kind e));
}
  where
    go : (b : Bool) {c : Bool} → c ≡ b → (c ≡ true → ⊥) → c ≡ false
    go true e h = absurd (h e)
    go false e h = e

-- parameters
abbrev pub parameter_of : List ℕ × Place → Parameter
parameter_of q = record { name = q.0; place = q.1 }

abbrev pub ParameterAt : Parameter → List Token → Type 0
ParameterAt = Made parameter_of NameAt

pub lawful_parameter : Lawful parameter ParameterAt of_none Free
unfolding parameter
lawful_parameter = lawful_made parameter_of name NameAt of_none of_none Free lawful_name (λ a. refl)

parameters_to : {ps : List Parameter} {ys : List Token} → Many (Behind signs.Comma ParameterAt) ps ys → SpellsParameters ps ys
parameters_to none = no_parameters
parameters_to (more {v = v} {vs = vs} {ys = us} {zs = zs} x d m) =
    let q = d.1.2 in
    carried SpellsParameters (ap (λ (z : Parameter). z ∷ vs) (ap (λ z. record { name = d.1.0.0; place = z }) (sym q.3) ∙ d.1.1)) (ap (λ z. x ∷ (z ++ zs)) (sym q.1))
    (parameter_then x q.0 d.0 q.2 (parameters_to m))

parameters_from : {ps : List Parameter} {ys : List Token} → SpellsParameters ps ys → Many (Behind signs.Comma ParameterAt) ps ys
parameters_from no_parameters = none
parameters_from (parameter_then {n = n} {ps = ps} {xs = xs} comma x c e m) = more {ys = x ∷ []} comma (c, ((n, x.place), refl, (x, refl, e, refl))) (parameters_from m)

formals_to : (ps : List Parameter) (ys : List Token) → Bracketed ParameterAt ps ys → SpellsFormals ps ys
formals_to ps ys no_brackets = no_formals
formals_to ps ys (empty_brackets opening closing o c) = empty_formals opening closing o c
formals_to ps ys (in_brackets opening o d) =
    let q = d.spells.2 in
    carried SpellsFormals (ap (λ (z : Parameter). z ∷ d.others) (ap (λ z. record { name = d.spells.0.0; place = z }) (sym q.3) ∙ d.spells.1) ∙ sym d.values)
    (ap (λ z. opening ∷ z) (ap (λ z. z ++ (d.remainder ++ d.closing ∷ [])) (sym q.1) ∙ sym d.split))
    (formals opening q.0 d.closing o q.2 (parameters_to d.more) d.closes)

formals_from : (ps : List Parameter) (ys : List Token) → SpellsFormals ps ys → Bracketed ParameterAt ps ys
formals_from ps ys no_formals = no_brackets
formals_from ps ys (empty_formals opening closing o c) = empty_brackets opening closing o c
formals_from ps ys (formals {n = n} {ps = others} {xs = xs} opening x closing o e m c) = in_brackets opening o (record {
  first = record { name = n; place = x.place };
  others = others;
  tokens = x ∷ [];
  remainder = xs;
  closing = closing;
  values = refl;
  split = refl;
  spells = ((n, x.place), refl, (x, refl, e, refl));
  more = parameters_from m;
  closes = c;
})

pub lawful_formals : Lawful (bracketed parameter) SpellsFormals (of_all of_none) NotOpen
lawful_formals = lawful_as (bracketed parameter) (Bracketed ParameterAt) SpellsFormals (of_all of_none) NotOpen
    (lawful_bracketed parameter ParameterAt of_none Free lawful_parameter (λ x xs e. tt) (λ x xs e. tt) (λ v ys d. (d.2.0, [], d.2.1, ap (is_sign signs.Close) d.2.2)))
    formals_to formals_from

-- integers
abbrev IntegerAt : TokenKind → Place → ℤ → List Token → Type 0
IntegerAt (kind.Number n) p i ys = Nothing (pos n) i ys
IntegerAt (kind.Sign signs.Minus) p i ys = Made (λ q. pos 0 -ℤ pos q.0) NumberAt i ys
IntegerAt _ p i ys = ⊥

integer_law : (k : TokenKind) (p : Place) → PickLaw (integer_pick k p) (IntegerAt k p) of_none Free
integer_law (kind.Number n) p = lawful_nothing (pos n) of_none Free refl
integer_law (kind.Sign signs.Minus) p = lawful_made (λ q. pos 0 -ℤ pos q.0) number NumberAt of_none of_none Free lawful_number (λ a. refl)
integer_law _ p = λ v ys d. d

integer_to : (i : ℤ) (ys : List Token) → Either IntegerAt Never i ys → SpellsInteger i ys
integer_to i ys (inr d) = absurd d
integer_to i ys (inl d) = subst (SpellsInteger i) (sym d.2) (go d.0.kind refl d.3)
  where
    go : (k : TokenKind) → d.0.kind ≡ k → IntegerAt k d.0.place i d.1 → SpellsInteger i (d.0 ∷ d.1)
    go (kind.Number n) e f = carried SpellsInteger (sym f.0) (ap (λ z. d.0 ∷ z) (sym f.1)) (unsigned d.0 e)
    go (kind.Sign signs.Minus) e f = carried SpellsInteger f.1 (ap (λ z. d.0 ∷ z) (sym f.2.1)) (negative d.0 f.2.0 e f.2.2)
    go _ e f = absurd f

integer_from : (i : ℤ) (ys : List Token) → SpellsInteger i ys → Either IntegerAt Never i ys
integer_from i ys (unsigned {n = n} x e) = inl (x, [], refl, subst (λ k. IntegerAt k x.place (pos n) []) (sym e) (refl, refl))
integer_from i ys (negative {n = n} minus x o e) = inl (minus, x ∷ [], refl, subst (λ k. IntegerAt k minus.place (pos 0 -ℤ pos n) (x ∷ [])) (sym o) ((n, x.place), refl, (x, refl, e, refl)))

pub lawful_integer : Lawful integer SpellsInteger of_none Free
unfolding integer
lawful_integer = lawful_as integer (Either IntegerAt Never) SpellsInteger of_none Free
    (lawful_switch integer_pick IntegerAt of_none Free integer_law (pos 0, token (kind.Number 0) ∷ [], (token (kind.Number 0), [], refl, (refl, refl))))
    integer_to integer_from

pub integer_first : (i : ℤ) (ys : List Token) → SpellsInteger i ys → (x : Token) × (zs : List Token) × (ys ≡ x ∷ zs) × (((n : ℕ) × (x.kind ≡ kind.Number n)) ⊎ IsSign signs.Minus x)
integer_first i ys (unsigned {n = n} x e) = (x, [], refl, inl (n, e))
integer_first i ys (negative minus x o e) = (minus, x ∷ [], refl, inr o)

-- what an integer begins with is no other beginning
pub integer_apart : (T : TokenKind → Type 0) → ((n : ℕ) → T (kind.Number n)) → T (kind.Sign signs.Minus) → (x : Token) → ((n : ℕ) × (x.kind ≡ kind.Number n)) ⊎ IsSign signs.Minus x → T x.kind
integer_apart T by_number by_minus x (inl d) = subst T (sym d.1) (by_number d.0)
integer_apart T by_number by_minus x (inr d) = subst T (sym d) by_minus

pub some_integer : Inhabited SpellsInteger
some_integer = (pos 0, token (kind.Number 0) ∷ [], unsigned (token (kind.Number 0)) refl)

-- members of an enumeration
abbrev SymbolAt : TokenKind → Place → Member → List Token → Type 0
SymbolAt (kind.Ident n) p m ys = Nothing (Symbol n) m ys
SymbolAt _ p m ys = ⊥

symbol_law : (k : TokenKind) (p : Place) → PickLaw (symbol_pick k p) (SymbolAt k p) of_none Free
symbol_law (kind.Ident n) p = lawful_nothing (Symbol n) of_none Free refl
symbol_law _ p = λ v ys d. d

member_to : (m : Member) (ys : List Token) → Either SymbolAt (Made Integer SpellsInteger) m ys → SpellsMember m ys
member_to m ys (inr d) = subst (λ z. SpellsMember z ys) d.1 (integers d.2)
member_to m ys (inl d) = subst (SpellsMember m) (sym d.2) (go d.0.kind refl d.3)
  where
    go : (k : TokenKind) → d.0.kind ≡ k → SymbolAt k d.0.place m d.1 → SpellsMember m (d.0 ∷ d.1)
    go (kind.Ident n) e f = carried SpellsMember (sym f.0) (ap (λ z. d.0 ∷ z) (sym f.1)) (symbols d.0 e)
    go _ e f = absurd f

member_from : (m : Member) (ys : List Token) → SpellsMember m ys → Either SymbolAt (Made Integer SpellsInteger) m ys
member_from m ys (symbols {n = n} x e) = inl (x, [], refl, subst (λ k. SymbolAt k x.place (Symbol n) []) (sym e) (refl, refl))
member_from m ys (integers {i = i} d) = inr (i, refl, d)

pub lawful_member : Lawful member SpellsMember of_none Free
unfolding member
lawful_member = lawful_as member (Either SymbolAt (Made Integer SpellsInteger)) SpellsMember of_none Free
    (lawful_either symbol_pick SymbolAt of_none Free symbol_law (mapped Integer integer) (Made Integer SpellsInteger)
    (lawful_made Integer integer SpellsInteger of_none of_none Free lawful_integer (λ a. refl))
    (λ v ys rest d stop. let f = integer_first d.0 ys d.2 in subst (λ z. Unpicked symbol_pick (z ++ rest)) (sym f.2)
    (integer_apart (λ k. symbol_pick k f.0.place ≡ None) (λ n. refl) refl f.0 f.3)))
    member_to member_from

members_to : {ms : List Member} {ys : List Token} → Many (Behind signs.Comma SpellsMember) ms ys → SpellsMembers ms ys
members_to none = no_members
members_to (more x d m) = member_then x d.0 d.1 (members_to m)

members_from : {ms : List Member} {ys : List Token} → SpellsMembers ms ys → Many (Behind signs.Comma SpellsMember) ms ys
members_from no_members = none
members_from (member_then comma c d m) = more comma (c, d) (members_from m)

-- a width in square brackets
pub record WidthAt (n : ℕ) (ys : List Token) : Type 0 where
  pub opening : Token
  pub number : Token
  pub closing : Token
  pub split : ys ≡ opening ∷ number ∷ closing ∷ []
  pub opens : IsSign signs.OpenBracket opening
  pub is : number.kind ≡ kind.Number n
  pub closes : IsSign signs.CloseBracket closing

lawful_width : Lawful width WidthAt of_none Free
unfolding width
lawful_width = lawful_mapped (λ q. q.1.0.0) (both (sign signs.OpenBracket) (both number (sign signs.CloseBracket)))
    (Both (SignAt signs.OpenBracket) (Both NumberAt (SignAt signs.CloseBracket))) (of_both of_none (of_both of_none of_none)) Free
    (lawful_both (sign signs.OpenBracket) (both number (sign signs.CloseBracket)) (SignAt signs.OpenBracket) (Both NumberAt (SignAt signs.CloseBracket)) of_none (of_both of_none of_none) Free Free
    (lawful_sign signs.OpenBracket)
    (lawful_both number (sign signs.CloseBracket) NumberAt (SignAt signs.CloseBracket) of_none of_none Free Free lawful_number (lawful_sign signs.CloseBracket) (some_sign signs.CloseBracket) (λ w zs rest d stop. tt))
    ((some_number.0, (some_sign signs.CloseBracket).0), some_number.1 ++ (some_sign signs.CloseBracket).1, (some_number.1, (some_sign signs.CloseBracket).1, refl, some_number.2, (some_sign signs.CloseBracket).2))
    (λ w zs rest d stop. tt))
    WidthAt of_none
    (λ q ys d. record {
      opening = d.3.0;
      number = d.4.3.0;
      closing = d.4.4.0;
      split = d.2 ∙ ap (λ z. z ++ d.1) d.3.1 ∙ ap (λ z. d.3.0 ∷ z) (d.4.2 ∙ ap (λ z. z ++ d.4.1) d.4.3.1 ∙ ap (λ z. d.4.3.0 ∷ z) d.4.4.1);
      opens = d.3.2;
      is = d.4.3.2;
      closes = d.4.4.2;
    })
    (λ n ys d. (
      ((tt, d.opening.place), ((n, d.number.place), (tt, d.closing.place))),
      refl,
      (d.opening ∷ [], d.number ∷ d.closing ∷ [], d.split, (d.opening, refl, d.opens, refl), (d.number ∷ [], d.closing ∷ [], refl, (d.number, refl, d.is, refl), (d.closing, refl, d.closes, refl))),
    ))
    (λ a. refl)

some_width : Inhabited WidthAt
some_width = (
  0,
  token (kind.Sign signs.OpenBracket) ∷ token (kind.Number 0) ∷ token (kind.Sign signs.CloseBracket) ∷ [],
  record {
    opening = token (kind.Sign signs.OpenBracket);
    number = token (kind.Number 0);
    closing = token (kind.Sign signs.CloseBracket);
    split = refl;
    opens = refl;
    is = refl;
    closes = refl;
  },
)

-- an interval
abbrev interval_of : ℤ × ((Unit {0} × Place) × ℤ) → PlainDomain
interval_of q = between q.0 q.1.1

abbrev IntervalAt : PlainDomain → List Token → Type 0
IntervalAt = Made interval_of (Both SpellsInteger (Both (SignAt signs.Range) SpellsInteger))

lawful_interval : Lawful interval IntervalAt of_domain Free
unfolding interval
lawful_interval = lawful_made interval_of (both integer (both (sign signs.Range) integer)) (Both SpellsInteger (Both (SignAt signs.Range) SpellsInteger)) (of_both of_none (of_both of_none of_none)) of_domain Free
    (lawful_both integer (both (sign signs.Range) integer) SpellsInteger (Both (SignAt signs.Range) SpellsInteger) of_none (of_both of_none of_none) Free Free lawful_integer
    (lawful_both (sign signs.Range) integer (SignAt signs.Range) SpellsInteger of_none of_none Free Free (lawful_sign signs.Range) lawful_integer some_integer (λ w zs rest d stop. tt))
    (((some_sign signs.Range).0, some_integer.0), (some_sign signs.Range).1 ++ some_integer.1, ((some_sign signs.Range).1, some_integer.1, refl, (some_sign signs.Range).2, some_integer.2))
    (λ w zs rest d stop. tt))
    (λ a. refl)

-- actual parameters
listed_to : {s : Sign} {vs : List Tree} {ys : List Token} → Listed (Spells all_levels) s vs ys → SpellsListed s (trees_of vs) ys
listed_to {s} {vs} {ys} d = carried (SpellsListed s) (ap trees_of (sym d.values)) (sym d.split) (go d.first d.tokens d.spells d.more)
  where
    go : (t : Tree) (xs : List Token) → Spells all_levels t xs → {ws : List Tree} {zs : List Token} → Many (Behind signs.Comma (Spells all_levels)) ws zs → SpellsListed s (tree t (trees_of ws)) (xs ++ (zs ++ d.closing ∷ []))
    go t xs e none = last_one e d.closing d.closes
    go t xs e (more {v = v} {vs = ws} {ys = us} {zs = zs} x f m) =
        subst (λ z. SpellsListed s (tree t (tree v (trees_of ws))) (xs ++ x ∷ z)) (sym (append_assoc us zs (d.closing ∷ []))) (one_before e x f.0 (go v us f.1 m))

listed_from : {s : Sign} {ts : Trees} {ys : List Token} → SpellsListed s ts ys → (vs : List Tree) × (trees_of vs ≡ ts) × Listed (Spells all_levels) s vs ys
listed_from (last_one {t = t} {xs = xs} e closing c) = (
  t ∷ [],
  refl,
  record {
    first = t;
    others = [];
    tokens = xs;
    remainder = [];
    closing = closing;
    values = refl;
    split = refl;
    spells = e;
    more = none;
    closes = c;
  },
)
listed_from (one_before {t = t} {u = u} {ts = ts} {xs = xs} {ys = zs} e comma c rest) =
    let d = listed_from rest in (
      t ∷ d.0,
      ap (tree t) d.1,
      record {
        first = t;
        others = d.0;
        tokens = xs;
        remainder = comma ∷ (d.2.tokens ++ d.2.remainder);
        closing = d.2.closing;
        values = refl;
        split = ap (λ z. xs ++ comma ∷ z) (d.2.split ∙ sym (append_assoc d.2.tokens d.2.remainder (d.2.closing ∷ [])));
        spells = e;
        more = carried (Many (Behind signs.Comma (Spells all_levels))) (sym d.2.values) refl (more comma (c, d.2.spells) d.2.more);
        closes = d.2.closes;
      },
    )

actuals_to : (n : List ℕ) (vs : List Tree) (x : Token) → x.kind ≡ kind.Ident n → (ys : List Token) → Bracketed (Spells all_levels) vs ys → SpellsDomain State (instance n (trees_of vs)) (x ∷ ys)
actuals_to n vs x e ys no_brackets = instances x e no_actuals
actuals_to n vs x e ys (empty_brackets opening closing o c) = instances x e (empty_actuals opening closing o c)
actuals_to n vs x e ys (in_brackets opening o d) = instances x e (actuals opening o (listed_to d))

actuals_from : (ts : Trees) (ys : List Token) → SpellsActuals ts ys → (vs : List Tree) × (trees_of vs ≡ ts) × Bracketed (Spells all_levels) vs ys
actuals_from ts ys no_actuals = ([], refl, no_brackets)
actuals_from ts ys (empty_actuals opening closing o c) = ([], refl, empty_brackets opening closing o c)
actuals_from ts ys (actuals opening o d) = let f = listed_from d in (f.0, f.1, in_brackets opening o f.2)

comma_ends : (x : Token) (xs : List Token) → IsSign signs.Comma x → Ends (x ∷ xs)
comma_ends x xs e = ap goes_on e

close_ends : (x : Token) (xs : List Token) → IsSign signs.Close x → Ends (x ∷ xs)
close_ends x xs e = ap goes_on e

lawful_actuals : Lawful (bracketed expression) (Bracketed (Spells all_levels)) (of_all alone) NotOpen
lawful_actuals = lawful_bracketed expression (Spells all_levels) alone Ends lawful_expression comma_ends close_ends
    (λ v ys d. let o = expression_opens v ys d in (o.first, o.others, o.split, o.not_close))

-- what a variable ranges over
abbrev instance_of : List ℕ → List Tree → PlainDomain
instance_of n ts = instance n (trees_of ts)

abbrev InstanceAt : VarKind → List ℕ → PlainDomain → List Token → Type 0
InstanceAt State n d ys = Made (instance_of n) (Bracketed (Spells all_levels)) d ys
InstanceAt Input n d ys = ⊥
InstanceAt Frozen n d ys = ⊥

abbrev unsigned_of : (Unit {0} × Place) × ℕ → PlainDomain
unsigned_of q = bits q.1

abbrev DomainAt : VarKind → TokenKind → Place → PlainDomain → List Token → Type 0
DomainAt k (kind.Reserved words.Boolean) p d ys = Nothing boolean d ys
DomainAt k (kind.Reserved words.Unsigned) p d ys = Made unsigned_of (Both (WordAt words.Word) WidthAt) d ys
DomainAt k (kind.Reserved words.Word) p d ys = Made bits WidthAt d ys
DomainAt k (kind.Sign signs.OpenBrace) p d ys = Made members (Listed SpellsMember signs.CloseBrace) d ys
DomainAt k (kind.Ident n) p d ys = InstanceAt k n d ys
DomainAt k _ p d ys = ⊥

instance_law : (k : VarKind) (n : List ℕ) → PickLaw (instance_pick k n) (InstanceAt k n) of_domain NotOpen
instance_law State n = lawful_made (instance_of n) (bracketed expression) (Bracketed (Spells all_levels)) (of_all alone) of_domain NotOpen lawful_actuals (λ ts. list_trees ts ∙ sym (all_alone ts))
instance_law Input n = λ v ys d. d
instance_law Frozen n = λ v ys d. d

domain_law : (k : VarKind) (t : TokenKind) (p : Place) → PickLaw (domain_pick k t p) (DomainAt k t p) of_domain NotOpen
domain_law k (kind.Reserved words.Boolean) p = lawful_nothing boolean of_domain NotOpen refl
domain_law k (kind.Reserved words.Unsigned) p = lawful_made unsigned_of (both (word words.Word) width) (Both (WordAt words.Word) WidthAt) (of_both of_none of_none) of_domain NotOpen
    (lawful_before (both (word words.Word) width) (Both (WordAt words.Word) WidthAt) (of_both of_none of_none) Free NotOpen
    (lawful_both (word words.Word) width (WordAt words.Word) WidthAt of_none of_none Free Free (lawful_word words.Word) lawful_width some_width (λ w zs rest d stop. tt)) (λ rest stop. tt))
    (λ a. refl)
domain_law k (kind.Reserved words.Word) p = lawful_made bits width WidthAt of_none of_domain NotOpen (lawful_before width WidthAt of_none Free NotOpen lawful_width (λ rest stop. tt)) (λ a. refl)
domain_law k (kind.Sign signs.OpenBrace) p = lawful_made members (listed member signs.CloseBrace) (Listed SpellsMember signs.CloseBrace) (of_all of_none) of_domain NotOpen
    (lawful_before (listed member signs.CloseBrace) (Listed SpellsMember signs.CloseBrace) (of_all of_none) Free NotOpen
    (lawful_listed member SpellsMember of_none Free lawful_member signs.CloseBrace (λ x xs e. tt) (λ x xs e. tt) refl) (λ rest stop. tt))
    (λ a. sym (all_none a))
domain_law k (kind.Ident n) p = instance_law k n
domain_law k _ p = λ v ys d. d

abbrev DomainOf : VarKind → PlainDomain → List Token → Type 0
DomainOf k = Either (DomainAt k) IntervalAt

domain_to : (k : VarKind) (d : PlainDomain) (ys : List Token) → DomainOf k d ys → SpellsDomain k d ys
domain_to k d ys (inr e) =
    let f = e.2 in
    carried (SpellsDomain k) e.1 (ap (λ z. f.0 ++ z) (ap (λ z. z ++ f.4.1) (sym f.4.3.1) ∙ sym f.4.2) ∙ sym f.2) (types (intervals f.3 f.4.3.0 f.4.3.2 f.4.4))
domain_to k d ys (inl e) = subst (SpellsDomain k d) (sym e.2) (go k e.0.kind refl e.3)
  where
    go : (k : VarKind) (t : TokenKind) → e.0.kind ≡ t → DomainAt k t e.0.place d e.1 → SpellsDomain k d (e.0 ∷ e.1)
    go k (kind.Reserved words.Boolean) i f = carried (SpellsDomain k) (sym f.0) (ap (λ z. e.0 ∷ z) (sym f.1)) (types (booleans e.0 i))
    go k (kind.Reserved words.Unsigned) i f =
        let w = f.2.4 in
        carried (SpellsDomain k) f.1 (ap (λ z. e.0 ∷ z) (ap (λ z. f.2.3.0 ∷ z) (sym w.split) ∙ ap (λ z. z ++ f.2.1) (sym f.2.3.1) ∙ sym f.2.2))
        (types (word_types (stated e.0 i) f.2.3.0 w.opening w.number w.closing f.2.3.2 w.opens w.is w.closes))
    go k (kind.Reserved words.Word) i f =
        let w = f.2 in carried (SpellsDomain k) f.1 (ap (λ z. e.0 ∷ z) (sym w.split)) (types (word_types unstated e.0 w.opening w.number w.closing i w.opens w.is w.closes))
    go k (kind.Sign signs.OpenBrace) i f =
        let l = f.2 in carried (SpellsDomain k) (ap members (sym l.values) ∙ f.1) (ap (λ z. e.0 ∷ z) (sym l.split)) (types (enumerations e.0 i l.spells (members_to l.more) l.closing l.closes))
    go State (kind.Ident n) i f = subst (λ z. SpellsDomain State z (e.0 ∷ e.1)) f.1 (actuals_to n f.0 e.0 i e.1 f.2)
    go Input (kind.Ident n) i f = absurd f
    go Frozen (kind.Ident n) i f = absurd f
    go k _ i f = absurd f

type_from : (k : VarKind) (d : PlainDomain) (ys : List Token) → SpellsType d ys → DomainOf k d ys
type_from k d ys (booleans x e) = inl (x, [], refl, subst (λ t. DomainAt k t x.place boolean []) (sym e) (refl, refl))
type_from k d ys (enumerations {m = m} {ms = ms} {xs = xs} {ys = zs} opening o f g closing c) =
    let l : Listed SpellsMember signs.CloseBrace (m ∷ ms) (xs ++ (zs ++ closing ∷ [])) = record {
      first = m;
      others = ms;
      tokens = xs;
      remainder = zs;
      closing = closing;
      values = refl;
      split = refl;
      spells = f;
      more = members_from g;
      closes = c;
    } in
    inl (opening, xs ++ (zs ++ closing ∷ []), refl, subst (λ t. DomainAt k t opening.place (members (m ∷ ms)) (xs ++ (zs ++ closing ∷ []))) (sym o) (m ∷ ms, refl, l))
type_from k d ys (intervals {low = low} {high = high} {xs = xs} {ys = zs} f dots o g) =
    inr ((low, ((tt, dots.place), high)), refl, (xs, dots ∷ zs, refl, f, (dots ∷ [], zs, refl, (dots, refl, o, refl), g)))
type_from k d ys (word_types {n = n} unstated x opening w closing e o i c) =
    let l : WidthAt n (opening ∷ w ∷ closing ∷ []) = record { opening = opening; number = w; closing = closing; split = refl; opens = o; is = i; closes = c } in
    inl (x, opening ∷ w ∷ closing ∷ [], refl, subst (λ t. DomainAt k t x.place (bits n) (opening ∷ w ∷ closing ∷ [])) (sym e) (n, refl, l))
type_from k d ys (word_types {n = n} (stated u s) x opening w closing e o i c) =
    let l : WidthAt n (opening ∷ w ∷ closing ∷ []) = record { opening = opening; number = w; closing = closing; split = refl; opens = o; is = i; closes = c } in
    inl (
      u,
      x ∷ opening ∷ w ∷ closing ∷ [],
      refl,
      subst (λ t. DomainAt k t u.place (bits n) (x ∷ opening ∷ w ∷ closing ∷ [])) (sym s)
          (((tt, x.place), n), refl, (x ∷ [], opening ∷ w ∷ closing ∷ [], refl, (x, refl, e, refl), l)),
    )

domain_from : (k : VarKind) (d : PlainDomain) (ys : List Token) → SpellsDomain k d ys → DomainOf k d ys
domain_from k d ys (types f) = type_from k d ys f
domain_from k d ys (instances {n = n} {ts = ts} {xs = xs} x e f) =
    let g = actuals_from ts xs f in
    inl (x, xs, refl, subst (λ t. DomainAt State t x.place (instance n ts) xs) (sym e) (g.0, ap (instance n) g.1, g.2))

pub lawful_domain : (k : VarKind) → Lawful (domain k) (SpellsDomain k) of_domain NotOpen
unfolding domain
lawful_domain k = lawful_as (domain k) (DomainOf k) (SpellsDomain k) of_domain NotOpen
    (lawful_either (domain_pick k) (DomainAt k) of_domain NotOpen (domain_law k) interval IntervalAt
    (lawful_before interval IntervalAt of_domain Free NotOpen lawful_interval (λ rest stop. tt))
    (λ v ys rest d stop. let f = integer_first d.0.0 d.2.0 d.2.3 in
    subst (λ z. Unpicked (domain_pick k) (z ++ rest)) (sym (d.2.2 ∙ ap (λ z. z ++ d.2.1) f.2)) (integer_apart (λ t. domain_pick k t f.0.place ≡ None) (λ n. refl) refl f.0 f.3)))
    (domain_to k) (domain_from k)

pub domain_some : (k : VarKind) (d : PlainDomain) (ys : List Token) → SpellsDomain k d ys → (x : Token) × (zs : List Token) × (ys ≡ x ∷ zs)
domain_some k d ys f = go (domain_from k d ys f)
  where
    go : DomainOf k d ys → (x : Token) × (zs : List Token) × (ys ≡ x ∷ zs)
    go (inl e) = (e.0, e.1, e.2)
    go (inr e) = let f = integer_first e.0.0 e.2.0 e.2.3 in (f.0, f.1 ++ e.2.1, e.2.2 ∙ ap (λ z. z ++ e.2.1) f.2)
