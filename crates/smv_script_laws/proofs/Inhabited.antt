-- Each name that has a type has a value of it, whose symbol is one of the model's.
use Rattle.std.proofs.Common.{◌≡◌, ℕ, zero, suc, Bool, true, false, not, ◌&&◌, ◌||◌, if◌then◌else◌, int_le, List, [], ◌∷◌, Option, Some, None, refl, ap, subst, arith, inl}
use Rattle.std.proofs.lemmas.Int.{ints}
use Rattle.std.proofs.lemmas.Nat.{pow_pos}
use Rattle.std.proofs.lemmas.Slice.Eq.{bytes_eq-Decides}
use Rattle.smv_text.specs.declared.tree.Path.{Path}
use Rattle.smv_text.specs.declared.tree.VarKind.{VarKind}
use Rattle.smv_text.specs.declared.tree.Member.{Member}
use Rattle.smv_text.specs.declared.tree.Member.TheVariants as OfMember
use Rattle.smv_text.specs.Tree.{Tree, PlainDomain, boolean, members, between, bits, instance}
use Rattle.smv_meaning.specs.declared.value.Value.{Value}
use Rattle.smv_meaning.specs.declared.value.Value.TheVariants.{Truth, Integer, Symbol, Bits}
use Rattle.smv_meaning.specs.Values.{no_value, value_same, member_value, is_among}
use Rattle.smv_meaning.specs.Operators.{word, is_width}
use Rattle.smv_meaning.specs.Expressions.{denote}
use Rattle.smv_meaning.specs.Instances.{Instance}
use Rattle.smv_meaning.specs.Names.{Found, variable_at, body_at, instance_at, symbol_of, cyclic, none, variable_of, local, found_in, steps_of}
use Rattle.smv_meaning.specs.Meaning.{is_input}
use Rattle.smv_meaning.specs.Types.{ExprType, integer_type, word_type, in_limit, hull_of}
use Rattle.smv_meaning.specs.Checks.{Position, Named, typing, variable_type}
use Rattle.smv_meaning.specs.Naming.{in_body, named_found, naming, typed_variable}
use Rattle.smv_meaning.specs.Settled.{types_in}
use Rattle.smv_meaning.specs.Typed.{Lies}
use Rattle.smv_meaning.specs.laws.Booleans.{absurd_bool}
use Rattle.smv_laws.proofs.OperatorLaws.{width_of}
use Rattle.smv_laws.proofs.TypeLaws.{NamesLie, fine}
use Rattle.smv_laws.proofs.Cycles.{In}
use Rattle.smv_laws.proofs.FoundLaws.{of_type_lies, four_true}
use Rattle.smv_items.specs.FlatItems.{symbols_of}
use Rattle.smv_flat_laws.proofs.FlatFound.{Home, home_found}
use Rattle.smv_script_laws.specs.Kinds.{IsKnown}
use Rattle.smv_script_laws.proofs.Known.{known_value}
use Rattle.smv_script_laws.proofs.Declared.{symbol_placed, member_placed}

-- where there is no type nothing is said
pub record HasValue (symbols : List (List ℕ)) (o : Option ExprType) : Type 0 where
  pub value : Value
  pub lies : Lies o value
  pub known : IsKnown symbols value

no_type : (symbols : List (List ℕ)) → HasValue symbols None
no_type symbols = record { value = no_value; lies = tt; known = tt }

if_value : (symbols : List (List ℕ)) (b : Bool) (o : Option ExprType) → (b ≡ true → HasValue symbols o) → HasValue symbols (if b then o else None)
if_value symbols true o h = h refl
if_value symbols false o h = no_type symbols

same_self : (m : Member) → value_same (member_value m) (member_value m) ≡ true
same_self (OfMember.Symbol s) = (bytes_eq-Decides s s).1 refl
same_self (OfMember.Integer z) = by (int_le z z) refl
  where
    by : (b : Bool) → int_le z z ≡ b → (b && b) ≡ true
    by true e = refl
    by false e = absurd (omega (arith, ints))

pub domain_value : (symbols : List (List ℕ)) (d : PlainDomain) → ((ms : List Member) (s : List ℕ) → d ≡ members ms → In (OfMember.Symbol s) ms → IsKnown symbols (Symbol s)) → HasValue symbols (variable_type d)
domain_value symbols boolean h = record { value = Truth false; lies = tt; known = tt }
domain_value symbols (members []) h = if_value symbols false (Some (hull_of [])) (λ e. absurd_bool e)
domain_value symbols (members (m ∷ ms)) h = record {
  value = member_value m;
  lies = of_type_lies (members (m ∷ ms)) (member_value m) (ap (λ b. b || is_among ms (member_value m)) (same_self m));
  known = known m refl;
}
  where
    known : (n : Member) → n ≡ m → IsKnown symbols (member_value n)
    known (OfMember.Symbol s) e = h (m ∷ ms) s refl (inl e)
    known (OfMember.Integer z) e = tt
domain_value symbols (between low high) h = if_value symbols (((true && in_limit (integer_type low high)) && true) && int_le low high) (Some (integer_type low high))
    (λ e. let f = four_true true (in_limit (integer_type low high)) true (int_le low high) e in let o = f.3 in record { value = Integer low; lies = (omega (arith, ints), omega (arith, ints)); known = tt })
domain_value symbols (bits n) h = if_value symbols (((true && true) && is_width n) && true) (Some (word_type n))
    (λ e. let f = four_true true true (is_width n) true e in let d = width_of n f.2 in record { value = Bits (word n 0); lies = (refl, (d.0, d.1, pow_pos n)); known = tt })
domain_value symbols (instance m es) h = no_type symbols

module _ (t : List Instance) where
  variable_value : (kind : VarKind) (d : PlainDomain) → HasValue (symbols_of t) (variable_type d) → HasValue (symbols_of t) (typed_variable true kind d)
  variable_value kind d h = by (is_input kind && not true)
    where
      by : (b : Bool) → HasValue (symbols_of t) (if b then None else variable_type d)
      by true = no_type (symbols_of t)
      by false = h

  abbrev NamesHave : (ℕ → Path → Named) → Type 0
  NamesHave names = (i : ℕ) (x : Path) → HasValue (symbols_of t) (names i x).type

  -- an expression has a value where its names have some
  pub expression_value : (names : Path → Named) → ((x : Path) → HasValue (symbols_of t) (names x).type) → (at : Position) → at.sets ≡ false → (e : Tree) → HasValue (symbols_of t) (typing names at e).type
  expression_value names h at s e =
      let f : Path → Value = λ x. (h x).value in
      record {
        value = (denote f f e).value;
        lies = (fine names f f (λ x. (h x).lies) (λ x. (h x).lies) at e).valued s;
        known = known_value (symbols_of t) f f (λ x. (h x).known) (λ x. (h x).known) e;
      }

  found_value : (names : ℕ → Path → Named) → NamesHave names → (m : Found) → Home t m → HasValue (symbols_of t) (named_found true names m).type
  found_value names g (variable_at x kind d) h =
      variable_value kind d (domain_value (symbols_of t) d (λ ms s e m. member_placed t h.0 h.1 kind ms s (subst (λ z. local t h.0 h.1 ≡ variable_of kind z) e h.3) m))
  found_value names g (body_at i x j e) h = expression_value (names j) (g j) in_body refl e
  found_value names g (instance_at i) h = no_type (symbols_of t)
  found_value names g (symbol_of x) h = record { value = Symbol x; lies = tt; known = symbol_placed t x h }
  found_value names g cyclic h = no_type (symbols_of t)
  found_value names g none h = no_type (symbols_of t)

  naming_value : (n : ℕ) → NamesHave (naming true (found_in t) n)
  unfolding naming
  naming_value zero i x = no_type (symbols_of t)
  naming_value (suc n) i x = found_value (naming true (found_in t) n) (naming_value n) (found_in t i x) (home_found t i x)

  pub names_have : NamesHave (types_in true t)
  names_have = naming_value (steps_of t)

  pub value_in : ℕ → Path → Value
  value_in i x = (names_have i x).value

  pub values_lie : (i : ℕ) → NamesLie (types_in true t i) (value_in i)
  unfolding value_in names_have
  values_lie i x = (names_have i x).lies
