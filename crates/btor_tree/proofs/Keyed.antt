-- What a key is of lines, and the places of what keys say.
use Rattle.std.proofs.Common.{◌≡◌, ℕ, zero, suc, ◌<◌, Bool, true, false, ◌&&◌, cond, List, [], ◌∷◌, ◌++◌, length, Option, Some, None, option_map, refl, sym, ap, ◌∙◌, subst, arith}
use Rattle.std.specs.Prelude.{slice_index_or}
use Rattle.std.specs.Option.{option_or}
use Rattle.std.specs.declared.cmp.Ordering.{Ordering}
use Rattle.std.specs.declared.cmp.Reverse.{Reverse}
use Rattle.std.specs.declared.cmp.Ordering.TheVariants.{Less, Equal, Greater}
use Rattle.std.specs.Ordering.{ordering_then, nat_cmp, bool_cmp}
use Rattle.std.specs.Cmp.{bool_cmp_total, Equal-is}
use Rattle.std.proofs.lemmas.Cmp.{nat_cmp_total, tied_itself}
use Rattle.std.specs.BTreeMap.{is_at}
use Rattle.std.proofs.lemmas.Map.Lookups.{CmpEqualImpliesEq, exact_unsigned}
use Rattle.std.proofs.lemmas.Bool.{and_parts, and_from, and_right, both_ways, false_from_ne_true}
use Rattle.btor_tree.specs.declared.args.Arg.{Arg}
use Rattle.btor_tree.specs.declared.lines.Line.{Line}
use Rattle.btor_tree.specs.declared.lines.LineOp.{LineOp}
use Rattle.btor_tree.specs.declared.lines.LineOp.TheVariants as op
use Rattle.btor_tree.specs.declared.line_key.LineKey.{LineKey}
use Rattle.btor_tree.specs.Fits.{plain_arg, OnOne, OnTwo, OnThree, OpFits, Suits, Fits, greatest_id}
use Rattle.btor_tree.specs.Held.{IsNumbered}
use Rattle.btor_tree.specs.Sharing.{is_shared, is_equal_line, place_of_equal, standing, next_line, Says}
use Rattle.btor_tree.specs.LineKeys.{IsShort, key_of, line_key, arg_cmp, key_cmp, is_keyed, place_keyed}
use Rattle.btor_tree.proofs.Alike.{alike_says, says_alike, op_told}

-- the order of keys tells them apart
pub then_parts : (a b : Ordering) → ordering_then a b ≡ Equal → (a ≡ Equal) × (b ≡ Equal)
then_parts Less b h = absurd (cc)
then_parts Equal b h = (refl, h)
then_parts Greater b h = absurd (cc)

pub then_equal : (a b : Ordering) → a ≡ Equal → b ≡ Equal → ordering_then a b ≡ Equal
then_equal a b h g = ap (λ o. ordering_then o b) h ∙ g

pub bool_exact : CmpEqualImpliesEq bool_cmp
bool_exact true true h = refl
bool_exact true false h = absurd (cc)
bool_exact false true h = absurd (cc)
bool_exact false false h = refl

pub arg_exact : CmpEqualImpliesEq arg_cmp
arg_exact a b h =
    let p = then_parts (nat_cmp a.line b.line) (bool_cmp a.negated b.negated) h in
    ap (λ n. record { line = n; negated = a.negated }) (exact_unsigned a.line b.line p.0) ∙ ap (λ s. record { line = b.line; negated = s }) (bool_exact a.negated b.negated p.1)

pub arg_self : (a : Arg) → arg_cmp a a ≡ Equal
arg_self a = then_equal _ _ (tied_itself nat_cmp_total a.line) (tied_itself bool_cmp_total a.negated)

abbrev reverse : Arg → Reverse Arg
reverse a = record { 0 = a }

reverse_exact : (a b : Reverse Arg) → arg_cmp b.0 a.0 ≡ Equal → a ≡ b
reverse_exact a b h = ap reverse (sym (arg_exact b.0 a.0 h))

-- what two keys that compare as equal have in common
record SameKey (a b : LineKey) : Type 0 where
  first : a.first ≡ b.first
  second : a.second ≡ b.second
  number : a.number ≡ b.number
  kind : a.kind ≡ b.kind
  sort : a.sort ≡ b.sort
  other : a.other ≡ b.other
  third : a.third ≡ b.third
  count : a.count ≡ b.count

same_key : (a b : LineKey) → key_cmp a b ≡ Equal → SameKey a b
same_key a b h =
    let p = then_parts (arg_cmp b.first.0 a.first.0) _ h in
    let q = then_parts (arg_cmp b.second.0 a.second.0) _ p.1 in
    let r = then_parts (nat_cmp a.number b.number) _ q.1 in
    let s = then_parts (nat_cmp a.kind b.kind) _ r.1 in
    let t = then_parts (nat_cmp a.sort b.sort) _ s.1 in
    let u = then_parts (nat_cmp a.other b.other) _ t.1 in
    let v = then_parts (arg_cmp a.third b.third) (nat_cmp a.count b.count) u.1 in
    record {
      first = reverse_exact a.first b.first p.0;
      second = reverse_exact a.second b.second q.0;
      number = exact_unsigned a.number b.number r.0;
      kind = exact_unsigned a.kind b.kind s.0;
      sort = exact_unsigned a.sort b.sort t.0;
      other = exact_unsigned a.other b.other u.0;
      third = arg_exact a.third b.third v.0;
      count = exact_unsigned a.count b.count v.1;
    }

key_exact : CmpEqualImpliesEq key_cmp
key_exact a b h =
    let s = same_key a b h in
    ap (λ x. record { first = x; second = a.second; number = a.number; kind = a.kind; sort = a.sort; other = a.other; third = a.third; count = a.count }) s.first
    ∙ ap (λ x. record { first = b.first; second = x; number = a.number; kind = a.kind; sort = a.sort; other = a.other; third = a.third; count = a.count }) s.second
    ∙ ap (λ x. record { first = b.first; second = b.second; number = x; kind = a.kind; sort = a.sort; other = a.other; third = a.third; count = a.count }) s.number
    ∙ ap (λ x. record { first = b.first; second = b.second; number = b.number; kind = x; sort = a.sort; other = a.other; third = a.third; count = a.count }) s.kind
    ∙ ap (λ x. record { first = b.first; second = b.second; number = b.number; kind = b.kind; sort = x; other = a.other; third = a.third; count = a.count }) s.sort
    ∙ ap (λ x. record { first = b.first; second = b.second; number = b.number; kind = b.kind; sort = b.sort; other = x; third = a.third; count = a.count }) s.other
    ∙ ap (λ x. record { first = b.first; second = b.second; number = b.number; kind = b.kind; sort = b.sort; other = b.other; third = x; count = a.count }) s.third
    ∙ ap (λ x. record { first = b.first; second = b.second; number = b.number; kind = b.kind; sort = b.sort; other = b.other; third = b.third; count = x }) s.count

key_self : (k : LineKey) → key_cmp k k ≡ Equal
key_self k =
    then_equal _ _ (arg_self k.first.0) (then_equal _ _ (arg_self k.second.0) (then_equal _ _ (tied_itself nat_cmp_total k.number) (then_equal _ _ (tied_itself nat_cmp_total k.kind)
    (then_equal _ _ (tied_itself nat_cmp_total k.sort) (then_equal _ _ (tied_itself nat_cmp_total k.other) (then_equal _ _ (arg_self k.third) (tied_itself nat_cmp_total k.count)))))))

pub at_itself : (k : LineKey) → is_at (key_cmp k) k ≡ true
at_itself k = (Equal-is (key_cmp k k)).1 (key_self k)

pub at_same : (k q : LineKey) → is_at (key_cmp k) q ≡ true → k ≡ q
at_same k q h = key_exact k q ((Equal-is (key_cmp k q)).0 h)

-- lines have three arguments at most
one_long : (args : List Arg) (P : Arg → Type 0) → OnOne args P → IsShort args
one_long [] P h = absurd h
one_long (a ∷ []) P h = omega arith
one_long (a ∷ b ∷ more) P h = absurd h

two_long : (args : List Arg) (P : Arg → Arg → Type 0) → OnTwo args P → IsShort args
two_long [] P h = absurd h
two_long (a ∷ []) P h = absurd h
two_long (a ∷ b ∷ []) P h = omega arith
two_long (a ∷ b ∷ c ∷ more) P h = absurd h

three_long : (args : List Arg) (P : Arg → Arg → Arg → Type 0) → OnThree args P → IsShort args
three_long [] P h = absurd h
three_long (a ∷ []) P h = absurd h
three_long (a ∷ b ∷ []) P h = absurd h
three_long (a ∷ b ∷ c ∷ []) P h = omega arith
three_long (a ∷ b ∷ c ∷ d ∷ more) P h = absurd h

none_long : (args : List Arg) → args ≡ [] → IsShort args
none_long args h = omega (arith, ap length h)

pub fits_short : (before : List Line) (s : ℕ) (o : LineOp) (args : List Arg) → OpFits before s o args → IsShort args
fits_short before s (op.Sort w) args h = none_long args h.3
fits_short before s (op.Constant c) args h = none_long args h.2
fits_short before s op.Init args h = two_long args _ h
fits_short before s op.Next args h = two_long args _ h
fits_short before s op.Bad args h = one_long args _ h.1
fits_short before s op.Constraint args h = one_long args _ h.1
fits_short before s op.Output args h = one_long args _ h.1
fits_short before s (op.Unary u) args h = one_long args _ h.1
fits_short before s (op.Binary b) args h = two_long args _ h.1
fits_short before s op.Ite args h = three_long args _ h.1
fits_short before s (op.Slice high low) args h = one_long args _ h.1
fits_short before s (op.Uext n) args h = one_long args _ h.1
fits_short before s (op.Sext n) args h = one_long args _ h.1
fits_short before s o args h = none_long args h.1

-- lists as long as each other with the same elements
pub same_lists : (xs ys : List Arg) (d : Arg) → length xs ≡ length ys → ((i : ℕ) → i < length xs → slice_index_or xs i d ≡ slice_index_or ys i d) → xs ≡ ys
same_lists [] [] d e h = refl
same_lists [] (y ∷ ys) d e h = absurd (omega (arith, e))
same_lists (x ∷ xs) [] d e h = absurd (omega (arith, e))
same_lists (x ∷ xs) (y ∷ ys) d e h =
    ap (λ z. z ∷ xs) (h zero (omega arith)) ∙ ap (λ zs. y ∷ zs) (same_lists xs ys d (omega (arith, e)) (λ i lt. h (suc i) (omega (arith, lt))))

pub by_three : (P : ℕ → Type 0) → P 0 → P 1 → P 2 → (i : ℕ) → i < 3 → P i
by_three P a b c zero h = a
by_three P a b c (suc zero) h = b
by_three P a b c (suc (suc zero)) h = c
by_three P a b c (suc (suc (suc i))) h = absurd (omega (arith, h))

same_args : (xs ys : List Arg) → IsShort xs → length xs ≡ length ys → slice_index_or xs 0 (plain_arg 0) ≡ slice_index_or ys 0 (plain_arg 0) → slice_index_or xs 1 (plain_arg 0) ≡ slice_index_or ys 1 (plain_arg 0) → slice_index_or xs 2 (plain_arg 0) ≡ slice_index_or ys 2 (plain_arg 0) → xs ≡ ys
same_args xs ys short e a b c =
    same_lists xs ys (plain_arg 0) e (λ i h. by_three (λ j. slice_index_or xs j (plain_arg 0) ≡ slice_index_or ys j (plain_arg 0)) a b c i (omega (arith, h, short)))

-- a key that is found is that of a line that says the same
keyed_says : (o : LineOp) (sort : ℕ) (args : List Arg) (l : Line) → is_shared o ≡ true → IsShort args → is_keyed (key_of o sort args) l ≡ true → Says o sort args l
keyed_says o sort args l h short e =
    let p = and_parts _ _ e in
    let s = same_key (key_of o sort args) (key_of l.op l.sort l.args) ((Equal-is (key_cmp (key_of o sort args) (key_of l.op l.sort l.args))).0 p.1) in
    (sym (op_told o l.op h s.kind s.number s.other), sym s.sort, sym (same_args args l.args short s.count (ap (λ (r : Reverse Arg). r.0) s.first) (ap (λ (r : Reverse Arg). r.0) s.second) s.third))

says_keyed : (o : LineOp) (sort : ℕ) (args : List Arg) (l : Line) → is_shared o ≡ true → Says o sort args l → is_keyed (key_of o sort args) l ≡ true
says_keyed o sort args l h s =
    let k : key_of l.op l.sort l.args ≡ key_of o sort args = ap (λ x. key_of x l.sort l.args) s.0 ∙ ap (λ x. key_of o x l.args) s.1 ∙ ap (key_of o sort) s.2 in
    and_from _ _ (ap is_shared s.0 ∙ h) (subst (λ q. is_at (key_cmp (key_of o sort args)) q ≡ true) (sym k) (at_itself (key_of o sort args)))

both_so : (a b : Bool) → (a ≡ true → b ≡ true) → (b ≡ true → a ≡ true) → a ≡ b
both_so true b f g = sym (f refl)
both_so false true f g = g refl
both_so false false f g = refl

pub alike_keyed : (o : LineOp) (sort : ℕ) (args : List Arg) (l : Line) → is_shared o ≡ true → IsShort args → is_equal_line o sort args l ≡ is_keyed (key_of o sort args) l
alike_keyed o sort args l h short =
    both_so _ _ (λ e. says_keyed o sort args l h (alike_says o sort args l h e)) (λ e. says_alike o sort args l (keyed_says o sort args l h short e))

places_same : (lines : List Line) (o : LineOp) (sort : ℕ) (args : List Arg) → is_shared o ≡ true → IsShort args → place_of_equal lines o sort args ≡ place_keyed lines (key_of o sort args)
places_same [] o sort args h short = refl
places_same (l ∷ ls) o sort args h short =
    ap (λ b. cond b (Some 0) (option_map suc (place_of_equal ls o sort args))) (alike_keyed o sort args l h short)
    ∙ ap (λ r. cond (is_keyed (key_of o sort args) l) (Some 0) (option_map suc r)) (places_same ls o sort args h short)

-- where what is pushed stands
pub standing_keyed : (lines : List Line) (l : Line) → is_shared l.op ≡ true → IsShort l.args → standing lines l.op l.sort l.args ≡ place_keyed lines (line_key l)
standing_keyed lines l h short =
    ap (λ b. cond b (place_of_equal lines l.op l.sort l.args) None) h ∙ places_same lines l.op l.sort l.args h short

-- one line more
or_step : (b c : Bool) (r : Option ℕ) (n : ℕ) → cond b (Some 0) (option_map suc (option_or r (cond c (Some n) None))) ≡ option_or (cond b (Some 0) (option_map suc r)) (cond c (Some (suc n)) None)
or_step true c r n = refl
or_step false c (Some x) n = refl
or_step false true None n = refl
or_step false false None n = refl

pub place_push : (lines : List Line) (l : Line) (k : LineKey) → place_keyed (lines ++ l ∷ []) k ≡ option_or (place_keyed lines k) (cond (is_keyed k l) (Some (length lines)) None)
place_push [] l k = refl
place_push (m ∷ ms) l k =
    ap (λ r. cond (is_keyed k m) (Some 0) (option_map suc r)) (place_push ms l k) ∙ or_step (is_keyed k m) (is_keyed k l) (place_keyed ms k) (length ms)

or_none : (r : Option ℕ) → option_or r None ≡ r
or_none None = refl
or_none (Some x) = refl

-- a line that doesn't say what a key does
pub push_not : (lines : List Line) (l : Line) (q : LineKey) → is_keyed q l ≡ false → place_keyed lines q ≡ place_keyed (lines ++ l ∷ []) q
push_not lines l q h =
    sym (or_none (place_keyed lines q)) ∙ ap (λ b. option_or (place_keyed lines q) (cond b (Some (length lines)) None)) (sym h) ∙ sym (place_push lines l q)

pub unshared_keyed : (k : LineKey) (l : Line) → is_shared l.op ≡ false → is_keyed k l ≡ false
unshared_keyed k l h = ap (λ b. b && is_at (key_cmp k) (line_key l)) h

pub other_keyed : (k : LineKey) (l : Line) → (k ≡ line_key l → ⊥) → is_keyed k l ≡ false
other_keyed k l h = and_right _ _ (false_from_ne_true _ (λ e. h (at_same k (line_key l) e)))

-- the place of a key where a line that says what none did comes at the end
pub place_more : (lines : List Line) (l : Line) (q : LineKey) → is_shared l.op ≡ true → place_keyed lines (line_key l) ≡ None → (b : Bool) → is_at (key_cmp (line_key l)) q ≡ b → cond b (Some (length lines)) (place_keyed lines q) ≡ place_keyed (lines ++ l ∷ []) q
place_more lines l q h none true e =
    let same : line_key l ≡ q = at_same (line_key l) q e in
    let absent : place_keyed lines q ≡ None = ap (place_keyed lines) (sym same) ∙ none in
    let there : is_keyed q l ≡ true = and_from _ _ h (subst (λ x. is_at (key_cmp x) (line_key l) ≡ true) same (at_itself (line_key l))) in
    sym (place_push lines l q ∙ ap (λ r. option_or r (cond (is_keyed q l) (Some (length lines)) None)) absent ∙ ap (λ b. option_or None (cond b (Some (length lines)) None)) there)
place_more lines l q h none false e =
    push_not lines l q (other_keyed q l (λ s. both_ways (is_at (key_cmp (line_key l)) q) e (subst (λ x. is_at (key_cmp (line_key l)) x ≡ true) (sym s) (at_itself (line_key l)))))

pub fits_next : (lines : List Line) (o : LineOp) (sort : ℕ) (args : List Arg) (symbol : Option (List ℕ)) → IsNumbered lines → length lines < greatest_id → Suits lines o sort args symbol → Fits lines (next_line lines o sort args symbol)
fits_next lines o sort args symbol numbered room suits = record { rises = omega (arith, numbered); small = omega (arith, room); body = suits }
