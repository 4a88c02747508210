-- The lines of variables.
use Rattle.std.proofs.Common.{◌≡◌, ◌≢◌, ℕ, suc, ◌+◌, ◌<◌, ◌≤◌, Bool, true, false, not, ◌&&◌, cond, nat_le, eqb, List, [], ◌∷◌, ◌++◌, map, length, Some, None, refl, sym, ap, ◌∙◌, subst, arith, inl, inr}
use Rattle.std.specs.Prelude.{IfSome, slice_get}
use Rattle.std.specs.Option.{option_or}
use Rattle.std.specs.List.{AllByRecursion}
use Rattle.std.proofs.lemmas.Bool.Decides.{nat_tests}
use Rattle.std.proofs.lemmas.List.{append-nil, length_push}
use Rattle.word_core.specs.declared.word.TheConstants.{WIDEST}
use Rattle.btor_tree.specs.declared.args.Arg.{Arg}
use Rattle.btor_tree.specs.declared.lines.Line.{Line}
use Rattle.btor_tree.specs.declared.lines.LineOp.{LineOp}
use Rattle.btor_tree.specs.declared.lines.LineOp.TheVariants as line
use Rattle.btor_tree.specs.Fits.{IsSymbol, IsSymbolByte, OpFits, Suits, greatest_id, has_word, is_constraint, is_next, operands, sort_at, state_value, value_for, width_at}
use Rattle.btor_tree.specs.Sharing.{GrowsByShared, SaysAt, next_line, place_of_equal, placed, with_sort}
use Rattle.btor_tree.proofs.Alike.{none_says, pushed_quiet, pushed_says, pushed_sort}
use Rattle.btor_tree.proofs.Grows.{slice_get_end, slice_get_front}
use Rattle.btor_tree.proofs.Equations.{pushed_fit, pushed_wide}
use Rattle.btor_tree.proofs.Paths.{fresh, operands_append, state_value_append}
use Rattle.btor_tree.proofs.Widths.{option_cases}
use Rattle.moxi_lines.specs.TermLines.{Built}
use Rattle.moxi_lines.specs.TermLaws.{AreNumbered}
use Rattle.moxi_lines.proofs.Growing.{grown_long}
use Rattle.moxi_lines.specs.Lines.{symbol_byte, symbol_of, with_free}
use Rattle.moxi_lines.proofs.Extending.{Extends, extends_then, quiet_constraints, quietly}

-- ---- symbols

byte_is : (b : ℕ) (c : Bool) → (c ≡ true → (33 ≤ b) × (b ≢ 59)) → IsSymbolByte (cond c b 95)
byte_is b true h = let p = h refl in (λ e. absurd (omega (arith, e, p.0)), λ e. absurd (omega (arith, e, p.0)), λ e. absurd (omega (arith, e, p.0)), λ e. absurd (omega (arith, e, p.0)), p.1)
byte_is b false h = (λ e. absurd (omega (arith, e)), λ e. absurd (omega (arith, e)), λ e. absurd (omega (arith, e)), λ e. absurd (omega (arith, e)), λ e. absurd (omega (arith, e)))

visible : (b : ℕ) → ((nat_le 33 b && nat_le b 126) && not (eqb b 59)) ≡ true → (33 ≤ b) × (b ≢ 59)
visible b h = (grind (arith, nat_tests), λ e. absurd (grind (arith, nat_tests)))

bytes_are : (bs : List ℕ) → AllByRecursion IsSymbolByte (map symbol_byte bs)
bytes_are [] = tt
bytes_are (b ∷ bs) = (byte_is b _ (visible b), bytes_are bs)

pub symbol_is : (name : List ℕ) → IfSome (symbol_of name) IsSymbol
symbol_is [] = tt
symbol_is (b ∷ bs) = (omega arith, bytes_are (b ∷ bs))

-- ---- sorts

-- a sort that stands already isn't written again
pub sort_again : (ls : List Line) (w p : ℕ) → SaysAt ls p (line.Sort w) 0 [] → (with_sort ls w).0 ≡ ls
sort_again ls w p says =
    elim (option_cases (place_of_equal ls (line.Sort w) 0 [])) [
      | inl n ↦ absurd (none_says ls (line.Sort w) 0 [] n p says.0 says.1 says.2)
      | inr s ↦ ap (λ o. (placed o ls (next_line ls (line.Sort w) 0 [] None)).0) s.1
    ]

says_later : (ls more : List Line) (p : ℕ) (o : LineOp) (sort : ℕ) (args : List Arg) → SaysAt ls p o sort args → SaysAt (ls ++ more) p o sort args
says_later ls more p o sort args s = (s.0, slice_get_front ls more p s.0 s.1, s.2)

pub record Sorted (lines : List Line) (w : ℕ) : Type 0 where
  pub grows : GrowsByShared lines (with_sort lines w).0
  pub numbered : AreNumbered (with_sort lines w).0
  pub sort : sort_at (with_sort lines w).0 (with_sort lines w).1 ≡ w

pub sorted : (lines : List Line) (w : ℕ) → AreNumbered lines → 1 ≤ w → w ≤ WIDEST → length lines < greatest_id → Sorted lines w
sorted lines w n low high room =
    let suits : Suits lines (line.Sort w) 0 [] None = record { earlier = tt; sorts = (low, high, refl, refl); symbol = tt } in
    let fits = pushed_fit lines (line.Sort w) 0 [] None n.fit n.ids room suits in
    record { grows = pushed_quiet lines (line.Sort w) 0 [] None refl; numbered = record { fit = fits.0; ids = fits.1 }; sort = pushed_sort lines w [] None }

-- ---- inputs and states

abbrev pub is_free : LineOp → Bool
is_free line.Input = true
is_free line.State = true
is_free o = false

free_end : (o : LineOp) → is_free o ≡ true → (lines : List Line) (w : ℕ) (name : List ℕ) → (with_free lines o w name) ≡ ((with_sort lines w).0 ++ next_line (with_sort lines w).0 o (with_sort lines w).1 [] (symbol_of name) ∷ [], length (with_sort lines w).0)
free_end line.Input h lines w name = refl
free_end line.State h lines w name = refl
free_end o h lines w name = absurd (cc)

free_fits : (o : LineOp) → is_free o ≡ true → (lines : List Line) (s : ℕ) → 1 ≤ sort_at lines s → OpFits lines s o []
free_fits line.Input f lines s h = (h, refl)
free_fits line.State f lines s h = (h, refl)
free_fits o f lines s h = absurd (cc)

free_word : (o : LineOp) → is_free o ≡ true → has_word o ≡ true
free_word line.Input h = refl
free_word line.State h = refl
free_word o h = absurd (cc)

pub record Freed (lines : List Line) (o : LineOp) (w : ℕ) (m : Built) : Type 0 where
  pub extends : Extends lines m.0
  pub numbered : AreNumbered m.0
  pub width : width_at m.0 m.1 ≡ w
  pub there : (l : Line) × (slice_get m.0 m.1 ≡ Some l) × (l.op ≡ o)
  pub place : m.1 ≡ length (with_sort lines w).0
  pub end : length m.0 ≡ suc m.1
  pub sort : (p : ℕ) × SaysAt m.0 p (line.Sort w) 0 []
  pub no_next : state_value is_next m.0 m.1 ≡ None
  pub constraints : operands is_constraint m.0 ≡ operands is_constraint lines

free_next : (o : LineOp) → is_free o ≡ true → is_next o ≡ false
free_next line.Input h = refl
free_next line.State h = refl
free_next o h = absurd (cc)

free_constraint : (o : LineOp) → is_free o ≡ true → is_constraint o ≡ false
free_constraint line.Input h = refl
free_constraint line.State h = refl
free_constraint o h = absurd (cc)

pub freed : (o : LineOp) → is_free o ≡ true → (lines : List Line) (w : ℕ) (name : List ℕ) → AreNumbered lines → 1 ≤ w → w ≤ WIDEST → length (with_free lines o w name).0 < greatest_id → Freed lines o w (with_free lines o w name)
freed o free lines w name n low high room =
    let s = with_sort lines w in
    let l = next_line s.0 o s.1 [] (symbol_of name) in
    let e = free_end o free lines w name in
    let m = with_free lines o w name in
    let long : length m.0 ≡ length s.0 + 1 = ap (λ (z : Built). length z.0) e ∙ length_push s.0 l in
    let g = pushed_quiet lines (line.Sort w) 0 [] None refl in
    let few : length lines < greatest_id = omega (arith, room, long, grown_long lines s.0 g) in
    let k = sorted lines w n low high few in
    let suits : Suits s.0 o s.1 [] (symbol_of name) = record { earlier = tt; sorts = free_fits o free s.0 s.1 (subst (λ i. 1 ≤ i) (sym k.sort) low); symbol = symbol_is name } in
    let fits = pushed_fit s.0 o s.1 [] (symbol_of name) k.numbered.fit k.numbered.ids (omega (arith, room, long)) suits in
    record {
      extends = extends_then lines s.0 m.0 (quietly lines s.0 k.grows) (record { more = l ∷ []; is = ap (λ (z : Built). z.0) e });
      numbered = record { fit = fits.0; ids = fits.1 };
      width = pushed_wide s.0 o s.1 [] (symbol_of name) k.numbered.fit suits (free_word o free) ∙ k.sort;
      there = subst (λ (z : Built). (x : Line) × (slice_get z.0 z.1 ≡ Some x) × (x.op ≡ o)) (sym e) (l, slice_get_end s.0 l, refl);
      place = ap (λ (z : Built). z.1) e;
      end = let q : m.1 ≡ length s.0 = ap (λ (z : Built). z.1) e in omega (arith, long, q);
      sort = (s.1, subst (λ (z : Built). SaysAt z.0 s.1 (line.Sort w) 0 []) (sym e) (says_later s.0 (l ∷ []) s.1 (line.Sort w) 0 [] (pushed_says lines (line.Sort w) 0 [] None)));
      no_next = subst (λ (z : Built). state_value is_next z.0 z.1 ≡ None) (sym e)
          (state_value_append is_next s.0 (l ∷ []) (length s.0) ∙ ap (λ z. option_or z (state_value is_next (l ∷ []) (length s.0))) (fresh is_next s.0 (length s.0) k.numbered.fit (omega arith))
          ∙ ap (λ b. option_or (cond b (value_for l.args (length s.0)) None) None) (free_next o free));
      constraints = ap (λ (z : Built). operands is_constraint z.0) e ∙ operands_append is_constraint s.0 (l ∷ []) ∙ ap (λ z. z ++ operands is_constraint (l ∷ [])) (quiet_constraints lines s.0 g)
          ∙ ap (λ b. operands is_constraint lines ++ (cond b l.args [] ++ [])) (free_constraint o free) ∙ append-nil (operands is_constraint lines);
    }
