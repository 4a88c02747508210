-- Lists of forms.
use Rattle.std.proofs.Common.{◌≡◌, List, [], ◌∷◌, length, Option, None, Some, refl, arith}
use Rattle.moxi_sexpr.specs.declared.form.Form.{Form}
use Rattle.moxi_sexpr.specs.Tree.{Tree, plain, plain_forms}
use Rattle.moxi_term_reading.specs.Forms.{only_of, pair_of}

pub only_none : (fs : List Form) → length fs ≡ 0 → only_of (plain_forms fs) ≡ None
only_none [] h = refl
only_none (f ∷ fs) h = absurd (omega arith)

pub only_one : (f : Form) (fs : List Form) → length fs ≡ 0 → only_of (plain_forms (f ∷ fs)) ≡ Some (plain f)
only_one f [] h = refl
only_one f (g ∷ fs) h = absurd (omega arith)

pub pair_none : (fs : List Form) → length fs ≡ 0 → pair_of (plain_forms fs) ≡ None
pair_none [] h = refl
pair_none (f ∷ fs) h = absurd (omega arith)

-- what the first one makes of the only one behind it
abbrev pub with_first : Tree → Option Tree → Option (Tree × Tree)
with_first t None = None
with_first t (Some u) = Some (t, u)

pub pair_rest : (f : Form) (fs : List Form) → pair_of (plain_forms (f ∷ fs)) ≡ with_first (plain f) (only_of (plain_forms fs))
pair_rest f [] = refl
pair_rest f (g ∷ []) = refl
pair_rest f (g ∷ h ∷ fs) = refl
