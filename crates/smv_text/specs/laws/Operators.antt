-- A token is an operator of a class where its operator is of that class.
use Rattle.std.proofs.Common.{◌≡◌, Bool, true, false, cond, nat_eq, get_or, Option, Some, None, List, [], ◌∷◌, refl, sym, ap, ◌∙◌}
use Rattle.std.proofs.lemmas.Bool.{eqb-true}
use Rattle.smv_text.specs.declared.token.Reserved.TheVariants as word
use Rattle.smv_text.specs.declared.token.Sign.TheVariants as sign
use Rattle.smv_text.specs.declared.token.TokenKind.{TokenKind}
use Rattle.smv_text.specs.declared.token.TokenKind.TheVariants as kind
use Rattle.smv_text.specs.declared.operators.Infix.{Infix}
use Rattle.smv_text.specs.declared.level.OperatorClass.{OperatorClass}
use Rattle.smv_text.specs.declared.level.OperatorClass.TheVariants as classes
use Rattle.smv_text.specs.Levels.{infix_of, infix_at, class_of, class_number, of_class}

pub infix_is : (c : OperatorClass) (k : TokenKind) → infix_of c k ≡ of_class c (infix_at k)
infix_is classes.Implications (kind.Sign sign.Open) = refl
infix_is classes.Implications (kind.Sign _) = refl
infix_is classes.Implications (kind.Reserved word.Module) = refl
infix_is classes.Implications (kind.Reserved _) = refl
infix_is classes.Implications _ = refl
infix_is classes.Equivalences (kind.Sign sign.Open) = refl
infix_is classes.Equivalences (kind.Sign _) = refl
infix_is classes.Equivalences (kind.Reserved word.Module) = refl
infix_is classes.Equivalences (kind.Reserved _) = refl
infix_is classes.Equivalences _ = refl
infix_is classes.Disjunctions (kind.Sign sign.Open) = refl
infix_is classes.Disjunctions (kind.Sign _) = refl
infix_is classes.Disjunctions (kind.Reserved word.Module) = refl
infix_is classes.Disjunctions (kind.Reserved _) = refl
infix_is classes.Disjunctions _ = refl
infix_is classes.Conjunctions (kind.Sign sign.Open) = refl
infix_is classes.Conjunctions (kind.Sign _) = refl
infix_is classes.Conjunctions (kind.Reserved word.Module) = refl
infix_is classes.Conjunctions (kind.Reserved _) = refl
infix_is classes.Conjunctions _ = refl
infix_is classes.Comparisons (kind.Sign sign.Open) = refl
infix_is classes.Comparisons (kind.Sign _) = refl
infix_is classes.Comparisons (kind.Reserved word.Module) = refl
infix_is classes.Comparisons (kind.Reserved _) = refl
infix_is classes.Comparisons _ = refl
infix_is classes.Memberships (kind.Sign sign.Open) = refl
infix_is classes.Memberships (kind.Sign _) = refl
infix_is classes.Memberships (kind.Reserved word.Module) = refl
infix_is classes.Memberships (kind.Reserved _) = refl
infix_is classes.Memberships _ = refl
infix_is classes.Unions (kind.Sign sign.Open) = refl
infix_is classes.Unions (kind.Sign _) = refl
infix_is classes.Unions (kind.Reserved word.Module) = refl
infix_is classes.Unions (kind.Reserved _) = refl
infix_is classes.Unions _ = refl
infix_is classes.Shifts (kind.Sign sign.Open) = refl
infix_is classes.Shifts (kind.Sign _) = refl
infix_is classes.Shifts (kind.Reserved word.Module) = refl
infix_is classes.Shifts (kind.Reserved _) = refl
infix_is classes.Shifts _ = refl
infix_is classes.Sums (kind.Sign sign.Open) = refl
infix_is classes.Sums (kind.Sign _) = refl
infix_is classes.Sums (kind.Reserved word.Module) = refl
infix_is classes.Sums (kind.Reserved _) = refl
infix_is classes.Sums _ = refl
infix_is classes.Products (kind.Sign sign.Open) = refl
infix_is classes.Products (kind.Sign _) = refl
infix_is classes.Products (kind.Reserved word.Module) = refl
infix_is classes.Products (kind.Reserved _) = refl
infix_is classes.Products _ = refl
infix_is classes.Concatenations (kind.Sign sign.Open) = refl
infix_is classes.Concatenations (kind.Sign _) = refl
infix_is classes.Concatenations (kind.Reserved word.Module) = refl
infix_is classes.Concatenations (kind.Reserved _) = refl
infix_is classes.Concatenations _ = refl

all_classes : List OperatorClass
all_classes =
    classes.Implications ∷ classes.Equivalences ∷ classes.Disjunctions ∷ classes.Conjunctions ∷ classes.Comparisons ∷ classes.Memberships ∷ classes.Unions
    ∷ classes.Shifts ∷ classes.Sums ∷ classes.Products ∷ classes.Concatenations ∷ []

class_numbered : (c : OperatorClass) → get_or all_classes (class_number c) classes.Sums ≡ c
unfolding all_classes
class_numbered classes.Implications = refl
class_numbered _ = refl

-- classes are distinguished by their numbers
pub same_class : (c d : OperatorClass) → nat_eq (class_number c) (class_number d) ≡ true → c ≡ d
same_class c d e = sym (class_numbered c) ∙ ap (λ n. get_or all_classes n classes.Sums) (eqb-true (class_number c) (class_number d) e) ∙ class_numbered d

-- An operator of a class is of that class.
pub class_is : (c : OperatorClass) (k : TokenKind) (op : Infix) → infix_of c k ≡ Some op → class_of op ≡ c
class_is c k op e = go (infix_at k) (sym (infix_is c k) ∙ e)
  where
    go : (o : Option Infix) → of_class c o ≡ Some op → class_of op ≡ c
    go None f = absurd (cc)
    go (Some i) f = by (nat_eq (class_number (class_of i)) (class_number c)) refl f
      where
        by : (b : Bool) → nat_eq (class_number (class_of i)) (class_number c) ≡ b → cond b (Some i) None ≡ Some op → class_of op ≡ c
        by true same f = let is : i ≡ op = cc in ap class_of (sym is) ∙ same_class (class_of i) c same
        by false same f = absurd (cc)
