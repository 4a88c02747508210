-- Lists of tokens, taken apart by their kinds.
use Rattle.std.proofs.Common.{◌≡◌, List, [], ◌∷◌, ◌++◌, refl, ap}
use Rattle.smv_text.specs.declared.token.Token.{Token}
use Rattle.smv_text.specs.declared.token.TokenKind.{TokenKind}
use Rattle.smv_text.specs.Lexing.{kinds}

-- a token of the first kind, and the rest
pub record Headed (k : TokenKind) (ks : List TokenKind) (xs : List Token) : Type 0 where
  pub token : Token
  pub rest : List Token
  pub is : xs ≡ token ∷ rest
  pub kind : token.kind ≡ k
  pub rest_kinds : kinds rest ≡ ks

-- a front and a back
pub record Parted (ahead bs : List TokenKind) (xs : List Token) : Type 0 where
  pub front : List Token
  pub back : List Token
  pub is : xs ≡ front ++ back
  pub front_kinds : kinds front ≡ ahead
  pub back_kinds : kinds back ≡ bs

pub headed : (k : TokenKind) (ks : List TokenKind) (xs : List Token) → kinds xs ≡ k ∷ ks → Headed k ks xs
headed k ks [] e = absurd (cc)
headed k ks (x ∷ xs) e = record { token = x; rest = xs; is = refl; kind = cc; rest_kinds = cc }

pub nothing : (xs : List Token) → kinds xs ≡ [] → xs ≡ []
nothing [] e = refl
nothing (x ∷ xs) e = absurd (cc)

pub parted : (ahead bs : List TokenKind) (xs : List Token) → kinds xs ≡ ahead ++ bs → Parted ahead bs xs
parted [] bs xs e = record { front = []; back = xs; is = refl; front_kinds = refl; back_kinds = e }
parted (k ∷ ahead) bs [] e = absurd (cc)
parted (k ∷ ahead) bs (x ∷ xs) e =
    let same : x.kind ≡ k = cc in
    let p = parted ahead bs xs (cc) in
    record {
      front = x ∷ p.front;
      back = p.back;
      is = ap (λ ys. x ∷ ys) p.is;
      front_kinds = let f : kinds p.front ≡ ahead = p.front_kinds in cc;
      back_kinds = p.back_kinds;
    }
