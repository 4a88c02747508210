-- A name that is put together in place.
use Rattle.std.proofs.Common.{◌≡◌, ℕ, zero, suc, ◌+◌, ◌<◌, List, [], ◌∷◌, ◌++◌, take, drop, length, refl, sym, ap, ◌∙◌, append_assoc, arith}
use Rattle.std.proofs.lemmas.List.{length-append}

take_front : (xs ys : List ℕ) → take (length xs) (xs ++ ys) ≡ xs
take_front [] ys = refl
take_front (x ∷ xs) ys = ap (λ zs. x ∷ zs) (take_front xs ys)

-- the front, and what is behind it, put into room
pub placed : (p n m l rest post : List ℕ) → m ≡ p → l ≡ n → take (length p + length n) (take (length p) (m ++ rest) ++ (l ++ post)) ≡ p ++ n
placed p n m l rest post e f =
    ap (λ x. take (length p + length n) (take (length p) (x ++ rest) ++ (l ++ post))) e
    ∙ ap (λ x. take (length p + length n) (x ++ (l ++ post))) (take_front p rest)
    ∙ ap (λ y. take (length p + length n) (p ++ (y ++ post))) f
    ∙ ap (take (length p + length n)) (sym (append_assoc p n post))
    ∙ ap (λ k. take k ((p ++ n) ++ post)) (sym (length-append p n))
    ∙ take_front (p ++ n) post

-- so many dots
abbrev dots : ℕ → List ℕ
dots zero = []
dots (suc n) = 46 ∷ dots n

abbrev pub room : List ℕ
room = 46 ∷ 46 ∷ 46 ∷ 46 ∷ 46 ∷ 46 ∷ 46 ∷ 46 ∷ 46 ∷ 46 ∷ 46 ∷ 46 ∷ 46 ∷ 46 ∷ 46 ∷ 46 ∷ 46 ∷ 46 ∷ 46 ∷ 46 ∷ 46 ∷ 46 ∷ []

dot_at : (k n : ℕ) → k < n → drop k (dots n) ≡ 46 ∷ drop (suc k) (dots n)
dot_at k zero h = absurd (omega (arith, h))
dot_at zero (suc n) h = refl
dot_at (suc k) (suc n) h = dot_at k n (omega (arith, h))

-- the path, a dot and the name, put into room that is full of dots
pub dotted : (p n m l post : List ℕ) → length p + length n < 22 → m ≡ p → l ≡ n → take (length p + 1 + length n) (take (length p + 1) (m ++ drop (length p) room) ++ (l ++ post)) ≡ p ++ 46 ∷ n
dotted p n m l post h e f =
    let more = drop (suc (length p)) room in
    let path = p ++ 46 ∷ [] in
    let dot : drop (length p) room ≡ 46 ∷ more = dot_at (length p) 22 (omega (arith, h)) in
    let long : length p + 1 ≡ length path = sym (length-append p (46 ∷ [])) in
    let whole : length p + 1 + length n ≡ length (path ++ n) = ap (λ k. k + length n) long ∙ sym (length-append path n) in
    let front : take (length p + 1) (m ++ drop (length p) room) ≡ path =
    ap (λ x. take (length p + 1) (x ++ drop (length p) room)) e ∙ ap (λ r. take (length p + 1) (p ++ r)) dot
    ∙ ap (take (length p + 1)) (sym (append_assoc p (46 ∷ []) more)) ∙ ap (λ k. take k (path ++ more)) long ∙ take_front path more in
    ap (λ x. take (length p + 1 + length n) (x ++ (l ++ post))) front ∙ ap (λ y. take (length p + 1 + length n) (path ++ (y ++ post))) f
    ∙ ap (take (length p + 1 + length n)) (sym (append_assoc path n post)) ∙ ap (λ k. take k ((path ++ n) ++ post)) whole ∙ take_front (path ++ n) post
    ∙ append_assoc p (46 ∷ []) n
