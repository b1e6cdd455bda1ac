-- Reading a formula's bytes token by token gives the formula's nodes in prefix order, and ends where its bytes end.
-- Rests on formula_tokens' Tokens and formula's Bytes.
use Rattle.std.specs.Prelude.{ℕ, zero, suc, ◌+◌, ◌≡◌, refl, List, [], ◌∷◌, ◌++◌, length, drop}
use Rattle.std.proofs.Common.{sym, ap, ◌∙◌, append_assoc, append-nil, zero-add, arith, length-append, drop-drop, drop_at}
use Rattle.theory.specs.Formula.{Formula, bottom, top, prop, negated, var, or, and, AX, EX, mu, nu}
use Rattle.formula.specs.Bytes.{bytes_of}
use Rattle.formula_tokens.specs.declared.Token.{Token}
use Rattle.formula_tokens.specs.declared.Token.TheVariants.{End}
use Rattle.formula_tokens.specs.Tokens.{token_by_code, token_of, token_size, token_at, token_end, node_of, tokens_of}

-- n tokens from the place `at` on, each read where the one before it ends
unfoldable pub tokens_from : ℕ → List ℕ → ℕ → List Token
tokens_from zero f at = []
tokens_from (suc n) f at = token_at f at ∷ tokens_from n f (token_end f at)

-- the same, of the bytes that are left
unfoldable left_tokens : ℕ → List ℕ → List Token
left_tokens zero b = []
left_tokens (suc n) b = token_of b ∷ left_tokens n (drop (token_size (token_of b)) b)

left_tokens_lem : (n : ℕ) (f : List ℕ) (at : ℕ) → tokens_from n f at ≡ left_tokens n (drop at f)
unfolding tokens_from left_tokens
left_tokens_lem zero f at = refl
left_tokens_lem (suc n) f at = simp (left_tokens_lem n f (token_end f at), drop-drop)

-- one token, and those after it
stepped : (m n : ℕ) (b : List ℕ) → left_tokens (suc m + n) b ≡ token_of b ∷ left_tokens (m + n) (drop (token_size (token_of b)) b)
unfolding left_tokens
stepped m n b = let e : suc m + n ≡ suc (m + n) = omega arith in rw e

zero_front : (n : ℕ) (t : Token) (rest : List ℕ) → t ∷ left_tokens (0 + n) rest ≡ t ∷ left_tokens n rest
zero_front n t rest = rw zero-add

behind : (front b rest : List ℕ) → drop (length front + length b) (front ++ (b ++ rest)) ≡ rest
behind front b rest = sym (drop-drop (length b) (length front) (front ++ (b ++ rest))) ∙ rw (drop_at front (b ++ rest) (length front) refl) (drop_at b rest (length b) refl)

-- a formula of two parts, after its code
two_parts : (f g : Formula) (n : ℕ) (rest : List ℕ)
    → ((m : ℕ) (more : List ℕ) → left_tokens (length (tokens_of f) + m) (bytes_of f ++ more) ≡ tokens_of f ++ left_tokens m more)
    → left_tokens (length (tokens_of g) + n) (bytes_of g ++ rest) ≡ tokens_of g ++ left_tokens n rest
    → left_tokens (length (tokens_of f ++ tokens_of g) + n) ((bytes_of f ++ bytes_of g) ++ rest) ≡ (tokens_of f ++ tokens_of g) ++ left_tokens n rest
two_parts f g n rest p q =
    let e : length (tokens_of f ++ tokens_of g) + n ≡ length (tokens_of f) + (length (tokens_of g) + n) = omega (arith, length-append (tokens_of f) (tokens_of g)) in
    rw (e, append_assoc (bytes_of f) (bytes_of g) rest, append_assoc (tokens_of f) (tokens_of g) (left_tokens n rest), p (length (tokens_of g) + n) (bytes_of g ++ rest), q)

left_bytes : (φ : Formula) (n : ℕ) (rest : List ℕ) → left_tokens (length (tokens_of φ) + n) (bytes_of φ ++ rest) ≡ tokens_of φ ++ left_tokens n rest
unfolding left_tokens token_of token_by_code token_size bytes_of node_of tokens_of
left_bytes bottom n rest = stepped 0 n (0 ∷ rest) ∙ zero_front n (node_of bottom) rest
left_bytes top n rest = stepped 0 n (1 ∷ rest) ∙ zero_front n (node_of top) rest
left_bytes (prop p) n rest = stepped 0 n (2 ∷ p ∷ rest) ∙ zero_front n (node_of (prop p)) rest
left_bytes (negated p) n rest = stepped 0 n (3 ∷ p ∷ rest) ∙ zero_front n (node_of (negated p)) rest
left_bytes (var v) n rest = stepped 0 n (4 ∷ v ∷ rest) ∙ zero_front n (node_of (var v)) rest
left_bytes (or f g) n rest = stepped _ n _ ∙ ap (λ (t : List Token). node_of (or f g) ∷ t) (two_parts f g n rest (left_bytes f) (left_bytes g n rest))
left_bytes (and f g) n rest = stepped _ n _ ∙ ap (λ (t : List Token). node_of (and f g) ∷ t) (two_parts f g n rest (left_bytes f) (left_bytes g n rest))
left_bytes (AX f) n rest = stepped _ n _ ∙ ap (λ (t : List Token). node_of (AX f) ∷ t) (left_bytes f n rest)
left_bytes (EX f) n rest = stepped _ n _ ∙ ap (λ (t : List Token). node_of (EX f) ∷ t) (left_bytes f n rest)
left_bytes (mu f) n rest = stepped _ n _ ∙ ap (λ (t : List Token). node_of (mu f) ∷ t) (left_bytes f n rest)
left_bytes (nu f) n rest = stepped _ n _ ∙ ap (λ (t : List Token). node_of (nu f) ∷ t) (left_bytes f n rest)

-- 'A reader goes through a formula part with its place in it': from the place where a formula begins, whatever stands before and after
-- it, the tokens read one after the other are the formula's nodes in prefix order, and the next place is where its bytes end
pub tokens_read : (front : List ℕ) (φ : Formula) (rest : List ℕ) (n : ℕ)
    → tokens_from (length (tokens_of φ) + n) (front ++ (bytes_of φ ++ rest)) (length front) ≡ tokens_of φ ++ tokens_from n (front ++ (bytes_of φ ++ rest)) (length front + length (bytes_of φ))
tokens_read front φ rest n =
    left_tokens_lem (length (tokens_of φ) + n) (front ++ (bytes_of φ ++ rest)) (length front)
    ∙ ap (left_tokens (length (tokens_of φ) + n)) (drop_at front (bytes_of φ ++ rest) (length front) refl)
    ∙ left_bytes φ n rest
    ∙ ap (λ (t : List Token). tokens_of φ ++ t) (sym (left_tokens_lem n (front ++ (bytes_of φ ++ rest)) (length front + length (bytes_of φ)) ∙ ap (left_tokens n) (behind front (bytes_of φ) rest)))

-- a part that is the bytes of a formula: its tokens, and then the end
pub tokens_of_part : (φ : Formula) → tokens_from (length (tokens_of φ) + 1) (bytes_of φ) 0 ≡ tokens_of φ ++ (End ∷ [])
unfolding left_tokens token_of
tokens_of_part φ = left_tokens_lem (length (tokens_of φ) + 1) (bytes_of φ) 0 ∙ ap (left_tokens (length (tokens_of φ) + 1)) (sym (append-nil (bytes_of φ))) ∙ left_bytes φ 1 []
