-- The parse by tokens: the token at the front of some bytes, and the bytes after it, decide the formula there, so that a function that goes
-- by tokens reads what `parse` says. Rests on Bytes, RoundTrip and formula_tokens' Tokens.
--   by_token: the formula that begins with a token
--   parse_token: it is what `parse` gives
--   token_bytes: the first token of a formula's bytes is its first node
use Rattle.std.specs.Prelude.{ℕ, zero, suc, ◌-◌, ◌≤◌, ◌≡◌, refl, true, false, List, [], ◌∷◌, ◌++◌, length, drop}
use Rattle.std.proofs.Common.{◌∙◌, arith}
use Rattle.theory.specs.Formula.{Formula, bottom, top, prop, negated, var, or, and, AX, EX, mu, nu}
use Rattle.formula_tokens.specs.declared.Token.{Token}
use Rattle.formula_tokens.specs.declared.Token.TheVariants.{Bottom, Top, Literal, Variable, Two, Next, Fixpoint, End, Broken}
use Rattle.formula_tokens.specs.Tokens.{token_by_code, token_of, token_size, node_of}
use Rattle.formula_tokens.specs.Sizes.{code_other}
use Rattle.formula.specs.Bytes.{bytes_of, Parsed, parsed, unparsed, unary, binary, by_code, parse}
use Rattle.formula.specs.RoundTrip.{parse_code, parse_nil, code_refused}

-- the formula that begins with a token, followed by b; `rest` parses a formula inside it
unfoldable pub by_token : (List ℕ → Parsed) → Token → List ℕ → Parsed
by_token rest Bottom b = parsed bottom b
by_token rest Top b = parsed top b
by_token rest (Literal p false) b = parsed (prop p.0) b
by_token rest (Literal p true) b = parsed (negated p.0) b
by_token rest (Variable v) b = parsed (var v) b
by_token rest (Two true) b = binary or rest (rest b)
by_token rest (Two false) b = binary and rest (rest b)
by_token rest (Next true) b = unary AX (rest b)
by_token rest (Next false) b = unary EX (rest b)
by_token rest (Fixpoint true) b = unary mu (rest b)
by_token rest (Fixpoint false) b = unary nu (rest b)
by_token rest End b = unparsed
by_token rest Broken b = unparsed

-- from a code, and the bytes after it
code_token : (rest : List ℕ → Parsed) (c : ℕ) (b : List ℕ)
    → by_code rest c b ≡ by_token rest (token_by_code c b) (drop (token_size (token_by_code c b)) (c ∷ b))
unfolding by_code by_token token_by_code token_size
code_token rest zero b = refl
code_token rest (suc zero) b = refl
code_token rest (suc (suc zero)) [] = refl
code_token rest (suc (suc zero)) (p ∷ b) = refl
code_token rest (suc (suc (suc zero))) [] = refl
code_token rest (suc (suc (suc zero))) (p ∷ b) = refl
code_token rest (suc (suc (suc (suc zero)))) [] = refl
code_token rest (suc (suc (suc (suc zero)))) (p ∷ b) = refl
code_token rest (suc (suc (suc (suc (suc zero))))) b = refl
code_token rest (suc (suc (suc (suc (suc (suc zero)))))) b = refl
code_token rest (suc (suc (suc (suc (suc (suc (suc zero))))))) b = refl
code_token rest (suc (suc (suc (suc (suc (suc (suc (suc zero)))))))) b = refl
code_token rest (suc (suc (suc (suc (suc (suc (suc (suc (suc zero))))))))) b = refl
code_token rest (suc (suc (suc (suc (suc (suc (suc (suc (suc (suc zero)))))))))) b = refl
code_token rest (suc (suc (suc (suc (suc (suc (suc (suc (suc (suc (suc n))))))))))) b =
    let c = suc (suc (suc (suc (suc (suc (suc (suc (suc (suc (suc n)))))))))) in
    rw (code_other c b (omega arith)) (code_refused rest c b (omega arith))

-- with enough depth for the bytes that are left
pub parse_token : (n : ℕ) (b : List ℕ) → length b ≤ n
    → parse n b ≡ by_token (parse (n - 1)) (token_of b) (drop (token_size (token_of b)) b)
unfolding token_of by_token
parse_token n [] l = parse_nil n
parse_token n (c ∷ b) l = parse_code n c b (omega arith) ∙ code_token (parse (n - 1)) c b

pub token_bytes : (φ : Formula) (rest : List ℕ) → token_of (bytes_of φ ++ rest) ≡ node_of φ
unfolding bytes_of token_of token_by_code node_of
token_bytes bottom rest = refl
token_bytes top rest = refl
token_bytes (prop p) rest = refl
token_bytes (negated p) rest = refl
token_bytes (var v) rest = refl
token_bytes (or f g) rest = refl
token_bytes (and f g) rest = refl
token_bytes (AX f) rest = refl
token_bytes (EX f) rest = refl
token_bytes (mu f) rest = refl
token_bytes (nu f) rest = refl
