-- Formulas as bytes in prefix form: the bytes of a formula, the parse, and when a formula part is refused.
-- Rests on theory's Formula.
--   bytes_of: the bytes of a formula
--   parse, by by_code, numbered, unary and binary: a formula and the bytes after it (Parsed), to a depth
--   allowed: the rules on a formula; formula_reading, by whole: what a part is read as (FormulaReading), or that it is refused
use Rattle.std.specs.Prelude.{ℕ, zero, suc, Bool, cond, ◌&&◌, List, [], ◌∷◌, ◌++◌, eqb, leb, length}
use Rattle.theory.specs.Formula.{Formula, bottom, top, prop, negated, var, or, and, AX, EX, mu, nu, closed, over_props, nested_binders}

-- 'Codes: 0 bottom; 1 top; 2 proposition; 3 negated proposition (2 and 3 are followed by its number, below k); 4 variable, followed
-- by the count of binders between it and its own (0 is the nearest); 5 or; 6 and; 7 AX; 8 EX; 9 least fixpoint; 10 greatest fixpoint.'
unfoldable pub bytes_of : Formula → List ℕ
bytes_of bottom = 0 ∷ []
bytes_of top = 1 ∷ []
bytes_of (prop p) = 2 ∷ p ∷ []
bytes_of (negated p) = 3 ∷ p ∷ []
bytes_of (var v) = 4 ∷ v ∷ []
bytes_of (or f g) = 5 ∷ bytes_of f ++ bytes_of g
bytes_of (and f g) = 6 ∷ bytes_of f ++ bytes_of g
bytes_of (AX f) = 7 ∷ bytes_of f
bytes_of (EX f) = 8 ∷ bytes_of f
bytes_of (mu f) = 9 ∷ bytes_of f
bytes_of (nu f) = 10 ∷ bytes_of f

-- a formula and the bytes after it, or none
pub data Parsed : Type 0 where
  parsed : Formula → List ℕ → Parsed
  unparsed : Parsed

-- the number after a code
abbrev pub numbered : (ℕ → Formula) → List ℕ → Parsed
numbered f [] = unparsed
numbered f (p ∷ b) = parsed (f p) b

-- a formula of one part, and of two, the second of which begins where the first ends
abbrev pub unary : (Formula → Formula) → Parsed → Parsed
unary f unparsed = unparsed
unary f (parsed a b) = parsed (f a) b

abbrev pub binary : (Formula → Formula → Formula) → (List ℕ → Parsed) → Parsed → Parsed
binary f rest unparsed = unparsed
binary f rest (parsed a b) = unary (f a) (rest b)

-- the formula that begins with code c, followed by b; `rest` parses a formula inside it
unfoldable pub by_code : (List ℕ → Parsed) → ℕ → List ℕ → Parsed
by_code rest c b =
    cond (eqb c 0) (parsed bottom b)
    (cond (eqb c 1) (parsed top b)
    (cond (eqb c 2) (numbered prop b)
    (cond (eqb c 3) (numbered negated b)
    (cond (eqb c 4) (numbered var b)
    (cond (eqb c 5) (binary or rest (rest b))
    (cond (eqb c 6) (binary and rest (rest b))
    (cond (eqb c 7) (unary AX (rest b))
    (cond (eqb c 8) (unary EX (rest b))
    (cond (eqb c 9) (unary mu (rest b))
    (cond (eqb c 10) (unary nu (rest b)) unparsed))))))))))

-- the formula at the front of b, at most d formulas deep
unfoldable pub parse : ℕ → List ℕ → Parsed
unfolding by_code
parse zero b = unparsed
parse (suc d) [] = unparsed
parse (suc d) (c ∷ b) = by_code (parse d) c b

-- a formula part's content, or its refusal
pub data FormulaReading : Type 0 where
  read : Formula → FormulaReading
  refused : FormulaReading

-- 'At most 3 binders are nested. Every variable is bound', and each proposition is below k
abbrev pub allowed : ℕ → Formula → Bool
allowed k f = closed f && over_props k f && leb (nested_binders f) 3

-- used up exactly, and allowed
abbrev pub whole : ℕ → Parsed → FormulaReading
whole k unparsed = refused
whole k (parsed f []) = cond (allowed k f) (read f) refused
whole k (parsed f (c ∷ b)) = refused

-- 'A formula part has 1 to 255 bytes in prefix form and is used up exactly.' Else it is refused with 10.
unfoldable pub formula_reading : ℕ → List ℕ → FormulaReading
unfolding parse
formula_reading k b = cond (leb (length b) 255) (whole k (parse (length b) b)) refused
