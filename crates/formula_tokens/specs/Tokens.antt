-- What stands at a place of a formula part, where the next token begins, and the tokens of a formula. Rests on theory's Formula.
--   token_at, token_end: the token at a place, and where it ends; by token_of, token_by_code, with_number, literal and token_size
--   node_of: the token of a formula's first node; tokens_of: those of its nodes in prefix order
use Rattle.std.specs.Prelude.{ℕ, ◌+◌, Bool, true, false, cond, List, [], ◌∷◌, ◌++◌, eqb, drop}
use Rattle.theory.specs.Formula.{Formula, bottom, top, prop, negated, var, or, and, AX, EX, mu, nu}
use Rattle.formula_tokens.specs.declared.Token.{Token}
use Rattle.formula_tokens.specs.declared.Token.TheVariants.{Bottom, Top, Literal, Variable, Two, Next, Fixpoint, End, Broken}

-- a proposition by its number, negated or not
abbrev pub literal : Bool → ℕ → Token
literal negative p = Literal (record { 0 = p }) negative

-- a code that is followed by a number
abbrev pub with_number : (ℕ → Token) → List ℕ → Token
with_number t [] = Broken
with_number t (p ∷ b) = t p

-- 'Codes: 0 bottom; 1 top; 2 proposition; 3 negated proposition (2 and 3 are followed by its number, below k); 4 variable, followed
-- by the count of binders between it and its own (0 is the nearest); 5 or; 6 and; 7 AX; 8 EX; 9 least fixpoint; 10 greatest fixpoint.
-- Any code from 11 to 255 is refused.'
unfoldable pub token_by_code : ℕ → List ℕ → Token
token_by_code c b =
    cond (eqb c 0) Bottom
    (cond (eqb c 1) Top
    (cond (eqb c 2) (with_number (literal false) b)
    (cond (eqb c 3) (with_number (literal true) b)
    (cond (eqb c 4) (with_number (λ v. Variable v) b)
    (cond (eqb c 5) (Two true)
    (cond (eqb c 6) (Two false)
    (cond (eqb c 7) (Next true)
    (cond (eqb c 8) (Next false)
    (cond (eqb c 9) (Fixpoint true)
    (cond (eqb c 10) (Fixpoint false) Broken))))))))))

-- the token at the front of the bytes that are left
unfoldable pub token_of : List ℕ → Token
unfolding token_by_code
token_of [] = End
token_of (c ∷ b) = token_by_code c b

-- how many bytes a token has
unfoldable pub token_size : Token → ℕ
token_size Bottom = 1
token_size Top = 1
token_size (Literal p negative) = 2
token_size (Variable v) = 2
token_size (Two isOr) = 1
token_size (Next all) = 1
token_size (Fixpoint least) = 1
token_size End = 0
token_size Broken = 0

-- the token at a place of a part, and where it ends
abbrev pub token_at : List ℕ → ℕ → Token
token_at f at = token_of (drop at f)

abbrev pub token_end : List ℕ → ℕ → ℕ
token_end f at = at + token_size (token_at f at)

-- a formula's first node as a token
unfoldable pub node_of : Formula → Token
node_of bottom = Bottom
node_of top = Top
node_of (prop p) = literal false p
node_of (negated p) = literal true p
node_of (var v) = Variable v
node_of (or f g) = Two true
node_of (and f g) = Two false
node_of (AX f) = Next true
node_of (EX f) = Next false
node_of (mu f) = Fixpoint true
node_of (nu f) = Fixpoint false

-- its nodes in prefix order
unfoldable pub tokens_of : Formula → List Token
unfolding node_of
tokens_of bottom = node_of bottom ∷ []
tokens_of top = node_of top ∷ []
tokens_of (prop p) = node_of (prop p) ∷ []
tokens_of (negated p) = node_of (negated p) ∷ []
tokens_of (var v) = node_of (var v) ∷ []
tokens_of (or f g) = node_of (or f g) ∷ tokens_of f ++ tokens_of g
tokens_of (and f g) = node_of (and f g) ∷ tokens_of f ++ tokens_of g
tokens_of (AX f) = node_of (AX f) ∷ tokens_of f
tokens_of (EX f) = node_of (EX f) ∷ tokens_of f
tokens_of (mu f) = node_of (mu f) ∷ tokens_of f
tokens_of (nu f) = node_of (nu f) ∷ tokens_of f
