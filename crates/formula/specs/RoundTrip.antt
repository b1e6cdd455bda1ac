-- The parse and the bytes of a formula are inverse to one another, so that a formula part is read as φ exactly when it is the bytes
-- of φ, at most 255 of them, and φ is allowed. Rests on Bytes and formula_tokens' Sizes.
--   reading_exactly: a part is read as φ exactly when it is the bytes of φ, at most 255, and φ is allowed
--   parse_bytes, bytes_parse, bytes_injective: parse and bytes are inverse to one another
--   code_refused: a code from 11 on; parse_code, parse_nil: the parse by the first byte
--   bytes_least: a formula has a byte; nested_fewer: it has more bytes than nested AX
--   FormulaPart, formula_part: what is known of a part that is read
use Rattle.std.specs.Prelude.{ℕ, zero, suc, ◌+◌, ◌-◌, ◌≤◌, ◌<◌, ◌≡◌, refl, Bool, true, false, cond, ◌&&◌, ◌↔◌, List, [], ◌∷◌, ◌++◌, leb, length}
use Rattle.std.proofs.Common.{sym, ap, ◌∙◌, append_assoc, append-nil, sub-one, arith, length-append, le-leb, leb-true}
use Rattle.theory.specs.Formula.{Formula, bottom, top, prop, negated, var, or, and, AX, EX, mu, nu, closed, over_props, nested_binders, nested_AX}
use Rattle.theory.specs.TestLaws.{and_l, and_r}
use Rattle.formula_tokens.specs.Sizes.{code_past}
use Rattle.formula.specs.Bytes.{bytes_of, Parsed, parsed, unparsed, numbered, unary, binary, by_code, parse, allowed, whole, FormulaReading, read, refused, formula_reading}

-- a formula is found or not
never_parsed : {φ : Formula} {rest : List ℕ} → unparsed ≡ parsed φ rest → ⊥
never_parsed e = let z : ◌≡◌ {A = ℕ} 0 1 = cc in omega arith

never_read : {φ : Formula} → refused ≡ read φ → ⊥
never_read e = let z : ◌≡◌ {A = ℕ} 0 1 = cc in omega arith

-- ---- the bytes of a formula are read as it

-- the code first, with less depth for what follows
pub parse_code : (d c : ℕ) (b : List ℕ) → 0 < d → parse d (c ∷ b) ≡ by_code (parse (d - 1)) c b
unfolding parse
parse_code zero c b l = absurd (omega arith)
parse_code (suc d) c b l = simp sub-one

pub parse_nil : (d : ℕ) → parse d [] ≡ unparsed
unfolding parse
parse_nil zero = refl
parse_nil (suc d) = refl

two_parts : (g : Formula → Formula → Formula) (a c : Formula) (d : ℕ) (rest : List ℕ) → parse d (bytes_of a ++ (bytes_of c ++ rest)) ≡ parsed a (bytes_of c ++ rest)
    → parse d (bytes_of c ++ rest) ≡ parsed c rest → binary g (parse d) (parse d (bytes_of a ++ bytes_of c ++ rest)) ≡ parsed (g a c) rest
two_parts g a c d rest p q = rw (append_assoc (bytes_of a) (bytes_of c) rest, p, q)

-- a depth of as many formulas as there are bytes is enough
pub parse_bytes : (φ : Formula) (d : ℕ) (rest : List ℕ) → length (bytes_of φ) ≤ d → parse d (bytes_of φ ++ rest) ≡ parsed φ rest
unfolding bytes_of by_code
parse_bytes bottom d rest l = parse_code d 0 _ (omega arith)
parse_bytes top d rest l = parse_code d 1 _ (omega arith)
parse_bytes (prop p) d rest l = parse_code d 2 _ (omega arith)
parse_bytes (negated p) d rest l = parse_code d 3 _ (omega arith)
parse_bytes (var v) d rest l = parse_code d 4 _ (omega arith)
parse_bytes (or f g) d rest l =
    let h = simp length-append at l in
    parse_code d 5 _ (omega arith) ∙ two_parts or f g (d - 1) rest (parse_bytes f (d - 1) (bytes_of g ++ rest) (omega arith)) (parse_bytes g (d - 1) rest (omega arith))
parse_bytes (and f g) d rest l =
    let h = simp length-append at l in
    parse_code d 6 _ (omega arith) ∙ two_parts and f g (d - 1) rest (parse_bytes f (d - 1) (bytes_of g ++ rest) (omega arith)) (parse_bytes g (d - 1) rest (omega arith))
parse_bytes (AX f) d rest l = parse_code d 7 _ (omega arith) ∙ simp (parse_bytes f (d - 1) rest (omega arith))
parse_bytes (EX f) d rest l = parse_code d 8 _ (omega arith) ∙ simp (parse_bytes f (d - 1) rest (omega arith))
parse_bytes (mu f) d rest l = parse_code d 9 _ (omega arith) ∙ simp (parse_bytes f (d - 1) rest (omega arith))
parse_bytes (nu f) d rest l = parse_code d 10 _ (omega arith) ∙ simp (parse_bytes f (d - 1) rest (omega arith))

-- ---- what is read as a formula is its bytes

-- 'Any code from 11 to 255 is refused'
pub code_refused : (more : List ℕ → Parsed) (c : ℕ) (b : List ℕ) → 11 ≤ c → by_code more c b ≡ unparsed
unfolding by_code
code_refused more c b l = code_past c l _ _ _ _ _ _ _ _ _ _ _ _

-- a reading that is another one's has its bytes
same_bytes : (b : List ℕ) (f φ : Formula) (t rest : List ℕ) → parsed f t ≡ parsed φ rest → b ≡ bytes_of f ++ t → b ≡ bytes_of φ ++ rest
same_bytes b f φ t rest e h = cc

-- `front` is what stands before the one part of a formula that f makes
unary_bytes : (f : Formula → Formula) (front : List ℕ) → ((a : Formula) → bytes_of (f a) ≡ front ++ bytes_of a)
    → (b : List ℕ) (p : Parsed) → ((a : Formula) (t : List ℕ) → p ≡ parsed a t → b ≡ bytes_of a ++ t)
    → (φ : Formula) (rest : List ℕ) → unary f p ≡ parsed φ rest → front ++ b ≡ bytes_of φ ++ rest
unary_bytes f front w b unparsed h φ rest e = absurd (never_parsed e)
unary_bytes f front w b (parsed a t) h φ rest e = same_bytes _ (f a) φ t rest e (simp (w a, append_assoc, h a t refl))

binary_bytes : (f : Formula → Formula → Formula) (c : ℕ) → ((a g : Formula) → bytes_of (f a g) ≡ (c ∷ bytes_of a) ++ bytes_of g)
    → (more : List ℕ → Parsed) → ((b : List ℕ) (a : Formula) (t : List ℕ) → more b ≡ parsed a t → b ≡ bytes_of a ++ t)
    → (b : List ℕ) (p : Parsed) → more b ≡ p → (φ : Formula) (rest : List ℕ) → binary f more p ≡ parsed φ rest → c ∷ b ≡ bytes_of φ ++ rest
binary_bytes f c w more h b unparsed q φ rest e = absurd (never_parsed e)
binary_bytes f c w more h b (parsed a t) q φ rest e =
    ap (λ (x : List ℕ). c ∷ x) (h b a t q) ∙ unary_bytes (f a) (c ∷ bytes_of a) (w a) t (more t) (h t) φ rest e

numbered_bytes : (f : ℕ → Formula) (c : ℕ) → ((p : ℕ) → bytes_of (f p) ≡ c ∷ p ∷ []) → (b : List ℕ) (φ : Formula) (rest : List ℕ)
    → numbered f b ≡ parsed φ rest → c ∷ b ≡ bytes_of φ ++ rest
numbered_bytes f c w [] φ rest e = absurd (never_parsed e)
numbered_bytes f c w (p ∷ b) φ rest e = same_bytes _ (f p) φ b rest e (simp (w p))

-- by the code, where `more` is right for what stands inside
code_bytes : (more : List ℕ → Parsed) → ((b : List ℕ) (a : Formula) (t : List ℕ) → more b ≡ parsed a t → b ≡ bytes_of a ++ t)
    → (c : ℕ) (b : List ℕ) (φ : Formula) (rest : List ℕ) → by_code more c b ≡ parsed φ rest → c ∷ b ≡ bytes_of φ ++ rest
unfolding bytes_of by_code
code_bytes more h zero b φ rest e = same_bytes _ bottom φ b rest e refl
code_bytes more h (suc zero) b φ rest e = same_bytes _ top φ b rest e refl
code_bytes more h (suc (suc zero)) b φ rest e = numbered_bytes prop 2 (λ p. refl) b φ rest e
code_bytes more h (suc (suc (suc zero))) b φ rest e = numbered_bytes negated 3 (λ p. refl) b φ rest e
code_bytes more h (suc (suc (suc (suc zero)))) b φ rest e = numbered_bytes var 4 (λ p. refl) b φ rest e
code_bytes more h (suc (suc (suc (suc (suc zero))))) b φ rest e = binary_bytes or 5 (λ a g. refl) more h b (more b) refl φ rest e
code_bytes more h (suc (suc (suc (suc (suc (suc zero)))))) b φ rest e = binary_bytes and 6 (λ a g. refl) more h b (more b) refl φ rest e
code_bytes more h (suc (suc (suc (suc (suc (suc (suc zero))))))) b φ rest e = unary_bytes AX (7 ∷ []) (λ a. refl) b (more b) (h b) φ rest e
code_bytes more h (suc (suc (suc (suc (suc (suc (suc (suc zero)))))))) b φ rest e = unary_bytes EX (8 ∷ []) (λ a. refl) b (more b) (h b) φ rest e
code_bytes more h (suc (suc (suc (suc (suc (suc (suc (suc (suc zero))))))))) b φ rest e = unary_bytes mu (9 ∷ []) (λ a. refl) b (more b) (h b) φ rest e
code_bytes more h (suc (suc (suc (suc (suc (suc (suc (suc (suc (suc zero)))))))))) b φ rest e = unary_bytes nu (10 ∷ []) (λ a. refl) b (more b) (h b) φ rest e
code_bytes more h (suc (suc (suc (suc (suc (suc (suc (suc (suc (suc (suc n))))))))))) b φ rest e =
    absurd (never_parsed (sym (code_refused more (suc (suc (suc (suc (suc (suc (suc (suc (suc (suc (suc n))))))))))) b (omega arith)) ∙ e))

pub bytes_parse : (d : ℕ) (b : List ℕ) (φ : Formula) (rest : List ℕ) → parse d b ≡ parsed φ rest → b ≡ bytes_of φ ++ rest
unfolding parse
bytes_parse zero b φ rest e = absurd (never_parsed e)
bytes_parse (suc d) [] φ rest e = absurd (never_parsed e)
bytes_parse (suc d) (c ∷ b) φ rest e = code_bytes (parse d) (bytes_parse d) c b φ rest e

-- two formulas with the same bytes are the same
pub bytes_injective : (φ ψ : Formula) → bytes_of φ ≡ bytes_of ψ → φ ≡ ψ
bytes_injective φ ψ e =
    let n = length (bytes_of φ) + length (bytes_of ψ) in
    let p = parse_bytes φ n [] (omega arith) in
    let q = parse_bytes ψ n [] (omega arith) in
    let same : parsed φ [] ≡ parsed ψ [] = cc in
    cc

-- a formula has at least its code, since at no depth there is none
pub bytes_least : (φ : Formula) → 1 ≤ length (bytes_of φ)
unfolding parse
bytes_least φ = let some : ¬ (length (bytes_of φ) ≤ 0) = λ l. never_parsed (parse_bytes φ 0 [] l) in omega arith

-- and more bytes than nested AX, each of which is one of them
pub nested_fewer : (φ : Formula) → nested_AX φ < length (bytes_of φ)
unfolding nested_AX bytes_of
nested_fewer bottom = omega arith
nested_fewer top = omega arith
nested_fewer (prop p) = omega arith
nested_fewer (negated p) = omega arith
nested_fewer (var v) = omega arith
nested_fewer (or f g) = omega (arith, length-append (bytes_of f) (bytes_of g), nested_fewer f, nested_fewer g)
nested_fewer (and f g) = omega (arith, length-append (bytes_of f) (bytes_of g), nested_fewer f, nested_fewer g)
nested_fewer (AX f) = omega (arith, nested_fewer f)
nested_fewer (EX f) = omega (arith, nested_fewer f)
nested_fewer (mu f) = omega (arith, nested_fewer f)
nested_fewer (nu f) = omega (arith, nested_fewer f)

-- ---- a formula part that is accepted

cond_read : (t : Bool) (x : FormulaReading) (φ : Formula) → cond t x refused ≡ read φ → (t ≡ true) × (x ≡ read φ)
cond_read true x φ e = (refl, e)
cond_read false x φ e = absurd (never_read e)

whole_read : (k : ℕ) (p : Parsed) (φ : Formula) → whole k p ≡ read φ → (p ≡ parsed φ []) × (allowed k φ ≡ true)
whole_read k unparsed φ e = absurd (never_read e)
whole_read k (parsed f []) φ e =
    let h = cond_read (allowed k f) (read f) φ e in
    let q : f ≡ φ = cc in
    (ap (λ (g : Formula). parsed g []) q, ap (allowed k) (sym q) ∙ h.0)
whole_read k (parsed f (c ∷ b)) φ e = absurd (never_read e)

-- 'A formula part has 1 to 255 bytes in prefix form and is used up exactly': a part is read as φ exactly when it is the bytes of φ, they
-- are at most 255, and φ is allowed
pub reading_exactly : (k : ℕ) (b : List ℕ) (φ : Formula) → (formula_reading k b ≡ read φ) ↔ ((b ≡ bytes_of φ) × (length b ≤ 255) × (allowed k φ ≡ true))
unfolding formula_reading
reading_exactly k b φ = (there, back)
  where
    there : formula_reading k b ≡ read φ → (b ≡ bytes_of φ) × (length b ≤ 255) × (allowed k φ ≡ true)
    there e =
        let h = cond_read (leb (length b) 255) (whole k (parse (length b) b)) φ e in
        let w = whole_read k (parse (length b) b) φ h.1 in
        (bytes_parse (length b) b φ [] w.0 ∙ append-nil (bytes_of φ), leb-true _ _ h.0, w.1)

    back : (b ≡ bytes_of φ) × (length b ≤ 255) × (allowed k φ ≡ true) → formula_reading k b ≡ read φ
    back h =
        let p : parse (length b) b ≡ parsed φ [] = ap (λ (x : List ℕ). parse (length b) x) (h.0 ∙ sym (append-nil (bytes_of φ))) ∙ parse_bytes φ (length b) [] (omega (arith, ap length h.0)) in
        simp (le-leb (length b) 255 h.1, p, h.2)

-- what is known of a part that is read as φ
pub record FormulaPart (k : ℕ) (b : List ℕ) (φ : Formula) : Type 0 where
  pub bytes : b ≡ bytes_of φ
  pub least : 1 ≤ length b
  pub most : length b ≤ 255
  pub is_closed : closed φ ≡ true
  pub props : over_props k φ ≡ true
  pub binders : nested_binders φ ≤ 3
  pub nesting_most : nested_AX φ ≤ 254

pub formula_part : (k : ℕ) (b : List ℕ) (φ : Formula) → formula_reading k b ≡ read φ → FormulaPart k b φ
formula_part k b φ e =
    let h = (reading_exactly k b φ).0 e in
    let both = and_l (closed φ && over_props k φ) (leb (nested_binders φ) 3) h.2 in
    record {
      bytes = h.0;
      least = omega (arith, bytes_least φ, ap length h.0);
      most = h.1;
      is_closed = and_l (closed φ) (over_props k φ) both;
      props = and_r (closed φ) (over_props k φ) both;
      binders = leb-true _ _ (and_r (closed φ && over_props k φ) (leb (nested_binders φ) 3) h.2);
      nesting_most = omega (arith, nested_fewer φ, h.1, ap length h.0);
    }
