-- When a model part is accepted, what the check answers, and where a part's values stand. Rests on theory's Part and Test.
--   sizes_test, elements_only, model_test: whether a part is a model part; model_answer: what the check answers
--   label_row, transition_row: where the values of a state stand; leaving_code: the code of a transition, or of its complement
use Rattle.std.specs.Prelude.{ℕ, ◌+◌, ◌*◌, ◌-◌, Bool, cond, ◌&&◌, List, ltb, leb, eqb, length, get_or, Option, Some, None}
use Rattle.theory.specs.Part.{model_length, model_of}
use Rattle.theory.specs.Test.{all_below}
use Rattle.elements.specs.Words.{value_code}
use Rattle.model.specs.declared.ModelSize.{ModelSize}

-- 'Every value is an element': each byte after the two sizes is below n
unfoldable pub elements_only : ℕ → List ℕ → Bool
elements_only n b = all_below (length b - 2) (λ i. ltb (get_or b (2 + i) 0) n)

-- 'A model part is N states (1 to 64), k propositions (0 to 16), N initial values, N·k proposition values (state by state), N·N
-- transition values (row of the state left).'
abbrev pub sizes_test : List ℕ → Bool
sizes_test b =
    ltb 0 (get_or b 0 0) && leb (get_or b 0 0) 64 && leb (get_or b 1 0) 16 && eqb (length b) (model_length (get_or b 0 0) (get_or b 1 0))

-- b is a model part over a lattice of n elements; else it is refused with 9
unfoldable pub model_test : ℕ → List ℕ → Bool
unfolding elements_only
model_test n b = sizes_test b && elements_only n b

-- its sizes, as the check answers them
abbrev pub size_of : List ℕ → ModelSize
size_of b = record { states = get_or b 0 0; propositions = get_or b 1 0 }

-- what the check answers
unfoldable pub model_answer : ℕ → List ℕ → Option ModelSize
unfolding model_test
model_answer n b = cond (model_test n b) (Some (size_of b)) None

-- the places of the proposition values and of the transition values of state q
abbrev pub label_row : List ℕ → ℕ → ℕ
label_row b q = 2 + get_or b 0 0 + q * get_or b 1 0

abbrev pub transition_row : List ℕ → ℕ → ℕ
transition_row b q = 2 + get_or b 0 0 + get_or b 0 0 * get_or b 1 0 + q * get_or b 0 0

-- the code of the transition from q to r, or that of its complement
abbrev pub leaving_code : Bool → List ℕ → List ℕ → ℕ → ℕ → ℕ
leaving_code negated w b q r = value_code negated w ((model_of b).transition q r)
