-- A refusal as it is read out: its number, and its values in their order.
use Rattle.std.specs.Prelude.{ℕ, List, [], ◌∷◌}

pub record Refusal : Type 0 where
  pub number : ℕ
  pub values : List ℕ

abbrev pub refusal : ℕ → List ℕ → Refusal
refusal n vs = record { number = n; values = vs }

-- 2 Folding. Its first value says which fault of the strategy was found, the others are that fault's own.
-- A factor larger than the number of variables that it is to fold.
abbrev pub too_large : ℕ → ℕ → Refusal
too_large factor variables = refusal 2 (0 ∷ factor ∷ variables ∷ [])

-- A factor that folds nothing.
abbrev pub zero_factor : Refusal
zero_factor = refusal 2 (1 ∷ [])

-- Listed factors that leave more variables than may be sent in the clear.
abbrev pub insufficient : ℕ → ℕ → ℕ → Refusal
insufficient variables remaining threshold = refusal 2 (2 ∷ variables ∷ remaining ∷ threshold ∷ [])

-- No factor listed at all.
abbrev pub empty_schedule : Refusal
empty_schedule = refusal 2 (3 ∷ [])
