-- A configuration in a file: alone, or inside a whole case.
use Rattle.std.specs.Prelude.{◌≡◌, ℕ, ◌+◌, ◌-◌, ◌^◌, min, count_by, Bool, false, cond, ◌&&◌, List, [], ◌∷◌, Ok, Err, Result, ◌==◌}
use Rattle.configuration.specs.declared.whir_parameters.WhirNumbers.{WhirNumbers}
use Rattle.configuration.specs.Numbers.{Numbers, numbers_of}
use Rattle.format.specs.declared.errors.Expected.{Expected}
use Rattle.format.specs.declared.errors.Fault.{Fault}
use Rattle.format.specs.declared.errors.Fault.TheVariants as fault
use Rattle.format.specs.declared.errors.ReadError.{ReadError}
use Rattle.format.specs.declared.errors.ReadError.TheVariants.{Syntax, OutOfMemory}
use Rattle.format.specs.declared.keys.Key.TheVariants.{NumVariables}
use Rattle.format.specs.Words.{letters}
use Rattle.format.specs.Reading.{Read, found, stuck, begins}
use Rattle.format.specs.Configurations.{configuration_lines}

-- How many line feeds a text has.
abbrev pub line_feeds : List ℕ → ℕ
line_feeds bs = count_by (λ b. b == 10) bs

-- A line feed with the word behind it.
abbrev pub starts_line : List ℕ → List ℕ → Bool
starts_line word [] = false
starts_line word (b ∷ bs) = b == 10 && begins word bs

-- The text from the first line that begins with the word; its end where no line does. A line begins a text and behind each line feed.
abbrev pub behind_lines : List ℕ → List ℕ → List ℕ
behind_lines word [] = []
behind_lines word (b ∷ bs) = cond (starts_line word (b ∷ bs)) bs (behind_lines word bs)

abbrev pub from_line : List ℕ → List ℕ → List ℕ
from_line word bs = cond (begins word bs) bs (behind_lines word bs)

-- The line, counted from 1, on which what is left of a text begins: one more than the line feeds before it. (The code counts to 2^64 - 1.)
abbrev pub line_of : List ℕ → List ℕ → ℕ
line_of text rest = min (2 ^ 64 - 1) (line_feeds text - line_feeds rest + 1)

-- What a file comes to: what was to be read, or a line and what was expected there.
pub data Outcome (X : Type 0) : Type 0 where
  gives : X → Outcome X
  wrong : ℕ → Expected → Outcome X

abbrev pub told : {X : Type 0} → List ℕ → Read X → Outcome X
told text (found x rest) = gives x
told text (stuck e rest) = wrong (line_of text rest) e

-- The configuration begins at the line of its variables; what follows its last line is not looked at.
unfoldable pub outcome : List ℕ → Outcome Numbers
outcome text = told text (configuration_lines (from_line (letters NumVariables) text))

-- A fault of a part, with its line.
abbrev pub placed : Fault → ℕ → ReadError
placed (fault.Syntax e) line = Syntax line e
placed fault.OutOfMemory line = OutOfMemory

-- The answer is the outcome, if what is answered is read as what was to be read: that exactly where the definition reads it, and else its
-- line and expectation. Memory may run out.
abbrev pub Tells : {X Y : Type 0} → (X → Y) → Outcome Y → Result X ReadError → Type 0
Tells read o (Ok x) = o ≡ gives (read x)
Tells read o (Err (Syntax line e)) = o ≡ wrong line e
Tells read o (Err OutOfMemory) = Unit {0}

abbrev pub Answers : Result WhirNumbers ReadError → List ℕ → Type 0
Answers r text = Tells numbers_of (outcome text) r
