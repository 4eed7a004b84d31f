-- What a run's separator is made of, in a file.
use Rattle.std.specs.Prelude.{ℕ, List, Result}
use Rattle.configuration.specs.Numbers.{Numbers, numbers_of}
use Rattle.format.specs.declared.errors.ReadError.{ReadError}
use Rattle.format.specs.declared.keys.Key.TheVariants.{Degree, NumVariables, NumOpeningClaims}
use Rattle.format.specs.declared.numbers.RunNumbers.{RunNumbers}
use Rattle.format.specs.Words.{letters}
use Rattle.format.specs.Reading.{Read, found, then, next_number}
use Rattle.format.specs.Lines.{line}
use Rattle.format.specs.Configurations.{configuration_lines}
use Rattle.format.specs.Files.{from_line, Outcome, told, Tells}

-- A run's numbers: the degree of the extension, those of the configuration, and how many claims are opened.
pub record Run : Type 0 where
  pub degree : ℕ
  pub numbers : Numbers
  pub claims : ℕ

abbrev pub run_of : RunNumbers → Run
run_of r = record { degree = r.degree; numbers = numbers_of r.numbers; claims = r.num_opening_claims }

-- The line of the degree; the configuration, from the first line of its variables behind that; and the line of the claims right behind it.
unfoldable pub run_lines : List ℕ → Read Run
run_lines bs =
    then (line Degree next_number bs)
    (λ degree b1. then (configuration_lines (from_line (letters NumVariables) b1))
    (λ N b2. then (line NumOpeningClaims next_number b2)
    (λ claims rest. found (record { degree = degree; numbers = N; claims = claims }) rest)))

-- A run begins at the line of its degree.
unfoldable pub run_outcome : List ℕ → Outcome Run
run_outcome text = told text (run_lines (from_line (letters Degree) text))

-- The answer is the outcome.
abbrev pub AnswersRun : Result RunNumbers ReadError → List ℕ → Type 0
AnswersRun r text = Tells run_of (run_outcome text) r
