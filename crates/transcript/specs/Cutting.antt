-- A separator can be cut back into its steps and instances in one way.
use Rattle.std.specs.Prelude.{◌≡◌, ℕ, ◌^◌, ◌<◌, List}
use Rattle.std.specs.List.{AllByRecursion}
use Rattle.transcript.specs.Steps.{Step}
use Rattle.transcript.specs.Opening.{pieces}

-- Eight bytes hold a step's numbers.
abbrev pub Encodable : Step → Type 0
Encodable s = (s.width < 2 ^ 64) × (s.count < 2 ^ 64)

abbrev pub OneCut : Type 0
OneCut =
    (xs ys : List Step) (is js : List (List ℕ)) → AllByRecursion Encodable xs → AllByRecursion Encodable ys → pieces xs is ≡ pieces ys js → (xs ≡ ys) × (is ≡ js)
