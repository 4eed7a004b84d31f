-- What is bound beside the steps: the numbers that the steps do not show.
use Rattle.std.specs.Prelude.{ℕ, Bool, true, false, List, [], ◌∷◌, ◌++◌, map, length}
use Rattle.std.specs.List.{flat_map}
use Rattle.parameters.specs.Schedule.{Strategy, constant, second, per_round}
use Rattle.transcript.specs.Bytes.{eight}
use Rattle.transcript.specs.Shape.{Shape, RoundShape, Sumcheck}

-- The bytes of an instance: 1, its length in eight bytes, itself.
unfoldable pub instance_bytes : List ℕ → List ℕ
instance_bytes bs = 1 ∷ (eight (length bs) ++ bs)

-- Numbers are instances of eight bytes each.
abbrev pub numbers : List ℕ → List (List ℕ)
numbers ns = map eight ns

abbrev pub flag : Bool → ℕ
flag true = 1
flag false = 0

-- A domain with a name is bound by it and by whether its queries are stratified; one without a name is not.
abbrev pub domain_instances : List ℕ → Bool → List (List ℕ)
domain_instances [] strata = []
domain_instances (b ∷ bs) strata = (b ∷ bs) ∷ (flag strata ∷ []) ∷ []

-- The strategy: which, then its factors, with their number where they are listed.
abbrev pub strategy_numbers : Strategy → List ℕ
strategy_numbers (constant f) = 0 ∷ f ∷ []
strategy_numbers (second f g) = 1 ∷ f ∷ g ∷ []
strategy_numbers (per_round ks) = 2 ∷ length ks ∷ ks

abbrev pub sumcheck_numbers : Sumcheck → List ℕ
sumcheck_numbers s = s.turns ∷ s.difficulty ∷ []

abbrev pub round_numbers : RoundShape → List ℕ
round_numbers r = r.log_rate ∷ sumcheck_numbers r.sumcheck

abbrev pub first_numbers : Shape → List ℕ
first_numbers s =
    s.variables ∷ s.commitment_samples ∷ s.claims ∷ s.row_width ∷ s.level ∷ s.budget ∷ s.first_rate ∷ s.soundness ∷ []

abbrev pub last_numbers : Shape → List ℕ
last_numbers s =
    strategy_numbers s.strategy ++ (sumcheck_numbers s.initial ++ (sumcheck_numbers s.final
    ++ (length s.rounds ∷ flat_map round_numbers s.rounds)))

-- The instances, in order.
abbrev pub instances : Shape → List (List ℕ)
instances s = numbers (first_numbers s) ++ (domain_instances s.id s.stratified ++ numbers (last_numbers s))
