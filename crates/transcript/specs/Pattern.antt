-- The steps of a run, in order.
use Rattle.std.specs.Prelude.{◌≡◌, ℕ, zero, suc, ◌-◌, ◌^◌, Bool, true, false, cond, List, [], ◌∷◌, ◌++◌, map, ◌==◌}
use Rattle.std.specs.List.{flat_map}
use Rattle.transcript.specs.declared.interaction.Hierarchy.{Hierarchy}
use Rattle.transcript.specs.declared.interaction.Hierarchy.TheVariants.{Begin, End, Atomic}
use Rattle.transcript.specs.declared.interaction.Label.{Label}
use Rattle.transcript.specs.declared.interaction.Label.TheVariants.{InitialFold, OodPoint, OodAnswer, QueryPow, QueryIndices, RoundBatching, RoundFold, FinalPoly, FinalQueryPow, FinalQueryIndices, FinalFold}
use Rattle.transcript.specs.Steps.{Step, bracket, commitment_step, drawn_step, sent_step, grinding_step, indices_step}
use Rattle.transcript.specs.Shape.{Shape, RoundShape}

-- For each out-of-domain sample a point is drawn and an answer sent.
abbrev pub sample_steps : ℕ → ℕ → List Step
sample_steps degree zero = []
sample_steps degree (suc n) = drawn_step degree OodPoint ∷ sent_step degree 0 OodAnswer ∷ sample_steps degree n

-- Where no work is asked for there is no grinding.
abbrev pub grinding_steps : ℕ → Label → List Step
grinding_steps bits l = cond (bits == 0) [] (grinding_step bits l ∷ [])

-- The indices of a phase: one step for all, or one for each stratum depth t: 2 ^ t indices in its 2 ^ t parts, t bits fewer each.
-- Where nothing is drawn there is no step.
abbrev pub query_steps : Bool → ℕ → ℕ → List ℕ → Label → List Step
query_steps false width count ts l = cond (count == 0) [] (indices_step width count l ∷ [])
query_steps true width count ts l = map (λ t. indices_step (width - t) (2 ^ t) l) ts

-- The closing sumcheck is there only if it has rounds.
abbrev pub closing_steps : ℕ → List Step
closing_steps turns = cond (turns == 0) [] (bracket FinalFold)

abbrev pub round_steps : ℕ → RoundShape → List Step
round_steps degree r =
    commitment_step ∷ (sample_steps degree r.samples
    ++ (grinding_steps r.difficulty QueryPow
    ++ (query_steps r.stratified r.width r.drawing r.strata QueryIndices
    ++ (drawn_step degree RoundBatching ∷ bracket RoundFold))))

abbrev pub final_steps : ℕ → Shape → List Step
final_steps degree s =
    sent_step degree s.final_count FinalPoly ∷ (grinding_steps s.final_difficulty FinalQueryPow
    ++ (query_steps s.stratified s.final_width s.final_drawing s.final_strata FinalQueryIndices
    ++ closing_steps s.final.turns))

-- The steps of a run over an extension of some degree: the opening sumcheck, the rounds, the final phase.
abbrev pub pattern : ℕ → Shape → List Step
pattern degree s = bracket InitialFold ++ (flat_map (round_steps degree) s.rounds ++ final_steps degree s)

-- What a step asks of the brackets that are open: a closer closes the last one opened, by its name.
abbrev pub Closing : Hierarchy → List ℕ → List (List ℕ) → (List (List ℕ) → Type 0) → Type 0
Closing Begin l opened rest = rest (l ∷ opened)
Closing End l [] rest = ⊥
Closing End l (o ∷ os) rest = (o ≡ l) × rest os
Closing Atomic l opened rest = rest opened

-- The steps close each bracket that is open or that they open, in proper nesting.
unfoldable pub Closes : List Step → List (List ℕ) → Type 0
Closes [] opened = opened ≡ []
Closes (s ∷ ss) opened = Closing s.hierarchy s.label opened (Closes ss)

-- Every pattern is balanced.
abbrev pub Balanced : Type 0
Balanced = (degree : ℕ) (s : Shape) → Closes (pattern degree s) []
