use Rattle.std.proofs.Common.{map, take}
use Rattle.std.specs.List.{flat_map}
use Rattle.transcript.specs.Pattern.{round_steps}
use Rattle.transcript.specs.Owned.{round_of, Adds}
use Rattle.transcript.proofs.shape.WhirShape.push_rounds.Given as goal

abbrev pub invariant-loop-round : goal.invariant-loop-round
invariant-loop-round l = Adds l.initial.steps.items l.steps.items (flat_map (round_steps l.degree) (map round_of (take l.round-index l.self.rounds.items)))
