use Rattle.std.proofs.Common.{◌≡◌, [], map, take}
use Rattle.transcript.specs.Steps.{step_of}
use Rattle.transcript.specs.Opening.{pieces}
use Rattle.transcript.specs.Owned.{piece_bytes}
use Rattle.transcript.proofs.separator.DomainSeparator.new.Given as goal

abbrev pub invariant-loop-step : goal.invariant-loop-step
invariant-loop-step l = map piece_bytes l.pieces.items ≡ pieces (map step_of (take l.step-index l.pattern.interactions.items)) []
