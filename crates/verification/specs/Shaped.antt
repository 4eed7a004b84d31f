-- What is so of every reading, whatever is checked. Assumes nothing.
use Rattle.std.specs.Prelude.{◌≡◌, ℕ, ◌^◌, List, length}
use Rattle.sponge.specs.Play.{Rules, read, counted}
use Rattle.sponge.specs.Deciding.{Every}
use Rattle.configuration.specs.Phases.{draws}
use Rattle.transcript.specs.Positions.{Placed}
use Rattle.verification.specs.Setting.{Setting, Inputs, RoundReading, Reading, Item, last, log_positions, given}
use Rattle.verification.specs.Verifying.{all_items, final_sumcheck, reading}

module _ {F E C P : Type 0} (S : Setting F E C P) where
  -- the draws of phase i
  abbrev pub draws_at : ℕ → ℕ
  draws_at i = draws S.numbers S.numbers.stored i

  -- The positions of phase i: as many as are drawn, each below 2^w; and where none are drawn, every one in order.
  pub record PhasePositions (i : ℕ) (ps : List ℕ) : Type 0 where
    pub placed : Placed (log_positions S i) (draws_at i) ps
    pub whole : draws_at i ≡ 0 → ps ≡ counted 0 (2 ^ log_positions S i)

  pub record RoundShaped (x : Item F E C P) (a : RoundReading E) : Type 0 where
    pub turns : length a.turns ≡ length x.part.sumcheck.messages
    pub samples : length a.samples ≡ length x.part.answers
    pub positions : PhasePositions x.number a.positions

  -- Each sumcheck has as many challenges as messages, each round as many samples as answers; and each phase has its positions.
  pub record Shaped (I : Inputs F E C P) (r : Reading E) : Type 0 where
    pub initial : length r.initial ≡ length (given S I).initial.messages
    pub rounds : Every RoundShaped (all_items S I) r.rounds
    pub positions : PhasePositions (last S) r.positions
    pub final : length r.final ≡ length (final_sumcheck S I).messages

  abbrev pub ReadingsShaped : Type 0
  ReadingsShaped = (m : Rules) (s : List ℕ) (I : Inputs F E C P) → Shaped I (read m s (reading S I)).value
