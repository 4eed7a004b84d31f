-- What verifying a sumcheck does: to the sponge, to the claim, and to the places for its challenges. Assumes nothing.
use Rattle.std.specs.Prelude.{◌≡◌, ℕ, true, cond, List, [], ◌∷◌, ◌++◌, take, drop, Some, None, Ok, Err, Option, Result, ◌==◌}
use Rattle.ring.specs.Ring.{Ops}
use Rattle.argument.specs.Sumcheck.{after}
use Rattle.sponge.specs.Play.{Rules, Play, read}
use Rattle.sponge.specs.Plays.{Plays}
use Rattle.sumcheck.specs.declared.errors.SumcheckError.{SumcheckError}
use Rattle.sumcheck.specs.declared.errors.SumcheckError.TheVariants.{MessageCount, WitnessCount, Grind}
use Rattle.sumcheck.specs.declared.Site.{Site}
use Rattle.sumcheck.specs.declared.SumcheckSlices.{SumcheckSlices}
use Rattle.sumcheck.specs.Checks.{Check}
use Rattle.sumcheck.specs.Rounds.{Sent, Rounds, Turn, messages_of, steps, challenges_of}

-- What is sent in slices.
abbrev pub sent_by : {F E : Type 0} → SumcheckSlices F E → Sent F E
sent_by s = record { messages = messages_of s.messages.now; witnesses = s.witnesses.now }

-- One that is missing sends nothing; where no rounds are due none is read.
abbrev pub final_sent : {F E : Type 0} → ℕ → Option (SumcheckSlices F E) → Sent F E
final_sent rounds None = record { messages = []; witnesses = [] }
final_sent rounds (Some s) = cond (rounds == 0) (record { messages = []; witnesses = [] }) (sent_by s)

abbrev pub rounds_at : Site → ℕ → Rounds
rounds_at s rounds = record { phase = s.phase; turns = rounds; difficulty = s.pow_bits }

-- Tests in turn: all hold, or the first that fails refuses.
abbrev pub Counted : {R : Type 0} → List (Check R) → Result Unit R → Type 0
Counted [] r = r ≡ Ok tt
Counted (c ∷ cs) r = cond c.holds (Counted cs r) (r ≡ Err c.refusal)

-- The answer of a round, with the message.
abbrev pub turned : {E : Type 0} → (h0 h2 : E) → Result E SumcheckError → Result (Turn E) SumcheckError
turned h0 h2 (Ok r) = Ok (record { step = record { h0 = h0; h2 = h2; r = r }; clear = true })
turned h0 h2 (Err e) = Err e

-- What was read in a play that answered: the challenges stand in the places, and the claim is followed through the steps.
pub record Followed {E : Type 0} (F : Ops E) (m : Rules) (s : List ℕ) (p : Play SumcheckError (List (Turn E))) (t : List ℕ) (before after_it : E) (places : List E) : Type 0 where
  pub turns : List (Turn E)
  pub plays : Plays m s p (Ok turns) t
  pub claim : after_it ≡ after F before (steps turns)
  pub challenges : places ≡ challenges_of turns

-- The round that refuses; where a count is wrong none was played.
abbrev pub refused_at : SumcheckError → ℕ
refused_at (MessageCount phase expected actual) = 0
refused_at (WitnessCount phase expected actual) = 0
refused_at (Grind phase round bits) = round

-- The answer is the claim after the sumcheck; or the refusal is the play's. Then the challenges drawn before the round that refuses stand in
-- the first places, as they are read where nothing is checked, and behind them stands what stood there before.
abbrev pub Verified : {E : Type 0} → Ops E → Rules → List ℕ → Play SumcheckError (List (Turn E)) → List ℕ → E → Result E SumcheckError → (before after_it : List E) → Type 0
Verified F m s p t c (Ok d) old new = Followed F m s p t c d new
Verified F m s p t c (Err e) old new = Plays m s p (Err e) t × (new ≡ take (refused_at e) (challenges_of (read m s p).value) ++ drop (refused_at e) old)
