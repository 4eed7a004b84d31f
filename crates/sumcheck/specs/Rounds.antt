-- A sumcheck as a play: its counts, then its rounds. Assumes nothing.
use Rattle.std.specs.Prelude.{ℕ, suc, Bool, cond, List, [], ◌∷◌, map, length, ◌==◌}
use Rattle.field.specs.Numbers.{Numbering}
use Rattle.field.specs.Extension.{Extension}
use Rattle.argument.specs.Sumcheck.{Step, draws}
use Rattle.sponge.specs.Play.{Play, done, sure, ◌>>=◌, ◌>>◌, each, times}
use Rattle.sponge.specs.Drawing.{check_witness, observe_extension}
use Rattle.sumcheck.specs.declared.errors.SumcheckError.{SumcheckError}
use Rattle.sumcheck.specs.declared.errors.SumcheckError.TheVariants.{MessageCount, WitnessCount, Grind}
use Rattle.sumcheck.specs.Checks.{Check, ask, ask_all}

-- A message.
pub record Message (E : Type 0) : Type 0 where
  pub h0 : E
  pub h2 : E

-- What is sent: messages, and witnesses.
pub record Sent (F E : Type 0) : Type 0 where
  pub messages : List (Message E)
  pub witnesses : List F

-- Each two neighbours are a message.
abbrev pub messages_of : {E : Type 0} → List E → List (Message E)
messages_of [] = []
messages_of (a ∷ []) = []
messages_of (a ∷ b ∷ l) = record { h0 = a; h2 = b } ∷ messages_of l

-- Which sumcheck it is, by the number of those before it; how many rounds it has; and the difficulty of each one's grinding.
pub record Rounds : Type 0 where
  pub phase : ℕ
  pub turns : ℕ
  pub difficulty : ℕ

-- A round as it is read: the message with the challenge that is drawn after it, and whether the bits drawn at its grinding are all 0.
pub record Turn (E : Type 0) : Type 0 where
  pub step : Step E
  pub clear : Bool

abbrev pub steps : {E : Type 0} → List (Turn E) → List (Step E)
steps ts = map (λ t. t.step) ts

-- the challenges of a sumcheck
abbrev pub challenges_of : {E : Type 0} → List (Turn E) → List E
challenges_of ts = draws (steps ts)

-- How many witnesses there are: one a round, and none where nothing is ground.
abbrev pub due : Rounds → ℕ
due n = cond (n.difficulty == 0) 0 n.turns

-- One round as it is given: its number, message and witness.
pub record Given (E : Type 0) : Type 0 where
  pub number : ℕ
  pub message : Message E
  pub witness : ℕ

-- The rounds from a number on. (Where there is no witness none is read.)
abbrev pub rounds_given : {E : Type 0} → ℕ → List (Message E) → List ℕ → List (Given E)
rounds_given i [] ws = []
rounds_given i (m ∷ ms) [] = record { number = i; message = m; witness = 0 } ∷ rounds_given (suc i) ms []
rounds_given i (m ∷ ms) (w ∷ ws) = record { number = i; message = m; witness = w } ∷ rounds_given (suc i) ms ws

-- The counts, messages first.
abbrev pub count_checks : {F E : Type 0} → Rounds → Sent F E → List (Check SumcheckError)
count_checks n p =
    record { holds = length p.messages == n.turns; refusal = MessageCount n.phase n.turns (length p.messages) }
    ∷ record { holds = length p.witnesses == due n; refusal = WitnessCount n.phase (due n) (length p.witnesses) } ∷ []

-- How elements are written as bytes, and how a base element is drawn.
module _ {F E : Type 0} (N : Numbering F) (X : Extension F E) (drawing : Play ⊥ F) where
  -- An element is drawn by its coefficients in turn.
  unfoldable pub draw_element : Play ⊥ E
  draw_element = do
    coefficients ← times X.degree drawing
    done (X.element coefficients)

  -- A round: h0 and h2 are observed, the witness is ground, a challenge is drawn.
  unfoldable pub turn : Rounds → Given E → Play SumcheckError (Turn E)
  turn n x = do
    sure (observe_extension N X x.message.h0)
    sure (observe_extension N X x.message.h2)
    clear ← sure (check_witness n.difficulty x.witness)
    ask clear (Grind n.phase x.number n.difficulty)
    r ← sure draw_element
    done (record { step = record { h0 = x.message.h0; h2 = x.message.h2; r = r }; clear = clear })

  unfoldable pub sumcheck : Rounds → Sent F E → Play SumcheckError (List (Turn E))
  sumcheck n p = do
    ask_all (count_checks n p)
    each (turn n) (rounds_given 0 p.messages (map N.number p.witnesses))
