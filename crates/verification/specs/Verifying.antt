-- The verification as one play, check by check in order. Assumes nothing.
use Rattle.std.specs.Prelude.{ℕ, zero, suc, ◌+◌, ◌^◌, Bool, true, false, cond, ◌&&◌, List, [], ◌∷◌, ◌++◌, map, length, take, drop, is_some, unwrap_or, Some, None, Option, ◌==◌, nat_le}
use Rattle.std.specs.List.{list_all, flat_map}
use Rattle.multilinear.specs.Tables.{orient, view}
use Rattle.multilinear.specs.Univariate.{expand}
use Rattle.argument.specs.Sumcheck.{after}
use Rattle.argument.specs.Claims.{Claim, at_point, worth, batched, weight_at}
use Rattle.argument.specs.Reading.{Query, Tail, end, round, queried, carried, later_weight, all_draws}
use Rattle.commit.specs.Opening.{opens}
use Rattle.commit.specs.Spread.{extended}
use Rattle.sponge.specs.Play.{Play, done, observe, under, sure, ◌>>=◌, ◌>>◌, each}
use Rattle.sponge.specs.Drawing.{check_witness, observe_extension}
use Rattle.configuration_view.specs.declared.phases.Buffers.{Buffers}
use Rattle.configuration_view.specs.Shown.{buffers_of}
use Rattle.transcript.specs.Shape.{Sumcheck, shape, round_shape, difficulty}
use Rattle.transcript.specs.Opening as separator
use Rattle.transcript.specs.Positions.{positions}
use Rattle.transcript.specs.Playing.{final_values}
use Rattle.proof.specs.declared.claims.Claim as claimed
use Rattle.sumcheck.specs.declared.errors.SumcheckError.{SumcheckError}
use Rattle.sumcheck.specs.Checks.{Check, ask, ask_all}
use Rattle.sumcheck.specs.Rounds.{Sent, Rounds, Turn, steps, challenges_of}
use Rattle.sumcheck.specs.Rounds as rounds
use Rattle.errors.specs.declared.OpeningFault.{OpeningFault}
use Rattle.errors.specs.declared.OpeningFault.TheVariants.{Kind, Base, Extension}
use Rattle.errors.specs.declared.VerifierError.{VerifierError}
use Rattle.errors.specs.declared.VerifierError.TheVariants.{Limit, BufferTooSmall, RoundCountMismatch, NonCanonicalPowWitness, MissingRoundCommitment, RoundOodAnswerCountMismatch, InvalidPowWitness, MerkleProofInvalid, StirQueryCountMismatch, MissingFinalPoly, FinalPolyLengthMismatch, StirChallengeFailed, SumcheckFailed}
use Rattle.errors.specs.declared.VerifierError.TheVariants as refused
use Rattle.errors.specs.Told.{of_transcript}
use Rattle.verification.specs.Drawing.{played}
use Rattle.verification.specs.Proof.{Rows, of_base, of_extension, Opening}
use Rattle.verification.specs.Setting.{Setting, Inputs, RoundReading, Reading, Item, items, newest, last, folds, log_positions, vars_after, point_at, given, claims}

-- Where nothing is ground the witness before the queries is 0.
abbrev pub zero_where_free : (bits witness : ℕ) → Bool
zero_where_free bits witness = cond (bits == 0) (witness == 0) true

-- The lengths suffice.
abbrev pub suffices : Buffers → Buffers → Bool
suffices needed given =
    nat_le needed.point given.point && (nat_le needed.pair given.pair && (nat_le needed.fold given.fold && (nat_le needed.notes given.notes && nat_le needed.positions given.positions)))

-- A claim's point has n coordinates, and they stand within a list of so many.
abbrev pub claim_placed : {E : Type 0} → (n coordinates : ℕ) → claimed.Claim E → Bool
claim_placed n coordinates q = (q.point.length == n) && nat_le (q.point.start + q.point.length) coordinates

-- Whether the bits drawn before the queries are all 0, and the positions.
pub record Queries : Type 0 where
  pub clear : Bool
  pub positions : List ℕ

-- The draws of the last sumcheck so far.
abbrev pub newest_draws : {E : Type 0} → List (Turn E) → List (RoundReading E) → List E
newest_draws ts [] = challenges_of ts
newest_draws ts (a ∷ l) = newest_draws a.turns l

-- Phase 0 opens rows of the base, and each later phase rows of the extension.
abbrev pub right_kind : {F E : Type 0} → ℕ → Rows F E → Bool
right_kind zero (of_base l) = true
right_kind zero (of_extension l) = false
right_kind (suc i) (of_base l) = false
right_kind (suc i) (of_extension l) = true

module _ {F E C P : Type 0} (S : Setting F E C P) where
  -- An element is drawn by its coefficients in turn.
  abbrev pub draw_element : Play ⊥ E
  draw_element = rounds.draw_element S.numbering S.extension (played S.drawing)

  -- The sumcheck of a phase.
  abbrev pub rounds_of : ℕ → Sumcheck → Rounds
  rounds_of phase n = record { phase = phase; turns = n.turns; difficulty = n.difficulty }

  abbrev pub sumcheck : ℕ → Sumcheck → Sent F E → Play SumcheckError (List (Turn E))
  sumcheck phase n p = rounds.sumcheck S.numbering S.extension (played S.drawing) (rounds_of phase n) p

  -- Before the queries of phase i the witness is ground; then its positions are drawn.
  unfoldable pub queries : ℕ → F → Play (VerifierError E) Queries
  queries i witness = do
    clear ← sure (check_witness (difficulty S.numbers i) (S.numbering.number witness))
    ask clear (InvalidPowWitness i (difficulty S.numbers i))
    drawn ← sure (positions S.numbers i)
    done (record { clear = clear; positions = drawn })

  -- The rows are right against a commitment: the lengths are those of so many rows of 2^k elements and of their paths, and every row is
  -- right at its position.
  abbrev pub rows_right : ℕ → Option C → List ℕ → Rows F E → List P → Bool
  rows_right i None ps rows paths = false
  rows_right i (Some c) ps (of_base l) paths = opens S.scheme c (2 ^ folds S i) (2 ^ log_positions S i) ps l paths
  rows_right i (Some c) ps (of_extension l) paths = opens (extended S.extension S.scheme) c (2 ^ folds S i) (2 ^ log_positions S i) ps l paths

  abbrev pub fault_of : Rows F E → OpeningFault
  fault_of (of_base l) = Base
  fault_of (of_extension l) = Extension

  -- An opening of phase i at positions, against a commitment.
  abbrev pub opening_checks : ℕ → Option C → List ℕ → Opening F E P → List (Check (VerifierError E))
  opening_checks i c ps o =
      record { holds = right_kind i o.rows; refusal = MerkleProofInvalid i 0 Kind }
      ∷ record { holds = o.count == length ps; refusal = StirQueryCountMismatch i (length ps) o.count }
      ∷ record { holds = rows_right i c ps o.rows o.paths; refusal = MerkleProofInvalid i 0 (fault_of o.rows) } ∷ []

  -- An out-of-domain sample: a point is drawn and the answer observed.
  unfoldable pub sample : E → Play ⊥ E
  sample answer = do
    z ← draw_element
    observe_extension S.numbering S.extension answer
    done z

  -- the bytes that a commitment is observed as
  abbrev pub observed_as : Option C → List ℕ
  observed_as None = []
  observed_as (Some c) = S.scheme.observed c

  -- What a round has to bring.
  abbrev pub round_checks : Item F E C P → List (Check (VerifierError E))
  round_checks x =
      let samples = (round_shape S.numbers x.number).samples in
      record { holds = is_some x.part.commitment; refusal = MissingRoundCommitment x.number }
      ∷ record { holds = length x.part.answers == samples; refusal = RoundOodAnswerCountMismatch x.number samples (length x.part.answers) } ∷ []

  -- A round: the new commitment and its samples, the queries to the commitment before it, the challenge γ, the sumcheck.
  unfoldable pub play_round : Item F E C P → Play (VerifierError E) (RoundReading E)
  play_round x = do
    ask_all (round_checks x)
    observe (observed_as x.part.commitment)
    samples ← sure (each sample x.part.answers)
    q ← queries x.number x.part.witness
    ask_all (opening_checks x.number x.opens q.positions x.part.opening)
    gamma ← sure draw_element
    turns ← under refused.Sumcheck (sumcheck (suc x.number) (round_shape S.numbers x.number).sumcheck x.part.sumcheck)
    done (record { samples = samples; clear = q.clear; positions = q.positions; gamma = gamma; turns = turns })

  -- What is read, as a run over its numbers alone: the claims of a phase's samples, and its rows with their points.
  abbrev pub samples_at : ℕ → List E → List E → List (Claim E)
  samples_at i [] vs = []
  samples_at i (z ∷ zs) [] = []
  samples_at i (z ∷ zs) (v ∷ vs) = at_point S.field (expand S.field z (vars_after S i)) v ∷ samples_at i zs vs

  abbrev pub elements_of : Rows F E → List E
  elements_of (of_base l) = map S.extension.embed l
  elements_of (of_extension l) = l

  -- each position takes its row from the front
  abbrev pub queries_at : ℕ → List ℕ → List E → List (Query E)
  queries_at i [] l = []
  queries_at i (p ∷ ps) l = record { point = point_at S i p; opened = take (2 ^ folds S i) l } ∷ queries_at i ps (drop (2 ^ folds S i) l)

  abbrev pub rows_opened : ℕ → List ℕ → Opening F E P → List (Query E)
  rows_opened i ps o = queries_at i ps (elements_of o.rows)

  abbrev pub tail_of : List (Item F E C P) → List (RoundReading E) → Tail E → Tail E
  tail_of [] l e = e
  tail_of (x ∷ xs) [] e = e
  tail_of (x ∷ xs) (a ∷ l) e =
      round (rows_opened x.number a.positions x.part.opening) (samples_at x.number a.samples x.part.answers) a.gamma (steps a.turns) (tail_of xs l e)

  module _ (I : Inputs F E C P) where
    abbrev pub all_items : List (Item F E C P)
    all_items = items 0 (Some I.commitment) (given S I).rounds

    abbrev pub final_polynomial : List E
    final_polynomial = unwrap_or (given S I).polynomial []

    abbrev pub last_commitment : Option C
    last_commitment = newest (Some I.commitment) (given S I).rounds

    abbrev pub last_rows : List ℕ → List (Query E)
    last_rows ps = rows_opened (last S) ps (given S I).opening

    -- Where no final rounds are due the final sumcheck is not read; one that is missing has no messages and no witnesses.
    abbrev pub nothing_sent : Sent F E
    nothing_sent = record { messages = []; witnesses = [] }

    abbrev pub final_sumcheck : Sent F E
    final_sumcheck = cond (S.numbers.final_rounds == 0) nothing_sent (unwrap_or (given S I).final nothing_sent)

    abbrev pub tail : Reading E → Tail E
    tail r = tail_of all_items r.rounds (end final_polynomial (last_rows r.positions) (steps r.final))

    -- The claim carried to the end; and the weight of all constraints at all draws, each constraint at its last ones, times the final
    -- polynomial's value at the last draws.
    abbrev pub carried_claim : Reading E → E
    carried_claim r =
        carried S.field S.order (challenges_of r.initial) (after S.field (batched S.field (claims S I) r.alpha) (steps r.initial)) (tail r)

    abbrev pub expected_claim : Reading E → E
    expected_claim r =
        let F = S.field in
        let rs = challenges_of r.initial in
        let weight = F.add (weight_at F (claims S I) r.alpha (orient S.order (rs ++ all_draws (tail r)))) (later_weight F S.order rs (tail r)) in
        F.mul weight (view F S.order final_polynomial (challenges_of r.final))

    -- The rows of the last phase agree with the final polynomial.
    abbrev pub rows_agree : List (Turn E) → List (RoundReading E) → List ℕ → Bool
    rows_agree ts l ps = list_all (λ q. S.equal q.claimed (worth S.field final_polynomial q)) (map (queried S.field S.order (newest_draws ts l)) (last_rows ps))

    -- What is checked before the sponge is touched, in order: the claims, the buffers, the rounds, the witnesses that are to be 0.
    abbrev pub canonical_checks : List (Item F E C P) → List (Check (VerifierError E))
    canonical_checks xs = map (λ x. record { holds = zero_where_free (difficulty S.numbers x.number) (S.numbering.number x.part.witness); refusal = NonCanonicalPowWitness x.number }) xs

    abbrev pub prechecks : List (Check (VerifierError E))
    prechecks =
        record { holds = nat_le (length I.claims) 1024; refusal = Limit }
        ∷ record { holds = list_all (claim_placed S.numbers.variables (length I.coordinates)) I.claims; refusal = Limit }
        ∷ record { holds = suffices (buffers_of S.numbers) I.buffers; refusal = BufferTooSmall }
        ∷ record { holds = length I.proof.rounds == last S; refusal = RoundCountMismatch (last S) (length I.proof.rounds) }
        ∷ (canonical_checks all_items
        ++ (record { holds = zero_where_free (difficulty S.numbers (last S)) (S.numbering.number I.proof.witness); refusal = NonCanonicalPowWitness (last S) } ∷ []))

    -- The final phase: the polynomial, the queries to the last commitment, its rows against the polynomial, the final sumcheck, and the
    -- closing identity.
    unfoldable pub reading : Play (VerifierError E) (Reading E)
    reading =
        let p = given S I in
        let s = shape S.numbers I.opening_claims in do
          ask_all prechecks
          sure (separator.opening S.numbers S.extension.degree I.opening_claims)
          alpha ← sure draw_element
          initial ← under refused.Sumcheck (sumcheck 0 s.initial p.initial)
          rounds ← each play_round all_items
          ask (is_some p.polynomial) MissingFinalPoly
          under of_transcript (final_values S.numbering S.extension S.numbers final_polynomial)
          q ← queries (last S) p.witness
          ask_all (opening_checks (last S) last_commitment q.positions p.opening)
          ask (rows_agree initial rounds q.positions) (StirChallengeFailed 0)
          final ← under refused.Sumcheck (sumcheck (suc (last S)) s.final final_sumcheck)
          let r : Reading E = record { alpha = alpha; initial = initial; rounds = rounds; clear = q.clear; positions = q.positions; final = final } in do
            ask (S.equal (carried_claim r) (expected_claim r)) (SumcheckFailed S.numbers.final_rounds (expected_claim r) (carried_claim r))
            done r

    -- The challenges of all sumchecks, in order.
    abbrev pub challenges : Reading E → List E
    challenges r = challenges_of r.initial ++ (flat_map (λ a. challenges_of a.turns) r.rounds ++ challenges_of r.final)

    -- It answers with them.
    unfoldable pub verifying : Play (VerifierError E) (List E)
    verifying = do
      r ← reading
      done (challenges r)
