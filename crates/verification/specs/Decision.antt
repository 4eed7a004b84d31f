-- What is decided of a reading: a named field for each check. Assumes nothing.
use Rattle.std.specs.Prelude.{◌≡◌, ℕ, ◌+◌, ◌^◌, ◌≤◌, true, ◌↔◌, List, map, length, is_some, Ok, Err, Option}
use Rattle.std.specs.List.{AllByRecursion}
use Rattle.argument.specs.Claims.{TrueOf}
use Rattle.argument.specs.Reading.{queried}
use Rattle.sponge.specs.Deciding.{Every}
use Rattle.sponge.specs.Play.{Rules, run, read}
use Rattle.configuration_view.specs.declared.phases.Buffers.{Buffers}
use Rattle.configuration_view.specs.Shown.{buffers_of}
use Rattle.transcript.specs.Shape.{Sumcheck, shape, round_shape, difficulty}
use Rattle.proof.specs.declared.claims.Claim as claimed
use Rattle.sumcheck.specs.Rounds.{Sent, Turn}
use Rattle.errors.specs.declared.VerifierError.TheVariants.{Limit, BufferTooSmall}
use Rattle.verification.specs.Proof.{Opening}
use Rattle.verification.specs.Setting.{Setting, Inputs, RoundReading, Reading, Item, last, given}
use Rattle.verification.specs.Verifying.{newest_draws, right_kind, rows_right, all_items, last_commitment, last_rows, final_polynomial, final_sumcheck, carried_claim, expected_claim, challenges, reading, verifying}

-- There are at most 1,024 claims, each with a point of n coordinates that stand within the list.
pub record ClaimPlaced {E : Type 0} (n coordinates : ℕ) (q : claimed.Claim E) : Type 0 where
  pub long : q.point.length ≡ n
  pub within : q.point.start + q.point.length ≤ coordinates

pub record ClaimsFit {F E C P : Type 0} (S : Setting F E C P) (I : Inputs F E C P) : Type 0 where
  pub few : length I.claims ≤ 1024
  pub placed : AllByRecursion (ClaimPlaced S.numbers.variables (length I.coordinates)) I.claims

-- The buffers suffice.
pub record Room (needed given : Buffers) : Type 0 where
  pub point : needed.point ≤ given.point
  pub pair : needed.pair ≤ given.pair
  pub fold : needed.fold ≤ given.fold
  pub notes : needed.notes ≤ given.notes
  pub positions : needed.positions ≤ given.positions

-- A sumcheck has a message for each round; no witness where nothing is ground, and else one for each round; and bits that are all 0 at
-- each grinding.
pub record SumcheckRight {F E : Type 0} (n : Sumcheck) (p : Sent F E) (ts : List (Turn E)) : Type 0 where
  pub messages : length p.messages ≡ n.turns
  pub free : n.difficulty ≡ 0 → length p.witnesses ≡ 0
  pub ground : ¬ (n.difficulty ≡ 0) → length p.witnesses ≡ n.turns
  pub clear : AllByRecursion (λ t. t.clear ≡ true) ts

module _ {F E C P : Type 0} (S : Setting F E C P) where
  -- An opening is of the phase's kind, has a row for each position, and every row is right.
  pub record OpeningRight (i : ℕ) (c : Option C) (ps : List ℕ) (o : Opening F E P) : Type 0 where
    pub kind : right_kind i o.rows ≡ true
    pub count : o.count ≡ length ps
    pub rows : rows_right S i c ps o.rows o.paths ≡ true

  -- A round brings its commitment and as many answers as samples; the bits drawn before its queries are all 0; its opening and its
  -- sumcheck are right.
  pub record RoundRight (x : Item F E C P) (a : RoundReading E) : Type 0 where
    pub commitment : is_some x.part.commitment ≡ true
    pub answers : length x.part.answers ≡ (round_shape S.numbers x.number).samples
    pub clear : a.clear ≡ true
    pub opening : OpeningRight x.number x.opens a.positions x.part.opening
    pub sumcheck : SumcheckRight (round_shape S.numbers x.number).sumcheck x.part.sumcheck a.turns

  module _ (I : Inputs F E C P) where
    -- Claims, buffers, and the number of rounds are as asked for; a witness before queries is 0 where nothing is ground.
    pub record Asked : Type 0 where
      pub claims : ClaimsFit S I
      pub room : Room (buffers_of S.numbers) I.buffers
      pub rounds : length I.proof.rounds ≡ last S
      pub canonical : AllByRecursion (λ x. difficulty S.numbers x.number ≡ 0 → S.numbering.number x.part.witness ≡ 0) (all_items S I)
      pub last_canonical : difficulty S.numbers (last S) ≡ 0 → S.numbering.number I.proof.witness ≡ 0

    pub record Decision (r : Reading E) : Type 0 where
      pub asked : Asked
      pub initial : SumcheckRight (shape S.numbers I.opening_claims).initial (given S I).initial r.initial
      pub rounds : Every RoundRight (all_items S I) r.rounds
      pub polynomial : is_some (given S I).polynomial ≡ true
      pub values : length (final_polynomial S I) ≡ 2 ^ S.numbers.final_rounds
      pub clear : r.clear ≡ true
      pub opening : OpeningRight (last S) (last_commitment S I) r.positions (given S I).opening
      pub agree : AllByRecursion (TrueOf S.field (final_polynomial S I)) (map (queried S.field S.order (newest_draws r.initial r.rounds)) (last_rows S I r.positions))
      pub final : SumcheckRight (shape S.numbers I.opening_claims).final (final_sumcheck S I) r.final
      pub closing : carried_claim S I r ≡ expected_claim S I r

    -- Of a verification from a list: claims that do not fit are refused first, then buffers that do not suffice; it is accepted exactly
    -- where the decision holds of the reading from the same list, with the challenges of all sumchecks in order; and where what is asked
    -- before the sponge is touched does not hold, the list stays.
    pub record Decides (m : Rules) (s : List ℕ) : Type 0 where
      pub claims_first : ¬ (ClaimsFit S I) → (run m s (verifying S I)).answer ≡ Err Limit
      pub buffers_next : ClaimsFit S I → ¬ (Room (buffers_of S.numbers) I.buffers) → (run m s (verifying S I)).answer ≡ Err BufferTooSmall
      pub accepts : (point : List E)
          → let r = (read m s (reading S I)).value in ((run m s (verifying S I)).answer ≡ Ok point) ↔ (Decision r × (challenges S I r ≡ point))
      pub untouched : ¬ Asked → (run m s (verifying S I)).list ≡ s

  -- It accepts exactly by the decision.
  abbrev pub AcceptsByDecision : Type 0
  AcceptsByDecision = (m : Rules) (s : List ℕ) (I : Inputs F E C P) → Decides I m s
