-- Every reading is shaped: how long its lists are, and which positions its phases have.
use Rattle.std.proofs.Common.{◌≡◌, ℕ, zero, suc, Bool, ◌^◌, ◌<◌, leb, List, [], ◌∷◌, map, length, refl, ap, ◌∙◌, ⊎_elim, arith, pow_pos}
use Rattle.std.proofs.lemmas.Bool.{cases_Bool, cond-true, cond-false, leb-false}
use Rattle.sponge.specs.Play.{Rules, Play, each, read, counted}
use Rattle.sponge.specs.Deciding.{Every}
use Rattle.configuration.specs.Phases.{query_draws}
use Rattle.transcript.specs.Shape.{Sumcheck, shape, round_shape}
use Rattle.transcript.specs.Positions.{positions_at}
use Rattle.transcript.proofs.Placing.{positions_placed}
use Rattle.sumcheck.specs.Rounds as rounds
use Rattle.sumcheck.specs.Rounds.{Message, Sent, rounds_given, turn}
use Rattle.verification.specs.Drawing.{played}
use Rattle.verification.specs.Setting.{Setting, Item, last, log_positions, given}
use Rattle.verification.specs.Verifying.{rounds_of, sample, sumcheck, queries, play_round, all_items, final_sumcheck, reading}
use Rattle.verification.specs.Shaped.{draws_at, PhasePositions, RoundShaped, ReadingsShaped}

-- a list is read as long as its input
each_long : {R A B : Type 0} (f : A → Play R B) (xs : List A) (m : Rules) (s : List ℕ) → length (read m s (each f xs)).value ≡ length xs
unfolding each
each_long f [] m s = refl
each_long f (x ∷ xs) m s = ap suc (each_long f xs m (read m s (f x)).list)

-- what holds of each reading holds place by place
each_every : {R A B : Type 0} (f : A → Play R B) (D : A → B → Type 0) → ((x : A) (m : Rules) (s : List ℕ) → D x (read m s (f x)).value)
    → (xs : List A) (m : Rules) (s : List ℕ) → Every D xs (read m s (each f xs)).value
unfolding each
each_every f D h [] m s = tt
each_every f D h (x ∷ xs) m s = (h x m s, each_every f D h xs m (read m s (f x)).list)

-- a round is given for each message
given_long : {E : Type 0} (i : ℕ) (ms : List (Message E)) (ws : List ℕ) → length (rounds_given i ms ws) ≡ length ms
given_long i [] ws = refl
given_long i (a ∷ ms) [] = ap suc (given_long (suc i) ms [])
given_long i (a ∷ ms) (w ∷ ws) = ap suc (given_long (suc i) ms ws)

-- fewer are drawn than there are
draws_few : (w q : ℕ) → query_draws (2 ^ w) q < 2 ^ w
draws_few w q =
    ⊎_elim (λ e. rw (cond-true (leb (2 ^ w) q) 0 q e) (pow_pos w)) (λ e. rw (cond-false (leb (2 ^ w) q) 0 q e) (omega (arith, leb-false (2 ^ w) q e)))
    (cases_Bool (leb (2 ^ w) q))

-- without draws every position is opened
positions_whole : (m : Rules) (s : List ℕ) (stratified : Bool) (w d : ℕ) → d ≡ 0 → (read m s (positions_at stratified w d)).value ≡ counted 0 (2 ^ w)
unfolding positions_at
positions_whole m s stratified w zero e = refl
positions_whole m s stratified w (suc d) e = absurd (omega (arith, e))

module _ {F E C P : Type 0} (S : Setting F E C P) where
  -- a sumcheck is read as long as its messages
  sumcheck_long : (phase : ℕ) (n : Sumcheck) (p : Sent F E) (m : Rules) (s : List ℕ) → length (read m s (sumcheck S phase n p)).value ≡ length p.messages
  unfolding rounds.sumcheck
  sumcheck_long phase n p m s =
      let ws : List ℕ = map S.numbering.number p.witnesses in
      each_long (turn S.numbering S.extension (played S.drawing) (rounds_of S phase n)) (rounds_given 0 p.messages ws) m s ∙ given_long 0 p.messages ws

  -- the positions of a phase are those that are drawn, or all
  queries_positions : (i : ℕ) (witness : F) (m : Rules) (s : List ℕ) → PhasePositions S i (read m s (queries S i witness)).value.positions
  unfolding queries
  queries_positions i witness m s = record {
    placed = positions_placed m _ S.numbers.strata (log_positions S i) (draws_at S i) (draws_few (log_positions S i) _);
    whole = positions_whole m _ S.numbers.strata (log_positions S i) (draws_at S i);
  }

  -- so every round is shaped
  round_shaped : (x : Item F E C P) (m : Rules) (s : List ℕ) → RoundShaped S x (read m s (play_round S x)).value
  unfolding play_round
  round_shaped x m s = record {
    turns = sumcheck_long (suc x.number) (round_shape S.numbers x.number).sumcheck x.part.sumcheck m _;
    samples = each_long (sample S) x.part.answers m _;
    positions = queries_positions x.number x.part.witness m _;
  }

  -- And every reading.
  pub shaped : ReadingsShaped S
  unfolding reading
  shaped m s I = record {
    initial = sumcheck_long 0 (shape S.numbers I.opening_claims).initial (given S I).initial m _;
    rounds = each_every (play_round S) (RoundShaped S) round_shaped (all_items S I) m _;
    positions = queries_positions (last S) (given S I).witness m _;
    final = sumcheck_long (suc (last S)) (shape S.numbers I.opening_claims).final (final_sumcheck S I) m _;
  }
