-- A verification answers what its first failing check says.
use Rattle.std.proofs.Common.{ℕ, suc, ◌^◌, List, [], ◌∷◌, length, map, ◌==◌}
use Rattle.std.proofs.lemmas.Bool.{eqb-true, eqb-false}
use Rattle.sponge.specs.Play.{Rules, under, each, read}
use Rattle.transcript.specs.Shape.{Sumcheck, shape, round_shape}
use Rattle.transcript.specs.Playing.{final_values}
use Rattle.sumcheck.specs.declared.errors.SumcheckError.TheVariants.{Grind}
use Rattle.sumcheck.specs.Rounds as rounds
use Rattle.sumcheck.specs.Rounds.{Rounds, Message, Sent, Given, rounds_given, turn, count_checks}
use Rattle.verification.specs.Drawing.{played}
use Rattle.verification.specs.Setting.{Setting, Inputs, Item, last, given}
use Rattle.errors.specs.declared.VerifierError.TheVariants.{FinalPolyLengthMismatch}
use Rattle.errors.specs.declared.VerifierError.TheVariants as refused
use Rattle.errors.specs.Told.{of_transcript}
use Rattle.verification.specs.Verifying.{rounds_of, opening_checks, round_checks, sumcheck, queries, play_round, prechecks, all_items, final_polynomial, final_sumcheck, last_commitment, reading, verifying}
use Rattle.verification.specs.Checks.{turn_checks, sumcheck_checks, query_check, checks_of_round, checks_of_rounds, checks, AnsweredByFirstFailing}
use Rattle.verification.proofs.Told.{Told, told_verdict, told_done, told_observe, told_sure, told_under, told_bind, told_last, told_check, told_ask, told_ask_all}

module _ {F E C P : Type 0} (S : Setting F E C P) where
  -- a round of a sumcheck: its grinding
  told_turn : {m : Rules} {s : List ℕ} (n : Rounds) (x : Given E)
      → let q = turn S.numbering S.extension (played S.drawing) n x in Told m s q (record { holds = (read m s q).value.clear; refusal = Grind n.phase x.number n.difficulty } ∷ [])
  unfolding turn
  told_turn n x = told_bind [] told_sure (told_bind [] told_sure (told_bind [] told_sure (told_bind (_ ∷ []) told_ask (told_last told_sure))))

  -- rounds from a number on
  told_turns : {m : Rules} (n : Rounds) (i : ℕ) (ms : List (Message E)) (ws : List ℕ) (s : List ℕ)
      → let p = each (turn S.numbering S.extension (played S.drawing) n) (rounds_given i ms ws) in Told m s p (turn_checks S n.phase n.difficulty i (read m s p).value)
  unfolding each
  told_turns n i [] ws s = told_done
  told_turns n i (h ∷ ms) [] s = told_bind (_ ∷ []) (told_turn n _) (told_last (told_turns n (suc i) ms [] _))
  told_turns n i (h ∷ ms) (w ∷ ws) s = told_bind (_ ∷ []) (told_turn n _) (told_last (told_turns n (suc i) ms ws _))

  -- a sumcheck: its counts, then its rounds
  told_sumcheck : {m : Rules} {s : List ℕ} (phase : ℕ) (n : Sumcheck) (p : Sent F E)
      → let q = under refused.Sumcheck (sumcheck S phase n p) in Told m s q (sumcheck_checks S phase n p (read m s q).value)
  unfolding rounds.sumcheck
  told_sumcheck phase n p =
      let k : Rounds = rounds_of S phase n in
      told_under (told_bind (count_checks k p) (told_ask_all (count_checks k p)) (told_turns k 0 p.messages (map S.numbering.number p.witnesses) _))

  -- the grinding before queries
  told_queries : {m : Rules} {s : List ℕ} (i : ℕ) (w : F) → let q = queries S i w in Told m s q (query_check S i (read m s q).value.clear ∷ [])
  unfolding queries
  told_queries i w = told_bind [] told_sure (told_bind (_ ∷ []) told_ask (told_last told_sure))

  -- a round: what it brings, its grinding, its opening, its sumcheck
  told_round : {m : Rules} {s : List ℕ} (x : Item F E C P) → let q = play_round S x in Told m s q (checks_of_round S x (read m s q).value)
  unfolding play_round
  told_round x =
      told_bind (round_checks S x) (told_ask_all (round_checks S x))
      (told_bind [] told_observe
      (told_bind [] told_sure
      (told_bind (_ ∷ []) (told_queries x.number x.part.witness)
      (told_bind (opening_checks S x.number x.opens _ x.part.opening) (told_ask_all (opening_checks S x.number x.opens _ x.part.opening))
      (told_bind [] told_sure
      (told_last (told_sumcheck (suc x.number) (round_shape S.numbers x.number).sumcheck x.part.sumcheck)))))))

  -- all rounds
  told_rounds : {m : Rules} (xs : List (Item F E C P)) (s : List ℕ) → let q = each (play_round S) xs in Told m s q (checks_of_rounds S xs (read m s q).value)
  unfolding each
  told_rounds [] s = told_done
  told_rounds {m} (x ∷ xs) s = told_bind (checks_of_round S x (read m s (play_round S x)).value) (told_round x) (told_last (told_rounds xs _))

  -- the final polynomial's length, which the transcript asks for
  told_values : {m : Rules} {s : List ℕ} (l : List E)
      → Told m s (under (of_transcript {E = E}) (final_values S.numbering S.extension S.numbers l)) (record { holds = length l == 2 ^ S.numbers.final_rounds; refusal = FinalPolyLengthMismatch (2 ^ S.numbers.final_rounds) (length l) } ∷ [])
  unfolding final_values
  told_values l =
      let n = 2 ^ S.numbers.final_rounds in
      told_under (told_bind (_ ∷ []) (told_check (λ e. eqb-true (length l) n e) (λ e. eqb-false (length l) n e)) told_sure)

  -- all checks of a reading
  told_reading : {m : Rules} {s : List ℕ} (I : Inputs F E C P) → Told m s (reading S I) (checks S I (read m s (reading S I)).value)
  unfolding reading
  told_reading I =
      let sh = shape S.numbers I.opening_claims in
      told_bind (prechecks S I) (told_ask_all (prechecks S I))
      (told_bind [] told_sure
      (told_bind [] told_sure
      (told_bind (sumcheck_checks S 0 sh.initial (given S I).initial _) (told_sumcheck 0 sh.initial (given S I).initial)
      (told_bind (checks_of_rounds S (all_items S I) _) (told_rounds (all_items S I) _)
      (told_bind (_ ∷ []) told_ask
      (told_bind (_ ∷ []) (told_values (final_polynomial S I))
      (told_bind (_ ∷ []) (told_queries (last S) (given S I).witness)
      (told_bind (opening_checks S (last S) (last_commitment S I) _ (given S I).opening) (told_ask_all (opening_checks S (last S) (last_commitment S I) _ (given S I).opening))
      (told_bind (_ ∷ []) told_ask
      (told_bind (sumcheck_checks S (suc (last S)) sh.final (final_sumcheck S I) _) (told_sumcheck (suc (last S)) sh.final (final_sumcheck S I))
      (told_last told_ask)))))))))))

-- the verification asks no more than its reading
pub told_verifying : {F E C P : Type 0} (S : Setting F E C P) (m : Rules) (s : List ℕ) (I : Inputs F E C P) → Told m s (verifying S I) (checks S I (read m s (reading S I)).value)
unfolding verifying
told_verifying S m s I = told_last (told_reading S I)

-- It answers what the first failing check of its reading says.
pub first_failing : {F E C P : Type 0} (S : Setting F E C P) → AnsweredByFirstFailing S
unfolding verifying
first_failing S m s I = told_verdict (verifying S I) (told_verifying S m s I)
