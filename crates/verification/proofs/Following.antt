-- Where a verification accepts, its calls are those that the pattern describes.
use Rattle.std.proofs.Common.{◌≡◌, ℕ, suc, ◌*◌, List, [], ◌∷◌, map, length, Option, sym, ap, ◌∙◌, subst, append-nil}
use Rattle.std.specs.List.{flat_map}
use Rattle.std.proofs.Math.Facts.{eqb_yes}
use Rattle.std.proofs.lemmas.List.{length-map}
use Rattle.sponge.specs.Play.{each, counted, trail}
use Rattle.sponge.specs.Drawing.{draw_base}
use Rattle.sponge.proofs.Passing.{accepts}
use Rattle.configuration.specs.Phases.{log_positions_of, draws}
use Rattle.transcript.specs.Depths.{depths}
use Rattle.transcript.specs.Shape.{Shape, RoundShape, shape, round_shape, difficulty}
use Rattle.transcript.specs.Pattern.{sample_steps}
use Rattle.transcript.specs.Opening.{separator}
use Rattle.transcript.specs.declared.interaction.Label.{Label}
use Rattle.transcript.specs.declared.interaction.Label.TheVariants.{QueryPow, QueryIndices, FinalQueryPow, FinalQueryIndices}
use Rattle.verification.specs.Drawing.{played}
use Rattle.verification.specs.Described.{bytes, repeated, Follows, AcceptedFollowsPattern}
use Rattle.verification.specs.Proof.{RoundProof}
use Rattle.verification.specs.Setting.{Setting, Inputs, Item, items, last, given}
use Rattle.verification.specs.Verifying.{queries, play_round, round_checks, opening_checks, prechecks, last_commitment, final_polynomial, reading, verifying}
use Rattle.verification.proofs.Showing.{shows_done, shows_then, shows_after, shows_same, shows_last, shows_under, shows_check, shows_given, shows_ask_all}
use Rattle.verification.proofs.Describing.{Makes, Opens, makes_some, opens_first, opens_after, opens_last}
use Rattle.verification.proofs.Parts.{own_calls, so_many, one_or_more, makes_grinding, makes_positions, makes_element, makes_sumcheck, makes_samples, makes_values}
use Rattle.verification.proofs.Saying.{query_calls, round_calls, whole_calls, pattern_said}

module _ {F E C P : Type 0} (S : Setting F E C P) (words : played S.drawing ≡ draw_base S.numbering) (count : (y : E) → length (S.extension.coefficients y) ≡ S.extension.degree) where
  -- the draws of phase i
  abbrev drawing : ℕ → ℕ
  drawing i = draws S.numbers S.numbers.stored i

  -- grinding and positions
  makes_queries : (ground indices : Label) (i : ℕ) (witness : F)
      → Makes (queries S i witness) (query_calls (difficulty S.numbers i) S.numbers.strata (log_positions_of S.numbers S.numbers.stored i) (drawing i) (depths (drawing i)) ground indices)
  unfolding queries
  makes_queries ground indices i witness =
      shows_then (shows_under (makes_grinding ground (difficulty S.numbers i) (S.numbering.number witness))) (λ clear.
      shows_after shows_check (λ u.
      shows_last (shows_under (makes_positions indices S.numbers.strata (log_positions_of S.numbers S.numbers.stored i) (drawing i))) (λ ps. shows_done)))

  -- a round
  makes_round : (x : Item F E C P) → Makes (play_round S x) (round_calls S.extension.degree (round_shape S.numbers x.number))
  unfolding play_round
  makes_round x =
      let r : RoundShape = round_shape S.numbers x.number in
      shows_given (length x.part.answers ≡ r.samples) (λ m s h. eqb_yes h.1.0) (λ e.
      shows_after (shows_ask_all (round_checks S x)) (λ u.
      shows_then makes_some (λ v.
      shows_then (shows_same (ap (λ k. own_calls (sample_steps S.extension.degree k)) e) (shows_under (makes_samples S words count x.part.answers))) (λ samples.
      shows_then (makes_queries QueryPow QueryIndices x.number x.part.witness) (λ q.
      shows_after (shows_ask_all (opening_checks S x.number x.opens q.positions x.part.opening)) (λ w.
      shows_then (shows_same (sym (append-nil (so_many S.extension.degree))) (shows_under (makes_element S words count))) (λ gamma.
      shows_last (shows_under (makes_sumcheck S words count (suc x.number) r.sumcheck x.part.sumcheck)) (λ turns. shows_done))))))))

  -- rounds from a number on
  makes_rounds : (k : ℕ) (c : Option C) (ps : List (RoundProof F E C P))
      → Makes (each (play_round S) (items k c ps)) (flat_map (round_calls S.extension.degree) (map (round_shape S.numbers) (counted k (length ps))))
  unfolding each
  makes_rounds k c [] = shows_done
  makes_rounds k c (p ∷ ps) =
      shows_then (makes_round (record { number = k; opens = c; part = p })) (λ a. shows_last (makes_rounds (suc k) p.commitment ps) (λ l. shows_done))

  -- the whole
  opens_reading : (I : Inputs F E C P) → Opens (reading S I) (separator S.numbers S.extension.degree I.opening_claims) (whole_calls S.extension.degree (shape S.numbers I.opening_claims))
  unfolding reading
  opens_reading I =
      let degree : ℕ = S.extension.degree in
      let s : Shape = shape S.numbers I.opening_claims in
      opens_after (prechecks S I) (length I.proof.rounds ≡ last S) (λ m t h. eqb_yes h.1.1.1.0) (λ e.
      let as_many : length (given S I).rounds ≡ last S = length-map I.proof.rounds _ ∙ e in
      opens_first
      (shows_then (shows_under (makes_element S words count)) (λ alpha.
      shows_then (shows_under (makes_sumcheck S words count 0 s.initial (given S I).initial)) (λ initial.
      shows_then (shows_same (ap (λ k. flat_map (round_calls degree) (map (round_shape S.numbers) (counted 0 k))) as_many) (makes_rounds 0 _ (given S I).rounds)) (λ rounds.
      shows_after shows_check (λ u.
      shows_then (shows_same (ap (λ k. repeated k (bytes (4 * degree) ∷ [])) (sym (one_or_more S.numbers.final_rounds))) (shows_under (makes_values S words count S.numbers (final_polynomial S I)))) (λ v.
      shows_then (makes_queries FinalQueryPow FinalQueryIndices (last S) (given S I).witness) (λ q.
      shows_after (shows_ask_all (opening_checks S (last S) (last_commitment S I) q.positions (given S I).opening)) (λ w.
      shows_after shows_check (λ x.
      shows_last (shows_under (makes_sumcheck S words count (suc (last S)) s.final _)) (λ final.
      shows_after shows_check (λ y. shows_done))))))))))))

  opens_verifying : (I : Inputs F E C P) → Opens (verifying S I) (separator S.numbers S.extension.degree I.opening_claims) (whole_calls S.extension.degree (shape S.numbers I.opening_claims))
  unfolding verifying
  opens_verifying I = opens_last (opens_reading I)

-- an accepted verification follows its pattern
pub follows : {F E C P : Type 0} (S : Setting F E C P) → played S.drawing ≡ draw_base S.numbering → ((y : E) → length (S.extension.coefficients y) ≡ S.extension.degree) → AcceptedFollowsPattern S
follows S words count m s I point h =
    subst (Follows (trail m s (verifying S I)) (separator S.numbers S.extension.degree I.opening_claims))
    (pattern_said S.extension.degree (shape S.numbers I.opening_claims))
    ((opens_verifying S words count I).fit m s ((accepts m s (verifying S I) point).0 h).0)
