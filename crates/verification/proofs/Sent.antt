-- Where a verification accepts, these are the byte strings that it has observed; and it draws elements as they are drawn everywhere.
use Rattle.std.proofs.Common.{◌≡◌, ℕ, suc, List, ap}
use Rattle.sponge.specs.Play.{Rules, run, trail}
use Rattle.sponge.specs.Drawing.{draw_base, draw_extension}
use Rattle.sponge.proofs.Passing.{accepts}
use Rattle.transcript.specs.Shape.{Shape, shape, round_shape}
use Rattle.transcript.specs.Opening.{separator}
use Rattle.sumcheck.specs.Rounds as rounds
use Rattle.verification.specs.Drawing.{played}
use Rattle.verification.specs.Setting.{Setting, Inputs, Item, last, given}
use Rattle.verification.specs.Verifying.{play_round, round_checks, opening_checks, prechecks, all_items, last_commitment, final_polynomial, final_sumcheck, reading, verifying}
use Rattle.verification.specs.Observed.{of_round, all_strings, AcceptedObserves, DrawsElements}
use Rattle.verification.proofs.Showing.{shows_done, shows_then, shows_after, shows_last, shows_under, shows_check, shows_ask_all, shows_each}
use Rattle.verification.proofs.Sending.{Sends, sent, sends_observe, sends_all, sends_element, sends_sumcheck, sends_samples, sends_values, sends_queries}

module _ {F E C P : Type 0} (S : Setting F E C P) (words : played S.drawing ≡ draw_base S.numbering) where
  -- a round
  sends_round : (x : Item F E C P) → Sends (play_round S x) (of_round S x)
  unfolding play_round
  sends_round x =
      shows_after (shows_ask_all (round_checks S x)) (λ u.
      shows_then sends_observe (λ v.
      shows_then (shows_under (sends_samples S words x.part.answers)) (λ samples.
      shows_then (sends_queries S x.number x.part.witness) (λ q.
      shows_after (shows_ask_all (opening_checks S x.number x.opens q.positions x.part.opening)) (λ w.
      shows_after (shows_under (sends_element S words)) (λ gamma.
      shows_last (shows_under (sends_sumcheck S words (suc x.number) (round_shape S.numbers x.number).sumcheck x.part.sumcheck)) (λ turns. shows_done)))))))

  -- the whole
  sends_reading : (I : Inputs F E C P) → Sends (reading S I) (all_strings S I)
  unfolding reading
  sends_reading I =
      let s : Shape = shape S.numbers I.opening_claims in
      shows_after (shows_ask_all (prechecks S I)) (λ t.
      shows_then (shows_under (sends_all (separator S.numbers S.extension.degree I.opening_claims))) (λ o.
      shows_after (shows_under (sends_element S words)) (λ alpha.
      shows_then (shows_under (sends_sumcheck S words 0 s.initial (given S I).initial)) (λ initial.
      shows_then (shows_each (play_round S) (of_round S) sends_round (all_items S I)) (λ rounds.
      shows_after shows_check (λ u.
      shows_then (shows_under (sends_values S S.numbers (final_polynomial S I))) (λ v.
      shows_then (sends_queries S (last S) I.proof.witness) (λ q.
      shows_after (shows_ask_all (opening_checks S (last S) (last_commitment S I) q.positions (given S I).opening)) (λ w.
      shows_after shows_check (λ x.
      shows_last (shows_under (sends_sumcheck S words (suc (last S)) s.final (final_sumcheck S I))) (λ final.
      shows_after shows_check (λ y. shows_done))))))))))))

  sends_verifying : (I : Inputs F E C P) → Sends (verifying S I) (all_strings S I)
  unfolding verifying
  sends_verifying I = shows_last (sends_reading I) (λ r. shows_done)

  -- an accepted verification has observed these byte strings
  pub observes : AcceptedObserves S
  unfolding sent
  observes m s I point h = (sends_verifying I).fit m s ((accepts m s (verifying S I) point).0 h).0

  -- elements are drawn as everywhere
  pub draws_elements : (m : Rules) (s : List ℕ) → DrawsElements S m s
  unfolding rounds.draw_element draw_extension
  draws_elements m s = record {
    alike = ap (λ d. run m s (rounds.draw_element S.numbering S.extension d)) words;
    calls = ap (λ d. trail m s (rounds.draw_element S.numbering S.extension d)) words;
  }
