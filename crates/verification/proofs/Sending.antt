-- The byte strings that the parts of a verification observe, where their checks hold.
use Rattle.std.proofs.Common.{◌≡◌, ℕ, zero, suc, ◌-◌, ◌^◌, Bool, true, false, cond, List, [], ◌∷◌, ◌++◌, map, sym, refl, ap, ◌∙◌, subst}
use Rattle.std.proofs.Math.Dec.{eqb-suc-zero}
use Rattle.std.proofs.lemmas.List.Concat.{flat_map_single}
use Rattle.field.specs.Bytes.{word_bytes}
use Rattle.sponge.specs.Play.{Play, observe, draw, each, counted, Event, observed, drew}
use Rattle.sponge.specs.Drawing.{draw_bits, check_witness, draw_base, observe_extension}
use Rattle.configuration.specs.Numbers.{Numbers}
use Rattle.transcript.specs.Depths.{depths}
use Rattle.transcript.specs.Opening.{observe_all}
use Rattle.transcript.specs.Positions.{index_drawn, indices_drawn, strata_drawn, positions_at}
use Rattle.transcript.specs.Playing.{values_observed, final_values}
use Rattle.transcript.specs.Shape.{Sumcheck, difficulty}
use Rattle.sumcheck.specs.Rounds as rounds
use Rattle.sumcheck.specs.Rounds.{Rounds, Sent, Given, rounds_given, turn, count_checks}
use Rattle.verification.specs.Drawing.{played}
use Rattle.verification.specs.Setting.{Setting}
use Rattle.verification.specs.Verifying.{rounds_of, draw_element, sumcheck, sample, queries}
use Rattle.verification.specs.Observed.{strings, element, witness, of_sumcheck}
use Rattle.verification.proofs.Showing.{Account, Shows, shows_done, shows_then, shows_after, shows_same, shows_last, shows_under, shows_check, shows_ask_all, shows_each, shows_none}

strings_append : (es fs : List Event) → strings (es ++ fs) ≡ strings es ++ strings fs
strings_append [] fs = refl
strings_append (observed bs ∷ es) fs = ap (λ l. bs ∷ l) (strings_append es fs)
strings_append (drew w ∷ es) fs = strings_append es fs

pub strings_both : (bss css : List (List ℕ)) (es fs : List Event) → strings es ≡ bss → strings fs ≡ css → strings (es ++ fs) ≡ bss ++ css
strings_both bss css es fs h k = strings_append es fs ∙ ap (λ l. l ++ strings fs) h ∙ ap (λ l. bss ++ l) k

-- these are the byte strings that are observed
unfoldable pub sent : Account (List ℕ)
sent = record { of = λ bss es. strings es ≡ bss; none = refl; both = strings_both }

-- Where the checks of a play hold it observes these byte strings, in order.
abbrev pub Sends : {R A : Type 0} → Play R A → List (List ℕ) → Type 0
Sends p bss = Shows sent p bss

pub sends_observe : {R : Type 0} {bs : List ℕ} → Sends (observe {R = R} bs) (bs ∷ [])
unfolding sent
sends_observe = record { fit = λ m s h. refl }

pub sends_draw : {R : Type 0} → Sends (draw {R = R}) []
unfolding sent
sends_draw = record { fit = λ m s h. refl }

pub sends_all : (pieces : List (List ℕ)) → Sends (observe_all pieces) pieces
unfolding observe_all
sends_all [] = shows_done
sends_all (bs ∷ rest) = shows_then sends_observe (λ u. sends_all rest)

sends_bits : (n : ℕ) → Sends (draw_bits n) []
unfolding draw_bits
sends_bits n = shows_last sends_draw (λ w. shows_done)

-- positions are drawn, and nothing is observed
sends_indices : (bits stride n : ℕ) → Sends (indices_drawn bits stride n) []
unfolding index_drawn
sends_indices bits stride n = shows_none (index_drawn bits stride) (λ j. shows_last (sends_bits bits) (λ w. shows_done)) (counted 0 n)

sends_strata : (w : ℕ) (ts : List ℕ) → Sends (strata_drawn w ts) []
unfolding strata_drawn
sends_strata w [] = shows_done
sends_strata w (t ∷ ts) = shows_after (sends_indices (w - t) (2 ^ (w - t)) (2 ^ t)) (λ front. shows_last (sends_strata w ts) (λ rest. shows_done))

sends_positions : (stratified : Bool) (w d : ℕ) → Sends (positions_at stratified w d) []
unfolding positions_at
sends_positions stratified w zero = shows_done
sends_positions true w (suc d) = sends_strata w (depths (suc d))
sends_positions false w (suc d) = sends_indices w 0 (suc d)

module _ {F E C P : Type 0} (S : Setting F E C P) where
  -- a witness is observed where anything is ground
  sends_witness : (bits number : ℕ) → Sends (check_witness bits number) (witness S bits number)
  unfolding check_witness
  sends_witness zero number = shows_done
  sends_witness (suc b) number =
      shows_same (sym (ap (λ c. cond c [] (word_bytes number ∷ [])) (eqb-suc-zero b)))
      (shows_then sends_observe (λ u. shows_last (sends_bits (suc b)) (λ w. shows_done)))

  sends_observed : (y : E) → Sends (observe_extension S.numbering S.extension y) (element S y ∷ [])
  unfolding observe_extension
  sends_observed y = sends_observe

  -- the values of the final polynomial
  sends_all_values : (values : List E) → Sends (values_observed S.numbering S.extension values) (map (element S) values)
  unfolding values_observed
  sends_all_values [] = shows_done
  sends_all_values (v ∷ vs) = shows_then (sends_observed v) (λ u. sends_all_values vs)

  pub sends_values : (N : Numbers) (values : List E) → Sends (final_values S.numbering S.extension N values) (map (element S) values)
  unfolding final_values
  sends_values N values = shows_after shows_check (λ u. shows_under (sends_all_values values))

  -- before queries: the witness
  pub sends_queries : (i : ℕ) (w : F) → Sends (queries S i w) (witness S (difficulty S.numbers i) (S.numbering.number w))
  unfolding queries
  sends_queries i w =
      shows_last (shows_under (sends_witness (difficulty S.numbers i) (S.numbering.number w))) (λ clear.
      shows_after shows_check (λ u. shows_last (shows_under (sends_positions S.numbers.strata _ _)) (λ ps. shows_done)))

  module _ (words : played S.drawing ≡ draw_base S.numbering) where
    sends_base : Sends (draw_base S.numbering) []
    unfolding draw_base
    sends_base = shows_last sends_draw (λ w. shows_done)

    -- an element is drawn, and nothing is observed
    pub sends_element : Sends (draw_element S) []
    unfolding rounds.draw_element
    sends_element =
        shows_last (shows_none (λ j. played S.drawing) (λ j. subst (λ p. Sends p []) (sym words) sends_base) (counted 0 S.extension.degree))
        (λ coefficients. shows_done)

    -- a round of a sumcheck
    abbrev turn_strings : ℕ → Given E → List (List ℕ)
    turn_strings bits x = element S x.message.h0 ∷ element S x.message.h2 ∷ witness S bits x.witness

    sends_turn : (n : Rounds) (x : Given E) → Sends (turn S.numbering S.extension (played S.drawing) n x) (turn_strings n.difficulty x)
    unfolding turn
    sends_turn n x =
        shows_then (shows_under (sends_observed x.message.h0)) (λ u.
        shows_then (shows_under (sends_observed x.message.h2)) (λ v.
        shows_last (shows_under (sends_witness n.difficulty x.witness)) (λ clear.
        shows_after shows_check (λ w. shows_last (shows_under sends_element) (λ r. shows_done)))))

    pub sends_sumcheck : (phase : ℕ) (n : Sumcheck) (p : Sent F E) → Sends (sumcheck S phase n p) (of_sumcheck S n p)
    unfolding rounds.sumcheck
    sends_sumcheck phase n p =
        let k : Rounds = rounds_of S phase n in
        shows_after (shows_ask_all (count_checks k p)) (λ u.
        shows_each (turn S.numbering S.extension (played S.drawing) k) (turn_strings n.difficulty) (sends_turn k) (rounds_given 0 p.messages (map S.numbering.number p.witnesses)))

    -- out-of-domain samples: the answers
    sends_sample : (answer : E) → Sends (sample S answer) (element S answer ∷ [])
    unfolding sample
    sends_sample answer = shows_after sends_element (λ z. shows_last (sends_observed answer) (λ u. shows_done))

    pub sends_samples : (answers : List E) → Sends (each (sample S) answers) (map (element S) answers)
    sends_samples answers =
        shows_same (flat_map_single (element S) answers) (shows_each (sample S) (λ a. element S a ∷ []) sends_sample answers)
