-- The calls of the parts of a verification, against what the steps of its pattern say.
use Rattle.std.proofs.Common.{◌≡◌, ℕ, zero, suc, ◌-◌, ◌*◌, ◌^◌, Bool, true, false, cond, eqb, List, [], ◌∷◌, ◌++◌, map, length, sym, refl, ap, ◌∙◌, subst, arith, append-nil, append_assoc, pow_pos}
use Rattle.std.specs.List.{flat_map}
use Rattle.std.proofs.Math.Facts.{eqb_yes}
use Rattle.std.proofs.Math.Dec.{eqb-suc-zero}
use Rattle.std.proofs.lemmas.Bool.{cond-false, ne_eqb}
use Rattle.field.specs.Bytes.{coefficients_bytes}
use Rattle.field.specs.Numbers.{Numbering}
use Rattle.sponge.specs.Play.{Play, each, counted}
use Rattle.sponge.specs.Drawing.{draw_bits, check_witness, draw_base, observe_extension}
use Rattle.configuration.specs.Numbers.{Numbers}
use Rattle.transcript.specs.Depths.{set_bits, depths}
use Rattle.transcript.specs.Steps.{Step, grinding_step, indices_step}
use Rattle.transcript.specs.Pattern.{sample_steps, grinding_steps, query_steps}
use Rattle.transcript.specs.Positions.{index_drawn, indices_drawn, strata_drawn, positions_at}
use Rattle.transcript.specs.Playing.{values_observed, final_values}
use Rattle.transcript.specs.Shape.{Sumcheck}
use Rattle.transcript.specs.declared.interaction.Label.{Label}
use Rattle.transcript.specs.declared.interaction.Label.TheVariants.{QueryPow}
use Rattle.transcript.proofs.Describing.{counted_length}
use Rattle.verification.specs.Drawing.{played, by_word}
use Rattle.verification.specs.Described.{Described, bytes, word, repeated, said, turn_calls, sumcheck_calls}
use Rattle.sumcheck.specs.Rounds as rounds
use Rattle.sumcheck.specs.Rounds.{Rounds, Message, Sent, Given, rounds_given, turn, count_checks}
use Rattle.verification.specs.Setting.{Setting}
use Rattle.verification.specs.Verifying.{rounds_of, draw_element, sumcheck, sample}
use Rattle.verification.proofs.Showing.{shows_done, shows_then, shows_after, shows_same, shows_last, shows_under, shows_check, shows_given, shows_ask_all}
use Rattle.verification.proofs.Describing.{Makes, makes_observe, makes_draw, makes_each}

-- what a step says that stands alone, and what such steps say in turn
abbrev pub own : Step → List Described
own s = said s.kind s.value s.width s.count

abbrev pub own_calls : List Step → List Described
own_calls ss = flat_map own ss

-- a base element that is drawn by a word
pub by_word_draws : {F : Type 0} (N : Numbering F) → played (by_word N) ≡ draw_base N
unfolding draw_base
by_word_draws N = refl

-- so many words
abbrev pub so_many : ℕ → List Described
so_many n = repeated n (word ∷ [])

-- the same play so many times
pub makes_counted : {R B : Type 0} (f : ℕ → Play R B) (ds : List Described) (n : ℕ) → ((j : ℕ) → Makes (f j) ds) → Makes (each f (counted 0 n)) (repeated n ds)
makes_counted f ds n d = shows_same (ap (λ k. repeated k ds) (counted_length 0 n)) (makes_each f ds d (counted 0 n))

makes_bits : (n : ℕ) → Makes (draw_bits n) (word ∷ [])
unfolding draw_bits
makes_bits n = shows_last makes_draw (λ w. shows_done)

-- the calls of grinding, where it is asked for
grinding_asked : (l : Label) (b : ℕ) → own_calls (grinding_steps (suc b) l) ≡ bytes 4 ∷ word ∷ []
grinding_asked l b = ap (λ c. own_calls (cond c [] (grinding_step (suc b) l ∷ []))) (eqb-suc-zero b)

grinding_said : (l : Label) (bits : ℕ) → own_calls (grinding_steps bits l) ≡ cond (eqb bits 0) [] (bytes 4 ∷ word ∷ [])
grinding_said l zero = refl
grinding_said l (suc b) = grinding_asked l b ∙ sym (ap (λ c. cond c [] (bytes 4 ∷ word ∷ [])) (eqb-suc-zero b))

pub makes_grinding : (l : Label) (bits witness : ℕ) → Makes (check_witness bits witness) (own_calls (grinding_steps bits l))
unfolding check_witness
makes_grinding l zero witness = shows_done
makes_grinding l (suc b) witness =
    shows_same (sym (grinding_asked l b)) (shows_then (makes_observe refl) (λ u. shows_last (makes_bits (suc b)) (λ w. shows_done)))

makes_indices : (bits stride n : ℕ) → Makes (indices_drawn bits stride n) (so_many n)
unfolding index_drawn
makes_indices bits stride n = makes_counted (index_drawn bits stride) (word ∷ []) n (λ j. shows_last (makes_bits bits) (λ w. shows_done))

pub one_or_more : (t : ℕ) → cond (eqb (2 ^ t) 0) 1 (2 ^ t) ≡ 2 ^ t
one_or_more t = cond-false _ 1 (2 ^ t) (ne_eqb (2 ^ t) 0 (λ e. let h = pow_pos t in omega (arith, h, e)))

makes_strata : (l : Label) (w d : ℕ) (ts : List ℕ) → Makes (strata_drawn w ts) (own_calls (query_steps true w d ts l))
unfolding strata_drawn
makes_strata l w d [] = shows_done
makes_strata l w d (t ∷ ts) =
    shows_then (shows_same (ap so_many (sym (one_or_more t))) (makes_indices (w - t) (2 ^ (w - t)) (2 ^ t)))
    (λ front. shows_last (makes_strata l w d ts) (λ rest. shows_done))

-- no positions are drawn
makes_none : (l : Label) (w : ℕ) (stratified : Bool) → Makes (positions_at stratified w 0) (own_calls (query_steps stratified w 0 (depths 0) l))
unfolding positions_at depths set_bits
makes_none l w true = shows_done
makes_none l w false = shows_done

-- the calls of indices that are all drawn alike
alike_said : (l : Label) (w d : ℕ) (ts : List ℕ) → own_calls (query_steps false w (suc d) ts l) ≡ so_many (suc d)
alike_said l w d ts =
    ap (λ c. own_calls (cond c [] (indices_step w (suc d) l ∷ []))) (eqb-suc-zero d)
    ∙ append-nil (own (indices_step w (suc d) l))
    ∙ ap (λ c. so_many (cond c 1 (suc d))) (eqb-suc-zero d)

-- the positions of a phase
pub makes_positions : (l : Label) (stratified : Bool) (w d : ℕ) → Makes (positions_at stratified w d) (own_calls (query_steps stratified w d (depths d) l))
unfolding positions_at
makes_positions l stratified w zero = makes_none l w stratified
makes_positions l true w (suc d) = makes_strata l w (suc d) (depths (suc d))
makes_positions l false w (suc d) = shows_same (sym (alike_said l w d (depths (suc d)))) (makes_indices w 0 (suc d))

-- an element is written as four bytes a coefficient
long : {F : Type 0} (n : Numbering F) (cs : List F) → length (coefficients_bytes n cs) ≡ 4 * length cs
long n [] = refl
long n (c ∷ cs) = let h = long n cs in omega (arith, h)

module _ {F E C P : Type 0} (S : Setting F E C P) (words : played S.drawing ≡ draw_base S.numbering) (count : (y : E) → length (S.extension.coefficients y) ≡ S.extension.degree) where
  makes_observed : (y : E) → Makes (observe_extension S.numbering S.extension y) (bytes (4 * S.extension.degree) ∷ [])
  unfolding observe_extension
  makes_observed y = makes_observe (long S.numbering (S.extension.coefficients y) ∙ ap (λ k. 4 * k) (count y))

  makes_base : Makes (draw_base S.numbering) (word ∷ [])
  unfolding draw_base
  makes_base = shows_last makes_draw (λ w. shows_done)

  -- an element is drawn by a word a coefficient
  pub makes_element : Makes (draw_element S) (so_many S.extension.degree)
  unfolding rounds.draw_element
  makes_element =
      shows_last (makes_counted (λ j. played S.drawing) (word ∷ []) S.extension.degree (λ j. subst (λ p. Makes p (word ∷ [])) (sym words) makes_base))
      (λ coefficients. shows_done)

  -- a round of a sumcheck
  makes_turn : (n : Rounds) (x : Given E) → Makes (turn S.numbering S.extension (played S.drawing) n x) (turn_calls S.extension.degree n.difficulty)
  unfolding turn
  makes_turn n x =
      shows_then (shows_under (makes_observed x.message.h0)) (λ u.
      shows_then (shows_under (makes_observed x.message.h2)) (λ v.
      shows_then (shows_under (shows_same (grinding_said QueryPow n.difficulty) (makes_grinding QueryPow n.difficulty x.witness))) (λ clear.
      shows_after shows_check (λ w. shows_last (shows_under makes_element) (λ r. shows_done)))))

  length_given : (i : ℕ) (ms : List (Message E)) (ws : List ℕ) → length (rounds_given i ms ws) ≡ length ms
  length_given i [] ws = refl
  length_given i (m ∷ ms) [] = ap suc (length_given (suc i) ms [])
  length_given i (m ∷ ms) (w ∷ ws) = ap suc (length_given (suc i) ms ws)

  -- a sumcheck, as many rounds as it has
  pub makes_sumcheck : (phase : ℕ) (n : Sumcheck) (p : Sent F E) → Makes (sumcheck S phase n p) (sumcheck_calls S.extension.degree n)
  unfolding rounds.sumcheck
  makes_sumcheck phase n p =
      let k : Rounds = rounds_of S phase n in
      let ws : List ℕ = map S.numbering.number p.witnesses in
      shows_given (length p.messages ≡ n.turns) (λ m s h. eqb_yes h.0) (λ e.
      shows_after (shows_ask_all (count_checks k p)) (λ u.
      shows_same (ap (λ k. repeated k (turn_calls S.extension.degree n.difficulty)) (length_given 0 p.messages ws ∙ e))
      (makes_each (turn S.numbering S.extension (played S.drawing) k) (turn_calls S.extension.degree n.difficulty) (makes_turn k) (rounds_given 0 p.messages ws))))

  -- an out-of-domain sample
  makes_sample : (answer : E) → Makes (sample S answer) ((so_many S.extension.degree ++ []) ++ (bytes (4 * S.extension.degree) ∷ []))
  unfolding sample
  makes_sample answer =
      shows_then (shows_same (sym (append-nil (so_many S.extension.degree))) makes_element) (λ z.
      shows_last (makes_observed answer) (λ u. shows_done))

  -- out-of-domain samples
  pub makes_samples : (answers : List E) → Makes (each (sample S) answers) (own_calls (sample_steps S.extension.degree (length answers)))
  unfolding each
  makes_samples [] = shows_done
  makes_samples (a ∷ more) =
      let others : List Described = own_calls (sample_steps S.extension.degree (length more)) in
      shows_same (append_assoc (so_many S.extension.degree ++ []) (bytes (4 * S.extension.degree) ∷ []) others)
      (shows_then (makes_sample a) (λ z. shows_last (makes_samples more) (λ zs. shows_done)))

  makes_all : (values : List E) → Makes (values_observed S.numbering S.extension values) (repeated (length values) (bytes (4 * S.extension.degree) ∷ []))
  unfolding values_observed
  makes_all [] = shows_done
  makes_all (v ∷ vs) = shows_then (makes_observed v) (λ u. makes_all vs)

  -- the final polynomial
  pub makes_values : (N : Numbers) (values : List E) → Makes (final_values S.numbering S.extension N values) (repeated (2 ^ N.final_rounds) (bytes (4 * S.extension.degree) ∷ []))
  unfolding final_values
  makes_values N values =
      shows_given (length values ≡ 2 ^ N.final_rounds) (λ m s h. h) (λ e.
      shows_after shows_check (λ u.
      shows_same (ap (λ k. repeated k (bytes (4 * S.extension.degree) ∷ [])) e) (shows_under (makes_all values))))
