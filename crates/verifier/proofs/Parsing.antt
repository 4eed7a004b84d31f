-- Parsing a round's commitment, part by part.
use Rattle.std.proofs.Common.{◌≡◌, ℕ, Bool, true, false, cond, List, [], ◌∷◌, length, get_or, ltb, is_some, Ok, Err, Some, None, Option, Result, ◌==◌, sym, refl, ap, ◌∙◌, subst}
use mathlib.Core.Path.{fun_ext}
use Rattle.std.proofs.lemmas.Bool.{cond-true, cond-false, ne_eqb, eq-eqb, ltb-true, ltb-false}
use Rattle.std.proofs.lemmas.Option.{slice_get_past, slice_get_read}
use Rattle.std.specs.List.{slice_get}
use Rattle.std.specs.Option.{option_and_then}
use Rattle.sponge.specs.Play.{Rules, Play, done, observe, sure, ◌>>=◌, ◌>>◌, each}
use Rattle.sponge.specs.Plays.{Plays}
use Rattle.sponge.specs.Deciding.{true?}
use Rattle.sponge.specs.Drawing.{draw_base, draw_extension, observe_extension}
use Rattle.sponge.proofs.Leads.{leads_none, leads_observe, leads_more, leads_refused, leads_sure, leads_done}
use Rattle.sumcheck.specs.Checks.{Check, ask, ask_all}
use Rattle.sumcheck.specs.Rounds as rounds
use Rattle.transcript.specs.Shape.{round_shape}
use Rattle.errors.specs.declared.VerifierError.{VerifierError}
use Rattle.errors.specs.declared.VerifierError.TheVariants.{MissingRoundCommitment, RoundOodAnswerCountMismatch}
use Rattle.verification.specs.Drawing.{played}
use Rattle.verification.specs.Setting.{Setting, Item}
use Rattle.verification.specs.Verifying.{round_checks, observed_as, sample}
use Rattle.verification.specs.Checks.{verdict}
use Rattle.verifier.specs.Reader.{sampled, parsed_play}

-- tests that are asked in turn come to their verdict
asked : {R : Type 0} (m : Rules) (s : List ℕ) (cs : List (Check R)) → Plays m s (ask_all cs) (verdict cs tt) s
unfolding true?
asked m s [] = record { comes = refl }
asked {R} m s (c ∷ cs) = one c.holds c.refusal (asked m s cs)
  where
    one : (b : Bool) (r : R) → Plays m s (ask_all cs) (verdict cs tt) s → Plays m s (ask b r >> ask_all cs) (cond b (verdict cs tt) (Err r)) s
    one true r h = record { comes = h.comes }
    one false r h = record { comes = refl }

module _ {F E C P : Type 0} (S : Setting F E C P) where
  -- a sample, where elements are drawn as everywhere
  sample_drawn : played S.drawing ≡ draw_base S.numbering → (a : E) → sample S a ≡ sampled S.numbering S.extension a
  unfolding sample sampled rounds.draw_element draw_extension
  sample_drawn words a = ap (λ d. rounds.draw_element S.numbering S.extension d >>= λ z. observe_extension S.numbering S.extension a >> done z) words

  samples_drawn : played S.drawing ≡ draw_base S.numbering → (answers : List E) → each (sample S) answers ≡ each (sampled S.numbering S.extension) answers
  samples_drawn words answers = ap (λ f. each f answers) (fun_ext (sample_drawn words))

  module _ (m : Rules) (s : List ℕ) (x : Item F E C P) where
    -- what is asked first refuses
    asked_refused : (e : VerifierError E) → verdict (round_checks S x) (tt {0}) ≡ Err e → Plays m s (parsed_play S x) (Err e) s
    unfolding parsed_play
    asked_refused e h =
        leads_refused (ask_all (round_checks S x)) _ (leads_none m s (parsed_play S x)) (subst (λ o. Plays m s (ask_all (round_checks S x)) o s) h (asked m s (round_checks S x)))

    -- the commitment is missing
    pub none_refused : x.part.commitment ≡ None → Plays m s (parsed_play S x) (Err (MissingRoundCommitment x.number)) s
    none_refused h =
        let samples = (round_shape S.numbers x.number).samples in
        asked_refused (MissingRoundCommitment x.number)
        (ap (λ (o : Option C). cond (is_some o) (cond (length x.part.answers == samples) (Ok tt) (Err (RoundOodAnswerCountMismatch x.number samples (length x.part.answers)))) (Err (MissingRoundCommitment x.number))) h)

    -- it is there, and the answers are too few or too many
    pub count_refused : (c : C) (expected actual : ℕ) → x.part.commitment ≡ Some c → expected ≡ (round_shape S.numbers x.number).samples → actual ≡ length x.part.answers → ¬ (actual ≡ expected)
        → Plays m s (parsed_play S x) (Err (RoundOodAnswerCountMismatch x.number expected actual)) s
    count_refused c expected actual h e f n =
        let samples = (round_shape S.numbers x.number).samples in
        let refusal : ℕ → ℕ → VerifierError E = RoundOodAnswerCountMismatch x.number in
        let outcome : ℕ → ℕ → Result (Unit {0}) (VerifierError E) = λ k l. cond (l == k) (Ok tt) (Err (refusal k l)) in
        asked_refused (refusal expected actual)
        (ap (λ (o : Option C). cond (is_some o) (outcome samples (length x.part.answers)) (Err (MissingRoundCommitment x.number))) h
        ∙ ap (λ k. outcome k (length x.part.answers)) (sym e) ∙ ap (outcome expected) (sym f) ∙ cond-false (actual == expected) (Ok tt) _ (ne_eqb actual expected n))

    -- both are right
    passed : (c : C) → x.part.commitment ≡ Some c → length x.part.answers ≡ (round_shape S.numbers x.number).samples → verdict (round_checks S x) (tt {0}) ≡ Ok tt
    passed c h n =
        let samples = (round_shape S.numbers x.number).samples in
        let outcome : Result (Unit {0}) (VerifierError E) = cond (length x.part.answers == samples) (Ok tt) (Err (RoundOodAnswerCountMismatch x.number samples (length x.part.answers))) in
        ap (λ (o : Option C). cond (is_some o) outcome (Err (MissingRoundCommitment x.number))) h
        ∙ cond-true (length x.part.answers == samples) (Ok tt) _ (eq-eqb (length x.part.answers) samples n)

    -- then the commitment is observed and the samples are drawn
    pub parsed : (c : C) (bytes : List ℕ) (answers places : List E) (t u : List ℕ) → played S.drawing ≡ draw_base S.numbering → x.part.commitment ≡ Some c → answers ≡ x.part.answers
        → length answers ≡ (round_shape S.numbers x.number).samples → bytes ≡ S.scheme.observed c → Plays m s (observe {R = ⊥} bytes) (Ok tt) t
        → Plays m t (each (sampled S.numbering S.extension) answers) (Ok places) u → Plays m s (parsed_play S x) (Ok places) u
    unfolding parsed_play
    parsed c bytes answers places t u words h same n is seen drawn =
        let drawing : Play ⊥ (List E) = each (sample S) x.part.answers in
        let seen_so : t ≡ m.after_observe s (observed_as S x.part.commitment) = sym (ap (λ o. o.list) seen.comes) ∙ ap (m.after_observe s) (is ∙ sym (ap (observed_as S) h)) in
        let asked_all = subst (λ o. Plays m s (ask_all (round_checks S x)) o s) (passed c h (sym (ap length same) ∙ n)) (asked m s (round_checks S x)) in
        let begun = leads_more (ask_all (round_checks S x)) (λ v. observe (observed_as S x.part.commitment) >> (sure drawing >>= λ zs. done zs)) (leads_none m s (parsed_play S x)) asked_all in
        let observed = leads_observe (observed_as S x.part.commitment) (λ v. sure drawing >>= λ zs. done zs) begun seen_so in
        let drawn_so = subst (λ p. Plays m t p (Ok places) u) (sym (samples_drawn words x.part.answers)) (subst (λ l. Plays m t (each (sampled S.numbering S.extension) l) (Ok places) u) same drawn) in
        leads_done places (leads_sure drawing (λ zs. done zs) observed drawn_so)

-- what stands at a place of a list
pub nothing_there : {C : Type 0} (l : List C) (i : ℕ) (o : Option ℕ) → o ≡ Some i → false ≡ ltb i (length l) → option_and_then (slice_get l) o ≡ None
nothing_there l i o e h = ap (option_and_then (slice_get l)) e ∙ slice_get_past l i (ltb-false i (length l) (sym h))

pub item_there : {C : Type 0} (l : List C) (i : ℕ) (o : Option ℕ) (c : C) → o ≡ Some i → true ≡ ltb i (length l) → c ≡ get_or l i c → option_and_then (slice_get l) o ≡ Some c
item_there l i o c e h is = ap (option_and_then (slice_get l)) e ∙ slice_get_read l (length l) i c refl (ltb-true i (length l) (sym h)) is
