-- The bytes that an accepted verification hands to the sponge, and what it makes of the words that it draws. Assumes nothing.
use Rattle.std.specs.Prelude.{◌≡◌, ℕ, cond, List, [], ◌∷◌, ◌++◌, map, Ok, ◌==◌}
use Rattle.std.specs.List.{flat_map}
use Rattle.field.specs.Bytes.{word_bytes, element_bytes}
use Rattle.sponge.specs.Play.{Rules, Event, observed, drew, run, trail}
use Rattle.sponge.specs.Drawing.{draw_extension}
use Rattle.transcript.specs.Shape.{Sumcheck, shape, round_shape, difficulty}
use Rattle.transcript.specs.Opening.{separator}
use Rattle.sumcheck.specs.Rounds.{Sent, rounds_given}
use Rattle.verification.specs.Setting.{Setting, Inputs, Item, last, given}
use Rattle.verification.specs.Verifying.{draw_element, observed_as, all_items, final_polynomial, final_sumcheck, verifying}

-- The byte strings that calls observe, in order.
abbrev pub strings : List Event → List (List ℕ)
strings [] = []
strings (observed bs ∷ es) = bs ∷ strings es
strings (drew w ∷ es) = strings es

module _ {F E C P : Type 0} (S : Setting F E C P) where
  abbrev pub element : E → List ℕ
  element y = element_bytes S.numbering S.extension y

  -- a witness, where anything is ground
  abbrev pub witness : (bits number : ℕ) → List (List ℕ)
  witness bits number = cond (bits == 0) [] (word_bytes number ∷ [])

  -- A sumcheck: of each round h0, h2 and the witness.
  abbrev pub of_sumcheck : Sumcheck → Sent F E → List (List ℕ)
  of_sumcheck n p =
      flat_map (λ x. element x.message.h0 ∷ element x.message.h2 ∷ witness n.difficulty x.witness) (rounds_given 0 p.messages (map S.numbering.number p.witnesses))

  -- A round: its commitment, its answers, the witness before its queries, its sumcheck.
  abbrev pub of_round : Item F E C P → List (List ℕ)
  of_round x =
      observed_as S x.part.commitment
      ∷ (map element x.part.answers
      ++ (witness (difficulty S.numbers x.number) (S.numbering.number x.part.witness) ++ of_sumcheck (round_shape S.numbers x.number).sumcheck x.part.sumcheck))

  module _ (I : Inputs F E C P) where
    -- The whole: the separator's pieces, the initial sumcheck, the rounds, the final polynomial's values, the witness before the final
    -- queries, the final sumcheck.
    abbrev pub all_strings : List (List ℕ)
    all_strings =
        let s = shape S.numbers I.opening_claims in
        separator S.numbers S.extension.degree I.opening_claims
        ++ (of_sumcheck s.initial (given S I).initial
        ++ (flat_map of_round (all_items S I)
        ++ (map element (final_polynomial S I)
        ++ (witness (difficulty S.numbers (last S)) (S.numbering.number I.proof.witness) ++ of_sumcheck s.final (final_sumcheck S I)))))

  -- Where it accepts, these are the byte strings that it has observed, in this order.
  abbrev pub AcceptedObserves : Type 0
  AcceptedObserves =
      (m : Rules) (s : List ℕ) (I : Inputs F E C P) (point : List E) → (run m s (verifying S I)).answer ≡ Ok point → strings (trail m s (verifying S I)) ≡ all_strings I

  -- An element is drawn as everywhere else: by as many words as it has coefficients, each modulo the modulus.
  pub record DrawsElements (m : Rules) (s : List ℕ) : Type 0 where
    pub alike : run m s (draw_element S) ≡ run m s (draw_extension S.numbering S.extension)
    pub calls : trail m s (draw_element S) ≡ trail m s (draw_extension S.numbering S.extension)
