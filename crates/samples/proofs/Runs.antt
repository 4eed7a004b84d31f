-- The runs, by computing.
use Rattle.std.specs.Prelude.{◌≡◌, refl, [], ◌∷◌, ℕ, List}
use Rattle.std.proofs.Common.{ap, ap₂}
use Rattle.sponge.specs.Play.{read, each}
use Rattle.sponge.specs.Trial.{trial}
use Rattle.sponge.specs.Deciding.{true?, same?}
use Rattle.sponge.specs.Drawing.{draw_bits, check_witness, draw_base, observe_extension}
use Rattle.std.proofs.Math.Decide.{ℕ_discrete, dec_le}
use Rattle.transcript.specs.Opening.{pieces, separator, observe_all}
use Rattle.transcript.specs.Steps.{step_bytes, label_bytes}
use Rattle.transcript.specs.Depths.{set_bits, depths}
use Rattle.transcript.specs.Bytes as bytes
use Rattle.transcript.specs.Instances.{instance_bytes}
use Rattle.transcript.specs.Positions.{index_drawn, strata_drawn, positions_at}
use Rattle.transcript.specs.Playing.{values_observed, final_values}
use Rattle.multilinear.specs.Tables.{orient, setting, bit, digits, corners, product, eq_factor, select_factor, dot, over, cube, tabulate, value, view, position, folded, row}
use Rattle.multilinear.specs.Univariate.{pow, expand}
use Rattle.sumcheck.specs.Rounds.{draw_element, turn, sumcheck}
use Rattle.verification.specs.Verifying.{queries, sample, play_round, carried_claim, expected_claim, challenges, reading, verifying}
use Rattle.argument.specs.Readings.{el, els}
use Rattle.field.specs.ResiduesLemmas.{residue_path}
use Rattle.argument.proofs.Readings.{listed}
use Rattle.verification.specs.Setting.{Setting, Inputs, Reading}
use Rattle.errors.specs.declared.VerifierError.TheVariants.{SumcheckFailed}
use Rattle.samples.specs.Elements.{Element}
use Rattle.samples.specs.Pairs.{pairs, over_pairs, pair_honest, pair_false_claim}
use Rattle.field.specs.Tower.{pair}
use Rattle.field.specs.Pairs.{pair_path}
use Rattle.samples.specs.Three.{three, three_honest, three_false_claim}
use Rattle.samples.specs.Two.{two, two_other, two_honest, two_false_claim, two_false_claims, two_false_polynomial, two_false_message}
use Rattle.samples.specs.Eight.{eight, eight_honest, eight_false_claim, eight_other_answer}
use Rattle.samples.specs.Runs.{accepted, refused, TwoRuns, EightRuns, PairRuns, ThreeRuns}

-- what is read from a new sponge
abbrev read_of : {E : Type 0} → Setting Element E ℕ (Unit {0}) → Inputs Element E ℕ (Unit {0}) → Reading E
read_of S I = (read trial (0 ∷ []) (reading S I)).value

-- the challenges are these; and so are the two sides of the closing identity
accepted_so : {E : Type 0} (S : Setting Element E ℕ (Unit {0})) (I : Inputs Element E ℕ (Unit {0})) (rs : List E) (s : ℕ)
    → challenges S I (read_of S I) ≡ rs → accepted (challenges S I (read_of S I)) s ≡ accepted rs s
accepted_so S I rs s e = ap (λ l. accepted l s) e

closing_so : {E : Type 0} (S : Setting Element E ℕ (Unit {0})) (I : Inputs Element E ℕ (Unit {0})) (k : ℕ) (a b : E) (s : ℕ)
    → expected_claim S I (read_of S I) ≡ a → carried_claim S I (read_of S I) ≡ b
    → refused (SumcheckFailed k (expected_claim S I (read_of S I)) (carried_claim S I (read_of S I))) s ≡ refused (SumcheckFailed k a b) s
closing_so S I k a b s e f = ap₂ (λ u v. refused (SumcheckFailed k u v) s) e f

pub two_runs : TwoRuns
unfolding observe_all separator pieces step_bytes label_bytes set_bits depths bytes.eight instance_bytes each true? same? draw_bits check_witness draw_base observe_extension ℕ_discrete dec_le index_drawn strata_drawn positions_at values_observed final_values orient setting bit digits corners product eq_factor select_factor dot over cube tabulate value view position folded row pow expand draw_element turn sumcheck queries sample play_round reading verifying
two_runs = record {
  honest = accepted_so two two_honest (els (34 ∷ 138 ∷ [])) 17906508602623944821 (listed _ _ refl);
  false_claim = closing_so two two_false_claim 1 (el 79) (el 145) 17906508602623944821 (residue_path refl) (residue_path refl);
  false_claims = accepted_so two two_false_claims (els (34 ∷ 138 ∷ [])) 17906508602623944821 (listed _ _ refl);
  false_polynomial = accepted_so two two_false_polynomial (els (34 ∷ 184 ∷ [])) 5339674027509073075 (listed _ _ refl);
  false_message = accepted_so two_other two_false_message (els (0 ∷ 56 ∷ [])) 778539318562046705 (listed _ _ refl);
  wrong_row = refl;
  no_polynomial = refl;
  no_message = refl;
  other_witness = refl;
  other_query_witness = refl;
  other_polynomial = refl;
  extra_round = refl;
}

pub eight_runs : EightRuns
unfolding observe_all separator pieces step_bytes label_bytes set_bits depths bytes.eight instance_bytes each true? same? draw_bits check_witness draw_base observe_extension ℕ_discrete dec_le index_drawn strata_drawn positions_at values_observed final_values orient setting bit digits corners product eq_factor select_factor dot over cube tabulate value view position folded row pow expand draw_element turn sumcheck queries sample play_round reading verifying
eight_runs = record {
  honest = accepted_so eight eight_honest (els (50 ∷ 103 ∷ 188 ∷ 246 ∷ 203 ∷ 64 ∷ 155 ∷ 200 ∷ [])) 14111365710728727937 (listed _ _ refl);
  false_claim = closing_so eight eight_false_claim 6 (el 173) (el 29) 14111365710728727937 (residue_path refl) (residue_path refl);
  other_answer = closing_so eight eight_other_answer 6 (el 224) (el 118) 5897169360792287897 (residue_path refl) (residue_path refl);
  no_commitment = refl;
  more_rows = refl;
  wrong_row = refl;
}

pub pair_runs : PairRuns
unfolding observe_all separator pieces step_bytes label_bytes set_bits depths bytes.eight instance_bytes each true? same? draw_bits check_witness draw_base observe_extension ℕ_discrete dec_le index_drawn strata_drawn positions_at values_observed final_values orient setting bit digits corners product eq_factor select_factor dot over cube tabulate value view position folded row pow expand draw_element turn sumcheck queries sample play_round reading verifying
pair_runs = record {
  honest =
      accepted_so over_pairs pair_honest (pairs (107 ∷ 64 ∷ 21 ∷ 144 ∷ [])) 1495791013038353744
      (ap₂ (λ x y. x ∷ y ∷ []) (pair_path (residue_path refl) (residue_path refl)) (pair_path (residue_path refl) (residue_path refl)));
  false_claim =
      closing_so over_pairs pair_false_claim 1 (pair (el 231) (el 26)) (pair (el 115) (el 109)) 1495791013038353744 (pair_path (residue_path refl) (residue_path refl))
      (pair_path (residue_path refl) (residue_path refl));
  other_kind = refl;
}

pub three_runs : ThreeRuns
unfolding observe_all separator pieces step_bytes label_bytes set_bits depths bytes.eight instance_bytes each true? same? draw_bits check_witness draw_base observe_extension ℕ_discrete dec_le index_drawn strata_drawn positions_at values_observed final_values orient setting bit digits corners product eq_factor select_factor dot over cube tabulate value view position folded row pow expand draw_element turn sumcheck queries sample play_round reading verifying
three_runs = record {
  honest = accepted_so three three_honest (els (166 ∷ 239 ∷ 33 ∷ [])) 15185022215624530423 (listed _ _ refl);
  false_claim = closing_so three three_false_claim 1 (el 138) (el 222) 15185022215624530423 (residue_path refl) (residue_path refl);
}
