-- Wrong answers yes, each by another accident, by computing.
use Rattle.std.specs.Prelude.{◌≡◌, refl, ℕ, List, [], ◌∷◌, map, slice_index_or}
use Rattle.std.proofs.Common.{ap, inl, inr, arith}
use Rattle.field.specs.declared.residue.Residue.{Residue}
use Rattle.field.specs.Residues.{ops_257}
use Rattle.field.specs.ResiduesLemmas.{residue_path}
use Rattle.multilinear.specs.declared.order.VariableOrder.TheVariants.{Suffix}
use Rattle.std.proofs.Math.Decide.{ℕ_discrete, dec_le}
use Rattle.multilinear.specs.Tables.{orient, setting, bit, digits, corners, product, eq_factor, select_factor, dot, over, cube, tabulate, value, view, position, folded, row}
use Rattle.multilinear.specs.Univariate.{pow, expand}
use Rattle.sponge.specs.Play.{each}
use Rattle.sponge.specs.Deciding.{true?, same?}
use Rattle.sponge.specs.Drawing.{draw_bits, check_witness, draw_base, observe_extension}
use Rattle.transcript.specs.Opening.{pieces, separator, observe_all}
use Rattle.transcript.specs.Steps.{step_bytes, label_bytes}
use Rattle.transcript.specs.Depths.{set_bits, depths}
use Rattle.transcript.specs.Bytes as bytes
use Rattle.transcript.specs.Instances.{instance_bytes}
use Rattle.transcript.specs.Positions.{index_drawn, strata_drawn, positions_at}
use Rattle.transcript.specs.Playing.{values_observed, final_values}
use Rattle.sumcheck.specs.Rounds.{draw_element, turn, sumcheck, steps, challenges_of}
use Rattle.verification.specs.Verifying.{queries, sample, play_round, reading, verifying, final_polynomial, last_rows}
use Rattle.argument.specs.Roots.{Root}
use Rattle.argument.specs.Readings.{el, els, numbers}
use Rattle.argument.specs.Sumcheck.{before, MessageRoot, here}
use Rattle.argument.specs.Claims.{batched, weight}
use Rattle.argument.specs.Accidents.{Alike, alpha, message, later, alike, claims_error}
use Rattle.verification.specs.Setting.{claims, point_at}
use Rattle.assurance.specs.Committed.{positions_of}
use Rattle.assurance.specs.Accepted.{ClaimsTrue}
use Rattle.samples.specs.Two.{two, two_other, two_table, two_values, two_other_table, two_other_values, two_false_claims, two_false_message, two_false_polynomial}
use Rattle.samples.specs.Instances.{reading_of, AnyTables, WrongYes, ByAlpha, ByMessage, ByRows}
use Rattle.samples.proofs.Holding.{held, other_held}
use Rattle.samples.proofs.Runs.{two_runs}

-- an error is not zero, and the errors' sum by the powers of α is
alpha_root : Root ops_257 (claims_error ops_257 two_table (claims two two_false_claims)) (reading_of two two_false_claims).alpha
unfolding observe_all separator pieces step_bytes label_bytes set_bits depths bytes.eight instance_bytes each true? same? draw_bits check_witness draw_base observe_extension ℕ_discrete dec_le index_drawn strata_drawn positions_at values_observed final_values orient setting bit digits corners product eq_factor select_factor dot over cube tabulate value view position folded row pow expand draw_element turn sumcheck queries sample play_round reading verifying
alpha_root = record {
  nonzero = inl (λ e. let f : ◌≡◌ {A = ℕ} 167 0 = ap (λ x. x.value) e in omega (arith, f));
  vanishes = residue_path refl;
}

alpha_untrue : (gs : AnyTables) → ClaimsTrue two two_table gs two_false_claims → ⊥
unfolding observe_all separator pieces step_bytes label_bytes set_bits depths bytes.eight instance_bytes each true? same? draw_bits check_witness draw_base observe_extension ℕ_discrete dec_le index_drawn strata_drawn positions_at values_observed final_values orient setting bit digits corners product eq_factor select_factor dot over cube tabulate value view position folded row pow expand draw_element turn sumcheck queries sample play_round reading verifying
alpha_untrue gs c = let f : ◌≡◌ {A = ℕ} 161 251 = ap (λ x. x.value) c.0 in omega (arith, f)

alpha_yes : WrongYes two_values two_table two_false_claims
alpha_yes = record {
  committed = λ gs. record { sized = refl; first = held; later = tt };
  untrue = alpha_untrue;
  challenges = els (34 ∷ 138 ∷ []);
  left = 17906508602623944821;
  answered = two_runs.false_claims;
  shown = λ gs. alpha alpha_root;
}

-- the numbers that are shown of it
alpha_errors : numbers (claims_error ops_257 two_table (claims two two_false_claims)) ≡ 167 ∷ 1 ∷ []
unfolding observe_all separator pieces step_bytes label_bytes set_bits depths bytes.eight instance_bytes each true? same? draw_bits check_witness draw_base observe_extension ℕ_discrete dec_le index_drawn strata_drawn positions_at values_observed final_values orient setting bit digits corners product eq_factor select_factor dot over cube tabulate value view position folded row pow expand draw_element turn sumcheck queries sample play_round reading verifying
alpha_errors = refl

alpha_challenge : (reading_of two two_false_claims).alpha.value ≡ 90
unfolding observe_all separator pieces step_bytes label_bytes set_bits depths bytes.eight instance_bytes each true? same? draw_bits check_witness draw_base observe_extension ℕ_discrete dec_le index_drawn strata_drawn positions_at values_observed final_values orient setting bit digits corners product eq_factor select_factor dot over cube tabulate value view position folded row pow expand draw_element turn sumcheck queries sample play_round reading verifying
alpha_challenge = refl

pub by_alpha : ByAlpha
unfolding alpha_yes
by_alpha = record { yes = alpha_yes; errors = alpha_errors; challenge = alpha_challenge; root = alpha_root; shows = λ gs. refl }

-- the message is wrong in its middle coefficient, and the challenge is 0
message_root :
    (let r = reading_of two_other two_false_message in
    let qs = claims two_other two_false_message in
    MessageRoot ops_257 (steps r.initial) (before (steps r.final) 0) (weight ops_257 Suffix qs r.alpha) (view ops_257 Suffix two_other_table) (batched ops_257 qs r.alpha))
unfolding observe_all separator pieces step_bytes label_bytes set_bits depths bytes.eight instance_bytes each true? same? draw_bits check_witness draw_base observe_extension ℕ_discrete dec_le index_drawn strata_drawn positions_at values_observed final_values orient setting bit digits corners product eq_factor select_factor dot over cube tabulate value view position folded row pow expand draw_element turn sumcheck queries sample play_round reading verifying
message_root = here (record {
  nonzero = inr (inl (λ e. let f : ◌≡◌ {A = ℕ} 1 0 = ap (λ x. x.value) e in omega (arith, f)));
  vanishes = residue_path refl;
})

message_untrue : (gs : AnyTables) → ClaimsTrue two_other two_other_table gs two_false_message → ⊥
unfolding observe_all separator pieces step_bytes label_bytes set_bits depths bytes.eight instance_bytes each true? same? draw_bits check_witness draw_base observe_extension ℕ_discrete dec_le index_drawn strata_drawn positions_at values_observed final_values orient setting bit digits corners product eq_factor select_factor dot over cube tabulate value view position folded row pow expand draw_element turn sumcheck queries sample play_round reading verifying
message_untrue gs c = let f : ◌≡◌ {A = ℕ} 27 26 = ap (λ x. x.value) c.0 in omega (arith, f)

message_yes : WrongYes two_other_values two_other_table two_false_message
message_yes = record {
  committed = λ gs. record { sized = refl; first = other_held; later = tt };
  untrue = message_untrue;
  challenges = els (0 ∷ 56 ∷ []);
  left = 778539318562046705;
  answered = two_runs.false_message;
  shown = λ gs. message message_root;
}

message_challenge : numbers (challenges_of (reading_of two_other two_false_message).initial) ≡ 0 ∷ []
unfolding observe_all separator pieces step_bytes label_bytes set_bits depths bytes.eight instance_bytes each true? same? draw_bits check_witness draw_base observe_extension ℕ_discrete dec_le index_drawn strata_drawn positions_at values_observed final_values orient setting bit digits corners product eq_factor select_factor dot over cube tabulate value view position folded row pow expand draw_element turn sumcheck queries sample play_round reading verifying
message_challenge = refl

pub by_message : ByMessage
unfolding message_yes
by_message = record { yes = message_yes; challenge = message_challenge; root = message_root; shows = λ gs. refl }

-- the final polynomial (84, 103) and the folded table (71, 116) are alike at position 0, which is opened twice, and not at position 1
alikeness :
    (let r = reading_of two two_false_polynomial in
    Alike ops_257 (final_polynomial two two_false_polynomial) (folded ops_257 Suffix (before (steps r.final) 0) two_table (challenges_of r.initial)) (last_rows two two_false_polynomial r.positions)
    (map (point_at two 0) (positions_of two 0)))
unfolding observe_all separator pieces step_bytes label_bytes set_bits depths bytes.eight instance_bytes each true? same? draw_bits check_witness draw_base observe_extension ℕ_discrete dec_le index_drawn strata_drawn positions_at values_observed final_values orient setting bit digits corners product eq_factor select_factor dot over cube tabulate value view position folded row pow expand draw_element turn sumcheck queries sample play_round reading verifying
alikeness = record {
  different = λ e. let f : ◌≡◌ {A = ℕ} 84 71 = ap (λ (l : List (Residue 257)). (slice_index_or l 0 (el 0)).value) e in omega (arith, f);
  opened = (residue_path refl, (residue_path refl, tt));
  elsewhere = inr (inl (λ e. let f : ◌≡◌ {A = ℕ} 235 14 = ap (λ x. x.value) e in omega (arith, f)));
}

rows_untrue : (gs : AnyTables) → ClaimsTrue two two_table gs two_false_polynomial → ⊥
unfolding observe_all separator pieces step_bytes label_bytes set_bits depths bytes.eight instance_bytes each true? same? draw_bits check_witness draw_base observe_extension ℕ_discrete dec_le index_drawn strata_drawn positions_at values_observed final_values orient setting bit digits corners product eq_factor select_factor dot over cube tabulate value view position folded row pow expand draw_element turn sumcheck queries sample play_round reading verifying
rows_untrue gs c = let f : ◌≡◌ {A = ℕ} 194 251 = ap (λ x. x.value) c.0 in omega (arith, f)

rows_yes : WrongYes two_values two_table two_false_polynomial
rows_yes = record {
  committed = λ gs. record { sized = refl; first = held; later = tt };
  untrue = rows_untrue;
  challenges = els (34 ∷ 184 ∷ []);
  left = 5339674027509073075;
  answered = two_runs.false_polynomial;
  shown = λ gs. later (alike alikeness);
}

rows_positions : (reading_of two two_false_polynomial).positions ≡ 0 ∷ 0 ∷ []
unfolding observe_all separator pieces step_bytes label_bytes set_bits depths bytes.eight instance_bytes each true? same? draw_bits check_witness draw_base observe_extension ℕ_discrete dec_le index_drawn strata_drawn positions_at values_observed final_values orient setting bit digits corners product eq_factor select_factor dot over cube tabulate value view position folded row pow expand draw_element turn sumcheck queries sample play_round reading verifying
rows_positions = refl

rows_polynomial : numbers (final_polynomial two two_false_polynomial) ≡ 84 ∷ 103 ∷ []
rows_polynomial = refl

rows_table : numbers (folded ops_257 Suffix 1 two_table (challenges_of (reading_of two two_false_polynomial).initial)) ≡ 71 ∷ 116 ∷ []
unfolding observe_all separator pieces step_bytes label_bytes set_bits depths bytes.eight instance_bytes each true? same? draw_bits check_witness draw_base observe_extension ℕ_discrete dec_le index_drawn strata_drawn positions_at values_observed final_values orient setting bit digits corners product eq_factor select_factor dot over cube tabulate value view position folded row pow expand draw_element turn sumcheck queries sample play_round reading verifying
rows_table = refl

pub by_rows : ByRows
unfolding rows_yes
by_rows = record { yes = rows_yes; positions = rows_positions; polynomial = rows_polynomial; table = rows_table; alikeness = alikeness; shows = λ gs. refl }
