-- The instances, by computing.
use Rattle.std.specs.Prelude.{◌≡◌, refl, false, true, T}
use Rattle.std.proofs.Common.{sym, subst}
use Rattle.std.proofs.Math.Decide.{ℕ_discrete, dec_le}
use Rattle.multilinear.specs.Tables.{orient, setting, bit, digits, corners, product, eq_factor, select_factor, dot, over, cube, tabulate, value, view, position, folded, row}
use Rattle.multilinear.specs.Univariate.{pow, expand}
use Rattle.sponge.specs.Play.{each}
use Rattle.sponge.specs.Deciding.{true?, same?}
use Rattle.sponge.specs.Drawing.{draw_bits, check_witness, draw_base, observe_extension}
use Rattle.transcript.specs.Opening.{pieces, separator, observe_all}
use Rattle.transcript.specs.Steps.{step_bytes, label_bytes}
use Rattle.transcript.specs.Depths.{set_bits, depths}
use Rattle.transcript.specs.Bytes as bytes
use Rattle.transcript.specs.Instances.{instance_bytes}
use Rattle.transcript.specs.Positions.{index_drawn, strata_drawn, positions_at}
use Rattle.transcript.specs.Playing.{values_observed, final_values}
use Rattle.sumcheck.specs.Rounds.{draw_element, turn, sumcheck}
use Rattle.verification.specs.Verifying.{queries, sample, play_round, reading, verifying}
use Rattle.verification.specs.Decision.{Decision}
use Rattle.samples.specs.Two.{two, two_wrong_row}
use Rattle.samples.specs.Instances.{reading_of, DamagedInstance, Instances}
use Rattle.samples.proofs.Holding.{fitted, held}
use Rattle.samples.proofs.HonestRuns.{honest, honest_instance, round_instance}
use Rattle.samples.proofs.WrongYes.{by_alpha, by_message, by_rows}
use Rattle.samples.proofs.Runs.{two_runs}

-- the row that is given is not the shelf's
damaged_undecided : Decision two two_wrong_row (reading_of two two_wrong_row) → ⊥
unfolding observe_all separator pieces step_bytes label_bytes set_bits depths bytes.eight instance_bytes each true? same? draw_bits check_witness draw_base observe_extension ℕ_discrete dec_le index_drawn strata_drawn positions_at values_observed final_values orient setting bit digits corners product eq_factor select_factor dot over cube tabulate value view position folded row pow expand draw_element turn sumcheck queries sample play_round reading verifying
damaged_undecided d = let e : false ≡ true = d.opening.rows in subst T (sym e) tt

damaged_instance : DamagedInstance
damaged_instance = record {
  committed = λ gs. record { sized = refl; first = held; later = tt };
  true_claims = λ gs. (honest gs).claims_true;
  undecided = damaged_undecided;
  answered = two_runs.wrong_row;
}

pub instances : Instances
instances = record { fitted = fitted; honest = honest_instance; with_round = round_instance; by_alpha = by_alpha; by_message = by_message; by_rows = by_rows; damaged = damaged_instance }
