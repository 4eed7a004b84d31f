-- The honest proofs, by computing.
use Rattle.std.specs.Prelude.{refl}
use Rattle.std.proofs.Common.{ap}
use Rattle.field.specs.ResiduesLemmas.{residue_path}
use Rattle.std.proofs.Math.Decide.{ℕ_discrete, dec_le}
use Rattle.multilinear.specs.Tables.{orient, setting, bit, digits, corners, product, eq_factor, select_factor, dot, over, cube, tabulate, value, view, position, folded, row}
use Rattle.multilinear.specs.Univariate.{pow, expand}
use Rattle.sponge.specs.Play.{each}
use Rattle.sponge.specs.Deciding.{true?, same?}
use Rattle.sponge.specs.Drawing.{draw_bits, check_witness, draw_base, observe_extension}
use Rattle.transcript.specs.Opening.{pieces, separator, observe_all}
use Rattle.transcript.specs.Steps.{step_bytes, label_bytes}
use Rattle.transcript.specs.Depths.{set_bits, depths}
use Rattle.transcript.specs.Bytes as bytes
use Rattle.transcript.specs.Instances.{instance_bytes}
use Rattle.transcript.specs.Positions.{index_drawn, strata_drawn, positions_at}
use Rattle.transcript.specs.Playing.{values_observed, final_values}
use Rattle.sumcheck.specs.Rounds.{draw_element, turn, sumcheck}
use Rattle.verification.specs.Verifying.{queries, sample, play_round, reading, verifying}
use Rattle.argument.proofs.Readings.{listed}
use Rattle.verification.specs.Proof.{of_base, of_extension}
use Rattle.verification.specs.Decision.{Decision}
use Rattle.assurance.specs.Honest.{HonestProof}
use Rattle.samples.specs.Two.{two, two_table, two_values, two_honest}
use Rattle.samples.specs.Three.{three, three_table, three_folded, three_honest}
use Rattle.samples.specs.Instances.{Held, HeldLater, reading_of, AnyTables, HonestInstance, RoundInstance}
use Rattle.samples.proofs.Holding.{one_not_none, held, three_held, three_held_later, asked, three_asked}
use Rattle.samples.proofs.Runs.{two_runs, three_runs}

-- every check holds along the reading
honest_decided : Decision two two_honest (reading_of two two_honest)
unfolding observe_all separator pieces step_bytes label_bytes set_bits depths bytes.eight instance_bytes each true? same? draw_bits check_witness draw_base observe_extension ℕ_discrete dec_le index_drawn strata_drawn positions_at values_observed final_values orient setting bit digits corners product eq_factor select_factor dot over cube tabulate value view position folded row pow expand draw_element turn sumcheck queries sample play_round reading verifying
honest_decided = record {
  asked = asked 251 38;
  initial = record { messages = refl; free = one_not_none; ground = λ n. refl; clear = (refl, tt) };
  rounds = tt;
  polynomial = refl;
  values = refl;
  clear = refl;
  opening = record { kind = refl; count = refl; rows = refl };
  agree = (residue_path refl, (residue_path refl, tt));
  final = record { messages = refl; free = λ e. refl; ground = λ n. absurd (n refl); clear = (refl, tt) };
  closing = residue_path refl;
}

pub honest : (gs : AnyTables) → HonestProof two two_table gs (Held two_values) two_honest (reading_of two two_honest)
unfolding observe_all separator pieces step_bytes label_bytes set_bits depths bytes.eight instance_bytes each true? same? draw_bits check_witness draw_base observe_extension ℕ_discrete dec_le index_drawn strata_drawn positions_at values_observed final_values orient setting bit digits corners product eq_factor select_factor dot over cube tabulate value view position folded row pow expand draw_element turn sumcheck queries sample play_round reading verifying
honest gs = record {
  asked = asked 251 38;
  table = refl;
  commitment = held;
  claims_true = (residue_path refl, (residue_path refl, tt));
  counts = record { messages = refl; free = one_not_none; ground = λ n. refl; clear = (refl, tt) };
  messages = record { first = residue_path refl; last = residue_path refl; rest = tt };
  rounds = record {
    polynomial = refl;
    folds = listed _ _ refl;
    clear = refl;
    opening = record { count = refl; rows = ap of_base (listed _ _ refl); paths = refl };
    counts = record { messages = refl; free = λ e. refl; ground = λ n. absurd (n refl); clear = (refl, tt) };
    messages = record { first = residue_path refl; last = residue_path refl; rest = tt };
  };
}

pub honest_instance : HonestInstance
honest_instance = record {
  committed = λ gs. record { sized = refl; first = held; later = tt };
  honest = honest;
  decided = honest_decided;
  answered = two_runs.honest;
}

-- the same with a round
three_decided : Decision three three_honest (reading_of three three_honest)
unfolding observe_all separator pieces step_bytes label_bytes set_bits depths bytes.eight instance_bytes each true? same? draw_bits check_witness draw_base observe_extension ℕ_discrete dec_le index_drawn strata_drawn positions_at values_observed final_values orient setting bit digits corners product eq_factor select_factor dot over cube tabulate value view position folded row pow expand draw_element turn sumcheck queries sample play_round reading verifying
three_decided = record {
  asked = three_asked;
  initial = record { messages = refl; free = λ e. refl; ground = λ n. absurd (n refl); clear = (refl, tt) };
  rounds = (
    record {
      commitment = refl;
      answers = refl;
      clear = refl;
      opening = record { kind = refl; count = refl; rows = refl };
      sumcheck = record { messages = refl; free = λ e. refl; ground = λ n. absurd (n refl); clear = (refl, tt) };
    },
    tt,
  );
  polynomial = refl;
  values = refl;
  clear = refl;
  opening = record { kind = refl; count = refl; rows = refl };
  agree = (residue_path refl, (residue_path refl, tt));
  final = record { messages = refl; free = λ e. refl; ground = λ n. absurd (n refl); clear = (refl, tt) };
  closing = residue_path refl;
}

three_is_honest : HonestProof three three_table three_folded HeldLater three_honest (reading_of three three_honest)
unfolding observe_all separator pieces step_bytes label_bytes set_bits depths bytes.eight instance_bytes each true? same? draw_bits check_witness draw_base observe_extension ℕ_discrete dec_le index_drawn strata_drawn positions_at values_observed final_values orient setting bit digits corners product eq_factor select_factor dot over cube tabulate value view position folded row pow expand draw_element turn sumcheck queries sample play_round reading verifying
three_is_honest = record {
  asked = three_asked;
  table = refl;
  commitment = three_held;
  claims_true = (residue_path refl, (residue_path refl, tt));
  counts = record { messages = refl; free = λ e. refl; ground = λ n. absurd (n refl); clear = (refl, tt) };
  messages = record { first = residue_path refl; last = residue_path refl; rest = tt };
  rounds = (
    record {
      folds = listed _ _ refl;
      commitment = three_held_later;
      answers = refl;
      samples = (residue_path refl, tt);
      clear = refl;
      opening = record { count = refl; rows = ap of_base (listed _ _ refl); paths = refl };
      counts = record { messages = refl; free = λ e. refl; ground = λ n. absurd (n refl); clear = (refl, tt) };
      messages = record { first = residue_path refl; last = residue_path refl; rest = tt };
    },
    record {
      polynomial = refl;
      folds = listed _ _ refl;
      clear = refl;
      opening = record { count = refl; rows = ap of_extension (listed _ _ refl); paths = refl };
      counts = record { messages = refl; free = λ e. refl; ground = λ n. absurd (n refl); clear = (refl, tt) };
      messages = record { first = residue_path refl; last = residue_path refl; rest = tt };
    },
  );
}

pub round_instance : RoundInstance
round_instance = record {
  committed = record { sized = refl; first = three_held; later = (three_held_later, refl, tt) };
  honest = three_is_honest;
  decided = three_decided;
  answered = three_runs.honest;
}
