-- The code's proofs and claims as the definition has them. Assumes nothing.
use Rattle.std.specs.Prelude.{ℕ, Option}
use Rattle.configuration_view.specs.declared.phases.Buffers.{Buffers}
use Rattle.proof.specs.declared.claims.Claims.{Claims}
use Rattle.proof.specs.declared.whir_proof.WhirProof.{WhirProof}
use Rattle.proof.specs.declared.whir_proof.WhirRoundProof.{WhirRoundProof}
use Rattle.verification.specs.Proof.{FlatProof, round_at}
use Rattle.verification.specs.Setting.{Inputs, Item}

module _ {F E C P : Type 0} where
  abbrev pub flat_of : WhirProof F E C P → FlatProof F E C P
  flat_of p = record {
    base = p.lists.base.now;
    extension = p.lists.extension.now;
    commitments = p.lists.commitments.now;
    nodes = p.lists.nodes.now;
    initial_answers = p.parts.initial_ood_answers;
    initial = p.parts.initial_sumcheck;
    rounds = p.parts.rounds.now;
    polynomial = p.parts.final_poly;
    witness = p.parts.final_pow_witness;
    opening = p.parts.final_openings;
    final = p.parts.final_sumcheck;
  }

  abbrev pub inputs_of : WhirProof F E C P → C → ℕ → Claims E → Buffers → Inputs F E C P
  inputs_of p c n claims buffers = record {
    proof = flat_of p;
    commitment = c;
    opening_claims = n;
    coordinates = claims.coordinates.now;
    claims = claims.claims.now;
    buffers = buffers;
  }

  -- a round of a proof, with its number and the commitment that it opens
  abbrev pub item_of : WhirProof F E C P → WhirRoundProof F → ℕ → Option C → Item F E C P
  item_of p r i opens = record { number = i; opens = opens; part = round_at (flat_of p) r }
