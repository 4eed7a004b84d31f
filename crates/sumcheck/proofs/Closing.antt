-- A sumcheck of no rounds: nothing is read, drawn or written.
use Rattle.std.proofs.Common.{◌≡◌, ℕ, Bool, true, false, cond, eqb, List, [], length, Some, None, Ok, Option, sym, refl, subst}
use Rattle.std.proofs.lemmas.Bool.{eq-eqb}
use Rattle.std.proofs.lemmas.List.{nil_from_length}
use Rattle.ring.specs.Ring.{Ops}
use Rattle.field.specs.Numbers.{Numbering}
use Rattle.field.specs.Extension.{Extension}
use Rattle.sponge.specs.Play.{Rules, run, each}
use Rattle.sponge.specs.Plays.{Plays}
use Rattle.sponge.specs.Drawing.{draw_base}
use Rattle.sumcheck.specs.declared.Site.{Site}
use Rattle.sumcheck.specs.declared.SumcheckSlices.{SumcheckSlices}
use Rattle.sumcheck.specs.Rounds.{Sent, sumcheck}
use Rattle.sumcheck.specs.Verified.{Followed, final_sent, rounds_at}
use Rattle.sumcheck.proofs.Counting.{counts_right}
use Rattle.sumcheck.proofs.Following.{counts_passed}

abbrev pub nothing_sent : {F E : Type 0} → Sent F E
nothing_sent = record { messages = []; witnesses = [] }

-- where no rounds are due nothing is read
final_none : {F E : Type 0} (rounds : ℕ) (o : Option (SumcheckSlices F E)) → rounds ≡ 0 → final_sent rounds o ≡ nothing_sent
final_none rounds None e = refl
final_none rounds (Some s) e = rw (eq-eqb rounds 0 e) refl

-- no witness is due
nothing_due : (b : Bool) (turns : ℕ) → turns ≡ 0 → 0 ≡ cond b 0 turns
nothing_due true turns e = refl
nothing_due false turns e = sym e

module _ {F E : Type 0} (O : Ops E) (N : Numbering F) (X : Extension F E) (m : Rules) (s : List ℕ) (site : Site) (c : E) where
  no_rounds : (rounds : ℕ) → rounds ≡ 0 → run m s (sumcheck N X (draw_base N) (rounds_at site rounds) nothing_sent) ≡ record { answer = Ok []; list = s }
  unfolding each
  no_rounds rounds e =
      counts_passed N X (draw_base N) m s (rounds_at site rounds) nothing_sent (counts_right {F = F} {E = E} (rounds_at site rounds) nothing_sent (sym e) (nothing_due (eqb site.pow_bits 0) rounds e))

  pub closed_by_none : (places : List E) (o : Option (SumcheckSlices F E)) → length places ≡ 0 → Followed O m s (sumcheck N X (draw_base N) (rounds_at site (length places)) (final_sent (length places) o)) s c c places
  closed_by_none places o e = record {
    turns = [];
    plays = subst (λ p. Plays m s (sumcheck N X (draw_base N) (rounds_at site (length places)) p) (Ok []) s) (sym (final_none (length places) o e)) (record { comes = no_rounds (length places) e });
    claim = refl;
    challenges = nil_from_length places e;
  }
