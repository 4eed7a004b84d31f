-- A verification accepts exactly where the decision holds of what it reads.
use Rattle.std.proofs.Common.{◌≡◌, ℕ, suc, ◌↔◌, ◌≤◌, ◌^◌, ◌+◌, ◌==◌, cond, true, List, [], ◌∷◌, ◌++◌, map, length, Err, Option, sym, ap, ◌∙◌, arith}
use Rattle.std.specs.Prelude.{nat_le}
use Rattle.std.specs.Bool.{Decides}
use Rattle.std.specs.List.{AllByRecursion, list_all}
use Rattle.std.proofs.lemmas.Bool.Decides.{Decides-eqb}
use Rattle.argument.specs.Claims.{Claim, TrueOf, worth}
use Rattle.argument.specs.Reading.{queried}
use Rattle.sponge.specs.Deciding.{Every}
use Rattle.sponge.specs.Play.{Rules, read}
use Rattle.configuration_view.specs.declared.phases.Buffers.{Buffers}
use Rattle.configuration_view.specs.Shown.{buffers_of}
use Rattle.transcript.specs.Shape.{Sumcheck, shape, round_shape, difficulty}
use Rattle.proof.specs.declared.claims.Claim as claimed
use Rattle.std.proofs.Math.Decide.{ℕ_discrete}
use Rattle.std.proofs.lemmas.Bool.{ne_eqb}
use Rattle.sumcheck.specs.Rounds.{Rounds, due, Sent, Turn, count_checks}
use Rattle.verification.specs.Proof.{Opening}
use Rattle.verification.specs.Setting.{Setting, Inputs, Item, RoundReading, Reading, last, given}
use Rattle.sumcheck.specs.declared.errors.SumcheckError.{SumcheckError}
use Rattle.errors.specs.declared.VerifierError.{VerifierError}
use Rattle.errors.specs.declared.VerifierError.TheVariants.{Limit, BufferTooSmall, NonCanonicalPowWitness, StirChallengeFailed}
use Rattle.errors.specs.declared.VerifierError.TheVariants as refused
use Rattle.sumcheck.specs.Checks.{Check}
use Rattle.verification.specs.Verifying.{rounds_of, suffices, claim_placed, opening_checks, canonical_checks, zero_where_free, prechecks, all_items, final_polynomial, final_sumcheck, last_commitment, last_rows, newest_draws, rows_agree, carried_claim, expected_claim, challenges, play_round, reading, verifying}
use Rattle.verification.specs.Checks.{verdict, turn_checks, sumcheck_checks, checks_of_round, checks_of_rounds, final_checks, checks}
use Rattle.verification.specs.Decision.{ClaimPlaced, ClaimsFit, Room, SumcheckRight, OpeningRight, RoundRight, Asked, Decision, AcceptsByDecision}
use Rattle.verification.proofs.Holding.{Holds, holds_append, holds_lifted, verdict_holds, either_fails, third_fails, Untouched, untouched_bind, untouched_ask_all, read_each_length, decides_and, decides_all, decides_zero, decides_within}
use Rattle.verification.proofs.Verdicts.{first_failing}

-- the buffers suffice; a claim's point is placed
decides_room : (needed given : Buffers) → Decides (suffices needed given) (Room needed given)
decides_room a b =
    let d = decides_and _ _ (decides_within a.point b.point)
    (decides_and _ _ (decides_within a.pair b.pair)
    (decides_and _ _ (decides_within a.fold b.fold) (decides_and _ _ (decides_within a.notes b.notes) (decides_within a.positions b.positions)))) in (
      λ h. let k = d.0 h in record { point = k.0; pair = k.1.0; fold = k.1.1.0; notes = k.1.1.1.0; positions = k.1.1.1.1 },
      λ r. d.1 (r.point, (r.pair, (r.fold, (r.notes, r.positions)))),
    )

decides_placed : {E : Type 0} (n coordinates : ℕ) (q : claimed.Claim E) → Decides (claim_placed n coordinates q) (ClaimPlaced n coordinates q)
decides_placed n l q =
    let d = decides_and _ _ (Decides-eqb q.point.length n) (decides_within (q.point.start + q.point.length) l) in
    (λ h. let k = d.0 h in record { long = k.0; within = k.1 }, λ r. d.1 (r.long, r.within))

-- how many witnesses are due, in the two cases; and a number that is so in both
due_free : (n : Rounds) → n.difficulty ≡ 0 → due n ≡ 0
due_free n z = ap (λ d. cond (d == 0) 0 n.turns) z

due_ground : (n : Rounds) → ¬ (n.difficulty ≡ 0) → due n ≡ n.turns
due_ground n z = ap (λ b. cond b 0 n.turns) (ne_eqb n.difficulty 0 z)

due_either : (n : Rounds) (w : ℕ) → (n.difficulty ≡ 0 → w ≡ 0) → (¬ (n.difficulty ≡ 0) → w ≡ n.turns) → w ≡ due n
due_either n w free ground = elim (ℕ_discrete n.difficulty 0) [
  | yes z ↦ free z ∙ sym (due_free n z)
  | no z ↦ ground z ∙ sym (due_ground n z)
]

module _ {F E C P : Type 0} (S : Setting F E C P) where
  -- The checks of each part hold exactly where the decision says so: the grindings of a sumcheck, and the whole of it.
  holds_turns : (phase bits i : ℕ) (ts : List (Turn E)) → Holds (turn_checks S phase bits i ts) ↔ AllByRecursion (λ t. t.clear ≡ true) ts
  holds_turns phase bits i [] = (λ h. tt, λ h. tt)
  holds_turns phase bits i (t ∷ ts) = let e = holds_turns phase bits (suc i) ts in (λ h. (h.0, e.0 h.1), λ h. (h.0, e.1 h.1))

  holds_sumcheck : (phase : ℕ) (n : Sumcheck) (p : Sent F E) (ts : List (Turn E)) → Holds (sumcheck_checks S phase n p ts) ↔ SumcheckRight n p ts
  holds_sumcheck phase n p ts =
      let up : SumcheckError → VerifierError E = refused.Sumcheck in
      let l = holds_lifted up (count_checks (rounds_of S phase n) p ++ turn_checks S phase n.difficulty 0 ts) in
      let e = holds_turns phase n.difficulty 0 ts in
      let d = Decides-eqb in (
        λ h. let k = l.0 h in let w : length p.witnesses ≡ due (rounds_of S phase n) = (d _ _).0 k.1.0 in record { messages = (d _ _).0 k.0; free = λ z. w ∙ due_free (rounds_of S phase n) z; ground = λ z. w ∙ due_ground (rounds_of S phase n) z; clear = e.0 k.1.1 },
        λ r. l.1 ((d _ _).1 r.messages, ((d _ _).1 (due_either (rounds_of S phase n) (length p.witnesses) r.free r.ground), e.1 r.clear)),
      )

  -- an opening, a round, the rounds
  holds_opening : (i : ℕ) (c : Option C) (ps : List ℕ) (o : Opening F E P) → Holds (opening_checks S i c ps o) ↔ OpeningRight S i c ps o
  holds_opening i c ps o =
      let d = Decides-eqb o.count (length ps) in
      (λ h. record { kind = h.0; count = d.0 h.1.0; rows = h.1.1.0 }, λ r. (r.kind, (d.1 r.count, (r.rows, tt))))

  holds_round : (x : Item F E C P) (a : RoundReading E) → Holds (checks_of_round S x a) ↔ RoundRight S x a
  holds_round x a =
      let n = (round_shape S.numbers x.number).sumcheck in
      let d = Decides-eqb (length x.part.answers) (round_shape S.numbers x.number).samples in
      let o = holds_opening x.number x.opens a.positions x.part.opening in
      let s = holds_sumcheck (suc x.number) n x.part.sumcheck a.turns in
      let k = holds_append (opening_checks S x.number x.opens a.positions x.part.opening) (sumcheck_checks S (suc x.number) n x.part.sumcheck a.turns) in (
        λ h. record { commitment = h.0; answers = d.0 h.1.0; clear = h.1.1.0; opening = o.0 (k.0 h.1.1.1).0; sumcheck = s.0 (k.0 h.1.1.1).1 },
        λ r. (r.commitment, (d.1 r.answers, (r.clear, k.1 (o.1 r.opening, s.1 r.sumcheck)))),
      )

  holds_rounds : (xs : List (Item F E C P)) (l : List (RoundReading E)) → length l ≡ length xs → Holds (checks_of_rounds S xs l) ↔ Every (RoundRight S) xs l
  holds_rounds [] [] e = (λ h. tt, λ h. tt)
  holds_rounds [] (a ∷ l) e = absurd (omega (arith, e))
  holds_rounds (x ∷ xs) [] e = absurd (omega (arith, e))
  holds_rounds (x ∷ xs) (a ∷ l) e =
      let k = holds_append (checks_of_round S x a) (checks_of_rounds S xs l) in
      let r = holds_round x a in
      let n : length l ≡ length xs = omega (arith, e) in
      let i = holds_rounds xs l n in
      (λ h. (r.0 (k.0 h).0, i.0 (k.0 h).1), λ h. k.1 (r.1 h.0, i.1 h.1))

  module _ (I : Inputs F E C P) where
    -- the witnesses that are to be 0, the claims, and all that is asked before the sponge is touched
    holds_canonical : (xs : List (Item F E C P))
        → Holds (canonical_checks S I xs) ↔ AllByRecursion (λ x. difficulty S.numbers x.number ≡ 0 → S.numbering.number x.part.witness ≡ 0) xs
    holds_canonical [] = (λ h. tt, λ h. tt)
    holds_canonical (x ∷ xs) =
        let d = decides_zero (difficulty S.numbers x.number) (S.numbering.number x.part.witness) in
        let e = holds_canonical xs in
        (λ h. (d.0 h.0, e.0 h.1), λ h. (d.1 h.0, e.1 h.1))

    decides_few : Decides (nat_le (length I.claims) 1024) (length I.claims ≤ 1024)
    decides_few = decides_within (length I.claims) 1024

    decides_claims : Decides (list_all (claim_placed S.numbers.variables (length I.coordinates)) I.claims) (AllByRecursion (ClaimPlaced S.numbers.variables (length I.coordinates)) I.claims)
    decides_claims = decides_all _ _ (decides_placed S.numbers.variables (length I.coordinates)) I.claims

    holds_prechecks : Holds (prechecks S I) ↔ Asked S I
    holds_prechecks =
        let M = last S in
        let w = S.numbering.number I.proof.witness in
        let d = decides_zero (difficulty S.numbers M) w in
        let c = holds_canonical (all_items S I) in
        let r = decides_room (buffers_of S.numbers) I.buffers in
        let n = Decides-eqb (length I.proof.rounds) M in
        let k = holds_append (canonical_checks S I (all_items S I)) (record { holds = zero_where_free (difficulty S.numbers M) w; refusal = NonCanonicalPowWitness M } ∷ []) in (
          λ h. record {
            claims = record { few = decides_few.0 h.0; placed = decides_claims.0 h.1.0 };
            room = r.0 h.1.1.0;
            rounds = n.0 h.1.1.1.0;
            canonical = c.0 (k.0 h.1.1.1.1).0;
            last_canonical = d.0 (k.0 h.1.1.1.1).1.0;
          },
          λ a. (decides_few.1 a.claims.few, (decides_claims.1 a.claims.placed, (r.1 a.room, (n.1 a.rounds, k.1 (c.1 a.canonical, (d.1 a.last_canonical, tt)))))),
        )

    -- as many rounds are read as are given
    rounds_read : (m : Rules) (s : List ℕ) → length (read m s (reading S I)).value.rounds ≡ length (all_items S I)
    unfolding reading
    rounds_read m s = read_each_length m (play_round S) (all_items S I) _

    -- claims that do not fit are refused first, then buffers that do not suffice
    refused_claims : (r : Reading E) → ¬ (ClaimsFit S I) → verdict (checks S I r) (challenges S I r) ≡ Err Limit
    refused_claims r n =
        either_fails (nat_le (length I.claims) 1024) (list_all (claim_placed S.numbers.variables (length I.coordinates)) I.claims) _ (Err Limit)
        (λ a b. n (record { few = decides_few.0 a; placed = decides_claims.0 b }))

    refused_room : (r : Reading E) → ClaimsFit S I → ¬ (Room (buffers_of S.numbers) I.buffers) → verdict (checks S I r) (challenges S I r) ≡ Err BufferTooSmall
    refused_room r c n =
        third_fails _ _ (suffices (buffers_of S.numbers) I.buffers) _ (Err BufferTooSmall) _ _ (decides_few.1 c.few) (decides_claims.1 c.placed)
        (λ e. n ((decides_room (buffers_of S.numbers) I.buffers).0 e))

    -- what fails there leaves the list
    stays : (m : Rules) (s : List ℕ) → ¬ (Asked S I) → Untouched m s (verifying S I)
    unfolding verifying reading
    stays m s n = untouched_bind (untouched_bind (untouched_ask_all m s (prechecks S I) (λ h. n (holds_prechecks.0 h))))

  module _ (same : (x y : E) → (S.equal x y ≡ true) ↔ (x ≡ y)) where
    -- the last rows agree with the final polynomial
    holds_agree : (g : List E) (qs : List (Claim E)) → Decides (list_all (λ q. S.equal q.claimed (worth S.field g q)) qs) (AllByRecursion (TrueOf S.field g) qs)
    holds_agree g qs = decides_all (λ q. S.equal q.claimed (worth S.field g q)) (TrueOf S.field g) (λ q. same q.claimed (worth S.field g q)) qs

    -- all checks of a reading hold exactly where the decision does
    holds_decision : (I : Inputs F E C P) (r : Reading E) → length r.rounds ≡ length (all_items S I) → Holds (checks S I r) ↔ Decision S I r
    holds_decision I r n =
        let sh = shape S.numbers I.opening_claims in
        let initial = sumcheck_checks S 0 sh.initial (given S I).initial r.initial in
        let rounds = checks_of_rounds S (all_items S I) r.rounds in
        let opened = opening_checks S (last S) (last_commitment S I) r.positions (given S I).opening in
        let final = sumcheck_checks S (suc (last S)) sh.final (final_sumcheck S I) r.final in
        let closing : List (Check (VerifierError E)) = record { holds = S.equal (carried_claim S I r) (expected_claim S I r); refusal = refused.SumcheckFailed S.numbers.final_rounds (expected_claim S I r) (carried_claim S I r) } ∷ [] in
        let agree : List (Check (VerifierError E)) = record { holds = rows_agree S I r.initial r.rounds r.positions; refusal = StirChallengeFailed 0 } ∷ (final ++ closing) in
        let a = holds_append (prechecks S I) (initial ++ (rounds ++ final_checks S I r)) in
        let b = holds_append initial (rounds ++ final_checks S I r) in
        let c = holds_append rounds (final_checks S I r) in
        let d = holds_append opened agree in
        let e = holds_append final closing in
        let pre = holds_prechecks I in
        let ini = holds_sumcheck 0 sh.initial (given S I).initial r.initial in
        let rou = holds_rounds (all_items S I) r.rounds n in
        let val = Decides-eqb (length (final_polynomial S I)) (2 ^ S.numbers.final_rounds) in
        let ope = holds_opening (last S) (last_commitment S I) r.positions (given S I).opening in
        let agr = holds_agree (final_polynomial S I) (map (queried S.field S.order (newest_draws r.initial r.rounds)) (last_rows S I r.positions)) in
        let fin = holds_sumcheck (suc (last S)) sh.final (final_sumcheck S I) r.final in
        let clo = same (carried_claim S I r) (expected_claim S I r) in (
          λ h.
              let h1 = a.0 h in
              let h2 = b.0 h1.1 in
              let h3 = c.0 h2.1 in
              let h4 = d.0 h3.1.1.1.1 in
              let h5 = e.0 h4.1.1 in
              record {
                asked = pre.0 h1.0;
                initial = ini.0 h2.0;
                rounds = rou.0 h3.0;
                polynomial = h3.1.0;
                values = val.0 h3.1.1.0;
                clear = h3.1.1.1.0;
                opening = ope.0 h4.0;
                agree = agr.0 h4.1.0;
                final = fin.0 h5.0;
                closing = clo.0 h5.1.0;
              },
          λ k. a.1 (
            pre.1 k.asked,
            b.1 (
              ini.1 k.initial,
              c.1 (rou.1 k.rounds, (k.polynomial, (val.1 k.values, (k.clear, d.1 (ope.1 k.opening, (agr.1 k.agree, e.1 (fin.1 k.final, (clo.1 k.closing, tt)))))))),
            ),
          ),
        )

-- It accepts exactly by the decision.
pub by_decision : {F E C P : Type 0} (S : Setting F E C P) → ((x y : E) → (S.equal x y ≡ true) ↔ (x ≡ y)) → AcceptsByDecision S
by_decision {E = E} S same m s I =
    let r : Reading E = (read m s (reading S I)).value in
    let told = first_failing S m s I in
    let d = holds_decision S same I r (rounds_read S I m s) in
    record {
      claims_first = λ n. told ∙ refused_claims S I r n;
      buffers_next = λ c n. told ∙ refused_room S I r c n;
      accepts = λ point.
          let v = verdict_holds (checks S I r) (challenges S I r) point in
          (λ e. let h = v.0 (sym told ∙ e) in (d.0 h.0, h.1), λ h. told ∙ v.1 (d.1 h.0, h.1));
      untouched = λ n. ap (λ o. o.list) (stays S I m s n).comes;
    }
