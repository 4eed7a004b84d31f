-- An honest proof is decided for and accepted.
use Rattle.std.proofs.Common.{◌≡◌, ℕ, suc, ◌+◌, ◌^◌, ◌<◌, List, [], ◌∷◌, ◌++◌, map, length, Some, Option, sym, refl, ap, ◌∙◌, subst, ap₂, arith}
use Rattle.std.specs.List.{AllByRecursion}
use Rattle.std.proofs.lemmas.List.{length-map}
use Rattle.ring.specs.Ring.{Ops}
use Rattle.field.specs.Laws.{IsField}
use Rattle.field.specs.Extension.{Extends, Sized}
use Rattle.multilinear.specs.declared.order.VariableOrder.{VariableOrder}
use Rattle.multilinear.specs.Tables.{orient, view, folded}
use Rattle.argument.specs.Sumcheck.{Step, before, TrueSteps}
use Rattle.argument.specs.Claims.{Claim, Extends as ClaimExtends, TrueOf, weight, weight_at, joint}
use Rattle.argument.specs.Reading.{Query, Tail, end, left, queried, fresh, later_weight, all_draws, LastRowsAgree, Accepted}
use Rattle.argument.specs.Accidents.{onward}
use Rattle.argument.specs.Honest.{TrueClaim, OwnRow, Honest}
use Rattle.argument.proofs.Weights.{length_folded}
use Rattle.argument.proofs.Complete.{honest_means_accepted}
use Rattle.domain.specs.Domains.{Lawful}
use Rattle.commit.specs.Opening.{Laws}
use Rattle.sponge.specs.Play.{read}
use Rattle.sponge.specs.Deciding.{Every}
use Rattle.verification.specs.Proof.{RoundProof, round_at}
use Rattle.verification.specs.Setting.{Setting, Inputs, RoundReading, Reading, Item, items, newest, last, folds, vars_after, log_positions, given, claims}
use Rattle.sumcheck.specs.Rounds.{Turn, steps, challenges_of}
use Rattle.verification.specs.Verifying.{newest_draws, samples_at, rows_opened, tail_of, all_items, last_rows, final_polynomial, tail, challenges, reading}
use Rattle.verification.specs.Decision.{RoundRight, Decision, AcceptsByDecision}
use Rattle.assurance.specs.Committed.{Fitted, embedded, tables}
use Rattle.assurance.specs.Honest.{fresh_claims, HonestEnd, HonestRounds, HonestProof, HonestAccepted}
use Rattle.verification.specs.Shaped.{RoundShaped, Shaped}
use Rattle.verification.proofs.Shaped.{shaped}
use Rattle.assurance.proofs.Accepting.{polynomial_at_end, draws_at_end}
use Rattle.assurance.proofs.Counting.{before_count, draws_count, last_phase_left, left_rounds}
use Rattle.assurance.proofs.Fitting.{turns_drawn, whole_left, whole_before, samples_extend, claims_extend}
use Rattle.assurance.proofs.Openings.{own_queries, OfPhase, later_there, own_right}

-- claims with their laws that are true
both : {E : Type 0} (F : Ops E) (o : VariableOrder) (n : ℕ) (t : List E) (qs : List (Claim E))
    → AllByRecursion (ClaimExtends F n) qs → AllByRecursion (TrueOf F t) qs → AllByRecursion (TrueClaim F o n t) qs
both F o n t [] a b = tt
both F o n t (q ∷ qs) a b = (record { lawful = a.0; holds = b.0 }, both F o n t qs a.1 b.1)

-- own rows under other names of the numbers and of the table
rows_named : {E : Type 0} (F : Ops E) (o : VariableOrder) (qs : List (Query E)) {k k' n n' : ℕ} {t t' : List E} → k ≡ k' → n ≡ n' → t ≡ t'
    → AllByRecursion (OwnRow F o k n t) qs → AllByRecursion (OwnRow F o k' n' t') qs
rows_named {E} F o qs {k} {k'} {n} {n'} {t} {t'} ek en et h =
    subst (λ (x : ℕ). AllByRecursion (OwnRow F o x n' t') qs) ek (subst (λ (y : ℕ). AllByRecursion (OwnRow F o k y t') qs) en (subst (λ (z : List E). AllByRecursion (OwnRow F o k n z) qs) et h))

-- true messages under other names of the number and of the table
messages_named : {E : Type 0} (F : Ops E) (o : VariableOrder) (ss : List (Step E)) (W : List E → E) {n n' : ℕ} {t t' : List E} → n ≡ n' → t ≡ t'
    → TrueSteps F ss n W (view F o t) → TrueSteps F ss n' W (view F o t')
messages_named {E} F o ss W {n} {n'} {t} {t'} en et h =
    subst (λ (x : ℕ). TrueSteps F ss x W (view F o t')) en (subst (λ (z : List E). TrueSteps F ss n W (view F o z)) et h)

module _ {F E C P : Type 0} (S : Setting F E C P) where
  -- the last rows agree over the numbers alone: so they agree with the final polynomial at the newest draws
  pub last_agree : (D : Item F E C P → RoundReading E → Type 0) (xs : List (Item F E C P)) (l : List (RoundReading E)) (ts us : List (Turn E)) (f : List E) (qs : List (Query E))
      → Every D xs l → LastRowsAgree S.field S.order (challenges_of ts) (tail_of S xs l (end f qs (steps us)))
      → AllByRecursion (TrueOf S.field f) (map (queried S.field S.order (newest_draws ts l)) qs)
  last_agree D [] [] ts us f qs d h = h
  last_agree D [] (a ∷ l) ts us f qs d h = absurd d
  last_agree D (x ∷ xs) [] ts us f qs d h = absurd d
  last_agree D (x ∷ xs) (a ∷ l) ts us f qs d h = last_agree D xs l a.turns us f qs d.1 h

  -- An honest proof of a reading.
  module _ (Of : C → List (List F) → Type 0) (K : IsField S.field) (X : Extends S.base S.field S.extension) (Z : Sized S.extension.degree)
      (D : Lawful S.base S.field S.extension.embed S.domain) (W : Laws S.scheme Of) (T : Fitted S)
      (I : Inputs F E C P) (r : Reading E) (g : List F) (gs : ℕ → List E) where
    -- each round is right
    rounds_right : (i : ℕ) (c : Option C) (ps : List (RoundProof F E C P)) (l : List (RoundReading E)) (rs : List E) (V : List E → E)
        → Every (RoundShaped S) (items i c ps) l → OfPhase S g gs Of i c → HonestRounds S g gs Of I r (items i c ps) l rs V → Every (RoundRight S) (items i c ps) l
    rounds_right i c [] [] rs V s of h = tt
    rounds_right i c [] (a ∷ l) rs V s of h = absurd s
    rounds_right i c (p ∷ ps) [] rs V s of h = absurd s
    rounds_right i c (p ∷ ps) (a ∷ l) rs V s of h = (
      record {
        commitment = later_there S g gs Of i p.commitment h.0.commitment;
        answers = h.0.answers;
        clear = h.0.clear;
        opening = own_right S g gs Of W X Z i c a.positions p.opening s.0.positions.placed.within of h.0.opening;
        sumcheck = h.0.counts;
      },
      rounds_right (suc i) p.commitment ps l (challenges_of a.turns) (λ y. joint S.field S.order V (fresh_claims S g gs Of (record { number = i; opens = c; part = p }) a rs) a.gamma (challenges_of a.turns ++ y)) s.1 h.0.commitment h.1,
    )

    -- what is known at the end
    record Ending (c : Option C) : Type 0 where
      of : OfPhase S g gs Of (last S) c
      drawn : List E
      carrying : List E → E
      honest : HonestEnd S g gs Of I r drawn carrying

    -- .. after the rounds from i on
    ending : (i : ℕ) (c : Option C) (ps : List (RoundProof F E C P)) (l : List (RoundReading E)) (rs : List E) (V : List E → E)
        → i + length ps ≡ last S → OfPhase S g gs Of i c → HonestRounds S g gs Of I r (items i c ps) l rs V → Ending (newest c ps)
    ending i c [] [] rs V n of h =
        let same : i ≡ last S = omega (arith, n) in
        record { of = subst (λ j. OfPhase S g gs Of j c) same of; drawn = rs; carrying = V; honest = h }
    ending i c [] (a ∷ l) rs V n of h = absurd h
    ending i c (p ∷ ps) [] rs V n of h = absurd h
    ending i c (p ∷ ps) (a ∷ l) rs V n of h =
        ending (suc i) p.commitment ps l (challenges_of a.turns) (λ y. joint S.field S.order V (fresh_claims S g gs Of (record { number = i; opens = c; part = p }) a rs) a.gamma (challenges_of a.turns ++ y))
        (omega (arith, n)) h.0.commitment h.1

    -- an honest reading is honest over its numbers alone: table t is that of phase i, and hs are the later ones
    honest_tail : (i : ℕ) (c : Option C) (ps : List (RoundProof F E C P)) (l : List (RoundReading E)) (rs : List E) (V : List E → E) (t : List E) (hs : ℕ → List E)
        → t ≡ tables S g gs i → ((j : ℕ) → hs j ≡ gs (i + j)) → i + length ps ≡ last S → length rs ≡ folds S i → length r.final ≡ S.numbers.final_rounds
        → AllByRecursion (λ p. p < 2 ^ log_positions S (last S)) r.positions → Every (RoundShaped S) (items i c ps) l → Every (λ x a. length a.turns ≡ folds S (suc x.number)) (items i c ps) l
        → HonestRounds S g gs Of I r (items i c ps) l rs V
        → Honest S.field S.order t rs hs V (tail_of S (items i c ps) l (end (final_polynomial S I) (last_rows S I r.positions) (steps r.final)))
    honest_tail i c [] [] rs V t hs et eh n k u b s d h =
        let same : last S ≡ i = omega (arith, n) in
        let en : vars_after S (last S) ≡ before (steps r.final) 0 = last_phase_left S T ∙ sym u ∙ sym (before_count r.final 0 ∙ omega arith) in
        let here : tables S g gs (last S) ≡ t = ap (tables S g gs) same ∙ sym et in
        record {
          folds = h.folds ∙ ap₂ (λ m z. folded S.field S.order m z rs) en here;
          rows = rows_named S.field S.order (last_rows S I r.positions) (ap (folds S) same ∙ sym k) en here (own_queries S g gs X D (last S) r.positions (given S I).opening b Of h.opening);
          messages = h.messages;
        }
    honest_tail i c [] (a ∷ l) rs V t hs et eh n k u b s d h = absurd h
    honest_tail i c (p ∷ ps) [] rs V t hs et eh n k u b s d h = absurd h
    honest_tail i c (p ∷ ps) (a ∷ l) rs V t hs et eh n k u b s d h =
        let f : List E = final_polynomial S I in
        let last_qs : List (Query E) = last_rows S I r.positions in
        let rest : Tail E = tail_of S (items (suc i) p.commitment ps) l (end f last_qs (steps r.final)) in
        let qs : List (Query E) = rows_opened S i a.positions p.opening in
        let samples : List (Claim E) = samples_at S i a.samples p.answers in
        let W : List E → E = joint S.field S.order V (fresh S.field S.order rs qs samples) a.gamma in
        let m : ℕ = before (steps a.turns) (left rest) in
        let en : vars_after S i ≡ m = sym (left_rounds S T i c (p ∷ ps) (a ∷ l) f last_qs r.final n d u) in
        let later : vars_after S (suc i) ≡ left rest = sym (left_rounds S T (suc i) p.commitment ps l f last_qs r.final (omega (arith, n)) d.1 u) in
        let z : hs 0 ≡ gs i = eh 0 ∙ ap gs (omega arith) in
        record {
          folds = z ∙ h.0.folds ∙ ap₂ (λ x y. folded S.field S.order x y rs) en (sym et);
          sampled = both S.field S.order m (hs 0) samples (subst (λ (x : ℕ). AllByRecursion (ClaimExtends S.field x) samples) en (samples_extend S K i a.samples p.answers))
              (subst (λ (y : List E). AllByRecursion (TrueOf S.field y) samples) (sym z) h.0.samples);
          rows = rows_named S.field S.order qs (sym k) en (sym et) (own_queries S g gs X D i a.positions p.opening s.0.positions.placed.within Of h.0.opening);
          messages = messages_named S.field S.order (steps a.turns) W later (sym z) h.0.messages;
          rest = honest_tail (suc i) p.commitment ps l (challenges_of a.turns) (λ y. W (challenges_of a.turns ++ y)) (hs 0) (onward hs) z (λ j. eh (suc j) ∙ ap gs (omega arith)) (omega (arith, n))
              (draws_count a.turns ∙ d.0) u b s.1 d.1 h.1;
        }

    -- an honest proof is decided for
    pub honest_decision : Shaped S I r → HonestProof S g gs Of I r → Decision S I r
    honest_decision Q h =
        let ps : List (RoundProof F E C P) = (given S I).rounds in
        let c : Option C = Some I.commitment in
        let rs : List E = challenges_of r.initial in
        let V : List E → E = λ y. weight S.field S.order (claims S I) r.alpha (rs ++ y) in
        let f : List E = final_polynomial S I in
        let qs : List (Query E) = last_rows S I r.positions in
        let n : length ps ≡ last S = length-map I.proof.rounds (round_at I.proof) ∙ h.asked.rounds in
        let n0 : 0 + length ps ≡ last S = omega (arith, n) in
        let right : Every (RoundRight S) (all_items S I) r.rounds = rounds_right 0 c ps r.rounds rs V Q.rounds h.commitment h.rounds in
        let z : Ending (newest c ps) = ending 0 c ps r.rounds rs V n0 h.commitment h.rounds in
        let u : length r.final ≡ S.numbers.final_rounds = Q.final ∙ z.honest.counts.messages in
        let e : left (tail S I r) ≡ vars_after S 0 = whole_left S T I r Q h.asked.rounds right z.honest.counts in
        let b : before (steps r.initial) (left (tail S I r)) ≡ S.numbers.variables = whole_before S T I r Q e h.counts in
        let k : length rs ≡ folds S 0 = draws_count r.initial ∙ Q.initial ∙ h.counts.messages in
        let honest : Honest S.field S.order (embedded S g) rs gs V (tail S I r) =
        honest_tail 0 c ps r.rounds rs V (embedded S g) gs refl (λ j. ap gs (omega arith)) n0 k u Q.positions.placed.within Q.rounds (turns_drawn S (all_items S I) r.rounds Q.rounds right) h.rounds in
        let sized : length (embedded S g) ≡ 2 ^ before (steps r.initial) (left (tail S I r)) = length-map g S.extension.embed ∙ h.table ∙ ap (λ m. 2 ^ m) (sym b) in
        let claimed : AllByRecursion (TrueClaim S.field S.order (before (steps r.initial) (left (tail S I r))) (embedded S g)) (claims S I) =
        both S.field S.order (before (steps r.initial) (left (tail S I r))) (embedded S g) (claims S I)
        (subst (λ (m : ℕ). AllByRecursion (ClaimExtends S.field m) (claims S I)) (sym b) (claims_extend S K I h.asked.claims)) h.claims_true in
        let messages : TrueSteps S.field (steps r.initial) (left (tail S I r)) (weight S.field S.order (claims S I) r.alpha) (view S.field S.order (embedded S g)) =
        messages_named S.field S.order (steps r.initial) (weight S.field S.order (claims S I) r.alpha) (sym e) refl h.messages in
        let accepted : Accepted S.field S.order (claims S I) r.alpha (steps r.initial) (tail S I r) =
        honest_means_accepted S.field K S.order (tables S g gs) (claims S I) r.alpha (steps r.initial) (tail S I r) sized claimed messages honest in
        let weighs : E = S.field.add (weight_at S.field (claims S I) r.alpha (orient S.order (rs ++ all_draws (tail S I r)))) (later_weight S.field S.order rs (tail S I r)) in
        record {
          asked = h.asked;
          initial = h.counts;
          rounds = right;
          polynomial = z.honest.polynomial;
          values = ap length z.honest.folds ∙ length_folded S.field K S.order (vars_after S (last S)) (tables S g gs (last S)) z.drawn ∙ ap (λ m. 2 ^ m) (last_phase_left S T);
          clear = z.honest.clear;
          opening = own_right S g gs Of W X Z (last S) (newest c ps) r.positions (given S I).opening Q.positions.placed.within z.of z.honest.opening;
          agree = last_agree (RoundRight S) (all_items S I) r.rounds r.initial r.final f qs right accepted.rows;
          final = z.honest.counts;
          closing = accepted.closing ∙ ap (S.field.mul weighs) (ap₂ (view S.field S.order) (polynomial_at_end S (all_items S I) r.rounds f qs (steps r.final)) (draws_at_end S (all_items S I) r.rounds f qs (steps r.final)));
        }

-- From every list, an honest proof is decided for and accepted. (Of verification: it accepts exactly by the decision.)
pub honest_accepted : {F E C P : Type 0} (S : Setting F E C P) (Of : C → List (List F) → Type 0)
    → IsField S.field → Extends S.base S.field S.extension → Sized S.extension.degree → Lawful S.base S.field S.extension.embed S.domain → Laws S.scheme Of
    → AcceptsByDecision S → HonestAccepted S Of
honest_accepted S Of K X Z D W by_decision T m s I g gs h =
    let r : Reading _ = (read m s (reading S I)).value in
    let d : Decision S I r = honest_decision S Of K X Z D W T I r g gs (shaped S m s I) h in
    (d, ((by_decision m s I).accepts (challenges S I r)).1 (d, refl))
