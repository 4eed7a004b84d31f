-- Where a verification accepts, every claim is true of the first table or an accident is shown.
use Rattle.std.proofs.Common.{◌≡◌, ℕ, zero, suc, ◌+◌, drop, ◌^◌, ◌<◌, ◌≤◌, ◌⊎◌, Option, Some, List, [], ◌∷◌, map, length, sym, refl, ap, ◌∙◌, subst, inl, inr, arith}
use lib.ListN.{length-map}
use Rattle.std.specs.List.{AllByRecursion}
use Rattle.std.proofs.ByRecursion.{All-weaker}
use Rattle.std.proofs.lemmas.Bool.{cases_eq}
use Rattle.field.specs.Laws.{IsField}
use Rattle.field.specs.Extension.{Extends}
use Rattle.multilinear.specs.Tables.{position}
use Rattle.argument.specs.Sumcheck.{before}
use Rattle.argument.specs.Claims.{Claim, TrueOf, at_point}
use Rattle.argument.specs.Claims as claim
use Rattle.argument.specs.Reading.{Tail, end, left}
use Rattle.argument.specs.Accidents.{onward, Apart, Opens, Behind}
use Rattle.argument.proofs.Weights.{extends_at}
use Rattle.argument.proofs.Sound.{accepted_means_true}
use Rattle.domain.specs.Domains.{Lawful}
use Rattle.commit.specs.Opening.{Laws}
use Rattle.commit.specs.Spread.{spread}
use Rattle.sponge.specs.Play.{counted, read}
use Rattle.sponge.specs.Deciding.{Every}
use Rattle.verification.specs.Proof.{RoundProof, Opening, round_at}
use Rattle.verification.specs.Setting.{Setting, Inputs, RoundReading, Reading, Item, items, newest, last, folds, vars_after, log_positions, point_at, given, claims}
use Rattle.sumcheck.specs.Rounds.{steps, challenges_of}
use Rattle.verification.specs.Verifying.{elements_of, queries_at, samples_at, rows_opened, tail_of, all_items, last_commitment, last_rows, final_polynomial, tail, reading}
use Rattle.verification.specs.Decision.{OpeningRight, RoundRight, Decision, AcceptsByDecision}
use Rattle.assurance.specs.Committed.{Fitted, later_scheme, positions_of, embedded, tables, behind, phases_from, phases, LaterCommitted, Committed}
use Rattle.assurance.specs.Accepted.{ClaimsTrue, AccidentShown, AcceptedOrAccident}
use Rattle.verification.specs.Shaped.{Shaped}
use Rattle.verification.proofs.Shaped.{shaped}
use Rattle.assurance.proofs.Counting.{before_count, draws_count, last_phase_left, phase_fits, left_rounds}
use Rattle.assurance.proofs.Fitting.{turns_drawn, whole_left, whole_before, samples_extend, claims_extend}
use Rattle.assurance.proofs.Accepting.{accepted}
use Rattle.assurance.proofs.Matrices.{point_long}
use Rattle.assurance.proofs.Openings.{OfPhase}
use Rattle.assurance.proofs.Opened.{rows_of_phase}

-- what holds of each of the points of all positions holds at each position
at_position : {A : Type 0} (Q : A → Type 0) (f : ℕ → A) (k n : ℕ) → AllByRecursion Q (map f (counted k n)) → (i : ℕ) → k ≤ i → i < k + n → Q (f i)
at_position Q f k zero h i low high = absurd (omega arith)
at_position Q f k (suc n) h i low high =
    elim (cases_eq k i) [ inl e ↦ subst (λ (j : ℕ). Q (f j)) e h.0 | inr ne ↦ at_position Q f (suc k) n h.1 i (omega arith) (omega arith) ]

module _ {F E C P : Type 0} (S : Setting F E C P) where
  -- the points of a phase's rows have as many coordinates as variables are left
  points_sized : Lawful S.base S.field S.extension.embed S.domain → (i : ℕ) (ps : List ℕ) (l : List E) → AllByRecursion (λ q. length q.point ≡ vars_after S i) (queries_at S i ps l)
  points_sized D i [] l = tt
  points_sized D i (p ∷ ps) l = (point_long S D i p, points_sized D i ps (drop (2 ^ folds S i) l))

  module _ (T : Fitted S) (D : Lawful S.base S.field S.extension.embed S.domain) where
    -- all positions of a phase tell tables apart
    positions_apart : (i : ℕ) → i ≤ last S → Apart S.field (vars_after S i) (map (point_at S i) (positions_of S i))
    positions_apart i h a b la lb same =
        let fit = phase_fits S T i h in
        D.settled (log_positions S i) (vars_after S i) fit.0 fit.1 a b la lb
        (λ p lt. at_position (λ x. position S.field a x ≡ position S.field b x) (point_at S i) 0 (2 ^ log_positions S i) same p (omega arith) (omega arith))

    module _ (K : IsField S.field) (H : Extends S.base S.field S.extension) (g : List F) (gs : ℕ → List E) (Of : C → List (List F) → Type 0) (laws : Laws S.scheme Of)
        (later_laws : Laws (later_scheme S) (λ c matrix. Of c (map (spread S.extension) matrix))) where
      -- an opening of a phase that is right, for so many variables bound and so many left
      opens_at : (i : ℕ) (c : Option C) (ps : List ℕ) (o : Opening F E P) (k m : ℕ) → i ≤ last S → OpeningRight S i c ps o → OfPhase S g gs Of i c → folds S i ≡ k → vars_after S i ≡ m
          → Opens S.field S.scheme.digest S.order (behind S g gs i ps o) k m (rows_opened S i ps o)
      opens_at i c ps o k m h d of ek em =
          let due : Opens S.field S.scheme.digest S.order (behind S g gs i ps o) (folds S i) (vars_after S i) (rows_opened S i ps o) = record {
            points = points_sized D i ps (elements_of S o.rows);
            rows = rows_of_phase S g gs H Of laws later_laws i c ps o.rows o.paths d.kind d.rows of;
            apart = positions_apart i h;
          } in
          subst (λ (n : ℕ). Opens S.field S.scheme.digest S.order (behind S g gs i ps o) k n (rows_opened S i ps o)) em
          (subst (λ (n : ℕ). Opens S.field S.scheme.digest S.order (behind S g gs i ps o) n (vars_after S i) (rows_opened S i ps o)) ek due)

      module _ (I : Inputs F E C P) (r : Reading E) where
        -- the first of the phases from i on is behind table i
        first_table : (i : ℕ) (c : Option C) (ps : List (RoundProof F E C P)) (l : List (RoundReading E)) → i + length ps ≡ last S → Every (RoundRight S) (items i c ps) l
            → (phases_from S g gs I r (items i c ps) l 0).table ≡ tables S g gs i
        first_table i c [] l n d = ap (tables S g gs) (omega (arith, n))
        first_table i c (p ∷ ps) [] n d = absurd d
        first_table i c (p ∷ ps) (a ∷ l) n d = refl

        module _ (dl : OpeningRight S (last S) (last_commitment S I) r.positions (given S I).opening) (values : length (final_polynomial S I) ≡ 2 ^ S.numbers.final_rounds)
            (turns : length r.final ≡ S.numbers.final_rounds) where
          -- what is read after the last round
          abbrev the_end : Tail E
          the_end = end (final_polynomial S I) (last_rows S I r.positions) (steps r.final)

          -- as many steps as the next phase binds
          abbrev Turning : Item F E C P → RoundReading E → Type 0
          Turning x a = length a.turns ≡ folds S (suc x.number)

          -- behind the rounds from i on, and the end, stand the tables from i on
          behind_rounds : (i : ℕ) (c : Option C) (ps : List (RoundProof F E C P)) (l : List (RoundReading E)) (rs : List E)
              → i + length ps ≡ last S → newest c ps ≡ last_commitment S I → Every (RoundRight S) (items i c ps) l → Every Turning (items i c ps) l
              → length rs ≡ folds S i → OfPhase S g gs Of i c → LaterCommitted S g gs Of i ps
              → Behind S.field S.scheme.digest S.order (phases_from S g gs I r (items i c ps) l 0) rs (onward (phases_from S g gs I r (items i c ps) l)) (tail_of S (items i c ps) l the_end)
          behind_rounds i c [] [] rs n e d t k of later =
              let same : i ≡ last S = omega (arith, n) in
              let bound : before (steps r.final) 0 ≡ S.numbers.final_rounds = before_count r.final 0 ∙ omega (arith, turns) in
              let of_last : OfPhase S g gs Of (last S) (last_commitment S I) = subst (λ (q : Option C). OfPhase S g gs Of (last S) q) e (subst (λ (j : ℕ). OfPhase S g gs Of j c) same of) in
              record {
                opens = opens_at (last S) (last_commitment S I) r.positions (given S I).opening (length rs) (before (steps r.final) 0) (omega arith) dl of_last
                    (ap (folds S) (sym same) ∙ sym k) (last_phase_left S T ∙ sym bound);
                sized = values ∙ ap (λ z. 2 ^ z) (sym bound);
              }
          behind_rounds i c [] (a ∷ l) rs n e d t k of later = absurd d
          behind_rounds i c (p ∷ ps) [] rs n e d t k of later = absurd d
          behind_rounds i c (p ∷ ps) (a ∷ l) rs n e d t k of later =
              let m : ℕ = before (steps a.turns) (left (tail_of S (items (suc i) p.commitment ps) l the_end)) in
              let due : before (steps a.turns) (left (tail_of S (items (suc i) p.commitment ps) l the_end)) ≡ vars_after S i =
              left_rounds S T i c (p ∷ ps) (a ∷ l) (final_polynomial S I) (last_rows S I r.positions) r.final n t turns in
              record {
                opens = opens_at i c a.positions p.opening (length rs) m (omega (arith, n)) d.0.opening of (sym k) (sym due);
                sized = ap length (first_table (suc i) p.commitment ps l (omega (arith, n)) d.1) ∙ later.1 ∙ ap (λ z. 2 ^ z) (sym due);
                sampled = All-weaker (claim.Extends S.field (vars_after S i)) (claim.Extends S.field m) (λ q x. extends_at S.field K (vars_after S i) m q (sym due) x)
                    (samples_at S i a.samples p.answers) (samples_extend S K i a.samples p.answers);
                rest = behind_rounds (suc i) p.commitment ps l (challenges_of a.turns) (omega (arith, n)) e d.1 t.1
                    (draws_count a.turns ∙ t.0) later.0 later.2;
              }

        -- a decision, with the tables that the commitments are of: every claim is true, or an accident is shown
        pub decided : Shaped S I r → Committed S g gs Of I → Decision S I r → ClaimsTrue S g gs I ⊎ AccidentShown S g gs I r
        decided sh of d =
            let ps : List (RoundProof F E C P) = (given S I).rounds in
            let turns : length r.final ≡ S.numbers.final_rounds = sh.final ∙ d.final.messages in
            let long : length (given S I).rounds ≡ last S = length-map I.proof.rounds (round_at I.proof) ∙ d.asked.rounds in
            let count : 0 + length (given S I).rounds ≡ last S = omega (arith, long) in
            let n : before (steps r.initial) (left (tail S I r)) ≡ S.numbers.variables =
            whole_before S T I r sh (whole_left S T I r sh d.asked.rounds d.rounds d.final) d.initial in
            let table : (phases S g gs I r 0).table ≡ embedded S g = first_table 0 (Some I.commitment) ps r.rounds count d.rounds in
            let sized : length (phases S g gs I r 0).table ≡ 2 ^ before (steps r.initial) (left (tail S I r)) =
            ap length table ∙ length-map g S.extension.embed ∙ of.sized ∙ ap (λ z. 2 ^ z) (sym n) in
            let lawful : AllByRecursion (claim.Extends S.field (before (steps r.initial) (left (tail S I r)))) (claims S I) =
            All-weaker (claim.Extends S.field S.numbers.variables) (claim.Extends S.field (before (steps r.initial) (left (tail S I r))))
            (λ q x. extends_at S.field K S.numbers.variables (before (steps r.initial) (left (tail S I r))) q (sym n) x) (claims S I) (claims_extend S K I d.asked.claims) in
            let stands : Behind S.field S.scheme.digest S.order (phases S g gs I r 0) (challenges_of r.initial) (onward (phases S g gs I r)) (tail S I r) =
            behind_rounds d.opening d.values turns 0 (Some I.commitment) ps r.rounds (challenges_of r.initial) count refl d.rounds (turns_drawn S (all_items S I) r.rounds sh.rounds d.rounds)
            (draws_count r.initial ∙ sh.initial ∙ d.initial.messages) of.first of.later in
            let found : AllByRecursion (TrueOf S.field (phases S g gs I r 0).table) (claims S I) ⊎ AccidentShown S g gs I r =
            accepted_means_true S.field K S.scheme.digest S.order (phases S g gs I r) (claims S I) r.alpha (steps r.initial) (tail S I r) sized lawful stands (accepted S I r d) in
            subst (λ (t : List E). AllByRecursion (TrueOf S.field t) (claims S I) ⊎ AccidentShown S g gs I r) table found

-- A wrong yes shows its accident.
pub accepted_or_accident : {F E C P : Type 0} (S : Setting F E C P) (Of : C → List (List F) → Type 0) → IsField S.field → Extends S.base S.field S.extension
    → Lawful S.base S.field S.extension.embed S.domain → Laws S.scheme Of → Laws (later_scheme S) (λ c matrix. Of c (map (spread S.extension) matrix)) → AcceptsByDecision S
    → AcceptedOrAccident S Of
accepted_or_accident S Of K H D laws later_laws accepts T m s I point g gs of ok =
    decided S T D K H g gs Of laws later_laws I (read m s (reading S I)).value (shaped S m s I) of (((accepts m s I).accepts point).0 ok).0
