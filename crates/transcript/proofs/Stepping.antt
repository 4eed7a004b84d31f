-- The steps of an open run against their plays.
use Rattle.std.proofs.Common.{◌≡◌, ℕ, ◌+◌, ◌^◌, ◌<◌, ◌≤◌, Bool, true, false, T, List, ◌∷◌, length, get_or, drop, Ok, Err, sym, refl, ap, ◌∙◌, subst}
use Rattle.std.proofs.lemmas.List.{drop_more, drop_all}
use Rattle.field.specs.Numbers.{Numbering}
use Rattle.field.specs.Extension.{Extension}
use Rattle.sponge.specs.Play.{Rules, check, sure}
use Rattle.sponge.specs.Plays.{Plays, Leads}
use Rattle.sponge.specs.Deciding.{true?, same?}
use Rattle.sponge.specs.Drawing.{check_witness, observe_extension}
use Rattle.sponge.proofs.Leads.{leads_none, leads_more, leads_sure, leads_yes, leads_no, leads_last, leads_done, plays_under}
use Rattle.configuration.specs.Numbers.{Numbers}
use Rattle.transcript.specs.Shape.{difficulty}
use Rattle.transcript.specs.Sites.{phase_of}
use Rattle.transcript.specs.Playing.{query_grinding, values_observed, final_values}
use Rattle.transcript.specs.declared.failure.TranscriptFailure.{TranscriptFailure}
use Rattle.transcript.specs.declared.failure.TranscriptFailure.TheVariants.{PowWitness, FinalPolyLength}

module _ {F : Type 0} (m : Rules) (s t : List ℕ) (n : Numbering F) (N : Numbers) (round : ℕ) (witness : F) where
  cleared : (b w : ℕ) → b ≡ difficulty N (phase_of N round) → w ≡ n.number witness → (clear : Bool) → Plays m s (check_witness b w) (Ok clear) t
      → Leads m s (query_grinding n N round witness) t (check (T clear) (true? clear) (PowWitness round (difficulty N (phase_of N round))))
  unfolding query_grinding
  cleared b w eb ew clear h =
      let there = subst (λ x. Plays m s (check_witness x (n.number witness)) (Ok clear) t) eb (subst (λ x. Plays m s (check_witness b x) (Ok clear) t) ew h) in
      leads_sure (check_witness (difficulty N (phase_of N round)) (n.number witness))
      (λ clear. check (T clear) (true? clear) (PowWitness round (difficulty N (phase_of N round)))) (leads_none m s (query_grinding n N round witness)) there

  passing : Plays {R = TranscriptFailure} m t (check (T true) (true? true) (PowWitness round (difficulty N (phase_of N round)))) (Ok tt) t
  unfolding true?
  passing = record { comes = refl }

  failing : Plays {R = TranscriptFailure} m t (check (T false) (true? false) (PowWitness round (difficulty N (phase_of N round)))) (Err (PowWitness round (difficulty N (phase_of N round)))) t
  unfolding true?
  failing = record { comes = refl }

  pub ground_well : (b w : ℕ) → b ≡ difficulty N (phase_of N round) → w ≡ n.number witness → (clear : Bool) → clear ≡ true → Plays m s (check_witness b w) (Ok clear) t
      → Plays m s (query_grinding n N round witness) (Ok tt) t
  ground_well b w eb ew clear e h = leads_last (cleared b w eb ew true (subst (λ x. Plays m s (check_witness b w) (Ok x) t) e h)) passing

  pub ground_ill : (b w : ℕ) → b ≡ difficulty N (phase_of N round) → w ≡ n.number witness → (clear : Bool) → clear ≡ false → Plays m s (check_witness b w) (Ok clear) t
      → Plays m s (query_grinding n N round witness) (Err (PowWitness round b)) t
  ground_ill b w eb ew clear e h =
      subst (λ x. Plays m s (query_grinding n N round witness) (Err (PowWitness round x)) t) (sym eb)
      (leads_last (cleared b w eb ew false (subst (λ x. Plays m s (check_witness b w) (Ok x) t) e h)) failing)

module _ {F E : Type 0} (m : Rules) (n : Numbering F) (X : Extension F E) where
  pub value_on : (s t u : List ℕ) (vs : List E) (i : ℕ) (v : E) → i < length vs → v ≡ get_or vs i v → Leads m s (values_observed n X vs) t (values_observed n X (drop i vs))
      → Plays m t (observe_extension n X v) (Ok tt) u → Leads m s (values_observed n X vs) u (values_observed n X (drop (i + 1) vs))
  unfolding values_observed
  value_on s t u vs i v h e l p =
      let cut : drop i vs ≡ v ∷ drop (i + 1) vs = drop_more vs i v h ∙ ap (λ x. x ∷ drop (i + 1) vs) (sym e) in
      leads_more (observe_extension n X v) (λ _. values_observed n X (drop (i + 1) vs)) (subst (λ k. Leads m s (values_observed n X vs) t (values_observed n X k)) cut l) p

  pub values_end : (s t : List ℕ) (vs : List E) (i : ℕ) → length vs ≤ i → Leads m s (values_observed n X vs) t (values_observed n X (drop i vs)) → Plays m s (values_observed n X vs) (Ok tt) t
  unfolding values_observed
  values_end s t vs i h l = leads_done tt (subst (λ k. Leads m s (values_observed n X vs) t (values_observed n X k)) (drop_all i vs h) l)

  pub final_refused : (s : List ℕ) (N : Numbers) (vs : List E) (expected : ℕ) → expected ≡ 2 ^ N.final_rounds → (length vs ≡ expected → ⊥)
      → Plays m s (final_values n X N vs) (Err (FinalPolyLength expected (length vs))) s
  unfolding final_values
  final_refused s N vs expected e h =
      subst (λ x. Plays m s (final_values n X N vs) (Err (FinalPolyLength x (length vs))) s) (sym e)
      (leads_no (same? (length vs) (2 ^ N.final_rounds)) (FinalPolyLength (2 ^ N.final_rounds) (length vs)) (λ _. sure (values_observed n X vs)) (leads_none m s (final_values n X N vs)) (λ k. h (k ∙ sym e)))

  pub final_taken_in : (s t : List ℕ) (N : Numbers) (vs : List E) (expected : ℕ) → expected ≡ 2 ^ N.final_rounds → length vs ≡ expected → Plays m s (values_observed n X vs) (Ok tt) t
      → Plays m s (final_values n X N vs) (Ok tt) t
  unfolding final_values
  final_taken_in s t N vs expected e h p =
      leads_last (leads_yes (same? (length vs) (2 ^ N.final_rounds)) (FinalPolyLength (2 ^ N.final_rounds) (length vs)) (λ _. sure (values_observed n X vs)) (leads_none m s (final_values n X N vs)) (h ∙ e)) (plays_under absurd p)
