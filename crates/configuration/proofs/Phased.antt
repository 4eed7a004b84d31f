-- What the checks come to: the phases of a configuration without a fault.
use Rattle.std.proofs.Common.{◌≡◌, ℕ, suc, ◌+◌, ◌^◌, ◌<◌, ◌≤◌, true, eqb, leb, List, length, Some, None, sum, sym, refl, ◌∙◌, ⊎_elim, add-one, arith, pow_pos}
use Rattle.std.proofs.ByRecursion.{All-get_or}
use Rattle.std.proofs.lemmas.List.Sums.{sum_by_more, sum_by-take-le}
use Rattle.std.proofs.lemmas.Bool.{and_parts, eqb-true, eqb-false, leb-true, cases_Bool, cond-true, cond-false}
use Rattle.parameters.specs.Refusals.{Refusal}
use Rattle.parameters.specs.Schedule.{schedule, Verdict, planned, refused}
use Rattle.parameters.proofs.Laws.{schedules_lawful}
use Rattle.configuration.specs.Numbers.{Numbers}
use Rattle.configuration.specs.Limits.{within_limits}
use Rattle.configuration.specs.Phases.{same, every, factor, left, log_domain, rates_agree, log_positions_of, domain_fits, phase_agrees, opening_within, consistent, openings_within, rows_at, query_draws, queries}
use Rattle.configuration.specs.Verdicts.{fault, fault_of_plan, limit, inconsistent, Checked, Phased, ConfigurationsPhased}
use Rattle.std.proofs.lemmas.Option.{none-some}
use Rattle.std.proofs.lemmas.Bool.Decides.{Decides-eqb}
use Rattle.std.proofs.lemmas.Slice.Eq.{slice_eq-Decides}
use Rattle.configuration.proofs.Walks.{every_at}
use Rattle.configuration.proofs.Rounds.{capacity_small, domains_small}

-- the parts of consistency
pub record Parts (N : Numbers) (ks : List ℕ) : Type 0 where
  pub stored_same : same N.stored ks ≡ true
  pub rounds_count : eqb (length N.rounds + 1) (length ks) ≡ true
  pub fitting : every (length ks) (domain_fits N ks) ≡ true
  pub agreeing : every (length N.rounds) (phase_agrees N ks) ≡ true
  pub final_count : eqb N.final_rounds (left N ks (length ks)) ≡ true
  pub rates_agreeing : rates_agree N ks ≡ true

pub parts : (N : Numbers) (ks : List ℕ) → consistent N ks ≡ true → Parts N ks
unfolding consistent
parts N ks e =
    let a = and_parts (same N.stored ks) _ e in
    let b = and_parts (eqb (length N.rounds + 1) (length ks)) _ a.1 in
    let c = and_parts (every (length ks) (domain_fits N ks)) _ b.1 in
    let d = and_parts (every (length N.rounds) (phase_agrees N ks)) _ c.1 in
    let f = and_parts (eqb N.final_rounds (left N ks (length ks))) _ d.1 in
    record {
      stored_same = a.0;
      rounds_count = b.0;
      fitting = c.0;
      agreeing = d.0;
      final_count = f.0;
      rates_agreeing = f.1;
    }

-- every domain of consistent numbers within their limits is small
pub domains_of : (N : Numbers) (ks : List ℕ) → within_limits N ≡ true → consistent N ks ≡ true → (i : ℕ) → i < length ks → log_domain N ks i ≤ 16
domains_of N ks w e = domains_small N ks w (parts N ks e).fitting

next : (N : Numbers) (ks : List ℕ) (i : ℕ) → sum ks ≤ N.variables → i < length ks → left N ks (suc i) + factor ks i ≡ left N ks i
next N ks i w h =
    rw (← add-one i) (omega (arith, sum_by_more (λ x. x) ks i 0 h, sum_by-take-le (λ x. x) ks (i + 1)))

some_rows : (log q : ℕ) → 1 ≤ rows_at log q
some_rows log q =
    ⊎_elim (λ e. rw (cond-true (eqb (query_draws (2 ^ log) q) 0) (2 ^ log) (query_draws (2 ^ log) q) e) (pow_pos log))
    (λ e. rw (cond-false (eqb (query_draws (2 ^ log) q) 0) (2 ^ log) (query_draws (2 ^ log) q) e)
    (omega (arith, eqb-false (query_draws (2 ^ log) q) 0 e)))
    (cases_Bool (eqb (query_draws (2 ^ log) q) 0))

pub phased : (N : Numbers) (ks : List ℕ) → Checked N ks → Phased N ks
unfolding openings_within
phased N ks ch =
    let p = parts N ks ch.consistently in
    let law = schedules_lawful 6 N.variables N.strategy ks ch.planned_so in
    let open_at : (i : ℕ) → i < length ks → opening_within N ks i ≡ true = λ i h. every_at (opening_within N ks) (length ks) i ch.opening_few h in
    record {
      stored_so = (slice_eq-Decides Decides-eqb N.stored ks (same N.stored ks) refl).0 p.stored_same;
      rounds_so = eqb-true _ _ p.rounds_count;
      folds_within = law.within;
      first_left = omega arith;
      next_left = λ i h. next N ks i law.within h;
      factors = λ i h. (All-get_or (λ k. 1 ≤ k) ks i 0 h law.folding, leb-true _ _ (and_parts (leb (factor ks i) 10) _ (open_at i h)).0);
      fits = λ i h. leb-true _ _ (every_at (domain_fits N ks) (length ks) i p.fitting h);
      capacity_small = capacity_small N ch.limited;
      enough_positions = λ i h. omega (arith, next N ks i law.within h);
      rows_some = λ i h. (some_rows (log_positions_of N ks i) (queries N i), leb-true _ _ (and_parts (leb (factor ks i) 10) _ (open_at i h)).1);
      last_left = eqb-true _ _ p.final_count;
    }

-- no fault: every check passed
some_none : {X : Type 0} (e : Refusal) → Some e ≡ None → X
some_none e p = absurd (none-some e (sym p))

plan_checked : (N : Numbers) (v : Verdict) → within_limits N ≡ true → schedule 6 N.strategy N.variables ≡ v → fault_of_plan N v ≡ None
    → (ks : List ℕ) × Checked N ks
plan_checked N (refused e) w s p = some_none e p
plan_checked N (planned ks) w s p =
    ⊎_elim (λ c. ⊎_elim
    (λ o. (ks, record { limited = w; planned_so = s; consistently = c; opening_few = o }))
    (λ o. some_none limit (sym (cond-true (consistent N ks) _ _ c ∙ cond-false (openings_within N ks) _ _ o) ∙ p))
    (cases_Bool (openings_within N ks)))
    (λ c. some_none inconsistent (sym (cond-false (consistent N ks) _ _ c) ∙ p))
    (cases_Bool (consistent N ks))

pub checked : (N : Numbers) → fault N ≡ None → (ks : List ℕ) × Checked N ks
unfolding fault
checked N p =
    ⊎_elim (λ w. plan_checked N _ w refl (sym (cond-true (within_limits N) _ _ w) ∙ p))
    (λ w. some_none limit (sym (cond-false (within_limits N) _ _ w) ∙ p))
    (cases_Bool (within_limits N))

pub configurations_phased : ConfigurationsPhased
configurations_phased N p = let c = checked N p in (c.0, c.1, phased N c.0 c.1)
