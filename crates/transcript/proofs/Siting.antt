-- What a checked configuration says of a phase's queries.
use Rattle.std.proofs.Common.{◌≡◌, ◌≢◌, unwrap_or, ℕ, zero, suc, ◌*◌, ◌%◌, ◌^◌, ◌<◌, ◌≤◌, Bool, true, cond, not, ◌&&◌, eqb, leb, List, [], ◌∷◌, map, length, get_or, is_some, Some, None, Option, sym, refl, ap, ◌∙◌, subst, ⊎_elim, arith, pow_pos}
use Rattle.parameters.specs.Refusals.{Refusal}
use Rattle.configuration.specs.Limits.{within_limits, sizes_within, difficulties_within, others_within, lists_within, round_within, all_by, at_most, factors_of}
use Rattle.configuration.specs.declared.whir_parameters.RoundConfig.{RoundConfig}
use Rattle.configuration.proofs.Phased.{checked}
use Rattle.std.proofs.lemmas.Nat.{one_shl}
use Rattle.std.proofs.lemmas.List.{get_or_past, get_or-map, length-map}
use Rattle.std.proofs.lemmas.Bool.{and_parts, cases_lt, cases_Bool, cond-true, cond-false, leb-true, leb-false, eqb-true, ne_eqb}
use Rattle.configuration.specs.Numbers.{Numbers}
use Rattle.configuration.specs.Phases.{no_round, factor, log_positions_of, queries, draws, drawn, query_draws}
use Rattle.configuration.specs.Verdicts.{fault, flawless}
use Rattle.transcript.specs.Shape.{difficulty}
use Rattle.transcript.specs.Sites.{Site, phase_of, draws_of}
use Rattle.transcript.specs.declared.query.QuerySite.{QuerySite}
use Rattle.configuration.proofs.Views.{in_order, first_domain}

-- fewer are drawn than there are positions
pub fewer : (n q : ℕ) → 0 < n → query_draws n q < n
fewer n q some =
    ⊎_elim (λ e. rw (cond-true (leb n q) 0 q e) some) (λ e. rw (cond-false (leb n q) 0 q e) (leb-false n q e)) (cases_Bool (leb n q))

pub few_draws : (N : Numbers) (i : ℕ) → flawless N ≡ true → i ≤ length N.rounds → draws N N.stored i ≤ 1024
few_draws N i flaw h =
    let ph = in_order N flaw in
    let short : i < length N.stored = omega (arith, ph.rounds_so) in
    let most = (ph.rows_some i short).1 in
    within (2 ^ log_positions_of N N.stored i) (queries N i) most
  where
    within : (n q : ℕ) → cond (eqb (query_draws n q) 0) n (query_draws n q) ≤ 1024 → query_draws n q ≤ 1024
    within n q m =
        ⊎_elim (λ e. omega (arith, eqb-true (query_draws n q) 0 e))
        (λ e. subst (λ x. x ≤ 1024) (cond-false (eqb (query_draws n q) 0) n (query_draws n q) e) m)
        (cases_Bool (eqb (query_draws n q) 0))

pub final_small : (N : Numbers) → flawless N ≡ true → N.final_rounds ≤ 16
final_small N flaw =
    let ph = in_order N flaw in
    let first = first_domain N flaw in
    omega (arith, ph.last_left)

pub shifted : (k : ℕ) → k < 64 → 1 * 2 ^ k % 18446744073709551616 ≡ 2 ^ k
shifted k h = one_shl k 64 h

-- what all of a list pass, each passes
all_at : {X : Type 0} (test : X → Bool) (xs : List X) (i : ℕ) (d : X) → all_by test xs ≡ true → i < length xs → test (get_or xs i d) ≡ true
all_at test [] i d e h = absurd (omega arith)
all_at test (x ∷ xs) zero d e h = (and_parts (test x) _ e).0
all_at test (x ∷ xs) (suc i) d e h = all_at test xs i d (and_parts (test x) _ e).1 (omega arith)

round_light : (r : RoundConfig) → round_within r ≡ true → r.pow_bits ≤ 30
unfolding round_within
round_light r e =
    leb-true _ _ (and_parts (leb r.pow_bits 30) _ (and_parts (at_most 30 (r.pow_bits ∷ r.folding_pow_bits ∷ [])) _ (and_parts (at_most 30 (r.pow_bits ∷ r.folding_pow_bits ∷ []) && (leb r.ood_samples 16 && leb r.domain_size 65536)) _ e).0).0).0

limits : (N : Numbers) → flawless N ≡ true → within_limits N ≡ true
limits N flaw = (checked N (unflawed (fault N) flaw)).1.limited
  where
    unflawed : (f : Option Refusal) → not (is_some f) ≡ true → f ≡ None
    unflawed None e = refl
    unflawed (Some x) e = let z : ◌≡◌ {A = ℕ} 0 1 = cc in absurd (omega arith)

-- no grinding is harder than 30 bits
pub easy : (N : Numbers) (i : ℕ) → flawless N ≡ true → difficulty N i ≤ 30
unfolding within_limits
easy N i flaw =
    let after = (and_parts (sizes_within N) _ (limits N flaw)).1 in
    let parts = and_parts (difficulties_within N) _ after in
    let three = (and_parts (leb N.first_difficulty 30) _ parts.0).1 in
    let rounds = (and_parts (lists_within N) _ (and_parts (others_within N) _ parts.1).1).1 in
    ⊎_elim (λ h. subst (λ x. x ≤ 30) (sym (get_or-map (λ (r : RoundConfig). r.pow_bits) N.rounds i no_round N.terminal.pow_bits h)) (round_light (get_or N.rounds i no_round) (all_at round_within N.rounds i no_round rounds h)))
    (λ h. subst (λ x. x ≤ 30) (sym (get_or_past (map (λ (r : RoundConfig). r.pow_bits) N.rounds) i N.terminal.pow_bits (omega (arith, length-map N.rounds (λ (r : RoundConfig). r.pow_bits))))) (leb-true _ _ (and_parts (leb N.terminal.pow_bits 30) _ three).0))
    (cases_lt i (length N.rounds))

-- the difficulty of the phase that a round names
pub difficulty_there : (N : Numbers) (i : ℕ) → difficulty N i ≡ difficulty N (phase_of N i)
difficulty_there N i =
    ⊎_elim (λ h. ap (difficulty N) (omega arith))
    (λ h. get_or_past (map (λ (r : RoundConfig). r.pow_bits) N.rounds) i N.terminal.pow_bits (omega (arith, length-map N.rounds (λ (r : RoundConfig). r.pow_bits)))
    ∙ sym (get_or_past (map (λ (r : RoundConfig). r.pow_bits) N.rounds) (phase_of N i) N.terminal.pow_bits (omega (arith, length-map N.rounds (λ (r : RoundConfig). r.pow_bits)))))
    (cases_lt i (length N.rounds))

drawn_some : (d : ℕ) → drawn (suc d) ≡ Some (suc d)
drawn_some d = cond-false (eqb (suc d) 0) None (Some (suc d)) (ne_eqb (suc d) 0 (λ e. omega arith))

-- the draws as a number, and never a number 0 of them
pub drawn_number : (d : ℕ) → unwrap_or (drawn d) 0 ≡ d
drawn_number zero = refl
drawn_number (suc d) = ap (λ o. unwrap_or o 0) (drawn_some d)

pub drawn_not_none : (o : Option ℕ) (d : ℕ) → o ≡ drawn d → o ≢ Some 0
drawn_not_none o zero e h = cc
drawn_not_none o (suc d) e h = let there = sym (drawn_some d) ∙ sym e ∙ h in cc

pub draws_there : (N : Numbers) (i w q : ℕ) (o : Option ℕ) → w ≡ log_positions_of N N.stored (phase_of N i) → q ≡ queries N (phase_of N i) → o ≡ drawn (query_draws (2 ^ w) q)
    → unwrap_or o 0 ≡ draws N N.stored (phase_of N i)
draws_there N i w q o pw pq po =
    ap (λ x. unwrap_or x 0) po ∙ drawn_number (query_draws (2 ^ w) q) ∙ ap (λ x. query_draws (2 ^ x) q) pw
    ∙ ap (query_draws (2 ^ log_positions_of N N.stored (phase_of N i))) pq

pub draws_small : (N : Numbers) (i w q : ℕ) (o : Option ℕ) → flawless N ≡ true → w ≡ log_positions_of N N.stored (phase_of N i) → q ≡ queries N (phase_of N i)
    → o ≡ drawn (query_draws (2 ^ w) q) → unwrap_or o 0 ≤ 1024
draws_small N i w q o flaw pw pq po = subst (λ x. x ≤ 1024) (sym (draws_there N i w q o pw pq po)) (few_draws N (phase_of N i) flaw (omega arith))

pub sited : (N : Numbers) (i q : ℕ) (s : QuerySite) → flawless N ≡ true → s.pow_bits ≡ difficulty N i → s.index_bits ≡ log_positions_of N N.stored (phase_of N i)
    → q ≡ queries N (phase_of N i) → s.draws ≡ drawn (query_draws (2 ^ s.index_bits) q) → Site N i s
sited N i q s flaw pb pw pq pd =
    let number : draws_of s ≡ query_draws (2 ^ s.index_bits) q = ap (λ o. unwrap_or o 0) pd ∙ drawn_number (query_draws (2 ^ s.index_bits) q) in
    record {
      hard = pb ∙ difficulty_there N i;
      wide = pw;
      drawn = draws_there N i s.index_bits q s.draws pw pq pd;
      light = subst (λ x. x ≤ 30) (sym pb) (easy N i flaw);
      few = subst (λ x. x < 2 ^ s.index_bits) (sym number) (fewer (2 ^ s.index_bits) q (pow_pos s.index_bits));
    }

pub factor_small : (N : Numbers) (i r : ℕ) → flawless N ≡ true → r ≡ factor N.stored i → r ≤ 10
factor_small N i r flaw e =
    let ph = in_order N flaw in
    ⊎_elim (λ h. omega (arith, (ph.factors i h).1)) (λ h. omega (arith, get_or_past N.stored i 0 h)) (cases_lt i (length N.stored))

-- a domain's name is short
pub id_short : (N : Numbers) (bs : List ℕ) → flawless N ≡ true → bs ≡ N.id → length bs ≤ 32
unfolding within_limits
id_short N bs flaw e =
    let w = limits N flaw in
    let sizes = (and_parts (sizes_within N) _ w).0 in
    let last = (and_parts (leb 1 N.variables && at_most 16 (N.variables ∷ N.capacity ∷ length (factors_of N.strategy) ∷ [])) _ sizes).1 in
    subst (λ l. length l ≤ 32) (sym e) (leb-true _ _ (and_parts (leb (length N.id) 32) _ last).0)
