-- The sums and powers fit.
use Rattle.std.proofs.Common.{◌≡◌, ℕ, zero, suc, ◌+◌, ◌-◌, ◌*◌, ◌%◌, ◌^◌, ◌<◌, ◌≤◌, max, true, ◌&&◌, leb, List, [], ◌∷◌, map, length, get_or, fold, sum_by, sym, ap, ◌∙◌, add-one, arith}
use Rattle.std.specs.List.{range_with_len}
use Rattle.std.proofs.lemmas.List.FromFn.{sum_by-map-range_with_len_more}
use Rattle.std.proofs.lemmas.List.Sums.{sum_by-cons}
use Rattle.std.proofs.lemmas.List.Folds.{fold-map}
use Rattle.std.proofs.lemmas.Simd.{map-map}
use Rattle.std.proofs.lemmas.Bool.{and_parts, leb-true}
use Rattle.configuration.specs.declared.whir_parameters.RoundConfig.{RoundConfig}
use Rattle.configuration.specs.Numbers.{Numbers}
use Rattle.configuration.specs.Limits.{within_limits, round_within, all_by, at_most, sizes_within, difficulties_within, others_within, lists_within}
use Rattle.configuration.specs.Phases.{rows, rows_at}
use Rattle.configuration.specs.Verdicts.{flawless}
use Rattle.configuration.proofs.Views.{in_order, limited_so, lengths_small, shifted}
use Rattle.configuration.specs.declared.walk.PhaseNumbers.{PhaseNumbers}
use Rattle.configuration.specs.Walk.{phase_at, phases}
use Rattle.configuration_view.specs.declared.phases.Buffers.{Buffers}
use Rattle.configuration_view.specs.Shown.{buffers_of}
use Rattle.configuration_view.specs.declared.phases.Phase.{Phase}
use Rattle.configuration_view.specs.Shown.{phase_from, phase_of, phases_of, rows_in, samples_of}

-- the largest of factors that are at most 10
largest_from : (ks : List ℕ) (most : ℕ) → most ≤ 10 → ((i : ℕ) → i < length ks → get_or ks i 0 ≤ 10) → fold max most ks ≤ 10
largest_from [] most m h = m
largest_from (k ∷ ks) most m h =
    let first = h 0 (omega arith) in
    largest_from ks (max most k) (omega (arith, first)) (λ i below. h (suc i) (omega arith))

pub largest_small : (N : Numbers) → flawless N ≡ true → fold max 0 N.stored ≤ 10
largest_small N e = largest_from N.stored 0 (omega arith) (λ i h. ((in_order N e).factors i h).1)

-- numbers that are at most a bound have a sum that is at most so many times the bound
sum_at_most : (f : RoundConfig → ℕ) (b : ℕ) (rs : List RoundConfig) → ((r : RoundConfig) → round_within r ≡ true → f r ≤ b) → all_by round_within rs ≡ true
    → sum_by f rs ≤ length rs * b
sum_at_most f b [] h e = omega arith
sum_at_most f b (r ∷ rs) h e =
    let p = and_parts (round_within r) _ e in
    let first = h r p.0 in
    let others = sum_at_most f b rs h p.1 in
    let s = sum_by-cons f r rs in
    let k : suc (length rs) * b ≡ length rs * b + b = omega arith in
    omega (arith, s, first, others, k)

samples_few : (r : RoundConfig) → round_within r ≡ true → r.ood_samples ≤ 16
unfolding round_within
samples_few r e =
    let p = (and_parts (at_most 30 (r.pow_bits ∷ r.folding_pow_bits ∷ []) && (leb r.ood_samples 16 && leb r.domain_size 65536)) _ e).0 in
    let q = (and_parts (at_most 30 (r.pow_bits ∷ r.folding_pow_bits ∷ [])) _ p).1 in
    leb-true _ _ (and_parts (leb r.ood_samples 16) _ q).0

-- the samples of all rounds are few
pub samples_small : (N : Numbers) → within_limits N ≡ true → length N.rounds ≤ 65535 → samples_of N.rounds ≤ 65535 * 16
unfolding within_limits
samples_small N w few =
    let p = (and_parts (sizes_within N) _ w).1 in
    let q = (and_parts (difficulties_within N) _ p).1 in
    let r = (and_parts (others_within N) _ q).1 in
    let s = (and_parts (lists_within N) _ r).1 in
    let m = sum_at_most (λ (r : RoundConfig). r.ood_samples) 16 N.rounds samples_few s in
    omega (arith, m)

-- the rows of the first k phases are few
rows_few : (N : Numbers) (ks : List ℕ) (k : ℕ) → ((i : ℕ) → i < k → rows N ks i ≤ 1024) → rows_in (map (phase_of N ks) (range_with_len 0 k)) ≤ k * 1024
rows_few N ks zero h = omega arith
rows_few N ks (suc k) h =
    let before = rows_few N ks k (λ i below. h i (omega arith)) in
    let last = h k (omega arith) in
    let m = sum_by-map-range_with_len_more (λ (p : Phase). p.rows) (phase_of N ks) 0 k k (omega arith) in
    let same = ap (λ n. rows_in (map (phase_of N ks) (range_with_len 0 n))) (add-one k) in
    omega (arith, before, last, m, same)

pub rows_small : (N : Numbers) → flawless N ≡ true → length N.stored ≤ 65536 → rows_in (phases_of N) ≤ 65536 * 1024
rows_small N e few =
    let m = rows_few N N.stored (length N.stored) (λ i h. ((in_order N e).rows_some i h).1) in omega (arith, m)

-- what is read of the phases, as they are shown
abbrev pub shown_from : PhaseNumbers → Phase
shown_from p = phase_from p.variables p.rate p.factor p.queries

pub shown_all : (N : Numbers) → map shown_from (phases N N.stored) ≡ phases_of N
shown_all N = map-map shown_from (phase_at N N.stored) (range_with_len 0 (length N.stored))

-- the rows of a phase that is read, and those of all phases in turn
abbrev pub rows_read : PhaseNumbers → ℕ
rows_read p = rows_at (p.variables + p.rate - p.factor) p.queries

pub rows_all : (N : Numbers) → sum_by rows_read (phases N N.stored) ≡ rows_in (phases_of N)
rows_all N = sym (fold-map (λ a (p : Phase). a + p.rows) shown_from 0 (phases N N.stored)) ∙ ap rows_in (shown_all N)

-- the sums of a checked configuration are small
pub record SmallSums (N : Numbers) : Type 0 where
  pub largest : fold max 0 N.stored ≤ 10
  pub samples : samples_of N.rounds ≤ 65535 * 16
  pub rounds : length N.rounds ≤ 65535
  pub rows : rows_in (phases_of N) ≤ 65536 * 1024

pub sums_small : (N : Numbers) → flawless N ≡ true → SmallSums N
sums_small N e =
    let w = limited_so N e in
    let few = lengths_small N e in
    record { largest = largest_small N e; samples = samples_small N w few.1; rounds = few.1; rows = rows_small N e (omega (arith, few.0)) }

-- the buffers, from what was counted
pub buffers_there : (N : Numbers) (k samples count positions : ℕ) → flawless N ≡ true → k ≡ fold max 0 N.stored → samples ≡ samples_of N.rounds
    → count ≡ length N.rounds → positions ≡ rows_in (phases_of N)
    → ◌≡◌ {A = Buffers}
    (record { point = N.variables; pair = 2; fold = (1 * 2 ^ k) % 18446744073709551616; notes = samples + 2 * count; positions = positions }) (buffers_of N)
buffers_there N k samples count positions e h s c p =
    let small = sums_small N e in
    let f = shifted k (omega (arith, small.largest)) ∙ ap (λ x. 2 ^ x) h in
    let n : samples + 2 * count ≡ samples_of N.rounds + 2 * length N.rounds = cc in
    let make : ℕ → ℕ → ℕ → Buffers = λ x y z. record { point = N.variables; pair = 2; fold = x; notes = y; positions = z } in
    ap (λ x. make x (samples + 2 * count) positions) f ∙ ap (λ y. make (2 ^ fold max 0 N.stored) y positions) n
    ∙ ap (λ z. make (2 ^ fold max 0 N.stored) (samples_of N.rounds + 2 * length N.rounds) z) p
