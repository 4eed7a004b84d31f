-- The phases in turn, and tests over all of them.
use Rattle.std.proofs.Common.{◌≡◌, ℕ, zero, suc, ◌+◌, ◌-◌, ◌<◌, ◌≤◌, Bool, true, false, cond, ◌&&◌, eqb, leb, List, [], ◌∷◌, map, length, get_or, take, drop, sum, sym, refl, ap, ◌∙◌, subst, ⊎_elim, add-one, arith}
use Rattle.std.specs.List.{range_with_len, list_all}
use Rattle.std.proofs.lemmas.List.FromFn.{fill_by_all, get_or-map-range_with_len, length-map-range_with_len, map-range_with_len_more}
use Rattle.std.proofs.lemmas.List.Folds.{list_all-append}
use Rattle.std.proofs.lemmas.List.Sums.{sum_by-cons}
use Rattle.std.proofs.lemmas.Slice.Zip.{length-zip, get_or-zip}
use Rattle.std.proofs.lemmas.Bool.{and_parts, cases_eq, cond-true, le-leb}
use Rattle.std.specs.declared.iter.Zip.{Zip}
use Rattle.std.specs.declared.slice.Iter.{Iter}
use Rattle.std.specs.Iterator.{YieldsFirst}
use Rattle.std.specs.Iterator.Adapters.{zip_first, zip_second}
use Rattle.std.specs.Slice.Iter.{iter_rest}
use Rattle.std.proofs.iter.Yields.{fronts}
use Rattle.std.proofs.lemmas.Iterator.{YieldsList, YieldsList-from_slice, YieldsList-from_zip, zips}
use Rattle.std.proofs.lemmas.Iterator.Consumers.{YieldsList-from_first}
use Rattle.configuration.specs.declared.whir_parameters.RoundConfig.{RoundConfig}
use Rattle.configuration.specs.declared.walk.PhaseNumbers.{PhaseNumbers}
use Rattle.configuration.specs.declared.walk.Phases.{Phases}
use Rattle.configuration.specs.Numbers.{Numbers}
use Rattle.configuration.specs.Phases.{every, rate, rates_of, queries_of, factor, log_domain, no_round, round_at, phase_agrees, rate_follows, rows_at, opening_within}
use Rattle.configuration.specs.Walk.{phase_at, phases, paired, pair_agrees, pair_follows, phases_from, phases_left}

-- ---- a test over the numbers below a bound
pub every_at : (test : ℕ → Bool) (n i : ℕ) → every n test ≡ true → i < n → test i ≡ true
unfolding every
every_at test zero i e h = absurd (omega arith)
every_at test (suc n) i e h =
    let parts = and_parts (every n test) (test n) e in
    ⊎_elim (λ q. ap test q ∙ parts.1) (λ ne. every_at test n i parts.0 (omega (arith, ne))) (cases_eq i n)

every_same : (n : ℕ) (s t : ℕ → Bool) → ((i : ℕ) → i < n → s i ≡ t i) → every n s ≡ every n t
unfolding every
every_same zero s t h = refl
every_same (suc n) s t h =
    ap (λ b. b && s n) (every_same n s t (λ i k. h i (omega (arith, k)))) ∙ ap (λ b. every n t && b) (h n (omega arith))

and_true : (b : Bool) → (b && true) ≡ b
and_true true = refl
and_true false = refl

pub list_all-every : {X : Type 0} (test : X → Bool) (f : ℕ → X) (n : ℕ) → list_all test (map f (range_with_len 0 n)) ≡ every n (λ i. test (f i))
unfolding every
list_all-every test f zero = refl
list_all-every test f (suc n) =
    ap (λ k. list_all test (map f (range_with_len 0 k))) (sym (add-one n))
    ∙ ap (list_all test) (map-range_with_len_more f 0 n n (omega arith)) ∙ list_all-append test (map f (range_with_len 0 n)) (f n ∷ [])
    ∙ ap (λ b. b && (test (f n) && true)) (list_all-every test f n) ∙ ap (λ b. every n (λ i. test (f i)) && b) (and_true (test (f n)))

-- ---- the phases in turn
rate_from : ℕ → List RoundConfig → ℕ → ℕ
rate_from e rs zero = e
rate_from e rs (suc i) = get_or (rates_of rs) i 0

phase_from : ℕ → ℕ → ℕ → List RoundConfig → List ℕ → ℕ → PhaseNumbers
phase_from q l e rs ks i = record { variables = l - sum (take i ks); rate = rate_from e rs i; factor = get_or ks i 0; queries = get_or (queries_of rs) i q }

rate_next : (rs : List RoundConfig) (i : ℕ) → rate_from (get_or (rates_of rs) 0 0) (drop 1 rs) i ≡ get_or (rates_of rs) i 0
unfolding rate_from
rate_next [] zero = refl
rate_next [] (suc i) = refl
rate_next (r ∷ rs) zero = refl
rate_next (r ∷ rs) (suc i) = refl

queries_next : (rs : List RoundConfig) (i q : ℕ) → get_or (queries_of (drop 1 rs)) i q ≡ get_or (queries_of rs) (suc i) q
queries_next [] i q = refl
queries_next (r ∷ rs) i q = refl

get_or-phases_from : (q l e : ℕ) (rs : List RoundConfig) (ks : List ℕ) (i : ℕ) (d : PhaseNumbers) → i < length ks
    → get_or (phases_from q l e rs ks) i d ≡ phase_from q l e rs ks i
unfolding phase_from rate_from
get_or-phases_from q l e rs [] i d h = absurd (omega arith)
get_or-phases_from q l e rs (k ∷ ks) zero d h = let same : l ≡ l - sum (take 0 (k ∷ ks)) = omega arith in cc
get_or-phases_from q l e rs (k ∷ ks) (suc i) d h =
    let before = get_or-phases_from q (l - k) (get_or (rates_of rs) 0 0) (drop 1 rs) ks i d (omega arith) in
    let a : l - k - sum (take i ks) ≡ l - sum (k ∷ take i ks) = omega (arith, sum_by-cons (λ x. x) k (take i ks)) in
    let b = rate_next rs i in
    let c = queries_next rs i q in
    before
    ∙ ap (λ x. record { variables = x; rate = rate_from (get_or (rates_of rs) 0 0) (drop 1 rs) i; factor = get_or ks i 0; queries = get_or (queries_of (drop 1 rs)) i q }) a
    ∙ ap (λ x. record { variables = l - sum (k ∷ take i ks); rate = x; factor = get_or ks i 0; queries = get_or (queries_of (drop 1 rs)) i q }) b
    ∙ ap (λ x. record { variables = l - sum (k ∷ take i ks); rate = get_or (rates_of rs) i 0; factor = get_or ks i 0; queries = x }) c

length-phases_from : (q l e : ℕ) (rs : List RoundConfig) (ks : List ℕ) → length (phases_from q l e rs ks) ≡ length ks
length-phases_from q l e rs [] = refl
length-phases_from q l e rs (k ∷ ks) = ap suc (length-phases_from q (l - k) (get_or (rates_of rs) 0 0) (drop 1 rs) ks)

at_phase : (N : Numbers) (ks : List ℕ) (i : ℕ) → phase_from N.terminal.num_queries N.variables N.first_rate N.rounds ks i ≡ phase_at N ks i
unfolding phase_from rate_from
at_phase N ks zero = refl
at_phase N ks (suc i) = refl

pub phases_walked : (N : Numbers) (ks : List ℕ) → phases_from N.terminal.num_queries N.variables N.first_rate N.rounds ks ≡ phases N ks
phases_walked N ks =
    let all = phases_from N.terminal.num_queries N.variables N.first_rate N.rounds ks in
    fill_by_all (phase_at N ks) all (length ks) (phase_at N ks 0)
    (length-phases_from N.terminal.num_queries N.variables N.first_rate N.rounds ks)
    (λ i h. get_or-phases_from N.terminal.num_queries N.variables N.first_rate N.rounds ks i (phase_at N ks 0) h ∙ at_phase N ks i)

-- a phase that was read, where every domain is small
pub domain_there : (N : Numbers) (ks : List ℕ) → ((i : ℕ) → i < length ks → log_domain N ks i ≤ 16) → (p : PhaseNumbers) (i : ℕ)
    → i < length (phases N ks) → p ≡ get_or (phases N ks) i p → p.variables + p.rate ≤ 16
domain_there N ks small p i h e =
    let short : i < length ks = omega (arith, length-map-range_with_len (phase_at N ks) 0 (length ks)) in
    let there : p ≡ phase_at N ks i = e ∙ get_or-map-range_with_len (phase_at N ks) 0 (length ks) i i p short (omega arith) in
    subst (λ (x : PhaseNumbers). x.variables + x.rate ≤ 16) (sym there) (small i short)

-- a phase that has positions, folds few variables and opens few rows
abbrev pub opens_few : PhaseNumbers → Bool
opens_few p = cond (leb (p.variables + p.rate) 16) (leb p.factor 10 && leb (rows_at (p.variables + p.rate - p.factor) p.queries) 1024) false

pub few_each : (N : Numbers) (ks : List ℕ) → ((i : ℕ) → i < length ks → log_domain N ks i ≤ 16)
    → list_all opens_few (phases N ks) ≡ every (length ks) (opening_within N ks)
few_each N ks small =
    list_all-every opens_few (phase_at N ks) (length ks)
    ∙ every_same (length ks) (λ i. opens_few (phase_at N ks i)) (opening_within N ks)
    (λ i h. cond-true (leb (log_domain N ks i) 16) _ _ (le-leb _ _ (small i h)))

-- ---- each round with its phase
pair_at : Numbers → List ℕ → ℕ → PhaseNumbers × RoundConfig
pair_at N ks i = (phase_at N ks i, round_at N i)

paired_all : (N : Numbers) (ks : List ℕ) → length N.rounds ≤ length ks → paired N ks ≡ map (pair_at N ks) (range_with_len 0 (length N.rounds))
unfolding pair_at
paired_all N ks h =
    let count = length-map-range_with_len (phase_at N ks) 0 (length ks) in
    fill_by_all (pair_at N ks) (paired N ks) (length N.rounds) (phase_at N ks 0, no_round)
    (omega (arith, length-zip (phases N ks) N.rounds, count))
    (λ i k. get_or-zip (phases N ks) N.rounds i (phase_at N ks 0, no_round) (omega (arith, count)) k
    ∙ ap (λ (p : PhaseNumbers). (p, round_at N i)) (get_or-map-range_with_len (phase_at N ks) 0 (length ks) i i (phase_at N ks 0) (omega arith) (omega arith)))

pub agree_each : (N : Numbers) (ks : List ℕ) → length N.rounds ≤ length ks → list_all pair_agrees (paired N ks) ≡ every (length N.rounds) (phase_agrees N ks)
unfolding pair_at
agree_each N ks h = ap (list_all pair_agrees) (paired_all N ks h) ∙ list_all-every pair_agrees (pair_at N ks) (length N.rounds)

rate_there : (rs : List RoundConfig) (i : ℕ) → get_or (rates_of rs) i 0 ≡ (get_or rs i no_round).log_inv_rate
rate_there [] i = refl
rate_there (r ∷ rs) zero = refl
rate_there (r ∷ rs) (suc i) = rate_there rs i

pub follow_each : (N : Numbers) (ks : List ℕ) → length N.rounds ≤ length ks → list_all pair_follows (paired N ks) ≡ every (length N.rounds) (rate_follows N ks)
unfolding pair_at
follow_each N ks h =
    ap (list_all pair_follows) (paired_all N ks h) ∙ list_all-every pair_follows (pair_at N ks) (length N.rounds)
    ∙ every_same (length N.rounds) (λ i. pair_follows (pair_at N ks i)) (rate_follows N ks)
    (λ i h. ap (λ x. eqb x (rate N i + factor ks i - 1)) (sym (rate_there N.rounds i)))

-- what goes over the rounds with their phases gives each pair
pub YieldsList-from_paired : {s : Zip Phases (Iter RoundConfig)} (N : Numbers) (ks : List ℕ) → phases_left (zip_first s) ≡ phases N ks
    → iter_rest (zip_second s) ≡ N.rounds → YieldsList (zips (YieldsFirst phases_left) fronts) (λ p. (p.0, p.1.now)) s (paired N ks)
YieldsList-from_paired {s} N ks e h =
    YieldsList-from_zip (YieldsList-from_first (λ p. p) phases_left {s = zip_first s} (phases N ks) e) (YieldsList-from_slice {s = zip_second s} N.rounds h)
