-- Numbers of the rounds, and what is left of the variables.
use Rattle.std.proofs.Common.{◌≡◌, ℕ, ◌+◌, ◌-◌, ◌^◌, ◌<◌, ◌≤◌, min, Bool, true, false, cond, ◌&&◌, eqb, leb, ltb, List, [], ◌∷◌, map, length, get_or, Some, None, sum, Option, sym, ap, ◌∙◌, ⊎_elim, arith}
use Rattle.std.proofs.Math.Nat.{pow-le-pow_right}
use Rattle.std.proofs.lemmas.List.{get_or-map, take_all}
use Rattle.std.proofs.lemmas.Bool.{and_parts, and_left, and_right, leb-true, lt-ltb, eq-eqb, ne_eqb, cond-true, cases_lt}
use Rattle.configuration.specs.Numbers.{Numbers}
use Rattle.configuration.specs.Phases.{left, domain_fits, every, log_domain, same, consistent, rates_agree, phase_agrees, round_agrees}
use Rattle.configuration.specs.Limits.{within_limits, sizes_within, at_most, factors_of}
use Rattle.configuration.proofs.Walks.{every_at}
use Rattle.configuration.specs.declared.whir_parameters.RoundConfig.{RoundConfig}

-- a number of a round that was read
pub read_number : (f : RoundConfig → ℕ) (rs : List RoundConfig) (i d : ℕ) (r : RoundConfig) → i < length rs → r ≡ get_or rs i r
    → f r ≡ get_or (map f rs) i d
read_number f rs i d r h e = ap f e ∙ sym (get_or-map f rs i r d h)

pub left_all : (N : Numbers) (ks : List ℕ) → left N ks (length ks) ≡ N.variables - sum ks
left_all N ks = ap (λ l. N.variables - sum l) (take_all (length ks) ks (omega arith))

pub and_on : (a b : Bool) → a ≡ true → (a && b) ≡ b
and_on a b e = ap (λ x. x && b) e

pub consistent_last : (N : Numbers) (ks : List ℕ) → same N.stored ks ≡ true → length N.rounds + 1 ≡ length ks
    → every (length ks) (domain_fits N ks) ≡ true → every (length N.rounds) (phase_agrees N ks) ≡ true
    → consistent N ks ≡ (eqb N.final_rounds (N.variables - sum ks) && rates_agree N ks)
unfolding consistent
consistent_last N ks a b c d =
    and_on _ _ a ∙ and_on _ _ (eq-eqb _ _ b) ∙ and_on _ _ c ∙ and_on _ _ d ∙ ap (λ x. eqb N.final_rounds x && rates_agree N ks) (left_all N ks)

-- the first part that fails
pub inconsistent_stored : (N : Numbers) (ks : List ℕ) → same N.stored ks ≡ false → false ≡ consistent N ks
unfolding consistent
inconsistent_stored N ks e = sym (and_left _ _ e)

pub inconsistent_count : (N : Numbers) (ks : List ℕ) → (length N.rounds + 1 ≡ length ks → ⊥) → false ≡ consistent N ks
unfolding consistent
inconsistent_count N ks e = sym (and_right (same N.stored ks) _ (and_left _ _ (ne_eqb _ _ e)))

pub inconsistent_domains : (N : Numbers) (ks : List ℕ) → every (length ks) (domain_fits N ks) ≡ false → false ≡ consistent N ks
unfolding consistent
inconsistent_domains N ks e = sym (and_right (same N.stored ks) _ (and_right (eqb _ _) _ (and_left _ _ e)))

pub inconsistent_rounds : (N : Numbers) (ks : List ℕ) → every (length N.rounds) (phase_agrees N ks) ≡ false → false ≡ consistent N ks
unfolding consistent
inconsistent_rounds N ks e = sym (and_right (same N.stored ks) _ (and_right (eqb _ _) _ (and_right (every _ _) _ (and_left _ _ e))))

-- no size that fits 64 bits is the power of a log that has no power there
pub no_domain : (l e k log : ℕ) (r : RoundConfig) (p : Option ℕ) → log ≡ min (l + e) 18446744073709551615
    → p ≡ cond (ltb log 64) (Some (2 ^ log)) None → r.domain_size < 2 ^ 64 → (p ≡ Some r.domain_size → ⊥) → false ≡ round_agrees l e k r
unfolding round_agrees
no_domain l e k log r p a b small h =
    let apart : r.domain_size ≡ 2 ^ (l + e) → ⊥ = λ q. ⊎_elim
    (λ below. let same : log ≡ l + e = omega arith in
    h (b ∙ cond-true (ltb log 64) _ _ (lt-ltb _ _ (omega arith)) ∙ ap Some (ap (λ x. 2 ^ x) same ∙ sym q)))
    (λ above. let large : 2 ^ 64 ≤ 2 ^ (l + e) = pow-le-pow_right {n = 2} (omega arith) above in absurd (omega (arith, large, small, q)))
    (cases_lt (l + e) 64) in
    sym (and_right (eqb r.num_variables (l - k) && eqb r.folding_factor k) _ (and_left _ _ (ne_eqb _ _ apart)))

-- within the limits the capacity is small, and so is every domain that fits it
pub capacity_small : (N : Numbers) → within_limits N ≡ true → N.capacity ≤ 16
unfolding within_limits
capacity_small N e =
    let sizes = (and_parts (sizes_within N) _ e).0 in
    let first = (and_parts (leb 1 N.variables && at_most 16 (N.variables ∷ N.capacity ∷ length (factors_of N.strategy) ∷ [])) _ sizes).0 in
    let three = (and_parts (leb 1 N.variables) _ first).1 in
    leb-true _ _ (and_parts (leb N.capacity 16) _ (and_parts (leb N.variables 16) _ three).1).0

pub domains_small : (N : Numbers) (ks : List ℕ) → within_limits N ≡ true → every (length ks) (domain_fits N ks) ≡ true
    → (i : ℕ) → i < length ks → log_domain N ks i ≤ 16
domains_small N ks w e i h = omega (arith, capacity_small N w, leb-true _ _ (every_at (domain_fits N ks) (length ks) i e h))
