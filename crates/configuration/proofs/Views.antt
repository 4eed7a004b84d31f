-- Facts of a checked configuration that its accessors rest on.
use Rattle.std.proofs.Common.{◌≡◌, ℕ, suc, ◌+◌, ◌-◌, ◌*◌, ◌%◌, ◌^◌, ◌<◌, ◌≤◌, min, true, not, ◌&&◌, ltb, leb, List, [], ◌∷◌, length, get_or, take, is_some, is_ok, Some, None, Ok, Err, sum, Option, Result, option_map, MatchOption, mod-eq_of_lt, one-mul, sym, refl, ap, ◌∙◌, subst, ⊎_elim, arith}
use Rattle.std.specs.List.{slice_get}
use Rattle.std.proofs.lemmas.List.{take_all}
use Rattle.std.proofs.lemmas.List.Sums.{sum_by-take-le}
use Rattle.std.proofs.lemmas.List.FromFn.{get_or-map-range_with_len, length-map-range_with_len}
use Rattle.std.proofs.lemmas.Option.{slice_get-get_or}
use Rattle.std.proofs.lemmas.Iterator.Adapters.{option_map_id}
use Rattle.std.proofs.lemmas.Iterator.Consumers.{nth_from_yields_List, YieldsList-from_first}
use Rattle.std.proofs.lemmas.Nat.{pow_below}
use Rattle.std.specs.Iterator.{YieldsThen, YieldsFirst}
use Rattle.std.proofs.lemmas.Bool.{and_parts, leb-true, cond-true, lt-ltb, cases_lt}
use Rattle.parameters.specs.Refusals.{Refusal}
use Rattle.configuration.specs.Numbers.{Numbers}
use Rattle.configuration.specs.Limits.{within_limits, sizes_within, difficulties_within, others_within, at_most, factors_of}
use Rattle.configuration.specs.declared.whir_parameters.SecurityAssumption.{SecurityAssumption}
use Rattle.configuration.specs.declared.whir_parameters.UnknownSoundness.{UnknownSoundness}
use Rattle.configuration.specs.declared.walk.PhaseNumbers.{PhaseNumbers}
use Rattle.configuration.specs.declared.walk.Phases.{Phases}
use Rattle.configuration.specs.Phases.{rate, factor}
use Rattle.configuration.specs.Walk.{phase_at, phases, phases_left}
use Rattle.configuration.specs.Verdicts.{fault, flawless, Phased}
use Rattle.configuration.specs.Views.{NamesKind, reduction}
use Rattle.configuration.proofs.Walks.{domain_there}
use Rattle.configuration.proofs.Phased.{checked, phased}

unflawed : (f : Option Refusal) → not (is_some f) ≡ true → f ≡ None
unflawed None e = refl
unflawed (Some x) e = cc

-- a checked configuration is within its limits
pub limited_so : (N : Numbers) → flawless N ≡ true → within_limits N ≡ true
limited_so N e = (checked N (unflawed (fault N) e)).1.limited

-- and has its phases in order, by its stored schedule
pub in_order : (N : Numbers) → flawless N ≡ true → Phased N N.stored
in_order N e =
    let c = checked N (unflawed (fault N) e) in
    let p = phased N c.0 c.1 in
    subst (Phased N) (sym p.stored_so) p

pub soundness_small : (N : Numbers) → flawless N ≡ true → N.soundness ≤ 2
unfolding within_limits
soundness_small N e =
    let w = limited_so N e in
    let sizes = (and_parts (sizes_within N) _ w).0 in
    let last = (and_parts (leb 1 N.variables && at_most 16 (N.variables ∷ N.capacity ∷ length (factors_of N.strategy) ∷ [])) _ sizes).1 in
    leb-true _ _ (and_parts (leb (length N.id) 32) _ last).1

-- a number that is at most 2 names a kind
pub kind_known : (n : ℕ) (r : Result SecurityAssumption UnknownSoundness) → NamesKind n r → n ≤ 2 → is_ok r ≡ true
kind_known n (Ok kind) h small = refl
kind_known n (Err e) h small = absurd (omega (arith, h.0))

-- the first domain
pub first_domain : (N : Numbers) → flawless N ≡ true → N.variables + N.first_rate ≤ 16
first_domain N e =
    let p = in_order N e in
    omega (arith, p.fits 0 (omega (arith, p.rounds_so)), p.first_left, p.capacity_small)

-- the shrinking of a round
pub reduces : (N : Numbers) (i f e sum-up r : ℕ) → flawless N ≡ true → i < length N.rounds → f ≡ get_or N.stored i 0 → e ≡ rate N i
    → sum-up ≡ min (e + f) 18446744073709551615 → r ≡ sum-up - rate N (suc i) → Some r ≡ reduction N i
reduces N i f e sum-up r flaw h p q s t =
    let ph = in_order N flaw in
    let short : i < length N.stored = omega (arith, ph.rounds_so) in
    let small = ph.fits i short in
    let cap = ph.capacity_small in
    let ten = (ph.factors i short).1 in
    let value : r ≡ rate N i + factor N.stored i - rate N (suc i) = omega arith in
    ap Some value ∙ sym (cond-true (ltb i (length N.rounds)) _ _ (lt-ltb _ _ h))

-- there are few factors and few rounds
pub lengths_small : (N : Numbers) → flawless N ≡ true → (length N.stored ≤ 65535) × (length N.rounds ≤ 65535)
unfolding within_limits
lengths_small N e =
    let w = limited_so N e in
    let others = (and_parts (others_within N) _ (and_parts (difficulties_within N) _ (and_parts (sizes_within N) _ w).1).1).0 in
    let lengths = (and_parts (at_most 65535 (N.first_rate ∷ N.level ∷ N.budget ∷ N.commitment_samples ∷ N.terminal.num_queries ∷ N.final_rounds ∷ [])) _ others).1 in
    let stored = and_parts (leb (length N.stored) 65535) _ (and_parts (leb (length N.listed_rates) 65535) _ lengths).1 in
    (leb-true _ _ stored.0, leb-true _ _ (and_parts (leb (length N.rounds) 65535) _ stored.1).0)

-- what is folded away is no more than there is, which is little
pub folds_fit : (N : Numbers) (n : ℕ) → flawless N ≡ true → sum (take n N.stored) ≤ 16
folds_fit N n flaw = omega (arith, (in_order N flaw).folds_within, first_domain N flaw, sum_by-take-le (λ x. x) N.stored n)

-- a phase past every index takes all of the factors
pub folded_through : (N : Numbers) (i up : ℕ) → flawless N ≡ true → up ≡ min (i + 1) 18446744073709551615
    → take up N.stored ≡ take (i + 1) N.stored
folded_through N i up flaw e =
    let short = (lengths_small N flaw).0 in
    ⊎_elim (λ h. let q : up ≡ i + 1 = omega arith in ap (λ k. take k N.stored) q)
    (λ h. take_all up N.stored (omega arith) ∙ sym (take_all (i + 1) N.stored (omega arith)))
    (cases_lt i 18446744073709551615)

-- a phase by its place
phase_by_place : (N : Numbers) (r : Option PhaseNumbers) (n : ℕ) → flawless N ≡ true → n ≤ length N.rounds
    → option_map (λ p. p) r ≡ slice_get (phases N N.stored) n → r ≡ Some (phase_at N N.stored n)
phase_by_place N r n flaw m e =
    let few = (in_order N flaw).rounds_so in
    let short : n < length N.stored = omega (arith, few) in
    let count = length-map-range_with_len (phase_at N N.stored) 0 (length N.stored) in
    let at = phase_at N N.stored n in
    sym (option_map_id r) ∙ e ∙ slice_get-get_or (phases N N.stored) n at (omega (arith, count))
    ∙ ap Some (get_or-map-range_with_len (phase_at N N.stored) 0 (length N.stored) n n at short (omega arith))

-- the item that the iterator gives after so many others, no more than there are rounds
pub phase_nth : (N : Numbers) (s : Phases) (r : Option PhaseNumbers) (u : Phases) (i m n : ℕ) → flawless N ≡ true → phases_left s ≡ phases N N.stored
    → m ≡ length N.rounds → n ≡ min i m
    → (xs : List PhaseNumbers) × YieldsThen (YieldsFirst phases_left) s xs r u × MatchOption r (length xs ≤ n) (λ _. length xs ≡ n)
    → r ≡ Some (phase_at N N.stored (min i (length N.rounds)))
phase_nth N s r u i m n flaw all k h ran =
    let place : n ≡ min i (length N.rounds) = omega (arith, k, h) in
    phase_by_place N r n flaw (omega (arith, place)) (nth_from_yields_List r u n ran (YieldsList-from_first (λ p. p) phases_left {s = s} (phases N N.stored) all))
    ∙ ap (λ k. Some (phase_at N N.stored k)) place

-- what was read of it
pub phase_read : (N : Numbers) (r : Option PhaseNumbers) (p : PhaseNumbers) (n : ℕ) → r ≡ Some (phase_at N N.stored n) → r ≡ Some p
    → p ≡ phase_at N N.stored n
phase_read N r p n e s = cc

-- the power of a small log
pub shifted : (k : ℕ) → k < 64 → (1 * 2 ^ k) % 18446744073709551616 ≡ 2 ^ k
shifted k h = ap (λ x. x % 18446744073709551616) (one-mul (2 ^ k)) ∙ mod-eq_of_lt (pow_below k 64 h)

-- its domain is small, and it folds no more than it has
pub record SmallPhase (p : PhaseNumbers) : Type 0 where
  pub domain : p.variables + p.rate ≤ 16
  pub fold : p.factor ≤ p.variables

phase_small : (N : Numbers) (i : ℕ) → flawless N ≡ true → i < length N.stored → SmallPhase (phase_at N N.stored i)
phase_small N i flaw h =
    let ph = in_order N flaw in
    record { domain = omega (arith, ph.fits i h, ph.capacity_small); fold = omega (arith, ph.next_left i h) }

pub phase_there : (N : Numbers) → flawless N ≡ true → (p : PhaseNumbers) (i : ℕ) → i < length (phases N N.stored) → p ≡ get_or (phases N N.stored) i p
    → p.variables + p.rate ≤ 16
phase_there N flaw = domain_there N N.stored (λ i h. (phase_small N i flaw h).domain)

pub small_at : (N : Numbers) (p : PhaseNumbers) (i : ℕ) → flawless N ≡ true → p ≡ phase_at N N.stored (min i (length N.rounds)) → SmallPhase p
small_at N p i flaw e =
    let few = (in_order N flaw).rounds_so in
    subst SmallPhase (sym e) (phase_small N (min i (length N.rounds)) flaw (omega (arith, few)))
