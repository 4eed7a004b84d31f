-- The steps of a round and of the final phase, put together from what each call observes.
use Rattle.std.proofs.Common.{◌≡◌, ℕ, zero, suc, ◌+◌, ◌-◌, ◌*◌, ◌%◌, ◌^◌, ◌<◌, Bool, true, false, List, [], ◌∷◌, ◌++◌, map, length, get_or, Some, None, Option, unwrap_or, slice_get, sym, refl, ap, ◌∙◌, add-one, arith}
use Rattle.std.specs.List.{flat_map}
use mir.Val.{bool_byte}
use Rattle.std.proofs.lemmas.Nat.{one_shl}
use Rattle.std.proofs.lemmas.List.{map-append, length-map, get_or-map}
use Rattle.std.proofs.lemmas.Option.{slice_get_within, get_or_from_slice_get}
use Rattle.sponge.specs.Play.{Rules, counted}
use Rattle.configuration.specs.Numbers.{Numbers}
use Rattle.configuration.specs.Phases.{no_round, factor, rate, log_positions_of, draws, round_at}
use Rattle.configuration.specs.declared.whir_parameters.RoundConfig.{RoundConfig}
use Rattle.transcript.specs.Bytes.{eight}
use Rattle.transcript.specs.Depths.{depths}
use Rattle.transcript.specs.Steps.{Step, step_bytes, commitment_step, drawn_step, sent_step, bracket, indices_step}
use Rattle.transcript.specs.Shape.{shape, round_shape, difficulty, last_phase}
use Rattle.transcript.specs.Sites.{Site, phase_of, draws_of}
use Rattle.transcript.specs.Pattern.{sample_steps, grinding_steps, query_steps, closing_steps, round_steps, final_steps, pattern}
use Rattle.transcript.specs.Instances.{instance_bytes, instances, first_numbers, domain_instances, strategy_numbers, round_numbers, flag}
use Rattle.transcript.specs.Opening.{taken}
use Rattle.transcript.specs.declared.interaction.Label.{Label}
use Rattle.transcript.specs.declared.interaction.Label.TheVariants.{QueryPow, QueryIndices, RoundBatching, RoundFold, FinalPoly, FinalQueryPow, FinalQueryIndices, InitialFold}
use Rattle.transcript.specs.declared.query.QuerySite.{QuerySite}
use Rattle.transcript.proofs.Summing.{no_depth}
use Rattle.transcript.proofs.Taking.{taken_on, taken_as, taken_same, joined_push}

-- one stratum more
pub stratum_more : (m : Rules) (s t u : List ℕ) (w d r bits : ℕ) (ys : List ℕ) (l : Label) (x : Step) → r < 64 → bits ≡ w - r
    → x ≡ indices_step bits (1 * 2 ^ r % 18446744073709551616) l → t ≡ taken m step_bytes s (query_steps true w d ys l) → u ≡ taken m step_bytes t (x ∷ [])
    → u ≡ taken m step_bytes s (query_steps true w d (ys ++ (r ∷ [])) l)
stratum_more m s t u w d r bits ys l x h p q inv k =
    let named : x ≡ indices_step (w - r) (2 ^ r) l =
    q ∙ ap (λ n. indices_step n (1 * 2 ^ r % 18446744073709551616) l) p ∙ ap (λ n. indices_step (w - r) n l) (one_shl r 64 h) in
    taken_as m step_bytes s u _ _ (taken_on m step_bytes s t u (query_steps true w d ys l) (indices_step (w - r) (2 ^ r) l ∷ []) inv (taken_same m step_bytes t u x _ k named))
    (sym (map-append (λ n. indices_step (w - n) (2 ^ n) l) ys (r ∷ [])))

-- where nothing is drawn there is no step
pub no_queries : (stratified : Bool) (w : ℕ) (o : Option ℕ) (l : Label) → o ≡ None → query_steps stratified w (unwrap_or o 0) (depths (unwrap_or o 0)) l ≡ []
no_queries true w o l e = ap (map (λ t. indices_step (w - t) (2 ^ t) l)) (no_depth (unwrap_or o 0) (ap (λ x. unwrap_or x 0) e))
no_queries false w o l e = ap (λ x. query_steps false w (unwrap_or x 0) (depths (unwrap_or x 0)) l) e

abbrev of_round : ℕ → ℕ → ℕ → Bool → ℕ → ℕ → List Step
of_round degree n b strata w d =
    commitment_step ∷ (sample_steps degree n ++ (grinding_steps b QueryPow ++ (query_steps strata w d (depths d) QueryIndices ++ (drawn_step degree RoundBatching ∷ bracket RoundFold))))

pub round_taken : (m : Rules) (s a b c d e z : List ℕ) (N : Numbers) (degree i : ℕ) (r : RoundConfig) (q : QuerySite) → slice_get N.rounds i ≡ Some r → Site N i q
    → a ≡ taken m step_bytes s (commitment_step ∷ []) → b ≡ taken m step_bytes a (sample_steps degree r.ood_samples) → c ≡ taken m step_bytes b (grinding_steps q.pow_bits QueryPow)
    → d ≡ taken m step_bytes c (query_steps N.strata q.index_bits (draws_of q) (depths (draws_of q)) QueryIndices)
    → e ≡ taken m step_bytes d (drawn_step degree RoundBatching ∷ []) → z ≡ taken m step_bytes e (bracket RoundFold)
    → z ≡ taken m step_bytes s (round_steps degree (round_shape N i))
round_taken m s a b c d e z N degree i r q there site e1 e2 e3 e4 e5 e6 =
    let here : phase_of N i ≡ i = omega (arith, slice_get_within N.rounds i r there) in
    let en : r.ood_samples ≡ (round_at N i).ood_samples = ap (λ (x : RoundConfig). x.ood_samples) (sym (get_or_from_slice_get N.rounds i r no_round there)) in
    let whole =
    taken_on m step_bytes s a z (commitment_step ∷ []) _ e1
    (taken_on m step_bytes a b z (sample_steps degree r.ood_samples) _ e2
    (taken_on m step_bytes b c z (grinding_steps q.pow_bits QueryPow) _ e3
    (taken_on m step_bytes c d z (query_steps N.strata q.index_bits (draws_of q) (depths (draws_of q)) QueryIndices) _ e4
    (taken_on m step_bytes d e z (drawn_step degree RoundBatching ∷ []) (bracket RoundFold) e5 e6)))) in
    taken_as m step_bytes s z (of_round degree r.ood_samples q.pow_bits N.strata q.index_bits (draws_of q)) (round_steps degree (round_shape N i)) whole
    (ap (λ x. of_round degree x q.pow_bits N.strata q.index_bits (draws_of q)) en
    ∙ ap (λ x. of_round degree (round_at N i).ood_samples x N.strata q.index_bits (draws_of q)) (site.hard ∙ ap (difficulty N) here)
    ∙ ap (λ x. of_round degree (round_at N i).ood_samples (difficulty N i) N.strata x (draws_of q)) (site.wide ∙ ap (log_positions_of N N.stored) here)
    ∙ ap (of_round degree (round_at N i).ood_samples (difficulty N i) N.strata (log_positions_of N N.stored i)) (site.drawn ∙ ap (draws N N.stored) here))

abbrev of_final : ℕ → ℕ → ℕ → Bool → ℕ → ℕ → ℕ → List Step
of_final degree n b strata w d turns =
    sent_step degree n FinalPoly ∷ (grinding_steps b FinalQueryPow ++ (query_steps strata w d (depths d) FinalQueryIndices ++ closing_steps turns))

pub final_taken : (m : Rules) (s a b c z : List ℕ) (N : Numbers) (degree n M claims : ℕ) (q : QuerySite) → M ≡ length N.rounds → Site N M q → n ≡ 2 ^ N.final_rounds
    → a ≡ taken m step_bytes s (sent_step degree n FinalPoly ∷ []) → b ≡ taken m step_bytes a (grinding_steps q.pow_bits FinalQueryPow)
    → c ≡ taken m step_bytes b (query_steps N.strata q.index_bits (draws_of q) (depths (draws_of q)) FinalQueryIndices)
    → z ≡ taken m step_bytes c (closing_steps N.final_rounds)
    → z ≡ taken m step_bytes s (final_steps degree (shape N claims))
final_taken m s a b c z N degree n M claims q em site en e1 e2 e3 e4 =
    let here : phase_of N M ≡ length N.rounds = omega arith in
    let whole =
    taken_on m step_bytes s a z (sent_step degree n FinalPoly ∷ []) _ e1
    (taken_on m step_bytes a b z (grinding_steps q.pow_bits FinalQueryPow) _ e2
    (taken_on m step_bytes b c z (query_steps N.strata q.index_bits (draws_of q) (depths (draws_of q)) FinalQueryIndices) (closing_steps N.final_rounds) e3 e4)) in
    taken_as m step_bytes s z (of_final degree n q.pow_bits N.strata q.index_bits (draws_of q) N.final_rounds) (final_steps degree (shape N claims)) whole
    (ap (λ x. of_final degree x q.pow_bits N.strata q.index_bits (draws_of q) N.final_rounds) en
    ∙ ap (λ x. of_final degree (2 ^ N.final_rounds) x N.strata q.index_bits (draws_of q) N.final_rounds) (site.hard ∙ ap (difficulty N) here)
    ∙ ap (λ x. of_final degree (2 ^ N.final_rounds) (difficulty N (last_phase N)) N.strata x (draws_of q) N.final_rounds) (site.wide ∙ ap (log_positions_of N N.stored) here)
    ∙ ap (λ x. of_final degree (2 ^ N.final_rounds) (difficulty N (last_phase N)) N.strata (log_positions_of N N.stored (last_phase N)) x N.final_rounds) (site.drawn ∙ ap (draws N N.stored) here))

-- a flag's byte
pub flag_byte : (b : Bool) → bool_byte b ≡ flag b
flag_byte true = refl
flag_byte false = refl

-- one round's numbers more
pub round_numbers_taken : (m : Rules) (s t u : List ℕ) (N : Numbers) (i k : ℕ) (rs : List RoundConfig) → rs ≡ N.rounds → i < length rs → k ≡ factor N.stored (i + 1)
    → t ≡ taken m instance_bytes s (map eight (flat_map round_numbers (map (round_shape N) (counted 0 i))))
    → u ≡ taken m instance_bytes t (map eight ((get_or rs i no_round).log_inv_rate ∷ k ∷ (get_or rs i no_round).folding_pow_bits ∷ []))
    → u ≡ taken m instance_bytes s (map eight (flat_map round_numbers (map (round_shape N) (counted 0 (i + 1)))))
round_numbers_taken m s t u N i k rs same h pk inv o =
    let so : ((get_or rs i no_round).log_inv_rate ∷ k ∷ (get_or rs i no_round).folding_pow_bits ∷ []) ≡ round_numbers (round_shape N i) =
    ap (λ (xs : List RoundConfig). (get_or xs i no_round).log_inv_rate ∷ k ∷ (get_or xs i no_round).folding_pow_bits ∷ []) same
    ∙ ap (λ x. x ∷ k ∷ (round_at N i).folding_pow_bits ∷ []) (sym (get_or-map (λ (x : RoundConfig). x.log_inv_rate) N.rounds i no_round 0 (omega (arith, ap length same))))
    ∙ ap (λ x. rate N (suc i) ∷ x ∷ (round_at N i).folding_pow_bits ∷ []) (pk ∙ ap (factor N.stored) (add-one i)) in
    taken_as m instance_bytes s u _ _
    (taken_on m instance_bytes s t u (map eight (flat_map round_numbers (map (round_shape N) (counted 0 i)))) _ inv o)
    (ap (λ x. map eight (flat_map round_numbers (map (round_shape N) (counted 0 i))) ++ map eight x) so
    ∙ sym (map-append eight (flat_map round_numbers (map (round_shape N) (counted 0 i))) (round_numbers (round_shape N i)))
    ∙ ap (map eight) (joined_push round_numbers (round_shape N) i))

pub counted_length : (k n : ℕ) → length (counted k n) ≡ n
counted_length k zero = refl
counted_length k (suc n) = ap suc (counted_length (suc k) n)

-- all instances
pub instances_taken : (m : Rules) (s a b c d z : List ℕ) (N : Numbers) (claims width k n : ℕ) (ids : List ℕ) → width ≡ 2 ^ factor N.stored 0 → k ≡ factor N.stored 0 → n ≡ length N.rounds → ids ≡ N.id
    → a ≡ taken m instance_bytes s (map eight (N.variables ∷ N.commitment_samples ∷ claims ∷ width ∷ N.level ∷ N.budget ∷ N.first_rate ∷ N.soundness ∷ []))
    → b ≡ taken m instance_bytes a (domain_instances ids N.strata) → c ≡ taken m instance_bytes b (map eight (strategy_numbers N.strategy))
    → d ≡ taken m instance_bytes c (map eight (k ∷ N.first_difficulty ∷ N.final_rounds ∷ N.final_difficulty ∷ n ∷ []))
    → z ≡ taken m instance_bytes d (map eight (flat_map round_numbers (map (round_shape N) (counted 0 (length N.rounds)))))
    → z ≡ taken m instance_bytes s (instances (shape N claims))
instances_taken m s a b c d z N claims width k n ids pw pk pn pid e1 e2 e3 e4 e5 =
    let rounds = flat_map round_numbers (map (round_shape N) (counted 0 (length N.rounds))) in
    let count : n ≡ length (map (round_shape N) (counted 0 (length N.rounds))) = pn ∙ sym (length-map (counted 0 (length N.rounds)) (round_shape N) ∙ counted_length 0 (length N.rounds)) in
    let f1 = e1 ∙ ap (λ x. taken m instance_bytes s (map eight (N.variables ∷ N.commitment_samples ∷ claims ∷ x ∷ N.level ∷ N.budget ∷ N.first_rate ∷ N.soundness ∷ []))) pw in
    let f2 = e2 ∙ ap (λ x. taken m instance_bytes a (domain_instances x N.strata)) pid in
    let f4 = e4 ∙ ap (λ x. taken m instance_bytes c (map eight (x ∷ N.first_difficulty ∷ N.final_rounds ∷ N.final_difficulty ∷ n ∷ []))) pk
    ∙ ap (λ x. taken m instance_bytes c (map eight (factor N.stored 0 ∷ N.first_difficulty ∷ N.final_rounds ∷ N.final_difficulty ∷ x ∷ []))) count in
    let last = taken_on m instance_bytes c d z (map eight (factor N.stored 0 ∷ N.first_difficulty ∷ N.final_rounds ∷ N.final_difficulty ∷ length (map (round_shape N) (counted 0 (length N.rounds))) ∷ [])) (map eight rounds) f4 e5 in
    let tail = taken_on m instance_bytes b c z (map eight (strategy_numbers N.strategy)) _ e3 last in
    taken_on m instance_bytes s a z (map eight (first_numbers (shape N claims))) _ f1
    (taken_on m instance_bytes a b z (domain_instances N.id N.strata) _ f2
    (taken_as m instance_bytes b z _ _ tail (sym (map-append eight (strategy_numbers N.strategy) (factor N.stored 0 ∷ N.first_difficulty ∷ N.final_rounds ∷ N.final_difficulty ∷ length (map (round_shape N) (counted 0 (length N.rounds))) ∷ rounds)))))

-- all steps
pub steps_taken : (m : Rules) (s a b z : List ℕ) (N : Numbers) (degree claims : ℕ) → a ≡ taken m step_bytes s (bracket InitialFold)
    → b ≡ taken m step_bytes a (flat_map (round_steps degree) (map (round_shape N) (counted 0 (length N.rounds)))) → z ≡ taken m step_bytes b (final_steps degree (shape N claims))
    → z ≡ taken m step_bytes s (pattern degree (shape N claims))
steps_taken m s a b z N degree claims e1 e2 e3 =
    taken_on m step_bytes s a z (bracket InitialFold) _ e1
    (taken_on m step_bytes a b z (flat_map (round_steps degree) (map (round_shape N) (counted 0 (length N.rounds)))) (final_steps degree (shape N claims)) e2 e3)
