-- What the steps of a pattern say, part by part.
use Rattle.std.proofs.Common.{◌≡◌, ℕ, zero, suc, ◌-◌, ◌^◌, Bool, true, false, cond, eqb, List, [], ◌∷◌, ◌++◌, map, sym, refl, ap, ◌∙◌, append-nil, append_assoc}
use Rattle.std.specs.List.{flat_map, AllByRecursion}
use Rattle.std.proofs.Math.Dec.{eqb-suc-zero}
use Rattle.transcript.specs.Steps.{Step, bracket, drawn_step, sent_step, grinding_step, indices_step}
use Rattle.transcript.specs.Shape.{Shape, RoundShape}
use Rattle.transcript.specs.Pattern.{sample_steps, grinding_steps, query_steps, closing_steps, round_steps, final_steps, pattern}
use Rattle.transcript.specs.declared.interaction.Hierarchy.TheVariants.{Atomic}
use Rattle.transcript.specs.declared.interaction.Label.{Label}
use Rattle.transcript.specs.declared.interaction.Label.TheVariants.{QueryPow, QueryIndices, RoundBatching, RoundFold, FinalPoly, FinalQueryPow, FinalQueryIndices, FinalFold}
use Rattle.verification.specs.Described.{Described, some_bytes, repeated, standing, next_fill, later_fills, calls, turn_calls, sumcheck_calls, fills}
use Rattle.verification.proofs.Parts.{own, own_calls, so_many}

-- each step stands alone
abbrev Alone : List Step → Type 0
Alone ss = AllByRecursion (λ s. s.hierarchy ≡ Atomic) ss

-- steps that stand alone say what is theirs, before what comes next
alone : (ss rest : List Step) (fs : List (List Described)) → Alone ss → calls (ss ++ rest) fs ≡ own_calls ss ++ calls rest fs
alone [] rest fs a = refl
alone (s ∷ ss) rest fs a =
    ap (λ h. standing h (next_fill fs ++ calls (ss ++ rest) (later_fills fs)) (calls (ss ++ rest) fs) (own s)) a.0
    ∙ ap (λ l. own s ++ l) (alone ss rest fs a.1)
    ∙ sym (append_assoc (own s) (own_calls ss) (calls rest fs))

-- .. also as a first part of more
alone_first : (ss others rest : List Step) (fs : List (List Described)) → Alone ss → calls ((ss ++ others) ++ rest) fs ≡ own_calls ss ++ calls (others ++ rest) fs
alone_first ss others rest fs a = ap (λ l. calls l fs) (append_assoc ss others rest) ∙ alone ss (others ++ rest) fs a

samples_alone : (degree n : ℕ) → Alone (sample_steps degree n)
samples_alone degree zero = tt
samples_alone degree (suc n) = (refl, (refl, samples_alone degree n))

-- .. a step or none
alone_or_none : (b : Bool) (s : Step) → s.hierarchy ≡ Atomic → Alone (cond b [] (s ∷ []))
alone_or_none true s a = tt
alone_or_none false s a = (a, tt)

strata_alone : (w : ℕ) (ts : List ℕ) (l : Label) → Alone (map (λ t. indices_step (w - t) (2 ^ t) l) ts)
strata_alone w [] l = tt
strata_alone w (t ∷ ts) l = (refl, strata_alone w ts l)

queries_alone : (stratified : Bool) (w d : ℕ) (ts : List ℕ) (l : Label) → Alone (query_steps stratified w d ts l)
queries_alone true w d ts l = strata_alone w ts l
queries_alone false w d ts l = alone_or_none (eqb d 0) (indices_step w d l) refl

-- the calls before the positions of a phase are drawn, and those that draw them
abbrev pub query_calls : (bits : ℕ) (stratified : Bool) (width count : ℕ) (ts : List ℕ) (ground indices : Label) → List Described
query_calls bits stratified width count ts ground indices = own_calls (grinding_steps bits ground) ++ own_calls (query_steps stratified width count ts indices)

-- the calls of a round
abbrev pub round_calls : ℕ → RoundShape → List Described
round_calls degree r =
    some_bytes ∷ (own_calls (sample_steps degree r.samples)
    ++ (query_calls r.difficulty r.stratified r.width r.drawing r.strata QueryPow QueryIndices
    ++ ((so_many degree ++ []) ++ sumcheck_calls degree r.sumcheck)))

-- the calls of the final phase
abbrev pub final_calls : ℕ → Shape → List Described
final_calls degree s =
    own (sent_step degree s.final_count FinalPoly)
    ++ (query_calls s.final_difficulty s.stratified s.final_width s.final_drawing s.final_strata FinalQueryPow FinalQueryIndices
    ++ sumcheck_calls degree s.final)

assembled : (a b c d e rest : List Described) → a ++ (b ++ (c ++ (d ++ (e ++ rest)))) ≡ (a ++ ((b ++ c) ++ (d ++ e))) ++ rest
assembled a b c d e rest =
    ap (λ l. a ++ (b ++ (c ++ l))) (sym (append_assoc d e rest))
    ∙ ap (λ l. a ++ l) (sym (append_assoc b c ((d ++ e) ++ rest)) ∙ sym (append_assoc (b ++ c) (d ++ e) rest))
    ∙ sym (append_assoc a ((b ++ c) ++ (d ++ e)) rest)

-- the steps of a round say them
round_said : (degree : ℕ) (r : RoundShape) (rest : List Step) (fs : List (List Described))
    → calls (round_steps degree r ++ rest) (sumcheck_calls degree r.sumcheck ∷ fs) ≡ round_calls degree r ++ calls rest fs
round_said degree r rest fs =
    let indices : List Step = query_steps r.stratified r.width r.drawing r.strata QueryIndices in
    let end : List Step = drawn_step degree RoundBatching ∷ bracket RoundFold in
    let fills : List (List Described) = sumcheck_calls degree r.sumcheck ∷ fs in
    let samples : List Described = own_calls (sample_steps degree r.samples) in
    let ground : List Described = own_calls (grinding_steps r.difficulty QueryPow) in
    ap (λ l. some_bytes ∷ l)
    (alone_first (sample_steps degree r.samples) (grinding_steps r.difficulty QueryPow ++ (indices ++ end)) rest fills (samples_alone degree r.samples)
    ∙ ap (λ l. samples ++ l) (alone_first (grinding_steps r.difficulty QueryPow) (indices ++ end) rest fills (alone_or_none (eqb r.difficulty 0) (grinding_step r.difficulty QueryPow) refl))
    ∙ ap (λ l. samples ++ (ground ++ l)) (alone_first indices end rest fills (queries_alone r.stratified r.width r.drawing r.strata QueryIndices))
    ∙ assembled samples ground (own_calls indices) (so_many degree ++ []) (sumcheck_calls degree r.sumcheck) (calls rest fs))

rounds_said : (degree : ℕ) (rs : List RoundShape) (rest : List Step) (fs : List (List Described))
    → calls (flat_map (round_steps degree) rs ++ rest) (map (λ (r : RoundShape). sumcheck_calls degree r.sumcheck) rs ++ fs) ≡ flat_map (round_calls degree) rs ++ calls rest fs
rounds_said degree [] rest fs = refl
rounds_said degree (r ∷ rs) rest fs =
    let fills : List (List Described) = map (λ (r : RoundShape). sumcheck_calls degree r.sumcheck) rs ++ fs in
    ap (λ l. calls l (sumcheck_calls degree r.sumcheck ∷ fills)) (append_assoc (round_steps degree r) (flat_map (round_steps degree) rs) rest)
    ∙ round_said degree r (flat_map (round_steps degree) rs ++ rest) fills
    ∙ ap (λ l. round_calls degree r ++ l) (rounds_said degree rs rest fs)
    ∙ sym (append_assoc (round_calls degree r) (flat_map (round_calls degree) rs) (calls rest fs))

-- a bracket that is there only if its sumcheck has rounds
closing_said : (degree bits turns : ℕ) → calls (closing_steps turns) (repeated turns (turn_calls degree bits) ∷ []) ≡ repeated turns (turn_calls degree bits)
closing_said degree bits zero = refl
closing_said degree bits (suc n) =
    let fill : List Described = repeated (suc n) (turn_calls degree bits) in
    ap (λ b. calls (cond b [] (bracket FinalFold)) (fill ∷ [])) (eqb-suc-zero n) ∙ append-nil fill

final_said : (degree : ℕ) (s : Shape) → calls (final_steps degree s) (sumcheck_calls degree s.final ∷ []) ≡ final_calls degree s
final_said degree s =
    let indices : List Step = query_steps s.stratified s.final_width s.final_drawing s.final_strata FinalQueryIndices in
    let fills : List (List Described) = sumcheck_calls degree s.final ∷ [] in
    let ground : List Described = own_calls (grinding_steps s.final_difficulty FinalQueryPow) in
    ap (λ l. own (sent_step degree s.final_count FinalPoly) ++ l)
    (alone (grinding_steps s.final_difficulty FinalQueryPow) (indices ++ closing_steps s.final.turns) fills (alone_or_none (eqb s.final_difficulty 0) (grinding_step s.final_difficulty FinalQueryPow) refl)
    ∙ ap (λ l. ground ++ l) (alone indices (closing_steps s.final.turns) fills (queries_alone s.stratified s.final_width s.final_drawing s.final_strata FinalQueryIndices)
    ∙ ap (λ l. own_calls indices ++ l) (closing_said degree s.final.difficulty s.final.turns))
    ∙ sym (append_assoc ground (own_calls indices) (sumcheck_calls degree s.final)))

-- the whole pattern
abbrev pub whole_calls : ℕ → Shape → List Described
whole_calls degree s = so_many degree ++ (sumcheck_calls degree s.initial ++ (flat_map (round_calls degree) s.rounds ++ final_calls degree s))

pub pattern_said : (degree : ℕ) (s : Shape) → whole_calls degree s ≡ calls (pattern degree s) (fills degree s)
pattern_said degree s =
    sym (append_assoc (so_many degree) (sumcheck_calls degree s.initial) (flat_map (round_calls degree) s.rounds ++ final_calls degree s))
    ∙ ap (λ l. (so_many degree ++ sumcheck_calls degree s.initial) ++ (flat_map (round_calls degree) s.rounds ++ l)) (sym (final_said degree s))
    ∙ ap (λ l. (so_many degree ++ sumcheck_calls degree s.initial) ++ l) (sym (rounds_said degree s.rounds (final_steps degree s) (sumcheck_calls degree s.final ∷ [])))
