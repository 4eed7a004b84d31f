-- Lists that are put together one item after another.
use Rattle.std.proofs.Common.{◌≡◌, ◌≢◌, ℕ, zero, suc, ◌+◌, ◌-◌, ◌*◌, ◌%◌, ◌^◌, ◌<◌, Bool, true, false, List, [], ◌∷◌, ◌++◌, map, length, take, get_or, eqb, Some, unwrap_or, Option, sym, refl, ap, subst, ◌∙◌, append_assoc, codes, arith}
use Rattle.std.proofs.lemmas.Nat.{one_shl}
use Rattle.std.proofs.lemmas.Bool.{cond-false, ne_eqb}
use Rattle.std.proofs.lemmas.List.{map-append, map_more, append-nil, take_more}
use Rattle.sponge.specs.Play.{Rules, counted}
use Rattle.transcript.specs.Steps.{Step, step_of, step_bytes, drawn_step, sent_step, indices_step}
use Rattle.transcript.specs.declared.interaction.Label.{Label}
use Rattle.transcript.specs.Depths.{depths, Falling}
use Rattle.transcript.specs.declared.interaction.Label.TheVariants.{OodPoint, OodAnswer}
use Rattle.transcript.specs.Written.{written}
use Rattle.transcript.specs.declared.piece.Piece.{Piece}
use Rattle.transcript.specs.Bytes.{eight}
use Rattle.std.specs.List.{flat_map}
use Rattle.transcript.specs.Shape.{Shape}
use Rattle.transcript.specs.Instances.{instance_bytes, numbers, first_numbers, last_numbers, domain_instances, strategy_numbers, sumcheck_numbers, round_numbers, instances}
use Rattle.transcript.specs.Opening.{pieces, taken}
use Rattle.transcript.specs.Owned.{Adds, Binds, piece_bytes}
use Rattle.transcript.specs.declared.interaction.Interaction.{Interaction}
use Rattle.transcript.specs.Pattern.{sample_steps, query_steps}
use Rattle.transcript.proofs.Summing.{depths_sum}
use Rattle.transcript.proofs.Taking.{counted_push, samples_more, taken_one, taken_on, taken_as}

module _ {X Y : Type 0} (f : X → Y) where
  -- one thing more, which is read as y
  pub mapped_one : (xs zs : List X) (ys : List Y) (x : X) (y : Y) → map f xs ≡ ys → zs ≡ xs ++ (x ∷ []) → f x ≡ y → map f zs ≡ ys ++ (y ∷ [])
  mapped_one xs zs ys x y e h r = ap (map f) h ∙ map-append f xs (x ∷ []) ∙ ap (λ ws. ws ++ (f x ∷ [])) e ∙ ap (λ b. ys ++ (b ∷ [])) r

  -- one thing more, in a list that is read as numbers are
  pub mapped_push : (g : ℕ → Y) (xs zs : List X) (x : X) (n : ℕ) → map f xs ≡ map g (counted 0 n) → zs ≡ xs ++ (x ∷ []) → f x ≡ g n → map f zs ≡ map g (counted 0 (n + 1))
  mapped_push g xs zs x n e h r = mapped_one xs zs (map g (counted 0 n)) x (g n) e h r ∙ sym (ap (map g) (counted_push n) ∙ map-append g (counted 0 n) (n ∷ []))

-- one step more
pub adds_one : (before after : List Interaction) (x : Interaction) (s : Step) → after ≡ before ++ (x ∷ []) → step_of x ≡ s → Adds before after (s ∷ [])
adds_one before after x s h r = mapped_one step_of before after (map step_of before) x s refl h r

-- some steps, and then some more
pub adds_on : (a b c : List Interaction) (xs ys : List Step) → Adds a b xs → Adds b c ys → Adds a c (xs ++ ys)
adds_on a b c xs ys e h = h ∙ ap (λ ss. ss ++ ys) e ∙ append_assoc (map step_of a) xs ys

-- one sample more
pub samples_added : (a b c : List Interaction) (degree n : ℕ) (x y : Interaction) → Adds a b (sample_steps degree n) → c ≡ (b ++ (x ∷ [])) ++ (y ∷ [])
    → step_of x ≡ drawn_step degree OodPoint → step_of y ≡ sent_step degree 0 OodAnswer → Adds a c (sample_steps degree (suc n))
samples_added a b c degree n x y e h rx ry =
    adds_on a b c (sample_steps degree n) (drawn_step degree OodPoint ∷ sent_step degree 0 OodAnswer ∷ []) e
    (adds_on b (b ++ (x ∷ [])) c (drawn_step degree OodPoint ∷ []) (sent_step degree 0 OodAnswer ∷ []) (adds_one b (b ++ (x ∷ [])) x _ refl rx) (adds_one (b ++ (x ∷ [])) c y _ h ry))
    ∙ ap (λ ss. map step_of a ++ ss) (sym (samples_more degree n))

falling_each : (bound : ℕ) (ts : List ℕ) (i : ℕ) → Falling bound ts → i < length ts → get_or ts i 0 < bound
falling_each bound [] i f h = absurd (omega (arith, h))
falling_each bound (t ∷ ts) zero f h = f.0
falling_each bound (t ∷ ts) (suc i) f h = omega (arith, f.0, falling_each t ts i f.1 (omega (arith, h)))

-- a depth of a number that fits in a word
pub depth_small : (d i : ℕ) (ts : List ℕ) → ts ≡ depths d → d < 2 ^ 64 → i < length ts → get_or ts i 0 < 64
depth_small d i ts e fits h = falling_each 64 ts i (subst (Falling 64) (sym e) ((depths_sum d).falling 64 fits)) h

-- one stratum more
pub stratum_added : (a b c : List Interaction) (w d i bits : ℕ) (ts : List ℕ) (l : Label) (x : Interaction) → Adds a b (query_steps true w d (take i ts) l)
    → i < length ts → get_or ts i 0 < 64 → bits ≡ w - get_or ts i 0 → step_of x ≡ indices_step bits (1 * 2 ^ get_or ts i 0 % 18446744073709551616) l
    → c ≡ b ++ (x ∷ []) → Adds a c (query_steps true w d (take (i + 1) ts) l)
stratum_added a b c w d i bits ts l x e h small p q k =
    let named : step_of x ≡ indices_step (w - get_or ts i 0) (2 ^ get_or ts i 0) l =
    q ∙ ap (λ n. indices_step n (1 * 2 ^ get_or ts i 0 % 18446744073709551616) l) p ∙ ap (λ n. indices_step (w - get_or ts i 0) n l) (one_shl (get_or ts i 0) 64 small) in
    adds_on a b c (query_steps true w d (take i ts) l) (indices_step (w - get_or ts i 0) (2 ^ get_or ts i 0) l ∷ []) e (adds_one b c x _ k named)
    ∙ ap (λ ss. map step_of a ++ ss) (sym (map_more (λ t. indices_step (w - t) (2 ^ t) l) ts i 0 h))

-- the indices in one step
pub draws_added : (a b : List Interaction) (stratified : Bool) (w d : ℕ) (o : Option ℕ) (ts : List ℕ) (l : Label) (x : Interaction) → stratified ≡ false → o ≡ Some d → o ≢ Some 0
    → b ≡ a ++ (x ∷ []) → step_of x ≡ indices_step w d l → Adds a b (query_steps stratified w (unwrap_or o 0) ts l)
draws_added a b stratified w d o ts l x flat e some h r =
    let there : (d ≡ 0) → ⊥ = λ z. some (e ∙ ap Some z) in
    adds_one a b x (indices_step w d l) h r
    ∙ ap (λ ss. map step_of a ++ ss) (sym (ap (λ t. query_steps t w (unwrap_or o 0) ts l) flat ∙ ap (λ y. query_steps false w (unwrap_or y 0) ts l) e
    ∙ cond-false (eqb d 0) [] (indices_step w d l ∷ []) (ne_eqb d 0 there)))

-- one instance more
pub binds_one : (before after : List Piece) (p : Piece) (bs : List ℕ) → after ≡ before ++ (p ∷ []) → written p ≡ instance_bytes bs → Binds before after (bs ∷ [])
binds_one before after p bs h r = mapped_one piece_bytes before after (map piece_bytes before) p (instance_bytes bs) refl h r

-- some instances, and then some more
pub binds_on : (a b c : List Piece) (xs ys : List (List ℕ)) → Binds a b xs → Binds b c ys → Binds a c (xs ++ ys)
binds_on a b c xs ys e h =
    h ∙ ap (λ ss. ss ++ map instance_bytes ys) e ∙ append_assoc (map piece_bytes a) (map instance_bytes xs) (map instance_bytes ys)
    ∙ ap (λ ss. map piece_bytes a ++ ss) (sym (map-append instance_bytes xs ys))

-- one number more
pub number_bound : (a b c : List Piece) (ns : List ℕ) (i : ℕ) (bs : List ℕ) → Binds a b (map eight (take i ns)) → i < length ns → bs ≡ eight (get_or ns i 0) → Binds b c (bs ∷ [])
    → Binds a c (map eight (take (i + 1) ns))
number_bound a b c ns i bs e h r k =
    binds_on a b c (map eight (take i ns)) (eight (get_or ns i 0) ∷ []) e (subst (λ x. Binds b c (x ∷ [])) r k)
    ∙ ap (λ ss. map piece_bytes a ++ map instance_bytes ss) (sym (map_more eight ns i 0 h))

-- one step more
pub step_bound : (before after : List Piece) (p : Piece) (ss : List Interaction) (i : ℕ) (d : Interaction) → i < length ss
    → map piece_bytes before ≡ pieces (map step_of (take i ss)) [] → after ≡ before ++ (p ∷ []) → written p ≡ step_bytes (step_of (get_or ss i d))
    → map piece_bytes after ≡ pieces (map step_of (take (i + 1) ss)) []
unfolding pieces
step_bound before after p ss i d h e k r =
    let xs = map step_of (take i ss) in
    let x = step_of (get_or ss i d) in
    mapped_one piece_bytes before after (pieces xs []) p (step_bytes x) e k r
    ∙ ap (λ bs. (3 ∷ []) ∷ codes "p3-whir" ∷ bs)
    (ap (λ bs. bs ++ (step_bytes x ∷ [])) (append-nil (map step_bytes xs)) ∙ sym (map-append step_bytes xs (x ∷ [])) ∙ sym (append-nil (map step_bytes (xs ++ (x ∷ [])))))
    ∙ ap (λ ys. pieces ys []) (sym (map_more step_of ss i d h))

-- before the first step there are the version and the name
pub begun : (start versioned named : List Piece) (v n : Piece) → start ≡ [] → versioned ≡ start ++ (v ∷ []) → named ≡ versioned ++ (n ∷ []) → written v ≡ 3 ∷ [] → written n ≡ codes "p3-whir"
    → map piece_bytes named ≡ pieces [] []
unfolding pieces
begun start versioned named v n e h k rv rn =
    mapped_one piece_bytes versioned named ((3 ∷ []) ∷ []) n (codes "p3-whir")
    (mapped_one piece_bytes start versioned [] v (3 ∷ []) (ap (map piece_bytes) e) h rv) k rn

-- instances behind the steps
instances_behind : (ps : List Step) (a b : List Piece) (labels : List (List ℕ)) → map piece_bytes a ≡ pieces ps [] → Binds a b labels → map piece_bytes b ≡ pieces ps labels
unfolding pieces
instances_behind ps a b labels e h =
    h ∙ ap (λ ss. ss ++ map instance_bytes labels) e
    ∙ ap (λ ss. (3 ∷ []) ∷ codes "p3-whir" ∷ (ss ++ map instance_bytes labels)) (append-nil (map step_bytes ps))

-- numbers after numbers
numbers_on : (a b c : List Piece) (ms ns : List ℕ) → Binds a b (map eight ms) → Binds b c (map eight ns) → Binds a c (map eight (ms ++ ns))
numbers_on a b c ms ns e h =
    binds_on a b c (map eight ms) (map eight ns) e h ∙ ap (λ ss. map piece_bytes a ++ map instance_bytes ss) (sym (map-append eight ms ns))

-- the whole separator, part by part
pub separated : (s : Shape) (ps : List Step) (a b c d e f g h : List Piece) → map piece_bytes a ≡ pieces ps [] → Binds a b (numbers (first_numbers s))
    → Binds b c (domain_instances s.id s.stratified) → Binds c d (numbers (strategy_numbers s.strategy)) → Binds d e (numbers (sumcheck_numbers s.initial))
    → Binds e f (numbers (sumcheck_numbers s.final)) → Binds f g (numbers (length s.rounds ∷ [])) → Binds g h (numbers (flat_map round_numbers s.rounds))
    → map piece_bytes h ≡ pieces ps (instances s)
separated s ps a b c d e f g h start first named strategy initial final count rounds =
    let more = length s.rounds ∷ flat_map round_numbers s.rounds in
    let closing = sumcheck_numbers s.final ++ more in
    let opening = sumcheck_numbers s.initial ++ closing in
    let last = numbers_on c d h (strategy_numbers s.strategy) opening strategy
    (numbers_on d e h (sumcheck_numbers s.initial) closing initial
    (numbers_on e f h (sumcheck_numbers s.final) more final
    (numbers_on f g h (length s.rounds ∷ []) (flat_map round_numbers s.rounds) count rounds))) in
    instances_behind ps a h (instances s) start
    (binds_on a b h (numbers (first_numbers s)) (domain_instances s.id s.stratified ++ numbers (last_numbers s)) first
    (binds_on b c h (domain_instances s.id s.stratified) (numbers (last_numbers s)) named last))

-- one piece more
pub piece_taken : (m : Rules) (s t u : List ℕ) (ps : List Piece) (i : ℕ) (d : Piece) (bs : List ℕ) → i < length ps → t ≡ taken m piece_bytes s (take i ps)
    → bs ≡ written (get_or ps i d) → u ≡ m.after_observe t bs → u ≡ taken m piece_bytes s (take (i + 1) ps)
piece_taken m s t u ps i d bs h inv r o =
    taken_as m piece_bytes s u (take i ps ++ (get_or ps i d ∷ [])) (take (i + 1) ps)
    (taken_on m piece_bytes s t u (take i ps) (get_or ps i d ∷ []) inv (taken_one m piece_bytes t u (get_or ps i d) bs o r)) (sym (take_more ps i d h))
