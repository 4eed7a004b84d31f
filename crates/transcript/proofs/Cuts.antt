-- The pattern is balanced, and a separator can be cut in one way.
use Rattle.std.proofs.Common.{◌≡◌, ℕ, zero, suc, ◌+◌, ◌-◌, ◌*◌, ◌/◌, ◌%◌, ◌^◌, ◌<◌, Bool, true, false, cond, eqb, List, [], ◌∷◌, ◌++◌, map, length, take, drop, sym, refl, ap, ◌∙◌, subst, mod-eq_of_lt, arith}
use lib.Pow.{mod-pow-add}
use Rattle.std.specs.List.{flat_map, AllByRecursion}
use Rattle.std.proofs.lemmas.List.{take_at, drop_at}
use Rattle.transcript.specs.declared.interaction.Hierarchy.{Hierarchy}
use Rattle.transcript.specs.declared.interaction.Hierarchy.TheVariants.{Begin, End, Atomic}
use Rattle.transcript.specs.declared.interaction.Kind.{Kind}
use Rattle.transcript.specs.declared.interaction.Kind.TheVariants.{Message, Challenge, Pow, Protocol}
use Rattle.transcript.specs.declared.interaction.Value.{Value}
use Rattle.transcript.specs.declared.interaction.Value.TheVariants.{Marker, Opaque, Base, Extension, Bits}
use Rattle.transcript.specs.declared.interaction.Label.{Label}
use Rattle.transcript.specs.declared.interaction.Label.TheVariants.{InitialFold, QueryIndices, RoundFold, FinalQueryIndices, FinalFold}
use Rattle.transcript.specs.Bytes.{big_endian, eight}
use Rattle.transcript.specs.Steps.{Step, hierarchy_byte, kind_byte, value_byte, step_bytes, bracket, indices_step}
use Rattle.transcript.specs.Shape.{Shape, RoundShape}
use Rattle.transcript.specs.Pattern.{sample_steps, query_steps, round_steps, final_steps, pattern, Closing, Closes, Balanced}
use Rattle.transcript.specs.Instances.{instance_bytes}
use Rattle.transcript.specs.Opening.{pieces}
use Rattle.transcript.specs.Cutting.{Encodable, OneCut}

-- Steps that keep what follows in order, whatever is open.
Keeps : List Step → Type 0
Keeps xs = (rest : List Step) (opened : List (List ℕ)) → Closes rest opened → Closes (xs ++ rest) opened

keeps_none : Keeps []
unfolding Keeps
keeps_none rest opened h = h

keeps_on : (xs ys : List Step) → Keeps xs → Keeps ys → Keeps (xs ++ ys)
unfolding Keeps
keeps_on xs ys f g rest opened h = subst (λ l. Closes l opened) (sym (assoc xs ys rest)) (f (ys ++ rest) opened (g rest opened h))
  where
    assoc : {Z : Type 0} (a b c : List Z) → (a ++ b) ++ c ≡ a ++ (b ++ c)
    assoc [] b c = refl
    assoc (z ∷ a) b c = ap (λ r. z ∷ r) (assoc a b c)

keeps_atom : (x : Step) (xs : List Step) → x.hierarchy ≡ Atomic → Keeps xs → Keeps (x ∷ xs)
unfolding Closes Keeps
keeps_atom x xs e f rest opened h = subst (λ k. Closing k x.label opened (Closes (xs ++ rest))) (sym e) (f rest opened h)

keeps_bracket : (l : Label) → Keeps (bracket l)
unfolding Closes Keeps
keeps_bracket l rest opened h = (refl, h)

keeps_cond : (n : ℕ) (xs : List Step) → Keeps xs → Keeps (cond (eqb n 0) [] xs)
keeps_cond n xs f = elim (eqb n 0) as (λ b. Keeps (cond b [] xs)) [ true ↦ keeps_none | false ↦ f ]

keeps_samples : (degree n : ℕ) → Keeps (sample_steps degree n)
keeps_samples degree zero = keeps_none
keeps_samples degree (suc n) = keeps_atom _ _ refl (keeps_atom _ _ refl (keeps_samples degree n))

keeps_strata : (w : ℕ) (ts : List ℕ) (l : Label) → Keeps (map (λ t. indices_step (w - t) (2 ^ t) l) ts)
keeps_strata w [] l = keeps_none
keeps_strata w (t ∷ ts) l = keeps_atom _ _ refl (keeps_strata w ts l)

keeps_queries : (b : Bool) (w d : ℕ) (ts : List ℕ) (l : Label) → Keeps (query_steps b w d ts l)
keeps_queries true w d ts l = keeps_strata w ts l
keeps_queries false w d ts l = keeps_cond d _ (keeps_atom _ _ refl keeps_none)

keeps_round : (degree : ℕ) (r : RoundShape) → Keeps (round_steps degree r)
keeps_round degree r =
    keeps_atom _ _ refl (keeps_on _ _ (keeps_samples degree r.samples)
    (keeps_on _ _ (keeps_cond r.difficulty _ (keeps_atom _ _ refl keeps_none))
    (keeps_on _ _ (keeps_queries r.stratified r.width r.drawing r.strata QueryIndices) (keeps_atom _ _ refl (keeps_bracket RoundFold)))))

keeps_rounds : (degree : ℕ) (rs : List RoundShape) → Keeps (flat_map (round_steps degree) rs)
keeps_rounds degree [] = keeps_none
keeps_rounds degree (r ∷ rs) = keeps_on (round_steps degree r) _ (keeps_round degree r) (keeps_rounds degree rs)

keeps_final : (degree : ℕ) (s : Shape) → Keeps (final_steps degree s)
keeps_final degree s =
    keeps_atom _ _ refl (keeps_on _ _ (keeps_cond s.final_difficulty _ (keeps_atom _ _ refl keeps_none))
    (keeps_on _ _ (keeps_queries s.stratified s.final_width s.final_drawing s.final_strata FinalQueryIndices) (keeps_cond s.final.turns _ (keeps_bracket FinalFold))))

keeps_pattern : (degree : ℕ) (s : Shape) → Keeps (pattern degree s)
keeps_pattern degree s =
    keeps_on (bracket InitialFold) (flat_map (round_steps degree) s.rounds ++ final_steps degree s) (keeps_bracket InitialFold)
    (keeps_on (flat_map (round_steps degree) s.rounds) (final_steps degree s) (keeps_rounds degree s.rounds) (keeps_final degree s))

pub balanced : Balanced
unfolding Closes Keeps
balanced degree s = subst (λ l. Closes l []) (nil (pattern degree s)) (keeps_pattern degree s [] [] refl)
  where
    nil : {Z : Type 0} (a : List Z) → a ++ [] ≡ a
    nil [] = refl
    nil (z ∷ a) = ap (λ r. z ∷ r) (nil a)

-- numbers are read back from their bytes
same_cons : {Z : Type 0} (x y : Z) (xs ys : List Z) → x ∷ xs ≡ y ∷ ys → (x ≡ y) × (xs ≡ ys)
same_cons x y xs ys e = (cc, cc)

same_low : (k m n : ℕ) → big_endian k m ≡ big_endian k n → m % 2 ^ (8 * k) ≡ n % 2 ^ (8 * k)
same_low zero m n e = omega arith
same_low (suc k) m n e =
    let p = same_cons _ _ _ _ e in
    let width : 8 + 8 * k ≡ 8 * suc k = omega arith in
    let low = same_low k m n p.1 in
    let split = λ (x : ℕ). ap (λ w. x % 2 ^ w) (sym width) ∙ mod-pow-add x 8 (8 * k) in
    split m ∙ ap (λ h. h * 2 ^ (8 * k) + m % 2 ^ (8 * k)) p.0 ∙ ap (λ h. n / 2 ^ (8 * k) % 256 * 2 ^ (8 * k) + h) low ∙ sym (split n)

same_eight : (m n : ℕ) → m < 2 ^ 64 → n < 2 ^ 64 → eight m ≡ eight n → m ≡ n
unfolding eight
same_eight m n hm hn e = sym (mod-eq_of_lt hm) ∙ same_low 8 m n e ∙ mod-eq_of_lt hn

eight_size : (n : ℕ) → length (eight n) ≡ 8
unfolding eight
eight_size n = refl

-- two lists of one length, each before others
same_front : (a b x y : List ℕ) → length a ≡ 8 → length b ≡ 8 → a ++ x ≡ b ++ y → (a ≡ b) × (x ≡ y)
same_front a b x y ha hb e =
    (sym (take_at a x 8 ha) ∙ ap (take 8) e ∙ take_at b y 8 hb, sym (drop_at a x 8 ha) ∙ ap (drop 8) e ∙ drop_at b y 8 hb)

hierarchy_from : ℕ → Hierarchy
hierarchy_from zero = Begin
hierarchy_from (suc zero) = End
hierarchy_from (suc (suc n)) = Atomic

hierarchy_back : (h : Hierarchy) → hierarchy_from (hierarchy_byte h) ≡ h
unfolding hierarchy_from
hierarchy_back Begin = refl
hierarchy_back End = refl
hierarchy_back Atomic = refl

kind_from : ℕ → Kind
kind_from zero = Message
kind_from (suc zero) = Challenge
kind_from (suc (suc zero)) = Pow
kind_from (suc (suc (suc n))) = Protocol

kind_back : (k : Kind) → kind_from (kind_byte k) ≡ k
unfolding kind_from
kind_back Message = refl
kind_back Challenge = refl
kind_back Pow = refl
kind_back Protocol = refl

value_from : ℕ → Value
value_from zero = Marker
value_from (suc zero) = Opaque
value_from (suc (suc zero)) = Base
value_from (suc (suc (suc zero))) = Extension
value_from (suc (suc (suc (suc n)))) = Bits

value_back : (v : Value) → value_from (value_byte v) ≡ v
unfolding value_from
value_back Marker = refl
value_back Opaque = refl
value_back Base = refl
value_back Extension = refl
value_back Bits = refl

same_step : (x y : Step) → Encodable x → Encodable y → step_bytes x ≡ step_bytes y → x ≡ y
unfolding step_bytes
same_step x y ex ey e =
    let a = same_cons _ _ _ _ e in
    let h = same_cons _ _ _ _ a.1 in
    let k = same_cons _ _ _ _ h.1 in
    let v = same_cons _ _ _ _ k.1 in
    let w = same_front (eight x.width) (eight y.width) _ _ (eight_size x.width) (eight_size y.width) v.1 in
    let c = same_front (eight x.count) (eight y.count) _ _ (eight_size x.count) (eight_size y.count) w.1 in
    let h_same : x.hierarchy ≡ y.hierarchy = sym (hierarchy_back x.hierarchy) ∙ ap hierarchy_from h.0 ∙ hierarchy_back y.hierarchy in
    let k_same : x.kind ≡ y.kind = sym (kind_back x.kind) ∙ ap kind_from k.0 ∙ kind_back y.kind in
    let v_same : x.value ≡ y.value = sym (value_back x.value) ∙ ap value_from v.0 ∙ value_back y.value in
    let w_same = same_eight x.width y.width ex.0 ey.0 w.0 in
    let c_same = same_eight x.count y.count ex.1 ey.1 c.0 in
    made x.hierarchy y.hierarchy x.kind y.kind x.value y.value x.width y.width x.count y.count x.label y.label h_same k_same v_same w_same c_same c.1
  where
    made : (h i : Hierarchy) (k l : Kind) (v u : Value) (w z c d : ℕ) (p q : List ℕ) → h ≡ i → k ≡ l → v ≡ u → w ≡ z → c ≡ d → p ≡ q
        → ◌≡◌ {A = Step} (record { hierarchy = h; kind = k; value = v; width = w; count = c; label = p }) (record { hierarchy = i; kind = l; value = u; width = z; count = d; label = q })
    made h i k l v u w z c d p q e1 e2 e3 e4 e5 e6 = cc

same_instance : (x y : List ℕ) → instance_bytes x ≡ instance_bytes y → x ≡ y
unfolding instance_bytes
same_instance x y e =
    let a = same_cons _ _ _ _ e in
    (same_front (eight (length x)) (eight (length y)) x y (eight_size (length x)) (eight_size (length y)) a.1).1

-- a step's piece is no instance's
apart : (x : Step) (y : List ℕ) → step_bytes x ≡ instance_bytes y → ⊥
unfolding step_bytes instance_bytes
apart x y e = let z : ◌≡◌ {A = ℕ} 0 1 = (same_cons _ _ _ _ e).0 in omega arith

same_rest : (xs ys : List Step) (is js : List (List ℕ)) → AllByRecursion Encodable xs → AllByRecursion Encodable ys → map step_bytes xs ++ map instance_bytes is ≡ map step_bytes ys ++ map instance_bytes js → (xs ≡ ys) × (is ≡ js)
same_rest [] [] is js hx hy e = (refl, same_labels is js e)
  where
    same_labels : (is js : List (List ℕ)) → map instance_bytes is ≡ map instance_bytes js → is ≡ js
    same_labels [] [] e = refl
    same_labels [] (j ∷ js) e = let z : ◌≡◌ {A = ℕ} 0 (suc (length (map instance_bytes js))) = ap length e in absurd (omega arith)
    same_labels (i ∷ is) [] e = let z : ◌≡◌ {A = ℕ} (suc (length (map instance_bytes is))) 0 = ap length e in absurd (omega arith)
    same_labels (i ∷ is) (j ∷ js) e =
        let p = same_cons _ _ _ _ e in
        ap (λ x. x ∷ is) (same_instance i j p.0) ∙ ap (λ l. j ∷ l) (same_labels is js p.1)
same_rest [] (y ∷ ys) [] js hx hy e = let z : ◌≡◌ {A = ℕ} 0 (suc (length (map step_bytes ys ++ map instance_bytes js))) = ap length e in absurd (omega arith)
same_rest [] (y ∷ ys) (i ∷ is) js hx hy e = absurd (apart y i (sym (same_cons _ _ _ _ e).0))
same_rest (x ∷ xs) [] is [] hx hy e = let z : ◌≡◌ {A = ℕ} (suc (length (map step_bytes xs ++ map instance_bytes is))) 0 = ap length e in absurd (omega arith)
same_rest (x ∷ xs) [] is (j ∷ js) hx hy e = absurd (apart x j (same_cons _ _ _ _ e).0)
same_rest (x ∷ xs) (y ∷ ys) is js hx hy e =
    let p = same_cons _ _ _ _ e in
    let more = same_rest xs ys is js hx.1 hy.1 p.1 in
    (ap (λ z. z ∷ xs) (same_step x y hx.0 hy.0 p.0) ∙ ap (λ l. y ∷ l) more.0, more.1)

pub one_cut : OneCut
unfolding pieces
one_cut xs ys is js hx hy e =
    let a = same_cons _ _ _ _ e in
    let b = same_cons _ _ _ _ a.1 in
    same_rest xs ys is js hx hy b.1
