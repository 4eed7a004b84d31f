-- Positions drawn one after another.
use Rattle.std.proofs.Common.{◌≡◌, ◌≢◌, ℕ, zero, suc, ◌+◌, ◌-◌, ◌*◌, ◌%◌, ◌^◌, ◌<◌, ◌≤◌, Bool, cond, eqb, List, [], ◌∷◌, ◌++◌, length, take, set, Ok, Err, Result, Some, Option, unwrap_or, sym, refl, ap, ◌∙◌, subst, arith}
use Rattle.std.proofs.lemmas.List.{take_more_set, nil_from_length}
use Rattle.std.proofs.lemmas.Nat.{one_shl}
use Rattle.std.proofs.lemmas.Bool.{cond-false, ne_eqb}
use Rattle.sponge.specs.Play.{Rules, Play, done, ◌>>=◌, each, counted, read, run, goes_on}
use Rattle.sponge.specs.Plays.{Plays, Leads}
use Rattle.sponge.specs.Drawing.{draw_bits}
use Rattle.sponge.proofs.Leads.{leads_none, leads_more, leads_done}
use Rattle.sponge.proofs.Passing.{passes_run, never, plays_read}
use Rattle.transcript.specs.Positions.{index_drawn, indices_drawn, strata_drawn, some_drawn, positions_at}
use Rattle.transcript.specs.Depths.{depths}
use Rattle.transcript.proofs.Summing.{none_taken, highest_small, highest_taken}
use Rattle.transcript.proofs.Taking.{counted_push}

-- a play that cannot refuse comes to what is read of it
came : {A : Type 0} (m : Rules) (s t : List ℕ) (p : Play ⊥ A) (a : A) → (read m s p).value ≡ a → (read m s p).list ≡ t → Plays m s p (Ok a) t
came m s t p a e f = record {
  comes = passes_run m s p (never m s p) ∙ ap (λ x. record { answer = Ok x; list = (read m s p).list }) e ∙ ap (λ u. record { answer = Ok a; list = u }) f;
}

each_on : {A B : Type 0} (m : Rules) (s : List ℕ) (f : A → Play ⊥ B) (xs : List A) (x : A)
    → read m s (each f (xs ++ (x ∷ []))) ≡ record { value = (read m s (each f xs)).value ++ ((read m (read m s (each f xs)).list (f x)).value ∷ []); list = (read m (read m s (each f xs)).list (f x)).list }
unfolding each
each_on m s f [] x = refl
each_on m s f (y ∷ xs) x = ap (λ r. record { value = (read m s (f y)).value ∷ r.value; list = r.list }) (each_on m (read m s (f y)).list f xs x)

-- one play more after some
each_more : {A B : Type 0} (m : Rules) (s t u : List ℕ) (f : A → Play ⊥ B) (xs : List A) (x : A) (ys : List B) (y : B) → Plays m s (each f xs) (Ok ys) t → Plays m t (f x) (Ok y) u
    → Plays m s (each f (xs ++ (x ∷ []))) (Ok (ys ++ (y ∷ []))) u
each_more m s t u f xs x ys y h k =
    let a = plays_read (each f xs) h in
    let b = plays_read (f x) (subst (λ v. Plays m v (f x) (Ok y) u) (sym a.2) k) in
    let e = each_on m s f xs x in
    came m s u (each f (xs ++ (x ∷ []))) (ys ++ (y ∷ []))
    (ap (λ r. r.value) e ∙ ap (λ v. v ++ ((read m (read m s (each f xs)).list (f x)).value ∷ [])) a.1 ∙ ap (λ z. ys ++ (z ∷ [])) b.1)
    (ap (λ r. r.list) e ∙ b.2)

index_played : (m : Rules) (t u : List ℕ) (bits stride i low : ℕ) → Plays m t (draw_bits bits) (Ok low) u → Plays m t (index_drawn bits stride i) (Ok (i * stride + low)) u
unfolding index_drawn
index_played m t u bits stride i low h = leads_done (i * stride + low) (leads_more (draw_bits bits) (λ low. done (i * stride + low)) (leads_none m t (index_drawn bits stride i)) h)

-- one index more
pub index_more : (m : Rules) (s t u : List ℕ) (bits stride j low : ℕ) (out : List ℕ) → j < length out → Plays m s (indices_drawn bits stride j) (Ok (take j out)) t
    → Plays m t (draw_bits bits) (Ok low) u → Plays m s (indices_drawn bits stride (j + 1)) (Ok (take (j + 1) (set out j (j * stride + low)))) u
index_more m s t u bits stride j low out h so_far drawn =
    subst (λ ys. Plays m s (indices_drawn bits stride (j + 1)) (Ok ys) u) (sym (take_more_set out j (j * stride + low) h))
    (subst (λ js. Plays m s (each (index_drawn bits stride) js) (Ok (take j out ++ ((j * stride + low) ∷ []))) u) (sym (counted_push j))
    (each_more m s t u (index_drawn bits stride) (counted 0 j) j (take j out) (j * stride + low) so_far (index_played m t u bits stride j low drawn)))

pub indices_begin : (m : Rules) (s : List ℕ) (bits stride : ℕ) → Plays m s (indices_drawn bits stride 0) (Ok []) s
unfolding each
indices_begin m s bits stride = record { comes = refl }

-- one number more
pub number_on : (out : List ℕ) (i : ℕ) → i < length out → take i out ≡ counted 0 i → take (i + 1) (set out i i) ≡ counted 0 (i + 1)
number_on out i h e = take_more_set out i i h ∙ ap (λ x. x ++ (i ∷ [])) e ∙ sym (counted_push i)

-- no draws, no strata
pub strata_none : (m : Rules) (s : List ℕ) (w d : ℕ) (out : List ℕ) → length out ≡ d → depths d ≡ [] → Plays m s (strata_drawn w (depths d)) (Ok out) s
unfolding strata_drawn
strata_none m s w d out long none =
    let empty : out ≡ [] = nil_from_length out (long ∙ none_taken d none) in
    subst (λ ts. Plays m s (strata_drawn w ts) (Ok out) s) (sym none) (record { comes = ap (λ ys. record { answer = Ok ys; list = s }) (sym empty) })

-- one stratum, and those of the draws that are left
pub strata_first : (m : Rules) (s t u : List ℕ) (w r bits d f : ℕ) (front rest ys zs : List ℕ) → d ≤ 1024 → w ≤ 16 → depths d ≡ r ∷ depths f → bits ≡ w - r
    → length front ≡ 1 * 2 ^ r % 18446744073709551616 → length rest + 1 * 2 ^ r % 18446744073709551616 ≡ d
    → Plays m s (indices_drawn bits (1 * 2 ^ bits % 18446744073709551616) (length front)) (Ok ys) t → Plays m t (strata_drawn w (depths (length rest))) (Ok zs) u
    → Plays m s (strata_drawn w (depths d)) (Ok (ys ++ zs)) u
unfolding strata_drawn
strata_first m s t u w r bits d f front rest ys zs few narrow first pb long left h k =
    let part = indices_drawn (w - r) (2 ^ (w - r)) (2 ^ r) in
    let fits : d < 2 ^ 64 = omega arith in
    let others : length rest ≡ f = omega (arith, highest_taken d f r fits first) in
    let stride : 1 * 2 ^ bits % 18446744073709551616 ≡ 2 ^ bits = one_shl bits 64 (omega arith) in
    let count : length front ≡ 2 ^ r = long ∙ one_shl r 64 (highest_small d f r fits first) in
    let drawn : Plays m s (indices_drawn (w - r) (2 ^ (w - r)) (2 ^ r)) (Ok ys) t = rw (← pb, ← stride, ← count) h in
    rw first
    (leads_done (ys ++ zs) (leads_more (strata_drawn w (depths f)) (λ rest. done (ys ++ rest))
    (leads_more part (λ front. strata_drawn w (depths f) >>= λ rest. done (front ++ rest)) (leads_none m s (strata_drawn w (r ∷ depths f))) drawn) (rw (← others) k)))

-- the positions of a phase
pub positions_all : (m : Rules) (s : List ℕ) (stratified : Bool) (w d n : ℕ) → d ≡ 0 → n ≡ cond (eqb d 0) (2 ^ w) d → Plays m s (positions_at stratified w d) (Ok (counted 0 n)) s
unfolding positions_at
positions_all m s stratified w zero n e pn = record { comes = ap (λ k. record { answer = Ok (counted 0 k); list = s }) (sym pn) }
positions_all m s stratified w (suc d) n e pn = absurd (omega arith)

pub positions_some : (m : Rules) (s t : List ℕ) (stratified kind : Bool) (w d n : ℕ) (out : List ℕ) → (d ≡ 0 → ⊥) → stratified ≡ kind → n ≡ cond (eqb d 0) (2 ^ w) d
    → Plays m s (some_drawn kind w n) (Ok out) t → Plays m s (positions_at stratified w d) (Ok out) t
unfolding positions_at
positions_some m s t stratified kind w zero n out h e pn f = absurd (h refl)
positions_some m s t stratified kind w (suc d) n out h e pn f =
    let same : n ≡ suc d = pn ∙ cond-false (eqb (suc d) 0) (2 ^ w) (suc d) (ne_eqb (suc d) 0 h) in
    subst (λ b. Plays m s (some_drawn b w (suc d)) (Ok out) t) (sym e) (subst (λ k. Plays m s (some_drawn kind w k) (Ok out) t) same f)

-- where some are drawn, there are some
pub some_there : (o : Option ℕ) (d : ℕ) → o ≡ Some d → o ≢ Some 0 → unwrap_or o 0 ≢ 0
some_there o d is none e = none (is ∙ ap Some (sym (ap (λ x. unwrap_or x 0) is) ∙ e))

-- a play and then its answer is the play
pub answered : {A : Type 0} (m : Rules) (s : List ℕ) (p : Play ⊥ A) → Leads m s p s (p >>= λ a. done a)
answered {A} m s p = record { leads = sym (on (run m s p).answer (run m s p).list) }
  where
    on : (o : Result A ⊥) (u : List ℕ) → goes_on o u (λ a v. run m v (done a)) ≡ record { answer = o; list = u }
    on (Ok a) u = refl
    on (Err r) u = refl
