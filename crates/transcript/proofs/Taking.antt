-- What a sponge holds after byte strings were observed one after another.
use Rattle.std.proofs.Common.{◌≡◌, ℕ, zero, suc, ◌+◌, ◌<◌, cond, eqb, List, [], ◌∷◌, ◌++◌, map, length, get_or, take, Ok, codes, sym, refl, ap, ◌∙◌, add-one, arith}
use Rattle.std.specs.List.{flat_map}
use Rattle.std.proofs.lemmas.List.{map-append, map_more, append-nil}
use Rattle.std.proofs.lemmas.Grind.{flat_map-append}
use Rattle.std.proofs.lemmas.Bool.{cond-true, cond-false, eq-eqb, ne_eqb}
use Rattle.sponge.specs.Play.{Rules, counted}
use Rattle.sponge.specs.Plays.{Plays}
use Rattle.transcript.specs.Bytes.{eight}
use Rattle.transcript.specs.Steps.{Step, step_bytes, drawn_step, sent_step}
use Rattle.transcript.specs.Pattern.{sample_steps}
use Rattle.transcript.specs.Instances.{instance_bytes}
use Rattle.transcript.specs.Opening.{taken, pieces, observe_all}
use Rattle.transcript.specs.declared.interaction.Label.TheVariants.{OodPoint, OodAnswer}

module _ {X : Type 0} (m : Rules) (f : X → List ℕ) where
  pub taken_one : (s t : List ℕ) (x : X) (bs : List ℕ) → t ≡ m.after_observe s bs → bs ≡ f x → t ≡ taken m f s (x ∷ [])
  unfolding taken
  taken_one s t x bs e h = e ∙ ap (m.after_observe s) h

  pub taken_append : (s : List ℕ) (xs ys : List X) → taken m f s (xs ++ ys) ≡ taken m f (taken m f s xs) ys
  unfolding taken
  taken_append s [] ys = refl
  taken_append s (x ∷ xs) ys = taken_append (m.after_observe s (f x)) xs ys

  -- some, and then some more
  pub taken_on : (s t u : List ℕ) (xs ys : List X) → t ≡ taken m f s xs → u ≡ taken m f t ys → u ≡ taken m f s (xs ++ ys)
  taken_on s t u xs ys e h = h ∙ ap (λ v. taken m f v ys) e ∙ sym (taken_append s xs ys)

  -- the same under another name
  pub taken_as : (s t : List ℕ) (xs ys : List X) → t ≡ taken m f s xs → xs ≡ ys → t ≡ taken m f s ys
  taken_as s t xs ys e h = e ∙ ap (taken m f s) h

  pub taken_same : (s t : List ℕ) (x y : X) → t ≡ taken m f s (x ∷ []) → x ≡ y → t ≡ taken m f s (y ∷ [])
  taken_same s t x y e h = e ∙ ap (λ z. taken m f s (z ∷ [])) h

  -- only where there is something
  pub taken_nothing : (s : List ℕ) (n : ℕ) (xs : List X) → n ≡ 0 → s ≡ taken m f s (cond (eqb n 0) [] xs)
  unfolding taken
  taken_nothing s n xs e = sym (ap (taken m f s) (cond-true (eqb n 0) [] xs (eq-eqb n 0 e)))

  pub taken_something : (s t : List ℕ) (n : ℕ) (xs : List X) → (n ≡ 0 → ⊥) → t ≡ taken m f s xs → t ≡ taken m f s (cond (eqb n 0) [] xs)
  taken_something s t n xs e h = h ∙ sym (ap (taken m f s) (cond-false (eqb n 0) [] xs (ne_eqb n 0 e)))

-- one number more
pub number_more : (m : Rules) (s t u : List ℕ) (ns : List ℕ) (i : ℕ) (bs ws : List ℕ) → i < length ns → t ≡ taken m instance_bytes s (map eight (take i ns))
    → u ≡ m.after_observe t ws → ws ≡ instance_bytes bs → bs ≡ eight (get_or ns i 0) → u ≡ taken m instance_bytes s (map eight (take (i + 1) ns))
number_more m s t u ns i bs ws h inv o w b =
    taken_as m instance_bytes s u (map eight (take i ns) ++ (eight (get_or ns i 0) ∷ [])) (map eight (take (i + 1) ns))
    (taken_on m instance_bytes s t u (map eight (take i ns)) (eight (get_or ns i 0) ∷ []) inv
    (taken_one m instance_bytes t u (eight (get_or ns i 0)) ws o (w ∙ ap instance_bytes b))) (sym (map_more eight ns i 0 h))

-- numbers counted, one more at the end
pub counted_more : (k n : ℕ) → counted k (suc n) ≡ counted k n ++ ((k + n) ∷ [])
counted_more k zero = let e : k ≡ k + 0 = omega arith in ap (λ x. x ∷ []) e
counted_more k (suc n) =
    let e : suc k + n ≡ k + suc n = omega arith in
    ap (λ xs. k ∷ xs) (counted_more (suc k) n ∙ ap (λ x. counted (suc k) n ++ (x ∷ [])) e)

pub counted_push : (n : ℕ) → counted 0 (n + 1) ≡ counted 0 n ++ (n ∷ [])
counted_push n =
    let e : 0 + n ≡ n = omega arith in
    ap (counted 0) (add-one n) ∙ counted_more 0 n ∙ ap (λ x. counted 0 n ++ (x ∷ [])) e

-- one more of what was joined over the numbers so far
pub joined_push : {X Y : Type 0} (f : X → List Y) (g : ℕ → X) (n : ℕ) → flat_map f (map g (counted 0 n)) ++ f (g n) ≡ flat_map f (map g (counted 0 (n + 1)))
joined_push f g n =
    ap (λ r. flat_map f (map g (counted 0 n)) ++ r) (sym (append-nil (f (g n))))
    ∙ sym (ap (λ xs. flat_map f (map g xs)) (counted_push n) ∙ ap (flat_map f) (map-append g (counted 0 n) (n ∷ [])) ∙ flat_map-append f (map g (counted 0 n)) (g n ∷ []))

-- one sample more
pub samples_more : (degree n : ℕ) → sample_steps degree (suc n) ≡ sample_steps degree n ++ (drawn_step degree OodPoint ∷ sent_step degree 0 OodAnswer ∷ [])
samples_more degree zero = refl
samples_more degree (suc n) = ap (λ ss. drawn_step degree OodPoint ∷ sent_step degree 0 OodAnswer ∷ ss) (samples_more degree n)

-- the whole separator
all_observed : (m : Rules) (s : List ℕ) (ps : List (List ℕ)) → Plays m s (observe_all ps) (Ok tt) (taken m (λ b. b) s ps)
unfolding observe_all taken
all_observed m s [] = record { comes = refl }
all_observed m s (p ∷ ps) = record { comes = (all_observed m (m.after_observe s p) ps).comes }

taken_map : {X : Type 0} (m : Rules) (f : X → List ℕ) (s : List ℕ) (xs : List X) → taken m (λ b. b) s (map f xs) ≡ taken m f s xs
unfolding taken
taken_map m f s [] = refl
taken_map m f s (x ∷ xs) = taken_map m f (m.after_observe s (f x)) xs

-- pieces that were all taken were observed, each by a call of its own
pub all_taken : {X : Type 0} (m : Rules) (f : X → List ℕ) (s t : List ℕ) (xs : List X) → t ≡ taken m f s xs → Plays m s (observe_all (map f xs)) (Ok tt) t
all_taken m f s t xs e =
    record { comes = (all_observed m s (map f xs)).comes ∙ ap (λ v. record { answer = Ok tt; list = v }) (taken_map m f s xs ∙ sym e) }

pub opened : (m : Rules) (s a b c d : List ℕ) (steps : List Step) (labels : List (List ℕ)) → a ≡ m.after_observe s (3 ∷ []) → b ≡ m.after_observe a (codes "p3-whir")
    → c ≡ taken m step_bytes b steps → d ≡ taken m instance_bytes c labels → Plays m s (observe_all (pieces steps labels)) (Ok tt) d
unfolding pieces taken
opened m s a b c d steps labels e1 e2 e3 e4 =
    let whole = all_observed m s (pieces steps labels) in
    let last : taken m (λ x. x) s (pieces steps labels) ≡ d =
    taken_append m (λ x. x) (m.after_observe (m.after_observe s (3 ∷ [])) (codes "p3-whir")) (map step_bytes steps) (map instance_bytes labels)
    ∙ ap (λ v. taken m (λ x. x) v (map instance_bytes labels))
    (ap (λ v. taken m (λ x. x) v (map step_bytes steps)) (sym (e2 ∙ ap (λ v. m.after_observe v (codes "p3-whir")) e1)) ∙ taken_map m step_bytes b steps ∙ sym e3)
    ∙ taken_map m instance_bytes c labels ∙ sym e4 in
    record { comes = whole.comes ∙ ap (λ v. record { answer = Ok tt; list = v }) last }
