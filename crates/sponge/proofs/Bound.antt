-- The archive sponge's history, walked from its start: where the states after a call agree, the lists hashed agree, or collide.
use Rattle.std.proofs.Common.{◌≡◌, ℕ, ◌≢◌, ◌⊎◌, List, [], ◌∷◌, ◌++◌, length, get_or, take, drop, sym, refl, ap, ◌∙◌, inl, inr, ⊎_elim, arith}
use mathlib.Core.List.{List-discrete}
use native.Mathlib.Decide.{ℕ_discrete}
use lib.Seq.{take-append_seam, drop-append_seam}
use Rattle.blake2s.specs.Blake2s.{hash}
use Rattle.blake2s.proofs.Digests.{length_hash}
use Rattle.sponge.specs.Play.{Event, observed, drew, after}
use Rattle.sponge.specs.Archive.{archive, zeros}
use Rattle.sponge.specs.Binding.{hashes, Alike, Collide, ArchiveBinds}

-- 32 bytes and others after them
cut : (h k bs cs : List ℕ) → length h ≡ 32 → length k ≡ 32 → h ++ bs ≡ k ++ cs → (h ≡ k) × (bs ≡ cs)
cut h k bs cs p q e =
    let n : length h ≡ length k = p ∙ sym q in (
      sym (take-append_seam h bs) ∙ ap (take (length h)) e ∙ ap (λ i. take i (k ++ cs)) n ∙ take-append_seam k cs,
      sym (drop-append_seam h bs) ∙ ap (drop (length h)) e ∙ ap (λ i. drop i (k ++ cs)) n ∙ drop-append_seam k cs,
    )

-- two lists hashed to one state: the same, or a collision; a collision later stays one
joined : {A B C : Type 0} (x y : List ℕ) → (x ≡ y → A → B) → Dec (x ≡ y) → ((hash x ≡ hash y) × A) ⊎ C → B ⊎ (((x ≢ y) × (hash x ≡ hash y)) ⊎ C)
joined x y f (yes s) (inl h) = inl (f s h.1)
joined x y f (no n) (inl h) = inr (inl (n, h.0))
joined x y f (yes s) (inr c) = inr (inr c)
joined x y f (no n) (inr c) = inr (inr c)

apart : {A : Type 0} (xs ys : List ℕ) → 0 ∷ xs ≡ 1 ∷ ys → A
apart xs ys e = let z : ◌≡◌ {A = ℕ} 0 1 = ap (λ l. get_or l 0 0) e in absurd (omega arith)

bound : (h k : List ℕ) (es fs : List Event) → length h ≡ 32 → length k ≡ 32 → length es ≡ length fs → after archive h es ≡ after archive k fs → ((h ≡ k) × Alike es fs) ⊎ Collide (hashes h es) (hashes k fs)
bound h k [] [] p q l e = inl (e, tt)
bound h k [] (f ∷ fs) p q l e = absurd (omega arith)
bound h k (x ∷ es) [] p q l e = absurd (omega arith)
bound h k (observed bs ∷ es) (observed cs ∷ fs) p q l e =
    let x = 0 ∷ (h ++ bs) in
    let y = 0 ∷ (k ++ cs) in
    joined x y (λ s a. let c = cut h k bs cs p q (ap (drop 1) s) in (c.0, (c.1, a))) (List-discrete ℕ_discrete x y) (bound (hash x) (hash y) es fs (length_hash x) (length_hash y) (omega arith) e)
bound h k (observed bs ∷ es) (drew w ∷ fs) p q l e =
    let x = 0 ∷ (h ++ bs) in
    let y = 1 ∷ k in
    joined x y (λ s a. apart (h ++ bs) k s) (List-discrete ℕ_discrete x y) (bound (hash x) (hash y) es fs (length_hash x) (length_hash y) (omega arith) e)
bound h k (drew v ∷ es) (observed cs ∷ fs) p q l e =
    let x = 1 ∷ h in
    let y = 0 ∷ (k ++ cs) in
    joined x y (λ s a. apart (k ++ cs) h (sym s)) (List-discrete ℕ_discrete x y) (bound (hash x) (hash y) es fs (length_hash x) (length_hash y) (omega arith) e)
bound h k (drew v ∷ es) (drew w ∷ fs) p q l e =
    let x = 1 ∷ h in
    let y = 1 ∷ k in
    joined x y (λ s a. (ap (drop 1) s, a)) (List-discrete ℕ_discrete x y) (bound (hash x) (hash y) es fs (length_hash x) (length_hash y) (omega arith) e)

pub archive_binds : ArchiveBinds
archive_binds es fs l e = ⊎_elim (λ h. inl h.1) inr (bound zeros zeros es fs refl refl l e)
