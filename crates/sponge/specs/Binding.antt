-- The archive sponge binds its history: two histories that lead to one state are the same, or the hash was seen to collide in them.
use Rattle.std.specs.Prelude.{◌≡◌, ℕ, ◌≢◌, ◌⊎◌, List, [], ◌∷◌, ◌++◌, length}
use Rattle.blake2s.specs.Blake2s.{hash}
use Rattle.sponge.specs.Play.{Event, observed, drew, after}
use Rattle.sponge.specs.Archive.{archive, zeros}

-- the list that a call hashes, where the sponge holds h
abbrev pub hashed : List ℕ → Event → List ℕ
hashed h (observed bytes) = 0 ∷ (h ++ bytes)
hashed h (drew word) = 1 ∷ h

-- the lists that calls in turn hash
abbrev pub hashes : List ℕ → List Event → List (List ℕ)
hashes h [] = []
hashes h (e ∷ es) = hashed h e ∷ hashes (hash (hashed h e)) es

-- the same calls: the same bytes observed in the same order, and draws in the same places
abbrev pub Alike : List Event → List Event → Type 0
Alike [] [] = Unit {0}
Alike [] (f ∷ fs) = ⊥
Alike (e ∷ es) [] = ⊥
Alike (observed bs ∷ es) (observed cs ∷ fs) = (bs ≡ cs) × Alike es fs
Alike (observed bs ∷ es) (drew w ∷ fs) = ⊥
Alike (drew v ∷ es) (observed cs ∷ fs) = ⊥
Alike (drew v ∷ es) (drew w ∷ fs) = Alike es fs

-- at some place two different lists have one hash
abbrev pub Collide : List (List ℕ) → List (List ℕ) → Type 0
Collide [] [] = ⊥
Collide [] (y ∷ ys) = ⊥
Collide (x ∷ xs) [] = ⊥
Collide (x ∷ xs) (y ∷ ys) = ((x ≢ y) × (hash x ≡ hash y)) ⊎ Collide xs ys

-- Two new archive sponges after as many calls each: if they hold the same bytes the calls were the same, or two different lists that they hashed at one place have one hash.
abbrev pub ArchiveBinds : Type 0
ArchiveBinds =
    (es fs : List Event) → length es ≡ length fs → after archive zeros es ≡ after archive zeros fs
    → Alike es fs ⊎ Collide (hashes zeros es) (hashes zeros fs)
