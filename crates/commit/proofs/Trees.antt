-- The levels of a tree, rows that are right, and climbs along a path. Assumes nothing.
use Rattle.std.proofs.Common.{◌≡◌, ℕ, zero, suc, ◌*◌, ◌/◌, ◌%◌, ◌^◌, ◌<◌, ◌≤◌, max, Bool, true, false, cond, ◌&&◌, eqb, Option, Some, None, ControlFlow, Continue, Break, List, [], ◌∷◌, ◌++◌, map, length, drop, sym, refl, ap, ◌∙◌, subst, ⊎_elim, pow-suc, pow_pos, append-nil, arith}
use Rattle.std.proofs.Math.Seq.{drop-cons}
use Rattle.std.proofs.lemmas.Bool.{cases_lt, eq-eqb, eqb-true}
use Rattle.std.proofs.lemmas.List.{take-append-drop}
use Rattle.std.proofs.lemmas.Iterator.{YieldsList}
use Rattle.std.proofs.lemmas.Iterator.Consumers.{YieldsList-so_far, YieldsList-turn, YieldsList-end}
use Rattle.std.specs.ControlFlow.{continue_value}
use Rattle.std.specs.Fn.{Called}
use Rattle.std.specs.Iterator.{YieldsThen, TryFoldTurn, TryFoldsItems}
use Rattle.std.specs.List.{FoldsTo, list_all, enumerate_from}
use Rattle.std.specs.Option.{MatchOption}
use denote.Param.Members.{Mut}
use denote.Ref.{Bor}
use Rattle.blake2s.specs.Blake2s.{hash}
use Rattle.field.specs.Numbers.{Numbering}
use Rattle.field.specs.Bytes.{coefficients_bytes}
use Rattle.commit.specs.declared.merkle.TreeNode.{TreeNode}
use Rattle.commit.specs.Opening.{piece, opens}
use Rattle.commit.proofs.Lists.{piece_long, all_open}
use Rattle.commit.specs.Tree.{levels, ordered, climbs, merkle}
use Rattle.commit.specs.TreeLemmas.{levels_few, levels_more}

-- the levels above as many leaves as lie from one power of two to the next
levels_between : (k n : ℕ) → 2 ^ k ≤ n → n < 2 * 2 ^ k → levels n ≡ k
levels_between zero n lo hi = levels_few n (omega arith)
levels_between (suc k) n lo hi =
    let two = pow-suc 2 k in
    levels_more n (omega (arith, pow_pos k)) ∙ ap suc (levels_between k (n / 2) (omega arith) (omega arith))

-- the logarithm counts the levels, and over no leaf there is none
pub log_levels : (p m r : ℕ) → m ≡ max p 1 → 2 ^ r ≤ m → m < 2 * 2 ^ r → r ≡ levels p
log_levels p m r em lo hi =
    let counted = levels_between r m lo hi in
    ⊎_elim
    (λ (h : p < 1). sym counted ∙ levels_few m (omega arith) ∙ sym (levels_few p (omega arith)))
    (λ (h : 1 ≤ p). sym counted ∙ ap levels (omega arith))
    (cases_lt p 1)

-- an opening that is counted right is right just where each path leads up to the root
pub trees_open : {X : Type 0} (n : Numbering X) (c : List ℕ) (w p height : ℕ) (is : List ℕ) (rows : List X) (paths : List (List ℕ)) → height ≡ levels p → eqb (length rows) (length is * w) ≡ true → eqb (length paths) (length is * height) ≡ true
    → list_all (λ (q : ℕ × ℕ). climbs c p q.1 (hash (coefficients_bytes n (piece rows w q.0))) (piece paths height q.0)) (enumerate_from 0 is) ≡ opens (merkle n) c w p is rows paths
trees_open n c w p height is rows paths eh er ep =
    all_open (merkle n) c w p (length is) rows paths (λ (q : ℕ × ℕ). climbs c p q.1 (hash (coefficients_bytes n (piece rows w q.0))) (piece paths height q.0))
    (λ k i lt.
    let row = piece rows w k in
    let wide = eq-eqb (length row) w (piece_long rows (length is) k w (eqb-true (length rows) (length is * w) er) lt) in
    ap (λ b. b && climbs c p i (hash (coefficients_bytes n row)) (piece paths height k)) (sym wide)
    ∙ ap (λ h. eqb (length row) w && climbs c p i (hash (coefficients_bytes n row)) (piece paths h k)) eh)
    is refl er (ap (λ h. eqb (length paths) (length is * h)) (sym eh) ∙ ep)

-- the node above a node and its sibling, if the level's positions are pairs
abbrev node_above : TreeNode → List ℕ → Option TreeNode
node_above t s = cond (eqb (t.positions % 2) 0) (Some (record { positions = t.positions / 2; index = t.index / 2; digest = hash (ordered t.index t.digest s) })) None

-- what a climb from a node on answers
abbrev leads : List ℕ → List (List ℕ) → TreeNode → Bool
leads root path t = climbs root t.positions t.index t.digest path

-- a climb from a node goes on from the node above, where there is one, and else it answers no
above_leads : (root : List ℕ) (path : List (List ℕ)) (b : Bool) (t u : TreeNode) → cond b (Some t) None ≡ Some u → (b && leads root path t) ≡ leads root path u
above_leads root path true t u e = ap (leads root path) cc
above_leads root path false t u e = absurd cc

none_leads : (root : List ℕ) (path : List (List ℕ)) (b : Bool) (t : TreeNode) → cond b (Some t) None ≡ None → (b && leads root path t) ≡ false
none_leads root path true t e = absurd cc
none_leads root path false t e = refl

-- what the climb of a node that was reached answers, and none where the climb broke off
abbrev reaches : List ℕ → Option TreeNode → Bool
reaches root None = false
reaches root (Some t) = leads root [] t

-- `try_fold` over a path, by a function that answers the node above
module _ (E : Type 0) {F : Type 0} (g : Mut F (TreeNode × (Bor (List ℕ) × Unit {0})) (Option TreeNode)) (f : F) (root : List ℕ)
    (above : (t : TreeNode) (x : Bor (List ℕ)) (r : Option TreeNode) (q : F) → Called g f (t, (x, tt)) r q → (q ≡ f) × (r ≡ node_above t x.now)) where
  abbrev goes_on : Option TreeNode → ControlFlow E TreeNode → Type 0
  goes_on r c = r ≡ continue_value c

  -- the nodes reached so far answer alike
  climbed : (xs : List (Bor (List ℕ))) (rest : List (List ℕ)) (p q : F × TreeNode) → p.0 ≡ f → FoldsTo {P = F × TreeNode} (TryFoldTurn g goes_on) p xs q
      → (leads root (map (λ (x : Bor (List ℕ)). x.now) xs ++ rest) p.1 ≡ leads root rest q.1) × (q.0 ≡ f)
  climbed [] rest p q e h = (ap (λ z. leads root rest z.1) h, ap (λ z. z.0) (sym h) ∙ e)
  climbed (x ∷ xs) rest p q e h =
      let up = above p.1 x h.1.0 h.0.0 (subst (λ (w : F). Called g w (p.1, (x, tt)) h.1.0 h.0.0) e h.1.1) in
      let more = climbed xs rest h.0 q up.0 h.2 in
      (above_leads root (map (λ (x : Bor (List ℕ)). x.now) xs ++ rest) (eqb (p.1.positions % 2) 0) _ h.0.1 (sym up.1 ∙ h.1.2) ∙ more.0, more.1)

  module _ {S : Type 0} {steps : S → Option (Bor (List ℕ)) → S → Type 0} {s : S} {path : List (List ℕ)} (leaf : TreeNode) (r : Option TreeNode) (u : S) (all : YieldsList steps (λ (x : Bor (List ℕ)). x.now) s path) where
    -- what the steps led to, where the path ended or the climb broke off
    ended : (xs : List (Bor (List ℕ))) (o : Option (Bor (List ℕ))) (q : F) (a : TreeNode) → YieldsThen steps s xs o u → FoldsTo {P = F × TreeNode} (TryFoldTurn g goes_on) (f, leaf) xs (q, a)
        → MatchOption o (goes_on r (Continue a)) (λ x. (v : Option TreeNode) × (h : F) × (e : E) × Called g q (a, (x, tt)) v h × goes_on v (Break e) × (r ≡ None))
        → leads root path leaf ≡ reaches root r
    ended xs None q a y h m =
        ap (λ l. leads root l leaf) (sym (YieldsList-end all xs y.0 y.1 None u refl y.2).0 ∙ sym (append-nil (map (λ (x : Bor (List ℕ)). x.now) xs)))
        ∙ (climbed xs [] (f, leaf) (q, a) refl h).0
        ∙ ap (reaches root) (sym m)
    ended xs (Some x) q a y h m =
        let k = length xs in
        let turn = YieldsList-turn all xs y.0 y.1 (Some x) u x refl y.2 in
        let split : path ≡ map (λ (x : Bor (List ℕ)). x.now) xs ++ (x.now ∷ drop (suc k) path) =
        sym (take-append-drop k path)
        ∙ ap (λ l. l ++ drop k path) (sym (YieldsList-so_far all xs y.0 y.1))
        ∙ ap (λ l. map (λ (x : Bor (List ℕ)). x.now) xs ++ l) (drop-cons path k x.now turn.0 ∙ ap (λ z. z ∷ drop (suc k) path) (sym turn.1))
        in
        let kept = climbed xs (x.now ∷ drop (suc k) path) (f, leaf) (q, a) refl h in
        let none = (above a x m.0 m.1 (subst (λ (w : F). Called g w (a, (x, tt)) m.0 m.1) kept.1 m.3)).1 in
        ap (λ l. leads root l leaf) split
        ∙ kept.0
        ∙ none_leads root (drop (suc k) path) (eqb (a.positions % 2) 0) _ (sym none ∙ m.4)
        ∙ ap (reaches root) (sym m.5)

    pub climb_tried : TryFoldsItems steps g goes_on (λ _ r. r ≡ None) s f leaf r u → leads root path leaf ≡ reaches root r
    climb_tried d = ended d.0 d.1 d.2 d.3 d.4 d.5 d.6
