use Rattle.std.proofs.Common.{◌≡◌, ℕ, ◌^◌, ◌<◌, ◌≤◌, Bool, true, false, ◌&&◌, ltb, length, refl, sym, arith, pow_mono}
use Rattle.domain.specs.Domains.{inside}
use Rattle.domain.proofs.Inside.{inside_log, inside_index, not_refused}
use Rattle.domain.proofs.listed.ListedDomainWhirDomain.query_coordinate.Goals as goal

first_holds : (a b : Bool) → true ≡ (a && b) → a ≡ true
first_holds true b e = refl
first_holds false b e = sym e

-- an index inside is a place of the list
listed_index : (c log m index j n : ℕ) → n ≡ 2 ^ c → true ≡ (inside c log m index && ltb j m) → index < n
listed_index c log m index j n size e =
    let s = first_holds (inside c log m index) (ltb j m) e in
    let w : 2 ^ log ≤ 2 ^ c = pow_mono (inside_log c log m index s) in
    let k = inside_index c log m index s in
    omega arith

pub element-requires : goal.element-requires
element-requires g c =
    let d = c.args.self.now in
    listed_index d.log c.args.log_domain_size c.args.num_variables c.args.index c.args.j (length d.points.now) d.size (not_refused _ c.in_ok-require_coordinate.ensures)
