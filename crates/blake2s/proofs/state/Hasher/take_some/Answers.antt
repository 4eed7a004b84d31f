use Rattle.std.proofs.Common.{◌≡◌, suc, ◌<◌, ◌≤◌, ◌≢◌, length, arith, lit<}
use Rattle.std.proofs.lemmas.Bool.Decides.{nat_tests}
use Rattle.blake2s.proofs.Steps.{pressed_bytes, filled}
use Rattle.blake2s.proofs.state.Hasher.take_some.Goals as goal

pub returns-in-Some : goal.returns-in-Some
returns-in-Some c =
    let cut = c.in-Some.ensures.cases in
    let long : 64 ≤ length c.args.rest.now = omega arith in
    let some : length c.in-Some.more.now ≢ 0 = grind (arith, nat_tests) in
    let none : c.args.self.now.filled ≡ 0 = grind (arith, nat_tests) in
    record {
      some = lit< tt;
      within = long;
      held = λ e. absurd (some (omega arith));
      keeps =
          λ xs n before. (
            suc n,
            pressed_bytes c.args.self.now c.press.new.self c.in-Some.block.now c.args.rest.now none cut.0 long c.press.ensures xs n before,
          );
    }

pub returns-in_default : goal.returns-in_default
returns-in_default c =
    let e = c.fill.ensures in
    let some : 0 < c.fill.result = omega (arith, e.taken, c.requires) in
    let within : c.fill.result ≤ length c.args.rest.now = omega (arith, e.taken) in
    record {
      some = some;
      within = within;
      held = λ _. omega (arith, e.filled, some);
      keeps =
          λ xs n cut. (
            n,
            filled c.args.self.now c.fill.new.self c.args.rest.now c.fill.result within e.filled e.waits e.state e.counted xs n cut,
          );
    }
