-- Where a phase's queries are made.
use Rattle.std.specs.Prelude.{◌≡◌, ℕ, ◌^◌, ◌<◌, ◌≤◌, min, unwrap_or}
use Rattle.configuration.specs.Numbers.{Numbers}
use Rattle.configuration.specs.Phases.{log_positions_of, draws}
use Rattle.transcript.specs.Shape.{difficulty, last_phase}
use Rattle.transcript.specs.declared.query.QuerySite.{QuerySite}

-- The phase that a round's number names: one at or past the last names the final phase.
abbrev pub phase_of : Numbers → ℕ → ℕ
phase_of N i = min i (last_phase N)

-- How many indices are drawn at a site: 0 where every position opens.
abbrev pub draws_of : QuerySite → ℕ
draws_of s = unwrap_or s.draws 0

-- The site of a round: its difficulty, the width of an index and the draws, of which there are fewer than positions; and how large the
-- difficulty can be. How large the others can be is said by the site itself.
pub record Site (N : Numbers) (i : ℕ) (s : QuerySite) : Type 0 where
  pub hard : s.pow_bits ≡ difficulty N (phase_of N i)
  pub wide : s.index_bits ≡ log_positions_of N N.stored (phase_of N i)
  pub drawn : draws_of s ≡ draws N N.stored (phase_of N i)
  pub light : s.pow_bits ≤ 30
  pub few : draws_of s < 2 ^ s.index_bits
