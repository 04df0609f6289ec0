-- How often the clocks of a zone show a wall clock, which is a second at which clocks in UTC show it.
use Rattle.std.specs.Prelude.{◌≡◌, ◌⊎◌, ℕ, ◌+◌, ℤ, ◌+ℤ◌, ◌≤ℤ◌, ◌<ℤ◌}
use Rattle.log_zones.specs.declared.showings.Showing.{Showing}
use Rattle.log_zones.specs.declared.showings.Showing.TheVariants.{Once, Twice, Never}
use Rattle.zones.specs.Zones.{ZoneParts, ZoneShows, HasTransition, zone_second, zone_offset}

-- the clocks jump past the wall clock at a transition: from the first of two wall clocks, which is not later, to the second one
pub record IsJump (z : ZoneParts) (local start end : ℤ) (k : ℕ) : Type 0 where
  pub has : HasTransition z k
  pub from : start ≡ zone_second z k +ℤ zone_offset z k
  pub to : end ≡ zone_second z k +ℤ zone_offset z (k + 1)
  pub begun : start ≤ℤ local
  pub not_over : local <ℤ end

-- the clocks show the wall clock at one second alone, at two seconds alone, or never, since they jump past it
abbrev pub IsShowing : ZoneParts → ℤ → Showing → Type 0
IsShowing z local Once = (t : ℤ) × ZoneShows z local t × ((u : ℤ) → ZoneShows z local u → u ≡ t)
IsShowing z local Twice =
    (t : ℤ) × (u : ℤ) × (t <ℤ u) × ZoneShows z local t × ZoneShows z local u × ((v : ℤ) → ZoneShows z local v → (v ≡ t) ⊎ (v ≡ u))
IsShowing z local (Never start end) = ((v : ℤ) → ZoneShows z local v → ⊥) × ((k : ℕ) × IsJump z local start end k)
