-- When a count of faults says that nothing failed.
use Rattle.std.specs.Prelude.{◌≡◌, ◌<◌, ℕ, ◌-◌, ◌^◌}

-- the count did not rise, and is not at its last value
abbrev pub IsQuiet : ℕ → ℕ → Type 0
IsQuiet before now = (now ≡ before) × (before < 2 ^ 64 - 1)
