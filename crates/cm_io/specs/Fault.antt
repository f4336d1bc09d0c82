-- Counts of what an object was asked and of its faults, which never fall, and what an answer says of the faults.
use Rattle.std.specs.Prelude.{◌≡◌, ℕ, ◌+◌, ◌-◌, ◌^◌, ◌≤◌, min}
use Rattle.cm_io.specs.declared.sink.Put.{Put}
use Rattle.cm_io.specs.declared.sink.Put.TheVariants.{Done, Failed}

-- the last value of a count, which has 64 bits
abbrev pub last_count : ℕ
last_count = 2 ^ 64 - 1

-- a count after one more; it stays at its last value
abbrev pub next_count : ℕ → ℕ
next_count count = min (count + 1) last_count

-- the count is higher now, or is at its last value
unfoldable pub Rose : ℕ → ℕ → Type 0
Rose before now = next_count before ≤ now

-- the faults after a call that went so, of an object that counts each of them once
abbrev pub put_faults : ℕ → Put → ℕ
put_faults before Done = before
put_faults before Failed = next_count before

-- Failed comes only where the count rose, and Done only where it stayed
abbrev pub PutCause : ℕ → ℕ → Put → Type 0
PutCause before now Done = now ≡ before
PutCause before now Failed = Rose before now
