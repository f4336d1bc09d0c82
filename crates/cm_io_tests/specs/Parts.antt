-- A sink of which one put fails.
use Rattle.std.specs.Prelude.{ℕ, ◌+◌, ◌-◌, ◌==◌, min, Bool, false, if◌then◌else◌, List, length, take, slice_get, Option, Some, None, unwrap_or}
use Rattle.std.specs.Option.{option_map}
use Rattle.cm_io_tests.specs.declared.part_sink.Part.{Part}
use Rattle.cm_io_tests.specs.declared.part_sink.Part.TheVariants.{Nothing, First, AllButLast}

-- its bytes and the room for them; how many bytes stood before each put; the put that fails, and how much that takes
pub record PartState : Type 0 where
  pub bytes : List ℕ
  pub room : ℕ
  pub starts : List ℕ
  pub failing : Option ℕ
  pub part : Part
  pub faults : ℕ

-- how many of so many bytes a part is: never all of them
abbrev pub size_of : Part → ℕ → ℕ
size_of Nothing size = 0
size_of First size = min 1 (size - 1)
size_of AllButLast size = size - 1

-- whether the put with this number fails
abbrev pub is_fault : Option ℕ → ℕ → Bool
is_fault None number = false
is_fault (Some put) number = put == number

-- what the next put takes of its bytes: the part where it is the one that fails, and no more than there is room for
unfoldable pub part_of : PartState → List ℕ → List ℕ
part_of sink bytes =
    let size = if is_fault sink.failing (length sink.starts) then size_of sink.part (length bytes) else length bytes in
    take (sink.room - length sink.bytes) (take size bytes)

-- where a put ends: where the next begins, or where the bytes end
unfoldable pub end_of : PartState → ℕ → ℕ
end_of sink put = unwrap_or (slice_get sink.starts (put + 1)) (length sink.bytes)

-- how many bytes stand where this put takes a part alone
unfoldable pub held_after : PartState → ℕ → Part → Option ℕ
held_after sink put part =
    option_map (λ start. start + size_of part (end_of sink put - start)) (slice_get sink.starts put)
