-- The files of a host in memory.
use Rattle.std.specs.Prelude.{◌≡◌, ℕ, ◌+◌, ◌-◌, ◌≤◌, Bool, true, false, ◌==◌, List, [], ◌++◌, length, take, unwrap_or, Option, Some, None, IsSome, if◌then◌else◌}
use Rattle.std.specs.List.{list_any}
use Rattle.std.specs.Option.{option_map, option_or}
use Rattle.std.specs.Str.{bytes_eq}
use Rattle.cm_io.specs.Fault.{next_count, put_faults}
use Rattle.cm_io.specs.Host.{Files}
use Rattle.cm_io.specs.declared.sink.Put.{Put}
use Rattle.cm_io.specs.declared.sink.Put.TheVariants.{Done, Failed}
use Rattle.cm_io.specs.declared.mem_host.TheConstants.{FILE_NAME_LIMIT}
use Rattle.cm_io.specs.declared.mem_host.Stage.{Stage}
use Rattle.cm_io.specs.declared.mem_host.Stage.TheVariants.{Absent, Open, Closed}

-- one input, one output, and the numbers of the calls that fail
pub record HostState : Type 0 where
  pub input_name : List ℕ
  pub input : Option (List ℕ)
  pub output_name : List ℕ
  pub output : Option (List ℕ)
  pub room : ℕ
  pub is_open : Bool
  pub calls : ℕ
  pub loads : ℕ
  pub creates : ℕ
  pub fails : List ℕ
  pub faults : ℕ

-- what a name has, where one file is there
abbrev pub file_at : List ℕ → Option (List ℕ) → Files
file_at own content name = if bytes_eq name own then content else None

-- what each name has: the output, and else the input
abbrev pub files_of : HostState → Files
files_of host name =
    option_or (file_at host.output_name host.output name) (file_at host.input_name host.input name)

-- the content of the output, once it was created
abbrev pub output_at : Stage → List ℕ → Option (List ℕ)
output_at Absent bytes = None
output_at Open bytes = Some bytes
output_at Closed bytes = Some bytes

-- whether the output is open
abbrev pub is_open_at : Stage → Bool
is_open_at Absent = false
is_open_at Open = true
is_open_at Closed = false

-- whether the call with this number is to fail
abbrev pub is_listed : List ℕ → ℕ → Bool
is_listed fails call = list_any (λ n. n == call) fails

-- the stage once the output is closed, if it was open
abbrev pub closed_at : Stage → Stage
closed_at Absent = Absent
closed_at Open = Closed
closed_at Closed = Closed

-- the call is not to fail, no other output is there, and the name is not too long
abbrev pub CanCreate : HostState → List ℕ → Type 0
CanCreate host name =
    (is_listed host.fails host.calls ≡ false) × (IsSome host.output → host.output_name ≡ name)
    × (length name ≤ FILE_NAME_LIMIT)

-- the call is not to fail, and the bytes fit
abbrev pub CanWrite : HostState → List ℕ → Type 0
CanWrite host bytes =
    (is_listed host.fails host.calls ≡ false)
    × (length (unwrap_or host.output []) + length bytes ≤ host.room)

-- what a load leaves: the numbers of calls and of faults
abbrev pub after_load : HostState → HostState
after_load host = record host {
  calls = next_count host.calls;
  loads = next_count host.loads;
  faults = if is_listed host.fails host.calls then next_count host.faults else host.faults;
}

-- what a create leaves: the output, empty and open; where it fails, none is open, and the files are as before
abbrev pub after_create : HostState → List ℕ → Put → HostState
after_create host name Done = record host {
  output_name = name;
  output = Some [];
  is_open = true;
  calls = next_count host.calls;
  creates = next_count host.creates;
}
after_create host name Failed = record host {
  is_open = false;
  calls = next_count host.calls;
  creates = next_count host.creates;
  faults = next_count host.faults;
}

-- how much of the bytes a write appends to these: what fits, or nothing where the call is to fail
abbrev pub part_written : HostState → List ℕ → List ℕ → List ℕ
part_written host content bytes =
    if is_listed host.fails host.calls then [] else take (host.room - length content) bytes

-- what a write leaves
abbrev pub after_write : HostState → List ℕ → Put → HostState
after_write host bytes put = record host {
  output = option_map (λ content. content ++ part_written host content bytes) host.output;
  calls = next_count host.calls;
  faults = put_faults host.faults put;
}

-- what a close leaves: the files as they are, none of them open
abbrev pub after_close : HostState → Put → HostState
after_close host put = record host {
  is_open = false;
  calls = next_count host.calls;
  faults = put_faults host.faults put;
}
