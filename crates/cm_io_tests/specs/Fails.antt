-- What fails in a run over a store.
use Rattle.std.specs.Prelude.{ℕ, Bool, List, [], ◌∷◌, nat_eq, ◌++◌, Option, Some, None, codes}
use Rattle.std.specs.List.{starts_with}
use Rattle.std.specs.Str.{bytes_eq}
use Rattle.cm_io_tests.specs.Parts.{PartState, held_after}
use Rattle.cm_io_tests.specs.declared.failing.Failing.{Failing}
use Rattle.cm_io_tests.specs.declared.part_sink.Part.{Part}
use Rattle.cm_io_tests.specs.declared.trace.Faults.{Faults}

-- the calls of the host that fail: one, or none
abbrev pub calls_that_fail : Option ℕ → List ℕ
calls_that_fail None = []
calls_that_fail (Some call) = call ∷ []

-- how many bytes a sink holds where this put takes a part alone, if there is the sink and a put that fails
abbrev pub fault_place : Option PartState → Option ℕ → Part → Option ℕ
fault_place None put part = None
fault_place (Some sink) None part = None
fault_place (Some sink) (Some put) part = held_after sink put part

-- where a trace is cut, by the sinks of the whole run
abbrev pub faults_at : Failing → PartState → Option PartState → Faults
faults_at failing screen log = record {
  gets = failing.get;
  screen = fault_place (Some screen) failing.screen failing.part;
  log = fault_place log failing.log failing.part;
}

unfoldable pub host_fault : List ℕ
host_fault = codes "?Host fault" ++ 13 ∷ 10 ∷ []

-- the message where IN could not be read, or a beginning of it where a put fails
abbrev pub is_host_fault : Option ℕ → List ℕ → Bool
is_host_fault None bytes = bytes_eq bytes host_fault
is_host_fault (Some put) bytes = starts_with nat_eq host_fault bytes
