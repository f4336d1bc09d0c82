-- Files are queued for printing.
use Rattle.std.specs.Prelude.{ℕ, ◌+◌, nat_lt, if◌then◌else◌, List, length, map, unwrap_or, Result, Ok, Err}
use Rattle.cm_fields.specs.declared.code.Code.{Code}
use Rattle.cm_fields.specs.declared.code.Code.TheVariants.{QueueLimit}
use Rattle.ex_store.specs.declared.key.NamePair.{NamePair}
use Rattle.ex_store.specs.declared.limits.TheConstants.{QUEUE_LIMIT}
use Rattle.ex_store.specs.declared.print.Request.{Request}
use Rattle.ex_store.specs.declared.queue.QueueEntry.{QueueEntry}
use Rattle.ex_store.specs.declared.row.Row.{Row}
use Rattle.ex_store.specs.Adding.{and_then}
use Rattle.ex_store.specs.Rows.{full_of}

-- the entry of a file; the job has the file's name where none is given
abbrev pub entry_for : Request → Row → QueueEntry
entry_for request row =
    record {
      file = full_of row;
      copies = request.copies;
      form = request.form;
      after = request.after;
      job = unwrap_or request.job row.key.name;
      note = request.note;
    }

-- so many entries more, after so many of the queue: or the limit that is passed
abbrev pub limit_check : ℕ → ℕ → Result Unit Code
limit_check queue more = if nat_lt QUEUE_LIMIT (queue + more) then Err QueueLimit else Ok tt

-- one entry for each file, in their order, where they all fit after those of the queue
abbrev pub entries_for : Request → List Row → List QueueEntry → Result (List QueueEntry) Code
entries_for request rows queue =
    and_then (λ _. Ok (map (entry_for request) rows)) (limit_check (length queue) (length rows))

-- each file is its own source
abbrev pub own_pairs : List Row → List NamePair
own_pairs rows = map (λ row. record { source = full_of row; target = full_of row }) rows
