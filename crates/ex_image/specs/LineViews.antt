-- What a line says, as the code has it.
use Rattle.std.specs.Prelude.{ℕ, List, pos}
use Rattle.std.specs.Option.{option_map}
use Rattle.ex_store.specs.declared.key.FullName as names
use Rattle.ex_store.specs.declared.queue.QueueEntry.{QueueEntry}
use Rattle.ex_store.specs.declared.row.Row.{Row}
use Rattle.ex_image.specs.declared.entry.FileEntry.{FileEntry}
use Rattle.ex_image.specs.declared.entry.FileName.{FileName}
use Rattle.ex_image.specs.declared.entry.RequestEntry.{RequestEntry}
use Rattle.ex_image.specs.declared.entry.Entry as entries
use Rattle.ex_image.specs.declared.entry.Stamp as stamps
use Rattle.ex_image.specs.declared.entry.Entry.TheVariants as entry
use Rattle.ex_image.specs.declared.reading.Next.{Next}
use Rattle.ex_image.specs.Lines.{row_of}
use Rattle.ex_image.specs.Record.{Entry, Head, Directory, Connected, Logical, File, Request, End, Stamp}

abbrev pub name_said : FileName → names.FullName
name_said file =
    record {
      key = record { directory = file.directory.now; name = file.name.now; kind = file.kind.now };
      generation = file.generation;
    }

abbrev pub stamp_said : stamps.Stamp → Stamp
stamp_said stamp = record { keep = stamp.keep; moment = stamp.moment; read = stamp.read }

abbrev pub row_said : FileEntry → Row
row_said it = row_of (name_said it.file) it.deleted (stamp_said it.stamp)

abbrev pub request_said : RequestEntry → QueueEntry
request_said it =
    record {
      file = name_said it.file;
      copies = it.copies;
      form = it.form;
      after = option_map pos it.after;
      job = it.job.now;
      note = it.note.now;
    }

abbrev pub entry_said : entries.Entry → Entry
entry_said (entry.Head version) = Head version
entry_said (entry.Directory name retention) = Directory name.now retention
entry_said (entry.Connected name) = Connected name.now
entry_said (entry.Logical name directory) = Logical name.now directory.now
entry_said (entry.File it) = File it.version (row_said it) it.size
entry_said (entry.Request it) = Request (request_said it)
entry_said entry.End = End

-- a record that was read, and what follows it
abbrev pub next_said : Next → (Entry × List ℕ) × List ℕ
next_said next = ((entry_said next.entry, next.content.now), next.after.now)
