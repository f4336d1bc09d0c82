-- What a store tells of its parts, as texts that are lent.
use Rattle.ex_store.specs.declared.directory.Definition.{Definition}
use Rattle.ex_store.specs.declared.directory.DefinitionView.{DefinitionView}
use Rattle.ex_store.specs.declared.directory.Directory.{Directory}
use Rattle.ex_store.specs.declared.directory.DirectoryView.{DirectoryView}
use Rattle.ex_store.specs.declared.key.Full.{Full}
use Rattle.ex_store.specs.declared.key.FullName.{FullName}
use Rattle.ex_store.specs.declared.key.NamePair.{NamePair}
use Rattle.ex_store.specs.declared.key.Pair.{Pair}
use Rattle.ex_store.specs.declared.queue.QueueEntry.{QueueEntry}
use Rattle.ex_store.specs.declared.queue.Queued.{Queued}
use Rattle.ex_store.specs.declared.row.Row.{Row}
use Rattle.ex_store.specs.declared.row.RowView.{RowView}

abbrev pub full_name : Full → FullName
full_name full =
    record {
      key = record { directory = full.directory.now; name = full.name.now; kind = full.kind.now };
      generation = full.generation;
    }

abbrev pub name_pair : Pair → NamePair
name_pair pair = record { source = full_name pair.source; target = full_name pair.target }

abbrev pub queue_entry : Queued → QueueEntry
queue_entry queued =
    record {
      file = record {
        key = record { directory = queued.directory.now; name = queued.name.now; kind = queued.kind.now };
        generation = queued.generation;
      };
      copies = queued.copies;
      form = queued.form;
      after = queued.after;
      job = queued.job.now;
      note = queued.note.now;
    }

abbrev pub directory_of_view : DirectoryView → Directory
directory_of_view view = record { name = view.name.now; retention = view.retention }

abbrev pub definition_of_view : DefinitionView → Definition
definition_of_view view = record { name = view.name.now; directory = view.directory.now }

abbrev pub row_of_view : RowView → Row
row_of_view view =
    record {
      key = record { directory = view.directory.now; name = view.name.now; kind = view.kind.now };
      file = view.file.now;
    }
