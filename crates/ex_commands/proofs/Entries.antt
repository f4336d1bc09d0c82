-- What INFORMATION asks of what a store holds.
use Rattle.std.proofs.Common.{◌≡◌, true, nat_lt, List}
use Rattle.std.specs.List.{list_all}
use Rattle.std.proofs.lemmas.Bool.{and_from}
use Rattle.cm_lists.proofs.Bools.{and_first, and_second}
use Rattle.cm_lists.proofs.Quantifiers.{all_weaker}
use Rattle.ex_store.specs.declared.directory.Directory.{Directory}
use Rattle.ex_store.specs.declared.queue.QueueEntry.{QueueEntry}
use Rattle.ex_store.specs.declared.limits.TheConstants.{FORMS}
use Rattle.ex_store.specs.WellFormed.{is_day, is_entry_among}
use Rattle.ex_commands.specs.Commands.Information.{is_shown}

-- an entry of a store can be shown
entry_shown : (directories : List Directory) (entry : QueueEntry) → is_entry_among directories entry ≡ true → is_shown entry ≡ true
entry_shown directories entry is =
    and_from (nat_lt entry.form FORMS) (is_day entry.after)
    (and_second _ _ (and_first _ _ (and_first _ _ (and_first _ _ (and_first _ _ is)))))
    (and_second _ _ (and_first _ _ (and_first _ _ (and_first _ _ is))))

pub entries_shown : (directories : List Directory) (entries : List QueueEntry) → list_all (is_entry_among directories) entries ≡ true
    → list_all is_shown entries ≡ true
entries_shown directories entries all =
    all_weaker (is_entry_among directories) is_shown (entry_shown directories) entries all
