-- Each part of a store is as a store has it.
use Rattle.std.proofs.Common.{◌≡◌, true, nat_lt, List, [], ◌∷◌, refl, subst, sym}
use Rattle.std.proofs.lemmas.Bool.{and_from}
use Rattle.std.specs.List.{list_all}
use Rattle.cm_lists.proofs.Bools.{and_first, and_second}
use Rattle.ex_store.specs.declared.directory.Directory.{Directory}
use Rattle.ex_store.specs.declared.limits.TheConstants.{FORMS}
use Rattle.ex_store.specs.declared.queue.QueueEntry.{QueueEntry}
use Rattle.ex_store.specs.State.{State}
use Rattle.ex_store.specs.WellFormed.{IsWellFormed, is_entry_among}

form_of : (directories : List Directory) (entry : QueueEntry) → is_entry_among directories entry ≡ true
    → nat_lt entry.form FORMS ≡ true
form_of directories entry within = search (and_first, and_second) depth 14

-- the entries of a print queue are for forms that there are
forms_there : (directories : List Directory) (queue : List QueueEntry)
    → list_all (is_entry_among directories) queue ≡ true → list_all (λ entry. nat_lt entry.form FORMS) queue ≡ true
forms_there directories [] within = refl
forms_there directories (entry ∷ more) within =
    and_from _ _ (form_of directories entry (and_first _ _ within)) (forms_there directories more (and_second _ _ within))

-- [image-written] and so are those of a state
pub forms_of_state : (parts state : State) → parts ≡ state → IsWellFormed state
    → list_all (λ entry. nat_lt entry.form FORMS) parts.queue ≡ true
forms_of_state parts state is formed =
    subst (λ (state : State). list_all (λ entry. nat_lt entry.form FORMS) state.queue ≡ true) (sym is)
    (forms_there state.directories state.queue formed.draft.queue_within)
