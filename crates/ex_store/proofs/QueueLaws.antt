-- The print queue without one of its entries.
use Rattle.std.proofs.Common.{ℕ, ◌<◌, length, arith}
use Rattle.std.specs.List.{remove}
use Rattle.std.proofs.lemmas.List.Edits.{length-remove}
use Rattle.cm_lists.proofs.Quantifiers.{all_remove}
use Rattle.ex_store.specs.State.{State}
use Rattle.ex_store.specs.WellFormed.{IsWellFormed, is_entry_among}

-- the state is well formed
pub unqueued_well_formed : (state : State) (i : ℕ) → i < length state.queue → IsWellFormed state
    → IsWellFormed (record state { queue = remove state.queue i })
unqueued_well_formed state i within well = record {
  draft = record {
    directories_ascend = well.draft.directories_ascend;
    directories_within = well.draft.directories_within;
    few_directories = well.draft.few_directories;
    logical_ascend = well.draft.logical_ascend;
    logical_within = well.draft.logical_within;
    few_logical = well.draft.few_logical;
    rows = well.draft.rows;
    queue_within = all_remove (is_entry_among state.directories) state.queue i well.draft.queue_within;
    few_entries = omega (arith, length-remove state.queue i within, well.draft.few_entries);
  };
  connected_there = well.connected_there;
}
