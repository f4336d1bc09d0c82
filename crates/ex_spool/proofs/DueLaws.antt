-- [due-entry] The pages of the entries that are due.
use Rattle.std.proofs.Common.{◌≡◌, ℕ, Bool, true, false, List, [], ◌∷◌, ◌++◌, filter, refl, ap, ◌∙◌}
use Rattle.std.specs.List.{flat_map}
use Rattle.ex_store.specs.State.{State}
use Rattle.ex_store.specs.declared.queue.QueueEntry.{QueueEntry}
use Rattle.ex_spool.specs.Spool.{due_text, is_due, pages, pages_of}

-- entry by entry they are those of the entries that are due
each_due : (moment : ℕ) (state : State) (queue : List QueueEntry)
    → flat_map (due_text moment state) queue ≡ flat_map (pages_of state) (filter (is_due moment) queue)
unfolding due_text
each_due moment state [] = refl
each_due moment state (entry ∷ queue) = by (is_due moment entry) refl (each_due moment state queue)
  where
    by : (test : Bool) → is_due moment entry ≡ test
        → flat_map (due_text moment state) queue ≡ flat_map (pages_of state) (filter (is_due moment) queue)
        → flat_map (due_text moment state) (entry ∷ queue) ≡ flat_map (pages_of state) (filter (is_due moment) (entry ∷ queue))
    by true is more = rw is (ap (λ (it : List ℕ). pages_of state entry ++ it) more)
    by false is more = rw is more

pub pages_are : (moment : ℕ) (state : State) (queue : List QueueEntry) → queue ≡ state.queue
    → flat_map (due_text moment state) queue ≡ pages moment state
unfolding pages
pages_are moment state queue is =
    ap (λ (it : List QueueEntry). flat_map (due_text moment state) it) is ∙ each_due moment state state.queue
