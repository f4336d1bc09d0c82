-- What becomes of an entry of the queue.
use Rattle.std.proofs.Common.{◌≡◌, ◌⊎◌, ℕ, Bool, true, false, not, List, [], ◌∷◌, ◌++◌, filter, refl, sym, ap, ◌∙◌, inl, inr, append_assoc}
use Rattle.std.specs.List.{flat_map}
use Rattle.std.proofs.lemmas.Grind.{flat_map-append}
use Rattle.cm_lists.proofs.Filters.{filter_stands}
use Rattle.cm_io.specs.Contents.{Contents, add}
use Rattle.cm_io.specs.declared.status.Status.{Status}
use Rattle.ex_store.specs.State.{State}
use Rattle.ex_store.specs.declared.queue.QueueEntry.{QueueEntry}
use Rattle.ex_system.specs.Disk.{Disk}
use Rattle.ex_spool.specs.Among.{StandsIn, WasShown}
use Rattle.ex_spool.specs.Spool.{is_due, pages, pages_of, without_due}
use Rattle.ex_spool.specs.RunEnd.{Printed}

-- the pages of an entry that is due are among those of all
pages_stand : (moment : ℕ) (state : State) (entry : QueueEntry) (front back : List QueueEntry) → state.queue ≡ front ++ entry ∷ back
    → is_due moment entry ≡ true
    → pages moment state
    ≡ (flat_map (pages_of state) (filter (is_due moment) front) ++ pages_of state entry)
    ++ flat_map (pages_of state) (filter (is_due moment) back)
unfolding pages
pages_stand moment state entry front back is due =
    ap (λ (queue : List QueueEntry). flat_map (pages_of state) (filter (is_due moment) queue)) is
    ∙ ap (flat_map (pages_of state)) (filter_stands (is_due moment) front back entry due)
    ∙ flat_map-append (pages_of state) (filter (is_due moment) front) (entry ∷ filter (is_due moment) back)
    ∙ sym (append_assoc (flat_map (pages_of state) (filter (is_due moment) front)) (pages_of state entry)
    (flat_map (pages_of state) (filter (is_due moment) back)))

-- so they were shown
was_shown : (moment : ℕ) (state : State) (entry : QueueEntry) (before now : Contents) (part : List ℕ) → StandsIn state.queue entry
    → is_due moment entry ≡ true → now ≡ add before (pages moment state ++ part) → WasShown before now (pages_of state entry)
was_shown moment state entry before now part stands due known =
    let first : List ℕ = flat_map (pages_of state) (filter (is_due moment) stands.front) in
    let last : List ℕ = flat_map (pages_of state) (filter (is_due moment) stands.back) in
    record {
      front = first;
      back = last ++ part;
      is = known
          ∙ ap (λ (it : List ℕ). add before (it ++ part)) (pages_stand moment state entry stands.front stands.back stands.is due)
          ∙ ap (λ (it : List ℕ). add before it) (append_assoc (first ++ pages_of state entry) last part);
    }

-- an entry that is not due stays
pub still_stands : (moment : ℕ) (state : State) (entry : QueueEntry) → StandsIn state.queue entry → is_due moment entry ≡ false
    → StandsIn (without_due moment state).queue entry
still_stands moment state entry stands due = record {
  front = filter (λ it. not (is_due moment it)) stands.front;
  back = filter (λ it. not (is_due moment it)) stands.back;
  is = ap (λ (queue : List QueueEntry). filter (λ it. not (is_due moment it)) queue) stands.is
      ∙ filter_stands (λ it. not (is_due moment it)) stands.front stands.back entry (ap (λ (test : Bool). not test) due);
}

pub leaves_shown : (start : State) (moment : ℕ) (out : List ℕ) (before now : Contents) (f g : ℕ) (loaded after : Disk) (result : Status)
    (entry : QueueEntry) → Printed start moment out before now f g loaded after result → StandsIn start.queue entry
    → (after ≡ loaded) ⊎ (StandsIn (without_due moment start).queue entry ⊎ WasShown before now (pages_of start entry))
leaves_shown start moment out before now f g loaded after result entry (inr cut) stands = inl cut.kept
leaves_shown start moment out before now f g loaded after result entry (inl saved) stands =
    inr (by (is_due moment entry) refl)
  where
    by : (test : Bool) → is_due moment entry ≡ test
        → StandsIn (without_due moment start).queue entry ⊎ WasShown before now (pages_of start entry)
    by true due = inr (was_shown moment start entry before now saved.shown.part stands due saved.shown.contents)
    by false due = inl (still_stands moment start entry stands due)

-- of the entries that are not due none is due, and all stay
none_due : (moment : ℕ) (queue : List QueueEntry) → filter (is_due moment) (filter (λ it. not (is_due moment it)) queue) ≡ []
none_due moment [] = refl
none_due moment (entry ∷ queue) = by (is_due moment entry) refl (none_due moment queue)
  where
    by : (test : Bool) → is_due moment entry ≡ test
        → filter (is_due moment) (filter (λ it. not (is_due moment it)) queue) ≡ []
        → filter (is_due moment) (filter (λ it. not (is_due moment it)) (entry ∷ queue)) ≡ []
    by true is more = rw is more
    by false is more = rw is (rw is more)

all_stay : (moment : ℕ) (queue : List QueueEntry)
    → filter (λ it. not (is_due moment it)) (filter (λ it. not (is_due moment it)) queue)
    ≡ filter (λ it. not (is_due moment it)) queue
all_stay moment [] = refl
all_stay moment (entry ∷ queue) = by (is_due moment entry) refl (all_stay moment queue)
  where
    by : (test : Bool) → is_due moment entry ≡ test
        → filter (λ it. not (is_due moment it)) (filter (λ it. not (is_due moment it)) queue)
        ≡ filter (λ it. not (is_due moment it)) queue
        → filter (λ it. not (is_due moment it)) (filter (λ it. not (is_due moment it)) (entry ∷ queue))
        ≡ filter (λ it. not (is_due moment it)) (entry ∷ queue)
    by true is more = rw is more
    by false is more = rw is (rw is (ap (λ (it : List QueueEntry). entry ∷ it) more))

-- so a second run shows nothing, and leaves the same
pub no_pages : (moment : ℕ) (state : State) → pages moment (without_due moment state) ≡ []
unfolding pages
no_pages moment state =
    ap (λ (queue : List QueueEntry). flat_map (pages_of (without_due moment state)) queue) (none_due moment state.queue)

pub same_left : (moment : ℕ) (state : State) → without_due moment (without_due moment state) ≡ without_due moment state
same_left moment state =
    ap (λ (queue : List QueueEntry). record state { queue = queue }) (all_stay moment state.queue)
