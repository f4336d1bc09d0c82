-- [printed-entry] The queue, from its end on, without the entries that are due.
-- The queue is emptied from its end: of take i queue ++ filter keep (drop i queue) the entry before place i is taken
-- out or kept (kept_turn).
use Rattle.std.proofs.Common.{◌≡◌, ℕ, suc, ◌+◌, ◌≤◌, Bool, true, false, not, List, [], ◌∷◌, ◌++◌, length, take, drop, get_or, filter, None, refl, sym, ap, ap₂, ◌∙◌, arith, append_assoc, if◌then◌else◌}
use Rattle.std.specs.List.{remove}
use Rattle.std.proofs.Math.Seq.{drop-cons, drop-length}
use Rattle.std.proofs.lemmas.List.{append-nil, get_or_append_left, get_or-take, length-take-le, take-take, take_more}
use Rattle.std.proofs.lemmas.List.Edits.{remove-append_left}
use Rattle.ex_store.specs.declared.queue.QueueEntry.{QueueEntry}
use Rattle.ex_spool.specs.Spool.{is_due}

-- an entry of no file, for a place where there is none
pub no_entry : QueueEntry
no_entry = record {
  file = record { key = record { directory = []; name = []; kind = [] }; generation = 0 };
  copies = 0;
  form = 0;
  after = None;
  job = [];
  note = [];
}

-- the queue whose entries from a place on are only those that are not due
abbrev pub kept_from : ℕ → List QueueEntry → ℕ → List QueueEntry
kept_from moment queue i = take i queue ++ filter (λ entry. not (is_due moment entry)) (drop i queue)

-- one place further down it is without the entry there, if that is due
module _ (moment : ℕ) (queue : List QueueEntry) (n i : ℕ) (d : QueueEntry) (next : n + 1 ≡ i) (within : i ≤ length queue) where
  abbrev kept : List QueueEntry
  kept = filter (λ entry. not (is_due moment entry)) (drop i queue)

  abbrev here : QueueEntry
  here = get_or queue n d

  size : length (take i queue) ≡ i
  size = length-take-le i queue within

  same : get_or (kept_from moment queue i) n d ≡ here
  same = get_or_append_left (take i queue) kept d n (omega (arith, size, next)) ∙ get_or-take i queue n d (omega (arith, next))

  rest : drop n queue ≡ here ∷ drop i queue
  rest =
      let at : suc n ≡ i = omega (arith, next) in
      drop-cons queue n d (omega (arith, next, within)) ∙ ap (λ (k : ℕ). here ∷ drop k queue) at

  without_last : remove (kept_from moment queue i) n ≡ take n queue ++ kept
  without_last =
      let end : suc n ≡ length (take i queue) = omega (arith, next, size) in
      remove-append_left (take i queue) kept n (omega (arith, size, next))
      ∙ ap (λ (first : List QueueEntry). first ++ kept)
      (ap₂ (λ (first last : List QueueEntry). first ++ last) (take-take n i queue (omega (arith, next)))
      (ap (λ (k : ℕ). drop k (take i queue)) end ∙ drop-length (take i queue))
      ∙ append-nil (take n queue))

  with_last : kept_from moment queue i ≡ take n queue ++ here ∷ kept
  with_last =
      ap (λ (first : List QueueEntry). first ++ kept)
      (ap (λ (k : ℕ). take k queue) (sym next) ∙ take_more queue n d (omega (arith, next, within)))
      ∙ append_assoc (take n queue) (here ∷ []) kept

  pub kept_turn : (if is_due moment (get_or (kept_from moment queue i) n d) then remove (kept_from moment queue i) n
      else kept_from moment queue i) ≡ kept_from moment queue n
  kept_turn = by (is_due moment here) refl
    where
      by : (test : Bool) → is_due moment here ≡ test
          → (if is_due moment (get_or (kept_from moment queue i) n d) then remove (kept_from moment queue i) n
          else kept_from moment queue i) ≡ kept_from moment queue n
      by true is = rw (same, is, rest) (rw is without_last)
      by false is = rw (same, is, rest) (rw is with_last)
