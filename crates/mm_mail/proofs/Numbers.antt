-- The number of a message that is sent is above all others.
use Rattle.std.proofs.Common.{◌≡◌, ℕ, ◌<◌, ◌≤◌, ◌&&◌, Bool, true, false, cond, filter, List, [], ◌∷◌, ◌++◌, refl, subst, arith}
use Rattle.std.specs.Str.{bytes_eq}
use Rattle.std.proofs.Math.Nat.{le-max_left, le-max_right}
use Rattle.std.proofs.lemmas.Bool.{and_parts}
use Rattle.ex_store.specs.declared.row.Row.{Row}
use Rattle.ex_store.specs.Rows.{is_in}
use Rattle.ex_store.specs.State.{State}
use Rattle.mm_mail.specs.Delivery.{number_for}
use Rattle.mm_mail.specs.Mailbox.{greatest_among, is_numbered_in, mail_type, number_if}
use Rattle.mm_mail.specs.MessageName.{is_message_name, name_number}
use Rattle.mm_mail.specs.declared.message.Message.{Message}

-- one of some rows that pass a test
number_below : (test : Row → Bool) (before after : List Row) (row : Row) → test row ≡ true
    → number_if row ≤ greatest_among (filter test (before ++ row ∷ after))
number_below test [] after row is = rw is (le-max_left (number_if row) (greatest_among (filter test after)))
number_below test (first ∷ before) after row is = by (test first) (number_below test before after row is)
  where
    by : (keeps : Bool) → number_if row ≤ greatest_among (filter test (before ++ row ∷ after))
        → number_if row ≤ greatest_among (cond keeps (first ∷ filter test (before ++ row ∷ after)) (filter test (before ++ row ∷ after)))
    by true later = let more = le-max_right (number_if first) (greatest_among (filter test (before ++ row ∷ after))) in omega arith
    by false later = later

-- the file of a message has its number
named : (directory : List ℕ) (row : Row) → is_numbered_in directory row ≡ true → number_if row ≡ name_number row.key.name
named directory row is =
    let both = and_parts (is_in directory row && is_message_name row.key.name) (bytes_eq row.key.kind mail_type) is in
    rw (and_parts (is_in directory row) (is_message_name row.key.name) both.0).1 refl

pub own_number : (message : Message) (state : State) (before after : List Row) (row : Row) → before ++ row ∷ after ≡ state.rows
    → is_numbered_in message.receiver row ≡ true → name_number row.key.name < number_for message state
own_number message state before after row among is =
    let below = number_below (is_numbered_in message.receiver) before after row is in
    let here : number_if row ≤ greatest_among (filter (is_numbered_in message.receiver) state.rows) =
    subst (λ (rows : List Row). number_if row ≤ greatest_among (filter (is_numbered_in message.receiver) rows)) among below in
    let same = named message.receiver row is in
    omega (arith, here, same)
