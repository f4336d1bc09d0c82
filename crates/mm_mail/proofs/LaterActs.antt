-- [message] A message that was sent is read after later acts that do not delete it.
use Rattle.std.proofs.Common.{◌≡◌, ◌≢◌, ◌⊎◌, inl, inr, ℕ, ◌≤◌, ◌==◌, nat_lt, not, Bool, true, false, cond, filter, if◌then◌else◌, List, [], ◌∷◌, ◌++◌, length, map, Result, Ok, Err, refl, ap, sym, subst, ◌∙◌, arith}
use Rattle.std.specs.Ordering.{is_eq, is_lt}
use Rattle.std.specs.declared.cmp.Ordering.{Ordering}
use Rattle.std.specs.declared.cmp.Ordering.TheVariants.{Less, Equal, Greater}
use Rattle.std.proofs.lemmas.Bool.{and_parts, eqb-true}
use Rattle.std.proofs.lemmas.Bool.Decides.{nat_tests}
use Rattle.std.proofs.lemmas.Map.Lookups.{exact_bytes}
use Rattle.cm_lists.proofs.Quantifiers.{none_passes}
use Rattle.cm_fields.specs.declared.code.Code.{Code}
use Rattle.cm_fields.specs.declared.code.Code.TheVariants.{MailFull}
use Rattle.cm_fields.specs.declared.value.Gen.TheVariants.{Next}
use Rattle.ex_store.specs.declared.key.NamePair.{NamePair}
use Rattle.ex_store.specs.declared.plan.Plan.TheVariants as plans
use Rattle.ex_store.specs.declared.row.Row.{Row}
use Rattle.ex_store.specs.Adding.{admitted}
use Rattle.ex_store.specs.Copying.{own_key}
use Rattle.ex_store.specs.Plan.{Planned, planned}
use Rattle.ex_store.specs.Ready.{done_on}
use Rattle.ex_store.specs.Rows.{added, by_row, inserted, is_in, is_of, with_mark}
use Rattle.ex_store.specs.State.{State}
use Rattle.ex_store.proofs.AdmittedLaws.{ok_same}
use Rattle.ex_store.proofs.KeptLaws.{none_of}
use Rattle.ex_store.proofs.WrittenLaws.{adds_one, write_ready, write_refused}
use Rattle.ex_commands.specs.Act.{plays_by, refuses}
use Rattle.mm_mail.specs.Delivery.{IsRead, at_receiver, number_for, sends, sends_as, sent_line}
use Rattle.mm_mail.specs.LaterAct.{AllSpare, MailAct, OfLine, OfMessage, Spares, state_after, state_left}
use Rattle.mm_mail.specs.Mailbox.{deletes, deletes_first, is_message_in, is_message_numbered, is_numbered_in, messages_numbered}
use Rattle.mm_mail.specs.MessageName.{name_number}
use Rattle.mm_mail.specs.Semantics.{act_of}
use Rattle.mm_mail.specs.declared.command.Command.TheVariants as commands
use Rattle.mm_mail.specs.declared.message.Message.{Message}
use Rattle.mm_mail.specs.declared.message_name.TheConstants.{MOST_MESSAGES}
use Rattle.mm_mail.proofs.Deliveries.{reads_stays}
use Rattle.mm_mail.proofs.Numbers.{own_number}
use Rattle.mm_mail.proofs.SentMessages.{added_alone, bytes_of, has_name, message_key, not_of, number_own, place_of, row_of, shows_alone}

equal_is : (o : Ordering) → is_eq o ≡ true → o ≡ Equal
equal_is Less is = absurd (cc)
equal_is Equal is = refl
equal_is Greater is = absurd (cc)

directory_is : (row : Row) (directory : List ℕ) → is_in directory row ≡ true → row.key.directory ≡ directory
directory_is row directory is = exact_bytes row.key.directory directory (equal_is _ is)

-- what is said of a row that has a number
record IsNumbered (receiver : List ℕ) (number : ℕ) (row : Row) : Type 0 where
  pub directory : row.key.directory ≡ receiver
  pub file : is_numbered_in receiver row ≡ true
  pub named : name_number row.key.name ≡ number
  pub unmarked : not row.file.deleted ≡ true

numbered_is : (receiver : List ℕ) (number : ℕ) (row : Row) → is_message_numbered receiver number row ≡ true
    → IsNumbered receiver number row
numbered_is receiver number row is =
    let last = and_parts (is_message_in receiver row) (name_number row.key.name == number) is in
    let unmarked = and_parts _ _ last.0 in
    let first = and_parts (is_numbered_in receiver row) _ unmarked.0 in
    let typed = and_parts _ _ first.0 in
    let inside = and_parts (is_in receiver row) _ typed.0 in
    record {
      directory = directory_is row receiver inside.0;
      file = first.0;
      named = eqb-true (name_number row.key.name) number last.1;
      unmarked = unmarked.1;
    }

-- a row that passes a test is one of the rows
record IsAmong (test : Row → Bool) (row : Row) (rows : List Row) : Type 0 where
  pub before : List Row
  pub after : List Row
  pub split : before ++ row ∷ after ≡ rows
  pub passes : test row ≡ true

among : (test : Row → Bool) (row : Row) (more rows : List Row) → filter test rows ≡ row ∷ more → IsAmong test row rows
among test row more [] is = absurd (cc)
among test row more (first ∷ rows) is = by (test first) refl is (among test row more rows)
  where
    by : (b : Bool) → test first ≡ b → cond b (first ∷ filter test rows) (filter test rows) ≡ row ∷ more
        → (filter test rows ≡ row ∷ more → IsAmong test row rows) → IsAmong test row (first ∷ rows)
    by true passes same later =
        let here : first ≡ row = cc in
        record {
          before = [];
          after = rows;
          split = ap (λ (it : Row). it ∷ rows) (sym here);
          passes = subst (λ (it : Row). test it ≡ true) here passes;
        }
    by false fails same later =
        let there = later same in
        record {
          before = first ∷ there.before;
          after = there.after;
          split = ap (λ (it : List Row). first ∷ it) there.split;
          passes = there.passes;
        }

-- DELETE: a row that another number names passes no more and no less
unmarked_fails : (receiver : List ℕ) (number : ℕ) (row : Row)
    → is_message_numbered receiver number (with_mark true row) ≡ false
unmarked_fails receiver number row = by (is_message_numbered receiver number (with_mark true row)) refl
  where
    by : (b : Bool) → is_message_numbered receiver number (with_mark true row) ≡ b → b ≡ false
    by true is = let wrong : false ≡ true = (numbered_is receiver number (with_mark true row) is).unmarked in absurd (cc)
    by false is = refl

apart_fails : (receiver directory : List ℕ) (number other : ℕ) (row : Row) → (other ≢ number) ⊎ (directory ≢ receiver)
    → is_message_numbered directory other row ≡ true → is_message_numbered receiver number row ≡ false
apart_fails receiver directory number other row apart is = by (is_message_numbered receiver number row) refl apart
  where
    here : IsNumbered directory other row
    here = numbered_is directory other row is

    by : (b : Bool) → is_message_numbered receiver number row ≡ b → (other ≢ number) ⊎ (directory ≢ receiver) → b ≡ false
    by true passes (inl differ) = absurd (differ (sym here.named ∙ (numbered_is receiver number row passes).named))
    by true passes (inr differ) = absurd (differ (sym here.directory ∙ (numbered_is receiver number row passes).directory))
    by false passes differ = refl

abbrev marked_if : (Row → Bool) → Row → Row
marked_if test row = if test row then with_mark true row else row

deleted_kept : (receiver directory : List ℕ) (number other : ℕ) (rows : List Row) → (other ≢ number) ⊎ (directory ≢ receiver)
    → filter (is_message_numbered receiver number) (map (marked_if (is_message_numbered directory other)) rows)
    ≡ filter (is_message_numbered receiver number) rows
deleted_kept receiver directory number other [] apart = refl
deleted_kept receiver directory number other (row ∷ rows) apart =
    by (is_message_numbered directory other row) refl (deleted_kept receiver directory number other rows apart)
  where
    test : Row → Bool
    test = is_message_numbered receiver number

    changed : List Row
    changed = map (marked_if (is_message_numbered directory other)) rows

    by : (b : Bool) → is_message_numbered directory other row ≡ b
        → filter (is_message_numbered receiver number) changed ≡ filter (is_message_numbered receiver number) rows
        → filter (is_message_numbered receiver number) (cond b (with_mark true row) row ∷ changed)
        ≡ filter (is_message_numbered receiver number) (row ∷ rows)
    by true is rest =
        rw (unmarked_fails receiver number row, apart_fails receiver directory number other row apart is) rest
    by false is rest =
        ap (λ (more : List Row). cond (is_message_numbered receiver number row) (row ∷ more) more) rest

delete_keeps : (receiver : List ℕ) (number other : ℕ) (state : State) → (other ≢ number) ⊎ (state.connected ≢ receiver)
    → (rows : List Row) → messages_numbered receiver number (deletes_first other rows state).state ≡ messages_numbered receiver number state
delete_keeps receiver number other state apart [] = refl
delete_keeps receiver number other state apart (row ∷ more) =
    deleted_kept receiver state.connected number other state.rows apart

-- SEND: the new row does not pass
filter_without : (test : Row → Bool) (row : Row) (rows : List Row) → test row ≡ false
    → filter test (inserted row rows) ≡ filter test rows
filter_without test row [] fails = rw fails refl
filter_without test row (other ∷ rows) fails = by (is_lt (by_row other row)) (filter_without test row rows fails)
  where
    by : (b : Bool) → filter test (inserted row rows) ≡ filter test rows
        → filter test (cond b (other ∷ inserted row rows) (row ∷ other ∷ rows)) ≡ filter test (other ∷ rows)
    by true rest = ap (λ (more : List Row). cond (test other) (other ∷ more) more) rest
    by false rest = rw fails refl

-- a message that is sent later has another number, or another receiver
later_fails : (receiver : List ℕ) (number : ℕ) (held row : Row) (later : Message) (state : State)
    → messages_numbered receiver number state ≡ held ∷ [] → number_for later state ≤ MOST_MESSAGES
    → row.key ≡ message_key later.receiver (number_for later state) → is_message_numbered receiver number row ≡ false
later_fails receiver number held row later state alone few own = by (is_message_numbered receiver number row) refl
  where
    by : (b : Bool) → is_message_numbered receiver number row ≡ b → b ≡ false
    by true is =
        let new = numbered_is receiver number row is in
        let there = among (is_message_numbered receiver number) held [] state.rows alone in
        let old = numbered_is receiver number held there.passes in
        let same : receiver ≡ later.receiver = sym new.directory ∙ ap (λ key. key.directory) own in
        let file : is_numbered_in later.receiver held ≡ true =
        subst (λ (directory : List ℕ). is_numbered_in directory held ≡ true) same old.file in
        let less = own_number later state there.before there.after held there.split file in
        let number_is = number_own later.receiver (number_for later state) row few own in
        let its = new.named in
        let held_is = old.named in
        absurd (omega (arith, less, number_is, its, held_is))
    by false is = refl

later_written : (receiver : List ℕ) (number : ℕ) (held : Row) (later : Message) (state : State) (made : Planned)
    → messages_numbered receiver number state ≡ held ∷ [] → number_for later state ≤ MOST_MESSAGES
    → planned (plans.Write (place_of later state) (bytes_of later state)) later.moment state ≡ Ok made
    → (answer : Result ℕ Code)
    → admitted (own_key (place_of later state)) Next (length (bytes_of later state)) state.rows ≡ answer
    → messages_numbered receiver number made.state ≡ messages_numbered receiver number state
later_written receiver number held later state made alone few is (Ok generation) admits =
    let key = own_key (place_of later state) in
    let row = row_of later state generation in
    let ready = write_ready state (place_of later state) (bytes_of later state) later.moment row.file.keep generation
    (adds_one row) (has_name later state) admits refl refl in
    let same : done_on state (adds_one row) ≡ made = ok_same _ (done_on state (adds_one row)) made ready is in
    let none : none_of key state.rows ≡ true =
    none_passes (is_of key) state.rows [] state.rows refl (not_of later state few) in
    let kept : filter (is_message_numbered receiver number) (added row.file.keep row state.rows)
    ≡ messages_numbered receiver number state =
    ap (filter (is_message_numbered receiver number)) (added_alone row.file.keep row state.rows none)
    ∙ filter_without (is_message_numbered receiver number) row state.rows
    (later_fails receiver number held row later state alone few refl) in
    subst (λ (left : Planned). messages_numbered receiver number left.state ≡ messages_numbered receiver number state) same kept
later_written receiver number held later state made alone few is (Err code) fails =
    let never = write_refused state (place_of later state) (bytes_of later state) later.moment code
    (has_name later state) fails in
    absurd (cc)

later_kept : (receiver : List ℕ) (number : ℕ) (held : Row) (later : Message) (state : State)
    → messages_numbered receiver number state ≡ held ∷ []
    → messages_numbered receiver number (sends later state).state ≡ messages_numbered receiver number state
unfolding sends
later_kept receiver number held later state alone = by (nat_lt MOST_MESSAGES (number_for later state)) refl
  where
    plan : (made : Result Planned Code) → planned (plans.Write (place_of later state) (bytes_of later state)) later.moment state ≡ made
        → number_for later state ≤ MOST_MESSAGES
        → messages_numbered receiver number
        (plays_by (λ (pairs : List NamePair). sent_line later.receiver (number_for later state)) made state).state
        ≡ messages_numbered receiver number state
    plan (Ok made) is few = later_written receiver number held later state made alone few is _ refl
    plan (Err code) is few = refl

    by : (past : Bool) → nat_lt MOST_MESSAGES (number_for later state) ≡ past
        → messages_numbered receiver number
        (cond past (refuses MailFull state) (sends_as (number_for later state) later state)).state
        ≡ messages_numbered receiver number state
    by true is = refl
    by false is = plan _ refl (grind (arith, nat_tests))

-- what one act leaves
act_keeps : (receiver : List ℕ) (number : ℕ) (held : Row) (state : State) (act : MailAct)
    → messages_numbered receiver number state ≡ held ∷ [] → Spares receiver number state act
    → messages_numbered receiver number (state_left state act) ≡ messages_numbered receiver number state
unfolding act_of deletes
act_keeps receiver number held state (OfLine commands.Empty) alone spares = refl
act_keeps receiver number held state (OfLine (commands.Delete other)) alone spares =
    delete_keeps receiver number other state spares (messages_numbered state.connected other state)
act_keeps receiver number held state (OfLine commands.Headers) alone spares = refl
act_keeps receiver number held state (OfLine commands.Quit) alone spares = refl
act_keeps receiver number held state (OfLine (commands.Read other)) alone spares =
    ap (λ (it : State). messages_numbered receiver number it) (sym (reads_stays other state))
act_keeps receiver number held state (OfLine (commands.Send to subject)) alone spares = refl
act_keeps receiver number held state (OfMessage later) alone spares = later_kept receiver number held later state alone

-- it is read where the messages with its number are those that were
read_again : (message : Message) (state left now : State) → IsRead message state left
    → messages_numbered message.receiver (number_for message state) now
    ≡ messages_numbered message.receiver (number_for message state) left → IsRead message state now
read_again message state left now read same =
    let alone : messages_numbered message.receiver (number_for message state) now ≡ read.row ∷ [] = same ∙ read.alone in
    record {
      row = read.row;
      alone = alone;
      bytes = read.bytes;
      shown = shows_alone (number_for message state) (at_receiver message now) read.row alone;
    }

pub stays_read : (message : Message) (state left : State) (acts : List MailAct) → IsRead message state left
    → AllSpare message.receiver (number_for message state) left acts → IsRead message state (state_after left acts)
stays_read message state left [] read spare = read
stays_read message state left (act ∷ acts) read spare =
    stays_read message state (state_left left act) acts
    (read_again message state left (state_left left act) read
    (act_keeps message.receiver (number_for message state) read.row left act read.alone spare.0)) spare.1
