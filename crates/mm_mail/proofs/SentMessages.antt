-- [message] A message that is sent is one of its receiver's, the only one with its number.
use Rattle.std.proofs.Common.{◌≡◌, ℕ, ◌≤◌, ◌==◌, ◌&&◌, nat_le, nat_lt, not, Bool, true, false, cond, filter, List, [], ◌∷◌, ◌++◌, length, Result, Ok, Err, refl, ap, sym, subst, ◌∙◌, arith}
use Rattle.std.specs.List.{list_all}
use Rattle.std.specs.Ordering.{is_eq, is_lt}
use Rattle.std.specs.Str.{bytes_eq}
use Rattle.std.proofs.lemmas.Bool.{and_from, and_parts, eq-eqb, eqb-true, not-true}
use Rattle.std.proofs.lemmas.Bool.Decides.{nat_tests}
use Rattle.cm_lists.proofs.Bools.{and-false}
use Rattle.cm_lists.proofs.Filters.{none_kept}
use Rattle.cm_lists.proofs.Quantifiers.{none_passes}
use Rattle.cm_lists.proofs.Texts.{bytes_eq_itself}
use Rattle.cm_fields.specs.declared.code.Code.{Code}
use Rattle.cm_fields.specs.declared.code.Code.TheVariants.{MailFull}
use Rattle.cm_fields.specs.declared.value.Gen.TheVariants.{Next}
use Rattle.cm_files.specs.Catalogue.{by_bytes}
use Rattle.cm_files.proofs.RowOrder.{text_itself}
use Rattle.ex_store.specs.declared.key.Key.{Key}
use Rattle.ex_store.specs.declared.key.NamePair.{NamePair}
use Rattle.ex_store.specs.declared.place.Place.{Place}
use Rattle.ex_store.specs.declared.plan.Plan.TheVariants as plans
use Rattle.ex_store.specs.declared.row.Row.{Row}
use Rattle.ex_generations.specs.declared.file.File.{File}
use Rattle.ex_store.specs.Adding.{admitted, and_then, keep_at, limited, new_row, numbered}
use Rattle.ex_store.specs.Copying.{lacks_name, own_key}
use Rattle.ex_store.specs.Plan.{Planned, planned, retention_at}
use Rattle.ex_store.specs.Ready.{done_on}
use Rattle.ex_store.specs.Rows.{added, by_row, inserted, is_of, kept_newest, total}
use Rattle.ex_store.specs.State.{State}
use Rattle.ex_store.proofs.AdmittedLaws.{limited_roomy, ok_same}
use Rattle.ex_store.proofs.FamilyLaws.{key_is}
use Rattle.ex_store.proofs.KeptLaws.{files_none, kept_upper, none_of}
use Rattle.ex_store.proofs.WrittenLaws.{adds_one, write_ready, write_refused, written_row}
use Rattle.ex_commands.specs.Act.{does, plays_by, refuses}
use Rattle.ex_commands.specs.Replies.{held_text}
use Rattle.ex_commands.specs.declared.acted.Acted.TheVariants as answers
use Rattle.mm_mail.specs.Delivery.{IsRead, at_receiver, message_bytes, number_for, sends, sends_as, sent_line}
use Rattle.mm_mail.specs.Mailbox.{is_message_in, is_message_numbered, is_numbered_in, mail_type, message_place, messages_numbered, reads, reads_first}
use Rattle.mm_mail.specs.MessageName.{is_message_name, name_number, prefix}
use Rattle.mm_mail.specs.declared.message.Message.{Message}
use Rattle.mm_mail.specs.declared.message_name.TheConstants.{MOST_MESSAGES}
use Rattle.mm_mail.proofs.MessageNames.{is_message, number_of_name}
use Rattle.mm_mail.proofs.Numbers.{own_number}

-- a row that passes, among others that do not
filter_inserted : (test : Row → Bool) (row : Row) (rows : List Row) → test row ≡ true
    → list_all (λ other. not (test other)) rows ≡ true → filter test (inserted row rows) ≡ row ∷ []
filter_inserted test row [] is none = rw is refl
filter_inserted test row (other ∷ rows) is none = by (is_lt (by_row other row)) (filter_inserted test row rows is parts.1)
  where
    parts : (not (test other) ≡ true) × (list_all (λ each. not (test each)) rows ≡ true)
    parts = and_parts _ _ none

    by : (b : Bool) → filter test (inserted row rows) ≡ row ∷ []
        → filter test (cond b (other ∷ inserted row rows) (row ∷ other ∷ rows)) ≡ row ∷ []
    by true rest = rw (not-true (test other) parts.0) rest
    by false rest = rw is (ap (λ more. row ∷ more) (none_kept test (other ∷ rows) none))

-- one file of a key is not marked by retention
kept_one : (keep : ℕ) (row : Row) → (keep == 0) ≡ false → kept_newest keep row.key (row ∷ []) ≡ row ∷ []
kept_one keep row some =
    let few : nat_le keep 0 ≡ false = grind (arith, nat_tests) in
    rw (few, and-false (is_of row.key row)) refl

kept_alone : (keep : ℕ) (row : Row) (rows : List Row) → (keep == 0) ≡ false → none_of row.key rows ≡ true
    → kept_newest keep row.key (inserted row rows) ≡ inserted row rows
kept_alone keep row [] some none = kept_one keep row some
kept_alone keep row (other ∷ rows) some none = by (is_lt (by_row other row)) (kept_alone keep row rows some parts.1)
  where
    parts : (not (is_of row.key other) ≡ true) × (none_of row.key rows ≡ true)
    parts = and_parts _ _ none

    by : (b : Bool) → kept_newest keep row.key (inserted row rows) ≡ inserted row rows
        → kept_newest keep row.key (cond b (other ∷ inserted row rows) (row ∷ other ∷ rows))
        ≡ cond b (other ∷ inserted row rows) (row ∷ other ∷ rows)
    by true rest = rw (not-true (is_of row.key other) parts.0) (ap (λ more. other ∷ more) rest)
    by false rest =
        kept_upper keep row.key (row ∷ []) (other ∷ rows) none
        ∙ ap (λ (front : List Row). front ++ other ∷ rows) (kept_one keep row some)

pub added_alone : (keep : ℕ) (row : Row) (rows : List Row) → none_of row.key rows ≡ true
    → added keep row rows ≡ inserted row rows
added_alone keep row rows none = by (keep == 0) refl
  where
    by : (b : Bool) → (keep == 0) ≡ b
        → cond b (inserted row rows) (kept_newest keep row.key (inserted row rows)) ≡ inserted row rows
    by true is = refl
    by false is = kept_alone keep row rows is none

-- the key of the file of a message
abbrev pub message_key : List ℕ → ℕ → Key
message_key receiver number = own_key (message_place receiver number Next)

numbered_own : (receiver : List ℕ) (number : ℕ) (row : Row) → row.key ≡ message_key receiver number
    → is_numbered_in receiver row ≡ true
numbered_own receiver number row own =
    subst (λ (key : Key). (is_eq (by_bytes key.directory receiver) && is_message_name key.name && bytes_eq key.kind mail_type) ≡ true)
    (sym own)
    (and_from _ _ (and_from _ _ (ap is_eq (text_itself receiver)) (is_message number)) (bytes_eq_itself mail_type))

pub number_own : (receiver : List ℕ) (number : ℕ) (row : Row) → number ≤ MOST_MESSAGES → row.key ≡ message_key receiver number
    → name_number row.key.name ≡ number
number_own receiver number row few own = ap (λ (key : Key). name_number key.name) own ∙ number_of_name number few

-- no file has its key yet, and no message its number
pub not_of : (message : Message) (state : State) → number_for message state ≤ MOST_MESSAGES → (before after : List Row) (row : Row)
    → before ++ row ∷ after ≡ state.rows → is_of (message_key message.receiver (number_for message state)) row ≡ false
not_of message state few before after row among =
    by (is_of (message_key message.receiver (number_for message state)) row) refl
  where
    by : (b : Bool) → is_of (message_key message.receiver (number_for message state)) row ≡ b → b ≡ false
    by true is =
        let own = key_is row.key (message_key message.receiver (number_for message state)) is in
        let same = number_own message.receiver (number_for message state) row few own in
        let less = own_number message state before after row among (numbered_own message.receiver (number_for message state) row own) in
        absurd (omega (arith, same, less))
    by false is = refl

not_numbered : (message : Message) (state : State) (before after : List Row) (row : Row) → before ++ row ∷ after ≡ state.rows
    → is_message_numbered message.receiver (number_for message state) row ≡ false
not_numbered message state before after row among =
    by (is_message_numbered message.receiver (number_for message state) row) refl
  where
    by : (b : Bool) → is_message_numbered message.receiver (number_for message state) row ≡ b → b ≡ false
    by true is =
        let last = and_parts (is_message_in message.receiver row) (name_number row.key.name == number_for message state) is in
        let unmarked = and_parts _ _ last.0 in
        let first = and_parts (is_numbered_in message.receiver row) _ unmarked.0 in
        let same = eqb-true (name_number row.key.name) (number_for message state) last.1 in
        let less = own_number message state before after row among first.0 in
        absurd (omega (arith, same, less))
    by false is = refl

-- the row of a message that is sent
abbrev sent_row : List ℕ → ℕ → ℕ → ℕ → List ℕ → ℕ → Row
sent_row receiver number keep moment bytes generation =
    new_row (message_key receiver number) keep moment bytes generation

sent_passes : (receiver : List ℕ) (number keep moment : ℕ) (bytes : List ℕ) → number ≤ MOST_MESSAGES
    → is_message_numbered receiver number (sent_row receiver number keep moment bytes 1) ≡ true
sent_passes receiver number keep moment bytes few =
    let row = sent_row receiver number keep moment bytes 1 in
    and_from _ _ (and_from _ _ (and_from _ _ (numbered_own receiver number row refl) refl) refl)
    (eq-eqb _ _ (number_own receiver number row few refl))

sent_alone : (message : Message) (state : State) (keep moment : ℕ) (bytes : List ℕ) (generation : ℕ) → number_for message state ≤ MOST_MESSAGES
    → 1 ≡ generation
    → filter (is_message_numbered message.receiver (number_for message state))
    (added keep (sent_row message.receiver (number_for message state) keep moment bytes generation) state.rows)
    ≡ sent_row message.receiver (number_for message state) keep moment bytes generation ∷ []
sent_alone message state keep moment bytes generation few first =
    let receiver = message.receiver in
    let number = number_for message state in
    let key = message_key receiver number in
    let row = sent_row receiver number keep moment bytes 1 in
    let none : none_of key state.rows ≡ true =
    none_passes (is_of key) state.rows [] state.rows refl (not_of message state few) in
    let others : list_all (λ other. not (is_message_numbered receiver number other)) state.rows ≡ true =
    none_passes (is_message_numbered receiver number) state.rows [] state.rows refl (not_numbered message state) in
    subst (λ (at : ℕ). filter (is_message_numbered receiver number) (added keep (sent_row receiver number keep moment bytes at) state.rows)
    ≡ sent_row receiver number keep moment bytes at ∷ []) first
    (ap (filter (is_message_numbered receiver number)) (added_alone keep row state.rows none)
    ∙ filter_inserted (is_message_numbered receiver number) row state.rows (sent_passes receiver number keep moment bytes few) others)

-- the first generation of a key that no file has
first_generation : (key : Key) (size generation : ℕ) (rows : List Row) → none_of key rows ≡ true
    → admitted key Next size rows ≡ Ok generation → 1 ≡ generation
first_generation key size generation rows none is =
    let alone : limited (length rows) (total rows) size 1 ≡ Ok generation =
    subst (λ (files : List File). and_then (limited (length rows) (total rows) size) (numbered Next files) ≡ Ok generation)
    (files_none key rows none) is in
    (limited_roomy (length rows) (total rows) size 1 generation alone).1

-- where a number names one file alone READ of it shows its text
pub shows_alone : (number : ℕ) (state : State) (row : Row) → messages_numbered state.connected number state ≡ row ∷ []
    → reads number state ≡ does (held_text row) state
unfolding reads
shows_alone number state row alone = ap (λ (rows : List Row). reads_first rows state) alone

-- the place of its file, what that holds, and its row
abbrev pub place_of : Message → State → Place
place_of message state = message_place message.receiver (number_for message state) Next

abbrev pub bytes_of : Message → State → List ℕ
bytes_of message state = message_bytes state.connected message.subject message.typed

abbrev pub row_of : Message → State → ℕ → Row
row_of message state generation =
    written_row (place_of message state) (keep_at (retention_at (place_of message state) state) (own_key (place_of message state)) state.rows)
    message.moment (bytes_of message state) generation

pub has_name : (message : Message) (state : State) → lacks_name (place_of message state) ≡ false
unfolding prefix mail_type
has_name message state = refl

-- the plan that writes it is done where the store takes the file
written_alone : (message : Message) (state : State) (made : Planned) → number_for message state ≤ MOST_MESSAGES
    → planned (plans.Write (place_of message state) (bytes_of message state)) message.moment state ≡ Ok made
    → (answer : Result ℕ Code)
    → admitted (own_key (place_of message state)) Next (length (bytes_of message state)) state.rows ≡ answer
    → IsRead message state made.state
written_alone message state made few is (Ok generation) admits =
    let key = own_key (place_of message state) in
    let row = row_of message state generation in
    let ready = write_ready state (place_of message state) (bytes_of message state) message.moment row.file.keep generation
    (adds_one row) (has_name message state) admits refl refl in
    let same : done_on state (adds_one row) ≡ made = ok_same _ (done_on state (adds_one row)) made ready is in
    let none : none_of key state.rows ≡ true =
    none_passes (is_of key) state.rows [] state.rows refl (not_of message state few) in
    let first = first_generation key (length (bytes_of message state)) generation state.rows none admits in
    let alone : messages_numbered message.receiver (number_for message state) made.state ≡ row ∷ [] =
    subst (λ (left : Planned). messages_numbered message.receiver (number_for message state) left.state ≡ row ∷ []) same
    (sent_alone message state row.file.keep row.file.moment row.file.bytes generation few first) in
    record {
      row = row;
      alone = alone;
      bytes = refl;
      shown = shows_alone (number_for message state) (at_receiver message made.state) row alone;
    }
written_alone message state made few is (Err code) fails =
    let never = write_refused state (place_of message state) (bytes_of message state) message.moment code
    (has_name message state) fails in
    absurd (cc)

pub sent_is_read : (message : Message) (state : State) → (sends message state).answer ≡ answers.Ok
    → IsRead message state (sends message state).state
unfolding sends
sent_is_read message state ok = by (nat_lt MOST_MESSAGES (number_for message state)) refl ok
  where
    plan : (made : Result Planned Code) → planned (plans.Write (place_of message state) (bytes_of message state)) message.moment state ≡ made
        → number_for message state ≤ MOST_MESSAGES
        → (plays_by (λ (pairs : List NamePair). sent_line message.receiver (number_for message state)) made state).answer ≡ answers.Ok
        → IsRead message state
        (plays_by (λ (pairs : List NamePair). sent_line message.receiver (number_for message state)) made state).state
    plan (Ok made) is few ok = written_alone message state made few is _ refl
    plan (Err code) is few ok = absurd (cc)

    by : (past : Bool) → nat_lt MOST_MESSAGES (number_for message state) ≡ past
        → (cond past (refuses MailFull state) (sends_as (number_for message state) message state)).answer ≡ answers.Ok
        → IsRead message state (cond past (refuses MailFull state) (sends_as (number_for message state) message state)).state
    by true is ok = absurd (cc)
    by false is ok = plan _ refl (grind (arith, nat_tests)) ok
