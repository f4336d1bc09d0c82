-- A message is sent: where its file may be put, and what is left. One is read: all stays.
use Rattle.std.proofs.Common.{◌≡◌, ℕ, ◌/◌, ◌&&◌, not, true, List, [], ◌∷◌, ◌++◌, Result, Ok, refl, subst, sym, ◌∙◌, append_assoc, arith}
use Rattle.std.specs.Char.{is_ascii_lowercase}
use Rattle.std.proofs.lemmas.Bool.{and_from}
use Rattle.std.proofs.lemmas.Bool.Decides.{nat_tests}
use Rattle.cm_text.specs.Bytes.{is_name, is_word}
use Rattle.cm_text.specs.ScreenBytes.{end_of_line}
use Rattle.cm_io.specs.declared.sink.Sink.{Ghosts}
use Rattle.cm_io.specs.declared.writer.Writer.{Writer}
use Rattle.cm_io.specs.Writer.{Writes}
use Rattle.cm_io.proofs.Texts.{writes_both}
use Rattle.cm_fields.specs.declared.code.Code.{Code}
use Rattle.cm_fields.specs.declared.value.Gen.TheVariants.{Next}
use Rattle.cm_files.specs.Catalogue.{is_upper_name}
use Rattle.ex_store.specs.declared.directory.Directory.{Directory}
use Rattle.ex_store.specs.declared.key.NamePair.{NamePair}
use Rattle.ex_store.specs.declared.place.Place.{Place}
use Rattle.ex_store.specs.declared.plan.Plan.TheVariants as plans
use Rattle.ex_store.specs.declared.plan.Refusal.{Refusal}
use Rattle.ex_store.specs.declared.plan.Refusal.TheVariants as refusals
use Rattle.ex_store.specs.declared.row.Row.{Row}
use Rattle.ex_store.specs.Plan.{IsRefused, IsTarget, Planned, planned}
use Rattle.ex_store.specs.Ready.{Change, applied, done_on}
use Rattle.ex_store.specs.State.{State, has_directory}
use Rattle.ex_commands.specs.declared.acted.Acted.TheVariants as answers
use Rattle.ex_commands.specs.Act.{refuses}
use Rattle.ex_commands.specs.Outcome.{Replies}
use Rattle.ex_commands.specs.Texts.{space}
use Rattle.ex_commands.proofs.Plays.{play_done, play_refused}
use Rattle.mm_mail.specs.Delivery.{message_bytes, sends_as, sent_line, sent_to}
use Rattle.mm_mail.specs.Mailbox.{mail_type, message_place, messages_numbered, reads, reads_first}
use Rattle.mm_mail.specs.MessageName.{digit, four_digits, message_name, prefix}
use Rattle.mm_mail.specs.declared.message.Message.{Message}

-- a digit is a byte of a name, and no small letter
is_upper_digit : (number : ℕ) → (is_name (digit number) && not (is_ascii_lowercase (digit number))) ≡ true
unfolding is_name is_word
is_upper_digit number = grind (arith, nat_tests)

is_upper_message : (number : ℕ) → is_upper_name (message_name number) ≡ true
unfolding prefix is_name is_word
is_upper_message number =
    and_from _ _ (is_upper_digit (number / 1000)) (and_from _ _ (is_upper_digit (number / 100))
    (and_from _ _ (is_upper_digit (number / 10)) (and_from _ _ (is_upper_digit number) refl)))

-- a file of a message may be put into each directory that is there
pub is_target : (directories : List Directory) (receiver : List ℕ) (number : ℕ) → has_directory receiver directories ≡ true
    → IsTarget (message_place receiver number Next) directories
unfolding prefix mail_type is_name is_word
is_target directories receiver number there =
    record { there = there; name = is_upper_message number; kind = refl; generation = refl }

-- that a message is sent, piece by piece
pub writes_sent : {T : Type 0} (s : Ghosts T) (a b c d e : Writer T) (receiver : List ℕ) (number : ℕ)
    → Writes s d e (four_digits number ++ end_of_line) → Writes s c d space → Writes s b c receiver → Writes s a b sent_to
    → Writes s a e (sent_line receiver number)
unfolding sent_line
writes_sent s a b c d e receiver number last third second first =
    let front = sent_to ++ receiver ++ space in
    subst (λ (text : List ℕ). Writes s a e text) (sym (append_assoc front (four_digits number) end_of_line))
    (writes_both s a d e front (four_digits number ++ end_of_line) last
    (writes_both s a c d (sent_to ++ receiver) space third (writes_both s a b c sent_to receiver second first)))

-- the plan that the code has is that of the message
is_planned : (message : Message) (state : State) (number : ℕ) (place : Place) (given : List ℕ)
    → place ≡ message_place message.receiver number Next
    → given ≡ message_bytes state.connected message.subject message.typed
    → planned (plans.Write place given) message.moment state
    ≡ planned (plans.Write (message_place message.receiver number Next) (message_bytes state.connected message.subject message.typed))
    message.moment state
is_planned message state number place given there holds = rw (there, holds) refl

-- the file is made, and that it is put
pub delivered : {T : Type 0} (s : Ghosts T) (before now : Writer T) (message : Message) (state middle left : State) (number : ℕ)
    (place : Place) (given shown : List ℕ) (change : Change) → place ≡ message_place message.receiver number Next
    → given ≡ message_bytes state.connected message.subject message.typed
    → planned (plans.Write place given) message.moment state ≡ Ok (done_on state change) → middle ≡ state
    → shown ≡ message.receiver → Writes s before now (sent_line shown number) → left ≡ applied change middle
    → Replies s before now (sends_as number message state) left answers.Ok
delivered s before now message state middle left number place given shown change there holds ready same names writes leaves =
    play_done s before now (λ (pairs : List NamePair). sent_line message.receiver number) _ change state middle left
    (sym (is_planned message state number place given there holds) ∙ ready) same
    (subst (λ (receiver : List ℕ). Writes s before now (sent_line receiver number)) names writes) leaves

-- it is refused, and why is put
pub refused : {T : Type 0} (s : Ghosts T) (before now : Writer T) (message : Message) (state left : State) (number : ℕ)
    (place : Place) (given : List ℕ) (refusal : Refusal) (code : Code) → place ≡ message_place message.receiver number Next
    → given ≡ message_bytes state.connected message.subject message.typed
    → IsRefused (planned (plans.Write place given) message.moment state) refusal → refusal ≡ refusals.Code code → left ≡ state
    → Writes s before now (refuses code state).reply
    → Replies s before now (sends_as number message state) left (answers.Refused code)
refused s before now message state left number place given refusal code there holds fails is_code same writes =
    play_refused s before now (λ (pairs : List NamePair). sent_line message.receiver number) _ refusal code code state left
    (answers.Refused code)
    (subst (λ (plan : Result Planned Code). IsRefused plan refusal) (is_planned message state number place given there holds) fails)
    is_code refl same (record { answer_is = refl; reply = writes; state = refl })

-- a message that is shown, or is not there, changes nothing
shown_stays : (rows : List Row) (state : State) → state ≡ (reads_first rows state).state
shown_stays [] state = refl
shown_stays (row ∷ rows) state = refl

pub reads_stays : (number : ℕ) (state : State) → state ≡ (reads number state).state
unfolding reads
reads_stays number state = shown_stays (messages_numbered state.connected number state) state
