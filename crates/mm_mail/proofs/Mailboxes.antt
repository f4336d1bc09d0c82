-- What the places of messages select in a store.
use Rattle.std.proofs.Common.{◌≡◌, ℕ, ◌≤◌, ◌==◌, ◌&&◌, max, Bool, true, false, not, cond, if◌then◌else◌, List, [], ◌∷◌, ◌++◌, filter, Option, None, Some, is_some, refl, ap, sym, subst, ◌∙◌, arith}
use Rattle.std.specs.List.{flat_map, list_all}
use Rattle.std.specs.Option.{MatchOption}
use Rattle.std.specs.Str.{bytes_eq}
use Rattle.std.proofs.lemmas.Bool.{and_parts}
use Rattle.cm_lists.proofs.Bools.{and-false}
use Rattle.cm_lists.proofs.Filters.{filter_same}
use Rattle.cm_lists.proofs.Quantifiers.{map_same}
use Rattle.cm_text.specs.Bytes.{is_name, is_word}
use Rattle.cm_fields.specs.declared.code.Code.TheVariants.{NoMessage}
use Rattle.cm_fields.specs.declared.value.Gen.TheVariants.{All, Number}
use Rattle.cm_files.specs.Catalogue.{is_upper_name}
use Rattle.cm_files.specs.Pattern.{matches}
use Rattle.cm_files.specs.Selection.{agree, is_seen, is_selected}
use Rattle.cm_state.specs.Echo.{refusal}
use Rattle.ex_generations.specs.declared.file.Remark.TheVariants as remarks
use Rattle.ex_store.specs.declared.directory.Directory.{Directory}
use Rattle.ex_store.specs.declared.place.Place.{Place}
use Rattle.ex_store.specs.declared.row.Row.{Row}
use Rattle.ex_store.specs.declared.row.RowView.{RowView}
use Rattle.ex_store.specs.Views.{row_of_view}
use Rattle.ex_store.specs.Rows.{is_in, with_mark}
use Rattle.ex_store.specs.Selection.{is_selected_by, rows_with_remark, selected}
use Rattle.ex_store.specs.State.{State}
use Rattle.ex_store.specs.WellFormed.{IsWellFormed, is_row_among}
use Rattle.ex_store.proofs.AllCopiedLaws.{formed}
use Rattle.ex_commands.specs.Act.{does, refuses}
use Rattle.ex_commands.specs.Replies.{held_text}
use Rattle.mm_mail.specs.declared.mailbox.TheConstants.{FIRST_GENERATION}
use Rattle.mm_mail.specs.declared.message_name.TheConstants.{MOST_MESSAGES}
use Rattle.mm_mail.specs.Mailbox.{any_number, deleted_line, deletes, deletes_first, greatest, greatest_among, header_if, header_line, is_message_in, is_message_numbered, is_numbered_in, mail_type, mailbox, message_place, messages_numbered, number_if, numbered_place, place_in, reads, reads_first, with_deleted}
use Rattle.mm_mail.specs.MessageName.{is_message_name, message_name, name_number, prefix}
use Rattle.mm_mail.proofs.MessageNames.{fixed_matches, name_is, number_matches}

-- the pattern of all numbers means the name of each message
any_means : (number : ℕ) → matches any_number (message_name number) ≡ true
unfolding prefix any_number
any_means number = refl

any_matches : (name : List ℕ) → is_message_name name ≡ true → matches any_number name ≡ true
any_matches name is =
    subst (λ (text : List ℕ). matches any_number text ≡ true) (sym (name_is name is)) (any_means (name_number name))

-- the type of the files of messages means itself
kind_matches : (kind : List ℕ) → is_upper_name kind ≡ true → matches mail_type kind ≡ bytes_eq kind mail_type
unfolding mail_type is_name is_word
kind_matches kind up = fixed_matches mail_type kind refl refl up

-- a file of a store has its name and its type in capitals
record IsUpper (row : Row) : Type 0 where
  name : is_upper_name row.key.name ≡ true
  kind : is_upper_name row.key.kind ≡ true

upper : (directories : List Directory) (row : Row) → is_row_among directories row ≡ true → IsUpper row
upper directories row is =
    let form = formed directories row is in
    record { name = (and_parts _ _ form.name).1; kind = (and_parts _ _ form.kind).1 }

-- what a place of files of messages asks of a file
abbrev is_asked : Bool → List ℕ → List ℕ → Row → Bool
is_asked deleted directory name row =
    agree row.file.deleted deleted && matches name row.key.name && matches mail_type row.key.kind

asked_first : (deleted : Bool) (directory name : List ℕ) (state : State) (row : Row)
    → is_selected_by deleted (place_in directory name (Number FIRST_GENERATION)) state row
    ≡ (is_in directory row && (is_asked deleted directory name row && row.file.generation == FIRST_GENERATION))
unfolding is_selected_by is_selected is_seen
asked_first deleted directory name state row = refl

asked_all : (deleted : Bool) (directory name : List ℕ) (state : State) (row : Row)
    → is_selected_by deleted (place_in directory name All) state row
    ≡ (is_in directory row && (is_asked deleted directory name row && true))
unfolding is_selected_by is_selected is_seen
asked_all deleted directory name state row = refl

unmarked : (deleted : Bool) → agree deleted false ≡ not deleted
unmarked true = refl
unmarked false = refl

-- the place of one message
one_asked : (i a n m k g : Bool) → (i && ((a && (n && m) && k) && g)) ≡ ((((i && n) && k) && g && a) && m)
one_asked false a n m k g = refl
one_asked true false n m k g = sym (ap (λ (all : Bool). all && m) (and-false ((n && k) && g)))
one_asked true true false m k g = refl
one_asked true true true false k g = sym (and-false ((k && g) && true))
one_asked true true true true false g = refl
one_asked true true true true true false = refl
one_asked true true true true true true = refl

asks_one : (directories : List Directory) (directory : List ℕ) (number : ℕ) (state : State) (row : Row) → number ≤ MOST_MESSAGES
    → is_row_among directories row ≡ true
    → is_selected_by false (message_place directory number (Number FIRST_GENERATION)) state row ≡ is_message_numbered directory number row
asks_one directories directory number state row few is =
    let up = upper directories row is in
    let g = row.file.generation == FIRST_GENERATION in
    asked_first false directory (message_name number) state row
    ∙ ap (λ (mark : Bool). is_in directory row && ((mark && matches (message_name number) row.key.name && matches mail_type row.key.kind) && g))
    (unmarked row.file.deleted)
    ∙ ap (λ (name : Bool). is_in directory row && ((not row.file.deleted && name && matches mail_type row.key.kind) && g))
    (number_matches number row.key.name few up.name)
    ∙ ap (λ (kind : Bool). is_in directory row && ((not row.file.deleted && (is_message_name row.key.name && name_number row.key.name == number) && kind) && g))
    (kind_matches row.key.kind up.kind)
    ∙ one_asked (is_in directory row) (not row.file.deleted) (is_message_name row.key.name) (name_number row.key.name == number)
    (bytes_eq row.key.kind mail_type) g

-- the place of all messages
all_asked : (i a n m k g : Bool) → (n ≡ true → m ≡ true) → ((i && ((a && m && k) && g)) && n) ≡ (((i && n) && k) && g && a)
all_asked false a n m k g to = refl
all_asked true false n m k g to = sym (and-false ((n && k) && g))
all_asked true true false m k g to = and-false ((m && k) && g)
all_asked true true true false k g to = let never : false ≡ true = to refl in absurd (cc)
all_asked true true true true false g to = refl
all_asked true true true true true false to = refl
all_asked true true true true true true to = refl

asks_each : (directories : List Directory) (directory : List ℕ) (state : State) (row : Row) → is_row_among directories row ≡ true
    → (is_selected_by false (numbered_place directory (Number FIRST_GENERATION)) state row && is_message_name row.key.name)
    ≡ is_message_in directory row
asks_each directories directory state row is =
    let up = upper directories row is in
    let g = row.file.generation == FIRST_GENERATION in
    ap (λ (chosen : Bool). chosen && is_message_name row.key.name) (asked_first false directory any_number state row)
    ∙ ap (λ (mark : Bool). (is_in directory row && ((mark && matches any_number row.key.name && matches mail_type row.key.kind) && g)) && is_message_name row.key.name)
    (unmarked row.file.deleted)
    ∙ ap (λ (kind : Bool). (is_in directory row && ((not row.file.deleted && matches any_number row.key.name && kind) && g)) && is_message_name row.key.name)
    (kind_matches row.key.kind up.kind)
    ∙ all_asked (is_in directory row) (not row.file.deleted) (is_message_name row.key.name) (matches any_number row.key.name)
    (bytes_eq row.key.kind mail_type) g (any_matches row.key.name)

-- the files of one message
pub selects_one : (state : State) (directory : List ℕ) (number : ℕ) → IsWellFormed state → number ≤ MOST_MESSAGES
    → selected false (message_place directory number (Number FIRST_GENERATION)) state ≡ messages_numbered directory number state
selects_one state directory number well few =
    filter_same (is_row_among state.directories) (is_selected_by false (message_place directory number (Number FIRST_GENERATION)) state)
    (is_message_numbered directory number) (λ row is. asks_one state.directories directory number state row few is) state.rows well.draft.rows.within

-- those of all messages, of which lines are put
lines_of_kept : (all test other : Row → Bool) → ((row : Row) → all row ≡ true → (test row && is_message_name row.key.name) ≡ other row)
    → (rows : List Row) → list_all all rows ≡ true → flat_map header_if (filter test rows) ≡ flat_map header_line (filter other rows)
lines_of_kept all test other same [] are = refl
lines_of_kept all test other same (row ∷ rows) are =
    let parts = and_parts (all row) (list_all all rows) are in
    by (test row) (is_message_name row.key.name) refl (lines_of_kept all test other same rows parts.1)
    ∙ ap (λ (keeps : Bool). flat_map header_line (cond keeps (row ∷ filter other rows) (filter other rows))) (same row parts.0)
  where
    by : (keeps named : Bool) → is_message_name row.key.name ≡ named
        → flat_map header_if (filter test rows) ≡ flat_map header_line (filter other rows)
        → flat_map header_if (cond keeps (row ∷ filter test rows) (filter test rows))
        ≡ flat_map header_line (cond (keeps && named) (row ∷ filter other rows) (filter other rows))
    by true true is rest = rw is (ap (λ (text : List ℕ). header_line row ++ text) rest)
    by true false is rest = rw is rest
    by false named is rest = rest

pub lines_of_all : (state : State) (directory : List ℕ) → IsWellFormed state
    → flat_map header_if (selected false (numbered_place directory (Number FIRST_GENERATION)) state)
    ≡ flat_map header_line (mailbox directory state)
lines_of_all state directory well =
    lines_of_kept (is_row_among state.directories) (is_selected_by false (numbered_place directory (Number FIRST_GENERATION)) state)
    (is_message_in directory) (λ row is. asks_each state.directories directory state row is) state.rows well.draft.rows.within

-- the files of one message, marked
pub marks_one : (state : State) (number : ℕ) → IsWellFormed state → number ≤ MOST_MESSAGES
    → record state { rows = rows_with_remark (remarks.Deleted true) (message_place state.connected number (Number FIRST_GENERATION)) state }
    ≡ with_deleted number state
marks_one state number well few =
    ap (λ (rows : List Row). record state { rows = rows })
    (map_same (is_row_among state.directories)
    (λ (row : Row). if is_selected_by false (message_place state.connected number (Number FIRST_GENERATION)) state row then with_mark true row else row)
    (λ (row : Row). if is_message_numbered state.connected number row then with_mark true row else row)
    (λ row is. ap (λ (keeps : Bool). if keeps then with_mark true row else row) (asks_one state.directories state.connected number state row few is))
    state.rows well.draft.rows.within)

-- the greatest number of the files that one of two tests keeps
abbrev weight : (Row → Bool) → Row → ℕ
weight test row = if test row then number_if row else 0

greatest_step : (test : Row → Bool) (row : Row) (rows : List Row)
    → greatest_among (filter test (row ∷ rows)) ≡ max (weight test row) (greatest_among (filter test rows))
greatest_step test row rows = by (test row)
  where
    by : (keeps : Bool) → greatest_among (cond keeps (row ∷ filter test rows) (filter test rows))
        ≡ max (cond keeps (number_if row) 0) (greatest_among (filter test rows))
    by true = refl
    by false = omega arith

four_max : (a b c x y z p q r : ℕ) → p ≡ max a x → q ≡ max b y → r ≡ max c z → max a b ≡ c → max x y ≡ z → max p q ≡ r
four_max a b c x y z p q r first second third here rest = omega arith

greatest_of_two : (all first second whole : Row → Bool)
    → ((row : Row) → all row ≡ true → max (weight first row) (weight second row) ≡ weight whole row)
    → (rows : List Row) → list_all all rows ≡ true
    → max (greatest_among (filter first rows)) (greatest_among (filter second rows)) ≡ greatest_among (filter whole rows)
greatest_of_two all first second whole same [] are = refl
greatest_of_two all first second whole same (row ∷ rows) are =
    let parts = and_parts (all row) (list_all all rows) are in
    four_max (weight first row) (weight second row) (weight whole row) (greatest_among (filter first rows))
    (greatest_among (filter second rows)) (greatest_among (filter whole rows)) _ _ _ (greatest_step first row rows)
    (greatest_step second row rows) (greatest_step whole row rows) (same row parts.0)
    (greatest_of_two all first second whole same rows parts.1)

either_same : (keeps : Bool) (number : ℕ) → cond keeps number number ≡ number
either_same true number = refl
either_same false number = refl

-- marked or not
either_mark : (i d n m k : Bool) (number : ℕ) → (n ≡ true → m ≡ true)
    → max (cond (i && ((agree d false && m && k) && true)) (cond n number 0) 0) (cond (i && ((agree d true && m && k) && true)) (cond n number 0) 0)
    ≡ cond ((i && n) && k) (cond n number 0) 0
either_mark false d n m k number to = refl
either_mark true d false m k number to = rw (either_same ((agree d false && m && k) && true) 0, either_same ((agree d true && m && k) && true) 0) refl
either_mark true d true false k number to = let never : false ≡ true = to refl in absurd (cc)
either_mark true true true true true number to = omega arith
either_mark true true true true false number to = refl
either_mark true false true true true number to = omega arith
either_mark true false true true false number to = refl

asks_either : (directories : List Directory) (directory : List ℕ) (state : State) (row : Row) → is_row_among directories row ≡ true
    → max (weight (is_selected_by false (numbered_place directory All) state) row) (weight (is_selected_by true (numbered_place directory All) state) row)
    ≡ weight (is_numbered_in directory) row
asks_either directories directory state row is =
    let up = upper directories row is in
    ap (λ (keeps : Bool). max (cond keeps (number_if row) 0) (weight (is_selected_by true (numbered_place directory All) state) row))
    (asked_all false directory any_number state row)
    ∙ ap (λ (keeps : Bool). max (cond (is_in directory row && (is_asked false directory any_number row && true)) (number_if row) 0) (cond keeps (number_if row) 0))
    (asked_all true directory any_number state row)
    ∙ either_mark (is_in directory row) row.file.deleted (is_message_name row.key.name) (matches any_number row.key.name)
    (matches mail_type row.key.kind) (name_number row.key.name) (any_matches row.key.name)
    ∙ ap (λ (kind : Bool). cond ((is_in directory row && is_message_name row.key.name) && kind) (number_if row) 0)
    (kind_matches row.key.kind up.kind)

pub greatest_of_all : (state : State) (directory : List ℕ) → IsWellFormed state
    → max (greatest_among (selected false (numbered_place directory All) state)) (greatest_among (selected true (numbered_place directory All) state))
    ≡ greatest directory state
greatest_of_all state directory well =
    greatest_of_two (is_row_among state.directories) (is_selected_by false (numbered_place directory All) state)
    (is_selected_by true (numbered_place directory All) state) (is_numbered_in directory)
    (λ row is. asks_either state.directories directory state row is) state.rows well.draft.rows.within

-- how a command finds them
place_at : (state parts : State) (number : ℕ) (directory : List ℕ) (place : Place) → parts ≡ state → directory ≡ parts.connected
    → place ≡ message_place directory number (Number FIRST_GENERATION) → place ≡ message_place state.connected number (Number FIRST_GENERATION)
place_at state parts number directory place same connected at =
    at ∙ ap (λ (name : List ℕ). message_place name number (Number FIRST_GENERATION)) (connected ∙ ap (λ (other : State). other.connected) same)

pub found_at : (state parts : State) (number : ℕ) (directory : List ℕ) (place : Place) (rows found : List Row) → IsWellFormed state
    → number ≤ MOST_MESSAGES → parts ≡ state → directory ≡ parts.connected → place ≡ message_place directory number (Number FIRST_GENERATION)
    → rows ≡ selected false place state → rows ≡ found → messages_numbered state.connected number state ≡ found
found_at state parts number directory place rows found well few same connected at chosen is =
    sym (selects_one state state.connected number well few)
    ∙ ap (λ (other : Place). selected false other state) (sym (place_at state parts number directory place same connected at))
    ∙ sym chosen ∙ is

pub marked_at : (state parts : State) (number : ℕ) (directory : List ℕ) (place : Place) → IsWellFormed state → number ≤ MOST_MESSAGES
    → parts ≡ state → directory ≡ parts.connected → place ≡ message_place directory number (Number FIRST_GENERATION)
    → record state { rows = rows_with_remark (remarks.Deleted true) place state } ≡ with_deleted number state
marked_at state parts number directory place well few same connected at =
    ap (λ (other : Place). record state { rows = rows_with_remark (remarks.Deleted true) other state })
    (place_at state parts number directory place same connected at)
    ∙ marks_one state number well few

pub none_left : (found : Option RowView) (rows rest : List Row) (none : Bool)
    → MatchOption found ((rows ≡ []) × (rest ≡ [])) (λ row. rows ≡ row_of_view row ∷ rest) → is_some found ≡ not none → none ≡ true → rows ≡ []
none_left None rows rest none yields is yes_none = yields.0
none_left (Some row) rows rest none yields is yes_none = let never : true ≡ false = is ∙ ap not yes_none in absurd (cc)

pub some_left : (found : Option RowView) (rows rest : List Row) (none : Bool)
    → MatchOption found ((rows ≡ []) × (rest ≡ [])) (λ row. rows ≡ row_of_view row ∷ rest) → is_some found ≡ not none → none ≡ false
    → (row : RowView) × (rows ≡ row_of_view row ∷ rest)
some_left None rows rest none yields is not_none = let never : false ≡ true = is ∙ ap not not_none in absurd (cc)
some_left (Some row) rows rest none yields is not_none = (row, yields)

-- what the first of them makes of a command
pub reads_none : (number : ℕ) (state : State) → messages_numbered state.connected number state ≡ [] → (reads number state).reply ≡ refusal NoMessage
unfolding reads
reads_none number state none = ap (λ (rows : List Row). (reads_first rows state).reply) none

pub reads_one : (number : ℕ) (state : State) (row : Row) (more : List Row) → messages_numbered state.connected number state ≡ row ∷ more
    → (reads number state).reply ≡ held_text row
unfolding reads
reads_one number state row more one = ap (λ (rows : List Row). (reads_first rows state).reply) one

pub deletes_none : (number : ℕ) (state : State) → messages_numbered state.connected number state ≡ []
    → deletes number state ≡ refuses NoMessage state
unfolding deletes
deletes_none number state none = ap (λ (rows : List Row). deletes_first number rows state) none

pub deletes_one : (number : ℕ) (state : State) (row : Row) (more : List Row) → messages_numbered state.connected number state ≡ row ∷ more
    → deletes number state ≡ does (deleted_line number) (with_deleted number state)
unfolding deletes
deletes_one number state row more one = ap (λ (rows : List Row). deletes_first number rows state) one

-- a walk over the messages, of which lines are put
pub lines_at : (state parts : State) (directory : List ℕ) (place : Place) (items rows : List Row) → IsWellFormed state → parts ≡ state
    → directory ≡ parts.connected → place ≡ numbered_place directory (Number FIRST_GENERATION) → items ≡ selected false place state
    → rows ≡ items → flat_map header_if rows ≡ flat_map header_line (mailbox state.connected state)
lines_at state parts directory place items rows well same connected at chosen are =
    let own : directory ≡ state.connected = connected ∙ ap (λ (other : State). other.connected) same in
    ap (flat_map header_if) (are ∙ chosen)
    ∙ ap (λ (other : Place). flat_map header_if (selected false other state)) at
    ∙ ap (λ (name : List ℕ). flat_map header_if (selected false (numbered_place name (Number FIRST_GENERATION)) state)) own
    ∙ lines_of_all state state.connected well

-- and one that keeps the greatest number
pub greatest_whole : (rows other : List Row) → rows ≡ other → max 0 (greatest_among rows) ≡ greatest_among other
greatest_whole rows other same = let step = ap greatest_among same in omega arith

pub greatest_next : (rows rest : List Row) (row : Row) (before number now whole : ℕ) → rows ≡ row ∷ rest → number ≡ number_if row
    → now ≡ max number before → max before (greatest_among rows) ≡ whole → max now (greatest_among rest) ≡ whole
greatest_next rows rest row before number now whole next is more so_far =
    let step : greatest_among rows ≡ max (number_if row) (greatest_among rest) = ap greatest_among next in
    three_max before (number_if row) (greatest_among rest) number now (greatest_among rows) whole is more step so_far
  where
    three_max : (a b c number now rows whole : ℕ) → number ≡ b → now ≡ max number a → rows ≡ max b c → max a rows ≡ whole → max now c ≡ whole
    three_max a b c number now rows whole is more step so_far = omega arith

-- of those that are marked, and of those that are not
pub greatest_at : (state : State) (directory : List ℕ) (place : Place) (first second most : ℕ) → IsWellFormed state
    → place ≡ numbered_place directory All → first ≡ greatest_among (selected false place state)
    → second ≡ greatest_among (selected true place state) → most ≡ max first second → most ≡ greatest directory state
greatest_at state directory place first second most well at unmarked marked is =
    let one : first ≡ greatest_among (selected false (numbered_place directory All) state) =
    unmarked ∙ ap (λ (other : Place). greatest_among (selected false other state)) at in
    let two : second ≡ greatest_among (selected true (numbered_place directory All) state) =
    marked ∙ ap (λ (other : Place). greatest_among (selected true other state)) at in
    is ∙ ap (λ (number : ℕ). max number second) one
    ∙ ap (λ (number : ℕ). max (greatest_among (selected false (numbered_place directory All) state)) number) two
    ∙ greatest_of_all state directory well
