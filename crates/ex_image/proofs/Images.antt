-- The text of a well-formed state is its image.
use Rattle.std.proofs.Common.{◌≡◌, ℕ, true, List, [], ◌∷◌, ◌++◌, map, refl, sym, ◌∙◌}
use Rattle.std.proofs.lemmas.List.{append-nil}
use Rattle.ex_store.specs.declared.directory.Directory.{Directory}
use Rattle.ex_store.specs.Draft.{empty_state}
use Rattle.ex_store.specs.State.{State, has_directory}
use Rattle.ex_store.specs.WellFormed.{IsWellFormed}
use Rattle.ex_image.specs.declared.tag.Tag.{Tag}
use Rattle.ex_image.specs.declared.tag.Tag.TheVariants as tags
use Rattle.ex_image.specs.declared.version.Version.{Version}
use Rattle.ex_image.specs.Grammar.{IsImageIn, Leads, Makes, MayStand, are_told_in}
use Rattle.ex_image.specs.Image.{directory_record, file_record, logical_record, records_of, request_record, text_in}
use Rattle.ex_image.specs.Reading.{may_follow, start}
use Rattle.ex_image.specs.Record.{Entry, Connected, End, Head}
use Rattle.ex_image.proofs.Endings.{whole}
use Rattle.ex_image.proofs.Leads.{leads_append}
use Rattle.ex_image.proofs.Runs.{after_all, of_last, run_leads}
use Rattle.ex_image.proofs.Stands.{faultless_is}
use Rattle.ex_image.proofs.RecordTexts.{at_directories, at_logical, at_queue, at_rows, connected_stands, directories_run, logical_run, queue_run, rows_run}

head_stands : (version : Version) → MayStand start (Head version, [])
head_stands version = record {
  shape = refl;
  written = tt;
  place = refl;
  content = refl;
  faultless = faultless_is empty_state (Head version) (record { range = refl; there = refl; above = refl; room = refl });
}

end_stands : (version : Version) (state : State) (last : Tag) → may_follow last tags.End ≡ true
    → MayStand (record { version = version; last = last; state = state }) (End, [])
end_stands version state last place = record {
  shape = refl;
  written = tt;
  place = place;
  content = refl;
  faultless = faultless_is state End (record { range = refl; there = refl; above = refl; room = refl });
}

-- after some directories one is connected
connected_next : (name : List ℕ) (directories : List Directory) → has_directory name directories ≡ true
    → may_follow (after_all tags.Head tags.Directory directories) tags.Connected ≡ true
connected_next name [] there = absurd (cc)
connected_next name (directory ∷ directories) there =
    of_last (λ last. may_follow last tags.Connected ≡ true) tags.Directory tags.Directory directories refl refl

-- the last record before the files, before the queue and before the end
abbrev named_last : State → Tag
named_last state = after_all tags.Connected tags.Logical state.logical

abbrev filed_last : State → Tag
filed_last state = after_all (named_last state) tags.File state.rows

abbrev queued_last : State → Tag
queued_last state = after_all (filed_last state) tags.Request state.queue

-- what may follow a logical name and a connected directory
late : (state : State) (next : Tag) → may_follow tags.Connected next ≡ true → may_follow tags.Logical next ≡ true
    → may_follow (named_last state) next ≡ true
late state next first second =
    of_last (λ last. may_follow last next ≡ true) tags.Connected tags.Logical state.logical first second

later : (state : State) (next : Tag) → may_follow tags.Connected next ≡ true → may_follow tags.Logical next ≡ true
    → may_follow tags.File next ≡ true → may_follow (filed_last state) next ≡ true
later state next first second third =
    of_last (λ last. may_follow last next ≡ true) (named_last state) tags.File state.rows (late state next first second)
    third

latest : (state : State) → may_follow (queued_last state) tags.End ≡ true
latest state =
    of_last (λ last. may_follow last tags.End ≡ true) (filed_last state) tags.Request state.queue
    (later state tags.End refl refl refl) refl

-- the records before the files, before the queue and before the end
abbrev pub named_records : Version → State → List (Entry × List ℕ)
named_records version state =
    ((Head version, []) ∷ map directory_record state.directories)
    ++ (Connected state.connected, []) ∷ map logical_record state.logical

abbrev pub filed_records : Version → State → List (Entry × List ℕ)
filed_records version state = named_records version state ++ map (file_record version) state.rows

abbrev pub queued_records : Version → State → List (Entry × List ℕ)
queued_records version state = filed_records version state ++ map request_record state.queue

names_lead : (version : Version) (state : State) → IsWellFormed state
    → Leads start (named_records version state) (at_logical version state (named_last state) state.logical)
names_lead version state good =
    let last = after_all tags.Head tags.Directory state.directories in
    let next = connected_next state.connected state.directories good.connected_there in
    leads_append start (at_directories version last state.directories)
    (at_logical version state (named_last state) state.logical)
    ((Head version, []) ∷ map directory_record state.directories)
    ((Connected state.connected, []) ∷ map logical_record state.logical) (
      head_stands version,
      run_leads state.directories (at_directories version) directory_record tags.Directory
          (directories_run version state good.draft) tags.Head refl,
    ) (
      connected_stands version state good last next,
      run_leads state.logical (at_logical version state) logical_record tags.Logical
          (logical_run version state good.draft) tags.Connected refl,
    )

files_lead : (version : Version) (state : State) → IsWellFormed state → are_told_in version state.rows ≡ true
    → Leads start (filed_records version state) (at_rows version state (filed_last state) state.rows)
files_lead version state good told =
    leads_append start (at_logical version state (named_last state) state.logical)
    (at_rows version state (filed_last state) state.rows)
    (named_records version state) (map (file_record version) state.rows) (names_lead version state good)
    (run_leads state.rows (at_rows version state) (file_record version) tags.File
    (rows_run version state good.draft told) (named_last state) (late state tags.File refl refl))

queue_leads : (version : Version) (state : State) → IsWellFormed state → are_told_in version state.rows ≡ true
    → Leads start (queued_records version state) (at_queue version state (queued_last state) state.queue)
queue_leads version state good told =
    leads_append start (at_rows version state (filed_last state) state.rows)
    (at_queue version state (queued_last state) state.queue)
    (filed_records version state) (map request_record state.queue) (files_lead version state good told)
    (run_leads state.queue (at_queue version state) request_record tags.Request (queue_run version state good.draft)
    (filed_last state) (later state tags.Request refl refl refl))

-- the records of a well-formed state may stand one after the other, in a version that tells all of its files
records_lead : (version : Version) (state : State) → IsWellFormed state → are_told_in version state.rows ≡ true
    → Leads start (records_of version state) (whole version state)
records_lead version state good told =
    leads_append start (at_queue version state (queued_last state) state.queue) (whole version state)
    (queued_records version state) ((End, []) ∷ []) (queue_leads version state good told)
    (end_stands version state (queued_last state) (latest state), refl)

-- the text of such a state is its image
pub image_told : (version : Version) (bytes : List ℕ) (state : State) → IsWellFormed state
    → are_told_in version state.rows ≡ true → bytes ≡ text_in version state → IsImageIn version bytes state
unfolding IsImageIn Makes
image_told version bytes state good told text = (
  records_of version state,
  records_lead version state good told,
  text ∙ sym (append-nil (text_in version state)),
)
