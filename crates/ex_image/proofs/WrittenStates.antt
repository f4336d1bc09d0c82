-- The records that were read are those of the state that they make.
use Rattle.std.proofs.Common.{◌≡◌, ℕ, true, List, [], ◌∷◌, ◌++◌, length, map, refl, ap, sym, ◌∙◌, append_assoc}
use Rattle.std.specs.List.{flat_map}
use Rattle.std.proofs.lemmas.Bool.{false≢true}
use Rattle.std.proofs.lemmas.List.{append-nil, map_push}
use Rattle.ex_store.specs.declared.queue.QueueEntry.{QueueEntry}
use Rattle.ex_store.specs.declared.row.Row.{Row}
use Rattle.ex_store.specs.State.{State}
use Rattle.ex_store.specs.WellFormed.{IsWellFormed}
use Rattle.ex_image.specs.declared.tag.Tag.{Tag}
use Rattle.ex_image.specs.declared.tag.Tag.TheVariants as tags
use Rattle.ex_image.specs.declared.version.Version.{Version}
use Rattle.ex_image.specs.Grammar.{HasContent, IsImageIn, IsWrittenIn, Leads, Makes, is_shaped}
use Rattle.ex_image.specs.Image.{directory_record, file_record, logical_record, records_of, request_record, text_in}
use Rattle.ex_image.specs.Reading.{Reading, may_follow, start, tag_of, version_after, with_entry, with_record}
use Rattle.ex_image.specs.Record.{Entry, Head, Directory, Connected, Logical, File, Request, End, record_text}
use Rattle.ex_image.proofs.Drafts.{IsSound, makes_sound, sound_more, start_sound}
use Rattle.ex_image.proofs.Endings.{whole}
use Rattle.ex_image.proofs.LineLaws.{file_shape}
use Rattle.ex_image.proofs.Stands.{Stands}

-- the records of a state as far as its directories
abbrev front : Version → State → List (Entry × List ℕ)
front version state = (Head version, []) ∷ map directory_record state.directories

-- and as far as its queue
abbrev body : Version → State → List (Entry × List ℕ)
body version state =
    front version state
    ++ ((Connected state.connected, []) ∷ map logical_record state.logical)
    ++ map (file_record version) state.rows
    ++ map request_record state.queue

-- the records of a state that were read, by the last of them
abbrev pub written : Version → Tag → State → List (Entry × List ℕ)
written version tags.Start state = []
written version tags.Head state = front version state
written version tags.Directory state = front version state
written version tags.Connected state = body version state
written version tags.Logical state = body version state
written version tags.File state = body version state
written version tags.Request state = body version state
written version tags.End state = records_of version state

-- one more at the end of a list that others, which are empty, follow
connected_place : {X : Type 0} (front logical rows queue : List X) (x : X) → logical ≡ [] → rows ≡ [] → queue ≡ []
    → ((front ++ (x ∷ logical)) ++ rows) ++ queue ≡ front ++ x ∷ []
connected_place front logical rows queue x unnamed none nobody = rw (unnamed, none, nobody) (simp append-nil)

logical_place : {X : Type 0} (front logical rows queue : List X) (x : X) → rows ≡ [] → queue ≡ []
    → ((front ++ (logical ++ x ∷ [])) ++ rows) ++ queue ≡ (((front ++ logical) ++ rows) ++ queue) ++ x ∷ []
logical_place front logical rows queue x none nobody = rw (none, nobody) (simp (append-nil, append_assoc))

rows_place : {X : Type 0} (front rows queue : List X) (x : X) → queue ≡ []
    → (front ++ (rows ++ x ∷ [])) ++ queue ≡ ((front ++ rows) ++ queue) ++ x ∷ []
rows_place front rows queue x none = rw none (simp (append-nil, append_assoc))

head_written : (version : Version) (state : State) (bytes : List ℕ) → state.directories ≡ [] → bytes ≡ []
    → front version state ≡ (Head version, bytes) ∷ []
head_written version state bytes none content = rw (none, content) refl

directory_written : (version : Version) (state : State) (name : List ℕ) (retention : ℕ) (bytes : List ℕ) → bytes ≡ []
    → front version (with_entry state (Directory name retention) bytes)
    ≡ front version state ++ (Directory name retention, bytes) ∷ []
directory_written version state name retention bytes content =
    rw content
    (ap (λ xs. (Head version, []) ∷ xs)
    (map_push directory_record state.directories (record { name = name; retention = retention })))

connected_written : (version : Version) (state : State) (name bytes : List ℕ) → state.logical ≡ [] → state.rows ≡ []
    → state.queue ≡ [] → bytes ≡ []
    → body version (record state { connected = name }) ≡ front version state ++ (Connected name, bytes) ∷ []
connected_written version state name bytes unnamed none nobody content =
    rw content
    (connected_place (front version state) (map logical_record state.logical) (map (file_record version) state.rows)
    (map request_record state.queue) (Connected name, []) (ap (map logical_record) unnamed)
    (ap (map (file_record version)) none) (ap (map request_record) nobody))

logical_written : (version : Version) (state : State) (name directory bytes : List ℕ) → state.rows ≡ []
    → state.queue ≡ [] → bytes ≡ []
    → body version (with_entry state (Logical name directory) bytes)
    ≡ body version state ++ (Logical name directory, bytes) ∷ []
logical_written version state name directory bytes none nobody content =
    rw (map_push logical_record state.logical (record { name = name; directory = directory }), content)
    (logical_place (front version state) ((Connected state.connected, []) ∷ map logical_record state.logical)
    (map (file_record version) state.rows) (map request_record state.queue) (Logical name directory, [])
    (ap (map (file_record version)) none) (ap (map request_record) nobody))

-- the record of a row that was read
row_record : (version written : Version) (row : Row) (size : ℕ) (bytes : List ℕ) → written ≡ version
    → row.file.bytes ≡ [] → length bytes ≡ size
    → file_record version (record row { file = record row.file { bytes = bytes } }) ≡ (File written row size, bytes)
row_record version written row size bytes same none content = rw (same, content, ← none) refl

file_written : (version written : Version) (state : State) (row : Row) (size : ℕ) (bytes : List ℕ)
    → written ≡ version → state.queue ≡ [] → row.file.bytes ≡ [] → length bytes ≡ size
    → body version (with_entry state (File written row size) bytes)
    ≡ body version state ++ (File written row size, bytes) ∷ []
file_written version written state row size bytes same nobody none content =
    rw (map_push (file_record version) state.rows (record row { file = record row.file { bytes = bytes } }))
    (rw (row_record version written row size bytes same none content)
    (rows_place (front version state ++ ((Connected state.connected, []) ∷ map logical_record state.logical))
    (map (file_record version) state.rows) (map request_record state.queue) (File written row size, bytes)
    (ap (map request_record) nobody)))

request_written : (version : Version) (state : State) (entry : QueueEntry) (bytes : List ℕ) → bytes ≡ []
    → body version (with_entry state (Request entry) bytes) ≡ body version state ++ (Request entry, bytes) ∷ []
request_written version state entry bytes content =
    rw (map_push request_record state.queue entry, content)
    (sym (append_assoc (front version state ++ ((Connected state.connected, []) ∷ map logical_record state.logical)
    ++ map (file_record version) state.rows) (map request_record state.queue) ((Request entry, []) ∷ [])))

end_written : (version : Version) (state : State) (bytes : List ℕ) → bytes ≡ []
    → records_of version state ≡ body version state ++ (End, bytes) ∷ []
end_written version state bytes content = rw content refl

written_more : (version : Version) (last : Tag) (state : State) (entry : Entry) (bytes : List ℕ) → Stands last state
    → may_follow last (tag_of entry) ≡ true → is_shaped entry ≡ true → IsWrittenIn version entry
    → HasContent entry bytes
    → written (version_after version entry) (tag_of entry) (with_entry state entry bytes)
    ≡ written version last state ++ (entry, bytes) ∷ []
written_more version tags.Start state (Head told) bytes stands place shape same content =
    head_written told state bytes stands.0 content
written_more version tags.Head state (Directory name retention) bytes stands place shape same content =
    directory_written version state name retention bytes content
written_more version tags.Directory state (Directory name retention) bytes stands place shape same content =
    directory_written version state name retention bytes content
written_more version tags.Directory state (Connected name) bytes stands place shape same content =
    connected_written version state name bytes stands.0 stands.1 stands.2 content
written_more version tags.Connected state (Logical name directory) bytes stands place shape same content =
    logical_written version state name directory bytes stands.1 stands.2 content
written_more version tags.Connected state (File told row size) bytes stands place shape same content =
    file_written version told state row size bytes same stands.2 (file_shape told row size shape).blank content
written_more version tags.Connected state (Request entry) bytes stands place shape same content =
    request_written version state entry bytes content
written_more version tags.Connected state End bytes stands place shape same content =
    end_written version state bytes content
written_more version tags.Logical state (Logical name directory) bytes stands place shape same content =
    logical_written version state name directory bytes stands.0 stands.1 content
written_more version tags.Logical state (File told row size) bytes stands place shape same content =
    file_written version told state row size bytes same stands.1 (file_shape told row size shape).blank content
written_more version tags.Logical state (Request entry) bytes stands place shape same content =
    request_written version state entry bytes content
written_more version tags.Logical state End bytes stands place shape same content =
    end_written version state bytes content
written_more version tags.File state (File told row size) bytes stands place shape same content =
    file_written version told state row size bytes same stands.0 (file_shape told row size shape).blank content
written_more version tags.File state (Request entry) bytes stands place shape same content =
    request_written version state entry bytes content
written_more version tags.File state End bytes stands place shape same content =
    end_written version state bytes content
written_more version tags.Request state (Request entry) bytes stands place shape same content =
    request_written version state entry bytes content
written_more version tags.Request state End bytes stands place shape same content =
    end_written version state bytes content
written_more version last state entry bytes stands place shape same content = absurd (false≢true place)

-- what records add
pub leads_written : (from to : Reading) (records : List (Entry × List ℕ)) → IsSound from → Leads from records to
    → written to.version to.last to.state ≡ written from.version from.last from.state ++ records
leads_written from to [] sound leads =
    ap (λ (at : Reading). written at.version at.last at.state) leads
    ∙ sym (append-nil (written from.version from.last from.state))
leads_written from to (next ∷ records) sound leads =
    leads_written (with_record from next) to records (sound_more from next sound leads.0) leads.1
    ∙ ap (λ xs. xs ++ records)
    (written_more from.version from.last from.state next.0 next.1 sound.stands leads.0.place leads.0.shape
    leads.0.written leads.0.content)
    ∙ append_assoc (written from.version from.last from.state) (next ∷ []) records

-- the records that were read are those of the state
records_read : (version : Version) (state : State) (records : List (Entry × List ℕ))
    → Leads start records (whole version state) → records ≡ records_of version state
records_read version state records leads =
    sym (leads_written start (whole version state) records start_sound leads)

-- an image is the text of its state in its version, which is well formed
pub image_of : (version : Version) (bytes : List ℕ) (state : State) → IsImageIn version bytes state
    → IsWellFormed state × (bytes ≡ text_in version state)
unfolding IsImageIn Makes
image_of version bytes state image =
    let sound = makes_sound bytes (whole version state) [] image in (
      record { draft = sound.draft; connected_there = sound.stands },
      image.2 ∙ append-nil (flat_map record_text image.0)
          ∙ ap (flat_map record_text) (records_read version state image.0 image.1),
    )
