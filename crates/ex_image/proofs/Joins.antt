-- The parts of an image make the image.
use Rattle.std.proofs.Common.{◌≡◌, ℕ, List, [], ◌∷◌, ◌++◌, map, append_assoc}
use Rattle.std.proofs.lemmas.Grind.{flat_map-append}
use Rattle.std.proofs.lemmas.List.{append-nil}
use Rattle.std.specs.List.{flat_map}
use Rattle.ex_store.specs.State.{State}
use Rattle.ex_image.specs.declared.version.Version.TheVariants as versions
use Rattle.ex_image.specs.Image.{directory_record, file_record, image_text, logical_record, request_record}
use Rattle.ex_image.specs.Record.{Head, Connected, End, record_text}

-- texts of records, part by part
parts_joined : {X : Type 0} (text : X → List ℕ) (head connected last : X) (directories logical files queue : List X)
    → ((text head ++ flat_map text directories) ++ (text connected ++ flat_map text logical))
    ++ ((flat_map text files ++ flat_map text queue) ++ text last)
    ≡ flat_map text ((head ∷ directories) ++ (connected ∷ logical) ++ files ++ queue ++ last ∷ [])
parts_joined text head connected last directories logical files queue = simp (flat_map-append, append_assoc, append-nil)

-- the texts of a state's parts make its image
pub image_joined : (state : State)
    → ((record_text (Head versions.Two, []) ++ flat_map record_text (map directory_record state.directories))
    ++ (record_text (Connected state.connected, []) ++ flat_map record_text (map logical_record state.logical)))
    ++ ((flat_map record_text (map (file_record versions.Two) state.rows) ++ flat_map record_text (map request_record state.queue))
    ++ record_text (End, []))
    ≡ image_text state
image_joined state =
    parts_joined record_text (Head versions.Two, []) (Connected state.connected, []) (End, [])
    (map directory_record state.directories) (map logical_record state.logical)
    (map (file_record versions.Two) state.rows) (map request_record state.queue)
