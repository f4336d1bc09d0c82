-- The texts that a program over a store shows of itself.
use Rattle.std.specs.Prelude.{ℕ, List, [], ◌++◌, codes}
use Rattle.std.specs.Fmt.{decimal}
use Rattle.cm_text.specs.ScreenBytes.{end_of_line}
use Rattle.cm_io.specs.declared.status.Kind.{Kind}
use Rattle.cm_io.specs.declared.status.Kind.TheVariants as kinds
use Rattle.cm_io.specs.declared.status.Status.{Status}
use Rattle.cm_io.specs.declared.status.Status.TheVariants as status

-- the word for a kind of fault of an image
unfoldable pub kind_text : Kind → List ℕ
kind_text kinds.Cut = codes "Cut"
kind_text kinds.Form = codes "Form"
kind_text kinds.Range = codes "Range"
kind_text kinds.Name = codes "Name"
kind_text kinds.Order = codes "Order"
kind_text kinds.Limit = codes "Limit"

-- the message of a status, but for the place and the kind of a fault. What words a program takes, and what stopped it,
-- it shows itself
unfoldable pub message_head : Status → List ℕ
message_head status.Done = []
message_head status.Usage = []
message_head (status.BadImage at kind) = codes "?Image is bad at "
message_head status.HostFault = codes "?Host fault"
message_head status.ReadFault = codes "?Read fault"
message_head status.WriteFault = []
message_head status.NoMemory = codes "?No memory"
message_head status.KeyLimit = codes "?Too many keys"
message_head status.NoImage = codes "?No image"
message_head status.ImageTooLarge = codes "?Image too large"
message_head status.Stopped = []

-- between the place and the kind
unfoldable pub colon : List ℕ
colon = codes ": "

-- where the bytes are no image, and why
unfoldable pub fault_text : ℕ → Kind → List ℕ
fault_text at kind = decimal at ++ colon ++ kind_text kind

-- the message and the end of its line; nothing where there is no message
abbrev pub message : Status → List ℕ
message status.Done = []
message status.Usage = []
message status.WriteFault = []
message status.Stopped = []
message (status.BadImage at kind) = message_head (status.BadImage at kind) ++ fault_text at kind ++ end_of_line
message result = message_head result ++ end_of_line

-- nothing is said of these
abbrev pub IsSilent : Status → Type 0
IsSilent status.Done = Unit {0}
IsSilent status.Usage = Unit {0}
IsSilent status.WriteFault = Unit {0}
IsSilent status.Stopped = Unit {0}
IsSilent result = ⊥
