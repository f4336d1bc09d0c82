-- An image as a host is given it, write by write, with `/` between the pieces: the host is asked to load IN, to create
-- OUT, to write each piece, and to close OUT.
use Rattle.std.specs.Prelude.{ℕ, ◌+◌, ◌-◌, ◌==◌, nat_lt, Bool, false, if◌then◌else◌, List, length, take, Option, Some, None}
use Rattle.std.specs.List.{concat, slice_split}

unfoldable pub pieces : List ℕ → List (List ℕ)
pieces image = slice_split (λ byte. byte == 47) image

-- how many calls there are
unfoldable pub calls_of : List ℕ → ℕ
calls_of image = length (pieces image) + 3

-- whether the call that fails is one of them
abbrev pub is_lost : Option ℕ → List ℕ → Bool
is_lost None image = false
is_lost (Some call) image = nat_lt call (calls_of image)

-- what OUT is then, if it was created
abbrev pub out_at : Option ℕ → List ℕ → Option (List ℕ)
out_at None image = Some (concat (pieces image))
out_at (Some call) image = if nat_lt call 2 then None else Some (concat (take (call - 2) (pieces image)))
