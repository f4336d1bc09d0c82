-- Bytes appended to a file.
use Rattle.std.proofs.Common.{ℕ, List, [], ◌++◌, take, drop, refl, ap, sym}
use Rattle.std.specs.Prelude.{Some}
use Rattle.std.proofs.lemmas.List.{append-nil, take-append-drop}
use Rattle.cm_io.specs.Host.{AppendsPart}

-- a file that stays as it is had none of the bytes appended
pub appends_nothing : (content bytes : List ℕ) → AppendsPart (Some content) (Some content) bytes
appends_nothing content bytes = record {
  part = [];
  is_part = record { rest = bytes; joined = refl };
  appended = ap Some (sym (append-nil content));
}

-- a prefix of the bytes is a part of them
pub appends_prefix : (content bytes : List ℕ) (n : ℕ)
    → AppendsPart (Some content) (Some (content ++ take n bytes)) bytes
appends_prefix content bytes n = record {
  part = take n bytes;
  is_part = record { rest = drop n bytes; joined = take-append-drop n bytes };
  appended = refl;
}
