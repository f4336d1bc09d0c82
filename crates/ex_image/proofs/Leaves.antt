-- Records that are appended one by one: of the whole some bytes are appended, and the rest is left.
-- Series lends four lists by number to one loop, whose invariant is Leaves.
use Rattle.std.proofs.Common.{◌≡◌, ◌+◌, ℕ, Bool, List, [], ◌∷◌, ◌++◌, drop, slice_get, Some, sym, ap, subst, ◌∙◌, append_assoc}
use Rattle.std.proofs.lemmas.List.{drop_more}
use Rattle.std.proofs.lemmas.Option.{get_or_from_slice_get, slice_get_within}
use Rattle.std.specs.List.{flat_map}
use Rattle.cm_io.specs.declared.sink.Put.TheVariants.{Done, Failed}
use Rattle.ex_image.specs.Record.{Entry, record_text}
use Rattle.ex_image.specs.Writing.{Appends, Outside}
use Rattle.ex_image.proofs.Appends.{appends_both, appends_early}

-- of the whole these bytes are appended, and the rest is left
pub record Leaves (tells : Bool) (before now : Outside) (rest whole : List ℕ) : Type 0 where
  pub written : List ℕ
  pub appended : Appends tells before now written Done
  pub joined : written ++ rest ≡ whole

-- a piece more is appended
pub leaves_less : (tells : Bool) (before now later : Outside) (rest piece more whole : List ℕ)
    → Leaves tells before now rest whole → rest ≡ piece ++ more → Appends tells now later piece Done
    → Leaves tells before later more whole
leaves_less tells before now later rest piece more whole left splits put = record {
  written = left.written ++ piece;
  appended = appends_both tells before now later left.written piece Done left.appended put;
  joined =
      append_assoc left.written piece more ∙ ap (λ bytes. left.written ++ bytes) (sym splits) ∙ left.joined;
}

-- where a part of a piece is appended, a part of the whole is
pub leaves_part : (tells : Bool) (before now later : Outside) (rest piece more whole : List ℕ)
    → Leaves tells before now rest whole → rest ≡ piece ++ more → Appends tells now later piece Failed
    → Appends tells before later whole Failed
leaves_part tells before now later rest piece more whole left splits put =
    let joined : (left.written ++ piece) ++ more ≡ whole =
    append_assoc left.written piece more ∙ ap (λ bytes. left.written ++ bytes) (sym splits) ∙ left.joined in
    subst (λ bytes. Appends tells before later bytes Failed) joined
    (appends_early tells before later (left.written ++ piece) more
    (appends_both tells before now later left.written piece Failed left.appended put))

-- the texts of these records, from one on, begin with its own
pub record_here : (records : List (Entry × List ℕ)) (i : ℕ) (here : Entry × List ℕ) → slice_get records i ≡ Some here
    → flat_map record_text (drop i records) ≡ record_text here ++ flat_map record_text (drop (i + 1) records)
record_here records i here is =
    ap (flat_map record_text)
    (drop_more records i here (slice_get_within records i here is)
    ∙ ap (λ first. first ∷ drop (i + 1) records) (get_or_from_slice_get records i here here is))

-- after its line, the bytes of a file and a line feed
pub file_joined : (line text held bytes : List ℕ) → line ≡ text ++ 10 ∷ [] → held ≡ bytes
    → (line ++ held) ++ 10 ∷ [] ≡ text ++ 10 ∷ (bytes ++ 10 ∷ [])
file_joined line text held bytes is holds =
    append_assoc line held (10 ∷ []) ∙ ap (λ line. line ++ (held ++ 10 ∷ [])) is
    ∙ append_assoc text (10 ∷ []) (held ++ 10 ∷ []) ∙ ap (λ bytes. text ++ 10 ∷ (bytes ++ 10 ∷ [])) holds
