-- Phrases that are put one after the other.
use Rattle.std.proofs.Common.{◌≡◌, ℕ, ◌+◌, Bool, false, List, [], ◌∷◌, ◌++◌, drop, refl, ap, sym, ◌∙◌, ◌<◌, length, get_or, append_assoc}
use Rattle.std.specs.List.{flat_map}
use Rattle.cm_lists.proofs.Elements.{drop_here}
use Rattle.cm_blocks.specs.declared.node.Block.{Block}
use Rattle.cm_blocks.specs.FieldView.{FieldView}
use Rattle.cm_blocks.specs.Setting.{Setting}
use Rattle.cm_blocks.specs.Trial.{trial}
use Rattle.cm_help.specs.Help.{lead, listing, phrases, possible, refuses}

-- further phrases after others
listing_on : (phrases more : List (List ℕ)) → listing false (phrases ++ more) ≡ listing false phrases ++ listing false more
listing_on [] more = refl
listing_on (phrase ∷ phrases) more =
    ap (λ bytes. (lead false ++ phrase) ++ bytes) (listing_on phrases more)
    ∙ sym (append_assoc (lead false ++ phrase) (listing false phrases) (listing false more))

-- after a first phrase all others are further ones
pub listing_append : (first : Bool) (phrase : List ℕ) (phrases more : List (List ℕ))
    → listing first ((phrase ∷ phrases) ++ more) ≡ listing first (phrase ∷ phrases) ++ listing false more
listing_append first phrase phrases more =
    ap (λ bytes. (lead first ++ phrase) ++ bytes) (listing_on phrases more)
    ∙ sym (append_assoc (lead first ++ phrase) (listing false phrases) (listing false more))

-- the phrases of those of these blocks that do not refuse
abbrev pub left : Setting → List FieldView → List ℕ → ℕ → Bool → List Block → List ℕ
left s fields atom at first blocks =
    listing first (flat_map (phrases s.graph s.meanings fields atom) (possible s atom at blocks))

-- any other gives its own, and what follows are further ones
pub left_more : (s : Setting) (fields : List FieldView) (atom : List ℕ) (at : ℕ) (first : Bool) (block : Block)
    (more : List Block) → refuses (trial s block.function block.flags atom at) ≡ false
    → left s fields atom at first (block ∷ more)
    ≡ listing first (phrases s.graph s.meanings fields atom block) ++ left s fields atom at false more
left_more s fields atom at first block more is = rw is (listing_append first _ _ _)

-- the same of the block with a number that does not refuse, where this is what is typed
pub left_here : (s : Setting) (fields : List FieldView) (atom typed : List ℕ) (at : ℕ) (first : Bool)
    (blocks : List Block) (i : ℕ) (block : Block)
    → typed ≡ atom → i < length blocks → block ≡ get_or blocks i block
    → refuses (trial s block.function block.flags atom at) ≡ false
    → left s fields atom at first (drop i blocks)
    ≡ listing first (phrases s.graph s.meanings fields typed block) ++ left s fields atom at false (drop (i + 1) blocks)
left_here s fields atom typed at first blocks i block same within is taken =
    ap (left s fields atom at first) (drop_here blocks i block within is)
    ∙ left_more s fields atom at first block (drop (i + 1) blocks) taken
    ∙ ap (λ (typed : List ℕ). listing first (phrases s.graph s.meanings fields typed block)
    ++ left s fields atom at false (drop (i + 1) blocks)) (sym same)
