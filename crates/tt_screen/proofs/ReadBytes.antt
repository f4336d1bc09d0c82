-- The bytes read so far, and what they leave on the screen.
-- What is said of a value that forgets (Kept) is said of any value that it is kept of, as in
-- (grid : Grid) → self.old ≡ kept_of grid → .., and a loop cites the clause at the screen that its invariant names
-- (fed_more).
use Rattle.std.proofs.Common.{◌≡◌, ℕ, zero, suc, ◌+◌, ◌≤◌, Bool, List, [], ◌∷◌, ◌++◌, length, refl, ap, sym, subst, ◌∙◌, arith, append_assoc, length-append}
use Rattle.std.specs.Bool.{IsTrue}
use Rattle.cm_io.specs.Fault.{next_count}
use Rattle.tt_screen.specs.End.{gets_after}
use Rattle.tt_screen.specs.Grid.{Grid, blank_grid, feed, feed_byte}
use Rattle.tt_screen.specs.KeptRows.{Kept, kept_of}
use Rattle.tt_screen.proofs.Feeds.{feed-append, column-feed}

-- so many gets were asked
abbrev pub Asked : ℕ → ℕ → ℕ → Type 0
Asked gets now zero = now ≡ gets
Asked gets now (suc count) = now ≡ gets_after gets (suc count)

-- one get more
pub asked_more : (gets now later count : ℕ) → Asked gets now count → later ≡ next_count now → later ≡ gets_after gets (count + 1)
asked_more gets now later zero asked more = omega (arith, asked, more)
asked_more gets now later (suc count) asked more = omega (arith, asked, more)

pub asked_turn : (gets later count : ℕ) → later ≡ gets_after gets (count + 1) → Asked gets later (count + 1)
asked_turn gets later count more =
    let same : suc count ≡ count + 1 = omega arith in
    subst (λ n. Asked gets later n) same (more ∙ ap (λ n. gets_after gets n) (sym same))

-- so many bytes were taken of a source that tells its bytes, and they are on the screen
pub record Fed (tells : Bool) (before now : List ℕ) (screen : Kept) (count : ℕ) : Type 0 where
  pub taken : List ℕ
  pub joined : IsTrue tells → taken ++ now ≡ before
  pub counted : length taken ≡ count
  pub shows : screen ≡ kept_of (feed blank_grid taken)

pub fed_none : (tells : Bool) (before : List ℕ) (screen : Kept) → screen ≡ kept_of blank_grid → Fed tells before before screen 0
fed_none tells before screen blank = record { taken = []; joined = λ told. refl; counted = refl; shows = blank }

module _ (tells : Bool) (before now : List ℕ) (screen : Kept) (count : ℕ) (fed : Fed tells before now screen count) where
  -- the column is no further than their number
  pub fed_column : screen.column ≤ count
  fed_column =
      let column : screen.column ≡ (feed blank_grid fed.taken).column = ap (λ (kept : Kept). kept.column) fed.shows in
      omega (arith, column-feed blank_grid fed.taken, fed.counted)

  -- one byte more
  pub fed_more : (later : List ℕ) (byte : ℕ) (screen' : Kept) → (IsTrue tells → now ≡ byte ∷ later)
      → ((grid : Grid) → screen ≡ kept_of grid → screen' ≡ kept_of (feed_byte grid byte)) → Fed tells before later screen' (count + 1)
  fed_more later byte screen' got feeds = record {
    taken = fed.taken ++ byte ∷ [];
    joined = λ told. append_assoc fed.taken (byte ∷ []) later ∙ ap (λ left. fed.taken ++ left) (sym (got told)) ∙ fed.joined told;
    counted = omega (arith, length-append fed.taken (byte ∷ []), fed.counted);
    shows =
        feeds (feed blank_grid fed.taken) fed.shows ∙ ap kept_of (sym (feed-append blank_grid fed.taken (byte ∷ [])));
  }
