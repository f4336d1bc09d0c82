-- Texts that a writer writes one after another.
-- Any number of pieces closes with using(..texts) and unfolding(..) of the function's own word. A loop over a slice has
-- using(..each) and Writes g.S.Sink l.fn.out l.out (flat_map text_of (take l.item-index l.items)). Another walk has
-- Left g.S.Sink l.fn.out l.out REST WHOLE, using(..turns) and one answer, how the rest splits. An if that puts in one
-- branch alone needs using(texts, each), a guard that returns early writes_none, a returning arm that writes nothing
-- each. The premise of the last text is first in writes_both: in the other order three pieces stay open. Writes has
-- the ghost name of the borrow in it (same), so each function must say it; only the search, and no answer by hand, can
-- name the sink.
use Rattle.std.proofs.Common.{arith, ◌≤◌, ◌≡◌, ℕ, ◌+◌, ◌<◌, List, [], ◌∷◌, ◌++◌, length, take, get_or, map, refl, ap, sym, subst, ◌∙◌, append_assoc}
use Rattle.std.proofs.lemmas.List.{append-nil, map-append, take_more}
use Rattle.std.proofs.lemmas.Grind.{flat_map-append}
use Rattle.cm_io.specs.declared.sink.Sink.{Ghosts}
use Rattle.cm_io.specs.declared.writer.Writer.{Writer}
use Rattle.cm_io.specs.declared.sink.Put.{Put}
use Rattle.cm_io.specs.declared.sink.Put.TheVariants.{Done, Failed}
use Rattle.cm_io.specs.Contents.{add}
use Rattle.cm_io.specs.Fault.{PutCause}
use Rattle.cm_io.specs.Writer.{Gives, Holds, Outlet, PutsOn, Rests, Writes, outlet}
use Rattle.cm_io.proofs.Additions.{add_append, add_none}
pub use Rattle.cm_io.specs.Writer.{Left}
use Rattle.std.specs.List.{flat_map}
use Rattle.cm_text.specs.ScreenBytes.{end_of_line}
use Rattle.cm_io.specs.Pieces.{shown_line, shown_lines, times}
use Rattle.cm_io.proofs.Repeats.{times_none, times_more}

-- both texts, where the first is given or held
gives_both : (a b c : Outlet) (first second : List ℕ) (middle : Put) → b.outcome ≡ middle → PutsOn middle b c second
    → Gives a b first → Gives a c (first ++ second)
gives_both a b c first second Done is late early =
    let held : early.rest ≡ b.held = subst (λ outcome. Holds outcome early.rest b.held) is early.holds in
    let stays : b.faults ≡ a.faults = subst (λ outcome. PutCause a.faults b.faults outcome) is early.cause in
    record {
      given = early.given ++ late.given;
      rest = late.rest;
      joined = append_assoc early.given late.given late.rest
          ∙ ap (λ bytes. early.given ++ bytes) (late.joined ∙ ap (λ bytes. bytes ++ second) (sym held))
          ∙ sym (append_assoc early.given early.rest second) ∙ ap (λ bytes. bytes ++ second) early.joined
          ∙ append_assoc a.held first second;
      added = late.added ∙ ap (λ contents. add contents late.given) early.added
          ∙ sym (add_append a.contents early.given late.given);
      rise = subst (λ n. n ≤ c.faults) stays late.rise;
      cause = subst (λ n. PutCause n c.faults c.outcome) stays late.cause;
      holds = late.holds;
    }
gives_both a b c first second Failed is late early =
    let failed : PutCause a.faults b.faults c.outcome =
    subst (λ outcome. PutCause a.faults b.faults outcome) (is ∙ sym late.outcome) early.cause in
    record {
      given = early.given;
      rest = early.rest ++ second;
      joined = sym (append_assoc early.given early.rest second) ∙ ap (λ bytes. bytes ++ second) early.joined
          ∙ append_assoc a.held first second;
      added = late.contents ∙ early.added;
      rise = subst (λ n. a.faults ≤ n) (sym late.faults) early.rise;
      cause = subst (λ n. PutCause a.faults n c.outcome) (sym late.faults) failed;
      holds = rw late.outcome tt;
    }

puts_both : (a b c : Outlet) (first second : List ℕ) (before : Put) → PutsOn b.outcome b c second
    → PutsOn before a b first → PutsOn before a c (first ++ second)
puts_both a b c first second Done late early = gives_both a b c first second b.outcome refl late early
puts_both a b c first second Failed late early =
    let rests : Rests b c = subst (λ outcome. PutsOn outcome b c second) early.outcome late in
    record {
      contents = rests.contents ∙ early.contents;
      faults = rests.faults ∙ early.faults;
      outcome = rests.outcome;
    }

-- two texts, one after the other
pub writes_both : {T : Type 0} (s : Ghosts T) (a b c : Writer T) (first second : List ℕ) → Writes s b c second
    → Writes s a b first → Writes s a c (first ++ second)
writes_both s a b c first second late early = record {
  same = late.same ∙ early.same;
  puts = puts_both (outlet s a) (outlet s b) (outlet s c) first second a.outcome late.puts early.puts;
}

puts_none : (at : Outlet) (outcome : Put) → at.outcome ≡ outcome → PutsOn outcome at at []
puts_none at Done is = record {
  given = [];
  rest = at.held;
  joined = sym (append-nil at.held);
  added = sym (add_none at.contents);
  rise = omega arith;
  cause = rw is refl;
  holds = rw is refl;
}
puts_none at Failed is = record { contents = refl; faults = refl; outcome = is }

-- no text
pub writes_none : {T : Type 0} (s : Ghosts T) (a : Writer T) → Writes s a a []
writes_none s a = record { same = refl; puts = puts_none (outlet s a) a.outcome refl }

-- the text of one element more, after those of the elements before it
pub writes_each : {T A : Type 0} (s : Ghosts T) (a b c : Writer T) (f : A → List ℕ) (xs : List A) (i : ℕ) (d : A)
    → i < length xs
    → Writes s b c (f (get_or xs i d)) → Writes s a b (flat_map f (take i xs))
    → Writes s a c (flat_map f (take (i + 1) xs))
writes_each s a b c f xs i d here late early =
    let one : flat_map f (get_or xs i d ∷ []) ≡ f (get_or xs i d) = append-nil (f (get_or xs i d)) in
    let more : flat_map f (take (i + 1) xs) ≡ flat_map f (take i xs) ++ f (get_or xs i d) =
    ap (flat_map f) (take_more xs i d here) ∙ flat_map-append f (take i xs) (get_or xs i d ∷ [])
    ∙ ap (λ text. flat_map f (take i xs) ++ text) one in
    subst (λ text. Writes s a c text) (sym more) (writes_both s a b c (flat_map f (take i xs)) (f (get_or xs i d)) late
    early)

-- no times of a piece
pub writes_no_times : {T : Type 0} (s : Ghosts T) (a : Writer T) (piece : List ℕ) → Writes s a a (times 0 piece)
writes_no_times s a piece = subst (λ text. Writes s a a text) (sym (times_none piece)) (writes_none s a)

-- a piece one time more
pub writes_time : {T : Type 0} (s : Ghosts T) (a b c : Writer T) (n : ℕ) (piece : List ℕ) → Writes s b c piece
    → Writes s a b (times n piece) → Writes s a c (times (n + 1) piece)
writes_time s a b c n piece late early =
    subst (λ text. Writes s a c text) (sym (times_more n piece)) (writes_both s a b c (times n piece) piece late early)

-- at first all is left
pub left_whole : {T : Type 0} (s : Ghosts T) (before : Writer T) (whole : List ℕ) → Left s before before whole whole
left_whole s before whole = record { front = []; writes = writes_none s before; joined = refl }

-- where one more text is written, less is left
pub left_less : {T : Type 0} (s : Ghosts T) (before now later : Writer T) (rest text more whole : List ℕ)
    → Writes s now later text → Left s before now rest whole
    → rest ≡ text ++ more → Left s before later more whole
left_less s before now later rest text more whole writes left splits = record {
  front = left.front ++ text;
  writes = writes_both s before now later left.front text writes left.writes;
  joined = append_assoc left.front text more ∙ ap (λ bytes. left.front ++ bytes) (sym splits) ∙ left.joined;
}

-- where nothing is left, all is written
pub left_nothing : {T : Type 0} (s : Ghosts T) (before now : Writer T) (whole : List ℕ) → Left s before now [] whole
    → Writes s before now whole
left_nothing s before now whole left =
    subst (λ text. Writes s before now text) (sym (append-nil left.front) ∙ left.joined) left.writes

-- no lines
pub writes_no_lines : {T : Type 0} (s : Ghosts T) (a : Writer T) → Writes s a a (shown_lines [])
unfolding shown_lines
writes_no_lines s a = writes_none s a

-- one line
pub writes_line : {T : Type 0} (s : Ghosts T) (a b : Writer T) (line : List ℕ) → Writes s a b (line ++ end_of_line)
    → Writes s a b (shown_lines (line ∷ []))
unfolding shown_lines
writes_line s a b line writes = subst (λ text. Writes s a b text) (sym (append-nil (line ++ end_of_line))) writes

-- lines after others
pub writes_lines : {T : Type 0} (s : Ghosts T) (a b c : Writer T) (first more : List (List ℕ))
    → Writes s b c (shown_lines more) → Writes s a b (shown_lines first) → Writes s a c (shown_lines (first ++ more))
unfolding shown_lines
writes_lines s a b c first more late early =
    subst (λ text. Writes s a c text) (sym (flat_map-append shown_line first more))
    (writes_both s a b c (shown_lines first) (shown_lines more) late early)

-- and after one
pub writes_next : {T : Type 0} (s : Ghosts T) (a b c : Writer T) (line : List ℕ) (more : List (List ℕ))
    → Writes s b c (shown_lines more) → Writes s a b (line ++ end_of_line) → Writes s a c (shown_lines (line ∷ more))
unfolding shown_lines
writes_next s a b c line more late early = writes_both s a b c (line ++ end_of_line) (shown_lines more) late early

-- the line of one element more, after those of the elements before it
pub writes_line_each : {T A : Type 0} (s : Ghosts T) (a b c : Writer T) (f : A → List ℕ) (xs : List A) (i : ℕ) (d : A)
    → i < length xs → Writes s b c (f (get_or xs i d) ++ end_of_line) → Writes s a b (shown_lines (map f (take i xs)))
    → Writes s a c (shown_lines (map f (take (i + 1) xs)))
writes_line_each s a b c f xs i d here late early =
    let more : map f (take (i + 1) xs) ≡ map f (take i xs) ++ f (get_or xs i d) ∷ [] =
    ap (map f) (take_more xs i d here) ∙ map-append f (take i xs) (get_or xs i d ∷ []) in
    subst (λ lines. Writes s a c (shown_lines lines)) (sym more)
    (writes_lines s a b c (map f (take i xs)) (f (get_or xs i d) ∷ []) (writes_line s b c (f (get_or xs i d)) late) early)

-- and its lines
pub writes_lines_each : {T A : Type 0} (s : Ghosts T) (a b c : Writer T) (f : A → List (List ℕ)) (xs : List A) (i : ℕ)
    (d : A) → i < length xs → Writes s b c (shown_lines (f (get_or xs i d)))
    → Writes s a b (shown_lines (flat_map f (take i xs))) → Writes s a c (shown_lines (flat_map f (take (i + 1) xs)))
writes_lines_each s a b c f xs i d here late early =
    let more : flat_map f (take (i + 1) xs) ≡ flat_map f (take i xs) ++ f (get_or xs i d) =
    ap (flat_map f) (take_more xs i d here) ∙ flat_map-append f (take i xs) (get_or xs i d ∷ [])
    ∙ ap (λ lines. flat_map f (take i xs) ++ lines) (append-nil (f (get_or xs i d))) in
    subst (λ lines. Writes s a c (shown_lines lines)) (sym more)
    (writes_lines s a b c (flat_map f (take i xs)) (f (get_or xs i d)) late early)

-- texts one after the other
pub ruleset texts = (writes_both)

-- the texts of a list's elements, in a loop over them
pub ruleset each = (writes_each, writes_none)

-- a loop that writes what is left of a text
pub ruleset turns = (left_whole, left_less, left_nothing)

-- lines one after the other
pub ruleset lines = (writes_no_lines, writes_line, writes_lines, writes_next)

-- the lines of a list's elements, in a loop over them: one of each, or several
pub ruleset each_line = (writes_line_each, writes_no_lines)

pub ruleset each_lines = (writes_lines_each, writes_no_lines)
