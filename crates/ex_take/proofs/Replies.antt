-- The bytes that are shown tell which acts have been done.
use Rattle.std.proofs.Common.{◌≡◌, ℕ, ◌+◌, ◌<◌, ◌≤◌, List, [], ◌∷◌, ◌++◌, length, refl, sym, ap, ◌∙◌, subst, arith, length-append}
use Rattle.std.specs.Prelude.{Err}
use Rattle.std.specs.List.{fold}
use Rattle.std.proofs.lemmas.Grind.{flat_map-append}
use Rattle.std.proofs.lemmas.List.{append-nil}
use Rattle.std.proofs.lemmas.List.Sums.{fold-append}
use Rattle.cm_run.specs.declared.stop.Stop.{Stop}
use Rattle.cm_run.specs.Cut.{Cut, EndCut, KeyCut, LimitCut, LogCut, MemoryCut, ScreenCut, Traces, event_of, part_of}
use Rattle.cm_run.specs.Event.{Act, Event, event_screen, screen_bytes, state_after, state_after_event}
use Rattle.cm_run.specs.Observation.{Observation, Performs}
use Rattle.ex_take.specs.Reply.{AreTold, StandsAsShown, reply_place}

-- a part of an event shows no more than the event
part_shows : (S : Type 0) (cut : Cut) → length (screen_bytes (part_of {S = S} cut)) ≤ length (event_screen (event_of {S = S} cut))
part_shows S (ScreenCut part rest) =
    omega (arith, length-append part rest, ap length (append-nil part))
part_shows S (LogCut part rest) = omega arith
part_shows S (KeyCut key) = omega arith
part_shows S EndCut = omega arith
part_shows S MemoryCut = omega arith
part_shows S LimitCut = omega arith

module _ {S : Type 0} where
  -- two places of one list: the first of them is before the second, or is it, or is after it
  data Places (first second : List (Event S)) (one other : Event S) : Type 0 where
    Before : (more : List (Event S)) → first ++ one ∷ more ≡ second → Places first second one other
    Same : first ≡ second → one ≡ other → Places first second one other
    After : (more : List (Event S)) → second ++ other ∷ more ≡ first → Places first second one other

  further : (event : Event S) (first second : List (Event S)) (one other : Event S) → Places first second one other
      → Places (event ∷ first) (event ∷ second) one other
  further event first second one other (Places.Before more is) = Places.Before more (ap (λ it. event ∷ it) is)
  further event first second one other (Places.Same is both) = Places.Same (ap (λ it. event ∷ it) is) both
  further event first second one other (Places.After more is) = Places.After more (ap (λ it. event ∷ it) is)

  places : (first second : List (Event S)) (one other : Event S) (rest more : List (Event S)) → first ++ one ∷ rest ≡ second ++ other ∷ more
      → Places first second one other
  places [] [] one other rest more is = let head : one ≡ other = cc in Places.Same refl head
  places [] (event ∷ second) one other rest more is =
      let head : one ≡ event = cc in Places.Before second (ap (λ it. it ∷ second) head)
  places (event ∷ first) [] one other rest more is =
      let head : other ≡ event = cc in Places.After first (ap (λ it. it ∷ first) head)
  places (event ∷ first) (it ∷ second) one other rest more is =
      let head : event ≡ it = cc in
      let tail : first ++ one ∷ rest ≡ second ++ other ∷ more = cc in
      subst (λ (at : Event S). Places (event ∷ first) (at ∷ second) one other) head
      (further event first second one other (places first second one other rest more tail))

  -- no act is cut
  no_act : (cut : Cut) (left : S) → Act left ≡ event_of cut → ⊥
  no_act (ScreenCut part rest) left is = cc
  no_act (LogCut part rest) left is = cc
  no_act (KeyCut key) left is = cc
  no_act EndCut left is = cc
  no_act MemoryCut left is = cc
  no_act LimitCut left is = cc

  -- a part of an event leaves no state
  part_leaves : (cut : Cut) (state : S) → fold state_after_event state (part_of cut) ≡ state
  part_leaves (ScreenCut part rest) state = refl
  part_leaves (LogCut part rest) state = refl
  part_leaves (KeyCut key) state = refl
  part_leaves EndCut state = refl
  part_leaves MemoryCut state = refl
  part_leaves LimitCut state = refl

  -- how many bytes are shown by events and by those after them
  shown_by : (first more : List (Event S)) → reply_place (first ++ more) ≡ reply_place first + reply_place more
  shown_by first more =
      ap length (flat_map-append event_screen first more) ∙ length-append (screen_bytes first) (screen_bytes more)

  module _ (done rest : List (Event S)) (cut : Cut) where
    abbrev shown : ℕ
    shown = reply_place (done ++ part_of cut)

    shown_is : shown ≡ reply_place done + reply_place (part_of {S = S} cut)
    shown_is = shown_by done (part_of cut)

    -- an act after the event that is cut has its place at the end of what is shown, or after it
    late : (first more : List (Event S)) → done ++ event_of cut ∷ more ≡ first → shown ≤ reply_place first
    late first more is =
        let all = ap reply_place (sym is) ∙ shown_by done (event_of cut ∷ more) in
        let last = length-append (event_screen (event_of {S = S} cut)) (screen_bytes more) in
        omega (arith, all, last, shown_is, part_shows S cut)

    -- one that is done has its place before that end, or at it
    early : (first more : List (Event S)) (left : S) → first ++ Act left ∷ more ≡ done → reply_place first ≤ shown
    early first more left is =
        let all = ap reply_place (sym is) ∙ shown_by first (Act left ∷ more) in
        omega (arith, all, shown_is)

    module _ (events : List (Event S)) (split : done ++ event_of cut ∷ rest ≡ events) (first more : List (Event S)) (left : S) (is : first ++ Act left ∷ more ≡ events) where
      place : Places first done (Act left) (event_of cut)
      place = places first done (Act left) (event_of cut) more rest (is ∙ sym split)

      act_done : reply_place first < shown → (others : List (Event S)) × (first ++ Act left ∷ others ≡ done)
      act_done less = by place where
        by : Places first done (Act left) (event_of cut) → (others : List (Event S)) × (first ++ Act left ∷ others ≡ done)
        by (Places.Before others there) = (others, there)
        by (Places.Same there act) = absurd (no_act cut left act)
        by (Places.After others there) = absurd (omega (arith, less, late first others there))

      act_ahead : shown < reply_place first → (others : List (Event S)) × (done ++ others ≡ first)
      act_ahead less = by place where
        by : Places first done (Act left) (event_of cut) → (others : List (Event S)) × (done ++ others ≡ first)
        by (Places.Before others there) = absurd (omega (arith, less, early first others left there))
        by (Places.Same there act) = absurd (no_act cut left act)
        by (Places.After others there) = (event_of cut ∷ others, there)

    acts_told : (events : List (Event S)) → done ++ event_of cut ∷ rest ≡ events → AreTold events shown done
    acts_told events split = record {
      acted = λ first more left is less. act_done events split first more left is less;
      ahead = λ first more left is less. act_ahead events split first more left is less;
    }

  pub stands_as_shown : (before now : Observation S) (events : List (Event S)) (why : Stop) → Traces before now events (Err why)
      → StandsAsShown before now events
  unfolding Traces Performs
  stands_as_shown before now events why traces = record {
    done = traces.done;
    rest = event_of traces.cut ∷ traces.rest;
    bytes = screen_bytes (traces.done ++ part_of traces.cut);
    split = traces.split;
    screen = traces.stands.screen;
    state = traces.stands.state ∙ fold-append state_after_event before.state traces.done (part_of traces.cut)
        ∙ part_leaves traces.cut (state_after before.state traces.done);
    acts = acts_told traces.done traces.rest traces.cut events traces.split;
  }
