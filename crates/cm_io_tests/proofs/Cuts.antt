-- What stands where a trace is cut: one event more, and the first that fails.
use Rattle.std.proofs.Common.{ℕ, ◌≡◌, ◌≤◌, ◌+◌, ◌-◌, ◌⊎◌, inl, inr, ap, sym, ◌∙◌, refl, arith, if◌then◌else◌, Bool, true, false, nat_le, nat_lt, min, List, [], ◌∷◌, ◌++◌, drop, take, map, length, get_or, append-nil, codes, Bor, Option, Result, Ok, Err, OnOk}
use Rattle.std.proofs.lemmas.Bool.Decides.{nat_tests}
use Rattle.std.proofs.lemmas.List.{take_all}
use Rattle.std.proofs.lemmas.List.Concat.{flat_map-append}
use Rattle.std.proofs.lemmas.List.Sums.{fold-append, sum_by-append}
use Rattle.std.specs.List.{before_first, after_first}
use Rattle.std.specs.Str.{bytes_eq}
use Rattle.std.specs.Str.Lines.{lines}
use Rattle.cm_io_tests.specs.Cut.{Outcome, gets, is_end, log, reach, room_of, screen, outcome_of, outcome_after, stands_at, state, stop_of}
use Rattle.cm_io_tests.specs.Steps.{Gets, GoesOn, Happens, Puts}
use Rattle.cm_io_tests.specs.Texts.{meaning}
use Rattle.cm_io_tests.specs.Trace.{Event, Get, Show, Log, Act, event_of, events_of, get_count, is_space, kind_of, log_text, text_of, screen_text, state_after}
use Rattle.cm_io_tests.specs.declared.trace.Faults.{Faults}
use Rattle.cm_io_tests.specs.declared.trace.Stands.{Stands}
use Rattle.cm_io_tests.specs.declared.trace.Stop.{Stop}
use Rattle.cm_io_tests.specs.declared.trace.Stop.TheVariants.{End, Keys, Screen}
use Rattle.cm_io_tests.specs.declared.trace.Stop.TheVariants as stop

-- what is said of some events, with one more
gets_more : (events : List Event) (event : Event) → gets (events ++ event ∷ []) ≡ gets events + get_count event
unfolding gets
gets_more events event = omega (arith, sum_by-append get_count events (event ∷ []))

screen_more : (events : List Event) (event : Event) → screen (events ++ event ∷ []) ≡ screen events ++ screen_text event
unfolding screen
screen_more events event = flat_map-append screen_text events (event ∷ []) ∙ ap (λ more. screen events ++ more) (append-nil (screen_text event))

log_more : (events : List Event) (event : Event) → log (events ++ event ∷ []) ≡ log events ++ log_text event
unfolding log
log_more events event = flat_map-append log_text events (event ∷ []) ∙ ap (λ more. log events ++ more) (append-nil (log_text event))

state_more : (events : List Event) (event : Event) → state (events ++ event ∷ []) ≡ state_after (state events) event
unfolding state
state_more events event = fold-append state_after [] events (event ∷ [])

-- a choice of three that comes to the end takes none of them
none_taken : (first second third : Bool)
    → (if first then Keys else (if second then Screen else (if third then stop.Log else End))) ≡ End
    → (first ≡ false) × (second ≡ false) × (third ≡ false)
none_taken true second third same = absurd (cc)
none_taken false true third same = absurd (cc)
none_taken false false true same = absurd (cc)
none_taken false false false same = (refl, refl, refl)

-- where nothing fails there is room for all
record Fits (faults : Faults) (events : List Event) : Type 0 where
  no_get : nat_lt (room_of faults.gets) (gets events) ≡ false
  no_show : nat_lt (room_of faults.screen) (length (screen events)) ≡ false
  no_log : nat_lt (room_of faults.log) (length (log events)) ≡ false

fits : (faults : Faults) (events : List Event) → stop_of faults events ≡ End → Fits faults events
unfolding stop_of
fits faults events same =
    let none = none_taken _ _ _ same in record { no_get = none.0; no_show = none.1; no_log = none.2 }

-- an event of another kind changes none of these
gets_same : (events : List Event) (event : Event) → get_count event ≡ 0 → gets events ≡ gets (events ++ event ∷ [])
gets_same events event none = omega (arith, gets_more events event, none)

screen_same : (events : List Event) (event : Event) → screen_text event ≡ [] → screen events ≡ screen (events ++ event ∷ [])
screen_same events event none =
    sym (screen_more events event ∙ (rw none (append-nil (screen events))))

log_same : (events : List Event) (event : Event) → log_text event ≡ [] → log events ≡ log (events ++ event ∷ [])
log_same events event none =
    sym (log_more events event ∙ (rw none (append-nil (log events))))

-- two that agree in each part are one
same_standing : (stop stop' : Stop) (gets gets' : ℕ) (screen screen' log log' state state' : List ℕ)
    → stop ≡ stop' → gets ≡ gets' → screen ≡ screen' → log ≡ log' → state ≡ state'
    → ◌≡◌ {A = Outcome} (record { stop = stop; gets = gets; screen = screen; log = log; state = state })
    (record { stop = stop'; gets = gets'; screen = screen'; log = log'; state = state' })
same_standing stop stop' gets gets' screen screen' log log' state state' a b c d e = rw (a, b, c, d, e) refl

-- a number that is not above another is the smaller of the two
not_above : (room count : ℕ) → nat_lt room count ≡ false → count ≤ room
not_above room count low = grind (arith, nat_tests)

-- what is kept of what there is room for is all of it
all_kept : (room : ℕ) (bytes kept : List ℕ) → nat_lt room (length bytes) ≡ false → kept ≡ take room bytes → kept ≡ bytes
all_kept room bytes kept low is = is ∙ take_all room bytes (not_above room (length bytes) low)

all_counted : (room count kept : ℕ) → nat_lt room count ≡ false → kept ≡ min room count → kept ≡ count
all_counted room count kept low is = omega (arith, is, not_above room count low)

-- one get more is counted where there is room
pub get_stops : (room count : ℕ) → nat_lt room (count + 1) ≡ nat_le room count
get_stops room count = grind (arith, nat_tests)

pub get_counts : (room count : ℕ) → count ≤ room → (if nat_le room count then count else count + 1) ≡ min room (count + 1)
get_counts room count low = grind (arith, nat_tests)

-- the kind of a line, by its first word
pub said_get : (line kind word : List ℕ) → kind ≡ before_first is_space line → word ≡ codes "get"
    → true ≡ bytes_eq kind word → event_of line ≡ Get
unfolding event_of kind_of
said_get line kind word kind_is word_is holds = rw (sym (rw (kind_is, word_is) at holds)) refl

pub said_show : (line kind word other : List ℕ) → kind ≡ before_first is_space line → word ≡ codes "get"
    → false ≡ bytes_eq kind word → other ≡ codes "show" → true ≡ bytes_eq kind other
    → event_of line ≡ Show (text_of line)
unfolding event_of kind_of
said_show line kind word other kind_is word_is fails other_is holds =
    rw (sym (rw (kind_is, word_is) at fails), sym (rw (kind_is, other_is) at holds)) refl

pub said_log : (line kind word other third : List ℕ) → kind ≡ before_first is_space line → word ≡ codes "get"
    → false ≡ bytes_eq kind word → other ≡ codes "show" → false ≡ bytes_eq kind other
    → third ≡ codes "log" → true ≡ bytes_eq kind third → event_of line ≡ Log (text_of line)
unfolding event_of kind_of
said_log line kind word other third kind_is word_is fails other_is not_other third_is holds =
    rw (sym (rw (kind_is, word_is) at fails), sym (rw (kind_is, other_is) at not_other), sym (rw (kind_is, third_is) at holds))
    refl

pub said_act : (line kind word other third : List ℕ) → kind ≡ before_first is_space line → word ≡ codes "get"
    → false ≡ bytes_eq kind word → other ≡ codes "show" → false ≡ bytes_eq kind other
    → third ≡ codes "log" → false ≡ bytes_eq kind third → event_of line ≡ Act (text_of line)
unfolding event_of kind_of
said_act line kind word other third kind_is word_is fails other_is not_other third_is not_third =
    rw (sym (rw (kind_is, word_is) at fails), sym (rw (kind_is, other_is) at not_other), sym (rw (kind_is, third_is) at not_third))
    refl

-- what stands after an event of each kind
pub get_happens : (faults : Faults) (before : Stands) (line : List ℕ) (now : ℕ) (at : Stop) → event_of line ≡ Get
    → Gets faults.gets before.gets now at
    → Happens faults before line record { stop = at; gets = now; screen = before.screen; log = before.log; state = before.state }
unfolding Happens outcome_of outcome_after stop_of
get_happens faults before line now at kind get = λ events none same.
    let room = fits faults events none in
    let all = events ++ Get ∷ [] in
    let was : before.gets ≡ gets events = all_counted (room_of faults.gets) (gets events) before.gets room.no_get (ap (λ (it : Outcome). it.gets) same) in
    let more : gets all ≡ gets events + 1 = gets_more events Get in
    let screens = screen_same events Get refl in
    let logs = log_same events Get refl in
    rw (kind) (same_standing _ _ _ _ _ _ _ _ _ _
    (get.stops ∙ rw (was, sym screens, sym logs, more, room.no_show, room.no_log, get_stops (room_of faults.gets) (gets events)) refl)
    (get.counts ∙ rw (was, more) (get_counts (room_of faults.gets) (gets events) (not_above _ _ room.no_get)))
    (ap (λ (it : Outcome). it.screen) same ∙ ap (take (room_of faults.screen)) screens)
    (ap (λ (it : Outcome). it.log) same ∙ ap (take (room_of faults.log)) logs)
    (ap (λ (it : Outcome). it.state) same ∙ sym (state_more events Get)))

-- what a put leaves and says, where all before it was put
record Put (fault : Option ℕ) (stop : Stop) (given text now : List ℕ) (result : Stop) : Type 0 where
  leaves : now ≡ take (room_of fault) (given ++ text)
  says : result ≡ (if nat_lt (room_of fault) (length (given ++ text)) then stop else End)

put_on : (fault : Option ℕ) (stop : Stop) (before given text said now : List ℕ) (result : Stop)
    → before ≡ given → said ≡ meaning text → Puts fault stop before text now result
    → Put fault stop given said now result
put_on fault stop before given text said now result is says put =
    rw (says, sym is) (record { leaves = put.adds; says = put.stops })

pub show_happens : (faults : Faults) (before : Stands) (line text : List ℕ) (now : Stands)
    → event_of line ≡ Show (text_of line) → text_of line ≡ meaning text
    → Puts faults.screen Screen before.screen.items text now.screen.items now.stop
    → now.gets ≡ before.gets → now.log ≡ before.log → now.state ≡ before.state → Happens faults before line now
unfolding Happens outcome_of outcome_after stop_of
show_happens faults before line text now kind said puts keeps_gets keeps_log keeps_state = λ events none same.
    let event = Show (text_of line) in
    let room = fits faults events none in
    let was : before.screen.items ≡ screen events = all_kept (room_of faults.screen) (screen events) before.screen.items room.no_show (ap (λ (it : Outcome). it.screen) same) in
    let put = put_on faults.screen Screen _ (screen events) text (text_of line) _ _ was said puts in
    let more = screen_more events event in
    let counts = gets_same events event refl in
    let logs = log_same events event refl in
    rw kind (same_standing _ _ _ _ _ _ _ _ _ _
    (put.says ∙ rw (sym counts, sym logs, more, room.no_get, room.no_log) refl)
    (keeps_gets ∙ ap (λ (it : Outcome). it.gets) same ∙ ap (min (room_of faults.gets)) counts)
    (put.leaves ∙ ap (take (room_of faults.screen)) (sym more))
    (ap (λ it. it.items) keeps_log ∙ ap (λ (it : Outcome). it.log) same ∙ ap (take (room_of faults.log)) logs)
    (ap (λ it. it.items) keeps_state ∙ ap (λ (it : Outcome). it.state) same ∙ sym (state_more events event)))

pub log_happens : (faults : Faults) (before : Stands) (line text : List ℕ) (now : Stands)
    → event_of line ≡ Log (text_of line) → text_of line ≡ meaning text
    → Puts faults.log stop.Log before.log.items text now.log.items now.stop
    → now.gets ≡ before.gets → now.screen ≡ before.screen → now.state ≡ before.state → Happens faults before line now
unfolding Happens outcome_of outcome_after stop_of
log_happens faults before line text now kind said puts keeps_gets keeps_screen keeps_state = λ events none same.
    let event = Log (text_of line) in
    let room = fits faults events none in
    let was : before.log.items ≡ log events = all_kept (room_of faults.log) (log events) before.log.items room.no_log (ap (λ (it : Outcome). it.log) same) in
    let put = put_on faults.log stop.Log _ (log events) text (text_of line) _ _ was said puts in
    let more = log_more events event in
    let counts = gets_same events event refl in
    let screens = screen_same events event refl in
    rw kind (same_standing _ _ _ _ _ _ _ _ _ _
    (put.says ∙ rw (sym counts, sym screens, more, room.no_get, room.no_show) refl)
    (keeps_gets ∙ ap (λ (it : Outcome). it.gets) same ∙ ap (min (room_of faults.gets)) counts)
    (ap (λ it. it.items) keeps_screen ∙ ap (λ (it : Outcome). it.screen) same ∙ ap (take (room_of faults.screen)) screens)
    (put.leaves ∙ ap (take (room_of faults.log)) (sym more))
    (ap (λ it. it.items) keeps_state ∙ ap (λ (it : Outcome). it.state) same ∙ sym (state_more events event)))

pub act_happens : (faults : Faults) (before : Stands) (line text : List ℕ) (now : Stands)
    → event_of line ≡ Act (text_of line) → text_of line ≡ meaning text → now.state.items ≡ meaning text → now.stop ≡ before.stop
    → now.gets ≡ before.gets → now.screen ≡ before.screen → now.log ≡ before.log → Happens faults before line now
unfolding Happens outcome_of outcome_after stop_of
act_happens faults before line text now kind said is keeps_stop keeps_gets keeps_screen keeps_log = λ events none same.
    let event = Act (text_of line) in
    let counts = gets_same events event refl in
    let screens = screen_same events event refl in
    let logs = log_same events event refl in
    rw kind (same_standing _ _ _ _ _ _ _ _ _ _
    (keeps_stop ∙ ap (λ (it : Outcome). it.stop) same ∙ rw (sym counts, sym screens, sym logs) refl)
    (keeps_gets ∙ ap (λ (it : Outcome). it.gets) same ∙ ap (min (room_of faults.gets)) counts)
    (ap (λ it. it.items) keeps_screen ∙ ap (λ (it : Outcome). it.screen) same ∙ ap (take (room_of faults.screen)) screens)
    (ap (λ it. it.items) keeps_log ∙ ap (λ (it : Outcome). it.log) same ∙ ap (take (room_of faults.log)) logs)
    (is ∙ sym said ∙ sym (state_more events event)))

-- what a line says, of the text after its first word
pub said_is : (line text : List ℕ) → text ≡ after_first is_space line → text_of line ≡ meaning text
unfolding text_of
said_is line text is = rw is refl

-- the events of some lines, one by one
pub no_line : (faults : Faults) (before : Stands) (lines : List (Bor (List ℕ))) → length lines ≤ 0
    → GoesOn faults before (map (λ line. line.now) lines) before
unfolding GoesOn reach
no_line faults before [] none = λ events ends same. same
no_line faults before (line ∷ lines) none = absurd (omega (arith, none))

-- where the first does not fail, the others go on
pub goes_on : (faults : Faults) (before middle now : Stands) (lines : List (Bor (List ℕ))) (d : Bor (List ℕ)) (line : List ℕ)
    → 1 ≤ length lines → line ≡ (get_or lines 0 d).now → Happens faults before line middle → middle.stop ≡ End
    → GoesOn faults middle (map (λ line. line.now) (take (length lines - 1) (drop 1 lines))) now
    → GoesOn faults before (map (λ line. line.now) lines) now
unfolding GoesOn Happens outcome_of outcome_after reach
goes_on faults before middle now [] d line some is happens ends goes = absurd (omega (arith, some))
goes_on faults before middle now (first ∷ lines) d line some is happens ends goes = λ events none same.
    let after = happens events none same in
    let stops : stop_of faults (events ++ event_of line ∷ []) ≡ End = sym (ap (λ (it : Outcome). it.stop) after) ∙ ends in
    let rest = rw (take_all (length (first ∷ lines) - 1) lines (omega arith)) at goes in
    rw (sym is, stops) (rest (events ++ event_of line ∷ []) stops after)

-- where it fails they do not
pub stops_there : (faults : Faults) (before middle : Stands) (lines : List (Bor (List ℕ))) (d : Bor (List ℕ)) (line : List ℕ)
    → 1 ≤ length lines → line ≡ (get_or lines 0 d).now → Happens faults before line middle → is_end middle.stop ≡ false
    → GoesOn faults before (map (λ line. line.now) lines) middle
unfolding GoesOn Happens outcome_of outcome_after reach
stops_there faults before middle [] d line some is happens fails = absurd (omega (arith, some))
stops_there faults before middle (first ∷ lines) d line some is happens fails = λ events none same.
    let after = happens events none same in
    let stops : is_end (stop_of faults (events ++ event_of line ∷ [])) ≡ false =
    rw (ap (λ (it : Outcome). it.stop) after) at fails in
    rw (sym is, stops) after

pub no_end : (at : Stop) → (at ≡ Keys) ⊎ (at ≡ Screen) ⊎ (at ≡ stop.Log) → is_end at ≡ false
no_end at (inl is) = rw is refl
no_end at (inr (inl is)) = rw is refl
no_end at (inr (inr is)) = rw is refl

-- what follows from what holds where all went well
pub on_ok : {T E : Type 0} (result : Result T E) {P Q : Type 0} → (P → Q) → OnOk result P → OnOk result Q
on_ok (Ok x) from was = from was
on_ok (Err e) from was = was

-- no number is below 0
none_below : (room : ℕ) → nat_lt room 0 ≡ false
none_below room = grind (arith, nat_tests)

take_none : (room : ℕ) → ◌≡◌ {A = List ℕ} [] (take room [])
take_none room = sym (take_all room [] (omega arith))

-- at first nothing stands, and nothing has failed
pub whole_trace : (faults : Faults) (before now : Stands) (trace : List ℕ) (said : List (List ℕ)) → said ≡ lines trace
    → before.stop ≡ End → before.gets ≡ 0 → before.screen.items ≡ [] → before.log.items ≡ [] → before.state.items ≡ []
    → GoesOn faults before said now → outcome_of now ≡ stands_at faults trace
unfolding GoesOn outcome_of outcome_after stands_at stop_of events_of gets screen log state
whole_trace faults before now trace said is stop_is gets_is screen_is log_is state_is goes =
    let ends : stop_of faults [] ≡ End =
    rw (none_below (room_of faults.gets), none_below (room_of faults.screen), none_below (room_of faults.log)) refl in
    rw (sym is) (goes [] ends (same_standing _ _ _ _ _ _ _ _ _ _ (stop_is ∙ sym ends)
    (gets_is ∙ omega arith) (screen_is ∙ take_none (room_of faults.screen)) (log_is ∙ take_none (room_of faults.log)) state_is))
