-- What commands show ends its line.
-- That a reply ends its line is one lemma a line (after), since ++ joins to the left. A slice's last byte is slice_get
-- xs (length xs - 1).
use Rattle.std.proofs.Common.{◌≡◌, ◌⊎◌, ℕ, ◌==◌, ◌&&◌, nat_le, nat_lt, Bool, true, false, cond, List, [], ◌∷◌, ◌++◌, Option, None, Some, Result, Ok, Err, length, refl, ap, sym, subst, ◌∙◌, inl, inr, arith, append_assoc, append-nil}
use Rattle.std.specs.List.{flat_map, last_or}
use Rattle.std.specs.Option.{option_map_or}
use Rattle.std.specs.Prelude.{unwrap_or}
use Rattle.std.specs.Fmt.{decimal}
use Rattle.std.proofs.lemmas.Bool.Decides.{nat_tests}
use Rattle.cm_text.specs.ScreenBytes.{end_of_line, question}
use Rattle.cm_fields.specs.Code.{code_text}
use Rattle.cm_fields.specs.declared.code.Code.{Code}
use Rattle.cm_fields.specs.declared.code.Code.TheVariants.{CopyRange, NameNeeded, NoDefinition, NoMatch}
use Rattle.cm_state.specs.Echo.{refusal}
use Rattle.ex_grammar.specs.declared.code.TheConstants.{DIRECTORY_TOPIC, LOGICAL_NAMES, OUTPUT_REQUESTS, VERSION}
use Rattle.ex_store.specs.declared.directory.Definition.{Definition}
use Rattle.ex_store.specs.declared.key.NamePair.{NamePair}
use Rattle.ex_store.specs.declared.place.Place.{Place}
use Rattle.ex_store.specs.declared.plan.Plan.TheVariants as plans
use Rattle.ex_store.specs.declared.queue.QueueEntry.{QueueEntry}
use Rattle.ex_store.specs.declared.row.Row.{Row}
use Rattle.ex_store.specs.Copying.{lacks_name}
use Rattle.ex_store.specs.Plan.{Planned, planned, sources}
use Rattle.ex_store.specs.Rows.{pages_in, full_of, pages_marked}
use Rattle.ex_store.specs.State.{State, defined, retention_of}
use Rattle.ex_commands.specs.declared.command.Command.{Command}
use Rattle.ex_commands.specs.declared.command.Command.TheVariants as commands
use Rattle.ex_commands.specs.declared.lines.Lines.TheVariants.{Changed, Held}
use Rattle.ex_commands.specs.declared.pairs.Origin.{Origin}
use Rattle.ex_commands.specs.declared.pairs.Origin.TheVariants.{Files, Queue, Terminal}
use Rattle.ex_commands.specs.Act.{Act, act_of, plays}
use Rattle.ex_commands.specs.Commands.Copy.{writes}
use Rattle.ex_commands.specs.Commands.Directory.{listed, listing, lists_rows}
use Rattle.ex_commands.specs.Commands.Expunge.{freed_line}
use Rattle.ex_commands.specs.Commands.Information.{definition_line, directory_line, directory_lines, entry_line, pages_line, retention_line, topic_text, version_line, wishes_text}
use Rattle.ex_commands.specs.Commands.Logout.{farewell_line}
use Rattle.ex_commands.specs.Commands.Print.{request_of}
use Rattle.ex_store.specs.declared.limits.TheConstants.{COPIES_LIMIT}
use Rattle.ex_commands.specs.Replies.{changed_line, directory_text, done_text, ends_line, full_text, heading, held_text, line_of, listed_line, origin_line, pair_line, queued_line, total_line, typed_line}
use Rattle.ex_commands.specs.Texts.{arrow, done_mark, farewell, files_counted, from_terminal, pages_freed, pages_had, queued, right_bracket, space, stands_for, total_of, version}

-- some bytes, and a line feed
pub record Ended (bytes : List ℕ) : Type 0 where
  pub front : List ℕ
  pub ends : front ++ 10 ∷ [] ≡ bytes

-- no bytes, or such as end with a line feed
abbrev pub Ends : List ℕ → Type 0
Ends bytes = (bytes ≡ []) ⊎ Ended bytes

-- the end of a line
pub eol_ends : Ended end_of_line
unfolding end_of_line
eol_ends = record { front = 13 ∷ []; ends = refl }

-- what ends a line, after other bytes
pub ended_after : (first more : List ℕ) → Ended more → Ended (first ++ more)
ended_after first more ended = record {
  front = first ++ ended.front;
  ends = append_assoc first ended.front (10 ∷ []) ∙ ap (λ bytes. first ++ bytes) ended.ends;
}

both : (first more : List ℕ) → Ends first → Ends more → Ends (first ++ more)
both first more (inl none) ends = subst (λ bytes. Ends (bytes ++ more)) (sym none) ends
both first more (inr ended) (inl none) =
    subst (λ bytes. Ends (first ++ bytes)) (sym none) (subst Ends (sym (append-nil first)) (inr ended))
both first more (inr ended) (inr later) = inr (ended_after first more later)

each : {X : Type 0} (f : X → List ℕ) → ((x : X) → Ends (f x)) → (xs : List X) → Ends (flat_map f xs)
each f ends [] = inl refl
each f ends (x ∷ xs) = both (f x) (flat_map f xs) (ends x) (each f ends xs)

-- the last byte of some bytes, or this one before them
record IsLast (first : ℕ) (bytes : List ℕ) : Type 0 where
  front : List ℕ
  last : ℕ
  joined : front ++ last ∷ [] ≡ first ∷ bytes
  is : last_or (Some first) bytes ≡ Some last

last_of : (first : ℕ) (bytes : List ℕ) → IsLast first bytes
last_of first [] = record { front = []; last = first; joined = refl; is = refl }
last_of first (byte ∷ bytes) =
    let more = last_of byte bytes in
    record {
      front = first ∷ more.front;
      last = more.last;
      joined = ap (λ all. first ∷ all) more.joined;
      is = more.is;
    }

last_after : (before : Option ℕ) (front : List ℕ) (last : ℕ) → last_or before (front ++ last ∷ []) ≡ Some last
last_after before [] last = refl
last_after before (byte ∷ front) last = last_after (Some byte) front last

-- so tests the text that ends a line
pub ends_test : (bytes : List ℕ) → ends_line bytes ≡ true → Ends bytes
ends_test [] test = inl refl
ends_test (byte ∷ bytes) test =
    let it = last_of byte bytes in
    let line : (it.last == 10) ≡ true = ap (λ (o : Option ℕ). option_map_or (λ last. last == 10) o true) (sym it.is) ∙ test in
    let feed : it.last ≡ 10 = grind (arith, nat_tests) in
    inr (record { front = it.front; ends = ap (λ last. it.front ++ last ∷ []) (sym feed) ∙ it.joined })

pub test_ends : (bytes : List ℕ) → Ends bytes → ends_line bytes ≡ true
test_ends bytes (inl none) = ap ends_line none
test_ends bytes (inr ended) =
    ap ends_line (sym ended.ends) ∙ ap (λ (o : Option ℕ). option_map_or (λ last. last == 10) o true) (last_after None ended.front 10)

-- the lines of replies
pub refusal_ends : (code : Code) → Ended (refusal code)
unfolding refusal
refusal_ends code = ended_after question _ (ended_after (code_text code) _ eol_ends)

done_ends : Ended done_text
unfolding done_text
done_ends = ended_after done_mark _ eol_ends

pair_ends : (origin : Origin) (pair : NamePair) → Ends (origin_line origin pair)
unfolding pair_line typed_line queued_line
pair_ends Files pair = inr (ended_after (space ++ full_text pair.source ++ arrow ++ full_text pair.target) done_text done_ends)
pair_ends Terminal pair = inr (ended_after (from_terminal ++ full_text pair.target) done_text done_ends)
pair_ends Queue pair = inr (ended_after (queued ++ full_text pair.source) end_of_line eol_ends)

pub held_ends : (row : Row) → Ends (held_text row)
unfolding held_text
held_ends row = by (ends_line row.file.bytes) refl
  where
    by : (test : Bool) → ends_line row.file.bytes ≡ test → Ends (row.file.bytes ++ cond test [] end_of_line)
    by true is = subst Ends (sym (append-nil row.file.bytes)) (ends_test row.file.bytes is)
    by false is = inr (ended_after row.file.bytes end_of_line eol_ends)

changed_ends : (row : Row) → Ends (line_of Changed row)
unfolding changed_line
changed_ends row = inr (ended_after (space ++ full_text (full_of row)) done_text done_ends)

listing_ends : (read : Bool) (directory : List ℕ) (rows : List Row) → Ended (listing read directory rows)
unfolding listing total_line
listing_ends read directory rows =
    ended_after (heading directory ++ flat_map (listed_line read) rows) (total_line (length rows))
    (ended_after (total_of ++ decimal (length rows) ++ files_counted) end_of_line eol_ends)

freed_ends : (directory : List ℕ) (pages : ℕ) → Ended (freed_line directory pages)
unfolding freed_line
freed_ends directory pages =
    ended_after (space ++ directory_text directory ++ pages_freed ++ decimal pages ++ right_bracket) end_of_line eol_ends

-- what is told about a topic
pages_end : (pages : ℕ) → Ended (pages_line pages)
unfolding pages_line
pages_end pages = ended_after (pages_had ++ decimal pages) end_of_line eol_ends

directory_end : (state : State) → Ended (directory_lines state)
unfolding directory_lines
directory_end state =
    ended_after (directory_line state.connected ++ retention_line (retention_of state.connected state.directories))
    (pages_line (pages_in state.connected state.rows)) (pages_end (pages_in state.connected state.rows))

definition_ends : (entry : Definition) → Ends (definition_line entry)
unfolding definition_line
definition_ends entry =
    inr (ended_after (space ++ entry.name ++ stands_for ++ directory_text entry.directory) end_of_line eol_ends)

entry_ends : (entry : QueueEntry) → Ends (entry_line entry)
unfolding entry_line
entry_ends entry = inr (ended_after (space ++ full_text entry.file ++ wishes_text entry) end_of_line eol_ends)

version_ends : Ended version_line
unfolding version_line
version_ends = ended_after version _ eol_ends

either_ends : (test : Bool) (one other : List ℕ) → Ends one → Ends other → Ends (cond test one other)
either_ends true one other here there = here
either_ends false one other here there = there

topic_text_ends : (what : ℕ) (state : State) → Ends (topic_text what state)
topic_text_ends what state =
    either_ends (what == DIRECTORY_TOPIC) _ _ (inr (directory_end state))
    (either_ends (what == LOGICAL_NAMES) _ _ (each definition_line definition_ends state.logical)
    (either_ends (what == OUTPUT_REQUESTS) _ _ (each entry_line entry_ends state.queue)
    (either_ends (what == VERSION) _ _ (inr version_ends) (inl refl))))

farewell_ends : Ended farewell_line
unfolding farewell_line
farewell_ends = ended_after farewell _ eol_ends

plays_end : (origin : Origin) (made : Result Planned Code) (state : State) → Ends (plays origin made state).reply
plays_end origin (Ok made) state = each (origin_line origin) (pair_ends origin) made.pairs
plays_end origin (Err code) state = inr (refusal_ends code)

lists_end : (read : Bool) (directory : List ℕ) (rows : List Row) (state : State)
    → Ends (lists_rows read directory rows state).reply
lists_end read directory [] state = inr (refusal_ends NoMatch)
lists_end read directory (row ∷ rows) state = inr (listing_ends read directory (row ∷ rows))

choice_ends : (test : Bool) (one other : Act) → Ends one.reply → Ends other.reply → Ends (cond test one other).reply
choice_ends true one other here there = here
choice_ends false one other here there = there

-- the reply of a command
pub act_ends : (command : Command) (moment : ℕ) (state : State) → Ends (act_of command moment state).reply
unfolding act_of
act_ends commands.Empty moment state = inl refl
act_ends (commands.Append from to) moment state = plays_end Files (planned (plans.Append from to) moment state) state
act_ends (commands.Build directory retention sub) moment state =
    choice_ends sub _ _ (inl refl) (plays_end Files (planned (plans.Build directory retention) moment state) state)
act_ends (commands.Connect directory) moment state = inl refl
act_ends (commands.Copy from to) moment state = plays_end Files (planned (plans.Copy from to) moment state) state
act_ends (commands.CopyTty to) moment state =
    choice_ends (lacks_name to) _ _ (inr (refusal_ends NameNeeded)) (inl refl)
act_ends (commands.Define name None) moment state =
    choice_ends (defined name state) _ _ (inl refl) (inr (refusal_ends NoDefinition))
act_ends (commands.Define name (Some directory)) moment state =
    plays_end Files (planned (plans.Define name directory) moment state) state
act_ends (commands.Delete files) moment state = each (line_of Changed) changed_ends (sources files state)
act_ends (commands.Directory files since before deleted read sub) moment state =
    choice_ends sub _ _ (inl refl) (lists_end read files.directory
    (listed deleted (record { since = since; before = before }) files state) state)
act_ends (commands.Expunge directory) moment state =
    inr (freed_ends (unwrap_or directory state.connected)
    (pages_marked (unwrap_or directory state.connected) state.rows))
act_ends (commands.Information what) moment state = topic_text_ends what state
act_ends commands.Logout moment state = inr farewell_ends
act_ends (commands.Print files copies form after job note) moment state =
    choice_ends (nat_lt 0 copies && nat_le copies COPIES_LIMIT) _ _
    (plays_end Queue (planned (plans.Print files (request_of copies form after job note)) moment state) state)
    (inr (refusal_ends CopyRange))
act_ends commands.Remark moment state = inl refl
act_ends (commands.Rename from to) moment state = plays_end Files (planned (plans.Rename from to) moment state) state
act_ends (commands.Set files keep) moment state = each (line_of Changed) changed_ends (sources files state)
act_ends (commands.Take file) moment state = inl refl
act_ends (commands.TypeOut files) moment state = each (line_of Held) held_ends (sources files state)
act_ends (commands.Undelete files) moment state = each (line_of Changed) changed_ends (sources files state)

-- and of the writing of what was typed in
pub write_ends : (to : Place) (bytes : List ℕ) (moment : ℕ) (state : State) → Ends (writes to bytes moment state).reply
unfolding writes
write_ends to bytes moment state = plays_end Terminal (planned (plans.Write to bytes) moment state) state

pub act_tests : (command : Command) (moment : ℕ) (state : State) → ends_line (act_of command moment state).reply ≡ true
act_tests command moment state = test_ends _ (act_ends command moment state)

pub write_tests : (to : Place) (bytes : List ℕ) (moment : ℕ) (state : State) → ends_line (writes to bytes moment state).reply ≡ true
write_tests to bytes moment state = test_ends _ (write_ends to bytes moment state)
