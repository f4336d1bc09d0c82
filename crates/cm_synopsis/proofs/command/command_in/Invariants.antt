-- What the words that are left make of the place that is reached.
use Rattle.std.proofs.Common.{◌≡◌, drop}
use Rattle.cm_synopsis.specs.Commands.{begin, places_after}
use Rattle.cm_synopsis.proofs.command.command_in.Given as goal

abbrev pub invariant-loop-word : goal.invariant-loop-word
invariant-loop-word l =
    places_after l.lists l.line (record { parts = l.parts.items; openings = l.openings }) (drop l.word-index l.front)
    ≡ places_after l.lists l.line begin l.front
