use Rattle.std.proofs.Common.{◌≡◌, ℕ, ◌<◌, ◌≤◌, get_or, length}
use Rattle.cm_net.specs.Parts.{slash}
use Rattle.cm_net.proofs.parts.parts.Given as goal

-- no slash is among the bytes that were passed
abbrev pub invariant-loop-at : goal.invariant-loop-at
invariant-loop-at l = (k : ℕ) → l.at ≤ k → k < length l.text → get_or l.text k 0 ≡ slash → ⊥
