use Rattle.std.proofs.Common.{◌≡◌, ◌-◌, ◌≤◌, length}
use Rattle.page_cursors.proofs.tests.given.Given as goal

abbrev pub invariant-loop-place : goal.invariant-loop-place
invariant-loop-place l = (length l.waiting.numbers ≡ length l.numbers) × (length l.numbers - l.place ≤ l.waiting.room)
