use Rattle.std.proofs.Common.{◌≡◌, ◌-◌, ◌≤◌, false, length, drop}
use Rattle.ls_words.specs.Reading.{default_settings, flagged}
use Rattle.ls_words.proofs.reading.read_flags.Given as goal

abbrev pub invariant-loop-at : goal.invariant-loop-at
invariant-loop-at l = record {
  within : l.at ≤ length l.words;
  same : flagged l.verb l.at false l.settings (drop l.at l.words) ≡ flagged l.verb 1 false (default_settings l.verb)
      (drop 1 l.words);
}

abbrev pub decreases-loop-at : goal.decreases-loop-at
decreases-loop-at l = length l.words - l.at
