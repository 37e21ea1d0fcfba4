-- Small instances worked out by hand, so that a wrong definition doesn't check.
use Rattle.std.proofs.Common.{◌≡◌, ℕ, List, [], ◌∷◌, ◌++◌, length, Some, None, refl, ap, arith, length-append, true}
use Rattle.ls_base.specs.declared.entry.Entry.{Entry}
use Rattle.ls_base.specs.History.{History}
use Rattle.wal_frames.specs.declared.fault.WalHeaderFault.TheVariants.{Short}
use Rattle.wal_frames.specs.ValidPrefix.{if_accepted}
use Rattle.wal_frames.proofs.LogLemmas.{no_marks}
use Rattle.live_gate.specs.Legal.{IsAtRest, IsMarkEnd, IsLegal}
use Rattle.live_gate.specs.LiveCalls.{AgreeInFront, capped}
use Rattle.live_gate.specs.Still.{file_page_size, log_page_size}
use Rattle.live_gate.proofs.CommitLemmas.{no_log}

-- ---- what is not legal

nothing_there : (earlier : History) (last : Entry) → [] ≡ earlier ++ last ∷ [] → ⊥
nothing_there earlier last e = absurd (omega (arith, ap length e, length-append earlier (last ∷ [])))

no_mark_end : (end : ℕ) → IsMarkEnd [] end → ⊥
no_mark_end end (mark, is, ends) = absurd (omega (arith, is.1, ap length (no_marks [] Short no_log)))

-- a database whose history and log are empty
pub needs_an_entry : (file : List ℕ) → IsAtRest [] [] file 0 → ⊥
needs_an_entry file rest = nothing_there rest.earlier rest.last rest.split

-- an empty log of which something is copied
pub nothing_to_copy : (history : History) (file : List ℕ)
    → IsLegal (record {
      history = history;
      committed = [];
      file = file;
      copied = 1104;
      held = None;
      refuses = true;
      stopped = true;
      chances = 0;
    }) → ⊥
nothing_to_copy history file is = no_mark_end 1104 (is.is_copied (λ e. omega (arith, e)))

-- a gate that is held at no mark where frames are copied
pub held_before_the_copied : (history : History) (log file : List ℕ)
    → IsLegal (record {
      history = history;
      committed = log;
      file = file;
      copied = 1104;
      held = Some 0;
      refuses = true;
      stopped = true;
      chances = 0;
    }) → ⊥
held_before_the_copied history log file is = let zeros : 1104 ≡ 0 = (is.is_held 0 refl).at_no_mark refl in absurd
    (omega (arith, zeros))

-- ---- values

pub counts_stay : (capped 7 ≡ 7) × (capped 18446744073709551616 ≡ 18446744073709551615)
counts_stay = (refl, refl)

pub page_sizes_without_headers : (file_page_size [] ≡ 512) × (log_page_size [] ≡ 512)
page_sizes_without_headers = (refl, ap (λ r. if_accepted r (λ h. h.size) 512) no_log)

-- bytes agree as far as both lists go, in both directions
pub agreeing : AgreeInFront (1 ∷ 2 ∷ []) (1 ∷ 2 ∷ 3 ∷ []) × AgreeInFront (1 ∷ 2 ∷ 3 ∷ []) (1 ∷ 2 ∷ []) ×
    (AgreeInFront (1 ∷ 4 ∷ []) (1 ∷ 2 ∷ 3 ∷ []) → ⊥)
agreeing = (refl, refl, λ e. absurd cc)
