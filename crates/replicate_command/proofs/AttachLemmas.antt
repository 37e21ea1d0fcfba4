-- How the objects are attached, and what is left at the end.
use Rattle.std.proofs.Common.{◌≡◌, ◌≢◌, ℕ, Bool, true, false, None, Result, Ok, Err, refl, inl, inr}
use Rattle.std.specs.Prelude.{IsErr}
use Rattle.crash_disk.specs.declared.fault.NamesFault.{NamesFault}
use Rattle.crash_disk.specs.declared.fault.NamesFault.TheVariants as names
use Rattle.crash_disk.specs.Fault.{NamesHasCause}
use Rattle.live_gate.specs.declared.answer.Attached.TheVariants.{Absent, Found}
use Rattle.live_gate.specs.declared.fault.LiveFault.{LiveFault}
use Rattle.live_gate.specs.LiveCalls.{Leaves, found_at}
use Rattle.live_gate.specs.LiveRecord.{LiveRecord, Told, GoesOn, IfTold}
use Rattle.ls_answers.specs.declared.outcome.Why.TheVariants as why
use Rattle.replicate_command.specs.Attaching.{AttachesBoth, ExplainsAttach}
use Rattle.replicate_command.specs.Ends.{ReplicateEnds}
use Rattle.replicate_command.specs.Seen.{Seen, FaultsStay}
use Rattle.replicate_command.specs.Stop.{stop_of_names, why_of_stop}
use Rattle.replicate_command.specs.declared.stop.ReplicateStop.{ReplicateStop}
use Rattle.replicate_command.specs.declared.stop.ReplicateStop.TheVariants.{NoDatabase, Header, SizesDiffer}
use Rattle.replicate_command.specs.declared.stop.ReplicateStop.TheVariants.{WalTooLong, TooLarge, GateBroken, Damaged}
use Rattle.replicate_command.specs.declared.stop.ReplicateStop.TheVariants.{PageMissing, TxidSpent, Live, Store, Sink}
use Rattle.replicate_command.specs.declared.stop.ReplicateStop.TheVariants.{Memory}
use Rattle.replicate_command.proofs.EndLemmas.{refused_first}
use Rattle.replicate_command.proofs.LaterLemmas.{live_weaker, told_before}

-- ---- what the answer of an attach says

pub absent_there : (there : Bool) → Absent ≡ found_at there → there ≡ false
absent_there true is = absurd cc
absent_there false is = refl

pub found_there : (there : Bool) → Found ≡ found_at there → there ≢ false
found_there true is = λ e. absurd cc
found_there false is = absurd cc

pub explains_names : (live : Told) (there : Bool) (live_before live_now store_before store_now : ℕ) {T : Type 0}
    (fault : NamesFault) → NamesHasCause {T = T} store_before store_now (Err fault) → IfTold live (λ r. there ≢ false)
    → ExplainsAttach live there live_before live_now store_before store_now (Err (stop_of_names fault))
explains_names live there live_before live_now store_before store_now (names.Disk fault) cause is =
    (cause.rose fault refl, is)
explains_names live there live_before live_now store_before store_now names.Memory cause is = tt

-- ---- a refused attach ends a replication

pub attach_refused : (seen : Seen) (stop : ReplicateStop) → seen.store_after ≡ seen.store → seen.text_after ≡ seen.text
    → FaultsStay seen → GoesOn seen.live seen.live_after (AttachesBoth (Err stop))
    → ExplainsAttach seen.live seen.is_there seen.live_faults seen.live_faults_after seen.store_faults
    seen.store_faults_after (Err stop) → ReplicateEnds seen (why_of_stop stop)
attach_refused seen NoDatabase store text faults live explained =
    refused_first seen why.NoDatabase refl explained (live_weaker _ _ _ _ live (λ x y both. both.later)) store text
    faults
    (λ r told none calm. inl refl)
    (λ no_fault memory calm r told. (told_before _ _ _ live r told).2.holds) (λ done. absurd cc)
    (record { damaged = λ n d e. cc; lacking = λ n p e. cc })
attach_refused seen Live store text faults live explained =
    refused_first seen why.LiveFault refl explained (live_weaker _ _ _ _ live (λ x y both. both.later)) store text
    faults
    (λ r told none calm. absurd (calm explained)) (λ no_fault. absurd (no_fault refl)) (λ done. absurd cc)
    (record { damaged = λ n d e. cc; lacking = λ n p e. cc })
attach_refused seen Store store text faults live explained =
    refused_first seen why.StoreFault refl explained.0 (live_weaker _ _ _ _ live (λ x y both. both.later)) store text
    faults (λ r told none calm. absurd (explained.1 r told none))
    (λ no_fault memory calm r told. (told_before _ _ _ live r told).2.holds) (λ done. absurd cc)
    (record { damaged = λ n d e. cc; lacking = λ n p e. cc })
attach_refused seen Memory store text faults live explained =
    refused_first seen why.Memory refl tt (live_weaker _ _ _ _ live (λ x y both. both.later)) store text faults
    (λ r told none calm. inr refl) (λ no_fault memory. absurd (memory refl)) (λ done. absurd cc)
    (record { damaged = λ n d e. cc; lacking = λ n p e. cc })
attach_refused seen (Header fault) store text faults live explained = absurd explained
attach_refused seen (SizesDiffer db wal) store text faults live explained = absurd explained
attach_refused seen (WalTooLong size) store text faults live explained = absurd explained
attach_refused seen (TooLarge size) store text faults live explained = absurd explained
attach_refused seen (GateBroken how) store text faults live explained = absurd explained
attach_refused seen (Damaged name damage) store text faults live explained = absurd explained
attach_refused seen (PageMissing name number) store text faults live explained = absurd explained
attach_refused seen TxidSpent store text faults live explained = absurd explained
attach_refused seen Sink store text faults live explained = absurd explained

-- ---- the gate is left

-- where the call didn't fail, no hold is left
pub left_free : (result : Result (Unit {0}) LiveFault) (old new : LiveRecord) → Leaves result old new
    → (IsErr result → ⊥) → new.database.held ≡ None
left_free (Ok done) old new leaves never = leaves.ok
left_free (Err fault) old new leaves never = absurd (never refl)
