use Rattle.std.proofs.Common.{◌≡◌, ℕ, List, ◌∷◌, Bool, true, false, eqb, length, reverse, refl, sym, ap, ◌∙◌, inl, inr}
use Rattle.std.proofs.Common.{subst, IfOk, Result}
use Rattle.crash_disk.specs.declared.event.Event.{Event}
use Rattle.crash_disk.specs.FileState.{FileState, synced_file, appended, written}
use Rattle.crash_disk.specs.Numbers.{number_at, file_of, is_number}
use Rattle.crash_disk.proofs.NumberedFiles.{same_test, other_test}
use Rattle.crash_disk.proofs.ReplayLemmas.{made-Placed, made-Created, made-Appended, made-Wrote, made-Cut, made-Synced}
use Rattle.crash_disk.proofs.ReplayLemmas.{made-kept}
use Rattle.crash_disk.proofs.replay.changed.Goals as goal
use Rattle.crash_disk.proofs.replay.changed.Goals.{in-Placed+else-before-number}
use Rattle.crash_disk.proofs.replay.changed.Goals.{in-Created+then-stands_at+in_ok-cut-in-Created}
use Rattle.crash_disk.proofs.replay.changed.Goals.{in-Created+else-stands_at}
use Rattle.crash_disk.proofs.replay.changed.Goals.{in-Appended+then-stands_at-2+in_ok-append-in-Appended}
use Rattle.crash_disk.proofs.replay.changed.Goals.{in-Appended+else-stands_at-2}
use Rattle.crash_disk.proofs.replay.changed.Goals.{in-Wrote+then-stands_at-3+in_ok-write_at-in-Wrote}
use Rattle.crash_disk.proofs.replay.changed.Goals.{in-Wrote+else-stands_at-3, in-Cut+then-stands_at-4+in_ok-cut-in-Cut}
use Rattle.crash_disk.proofs.replay.changed.Goals.{in-Cut+else-stands_at-4, in-Synced+else-stands_at-5, in-Renamed}
use Rattle.crash_disk.proofs.replay.changed.Goals.{in-Removed, in-NamesSynced}

-- what the test says of the name that a change speaks of
stood : (before : List Event) (number : ℕ) (name text : List ℕ) (result test : Bool)
    → result ≡ is_number number (number_at (reverse before) text) → text ≡ name → result ≡ test
    → test ≡ is_number number (number_at (reverse before) name)
stood before number name text result test says same is = sym is ∙ says
    ∙ ap (λ q. is_number number (number_at (reverse before) q)) same

-- the same of the change at hand
at_event : (before : List Event) (number : ℕ) (new : FileState) (e event : Event) → e ≡ event
    → new ≡ file_of (event ∷ reverse before) number → new ≡ file_of (e ∷ reverse before) number
at_event before number new e event is made = made ∙ ap (λ x. file_of (x ∷ reverse before) number) (sym is)

if_ok : {E : Type 0} (r : Result FileState E) (made file : FileState) → IfOk r (λ new. new ≡ made) → made ≡ file
    → IfOk r (λ new. new ≡ file)
if_ok r made file is same = subst (λ f. IfOk r (λ new. new ≡ f)) same is

pub returns-then-before-number : goal.returns-then-before-number
returns-then-before-number c =
    if_ok c.new.result _ _ c.new.ensures
    (at_event c.args.before.now c.args.number _ c.args.event.now _ c.in-Placed.is
    (made-Placed c.args.before.now c.args.number c.args.file _ c.requires.so_far c.in-Placed.field-0 c.in-Placed.bytes
    true
    (sym (ap (eqb c.args.number) c.if-before-number.true ∙ same_test c.args.number))
    (ap synced_file c.as_slice.ensures)))

pub returns-then-stands_at-5 : goal.returns-then-stands_at-5
returns-then-stands_at-5 c =
    if_ok c.synced.result _ _ c.synced.ensures
    (at_event c.args.before.now c.args.number _ c.args.event.now _ c.in-Synced.is
    (made-Synced c.args.before.now c.args.number c.args.file _ c.requires.so_far c.in-Synced.name true
    (stood c.args.before.now c.args.number c.in-Synced.name c.as_str-in-Synced.result.now c.stands_at-in-Synced.result
    true c.stands_at-in-Synced.ensures c.as_str-in-Synced.ensures c.if-stands_at-5.true) refl))

pub returns : goal.returns
returns c =
    elim c.match-event.branch [
      | in-Placed+else-before-number w ↦
          at_event c.args.before.now c.args.number _ c.args.event.now _ w.in-Placed.is
          (made-Placed c.args.before.now c.args.number c.args.file _ c.requires.so_far w.in-Placed.field-0
          w.in-Placed.bytes false
          (sym (other_test c.args.number (length c.args.before.now) (λ e. w.if-before-number.false (sym e)))) w.file-is)
      | in-Created+then-stands_at+in_ok-cut-in-Created w ↦
          at_event c.args.before.now c.args.number _ c.args.event.now _ w.in-Created.is
          (made-Created c.args.before.now c.args.number c.args.file _ c.requires.so_far w.in-Created.name true
          (stood c.args.before.now c.args.number w.in-Created.name w.as_str.result.now w.stands_at.result true
          w.stands_at.ensures w.as_str.ensures w.if-stands_at.true) (w.file-is ∙ w.in_ok-cut-in-Created.ensures))
      | in-Created+else-stands_at w ↦
          at_event c.args.before.now c.args.number _ c.args.event.now _ w.in-Created.is
          (made-Created c.args.before.now c.args.number c.args.file _ c.requires.so_far w.in-Created.name false
          (stood c.args.before.now c.args.number w.in-Created.name w.as_str.result.now w.stands_at.result false
          w.stands_at.ensures w.as_str.ensures w.if-stands_at.false) w.file-is)
      | in-Appended+then-stands_at-2+in_ok-append-in-Appended w ↦
          at_event c.args.before.now c.args.number _ c.args.event.now _ w.in-Appended.is
          (made-Appended c.args.before.now c.args.number c.args.file _ c.requires.so_far w.in-Appended.name
          w.in-Appended.bytes true
          (stood c.args.before.now c.args.number w.in-Appended.name w.as_str-in-Appended.result.now
          w.stands_at-in-Appended.result true w.stands_at-in-Appended.ensures w.as_str-in-Appended.ensures
          w.if-stands_at-2.true) (w.file-is ∙ w.in_ok-append-in-Appended.ensures
          ∙ ap (λ more. appended more c.args.file) w.as_slice-then-stands_at-2.ensures))
      | in-Appended+else-stands_at-2 w ↦
          at_event c.args.before.now c.args.number _ c.args.event.now _ w.in-Appended.is
          (made-Appended c.args.before.now c.args.number c.args.file _ c.requires.so_far w.in-Appended.name
          w.in-Appended.bytes false
          (stood c.args.before.now c.args.number w.in-Appended.name w.as_str-in-Appended.result.now
          w.stands_at-in-Appended.result false w.stands_at-in-Appended.ensures w.as_str-in-Appended.ensures
          w.if-stands_at-2.false) w.file-is)
      | in-Wrote+then-stands_at-3+in_ok-write_at-in-Wrote w ↦
          at_event c.args.before.now c.args.number _ c.args.event.now _ w.in-Wrote.is
          (made-Wrote c.args.before.now c.args.number c.args.file _ c.requires.so_far w.in-Wrote.name w.in-Wrote.at
          w.in-Wrote.bytes true
          (stood c.args.before.now c.args.number w.in-Wrote.name w.as_str-in-Wrote.result.now
          w.stands_at-in-Wrote.result true w.stands_at-in-Wrote.ensures w.as_str-in-Wrote.ensures
          w.if-stands_at-3.true) (w.file-is ∙ w.in_ok-write_at-in-Wrote.ensures
          ∙ ap (λ more. written w.in-Wrote.at more c.args.file) w.as_slice-then-stands_at-3.ensures))
      | in-Wrote+else-stands_at-3 w ↦
          at_event c.args.before.now c.args.number _ c.args.event.now _ w.in-Wrote.is
          (made-Wrote c.args.before.now c.args.number c.args.file _ c.requires.so_far w.in-Wrote.name w.in-Wrote.at
          w.in-Wrote.bytes false
          (stood c.args.before.now c.args.number w.in-Wrote.name w.as_str-in-Wrote.result.now
          w.stands_at-in-Wrote.result false w.stands_at-in-Wrote.ensures w.as_str-in-Wrote.ensures
          w.if-stands_at-3.false) w.file-is)
      | in-Cut+then-stands_at-4+in_ok-cut-in-Cut w ↦
          at_event c.args.before.now c.args.number _ c.args.event.now _ w.in-Cut.is
          (made-Cut c.args.before.now c.args.number c.args.file _ c.requires.so_far w.in-Cut.name w.in-Cut.size true
          (stood c.args.before.now c.args.number w.in-Cut.name w.as_str-in-Cut.result.now w.stands_at-in-Cut.result
          true w.stands_at-in-Cut.ensures w.as_str-in-Cut.ensures w.if-stands_at-4.true)
          (w.file-is ∙ w.in_ok-cut-in-Cut.ensures))
      | in-Cut+else-stands_at-4 w ↦
          at_event c.args.before.now c.args.number _ c.args.event.now _ w.in-Cut.is
          (made-Cut c.args.before.now c.args.number c.args.file _ c.requires.so_far w.in-Cut.name w.in-Cut.size false
          (stood c.args.before.now c.args.number w.in-Cut.name w.as_str-in-Cut.result.now w.stands_at-in-Cut.result
          false w.stands_at-in-Cut.ensures w.as_str-in-Cut.ensures w.if-stands_at-4.false) w.file-is)
      | in-Synced+else-stands_at-5 w ↦
          at_event c.args.before.now c.args.number _ c.args.event.now _ w.in-Synced.is
          (made-Synced c.args.before.now c.args.number c.args.file _ c.requires.so_far w.in-Synced.name false
          (stood c.args.before.now c.args.number w.in-Synced.name w.as_str-in-Synced.result.now
          w.stands_at-in-Synced.result false w.stands_at-in-Synced.ensures w.as_str-in-Synced.ensures
          w.if-stands_at-5.false) w.file-is)
      | in-Renamed w ↦ made-kept c.args.before.now c.args.number c.args.file _ c.requires.so_far c.args.event.now
          (inl (w.in-Renamed.field-0, w.in-Renamed.field-1, w.in-Renamed.is)) w.file-is
      | in-Removed w ↦ made-kept c.args.before.now c.args.number c.args.file _ c.requires.so_far c.args.event.now
          (inr (inl (w.in-Removed.field-0, w.in-Removed.is))) w.file-is
      | in-NamesSynced w ↦ made-kept c.args.before.now c.args.number c.args.file _ c.requires.so_far c.args.event.now
          (inr (inr w.in-NamesSynced.is)) w.file-is
    ]
