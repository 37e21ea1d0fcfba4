-- A file that isn't taken in, behind others.
use Rattle.std.proofs.Common.{◌≡◌, ℕ, ◌^◌, ◌<◌, ◌≤◌, true, false, Bool, List, [], ◌∷◌, ◌++◌, length}
use Rattle.std.proofs.Common.{take, Some, refl, sym, ap, subst, ◌∙◌, arith}
use Rattle.std.specs.Prelude.{slice_get, ◌==◌}
use Rattle.std.proofs.lemmas.Bool.{false≢true, ne_eqb}
use Rattle.std.proofs.lemmas.List.{length-take}
use Rattle.std.proofs.lemmas.Option.{slice_get_within}
use Rattle.std.proofs.Math.Nat.{pow-le-pow_right}
use Rattle.crash_disk.specs.declared.event.Event.{Event}
use Rattle.crash_disk.specs.Files.{Files, files_after}
use Rattle.crash_disk.specs.Told.{Told}
use Rattle.ls_base.specs.PageSize.{IsPageSize}
use Rattle.replica_store.specs.declared.error.Damage.{Damage}
use Rattle.replica_store.specs.declared.file_name.FileName.{FileName}
use Rattle.page_cursors.specs.declared.cursor.Cursor.{Cursor}
use Rattle.page_cursors.specs.declared.fault.CursorsFault.{CursorsFault}
use Rattle.page_cursors.specs.declared.opening.Odd.{Odd}
use Rattle.page_cursors.specs.Cursor.{HaveSize}
use Rattle.page_cursors.specs.Ending.{AreOpen, FindsFault}
use Rattle.page_cursors.specs.Fault.{Blames}
use Rattle.page_cursors.specs.Opening.{HaveBegun, CoversPlan, IsOddDamage, names_of}
use Rattle.page_cursors.specs.PlanFiles.{IsFirstDamaged}
use Rattle.page_cursors.proofs.DamageLemmas.{same_events, damaged_behind}
use Rattle.page_cursors.proofs.TakeLemmas.{some_commit}

first_of : (cursors : List Cursor) → 0 < length cursors → (first : Cursor) × (slice_get cursors 0 ≡ Some first)
first_of [] some = absurd (omega (arith, some))
first_of (c ∷ cursors) some = (c, refl)

begun_open : (files : Files) (size : ℕ) (cursors : List Cursor) → HaveBegun files size 0 cursors
    → AreOpen files size cursors
begun_open files size cursors begun k cursor is =
    let commit = some_commit cursors k (slice_get_within cursors k cursor is) in
    (begun k commit.0 cursor is commit.1).0.open_file

-- no file stands before it
pub odd_alone : (told : Told) (events : List Event) (size : ℕ) (plan : List FileName) (cursors : List Cursor)
    (odd : Odd) (damage : Damage) → told ≡ Some events → cursors ≡ []
    → CoversPlan (files_after events) size plan cursors (Some odd) → IsOddDamage (files_after events) size odd damage
    → (events' : List Event) → told ≡ Some events' → IsFirstDamaged (files_after events') plan odd.name damage
odd_alone told events size plan cursors odd damage is none covers found events' is' =
    subst (λ (es : List Event). IsFirstDamaged (files_after es) plan odd.name damage)
    (same_events told events events' is is')
    (subst (λ (names : List FileName). IsFirstDamaged (files_after events) names odd.name damage) (sym (covers.0.1
    ∙ ap (λ (cs : List Cursor). names_of cs ++ odd.name ∷ covers.0.0) none))
    (damaged_behind (files_after events) size [] odd.name damage covers.0.0 (λ k c at. absurd cc)
    (λ k c at. absurd cc) (record {
      first = λ e differs. covers.1 none
          (found.same differs);
      damaged = found.damaged;
    })))

pub same_size : (files : Files) (size n : ℕ) (cursors : List Cursor) → HaveBegun files size 0 cursors
    → HaveSize n cursors → 0 < length cursors → n ≡ size
same_size files size n cursors begun sized some =
    let first = first_of cursors some in
    sym (sized 0 first.0 first.1) ∙ (begun_open files size cursors begun 0 first.0 first.1).sized

-- files stand before it
pub odd_behind : (told : Told) (events : List Event) (size n : ℕ) (plan : List FileName) (cursors : List Cursor)
    (odd : Odd) (damage : Damage) (found : CursorsFault) → HaveSize n cursors → 0 < length cursors
    → HaveBegun (files_after events) size 0 cursors → CoversPlan (files_after events) size plan cursors (Some odd)
    → IsOddDamage (files_after events) size odd damage
    → FindsFault (files_after events) told n cursors odd.name damage found → Blames told plan found
odd_behind told events size n plan cursors odd damage found sized some begun covers is finds =
    let same = same_size (files_after events) size n cursors begun sized some in
    subst (λ (names : List FileName). Blames told names found) (sym covers.0.1)
    (subst (λ (m : ℕ). FindsFault (files_after events) told m cursors odd.name damage found) same finds (begun_open
    (files_after events) size cursors begun)
    (record { first = λ none differs. covers.1 none (is.same differs); damaged = is.damaged }) covers.0.0)

-- a page fits into the buffer
pub page_fits : (size : ℕ) (page : List ℕ) → IsPageSize size → length page ≡ 65536 → length (take size page) ≡ size
page_fits size page is room =
    let most : 2 ^ is.0 ≤ 2 ^ 16 = pow-le-pow_right {n = 2} (omega arith) is.2 in
    let power = is.3 in
    length-take size page ∙ omega (arith, most, power, room)

pub empty_list : (cursors : List Cursor) (test : Bool) → test ≡ (length cursors == 0) → test ≡ true → cursors ≡ []
empty_list [] test is passed = refl
empty_list (c ∷ cursors) test is passed = absurd (false≢true (sym (ne_eqb (length (c ∷ cursors)) 0 (λ e. omega
    (arith, e))) ∙ sym is ∙ passed))

pub some_list : (cursors : List Cursor) (test : Bool) → test ≡ (length cursors == 0) → test ≡ false → 0 < length cursors
some_list [] test is failed = absurd (false≢true (sym failed ∙ is))
some_list (c ∷ cursors) test is failed = omega arith
