-- The cursors of the files that were opened.
use Rattle.std.proofs.Common.{◌≡◌, ◌≢◌, ℕ, zero, suc, ◌+◌, ◌<◌, ◌≤◌, List, [], ◌∷◌, length, replicate, Option}
use Rattle.std.proofs.Common.{Some, None, refl, sym, ap, subst, ◌∙◌, arith}
use Rattle.std.specs.Prelude.{slice_get, Result, Ok, Err, IsErrAnd}
use Rattle.std.proofs.lemmas.List.{length-replicate}
use Rattle.crash_disk.specs.declared.event.Event.{Event}
use Rattle.crash_disk.specs.Files.{Files}
use Rattle.crash_disk.specs.Told.{Told}
use Rattle.replica_store.specs.declared.file_name.FileName.{FileName}
use Rattle.page_cursors.specs.declared.cursor.Cursor.{Cursor}
use Rattle.page_cursors.specs.declared.fault.CursorsFault.{CursorsFault}
use Rattle.page_cursors.specs.declared.fault.CursorsFault.TheVariants.{Damaged, PageMissing, Store, Memory}
use Rattle.page_cursors.specs.declared.opening.Odd.{Odd}
use Rattle.page_cursors.specs.declared.opening.Opened.{Opened}
use Rattle.page_cursors.specs.Cursor.{HaveSize, commit_of}
use Rattle.ls_base.specs.Fault.{Rose}
use Rattle.page_cursors.specs.Fault.{Blames, CursorsHaveCause, FaultHasCause, TellsNoMissing}
use Rattle.page_cursors.specs.Opening.{AreOpened, HaveBegun, CoversPlan, ExplainsOpening, commits_from}
use Rattle.page_cursors.specs.Queue.{AreFresh}
use Rattle.page_cursors.proofs.OddLemmas.{same_size}

-- the last file's size is the plan's
pub ends_with : (cursors : List Cursor) (last : Cursor) (at : ℕ) → at + 1 ≡ length cursors
    → slice_get cursors at ≡ Some last
    → (before : ℕ) → slice_get (commits_from before cursors) (length cursors) ≡ Some (commit_of last)
ends_with [] last at e is before = absurd (omega (arith, e))
ends_with (c ∷ []) last zero e is before = let same : c ≡ last = cc in ap (λ (x : Cursor). Some (commit_of x)) same
ends_with (c ∷ []) last (suc at) e is before = absurd (omega (arith, e))
ends_with (c ∷ d ∷ rest) last zero e is before = absurd (omega (arith, e))
ends_with (c ∷ d ∷ rest) last (suc at) e is before = ends_with (d ∷ rest) last at (omega (arith, e)) is (commit_of c)

-- a plan of some files
pub some_files : {X : Type 0} (plan : List X) → plan ≢ [] → 0 < length plan
some_files [] some = absurd (some refl)
some_files (x ∷ plan) some = omega arith

get-replicate : {X : Type 0} (n k : ℕ) (x : X) → k < n → slice_get (replicate n x) k ≡ Some x
get-replicate zero k x low = absurd (omega (arith, low))
get-replicate (suc n) zero x low = refl
get-replicate (suc n) (suc k) x low = get-replicate n k x (omega (arith, low))

-- no cursor waits yet
pub none_waits : (numbers : List (Option ℕ)) (count : ℕ) → numbers ≡ replicate count None → AreFresh 0 numbers
none_waits numbers count is k low below =
    ap (λ (ns : List (Option ℕ)). slice_get ns k) is
    ∙ get-replicate {X = Option ℕ} count k None (omega
    (arith, below, ap length is, length-replicate {A = Option ℕ} count None))

pub as_many : (numbers : List (Option ℕ)) (count : ℕ) → numbers ≡ replicate count None → length numbers ≡ count
as_many numbers count is = ap length is ∙ length-replicate {A = Option ℕ} count None

-- the files have begun
pub have_begun : (files : Files) (plan : List FileName) (opened : Opened) (size : ℕ) (cursors : List Cursor)
    → AreOpened files plan opened
    → cursors ≡ opened.cursors.items → HaveSize size cursors → 0 < length cursors → HaveBegun files size 0 cursors
have_begun files plan opened size cursors are is sized some =
    let begun : HaveBegun files are.size 0 cursors = subst (λ (cs : List Cursor). HaveBegun files are.size 0 cs)
    (sym is) are.begun in
    subst (λ (n : ℕ). HaveBegun files n 0 cursors) (sym (same_size files are.size size cursors begun sized some)) begun

pub covers_odd : (files : Files) (plan : List FileName) (opened : Opened) (odd : Odd)
    (are : AreOpened files plan opened) → opened.odd ≡ Some odd
    → CoversPlan files are.size plan opened.cursors.items (Some odd)
covers_odd files plan opened odd are is = subst (λ (o : Option Odd). CoversPlan files are.size plan
    opened.cursors.items o) is are.covers

-- a fault of opening blames no file
pub blames_none : (told : Told) (plan : List FileName) (fault : CursorsFault) → ExplainsOpening fault
    → Blames told plan fault
blames_none told plan (Damaged name damage) explains = absurd explains
blames_none told plan (PageMissing name number) explains = absurd explains
blames_none told plan (Store fault) explains = tt
blames_none told plan Memory explains = tt

-- what a fault blames on a disk that tells its content it blames on any
pub blames_told : (told : Told) (plan : List FileName) (fault : CursorsFault) → ((events : List Event)
    → told ≡ Some events → Blames told plan fault)
    → Blames told plan fault
blames_told told plan (Damaged name damage) blames = λ events is. blames events is events is
blames_told told plan (PageMissing name number) blames = λ events is. blames events is events is
blames_told told plan (Store fault) blames = tt
blames_told told plan Memory blames = tt

pub no_odd : (odd : Option Odd) → ((x : Odd) → odd ≡ Some x → ⊥) → odd ≡ None
no_odd None none = refl
no_odd (Some odd) none = absurd (none odd refl)

-- ---- what a fault rests on

rose_sooner : (before mid now : ℕ) → before ≤ mid → Rose mid now → Rose before now
rose_sooner before mid now low rose = record { least = omega (arith, low, rose.least) }

same_fault : {T : Type 0} (e d : CursorsFault) → ◌≡◌ {A = Result T CursorsFault} (Err e) (Err d) → e ≡ d
same_fault e d is = cc

pub cause_of : {T U : Type 0} (before mid now : ℕ) (r : Result T CursorsFault) (e : CursorsFault)
    → IsErrAnd r (λ x. x ≡ e) → before ≤ mid
    → CursorsHaveCause {T = U} mid now (Err e) → CursorsHaveCause {T = T} before now r
cause_of before mid now (Ok x) e holds low cause = absurd holds
cause_of {U = U} before mid now (Err x) e holds low cause = record {
  later = omega (arith, low, cause.later);
  rose = λ fault is.
      rose_sooner before mid now low (cause.rose fault (ap (λ (y : CursorsFault). Err y) (sym holds
      ∙ same_fault x (Store fault) is)));
}

pub cause_behind : {T : Type 0} (before mid now : ℕ) (fault : CursorsFault) → before ≤ mid → FaultHasCause mid now fault
    → CursorsHaveCause {T = T} before now (Err fault)
cause_behind before mid now fault low cause = record {
  later = omega (arith, low, cause.later);
  rose = λ why is. rose_sooner before mid now low (cause.rose why (same_fault fault (Store why) is));
}

pub no_cause : {T : Type 0} (before now : ℕ) (x : T) → before ≤ now → CursorsHaveCause before now (Ok x)
no_cause before now x low = record { later = low; rose = λ why is. absurd cc }

-- no page is missing where none is told to be
pub no_missing_of : {T U : Type 0} (r : Result T CursorsFault) (e : CursorsFault) → IsErrAnd r (λ x. x ≡ e)
    → TellsNoMissing {T = U} (Err e) → TellsNoMissing {T = T} r
no_missing_of (Ok x) e holds none = absurd holds
no_missing_of (Err x) e holds none = λ name number is. none name number
    (ap (λ (y : CursorsFault). Err y) (sym holds ∙ same_fault x (PageMissing name number) is))

pub no_missing_found : {T : Type 0} (before now : ℕ) (fault : CursorsFault) → FaultHasCause before now fault
    → TellsNoMissing {T = T} (Err fault)
no_missing_found before now fault cause = λ name number is. cause.no_missing name number
    (same_fault fault (PageMissing name number) is)
