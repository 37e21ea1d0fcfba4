-- A replica goes on by a file with the next line, and by a merged one.
use Rattle.std.proofs.Common.{◌≡◌, ℕ, suc, ◌+◌, ◌<◌, ◌≤◌, List, [], ◌∷◌, ◌++◌, length, Option, Some, None, refl, sym}
use Rattle.std.proofs.Common.{ap, subst, ◌∙◌, inl, inr, ⊎_elim, length-append, arith}
use Rattle.std.specs.Prelude.{IsSome}
use Rattle.std.specs.List.{AllByRecursion, slice_get}
use Rattle.crash_disk.specs.declared.event.Event.{Event}
use Rattle.crash_disk.specs.Files.{Files, files_after, file_at}
use Rattle.ls_base.specs.declared.line.Line.{Line}
use Rattle.ls_base.specs.History.{History, state_at}
use Rattle.ls_base.specs.SyncLog.{SyncLog, line_of}
use Rattle.replica_store.specs.declared.file_name.FileName.{FileName}
use Rattle.replica_store.specs.CarriesOn.{IsLonger, CarriesOn, RetainsNew}
use Rattle.replica_store.specs.CarryLaws.{NextFileCarriesOn, NextFileSettles, MergedFileCarriesOn, MergedFileSettles}
use Rattle.replica_store.specs.Chain.{LeadsBy, MayComeNext}
use Rattle.replica_store.specs.CrashFaithful.{IsCrashFaithful, IsSettled}
use Rattle.replica_store.specs.Listing.{path_of, IsIn}
use Rattle.replica_store.specs.PutFiles.{IsNextFile, FollowsRetained}
use Rattle.replica_store.specs.Putting.{Puts, HasPut}
use Rattle.replica_store.specs.Retained.{IsRetainedIn}
use Rattle.replica_store.proofs.CarryLemmas.{none_new}
use Rattle.replica_store.proofs.CrashLemmas.{as_read, image_reads}
use Rattle.replica_store.proofs.FaithLemmas.{in_same, is_there, retained_more}
use Rattle.replica_store.proofs.LogLemmas.{longer_same}
use Rattle.replica_store.proofs.PutCarryLemmas.{put_carries_on, put_crash_faithful, put_settled, in_now, name_in_now}

-- ---- one line more

length-line : (log : SyncLog) (line : Line) → length (log ++ line ∷ []) ≡ length log + 1
length-line log line = length-append log (line ∷ [])

last_line : (log : SyncLog) (line : Line) → slice_get (log ++ line ∷ []) (length log) ≡ Some line
last_line [] line = refl
last_line (first ∷ log) line = last_line log line

line_of-last : (log : SyncLog) (line : Line) (t : ℕ) → t ≡ length log + 1 → line_of (log ++ line ∷ []) t ≡ Some line
line_of-last log line t is =
    let next : t ≡ suc (length log) = omega (arith, is) in
    ap (line_of (log ++ line ∷ [])) next ∙ last_line log line

all_push : (P : Line → Type 0) (log : SyncLog) (line : Line) → AllByRecursion P log → P line
    → AllByRecursion P (log ++ line ∷ [])
all_push P [] line all here = (here, tt)
all_push P (first ∷ log) line all here = (all.0, all_push P log line all.1 here)

none_unless : (file : Option (List ℕ)) → ((bytes : List ℕ) → file ≡ Some bytes → ⊥) → file ≡ None
none_unless None never = refl
none_unless (Some bytes) never = absurd (never bytes refl)

-- ---- a chain with one file more

leads_push : (P : FileName → Type 0) (from : ℕ) (chain : List FileName) (s : ℕ) (name : FileName)
    → LeadsBy P from chain s → P name → MayComeNext s name → LeadsBy P from (chain ++ name ∷ []) name.max
leads_push P from [] s name leads here next = (here, subst (λ (n : ℕ). MayComeNext n name) (sym leads) next, refl)
leads_push P from (first ∷ chain) s name leads here next =
    (leads.0, leads.1, leads_push P first.max chain s name leads.2 here next)

retained_next : (files : Files) (name : FileName) → IsIn files name → FollowsRetained files name
    → IsRetainedIn files name.max
retained_next files name here follows =
    let up : 1 ≤ name.max = omega (arith, follows.next.goes_on) in
    ⊎_elim
    (λ nothing. record {
      positive = up;
      chain = name ∷ [];
      leads =
          (here, subst (λ (n : ℕ). MayComeNext n name) nothing follows.next, refl);
    })
    (λ is. record {
      positive = up;
      chain = is.chain ++ name ∷ [];
      leads = leads_push (IsIn files) 0 is.chain
          follows.after name is.leads here follows.next;
    })
    follows.retained

-- ---- the laws

module _ (history : History) (before now : List Event) (log : SyncLog) (line : Line) (name : FileName)
    (bytes : List ℕ) (settled : IsSettled before history log) (next : IsNextFile history log line name bytes) where
  abbrev later : SyncLog
  later = log ++ line ∷ []

  newest : name.max ≡ length later
  newest = next.last ∙ sym (length-line log line)

  fresh : file_at before (path_of name) ≡ None
  fresh = none_unless (file_at before (path_of name)) (λ found is.
      let low = settled.faithful.files.within name
      (record { valid = next.valid; there = is_there (file_at before (path_of name)) found is }) in omega
      (arith, low, next.last))

  placed : AllByRecursion (λ line. IsSome (state_at history line.place)) later
  placed = all_push (λ line. IsSome (state_at history line.place)) log line settled.faithful.files.placed next.placed

  longer : IsLonger log later
  longer = record { more = line ∷ []; is = refl }

  module _ (puts : Puts (path_of name) bytes before now) where
    last_one : (t : ℕ) → length log < t → t ≤ length later → t ≡ length log + 1
    last_one t above within = omega (arith, above, within, length-line log line)

    pub next_carries_on : (cut : ℕ) → cut ≤ line.moment → CarriesOn history cut before now log later
    next_carries_on cut young =
        put_carries_on history cut before now log settled later name bytes longer next.rising placed next.valid
        (omega (arith, newest)) next.file (inl newest) fresh puts
        (λ t above within.
        let last = last_one t above within in (
          record { line = line; is = line_of-last log line t last; late = young },
          (
            name,
            name_in_now history cut before now log settled later name bytes longer next.rising placed next.valid
                (omega (arith, newest)) next.file (inl newest) fresh puts,
            next.last ∙ sym last,
          ),
        ))

    pub next_crash_faithful : IsCrashFaithful now history later
    next_crash_faithful = put_crash_faithful history 0 before now log settled later name bytes longer next.rising
        placed next.valid (omega (arith, newest)) next.file (inl newest) fresh puts

  module _ (put : HasPut (path_of name) bytes before now) where
    pub next_settled : IsSettled now history later
    next_settled = put_settled history 0 before now log settled later name bytes longer next.rising placed next.valid
        (omega (arith, newest)) next.file (inl newest) fresh put.puts put.stays

    still_in : (other : FileName) → IsIn (files_after before) other → IsIn (files_after now) other
    still_in other there = in_now history 0 before now log settled later name bytes longer next.rising placed
        next.valid (omega (arith, newest)) next.file (inl newest) fresh put.puts other there

    follows_now : FollowsRetained (files_after before) name → FollowsRetained (files_after now) name
    follows_now follows = record {
      after = follows.after;
      retained = ⊎_elim (λ none. inl none)
          (λ is. inr (retained_more (files_after before) (files_after now) follows.after still_in is)) follows.retained;
      next = follows.next;
    }

    pub next_retained : FollowsRetained (files_after before) name → RetainsNew now log later
    next_retained follows t above within image crash =
        let here = name_in_now history 0 before now log settled later name bytes longer next.rising placed next.valid
        (omega (arith, newest)) next.file (inl newest) fresh put.puts in
        let is : t ≡ name.max = omega (arith, above, within, newest, length-line log line) in
        subst (IsRetainedIn image) (sym is)
        (retained_more (files_after now) image name.max
        (in_same (files_after now) image (image_reads now image (as_read now history later next_settled) crash))
        (retained_next (files_after now) name here (follows_now follows)))

pub next_file_carries_on : NextFileCarriesOn
next_file_carries_on history cut before now log line name bytes settled next young puts = (
  next_carries_on history before now log line name bytes settled next puts cut young,
  next_crash_faithful history
      before now log line name bytes settled next puts,
)

pub next_file_settles : NextFileSettles
next_file_settles history before now log line name bytes settled next put = (
  next_settled history before now log line name bytes settled next put,
  next_retained history before now log line
      name bytes settled next put,
)

pub merged_file_carries_on : MergedFileCarriesOn
merged_file_carries_on history cut before now log name bytes settled merged absent puts = (
  put_carries_on history cut before now log settled log name bytes (longer_same log) settled.faithful.files.rising
      settled.faithful.files.placed merged.valid merged.within merged.file (inr refl) absent puts
      (λ t above within. none_new log t above within),
  put_crash_faithful history cut before now log settled log name bytes (longer_same log) settled.faithful.files.rising
      settled.faithful.files.placed merged.valid merged.within merged.file (inr refl) absent puts,
)

pub merged_file_settles : MergedFileSettles
merged_file_settles history before now log name bytes settled merged absent put =
    put_settled history 0 before now log settled log name bytes (longer_same log) settled.faithful.files.rising
    settled.faithful.files.placed merged.valid merged.within merged.file (inr refl) absent put.puts put.stays
