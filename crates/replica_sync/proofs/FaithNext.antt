-- The stored file is the next one of the replica.
use Rattle.std.proofs.Common.{◌≡◌, ℕ, ◌+◌, ◌≤◌, false, List, [], ◌∷◌, ◌++◌, length, Some, Ok, refl, sym, ap, subst, ◌∙◌}
use Rattle.std.proofs.Common.{inl, inr, ⊎_elim, length-append, arith}
use Rattle.std.specs.Prelude.{◌⊎◌, ◌≢◌, IsSome, is_some}
use Rattle.std.specs.List.{AllByRecursion}
use Rattle.crash_disk.specs.declared.event.Event.{Event}
use Rattle.crash_disk.specs.Files.{Files, files_after, file_at}
use Rattle.crash_disk.proofs.NumberLaws.{by_names}
use Rattle.ls_base.specs.declared.line.Line.{Line}
use Rattle.ls_base.specs.History.{History, state_at}
use Rattle.ls_base.specs.State.{State}
use Rattle.ls_base.specs.SyncLog.{SyncLog}
use Rattle.live_gate.specs.LiveRecord.{Database, LiveRecord, Told}
use Rattle.live_gate.specs.Legal.{IsLegal}
use Rattle.live_gate.specs.Step.{IsWriterStep}
use Rattle.live_gate.proofs.StepLemmas.{step_join}
use Rattle.replica_store.specs.declared.dated_names.Dated.{Dated}
use Rattle.replica_store.specs.declared.file_name.FileName.{FileName}
use Rattle.replica_store.specs.Chain.{LeadsBy, MayComeNext}
use Rattle.replica_store.specs.CrashFaithful.{IsSettled}
use Rattle.replica_store.specs.Faithful.{MayFollow, TurnsInto, IsFaithful, IsFaithfulFile}
use Rattle.replica_store.specs.Listing.{path_of, IsFilePath, IsValid, IsIn}
use Rattle.replica_store.specs.PutFiles.{IsNextFile, FollowsRetained}
use Rattle.replica_store.specs.Putting.{Puts}
use Rattle.replica_store.specs.Retained.{IsRetainedIn}
use Rattle.replica_store.proofs.FaithLemmas.{faithful_longer, put_faithful, is_path, is_there, retained_more}
use Rattle.replica_store.proofs.GrowthLemmas.{longer_history_keeps}
use Rattle.replica_store.proofs.PutCarryLemmas.{not_draft}
use Rattle.wal_follow.specs.declared.answer.Found.{Found}
use Rattle.wal_follow.specs.declared.answer.Next.{Next}
use Rattle.wal_follow.specs.declared.answer.Next.TheVariants as next
use Rattle.wal_follow.specs.declared.answer.Wanted.{Wanted}
use Rattle.wal_follow.specs.declared.answer.Wanted.TheVariants.{All, Listed}
use Rattle.wal_follow.specs.declared.following.Following.{Following}
use Rattle.wal_follow.specs.Answers.{Answers, LeadsOn, LosesAtMark, LosesAtRest}
use Rattle.wal_follow.specs.Calls.{target_of}
use Rattle.wal_follow.specs.Following.{Fits}
use Rattle.replica_sync.specs.Faith.{IsPlaceOfNewest, IsFollowed, IsStateSince, EndsSince}
use Rattle.replica_sync.specs.LiveSide.{found_of}
use Rattle.replica_sync.specs.Newest.{next_moment, moment_behind}
use Rattle.replica_sync.specs.Pages.{IsShown}
use Rattle.replica_sync.specs.Storing.{IsNextName, IsFileOfFound}
use Rattle.replica_sync.proofs.FaithLog.{log_rises, newest_is, next_is, next_line, recorded_line}
use Rattle.replica_sync.proofs.FaithPiece.{HasPagesOf}
use Rattle.replica_sync.proofs.FaithSince.{since_later}
use Rattle.replica_sync.proofs.FaithTurns.{piece_turns, piece_is_shown, piece_since, some_before, newest_here, lost}
use Rattle.replica_sync.proofs.FaithTurns.{lost_turns}
use Rattle.replica_sync.proofs.LiveLemmas.{state_stays}
use Rattle.replica_sync.proofs.SyncStoreLemmas.{next_max}

-- ---- a chain with one file more

leads_push : (P : FileName → Type 0) (from : ℕ) (chain : List FileName) (s : ℕ) (name : FileName)
    → LeadsBy P from chain s → P name → MayComeNext s name → LeadsBy P from (chain ++ name ∷ []) name.max
leads_push P from [] s name leads here next = (here, subst (λ (n : ℕ). MayComeNext n name) (sym leads) next, refl)
leads_push P from (first ∷ chain) s name leads here next =
    (leads.0, leads.1, leads_push P first.max chain s name leads.2 here next)

retained_with : (files : Files) (name : FileName) → IsIn files name → FollowsRetained files name
    → IsRetainedIn files name.max
retained_with files name here follows =
    let up : 1 ≤ name.max = omega (arith, follows.next.goes_on) in
    ⊎_elim
    (λ nothing. record {
      positive = up;
      chain = name ∷ [];
      leads = (here, subst (λ (n : ℕ). MayComeNext n name) nothing follows.next, refl);
    })
    (λ is. record {
      positive = up;
      chain = is.chain ++ name ∷ [];
      leads = leads_push (IsIn files) 0 is.chain follows.after name is.leads here follows.next;
    })
    follows.retained

all_push : (P : Line → Type 0) (log : SyncLog) (line : Line) → AllByRecursion P log → P line
    → AllByRecursion P (log ++ line ∷ [])
all_push P [] line all here = (here, tt)
all_push P (first ∷ log) line all here = (all.0, all_push P log line all.1 here)

-- ---- what was found

pub found_case : (f : Following) (old mid : Database) (answer : Next) (found : Found) → found_of answer ≡ Some found
    → Answers f (Ok answer) old mid
    → LeadsOn f found old mid ⊎ ((LosesAtMark f found old mid ⊎ LosesAtRest f found old mid) × (found.wanted ≡ All))
found_case f old mid next.Same found is answers = absurd cc
found_case f old mid (next.Piece g) found is answers =
    let same : g ≡ found = cc in inl (subst (λ (x : Found). LeadsOn f x old mid) same answers.0)
found_case f old mid (next.Lost g) found is answers =
    let same : g ≡ found = cc in
    inr (
      subst (λ (x : Found). LosesAtMark f x old mid ⊎ LosesAtRest f x old mid) same answers.0,
      ap (λ (x : Found). x.wanted) (sym same) ∙ answers.1,
    )

piece_name : (dated : List Dated) (wanted : Wanted) (numbers : List ℕ) (name : FileName) → wanted ≡ Listed numbers
    → IsNextName dated wanted name → name.min ≡ name.max
piece_name dated wanted numbers name listed is =
    let p = subst (λ (w : Wanted). IsNextName dated w name) listed is in p.min ∙ sym p.max

whole_name : (dated : List Dated) (wanted : Wanted) (name : FileName) → wanted ≡ All → IsNextName dated wanted name
    → name.min ≡ 1
whole_name dated wanted name all is = (subst (λ (w : Wanted). IsNextName dated w name) all is).min

-- what a history had it has
module _ (old new : Database) (step : IsWriterStep old new) (files : Files) (log : SyncLog) where
  pub still_faithful : IsFaithful files old.history log → IsFaithful files new.history log
  still_faithful is =
      subst (λ (h : History). IsFaithful files h log) (sym step.history.is)
      (faithful_longer files old.history step.history.rest log is)

pub still_settled : (old new : Database) (step : IsWriterStep old new) (events : List Event) (log : SyncLog)
    → IsSettled events old.history log → IsSettled events new.history log
still_settled old new step events log is =
    subst (λ (h : History). IsSettled events h log) (sym step.history.is)
    ((longer_history_keeps old.history step.history.rest 0 events events log log).1 is)

-- ---- the next file

module _ (f : Following) (dated : List Dated) (now : ℕ) (log : SyncLog) (answer : Next) (found : Found)
    (name : FileName)
    (old mid new : LiveRecord) (live_mid live_new : Told) (told_mid : live_mid ≡ Some mid)
    (told_new : live_new ≡ Some new)
    (before : List Event) (followed : IsFollowed old.database.history before log f.place dated)
    (first : IsWriterStep old.database mid.database) (second : IsWriterStep mid.database new.database)
    (awake : mid.database.stopped ≡ false) (fits : Fits f old.database) (legal : IsLegal old.database)
    (calm : new.database.chances ≡ 0) (is : found_of answer ≡ Some found)
    (answers : Answers f (Ok answer) old.database mid.database) (valid : IsValid name)
    (is_next : IsNextName dated found.wanted name)
    (file : IsFileOfFound found name (next_moment dated now) live_mid live_new) where
  abbrev pub line : Line
  line = record { place = found.place; moment = next_moment dated now }

  abbrev pub later : SyncLog
  later = log ++ line ∷ []

  abbrev files : Files
  files = files_after before

  pub last : name.max ≡ length log + 1
  last =
      next_max dated found.wanted name is_next
      ∙ ap (λ (n : ℕ). n + 1)
      (newest_is files old.database.history log followed.faithful dated followed.listed followed.moments)

  pub moment_is : next_moment dated now ≡ moment_behind log now
  moment_is = next_is files old.database.history log followed.faithful dated followed.listed followed.moments now

  pub newest : name.max ≡ length later
  newest = last ∙ sym (length-append log (line ∷ []))

  pub has : (s : State) → IsShown (target_of found) mid.database s → HasPagesOf found file.change s
  has s shown = record {
    size = file.change_size;
    commit = file.change_commit;
    numbers = file.numbers;
    pages = file.shows.each mid new told_mid told_new (first.legal legal) calm s shown;
  }

  -- what the cases of what was found give
  pub record Fitting : Type 0 where
    pub turns : (t : ℕ) → MayFollow name.min name.max t → TurnsInto new.database.history later file.change t name.max
    pub whole : name.min ≡ 1 → found.wanted ≡ All
    pub state : State
    pub shown : IsShown (target_of found) mid.database state
    pub since : IsStateSince old.database.history mid.database.history state
    pub follows : FollowsRetained files name

  fitting : LeadsOn f found old.database mid.database
      ⊎ ((LosesAtMark f found old.database mid.database ⊎ LosesAtRest f found old.database mid.database)
      × (found.wanted ≡ All))
      → Fitting
  fitting (inl on) =
      let min : name.min ≡ length log + 1 = piece_name dated found.wanted on.numbers name on.listed is_next ∙ last in
      let some = some_before f found log line refl file.change old.database mid.database new.database first second awake
      fits
      legal calm has files followed.newest on in
      record {
        turns = λ t follows. piece_turns f found log line refl file.change old.database mid.database new.database first
            second awake fits legal calm has files followed.newest on name.min name.max t min last follows;
        whole = λ one. absurd (omega (arith, one, min, some));
        state = _;
        shown = piece_is_shown f found log line refl file.change old.database mid.database new.database first second
            awake
            fits legal calm has files followed.newest on;
        since = piece_since f found log line refl file.change old.database mid.database new.database first second awake
            fits legal calm has files followed.newest on;
        follows = record {
          after = length log;
          retained = inr (newest_here f found log line refl file.change old.database mid.database new.database first
              second
              awake fits legal calm has files followed.newest on).0;
          next = record { begins = omega (arith, min); goes_on = omega (arith, last) };
        };
      }
  fitting (inr (loses, all)) =
      let min = whole_name dated found.wanted name all is_next in
      let l = lost f found log line refl file.change old.database mid.database new.database first second awake
      fits legal calm has loses in
      record {
        turns = λ t follows. lost_turns f found log line refl file.change old.database mid.database new.database first
            second awake fits legal calm has loses all name.min name.max t min last follows;
        whole = λ one. all;
        state = l.state;
        shown = l.shown;
        since = l.since;
        follows = record {
          after = 0;
          retained = inl refl;
          next = record { begins = omega (arith, min); goes_on = omega (arith, last) };
        };
      }

  pub fit : Fitting
  fit = fitting (found_case f old.database mid.database answer found is answers)

  faithful_file : IsFaithfulFile new.database.history later name.min name.max file.bytes
  faithful_file = record {
    header = file.header;
    change = file.change;
    file = file.file fit.whole;
    line = next_line log line name.max last
        ∙ ap (λ (p : _). Some (record { place = p; moment = next_moment dated now })) (sym file.place)
        ∙ ap (λ (m : ℕ). Some (record { place = file.header.place; moment = m })) (sym file.dated);
    leads = fit.turns;
  }

  placed : IsSome (state_at new.database.history found.place)
  placed = ap is_some (state_stays mid.database new.database found.place fit.state second fit.shown.recorded)

  pub next_file : IsNextFile new.database.history log line name file.bytes
  next_file = record {
    valid = valid;
    last = last;
    rising = log_rises log now line followed.faithful.rising (omega (arith, moment_is));
    placed = placed;
    file = faithful_file;
  }

  -- the newest transaction is such a state
  pub ends : EndsSince old.database.history new.database.history later
  ends = record {
    state = fit.state;
    recorded = recorded_line new.database.history later (length later) line
        (next_line log line (length later) (length-append log (line ∷ [])))
        ∙ state_stays mid.database new.database found.place fit.state second fit.shown.recorded;
    since = since_later old.database.history mid.database.history new.database.history second.history.rest fit.state
        second.history.is fit.since;
  }

  pub follows_retained : FollowsRetained files name
  follows_retained = fit.follows

  -- ---- once it is put

  step : IsWriterStep old.database new.database
  step = step_join old.database mid.database new.database first second

  module _ (current : List Event) (puts : Puts (path_of name) file.bytes before current) where
    elsewhere : (q : List ℕ) → IsFilePath q → q ≢ path_of name → file_at current q ≡ file_at before q
    elsewhere q path other = puts.others q other (not_draft q (path_of name) path (is_path name valid))

    still_in : (other : FileName) → IsIn files other → IsIn (files_after current) other
    still_in other there = by_names (path_of other) (path_of name)
        (λ same. record {
          valid = there.valid;
          there = is_there (file_at current (path_of other)) file.bytes (ap (file_at current) same ∙ puts.file);
        })
        (λ apart. record {
          valid = there.valid;
          there = ap is_some (elsewhere (path_of other) (is_path other there.valid) apart) ∙ there.there;
        })

    pub read_now : IsFaithful (files_after current) new.database.history later
    read_now =
        put_faithful files (files_after current) new.database.history log later name file.bytes
        (still_faithful old.database new.database step files log followed.faithful)
        (record { more = line ∷ []; is = refl })
        next_file.rising
        (all_push (λ l. IsSome (state_at new.database.history l.place)) log line
        (still_faithful old.database new.database step files log followed.faithful).placed placed)
        valid (omega (arith, newest)) faithful_file (inl newest) puts.file elsewhere

    pub newest_now : IsPlaceOfNewest (files_after current) later (Some found.place)
    newest_now = (
      subst (IsRetainedIn (files_after current)) newest
          (retained_with (files_after current) name
          (record { valid = valid; there = is_there (file_at current (path_of name)) file.bytes puts.file })
          (record {
            after = follows_retained.after;
            retained = ⊎_elim (λ none. inl none)
                (λ kept. inr (retained_more files (files_after current) follows_retained.after still_in kept))
                follows_retained.retained;
            next = follows_retained.next;
          })),
      (line, next_line log line (length later) (length-append log (line ∷ [])), refl),
    )
