-- When a replication is Done.
use Rattle.std.proofs.Common.{◌≡◌, ℕ, ◌+◌, ◌≤◌, List, [], ◌∷◌, length, true, false, Option, Some, None}
use Rattle.std.proofs.Common.{refl, sym, ap, subst, ◌∙◌, length-append, inl, inr, arith}
use Rattle.crash_disk.specs.declared.event.Event.{Event}
use Rattle.db_page.specs.DatabaseHeader.{IsWalDatabase, IsFirstFault, page_size_of}
use Rattle.ls_base.specs.PageSize.{IsPageSize}
use Rattle.db_page.specs.declared.fault.HeaderFault.{HeaderFault}
use Rattle.db_page.specs.declared.fault.HeaderFault.TheVariants.{Short, NotDatabase, BadPageSize, NotWalMode}
use Rattle.ls_base.specs.SyncLog.{SyncLog}
use Rattle.live_gate.specs.LiveRecord.{LiveRecord}
use Rattle.replica_store.specs.declared.file_name.FileName.{FileName}
use Rattle.replica_store.specs.CrashFaithful.{IsCrashFaithful}
use Rattle.round_line.specs.declared.round.Round.{Round}
use Rattle.round_line.specs.RoundText.{name_in}
use Rattle.replica_runs.specs.Rounds.{AddsLineOf, RecordsRounds}
use Rattle.ls_answers.specs.declared.outcome.Why.{Why}
use Rattle.ls_answers.specs.declared.outcome.Why.TheVariants.{Done, SkippedOutput, SkippedReplica, NotBuilt, Usage}
use Rattle.ls_answers.specs.declared.outcome.Why.TheVariants.{NoReplica, MissingRange, NoMoment, Damaged, PageMissing}
use Rattle.ls_answers.specs.declared.outcome.Why.TheVariants.{OutputExists, StoreFault, TargetFault, SinkFault, Memory}
use Rattle.ls_answers.specs.declared.outcome.Why.TheVariants.{NoDatabase, Header, SizesDiffer, WalTooLong, TooLarge}
use Rattle.ls_answers.specs.declared.outcome.Why.TheVariants.{GateBroken, TxidSpent, LiveFault}
use Rattle.replicate_command.specs.Answers.{Explains}
use Rattle.replicate_command.specs.Exact.{Answers, IsAllCalm, MayReplicate, BlamesNoFile}
use Rattle.replicate_command.specs.Promise.{AreEnough, KeepsFaith, ending_of}
use Rattle.replicate_command.specs.Seen.{Seen}

-- ---- the header

good_header : (bytes : List ℕ) (fault : HeaderFault) → IsWalDatabase bytes → IsFirstFault bytes fault → ⊥
good_header bytes (Short n) is bad = absurd (omega (arith, is.whole, bad.0))
good_header bytes NotDatabase is bad = bad.1 is.string
good_header bytes (BadPageSize field) is bad =
    bad.3 (subst (λ (n : ℕ). IsPageSize (page_size_of n)) (sym bad.2) is.size)
good_header bytes (NotWalMode write read) is bad = bad.5 is.mode

-- ---- each round records one line at most

adds_one : (name : Option FileName) (log later : SyncLog) → AddsLineOf name log later → length later ≤ length log + 1
adds_one None log later is =
    let same : length later ≡ length log = ap (λ (l : SyncLog). length l) is in omega (arith, same)
adds_one (Some name) log later is =
    let more : length later ≡ length log + 1
    = ap (λ (l : SyncLog). length l) is.1 ∙ length-append log (is.0 ∷ []) in omega (arith, more)

records_many : (rounds : List Round) (log later : SyncLog) → RecordsRounds rounds log later
    → length later ≤ length log + length rounds
records_many [] log later is =
    let same : length later ≡ length log = ap (λ (l : SyncLog). length l) is in omega (arith, same)
records_many (round ∷ rounds) log later is =
    let one = adds_one (name_in round.sync) log is.0 is.1 in
    let more = records_many rounds is.0 later is.2 in
    omega (arith, one, more)

-- ---- nothing refuses

module _ (seen : Seen) (rounds : List Round) (old new : LiveRecord) (before now : List Event)
    (is_old : seen.live ≡ Some old) (is_new : seen.live_after ≡ Some new) (is_before : seen.store ≡ Some before)
    (is_now : seen.store_after ≡ Some now) (log : SyncLog) (calm : new.database.chances ≡ 0)
    (faithful : IsCrashFaithful before old.database.history log) (there : seen.is_there ≡ true) (quiet : IsAllCalm seen)
    (may : MayReplicate seen.asked old new log) where
  pub done_then : (why : Why) → Explains seen why → AreEnough (ending_of why) seen.asked.rounds rounds
      → KeepsFaith seen (ending_of why) rounds → BlamesNoFile why → Answers why Done
  done_then Done explained enough faith blames = inl refl
  done_then Memory explained enough faith blames = inr refl
  done_then NoDatabase explained enough faith blames =
      let both : true ≡ false = sym there ∙ explained old is_old in absurd cc
  done_then (Header fault) explained enough faith blames =
      absurd (good_header may.bytes fault may.header (explained new is_new may.bytes may.gave))
  done_then (SizesDiffer db wal) explained enough faith blames =
      absurd (may.one_size db wal (explained.1 old new is_old is_new calm))
  done_then (WalTooLong size) explained enough faith blames =
      let given = explained new is_new may.size may.said in absurd (omega (arith, given.1, may.short))
  done_then (TooLarge size) explained enough faith blames =
      absurd (may.small size (explained old new is_old is_new calm))
  done_then (GateBroken how) explained enough faith blames = absurd ((explained new is_new).1 calm)
  done_then (Damaged name damage) explained enough faith blames =
      absurd (blames.damaged name damage refl)
  done_then TxidSpent explained enough faith blames =
      let spent = faith old new before now is_old is_new is_before is_now log calm faithful in
      let many = records_many rounds log spent.refused.ended spent.refused.records in
      absurd (omega (arith, enough, many, spent.last, may.numbers))
  done_then LiveFault explained enough faith blames = absurd (quiet.live explained)
  done_then StoreFault explained enough faith blames = absurd (quiet.store explained)
  done_then SinkFault explained enough faith blames = absurd (quiet.sink explained)
  done_then SkippedOutput explained enough faith blames = absurd explained
  done_then SkippedReplica explained enough faith blames = absurd explained
  done_then NotBuilt explained enough faith blames = absurd explained
  done_then (Usage usage) explained enough faith blames = absurd explained
  done_then NoReplica explained enough faith blames = absurd explained
  done_then (MissingRange after) explained enough faith blames = absurd explained
  done_then NoMoment explained enough faith blames = absurd explained
  done_then (PageMissing name number) explained enough faith blames = absurd (blames.lacking name number refl)
  done_then (OutputExists size) explained enough faith blames = absurd explained
  done_then TargetFault explained enough faith blames = absurd explained
